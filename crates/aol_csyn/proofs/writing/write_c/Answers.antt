use Rattle.aol_csyn.proofs.Written.{failed_prefix, failed_cause, ended_all, ended_cause}
use Rattle.aol_csyn.proofs.writing.write_c.Goals as goal

pub returns-then-failed-clause-prefix : goal.returns-then-failed-clause-prefix
returns-then-failed-clause-prefix g c = failed_prefix c.put_program.ensures c.if-failed.true

pub returns-then-failed-clause-cause : goal.returns-then-failed-clause-cause
returns-then-failed-clause-cause g c = failed_cause c.put_program.ensures c.if-failed.true

pub returns-else-failed-clause-all : goal.returns-else-failed-clause-all
returns-else-failed-clause-all g c = ended_all c.put_program.ensures c.if-failed.false

pub returns-else-failed-clause-cause : goal.returns-else-failed-clause-cause
returns-else-failed-clause-cause g c = ended_cause c.put_program.ensures c.if-failed.false
