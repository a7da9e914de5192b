use Rattle.std.proofs.Common.{rules}
use Rattle.aol_io.proofs.Given.{gives_next}
use Rattle.aol_io.proofs.memory.copy_next.Goals as goal

pub returns-clause-next : goal.returns-clause-next
returns-clause-next c = gives_next c.args.bytes.now c.args.into.now c.copy_from_slice.new.self c.args.at c.args.piece c.min-n.result c.requires.within c.requires.moves (search rules) c.copy_from_slice.ensures.after
