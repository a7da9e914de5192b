use Rattle.std.proofs.Common.{arith}
use Rattle.aol_csyn.specs.Text.{vars_text}
use Rattle.aol_csyn.proofs.Written.{vars_none, vars_more, vars_end}
use Rattle.aol_csyn.proofs.writing.put_vars.Goals as goal

pub loop-k-init : goal.loop-k-init
loop-k-init g c = vars_none _ c.args.vars

pub loop-k-preserved : goal.loop-k-preserved
loop-k-preserved g c = vars_more _ _ _ c.loop-k.k c.args.vars (vars_text 0 c.args.vars) c.loop-k-test.true c.loop-k.invariant c.put_var.ensures

pub returns : goal.returns
returns g c = vars_end _ _ c.loop-k.k c.args.vars (vars_text 0 c.args.vars) (omega arith) c.loop-k.invariant
