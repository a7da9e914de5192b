use Rattle.aol_eval.proofs.Plans.{run-resolved}
use Rattle.aol_eval.proofs.resolution.Resolved.of.Goals as goal

pub returns : goal.returns
returns c nums at = rw c.in_ok-root.ensures (run-resolved (record { ins = c.args.ins.now; nums = nums; at = at }) c.args.e.now)
