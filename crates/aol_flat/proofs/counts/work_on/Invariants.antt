use Rattle.std.proofs.Common.{◌≡◌, ◌*◌, sum_by, take}
use Rattle.aol_shape.specs.Shape.{size}
use Rattle.aol_expr_tree.specs.Tree.{work}
use Rattle.aol_model_types.specs.declared.task.OutPort.{OutPort}
use Rattle.aol_flat.specs.Saturated.{saturated}
use Rattle.aol_flat.proofs.counts.work_on.Given as goal

abbrev pub invariant-loop-out : goal.invariant-loop-out
invariant-loop-out l = l.sum ≡ saturated (sum_by (λ (x : OutPort). size x.port.shape * work x.expr) (take l.out-index l.outs))
