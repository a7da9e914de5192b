use Rattle.std.proofs.Common.{◌≡◌, sum_by, take}
use Rattle.aol_shape.specs.Shape.{size}
use Rattle.aol_expr_tree.specs.declared.port.Port.{Port}
use Rattle.aol_flat.specs.Saturated.{saturated}
use Rattle.aol_flat.proofs.counts.elements_at.Given as goal

abbrev pub invariant-loop-port : goal.invariant-loop-port
invariant-loop-port l = l.sum ≡ saturated (sum_by (λ (x : Port). size x.shape) (take l.port-index l.ports))
