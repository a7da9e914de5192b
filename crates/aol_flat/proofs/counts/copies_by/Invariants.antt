use Rattle.std.proofs.Common.{◌≡◌, ◌*◌, sum_by, take}
use Rattle.aol_shape.specs.Shape.{size}
use Rattle.aol_model_types.specs.declared.task.Copied.{Copied}
use Rattle.aol_flat.specs.Saturated.{saturated}
use Rattle.aol_flat.proofs.counts.copies_by.Given as goal

abbrev pub invariant-loop-reshape : goal.invariant-loop-reshape
invariant-loop-reshape l = l.sum ≡ saturated (sum_by (λ (x : Copied). size x.by.space * size x.by.pattern) (take l.reshape-index l.reshapes))
