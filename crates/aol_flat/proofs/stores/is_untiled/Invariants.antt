use Rattle.std.proofs.Common.{◌≡◌, is_none, find, drop}
use Rattle.aol_shape.specs.Lists.{same}
use Rattle.aol_model_types.specs.declared.task.TilerOn.{TilerOn}
use Rattle.aol_flat.specs.Home.{tiler_at}
use Rattle.aol_flat.proofs.stores.is_untiled.Given as goal

abbrev pub invariant-loop-tiler : goal.invariant-loop-tiler
invariant-loop-tiler l = is_none (tiler_at l.task l.inner) ≡ is_none (find (λ (o : TilerOn). same o.inner l.inner) (drop l.tiler-index l.task.tilers))
