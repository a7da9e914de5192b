use Rattle.std.proofs.Common.{◌≡◌, ◌++◌, drop, map}
use Rattle.std.specs.Option.{option_copied}
use Rattle.aol_model_types.specs.declared.task.TilerOn.{TilerOn}
use Rattle.aol_change.specs.Blocks.{tiler_over}
use Rattle.aol_change.proofs.blocks.push_tilers.Given as goal

abbrev pub invariant-loop-tiler : goal.invariant-loop-tiler
invariant-loop-tiler l =
    let change : TilerOn → TilerOn = λ o. tiler_over (option_copied l.inner) l.block o.inner in
    l.initial.made ++ map change l.tilers ≡ l.made ++ map change (drop l.tiler-index l.tilers)
