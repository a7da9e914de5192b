use Rattle.std.proofs.Common.{◌≡◌, ℕ, List, Option, take, flat_map, true}
use Rattle.std.specs.List.{AllByRecursion}
use Rattle.aol_model_types.specs.Rules.{same_part}
use Rattle.aol_flat.specs.Targets.{reshape_writings}
use Rattle.aol_assign.specs.declared.targets.Numbered.{Numbered}
use Rattle.aol_assign.specs.Pairs.{FitsIn, all_writings}
use Rattle.aol_assign.specs.Found.{numbered}
use Rattle.aol_assign.proofs.targets.targets_on.Given as goal

abbrev pub invariant-loop-numbered : goal.invariant-loop-numbered
invariant-loop-numbered l = record {
  same : (part : Option (List ℕ)) → AllByRecursion (λ (n : Numbered). same_part n.reshape.now.to.part part ≡ true) l.into
      → all_writings l.port.shape l.members.items ≡ flat_map (reshape_writings part l.port) (numbered (take l.numbered-index l.into));
  fit : AllByRecursion (FitsIn l.port.shape) l.members.items;
}
