use Rattle.std.proofs.Common.{◌≡◌, take}
use Rattle.aol_cread.specs.States.{is_held}
use Rattle.aol_cread.specs.Stored.{frames_of}
use Rattle.aol_cread.proofs.building.is_held.Given as goal

abbrev pub invariant-loop-block : goal.invariant-loop-block
invariant-loop-block l = is_held l.k (frames_of (take l.block-index l.blocks)) ≡ l.held
