use Rattle.std.proofs.Common.{◌≡◌, length, map, take}
use Rattle.aol_flat.specs.InstanceValue.{first_fault, number_of}
use Rattle.aol_level.specs.Puts.{value_held}
use Rattle.aol_level.proofs.outputs.take_inputs.Given as goal

abbrev pub invariant-loop-place : goal.invariant-loop-place
invariant-loop-place l = record {
  many : length l.nums ≡ length l.fn.nums;
  fault : l.fault ≡ first_fault (map (value_held l.rest.cells) (take l.place l.reads));
  nums : take l.place l.nums ≡ map number_of (map (value_held l.rest.cells) (take l.place l.reads));
}
