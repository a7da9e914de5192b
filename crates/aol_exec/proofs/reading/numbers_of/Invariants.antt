use Rattle.std.proofs.Common.{◌≡◌, [], map}
use Rattle.serde_json.specs.View.{view}
use Rattle.aol_model_types.specs.declared.place.Key.TheVariants.{KMemory}
use Rattle.aol_model_types.specs.Places.{to_key}
use Rattle.aol_model_types.specs.Reading.{elements, integer_at}
use Rattle.aol_exec.proofs.Walks.{numbers_from}
use Rattle.aol_exec.proofs.reading.numbers_of.Given as goal

abbrev pub invariant-loop-i : goal.invariant-loop-i
invariant-loop-i l = numbers_from l.trees l.numbers l.i ≡ elements integer_at (to_key [] KMemory) 0 (map view l.trees)
