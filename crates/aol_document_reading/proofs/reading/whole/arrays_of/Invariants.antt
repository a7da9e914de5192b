use Rattle.std.proofs.Common.{◌≡◌, ◌+◌, length}
use Rattle.std.specs.List.{AllByRecursion}
use Rattle.aol_model_types.specs.Types.{IsInputArray}
use Rattle.aol_document_reading.specs.Trails.{steps_of}
use Rattle.aol_document_reading.proofs.Elements.{arrays_from}
use Rattle.aol_model_types.specs.Reading.{inputs_from, members_list}
use Rattle.serde_json.specs.View.{members_view}
use Rattle.aol_document_reading.proofs.reading.whole.arrays_of.Given as goal

abbrev pub invariant-loop-name : goal.invariant-loop-name
invariant-loop-name l = record {
  count : length l.arrays + length l.name-iterator ≡ length l.members.entries;
  read : arrays_from (steps_of l.at) l.arrays l.name-iterator ≡ inputs_from (steps_of l.at) 0 (members_list (members_view l.members.entries));
  types : AllByRecursion IsInputArray l.arrays;
}
