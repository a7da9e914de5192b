use Rattle.std.proofs.Common.{◌≡◌, map, length}
use Rattle.serde_json.specs.View.{members_view}
use Rattle.aol_model_types.specs.Writing.{input_member, members_from}
use Rattle.aol_document_writing.specs.Written.{AreWritten}
use Rattle.aol_document_writing.proofs.Written.{members_before}
use Rattle.aol_document_writing.proofs.writing.job.inputs_of.Given as goal

abbrev pub invariant-loop-array : goal.invariant-loop-array
invariant-loop-array l = record {
  tree : members_before (map input_member l.left) (members_view l.object.entries) ≡ members_from (map input_member l.arrays);
  written : AreWritten (members_view l.object.entries);
}

abbrev pub decreases-loop-array : goal.decreases-loop-array
decreases-loop-array l = length l.left
