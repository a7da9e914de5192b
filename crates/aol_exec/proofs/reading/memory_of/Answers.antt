use Rattle.std.proofs.Common.{◌≡◌, Some}
use Rattle.serde_json.specs.Find.{as_array}
use Rattle.serde_json.specs.View.{view, items_view}
use Rattle.aol_exec.proofs.Walks.{memory_read}
use Rattle.aol_exec.proofs.reading.memory_of.Goals as goal

pub returns : goal.returns
returns c =
    let list : Some (items_view c.as_slice.result.now) ≡ as_array (view c.in_ok-member_of.field-0.now) = rw c.as_slice.ensures.value c.in-Some.ensures in
    memory_read (view c.args.tree.now) (view c.in_ok-member_of.field-0.now) c.as_slice.result.now c.numbers_of.result c.in_ok-member_of.ensures list c.numbers_of.ensures
