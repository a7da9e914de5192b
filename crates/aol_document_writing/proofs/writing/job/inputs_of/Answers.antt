use Rattle.std.proofs.Common.{◌≡◌, [], ◌∷◌, ◌++◌, map, refl, ap, ◌∙◌}
use Rattle.serde_json.specs.Data.{object}
use Rattle.serde_json.specs.View.{view, members_view}
use Rattle.serde_json.proofs.Views.{view-Object}
use Rattle.aol_model_types.specs.Writing.{input_member, members_from}
use Rattle.aol_document_writing.proofs.Written.{all_left, next_left, none_left, none_written, more_written}
use Rattle.aol_document_writing.proofs.writing.job.inputs_of.Goals as goal

pub loop-array-init : goal.loop-array-init
loop-array-init c =
    let none = ap members_view c.new-object.ensures.empty in
    record { tree = all_left input_member c.args.arrays.now c.args.arrays.now (members_view c.new-object.result.entries) refl none; written = none_written _ none }

pub loop-array-preserved : goal.loop-array-preserved
loop-array-preserved c =
    let split : c.loop-array.left.now ≡ c.in-Some.before.now ++ c.in-Some.array.now ∷ [] = c.in-Some.ensures.cases.0 in
    record {
      tree = next_left input_member c.loop-array.left.now c.in-Some.before.now c.in-Some.array.now c.as_str.result.now (view c.in_ok-nums.nums) (members_view c.loop-array.object.entries) (members_view c.put.new.map.entries) (members_from (map input_member c.args.arrays.now))
          split c.as_str.ensures c.in_ok-nums.ensures.tree c.in_ok-put.ensures.ok c.loop-array.invariant.tree;
      written = more_written c.as_str.result.now (view c.in_ok-nums.nums) _ _ c.in_ok-put.ensures.ok c.in_ok-nums.ensures.written c.loop-array.invariant.written;
    }

pub returns-clause-tree : goal.returns-clause-tree
returns-clause-tree c =
    view-Object c.loop-array.object ∙ ap object (none_left input_member c.loop-array.left.now (members_view c.loop-array.object.entries) (members_from (map input_member c.args.arrays.now)) c.in_default.ensures.cases c.loop-array.invariant.tree)
