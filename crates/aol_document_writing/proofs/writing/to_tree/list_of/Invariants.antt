use Rattle.std.proofs.Common.{◌≡◌, take, map}
use Rattle.std.specs.List.{AllByRecursion}
use Rattle.serde_json.specs.View.{view}
use Rattle.aol_model_types.specs.Trees.{IsWritten}
use Rattle.aol_document_writing.proofs.writing.to_tree.list_of.Given as goal

abbrev pub invariant-loop-item : goal.invariant-loop-item
invariant-loop-item g l = record {
  trees : map view l.trees.items ≡ map g.T.ToTree.tree (take l.item-index l.items);
  written : AllByRecursion IsWritten (map view l.trees.items);
}
