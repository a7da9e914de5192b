use Rattle.serde_json.specs.View.{view}
use Rattle.aol_document.proofs.ReadTrees.{read_tree}
use Rattle.aol_tables_model.proofs.writing.written.Goals as goal

-- what a text reads as is a tree, and so the document is readable
pub value_of-requires : goal.value_of-requires
value_of-requires c = c.in-Ok.ensures.readable (read_tree c.args.text.now (view c.in_ok-tree.tree) c.in_ok-tree.ensures.ok)
