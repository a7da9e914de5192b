use Rattle.aol_document_laws.proofs.ReadTrees.{read_tree}
use Rattle.aol_document_laws.proofs.whole.read_trees_are_held.Goals as goal

pub returns : goal.returns
returns c = read_tree
