-- What the JSON reader gives is a tree, handed on.
use Rattle.std.proofs.Common.{◌≡◌, ℕ, List, true, Some}
use Rattle.serde_json.specs.Data.{Data}
use Rattle.serde_json.specs.Read.{read}
use Rattle.aol_model_types.specs.Trees.{is_tree}
use Rattle.aol_document_laws.proofs.ReadTrees as trees

pub read_tree : (text : List ℕ) (d : Data) → read text ≡ Some d → is_tree d ≡ true
read_tree = trees.read_tree
