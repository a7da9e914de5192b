-- The leaves of the hierarchy as rows with the numbers of their instances.
use Rattle.std.specs.Prelude.{◌≡◌, ℕ, ◌+◌, ◌-◌, ◌^◌, min, List, [], ◌∷◌, take, slice_get, Some, unwrap_or, option_and_then}
use Rattle.aol_shape.specs.Shape.{size}
use Rattle.aol_model_types.specs.declared.document.Model.{Model}
use Rattle.aol_model_types.specs.Rules.{task_name}
use Rattle.aol_flat.specs.declared.leaf.Leaf.{Leaf as LeafRow}
use Rattle.aol_flat.specs.declared.leaf.LeafKind.{LeafKind}
use Rattle.aol_flat.specs.declared.leaf.LeafKind.TheVariants as kinds
use Rattle.aol_flat.specs.Node.{node_task}
use Rattle.aol_flat.specs.Instance.{Leaf, Computes, Copies, leaves, leaf_path}
use Rattle.aol_flat.specs.Numbered.{number_named}

-- what a leaf does, with the place of its task in the task list
abbrev pub kind_of : Model → Leaf → LeafKind
kind_of m l =
    elim l.work [
      | Computes ↦ kinds.Elementary (unwrap_or (option_and_then (λ t. number_named m.tasks (task_name t)) (node_task m l.node)) 0)
      | Copies k n ↦ kinds.Copy
    ]

-- a number, or the greatest u32 where it is more
abbrev pub narrowed : ℕ → ℕ
narrowed n = min n (2 ^ 32 - 1)

-- the row of a leaf after so many instances
abbrev pub row_of : Model → ℕ → Leaf → LeafRow
row_of m before l = record { path = leaf_path m l; space = l.space; base = narrowed before; count = narrowed (size l.space); kind = kind_of m l }

-- the rows of some leaves after so many instances
abbrev pub rows_after : Model → ℕ → List Leaf → List LeafRow
rows_after m before [] = []
rows_after m before (l ∷ ls) = row_of m before l ∷ rows_after m (before + size l.space) ls

-- how many instances some leaves have
abbrev pub instances_of : List Leaf → ℕ
instances_of [] = 0
instances_of (l ∷ ls) = size l.space + instances_of ls

-- the row of the k-th leaf of a model
pub record IsLeafRow (m : Model) (k : ℕ) (row : LeafRow) : Type 0 where
  pub leaf : Leaf
  pub at : slice_get (leaves m) k ≡ Some leaf
  pub path : row.path ≡ leaf_path m leaf
  pub space : row.space ≡ leaf.space
  pub base : row.base ≡ instances_of (take k (leaves m))
  pub count : row.count ≡ size leaf.space
  pub kind : row.kind ≡ kind_of m leaf
