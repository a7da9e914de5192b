-- The ports and ranks of what a leaf's instances read.
use Rattle.std.proofs.Common.{◌≡◌, ℕ, ◌+◌, ◌<◌, ◌^◌, List, [], ◌∷◌, length, get_or, Some, sym, ◌∙◌, ap}
use Rattle.aol_model_types.specs.declared.document.Model.{Model}
use Rattle.aol_model_types.specs.declared.task.Task.{Task}
use Rattle.aol_model_types.specs.Rules.{inputs_of}
use Rattle.aol_flat.specs.Instance.{port_sizes, places_of_sizes}
use Rattle.aol_flat.specs.Leaves.{kind_of, IsLeafRow}
use Rattle.aol_flat.specs.Accept.{IsSound}
use Rattle.aol_flat.specs.declared.leaf.Leaf.{Leaf as LeafRow}
use Rattle.aol_flat.specs.declared.leaf.LeafKind.TheVariants as kinds
use Rattle.aol_flat.proofs.Among.{among_get}
use Rattle.aol_assign.proofs.Fitting.{limits_of}
use Rattle.aol_equiv.specs.Compared.{HasReadSpots}
use Rattle.aol_equiv.proofs.MainLeads.{inputs_few}
use Rattle.aol_equiv.proofs.RowKinds.{task_within, run_read_spots, copy_read_spots}

module _ (m : Model) (sound : IsSound m) (k : ℕ) (row : LeafRow) (is : IsLeafRow m k row) where
  -- one leaf has one kind
  one_kind : (other : LeafRow) → IsLeafRow m k other → other.kind ≡ row.kind
  one_kind other o =
      let both : Some o.leaf ≡ Some is.leaf = sym o.at ∙ is.at in
      let one : o.leaf ≡ is.leaf = cc in
      o.kind ∙ (ap (kind_of m) one ∙ sym is.kind)

  module _ (t : ℕ) (kind : row.kind ≡ kinds.Elementary t) (u : Task) (at : u ≡ get_or m.tasks t u) where
    pub few : length (inputs_of u) < 2 ^ 32
    few = inputs_few u (limits_of m sound t u (among_get m.tasks t u (task_within m sound k row is t kind) at))

    pub run_spots_read : (spots : List (ℕ × ℕ)) → spots ≡ places_of_sizes 0 (port_sizes (inputs_of u)) → (other : LeafRow) (n : ℕ) → IsLeafRow m k other → n < other.count → HasReadSpots m (other.base + n) spots
    run_spots_read spots are other n o lt i at_i = run_read_spots m sound k other o n lt i at_i t (one_kind other o ∙ kind) u at spots are

  pub copy_spots_read : row.kind ≡ kinds.Copy → (spots : List (ℕ × ℕ)) → spots ≡ (0, 0) ∷ [] → (other : LeafRow) (n : ℕ) → IsLeafRow m k other → n < other.count → HasReadSpots m (other.base + n) spots
  copy_spots_read kind spots are other n o lt i at_i = copy_read_spots m sound k other o n lt i at_i (one_kind other o ∙ kind) spots are
