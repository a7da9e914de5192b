-- The elements of a node's ports by numbers: their instance, their side and their shape.
use Rattle.std.proofs.Common.{◌≡◌, ℕ, List, ◌++◌, Some, is_some, slice_get, sym, ◌∙◌, ap, subst}
use Rattle.aol_shape.specs.Shape.{IsPointOf}
use Rattle.aol_expr_tree.specs.declared.port.Port.{Port}
use Rattle.aol_model_types.specs.declared.document.Model.{Model}
use Rattle.aol_model_types.specs.declared.task.Task.{Task}
use Rattle.aol_model_types.specs.Rules.{inputs_of, outputs_of, port_shape}
use Rattle.aol_flat.specs.Accept.{IsSound}
use Rattle.aol_flat.specs.Follow.{IsElementOf, element_on}
use Rattle.aol_flat.specs.Home.{home_of}
use Rattle.aol_flat.specs.Laid.{Laid, IsCellOf, IsReadOf}
use Rattle.aol_flat.specs.declared.view.Read.{Read}
use Rattle.aol_flat.specs.declared.view.Read.TheVariants.{Cell, Const}
use Rattle.aol_flat.specs.Node.{Node, space_around, place_on}
use Rattle.aol_flat.specs.NodeTable.{IsNode}
use Rattle.aol_flat.specs.Place.{Element}
use Rattle.aol_flat.specs.Wired.{IsInput, IsOutput}
use Rattle.aol_flat.proofs.Among.{get_among}
use Rattle.aol_flat.proofs.Checked.{IsTaskOf, sides_apart}
use Rattle.aol_flat.proofs.HasShape.{HasShape, input_shaped, output_shaped}
use Rattle.aol_flat.proofs.LinkSides.{input_there, output_there}
use Rattle.aol_flat.proofs.NodeAt.{task_known, task_there_on}
use Rattle.aol_flat.proofs.Shapes.{input_own, output_own, shape_left, shape_right}

-- elements of one home have one cell, and one reading
pub cell_moves : (f : Laid) (e next : Element) (cell : ℕ) → home_of f.model e ≡ home_of f.model next → IsCellOf f next cell → IsCellOf f e cell
cell_moves f e next cell h c = record { home = c.home; is_home = h ∙ c.is_home; at_cell = c.at_cell }

pub read_moves : (f : Laid) (e next : Element) (read : Read) → home_of f.model e ≡ home_of f.model next → IsReadOf f next read → IsReadOf f e read
read_moves f e next (Cell cell) h c = cell_moves f e next cell h c
read_moves f e next (Const n) h c = h ∙ c

module _ (m : Model) (sound : IsSound m) (number : ℕ) (node : Node) (t : Task) (at : List ℕ) (here : IsNode m number node t) (around : IsPointOf (space_around node) at) (k : ℕ) (p : Port) where
  checks : IsTaskOf m t
  checks = task_known m sound number node t here

  -- the k-th input
  module _ (listed : slice_get (inputs_of t) k ≡ Some p) where
    pub own_input : port_shape (inputs_of t) p.name ≡ Some p.shape
    own_input = input_own checks.before checks.place t p checks.holds (get_among (inputs_of t) k p listed)

    pub whole_input : port_shape (inputs_of t ++ outputs_of t) p.name ≡ Some p.shape
    whole_input = shape_left (inputs_of t) (outputs_of t) p.name p.shape own_input

    pub input_shape_on : HasShape m (place_on node at) p.name p.shape
    input_shape_on = input_shaped m sound (place_on node at) t p.name p.shape (task_there_on m sound number node t at here around) own_input

    pub input_side : (x : ℕ) → IsInput m (element_on node at p x)
    input_side x = input_there m sound.shapes (place_on node at) t p.name (task_there_on m sound number node t at here around) (ap is_some own_input)

  -- the k-th output
  module _ (listed : slice_get (outputs_of t) k ≡ Some p) where
    pub own_output : port_shape (outputs_of t) p.name ≡ Some p.shape
    own_output = output_own checks.before checks.place t p checks.holds (get_among (outputs_of t) k p listed)

    pub whole_output : port_shape (inputs_of t ++ outputs_of t) p.name ≡ Some p.shape
    whole_output = shape_right (inputs_of t) (outputs_of t) p.name p.shape (sides_apart checks.before checks.place t p.name checks.holds (ap is_some own_output)) own_output

    pub output_shape_on : HasShape m (place_on node at) p.name p.shape
    output_shape_on = output_shaped m sound (place_on node at) t p.name p.shape (task_there_on m sound number node t at here around) own_output

    pub output_side : (x : ℕ) → IsOutput m (element_on node at p x)
    output_side x = output_there m sound.shapes (place_on node at) t p.name (task_there_on m sound number node t at here around) (ap is_some own_output)

pub moved_element : (m : Model) (ports : Task → List Port) (number number' k : ℕ) (at at' : List ℕ) (x : ℕ) (e : Element) → number' ≡ number → at' ≡ at → IsElementOf m ports number k at x e → IsElementOf m ports number' k at' x e
moved_element m ports number number' k at at' x e same_number same_at h =
    let P : ℕ → Type 0 = λ n. IsElementOf m ports n k at x e in
    let Q : List ℕ → Type 0 = λ a. IsElementOf m ports number' k a x e in
    subst Q (sym same_at) (subst P (sym same_number) h)
