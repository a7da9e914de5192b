-- The stored elements below the main task are the inner homes.
use Rattle.std.proofs.Common.{◌≡◌, ◌≢◌, ℕ, ◌-◌, true, List, [], ◌∷◌, ◌++◌, length, take, drop, Some, is_some, sym, ◌∙◌, ap, arith, subst, ◌⊎◌, inl, inr}
use Rattle.std.specs.List.{IsAmong}
use Rattle.std.proofs.lemmas.List.{length-append}
use Rattle.std.proofs.Math.Seq.{take-append_seam}
use Rattle.aol_shape.specs.Shape.{IsPointOf}
use Rattle.aol_expr_tree.specs.declared.port.Port.{Port}
use Rattle.aol_model_types.specs.declared.document.Model.{Model}
use Rattle.aol_model_types.specs.declared.task.Task.{Task}
use Rattle.aol_model_types.specs.Rules.{ShapesAgree, inputs_of, outputs_of}
use Rattle.aol_flat.specs.Place.{IsElement, task_at}
use Rattle.aol_flat.specs.Home.{Kept, handed, origin_home, home_of, is_input_at}
use Rattle.aol_flat.specs.Node.{Branch, ToPart, ToBody, Node, space_around, place_on, node_task}
use Rattle.aol_flat.specs.Laid.{stores_input, stores_output, inner_cells, IsInnerHome}
use Rattle.aol_flat.specs.Wired.{IsInput, IsOutput}
use Rattle.aol_flat.proofs.Among.{among_append}
use Rattle.aol_flat.proofs.Checked.{IsTaskOf, sides_apart}
use Rattle.aol_flat.proofs.Homes.{input_home, output_home}
use Rattle.aol_flat.proofs.Inside.{point_length, point_split}
use Rattle.aol_flat.proofs.LinkSides.{task_there}
use Rattle.aol_flat.proofs.Shapes.{input_own, output_own, shape_left, shape_right}
use Rattle.aol_flat_laws.proofs.InnerCells.{node_element, stored_input, stored_output, input_cell_listed, output_cell_listed}
use Rattle.aol_flat_laws.proofs.NodeTasks.{HasSpaces, task_on}
use Rattle.aol_flat_laws.proofs.Stands.{part_input_stands, repetition_input_leads, part_output_stands, repetition_output_stands}
use Rattle.aol_flat_laws.proofs.Stored.{part_input_stored, body_input_stored, part_output_stored, repetition_output_stored}

-- the first indices of a point of joined shapes
front_point : (a b z : List ℕ) → IsPointOf (a ++ b) z → IsPointOf a (take (length z - length b) z)
front_point a b z h =
    let s = point_split a b z h in
    let count : length (s.0 ++ s.1) - length b ≡ length s.0 = omega (arith, length-append s.0 s.1, point_length b s.1 s.4) in
    let front : take (length z - length b) z ≡ s.0 =
    ap (λ w. take (length w - length b) w) s.2 ∙ (ap (λ k. take k (s.0 ++ s.1)) count ∙ take-append_seam s.0 s.1) in
    let P : List ℕ → Type 0 = λ w. IsPointOf a w in
    subst P (sym front) s.3

module _ (m : Model) (agree : ShapesAgree m) (up : Node) (t : Task) (at x : List ℕ) (p : Port) where
  -- the sides of a port at an instance
  module _ (b : Branch) (there : task_at m (place_on (b ∷ up) at) ≡ Some t) where
    checks : IsTaskOf m t
    checks = task_there m agree (place_on (b ∷ up) at) t there

    is_input : IsAmong (inputs_of t) p → IsInput m (node_element (b ∷ up) at p x)
    is_input a = ap (λ o. is_input_at o p.name) there ∙ ap is_some (input_own checks.before checks.place t p checks.holds a)

    is_output : IsAmong (outputs_of t) p → IsOutput m (node_element (b ∷ up) at p x)
    is_output a =
        ap (λ o. is_input_at o p.name) there
        ∙ sides_apart checks.before checks.place t p.name checks.holds (ap is_some (output_own checks.before checks.place t p checks.holds a))

    input_exists : IsAmong (inputs_of t) p → IsPointOf p.shape x → IsElement m (node_element (b ∷ up) at p x)
    input_exists a inside = record {
      task = t;
      at_place = there;
      shape = p.shape;
      at_port = shape_left (inputs_of t) (outputs_of t) p.name p.shape (input_own checks.before checks.place t p checks.holds a);
      inside = inside;
    }

    output_exists : IsAmong (outputs_of t) p → IsPointOf p.shape x → IsElement m (node_element (b ∷ up) at p x)
    output_exists a inside =
        let own = output_own checks.before checks.place t p checks.holds a in
        record {
          task = t;
          at_place = there;
          shape = p.shape;
          at_port = shape_right (inputs_of t) (outputs_of t) p.name p.shape (sides_apart checks.before checks.place t p.name checks.holds (ap is_some own)) own;
          inside = inside;
        }

  -- ---- a home is stored

  input_home_stored : (b : Branch) → HasSpaces m (b ∷ up) → IsPointOf (space_around (b ∷ up)) at → IsElement m (node_element (b ∷ up) at p x) → IsInput m (node_element (b ∷ up) at p x)
      → home_of m (node_element (b ∷ up) at p x) ≡ Kept (node_element (b ∷ up) at p x) → stored_input m b up p ≡ true
  input_home_stored (ToPart k) spaces around exists input home =
      ap (λ o. stores_input o (ToPart k) p.name) (sym (task_on m up spaces at around)) ∙ part_input_stands m agree (place_on up at) k p.name x exists input home
  input_home_stored (ToBody space) spaces around exists input home =
      let n : ℕ = length at - length space in
      absurd (repetition_input_leads m agree (place_on up (take n at)) (drop n at) p.name x exists input home)

  output_home_stored : (b : Branch) → HasSpaces m (b ∷ up) → IsPointOf (space_around (b ∷ up)) at → task_at m (place_on (b ∷ up) at) ≡ Some t → IsOutput m (node_element (b ∷ up) at p x)
      → home_of m (node_element (b ∷ up) at p x) ≡ Kept (node_element (b ∷ up) at p x) → stored_output m b up p ≡ true
  output_home_stored (ToPart k) spaces around there output home =
      let e = node_element (ToPart k ∷ up) at p x in
      let kept : Kept (handed m e.place e.port e.index) ≡ Kept e = sym (output_home m e output) ∙ home in
      let stays : handed m e.place e.port e.index ≡ e = cc in
      ap (λ o. stores_output o (ToPart k) p.name) (sym (task_on m up spaces at around)) ∙ part_output_stands m agree (place_on up at) k p.name x t there stays
  output_home_stored (ToBody space) spaces around there output home =
      let n : ℕ = length at - length space in
      let e = node_element (ToBody space ∷ up) at p x in
      let kept : Kept (handed m e.place e.port e.index) ≡ Kept e = sym (output_home m e output) ∙ home in
      let stays : handed m e.place e.port e.index ≡ e = cc in
      ap (λ o. stores_output o (ToBody space) p.name) (sym (task_on m up spaces.1 (take n at) (front_point (space_around up) space at around)))
      ∙ repetition_output_stands m agree (place_on up (take n at)) (drop n at) space p.name x t there stays

  -- ---- what is stored is its own home

  stored_input_home : (b : Branch) → HasSpaces m (b ∷ up) → IsPointOf (space_around (b ∷ up)) at → IsInput m (node_element (b ∷ up) at p x) → stored_input m b up p ≡ true
      → home_of m (node_element (b ∷ up) at p x) ≡ Kept (node_element (b ∷ up) at p x)
  stored_input_home (ToPart k) spaces around input stored =
      input_home m (node_element (ToPart k ∷ up) at p x) input
      ∙ ap (origin_home m) (part_input_stored m (place_on up at) k p.name x (ap (λ o. stores_input o (ToPart k) p.name) (task_on m up spaces at around) ∙ stored))
  stored_input_home (ToBody space) spaces around input stored = absurd (body_input_stored m (node_task m up) space p.name stored)

  stored_output_home : (b : Branch) → HasSpaces m (b ∷ up) → IsPointOf (space_around (b ∷ up)) at → IsOutput m (node_element (b ∷ up) at p x) → stored_output m b up p ≡ true
      → home_of m (node_element (b ∷ up) at p x) ≡ Kept (node_element (b ∷ up) at p x)
  stored_output_home (ToPart k) spaces around output stored =
      output_home m (node_element (ToPart k ∷ up) at p x) output
      ∙ ap (λ e. Kept e) (part_output_stored m (place_on up at) k p.name x (ap (λ o. stores_output o (ToPart k) p.name) (task_on m up spaces at around) ∙ stored))
  stored_output_home (ToBody space) spaces around output stored =
      let n : ℕ = length at - length space in
      output_home m (node_element (ToBody space ∷ up) at p x) output
      ∙ ap (λ e. Kept e)
      (repetition_output_stored m (place_on up (take n at)) (drop n at) space p.name x
      (ap (λ o. stores_output o (ToBody space) p.name) (task_on m up spaces.1 (take n at) (front_point (space_around up) space at around)) ∙ stored))

  is_below : (b : Branch) → place_on (b ∷ up) at ≢ []
  is_below (ToPart k) e = cc
  is_below (ToBody space) e = cc

  -- ---- both ways, for an element of a node

  pub home_listed : (b : Branch) → HasSpaces m (b ∷ up) → IsPointOf (space_around (b ∷ up)) at → task_at m (place_on (b ∷ up) at) ≡ Some t → IsPointOf p.shape x → IsAmong (inputs_of t ++ outputs_of t) p
      → home_of m (node_element (b ∷ up) at p x) ≡ Kept (node_element (b ∷ up) at p x) → IsAmong (inner_cells m (b ∷ up, t)) (node_element (b ∷ up) at p x)
  home_listed b spaces around there inside a home =
      elim (among_append (inputs_of t) (outputs_of t) p a) [
        | inl i ↦
            input_cell_listed m b up t at x p around inside i (input_home_stored b spaces around (input_exists b there i inside) (is_input b there i) home)
        | inr i ↦ output_cell_listed m b up t at x p around inside i (output_home_stored b spaces around there (is_output b there i) home)
      ]

  pub listed_home : (b : Branch) → HasSpaces m (b ∷ up) → IsPointOf (space_around (b ∷ up)) at → task_at m (place_on (b ∷ up) at) ≡ Some t → IsPointOf p.shape x
      → (IsAmong (inputs_of t) p × (stored_input m b up p ≡ true)) ⊎ (IsAmong (outputs_of t) p × (stored_output m b up p ≡ true)) → IsInnerHome m (node_element (b ∷ up) at p x)
  listed_home b spaces around there inside (inl i) =
      record { exists = input_exists b there i.0 inside; within = is_below b; stands = stored_input_home b spaces around (is_input b there i.0) i.1 }
  listed_home b spaces around there inside (inr i) =
      record { exists = output_exists b there i.0 inside; within = is_below b; stands = stored_output_home b spaces around (is_output b there i.0) i.1 }
