-- What is stored by itself is its own home.
use Rattle.std.proofs.Common.{◌≡◌, ℕ, ◌+◌, ◌-◌, ◌*◌, ◌<◌, true, false, List, [], ◌∷◌, ◌++◌, length, take, drop, Option, Some, None, is_none, slice_get, sym, ◌∙◌, ap, refl, arith, subst}
use Rattle.std.proofs.lemmas.List.{length-append}
use Rattle.std.proofs.Math.Seq.{take-append_seam}
use Rattle.aol_shape.specs.Shape.{IsPointOf, size, rank, point_at}
use Rattle.aol_expr_tree.specs.declared.port.Port.{Port}
use Rattle.aol_model_types.specs.Rules.{inputs_of, outputs_of}
use Rattle.aol_flat.specs.Accept.{IsSound}
use Rattle.aol_flat.specs.Follow.{element_on}
use Rattle.aol_flat.specs.NodeTable.{IsNode, BeginsAt, stores_at}
use Rattle.aol_flat.proofs.Arrays.{stored_cell}
use Rattle.aol_flat.proofs.Homes.{input_home, output_home}
use Rattle.aol_flat.proofs.Inside.{point_length, point_split}
use Rattle.aol_flat.proofs.NodeAt.{known}
use Rattle.aol_flat.proofs.NodeTasks.{HasSpaces, task_on}
use Rattle.aol_flat.proofs.PortsOf.{input_side, output_side}
use Rattle.aol_model_types.specs.declared.document.Model.{Model}
use Rattle.aol_model_types.specs.declared.task.Plain.{Plain}
use Rattle.aol_model_types.specs.declared.task.Task.{Task}
use Rattle.aol_model_types.specs.declared.task.Task.TheVariants as tasks
use Rattle.aol_model_types.specs.declared.task.TilerOn.{TilerOn}
use Rattle.aol_flat.specs.Place.{Place, Element, IntoPart, IntoRepetition, task_at}
use Rattle.aol_flat.specs.Home.{Kept, origin_home, Stored, origin, handed, link_into_part, link_up, tiler_at, part_origin, linked_origin, part_handed, repetition_handed, link_handed, tiler_handed}
use Rattle.aol_flat.specs.Node.{Node, ToPart, ToBody, space_around, place_on, node_task}
use Rattle.aol_flat.specs.Laid.{homes_of, IsCellOf, stores_input, stores_output}

abbrev of_part : Place → ℕ → List ℕ → List ℕ → Element
of_part up k u x = record { place = IntoPart k ∷ up; port = u; index = x }

abbrev of_repetition : Place → List ℕ → List ℕ → List ℕ → Element
of_repetition up r u x = record { place = IntoRepetition r ∷ up; port = u; index = x }

module _ (m : Model) where
  part_input_stored : (up : Place) (k : ℕ) (u x : List ℕ) → stores_input (task_at m up) (ToPart k) u ≡ true → origin m (IntoPart k ∷ up) u x ≡ Stored (of_part up k u x)
  part_input_stored up k u x h = go (task_at m up) h
    where
      go : (o : Option Task) → stores_input o (ToPart k) u ≡ true → part_origin o up k u x (origin m up) ≡ Stored (of_part up k u x)
      go None e = cc
      go (Some (tasks.Elementary t)) e = cc
      go (Some (tasks.Repeated t)) e = cc
      go (Some (tasks.Compound c)) e = by_link (link_into_part c k u) e
        where
          by_link : (o : Option Plain) → is_none o ≡ true → linked_origin c up k u x (origin m up) o ≡ Stored (of_part up k u x)
          by_link None f = refl
          by_link (Some l) f = cc

  -- no input of a repetition is
  body_input_stored : (o : Option Task) (space u : List ℕ) → stores_input o (ToBody space) u ≡ true → ⊥
  body_input_stored None space u h = cc
  body_input_stored (Some (tasks.Elementary e)) space u h = cc
  body_input_stored (Some (tasks.Compound c)) space u h = cc
  body_input_stored (Some (tasks.Repeated t)) space u h = cc

  part_output_stored : (up : Place) (k : ℕ) (y x : List ℕ) → stores_output (task_at m up) (ToPart k) y ≡ true → handed m (IntoPart k ∷ up) y x ≡ of_part up k y x
  part_output_stored up k y x h = go (task_at m up) h
    where
      by_link : (o : Option Plain) → is_none o ≡ true → link_handed (of_part up k y x) x (handed m up) o ≡ of_part up k y x
      by_link None f = refl
      by_link (Some l) f = cc

      go : (o : Option Task) → stores_output o (ToPart k) y ≡ true → part_handed o up k y x (handed m up) ≡ of_part up k y x
      go None e = cc
      go (Some (tasks.Elementary t)) e = cc
      go (Some (tasks.Repeated t)) e = cc
      go (Some (tasks.Compound c)) e = by_link (link_up c k y) e

  repetition_output_stored : (up : Place) (r space y x : List ℕ) → stores_output (task_at m up) (ToBody space) y ≡ true → handed m (IntoRepetition r ∷ up) y x ≡ of_repetition up r y x
  repetition_output_stored up r space y x h = go (task_at m up) h
    where
      go : (o : Option Task) → stores_output o (ToBody space) y ≡ true → repetition_handed o up r y x (handed m up) ≡ of_repetition up r y x
      go None e = cc
      go (Some (tasks.Elementary t)) e = cc
      go (Some (tasks.Compound c)) e = cc
      go (Some (tasks.Repeated t)) e = by_tiler (tiler_at t y) e
        where
          by_tiler : (o : Option TilerOn) → is_none o ≡ true → tiler_handed t (of_repetition up r y x) r x (handed m up) o ≡ of_repetition up r y x
          by_tiler None f = refl
          by_tiler (Some o) f = cc

-- the first indices of a point of joined shapes
front_point : (a b z : List ℕ) → IsPointOf (a ++ b) z → IsPointOf a (take (length z - length b) z)
front_point a b z h =
    let s = point_split a b z h in
    let count : length (s.0 ++ s.1) - length b ≡ length s.0 = omega (arith, length-append s.0 s.1, point_length b s.1 s.4) in
    let front : take (length z - length b) z ≡ s.0 =
    ap (λ w. take (length w - length b) w) s.2 ∙ (ap (λ k. take k (s.0 ++ s.1)) count ∙ take-append_seam s.0 s.1) in
    let P : List ℕ → Type 0 = λ w. IsPointOf a w in
    subst P (sym front) s.3

module _ (m : Model) (sound : IsSound m) where
  -- an output that is stored is handed up nowhere
  pub stored_output_is : (node : Node) (at : List ℕ) (y x : List ℕ) → HasSpaces m node → IsPointOf (space_around node) at → stores_at m node false y ≡ true
      → handed m (place_on node at) y x ≡ record { place = place_on node at; port = y; index = x }
  stored_output_is [] at y x spaces inside h = refl
  stored_output_is (ToPart k ∷ up) at y x spaces inside h =
      part_output_stored m (place_on up at) k y x (ap (λ o. stores_output o (ToPart k) y) (task_on m up spaces at inside) ∙ h)
  stored_output_is (ToBody space ∷ up) at y x spaces inside h =
      let n : ℕ = length at - length space in
      repetition_output_stored m (place_on up (take n at)) (drop n at) space y x
      (ap (λ o. stores_output o (ToBody space) y) (task_on m up spaces.1 (take n at) (front_point (space_around up) space at inside)) ∙ h)

  -- an input that is stored leads nowhere
  pub stored_input_is : (node : Node) (at : List ℕ) (u x : List ℕ) → HasSpaces m node → IsPointOf (space_around node) at → stores_at m node true u ≡ true
      → origin m (place_on node at) u x ≡ Stored (record { place = place_on node at; port = u; index = x })
  stored_input_is [] at u x spaces inside h = refl
  stored_input_is (ToPart k ∷ up) at u x spaces inside h =
      part_input_stored m (place_on up at) k u x (ap (λ o. stores_input o (ToPart k) u) (task_on m up spaces at inside) ∙ h)
  stored_input_is (ToBody space ∷ up) at u x spaces inside h = absurd (body_input_stored m (node_task m up) space u h)

  -- so its home is itself, and its cell is in its array
  module _ (number : ℕ) (node : Node) (t : Task) (p : Port) (first index k : ℕ) (at : List ℕ) (x : ℕ) (here : IsNode m number node t) (begins : BeginsAt m node p first) (around : IsPointOf (space_around node) at)
      (within : x < size p.shape) (index_is : index ≡ rank (space_around node) at) where
    pub cell_there : slice_get (homes_of m) (first + (index * size p.shape + x)) ≡ Some (element_on node at p x)
    cell_there = ap (λ i. slice_get (homes_of m) (first + (i * size p.shape + x))) index_is ∙ stored_cell m node p first at x begins around within

    pub output_cell : slice_get (outputs_of t) k ≡ Some p → stores_at m node false p.name ≡ true → IsCellOf (record { model = m; cells = homes_of m }) (element_on node at p x) (first + (index * size p.shape + x))
    output_cell listed stored = record {
      home = element_on node at p x;
      is_home = output_home m (element_on node at p x) (output_side m sound number node t at here around k p listed x)
          ∙ ap (λ e. Kept e) (stored_output_is node at p.name (point_at p.shape x) (known m number node t here).spaces around stored);
      at_cell = cell_there;
    }

    pub input_cell : slice_get (inputs_of t) k ≡ Some p → stores_at m node true p.name ≡ true → IsCellOf (record { model = m; cells = homes_of m }) (element_on node at p x) (first + (index * size p.shape + x))
    input_cell listed stored = record {
      home = element_on node at p x;
      is_home = input_home m (element_on node at p x) (input_side m sound number node t at here around k p listed x)
          ∙ ap (origin_home m) (stored_input_is node at p.name (point_at p.shape x) (known m number node t here).spaces around stored);
      at_cell = cell_there;
    }
