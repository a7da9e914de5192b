-- What an element needs exists.
use Rattle.std.proofs.Common.{◌≡◌, ℕ, ◌+◌, Bool, true, false, cond, List, ◌∷◌, ◌++◌, length, Option, Some, None, slice_get, sym, ◌∙◌, ap, refl, arith, subst}
use Rattle.std.specs.Prelude.{option_and_then}
use Rattle.std.specs.List.{IsAmong}
use Rattle.std.proofs.lemmas.Bool.{eqb-true}
use Rattle.aol_shape.specs.Vectors.{wrapped_point, is_inside}
use Rattle.aol_shape.specs.Shape.{IsPointOf, IsShape}
use Rattle.aol_tiler.specs.Tiler.{integers, address_point}
use Rattle.aol_link.specs.declared.link.Choice.{Choice}
use Rattle.aol_link.specs.declared.link.Interlink.{Interlink}
use Rattle.aol_link.specs.Links.{naturals, stepped_back, source_repetition, first_choice}
use Rattle.aol_model_types.specs.declared.document.Model.{Model}
use Rattle.aol_model_types.specs.declared.task.Repeated.{Repeated}
use Rattle.aol_model_types.specs.declared.task.Task.{Task}
use Rattle.aol_model_types.specs.declared.task.Task.TheVariants as tasks
use Rattle.aol_model_types.specs.Rules.{task_named, inputs_of, outputs_of, inputs_named, outputs_named, port_shape, fallback_fits}
use Rattle.aol_model_types.specs.Types.{IsTask, IsRepeated, IsPort}
use Rattle.aol_flat.specs.Place.{Place, IntoRepetition, Element, IsElement, task_at, task_below, elements_of}
use Rattle.aol_flat.specs.Equation.{TiledInput, EarlierOutput, DefaultElement}
use Rattle.aol_flat.specs.Need.{Follows, by_part_input, by_own_output, by_tiled_input, by_link, by_default, by_outer_output, Needs, by_following, by_copying, by_computing}
use Rattle.aol_flat.specs.Accept.{IsSound}
use Rattle.aol_flat.proofs.Among.{among_get, get_among, at_port}
use Rattle.aol_flat.proofs.Checked.{IsTaskOf, named_earlier}
use Rattle.aol_flat.proofs.Given.{AllByRecursion-at}
use Rattle.aol_flat.proofs.Inside.{point_length, inside_point, point_inside}
use Rattle.aol_flat.proofs.Names.{slice_get-right}
use Rattle.aol_flat.proofs.Once.{all_at}
use Rattle.aol_flat.proofs.Shapes.{wrapped_inside, address_inside, naturals_inside, back-length, fits_there, found_port, shape_left, input_own, output_own}
use Rattle.aol_flat.proofs.LinkSides.{task_there}
use Rattle.aol_flat.proofs.Wired.{tiler_there, interlink_there}
use Rattle.aol_flat.proofs.HasShape.{element_there, point_there, equal_shapes, port_shaped, input_shaped, output_shaped, linked_exists}

module _ (m : Model) (sound : IsSound m) where
  -- ---- repeated tasks

  -- what the types say of a repeated task
  repeated_limits : (t : Repeated) → IsTaskOf m (tasks.Repeated t) → IsRepeated t
  repeated_limits t s =
      let zero_more : length s.before + 0 ≡ length s.before = omega arith in
      let at : slice_get m.tasks (length s.before + 0) ≡ Some (tasks.Repeated t) = ap (λ ts. slice_get ts (length s.before + 0)) s.split ∙ slice_get-right s.before (tasks.Repeated t ∷ s.rest) 0 in
      AllByRecursion-at IsTask m.tasks (length s.before + 0) (tasks.Repeated t) sound.read.model.tasks at

  input_shape : (t : Repeated) → IsTaskOf m (tasks.Repeated t) → (name array : List ℕ) → port_shape t.ins name ≡ Some array → IsShape array
  input_shape t s name array h =
      let p = found_port t.ins name array h in
      subst IsShape p.3 (AllByRecursion-at IsPort t.ins p.1.0 p.0 (repeated_limits t s).ins (among_get t.ins p.1.0 p.0 p.1.1.0 p.1.1.1))

  -- the indices of a repetition that is there
  pub repetition_point : (up : Place) (t : Repeated) (r : List ℕ) → task_at m up ≡ Some (tasks.Repeated t) → (v : Task) → task_at m (IntoRepetition r ∷ up) ≡ Some v → IsPointOf t.space r
  repetition_point up t r at v h = go (is_inside t.space (integers r)) refl
    where
      below : task_below m (tasks.Repeated t) (IntoRepetition r) ≡ Some v
      below = sym (ap (option_and_then (λ u. task_below m u (IntoRepetition r))) at) ∙ h

      go : (b : Bool) → is_inside t.space (integers r) ≡ b → IsPointOf t.space r
      go true e = inside_point t.space r e
      go false e = let k = rw e at below in cc

  -- the task of a repetition of the space
  pub repetition_there : (up : Place) (t : Repeated) (s : IsTaskOf m (tasks.Repeated t)) (r : List ℕ) (u : Task) → task_at m up ≡ Some (tasks.Repeated t) → IsPointOf t.space r → task_named s.before t.task ≡ Some u
      → task_at m (IntoRepetition r ∷ up) ≡ Some u
  repetition_there up t s r u at point found =
      ap (option_and_then (λ v. task_below m v (IntoRepetition r))) at
      ∙ (ap (λ b. cond b (task_named m.tasks t.task) None) (point_inside t.space r point)
      ∙ named_earlier m s.before (tasks.Repeated t ∷ s.rest) t.task u s.split found)

  tiled_exists : (p q : Element) → TiledInput m p q → IsElement m q
  tiled_exists p q f =
      let s = tiler_there m sound.shapes f.up f.task f.tiling f.at_place f.listed in
      let fit = fits_there f.tiling.tiler (port_shape (f.task.ins ++ f.task.outs) f.tiling.outer) f.task.space _ f.array (shape_left f.task.ins f.task.outs f.tiling.outer f.array f.outer_shape) s.1.fits in
      let inside : IsPointOf f.array (address_point f.tiling.tiler f.array f.repetition p.index) =
      address_inside f.tiling.tiler f.array f.task.space fit.0 f.repetition p.index fit.1 (input_shape f.task s.0 f.tiling.outer f.array f.outer_shape) in
      let P : List ℕ → Type 0 = λ x. IsPointOf f.array x in
      element_there m q f.up f.tiling.outer f.array (ap (λ (x : Element). x.place) f.right) (ap (λ (x : Element). x.port) f.right)
      (input_shaped m sound f.up (tasks.Repeated f.task) f.tiling.outer f.array f.at_place f.outer_shape) (subst P (sym (ap (λ (x : Element). x.index) f.right)) inside)

  default_exists : (p q : Element) → DefaultElement m p q → IsElement m q
  default_exists p q f =
      let l = f.linked in
      let s = interlink_there m sound.shapes l.up l.task l.link l.at_place l.listed in
      let chosen : fallback_fits s.0.before l.task l.link f.choice.take ≡ true =
      all_at (λ (c : Choice). fallback_fits s.0.before l.task l.link c.take) l.link.rest f.choice s.1.defaults
      (get_among l.link.rest (first_choice l.link.rest l.task.space (stepped_back l.repetition l.link.distance)) f.choice f.chosen) in
      let fit = fits_there f.tiler (port_shape l.task.ins f.outer) l.task.space _ f.array f.outer_shape (sym (ap (fallback_fits s.0.before l.task l.link) f.takes) ∙ chosen) in
      let inside : IsPointOf f.array (address_point f.tiler f.array l.repetition p.index) =
      address_inside f.tiler f.array l.task.space fit.0 l.repetition p.index fit.1 (input_shape l.task s.0 f.outer f.array f.outer_shape) in
      let P : List ℕ → Type 0 = λ x. IsPointOf f.array x in
      element_there m q l.up f.outer f.array (ap (λ (x : Element). x.place) f.right) (ap (λ (x : Element). x.port) f.right)
      (input_shaped m sound l.up (tasks.Repeated l.task) f.outer f.array l.at_place f.outer_shape) (subst P (sym (ap (λ (x : Element). x.index) f.right)) inside)

  -- the repetition from which a link leads is one of the space
  pub source_inside : (t : Repeated) (s : IsTaskOf m (tasks.Repeated t)) (l : Interlink) (r source : List ℕ) → IsPointOf t.space r → length l.distance ≡ length t.space
      → source_repetition l.wrap l.distance t.space r ≡ Some source → IsPointOf t.space source
  source_inside t s l r source point spans h = go l.wrap refl (is_inside t.space (stepped_back r l.distance)) refl h
    where
      go : (w : Bool) → l.wrap ≡ w → (b : Bool) → is_inside t.space (stepped_back r l.distance) ≡ b
          → ◌≡◌ {A = Option (List ℕ)} (cond w (Some (wrapped_point (stepped_back r l.distance) t.space)) (cond b (Some (naturals (stepped_back r l.distance))) None)) (Some source) → IsPointOf t.space source
      go true e b f k =
          let same_point : wrapped_point (stepped_back r l.distance) t.space ≡ source = cc in
          let size : length r ≡ length t.space = point_length t.space r point in
          let P : List ℕ → Type 0 = λ x. IsPointOf t.space x in
          subst P same_point (wrapped_inside t.space (stepped_back r l.distance) (repeated_limits t s).space.entry (back-length r l.distance (spans ∙ sym size) ∙ size))
      go false e true f k =
          let same_point : naturals (stepped_back r l.distance) ≡ source = cc in
          let P : List ℕ → Type 0 = λ x. IsPointOf t.space x in
          subst P same_point (naturals_inside t.space (stepped_back r l.distance) f)
      go false e false f k = cc

  earlier_exists : (p q : Element) → EarlierOutput m p q → IsElement m q
  earlier_exists p q f =
      let l = f.linked in
      let s = interlink_there m sound.shapes l.up l.task l.link l.at_place l.listed in
      let here : p.place ≡ IntoRepetition l.repetition ∷ l.up = ap (λ (x : Element). x.place) l.left in
      let point : IsPointOf l.task.space l.repetition = repetition_point l.up l.task l.repetition l.at_place l.exists.task (sym (ap (task_at m) here) ∙ l.exists.at_place) in
      let source = source_inside l.task s.0 l.link l.repetition f.source point (eqb-true (length l.link.distance) (length l.task.space) s.1.spans) f.in_space in
      let shape = equal_shapes (port_shape (outputs_named s.0.before l.task.task) l.link.from) (port_shape (inputs_named s.0.before l.task.task) l.link.to) s.1.equal in
      let from = port_shaped outputs_of (task_named s.0.before l.task.task) l.link.from shape.0 shape.1 in
      let to = port_shaped inputs_of (task_named s.0.before l.task.task) l.link.to shape.0 shape.2 in
      let inside : IsPointOf shape.0 p.index =
      point_there m p (IntoRepetition l.repetition ∷ l.up) l.link.to shape.0 here (ap (λ (x : Element). x.port) l.left)
      (input_shaped m sound (IntoRepetition l.repetition ∷ l.up) to.0 l.link.to shape.0 (repetition_there l.up l.task s.0 l.repetition to.0 l.at_place point to.1) to.2) l.exists in
      let P : List ℕ → Type 0 = λ x. IsPointOf shape.0 x in
      element_there m q (IntoRepetition f.source ∷ l.up) l.link.from shape.0 (ap (λ (x : Element). x.place) f.right) (ap (λ (x : Element). x.port) f.right)
      (output_shaped m sound (IntoRepetition f.source ∷ l.up) from.0 l.link.from shape.0 (repetition_there l.up l.task s.0 f.source from.0 l.at_place source from.1) from.2)
      (subst P (sym (ap (λ (x : Element). x.index) f.right)) inside)

  -- ---- whatever is needed exists

  followed_exists : (p q : Element) → Follows m p q → IsElement m q
  followed_exists p q (by_part_input f) = linked_exists m sound f.up f.task f.link p q f.at_place f.listed f.left f.right f.exists
  followed_exists p q (by_own_output f) = linked_exists m sound p.place f.task f.link p q f.at_place f.listed f.left f.right f.exists
  followed_exists p q (by_tiled_input f) = tiled_exists p q f
  followed_exists p q (by_link f) = earlier_exists p q f
  followed_exists p q (by_default f) = default_exists p q f
  followed_exists p q (by_outer_output f) = f.exists

  -- an input of a task at an instance
  pub input_exists : (place : Place) (t : Task) (q : Element) → task_at m place ≡ Some t → IsAmong (elements_of place (inputs_of t)) q → IsElement m q
  input_exists place t q h a =
      let at = at_port place (inputs_of t) q a in
      let r = task_there m sound.shapes place t h in
      element_there m q place at.port.name at.port.shape (ap (λ (x : Element). x.place) at.is) (ap (λ (x : Element). x.port) at.is)
      (input_shaped m sound place t at.port.name at.port.shape h (input_own r.before r.place t at.port r.holds at.listed)) at.inside

  -- an output of one
  pub output_exists : (place : Place) (t : Task) (q : Element) → task_at m place ≡ Some t → IsAmong (elements_of place (outputs_of t)) q → IsElement m q
  output_exists place t q h a =
      let at = at_port place (outputs_of t) q a in
      let r = task_there m sound.shapes place t h in
      element_there m q place at.port.name at.port.shape (ap (λ (x : Element). x.place) at.is) (ap (λ (x : Element). x.port) at.is)
      (output_shaped m sound place t at.port.name at.port.shape h (output_own r.before r.place t at.port r.holds at.listed)) at.inside

  pub needed_exists : (p q : Element) → Needs m p q → IsElement m q
  needed_exists p q (by_following f) = followed_exists p q f
  needed_exists p q (by_copying c) = c.source
  needed_exists p q (by_computing o a) = input_exists p.place (tasks.Elementary o.task) q o.at_place a
