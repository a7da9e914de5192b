-- Following leads from where an output is handed to that output.
use Rattle.std.proofs.Common.{◌≡◌, ℕ, true, ◌&&◌, List, [], ◌∷◌, ◌++◌, Option, Some, None, is_none, is_some, unwrap_or, sym, ◌∙◌, ap, refl, subst, ◌⊎◌, inl, inr}
use Rattle.std.specs.List.{IsAmong}
use Rattle.aol_shape.specs.Lists.{same}
use Rattle.aol_shape.specs.Shape.{IsPointOf}
use Rattle.aol_tiler.specs.Tiler.{address_point}
use Rattle.aol_model_types.specs.declared.document.Model.{Model}
use Rattle.aol_model_types.specs.declared.task.Compound.{Compound}
use Rattle.aol_model_types.specs.declared.task.Plain.{Plain}
use Rattle.aol_model_types.specs.declared.task.Repeated.{Repeated}
use Rattle.aol_model_types.specs.declared.task.Task.{Task}
use Rattle.aol_model_types.specs.declared.task.Task.TheVariants as tasks
use Rattle.aol_model_types.specs.declared.task.TilerOn.{TilerOn}
use Rattle.aol_model_types.specs.Rules.{inputs_named, outputs_named, port_shape, from_shape, to_shape}
use Rattle.aol_flat.specs.Place.{Place, IntoPart, IntoRepetition, Element, IsElement, task_at, end_element, instance_of_end}
use Rattle.aol_flat.specs.Equation.{OwnOutput, OuterOutput}
use Rattle.aol_flat.specs.Home.{handed, is_part_end, link_up, tiler_at, part_handed, repetition_handed, link_handed, tiler_handed}
use Rattle.aol_flat.specs.InstanceNeed.{Reaches, here}
use Rattle.aol_flat.specs.Need.{by_own_output, by_outer_output}
use Rattle.aol_flat.specs.Wired.{IsOutput}
use Rattle.aol_flat.specs.Accept.{IsSound}
use Rattle.aol_flat.proofs.Checked.{IsTaskOf, sides_apart}
use Rattle.aol_flat.proofs.HasShape.{element_there, point_there, equal_shapes, given_shape, taken_shape, output_shaped}
use Rattle.aol_flat.proofs.Levelled.{reach_on, two_sides}
use Rattle.aol_flat.proofs.LinkSides.{link_there}
use Rattle.aol_flat.proofs.Names.{both-true, same-equal}
use Rattle.aol_flat.proofs.Once.{there, found_among}
use Rattle.aol_flat.proofs.Real.{shape_limits}
use Rattle.aol_flat.proofs.Shapes.{address_inside, fits_there, shape_right}
use Rattle.aol_flat.proofs.Sites.{find-passes}
use Rattle.aol_flat.proofs.SourceRight.{part_end, same_element}
use Rattle.aol_flat.proofs.TilerRules.{IsTiling, JoinsPorts, sides_of}
use Rattle.aol_flat.proofs.Wired.{agreeing_is_wired, tiler_there, inner_input}
use Rattle.aol_flat_laws.proofs.Stands.{of_part, of_repetition}

is_nothing : (o : Option (List ℕ)) → is_none o ≡ true → o ≡ None
is_nothing None h = refl
is_nothing (Some x) h = cc

module _ (m : Model) (sound : IsSound m) where
  -- ---- one step

  -- the own output to which a link hands an output up
  own_above : (up : Place) (k : ℕ) (y x : List ℕ) (c : Compound) (l : Plain) → task_at m up ≡ Some (tasks.Compound c) → link_up c k y ≡ Some l → IsElement m (of_part up k y x)
      → OwnOutput m (record { place = up; port = l.to.port; index = x }) (of_part up k y x)
  own_above up k y x c l at f exists =
      let p : Element = record { place = up; port = l.to.port; index = x } in
      let q : Element = of_part up k y x in
      let passes = both-true (is_part_end c k y l.from) (is_none l.to.part) (find-passes (λ (z : Plain). is_part_end c k y z.from && is_none z.to.part) c.links l f) in
      let listed : IsAmong c.links l = found_among (λ (z : Plain). is_part_end c k y z.from && is_none z.to.part) c.links l f in
      let from = part_end c k y l.from passes.0 in
      let own = is_nothing l.to.part passes.1 in
      let to_place : up ≡ instance_of_end c up l.to.part = ap (instance_of_end c up) (sym own) in
      let from_place : IntoPart k ∷ up ≡ instance_of_end c up l.from.part = ap (λ n. IntoPart n ∷ up) (sym from.2) ∙ sym (ap (instance_of_end c up) from.1) in
      let r = link_there m sound.shapes up c l at listed in
      let s = equal_shapes (from_shape r.0.before c l.from) (to_shape r.0.before c l.to) r.1.equal in
      let inside : IsPointOf s.0 x = point_there m q (instance_of_end c up l.from.part) l.from.port s.0 from_place (sym from.3) (given_shape m sound up c l.from s.0 at r.0 s.1) exists in
      record {
        task = c;
        at_place = at;
        link = l;
        listed = listed;
        into_own = own;
        left = same_element p (end_element c up l.to x) to_place refl refl;
        right = same_element q (end_element c up l.from x) from_place (sym from.3) refl;
        exists = element_there m p (instance_of_end c up l.to.part) l.to.port s.0 to_place refl (taken_shape m sound up c l.to s.0 at r.0 s.2) inside;
      }

  -- the element of an outer output to which a tiler does
  outer_above : (up : Place) (r y x : List ℕ) (t : Repeated) (o : TilerOn) → task_at m up ≡ Some (tasks.Repeated t) → tiler_at t y ≡ Some o → IsElement m (of_repetition up r y x)
      → IsOutput m (of_repetition up r y x) → (array : List ℕ) × (port_shape t.outs o.outer ≡ Some array)
      × OuterOutput m (record { place = up; port = o.outer; index = address_point o.tiler array r x }) (of_repetition up r y x)
  outer_above up r y x t o at f exists output = go (sides_of s.0.before t o s.1)
    where
      listed : IsAmong t.tilers o
      listed = found_among (λ (z : TilerOn). same z.inner y) t.tilers o f

      inner : o.inner ≡ y
      inner = same-equal o.inner y (find-passes (λ (z : TilerOn). same z.inner y) t.tilers o f)

      s : (z : IsTaskOf m (tasks.Repeated t)) × IsTiling z.before t o
      s = tiler_there m sound.shapes up t o at listed

      go : JoinsPorts t.ins (inputs_named s.0.before t.task) o ⊎ JoinsPorts t.outs (outputs_named s.0.before t.task) o → (array : List ℕ) × (port_shape t.outs o.outer ≡ Some array)
          × OuterOutput m (record { place = up; port = o.outer; index = address_point o.tiler array r x }) (of_repetition up r y x)
      go (inl sides) =
          let P : List ℕ → Type 0 = λ n. IsOutput m (of_repetition up r n x) in
          absurd (two_sides m (of_repetition up r o.inner x) (inner_input m sound.shapes up t s.0 r o.inner at exists.task exists.at_place sides.inside) (subst P (sym inner) output))
      go (inr sides) =
          let array = there (port_shape t.outs o.outer) sides.outside in (
            array.0,
            array.1,
            record {
              task = t;
              at_place = at;
              tiling = o;
              listed = listed;
              array = array.0;
              outer_shape = array.1;
              repetition = r;
              right = same_element (of_repetition up r y x) (of_repetition up r o.inner x) refl (sym inner) refl;
              left = refl;
              exists = exists;
            },
          )

  outer_exists : (p q : Element) → OuterOutput m p q → IsElement m p
  outer_exists p q f =
      let s = tiler_there m sound.shapes p.place f.task f.tiling f.at_place f.listed in
      let shaped = output_shaped m sound p.place (tasks.Repeated f.task) f.tiling.outer f.array f.at_place f.outer_shape in
      let whole : port_shape (f.task.ins ++ f.task.outs) f.tiling.outer ≡ Some f.array =
      shape_right f.task.ins f.task.outs f.tiling.outer f.array (sides_apart s.0.before s.0.place (tasks.Repeated f.task) f.tiling.outer s.0.holds (ap is_some f.outer_shape)) f.outer_shape in
      let fit = fits_there f.tiling.tiler (port_shape (f.task.ins ++ f.task.outs) f.tiling.outer) f.task.space _ f.array whole s.1.fits in
      let inside : IsPointOf f.array (address_point f.tiling.tiler f.array f.repetition q.index) =
      address_inside f.tiling.tiler f.array f.task.space fit.0 f.repetition q.index fit.1 (shape_limits m sound p.place f.tiling.outer f.array shaped) in
      let P : List ℕ → Type 0 = λ x. IsPointOf f.array x in
      element_there m p p.place f.tiling.outer f.array refl (ap (λ (x : Element). x.port) f.left) shaped (subst P (sym (ap (λ (x : Element). x.index) f.left)) inside)

  -- ---- all steps

  abbrev pub ReachedFrom : Place → Type 0
  ReachedFrom place =
      (y x : List ℕ) → IsElement m (record { place = place; port = y; index = x }) → IsOutput m (record { place = place; port = y; index = x })
      → Reaches m (handed m place y x) (record { place = place; port = y; index = x })

  part_reached : (up : Place) (k : ℕ) → ReachedFrom up → ReachedFrom (IntoPart k ∷ up)
  part_reached up k above y x exists output = go (task_at m up) refl
    where
      by_link : (c : Compound) → task_at m up ≡ Some (tasks.Compound c) → (o : Option Plain) → link_up c k y ≡ o → Reaches m (link_handed (of_part up k y x) x (handed m up) o) (of_part up k y x)
      by_link c at None f = here
      by_link c at (Some l) f =
          let p : Element = record { place = up; port = l.to.port; index = x } in
          let g = own_above up k y x c l at f exists in
          reach_on m (handed m up l.to.port x) p (of_part up k y x)
          (above l.to.port x g.exists ((agreeing_is_wired m sound.shapes).own_output p (of_part up k y x) g).0) (by_own_output g)

      go : (o : Option Task) → task_at m up ≡ o → Reaches m (part_handed o up k y x (handed m up)) (of_part up k y x)
      go None at = here
      go (Some (tasks.Elementary e)) at = here
      go (Some (tasks.Repeated t)) at = here
      go (Some (tasks.Compound c)) at = by_link c at (link_up c k y) refl

  repetition_reached : (up : Place) (r : List ℕ) → ReachedFrom up → ReachedFrom (IntoRepetition r ∷ up)
  repetition_reached up r above y x exists output = go (task_at m up) refl
    where
      by_tiler : (t : Repeated) → task_at m up ≡ Some (tasks.Repeated t) → (o : Option TilerOn) → tiler_at t y ≡ o → Reaches m (tiler_handed t (of_repetition up r y x) r x (handed m up) o) (of_repetition up r y x)
      by_tiler t at None f = here
      by_tiler t at (Some o) f =
          let g = outer_above up r y x t o at f exists output in
          let p : Element = record { place = up; port = o.outer; index = address_point o.tiler g.0 r x } in
          let P : Option (List ℕ) → Type 0 = λ a. Reaches m (handed m up o.outer (address_point o.tiler (unwrap_or a []) r x)) (of_repetition up r y x) in
          subst P (sym g.1)
          (reach_on m (handed m up o.outer (address_point o.tiler g.0 r x)) p (of_repetition up r y x)
          (above o.outer (address_point o.tiler g.0 r x) (outer_exists p (of_repetition up r y x) g.2) ((agreeing_is_wired m sound.shapes).outer_output p (of_repetition up r y x) g.2).0) (by_outer_output g.2))

      go : (o : Option Task) → task_at m up ≡ o → Reaches m (repetition_handed o up r y x (handed m up)) (of_repetition up r y x)
      go None at = here
      go (Some (tasks.Elementary e)) at = here
      go (Some (tasks.Compound c)) at = here
      go (Some (tasks.Repeated t)) at = by_tiler t at (tiler_at t y) refl

  pub handed_reaches : (place : Place) → ReachedFrom place
  handed_reaches [] y x exists output = here
  handed_reaches (IntoPart k ∷ up) y x exists output = part_reached up k (handed_reaches up) y x exists output
  handed_reaches (IntoRepetition r ∷ up) y x exists output = repetition_reached up r (handed_reaches up) y x exists output
