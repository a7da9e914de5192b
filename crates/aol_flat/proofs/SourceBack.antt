-- What the look-up of sources finds among the writings of tilers and reshapes.
use Rattle.std.proofs.Common.{◌≡◌, ℕ, ◌+◌, Bool, true, false, cond, List, [], ◌∷◌, map, Option, Some, None, is_some, option_map, unwrap_or, find, slice_get, sym, ◌∙◌, ap, refl, arith, subst}
use Rattle.std.specs.List.{IsAmong, enumerate_from}
use Rattle.aol_shape.specs.Lists.{same}
use Rattle.aol_shape.specs.Shape.{points, IsPointOf}
use Rattle.aol_tiler.specs.Matrices.{TilerOf}
use Rattle.aol_tiler.specs.Tiler.{address_point}
use Rattle.aol_expr_tree.specs.declared.port.Port.{Port}
use Rattle.aol_model_types.specs.declared.document.Model.{Model}
use Rattle.aol_model_types.specs.declared.task.Repeated.{Repeated}
use Rattle.aol_model_types.specs.declared.task.Task.TheVariants as tasks
use Rattle.aol_model_types.specs.declared.task.TilerOn.{TilerOn}
use Rattle.aol_model_types.specs.Rules.{task_named, outputs_of, outputs_named, port_shape}
use Rattle.aol_flat.specs.Place.{IntoRepetition, Element, task_at}
use Rattle.aol_flat.specs.Need.{by_outer_output}
use Rattle.aol_flat.specs.Targets.{Writing, writings_of, inner_shape, tiler_writings, earlier_writing}
use Rattle.aol_flat.specs.Wired.{IsOutput}
use Rattle.aol_flat.specs.Sources.{tiled_writings, written_by, inner_source, output_source, source_at, TakesFrom, following}
use Rattle.aol_flat.specs.Accept.{IsSound}
use Rattle.aol_flat.proofs.Among.{among_flat_map, among_map, get_among, points_inside}
use Rattle.aol_flat.proofs.Checked.{named_earlier}
use Rattle.aol_flat.proofs.Exists.{repetition_there}
use Rattle.aol_flat.proofs.Find.{and_then_some}
use Rattle.aol_flat.proofs.HasShape.{element_there, output_shaped, port_shaped}
use Rattle.aol_flat.proofs.Inside.{number_of_member}
use Rattle.aol_flat.proofs.Names.{same-equal}
use Rattle.aol_flat.proofs.Once.{there}
use Rattle.aol_flat.proofs.Sites.{find-passes}
use Rattle.aol_flat.proofs.SourceSteps.{from_output}
use Rattle.aol_flat.proofs.Twice.{earlier_at}
use Rattle.aol_flat.proofs.Wired.{tiler_there, tiling_out}

-- a writing of a tiler is one of its pairs
pub record IsPair (k : ℕ) (t : TilerOf) (array space pattern : List ℕ) (w : Writing) : Type 0 where
  pub repetition : List ℕ
  pub part : List ℕ
  pub inside : IsPointOf space repetition
  pub part_inside : IsPointOf pattern part
  pub is : w ≡ (record { item = k; rep = repetition; pattern = part }, address_point t array repetition part)

pub pair_of : (k : ℕ) (t : TilerOf) (array space pattern : List ℕ) (w : Writing) → IsAmong (writings_of k t array space pattern) w → IsPair k t array space pattern w
pair_of k t array space pattern w a =
    let r = among_flat_map (λ (s : List ℕ). map (λ (j : List ℕ). (record { item = k; rep = s; pattern = j }, address_point t array s j)) (points pattern)) (points space) w a in
    let i = among_map (λ (j : List ℕ). (record { item = k; rep = r.0; pattern = j }, address_point t array r.0 j)) (points pattern) w r.2 in
    record { repetition = r.0; part = i.0; inside = points_inside space r.0 r.1; part_inside = points_inside pattern i.0 i.1; is = i.2 }

-- a member of a list with its number
pub at_number : {X : Type 0} (xs : List X) (p : ℕ × X) → IsAmong (enumerate_from 0 xs) p → slice_get xs p.0 ≡ Some p.1
at_number xs p a =
    let k = number_of_member xs 0 p a in
    let number : 0 + k.0 ≡ k.0 = omega arith in
    ap (slice_get xs) (k.1 ∙ number) ∙ k.2

-- what stands in a list if a test holds
pub if_among : {X : Type 0} (b : Bool) (xs : List X) (x : X) → IsAmong (cond b xs []) x → (b ≡ true) × IsAmong xs x
if_among true xs x a = (refl, a)
if_among false xs x a = absurd (omega (arith, a.1.0))

module _ (m : Model) (sound : IsSound m) where
  -- an output of a repeated task, by the writing that is found
  outer_written : (p q : Element) (t : Repeated) → task_at m p.place ≡ Some (tasks.Repeated t) → (y : Port) → find (λ (x : Port). same x.name p.port) t.outs ≡ Some y → (w : Writing) → IsAmong (tiled_writings m t y) w
      → w.1 ≡ p.index → inner_source t p.place (Some w) ≡ Some q → TakesFrom m p q
  outer_written p q t at y found w among point h =
      let k = among_flat_map (tiler_writings m t y) (enumerate_from 0 t.tilers) w among in
      let o : TilerOn = k.0.1 in
      let listed : slice_get t.tilers k.0.0 ≡ Some o = at_number t.tilers k.0 k.1 in
      let chosen = if_among (same o.outer y.name) (writings_of k.0.0 o.tiler y.shape t.space (inner_shape m t o.inner)) w k.2 in
      let pair = pair_of k.0.0 o.tiler y.shape t.space (inner_shape m t o.inner) w chosen.1 in
      let outer : o.outer ≡ p.port = same-equal o.outer y.name chosen.0 ∙ same-equal y.name p.port (find-passes (λ (x : Port). same x.name p.port) t.outs y found) in
      let array : port_shape t.outs o.outer ≡ Some y.shape = ap (port_shape t.outs) outer ∙ ap (option_map (λ (x : Port). x.shape)) found in
      let source : Some (record { place = IntoRepetition pair.repetition ∷ p.place; port = o.inner; index = pair.part }) ≡ Some q =
      sym (ap (λ (v : Writing). inner_source t p.place (Some v)) pair.is
      ∙ ap (option_map (λ (x : TilerOn). record { place = IntoRepetition pair.repetition ∷ p.place; port = x.inner; index = pair.part })) listed) ∙ h in
      let is : record { place = IntoRepetition pair.repetition ∷ p.place; port = o.inner; index = pair.part } ≡ q = cc in
      let s = tiler_there m sound.shapes p.place t o at (get_among t.tilers k.0.0 o listed) in
      let inner = there (port_shape (outputs_named s.0.before t.task) o.inner) (tiling_out m sound.shapes p.place t s.0 o s.1 (ap is_some array)) in
      let u = port_shaped outputs_of (task_named s.0.before t.task) o.inner inner.0 inner.1 in
      let named : task_named m.tasks t.task ≡ Some u.0 = named_earlier m s.0.before (tasks.Repeated t ∷ s.0.rest) t.task u.0 s.0.split u.1 in
      let shape : inner_shape m t o.inner ≡ inner.0 =
      ap (λ x. unwrap_or (port_shape (unwrap_or (option_map outputs_of x) []) o.inner) []) named ∙ ap (λ x. unwrap_or x []) u.2 in
      let P : List ℕ → Type 0 = λ x. IsPointOf x q.index in
      let index : pair.part ≡ q.index = ap (λ (x : Element). x.index) is in
      let Q : List ℕ → Type 0 = λ x. IsPointOf (inner_shape m t o.inner) x in
      let inside : IsPointOf inner.0 q.index = subst P shape (subst Q index pair.part_inside) in
      let place : task_at m (IntoRepetition pair.repetition ∷ p.place) ≡ Some u.0 = repetition_there m sound p.place t s.0 pair.repetition u.0 at pair.inside u.1 in
      following (by_outer_output (record {
        task = t;
        at_place = at;
        tiling = o;
        listed = get_among t.tilers k.0.0 o listed;
        array = y.shape;
        outer_shape = array;
        repetition = pair.repetition;
        right = sym is ∙ ap (λ x. record { place = IntoRepetition pair.repetition ∷ p.place; port = o.inner; index = x }) index;
        left =
            ap (λ (x : List ℕ). record { place = p.place; port = x; index = p.index }) (sym outer)
            ∙ ap (λ (x : List ℕ). record { place = p.place; port = o.outer; index = x })
            (sym point ∙ (ap (λ (v : Writing). v.1) pair.is ∙ ap (address_point o.tiler y.shape pair.repetition) index));
        exists = element_there m q (IntoRepetition pair.repetition ∷ p.place) o.inner inner.0 (sym (ap (λ (x : Element). x.place) is)) (sym (ap (λ (x : Element). x.port) is))
            (output_shaped m sound (IntoRepetition pair.repetition ∷ p.place) u.0 o.inner inner.0 place u.2) inside;
      }))

  -- so it is what the look-up finds at an output of a repeated task
  pub outer_right : (p q : Element) (t : Repeated) → IsOutput m p → task_at m p.place ≡ Some (tasks.Repeated t) → source_at m p ≡ Some q → TakesFrom m p q
  outer_right p q t side at h = go (written_by (tiled_writings m t) t.outs p.port p.index) refl (sym (from_output m p side ∙ ap (λ o. output_source m o p.place p.port p.index) at) ∙ h)
    where
      go : (o : Option Writing) → written_by (tiled_writings m t) t.outs p.port p.index ≡ o → inner_source t p.place o ≡ Some q → TakesFrom m p q
      go None e f = cc
      go (Some w) e f =
          let y = and_then_some (λ (x : Port). earlier_writing (tiled_writings m t x) p.index) (find (λ (x : Port). same x.name p.port) t.outs) w e in
          let j = earlier_at (tiled_writings m t y.0) p.index w y.2 in
          outer_written p q t at y.0 y.1 w (get_among (tiled_writings m t y.0) j.0 w j.1) j.2 f
