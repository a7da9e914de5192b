-- Where following ends is no deeper than where it starts.
use Rattle.std.proofs.Common.{◌≡◌, ℕ, suc, ◌<◌, ◌≤◌, List, [], ◌∷◌, length, Option, Some, None, unwrap_or, sym, ap, refl, arith, subst, ◌⊎◌, inl, inr}
use Rattle.aol_tiler.specs.Tiler.{address_point}
use Rattle.aol_link.specs.declared.link.Choice.{Choice}
use Rattle.aol_link.specs.declared.link.Fallback.{Fallback}
use Rattle.aol_link.specs.declared.link.Fallback.TheVariants.{Number, Tiled}
use Rattle.aol_link.specs.declared.link.Interlink.{Interlink}
use Rattle.aol_link.specs.Links.{source_repetition}
use Rattle.aol_model_types.specs.declared.document.Model.{Model}
use Rattle.aol_model_types.specs.declared.task.Compound.{Compound}
use Rattle.aol_model_types.specs.declared.task.Plain.{Plain}
use Rattle.aol_model_types.specs.declared.task.Repeated.{Repeated}
use Rattle.aol_model_types.specs.declared.task.Task.{Task}
use Rattle.aol_model_types.specs.declared.task.Task.TheVariants as tasks
use Rattle.aol_model_types.specs.declared.task.TilerOn.{TilerOn}
use Rattle.aol_model_types.specs.Rules.{port_shape}
use Rattle.aol_flat.specs.Tasks.{part_number}
use Rattle.aol_flat.specs.Place.{Place, IntoPart, IntoRepetition, Element, task_at}
use Rattle.aol_flat.specs.Home.{Origin, Stored, Output, Default, Unfed, Kept, origin, origin_home, handed, link_into_part, link_up, tiler_at, link_into_repetition, default_choice, linked_origin, end_origin, part_origin, repetition_origin, tiled_origin, link_origin, source_origin, choice_origin, fallback_origin, link_handed, tiler_handed, part_handed, repetition_handed}

-- ---- outputs

-- an output is handed to an instance further up, or not at all
abbrev pub StaysOrClimbs : Element → Element → Type 0
StaysOrClimbs e f = (f ≡ e) ⊎ (length f.place < length e.place)

at_most : (e f : Element) → StaysOrClimbs e f → length f.place ≤ length e.place
at_most e f (inl h) = omega (arith, ap (λ (x : Element). length x.place) h)
at_most e f (inr h) = omega (arith, h)

module _ (up : Place) (outer : List ℕ → List ℕ → Element) (within : (y x : List ℕ) → length (outer y x).place ≤ length up) where
  part_climbs : (o : Option Task) (k : ℕ) (y x : List ℕ) → StaysOrClimbs (record { place = IntoPart k ∷ up; port = y; index = x }) (part_handed o up k y x outer)
  part_climbs None k y x = inl refl
  part_climbs (Some (tasks.Elementary e)) k y x = inl refl
  part_climbs (Some (tasks.Repeated t)) k y x = inl refl
  part_climbs (Some (tasks.Compound c)) k y x = go (link_up c k y)
    where
      go : (o : Option Plain) → StaysOrClimbs (record { place = IntoPart k ∷ up; port = y; index = x }) (link_handed (record { place = IntoPart k ∷ up; port = y; index = x }) x outer o)
      go None = inl refl
      go (Some l) = let w = within l.to.port x in inr (omega (arith, w))

  repetition_climbs : (o : Option Task) (r y x : List ℕ) → StaysOrClimbs (record { place = IntoRepetition r ∷ up; port = y; index = x }) (repetition_handed o up r y x outer)
  repetition_climbs None r y x = inl refl
  repetition_climbs (Some (tasks.Elementary e)) r y x = inl refl
  repetition_climbs (Some (tasks.Compound c)) r y x = inl refl
  repetition_climbs (Some (tasks.Repeated t)) r y x = go (tiler_at t y)
    where
      go : (o : Option TilerOn) → StaysOrClimbs (record { place = IntoRepetition r ∷ up; port = y; index = x }) (tiler_handed t (record { place = IntoRepetition r ∷ up; port = y; index = x }) r x outer o)
      go None = inl refl
      go (Some o) = let w = within o.outer (address_point o.tiler (unwrap_or (port_shape t.outs o.outer) []) r x) in inr (omega (arith, w))

pub handed_climbs : (m : Model) (place : Place) (y x : List ℕ) → StaysOrClimbs (record { place = place; port = y; index = x }) (handed m place y x)
handed_climbs m [] y x = inl refl
handed_climbs m (IntoPart k ∷ up) y x =
    part_climbs up (handed m up) (λ z w. at_most (record { place = up; port = z; index = w }) (handed m up z w) (handed_climbs m up z w)) (task_at m up) k y x
handed_climbs m (IntoRepetition r ∷ up) y x =
    repetition_climbs up (handed m up) (λ z w. at_most (record { place = up; port = z; index = w }) (handed m up z w) (handed_climbs m up z w)) (task_at m up) r y x

pub handed_within : (m : Model) (place : Place) (y x : List ℕ) → length (handed m place y x).place ≤ length place
handed_within m place y x = at_most (record { place = place; port = y; index = x }) (handed m place y x) (handed_climbs m place y x)

-- ---- inputs

-- following ends after at most so many steps down, if at an element
abbrev pub Within : ℕ → Origin → Type 0
Within n (Stored e) = length e.place ≤ n
Within n (Output e) = length e.place ≤ n
Within n (Default d) = Unit {0}
Within n Unfed = Unit {0}

wider : (n : ℕ) (o : Origin) → Within n o → Within (suc n) o
wider n (Stored e) h = omega (arith, h)
wider n (Output e) h = omega (arith, h)
wider n (Default d) h = tt
wider n Unfed h = tt

-- an input of part k is stored itself, leads further up, or to the output of a part of the same compound
pub data PartLeads (c : Compound) (up : Place) (k : ℕ) (u x : List ℕ) (o : Origin) : Type 0 where
  unlinked : link_into_part c k u ≡ None → o ≡ Stored (record { place = IntoPart k ∷ up; port = u; index = x }) → PartLeads c up k u x o
  outward : Within (length up) o → PartLeads c up k u x o
  across : (l : Plain) (name : List ℕ) → link_into_part c k u ≡ Some l → l.from.part ≡ Some name
      → o ≡ Output (record { place = IntoPart (part_number c name) ∷ up; port = l.from.port; index = x }) → PartLeads c up k u x o

-- an input of repetition r leads further up, or to the output of a repetition of the same space
pub data RepetitionLeads (t : Repeated) (up : Place) (r u x : List ℕ) (o : Origin) : Type 0 where
  outside : Within (length up) o → RepetitionLeads t up r u x o
  earlier : (l : Interlink) (source : List ℕ) → link_into_repetition t u ≡ Some l → source_repetition l.wrap l.distance t.space r ≡ Some source
      → o ≡ Output (record { place = IntoRepetition source ∷ up; port = l.from; index = x }) → RepetitionLeads t up r u x o

module _ (up : Place) (outer : List ℕ → List ℕ → Origin) (within : (u x : List ℕ) → Within (length up) (outer u x)) where
  pub part_leads : (c : Compound) (k : ℕ) (u x : List ℕ) → PartLeads c up k u x (linked_origin c up k u x outer (link_into_part c k u))
  part_leads c k u x = go (link_into_part c k u) refl
    where
      from_end : (l : Plain) → link_into_part c k u ≡ Some l → (p : Option (List ℕ)) → l.from.part ≡ p → PartLeads c up k u x (end_origin c up x outer l.from.port p)
      from_end l e None f = outward (within l.from.port x)
      from_end l e (Some name) f = across l name e f refl

      go : (o : Option Plain) → link_into_part c k u ≡ o → PartLeads c up k u x (linked_origin c up k u x outer o)
      go None e = unlinked e refl
      go (Some l) e = from_end l e l.from.part refl

  pub repetition_leads : (t : Repeated) (r u x : List ℕ) → RepetitionLeads t up r u x (tiled_origin t up r u x outer (tiler_at t u))
  repetition_leads t r u x = go (tiler_at t u)
    where
      by_take : (d : Fallback) → Within (length up) (fallback_origin t r x outer d)
      by_take (Number n) = tt
      by_take (Tiled name tiler) = within name (address_point tiler (unwrap_or (port_shape t.ins name) []) r x)

      by_choice : (d : Option Choice) → Within (length up) (choice_origin t r x outer d)
      by_choice None = tt
      by_choice (Some d) = by_take d.take

      by_source : (l : Interlink) → link_into_repetition t u ≡ Some l → (s : Option (List ℕ)) → source_repetition l.wrap l.distance t.space r ≡ s → RepetitionLeads t up r u x (source_origin t up r x outer l s)
      by_source l e None f = outside (by_choice (default_choice l t.space r))
      by_source l e (Some source) f = earlier l source e f refl

      by_link : (o : Option Interlink) → link_into_repetition t u ≡ o → RepetitionLeads t up r u x (link_origin t up r x outer o)
      by_link None e = outside tt
      by_link (Some l) e = by_source l e (source_repetition l.wrap l.distance t.space r) refl

      go : (o : Option TilerOn) → RepetitionLeads t up r u x (tiled_origin t up r u x outer o)
      go (Some o) = outside (within o.outer (address_point o.tiler (unwrap_or (port_shape t.ins o.outer) []) r x))
      go None = by_link (link_into_repetition t u) refl

  part_within : (o : Option Task) (k : ℕ) (u x : List ℕ) → Within (suc (length up)) (part_origin o up k u x outer)
  part_within None k u x = tt
  part_within (Some (tasks.Elementary e)) k u x = tt
  part_within (Some (tasks.Repeated t)) k u x = tt
  part_within (Some (tasks.Compound c)) k u x = go (linked_origin c up k u x outer (link_into_part c k u)) (part_leads c k u x)
    where
      go : (o : Origin) → PartLeads c up k u x o → Within (suc (length up)) o
      go o (unlinked e f) = subst (Within (suc (length up))) (sym f) (omega arith)
      go o (outward w) = wider (length up) o w
      go o (across l name e g f) = subst (Within (suc (length up))) (sym f) (omega arith)

  repetition_within : (o : Option Task) (r u x : List ℕ) → Within (suc (length up)) (repetition_origin o up r u x outer)
  repetition_within None r u x = tt
  repetition_within (Some (tasks.Elementary e)) r u x = tt
  repetition_within (Some (tasks.Compound c)) r u x = tt
  repetition_within (Some (tasks.Repeated t)) r u x = go (tiled_origin t up r u x outer (tiler_at t u)) (repetition_leads t r u x)
    where
      go : (o : Origin) → RepetitionLeads t up r u x o → Within (suc (length up)) o
      go o (outside w) = wider (length up) o w
      go o (earlier l source e g f) = subst (Within (suc (length up))) (sym f) (omega arith)

pub origin_within : (m : Model) (place : Place) (u x : List ℕ) → Within (length place) (origin m place u x)
origin_within m [] u x = omega arith
origin_within m (IntoPart k ∷ up) u x = part_within up (origin m up) (origin_within m up) (task_at m up) k u x
origin_within m (IntoRepetition r ∷ up) u x = repetition_within up (origin m up) (origin_within m up) (task_at m up) r u x

-- so is the home
pub home_within : (m : Model) (n : ℕ) (o : Origin) (e : Element) → Within n o → origin_home m o ≡ Kept e → length e.place ≤ n
home_within m n (Stored f) e w h = let same : f ≡ e = cc in omega (arith, w, ap (λ (x : Element). length x.place) same)
home_within m n (Output f) e w h =
    let same : handed m f.place f.port f.index ≡ e = cc in
    omega (arith, w, handed_within m f.place f.port f.index, ap (λ (x : Element). length x.place) same)
home_within m n (Default d) e w h = cc
home_within m n Unfed e w h = cc
