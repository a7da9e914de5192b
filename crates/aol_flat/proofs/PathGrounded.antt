-- An element with an end is grounded where the inputs of the instance that makes it are.
use Rattle.std.proofs.Common.{◌≡◌, ℕ, ℤ, List, [], ◌∷◌, Option, Some, None, slice_get, sym, ◌∙◌, ap, refl, subst}
use Rattle.std.specs.Prelude.{slice_index}
use Rattle.std.specs.List.{IsAmong}
use Rattle.std.specs.Option.{option_to_list}
use Rattle.aol_shape.specs.Shape.{rank}
use Rattle.aol_model_types.specs.declared.document.Model.{Model}
use Rattle.aol_flat.specs.Place.{Element, elements_of}
use Rattle.aol_flat.specs.Equation.{ElementaryOutput}
use Rattle.aol_flat.specs.Need.{by_following, by_copying, by_computing, IsGrounded, grounded}
use Rattle.aol_flat.specs.Instance.{Run, instances}
use Rattle.aol_flat.specs.Targets.{IsSingleAssignment}
use Rattle.aol_flat.specs.Reads.{IsGiven, by_main_input, by_default, by_computing as given_by_computing, by_copying as given_by_copying, by_following as given_by_following}
use Rattle.aol_flat.specs.Sources.{source_at, TakesFrom, following, copying}
use Rattle.aol_flat.specs.Accept.{IsSound}
use Rattle.aol_flat.specs.Keep.{EndsAt, at_input, at_number, at_output, by_following as ends_by_following, by_copying as ends_by_copying, old_end}
use Rattle.aol_flat.specs.declared.view.End.{End}
use Rattle.aol_flat.specs.declared.view.End.TheVariants.{Input, Const, Made}
use Rattle.aol_flat.proofs.Levelled.{two_sides}
use Rattle.aol_flat.proofs.SourceSteps.{wired, computed_output, main_input_side, computed_none, main_none, number_none}
use Rattle.aol_flat.proofs.Sources.{taken_found}

pub some_injective : {X : Type 0} (a b : X) → Some a ≡ Some b → a ≡ b
some_injective a b h = cc

pub none_is_some : {X : Type 0} (o : Option X) (x : X) → o ≡ None → o ≡ Some x → ⊥
none_is_some o x a b = cc

-- ---- an element with an end

-- an element with an end is given
pub given_end : (m : Model) (p : Element) (e : End) → EndsAt m p e → IsGiven m p
given_end m p e (at_input a) = by_main_input a
given_end m p e (at_number {n = n} d) = by_default n d
given_end m p e (at_output o j h) = given_by_computing o
given_end m p e (ends_by_following {q = q} f rest) = given_by_following f (given_end m q e rest)
given_end m p e (ends_by_copying c rest) = given_by_copying c

module _ (m : Model) (sound : IsSound m) (single : IsSingleAssignment m) where
  -- the inputs of the instance that makes an end are grounded
  abbrev pub Makes : End → Type 0
  Makes e = (j k x : ℕ) → e ≡ Made j k x → (p : Element) (o : ElementaryOutput m p) → slice_get (instances m) j ≡ Some (Run p.place) → (r : Element) → IsAmong (elements_of p.place o.task.ins) r → IsGrounded m r

  -- an element takes from one other
  one_source : (p q r : Element) → TakesFrom m p q → TakesFrom m p r → q ≡ r
  one_source p q r a b = some_injective q r (sym (taken_found m sound single p q a) ∙ taken_found m sound single p r b)

  -- so an element with an end is grounded where the inputs of the instance that makes it are
  pub path_grounded : (p : Element) (e : End) → EndsAt m p e → Makes e → IsGrounded m p
  path_grounded p e (at_input a) makes =
      grounded (λ r need. elim need [
        | by_following f ↦ absurd (none_is_some (source_at m p) r (main_none m sound p a) (taken_found m sound single p r (following f)))
        | by_copying c ↦ absurd (none_is_some (source_at m p) r (main_none m sound p a) (taken_found m sound single p r (copying c)))
        | by_computing o b ↦ absurd (two_sides m p (main_input_side m sound p a) (computed_output m sound p o))
      ])
  path_grounded p e (at_number {n = n} d) makes =
      grounded (λ r need. elim need [
        | by_following f ↦ absurd (none_is_some (source_at m p) r (number_none m sound p n d) (taken_found m sound single p r (following f)))
        | by_copying c ↦ absurd (none_is_some (source_at m p) r (number_none m sound p n d) (taken_found m sound single p r (copying c)))
        | by_computing o b ↦ absurd (two_sides m p ((wired m sound).default_number p n d) (computed_output m sound p o))
      ])
  path_grounded p e (at_output o j h) makes =
      grounded (λ r need. elim need [
        | by_following f ↦ absurd (none_is_some (source_at m p) r (computed_none m sound p o) (taken_found m sound single p r (following f)))
        | by_copying c ↦ absurd (none_is_some (source_at m p) r (computed_none m sound p o) (taken_found m sound single p r (copying c)))
        | by_computing o2 b ↦ makes j o.number (rank o.out.port.shape p.index) refl p o2 h r b
      ])
  path_grounded p e (ends_by_following {q = q} f rest) makes =
      let g : IsGrounded m q = path_grounded q e rest makes in
      let P : Element → Type 0 = IsGrounded m in
      grounded (λ r need. elim need [
        | by_following f2 ↦ subst P (one_source p q r (following f) (following f2)) g
        | by_copying c ↦ subst P (one_source p q r (following f) (copying c)) g
        | by_computing o b ↦ absurd (none_is_some (source_at m p) q (computed_none m sound p o) (taken_found m sound single p q (following f)))
      ])
  path_grounded p e (ends_by_copying {q = q} c rest) makes =
      let g : IsGrounded m q = path_grounded q e rest makes in
      let P : Element → Type 0 = IsGrounded m in
      grounded (λ r need. elim need [
        | by_following f2 ↦ subst P (one_source p q r (copying c) (following f2)) g
        | by_copying c2 ↦ subst P (one_source p q r (copying c) (copying c2)) g
        | by_computing o b ↦ absurd (none_is_some (source_at m p) q (computed_none m sound p o) (taken_found m sound single p q (copying c)))
      ])

-- the one element of an option as a list
pub only_one : (o : Option Element) (q : Element) → option_to_list o ≡ q ∷ [] → o ≡ Some q
only_one None q h = cc
only_one (Some x) q h = let e : x ≡ q = cc in ap Some e

-- what an end that no instance makes asks for
pub no_input : (m : Model) (k x : ℕ) (e : End) (old_of : List ℕ) → ◌≡◌ {A = End} (Input k x) (old_end old_of e) → (j k' x' : ℕ) → e ≡ Made j k' x' → ⊥
no_input m k x (Input a b) old_of h j k' x' f = cc
no_input m k x (Const n) old_of h j k' x' f = cc
no_input m k x (Made a b c) old_of h j k' x' f = cc

pub no_number : (m : Model) (n : ℤ) (e : End) (old_of : List ℕ) → ◌≡◌ {A = End} (Const n) (old_end old_of e) → (j k' x' : ℕ) → e ≡ Made j k' x' → ⊥
no_number m n (Input a b) old_of h j k' x' f = cc
no_number m n (Const z) old_of h j k' x' f = cc
no_number m n (Made a b c) old_of h j k' x' f = cc

pub same_made : (i k x : ℕ) (e : End) (old_of : List ℕ) → ◌≡◌ {A = End} (Made i k x) (old_end old_of e) → (j k' x' : ℕ) → e ≡ Made j k' x' → i ≡ slice_index old_of j
same_made i k x (Input a b) old_of h j k' x' f = cc
same_made i k x (Const z) old_of h j k' x' f = cc
same_made i k x (Made a b c) old_of h j k' x' f =
    let here : i ≡ slice_index old_of a = cc in
    let number : a ≡ j = cc in
    here ∙ ap (slice_index old_of) number
