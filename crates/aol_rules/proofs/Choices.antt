-- Choices of a default, and what feeds an input.
use Rattle.std.proofs.Common.{◌≡◌, ℕ, ◌+◌, List, [], ◌∷◌, ◌++◌, Bool, true, false, not, ◌&&◌, ◌||◌, nat_eq, refl, ap, ◌∙◌, arith}
use Rattle.std.specs.List.{list_all}
use Rattle.std.proofs.lemmas.Bool.Decides.{nat_tests}
use Rattle.aol_link.specs.declared.link.Choice.{Choice}
use Rattle.aol_link.specs.Links.{is_always}
use Rattle.aol_model_types.specs.Rules.{ends_with_always}

not_last : (a b : Bool) → (not a && b) ≡ (b && (not a && true))
not_last true true = refl
not_last true false = refl
not_last false true = refl
not_last false false = refl

swapped : (a b c : Bool) → (not a && (b && c)) ≡ (b && (not a && c))
swapped true true c = refl
swapped true false c = refl
swapped false b c = refl

-- the choices in front of the last one
pub ends_behind : (cs : List Choice) (c : Choice) → ends_with_always (cs ++ c ∷ []) ≡ (is_always c.when && list_all (λ d. not (is_always d.when)) cs)
ends_behind [] c = elim (is_always c.when) as (λ b. b ≡ (b && true)) [ true ↦ refl | false ↦ refl ]
ends_behind (d ∷ []) c = not_last (is_always d.when) (is_always c.when)
ends_behind (d ∷ e ∷ cs) c = ap (λ b. not (is_always d.when) && b) (ends_behind (e ∷ cs) c) ∙ swapped (is_always d.when) (is_always c.when) (list_all (λ d. not (is_always d.when)) (e ∷ cs))

-- one in all
pub one_of_two : (m n : ℕ) → nat_eq (m + n) 1 ≡ ((nat_eq m 1 && nat_eq n 0) || (nat_eq m 0 && nat_eq n 1))
one_of_two m n = grind (arith, nat_tests)
