-- Two solutions agree wherever they are determined.
use Rattle.std.proofs.Common.{◌≡◌, suc, List, [], ◌∷◌, map, sym, ◌∙◌, ap, refl, arith}
use Rattle.std.specs.List.{IsAmong}
use Rattle.aol_model_types.specs.declared.document.Model.{Model}
use Rattle.aol_model_types.specs.declared.job.InputArray.{InputArray}
use Rattle.aol_flat.specs.Tasks.{elementary_number}
use Rattle.aol_flat.specs.Place.{Element, elements_of}
use Rattle.aol_flat.specs.InstanceValue.{instance_value}
use Rattle.aol_flat.specs.Inputs.{InputsFit}
use Rattle.aol_flat.specs.Equation.{Valuation, IsSolution}
use Rattle.aol_flat.specs.Need.{Follows, by_part_input, by_own_output, by_tiled_input, by_link, by_default, by_outer_output, IsDetermined, main_input, default_number, followed, copied, computed}
use Rattle.aol_flat.specs.Unique.{SolutionsAgree}
use Rattle.aol_flat.proofs.Given.{given_number}

-- an element of the rest of a list is one of the list
pub IsAmong-tail : {X : Type 0} (y : X) (xs : List X) (x : X) → IsAmong xs x → IsAmong (y ∷ xs) x
IsAmong-tail y xs x h = (suc h.0, (omega (arith, h.1.0), h.1.1))

-- valuations that agree at each of some elements give one list
pub same_values : (v w : Valuation) (es : List Element) → ((q : Element) → IsAmong es q → v q ≡ w q) → map v es ≡ map w es
same_values v w [] h = refl
same_values v w (e ∷ es) h =
    let first : v e ≡ w e = h e (0, (omega arith, refl)) in
    let rest : map v es ≡ map w es = same_values v w es (λ q a. h q (IsAmong-tail e es q a)) in
    cc

-- a solution has one value along what is followed
pub followed_value : (m : Model) (inputs : List InputArray) (v : Valuation) → IsSolution m inputs v → (p q : Element) → Follows m p q → v p ≡ v q
followed_value m inputs v s p q (by_part_input f) = s.part_input p q f
followed_value m inputs v s p q (by_own_output f) = s.own_output p q f
followed_value m inputs v s p q (by_tiled_input f) = s.tiled_input p q f
followed_value m inputs v s p q (by_link f) = s.linked_input p q f
followed_value m inputs v s p q (by_default f) = s.default_element p q f
followed_value m inputs v s p q (by_outer_output f) = s.outer_output p q f

module _ (m : Model) (inputs : List InputArray) (v w : Valuation) (fit : InputsFit m inputs) (s : IsSolution m inputs v) (t : IsSolution m inputs w) where
  pub agree : (p : Element) → IsDetermined m p → v p ≡ w p
  agree p (main_input a) =
      let n = given_number m inputs p a fit in
      s.main_input p a n.0 n.1 ∙ sym (t.main_input p a n.0 n.1)
  agree p (default_number {n = n} d) = s.default_number p n d ∙ sym (t.default_number p n d)
  agree p (followed {q = q} f d) = followed_value m inputs v s p q f ∙ (agree q d ∙ sym (followed_value m inputs w t p q f))
  agree p (copied {q = q} c d) = s.copied p q c ∙ (agree q d ∙ sym (t.copied p q c))
  agree p (computed o ds) =
      s.elementary_output p o
      ∙ (ap (λ vals. instance_value (elementary_number m o.task.name) o.task vals o.number o.out p.index)
      (same_values v w (elements_of p.place o.task.ins) (λ q a. agree q (ds q a)))
      ∙ sym (t.elementary_output p o))

pub solutions_agree : SolutionsAgree
solutions_agree m inputs v w fit s t p d = agree m inputs v w fit s t p d
