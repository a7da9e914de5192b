-- Which elements an element needs.
use Rattle.std.specs.Prelude.{List, ℤ}
use Rattle.std.specs.List.{IsAmong}
use Rattle.aol_model_types.specs.declared.document.Model.{Model}
use Rattle.aol_flat.specs.Place.{Element, elements_of}
use Rattle.aol_flat.specs.Equation.{MainInput, ElementaryOutput, PartInput, OwnOutput, TiledInput, EarlierOutput, DefaultNumber, DefaultElement, OuterOutput, CopiedElement}

-- p has its value from q by a plain link, a tiler or a link between repetitions
pub data Follows (m : Model) (p q : Element) : Type 0 where
  by_part_input : PartInput m p q → Follows m p q
  by_own_output : OwnOutput m p q → Follows m p q
  by_tiled_input : TiledInput m p q → Follows m p q
  by_link : EarlierOutput m p q → Follows m p q
  by_default : DefaultElement m p q → Follows m p q
  by_outer_output : OuterOutput m p q → Follows m p q

-- the element on the left of an equation needs each element on its right
pub data Needs (m : Model) (p q : Element) : Type 0 where
  by_following : Follows m p q → Needs m p q
  by_copying : CopiedElement m p q → Needs m p q
  by_computing : (o : ElementaryOutput m p) → IsAmong (elements_of p.place o.task.ins) q → Needs m p q

-- a list of needs leads from p to q
pub data Leads (m : Model) : Element → Element → Type 0 where
  one : {p q : Element} → Needs m p q → Leads m p q
  more : {p q r : Element} → Needs m p q → Leads m q r → Leads m p r

-- a list of needs leads from p back to p
abbrev pub NeedsItself : Model → Element → Type 0
NeedsItself m p = Leads m p p

-- no element of the model needs itself
abbrev pub IsAcyclic : Model → Type 0
IsAcyclic m = (p : Element) → NeedsItself m p → ⊥

-- every list of needs from p comes to an end
pub data IsGrounded (m : Model) : Element → Type 0 where
  grounded : {p : Element} → ((q : Element) → Needs m p q → IsGrounded m q) → IsGrounded m p

-- the equations lead from p to main inputs and default numbers alone, in finitely many steps, whichever way they are followed
pub data IsDetermined (m : Model) : Element → Type 0 where
  main_input : {p : Element} → MainInput m p → IsDetermined m p
  default_number : {p : Element} {n : ℤ} → DefaultNumber m p n → IsDetermined m p
  followed : {p q : Element} → Follows m p q → IsDetermined m q → IsDetermined m p
  copied : {p q : Element} → CopiedElement m p q → IsDetermined m q → IsDetermined m p
  computed : {p : Element} (o : ElementaryOutput m p) → ((q : Element) → IsAmong (elements_of p.place o.task.ins) q → IsDetermined m q) → IsDetermined m p

-- whatever one of these elements needs is one of them
abbrev pub IsClosed : Model → List Element → Type 0
IsClosed m all = (p q : Element) → IsAmong all p → Needs m p q → IsAmong all q
