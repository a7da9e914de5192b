-- What is followed keeps its home, and following stops; so levels rule cycles out, and settled values are a solution.
use Rattle.std.specs.Prelude.{◌≡◌, ℕ, ℤ, ◌<◌, ◌≤◌, length, slice_get, map, List, Some}
use Rattle.std.specs.List.{IsAmong}
use Rattle.aol_shape.specs.Shape.{rank}
use Rattle.aol_expr_tree.specs.declared.value.Val.{Val}
use Rattle.aol_expr_tree.specs.declared.value.Val.TheVariants.{Num}
use Rattle.aol_model_types.specs.declared.document.Model.{Model}
use Rattle.aol_model_types.specs.declared.job.InputArray.{InputArray}
use Rattle.aol_model_types.specs.Rules.{ShapesAgree}
use Rattle.aol_flat.specs.Tasks.{elementary_number}
use Rattle.aol_flat.specs.Place.{Element, elements_of}
use Rattle.aol_flat.specs.Inputs.{numbers_named}
use Rattle.aol_flat.specs.InstanceValue.{instance_value}
use Rattle.aol_flat.specs.Equation.{MainInput, ElementaryOutput, CopiedElement, IsSolution}
use Rattle.aol_flat.specs.Need.{Follows, IsAcyclic}
use Rattle.aol_flat.specs.Home.{home_of}
use Rattle.aol_flat.specs.Instance.{Instance, instances, read_elements, written_elements}
use Rattle.aol_flat.specs.InstanceNeed.{AreLevelsOf}
use Rattle.aol_flat.specs.Net.{valuation_of}
use Rattle.aol_flat.specs.Wired.{IsInput, IsOutput, IsWired}

-- both sides of an equation that is followed have one home
abbrev pub FollowedHomes : Type 0
FollowedHomes = (m : Model) → IsWired m → (p q : Element) → Follows m p q → home_of m p ≡ home_of m q

-- stored values are settled: the main inputs' are given, and the written ones are what their instances give
pub record AreSettled (m : Model) (inputs : List InputArray) (at_home : Element → Val) : Type 0 where
  pub main_input : (p : Element) (a : MainInput m p) (n : ℤ) → slice_get (numbers_named inputs p.port) (rank a.port.shape p.index) ≡ Some n → valuation_of m at_home p ≡ Num n
  pub elementary_output : (p : Element) (o : ElementaryOutput m p) →
      valuation_of m at_home p
      ≡ instance_value (elementary_number m o.task.name) o.task (map (valuation_of m at_home) (elements_of p.place o.task.ins)) o.number o.out p.index
  pub copied : (p q : Element) → CopiedElement m p q → valuation_of m at_home p ≡ valuation_of m at_home q

-- settled stored values make a solution: so one is constructed from a memory
abbrev pub SettledIsSolution : Type 0
SettledIsSolution = (m : Model) (inputs : List InputArray) (at_home : Element → Val) → IsWired m → AreSettled m inputs at_home → IsSolution m inputs (valuation_of m at_home)

-- following climbs through inputs, crosses to an output once, and descends through outputs
pub data Moves (m : Model) (p q : Element) : Type 0 where
  climbs : IsInput m p → IsInput m q → length q.place < length p.place → Moves m p q
  crosses : IsInput m p → IsOutput m q → Moves m p q
  descends : IsOutput m p → IsOutput m q → length p.place < length q.place → Moves m p q

-- so each step does, and following always stops
abbrev pub FollowingMoves : Type 0
FollowingMoves = (m : Model) → IsWired m → (p q : Element) → Follows m p q → Moves m p q

-- each elementary output is written, and each copy made, by a listed instance, which reads what the equation takes
pub record IsNumbered (m : Model) : Type 0 where
  pub runs : (p : Element) (o : ElementaryOutput m p) → (j : ℕ) × (i : Instance) × (slice_get (instances m) j ≡ Some i) × IsAmong (written_elements m i) p
      × ((q : Element) → IsAmong (elements_of p.place o.task.ins) q → IsAmong (read_elements m i) q)
  pub copies : (p q : Element) → CopiedElement m p q → (j : ℕ) × (i : Instance) × (slice_get (instances m) j ≡ Some i) × IsAmong (written_elements m i) p × IsAmong (read_elements m i) q

-- where instances have levels, and the hierarchy has a depth, no element needs itself
abbrev pub LevelsAreAcyclic : Type 0
LevelsAreAcyclic =
    (m : Model) → IsWired m → IsNumbered m → (depth : ℕ) → ((p q : Element) → Follows m p q → length q.place ≤ depth) → (level : List ℕ) → AreLevelsOf m level → IsAcyclic m

-- where the shapes of a model agree, its instances are numbered so
abbrev pub AgreeingIsNumbered : Type 0
AgreeingIsNumbered = (m : Model) → ShapesAgree m → IsNumbered m

-- so no element of such a model needs itself where its instances have levels
abbrev pub AgreeingLevelsAreAcyclic : Type 0
AgreeingLevelsAreAcyclic = (m : Model) → ShapesAgree m → (level : List ℕ) → AreLevelsOf m level → IsAcyclic m
