-- Where the inputs fit, each element of a main input has a number.
use Rattle.std.proofs.Common.{◌≡◌, ℕ, zero, suc, ◌<◌, ℤ, List, [], ◌∷◌, length, get_or, pos, Some, slice_get, option_map, unwrap_or, ap, subst, arith}
use Rattle.std.specs.List.{AllByRecursion}
use Rattle.std.proofs.lemmas.Option.{slice_get-get_or, none-some}
use Rattle.aol_shape.specs.Shape.{size, rank}
use Rattle.aol_shape.proofs.Points.{rank-lt-size}
use Rattle.aol_expr_tree.specs.declared.port.Port.{Port}
use Rattle.aol_model_types.specs.declared.document.Model.{Model}
use Rattle.aol_model_types.specs.declared.job.InputArray.{InputArray}
use Rattle.aol_model_types.specs.Rules.{inputs_of}
use Rattle.aol_flat.specs.Tasks.{main_inputs}
use Rattle.aol_flat.specs.Place.{Element}
use Rattle.aol_flat.specs.Inputs.{numbers_named, IsGivenFor, InputsFit}
use Rattle.aol_flat.specs.Equation.{MainInput}

-- what holds of all elements holds of one
pub AllByRecursion-at : {X : Type 0} (P : X → Type 0) (xs : List X) (k : ℕ) (x : X) → AllByRecursion P xs → slice_get xs k ≡ Some x → P x
AllByRecursion-at P [] k x all at = absurd (none-some x at)
AllByRecursion-at P (y ∷ ys) zero x all at = let e : y ≡ x = cc in subst P e all.0
AllByRecursion-at P (y ∷ ys) (suc k) x all at = AllByRecursion-at P ys k x all.1 at

-- the number that is given for an element of a main input
pub given_number : (m : Model) (inputs : List InputArray) (p : Element) (a : MainInput m p) → InputsFit m inputs
    → (n : ℤ) × (slice_get (numbers_named inputs p.port) (rank a.port.shape p.index) ≡ Some n)
given_number m inputs p a fit =
    let P : List Port → Type 0 = λ ports. AllByRecursion (IsGivenFor inputs) ports in
    let ports : main_inputs m ≡ inputs_of a.task = ap (λ t. unwrap_or (option_map inputs_of t) []) a.at_place in
    let sized : length (numbers_named inputs a.port.name) ≡ size a.port.shape =
    AllByRecursion-at (IsGivenFor inputs) (inputs_of a.task) a.number a.port (subst P ports fit) a.listed in
    let inside : rank a.port.shape p.index < length (numbers_named inputs p.port) =
    omega (arith, rank-lt-size a.port.shape p.index a.inside, sized, ap (λ name. length (numbers_named inputs name)) a.named) in
    (get_or (numbers_named inputs p.port) (rank a.port.shape p.index) (pos 0), slice_get-get_or (numbers_named inputs p.port) (rank a.port.shape p.index) (pos 0) inside)
