-- What inputs that aren't wrong give.
use Rattle.std.proofs.Common.{◌≡◌, Bool, true, false, cond, List, [], ◌∷◌, length, Option, Some, None, ◌==◌, codes, refl, eqb-true}
use Rattle.std.specs.List.{AllByRecursion}
use Rattle.aol_shape.specs.Lists.{or_else}
use Rattle.aol_shape.specs.Shape.{size}
use Rattle.aol_expr_tree.specs.declared.port.Port.{Port}
use Rattle.aol_model_types.specs.declared.document.Model.{Model}
use Rattle.aol_model_types.specs.declared.job.InputArray.{InputArray}
use Rattle.aol_flat.specs.Tasks.{main_inputs}
use Rattle.aol_flat.specs.Inputs.{numbers_named, IsGivenFor, InputsFit}
use Rattle.aol_program.specs.Inputs.{is_given, first_unfit, first_unknown, first_wrong_input}

ports-fit : (inputs : List InputArray) (ports : List Port) → first_unfit inputs ports ≡ None → AllByRecursion (IsGivenFor inputs) ports
ports-fit inputs [] h = tt
ports-fit inputs (p ∷ ports) h = by_given (is_given inputs p.name) h (ports-fit inputs ports)
  where
    by_size : (b : Bool) → (length (numbers_named inputs p.name) == size p.shape) ≡ b → cond b (first_unfit inputs ports) (Some (p.name, codes "length")) ≡ None
        → (first_unfit inputs ports ≡ None → AllByRecursion (IsGivenFor inputs) ports) → AllByRecursion (IsGivenFor inputs) (p ∷ ports)
    by_size true e g rest = (eqb-true (length (numbers_named inputs p.name)) (size p.shape) e, rest g)
    by_size false e g rest = cc

    by_given : (b : Bool) → cond b (cond (length (numbers_named inputs p.name) == size p.shape) (first_unfit inputs ports) (Some (p.name, codes "length"))) (Some (p.name, codes "absent")) ≡ None
        → (first_unfit inputs ports ≡ None → AllByRecursion (IsGivenFor inputs) ports) → AllByRecursion (IsGivenFor inputs) (p ∷ ports)
    by_given true g rest = by_size (length (numbers_named inputs p.name) == size p.shape) refl g rest
    by_given false g rest = cc

first-none : {X : Type 0} (a b : Option X) → or_else a b ≡ None → a ≡ None
first-none None b h = refl
first-none (Some x) b h = cc

-- inputs of which none is wrong fit
pub inputs-fit : (m : Model) (inputs : List InputArray) → first_wrong_input m inputs ≡ None → InputsFit m inputs
inputs-fit m inputs h = ports-fit inputs (main_inputs m) (first-none (first_unfit inputs (main_inputs m)) (first_unknown (main_inputs m) inputs) h)
