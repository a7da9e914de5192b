-- Inputs that aren't those of the main task.
use Rattle.std.specs.Prelude.{ℕ, List, [], ◌∷◌, map, length, Bool, ◌==◌, Option, Some, None, codes, if◌then◌else◌}
use Rattle.std.specs.List.{list_any}
use Rattle.aol_shape.specs.Lists.{same, or_else}
use Rattle.aol_shape.specs.Shape.{size}
use Rattle.aol_expr_tree.specs.declared.port.Port.{Port}
use Rattle.aol_model_types.specs.declared.document.Model.{Model}
use Rattle.aol_model_types.specs.declared.job.InputArray.{InputArray}
use Rattle.aol_flat.specs.Tasks.{main_inputs}
use Rattle.aol_flat.specs.Inputs.{numbers_named}

-- an array has the name
abbrev pub is_given : List InputArray → List ℕ → Bool
is_given inputs name = list_any (λ (a : InputArray). same a.name name) inputs

-- a port has the name
abbrev pub is_asked : List Port → List ℕ → Bool
is_asked ports name = list_any (λ (p : Port). same name p.name) ports

-- a name, and what is wrong with the input of that name
abbrev pub Unfit : Type 0
Unfit = List ℕ × List ℕ

-- the first port whose array is absent, or has another length than the port has points
abbrev pub first_unfit : List InputArray → List Port → Option Unfit
first_unfit inputs [] = None
first_unfit inputs (p ∷ ports) =
    if is_given inputs p.name
    then (if length (numbers_named inputs p.name) == size p.shape then first_unfit inputs ports else Some (p.name, codes "length"))
    else Some (p.name, codes "absent")

-- the first array whose name no port has
abbrev pub first_unknown : List Port → List InputArray → Option Unfit
first_unknown ports [] = None
first_unknown ports (a ∷ inputs) = if is_asked ports a.name then first_unknown ports inputs else Some (a.name, codes "unknown")

-- the first of the main inputs, by port, that isn't given; else the first array that is none of them
abbrev pub first_wrong_input : Model → List InputArray → Option Unfit
first_wrong_input m inputs = or_else (first_unfit inputs (main_inputs m)) (first_unknown (main_inputs m) inputs)

-- the arrays of these ports, by name
abbrev pub given_arrays : List InputArray → List Port → List InputArray
given_arrays inputs ports = map (λ p. record { name = p.name; nums = numbers_named inputs p.name }) ports
