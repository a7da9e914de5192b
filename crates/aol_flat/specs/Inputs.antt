-- The numbers that are given for the main inputs.
use Rattle.std.specs.Prelude.{◌≡◌, ℕ, ℤ, List, [], length, find, flat_map, option_map, unwrap_or}
use Rattle.std.specs.List.{AllByRecursion}
use Rattle.aol_shape.specs.Lists.{same}
use Rattle.aol_shape.specs.Shape.{size}
use Rattle.aol_expr_tree.specs.declared.port.Port.{Port}
use Rattle.aol_model_types.specs.declared.document.Model.{Model}
use Rattle.aol_model_types.specs.declared.job.InputArray.{InputArray}
use Rattle.aol_flat.specs.Tasks.{main_inputs}

-- the numbers of the first array that has this name, in order of rank; none where there is no such array
abbrev pub numbers_named : List InputArray → List ℕ → List ℤ
numbers_named inputs name = unwrap_or (option_map (λ (a : InputArray). a.nums) (find (λ (a : InputArray). same a.name name) inputs)) []

-- the numbers for some ports, one port after another
abbrev pub numbers_for : List InputArray → List Port → List ℤ
numbers_for inputs ports = flat_map (λ (p : Port). numbers_named inputs p.name) ports

-- there are as many numbers of a port's name as its shape has points
abbrev pub IsGivenFor : List InputArray → Port → Type 0
IsGivenFor inputs p = length (numbers_named inputs p.name) ≡ size p.shape

-- so it is for each main input
abbrev pub InputsFit : Model → List InputArray → Type 0
InputsFit m inputs = AllByRecursion (IsGivenFor inputs) (main_inputs m)
