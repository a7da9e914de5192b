-- What a run answers.
use Rattle.std.specs.Prelude.{◌≡◌, ℕ, ◌+◌, List, [], ◌∷◌, map, slice_get}
use Rattle.aol_shape.specs.Lists.{numbers_from}
use Rattle.aol_shape.specs.Shape.{size}
use Rattle.aol_expr_tree.specs.declared.port.Port.{Port}
use Rattle.aol_expr_tree.specs.declared.value.Val.{Val}
use Rattle.aol_model_types.specs.declared.document.Model.{Model}
use Rattle.aol_model_types.specs.declared.job.InputArray.{InputArray}
use Rattle.aol_flat.specs.Tasks.{main_outputs}
use Rattle.aol_flat.specs.Place.{port_elements}
use Rattle.aol_flat.specs.Equation.{Valuation, IsSolution}
use Rattle.aol_level.specs.Puts.{value_in}
use Rattle.aol_level.specs.declared.kept.Kept.{Kept}
use Rattle.aol_runner.specs.declared.outputs.OutputArray.{OutputArray}

-- the values of a main output, by rank
abbrev pub output_of : Valuation → Port → OutputArray
output_of v p = record { name = p.name; shape = p.shape; vals = map v (port_elements [] p) }

-- a solution exists, and the outputs are those of every solution, in port order
pub record AreOutputs (m : Model) (inputs : List InputArray) (outputs : List OutputArray) : Type 0 where
  pub exists : (v : Valuation) × IsSolution m inputs v
  pub of_every : (v : Valuation) → IsSolution m inputs v → outputs ≡ map (output_of v) (main_outputs m)

-- ---- out of the memory after a run

-- the value of a cell
abbrev pub value_at : List Kept → ℕ → Val
value_at memory c = value_in (slice_get memory c)

-- the output at a port, whose values are in the cells from one on
abbrev pub taken_output : List Kept → ℕ → Port → OutputArray
taken_output memory first p = record { name = p.name; shape = p.shape; vals = map (value_at memory) (numbers_from first (size p.shape)) }

-- the outputs at some ports, one port after another
abbrev pub taken_outputs : List Kept → ℕ → List Port → List OutputArray
taken_outputs memory first [] = []
taken_outputs memory first (p ∷ ps) = taken_output memory first p ∷ taken_outputs memory (first + size p.shape) ps
