-- A model whose main task computes: its main outputs, by the numbers that are given.
use Rattle.std.specs.Prelude.{◌≡◌, ℕ, List, [], ◌++◌, map, Some, slice_get}
use Rattle.aol_shape.specs.Shape.{points}
use Rattle.aol_expr_tree.specs.declared.value.Val.{Val}
use Rattle.aol_model_types.specs.declared.document.Model.{Model}
use Rattle.aol_model_types.specs.declared.job.InputArray.{InputArray}
use Rattle.aol_model_types.specs.declared.task.Elementary.{Elementary}
use Rattle.aol_model_types.specs.declared.task.OutPort.{OutPort}
use Rattle.aol_model_types.specs.declared.task.Task.TheVariants as tasks
use Rattle.aol_model_types.specs.Rules.{ShapesAgree}
use Rattle.aol_flat.specs.Tasks.{main_task, elementary_number}
use Rattle.aol_flat.specs.Place.{port_elements}
use Rattle.aol_flat.specs.Inputs.{numbers_for, InputsFit}
use Rattle.aol_flat.specs.InstanceValue.{computed}
use Rattle.aol_flat.specs.Equation.{Valuation, IsSolution}

-- no two places of a list hold the same name
abbrev pub AreDifferent : List (List ℕ) → Type 0
AreDifferent names = (j k : ℕ) (name : List ℕ) → slice_get names j ≡ Some name → slice_get names k ≡ Some name → j ≡ k

-- the names of the ports of a task, inputs before outputs
abbrev pub port_names : Elementary → List (List ℕ)
port_names e = map (λ p. p.name) e.ins ++ map (λ o. o.port.name) e.outs

-- the element at point x of output port k, which is `out`, of the main task e
abbrev pub main_value : Model → Elementary → List InputArray → ℕ → OutPort → List ℕ → Val
main_value m e inputs k out x = computed (elementary_number m e.name) e (numbers_for inputs e.ins) k out x

-- there is a solution, and each solution gives these values to the main outputs, each port's in order of rank
pub record IsSolvedBy (m : Model) (e : Elementary) (inputs : List InputArray) : Type 0 where
  pub exists : (v : Valuation) × IsSolution m inputs v
  pub outputs : (v : Valuation) → IsSolution m inputs v → (k : ℕ) (out : OutPort) → slice_get e.outs k ≡ Some out
      → map v (port_elements [] out.port) ≡ map (main_value m e inputs k out) (points out.port.shape)

-- so it is where the main task is elementary, its ports have different names, and the inputs fit
abbrev pub ElementaryMainIsSolved : Type 0
ElementaryMainIsSolved =
    (m : Model) (e : Elementary) (inputs : List InputArray) → main_task m ≡ Some (tasks.Elementary e) → AreDifferent (port_names e) → InputsFit m inputs
    → IsSolvedBy m e inputs

-- where the shapes of a model agree, the ports of an elementary main task have different names
abbrev pub MainPortsDiffer : Type 0
MainPortsDiffer = (m : Model) (e : Elementary) → ShapesAgree m → main_task m ≡ Some (tasks.Elementary e) → AreDifferent (port_names e)
