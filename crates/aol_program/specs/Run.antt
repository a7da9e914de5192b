-- What a run prints.
use Rattle.std.specs.Prelude.{◌≡◌, ℕ, List, Option, Some, None}
use Rattle.aol_expr_tree.specs.declared.value.Site.{Site}
use Rattle.aol_model_types.specs.declared.document.Model.{Model}
use Rattle.aol_model_types.specs.declared.job.InputArray.{InputArray}
use Rattle.aol_flat.specs.InstanceValue.{first_fault}
use Rattle.aol_flat.specs.Equation.{Valuation, IsSolution}
use Rattle.aol_flat.specs.Printed.{output_lines, main_values, fault_line}
use Rattle.aol_lines.specs.declared.status.StatusKind.TheVariants.{Done, Fault}
use Rattle.aol_lines.specs.Reply.{ReplyOf, reply}

-- the line of the first fault, where there is one; else these lines
abbrev pub fault_or_lines : Model → List ℕ → Option Site → ReplyOf
fault_or_lines m lines (Some s) = reply Fault (fault_line m s)
fault_or_lines m lines None = reply Done lines

-- what a solution prints: its first fault among the main outputs, by port and rank, or the lines of all of them
abbrev pub run_reply : Model → Valuation → ReplyOf
run_reply m v = fault_or_lines m (output_lines m v) (first_fault (main_values m v))

-- there is a solution, and this is what every solution prints
pub record IsRunReply (m : Model) (inputs : List InputArray) (r : ReplyOf) : Type 0 where
  pub exists : (v : Valuation) × IsSolution m inputs v
  pub of_every : (v : Valuation) → IsSolution m inputs v → r ≡ run_reply m v
