-- What is printed of the outputs that a run hands back.
use Rattle.std.specs.Prelude.{ℕ, List, ◌++◌, flat_map, codes}
use Rattle.aol_shape.specs.Lines.{line}
use Rattle.aol_vsl.specs.Text.{shape_text}
use Rattle.aol_expr_tree.specs.declared.value.Val.{Val}
use Rattle.aol_model_types.specs.declared.document.Model.{Model}
use Rattle.aol_flat.specs.InstanceValue.{first_fault}
use Rattle.aol_flat.specs.Printed.{value_text}
use Rattle.aol_runner.specs.declared.outputs.OutputArray.{OutputArray}
use Rattle.aol_lines.specs.Reply.{ReplyOf}
use Rattle.aol_program.specs.Run.{fault_or_lines}

-- an output: its name, its shape, and its values in order of rank
abbrev pub array_line : OutputArray → List ℕ
array_line o = line (o.name ++ codes " " ++ shape_text o.shape ++ flat_map value_text o.vals)

-- the values of some outputs, by port and rank
abbrev pub values_of : List OutputArray → List Val
values_of outputs = flat_map (λ (o : OutputArray). o.vals) outputs

-- the first fault, or a line for each output
abbrev pub outputs_reply : Model → List OutputArray → ReplyOf
outputs_reply m outputs = fault_or_lines m (flat_map array_line outputs) (first_fault (values_of outputs))
