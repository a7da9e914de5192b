-- The printed lines that hold values of main outputs.
use Rattle.std.specs.Prelude.{ℕ, List, [], ◌∷◌, ◌++◌, map, flat_map, Option, option_map, unwrap_or, slice_get, codes}
use Rattle.std.specs.Fmt.{signed_decimal}
use Rattle.aol_shape.specs.Lines.{line, spaced}
use Rattle.aol_shape.specs.Shape.{point_at}
use Rattle.aol_vsl.specs.Text.{shape_text}
use Rattle.aol_expr_tree.specs.declared.port.Port.{Port}
use Rattle.aol_expr_tree.specs.declared.value.Kind.{Kind}
use Rattle.aol_expr_tree.specs.declared.value.Kind.TheVariants.{Overflow, Divide, Index, Range}
use Rattle.aol_expr_tree.specs.declared.value.Site.{Site}
use Rattle.aol_expr_tree.specs.declared.value.Val.{Val}
use Rattle.aol_expr_tree.specs.declared.value.Val.TheVariants.{Num, Bad}
use Rattle.aol_model_types.specs.declared.document.Model.{Model}
use Rattle.aol_model_types.specs.Rules.{task_name, outputs_of}
use Rattle.aol_flat.specs.Tasks.{main_outputs, elementary_tasks}
use Rattle.aol_flat.specs.Place.{port_elements, elements_of}
use Rattle.aol_flat.specs.Equation.{Valuation}

-- a blank and the number; nothing of a fault, which is never printed so
abbrev pub value_text : Val → List ℕ
value_text (Num z) = codes " " ++ signed_decimal z
value_text (Bad s) = []

-- a main output: its name, its shape, and its values in order of rank, as `y {2,2} 11 22 33 44`
abbrev pub output_line : Port → List Val → List ℕ
output_line y values = line (y.name ++ codes " " ++ shape_text y.shape ++ flat_map value_text values)

-- all main outputs in port order
abbrev pub output_lines : Model → Valuation → List ℕ
output_lines m v = flat_map (λ y. output_line y (map v (port_elements [] y))) (main_outputs m)

-- the values of all main outputs, by port and rank
abbrev pub main_values : Model → Valuation → List Val
main_values m v = map v (elements_of [] (main_outputs m))

-- the word for a kind
abbrev pub kind_text : Kind → List ℕ
kind_text Overflow = codes "overflow"
kind_text Divide = codes "divide"
kind_text Index = codes "index"
kind_text Range = codes "range"

-- the output ports of the elementary task with this number
abbrev pub ports_at : Model → ℕ → List Port
ports_at m task = unwrap_or (option_map outputs_of (slice_get (elementary_tasks m) task)) []

-- a fault: its kind, and the names of its task and port with the point, as `fault overflow Big y {1}`
abbrev pub fault_line : Model → Site → List ℕ
fault_line m s = line (spaced (codes "fault" ∷ kind_text s.kind ∷ task_text ∷ port_text ∷ point_text ∷ []))
  where
    task_text : List ℕ
    task_text = unwrap_or (option_map task_name (slice_get (elementary_tasks m) s.task)) []

    port : Option Port
    port = slice_get (ports_at m s.task) s.port

    port_text : List ℕ
    port_text = unwrap_or (option_map (λ (p : Port). p.name) port) []

    point_text : List ℕ
    point_text = unwrap_or (option_map (λ (p : Port). shape_text (point_at p.shape s.point)) port) []
