use Rattle.std.proofs.Common.{◌≡◌, Option, Some, None, slice_get, Bor, sym, ◌∙◌, ap}
use Rattle.std.specs.Option.{option_copied}
use Rattle.aol_expr_tree.specs.declared.port.Port.{Port}
use Rattle.aol_model_types.specs.declared.task.Task.{Task}
use Rattle.aol_model_types.specs.Rules.{outputs_of}
use Rattle.aol_flat.specs.Tasks.{main_task}
use Rattle.aol_lines.proofs.Readers.{same_point, some_there, output_there}
use Rattle.aol_lines.proofs.refused.push_output.Goals as goal

pub unreachable-requires-in_default-output : goal.unreachable-requires-in_default-output
unreachable-requires-in_default-output c =
    let at : main_task c.args.model.now ≡ Some c.in-Some.task.now = sym c.main_task.ensures ∙ ap (λ (o : Option (Bor Task)). option_copied o) c.in-Some.is in
    let none : slice_get (outputs_of c.in-Some.task.now) c.args.port ≡ None = sym c.output.ensures ∙ ap (λ (o : Option (Bor Port)). option_copied o) c.in_default-output.is in
    some_there (outputs_of c.in-Some.task.now) c.args.port c.args.point (output_there c.args.model.now c.in-Some.task.now c.args.port c.args.point at c.requires) none

pub push_port-requires : goal.push_port-requires
push_port-requires c =
    let at : main_task c.args.model.now ≡ Some c.in-Some.task.now = sym c.main_task.ensures ∙ ap (λ (o : Option (Bor Task)). option_copied o) c.in-Some.is in
    let there : slice_get (outputs_of c.in-Some.task.now) c.args.port ≡ Some c.in-Some-output.read.now = sym c.output.ensures ∙ ap (λ (o : Option (Bor Port)). option_copied o) c.in-Some-output.is in
    same_point (outputs_of c.in-Some.task.now) c.args.port c.args.point c.in-Some-output.read.now (output_there c.args.model.now c.in-Some.task.now c.args.port c.args.point at c.requires) there
