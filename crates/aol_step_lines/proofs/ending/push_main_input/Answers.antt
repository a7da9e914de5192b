use Rattle.std.proofs.Common.{◌≡◌, Option, Some, None, slice_get, Bor, string_bytes, ◌++◌, refl, sym, ◌∙◌, ap}
use Rattle.std.specs.Option.{option_copied}
use Rattle.std.proofs.lemmas.Result.{on_ok_weaker}
use Rattle.aol_expr_tree.specs.declared.port.Port.{Port}
use Rattle.aol_model_types.specs.declared.task.Task.{Task}
use Rattle.aol_model_types.specs.Rules.{inputs_of}
use Rattle.aol_flat.specs.Tasks.{main_task}
use Rattle.aol_lines.specs.Line.{after_blanks}
use Rattle.aol_lines.proofs.Readers.{HasPoint, same_point, some_there}
use Rattle.aol_step_lines.proofs.Ends.{main_end, main_words, no_main, main_point}
use Rattle.aol_step_lines.proofs.ending.push_main_input.Goals as goal

pub unreachable-requires : goal.unreachable-requires
unreachable-requires c =
    let none : main_task c.args.model.now ≡ None = sym c.main_task.ensures ∙ ap (λ (o : Option (Bor Task)). option_copied o) c.in_default.is in
    no_main c.args.model.now c.args.port c.args.point (main_end c.args.model.now c.requires.0 _ c.args.port c.args.point c.requires.1 refl) none

pub unreachable-requires-in_default-input : goal.unreachable-requires-in_default-input
unreachable-requires-in_default-input c =
    let at : main_task c.args.model.now ≡ Some c.in-Some.task.now = sym c.main_task.ensures ∙ ap (λ (o : Option (Bor Task)). option_copied o) c.in-Some.is in
    let none : slice_get (inputs_of c.in-Some.task.now) c.args.port ≡ None = sym c.input.ensures ∙ ap (λ (o : Option (Bor Port)). option_copied o) c.in_default-input.is in
    let point : HasPoint (inputs_of c.in-Some.task.now) c.args.port c.args.point =
    main_point c.args.model.now c.in-Some.task.now c.args.port c.args.point at (main_end c.args.model.now c.requires.0 _ c.args.port c.args.point c.requires.1 refl) in
    some_there (inputs_of c.in-Some.task.now) c.args.port c.args.point point none

pub push_port-requires : goal.push_port-requires
push_port-requires c =
    let at : main_task c.args.model.now ≡ Some c.in-Some.task.now = sym c.main_task.ensures ∙ ap (λ (o : Option (Bor Task)). option_copied o) c.in-Some.is in
    let there : slice_get (inputs_of c.in-Some.task.now) c.args.port ≡ Some c.in-Some-input.read.now = sym c.input.ensures ∙ ap (λ (o : Option (Bor Port)). option_copied o) c.in-Some-input.is in
    let point : HasPoint (inputs_of c.in-Some.task.now) c.args.port c.args.point =
    main_point c.args.model.now c.in-Some.task.now c.args.port c.args.point at (main_end c.args.model.now c.requires.0 _ c.args.port c.args.point c.requires.1 refl) in
    same_point (inputs_of c.in-Some.task.now) c.args.port c.args.point c.in-Some-input.read.now point there
