use Rattle.aol_model_types.specs.declared.task.Task.TheVariants as tasks
use Rattle.aol_flat.proofs.Find.{found_name}
use Rattle.aol_paving.proofs.MapTold.{map_told, found_told}
use Rattle.aol_paving.proofs.step.pave.Goals as goal

pub old_numbers-requires-clause-found : goal.old_numbers-requires-clause-found
old_numbers-requires-clause-found c =
    found_name c.args.old.now.model c.args.task.now (tasks.Repeated c.in-Some-Repeated.repeated)
    (found_told c.args.old.now.model c.model-model.result.now c.as_slice.result.now c.args.task.now c.in-Some-Repeated.field-0.now c.in-Some-Repeated.repeated
    c.as_slice.ensures c.model-model.ensures.same c.in-Some-Repeated.ensures c.in-Some-Repeated.field-0-is)

pub returns-in-Ok-clause-alike : goal.returns-in-Ok-clause-alike
returns-in-Ok-clause-alike c =
    (map_told c.args.old.now.model c.in_ok-flat.flat.model c.args.task.now c.args.args.now.outer c.args.args.now.block c.in-Ok.map.old_of c.in-Some-Repeated.repeated
    c.model-model.ensures.flat.sound c.in_ok-flat.ensures.flat.sound c.in_ok-flat.ensures.ok
    (found_told c.args.old.now.model c.model-model.result.now c.as_slice.result.now c.args.task.now c.in-Some-Repeated.field-0.now c.in-Some-Repeated.repeated
    c.as_slice.ensures c.model-model.ensures.same c.in-Some-Repeated.ensures c.in-Some-Repeated.field-0-is) c.in-Ok.ensures).1

pub returns-in-Ok-clause-map : goal.returns-in-Ok-clause-map
returns-in-Ok-clause-map c =
    (map_told c.args.old.now.model c.in_ok-flat.flat.model c.args.task.now c.args.args.now.outer c.args.args.now.block c.in-Ok.map.old_of c.in-Some-Repeated.repeated
    c.model-model.ensures.flat.sound c.in_ok-flat.ensures.flat.sound c.in_ok-flat.ensures.ok
    (found_told c.args.old.now.model c.model-model.result.now c.as_slice.result.now c.args.task.now c.in-Some-Repeated.field-0.now c.in-Some-Repeated.repeated
    c.as_slice.ensures c.model-model.ensures.same c.in-Some-Repeated.ensures c.in-Some-Repeated.field-0-is) c.in-Ok.ensures).0
