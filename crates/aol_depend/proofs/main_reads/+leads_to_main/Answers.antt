use Rattle.std.proofs.Common.{subst}
use Rattle.aol_model_types.specs.declared.task.Task.{Task}
use Rattle.aol_flat.specs.Feed.{HasTask}
use Rattle.aol_depend.proofs.MainReads.{root_leads, part_leads, body_leads}
use Rattle.aol_depend.proofs.main_reads.+leads_to_main.Goals as goal

pub returns-then-number-eq0 : goal.returns-then-number-eq0
returns-then-number-eq0 t c done = root_leads c.args.flat.now.model c.model.ensures.flat.sound c.args.number c.row-row.result c.args.port.now c.if-number-eq0.true c.row-row.ensures

pub returns-in-Some : goal.returns-in-Some
returns-in-Some t c done =
    let m = c.args.flat.now.model in
    let P : Task → Type 0 = λ z. HasTask m c.row-row.result.up z in
    part_leads m c.model.ensures.flat.sound c.args.number c.row-row.result c.in-Compound.task c.args.port.now c.in-Some.link.now c.if-number-eq0.false c.row-row.ensures (subst P c.in-Compound.is c.task_of.ensures.task) c.in-Some.ensures
    (c.leads_to_main.ensures done)

pub returns-in-Some-tiler_into : goal.returns-in-Some-tiler_into
returns-in-Some-tiler_into t c done =
    let m = c.args.flat.now.model in
    let P : Task → Type 0 = λ z. HasTask m c.row-row.result.up z in
    body_leads m c.model.ensures.flat.sound c.args.number c.row-row.result c.in-Repeated.task c.args.port.now c.in-Some-tiler_into.on.now c.if-number-eq0.false c.row-row.ensures (subst P c.in-Repeated.is c.task_of.ensures.task)
    c.in-Some-tiler_into.ensures (c.leads_to_main-in-Some-tiler_into.ensures done)
