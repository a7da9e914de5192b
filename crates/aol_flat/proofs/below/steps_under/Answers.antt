use Rattle.std.proofs.Common.{sym, subst}
use Rattle.aol_model_types.specs.declared.task.Task.{Task}
use Rattle.aol_flat.specs.Below.{AreStepsUnder}
use Rattle.aol_flat.proofs.Stepping.{under_elementary, under_compound_of, under_repeated}
use Rattle.aol_flat.proofs.below.steps_under.Goals as goal

pub returns-in-Elementary : goal.returns-in-Elementary
returns-in-Elementary c =
    let m = c.args.from.model.now in
    let Q : Task → Type 0 = λ u. AreStepsUnder m u c.args.counts.now c.alone.result.own c.alone.result.count in
    subst Q (sym c.in-Elementary.is) (under_elementary m c.args.counts.now c.in-Elementary.field-0 c.alone.result.own c.alone.result.count c.alone.ensures.own c.alone.ensures.count)

pub returns-in-Compound : goal.returns-in-Compound
returns-in-Compound c =
    under_compound_of c.args.from.model.now c.args.counts.now c.args.task.now c.in-Compound.task c.as_slice.result.now c.steps_in.result c.in-Compound.is c.as_slice.ensures c.steps_in.ensures

pub returns-in-Repeated : goal.returns-in-Repeated
returns-in-Repeated c =
    let m = c.args.from.model.now in
    let Q : Task → Type 0 = λ u. AreStepsUnder m u c.args.counts.now c.alone-steps.result.own c.saturating_add.result in
    subst Q (sym c.in-Repeated.is)
    (under_repeated m c.args.counts.now c.in-Repeated.task c.alone-steps.result.own c.alone-steps.result.count c.count_named.result c.saturating_add.result
    c.alone-steps.ensures.count c.count_named.ensures c.saturating_add.ensures)
