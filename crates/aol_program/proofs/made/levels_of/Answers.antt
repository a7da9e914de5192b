use Rattle.std.proofs.Common.{◌≡◌, sym, subst, rules}
use Rattle.aol_flat.specs.Level.{AreWriters}
use Rattle.aol_flat.proofs.Real.{accepted_has_no_cycle}
use Rattle.aol_program.proofs.Tested.{entries_told, levels_told, cycle_told}
use Rattle.aol_program.proofs.made.levels_of.Goals as goal

pub levels-requires : goal.levels-requires
levels-requires c = entries_told c.args.made.now.flat c.list.result.now (subst (AreWriters c.args.made.now.flat) (sym c.list.ensures) c.requires.writers)

pub returns-in-Ok : goal.returns-in-Ok
returns-in-Ok c =
    levels_told c.args.made.now.flat c.list.result.now (subst (AreWriters c.args.made.now.flat) (sym c.list.ensures) c.requires.writers) c.model-model.ensures.flat.sound c.requires.accepted.single
    c.in-Ok.levels c.in-Ok.ensures.levels

pub unreachable-requires : goal.unreachable-requires
unreachable-requires c =
    let cycle = cycle_told c.args.made.now.flat c.list.result.now (subst (AreWriters c.args.made.now.flat) (sym c.list.ensures) c.requires.writers) c.model-model.ensures.flat.sound c.requires.accepted.single
    c.in-Err-Cycle.field-0-0 (c.in-Err-Cycle.ensures.cycle c.in-Err-Cycle.field-0-0 (search rules)) in
    accepted_has_no_cycle c.args.made.now.flat.model c.model-model.ensures.flat.sound c.requires.accepted c.in-Err-Cycle.field-0-0 cycle.in_cycle
