use Rattle.std.proofs.Common.{◌≡◌, refl, sym, subst, rules}
use Rattle.aol_flat.specs.InstanceNeed.{AreLevelsOf}
use Rattle.aol_flat.specs.Level.{AreWriters}
use Rattle.aol_program.proofs.Tested.{entries_told, levels_told, cycle_told, levelled_accepted}
use Rattle.aol_program.proofs.accepting.accept_given.Goals as goal

pub levels-requires : goal.levels-requires
levels-requires c = entries_told c.args.flat c.list.result.now (subst (AreWriters c.args.flat) (sym c.list.ensures) c.requires.writers)

pub returns-in-Ok-clause-accepted : goal.returns-in-Ok-clause-accepted
returns-in-Ok-clause-accepted c =
    let m = c.args.flat.model in
    let levels : AreLevelsOf m c.in-Ok.levels =
    levels_told c.args.flat c.list.result.now (subst (AreWriters c.args.flat) (sym c.list.ensures) c.requires.writers) c.requires.kept.sound c.requires.single c.in-Ok.levels c.in-Ok.ensures.levels in
    record {
      document = refl;
      whole = record {
        kept = c.requires.kept;
        accepted = levelled_accepted m c.in-Ok.levels c.requires.kept.sound c.requires.bounded c.requires.single c.requires.given levels;
        writers = c.requires.writers;
        levels = levels;
      };
    }

pub returns-in-Err-Cycle-clause-refused : goal.returns-in-Err-Cycle-clause-refused
returns-in-Err-Cycle-clause-refused c = (
  record { job = c.args.job; document = refl; sound = c.requires.kept.sound; bounded = c.requires.bounded },
  c.requires.single,
  c.requires.given,
  cycle_told c.args.flat c.list.result.now (subst (AreWriters c.args.flat) (sym c.list.ensures) c.requires.writers) c.requires.kept.sound c.requires.single c.in-Err-Cycle.instance (c.in-Err-Cycle.ensures.cycle c.in-Err-Cycle.instance (search rules)),
)
