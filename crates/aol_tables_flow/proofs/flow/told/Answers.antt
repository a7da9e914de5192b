use Rattle.std.proofs.Common.{◌≡◌, sym, subst}
use Rattle.aol_depend.specs.Gather.{AreEntries}
use Rattle.aol_tables_flow.proofs.Entries.{entries}
use Rattle.aol_tables_flow.proofs.flow.told.Goals as goal

pub levels-requires : goal.levels-requires
levels-requires c = subst (AreEntries c.args.flat.now) (sym c.list.ensures) (entries c.args.flat.now _ c.in-Ok.ensures.writers)
