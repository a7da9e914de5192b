use Rattle.std.proofs.Common.{length, ap}
use Rattle.aol_flat.specs.Cursor.{CursorOf}
use Rattle.aol_equiv.proofs.Olds.{many_there}
use Rattle.aol_equiv.proofs.before.read_elsewhere.Goals as goal

pub of-requires-clause-many : goal.of-requires-clause-many
of-requires-clause-many c =
    let reads = c.in_ok-reads.reads in
    many_there c.args.flat.now reads c.args.leaf c.args.instance (ap (λ (x : CursorOf). x.flat) c.in_ok-reads.ensures) (ap (λ (x : CursorOf). x.leaf) c.in_ok-reads.ensures) c.requires.on (length c.args.into.now) c.requires.within c.requires.many
