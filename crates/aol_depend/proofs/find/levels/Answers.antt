use Rattle.aol_depend.proofs.Gathered.{needs_within, levels_by_reads, loop_by_reads, weaker_ok}
use Rattle.aol_depend.proofs.find.levels.Goals as goal

pub levels_of-requires : goal.levels_of-requires
levels_of-requires c = needs_within c.args.flat.now c.args.writer_of.now _ c.requires c.in_ok-needs.ensures

pub returns-clause-levels : goal.returns-clause-levels
returns-clause-levels c = weaker_ok c.levels_of.result (λ l. levels_by_reads c.args.flat.now c.args.writer_of.now _ l c.in_ok-needs.ensures) c.levels_of.ensures.levels

pub returns-clause-cycle : goal.returns-clause-cycle
returns-clause-cycle c j e = loop_by_reads c.args.flat.now c.args.writer_of.now _ j c.in_ok-needs.ensures (c.levels_of.ensures.cycle j e)
