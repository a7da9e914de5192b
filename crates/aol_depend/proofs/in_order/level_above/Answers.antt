use Rattle.std.proofs.Common.{ℕ, ◌+◌, take, sym, subst}
use Rattle.aol_flat.specs.declared.view.Read.TheVariants.{Cell}
use Rattle.aol_depend.specs.InOrder.{IsAbove}
use Rattle.aol_depend.proofs.InOrder.{above_none, above_more}
use Rattle.aol_depend.proofs.in_order.level_above.Goals as goal

pub loop-read-init : goal.loop-read-init
loop-read-init c = above_none c.args.levels.now c.args.writer_of.now

pub loop-read-preserved : goal.loop-read-preserved
loop-read-preserved c =
    let P : ℕ → Type 0 = λ n. IsAbove c.args.levels.now c.args.writer_of.now (take (c.loop-read.read-index + 1) c.args.reads.now) n in
    subst P (sym c.max-level.ensures)
    (above_more c.args.levels.now c.args.writer_of.now c.args.reads.now c.loop-read.read-index (Cell 0) c.loop-read.level c.in_ok-level_over.field-0
    c.loop-read-test.true c.loop-read.invariant c.in_ok-level_over.ensures)
