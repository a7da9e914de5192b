use Rattle.aol_flat.specs.declared.view.Read.TheVariants.{Cell}
use Rattle.aol_depend.proofs.Gathering.{writers_more}
use Rattle.aol_depend.proofs.gather.add_writers.Goals as goal

pub loop-read-preserved : goal.loop-read-preserved
loop-read-preserved c =
    writers_more c.args.writer_of.now c.args.reads.now c.loop-read.read-index (Cell 0) c.args.list.now.items c.loop-read.list.items c.add_writer.new.list.items
    c.loop-read-test.true c.loop-read.invariant c.in_ok-add_writer.ensures
