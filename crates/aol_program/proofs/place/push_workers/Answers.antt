use Rattle.std.proofs.Common.{string_bytes}
use Rattle.aol_program.proofs.Placements.{worker_more}
use Rattle.aol_program.proofs.place.push_workers.Goals as goal

pub loop-instance-preserved : goal.loop-instance-preserved
loop-instance-preserved c =
    worker_more c.args.placed.now.of_instance c.args.base c.loop-instance.instance c.worker_of.result (string_bytes c.args.text.now) (string_bytes c.loop-instance.text) (string_bytes c.push_text.new.text) (string_bytes c.push_number.new.text)
    c.worker_of.ensures.worker c.loop-instance.invariant c.in_ok-push_text.ensures c.in_ok-push_number.ensures
