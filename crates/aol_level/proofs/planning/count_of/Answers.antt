use Rattle.std.proofs.Common.{◌≡◌, ◌∙◌, get_or, slice_index, arith}
use Rattle.std.proofs.lemmas.List.Elements.{All-more}
use Rattle.aol_level.proofs.Lists.{get_is}
use Rattle.aol_level.proofs.planning.count_of.Goals as goal

pub loop-place-preserved : goal.loop-place-preserved
loop-place-preserved c =
    All-more (λ j. slice_index c.args.placed.now.of_instance j ≡ c.args.worker) c.args.numbers.now c.loop-place.place 0 (omega arith) c.loop-place.invariant
    (get_is c.args.placed.now.of_instance (get_or c.args.numbers.now c.loop-place.place 0) 0 c.worker_of.result c.worker_of.ensures.worker ∙ c.if-worker_of-worker.false)
