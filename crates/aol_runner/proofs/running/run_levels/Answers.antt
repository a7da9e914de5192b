use Rattle.std.proofs.Common.{◌∙◌, ap, arith}
use Rattle.aol_flat.specs.InstanceNeed.{level_count}
use Rattle.aol_level.specs.Round.{CrewOf}
use Rattle.aol_runner.proofs.WholeRun.{order_many, at_once_runs, through_next, through_all}
use Rattle.aol_runner.proofs.running.run_levels.Goals as goal

pub level-requires : goal.level-requires
level-requires g c =
    let many = order_many c.args.order.now c.args.levels.now c.args.placed.now.of_instance c.args.placed.now.workers (level_count c.args.levels.now) c.requires.order in
    omega (arith, many, c.loop-level-test.true, c.count-level-end.ensures)

pub run_level-requires-clause-at_once : goal.run_level-requires-clause-at_once
run_level-requires-clause-at_once g c κs within =
    at_once_runs c.args.flat.now c.loop-level.crew.flat c.args.levels.now c.args.placed.now.of_instance c.args.placed.now.workers (level_count c.args.levels.now) c.loop-level.level c.args.order.now c.level.result.now
    (ap (λ (x : CrewOf). x.flat) (c.loop-level.invariant.crew ∙ c.requires.crew)) c.model-model.ensures.flat c.requires.accepted c.requires.levels c.requires.order
    (omega (arith, c.loop-level-test.true, c.count-level-end.ensures)) c.level.ensures

pub loop-level-preserved : goal.loop-level-preserved
loop-level-preserved g c = record {
  crew = c.in_ok-run_level.ensures.crew ∙ c.loop-level.invariant.crew;
  name = c.in_ok-run_level.ensures.name ∙ c.loop-level.invariant.name;
  cells = c.in_ok-run_level.ensures.cells ∙ c.loop-level.invariant.cells;
  whole = c.in_ok-run_level.ensures.whole;
  through = λ inputs begun.
      through_next c.args.flat.now c.loop-level.crew.flat c.args.levels.now c.args.placed.now.of_instance c.args.placed.now.workers (level_count c.args.levels.now) c.loop-level.level c.args.order.now c.level.result.now
      (ap (λ (x : CrewOf). x.flat) (c.loop-level.invariant.crew ∙ c.requires.crew)) c.model-model.ensures.flat c.requires.accepted c.requires.levels c.requires.order
      (omega (arith, c.loop-level-test.true, c.count-level-end.ensures)) c.level.ensures c.requires.placement inputs c.loop-level.rest.cells c.run_level.new.rest.cells
      (c.loop-level.invariant.cells ∙ c.requires.cells) c.in_ok-run_level.ensures.cells c.in_ok-run_level.ensures.after (c.loop-level.invariant.through inputs begun);
}

pub returns-clause-through : goal.returns-clause-through
returns-clause-through g c = λ inputs begun.
    through_all c.args.flat.now c.args.levels.now c.args.placed.now.of_instance inputs c.loop-level.level (level_count c.args.levels.now) c.loop-level.rest.cells
    (omega (arith, c.loop-level-test.false, c.loop-level.auto.level-end, c.count-level-end.ensures)) (c.loop-level.invariant.through inputs begun)
