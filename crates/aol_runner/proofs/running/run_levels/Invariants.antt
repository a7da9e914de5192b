use Rattle.std.proofs.Common.{◌≡◌, List, length}
use Rattle.aol_model_types.specs.declared.job.InputArray.{InputArray}
use Rattle.aol_level.specs.Round.{AllHeld}
use Rattle.aol_runner.specs.Through.{AreOpen, AreThrough}
use Rattle.aol_runner.proofs.running.run_levels.Given as goal

-- the run is through the levels so far
abbrev pub invariant-loop-level : goal.invariant-loop-level
invariant-loop-level g l = record {
  crew : l.crew ≡ l.fn.crew;
  name : l.rest.name ≡ l.fn.rest.name;
  cells : length l.rest.cells ≡ length l.fn.rest.cells;
  whole : AllHeld l.rest.cells;
  through : (inputs : List InputArray) → AreOpen inputs l.fn.rest.cells → AreThrough l.flat l.levels l.placed.of_instance inputs l.level l.rest.cells;
}
