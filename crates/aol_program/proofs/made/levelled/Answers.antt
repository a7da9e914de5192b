use Rattle.std.proofs.Common.{◌≡◌, [], sym, subst, rules}
use Rattle.aol_program.specs.Made.{AreTaken, IsTransformed, IsMadeOf}
use Rattle.aol_program.proofs.KeptRun.{no_steps_level}
use Rattle.aol_program.proofs.made.levelled.Goals as goal

pub returns-then-are_none : goal.returns-then-are_none
returns-then-are_none c =
    let none : c.args.steps.now ≡ [] = search rules in
    no_steps_level c.args.flat c.args.levels c.args.steps.now none c.model-model.ensures.flat.sound c.requires.accepted c.requires.levels

pub levels_of-requires-clause-accepted : goal.levels_of-requires-clause-accepted
levels_of-requires-clause-accepted c = (subst (IsTransformed c.args.flat.model c.args.steps.now) c.in-Ok.is c.in_ok-outcome.ensures).keeps.accepted

pub levels_of-requires-clause-writers : goal.levels_of-requires-clause-writers
levels_of-requires-clause-writers c = (subst (IsTransformed c.args.flat.model c.args.steps.now) c.in-Ok.is c.in_ok-outcome.ensures).writers

pub returns-in-Ok : goal.returns-in-Ok
returns-in-Ok c =
    let had = subst (IsTransformed c.args.flat.model c.args.steps.now) c.in-Ok.is c.in_ok-outcome.ensures in
    record { made = had.made; keeps = had.keeps; levels = c.in_ok-levels-in-Ok.ensures }

pub returns : goal.returns
returns c = subst (IsTransformed c.args.flat.model c.args.steps.now) c.in-Err.is c.in_ok-outcome.ensures
