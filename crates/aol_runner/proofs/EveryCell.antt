-- Each written cell of the settled memory holds its elements' value in every solution.
use Rattle.std.proofs.Common.{◌≡◌, sym, ◌∙◌, ap, subst, inr}
use Rattle.aol_flat.specs.Home.{Home, Kept}
use Rattle.aol_flat.specs.Instance.{written_elements}
use Rattle.aol_flat.proofs.Among.{get_among}
use Rattle.aol_assign.proofs.GivenHomes.{GivenHome, home_given}
use Rattle.aol_runner.specs.Run.{MemoryIsEverySolution}
use Rattle.aol_runner.proofs.Aligned.{some_injective}
use Rattle.aol_runner.proofs.Values.{given_values_are_held}
use Rattle.aol_runner.proofs.Writers.{is_put}

pub memory_is_every_solution : MemoryIsEverySolution
memory_is_every_solution f net inputs mem v sound accepted laid is_net are over s e c exists cell written =
    let w = is_put f net sound accepted laid is_net written.writer written.place c written.at in
    let one : w.cell.home ≡ cell.home = some_injective w.cell.home cell.home (sym w.cell.at_cell ∙ cell.at_cell) in
    let P : Home → Type 0 = λ h. GivenHome f.model h in
    let given : P (Kept cell.home) = inr (record {
      number = written.writer;
      instance = w.instance;
      at = w.at;
      element = w.element;
      written = get_among (written_elements f.model w.instance) written.place w.element w.there;
      home = w.cell.is_home ∙ ap (λ h. Kept h) one;
    }) in
    given_values_are_held f net inputs mem v sound accepted laid is_net are over s e c exists (home_given f.model sound accepted.single e exists (subst P (sym cell.is_home) given)) cell
