-- An accepted model that is laid out has a net, whose cells have one writer each and whose instances have levels.
use Rattle.std.specs.Prelude.{ℕ, List, Option}
use Rattle.aol_flat.specs.Accept.{IsSound, IsAccepted}
use Rattle.aol_flat.specs.InstanceNeed.{AreLevelsOf, level_count}
use Rattle.aol_flat.specs.Laid.{Laid, IsLaid}
use Rattle.aol_flat.specs.Net.{Net, IsNetOf}
use Rattle.aol_runner.specs.Schedule.{AreLevelled, HasWriters}

-- there is a net
abbrev pub NetExists : Type 0
NetExists = (f : Laid) → IsSound f.model → IsAccepted f.model → IsLaid f → (net : Net) × IsNetOf f net

-- each cell has at most one writer in it
abbrev pub NetsHaveWriters : Type 0
NetsHaveWriters = (f : Laid) (net : Net) → IsSound f.model → IsAccepted f.model → IsLaid f → IsNetOf f net → (writer : ℕ → Option (ℕ × ℕ)) × HasWriters net writer

-- the levels of the model are levels of it
abbrev pub NetsAreLevelled : Type 0
NetsAreLevelled = (f : Laid) (net : Net) (levels : List ℕ) → IsSound f.model → IsAccepted f.model → IsLaid f → IsNetOf f net → AreLevelsOf f.model levels → AreLevelled net levels (level_count levels)
