-- The states that stored arrays stand for.
use Rattle.std.specs.Prelude.{◌≡◌, Bool, true, false, Option, Some, None}
use Rattle.aol_csyn.specs.Meaning.{State, Arrays}
use Rattle.aol_cexec.specs.declared.machine.Machine.{Machine}
use Rattle.aol_cexec.specs.declared.exec.Arrays as code

-- the state that a machine holds
abbrev pub state_of : Machine → State
state_of m = record { v = m.v; f = m.f; vars = m.vars }

-- the two arrays as lists
abbrev pub arrays_held : code.Arrays → Arrays
arrays_held a = (a.v, a.f)

-- what a step that may be stuck gives: this where it went, else nothing
abbrev pub Leads : {A : Type 0} → Option A → Bool → A → Type 0
Leads r true new = r ≡ Some new
Leads r false new = r ≡ None
