-- What a call that writes a text leaves in a sink.
use Rattle.std.specs.Prelude.{◌≡◌, ℕ, ◌≤◌, Bool, true, false, List, Option}
use Rattle.std.specs.Io.KnownBytes.{Appends}
use Rattle.aol_io.specs.Causes.{Rose}
use Rattle.aol_io.specs.Streams.{TookPrefix}

-- what a sink took, its count of faults, and whether a write failed
pub record Progress : Type 0 where
  pub taken : Option (List ℕ)
  pub faults : ℕ
  pub failed : Bool

-- what is known of a sink
abbrev pub progress : Option (List ℕ) → ℕ → Bool → Progress
progress taken faults failed = record { taken = taken; faults = faults; failed = failed }

-- by whether a write had failed before, and whether one has failed now
abbrev pub AddsBy : Bool → Bool → Progress → Progress → List ℕ → Type 0
AddsBy true now old new text = new ≡ old
AddsBy false false old new text = Appends old.taken new.taken text × (old.faults ≤ new.faults)
AddsBy false true old new text = TookPrefix old.taken new.taken text × Rose old.faults new.faults × (old.faults ≤ new.faults)

-- The sink took the text, or the count of faults rose and the sink took a prefix. After a failed write nothing changes.
pub record Adds (old new : Progress) (text : List ℕ) : Type 0 where
  pub added : AddsBy old.failed new.failed old new text
