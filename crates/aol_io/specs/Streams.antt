-- The bytes that a source has left and a sink has taken, where they tell them.
use Rattle.std.specs.Prelude.{◌≡◌, ℕ, ◌+◌, ◌<◌, ◌≤◌, List, length, take, Option, Result, MatchResult}
use Rattle.std.specs.Io.KnownBytes.{Consumes, Appends, Keeps, IsAtEnd}

-- the first n bytes of the buffer were the next bytes of the input: none only at the end, or into no room
abbrev pub GivesNext : Option (List ℕ) → Option (List ℕ) → ℕ → List ℕ → Type 0
GivesNext old new n into = (n ≤ length into) × Consumes old new (take n into) × (n ≡ 0 → 0 < length into → IsAtEnd new)

-- `read(into)` gave the next n bytes at `Ok(n)`; a failed read took nothing
abbrev pub ReadGives : {E : Type 0} → Option (List ℕ) → Option (List ℕ) → Result ℕ E → List ℕ → Type 0
ReadGives old new result into = MatchResult result (λ n. GivesNext old new n into) (λ _. Keeps old new)

-- `write(piece)` took the front of the piece, at least one byte of a piece that has some; a failed write took nothing
abbrev pub WriteTakes : {E : Type 0} → Option (List ℕ) → Option (List ℕ) → Result ℕ E → List ℕ → Type 0
WriteTakes old new result piece =
    MatchResult result (λ n. (n ≤ length piece) × (0 < length piece → 0 < n) × Appends old new (take n piece)) (λ _. Keeps old new)

-- the input was these bytes and is at its end
abbrev pub WasAll : Option (List ℕ) → Option (List ℕ) → List ℕ → Type 0
WasAll old new bytes = Consumes old new bytes × IsAtEnd new

-- more than `limit` bytes were left, and one more than that were taken
abbrev pub WasLong : Option (List ℕ) → Option (List ℕ) → ℕ → Type 0
WasLong old new limit = (taken : List ℕ) × (length taken ≡ limit + 1) × Consumes old new taken

-- at most n bytes were taken
abbrev pub TookAtMost : Option (List ℕ) → Option (List ℕ) → ℕ → Type 0
TookAtMost old new n = (taken : List ℕ) × (length taken ≤ n) × Consumes old new taken

-- the sink took a prefix of the text
abbrev pub TookPrefix : Option (List ℕ) → Option (List ℕ) → List ℕ → Type 0
TookPrefix old new text = (n : ℕ) × (n ≤ length text) × Appends old new (take n text)
