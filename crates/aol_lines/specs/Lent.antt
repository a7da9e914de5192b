-- Two texts that are lent.
use Rattle.std.specs.Prelude.{ℕ, List, Option, Some, None}
use Rattle.std.specs.Borrow.{Bor}

-- the texts themselves
abbrev pub lent_pair : Option (Bor (List ℕ) × Bor (List ℕ)) → Option (List ℕ × List ℕ)
lent_pair None = None
lent_pair (Some p) = Some (p.0.now, p.1.now)

-- the text itself, where there is one
abbrev pub lent_text : Option (Bor (List ℕ)) → Option (List ℕ)
lent_text None = None
lent_text (Some t) = Some t.now
