-- Taking what a text begins with.
use Rattle.std.specs.Prelude.{◌≡◌, ℕ, Bool, true, false, List, Option, Some, None}

-- whether the text began so, and what is left of it
abbrev pub Eats : Option (List ℕ) → Bool → List ℕ → List ℕ → Type 0
Eats r true old new = r ≡ Some new
Eats r false old new = (r ≡ None) × (new ≡ old)
