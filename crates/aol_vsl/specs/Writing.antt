-- What stands between the members of a list that is written.
use Rattle.std.specs.Prelude.{ℕ, List, [], ◌∷◌, ◌==◌, if◌then◌else◌}

-- a comma, but before the first member
abbrev pub separator : ℕ → List ℕ
separator before = if before == 0 then [] else 44 ∷ []
