-- Laws of tilers that are made of tilers.
use Rattle.std.specs.Prelude.{◌≡◌, ℕ, ◌+◌, ◌*◌, List, [], ◌∷◌, ◌++◌, length, true}
use Rattle.aol_tiler.specs.Matrices.{TilerOf}
use Rattle.aol_tiler.specs.Tiler.{has_entries, integers, place, address, composed, blocked}

-- the repetition that stands at a position inside a block
abbrev pub inside_block : List ℕ → List ℕ → List ℕ → List ℕ
inside_block [] r position = []
inside_block (n ∷ block) [] position = []
inside_block (n ∷ block) (x ∷ r) [] = []
inside_block (n ∷ block) (x ∷ r) (y ∷ position) = (n * x + y) ∷ inside_block block r position

-- in blocks, the address at a block with a position inside it is that of the repetition that stands there
abbrev pub BlockedAddresses : Type 0
BlockedAddresses = (t : TilerOf) (array block r position i : List ℕ) → length block ≡ length t.paving → length r ≡ length t.paving → length position ≡ length t.paving
    → address (blocked t block) array r (position ++ i) ≡ address t array (inside_block block r position) i

-- in a composed tiler, the address is the outer one's at the point of its pattern that the inner tiler gives
abbrev pub ComposedAddresses : Type 0
ComposedAddresses = (outer inner : TilerOf) (array r s i j : List ℕ) → has_entries inner (length outer.fitting) ≡ true → length r ≡ length outer.paving → integers j ≡ place inner s i
    → address (composed outer inner) array (r ++ s) i ≡ address outer array r j
