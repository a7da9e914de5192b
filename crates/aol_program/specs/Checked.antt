-- What is told of an accepted model, and of an entry that places nothing.
use Rattle.std.specs.Prelude.{ℕ, List, [], ◌∷◌, codes, decimal}
use Rattle.aol_shape.specs.Lines.{line, spaced}
use Rattle.aol_vsl.specs.Text.{shape_text}
use Rattle.aol_allocate.specs.declared.cause.PlaceCause.{PlaceCause}
use Rattle.aol_allocate.specs.declared.cause.PlaceCause.TheVariants.{NoLeaf, Shape, Twice, Unplaced}

-- an accepted model: how many instances and levels it has
abbrev pub accepted_line : ℕ → ℕ → List ℕ
accepted_line instances levels = line (spaced (codes "accepted" ∷ decimal instances ∷ codes "instances" ∷ decimal levels ∷ codes "levels" ∷ []))

-- why an entry places nothing
abbrev pub cause_words : PlaceCause → List (List ℕ)
cause_words NoLeaf = codes "no-leaf" ∷ []
cause_words Shape = codes "shape" ∷ []
cause_words (Twice point) = codes "twice" ∷ shape_text point ∷ []
cause_words (Unplaced point) = codes "unplaced" ∷ shape_text point ∷ []
