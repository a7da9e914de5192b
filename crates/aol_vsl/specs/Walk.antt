-- A tiler read lexeme by lexeme.
use Rattle.std.specs.Prelude.{ℕ, ◌+◌, ℤ, List, [], ◌∷◌, ◌++◌, length, Bool, ◌&&◌, ◌==◌, nat_le, slice_index, Option, Some, None, Result, Ok, Err, if◌then◌else◌}
use Rattle.aol_shape.specs.declared.limit.LimitName.{LimitName}
use Rattle.aol_shape.specs.declared.limit.LimitName.TheVariants.{Rank}
use Rattle.aol_shape.specs.Shape.{max_rank}
use Rattle.aol_shape.specs.Texts.{is_numeral, numeral_value}
use Rattle.aol_shape.specs.Grammar.{TextFault, limit, Lexeme}
use Rattle.aol_tiler.specs.Matrices.{TilerOf}
use Rattle.aol_vsl.specs.Text.{column_limit}

-- the limit that is passed here, or what comes later
abbrev pub walked : {V : Type 0} → Option LimitName → ℕ → Result V TextFault → Result V TextFault
walked None start later = later
walked (Some name) start later = Err (limit start name)

-- what comes after a part that is read, or the fault in its place
abbrev pub then_read : {A B : Type 0} → Result A TextFault → (A → Result B TextFault) → Result B TextFault
then_read (Ok a) next = next a
then_read (Err fault) next = Err fault

-- a lexeme begins with this byte
abbrev pub begins : ℕ → Lexeme → Bool
begins b l = slice_index l.text 0 == b

-- the lexemes after the next opening brace
abbrev pub behind_brace : List Lexeme → List Lexeme
behind_brace [] = []
behind_brace (l ∷ ls) = if begins 123 l then ls else behind_brace ls

-- the limit that column j passes at its opening brace: a thirteenth one, where it is empty
abbrev pub close_limit : ℕ → List ℤ → Option LimitName
close_limit j vs = if length vs == 0 && nat_le max_rank j then Some Rank else None

-- the rest of column j, which is opened at a place, after its first entries; and the lexemes after it
abbrev pub column_walk : ℕ → ℕ → List ℤ → List Lexeme → Result (List ℤ × List Lexeme) TextFault
column_walk j opened vs [] = walked (close_limit j vs) opened (Ok (vs, []))
column_walk j opened vs (l ∷ ls) =
    if begins 125 l then walked (close_limit j vs) opened (Ok (vs, ls))
    else (if is_numeral l.text then walked (column_limit j (length vs) (numeral_value l.text)) l.start (column_walk j opened (vs ++ numeral_value l.text ∷ []) ls) else column_walk j opened vs ls)

-- the rest of a matrix after its first columns, inside one that is opened at a place, after its first entries, or inside none; and the lexemes after it
abbrev pub matrix_walk : Option (ℕ × List ℤ) → List (List ℤ) → List Lexeme → Result (List (List ℤ) × List Lexeme) TextFault
matrix_walk None cs [] = Ok (cs, [])
matrix_walk (Some c) cs [] = walked (close_limit (length cs) c.1) c.0 (Ok (cs ++ c.1 ∷ [], []))
matrix_walk None cs (l ∷ ls) = if begins 125 l then Ok (cs, ls) else (if begins 123 l then matrix_walk (Some (l.start, [])) cs ls else matrix_walk None cs ls)
matrix_walk (Some c) cs (l ∷ ls) =
    if begins 125 l then walked (close_limit (length cs) c.1) c.0 (matrix_walk None (cs ++ c.1 ∷ []) ls)
    else (if is_numeral l.text then walked (column_limit (length cs) (length c.1) (numeral_value l.text)) l.start (matrix_walk (Some (c.0, c.1 ++ numeral_value l.text ∷ [])) cs ls) else matrix_walk (Some c) cs ls)

-- a tiler: origin, paving and fitting, each after an opening brace
abbrev pub tiler_walk : List Lexeme → Result TilerOf TextFault
tiler_walk ls =
    then_read (column_walk 0 0 [] (behind_brace ls)) (λ o.
    then_read (matrix_walk None [] (behind_brace o.1)) (λ p.
    then_read (matrix_walk None [] (behind_brace p.1)) (λ f.
    Ok (record { origin = o.0; paving = p.0; fitting = f.0 }))))
