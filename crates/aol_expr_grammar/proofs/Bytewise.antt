-- Reading goes on byte by byte.
use Rattle.std.proofs.Common.{◌≡◌, ℕ, ◌+◌, List, [], ◌∷◌, Bool, true, false, cond, Option, Some, None, Result, Err, refl, sym, ◌∙◌, ap}
use Rattle.std.specs.Option.{is_some}
use Rattle.aol_shape.specs.Grammar.{TextFault, at}
use Rattle.aol_shape.specs.Machine.{behind, stuck_here, stuck_from}
use Rattle.aol_shape.specs.declared.limit.LimitName.{LimitName}
use Rattle.aol_expr_tree.specs.declared.part.Part.{Part}
use Rattle.aol_expr_tree.specs.declared.reader.Reader.{Reader}
use Rattle.aol_expr_tree.specs.Tree.{Tree}
use Rattle.aol_expr_tree.specs.Reading.{recognizer, step, finished, ending, by_stuck, reading_from}

-- with the state after the next byte
abbrev next_from : ℕ → List ℕ → Option Reader → Result Tree TextFault
next_from k bs o = by_stuck (stuck_here k o (stuck_from recognizer (k + 1) o bs)) (behind recognizer o bs)

-- equal states after the next byte
pub same_step : (k : ℕ) (r s : Reader) (b : ℕ) (bs : List ℕ) → step r b ≡ step s b → reading_from k r (b ∷ bs) ≡ reading_from k s (b ∷ bs)
unfolding reading_from
same_step k r s b bs e = ap (next_from k bs) e

-- a byte that fits
pub goes_on : (k : ℕ) (r t : Reader) (b : ℕ) (bs : List ℕ) → Some t ≡ step r b → reading_from k r (b ∷ bs) ≡ reading_from (k + 1) t bs
unfolding reading_from
goes_on k r t b bs e = ap (next_from k bs) (sym e)

-- a byte that doesn't fit
pub stops : (k : ℕ) (r : Reader) (b : ℕ) (bs : List ℕ) → None ≡ step r b → reading_from k r (b ∷ bs) ≡ Err (at k)
unfolding reading_from
stops k r b bs e = ap (next_from k bs) (sym e)

by_may : (b : Bool) (k : ℕ) (r : Reader) → by_stuck (cond b None (Some k)) (Some r) ≡ cond b (ending r.held.place (finished r)) (Err (at k))
by_may true k r = refl
by_may false k r = refl

said : (o : Option (Option (ℕ × LimitName) × Part)) (k : ℕ) → cond (is_some o) (ending k o) (Err (at k)) ≡ ending k o
said None k = refl
said (Some x) k = refl

-- the end
pub ends_at : (k : ℕ) (r : Reader) → r.held.place ≡ k → reading_from k r [] ≡ ending k (finished r)
unfolding reading_from
ends_at k r e = by_may (is_some (finished r)) k r ∙ ap (λ p. cond (is_some (finished r)) (ending p (finished r)) (Err (at k))) e ∙ said (finished r) k
