-- What reading a text answers is right by its grammar.
use Rattle.std.proofs.Common.{◌≡◌, ℕ, zero, suc, ◌+◌, ◌-◌, ◌<◌, ◌≤◌, List, [], ◌∷◌, ◌++◌, length, take, drop, get_or, map, filter, Bool, true, false, cond, ◌&&◌, not, Option, Some, None, option_map, Result, Ok, Err, refl, sym, ◌∙◌, ap, subst, arith, append_assoc}
use Rattle.std.proofs.lemmas.Bool.{and_parts, not-true}
use Rattle.std.proofs.lemmas.List.{length-append, take_at, drop_at}
use Rattle.std.specs.List.{list_all}
use Rattle.aol_shape.specs.declared.limit.LimitName.{LimitName}
use Rattle.aol_shape.specs.Lists.{or_else}
use Rattle.aol_shape.specs.Texts.{is_blank}
use Rattle.aol_shape.specs.Tokens.{Token, IsSpaced, first_passing, first_passing_from, BeginsAt}
use Rattle.aol_shape.proofs.Begins.{IsFull, begins_here, begins_later}
use Rattle.aol_shape.specs.Grammar.{Grammar, TextFault, at, limit, IsTextOf, IsText, Reads, Lexeme, start_of, limited}
use Rattle.aol_vsl.proofs.Spaced.{Spaced, texts, to_spaced}
use Rattle.aol_vsl.proofs.Lexemes.{lexed, placed, lexed_spaced, Apart, together}
use Rattle.aol_vsl.proofs.Limits.{answer, limited_is}

-- ---- where tokens begin

-- how many bytes go before token k
abbrev offset : (ts : List Token) (bytes : List ℕ) → IsSpaced bytes ts → ℕ → ℕ
offset [] bytes s k = 0
offset (t ∷ ts) bytes s zero = length s.0
offset (t ∷ ts) bytes s (suc k) = length s.0 + length t.text + offset ts s.1 s.4 k

start_is : (ts : List Token) (p : ℕ) (bytes : List ℕ) (s : IsSpaced bytes ts) (k : ℕ) → k < length ts → start_of (placed p bytes (texts ts) (to_spaced bytes ts s)) k ≡ p + offset ts bytes s k
start_is [] p bytes s k h = absurd (omega (arith, h))
start_is (t ∷ ts) p bytes s zero h = refl
start_is (t ∷ ts) p bytes s (suc k) h = start_is ts (p + length s.0 + length t.text) s.1 s.4 k (omega (arith, h)) ∙ omega arith

full : (t : List ℕ) → together t ≡ true → IsFull t
full [] h = cc
full (b ∷ []) h = record { some = omega arith; first = not-true (is_blank b) h }
full (b ∷ c ∷ cs) h = record { some = omega arith; first = not-true (is_blank b) (and_parts (not (is_blank b)) _ (and_parts _ (together (c ∷ cs)) h).0).0 }

begins_at : (ts : List Token) (bytes : List ℕ) (s : IsSpaced bytes ts) → Apart (texts ts) → (k : ℕ) → k < length ts → BeginsAt bytes ts k (offset ts bytes s k)
begins_at [] bytes s a k h = absurd (omega (arith, h))
begins_at (t ∷ ts) bytes s a zero h = begins_here t ts bytes s (full t.text a.0)
begins_at (t ∷ ts) bytes s a (suc k) h = begins_later t ts bytes s k (offset ts s.1 s.4 k) (begins_at ts s.1 s.4 a.2 k (omega (arith, h)))

-- ---- the first limit

passing_or : (j n : ℕ) (o : Option LimitName) (later : Option (ℕ × LimitName)) (k : ℕ) (passed : LimitName) → (later ≡ Some (k, passed) → (j + 1 ≤ k) × (k < j + 1 + n))
    → or_else (option_map (λ l. (j, l)) o) later ≡ Some (k, passed) → (j ≤ k) × (k < j + suc n)
passing_or j n None later k passed h e = let p : (j + 1 ≤ k) × (k < j + 1 + n) = h e in (omega (arith, p.0), omega (arith, p.1))
passing_or j n (Some here) later k passed h e =
    let pair : ◌≡◌ {A = ℕ × LimitName} (j, here) (k, passed) = cc in
    let s : j ≡ k = ap (λ (q : ℕ × LimitName). q.0) pair in
    (omega (arith, s), omega (arith, s))

passing_within : (j : ℕ) (ts : List Token) (k : ℕ) (passed : LimitName) → first_passing_from j ts ≡ Some (k, passed) → (j ≤ k) × (k < j + length ts)
passing_within j [] k passed e = cc
passing_within j (t ∷ ts) k passed e = passing_or j (length ts) t.passes (first_passing_from (j + 1) ts) k passed (λ f. passing_within (j + 1) ts k passed f) e

module _ {W V : Type 0} (g : Grammar W V) (no_whole : (w : W) → g.whole_limit w ≡ None) (bytes : List ℕ) (w : W) (t : IsTextOf g bytes w) (a : Apart (texts (g.tokens w))) where
  right_by : (o : Option (ℕ × LimitName)) → first_passing (g.tokens w) ≡ o → Reads g bytes (answer (option_map (λ f. (start_of (lexed 0 bytes) f.0, f.1)) o) (g.value w))
  right_by None e = (w, t, record { tokens = e; whole = no_whole w }, refl)
  right_by (Some f) e =
      let k : f.0 < length (g.tokens w) = omega (arith, (passing_within 0 (g.tokens w) f.0 f.1 e).1) in
      let start : start_of (lexed 0 bytes) f.0 ≡ offset (g.tokens w) bytes t.spaced f.0 = ap (λ ls. start_of ls f.0) (lexed_spaced (texts (g.tokens w)) a 0 bytes (to_spaced bytes (g.tokens w) t.spaced)) ∙ start_is (g.tokens w) 0 bytes t.spaced f.0 k ∙ omega arith in
      (w, t, rw e (refl, subst (λ b. BeginsAt bytes (g.tokens w) f.0 b) (sym start) (begins_at (g.tokens w) bytes t.spaced a f.0 k)))

  -- what is written is read right
  pub limited_right : Reads g bytes (limited g (lexed 0 bytes) w)
  limited_right = subst (Reads g bytes) (sym (limited_is g (lexed 0 bytes) w (no_whole w))) (right_by (first_passing (g.tokens w)) refl)
