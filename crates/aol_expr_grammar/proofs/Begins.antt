-- Where the first token that passes a limit begins.
use Rattle.std.proofs.Common.{◌≡◌, ℕ, suc, ◌+◌, ◌≤◌, List, [], ◌∷◌, ◌++◌, length, take, drop, get_or, true, false, not, Option, Some, None, option_map, refl, sym, ◌∙◌, ap, subst, arith, append_assoc}
use Rattle.std.specs.List.{list_all}
use Rattle.std.proofs.lemmas.Bool.{and_parts, not-true, false≢true}
use Rattle.std.proofs.lemmas.List.{length-append, take_at, drop_at}
use Rattle.aol_shape.specs.declared.limit.LimitName.{LimitName}
use Rattle.aol_shape.specs.Lists.{or_else}
use Rattle.aol_shape.specs.Texts.{is_blank}
use Rattle.aol_shape.specs.Tokens.{Token, IsSpaced, first_passing_from, BeginsAt}
use Rattle.aol_shape.proofs.Begins.{IsFull, begins_here, begins_later}
use Rattle.aol_expr_grammar.proofs.Tokens.{noted_token}
use Rattle.aol_expr_grammar.proofs.Evidence.{first_passed}
use Rattle.aol_expr_grammar.proofs.Gaps.{texts}
use Rattle.aol_expr_grammar.proofs.Backwards.{no_blanks, is_solid}
use Rattle.aol_expr_grammar.proofs.Solid.{AreSolid}

full : (t : List ℕ) → is_solid t ≡ true → IsFull t
full [] h = absurd (false≢true h)
full (b ∷ t) h = record { some = omega arith; first = not-true (is_blank b) (and_parts (not (is_blank b)) (no_blanks t) h).0 }

-- ---- the first that passes a limit

-- what is passed stays
kept : (p : ℕ × LimitName) (k : ℕ) (bytes : List ℕ) (ts : List Token) (s : IsSpaced bytes ts) → first_passed (Some p) k bytes ts s ≡ Some p
kept p k bytes [] s = refl
kept p k bytes (t ∷ ts) s = kept p (k + length s.0 + length t.text) s.1 ts s.4

-- a token passes this limit, from number i and place k on
pub record Passes (i k : ℕ) (bytes : List ℕ) (ts : List Token) (byte : ℕ) (passed : LimitName) : Type 0 where
  pub number : ℕ
  pub start : ℕ
  pub first : first_passing_from i ts ≡ Some (i + number, passed)
  pub begins : BeginsAt bytes ts number start
  pub byte_is : byte ≡ k + start

pub passes_at : (i k : ℕ) (bytes : List ℕ) (ts : List Token) (s : IsSpaced bytes ts) (byte : ℕ) (passed : LimitName) → AreSolid ts → first_passed None k bytes ts s ≡ Some (byte, passed) → Passes i k bytes ts byte passed
passes_at i k bytes [] s byte passed h e = cc
passes_at i k bytes (t ∷ ts) s byte passed h e = by_passes (passes_at (i + 1) place s.1 ts s.4 byte passed parts.1) t.passes refl
  where
    parts : (is_solid t.text ≡ true) × AreSolid ts
    parts = and_parts (is_solid t.text) (list_all is_solid (texts ts)) h

    place : ℕ
    place = k + length s.0 + length t.text

    by_passes : (first_passed None place s.1 ts s.4 ≡ Some (byte, passed) → Passes (i + 1) place s.1 ts byte passed) → (o : Option LimitName) → t.passes ≡ o → Passes i k bytes (t ∷ ts) byte passed
    by_passes later None p =
        let rest = later (sym (ap (λ q. first_passed (noted_token None (k + length s.0) q) place s.1 ts s.4) p) ∙ e) in
        record {
          number = suc rest.number;
          start = length s.0 + length t.text + rest.start;
          first = ap (λ q. or_else (option_map (λ (m : LimitName). (i, m)) q) (first_passing_from (i + 1) ts)) p ∙ rest.first ∙ ap (λ j. Some (j, passed)) (omega arith);
          begins = begins_later t ts bytes s rest.number rest.start rest.begins;
          byte_is = omega (arith, rest.byte_is);
        }
    by_passes later (Some m) p =
        let here : ◌≡◌ {A = Option (ℕ × LimitName)} (Some (k + length s.0, m)) (Some (byte, passed)) = sym (ap (λ q. first_passed (noted_token None (k + length s.0) q) place s.1 ts s.4) p ∙ kept (k + length s.0, m) place s.1 ts s.4) ∙ e in
        let pair : ◌≡◌ {A = ℕ × LimitName} (k + length s.0, m) (byte, passed) = cc in
        record {
          number = 0;
          start = length s.0;
          first = ap (λ q. or_else (option_map (λ (l : LimitName). (i, l)) q) (first_passing_from (i + 1) ts)) p ∙ ap (λ l. Some (i, l)) (ap (λ (q : ℕ × LimitName). q.1) pair) ∙ ap (λ j. Some (j, passed)) (omega arith);
          begins = begins_here t ts bytes s (full t.text parts.0);
          byte_is = omega (arith, ap (λ (q : ℕ × LimitName). q.0) pair);
        }

pub none_passes : (i k : ℕ) (bytes : List ℕ) (ts : List Token) (s : IsSpaced bytes ts) → first_passed None k bytes ts s ≡ None → first_passing_from i ts ≡ None
none_passes i k bytes [] s e = refl
none_passes i k bytes (t ∷ ts) s e = by_passes (none_passes (i + 1) place s.1 ts s.4) t.passes refl
  where
    place : ℕ
    place = k + length s.0 + length t.text

    by_passes : (first_passed None place s.1 ts s.4 ≡ None → first_passing_from (i + 1) ts ≡ None) → (o : Option LimitName) → t.passes ≡ o → first_passing_from i (t ∷ ts) ≡ None
    by_passes later None p = ap (λ q. or_else (option_map (λ (m : LimitName). (i, m)) q) (first_passing_from (i + 1) ts)) p
        ∙ later (sym (ap (λ q. first_passed (noted_token None (k + length s.0) q) place s.1 ts s.4) p) ∙ e)
    by_passes later (Some m) p = let here : ◌≡◌ {A = Option (ℕ × LimitName)} None (Some (k + length s.0, m)) = sym e ∙ ap (λ q. first_passed (noted_token None (k + length s.0) q) place s.1 ts s.4) p ∙ kept (k + length s.0, m) place s.1 ts s.4 in cc
