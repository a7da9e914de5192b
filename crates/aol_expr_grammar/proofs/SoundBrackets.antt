-- What is read stays so where a bracket goes on or is closed.
use Rattle.std.proofs.Common.{◌≡◌, ℕ, suc, List, [], ◌∷◌, ◌++◌, length, Bool, true, false, cond, Option, refl, ap, subst, append_assoc}
use Rattle.aol_expr_tree.specs.declared.part.Part.{Part}
use Rattle.aol_expr_tree.specs.declared.reader.Waiting.{Waiting}
use Rattle.aol_expr_tree.specs.declared.reader.Bracket.{Bracket}
use Rattle.aol_expr_tree.specs.declared.reader.Bracket.TheVariants as brackets
use Rattle.aol_expr_tree.specs.declared.reader.Level.{Level}
use Rattle.aol_expr_tree.specs.declared.reader.Held.{Held}
use Rattle.aol_expr_tree.specs.declared.reader.Reader.{Reader}
use Rattle.aol_expr_tree.specs.Parts.{with_index}
use Rattle.aol_expr_tree.specs.Reading.{nothing_waits, waits, continued, next_argument, left, closed, braced}
use Rattle.aol_expr_grammar.proofs.Gaps.{Spaced, spaced_text}
use Rattle.aol_expr_grammar.proofs.Combined.{Spells, Waits}
use Rattle.aol_expr_grammar.proofs.OpenBrackets.{IsOpen, one_argument, index_more}
use Rattle.aol_expr_grammar.proofs.Contexts.{before_right, before_next, before_behind, behind_texts, behind_spells}
use Rattle.aol_expr_grammar.proofs.States.{IsAt, Wholed, Fits}

-- by the two values of a test
pub fits_when : (t : Bool) (x y : Option Reader) (f : List ℕ) → (t ≡ true → Fits x f) → (t ≡ false → Fits y f) → Fits (cond t x y) f
fits_when true x y f h k = h refl
fits_when false x y f h k = k refl

-- one more text, which is another
pub text_behind : (ts : List (List ℕ)) (f t u : List ℕ) → t ≡ u → Spaced f ts → Spaced (f ++ t) (ts ++ u ∷ [])
text_behind ts f t u e s = subst (λ v. Spaced (f ++ t) (ts ++ v ∷ [])) e (spaced_text ts f t s)

-- one more byte
pub byte_behind : (ts : List (List ℕ)) (f : List ℕ) (b c : ℕ) → b ≡ c → Spaced f ts → Spaced (f ++ b ∷ []) (ts ++ (c ∷ []) ∷ [])
byte_behind ts f b c e s = text_behind ts f (b ∷ []) (c ∷ []) (ap (λ x. x ∷ []) e) s

-- another operator waits after the operand
pub right_comes : {ls : List Level} {w : Waiting} {f : List ℕ} (v : Waiting) (t u : List ℕ) → t ≡ u → (a : Wholed ls w f)
    → ((left : List (List ℕ)) → Waits (length ls) w left → Waits (length ls) v (left ++ (a.operand ++ u ∷ []))) → IsAt ls v (f ++ t)
right_comes {f = f} v t u e a waits = record {
  texts = a.texts ++ (a.operand ++ u ∷ []);
  before = before_right v (a.operand ++ u ∷ []) a.before waits;
  spaced = subst (Spaced (f ++ t)) (append_assoc a.texts a.operand (u ∷ [])) (text_behind (a.texts ++ a.operand) f t u e a.spaced);
}

-- on to the next argument
argument_comes : {l : Level} {ls : List Level} {w : Waiting} {f : List ℕ} (k : Bracket) (b : ℕ) → b ≡ 44 → Wholed (l ∷ ls) w f
    → ((own arg : List (List ℕ)) → IsOpen (length ls) l.bracket own → Spells (suc (length ls)) 0 arg → IsOpen (length ls) k (own ++ (arg ++ (44 ∷ []) ∷ []))) → IsAt (record l { bracket = k } ∷ ls) nothing_waits (f ++ b ∷ [])
argument_comes {f = f} k b e a next = record {
  texts = (a.texts ++ a.operand) ++ (44 ∷ []) ∷ [];
  before = before_next 44 a.before a.spells k (next _ _);
  spaced = byte_behind (a.texts ++ a.operand) f b 44 e a.spaced;
}

continued_by : (h : Held) (p : Part) (k : Bracket) (v : Waiting) (n : ℕ) (ls : List Level) (f : List ℕ) (b : ℕ) → b ≡ 44
    → let l : Level = record { bracket = k; waiting = v; around = n } in Wholed (l ∷ ls) h.waiting f → Fits (continued h p (l ∷ ls)) (f ++ b ∷ [])
unfolding continued next_argument
continued_by h p brackets.Parens v n ls f b e a = tt
continued_by h p (brackets.Indices r) v n ls f b e a = argument_comes _ b e a (λ own arg o s. index_more r (with_index r p) own arg o s)
continued_by h p (brackets.First op) v n ls f b e a = argument_comes _ b e a (λ own arg o s. o arg s)
continued_by h p (brackets.Second op l) v n ls f b e a = tt
continued_by h p brackets.Condition v n ls f b e a = argument_comes _ b e a (λ own arg o s. o arg s)
continued_by h p (brackets.Chosen c) v n ls f b e a = argument_comes _ b e a (λ own arg o s. o arg s)
continued_by h p (brackets.Other c d) v n ls f b e a = tt
continued_by h p (brackets.Term x m) v n ls f b e a = tt

pub continued_fits : (h : Held) (p : Part) (ls : List Level) (f : List ℕ) (b : ℕ) → b ≡ 44 → Wholed ls h.waiting f → Fits (continued h p ls) (f ++ b ∷ [])
unfolding continued
continued_fits h p [] f b e a = tt
continued_fits h p (l ∷ ls) f b e a = continued_by h p l.bracket l.waiting l.around ls f b e a

-- on after a bracket
bracket_ends : {l : Level} {ls : List Level} {w : Waiting} {f : List ℕ} (b c : ℕ) → b ≡ c → Wholed (l ∷ ls) w f
    → ((own arg : List (List ℕ)) → IsOpen (length ls) l.bracket own → Spells (suc (length ls)) 0 arg → Spells (length ls) 3 (own ++ (arg ++ (c ∷ []) ∷ []))) → Wholed ls l.waiting (f ++ b ∷ [])
bracket_ends {f = f} b c e a closes = record {
  texts = _;
  operand = _;
  before = before_behind c a.before a.spells;
  spells = behind_spells c a.before a.spells (λ o arg s. closes _ arg o s);
  spaced = subst (Spaced (f ++ b ∷ [])) (behind_texts c a.before a.spells) (byte_behind (a.texts ++ a.operand) f b c e a.spaced);
}

closed_by : (h : Held) (p : Part) (k : Bracket) (v : Waiting) (n : ℕ) (ls : List Level) (f : List ℕ) (b : ℕ) → b ≡ 41
    → let l : Level = record { bracket = k; waiting = v; around = n } in Wholed (l ∷ ls) h.waiting f → Fits (left h (λ j. closed j p) (l ∷ ls)) (f ++ b ∷ [])
unfolding left closed
closed_by h p brackets.Parens v n ls f b e a = bracket_ends b 41 e a (λ own arg o s. o arg s)
closed_by h p (brackets.Indices r) v n ls f b e a = tt
closed_by h p (brackets.First op) v n ls f b e a = tt
closed_by h p (brackets.Second op l) v n ls f b e a = bracket_ends b 41 e a (λ own arg o s. o arg s)
closed_by h p brackets.Condition v n ls f b e a = tt
closed_by h p (brackets.Chosen c) v n ls f b e a = tt
closed_by h p (brackets.Other c d) v n ls f b e a = bracket_ends b 41 e a (λ own arg o s. o arg s)
closed_by h p (brackets.Term x m) v n ls f b e a = bracket_ends b 41 e a (λ own arg o s. o arg s)

braced_by : (h : Held) (p : Part) (k : Bracket) (v : Waiting) (n : ℕ) (ls : List Level) (f : List ℕ) (b : ℕ) → b ≡ 125
    → let l : Level = record { bracket = k; waiting = v; around = n } in Wholed (l ∷ ls) h.waiting f → Fits (left h (λ j. braced j p) (l ∷ ls)) (f ++ b ∷ [])
unfolding left braced
braced_by h p brackets.Parens v n ls f b e a = tt
braced_by h p (brackets.Indices r) v n ls f b e a = bracket_ends b 125 e a (λ own arg o s. o arg (one_argument s))
braced_by h p (brackets.First op) v n ls f b e a = tt
braced_by h p (brackets.Second op l) v n ls f b e a = tt
braced_by h p brackets.Condition v n ls f b e a = tt
braced_by h p (brackets.Chosen c) v n ls f b e a = tt
braced_by h p (brackets.Other c d) v n ls f b e a = tt
braced_by h p (brackets.Term x m) v n ls f b e a = tt

pub closed_fits : (h : Held) (p : Part) (ls : List Level) (f : List ℕ) (b : ℕ) → b ≡ 41 → Wholed ls h.waiting f → Fits (left h (λ j. closed j p) ls) (f ++ b ∷ [])
unfolding left
closed_fits h p [] f b e a = tt
closed_fits h p (l ∷ ls) f b e a = closed_by h p l.bracket l.waiting l.around ls f b e a

pub braced_fits : (h : Held) (p : Part) (ls : List Level) (f : List ℕ) (b : ℕ) → b ≡ 125 → Wholed ls h.waiting f → Fits (left h (λ j. braced j p) ls) (f ++ b ∷ [])
unfolding left
braced_fits h p [] f b e a = tt
braced_fits h p (l ∷ ls) f b e a = braced_by h p l.bracket l.waiting l.around ls f b e a
