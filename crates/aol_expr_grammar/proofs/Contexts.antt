-- The texts before an operand: those of the open brackets and of the operators that wait.
use Rattle.std.proofs.Common.{◌≡◌, ℕ, suc, ◌<◌, ◌≤◌, List, [], ◌∷◌, ◌++◌, length, refl, sym, ◌∙◌, ap, arith, append_assoc}
use Rattle.std.proofs.lemmas.List.{append-nil}
use Rattle.aol_expr_tree.specs.declared.reader.Waiting.{Waiting}
use Rattle.aol_expr_tree.specs.declared.reader.Bracket.{Bracket}
use Rattle.aol_expr_tree.specs.declared.reader.Level.{Level}
use Rattle.aol_expr_tree.specs.Reading.{nothing_waits}
use Rattle.aol_expr_grammar.proofs.Combined.{Spells, Waits, none_waits, all_take}
use Rattle.aol_expr_grammar.proofs.OpenBrackets.{IsOpen}

-- the texts of the open brackets, the innermost first
abbrev pub Levels : List Level → List (List ℕ) → Type 0
Levels [] ts = ts ≡ []
Levels (l ∷ ls) ts = (before : List (List ℕ)) × (left : List (List ℕ)) × (own : List (List ℕ)) × Levels ls before × Waits (length ls) l.waiting left × IsOpen (length ls) l.bracket own × (ts ≡ (before ++ left) ++ own)

-- the texts before an operand
pub record Before (ls : List Level) (w : Waiting) (ts : List (List ℕ)) : Type 0 where
  pub outside : List (List ℕ)
  pub left : List (List ℕ)
  pub levels : Levels ls outside
  pub waits : Waits (length ls) w left
  pub few : length ls ≤ 100
  pub texts_are : ts ≡ outside ++ left

-- nothing is open, and nothing waits
pub before_all : Before [] nothing_waits []
before_all = record { outside = []; left = []; levels = refl; waits = none_waits 0; few = omega arith; texts_are = refl }

-- another operator waits
pub before_right : {ls : List Level} {w : Waiting} {ts : List (List ℕ)} (v : Waiting) (more : List (List ℕ)) → Before ls w ts → ((left : List (List ℕ)) → Waits (length ls) w left → Waits (length ls) v (left ++ more)) → Before ls v (ts ++ more)
before_right v more b f = record { outside = b.outside; left = b.left ++ more; levels = b.levels; waits = f b.left b.waits; few = b.few; texts_are = ap (λ t. t ++ more) b.texts_are ∙ append_assoc b.outside b.left more }

-- a bracket opens
pub before_inside : {ls : List Level} {w : Waiting} {ts : List (List ℕ)} (k : Bracket) (a : ℕ) (own : List (List ℕ)) → length ls < 100 → Before ls w ts → IsOpen (length ls) k own → Before (record { bracket = k; waiting = w; around = a } ∷ ls) nothing_waits (ts ++ own)
before_inside {ls} {w} {ts} k a own room b o = record {
  outside = ts ++ own;
  left = [];
  levels = (b.outside, b.left, own, b.levels, b.waits, o, ap (λ t. t ++ own) b.texts_are);
  waits = none_waits (suc (length ls));
  few = omega (arith, room);
  texts_are = sym (append-nil (ts ++ own));
}

-- the texts before an argument, with the argument and the byte after it: what its bracket takes
module _ {l : Level} {ls : List Level} {w : Waiting} {ts arg : List (List ℕ)} (c : ℕ) (b : Before (l ∷ ls) w ts) (s : Spells (suc (length ls)) 3 arg) where
  whole_argument : List (List ℕ)
  whole_argument = b.left ++ arg

  argument : Spells (suc (length ls)) 0 (b.left ++ arg)
  argument = all_take b.waits s

  regrouped : (ts ++ arg) ++ (c ∷ []) ∷ [] ≡ (b.levels.0 ++ b.levels.1) ++ (b.levels.2 ++ ((b.left ++ arg) ++ (c ∷ []) ∷ []))
  regrouped = ap (λ t. (t ++ arg) ++ (c ∷ []) ∷ []) (b.texts_are ∙ ap (λ t. t ++ b.left) b.levels.6) ∙ simp append_assoc

  -- the next argument
  pub before_next : (k : Bracket) → (IsOpen (length ls) l.bracket b.levels.2 → Spells (suc (length ls)) 0 (b.left ++ arg) → IsOpen (length ls) k (b.levels.2 ++ ((b.left ++ arg) ++ (c ∷ []) ∷ [])))
      → Before (record l { bracket = k } ∷ ls) nothing_waits ((ts ++ arg) ++ (c ∷ []) ∷ [])
  before_next k f = record {
    outside = (ts ++ arg) ++ (c ∷ []) ∷ [];
    left = [];
    levels = (b.levels.0, b.levels.1, b.levels.2 ++ ((b.left ++ arg) ++ (c ∷ []) ∷ []), b.levels.3, b.levels.4, f b.levels.5 argument, regrouped);
    waits = none_waits (suc (length ls));
    few = b.few;
    texts_are = sym (append-nil ((ts ++ arg) ++ (c ∷ []) ∷ []));
  }

  -- on after the bracket
  pub before_behind : Before ls l.waiting (b.levels.0 ++ b.levels.1)
  before_behind = record { outside = b.levels.0; left = b.levels.1; levels = b.levels.3; waits = b.levels.4; few = omega (arith, b.few); texts_are = refl }

  pub behind_texts : (ts ++ arg) ++ (c ∷ []) ∷ [] ≡ (b.levels.0 ++ b.levels.1) ++ (b.levels.2 ++ ((b.left ++ arg) ++ (c ∷ []) ∷ []))
  behind_texts = regrouped

  pub behind_spells : (IsOpen (length ls) l.bracket b.levels.2 → (own : List (List ℕ)) → Spells (suc (length ls)) 0 own → Spells (length ls) 3 (b.levels.2 ++ (own ++ (c ∷ []) ∷ []))) → Spells (length ls) 3 (b.levels.2 ++ ((b.left ++ arg) ++ (c ∷ []) ∷ []))
  behind_spells f = f b.levels.5 (b.left ++ arg) argument
