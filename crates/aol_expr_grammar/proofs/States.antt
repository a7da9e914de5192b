-- What is read so far, by the state of the reader.
use Rattle.std.proofs.Common.{◌≡◌, ℕ, ◌<◌, ◌≤◌, List, [], ◌∷◌, ◌++◌, length, Bool, true, cond, Option, Some, None}
use Rattle.std.specs.Prelude.{codes}
use Rattle.std.specs.List.{list_all}
use Rattle.aol_shape.specs.Texts.{is_digit, is_letter, is_name_byte, is_name, are_digits}
use Rattle.aol_expr_tree.specs.declared.letters.Keyword.{Keyword}
use Rattle.aol_expr_tree.specs.declared.letters.Keyword.TheVariants.{Function, If, Sum}
use Rattle.aol_expr_tree.specs.declared.reader.Waiting.{Waiting}
use Rattle.aol_expr_tree.specs.declared.reader.Level.{Level}
use Rattle.aol_expr_tree.specs.declared.reader.Mode.{Mode}
use Rattle.aol_expr_tree.specs.declared.reader.Mode.TheVariants.{Operand, FirstIndex, Digits, Index, InIndex, InWord, AfterWord, Named, Whole, Smaller, Equal, SumName, InSumName, SumNamed, Bound, InBound, Bounded}
use Rattle.aol_expr_tree.specs.declared.reader.Reader.{Reader}
use Rattle.aol_expr_tree.specs.Text.{strength, alone, op_text}
use Rattle.aol_expr_grammar.proofs.Gaps.{Spaced}
use Rattle.aol_expr_grammar.proofs.Combined.{Spells}
use Rattle.aol_expr_grammar.proofs.Contexts.{Before}

-- an operand comes next
pub record IsAt (ls : List Level) (w : Waiting) (f : List ℕ) : Type 0 where
  pub texts : List (List ℕ)
  pub before : Before ls w texts
  pub spaced : Spaced f texts

-- texts that begin an operand are there, which has a bracket that there is room for
pub record Worded (more : List (List ℕ)) (ls : List Level) (w : Waiting) (f : List ℕ) : Type 0 where
  pub texts : List (List ℕ)
  pub before : Before ls w texts
  pub room : length ls < 100
  pub spaced : Spaced f (texts ++ more)

-- a name is there
pub record NamedAt (x : List ℕ) (ls : List Level) (w : Waiting) (f : List ℕ) : Type 0 where
  pub texts : List (List ℕ)
  pub before : Before ls w texts
  pub right : is_name x ≡ true
  pub spaced : Spaced f (texts ++ x ∷ [])

-- a whole operand is there
pub record Wholed (ls : List Level) (w : Waiting) (f : List ℕ) : Type 0 where
  pub texts : List (List ℕ)
  pub operand : List (List ℕ)
  pub before : Before ls w texts
  pub spells : Spells (length ls) 3 operand
  pub spaced : Spaced f (texts ++ operand)

-- a bracket may be closed at once by a brace
abbrev pub Unfilled : List Level → List ℕ → Type 0
Unfilled [] f = Unit {0}
Unfilled (l ∷ ls) f = (ts : List (List ℕ)) × (own : List (List ℕ)) × Before ls l.waiting ts × Spells (length ls) 3 (own ++ (125 ∷ []) ∷ []) × Spaced f (ts ++ own)

-- the bytes end in the text
pub record Ending (P : List ℕ → Type 0) (text f : List ℕ) : Type 0 where
  pub front : List ℕ
  pub split : f ≡ front ++ text
  pub before : P front

-- a number's text, by its digits
abbrev pub numeral_text : Bool → List ℕ → List ℕ
numeral_text negative ds = cond negative (45 ∷ ds) ds

-- so many digits
pub record AreCounted (count : ℕ) (ds : List ℕ) : Type 0 where
  pub each : list_all is_digit ds ≡ true
  pub counted : length ds ≡ count
  pub most : count ≤ 19

-- a letter, and letters or digits
abbrev pub AreLetters : List ℕ → Type 0
AreLetters [] = ⊥
AreLetters (b ∷ bs) = (is_letter b ≡ true) × (list_all is_name_byte (b ∷ bs) ≡ true) × (length (b ∷ bs) ≤ 64)

-- a word's text
abbrev pub keyword_text : Keyword → List ℕ
keyword_text (Function op) = op_text op
keyword_text If = codes "if"
keyword_text Sum = codes "sum"

-- a function stands alone
abbrev pub IsKeyword : Keyword → Type 0
IsKeyword (Function op) = strength op ≡ alone
IsKeyword k = Unit {0}

-- what a sum begins with
abbrev pub sum_texts : List (List ℕ) → List (List ℕ)
sum_texts more = codes "sum" ∷ (40 ∷ []) ∷ more

-- the bytes so far, by what is open, what waits and the mode
abbrev pub IsRead : List Level → Waiting → Mode → List ℕ → Type 0
IsRead ls w Operand f = IsAt ls w f
IsRead ls w FirstIndex f = IsAt ls w f × Unfilled ls f
IsRead ls w (Digits n) f = (ds : List ℕ) × Ending (IsAt ls w) (numeral_text n.negative ds) f × AreCounted n.digits.count ds
IsRead ls w Index f = Ending (IsAt ls w) (36 ∷ []) f
IsRead ls w (InIndex k) f = (d : ℕ) × Ending (IsAt ls w) (36 ∷ d ∷ []) f × (is_digit d ≡ true)
IsRead ls w (InWord x) f = Ending (IsAt ls w) x f × AreLetters x
IsRead ls w (AfterWord k) f = Worded (keyword_text k ∷ []) ls w f × IsKeyword k
IsRead ls w (Named x) f = NamedAt x ls w f
IsRead ls w (Whole p) f = Wholed ls w f
IsRead ls w (Smaller p) f = Ending (Wholed ls w) (60 ∷ []) f × (w.comparison ≡ None)
IsRead ls w (Equal p) f = Ending (Wholed ls w) (61 ∷ []) f × (w.comparison ≡ None)
IsRead ls w SumName f = Worded (sum_texts []) ls w f
IsRead ls w (InSumName x) f = Ending (Worded (sum_texts []) ls w) x f × AreLetters x
IsRead ls w (SumNamed x) f = Worded (sum_texts (x ∷ [])) ls w f × (is_name x ≡ true)
IsRead ls w (Bound x) f = Worded (sum_texts (x ∷ (44 ∷ []) ∷ [])) ls w f × (is_name x ≡ true)
IsRead ls w (InBound x n) f = (ds : List ℕ) × Ending (Worded (sum_texts (x ∷ (44 ∷ []) ∷ [])) ls w) ds f × AreCounted n.digits.count ds × (1 ≤ n.digits.count) × (is_name x ≡ true)
IsRead ls w (Bounded x n) f = (ds : List ℕ) × Worded (sum_texts (x ∷ (44 ∷ []) ∷ ds ∷ [])) ls w f × (are_digits ds ≡ true) × (is_name x ≡ true)

-- the same after a byte that may not fit
abbrev pub Fits : Option Reader → List ℕ → Type 0
Fits None f = Unit {0}
Fits (Some r) f = IsRead r.held.levels r.held.waiting r.mode f
