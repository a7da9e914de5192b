-- Lists of lines with one more at the end, and the places of steps.
use Rattle.std.specs.Prelude.{◌≡◌, ℕ, zero, suc, ◌+◌, ◌*◌, ◌<◌, ◌≤◌, ◌==◌, Bool, true, false, ℤ, List, [], ◌∷◌, ◌++◌, length, if◌then◌else◌}
use Rattle.std.proofs.Common.{sym, refl, ap, arith, ◌∙◌, append_assoc}
use Rattle.std.proofs.lemmas.List.{append-nil}
use Rattle.aol_csyn.specs.Tree.{Step}
use Rattle.aol_cread.specs.Lines.{Line, table_line, var_line, call_line}
use Rattle.aol_cread.proofs.Shown.{tables_lines, vars_lines, step_lines, steps_lines, calls_lines, place}

pub tables_more : (t : ℕ) (ts : List (List ℤ)) (numbers : List ℤ) → tables_lines t (ts ++ numbers ∷ []) ≡ tables_lines t ts ++ table_line (t + length ts) numbers ∷ []
tables_more t [] numbers = ap (λ n. table_line n numbers ∷ []) (omega arith)
tables_more t (x ∷ ts) numbers =
    ap (λ ls. table_line t x ∷ ls) (tables_more (t + 1) ts numbers ∙ ap (λ n. tables_lines (t + 1) ts ++ table_line n numbers ∷ []) (omega arith))

pub vars_more : (k n : ℕ) → vars_lines k (suc n) ≡ vars_lines k n ++ var_line (k + n) ∷ []
vars_more k zero = ap (λ m. var_line m ∷ []) (omega arith)
vars_more k (suc n) = ap (λ ls. var_line k ∷ ls) (vars_more (k + 1) n ∙ ap (λ m. vars_lines (k + 1) n ++ var_line m ∷ []) (omega arith))

abbrev pub two : ℕ → ℕ → ℕ × ℕ
two l k = (l, k)

abbrev pub next_place : ℕ → ℕ × ℕ → ℕ × ℕ
next_place w p = if p.1 + 1 == w then two (p.0 + 1) 0 else two p.0 (p.1 + 1)

product_more : (l w : ℕ) → (l + 1) * w ≡ l * w + w
product_more l w = grind arith

module _ (w : ℕ) where
  level_more : (l k n : ℕ) → k + 1 ≡ w → (l + 1) * w + 0 + n ≡ l * w + k + suc n
  level_more l k n h = let p = product_more l w in omega (arith, p, h)

  place_by : (d : Bool) (l k n : ℕ) → ((l k : ℕ) → place w l k (suc n) ≡ next_place w (place w l k n)) → (if d then place w (l + 1) 0 (suc n) else place w l (k + 1) (suc n)) ≡ next_place w (if d then place w (l + 1) 0 n else place w l (k + 1) n)
  place_by true l k n again = again (l + 1) 0
  place_by false l k n again = again l (k + 1)

  pub place_more : (n l k : ℕ) → place w l k (suc n) ≡ next_place w (place w l k n)
  place_more zero l k = refl
  place_more (suc n) l k = place_by (k + 1 == w) l k n (λ l k. place_more n l k)

  abbrev pub StepAt : ℕ × ℕ → Step → List Line
  StepAt p x = step_lines p.0 p.1 x

  steps_by : (d : Bool) (l k n : ℕ) (s x : Step) (xs : List Step) → n ≡ length xs → ((l k : ℕ) → steps_lines w l k (xs ++ x ∷ []) ≡ steps_lines w l k xs ++ StepAt (place w l k n) x)
      → step_lines l k s ++ (if d then steps_lines w (l + 1) 0 (xs ++ x ∷ []) else steps_lines w l (k + 1) (xs ++ x ∷ []))
      ≡ (step_lines l k s ++ (if d then steps_lines w (l + 1) 0 xs else steps_lines w l (k + 1) xs)) ++ StepAt (if d then place w (l + 1) 0 n else place w l (k + 1) n) x
  steps_by true l k n s x xs is again =
      ap (λ ls. step_lines l k s ++ ls) (again (l + 1) 0) ∙ sym (append_assoc (step_lines l k s) (steps_lines w (l + 1) 0 xs) (StepAt (place w (l + 1) 0 n) x))
  steps_by false l k n s x xs is again =
      ap (λ ls. step_lines l k s ++ ls) (again l (k + 1)) ∙ sym (append_assoc (step_lines l k s) (steps_lines w l (k + 1) xs) (StepAt (place w l (k + 1) n) x))

  only_step : (d : Bool) (l k : ℕ) (x : Step) → step_lines l k x ++ (if d then [] else []) ≡ [] ++ step_lines l k x
  only_step true l k x = append-nil (step_lines l k x)
  only_step false l k x = append-nil (step_lines l k x)

  pub steps_more : (xs : List Step) (l k : ℕ) (x : Step) → steps_lines w l k (xs ++ x ∷ []) ≡ steps_lines w l k xs ++ StepAt (place w l k (length xs)) x
  steps_more [] l k x = only_step (k + 1 == w) l k x
  steps_more (s ∷ xs) l k x = steps_by (k + 1 == w) l k (length xs) s x xs refl (λ l k. steps_more xs l k x)

  calls_by : (d : Bool) (l k n : ℕ) → ((l k : ℕ) → calls_lines w l k (suc n) ≡ calls_lines w l k n ++ call_line (place w l k n).0 (place w l k n).1 ∷ [])
      → call_line l k ∷ (if d then calls_lines w (l + 1) 0 (suc n) else calls_lines w l (k + 1) (suc n))
      ≡ (call_line l k ∷ (if d then calls_lines w (l + 1) 0 n else calls_lines w l (k + 1) n)) ++ call_line (if d then place w (l + 1) 0 n else place w l (k + 1) n).0 (if d then place w (l + 1) 0 n else place w l (k + 1) n).1 ∷ []
  calls_by true l k n again = ap (λ ls. call_line l k ∷ ls) (again (l + 1) 0)
  calls_by false l k n again = ap (λ ls. call_line l k ∷ ls) (again l (k + 1))

  first_call : (d : Bool) (l k : ℕ) → call_line l k ∷ (if d then [] else []) ≡ [] ++ call_line l k ∷ []
  first_call true l k = refl
  first_call false l k = refl

  pub calls_more : (n l k : ℕ) → calls_lines w l k (suc n) ≡ calls_lines w l k n ++ call_line (place w l k n).0 (place w l k n).1 ∷ []
  calls_more zero l k = first_call (k + 1 == w) l k
  calls_more (suc n) l k = calls_by (k + 1 == w) l k n (λ l k. calls_more n l k)

  -- ---- how many steps come before a place

  pub record Before (l k n : ℕ) (p : ℕ × ℕ) : Type 0 where
    pub many : p.0 * w + p.1 ≡ l * w + k + n
    pub within : p.1 < w

  before_by : (d : Bool) (l k n : ℕ) → (k + 1 == w) ≡ d → k < w → ((l k : ℕ) → k < w → Before l k n (place w l k n)) → Before l k (suc n) (if d then place w (l + 1) 0 n else place w l (k + 1) n)
  before_by true l k n is h again =
      let last : k + 1 ≡ w = grind (arith, is) in
      let rest = again (l + 1) 0 (omega (arith, h)) in
      let many = rest.many in
      record { many = many ∙ level_more l k n last; within = rest.within }
  before_by false l k n is h again =
      let not_last : k + 1 < w = grind (arith, is, h) in
      let rest = again l (k + 1) not_last in
      let many = rest.many in
      record { many = many ∙ omega arith; within = rest.within }

  pub before_place : (n l k : ℕ) → k < w → Before l k n (place w l k n)
  before_place zero l k h = record { many = omega arith; within = h }
  before_place (suc n) l k h = before_by (k + 1 == w) l k n refl h (λ l k i. before_place n l k i)

-- ---- before the count of workers is known

no_next : (k : ℕ) → (k + 1 == 0) ≡ false
no_next k = grind arith

place_alone : (d : Bool) (l k n : ℕ) → d ≡ false → (if d then place 0 (l + 1) 0 n else place 0 l (k + 1) n) ≡ place 0 l (k + 1) n
place_alone true l k n h = absurd (cc)
place_alone false l k n h = refl

pub place_zero : (n l k : ℕ) → place 0 l k n ≡ two l (k + n)
place_zero zero l k = ap (λ m. two l m) (omega arith)
place_zero (suc n) l k = place_alone (k + 1 == 0) l k n (no_next k) ∙ (place_zero n l (k + 1) ∙ ap (λ m. two l m) (omega arith))

-- a level that ends no earlier than its steps
both_ways : (d e : Bool) (w l k : ℕ) (s : Step) (xs : List Step) → e ≡ false → (d ≡ true → xs ≡ []) → (d ≡ false → steps_lines 0 l (k + 1) xs ≡ steps_lines w l (k + 1) xs)
    → step_lines l k s ++ (if e then steps_lines 0 (l + 1) 0 xs else steps_lines 0 l (k + 1) xs) ≡ step_lines l k s ++ (if d then steps_lines w (l + 1) 0 xs else steps_lines w l (k + 1) xs)
both_ways d true w l k s xs h none again = absurd (cc)
both_ways true false w l k s xs h none again = let no = none refl in ap (λ ls. step_lines l k s ++ ls) (ap (λ ys. steps_lines 0 l (k + 1) ys) no ∙ sym (ap (λ ys. steps_lines w (l + 1) 0 ys) no))
both_ways false false w l k s xs h none again = ap (λ ls. step_lines l k s ++ ls) (again refl)

no_more : (xs : List Step) → length xs ≤ 0 → xs ≡ []
no_more [] h = refl
no_more (x ∷ xs) h = absurd (omega (arith, h))

pub first_level : (w : ℕ) (xs : List Step) (l k : ℕ) → k + length xs ≤ w → steps_lines 0 l k xs ≡ steps_lines w l k xs
first_level w [] l k h = refl
first_level w (s ∷ xs) l k h =
    both_ways (k + 1 == w) (k + 1 == 0) w l k s xs (no_next k) (λ d. no_more xs (grind (arith, h, d))) (λ d. first_level w xs l (k + 1) (omega (arith, h)))

one_way : (d : Bool) (w l k n : ℕ) → d ≡ false → (if d then place w (l + 1) 0 n else place w l (k + 1) n) ≡ place w l (k + 1) n
one_way true w l k n h = absurd (cc)
one_way false w l k n h = refl

last_way : (d : Bool) (w l k n : ℕ) → d ≡ true → n ≡ 0 → (if d then place w (l + 1) 0 n else place w l (k + 1) n) ≡ two (l + 1) 0
last_way true w l k n h none = ap (λ m. place w (l + 1) 0 m) none
last_way false w l k n h none = absurd (cc)

-- the place after a whole level
pub level_ends : (w n l k : ℕ) → 0 < n → k + n ≡ w → place w l k n ≡ two (l + 1) 0
level_ends w zero l k some h = absurd (omega (arith, some))
level_ends w (suc zero) l k some h = last_way (k + 1 == w) w l k 0 (grind (arith, h)) refl
level_ends w (suc (suc n)) l k some h = one_way (k + 1 == w) w l k (suc n) (grind (arith, h)) ∙ level_ends w (suc n) l (k + 1) (omega arith) (omega (arith, h))
