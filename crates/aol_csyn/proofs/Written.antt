-- What is written in one call after another.
use Rattle.std.specs.Prelude.{◌≡◌, ℕ, suc, ◌+◌, ◌-◌, ◌^◌, ◌<◌, ◌≤◌, ◌==◌, if◌then◌else◌, ℤ, pos, negsuc, int_lt, unsigned_abs, codes, decimal, map, Bool, true, false, List, [], ◌∷◌, ◌++◌, length, take, drop, Option, Some, None, Ok, Err}
use Rattle.std.specs.Io.KnownBytes.{Appends}
use Rattle.std.proofs.Common.{sym, ◌∙◌, ap, subst, refl, arith, append_assoc, length-append, get_or, add-one}
use Rattle.std.proofs.Math.Seq.{take-append-add, drop-cons}
use Rattle.std.proofs.lemmas.List.{take-append-le, append-nil, at_drop_all}
use Rattle.aol_io.specs.Causes.{Rose, HasCause}
use Rattle.aol_io.specs.Streams.{TookPrefix}
use Rattle.aol_csyn.specs.declared.program.CStep.{CStep}
use Rattle.aol_csyn.specs.Tree.{Step}
use Rattle.aol_csyn.specs.Stored.{step_of}
use Rattle.aol_csyn.specs.Text.{number_text, vars_text, var_line, step_text, steps_text, call_text, calls_text}
use Rattle.aol_csyn.specs.Writing.{Progress, progress, AddsBy, Adds}

appends_both : (old mid new : Option (List ℕ)) (xs ys : List ℕ) → Appends old mid xs → Appends mid new ys → Appends old new (xs ++ ys)
appends_both None mid new xs ys p q = tt
appends_both (Some a) None new xs ys p q = absurd p
appends_both (Some a) (Some b) None xs ys p q = absurd q
appends_both (Some a) (Some b) (Some c) xs ys p q = q ∙ ap (λ z. z ++ ys) p ∙ append_assoc a xs ys

prefix_front : (old new : Option (List ℕ)) (xs ys : List ℕ) → TookPrefix old new xs → TookPrefix old new (xs ++ ys)
prefix_front old new xs ys t =
    let short = t.1 in
    let shown : take t.0 (xs ++ ys) ≡ take t.0 xs = take-append-le t.0 xs ys short in
    (t.0, omega (arith, short, length-append xs ys), subst (λ z. Appends old new z) (sym shown) t.2)

prefix_after : (old mid new : Option (List ℕ)) (xs ys : List ℕ) → Appends old mid xs → TookPrefix mid new ys → TookPrefix old new (xs ++ ys)
prefix_after old mid new xs ys p t =
    let short = t.1 in
    let shown : take (length xs + t.0) (xs ++ ys) ≡ xs ++ take t.0 ys = take-append-add xs ys t.0 in
    (length xs + t.0, omega (arith, short, length-append xs ys), subst (λ z. Appends old new z) (sym shown) (appends_both old mid new xs (take t.0 ys) p t.2))

module _ (old mid new : Progress) (xs ys : List ℕ) where
  by_cases : (a b c : Bool) → old.failed ≡ a → mid.failed ≡ b → new.failed ≡ c → AddsBy a b old mid xs → AddsBy b c mid new ys → AddsBy a c old new (xs ++ ys)
  by_cases true true c h k l p q = q ∙ p
  by_cases true false c h k l p q = let same : mid.failed ≡ old.failed = ap (λ (s : Progress). s.failed) p in absurd (cc)
  by_cases false false false h k l p q = let x = p.1 in let y = q.1 in (appends_both old.taken mid.taken new.taken xs ys p.0 q.0, omega (arith, x, y))
  by_cases false false true h k l p q = let x = p.1 in let y = q.1 in let z = q.2 in (prefix_after old.taken mid.taken new.taken xs ys p.0 q.0, omega (arith, x, y), omega (arith, x, z))
  by_cases false true true h k l p q = (
    subst (λ t. TookPrefix old.taken t (xs ++ ys)) (ap (λ (s : Progress). s.taken) (sym q)) (prefix_front old.taken mid.taken xs ys p.0),
    subst (λ n. Rose old.faults n) (ap (λ (s : Progress). s.faults) (sym q)) p.1,
    subst (λ n. old.faults ≤ n) (ap (λ (s : Progress). s.faults) (sym q)) p.2,
  )
  by_cases false true false h k l p q = let same : new.failed ≡ mid.failed = ap (λ (s : Progress). s.failed) q in absurd (cc)

-- one text after another
pub adds_both : {old mid new : Progress} {xs ys : List ℕ} → Adds old mid xs → Adds mid new ys → Adds old new (xs ++ ys)
adds_both {old = old} {mid = mid} {new = new} {xs = xs} {ys = ys} p q =
    record { added = by_cases old mid new xs ys old.failed mid.failed new.failed refl refl refl p.added q.added }

-- the same text, spelled in another way
pub adds_as : {old new : Progress} {xs : List ℕ} (ys : List ℕ) → xs ≡ ys → Adds old new xs → Adds old new ys
adds_as {old = old} {new = new} ys same p = subst (λ z. Adds old new z) same p

pub adds_then : {old new : Progress} {xs ys : List ℕ} → Adds old new xs → xs ≡ ys → Adds old new ys
adds_then {old = old} {new = new} w same = subst (λ z. Adds old new z) same w

appends_none : (a : Option (List ℕ)) → Appends a a []
appends_none None = tt
appends_none (Some a) = sym (append-nil a)

none_by : (old : Progress) (a : Bool) → AddsBy a a old old []
none_by old true = refl
none_by old false = (appends_none old.taken, omega arith)

pub adds_none : (old : Progress) → Adds old old []
adds_none old = record { added = none_by old old.failed }

-- ---- the end of a program

module _ {taken taken_now : Option (List ℕ)} {faults faults_now : ℕ} {failed : Bool} {text : List ℕ} (added : Adds (progress taken faults false) (progress taken_now faults_now failed) text) where
  by_flag : (b : Bool) → failed ≡ b → AddsBy false b (progress taken faults false) (progress taken_now faults_now failed) text
  by_flag b h = subst (λ c. AddsBy false c (progress taken faults false) (progress taken_now faults_now failed) text) h added.added

  pub failed_prefix : failed ≡ true → TookPrefix taken taken_now text
  failed_prefix h = let all = by_flag true h in all.0

  pub failed_cause : {T E : Type 0} {e : E} → failed ≡ true → HasCause {T = T} faults faults_now (Err e)
  failed_cause h = let all = by_flag true h in record { later = all.2; failed = all.1 }

  pub ended_all : failed ≡ false → Appends taken taken_now text
  ended_all h = let all = by_flag false h in all.0

  pub ended_cause : {T E : Type 0} {t : T} → failed ≡ false → HasCause {E = E} faults faults_now (Ok t)
  ended_cause h = let all = by_flag false h in record { later = all.1; failed = tt }

-- ---- loops

-- a part of the text is written, and the rest is left
pub record Begun (old now : Progress) (rest whole : List ℕ) : Type 0 where
  pub done : List ℕ
  pub wrote : Adds old now done
  pub split : done ++ rest ≡ whole

pub begun_none : (old : Progress) (whole : List ℕ) → Begun old old whole whole
begun_none old whole = record { done = []; wrote = adds_none old; split = refl }

pub begun_more : (old mid new : Progress) (one rest whole : List ℕ) → Begun old mid (one ++ rest) whole → Adds mid new one → Begun old new rest whole
begun_more old mid new one rest whole b w =
    record { done = b.done ++ one; wrote = adds_both b.wrote w; split = append_assoc b.done one rest ∙ b.split }

pub begun_all : (old now : Progress) (rest whole : List ℕ) → rest ≡ [] → Begun old now rest whole → Adds old now whole
begun_all old now rest whole none b = adds_as whole (sym (append-nil b.done) ∙ (ap (λ z. b.done ++ z) (sym none) ∙ b.split)) b.wrote

-- the next item of a list, each of which is written in turn; its text may hang on its number
pub begun_at : {X : Type 0} (text : ℕ → List X → List ℕ) (one : ℕ → X → List ℕ) → ((i : ℕ) (x : X) (xs : List X) → text i (x ∷ xs) ≡ one i x ++ text (i + 1) xs) → (xs : List X) (i : ℕ) (d : X)
    → i < length xs → {old mid new : Progress} {whole : List ℕ} → Begun old mid (text i (drop i xs)) whole → Adds mid new (one i (get_or xs i d)) → Begun old new (text (i + 1) (drop (i + 1) xs)) whole
begun_at text one law xs i d within {old = old} {mid = mid} {new = new} {whole = whole} b w =
    let x = get_or xs i d in
    let here : drop i xs ≡ x ∷ drop (i + 1) xs = drop-cons xs i d within ∙ ap (λ n. x ∷ drop n xs) (sym (add-one i)) in
    begun_more old mid new (one i x) (text (i + 1) (drop (i + 1) xs)) whole (subst (λ z. Begun old mid z whole) (ap (text i) here ∙ law i x (drop (i + 1) xs)) b) w

-- where the item is known by an equation
pub begun_item : {X : Type 0} (text : ℕ → List X → List ℕ) (one : ℕ → X → List ℕ) → ((i : ℕ) (x : X) (xs : List X) → text i (x ∷ xs) ≡ one i x ++ text (i + 1) xs) → (xs : List X) (i : ℕ) (x : X)
    → i < length xs → x ≡ get_or xs i x → {old mid new : Progress} {whole : List ℕ} → Begun old mid (text i (drop i xs)) whole → Adds mid new (one i x) → Begun old new (text (i + 1) (drop (i + 1) xs)) whole
begun_item text one law xs i x within is {mid = mid} {new = new} b w = begun_at text one law xs i x within b (subst (λ z. Adds mid new (one i z)) is w)

-- all items are written
pub begun_end : {X : Type 0} (text : List X → List ℕ) (xs : List X) (i : ℕ) → length xs ≤ i → text [] ≡ [] → {old now : Progress} {whole : List ℕ} → Begun old now (text (drop i xs)) whole → Adds old now whole
begun_end text xs i past none {old = old} {now = now} {whole = whole} b = begun_all old now (text (drop i xs)) whole (at_drop_all text xs i past ∙ none) b

-- ---- the lines of variables

pub vars_none : (old : Progress) (n : ℕ) → Begun old old (vars_text 0 (n - 0)) (vars_text 0 n)
vars_none old n = let all : n ≡ n - 0 = omega arith in subst (λ m. Begun old old (vars_text 0 m) (vars_text 0 n)) all (begun_none old (vars_text 0 n))

pub vars_more : (old mid new : Progress) (k n : ℕ) (whole : List ℕ) → k < n → Begun old mid (vars_text k (n - k)) whole → Adds mid new (var_line k) → Begun old new (vars_text (k + 1) (n - (k + 1))) whole
vars_more old mid new k n whole below b w =
    let left : n - k ≡ suc (n - (k + 1)) = omega (arith, below) in
    begun_more old mid new (var_line k) (vars_text (k + 1) (n - (k + 1))) whole (subst (λ m. Begun old mid (vars_text k m) whole) left b) w

pub vars_end : (old now : Progress) (k n : ℕ) (whole : List ℕ) → n ≤ k → Begun old now (vars_text k (n - k)) whole → Adds old now whole
vars_end old now k n whole past b = let none : n - k ≡ 0 = omega (arith, past) in begun_all old now (vars_text k (n - k)) whole (ap (vars_text k) none) b

-- ---- steps and their calls

module _ (w : ℕ) where
  abbrev pub next_level : ℕ → ℕ → ℕ
  next_level l k = if k + 1 == w then l + 1 else l

  abbrev pub next_worker : ℕ → ℕ
  next_worker k = if k + 1 == w then 0 else k + 1

  small_by : (b : Bool) (l k i : ℕ) → l + k ≤ i → (if b then l + 1 else l) + (if b then 0 else k + 1) ≤ i + 1
  small_by true l k i h = omega (arith, h)
  small_by false l k i h = omega (arith, h)

  pub turn_small : (l k i : ℕ) → l + k ≤ i → next_level l k + next_worker k ≤ i + 1
  turn_small l k i h = small_by (k + 1 == w) l k i h

  steps_by : (b : Bool) (l k : ℕ) (xs : List Step) → (if b then steps_text w (l + 1) 0 xs else steps_text w l (k + 1) xs) ≡ steps_text w (if b then l + 1 else l) (if b then 0 else k + 1) xs
  steps_by true l k xs = refl
  steps_by false l k xs = refl

  calls_by : (b : Bool) (l k : ℕ) (xs : List Step) → (if b then calls_text w (l + 1) 0 xs else calls_text w l (k + 1) xs) ≡ calls_text w (if b then l + 1 else l) (if b then 0 else k + 1) xs
  calls_by true l k xs = refl
  calls_by false l k xs = refl

  -- the next item of the steps
  next_item : (xs : List CStep) (i : ℕ) (x : CStep) → i < length xs → x ≡ get_or xs i x → map step_of (drop i xs) ≡ step_of x ∷ map step_of (drop (i + 1) xs)
  next_item xs i x within is = ap (map step_of) (drop-cons xs i x within ∙ ap (λ z. z ∷ drop (suc i) xs) (sym is) ∙ ap (λ n. x ∷ drop n xs) (sym (add-one i)))

  pub steps_more : (old mid new : Progress) (l k i : ℕ) (xs : List CStep) (x : CStep) (whole : List ℕ) → i < length xs → x ≡ get_or xs i x → Begun old mid (steps_text w l k (map step_of (drop i xs))) whole → Adds mid new (step_text l k (step_of x))
      → Begun old new (steps_text w (next_level l k) (next_worker k) (map step_of (drop (i + 1) xs))) whole
  steps_more old mid new l k i xs x whole within is b a =
      let rest = map step_of (drop (i + 1) xs) in
      begun_more old mid new (step_text l k (step_of x)) (steps_text w (next_level l k) (next_worker k) rest) whole
      (subst (λ z. Begun old mid z whole) (ap (steps_text w l k) (next_item xs i x within is) ∙ ap (λ z. step_text l k (step_of x) ++ z) (steps_by (k + 1 == w) l k rest)) b) a

  pub calls_more : (old mid new : Progress) (l k i : ℕ) (xs : List CStep) (x : CStep) (whole : List ℕ) → i < length xs → x ≡ get_or xs i x → Begun old mid (calls_text w l k (map step_of (drop i xs))) whole → Adds mid new (call_text l k)
      → Begun old new (calls_text w (next_level l k) (next_worker k) (map step_of (drop (i + 1) xs))) whole
  calls_more old mid new l k i xs x whole within is b a =
      let rest = map step_of (drop (i + 1) xs) in
      begun_more old mid new (call_text l k) (calls_text w (next_level l k) (next_worker k) rest) whole
      (subst (λ z. Begun old mid z whole) (ap (calls_text w l k) (next_item xs i x within is) ∙ ap (λ z. call_text l k ++ z) (calls_by (k + 1 == w) l k rest)) b) a

-- ---- numbers

negative_by : (n : ℕ) (t : Bool) (a : List ℕ) → (n == 2 ^ 63 - 1) ≡ t → (negsuc n ≡ negsuc 9223372036854775807 → ⊥) → (b : List ℕ) → b ≡ (if t then a else b)
negative_by n true a h apart b = let least : n ≡ 9223372036854775807 = grind (arith, h) in absurd (apart (ap (λ m. negsuc m) least))
negative_by n false a h apart b = refl

pub negative_text : (z : ℤ) (m : ℕ) → int_lt z (pos 0) ≡ true → (z ≡ negsuc 9223372036854775807 → ⊥) → m ≡ unsigned_abs z → (codes "(-" ++ decimal m) ++ codes "LL)" ≡ number_text z
negative_text (pos n) m low apart is = absurd (grind (arith, low))
negative_text (negsuc n) m low apart is =
    let size : m ≡ n + 1 = is ∙ omega arith in
    ap (λ k. (codes "(-" ++ decimal k) ++ codes "LL)") size
    ∙ negative_by n (n == 2 ^ 63 - 1) (codes "(-9223372036854775807LL - 1LL)") refl apart ((codes "(-" ++ decimal (n + 1)) ++ codes "LL)")

pub positive_text : (z : ℤ) (m : ℕ) → int_lt z (pos 0) ≡ false → m ≡ unsigned_abs z → decimal m ++ codes "LL" ≡ number_text z
positive_text (pos n) m low is = ap (λ k. decimal k ++ codes "LL") is
positive_text (negsuc n) m low is = absurd (cc)
