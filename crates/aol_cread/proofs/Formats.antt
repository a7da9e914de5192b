-- Readers of what is spelled in front of a text, made of one another.
use Rattle.std.specs.Prelude.{◌≡◌, ℕ, Bool, true, false, List, [], ◌∷◌, ◌++◌, length, nat_eq, ◌==◌, ◌&&◌, Option, Some, None, option_map, option_and_then, if◌then◌else◌}
use Rattle.std.proofs.Common.{subst, refl, ap, arith, ◌∙◌, take, drop}
use Rattle.std.specs.Cmp.Lexicographic.{pointwise}
use Rattle.aol_cread.specs.Bytes.{Read, found, expect, choose, after, before, between, mapped, is_clear}

-- ---- what a step in a chain gave

pub record Split {A B : Type 0} (f : A → Option B) (o : Option A) (b : B) : Type 0 where
  pub value : A
  pub is : o ≡ Some value
  pub gives : f value ≡ Some b

pub split : {A B : Type 0} (f : A → Option B) (o : Option A) (b : B) → option_and_then f o ≡ Some b → Split f o b
split f None b h = absurd (cc)
split f (Some a) b h = record { value = a; is = refl; gives = h }

pub record SplitMap {A B : Type 0} (f : A → B) (o : Option A) (b : B) : Type 0 where
  pub value : A
  pub is : o ≡ Some value
  pub gives : f value ≡ b

pub split_map : {A B : Type 0} (f : A → B) (o : Option A) (b : B) → option_map f o ≡ Some b → SplitMap f o b
split_map f None b h = absurd (cc)
split_map f (Some a) b h = record { value = a; is = refl; gives = cc }

-- what was read, and what is left
pub some_pair : {A : Type 0} {a b : A} {r s : List ℕ} → found a r ≡ found b s → (a ≡ b) × (r ≡ s)
some_pair {A = A} {a = a} {b = b} {r = r} {s = s} h =
    let x : A × List ℕ = (a, r) in let y : A × List ℕ = (b, s) in
    let p : x ≡ y = cc in
    (ap (λ (q : A × List ℕ). q.0) p, ap (λ (q : A × List ℕ). q.1) p)

pub chosen : {A B P : Type 0} (o : Option A) (f : A → Option B) (other : Option B) (b : B) → choose o f other ≡ Some b → ((a : A) → o ≡ Some a → f a ≡ Some b → P) → (other ≡ Some b → P) → P
chosen None f other b h first second = second h
chosen (Some a) f other b h first second = first a refl h

-- ---- bytes

byte_self : (b : ℕ) → (b == b) ≡ true
byte_self b = grind arith

byte_same : (a b : ℕ) → (a == b) ≡ true → a ≡ b
byte_same a b h = grind (arith, h)

expect_by_self : (t : Bool) (xs r : List ℕ) → t ≡ true → expect xs (xs ++ r) ≡ Some r → (if t then expect xs (xs ++ r) else None) ≡ Some r
expect_by_self true xs r h again = again
expect_by_self false xs r h again = absurd (cc)

pub expect_is : (xs r : List ℕ) → expect xs (xs ++ r) ≡ Some r
unfolding expect
expect_is [] r = refl
expect_is (x ∷ xs) r = expect_by_self (x == x) xs r (byte_self x) (expect_is xs r)

expect_by_test : (t : Bool) (b x : ℕ) (xs s r : List ℕ) → (b == x) ≡ t → (if t then expect xs s else None) ≡ Some r → (expect xs s ≡ Some r → s ≡ xs ++ r) → b ∷ s ≡ x ∷ (xs ++ r)
expect_by_test true b x xs s r h e again = let same = byte_same b x h in let rest = again e in cc
expect_by_test false b x xs s r h e again = absurd (cc)

pub expect_sound : (xs t r : List ℕ) → expect xs t ≡ Some r → t ≡ xs ++ r
unfolding expect
expect_sound [] t r h = cc
expect_sound (x ∷ xs) [] r h = absurd (cc)
expect_sound (x ∷ xs) (b ∷ t) r h = expect_by_test (b == x) b x xs t r refl h (expect_sound xs t r)

-- ---- readers

-- what is found is spelled in front of the rest, and fits
abbrev pub Sound : {A : Type 0} → (List ℕ → Read A) → (A → List ℕ → List ℕ) → (A → Type 0) → Type 0
Sound {A = A} read onto fits = (t : List ℕ) (a : A) (r : List ℕ) → read t ≡ Some (a, r) → (t ≡ onto a r) × fits a

-- what fits is found where it is spelled, and no digit comes next
abbrev pub Complete : {A : Type 0} → (List ℕ → Read A) → (A → List ℕ → List ℕ) → (A → Type 0) → Type 0
Complete {A = A} read onto fits = (a : A) (r : List ℕ) → fits a → is_clear r ≡ true → read (onto a r) ≡ Some (a, r)

module _ {A : Type 0} (f : List ℕ → Read A) (onto : A → List ℕ → List ℕ) (fits : A → Type 0) where
  pub sound_after : (xs : List ℕ) → Sound f onto fits → Sound (after xs f) (λ a r. xs ++ onto a r) fits
  sound_after xs own t a r h =
      let s = split f (expect xs t) (a, r) h in
      let inner = own s.value a r s.gives in
      (expect_sound xs t s.value s.is ∙ ap (λ z. xs ++ z) inner.0, inner.1)

  pub sound_before : (xs : List ℕ) → Sound f onto fits → Sound (before f xs) (λ a r. onto a (xs ++ r)) fits
  sound_before xs own t a r h =
      let s = split (λ (p : A × List ℕ). option_map (λ (q : List ℕ). (p.0, q)) (expect xs p.1)) (f t) (a, r) h in
      let m = split_map (λ (q : List ℕ). (s.value.0, q)) (expect xs s.value.1) (a, r) s.gives in
      let same : s.value.0 ≡ a = ap (λ (p : A × List ℕ). p.0) m.gives in
      let left : m.value ≡ r = ap (λ (p : A × List ℕ). p.1) m.gives in
      let inner = own t s.value.0 s.value.1 s.is in
      (inner.0 ∙ (ap (onto s.value.0) (expect_sound xs s.value.1 m.value m.is ∙ ap (λ z. xs ++ z) left) ∙ ap (λ b. onto b (xs ++ r)) same), subst fits same inner.1)

  pub complete_before : (xs : List ℕ) → ((r : List ℕ) → is_clear (xs ++ r) ≡ true) → Complete f onto fits → Complete (before f xs) (λ a r. onto a (xs ++ r)) fits
  complete_before xs clear own a r fit _ =
      ap (option_and_then (λ (p : A × List ℕ). option_map (λ (q : List ℕ). (p.0, q)) (expect xs p.1))) (own a (xs ++ r) fit (clear r))
      ∙ ap (option_map (λ (q : List ℕ). (a, q))) (expect_is xs r)

  pub complete_after : (xs : List ℕ) → Complete f onto fits → Complete (after xs f) (λ a r. xs ++ onto a r) fits
  complete_after xs own a r fit clear = ap (option_and_then f) (expect_is xs (onto a r)) ∙ own a r fit clear

  -- one of two ways
  pub sound_choose : (xs : List ℕ) (other : List ℕ → Read A) → Sound (after xs f) onto fits → Sound other onto fits → Sound (λ t. choose (expect xs t) f (other t)) onto fits
  sound_choose xs other first second t a r h =
      chosen (expect xs t) f (other t) (a, r) h (λ s is gives. first t a r (ap (option_and_then f) is ∙ gives)) (λ gives. second t a r gives)

  module _ {B : Type 0} (m : A → B) (onto' : B → List ℕ → List ℕ) (fits' : B → Type 0) where
    pub sound_mapped : ((a : A) (r : List ℕ) → onto a r ≡ onto' (m a) r) → ((a : A) → fits a → fits' (m a)) → Sound f onto fits → Sound (mapped m f) onto' fits'
    sound_mapped same more own t b r h =
        let s = split_map (λ (p : A × List ℕ). (m p.0, p.1)) (f t) (b, r) h in
        let is : m s.value.0 ≡ b = ap (λ (p : B × List ℕ). p.0) s.gives in
        let left : s.value.1 ≡ r = ap (λ (p : B × List ℕ). p.1) s.gives in
        let inner = own t s.value.0 s.value.1 s.is in
        (inner.0 ∙ (same s.value.0 s.value.1 ∙ (ap (λ c. onto' c s.value.1) is ∙ ap (onto' b) left)), subst fits' is (more s.value.0 inner.1))

  pub complete_mapped : {B : Type 0} (m : A → B) → Complete f onto fits → (a : A) (r : List ℕ) → fits a → is_clear r ≡ true → mapped m f (onto a r) ≡ Some (m a, r)
  complete_mapped {B = B} m own a r fit clear = ap (option_map (λ (p : A × List ℕ). (m p.0, p.1))) (own a r fit clear)

-- these bytes, and then what is seen in another way
module _ {A B : Type 0} (f : List ℕ → Read A) (onto : A → List ℕ → List ℕ) (fits : A → Type 0) (m : A → B) (onto' : B → List ℕ → List ℕ) (fits' : B → Type 0) (xs : List ℕ) where
  pub sound_form : ((a : A) (r : List ℕ) → xs ++ onto a r ≡ onto' (m a) r) → ((a : A) → fits a → fits' (m a)) → Sound f onto fits → Sound (after xs (mapped m f)) onto' fits'
  sound_form same more own t b r h =
      let s = split (mapped m f) (expect xs t) (b, r) h in
      let w = split_map (λ (p : A × List ℕ). (m p.0, p.1)) (f s.value) (b, r) s.gives in
      let is : m w.value.0 ≡ b = ap (λ (p : B × List ℕ). p.0) w.gives in
      let left : w.value.1 ≡ r = ap (λ (p : B × List ℕ). p.1) w.gives in
      let inner = own s.value w.value.0 w.value.1 w.is in
      (expect_sound xs t s.value s.is ∙ (ap (λ z. xs ++ z) inner.0 ∙ (same w.value.0 w.value.1 ∙ (ap (λ c. onto' c w.value.1) is ∙ ap (onto' b) left))), subst fits' is (more w.value.0 inner.1))

  -- the same, where what is read after the bytes is known only with them
  pub sound_joined : ((a : A) (r : List ℕ) → onto a r ≡ onto' (m a) r) → ((a : A) → fits a → fits' (m a)) → Sound (after xs f) onto fits → Sound (after xs (mapped m f)) onto' fits'
  sound_joined same more own t b r h =
      let s = split (mapped m f) (expect xs t) (b, r) h in
      let w = split_map (λ (p : A × List ℕ). (m p.0, p.1)) (f s.value) (b, r) s.gives in
      let is : m w.value.0 ≡ b = ap (λ (p : B × List ℕ). p.0) w.gives in
      let left : w.value.1 ≡ r = ap (λ (p : B × List ℕ). p.1) w.gives in
      let inner = own t w.value.0 w.value.1 (ap (option_and_then f) s.is ∙ w.is) in
      (inner.0 ∙ (same w.value.0 w.value.1 ∙ (ap (λ c. onto' c w.value.1) is ∙ ap (onto' b) left)), subst fits' is (more w.value.0 inner.1))

module _ {A B : Type 0} (f : List ℕ → Read A) (g : List ℕ → Read B) (onto_f : A → List ℕ → List ℕ) (onto_g : B → List ℕ → List ℕ) (fits_f : A → Type 0) (fits_g : B → Type 0) (xs : List ℕ) where
  abbrev pub onto_both : A × B → List ℕ → List ℕ
  onto_both p r = onto_f p.0 (xs ++ onto_g p.1 r)

  abbrev pub fits_both : A × B → Type 0
  fits_both p = fits_f p.0 × fits_g p.1

  pub sound_between : Sound f onto_f fits_f → Sound g onto_g fits_g → Sound (between f xs g) onto_both fits_both
  sound_between first second t ab r h =
      let s = split (λ (p : A × List ℕ). option_map (λ (q : B × List ℕ). ((p.0, q.0), q.1)) (after xs g p.1)) (f t) (ab, r) h in
      let m = split_map (λ (q : B × List ℕ). ((s.value.0, q.0), q.1)) (after xs g s.value.1) (ab, r) s.gives in
      let is : (s.value.0, m.value.0) ≡ ab = ap (λ (p : (A × B) × List ℕ). p.0) m.gives in
      let left : m.value.1 ≡ r = ap (λ (p : (A × B) × List ℕ). p.1) m.gives in
      let one = first t s.value.0 s.value.1 s.is in
      let two = sound_after g onto_g fits_g xs second s.value.1 m.value.0 m.value.1 m.is in
      (one.0 ∙ (ap (onto_f s.value.0) two.0 ∙ (ap (λ z. onto_both (s.value.0, m.value.0) z) left ∙ ap (λ p. onto_both p r) is)), subst fits_both is (one.1, two.1))

  pub complete_between : ((r : List ℕ) → is_clear (xs ++ r) ≡ true) → Complete f onto_f fits_f → Complete g onto_g fits_g → Complete (between f xs g) onto_both fits_both
  complete_between clear first second ab r fit ends =
      ap (option_and_then (λ (p : A × List ℕ). option_map (λ (q : B × List ℕ). ((p.0, q.0), q.1)) (after xs g p.1))) (first ab.0 (xs ++ onto_g ab.1 r) fit.0 (clear (onto_g ab.1 r)))
      ∙ ap (option_map (λ (q : B × List ℕ). ((ab.0, q.0), q.1))) (complete_after g onto_g fits_g xs second ab.1 r fit.1 ends)

-- ---- what the code's test of a front says

expect_by_tests : (d : Bool) (b x : ℕ) (xs s : List ℕ) (t : Bool) → (b == x) ≡ d → (d && pointwise nat_eq (take (length xs) s) xs) ≡ t → ((pointwise nat_eq (take (length xs) s) xs ≡ t) → expect xs s ≡ (if t then Some (drop (length xs) s) else None))
    → (if d then expect xs s else None) ≡ (if t then Some (drop (length xs) s) else None)
expect_by_tests true b x xs s t is h again = again h
expect_by_tests false b x xs s true is h again = absurd (cc)
expect_by_tests false b x xs s false is h again = refl

pub expect_same : (xs t : List ℕ) (b : Bool) → pointwise nat_eq (take (length xs) t) xs ≡ b → expect xs t ≡ (if b then Some (drop (length xs) t) else None)
unfolding expect
expect_same [] t b h = let e : true ≡ b = h in ap (λ c. if c then Some t else None) e
expect_same (x ∷ xs) [] b h = let e : false ≡ b = h in ap (λ c. if c then Some [] else None) e
expect_same (x ∷ xs) (c ∷ t) b h = expect_by_tests (c == x) c x xs t b refl h (λ g. expect_same xs t b g)
