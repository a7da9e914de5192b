-- Lists with numbers put at places, and fronts of lists.
use Rattle.std.specs.Prelude.{◌≡◌, ℕ, zero, suc, ◌+◌, ◌<◌, ℤ, List, [], ◌∷◌, ◌++◌, map, take, length, slice_get, slice_set, Some}
use Rattle.std.proofs.Common.{refl, ap, arith, ◌∙◌}
use Rattle.std.proofs.lemmas.List.{length-set}
use Rattle.aol_csyn.specs.Puts.{of_v, of_f}
use Rattle.aol_expr_tree.specs.Meaning.{nth_number}
use Rattle.aol_cinstance.specs.Values.{set_all, both}

-- ---- entries

pub other_kept : (xs : List ℤ) (k j : ℕ) (z : ℤ) → (k ≡ j → ⊥) → slice_get (slice_set xs k z) j ≡ slice_get xs j
other_kept [] k j z h = refl
other_kept (x ∷ xs) zero zero z h = absurd (h refl)
other_kept (x ∷ xs) zero (suc j) z h = refl
other_kept (x ∷ xs) (suc k) zero z h = refl
other_kept (x ∷ xs) (suc k) (suc j) z h = other_kept xs k j z (λ e. h (ap (λ n. suc n) e))

module _ {A : Type 0} where
  pub take_whole : (xs : List A) → take (length xs) xs ≡ xs
  take_whole [] = refl
  take_whole (x ∷ xs) = ap (λ ys. x ∷ ys) (take_whole xs)

  -- an entry of a front
  pub take_get : (xs : List A) (n k : ℕ) (x : A) → slice_get (take n xs) k ≡ Some x → slice_get xs k ≡ Some x
  take_get [] zero k x h = h
  take_get [] (suc n) k x h = h
  take_get (y ∷ xs) zero zero x h = absurd (cc)
  take_get (y ∷ xs) zero (suc k) x h = absurd (cc)
  take_get (y ∷ xs) (suc n) zero x h = h
  take_get (y ∷ xs) (suc n) (suc k) x h = take_get xs n k x h

  -- an entry below the length
  pub get_below : (xs : List A) (k : ℕ) → k < length xs → (x : A) × (slice_get xs k ≡ Some x)
  get_below [] k h = absurd (omega (arith, h))
  get_below (x ∷ xs) zero h = (x, refl)
  get_below (x ∷ xs) (suc k) h = get_below xs k (omega (arith, h))

  pub get_within : (xs : List A) (k : ℕ) (x : A) → slice_get xs k ≡ Some x → k < length xs
  get_within [] zero x h = absurd (cc)
  get_within [] (suc k) x h = absurd (cc)
  get_within (y ∷ xs) zero x h = omega arith
  get_within (y ∷ xs) (suc k) x h = let more = get_within xs k x h in omega (arith, more)

  -- an entry behind a front
  pub get_behind : (xs ys : List A) (k : ℕ) → slice_get (xs ++ ys) (length xs + k) ≡ slice_get ys k
  get_behind [] ys k = let e : 0 + k ≡ k = omega arith in ap (slice_get ys) e
  get_behind (x ∷ xs) ys k = let e : length (x ∷ xs) + k ≡ suc (length xs + k) = omega arith in ap (slice_get (x ∷ xs ++ ys)) e ∙ get_behind xs ys k

  -- and in it
  pub get_before : (xs ys : List A) (k : ℕ) (x : A) → slice_get xs k ≡ Some x → slice_get (xs ++ ys) k ≡ Some x
  get_before [] ys zero x h = absurd (cc)
  get_before [] ys (suc k) x h = absurd (cc)
  get_before (y ∷ xs) ys zero x h = h
  get_before (y ∷ xs) ys (suc k) x h = get_before xs ys k x h

pub map_get : {A B : Type 0} (f : A → B) (xs : List A) (k : ℕ) (x : A) → slice_get xs k ≡ Some x → slice_get (map f xs) k ≡ Some (f x)
map_get f [] zero x h = absurd (cc)
map_get f [] (suc k) x h = absurd (cc)
map_get f (y ∷ xs) zero x h = cc
map_get f (y ∷ xs) (suc k) x h = map_get f xs k x h

pub map_length : {A B : Type 0} (f : A → B) (xs : List A) → length (map f xs) ≡ length xs
map_length f [] = refl
map_length f (x ∷ xs) = ap (λ n. suc n) (map_length f xs)

pub nth_get : (zs : List ℤ) (k : ℕ) (z : ℤ) → slice_get zs k ≡ Some z → nth_number zs k ≡ z
nth_get [] zero z h = absurd (cc)
nth_get [] (suc k) z h = absurd (cc)
nth_get (y ∷ zs) zero z h = cc
nth_get (y ∷ zs) (suc k) z h = nth_get zs k z h

-- ---- numbers put at places

pub set_length : (xs : List ℤ) (cs : List ℕ) (zs : List ℤ) → length (set_all xs cs zs) ≡ length xs
set_length xs [] zs = refl
set_length xs (c ∷ cs) [] = refl
set_length xs (c ∷ cs) (z ∷ zs) = set_length (slice_set xs c z) cs zs ∙ length-set xs c z

-- what stands elsewhere stays
pub set_other : (xs : List ℤ) (cs : List ℕ) (zs : List ℤ) (k : ℕ) → ((j c : ℕ) → slice_get cs j ≡ Some c → c ≡ k → ⊥) → slice_get (set_all xs cs zs) k ≡ slice_get xs k
set_other xs [] zs k h = refl
set_other xs (c ∷ cs) [] k h = refl
set_other xs (c ∷ cs) (z ∷ zs) k h = set_other (slice_set xs c z) cs zs k (λ j d g e. h (suc j) d g e) ∙ other_kept xs c k z (λ e. h 0 c refl e)

-- one more
pub set_more : (xs : List ℤ) (cs : List ℕ) (zs : List ℤ) (j c : ℕ) (z : ℤ) → slice_get cs j ≡ Some c → slice_get zs j ≡ Some z
    → set_all xs (take (suc j) cs) (take (suc j) zs) ≡ slice_set (set_all xs (take j cs) (take j zs)) c z
set_more xs [] zs zero c z h g = absurd (cc)
set_more xs [] zs (suc j) c z h g = absurd (cc)
set_more xs (d ∷ cs) [] zero c z h g = absurd (cc)
set_more xs (d ∷ cs) [] (suc j) c z h g = absurd (cc)
set_more xs (d ∷ cs) (y ∷ zs) zero c z h g = cc
set_more xs (d ∷ cs) (y ∷ zs) (suc j) c z h g = set_more (slice_set xs d y) cs zs j c z h g

-- one more pair of places
pub both_more : (cs : List ℕ) (j c : ℕ) → slice_get cs j ≡ Some c → both (take j cs) ++ (of_v c ∷ of_f c ∷ []) ≡ both (take (suc j) cs)
both_more [] zero c h = absurd (cc)
both_more [] (suc j) c h = absurd (cc)
both_more (d ∷ cs) zero c h = cc
both_more (d ∷ cs) (suc j) c h = ap (λ x. of_v d ∷ of_f d ∷ x) (both_more cs j c h)
