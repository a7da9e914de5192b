-- The numbers of elementary leaves by their paths.
use Rattle.std.proofs.Common.{◌≡◌, ℕ, suc, ◌+◌, Bool, true, false, cond, ◌&&◌, List, [], ◌∷◌, drop, Option, Some, None, slice_get, option_and_then, sym, ◌∙◌, ap, refl, subst, arith, add-one, nat_eq}
use Rattle.std.specs.Str.{bytes_eq}
use Rattle.std.proofs.Math.Seq.{drop-cons}
use Rattle.std.proofs.lemmas.Bool.Decides.{nat_tests}
use Rattle.std.proofs.lemmas.Option.{get_or_from_slice_get, slice_get_within}
use Rattle.aol_shape.specs.Lists.{same}
use Rattle.aol_shape.proofs.SameTexts.{pointwise_same}
use Rattle.aol_model_types.specs.declared.document.Model.{Model}
use Rattle.aol_flat.specs.declared.leaf.LeafKind.{LeafKind}
use Rattle.aol_flat.specs.declared.leaf.LeafKind.TheVariants as kinds
use Rattle.aol_flat.specs.Instance.{Work, Computes, Copies, Leaf, leaves, leaf_path}
use Rattle.aol_flat.specs.Leaves.{kind_of}
use Rattle.aol_flat.proofs.Names.{both-true, same-equal}
use Rattle.aol_allocate.specs.Placement.{computes, leaf_from, leaf_number, leaf_of_path}
use Rattle.aol_allocate.specs.Tables.{is_elementary}

nat_eq_sym : (x y : ℕ) → nat_eq x y ≡ nat_eq y x
nat_eq_sym x y = grind (arith, nat_tests)

same_sym : (a b : List ℕ) → same a b ≡ same b a
same_sym [] [] = refl
same_sym [] (y ∷ ys) = refl
same_sym (x ∷ xs) [] = refl
same_sym (x ∷ xs) (y ∷ ys) = rw (nat_eq_sym x y, same_sym xs ys) refl

-- std's test of two texts
test_same : (q path : List ℕ) → bytes_eq q path ≡ same path q
test_same q path = pointwise_same q path ∙ same_sym q path

-- a row's kind tells whether the leaf computes
kind_tells : (w : Work) (k : ℕ) → is_elementary (elim w [ Computes ↦ kinds.Elementary k | Copies r n ↦ kinds.Copy ]) ≡ computes w
kind_tells Computes k = refl
kind_tells (Copies r n) k = refl

-- one more leaf in front
pub leaf_more : (m : Model) (ls : List Leaf) (k : ℕ) (l : Leaf) (kind : LeafKind) (path q : List ℕ) (old new : Option ℕ) → slice_get ls k ≡ Some l → kind ≡ kind_of m l → path ≡ leaf_path m l
    → old ≡ leaf_from m (k + 1) (drop (k + 1) ls) q → new ≡ cond (is_elementary kind && bytes_eq q path) (Some k) old → new ≡ leaf_from m k (drop k ls) q
leaf_more m ls k l kind path q old new at is named found grown =
    let split : drop k ls ≡ l ∷ drop (k + 1) ls =
    drop-cons ls k l (slice_get_within ls k l at)
    ∙ (ap (λ x. x ∷ drop (suc k) ls) (get_or_from_slice_get ls k l l at) ∙ ap (λ n. l ∷ drop n ls) (sym (add-one k))) in
    let kind_is : is_elementary kind ≡ computes l.work = ap is_elementary is ∙ kind_tells l.work _ in
    let tested : (is_elementary kind && bytes_eq q path) ≡ (computes l.work && same (leaf_path m l) q) =
    ap (λ b. b && bytes_eq q path) kind_is ∙ ap (λ b. computes l.work && b) (test_same q path ∙ ap (λ n. same n q) named) in
    grown
    ∙ (ap (λ b. cond b (Some k) old) tested
    ∙ (ap (λ o. cond (computes l.work && same (leaf_path m l) q) (Some k) o) found
    ∙ ap (λ xs. leaf_from m k xs q) (sym split)))

-- ---- what is found

-- the leaf with the number that a path has
pub record IsLeafAt (m : Model) (ls : List Leaf) (path : List ℕ) (k : ℕ) : Type 0 where
  pub leaf : Leaf
  pub at : slice_get ls k ≡ Some leaf
  pub elementary : computes leaf.work ≡ true
  pub own_path : leaf_path m leaf ≡ path

record IsLeafFrom (m : Model) (from : ℕ) (ls : List Leaf) (path : List ℕ) (j : ℕ) : Type 0 where
  number : ℕ
  shifted : j ≡ from + number
  found : IsLeafAt m ls path number

found_from : (m : Model) (from : ℕ) (ls : List Leaf) (path : List ℕ) (j : ℕ) → leaf_from m from ls path ≡ Some j → IsLeafFrom m from ls path j
found_from m from [] path j h = cc
found_from m from (l ∷ ls) path j h = go (computes l.work && same (leaf_path m l) path) refl (found_from m (from + 1) ls path j)
  where
    go : (b : Bool) → (computes l.work && same (leaf_path m l) path) ≡ b → (leaf_from m (from + 1) ls path ≡ Some j → IsLeafFrom m (from + 1) ls path j) → IsLeafFrom m from (l ∷ ls) path j
    go true e later =
        let k = rw e at h in
        let here : from ≡ j = cc in
        let parts = both-true (computes l.work) (same (leaf_path m l) path) e in
        record { number = 0; shifted = omega (arith, here); found = record { leaf = l; at = refl; elementary = parts.0; own_path = same-equal (leaf_path m l) path parts.1 } }
    go false e later =
        let r = later (rw e at h) in
        record {
          number = suc r.number;
          shifted = omega (arith, r.shifted);
          found = record { leaf = r.found.leaf; at = r.found.at; elementary = r.found.elementary; own_path = r.found.own_path };
        }

pub found_leaf : (m : Model) (path : List ℕ) (k : ℕ) → leaf_number m path ≡ Some k → IsLeafAt m (leaves m) path k
found_leaf m path k h =
    let r = found_from m 0 (leaves m) path k h in
    let same_number : r.number ≡ k = omega (arith, r.shifted) in
    let P : ℕ → Type 0 = λ n. IsLeafAt m (leaves m) path n in
    subst P same_number r.found

pub leaf_by_number : (m : Model) (path : List ℕ) (k : ℕ) (l : Leaf) → leaf_number m path ≡ Some k → slice_get (leaves m) k ≡ Some l → leaf_of_path m path ≡ Some l
leaf_by_number m path k l h at = ap (option_and_then (slice_get (leaves m))) h ∙ at

pub no_leaf : (m : Model) (path : List ℕ) → leaf_number m path ≡ None → leaf_of_path m path ≡ None
no_leaf m path h = ap (option_and_then (slice_get (leaves m))) h

-- paths with one number are one path
pub one_path : (m : Model) (p q : List ℕ) (k : ℕ) → leaf_number m p ≡ Some k → leaf_number m q ≡ Some k → p ≡ q
one_path m p q k g h =
    let a = found_leaf m p k g in
    let b = found_leaf m q k h in
    let both : Some a.leaf ≡ Some b.leaf = sym a.at ∙ b.at in
    let leaf : a.leaf ≡ b.leaf = cc in
    sym a.own_path ∙ (ap (leaf_path m) leaf ∙ b.own_path)

-- the leaf with that number computes
pub elementary_at : (m : Model) (path : List ℕ) (k : ℕ) (l : Leaf) → leaf_number m path ≡ Some k → slice_get (leaves m) k ≡ Some l → computes l.work ≡ true
elementary_at m path k l h at =
    let f = found_leaf m path k h in
    let both : Some l ≡ Some f.leaf = sym at ∙ f.at in
    let leaf : l ≡ f.leaf = cc in
    ap (λ (x : Leaf). computes x.work) leaf ∙ f.elementary
