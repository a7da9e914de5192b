-- A vector that is made entry by entry, while each entry is in range.
use Rattle.std.proofs.Common.{◌≡◌, ℕ, suc, ◌+◌, ◌<◌, ◌≤◌, ℤ, pos, List, [], ◌∷◌, ◌++◌, length, Ok, Some, refl, sym, ◌∙◌, ap, subst, take, drop, arith, add-one, add-zero, add_assoc}
use Rattle.std.specs.Prelude.{nat_abs, nat_le}
use Rattle.std.specs.List.{AllByRecursion}
use Rattle.std.proofs.Math.ListN.{set}
use Rattle.std.proofs.Math.Seq.{drop-cons}
use Rattle.std.proofs.lemmas.List.{take_more, length-set, take_more_set, take_all, drop_all}
use Rattle.std.proofs.lemmas.Bool.{le-leb, leb-true, false_from_ne_true}
use Rattle.aol_shape.specs.Vectors.{IsVectorEntry, max_entry}
use Rattle.aol_tiler.specs.Sums.{entry}
use Rattle.aol_tiler.specs.Tiler.{first_out_of}
use Rattle.aol_tiler.specs.Makers.{MakesVector}

-- an entry in range is not the first one out, and another is
pub first_out_of-in : (k : ℕ) (z : ℤ) (zs : List ℤ) → IsVectorEntry z → first_out_of k (z ∷ zs) ≡ first_out_of (k + 1) zs
first_out_of-in k z zs p = rw (le-leb (nat_abs z) max_entry p)

first_out_of-out : (k : ℕ) (z : ℤ) (zs : List ℤ) → ¬ IsVectorEntry z → first_out_of k (z ∷ zs) ≡ Some k
first_out_of-out k z zs p = rw (false_from_ne_true (nat_le (nat_abs z) max_entry) (λ e. p (leb-true (nat_abs z) max_entry e)))

-- the first k entries are those of the vector, and in range
pub record Narrowed (place : ℕ) (made entries : List ℤ) (k : ℕ) : Type 0 where
  pub room : length entries ≡ 12
  pub front : take k entries ≡ take k made
  pub rest : first_out_of (place + k) (drop k made) ≡ first_out_of place made
  pub small : AllByRecursion IsVectorEntry (take k made)

pub narrowed_none : (place : ℕ) (made entries : List ℤ) → length entries ≡ 12 → Narrowed place made entries 0
narrowed_none place made entries room = record { room = room; front = refl; rest = ap (λ j. first_out_of j made) (add-zero place); small = tt }

pub small_push : (zs : List ℤ) (z : ℤ) → AllByRecursion IsVectorEntry zs → IsVectorEntry z → AllByRecursion IsVectorEntry (zs ++ z ∷ [])
small_push [] z h p = (p, tt)
small_push (y ∷ zs) z h p = (h.0, small_push zs z h.1 p)

pub narrowed_more : (place : ℕ) (made entries : List ℤ) (k : ℕ) (z : ℤ) → k < 12 → k < length made → z ≡ entry made k → IsVectorEntry z
    → Narrowed place made entries k → Narrowed place made (set entries k z) (k + 1)
narrowed_more place made entries k z h g e p n = record {
  room = length-set entries k z ∙ n.room;
  front = take_more_set entries k z (omega (arith, h, n.room)) ∙ ap (λ xs. xs ++ z ∷ []) n.front ∙ ap (λ y. take k made ++ y ∷ []) e ∙ sym (take_more made k (pos 0) g);
  rest = ap (λ j. first_out_of j (drop (k + 1) made)) (sym (add_assoc place k 1))
      ∙ ap (λ j. first_out_of (place + k + 1) (drop j made)) (add-one k)
      ∙ sym (first_out_of-in (place + k) (entry made k) (drop (suc k) made) (subst IsVectorEntry e p))
      ∙ ap (first_out_of (place + k)) (sym (drop-cons made k (pos 0) g))
      ∙ n.rest;
  small = rw (take_more made k (pos 0) g) (small_push (take k made) (entry made k) n.small (subst IsVectorEntry e p));
}

pub narrowed_out : (place : ℕ) (made entries : List ℤ) (k : ℕ) → k < length made → ¬ IsVectorEntry (entry made k) → Narrowed place made entries k → first_out_of place made ≡ Some (place + k)
narrowed_out place made entries k g p n =
    sym n.rest ∙ ap (first_out_of (place + k)) (drop-cons made k (pos 0) g) ∙ first_out_of-out (place + k) (entry made k) (drop (suc k) made) p

pub narrowed_all : (place : ℕ) (made entries v : List ℤ) (k : ℕ) → length made ≡ k → k ≤ 12 → v ≡ take k entries → Narrowed place made entries k → MakesVector place (Ok v) made
narrowed_all place made entries v k e h f n =
    let whole : take k made ≡ made = take_all k made (omega (arith, e)) in (
      f ∙ n.front ∙ whole,
      sym n.rest ∙ ap (first_out_of (place + k)) (drop_all k made (omega (arith, e))),
      record { rank = omega (arith, e); entry = subst (AllByRecursion IsVectorEntry) whole n.small },
    )
