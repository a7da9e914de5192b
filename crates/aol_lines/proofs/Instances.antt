-- The text of an instance.
use Rattle.std.proofs.Common.{◌≡◌, ℕ, zero, suc, ◌+◌, ◌*◌, ◌/◌, ◌%◌, ◌<◌, ◌≤◌, List, [], ◌∷◌, ◌++◌, subst, sym, ◌∙◌, ap, arith, length, true, false, ◌==◌, append_assoc, take, slice_get, Some, ◌-◌, nat_lt}
use Rattle.std.specs.List.{join_with_byte}
use Rattle.std.specs.Fmt.{decimal}
use Rattle.std.proofs.lemmas.Bool.{lt-ltb, le-ltb}
use Rattle.std.proofs.lemmas.Bool.Decides.{nat_tests}
use Rattle.std.proofs.Math.Nat.{mul-div_cancel_left}
use Rattle.std.specs.Prelude.{map}
use Rattle.aol_shape.specs.Shape.{size, point_at}
use Rattle.aol_vsl.specs.Text.{shape_text}
use Rattle.aol_model_types.specs.declared.document.Model.{Model}
use Rattle.aol_flat.specs.declared.leaf.Leaf.{Leaf as LeafRow}
use Rattle.aol_flat.specs.Instance.{Leaf, leaves, leaf_path}
use Rattle.aol_flat.specs.Leaves.{instances_of, IsLeafRow}
use Rattle.aol_lines.specs.Instance.{text_among, instance_text, IsInLeaf}

-- where there is a point, the points of a space are so many of the inner one
below_is : (n : ℕ) (inner : List ℕ) (points : ℕ) → points ≡ n * size inner → 1 ≤ points → points / n ≡ size inner
below_is zero inner points is some = omega (arith, is, some)
below_is (suc n) inner points is some =
    let more : 0 < suc n = omega arith in
    ap (λ p. p / suc n) is ∙ mul-div_cancel_left (size inner) more

-- the first index of a point, and the others
point_parts : (space inner : List ℕ) (n points rank below : ℕ) → space ≡ n ∷ inner → points ≡ size space → 1 ≤ points → below ≡ points / n → point_at space rank ≡ (rank / below) ∷ point_at inner (rank % below)
point_parts space inner n points rank below parts is some made =
    let same : size inner ≡ below = sym (below_is n inner points (is ∙ ap size parts) some) ∙ sym made in
    ap (λ s. point_at s rank) parts ∙ ap (λ b. (rank / b) ∷ point_at inner (rank % b)) same

-- a list with an element isn't empty
not_empty : (k : ℕ) → true ≡ (suc k == 0) → ⊥
not_empty k h = let e : (suc k == 0) ≡ false = grind (arith, nat_tests) in cc

-- the text of the last index
pub last_index : (space inner : List ℕ) (n points rank below : ℕ) → space ≡ n ∷ inner → points ≡ size space → 1 ≤ points → below ≡ points / n → true ≡ (length inner == 0)
    → decimal (rank / below) ≡ join_with_byte 44 (map decimal (point_at space rank))
last_index space [] n points rank below parts is some made empty = ap (λ p. join_with_byte 44 (map decimal p)) (sym (point_parts space [] n points rank below parts is some made))
last_index space (x ∷ xs) n points rank below parts is some made empty = absurd (not_empty (length xs) empty)

-- the text of one index and then others
pub more_indices : (space inner : List ℕ) (n points rank below : ℕ) → space ≡ n ∷ inner → points ≡ size space → 1 ≤ points → below ≡ points / n → false ≡ (length inner == 0)
    → (decimal (rank / below) ++ 44 ∷ []) ++ join_with_byte 44 (map decimal (point_at inner (rank % below))) ≡ join_with_byte 44 (map decimal (point_at space rank))
more_indices space [] n points rank below parts is some made more = cc
more_indices space (x ∷ xs) n points rank below parts is some made more =
    append_assoc (decimal (rank / below)) (44 ∷ []) (join_with_byte 44 (map decimal (point_at (x ∷ xs) (rank % below))))
    ∙ ap (λ p. join_with_byte 44 (map decimal p)) (sym (point_parts space (x ∷ xs) n points rank below parts is some made))

-- a number, a comma and others, one after another
pub after_index : (text one two three number others : List ℕ) → one ≡ text ++ number → two ≡ one ++ 44 ∷ [] → three ≡ two ++ others → three ≡ text ++ ((number ++ 44 ∷ []) ++ others)
after_index text one two three number others a b c =
    c ∙ ap (λ s. s ++ others) (b ∙ ap (λ s. s ++ 44 ∷ []) a) ∙ ap (λ s. s ++ others) (append_assoc text number (44 ∷ [])) ∙ append_assoc text (number ++ 44 ∷ []) others

-- ---- the leaf of an instance

-- the instances of one leaf more
pub instances_more : (ls : List Leaf) (k : ℕ) (l : Leaf) → slice_get ls k ≡ Some l → instances_of (take (k + 1) ls) ≡ instances_of (take k ls) + size l.space
instances_more [] k l at = cc
instances_more (x ∷ ls) zero l at =
    let e : x ≡ l = cc in
    let one : zero + 1 ≡ suc zero = omega arith in
    omega (arith, ap (λ (y : Leaf). size y.space) e, ap (λ n. instances_of (take n (x ∷ ls))) one)
instances_more (x ∷ ls) (suc k) l at =
    let later = instances_more ls k l at in
    let e : suc k + 1 ≡ suc (k + 1) = omega arith in
    omega (arith, later, ap (λ n. instances_of (take n (x ∷ ls))) e)

-- an instance is told by its leaf and the rank of its indices
pub told : (m : Model) (ls : List Leaf) (k j : ℕ) (l : Leaf) → slice_get ls k ≡ Some l → instances_of (take k ls) ≤ j → j - instances_of (take k ls) < size l.space
    → text_among m ls j ≡ leaf_path m l ++ shape_text (point_at l.space (j - instances_of (take k ls)))
told m [] k j l at after within = cc
told m (x ∷ ls) zero j l at after within =
    let e : x ≡ l = cc in
    let first : nat_lt j (size x.space) ≡ true = lt-ltb j (size x.space) (omega (arith, within, ap (λ (y : Leaf). size y.space) e)) in
    let same : j - 0 ≡ j = omega arith in
    rw first (ap (λ (y : Leaf). leaf_path m y ++ shape_text (point_at y.space j)) e ∙ ap (λ i. leaf_path m l ++ shape_text (point_at l.space i)) (sym same))
told m (x ∷ ls) (suc k) j l at after within =
    let not : nat_lt j (size x.space) ≡ false = le-ltb j (size x.space) (omega (arith, after)) in
    let same : j - size x.space - instances_of (take k ls) ≡ j - (size x.space + instances_of (take k ls)) = omega arith in
    rw not (told m ls k (j - size x.space) l at (omega (arith, after)) (omega (arith, within)) ∙ ap (λ i. leaf_path m l ++ shape_text (point_at l.space i)) same)

-- the same by the row of the leaf
pub record Told (m : Model) (j : ℕ) (row : LeafRow) : Type 0 where
  pub within : j - row.base < row.count
  pub is : row.path ++ shape_text (point_at row.space (j - row.base)) ≡ instance_text m j

pub row_told : (m : Model) (j k : ℕ) (row : LeafRow) → IsInLeaf m j k → IsLeafRow m k row → Told m j row
row_told m j k row i r =
    let both : Some i.work ≡ Some r.leaf = sym i.at ∙ r.at in
    let one : i.work ≡ r.leaf = cc in
    let space : row.space ≡ i.work.space = r.space ∙ sym (ap (λ (l : Leaf). l.space) one) in
    let path : row.path ≡ leaf_path m i.work = r.path ∙ sym (ap (leaf_path m) one) in
    record {
      within = omega (arith, i.within, r.base, r.count, ap (λ (l : Leaf). size l.space) one);
      is =
          ap (λ b. row.path ++ shape_text (point_at row.space (j - b))) r.base
          ∙ ap (λ s. row.path ++ shape_text (point_at s (j - instances_of (take k (leaves m))))) space
          ∙ ap (λ p. p ++ shape_text (point_at i.work.space (j - instances_of (take k (leaves m))))) path
          ∙ sym (told m (leaves m) k j i.work i.at i.after i.within);
    }
