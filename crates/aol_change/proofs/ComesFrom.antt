-- The map of a model with a repetition in blocks, from what is known of each leaf.
use Rattle.std.proofs.Common.{◌≡◌, ℕ, zero, suc, ◌+◌, ◌*◌, ◌<◌, List, [], ◌∷◌, ◌++◌, length, take, drop, map, flat_map, Option, Some, None, option_map, slice_get, sym, ◌∙◌, ap, refl, arith, subst, append_assoc, ◌⊎◌, inl, inr}
use Rattle.std.specs.Prelude.{pos}
use Rattle.std.specs.List.{IsAmong, AllByRecursion}
use Rattle.std.proofs.Math.Seq.{take-append_seam, drop-append_seam}
use Rattle.std.proofs.lemmas.List.{length-append, length-map}
use Rattle.std.proofs.lemmas.Option.{none-some, slice_get-map, get_or_from_slice_get}
use Rattle.aol_shape.specs.Lists.{numbers_below}
use Rattle.aol_shape.specs.Shape.{size, point_at, points, IsPointOf, IsEntry, IsShape}
use Rattle.aol_shape.proofs.Points.{point_at-is}
use Rattle.aol_shape.proofs.Sizes.{size_both}
use Rattle.aol_tiler.specs.Laws.{inside_block}
use Rattle.aol_tiler.specs.Tiler.{integers}
use Rattle.aol_model_types.specs.declared.document.Model.{Model}
use Rattle.aol_model_types.specs.declared.task.Repeated.{Repeated}
use Rattle.aol_flat.specs.Instance.{Leaf, Instance, leaves, leaf_instances, instance_on, instances}
use Rattle.aol_flat.proofs.Agree.{IsAmong-tail}
use Rattle.aol_flat.proofs.Inside.{point_split, point_both, point_length}
use Rattle.aol_flat.proofs.Names.{slice_get-right}
use Rattle.aol_flat.proofs.Shapes.{wrapped_inside}
use Rattle.aol_change.specs.Change.{unblocked, IsMapOf}
use Rattle.aol_change.specs.Unblocked.{entries_before, numbers_in_tasks, numbers_in_leaf, numbers_in_leaves, old_numbers}
use Rattle.aol_change.specs.UnblockedParts.{HaveRank}
use Rattle.aol_change.proofs.EqualParts.{numbers_get, numbers_many}
use Rattle.aol_change.proofs.UnblockedNumbers.{tasks_many, moved}

-- the repetition at a position inside a block is one of the space
pub unblocked_inside : (space block r p : List ℕ) → AllByRecursion IsEntry space → length block ≡ length space → length r ≡ length space → length p ≡ length space → IsPointOf space (unblocked space block r p)
unblocked_inside space block r p entries b l k = wrapped_inside space (integers (inside_block block r p)) entries (length-map (inside_block block r p) pos ∙ count space block r p b l k)
  where
    count : (space block r p : List ℕ) → length block ≡ length space → length r ≡ length space → length p ≡ length space → length (inside_block block r p) ≡ length space
    count [] [] r p b l k = refl
    count [] (n ∷ block) r p b l k = absurd (omega (arith, b))
    count (s ∷ space) [] r p b l k = absurd (omega (arith, b))
    count (s ∷ space) (n ∷ block) [] p b l k = absurd (omega (arith, l))
    count (s ∷ space) (n ∷ block) (x ∷ r) [] b l k = absurd (omega (arith, k))
    count (s ∷ space) (n ∷ block) (x ∷ r) (y ∷ p) b l k = ap (λ i. suc i) (count space block r p (omega (arith, b)) (omega (arith, l)) (omega (arith, k)))

pub rank_inside : (space outer block s k a p at : List ℕ) (number position : ℕ) → IsShape space → HaveRank space outer block → number < size outer → position < size block
    → s ≡ space → k ≡ block → a ≡ point_at outer number → p ≡ point_at block position → at ≡ unblocked s k a p → IsPointOf space at
rank_inside space outer block s k a p at number position shape rank low inside e f g h is =
    let first = point_at-is outer number low in
    let second = point_at-is block position inside in
    let at_is : at ≡ unblocked space block (point_at outer number) (point_at block position) =
    is ∙ (ap (λ z. unblocked z k a p) e ∙ (ap (λ z. unblocked space z a p) f ∙ (ap (λ z. unblocked space block z p) g ∙ ap (unblocked space block (point_at outer number)) h))) in
    subst (IsPointOf space) (sym at_is)
    (unblocked_inside space block (point_at outer number) (point_at block position) shape.entry rank.block_rank (point_length outer (point_at outer number) first ∙ rank.outer_rank)
    (point_length block (point_at block position) second ∙ rank.block_rank))

-- how the instances of a new leaf come from those of an old one, by the entries before those of the repetition in blocks
pub data ComesFrom (space outer block : List ℕ) (origin : Instance → Instance) (old new : Leaf) : Option ℕ → Type 0 where
  as_before : new.space ≡ old.space → ((at : List ℕ) → IsPointOf old.space at → origin (instance_on new at) ≡ instance_on old at) → ComesFrom space outer block origin old new None
  in_blocks : {before : ℕ} (front back : List ℕ) → length front ≡ before → old.space ≡ front ++ (space ++ back) → new.space ≡ front ++ (outer ++ (block ++ back))
      → ((around over inside below : List ℕ) → IsPointOf front around → IsPointOf outer over → IsPointOf block inside → IsPointOf back below
      → origin (instance_on new (around ++ (over ++ (inside ++ below)))) ≡ instance_on old (around ++ (unblocked space block over inside ++ below)))
      → ComesFrom space outer block origin old new (Some before)

-- ---- one leaf

on_leaf : (l : Leaf) (n : ℕ) → n < size l.space → slice_get (leaf_instances l) n ≡ Some (instance_on l (point_at l.space n))
on_leaf l n low =
    let e : 0 + n ≡ n = omega arith in
    slice_get-map (instance_on l) (points l.space) n
    ∙ (ap (option_map (instance_on l)) (slice_get-map (point_at l.space) (numbers_below (size l.space)) n)
    ∙ ap (λ o. option_map (instance_on l) (option_map (point_at l.space) o)) (numbers_get 0 (size l.space) n low ∙ ap (λ k. Some k) e))

many_on : (l : Leaf) → length (leaf_instances l) ≡ size l.space
many_on l = length-map (points l.space) (instance_on l) ∙ (length-map (numbers_below (size l.space)) (point_at l.space) ∙ numbers_many 0 (size l.space))

-- the old number of the instance with the number x in a leaf, and the instance there
record IsFound (origin : Instance → Instance) (old new : Leaf) (numbers : List ℕ) (first x : ℕ) : Type 0 where
  number : ℕ
  low : number < size old.space
  listed : slice_get numbers x ≡ Some (first + number)
  there : slice_get (leaf_instances old) number ≡ Some (origin (instance_on new (point_at new.space x)))

module _ (space outer block : List ℕ) (entries : AllByRecursion IsEntry space) (rank : HaveRank space outer block) where
  -- the repetition of a block and a position inside it
  pub whole : (r p : List ℕ) → IsPointOf outer r → IsPointOf block p → IsPointOf space (unblocked space block r p)
  whole r p h k = unblocked_inside space block r p entries rank.block_rank (point_length outer r h ∙ rank.outer_rank) (point_length block p k ∙ rank.block_rank)

  numbers_are : (first : ℕ) (around front back : List ℕ) (before : ℕ) → length front ≡ before → around ≡ front ++ (space ++ back)
      → numbers_in_leaf space outer block first around (Some before) ≡ numbers_in_tasks space outer block (size front) first (size back)
  numbers_are first around front back before count is =
      let seam : before + length space ≡ length (front ++ space) = omega (arith, count, length-append front space) in
      let left : take before around ≡ front = ap (λ k. take k around) (sym count) ∙ (ap (take (length front)) is ∙ take-append_seam front (space ++ back)) in
      let right : drop (before + length space) around ≡ back =
      ap (λ k. drop k around) seam ∙ (ap (drop (length (front ++ space))) (is ∙ sym (append_assoc front space back)) ∙ drop-append_seam (front ++ space) back) in
      ap (λ s. numbers_in_tasks space outer block (size s) first (size (drop (before + length space) around))) left ∙ ap (λ s. numbers_in_tasks space outer block (size front) first (size s)) right

  many_in_leaf : (origin : Instance → Instance) (old new : Leaf) (before : Option ℕ) (first : ℕ) → ComesFrom space outer block origin old new before
      → length (numbers_in_leaf space outer block first old.space before) ≡ size new.space
  many_in_leaf origin old new None first (as_before same h) = numbers_many first (size old.space) ∙ ap size (sym same)
  many_in_leaf origin old new (Some before) first (in_blocks front back count is new_is h) =
      ap length (numbers_are first old.space front back before count is)
      ∙ (tasks_many space outer block (size back) first (size front)
      ∙ (ap (λ k. size front * (size outer * k)) (sym (size_both block back))
      ∙ (ap (λ k. size front * k) (sym (size_both outer (block ++ back))) ∙ (sym (size_both front (outer ++ (block ++ back))) ∙ ap size (sym new_is)))))

  found_in_leaf : (origin : Instance → Instance) (old new : Leaf) (before : Option ℕ) (first x : ℕ) → ComesFrom space outer block origin old new before → x < size new.space
      → IsFound origin old new (numbers_in_leaf space outer block first old.space before) first x
  found_in_leaf origin old new None first x (as_before same h) low =
      let less : x < size old.space = omega (arith, low, ap size same) in
      record {
        number = x;
        low = less;
        listed = numbers_get first (size old.space) x less;
        there = on_leaf old x less ∙ ap (λ i. Some i) (sym (h (point_at old.space x) (point_at-is old.space x less)) ∙ ap (λ s. origin (instance_on new (point_at s x))) (sym same));
      }
  found_in_leaf origin old new (Some before) first x (in_blocks front back count is new_is h) low =
      let v = moved space outer block front back whole first x (omega (arith, low, ap size new_is)) in
      let less : v.number < size old.space = omega (arith, v.low, ap size is) in
      let old_point : point_at old.space v.number ≡ v.around ++ (unblocked space block v.over v.inside ++ v.below) = ap (λ s. point_at s v.number) is ∙ v.old_point in
      let new_point : point_at new.space x ≡ v.around ++ (v.over ++ (v.inside ++ v.below)) = ap (λ s. point_at s x) new_is ∙ v.new_point in
      record {
        number = v.number;
        low = less;
        listed = ap (λ ns. slice_get ns x) (numbers_are first old.space front back before count is) ∙ v.listed;
        there =
            on_leaf old v.number less
            ∙ ap (λ i. Some i)
            (ap (instance_on old) old_point ∙ (sym (h v.around v.over v.inside v.below v.around_is v.over_is v.inside_is v.below_is) ∙ ap (λ p. origin (instance_on new p)) (sym new_point)));
      }

  -- the old instance of a new one is there
  pub origin_there : (origin : Instance → Instance) (old new : Leaf) (before : Option ℕ) (at : List ℕ) → ComesFrom space outer block origin old new before → IsPointOf new.space at
      → (x : List ℕ) × IsPointOf old.space x × (origin (instance_on new at) ≡ instance_on old x)
  origin_there origin old new None at (as_before same h) inside = let here : IsPointOf old.space at = subst (λ s. IsPointOf s at) same inside in (at, here, h at here)
  origin_there origin old new (Some before) at (in_blocks front back count is new_is h) inside =
      let a = point_split front (outer ++ (block ++ back)) at (subst (λ s. IsPointOf s at) new_is inside) in
      let o = point_split outer (block ++ back) a.1 a.4 in
      let b = point_split block back o.1 o.4 in
      let s : List ℕ = unblocked space block o.0 b.0 in
      let here : IsPointOf (front ++ (space ++ back)) (a.0 ++ (s ++ b.1)) = point_both front (space ++ back) a.0 (s ++ b.1) a.3 (point_both space back s b.1 (whole o.0 b.0 o.3 b.3) b.4) in
      let parts : at ≡ a.0 ++ (o.0 ++ (b.0 ++ b.1)) = a.2 ∙ ap (λ z. a.0 ++ z) (o.2 ∙ ap (λ z. o.0 ++ z) b.2) in
      (a.0 ++ (s ++ b.1), subst (λ z. IsPointOf z (a.0 ++ (s ++ b.1))) (sym is) here, ap (λ z. origin (instance_on new z)) parts ∙ h a.0 o.0 b.0 b.1 a.3 o.3 b.3 b.4)

-- ---- all leaves

first_part : (x n : ℕ) → (x < n) ⊎ ((y : ℕ) × (x ≡ n + y))
first_part zero zero = inr (0, refl)
first_part zero (suc n) = inl (omega arith)
first_part (suc x) zero = inr (suc x, omega arith)
first_part (suc x) (suc n) = elim (first_part x n) [ inl h ↦ inl (omega (arith, h)) | inr h ↦ inr (h.0, omega (arith, h.1)) ]

past_left : {X : Type 0} (xs ys : List X) (k : ℕ) → k < length xs → slice_get (xs ++ ys) k ≡ slice_get xs k
past_left [] ys k h = absurd (omega (arith, h))
past_left (x ∷ xs) ys zero h = refl
past_left (x ∷ xs) ys (suc k) h = past_left xs ys k (omega (arith, h))

module _ (m : Model) (t : Repeated) (outer block : List ℕ) (entries : AllByRecursion IsEntry t.space) (rank : HaveRank t.space outer block) (origin : Instance → Instance) (new_leaf : Leaf → Leaf) where
  -- each of these leaves has the instances of the new one that it is
  abbrev pub AllCome : List Leaf → Type 0
  AllCome ls = (l : Leaf) → IsAmong ls l → ComesFrom t.space outer block origin l (new_leaf l) (entries_before m t.name l.node)

  come_later : (l : Leaf) (ls : List Leaf) → AllCome (l ∷ ls) → AllCome ls
  come_later l ls h k a = h k (IsAmong-tail l ls k a)

  come_first : (l : Leaf) (ls : List Leaf) → AllCome (l ∷ ls) → ComesFrom t.space outer block origin l (new_leaf l) (entries_before m t.name l.node)
  come_first l ls h = h l (0, (omega arith, refl))

  many_in_leaves : (first : ℕ) (ls : List Leaf) → AllCome ls → length (numbers_in_leaves m t outer block first ls) ≡ length (flat_map leaf_instances (map new_leaf ls))
  many_in_leaves first [] h = refl
  many_in_leaves first (l ∷ ls) h =
      let before : Option ℕ = entries_before m t.name l.node in
      let front = many_in_leaf t.space outer block entries rank origin l (new_leaf l) before first (come_first l ls h) in
      let rest = many_in_leaves (first + size l.space) ls (come_later l ls h) in
      omega (
        arith,
        front,
        rest,
        many_on (new_leaf l),
        length-append (numbers_in_leaf t.space outer block first l.space before) (numbers_in_leaves m t outer block (first + size l.space) ls),
        length-append (leaf_instances (new_leaf l)) (flat_map leaf_instances (map new_leaf ls)),
      )

  found_in_leaves : (first : ℕ) (ls : List Leaf) → AllCome ls → (j : ℕ) (i : Instance) → slice_get (flat_map leaf_instances (map new_leaf ls)) j ≡ Some i
      → (y : ℕ) × (slice_get (numbers_in_leaves m t outer block first ls) j ≡ Some (first + y)) × (slice_get (flat_map leaf_instances ls) y ≡ Some (origin i))
  found_in_leaves first [] h j i at = absurd (none-some i at)
  found_in_leaves first (l ∷ ls) h j i at = go (found_in_leaves (first + size l.space) ls (come_later l ls h)) (first_part j (size (new_leaf l).space))
    where
      before : Option ℕ
      before = entries_before m t.name l.node

      numbers : List ℕ
      numbers = numbers_in_leaf t.space outer block first l.space before

      later : List ℕ
      later = numbers_in_leaves m t outer block (first + size l.space) ls

      new_later : List Instance
      new_later = flat_map leaf_instances (map new_leaf ls)

      many : length numbers ≡ size (new_leaf l).space
      many = many_in_leaf t.space outer block entries rank origin l (new_leaf l) before first (come_first l ls h)

      go : ((k : ℕ) (x : Instance) → slice_get new_later k ≡ Some x → (y : ℕ) × (slice_get later k ≡ Some ((first + size l.space) + y)) × (slice_get (flat_map leaf_instances ls) y ≡ Some (origin x)))
          → (j < size (new_leaf l).space) ⊎ ((y : ℕ) × (j ≡ size (new_leaf l).space + y))
          → (y : ℕ) × (slice_get (numbers ++ later) j ≡ Some (first + y)) × (slice_get (leaf_instances l ++ flat_map leaf_instances ls) y ≡ Some (origin i))
      go rec (inl low) =
          let f = found_in_leaf t.space outer block entries rank origin l (new_leaf l) before first j (come_first l ls h) low in
          let here : Some (instance_on (new_leaf l) (point_at (new_leaf l).space j)) ≡ Some i =
          sym (on_leaf (new_leaf l) j low) ∙ (sym (past_left (leaf_instances (new_leaf l)) new_later j (omega (arith, low, many_on (new_leaf l)))) ∙ at) in
          let same_instance : instance_on (new_leaf l) (point_at (new_leaf l).space j) ≡ i = cc in (
            f.number,
            past_left numbers later j (omega (arith, low, many)) ∙ f.listed,
            past_left (leaf_instances l) (flat_map leaf_instances ls) f.number (omega (arith, f.low, many_on l)) ∙ (f.there ∙ ap (λ k. Some (origin k)) same_instance),
          )
      go rec (inr k) =
          let new_number : length (leaf_instances (new_leaf l)) + k.0 ≡ j = omega (arith, k.1, many_on (new_leaf l)) in
          let r = rec k.0 i
          (sym (slice_get-right (leaf_instances (new_leaf l)) new_later k.0) ∙ (ap (slice_get (leaf_instances (new_leaf l) ++ new_later)) new_number ∙ at)) in
          let number : j ≡ length numbers + k.0 = omega (arith, k.1, many) in
          let sum : (first + size l.space) + r.0 ≡ first + (size l.space + r.0) = omega arith in
          let old_number : size l.space + r.0 ≡ length (leaf_instances l) + r.0 = omega (arith, many_on l) in (
            size l.space + r.0,
            ap (slice_get (numbers ++ later)) number ∙ (slice_get-right numbers later k.0 ∙ (r.1 ∙ ap (λ z. Some z) sum)),
            ap (slice_get (leaf_instances l ++ flat_map leaf_instances ls)) old_number ∙ (slice_get-right (leaf_instances l) (flat_map leaf_instances ls) r.0 ∙ r.2),
          )

  -- the old numbers are the map
  pub map_of : (next : Model) → leaves next ≡ map new_leaf (leaves m) → AllCome (leaves m) → IsMapOf m next origin (old_numbers m t outer block)
  map_of next are all = record {
    each = many_in_leaves 0 (leaves m) all ∙ ap (λ ls. length (flat_map leaf_instances ls)) (sym are);
    number = λ j i at.
        let r = found_in_leaves 0 (leaves m) all j i (ap (λ ls. slice_get (flat_map leaf_instances ls) j) (sym are) ∙ at) in
        let e : 0 + r.0 ≡ r.0 = omega arith in
        ap (slice_get (instances m)) (get_or_from_slice_get (old_numbers m t outer block) j (0 + r.0) 0 r.1 ∙ e) ∙ r.2;
  }
