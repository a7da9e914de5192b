-- The writings of a member, pair by pair.
use Rattle.std.proofs.Common.{◌≡◌, ℕ, zero, suc, ◌+◌, ◌*◌, ◌^◌, ◌<◌, ◌≤◌, List, [], ◌∷◌, ◌++◌, length, map, take, drop, get_or, Bool, Option, Some, None, option_map, slice_get, sym, ◌∙◌, ap, refl, arith, subst, add-one}
use Rattle.std.specs.List.{AllByRecursion}
use Rattle.std.proofs.Math.Seq.{drop-cons, take-suc}
use Rattle.std.proofs.lemmas.List.{append_assoc, append-nil}
use Rattle.std.proofs.lemmas.Grind.{flat_map-append}
use Rattle.std.proofs.lemmas.Option.{slice_get_within}
use Rattle.aol_shape.specs.Shape.{IsPointOf, size, max_points, rank, point_at}
use Rattle.aol_shape.proofs.Points.{rank-lt-size, point_at-rank}
use Rattle.std.proofs.Math.Nat.{mul-le-mul_left}
use Rattle.aol_shape.proofs.Sizes.{size_positive}
use Rattle.aol_tiler.specs.Tiler.{addresses}
use Rattle.aol_flat.specs.Targets.{Writing, earlier_writing, first_repeat}
use Rattle.aol_flat.specs.declared.view.Writer.{Writer}
use Rattle.aol_assign.specs.declared.pairs.Member.{Member}
use Rattle.aol_assign.specs.Pairs.{FitsIn, pair_count, IsPair, member_writings, all_writings}
use Rattle.aol_assign.specs.declared.marks.Hit.{Hit}
use Rattle.aol_assign.specs.declared.marks.Repeat.{Repeat}
use Rattle.aol_assign.specs.Marks.{AreMarks, MarksOn, IsHit, IsEarliest, repeat_of, told_as}
use Rattle.aol_assign.proofs.Marking.{earlier_front, earlier_after}
use Rattle.aol_assign.proofs.WritingRanks.{written_rank, walked_ranks, writing_inside, writing_count, writing_at}

module _ (array : List ℕ) (b : Member) where
  pub writings_walked : map (written_rank array) (member_writings array b) ≡ addresses b.tiler.now array b.space.now b.pattern.now
  writings_walked = walked_ranks b.item b.tiler.now array b.space.now b.pattern.now

  pub writings_inside : FitsIn array b → (n : ℕ) (w : Writing) → slice_get (member_writings array b) n ≡ Some w → IsPointOf array w.1
  writings_inside fits = writing_inside b.item b.tiler.now array b.space.now b.pattern.now fits.fits fits.array_shape

  pub pairs_counted : length (member_writings array b) ≡ pair_count b
  pairs_counted = writing_count b.item b.tiler.now array b.space.now b.pattern.now

  pub few_writings : FitsIn array b → length (member_writings array b) < 2 ^ 64
  few_writings fits = small (size b.space.now) (size b.pattern.now) (length (member_writings array b)) fits.space_shape.points fits.pattern_shape.points pairs_counted
    where
      small : (s p n : ℕ) → s ≤ max_points → p ≤ max_points → n ≡ s * p → n < 2 ^ 64
      small s p n hs hp e = omega (arith, e, hs, mul-le-mul_left s hp)

  -- the pair with a number is that of the writing
  pub pair_written : FitsIn array b → (n : ℕ) → n < length (member_writings array b) → (v : Writer) → IsPair b n v → (w : Writing) → slice_get (member_writings array b) n ≡ Some w → v ≡ w.0
  pair_written fits n within v pair w at =
      let some : 1 ≤ size b.pattern.now = size_positive b.pattern.now fits.pattern_shape.entry in
      let below : n < pair_count b = omega (arith, within, pairs_counted) in
      let there = writing_at b.item b.tiler.now array b.space.now b.pattern.now n some below in
      let e = sym at ∙ there in
      pair ∙ sym (cc_first w _ e)
    where
      cc_first : (w v : Writing) → Some w ≡ Some v → w.0 ≡ v.0
      cc_first w v e = let f : w ≡ v = cc in ap (λ (u : Writing). u.0) f

-- ---- several members

pub at_index : {X : Type 0} (P : X → Type 0) (xs : List X) (i : ℕ) (x : X) → AllByRecursion P xs → i < length xs → x ≡ get_or xs i x → P x
at_index P [] i x all lt is = absurd (omega (arith, lt))
at_index P (y ∷ xs) zero x all lt is = subst P (sym is) all.0
at_index P (y ∷ xs) (suc i) x all lt is = at_index P xs i x all.1 (omega (arith, lt)) is

-- a place of a list of members
pub record IsAt (bs : List Member) (i : ℕ) (b : Member) : Type 0 where
  pub left : drop i bs ≡ b ∷ drop (i + 1) bs
  pub done : take (i + 1) bs ≡ take i bs ++ b ∷ []

pub at_place : (bs : List Member) (i : ℕ) (b : Member) → i < length bs → b ≡ get_or bs i b → IsAt bs i b
at_place bs i b lt is = record {
  left = drop-cons bs i b lt ∙ (ap (λ x. x ∷ drop (suc i) bs) (sym is) ∙ ap (λ n. b ∷ drop n bs) (sym (add-one i)));
  done = rw add-one (take-suc bs i b lt ∙ ap (λ x. take i bs ++ x ∷ []) (sym is));
}

module _ (array : List ℕ) (bs : List Member) (i : ℕ) (b : Member) (at : IsAt bs i b) where
  split_here : all_writings array (drop i bs) ≡ member_writings array b ++ all_writings array (drop (i + 1) bs)
  split_here = ap (all_writings array) at.left

  pub done_more : all_writings array (take (i + 1) bs) ≡ all_writings array (take i bs) ++ member_writings array b
  done_more =
      ap (all_writings array) at.done
      ∙ (flat_map-append (member_writings array) (take i bs) (b ∷ [])
      ∙ ap (λ ys. all_writings array (take i bs) ++ ys) (append-nil (member_writings array b)))

  module _ (x : List ℕ) (so_far : earlier_writing (all_writings array bs) x ≡ earlier_writing (all_writings array (drop i bs)) x) where
    -- no pair of this one has the point
    pub goes_past : IsEarliest (member_writings array b) x None → earlier_writing (all_writings array bs) x ≡ earlier_writing (all_writings array (drop (i + 1) bs)) x
    goes_past none =
        so_far
        ∙ (ap (λ ws. earlier_writing ws x) split_here
        ∙ earlier_after (member_writings array b) (all_writings array (drop (i + 1) bs)) x none)

    -- one has it
    pub stops_here : FitsIn array b → (n : ℕ) → IsEarliest (member_writings array b) x (Some n) → (v : Writer) → IsPair b n v → Some v ≡ option_map (λ (w : Writing). w.0) (earlier_writing (all_writings array bs) x)
    stops_here fits n found v pair = go (slice_get (member_writings array b) n) refl
      where
        go : (o : Option Writing) → slice_get (member_writings array b) n ≡ o → Some v ≡ option_map (λ (w : Writing). w.0) (earlier_writing (all_writings array bs) x)
        go None e = absurd (past_end (member_writings array b) n found.0 e)
          where
            past_end : (ws : List Writing) (n : ℕ) → n < length ws → slice_get ws n ≡ None → ⊥
            past_end [] n lt h = omega (arith, lt)
            past_end (w ∷ ws) zero lt h = cc
            past_end (w ∷ ws) (suc n) lt h = past_end ws n (omega (arith, lt)) h
        go (Some w) e =
            let all : earlier_writing (all_writings array bs) x ≡ Some w =
            so_far ∙ (ap (λ ws. earlier_writing ws x) split_here ∙ earlier_front (member_writings array b) (all_writings array (drop (i + 1) bs)) x w (found.1 ∙ e)) in
            ap Some (pair_written array b fits n found.0 v pair w e) ∙ ap (option_map (λ (w : Writing). w.0)) (sym all)

  take_drop : {X : Type 0} (n : ℕ) (xs : List X) → xs ≡ take n xs ++ drop n xs
  take_drop zero xs = refl
  take_drop (suc n) [] = refl
  take_drop (suc n) (x ∷ xs) = ap (λ ys. x ∷ ys) (take_drop n xs)

  -- all writings: those before, this one's, and the rest
  all_split : all_writings array bs ≡ all_writings array (take i bs) ++ (member_writings array b ++ all_writings array (drop (i + 1) bs))
  all_split =
      ap (all_writings array) (take_drop i bs)
      ∙ (flat_map-append (member_writings array) (take i bs) (drop i bs)
      ∙ ap (λ ys. all_writings array (take i bs) ++ ys) split_here)

  module _ (old new : List Bool) (marked : AreMarks array (all_writings array (take i bs)) old)
      (none : first_repeat [] (all_writings array bs) ≡ first_repeat (all_writings array (take i bs)) (all_writings array (drop i bs))) where
    -- all points of this one are new
    pub marks_all : MarksOn array (member_writings array b) old new None
        → AreMarks array (all_writings array (take (i + 1) bs)) new
        × (first_repeat [] (all_writings array bs) ≡ first_repeat (all_writings array (take (i + 1) bs)) (all_writings array (drop (i + 1) bs)))
    marks_all h =
        let fresh = h (all_writings array (take i bs)) marked in
        let P : List Writing → Type 0 = λ s. AreMarks array s new in (
          subst P (sym done_more) fresh.marked,
          none
              ∙ (ap (first_repeat (all_writings array (take i bs))) split_here
              ∙ (fresh.none (all_writings array (drop (i + 1) bs))
              ∙ ap (λ s. first_repeat s (all_writings array (drop (i + 1) bs))) (sym done_more))),
        )

    module _ (hit : Hit) (h : MarksOn array (member_writings array b) old new (Some hit)) where
      it : IsHit array (all_writings array (take i bs)) (member_writings array b) hit
      it = h (all_writings array (take i bs)) marked

      pub hit_address : hit.address < size array
      hit_address = let f : rank array it.writing.1 < size array = rank-lt-size array it.writing.1 it.inside in let e : hit.address ≡ rank array it.writing.1 = it.address in omega (arith, f, e)

      pub hit_number : hit.number < length (member_writings array b)
      hit_number = slice_get_within (member_writings array b) hit.number it.writing it.at

      -- what is told of the pair is the first that repeats a point
      pub hit_told : (r : Option Repeat) → ((w : Writing) → slice_get (member_writings array b) hit.number ≡ Some w → r ≡ told_as (earlier_writing (all_writings array bs) (point_at array hit.address)) w.0 (point_at array hit.address))
          → r ≡ repeat_of (all_writings array bs)
      hit_told r told =
          let w = it.writing in
          let ws = member_writings array b in
          let seen = all_writings array (take i bs) in
          let point : point_at array hit.address ≡ w.1 = ap (point_at array) it.address ∙ point_at-rank array w.1 it.inside in
          let more = drop hit.number ws ++ all_writings array (drop (i + 1) bs) in
          let front : all_writings array bs ≡ (seen ++ take hit.number ws) ++ more =
          all_split ∙ (ap (λ ys. seen ++ (ys ++ all_writings array (drop (i + 1) bs))) (take_drop hit.number ws)
          ∙ (ap (λ ys. seen ++ ys) (append_assoc (take hit.number ws) (drop hit.number ws) (all_writings array (drop (i + 1) bs)))
          ∙ sym (append_assoc seen (take hit.number ws) more))) in
          let earlier : earlier_writing (all_writings array bs) w.1 ≡ Some it.before =
          ap (λ ys. earlier_writing ys w.1) front ∙ earlier_front (seen ++ take hit.number ws) more w.1 it.before it.earlier in
          let repeats : first_repeat [] (all_writings array bs) ≡ Some (it.before, w) =
          none ∙ (ap (first_repeat seen) split_here ∙ it.first (all_writings array (drop (i + 1) bs))) in
          let f : Option (Writing × Writing) → Option Repeat = option_map (λ (p : Writing × Writing). record { first = p.0.0; second = p.1.0; point = p.1.1 }) in
          told w it.at
          ∙ (ap (λ x. told_as (earlier_writing (all_writings array bs) x) w.0 x) point
          ∙ (ap (λ o. told_as o w.0 w.1) earlier
          ∙ sym (ap f repeats)))

-- a pair is told with the earlier one
pub told_some : (o : Option Writing) (first second other : Writer) (point at : List ℕ) → Some first ≡ option_map (λ (w : Writing). w.0) o → second ≡ other → point ≡ at
    → Some (record { first = first; second = second; point = point }) ≡ told_as o other at
told_some None first second other point at h e f = cc
told_some (Some w) first second other point at h e f = let g : first ≡ w.0 = cc in cc
