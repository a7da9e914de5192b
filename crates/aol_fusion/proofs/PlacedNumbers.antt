-- The old numbers of the instances of a leaf below a block, one by one.
use Rattle.std.proofs.Common.{◌≡◌, ℕ, ◌+◌, ◌*◌, ◌<◌, List, ◌++◌, length, slice_get, Some, ◌∙◌, ap, arith}
use Rattle.aol_shape.specs.Lists.{numbers_from}
use Rattle.aol_shape.specs.Shape.{size, rank, point_at, IsPointOf}
use Rattle.aol_shape.proofs.Points.{rank-lt-size, point_at-rank, point_at-is, rank-point_at}
use Rattle.aol_shape.proofs.Sizes.{size_both}
use Rattle.aol_flat.proofs.Arrays.{rank_both}
use Rattle.aol_flat.proofs.Inside.{point_both}
use Rattle.aol_tiler.specs.Tiler.{address_point}
use Rattle.aol_change.proofs.EqualParts.{numbers_get, numbers_many, parts_many, part_at, IsJoined, joined_at}
use Rattle.aol_fusion_parts.specs.Fuse.{Fusing}
use Rattle.aol_fusion.specs.Numbers.{placed_rank, numbers_in_block, numbers_in_blocks, numbers_in_compounds}

module _ (f : Fusing) (each : ℕ) where
  abbrev space : List ℕ
  space = f.one.space

  abbrev outer : List ℕ
  outer = f.two.space

  abbrev block : List ℕ
  block = f.args.block

  block_many : (first number : ℕ) → length (numbers_in_block f first each number) ≡ size block * each
  block_many first number =
      parts_many (λ position. numbers_from (first + placed_rank f number position * each) each) each
      (λ position. numbers_many (first + placed_rank f number position * each) each) 0 (size block)

  blocks_many : (first : ℕ) → length (numbers_in_blocks f first each) ≡ size outer * (size block * each)
  blocks_many first = parts_many (numbers_in_block f first each) (size block * each) (block_many first) 0 (size outer)

  pub compounds_many : (first many : ℕ) → length (numbers_in_compounds f many first each) ≡ many * (size outer * (size block * each))
  compounds_many first many =
      parts_many (λ k. numbers_in_blocks f (first + k * (size space * each)) each) (size outer * (size block * each))
      (λ k. blocks_many (first + k * (size space * each))) 0 many

  block_at : (first number position i : ℕ) → position < size block → i < each
      → slice_get (numbers_in_block f first each number) (position * each + i) ≡ Some ((first + placed_rank f number position * each) + i)
  block_at first number position i low last =
      let e : 0 + position ≡ position = omega arith in
      part_at (λ p. numbers_from (first + placed_rank f number p * each) each) each
      (λ p. numbers_many (first + placed_rank f number p * each) each) 0 (size block) position i low last
      ∙ (ap (λ p. slice_get (numbers_from (first + placed_rank f number p * each) each) i) e
      ∙ numbers_get (first + placed_rank f number position * each) each i last)

  blocks_at : (first number x : ℕ) → number < size outer → x < size block * each
      → slice_get (numbers_in_blocks f first each) (number * (size block * each) + x) ≡ slice_get (numbers_in_block f first each number) x
  blocks_at first number x low last =
      let e : 0 + number ≡ number = omega arith in
      part_at (numbers_in_block f first each) (size block * each) (block_many first) 0 (size outer) number x low last
      ∙ ap (λ n. slice_get (numbers_in_block f first each n) x) e

  compounds_at : (first many k x : ℕ) → k < many → x < size outer * (size block * each)
      → slice_get (numbers_in_compounds f many first each) (k * (size outer * (size block * each)) + x) ≡ slice_get (numbers_in_blocks f (first + k * (size space * each)) each) x
  compounds_at first many k x low last =
      let e : 0 + k ≡ k = omega arith in
      part_at (λ n. numbers_in_blocks f (first + n * (size space * each)) each) (size outer * (size block * each))
      (λ n. blocks_many (first + n * (size space * each))) 0 many k x low last
      ∙ ap (λ n. slice_get (numbers_in_blocks f (first + n * (size space * each)) each) x) e

-- ---- a leaf

-- the number in a leaf of the instance with the number x in the new one, and their points
pub record IsPlacedAt (f : Fusing) (front back : List ℕ) (numbers : List ℕ) (first x : ℕ) : Type 0 where
  pub number : ℕ
  pub low : number < size (front ++ (f.one.space ++ back))
  pub listed : slice_get numbers x ≡ Some (first + number)
  pub around : List ℕ
  pub over : List ℕ
  pub inside : List ℕ
  pub below : List ℕ
  pub around_is : IsPointOf front around
  pub over_is : IsPointOf f.two.space over
  pub inside_is : IsPointOf f.args.block inside
  pub below_is : IsPointOf back below
  pub new_point : point_at (front ++ (f.two.space ++ (f.args.block ++ back))) x ≡ around ++ (over ++ (inside ++ below))
  pub old_point : point_at (front ++ (f.one.space ++ back)) number ≡ around ++ (address_point f.args.tiler f.one.space over inside ++ below)

module _ (f : Fusing) (front back : List ℕ) (whole : (r p : List ℕ) → IsPointOf f.two.space r → IsPointOf f.args.block p → IsPointOf f.one.space (address_point f.args.tiler f.one.space r p)) where
  abbrev of_one : List ℕ
  of_one = f.one.space

  abbrev of_two : List ℕ
  of_two = f.two.space

  abbrev of_block : List ℕ
  of_block = f.args.block

  pub placed : (first x : ℕ) → x < size (front ++ (of_two ++ (of_block ++ back)))
      → IsPlacedAt f front back (numbers_in_compounds f (size front) first (size back)) first x
  placed first x low =
      let a : IsJoined front (of_two ++ (of_block ++ back)) x = joined_at front (of_two ++ (of_block ++ back)) x low in
      let b : IsJoined of_two (of_block ++ back) a.second = joined_at of_two (of_block ++ back) a.second a.second_low in
      let c : IsJoined of_block back b.second = joined_at of_block back b.second b.second_low in
      let each : ℕ = size back in
      let r : List ℕ = point_at of_two b.first in
      let p : List ℕ = point_at of_block c.first in
      let s : List ℕ = address_point f.args.tiler f.one.space r p in
      let around : List ℕ = point_at front a.first in
      let below : List ℕ = point_at back c.second in
      let rest : size (of_block ++ back) ≡ size of_block * each = size_both of_block back in
      let all : size (of_two ++ (of_block ++ back)) ≡ size of_two * (size of_block * each) = size_both of_two (of_block ++ back) ∙ ap (λ z. size of_two * z) rest in
      let around_is : IsPointOf front around = point_at-is front a.first a.first_low in
      let over_is : IsPointOf of_two r = point_at-is of_two b.first b.first_low in
      let inside_is : IsPointOf of_block p = point_at-is of_block c.first c.first_low in
      let below_is : IsPointOf back below = point_at-is back c.second c.second_low in
      let moved_is : IsPointOf of_one s = whole r p over_is inside_is in
      let point : List ℕ = around ++ (s ++ below) in
      let point_is : IsPointOf (front ++ (of_one ++ back)) point = point_both front (of_one ++ back) around (s ++ below) around_is (point_both of_one back s below moved_is below_is) in
      let number : ℕ = rank (front ++ (of_one ++ back)) point in
      let number_is : number ≡ a.first * (size of_one * each) + (rank of_one s * each + c.second) =
      rank_both front (of_one ++ back) around (s ++ below) around_is
      ∙ (ap (λ z. z * size (of_one ++ back) + rank (of_one ++ back) (s ++ below)) (rank-point_at front a.first a.first_low)
      ∙ (ap (λ z. a.first * z + rank (of_one ++ back) (s ++ below)) (size_both of_one back)
      ∙ ap (λ z. a.first * (size of_one * each) + z) (rank_both of_one back s below moved_is ∙ ap (λ z. rank of_one s * each + z) (rank-point_at back c.second c.second_low)))) in
      let x_is : x ≡ a.first * (size of_two * (size of_block * each)) + (b.first * (size of_block * each) + (c.first * each + c.second)) =
      a.is
      ∙ (ap (λ z. a.first * z + a.second) all
      ∙ ap (λ z. a.first * (size of_two * (size of_block * each)) + z) (b.is ∙ (ap (λ z. b.first * z + b.second) rest ∙ ap (λ z. b.first * (size of_block * each) + z) c.is))) in
      let second_low : b.first * (size of_block * each) + (c.first * each + c.second) < size of_two * (size of_block * each) =
      (let e : a.second ≡ b.first * (size of_block * each) + (c.first * each + c.second) = b.is ∙ (ap (λ z. b.first * z + b.second) rest ∙ ap (λ z. b.first * (size of_block * each) + z) c.is) in omega (arith, a.second_low, all, e)) in
      let third_low : c.first * each + c.second < size of_block * each = omega (arith, b.second_low, rest, c.is) in
      let step : ℕ = first + a.first * (size of_one * each) in
      record {
        number = number;
        low = rank-lt-size (front ++ (of_one ++ back)) point point_is;
        listed =
            ap (slice_get (numbers_in_compounds f (size front) first each)) x_is
            ∙ (compounds_at f each first (size front) a.first (b.first * (size of_block * each) + (c.first * each + c.second)) a.first_low second_low
            ∙ (blocks_at f each step b.first (c.first * each + c.second) b.first_low third_low
            ∙ (block_at f each step b.first c.first c.second c.first_low c.second_low
            ∙ ap (λ z. Some z) (omega (arith, number_is)))));
        around = around;
        over = r;
        inside = p;
        below = below;
        around_is = around_is;
        over_is = over_is;
        inside_is = inside_is;
        below_is = below_is;
        new_point = a.point ∙ ap (λ z. around ++ z) (b.point ∙ ap (λ z. r ++ z) c.point);
        old_point = point_at-rank (front ++ (of_one ++ back)) point point_is;
      }
