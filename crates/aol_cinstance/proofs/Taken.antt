-- What cells take for the values of an instance.
use Rattle.std.specs.Prelude.{◌≡◌, ℕ, zero, suc, ◌+◌, ◌*◌, ◌<◌, ◌≤◌, ◌⊎◌, ℤ, pos, Bool, true, false, ◌&&◌, List, [], ◌∷◌, ◌++◌, map, flat_map, take, drop, length, slice_get, sum, Option, Some, None, Result, Ok, Err, if◌then◌else◌}
use Rattle.std.specs.List.{enumerate_from, list_all}
use Rattle.std.proofs.Common.{refl, sym, ap, subst, arith, ◌∙◌, inl, inr}
use Rattle.std.proofs.lemmas.List.{length-append}
use Rattle.std.proofs.lemmas.List.Sums.{sum_by-cons}
use Rattle.std.proofs.Math.Dec.{eqb-suc-zero}
use Rattle.aol_shape.specs.Lists.{numbers_from, numbers_below}
use Rattle.aol_shape.specs.Shape.{size, point_at, points, rank}
use Rattle.aol_shape.proofs.Points.{rank-point_at}
use Rattle.aol_expr_tree.specs.declared.port.Port.{Port}
use Rattle.aol_expr_tree.specs.declared.value.Kind.{Kind}
use Rattle.aol_expr_tree.specs.declared.value.Kind.TheVariants.{Overflow, Divide, Index, Range}
use Rattle.aol_expr_tree.specs.declared.value.Site.{Site}
use Rattle.aol_expr_tree.specs.declared.value.Val.{Val}
use Rattle.aol_expr_tree.specs.declared.value.Val.TheVariants.{Num, Bad}
use Rattle.aol_expr_tree.specs.declared.value.Width.{Width}
use Rattle.aol_expr_tree.specs.Meaning.{◌>>=◌, Given, holds, value}
use Rattle.aol_model_types.specs.declared.task.Elementary.{Elementary}
use Rattle.aol_model_types.specs.declared.task.OutPort.{OutPort}
use Rattle.aol_csyn.specs.Meaning.{is_zero}
use Rattle.aol_flat.specs.InstanceValue.{first_fault, number_of, all_hold, width_at, fault_at, in_width, computed, fault_or, instance_value}
use Rattle.aol_lower.specs.Effect.{kind_number}
use Rattle.aol_lower.specs.Ports.{all_hold as held_in, fitted, first_mark}
use Rattle.aol_cinstance.specs.Effect.{out_points}
use Rattle.aol_cinstance.specs.Values.{points_before, mark, mark_of}
use Rattle.aol_cinstance.proofs.Lists.{map_get, map_length, get_before, get_behind}
use Rattle.aol_cinstance.proofs.Settle.{IsTaken}

-- ---- lists

pub numbers_get : (from count i : ℕ) → i < count → slice_get (numbers_from from count) i ≡ Some (from + i)
numbers_get from zero i h = absurd (omega (arith, h))
numbers_get from (suc count) zero h = let e : from ≡ from + 0 = omega arith in ap (λ n. Some n) e
numbers_get from (suc count) (suc i) h = let e : from + 1 + i ≡ from + suc i = omega arith in numbers_get (from + 1) count i (omega (arith, h)) ∙ ap (λ n. Some n) e

numbers_length : (from count : ℕ) → length (numbers_from from count) ≡ count
numbers_length from zero = refl
numbers_length from (suc count) = ap (λ n. suc n) (numbers_length (from + 1) count)

pub points_length : (shape : List ℕ) → length (points shape) ≡ size shape
points_length shape = map_length (point_at shape) (numbers_below (size shape)) ∙ numbers_length 0 (size shape)

pub points_get : (shape : List ℕ) (i : ℕ) → i < size shape → slice_get (points shape) i ≡ Some (point_at shape i)
points_get shape i h = let e : 0 + i ≡ i = omega arith in map_get (point_at shape) (numbers_below (size shape)) i i (numbers_get 0 (size shape) i h ∙ ap (λ n. Some n) e)

-- an entry of two lists is one of either
either_get : {A : Type 0} (xs ys : List A) (k : ℕ) (x : A) → slice_get (xs ++ ys) k ≡ Some x → (slice_get xs k ≡ Some x) ⊎ ((j : ℕ) × (slice_get ys j ≡ Some x))
either_get [] ys k x h = inr (k, h)
either_get (y ∷ xs) ys zero x h = inl h
either_get (y ∷ xs) ys (suc k) x h = either_get xs ys k x h

map_back : {A B : Type 0} (f : A → B) (xs : List A) (k : ℕ) (y : B) → slice_get (map f xs) k ≡ Some y → (x : A) × (f x ≡ y)
map_back f [] zero y h = absurd (cc)
map_back f [] (suc k) y h = absurd (cc)
map_back f (x ∷ xs) zero y h = (x, cc)
map_back f (x ∷ xs) (suc k) y h = map_back f xs k y h

-- ---- the first fault as a mark

pub some_number : (n : ℕ) → 1 ≤ n → is_zero (pos n) ≡ false
some_number zero h = absurd (omega (arith, h))
some_number (suc n) h = eqb-suc-zero n

kind_least : (kind : Kind) → 1 ≤ kind_number kind
kind_least Overflow = omega arith
kind_least Divide = omega arith
kind_least Index = omega arith
kind_least Range = omega arith

pub mark_some : (sizes : List (List ℕ)) (s : Site) → is_zero (mark sizes s) ≡ false
mark_some sizes s = let some = kind_least s.kind in some_number (kind_number s.kind + 4 * (points_before sizes s.task s.port + s.point)) (omega (arith, some))

-- the mark of a fault, or 0
abbrev pub fault_mark : List (List ℕ) → Option Site → ℤ
fault_mark sizes None = pos 0
fault_mark sizes (Some s) = mark sizes s

pub first_is : (sizes : List (List ℕ)) (xs : List Val) → first_mark (map (mark_of sizes) xs) ≡ fault_mark sizes (first_fault xs)
first_is sizes [] = refl
first_is sizes (Num z ∷ xs) = first_is sizes xs
first_is sizes (Bad s ∷ xs) = rw (mark_some sizes s) refl

-- ---- widths

pub same_held : (ps : List Port) (ws : List Width) (nums : List ℤ) → held_in ps ws nums ≡ all_hold ps ws nums
same_held [] ws nums = refl
same_held (p ∷ ps) [] nums = refl
same_held (p ∷ ps) (w ∷ ws) nums = ap (λ b. list_all (holds w) (take (size p.shape) nums) && b) (same_held ps ws (drop (size p.shape) nums))

-- ---- one element

module _ (sizes : List (List ℕ)) (task k i before first : ℕ) (o : OutPort) (below : i < size o.port.shape) (place : points_before sizes task k ≡ before) (first_is : first ≡ 4 * before) where
  fault_taken : (kind : Kind) → IsTaken sizes first i (fault_at task k o (point_at o.port.shape i) kind) (Err kind)
  fault_taken kind =
      let r = rank-point_at o.port.shape i below in
      let e : 4 * (points_before sizes task k + rank o.port.shape (point_at o.port.shape i)) ≡ first + 4 * i = omega (arith, r, place, first_is) in
      (refl, ap (λ n. pos (kind_number kind + n)) e)

  width_taken : (w : Width) (r : Result ℤ Kind) → IsTaken sizes first i (in_width w (fault_at task k o (point_at o.port.shape i)) r) (r >>= fitted w)
  width_taken w (Ok z) =
      elim (holds w z) as (λ b. IsTaken sizes first i (if b then Num z else fault_at task k o (point_at o.port.shape i) Range) (if b then Ok z else Err Range)) [ true ↦ refl | false ↦ fault_taken Range ]
  width_taken w (Err kind) = fault_taken kind

  pub element_taken : (e : Elementary) (xs : List Val) (ok : Bool) → first_fault xs ≡ None → ok ≡ all_hold e.ins e.wide_in (map number_of xs)
      → IsTaken sizes first i (instance_value task e xs k o (point_at o.port.shape i))
      (if ok then value (record { ins = e.ins; nums = map number_of xs; at = point_at o.port.shape i }) [] o.expr >>= fitted (width_at e.wide_out k) else Err Range)
  element_taken e xs ok none ok_is =
      let g : Given = record { ins = e.ins; nums = map number_of xs; at = point_at o.port.shape i } in
      let w = width_at e.wide_out k in
      let r = value g [] o.expr in
      let by : (b : Bool) → IsTaken sizes first i (if b then in_width w (fault_at task k o (point_at o.port.shape i)) r else fault_at task k o (point_at o.port.shape i) Range) (if b then r >>= fitted w else Err Range)
      = λ b. elim b as (λ c. IsTaken sizes first i (if c then in_width w (fault_at task k o (point_at o.port.shape i)) r else fault_at task k o (point_at o.port.shape i) Range) (if c then r >>= fitted w else Err Range))
      [ true ↦ width_taken w r | false ↦ fault_taken Range ] in
      let made : instance_value task e xs k o (point_at o.port.shape i) ≡ computed task e (map number_of xs) k o (point_at o.port.shape i) = ap (λ f. fault_or f (computed task e (map number_of xs) k o (point_at o.port.shape i))) none in
      subst (λ x. IsTaken sizes first i x (if ok then r >>= fitted w else Err Range)) (sym made)
      (subst (λ b. IsTaken sizes first i (computed task e (map number_of xs) k o (point_at o.port.shape i)) (if b then r >>= fitted w else Err Range)) (sym ok_is) (by (all_hold e.ins e.wide_in (map number_of xs))))

-- ---- all elements

module _ (task : ℕ) (e : Elementary) (xs : List Val) where
  -- those of a port with its number
  abbrev pub port_vals : ℕ × OutPort → List Val
  port_vals o = map (instance_value task e xs o.0 o.1) (points o.1.port.shape)

  pub vals_length : (k : ℕ) (o : OutPort) → length (port_vals (k, o)) ≡ size o.port.shape
  vals_length k o = map_length (instance_value task e xs k o) (points o.port.shape) ∙ points_length o.port.shape

  pub all_length : (outs : List OutPort) (k : ℕ) → length (flat_map port_vals (enumerate_from k outs)) ≡ out_points outs
  all_length [] k = refl
  all_length (o ∷ outs) k =
      let rest = flat_map port_vals (enumerate_from (k + 1) outs) in
      let a = length-append (port_vals (k, o)) rest in
      let b = vals_length k o in
      let c = all_length outs (k + 1) in
      let d = sum_by-cons (λ (p : OutPort). size p.port.shape) o outs in
      omega (arith, a, b, c, d)

  pub vals_get : (done : List Val) (k i : ℕ) (o : OutPort) (rest : List Val) → i < size o.port.shape → slice_get (done ++ (port_vals (k, o) ++ rest)) (length done + i) ≡ Some (instance_value task e xs k o (point_at o.port.shape i))
  vals_get done k i o rest below =
      get_behind done (port_vals (k, o) ++ rest) i
      ∙ get_before (port_vals (k, o)) rest i (instance_value task e xs k o (point_at o.port.shape i)) (map_get (instance_value task e xs k o) (points o.port.shape) i (point_at o.port.shape i) (points_get o.port.shape i below))

  -- where an input is a fault, each is that
  pub all_bad : (site : Site) → first_fault xs ≡ Some site → (os : List (ℕ × OutPort)) (k : ℕ) (x : Val) → slice_get (flat_map port_vals os) k ≡ Some x → x ≡ Bad site
  all_bad site is [] zero x h = absurd (cc)
  all_bad site is [] (suc k) x h = absurd (cc)
  all_bad site is (o ∷ os) k x h =
      elim (either_get (port_vals o) (flat_map port_vals os) k x h) [
        | inl here ↦
            let p = map_back (instance_value task e xs o.0 o.1) (points o.1.port.shape) k x here in
            sym p.1 ∙ ap (λ f. fault_or f (computed task e (map number_of xs) o.0 o.1 p.0)) is
        | inr later ↦ all_bad site is os later.0 x later.1
      ]

-- ---- where the marks of a port begin

pub before_at : (sizes : List (List ℕ)) (task port : ℕ) (own : List ℕ) → slice_get sizes task ≡ Some own → points_before sizes task port ≡ points_before sizes task 0 + sum (take port own)
before_at [] zero port own h = absurd (cc)
before_at [] (suc task) port own h = absurd (cc)
before_at (ports ∷ tasks) zero port own h = let e : ports ≡ own = cc in let z : 0 + sum (take port own) ≡ sum (take port own) = omega arith in ap (λ ps. sum (take port ps)) e ∙ sym z
before_at (ports ∷ tasks) (suc task) port own h = let more = before_at tasks task port own h in omega (arith, more)
