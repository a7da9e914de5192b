-- Values put into a share one after another.
use Rattle.std.proofs.Common.{◌≡◌, ℕ, ℤ, Bool, true, false, zero, suc, ◌+◌, ◌<◌, ◌≤◌, ◌/◌, List, [], ◌∷◌, ◌++◌, map, flat_map, length, get_or, take, set, replicate, Option, Some, refl, sym, ◌∙◌, ap, arith}
use Rattle.std.specs.Bool.{OnTrue}
use Rattle.std.proofs.Math.Nat.{zero-div, zero-mod}
use Rattle.std.specs.List.{enumerate_from}
use Rattle.std.proofs.lemmas.List.Sums.{sum_by-cons}
use Rattle.std.proofs.lemmas.List.{map-append, length-map, length-replicate, replicate-append-replicate, take_more, take_more_set}
use Rattle.std.proofs.lemmas.Simd.{map-map}
use Rattle.aol_shape.specs.Lists.{numbers_below}
use Rattle.aol_shape.specs.Shape.{size, points, point_at}
use Rattle.aol_flat.proofs.Totals.{length-numbers}
use Rattle.aol_expr_tree.specs.declared.value.Val.{Val}
use Rattle.aol_level.specs.declared.kept.Kept.{Kept}
use Rattle.aol_level.specs.Puts.{kept_by, put_from, port_values, values_from, elements, fault_then, value_held, ArePlans, IsPlan}
use Rattle.aol_eval.specs.declared.resolution.Resolved.{Resolved}
use Rattle.aol_expr_tree.specs.declared.port.Port.{Port}
use Rattle.aol_model_types.specs.declared.task.Elementary.{Elementary}
use Rattle.aol_model_types.specs.declared.task.OutPort.{OutPort}
use Rattle.aol_flat.specs.InstanceValue.{computed, fault_or, first_fault, number_of, instance_outputs}
use Rattle.aol_flat.specs.declared.view.Read.{Read}
use Rattle.aol_expr_tree.specs.declared.value.Site.{Site}
use Rattle.aol_expr_tree.specs.declared.value.Val.TheVariants.{Num, Bad}
use Rattle.aol_allocate.proofs.Points.{length_points}
use Rattle.aol_level.proofs.Numbers.{numbers_next}

-- more after some
pub put_from-append : (old : List Kept) (place : ℕ) (xs ys : List Kept) → put_from old place (xs ++ ys) ≡ put_from (put_from old place xs) (place + length xs) ys
put_from-append old place [] ys = let e : place ≡ place + 0 = omega arith in ap (λ p. put_from old p ys) e
put_from-append old place (x ∷ xs) ys =
    let e : (place + 1) + length xs ≡ place + suc (length xs) = omega arith in
    put_from-append (set old place x) (place + 1) xs ys ∙ ap (λ p. put_from (put_from (set old place x) (place + 1) xs) p ys) e

-- the first point of a shape with few entries
pub first_point : (shape : List ℕ) (n : ℕ) → length shape ≤ n → take (length shape) (replicate n 0) ≡ point_at shape 0
first_point [] n h = refl
first_point (e ∷ shape) zero h = absurd (omega (arith, h))
first_point (e ∷ shape) (suc n) h =
    let others : take (length shape) (replicate n 0) ≡ point_at shape 0 = first_point shape n (omega (arith, h)) in
    ap (λ ns. 0 ∷ ns) others ∙ ap (λ j. j ∷ point_at shape 0) (sym (zero-div (size shape))) ∙ ap (λ j. 0 / size shape ∷ point_at shape j) (sym (zero-mod (size shape)))

module _ (f : List ℕ → Val) (shape : List ℕ) (worker : ℕ) where
  -- the values at the points with a rank below x
  abbrev pub kept_below : ℕ → List Kept
  kept_below x = map (λ j. kept_by worker (f (point_at shape j))) (numbers_below x)

  kept_next : (x : ℕ) → kept_below (x + 1) ≡ kept_below x ++ kept_by worker (f (point_at shape x)) ∷ []
  kept_next x = ap (map (λ j. kept_by worker (f (point_at shape j)))) (numbers_next x) ∙ map-append (λ j. kept_by worker (f (point_at shape j))) (numbers_below x) (x ∷ [])

  pub kept_all : kept_below (size shape) ≡ map (kept_by worker) (map f (points shape))
  kept_all = sym (map-map (kept_by worker) f (points shape) ∙ map-map (λ x. kept_by worker (f x)) (point_at shape) (numbers_below (size shape)))

  many_below : (x : ℕ) → length (kept_below x) ≡ x
  many_below x = length-map (numbers_below x) (λ j. kept_by worker (f (point_at shape j))) ∙ length-numbers 0 x

  -- one more is put
  pub put_more : (old now next : List Kept) (place x : ℕ) (v : Val) → now ≡ put_from old place (kept_below x) → v ≡ f (point_at shape x) → next ≡ set now (place + x) (kept_by worker v)
      → next ≡ put_from old place (kept_below (x + 1))
  put_more old now next place x v is at put =
      put ∙ ap (λ w. set now (place + x) (kept_by worker w)) at ∙ ap (λ xs. set xs (place + x) (kept_by worker (f (point_at shape x)))) is
      ∙ ap (λ n. set (put_from old place (kept_below x)) (place + n) (kept_by worker (f (point_at shape x)))) (sym (many_below x))
      ∙ sym (ap (put_from old place) (kept_next x) ∙ put_from-append old place (kept_below x) (kept_by worker (f (point_at shape x)) ∷ []))

-- the values of one port, and then those of the others
pub outputs_more : (old now next : List Kept) (worker place number k : ℕ) (task : Elementary) (nums : List ℤ) (all : List OutPort) (out : OutPort) (outs : List OutPort) → all ≡ out ∷ outs
    → now ≡ put_from old place (map (kept_by worker) (port_values number task nums (k, out)))
    → next ≡ put_from now (place + size out.port.shape) (map (kept_by worker) (values_from number task nums (k + 1) outs))
    → next ≡ put_from old place (map (kept_by worker) (values_from number task nums k all))
outputs_more old now next worker place number k task nums all out outs is first rest =
    let f : List ℕ → Val = computed number task nums k out in
    let many : length (map (kept_by worker) (port_values number task nums (k, out))) ≡ size out.port.shape = ap length (sym (kept_all f out.port.shape worker)) ∙ many_below f out.port.shape worker (size out.port.shape) in
    rest ∙ ap (λ xs. put_from xs (place + size out.port.shape) (map (kept_by worker) (values_from number task nums (k + 1) outs))) first
    ∙ ap (λ n. put_from (put_from old place (map (kept_by worker) (port_values number task nums (k, out)))) (place + n) (map (kept_by worker) (values_from number task nums (k + 1) outs))) (sym many)
    ∙ sym (ap (λ os. put_from old place (map (kept_by worker) (values_from number task nums k os))) is
    ∙ ap (put_from old place) (map-append (kept_by worker) (port_values number task nums (k, out)) (values_from number task nums (k + 1) outs))
    ∙ put_from-append old place (map (kept_by worker) (port_values number task nums (k, out))) (map (kept_by worker) (values_from number task nums (k + 1) outs)))

-- an equation that holds where a call answers true
pub at_next : (b : Bool) (x y : List ℕ) → b ≡ true → OnTrue b (x ≡ y) → x ≡ y
at_next true x y h e = e
at_next false x y h e = cc

-- one more of the same is put
pub put_same : (old now next : List Kept) (place x : ℕ) (k : Kept) → now ≡ put_from old place (replicate x k) → next ≡ set now (place + x) k → next ≡ put_from old place (replicate (x + 1) k)
put_same old now next place x k is put =
    put ∙ ap (λ xs. set xs (place + x) k) is ∙ ap (λ n. set (put_from old place (replicate x k)) (place + n) k) (sym (length-replicate x k))
    ∙ sym (ap (put_from old place) (sym (replicate-append-replicate x 1 k)) ∙ put_from-append old place (replicate x k) (k ∷ []))

same_everywhere : {A B : Type 0} (b : B) (xs : List A) → map (λ x. b) xs ≡ replicate (length xs) b
same_everywhere b [] = refl
same_everywhere {B = B} b (x ∷ xs) = ap (λ (ys : List B). b ∷ ys) (same_everywhere b xs)

-- a fault at every element
fault_everywhere : (worker k : ℕ) (v : Val) (outs : List OutPort) → map (kept_by worker) (flat_map (λ (o : ℕ × OutPort). map (λ (x : List ℕ). v) (points o.1.port.shape)) (enumerate_from k outs)) ≡ replicate (elements outs) (kept_by worker v)
fault_everywhere worker k v [] = refl
fault_everywhere worker k v (out ∷ outs) =
    map-append (kept_by worker) (map (λ (x : List ℕ). v) (points out.port.shape)) (flat_map (λ (o : ℕ × OutPort). map (λ (x : List ℕ). v) (points o.1.port.shape)) (enumerate_from (k + 1) outs))
    ∙ ap (λ ks. map (kept_by worker) (map (λ (x : List ℕ). v) (points out.port.shape)) ++ ks) (fault_everywhere worker (k + 1) v outs)
    ∙ ap (λ ks. ks ++ replicate (elements outs) (kept_by worker v)) (map-map (kept_by worker) (λ (x : List ℕ). v) (points out.port.shape) ∙ same_everywhere (kept_by worker v) (points out.port.shape) ∙ ap (λ n. replicate n (kept_by worker v)) (length_points out.port.shape))
    ∙ replicate-append-replicate (size out.port.shape) (elements outs) (kept_by worker v)
    ∙ ap (λ n. replicate n (kept_by worker v)) (sym (sum_by-cons (λ (o : OutPort). size o.port.shape) out outs))

-- so an instance gives it, where it is the first fault that it takes
pub fault_put : (old next : List Kept) (worker place number count : ℕ) (task : Elementary) (fault : Option Site) (s : Site) (taken : List Val) → fault ≡ Some s → fault ≡ first_fault taken → count ≡ elements task.outs
    → next ≡ put_from old place (replicate count (kept_by worker (Bad s))) → next ≡ put_from old place (map (kept_by worker) (instance_outputs number task taken))
fault_put old next worker place number count task fault s taken is first many put =
    put ∙ ap (λ n. put_from old place (replicate n (kept_by worker (Bad s)))) many
    ∙ ap (put_from old place) (sym (fault_everywhere worker 0 (Bad s) task.outs))
    ∙ ap (λ o. put_from old place (map (kept_by worker) (flat_map (λ (p : ℕ × OutPort). map (λ (x : List ℕ). fault_or o (computed number task (map number_of taken) p.0 p.1 x)) (points p.1.port.shape)) (enumerate_from 0 task.outs)))) (sym is ∙ first)

-- ---- what is taken

first_fault-last : (vs : List Val) (v : Val) → first_fault (vs ++ v ∷ []) ≡ fault_then (first_fault vs) v
first_fault-last [] v = refl
first_fault-last (Num z ∷ vs) v = first_fault-last vs v
first_fault-last (Bad s ∷ vs) v = refl

taken_next : (cells : List (Option Kept)) (reads : List Read) (place : ℕ) (d : Read) → place < length reads
    → map (value_held cells) (take (place + 1) reads) ≡ map (value_held cells) (take place reads) ++ value_held cells (get_or reads place d) ∷ []
taken_next cells reads place d within = ap (map (value_held cells)) (take_more reads place d within) ∙ map-append (value_held cells) (take place reads) (get_or reads place d ∷ [])

pub fault_next : (cells : List (Option Kept)) (reads : List Read) (place : ℕ) (d : Read) (before after : Option Site) (v : Val) → place < length reads → v ≡ value_held cells (get_or reads place d)
    → before ≡ first_fault (map (value_held cells) (take place reads)) → after ≡ fault_then before v → after ≡ first_fault (map (value_held cells) (take (place + 1) reads))
fault_next cells reads place d before after v within is was then =
    then ∙ ap (λ o. fault_then o v) was ∙ ap (fault_then (first_fault (map (value_held cells) (take place reads)))) is
    ∙ sym (ap first_fault (taken_next cells reads place d within) ∙ first_fault-last (map (value_held cells) (take place reads)) (value_held cells (get_or reads place d)))

pub nums_next : (cells : List (Option Kept)) (reads : List Read) (place : ℕ) (d : Read) (before after : List ℤ) (v : Val) → place < length reads → place < length before → v ≡ value_held cells (get_or reads place d)
    → take place before ≡ map number_of (map (value_held cells) (take place reads)) → after ≡ set before place (number_of v)
    → take (place + 1) after ≡ map number_of (map (value_held cells) (take (place + 1) reads))
nums_next cells reads place d before after v within room is was put =
    ap (take (place + 1)) put ∙ take_more_set before place (number_of v) room ∙ ap (λ ns. ns ++ number_of v ∷ []) was
    ∙ ap (λ m. map number_of (map (value_held cells) (take place reads)) ++ m ∷ []) (ap number_of is)
    ∙ sym (ap (map number_of) (taken_next cells reads place d within) ∙ map-append number_of (map (value_held cells) (take place reads)) (value_held cells (get_or reads place d) ∷ []))

-- one more plan
pub plans_next : (ins : List Port) (outs : List OutPort) (plans : List Resolved) (out : OutPort) (plan : Resolved) → ArePlans ins outs plans → IsPlan ins out plan → ArePlans ins (outs ++ out ∷ []) (plans ++ plan ∷ [])
plans_next ins [] [] out plan are is = (is, tt)
plans_next ins [] (p ∷ plans) out plan are is = absurd are
plans_next ins (o ∷ outs) [] out plan are is = absurd are
plans_next ins (o ∷ outs) (p ∷ plans) out plan are is = (are.0, plans_next ins outs plans out plan are.1 is)
