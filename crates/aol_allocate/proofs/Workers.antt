-- Each instance has one of the workers, whatever the entries say.
use Rattle.std.proofs.Common.{◌≡◌, ℕ, ◌+◌, ◌*◌, ◌<◌, ◌≤◌, List, [], ◌∷◌, length, flat_map, find, Option, Some, None, sym, ◌∙◌, ap, refl, arith, subst}
use Rattle.std.specs.List.{IsAmong, enumerate_from}
use Rattle.std.proofs.Math.Nat.{mod-lt, div-lt_iff_lt-mul, mul_comm, mul-lt-mul_of_pos_right}
use Rattle.std.proofs.lemmas.List.{length-append, length-map}
use Rattle.aol_shape.specs.Lists.{same}
use Rattle.aol_shape.specs.Shape.{size, rank, points, IsPointOf}
use Rattle.aol_shape.proofs.Points.{rank-lt-size}
use Rattle.aol_model_types.specs.declared.document.Model.{Model}
use Rattle.aol_model_types.specs.declared.job.Entry.{Entry}
use Rattle.aol_flat.specs.Instance.{Leaf, leaves, instance_on, leaf_instances}
use Rattle.aol_flat.proofs.Among.{among_map, among_flat_map, get_among, points_inside}
use Rattle.aol_allocate.specs.Placement.{Placing, placings, worker_at, even_worker, entry_of, point_worker, leaf_workers, workers_of, WorkersAreAPlacement}

-- ---- one worker for each instance

leaf_many : (m : Model) (entries : List Entry) (workers : ℕ) (l : ℕ × Leaf) → length (leaf_workers m entries workers l) ≡ length (leaf_instances l.1)
leaf_many m entries workers l =
    length-map (points l.1.space) (point_worker (entry_of m entries l.0) l.1.space workers) ∙ sym (length-map (points l.1.space) (instance_on l.1))

leaves_many : (m : Model) (entries : List Entry) (workers k : ℕ) (ls : List Leaf)
    → length (flat_map (leaf_workers m entries workers) (enumerate_from k ls)) ≡ length (flat_map leaf_instances ls)
leaves_many m entries workers k [] = refl
leaves_many m entries workers k (l ∷ ls) =
    let later : List ℕ = flat_map (leaf_workers m entries workers) (enumerate_from (k + 1) ls) in
    length-append (leaf_workers m entries workers (k, l)) later
    ∙ (ap (λ n. n + length later) (leaf_many m entries workers (k, l))
    ∙ (ap (λ n. length (leaf_instances l) + n) (leaves_many m entries workers (k + 1) ls)
    ∙ sym (length-append (leaf_instances l) (flat_map leaf_instances ls))))

-- ---- each is one of the workers

worker_below : (e : Entry) (workers : ℕ) (p : Option Placing) → 1 ≤ workers → worker_at e workers p < workers
worker_below e workers None some = omega (arith, some)
worker_below e workers (Some p) some = mod-lt (rank e.processors p.1) (omega (arith, some))

even_below : (workers count x : ℕ) → 1 ≤ workers → x < count → even_worker workers count x < workers
even_below workers count x some h =
    let more : x * workers < count * workers = mul-lt-mul_of_pos_right h (omega (arith, some)) in
    let P : ℕ → Type 0 = λ z. x * workers < z in
    (div-lt_iff_lt-mul (omega (arith, h))).1 (subst P (mul_comm count workers) more)

point_below : (o : Option Entry) (space : List ℕ) (workers : ℕ) (x : List ℕ) → 1 ≤ workers → IsPointOf space x → point_worker o space workers x < workers
point_below (Some e) space workers x some inside = worker_below e workers (find (λ (p : Placing). same p.0 x) (placings e space)) some
point_below None space workers x some inside = even_below workers (size space) (rank space x) some (rank-lt-size space x inside)

each_below : (m : Model) (entries : List Entry) (workers : ℕ) → 1 ≤ workers → (w : ℕ) → IsAmong (workers_of m entries workers) w → w < workers
each_below m entries workers some w a =
    let leaf = among_flat_map (leaf_workers m entries workers) (enumerate_from 0 (leaves m)) w a in
    let space : List ℕ = leaf.0.1.space in
    let point = among_map (point_worker (entry_of m entries leaf.0.0) space workers) (points space) w leaf.2 in
    let below = point_below (entry_of m entries leaf.0.0) space workers point.0 some (points_inside space point.0 point.1) in
    subst (λ (n : ℕ). n < workers) (sym point.2) below

pub workers_are_a_placement : WorkersAreAPlacement
workers_are_a_placement m entries workers some bound = record {
  some = some;
  bound = bound;
  many = leaves_many m entries workers 0 (leaves m);
  each = λ j w h. each_below m entries workers some w (get_among (workers_of m entries workers) j w h);
}
