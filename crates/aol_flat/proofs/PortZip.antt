-- The elements of the ports of an instance, one port after another.
use Rattle.std.proofs.Common.{◌≡◌, ℕ, zero, suc, ◌+◌, ◌<◌, ◌≤◌, ◌^◌, List, [], ◌∷◌, ◌++◌, length, map, drop, get_or, Some, slice_get, sym, ◌∙◌, ap, refl, arith, subst}
use Rattle.std.specs.List.{AllZip, AllByRecursion}
use Rattle.std.proofs.lemmas.List.{length-map}
use Rattle.std.proofs.lemmas.List.Sums.{sum_by-cons}
use Rattle.std.proofs.lemmas.Option.{slice_get_within}
use Rattle.aol_shape.specs.Lists.{numbers_from}
use Rattle.aol_shape.specs.Shape.{IsPointOf, size, point_at, max_points}
use Rattle.aol_shape.proofs.Sizes.{size_positive}
use Rattle.aol_expr_tree.specs.declared.port.Port.{Port}
use Rattle.aol_model_types.specs.declared.document.Model.{Model}
use Rattle.aol_model_types.specs.declared.task.OutPort.{OutPort}
use Rattle.aol_model_types.specs.declared.task.Task.{Task}
use Rattle.aol_model_types.specs.declared.task.Task.TheVariants as tasks
use Rattle.aol_model_types.specs.Rules.{inputs_of, outputs_of}
use Rattle.aol_model_types.specs.Types.{IsTask, IsPort, IsOutPort}
use Rattle.aol_flat.specs.Accept.{IsSound}
use Rattle.aol_flat.specs.Follow.{IsElementOf, element_on}
use Rattle.aol_flat.specs.LeafCursor.{HasPortsFrom, elements_at}
use Rattle.aol_flat.specs.Node.{Node, space_around, place_on}
use Rattle.aol_flat.specs.NodeTable.{IsNode}
use Rattle.aol_flat.specs.Place.{Place, Element, port_elements, elements_of}
use Rattle.aol_flat.proofs.NodeAt.{one_node, limits_known, read_port}

-- ---- pairs of lists

pub zip_numbered : {A B Y : Type 0} (R : B → Y → Type 0) (h : A → B) (q : ℕ → A) (a n : ℕ) (ys : List Y) → length ys ≡ n → ((x : ℕ) (y : Y) → slice_get ys x ≡ Some y → R (h (q (a + x))) y)
    → AllZip R (map h (map q (numbers_from a n))) ys
zip_numbered R h q a zero [] same each = tt
zip_numbered R h q a zero (y ∷ ys) same each = absurd (omega (arith, same))
zip_numbered R h q a (suc n) [] same each = absurd (omega (arith, same))
zip_numbered {Y = Y} R h q a (suc n) (y ∷ ys) same each =
    let here : a + 0 ≡ a = omega arith in
    let next : (x : ℕ) → a + suc x ≡ (a + 1) + x = λ x. omega arith in (
      subst (λ k. R (h (q k)) y) here (each 0 y refl),
      zip_numbered R h q (a + 1) n ys (omega (arith, same)) (λ x z at. subst (λ k. R (h (q k)) z) (next x) (each (suc x) z at)),
    )

pub zip_both : {X Y : Type 0} (R : X → Y → Type 0) (xs vs : List X) (ys ws : List Y) → AllZip R xs ys → AllZip R vs ws → AllZip R (xs ++ vs) (ys ++ ws)
zip_both R [] vs [] ws h k = k
zip_both R [] vs (y ∷ ys) ws h k = absurd h
zip_both R (x ∷ xs) vs [] ws h k = absurd h
zip_both R (x ∷ xs) vs (y ∷ ys) ws h k = (h.0, zip_both R xs vs ys ws h.1 k)

-- ---- ports

-- the list from a member on
record IsMember (ps : List Port) (k : ℕ) : Type 0 where
  port : Port
  listed : slice_get ps k ≡ Some port
  types : IsPort port
  rest : drop k ps ≡ port ∷ drop (k + 1) ps

next_member : (ps : List Port) (k : ℕ) → AllByRecursion IsPort ps → 0 < elements_at (drop k ps) → IsMember ps k
next_member [] zero types some = absurd (omega (arith, some))
next_member [] (suc k) types some = absurd (omega (arith, some))
next_member (p ∷ ps) zero types some = record { port = p; listed = refl; types = types.0; rest = refl }
next_member (p ∷ ps) (suc k) types some =
    let r = next_member ps k types.1 some in
    let e : suc k + 1 ≡ suc (k + 1) = omega arith in
    record { port = r.port; listed = r.listed; types = r.types; rest = r.rest ∙ ap (λ n. r.port ∷ drop n (p ∷ ps)) (sym e) }

-- the next port of an instance
pub record HasNext (m : Model) (ports : Task → List Port) (number k many : ℕ) (at : List ℕ) : Type 0 where
  pub node : Node
  pub task : Task
  pub at_node : IsNode m number node task
  pub around : IsPointOf (space_around node) at
  pub port : Port
  pub listed : slice_get (ports task) k ≡ Some port
  pub small : size port.shape ≤ max_points
  pub some : 1 ≤ size port.shape
  pub rest : drop k (ports task) ≡ port ∷ drop (k + 1) (ports task)
  pub total : many ≡ size port.shape + elements_at (drop (k + 1) (ports task))
  pub counted : length (ports task) < 2 ^ 32
  pub within : k < length (ports task)

out_ports : (outs : List OutPort) → AllByRecursion IsOutPort outs → AllByRecursion IsPort (map (λ (o : OutPort). o.port) outs)
out_ports [] h = tt
out_ports (o ∷ outs) h = (h.0.port, out_ports outs h.1)

pub inputs_typed : (t : Task) → IsTask t → AllByRecursion IsPort (inputs_of t)
inputs_typed (tasks.Elementary e) h = h.ins
inputs_typed (tasks.Compound c) h = h.ins
inputs_typed (tasks.Repeated r) h = h.ins

pub outputs_typed : (t : Task) → IsTask t → AllByRecursion IsPort (outputs_of t)
outputs_typed (tasks.Elementary e) h = out_ports e.outs h.outs
outputs_typed (tasks.Compound c) h = h.outs
outputs_typed (tasks.Repeated r) h = h.outs

pub inputs_counted : (t : Task) → IsTask t → length (inputs_of t) < 2 ^ 32
inputs_counted (tasks.Elementary e) h = h.in_count
inputs_counted (tasks.Compound c) h = h.in_count
inputs_counted (tasks.Repeated r) h = h.in_count

pub outputs_counted : (t : Task) → IsTask t → length (outputs_of t) < 2 ^ 32
outputs_counted (tasks.Elementary e) h = let k : length e.outs < 2 ^ 32 = h.out_count in omega (arith, k, length-map e.outs (λ (o : OutPort). o.port))
outputs_counted (tasks.Compound c) h = h.out_count
outputs_counted (tasks.Repeated r) h = h.out_count

module _ (m : Model) (sound : IsSound m) (ports : Task → List Port) (typed : (t : Task) → IsTask t → AllByRecursion IsPort (ports t)) (counted : (t : Task) → IsTask t → length (ports t) < 2 ^ 32) where
  next : (number k many : ℕ) (at : List ℕ) → HasPortsFrom m ports number k many at → 0 < many → HasNext m ports number k many at
  next number k many at h some =
      let types = limits_known m sound number h.node h.task h.at_node in
      let n = next_member (ports h.task) k (typed h.task types) (omega (arith, some, h.many_is)) in
      let all : elements_at (drop k (ports h.task)) ≡ size n.port.shape + elements_at (drop (k + 1) (ports h.task)) =
      ap elements_at n.rest ∙ sum_by-cons (λ (p : Port). size p.shape) n.port (drop (k + 1) (ports h.task)) in
      record {
        node = h.node;
        task = h.task;
        at_node = h.at_node;
        around = h.around;
        port = n.port;
        listed = n.listed;
        small = n.types.points;
        some = size_positive n.port.shape n.types.entry;
        rest = n.rest;
        total = h.many_is ∙ all;
        counted = counted h.task types;
        within = slice_get_within (ports h.task) k n.port n.listed;
      }

pub next_input : (m : Model) (number k many : ℕ) (at : List ℕ) → IsSound m → HasPortsFrom m inputs_of number k many at → 0 < many → HasNext m inputs_of number k many at
next_input m number k many at sound h some = next m sound inputs_of inputs_typed inputs_counted number k many at h some

pub next_output : (m : Model) (number k many : ℕ) (at : List ℕ) → IsSound m → HasPortsFrom m outputs_of number k many at → 0 < many → HasNext m outputs_of number k many at
next_output m number k many at sound h some = next m sound outputs_of outputs_typed outputs_counted number k many at h some

-- the port that is read by its number is that one
pub port_read : (m : Model) (ports : Task → List Port) (number k many : ℕ) (at : List ℕ) (h : HasNext m ports number k many at) (node : Node) (u : Task) (q : Port) → IsNode m number node u → q ≡ get_or (ports u) k q → q ≡ h.port
port_read m ports number k many at h node u q here is = read_port ports h.task u k h.port q (one_node m number h.node node h.task u h.at_node here).1 h.listed is

-- no elements are left, so no ports are
pub no_ports : (ps : List Port) → AllByRecursion IsPort ps → elements_at ps ≡ 0 → ps ≡ []
no_ports [] types none = refl
no_ports (p ∷ ps) types none = absurd (omega (arith, none, sum_by-cons (λ (q : Port). size q.shape) p ps, size_positive p.shape types.0.entry))

pub drop_typed : (k : ℕ) (ps : List Port) → AllByRecursion IsPort ps → AllByRecursion IsPort (drop k ps)
drop_typed zero ps h = h
drop_typed (suc k) [] h = tt
drop_typed (suc k) (p ∷ ps) h = drop_typed k ps h.1

-- what holds of the elements of a port and of those of the ports after it holds of all
module _ {Y : Type 0} (R : Element → Y → Type 0) (m : Model) (ports : Task → List Port) (number k many : ℕ) (at : List ℕ) (h : HasNext m ports number k many at) where
  pub zip_ports : (own later : List Y) → ((x : ℕ) (y : Y) → slice_get own x ≡ Some y → (e : Element) → IsElementOf m ports number k at x e → R e y) → length own ≡ size h.port.shape
      → ((node : Node) (t : Task) → IsNode m number node t → AllZip R (elements_of (place_on node at) (drop (k + 1) (ports t))) later)
      → (node : Node) (t : Task) → IsNode m number node t → AllZip R (elements_of (place_on node at) (drop k (ports t))) (own ++ later)
  zip_ports own later each count rest node t here =
      let one = one_node m number h.node node h.task t h.at_node here in
      let place : Place = place_on h.node at in
      let index : List ℕ → Element = λ x. record { place = place; port = h.port.name; index = x } in
      let first : AllZip R (port_elements place h.port) own =
      zip_numbered R index (point_at h.port.shape) 0 (size h.port.shape) own count (λ x y got.
      let number_is : 0 + x ≡ x = omega arith in
      let low : x < size h.port.shape = omega (arith, count, slice_get_within own x y got) in
      subst (λ n. R (element_on h.node at h.port n) y) (sym number_is)
      (each x y got (element_on h.node at h.port x) (record { node = h.node; task = h.task; at_node = h.at_node; port = h.port; listed = h.listed; around = h.around; within = low; is = refl }))) in
      let both : AllZip R (elements_of place (h.port ∷ drop (k + 1) (ports h.task))) (own ++ later) =
      zip_both R (port_elements place h.port) (elements_of place (drop (k + 1) (ports h.task))) own later first (rest h.node h.task h.at_node) in
      let of_task : AllZip R (elements_of place (drop k (ports h.task))) (own ++ later) = subst (λ ps. AllZip R (elements_of place ps) (own ++ later)) (sym h.rest) both in
      subst (λ u. AllZip R (elements_of (place_on node at) (drop k (ports u))) (own ++ later)) one.1
      (subst (λ n. AllZip R (elements_of (place_on n at) (drop k (ports h.task))) (own ++ later)) one.0 of_task)
