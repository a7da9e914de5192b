-- The ports of a task have different names.
use Rattle.std.proofs.Common.{◌≡◌, ◌≢◌, ℕ, zero, suc, ◌+◌, ◌<◌, true, false, List, [], ◌∷◌, ◌++◌, length, map, Some, is_some, slice_get, sym, ◌∙◌, ap, arith}
use Rattle.std.specs.List.{IsAmong}
use Rattle.aol_expr_tree.specs.declared.port.Port.{Port}
use Rattle.aol_model_types.specs.declared.place.Key.TheVariants.{KIn, KOut}
use Rattle.aol_model_types.specs.declared.place.PlaceStep.{PlaceStep}
use Rattle.aol_model_types.specs.declared.task.OutPort.{OutPort}
use Rattle.aol_model_types.specs.declared.task.Task.{Task}
use Rattle.aol_model_types.specs.declared.task.Task.TheVariants as tasks
use Rattle.aol_model_types.specs.Places.{to_key}
use Rattle.aol_model_types.specs.Rules.{each, kind_checks, port_checks, output_checks, is_new_port, inputs_of, outputs_of, port_shape}
use Rattle.aol_flat.proofs.Checked.{member_at, of_compound, of_repeated, sides_apart}
use Rattle.aol_flat.proofs.Different.{Hold, hold-parts, old_port}
use Rattle.aol_flat.proofs.Names.{both-true, slice_get-right}
use Rattle.aol_flat.proofs.Shapes.{input_own, output_own}
use Rattle.aol_flat_laws.proofs.Apart.{Apart, apart_of_places, apart_map}

abbrev pub DifferentNames : Port → Port → Type 0
DifferentNames p q = p.name ≢ q.name

-- ---- lists

in_front : {X : Type 0} (xs ys : List X) (i : ℕ) (x : X) → i < length xs → slice_get (xs ++ ys) i ≡ Some x → slice_get xs i ≡ Some x
in_front [] ys i x l a = absurd (omega (arith, l))
in_front (y ∷ xs) ys zero x l a = a
in_front (y ∷ xs) ys (suc i) x l a = in_front xs ys i x (omega (arith, l)) a

mapped_at : {X Y : Type 0} (f : X → Y) (xs : List X) (i : ℕ) (x : X) → slice_get xs i ≡ Some x → slice_get (map f xs) i ≡ Some (f x)
mapped_at f [] i x a = cc
mapped_at f (y ∷ xs) zero x a = let e : y ≡ x = cc in ap (λ z. Some (f z)) e
mapped_at f (y ∷ xs) (suc i) x a = mapped_at f xs i x a

-- ---- new ports

-- a new port has none of the names before it
earlier_differs : (front before : List Port) (i : ℕ) (p q : Port) → slice_get before i ≡ Some p → is_new_port (front ++ before) q ≡ true → p.name ≢ q.name
earlier_differs front before i p q at new e = old_port (front ++ before) (length front + i) p q (slice_get-right front before i ∙ at) e new

ports_differ : (front : List Port) (at : List PlaceStep) (ports : List Port) → Hold (each (port_checks front) at ports) → Apart DifferentNames ports
ports_differ front at ports h =
    apart_of_places DifferentNames ports
    (λ i j p q l a b.
    let r = member_at (port_checks front) at ports q j h b in
    let earlier : slice_get (r.before ++ q ∷ r.rest) i ≡ Some p = ap (λ (ps : List Port). slice_get ps i) (sym r.split) ∙ a in
    earlier_differs front r.before i p q (in_front r.before (q ∷ r.rest) i p (omega (arith, l, r.count)) earlier) (both-true (is_new_port (front ++ r.before) q) true r.holds).0)

-- ---- the ports of a task whose checks hold

pub inputs_differ : (before : List Task) (place : List PlaceStep) (t : Task) → Hold (kind_checks before place t) → Apart DifferentNames (inputs_of t)
inputs_differ before place (tasks.Elementary e) h =
    ports_differ [] (to_key place KIn) e.ins (hold-parts (each (port_checks []) (to_key place KIn) e.ins) (each (output_checks e) (to_key place KOut) e.outs) h).0
inputs_differ before place (tasks.Compound c) h = ports_differ [] (to_key place KIn) c.ins (of_compound before place c h).ins
inputs_differ before place (tasks.Repeated t) h = ports_differ [] (to_key place KIn) t.ins (of_repeated before place t h).ins

pub outputs_differ : (before : List Task) (place : List PlaceStep) (t : Task) → Hold (kind_checks before place t) → Apart DifferentNames (outputs_of t)
outputs_differ before place (tasks.Elementary e) h =
    let checks = (hold-parts (each (port_checks []) (to_key place KIn) e.ins) (each (output_checks e) (to_key place KOut) e.outs) h).1 in
    let port : OutPort → Port = λ o. o.port in
    apart_map (λ (o u : OutPort). o.port.name ≢ u.port.name) DifferentNames port e.outs
    (apart_of_places (λ (o u : OutPort). o.port.name ≢ u.port.name) e.outs
    (λ i j o u l a b.
    let r = member_at (output_checks e) (to_key place KOut) e.outs u j checks b in
    let earlier : slice_get (r.before ++ u ∷ r.rest) i ≡ Some o = ap (λ (os : List OutPort). slice_get os i) (sym r.split) ∙ a in
    earlier_differs e.ins (map port r.before) i o.port u.port
    (mapped_at port r.before i o (in_front r.before (u ∷ r.rest) i o (omega (arith, l, r.count)) earlier))
    (both-true (is_new_port (e.ins ++ map port r.before) u.port) _ r.holds).0))
    (λ o u a b apart. apart)
outputs_differ before place (tasks.Compound c) h = ports_differ c.ins (to_key place KOut) c.outs (of_compound before place c h).outs
outputs_differ before place (tasks.Repeated t) h = ports_differ t.ins (to_key place KOut) t.outs (of_repeated before place t h).outs

-- an input and an output have different names
pub sides_differ : (before : List Task) (place : List PlaceStep) (t : Task) → Hold (kind_checks before place t) → (p q : Port) → IsAmong (inputs_of t) p → IsAmong (outputs_of t) q → p.name ≢ q.name
sides_differ before place t h p q a b e =
    let input : is_some (port_shape (inputs_of t) p.name) ≡ true = ap is_some (input_own before place t p h a) in
    let output : is_some (port_shape (inputs_of t) q.name) ≡ false = sides_apart before place t q.name h (ap is_some (output_own before place t q h b)) in
    let both : true ≡ false = sym input ∙ (ap (λ n. is_some (port_shape (inputs_of t) n)) e ∙ output) in
    cc
