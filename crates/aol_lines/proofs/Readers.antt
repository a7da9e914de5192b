-- What is read at a port and a rank, by an instance or by the caller.
use Rattle.std.proofs.Common.{◌≡◌, ℕ, zero, suc, ◌<◌, Bool, true, false, List, [], ◌∷◌, flat_map, Option, Some, None, slice_get, option_map, unwrap_or, sym, ◌∙◌, ap, refl, arith, subst, inl, inr}
use Rattle.std.specs.Prelude.{filter_map, nat_lt}
use Rattle.std.specs.List.{IsAmong, enumerate_from}
use Rattle.std.proofs.lemmas.Bool.{ltb-true}
use Rattle.aol_shape.specs.Shape.{size}
use Rattle.aol_expr_tree.specs.declared.port.Port.{Port}
use Rattle.aol_model_types.specs.declared.document.Model.{Model}
use Rattle.aol_model_types.specs.declared.task.Task.{Task}
use Rattle.aol_model_types.specs.Rules.{outputs_of}
use Rattle.aol_flat.specs.Tasks.{main_task, main_outputs}
use Rattle.aol_flat.specs.Place.{Place, Element}
use Rattle.aol_flat.specs.Instance.{Instance, instances, element_of_port, port_element, read_element, read_sizes, port_sizes, places_of_sizes}
use Rattle.aol_flat.specs.Reads.{Reading, reading_at, instance_readings, main_readings, readings}
use Rattle.aol_flat.specs.declared.view.Reader.{Reader}
use Rattle.aol_flat.specs.declared.view.Reader.TheVariants.{Instance as ByInstance, Main}
use Rattle.aol_flat.proofs.Among.{among_append, among_flat_map, get_among}
use Rattle.aol_flat.proofs.Find.{and_then_some}
use Rattle.aol_flat.proofs.Inside.{number_of_member}
use Rattle.aol_lines.specs.Refused.{IsReadBy}

-- what is kept comes from a member
kept_from : {X Y : Type 0} (f : X → Option Y) (xs : List X) (y : Y) → IsAmong (filter_map f xs) y → (x : X) × (f x ≡ Some y)
kept_from f [] y a = absurd (omega (arith, a.1.0))
kept_from {X = X} {Y = Y} f (z ∷ xs) y a = go (f z) refl a (kept_from f xs y)
  where
    go : (o : Option Y) → f z ≡ o → IsAmong (filter_map f (z ∷ xs)) y → (IsAmong (filter_map f xs) y → (x : X) × (f x ≡ Some y)) → (x : X) × (f x ≡ Some y)
    go None e b rest = rest (rw e at b)
    go (Some w) e b rest = first (rw e at b)
      where
        first : IsAmong (w ∷ filter_map f xs) y → (x : X) × (f x ≡ Some y)
        first (zero, c) = (z, e ∙ ap Some (sym c.1))
        first (suc i, c) = rest (i, (omega (arith, c.0), c.1))

-- a reading of this reader, and the element that stands there
record IsOf (who : Reader) (element : ℕ → ℕ → Option Element) (r : Reading) : Type 0 where
  by : r.reader ≡ who
  there : element r.port r.rank ≡ Some r.element

of_place : (who : Reader) (element : ℕ → ℕ → Option Element) (p : ℕ × ℕ) (r : Reading) → reading_at who element p ≡ Some r → IsOf who element r
of_place who element p r h = go (element p.0 p.1) refl h
  where
    go : (o : Option Element) → element p.0 p.1 ≡ o → option_map (λ (e : Element). record { reader = who; port = p.0; rank = p.1; element = e }) o ≡ Some r → IsOf who element r
    go None e f = cc
    go (Some x) e f =
        let is : record { reader = who; port = p.0; rank = p.1; element = x } ≡ r = cc in
        subst (IsOf who element) is (record { by = refl; there = e })

-- the instance that reads, by its number
pub record ReadsThere (m : Model) (j k x : ℕ) : Type 0 where
  pub instance : Instance
  pub at : slice_get (instances m) j ≡ Some instance
  pub element : Element
  pub there : read_element m instance k x ≡ Some element

pub reads_there : (m : Model) (j k x : ℕ) → IsReadBy m (ByInstance j) k x → ReadsThere m j k x
reads_there m j k x h =
    let r = h.reading in
    elim (among_append (flat_map (instance_readings m) (enumerate_from 0 (instances m))) (main_readings m) r (get_among (readings m) h.number r h.at)) [
      | inl b ↦
          let i = among_flat_map (instance_readings m) (enumerate_from 0 (instances m)) r b in
          let n = number_of_member (instances m) 0 i.0 i.1 in
          let p = kept_from (reading_at (ByInstance i.0.0) (read_element m i.0.1)) (places_of_sizes 0 (read_sizes m i.0.1)) r i.2 in
          let o = of_place (ByInstance i.0.0) (read_element m i.0.1) p.0 r p.1 in
          let readers : ByInstance j ≡ ByInstance i.0.0 = sym h.reader ∙ o.by in
          let number : j ≡ i.0.0 = cc in
          let here : n.0 ≡ j = omega (arith, number, n.1) in
          record {
            instance = i.0.1;
            at = ap (slice_get (instances m)) (sym here) ∙ n.2;
            element = r.element;
            there = ap (λ y. read_element m i.0.1 y x) (sym h.same_port) ∙ ap (read_element m i.0.1 r.port) (sym h.same_rank) ∙ o.there;
          }
      | inr b ↦
          let p = kept_from (reading_at Main (port_element [] (main_outputs m))) (places_of_sizes 0 (port_sizes (main_outputs m))) r b in
          let o = of_place Main (port_element [] (main_outputs m)) p.0 r p.1 in
          let readers : ByInstance j ≡ Main = sym h.reader ∙ o.by in
          cc
    ]

-- a port and a point of it
pub record HasPoint (ports : List Port) (k x : ℕ) : Type 0 where
  pub port : Port
  pub at : slice_get ports k ≡ Some port
  pub within : x < size port.shape

pub has_point : (place : Place) (ports : List Port) (k x : ℕ) (e : Element) → port_element place ports k x ≡ Some e → HasPoint ports k x
has_point place ports k x e h =
    let p = and_then_some (element_of_port place x) (slice_get ports k) e h in
    record { port = p.0; at = p.1; within = go p.0 (nat_lt x (size p.0.shape)) refl p.2 }
  where
    go : (port : Port) (b : Bool) → nat_lt x (size port.shape) ≡ b → element_of_port place x port ≡ Some e → x < size port.shape
    go port false g f = let k = rw g at f in cc
    go port true g f = ltb-true x (size port.shape) g

-- the main outputs
pub main_point : (m : Model) (k x : ℕ) → IsReadBy m Main k x → HasPoint (main_outputs m) k x
main_point m k x h =
    let r = h.reading in
    elim (among_append (flat_map (instance_readings m) (enumerate_from 0 (instances m))) (main_readings m) r (get_among (readings m) h.number r h.at)) [
      | inl b ↦
          let i = among_flat_map (instance_readings m) (enumerate_from 0 (instances m)) r b in
          let p = kept_from (reading_at (ByInstance i.0.0) (read_element m i.0.1)) (places_of_sizes 0 (read_sizes m i.0.1)) r i.2 in
          let o = of_place (ByInstance i.0.0) (read_element m i.0.1) p.0 r p.1 in
          let readers : Main ≡ ByInstance i.0.0 = sym h.reader ∙ o.by in
          cc
      | inr b ↦
          let p = kept_from (reading_at Main (port_element [] (main_outputs m))) (places_of_sizes 0 (port_sizes (main_outputs m))) r b in
          let o = of_place Main (port_element [] (main_outputs m)) p.0 r p.1 in
          let point = has_point [] (main_outputs m) r.port r.rank r.element o.there in
          subst (λ y. HasPoint (main_outputs m) y x) h.same_port (subst (HasPoint (main_outputs m) r.port) h.same_rank point)
    ]

-- the port that is found there has the point
pub same_point : (ports : List Port) (k x : ℕ) (q : Port) → HasPoint ports k x → slice_get ports k ≡ Some q → x < size q.shape
same_point ports k x q h at =
    let both : Some h.port ≡ Some q = sym h.at ∙ at in
    let one : h.port ≡ q = cc in
    subst (λ (r : Port). x < size r.shape) one h.within

-- and there is one
pub some_there : (ports : List Port) (k x : ℕ) → HasPoint ports k x → slice_get ports k ≡ None → ⊥
some_there ports k x h none = let both : Some h.port ≡ None = sym h.at ∙ none in cc

-- the outputs of the main task
pub output_there : (m : Model) (t : Task) (k x : ℕ) → main_task m ≡ Some t → IsReadBy m Main k x → HasPoint (outputs_of t) k x
output_there m t k x at h = subst (λ (ps : List Port). HasPoint ps k x) (ap (λ o. unwrap_or (option_map outputs_of o) []) at) (main_point m k x h)
