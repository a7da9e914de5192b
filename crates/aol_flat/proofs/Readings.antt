-- The reads of a sound model are the listed ones.
use Rattle.std.proofs.Common.{◌≡◌, ℕ, zero, suc, ◌+◌, ◌<◌, Bool, true, false, cond, ◌&&◌, ◌==◌, List, [], ◌∷◌, ◌++◌, map, flat_map, Option, Some, None, option_map, unwrap_or, slice_get, sym, ◌∙◌, ap, refl, arith, subst, inl, inr}
use Rattle.std.specs.Prelude.{filter_map, option_and_then, nat_lt}
use Rattle.std.specs.List.{IsAmong, enumerate_from}
use Rattle.std.specs.Option.{option_to_list}
use Rattle.std.proofs.lemmas.Bool.{ltb-true, lt-ltb}
use Rattle.std.proofs.lemmas.Option.{none-some}
use Rattle.aol_shape.specs.Lists.{numbers_below}
use Rattle.aol_shape.specs.Shape.{size, rank, point_at}
use Rattle.aol_shape.proofs.Points.{rank-lt-size, point_at-rank, point_at-is}
use Rattle.aol_expr_tree.specs.declared.port.Port.{Port}
use Rattle.aol_model_types.specs.declared.document.Model.{Model}
use Rattle.aol_model_types.specs.Rules.{inputs_of}
use Rattle.aol_flat.specs.Tasks.{main_outputs}
use Rattle.aol_flat.specs.Place.{Place, Element, task_at, elements_of}
use Rattle.aol_flat.specs.Instance.{Instance, Run, Copy, instances, element_of_port, port_element, copy_end, copy_source, read_element, port_sizes, read_sizes, places_of_sizes}
use Rattle.aol_flat.specs.InstanceNeed.{IsReal}
use Rattle.aol_flat.specs.Reads.{Reading, reading_at, instance_readings, main_readings, readings, IsRead, by_run, by_copy, by_caller}
use Rattle.aol_flat.specs.Accept.{IsSound, ReadingsAreReads}
use Rattle.aol_flat.specs.declared.view.Reader.{Reader}
use Rattle.aol_flat.specs.declared.view.Reader.TheVariants.{Instance as ByInstance, Main}
use Rattle.aol_flat.proofs.Among.{at_port, among_append, among_flat_map, among_get, get_among, map_among}
use Rattle.aol_flat.proofs.Enumerate.{with_number}
use Rattle.aol_flat.proofs.Find.{and_then_some}
use Rattle.aol_flat.proofs.Inside.{among_left, among_right, flat_map_among, number_of_member, numbers_among}
use Rattle.aol_flat.proofs.Numbered.{of_port, number_of_instance, run_listed, copy_numbered}
use Rattle.aol_flat.proofs.PathGrounded.{only_one}
use Rattle.aol_flat.proofs.Real.{sound_is_real}

-- ---- lists

-- what is kept of a member is a member of what is kept
filtered_among : {X Y : Type 0} (f : X → Option Y) (xs : List X) (x : X) (y : Y) → IsAmong xs x → f x ≡ Some y → IsAmong (filter_map f xs) y
filtered_among f [] x y a h = absurd (omega (arith, a.1.0))
filtered_among f (z ∷ xs) x y (zero, a) h =
    let here : f z ≡ Some y = ap f (sym a.1) ∙ h in
    rw here (0, (omega arith, refl))
filtered_among {Y = Y} f (z ∷ xs) x y (suc i, a) h = go (f z) refl (filtered_among f xs x y (i, (omega (arith, a.0), a.1)) h)
  where
    go : (o : Option Y) → f z ≡ o → IsAmong (filter_map f xs) y → IsAmong (filter_map f (z ∷ xs)) y
    go None e rest = rw e rest
    go (Some w) e rest = rw e (suc rest.0, (omega (arith, rest.1.0), rest.1.1))

-- and comes from a member
among_filtered : {X Y : Type 0} (f : X → Option Y) (xs : List X) (y : Y) → IsAmong (filter_map f xs) y → (x : X) × IsAmong xs x × (f x ≡ Some y)
among_filtered f [] y a = absurd (omega (arith, a.1.0))
among_filtered {X = X} {Y = Y} f (z ∷ xs) y a = go (f z) refl a (among_filtered f xs y)
  where
    later : (x : X) × IsAmong xs x × (f x ≡ Some y) → (x : X) × IsAmong (z ∷ xs) x × (f x ≡ Some y)
    later r = (r.0, (suc r.1.0, (omega (arith, r.1.1.0), r.1.1.1)), r.2)

    go : (o : Option Y) → f z ≡ o → IsAmong (filter_map f (z ∷ xs)) y → (IsAmong (filter_map f xs) y → (x : X) × IsAmong xs x × (f x ≡ Some y)) → (x : X) × IsAmong (z ∷ xs) x × (f x ≡ Some y)
    go None e b rest = later (rest (rw e at b))
    go (Some w) e b rest = first (rw e at b)
      where
        first : IsAmong (w ∷ filter_map f xs) y → (x : X) × IsAmong (z ∷ xs) x × (f x ≡ Some y)
        first (zero, c) = (z, (0, (omega arith, refl)), e ∙ ap Some (sym c.1))
        first (suc i, c) = later (rest (i, (omega (arith, c.0), c.1)))

-- the pairs of a port's number and a rank
place_among : (sizes : List ℕ) (from k n x : ℕ) → slice_get sizes k ≡ Some n → x < n → IsAmong (places_of_sizes from sizes) (from + k, x)
place_among [] from k n x at l = absurd (none-some n at)
place_among (s ∷ sizes) from zero n x at l =
    let here : s ≡ n = cc in
    let number : from ≡ from + 0 = omega arith in
    let P : ℕ → Type 0 = λ j. IsAmong (map (λ (y : ℕ). (from, y)) (numbers_below s) ++ places_of_sizes (from + 1) sizes) (j, x) in
    subst P number (among_left (map (λ (y : ℕ). (from, y)) (numbers_below s)) (places_of_sizes (from + 1) sizes) (from, x)
    (map_among (λ (y : ℕ). (from, y)) (numbers_below s) x (numbers_among s 0 x (omega arith) (omega (arith, l, here)))))
place_among (s ∷ sizes) from (suc k) n x at l =
    let number : (from + 1) + k ≡ from + suc k = omega arith in
    let P : ℕ → Type 0 = λ j. IsAmong (map (λ (y : ℕ). (from, y)) (numbers_below s) ++ places_of_sizes (from + 1) sizes) (j, x) in
    subst P number (among_right (map (λ (y : ℕ). (from, y)) (numbers_below s)) (places_of_sizes (from + 1) sizes) ((from + 1) + k, x) (place_among sizes (from + 1) k n x at l))

-- ---- elements of ports

-- an element of some ports has a number and a rank there
pub record HasRank (place : Place) (ports : List Port) (p : Element) : Type 0 where
  pub number : ℕ
  pub point : ℕ
  pub found : port_element place ports number point ≡ Some p
  pub listed : IsAmong (places_of_sizes 0 (port_sizes ports)) (number, point)

pub ranked : (place : Place) (ports : List Port) (p : Element) → IsAmong (elements_of place ports) p → HasRank place ports p
ranked place ports p a =
    let at = at_port place ports p a in
    let k : ℕ = at.listed.0 in
    let x : ℕ = rank at.port.shape p.index in
    let port : slice_get ports k ≡ Some at.port = among_get ports k at.port at.listed.1.0 at.listed.1.1 in
    let under : x < size at.port.shape = rank-lt-size at.port.shape p.index at.inside in
    let element : element_of_port place x at.port ≡ Some p =
    ap (λ b. cond b (Some (record { place = place; port = at.port.name; index = point_at at.port.shape x })) None) (lt-ltb x (size at.port.shape) under)
    ∙ (ap (λ i. Some (record { place = place; port = at.port.name; index = i })) (point_at-rank at.port.shape p.index at.inside) ∙ ap Some (sym at.is)) in
    let zero_more : 0 + k ≡ k = omega arith in
    let P : ℕ → Type 0 = λ j. IsAmong (places_of_sizes 0 (port_sizes ports)) (j, x) in
    record {
      number = k;
      point = x;
      found = ap (option_and_then (element_of_port place x)) port ∙ element;
      listed = subst P zero_more (place_among (port_sizes ports) 0 k (size at.port.shape) x (sized ports k at.port port) under);
    }
  where
    sized : (ports : List Port) (k : ℕ) (port : Port) → slice_get ports k ≡ Some port → slice_get (port_sizes ports) k ≡ Some (size port.shape)
    sized [] k port at = absurd (none-some port at)
    sized (q ∷ ports) zero port at = let e : q ≡ port = cc in ap (λ (r : Port). Some (size r.shape)) e
    sized (q ∷ ports) (suc k) port at = sized ports k port at

-- and what has one is an element of the ports
pub of_rank : (place : Place) (ports : List Port) (k x : ℕ) (p : Element) → port_element place ports k x ≡ Some p → IsAmong (elements_of place ports) p
of_rank place ports k x p h =
    let port = and_then_some (element_of_port place x) (slice_get ports k) p h in
    go port.0 (get_among ports k port.0 port.1) (nat_lt x (size port.0.shape)) refl port.2
  where
    go : (port : Port) → IsAmong ports port → (b : Bool) → nat_lt x (size port.shape) ≡ b → element_of_port place x port ≡ Some p → IsAmong (elements_of place ports) p
    go port listed false e f = let k = rw e at f in cc
    go port listed true e f =
        let k = rw e at f in
        let is : record { place = place; port = port.name; index = point_at port.shape x } ≡ p = cc in
        let P : Element → Type 0 = λ q. IsAmong (elements_of place ports) q in
        subst P is (of_port place ports port (record { place = place; port = port.name; index = point_at port.shape x }) listed refl refl (point_at-is port.shape x (ltb-true x (size port.shape) e)))

-- ---- readings

pub among_option : (o : Option Element) (p : Element) → IsAmong (option_to_list o) p → o ≡ Some p
among_option None p a = absurd (omega (arith, a.1.0))
among_option (Some q) p (zero, a) = ap Some (sym a.1)
among_option (Some q) p (suc i, a) = absurd (omega (arith, a.0))

mapped_some : {X Y : Type 0} (f : X → Y) (o : Option X) (y : Y) → option_map f o ≡ Some y → (x : X) × (o ≡ Some x) × (f x ≡ y)
mapped_some f None y h = cc
mapped_some f (Some x) y h = let e : f x ≡ y = cc in (x, refl, e)

-- a reading at a place that an instance reads is listed
instance_listed : (m : Model) (j : ℕ) (i : Instance) (k x : ℕ) (p : Element) → slice_get (instances m) j ≡ Some i → IsAmong (places_of_sizes 0 (read_sizes m i)) (k, x) → read_element m i k x ≡ Some p
    → IsAmong (readings m) (record { reader = ByInstance j; port = k; rank = x; element = p })
instance_listed m j i k x p at place element =
    let r : Reading = record { reader = ByInstance j; port = k; rank = x; element = p } in
    among_left (flat_map (instance_readings m) (enumerate_from 0 (instances m))) (main_readings m) r
    (flat_map_among (instance_readings m) (enumerate_from 0 (instances m)) (j, i) r (with_number (instances m) j i at)
    (filtered_among (reading_at (ByInstance j) (read_element m i)) (places_of_sizes 0 (read_sizes m i)) (k, x) r place
    (ap (option_map (λ (e : Element). record { reader = ByInstance j; port = k; rank = x; element = e })) element)))

-- what the reading at a place is
reading_of : (who : Reader) (element : ℕ → ℕ → Option Element) (p : ℕ × ℕ) (r : Reading) → reading_at who element p ≡ Some r → element p.0 p.1 ≡ Some r.element
reading_of who element p r h =
    let e = mapped_some (λ (x : Element). record { reader = who; port = p.0; rank = p.1; element = x }) (element p.0 p.1) r h in
    e.1 ∙ ap (λ (x : Reading). Some x.element) e.2

module _ (m : Model) (sound : IsSound m) where
  abbrev IsListed : Element → Type 0
  IsListed p = (r : Reading) × IsAmong (readings m) r × (r.element ≡ p)

  read_listed : (p : Element) → IsRead m p → IsListed p
  read_listed p (by_run place e h a) =
      let number = number_of_instance m (Run place) (run_listed m sound.shapes place e h) in
      let k = ranked place e.ins p a in
      let sizes : read_sizes m (Run place) ≡ port_sizes e.ins = ap (λ o. unwrap_or (option_map (λ t. port_sizes (inputs_of t)) o) []) h in
      let P : List ℕ → Type 0 = λ s. IsAmong (places_of_sizes 0 s) (k.number, k.point) in
      let element : read_element m (Run place) k.number k.point ≡ Some p = ap (option_and_then (λ t. port_element place (inputs_of t) k.number k.point)) h ∙ k.found in (
        record { reader = ByInstance number.0; port = k.number; rank = k.point; element = p },
        instance_listed m number.0 (Run place) k.number k.point p number.1 (subst P (sym sizes) k.listed) element,
        refl,
      )
  read_listed p (by_copy target c) =
      let copy : Instance = Copy c.up c.listed.0 c.repetition c.part in
      let number = copy_numbered m sound.shapes target p c in
      let element : read_element m copy 0 0 ≡ Some p = among_option (copy_end copy_source m c.up c.listed.0 c.repetition c.part (task_at m c.up)) p number.3 in
      let place : IsAmong (places_of_sizes 0 (1 ∷ [])) (0, 0) = (0, (omega arith, refl)) in
      (record { reader = ByInstance number.0; port = 0; rank = 0; element = p }, instance_listed m number.0 copy 0 0 p number.1 place element, refl)
  read_listed p (by_caller a) =
      let k = ranked [] (main_outputs m) p a in
      let r : Reading = record { reader = Main; port = k.number; rank = k.point; element = p } in (
        r,
        among_right (flat_map (instance_readings m) (enumerate_from 0 (instances m))) (main_readings m) r
            (filtered_among (reading_at Main (port_element [] (main_outputs m))) (places_of_sizes 0 (port_sizes (main_outputs m))) (k.number, k.point) r k.listed
            (ap (option_map (λ (e : Element). record { reader = Main; port = k.number; rank = k.point; element = e })) k.found)),
        refl,
      )

  -- what an instance reads at a place is read
  element_read : (i : Instance) (k x : ℕ) (p : Element) → IsReal m i → read_element m i k x ≡ Some p → IsRead m p
  element_read (Run place) k x p real h =
      by_run place real.0 real.1
      (of_rank place real.0.ins k x p (sym (ap (option_and_then (λ t. port_element place (inputs_of t) k x)) real.1) ∙ h))
  element_read (Copy up r repetition part) k x p real h = go ((k == 0) && (x == 0)) refl
    where
      source : copy_end copy_source m up r repetition part (task_at m up) ≡ Some real.1
      source = only_one (copy_end copy_source m up r repetition part (task_at m up)) real.1 real.4

      go : (b : Bool) → ((k == 0) && (x == 0)) ≡ b → IsRead m p
      go false e = let f = rw e at h in cc
      go true e =
          let f : copy_end copy_source m up r repetition part (task_at m up) ≡ Some p = rw e at h in
          let both : Some real.1 ≡ Some p = sym source ∙ f in
          let is : real.1 ≡ p = cc in
          let P : Element → Type 0 = λ q. IsRead m q in
          subst P is (by_copy real.0 real.2)

  listed_read : (r : Reading) → IsAmong (readings m) r → IsRead m r.element
  listed_read r a =
      elim (among_append (flat_map (instance_readings m) (enumerate_from 0 (instances m))) (main_readings m) r a) [
        | inl b ↦
            let i = among_flat_map (instance_readings m) (enumerate_from 0 (instances m)) r b in
            let j = number_of_member (instances m) 0 i.0 i.1 in
            let p = among_filtered (reading_at (ByInstance i.0.0) (read_element m i.0.1)) (places_of_sizes 0 (read_sizes m i.0.1)) r i.2 in
            element_read i.0.1 p.0.0 p.0.1 r.element (sound_is_real m sound j.0 i.0.1 j.2) (reading_of (ByInstance i.0.0) (read_element m i.0.1) p.0 r p.2)
        | inr b ↦
            let p = among_filtered (reading_at Main (port_element [] (main_outputs m))) (places_of_sizes 0 (port_sizes (main_outputs m))) r b in
            by_caller (of_rank [] (main_outputs m) p.0.0 p.0.1 r.element (reading_of Main (port_element [] (main_outputs m)) p.0 r p.2))
      ]

pub readings_are_reads : ReadingsAreReads
readings_are_reads m sound p = (
  read_listed m sound p,
  λ k.
      let P : Element → Type 0 = λ q. IsRead m q in
      subst P k.2 (listed_read m sound k.0 k.1),
)
