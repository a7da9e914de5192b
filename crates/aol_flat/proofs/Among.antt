-- Members of lists, and of the elements at some ports.
use Rattle.std.proofs.Common.{◌≡◌, ℕ, zero, suc, ◌+◌, ◌<◌, List, [], ◌∷◌, ◌++◌, length, map, flat_map, get_or, Some, slice_get, sym, ◌∙◌, ap, refl, arith, ◌⊎◌, inl, inr, subst}
use Rattle.std.specs.List.{IsAmong}
use Rattle.std.proofs.lemmas.List.{map-append}
use Rattle.std.proofs.lemmas.Simd.{map-map}
use Rattle.aol_shape.specs.Lists.{numbers_from, numbers_below}
use Rattle.aol_shape.specs.Shape.{size, point_at, points, IsPointOf}
use Rattle.aol_shape.proofs.Points.{point_at-is}
use Rattle.aol_expr_tree.specs.declared.port.Port.{Port}
use Rattle.aol_flat.specs.Place.{Place, Element, port_elements, elements_of}
use Rattle.aol_flat.proofs.Agree.{IsAmong-tail}

-- ---- members of lists

pub among_append : {X : Type 0} (xs ys : List X) (y : X) → IsAmong (xs ++ ys) y → IsAmong xs y ⊎ IsAmong ys y
among_append [] ys y h = inr h
among_append (x ∷ xs) ys y (zero, h) = inl (0, (omega arith, h.1))
among_append (x ∷ xs) ys y (suc i, h) =
    elim (among_append xs ys y (i, (omega (arith, h.0), h.1))) [
      | inl a ↦ inl (IsAmong-tail x xs y a)
      | inr b ↦ inr b
    ]

pub among_map : {X Y : Type 0} (f : X → Y) (xs : List X) (y : Y) → IsAmong (map f xs) y → (x : X) × IsAmong xs x × (y ≡ f x)
among_map f [] y h = absurd (omega (arith, h.1.0))
among_map f (x ∷ xs) y (zero, h) = (x, (0, (omega arith, refl)), h.1)
among_map f (x ∷ xs) y (suc i, h) =
    let r = among_map f xs y (i, (omega (arith, h.0), h.1)) in
    (r.0, IsAmong-tail x xs r.0 r.1, r.2)

pub among_flat_map : {X Y : Type 0} (f : X → List Y) (xs : List X) (y : Y) → IsAmong (flat_map f xs) y → (x : X) × IsAmong xs x × IsAmong (f x) y
among_flat_map f [] y h = absurd (omega (arith, h.1.0))
among_flat_map f (x ∷ xs) y h =
    elim (among_append (f x) (flat_map f xs) y h) [
      | inl a ↦ (x, (0, (omega arith, refl)), a)
      | inr b ↦ let r = among_flat_map f xs y b in (r.0, IsAmong-tail x xs r.0 r.1, r.2)
    ]

pub map_among : {X Y : Type 0} (f : X → Y) (xs : List X) (x : X) → IsAmong xs x → IsAmong (map f xs) (f x)
map_among f [] x h = absurd (omega (arith, h.1.0))
map_among f (y ∷ xs) x (zero, h) = (0, (omega arith, ap f h.1))
map_among f (y ∷ xs) x (suc i, h) = IsAmong-tail (f y) (map f xs) (f x) (map_among f xs x (i, (omega (arith, h.0), h.1)))

pub among_get : {X : Type 0} (xs : List X) (i : ℕ) (x : X) → i < length xs → x ≡ get_or xs i x → slice_get xs i ≡ Some x
among_get [] i x h e = absurd (omega (arith, h))
among_get (y ∷ xs) zero x h e = ap Some (sym e)
among_get (y ∷ xs) (suc i) x h e = among_get xs i x (omega (arith, h)) e

pub get_among : {X : Type 0} (xs : List X) (i : ℕ) (x : X) → slice_get xs i ≡ Some x → IsAmong xs x
get_among [] i x h = cc
get_among (y ∷ xs) zero x h = let e : x ≡ y = cc in (0, (omega arith, e))
get_among (y ∷ xs) (suc i) x h = IsAmong-tail y xs x (get_among xs i x h)

-- ---- points and elements

among_numbers : (n a j : ℕ) → IsAmong (numbers_from a n) j → j < a + n
among_numbers zero a j h = absurd (omega (arith, h.1.0))
among_numbers (suc n) a j (zero, h) = let e : j ≡ a = h.1 in omega (arith, e)
among_numbers (suc n) a j (suc i, h) = let r = among_numbers n (a + 1) j (i, (omega (arith, h.0), h.1)) in omega (arith, r)

-- the points of a shape are points of it
pub points_inside : (shape x : List ℕ) → IsAmong (points shape) x → IsPointOf shape x
points_inside shape x h =
    let r = among_map (point_at shape) (numbers_below (size shape)) x h in
    let under : r.0 < size shape = omega (arith, among_numbers (size shape) 0 r.0 r.1) in
    let P : List ℕ → Type 0 = λ y. IsPointOf shape y in
    subst P (sym r.2) (point_at-is shape r.0 under)

-- an element of some ports is that of a port at a point
pub record AtPort (place : Place) (ports : List Port) (p : Element) : Type 0 where
  pub port : Port
  pub listed : IsAmong ports port
  pub inside : IsPointOf port.shape p.index
  pub is : p ≡ record { place = place; port = port.name; index = p.index }

pub at_port : (place : Place) (ports : List Port) (p : Element) → IsAmong (elements_of place ports) p → AtPort place ports p
at_port place ports p h =
    let port = among_flat_map (port_elements place) ports p h in
    let point = among_map (λ (x : List ℕ). record { place = place; port = port.0.name; index = x }) (points port.0.shape) p port.2 in
    let index : p.index ≡ point.0 = ap (λ (e : Element). e.index) point.2 in
    let P : List ℕ → Type 0 = λ y. IsPointOf port.0.shape y in
    record {
      port = port.0;
      listed = port.1;
      inside = subst P (sym index) (points_inside port.0.shape point.0 point.1);
      is = point.2 ∙ ap (λ (x : List ℕ). record { place = place; port = port.0.name; index = x }) (sym index);
    }

-- the element of the same port and index at another instance
abbrev pub moved : Place → Element → Element
moved place p = record { place = place; port = p.port; index = p.index }

-- an element at an instance is moved nowhere
pub moved_here : (place : Place) (ports : List Port) (p : Element) → IsAmong (elements_of place ports) p → moved place p ≡ p
moved_here place ports p h =
    let a = at_port place ports p h in
    let port : p.port ≡ a.port.name = ap (λ (e : Element). e.port) a.is in
    ap (λ (n : List ℕ). record { place = place; port = n; index = p.index }) port ∙ sym a.is

-- the elements of some ports at two instances
pub moved_elements : (a b : Place) (ports : List Port) → elements_of a ports ≡ map (moved a) (elements_of b ports)
moved_elements a b [] = refl
moved_elements a b (p ∷ ports) =
    let first : map (moved a) (port_elements b p) ≡ port_elements a p = map-map (moved a) (λ (x : List ℕ). record { place = b; port = p.name; index = x }) (points p.shape) in
    ap (λ es. port_elements a p ++ es) (moved_elements a b ports)
    ∙ (ap (λ es. es ++ map (moved a) (elements_of b ports)) (sym first)
    ∙ sym (map-append (moved a) (port_elements b p) (elements_of b ports)))

pub moved_among : (a b : Place) (ports : List Port) (p : Element) → IsAmong (elements_of b ports) p → IsAmong (elements_of a ports) (moved a p)
moved_among a b ports p h =
    let P : List Element → Type 0 = λ es. IsAmong es (moved a p) in
    subst P (sym (moved_elements a b ports)) (map_among (moved a) (elements_of b ports) p h)
