-- Lists side by side, and the value at the place of an element.
use Rattle.std.proofs.Common.{◌≡◌, ℕ, zero, suc, ◌+◌, List, [], ◌∷◌, ◌++◌, length, map, flat_map, Some, slice_get, sym, ◌∙◌, ap, refl, arith, subst}
use Rattle.std.specs.List.{IsAmong, AllZip, enumerate_from}
use Rattle.std.proofs.lemmas.List.{length-map}
use Rattle.aol_shape.specs.Shape.{points, IsPointOf}
use Rattle.aol_expr_tree.specs.declared.value.Val.{Val}
use Rattle.aol_model_types.specs.declared.task.OutPort.{OutPort}
use Rattle.aol_flat.specs.Place.{Place, Element, port_elements, elements_of}
use Rattle.aol_flat.proofs.Among.{among_get}
use Rattle.aol_flat.proofs.Inside.{point_among}
use Rattle.aol_flat.proofs.Names.{slice_get-left, slice_get-right}

pub some_injective : {X : Type 0} (a b : X) → Some a ≡ Some b → a ≡ b
some_injective a b h = cc

-- a list of the same length has an item at the same place
pub get_there : {X Y : Type 0} (xs : List X) (ys : List Y) (j : ℕ) (x : X) → length ys ≡ length xs → slice_get xs j ≡ Some x → (y : Y) × (slice_get ys j ≡ Some y)
get_there [] ys j x h at = cc
get_there (z ∷ xs) [] j x h at = absurd (omega (arith, h))
get_there (z ∷ xs) (y ∷ ys) zero x h at = (y, refl)
get_there (z ∷ xs) (y ∷ ys) (suc j) x h at = get_there xs ys j x (omega (arith, h)) at

-- what is related to the item at a place
pub zip_at : {X Y : Type 0} (R : X → Y → Type 0) (xs : List X) (ys : List Y) (k : ℕ) (x : X) → AllZip R xs ys → slice_get xs k ≡ Some x → (y : Y) × (slice_get ys k ≡ Some y) × R x y
zip_at R [] ys k x z at = cc
zip_at R (a ∷ xs) [] k x z at = absurd z
zip_at R (a ∷ xs) (y ∷ ys) zero x z at =
    let e : a ≡ x = some_injective a x at in
    (y, refl, subst (λ b. R b y) e z.0)
zip_at R (a ∷ xs) (y ∷ ys) (suc k) x z at = zip_at R xs ys k x z.1 at

pub get_map : {X Y : Type 0} (f : X → Y) (xs : List X) (k : ℕ) (x : X) → slice_get xs k ≡ Some x → slice_get (map f xs) k ≡ Some (f x)
get_map f [] k x h = cc
get_map f (y ∷ xs) zero x h = ap (λ z. Some (f z)) (some_injective y x h)
get_map f (y ∷ xs) (suc k) x h = get_map f xs k x h

-- the one item of a list
pub among_one : {X : Type 0} (x y : X) → IsAmong (x ∷ []) y → y ≡ x
among_one x y (zero, h) = h.1
among_one x y (suc i, h) = absurd (omega (arith, h.0))

-- the values of some output ports, by port and point
abbrev pub port_values : (ℕ → OutPort → List ℕ → Val) → ℕ × OutPort → List Val
port_values value o = map (value o.0 o.1) (points o.1.port.shape)

-- the place of an element among those of some output ports, and the value at that place
pub output_at : (place : Place) (value : ℕ → OutPort → List ℕ → Val) (os : List OutPort) (n number : ℕ) (out : OutPort) (x : List ℕ) → slice_get os number ≡ Some out → IsPointOf out.port.shape x
    → (k : ℕ) × (slice_get (elements_of place (map (λ (o : OutPort). o.port) os)) k ≡ Some (record { place = place; port = out.port.name; index = x }))
    × (slice_get (flat_map (port_values value) (enumerate_from n os)) k ≡ Some (value (n + number) out x))
output_at place value [] n number out x at inside = cc
output_at place value (o ∷ os) n zero out x at inside =
    let e : o ≡ out = some_injective o out at in
    let P : OutPort → Type 0 = λ q. IsPointOf q.port.shape x in
    let a = point_among o.port.shape x (subst P (sym e) inside) in
    let here : slice_get (points o.port.shape) a.0 ≡ Some x = among_get (points o.port.shape) a.0 x a.1.0 a.1.1 in
    let element : List ℕ → Element = λ i. record { place = place; port = o.port.name; index = i } in
    let number : n ≡ n + 0 = omega arith in (
      a.0,
      slice_get-left (port_elements place o.port) (elements_of place (map (λ (q : OutPort). q.port) os)) a.0 (element x) (get_map element (points o.port.shape) a.0 x here)
          ∙ ap (λ (q : OutPort). Some (record { place = place; port = q.port.name; index = x })) e,
      slice_get-left (map (value n o) (points o.port.shape)) (flat_map (port_values value) (enumerate_from (n + 1) os)) a.0 (value n o x) (get_map (value n o) (points o.port.shape) a.0 x here)
          ∙ (ap (λ (q : OutPort). Some (value n q x)) e ∙ ap (λ i. Some (value i out x)) number),
    )
output_at place value (o ∷ os) n (suc number) out x at inside =
    let rest = output_at place value os (n + 1) number out x at inside in
    let element : List ℕ → Element = λ i. record { place = place; port = o.port.name; index = i } in
    let many : length (port_elements place o.port) ≡ length (points o.port.shape) = length-map (points o.port.shape) element in
    let many' : length (map (value n o) (points o.port.shape)) ≡ length (points o.port.shape) = length-map (points o.port.shape) (value n o) in
    let moved : (n + 1) + number ≡ n + suc number = omega arith in (
      length (points o.port.shape) + rest.0,
      ap (λ i. slice_get (port_elements place o.port ++ elements_of place (map (λ (q : OutPort). q.port) os)) (i + rest.0)) (sym many)
          ∙ (slice_get-right (port_elements place o.port) (elements_of place (map (λ (q : OutPort). q.port) os)) rest.0 ∙ rest.1),
      ap (λ i. slice_get (map (value n o) (points o.port.shape) ++ flat_map (port_values value) (enumerate_from (n + 1) os)) (i + rest.0)) (sym many')
          ∙ (slice_get-right (map (value n o) (points o.port.shape)) (flat_map (port_values value) (enumerate_from (n + 1) os)) rest.0
          ∙ (rest.2 ∙ ap (λ i. Some (value i out x)) moved)),
    )
