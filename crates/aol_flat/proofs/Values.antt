-- The values of all elements of some ports, where each is the number given for it.
use Rattle.std.proofs.Common.{◌≡◌, ℕ, zero, suc, ◌+◌, ◌<◌, ℤ, List, [], ◌∷◌, ◌++◌, length, map, Some, None, slice_get, sym, ◌∙◌, ap, refl, arith}
use Rattle.std.specs.List.{AllByRecursion}
use Rattle.std.proofs.lemmas.List.{map-append}
use Rattle.std.proofs.lemmas.Simd.{map-map}
use Rattle.std.proofs.lemmas.Option.{slice_get_within}
use Rattle.aol_shape.specs.Lists.{numbers_from, numbers_below}
use Rattle.aol_shape.specs.Shape.{size, rank, point_at, points, IsPointOf}
use Rattle.aol_shape.proofs.Points.{point_at-is, rank-point_at}
use Rattle.aol_expr_tree.specs.declared.port.Port.{Port}
use Rattle.aol_expr_tree.specs.declared.value.Val.{Val}
use Rattle.aol_expr_tree.specs.declared.value.Val.TheVariants.{Num}
use Rattle.aol_model_types.specs.declared.job.InputArray.{InputArray}
use Rattle.aol_model_types.specs.declared.task.Elementary.{Elementary}
use Rattle.aol_model_types.specs.declared.task.OutPort.{OutPort}
use Rattle.aol_flat.specs.Place.{Place, port_elements, elements_of}
use Rattle.aol_flat.specs.Inputs.{numbers_named, numbers_for}
use Rattle.aol_flat.specs.InstanceValue.{first_fault, number_of, fault_or, computed, instance_value}
use Rattle.aol_flat.specs.Equation.{Valuation}

-- functions that agree at the numbers from k on give one list
map_numbers : {X : Type 0} (f g : ℕ → X) (k n : ℕ) → ((i : ℕ) → i < k + n → f i ≡ g i) → map f (numbers_from k n) ≡ map g (numbers_from k n)
map_numbers f g k zero h = refl
map_numbers f g k (suc n) h =
    let first : f k ≡ g k = h k (omega arith) in
    let rest : map f (numbers_from (k + 1) n) ≡ map g (numbers_from (k + 1) n) = map_numbers f g (k + 1) n (λ i l. h i (omega (arith, l))) in
    cc

-- functions that agree at the points of a shape give one list
pub map_points : {X : Type 0} (f g : List ℕ → X) (shape : List ℕ) → ((x : List ℕ) → IsPointOf shape x → f x ≡ g x) → map f (points shape) ≡ map g (points shape)
map_points f g shape h =
    map-map f (point_at shape) (numbers_below (size shape))
    ∙ map_numbers (λ i. f (point_at shape i)) (λ i. g (point_at shape i)) 0 (size shape) (λ i l. h (point_at shape i) (point_at-is shape i (omega (arith, l))))
    ∙ sym (map-map g (point_at shape) (numbers_below (size shape)))

-- a function that gives these numbers one after another
numbers_values : (f : ℕ → Val) (nums : List ℤ) (k : ℕ) → ((i : ℕ) (z : ℤ) → slice_get nums i ≡ Some z → f (k + i) ≡ Num z) → map f (numbers_from k (length nums)) ≡ map (λ z. Num z) nums
numbers_values f [] k h = refl
numbers_values f (z ∷ zs) k h =
    let first : f k ≡ Num z = let e : k ≡ k + 0 = omega arith in ap f e ∙ h 0 z refl in
    let rest : map f (numbers_from (k + 1) (length zs)) ≡ map (λ y. Num y) zs =
    numbers_values f zs (k + 1) (λ i y at. let e : (k + 1) + i ≡ k + suc i = omega arith in ap f e ∙ h (suc i) y at) in
    cc

-- each element of the port has the number with its rank
abbrev pub IsNumbered : Valuation → Place → Port → List ℤ → Type 0
IsNumbered v place p nums = (x : List ℕ) (z : ℤ) → IsPointOf p.shape x → slice_get nums (rank p.shape x) ≡ Some z → v (record { place = place; port = p.name; index = x }) ≡ Num z

-- the values of such a port
pub port_values : (v : Valuation) (place : Place) (p : Port) (nums : List ℤ) → length nums ≡ size p.shape → IsNumbered v place p nums
    → map v (port_elements place p) ≡ map (λ z. Num z) nums
port_values v place p nums sized h =
    let at : List ℕ → Val = λ x. v (record { place = place; port = p.name; index = x }) in
    let here : (i : ℕ) (z : ℤ) → slice_get nums i ≡ Some z → at (point_at p.shape (0 + i)) ≡ Num z =
    λ i z e.
    let l : i < size p.shape = omega (arith, sized, slice_get_within nums i z e) in
    let same : 0 + i ≡ i = omega arith in
    ap (λ j. at (point_at p.shape j)) same ∙ h (point_at p.shape i) z (point_at-is p.shape i l) (ap (slice_get nums) (rank-point_at p.shape i l) ∙ e) in
    map-map v (λ x. record { place = place; port = p.name; index = x }) (points p.shape)
    ∙ map-map at (point_at p.shape) (numbers_below (size p.shape))
    ∙ ap (λ n. map (λ i. at (point_at p.shape i)) (numbers_from 0 n)) (sym sized)
    ∙ numbers_values (λ i. at (point_at p.shape i)) nums 0 here

-- the values of several ports
pub ports_values : (v : Valuation) (place : Place) (inputs : List InputArray) (ports : List Port)
    → AllByRecursion (λ (p : Port). map v (port_elements place p) ≡ map (λ z. Num z) (numbers_named inputs p.name)) ports
    → map v (elements_of place ports) ≡ map (λ z. Num z) (numbers_for inputs ports)
ports_values v place inputs [] h = refl
ports_values v place inputs (p ∷ ps) h =
    map-append v (port_elements place p) (elements_of place ps)
    ∙ (ap (λ vs. vs ++ map v (elements_of place ps)) h.0
    ∙ (ap (λ vs. map (λ z. Num z) (numbers_named inputs p.name) ++ vs) (ports_values v place inputs ps h.1)
    ∙ sym (map-append (λ z. Num z) (numbers_named inputs p.name) (numbers_for inputs ps))))

-- numbers have no fault
first_fault-numbers : (nums : List ℤ) → first_fault (map (λ z. Num z) nums) ≡ None
first_fault-numbers [] = refl
first_fault-numbers (z ∷ zs) = first_fault-numbers zs

numbers_back : (nums : List ℤ) → map number_of (map (λ z. Num z) nums) ≡ nums
numbers_back [] = refl
numbers_back (z ∷ zs) = ap (λ ns. z ∷ ns) (numbers_back zs)

-- an instance whose inputs are numbers computes with them
pub instance_value-numbers : (task : ℕ) (e : Elementary) (nums : List ℤ) (k : ℕ) (out : OutPort) (x : List ℕ)
    → instance_value task e (map (λ z. Num z) nums) k out x ≡ computed task e nums k out x
instance_value-numbers task e nums k out x =
    ap (λ f. fault_or f (computed task e (map number_of (map (λ z. Num z) nums)) k out x)) (first_fault-numbers nums)
    ∙ ap (λ ns. computed task e ns k out x) (numbers_back nums)
