-- Outputs that are taken out of a memory, cell by cell and port by port.
use Rattle.std.proofs.Common.{◌≡◌, ℕ, zero, suc, ◌+◌, ◌<◌, ◌≤◌, List, [], ◌∷◌, ◌++◌, length, map, take, get_or, slice_get, Some, sym, ◌∙◌, ap, refl, arith}
use Rattle.std.proofs.lemmas.List.{length-append, map-append, take_more}
use Rattle.std.proofs.lemmas.Option.{slice_get_read}
use Rattle.std.proofs.lemmas.Grind.{flat_map-append}
use Rattle.std.proofs.lemmas.List.{append-nil}
use Rattle.aol_shape.specs.Lists.{numbers_from}
use Rattle.aol_shape.specs.Shape.{size}
use Rattle.aol_expr_tree.specs.declared.port.Port.{Port}
use Rattle.aol_expr_tree.specs.declared.value.Val.{Val}
use Rattle.aol_flat.specs.Place.{Element, port_elements, elements_of}
use Rattle.aol_flat.specs.Equation.{Valuation}
use Rattle.aol_level.specs.Puts.{value_in}
use Rattle.aol_level.specs.declared.kept.Kept.{Kept}
use Rattle.aol_runner.specs.Outputs.{output_of, value_at, taken_output, taken_outputs}
use Rattle.aol_runner.specs.declared.outputs.OutputArray.{OutputArray}
use Rattle.aol_runner.proofs.FirstCells.{port_count}

-- ---- values

numbers_last : (a n : ℕ) → numbers_from a (n + 1) ≡ numbers_from a n ++ (a + n) ∷ []
numbers_last a zero = let e : a ≡ a + 0 = omega arith in ap (λ k. k ∷ []) e
numbers_last a (suc n) =
    let s : suc n + 1 ≡ suc (n + 1) = omega arith in
    let e : (a + 1) + n ≡ a + suc n = omega arith in
    ap (numbers_from a) s ∙ ap (λ ks. a ∷ ks) (numbers_last (a + 1) n ∙ ap (λ k. numbers_from (a + 1) n ++ k ∷ []) e)

-- one more value
pub value_next : (memory : List Kept) (old next : List Val) (first x : ℕ) (kept : Kept) → first + x < length memory → kept ≡ get_or memory (first + x) kept
    → old ≡ map (value_at memory) (numbers_from first x) → next ≡ old ++ kept.val ∷ [] → next ≡ map (value_at memory) (numbers_from first (x + 1))
value_next memory old next first x kept within is at put =
    let there : slice_get memory (first + x) ≡ Some kept = slice_get_read memory (length memory) (first + x) kept refl within is in
    let value : kept.val ≡ value_at memory (first + x) = sym (ap value_in there) in
    put ∙ ap (λ vs. vs ++ kept.val ∷ []) at ∙ ap (λ v. map (value_at memory) (numbers_from first x) ++ v ∷ []) value
    ∙ sym (ap (map (value_at memory)) (numbers_last first x) ∙ map-append (value_at memory) (numbers_from first x) ((first + x) ∷ []))

-- ---- ports

elements_next : (ports : List Port) (p : Port) → length (elements_of [] (ports ++ p ∷ [])) ≡ length (elements_of [] ports) + size p.shape
elements_next ports p =
    ap length (flat_map-append (port_elements []) ports (p ∷ []))
    ∙ (length-append (elements_of [] ports) (elements_of [] (p ∷ [])) ∙ ap (λ n. length (elements_of [] ports) + n) (ap length (append-nil (port_elements [] p)) ∙ port_count p))

taken_next : (memory : List Kept) (first : ℕ) (ports : List Port) (p : Port)
    → taken_outputs memory first (ports ++ p ∷ []) ≡ taken_outputs memory first ports ++ taken_output memory (first + length (elements_of [] ports)) p ∷ []
taken_next memory first [] p = let e : first ≡ first + 0 = omega arith in ap (λ n. taken_output memory n p ∷ []) e
taken_next memory first (q ∷ ports) p =
    let all = length-append (port_elements [] q) (elements_of [] ports) in
    let here = port_count q in
    let e : (first + size q.shape) + length (elements_of [] ports) ≡ first + length (elements_of [] (q ∷ ports)) = omega (arith, all, here) in
    ap (λ (os : List OutputArray). taken_output memory first q ∷ os)
    (taken_next memory (first + size q.shape) ports p ∙ ap (λ n. taken_outputs memory (first + size q.shape) ports ++ taken_output memory n p ∷ []) e)

-- one more output
pub output_next : (memory : List Kept) (old next : List OutputArray) (first at k : ℕ) (ports : List Port) (p : Port) (o : OutputArray) → k < length ports → p ≡ get_or ports k p
    → at ≡ first + length (elements_of [] (take k ports)) → old ≡ taken_outputs memory first (take k ports) → o ≡ taken_output memory at p → next ≡ old ++ o ∷ []
    → next ≡ taken_outputs memory first (take (k + 1) ports)
output_next memory old next first at k ports p o within is place was made put =
    put ∙ ap (λ os. os ++ o ∷ []) was ∙ ap (λ (x : OutputArray). taken_outputs memory first (take k ports) ++ x ∷ []) made
    ∙ ap (λ n. taken_outputs memory first (take k ports) ++ taken_output memory n p ∷ []) place
    ∙ sym (ap (taken_outputs memory first) (take_more ports k p within ∙ ap (λ (q : Port). take k ports ++ q ∷ []) (sym is)) ∙ taken_next memory first (take k ports) p)

pub place_next : (first at k : ℕ) (ports : List Port) (p : Port) → k < length ports → p ≡ get_or ports k p → at ≡ first + length (elements_of [] (take k ports))
    → at + size p.shape ≡ first + length (elements_of [] (take (k + 1) ports))
place_next first at k ports p within is place =
    let more : take (k + 1) ports ≡ take k ports ++ p ∷ [] = take_more ports k p within ∙ ap (λ (q : Port). take k ports ++ q ∷ []) (sym is) in
    let many : length (elements_of [] (take (k + 1) ports)) ≡ length (elements_of [] (take k ports)) + size p.shape = ap (λ ps. length (elements_of [] ps)) more ∙ elements_next (take k ports) p in
    omega (arith, many, place)

ports_fit : (ports : List Port) (k : ℕ) → length (elements_of [] (take k ports)) ≤ length (elements_of [] ports)
ports_fit [] zero = omega arith
ports_fit [] (suc k) = omega arith
ports_fit (p ∷ ports) zero = omega arith
ports_fit (p ∷ ports) (suc k) =
    let rest = ports_fit ports k in
    let front = length-append (port_elements [] p) (elements_of [] (take k ports)) in
    let all = length-append (port_elements [] p) (elements_of [] ports) in
    omega (arith, rest, front, all)

pub place_fits : (first at k : ℕ) (ports : List Port) (p : Port) → k < length ports → p ≡ get_or ports k p → at ≡ first + length (elements_of [] (take k ports))
    → at + size p.shape ≤ first + length (elements_of [] ports)
place_fits first at k ports p within is place =
    let next = place_next first at k ports p within is place in
    let fits = ports_fit ports (k + 1) in
    omega (arith, next, fits)

-- ---- what is taken are the values of a valuation that the cells hold

values_are : (memory : List Kept) (v : Valuation) (first n : ℕ) (es : List Element) → length es ≡ n → ((i : ℕ) (e : Element) → slice_get es i ≡ Some e → value_at memory (first + i) ≡ v e)
    → map (value_at memory) (numbers_from first n) ≡ map v es
values_are memory v first zero [] many h = refl
values_are memory v first (suc n) [] many h = absurd (omega (arith, many))
values_are memory v first zero (e ∷ es) many h = absurd (omega (arith, many))
values_are memory v first (suc n) (e ∷ es) many h =
    let zeroth : first + 0 ≡ first = omega arith in
    let here : value_at memory first ≡ v e = ap (value_at memory) (sym zeroth) ∙ h 0 e refl in
    let rest : map (value_at memory) (numbers_from (first + 1) n) ≡ map v es =
    values_are memory v (first + 1) n es (omega (arith, many)) (λ i x at. let s : (first + 1) + i ≡ first + suc i = omega arith in ap (value_at memory) s ∙ h (suc i) x at) in
    ap (λ (x : Val). x ∷ map (value_at memory) (numbers_from (first + 1) n)) here ∙ ap (λ (xs : List Val). v e ∷ xs) rest

front_at : (es fs : List Element) (i : ℕ) (e : Element) → slice_get es i ≡ Some e → slice_get (es ++ fs) i ≡ Some e
front_at [] fs i e h = cc
front_at (x ∷ es) fs zero e h = h
front_at (x ∷ es) fs (suc i) e h = front_at es fs i e h

back_at : (es fs : List Element) (i : ℕ) (e : Element) → slice_get fs i ≡ Some e → slice_get (es ++ fs) (length es + i) ≡ Some e
back_at [] fs i e h = let z : 0 + i ≡ i = omega arith in ap (slice_get fs) z ∙ h
back_at (x ∷ es) fs i e h = let s : length (x ∷ es) + i ≡ suc (length es + i) = omega arith in ap (slice_get (x ∷ (es ++ fs))) s ∙ back_at es fs i e h

pub taken_are : (memory : List Kept) (v : Valuation) (first : ℕ) (ports : List Port) → ((i : ℕ) (e : Element) → slice_get (elements_of [] ports) i ≡ Some e → value_at memory (first + i) ≡ v e)
    → taken_outputs memory first ports ≡ map (output_of v) ports
taken_are memory v first [] h = refl
taken_are memory v first (p ∷ ports) h =
    let vals : map (value_at memory) (numbers_from first (size p.shape)) ≡ map v (port_elements [] p) =
    values_are memory v first (size p.shape) (port_elements [] p) (port_count p) (λ i e at. h i e (front_at (port_elements [] p) (elements_of [] ports) i e at)) in
    let rest : taken_outputs memory (first + size p.shape) ports ≡ map (output_of v) ports =
    taken_are memory v (first + size p.shape) ports
    (λ i e at.
    let count = port_count p in
    let s : (first + size p.shape) + i ≡ first + (length (port_elements [] p) + i) = omega (arith, count) in
    ap (value_at memory) s ∙ h (length (port_elements [] p) + i) e (back_at (port_elements [] p) (elements_of [] ports) i e at)) in
    ap (λ (vs : List Val). record { name = p.name; shape = p.shape; vals = vs } ∷ taken_outputs memory (first + size p.shape) ports) vals ∙ ap (λ (os : List OutputArray). output_of v p ∷ os) rest
