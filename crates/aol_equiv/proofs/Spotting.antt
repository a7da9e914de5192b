-- Ports with ranks, port by port.
use Rattle.std.proofs.Common.{◌≡◌, ℕ, zero, suc, ◌+◌, ◌<◌, List, [], ◌∷◌, ◌++◌, length, map, take, get_or, sym, ◌∙◌, ap, refl, arith}
use Rattle.std.proofs.lemmas.List.{append_assoc, append-nil, map-append}
use Rattle.std.proofs.lemmas.List.{length-map}
use Rattle.aol_shape.specs.Lists.{numbers_from, numbers_below}
use Rattle.aol_shape.specs.Shape.{size}
use Rattle.aol_expr_tree.specs.declared.port.Port.{Port}
use Rattle.aol_model_types.specs.declared.task.OutPort.{OutPort}
use Rattle.aol_flat.specs.Instance.{places_of_sizes, port_sizes}
use Rattle.aol_flat.specs.declared.view.Read.{Read}
use Rattle.aol_flat.specs.declared.view.Read.TheVariants.{Cell}
use Rattle.aol_assign.specs.Holes.{cells_from}
use Rattle.aol_assign.proofs.ReadingPlaces.{pair, number_count}

-- one number more
pub numbers_more : (a n : ℕ) → numbers_from a (n + 1) ≡ numbers_from a n ++ (a + n) ∷ []
numbers_more a zero = let e : a ≡ a + 0 = omega arith in ap (λ x. x ∷ []) e
numbers_more a (suc n) =
    let one : suc n + 1 ≡ suc (n + 1) = omega arith in
    let e : (a + 1) + n ≡ a + suc n = omega arith in
    ap (numbers_from a) one ∙ ap (λ xs. a ∷ xs) (numbers_more (a + 1) n ∙ ap (λ x. numbers_from (a + 1) n ++ x ∷ []) e)

pub spots_more : (k n : ℕ) → map (pair k) (numbers_below (n + 1)) ≡ map (pair k) (numbers_below n) ++ pair k n ∷ []
spots_more k n =
    let e : 0 + n ≡ n = omega arith in
    ap (map (pair k)) (numbers_more 0 n) ∙ (map-append (pair k) (numbers_below n) ((0 + n) ∷ []) ∙ ap (λ (x : ℕ). map (pair k) (numbers_below n) ++ pair k x ∷ []) e)

-- one rank more of a port
pub rank_added : (old : List (ℕ × ℕ)) (k n : ℕ) (new now : List (ℕ × ℕ)) → now ≡ old ++ map (pair k) (numbers_below n) → new ≡ now ++ pair k n ∷ [] → new ≡ old ++ map (pair k) (numbers_below (n + 1))
rank_added old k n new now so_far more =
    more ∙ (ap (λ xs. xs ++ pair k n ∷ []) so_far
    ∙ (append_assoc old (map (pair k) (numbers_below n)) ((k, n) ∷ []) ∙ ap (λ xs. old ++ xs) (sym (spots_more k n))))

-- one port more
sizes_more : (k : ℕ) (sizes : List ℕ) (n : ℕ) → places_of_sizes k (sizes ++ n ∷ []) ≡ places_of_sizes k sizes ++ map (pair (k + length sizes)) (numbers_below n)
sizes_more k [] n =
    let e : k ≡ k + 0 = omega arith in
    append-nil (map (pair k) (numbers_below n)) ∙ ap (λ j. map (pair j) (numbers_below n)) e
sizes_more k (s ∷ sizes) n =
    let e : (k + 1) + length sizes ≡ k + suc (length sizes) = omega arith in
    ap (λ xs. map (pair k) (numbers_below s) ++ xs) (sizes_more (k + 1) sizes n ∙ ap (λ j. places_of_sizes (k + 1) sizes ++ map (pair j) (numbers_below n)) e)
    ∙ sym (append_assoc (map (pair k) (numbers_below s)) (places_of_sizes (k + 1) sizes) (map (pair (k + suc (length sizes))) (numbers_below n)))

take_more : {X : Type 0} (xs : List X) (i : ℕ) (x : X) → i < length xs → x ≡ get_or xs i x → take (i + 1) xs ≡ take i xs ++ x ∷ []
take_more [] i x lt h = absurd (omega (arith, lt))
take_more (y ∷ xs) zero x lt h = let one : 0 + 1 ≡ suc 0 = omega arith in ap (λ n. take n (y ∷ xs)) one ∙ ap (λ z. z ∷ []) (sym h)
take_more (y ∷ xs) (suc i) x lt h = let one : suc i + 1 ≡ suc (i + 1) = omega arith in ap (λ n. take n (y ∷ xs)) one ∙ ap (λ zs. y ∷ zs) (take_more xs i x (omega (arith, lt)) h)

length_taken : {X : Type 0} (xs : List X) (i : ℕ) → i < length xs → length (take i xs) ≡ i
length_taken xs zero lt = refl
length_taken [] (suc i) lt = absurd (omega (arith, lt))
length_taken (x ∷ xs) (suc i) lt = ap suc (length_taken xs i (omega (arith, lt)))

pub port_added : (ports : List Port) (i : ℕ) (p : Port) → i < length ports → p ≡ get_or ports i p → (now new : List (ℕ × ℕ)) → now ≡ places_of_sizes 0 (port_sizes (take i ports)) → new ≡ now ++ map (pair i) (numbers_below (size p.shape))
    → new ≡ places_of_sizes 0 (port_sizes (take (i + 1) ports))
port_added ports i p lt is now new so_far more =
    let sizes : port_sizes (take (i + 1) ports) ≡ port_sizes (take i ports) ++ size p.shape ∷ [] =
    ap port_sizes (take_more ports i p lt is) ∙ map-append (λ (q : Port). size q.shape) (take i ports) (p ∷ []) in
    let count : 0 + length (port_sizes (take i ports)) ≡ i = omega (arith, length-map (take i ports) (λ (q : Port). size q.shape), length_taken ports i lt) in
    more ∙ (ap (λ xs. xs ++ map (pair i) (numbers_below (size p.shape))) so_far
    ∙ (ap (λ j. places_of_sizes 0 (port_sizes (take i ports)) ++ map (pair j) (numbers_below (size p.shape))) (sym count)
    ∙ (sym (sizes_more 0 (port_sizes (take i ports)) (size p.shape)) ∙ ap (places_of_sizes 0) (sym sizes))))

pub out_added : (outs : List OutPort) (i : ℕ) (o : OutPort) → i < length outs → o ≡ get_or outs i o → (now new : List (ℕ × ℕ)) → now ≡ places_of_sizes 0 (port_sizes (map (λ (o : OutPort). o.port) (take i outs)))
    → new ≡ now ++ map (pair i) (numbers_below (size o.port.shape)) → new ≡ places_of_sizes 0 (port_sizes (map (λ (o : OutPort). o.port) (take (i + 1) outs)))
out_added outs i o lt is now new so_far more =
    let before = map (λ (o : OutPort). o.port) (take i outs) in
    let sizes : port_sizes (map (λ (o : OutPort). o.port) (take (i + 1) outs)) ≡ port_sizes before ++ size o.port.shape ∷ [] =
    ap (λ xs. port_sizes (map (λ (o : OutPort). o.port) xs)) (take_more outs i o lt is)
    ∙ (ap port_sizes (map-append (λ (o : OutPort). o.port) (take i outs) (o ∷ [])) ∙ map-append (λ (q : Port). size q.shape) before (o.port ∷ [])) in
    let count : 0 + length (port_sizes before) ≡ i = omega (arith, length-map before (λ (q : Port). size q.shape), length-map (take i outs) (λ (o : OutPort). o.port), length_taken outs i lt) in
    more ∙ (ap (λ xs. xs ++ map (pair i) (numbers_below (size o.port.shape))) so_far
    ∙ (ap (λ j. places_of_sizes 0 (port_sizes before) ++ map (pair j) (numbers_below (size o.port.shape))) (sym count)
    ∙ (sym (sizes_more 0 (port_sizes before) (size o.port.shape)) ∙ ap (places_of_sizes 0) (sym sizes))))

-- one cell more
pub cell_added : (first n : ℕ) (now new : List Read) → now ≡ cells_from first n → new ≡ now ++ Cell (first + n) ∷ [] → new ≡ cells_from first (n + 1)
cell_added first n now new so_far more =
    more ∙ (ap (λ xs. xs ++ Cell (first + n) ∷ []) so_far ∙ sym (ap (map (λ c. Cell c)) (numbers_more first n) ∙ map-append (λ c. Cell c) (numbers_from first n) ((first + n) ∷ [])))

pub cell_count : (first n : ℕ) → length (cells_from first n) ≡ n
cell_count first n = length-map (numbers_from first n) (λ c. Cell c) ∙ number_count first n
