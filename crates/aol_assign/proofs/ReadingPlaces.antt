-- The places of reads by port and rank, and the readings there.
use Rattle.std.proofs.Common.{◌≡◌, ℕ, zero, suc, ◌+◌, ◌-◌, ◌<◌, ◌≤◌, Bool, true, false, cond, List, [], ◌∷◌, ◌++◌, length, map, filter_map, drop, get_or, Option, Some, None, slice_get, option_map, option_and_then, sym, ◌∙◌, ap, refl, arith, subst, add-one}
use Rattle.std.specs.Prelude.{sum, fold, nat_lt}
use Rattle.std.proofs.Common.{lt-ltb}
use Rattle.std.proofs.Math.Seq.{drop-cons}
use Rattle.std.proofs.lemmas.List.{length-map, length-append, append_assoc}
use Rattle.std.proofs.lemmas.List.Elements.{filter_map-append}
use Rattle.aol_shape.specs.Lists.{numbers_from, numbers_below}
use Rattle.aol_shape.specs.Shape.{size, point_at}
use Rattle.aol_expr_tree.specs.declared.port.Port.{Port}
use Rattle.aol_flat.specs.Place.{Place, Element, elements_of}
use Rattle.aol_flat.specs.Instance.{places_of_sizes, port_sizes, element_of_port, port_element}
use Rattle.aol_flat.specs.Reads.{Reading, reading_at}
use Rattle.std.specs.List.{position_from}
use Rattle.aol_assign.specs.Holes.{cells_from}
use Rattle.aol_flat.specs.declared.view.Read.{Read}
use Rattle.aol_flat.specs.declared.view.Read.TheVariants.{Cell}
use Rattle.aol_flat.specs.declared.view.Reader.{Reader}
use Rattle.aol_flat.proofs.Names.{slice_get-left, slice_get-right}

-- ---- places by their numbers

abbrev pub pair : ℕ → ℕ → ℕ × ℕ
pair k x = (k, x)

get_pair : (k a n x : ℕ) → x < n → slice_get (map (pair k) (numbers_from a n)) x ≡ Some (pair k (a + x))
get_pair k a zero x h = absurd (omega (arith, h))
get_pair k a (suc n) zero h = let e : a ≡ a + 0 = omega arith in ap (λ y. Some (pair k y)) e
get_pair k a (suc n) (suc x) h = let e : (a + 1) + x ≡ a + suc x = omega arith in get_pair k (a + 1) n x (omega (arith, h)) ∙ ap (λ y. Some (pair k y)) e

pub number_count : (a n : ℕ) → length (numbers_from a n) ≡ n
number_count a zero = refl
number_count a (suc n) = ap suc (number_count (a + 1) n)

-- a number under the first size is a rank of the first port
pub place_here : (k n : ℕ) (sizes : List ℕ) (x : ℕ) → x < n → slice_get (places_of_sizes k (n ∷ sizes)) x ≡ Some (pair k x)
place_here k n sizes x h =
    let e : 0 + x ≡ x = omega arith in
    slice_get-left (map (pair k) (numbers_below n)) (places_of_sizes (k + 1) sizes) x (pair k x) (get_pair k 0 n x h ∙ ap (λ y. Some (pair k y)) e)

-- another one is that much less after it
pub place_later : (k n : ℕ) (sizes : List ℕ) (x : ℕ) → n ≤ x → slice_get (places_of_sizes k (n ∷ sizes)) x ≡ slice_get (places_of_sizes (k + 1) sizes) (x - n)
place_later k n sizes x h =
    let many : length (map (pair k) (numbers_below n)) ≡ n = length-map (numbers_below n) (pair k) ∙ number_count 0 n in
    let e : x ≡ length (map (pair k) (numbers_below n)) + (x - n) = omega (arith, many, h) in
    ap (slice_get (places_of_sizes k (n ∷ sizes))) e ∙ slice_get-right (map (pair k) (numbers_below n)) (places_of_sizes (k + 1) sizes) (x - n)

-- the sizes from a place on
pub sizes_at : (sizes : List ℕ) (i : ℕ) → i < length sizes → drop i sizes ≡ get_or sizes i 0 ∷ drop (i + 1) sizes
sizes_at sizes i lt = drop-cons sizes i 0 lt ∙ ap (λ k. get_or sizes i 0 ∷ drop k sizes) (sym (add-one i))

-- the cells from a given one on
pub cells_on : (t : Read → Bool) (first count n : ℕ) → n < count → t (Cell (first + n)) ≡ false
    → position_from t n (cells_from (first + n) (count - n)) ≡ position_from t (n + 1) (cells_from (first + (n + 1)) (count - (n + 1)))
cells_on t first count n lt off =
    let left : count - n ≡ suc (count - (n + 1)) = omega (arith, lt) in
    let next : (first + n) + 1 ≡ first + (n + 1) = omega arith in
    ap (λ k. position_from t n (cells_from (first + n) k)) left
    ∙ (ap (λ b. cond b (Some n) (position_from t (n + 1) (cells_from ((first + n) + 1) (count - (n + 1))))) off
    ∙ ap (λ a. position_from t (n + 1) (cells_from a (count - (n + 1)))) next)

fold_add : (a b : ℕ) (xs : List ℕ) → fold ◌+◌ (a + b) xs ≡ a + fold ◌+◌ b xs
fold_add a b [] = refl
fold_add a b (x ∷ xs) = let e : (a + b) + x ≡ a + (b + x) = omega arith in ap (λ n. fold ◌+◌ n xs) e ∙ fold_add a (b + x) xs

pub sum_cons : (x : ℕ) (xs : List ℕ) → sum (x ∷ xs) ≡ x + sum xs
sum_cons x xs = let e : 0 + x ≡ x + 0 = omega arith in ap (λ n. fold ◌+◌ n xs) e ∙ fold_add x 0 xs

-- ---- readings in line with their places and elements

-- each reading is at the place and of the element with its number
abbrev pub Aligned : Reader → List Reading → List (ℕ × ℕ) → List Element → Type 0
Aligned who [] [] [] = Unit {0}
Aligned who (r ∷ rs) (p ∷ ps) (e ∷ es) = (r ≡ record { reader = who; port = p.0; rank = p.1; element = e }) × Aligned who rs ps es
Aligned who _ _ _ = ⊥

aligned_append : (who : Reader) (rs rs' : List Reading) (ps ps' : List (ℕ × ℕ)) (es es' : List Element) → Aligned who rs ps es → Aligned who rs' ps' es' → Aligned who (rs ++ rs') (ps ++ ps') (es ++ es')
aligned_append who [] rs' [] ps' [] es' a b = b
aligned_append who [] rs' [] ps' (e ∷ es) es' a b = absurd a
aligned_append who [] rs' (p ∷ ps) ps' es es' a b = absurd a
aligned_append who (r ∷ rs) rs' [] ps' es es' a b = absurd a
aligned_append who (r ∷ rs) rs' (p ∷ ps) ps' [] es' a b = absurd a
aligned_append who (r ∷ rs) rs' (p ∷ ps) ps' (e ∷ es) es' a b = (a.0, aligned_append who rs rs' ps ps' es es' a.1 b)

-- the reading with a number
pub aligned_get : (who : Reader) (rs : List Reading) (ps : List (ℕ × ℕ)) (es : List Element) → Aligned who rs ps es → (n : ℕ) (e : Element) (p : ℕ × ℕ) → slice_get es n ≡ Some e → slice_get ps n ≡ Some p
    → slice_get rs n ≡ Some (record { reader = who; port = p.0; rank = p.1; element = e })
aligned_get who [] ps [] a n e p h k = cc
aligned_get who [] [] (x ∷ es) a n e p h k = absurd a
aligned_get who [] (q ∷ ps) (x ∷ es) a n e p h k = absurd a
aligned_get who (r ∷ rs) [] es a n e p h k = absurd a
aligned_get who (r ∷ rs) (q ∷ ps) [] a n e p h k = absurd a
aligned_get who (r ∷ rs) (q ∷ ps) (x ∷ es) a zero e p h k =
    let f : x ≡ e = cc in
    let g : q ≡ p = cc in
    let of : Element → ℕ × ℕ → Option Reading = λ y z. Some (record { reader = who; port = z.0; rank = z.1; element = y }) in
    ap Some a.0 ∙ (ap (λ y. of y q) f ∙ ap (of e) g)
aligned_get who (r ∷ rs) (q ∷ ps) (x ∷ es) a (suc n) e p h k = aligned_get who rs ps es a.1 n e p h k

-- its element
pub aligned_element : (who : Reader) (rs : List Reading) (ps : List (ℕ × ℕ)) (es : List Element) → Aligned who rs ps es → (n : ℕ) (r : Reading) → slice_get rs n ≡ Some r → slice_get es n ≡ Some r.element
aligned_element who [] ps es a n r h = cc
aligned_element who (s ∷ rs) [] es a n r h = absurd a
aligned_element who (s ∷ rs) (q ∷ ps) [] a n r h = absurd a
aligned_element who (s ∷ rs) (q ∷ ps) (x ∷ es) a zero r h = let f : s ≡ r = cc in ap Some (ap (λ (y : Reading). y.element) (sym a.0) ∙ ap (λ (y : Reading). y.element) f)
aligned_element who (s ∷ rs) (q ∷ ps) (x ∷ es) a (suc n) r h = aligned_element who rs ps es a.1 n r h

module _ (who : Reader) (place : Place) (ports : List Port) where
  element_at : Port → ℕ → Element
  element_at p x = record { place = place; port = p.name; index = point_at p.shape x }

  abbrev read_at : ℕ × ℕ → Option Reading
  read_at = reading_at who (port_element place ports)

  numbers_aligned : (k : ℕ) (p : Port) → slice_get ports k ≡ Some p → (a n : ℕ) → a + n ≤ size p.shape
      → Aligned who (filter_map read_at (map (pair k) (numbers_from a n))) (map (pair k) (numbers_from a n)) (map (element_at p) (numbers_from a n))
  unfolding element_at
  numbers_aligned k p at a zero lt = tt
  numbers_aligned k p at a (suc n) lt =
      let r : Reading = record { reader = who; port = k; rank = a; element = element_at p a } in
      let under : nat_lt a (size p.shape) ≡ true = lt-ltb a (size p.shape) (omega (arith, lt)) in
      let element : port_element place ports k a ≡ Some (element_at p a) =
      ap (option_and_then (element_of_port place a)) at ∙ ap (λ b. cond b (Some (element_at p a)) None) under in
      let reading : read_at (k, a) ≡ Some r = ap (option_map (λ (e : Element). record { reader = who; port = k; rank = a; element = e })) element in
      let ps = map (pair k) (numbers_from (a + 1) n) in
      let es = map (element_at p) (numbers_from (a + 1) n) in
      let P : List Reading → Type 0 = λ rs. Aligned who rs ((k, a) ∷ ps) (element_at p a ∷ es) in
      let here : filter_map read_at ((k, a) ∷ ps) ≡ r ∷ filter_map read_at ps = rw reading refl in
      subst P (sym here) (refl, numbers_aligned k p at (a + 1) n (omega (arith, lt)))

  listed_elements : (p : Port) (xs : List ℕ) → map (λ (x : List ℕ). record { place = place; port = p.name; index = x }) (map (point_at p.shape) xs) ≡ map (element_at p) xs
  unfolding element_at
  listed_elements p [] = refl
  listed_elements p (x ∷ xs) = ap (λ es. element_at p x ∷ es) (listed_elements p xs)

  rest_aligned : (before rest : List Port) → ports ≡ before ++ rest → Aligned who (filter_map read_at (places_of_sizes (length before) (port_sizes rest))) (places_of_sizes (length before) (port_sizes rest)) (elements_of place rest)
  rest_aligned before [] split = tt
  rest_aligned before (p ∷ rest) split =
      let k = length before in
      let number : k + 0 ≡ k = omega arith in
      let at : slice_get ports k ≡ Some p = ap (slice_get ports) (sym number) ∙ (ap (λ ps. slice_get ps (k + 0)) split ∙ slice_get-right before (p ∷ rest) 0) in
      let more : k + 1 ≡ length (before ++ p ∷ []) = omega (arith, length-append before (p ∷ [])) in
      let later = rest_aligned (before ++ p ∷ []) rest (split ∙ sym (append_assoc before (p ∷ []) rest)) in
      let here = numbers_aligned k p at 0 (size p.shape) (omega arith) in
      let ps = map (pair k) (numbers_below (size p.shape)) in
      let P : ℕ → Type 0 = λ n. Aligned who (filter_map read_at (places_of_sizes n (port_sizes rest))) (places_of_sizes n (port_sizes rest)) (elements_of place rest) in
      let Q : List Element → Type 0 = λ es. Aligned who (filter_map read_at (ps ++ places_of_sizes (k + 1) (port_sizes rest))) (ps ++ places_of_sizes (k + 1) (port_sizes rest)) (es ++ elements_of place rest) in
      let R : List Reading → Type 0 = λ rs. Aligned who rs (ps ++ places_of_sizes (k + 1) (port_sizes rest)) (map (element_at p) (numbers_below (size p.shape)) ++ elements_of place rest) in
      subst Q (sym (listed_elements p (numbers_below (size p.shape))))
      (subst R (sym (filter_map-append read_at ps (places_of_sizes (k + 1) (port_sizes rest))))
      (aligned_append who (filter_map read_at ps) (filter_map read_at (places_of_sizes (k + 1) (port_sizes rest))) ps (places_of_sizes (k + 1) (port_sizes rest))
      (map (element_at p) (numbers_below (size p.shape))) (elements_of place rest) here (subst P (sym more) later)))

  -- the readings of some ports
  pub ports_aligned : Aligned who (filter_map (reading_at who (port_element place ports)) (places_of_sizes 0 (port_sizes ports))) (places_of_sizes 0 (port_sizes ports)) (elements_of place ports)
  ports_aligned = rest_aligned [] ports refl
