-- The main inputs are put into the first cells.
use Rattle.std.proofs.Common.{◌≡◌, ℕ, zero, suc, ◌+◌, ◌<◌, ◌≤◌, ℤ, pos, List, [], ◌∷◌, ◌++◌, length, map, take, set, get_or, slice_get, cond, Option, Some, None, unwrap_or, option_map, All, Contains, sym, ◌∙◌, ap, refl, arith, subst, inl, inr}
use Rattle.std.specs.List.{AllZip}
use Rattle.std.proofs.lemmas.Grind.{flat_map-append}
use Rattle.std.proofs.lemmas.List.{length-map, length-append, map-append, append-nil, take_more, get_or-map, get_or-replicate, length-replicate}
use Rattle.std.proofs.lemmas.Option.{slice_get_cases}
use Rattle.std.proofs.Math.Seq.{set-append_seam}
use Rattle.aol_shape.specs.Lists.{numbers_from, numbers_below}
use Rattle.aol_shape.specs.Shape.{size, points}
use Rattle.aol_expr_tree.specs.declared.port.Port.{Port}
use Rattle.aol_expr_tree.specs.declared.value.Val.TheVariants.{Num}
use Rattle.aol_model_types.specs.declared.job.InputArray.{InputArray}
use Rattle.aol_flat.specs.Laid.{Laid, IsLaid, main_input_elements}
use Rattle.aol_flat.specs.Net.{AreMainInputs, IsInputOf, flat_inputs, opening}
use Rattle.aol_flat.specs.Tasks.{main_inputs}
use Rattle.aol_flat.specs.Place.{Element, port_elements, elements_of}
use Rattle.aol_flat.specs.Accept.{IsSound}
use Rattle.aol_flat.proofs.Totals.{length-numbers}
use Rattle.aol_assign.proofs.MainCells.{main_within}
use Rattle.aol_scatter.specs.Cells.{cell, IsHeld, AreDistinct, without, without_from}
use Rattle.aol_scatter.proofs.Places.{without_at, unlisted}
use Rattle.aol_level.specs.Puts.{kept_by, put_from}
use Rattle.aol_level.specs.declared.kept.Kept.{Kept}
use Rattle.aol_runner.specs.Run.{fresh}
use Rattle.aol_runner.specs.Through.{AreOpen, number_kept}
use Rattle.aol_runner.proofs.Opened.{points_many}

-- ---- some arrays, and one more

pub flat_next : (inputs : List InputArray) (i : ℕ) (d : InputArray) → i < length inputs → flat_inputs (take (i + 1) inputs) ≡ flat_inputs (take i inputs) ++ (get_or inputs i d).nums
flat_next inputs i d within =
    ap flat_inputs (take_more inputs i d within)
    ∙ (flat_map-append (λ (a : InputArray). a.nums) (take i inputs) (get_or inputs i d ∷ []) ∙ ap (λ ns. flat_inputs (take i inputs) ++ ns) (append-nil (get_or inputs i d).nums))

pub front_fits : (inputs : List InputArray) (i : ℕ) → length (flat_inputs (take i inputs)) ≤ length (flat_inputs inputs)
front_fits [] zero = omega arith
front_fits [] (suc i) = omega arith
front_fits (a ∷ inputs) zero = omega arith
front_fits (a ∷ inputs) (suc i) =
    let rest = front_fits inputs i in
    let front = length-append a.nums (flat_inputs (take i inputs)) in
    let all = length-append a.nums (flat_inputs inputs) in
    omega (arith, rest, front, all)

pub count_next : (inputs : List InputArray) (i : ℕ) (d : InputArray) → i < length inputs → length (flat_inputs (take (i + 1) inputs)) ≡ length (flat_inputs (take i inputs)) + length (get_or inputs i d).nums
count_next inputs i d within = ap length (flat_next inputs i d within) ∙ length-append (flat_inputs (take i inputs)) (get_or inputs i d).nums

pub next_fits : (inputs : List InputArray) (i : ℕ) (d : InputArray) → i < length inputs → length (flat_inputs (take i inputs)) + length (get_or inputs i d).nums ≤ length (flat_inputs inputs)
next_fits inputs i d within =
    let next = count_next inputs i d within in
    let fits = front_fits inputs (i + 1) in
    omega (arith, next, fits)

-- ---- puts

puts_append : (old : List Kept) (place : ℕ) (xs ys : List Kept) → put_from old place (xs ++ ys) ≡ put_from (put_from old place xs) (place + length xs) ys
puts_append old place [] ys = let e : place ≡ place + 0 = omega arith in ap (λ p. put_from old p ys) e
puts_append old place (x ∷ xs) ys =
    let e : (place + 1) + length xs ≡ place + suc (length xs) = omega arith in
    puts_append (set old place x) (place + 1) xs ys ∙ ap (λ p. put_from (put_from (set old place x) (place + 1) xs) p ys) e

length-take : {X : Type 0} (xs : List X) (i : ℕ) → i ≤ length xs → length (take i xs) ≡ i
length-take [] zero h = refl
length-take [] (suc i) h = absurd (omega (arith, h))
length-take (x ∷ xs) zero h = refl
length-take (x ∷ xs) (suc i) h = let rest = length-take xs i (omega (arith, h)) in omega (arith, rest)

-- one more number
pub number_put : (old now next : List Kept) (place x : ℕ) (nums : List ℤ) (n d : ℤ) → x < length nums → n ≡ get_or nums x d → now ≡ put_from old place (map number_kept (take x nums))
    → next ≡ set now (place + x) (number_kept n) → next ≡ put_from old place (map number_kept (take (x + 1) nums))
number_put old now next place x nums n d within is at put =
    let many : length (map number_kept (take x nums)) ≡ x = length-map (take x nums) number_kept ∙ length-take nums x (omega (arith, within)) in
    let more : map number_kept (take (x + 1) nums) ≡ map number_kept (take x nums) ++ number_kept (get_or nums x d) ∷ [] =
    ap (map number_kept) (take_more nums x d within) ∙ map-append number_kept (take x nums) (get_or nums x d ∷ []) in
    put ∙ ap (λ ks. set ks (place + x) (number_kept n)) at ∙ ap (λ m. set (put_from old place (map number_kept (take x nums))) (place + x) (number_kept m)) is
    ∙ ap (λ k. set (put_from old place (map number_kept (take x nums))) (place + k) (number_kept (get_or nums x d))) (sym many)
    ∙ sym (ap (put_from old place) more ∙ puts_append old place (map number_kept (take x nums)) (number_kept (get_or nums x d) ∷ []))

-- one more array
pub array_put : (old now next : List Kept) (place i : ℕ) (inputs : List InputArray) (nums : List ℤ) (d : InputArray) → i < length inputs → nums ≡ (get_or inputs i d).nums
    → place ≡ length (flat_inputs (take i inputs)) → now ≡ put_from old 0 (map number_kept (flat_inputs (take i inputs))) → next ≡ put_from now place (map number_kept nums)
    → next ≡ put_from old 0 (map number_kept (flat_inputs (take (i + 1) inputs)))
array_put old now next place i inputs nums d within is begins at put =
    let many : place ≡ 0 + length (map number_kept (flat_inputs (take i inputs))) = let e = length-map (flat_inputs (take i inputs)) number_kept in omega (arith, begins, e) in
    let more : map number_kept (flat_inputs (take (i + 1) inputs)) ≡ map number_kept (flat_inputs (take i inputs)) ++ map number_kept (get_or inputs i d).nums =
    ap (map number_kept) (flat_next inputs i d within) ∙ map-append number_kept (flat_inputs (take i inputs)) (get_or inputs i d).nums in
    put ∙ ap (λ ks. put_from ks place (map number_kept nums)) at
    ∙ ap (λ p. put_from (put_from old 0 (map number_kept (flat_inputs (take i inputs)))) p (map number_kept nums)) many
    ∙ ap (λ ns. put_from (put_from old 0 (map number_kept (flat_inputs (take i inputs)))) (0 + length (map number_kept (flat_inputs (take i inputs)))) (map number_kept ns)) is
    ∙ sym (ap (put_from old 0) more ∙ puts_append old 0 (map number_kept (flat_inputs (take i inputs))) (map number_kept (get_or inputs i d).nums))

-- as many puts as there are places leave what was put
puts_all : (front values xs : List Kept) → length values ≡ length xs → put_from (front ++ values) (length front) xs ≡ front ++ xs
puts_all front [] [] h = refl
puts_all front [] (x ∷ xs) h = absurd (omega (arith, h))
puts_all front (v ∷ values) [] h = absurd (omega (arith, h))
puts_all front (v ∷ values) (x ∷ xs) h =
    let longer : length front + 1 ≡ length (front ++ x ∷ []) = let e = length-append front (x ∷ []) in omega (arith, e) in
    ap (λ ks. put_from ks (length front + 1) xs) (set-append_seam front v values x ∙ sym (one_on front x values))
    ∙ (ap (λ n. put_from ((front ++ x ∷ []) ++ values) n xs) longer ∙ (puts_all (front ++ x ∷ []) values xs (omega (arith, h)) ∙ one_on front x xs))
  where
    one_on : (ys : List Kept) (y : Kept) (zs : List Kept) → (ys ++ y ∷ []) ++ zs ≡ ys ++ y ∷ zs
    one_on [] y zs = refl
    one_on (w ∷ ys) y zs = ap (λ (ks : List Kept). w ∷ ks) (one_on ys y zs)

-- ---- the first cells

numbers_or : (a n i d : ℕ) → i < n → get_or (numbers_from a n) i d ≡ a + i
numbers_or a zero i d h = absurd (omega (arith, h))
numbers_or a (suc n) zero d h = omega arith
numbers_or a (suc n) (suc i) d h = let e : (a + 1) + i ≡ a + suc i = omega arith in numbers_or (a + 1) n i d (omega (arith, h)) ∙ e

pub first_differ : (cells : List ℕ) (n : ℕ) → cells ≡ numbers_below n → AreDistinct cells
first_differ cells n is = subst AreDistinct (sym is) differ
  where
    differ : AreDistinct (numbers_below n)
    differ = λ i j d lt under e.
        let many = length-numbers 0 n in
        let here = numbers_or 0 n i d (omega (arith, lt, under, many)) in
        let there = numbers_or 0 n j d (omega (arith, under, many)) in
        omega (arith, here, there, e, lt)

fresh_at : (n c : ℕ) → c < n → cell (map Some (fresh n)) c ≡ Some (kept_by 0 (Num (pos 0)))
fresh_at n c h =
    let many : length (fresh n) ≡ n = length-replicate n (kept_by 0 (Num (pos 0))) in
    get_or-map Some (fresh n) c (kept_by 0 (Num (pos 0))) None (omega (arith, many, h)) ∙ ap (λ x. Some x) (get_or-replicate n c (kept_by 0 (Num (pos 0))) (kept_by 0 (Num (pos 0))) h)

pub fresh_held : (cells : List (Option Kept)) → cells ≡ map Some (fresh (length cells)) → (c : ℕ) → c < length cells → IsHeld cells c
fresh_held cells is c h = (kept_by 0 (Num (pos 0)), ap (λ ks. cell ks c) is ∙ fresh_at (length cells) c h)

pub first_held : (cells : List (Option Kept)) (ks : List ℕ) (n : ℕ) → cells ≡ map Some (fresh (length cells)) → ks ≡ numbers_below n → n ≤ length cells → All (λ k. IsHeld cells k) ks
first_held cells ks n is are fits = subst (λ xs. All (λ k. IsHeld cells k) xs) (sym are) held
  where
    held : All (λ k. IsHeld cells k) (numbers_below n)
    held = λ i d under.
        let many = length-numbers 0 n in
        let at : get_or (numbers_below n) i d ≡ i = let e = numbers_or 0 n i d (omega (arith, under, many)) in omega (arith, e) in
        subst (λ k. IsHeld cells k) (sym at) (fresh_held cells is i (omega (arith, under, many, fits)))

-- after all puts
module _ (inputs : List InputArray) (count : ℕ) (old rest new : List (Option Kept)) (cells : List ℕ) (values : List Kept) (is_fresh : old ≡ map Some (fresh (length old))) (are : cells ≡ numbers_below count)
    (many : count ≡ length (flat_inputs inputs)) (as_many : length values ≡ length cells) (claimed : rest ≡ without cells old)
    (put : map (λ k. cell new k) cells ≡ map Some (put_from values 0 (map number_kept (flat_inputs inputs)))) (others : (k : ℕ) → ¬ Contains cells k → cell new k ≡ cell rest k) (long : length new ≡ length old) where
  below : length (numbers_below count) ≡ count
  below = length-numbers 0 count

  whole : put_from values 0 (map number_kept (flat_inputs inputs)) ≡ map number_kept (flat_inputs inputs)
  whole =
      let length_cells : length cells ≡ count = ap length are ∙ below in
      let numbers : length (map number_kept (flat_inputs inputs)) ≡ length (flat_inputs inputs) = length-map (flat_inputs inputs) number_kept in
      puts_all [] values (map number_kept (flat_inputs inputs)) (omega (arith, as_many, length_cells, many, numbers))

  here : map (λ k. cell new k) (numbers_below count) ≡ map Some (map number_kept (flat_inputs inputs))
  here = ap (map (λ k. cell new k)) (sym are) ∙ put ∙ ap (map Some) whole

  -- a cell of an input
  input_cell : (c : ℕ) (n : ℤ) → c < length (flat_inputs inputs) → get_or (flat_inputs inputs) c n ≡ n → slice_get (flat_inputs inputs) c ≡ Some n → cell new c ≡ Some (kept_by 0 (opening inputs c))
  input_cell c n under at there =
      let number : get_or (numbers_below count) c 0 ≡ c = let e = numbers_or 0 count c 0 (omega (arith, under, many)) in omega (arith, e) in
      let numbers : length (map number_kept (flat_inputs inputs)) ≡ length (flat_inputs inputs) = length-map (flat_inputs inputs) number_kept in
      let left : get_or (map (λ k. cell new k) (numbers_below count)) c None ≡ cell new (get_or (numbers_below count) c 0) =
      get_or-map (λ k. cell new k) (numbers_below count) c 0 None (omega (arith, below, under, many)) in
      let right : get_or (map Some (map number_kept (flat_inputs inputs))) c None ≡ Some (get_or (map number_kept (flat_inputs inputs)) c (number_kept n)) =
      get_or-map Some (map number_kept (flat_inputs inputs)) c (number_kept n) None (omega (arith, numbers, under)) in
      let value : get_or (map number_kept (flat_inputs inputs)) c (number_kept n) ≡ number_kept (get_or (flat_inputs inputs) c n) = get_or-map number_kept (flat_inputs inputs) c n (number_kept n) under in
      let opened : opening inputs c ≡ Num n = ap (λ o. unwrap_or (option_map (λ z. Num z) o) (Num (pos 0))) there in
      ap (cell new) (sym number) ∙ (sym left ∙ (ap (λ ks. get_or ks c None) here ∙ (right ∙ (ap (λ x. Some x) (value ∙ ap number_kept at) ∙ ap (λ v. Some (kept_by 0 v)) (sym opened)))))

  -- another cell
  other_cell : (c : ℕ) → c < length new → length (flat_inputs inputs) ≤ c → slice_get (flat_inputs inputs) c ≡ None → cell new c ≡ Some (kept_by 0 (opening inputs c))
  other_cell c within past none =
      let opened : opening inputs c ≡ Num (pos 0) = ap (λ o. unwrap_or (option_map (λ z. Num z) o) (Num (pos 0))) none in
      let under : c < length old = omega (arith, within, long) in
      let at : cell old c ≡ Some (kept_by 0 (Num (pos 0))) = ap (λ ks. cell ks c) is_fresh ∙ fresh_at (length old) c under in
      others c out ∙ (ap (λ ks. cell ks c) claimed ∙ (without_at cells old c ∙ (ap (λ t. cond t None (cell old c)) (unlisted c cells out) ∙ (at ∙ ap (λ v. Some (kept_by 0 v)) (sym opened)))))
    where
      out : ¬ Contains cells c
      out a =
          let b : Contains (numbers_below count) c = subst (λ ks. Contains ks c) are a in
          let number = numbers_or 0 count b.0 c (omega (arith, b.1, below)) in
          omega (arith, number, b.2, b.1, below, past, many)

  pub opened : AreOpen inputs new
  opened = record {
    each = λ c within.
        elim ((slice_get_cases (flat_inputs inputs) c).1) [
          | inl a ↦ input_cell c a.0 a.1 a.3 a.2
          | inr b ↦ other_cell c within b.0 b.1
        ];
  }

-- ---- as many numbers as there are elements of the main inputs

pub port_count : (p : Port) → length (port_elements [] p) ≡ size p.shape
port_count p = let element : List ℕ → Element = λ x. record { place = []; port = p.name; index = x } in length-map (points p.shape) element ∙ points_many p.shape

inputs_count : (ports : List Port) (inputs : List InputArray) → AllZip IsInputOf ports inputs → length (flat_inputs inputs) ≡ length (elements_of [] ports)
inputs_count [] [] z = refl
inputs_count [] (a ∷ inputs) z = absurd z
inputs_count (p ∷ ports) [] z = absurd z
inputs_count (p ∷ ports) (a ∷ inputs) z =
    let rest = inputs_count ports inputs z.1 in
    let all = length-append a.nums (flat_inputs inputs) in
    let all' = length-append (port_elements [] p) (elements_of [] ports) in
    let here = port_count p in
    let many : length a.nums ≡ size p.shape = z.0.1 in
    omega (arith, rest, all, all', here, many)

pub main_count : (f : Laid) (inputs : List InputArray) → AreMainInputs f.model inputs → length (flat_inputs inputs) ≡ length (main_input_elements f.model)
main_count f inputs are = inputs_count (main_inputs f.model) inputs are

pub inputs_within : (f : Laid) (inputs : List InputArray) → IsSound f.model → IsLaid f → AreMainInputs f.model inputs → length (flat_inputs inputs) ≤ length f.cells
inputs_within f inputs sound laid are =
    let count = main_count f inputs are in
    let within = main_within f sound laid in
    omega (arith, count, within)

-- ---- the memory around it

pub length_without : (i : ℕ) (ns : List ℕ) (cells : List (Option Kept)) → length (without_from i ns cells) ≡ length cells
length_without i ns [] = refl
length_without i ns (c ∷ cells) = let rest = length_without (i + 1) ns cells in omega (arith, rest)

pub open_held : (inputs : List InputArray) (cells : List (Option Kept)) → AreOpen inputs cells → (c : ℕ) → c < length cells → IsHeld cells c
open_held inputs cells are c h = (kept_by 0 (opening inputs c), are.each c h)
