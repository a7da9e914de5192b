-- The opening memory holds the given numbers at the cells of the main inputs.
use Rattle.std.proofs.Common.{◌≡◌, ℕ, zero, suc, ◌+◌, ◌<◌, ℤ, pos, Bool, true, false, cond, List, [], ◌∷◌, ◌++◌, length, find, Option, Some, None, slice_get, unwrap_or, option_map, sym, ◌∙◌, ap, refl, arith, subst}
use Rattle.std.specs.List.{IsAmong, AllZip, AllByRecursion}
use Rattle.std.proofs.lemmas.List.{length-map}
use Rattle.aol_shape.specs.Lists.{same, numbers_from, numbers_below}
use Rattle.aol_shape.specs.Shape.{size, rank, point_at, points, IsPointOf}
use Rattle.aol_shape.proofs.Points.{rank-lt-size, point_at-rank}
use Rattle.aol_expr_tree.specs.declared.port.Port.{Port}
use Rattle.aol_expr_tree.specs.declared.value.Val.TheVariants.{Num}
use Rattle.aol_model_types.specs.declared.document.Model.{Model}
use Rattle.aol_model_types.specs.declared.job.InputArray.{InputArray}
use Rattle.aol_model_types.specs.declared.task.Task.{Task}
use Rattle.aol_model_types.specs.Rules.{ShapesAgree, inputs_of, port_shape}
use Rattle.aol_flat.specs.Tasks.{main_task, main_inputs}
use Rattle.aol_flat.specs.Place.{Element, port_elements, elements_of}
use Rattle.aol_flat.specs.Inputs.{numbers_named, IsGivenFor, InputsFit}
use Rattle.aol_flat.specs.Home.{Kept, home_of, origin, origin_home}
use Rattle.aol_flat.specs.Laid.{Laid, AreHomes, main_input_elements, main_output_elements}
use Rattle.aol_flat.specs.Accept.{IsSound}
use Rattle.aol_flat.specs.Net.{IsInputOf, AreMainInputs, flat_inputs, opening}
use Rattle.aol_flat.proofs.Agree.{IsAmong-tail}
use Rattle.aol_flat.proofs.Among.{get_among}
use Rattle.aol_flat.proofs.LinkSides.{task_there}
use Rattle.aol_flat.proofs.Names.{same-self, same-equal, slice_get-left, slice_get-right}
use Rattle.aol_flat.proofs.Shapes.{input_own}
use Rattle.aol_flat.proofs.SourceSteps.{main_input_side}
use Rattle.aol_runner.specs.Held.{OpeningHolds}
use Rattle.aol_runner.proofs.Aligned.{some_injective, get_map}
use Rattle.aol_runner.proofs.Held.{kept_injective, input_home}

-- ---- points by rank

pub numbers_get : (a n i : ℕ) → i < n → slice_get (numbers_from a n) i ≡ Some (a + i)
numbers_get a zero i h = absurd (omega (arith, h))
numbers_get a (suc n) zero h = let e : a ≡ a + 0 = omega arith in ap Some e
numbers_get a (suc n) (suc i) h = let e : (a + 1) + i ≡ a + suc i = omega arith in numbers_get (a + 1) n i (omega (arith, h)) ∙ ap Some e

numbers_many : (a n : ℕ) → length (numbers_from a n) ≡ n
numbers_many a zero = refl
numbers_many a (suc n) = let rest : length (numbers_from (a + 1) n) ≡ n = numbers_many (a + 1) n in omega (arith, rest)

point_get : (shape x : List ℕ) → IsPointOf shape x → slice_get (points shape) (rank shape x) ≡ Some x
point_get shape x inside =
    get_map (point_at shape) (numbers_below (size shape)) (rank shape x) (0 + rank shape x) (numbers_get 0 (size shape) (rank shape x) (rank-lt-size shape x inside))
    ∙ ap Some (let e : 0 + rank shape x ≡ rank shape x = omega arith in ap (point_at shape) e ∙ point_at-rank shape x inside)

pub points_many : (shape : List ℕ) → length (points shape) ≡ size shape
points_many shape = length-map (numbers_below (size shape)) (point_at shape) ∙ numbers_many 0 (size shape)

-- ---- the arrays of some ports

all_from : {X : Type 0} (P : X → Type 0) (xs : List X) → ((x : X) → IsAmong xs x → P x) → AllByRecursion P xs
all_from P [] h = tt
all_from P (x ∷ xs) h = (h x (0, (omega arith, refl)), all_from P xs (λ y a. h y (IsAmong-tail x xs y a)))

-- the ports of this name have this shape
abbrev HaveShape : List Port → List ℕ → List ℕ → Type 0
HaveShape ports name shape = (q : Port) → IsAmong ports q → q.name ≡ name → q.shape ≡ shape

-- the numbers of the first array, or of the first among the rest
named_first : InputArray → List InputArray → List ℕ → Bool → List ℤ
named_first a inputs name b = unwrap_or (option_map (λ (x : InputArray). x.nums) (cond b (Some a) (find (λ (x : InputArray). same x.name name) inputs))) []

-- as many numbers as the shape has points
named_many : (ports : List Port) (inputs : List InputArray) (name shape : List ℕ) → AllZip IsInputOf ports inputs → HaveShape ports name shape → (p : Port) → IsAmong ports p → p.name ≡ name
    → length (numbers_named inputs name) ≡ size shape
unfolding named_first
named_many [] inputs name shape zip shapes p listed named = absurd (omega (arith, listed.1.0))
named_many (q ∷ ports) [] name shape zip shapes p listed named = absurd zip
named_many (q ∷ ports) (a ∷ inputs) name shape zip shapes p listed named =
    go (same a.name name) refl listed (λ b. named_many ports inputs name shape zip.1 (λ r c. shapes r (IsAmong-tail q ports r c)) p b named)
  where
    go : (b : Bool) → same a.name name ≡ b → IsAmong (q ∷ ports) p → (IsAmong ports p → length (numbers_named inputs name) ≡ size shape) → length (named_first a inputs name (same a.name name)) ≡ size shape
    go true e l rest =
        let here : q.name ≡ name = sym zip.0.0 ∙ same-equal a.name name e in
        let equal : q.shape ≡ shape = shapes q (0, (omega arith, refl)) here in
        ap (λ b. length (named_first a inputs name b)) e ∙ (zip.0.1 ∙ ap size equal)
    go false e (zero, l) rest =
        let here : a.name ≡ name = zip.0.0 ∙ (ap (λ (r : Port). r.name) (sym l.1) ∙ named) in
        let no : true ≡ false = sym (ap (λ n. same n name) here ∙ same-self name) ∙ e in
        cc
    go false e (suc i, l) rest = ap (λ b. length (named_first a inputs name b)) e ∙ rest (i, (omega (arith, l.0), l.1))

-- the place of an element of these ports, and the number that is given for it there
number_at : (ports : List Port) (inputs : List InputArray) (name shape x : List ℕ) (n : ℤ) → AllZip IsInputOf ports inputs → HaveShape ports name shape → IsPointOf shape x
    → slice_get (numbers_named inputs name) (rank shape x) ≡ Some n
    → (k : ℕ) × (slice_get (elements_of [] ports) k ≡ Some (record { place = []; port = name; index = x })) × (slice_get (flat_inputs inputs) k ≡ Some n)
unfolding named_first
number_at [] [] name shape x n zip shapes inside at = cc
number_at [] (a ∷ inputs) name shape x n zip shapes inside at = absurd zip
number_at (q ∷ ports) [] name shape x n zip shapes inside at = absurd zip
number_at (q ∷ ports) (a ∷ inputs) name shape x n zip shapes inside at =
    go (same a.name name) refl (λ h. number_at ports inputs name shape x n zip.1 (λ r c. shapes r (IsAmong-tail q ports r c)) inside h)
  where
    go : (b : Bool) → same a.name name ≡ b
        → (slice_get (numbers_named inputs name) (rank shape x) ≡ Some n → (k : ℕ) × (slice_get (elements_of [] ports) k ≡ Some (record { place = []; port = name; index = x })) × (slice_get (flat_inputs inputs) k ≡ Some n))
        → (k : ℕ) × (slice_get (elements_of [] (q ∷ ports)) k ≡ Some (record { place = []; port = name; index = x })) × (slice_get (flat_inputs (a ∷ inputs)) k ≡ Some n)
    go true e rest =
        let here : q.name ≡ name = sym zip.0.0 ∙ same-equal a.name name e in
        let equal : q.shape ≡ shape = shapes q (0, (omega arith, refl)) here in
        let point : slice_get (points q.shape) (rank shape x) ≡ Some x = ap (λ s. slice_get (points s) (rank shape x)) equal ∙ point_get shape x inside in
        let made : List ℕ → Element = λ i. record { place = []; port = q.name; index = i } in
        let number : slice_get a.nums (rank shape x) ≡ Some n = sym (ap (λ b. slice_get (named_first a inputs name b) (rank shape x)) e) ∙ at in (
          rank shape x,
          slice_get-left (port_elements [] q) (elements_of [] ports) (rank shape x) (made x) (get_map made (points q.shape) (rank shape x) x point)
              ∙ ap (λ (m : List ℕ). Some (record { place = []; port = m; index = x })) here,
          slice_get-left a.nums (flat_inputs inputs) (rank shape x) n number,
        )
    go false e rest =
        let later = rest (sym (ap (λ b. slice_get (named_first a inputs name b) (rank shape x)) e) ∙ at) in
        let made : List ℕ → Element = λ i. record { place = []; port = q.name; index = i } in
        let many : length (port_elements [] q) ≡ size q.shape = length-map (points q.shape) made ∙ points_many q.shape in (
          size q.shape + later.0,
          ap (λ i. slice_get (port_elements [] q ++ elements_of [] ports) (i + later.0)) (sym many)
              ∙ (slice_get-right (port_elements [] q) (elements_of [] ports) later.0 ∙ later.1),
          ap (λ i. slice_get (a.nums ++ flat_inputs inputs) (i + later.0)) (sym zip.0.1)
              ∙ (slice_get-right a.nums (flat_inputs inputs) later.0 ∙ later.2),
        )

-- ---- a model's main inputs

-- the main inputs of one name have one shape
one_shape : (m : Model) → ShapesAgree m → (t : Task) → main_task m ≡ Some t → (p : Port) → IsAmong (inputs_of t) p → HaveShape (inputs_of t) p.name p.shape
one_shape m agree t main p listed q also named =
    let r = task_there m agree [] t main in
    some_injective q.shape p.shape (sym (input_own r.before r.place t q r.holds also) ∙ (ap (λ n. port_shape (inputs_of t) n) named ∙ input_own r.before r.place t p r.holds listed))

main_ports : (m : Model) (t : Task) → main_task m ≡ Some t → main_inputs m ≡ inputs_of t
main_ports m t main = ap (λ o. unwrap_or (option_map inputs_of o) []) main

pub inputs_fit : (m : Model) (inputs : List InputArray) → ShapesAgree m → AreMainInputs m inputs → InputsFit m inputs
inputs_fit m inputs agree are = all_from (IsGivenFor inputs) (main_inputs m) (λ p a. go (main_task m) refl p a)
  where
    go : (o : Option Task) → main_task m ≡ o → (p : Port) → IsAmong (unwrap_or (option_map inputs_of o) []) p → IsGivenFor inputs p
    go None e p a = absurd (omega (arith, a.1.0))
    go (Some t) e p a =
        let P : List Port → Type 0 = λ ps. AllZip IsInputOf ps inputs in
        named_many (inputs_of t) inputs p.name p.shape (subst P (main_ports m t e) are) (one_shape m agree t e p a) p a refl

pub opening_holds : (f : Laid) (inputs : List InputArray) → IsSound f.model → AreHomes f → AreMainInputs f.model inputs → OpeningHolds f inputs
opening_holds f inputs sound homes are p a c cell n given =
    let P : List Port → Type 0 = λ ps. AllZip IsInputOf ps inputs in
    let ports : main_inputs f.model ≡ inputs_of a.task = main_ports f.model a.task a.at_place in
    let listed : IsAmong (inputs_of a.task) a.port = get_among (inputs_of a.task) a.number a.port a.listed in
    let shapes : HaveShape (inputs_of a.task) p.port a.port.shape = λ q b named. one_shape f.model sound.shapes a.task a.at_place a.port listed q b (named ∙ a.named) in
    let k = number_at (inputs_of a.task) inputs p.port a.port.shape p.index n (subst P ports are) shapes a.inside given in
    let there : slice_get (main_input_elements f.model) k.0 ≡ Some (record { place = []; port = p.port; index = p.index }) = ap (λ ps. slice_get (elements_of [] ps) k.0) ports ∙ k.1 in
    let e : Element = record { place = []; port = p.port; index = p.index } in
    let both : slice_get (main_input_elements f.model ++ main_output_elements f.model) k.0 ≡ Some e = slice_get-left (main_input_elements f.model) (main_output_elements f.model) k.0 e there in
    let at : slice_get f.cells k.0 ≡ Some e =
    ap (λ es. slice_get es k.0) homes.order ∙ slice_get-left (main_input_elements f.model ++ main_output_elements f.model) homes.rest k.0 e both in
    let home : home_of f.model p ≡ Kept e = input_home f p (main_input_side f.model sound p a) ∙ ap (λ place. origin_home f.model (origin f.model place p.port p.index)) a.is_main in
    let same_home : cell.home ≡ e = kept_injective cell.home e (sym cell.is_home ∙ home) in
    let number : c ≡ k.0 = homes.once c k.0 e (cell.at_cell ∙ ap Some same_home) at in
    ap (λ d. opening inputs d) number ∙ ap (λ o. unwrap_or (option_map (λ z. Num z) o) (Num (pos 0))) k.2
