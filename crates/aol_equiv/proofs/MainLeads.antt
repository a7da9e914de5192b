-- The leads of the main inputs, after those of all instances.
use Rattle.std.proofs.Common.{◌≡◌, ℕ, zero, suc, ◌+◌, ◌-◌, ◌<◌, ◌≤◌, ◌^◌, List, [], ◌∷◌, ◌++◌, length, map, take, drop, get_or, Option, Some, None, slice_get, option_map, unwrap_or, sym, ◌∙◌, ap, refl, arith, ◌⊎◌, inl, inr, subst}
use Rattle.std.specs.Prelude.{slice_set, option_and_then}
use Rattle.std.specs.List.{IsAmong}
use Rattle.std.proofs.lemmas.List.{length-map, length-append}
use Rattle.std.proofs.lemmas.Option.{slice_get_within}
use Rattle.aol_shape.specs.Shape.{rank, size, point_at, IsPointOf}
use Rattle.aol_shape.proofs.Points.{point_at-is, rank-point_at, rank-lt-size, point_at-rank}
use Rattle.aol_expr_tree.specs.declared.port.Port.{Port}
use Rattle.aol_model_types.specs.declared.document.Model.{Model}
use Rattle.aol_model_types.specs.declared.task.Task.{Task}
use Rattle.aol_model_types.specs.declared.task.Task.TheVariants as tasks
use Rattle.aol_model_types.specs.Rules.{inputs_of}
use Rattle.aol_model_types.specs.Types.{IsTask}
use Rattle.aol_flat.specs.Tasks.{main_task, main_inputs, main_outputs}
use Rattle.aol_flat.specs.Place.{Element}
use Rattle.aol_flat.specs.Equation.{MainInput}
use Rattle.aol_flat.specs.Home.{Kept}
use Rattle.aol_flat.specs.Instance.{Instance, Run, Copy, instances, leaves, element_of_port, port_element, port_sizes, places_of_sizes, written_elements}
use Rattle.aol_flat.specs.InstanceNeed.{IsReal}
use Rattle.aol_flat.specs.Laid.{Laid, IsLaid, IsReadOf, main_input_elements}
use Rattle.aol_flat.specs.Leaves.{instances_of}
use Rattle.aol_flat.specs.Need.{Follows}
use Rattle.aol_flat.specs.Sources.{source_at}
use Rattle.aol_flat.specs.Targets.{IsSingleAssignment}
use Rattle.aol_flat.specs.Accept.{IsSound}
use Rattle.aol_flat.specs.declared.view.End.TheVariants.{Input}
use Rattle.aol_flat.specs.declared.view.Read.{Read}
use Rattle.aol_flat.specs.declared.view.Read.TheVariants.{Cell, Const}
use Rattle.aol_flat.proofs.Among.{among_get}
use Rattle.aol_flat.proofs.Checked.{task_of}
use Rattle.aol_flat.proofs.Find.{and_then_some}
use Rattle.aol_flat.proofs.Levelled.{two_sides}
use Rattle.aol_flat.proofs.Names.{slice_get-left, slice_get-right}
use Rattle.aol_flat.proofs.PathGrounded.{none_is_some}
use Rattle.aol_flat.proofs.Readings.{of_rank}
use Rattle.aol_flat.proofs.Real.{sound_is_real}
use Rattle.aol_flat.proofs.SourceCopies.{copied_found}
use Rattle.aol_flat.proofs.Sources.{followed_found}
use Rattle.aol_flat.proofs.SourceSteps.{computed_output, main_none, main_input_side}
use Rattle.aol_flat.proofs.Totals.{length-instances}
use Rattle.aol_flat_laws.proofs.Apart.{Apart}
use Rattle.aol_flat_laws.proofs.InputPaths.{home_meets}
use Rattle.aol_flat_laws.proofs.LaidHomes.{laid_cells_are_homes}
use Rattle.aol_flat_laws.proofs.OneWriter.{only_member, written_there, among_written}
use Rattle.aol_flat_laws.proofs.Ports.{DifferentNames, inputs_differ}
use Rattle.aol_assign.proofs.Fitting.{task_limits}
use Rattle.aol_assign.proofs.GivenCells.{first_cells}
use Rattle.aol_assign.proofs.MainCells.{main_within, main_ports_few}
use Rattle.aol_equiv.specs.declared.leads.Lead.{Lead}
use Rattle.aol_equiv.specs.declared.leads.Lead.TheVariants.{Ends, Copies, Nowhere}
use Rattle.aol_equiv.specs.Leads.{lead_of}
use Rattle.aol_equiv.specs.Resolved.{AreWithin}
use Rattle.aol_equiv.specs.Table.{IsLeadOf, IsFilled, IsGivenCell, HasLeads, AreLeads, given_at}
use Rattle.aol_equiv.proofs.Ended.{at_rank, ranked_there, ends_here, main_home, output_at}
use Rattle.aol_equiv.proofs.Filling.{map_get, placed, place_there, one_place, spot_count}

-- ---- lists

-- one lead more in front
pub given_more : (spots : List (ℕ × ℕ)) (old : List Lead) (n : ℕ) (p : ℕ × ℕ) → n < length spots → n < length old → p ≡ get_or spots n p → slice_set (map given_at (take n spots) ++ drop n old) n (given_at p) ≡ map given_at (take (n + 1) spots) ++ drop (n + 1) old
given_more [] old n p lt lt' is = absurd (omega (arith, lt))
given_more (s ∷ spots) [] n p lt lt' is = absurd (omega (arith, lt'))
given_more (s ∷ spots) (o ∷ old) zero p lt lt' is =
    let one : 0 + 1 ≡ suc 0 = omega arith in
    ap (λ q. given_at q ∷ old) is ∙ ap (λ n. map given_at (take n (s ∷ spots)) ++ drop n (o ∷ old)) (sym one)
given_more (s ∷ spots) (o ∷ old) (suc n) p lt lt' is =
    let one : suc n + 1 ≡ suc (n + 1) = omega arith in
    ap (λ xs. given_at s ∷ xs) (given_more spots old n p (omega (arith, lt)) (omega (arith, lt')) is) ∙ ap (λ n. map given_at (take n (s ∷ spots)) ++ drop n (o ∷ old)) (sym one)

pub own_spot : (spots : List (ℕ × ℕ)) (n : ℕ) (d : ℕ × ℕ) → n < length spots → get_or spots n d ≡ get_or spots n (get_or spots n d)
own_spot [] n d lt = absurd (omega (arith, lt))
own_spot (s ∷ spots) zero d lt = refl
own_spot (s ∷ spots) (suc n) d lt = own_spot spots n d (omega (arith, lt))

dropped : (xs : List Lead) (n j : ℕ) → slice_get (drop n xs) j ≡ slice_get xs (n + j)
dropped xs zero j = let e : j ≡ 0 + j = omega arith in ap (slice_get xs) e
dropped [] (suc n) j = no_more (suc n + j)
  where
    no_more : (k : ℕ) → ◌≡◌ {A = Option Lead} None (slice_get [] k)
    no_more k = refl
dropped (x ∷ xs) (suc n) j = let e : suc (n + j) ≡ suc n + j = omega arith in dropped xs n j ∙ ap (slice_get (x ∷ xs)) e

in_front : {X : Type 0} (xs ys : List X) (c : ℕ) (h : X) → c < length xs → slice_get (xs ++ ys) c ≡ Some h → slice_get xs c ≡ Some h
in_front [] ys c h lt e = absurd (omega (arith, lt))
in_front (x ∷ xs) ys zero h lt e = e
in_front (x ∷ xs) ys (suc c) h lt e = in_front xs ys c h (omega (arith, lt)) e

there_at : {X : Type 0} (xs : List X) (k : ℕ) → k < length xs → (x : X) × (slice_get xs k ≡ Some x)
there_at [] k lt = absurd (omega (arith, lt))
there_at (x ∷ xs) zero lt = (x, refl)
there_at (x ∷ xs) (suc k) lt = there_at xs k (omega (arith, lt))

-- ---- the main inputs

pub inputs_few : (t : Task) → IsTask t → length (inputs_of t) < 2 ^ 32
inputs_few (tasks.Elementary e) h = h.in_count
inputs_few (tasks.Compound c) h = h.in_count
inputs_few (tasks.Repeated t) h = h.in_count

pub main_inputs_few : (m : Model) → IsSound m → length (main_inputs m) < 2 ^ 32
main_inputs_few m sound = go (main_task m) refl
  where
    go : (o : Option Task) → main_task m ≡ o → length (unwrap_or (option_map inputs_of o) []) < 2 ^ 32
    go None h = omega arith
    go (Some t) h = inputs_few t (task_limits m sound t (task_of m t m.main sound.shapes h))

main_inputs_differ : (m : Model) → IsSound m → Apart DifferentNames (main_inputs m)
main_inputs_differ m sound = go (main_task m) refl
  where
    go : (o : Option Task) → main_task m ≡ o → Apart DifferentNames (unwrap_or (option_map inputs_of o) [])
    go None h = tt
    go (Some t) h = let r = task_of m t m.main sound.shapes h in inputs_differ r.before r.place t r.holds

-- a main input by port and rank
record IsInputAt (m : Model) (k x : ℕ) (e : Element) : Type 0 where
  input : MainInput m e
  port : input.number ≡ k
  ranked : rank input.port.shape e.index ≡ x

input_at : (m : Model) (k x : ℕ) (e : Element) → port_element [] (main_inputs m) k x ≡ Some e → IsInputAt m k x e
input_at m k x e h = go (main_task m) refl h
  where
    go : (o : Option Task) → main_task m ≡ o → port_element [] (unwrap_or (option_map inputs_of o) []) k x ≡ Some e → IsInputAt m k x e
    go None at g = cc
    go (Some t) at g =
        let port = and_then_some (element_of_port [] x) (slice_get (inputs_of t) k) e g in
        let is = at_rank [] x port.0 e port.2 in
        let index : e.index ≡ point_at port.0.shape x = ap (λ (y : Element). y.index) is.1 in
        let P : List ℕ → Type 0 = λ i. IsPointOf port.0.shape i in
        record {
          input = record {
            is_main = ap (λ (y : Element). y.place) is.1;
            task = t;
            at_place = at;
            number = k;
            port = port.0;
            listed = port.1;
            named = ap (λ (y : Element). y.port) is.1;
            inside = subst P (sym index) (point_at-is port.0.shape x is.0);
          };
          port = refl;
          ranked = ap (rank port.0.shape) index ∙ rank-point_at port.0.shape x is.0;
        }

input_found : (m : Model) (e : Element) (a : MainInput m e) → port_element [] (main_inputs m) a.number (rank a.port.shape e.index) ≡ Some e
input_found m e a =
    let x = rank a.port.shape e.index in
    ap (λ o. port_element [] (unwrap_or (option_map inputs_of o) []) a.number x) a.at_place
    ∙ (ap (option_and_then (element_of_port [] x)) a.listed
    ∙ (ranked_there [] a.port x (rank-lt-size a.port.shape e.index a.inside)
    ∙ (ap (λ (i : List ℕ). Some (record { place = []; port = a.port.name; index = i })) (point_at-rank a.port.shape e.index a.inside)
    ∙ (ap (λ (n : List ℕ). Some (record { place = []; port = n; index = e.index })) (sym a.named)
    ∙ ap (λ (y : _). Some (record { place = y; port = e.port; index = e.index })) (sym a.is_main)))))

module _ (f : Laid) (sound : IsSound f.model) (laid : IsLaid f) (single : IsSingleAssignment f.model) where
  abbrev m : Model
  m = f.model

  -- the main input in one of the first cells
  record IsFirst (c : ℕ) : Type 0 where
    element : Element
    at : slice_get (main_input_elements m) c ≡ Some element
    in_cell : slice_get f.cells c ≡ Some element
    spot : ℕ × ℕ
    has : slice_get (places_of_sizes 0 (port_sizes (main_inputs m))) c ≡ Some spot
    is : IsInputAt m spot.0 spot.1 element

  first : (c : ℕ) → c < length (main_input_elements m) → IsFirst c
  first c lt =
      let e = there_at (main_input_elements m) c lt in
      let p = place_there [] (main_inputs m) c e.0 e.1 in
      record {
        element = e.0;
        at = e.1;
        in_cell = ap (λ cells. slice_get cells c) (first_cells f sound laid) ∙ slice_get-left (main_input_elements m) _ c e.0 e.1;
        spot = p.0;
        has = p.1;
        is = input_at m p.0.0 p.0.1 e.0 (placed [] (main_inputs m) c p.0 e.0 p.1 e.1);
      }

  -- no instance writes into a main input
  not_main : (e q : Element) → MainInput m e → (i : Instance) → IsReal m i → IsAmong (written_elements m i) e → ⊥
  not_main e q a (Run place) real w =
      let k = among_written m (Run place) e real w in
      two_sides m e (main_input_side m sound e a) (computed_output m sound e (output_at m place real k.0 k.1 e k.2).output)
  not_main e q a (Copy place k r s) real w =
      let P : List Element → Type 0 = λ es. IsAmong es e in
      let target : e ≡ real.0 = only_member real.0 e (subst P real.3 w) in
      none_is_some (source_at m e) real.1 (main_none m sound e a) (ap (source_at m) target ∙ copied_found m sound single real.0 real.1 real.2)

  filled_after : (c j : ℕ) (lead : Lead) → IsFilled f j c lead → c < length (main_input_elements m) → ⊥
  filled_after c j lead w lt =
      let x = first c lt in
      let real = sound_is_real m sound j w.instance w.at in
      let there = written_there m sound single w.instance real w.element w.written in
      let both : Some w.in_cell.home ≡ Some x.element = sym w.in_cell.at_cell ∙ x.in_cell in
      let home : w.in_cell.home ≡ x.element = cc in
      let meet = home_meets m sound single w.element x.element there.0 (w.in_cell.is_home ∙ ap Kept home) in
      let none : (r : Element) → Follows m x.element r → ⊥ = λ r g. none_is_some (source_at m x.element) r (main_none m sound x.element x.is.input) (followed_found m sound single x.element r g) in
      let one : w.element ≡ x.element = sym (ends_here m w.element meet.at there.1 meet.down) ∙ ends_here m x.element meet.at none meet.from_home in
      let P : Element → Type 0 = λ y. IsAmong (written_elements m w.instance) y in
      not_main x.element x.element x.is.input w.instance real (subst P one w.written)

  -- the cell of a main input
  given_first : (c : ℕ) (lead : Lead) (g : IsGivenCell f c lead) → (c < length (main_input_elements m)) × (slice_get (places_of_sizes 0 (port_sizes (main_inputs m))) c ≡ Some (g.input.number, rank g.input.port.shape g.element.index))
  given_first c lead g =
      let spot : ℕ × ℕ = (g.input.number, rank g.input.port.shape g.element.index) in
      let found = input_found m g.element g.input in
      let a = of_rank [] (main_inputs m) g.input.number (rank g.input.port.shape g.element.index) g.element found in
      let at = among_get (main_input_elements m) a.0 g.element a.1.0 a.1.1 in
      let x = first a.0 a.1.0 in
      let homes : Kept g.in_cell.home ≡ Kept g.element = sym g.in_cell.is_home ∙ main_home m sound single g.element g.input in
      let home : g.in_cell.home ≡ g.element = cc in
      let firsts : Some x.element ≡ Some g.element = sym x.at ∙ at in
      let same_element : x.element ≡ g.element = cc in
      let number : a.0 ≡ c = (laid_cells_are_homes f sound.shapes laid).once a.0 c g.element (x.in_cell ∙ ap Some same_element) (g.in_cell.at_cell ∙ ap Some home) in
      let p = place_there [] (main_inputs m) a.0 g.element at in
      let there = placed [] (main_inputs m) a.0 p.0 g.element p.1 at in
      let one = one_place [] (main_inputs m) (main_inputs_differ m sound) p.0.0 p.0.1 g.input.number (rank g.input.port.shape g.element.index) g.element there found in
      let Q : ℕ → Type 0 = λ n. slice_get (places_of_sizes 0 (port_sizes (main_inputs m))) n ≡ Some spot in
      let pair_at : ℕ → ℕ → Option (ℕ × ℕ) = λ n k. Some (n, k) in (
        omega (arith, a.1.0, number),
        subst Q number (p.1 ∙ (ap (λ n. pair_at n p.0.1) one.0 ∙ ap (pair_at g.input.number) one.1)),
      )

  module _ (spots : List (ℕ × ℕ)) (are : spots ≡ places_of_sizes 0 (port_sizes (main_inputs m))) where
    pub input_count : length spots ≡ length (main_input_elements m)
    input_count = ap length are ∙ spot_count [] (main_inputs m)

    pub inputs_within : (leads : List Lead) → length leads ≡ length f.cells → length spots ≤ length leads
    inputs_within leads many = omega (arith, many, input_count, main_within f sound laid)

    module _ (before : List Lead) (has : HasLeads f (instances_of (leaves m)) before) where
      abbrev after : List Lead
      after = map given_at spots ++ drop (length spots) before

      spot_there : (c : ℕ) (p : ℕ × ℕ) → slice_get spots c ≡ Some p → slice_get (map given_at spots ++ drop (length spots) before) c ≡ Some (given_at p)
      spot_there c p h = slice_get-left (map given_at spots) (drop (length spots) before) c (given_at p) (map_get given_at spots c p h)

      behind : (c : ℕ) → length spots ≤ c → slice_get (map given_at spots ++ drop (length spots) before) c ≡ slice_get before c
      behind c ge =
          let many : length (map given_at spots) ≡ length spots = length-map spots given_at in
          let e : c ≡ length (map given_at spots) + (c - length spots) = omega (arith, many, ge) in
          let e' : length spots + (c - length spots) ≡ c = omega (arith, ge) in
          ap (slice_get (map given_at spots ++ drop (length spots) before)) e
          ∙ (slice_get-right (map given_at spots) (drop (length spots) before) (c - length spots)
          ∙ (dropped before (length spots) (c - length spots) ∙ ap (slice_get before) e'))

      low_or_high : (c : ℕ) → (c < length spots) ⊎ (length spots ≤ c)
      low_or_high c = grind arith

      pub all_led : AreLeads f (map given_at spots ++ drop (length spots) before)
      all_led = record {
        many = many;
        some = λ c j lead w. some c j lead w (low_or_high c);
        given = λ c lead g.
            let k = given_first c lead g in
            spot_there c (g.input.number, rank g.input.port.shape g.element.index) (ap (λ ps. slice_get ps c) are ∙ k.1) ∙ ap Some (sym g.is);
        back = λ c lead h. back c lead h (low_or_high c);
        reads = λ j place k r s lt at q a. has.reads j place k r s (omega (arith, lt, length-instances m)) at q a;
      }
        where
          many : length (map given_at spots ++ drop (length spots) before) ≡ length f.cells
          many =
              let front : length (map given_at spots) ≡ length spots = length-map spots given_at in
              let rest : length (drop (length spots) before) + length spots ≡ length before = drop_length before (length spots) (inputs_within before has.many) in
              omega (arith, front, rest, has.many, length-append (map given_at spots) (drop (length spots) before))
            where
              drop_length : (xs : List Lead) (n : ℕ) → n ≤ length xs → length (drop n xs) + n ≡ length xs
              drop_length xs zero le = omega arith
              drop_length [] (suc n) le = absurd (omega (arith, le))
              drop_length (x ∷ xs) (suc n) le = let r = drop_length xs n (omega (arith, le)) in omega (arith, r)

          some : (c j : ℕ) (lead : Lead) → IsFilled f j c lead → (c < length spots) ⊎ (length spots ≤ c) → slice_get (map given_at spots ++ drop (length spots) before) c ≡ Some lead
          some c j lead w (inl lt) = absurd (filled_after c j lead w (omega (arith, lt, input_count)))
          some c j lead w (inr ge) =
              let under = slice_get_within (instances m) j w.instance w.at in
              behind c ge ∙ has.some c j lead (omega (arith, under, length-instances m)) w

          back : (c : ℕ) (lead : Lead) → slice_get (map given_at spots ++ drop (length spots) before) c ≡ Some lead → (c < length spots) ⊎ (length spots ≤ c) → (lead ≡ Nowhere) ⊎ (IsGivenCell f c lead ⊎ ((j : ℕ) × IsFilled f j c lead))
          back c lead h (inr ge) = elim (has.back c lead (sym (behind c ge) ∙ h)) [ inl e ↦ inl e | inr w ↦ inr (inr (w.0, w.2)) ]
          back c lead h (inl lt) =
              let x = first c (omega (arith, lt, input_count)) in
              let both : Some (given_at x.spot) ≡ Some lead = sym (spot_there c x.spot (ap (λ ps. slice_get ps c) are ∙ x.has)) ∙ h in
              let one : given_at x.spot ≡ lead = cc in
              let as_input : ℕ → ℕ → Lead = λ a b. Ends (Input a b) in
              inr (inl (record {
                element = x.element;
                input = x.is.input;
                in_cell = record { home = x.element; is_home = main_home m sound single x.element x.is.input; at_cell = x.in_cell };
                is = sym one ∙ (ap (λ a. as_input a x.spot.1) (sym x.is.port) ∙ ap (as_input x.is.input.number) (sym x.is.ranked));
              }))

-- the cells that are copied are there
pub led_within : (f : Laid) (leads : List Lead) → AreLeads f leads → AreWithin leads
led_within f leads a c d h = go (a.back c (Copies d) h)
  where
    by_instance : (j : ℕ) (i : Instance) (w : Element) → IsLeadOf f j i w (Copies d) → d < length leads
    by_instance j (Run place) w lead = cc
    by_instance j (Copy place k s t) w lead = by_read lead.1 lead.3 lead.4
      where
        by_read : (read : Read) → IsReadOf f lead.0 read → Copies d ≡ lead_of read → d < length leads
        by_read (Const n) home eq = cc
        by_read (Cell x) home eq =
            let one : x ≡ d = cc in
            let lt = slice_get_within f.cells x home.home home.at_cell in
            omega (arith, lt, one, a.many)

    go : (Copies d ≡ Nowhere) ⊎ (IsGivenCell f c (Copies d) ⊎ ((j : ℕ) × IsFilled f j c (Copies d))) → d < length leads
    go (inl none) = cc
    go (inr (inl g)) = let none : Copies d ≡ Ends (Input g.input.number (rank g.input.port.shape g.element.index)) = g.is in cc
    go (inr (inr w)) = by_instance w.0 w.1.instance w.1.element w.1.is

-- where nothing is known
pub none_led : (f : Laid) (leads : List Lead) → length leads ≡ length f.cells → ((c : ℕ) (lead : Lead) → slice_get leads c ≡ Some lead → lead ≡ Nowhere) → HasLeads f 0 leads
none_led f leads many nowhere = record {
  many = many;
  some = λ c j lead lt w. absurd (omega (arith, lt));
  back = λ c lead h. inl (nowhere c lead h);
  reads = λ j place k r s lt at q a. absurd (omega (arith, lt));
}

pub main_outputs_few : (m : Model) → IsSound m → length (main_outputs m) < 2 ^ 32
main_outputs_few m sound = omega (arith, main_ports_few m sound, length-map (main_outputs m) (λ (p : Port). size p.shape))
