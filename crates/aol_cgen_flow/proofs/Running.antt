-- The whole run of a program whose steps are right ends with the values of every solution.
use Rattle.std.proofs.Common.{◌≡◌, ℕ, zero, suc, ◌+◌, ◌-◌, ◌<◌, ◌≤◌, ◌^◌, ℤ, pos, true, List, [], ◌∷◌, ◌++◌, length, Some, slice_get, option_map, unwrap_or, refl, sym, ◌∙◌, ap, subst, arith, ◌⊎◌, inl, inr}
use Rattle.std.specs.Prelude.{replicate}
use Rattle.std.specs.List.{IsAmong}
use Rattle.std.proofs.lemmas.List.{length-append, length-replicate}
use Rattle.aol_shape.specs.Numbers.{fits_64}
use Rattle.aol_expr_tree.specs.declared.value.Val.{Val}
use Rattle.aol_expr_tree.specs.declared.value.Val.TheVariants.{Num, Bad}
use Rattle.aol_model_types.specs.declared.document.Model.{Model}
use Rattle.aol_model_types.specs.declared.job.InputArray.{InputArray}
use Rattle.aol_allocate.specs.Placement.{IsPlacement}
use Rattle.aol_flat.specs.Accept.{IsAccepted, IsFlat}
use Rattle.aol_flat.specs.Equation.{Valuation, IsSolution}
use Rattle.aol_flat.specs.InstanceNeed.{AreLevelsOf, level_count}
use Rattle.aol_flat.specs.Laid.{Laid, IsCellOf, main_input_elements}
use Rattle.aol_flat.specs.Net.{Net, IsNetOf, Memory, IsWritten, AreMainInputs, flat_inputs, opening}
use Rattle.aol_flat.specs.Place.{Element}
use Rattle.aol_flat.specs.Reads.{IsRead}
use Rattle.aol_flat.proofs.Among.{among_flat_map, get_among}
use Rattle.aol_csyn.specs.Meaning.{Arrays, AreOrders}
use Rattle.aol_csyn.specs.Tree.{Program}
use Rattle.aol_cinstance.proofs.Lists.{get_below, get_before}
use Rattle.aol_runner.specs.Schedule.{SettledOver}
use Rattle.aol_runner.proofs.Exists.{settled_memory_exists}
use Rattle.aol_runner.proofs.FirstCells.{inputs_within, main_count}
use Rattle.aol_runner.proofs.Nets.{net_exists}
use Rattle.aol_runner.proofs.Values.{read_values_are_held}
use Rattle.aol_runner.proofs.Writers.{nets_are_levelled, nets_have_writers}
use Rattle.aol_cgen_laws.specs.Emitted.{Holds, SameAt, AreInputs, AreWords, opening_arrays, IsEmitted, AreShared, RunIsRight}
use Rattle.aol_cgen_laws.proofs.Whole.{emitted_is_right}
use Rattle.aol_cgen_flow.specs.Runs.{EmittedRunsAreRight, ProgramOf, RunHolds}
use Rattle.aol_cgen_flow.proofs.Below.{shared, source_of}

-- ---- lists

replicate_get : (n k : ℕ) (z : ℤ) → k < n → slice_get (replicate n z) k ≡ Some z
replicate_get zero k z h = absurd (omega (arith, h))
replicate_get (suc n) zero z h = refl
replicate_get (suc n) (suc k) z h = replicate_get n k z (omega (arith, h))

-- ---- values

number_holds : (m : Model) (a : Arrays) (c : ℕ) (x : Val) (n : ℤ) → x ≡ Num n → slice_get a.0 c ≡ Some n → slice_get a.1 c ≡ Some (pos 0) → Holds m a c x
number_holds m a c x n e v f = subst (Holds m a c) (sym e) (v, f)

still_holds : (m : Model) (a b : Arrays) (c : ℕ) (x : Val) → SameAt a b c → Holds m a c x → Holds m b c x
still_holds m a b c (Num n) same h = (same.0 ∙ h.0, same.1 ∙ h.1)
still_holds m a b c (Bad s) same h = (same.0 ∙ h.0, same.1 ∙ h.1)

module _ (f : Laid) (levels workers : List ℕ) (count : ℕ) (p : Program) (flat : IsFlat f) (accepted : IsAccepted f.model) (are : AreLevelsOf f.model levels) (placed : IsPlacement f.model workers count)
    (emitted : ProgramOf f levels workers count p) (inputs : List InputArray) (main : AreMainInputs f.model inputs) (words : AreWords inputs) (orders : List (List ℕ)) (right : AreOrders p orders) (net : Net) (is_net : IsNetOf f net) where
  abbrev Inputs : ℕ
  Inputs = length (main_input_elements f.model)

  abbrev Begin : Arrays
  Begin = opening_arrays (length f.cells) inputs

  parts : AreShared net Inputs levels (level_count levels) workers count
  parts = shared f net flat accepted is_net levels are workers count placed

  as_many : length (flat_inputs inputs) ≡ Inputs
  as_many = main_count f inputs main

  within : length (flat_inputs inputs) ≤ length f.cells
  within = inputs_within f inputs flat.sound flat.laid main

  v_many : length Begin.0 ≡ length f.cells
  v_many =
      let all = length-append (flat_inputs inputs) (replicate (length f.cells - length (flat_inputs inputs)) (pos 0)) in
      let rest = length-replicate (length f.cells - length (flat_inputs inputs)) (pos 0) in
      let w = within in
      omega (arith, all, rest, w)

  f_many : length Begin.1 ≡ length f.cells
  f_many = length-replicate (length f.cells) (pos 0)

  -- the given number at a cell
  given : (c : ℕ) → c < Inputs → (n : ℤ) × (slice_get (flat_inputs inputs) c ≡ Some n)
  given c low = let many = as_many in get_below (flat_inputs inputs) c (omega (arith, low, many))

  given_fits : (c : ℕ) (n : ℤ) → slice_get (flat_inputs inputs) c ≡ Some n → fits_64 n ≡ true
  given_fits c n at =
      let a = among_flat_map (λ (x : InputArray). x.nums) inputs n (get_among (flat_inputs inputs) c n at) in
      words a.0 a.1 n a.2

  module _ (mem : Memory) (over : SettledOver net (opening inputs) mem) where
    mem_at : (c : ℕ) (low : c < Inputs) → mem c ≡ Num (given c low).0
    mem_at c low =
        let n = given c low in
        over.others c (parts.input c low) ∙ ap (λ o. unwrap_or (option_map (λ z. Num z) o) (Num (pos 0))) n.1

    are_inputs : AreInputs Inputs mem
    are_inputs c low = let n = given c low in (n.0, mem_at c low, given_fits c n.0 n.1)

    begun : (c : ℕ) → c < Inputs → Holds f.model Begin c (mem c)
    begun c low =
        let n = given c low in
        let many = as_many in
        let w = within in
        number_holds f.model Begin c (mem c) n.0 (mem_at c low) (get_before (flat_inputs inputs) (replicate (length f.cells - length (flat_inputs inputs)) (pos 0)) c n.0 n.1)
        (replicate_get (length f.cells) c (pos 0) (omega (arith, low, many, w)))

    run : RunIsRight f.model net p mem orders Begin
    run = emitted_is_right f.model net (length f.cells) Inputs levels (level_count levels) workers count p parts (emitted net is_net) mem are_inputs over.settled orders right Begin v_many f_many begun

    ends : (e : Element) (c : ℕ) → IsRead f.model e → IsCellOf f e c → Holds f.model run.end c (mem c)
    ends e c read cell = elim (source_of f net flat accepted is_net e (accepted.given e read) c cell) [
      | inl low ↦ still_holds f.model Begin run.end c (mem c) (run.others c (parts.input c low)) (begun c low)
      | inr w ↦ run.written c (record { writer = w.0; place = w.1; at = w.2 })
    ]

    pub run_holds : RunHolds f p inputs orders
    run_holds = record {
      end = run.end;
      runs = run.runs;
      holds = λ v s e c read cell.
          let same : v e ≡ mem c = read_values_are_held f net inputs mem v flat.sound accepted flat.laid is_net main over s e c read cell in
          subst (Holds f.model run.end c) (sym same) (ends e c read cell);
    }

pub emitted_runs_are_right : EmittedRunsAreRight
emitted_runs_are_right f levels workers count p flat accepted are placed emitted inputs main words orders right =
    let n = net_exists f flat.sound accepted flat.laid in
    let writers = nets_have_writers f n.0 flat.sound accepted flat.laid n.1 in
    let levelled = nets_are_levelled f n.0 levels flat.sound accepted flat.laid n.1 are in
    let mem = settled_memory_exists n.0 writers.0 levels (level_count levels) writers.1 levelled (opening inputs) in
    run_holds f levels workers count p flat accepted are placed emitted inputs main words orders right n.0 n.1 mem.0 mem.1
