-- After all levels the field is that of a run, and the outputs are those of every solution.
use Rattle.std.proofs.Common.{◌≡◌, ℕ, zero, suc, ◌+◌, ◌<◌, List, [], ◌∷◌, length, map, get_or, slice_get, Option, Some, sym, ◌∙◌, ap, arith, subst, ◌⊎◌, inl, inr}
use Rattle.std.proofs.lemmas.Option.{slice_get_within, slice_get-get_or}
use Rattle.std.proofs.lemmas.List.{length-map}
use Rattle.aol_shape.specs.Lists.{numbers_from}
use Rattle.aol_model_types.specs.declared.job.InputArray.{InputArray}
use Rattle.aol_flat.specs.Tasks.{main_outputs}
use Rattle.aol_flat.specs.Place.{Element}
use Rattle.aol_flat.specs.Equation.{Valuation, IsSolution}
use Rattle.aol_flat.specs.Instance.{instances}
use Rattle.aol_flat.specs.InstanceNeed.{AreLevelsOf, level_count}
use Rattle.aol_flat.specs.Laid.{Laid, IsLaid, IsReadOf, IsCellOf, main_input_elements, main_output_elements}
use Rattle.aol_flat.specs.Net.{Net, IsNetOf, Memory, writes_at, IsWritten, AreMainInputs, flat_inputs, opening}
use Rattle.aol_flat.specs.Reads.{by_caller}
use Rattle.aol_flat.specs.Accept.{IsSound, IsAccepted}
use Rattle.aol_flat.specs.declared.view.Read.TheVariants.{Cell}
use Rattle.aol_flat.proofs.Among.{get_among}
use Rattle.aol_flat.proofs.Solved.{solution_exists}
use Rattle.aol_assign.proofs.MainCells.{main_zip, main_within}
use Rattle.aol_scatter.specs.Cells.{cell}
use Rattle.aol_level.specs.Puts.{kept_by, value_in}
use Rattle.aol_level.specs.declared.kept.Kept.{Kept}
use Rattle.aol_runner.specs.Outputs.{AreOutputs, value_at, taken_outputs}
use Rattle.aol_runner.specs.Run.{IsRunField}
use Rattle.aol_runner.specs.declared.outputs.OutputArray.{OutputArray}
use Rattle.aol_runner.specs.Schedule.{AreLevelled, SettledOver}
use Rattle.aol_runner.specs.Through.{IsThrough, AreThrough}
use Rattle.aol_runner.proofs.Aligned.{some_injective, get_map, zip_at}
use Rattle.aol_runner.proofs.Exists.{settled_memory_exists}
use Rattle.aol_runner.proofs.FirstCells.{main_count}
use Rattle.aol_runner.proofs.Nets.{net_exists}
use Rattle.aol_runner.proofs.Opened.{inputs_fit, numbers_get}
use Rattle.aol_runner.proofs.TakenOutputs.{taken_are}
use Rattle.aol_runner.proofs.Values.{read_values_are_held}
use Rattle.aol_runner.proofs.Writers.{is_put, nets_have_writers, nets_are_levelled, get_within}

-- a cell of the field
field_cell : (field : List Kept) (c : ℕ) (kept : Kept) → slice_get field c ≡ Some kept → cell (map Some field) c ≡ Some kept
field_cell [] c kept h = cc
field_cell (k ∷ field) zero kept h = h
field_cell (k ∷ field) (suc c) kept h = field_cell field c kept h

module _ (f : Laid) (levels workers : List ℕ) (inputs : List InputArray) (sound : IsSound f.model) (accepted : IsAccepted f.model) (laid : IsLaid f) (are : AreLevelsOf f.model levels)
    (placed : length workers ≡ length (instances f.model)) (cells : List (Option Kept)) (field : List Kept) (is : map Some field ≡ cells) (many : length cells ≡ length f.cells)
    (through : AreThrough f levels workers inputs (level_count levels) cells) where
  module _ (net : Net) (is_net : IsNetOf f net) (mem : Memory) (over : SettledOver net (opening inputs) mem) where
    levelled : AreLevelled net levels (level_count levels)
    levelled = nets_are_levelled f net levels sound accepted laid is_net are

    last : IsThrough net levels workers (opening inputs) mem (level_count levels) cells
    last = through net mem is_net over

    in_field : (c : ℕ) (kept x : Kept) → slice_get field c ≡ Some kept → cell cells c ≡ Some x → kept ≡ x
    in_field c kept x at held = some_injective kept x (sym (field_cell field c kept at) ∙ (ap (λ ks. cell ks c) is ∙ held))

    written_kept : (j k c : ℕ) (kept : Kept) → slice_get (writes_at net j) k ≡ Some c → slice_get field c ≡ Some kept → kept ≡ kept_by (get_or workers j 0) (mem c)
    written_kept j k c kept h at =
        let l = levelled.level j k c h in
        in_field c kept (kept_by (get_or workers j 0) (mem c)) at (last.written j k c l.0 h l.1 l.2)

    other_kept : (c : ℕ) (kept : Kept) → (IsWritten net c → ⊥) → slice_get field c ≡ Some kept → kept ≡ kept_by 0 (opening inputs c)
    other_kept c kept none at =
        let within = slice_get_within field c kept at in
        let long : length (map Some field) ≡ length field = length-map field Some in
        let longer : length (map Some field) ≡ length cells = ap length is in
        in_field c kept (kept_by 0 (opening inputs c)) at (last.others c (omega (arith, within, long, longer)) (λ j k l h a b. none (record { writer = j; place = k; at = h })))

    field_holds : (c : ℕ) (kept : Kept) → slice_get field c ≡ Some kept → kept.val ≡ mem c
    field_holds c kept at = go (levelled.known c)
      where
        go : IsWritten net c ⊎ (IsWritten net c → ⊥) → kept.val ≡ mem c
        go (inl w) = ap (λ (k : Kept). k.val) (written_kept w.writer w.place c kept w.at at)
        go (inr none) = ap (λ (k : Kept). k.val) (other_kept c kept none at) ∙ sym (over.others c none)

    run_field : IsRunField f workers inputs field
    run_field = record {
      net = net;
      is_net = is_net;
      memory = mem;
      settled = over;
      many = (let long : length (map Some field) ≡ length field = length-map field Some in let longer : length (map Some field) ≡ length cells = ap length is in omega (arith, long, longer, many));
      holds = field_holds;
      worker = λ j k c kept h at.
          let w = is_put f net sound accepted laid is_net j k c h in
          let under = slice_get_within (instances f.model) j w.instance w.at in
          let same : kept.worker ≡ get_or workers j 0 = ap (λ (x : Kept). x.worker) (written_kept j k c kept h at) in
          slice_get-get_or workers j 0 (omega (arith, under, placed)) ∙ ap (λ x. Some x) (sym same);
      no_worker = λ c kept none at. ap (λ (x : Kept). x.worker) (other_kept c kept none at);
    }

  pub finished : IsRunField f workers inputs field
  finished =
      let net = net_exists f sound accepted laid in
      let writers = nets_have_writers f net.0 sound accepted laid net.1 in
      let mem = settled_memory_exists net.0 writers.0 levels (level_count levels) writers.1 (nets_are_levelled f net.0 levels sound accepted laid net.1 are) (opening inputs) in
      run_field net.0 net.1 mem.0 mem.1

-- ---- outputs

-- the read of a cell after the first ones
cell_from : (first n i : ℕ) → i < n → slice_get (map (λ c. Cell c) (numbers_from first n)) i ≡ Some (Cell (first + i))
cell_from first n i h = get_map (λ c. Cell c) (numbers_from first n) i (first + i) (numbers_get first n i h)

module _ (f : Laid) (workers : List ℕ) (inputs : List InputArray) (sound : IsSound f.model) (accepted : IsAccepted f.model) (laid : IsLaid f) (main : AreMainInputs f.model inputs)
    (field : List Kept) (run : IsRunField f workers inputs field) where
  first : ℕ
  first = length (main_input_elements f.model)

  output_value : (v : Valuation) → IsSolution f.model inputs v → (i : ℕ) (e : Element) → slice_get (main_output_elements f.model) i ≡ Some e → value_at field (first + i) ≡ v e
  unfolding first
  output_value v s i e at =
      let under = slice_get_within (main_output_elements f.model) i e at in
      let r = zip_at (IsReadOf f) (main_output_elements f.model) (map (λ c. Cell c) (numbers_from (length (main_input_elements f.model)) (length (main_output_elements f.model)))) i e (main_zip f sound laid) at in
      let reads : r.0 ≡ Cell (length (main_input_elements f.model) + i) =
      some_injective r.0 (Cell (length (main_input_elements f.model) + i)) (sym r.1 ∙ cell_from (length (main_input_elements f.model)) (length (main_output_elements f.model)) i under) in
      let of_cell : IsCellOf f e (length (main_input_elements f.model) + i) = subst (IsReadOf f e) reads r.2 in
      let value : v e ≡ run.memory (length (main_input_elements f.model) + i) =
      read_values_are_held f run.net inputs run.memory v sound accepted laid run.is_net main run.settled s e (length (main_input_elements f.model) + i) (by_caller (get_among (main_output_elements f.model) i e at)) of_cell in
      let within = main_within f sound laid in
      let kept = get_within field (length (main_input_elements f.model) + i) (omega (arith, within, under, run.many)) in
      ap value_in kept.1 ∙ (run.holds (length (main_input_elements f.model) + i) kept.0 kept.1 ∙ sym value)

  pub taken_right : (start : ℕ) (outputs : List OutputArray) → start ≡ length (flat_inputs inputs) → outputs ≡ taken_outputs field start (main_outputs f.model) → AreOutputs f.model inputs outputs
  unfolding first
  taken_right start outputs begins taken = record {
    exists = solution_exists f.model inputs sound accepted (inputs_fit f.model inputs sound.shapes main);
    of_every = λ v s. taken ∙ ap (λ n. taken_outputs field n (main_outputs f.model)) (begins ∙ main_count f inputs main) ∙ taken_are field v (length (main_input_elements f.model)) (main_outputs f.model) (output_value v s);
  }
