-- What is read is a main input or what a lower instance writes, and each cell is one step's.
use Rattle.std.proofs.Common.{◌≡◌, ◌≢◌, ℕ, ◌<◌, eqb, true, false, List, [], ◌++◌, length, Option, Some, None, slice_get, option_map, unwrap_or, sym, ◌∙◌, ap, refl, subst, arith, ◌⊎◌, inl, inr}
use Rattle.std.specs.List.{IsAmong}
use Rattle.std.proofs.lemmas.Bool.Decides.{eqb_tells}
use Rattle.std.proofs.lemmas.Option.{slice_get_within}
use Rattle.aol_expr_tree.specs.declared.port.Port.{Port}
use Rattle.aol_model_types.specs.declared.task.Task.{Task}
use Rattle.aol_model_types.specs.Rules.{inputs_of}
use Rattle.aol_allocate.specs.Placement.{IsPlacement}
use Rattle.aol_flat.specs.Accept.{IsAccepted, IsFlat}
use Rattle.aol_flat.specs.Equation.{MainInput}
use Rattle.aol_flat.specs.Home.{Home, Kept, home_of, origin, origin_home}
use Rattle.aol_flat.specs.Instance.{instances, written_elements}
use Rattle.aol_flat.specs.InstanceNeed.{AreLevelsOf, level_count}
use Rattle.aol_flat.specs.Laid.{Laid, AreHomes, IsCellOf, main_input_elements, main_output_elements}
use Rattle.aol_flat.specs.Net.{Net, IsNetOf, IsWritten, reads_at, writes_at}
use Rattle.aol_flat.specs.Place.{Element, elements_of}
use Rattle.aol_flat.specs.Reads.{IsGiven}
use Rattle.aol_flat.specs.Tasks.{main_task, main_inputs}
use Rattle.aol_flat.specs.declared.view.Read.TheVariants.{Cell}
use Rattle.aol_flat.proofs.Among.{among_get, at_port, get_among}
use Rattle.aol_flat.proofs.Names.{slice_get-left}
use Rattle.aol_flat.proofs.Numbered.{of_port}
use Rattle.aol_flat.proofs.Real.{sound_is_real}
use Rattle.aol_flat.proofs.SourceSteps.{main_input_side}
use Rattle.aol_flat_laws.proofs.LaidHomes.{laid_cells_are_homes}
use Rattle.aol_assign.proofs.GivenHomes.{GivenHome, IsWrittenHome, given_home}
use Rattle.aol_cinstance.proofs.Lists.{get_below}
use Rattle.aol_runner.specs.Schedule.{AreLevelled}
use Rattle.aol_runner.proofs.Aligned.{some_injective, get_there, zip_at}
use Rattle.aol_runner.proofs.Held.{kept_injective, input_home}
use Rattle.aol_runner.proofs.Nets.{reads_read}
use Rattle.aol_runner.proofs.Unwritten.{main_unwritten}
use Rattle.aol_runner.proofs.Writers.{is_put, is_taken, nets_are_levelled, nets_have_writers}
use Rattle.aol_cgen_laws.specs.Emitted.{AreShared, IsBelow, IsOfStep}

-- an element of the main inputs
main_input : (f : Laid) (t : Task) → main_task f.model ≡ Some t → (e : Element) → IsAmong (elements_of [] (inputs_of t)) e → MainInput f.model e
main_input f t at e a =
    let p = at_port [] (inputs_of t) e a in
    record {
      is_main = ap (λ (x : Element). x.place) p.is;
      task = t;
      at_place = at;
      number = p.listed.0;
      port = p.port;
      listed = among_get (inputs_of t) p.listed.0 p.port p.listed.1.0 p.listed.1.1;
      named = ap (λ (x : Element). x.port) p.is;
      inside = p.inside;
    }

module _ (f : Laid) (net : Net) (flat : IsFlat f) (accepted : IsAccepted f.model) (is_net : IsNetOf f net) where
  abbrev Inputs : ℕ
  Inputs = length (main_input_elements f.model)

  homes : AreHomes f
  homes = laid_cells_are_homes f flat.sound.shapes flat.laid

  first_cell : (c : ℕ) (e : Element) → slice_get (main_input_elements f.model) c ≡ Some e → slice_get f.cells c ≡ Some e
  first_cell c e at =
      let front = slice_get-left (main_input_elements f.model) (main_output_elements f.model) c e at in
      ap (λ cells. slice_get cells c) homes.order ∙ slice_get-left (main_input_elements f.model ++ main_output_elements f.model) homes.rest c e front

  -- the cell of a main input is one of the first
  input_first : (h : Element) → MainInput f.model h → (c : ℕ) → slice_get f.cells c ≡ Some h → c < Inputs
  input_first h a c at =
      let P : List Port → Type 0 = λ ports. IsAmong (elements_of [] ports) h in
      let ports : main_inputs f.model ≡ inputs_of a.task = ap (λ o. unwrap_or (option_map inputs_of o) []) a.at_place in
      let among : IsAmong (main_input_elements f.model) h =
      subst P (sym ports) (of_port [] (inputs_of a.task) a.port h (get_among (inputs_of a.task) a.number a.port a.listed) a.is_main a.named a.inside) in
      let here = among_get (main_input_elements f.model) among.0 h among.1.0 among.1.1 in
      let same : c ≡ among.0 = homes.once c among.0 h at (first_cell among.0 h here) in
      let low = among.1.0 in
      omega (arith, same, low)

  -- the cell of a written home is written
  written_at : (h : Element) (w : IsWrittenHome f.model h) (c : ℕ) → slice_get f.cells c ≡ Some h → (k : ℕ) × (slice_get (writes_at net w.number) k ≡ Some c)
  written_at h w c at =
      let cs = get_there (instances f.model) net.writes w.number w.instance is_net.many_writes w.at in
      let elements = written_elements f.model w.instance in
      let there = among_get elements w.written.0 w.element w.written.1.0 w.written.1.1 in
      let d = zip_at (IsCellOf f) elements cs.0 w.written.0 w.element (is_net.writes w.number w.instance cs.0 w.at cs.1) there in
      let home : d.2.home ≡ h = kept_injective d.2.home h (sym d.2.is_home ∙ w.home) in
      let same : d.0 ≡ c = homes.once d.0 c h (d.2.at_cell ∙ ap (λ x. Some x) home) at in
      (w.written.0, ap (λ o. slice_get (unwrap_or o []) w.written.0) cs.1 ∙ (d.1 ∙ ap (λ n. Some n) same))

  -- the cell of a given element is that of a main input, or an instance writes it
  pub source_of : (e : Element) → IsGiven f.model e → (c : ℕ) → IsCellOf f e c → (c < Inputs) ⊎ ((i : ℕ) × (k : ℕ) × (slice_get (writes_at net i) k ≡ Some c))
  source_of e given c cell =
      let G : Home → Type 0 = GivenHome f.model in
      let home : GivenHome f.model (Kept cell.home) = subst G cell.is_home (given_home f.model flat.sound accepted.single e given) in
      elim home [
        | inl a ↦ inl (input_first cell.home a c cell.at_cell)
        | inr w ↦ (let at = written_at cell.home w c cell.at_cell in inr (w.number, at.0, at.1))
      ]

  module _ (levels : List ℕ) (are : AreLevelsOf f.model levels) where
    levelled : AreLevelled net levels (level_count levels)
    levelled = nets_are_levelled f net levels flat.sound accepted flat.laid is_net are

    pub below : (j k c l : ℕ) → slice_get (reads_at net j) k ≡ Some (Cell c) → slice_get levels j ≡ Some l → (c < Inputs) ⊎ IsBelow net levels l c
    below j k c l read at =
        let t = is_taken f net flat.sound accepted flat.laid is_net j k (Cell c) read in
        let given = accepted.given t.element (reads_read f.model t.instance (sound_is_real f.model flat.sound j t.instance t.at) t.element t.among) in
        elim (source_of t.element given c t.stands) [
          | inl low ↦ inl low
          | inr w ↦
              let own = levelled.level w.0 w.1 c w.2 in
              let less = levelled.above j k c w.0 w.1 l own.0 read w.2 at own.1 in
              inr (record { instance = w.0; place = w.1; own_level = own.0; at_level = own.1; below = less; writes = w.2 })
        ]

    -- nothing writes the cell of a main input
    unwritten : (c : ℕ) → c < Inputs → IsWritten net c → ⊥
    unwritten c low w = go (main_task f.model) refl
      where
        here : (e : Element) × (slice_get (main_input_elements f.model) c ≡ Some e)
        here = get_below (main_input_elements f.model) c low

        go : (o : Option Task) → main_task f.model ≡ o → ⊥
        go None at =
            let none : main_inputs f.model ≡ [] = ap (λ o. unwrap_or (option_map inputs_of o) []) at in
            let few : Inputs ≡ 0 = ap (λ ports. length (elements_of [] ports)) none in
            omega (arith, low, few)
        go (Some t) at =
            let P : List Port → Type 0 = λ ports. IsAmong (elements_of [] ports) here.0 in
            let ports : main_inputs f.model ≡ inputs_of t = ap (λ o. unwrap_or (option_map inputs_of o) []) at in
            let a = main_input f t at here.0 (subst P ports (get_among (main_input_elements f.model) c here.0 here.1)) in
            let place = a.is_main in
            let home : home_of f.model here.0 ≡ Kept here.0 =
            input_home f here.0 (main_input_side f.model flat.sound here.0 a)
            ∙ (ap (λ p. origin_home f.model (origin f.model p here.0.port here.0.index)) place ∙ ap (λ p. Kept (record { place = p; port = here.0.port; index = here.0.index })) (sym place)) in
            let cell : IsCellOf f here.0 c = record { home = here.0; is_home = home; at_cell = first_cell c here.0 here.1 } in
            main_unwritten f flat.sound net is_net here.0 a c cell w

    module _ (workers : List ℕ) (count : ℕ) (placed : IsPlacement f.model workers count) where
      one_writer : (c i k j l : ℕ) → slice_get (writes_at net i) k ≡ Some c → slice_get (writes_at net j) l ≡ Some c → i ≡ j
      one_writer c i k j l a b =
          let writers = nets_have_writers f net flat.sound accepted flat.laid is_net in
          let pairs : Some (i, k) ≡ Some (j, l) = sym (writers.1.one c i k a) ∙ writers.1.one c j l b in
          let pair : (i, k) ≡ (j, l) = some_injective (i, k) (j, l) pairs in
          ap (λ (p : ℕ × ℕ). p.0) pair

      worker_of : (c i k : ℕ) → slice_get (writes_at net i) k ≡ Some c → (w : ℕ) × (slice_get workers i ≡ Some w) × (w < count)
      worker_of c i k h =
          let w = is_put f net flat.sound accepted flat.laid is_net i k c h in
          let within = slice_get_within (instances f.model) i w.instance w.at in
          let many = placed.many in
          let x = get_below workers i (omega (arith, within, many)) in
          (x.0, x.1, placed.each i x.0 x.1)

      -- a cell that is written is one of the step's exactly where its writer is
      of_step : (level worker c i k l v : ℕ) → slice_get (writes_at net i) k ≡ Some c → slice_get levels i ≡ Some l → slice_get workers i ≡ Some v
          → IsOfStep net levels workers level worker c ⊎ (IsOfStep net levels workers level worker c → ⊥)
      of_step level worker c i k l v h at on = go (eqb_tells l level) (eqb_tells v worker)
        where
          go : ((eqb l level ≡ true) × (l ≡ level)) ⊎ ((eqb l level ≡ false) × (l ≢ level)) → ((eqb v worker ≡ true) × (v ≡ worker)) ⊎ ((eqb v worker ≡ false) × (v ≢ worker))
              → IsOfStep net levels workers level worker c ⊎ (IsOfStep net levels workers level worker c → ⊥)
          go (inr apart) other =
              inr (λ o.
              let same : o.instance ≡ i = one_writer c o.instance o.place i k o.writes h in
              apart.1 (some_injective l level (sym at ∙ (ap (slice_get levels) (sym same) ∙ o.at_level))))
          go (inl here) (inr apart) =
              inr (λ o.
              let same : o.instance ≡ i = one_writer c o.instance o.place i k o.writes h in
              apart.1 (some_injective v worker (sym on ∙ (ap (slice_get workers) (sym same) ∙ o.at_worker))))
          go (inl here) (inl also) = inl (record { instance = i; place = k; at_level = at ∙ ap (λ n. Some n) here.1; at_worker = on ∙ ap (λ n. Some n) also.1; writes = h })

      pub shared : AreShared net Inputs levels (level_count levels) workers count
      shared = record {
        one = one_writer;
        level = λ c i k h. levelled.level i k c h;
        worker = worker_of;
        input = unwritten;
        known = λ level worker c.
            elim (levelled.known c) [
              | inl w ↦
                  let l = levelled.level w.writer w.place c w.at in
                  let v = worker_of c w.writer w.place w.at in
                  of_step level worker c w.writer w.place l.0 v.0 w.at l.1 v.1
              | inr none ↦ inr (λ o. none (record { writer = o.instance; place = o.place; at = o.writes }))
            ];
      }
