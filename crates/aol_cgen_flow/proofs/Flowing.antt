-- An accepted model has all that its steps need.
use Rattle.std.proofs.Common.{◌≡◌, ℕ, zero, suc, ◌+◌, ◌<◌, ◌^◌, ℤ, Bool, true, false, List, [], ◌∷◌, length, map, Some, slice_get, unwrap_or, refl, sym, ◌∙◌, ap, subst, arith, ◌⊎◌, inl, inr}
use Rattle.std.specs.Prelude.{nat_lt}
use Rattle.std.proofs.lemmas.Bool.{lt-ltb, ltb-true, ltb-false}
use Rattle.std.proofs.lemmas.Option.{slice_get_within, slice_get_past}
use Rattle.aol_shape.specs.Numbers.{fits_64}
use Rattle.aol_expr_tree.specs.declared.value.Val.{Val}
use Rattle.aol_model_types.specs.declared.task.Task.TheVariants as tasks
use Rattle.aol_model_types.specs.Rules.{inputs_of}
use Rattle.aol_allocate.specs.Placement.{IsPlacement}
use Rattle.aol_flat.specs.Accept.{IsAccepted, IsFlat}
use Rattle.aol_flat.specs.Instance.{Instance, Run, Copy, instances, of_task, read_elements}
use Rattle.aol_flat.specs.InstanceNeed.{AreLevelsOf, IsReal}
use Rattle.aol_flat.specs.InstanceValue.{instance_outputs}
use Rattle.aol_flat.specs.Laid.{Laid, main_input_elements}
use Rattle.aol_flat.specs.Net.{Net, IsNetOf, Memory, IsSettled, read_value, reads_at, writes_at, instance_gives, task_gives}
use Rattle.aol_flat.specs.Place.{elements_of}
use Rattle.aol_flat.specs.Tasks.{elementary_number}
use Rattle.aol_flat.specs.declared.view.Read.{Read}
use Rattle.aol_flat.specs.declared.view.Read.TheVariants.{Cell, Const}
use Rattle.aol_flat.proofs.Real.{sound_is_real}
use Rattle.aol_lower.specs.Effect.{patterns_size}
use Rattle.aol_cinstance.proofs.Lists.{get_below}
use Rattle.aol_runner.proofs.Nets.{reads_read}
use Rattle.aol_runner.proofs.Writers.{is_put, is_taken}
use Rattle.aol_cgen_flow.specs.Flow.{AllFit, AcceptedFlows, Flows, HasFlow, GivesFit, closed}
use Rattle.aol_cgen_flow.proofs.Below.{below, shared}
use Rattle.aol_cgen_flow.proofs.Defaults.{constant_fits}
use Rattle.aol_cgen_flow.proofs.InstanceFits.{outputs_fit}
use Rattle.aol_cgen_flow.proofs.LeafTasks.{task_types}
use Rattle.aol_cgen_flow.proofs.Many.{elements_many, given_many, reads_elements}

-- ---- the closed net

-- what is given where the test says that the number is one of an instance
gives_if : (net : Net) (j : ℕ) (xs : List Val) (b : Bool) → nat_lt j (length net.writes) ≡ b → (closed net).gives j xs ≡ elim b [ true ↦ net.gives j xs | false ↦ [] ]
gives_if net j xs true e = rw e refl
gives_if net j xs false e = rw e refl

pub closed_gives : (net : Net) (j : ℕ) (xs : List Val) → j < length net.writes → (closed net).gives j xs ≡ net.gives j xs
closed_gives net j xs low = gives_if net j xs true (lt-ltb j (length net.writes) low)

pub closed_is : (f : Laid) (net : Net) → IsNetOf f net → IsNetOf f (closed net)
closed_is f net is_net = record {
  many_reads = is_net.many_reads;
  many_writes = is_net.many_writes;
  reads = is_net.reads;
  writes = is_net.writes;
  gives = λ j i taken at.
      let within = slice_get_within (instances f.model) j i at in
      let many = is_net.many_writes in
      closed_gives net j taken (omega (arith, within, many)) ∙ is_net.gives j i taken at;
}

none_fit : AllFit []
none_fit zero x at = absurd (cc)
none_fit (suc k) x at = absurd (cc)

module _ (f : Laid) (net : Net) (flat : IsFlat f) (accepted : IsAccepted f.model) (is_net : IsNetOf f net) where
  -- it is the number of an instance
  pub record IsOfInstance (j : ℕ) : Type 0 where
    pub instance : Instance
    pub at : slice_get (instances f.model) j ≡ Some instance
    pub low : j < length net.writes

  -- or reads, writes and gives nothing
  pub record IsPast (j : ℕ) : Type 0 where
    pub reads : reads_at net j ≡ []
    pub writes : writes_at net j ≡ []
    pub gives : (xs : List Val) → (closed net).gives j xs ≡ []

  by_number : (j : ℕ) → IsOfInstance j ⊎ IsPast j
  by_number j = go (nat_lt j (length net.writes)) refl
    where
      go : (b : Bool) → nat_lt j (length net.writes) ≡ b → IsOfInstance j ⊎ IsPast j
      go true e =
          let low = ltb-true j (length net.writes) e in
          let many = is_net.many_writes in
          let i = get_below (instances f.model) j (omega (arith, low, many)) in
          inl (record { instance = i.0; at = i.1; low = low })
      go false e =
          let high = ltb-false j (length net.writes) e in
          let writes = is_net.many_writes in
          let reads = is_net.many_reads in
          inr (record {
            reads = ap (λ o. unwrap_or o []) (slice_get_past net.reads j (omega (arith, high, writes, reads)));
            writes = ap (λ o. unwrap_or o []) (slice_get_past net.writes j high);
            gives = λ xs. gives_if net j xs false e;
          })

  -- ---- flow

  read_fits : (j k : ℕ) (n : ℤ) → slice_get (reads_at net j) k ≡ Some (Const n) → fits_64 n ≡ true
  read_fits j k n at =
      let t = is_taken f net flat.sound accepted flat.laid is_net j k (Const n) at in
      let given = accepted.given t.element (reads_read f.model t.instance (sound_is_real f.model flat.sound j t.instance t.at) t.element t.among) in
      constant_fits f.model flat.sound accepted.single t.element given n t.stands

  gives_all : (j : ℕ) (xs : List Val) → length xs ≡ length (reads_at net j) → length ((closed net).gives j xs) ≡ length (writes_at net j)
  gives_all j xs many = elim (by_number j) [
    | inl i ↦ ap length (closed_gives net j xs i.low) ∙ given_many f flat net is_net j i.instance i.at xs many
    | inr p ↦ ap length (p.gives xs) ∙ sym (ap length p.writes)
  ]

  has_flow : (levels : List ℕ) → AreLevelsOf f.model levels → length f.cells < 2 ^ 32 → HasFlow (closed net) (length f.cells) (length (main_input_elements f.model)) levels
  has_flow levels are few = record {
    few = few;
    written = λ j k c at. let w = is_put f net flat.sound accepted flat.laid is_net j k c at in slice_get_within f.cells c w.cell.home w.cell.at_cell;
    read = λ j k c at. let t = is_taken f net flat.sound accepted flat.laid is_net j k (Cell c) at in slice_get_within f.cells c t.stands.home t.stands.at_cell;
    give = gives_all;
    below = λ j k c l read at. below f (closed net) flat accepted (closed_is f net is_net) levels are j k c l read at;
    defaults = read_fits;
  }

  -- ---- what is given fits

  instance_fits : (j : ℕ) (i : Instance) → slice_get (instances f.model) j ≡ Some i → IsReal f.model i → (xs : List Val) → length xs ≡ length (reads_at net j) → AllFit xs → AllFit (instance_gives f.model i xs)
  instance_fits j (Run place) at real xs many fit =
      let e = real.0 in
      let read : read_elements f.model (Run place) ≡ elements_of place e.ins = ap (of_task (λ t. elements_of place (inputs_of t))) real.1 in
      let whole : length xs ≡ patterns_size e.ins = many ∙ (reads_elements f flat net is_net j (Run place) at ∙ (ap length read ∙ elements_many place e.ins)) in
      let gave : instance_gives f.model (Run place) xs ≡ instance_outputs (elementary_number f.model e.name) e xs = ap (task_gives f.model xs) real.1 in
      subst AllFit (sym gave) (outputs_fit (elementary_number f.model e.name) e (task_types f.model flat.sound place e real.1) xs whole fit)
  instance_fits j (Copy place k repetition part) at real xs many fit = fit

  gives_fit : GivesFit (closed net)
  gives_fit j xs many fit = elim (by_number j) [
    | inl i ↦ subst AllFit (sym (closed_gives net j xs i.low ∙ is_net.gives j i.instance xs i.at)) (instance_fits j i.instance i.at (sound_is_real f.model flat.sound j i.instance i.at) xs many fit)
    | inr p ↦ subst AllFit (sym (p.gives xs)) none_fit
  ]

  -- ---- levels

  known : (levels : List ℕ) → AreLevelsOf f.model levels → (j k : ℕ) (r : Read) → slice_get (reads_at net j) k ≡ Some r → (l : ℕ) × (slice_get levels j ≡ Some l)
  known levels are j k r at =
      let t = is_taken f net flat.sound accepted flat.laid is_net j k r at in
      let within = slice_get_within (instances f.model) j t.instance t.at in
      let many = are.many in
      get_below levels j (omega (arith, within, many))

  -- ---- memories

  pub closed_settled : (mem : Memory) → IsSettled net mem → IsSettled (closed net) mem
  closed_settled mem settled j k c at =
      let w = is_put f net flat.sound accepted flat.laid is_net j k c at in
      let within = slice_get_within (instances f.model) j w.instance w.at in
      let many = is_net.many_writes in
      ap (λ xs. slice_get xs k) (closed_gives net j (map (read_value mem) (reads_at net j)) (omega (arith, within, many))) ∙ settled j k c at

pub accepted_flows : AcceptedFlows
accepted_flows f net levels workers count flat accepted is_net are placed few = record {
  flow = has_flow f net flat accepted is_net levels are few;
  shared = shared f (closed net) flat accepted (closed_is f net is_net) levels are workers count placed;
  fit = gives_fit f net flat accepted is_net;
  known = known f net flat accepted is_net levels are;
}
