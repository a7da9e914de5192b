-- How many elements an instance reads, writes and gives.
use Rattle.std.proofs.Common.{◌≡◌, ℕ, ◌+◌, ◌-◌, ◌<◌, List, [], ◌∷◌, length, map, flat_map, Some, slice_get, option_map, unwrap_or, sym, ◌∙◌, ap, refl, arith}
use Rattle.std.specs.Prelude.{sum}
use Rattle.std.specs.List.{enumerate_from}
use Rattle.std.proofs.lemmas.List.{length-map, length-append}
use Rattle.aol_shape.specs.Shape.{size, points}
use Rattle.aol_expr_tree.specs.declared.port.Port.{Port}
use Rattle.aol_expr_tree.specs.declared.value.Val.{Val}
use Rattle.aol_model_types.specs.declared.document.Model.{Model}
use Rattle.aol_model_types.specs.declared.task.OutPort.{OutPort}
use Rattle.aol_model_types.specs.declared.task.Task.{Task}
use Rattle.aol_model_types.specs.declared.task.Task.TheVariants as tasks
use Rattle.aol_model_types.specs.Rules.{inputs_of, outputs_of}
use Rattle.aol_flat.specs.Accept.{IsFlat}
use Rattle.aol_flat.specs.Cursor.{CursorOf}
use Rattle.aol_flat.specs.Instance.{Instance, Run, Copy, instances, of_task, port_sizes, read_elements, written_elements, read_sizes}
use Rattle.aol_flat.specs.InstanceNeed.{IsReal}
use Rattle.aol_flat.specs.InstanceValue.{instance_value, instance_outputs}
use Rattle.aol_flat.specs.Laid.{Laid, IsCellOf, IsReadOf}
use Rattle.aol_flat.specs.LeafCursor.{first_on, reads_each, writes_each}
use Rattle.aol_flat.specs.Net.{Net, IsNetOf, reads_at, writes_at, instance_gives, task_gives}
use Rattle.aol_flat.specs.Place.{Place, Element, port_elements, elements_of}
use Rattle.aol_flat.specs.Tasks.{elementary_number}
use Rattle.aol_flat.proofs.Alongs.{each_reads}
use Rattle.aol_flat.proofs.Real.{sound_is_real}
use Rattle.aol_assign.proofs.MainCells.{element_count}
use Rattle.aol_lower.specs.Effect.{patterns_size}
use Rattle.aol_level.specs.Made.{IsLeafOf}
use Rattle.aol_level.proofs.Nets.{instance_is, writes_many}
use Rattle.aol_runner.proofs.Aligned.{get_there}
use Rattle.aol_runner.proofs.Nets.{zip_many}
use Rattle.aol_runner.proofs.Opened.{points_many}

-- as many values as elements of the output ports
outputs_many : (place : Place) (value : ℕ → OutPort → List ℕ → Val) (outs : List OutPort) (n : ℕ)
    → length (flat_map (λ (o : ℕ × OutPort). map (value o.0 o.1) (points o.1.port.shape)) (enumerate_from n outs)) ≡ length (elements_of place (map (λ (o : OutPort). o.port) outs))
outputs_many place value [] n = refl
outputs_many place value (o ∷ outs) n =
    let rest = outputs_many place value outs (n + 1) in
    let later : List Val = flat_map (λ (q : ℕ × OutPort). map (value q.0 q.1) (points q.1.port.shape)) (enumerate_from (n + 1) outs) in
    let values = length-append (map (value n o) (points o.port.shape)) later in
    let values_here = length-map (points o.port.shape) (value n o) in
    let all = length-append (port_elements place o.port) (elements_of place (map (λ (q : OutPort). q.port) outs)) in
    let element : List ℕ → Element = λ x. record { place = place; port = o.port.name; index = x } in
    let here = length-map (points o.port.shape) element in
    omega (arith, rest, values, values_here, all, here)

pub elements_many : (place : Place) (ports : List Port) → length (elements_of place ports) ≡ patterns_size ports
elements_many place [] = refl
elements_many place (p ∷ ports) =
    let element : List ℕ → Element = λ x. record { place = place; port = p.name; index = x } in
    length-append (port_elements place p) (elements_of place ports)
    ∙ (ap (λ n. n + length (elements_of place ports)) (length-map (points p.shape) element ∙ points_many p.shape)
    ∙ ap (λ n. size p.shape + n) (elements_many place ports))

module _ (f : Laid) (flat : IsFlat f) (net : Net) (is_net : IsNetOf f net) (j : ℕ) where
  pub reads_elements : (i : Instance) → slice_get (instances f.model) j ≡ Some i → length (reads_at net j) ≡ length (read_elements f.model i)
  reads_elements i at =
      let rs = get_there (instances f.model) net.reads j i is_net.many_reads at in
      ap (λ o. length (unwrap_or o [])) rs.1 ∙ zip_many (IsReadOf f) (read_elements f.model i) rs.0 (is_net.reads j i rs.0 at rs.1)

  pub writes_elements : (i : Instance) → slice_get (instances f.model) j ≡ Some i → length (writes_at net j) ≡ length (written_elements f.model i)
  writes_elements i at =
      let cs = get_there (instances f.model) net.writes j i is_net.many_writes at in
      ap (λ o. length (unwrap_or o [])) cs.1 ∙ zip_many (IsCellOf f) (written_elements f.model i) cs.0 (is_net.writes j i cs.0 at cs.1)

  -- as many values as cells
  pub given_many : (i : Instance) → slice_get (instances f.model) j ≡ Some i → (xs : List Val) → length xs ≡ length (reads_at net j) → length (net.gives j xs) ≡ length (writes_at net j)
  given_many i at xs many = go i at (sound_is_real f.model flat.sound j i at)
    where
      go : (k : Instance) → slice_get (instances f.model) j ≡ Some k → IsReal f.model k → length (net.gives j xs) ≡ length (writes_at net j)
      go (Run place) here real =
          let e = real.0 in
          let written : written_elements f.model (Run place) ≡ elements_of place (outputs_of (tasks.Elementary e)) = ap (of_task (λ t. elements_of place (outputs_of t))) real.1 in
          let gave : instance_gives f.model (Run place) xs ≡ instance_outputs (elementary_number f.model e.name) e xs = ap (task_gives f.model xs) real.1 in
          ap length (is_net.gives j (Run place) xs here ∙ gave)
          ∙ (outputs_many place (instance_value (elementary_number f.model e.name) e xs) e.outs 0 ∙ sym (writes_elements (Run place) here ∙ ap length written))
      go (Copy place k repetition part) here real =
          ap length (is_net.gives j (Copy place k repetition part) xs here)
          ∙ (many ∙ (reads_elements (Copy place k repetition part) here ∙ (ap length real.4 ∙ sym (writes_elements (Copy place k repetition part) here ∙ ap length real.3))))

  -- an instance reads as many elements as it has
  sizes_many : (i : Instance) → IsReal f.model i → sum (read_sizes f.model i) ≡ length (read_elements f.model i)
  sizes_many (Run place) real =
      let e = real.0 in
      let sizes : read_sizes f.model (Run place) ≡ port_sizes e.ins = ap (λ o. unwrap_or (option_map (λ t. port_sizes (inputs_of t)) o) []) real.1 in
      let elements : read_elements f.model (Run place) ≡ elements_of place e.ins = ap (of_task (λ t. elements_of place (inputs_of t))) real.1 in
      ap sum sizes ∙ sym (ap length elements ∙ element_count place e.ins)
  sizes_many (Copy place k repetition part) real = sym (ap length real.4)

  -- an instance of a leaf reads as many elements as each of the leaf's
  pub reads_many : (leaf : ℕ) → IsLeafOf f.model j leaf → j < length (instances f.model) → length (reads_at net j) ≡ reads_each f.model leaf
  reads_many leaf b low =
      let i = instance_is f flat net is_net j low in
      let from = b.from in
      let before = b.before in
      let place : first_on f.model leaf + (j - first_on f.model leaf) ≡ j = omega (arith, from) in
      let each = each_reads (record { flat = f; leaf = leaf }) (reads_each f.model leaf) refl (j - first_on f.model leaf) (omega (arith, from, before)) i.0 (ap (slice_get (instances f.model)) place ∙ i.1) in
      reads_elements i.0 i.1 ∙ sym (each ∙ sizes_many i.0 (sound_is_real f.model flat.sound j i.0 i.1))

  pub cells_many : (leaf : ℕ) → IsLeafOf f.model j leaf → j < length (instances f.model) → length (writes_at net j) ≡ writes_each f.model leaf
  cells_many leaf b low = writes_many f flat net is_net j low leaf b
