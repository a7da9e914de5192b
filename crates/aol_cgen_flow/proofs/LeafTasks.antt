-- The task that the instances of a leaf run.
use Rattle.std.proofs.Common.{◌≡◌, ℕ, ◌+◌, ◌-◌, ◌<◌, ◌^◌, List, [], ◌∷◌, length, take, Some, slice_get, sym, ◌∙◌, ap, refl, subst, arith, inl, inr}
use Rattle.std.proofs.lemmas.List.Sums.{sum_by-cons}
use Rattle.std.proofs.lemmas.Option.{slice_get_within}
use Rattle.aol_shape.specs.Shape.{IsPointOf, size, point_at}
use Rattle.aol_shape.proofs.Points.{point_at-is}
use Rattle.aol_expr_tree.specs.declared.port.Port.{Port}
use Rattle.aol_model_types.specs.declared.document.Model.{Model}
use Rattle.aol_model_types.specs.declared.task.Elementary.{Elementary}
use Rattle.aol_model_types.specs.declared.task.OutPort.{OutPort}
use Rattle.aol_model_types.specs.declared.task.Task.TheVariants as tasks
use Rattle.aol_model_types.specs.Rules.{task_named, inputs_of, outputs_of}
use Rattle.aol_model_types.specs.Types.{IsElementary}
use Rattle.aol_flat.specs.Accept.{IsSound}
use Rattle.aol_flat.specs.Instance.{Leaf, Computes, leaves, Instance, Run, instances, instance_on}
use Rattle.aol_flat.specs.LeafCursor.{elements_at, first_on, reads_each, writes_each}
use Rattle.aol_flat.specs.Leaves.{IsLeafRow, kind_of}
use Rattle.aol_flat.specs.Node.{node_task, place_on, space_around}
use Rattle.aol_flat.specs.Numbered.{number_named}
use Rattle.aol_flat.specs.Place.{Place, task_at}
use Rattle.aol_flat.specs.Tasks.{elementary_number}
use Rattle.aol_flat.specs.declared.leaf.Leaf.{Leaf as LeafRow}
use Rattle.aol_flat.specs.declared.leaf.LeafKind.TheVariants as kinds
use Rattle.aol_flat.proofs.Find.{task_at_named}
use Rattle.aol_flat.proofs.LeafForm.{leaf_form}
use Rattle.aol_flat.proofs.NodeTasks.{task_on}
use Rattle.aol_flat.proofs.Real.{sound_is_real}
use Rattle.aol_flat.proofs.RunPoints.{computes_is, run_elements}
use Rattle.aol_flat.proofs.Subtrees.{named_number}
use Rattle.aol_flat.proofs.Totals.{read_named}
use Rattle.aol_lower.specs.Effect.{patterns_size}
use Rattle.aol_cinstance.specs.Effect.{out_points}
use Rattle.aol_cinstance.proofs.Lists.{get_below}
use Rattle.aol_level.specs.Made.{IsLeafOf, elementary_among}
use Rattle.aol_level.proofs.Working.{elements_of_ports, instance_there, number_within, number_counts, row_for, row_is}

-- the types of a task that is there
pub task_types : (m : Model) → IsSound m → (place : Place) (e : Elementary) → task_at m place ≡ Some (tasks.Elementary e) → IsElementary e
task_types m sound place e at = (read_named m e.name (tasks.Elementary e) sound.read (task_at_named m place (tasks.Elementary e) at)).types

patterns_are : (ports : List Port) → elements_at ports ≡ patterns_size ports
patterns_are [] = refl
patterns_are (p ∷ ports) = sum_by-cons (λ (q : Port). size q.shape) p ports ∙ ap (λ n. size p.shape + n) (patterns_are ports)

-- an instance runs the elementary task with this number in the task list, whose elements are those of each instance of the leaf
pub record RunsTask (m : Model) (leaf j k : ℕ) : Type 0 where
  pub task : Elementary
  pub listed : slice_get m.tasks k ≡ Some (tasks.Elementary task)
  pub number : elementary_number m task.name ≡ elementary_among (take k m.tasks)
  pub place : Place
  pub at : slice_get (instances m) j ≡ Some (Run place)
  pub at_place : task_at m place ≡ Some (tasks.Elementary task)
  pub types : IsElementary task
  pub reads : reads_each m leaf ≡ patterns_size task.ins
  pub writes : writes_each m leaf ≡ out_points task.outs

-- the kind of a leaf that computes
kind_named : (m : Model) (l : Leaf) (e : Elementary) (n : ℕ) → l.work ≡ Computes → node_task m l.node ≡ Some (tasks.Elementary e) → number_named m.tasks e.name ≡ Some n → kind_of m l ≡ kinds.Elementary n
kind_named m l e n work node found = rw (work, node, found) refl

pub runs_task : (m : Model) (leaf j : ℕ) (row : LeafRow) → IsLeafRow m leaf row → IsLeafOf m j leaf → IsSound m → (k : ℕ) → row.kind ≡ kinds.Elementary k → RunsTask m leaf j k
runs_task m leaf j row r b sound k kind =
    let l = r.leaf in
    let at = point_at l.space (j - first_on m leaf) in
    let inside : IsPointOf l.space at = point_at-is l.space (j - first_on m leaf) (number_within m leaf j row r b) in
    let work = computes_is m l row.kind k r.kind kind in
    let form = leaf_form m leaf l r.at in
    let runs : instance_on l at ≡ Run (place_on l.node at) = rw work refl in
    let there : slice_get (instances m) j ≡ Some (Run (place_on l.node at)) = instance_there m leaf j row r b ∙ ap (λ i. Some i) runs in
    let real = sound_is_real m sound j (Run (place_on l.node at)) there in
    let e = real.0 in
    let space : l.space ≡ space_around l.node =
    elim form.form [
      | inl x ↦ x.space
      | inr x ↦ let copies = x.copies in cc
    ] in
    let around : IsPointOf (space_around l.node) at = subst (λ s. IsPointOf s at) space inside in
    let node : node_task m l.node ≡ Some (tasks.Elementary e) = sym (task_on m l.node form.spaces at around) ∙ real.1 in
    let named : task_named m.tasks e.name ≡ Some (tasks.Elementary e) = task_at_named m (place_on l.node at) (tasks.Elementary e) real.1 in
    let found = named_number m e.name (tasks.Elementary e) named in
    let kinds_same : kinds.Elementary k ≡ kinds.Elementary found.0 = sym kind ∙ (r.kind ∙ kind_named m l e found.0 work node found.1) in
    let same : k ≡ found.0 = cc in
    let listed : slice_get m.tasks k ≡ Some (tasks.Elementary e) = ap (slice_get m.tasks) same ∙ found.2 in
    record {
      task = e;
      listed = listed;
      number = sym (number_counts m e k (found.1 ∙ ap (λ n. Some n) (sym same)) listed);
      place = place_on l.node at;
      at = there;
      at_place = real.1;
      types = task_types m sound (place_on l.node at) e real.1;
      reads = run_elements inputs_of m leaf l (tasks.Elementary e) r.at work node ∙ patterns_are e.ins;
      writes = run_elements outputs_of m leaf l (tasks.Elementary e) r.at work node ∙ elements_of_ports e.outs;
    }

-- an instance of a leaf is one of the model
pub leaf_within : (m : Model) (leaf j : ℕ) → IsLeafOf m j leaf → j < length (instances m)
leaf_within m leaf j b =
    let l = get_below (leaves m) leaf b.listed in
    slice_get_within (instances m) j _ (instance_there m leaf j (row_for m leaf l.0) (row_is m leaf l.0 l.1) b)
