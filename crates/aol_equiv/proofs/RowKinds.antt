-- What the kind of a leaf says of its instances.
use Rattle.std.proofs.Common.{◌≡◌, ℕ, zero, suc, ◌+◌, ◌<◌, List, [], ◌∷◌, length, get_or, Option, Some, None, slice_get, option_map, option_and_then, unwrap_or, sym, ◌∙◌, ap, refl, arith, subst}
use Rattle.std.proofs.lemmas.Option.{slice_get_within}
use Rattle.aol_shape.specs.Shape.{IsPointOf, size, point_at}
use Rattle.aol_shape.proofs.Points.{point_at-is}
use Rattle.aol_model_types.specs.declared.document.Model.{Model}
use Rattle.aol_model_types.specs.declared.task.Task.{Task}
use Rattle.aol_model_types.specs.declared.task.Task.TheVariants as tasks
use Rattle.aol_model_types.specs.Rules.{task_name, task_named, inputs_of, outputs_of}
use Rattle.aol_flat.specs.Tasks.{main_task}
use Rattle.aol_flat.specs.Place.{Place, task_at}
use Rattle.aol_flat.specs.Instance.{Leaf, Work, Computes, Copies, leaves, Instance, Run, instances, instance_on, port_sizes, places_of_sizes, read_sizes, written_sizes}
use Rattle.aol_flat.specs.Leaves.{kind_of, IsLeafRow}
use Rattle.aol_flat.specs.Node.{place_on}
use Rattle.aol_flat.specs.Numbered.{number_named}
use Rattle.aol_flat.specs.Accept.{IsSound}
use Rattle.aol_flat.specs.declared.leaf.Leaf.{Leaf as LeafRow}
use Rattle.aol_flat.specs.declared.leaf.LeafKind.{LeafKind}
use Rattle.aol_flat.specs.declared.leaf.LeafKind.TheVariants as kinds
use Rattle.aol_flat.proofs.Among.{get_among}
use Rattle.aol_flat.proofs.Alongs.{some_instance}
use Rattle.aol_flat.proofs.Find.{found_name, task_at_named}
use Rattle.aol_flat.proofs.TaskNumbers.{found, none_from}
use Rattle.aol_flat.proofs.LeafAt.{instance_at}
use Rattle.aol_assign.proofs.LeafNumbers.{leaf_task, instance_there}
use Rattle.aol_equiv.specs.Table.{IsOfKind}
use Rattle.aol_flat_laws.proofs.NodeTasks.{task_on}

-- a task that is found under a name has a number under its own
named_number : (m : Model) (t : Task) (name : List ℕ) → task_named m.tasks name ≡ Some t → (k : ℕ) × (number_named m.tasks (task_name t) ≡ Some k) × (slice_get m.tasks k ≡ Some t)
named_number m t name h = go (number_named m.tasks (task_name t)) refl
  where
    own : task_named m.tasks (task_name t) ≡ Some t
    own = found_name m name t h

    go : (o : Option ℕ) → number_named m.tasks (task_name t) ≡ o → (k : ℕ) × (number_named m.tasks (task_name t) ≡ Some k) × (slice_get m.tasks k ≡ Some t)
    go None e = let none : None ≡ Some t = sym (none_from 0 m.tasks (task_name t) e) ∙ own in cc
    go (Some k) e =
        let f = found m.tasks (task_name t) k e in
        let both : Some f.task ≡ Some t = sym f.is ∙ own in
        let one : f.task ≡ t = cc in
        (k, e, f.at ∙ ap Some one)

module _ (m : Model) (sound : IsSound m) (k : ℕ) (row : LeafRow) (is : IsLeafRow m k row) where
  abbrev l : Leaf
  l = is.leaf

  module _ (n : ℕ) (lt : n < row.count) (i : Instance) (at : slice_get (instances m) (row.base + n) ≡ Some i) where
    under : n < size l.space
    under = omega (arith, lt, is.count)

    instance_is : i ≡ instance_on l (point_at l.space n)
    instance_is =
        let there : slice_get (instances m) (row.base + n) ≡ Some (instance_on l (point_at l.space n)) = ap (λ b. slice_get (instances m) (b + n)) is.base ∙ instance_at m k l n is.at under in
        let both : Some i ≡ Some (instance_on l (point_at l.space n)) = sym at ∙ there in
        cc

    abbrev with_work : Work → Leaf
    with_work w = record { node = l.node; work = w; space = l.space }

    by_work : (w : Work) → l.work ≡ w → IsOfKind m i row.kind
    by_work (Copies j entries) e =
        let leaf : l ≡ with_work (Copies j entries) = ap with_work e in
        let kind : row.kind ≡ kinds.Copy = is.kind ∙ ap (kind_of m) leaf in
        let P : LeafKind → Type 0 = λ x. IsOfKind m i x in
        let Q : Instance → Type 0 = λ x. IsOfKind m x kinds.Copy in
        let instance = instance_is ∙ ap (λ (x : Leaf). instance_on x (point_at l.space n)) leaf in
        subst P (sym kind) (subst Q (sym instance) (_, _, _, _, refl))
    by_work Computes e =
        let leaf : l ≡ with_work Computes = ap with_work e in
        let t = leaf_task m (length m.tasks) (main_task m) [] tt refl l (get_among (leaves m) k l is.at) e in
        let P : List ℕ → Type 0 = λ s. IsPointOf s (point_at l.space n) in
        let place : task_at m (place_on l.node (point_at l.space n)) ≡ Some (tasks.Elementary t.1.0) =
        task_on m l.node t.0 (point_at l.space n) (subst P t.1.2 (point_at-is l.space n under)) ∙ t.1.1 in
        let number = named_number m (tasks.Elementary t.1.0) (task_name (tasks.Elementary t.1.0)) (task_at_named m (place_on l.node (point_at l.space n)) (tasks.Elementary t.1.0) place) in
        let kind : row.kind ≡ kinds.Elementary number.0 =
        is.kind ∙ (ap (kind_of m) leaf
        ∙ (ap (λ o. kinds.Elementary (unwrap_or (option_and_then (λ u. number_named m.tasks (task_name u)) o) 0)) t.1.1
        ∙ ap (λ o. kinds.Elementary (unwrap_or o 0)) number.1)) in
        let instance : i ≡ Run (place_on l.node (point_at l.space n)) = instance_is ∙ ap (λ (x : Leaf). instance_on x (point_at l.space n)) leaf in
        let Q : LeafKind → Type 0 = λ x. IsOfKind m i x in
        subst Q (sym kind) (place_on l.node (point_at l.space n), t.1.0, instance, place, number.2)

    pub row_kind : IsOfKind m i row.kind
    row_kind = by_work l.work refl

    pub copies_there : row.kind ≡ kinds.Copy → IsOfKind m i kinds.Copy
    copies_there e = let P : LeafKind → Type 0 = λ x. IsOfKind m i x in subst P e row_kind

    pub runs_there : (t : ℕ) → row.kind ≡ kinds.Elementary t → IsOfKind m i (kinds.Elementary t)
    runs_there t e = let P : LeafKind → Type 0 = λ x. IsOfKind m i x in subst P e row_kind

    got : (ts : List Task) (t : ℕ) (u v : Task) → slice_get ts t ≡ Some u → v ≡ get_or ts t v → v ≡ u
    got [] t u v h e = cc
    got (x ∷ ts) zero u v h e = let f : x ≡ u = cc in e ∙ f
    got (x ∷ ts) (suc t) u v h e = got ts t u v h e

    -- the spots of the task that the row names are those of the instance
    pub run_spots : (t : ℕ) → row.kind ≡ kinds.Elementary t → (u : Task) → u ≡ get_or m.tasks t u → (spots : List (ℕ × ℕ)) → spots ≡ places_of_sizes 0 (port_sizes (outputs_of u))
        → (place : Place) × (i ≡ Run place) × (spots ≡ places_of_sizes 0 (written_sizes m i))
    run_spots t e u is_u spots h =
        let r = runs_there t e in
        let task : u ≡ tasks.Elementary r.1 = got m.tasks t (tasks.Elementary r.1) u r.4 is_u in
        let sizes : written_sizes m i ≡ port_sizes (outputs_of (tasks.Elementary r.1)) = ap (written_sizes m) r.2 ∙ ap (λ o. unwrap_or (option_map (λ x. port_sizes (outputs_of x)) o) []) r.3 in
        (r.0, r.2, h ∙ (ap (λ x. places_of_sizes 0 (port_sizes (outputs_of x))) task ∙ ap (places_of_sizes 0) (sym sizes)))

    pub run_read_spots : (t : ℕ) → row.kind ≡ kinds.Elementary t → (u : Task) → u ≡ get_or m.tasks t u → (spots : List (ℕ × ℕ)) → spots ≡ places_of_sizes 0 (port_sizes (inputs_of u)) → spots ≡ places_of_sizes 0 (read_sizes m i)
    run_read_spots t e u is_u spots h =
        let r = runs_there t e in
        let task : u ≡ tasks.Elementary r.1 = got m.tasks t (tasks.Elementary r.1) u r.4 is_u in
        let sizes : read_sizes m i ≡ port_sizes (inputs_of (tasks.Elementary r.1)) = ap (read_sizes m) r.2 ∙ ap (λ o. unwrap_or (option_map (λ x. port_sizes (inputs_of x)) o) []) r.3 in
        h ∙ (ap (λ x. places_of_sizes 0 (port_sizes (inputs_of x))) task ∙ ap (places_of_sizes 0) (sym sizes))

    pub copy_read_spots : row.kind ≡ kinds.Copy → (spots : List (ℕ × ℕ)) → spots ≡ (0, 0) ∷ [] → spots ≡ places_of_sizes 0 (read_sizes m i)
    copy_read_spots e spots h = let r = copies_there e in h ∙ sym (ap (λ x. places_of_sizes 0 (read_sizes m x)) r.4)

  -- the task that the row names is in the list
  pub task_within : (t : ℕ) → row.kind ≡ kinds.Elementary t → t < length m.tasks
  task_within t e =
      let first = some_instance m sound k row is in
      let i = instance_there m k row is 0 first in
      let r = runs_there 0 first i.0 i.1 t e in
      slice_get_within m.tasks t (tasks.Elementary r.1) r.4
