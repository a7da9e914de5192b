-- Where a read ends: the main input, or the output of an instance, that is told.
use Rattle.std.proofs.Common.{◌≡◌, ℕ, zero, suc, ◌-◌, ◌<◌, ◌≤◌, nat_lt, true, false, List, [], ◌∷◌, take, length, get_or, Option, Some, None, slice_get, option_map, option_and_then, unwrap_or, sym, ◌∙◌, ap, refl, arith, subst}
use Rattle.std.proofs.lemmas.Bool.{lt-ltb, le-ltb}
use Rattle.std.proofs.lemmas.Option.{slice_get-map, slice_get_within}
use Rattle.aol_shape.specs.Shape.{size, point_at, IsPointOf, rank}
use Rattle.aol_shape.proofs.Points.{point_at-is, rank-lt-size}
use Rattle.aol_vsl.specs.Text.{shape_text}
use Rattle.aol_expr_tree.specs.declared.port.Port.{Port}
use Rattle.aol_model_types.specs.declared.document.Model.{Model}
use Rattle.aol_model_types.specs.declared.task.Elementary.{Elementary}
use Rattle.aol_model_types.specs.declared.task.OutPort.{OutPort}
use Rattle.aol_model_types.specs.declared.task.Task.{Task}
use Rattle.aol_model_types.specs.declared.task.Task.TheVariants as tasks
use Rattle.aol_model_types.specs.Rules.{task_name, inputs_of, outputs_of}
use Rattle.aol_flat.specs.Accept.{IsSound}
use Rattle.aol_flat.specs.Equation.{MainInput, ElementaryOutput}
use Rattle.aol_flat.specs.Instance.{Instance, Leaf, Work, Computes, Copies, leaves, instances, Run, instance_on}
use Rattle.aol_flat.specs.Keep.{EndsAt, at_input, at_number, at_output, by_following, by_copying}
use Rattle.aol_flat.specs.Leaves.{instances_of, IsLeafRow, kind_of}
use Rattle.aol_flat.specs.Node.{place_on, node_task}
use Rattle.aol_flat.specs.Numbered.{number_named}
use Rattle.aol_flat.specs.Place.{Place, Element, task_at}
use Rattle.aol_flat.specs.Tasks.{main_task, main_inputs}
use Rattle.aol_flat.specs.declared.leaf.Leaf.{Leaf as LeafRow}
use Rattle.aol_flat.specs.declared.leaf.LeafKind.TheVariants as kinds
use Rattle.aol_flat.specs.declared.view.End.{End}
use Rattle.aol_flat.specs.declared.view.End.TheVariants.{Input, Const, Made}
use Rattle.aol_flat.proofs.Among.{among_get}
use Rattle.aol_lines.specs.Instance.{IsInLeaf}
use Rattle.aol_lines.specs.Refused.{port_words}
use Rattle.aol_lines.proofs.LeafTasks.{task_leaf, instance_at, work_computes}
use Rattle.aol_lines.proofs.Readers.{HasPoint}
use Rattle.aol_step_lines.specs.Words.{output_among}

-- ---- what an end is

-- a main input with such a point
pub record IsMainEnd (m : Model) (k x : ℕ) : Type 0 where
  pub task : Task
  pub main : main_task m ≡ Some task
  pub point : HasPoint (inputs_of task) k x

-- an output of an elementary instance with such a point
pub record IsMadeEnd (m : Model) (j k x : ℕ) : Type 0 where
  pub place : Place
  pub at : slice_get (instances m) j ≡ Some (Run place)
  pub task : Elementary
  pub runs : task_at m place ≡ Some (tasks.Elementary task)
  pub out : OutPort
  pub listed : slice_get task.outs k ≡ Some out
  pub within : x < size out.port.shape

pub main_end : (m : Model) (p : Element) (e : End) (k x : ℕ) → EndsAt m p e → e ≡ Input k x → IsMainEnd m k x
main_end m p _ k x (at_input i) h =
    let number : i.number ≡ k = cc in
    let point : rank i.port.shape p.index ≡ x = cc in
    record {
      task = i.task;
      main = i.at_place;
      point = record { port = i.port; at = ap (slice_get (inputs_of i.task)) (sym number) ∙ i.listed; within = subst (λ y. y < size i.port.shape) point (rank-lt-size i.port.shape p.index i.inside) };
    }
main_end m p _ k x (at_number d) h = cc
main_end m p _ k x (at_output o j at) h = cc
main_end m p e k x (by_following {q = q} f d) h = main_end m q e k x d h
main_end m p e k x (by_copying {q = q} f d) h = main_end m q e k x d h

pub made_end : (m : Model) (p : Element) (e : End) (j k x : ℕ) → EndsAt m p e → e ≡ Made j k x → IsMadeEnd m j k x
made_end m p _ j k x (at_input i) h = cc
made_end m p _ j k x (at_number d) h = cc
made_end m p _ j k x (at_output o n at) h =
    let instance : n ≡ j = cc in
    let number : o.number ≡ k = cc in
    let point : rank o.out.port.shape p.index ≡ x = cc in
    record {
      place = p.place;
      at = ap (slice_get (instances m)) (sym instance) ∙ at;
      task = o.task;
      runs = o.at_place;
      out = o.out;
      listed = ap (slice_get o.task.outs) (sym number) ∙ o.listed;
      within = subst (λ y. y < size o.out.port.shape) point (rank-lt-size o.out.port.shape p.index o.inside);
    }
made_end m p e j k x (by_following {q = q} f d) h = made_end m q e j k x d h
made_end m p e j k x (by_copying {q = q} f d) h = made_end m q e j k x d h

-- there is a main task, whose inputs have the point
pub no_main : (m : Model) (k x : ℕ) → IsMainEnd m k x → main_task m ≡ None → ⊥
no_main m k x e none = let both : Some e.task ≡ None = sym e.main ∙ none in cc

pub main_point : (m : Model) (t : Task) (k x : ℕ) → main_task m ≡ Some t → IsMainEnd m k x → HasPoint (inputs_of t) k x
main_point m t k x at e =
    let both : Some e.task ≡ Some t = sym e.main ∙ at in
    let one : e.task ≡ t = cc in
    subst (λ (u : Task). HasPoint (inputs_of u) k x) one e.point

-- ---- its words

-- the words of a main input's element
pub main_words : (m : Model) (t : Task) (port : Port) (k x : ℕ) → main_task m ≡ Some t → slice_get (inputs_of t) k ≡ Some port → port.name ∷ shape_text (point_at port.shape x) ∷ [] ≡ port_words (main_inputs m) k x
main_words m t port k x main at =
    sym (ap (λ o. port_words (unwrap_or (option_map inputs_of o) []) k x) main ∙ ap (λ o. unwrap_or (option_map (λ (q : Port). q.name ∷ shape_text (point_at q.shape x) ∷ []) o) []) at)

-- an instance's words are told by its leaf
output_told : (m : Model) (ls : List Leaf) (n j : ℕ) (l : Leaf) (k x : ℕ) → slice_get ls n ≡ Some l → instances_of (take n ls) ≤ j → j - instances_of (take n ls) < size l.space
    → output_among m ls j k x ≡ port_words (unwrap_or (option_map outputs_of (node_task m l.node)) []) k x
output_told m [] n j l k x at after within = cc
output_told m (y ∷ ls) zero j l k x at after within =
    let e : y ≡ l = cc in
    let first : nat_lt j (size y.space) ≡ true = lt-ltb j (size y.space) (omega (arith, within, ap (λ (z : Leaf). size z.space) e)) in
    rw first (ap (λ (z : Leaf). port_words (unwrap_or (option_map outputs_of (node_task m z.node)) []) k x) e)
output_told m (y ∷ ls) (suc n) j l k x at after within =
    let not : nat_lt j (size y.space) ≡ false = le-ltb j (size y.space) (omega (arith, after)) in
    rw not (output_told m ls n (j - size y.space) l k x at (omega (arith, after)) (omega (arith, within)))

-- ---- by the rows of the leaves

-- an instance that runs is of no leaf of copies
pub no_copies : (m : Model) (j n k x : ℕ) (row : LeafRow) → IsMadeEnd m j k x → IsInLeaf m j n → IsLeafRow m n row → row.kind ≡ kinds.Copy → ⊥
no_copies m j n k x row made i r h =
    let both : Some r.leaf ≡ Some i.work = sym r.at ∙ i.at in
    let one : r.leaf ≡ i.work = cc in
    let l = i.work in
    let at : List ℕ = point_at l.space (j - instances_of (take n (leaves m))) in
    let same : Some (Run made.place) ≡ Some (instance_on l at) = sym made.at ∙ instance_at (leaves m) n j l i.at i.after i.within in
    go l.work refl (sym (ap (kind_of m) one) ∙ (sym r.kind ∙ h)) same
  where
    go : (w : Work) → i.work.work ≡ w → kind_of m i.work ≡ kinds.Copy → Some (Run made.place) ≡ Some (instance_on i.work (point_at i.work.space (j - instances_of (take n (leaves m))))) → ⊥
    go Computes e f g = let k = rw e at f in cc
    go (Copies a b) e f g = let k = rw e at g in cc

-- an output of the task with this number
pub record IsTaskOutput (m : Model) (j k x number : ℕ) : Type 0 where
  pub task : Task
  pub listed : slice_get m.tasks number ≡ Some task
  pub port : Port
  pub at : slice_get (outputs_of task) k ≡ Some port
  pub within : x < size port.shape
  pub words : port.name ∷ shape_text (point_at port.shape x) ∷ [] ≡ output_among m (leaves m) j k x

pub task_output : (m : Model) (j n : ℕ) (row : LeafRow) (k x number : ℕ) → IsSound m → IsMadeEnd m j k x → IsInLeaf m j n → IsLeafRow m n row → row.kind ≡ kinds.Elementary number → IsTaskOutput m j k x number
task_output m j n row k x number sound made i r h =
    let both : Some r.leaf ≡ Some i.work = sym r.at ∙ i.at in
    let one : r.leaf ≡ i.work = cc in
    let l = i.work in
    let works = work_computes m l number (sym (ap (kind_of m) one) ∙ (sym r.kind ∙ h)) in
    let t = task_leaf m sound n l i.at works.0 in
    let at : List ℕ = point_at l.space (j - instances_of (take n (leaves m))) in
    let inside : IsPointOf l.space at = point_at-is l.space (j - instances_of (take n (leaves m))) i.within in
    let same : Some (Run made.place) ≡ Some (Run (place_on l.node at)) = sym made.at ∙ (instance_at (leaves m) n j l i.at i.after i.within ∙ ap Some (t.each at inside)) in
    let place : made.place ≡ place_on l.node at = cc in
    let tasks_same : Some (tasks.Elementary made.task) ≡ Some (tasks.Elementary t.task) = sym made.runs ∙ (ap (task_at m) place ∙ t.runs at inside) in
    let task : made.task ≡ t.task = cc in
    let port_at : slice_get (outputs_of (tasks.Elementary t.task)) k ≡ Some made.out.port =
    slice_get-map (λ (o : OutPort). o.port) t.task.outs k ∙ ap (option_map (λ (o : OutPort). o.port)) (ap (λ (e : Elementary). slice_get e.outs k) (sym task) ∙ made.listed) in
    let named : number ≡ t.number = works.1 ∙ (ap (λ o. unwrap_or (option_and_then (λ u. number_named m.tasks (task_name u)) o) 0) t.at_node ∙ ap (λ o. unwrap_or o 0) t.named) in
    let words : output_among m (leaves m) j k x ≡ made.out.port.name ∷ shape_text (point_at made.out.port.shape x) ∷ [] =
    output_told m (leaves m) n j l k x i.at i.after i.within ∙ (ap (λ o. port_words (unwrap_or (option_map outputs_of o) []) k x) t.at_node
    ∙ ap (λ o. unwrap_or (option_map (λ (q : Port). q.name ∷ shape_text (point_at q.shape x) ∷ []) o) []) port_at) in
    record {
      task = tasks.Elementary t.task;
      listed = ap (slice_get m.tasks) named ∙ t.listed;
      port = made.out.port;
      at = port_at;
      within = made.within;
      words = sym words;
    }

-- the same by the task that stands in the list
pub record IsOutputOf (m : Model) (j k x : ℕ) (t : Task) : Type 0 where
  pub point : HasPoint (outputs_of t) k x
  pub words : (q : Port) → slice_get (outputs_of t) k ≡ Some q → q.name ∷ shape_text (point_at q.shape x) ∷ [] ≡ output_among m (leaves m) j k x

pub output_of : (m : Model) (j k x number : ℕ) (t : Task) (ts : List Task) → ts ≡ m.tasks → t ≡ get_or ts number t → IsTaskOutput m j k x number → IsOutputOf m j k x t
output_of m j k x number t ts same is i =
    let here : slice_get m.tasks number ≡ Some t = among_get m.tasks number t (slice_get_within m.tasks number i.task i.listed) (is ∙ ap (λ us. get_or us number t) same) in
    let both : Some i.task ≡ Some t = sym i.listed ∙ here in
    let one : i.task ≡ t = cc in
    let at : slice_get (outputs_of t) k ≡ Some i.port = sym (ap (λ (u : Task). slice_get (outputs_of u) k) one) ∙ i.at in
    record {
      point = record { port = i.port; at = at; within = i.within };
      words = λ q found.
          let ports : Some q ≡ Some i.port = sym found ∙ at in
          let port : q ≡ i.port = cc in
          ap (λ (p : Port). p.name ∷ shape_text (point_at p.shape x) ∷ []) port ∙ i.words;
    }
