-- The task of a leaf that computes, and what its instances read.
use Rattle.std.proofs.Common.{◌≡◌, ℕ, zero, suc, ◌+◌, ◌-◌, ◌<◌, ◌≤◌, nat_lt, true, false, List, [], ◌∷◌, ◌++◌, length, map, flat_map, take, get_or, Option, Some, None, slice_get, option_map, option_and_then, unwrap_or, codes, sym, ◌∙◌, ap, refl, arith, subst, inl, inr}
use Rattle.std.specs.List.{IsAmong, enumerate_from}
use Rattle.std.proofs.lemmas.Bool.{lt-ltb, le-ltb}
use Rattle.std.proofs.lemmas.List.{length-map}
use Rattle.std.proofs.lemmas.Option.{slice_get-map, slice_get_within}
use Rattle.aol_shape.specs.Lists.{numbers_below}
use Rattle.aol_shape.specs.Shape.{size, point_at, points, IsPointOf}
use Rattle.aol_shape.proofs.Points.{point_at-is}
use Rattle.aol_vsl.specs.Text.{shape_text}
use Rattle.aol_expr_tree.specs.declared.port.Port.{Port}
use Rattle.aol_model_types.specs.declared.document.Model.{Model}
use Rattle.aol_model_types.specs.declared.task.Elementary.{Elementary}
use Rattle.aol_model_types.specs.declared.task.Part.{Part}
use Rattle.aol_model_types.specs.declared.task.Task.{Task}
use Rattle.aol_model_types.specs.declared.task.Task.TheVariants as tasks
use Rattle.aol_model_types.specs.Rules.{task_name, task_named, inputs_of}
use Rattle.aol_flat.specs.Tasks.{main_task}
use Rattle.aol_flat.specs.Place.{task_at}
use Rattle.aol_flat.specs.Node.{Node, ToPart, ToBody, place_on, task_under, node_task}
use Rattle.aol_flat.specs.Numbered.{number_named}
use Rattle.aol_flat.specs.declared.leaf.Leaf.{Leaf as LeafRow}
use Rattle.aol_flat.specs.declared.leaf.LeafKind.TheVariants as kinds
use Rattle.aol_flat.specs.declared.view.Reader.TheVariants.{Instance as ByInstance}
use Rattle.aol_flat.specs.Accept.{IsSound}
use Rattle.aol_flat.specs.Instance.{Leaf, Work, Computes, Copies, reshape_leaf, leaves_below, leaves, Run, instance_on, leaf_instances, read_element, port_element}
use Rattle.aol_flat.specs.Leaves.{instances_of, IsLeafRow, kind_of}
use Rattle.aol_flat.proofs.Among.{among_append, among_map, among_flat_map, among_get, get_among}
use Rattle.aol_flat.proofs.Inside.{number_of_member}
use Rattle.aol_flat.proofs.Names.{slice_get-left, slice_get-right}
use Rattle.aol_flat.proofs.Real.{IsGood, good_part, good_body}
use Rattle.aol_flat.proofs.Subtrees.{named_number}
use Rattle.aol_flat.proofs.Totals.{length-numbers}
use Rattle.aol_allocate.proofs.Points.{point_there}
use Rattle.aol_lines.specs.Instance.{IsInLeaf}
use Rattle.aol_lines.specs.Refused.{IsReadBy, port_words, input_words, input_among}
use Rattle.aol_lines.proofs.Readers.{reads_there, HasPoint, has_point}

-- ---- the task of a leaf that computes

-- the leaf's node and each of its instances have an elementary task, with this number in the task list
pub record IsTaskLeaf (m : Model) (l : Leaf) : Type 0 where
  pub task : Elementary
  pub at_node : node_task m l.node ≡ Some (tasks.Elementary task)
  pub each : (at : List ℕ) → IsPointOf l.space at → instance_on l at ≡ Run (place_on l.node at)
  pub runs : (at : List ℕ) → IsPointOf l.space at → task_at m (place_on l.node at) ≡ Some (tasks.Elementary task)
  pub number : ℕ
  pub named : number_named m.tasks (task_name (tasks.Elementary task)) ≡ Some number
  pub listed : slice_get m.tasks number ≡ Some (tasks.Elementary task)

module _ (m : Model) (sound : IsSound m) where
  tasks_below : (depth : ℕ) (name : List ℕ) (o : Option Task) (node : Node) → task_named m.tasks name ≡ o → node_task m node ≡ o → IsGood m sound o node → (l : Leaf) → IsAmong (leaves_below depth m o node) l → l.work ≡ Computes → IsTaskLeaf m l
  tasks_below zero name o node found e good l a w = absurd (omega (arith, a.1.0))
  tasks_below (suc depth) name None node found e good l a w = absurd (omega (arith, a.1.0))
  tasks_below (suc depth) name (Some (tasks.Elementary t)) node found e good l (suc i, a) w = absurd (omega (arith, a.0))
  tasks_below (suc depth) name (Some (tasks.Elementary t)) node found e good l (zero, a) w =
      let n = named_number m name (tasks.Elementary t) found in
      subst (IsTaskLeaf m) (sym a.1) (record { task = t; at_node = e; each = λ at h. refl; runs = λ at h. good (tasks.Elementary t) refl at h; number = n.0; named = n.3; listed = n.2 })
  tasks_below (suc depth) name (Some (tasks.Repeated t)) node found e good l a w =
      tasks_below depth t.task (task_named m.tasks t.task) (ToBody t.space ∷ node) refl (ap (option_and_then (λ v. task_under m v (ToBody t.space))) e) (good_body m sound t node good) l a w
  tasks_below (suc depth) name (Some (tasks.Compound c)) node found e good l a w =
      let f : ℕ × Part → List Leaf = λ q. leaves_below depth m (task_named m.tasks q.1.task) (ToPart q.0 ∷ node) in
      elim (among_append (flat_map f (enumerate_from 0 c.parts)) (map (reshape_leaf node) (enumerate_from 0 c.reshapes)) l a) [
        | inl b ↦
            let q = among_flat_map f (enumerate_from 0 c.parts) l b in
            let j = number_of_member c.parts 0 q.0 q.1 in
            let number : 0 + j.0 ≡ j.0 = omega arith in
            let listed : slice_get c.parts q.0.0 ≡ Some q.0.1 = ap (slice_get c.parts) (j.1 ∙ number) ∙ j.2 in
            tasks_below depth q.0.1.task (task_named m.tasks q.0.1.task) (ToPart q.0.0 ∷ node) refl
            (ap (option_and_then (λ t. task_under m t (ToPart q.0.0))) e ∙ ap (option_and_then (λ (p : Part). task_named m.tasks p.task)) listed) (good_part m sound c node q.0.0 q.0.1 good listed) l q.2 w
        | inr b ↦
            let q = among_map (reshape_leaf node) (enumerate_from 0 c.reshapes) l b in
            let f : Computes ≡ Copies q.0.0 (length q.0.1.by.space) = sym w ∙ ap (λ (x : Leaf). x.work) q.2 in
            cc
      ]

  pub task_leaf : (k : ℕ) (l : Leaf) → slice_get (leaves m) k ≡ Some l → l.work ≡ Computes → IsTaskLeaf m l
  task_leaf k l at w = tasks_below (length m.tasks) m.main (main_task m) [] refl refl (λ t e x inside. e) l (get_among (leaves m) k l at) w

-- ---- the instance with a number

pub long : (l : Leaf) → length (leaf_instances l) ≡ size l.space
long l = length-map (points l.space) (instance_on l) ∙ (length-map (numbers_below (size l.space)) (point_at l.space) ∙ length-numbers 0 (size l.space))

pub own_instance : (l : Leaf) (j : ℕ) → j < size l.space → slice_get (leaf_instances l) j ≡ Some (instance_on l (point_at l.space j))
own_instance l j within = slice_get-map (instance_on l) (points l.space) j ∙ ap (option_map (instance_on l)) (point_there l.space j within)

pub instance_at : (ls : List Leaf) (k j : ℕ) (l : Leaf) → slice_get ls k ≡ Some l → instances_of (take k ls) ≤ j → j - instances_of (take k ls) < size l.space
    → slice_get (flat_map leaf_instances ls) j ≡ Some (instance_on l (point_at l.space (j - instances_of (take k ls))))
instance_at [] k j l at after within = cc
instance_at (x ∷ ls) zero j l at after within =
    let e : x ≡ l = cc in
    let same : j - 0 ≡ j = omega arith in
    let first : j < size x.space = omega (arith, within, ap (λ (y : Leaf). size y.space) e) in
    slice_get-left (leaf_instances x) (flat_map leaf_instances ls) j (instance_on x (point_at x.space j)) (own_instance x j first)
    ∙ (ap (λ (y : Leaf). Some (instance_on y (point_at y.space j))) e ∙ ap (λ i. Some (instance_on l (point_at l.space i))) (sym same))
instance_at (x ∷ ls) (suc k) j l at after within =
    let rest : j ≡ length (leaf_instances x) + (j - size x.space) = omega (arith, after, long x) in
    let same : j - size x.space - instances_of (take k ls) ≡ j - (size x.space + instances_of (take k ls)) = omega arith in
    ap (slice_get (leaf_instances x ++ flat_map leaf_instances ls)) rest
    ∙ (slice_get-right (leaf_instances x) (flat_map leaf_instances ls) (j - size x.space)
    ∙ (instance_at ls k (j - size x.space) l at (omega (arith, after)) (omega (arith, within)) ∙ ap (λ i. Some (instance_on l (point_at l.space i))) same))

-- ---- the words

-- an instance's words are told by its leaf
pub input_told : (m : Model) (ls : List Leaf) (n j : ℕ) (l : Leaf) (k x : ℕ) → slice_get ls n ≡ Some l → instances_of (take n ls) ≤ j → j - instances_of (take n ls) < size l.space → input_among m ls j k x ≡ input_words m l k x
input_told m [] n j l k x at after within = cc
input_told m (y ∷ ls) zero j l k x at after within =
    let e : y ≡ l = cc in
    let first : nat_lt j (size y.space) ≡ true = lt-ltb j (size y.space) (omega (arith, within, ap (λ (z : Leaf). size z.space) e)) in
    rw first (ap (λ (z : Leaf). input_words m z k x) e)
input_told m (y ∷ ls) (suc n) j l k x at after within =
    let not : nat_lt j (size y.space) ≡ false = le-ltb j (size y.space) (omega (arith, after)) in
    rw not (input_told m ls n (j - size y.space) l k x at (omega (arith, after)) (omega (arith, within)))

-- what a leaf does, by its kind
work_copies : (m : Model) (l : Leaf) → kind_of m l ≡ kinds.Copy → (k x : ℕ) → codes "from" ∷ codes "{}" ∷ [] ≡ input_words m l k x
work_copies m l h k x = go l.work refl h
  where
    go : (w : Work) → l.work ≡ w → kind_of m l ≡ kinds.Copy → codes "from" ∷ codes "{}" ∷ [] ≡ input_words m l k x
    go Computes e f = let g = rw e at f in cc
    go (Copies r n) e f = rw e refl

pub work_computes : (m : Model) (l : Leaf) (number : ℕ) → kind_of m l ≡ kinds.Elementary number → (l.work ≡ Computes) × (number ≡ unwrap_or (option_and_then (λ t. number_named m.tasks (task_name t)) (node_task m l.node)) 0)
work_computes m l number h = go l.work refl h
  where
    go : (w : Work) → l.work ≡ w → kind_of m l ≡ kinds.Elementary number → (l.work ≡ Computes) × (number ≡ unwrap_or (option_and_then (λ t. number_named m.tasks (task_name t)) (node_task m l.node)) 0)
    go Computes e f = (e, (let g = rw e at f in cc))
    go (Copies r n) e f = let g = rw e at f in cc

-- a copy's input
pub copy_input : (m : Model) (j n : ℕ) (row : LeafRow) (k x : ℕ) → IsInLeaf m j n → IsLeafRow m n row → row.kind ≡ kinds.Copy → codes "from" ∷ codes "{}" ∷ [] ≡ input_among m (leaves m) j k x
copy_input m j n row k x i r h =
    let both : Some r.leaf ≡ Some i.work = sym r.at ∙ i.at in
    let one : r.leaf ≡ i.work = cc in
    work_copies m r.leaf (sym r.kind ∙ h) k x ∙ (ap (λ (l : Leaf). input_words m l k x) one ∙ sym (input_told m (leaves m) n j i.work k x i.at i.after i.within))

-- an input of a task
pub record IsTaskInput (m : Model) (j k x number : ℕ) : Type 0 where
  pub task : Task
  pub listed : slice_get m.tasks number ≡ Some task
  pub port : Port
  pub at : slice_get (inputs_of task) k ≡ Some port
  pub within : x < size port.shape
  pub words : port.name ∷ shape_text (point_at port.shape x) ∷ [] ≡ input_among m (leaves m) j k x

pub task_input : (m : Model) (j n : ℕ) (row : LeafRow) (k x number : ℕ) → IsSound m → IsReadBy m (ByInstance j) k x → IsInLeaf m j n → IsLeafRow m n row → row.kind ≡ kinds.Elementary number → IsTaskInput m j k x number
task_input m j n row k x number sound read i r h =
    let both : Some r.leaf ≡ Some i.work = sym r.at ∙ i.at in
    let one : r.leaf ≡ i.work = cc in
    let l = i.work in
    let works = work_computes m l number (sym (ap (kind_of m) one) ∙ (sym r.kind ∙ h)) in
    let t = task_leaf m sound n l i.at works.0 in
    let at : List ℕ = point_at l.space (j - instances_of (take n (leaves m))) in
    let inside : IsPointOf l.space at = point_at-is l.space (j - instances_of (take n (leaves m))) i.within in
    let reads = reads_there m j k x read in
    let same : Some reads.instance ≡ Some (Run (place_on l.node at)) = sym reads.at ∙ (instance_at (leaves m) n j l i.at i.after i.within ∙ ap Some (t.each at inside)) in
    let run : reads.instance ≡ Run (place_on l.node at) = cc in
    let element : port_element (place_on l.node at) t.task.ins k x ≡ Some reads.element =
    sym (ap (option_and_then (λ u. port_element (place_on l.node at) (inputs_of u) k x)) (t.runs at inside)) ∙ (sym (ap (λ y. read_element m y k x) run) ∙ reads.there) in
    let p = has_point (place_on l.node at) t.task.ins k x reads.element element in
    let named : number ≡ t.number = works.1 ∙ (ap (λ o. unwrap_or (option_and_then (λ u. number_named m.tasks (task_name u)) o) 0) t.at_node ∙ ap (λ o. unwrap_or o 0) t.named) in
    let words : input_words m l k x ≡ p.port.name ∷ shape_text (point_at p.port.shape x) ∷ [] =
    input_is l works.0 ∙ (ap (λ o. port_words (unwrap_or (option_map inputs_of o) []) k x) t.at_node
    ∙ ap (λ o. unwrap_or (option_map (λ (q : Port). q.name ∷ shape_text (point_at q.shape x) ∷ []) o) []) p.at) in
    record {
      task = tasks.Elementary t.task;
      listed = ap (slice_get m.tasks) named ∙ t.listed;
      port = p.port;
      at = p.at;
      within = p.within;
      words = sym words ∙ sym (input_told m (leaves m) n j l k x i.at i.after i.within);
    }
  where
    input_is : (l : Leaf) → l.work ≡ Computes → input_words m l k x ≡ port_words (unwrap_or (option_map inputs_of (node_task m l.node)) []) k x
    input_is l e = rw e refl

-- the same by the task that stands in the list
pub record IsInputOf (m : Model) (j k x : ℕ) (t : Task) : Type 0 where
  pub point : HasPoint (inputs_of t) k x
  pub words : (q : Port) → slice_get (inputs_of t) k ≡ Some q → q.name ∷ shape_text (point_at q.shape x) ∷ [] ≡ input_among m (leaves m) j k x

pub input_of : (m : Model) (j k x number : ℕ) (t : Task) (ts : List Task) → ts ≡ m.tasks → t ≡ get_or ts number t → IsTaskInput m j k x number → IsInputOf m j k x t
input_of m j k x number t ts same is i =
    let here : slice_get m.tasks number ≡ Some t = among_get m.tasks number t (slice_get_within m.tasks number i.task i.listed) (is ∙ ap (λ us. get_or us number t) same) in
    let both : Some i.task ≡ Some t = sym i.listed ∙ here in
    let one : i.task ≡ t = cc in
    let at : slice_get (inputs_of t) k ≡ Some i.port = sym (ap (λ (u : Task). slice_get (inputs_of u) k) one) ∙ i.at in
    record {
      point = record { port = i.port; at = at; within = i.within };
      words = λ q found.
          let ports : Some q ≡ Some i.port = sym found ∙ at in
          let port : q ≡ i.port = cc in
          ap (λ (p : Port). p.name ∷ shape_text (point_at p.shape x) ∷ []) port ∙ i.words;
    }
