-- The numbers of the instances of a leaf.
use Rattle.std.proofs.Common.{◌≡◌, ℕ, zero, suc, ◌+◌, ◌<◌, ◌≤◌, ◌^◌, List, [], ◌∷◌, ◌++◌, length, map, flat_map, take, Option, Some, None, option_and_then, option_map, unwrap_or, slice_get, get_or, inl, inr, sym, ◌∙◌, ap, refl, arith, subst}
use Rattle.std.specs.List.{IsAmong, AllZip, AllByRecursion, enumerate_from}
use Rattle.std.proofs.lemmas.Option.{slice_get_within}
use Rattle.std.proofs.lemmas.List.{length-map}
use Rattle.aol_shape.specs.Lists.{numbers_from, numbers_below}
use Rattle.aol_shape.specs.Shape.{size, point_at, points, IsPointOf}
use Rattle.aol_shape.proofs.Points.{point_at-is}
use Rattle.aol_model_types.specs.declared.document.Model.{Model}
use Rattle.aol_model_types.specs.declared.task.Elementary.{Elementary}
use Rattle.aol_model_types.specs.declared.task.Part.{Part}
use Rattle.aol_model_types.specs.declared.task.Task.{Task}
use Rattle.aol_model_types.specs.declared.task.Task.TheVariants as tasks
use Rattle.aol_model_types.specs.Rules.{task_name, task_named, inputs_of}
use Rattle.aol_flat.specs.declared.leaf.Leaf.{Leaf as LeafRow}
use Rattle.aol_flat.specs.declared.leaf.LeafKind.{LeafKind}
use Rattle.aol_flat.specs.declared.leaf.LeafKind.TheVariants as kinds
use Rattle.aol_flat.specs.declared.view.Read.{Read}
use Rattle.aol_flat.specs.Tasks.{main_task}
use Rattle.aol_flat.specs.Numbered.{number_named}
use Rattle.aol_flat.specs.Node.{Node, ToPart, ToBody, space_around, place_on, node_task, task_under}
use Rattle.aol_flat.specs.Place.{task_at}
use Rattle.aol_flat.proofs.Among.{among_append, among_map, among_flat_map, get_among}
use Rattle.aol_flat.proofs.Find.{found_name, task_at_named}
use Rattle.aol_flat.proofs.Names.{slice_get-left, slice_get-right}
use Rattle.aol_flat.proofs.SourceBack.{at_number}
use Rattle.aol_flat.proofs.TaskNumbers.{found, none_from}
use Rattle.aol_flat_laws.proofs.NodeTasks.{HasSpaces, task_on}
use Rattle.aol_assign.proofs.ReadingPlaces.{number_count}
use Rattle.aol_flat.specs.Instance.{Leaf, Work, Computes, Copies, leaves, leaves_below, reshape_leaf, Instance, Run, instance_on, leaf_instances, instances, port_sizes, read_sizes}
use Rattle.aol_flat.specs.Place.{Element}
use Rattle.aol_flat.specs.Laid.{Laid, IsReadOf}
use Rattle.aol_expr_tree.specs.declared.port.Port.{Port}
use Rattle.aol_model_types.specs.Types.{IsTask}
use Rattle.aol_flat.specs.declared.view.Read.TheVariants.{Cell, Const}
use Rattle.aol_assign.specs.Holes.{IsWithin}
use Rattle.aol_assign.proofs.Fitting.{limits_of}
use Rattle.aol_flat.specs.Leaves.{IsLeafRow, instances_of, kind_of}
use Rattle.aol_flat.specs.Limits.{IsBounded}
use Rattle.aol_flat.specs.Accept.{IsSound}
use Rattle.aol_flat.proofs.Totals.{length-instances, all_few}
use Rattle.aol_flat_laws.proofs.CellNeeds.{there_at}
use Rattle.aol_flat.specs.Level.{AreReadsOf, AreWritesOf}
use Rattle.aol_flat.specs.Cursor.{IsReadCount}
use Rattle.aol_flat.specs.LeafCursor.{instances_on, leaf_size}
use Rattle.aol_assign.specs.ReadsSoFar.{HasReadSizes}

-- those of one leaf more
more_leaves : (ls : List Leaf) (k : ℕ) (l : Leaf) → slice_get ls k ≡ Some l → instances_of (take (k + 1) ls) ≡ instances_of (take k ls) + size l.space
more_leaves [] k l h = cc
more_leaves (x ∷ ls) zero l h = let e : x ≡ l = cc in let f : size x.space ≡ size l.space = ap (λ (y : Leaf). size y.space) e in let one : 0 + 1 ≡ suc 0 = omega arith in ap (λ n. instances_of (take n (x ∷ ls))) one ∙ plus (size x.space) (size l.space) f
  where
    plus : (a b : ℕ) → a ≡ b → a + 0 ≡ 0 + b
    plus a b e = omega (arith, e)
more_leaves (x ∷ ls) (suc k) l h =
    let rest = more_leaves ls k l h in
    let one : suc k + 1 ≡ suc (k + 1) = omega arith in
    ap (λ n. instances_of (take n (x ∷ ls))) one ∙ plus (size x.space) (instances_of (take (k + 1) ls)) (instances_of (take k ls)) (size l.space) rest
  where
    plus : (a b c d : ℕ) → b ≡ c + d → a + b ≡ (a + c) + d
    plus a b c d e = omega (arith, e)

fewer : (ls : List Leaf) (k : ℕ) → instances_of (take k ls) ≤ instances_of ls
fewer ls zero = omega arith
fewer [] (suc k) = omega arith
fewer (l ∷ ls) (suc k) = let rest = fewer ls k in omega (arith, rest)

module _ (m : Model) (k : ℕ) (row : LeafRow) (is : IsLeafRow m k row) where
  -- the instances after a leaf begin after its count
  pub after_leaf : instances_of (take (k + 1) (leaves m)) ≡ row.base + row.count
  after_leaf = let more = more_leaves (leaves m) k is.leaf is.at in omega (arith, more, is.base, is.count)

  -- each of its instances is listed
  pub number_listed : (n : ℕ) → n < row.count → row.base + n < length (instances m)
  number_listed n lt =
      let all = fewer (leaves m) (k + 1) in
      let many = length-instances m in
      omega (arith, lt, all, many, after_leaf)

  pub instance_there : (n : ℕ) → n < row.count → (i : Instance) × (slice_get (instances m) (row.base + n) ≡ Some i)
  instance_there n lt = there_at (instances m) (row.base + n) (number_listed n lt)

-- a u32 counts them
pub numbers_small : (m : Model) → IsSound m → IsBounded m → length (instances m) < 2 ^ 32
numbers_small m sound bounded = let few = all_few m sound.read bounded in let many = length-instances m in omega (arith, few.instances, many)

-- what a cursor writes, at the leaf and the model of its row
pub moved_writes : (f g : Laid) (leaf base n : ℕ) (cs : List ℕ) → g ≡ f → base ≡ instances_of (take leaf (leaves f.model)) → AreWritesOf g (instances_of (take leaf (leaves g.model)) + n) cs → AreWritesOf f (base + n) cs
moved_writes f g leaf base n cs same at h =
    let P : Laid → Type 0 = λ x. AreWritesOf x (instances_of (take leaf (leaves x.model)) + n) cs in
    let Q : ℕ → Type 0 = λ b. AreWritesOf f (b + n) cs in
    subst Q (sym at) (subst P same h)

-- what a cursor reads, likewise
pub moved_reads : (f g : Laid) (leaf base n : ℕ) (rs : List Read) → g ≡ f → base ≡ instances_of (take leaf (leaves f.model)) → AreReadsOf g (instances_of (take leaf (leaves g.model)) + n) rs → AreReadsOf f (base + n) rs
moved_reads f g leaf base n rs same at h =
    let P : Laid → Type 0 = λ x. AreReadsOf x (instances_of (take leaf (leaves x.model)) + n) rs in
    let Q : ℕ → Type 0 = λ b. AreReadsOf f (b + n) rs in
    subst Q (sym at) (subst P same h)

-- a number under the count of a row is one of an instance of its leaf
pub among_leaf : (f g : Laid) (k : ℕ) (row : LeafRow) → IsLeafRow f.model k row → g ≡ f → (n : ℕ) → n < row.count → n < instances_on g.model k
among_leaf f g k row is same n lt =
    let P : Laid → Type 0 = λ x. n < instances_on x.model k in
    let size_is : instances_on f.model k ≡ size is.leaf.space = ap leaf_size is.at in
    subst P (sym same) (omega (arith, lt, size_is, is.count))

-- how much is read, likewise
pub moved_count : (f g : Laid) (leaf base n many : ℕ) → g ≡ f → base ≡ instances_of (take leaf (leaves f.model)) → IsReadCount g (instances_of (take leaf (leaves g.model)) + n) many → IsReadCount f (base + n) many
moved_count f g leaf base n many same at h =
    let P : Laid → Type 0 = λ x. IsReadCount x (instances_of (take leaf (leaves x.model)) + n) many in
    let Q : ℕ → Type 0 = λ b. IsReadCount f (b + n) many in
    subst Q (sym at) (subst P same h)

-- ---- the instance with a number of a leaf

get_mapped : (g : ℕ → Instance) (a n k : ℕ) → k < n → slice_get (map g (numbers_from a n)) k ≡ Some (g (a + k))
get_mapped g a zero k h = absurd (omega (arith, h))
get_mapped g a (suc n) zero h = let e : a ≡ a + 0 = omega arith in ap (λ j. Some (g j)) e
get_mapped g a (suc n) (suc k) h = let e : (a + 1) + k ≡ a + suc k = omega arith in get_mapped g (a + 1) n k (omega (arith, h)) ∙ ap (λ j. Some (g j)) e

on_points : (l : Leaf) (xs : List ℕ) → map (instance_on l) (map (point_at l.space) xs) ≡ map (λ x. instance_on l (point_at l.space x)) xs
on_points l [] = refl
on_points l (x ∷ xs) = ap (λ is. instance_on l (point_at l.space x) ∷ is) (on_points l xs)

leaf_get : (l : Leaf) (n : ℕ) → n < size l.space → slice_get (leaf_instances l) n ≡ Some (instance_on l (point_at l.space n))
leaf_get l n lt =
    let e : 0 + n ≡ n = omega arith in
    ap (λ is. slice_get is n) (on_points l (numbers_below (size l.space))) ∙ (get_mapped (λ x. instance_on l (point_at l.space x)) 0 (size l.space) n lt ∙ ap (λ k. Some (instance_on l (point_at l.space k))) e)

leaf_length : (l : Leaf) → length (leaf_instances l) ≡ size l.space
leaf_length l = length-map (points l.space) (instance_on l) ∙ (length-map (numbers_below (size l.space)) (point_at l.space) ∙ number_count 0 (size l.space))

all_get : (ls : List Leaf) (k n : ℕ) (l : Leaf) → slice_get ls k ≡ Some l → n < size l.space → slice_get (flat_map leaf_instances ls) (instances_of (take k ls) + n) ≡ Some (instance_on l (point_at l.space n))
all_get [] k n l h lt = cc
all_get (x ∷ ls) zero n l h lt =
    let e : x ≡ l = cc in
    let one : 0 + n ≡ n = omega arith in
    ap (slice_get (leaf_instances x ++ flat_map leaf_instances ls)) one
    ∙ slice_get-left (leaf_instances x) (flat_map leaf_instances ls) n (instance_on l (point_at l.space n)) (ap (λ (y : Leaf). slice_get (leaf_instances y) n) e ∙ leaf_get l n lt)
all_get (x ∷ ls) (suc k) n l h lt =
    let e : (size x.space + instances_of (take k ls)) + n ≡ length (leaf_instances x) + (instances_of (take k ls) + n) = omega (arith, leaf_length x) in
    ap (slice_get (leaf_instances x ++ flat_map leaf_instances ls)) e
    ∙ (slice_get-right (leaf_instances x) (flat_map leaf_instances ls) (instances_of (take k ls) + n) ∙ all_get ls k n l h lt)

-- ---- the task of an elementary leaf

module _ (m : Model) where
  -- a leaf that computes is of an elementary task
  pub leaf_task : (depth : ℕ) (o : Option Task) (node : Node) → HasSpaces m node → node_task m node ≡ o → (l : Leaf) → IsAmong (leaves_below depth m o node) l → l.work ≡ Computes
      → HasSpaces m l.node × ((e : Elementary) × (node_task m l.node ≡ Some (tasks.Elementary e)) × (l.space ≡ space_around l.node))
  leaf_task zero o node s e l a w = absurd (omega (arith, a.1.0))
  leaf_task (suc depth) None node s e l a w = absurd (omega (arith, a.1.0))
  leaf_task (suc depth) (Some (tasks.Elementary t)) node s e l (zero, a) w =
      let P : Leaf → Type 0 = λ x. HasSpaces m x.node × ((e : Elementary) × (node_task m x.node ≡ Some (tasks.Elementary e)) × (x.space ≡ space_around x.node)) in
      subst P (sym a.1) (s, (t, e, refl))
  leaf_task (suc depth) (Some (tasks.Elementary t)) node s e l (suc i, a) w = absurd (omega (arith, a.0))
  leaf_task (suc depth) (Some (tasks.Repeated t)) node s e l a w =
      leaf_task depth (task_named m.tasks t.task) (ToBody t.space ∷ node) ((t, e, refl), s) (ap (option_and_then (λ v. task_under m v (ToBody t.space))) e) l a w
  leaf_task (suc depth) (Some (tasks.Compound c)) node s e l a w =
      let g : ℕ × Part → List Leaf = λ p. leaves_below depth m (task_named m.tasks p.1.task) (ToPart p.0 ∷ node) in
      elim (among_append (flat_map g (enumerate_from 0 c.parts)) (map (reshape_leaf node) (enumerate_from 0 c.reshapes)) l a) [
        | inl b ↦
            let p = among_flat_map g (enumerate_from 0 c.parts) l b in
            let here : node_task m (ToPart p.0.0 ∷ node) ≡ task_named m.tasks p.0.1.task =
            ap (option_and_then (λ t. task_under m t (ToPart p.0.0))) e ∙ ap (option_and_then (λ (q : Part). task_named m.tasks q.task)) (at_number c.parts p.0 p.1) in
            leaf_task depth (task_named m.tasks p.0.1.task) (ToPart p.0.0 ∷ node) s here l p.2 w
        | inr b ↦
            let r = among_map (reshape_leaf node) (enumerate_from 0 c.reshapes) l b in
            let no_work : ◌≡◌ {A = Work} (Copies r.0.0 (length r.0.1.by.space)) Computes = sym (ap (λ (x : Leaf). x.work) r.2) ∙ w in
            cc
      ]

  -- a task that is found under a name has a number under its own
  named_number : (t : Task) (name : List ℕ) → task_named m.tasks name ≡ Some t → (k : ℕ) × (number_named m.tasks (task_name t) ≡ Some k) × (slice_get m.tasks k ≡ Some t)
  named_number t name h = go (number_named m.tasks (task_name t)) refl
    where
      own : task_named m.tasks (task_name t) ≡ Some t
      own = found_name m name t h

      go : (o : Option ℕ) → number_named m.tasks (task_name t) ≡ o → (k : ℕ) × (number_named m.tasks (task_name t) ≡ Some k) × (slice_get m.tasks k ≡ Some t)
      go None e = let no : None ≡ Some t = sym (none_from 0 m.tasks (task_name t) e) ∙ own in cc
      go (Some k) e =
          let f = found m.tasks (task_name t) k e in
          let both : Some f.task ≡ Some t = sym f.is ∙ own in
          let one : f.task ≡ t = cc in
          (k, e, f.at ∙ ap Some one)

-- the sizes that an instance of a row reads
module _ (m : Model) (sound : IsSound m) (k : ℕ) (row : LeafRow) (is : IsLeafRow m k row) (n : ℕ) (lt : n < row.count) (i : Instance) (at : slice_get (instances m) (row.base + n) ≡ Some i) where
  abbrev l : Leaf
  l = is.leaf

  under : n < size l.space
  under = omega (arith, lt, is.count)

  instance_is : i ≡ instance_on l (point_at l.space n)
  instance_is =
      let there : slice_get (instances m) (row.base + n) ≡ Some (instance_on l (point_at l.space n)) =
      ap (λ b. slice_get (instances m) (b + n)) is.base ∙ all_get (leaves m) k n l is.at under in
      let both : Some i ≡ Some (instance_on l (point_at l.space n)) = sym at ∙ there in
      cc

  abbrev with_work : Work → Leaf
  with_work w = record { node = l.node; work = w; space = l.space }

  by_work : (w : Work) → l.work ≡ w → HasReadSizes m i row.kind
  by_work (Copies j entries) e =
      let leaf : l ≡ with_work (Copies j entries) = ap with_work e in
      let kind : row.kind ≡ kinds.Copy = is.kind ∙ ap (kind_of m) leaf in
      let P : LeafKind → Type 0 = λ x. HasReadSizes m i x in
      let instance = instance_is ∙ ap (λ (x : Leaf). instance_on x (point_at l.space n)) leaf in
      subst P (sym kind) (ap (read_sizes m) instance)
  by_work Computes e =
      let leaf : l ≡ with_work Computes = ap with_work e in
      let t = leaf_task m (length m.tasks) (main_task m) [] tt refl l (get_among (leaves m) k l is.at) e in
      let P : List ℕ → Type 0 = λ s. IsPointOf s (point_at l.space n) in
      let place : task_at m (place_on l.node (point_at l.space n)) ≡ Some (tasks.Elementary t.1.0) =
      task_on m l.node t.0 (point_at l.space n) (subst P t.1.2 (point_at-is l.space n under)) ∙ t.1.1 in
      let number = named_number m (tasks.Elementary t.1.0) (task_name (tasks.Elementary t.1.0)) (task_at_named m (place_on l.node (point_at l.space n)) (tasks.Elementary t.1.0) place) in
      let kind : row.kind ≡ kinds.Elementary number.0 =
      is.kind ∙ (ap (kind_of m) leaf
      ∙ (ap (λ o. kinds.Elementary (unwrap_or (option_and_then (λ u. number_named m.tasks (task_name u)) o) 0)) t.1.1
      ∙ ap (λ o. kinds.Elementary (unwrap_or o 0)) number.1)) in
      let instance : i ≡ Run (place_on l.node (point_at l.space n)) = instance_is ∙ ap (λ (x : Leaf). instance_on x (point_at l.space n)) leaf in
      let sizes : read_sizes m i ≡ port_sizes (inputs_of (tasks.Elementary t.1.0)) =
      ap (read_sizes m) instance ∙ ap (λ o. unwrap_or (option_map (λ u. port_sizes (inputs_of u)) o) []) place in
      let Q : LeafKind → Type 0 = λ x. HasReadSizes m i x in
      subst Q (sym kind) (tasks.Elementary t.1.0, number.2, sizes)

  pub row_reads : HasReadSizes m i row.kind
  row_reads = by_work l.work refl

-- ---- reads of an instance

pub run_sizes : (m : Model) (i : Instance) (k : ℕ) (kind : LeafKind) → HasReadSizes m i kind → kind ≡ kinds.Elementary k → (t : Task) × (slice_get m.tasks k ≡ Some t) × (read_sizes m i ≡ port_sizes (inputs_of t))
run_sizes m i k (kinds.Elementary j) (t, at, sizes) e = let number : j ≡ k = cc in (t, ap (slice_get m.tasks) (sym number) ∙ at, sizes)
run_sizes m i k kinds.Copy sizes e = cc

-- the sizes of the inputs of a task that was read from the list are those that its instance reads
pub sizes_read : (m : Model) (i : Instance) (k : ℕ) (kind : LeafKind) (t : Task) → HasReadSizes m i kind → kind ≡ kinds.Elementary k → t ≡ get_or m.tasks k t → read_sizes m i ≡ port_sizes (inputs_of t)
sizes_read m i k kind t has e is =
    let r = run_sizes m i k kind has e in
    let one : r.0 ≡ t = sym (got m.tasks k r.0 r.1) ∙ sym is in
    r.2 ∙ ap (λ u. port_sizes (inputs_of u)) one
  where
    got : (ts : List Task) (k : ℕ) (u : Task) → slice_get ts k ≡ Some u → get_or ts k t ≡ u
    got [] k u h = cc
    got (x ∷ ts) zero u h = let f : x ≡ u = cc in f
    got (x ∷ ts) (suc k) u h = got ts k u h

inputs_few : (t : Task) → IsTask t → length (inputs_of t) < 2 ^ 32
inputs_few (tasks.Elementary e) h = h.in_count
inputs_few (tasks.Compound c) h = h.in_count
inputs_few (tasks.Repeated t) h = h.in_count

pub read_sizes_few : (m : Model) → IsSound m → (i : Instance) (kind : LeafKind) → HasReadSizes m i kind → length (read_sizes m i) < 2 ^ 32
read_sizes_few m sound i (kinds.Elementary k) (t, at, sizes) =
    let few = inputs_few t (limits_of m sound k t at) in
    let many = length-map (inputs_of t) (λ (p : Port). size p.shape) in
    let all = ap length sizes in
    omega (arith, few, many, all)
read_sizes_few m sound i kinds.Copy sizes = let all = ap length sizes in omega (arith, all)

-- cells that are read are cells
pub reads_within : (f : Laid) (list : List (Option ℕ)) → length list ≡ length f.cells → (es : List Element) (rs : List Read) → AllZip (IsReadOf f) es rs → AllByRecursion (IsWithin list) rs
reads_within f list many es [] z = tt
reads_within f list many [] (r ∷ rs) z = absurd z
reads_within f list many (e ∷ es) (Const n ∷ rs) z = (tt, reads_within f list many es rs z.1)
reads_within f list many (e ∷ es) (Cell c ∷ rs) z = let k = slice_get_within f.cells c z.0.home z.0.at_cell in (omega (arith, many, k), reads_within f list many es rs z.1)
