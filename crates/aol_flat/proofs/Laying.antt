-- What a walk over all nodes finds are the tables of the model.
use Rattle.std.proofs.Common.{◌≡◌, ℕ, zero, suc, ◌+◌, ◌<◌, ◌≤◌, List, [], ◌∷◌, length, take, get_or, Option, Some, None, Ok, slice_get, string_bytes, sym, ◌∙◌, ap, refl, arith, subst, ◌⊎◌, inl, inr}
use Rattle.std.proofs.lemmas.List.{append-nil}
use Rattle.aol_shape.specs.declared.limit.LimitName.{LimitName}
use Rattle.aol_shape.specs.Shape.{size}
use Rattle.aol_model_types.specs.declared.document.Model.{Model}
use Rattle.aol_model_types.specs.declared.task.Task.{Task}
use Rattle.aol_flat.specs.declared.leaf.Leaf.{Leaf as LeafRow}
use Rattle.aol_flat.specs.declared.refused.FlatRefused.{FlatRefused}
use Rattle.aol_flat.specs.declared.refused.FlatRefused.TheVariants.{Limit, NoMemory}
use Rattle.aol_flat.specs.declared.spot.Spot.{Spot}
use Rattle.aol_flat.specs.declared.tables.Tables.{Tables}
use Rattle.aol_flat.specs.declared.walk.Walk.{Walk}
use Rattle.aol_flat.specs.Accept.{IsSound}
use Rattle.aol_flat.specs.Instance.{Leaf, leaves_below, leaves, instances}
use Rattle.aol_flat.specs.Leaves.{narrowed, row_of, rows_after, instances_of, IsLeafRow}
use Rattle.aol_flat.specs.Limits.{max_walk, first_past, IsBounded}
use Rattle.aol_flat.specs.Node.{Node, nodes_below, nodes, node_path}
use Rattle.aol_flat.specs.NodeTables.{AreNodeTables}
use Rattle.aol_flat.specs.Numbered.{number_named}
use Rattle.aol_flat.specs.Tables.{AreTablesOf, IsFirstLimit}
use Rattle.aol_flat.specs.Tasks.{main_task}
use Rattle.aol_flat.specs.Walked.{IsSpot, StandsAt, HasPassed, PassesLimit, GoesOver, GoesBelow}
use Rattle.aol_flat.proofs.TaskNumbers.{found, first_of_own, none_from}
use Rattle.aol_flat.proofs.Totals.{all_few, length-instances}
use Rattle.aol_flat.proofs.Visiting.{Answer, no_nodes, no_leaves}
use Rattle.aol_flat.proofs.Walking.{stays, narrowed-saturated}

module _ (m : Model) where
  -- ---- the root

  -- a model without its main task has no nodes
  pub no_main : (walk : Walk) (done : Unit {0}) → number_named m.tasks m.main ≡ None → GoesOver m (nodes m) (leaves m) walk walk (Ok done)
  no_main walk done none =
      let missing : main_task m ≡ None = none_from 0 m.tasks m.main none in
      let nodes_are : nodes m ≡ [] = ap (λ t. nodes_below (length m.tasks) m t []) missing ∙ no_nodes m (length m.tasks) [] in
      let leaves_are : leaves m ≡ [] = ap (λ t. leaves_below (length m.tasks) m t []) missing ∙ no_leaves m (length m.tasks) [] in
      let P : List (Node × Task) → Type 0 = λ ns. GoesOver m ns (leaves m) walk walk (Ok done) in
      let Q : List Leaf → Type 0 = λ ls. GoesOver m [] ls walk walk (Ok done) in
      subst P (sym nodes_are) (subst Q (sym leaves_are) (stays m walk done))

  -- a walk below the root is one over all nodes
  pub from_root : (spot : Spot) (s0 s1 : Walk) (number : ℕ) (answer : Answer) → number_named m.tasks m.main ≡ Some number
      → spot.depth ≡ 1 → spot.space ≡ [] → string_bytes spot.path ≡ [] → GoesBelow m number spot s0 s1 answer → GoesOver m (nodes m) (leaves m) s0 s1 answer
  from_root spot s0 s1 number answer named depth space path goes =
      let f = found m.tasks m.main number named in
      let stands : StandsAt m [] number f.task = record { at_node = f.is; listed = f.at; first = first_of_own m.tasks m.main number named } in
      let at : IsSpot m [] spot = record { depth = depth; space = space; path = path } in
      let P : Option Task → Type 0 = λ t. GoesOver m (nodes_below (length m.tasks) m t []) (leaves_below (length m.tasks) m t []) s0 s1 answer in
      subst P (sym f.is) (goes [] f.task (length m.tasks) at stands f.within)

  -- nothing is passed before the walk
  pub nothing_passed : (walk : Walk) → walk.counts.nodes ≡ 0 → walk.counts.walk ≡ 0 → walk.counts.work ≡ 0 → walk.instances ≡ 0 → walk.leaves ≡ [] → HasPassed m [] [] walk
  nothing_passed walk n w k instances rows = record {
    counts = λ rest. ap (λ z. first_past z 0 0 rest) (sym n) ∙ (ap (λ z. first_past walk.counts.nodes z 0 rest) (sym w) ∙ ap (λ z. first_past walk.counts.nodes walk.counts.walk z rest) (sym k));
    instances = instances;
    rows = rows;
  }

  -- ---- the end

  -- no limit is passed
  pub bounded : (walk : Walk) → HasPassed m (nodes m) (leaves m) walk → IsBounded m
  bounded walk passed = ap (first_past 0 0 0) (sym (append-nil (nodes m))) ∙ passed.counts []

  -- the tables are those of the model
  pub tables : (walk : Walk) (rows : List LeafRow) (count : ℕ) (of_nodes : Tables) → IsSound m → HasPassed m (nodes m) (leaves m) walk → rows ≡ walk.leaves → count ≡ narrowed walk.instances
      → AreNodeTables m of_nodes → AreTablesOf m rows count of_nodes
  tables walk rows count of_nodes sound passed are is nodes_are = record {
    sound = sound;
    limits = bounded walk passed;
    rows_are = are ∙ passed.rows;
    count_is = is ∙ (ap narrowed passed.instances ∙ narrowed-saturated m (instances_of (leaves m)));
    nodes_are = nodes_are;
  }

  -- the limit that is told is the first
  pub limit_told : (e : FlatRefused) (path : List ℕ) (limit : LimitName) → (e ≡ NoMemory) ⊎ PassesLimit m (nodes m) e → e ≡ Limit path limit → IsFirstLimit m path limit
  limit_told e path limit (inl h) is = cc
  limit_told e path limit (inr p) is =
      let same_path : path ≡ node_path m p.node = let told = p.told in cc in
      let same_limit : p.limit ≡ limit = let told = p.told in cc in
      record {
        node = p.node;
        first = ap (first_past 0 0 0) (sym (append-nil (nodes m))) ∙ (p.first [] ∙ ap (λ (l : LimitName). Some (p.node, l)) same_limit);
        path_is = same_path;
      }

  -- ---- what the tables answer

  length-rows : (before : ℕ) (ls : List Leaf) → length (rows_after m before ls) ≡ length ls
  length-rows before [] = refl
  length-rows before (l ∷ ls) = ap suc (length-rows (before + size l.space) ls)

  exact : (n : ℕ) → n ≤ max_walk → narrowed n ≡ n
  exact n h = omega arith

  -- the row of a number, and its leaf
  record IsRowAt (before : ℕ) (ls : List Leaf) (k : ℕ) (row : LeafRow) : Type 0 where
    leaf : Leaf
    at : slice_get ls k ≡ Some leaf
    is : row ≡ row_of m (before + instances_of (take k ls)) leaf
    few : instances_of (take k ls) + size leaf.space ≤ instances_of ls

  row_at : (before : ℕ) (ls : List Leaf) (k : ℕ) (row : LeafRow) → k < length ls → row ≡ get_or (rows_after m before ls) k row → IsRowAt before ls k row
  row_at before [] k row lt is = absurd (omega (arith, lt))
  row_at before (l ∷ ls) zero row lt is =
      let none : before ≡ before + 0 = omega arith in
      record { leaf = l; at = refl; is = is ∙ ap (λ n. row_of m n l) none; few = omega arith }
  row_at before (l ∷ ls) (suc k) row lt is =
      let r = row_at (before + size l.space) ls k row (omega (arith, lt)) is in
      let regroup : (before + size l.space) + instances_of (take k ls) ≡ before + (size l.space + instances_of (take k ls)) = omega arith in
      record { leaf = r.leaf; at = r.at; is = r.is ∙ ap (λ n. row_of m n r.leaf) regroup; few = omega (arith, r.few) }

  module _ (rows : List LeafRow) (count : ℕ) (of_nodes : Tables) (t : AreTablesOf m rows count of_nodes) where
    -- the leaves are counted by the rows, and a u32 counts them
    pub count_leaves : (length rows ≡ length (leaves m)) × (length (leaves m) ≤ max_walk)
    count_leaves =
        let few = all_few m t.sound.read t.limits in
        (ap length t.rows_are ∙ length-rows 0 (leaves m), omega (arith, few.leaves, few.instances))

    -- the row of a leaf
    pub leaf_row : (k : ℕ) (row : LeafRow) → k < length (leaves m) → row ≡ get_or rows k row → IsLeafRow m k row
    leaf_row k row lt is =
        let few = all_few m t.sound.read t.limits in
        let r = row_at 0 (leaves m) k row lt (is ∙ ap (λ rs. get_or rs k row) t.rows_are) in
        let base_is : row.base ≡ narrowed (0 + instances_of (take k (leaves m))) = ap (λ (x : LeafRow). x.base) r.is in
        let count_is : row.count ≡ narrowed (size r.leaf.space) = ap (λ (x : LeafRow). x.count) r.is in
        let none : 0 + instances_of (take k (leaves m)) ≡ instances_of (take k (leaves m)) = omega arith in
        record {
          leaf = r.leaf;
          at = r.at;
          path = ap (λ (x : LeafRow). x.path) r.is;
          space = ap (λ (x : LeafRow). x.space) r.is;
          base = base_is ∙ (ap narrowed none ∙ exact (instances_of (take k (leaves m))) (omega (arith, r.few, few.instances)));
          count = count_is ∙ exact (size r.leaf.space) (omega (arith, r.few, few.instances));
          kind = ap (λ (x : LeafRow). x.kind) r.is;
        }

    -- the number of instances
    pub count_instances : count ≡ length (instances m)
    count_instances =
        let few = all_few m t.sound.read t.limits in
        t.count_is ∙ (exact (instances_of (leaves m)) few.instances ∙ sym (length-instances m))
