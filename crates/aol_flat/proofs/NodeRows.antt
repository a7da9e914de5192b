-- What the tables of nodes answer.
use Rattle.std.proofs.Common.{◌≡◌, ℕ, zero, suc, ◌+◌, ◌<◌, ◌≤◌, List, [], ◌∷◌, ◌++◌, length, flat_map, take, drop, get_or, Some, slice_get, sym, ◌∙◌, ap, refl, arith, subst}
use Rattle.std.specs.List.{enumerate_from}
use Rattle.std.proofs.lemmas.Option.{slice_get_within}
use Rattle.aol_model_types.specs.declared.document.Model.{Model}
use Rattle.aol_model_types.specs.declared.task.Compound.{Compound}
use Rattle.aol_model_types.specs.declared.task.Part.{Part}
use Rattle.aol_model_types.specs.declared.task.Task.{Task}
use Rattle.aol_model_types.specs.declared.task.Task.TheVariants as tasks
use Rattle.aol_model_types.specs.Rules.{task_named}
use Rattle.aol_flat.specs.declared.nodes.LeafSpot.{LeafSpot}
use Rattle.aol_flat.specs.declared.nodes.NodeRow.{NodeRow}
use Rattle.aol_flat.specs.declared.tables.Tables.{Tables}
use Rattle.aol_flat.specs.Accept.{IsSound}
use Rattle.aol_flat.specs.Instance.{Leaf, leaves}
use Rattle.aol_flat.specs.Leaves.{narrowed}
use Rattle.aol_flat.specs.Limits.{max_node_count, IsBounded}
use Rattle.aol_flat.specs.Node.{Node, ToPart, nodes_below, nodes}
use Rattle.aol_flat.specs.NodeTable.{IsNode, IsAbove, IsNodeRow, HasPart, IsPartNode, IsLeafSpot, reshape_number}
use Rattle.aol_flat.specs.NodeTable as table
use Rattle.aol_flat.specs.NodeTables.{AreNodeTables}
use Rattle.aol_flat.specs.Placed.{IsReached, at_root, by_part, by_body, IsRowAmong, AreRowsAmong, IsSpotAmong, AreSpotsAmong}
use Rattle.aol_flat.specs.Walked.{nodes_in}
use Rattle.aol_flat.proofs.Among.{get_among, map_among}
use Rattle.aol_flat.proofs.Names.{slice_get-left, slice_get-right}
use Rattle.aol_flat.proofs.Narrow.{few_nodes, small_node, few_around, small_leaf}
use Rattle.aol_flat.proofs.Order.{stand_on_earlier}
use Rattle.aol_flat.proofs.Placing.{length_rows}
use Rattle.aol_flat.proofs.Subtrees.{subtree, part_task, named_number}
use Rattle.aol_flat.proofs.Visiting.{numbered_rest, nodes_under, nodes_split}

pub row_at : (m : Model) (ns : List (Node × Task)) (k : ℕ) (xs : List (Node × Task)) (rows : List NodeRow) (i : ℕ) (x : Node × Task) (row : NodeRow)
    → AreRowsAmong m ns k xs rows → slice_get xs i ≡ Some x → row ≡ get_or rows i row → IsRowAmong m ns (k + i) x row
row_at m ns k [] rows i x row h at is = cc
row_at m ns k (y ∷ xs) [] i x row h at is = elim h [ ]
row_at m ns k (y ∷ xs) (r ∷ rows) zero x row h at is =
    let none : k ≡ k + 0 = omega arith in
    let here : y ≡ x = cc in
    subst (λ n. IsRowAmong m ns n x row) none (subst (λ z. IsRowAmong m ns k z row) here (subst (IsRowAmong m ns k y) (sym is) h.0))
row_at m ns k (y ∷ xs) (r ∷ rows) (suc i) x row h at is =
    let regroup : (k + 1) + i ≡ k + suc i = omega arith in
    subst (λ n. IsRowAmong m ns n x row) regroup (row_at m ns (k + 1) xs rows i x row h.1 at is)

spot_at : (ns : List (Node × Task)) (ls : List Leaf) (spots : List LeafSpot) (i : ℕ) (l : Leaf) (spot : LeafSpot)
    → AreSpotsAmong ns ls spots → slice_get ls i ≡ Some l → spot ≡ get_or spots i spot → IsSpotAmong ns l spot
spot_at ns [] spots i l spot h at is = cc
spot_at ns (k ∷ ls) [] i l spot h at is = elim h [ ]
spot_at ns (k ∷ ls) (s ∷ spots) zero l spot h at is =
    let here : k ≡ l = cc in
    subst (λ z. IsSpotAmong ns z spot) here (subst (IsSpotAmong ns k) (sym is) h.0)
spot_at ns (k ∷ ls) (s ∷ spots) (suc i) l spot h at is = spot_at ns ls spots i l spot h.1 at is

length_spots : (ns : List (Node × Task)) (ls : List Leaf) (spots : List LeafSpot) → AreSpotsAmong ns ls spots → length spots ≡ length ls
length_spots ns [] [] h = refl
length_spots ns [] (s ∷ spots) h = elim h [ ]
length_spots ns (l ∷ ls) [] h = elim h [ ]
length_spots ns (l ∷ ls) (s ∷ spots) h = ap suc (length_spots ns ls spots h.1)

pub listed_at : {X : Type 0} (xs : List X) (k : ℕ) → k < length xs → (x : X) × (slice_get xs k ≡ Some x)
listed_at [] k h = absurd (omega (arith, h))
listed_at (x ∷ xs) zero h = (x, refl)
listed_at (x ∷ xs) (suc k) h = listed_at xs k (omega (arith, h))

-- an item that is there is the same whatever stands for one that is not
pub get_or-any : {X : Type 0} (xs : List X) (k : ℕ) (d e : X) → k < length xs → get_or xs k d ≡ get_or xs k e
get_or-any [] k d e h = absurd (omega (arith, h))
get_or-any (x ∷ xs) zero d e h = refl
get_or-any (x ∷ xs) (suc k) d e h = get_or-any xs k d e (omega (arith, h))

exact : (n k : ℕ) → k ≤ max_node_count → n < k → narrowed n ≡ n
exact n k few h = omega (arith, few, h)

drop_listed : {X : Type 0} (k : ℕ) (xs : List X) (x : X) → slice_get xs k ≡ Some x → drop k xs ≡ x ∷ drop (suc k) xs
drop_listed k [] x h = cc
drop_listed zero (y ∷ xs) x h = let here : y ≡ x = cc in ap (λ z. z ∷ xs) here
drop_listed (suc k) (y ∷ xs) x h = drop_listed k xs x h

taken : {X : Type 0} (k : ℕ) (xs : List X) → k < length xs → length (take k xs) ≡ k
taken k [] h = absurd (omega (arith, h))
taken zero (x ∷ xs) h = refl
taken (suc k) (x ∷ xs) h = ap suc (taken k xs (omega (arith, h)))

pub some-equal : {X : Type 0} (x y : X) → Some x ≡ Some y → x ≡ y
some-equal x y h = cc

-- a node with a part is one of the nodes
pub in_nodes : (m : Model) (number part : ℕ) → HasPart m number part → number < length (nodes m)
in_nodes m number part has = slice_get_within (nodes m) number (has.0, tasks.Compound has.1) has.2

module _ (m : Model) (sound : IsSound m) (bounded : IsBounded m) (rows : List NodeRow) (are : AreRowsAmong m (nodes m) 0 (nodes m) rows) where
  -- how a row's node is reached
  above_of : (number : ℕ) (row : NodeRow) (node : Node) (t : Task) → IsNode m number node t → IsReached (nodes m) number row.up row.part node → IsAbove m number row node
  above_of number row node t at (at_root is) = table.root is
  above_of number row node t at (by_part {node = up} {t = u} n k low up_is part_is above) =
      let few = few_nodes m bounded in
      let same_up : row.up ≡ n = up_is ∙ exact n (length (nodes m)) few (slice_get_within (nodes m) n (up, u) above) in
      let counted = (small_node m sound.read number (ToPart k ∷ up, t) at).parts.0 in
      let same_part : row.part ≡ k = omega (arith, part_is, counted) in
      let P : ℕ → Type 0 = λ p. IsAbove m number row (ToPart p ∷ up) in
      subst P same_part (table.part (omega (arith, same_up, low)) (ap (slice_get (nodes m)) same_up ∙ above))
  above_of number row node t at (by_body {node = up} {t = u} n low up_is above) =
      let few = few_nodes m bounded in
      let same_up : row.up ≡ n = up_is ∙ exact n (length (nodes m)) few (slice_get_within (nodes m) n (up, u) above) in
      table.body (omega (arith, same_up, low)) (ap (slice_get (nodes m)) same_up ∙ above)

  -- the row of a number
  pub node_row : (number : ℕ) (row : NodeRow) → number < length (nodes m) → row ≡ get_or rows number row → IsNodeRow m number row
  node_row number row lt is =
      let x = listed_at (nodes m) number lt in
      let none : 0 + number ≡ number = omega arith in
      let r : IsRowAmong m (nodes m) number x.0 row = subst (λ n. IsRowAmong m (nodes m) n x.0 row) none (row_at m (nodes m) 0 (nodes m) rows number x.0 row are x.1 is) in
      record {
        node = x.0.0;
        task = x.0.1;
        at = x.1;
        listed = r.listed;
        around = r.around ∙ few_around m sound.read number x.0 bounded x.1;
        above = above_of number row x.0.0 x.0.1 x.1 r.above;
      }

module _ (m : Model) (sound : IsSound m) (bounded : IsBounded m) (tables : Tables) (are : AreNodeTables m tables) where
  pub count_rows : length tables.rows ≡ length (nodes m)
  count_rows = length_rows m (nodes m) 0 (nodes m) tables.rows are.rows

  pub count_spots : length tables.spots ≡ length (leaves m)
  count_spots = length_spots (nodes m) (leaves m) tables.spots are.spots

  -- the place of a leaf
  pub leaf_spot : (number : ℕ) (spot : LeafSpot) → number < length (leaves m) → spot ≡ get_or tables.spots number spot → IsLeafSpot m number spot
  leaf_spot number spot lt is =
      let l = listed_at (leaves m) number lt in
      let s = spot_at (nodes m) (leaves m) tables.spots number l.0 spot are.spots l.1 is in
      let same_node : spot.node ≡ s.number = s.node ∙ exact s.number (length (nodes m)) (few_nodes m bounded) (slice_get_within (nodes m) s.number (l.0.node, s.task) s.at) in
      let small = small_leaf m sound.read number l.0 l.1 in
      record {
        leaf = l.0;
        task = s.task;
        at = l.1;
        node = ap (slice_get (nodes m)) same_node ∙ s.at;
        reshape = omega (arith, s.reshape, small);
      }

  -- ---- the node of a part

  -- it comes as far after the node as there are nodes in between
  part_after : (fuel n number : ℕ) (before after : List (Node × Task)) (node : Node) (c : Compound) (k : ℕ) → nodes m ≡ before ++ (nodes_below (suc fuel) m (Some (tasks.Compound c)) node ++ after)
      → length before ≡ number → slice_get m.tasks n ≡ Some (tasks.Compound c) → n ≤ fuel → k < length c.parts
      → (t : Task) × IsNode m (number + (1 + length (nodes_in fuel m node (enumerate_from 0 (take k c.parts))))) (ToPart k ∷ node) t
  part_after zero n number before after node c k split count listed low lt =
      let p = listed_at c.parts k lt in
      let u = part_task m sound.shapes n c k p.0 listed p.1 in
      let j = named_number m p.0.task u.0 u.1 in
      let less : j.0 < n = stand_on_earlier m sound.shapes n j.0 (tasks.Compound c) p.0.task listed (map_among (λ (q : Part). q.task) c.parts p.0 (get_among c.parts k p.0 p.1)) j.1 in
      absurd (omega (arith, less, low))
  part_after (suc d) n number before after node c k split count listed low lt =
      let p = listed_at c.parts k lt in
      let u = part_task m sound.shapes n c k p.0 listed p.1 in
      let f : ℕ × Part → List (Node × Task) = λ q. nodes_below (suc d) m (task_named m.tasks q.1.task) (ToPart q.0 ∷ node) in
      let front : List (Node × Task) = nodes_in (suc d) m node (enumerate_from 0 (take k c.parts)) in
      let later : List (Node × Task) = flat_map f (enumerate_from (k + 1) (drop (suc k) c.parts)) in
      let number_is : 0 + length (take k c.parts) ≡ k = omega (arith, taken k c.parts lt) in
      let here : f (k, p.0) ≡ (ToPart k ∷ node, u.0) ∷ nodes_under d m u.0 (ToPart k ∷ node) =
      ap (λ t. nodes_below (suc d) m t (ToPart k ∷ node)) u.1 ∙ nodes_split d m u.0 (ToPart k ∷ node) in
      let inner : nodes_in (suc d) m node (enumerate_from 0 c.parts) ≡ front ++ (((ToPart k ∷ node, u.0) ∷ nodes_under d m u.0 (ToPart k ∷ node)) ++ later) =
      numbered_rest f c.parts k
      ∙ (ap (λ i. front ++ flat_map f (enumerate_from i (drop k c.parts))) number_is
      ∙ (ap (λ ps. front ++ flat_map f (enumerate_from k ps)) (drop_listed k c.parts p.0 p.1)
      ∙ ap (λ xs. front ++ (xs ++ later)) here)) in
      let child : Node × Task = (ToPart k ∷ node, u.0) in
      let none : length front ≡ length front + 0 = omega arith in
      let found_inside : slice_get (nodes_in (suc d) m node (enumerate_from 0 c.parts)) (length front) ≡ Some child =
      ap (λ xs. slice_get xs (length front)) inner
      ∙ (ap (slice_get (front ++ (((ToPart k ∷ node, u.0) ∷ nodes_under d m u.0 (ToPart k ∷ node)) ++ later))) none
      ∙ slice_get-right front (((ToPart k ∷ node, u.0) ∷ nodes_under d m u.0 (ToPart k ∷ node)) ++ later) 0) in
      let whole : List (Node × Task) = nodes_below (suc (suc d)) m (Some (tasks.Compound c)) node in
      let found_whole : slice_get (whole ++ after) (suc (length front)) ≡ Some child = slice_get-left whole after (suc (length front)) child found_inside in
      let far : number + (1 + length front) ≡ length before + suc (length front) = omega (arith, count) in (
        u.0,
        ap (λ xs. slice_get xs (number + (1 + length front))) split
            ∙ (ap (slice_get (before ++ (whole ++ after))) far ∙ (slice_get-right before (whole ++ after) (suc (length front)) ∙ found_whole)),
      )

  -- the row's task has steps, with one for each part
  pub task_steps : (number : ℕ) (row : NodeRow) → number < length (nodes m) → row ≡ get_or tables.rows number row → row.task < length tables.steps
  task_steps number row lt is =
      let x = listed_at (nodes m) number lt in
      let r = row_at m (nodes m) 0 (nodes m) tables.rows number x.0 row are.rows x.1 is in
      omega (arith, slice_get_within m.tasks row.task x.0.1 r.listed, are.steps.0)

  -- the step leads to the part's node
  pub record IsStepToPart (number part : ℕ) (own : List ℕ) : Type 0 where
    pub within : part < length own
    pub few : number + get_or own part 0 ≤ max_node_count
    pub leads : IsPartNode m number part (number + get_or own part 0)

  pub part_node : (number part : ℕ) (row : NodeRow) → row ≡ get_or tables.rows number row → HasPart m number part → IsStepToPart number part (get_or tables.steps row.task [])
  part_node number part row is has =
      let node = has.0 in
      let c = has.1 in
      let at = has.2 in
      let lt = has.3 in
      let r = row_at m (nodes m) 0 (nodes m) tables.rows number (node, tasks.Compound c) row are.rows at is in
      let s = subtree m sound.shapes number node (tasks.Compound c) at in
      let same_number : row.task ≡ s.number = let e : Some row.task ≡ Some s.number = sym r.first ∙ s.first in cc in
      let step = are.steps.1 row.task s.fuel part node c (omega (arith, slice_get_within m.tasks row.task (tasks.Compound c) r.listed)) r.listed (omega (arith, same_number, s.low)) lt in
      let child = part_after s.fuel s.number number s.before s.after node c part s.split s.count s.listed s.low lt in
      let far : ℕ = 1 + length (nodes_in s.fuel m node (enumerate_from 0 (take part c.parts))) in
      let within : number + far < length (nodes m) = slice_get_within (nodes m) (number + far) (ToPart part ∷ node, child.0) child.1 in
      let few = few_nodes m bounded in
      let exactly : get_or (get_or tables.steps row.task []) part 0 ≡ far = omega (arith, step.1, within, few) in
      record {
        within = step.0;
        few = omega (arith, exactly, within, few);
        leads = λ node' c' at'.
            let same_node : node ≡ node' = ap (λ (x : Node × Task). x.0) (some-equal (node, tasks.Compound c) (node', tasks.Compound c') (sym at ∙ at')) in
            let P : Node → Type 0 = λ n. (t : Task) × IsNode m (number + get_or (get_or tables.steps row.task []) part 0) (ToPart part ∷ n) t in
            let Q : ℕ → Type 0 = λ n. (t : Task) × IsNode m (number + n) (ToPart part ∷ node) t in
            subst P same_node (subst Q (sym exactly) child);
      }
