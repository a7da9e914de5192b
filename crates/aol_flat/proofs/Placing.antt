-- The table of nodes goes on over a node: first its own row, then those below it, then the places of its reshapes.
use Rattle.std.proofs.Common.{◌≡◌, ℕ, zero, suc, ◌+◌, ◌*◌, ◌<◌, ◌≤◌, List, [], ◌∷◌, ◌++◌, length, map, take, get_or, Option, Some, None, slice_get, Result, Ok, Err, OnOk, sym, ◌∙◌, ap, refl, arith, subst}
use Rattle.std.specs.List.{enumerate_from}
use Rattle.std.proofs.lemmas.List.{append-nil, append_assoc, length-append, take_all, map-append}
use Rattle.std.proofs.lemmas.Option.{slice_get_within}
use Rattle.aol_shape.specs.Lists.{numbers_from, numbers_below}
use Rattle.aol_shape.specs.Shape.{size}
use Rattle.aol_shape.proofs.Sizes.{size_both}
use Rattle.aol_shape.specs.declared.memory.NoMemory.{NoMemory}
use Rattle.aol_model_types.specs.declared.document.Model.{Model}
use Rattle.aol_model_types.specs.declared.task.Compound.{Compound}
use Rattle.aol_model_types.specs.declared.task.Copied.{Copied}
use Rattle.aol_model_types.specs.declared.task.Part.{Part}
use Rattle.aol_model_types.specs.declared.task.Repeated.{Repeated}
use Rattle.aol_model_types.specs.declared.task.Task.{Task}
use Rattle.aol_model_types.specs.declared.task.Task.TheVariants as tasks
use Rattle.aol_model_types.specs.Rules.{task_name, task_named}
use Rattle.aol_flat.specs.declared.nodes.LeafSpot.{LeafSpot}
use Rattle.aol_flat.specs.declared.nodes.NodeRow.{NodeRow}
use Rattle.aol_flat.specs.declared.place.Table.{Table}
use Rattle.aol_flat.specs.declared.place.Way.{Way}
use Rattle.aol_flat.specs.Instance.{Leaf, leaves_below, reshape_leaf}
use Rattle.aol_flat.specs.Leaves.{narrowed}
use Rattle.aol_flat.specs.Node.{Node, ToPart, ToBody, space_around, nodes_below}
use Rattle.aol_flat.specs.Numbered.{StandOnEarlier, number_named}
use Rattle.aol_flat.specs.Placed.{IsReached, at_root, by_part, by_body, IsRowAmong, AreRowsAmong, AreSpotsAmong, Placed, LeadsTo, Places, PlacesBelow, PlacesDown, LeadsToParts, PlacesParts, PlacesCopies}
use Rattle.aol_flat.specs.NodeTables.{PlacesAll}
use Rattle.aol_flat.specs.Saturated.{saturated}
use Rattle.aol_flat.specs.Tasks.{main_task}
use Rattle.aol_flat.specs.Walked.{AreBelow, nodes_in, leaves_in}
use Rattle.aol_flat.proofs.Among.{map_among, get_among, among_get}
use Rattle.aol_flat.proofs.Names.{slice_get-left, slice_get-right}
use Rattle.aol_flat.proofs.Saturation.{saturated-mul}
use Rattle.aol_flat.proofs.TaskNumbers.{found, first_of_own, none_from}
use Rattle.aol_flat.proofs.Visiting.{numbered_more, nodes_under, leaves_under, nodes_split, leaves_split, listed_task, no_nodes, no_leaves}

-- what filling the table answers
abbrev pub Placing : Type 0
Placing = Result (Unit {0}) NoMemory

-- ---- more nodes and leaves

reached_more : (ns more : List (Node × Task)) (number up part : ℕ) (node : Node) → IsReached ns number up part node → IsReached (ns ++ more) number up part node
reached_more ns more number up part node (at_root h) = at_root h
reached_more ns more number up part node (by_part {node = above} {t = t} n k low u p at) = by_part n k low u p (slice_get-left ns more n (above, t) at)
reached_more ns more number up part node (by_body {node = above} {t = t} n low u at) = by_body n low u (slice_get-left ns more n (above, t) at)

rows_more : (m : Model) (ns more : List (Node × Task)) (k : ℕ) (xs : List (Node × Task)) (rows : List NodeRow) → AreRowsAmong m ns k xs rows → AreRowsAmong m (ns ++ more) k xs rows
rows_more m ns more k [] [] h = tt
rows_more m ns more k [] (row ∷ rows) h = elim h [ ]
rows_more m ns more k (x ∷ xs) [] h = elim h [ ]
rows_more m ns more k (x ∷ xs) (row ∷ rows) h =
    (record { listed = h.0.listed; first = h.0.first; around = h.0.around; instances = h.0.instances; above = reached_more ns more k row.up row.part x.0 h.0.above }, rows_more m ns more (k + 1) xs rows h.1)

spots_more : (ns more : List (Node × Task)) (ls : List Leaf) (spots : List LeafSpot) → AreSpotsAmong ns ls spots → AreSpotsAmong (ns ++ more) ls spots
spots_more ns more [] [] h = tt
spots_more ns more [] (spot ∷ spots) h = elim h [ ]
spots_more ns more (l ∷ ls) [] h = elim h [ ]
spots_more ns more (l ∷ ls) (spot ∷ spots) h =
    (record { number = h.0.number; task = h.0.task; node = h.0.node; at = slice_get-left ns more h.0.number (l.node, h.0.task) h.0.at; reshape = h.0.reshape }, spots_more ns more ls spots h.1)

rows_append : (m : Model) (ns : List (Node × Task)) (k : ℕ) (xs : List (Node × Task)) (rows : List NodeRow) (x : Node × Task) (row : NodeRow)
    → AreRowsAmong m ns k xs rows → IsRowAmong m ns (k + length xs) x row → AreRowsAmong m ns k (xs ++ x ∷ []) (rows ++ row ∷ [])
rows_append m ns k [] (s ∷ rows) x row h r = elim h [ ]
rows_append m ns k (y ∷ xs) [] x row h r = elim h [ ]
rows_append m ns k [] [] x row h r = let none : k + 0 ≡ k = omega arith in (subst (λ n. IsRowAmong m ns n x row) none r, tt)
rows_append m ns k (y ∷ xs) (s ∷ rows) x row h r =
    let regroup : k + suc (length xs) ≡ (k + 1) + length xs = omega arith in
    (h.0, rows_append m ns (k + 1) xs rows x row h.1 (subst (λ n. IsRowAmong m ns n x row) regroup r))

spots_append : (ns : List (Node × Task)) (ls : List Leaf) (spots : List LeafSpot) (more : List Leaf) (more_spots : List LeafSpot)
    → AreSpotsAmong ns ls spots → AreSpotsAmong ns more more_spots → AreSpotsAmong ns (ls ++ more) (spots ++ more_spots)
spots_append ns [] [] more more_spots h r = r
spots_append ns [] (spot ∷ spots) more more_spots h r = elim h [ ]
spots_append ns (l ∷ ls) [] more more_spots h r = elim h [ ]
spots_append ns (l ∷ ls) (spot ∷ spots) more more_spots h r = (h.0, spots_append ns ls spots more more_spots h.1 r)

pub length_rows : (m : Model) (ns : List (Node × Task)) (k : ℕ) (xs : List (Node × Task)) (rows : List NodeRow) → AreRowsAmong m ns k xs rows → length rows ≡ length xs
length_rows m ns k [] [] h = refl
length_rows m ns k [] (row ∷ rows) h = elim h [ ]
length_rows m ns k (x ∷ xs) [] h = elim h [ ]
length_rows m ns k (x ∷ xs) (row ∷ rows) h = ap suc (length_rows m ns (k + 1) xs rows h.1)

-- the last of some nodes
last_of : {X : Type 0} (xs : List X) (x : X) → slice_get (xs ++ x ∷ []) (length xs) ≡ Some x
last_of xs x = let none : length xs + 0 ≡ length xs = omega arith in ap (slice_get (xs ++ x ∷ [])) (sym none) ∙ slice_get-right xs (x ∷ []) 0

module _ (m : Model) where
  -- ---- a node

  -- the row of a node
  pub row_there : (ns : List (Node × Task)) (ls : List Leaf) (node : Node) (t : Task) (number : ℕ) (way : Way) (old new : Table)
      → new.rows ≡ old.rows ++ record { up = way.up; part = way.part; task = number; around = way.around; instances = way.instances } ∷ [] → new.spots ≡ old.spots
      → slice_get m.tasks number ≡ Some t → number_named m.tasks (task_name t) ≡ Some number → LeadsTo ns node way → Placed m ns ls old → Placed m (ns ++ (node, t) ∷ []) ls new
  row_there ns ls node t number way old new rows spots listed first leads placed =
      let row : NodeRow = record { up = way.up; part = way.part; task = number; around = way.around; instances = way.instances } in
      let all : List (Node × Task) = ns ++ (node, t) ∷ [] in
      let none : length ns ≡ 0 + length ns = omega arith in
      let is : IsRowAmong m all (length ns) (node, t) row = record {
        listed = listed;
        first = first;
        around = leads.around;
        instances = leads.instances;
        above = reached_more ns ((node, t) ∷ []) (length ns) way.up way.part node leads.above;
      } in
      record {
        rows = subst (AreRowsAmong m all 0 all) (sym rows) (rows_append m all 0 ns old.rows (node, t) row (rows_more m ns ((node, t) ∷ []) 0 ns old.rows placed.rows) (subst (λ n. IsRowAmong m all n (node, t) row) none is));
        spots = subst (AreSpotsAmong all ls) (sym spots) (spots_more ns ((node, t) ∷ []) ls old.spots placed.spots);
      }

  -- the places of some leaves more
  pub spots_there : (ns : List (Node × Task)) (ls more : List Leaf) (old new : Table) (spots : List LeafSpot)
      → new.rows ≡ old.rows → new.spots ≡ old.spots ++ spots → AreSpotsAmong ns more spots → Placed m ns ls old → Placed m ns (ls ++ more) new
  spots_there ns ls more old new spots rows is more_are placed = record {
    rows = subst (AreRowsAmong m ns 0 ns) (sym rows) placed.rows;
    spots = subst (AreSpotsAmong ns (ls ++ more)) (sym is) (spots_append ns ls old.spots more spots placed.spots more_are);
  }

  copies_are : (ns : List (Node × Task)) (node : Node) (t : Task) (n spot : ℕ) (from : ℕ) (rs : List Copied) → slice_get ns n ≡ Some (node, t) → spot ≡ narrowed n
      → AreSpotsAmong ns (map (reshape_leaf node) (enumerate_from from rs)) (map (λ (k : ℕ). record { node = spot; reshape = narrowed k }) (numbers_from from (length rs)))
  copies_are ns node t n spot from [] at is = tt
  copies_are ns node t n spot from (r ∷ rs) at is =
      (record { number = n; task = t; node = is; at = at; reshape = refl }, copies_are ns node t n spot (from + 1) rs at is)

  -- those of the reshapes of a node
  pub copies_there : (ns : List (Node × Task)) (ls : List Leaf) (node : Node) (t : Task) (n spot : ℕ) (rs : List Copied) (old new : Table) (answer : Placing)
      → slice_get ns n ≡ Some (node, t) → spot ≡ narrowed n → PlacesCopies spot (length rs) old new answer
      → Placed m ns ls old → OnOk answer (Placed m ns (ls ++ map (reshape_leaf node) (enumerate_from 0 rs)) new)
  copies_there ns ls node t n spot rs old new (Err e) at is copies placed = tt
  copies_there ns ls node t n spot rs old new (Ok done) at is copies placed =
      spots_there ns ls (map (reshape_leaf node) (enumerate_from 0 rs)) old new (map (λ (k : ℕ). record { node = spot; reshape = narrowed k }) (numbers_below (length rs)))
      copies.0 copies.1 (copies_are ns node t n spot 0 rs at is) placed

  -- ---- below a node

  -- what is below a node that was added last
  abbrev pub PlacesUnder : Task → ℕ → ℕ → Way → Table → Table → Placing → Type 0
  PlacesUnder t number spot way old new answer =
      (node : Node) (fuel : ℕ) (ns : List (Node × Task)) (ls : List Leaf) → slice_get m.tasks number ≡ Some t → number ≤ fuel → spot ≡ narrowed (length ns) → LeadsTo ns node way
      → Placed m (ns ++ (node, t) ∷ []) ls old → OnOk answer (Placed m ((ns ++ (node, t) ∷ []) ++ nodes_under fuel m t node) (ls ++ leaves_under fuel m t node) new)

  -- the node, and then what is below it
  pub place_first : (number : ℕ) (task : Task) (way : Way) (s0 s1 s2 : Table) (spot : ℕ) (answer : Placing) → task ≡ get_or m.tasks number task → spot ≡ narrowed (length s0.rows)
      → s1.rows ≡ s0.rows ++ record { up = way.up; part = way.part; task = number; around = way.around; instances = way.instances } ∷ [] → s1.spots ≡ s0.spots
      → PlacesUnder task number spot way s1 s2 answer → PlacesBelow m number way s0 s2 answer
  place_first number task way s0 s1 s2 spot answer is counted rows spots under node t zero ns ls listed first low leads placed = absurd (omega (arith, low))
  place_first number task way s0 s1 s2 spot answer is counted rows spots under node t (suc fuel) ns ls listed first low leads placed =
      let same_task : t ≡ task = listed_task m.tasks number t task listed is in
      let here : slice_get m.tasks number ≡ Some task = listed ∙ ap Some same_task in
      let many : length s0.rows ≡ length ns = length_rows m ns 0 ns s0.rows placed.rows in
      let Q : List (Node × Task) → Type 0 = λ all. OnOk answer (Placed m all (ls ++ leaves_under fuel m task node) s2) in
      let R : Task → Type 0 = λ u. OnOk answer (Placed m (ns ++ nodes_below (suc fuel) m (Some u) node) (ls ++ leaves_below (suc fuel) m (Some u) node) s2) in
      let S : List (Node × Task) → Type 0 = λ below. OnOk answer (Placed m (ns ++ below) (ls ++ leaves_below (suc fuel) m (Some task) node) s2) in
      let U : List Leaf → Type 0 = λ below. OnOk answer (Placed m (ns ++ ((node, task) ∷ nodes_under fuel m task node)) (ls ++ below) s2) in
      subst R (sym same_task) (subst S (sym (nodes_split fuel m task node)) (subst U (sym (leaves_split fuel m task node))
      (subst Q (append_assoc ns ((node, task) ∷ []) (nodes_under fuel m task node))
      (under node fuel ns ls here (omega (arith, low)) (counted ∙ ap narrowed many) leads (row_there ns ls node task number way s0 s1 rows spots here (ap (λ u. number_named m.tasks (task_name u)) (sym same_task) ∙ first) leads placed)))))

  -- below an elementary task: its leaf
  pub place_elementary : (e : _) (number spot : ℕ) (way : Way) (s1 s2 : Table) (answer : Placing)
      → OnOk answer (s2.spots ≡ s1.spots ++ record { node = spot; reshape = 0 } ∷ []) → s2.rows ≡ s1.rows → PlacesUnder (tasks.Elementary e) number spot way s1 s2 answer
  place_elementary e number spot way s1 s2 (Err r) spots rows node fuel ns ls listed low counted leads placed = tt
  place_elementary e number spot way s1 s2 (Ok done) spots rows node fuel ns ls listed low counted leads placed =
      let all : List (Node × Task) = ns ++ (node, tasks.Elementary e) ∷ [] in
      let P : List (Node × Task) → Type 0 = λ xs. Placed m xs (ls ++ leaves_under fuel m (tasks.Elementary e) node) s2 in
      subst P (sym (append-nil all))
      (spots_there all ls (leaves_under fuel m (tasks.Elementary e) node) s1 s2 (record { node = spot; reshape = 0 } ∷ []) rows spots
      (record { number = length ns; task = tasks.Elementary e; node = counted; at = last_of ns (node, tasks.Elementary e); reshape = refl }, tt) placed)

  -- below a repeated task: its body
  pub place_repeated : (r : Repeated) (number spot : ℕ) (way below : Way) (s1 s2 : Table) (answer : Placing) → StandOnEarlier m.tasks
      → below.up ≡ spot → below.part ≡ 0 → below.around ≡ narrowed (way.around + length r.space) → below.instances ≡ saturated (way.instances * saturated (size r.space))
      → PlacesDown m r.task below s1 s2 answer → PlacesUnder (tasks.Repeated r) number spot way s1 s2 answer
  place_repeated r number spot way below s1 s2 answer earlier up part around instances down node fuel ns ls listed low counted leads placed =
      let all : List (Node × Task) = ns ++ (node, tasks.Repeated r) ∷ [] in
      let longer : length all ≡ length ns + 1 = length-append ns ((node, tasks.Repeated r) ∷ []) in
      down (ToBody r.space ∷ node) fuel all ls (λ j h. omega (arith, earlier number j (tasks.Repeated r) r.task listed (zero, (omega arith, refl)) h, low))
      (record {
        above = by_body (length ns) (omega (arith, longer)) (up ∙ counted) (last_of ns (node, tasks.Repeated r));
        around =
            around ∙ (ap (λ n. narrowed (n + length r.space)) leads.around
            ∙ (omega arith ∙ ap narrowed (sym (length-append (space_around node) r.space))));
        instances =
            instances ∙ (ap (λ n. saturated (n * saturated (size r.space))) leads.instances
            ∙ (saturated-mul (size (space_around node)) (size r.space) ∙ ap saturated (sym (size_both (space_around node) r.space))));
      })
      placed

  -- below a compound task: its parts, and then its reshapes
  pub place_compound : (c : Compound) (number spot : ℕ) (way : Way) (s1 s2 s3 : Table) (r1 r2 : Placing) (done : Unit {0}) → StandOnEarlier m.tasks
      → PlacesParts m c (record { up = spot; part = 0; around = way.around; instances = way.instances }) s1 s2 r1 → r1 ≡ Ok done
      → PlacesCopies spot (length c.reshapes) s2 s3 r2 → PlacesUnder (tasks.Compound c) number spot way s1 s3 r2
  place_compound c number spot way s1 s2 s3 r1 r2 done earlier parts was copies node fuel ns ls listed low counted leads placed =
      let all : List (Node × Task) = ns ++ (node, tasks.Compound c) ∷ [] in
      let inside : List (Node × Task) = nodes_in fuel m node (enumerate_from 0 c.parts) in
      let inside_leaves : List Leaf = leaves_in fuel m node (enumerate_from 0 c.parts) in
      let copied : List Leaf = map (reshape_leaf node) (enumerate_from 0 c.reshapes) in
      let below : AreBelow m fuel c.parts = λ k j p at named.
      omega (arith, earlier number j (tasks.Compound c) p.task listed (map_among (λ (q : Part). q.task) c.parts p (get_among c.parts k p at)) named, low) in
      let P : Placing → Type 0 = λ r. OnOk r (Placed m (all ++ inside) (ls ++ inside_leaves) s2) in
      let Q : List Leaf → Type 0 = λ xs. OnOk r2 (Placed m (all ++ inside) xs s3) in
      let first : Placed m (all ++ inside) (ls ++ inside_leaves) s2 =
      subst P was (parts node fuel all ls below
      (record { number = length ns; task = tasks.Compound c; up = counted; at = last_of ns (node, tasks.Compound c); around = leads.around; instances = leads.instances }) placed) in
      subst Q (append_assoc ls inside_leaves copied)
      (copies_there (all ++ inside) (ls ++ inside_leaves) node (tasks.Compound c) (length ns) spot c.reshapes s2 s3 r2
      (slice_get-left all inside (length ns) (node, tasks.Compound c) (last_of ns (node, tasks.Compound c))) counted copies first)

  -- ---- a name

  -- a name without a task leads nowhere
  pub place_nowhere : (name : List ℕ) (way : Way) (table : Table) (done : Unit {0}) → number_named m.tasks name ≡ None → PlacesDown m name way table table (Ok done)
  place_nowhere name way table done none node fuel ns ls low leads placed =
      let missing : task_named m.tasks name ≡ None = none_from 0 m.tasks name none in
      let P : Option Task → Type 0 = λ t. Placed m (ns ++ nodes_below fuel m t node) (ls ++ leaves_below fuel m t node) table in
      let Q : List (Node × Task) → Type 0 = λ more. Placed m (ns ++ more) (ls ++ leaves_below fuel m None node) table in
      let R : List Leaf → Type 0 = λ more. Placed m (ns ++ []) (ls ++ more) table in
      let S : List (Node × Task) → Type 0 = λ xs. Placed m xs (ls ++ []) table in
      let U : List Leaf → Type 0 = λ xs. Placed m ns xs table in
      subst P (sym missing) (subst Q (sym (no_nodes m fuel node)) (subst R (sym (no_leaves m fuel node))
      (subst S (sym (append-nil ns)) (subst U (sym (append-nil ls)) placed))))

  -- a name with one leads to its node
  pub place_found : (name : List ℕ) (way : Way) (s0 s1 : Table) (number : ℕ) (answer : Placing) → number_named m.tasks name ≡ Some number
      → PlacesBelow m number way s0 s1 answer → PlacesDown m name way s0 s1 answer
  place_found name way s0 s1 number answer named goes node fuel ns ls low leads placed =
      let f = found m.tasks name number named in
      let P : Option Task → Type 0 = λ t. OnOk answer (Placed m (ns ++ nodes_below fuel m t node) (ls ++ leaves_below fuel m t node) s1) in
      subst P (sym f.is) (goes node f.task fuel ns ls f.at (first_of_own m.tasks name number named) (low number named) leads placed)

-- ---- the parts of a compound task

module _ (m : Model) (c : Compound) (way : Way) where
  -- so far
  abbrev pub PlacesFront : ℕ → Table → Table → Placing → Type 0
  PlacesFront i s0 s1 answer =
      (node : Node) (fuel : ℕ) (ns : List (Node × Task)) (ls : List Leaf) → AreBelow m fuel c.parts → LeadsToParts ns node way
      → Places m ns ls (nodes_in fuel m node (enumerate_from 0 (take i c.parts))) (leaves_in fuel m node (enumerate_from 0 (take i c.parts))) s0 s1 answer

  pub place_none : (table : Table) (done : Unit {0}) → PlacesFront 0 table table (Ok done)
  place_none table done node fuel ns ls below leads placed =
      let S : List (Node × Task) → Type 0 = λ xs. Placed m xs (ls ++ []) table in
      let U : List Leaf → Type 0 = λ xs. Placed m ns xs table in
      subst S (sym (append-nil ns)) (subst U (sym (append-nil ls)) placed)

  pub place_more : (i : ℕ) (p : Part) (s0 s1 s2 : Table) (r1 r2 : Placing) (done : Unit {0}) → i < length c.parts → p ≡ get_or c.parts i p → slice_get c.parts i ≡ Some p
      → PlacesFront i s0 s1 r1 → r1 ≡ Ok done → PlacesDown m p.task (record { up = way.up; part = narrowed i; around = way.around; instances = way.instances }) s1 s2 r2
      → PlacesFront (i + 1) s0 s2 r2
  place_more i p s0 s1 s2 r1 r2 done lt is listed front was down node fuel ns ls below leads placed =
      let f : ℕ × Part → List (Node × Task) = λ q. nodes_below fuel m (task_named m.tasks q.1.task) (ToPart q.0 ∷ node) in
      let g : ℕ × Part → List Leaf = λ q. leaves_below fuel m (task_named m.tasks q.1.task) (ToPart q.0 ∷ node) in
      let xs : List (Node × Task) = nodes_in fuel m node (enumerate_from 0 (take i c.parts)) in
      let ys : List Leaf = leaves_in fuel m node (enumerate_from 0 (take i c.parts)) in
      let P : Placing → Type 0 = λ r. OnOk r (Placed m (ns ++ xs) (ls ++ ys) s1) in
      let Q : List (Node × Task) → Type 0 = λ all. OnOk r2 (Placed m (ns ++ all) (ls ++ leaves_in fuel m node (enumerate_from 0 (take (i + 1) c.parts))) s2) in
      let R : List Leaf → Type 0 = λ all. OnOk r2 (Placed m (ns ++ (xs ++ f (i, p))) (ls ++ all) s2) in
      let S : List (Node × Task) → Type 0 = λ all. OnOk r2 (Placed m all (ls ++ (ys ++ g (i, p))) s2) in
      let U : List Leaf → Type 0 = λ all. OnOk r2 (Placed m ((ns ++ xs) ++ f (i, p)) all s2) in
      let first : Placed m (ns ++ xs) (ls ++ ys) s1 = subst P was (front node fuel ns ls below leads placed) in
      let further : length (ns ++ xs) ≡ length ns + length xs = length-append ns xs in
      let within : leads.number < length ns = slice_get_within ns leads.number (node, leads.task) leads.at in
      let leads_on : LeadsTo (ns ++ xs) (ToPart i ∷ node) (record { up = way.up; part = narrowed i; around = way.around; instances = way.instances }) = record {
        above = by_part leads.number i (omega (arith, further, within)) leads.up refl (slice_get-left ns xs leads.number (node, leads.task) leads.at);
        around = leads.around;
        instances = leads.instances;
      } in
      subst Q (sym (numbered_more f c.parts i p lt is)) (subst R (sym (numbered_more g c.parts i p lt is))
      (subst S (append_assoc ns xs (f (i, p))) (subst U (append_assoc ls ys (g (i, p)))
      (down (ToPart i ∷ node) fuel (ns ++ xs) (ls ++ ys) (λ j h. below i j p listed h) leads_on first))))

  pub place_all : (i : ℕ) (s0 s1 : Table) (r : Placing) → length c.parts ≤ i → PlacesFront i s0 s1 r → PlacesParts m c way s0 s1 r
  place_all i s0 s1 r long front =
      let P : List Part → Type 0 = λ parts.
      (node : Node) (fuel : ℕ) (ns : List (Node × Task)) (ls : List Leaf) → AreBelow m fuel c.parts → LeadsToParts ns node way
      → Places m ns ls (nodes_in fuel m node (enumerate_from 0 parts)) (leaves_in fuel m node (enumerate_from 0 parts)) s0 s1 r in
      subst P (take_all i c.parts long) front

-- ---- numbers in order

numbers_next : (from n : ℕ) → numbers_from from (n + 1) ≡ numbers_from from n ++ (from + n) ∷ []
numbers_next from zero = let none : from ≡ from + 0 = omega arith in ap (λ k. k ∷ []) none
numbers_next from (suc n) =
    let more : suc n + 1 ≡ suc (n + 1) = omega arith in
    let regroup : (from + 1) + n ≡ from + suc n = omega arith in
    ap (numbers_from from) more ∙ ap (λ ks. from ∷ ks) (numbers_next (from + 1) n ∙ ap (λ k. numbers_from (from + 1) n ++ k ∷ []) regroup)

-- one copy more
pub copy_more : (node n : ℕ) (old s1 s2 : List LeafSpot) → s1 ≡ old ++ map (λ (k : ℕ). record { node = node; reshape = narrowed k }) (numbers_below n)
    → s2 ≡ s1 ++ record { node = node; reshape = narrowed n } ∷ [] → s2 ≡ old ++ map (λ (k : ℕ). record { node = node; reshape = narrowed k }) (numbers_below (n + 1))
copy_more node n old s1 s2 before is =
    let spot : ℕ → LeafSpot = λ k. record { node = node; reshape = narrowed k } in
    let none : 0 + n ≡ n = omega arith in
    is ∙ (ap (λ xs. xs ++ spot n ∷ []) before ∙ (append_assoc old (map spot (numbers_below n)) (spot n ∷ [])
    ∙ ap (λ xs. old ++ xs) (sym (ap (map spot) (numbers_next 0 n) ∙ (map-append spot (numbers_from 0 n) ((0 + n) ∷ []) ∙ ap (λ k. map spot (numbers_from 0 n) ++ spot k ∷ []) none)))))

-- ---- what a task is made of has lower numbers

pub parts_lower : (m : Model) (number : ℕ) (t : Task) (c : Compound) → StandOnEarlier m.tasks → number < length m.tasks → t ≡ get_or m.tasks number t → t ≡ tasks.Compound c → AreBelow m number c.parts
parts_lower m number t c earlier lt is kind k j p at named =
    let listed : slice_get m.tasks number ≡ Some (tasks.Compound c) = among_get m.tasks number t lt is ∙ ap Some kind in
    earlier number j (tasks.Compound c) p.task listed (map_among (λ (q : Part). q.task) c.parts p (get_among c.parts k p at)) named

pub body_lower : (m : Model) (number : ℕ) (t : Task) (r : Repeated) → StandOnEarlier m.tasks → number < length m.tasks → t ≡ get_or m.tasks number t → t ≡ tasks.Repeated r
    → (j : ℕ) → number_named m.tasks r.task ≡ Some j → j < number
body_lower m number t r earlier lt is kind j named =
    let listed : slice_get m.tasks number ≡ Some (tasks.Repeated r) = among_get m.tasks number t lt is ∙ ap Some kind in
    earlier number j (tasks.Repeated r) r.task listed (zero, (omega arith, refl)) named

-- ---- all nodes

module _ (m : Model) where
  nothing_placed : (table : Table) → table.rows ≡ [] → table.spots ≡ [] → Placed m [] [] table
  nothing_placed table rows spots = record { rows = subst (AreRowsAmong m [] 0 []) (sym rows) tt; spots = subst (AreSpotsAmong [] []) (sym spots) tt }

  -- a model without its main task has none
  pub place_no_main : (table : Table) (done : Unit {0}) → number_named m.tasks m.main ≡ None → PlacesAll m table table (Ok done)
  place_no_main table done none rows spots =
      let missing : main_task m ≡ None = none_from 0 m.tasks m.main none in
      let P : Option Task → Type 0 = λ t. Placed m (nodes_below (length m.tasks) m t []) (leaves_below (length m.tasks) m t []) table in
      let Q : List (Node × Task) → Type 0 = λ all. Placed m all (leaves_below (length m.tasks) m None []) table in
      let R : List Leaf → Type 0 = λ all. Placed m [] all table in
      subst P (sym missing) (subst Q (sym (no_nodes m (length m.tasks) [])) (subst R (sym (no_leaves m (length m.tasks) [])) (nothing_placed table rows spots)))

  -- else they are those at and below the root
  pub place_root : (way : Way) (s0 s1 : Table) (number : ℕ) (answer : Placing) → number_named m.tasks m.main ≡ Some number → way.around ≡ 0 → way.instances ≡ 1
      → PlacesBelow m number way s0 s1 answer → PlacesAll m s0 s1 answer
  place_root way s0 s1 number answer named around instances goes rows spots =
      let f = found m.tasks m.main number named in
      let P : Option Task → Type 0 = λ t. OnOk answer (Placed m (nodes_below (length m.tasks) m t []) (leaves_below (length m.tasks) m t []) s1) in
      subst P (sym f.is)
      (goes [] f.task (length m.tasks) [] [] f.at (first_of_own m.tasks m.main number named) f.within (record { above = at_root refl; around = around; instances = instances }) (nothing_placed s0 rows spots))
