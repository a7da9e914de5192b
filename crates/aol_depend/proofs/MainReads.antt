-- What comes from main inputs, by tilers and links from own inputs.
use Rattle.std.proofs.Common.{◌≡◌, ◌≢◌, ◌≤◌, ◌<◌, ℕ, zero, suc, ◌+◌, ◌-◌, Bool, true, false, cond, List, [], ◌∷◌, ◌++◌, length, take, drop, flat_map, Option, Some, None, is_some, option_map, unwrap_or, slice_get, sym, ◌∙◌, ap, refl, subst, arith, length-append, ◌⊎◌, inl, inr}
use Rattle.std.specs.Prelude.{nat_lt}
use Rattle.std.specs.List.{IsAmong, AllZip, position, position_or_len}
use Rattle.std.proofs.lemmas.List.{append_assoc, length-map}
use Rattle.std.proofs.lemmas.Option.{none-some, slice_get_within}
use Rattle.std.proofs.Math.Seq.{take-append_seam}
use Rattle.aol_shape.specs.Lists.{numbers_below}
use Rattle.aol_shape.specs.Shape.{IsPointOf, size, point_at, points}
use Rattle.aol_shape.proofs.Points.{point_at-is}
use Rattle.aol_tiler.specs.Tiler.{address_point}
use Rattle.aol_expr_tree.specs.declared.port.Port.{Port}
use Rattle.aol_model_types.specs.declared.document.Model.{Model}
use Rattle.aol_model_types.specs.declared.task.Compound.{Compound}
use Rattle.aol_model_types.specs.declared.task.Plain.{Plain}
use Rattle.aol_model_types.specs.declared.task.Repeated.{Repeated}
use Rattle.aol_model_types.specs.declared.task.Task.{Task}
use Rattle.aol_model_types.specs.declared.task.Task.TheVariants as tasks
use Rattle.aol_model_types.specs.declared.task.TilerOn.{TilerOn}
use Rattle.aol_model_types.specs.Rules.{inputs_of, outputs_of, inputs_named, outputs_named, port_shape}
use Rattle.aol_flat.specs.Accept.{IsSound, IsFlat}
use Rattle.aol_flat.specs.Equation.{PartInput, TiledInput}
use Rattle.aol_flat.specs.Feed.{HasTask}
use Rattle.aol_flat.specs.Home.{Kept, origin, origin_home, home_of, is_input_at}
use Rattle.aol_flat.specs.Instance.{Leaf, Computes, Run, instance_on, of_task, read_elements}
use Rattle.aol_flat.specs.Laid.{Laid, IsLaid, IsReadOf, main_input_elements, main_output_elements, inner_cells}
use Rattle.aol_flat.specs.Leaves.{IsLeafRow}
use Rattle.aol_flat.specs.Level.{writers_read, with_writer}
use Rattle.aol_flat.specs.Need.{by_part_input, by_tiled_input, by_following}
use Rattle.aol_flat.specs.Node.{Node, ToPart, ToBody, space_around, place_on, task_under, node_task, nodes}
use Rattle.aol_flat.specs.NodeTable.{IsNode, IsNodeRow, IsLeafSpot}
use Rattle.aol_flat.specs.Place.{Place, IntoPart, IntoRepetition, Element, IsElement, task_at, port_elements, elements_of, end_element, instance_of_end}
use Rattle.aol_flat.specs.Tasks.{main_task, main_inputs}
use Rattle.aol_flat.specs.Wired.{IsInput, IsWired}
use Rattle.aol_flat.specs.declared.leaf.Leaf.{Leaf as LeafRow}
use Rattle.aol_flat.specs.declared.leaf.LeafKind.TheVariants as kinds
use Rattle.aol_flat.specs.declared.nodes.NodeRow.{NodeRow}
use Rattle.aol_flat.specs.declared.nodes.LeafSpot.{LeafSpot}
use Rattle.aol_flat.specs.declared.view.Read.{Read}
use Rattle.aol_flat.specs.declared.view.Read.TheVariants.{Cell}
use Rattle.aol_flat.proofs.Agree.{IsAmong-tail}
use Rattle.aol_flat.proofs.Among.{among_get, get_among, at_port}
use Rattle.aol_flat.proofs.Checked.{IsTaskOf}
use Rattle.aol_flat.proofs.Exists.{needed_exists, input_exists}
use Rattle.aol_flat.proofs.Hands.{to_part, body_place}
use Rattle.aol_flat.proofs.Homes.{input_home, followed_homes}
use Rattle.aol_flat.proofs.Inside.{point_length, point_split}
use Rattle.aol_flat.proofs.LeafForm.{IsRunForm, IsCopyForm, leaf_form}
use Rattle.aol_flat.proofs.LinkSides.{task_there, input_there}
use Rattle.aol_flat.proofs.Names.{slice_get-left}
use Rattle.aol_flat.proofs.NodeAt.{known, is_under, is_root, above_same, task_there_on}
use Rattle.aol_flat.proofs.Numbered.{of_port}
use Rattle.aol_flat.proofs.Once.{there}
use Rattle.aol_flat.proofs.RunPoints.{one_leaf, computes_is}
use Rattle.aol_flat.proofs.Shapes.{found_port, shape_left, input_own}
use Rattle.aol_flat.proofs.SourceRight.{same_element}
use Rattle.aol_flat.proofs.TilerRules.{IsTiling, JoinsPorts, sides_of}
use Rattle.aol_flat.proofs.Totals.{length-numbers}
use Rattle.aol_flat.proofs.Wired.{agreeing_is_wired, tiler_there, inner_output}
use Rattle.aol_flat_laws.proofs.Stands.{of_part, of_repetition}
use Rattle.aol_depend.specs.MainReads.{IsOwnLink, IsTilerInto, IsFromMain, element_at, LeadsToMain, IsMainRead, ReadsMainInputs, AreBare}

-- the place that is found
pub place_found : {X : Type 0} (test : X → Bool) (xs : List X) (k : ℕ) → position test xs ≡ Some k → position_or_len test xs ≡ k
place_found test xs k h = go (nat_lt (position_or_len test xs) (length xs)) h
  where
    go : (b : Bool) → cond b (Some (position_or_len test xs)) None ≡ Some k → position_or_len test xs ≡ k
    go true f = cc
    go false f = cc

-- the first indices of a point of joined shapes
front_point : (a b z : List ℕ) → IsPointOf (a ++ b) z → IsPointOf a (take (length z - length b) z)
front_point a b z h =
    let s = point_split a b z h in
    let count : length (s.0 ++ s.1) - length b ≡ length s.0 = omega (arith, length-append s.0 s.1, point_length b s.1 s.4) in
    let front : take (length z - length b) z ≡ s.0 =
    ap (λ w. take (length w - length b) w) s.2 ∙ (ap (λ k. take k (s.0 ++ s.1)) count ∙ take-append_seam s.0 s.1) in
    let P : List ℕ → Type 0 = λ w. IsPointOf a w in
    subst P (sym front) s.3

module _ (m : Model) (sound : IsSound m) where
  wired : IsWired m
  wired = agreeing_is_wired m sound.shapes

  -- what follows such an element is one
  from_on : (e q : Element) → home_of m e ≡ home_of m q → IsFromMain m q → IsFromMain m e
  from_on e q same r = record { home = r.home; home_is = same ∙ r.home_is; main = r.main }

  -- ---- the root

  main_input : (e : Element) → e.place ≡ [] → IsElement m e → IsInput m e → IsFromMain m e
  main_input e main exists input =
      let t : Task = exists.task in
      let at : main_task m ≡ Some t = sym (ap (task_at m) main) ∙ exists.at_place in
      let has : is_some (port_shape (inputs_of t) e.port) ≡ true = sym (ap (λ o. is_input_at o e.port) exists.at_place) ∙ input in
      let shape = there (port_shape (inputs_of t) e.port) has in
      let both : Some shape.0 ≡ Some exists.shape = sym (shape_left (inputs_of t) (outputs_of t) e.port shape.0 shape.1) ∙ exists.at_port in
      let one : exists.shape ≡ shape.0 = cc in
      let port = found_port (inputs_of t) e.port shape.0 shape.1 in
      let P : List ℕ → Type 0 = λ s. IsPointOf s e.index in
      let inside : IsPointOf port.0.shape e.index = subst P (one ∙ sym port.3) exists.inside in
      record {
        home = e;
        home_is = input_home m e input ∙ (ap (λ (place : Place). origin_home m (origin m place e.port e.index)) main ∙ ap (λ (place : Place). Kept (record { place = place; port = e.port; index = e.index })) (sym main));
        main = record {
          is_main = main;
          task = t;
          at_place = at;
          number = port.1.0;
          port = port.0;
          listed = among_get (inputs_of t) port.1.0 port.0 port.1.1.0 port.1.1.1;
          named = sym port.2;
          inside = inside;
        };
      }

  pub root_leads : (number : ℕ) (row : NodeRow) (port : List ℕ) → number ≡ 0 → IsNodeRow m number row → LeadsToMain m number port
  root_leads number row port e table node t is at x around exists input =
      let root : node ≡ [] = is_root m sound number row node t e table is in
      main_input (element_at node at port x) (ap (λ n. place_on n at) root) exists input

  -- ---- a part

  part_leads_at : (above : ℕ) (up : Node) (k : ℕ) (c : Compound) (port : List ℕ) (l : Plain) → IsNode m above up (tasks.Compound c) → IsOwnLink c k port l → LeadsToMain m above l.from.port
      → (at x : List ℕ) → IsPointOf (space_around up) at → IsElement m (element_at (ToPart k ∷ up) at port x) → IsInput m (element_at (ToPart k ∷ up) at port x) → IsFromMain m (element_at (ToPart k ∷ up) at port x)
  part_leads_at above up k c port l is own later at x around exists input =
      let place : Place = place_on up at in
      let e : Element = of_part place k port x in
      let q : Element = end_element c place l.from x in
      let here : instance_of_end c place l.to.part ≡ IntoPart k ∷ place = ap (instance_of_end c place) own.into.part ∙ ap (λ (n : ℕ). IntoPart n ∷ place) own.into.number in
      let fed : PartInput m e q = record {
        up = place;
        task = c;
        at_place = task_there_on m sound above up (tasks.Compound c) at is around;
        link = l;
        listed = own.listed;
        part = own.into.name;
        into_part = own.into.part;
        left = same_element e (end_element c place l.to x) (sym here) (sym own.into.port_is) refl;
        right = refl;
        exists = exists;
      } in
      let same : q ≡ element_at up at l.from.port x = ap (λ o. record { place = instance_of_end c place o; port = l.from.port; index = x }) own.own in
      let P : Element → Type 0 = λ z. IsElement m z in
      let Q : Element → Type 0 = λ z. IsInput m z in
      let q_exists : IsElement m q = needed_exists m sound e q (by_following (by_part_input fed)) in
      let q_input : IsInput m q = wired.part_input_own e q fed own.own in
      from_on e (element_at up at l.from.port x) (followed_homes m wired e q (by_part_input fed) ∙ ap (home_of m) same) (later up (tasks.Compound c) is at x around (subst P same q_exists) (subst Q same q_input))

  pub part_leads : (number : ℕ) (row : NodeRow) (c : Compound) (port : List ℕ) (l : Plain) → number ≢ 0 → IsNodeRow m number row → HasTask m row.up (tasks.Compound c) → IsOwnLink c row.part port l → LeadsToMain m row.up l.from.port
      → LeadsToMain m number port
  part_leads number row c port l some table has own later node t is at x =
      let u = is_under m sound number row node t some table is in
      let above : u.above ≡ tasks.Compound c = above_same m number row node has.0 t (tasks.Compound c) u has.1 in
      let b = to_part m c u.branch t (sym (ap (λ a. task_under m a u.branch) above) ∙ u.leads) in
      let here : node ≡ ToPart row.part ∷ u.up = u.is ∙ (ap (λ z. z ∷ u.up) b.1 ∙ ap (λ k. ToPart k ∷ u.up) (sym (u.part b.0 b.1))) in
      let P : Node → Type 0 = λ n. IsPointOf (space_around n) at → IsElement m (element_at n at port x) → IsInput m (element_at n at port x) → IsFromMain m (element_at n at port x) in
      let Q : Task → Type 0 = λ z. IsNode m row.up u.up z in
      subst P (sym here) (part_leads_at row.up u.up row.part c port l (subst Q above u.at_up) own later at x)

  -- ---- a body

  module _ (up : Place) (r u x : List ℕ) (exists : IsElement m (of_repetition up r u x)) (input : IsInput m (of_repetition up r u x)) (t : Repeated) (at : task_at m up ≡ Some (tasks.Repeated t)) (o : TilerOn) (tiler : IsTilerInto t u o) where
    rules : (z : IsTaskOf m (tasks.Repeated t)) × IsTiling z.before t o
    rules = tiler_there m sound.shapes up t o at tiler.listed

    -- the tiler is on an outer input
    outer_there : (array : List ℕ) × (port_shape t.ins o.outer ≡ Some array)
    outer_there = go (sides_of rules.0.before t o rules.1)
      where
        go : JoinsPorts t.ins (inputs_named rules.0.before t.task) o ⊎ JoinsPorts t.outs (outputs_named rules.0.before t.task) o → (array : List ℕ) × (port_shape t.ins o.outer ≡ Some array)
        go (inl sides) = there (port_shape t.ins o.outer) sides.outside
        go (inr sides) =
            let output : is_input_at (task_at m (IntoRepetition r ∷ up)) o.inner ≡ false = inner_output m sound.shapes up t rules.0 r o.inner at sides.inside in
            let other : is_input_at (task_at m (IntoRepetition r ∷ up)) o.inner ≡ true = ap (is_input_at (task_at m (IntoRepetition r ∷ up))) tiler.inner_is ∙ input in
            let no : false ≡ true = sym output ∙ other in
            absurd (cc)

    abbrev taken : Element
    taken = record { place = up; port = o.outer; index = address_point o.tiler outer_there.0 r x }

    tiled : TiledInput m (of_repetition up r u x) taken
    tiled = record {
      up = up;
      task = t;
      at_place = at;
      tiling = o;
      listed = tiler.listed;
      array = outer_there.0;
      outer_shape = outer_there.1;
      repetition = r;
      left = same_element (of_repetition up r u x) (of_repetition up r o.inner x) refl (sym tiler.inner_is) refl;
      right = refl;
      exists = exists;
    }

    body_leads_on : (IsElement m taken → IsInput m taken → IsFromMain m taken) → IsFromMain m (of_repetition up r u x)
    body_leads_on later =
        from_on (of_repetition up r u x) taken (followed_homes m wired (of_repetition up r u x) taken (by_tiled_input tiled))
        (later (needed_exists m sound (of_repetition up r u x) taken (by_following (by_tiled_input tiled))) (wired.tiled_input (of_repetition up r u x) taken tiled).1)

  body_leads_at : (above : ℕ) (up : Node) (t : Repeated) (port : List ℕ) (o : TilerOn) → IsNode m above up (tasks.Repeated t) → IsTilerInto t port o → LeadsToMain m above o.outer → (at x : List ℕ)
      → IsPointOf (space_around (ToBody t.space ∷ up)) at → IsElement m (element_at (ToBody t.space ∷ up) at port x) → IsInput m (element_at (ToBody t.space ∷ up) at port x) → IsFromMain m (element_at (ToBody t.space ∷ up) at port x)
  body_leads_at above up t port o is tiler later at x around exists input =
      let n : ℕ = length at - length t.space in
      let front = front_point (space_around up) t.space at around in
      let there = task_there_on m sound above up (tasks.Repeated t) (take n at) is front in
      body_leads_on (place_on up (take n at)) (drop n at) port x exists input t there o tiler
      (λ q_exists q_input. later up (tasks.Repeated t) is (take n at) _ front q_exists q_input)

  pub body_leads : (number : ℕ) (row : NodeRow) (r : Repeated) (port : List ℕ) (o : TilerOn) → number ≢ 0 → IsNodeRow m number row → HasTask m row.up (tasks.Repeated r) → IsTilerInto r port o → LeadsToMain m row.up o.outer
      → LeadsToMain m number port
  body_leads number row r port o some table has tiler later node t is at x =
      let u = is_under m sound number row node t some table is in
      let above : u.above ≡ tasks.Repeated r = above_same m number row node has.0 t (tasks.Repeated r) u has.1 in
      let here : node ≡ ToBody r.space ∷ u.up = (body_place m number row node t r u above is).is in
      let P : Node → Type 0 = λ n. IsPointOf (space_around n) at → IsElement m (element_at n at port x) → IsInput m (element_at n at port x) → IsFromMain m (element_at n at port x) in
      let Q : Task → Type 0 = λ z. IsNode m row.up u.up z in
      subst P (sym here) (body_leads_at row.up u.up r port o (subst Q above u.at_up) tiler later at x)

-- ---- cells of main inputs

module _ (f : Laid) (flat : IsFlat f) where
  main_cell : (e : Element) → IsFromMain f.model e → IsMainRead f e
  main_cell e r =
      let a = r.main in
      let P : List Port → Type 0 = λ ports. IsAmong (elements_of [] ports) r.home in
      let ports : main_inputs f.model ≡ inputs_of a.task = ap (λ o. unwrap_or (option_map inputs_of o) []) a.at_place in
      let listed : IsAmong (main_input_elements f.model) r.home =
      subst P (sym ports) (of_port [] (inputs_of a.task) a.port r.home (get_among (inputs_of a.task) a.number a.port a.listed) a.is_main a.named a.inside) in
      let at : slice_get (main_input_elements f.model) listed.0 ≡ Some r.home = among_get (main_input_elements f.model) listed.0 r.home listed.1.0 listed.1.1 in
      let rest = main_output_elements f.model ++ flat_map (inner_cells f.model) (nodes f.model) in
      let first : f.cells ≡ main_input_elements f.model ++ rest = flat.laid ∙ append_assoc (main_input_elements f.model) (main_output_elements f.model) (flat_map (inner_cells f.model) (nodes f.model)) in
      record {
        cell = listed.0;
        first = listed.1.0;
        is = record {
          home = r.home;
          is_home = r.home_is;
          at_cell = ap (λ cells. slice_get cells listed.0) first ∙ slice_get-left (main_input_elements f.model) rest listed.0 r.home at;
        };
      }

  -- what the instances of a leaf read
  pub leaf_reads_main : (leaf : ℕ) (row : LeafRow) (spot : LeafSpot) (task : ℕ) (t : Task) → IsLeafRow f.model leaf row → row.kind ≡ kinds.Elementary task → IsLeafSpot f.model leaf spot → HasTask f.model spot.node t
      → ((k : ℕ) (p : Port) → slice_get (inputs_of t) k ≡ Some p → LeadsToMain f.model spot.node p.name) → ReadsMainInputs f leaf
  leaf_reads_main leaf row spot task t r kind s has each l number at low e a =
      let m = f.model in
      let same_row : r.leaf ≡ l = one_leaf m leaf r.leaf l r.at at in
      let same_spot : s.leaf ≡ l = one_leaf m leaf s.leaf l s.at at in
      let computes : l.work ≡ Computes = ap (λ (z : Leaf). z.work) (sym same_row) ∙ computes_is m r.leaf row.kind task r.kind kind in
      let P : Node → Type 0 = λ n. IsNode m spot.node n s.task in
      let is : IsNode m spot.node l.node s.task = subst P (ap (λ (z : Leaf). z.node) same_spot) s.node in
      let one : s.task ≡ t = task_same has.0 s.task has.1 s.node in
      let Q : Task → Type 0 = λ z. IsNode m spot.node l.node z in
      let here : IsNode m spot.node l.node t = subst Q one is in
      let p = point_at l.space number in
      let space : l.space ≡ space_around l.node = run_space l computes (leaf_form m leaf l at).form in
      let R : List ℕ → Type 0 = λ z. IsPointOf z p in
      let around : IsPointOf (space_around l.node) p = subst R space (point_at-is l.space number low) in
      let place = place_on l.node p in
      let at_place : task_at m place ≡ Some t = task_there_on m flat.sound spot.node l.node t p here around in
      let run : instance_on l p ≡ Run place = rw computes refl in
      let elements : read_elements m (instance_on l p) ≡ elements_of place (inputs_of t) = ap (read_elements m) run ∙ ap (of_task (λ z. elements_of place (inputs_of z))) at_place in
      let S : List Element → Type 0 = λ es. IsAmong es e in
      let listed : IsAmong (elements_of place (inputs_of t)) e = subst S elements a in
      let port = at_port place (inputs_of t) e listed in
      let exists : IsElement m e = input_exists m flat.sound place t e at_place listed in
      let checks = task_there m flat.sound.shapes place t at_place in
      let own = input_own checks.before checks.place t port.port checks.holds port.listed in
      let side : is_input_at (task_at m place) port.port.name ≡ true = input_there m flat.sound.shapes place t port.port.name at_place (ap is_some own) in
      let is_e : e ≡ element_at l.node p port.port.name e.index = same_element e (element_at l.node p port.port.name e.index) (ap (λ (z : Element). z.place) port.is) (ap (λ (z : Element). z.port) port.is) refl in
      let E : Element → Type 0 = λ z. IsElement m z in
      let M : Element → Type 0 = λ z. IsFromMain m z in
      let number_of = among_get (inputs_of t) port.listed.0 port.port port.listed.1.0 port.listed.1.1 in
      main_cell e (subst M (sym is_e) (each port.listed.0 port.port number_of l.node t here p e.index around (subst E is_e exists) side))
    where
      task_same : (n : Node) (z : Task) → IsNode f.model spot.node n t → IsNode f.model spot.node s.leaf.node z → z ≡ t
      task_same n z there_t there_z =
          let pairs : Some (s.leaf.node, z) ≡ Some (n, t) = sym there_z ∙ there_t in
          let pair : ◌≡◌ {A = Node × Task} (s.leaf.node, z) (n, t) = cc in
          ap (λ (q : Node × Task). q.1) pair

      run_space : (z : Leaf) → z.work ≡ Computes → IsRunForm z ⊎ IsCopyForm f.model z → z.space ≡ space_around z.node
      run_space z computes (inl h) = h.space
      run_space z computes (inr h) = let no = sym computes ∙ h.copies in cc

-- ---- reads of main inputs have no writers

-- reads of main inputs alone
pub record AreMainReads (f : Laid) (es : List Element) : Type 0 where
  pub reads : List Read
  pub are : AllZip (IsReadOf f) es reads
  pub none : (list : List (Option ℕ)) → AreBare f list → writers_read list reads ≡ []

pub main_reads : (f : Laid) (es : List Element) → ((e : Element) → IsAmong es e → IsMainRead f e) → AreMainReads f es
main_reads f [] all = record { reads = []; are = tt; none = λ list bare. refl }
main_reads f (e ∷ es) all =
    let r = all e (0, (omega arith, refl)) in
    let later = main_reads f es (λ x a. all x (IsAmong-tail e es x a)) in
    record {
      reads = Cell r.cell ∷ later.reads;
      are = (r.is, later.are);
      none = λ list bare. ap (λ o. with_writer o (writers_read list later.reads)) (bare r.cell r.first) ∙ later.none list bare;
    }

-- ---- how many elements some ports have

port_count : (p : Port) → length (port_elements [] p) ≡ size p.shape
port_count p =
    length-map (points p.shape) (λ (x : List ℕ). record { place = []; port = p.name; index = x }) ∙ (length-map (numbers_below (size p.shape)) (point_at p.shape) ∙ length-numbers 0 (size p.shape))

elements_one : (p : Port) (ports : List Port) → length (elements_of [] (p ∷ ports)) ≡ size p.shape + length (elements_of [] ports)
elements_one p ports = let one = port_count p in omega (arith, one, length-append (port_elements [] p) (elements_of [] ports))

-- those of one port more
pub elements_more : (ports : List Port) (k : ℕ) (p : Port) → slice_get ports k ≡ Some p → length (elements_of [] (take (k + 1) ports)) ≡ length (elements_of [] (take k ports)) + size p.shape
elements_more [] k p at = absurd (none-some p at)
elements_more (x ∷ ports) zero p at =
    let same : size x.shape ≡ size p.shape = cc in
    let none : take 0 ports ≡ [] = refl in
    omega (arith, same, elements_one x (take 0 ports))
elements_more (x ∷ ports) (suc k) p at =
    let more : suc k + 1 ≡ suc (k + 1) = omega arith in
    let e : length (elements_of [] (take (suc k + 1) (x ∷ ports))) ≡ length (elements_of [] (x ∷ take (k + 1) ports)) = ap (λ n. length (elements_of [] (take n (x ∷ ports)))) more in
    let later = elements_more ports k p at in
    omega (arith, e, elements_one x (take (k + 1) ports), elements_one x (take k ports), later)

pub elements_within : (ports : List Port) (k : ℕ) → length (elements_of [] (take k ports)) ≤ length (elements_of [] ports)
elements_within ports zero = omega arith
elements_within [] (suc k) = omega arith
elements_within (x ∷ ports) (suc k) = let later = elements_within ports k in omega (arith, later, elements_one x (take k ports), elements_one x ports)

-- the main inputs are those of the task of the root
pub root_inputs : (m : Model) (sound : IsSound m) (row : NodeRow) (t : Task) → IsNodeRow m 0 row → HasTask m 0 t → main_inputs m ≡ inputs_of t
root_inputs m sound row t table has =
    let root : has.0 ≡ [] = is_root m sound 0 row has.0 t refl table has.1 in
    let at : main_task m ≡ Some t = ap (node_task m) (sym root) ∙ (known m 0 has.0 t has.1).task in
    ap (λ o. unwrap_or (option_map inputs_of o) []) at

-- they are cells
pub main_few : (f : Laid) → IsLaid f → length (main_input_elements f.model) ≤ length f.cells
main_few f laid =
    let main = main_input_elements f.model ++ main_output_elements f.model in
    let inner = flat_map (inner_cells f.model) (nodes f.model) in
    omega (arith, ap length laid, length-append main inner, length-append (main_input_elements f.model) (main_output_elements f.model))

-- a place of a leaf is that of a node
pub some_node : (m : Model) (leaf : ℕ) (spot : LeafSpot) → IsLeafSpot m leaf spot → 0 < length (nodes m)
some_node m leaf spot s = omega (arith, slice_get_within (nodes m) spot.node (s.leaf.node, s.task) s.node)
