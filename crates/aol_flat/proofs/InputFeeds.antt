-- What feeds an input of a node is there.
use Rattle.std.proofs.Common.{◌≡◌, ℕ, true, false, ◌<◌, ◌^◌, List, [], ◌∷◌, length, Some, None, is_some, is_none, option_map, unwrap_or, slice_get, sym, ◌∙◌, ap, arith, ◌⊎◌, inl, inr}
use Rattle.std.specs.Prelude.{option_and_then}
use Rattle.std.proofs.lemmas.List.{length-map}
use Rattle.std.proofs.lemmas.Option.{slice_get_within}
use Rattle.aol_shape.specs.Lists.{same}
use Rattle.aol_expr_tree.specs.declared.port.Port.{Port}
use Rattle.aol_link.specs.declared.link.Interlink.{Interlink}
use Rattle.aol_model_types.specs.declared.document.Model.{Model}
use Rattle.aol_model_types.specs.declared.task.Compound.{Compound}
use Rattle.aol_model_types.specs.declared.task.OutPort.{OutPort}
use Rattle.aol_model_types.specs.declared.task.Part.{Part}
use Rattle.aol_model_types.specs.declared.task.Plain.{Plain}
use Rattle.aol_model_types.specs.declared.task.Repeated.{Repeated}
use Rattle.aol_model_types.specs.declared.task.Task.{Task}
use Rattle.aol_model_types.specs.declared.task.Task.TheVariants as tasks
use Rattle.aol_model_types.specs.declared.task.TilerOn.{TilerOn}
use Rattle.aol_model_types.specs.Rules.{task_named, inputs_of, outputs_of, inputs_named, outputs_named, port_shape, from_shape}
use Rattle.aol_model_types.specs.Types.{IsTask}
use Rattle.aol_flat.specs.declared.feed.Feed.{Feed}
use Rattle.aol_flat.specs.declared.feed.Feed.TheVariants as feeds
use Rattle.aol_flat.specs.declared.nodes.NodeRow.{NodeRow}
use Rattle.aol_flat.specs.Feed.{TilesInputs, LinksOutputs, PartFeeds, BodyFeeds, Feeds, IsPartOf, IsBodyOf}
use Rattle.aol_flat.specs.Home.{is_part_end, link_into_part}
use Rattle.aol_flat.specs.Laid.{stores_input}
use Rattle.aol_flat.specs.Node.{ToPart, Node, task_under, node_task}
use Rattle.aol_flat.specs.NodeTable.{IsNode, stores_at}
use Rattle.aol_flat.specs.Tasks.{part_number}
use Rattle.aol_flat.proofs.Among.{get_among}
use Rattle.aol_flat.proofs.Checked.{IsTaskOf, of_compound, of_repeated, named_earlier, port_there, sides_apart}
use Rattle.aol_flat.proofs.Hands.{to_part, inner_port, body_place}
use Rattle.aol_flat.proofs.LinkRules.{linked, given_by_part, part_at}
use Rattle.aol_flat.proofs.Names.{same-equal}
use Rattle.aol_flat.proofs.NodeAt.{IsUnder, known}
use Rattle.aol_flat.proofs.Once.{found_among, not_counted, counted_found}
use Rattle.aol_flat.proofs.Shapes.{input_own}
use Rattle.aol_flat.proofs.Sites.{find-passes}
use Rattle.aol_flat.proofs.TilerRules.{JoinsPorts, IsTiling, tiled, joined, sides_of, fed_once}

-- a u32 counts the outputs of a task
pub outputs_few : (t : Task) → IsTask t → length (outputs_of t) < 2 ^ 32
outputs_few (tasks.Elementary e) h = omega (arith, h.out_count, length-map e.outs (λ (o : OutPort). o.port))
outputs_few (tasks.Compound c) h = h.out_count
outputs_few (tasks.Repeated r) h = h.out_count

module _ (m : Model) where
  -- a link from an own input
  pub feeds_own : (c : Compound) (s : IsTaskOf m (tasks.Compound c)) (k : ℕ) (name : List ℕ) (l : Plain) → link_into_part c k name ≡ Some l → l.from.part ≡ None → is_some (port_shape c.ins l.from.port) ≡ true
  feeds_own c s k name l f own =
      let rules = linked s.before s.place c l (of_compound s.before s.place c s.holds) (found_among (λ (z : Plain). is_part_end c k name z.to) c.links l f) in
      sym (ap (λ o. is_some (from_shape s.before c (record { part = o; port = l.from.port }))) own) ∙ rules.gives

  -- a link from a part
  pub record IsGiver (c : Compound) (g port : List ℕ) : Type 0 where
    pub part : Part
    pub listed : slice_get c.parts (part_number c g) ≡ Some part
    pub task : Task
    pub found : task_named m.tasks part.task ≡ Some task
    pub has : is_some (port_shape (outputs_of task) port) ≡ true
    pub within : part_number c g < length c.parts

  pub feeds_part : (c : Compound) (s : IsTaskOf m (tasks.Compound c)) (k : ℕ) (name : List ℕ) (l : Plain) (g : List ℕ) → link_into_part c k name ≡ Some l → l.from.part ≡ Some g → IsGiver c g l.from.port
  feeds_part c s k name l g f of_part =
      let rules = linked s.before s.place c l (of_compound s.before s.place c s.holds) (found_among (λ (z : Plain). is_part_end c k name z.to) c.links l f) in
      let p = given_by_part s.before c l.from g of_part rules.gives in
      let u = port_there outputs_of (task_named s.before p.0.task) l.from.port p.2 in
      record {
        part = p.0;
        listed = part_at c g p.0 p.1;
        task = u.0;
        found = named_earlier m s.before (tasks.Compound c ∷ s.rest) p.0.task u.0 s.split u.1;
        has = u.2;
        within = slice_get_within c.parts (part_number c g) p.0 (part_at c g p.0 p.1);
      }

  -- the task of its node has the output
  pub giver_has : (above below : ℕ) (node : Node) (c : Compound) (g port : List ℕ) (t : Task) → IsGiver c g port → IsNode m above node (tasks.Compound c) → IsNode m below (ToPart (part_number c g) ∷ node) t
      → is_some (port_shape (outputs_of t) port) ≡ true
  giver_has above below node c g port t giver there here =
      let at : node_task m (ToPart (part_number c g) ∷ node) ≡ Some giver.task =
      ap (option_and_then (λ u. task_under m u (ToPart (part_number c g)))) (known m above node (tasks.Compound c) there).task
      ∙ (ap (option_and_then (λ (q : Part). task_named m.tasks q.task)) giver.listed ∙ giver.found) in
      let one : Some giver.task ≡ Some t = sym at ∙ (known m below (ToPart (part_number c g) ∷ node) t here).task in
      let is : giver.task ≡ t = cc in
      ap (λ u. is_some (port_shape (outputs_of u) port)) (sym is) ∙ giver.has

  -- a tiler at an inner input
  pub tiles_inputs : (r : Repeated) (t : Task) (p : Port) (k : ℕ) → IsTaskOf m (tasks.Repeated r) → IsTaskOf m t → task_named m.tasks r.task ≡ Some t → slice_get (inputs_of t) k ≡ Some p → TilesInputs r p.name
  tiles_inputs r t p k s u found listed o f = go (sides_of s.before r o rules)
    where
      rules : IsTiling s.before r o
      rules = tiled s.before s.place r o (of_repeated s.before s.place r s.holds) (found_among (λ (z : TilerOn). same z.inner p.name) r.tilers o f)

      inner : o.inner ≡ p.name
      inner = same-equal o.inner p.name (find-passes (λ (z : TilerOn). same z.inner p.name) r.tilers o f)

      go : JoinsPorts r.ins (inputs_named s.before r.task) o ⊎ JoinsPorts r.outs (outputs_named s.before r.task) o → is_some (port_shape r.ins o.outer) ≡ true
      go (inl sides) = sides.outside
      go (inr sides) =
          let given : is_some (port_shape (outputs_of t) p.name) ≡ true =
          ap (λ n. is_some (port_shape (outputs_of t) n)) (sym inner) ∙ inner_port m r s t outputs_of o.inner found sides.inside in
          let own = input_own u.before u.place t p u.holds (get_among (inputs_of t) k p listed) in
          let apart : true ≡ false = sym (ap is_some own) ∙ sides_apart u.before u.place t p.name u.holds given in
          cc

  -- where there is none, a link
  pub links_outputs : (r : Repeated) (t : Task) (p : Port) (k : ℕ) (s : IsTaskOf m (tasks.Repeated r)) → IsTaskOf m t → task_named m.tasks r.task ≡ Some t → task_named s.before r.task ≡ Some t → slice_get (inputs_of t) k ≡ Some p
      → LinksOutputs r t p.name
  links_outputs r t p k s u found before listed untiled =
      let own = input_own u.before u.place t p u.holds (get_among (inputs_of t) k p listed) in
      let holds = of_repeated s.before s.place r s.holds in
      let has : is_some (port_shape (inputs_named s.before r.task) p.name) ≡ true = ap (λ o. is_some (port_shape (unwrap_or (option_map inputs_of o) []) p.name)) before ∙ ap is_some own in
      let one = fed_once s.before s.place r p.name holds has in
      let none = not_counted (λ (z : TilerOn). same z.inner p.name) r.tilers untiled in
      let l = counted_found (λ (z : Interlink). same z.to p.name) r.links (omega (arith, one, none)) in
      let rules = joined s.before s.place r l.0 holds (found_among (λ (z : Interlink). same z.to p.name) r.links l.0 l.1) in
      (l.0, l.1, inner_port m r s t outputs_of l.0.from found rules.from)

pub part_feeds : (m : Model) (number : ℕ) (row : NodeRow) (node : Node) (t : Task) (p : Port) (c : Compound) (h : Feed) (u : IsUnder m number row node t) → u.above ≡ tasks.Compound c
    → PartFeeds m u.up c row.part p.name h → Feeds m node t p h
part_feeds m number row node t p c h u is by = go h by
  where
    branch : (k : ℕ) × (u.branch ≡ ToPart k)
    branch = to_part m c u.branch t (sym (ap (λ a. task_under m a u.branch) is) ∙ u.leads)

    here : node ≡ ToPart row.part ∷ u.up
    here = u.is ∙ (ap (λ b. b ∷ u.up) branch.1 ∙ ap (λ k. ToPart k ∷ u.up) (sym (u.part branch.0 branch.1)))

    above : node_task m u.up ≡ Some (tasks.Compound c)
    above = u.above_is ∙ ap (λ x. Some x) is

    place : IsPartOf m node u.up row.part c
    place = record { is = here; above = above }

    go : (h : Feed) → PartFeeds m u.up c row.part p.name h → Feeds m node t p h
    go feeds.Stored f = ap (λ x. stores_at m x true p.name) here ∙ (ap (λ o. stores_input o (ToPart row.part) p.name) above ∙ ap is_none f)
    go (feeds.Own j) f = record { up = u.up; part = row.part; task = c; place = place; link = f.0; found = f.1; own = f.2; port = f.3 }
    go (feeds.Part i j) f = record { up = u.up; part = row.part; task = c; place = place; by = f }
    go (feeds.Tiled i j) f = absurd f
    go (feeds.Linked i j) f = absurd f

pub body_feeds : (m : Model) (number : ℕ) (row : NodeRow) (node : Node) (t : Task) (p : Port) (r : Repeated) (h : Feed) (u : IsUnder m number row node t) → u.above ≡ tasks.Repeated r → IsNode m number node t
    → BodyFeeds r t p.name h → Feeds m node t p h
body_feeds m number row node t p r h u is at by = go h by
  where
    place : IsBodyOf m node u.up r
    place = body_place m number row node t r u is at

    go : (h : Feed) → BodyFeeds r t p.name h → Feeds m node t p h
    go feeds.Stored f = absurd f
    go (feeds.Own j) f = absurd f
    go (feeds.Part i j) f = absurd f
    go (feeds.Tiled i j) f = record { up = u.up; task = r; place = place; tiler = f.0; found = f.1; at = f.2; port = f.3 }
    go (feeds.Linked i j) f = record { up = u.up; task = r; place = place; untiled = f.1; link = f.0; found = f.2; at = f.3; port = f.4 }
