-- What hands an output of a node up is there.
use Rattle.std.proofs.Common.{◌≡◌, ℕ, true, false, ◌&&◌, List, [], ◌∷◌, Option, Some, None, is_some, is_none, option_map, unwrap_or, slice_get, sym, ◌∙◌, ap, refl, subst, ◌⊎◌, inl, inr}
use Rattle.aol_shape.specs.Lists.{same}
use Rattle.aol_expr_tree.specs.declared.port.Port.{Port}
use Rattle.aol_model_types.specs.declared.document.Model.{Model}
use Rattle.aol_model_types.specs.declared.task.Compound.{Compound}
use Rattle.aol_model_types.specs.declared.task.Elementary.{Elementary}
use Rattle.aol_model_types.specs.declared.task.Plain.{Plain}
use Rattle.aol_model_types.specs.declared.task.Repeated.{Repeated}
use Rattle.aol_model_types.specs.declared.task.Task.{Task}
use Rattle.aol_model_types.specs.declared.task.Task.TheVariants as tasks
use Rattle.aol_model_types.specs.declared.task.TilerOn.{TilerOn}
use Rattle.aol_model_types.specs.Rules.{task_named, inputs_of, outputs_of, inputs_named, outputs_named, port_shape, to_shape}
use Rattle.aol_flat.specs.Accept.{IsSound}
use Rattle.aol_flat.specs.declared.feed.Hand.{Hand}
use Rattle.aol_flat.specs.declared.feed.Hand.TheVariants as hands
use Rattle.aol_flat.specs.Feed.{HandsToOutputs, TilesOutputs, PartHands, BodyHands, Hands, IsPartOf, IsBodyOf}
use Rattle.aol_flat.specs.Home.{is_part_end}
use Rattle.aol_flat.specs.declared.nodes.NodeRow.{NodeRow}
use Rattle.aol_flat.specs.Laid.{stores_output}
use Rattle.aol_flat.specs.Node.{Branch, ToPart, ToBody, Node, task_under, node_task}
use Rattle.aol_flat.specs.NodeTable.{IsNode, stores_at}
use Rattle.aol_flat.proofs.Among.{get_among}
use Rattle.aol_flat.proofs.Checked.{IsTaskOf, of_compound, of_repeated, named_earlier, port_there, sides_apart}
use Rattle.aol_flat.proofs.LinkRules.{linked}
use Rattle.aol_flat.proofs.Names.{both-true, same-equal}
use Rattle.aol_flat.proofs.NodeAt.{IsUnder, known}
use Rattle.aol_flat.proofs.NodeTasks.{HasSpaces}
use Rattle.aol_flat.proofs.Once.{found_among}
use Rattle.aol_flat.proofs.Shapes.{output_own}
use Rattle.aol_flat.proofs.Sites.{find-passes}
use Rattle.aol_flat.proofs.TilerRules.{JoinsPorts, IsTiling, tiled, sides_of}

nothing_there : (o : Option (List ℕ)) → is_none o ≡ true → o ≡ None
nothing_there None h = refl
nothing_there (Some x) h = cc

-- the steps down to a part and to a body
pub to_part : (m : Model) (c : Compound) (b : Branch) (t : Task) → task_under m (tasks.Compound c) b ≡ Some t → (k : ℕ) × (b ≡ ToPart k)
to_part m c (ToPart k) t h = (k, refl)
to_part m c (ToBody space) t h = cc

pub to_body : (m : Model) (r : Repeated) (b : Branch) (t : Task) → task_under m (tasks.Repeated r) b ≡ Some t → (space : List ℕ) × (b ≡ ToBody space) × (task_named m.tasks r.task ≡ Some t)
to_body m r (ToPart k) t h = cc
to_body m r (ToBody space) t h = (space, refl, h)

pub no_step : (m : Model) (e : Elementary) (b : Branch) (t : Task) → task_under m (tasks.Elementary e) b ≡ Some t → ⊥
no_step m e b t h = cc

-- a port of the repeated task that the rules know of
pub inner_port : (m : Model) (r : Repeated) (s : IsTaskOf m (tasks.Repeated r)) (t : Task) (ports : Task → List Port) (name : List ℕ) → task_named m.tasks r.task ≡ Some t
    → is_some (port_shape (unwrap_or (option_map ports (task_named s.before r.task)) []) name) ≡ true → is_some (port_shape (ports t) name) ≡ true
inner_port m r s t ports name found known =
    let u = port_there ports (task_named s.before r.task) name known in
    let one : Some u.0 ≡ Some t = sym (named_earlier m s.before (tasks.Repeated r ∷ s.rest) r.task u.0 s.split u.1) ∙ found in
    let is : u.0 ≡ t = cc in
    ap (λ v. is_some (port_shape (ports v) name)) (sym is) ∙ u.2

module _ (m : Model) (sound : IsSound m) where
  -- a link that hands something up leads to an output that is there
  pub hands_to_outputs : (c : Compound) → IsTaskOf m (tasks.Compound c) → HandsToOutputs c
  hands_to_outputs c s k name l f =
      let passes = both-true (is_part_end c k name l.from) (is_none l.to.part) (find-passes (λ (z : Plain). is_part_end c k name z.from && is_none z.to.part) c.links l f) in
      let own = nothing_there l.to.part passes.1 in
      let rules = linked s.before s.place c l (of_compound s.before s.place c s.holds) (found_among (λ (z : Plain). is_part_end c k name z.from && is_none z.to.part) c.links l f) in
      sym (ap (λ o. is_some (to_shape s.before c (record { part = o; port = l.to.port }))) own) ∙ rules.takes

  -- and so does a tiler at an inner output
  pub tiles_outputs : (r : Repeated) (t : Task) (p : Port) (k : ℕ) → IsTaskOf m (tasks.Repeated r) → IsTaskOf m t → task_named m.tasks r.task ≡ Some t → slice_get (outputs_of t) k ≡ Some p
      → TilesOutputs r p.name
  tiles_outputs r t p k s u found listed o f = go (sides_of s.before r o rules)
    where
      rules : IsTiling s.before r o
      rules = tiled s.before s.place r o (of_repeated s.before s.place r s.holds) (found_among (λ (z : TilerOn). same z.inner p.name) r.tilers o f)

      inner : o.inner ≡ p.name
      inner = same-equal o.inner p.name (find-passes (λ (z : TilerOn). same z.inner p.name) r.tilers o f)

      go : JoinsPorts r.ins (inputs_named s.before r.task) o ⊎ JoinsPorts r.outs (outputs_named s.before r.task) o → is_some (port_shape r.outs o.outer) ≡ true
      go (inl sides) =
          let known : is_some (port_shape (inputs_of t) p.name) ≡ true =
          ap (λ n. is_some (port_shape (inputs_of t) n)) (sym inner) ∙ inner_port m r s t inputs_of o.inner found sides.inside in
          let own = output_own u.before u.place t p u.holds (get_among (outputs_of t) k p listed) in
          let apart : false ≡ true = sym (sides_apart u.before u.place t p.name u.holds (ap is_some own)) ∙ known in
          cc
      go (inr sides) = sides.outside

-- what is known of a part and of a body
pub part_hands : (m : Model) (number : ℕ) (row : NodeRow) (node : Node) (t : Task) (p : Port) (c : Compound) (h : Hand) (u : IsUnder m number row node t) → u.above ≡ tasks.Compound c → PartHands c row.part p.name h → Hands m node p h
part_hands m number row node t p c h u is by = go h by
  where
    branch : (k : ℕ) × (u.branch ≡ ToPart k)
    branch = to_part m c u.branch t (sym (ap (λ a. task_under m a u.branch) is) ∙ u.leads)

    here : node ≡ ToPart row.part ∷ u.up
    here = u.is ∙ (ap (λ b. b ∷ u.up) branch.1 ∙ ap (λ k. ToPart k ∷ u.up) (sym (u.part branch.0 branch.1)))

    above : node_task m u.up ≡ Some (tasks.Compound c)
    above = u.above_is ∙ ap (λ x. Some x) is

    place : IsPartOf m node u.up row.part c
    place = record { is = here; above = above }

    go : (h : Hand) → PartHands c row.part p.name h → Hands m node p h
    go hands.Stored f = ap (λ x. stores_at m x false p.name) here ∙ (ap (λ o. stores_output o (ToPart row.part) p.name) above ∙ ap is_none f)
    go (hands.Own j) f = record { up = u.up; part = row.part; task = c; place = place; link = f.0; found = f.1; port = f.2 }
    go (hands.Tiled i j) f = absurd f

module _ (m : Model) (number : ℕ) (row : NodeRow) (node : Node) (t : Task) where
  pub body_place : (r : Repeated) (u : IsUnder m number row node t) → u.above ≡ tasks.Repeated r → IsNode m number node t → IsBodyOf m node u.up r
  body_place r u is at =
      let b = to_body m r u.branch t (sym (ap (λ a. task_under m a u.branch) is) ∙ u.leads) in
      let here : node ≡ ToBody b.0 ∷ u.up = u.is ∙ ap (λ x. x ∷ u.up) b.1 in
      let P : Node → Type 0 = λ x. HasSpaces m x in
      let spaces = subst P here (known m number node t at).spaces in
      let above : node_task m u.up ≡ Some (tasks.Repeated r) = u.above_is ∙ ap (λ x. Some x) is in
      let equal : Some (tasks.Repeated spaces.0.0) ≡ Some (tasks.Repeated r) = sym spaces.0.1 ∙ above in
      let one : spaces.0.0 ≡ r = cc in
      record { is = here ∙ ap (λ s. ToBody s ∷ u.up) (spaces.0.2 ∙ ap (λ (x : Repeated). x.space) one); above = above }

  pub body_hands : (p : Port) (r : Repeated) (h : Hand) (u : IsUnder m number row node t) → u.above ≡ tasks.Repeated r → IsNode m number node t → BodyHands r p.name h → Hands m node p h
  body_hands p r h u is at by = go h by
    where
      place : IsBodyOf m node u.up r
      place = body_place r u is at

      go : (h : Hand) → BodyHands r p.name h → Hands m node p h
      go hands.Stored f = ap (λ x. stores_at m x false p.name) place.is ∙ (ap (λ o. stores_output o (ToBody r.space) p.name) place.above ∙ ap is_none f)
      go (hands.Own j) f = absurd f
      go (hands.Tiled i j) f = record { up = u.up; task = r; place = place; tiler = f.0; found = f.1; at = f.2; port = f.3 }
