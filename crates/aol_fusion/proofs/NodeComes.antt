-- Each node of the fused model comes from an old one, or is one of those between the compound and its two parts.
use Rattle.std.proofs.Common.{◌≡◌, ℕ, ◌+◌, false, cond, ◌==◌, List, [], ◌∷◌, ◌++◌, length, take, Some, None, option_and_then, slice_get, sym, ◌∙◌, ap, refl, arith, subst, append_assoc}
use Rattle.std.specs.List.{IsAmong}
use Rattle.aol_shape.specs.Lists.{same}
use Rattle.aol_shape.specs.Shape.{IsPointOf}
use Rattle.aol_tiler.specs.Tiler.{address_point}
use Rattle.aol_model_types.specs.declared.document.Model.{Model}
use Rattle.aol_model_types.specs.declared.task.Compound.{Compound}
use Rattle.aol_model_types.specs.declared.task.Part.{Part}
use Rattle.aol_model_types.specs.declared.task.Repeated.{Repeated}
use Rattle.aol_model_types.specs.declared.task.Task.{Task}
use Rattle.aol_model_types.specs.declared.task.Task.TheVariants as tasks
use Rattle.aol_model_types.specs.Rules.{task_name, task_named}
use Rattle.aol_flat.specs.Instance.{leaves_below}
use Rattle.aol_flat.specs.Node.{ToPart, ToBody, Node, space_around, place_on, task_under, node_task}
use Rattle.aol_flat.specs.Numbered.{inner_names}
use Rattle.aol_flat.specs.Place.{Place, IntoPart, IntoRepetition}
use Rattle.aol_flat.specs.Tasks.{main_task, part_number}
use Rattle.aol_flat.proofs.Among.{map_among, get_among}
use Rattle.aol_flat.proofs.Inside.{point_split, point_both, place_in_body}
use Rattle.aol_flat.proofs.NodeTasks.{HasSpaces}
use Rattle.aol_change.specs.Change.{is_named, name_at, old_place}
use Rattle.aol_change.specs.Unblocked.{entries_before}
use Rattle.aol_change.proofs.Below.{own_name, node_named, before_other}
use Rattle.aol_fusion_parts.specs.Fuse.{Fusing}
use Rattle.aol_fusion_parts.specs.Made.{fused_names}
use Rattle.aol_fusion_rules.proofs.NewNumbers.{other_name}
use Rattle.aol_fusion_rules.proofs.Sound.{IsFusing}
use Rattle.aol_paving.proofs.NewLeaves.{Enough}
use Rattle.aol_fusion.specs.Map.{old_part, unfuse}
use Rattle.aol_fusion.specs.Numbers.{leaves_of, before_part, part_leaves, first_leaf}
use Rattle.aol_fusion.proofs.Comes.{HasLeaves, whole_enough, part_leaf, body_leaf, now, compound_number, low_apart, lower, now_other, now_is, name_there, part_kept, body_kept}
use Rattle.aol_fusion.proofs.Lookups.{IsOldName, old_name_of, next, block_task, once_task, pair_task, whole_task}

module _ (f : Fusing) (h : IsFusing f) where
  abbrev m : Model
  m = f.model

  abbrev new : Model
  new = next f h

  abbrev c : Compound
  c = f.compound

  abbrev block_name : List ℕ
  block_name = (fused_names f.model f.compound.name).block

  abbrev once_name : List ℕ
  once_name = (fused_names f.model f.compound.name).once

  abbrev back_to : Place → Place
  back_to = old_place (unfuse f) new

  -- ---- the relation

  -- an old node with its task, from which a new one comes
  pub record OldAt (node' node : Node) (t : Task) : Type 0 where
    pub at : node_task m node ≡ Some t
    pub now_at : node_task new node' ≡ Some (now f h t)
    pub spaces : HasSpaces m node
    pub new_spaces : HasSpaces new node'
    pub leaves : HasLeaves f h node' node t

  -- it comes from that in the same place
  pub record AsOld (node' node : Node) (t : Task) : Type 0 where
    pub old : OldAt node' node t
    pub around : space_around node' ≡ space_around node
    pub none : entries_before new block_name node' ≡ None
    pub from : (at : List ℕ) → IsPointOf (space_around node) at → back_to (place_on node' at) ≡ place_on node at

  -- it stands below a block
  pub record InBlock (node' node : Node) (t : Task) : Type 0 where
    pub old : OldAt node' node t
    pub low : Enough m.tasks (task_name t) (compound_number f h)
    pub front : List ℕ
    pub rest : List ℕ
    pub around : space_around node ≡ front ++ (f.one.space ++ rest)
    pub new_around : space_around node' ≡ front ++ (f.two.space ++ (f.args.block ++ rest))
    pub some : entries_before new block_name node' ≡ Some (length (front ++ f.two.space))
    pub from : (a o b r : List ℕ) → IsPointOf front a → IsPointOf f.two.space o → IsPointOf f.args.block b → IsPointOf rest r
        → back_to (place_on node' (a ++ (o ++ (b ++ r)))) ≡ place_on node (a ++ (address_point f.args.tiler f.one.space o b ++ r))

  -- the fused repetition as a part of the changed compound
  pub record AtWhole (node' : Node) : Type 0 where
    pub up : Node
    pub old_up : Node
    pub above : AsOld up old_up (tasks.Compound c)
    pub number : ℕ
    pub part : old_part f number ≡ part_number c f.args.second
    pub is : node' ≡ ToPart number ∷ up
    pub task : node_task new node' ≡ Some (whole_task f h)

  pub data Comes (node' : Node) : Type 0 where
    as_old : (node : Node) (t : Task) → AsOld node' node t → Comes node'
    in_block : (node : Node) (t : Task) → InBlock node' node t → Comes node'
    at_whole : AtWhole node' → Comes node'
    at_pair : (up : Node) → AtWhole up → HasSpaces new up → node' ≡ ToBody f.two.space ∷ up → node_task new node' ≡ Some (pair_task f h) → Comes node'
    at_first : (up : Node) → AtWhole up → HasSpaces new up → node' ≡ ToPart 0 ∷ ToBody f.two.space ∷ up → node_task new node' ≡ Some (block_task f h) → Comes node'
    at_second : (up : Node) → AtWhole up → HasSpaces new up → node' ≡ ToPart 1 ∷ ToBody f.two.space ∷ up → node_task new node' ≡ Some (once_task f h) → Comes node'

  -- ---- the root

  pub root : (t : Task) → main_task m ≡ Some t → AsOld [] [] t
  root t e = record {
    old = record {
      at = e;
      now_at = now_is f h m.main t e;
      spaces = tt;
      new_spaces = tt;
      leaves = record {
        depth = length m.tasks;
        enough = subst (λ n. Enough m.tasks n (length m.tasks)) (sym (own_name m.tasks m.main t e)) (whole_enough f h m.main t e);
        leaf = λ k l here. (let z : 0 + k ≡ k = omega arith in ap (λ n. slice_get (leaves_below (length m.tasks) m (main_task m) []) n) z ∙ (ap (λ o. slice_get (leaves_below (length m.tasks) m o []) k) e ∙ here));
      };
    };
    around = refl;
    none = refl;
    from = λ at inside. refl;
  }

  -- ---- a part of an unchanged compound

  pub old_of : (node : Node) (t : Task) → node_task m node ≡ Some t → IsOldName f h (task_name t)
  old_of node t e = old_name_of f h (task_name t) t (node_named m node t e)

  pub under_part : (node : Node) (x : Compound) (k : ℕ) (p : Part) (v : Task) → node_task m node ≡ Some (tasks.Compound x) → slice_get x.parts k ≡ Some p → task_named m.tasks p.task ≡ Some v → node_task m (ToPart k ∷ node) ≡ Some v
  under_part node x k p v at listed leads =
      ap (option_and_then (λ t. task_under m t (ToPart k))) at ∙ (ap (option_and_then (λ (q : Part). task_named m.tasks q.task)) listed ∙ leads)

  plain_leaves : (x : Compound) (k : ℕ) → IsOldName f h x.name → same x.name c.name ≡ false → part_leaves f (Some (tasks.Compound x)) k ≡ leaves_of m (take k x.parts)
  plain_leaves x k old e =
      ap (λ b. cond b (cond (old_part f k == part_number c f.args.second) 0 (before_part f (old_part f k)))
      (cond (same x.name (fused_names f.model f.compound.name).pair) (before_part f (part_number c (cond (k == 0) f.args.first f.args.second))) (leaves_of m (take k x.parts)))) e
      ∙ ap (λ b. cond b (before_part f (part_number c (cond (k == 0) f.args.first f.args.second))) (leaves_of m (take k x.parts))) (other_name (fused_names f.model f.compound.name).pair x.name old.pair)

  part_old : (node' node : Node) (x : Compound) (k : ℕ) (p : Part) (v : Task) → same x.name c.name ≡ false → OldAt node' node (tasks.Compound x) → slice_get x.parts k ≡ Some p → task_named m.tasks p.task ≡ Some v
      → node_task new (ToPart k ∷ node') ≡ Some (now f h v) → OldAt (ToPart k ∷ node') (ToPart k ∷ node) v
  part_old node' node x k p v e o listed leads now_leads =
      let named = node_named m node (tasks.Compound x) o.at in
      let here : node_task new node' ≡ Some (tasks.Compound x) = o.now_at ∙ ap (λ t. Some t) (now_other f h (tasks.Compound x) e) in
      let first : first_leaf f new (ToPart k ∷ node') ≡ first_leaf f new node' + leaves_of m (take k x.parts) =
      ap (λ t. first_leaf f new node' + part_leaves f t k) here ∙ ap (λ n. first_leaf f new node' + n) (plain_leaves x k (old_of node (tasks.Compound x) o.at) e) in
      record {
        at = under_part node x k p v o.at listed leads;
        now_at = now_leads;
        spaces = o.spaces;
        new_spaces = o.new_spaces;
        leaves = part_leaf f h node' node x k k p v named o.leaves listed leads (ToPart k ∷ node') first;
      }

  part_before : (node' : Node) (x : Compound) (k : ℕ) (o : IsOldName f h x.name) → node_task new node' ≡ Some (tasks.Compound x) → entries_before new block_name (ToPart k ∷ node') ≡ entries_before new block_name node'
  part_before node' x k o at = before_other new block_name (ToPart k) node' (tasks.Compound x) at (other_name block_name x.name o.block)

  pub as_old_part : (node' node : Node) (x : Compound) (k : ℕ) (p : Part) (v : Task) → same x.name c.name ≡ false → AsOld node' node (tasks.Compound x) → slice_get x.parts k ≡ Some p → task_named m.tasks p.task ≡ Some v
      → node_task new (ToPart k ∷ node') ≡ Some (now f h v) → AsOld (ToPart k ∷ node') (ToPart k ∷ node) v
  as_old_part node' node x k p v e o listed leads now_leads =
      let here : node_task new node' ≡ Some (tasks.Compound x) = o.old.now_at ∙ ap (λ t. Some t) (now_other f h (tasks.Compound x) e) in
      let old = old_of node (tasks.Compound x) o.old.at in
      record {
        old = part_old node' node x k p v e o.old listed leads now_leads;
        around = o.around;
        none = part_before node' x k old here ∙ o.none;
        from = λ at inside.
            (let there_at : IsPointOf (space_around node') at = subst (λ s. IsPointOf s at) (sym o.around) inside in
            part_kept f h (name_at new (place_on node' at)) k (back_to (place_on node' at)) (ap (λ n. is_named n c.name) (name_there f h node' (tasks.Compound x) at o.old.new_spaces here there_at) ∙ e)
            ∙ ap (λ q. IntoPart k ∷ q) (o.from at inside));
      }

  pub in_block_part : (node' node : Node) (x : Compound) (k : ℕ) (p : Part) (v : Task) → InBlock node' node (tasks.Compound x) → slice_get x.parts k ≡ Some p → task_named m.tasks p.task ≡ Some v
      → node_task new (ToPart k ∷ node') ≡ Some (now f h v) → InBlock (ToPart k ∷ node') (ToPart k ∷ node) v
  in_block_part node' node x k p v o listed leads now_leads =
      let e : same x.name c.name ≡ false = low_apart f h x.name o.low in
      let here : node_task new node' ≡ Some (tasks.Compound x) = o.old.now_at ∙ ap (λ t. Some t) (now_other f h (tasks.Compound x) e) in
      let named = node_named m node (tasks.Compound x) o.old.at in
      let old = old_of node (tasks.Compound x) o.old.at in
      let among : IsAmong (inner_names (tasks.Compound x)) p.task = map_among (λ (q : Part). q.task) x.parts p (get_among x.parts k p listed) in
      record {
        old = part_old node' node x k p v e o.old listed leads now_leads;
        low = subst (λ n. Enough m.tasks n (compound_number f h)) (sym (own_name m.tasks p.task v leads)) (lower f h x.name p.task (tasks.Compound x) v (compound_number f h) named among leads o.low);
        front = o.front;
        rest = o.rest;
        around = o.around;
        new_around = o.new_around;
        some = part_before node' x k old here ∙ o.some;
        from = λ a q b r ha hq hb hr.
            (let point : List ℕ = a ++ (q ++ (b ++ r)) in
            let there_at : IsPointOf (space_around node') point =
            subst (λ s. IsPointOf s point) (sym o.new_around) (point_both o.front (f.two.space ++ (f.args.block ++ o.rest)) a (q ++ (b ++ r)) ha (point_both f.two.space (f.args.block ++ o.rest) q (b ++ r) hq (point_both f.args.block o.rest b r hb hr))) in
            part_kept f h (name_at new (place_on node' point)) k (back_to (place_on node' point)) (ap (λ n. is_named n c.name) (name_there f h node' (tasks.Compound x) point o.old.new_spaces here there_at) ∙ e)
            ∙ ap (λ z. IntoPart k ∷ z) (o.from a q b r ha hq hb hr));
      }

  -- ---- the body of an unchanged repetition

  body_old : (node' node : Node) (r : Repeated) (v : Task) → OldAt node' node (tasks.Repeated r) → same r.name c.name ≡ false → task_named m.tasks r.task ≡ Some v
      → node_task new (ToBody r.space ∷ node') ≡ Some (now f h v) → OldAt (ToBody r.space ∷ node') (ToBody r.space ∷ node) v
  body_old node' node r v o e leads now_leads =
      let here : node_task new node' ≡ Some (tasks.Repeated r) = o.now_at ∙ ap (λ t. Some t) (now_other f h (tasks.Repeated r) e) in
      record {
        at = ap (option_and_then (λ t. task_under m t (ToBody r.space))) o.at ∙ leads;
        now_at = now_leads;
        spaces = ((r, o.at, refl), o.spaces);
        new_spaces = ((r, here, refl), o.new_spaces);
        leaves = body_leaf f h node' node r v (node_named m node (tasks.Repeated r) o.at) o.leaves leads (ToBody r.space ∷ node') refl;
      }

  body_before : (node' : Node) (r : Repeated) (o : IsOldName f h r.name) → node_task new node' ≡ Some (tasks.Repeated r) → entries_before new block_name (ToBody r.space ∷ node') ≡ entries_before new block_name node'
  body_before node' r o at = before_other new block_name (ToBody r.space) node' (tasks.Repeated r) at (other_name block_name r.name o.block)

  kept_body : (node' : Node) (r : Repeated) (x y : List ℕ) → IsOldName f h r.name → HasSpaces new node' → node_task new node' ≡ Some (tasks.Repeated r) → IsPointOf (space_around node') x
      → unfuse f (name_at new (place_on node' x)) (IntoRepetition y) (back_to (place_on node' x)) ≡ IntoRepetition y ∷ back_to (place_on node' x)
  kept_body node' r x y o spaces at inside =
      let name = name_there f h node' (tasks.Repeated r) x spaces at inside in
      body_kept f h (name_at new (place_on node' x)) y (back_to (place_on node' x)) (ap (λ n. is_named n block_name) name ∙ other_name block_name r.name o.block) (ap (λ n. is_named n once_name) name ∙ other_name once_name r.name o.once)

  pub as_old_body : (node' node : Node) (r : Repeated) (v : Task) → AsOld node' node (tasks.Repeated r) → same r.name c.name ≡ false → task_named m.tasks r.task ≡ Some v
      → node_task new (ToBody r.space ∷ node') ≡ Some (now f h v) → AsOld (ToBody r.space ∷ node') (ToBody r.space ∷ node) v
  as_old_body node' node r v o e leads now_leads =
      let here : node_task new node' ≡ Some (tasks.Repeated r) = o.old.now_at ∙ ap (λ t. Some t) (now_other f h (tasks.Repeated r) e) in
      let old = old_of node (tasks.Repeated r) o.old.at in
      record {
        old = body_old node' node r v o.old e leads now_leads;
        around = ap (λ z. z ++ r.space) o.around;
        none = body_before node' r old here ∙ o.none;
        from = λ at inside.
            (let z = point_split (space_around node) r.space at inside in
            let first : IsPointOf (space_around node') z.0 = subst (λ s. IsPointOf s z.0) (sym o.around) z.3 in
            ap (λ q. back_to (place_on (ToBody r.space ∷ node') q)) z.2
            ∙ (ap back_to (place_in_body r.space node' z.0 z.1 z.4)
            ∙ (kept_body node' r z.0 z.1 old o.old.new_spaces here first
            ∙ (ap (λ p. IntoRepetition z.1 ∷ p) (o.from z.0 z.3) ∙ (sym (place_in_body r.space node z.0 z.1 z.4) ∙ ap (place_on (ToBody r.space ∷ node)) (sym z.2))))));
      }

  five : (a o b r s : List ℕ) → (a ++ (o ++ (b ++ r))) ++ s ≡ a ++ (o ++ (b ++ (r ++ s)))
  five a o b r s = append_assoc a (o ++ (b ++ r)) s ∙ ap (λ z. a ++ z) (append_assoc o (b ++ r) s ∙ ap (λ z. o ++ z) (append_assoc b r s))

  four : (a o r s : List ℕ) → (a ++ (o ++ r)) ++ s ≡ a ++ (o ++ (r ++ s))
  four a o r s = append_assoc a (o ++ r) s ∙ ap (λ z. a ++ z) (append_assoc o r s)

  pub in_block_body : (node' node : Node) (r : Repeated) (v : Task) → InBlock node' node (tasks.Repeated r) → task_named m.tasks r.task ≡ Some v
      → node_task new (ToBody r.space ∷ node') ≡ Some (now f h v) → InBlock (ToBody r.space ∷ node') (ToBody r.space ∷ node) v
  in_block_body node' node r v o leads now_leads =
      let e : same r.name c.name ≡ false = low_apart f h r.name o.low in
      let here : node_task new node' ≡ Some (tasks.Repeated r) = o.old.now_at ∙ ap (λ t. Some t) (now_other f h (tasks.Repeated r) e) in
      let old = old_of node (tasks.Repeated r) o.old.at in
      let among : IsAmong (inner_names (tasks.Repeated r)) r.task = (0, (omega arith, refl)) in
      record {
        old = body_old node' node r v o.old e leads now_leads;
        low = subst (λ n. Enough m.tasks n (compound_number f h)) (sym (own_name m.tasks r.task v leads)) (lower f h r.name r.task (tasks.Repeated r) v (compound_number f h) (node_named m node (tasks.Repeated r) o.old.at) among leads o.low);
        front = o.front;
        rest = o.rest ++ r.space;
        around = ap (λ z. z ++ r.space) o.around ∙ four o.front f.one.space o.rest r.space;
        new_around = ap (λ z. z ++ r.space) o.new_around ∙ five o.front f.two.space f.args.block o.rest r.space;
        some = body_before node' r old here ∙ o.some;
        from = λ a q b d ha hq hb hd.
            (let z = point_split o.rest r.space d hd in
            let first : List ℕ = a ++ (q ++ (b ++ z.0)) in
            let inside : IsPointOf (space_around node') first =
            subst (λ s. IsPointOf s first) (sym o.new_around) (point_both o.front (f.two.space ++ (f.args.block ++ o.rest)) a (q ++ (b ++ z.0)) ha (point_both f.two.space (f.args.block ++ o.rest) q (b ++ z.0) hq (point_both f.args.block o.rest b z.0 hb z.3))) in
            let t : List ℕ = address_point f.args.tiler f.one.space q b in
            ap (λ y. back_to (place_on (ToBody r.space ∷ node') y)) (ap (λ y. a ++ (q ++ (b ++ y))) z.2 ∙ sym (five a q b z.0 z.1))
            ∙ (ap back_to (place_in_body r.space node' first z.1 z.4)
            ∙ (kept_body node' r first z.1 old o.old.new_spaces here inside
            ∙ (ap (λ p. IntoRepetition z.1 ∷ p) (o.from a q b z.0 ha hq hb z.3)
            ∙ (sym (place_in_body r.space node (a ++ (t ++ z.0)) z.1 z.4) ∙ ap (place_on (ToBody r.space ∷ node)) (four a t z.0 z.1 ∙ ap (λ y. a ++ (t ++ y)) (sym z.2)))))));
      }
