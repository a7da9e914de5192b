-- Where the nodes of the fused model come from.
use Rattle.std.proofs.Common.{◌≡◌, ℕ, zero, suc, ◌+◌, ◌<◌, Bool, true, false, cond, List, ◌∷◌, length, take, Option, Some, option_map, slice_get, sym, ◌∙◌, ap, refl, arith, subst}
use Rattle.std.specs.List.{IsAmong}
use Rattle.aol_shape.specs.Lists.{same}
use Rattle.aol_shape.specs.Shape.{IsPointOf}
use Rattle.aol_model_types.specs.declared.document.Model.{Model}
use Rattle.aol_model_types.specs.declared.task.Compound.{Compound}
use Rattle.aol_model_types.specs.declared.task.Part.{Part}
use Rattle.aol_model_types.specs.declared.task.Repeated.{Repeated}
use Rattle.aol_model_types.specs.declared.task.Task.{Task}
use Rattle.aol_model_types.specs.declared.task.Task.TheVariants as tasks
use Rattle.aol_model_types.specs.Rules.{task_name, task_named}
use Rattle.aol_flat.specs.Instance.{Leaf, leaves, leaves_below}
use Rattle.aol_flat.specs.Node.{ToPart, ToBody, Node, space_around, place_on, node_task}
use Rattle.aol_flat.specs.Numbered.{inner_names, StandOnEarlier, number_named}
use Rattle.aol_flat.specs.Place.{Place, IntoPart, IntoRepetition}
use Rattle.aol_flat.proofs.Among.{map_among, get_among}
use Rattle.aol_flat.proofs.Names.{same-equal}
use Rattle.aol_flat.proofs.NodeTasks.{HasSpaces, task_on}
use Rattle.aol_flat.proofs.Order.{stand_on_earlier}
use Rattle.aol_flat.proofs.TaskNumbers.{found}
use Rattle.aol_change.specs.Change.{is_named, name_at, old_place}
use Rattle.aol_change.proofs.Below.{own_name}
use Rattle.aol_fusion_parts.specs.Fuse.{Fusing}
use Rattle.aol_fusion_parts.specs.Made.{fused_names}
use Rattle.aol_fusion_rules.proofs.Sound.{IsFusing}
use Rattle.aol_paving.proofs.NewLeaves.{Enough, enough_below, numbered_there}
use Rattle.aol_fusion.specs.Map.{old_part, unfuse, unfuse_block, unfuse_once}
use Rattle.aol_fusion.specs.Numbers.{leaves_of, first_leaf}
use Rattle.aol_fusion.proofs.ManyLeaves.{leaf_of_part}
use Rattle.aol_fusion.proofs.Lookups.{in_next, inner_there, next, changed_task}

module _ (f : Fusing) (h : IsFusing f) where
  abbrev m : Model
  m = f.model

  abbrev new : Model
  new = next f h

  abbrev c : Compound
  c = f.compound

  abbrev block_name : List ℕ
  block_name = (fused_names f.model f.compound.name).block

  abbrev back_to : Place → Place
  back_to = old_place (unfuse f) new

  -- the task that an old one has become
  abbrev pub now : Task → Task
  now t = cond (same (task_name t) c.name) (changed_task f h) t

  pub old_order : StandOnEarlier m.tasks
  old_order = stand_on_earlier m h.sound.shapes

  -- ---- leaves

  -- the leaves at and below an old node stand together, from the number of a new one on
  pub record HasLeaves (node' node : Node) (t : Task) : Type 0 where
    pub depth : ℕ
    pub enough : Enough m.tasks (task_name t) depth
    pub leaf : (k : ℕ) (l : Leaf) → slice_get (leaves_below depth m (Some t) node) k ≡ Some l → slice_get (leaves m) (first_leaf f new node' + k) ≡ Some l

  pub whole_enough : (n : List ℕ) (t : Task) → task_named m.tasks n ≡ Some t → Enough m.tasks n (length m.tasks)
  whole_enough n t e = let j = numbered_there m.tasks n t e in record { number = j.0; named = j.1; under = (found m.tasks n j.0 j.1).within }

  -- those of a part of a compound
  pub part_leaf : (node' node : Node) (x : Compound) (k k' : ℕ) (p : Part) (t : Task) → task_named m.tasks x.name ≡ Some (tasks.Compound x) → HasLeaves node' node (tasks.Compound x) → slice_get x.parts k ≡ Some p → task_named m.tasks p.task ≡ Some t
      → (node'' : Node) → first_leaf f new node'' ≡ first_leaf f new node' + leaves_of m (take k x.parts) → HasLeaves node'' (ToPart k ∷ node) t
  part_leaf node' node x k k' p t named has at leads node'' first = go has.depth has.enough has.leaf
    where
      go : (d : ℕ) → Enough m.tasks x.name d → ((j : ℕ) (l : Leaf) → slice_get (leaves_below d m (Some (tasks.Compound x)) node) j ≡ Some l → slice_get (leaves m) (first_leaf f new node' + j) ≡ Some l) → HasLeaves node'' (ToPart k ∷ node) t
      go zero e leaf = (let n : e.number < 0 = e.under in absurd (omega (arith, n)))
      go (suc d) e leaf =
          let among : IsAmong (inner_names (tasks.Compound x)) p.task = map_among (λ (q : Part). q.task) x.parts p (get_among x.parts k p at) in
          let own : p.task ≡ task_name t = sym (own_name m.tasks p.task t leads) in
          record {
            depth = d;
            enough = subst (λ n. Enough m.tasks n d) own (enough_below m.tasks x.name p.task (tasks.Compound x) t d old_order named among leads e);
            leaf = λ j l here.
                (let sum : first_leaf f new node'' + j ≡ first_leaf f new node' + (leaves_of m (take k x.parts) + j) = omega (arith, first) in
                ap (slice_get (leaves m)) sum
                ∙ leaf (leaves_of m (take k x.parts) + j) l
                (leaf_of_part m old_order (inner_there m h.sound.shapes) d x.name node x named e whole_enough k j p l at (ap (λ o. slice_get (leaves_below d m o (ToPart k ∷ node)) j) leads ∙ here)));
          }

  -- those of the inner task of a repetition
  pub body_leaf : (node' node : Node) (r : Repeated) (t : Task) → task_named m.tasks r.name ≡ Some (tasks.Repeated r) → HasLeaves node' node (tasks.Repeated r) → task_named m.tasks r.task ≡ Some t
      → (node'' : Node) → first_leaf f new node'' ≡ first_leaf f new node' → HasLeaves node'' (ToBody r.space ∷ node) t
  body_leaf node' node r t named has leads node'' first = go has.depth has.enough has.leaf
    where
      go : (d : ℕ) → Enough m.tasks r.name d → ((j : ℕ) (l : Leaf) → slice_get (leaves_below d m (Some (tasks.Repeated r)) node) j ≡ Some l → slice_get (leaves m) (first_leaf f new node' + j) ≡ Some l) → HasLeaves node'' (ToBody r.space ∷ node) t
      go zero e leaf = (let n : e.number < 0 = e.under in absurd (omega (arith, n)))
      go (suc d) e leaf =
          let among : IsAmong (inner_names (tasks.Repeated r)) r.task = (0, (omega arith, refl)) in
          let own : r.task ≡ task_name t = sym (own_name m.tasks r.task t leads) in
          record {
            depth = d;
            enough = subst (λ n. Enough m.tasks n d) own (enough_below m.tasks r.name r.task (tasks.Repeated r) t d old_order named among leads e);
            leaf = λ j l here.
                (ap (λ n. slice_get (leaves m) (n + j)) first ∙ leaf j l (ap (λ o. slice_get (leaves_below d m o (ToBody r.space ∷ node)) j) leads ∙ here));
          }

  -- ---- names

  abbrev pub compound_number : ℕ
  compound_number = (numbered_there m.tasks c.name (tasks.Compound c) h.compound).0

  -- a task that stands before the compound isn't the compound
  pub low_apart : (n : List ℕ) → Enough m.tasks n compound_number → same n c.name ≡ false
  low_apart n e = go (same n c.name) refl
    where
      go : (b : Bool) → same n c.name ≡ b → same n c.name ≡ false
      go false k = k
      go true k =
          let both : Some e.number ≡ Some compound_number = sym e.named ∙ (ap (number_named m.tasks) (same-equal n c.name k) ∙ (numbered_there m.tasks c.name (tasks.Compound c) h.compound).1) in
          let equal : e.number ≡ compound_number = cc in
          absurd (omega (arith, equal, e.under))

  -- what it is made of stands before it too
  pub lower : (n inner : List ℕ) (t v : Task) (k : ℕ) → task_named m.tasks n ≡ Some t → IsAmong (inner_names t) inner → task_named m.tasks inner ≡ Some v → Enough m.tasks n k → Enough m.tasks inner k
  lower n inner t v k e a leads low =
      let own : Enough m.tasks n (suc low.number) = record { number = low.number; named = low.named; under = omega arith } in
      let r = enough_below m.tasks n inner t v low.number old_order e a leads own in
      record { number = r.number; named = r.named; under = omega (arith, r.under, low.under) }

  -- what the compound is made of does
  pub under_compound : (inner : List ℕ) (v : Task) → IsAmong (inner_names (tasks.Compound c)) inner → task_named m.tasks inner ≡ Some v → Enough m.tasks inner compound_number
  under_compound inner v a leads =
      enough_below m.tasks c.name inner (tasks.Compound c) v compound_number old_order h.compound a leads
      (record { number = compound_number; named = (numbered_there m.tasks c.name (tasks.Compound c) h.compound).1; under = omega arith })

  pub is_compound : (t : Task) → task_named m.tasks (task_name t) ≡ Some t → same (task_name t) c.name ≡ true → t ≡ tasks.Compound c
  is_compound t named e =
      let both : Some t ≡ Some (tasks.Compound c) = sym named ∙ (ap (task_named m.tasks) (same-equal (task_name t) c.name e) ∙ h.compound) in
      cc

  pub now_other : (t : Task) → same (task_name t) c.name ≡ false → now t ≡ t
  now_other t e = ap (λ b. cond b (changed_task f h) t) e

  pub now_is : (n : List ℕ) (t : Task) → task_named m.tasks n ≡ Some t → task_named new.tasks n ≡ Some (now t)
  now_is n t e = in_next f h n t e ∙ ap (λ x. Some (cond (same x c.name) (changed_task f h) t)) (sym (own_name m.tasks n t e))

  -- the name of a task at an instance of a node
  pub name_there : (node : Node) (v : Task) (at : List ℕ) → HasSpaces new node → node_task new node ≡ Some v → IsPointOf (space_around node) at → name_at new (place_on node at) ≡ Some (task_name v)
  name_there node v at spaces e inside = ap (option_map task_name) (task_on new node spaces at inside ∙ e)

  -- ---- steps of the map

  -- into a part of another task
  pub part_kept : (above : Option (List ℕ)) (k : ℕ) (up : Place) → is_named above c.name ≡ false → unfuse f above (IntoPart k) up ≡ IntoPart k ∷ up
  part_kept above k up e = ap (λ b. IntoPart (cond b (old_part f k) k) ∷ up) e

  -- into a repetition of a task that isn't new
  pub body_kept : (above : Option (List ℕ)) (i : List ℕ) (up : Place) → is_named above block_name ≡ false → is_named above (fused_names f.model f.compound.name).once ≡ false → unfuse f above (IntoRepetition i) up ≡ IntoRepetition i ∷ up
  body_kept above i up e g =
      ap (λ b. cond b (unfuse_block f i up) (cond (is_named above (fused_names f.model f.compound.name).once) (unfuse_once up) (IntoRepetition i ∷ up))) e
      ∙ ap (λ b. cond b (unfuse_once up) (IntoRepetition i ∷ up)) g
