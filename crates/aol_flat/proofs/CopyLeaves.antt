-- A leaf that copies stands at a compound node, and its points are the copies of one of its reshapes.
use Rattle.std.proofs.Common.{◌≡◌, ℕ, zero, suc, ◌+◌, ◌≤◌, List, [], ◌∷◌, ◌++◌, length, take, drop, map, flat_map, Option, Some, None, slice_get, option_and_then, sym, ◌∙◌, ap, refl, arith, subst, inl, inr}
use Rattle.std.specs.List.{IsAmong, enumerate_from}
use Rattle.std.specs.Option.{option_to_list}
use Rattle.std.proofs.Math.Seq.{take-append_seam, drop-append_seam}
use Rattle.std.proofs.lemmas.List.{append_assoc, length-append}
use Rattle.aol_shape.specs.Shape.{IsPointOf}
use Rattle.aol_model_types.specs.declared.document.Model.{Model}
use Rattle.aol_model_types.specs.declared.task.Compound.{Compound}
use Rattle.aol_model_types.specs.declared.task.Copied.{Copied}
use Rattle.aol_model_types.specs.declared.task.Part.{Part}
use Rattle.aol_model_types.specs.declared.task.Task.{Task}
use Rattle.aol_model_types.specs.declared.task.Task.TheVariants as tasks
use Rattle.aol_model_types.specs.Rules.{task_named}
use Rattle.aol_flat.specs.Tasks.{main_task}
use Rattle.aol_flat.specs.declared.nodes.LeafSpot.{LeafSpot}
use Rattle.aol_flat.specs.Copies.{IsCopyAt, IsLeafCopy}
use Rattle.aol_flat.specs.Cursor.{IsCopyPoint}
use Rattle.aol_flat.specs.Accept.{IsSound}
use Rattle.aol_flat.specs.Instance.{Leaf, Computes, Copies, reshape_leaf, leaves_below, leaves, Copy, instance_on, copy_source, copy_target, read_elements, written_elements}
use Rattle.aol_flat.specs.Node.{Node, ToPart, ToBody, space_around, place_on, task_under, node_task}
use Rattle.aol_flat.specs.NodeTable.{IsNode, IsLeafSpot, reshape_number}
use Rattle.aol_flat.proofs.Among.{among_append, among_map, among_flat_map, get_among}
use Rattle.aol_flat.proofs.Inside.{number_of_member, point_split, point_length}
use Rattle.aol_flat.proofs.NodeAt.{known, task_there_on}
use Rattle.aol_flat.proofs.Numbered.{copy_instance, copied_end}
use Rattle.aol_flat.specs.Place.{Place, task_at}

-- the leaf is that of a reshape of the compound task of its node
pub record IsReshapeLeaf (m : Model) (l : Leaf) (k : ℕ) : Type 0 where
  pub task : Compound
  pub at_node : node_task m l.node ≡ Some (tasks.Compound task)
  pub copied : Copied
  pub listed : slice_get task.reshapes k ≡ Some copied
  pub is : l ≡ reshape_leaf l.node (k, copied)

reshape_of : (m : Model) (c : Compound) (node : Node) (l : Leaf) (k n : ℕ) (q : ℕ × Copied) → node_task m node ≡ Some (tasks.Compound c) → slice_get c.reshapes q.0 ≡ Some q.1 → l.work ≡ Copies k n
    → l ≡ reshape_leaf node q → IsReshapeLeaf m l k
reshape_of m c node l k n q at listed work is =
    let same_work : Copies k n ≡ Copies q.0 (length q.1.by.space) = sym work ∙ ap (λ (x : Leaf). x.work) is in
    let number : k ≡ q.0 = cc in
    let same_node : l.node ≡ node = ap (λ (x : Leaf). x.node) is in
    record {
      task = c;
      at_node = ap (node_task m) same_node ∙ at;
      copied = q.1;
      listed = ap (slice_get c.reshapes) number ∙ listed;
      is = is ∙ (ap (λ x. reshape_leaf x (q.0, q.1)) (sym same_node) ∙ ap (λ x. reshape_leaf l.node (x, q.1)) (sym number));
    }

copies_below : (m : Model) (depth : ℕ) (o : Option Task) (node : Node) → node_task m node ≡ o → (l : Leaf) → IsAmong (leaves_below depth m o node) l → (k n : ℕ) → l.work ≡ Copies k n → IsReshapeLeaf m l k
copies_below m zero o node e l a k n w = absurd (omega (arith, a.1.0))
copies_below m (suc depth) None node e l a k n w = absurd (omega (arith, a.1.0))
copies_below m (suc depth) (Some (tasks.Elementary t)) node e l (zero, a) k n w = let f : Computes ≡ Copies k n = sym (ap (λ (x : Leaf). x.work) a.1) ∙ w in cc
copies_below m (suc depth) (Some (tasks.Elementary t)) node e l (suc i, a) k n w = absurd (omega (arith, a.0))
copies_below m (suc depth) (Some (tasks.Repeated t)) node e l a k n w =
    copies_below m depth (task_named m.tasks t.task) (ToBody t.space ∷ node) (ap (option_and_then (λ v. task_under m v (ToBody t.space))) e) l a k n w
copies_below m (suc depth) (Some (tasks.Compound c)) node e l a k n w =
    let f : ℕ × Part → List Leaf = λ q. leaves_below depth m (task_named m.tasks q.1.task) (ToPart q.0 ∷ node) in
    elim (among_append (flat_map f (enumerate_from 0 c.parts)) (map (reshape_leaf node) (enumerate_from 0 c.reshapes)) l a) [
      | inl b ↦
          let q = among_flat_map f (enumerate_from 0 c.parts) l b in
          let j = number_of_member c.parts 0 q.0 q.1 in
          let number : 0 + j.0 ≡ j.0 = omega arith in
          let listed : slice_get c.parts q.0.0 ≡ Some q.0.1 = ap (slice_get c.parts) (j.1 ∙ number) ∙ j.2 in
          copies_below m depth (task_named m.tasks q.0.1.task) (ToPart q.0.0 ∷ node)
          (ap (option_and_then (λ t. task_under m t (ToPart q.0.0))) e ∙ ap (option_and_then (λ (p : Part). task_named m.tasks p.task)) listed) l q.2 k n w
      | inr b ↦
          let q = among_map (reshape_leaf node) (enumerate_from 0 c.reshapes) l b in
          let j = number_of_member c.reshapes 0 q.0 q.1 in
          let number : 0 + j.0 ≡ j.0 = omega arith in
          let listed : slice_get c.reshapes q.0.0 ≡ Some q.0.1 = ap (slice_get c.reshapes) (j.1 ∙ number) ∙ j.2 in
          reshape_of m c node l k n q.0 e listed w q.2
    ]

-- where a copying leaf stands
pub record IsCopySpot (m : Model) (leaf : ℕ) (at : List ℕ) (t : Task) (spot : LeafSpot) : Type 0 where
  pub node : Node
  pub task : Compound
  pub is : t ≡ tasks.Compound task
  pub at_node : IsNode m spot.node node (tasks.Compound task)
  pub copied : Copied
  pub listed : slice_get task.reshapes spot.reshape ≡ Some copied
  pub leaf_is : slice_get (leaves m) leaf ≡ Some (reshape_leaf node (spot.reshape, copied))
  pub inside : IsPointOf (space_around node ++ copied.by.space ++ copied.by.pattern) at

pub copy_spot : (m : Model) (leaf : ℕ) (at : List ℕ) (node : Node) (t : Task) (spot : LeafSpot) → IsCopyPoint m leaf at → IsLeafSpot m leaf spot → IsNode m spot.node node t → IsCopySpot m leaf at t spot
copy_spot m leaf at node t spot p s here =
    let both : Some p.leaf ≡ Some s.leaf = sym p.listed ∙ s.at in
    let one : p.leaf ≡ s.leaf = cc in
    let number : spot.reshape ≡ p.reshape = s.reshape ∙ (ap (λ (x : Leaf). reshape_number x.work) (sym one) ∙ ap reshape_number p.copies) in
    let r = copies_below m (length m.tasks) (main_task m) [] refl p.leaf (get_among (leaves m) leaf p.leaf p.listed) p.reshape p.entries p.copies in
    let pairs : Some (s.leaf.node, s.task) ≡ Some (node, t) = sym s.node ∙ here in
    let pair : ◌≡◌ {A = Node × Task} (s.leaf.node, s.task) (node, t) = cc in
    let same_node : p.leaf.node ≡ node = ap (λ (x : Leaf). x.node) one ∙ ap (λ (x : Node × Task). x.0) pair in
    let tasks_same : Some t ≡ Some (tasks.Compound r.task) = sym (known m spot.node node t here).task ∙ (ap (node_task m) (sym same_node) ∙ r.at_node) in
    let is : t ≡ tasks.Compound r.task = cc in
    let P : Task → Type 0 = λ x. IsNode m spot.node node x in
    let Q : Leaf → Type 0 = λ x. IsPointOf x.space at in
    let leaf_is : p.leaf ≡ reshape_leaf node (spot.reshape, r.copied) =
    r.is ∙ (ap (λ x. reshape_leaf x (p.reshape, r.copied)) same_node ∙ ap (λ x. reshape_leaf node (x, r.copied)) (sym number)) in
    record {
      node = node;
      task = r.task;
      is = is;
      at_node = subst P is here;
      copied = r.copied;
      listed = ap (slice_get r.task.reshapes) number ∙ r.listed;
      leaf_is = p.listed ∙ ap (λ x. Some x) leaf_is;
      inside = subst Q leaf_is p.inside;
    }

-- the indices of a copy: those around the node, of the repetition and of the element of the pattern
pub record AreCopyIndices (s : List ℕ) (copied : Copied) (at around r i : List ℕ) : Type 0 where
  pub whole : at ≡ around ++ r ++ i
  pub around_inside : IsPointOf s around
  pub repetition_inside : IsPointOf copied.by.space r
  pub part_inside : IsPointOf copied.by.pattern i

pub copy_long : (s : List ℕ) (copied : Copied) (at : List ℕ) → IsPointOf (s ++ copied.by.space ++ copied.by.pattern) at → length at ≡ length s + length copied.by.space + length copied.by.pattern
copy_long s copied at inside =
    point_length (s ++ copied.by.space ++ copied.by.pattern) at inside
    ∙ (length-append (s ++ copied.by.space) copied.by.pattern ∙ ap (λ n. n + length copied.by.pattern) (length-append s copied.by.space))

pub copy_split : (s : List ℕ) (copied : Copied) (at around rest r i : List ℕ) (j k : ℕ) → IsPointOf (s ++ copied.by.space ++ copied.by.pattern) at → j ≡ length s → k ≡ length copied.by.space
    → around ≡ take j at → rest ≡ drop j at → r ≡ take k rest → i ≡ drop k rest → AreCopyIndices s copied at around r i
copy_split s copied at around rest r i j k inside count many a b c d =
    let z = point_split (s ++ copied.by.space) copied.by.pattern at inside in
    let y = point_split s copied.by.space z.0 z.3 in
    let whole : at ≡ y.0 ++ y.1 ++ z.1 = z.2 ∙ ap (λ x. x ++ z.1) y.2 in
    let other : at ≡ y.0 ++ (y.1 ++ z.1) = whole ∙ append_assoc y.0 y.1 z.1 in
    let first_count : j ≡ length y.0 = count ∙ sym (point_length s y.0 y.3) in
    let second_count : k ≡ length y.1 = many ∙ sym (point_length copied.by.space y.1 y.4) in
    let first : around ≡ y.0 = a ∙ (ap (λ n. take n at) first_count ∙ (ap (take (length y.0)) other ∙ take-append_seam y.0 (y.1 ++ z.1))) in
    let tail : rest ≡ y.1 ++ z.1 = b ∙ (ap (λ n. drop n at) first_count ∙ (ap (drop (length y.0)) other ∙ drop-append_seam y.0 (y.1 ++ z.1))) in
    let second : r ≡ y.1 = c ∙ (ap (λ n. take n rest) second_count ∙ (ap (take (length y.1)) tail ∙ take-append_seam y.1 z.1)) in
    let third : i ≡ z.1 = d ∙ (ap (λ n. drop n rest) second_count ∙ (ap (drop (length y.1)) tail ∙ drop-append_seam y.1 z.1)) in
    let P : List ℕ → Type 0 = λ x. IsPointOf s x in
    let Q : List ℕ → Type 0 = λ x. IsPointOf copied.by.space x in
    let R : List ℕ → Type 0 = λ x. IsPointOf copied.by.pattern x in
    record {
      whole = whole ∙ (ap (λ x. x ++ y.1 ++ z.1) (sym first) ∙ (ap (λ x. around ++ x ++ z.1) (sym second) ∙ ap (λ x. around ++ r ++ x) (sym third)));
      around_inside = subst P (sym first) y.3;
      repetition_inside = subst Q (sym second) y.4;
      part_inside = subst R (sym third) z.4;
    }

pub leaf_copy : (m : Model) (leaf : ℕ) (at : List ℕ) (t : Task) (spot : LeafSpot) (s : IsCopySpot m leaf at t spot) (c : Compound) (copied : Copied) (around r i : List ℕ) → c ≡ s.task → copied ≡ s.copied
    → AreCopyIndices (space_around s.node) s.copied at around r i → IsLeafCopy m leaf at spot.node c copied around r i
leaf_copy m leaf at t spot s c copied around r i same_task same_copied n =
    let P : Compound → Type 0 = λ x. IsLeafCopy m leaf at spot.node x s.copied around r i in
    let Q : Copied → Type 0 = λ x. IsLeafCopy m leaf at spot.node c x around r i in
    let place : IsCopyAt m spot.node s.task s.copied around r i = record {
      node = s.node;
      at_node = s.at_node;
      reshape = spot.reshape;
      listed = s.listed;
      around_inside = n.around_inside;
      repetition_inside = n.repetition_inside;
      part_inside = n.part_inside;
    } in
    subst Q (sym same_copied) (subst P (sym same_task) (record { place = place; leaf_is = s.leaf_is; whole = n.whole }))

-- the counts by which the indices are split
pub split_there : (m : Model) (leaf : ℕ) (at : List ℕ) (t : Task) (spot : LeafSpot) (s : IsCopySpot m leaf at t spot) (j : ℕ) → j ≡ length (space_around s.node) → j ≤ length at
split_there m leaf at t spot s j is = omega (arith, copy_long (space_around s.node) s.copied at s.inside, is)

pub split_rest : (m : Model) (leaf : ℕ) (at : List ℕ) (t : Task) (spot : LeafSpot) (s : IsCopySpot m leaf at t spot) (j k n : ℕ) → j ≡ length (space_around s.node) → k ≡ length s.copied.by.space
    → n + j ≡ length at → k ≤ n
split_rest m leaf at t spot s j k n is many long = omega (arith, copy_long (space_around s.node) s.copied at s.inside, is, many, long)

-- ---- what the instance at a point is

module _ (m : Model) (sound : IsSound m) (leaf : ℕ) (at : List ℕ) (number : ℕ) (c : Compound) (copied : Copied) (around r i : List ℕ) (h : IsLeafCopy m leaf at number c copied around r i) (l : Leaf)
    (listed : slice_get (leaves m) leaf ≡ Some l) where
  abbrev up : Place
  up = place_on h.place.node around

  instance_is : instance_on l at ≡ Copy up h.place.reshape r i
  instance_is =
      let both : Some l ≡ Some (reshape_leaf h.place.node (h.place.reshape, copied)) = sym listed ∙ h.leaf_is in
      let is : l ≡ reshape_leaf h.place.node (h.place.reshape, copied) = cc in
      ap (λ x. instance_on x at) is
      ∙ (ap (instance_on (reshape_leaf h.place.node (h.place.reshape, copied))) h.whole
      ∙ copy_instance h.place.node h.place.reshape copied around r i h.place.around_inside h.place.repetition_inside)

  there : task_at m up ≡ Some (tasks.Compound c)
  there = task_there_on m sound number h.place.node (tasks.Compound c) around h.place.at_node h.place.around_inside

  pub copy_reads : read_elements m (instance_on l at) ≡ copy_source m c (place_on h.place.node around) copied r i ∷ []
  copy_reads = ap (read_elements m) instance_is ∙ ap option_to_list (copied_end copy_source m up c h.place.reshape copied r i there h.place.listed)

  pub copy_writes : written_elements m (instance_on l at) ≡ copy_target m c (place_on h.place.node around) copied r i ∷ []
  copy_writes = ap (written_elements m) instance_is ∙ ap option_to_list (copied_end copy_target m up c h.place.reshape copied r i there h.place.listed)
