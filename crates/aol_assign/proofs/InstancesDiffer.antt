-- The instances of a model are different.
use Rattle.std.proofs.Common.{◌≡◌, ◌≢◌, ℕ, zero, suc, List, [], ◌∷◌, ◌++◌, length, map, flat_map, take, drop, Option, Some, None, slice_get, sym, ◌∙◌, ap, refl, arith, inl, inr, subst}
use Rattle.std.specs.List.{IsAmong, enumerate_from}
use Rattle.std.proofs.Math.Seq.{take-append_seam, drop-append_seam}
use Rattle.std.proofs.lemmas.List.{append-nil, append_assoc}
use Rattle.aol_shape.specs.Shape.{IsPointOf, points}
use Rattle.aol_model_types.specs.declared.document.Model.{Model}
use Rattle.aol_model_types.specs.declared.task.Copied.{Copied}
use Rattle.aol_model_types.specs.declared.task.Part.{Part}
use Rattle.aol_model_types.specs.declared.task.Task.{Task}
use Rattle.aol_model_types.specs.declared.task.Task.TheVariants as tasks
use Rattle.aol_model_types.specs.Rules.{task_named}
use Rattle.aol_flat.specs.Node.{Node, ToPart, ToBody, space_around, place_on, indices_of}
use Rattle.aol_flat.specs.Tasks.{main_task}
use Rattle.aol_flat.specs.Instance.{Leaf, Work, Computes, Copies, reshape_leaf, leaves_below, leaves, Instance, Run, Copy, instance_on, leaf_instances, instances}
use Rattle.aol_flat.proofs.Among.{among_append, among_map, among_flat_map, points_inside}
use Rattle.aol_flat.proofs.Inside.{point_split, point_length}
use Rattle.aol_flat_laws.proofs.Apart.{Apart, AllDiffer, apart_append, apart_map, apart_flat_map, once_of_apart, numbered_differ, points_differ}
use Rattle.aol_flat_laws.proofs.Steps.{kinds, place_kinds, kinds_on, indices_on}

-- ---- what an instance shows of its leaf

-- the number of the reshape that copies
abbrev pub work_key : Work → Option ℕ
work_key Computes = None
work_key (Copies k entries) = Some k

-- the steps to its node
abbrev instance_kinds : Instance → List (Option ℕ)
instance_kinds (Run place) = place_kinds place
instance_kinds (Copy place k repetition part) = place_kinds place

abbrev instance_work : Instance → Option ℕ
instance_work (Run place) = None
instance_work (Copy place k repetition part) = Some k

-- its indices
abbrev recovered : Instance → List ℕ
recovered (Run place) = indices_of place
recovered (Copy place k repetition part) = indices_of place ++ (repetition ++ part)

-- the space of a leaf begins with those around its node, and is all of them where it computes
pub record HasOwnSpace (l : Leaf) : Type 0 where
  pub rest : List ℕ
  pub whole : l.space ≡ space_around l.node ++ rest
  pub bare : l.work ≡ Computes → rest ≡ []

module _ (node : Node) (space : List ℕ) where
  abbrev with_work : Work → Leaf
  with_work w = record { node = node; work = w; space = space }

  kinds_shown : (w : Work) (at : List ℕ) → instance_kinds (instance_on (with_work w) at) ≡ kinds node
  kinds_shown Computes at = kinds_on node at
  kinds_shown (Copies k n) at = kinds_on node (take (length (space_around node)) at)

  work_shown : (w : Work) (at : List ℕ) → instance_work (instance_on (with_work w) at) ≡ work_key w
  work_shown Computes at = refl
  work_shown (Copies k n) at = refl

  take_drop : (n : ℕ) (xs : List ℕ) → take n xs ++ drop n xs ≡ xs
  take_drop zero xs = refl
  take_drop (suc n) [] = refl
  take_drop (suc n) (x ∷ xs) = ap (λ ys. x ∷ ys) (take_drop n xs)

  indices_shown : (w : Work) (rest : List ℕ) → space ≡ space_around node ++ rest → (w ≡ Computes → rest ≡ []) → (at : List ℕ) → IsPointOf space at → recovered (instance_on (with_work w) at) ≡ at
  indices_shown Computes rest whole bare at inside =
      let P : List ℕ → Type 0 = λ s. IsPointOf s at in
      let here : space ≡ space_around node = whole ∙ (ap (λ r. space_around node ++ r) (bare refl) ∙ append-nil (space_around node)) in
      indices_on node at (subst P here inside)
  indices_shown (Copies k n) rest whole bare at inside =
      let P : List ℕ → Type 0 = λ s. IsPointOf s at in
      let z = point_split (space_around node) rest at (subst P whole inside) in
      let around : length (space_around node) ≡ length z.0 = sym (point_length (space_around node) z.0 z.3) in
      let first : take (length (space_around node)) at ≡ z.0 = ap (λ k. take k at) around ∙ (ap (take (length z.0)) z.2 ∙ take-append_seam z.0 z.1) in
      let second : drop (length (space_around node)) at ≡ z.1 = ap (λ k. drop k at) around ∙ (ap (drop (length z.0)) z.2 ∙ drop-append_seam z.0 z.1) in
      ap (λ x. indices_of (place_on node x) ++ (take n (drop (length (space_around node)) at) ++ drop n (drop (length (space_around node)) at))) first
      ∙ (ap (λ x. indices_of (place_on node z.0) ++ (take n x ++ drop n x)) second
      ∙ (ap (λ x. x ++ (take n z.1 ++ drop n z.1)) (indices_on node z.0 z.3)
      ∙ (ap (λ x. z.0 ++ x) (take_drop n z.1) ∙ sym z.2)))

-- ---- leaves

-- leaves of different nodes, or of different reshapes of one
abbrev pub DifferentLeaves : Leaf → Leaf → Type 0
DifferentLeaves x y = kinds x.node ≡ kinds y.node → work_key x.work ≡ work_key y.work → ⊥

at_length : (ks more : List (Option ℕ)) (k : Option ℕ) → slice_get (ks ++ k ∷ [] ++ more) (length ks) ≡ Some k
at_length [] more k = refl
at_length (x ∷ ks) more k = at_length ks more k

no_longer : (ks more : List (Option ℕ)) (k : Option ℕ) → ks ≢ ks ++ k ∷ [] ++ more
no_longer [] more k e = cc
no_longer (x ∷ ks) more k e = let f : ks ≡ ks ++ k ∷ [] ++ more = cc in no_longer ks more k f

-- the steps to the leaf's node begin so
abbrev Begins : List (Option ℕ) → Leaf → Type 0
Begins ks l = (more : List (Option ℕ)) × (kinds l.node ≡ ks ++ more)

one_less : (ks : List (Option ℕ)) (k : Option ℕ) (l : Leaf) → Begins (ks ++ k ∷ []) l → Begins ks l
one_less ks k l (more, e) = (k ∷ more, e ∙ append_assoc ks (k ∷ []) more)

module _ (m : Model) where
  abbrev part_leaves : ℕ → Node → ℕ × Part → List Leaf
  part_leaves depth node p = leaves_below depth m (task_named m.tasks p.1.task) (ToPart p.0 ∷ node)

  here : (node : Node) (x l : Leaf) → l ≡ x → x.node ≡ node → Begins (kinds node) l
  here node x l e f = ([], ap (λ (y : Leaf). kinds y.node) e ∙ (ap kinds f ∙ sym (append-nil (kinds node))))

  begins : (depth : ℕ) (o : Option Task) (node : Node) (l : Leaf) → IsAmong (leaves_below depth m o node) l → Begins (kinds node) l
  begins zero o node l a = absurd (omega (arith, a.1.0))
  begins (suc depth) None node l a = absurd (omega (arith, a.1.0))
  begins (suc depth) (Some (tasks.Elementary e)) node l (zero, a) = here node _ l a.1 refl
  begins (suc depth) (Some (tasks.Elementary e)) node l (suc i, a) = absurd (omega (arith, a.0))
  begins (suc depth) (Some (tasks.Compound c)) node l a =
      elim (among_append (flat_map (part_leaves depth node) (enumerate_from 0 c.parts)) (map (reshape_leaf node) (enumerate_from 0 c.reshapes)) l a) [
        | inl b ↦
            let p = among_flat_map (part_leaves depth node) (enumerate_from 0 c.parts) l b in
            one_less (kinds node) (Some p.0.0) l (begins depth (task_named m.tasks p.0.1.task) (ToPart p.0.0 ∷ node) l p.2)
        | inr b ↦ let r = among_map (reshape_leaf node) (enumerate_from 0 c.reshapes) l b in here node (reshape_leaf node r.0) l r.2 refl
      ]
  begins (suc depth) (Some (tasks.Repeated t)) node l a = one_less (kinds node) None l (begins depth (task_named m.tasks t.task) (ToBody t.space ∷ node) l a)

  parts_differ : (node : Node) (j k : ℕ) (x y : Leaf) → Begins (kinds node ++ Some j ∷ []) x → Begins (kinds node ++ Some k ∷ []) y → j ≢ k → kinds x.node ≢ kinds y.node
  parts_differ node j k x y (more, e) (other, f) apart same =
      let whole : kinds node ++ Some j ∷ [] ++ more ≡ kinds node ++ Some k ∷ [] ++ other = sym e ∙ (same ∙ f) in
      let at : Some (Some j) ≡ Some (Some k) =
      sym (at_length (kinds node) more (Some j)) ∙ (ap (λ ks. slice_get ks (length (kinds node))) whole ∙ at_length (kinds node) other (Some k)) in
      let number : j ≡ k = cc in
      apart number

  pub leaves_differ : (depth : ℕ) (o : Option Task) (node : Node) → Apart DifferentLeaves (leaves_below depth m o node)
  leaves_differ zero o node = tt
  leaves_differ (suc depth) None node = tt
  leaves_differ (suc depth) (Some (tasks.Elementary e)) node = (λ x a. absurd (omega (arith, a.1.0)), tt)
  leaves_differ (suc depth) (Some (tasks.Repeated t)) node = leaves_differ depth (task_named m.tasks t.task) (ToBody t.space ∷ node)
  leaves_differ (suc depth) (Some (tasks.Compound c)) node =
      apart_append DifferentLeaves (flat_map (part_leaves depth node) (enumerate_from 0 c.parts)) (map (reshape_leaf node) (enumerate_from 0 c.reshapes))
      (apart_flat_map (λ (p q : ℕ × Part). p.0 ≢ q.0) DifferentLeaves (part_leaves depth node) (enumerate_from 0 c.parts) (numbered_differ c.parts 0)
      (λ p a. leaves_differ depth (task_named m.tasks p.1.task) (ToPart p.0 ∷ node))
      (λ p q a b apart x y i j same key.
      parts_differ node p.0 q.0 x y (begins depth (task_named m.tasks p.1.task) (ToPart p.0 ∷ node) x i)
      (begins depth (task_named m.tasks q.1.task) (ToPart q.0 ∷ node) y j) apart same))
      (apart_map (λ (p q : ℕ × Copied). p.0 ≢ q.0) DifferentLeaves (reshape_leaf node) (enumerate_from 0 c.reshapes) (numbered_differ c.reshapes 0)
      (λ p q a b apart same key. let number : p.0 ≡ q.0 = cc in apart number))
      (λ x y a b same key.
      let p = among_flat_map (part_leaves depth node) (enumerate_from 0 c.parts) x a in
      let r = among_map (reshape_leaf node) (enumerate_from 0 c.reshapes) y b in
      let deep = begins depth (task_named m.tasks p.0.1.task) (ToPart p.0.0 ∷ node) x p.2 in
      no_longer (kinds node) deep.0 (Some p.0.0) (sym (ap (λ (l : Leaf). kinds l.node) r.2) ∙ (sym same ∙ deep.1)))

  own_here : (x l : Leaf) → l ≡ x → HasOwnSpace x → HasOwnSpace l
  own_here x l e h = let P : Leaf → Type 0 = λ y. HasOwnSpace y in subst P (sym e) h

  pub own_space : (depth : ℕ) (o : Option Task) (node : Node) (l : Leaf) → IsAmong (leaves_below depth m o node) l → HasOwnSpace l
  own_space zero o node l a = absurd (omega (arith, a.1.0))
  own_space (suc depth) None node l a = absurd (omega (arith, a.1.0))
  own_space (suc depth) (Some (tasks.Elementary e)) node l (zero, a) = own_here _ l a.1 (record { rest = []; whole = sym (append-nil (space_around node)); bare = λ w. refl })
  own_space (suc depth) (Some (tasks.Elementary e)) node l (suc i, a) = absurd (omega (arith, a.0))
  own_space (suc depth) (Some (tasks.Repeated t)) node l a = own_space depth (task_named m.tasks t.task) (ToBody t.space ∷ node) l a
  own_space (suc depth) (Some (tasks.Compound c)) node l a =
      elim (among_append (flat_map (part_leaves depth node) (enumerate_from 0 c.parts)) (map (reshape_leaf node) (enumerate_from 0 c.reshapes)) l a) [
        | inl b ↦
            let p = among_flat_map (part_leaves depth node) (enumerate_from 0 c.parts) l b in
            own_space depth (task_named m.tasks p.0.1.task) (ToPart p.0.0 ∷ node) l p.2
        | inr b ↦
            let r = among_map (reshape_leaf node) (enumerate_from 0 c.reshapes) l b in
            own_here (reshape_leaf node r.0) l r.2 (record { rest = r.0.1.by.space ++ r.0.1.by.pattern; whole = append_assoc (space_around node) r.0.1.by.space r.0.1.by.pattern; bare = λ w. cc })
      ]

  -- ---- instances

  leaf_differs : (l : Leaf) → HasOwnSpace l → AllDiffer (leaf_instances l)
  leaf_differs l own =
      apart_map (λ (x y : List ℕ). x ≢ y) (λ (x y : Instance). x ≢ y) (instance_on l) (points l.space) (points_differ l.space)
      (λ x y a b apart same.
      apart (sym (indices_shown l.node l.space l.work own.rest own.whole own.bare x (points_inside l.space x a))
      ∙ (ap recovered same ∙ indices_shown l.node l.space l.work own.rest own.whole own.bare y (points_inside l.space y b))))

  instances_differ : AllDiffer (instances m)
  instances_differ =
      apart_flat_map DifferentLeaves (λ (x y : Instance). x ≢ y) leaf_instances (leaves m) (leaves_differ (length m.tasks) (main_task m) [])
      (λ l a. leaf_differs l (own_space (length m.tasks) (main_task m) [] l a))
      (λ k l a b apart x y i j same.
      let p = among_map (instance_on k) (points k.space) x i in
      let q = among_map (instance_on l) (points l.space) y j in
      let both : instance_on k p.0 ≡ instance_on l q.0 = sym p.2 ∙ (same ∙ q.2) in
      apart (sym (kinds_shown k.node k.space k.work p.0) ∙ (ap instance_kinds both ∙ kinds_shown l.node l.space l.work q.0))
      (sym (work_shown k.node k.space k.work p.0) ∙ (ap instance_work both ∙ work_shown l.node l.space l.work q.0)))

  -- an instance has one number
  pub one_number : (j k : ℕ) (i : Instance) → slice_get (instances m) j ≡ Some i → slice_get (instances m) k ≡ Some i → j ≡ k
  one_number j k i a b = once_of_apart (instances m) instances_differ j k i a b
