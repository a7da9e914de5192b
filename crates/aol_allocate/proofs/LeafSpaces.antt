-- The entries of the spaces of elementary leaves are those of shapes.
use Rattle.std.proofs.Common.{◌≡◌, ℕ, zero, suc, Bool, true, false, List, [], ◌∷◌, ◌++◌, length, map, flat_map, find, Option, Some, None, slice_get, sym, ◌∙◌, ap, refl, subst, arith, inl, inr}
use Rattle.std.specs.List.{IsAmong, AllByRecursion, enumerate_from}
use Rattle.aol_shape.specs.Shape.{IsEntry}
use Rattle.aol_model_types.specs.declared.document.Model.{Model}
use Rattle.aol_model_types.specs.declared.task.Part.{Part}
use Rattle.aol_model_types.specs.declared.task.Task.{Task}
use Rattle.aol_model_types.specs.declared.task.Task.TheVariants as tasks
use Rattle.aol_model_types.specs.Rules.{task_name, task_named}
use Rattle.aol_model_types.specs.Types.{IsTask, IsRepeated}
use Rattle.aol_shape.specs.Lists.{same}
use Rattle.aol_flat.specs.Accept.{IsSound}
use Rattle.aol_flat.specs.Instance.{Leaf, leaves_below, leaves, reshape_leaf}
use Rattle.aol_flat.specs.Node.{Node, ToPart, ToBody, space_around}
use Rattle.aol_flat.specs.Tasks.{main_task}
use Rattle.aol_flat.proofs.Among.{among_append, among_map, among_flat_map, get_among}
use Rattle.aol_allocate.specs.Placement.{computes}

all_found : {X : Type 0} (P : X → Type 0) (test : X → Bool) (xs : List X) (x : X) → AllByRecursion P xs → find test xs ≡ Some x → P x
all_found P test [] x all h = cc
all_found P test (y ∷ xs) x all h = go (test y) refl (all_found P test xs x all.1)
  where
    go : (b : Bool) → test y ≡ b → (find test xs ≡ Some x → P x) → P x
    go true e later = let k = rw e at h in let here : y ≡ x = cc in subst P here all.0
    go false e later = later (rw e at h)

all_both : {X : Type 0} (P : X → Type 0) (xs ys : List X) → AllByRecursion P xs → AllByRecursion P ys → AllByRecursion P (xs ++ ys)
all_both P [] ys h k = k
all_both P (x ∷ xs) ys h k = (h.0, all_both P xs ys h.1 k)

module _ (m : Model) (sound : IsSound m) where
  -- the task there is one of the model
  abbrev IsListed : Option Task → Type 0
  IsListed o = (t : Task) → o ≡ Some t → IsTask t

  named_listed : (name : List ℕ) → IsListed (task_named m.tasks name)
  named_listed name t h = all_found IsTask (λ u. same (task_name u) name) m.tasks t sound.read.model.tasks h

  entries_below : (depth : ℕ) (o : Option Task) (node : Node) → IsListed o → AllByRecursion IsEntry (space_around node) → (l : Leaf) → IsAmong (leaves_below depth m o node) l
      → computes l.work ≡ true → AllByRecursion IsEntry l.space
  entries_below zero o node listed around l a h = absurd (omega (arith, a.1.0))
  entries_below (suc depth) None node listed around l a h = absurd (omega (arith, a.1.0))
  entries_below (suc depth) (Some (tasks.Elementary e)) node listed around l (zero, a) h = subst (λ (x : Leaf). AllByRecursion IsEntry x.space) (sym a.1) around
  entries_below (suc depth) (Some (tasks.Elementary e)) node listed around l (suc i, a) h = absurd (omega (arith, a.0))
  entries_below (suc depth) (Some (tasks.Repeated t)) node listed around l a h =
      let r : IsRepeated t = listed (tasks.Repeated t) refl in
      entries_below depth (task_named m.tasks t.task) (ToBody t.space ∷ node) (named_listed t.task) (all_both IsEntry (space_around node) t.space around r.space.entry) l a h
  entries_below (suc depth) (Some (tasks.Compound c)) node listed around l a h =
      let f : ℕ × Part → List Leaf = λ q. leaves_below depth m (task_named m.tasks q.1.task) (ToPart q.0 ∷ node) in
      elim (among_append (flat_map f (enumerate_from 0 c.parts)) (map (reshape_leaf node) (enumerate_from 0 c.reshapes)) l a) [
        | inl b ↦
            let q = among_flat_map f (enumerate_from 0 c.parts) l b in
            entries_below depth (task_named m.tasks q.0.1.task) (ToPart q.0.0 ∷ node) (named_listed q.0.1.task) around l q.2 h
        | inr b ↦
            let q = among_map (reshape_leaf node) (enumerate_from 0 c.reshapes) l b in
            let no : false ≡ true = sym (ap (λ (x : Leaf). computes x.work) q.2) ∙ h in
            cc
      ]

  pub leaf_entries : (k : ℕ) (l : Leaf) → slice_get (leaves m) k ≡ Some l → computes l.work ≡ true → AllByRecursion IsEntry l.space
  leaf_entries k l at h = entries_below (length m.tasks) (main_task m) [] (named_listed m.main) tt l (get_among (leaves m) k l at) h
