-- Where the instances of a node come from, and so those of the leaves at it.
use Rattle.std.proofs.Common.{◌≡◌, ℕ, ◌<◌, ◌≤◌, get_or, List, [], ◌∷◌, ◌++◌, length, take, drop, map, Option, Some, None, option_map, slice_get, sym, ◌∙◌, ap, refl, arith, subst, append_assoc, ◌⊎◌, inl, inr}
use Rattle.std.specs.Prelude.{slice_index}
use Rattle.std.specs.List.{IsAmong, AllByRecursion}
use Rattle.std.proofs.Math.Seq.{take-append_seam, drop-append_seam}
use Rattle.std.proofs.lemmas.List.{append-nil}
use Rattle.std.proofs.lemmas.Option.{slice_get_cases}
use Rattle.aol_shape.specs.Shape.{IsPointOf, points, IsEntry}
use Rattle.aol_model_types.specs.declared.document.Model.{Model}
use Rattle.aol_model_types.specs.Rules.{task_name}
use Rattle.aol_flat.specs.Instance.{Leaf, Work, Computes, Copies, Instance, Run, Copy, instance_on, leaf_instances, leaves, instances}
use Rattle.aol_flat.specs.Keep.{runs_task, SameKind, AreAlike}
use Rattle.aol_flat.specs.Node.{ToPart, ToBody, Node, space_around, place_on, node_task}
use Rattle.aol_flat.specs.Place.{Place, IntoPart, IntoRepetition}
use Rattle.aol_flat.proofs.Among.{among_map, among_flat_map, get_among, points_inside}
use Rattle.aol_flat.proofs.Inside.{point_split, point_both, point_length, place_in_body}
use Rattle.aol_flat.proofs.LeafForm.{LeafForm}
use Rattle.aol_flat.proofs.NodeTasks.{HasSpaces, task_on}
use Rattle.aol_change.specs.Change.{StepBack, old_place, old_instance, same_reshape, name_at, unblocked, IsMapOf, KeepsTasks}
use Rattle.aol_change.specs.UnblockedParts.{HaveRank}
use Rattle.aol_change.proofs.ComesFrom.{ComesFrom, origin_there}
use Rattle.aol_change.proofs.ComesFrom as leaf

-- how the instances of a new node come from those of an old one, by the entries before those of the repetition in blocks
pub data NodeFrom (space outer block : List ℕ) (back : StepBack) (next : Model) (old new : Node) : Option ℕ → Type 0 where
  as_before : space_around new ≡ space_around old → ((at : List ℕ) → IsPointOf (space_around old) at → old_place back next (place_on new at) ≡ place_on old at)
      → NodeFrom space outer block back next old new None
  in_blocks : {before : ℕ} (front rest : List ℕ) → length front ≡ before → space_around old ≡ front ++ (space ++ rest) → space_around new ≡ front ++ (outer ++ (block ++ rest))
      → ((around over inside below : List ℕ) → IsPointOf front around → IsPointOf outer over → IsPointOf block inside → IsPointOf rest below
      → old_place back next (place_on new (around ++ (over ++ (inside ++ below)))) ≡ place_on old (around ++ (unblocked space block over inside ++ below)))
      → NodeFrom space outer block back next old new (Some before)

five_regroup : (a o b r s : List ℕ) → (a ++ (o ++ (b ++ r))) ++ s ≡ a ++ (o ++ (b ++ (r ++ s)))
five_regroup a o b r s =
    append_assoc a (o ++ (b ++ r)) s ∙ ap (λ z. a ++ z) (append_assoc o (b ++ r) s ∙ ap (λ z. o ++ z) (append_assoc b r s))

four_regroup : (a o r s : List ℕ) → (a ++ (o ++ r)) ++ s ≡ a ++ (o ++ (r ++ s))
four_regroup a o r s = append_assoc a (o ++ r) s ∙ ap (λ z. a ++ z) (append_assoc o r s)

module _ (space outer block : List ℕ) (whole : (r p : List ℕ) → IsPointOf outer r → IsPointOf block p → IsPointOf space (unblocked space block r p)) (back : StepBack) (next : Model) where
  abbrev old_of : Place → Place
  old_of = old_place back next

  -- ---- one step down

  pub into_part : (up up' : Node) (before : Option ℕ) (k : ℕ) → ((p : Place) → back (name_at next p) (IntoPart k) (old_of p) ≡ IntoPart k ∷ old_of p)
      → NodeFrom space outer block back next up up' before → NodeFrom space outer block back next (ToPart k ∷ up) (ToPart k ∷ up') before
  into_part up up' None k keeps (as_before same h) = as_before same (λ at inside. keeps (place_on up' at) ∙ ap (λ p. IntoPart k ∷ p) (h at inside))
  into_part up up' (Some before) k keeps (in_blocks front rest count is new_is h) =
      in_blocks front rest count is new_is
      (λ a o b r ha ho hb hr. keeps (place_on up' (a ++ (o ++ (b ++ r)))) ∙ ap (λ p. IntoPart k ∷ p) (h a o b r ha ho hb hr))

  pub into_body : (up up' : Node) (before : Option ℕ) (s : List ℕ)
      → ((x y : List ℕ) → IsPointOf (space_around up') x → IsPointOf s y → back (name_at next (place_on up' x)) (IntoRepetition y) (old_of (place_on up' x)) ≡ IntoRepetition y ∷ old_of (place_on up' x))
      → NodeFrom space outer block back next up up' before → NodeFrom space outer block back next (ToBody s ∷ up) (ToBody s ∷ up') before
  into_body up up' None s keeps (as_before same h) =
      as_before (ap (λ z. z ++ s) same)
      (λ at inside.
      let z = point_split (space_around up) s at inside in
      let there : IsPointOf (space_around up') z.0 = subst (λ q. IsPointOf q z.0) (sym same) z.3 in
      ap (λ q. old_of (place_on (ToBody s ∷ up') q)) z.2
      ∙ (ap old_of (place_in_body s up' z.0 z.1 z.4)
      ∙ (keeps z.0 z.1 there z.4
      ∙ (ap (λ p. IntoRepetition z.1 ∷ p) (h z.0 z.3) ∙ (sym (place_in_body s up z.0 z.1 z.4) ∙ ap (place_on (ToBody s ∷ up)) (sym z.2))))))
  into_body up up' (Some before) s keeps (in_blocks front rest count is new_is h) =
      in_blocks front (rest ++ s) count (ap (λ z. z ++ s) is ∙ four_regroup front space rest s) (ap (λ z. z ++ s) new_is ∙ five_regroup front outer block rest s)
      (λ a o b d ha ho hb hd.
      let z = point_split rest s d hd in
      let x : List ℕ = a ++ (o ++ (b ++ z.0)) in
      let there : IsPointOf (space_around up') x =
      subst (λ q. IsPointOf q x) (sym new_is) (point_both front (outer ++ (block ++ rest)) a (o ++ (b ++ z.0)) ha (point_both outer (block ++ rest) o (b ++ z.0) ho (point_both block rest b z.0 hb z.3))) in
      let split : a ++ (o ++ (b ++ d)) ≡ x ++ z.1 = ap (λ q. a ++ (o ++ (b ++ q))) z.2 ∙ sym (five_regroup a o b z.0 z.1) in
      let u : List ℕ = unblocked space block o b in
      ap (λ q. old_of (place_on (ToBody s ∷ up') q)) split
      ∙ (ap old_of (place_in_body s up' x z.1 z.4)
      ∙ (keeps x z.1 there z.4
      ∙ (ap (λ p. IntoRepetition z.1 ∷ p) (h a o b z.0 ha ho hb z.3)
      ∙ (sym (place_in_body s up (a ++ (u ++ z.0)) z.1 z.4)
      ∙ ap (place_on (ToBody s ∷ up)) (four_regroup a u z.0 z.1 ∙ ap (λ q. a ++ (u ++ q)) (sym z.2)))))))

  -- ---- leaves

  -- an instance of a node, or a copy at one
  abbrev at_work : Work → Place → List ℕ → Instance
  at_work Computes place y = Run place
  at_work (Copies k n) place y = Copy place k (take n y) (drop n y)

  on_split : (l : Leaf) (w : Work) (x y : List ℕ) → l.work ≡ w → length x ≡ length (space_around l.node) → (w ≡ Computes → y ≡ []) → instance_on l (x ++ y) ≡ at_work w (place_on l.node x) y
  on_split l Computes x y e count none =
      ap (λ (w : Work). instance_on (record { node = l.node; work = w; space = l.space }) (x ++ y)) e
      ∙ ap (λ z. Run (place_on l.node z)) (ap (λ z. x ++ z) (none refl) ∙ append-nil x)
  on_split l (Copies k n) x y e count none =
      let front : take (length (space_around l.node)) (x ++ y) ≡ x = ap (λ j. take j (x ++ y)) (sym count) ∙ take-append_seam x y in
      let after : drop (length (space_around l.node)) (x ++ y) ≡ y = ap (λ j. drop j (x ++ y)) (sym count) ∙ drop-append_seam x y in
      ap (λ (w : Work). instance_on (record { node = l.node; work = w; space = l.space }) (x ++ y)) e
      ∙ (ap (λ z. Copy (place_on l.node z) k (take n (drop (length (space_around l.node)) (x ++ y))) (drop n (drop (length (space_around l.node)) (x ++ y)))) front
      ∙ ap (λ z. Copy (place_on l.node x) k (take n z) (drop n z)) after)

  moved_work : (w : Work) (p q : Place) (y : List ℕ) → old_of p ≡ q → old_instance back same_reshape next (at_work w p y) ≡ at_work w q y
  moved_work Computes p q y h = ap (λ z. Run z) h
  moved_work (Copies k n) p q y h = ap (λ z. Copy z k (take n y) (drop n y)) h

  -- the space of a leaf is that around its node, and then that of its reshape
  record HasRest (l : Leaf) : Type 0 where
    rest : List ℕ
    is : l.space ≡ space_around l.node ++ rest
    none : l.work ≡ Computes → rest ≡ []

  rest_of : (m : Model) (l : Leaf) → LeafForm m l → HasRest l
  rest_of m l f =
      elim f.form [
        | inl r ↦ record { rest = []; is = r.space ∙ sym (append-nil (space_around l.node)); none = λ e. refl }
        | inr c ↦
            record {
              rest = c.reshape.by.space ++ c.reshape.by.pattern;
              is = c.space ∙ append_assoc (space_around l.node) c.reshape.by.space c.reshape.by.pattern;
              none = λ e. let copies = c.copies in absurd (cc);
            }
      ]

  no_rest : (rest y : List ℕ) → rest ≡ [] → IsPointOf rest y → y ≡ []
  no_rest [] [] e h = refl
  no_rest [] (i ∷ y) e h = absurd h
  no_rest (n ∷ rest) y e h = cc

  pub leaf_from : (m : Model) (old new : Leaf) (before : Option ℕ) → NodeFrom space outer block back next old.node new.node before → LeafForm m old → new.work ≡ old.work
      → new.space ≡ space_around new.node ++ drop (length (space_around old.node)) old.space → ComesFrom space outer block (old_instance back same_reshape next) old new before
  leaf_from m old new before from form work is = go before from
    where
      r : HasRest old
      r = rest_of m old form

      dropped : drop (length (space_around old.node)) old.space ≡ r.rest
      dropped = ap (drop (length (space_around old.node))) r.is ∙ drop-append_seam (space_around old.node) r.rest

      new_is : new.space ≡ space_around new.node ++ r.rest
      new_is = is ∙ ap (λ z. space_around new.node ++ z) dropped

      one : (x x' y : List ℕ) → IsPointOf (space_around new.node) x → IsPointOf (space_around old.node) x' → IsPointOf r.rest y → old_of (place_on new.node x) ≡ place_on old.node x'
          → old_instance back same_reshape next (instance_on new (x ++ y)) ≡ instance_on old (x' ++ y)
      one x x' y hx hx' hy h =
          let none : old.work ≡ Computes → y ≡ [] = λ e. no_rest r.rest y (r.none e) hy in
          ap (old_instance back same_reshape next) (on_split new old.work x y work (point_length (space_around new.node) x hx) none)
          ∙ (moved_work old.work (place_on new.node x) (place_on old.node x') y h ∙ sym (on_split old old.work x' y refl (point_length (space_around old.node) x' hx') none))

      go : (o : Option ℕ) → NodeFrom space outer block back next old.node new.node o → ComesFrom space outer block (old_instance back same_reshape next) old new o
      go None (as_before same h) =
          leaf.as_before (new_is ∙ (ap (λ z. z ++ r.rest) same ∙ sym r.is))
          (λ at inside.
          let z = point_split (space_around old.node) r.rest at (subst (λ q. IsPointOf q at) r.is inside) in
          let there : IsPointOf (space_around new.node) z.0 = subst (λ q. IsPointOf q z.0) (sym same) z.3 in
          ap (λ q. old_instance back same_reshape next (instance_on new q)) z.2 ∙ (one z.0 z.0 z.1 there z.3 z.4 (h z.0 z.3) ∙ ap (instance_on old) (sym z.2)))
      go (Some k) (in_blocks front rest count old_is around_is h) =
          leaf.in_blocks front (rest ++ r.rest) count (r.is ∙ (ap (λ z. z ++ r.rest) old_is ∙ four_regroup front space rest r.rest))
          (new_is ∙ (ap (λ z. z ++ r.rest) around_is ∙ five_regroup front outer block rest r.rest))
          (λ a o b d ha ho hb hd.
          let z = point_split rest r.rest d hd in
          let u : List ℕ = unblocked space block o b in
          let x : List ℕ = a ++ (o ++ (b ++ z.0)) in
          let x' : List ℕ = a ++ (u ++ z.0) in
          let there : IsPointOf (space_around new.node) x =
          subst (λ q. IsPointOf q x) (sym around_is) (point_both front (outer ++ (block ++ rest)) a (o ++ (b ++ z.0)) ha (point_both outer (block ++ rest) o (b ++ z.0) ho (point_both block rest b z.0 hb z.3))) in
          let there' : IsPointOf (space_around old.node) x' =
          subst (λ q. IsPointOf q x') (sym old_is) (point_both front (space ++ rest) a (u ++ z.0) ha (point_both space rest u z.0 (whole o b ho hb) z.3)) in
          ap (λ q. old_instance back same_reshape next (instance_on new q)) (ap (λ q. a ++ (o ++ (b ++ q))) z.2 ∙ sym (five_regroup a o b z.0 z.1))
          ∙ (one x x' z.1 there there' z.4 (h a o b z.0 ha ho hb z.3) ∙ ap (instance_on old) (four_regroup a u z.0 z.1 ∙ ap (λ q. a ++ (u ++ q)) (sym z.2))))

-- ---- kinds

-- a copy runs no task
copy_runs : (m : Model) (l : Leaf) (x : List ℕ) (k n : ℕ) → l.work ≡ Copies k n → runs_task m (instance_on l x) ≡ None
copy_runs m l x k n e = ap (λ (w : Work). runs_task m (instance_on (record { node = l.node; work = w; space = l.space }) x)) e

-- an instance of an elementary leaf runs the task at its node
node_runs : (m : Model) (l : Leaf) (x : List ℕ) → HasSpaces m l.node → l.work ≡ Computes → IsPointOf (space_around l.node) x → runs_task m (instance_on l x) ≡ option_map task_name (node_task m l.node)
node_runs m l x spaces e inside =
    ap (λ (w : Work). runs_task m (instance_on (record { node = l.node; work = w; space = l.space }) x)) e ∙ ap (option_map task_name) (task_on m l.node spaces x inside)

runs_as : (m : Model) (l : Leaf) (x : List ℕ) → LeafForm m l → IsPointOf l.space x → l.work ≡ Computes → runs_task m (instance_on l x) ≡ option_map task_name (node_task m l.node)
runs_as m l x form inside computes =
    elim form.form [
      | inl r ↦ node_runs m l x form.spaces computes (subst (λ q. IsPointOf q x) r.space inside)
      | inr c ↦ let copies = c.copies in absurd (cc)
    ]

-- an instance comes from one of its kind
pub kind_kept : (m next : Model) (space outer block : List ℕ) → AllByRecursion IsEntry space → HaveRank space outer block → (origin : Instance → Instance) (old new : Leaf) (before : Option ℕ)
    → ComesFrom space outer block origin old new before → LeafForm m old → LeafForm next new → new.work ≡ old.work
    → option_map task_name (node_task next new.node) ≡ option_map task_name (node_task m old.node)
    → (at : List ℕ) → IsPointOf new.space at → runs_task m (origin (instance_on new at)) ≡ runs_task next (instance_on new at)
kind_kept m next space outer block entries rank origin old new before from form new_form work names at inside =
    let o = origin_there space outer block entries rank origin old new before at from inside in
    ap (runs_task m) o.2
    ∙ elim form.form [
      | inl r ↦ runs_as m old o.0 form o.1 r.computes ∙ (sym names ∙ sym (runs_as next new at new_form inside (work ∙ r.computes)))
      | inr c ↦
          copy_runs m old o.0 c.number (length c.reshape.by.space) c.copies
          ∙ sym (copy_runs next new at c.number (length c.reshape.by.space) (work ∙ c.copies))
    ]

-- so the models are alike
pub alike : (m next : Model) (origin : Instance → Instance) (new_leaf : Leaf → Leaf) (old_of : List ℕ) → KeepsTasks m next → leaves next ≡ map new_leaf (leaves m) → IsMapOf m next origin old_of
    → ((l : Leaf) → IsAmong (leaves m) l → (at : List ℕ) → IsPointOf (new_leaf l).space at → runs_task m (origin (instance_on (new_leaf l) at)) ≡ runs_task next (instance_on (new_leaf l) at))
    → AreAlike m next old_of
alike m next origin new_leaf old_of keeps are map_is kinds = record {
  elementary = keeps.elementary;
  each = map_is.each;
  kinds = λ j low. by_instance j low (slice_get_cases (instances next) j).1;
  same_ins = keeps.ins;
  same_outs = keeps.outs;
}
  where
    of_leaf : (i : Instance) → IsAmong (instances next) i → runs_task m (origin i) ≡ runs_task next i
    of_leaf i a =
        let l = among_flat_map leaf_instances (leaves next) i a in
        let k = among_map new_leaf (leaves m) l.0 (subst (λ ls. IsAmong ls l.0) are l.1) in
        let p = among_map (instance_on l.0) (points l.0.space) i l.2 in
        let inside : IsPointOf l.0.space p.0 = points_inside l.0.space p.0 p.1 in
        let is : instance_on (new_leaf k.0) p.0 ≡ i = ap (λ (x : Leaf). instance_on x p.0) (sym k.2) ∙ sym p.2 in
        ap (λ x. runs_task m (origin x)) (sym is) ∙ (kinds k.0 k.1 p.0 (subst (λ (x : Leaf). IsPointOf x.space p.0) k.2 inside) ∙ ap (runs_task next) is)

    by_instance : (j : ℕ) → j < length (instances next)
        → ((i : Instance) × (j < length (instances next)) × (slice_get (instances next) j ≡ Some i) × (get_or (instances next) j i ≡ i)) ⊎ ((length (instances next) ≤ j) × (slice_get (instances next) j ≡ None))
        → SameKind m next (slice_index old_of j) j
    by_instance j low (inl a) =
        record { old_instance = origin a.0; new_instance = a.0; at_old = map_is.number j a.0 a.2; at_new = a.2; alike = of_leaf a.0 (get_among (instances next) j a.0 a.2) }
    by_instance j low (inr a) = absurd (omega (arith, low, a.0))
