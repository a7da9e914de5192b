-- Each leaf of the fused model comes from an old one, instance by instance.
use Rattle.std.proofs.Common.{◌≡◌, ℕ, zero, suc, ◌+◌, ◌-◌, ◌*◌, ◌<◌, List, [], ◌∷◌, ◌++◌, length, take, drop, map, flat_map, Option, Some, None, option_and_then, slice_get, sym, ◌∙◌, ap, refl, arith, subst, append_assoc, inl, inr}
use Rattle.std.specs.List.{IsAmong, enumerate_from}
use Rattle.std.proofs.Math.Seq.{take-append_seam, drop-append_seam}
use Rattle.std.proofs.lemmas.List.{append-nil, length-append}
use Rattle.aol_shape.specs.Shape.{IsPointOf, size, point_at}
use Rattle.aol_shape.proofs.Points.{point_at-is}
use Rattle.aol_shape.proofs.Sizes.{size_both}
use Rattle.aol_tiler.specs.Tiler.{address_point}
use Rattle.aol_model_types.specs.declared.document.Model.{Model}
use Rattle.aol_model_types.specs.declared.task.Elementary.{Elementary}
use Rattle.aol_model_types.specs.declared.task.Part.{Part}
use Rattle.aol_model_types.specs.declared.task.Task.{Task}
use Rattle.aol_model_types.specs.declared.task.Task.TheVariants as tasks
use Rattle.aol_model_types.specs.Rules.{task_named}
use Rattle.aol_flat.specs.Instance.{Leaf, Work, Computes, Copies, Instance, Run, Copy, leaves, leaves_below, reshape_leaf, instance_on}
use Rattle.aol_flat.specs.Keep.{runs_task}
use Rattle.aol_flat.specs.Node.{ToPart, ToBody, Node, space_around, place_on, task_under, node_task}
use Rattle.aol_flat.specs.Place.{Place}
use Rattle.aol_flat.proofs.Among.{among_append, among_map, among_flat_map}
use Rattle.aol_flat.proofs.Inside.{point_split, point_both, point_length}
use Rattle.aol_flat.proofs.SourceBack.{at_number}
use Rattle.aol_change.specs.Change.{old_place}
use Rattle.aol_change.proofs.EqualParts.{numbers_get, numbers_many}
use Rattle.aol_fusion_parts.specs.Fuse.{Fusing}
use Rattle.aol_fusion_rules.proofs.Sound.{IsFusing}
use Rattle.aol_fusion.specs.Map.{unfuse, fuse_origin}
use Rattle.aol_fusion.specs.Numbers.{numbers_in_compounds, numbers_in_leaf}
use Rattle.aol_fusion.proofs.Lookups.{next}
use Rattle.aol_fusion.proofs.NodeSteps.{block_inside}
use Rattle.aol_fusion.proofs.PlacedNumbers.{compounds_many, placed}

-- ---- leaves that compute

-- the task of a leaf that computes is elementary
computes_below : (m : Model) (depth : ℕ) (o : Option Task) (node : Node) → node_task m node ≡ o → (l : Leaf) → IsAmong (leaves_below depth m o node) l → l.work ≡ Computes → (e : Elementary) × (node_task m l.node ≡ Some (tasks.Elementary e))
computes_below m zero o node e l a w = absurd (omega (arith, a.1.0))
computes_below m (suc depth) None node e l a w = absurd (omega (arith, a.1.0))
computes_below m (suc depth) (Some (tasks.Elementary t)) node e l (zero, a) w = (t, ap (λ (x : Leaf). node_task m x.node) a.1 ∙ e)
computes_below m (suc depth) (Some (tasks.Elementary t)) node e l (suc i, a) w = absurd (omega (arith, a.0))
computes_below m (suc depth) (Some (tasks.Repeated t)) node e l a w =
    computes_below m depth (task_named m.tasks t.task) (ToBody t.space ∷ node) (ap (option_and_then (λ v. task_under m v (ToBody t.space))) e) l a w
computes_below m (suc depth) (Some (tasks.Compound c)) node e l a w =
    let f : ℕ × Part → List Leaf = λ p. leaves_below depth m (task_named m.tasks p.1.task) (ToPart p.0 ∷ node) in
    elim (among_append (flat_map f (enumerate_from 0 c.parts)) (map (reshape_leaf node) (enumerate_from 0 c.reshapes)) l a) [
      | inl b ↦
          let p = among_flat_map f (enumerate_from 0 c.parts) l b in
          let here : node_task m (ToPart p.0.0 ∷ node) ≡ task_named m.tasks p.0.1.task =
          ap (option_and_then (λ t. task_under m t (ToPart p.0.0))) e ∙ ap (option_and_then (λ (q : Part). task_named m.tasks q.task)) (at_number c.parts p.0 p.1) in
          computes_below m depth (task_named m.tasks p.0.1.task) (ToPart p.0.0 ∷ node) here l p.2 w
      | inr b ↦
          let r = among_map (reshape_leaf node) (enumerate_from 0 c.reshapes) l b in
          let copies : Computes ≡ Copies r.0.0 (length r.0.1.by.space) = sym w ∙ ap (λ (x : Leaf). x.work) r.2 in
          cc
    ]

pub computes_elementary : (m : Model) (l : Leaf) → IsAmong (leaves m) l → l.work ≡ Computes → (e : Elementary) × (node_task m l.node ≡ Some (tasks.Elementary e))
computes_elementary m l a w = computes_below m (length m.tasks) (node_task m []) [] refl l a w

-- ---- instances by two parts of a point

-- an instance of a node, or a copy at one
abbrev pub at_work : Work → Place → List ℕ → Instance
at_work Computes place y = Run place
at_work (Copies k n) place y = Copy place k (take n y) (drop n y)

pub on_split : (l : Leaf) (w : Work) (x y : List ℕ) → l.work ≡ w → length x ≡ length (space_around l.node) → (w ≡ Computes → y ≡ []) → instance_on l (x ++ y) ≡ at_work w (place_on l.node x) y
on_split l Computes x y e count none =
    ap (λ (w : Work). instance_on (record { node = l.node; work = w; space = l.space }) (x ++ y)) e
    ∙ ap (λ z. Run (place_on l.node z)) (ap (λ z. x ++ z) (none refl) ∙ append-nil x)
on_split l (Copies k n) x y e count none =
    let front : take (length (space_around l.node)) (x ++ y) ≡ x = ap (λ j. take j (x ++ y)) (sym count) ∙ take-append_seam x y in
    let after : drop (length (space_around l.node)) (x ++ y) ≡ y = ap (λ j. drop j (x ++ y)) (sym count) ∙ drop-append_seam x y in
    ap (λ (w : Work). instance_on (record { node = l.node; work = w; space = l.space }) (x ++ y)) e
    ∙ (ap (λ z. Copy (place_on l.node z) k (take n (drop (length (space_around l.node)) (x ++ y))) (drop n (drop (length (space_around l.node)) (x ++ y)))) front
    ∙ ap (λ z. Copy (place_on l.node x) k (take n z) (drop n z)) after)

no_point : (rest y : List ℕ) → rest ≡ [] → IsPointOf rest y → y ≡ []
no_point [] [] e h = refl
no_point [] (i ∷ y) e h = absurd h
no_point (n ∷ rest) y e h = cc

module _ (f : Fusing) (h : IsFusing f) where
  abbrev m : Model
  m = f.model

  abbrev new : Model
  new = next f h

  abbrev back_to : Place → Place
  back_to = old_place (unfuse f) new

  abbrev back : Instance → Instance
  back = fuse_origin f new

  -- ---- a leaf and the one that it comes from

  -- both do the same at places that are mapped
  pub record ArePair (old l : Leaf) : Type 0 where
    pub rest : List ℕ
    pub old_space : old.space ≡ space_around old.node ++ rest
    pub new_space : l.space ≡ space_around l.node ++ rest
    pub old_none : old.work ≡ Computes → rest ≡ []
    pub new_none : l.work ≡ Computes → rest ≡ []
    pub work : (x y : List ℕ) (place : Place) → IsPointOf (space_around l.node) x → back_to (place_on l.node x) ≡ place → back (at_work l.work (place_on l.node x) y) ≡ at_work old.work place y
    pub runs : (x x' y : List ℕ) → IsPointOf (space_around l.node) x → IsPointOf (space_around old.node) x' → runs_task m (at_work old.work (place_on old.node x') y) ≡ runs_task new (at_work l.work (place_on l.node x) y)

  -- what is known of the instances of a new leaf
  pub record LeafFrom (l : Leaf) (before : Option ℕ) (old : Leaf) : Type 0 where
    pub many : (first : ℕ) → length (numbers_in_leaf f first old.space before) ≡ size l.space
    pub number : (first x : ℕ) → x < size l.space → (k : ℕ) × (k < size old.space) × (slice_get (numbers_in_leaf f first old.space before) x ≡ Some (first + k)) × (instance_on old (point_at old.space k) ≡ back (instance_on l (point_at l.space x)))
    pub runs : (at : List ℕ) → IsPointOf l.space at → runs_task m (back (instance_on l at)) ≡ runs_task new (instance_on l at)

  module _ (old l : Leaf) (p : ArePair old l) where
    -- one instance
    one : (x x' y : List ℕ) → IsPointOf (space_around l.node) x → IsPointOf (space_around old.node) x' → IsPointOf p.rest y → back_to (place_on l.node x) ≡ place_on old.node x' → back (instance_on l (x ++ y)) ≡ instance_on old (x' ++ y)
    one x x' y hx hx' hy e =
        ap back (on_split l l.work x y refl (point_length (space_around l.node) x hx) (λ w. no_point p.rest y (p.new_none w) hy))
        ∙ (p.work x y (place_on old.node x') hx e ∙ sym (on_split old old.work x' y refl (point_length (space_around old.node) x' hx') (λ w. no_point p.rest y (p.old_none w) hy)))

    one_runs : (x x' y : List ℕ) → IsPointOf (space_around l.node) x → IsPointOf (space_around old.node) x' → IsPointOf p.rest y → back_to (place_on l.node x) ≡ place_on old.node x'
        → runs_task m (back (instance_on l (x ++ y))) ≡ runs_task new (instance_on l (x ++ y))
    one_runs x x' y hx hx' hy e =
        ap (runs_task m) (one x x' y hx hx' hy e ∙ on_split old old.work x' y refl (point_length (space_around old.node) x' hx') (λ w. no_point p.rest y (p.old_none w) hy))
        ∙ (p.runs x x' y hx hx' ∙ ap (runs_task new) (sym (on_split l l.work x y refl (point_length (space_around l.node) x hx) (λ w. no_point p.rest y (p.new_none w) hy))))

    -- in the same place
    pub same_leaf : space_around l.node ≡ space_around old.node → ((at : List ℕ) → IsPointOf (space_around old.node) at → back_to (place_on l.node at) ≡ place_on old.node at) → LeafFrom l None old
    same_leaf around from =
        let space : l.space ≡ old.space = p.new_space ∙ (ap (λ z. z ++ p.rest) around ∙ sym p.old_space) in
        record {
          many = λ first. numbers_many first (size old.space) ∙ ap size (sym space);
          number = λ first x low.
              (let less : x < size old.space = omega (arith, low, ap size space) in
              let at : List ℕ = point_at old.space x in
              let z = point_split (space_around old.node) p.rest at (subst (λ s. IsPointOf s at) p.old_space (point_at-is old.space x less)) in
              let there_at : IsPointOf (space_around l.node) z.0 = subst (λ s. IsPointOf s z.0) (sym around) z.3 in (
                x,
                less,
                numbers_get first (size old.space) x less,
                ap (instance_on old) z.2 ∙ (sym (one z.0 z.0 z.1 there_at z.3 z.4 (from z.0 z.3)) ∙ ap (λ k. back (instance_on l k)) (sym z.2 ∙ ap (λ s. point_at s x) (sym space))),
              ));
          runs = λ at inside.
              (let z = point_split (space_around l.node) p.rest at (subst (λ s. IsPointOf s at) p.new_space inside) in
              let there_at : IsPointOf (space_around old.node) z.0 = subst (λ s. IsPointOf s z.0) around z.3 in
              ap (λ k. runs_task m (back (instance_on l k))) z.2 ∙ (one_runs z.0 z.0 z.1 z.3 there_at z.4 (from z.0 there_at) ∙ ap (λ k. runs_task new (instance_on l k)) (sym z.2)));
        }

    five : (a o b r s : List ℕ) → (a ++ (o ++ (b ++ r))) ++ s ≡ a ++ (o ++ (b ++ (r ++ s)))
    five a o b r s = append_assoc a (o ++ (b ++ r)) s ∙ ap (λ z. a ++ z) (append_assoc o (b ++ r) s ∙ ap (λ z. o ++ z) (append_assoc b r s))

    four : (a o r s : List ℕ) → (a ++ (o ++ r)) ++ s ≡ a ++ (o ++ (r ++ s))
    four a o r s = append_assoc a (o ++ r) s ∙ ap (λ z. a ++ z) (append_assoc o r s)

    -- below a block
    pub block_leaf : (front rest : List ℕ) → space_around old.node ≡ front ++ (f.one.space ++ rest) → space_around l.node ≡ front ++ (f.two.space ++ (f.args.block ++ rest))
        → ((a o b r : List ℕ) → IsPointOf front a → IsPointOf f.two.space o → IsPointOf f.args.block b → IsPointOf rest r
        → back_to (place_on l.node (a ++ (o ++ (b ++ r)))) ≡ place_on old.node (a ++ (address_point f.args.tiler f.one.space o b ++ r)))
        → LeafFrom l (Some (length (front ++ f.two.space))) old
    block_leaf front rest around new_around from =
        let after : List ℕ = rest ++ p.rest in
        let old_is : old.space ≡ front ++ (f.one.space ++ after) = p.old_space ∙ (ap (λ z. z ++ p.rest) around ∙ four front f.one.space rest p.rest) in
        let new_is : l.space ≡ front ++ (f.two.space ++ (f.args.block ++ after)) = p.new_space ∙ (ap (λ z. z ++ p.rest) new_around ∙ five front f.two.space f.args.block rest p.rest) in
        record {
          many = λ first.
              ap length (numbers_are first after old_is)
              ∙ (compounds_many f (size after) first (size front)
              ∙ (ap (λ k. size front * (size f.two.space * k)) (sym (size_both f.args.block after))
              ∙ (ap (λ k. size front * k) (sym (size_both f.two.space (f.args.block ++ after))) ∙ (sym (size_both front (f.two.space ++ (f.args.block ++ after))) ∙ ap size (sym new_is)))));
          number = λ first x low.
              (let v = placed f front after (λ r q hr hq. block_inside f h r q hr hq) first x (omega (arith, low, ap size new_is)) in
              let less : v.number < size old.space = omega (arith, v.low, ap size old_is) in
              let t : List ℕ = address_point f.args.tiler f.one.space v.over v.inside in
              let old_point : point_at old.space v.number ≡ v.around ++ (t ++ v.below) = ap (λ s. point_at s v.number) old_is ∙ v.old_point in
              let new_point : point_at l.space x ≡ v.around ++ (v.over ++ (v.inside ++ v.below)) = ap (λ s. point_at s x) new_is ∙ v.new_point in (
                v.number,
                less,
                ap (λ ns. slice_get ns x) (numbers_are first after old_is) ∙ v.listed,
                ap (instance_on old) old_point ∙ (sym (moved v.around v.over v.inside v.below v.around_is v.over_is v.inside_is v.below_is) ∙ ap (λ k. back (instance_on l k)) (sym new_point)),
              ));
          runs = λ at inside.
              (let a = point_split front (f.two.space ++ (f.args.block ++ after)) at (subst (λ s. IsPointOf s at) new_is inside) in
              let o = point_split f.two.space (f.args.block ++ after) a.1 a.4 in
              let b = point_split f.args.block after o.1 o.4 in
              let z = point_split rest p.rest b.1 b.4 in
              let x : List ℕ = a.0 ++ (o.0 ++ (b.0 ++ z.0)) in
              let t : List ℕ = address_point f.args.tiler f.one.space o.0 b.0 in
              let parts : at ≡ x ++ z.1 = a.2 ∙ (ap (λ k. a.0 ++ k) (o.2 ∙ ap (λ k. o.0 ++ k) (b.2 ∙ ap (λ k. b.0 ++ k) z.2)) ∙ sym (five a.0 o.0 b.0 z.0 z.1)) in
              ap (λ k. runs_task m (back (instance_on l k))) parts
              ∙ (one_runs x (a.0 ++ (t ++ z.0)) z.1 (inside_new a.0 o.0 b.0 z.0 a.3 o.3 b.3 z.3) (inside_old a.0 o.0 b.0 z.0 a.3 o.3 b.3 z.3) z.4 (from a.0 o.0 b.0 z.0 a.3 o.3 b.3 z.3)
              ∙ ap (λ k. runs_task new (instance_on l k)) (sym parts)));
        }
      where
        numbers_are : (first : ℕ) (after : List ℕ) → old.space ≡ front ++ (f.one.space ++ after) → numbers_in_leaf f first old.space (Some (length (front ++ f.two.space))) ≡ numbers_in_compounds f (size front) first (size after)
        numbers_are first after is =
            let count : length (front ++ f.two.space) - length f.two.space ≡ length front = omega (arith, length-append front f.two.space) in
            let seam : (length (front ++ f.two.space) - length f.two.space) + length f.one.space ≡ length (front ++ f.one.space) = omega (arith, count, length-append front f.one.space) in
            let left : take (length (front ++ f.two.space) - length f.two.space) old.space ≡ front = ap (λ k. take k old.space) count ∙ (ap (take (length front)) is ∙ take-append_seam front (f.one.space ++ after)) in
            let right : drop ((length (front ++ f.two.space) - length f.two.space) + length f.one.space) old.space ≡ after =
            ap (λ k. drop k old.space) seam ∙ (ap (drop (length (front ++ f.one.space))) (is ∙ sym (append_assoc front f.one.space after)) ∙ drop-append_seam (front ++ f.one.space) after) in
            ap (λ s. numbers_in_compounds f (size s) first (size (drop ((length (front ++ f.two.space) - length f.two.space) + length f.one.space) old.space))) left
            ∙ ap (λ s. numbers_in_compounds f (size front) first (size s)) right

        inside_new : (a o b r : List ℕ) → IsPointOf front a → IsPointOf f.two.space o → IsPointOf f.args.block b → IsPointOf rest r → IsPointOf (space_around l.node) (a ++ (o ++ (b ++ r)))
        inside_new a o b r ha ho hb hr =
            subst (λ s. IsPointOf s (a ++ (o ++ (b ++ r)))) (sym new_around) (point_both front (f.two.space ++ (f.args.block ++ rest)) a (o ++ (b ++ r)) ha (point_both f.two.space (f.args.block ++ rest) o (b ++ r) ho (point_both f.args.block rest b r hb hr)))

        inside_old : (a o b r : List ℕ) → IsPointOf front a → IsPointOf f.two.space o → IsPointOf f.args.block b → IsPointOf rest r → IsPointOf (space_around old.node) (a ++ (address_point f.args.tiler f.one.space o b ++ r))
        inside_old a o b r ha ho hb hr =
            let t : List ℕ = address_point f.args.tiler f.one.space o b in
            subst (λ s. IsPointOf s (a ++ (t ++ r))) (sym around) (point_both front (f.one.space ++ rest) a (t ++ r) ha (point_both f.one.space rest t r (block_inside f h o b ho hb) hr))

        moved : (a o b d : List ℕ) → IsPointOf front a → IsPointOf f.two.space o → IsPointOf f.args.block b → IsPointOf (rest ++ p.rest) d
            → back (instance_on l (a ++ (o ++ (b ++ d)))) ≡ instance_on old (a ++ (address_point f.args.tiler f.one.space o b ++ d))
        moved a o b d ha ho hb hd =
            let z = point_split rest p.rest d hd in
            let t : List ℕ = address_point f.args.tiler f.one.space o b in
            ap (λ k. back (instance_on l k)) (ap (λ k. a ++ (o ++ (b ++ k))) z.2 ∙ sym (five a o b z.0 z.1))
            ∙ (one (a ++ (o ++ (b ++ z.0))) (a ++ (t ++ z.0)) z.1 (inside_new a o b z.0 ha ho hb z.3) (inside_old a o b z.0 ha ho hb z.3) z.4 (from a o b z.0 ha ho hb z.3)
            ∙ ap (instance_on old) (four a t z.0 z.1 ∙ ap (λ k. a ++ (t ++ k)) (sym z.2)))
