-- The first point of some targets that is written twice, target by target.
use Rattle.std.proofs.Common.{◌≡◌, ℕ, suc, ◌+◌, ◌<◌, List, [], ◌∷◌, ◌++◌, length, map, flat_map, drop, get_or, true, Option, Some, None, option_map, slice_get, Result, Ok, Err, sym, ◌∙◌, ap, refl, subst, add-one}
use Rattle.std.specs.Result.{IfOk}
use Rattle.aol_model_types.specs.declared.document.Model.{Model}
use Rattle.aol_model_types.specs.declared.task.Task.{Task}
use Rattle.std.specs.List.{AllByRecursion, IsAmong, enumerate_from}
use Rattle.std.proofs.lemmas.List.{append_assoc}
use Rattle.std.proofs.Math.Seq.{drop-cons}
use Rattle.aol_shape.specs.Lists.{first_some}
use Rattle.aol_expr_tree.specs.declared.port.Port.{Port}
use Rattle.aol_model_types.specs.declared.task.Compound.{Compound}
use Rattle.aol_model_types.specs.declared.task.Part.{Part}
use Rattle.aol_model_types.specs.Rules.{same_part}
use Rattle.aol_flat.specs.Node.{Node}
use Rattle.aol_flat.specs.Targets.{Writing, Target, Twice, first_repeat, target_twice, reshape_writings, reshape_target, node_targets}
use Rattle.aol_assign.specs.declared.marks.Repeat.{Repeat}
use Rattle.aol_assign.specs.declared.targets.Found.{Found}
use Rattle.aol_assign.specs.declared.pairs.Member.{Member}
use Rattle.aol_assign.specs.declared.targets.Numbered.{Numbered}
use Rattle.aol_assign.specs.Pairs.{all_writings}
use Rattle.aol_assign.specs.Marks.{repeat_of}
use Rattle.aol_assign.specs.Found.{found_of, found_in, ReshapesFit, AreInto, IntoFits, numbered}

-- a target with no point that is written twice
pub found_past : (t : Target) (ts : List Target) → repeat_of t.writings ≡ None → found_in (t ∷ ts) ≡ found_in ts
found_past t ts none = go (first_repeat [] t.writings) refl none
  where
    go : (o : Option (Writing × Writing)) → first_repeat [] t.writings ≡ o → option_map {U = Repeat} (λ (p : Writing × Writing). record { first = p.0.0; second = p.1.0; point = p.1.1 }) o ≡ None → found_in (t ∷ ts) ≡ found_in ts
    go None e h =
        ap (λ o. option_map found_of (first_some (option_map {U = Twice} (λ (p : Writing × Writing). record { target = t; first = p.0.0; second = p.1.0; point = p.1.1 }) o ∷ map target_twice ts))) e
    go (Some p) e h = cc

-- one with such a point
pub found_here : (t : Target) (ts : List Target) (r : Repeat) → repeat_of t.writings ≡ Some r → found_in (t ∷ ts) ≡ Some (record { part = t.part; port = t.port; repeat = r })
found_here t ts r some = go (first_repeat [] t.writings) refl some
  where
    go : (o : Option (Writing × Writing)) → first_repeat [] t.writings ≡ o → option_map {U = Repeat} (λ (p : Writing × Writing). record { first = p.0.0; second = p.1.0; point = p.1.1 }) o ≡ Some r
        → found_in (t ∷ ts) ≡ Some (record { part = t.part; port = t.port; repeat = r })
    go None e h = cc
    go (Some p) e h =
        let f : ◌≡◌ {A = Repeat} (record { first = p.0.0; second = p.1.0; point = p.1.1 }) r = cc in
        ap (λ o. option_map found_of (first_some (option_map {U = Twice} (λ (p : Writing × Writing). record { target = t; first = p.0.0; second = p.1.0; point = p.1.1 }) o ∷ map target_twice ts))) e
        ∙ ap (λ (q : Repeat). Some (record { part = t.part; port = t.port; repeat = q })) f

-- the same over the targets of ports
module _ (target : Port → Target) (ports : List Port) (i : ℕ) (y : Port) (lt : i < length ports) (is : y ≡ get_or ports i y)
    (so_far : found_in (map target ports) ≡ found_in (map target (drop i ports))) where
  next_port : drop i ports ≡ y ∷ drop (i + 1) ports
  next_port = drop-cons ports i y lt ∙ (ap (λ x. x ∷ drop (suc i) ports) (sym is) ∙ ap (λ n. y ∷ drop n ports) (sym (add-one i)))

  pub port_past : repeat_of (target y).writings ≡ None → found_in (map target ports) ≡ found_in (map target (drop (i + 1) ports))
  port_past none = so_far ∙ (ap (λ ps. found_in (map target ps)) next_port ∙ found_past (target y) (map target (drop (i + 1) ports)) none)

  pub port_here : (r : Repeat) → repeat_of (target y).writings ≡ Some r → found_in (map target ports) ≡ Some (record { part = (target y).part; port = (target y).port; repeat = r })
  port_here r some = so_far ∙ (ap (λ ps. found_in (map target ps)) next_port ∙ found_here (target y) (map target (drop (i + 1) ports)) r some)

-- ---- the ports that reshapes feed

-- reshapes into some ports fit one of them
pub into_fits : (c : Compound) (part : Option (List ℕ)) (ports : List Port) (y : Port) → IsAmong ports y → ReshapesFit c part ports → (vs : List Numbered) → AreInto c part vs → IntoFits y vs
into_fits c part ports y among fits [] into = tt
into_fits c part ports y among fits (v ∷ vs) into = (λ on. fits y v.item v.reshape.now among into.0.0 into.0.1 on, into_fits c part ports y among fits vs into.1)

of_part : (c : Compound) (part : Option (List ℕ)) (vs : List Numbered) → AreInto c part vs → AllByRecursion (λ (n : Numbered). same_part n.reshape.now.to.part part ≡ true) vs
of_part c part [] into = tt
of_part c part (v ∷ vs) into = (into.0.1, of_part c part vs into.1)

module _ (c : Compound) (part : Option (List ℕ)) (ports : List Port) (i : ℕ) (y : Port) (lt : i < length ports) (is : y ≡ get_or ports i y)
    (vs lent : List Numbered) (borrowed : lent ≡ vs) (same_into : (u : Port) → flat_map (reshape_writings part u) (numbered vs) ≡ flat_map (reshape_writings part u) (enumerate_from 0 c.reshapes)) (into : AreInto c part vs)
    (ms given : List Member) (handed : given ≡ ms)
    (same_members : (p : Option (List ℕ)) → AllByRecursion (λ (n : Numbered). same_part n.reshape.now.to.part p ≡ true) lent → all_writings y.shape ms ≡ flat_map (reshape_writings p y) (numbered lent))
    (r : Option Repeat) (told : r ≡ repeat_of (all_writings y.shape given))
    (so_far : (node : Node) → found_in (map (reshape_target node c part) ports) ≡ found_in (map (reshape_target node c part) (drop i ports))) where
  all_of_port : r ≡ repeat_of (flat_map (reshape_writings part y) (enumerate_from 0 c.reshapes))
  all_of_port =
      let P : List Numbered → Type 0 = λ ws. AllByRecursion (λ (n : Numbered). same_part n.reshape.now.to.part part ≡ true) ws in
      told
      ∙ (ap (λ bs. repeat_of (all_writings y.shape bs)) handed
      ∙ (ap repeat_of (same_members part (subst P (sym borrowed) (of_part c part vs into)))
      ∙ (ap (λ ws. repeat_of (flat_map (reshape_writings part y) (numbered ws))) borrowed
      ∙ ap repeat_of (same_into y))))

  pub reshapes_past : r ≡ None → (node : Node) → found_in (map (reshape_target node c part) ports) ≡ found_in (map (reshape_target node c part) (drop (i + 1) ports))
  reshapes_past none node = port_past (reshape_target node c part) ports i y lt is (so_far node) (sym all_of_port ∙ none)

  pub reshapes_here : (repeat : Repeat) → r ≡ Some repeat → (p : Option (List ℕ)) (name : List ℕ) → p ≡ part → name ≡ y.name → (node : Node)
      → Some (record { part = p; port = name; repeat = repeat }) ≡ found_in (map (reshape_target node c part) ports)
  reshapes_here repeat some p name same_p same_name node =
      let e = port_here (reshape_target node c part) ports i y lt is (so_far node) repeat (sym all_of_port ∙ some) in
      ap (λ (q : Option (List ℕ)). Some (found_at q name)) same_p ∙ (ap (λ n. Some (found_at part n)) same_name ∙ sym e)
    where
      found_at : Option (List ℕ) → List ℕ → Found
      found_at q n = record { part = q; port = n; repeat = repeat }

-- ---- the parts of a compound

found_none : (ts us : List Target) → found_in ts ≡ None → found_in (ts ++ us) ≡ found_in us
found_none [] us h = refl
found_none (t ∷ ts) us h = go (target_twice t) h (found_none ts us)
  where
    go : (o : Option Twice) → option_map found_of (first_some (o ∷ map target_twice ts)) ≡ None → (found_in ts ≡ None → found_in (ts ++ us) ≡ found_in us)
        → option_map found_of (first_some (o ∷ map target_twice (ts ++ us))) ≡ found_in us
    go None k later = later k
    go (Some x) k later = cc

found_some : (ts us : List Target) (f : Found) → found_in ts ≡ Some f → found_in (ts ++ us) ≡ Some f
found_some [] us f h = cc
found_some (t ∷ ts) us f h = go (target_twice t) h (found_some ts us f)
  where
    go : (o : Option Twice) → option_map found_of (first_some (o ∷ map target_twice ts)) ≡ Some f → (found_in ts ≡ Some f → found_in (ts ++ us) ≡ Some f)
        → option_map found_of (first_some (o ∷ map target_twice (ts ++ us))) ≡ Some f
    go None k later = later k
    go (Some x) k later = k

module _ (targets : Part → List Target) (parts : List Part) (own : List Target) (i : ℕ) (p : Part) (lt : i < length parts) (is : p ≡ get_or parts i p) (all : List Target)
    (so_far : found_in all ≡ found_in (flat_map targets (drop i parts) ++ own)) where
  next_part : flat_map targets (drop i parts) ++ own ≡ targets p ++ (flat_map targets (drop (i + 1) parts) ++ own)
  next_part =
      ap (λ ps. flat_map targets ps ++ own) (drop-cons parts i p lt ∙ (ap (λ x. x ∷ drop (suc i) parts) (sym is) ∙ ap (λ n. p ∷ drop n parts) (sym (add-one i))))
      ∙ append_assoc (targets p) (flat_map targets (drop (i + 1) parts)) own

  pub part_past : found_in (targets p) ≡ None → found_in all ≡ found_in (flat_map targets (drop (i + 1) parts) ++ own)
  part_past none = so_far ∙ (ap found_in next_part ∙ found_none (targets p) (flat_map targets (drop (i + 1) parts) ++ own) none)

  pub part_here : (f : Found) → found_in (targets p) ≡ Some f → found_in all ≡ Some f
  part_here f some = so_far ∙ (ap found_in next_part ∙ found_some (targets p) (flat_map targets (drop (i + 1) parts) ++ own) f some)

-- ---- what a task answers

-- what is ensured of an answer, in another form
pub if_ok_as : {A E : Type 0} (P Q : A → Type 0) (r : Result A E) → ((x : A) → P x → Q x) → IfOk r P → IfOk r Q
if_ok_as P Q (Ok x) f h = f x h
if_ok_as P Q (Err e) f h = h

-- the same for each task with the number
pub of_number : (m : Model) (k : ℕ) (u : Task) (node : Node) (t : Task) → slice_get m.tasks k ≡ Some u → slice_get m.tasks k ≡ Some t → (r : Option Found) → r ≡ found_in (node_targets m (node, u)) → r ≡ found_in (node_targets m (node, t))
of_number m k u node t at h r e = let both : Some u ≡ Some t = sym at ∙ h in let f : u ≡ t = cc in e ∙ ap (λ x. found_in (node_targets m (node, x))) f
