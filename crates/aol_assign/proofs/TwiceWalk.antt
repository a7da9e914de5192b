-- The walk over the nodes for the first point that is written twice.
use Rattle.std.proofs.Common.{◌≡◌, ℕ, zero, suc, ◌+◌, ◌<◌, ◌≤◌, List, [], ◌∷◌, ◌++◌, length, map, flat_map, take, drop, get_or, codes, Bool, true, false, Option, Some, None, slice_get, option_map, Result, Ok, Err, sym, ◌∙◌, ap, refl, arith, ◌⊎◌, inl, inr, subst}
use Rattle.std.specs.List.{IsAmong, enumerate_from}
use Rattle.std.specs.Prelude.{OnOk, IfErr}
use Rattle.std.proofs.lemmas.List.{append-nil, map-append, take_all}
use Rattle.std.proofs.lemmas.Grind.{flat_map-append}
use Rattle.aol_shape.specs.Lists.{first_some}
use Rattle.aol_model_types.specs.declared.document.Model.{Model}
use Rattle.aol_model_types.specs.declared.task.Compound.{Compound}
use Rattle.aol_model_types.specs.declared.task.Elementary.{Elementary}
use Rattle.aol_model_types.specs.declared.task.Part.{Part}
use Rattle.aol_model_types.specs.declared.task.Repeated.{Repeated}
use Rattle.aol_model_types.specs.declared.task.Task.{Task}
use Rattle.aol_model_types.specs.declared.task.Task.TheVariants as tasks
use Rattle.aol_model_types.specs.Rules.{task_named, inputs_named}
use Rattle.aol_flat.specs.Node.{Node, ToPart, ToBody, root_or, steps_text, node_path, nodes, nodes_below, node_task}
use Rattle.aol_flat.specs.Tasks.{main_task}
use Rattle.aol_flat.specs.Numbered.{StandOnEarlier, number_named}
use Rattle.aol_flat.specs.Targets.{Target, Twice, IsSingleAssignment, target_twice, node_targets, first_repeat, Writing, reshape_target, output_target}
use Rattle.aol_flat.specs.Walked.{StandsAt, AreBelow, nodes_in}
use Rattle.aol_flat.proofs.Agree.{IsAmong-tail}
use Rattle.aol_flat.proofs.Among.{among_append, among_map, among_flat_map, map_among, get_among, among_get}
use Rattle.aol_flat.proofs.Twice.{twice_is_found}
use Rattle.aol_flat.proofs.TaskNumbers.{found, first_of_own, none_from}
use Rattle.aol_flat.proofs.Visiting.{part_step, body_step, no_nodes, nodes_under, numbered_more, numbered_rest}
use Rattle.aol_assign.specs.declared.refused.AssignRefused.{AssignRefused}
use Rattle.aol_assign.specs.declared.refused.AssignRefused.TheVariants as refused
use Rattle.aol_assign.specs.declared.targets.Found.{Found}
use Rattle.aol_assign.specs.Found.{found_of, found_in}
use Rattle.aol_assign.specs.Answers.{IsTwiceTold}
use Rattle.aol_assign.specs.Visits.{IsRefusal, twice_at, AreTested, TellsTwice, EndsSo, GoesOver, TestsNode, GoesBelow, GoesDown, GoesOverParts}

-- what a walk answers
abbrev pub Answer : Type 0
Answer = Result (Unit {0}) AssignRefused

-- ---- the first of several

first_none : {X : Type 0} (os ps : List (Option X)) → first_some os ≡ None → first_some (os ++ ps) ≡ first_some ps
first_none [] ps h = refl
first_none (None ∷ os) ps h = first_none os ps h
first_none (Some x ∷ os) ps h = cc

first_is : {X : Type 0} (os ps : List (Option X)) (x : X) → first_some os ≡ Some x → first_some (os ++ ps) ≡ Some x
first_is [] ps x h = cc
first_is (None ∷ os) ps x h = first_is os ps x h
first_is (Some y ∷ os) ps x h = h

-- the target of what is found is one of them
found_target : (ts : List Target) (w : Twice) → first_some (map target_twice ts) ≡ Some w → IsAmong ts w.target
found_target [] w h = cc
found_target (t ∷ ts) w h = go (first_repeat [] t.writings) h (found_target ts w)
  where
    go : (o : Option (Writing × Writing)) → first_some (option_map {U = Twice} (λ (p : Writing × Writing). record { target = t; first = p.0.0; second = p.1.0; point = p.1.1 }) o ∷ map target_twice ts) ≡ Some w
        → (first_some (map target_twice ts) ≡ Some w → IsAmong ts w.target) → IsAmong (t ∷ ts) w.target
    go None k later = IsAmong-tail t ts w.target (later k)
    go (Some p) k later =
        let f : ◌≡◌ {A = Twice} (record { target = t; first = p.0.0; second = p.1.0; point = p.1.1 }) w = cc in
        (0, (omega arith, ap (λ (x : Twice). x.target) (sym f)))

module _ (m : Model) where
  split_at : (a b : List (Node × Task)) → twice_at m (a ++ b) ≡ first_some (map target_twice (flat_map (node_targets m) a) ++ map target_twice (flat_map (node_targets m) b))
  split_at a b =
      ap (λ ts. first_some (map target_twice ts)) (flat_map-append (node_targets m) a b)
      ∙ ap first_some (map-append target_twice (flat_map (node_targets m) a) (flat_map (node_targets m) b))

  -- ---- one after the other

  further : (a b : List (Node × Task)) (e : AssignRefused) → (e ≡ refused.NoMemory) ⊎ TellsTwice m a e → (e ≡ refused.NoMemory) ⊎ TellsTwice m (a ++ b) e
  further a b e (inl h) = inl h
  further a b e (inr t) =
      inr (record { twice = t.twice; first = split_at a b ∙ first_is (map target_twice (flat_map (node_targets m) a)) (map target_twice (flat_map (node_targets m) b)) t.twice t.first; told = t.told })

  after : (a b : List (Node × Task)) (s : List Bool) (r : Answer) → twice_at m a ≡ None → EndsSo m b s r → EndsSo m (a ++ b) s r
  after a b s (Ok done) none ends = (split_at a b ∙ (first_none (map target_twice (flat_map (node_targets m) a)) (map target_twice (flat_map (node_targets m) b)) none ∙ ends.0), ends.1)
  after a b s (Err e) none (inl h) = inl h
  after a b s (Err e) none (inr t) =
      inr (record { twice = t.twice; first = split_at a b ∙ (first_none (map target_twice (flat_map (node_targets m) a)) (map target_twice (flat_map (node_targets m) b)) none ∙ t.first); told = t.told })

  pub goes_on : (a b : List (Node × Task)) (s0 s1 s2 : List Bool) (r1 r2 : Answer) (done : Unit {0}) → GoesOver m a s0 s1 r1 → r1 ≡ Ok done → GoesOver m b s1 s2 r2 → GoesOver m (a ++ b) s0 s2 r2
  goes_on a b s0 s1 s2 r1 r2 done first was second tested =
      let P : Answer → Type 0 = λ r. EndsSo m a s1 r in
      let mid = subst P was (first tested) in
      after a b s2 r2 mid.0 (second mid.1)

  pub stops : (a b : List (Node × Task)) (s0 s1 s2 : List Bool) (r : Answer) (e : AssignRefused) → GoesOver m a s0 s1 r → r ≡ Err e → GoesOver m (a ++ b) s0 s2 (Err e)
  stops a b s0 s1 s2 r e first was tested =
      let P : Answer → Type 0 = λ r. EndsSo m a s1 r in
      further a b e (subst P was (first tested))

  pub stays : (s : List Bool) (done : Unit {0}) → GoesOver m [] s s (Ok done)
  stays s done tested = (refl, tested)

  -- ---- a node

  own_node : (node : Node) (t : Task) (x : Target) → IsAmong (node_targets m (node, t)) x → x.node ≡ node
  own_node node (tasks.Elementary e) x a = absurd (omega (arith, a.1.0))
  own_node node (tasks.Repeated t) x a = let y = among_map (output_target m node t) t.outs x a in ap (λ (z : Target). z.node) y.2
  own_node node (tasks.Compound c) x a =
      let f : Part → List Target = λ p. map (reshape_target node c (Some p.name)) (inputs_named m.tasks p.task) in
      elim (among_append (flat_map f c.parts) (map (reshape_target node c None) c.outs) x a) [
        | inl b ↦
            let p = among_flat_map f c.parts x b in
            let u = among_map (reshape_target node c (Some p.0.name)) (inputs_named m.tasks p.0.task) x p.2 in
            ap (λ (z : Target). z.node) u.2
        | inr b ↦ let u = among_map (reshape_target node c None) c.outs x b in ap (λ (z : Target). z.node) u.2
      ]

  one_node : (node : Node) (t : Task) → twice_at m ((node, t) ∷ []) ≡ first_some (map target_twice (node_targets m (node, t)))
  one_node node t = ap (λ ts. first_some (map target_twice ts)) (append-nil (node_targets m (node, t)))

  pub once_there : (node : Node) (t : Task) → found_in (node_targets m (node, t)) ≡ None → twice_at m ((node, t) ∷ []) ≡ None
  once_there node t h = one_node node t ∙ not_found (first_some (map target_twice (node_targets m (node, t)))) h
    where
      not_found : (o : Option Twice) → option_map found_of o ≡ None → o ≡ None
      not_found None k = refl
      not_found (Some w) k = cc

  pub told_there : (node : Node) (t : Task) (steps : List ℕ) (f : Found) (e : AssignRefused) → steps ≡ steps_text m node → Some f ≡ found_in (node_targets m (node, t)) → IsRefusal (root_or steps) f e → TellsTwice m ((node, t) ∷ []) e
  told_there node t steps f e at found told = go (first_some (map target_twice (node_targets m (node, t)))) refl found
    where
      go : (o : Option Twice) → first_some (map target_twice (node_targets m (node, t))) ≡ o → Some f ≡ option_map found_of o → TellsTwice m ((node, t) ∷ []) e
      go None h k = cc
      go (Some w) h k =
          let is : f ≡ found_of w = cc in
          let here : w.target.node ≡ node = own_node node t w.target (found_target (node_targets m (node, t)) w h) in
          record {
            twice = w;
            first = one_node node t ∙ h;
            told =
                told
                ∙ (ap (λ (g : Found). refused.Twice (root_or steps) g.part g.port g.repeat.point g.repeat.first g.repeat.second) is
                ∙ ap (λ path. refused.Twice path w.target.part w.target.port w.point w.first w.second) (ap root_or at ∙ ap (node_path m) (sym here)));
          }

nodes_split : (fuel : ℕ) (m : Model) (t : Task) (node : Node) → nodes_below (suc fuel) m (Some t) node ≡ (node, t) ∷ nodes_under fuel m t node
nodes_split fuel m (tasks.Elementary e) node = refl
nodes_split fuel m (tasks.Compound c) node = refl
nodes_split fuel m (tasks.Repeated r) node = refl

-- the walk goes over what is below a node with this task
abbrev pub GoesUnder : Model → ℕ → Task → List ℕ → List Bool → List Bool → Answer → Type 0
GoesUnder m number t steps s0 s1 answer = (node : Node) (fuel : ℕ) → steps ≡ steps_text m node → StandsAt m node number t → number ≤ fuel → GoesOver m (nodes_under fuel m t node) s0 s1 answer

module _ (m : Model) (number : ℕ) (steps : List ℕ) where
  -- the walk stops at the node
  pub first_stops : (s0 s1 s2 : List Bool) (r : Answer) (e : AssignRefused) → TestsNode m number steps s0 s1 r → r ≡ Err e → GoesBelow m number steps s0 s2 (Err e)
  first_stops s0 s1 s2 r e tests was node t zero at stands low = absurd (omega (arith, low))
  first_stops s0 s1 s2 r e tests was node t (suc fuel) at stands low =
      let Q : List (Node × Task) → Type 0 = λ ns. GoesOver m ns s0 s2 (Err e) in
      subst Q (sym (nodes_split fuel m t node)) (stops m ((node, t) ∷ []) (nodes_under fuel m t node) s0 s1 s2 r e (tests node t at stands.listed) was)

  -- the node, and then what is below it
  pub node_first : (task : Task) (s0 s1 s2 : List Bool) (r1 r2 : Answer) (done : Unit {0}) → slice_get m.tasks number ≡ Some task → TestsNode m number steps s0 s1 r1 → r1 ≡ Ok done
      → GoesUnder m number task steps s1 s2 r2 → GoesBelow m number steps s0 s2 r2
  node_first task s0 s1 s2 r1 r2 done listed tests was under node t zero at stands low = absurd (omega (arith, low))
  node_first task s0 s1 s2 r1 r2 done listed tests was under node t (suc fuel) at stands low =
      let both : Some task ≡ Some t = sym listed ∙ stands.listed in
      let one : task ≡ t = cc in
      let P : Task → Type 0 = λ u. GoesUnder m number u steps s1 s2 r2 in
      let Q : List (Node × Task) → Type 0 = λ ns. GoesOver m ns s0 s2 r2 in
      subst Q (sym (nodes_split fuel m t node))
      (goes_on m ((node, t) ∷ []) (nodes_under fuel m t node) s0 s1 s2 r1 r2 done (tests node t at stands.listed) was (subst P one under node fuel at stands (omega (arith, low))))

  -- below an elementary task there is nothing
  pub under_elementary : (e : Elementary) (s : List Bool) (done : Unit {0}) → GoesUnder m number (tasks.Elementary e) steps s s (Ok done)
  under_elementary e s done node fuel at stands low = stays m s done

  -- below a compound task there are its parts
  pub under_compound : (c : Compound) (s0 s1 : List Bool) (r : Answer) → StandOnEarlier m.tasks → GoesOverParts m c steps s0 s1 r → GoesUnder m number (tasks.Compound c) steps s0 s1 r
  under_compound c s0 s1 r earlier parts node fuel at stands low =
      parts node fuel at stands.at_node
      (λ k j p listed named.
      let among : IsAmong (map (λ (q : Part). q.task) c.parts) p.task = map_among (λ (q : Part). q.task) c.parts p (get_among c.parts k p listed) in
      omega (arith, earlier number j (tasks.Compound c) p.task stands.listed among named, low))

  -- below a repeated task there is its body
  pub under_repeated : (t : Repeated) (s0 s1 : List Bool) (r : Answer) → StandOnEarlier m.tasks → GoesDown m t.task (codes "*") steps s0 s1 r → GoesUnder m number (tasks.Repeated t) steps s0 s1 r
  under_repeated t s0 s1 r earlier down node fuel at stands low =
      down node (ToBody t.space) t.space fuel at (body_step m node t stands.at_node)
      (λ j named. omega (arith, earlier number j (tasks.Repeated t) t.task stands.listed (0, (omega arith, refl)) named, low))

-- ---- a step down

module _ (m : Model) (name text steps : List ℕ) where
  -- a name without a task leads nowhere
  pub nowhere : (s : List Bool) (done : Unit {0}) → number_named m.tasks name ≡ None → GoesDown m name text steps s s (Ok done)
  nowhere s done none node branch space fuel at step low =
      let missing : task_named m.tasks name ≡ None = none_from 0 m.tasks name none in
      let P : List (Node × Task) → Type 0 = λ ns. GoesOver m ns s s (Ok done) in
      subst P (sym (ap (λ t. nodes_below fuel m t (branch ∷ node)) missing ∙ no_nodes m fuel (branch ∷ node))) (stays m s done)

  -- a name with one leads to its node
  pub leads : (below : List ℕ) (s0 s1 : List Bool) (number : ℕ) (answer : Answer) → number_named m.tasks name ≡ Some number → below ≡ steps ++ codes "/" ++ text → GoesBelow m number below s0 s1 answer
      → GoesDown m name text steps s0 s1 answer
  leads below s0 s1 number answer named longer goes node branch space fuel at step low =
      let f = found m.tasks name number named in
      let stands : StandsAt m (branch ∷ node) number f.task = record { at_node = step.task ∙ f.is; listed = f.at; first = first_of_own m.tasks name number named } in
      let path : below ≡ steps_text m (branch ∷ node) =
      longer ∙ (ap (λ p. p ++ codes "/" ++ text) at ∙ ap (λ t. steps_text m node ++ codes "/" ++ t) (sym step.text_is)) in
      let P : Option Task → Type 0 = λ t. GoesOver m (nodes_below fuel m t (branch ∷ node)) s0 s1 answer in
      subst P (sym f.is) (goes (branch ∷ node) f.task fuel path stands (low number named))

-- ---- the parts of a compound task

module _ (m : Model) (c : Compound) (steps : List ℕ) where
  -- so far
  abbrev pub GoesOverFront : ℕ → List Bool → List Bool → Answer → Type 0
  GoesOverFront i s0 s1 answer =
      (node : Node) (fuel : ℕ) → steps ≡ steps_text m node → node_task m node ≡ Some (tasks.Compound c) → AreBelow m fuel c.parts
      → GoesOver m (nodes_in fuel m node (enumerate_from 0 (take i c.parts))) s0 s1 answer

  pub front_more : (i : ℕ) (p : Part) (s0 s1 s2 : List Bool) (r1 r2 : Answer) (done : Unit {0}) → i < length c.parts → p ≡ get_or c.parts i p
      → GoesOverFront i s0 s1 r1 → r1 ≡ Ok done → GoesDown m p.task p.name steps s1 s2 r2 → GoesOverFront (i + 1) s0 s2 r2
  front_more i p s0 s1 s2 r1 r2 done lt is front was down node fuel at stands low =
      let f : ℕ × Part → List (Node × Task) = λ q. nodes_below fuel m (task_named m.tasks q.1.task) (ToPart q.0 ∷ node) in
      let listed = among_get c.parts i p lt is in
      let P : List (Node × Task) → Type 0 = λ ns. GoesOver m ns s0 s2 r2 in
      subst P (sym (numbered_more f c.parts i p lt is))
      (goes_on m (nodes_in fuel m node (enumerate_from 0 (take i c.parts))) (f (i, p)) s0 s1 s2 r1 r2 done
      (front node fuel at stands low) was (down node (ToPart i) [] fuel at (part_step m node c i p stands listed) (λ j h. low i j p listed h)))

  pub front_all : (i : ℕ) (s0 s1 : List Bool) (r : Answer) → length c.parts ≤ i → GoesOverFront i s0 s1 r → GoesOverParts m c steps s0 s1 r
  front_all i s0 s1 r long front =
      let P : List Part → Type 0 = λ parts.
      (node : Node) (fuel : ℕ) → steps ≡ steps_text m node → node_task m node ≡ Some (tasks.Compound c) → AreBelow m fuel c.parts
      → GoesOver m (nodes_in fuel m node (enumerate_from 0 parts)) s0 s1 r in
      subst P (take_all i c.parts long) front

  pub front_stops : (i : ℕ) (s0 s1 s2 : List Bool) (r : Answer) (e : AssignRefused) → GoesOverFront i s0 s1 r → r ≡ Err e → GoesOverParts m c steps s0 s2 (Err e)
  front_stops i s0 s1 s2 r e front was node fuel at stands low =
      let f : ℕ × Part → List (Node × Task) = λ q. nodes_below fuel m (task_named m.tasks q.1.task) (ToPart q.0 ∷ node) in
      let rest : List (ℕ × Part) = enumerate_from (0 + length (take i c.parts)) (drop i c.parts) in
      let P : List (Node × Task) → Type 0 = λ ns. GoesOver m ns s0 s2 (Err e) in
      subst P (sym (numbered_rest f c.parts i))
      (stops m (nodes_in fuel m node (enumerate_from 0 (take i c.parts))) (nodes_in fuel m node rest) s0 s1 s2 r e (front node fuel at stands low) was)

-- ---- the whole model

module _ (m : Model) where
  -- no task is tested at first
  none_tested : (s : List Bool) → ((k : ℕ) → get_or s k false ≡ false) → AreTested m s
  none_tested s none k t node marked listed = let no : false ≡ true = sym (none k) ∙ marked in cc

  all_nodes : (number : ℕ) (old s : List Bool) (r : Answer) → ((k : ℕ) → get_or old k false ≡ false) → number_named m.tasks m.main ≡ Some number → GoesBelow m number [] old s r → EndsSo m (nodes m) s r
  all_nodes number old s r none named goes =
      let f = found m.tasks m.main number named in
      let stands : StandsAt m [] number f.task = record { at_node = f.is; listed = f.at; first = first_of_own m.tasks m.main number named } in
      let P : Option Task → Type 0 = λ t. EndsSo m (nodes_below (length m.tasks) m t []) s r in
      subst P (sym f.is) (goes [] f.task (length m.tasks) refl stands f.within (none_tested old none))

  pub single_at_end : (number : ℕ) (old s : List Bool) (r : Answer) → ((k : ℕ) → get_or old k false ≡ false) → number_named m.tasks m.main ≡ Some number → GoesBelow m number [] old s r → OnOk r (IsSingleAssignment m)
  single_at_end number old s (Ok done) none named goes = (twice_is_found m).0 (all_nodes number old s (Ok done) none named goes).0
  single_at_end number old s (Err e) none named goes = tt

  pub told_at_end : (number : ℕ) (old s : List Bool) (r : Answer) → ((k : ℕ) → get_or old k false ≡ false) → number_named m.tasks m.main ≡ Some number → GoesBelow m number [] old s r → IfErr r (IsTwiceTold m)
  told_at_end number old s (Ok done) none named goes = tt
  told_at_end number old s (Err e) none named goes = go (all_nodes number old s (Err e) none named goes)
    where
      go : (e ≡ refused.NoMemory) ⊎ TellsTwice m (nodes m) e → IsTwiceTold m e
      go (inl h) = subst (IsTwiceTold m) (sym h) tt
      go (inr t) =
          let w = t.twice in
          subst (IsTwiceTold m) (sym t.told)
          (record { twice = w; is_first = t.first; same_path = refl; same_part = refl; same_port = refl; same_point = refl; same_first = refl; same_second = refl })

  -- a model without a main task has no nodes
  pub no_main : number_named m.tasks m.main ≡ None → IsSingleAssignment m
  no_main none =
      let missing : main_task m ≡ None = none_from 0 m.tasks m.main none in
      let empty : nodes m ≡ [] = ap (λ t. nodes_below (length m.tasks) m t []) missing ∙ no_nodes m (length m.tasks) [] in
      (twice_is_found m).0 (ap (twice_at m) empty)
