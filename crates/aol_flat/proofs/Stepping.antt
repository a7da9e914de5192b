-- The nodes at and below each task are counted, and so are those that come before each part.
use Rattle.std.proofs.Common.{◌≡◌, ℕ, zero, suc, ◌+◌, ◌<◌, ◌≤◌, List, [], ◌∷◌, ◌++◌, length, take, get_or, Some, None, slice_get, Result, Ok, Err, IfOk, sym, ◌∙◌, ap, refl, arith, subst, ◌⊎◌, inl, inr}
use Rattle.std.specs.List.{enumerate_from}
use Rattle.std.proofs.lemmas.List.{length-append, take_all}
use Rattle.aol_shape.specs.declared.memory.NoMemory.{NoMemory}
use Rattle.aol_model_types.specs.declared.document.Model.{Model}
use Rattle.aol_model_types.specs.declared.task.Compound.{Compound}
use Rattle.aol_model_types.specs.declared.task.Part.{Part}
use Rattle.aol_model_types.specs.declared.task.Repeated.{Repeated}
use Rattle.aol_model_types.specs.declared.task.Task.{Task}
use Rattle.aol_model_types.specs.declared.task.Task.TheVariants as tasks
use Rattle.aol_model_types.specs.Rules.{task_named}
use Rattle.aol_flat.specs.Below.{AreCounts, IsCountNamed, step_to, IsStepAt, AreStepsIn, IsSteppedUnder, AreStepsUnder, AreStepsBefore, AreSteps}
use Rattle.aol_flat.specs.declared.below.Steps.{Steps}
use Rattle.aol_flat.specs.Leaves.{narrowed}
use Rattle.aol_flat.specs.Node.{Node, ToPart, ToBody, nodes_below}
use Rattle.aol_flat.specs.Numbered.{StandOnEarlier, number_named}
use Rattle.aol_flat.specs.Walked.{AreBelow, nodes_in}
use Rattle.aol_flat.proofs.Among.{map_among, get_among}
use Rattle.aol_flat.proofs.TaskNumbers.{found, none_from}
use Rattle.aol_flat.proofs.Visiting.{numbered_more, no_nodes}

-- ---- one more at the end

pub push_cases : {X : Type 0} (xs : List X) (y d : X) (k : ℕ) → k < length xs + 1
    → ((k < length xs) × (get_or (xs ++ y ∷ []) k d ≡ get_or xs k d)) ⊎ ((k ≡ length xs) × (get_or (xs ++ y ∷ []) k d ≡ y))
push_cases [] y d zero h = inr (refl, refl)
push_cases [] y d (suc k) h = absurd (omega (arith, h))
push_cases (x ∷ xs) y d zero h = inl (omega arith, refl)
push_cases (x ∷ xs) y d (suc k) h = go (push_cases xs y d k (omega (arith, h)))
  where
    go : ((k < length xs) × (get_or (xs ++ y ∷ []) k d ≡ get_or xs k d)) ⊎ ((k ≡ length xs) × (get_or (xs ++ y ∷ []) k d ≡ y))
        → ((suc k < length (x ∷ xs)) × (get_or ((x ∷ xs) ++ y ∷ []) (suc k) d ≡ get_or (x ∷ xs) (suc k) d)) ⊎ ((suc k ≡ length (x ∷ xs)) × (get_or ((x ∷ xs) ++ y ∷ []) (suc k) d ≡ y))
    go (inl l) = inl (omega (arith, l.0), l.1)
    go (inr r) = inr (ap suc r.0, r.1)

-- ---- one name

-- a name without a task has no nodes
pub count_none : (m : Model) (name counts : List ℕ) → number_named m.tasks name ≡ None → IsCountNamed m name counts 0
count_none m name counts none fuel node are able =
    let missing : task_named m.tasks name ≡ None = none_from 0 m.tasks name none in
    let nothing : nodes_below fuel m (task_named m.tasks name) node ≡ [] = ap (λ t. nodes_below fuel m t node) missing ∙ no_nodes m fuel node in
    sym (ap (λ ns. narrowed (length ns)) nothing)

-- one with a task has those of the task
pub count_found : (m : Model) (name counts : List ℕ) (j count : ℕ) → number_named m.tasks name ≡ Some j → count ≡ get_or counts j 0 → IsCountNamed m name counts count
count_found m name counts j count named is fuel node are able =
    let f = found m.tasks name j named in
    let low = able j named in
    is ∙ (are j fuel node f.task low.1 f.at low.0 ∙ ap (λ t. narrowed (length (nodes_below fuel m t node))) (sym f.is))

-- ---- the parts of a compound task

module _ (m : Model) (parts : List Part) (counts : List ℕ) where
  -- so far
  pub record AreStepsFront (i : ℕ) (own : List ℕ) (count : ℕ) : Type 0 where
    pub many : length own ≡ i
    pub stepped : (fuel : ℕ) (node : Node) → AreCounts m counts → AreBelow m fuel parts → AreBelow m (length counts) parts
        → ((k : ℕ) → k < i → get_or own k 0 ≡ step_to fuel m node parts k) × (count ≡ step_to fuel m node parts i)

  pub steps_none : (own : List ℕ) (count : ℕ) → own ≡ [] → count ≡ 1 → AreStepsFront 0 own count
  steps_none own count none one = record { many = ap length none; stepped = λ fuel node are below low. (λ k h. absurd (omega (arith, h)), one) }

  pub steps_more : (i : ℕ) (p : Part) (own new : List ℕ) (count more count' : ℕ) → i < length parts → p ≡ get_or parts i p → slice_get parts i ≡ Some p → AreStepsFront i own count
      → new ≡ own ++ count ∷ [] → IsCountNamed m p.task counts more → count' ≡ narrowed (count + more) → AreStepsFront (i + 1) new count'
  steps_more i p own new count more count' lt is listed front pushed named counted = record {
    many = ap length pushed ∙ (length-append own (count ∷ []) ∙ ap (λ n. n + 1) front.many);
    stepped = λ fuel node are below low.
        let f : ℕ × Part → List (Node × Task) = λ q. nodes_below fuel m (task_named m.tasks q.1.task) (ToPart q.0 ∷ node) in
        let so_far = front.stepped fuel node are below low in
        let here = named fuel (ToPart i ∷ node) are (λ j h. (below i j p listed h, low i j p listed h)) in
        let longer : length (nodes_in fuel m node (enumerate_from 0 (take (i + 1) parts))) ≡ length (nodes_in fuel m node (enumerate_from 0 (take i parts))) + length (f (i, p)) =
        ap length (numbered_more f parts i p lt is) ∙ length-append (nodes_in fuel m node (enumerate_from 0 (take i parts))) (f (i, p)) in
        (λ k h. each own count k fuel node front.many pushed so_far.0 so_far.1 h, counted ∙ omega (arith, longer, here, so_far.1));
  }
    where
      each : (own : List ℕ) (count k fuel : ℕ) (node : Node) → length own ≡ i → new ≡ own ++ count ∷ [] → ((k : ℕ) → k < i → get_or own k 0 ≡ step_to fuel m node parts k)
          → count ≡ step_to fuel m node parts i → k < i + 1 → get_or new k 0 ≡ step_to fuel m node parts k
      each own count k fuel node many pushed before last h = go (push_cases own count 0 k (omega (arith, h, many)))
        where
          go : ((k < length own) × (get_or (own ++ count ∷ []) k 0 ≡ get_or own k 0)) ⊎ ((k ≡ length own) × (get_or (own ++ count ∷ []) k 0 ≡ count)) → get_or new k 0 ≡ step_to fuel m node parts k
          go (inl l) = ap (λ xs. get_or xs k 0) pushed ∙ (l.1 ∙ before k (omega (arith, l.0, many)))
          go (inr r) = ap (λ xs. get_or xs k 0) pushed ∙ (r.1 ∙ (last ∙ ap (step_to fuel m node parts) (sym (r.0 ∙ many))))

  pub steps_all : (i : ℕ) (own : List ℕ) (count : ℕ) → length parts ≤ i → i ≤ length parts → AreStepsFront i own count → AreStepsIn m parts counts own count
  steps_all i own count long short front fuel node are below low =
      let s = front.stepped fuel node are below low in
      let whole : take i parts ≡ parts = take_all i parts long in
      record { each = λ k h. (omega (arith, front.many, long, short, h), s.0 k (omega (arith, h, long))); all = s.1 ∙ ap (λ ps. narrowed (1 + length (nodes_in fuel m node (enumerate_from 0 ps)))) whole }

-- ---- a task

module _ (m : Model) (counts : List ℕ) where
  pub under_elementary : (e : _) (own : List ℕ) (count : ℕ) → own ≡ [] → count ≡ 1 → AreStepsUnder m (tasks.Elementary e) counts own count
  under_elementary e own count none one fuel node are able = record { each = λ c k h l. cc; all = one }

  pub under_compound : (c : Compound) (own : List ℕ) (count : ℕ) → AreStepsIn m c.parts counts own count → AreStepsUnder m (tasks.Compound c) counts own count
  under_compound c own count steps fuel node are able =
      let below : AreBelow m fuel c.parts = λ k j p at named. (able p.task (map_among (λ (q : Part). q.task) c.parts p (get_among c.parts k p at)) j named).0 in
      let low : AreBelow m (length counts) c.parts = λ k j p at named. (able p.task (map_among (λ (q : Part). q.task) c.parts p (get_among c.parts k p at)) j named).1 in
      let s = steps fuel node are below low in
      record {
        each = λ d k h l.
            let parts_are : c.parts ≡ d.parts = cc in
            let P : List Part → Type 0 = λ ps. (k : ℕ) → k < length ps → IsStepAt own k (step_to fuel m node ps k) in
            subst P parts_are s.each k l;
        all = s.all ∙ omega arith;
      }

  pub under_repeated : (r : Repeated) (own : List ℕ) (first more count : ℕ) → first ≡ 1 → IsCountNamed m r.task counts more → count ≡ narrowed (first + more)
      → AreStepsUnder m (tasks.Repeated r) counts own count
  under_repeated r own first more count one named is fuel node are able =
      let here = named fuel (ToBody r.space ∷ node) are (able r.task (zero, (omega arith, refl))) in
      record { each = λ c k h l. cc; all = is ∙ omega (arith, one, here) }

-- where they are there
pub under_compound_of : (m : Model) (counts : List ℕ) (t : Task) (c : Compound) (parts : List Part) (r : Result Steps NoMemory) → t ≡ tasks.Compound c → parts ≡ c.parts
    → IfOk r (λ s. AreStepsIn m parts counts s.own s.count) → IfOk r (λ s. AreStepsUnder m t counts s.own s.count)
under_compound_of m counts t c parts (Err e) is are steps = tt
under_compound_of m counts t c parts (Ok s) is are steps =
    let P : List Part → Type 0 = λ ps. AreStepsIn m ps counts s.own s.count in
    let Q : Task → Type 0 = λ u. AreStepsUnder m u counts s.own s.count in
    subst Q (sym is) (under_compound m counts c s.own s.count (subst P are steps))

-- ---- all tasks

-- so far
pub record AreStepped (m : Model) (i : ℕ) (counts : List ℕ) (steps : List (List ℕ)) : Type 0 where
  pub many_counts : length counts ≡ i
  pub many_steps : length steps ≡ i
  pub counted : AreCounts m counts
  pub stepped : AreStepsBefore m i steps

pub stepped_none : (m : Model) (counts : List ℕ) (steps : List (List ℕ)) → counts ≡ [] → steps ≡ [] → AreStepped m 0 counts steps
stepped_none m counts steps none nothing = record {
  many_counts = ap length none;
  many_steps = ap length nothing;
  counted = λ i fuel node t h. absurd (omega (arith, h, ap length none));
  stepped = λ i fuel k node c h. absurd (omega (arith, h));
}

module _ (m : Model) (earlier : StandOnEarlier m.tasks) (i : ℕ) (t : Task) (listed : slice_get m.tasks i ≡ Some t) (counts : List ℕ) (steps : List (List ℕ)) (own : List ℕ) (count : ℕ)
    (so_far : AreStepped m i counts steps) (under : AreStepsUnder m t counts own count) where
  here : (fuel : ℕ) (node : Node) → i ≤ fuel → IsSteppedUnder fuel m node t own count
  here fuel node low = under fuel node so_far.counted (λ name among j named. let less = earlier i j t name listed among named in (omega (arith, less, low), omega (arith, less, so_far.many_counts)))

  same_task : (u : Task) (k : ℕ) → slice_get m.tasks k ≡ Some u → k ≡ i → u ≡ t
  same_task u k at is = let both : Some u ≡ Some t = sym at ∙ (ap (slice_get m.tasks) is ∙ listed) in cc

  counts_grow : AreCounts m (counts ++ count ∷ [])
  counts_grow k zero node u h at low = absurd (omega (arith, low))
  counts_grow k (suc fuel) node u h at low = go (push_cases counts count 0 k (omega (arith, h, length-append counts (count ∷ []))))
    where
      go : ((k < length counts) × (get_or (counts ++ count ∷ []) k 0 ≡ get_or counts k 0)) ⊎ ((k ≡ length counts) × (get_or (counts ++ count ∷ []) k 0 ≡ count))
          → get_or (counts ++ count ∷ []) k 0 ≡ narrowed (length (nodes_below (suc fuel) m (Some u) node))
      go (inl l) = l.1 ∙ so_far.counted k (suc fuel) node u l.0 at low
      go (inr r) =
          let is : k ≡ i = r.0 ∙ so_far.many_counts in
          r.1 ∙ ((here fuel node (omega (arith, low, is))).all ∙ ap (λ v. narrowed (length (nodes_below (suc fuel) m (Some v) node))) (sym (same_task u k at is)))

  steps_grow : AreStepsBefore m (i + 1) (steps ++ own ∷ [])
  steps_grow k fuel j node c h at low within = go (push_cases steps own [] k (omega (arith, h, so_far.many_steps)))
    where
      go : ((k < length steps) × (get_or (steps ++ own ∷ []) k [] ≡ get_or steps k [])) ⊎ ((k ≡ length steps) × (get_or (steps ++ own ∷ []) k [] ≡ own))
          → IsStepAt (get_or (steps ++ own ∷ []) k []) j (step_to fuel m node c.parts j)
      go (inl l) = subst (λ xs. IsStepAt xs j (step_to fuel m node c.parts j)) (sym l.1) (so_far.stepped k fuel j node c (omega (arith, l.0, so_far.many_steps)) at low within)
      go (inr r) =
          let is : k ≡ i = r.0 ∙ so_far.many_steps in
          subst (λ xs. IsStepAt xs j (step_to fuel m node c.parts j)) (sym r.1) ((here fuel node (omega (arith, low, is))).each c j (sym (same_task (tasks.Compound c) k at is)) within)

  pub stepped_more : AreStepped m (i + 1) (counts ++ count ∷ []) (steps ++ own ∷ [])
  stepped_more = record {
    many_counts = length-append counts (count ∷ []) ∙ ap (λ n. n + 1) so_far.many_counts;
    many_steps = length-append steps (own ∷ []) ∙ ap (λ n. n + 1) so_far.many_steps;
    counted = counts_grow;
    stepped = steps_grow;
  }

pub stepped_all : (m : Model) (i : ℕ) (counts : List ℕ) (steps : List (List ℕ)) → i ≡ length m.tasks → AreStepped m i counts steps → AreSteps m steps
stepped_all m i counts steps all so_far = subst (λ n. (length steps ≡ n) × AreStepsBefore m n steps) all (so_far.many_steps, so_far.stepped)
