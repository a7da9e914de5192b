-- The tilers of all ways of a repetition of repetitions meet.
use Rattle.std.proofs.Common.{◌≡◌, ℕ, true, List, [], ◌++◌, Option, Some, sym, ◌∙◌, ap, subst}
use Rattle.std.specs.List.{IsAmong, AllByRecursion}
use Rattle.aol_model_types.specs.declared.document.Model.{Model}
use Rattle.aol_model_types.specs.declared.task.Repeated.{Repeated}
use Rattle.aol_model_types.specs.declared.task.Task.{Task}
use Rattle.aol_model_types.specs.declared.task.Task.TheVariants as tasks
use Rattle.aol_model_types.specs.Rules.{task_named}
use Rattle.aol_flat.specs.Accept.{IsSound}
use Rattle.aol_flat.proofs.Checked.{task_of}
use Rattle.aol_change.specs.Blocks.{inputs_in, outputs_in}
use Rattle.aol_change.specs.Change.{have_rank}
use Rattle.aol_paving.specs.declared.crossing.Crossing.{Crossing}
use Rattle.aol_paving.specs.Crossings.{crossings, input_crossings, output_crossings}
use Rattle.aol_paving.specs.Paving.{Meet}
use Rattle.aol_paving.proofs.Both.{all, fit, in_all, out_all}
use Rattle.aol_paving.proofs.CrossedTilers.{meet}
use Rattle.aol_paving.proofs.Members.{all_among}
use Rattle.aol_paving.proofs.Sound.{ranks}
use Rattle.aol_paving.proofs.Stack.{IsStack, stack}

module _ (m : Model) (t u : Repeated) (outer block : List ℕ) (sound : IsSound m) (found : task_named m.tasks t.name ≡ Some (tasks.Repeated t)) (below : task_named m.tasks t.task ≡ Some (tasks.Repeated u)) (plain : t.links ≡ [])
    (inner_plain : u.links ≡ []) (rank : have_rank t outer block ≡ true) where
  one_meets : (before : List Task) (s : IsStack m before t u) (c : Crossing) → IsAmong (all before t u s.top s.low s.once s.apart) c → Meet u.space block c
  one_meets before s c a = let f = fit before t u s.top s.low s.once s.apart c a in meet c f.array t.space f.between u.space block f.outer_fit f.inner_fit (ranks t outer block rank).1

  pub inputs_meet : AllByRecursion (Meet u.space block) (input_crossings m t u)
  inputs_meet =
      let r = task_of m (tasks.Repeated t) t.name sound.shapes found in
      let s = stack m r.before r.rest r.place t u sound.shapes r.split r.holds below plain inner_plain in
      subst (λ o. AllByRecursion (Meet u.space block) (crossings t u (inputs_in o))) (s.innermost ∙ sym s.innermost_in)
      (all_among (Meet u.space block) (crossings t u (inputs_in (task_named r.before u.task))) (λ c a. one_meets r.before s c (in_all r.before t u s.top s.low s.once s.apart c a)))

  pub outputs_meet : AllByRecursion (Meet u.space block) (output_crossings m t u)
  outputs_meet =
      let r = task_of m (tasks.Repeated t) t.name sound.shapes found in
      let s = stack m r.before r.rest r.place t u sound.shapes r.split r.holds below plain inner_plain in
      subst (λ o. AllByRecursion (Meet u.space block) (crossings t u (outputs_in o))) (s.innermost ∙ sym s.innermost_in)
      (all_among (Meet u.space block) (crossings t u (outputs_in (task_named r.before u.task))) (λ c a. one_meets r.before s c (out_all r.before t u s.top s.low s.once s.apart c a)))

  -- the same of lists that are made of these
  pub meet_ins : (o : Option Task) (cs old new : List Crossing) → o ≡ task_named m.tasks u.task → cs ≡ new → new ≡ old ++ crossings t u (inputs_in o) → old ≡ [] → AllByRecursion (Meet u.space block) cs
  meet_ins o cs old new is listed made none =
      subst (AllByRecursion (Meet u.space block)) (sym (listed ∙ (made ∙ (ap (λ z. z ++ crossings t u (inputs_in o)) none ∙ ap (λ x. crossings t u (inputs_in x)) is)))) inputs_meet

  pub meet_outs : (o : Option Task) (cs old new : List Crossing) → o ≡ task_named m.tasks u.task → cs ≡ new → new ≡ old ++ crossings t u (outputs_in o) → old ≡ [] → AllByRecursion (Meet u.space block) cs
  meet_outs o cs old new is listed made none =
      subst (AllByRecursion (Meet u.space block)) (sym (listed ∙ (made ∙ (ap (λ z. z ++ crossings t u (outputs_in o)) none ∙ ap (λ x. crossings t u (outputs_in x)) is)))) outputs_meet
