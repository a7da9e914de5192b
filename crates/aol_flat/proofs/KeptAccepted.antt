-- A model that keeps a sound and accepted one is accepted.
use Rattle.std.proofs.Common.{◌≡◌, ℕ, List, [], length, Some, None, slice_get, option_map, sym, ◌∙◌, ap, refl, subst}
use Rattle.std.specs.Prelude.{slice_index}
use Rattle.std.specs.List.{IsAmong}
use Rattle.std.proofs.lemmas.Option.{slice_get_within}
use Rattle.aol_shape.specs.Shape.{rank}
use Rattle.aol_model_types.specs.declared.document.Model.{Model}
use Rattle.aol_model_types.specs.declared.task.Elementary.{Elementary}
use Rattle.aol_model_types.specs.declared.task.Task.TheVariants as tasks
use Rattle.aol_model_types.specs.Rules.{task_name}
use Rattle.aol_flat.specs.Place.{Place, Element, IsElement, task_at, elements_of}
use Rattle.aol_flat.specs.Equation.{CopiedElement}
use Rattle.aol_flat.specs.Need.{by_following, by_copying, by_computing, IsAcyclic, IsGrounded, grounded}
use Rattle.aol_flat.specs.Instance.{Instance, Run, Copy, instances, read_elements, copy_end, copy_source}
use Rattle.aol_flat.specs.Laid.{main_output_elements}
use Rattle.aol_flat.specs.Reads.{IsGiven, IsRead, by_run, by_copy, by_caller, AllGiven}
use Rattle.aol_flat.specs.InstanceNeed.{IsReal}
use Rattle.aol_flat.specs.Accept.{IsSound}
use Rattle.aol_flat.specs.Keep.{EndsAt, at_input, at_number, at_output, by_following as ends_by_following, by_copying as ends_by_copying, old_end, runs_task, SameEnd, AreComparable, Keeps, KeptModelsAgree}
use Rattle.aol_flat.specs.declared.view.End.{End}
use Rattle.aol_flat.proofs.Acyclic.{acyclic_is_grounded}
use Rattle.aol_flat.proofs.Among.{moved, moved_among}
use Rattle.aol_flat.proofs.Elements.{all_elements, all_closed, element_listed, read_exists, kept_sound_agree}
use Rattle.aol_flat.proofs.Exists.{input_exists}
use Rattle.aol_flat.proofs.Kept.{same_task, reads_of_run}
use Rattle.aol_flat.proofs.Levelled.{grounded_apart, enough, follow}
use Rattle.aol_flat.proofs.Numbered.{number_of_instance, run_listed, copy_numbered, shallow}
use Rattle.aol_flat.proofs.Real.{sound_is_real}
use Rattle.aol_flat.proofs.SourceSteps.{wired}
use Rattle.aol_flat.proofs.PathGrounded.{some_injective, none_is_some, given_end, only_one, no_input, no_number, same_made, path_grounded}

module _ (old new : Model) (old_of : List ℕ) (sound_old : IsSound old) (sound : IsSound new) (comparable : AreComparable old new old_of) (keeps : Keeps old new old_of) where
  -- what ends where a grounded element of the old model does is grounded
  kept_grounded : (q : Element) → IsGrounded old q → (f : End) → EndsAt old q f → (p : Element) (e : End) → EndsAt new p e → f ≡ old_end old_of e → IsGrounded new p
  kept_grounded q (grounded g) f (at_input a) p e ends h =
      path_grounded new sound keeps.single p e ends (λ j k x made. absurd (no_input new a.number (rank a.port.shape q.index) e old_of h j k x made))
  kept_grounded q (grounded g) f (at_number {n = n} d) p e ends h =
      path_grounded new sound keeps.single p e ends (λ j k x made. absurd (no_number new n e old_of h j k x made))
  kept_grounded q (grounded g) f (at_output o i hi) p e ends h =
      path_grounded new sound keeps.single p e ends
      (λ j k x made p2 o2 hj r listed.
      let number : i ≡ slice_index old_of j = same_made i o.number (rank o.out.port.shape q.index) e old_of h j k x made in
      let P : ℕ → Type 0 = λ n. slice_get (instances old) n ≡ Some (Run q.place) in
      let at_old : slice_get (instances old) (slice_index old_of j) ≡ Some (Run q.place) = subst P number hi in
      let equal : o.task ≡ o2.task = same_task old new old_of comparable.alike j q.place p2.place o.task o2.task at_old hj o.at_place o2.at_place in
      let Q : Elementary → Type 0 = λ t. IsAmong (elements_of q.place t.ins) (moved q.place r) in
      let inputs : IsAmong (elements_of q.place o.task.ins) (moved q.place r) = subst Q (sym equal) (moved_among q.place p2.place o2.task.ins r listed) in
      let R : List Element → Type 0 = λ es. IsAmong es r in
      let read : IsAmong (read_elements new (Run p2.place)) r = subst R (sym (reads_of_run new p2.place o2.task o2.at_place)) listed in
      let same_end = keeps.reads j (Run p2.place) (Run q.place) hj at_old r (moved q.place r) read refl in
      kept_grounded (moved q.place r) (g (moved q.place r) (by_computing o inputs)) (old_end old_of same_end.ending) same_end.old_ends r same_end.ending same_end.new_ends refl)
  kept_grounded q (grounded g) f (ends_by_following {q = r} d rest) p e ends h = kept_grounded r (g r (by_following d)) f rest p e ends h
  kept_grounded q (grounded g) f (ends_by_copying {q = r} c rest) p e ends h = kept_grounded r (g r (by_copying c)) f rest p e ends h

  -- ---- each element that is read ends as an old one does

  -- the old element at which a read ends, and that it exists
  record EndsAsOld (p : Element) : Type 0 where
    element : Element
    exists : IsElement old element
    same_end : SameEnd old new old_of p element

  -- the read of a run
  run_kept : (place : Place) (e : Elementary) → task_at new place ≡ Some (tasks.Elementary e) → (p : Element) → IsAmong (elements_of place e.ins) p → EndsAsOld p
  run_kept place e h p a =
      let number = number_of_instance new (Run place) (run_listed new sound.shapes place e h) in
      let kind = comparable.alike.kinds number.0 (slice_get_within (instances new) number.0 (Run place) number.1) in
      let g : kind.new_instance ≡ Run place = some_injective kind.new_instance (Run place) (sym kind.at_new ∙ number.1) in
      let runs : runs_task old kind.old_instance ≡ Some e.name = kind.alike ∙ (ap (runs_task new) g ∙ ap (option_map task_name) h) in
      let P : List Element → Type 0 = λ es. IsAmong es p in
      let read : IsAmong (read_elements new (Run place)) p = subst P (sym (reads_of_run new place e h)) a in
      go number.0 number.1 read kind.old_instance kind.at_old (sound_is_real old sound_old (slice_index old_of number.0) kind.old_instance kind.at_old) runs
    where
      go : (j : ℕ) → slice_get (instances new) j ≡ Some (Run place) → IsAmong (read_elements new (Run place)) p → (i : Instance) → slice_get (instances old) (slice_index old_of j) ≡ Some i → IsReal old i
          → runs_task old i ≡ Some e.name → EndsAsOld p
      go j hj read (Copy up k repetition part) hi real runs = cc
      go j hj read (Run there) hi real runs =
          let equal : real.0 ≡ e = same_task old new old_of comparable.alike j there place real.0 e hi hj real.1 h in
          let Q : Elementary → Type 0 = λ t. IsAmong (elements_of there t.ins) (moved there p) in
          let listed : IsAmong (elements_of there real.0.ins) (moved there p) = subst Q (sym equal) (moved_among there place e.ins p a) in
          record {
            element = moved there p;
            exists = input_exists old sound_old there (tasks.Elementary real.0) (moved there p) real.1 listed;
            same_end = keeps.reads j (Run place) (Run there) hj hi p (moved there p) read refl;
          }

  -- the read of a copy
  copy_kept : (p target : Element) → CopiedElement new target p → EndsAsOld p
  copy_kept p target c =
      let copy : Instance = Copy c.up c.listed.0 c.repetition c.part in
      let number = copy_numbered new sound.shapes target p c in
      let kind = comparable.alike.kinds number.0 (slice_get_within (instances new) number.0 copy number.1) in
      let g : kind.new_instance ≡ copy = some_injective kind.new_instance copy (sym kind.at_new ∙ number.1) in
      let none : runs_task old kind.old_instance ≡ None = kind.alike ∙ ap (runs_task new) g in
      go number.0 copy number.1 number.3 kind.old_instance kind.at_old (sound_is_real old sound_old (slice_index old_of number.0) kind.old_instance kind.at_old) none
    where
      go : (j : ℕ) (i : Instance) → slice_get (instances new) j ≡ Some i → IsAmong (read_elements new i) p → (o : Instance) → slice_get (instances old) (slice_index old_of j) ≡ Some o → IsReal old o
          → runs_task old o ≡ None → EndsAsOld p
      go j i hj read (Copy up k repetition part) hi real none =
          record {
            element = real.1;
            exists = real.2.source;
            same_end = keeps.reads j i (Copy up k repetition part) hj hi p real.1 read (only_one (copy_end copy_source old up k repetition part (task_at old up)) real.1 real.4);
          }
      go j i hj read (Run there) hi real none =
          let named : runs_task old (Run there) ≡ Some real.0.name = ap (option_map task_name) real.1 in
          absurd (none_is_some (runs_task old (Run there)) real.0.name none named)

  -- each read
  every_read : (p : Element) → IsRead new p → EndsAsOld p
  every_read p (by_run place e h a) = run_kept place e h p a
  every_read p (by_copy target c) = copy_kept p target c
  every_read p (by_caller a) =
      let P : List Element → Type 0 = λ es. IsAmong es p in
      let equal : main_output_elements new ≡ main_output_elements old = ap (elements_of []) comparable.alike.same_outs in
      record { element = p; exists = read_exists old sound_old p (by_caller (subst P equal a)); same_end = keeps.main_outputs p a }

  -- is grounded and given
  read_held : (p : Element) → IsRead new p → IsGrounded new p × IsGiven new p
  read_held p read =
      let k = every_read p read in
      let ground : IsGrounded old k.element =
      acyclic_is_grounded old (all_elements old) (all_closed old sound_old) (λ r b. comparable.accepted.acyclic r) k.element (element_listed old sound_old k.element k.exists) in
      (kept_grounded k.element ground (old_end old_of k.same_end.ending) k.same_end.old_ends p k.same_end.ending k.same_end.new_ends refl, given_end new p k.same_end.ending k.same_end.new_ends)

  all_given : AllGiven new
  all_given p read = (read_held p read).1

  -- so every element is grounded, and none needs itself
  acyclic : IsAcyclic new
  acyclic p n =
      let fuel = enough new (wired new sound) (length new.tasks) (shallow new sound.shapes) p in
      grounded_apart new p
      (follow new (wired new sound) (length new.tasks) (shallow new sound.shapes) (λ q. Unit {0}) (λ q r u f. tt)
      (λ q r u c. (read_held r (by_copy q c)).0)
      (λ q u o r b. (read_held r (by_run q.place o.task o.at_place b)).0)
      fuel.0 p fuel.1 tt)
      n

pub kept_models_agree : KeptModelsAgree
kept_models_agree old new old_of sound_old sound bounded comparable keeps = record {
  accepted = record {
    shapes = sound.shapes;
    limits = bounded;
    single = keeps.single;
    given = all_given old new old_of sound_old sound comparable keeps;
    acyclic = acyclic old new old_of sound_old sound comparable keeps;
  };
  outputs = λ inputs v w fit s t p listed. kept_sound_agree old new old_of sound_old comparable keeps inputs v w fit s t p listed;
}
