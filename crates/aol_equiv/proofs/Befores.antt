-- What the old instance reads in place of a read of the new one.
use Rattle.std.proofs.Common.{◌≡◌, ℕ, zero, suc, List, [], ◌∷◌, Some, slice_get, option_map, sym, ◌∙◌, ap, refl}
use Rattle.std.specs.Prelude.{slice_index}
use Rattle.std.proofs.lemmas.Option.{slice_get_within}
use Rattle.aol_model_types.specs.declared.document.Model.{Model}
use Rattle.aol_model_types.specs.declared.task.Elementary.{Elementary}
use Rattle.aol_model_types.specs.Rules.{task_name, inputs_of}
use Rattle.aol_flat.specs.Place.{Place, Element, task_at, elements_of}
use Rattle.aol_flat.specs.Instance.{Instance, Run, Copy, instances, read_elements, read_sizes, copy_end, copy_source, port_sizes}
use Rattle.aol_flat.specs.InstanceNeed.{IsReal}
use Rattle.aol_flat.specs.Keep.{AreAlike, runs_task, old_read}
use Rattle.aol_flat.proofs.Among.{moved, moved_elements}
use Rattle.aol_flat.proofs.Kept.{reads_of_run, same_task}
use Rattle.aol_flat.proofs.PathGrounded.{some_injective, none_is_some, only_one}
use Rattle.std.proofs.Common.{unwrap_or}
use Rattle.aol_equiv.proofs.Filling.{map_get}

module _ (old new : Model) (old_of : List ℕ) (alike : AreAlike old new old_of) (j : ℕ) where
  runs_alike : (i o : Instance) → slice_get (instances new) j ≡ Some i → slice_get (instances old) (slice_index old_of j) ≡ Some o → runs_task old o ≡ runs_task new i
  runs_alike i o at at_old =
      let kind = alike.kinds j (slice_get_within (instances new) j i at) in
      let f : kind.old_instance ≡ o = some_injective kind.old_instance o (sym kind.at_old ∙ at_old) in
      let g : kind.new_instance ≡ i = some_injective kind.new_instance i (sym kind.at_new ∙ at) in
      ap (runs_task old) (sym f) ∙ (kind.alike ∙ ap (runs_task new) g)

  no_mix : (place up : Place) (k : ℕ) (r s : List ℕ) (m n : Model) (real : IsReal m (Run place)) → runs_task m (Run place) ≡ runs_task n (Copy up k r s) → ⊥
  no_mix place up k r s m n real e =
      let named : runs_task m (Run place) ≡ Some real.0.name = ap (option_map task_name) real.1 in
      none_is_some (runs_task m (Run place)) real.0.name e named

  first_only : (w e : Element) (k : ℕ) → slice_get (w ∷ []) k ≡ Some e → k ≡ 0
  first_only w e zero h = refl
  first_only w e (suc k) h = cc

  -- the read with a number
  pub old_at : (i o : Instance) → slice_get (instances new) j ≡ Some i → slice_get (instances old) (slice_index old_of j) ≡ Some o → IsReal new i → IsReal old o → (k : ℕ) (p : Element) → slice_get (read_elements new i) k ≡ Some p
      → (q : Element) × (old_read old o p ≡ Some q) × (slice_get (read_elements old o) k ≡ Some q)
  old_at (Run place) (Run there) at at_old real real' k p h =
      let equal : real'.0 ≡ real.0 = same_task old new old_of alike j there place real'.0 real.0 at_old at real'.1 real.1 in
      let listed : slice_get (elements_of place real.0.ins) k ≡ Some p = ap (λ es. slice_get es k) (sym (reads_of_run new place real.0 real.1)) ∙ h in
      let read : slice_get (read_elements old (Run there)) k ≡ Some (moved there p) =
      ap (λ es. slice_get es k) (reads_of_run old there real'.0 real'.1 ∙ (ap (λ (e : Elementary). elements_of there e.ins) equal ∙ moved_elements there place real.0.ins)) ∙ map_get (moved there) (elements_of place real.0.ins) k p listed in
      (moved there p, refl, read)
  old_at (Copy up n r s) (Copy up' n' r' s') at at_old real real' k p h =
      let first : k ≡ 0 = first_only real.1 p k (ap (λ es. slice_get es k) (sym real.4) ∙ h) in
      (real'.1, only_one (copy_end copy_source old up' n' r' s' (task_at old up')) real'.1 real'.4, ap (slice_get (read_elements old (Copy up' n' r' s'))) first ∙ ap (λ es. slice_get es 0) real'.4)
  old_at (Run place) (Copy up n r s) at at_old real real' k p h = absurd (no_mix place up n r s new old real (sym (runs_alike (Run place) (Copy up n r s) at at_old)))
  old_at (Copy up n r s) (Run place) at at_old real real' k p h = absurd (no_mix place up n r s old new real' (runs_alike (Copy up n r s) (Run place) at at_old))

  -- as many are read
  pub same_sizes : (i o : Instance) → slice_get (instances new) j ≡ Some i → slice_get (instances old) (slice_index old_of j) ≡ Some o → IsReal new i → IsReal old o → read_sizes old o ≡ read_sizes new i
  same_sizes (Run place) (Run there) at at_old real real' =
      let equal : real'.0 ≡ real.0 = same_task old new old_of alike j there place real'.0 real.0 at_old at real'.1 real.1 in
      ap (λ o. unwrap_or (option_map (λ t. port_sizes (inputs_of t)) o) []) real'.1
      ∙ (ap (λ (e : Elementary). port_sizes e.ins) equal ∙ sym (ap (λ o. unwrap_or (option_map (λ t. port_sizes (inputs_of t)) o) []) real.1))
  same_sizes (Copy up n r s) (Copy up' n' r' s') at at_old real real' = refl
  same_sizes (Run place) (Copy up n r s) at at_old real real' = absurd (no_mix place up n r s new old real (sym (runs_alike (Run place) (Copy up n r s) at at_old)))
  same_sizes (Copy up n r s) (Run place) at at_old real real' = absurd (no_mix place up n r s old new real' (runs_alike (Copy up n r s) (Run place) at at_old))
