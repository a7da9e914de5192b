-- Each element that an accepted model reads has an end.
use Rattle.std.proofs.Common.{List, sym, subst}
use Rattle.std.specs.List.{IsAmong}
use Rattle.aol_shape.specs.Shape.{rank}
use Rattle.aol_model_types.specs.declared.document.Model.{Model}
use Rattle.aol_flat.specs.Place.{Element}
use Rattle.aol_flat.specs.Instance.{Instance, Run, Copy, read_elements}
use Rattle.aol_flat.specs.InstanceNeed.{IsReal}
use Rattle.aol_flat.specs.Keep.{EndsAt, at_input, at_number, at_output, by_following as ends_by_following, by_copying as ends_by_copying}
use Rattle.aol_flat.specs.Need.{IsGrounded, grounded, by_following as needs_following, by_copying as needs_copying}
use Rattle.aol_flat.specs.Reads.{IsGiven, by_main_input, by_default, by_computing, by_copying, by_following, IsRead, by_run, by_copy}
use Rattle.aol_flat.specs.Accept.{IsSound, IsAccepted}
use Rattle.aol_flat.specs.declared.view.End.{End}
use Rattle.aol_flat.specs.declared.view.End.TheVariants.{Input, Const, Made}
use Rattle.aol_flat.proofs.Acyclic.{acyclic_is_grounded}
use Rattle.aol_flat.proofs.Elements.{all_elements, all_closed, element_listed, read_exists}
use Rattle.aol_flat.proofs.Kept.{reads_of_run}
use Rattle.aol_flat.proofs.Numbered.{number_of_instance, run_listed}
use Rattle.aol_flat_laws.proofs.OneWriter.{only_member}

module _ (m : Model) (sound : IsSound m) (accepted : IsAccepted m) where
  grounded_ends : (p : Element) → IsGrounded m p → IsGiven m p → (e : End) × EndsAt m p e
  grounded_ends p (grounded g) (by_main_input a) = (Input a.number (rank a.port.shape p.index), at_input a)
  grounded_ends p (grounded g) (by_default n d) = (Const n, at_number d)
  grounded_ends p (grounded g) (by_computing o) =
      let number = number_of_instance m (Run p.place) (run_listed m sound.shapes p.place o.task o.at_place) in
      (Made number.0 o.number (rank o.out.port.shape p.index), at_output o number.0 number.1)
  grounded_ends p (grounded g) (by_copying {q = q} c) = let r = grounded_ends q (g q (needs_copying c)) (accepted.given q (by_copy p c)) in (r.0, ends_by_copying c r.1)
  grounded_ends p (grounded g) (by_following {q = q} f h) = let r = grounded_ends q (g q (needs_following f)) h in (r.0, ends_by_following f r.1)

  pub read_ends : (p : Element) → IsRead m p → (e : End) × EndsAt m p e
  read_ends p read =
      grounded_ends p (acyclic_is_grounded m (all_elements m) (all_closed m sound) (λ r b. accepted.acyclic r) p (element_listed m sound p (read_exists m sound p read))) (accepted.given p read)

-- what an instance reads is read
pub instance_reads : (m : Model) (i : Instance) → IsReal m i → (p : Element) → IsAmong (read_elements m i) p → IsRead m p
instance_reads m (Run place) real p a = let P : List Element → Type 0 = λ es. IsAmong es p in by_run place real.0 real.1 (subst P (reads_of_run m place real.0 real.1) a)
instance_reads m (Copy place k r s) real p a =
    let P : List Element → Type 0 = λ es. IsAmong es p in
    let Q : Element → Type 0 = λ x. IsRead m x in
    subst Q (sym (only_member real.1 p (subst P real.4 a))) (by_copy real.0 real.2)
