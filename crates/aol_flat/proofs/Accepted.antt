-- The solutions of an accepted model agree at what is read.
use Rattle.aol_model_types.specs.declared.document.Model.{Model}
use Rattle.aol_flat.specs.Place.{Element}
use Rattle.aol_flat.specs.Need.{by_following, by_copying, by_computing, IsGrounded, grounded, IsDetermined, main_input, default_number, followed, copied, computed}
use Rattle.aol_flat.specs.Reads.{IsGiven, by_main_input, by_default, by_computing as given_by_computing, by_copying as given_by_copying, by_following as given_by_following, by_run, by_copy, AllGiven}
use Rattle.aol_flat.specs.Accept.{AcceptedSolutionsAgree}
use Rattle.aol_flat.proofs.Acyclic.{acyclic_is_grounded}
use Rattle.aol_flat.proofs.Agree.{agree}

-- a grounded element that is given is determined, where each element that is read is given
pub given_determined : (m : Model) → AllGiven m → (p : Element) → IsGrounded m p → IsGiven m p → IsDetermined m p
given_determined m given p (grounded g) (by_main_input a) = main_input a
given_determined m given p (grounded g) (by_default n d) = default_number d
given_determined m given p (grounded g) (given_by_computing o) =
    computed o (λ q a. given_determined m given q (g q (by_computing o a)) (given q (by_run p.place o.task o.at_place a)))
given_determined m given p (grounded g) (given_by_copying {q = q} c) = copied c (given_determined m given q (g q (by_copying c)) (given q (by_copy p c)))
given_determined m given p (grounded g) (given_by_following {q = q} f h) = followed f (given_determined m given q (g q (by_following f)) h)

pub accepted_solutions_agree : AcceptedSolutionsAgree
accepted_solutions_agree m all closed accepted inputs v w fit s t p listed read =
    agree m inputs v w fit s t p
    (given_determined m accepted.given p (acyclic_is_grounded m all closed (λ q a. accepted.acyclic q) p listed) (accepted.given p read))
