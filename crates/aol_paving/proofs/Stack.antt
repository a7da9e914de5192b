-- A repetition of repetitions in a sound model.
use Rattle.std.proofs.Common.{◌≡◌, ℕ, ◌≤◌, List, [], ◌∷◌, ◌++◌, length, slice_get, Some, sym, ◌∙◌, ap, refl, arith, subst}
use Rattle.std.specs.Option.{option_or}
use Rattle.std.proofs.lemmas.List.Folds.{find-append}
use Rattle.aol_shape.specs.Lists.{same}
use Rattle.aol_model_types.specs.declared.document.Model.{Model}
use Rattle.aol_model_types.specs.declared.place.PlaceStep.{PlaceStep}
use Rattle.aol_model_types.specs.declared.task.Repeated.{Repeated}
use Rattle.aol_model_types.specs.declared.task.Task.{Task}
use Rattle.aol_model_types.specs.declared.task.Task.TheVariants as tasks
use Rattle.aol_model_types.specs.Rules.{ShapesAgree, task_name, task_named, inputs_of, outputs_of, inputs_named, outputs_named, kind_checks}
use Rattle.aol_flat.proofs.Among.{among_get}
use Rattle.aol_flat.proofs.Checked.{of_repeated, task_of, task_numbered, named_earlier, sides_apart}
use Rattle.aol_flat.proofs.Different.{Hold}
use Rattle.aol_flat.proofs.Names.{slice_get-left}
use Rattle.aol_flat.proofs.Once.{there, found_among}
use Rattle.aol_change.specs.Blocks.{inputs_in, outputs_in}
use Rattle.aol_paving.proofs.Levels.{IsLevel, level_of}
use Rattle.aol_paving.proofs.OnceNamed.{AreOnce, checked_once}
use Rattle.aol_paving.proofs.Ways.{AreApart}

-- the inner and the innermost task stand before the outer repetition
pub record IsStack (m : Model) (before : List Task) (t u : Repeated) : Type 0 where
  pub found : task_named before t.task ≡ Some (tasks.Repeated u)
  pub task : Task
  pub innermost : task_named before u.task ≡ Some task
  pub innermost_in : task_named m.tasks u.task ≡ Some task
  pub top : IsLevel t u.ins u.outs
  pub low : IsLevel u (inputs_named before u.task) (outputs_named before u.task)
  pub once : AreOnce (inputs_named before u.task ++ outputs_named before u.task)
  pub apart : AreApart (outputs_named before u.task) (inputs_named before u.task)

-- of two beginnings of a list, the shorter one begins the other
prefix : {X : Type 0} (xs ys a b : List X) → xs ++ a ≡ ys ++ b → length xs ≤ length ys → (more : List X) × (ys ≡ xs ++ more)
prefix [] ys a b e h = (ys, refl)
prefix (x ∷ xs) [] a b e h = absurd (omega (arith, h))
prefix (x ∷ xs) (y ∷ ys) a b e h =
    let first : x ≡ y = cc in
    let rest : xs ++ a ≡ ys ++ b = cc in
    let r = prefix xs ys a b rest (omega (arith, h)) in
    (r.0, ap (λ z. z ∷ ys) (sym first) ∙ ap (λ zs. x ∷ zs) r.1)

-- what an earlier list finds is found in a longer one
found_longer : (before more : List Task) (name : List ℕ) (w : Task) → task_named before name ≡ Some w → task_named (before ++ more) name ≡ Some w
found_longer before more name w h = find-append (λ v. same (task_name v) name) before more ∙ ap (λ o. option_or o (task_named more name)) h

pub stack : (m : Model) (before rest : List Task) (place : List PlaceStep) (t u : Repeated) → ShapesAgree m → m.tasks ≡ before ++ tasks.Repeated t ∷ rest → Hold (kind_checks before place (tasks.Repeated t))
    → task_named m.tasks t.task ≡ Some (tasks.Repeated u) → t.links ≡ [] → u.links ≡ [] → IsStack m before t u
stack m before rest place t u agree split checks below plain_t plain_u =
    let holds = of_repeated before place t checks in
    let earlier = there (task_named before t.task) holds.inner in
    let both : Some earlier.0 ≡ Some (tasks.Repeated u) = sym (named_earlier m before (tasks.Repeated t ∷ rest) t.task earlier.0 split earlier.1) ∙ below in
    let is : earlier.0 ≡ tasks.Repeated u = cc in
    let found : task_named before t.task ≡ Some (tasks.Repeated u) = earlier.1 ∙ ap (λ x. Some x) is in
    let a = found_among (λ v. same (task_name v) t.task) before (tasks.Repeated u) found in
    let at : slice_get m.tasks a.0 ≡ Some (tasks.Repeated u) = ap (λ ts. slice_get ts a.0) split ∙ slice_get-left before (tasks.Repeated t ∷ rest) a.0 (tasks.Repeated u) (among_get before a.0 (tasks.Repeated u) a.1.0 a.1.1) in
    let n = task_numbered m (tasks.Repeated u) a.0 agree at in
    let r = n.0 in
    let holds_u = of_repeated r.before r.place u r.holds in
    let w = there (task_named r.before u.task) holds_u.inner in
    let longer = prefix r.before before (tasks.Repeated u ∷ r.rest) (tasks.Repeated t ∷ rest) (sym r.split ∙ split) (omega (arith, n.1, a.1.0)) in
    let innermost : task_named before u.task ≡ Some w.0 = ap (λ ts. task_named ts u.task) longer.1 ∙ found_longer r.before longer.0 u.task w.0 w.1 in
    let innermost_in : task_named m.tasks u.task ≡ Some w.0 = named_earlier m before (tasks.Repeated t ∷ rest) u.task w.0 split innermost in
    let r_w = task_of m w.0 u.task agree innermost_in in
    let ins : inputs_of w.0 ≡ inputs_named before u.task = ap inputs_in (sym innermost) in
    let outs : outputs_of w.0 ≡ outputs_named before u.task = ap outputs_in (sym innermost) in
    let low : IsLevel u (inputs_of w.0) (outputs_of w.0) = level_of r.before r.place u w.0 holds_u (λ port known. sides_apart r.before r.place (tasks.Repeated u) port r.holds known) plain_u w.1 in
    let once : AreOnce (inputs_of w.0 ++ outputs_of w.0) = checked_once r_w.before r_w.place w.0 r_w.holds in
    let apart : AreApart (outputs_of w.0) (inputs_of w.0) = λ port known. sides_apart r_w.before r_w.place w.0 port r_w.holds known in
    record {
      found = found;
      task = w.0;
      innermost = innermost;
      innermost_in = innermost_in;
      top = level_of before place t (tasks.Repeated u) holds (λ port known. sides_apart before place (tasks.Repeated t) port checks known) plain_t found;
      low = subst (λ ps. IsLevel u ps (outputs_named before u.task)) ins (subst (λ ps. IsLevel u (inputs_of w.0) ps) outs low);
      once = subst (λ ps. AreOnce (ps ++ outputs_named before u.task)) ins (subst (λ ps. AreOnce (inputs_of w.0 ++ ps)) outs once);
      apart = subst (AreApart (outputs_named before u.task)) ins (subst (λ ps. AreApart ps (inputs_of w.0)) outs apart);
    }
