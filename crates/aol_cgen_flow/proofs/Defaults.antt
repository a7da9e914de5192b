-- Default numbers have 64 bits.
use Rattle.std.proofs.Common.{◌≡◌, ℕ, ℤ, true, Some, slice_get, sym, ◌∙◌, ap, subst}
use Rattle.aol_shape.specs.Numbers.{fits_64}
use Rattle.aol_link.specs.Types.{IsChoice, IsFallback, IsInterlink}
use Rattle.aol_link.specs.declared.link.Fallback.{Fallback}
use Rattle.aol_model_types.specs.declared.document.Model.{Model}
use Rattle.aol_model_types.specs.declared.task.Task.TheVariants as tasks
use Rattle.aol_model_types.specs.Rules.{task_name}
use Rattle.aol_model_types.specs.Types.{IsRepeated}
use Rattle.aol_flat.specs.Accept.{IsSound}
use Rattle.aol_flat.specs.Equation.{DefaultNumber}
use Rattle.aol_flat.specs.Home.{Kept, Constant, home_of, origin, origin_home}
use Rattle.aol_flat.specs.Place.{Element}
use Rattle.aol_flat.specs.Reads.{IsGiven, by_main_input, by_default, by_computing, by_copying, by_following}
use Rattle.aol_flat.specs.Targets.{IsSingleAssignment}
use Rattle.aol_flat.proofs.Among.{among_get}
use Rattle.aol_flat.proofs.Find.{task_at_named}
use Rattle.aol_flat.proofs.Given.{AllByRecursion-at}
use Rattle.aol_flat.proofs.Homes.{followed_homes, default_number_home, input_home}
use Rattle.aol_flat.proofs.Numbered.{agreeing_is_numbered}
use Rattle.aol_flat.proofs.Real.{sound_is_real}
use Rattle.aol_flat.proofs.SourceSteps.{wired, main_input_side}
use Rattle.aol_flat.proofs.Totals.{read_named}
use Rattle.aol_flat_laws.proofs.WrittenHome.{written_home}
use Rattle.aol_runner.proofs.Held.{constant_injective, two_homes}

module _ (m : Model) (sound : IsSound m) (single : IsSingleAssignment m) where
  -- the number of a choice
  choice_fits : (p : Element) (n : ℤ) → DefaultNumber m p n → fits_64 n ≡ true
  choice_fits p n d =
      let l = d.linked in
      let types : IsRepeated l.task = (read_named m (task_name (tasks.Repeated l.task)) (tasks.Repeated l.task) sound.read (task_at_named m l.up (tasks.Repeated l.task) l.at_place)).types in
      let link = AllByRecursion-at IsInterlink l.task.links l.listed.0 l.link types.links (among_get l.task.links l.listed.0 l.link l.listed.1.0 l.listed.1.1) in
      let choice : IsChoice d.choice = AllByRecursion-at IsChoice l.link.rest _ d.choice link.choices d.chosen in
      let P : Fallback → Type 0 = IsFallback in
      subst P d.takes choice

  -- what is given and has a number for its home takes it by default
  pub constant_fits : (p : Element) → IsGiven m p → (n : ℤ) → home_of m p ≡ Constant n → fits_64 n ≡ true
  constant_fits p (by_main_input a) n home =
      let place = a.is_main in
      let kept : home_of m p ≡ Kept p =
      input_home m p (main_input_side m sound p a)
      ∙ (ap (λ q. origin_home m (origin m q p.port p.index)) place ∙ ap (λ q. Kept (record { place = q; port = p.port; index = p.index })) (sym place)) in
      absurd (two_homes (home_of m p) p n kept home)
  constant_fits p (by_default k d) n home =
      let same : k ≡ n = constant_injective k n (sym (default_number_home m (wired m sound) p k d) ∙ home) in
      subst (λ z. fits_64 z ≡ true) same (choice_fits p k d)
  constant_fits p (by_computing o) n home =
      let r = (agreeing_is_numbered m sound.shapes).runs p o in
      let h = written_home m sound single r.1 (sound_is_real m sound r.0 r.1 r.2) p r.3 in
      absurd (two_homes (home_of m p) h.0 n h.1 home)
  constant_fits p (by_copying {q = q} c) n home =
      let r = (agreeing_is_numbered m sound.shapes).copies p q c in
      let h = written_home m sound single r.1 (sound_is_real m sound r.0 r.1 r.2) p r.3 in
      absurd (two_homes (home_of m p) h.0 n h.1 home)
  constant_fits p (by_following {q = q} g rest) n home = constant_fits q rest n (sym (followed_homes m (wired m sound) p q g) ∙ home)
