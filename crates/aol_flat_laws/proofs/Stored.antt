-- What is stored by itself is its own home.
use Rattle.std.proofs.Common.{◌≡◌, ℕ, true, List, ◌∷◌, Option, Some, None, is_none, refl}
use Rattle.aol_model_types.specs.declared.document.Model.{Model}
use Rattle.aol_model_types.specs.declared.task.Plain.{Plain}
use Rattle.aol_model_types.specs.declared.task.Task.{Task}
use Rattle.aol_model_types.specs.declared.task.Task.TheVariants as tasks
use Rattle.aol_model_types.specs.declared.task.TilerOn.{TilerOn}
use Rattle.aol_flat.specs.Place.{Place, IntoPart, IntoRepetition, task_at}
use Rattle.aol_flat.specs.Home.{Stored, origin, handed, link_into_part, link_up, tiler_at, part_origin, linked_origin, part_handed, repetition_handed, link_handed, tiler_handed}
use Rattle.aol_flat.specs.Node.{ToPart, ToBody}
use Rattle.aol_flat.specs.Laid.{stores_input, stores_output}
use Rattle.aol_flat_laws.proofs.Stands.{of_part, of_repetition}

module _ (m : Model) where
  pub part_input_stored : (up : Place) (k : ℕ) (u x : List ℕ) → stores_input (task_at m up) (ToPart k) u ≡ true → origin m (IntoPart k ∷ up) u x ≡ Stored (of_part up k u x)
  part_input_stored up k u x h = go (task_at m up) h
    where
      go : (o : Option Task) → stores_input o (ToPart k) u ≡ true → part_origin o up k u x (origin m up) ≡ Stored (of_part up k u x)
      go None e = cc
      go (Some (tasks.Elementary t)) e = cc
      go (Some (tasks.Repeated t)) e = cc
      go (Some (tasks.Compound c)) e = by_link (link_into_part c k u) e
        where
          by_link : (o : Option Plain) → is_none o ≡ true → linked_origin c up k u x (origin m up) o ≡ Stored (of_part up k u x)
          by_link None f = refl
          by_link (Some l) f = cc

  -- no input of a repetition is
  pub body_input_stored : (o : Option Task) (space u : List ℕ) → stores_input o (ToBody space) u ≡ true → ⊥
  body_input_stored None space u h = cc
  body_input_stored (Some (tasks.Elementary e)) space u h = cc
  body_input_stored (Some (tasks.Compound c)) space u h = cc
  body_input_stored (Some (tasks.Repeated t)) space u h = cc

  pub part_output_stored : (up : Place) (k : ℕ) (y x : List ℕ) → stores_output (task_at m up) (ToPart k) y ≡ true → handed m (IntoPart k ∷ up) y x ≡ of_part up k y x
  part_output_stored up k y x h = go (task_at m up) h
    where
      by_link : (o : Option Plain) → is_none o ≡ true → link_handed (of_part up k y x) x (handed m up) o ≡ of_part up k y x
      by_link None f = refl
      by_link (Some l) f = cc

      go : (o : Option Task) → stores_output o (ToPart k) y ≡ true → part_handed o up k y x (handed m up) ≡ of_part up k y x
      go None e = cc
      go (Some (tasks.Elementary t)) e = cc
      go (Some (tasks.Repeated t)) e = cc
      go (Some (tasks.Compound c)) e = by_link (link_up c k y) e

  pub repetition_output_stored : (up : Place) (r space y x : List ℕ) → stores_output (task_at m up) (ToBody space) y ≡ true → handed m (IntoRepetition r ∷ up) y x ≡ of_repetition up r y x
  repetition_output_stored up r space y x h = go (task_at m up) h
    where
      go : (o : Option Task) → stores_output o (ToBody space) y ≡ true → repetition_handed o up r y x (handed m up) ≡ of_repetition up r y x
      go None e = cc
      go (Some (tasks.Elementary t)) e = cc
      go (Some (tasks.Compound c)) e = cc
      go (Some (tasks.Repeated t)) e = by_tiler (tiler_at t y) e
        where
          by_tiler : (o : Option TilerOn) → is_none o ≡ true → tiler_handed t (of_repetition up r y x) r x (handed m up) o ≡ of_repetition up r y x
          by_tiler None f = refl
          by_tiler (Some o) f = cc
