-- In a sound model where nothing is written twice, each element has one equation, which the look-up finds.
use Rattle.std.proofs.Common.{◌≡◌, Some}
use Rattle.aol_model_types.specs.declared.document.Model.{Model}
use Rattle.aol_flat.specs.Place.{Element}
use Rattle.aol_flat.specs.Need.{Follows, by_part_input, by_own_output, by_tiled_input, by_link, by_default, by_outer_output}
use Rattle.aol_flat.specs.Targets.{IsSingleAssignment}
use Rattle.aol_flat.specs.Accept.{IsSound}
use Rattle.aol_flat.specs.Sources.{source_at, TakesFrom, following, copying, SoundSourcesAreFound}
use Rattle.aol_flat.proofs.SourceSteps.{part_found, own_found, tiled_found, earlier_found, default_found, number_none, computed_none, main_none}
use Rattle.aol_flat.proofs.SourceWrites.{outer_found}
use Rattle.aol_flat.proofs.SourceCopies.{copied_found}

module _ (m : Model) (sound : IsSound m) (single : IsSingleAssignment m) where
  pub followed_found : (p q : Element) → Follows m p q → source_at m p ≡ Some q
  followed_found p q (by_part_input f) = part_found m sound p q f
  followed_found p q (by_own_output f) = own_found m sound p q f
  followed_found p q (by_tiled_input f) = tiled_found m sound p q f
  followed_found p q (by_link f) = earlier_found m sound p q f
  followed_found p q (by_default f) = default_found m sound p q f
  followed_found p q (by_outer_output f) = outer_found m sound single p q f

  pub taken_found : (p q : Element) → TakesFrom m p q → source_at m p ≡ Some q
  taken_found p q (following f) = followed_found p q f
  taken_found p q (copying c) = copied_found m sound single p q c

pub sound_sources_are_found : SoundSourcesAreFound
sound_sources_are_found m sound single = record { some = taken_found m sound single; main_input = main_none m sound; computed = computed_none m sound; number = number_none m sound }
