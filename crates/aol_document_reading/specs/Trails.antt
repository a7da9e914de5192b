-- The steps of the document that a trail leads along.
use Rattle.std.specs.Prelude.{List, []}
use Rattle.aol_model_types.specs.declared.place.PlaceStep.{PlaceStep}
use Rattle.aol_model_types.specs.Places.{to_key, to_index}
use Rattle.aol_document_reading.specs.declared.reading.trail.Trail.{Trail}
use Rattle.aol_document_reading.specs.declared.reading.trail.Trail.TheOpen.{Trail-F}
use Rattle.aol_document_reading.specs.declared.reading.trail.Trail.TheFolds.{fold-Trail}

-- the last step, after those before it
abbrev pub last_step : Trail-F (List PlaceStep) → List PlaceStep
last_step (Trail-F.Top alloc) = []
last_step (Trail-F.Key before k) = to_key before.now k
last_step (Trail-F.Index before i) = to_index before.now i

-- the steps from the whole document
abbrev pub steps_of : Trail → List PlaceStep
steps_of = fold-Trail (List PlaceStep) last_step
