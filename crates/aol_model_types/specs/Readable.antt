-- Models and jobs for which some tree stands.
use Rattle.std.specs.Prelude.{◌≡◌, [], Bool, true, Ok}
use Rattle.serde_json.specs.Data.{Data}
use Rattle.aol_model_types.specs.declared.place.Key.TheVariants.{KModel, KInput, KTransform, KAllocate}
use Rattle.aol_model_types.specs.declared.document.Model.{Model}
use Rattle.aol_model_types.specs.declared.document.Document.{Document}
use Rattle.aol_model_types.specs.declared.job.Job.{Job}
use Rattle.aol_model_types.specs.Places.{to_key}
use Rattle.aol_model_types.specs.Trees.{is_tree}
use Rattle.aol_model_types.specs.Reading.{model_at, input_at, step_at, entry_at, list_of, document_in}

-- some tree stands for this model, in version 1 or 2
abbrev pub IsReadableModel : Model → Type 0
IsReadableModel m = (later : Bool) × (d : Data) × (is_tree d ≡ true) × (model_at later (to_key [] KModel) d ≡ Ok m)

-- some trees stand for the inputs, the steps and the entries of this job
pub record IsReadableJob (j : Job) : Type 0 where
  pub input : (d : Data) × (is_tree d ≡ true) × (input_at (to_key [] KInput) d ≡ Ok j.input)
  pub transform : (d : Data) × (is_tree d ≡ true) × (list_of step_at (to_key [] KTransform) d ≡ Ok j.transform)
  pub allocate : (d : Data) × (is_tree d ≡ true) × (list_of entry_at (to_key [] KAllocate) d ≡ Ok j.allocate)

-- some tree stands for the document of both
pub record IsReadable (m : Model) (j : Job) : Type 0 where
  pub model : IsReadableModel m
  pub job : IsReadableJob j

-- a document that was read from a tree is readable
abbrev pub ReadingShows : Type 0
ReadingShows = (t : Data) (doc : Document) → is_tree t ≡ true → document_in t ≡ Ok doc → IsReadable doc.model doc.job
