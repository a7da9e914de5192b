-- Documents that were read and keep the rules.
use Rattle.aol_model_types.specs.declared.document.Model.{Model}
use Rattle.aol_model_types.specs.declared.job.Job.{Job}
use Rattle.aol_model_types.specs.Readable.{IsReadable}
use Rattle.aol_model_types.specs.Types.{IsDocument}
use Rattle.aol_flat.specs.Accept.{IsSound}

-- what every document that was read and keeps the rules has
pub record IsSoundDocument (m : Model) (j : Job) : Type 0 where
  pub types : IsDocument m j
  pub readable : IsReadable m j
  pub sound : IsSound m
