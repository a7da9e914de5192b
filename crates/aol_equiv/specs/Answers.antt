-- What is told of a model that doesn't keep another.
use Rattle.std.specs.Prelude.{◌≡◌, ℕ, List}
use Rattle.aol_model_types.specs.declared.document.Model.{Model}
use Rattle.aol_flat.specs.Keep.{EndsAt, IsFirstLost}
use Rattle.aol_flat.specs.Reads.{Reading}
use Rattle.aol_flat.specs.declared.view.End.{End}
use Rattle.aol_flat.specs.declared.view.Reader.{Reader}
use Rattle.aol_equiv.specs.declared.lost.Lost.{Lost}
use Rattle.aol_equiv.specs.declared.lost.Lost.TheVariants as losts

-- the first read that isn't kept: its reader, port and rank, and where it had to end in the old model, the one end that it has there
pub record LostIs (old new : Model) (old_of : List ℕ) (reader : Reader) (port point : ℕ) (required : End) : Type 0 where
  pub reading : Reading
  pub is_first : IsFirstLost old new old_of reading required
  pub only : (e : End) → EndsAt old is_first.old_element e → e ≡ required
  pub same_reader : reader ≡ reading.reader
  pub same_port : port ≡ reading.port
  pub same_point : point ≡ reading.rank

-- a refusal tells it
abbrev pub IsRightlyLost : Model → Model → List ℕ → Lost → Type 0
IsRightlyLost old new old_of (losts.Element reader port point required) = LostIs old new old_of reader port point required
IsRightlyLost old new old_of losts.NoMemory = Unit {0}
