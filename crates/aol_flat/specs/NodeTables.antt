-- The tables of nodes and cells of a model.
use Rattle.std.specs.Prelude.{◌≡◌, [], Result, OnOk}
use Rattle.aol_shape.specs.declared.memory.NoMemory.{NoMemory}
use Rattle.aol_model_types.specs.declared.document.Model.{Model}
use Rattle.aol_flat.specs.declared.place.Table.{Table}
use Rattle.aol_flat.specs.declared.tables.Tables.{Tables}
use Rattle.aol_flat.specs.Below.{AreSteps}
use Rattle.aol_flat.specs.Cells.{AreCells}
use Rattle.aol_flat.specs.Instance.{leaves}
use Rattle.aol_flat.specs.Node.{nodes}
use Rattle.aol_flat.specs.Placed.{AreRowsAmong, AreSpotsAmong, Placed}

-- an empty table is filled with all nodes and leaves
abbrev pub PlacesAll : Model → Table → Table → Result (Unit {0}) NoMemory → Type 0
PlacesAll m old new result = old.rows ≡ [] → old.spots ≡ [] → OnOk result (Placed m (nodes m) (leaves m) new)

-- these are the tables
pub record AreNodeTables (m : Model) (tables : Tables) : Type 0 where
  pub rows : AreRowsAmong m (nodes m) 0 (nodes m) tables.rows
  pub spots : AreSpotsAmong (nodes m) (leaves m) tables.spots
  pub steps : AreSteps m tables.steps
  pub cells : AreCells m tables.cells
