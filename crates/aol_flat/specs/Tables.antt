-- The tables of a model that is laid out.
use Rattle.std.specs.Prelude.{◌≡◌, ◌⊎◌, ℕ, List, Some, Result, Ok, Err}
use Rattle.aol_shape.specs.declared.limit.LimitName.{LimitName}
use Rattle.aol_model_types.specs.declared.document.Model.{Model}
use Rattle.aol_flat.specs.declared.flat.Layout.{Layout}
use Rattle.aol_flat.specs.declared.leaf.Leaf.{Leaf as LeafRow}
use Rattle.aol_flat.specs.declared.refused.FlatRefused.{FlatRefused}
use Rattle.aol_flat.specs.declared.refused.FlatRefused.TheVariants.{NoMemory}
use Rattle.aol_flat.specs.declared.tables.Tables.{Tables}
use Rattle.aol_flat.specs.declared.walk.Walk.{Walk}
use Rattle.aol_flat.specs.Accept.{IsSound}
use Rattle.aol_flat.specs.Instance.{leaves}
use Rattle.aol_flat.specs.Leaves.{narrowed, rows_after, instances_of}
use Rattle.aol_flat.specs.Limits.{IsBounded, first_limit}
use Rattle.aol_flat.specs.Node.{Node, nodes, node_path}
use Rattle.aol_flat.specs.NodeTables.{AreNodeTables}
use Rattle.aol_flat.specs.Walked.{HasPassed, PassesLimit}

-- the model is sound and within the limits, these are the rows of its leaves, so many instances they have, and these are the tables of its nodes
pub record AreTablesOf (m : Model) (rows : List LeafRow) (count : ℕ) (tables : Tables) : Type 0 where
  pub sound : IsSound m
  pub limits : IsBounded m
  pub rows_are : rows ≡ rows_after m 0 (leaves m)
  pub count_is : count ≡ narrowed (instances_of (leaves m))
  pub nodes_are : AreNodeTables m tables

-- the path and the name of the first limit that a model passes
pub record IsFirstLimit (m : Model) (path : List ℕ) (limit : LimitName) : Type 0 where
  pub node : Node
  pub first : first_limit m ≡ Some (node, limit)
  pub path_is : path ≡ node_path m node

-- a walk over all nodes ends with what it found, or is refused
abbrev pub EndsWith : Model → Result Walk FlatRefused → Type 0
EndsWith m (Ok walk) = HasPassed m (nodes m) (leaves m) walk
EndsWith m (Err e) = (e ≡ NoMemory) ⊎ PassesLimit m (nodes m) e

-- so is what it found with the tables of the nodes
abbrev pub EndsLaid : Model → Result Layout FlatRefused → Type 0
EndsLaid m (Ok lay) = HasPassed m (nodes m) (leaves m) lay.walk × AreNodeTables m lay.tables
EndsLaid m (Err e) = (e ≡ NoMemory) ⊎ PassesLimit m (nodes m) e
