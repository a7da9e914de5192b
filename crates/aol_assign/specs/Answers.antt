-- What is told of a model that isn't one of single assignment, and of what is read in it and not given.
use Rattle.std.specs.Prelude.{◌≡◌, ℕ, List, Option, Some}
use Rattle.aol_model_types.specs.declared.document.Model.{Model}
use Rattle.aol_flat.specs.Node.{node_path}
use Rattle.aol_flat.specs.Targets.{Twice, first_twice, IsSingleAssignment}
use Rattle.aol_flat.specs.Reads.{Reading, IsFirstUnwritten}
use Rattle.aol_flat.specs.declared.view.Reader.{Reader}
use Rattle.aol_flat.specs.declared.view.Writer.{Writer}
use Rattle.aol_assign.specs.declared.refused.AssignRefused.{AssignRefused}
use Rattle.aol_assign.specs.declared.refused.AssignRefused.TheVariants as refused

-- the first point that is written twice: the path of its target's node, the target's part and port, the point, and the first two pairs that write it
pub record TwiceIs (m : Model) (path : List ℕ) (part : Option (List ℕ)) (port point : List ℕ) (first second : Writer) : Type 0 where
  pub twice : Twice
  pub is_first : first_twice m ≡ Some twice
  pub same_path : path ≡ node_path m twice.target.node
  pub same_part : part ≡ twice.target.part
  pub same_port : port ≡ twice.target.port
  pub same_point : point ≡ twice.point
  pub same_first : first ≡ twice.first
  pub same_second : second ≡ twice.second

-- the first read whose element isn't given: its reader, port and rank
pub record UnwrittenIs (m : Model) (reader : Reader) (port point : ℕ) : Type 0 where
  pub reading : Reading
  pub is_first : IsFirstUnwritten m reading
  pub same_reader : reader ≡ reading.reader
  pub same_port : port ≡ reading.port
  pub same_point : point ≡ reading.rank

-- a refusal for what is written twice tells the first such point
abbrev pub IsTwiceTold : Model → AssignRefused → Type 0
IsTwiceTold m (refused.Twice path part port point first second) = TwiceIs m path part port point first second
IsTwiceTold m (refused.Unwritten reader port point) = ⊥
IsTwiceTold m refused.NoMemory = Unit {0}

-- a refusal tells the first point that is written twice, or where there is none the first read that isn't given
abbrev pub IsRightlyTold : Model → AssignRefused → Type 0
IsRightlyTold m (refused.Twice path part port point first second) = TwiceIs m path part port point first second
IsRightlyTold m (refused.Unwritten reader port point) = IsSingleAssignment m × UnwrittenIs m reader port point
IsRightlyTold m refused.NoMemory = Unit {0}
