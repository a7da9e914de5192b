-- What the makers of tilers ask for.
use Rattle.std.specs.Prelude.{◌≡◌, ℕ, ◌+◌, ◌≤◌, List, [], length, Some}
use Rattle.aol_tiler.specs.Makers.{AreSubstitutable}
use Rattle.aol_tiler.specs.Matrices.{TilerOf}
use Rattle.aol_expr_tree.specs.declared.port.Port.{Port}
use Rattle.aol_model_types.specs.declared.task.Compound.{Compound}
use Rattle.aol_model_types.specs.declared.task.Repeated.{Repeated}
use Rattle.aol_model_types.specs.declared.task.TilerOn.{TilerOn}
use Rattle.aol_flat.specs.Home.{tiler_at}

-- a block and a port have room in one shape
abbrev pub HasPlace : List ℕ → Port → Type 0
HasPlace block p = length block + length p.shape ≤ 12

-- the tiler on an inner port can be placed at the repetitions of another
abbrev pub CanPlace : Repeated → TilerOf → Port → Type 0
CanPlace t by p = (o : TilerOn) → tiler_at t p.name ≡ Some o → AreSubstitutable o.tiler by

-- a repetition has neither ports nor tilers yet
pub record IsEmptyRepetition (t : Repeated) : Type 0 where
  pub ins : t.ins ≡ []
  pub outs : t.outs ≡ []
  pub tilers : t.tilers ≡ []

-- a compound has no members yet
pub record IsEmptyCompound (c : Compound) : Type 0 where
  pub ins : c.ins ≡ []
  pub outs : c.outs ≡ []
  pub parts : c.parts ≡ []
  pub links : c.links ≡ []
  pub reshapes : c.reshapes ≡ []
