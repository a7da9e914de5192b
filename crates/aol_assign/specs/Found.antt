-- The first point of some targets that is written twice, and when their tilers fit.
use Rattle.std.specs.Prelude.{◌≡◌, ℕ, List, map, true, slice_get, Option, Some, option_map}
use Rattle.std.specs.List.{AllByRecursion, IsAmong}
use Rattle.aol_shape.specs.Lists.{same, first_some}
use Rattle.aol_shape.specs.Shape.{IsShape}
use Rattle.aol_tiler.specs.Tiler.{Fits}
use Rattle.aol_expr_tree.specs.declared.port.Port.{Port}
use Rattle.aol_model_types.specs.declared.task.Compound.{Compound}
use Rattle.aol_model_types.specs.declared.task.Copied.{Copied}
use Rattle.aol_model_types.specs.declared.task.Repeated.{Repeated}
use Rattle.aol_model_types.specs.declared.task.Task.{Task}
use Rattle.aol_model_types.specs.declared.task.TilerOn.{TilerOn}
use Rattle.aol_model_types.specs.Rules.{outputs_of, port_shape, same_part}
use Rattle.aol_flat.specs.Targets.{Target, Twice, target_twice}
use Rattle.aol_assign.specs.declared.targets.Found.{Found}
use Rattle.aol_assign.specs.declared.targets.Numbered.{Numbered}

-- the first point that is written twice, without its node
abbrev pub found_of : Twice → Found
found_of t = record { part = t.target.part; port = t.target.port; repeat = record { first = t.first; second = t.second; point = t.point } }

-- the first among some targets
abbrev pub found_in : List Target → Option Found
found_in ts = option_map found_of (first_some (map target_twice ts))

-- a tiler on an output of a repeated task fits it, with the space and the shape of its inner output
pub record TilerFits (t : Repeated) (inner : Task) (y : Port) (o : TilerOn) : Type 0 where
  pub pattern : List ℕ
  pub there : port_shape (outputs_of inner) o.inner ≡ Some pattern
  pub fits : Fits o.tiler y.shape t.space pattern
  pub array_shape : IsShape y.shape
  pub space_shape : IsShape t.space
  pub pattern_shape : IsShape pattern

-- each tiler on the output does
abbrev pub TilersFit : Repeated → Task → Port → Type 0
TilersFit t inner y = (k : ℕ) (o : TilerOn) → slice_get t.tilers k ≡ Some o → same o.outer y.name ≡ true → TilerFits t inner y o

-- a reshape into a port fits it
pub record ReshapeFits (u : Port) (r : Copied) : Type 0 where
  pub fits : Fits r.by.target u.shape r.by.space r.by.pattern
  pub array_shape : IsShape u.shape
  pub space_shape : IsShape r.by.space
  pub pattern_shape : IsShape r.by.pattern

-- each reshape into one of these ports does
abbrev pub ReshapesFit : Compound → Option (List ℕ) → List Port → Type 0
ReshapesFit c part ports =
    (u : Port) (k : ℕ) (r : Copied) → IsAmong ports u → slice_get c.reshapes k ≡ Some r → same_part r.to.part part ≡ true → same r.to.port u.name ≡ true → ReshapeFits u r

-- reshapes with their numbers
abbrev pub numbered : List Numbered → List (ℕ × Copied)
numbered vs = map (λ (v : Numbered). (v.item, v.reshape.now)) vs

-- these are reshapes into this part
abbrev pub AreInto : Compound → Option (List ℕ) → List Numbered → Type 0
AreInto c part vs = AllByRecursion (λ (v : Numbered). (slice_get c.reshapes v.item ≡ Some v.reshape.now) × (same_part v.reshape.now.to.part part ≡ true)) vs

-- each of them into the port fits it
abbrev pub IntoFits : Port → List Numbered → Type 0
IntoFits u vs = AllByRecursion (λ (v : Numbered). same v.reshape.now.to.port u.name ≡ true → ReshapeFits u v.reshape.now) vs
