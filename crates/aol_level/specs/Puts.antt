-- What an instance puts into the cells of its worker's share.
use Rattle.std.specs.Prelude.{◌≡◌, ℕ, ◌+◌, ℤ, List, [], ◌∷◌, map, flat_map, slice_set, pos, Option, Some, None}
use Rattle.std.specs.List.{enumerate_from, sum_by}
use Rattle.aol_shape.specs.Shape.{size, points}
use Rattle.aol_expr_tree.specs.declared.port.Port.{Port}
use Rattle.aol_expr_tree.specs.declared.value.Site.{Site}
use Rattle.aol_expr_tree.specs.declared.value.Val.{Val}
use Rattle.aol_expr_tree.specs.declared.value.Val.TheVariants.{Num}
use Rattle.aol_expr_tree.specs.Meaning.{value}
use Rattle.aol_eval.specs.declared.resolution.Resolved.{Resolved}
use Rattle.aol_eval.specs.Computed.{computed as computed_by}
use Rattle.aol_model_types.specs.declared.task.Elementary.{Elementary}
use Rattle.aol_model_types.specs.declared.task.OutPort.{OutPort}
use Rattle.aol_flat.specs.InstanceValue.{computed, first_fault}
use Rattle.aol_flat.specs.declared.view.Read.{Read}
use Rattle.aol_flat.specs.declared.view.Read.TheVariants.{Cell, Const}
use Rattle.aol_scatter.specs.Cells.{cell, IsHeld}
use Rattle.aol_level.specs.declared.outputs.Ready.{Ready}
use Rattle.aol_level.specs.declared.kept.Kept.{Kept}

-- a value of this worker
abbrev pub kept_by : ℕ → Val → Kept
kept_by worker v = record { val = v; worker = worker }

-- these put one after another, from a place on
abbrev pub put_from : List Kept → ℕ → List Kept → List Kept
put_from old place [] = old
put_from old place (x ∷ xs) = put_from (slice_set old place x) (place + 1) xs

-- the resolved expression has the value of the output's
abbrev pub IsPlan : List Port → OutPort → Resolved → Type 0
IsPlan ins out plan = (nums : List ℤ) (at : List ℕ) → computed_by plan nums at ≡ value (record { ins = ins; nums = nums; at = at }) [] out.expr

-- one for each output
abbrev pub ArePlans : List Port → List OutPort → List Resolved → Type 0
ArePlans ins [] [] = Unit {0}
ArePlans ins [] (plan ∷ plans) = ⊥
ArePlans ins (out ∷ outs) [] = ⊥
ArePlans ins (out ∷ outs) (plan ∷ plans) = IsPlan ins out plan × ArePlans ins outs plans

-- how many elements some outputs have
abbrev pub elements : List OutPort → ℕ
elements outs = sum_by (λ (o : OutPort). size o.port.shape) outs

-- the values of an output port with its number, where the inputs have no fault
abbrev pub port_values : ℕ → Elementary → List ℤ → ℕ × OutPort → List Val
port_values task e nums o = map (computed task e nums o.0 o.1) (points o.1.port.shape)

-- those of the output ports from number k on
abbrev pub values_from : ℕ → Elementary → List ℤ → ℕ → List OutPort → List Val
values_from task e nums k outs = flat_map (port_values task e nums) (enumerate_from k outs)

-- ---- what an instance takes

-- a read is of a cell that is held, or a default number
abbrev pub CanTake : List (Option Kept) → Read → Type 0
CanTake cells (Cell c) = IsHeld cells c
CanTake cells (Const n) = Unit {0}

-- the value in a held cell
abbrev pub value_in : Option Kept → Val
value_in (Some kept) = kept.val
value_in None = Num (pos 0)

-- what a read takes from held cells
abbrev pub value_held : List (Option Kept) → Read → Val
value_held cells (Cell c) = value_in (cell cells c)
value_held cells (Const n) = Num n

-- the fault, or else that of the value
abbrev pub fault_then : Option Site → Val → Option Site
fault_then (Some s) v = Some s
fault_then None v = first_fault (v ∷ [])

-- ---- a task made ready

-- its outputs' expressions are resolved, and its output elements are counted
pub record IsReady (task : Elementary) (ready : Ready) : Type 0 where
  pub plans : ArePlans task.ins task.outs ready.plans.items
  pub count : ready.count ≡ elements task.outs
