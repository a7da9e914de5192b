-- What an instance of an elementary task computes from the values of its inputs.
use Rattle.std.specs.Prelude.{ℕ, ℤ, pos, List, [], ◌∷◌, map, flat_map, take, drop, Bool, true, ◌&&◌, Option, Some, None, unwrap_or, Result, Ok, Err, slice_get, if◌then◌else◌}
use Rattle.std.specs.List.{list_all, enumerate_from}
use Rattle.aol_shape.specs.Shape.{size, rank, points}
use Rattle.aol_expr_tree.specs.declared.port.Port.{Port}
use Rattle.aol_expr_tree.specs.declared.value.Kind.{Kind}
use Rattle.aol_expr_tree.specs.declared.value.Kind.TheVariants.{Range}
use Rattle.aol_expr_tree.specs.declared.value.Site.{Site}
use Rattle.aol_expr_tree.specs.declared.value.Val.{Val}
use Rattle.aol_expr_tree.specs.declared.value.Val.TheVariants.{Num, Bad}
use Rattle.aol_expr_tree.specs.declared.value.Width.{Width}
use Rattle.aol_expr_tree.specs.declared.value.Width.TheVariants.{Int64}
use Rattle.aol_expr_tree.specs.Meaning.{value, holds}
use Rattle.aol_model_types.specs.declared.task.Elementary.{Elementary}
use Rattle.aol_model_types.specs.declared.task.OutPort.{OutPort}

-- the first fault of some values
abbrev pub first_fault : List Val → Option Site
first_fault [] = None
first_fault (Num z ∷ vs) = first_fault vs
first_fault (Bad s ∷ vs) = Some s

-- a value as a number; a fault is none
abbrev pub number_of : Val → ℤ
number_of (Num z) = z
number_of (Bad s) = pos 0

-- the numbers of each port are held by its width; they stand one port after another, each in order of rank
abbrev pub all_hold : List Port → List Width → List ℤ → Bool
all_hold [] ws nums = true
all_hold (p ∷ ps) [] nums = true
all_hold (p ∷ ps) (w ∷ ws) nums = list_all (holds w) (take (size p.shape) nums) && all_hold ps ws (drop (size p.shape) nums)

-- the width of port k; where none is listed, 64 bits
abbrev pub width_at : List Width → ℕ → Width
width_at ws k = unwrap_or (slice_get ws k) Int64

-- a fault of this kind at point x of output port k, which is `out`, of the elementary task with this number
abbrev pub fault_at : ℕ → ℕ → OutPort → List ℕ → Kind → Val
fault_at task k out x kind = Bad (record { kind = kind; task = task; port = k; point = rank out.port.shape x })

-- the value of an expression as a port's: its number where the width holds that; else the fault `range`, or the expression's own
abbrev pub in_width : Width → (Kind → Val) → Result ℤ Kind → Val
in_width w fault (Ok z) = if holds w z then Num z else fault Range
in_width w fault (Err kind) = fault kind

-- the element at point x of output port k, which is `out`, for these input numbers, by port and rank
abbrev pub computed : ℕ → Elementary → List ℤ → ℕ → OutPort → List ℕ → Val
computed task e nums k out x =
    if all_hold e.ins e.wide_in nums
    then in_width (width_at e.wide_out k) (fault_at task k out x) (value (record { ins = e.ins; nums = nums; at = x }) [] out.expr)
    else fault_at task k out x Range

-- a fault, or else a value
abbrev pub fault_or : Option Site → Val → Val
fault_or (Some s) v = Bad s
fault_or None v = v

-- the same for any input values: the first fault among them is the value of every output element
abbrev pub instance_value : ℕ → Elementary → List Val → ℕ → OutPort → List ℕ → Val
instance_value task e ins k out x = fault_or (first_fault ins) (computed task e (map number_of ins) k out x)

-- the elements of all output ports, by port and rank
abbrev pub instance_outputs : ℕ → Elementary → List Val → List Val
instance_outputs task e ins = flat_map (λ (o : ℕ × OutPort). map (instance_value task e ins o.0 o.1) (points o.1.port.shape)) (enumerate_from 0 e.outs)
