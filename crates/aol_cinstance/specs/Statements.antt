-- The statements of one instance.
use Rattle.std.specs.Prelude.{◌≡◌, ℕ, ◌+◌, ◌*◌, ◌≤◌, ◌^◌, pos, negsuc, List, [], ◌∷◌, ◌++◌, length}
use Rattle.aol_shape.specs.Shape.{size, IsShape}
use Rattle.aol_expr_tree.specs.Tree.{depth}
use Rattle.aol_model_types.specs.declared.task.Elementary.{Elementary}
use Rattle.aol_model_types.specs.declared.task.OutPort.{OutPort}
use Rattle.aol_csyn.specs.declared.program.COp.TheVariants.{Add as Plus, Sub as Minus, Mul as Times, Div as Over, Rem as Rest, Le as AtMost, Eq as Equal}
use Rattle.aol_csyn.specs.Tree.{Expr, num as number, var as variable, tab, cell_v, cell_f, bin as between, Stmt, set_var, put_v, put_f, for_each, stmts}
use Rattle.aol_flat.specs.InstanceValue.{width_at}
use Rattle.aol_lower.specs.Contract.{LeaveFitted, FittedAreFormed}
use Rattle.aol_lower.specs.Lowered.{nought, either, guard}
use Rattle.aol_cinstance.specs.declared.layout.Tables.{Tables}
use Rattle.aol_cinstance.specs.declared.layout.TheConstants.{CELLS, RANK, REST, HELD, VALUE}

-- ---- puts

-- the cell of the output element whose rank stands in the variable, behind so many others of its instance
abbrev pub cell_of : ℕ → ℕ → Expr
cell_of cells start = tab cells (between Plus (variable CELLS) (between Plus (number (pos start)) (variable RANK)))

-- a cell takes a number in V and one in F
abbrev pub put_both : Expr → Expr → Expr → List Stmt
put_both cell v f = put_v cell v ∷ put_f cell f ∷ []

-- the mark of the fault at the output point whose rank stands in the variable; `first` is 4 for each output point before the port
abbrev pub mark_here : ℕ → Expr
mark_here first = between Plus (variable 0) (between Plus (number (pos first)) (between Times (number (pos 4)) (variable RANK)))

-- the cell takes the number in the variable, or the fault
abbrev pub settle : ℕ → ℕ → ℕ → List Stmt
settle cells start first =
    either (between Equal (variable 0) nought) (put_both (cell_of cells start) (variable VALUE) nought) (put_both (cell_of cells start) nought (mark_here first))

-- ---- points

-- the variables from one on take the indices of the point of a shape whose rank stands in another
abbrev pub indices : ℕ → List ℕ → List Stmt
indices k [] = []
indices k (n ∷ shape) =
    set_var k (between Over (variable REST) (number (pos (size shape)))) ∷ set_var REST (between Rest (variable REST) (number (pos (size shape)))) ∷ indices (k + 1) shape

-- those from 2 on take the point whose rank stands in the variable of the loop
abbrev pub point_here : List ℕ → List Stmt
point_here shape = set_var REST (variable RANK) ∷ indices 2 shape

-- ---- output ports

-- one element: its point, its value unless the widths of the inputs are a fault, and its cell
abbrev pub element_here : List ℕ → ℕ → ℕ → ℕ → List Stmt → List Stmt
element_here shape cells start first fitted = point_here shape ++ (set_var 0 (variable HELD) ∷ guard fitted ∷ settle cells start first)

-- all elements of a port
abbrev pub port_loop : List ℕ → ℕ → ℕ → ℕ → List Stmt → Stmt
port_loop shape cells start first fitted = for_each RANK (pos 0) (pos (size shape)) (stmts (element_here shape cells start first fitted))

-- those of the ports from number k on, which come after so many output points of the tasks before and of the ports before
abbrev pub ArePorts : Tables → Elementary → ℕ → ℕ → ℕ → List OutPort → List Stmt → Type 0
ArePorts t e before k start [] body = body ≡ []
ArePorts t e before k start (o ∷ outs) body =
    (fitted : List Stmt) × (rest : List Stmt)
    × (body ≡ port_loop o.port.shape t.cells start (4 * (before + start)) fitted ∷ rest)
    × (IsShape o.port.shape × (depth o.expr ≤ 100))
    × LeaveFitted t.reads e.ins (length o.port.shape) VALUE (width_at e.wide_out k) o.expr fitted
    × FittedAreFormed t.reads e.ins VALUE o.expr fitted
    × (4 * (before + start) ≤ 2 ^ 62)
    × ArePorts t e before (k + 1) (start + size o.port.shape) outs rest

-- ---- an elementary instance

-- each cell takes the fault in the variable
abbrev pub pass_on : ℕ → ℕ → List Stmt
pass_on cells count = for_each RANK (pos 0) (pos count) (stmts (put_both (cell_of cells 0) nought (variable VALUE))) ∷ []

-- the widths of the inputs are tested, and then the ports are computed
abbrev pub compute : List Stmt → List Stmt → List Stmt
compute widths ports = set_var 0 nought ∷ (widths ++ (set_var HELD (variable 0) ∷ ports))

-- the search for the first fault among the inputs; the outputs where there is none, else that fault
abbrev pub computing : ℕ → ℕ → List Stmt → List Stmt → List Stmt → List Stmt
computing cells count search widths ports = search ++ either (between Equal (variable VALUE) nought) (compute widths ports) (pass_on cells count)

-- ---- a copy

-- the entry of its read
abbrev pub entry_read : ℕ → Expr
entry_read entries = tab entries (variable 1)

-- its cell
abbrev pub own_cell : ℕ → Expr
own_cell cells = tab cells (variable CELLS)

-- the cell takes what the read one holds, or a default number
abbrev pub copying : Tables → List Stmt
copying t =
    either (between AtMost nought (entry_read t.reads.entries))
    (put_both (own_cell t.cells) (cell_v (entry_read t.reads.entries)) (cell_f (entry_read t.reads.entries)))
    (put_both (own_cell t.cells) (tab t.reads.numbers (between Minus (number (negsuc 0)) (entry_read t.reads.entries))) nought)
