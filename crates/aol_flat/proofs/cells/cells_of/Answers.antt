use Rattle.std.proofs.Common.{◌≡◌, ◌<◌, ◌≤◌, List, length, get_or, ◌∙◌, ap, arith, subst}
use Rattle.std.proofs.lemmas.List.{take_all}
use Rattle.aol_model_types.specs.declared.task.Task.{Task}
use Rattle.aol_flat.specs.declared.nodes.NodeRow.{NodeRow}
use Rattle.aol_flat.specs.Cells.{AreCellsOf}
use Rattle.aol_flat.specs.Node.{Node, nodes}
use Rattle.aol_flat.proofs.NodeRows.{get_or-any}
use Rattle.aol_flat.proofs.Standing.{many_rows, task_there, row_more}
use Rattle.aol_flat.proofs.cells.cells_of.Goals as goal

-- no row
abbrev none : NodeRow
none = record { up = 0; part = 0; task = 0; around = 0; instances = 0 }

pub bounds-as_slice-row : goal.bounds-as_slice-row
bounds-as_slice-row c =
    let m = c.args.model.now in
    let r = c.requires in
    let rows = c.args.rows.now in
    let i = c.loop-number.number in
    let many = many_rows m r.sound r.limits rows r.rows in
    let lt : i < length (nodes m) = omega (arith, many, c.loop-number-test.true) in
    let row : NodeRow = get_or rows i none in
    let is : row ≡ get_or rows i row = get_or-any rows i none row (omega (arith, c.loop-number-test.true)) in
    omega (arith, task_there m r.sound r.limits rows r.rows i row lt is, ap length c.as_slice.ensures)

pub stand_of-requires-clause-number : goal.stand_of-requires-clause-number
stand_of-requires-clause-number c =
    omega (arith, many_rows c.args.model.now c.requires.sound c.requires.limits c.args.rows.now c.requires.rows, c.loop-number-test.true)

pub loop-number-preserved : goal.loop-number-preserved
loop-number-preserved c =
    let m = c.args.model.now in
    let r = c.requires in
    let rows = c.args.rows.now in
    let i = c.loop-number.number in
    let many = many_rows m r.sound r.limits rows r.rows in
    let lt : i < length (nodes m) = omega (arith, many, c.loop-number-test.true) in
    let row : NodeRow = get_or rows i none in
    let is : row ≡ get_or rows i row = get_or-any rows i none row (omega (arith, c.loop-number-test.true)) in
    let task : Task = c.index-as_slice-row.result in
    let is_task : task ≡ get_or m.tasks row.task task = c.index-as_slice-row.is ∙ ap (λ ts. get_or ts row.task task) c.as_slice.ensures in
    let s = c.stand_of.result in
    row_more m r.sound r.limits rows r.rows i row task c.loop-number.cells c.push_node.new.self s.root s.above.now s.part tt lt is is_task c.stand_of.ensures c.in_ok-push_node.ensures c.loop-number.invariant

pub returns : goal.returns
returns c =
    let m = c.args.model.now in
    let many = many_rows m c.requires.sound c.requires.limits c.args.rows.now c.requires.rows in
    let long : length (nodes m) ≤ c.loop-number.number = omega (arith, many, c.loop-number-test.false) in
    let P : List (Node × Task) → Type 0 = λ ns. AreCellsOf m ns c.loop-number.cells in
    subst P (take_all c.loop-number.number (nodes m) long) c.loop-number.invariant
