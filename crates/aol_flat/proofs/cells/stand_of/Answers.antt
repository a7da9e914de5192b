use Rattle.std.proofs.Common.{rules, ◌≡◌, ◌<◌, ◌≢◌, length, get_or, ◌∙◌, ap, arith}
use Rattle.aol_model_types.specs.declared.task.Task.{Task}
use Rattle.aol_flat.specs.declared.nodes.NodeRow.{NodeRow}
use Rattle.aol_flat.proofs.NodeRows.{get_or-any}
use Rattle.aol_flat.proofs.Standing.{many_rows, task_there, up_there, stand_inner}
use Rattle.aol_flat.proofs.cells.stand_of.Goals as goal

-- no row
abbrev none : NodeRow
none = record { up = 0; part = 0; task = 0; around = 0; instances = 0 }

pub bounds-rows-number : goal.bounds-rows-number
bounds-rows-number c = omega (arith, many_rows c.args.model.now c.requires.sound c.requires.limits c.args.rows.now c.requires.rows, c.requires.number)

pub offset_bounds-rows-number : goal.offset_bounds-rows-number
offset_bounds-rows-number c =
    let within : c.args.number < length c.args.rows.now = omega (arith, many_rows c.args.model.now c.requires.sound c.requires.limits c.args.rows.now c.requires.rows, c.requires.number) in
    search rules

pub bounds-tasks-row : goal.bounds-tasks-row
bounds-tasks-row c =
    let m = c.args.model.now in
    let r = c.requires in
    let rows = c.args.rows.now in
    let many = many_rows m r.sound r.limits rows r.rows in
    let row : NodeRow = get_or rows c.args.number none in
    let is : row ≡ get_or rows c.args.number row = get_or-any rows c.args.number none row (omega (arith, many, r.number)) in
    omega (arith, task_there m r.sound r.limits rows r.rows c.args.number row r.number is, ap length c.as_slice-tasks.ensures)

pub bounds-rows-row : goal.bounds-rows-row
bounds-rows-row c =
    let m = c.args.model.now in
    let r = c.requires in
    let rows = c.args.rows.now in
    let many = many_rows m r.sound r.limits rows r.rows in
    let row : NodeRow = get_or rows c.args.number none in
    let is : row ≡ get_or rows c.args.number row = get_or-any rows c.args.number none row (omega (arith, many, r.number)) in
    let inner : c.args.number ≢ 0 = search rules in
    omega (arith, many, up_there m r.sound r.limits rows r.rows c.args.number row r.number is inner)

pub bounds-tasks-above : goal.bounds-tasks-above
bounds-tasks-above c =
    let m = c.args.model.now in
    let r = c.requires in
    let rows = c.args.rows.now in
    let many = many_rows m r.sound r.limits rows r.rows in
    let row : NodeRow = get_or rows c.args.number none in
    let is : row ≡ get_or rows c.args.number row = get_or-any rows c.args.number none row (omega (arith, many, r.number)) in
    let inner : c.args.number ≢ 0 = search rules in
    let low = up_there m r.sound r.limits rows r.rows c.args.number row r.number is inner in
    let up : NodeRow = get_or rows row.up none in
    let is_up : up ≡ get_or rows row.up up = get_or-any rows row.up none up (omega (arith, many, low)) in
    omega (arith, task_there m r.sound r.limits rows r.rows row.up up low is_up, ap length c.as_slice-tasks.ensures)

pub returns : goal.returns
returns c =
    let m = c.args.model.now in
    let r = c.requires in
    let rows = c.args.rows.now in
    let many = many_rows m r.sound r.limits rows r.rows in
    let row : NodeRow = get_or rows c.args.number none in
    let is : row ≡ get_or rows c.args.number row = get_or-any rows c.args.number none row (omega (arith, many, r.number)) in
    let inner : c.args.number ≢ 0 = search rules in
    let low = up_there m r.sound r.limits rows r.rows c.args.number row r.number is inner in
    let up : NodeRow = get_or rows row.up none in
    let is_up : up ≡ get_or rows row.up up = get_or-any rows row.up none up (omega (arith, many, low)) in
    let above : Task = c.index-tasks-above.result in
    let is_above : above ≡ get_or m.tasks up.task above = c.index-tasks-above.is ∙ ap (λ ts. get_or ts up.task above) c.as_slice-tasks.ensures in
    stand_inner m r.sound r.limits rows r.rows c.args.number row r.number is up above inner is_up is_above
