use Rattle.std.proofs.Common.{rules, ◌≡◌, ◌<◌, ◌+◌, ◌^◌, ℕ, List, [], length, get_or, sym, ◌∙◌, ap, subst, arith}
use Rattle.aol_flat.specs.declared.nodes.NodeRow.{NodeRow}
use Rattle.aol_flat.specs.Laid.{Laid}
use Rattle.aol_flat.specs.NodeTable.{HasPart, IsPartNode}
use Rattle.aol_flat.proofs.NodeRows.{count_rows, get_or-any, in_nodes, part_node, task_steps}
use Rattle.aol_flat.proofs.flat.Flat.below.Goals as goal

-- no row
abbrev none : NodeRow
none = record { up = 0; part = 0; task = 0; around = 0; instances = 0 }

pub bounds-as_slice-number : goal.bounds-as_slice-number
bounds-as_slice-number c =
    let f = c.self.inside in
    let t = c.self.invariant in
    let has : HasPart f.model c.args.number c.args.part = subst (λ (laid : Laid). HasPart laid.model c.args.number c.args.part) (sym c.self.view_is) c.requires in
    omega (arith, count_rows f.model t.sound t.limits f.tables t.nodes_are, in_nodes f.model c.args.number c.args.part has, ap length c.as_slice.ensures)

pub bounds-as_slice-row : goal.bounds-as_slice-row
bounds-as_slice-row c =
    let f = c.self.inside in
    let t = c.self.invariant in
    let has : HasPart f.model c.args.number c.args.part = subst (λ (laid : Laid). HasPart laid.model c.args.number c.args.part) (sym c.self.view_is) c.requires in
    let lt = in_nodes f.model c.args.number c.args.part has in
    let many = count_rows f.model t.sound t.limits f.tables t.nodes_are in
    let row : NodeRow = get_or f.tables.rows c.args.number none in
    let is : row ≡ get_or f.tables.rows c.args.number row = get_or-any f.tables.rows c.args.number none row (omega (arith, many, lt)) in
    let task : (get_or c.as_slice.result.now c.args.number none).task ≡ row.task = ap (λ rows. (get_or rows c.args.number none).task) c.as_slice.ensures in
    omega (arith, task_steps f.model t.sound t.limits f.tables t.nodes_are c.args.number row lt is, task, ap length c.as_slice-2.ensures)

pub bounds-steps-part : goal.bounds-steps-part
bounds-steps-part c =
    let f = c.self.inside in
    let t = c.self.invariant in
    let has : HasPart f.model c.args.number c.args.part = subst (λ (laid : Laid). HasPart laid.model c.args.number c.args.part) (sym c.self.view_is) c.requires in
    let lt = in_nodes f.model c.args.number c.args.part has in
    let many = count_rows f.model t.sound t.limits f.tables t.nodes_are in
    let row : NodeRow = get_or f.tables.rows c.args.number none in
    let is : row ≡ get_or f.tables.rows c.args.number row = get_or-any f.tables.rows c.args.number none row (omega (arith, many, lt)) in
    let own : List ℕ = get_or f.tables.steps row.task [] in
    let is_own : c.as_slice-steps.result.now ≡ own =
    c.as_slice-steps.ensures ∙ (c.index-as_slice-row.is
    ∙ (ap (λ steps. get_or steps (get_or c.as_slice.result.now c.args.number none).task c.index-as_slice-row.result) c.as_slice-2.ensures
    ∙ (ap (λ rows. get_or f.tables.steps (get_or rows c.args.number none).task c.index-as_slice-row.result) c.as_slice.ensures
    ∙ get_or-any f.tables.steps row.task c.index-as_slice-row.result [] (task_steps f.model t.sound t.limits f.tables t.nodes_are c.args.number row lt is)))) in
    let step = part_node f.model t.sound t.limits f.tables t.nodes_are c.args.number c.args.part row is has in
    omega (arith, step.within, ap length is_own)

pub overflow_add-result : goal.overflow_add-result
overflow_add-result c =
    let f = c.self.inside in
    let t = c.self.invariant in
    let has : HasPart f.model c.args.number c.args.part = subst (λ (laid : Laid). HasPart laid.model c.args.number c.args.part) (sym c.self.view_is) c.requires in
    let lt = in_nodes f.model c.args.number c.args.part has in
    let many = count_rows f.model t.sound t.limits f.tables t.nodes_are in
    let row : NodeRow = get_or f.tables.rows c.args.number none in
    let is : row ≡ get_or f.tables.rows c.args.number row = get_or-any f.tables.rows c.args.number none row (omega (arith, many, lt)) in
    let own : List ℕ = get_or f.tables.steps row.task [] in
    let is_own : c.as_slice-steps.result.now ≡ own =
    c.as_slice-steps.ensures ∙ (c.index-as_slice-row.is
    ∙ (ap (λ steps. get_or steps (get_or c.as_slice.result.now c.args.number none).task c.index-as_slice-row.result) c.as_slice-2.ensures
    ∙ (ap (λ rows. get_or f.tables.steps (get_or rows c.args.number none).task c.index-as_slice-row.result) c.as_slice.ensures
    ∙ get_or-any f.tables.steps row.task c.index-as_slice-row.result [] (task_steps f.model t.sound t.limits f.tables t.nodes_are c.args.number row lt is)))) in
    let step = part_node f.model t.sound t.limits f.tables t.nodes_are c.args.number c.args.part row is has in
    let few : c.args.number + get_or c.as_slice-steps.result.now c.args.part 0 < 2 ^ 32 = omega (arith, step.few, ap (λ xs. get_or xs c.args.part 0) is_own) in
    search rules

pub returns : goal.returns
returns c =
    let f = c.self.inside in
    let t = c.self.invariant in
    let has : HasPart f.model c.args.number c.args.part = subst (λ (laid : Laid). HasPart laid.model c.args.number c.args.part) (sym c.self.view_is) c.requires in
    let lt = in_nodes f.model c.args.number c.args.part has in
    let many = count_rows f.model t.sound t.limits f.tables t.nodes_are in
    let row : NodeRow = get_or f.tables.rows c.args.number none in
    let is : row ≡ get_or f.tables.rows c.args.number row = get_or-any f.tables.rows c.args.number none row (omega (arith, many, lt)) in
    let own : List ℕ = get_or f.tables.steps row.task [] in
    let is_own : c.as_slice-steps.result.now ≡ own =
    c.as_slice-steps.ensures ∙ (c.index-as_slice-row.is
    ∙ (ap (λ steps. get_or steps (get_or c.as_slice.result.now c.args.number none).task c.index-as_slice-row.result) c.as_slice-2.ensures
    ∙ (ap (λ rows. get_or f.tables.steps (get_or rows c.args.number none).task c.index-as_slice-row.result) c.as_slice.ensures
    ∙ get_or-any f.tables.steps row.task c.index-as_slice-row.result [] (task_steps f.model t.sound t.limits f.tables t.nodes_are c.args.number row lt is)))) in
    let step = part_node f.model t.sound t.limits f.tables t.nodes_are c.args.number c.args.part row is has in
    let P : List ℕ → Type 0 = λ xs. IsPartNode f.model c.args.number c.args.part (c.args.number + get_or xs c.args.part 0) in
    subst (λ (laid : Laid). IsPartNode laid.model c.args.number c.args.part (c.args.number + get_or c.as_slice-steps.result.now c.args.part 0)) c.self.view_is (subst P (sym is_own) step.leads)
