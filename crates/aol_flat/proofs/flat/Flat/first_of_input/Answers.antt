use Rattle.std.proofs.Common.{rules, ◌≡◌, ◌<◌, ◌+◌, ◌*◌, ◌^◌, ℕ, length, get_or, sym, ◌∙◌, ap, subst, arith}
use Rattle.aol_flat.specs.declared.cells.Begins.{Begins}
use Rattle.aol_flat.specs.Laid.{Laid}
use Rattle.aol_flat.specs.NodeTable.{HasInput, IsFirstOfInput}
use Rattle.aol_flat.proofs.CellTable.{input_within, input_first}
use Rattle.aol_flat.proofs.flat.Flat.first_of_input.Goals as goal

-- no ports
abbrev none : Begins
none = record { ins = 0; outs = 0 }

pub bounds-as_slice-number : goal.bounds-as_slice-number
bounds-as_slice-number c =
    let f = c.self.inside in
    let t = c.self.invariant in
    let has : HasInput f.model c.args.number c.args.port = subst (λ (laid : Laid). HasInput laid.model c.args.number c.args.port) (sym c.self.view_is) c.requires in
    let within = input_within f.model t.limits f.tables.rows t.nodes_are.rows f.tables.cells t.nodes_are.cells c.args.number none c.args.port has in
    omega (arith, within.0, ap length c.as_slice.ensures)

pub overflow_add-result : goal.overflow_add-result
overflow_add-result c =
    let f = c.self.inside in
    let t = c.self.invariant in
    let has : HasInput f.model c.args.number c.args.port = subst (λ (laid : Laid). HasInput laid.model c.args.number c.args.port) (sym c.self.view_is) c.requires in
    let within = input_within f.model t.limits f.tables.rows t.nodes_are.rows f.tables.cells t.nodes_are.cells c.args.number none c.args.port has in
    let begin : (get_or c.as_slice.result.now c.args.number none).ins ≡ (get_or f.tables.cells.begins c.args.number none).ins = ap (λ bs. (get_or bs c.args.number none).ins) c.as_slice.ensures in
    let inside : (get_or c.as_slice.result.now c.args.number none).ins + c.args.port < length c.as_slice-2.result.now = omega (arith, within.1, begin, ap length c.as_slice-2.ensures) in
    let few : (get_or c.as_slice.result.now c.args.number none).ins + c.args.port < 2 ^ 64 = omega (arith, inside, c.as_slice-2.type_inv.0) in
    search rules

pub offset_bounds-as_slice-begins : goal.offset_bounds-as_slice-begins
offset_bounds-as_slice-begins c =
    let f = c.self.inside in
    let t = c.self.invariant in
    let has : HasInput f.model c.args.number c.args.port = subst (λ (laid : Laid). HasInput laid.model c.args.number c.args.port) (sym c.self.view_is) c.requires in
    let within = input_within f.model t.limits f.tables.rows t.nodes_are.rows f.tables.cells t.nodes_are.cells c.args.number none c.args.port has in
    let begin : (get_or c.as_slice.result.now c.args.number none).ins ≡ (get_or f.tables.cells.begins c.args.number none).ins = ap (λ bs. (get_or bs c.args.number none).ins) c.as_slice.ensures in
    let inside : (get_or c.as_slice.result.now c.args.number none).ins + c.args.port < length c.as_slice-2.result.now = omega (arith, within.1, begin, ap length c.as_slice-2.ensures) in
    let few : ((get_or c.as_slice.result.now c.args.number none).ins + c.args.port) * 4 < 2 ^ 64 = omega (arith, inside, c.as_slice-2.type_inv.1) in
    search rules

pub bounds-as_slice-begins : goal.bounds-as_slice-begins
bounds-as_slice-begins c =
    let f = c.self.inside in
    let t = c.self.invariant in
    let has : HasInput f.model c.args.number c.args.port = subst (λ (laid : Laid). HasInput laid.model c.args.number c.args.port) (sym c.self.view_is) c.requires in
    let within = input_within f.model t.limits f.tables.rows t.nodes_are.rows f.tables.cells t.nodes_are.cells c.args.number none c.args.port has in
    let begin : (get_or c.as_slice.result.now c.args.number none).ins ≡ (get_or f.tables.cells.begins c.args.number none).ins = ap (λ bs. (get_or bs c.args.number none).ins) c.as_slice.ensures in
    let inside : (get_or c.as_slice.result.now c.args.number none).ins + c.args.port < length c.as_slice-2.result.now = omega (arith, within.1, begin, ap length c.as_slice-2.ensures) in
    inside

pub returns : goal.returns
returns c =
    let f = c.self.inside in
    let t = c.self.invariant in
    let number = c.args.number in
    let k = c.args.port in
    let first : ℕ = get_or f.tables.cells.firsts ((get_or f.tables.cells.begins number none).ins + k) 0 in
    let is : first ≡ get_or c.as_slice-2.result.now ((get_or c.as_slice.result.now number none).ins + k) 0 =
    ap (λ bs. get_or f.tables.cells.firsts ((get_or bs number none).ins + k) 0) (sym c.as_slice.ensures)
    ∙ ap (λ firsts. get_or firsts ((get_or c.as_slice.result.now number none).ins + k) 0) (sym c.as_slice-2.ensures) in
    subst (IsFirstOfInput c.args.self.now.model number k) is
    (subst (λ (laid : Laid). IsFirstOfInput laid.model number k first) c.self.view_is
    (input_first f.model t.limits f.tables.rows t.nodes_are.rows f.tables.cells t.nodes_are.cells number none k))
