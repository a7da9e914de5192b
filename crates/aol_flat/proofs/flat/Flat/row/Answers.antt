use Rattle.std.proofs.Common.{◌≡◌, ◌<◌, length, get_or, sym, ap, subst, arith}
use Rattle.aol_flat.specs.declared.nodes.NodeRow.{NodeRow}
use Rattle.aol_flat.specs.Laid.{Laid}
use Rattle.aol_flat.specs.Node.{nodes}
use Rattle.aol_flat.specs.NodeTable.{IsNodeRow}
use Rattle.aol_flat.proofs.NodeRows.{count_rows, get_or-any, node_row}
use Rattle.aol_flat.proofs.flat.Flat.row.Goals as goal

pub bounds-as_slice-number : goal.bounds-as_slice-number
bounds-as_slice-number c =
    let f = c.self.inside in
    let t = c.self.invariant in
    let seen : length (nodes f.model) ≡ length (nodes c.args.self.now.model) = ap (λ (laid : Laid). length (nodes laid.model)) c.self.view_is in
    omega (arith, count_rows f.model t.sound t.limits f.tables t.nodes_are, seen, ap length c.as_slice.ensures, c.requires)

pub returns : goal.returns
returns c =
    let f = c.self.inside in
    let t = c.self.invariant in
    let none : NodeRow = record { up = 0; part = 0; task = 0; around = 0; instances = 0 } in
    let seen : length (nodes f.model) ≡ length (nodes c.args.self.now.model) = ap (λ (laid : Laid). length (nodes laid.model)) c.self.view_is in
    let within : c.args.number < length (nodes f.model) = omega (arith, seen, c.requires) in
    let many = count_rows f.model t.sound t.limits f.tables t.nodes_are in
    let row : NodeRow = get_or f.tables.rows c.args.number none in
    let is : row ≡ get_or f.tables.rows c.args.number row = get_or-any f.tables.rows c.args.number none row (omega (arith, many, within)) in
    let here : row ≡ get_or c.as_slice.result.now c.args.number none = ap (λ rows. get_or rows c.args.number none) (sym c.as_slice.ensures) in
    subst (IsNodeRow c.args.self.now.model c.args.number) here
    (subst (λ (laid : Laid). IsNodeRow laid.model c.args.number row) c.self.view_is (node_row f.model t.sound t.limits f.tables.rows t.nodes_are.rows c.args.number row within is))
