use Rattle.std.proofs.Common.{length, ◌∙◌, ap}
use Rattle.aol_flat.specs.Laid.{Laid}
use Rattle.aol_flat.proofs.CellTable.{count_cells}
use Rattle.aol_flat.proofs.flat.Flat.cells.Goals as goal

pub returns : goal.returns
returns c =
    let f = c.self.inside in
    let t = c.self.invariant in
    c.narrowed.ensures ∙ (count_cells f.model t.limits f.tables.rows t.nodes_are.rows f.tables.cells t.nodes_are.cells ∙ ap (λ (laid : Laid). length laid.cells) c.self.view_is)
