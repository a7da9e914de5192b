use Rattle.std.proofs.Common.{length, slice_get, slice_range, Some, arith, ap, sym, ◌∙◌}
use Rattle.aol_depend.proofs.Rows.{length-rows_of, IsRow, is_row}
use Rattle.aol_depend.proofs.needs.Needs.of.Goals as goal
use Rattle.aol_depend.proofs.needs.Needs.of.Goals.{After-as_slice}

pub index-requires : goal.index-requires
index-requires c = omega (arith, ap length c.self.view_is, length-rows_of c.self.inside.starts.items c.self.inside.list.items)

pub index-requires-2 : goal.index-requires-2
index-requires-2 c = omega (arith, ap length c.self.view_is, length-rows_of c.self.inside.starts.items c.self.inside.list.items)

row : (c : After-as_slice) → IsRow c.self.inside.starts.items c.self.inside.list.items c.args.number c.index.result.now c.index-2.result.now
row c =
    is_row c.self.inside.starts.items c.self.inside.list.items c.self.invariant c.args.number c.index.result.now c.index-2.result.now
    (omega (arith, ap length c.self.view_is, length-rows_of c.self.inside.starts.items c.self.inside.list.items)) c.index.ensures c.index-2.ensures

pub part_of-requires-clause-order : goal.part_of-requires-clause-order
part_of-requires-clause-order c = (row c).order

pub part_of-requires-clause-within : goal.part_of-requires-clause-within
part_of-requires-clause-within c = omega (arith, (row c).within, ap length c.as_slice.ensures.value)

pub returns-clause-row : goal.returns-clause-row
returns-clause-row c =
    let r = row (goal.at.returns-clause-row c).After-as_slice in
    ap (λ rows. slice_get rows c.args.number) (sym c.self.view_is) ∙ r.is
    ∙ ap (λ xs. Some (slice_range xs c.index.result.now c.index-2.result.now)) (sym c.as_slice.ensures.value) ∙ ap (λ p. Some p) (sym c.part_of.ensures)
