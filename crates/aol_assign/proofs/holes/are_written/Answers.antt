use Rattle.std.proofs.Common.{◌≡◌, Some, None, slice_get, ap, ◌∙◌, arith, inl, inr}
use Rattle.std.proofs.lemmas.Bool.{cases_lt}
use Rattle.std.proofs.lemmas.Option.{slice_get-get_or}
use Rattle.aol_assign.proofs.holes.are_written.Goals as goal

pub loop-cell-preserved : goal.loop-cell-preserved
loop-cell-preserved c k past before =
    let list = c.args.list.now in
    let here : slice_get list c.loop-cell.cell ≡ Some (Some c.in-Some._writer) = slice_get-get_or list c.loop-cell.cell None c.loop-cell-test.true ∙ ap Some c.in-Some.is in
    elim (cases_lt k c.loop-cell.cell) [
      | inl lt ↦ c.loop-cell.invariant k past lt
      | inr at ↦ (c.in-Some._writer, ap (slice_get list) (omega (arith, at, before)) ∙ here)
    ]
