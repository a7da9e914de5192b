use Rattle.std.proofs.Common.{arith, ◌<◌, ◌∙◌, length, get_or, ap}
use Rattle.std.specs.Prelude.{slice_set}
use Rattle.aol_equiv.specs.Table.{given_at}
use Rattle.aol_equiv.proofs.MainLeads.{given_more, own_spot}
use Rattle.aol_equiv.proofs.table.put_inputs.Goals as goal

pub loop-number-preserved : goal.loop-number-preserved
loop-number-preserved c =
    let n = c.loop-number.number in
    let p = get_or c.args.spots.now n (0, 0) in
    let lt : n < length c.args.spots.now = omega arith in
    let lt' : n < length c.args.leads.now = omega (arith, c.requires) in
    ap (λ xs. slice_set xs n (given_at p)) c.loop-number.invariant ∙ given_more c.args.spots.now c.args.leads.now n p lt lt' (own_spot c.args.spots.now n (0, 0) lt)
