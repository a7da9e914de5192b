use Rattle.std.proofs.Common.{not, sym, ◌∙◌, ap, arith}
use Rattle.aol_assign.specs.Holes.{is_given_by}
use Rattle.aol_assign.proofs.ReadingPlaces.{cells_on}
use Rattle.aol_assign.proofs.holes.first_bare.Goals as goal

pub loop-number-preserved : goal.loop-number-preserved
loop-number-preserved c =
    c.loop-number.invariant
    ∙ cells_on (λ r. not (is_given_by c.args.list.now c.args.inputs r)) c.args.inputs c.args.count c.loop-number.number (omega arith)
    (ap not (sym c.is_given.ensures ∙ c.if-not-is_given.false))
