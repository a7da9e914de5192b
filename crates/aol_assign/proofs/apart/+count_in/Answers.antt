use Rattle.std.proofs.Common.{◌≡◌, pos, get_or, ap, ◌∙◌, rules}
use mir.Syntax.{w32}
use mir.Val.{SFits, of_z, to_z}
use Rattle.aol_tiler.specs.Sums.{entry}
use Rattle.aol_tiler.proofs.Entries.{to_z_back}
use Rattle.aol_assign.proofs.MixedRadix.{counts_more}
use Rattle.aol_assign.proofs.apart.+count_in.Goals as goal

pub returns-in_ok-middle-in-Some-Some-clause-counts : goal.returns-in_ok-middle-in-Some-Some-clause-counts
returns-in_ok-middle-in-Some-Some-clause-counts t c =
    let h = c.in-Some-Some in
    let z = get_or c.as_slice.result.now c.args.k (pos 0) in
    let fits : SFits w32 z = search rules in
    let same : to_z w32 (of_z w32 z) ≡ entry c.in-Some-Some.column.now c.args.k = to_z_back w32 z fits ∙ ap (λ v. get_or v c.args.k (pos 0)) c.as_slice.ensures.entries in
    counts_more c.args.columns.now c.args.extents.now h.column.now h.columns.now h.extent.now h.extents.now c.args.k c.args.inner c.in_ok-middle-in-Some-Some.middle _ h.ensures.cases.0 h.ensures'.cases.0 c.in_ok-middle-in-Some-Some.ensures.counts
    same c.step.result c.step.ensures.steps
