use Rattle.std.proofs.Common.{◌≡◌, pos, false, ap, sym, ◌∙◌}
use Rattle.std.specs.Prelude.{nat_abs}
use Rattle.std.specs.Int.Signed.{lt_z}
use mir.Syntax.{w32}
use mir.Val.{of_z, to_z}
use Rattle.aol_tiler.proofs.Entries.{to_z_back}
use Rattle.aol_assign.proofs.MixedRadix.{steps_further}
use Rattle.aol_assign.proofs.apart.step.Goals as goal

pub returns-then-outer-limit-clause-steps : goal.returns-then-outer-limit-clause-steps
returns-then-outer-limit-clause-steps c =
    let z = c.args.entry in
    let back : to_z w32 (of_z w32 z) ≡ z = to_z_back w32 z c.ranges.entry in
    let low : lt_z z (pos 0) ≡ false = sym (ap (λ y. lt_z y (pos 0)) back) ∙ c.if-entry-lt0.false in
    steps_further z c.args.extent c.args.inner c.from-further.result c.from.result low (c.from-further.ensures ∙ (c.unsigned_abs.ensures.value ∙ ap nat_abs back)) c.if-further-inner.false c.from.ensures
