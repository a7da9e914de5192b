use Rattle.std.proofs.Common.{◌≡◌, ℕ, ◌+◌, sym, ◌∙◌, ap, arith, subst}
use Rattle.aol_assign.specs.ReadsSoFar.{AreGivenBefore}
use Rattle.aol_assign.proofs.LeafNumbers.{after_leaf}
use Rattle.aol_assign.proofs.reads.test_instances.Goals as goal

pub returns : goal.returns
returns c =
    let row = c.leaf-row.result.now in
    let all : c.loop-number.number ≡ row.count = omega arith in
    let P : ℕ → Type 0 = λ n. AreGivenBefore c.args.flat.now.model n in
    subst P (ap (λ n. row.base + n) all ∙ sym (after_leaf c.args.flat.now.model c.args.leaf row c.leaf-row.ensures)) c.loop-number.invariant.given
