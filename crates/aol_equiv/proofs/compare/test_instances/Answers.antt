use Rattle.std.proofs.Common.{◌≡◌, ◌<◌, ℕ, ◌+◌, sym, ◌∙◌, ap, arith, subst}
use Rattle.aol_assign.proofs.LeafNumbers.{after_leaf}
use Rattle.aol_equiv.specs.Compared.{AreKeptBefore}
use Rattle.aol_equiv.proofs.compare.test_instances.Goals as goal

pub test_one-requires-clause-spots : goal.test_one-requires-clause-spots
test_one-requires-clause-spots c =
    let lt : c.loop-number.number < c.leaf-row.result.now.count = omega arith in
    c.requires.spots c.leaf-row.result.now c.loop-number.number c.leaf-row.ensures lt

pub returns : goal.returns
returns c =
    let row = c.leaf-row.result.now in
    let s = c.args.sides.now in
    let all : c.loop-number.number ≡ row.count = omega arith in
    let P : ℕ → Type 0 = λ n. AreKeptBefore s n in
    subst P (ap (λ n. row.base + n) all ∙ sym (after_leaf s.new.now.model c.args.leaf row c.leaf-row.ensures)) c.loop-number.invariant.kept
