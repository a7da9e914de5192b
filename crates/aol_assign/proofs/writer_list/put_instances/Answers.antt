use Rattle.std.proofs.Common.{◌≡◌, ℕ, ◌+◌, sym, ◌∙◌, ap, arith, subst}
use Rattle.aol_assign.specs.WriterList.{HasWriters}
use Rattle.aol_assign.proofs.LeafNumbers.{after_leaf}
use Rattle.aol_assign.proofs.writer_list.put_instances.Goals as goal

pub returns : goal.returns
returns c =
    let row = c.leaf-row.result.now in
    let all : c.loop-number.number ≡ row.count = omega arith in
    let P : ℕ → Type 0 = λ n. HasWriters c.args.flat.now n c.loop-number.list in
    subst P (ap (λ n. row.base + n) all ∙ sym (after_leaf c.args.flat.now.model c.args.leaf row c.leaf-row.ensures)) c.loop-number.invariant.has
