use Rattle.std.proofs.Common.{◌≡◌, ℕ, ◌+◌, sym, ◌∙◌, ap, arith, subst}
use Rattle.aol_equiv.specs.Table.{HasLeads}
use Rattle.aol_assign.proofs.LeafNumbers.{after_leaf}
use Rattle.aol_equiv.proofs.made.lead_copies.Goals as goal

pub returns : goal.returns
returns c =
    let row = c.leaf-row.result.now in
    let all : c.loop-number.number ≡ row.count = omega arith in
    let P : ℕ → Type 0 = λ n. HasLeads c.args.flat.now n c.loop-number.leads in
    subst P (ap (λ n. row.base + n) all ∙ sym (after_leaf c.args.flat.now.model c.args.leaf row c.leaf-row.ensures)) c.loop-number.invariant.has
