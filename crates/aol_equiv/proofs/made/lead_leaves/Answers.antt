use Rattle.std.proofs.Common.{ℕ, ap, subst, arith}
use Rattle.std.proofs.lemmas.List.{take_all}
use Rattle.aol_flat.specs.Instance.{leaves}
use Rattle.aol_flat.specs.Leaves.{instances_of}
use Rattle.aol_equiv.specs.Table.{HasLeads}
use Rattle.aol_equiv.proofs.made.lead_leaves.Goals as goal

pub returns : goal.returns
returns c =
    let f = c.args.flat.now in
    let P : ℕ → Type 0 = λ n. HasLeads f n c.loop-leaf.leads in
    subst P (ap instances_of (take_all c.loop-leaf.leaf (leaves f.model) (omega (arith, c.leaves-leaf-end.ensures)))) c.loop-leaf.invariant
