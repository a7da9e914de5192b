use Rattle.std.proofs.Common.{◌≡◌, ℕ, take, length, sym, ◌∙◌, ap, subst, arith}
use Rattle.std.proofs.lemmas.List.{take_all}
use Rattle.aol_flat.specs.Instance.{leaves, instances}
use Rattle.aol_flat.specs.Leaves.{instances_of}
use Rattle.aol_flat.proofs.Totals.{length-instances}
use Rattle.aol_equiv.specs.Compared.{AreKeptBefore}
use Rattle.aol_equiv.proofs.compare.test_leaves.Goals as goal

pub returns : goal.returns
returns c =
    let s = c.args.sides.now in
    let m = s.new.now.model in
    let all : instances_of (take c.loop-leaf.leaf (leaves m)) ≡ length (instances m) =
    ap instances_of (take_all c.loop-leaf.leaf (leaves m) (omega (arith, c.leaves-leaf-end.ensures))) ∙ sym (length-instances m) in
    let P : ℕ → Type 0 = λ n. AreKeptBefore s n in
    subst P all c.loop-leaf.invariant
