use Rattle.std.proofs.Common.{◌≡◌, ℕ, take, length, sym, ◌∙◌, ap, subst, arith}
use Rattle.std.proofs.lemmas.List.{take_all}
use Rattle.aol_flat.specs.Instance.{leaves, instances}
use Rattle.aol_flat.specs.Leaves.{instances_of}
use Rattle.aol_flat.proofs.Totals.{length-instances}
use Rattle.aol_assign.specs.WriterList.{HasWriters}
use Rattle.aol_assign.proofs.WriterLists.{all_put}
use Rattle.aol_assign.proofs.writer_list.put_leaves.Goals as goal

pub returns : goal.returns
returns c =
    let f = c.args.flat.now in
    let P : ℕ → Type 0 = λ n. HasWriters f n c.loop-leaf.list in
    let all : instances_of (take c.loop-leaf.leaf (leaves f.model)) ≡ length (instances f.model) =
    ap instances_of (take_all c.loop-leaf.leaf (leaves f.model) (omega (arith, c.leaves-leaf-end.ensures))) ∙ sym (length-instances f.model) in
    all_put f c.loop-leaf.list (subst P all c.loop-leaf.invariant)
