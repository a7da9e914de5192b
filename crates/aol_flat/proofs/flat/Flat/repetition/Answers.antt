use Rattle.std.proofs.Common.{◌∷◌, length, ap, subst, arith}
use Rattle.aol_model_types.specs.declared.task.Task.{Task}
use Rattle.aol_flat.specs.Node.{Node, ToBody}
use Rattle.aol_flat.specs.NodeTable.{IsNode}
use Rattle.aol_flat.proofs.NodeAt.{not_root}
use Rattle.aol_flat.proofs.Repetitions.{reached_body, reached_part, body_longer, repetition_split}
use Rattle.aol_flat.proofs.flat.Flat.repetition.Goals as goal

pub unreachable-requires : goal.unreachable-requires
unreachable-requires c =
    let m = c.args.self.now.model in
    let sound = c.task.ensures.flat.sound in
    let q = c.requires in
    let above = c.task.ensures.task in
    let node : Node = ToBody q.1.space ∷ q.0 in
    let some = not_root m sound c.args.number c.row-up.result (ToBody q.1.space) q.0 q.2 c.row-up.ensures q.3 in
    let p = reached_part m sound c.args.number c.row-up.result node q.2 some c.row-up.ensures q.3 c.task.result.now above.0 c.in_default.not-Repeated above.1 in
    let e = p.is in
    cc

pub overflow_sub-at : goal.overflow_sub-at
overflow_sub-at c =
    let m = c.args.self.now.model in
    let sound = c.task.ensures.flat.sound in
    let q = c.requires in
    let above = c.task.ensures.task in
    let node : Node = ToBody q.1.space ∷ q.0 in
    let P : Task → Type 0 = λ x. IsNode m c.row-up.result.up above.0 x in
    let some = not_root m sound c.args.number c.row-up.result (ToBody q.1.space) q.0 q.2 c.row-up.ensures q.3 in
    let b = reached_body m sound c.args.number c.row-up.result node q.2 some c.row-up.ensures q.3 c.in-Repeated.task above.0 (subst P c.in-Repeated.is above.1) in
    let longer = body_longer c.args.number c.row-up.result.up node above.0 c.in-Repeated.task c.args.at.now b q.4 in
    omega (arith, longer, ap length c.as_slice.ensures.entries)

pub returns-clause-place : goal.returns-clause-place
returns-clause-place c =
    let m = c.args.self.now.model in
    let sound = c.task.ensures.flat.sound in
    let q = c.requires in
    let above = c.task.ensures.task in
    let node : Node = ToBody q.1.space ∷ q.0 in
    let P : Task → Type 0 = λ x. IsNode m c.row-up.result.up above.0 x in
    let some = not_root m sound c.args.number c.row-up.result (ToBody q.1.space) q.0 q.2 c.row-up.ensures q.3 in
    let b = reached_body m sound c.args.number c.row-up.result node q.2 some c.row-up.ensures q.3 c.in-Repeated.task above.0 (subst P c.in-Repeated.is above.1) in
    repetition_split m c.args.number c.row-up.result.up (length c.as_slice.result.now) node above.0 q.2 c.in-Repeated.task c.args.at.now c.split_at.result.0.now c.split_at.result.1.now
    q.3 (subst P c.in-Repeated.is above.1) b q.4 (ap length c.as_slice.ensures.entries) c.split_at.ensures.front c.split_at.ensures.back
