use Rattle.std.proofs.Common.{rules, ◌<◌, ◌^◌, ℕ, refl, arith}
use Rattle.aol_shape.specs.Shape.{size}
use Rattle.aol_flat.specs.declared.view.Read.{Read}
use Rattle.aol_flat.specs.Follow.{element_on, IsReadOfInput}
use Rattle.aol_flat.proofs.FirstOnes.{first_more}
use Rattle.aol_flat.proofs.flat.Flat.reads_at_port.Goals as goal

pub overflow_cast-x : goal.overflow_cast-x
overflow_cast-x c =
    let small : c.loop-x.x < 2 ^ 32 = omega (arith, c.requires.few) in
    search rules

pub follow_input-requires : goal.follow_input-requires
follow_input-requires c =
    let p = c.requires in
    let low : c.loop-x.x < size p.port.shape = omega (arith, p.many_is) in
    (element_on p.node c.args.at.now p.port c.loop-x.x, record { node = p.node; task = p.task; at_node = p.at_node; port = p.port; listed = p.listed; around = p.around; within = low; is = refl })

pub loop-x-preserved : goal.loop-x-preserved
loop-x-preserved c =
    let P : ℕ → Read → Type 0 = λ x y. IsReadOfInput c.args.self.now c.args.node c.args.port c.args.at.now x y in
    first_more P c.loop-x.into c.loop-x.x c.follow_input.result (omega arith) c.loop-x.invariant c.follow_input.ensures
