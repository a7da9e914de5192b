use Rattle.std.proofs.Common.{rules, ◌<◌, ◌^◌, length, ◌∙◌, ap, arith}
use Rattle.aol_flat.specs.Instance.{leaves}
use Rattle.aol_flat.specs.Laid.{Laid}
use Rattle.aol_flat.proofs.Laying.{count_leaves}
use Rattle.aol_flat.proofs.flat.Flat.leaves.Goals as goal

pub overflow_cast-result : goal.overflow_cast-result
overflow_cast-result c =
    let f = c.self.inside in
    let all = count_leaves f.model f.leaves f.instances f.tables c.self.invariant in
    let few : c.len.result < 2 ^ 32 = omega (arith, all.0, all.1, c.len.ensures) in
    search rules

pub returns : goal.returns
returns c =
    let f = c.self.inside in
    c.len.ensures ∙ ((count_leaves f.model f.leaves f.instances f.tables c.self.invariant).0 ∙ ap (λ (laid : Laid). length (leaves laid.model)) c.self.view_is)
