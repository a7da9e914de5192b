use Rattle.std.proofs.Common.{◌≡◌, ◌<◌, length, get_or, ◌∙◌, ap, subst, arith}
use Rattle.aol_flat.specs.Instance.{leaves}
use Rattle.aol_flat.specs.Laid.{Laid}
use Rattle.aol_flat.specs.Leaves.{IsLeafRow}
use Rattle.aol_flat.proofs.Laying.{count_leaves, leaf_row}
use Rattle.aol_flat.proofs.flat.Flat.leaf.Goals as goal

pub bounds-as_slice-number : goal.bounds-as_slice-number
bounds-as_slice-number c =
    let f = c.self.inside in
    let all = count_leaves f.model f.leaves f.instances f.tables c.self.invariant in
    let seen : length (leaves f.model) ≡ length (leaves c.args.self.now.model) = ap (λ (laid : Laid). length (leaves laid.model)) c.self.view_is in
    omega (arith, all.0, seen, ap length c.as_slice.ensures, c.requires)

pub returns : goal.returns
returns c =
    let f = c.self.inside in
    let row = c.index-as_slice-number.result in
    let seen : length (leaves f.model) ≡ length (leaves c.args.self.now.model) = ap (λ (laid : Laid). length (leaves laid.model)) c.self.view_is in
    let within : c.args.number < length (leaves f.model) = omega (arith, seen, c.requires) in
    let is : row ≡ get_or f.leaves c.args.number row = c.index-as_slice-number.is ∙ ap (λ rows. get_or rows c.args.number row) c.as_slice.ensures in
    subst (λ (laid : Laid). IsLeafRow laid.model c.args.number row) c.self.view_is (leaf_row f.model f.leaves f.instances f.tables c.self.invariant c.args.number row within is)
