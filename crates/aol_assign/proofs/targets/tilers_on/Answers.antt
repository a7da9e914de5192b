use Rattle.std.proofs.Common.{◌≡◌, ◌+◌, ◌<◌, List, length, get_or, sym, ◌∙◌, ap, refl, arith, subst}
use Rattle.std.specs.Global.{Vec}
use Rattle.aol_assign.specs.declared.pairs.Member.{Member}
use Rattle.aol_assign.proofs.Collecting.{HasTilers, tiler_pushed, tiler_left, tiler_gone}
use Rattle.aol_assign.proofs.targets.tilers_on.Goals as goal
use Rattle.aol_assign.proofs.targets.tilers_on.Goals.{then-are_same+in-Some+in_ok-push, then-are_same+in_default, else-are_same}

pub loop-number-preserved : goal.loop-number-preserved
loop-number-preserved c =
    let t = c.args.task.now in
    let inner = c.args.inner.now in
    let y = c.args.output.now in
    let i = c.loop-number.number in
    let o = c.on-item.result in
    let many : length c.as_slice-on-items.result.now ≡ length t.tilers = ap length c.as_slice-on-items.ensures in
    let lt : i < length t.tilers = omega (arith, many) in
    let is : o ≡ get_or t.tilers i o = c.on-item.is ∙ ap (λ xs. get_or xs i o) c.as_slice-on-items.ensures in
    let P : List Member → Type 0 = λ bs. HasTilers t inner y (i + 1) bs in
    elim c.if-are_same.branch [
      | then-are_same+in-Some+in_ok-push w ↦
          tiler_pushed t inner y c.requires.fits i o lt is c.loop-number.members.items c.loop-number.invariant
          _ c.if-are_same.members.items w.push.new.self.items (ap items w.members-is) w.in_ok-push.ensures.items (sym c.are_same.ensures ∙ w.if-are_same.true) refl refl refl (sym w.in-Some.ensures)
      | then-are_same+in_default w ↦
          subst P (ap items (sym w.members-is)) (tiler_gone t inner y c.requires.fits i o lt is c.loop-number.members.items c.loop-number.invariant (sym c.are_same.ensures ∙ w.if-are_same.true) (sym w.in_default.ensures))
      | else-are_same w ↦
          subst P (ap items (sym w.members-is)) (tiler_left t inner y c.requires.fits i o lt is c.loop-number.members.items c.loop-number.invariant (sym c.are_same.ensures ∙ w.if-are_same.false))
    ]
  where
    items : Vec Member → List Member
    items v = v.items
