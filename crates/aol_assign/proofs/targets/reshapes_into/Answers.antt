use Rattle.std.proofs.Common.{◌≡◌, ◌<◌, List, length, get_or, sym, ◌∙◌, ap, refl, arith}
use Rattle.std.specs.Global.{Vec}
use Rattle.std.specs.Option.{option_copied}
use Rattle.aol_model_types.specs.Rules.{same_part}
use Rattle.aol_assign.specs.declared.targets.Numbered.{Numbered}
use Rattle.aol_assign.proofs.Collecting.{reshape_pushed, reshape_left}
use Rattle.aol_assign.proofs.targets.reshapes_into.Goals as goal
use Rattle.aol_assign.proofs.targets.reshapes_into.Goals.{then-are_at_same+in_ok-push, else-are_at_same}

pub loop-number-preserved : goal.loop-number-preserved
loop-number-preserved c =
    let t = c.args.task.now in
    let part = option_copied c.args.part in
    let i = c.loop-number.number in
    let r = c.reshape-item.result in
    let many : length c.as_slice-reshape-items.result.now ≡ length t.reshapes = ap length c.as_slice-reshape-items.ensures in
    let lt : i < length t.reshapes = omega (arith, many) in
    let is : r ≡ get_or t.reshapes i r = c.reshape-item.is ∙ ap (λ xs. get_or xs i r) c.as_slice-reshape-items.ensures in
    let test : c.are_at_same.result ≡ same_part r.to.part part = c.are_at_same.ensures ∙ ap (λ o. same_part o part) c.as_ref.ensures.value in
    elim c.if-are_at_same.branch [
      | then-are_at_same+in_ok-push w ↦
          reshape_pushed t part i r lt is c.loop-number.into.items c.loop-number.invariant
          _ c.if-are_at_same.into.items w.push.new.self.items (ap items w.into-is) w.in_ok-push.ensures.items (sym test ∙ w.if-are_at_same.true) refl refl
      | else-are_at_same w ↦
          reshape_left t part i r lt is c.loop-number.into.items c.loop-number.invariant
          c.if-are_at_same.into.items (ap items w.into-is) (sym test ∙ w.if-are_at_same.false)
    ]
  where
    items : Vec Numbered → List Numbered
    items v = v.items
