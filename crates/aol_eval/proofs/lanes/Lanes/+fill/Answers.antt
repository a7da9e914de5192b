use Rattle.std.proofs.Common.{rules, ◌+◌, ◌<◌, ◌∙◌, sym, arith, w64, FitsSigned, ap, List, ℤ, pos, Ok}
use Rattle.std.proofs.lemmas.Int.{to_z-of_z}
use Rattle.aol_expr_tree.specs.Meaning.{nth_number}
use Rattle.aol_eval.specs.declared.lanes.Lanes.TheFolds.{fold_out-Lanes}
use Rattle.aol_eval.specs.Frames.{numbers_of}
use Rattle.aol_eval.specs.Lanes.{level_lanes, numbers_in}
use Rattle.aol_eval.proofs.Plans.{number_behind}
use Rattle.aol_eval.proofs.lanes.Lanes.+fill.Goals as goal

pub returns-in-Own-2 : goal.returns-in-Own-2
unfolding Rattle.aol_eval.specs.declared.lanes.Lanes.TheViews.out-Lanes denote.Hole.Carrier.out
returns-in-Own-2 t c i below =
    let some : 0 < c.args.depth = first_of (omega arith, search rules, grind arith) in
    let outer = numbers_of c.in-Own-2.outer.now in
    let fits : FitsSigned w64 c.value.result = search rules in
    let own = pos (c.args.from + i) in
    let lanes = ap numbers_in c.in-Own-2.is ∙ fold_out-Lanes (ℤ → List ℤ) level_lanes _ in
    ap Ok (ap (λ (f : ℤ → List ℤ). nth_number (f own) c.args.depth) lanes ∙ number_behind own outer c.args.depth some
    ∙ sym c.value.ensures ∙ sym (to_z-of_z w64 c.value.result fits) ∙ sym (c.fill_same.ensures i below))

pub returns-in-Inside-2 : goal.returns-in-Inside-2
unfolding Rattle.aol_eval.specs.declared.lanes.Lanes.TheViews.out-Lanes denote.Hole.Carrier.out
returns-in-Inside-2 t c i below =
    let some : 0 < c.args.depth = first_of (omega arith, search rules, grind arith) in
    let own = pos (c.args.from + i) in
    let inner = numbers_in c.in-Inside-2.lanes.now own in
    let lanes = ap numbers_in c.in-Inside-2.is ∙ fold_out-Lanes (ℤ → List ℤ) level_lanes _ in
    ap Ok (ap (λ (f : ℤ → List ℤ). nth_number (f own) c.args.depth) lanes ∙ number_behind c.in-Inside-2.field-0 inner c.args.depth some)
    ∙ c.fill.ensures i below
