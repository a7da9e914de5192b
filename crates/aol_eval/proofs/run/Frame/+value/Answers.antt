use Rattle.std.proofs.Common.{rules, ◌≡◌, ◌∷◌, ◌<◌, ◌∙◌, sym, arith, w64, FitsSigned, ap, List, ℤ}
use Rattle.std.proofs.lemmas.Int.{to_z-of_z}
use Rattle.aol_eval.specs.declared.run.Frame.TheFolds.{fold_out-Frame}
use Rattle.aol_eval.specs.Frames.{level_numbers, numbers_of}
use Rattle.aol_expr_tree.specs.Meaning.{nth_number}
use Rattle.aol_eval.proofs.Plans.{number_behind}
use Rattle.aol_eval.proofs.run.Frame.+value.Goals as goal

pub returns-in-Inside-2 : goal.returns-in-Inside-2
unfolding Rattle.aol_eval.specs.declared.run.Frame.TheViews.out-Frame denote.Hole.Carrier.out
returns-in-Inside-2 t c =
    let fits : FitsSigned w64 c.value.result = search rules in
    let some : 0 < c.args.depth = first_of (omega arith, search rules, grind arith) in
    let outer = numbers_of c.in-Inside-2.outer.now in
    let frames : numbers_of c.args.self.now ≡ c.in-Inside-2.field-0 ∷ numbers_of c.in-Inside-2.outer.now = ap numbers_of c.in-Inside-2.is ∙ fold_out-Frame (List ℤ) level_numbers _ in
    to_z-of_z w64 c.value.result fits ∙ c.value.ensures ∙ sym (number_behind c.in-Inside-2.field-0 outer c.args.depth some)
    ∙ ap (λ (zs : List ℤ). nth_number zs c.args.depth) (sym frames)
