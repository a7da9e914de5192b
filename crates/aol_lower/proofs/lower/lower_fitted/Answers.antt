use Rattle.std.proofs.Common.{◌≡◌, ◌++◌, ◌∷◌, [], List, ap, ◌∙◌}
use Rattle.aol_csyn.specs.Tree.{Stmt}
use Rattle.aol_lower.specs.Lowered.{guard}
use Rattle.aol_lower.specs.Ports.{width_test}
use Rattle.aol_lower.specs.Stored.{trees_of}
use Rattle.aol_lower.proofs.Made.{fitted_value, fitted_formed}
use Rattle.aol_lower.proofs.lower.lower_fitted.Goals as goal

pub returns-clause-value : goal.returns-clause-value
returns-clause-value c =
    let first : List Stmt = trees_of c.in_ok-out.out in
    let made : trees_of c.push_guarded.new.out ≡ first ++ guard (width_test c.args.width c.args.d) ∷ [] = c.in_ok-push_guarded.ensures ∙ ap (λ t. first ++ guard t ∷ []) c.in_ok-tested.ensures in
    fitted_value c.args.reads c.args.ins.now c.args.rank c.args.d c.args.e.now (trees_of c.push_guarded.new.out) c.args.width first made c.in_ok-out.ensures.value

pub returns-clause-formed : goal.returns-clause-formed
returns-clause-formed c =
    let first : List Stmt = trees_of c.in_ok-out.out in
    let made : trees_of c.push_guarded.new.out ≡ first ++ guard (width_test c.args.width c.args.d) ∷ [] = c.in_ok-push_guarded.ensures ∙ ap (λ t. first ++ guard t ∷ []) c.in_ok-tested.ensures in
    fitted_formed c.args.reads c.args.ins.now c.args.rank c.args.d c.args.e.now (trees_of c.push_guarded.new.out) c.args.width first made c.in_ok-out.ensures.formed
