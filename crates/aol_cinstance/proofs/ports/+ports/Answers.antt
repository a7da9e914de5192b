use Rattle.std.proofs.Common.{rules, arith, ◌≡◌, ◌+◌, ◌∷◌, ◌∙◌, FitsSigned, w64, to_z, of_z}
use Rattle.std.proofs.lemmas.Int.{to_z-of_z}
use Rattle.std.proofs.lemmas.Grind.{common_steps}
use Rattle.aol_shape.specs.Shape.{size}
use Rattle.aol_csyn.specs.Stored.{stmt_of}
use Rattle.aol_lower.specs.Stored.{trees_of}
use Rattle.aol_cinstance.proofs.PortsMade.{ports_more}
use Rattle.aol_cinstance.proofs.ports.+ports.Goals as goal

pub returns : goal.returns
returns t c before place =
    let made : trees_of c.append.new.self ≡ stmt_of c.in_ok-each.each ∷ trees_of c.in_ok-rest.rest = grind (arith, common_steps) in
    let next : c.in-Some-checked_add.next ≡ c.args.start + size c.in-Some.out.now.port.shape = search rules in
    let after : c.args.place + c.from.result ≡ c.args.place + size c.in-Some.out.now.port.shape = search rules in
    let fits : FitsSigned w64 c.in_ok-first.first = search rules in
    let back : to_z w64 (of_z w64 c.in_ok-first.first) ≡ c.in_ok-first.first = to_z-of_z w64 c.in_ok-first.first fits in
    ports_more c.args.tables c.args.task.now before c.args.k c.args.start c.args.place c.in-Some-checked_add.next (c.args.place + c.from.result) c.args.outs.now c.in-Some.others.now c.in-Some.out.now c.width_of.result c.in_ok-first.first
    (stmt_of c.in_ok-each.each) (trees_of c.in_ok-value.value) (trees_of c.in_ok-rest.rest) (trees_of c.append.new.self) c.in-Some.ensures.cases.0 c.in_ok-value.ensures.shape c.in_ok-value.ensures.limits c.width_of.ensures
    c.in_ok-value.ensures.value c.in_ok-value.ensures.formed c.in_ok-first.ensures.value c.in_ok-first.ensures.few place (λ n e. c.in_ok-each.ensures n (back ∙ e)) made next after (λ b e. c.in_ok-rest.ensures b e)
