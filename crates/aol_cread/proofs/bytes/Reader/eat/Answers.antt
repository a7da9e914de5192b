use Rattle.std.proofs.Common.{rules, Some, ap, ◌∙◌, sym}
use Rattle.aol_cread.proofs.Formats.{expect_same}
use Rattle.aol_cread.proofs.bytes.Reader.eat.Goals as goal

pub returns-in-Some : goal.returns-in-Some
returns-in-Some c = expect_same c.args.front.now c.args.self.now.left.now _ c.in-Some.ensures.cases.0 ∙ ap (λ r. Some r) (sym c.in-Some.ensures.cases.1)

pub returns-in-None : goal.returns-in-None
returns-in-None c = (expect_same c.args.front.now c.args.self.now.left.now _ c.in-None.ensures.cases, search rules)
