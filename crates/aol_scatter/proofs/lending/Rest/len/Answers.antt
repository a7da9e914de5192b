use Rattle.std.proofs.Common.{length, sym, ap, ◌∙◌}
use Rattle.aol_scatter.proofs.lending.Rest.len.Goals as goal

pub returns-clause-cells : goal.returns-clause-cells
returns-clause-cells g c = sym c.self.invariant.1 ∙ ap (λ v. length v.cells) c.self.view_is
