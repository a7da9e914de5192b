use Rattle.std.proofs.Common.{length, sym, ap, ◌∙◌}
use Rattle.aol_scatter.proofs.Places.{length-values}
use Rattle.aol_scatter.proofs.lending.Share.len.Goals as goal

pub returns-clause-values : goal.returns-clause-values
returns-clause-values g c = c.len.ensures ∙ sym (length-values c.self.inside.part.cells c.self.inside.cells c.self.invariant.2) ∙ ap (λ v. length v.values) c.self.view_is
