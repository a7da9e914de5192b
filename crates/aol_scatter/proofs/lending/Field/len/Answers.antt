use Rattle.std.proofs.Common.{length, sym, ap, ◌∙◌}
use Rattle.aol_scatter.proofs.Places.{length-held}
use Rattle.aol_scatter.proofs.lending.Field.len.Goals as goal

pub returns : goal.returns
returns g c = sym c.self.invariant.1 ∙ sym (length-held c.self.inside.part.cells c.self.invariant.5) ∙ ap length c.self.view_is
