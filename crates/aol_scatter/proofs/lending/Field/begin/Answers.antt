use Rattle.std.proofs.Common.{Some, map, length, sym, ap, ◌∙◌}
use Rattle.aol_scatter.proofs.Places.{map_held, length-held}
use Rattle.aol_scatter.proofs.lending.Field.begin.Goals as goal

pub returns-clause-cells : goal.returns-clause-cells
returns-clause-cells g c = sym (map_held c.self.inside.part.cells c.self.invariant.5) ∙ ap (λ l. map Some l) c.self.view_is

pub returns-clause-len : goal.returns-clause-len
returns-clause-len g c = sym c.self.invariant.1 ∙ sym (length-held c.self.inside.part.cells c.self.invariant.5) ∙ ap length c.self.view_is
