use Rattle.std.proofs.Common.{◌-◌, ◌<◌, ◌∷◌, take, sym, ◌∙◌, ap, arith}
use Rattle.aol_tiler.specs.Walk.{to_come, stepped, moved}
use Rattle.aol_tiler.proofs.Walks.{next_walk, to_come_next}
use Rattle.aol_tiler.proofs.walker.Walker.next.Goals as goal

pub invariant_of-self : goal.invariant_of-self
invariant_of-self c =
    let w = next_walk c.self.inside.rank c.self.inside.moduli c.self.inside.place c.advance_front.new.place c.self.inside.columns c.advance_front.new.columns c.self.invariant.1 c.self.invariant.2 c.advance_front.ensures.columns c.advance_front.ensures.place in
    (c.self.invariant.0, c.self.invariant.1, w.0)

pub returns : goal.returns
returns c =
    let w = next_walk c.self.inside.rank c.self.inside.moduli c.self.inside.place c.advance_front.new.place c.self.inside.columns c.advance_front.new.columns c.self.invariant.1 c.self.invariant.2 c.advance_front.ensures.columns c.advance_front.ensures.place in
    let ms = take c.self.inside.rank c.self.inside.moduli in
    let left = c.self.inside.left in
    let some : 0 < left = omega arith in
    sym c.self.view_is
    ∙ to_come_next ms (take c.self.inside.rank c.self.inside.place) c.self.inside.columns left some
    ∙ ap (λ a. a ∷ to_come ms (left - 1) (stepped c.self.inside.columns) (moved ms c.self.inside.columns (take c.self.inside.rank c.self.inside.place))) (sym c.total-address.ensures)
    ∙ ap (λ cs. c.total-address.result ∷ to_come ms (left - 1) cs (moved ms c.self.inside.columns (take c.self.inside.rank c.self.inside.place))) (sym c.advance_front.ensures.columns)
    ∙ ap (λ p. c.total-address.result ∷ to_come ms (left - 1) c.advance_front.new.columns p) (sym w.1)
