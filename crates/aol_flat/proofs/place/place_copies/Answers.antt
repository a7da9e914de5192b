use Rattle.std.proofs.Common.{[], ◌∷◌, ◌++◌, ◌∙◌, ap}
use Rattle.aol_flat.proofs.Placing.{copy_more}
use Rattle.aol_flat.proofs.place.place_copies.Goals as goal

pub loop-number-preserved : goal.loop-number-preserved
loop-number-preserved c = (
  c.push_spot.ensures.rows ∙ c.loop-number.invariant.0,
  copy_more c.args.node c.loop-number.number c.args.table.now.spots c.loop-number.table.spots c.push_spot.new.self.spots c.loop-number.invariant.1
      (c.in_ok-push_spot.ensures.spots ∙ ap (λ n. c.loop-number.table.spots ++ record { node = c.args.node; reshape = n } ∷ []) c.narrowed.ensures),
)
