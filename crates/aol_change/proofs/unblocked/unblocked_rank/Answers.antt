use Rattle.aol_change.proofs.ComesFrom.{rank_inside}
use Rattle.aol_change.proofs.unblocked.unblocked_rank.Goals as goal

pub rank_of-requires : goal.rank_of-requires
rank_of-requires c =
    rank_inside c.args.by.space.now c.args.by.outer.now c.args.by.block.now c.as_slice.result.now c.as_slice-2.result.now c.unrank_into.new.point c.unrank_into-2.new.point c.unblock.new.at
    c.args.number c.args.position c.as_slice.ensures.limits c.requires.rank c.requires.number c.requires.position
    c.as_slice.ensures.entries c.as_slice-2.ensures.entries c.unrank_into.ensures c.unrank_into-2.ensures c.unblock.ensures
