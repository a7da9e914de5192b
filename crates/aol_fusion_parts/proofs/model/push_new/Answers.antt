use Rattle.aol_change.proofs.Room.{neither_limit}
use Rattle.aol_fusion_parts.specs.Made.{over_limit}
use Rattle.aol_fusion_parts.proofs.model.push_new.Goals as goal

pub push_whole-requires-clause-place : goal.push_whole-requires-clause-place
push_whole-requires-clause-place c = c.requires.place (neither_limit (over_limit c.args.args.now.block c.args.ports.now.first_ins) _ c.in_ok-push_block.ensures.limit).0
