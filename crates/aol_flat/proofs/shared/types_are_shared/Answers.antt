use denote.Param.Send.{sendable}
use Rattle.aol_flat.proofs.Crossing.{inside_sends, inside_syncs}
use Rattle.aol_flat.proofs.shared.types_are_shared.Goals as goal

pub is_shared-requires-send-T : goal.is_shared-requires-send-T
is_shared-requires-send-T c κs = search (sendable, inside_sends) depth 14

pub is_shared-requires-sync-T : goal.is_shared-requires-sync-T
is_shared-requires-sync-T c κs = search (sendable, inside_syncs) depth 14
