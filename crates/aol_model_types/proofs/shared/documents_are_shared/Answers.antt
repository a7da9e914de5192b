use denote.Param.Send.{sendable}
use Rattle.aol_model_types.proofs.Crossing.{model_field_sends, model_field_syncs}
use Rattle.aol_model_types.proofs.job.Job.TheSendSync as jobs
use Rattle.aol_model_types.proofs.shared.documents_are_shared.Goals as goal

pub is_shared-requires-send-T : goal.is_shared-requires-send-T
is_shared-requires-send-T c κs = search (sendable, model_field_sends)

pub is_shared-requires-sync-T : goal.is_shared-requires-sync-T
is_shared-requires-sync-T c κs = search (sendable, model_field_syncs)

pub is_shared-requires-2-send-T : goal.is_shared-requires-2-send-T
is_shared-requires-2-send-T c κs = search (sendable, model_field_sends, jobs.the_field_send) depth 14

pub is_shared-requires-2-sync-T : goal.is_shared-requires-2-sync-T
is_shared-requires-2-sync-T c κs = search (sendable, model_field_syncs, jobs.the_field_sync) depth 14
