-- A model that is laid out goes to other threads, and threads share it.
use denote.Param.Send.{IsSend, IsSync, sendable, struct_send, struct_sync}
use denote.Struct.Declared.{shape}
use Rattle.aol_shape.proofs.Items.TheSendSync as items
use Rattle.aol_model_types.proofs.Crossing.{model_field_sends, model_field_syncs}
use Rattle.aol_flat.proofs.leaf.Leaf.TheSendSync as leaves
use Rattle.aol_flat.proofs.tables.Tables.TheSendSync as tables
use Rattle.aol_flat.specs.contracts.leaf.Leaf as leaf
use Rattle.aol_flat.specs.contracts.flat.Flat.TheInside as inside

leaf_sends : IsSend leaf.the_row
leaf_sends = search (sendable, leaves.the_field_send) depth 14

leaf_syncs : IsSync leaf.the_row
leaf_syncs = search (sendable, leaves.the_field_sync) depth 14

inside_field_sends : IsSend inside.the_field.row
inside_field_sends = struct_send (shape inside.the_type) (model_field_sends, (search (sendable, items.the_send, leaf_sends), (search sendable, (tables.the_field_send, tt))))

inside_field_syncs : IsSync inside.the_field.row
inside_field_syncs = struct_sync (shape inside.the_type) (model_field_syncs, (search (sendable, items.the_sync, leaf_syncs), (search sendable, (tables.the_field_sync, tt))))

pub inside_sends : IsSend inside.the_row
inside_sends = search (sendable, inside_field_sends) depth 14

pub inside_syncs : IsSync inside.the_row
inside_syncs = search (sendable, inside_field_syncs) depth 14
