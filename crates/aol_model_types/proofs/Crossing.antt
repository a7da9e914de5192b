-- A model goes to other threads, and threads share it: type by type, from the nodes of expressions up.
use denote.Param.Send.{IsSend, IsSync, sendable}
use Rattle.aol_shape.proofs.Items.TheSendSync as items
use Rattle.aol_shape.proofs.name.Name.TheSendSync as names
use Rattle.aol_expr_tree.proofs.node.ExprNode.TheLaws.TheKnot.{send-ExprNode, sync-ExprNode}
use Rattle.aol_expr_tree.proofs.op.ExprOp.TheSendSync as ops
use Rattle.std.proofs.boxed.Box.TheSendSync as boxes
use Rattle.std.below.std_heap.proofs.GlobalAllocator.TheSendSync as allocators
use Rattle.std.proofs.alloc.Global.TheSendSync as globals
use Rattle.aol_expr_tree.proofs.port.Port.TheSendSync as ports
use Rattle.aol_expr_tree.proofs.value.Width.TheSendSync as widths
use Rattle.aol_expr_tree.specs.contracts.node.ExprNode as node
use Rattle.aol_expr_tree.specs.contracts.expr.Expr as expr
use Rattle.aol_expr_tree.specs.contracts.expr.Expr.TheInside as inside
use Rattle.aol_model_types.proofs.task.Compound.TheSendSync as compounds
use Rattle.aol_model_types.proofs.task.Repeated.TheSendSync as repetitions
use Rattle.aol_model_types.specs.contracts.task.OutPort as out
use Rattle.aol_model_types.specs.contracts.task.Elementary as elementary
use Rattle.aol_model_types.specs.contracts.task.Task as task
use Rattle.aol_model_types.specs.contracts.document.Model as model

node_sends : IsSend node.the_field.row
node_sends = send-ExprNode (search sendable) (search sendable) (search (sendable, names.the_send)) items.the_send ops.the_field_send (λ h s. search (sendable, boxes.the_send, globals.the_send, allocators.the_frees) depth 9)

node_syncs : IsSync node.the_field.row
node_syncs = sync-ExprNode (search sendable) (search sendable) (search (sendable, names.the_sync)) items.the_sync ops.the_field_sync (λ h s. search (sendable, boxes.the_sync, globals.the_sync) depth 9)

inside_field_sends : IsSend inside.the_field.row
inside_field_sends = search (sendable, node_sends) depth 14

inside_field_syncs : IsSync inside.the_field.row
inside_field_syncs = search (sendable, node_syncs) depth 14

inside_sends : IsSend inside.the_row
inside_sends = search (sendable, inside_field_sends) depth 14

inside_syncs : IsSync inside.the_row
inside_syncs = search (sendable, inside_field_syncs) depth 14

expr_sends : IsSend expr.the_row
expr_sends = search (sendable, inside_sends) depth 14

expr_syncs : IsSync expr.the_row
expr_syncs = search (sendable, inside_syncs) depth 14

out_field_sends : IsSend out.the_field.row
out_field_sends = search (sendable, ports.the_field_send, expr_sends) depth 14

out_field_syncs : IsSync out.the_field.row
out_field_syncs = search (sendable, ports.the_field_sync, expr_syncs) depth 14

out_sends : IsSend out.the_row
out_sends = search (sendable, out_field_sends) depth 14

out_syncs : IsSync out.the_row
out_syncs = search (sendable, out_field_syncs) depth 14

elementary_field_sends : IsSend elementary.the_field.row
elementary_field_sends = search (sendable, items.the_send, names.the_send, ports.the_send, widths.the_send, out_sends) depth 14

elementary_field_syncs : IsSync elementary.the_field.row
elementary_field_syncs = search (sendable, items.the_sync, names.the_sync, ports.the_sync, widths.the_sync, out_syncs) depth 14

task_sends : IsSend task.the_row
task_sends = search (sendable, elementary_field_sends, compounds.the_field_send, repetitions.the_field_send) depth 14

task_syncs : IsSync task.the_row
task_syncs = search (sendable, elementary_field_syncs, compounds.the_field_sync, repetitions.the_field_sync) depth 14

pub model_field_sends : IsSend model.the_field.row
model_field_sends = search (sendable, items.the_send, names.the_send, task_sends) depth 14

pub model_field_syncs : IsSync model.the_field.row
model_field_syncs = search (sendable, items.the_sync, names.the_sync, task_syncs) depth 14
