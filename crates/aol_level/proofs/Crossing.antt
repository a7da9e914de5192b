-- What the workers of a level take with them to their threads, and what they share.
use Prim.Native.Nat.{ℕ}
use mathlib.Core.List.{List, [], ◌∷◌}
use denote.Ref.{NamedLft}
use denote.RattleType.{RattleType}
use denote.Struct.Declared.{shape}
use denote.Struct.Tuple.{TupleAt, type_at}
use denote.Param.Send.{IsSend, IsSync, sendable, recorded_sync, struct_send, struct_sync}
use Rattle.std.proofs.vec.Vec.TheSendSync as vecs
use Rattle.std.proofs.alloc.Global.TheSendSync as globals
use Rattle.std.below.std_heap.proofs.GlobalAllocator.TheSendSync as allocators
use Rattle.std.proofs.boxed.Box.TheSendSync as boxes
use Rattle.aol_shape.proofs.Items.TheSendSync as items
use Rattle.aol_shape.proofs.shape.Shape.TheSendSync as shapes
use Rattle.aol_expr_tree.proofs.op.ExprOp.TheSendSync as ops
use Rattle.aol_flat.proofs.Crossing.{inside_syncs}
use Rattle.aol_flat.proofs.route.Route.TheSendSync as routes
use Rattle.aol_flat.specs.contracts.flat.Flat as flat
use Rattle.aol_flat.specs.contracts.route.Route as route
use Rattle.aol_flat.specs.contracts.view.Read as read
use Rattle.aol_flat.specs.contracts.leaf_cursor.LeafReads as reads
use Rattle.aol_flat.specs.contracts.leaf_cursor.LeafReads.TheInside as inside
use Rattle.aol_flat.specs.contracts.leaf_cursor.Along as along
use Rattle.aol_eval.specs.contracts.resolution.Resolved as resolved
use Rattle.aol_eval.specs.contracts.step.Step as step
use Rattle.aol_eval.proofs.step.Step.TheLaws.TheKnot.{sync-Step}
use Rattle.aol_eval.proofs.program.Program.TheSendSync as programs
use Rattle.aol_scatter.specs.contracts.lending.Share as share
use Rattle.aol_scatter.proofs.lending.Share.TheSendSync as shares
use Rattle.aol_scatter.specs.contracts.lending.Rest as rest
use Rattle.aol_scatter.proofs.lending.Rest.TheSendSync as rests
use Rattle.aol_level.specs.contracts.kept.Kept as kept
use Rattle.aol_level.proofs.kept.Kept.TheSendSync as keeps
use Rattle.aol_level.specs.contracts.hand.Hand as hand
use Rattle.aol_level.specs.contracts.outputs.Ready as ready
use Rattle.aol_level.specs.contracts.part.Part as part
use Rattle.aol_level.specs.contracts.part.Job as job

pub flat_syncs : IsSync flat.the_row
flat_syncs = search (sendable, inside_syncs) depth 14

along_field_sends : (a : NamedLft) → IsSend (along.the_field a).row
along_field_sends a = struct_send (shape (along.the_type a)) (search (sendable, flat_syncs), (search sendable, (search sendable, (search (sendable, vecs.the_send, globals.the_send, allocators.the_frees), tt))))

route_sends : (a : NamedLft) → IsSend (route.the_row a)
route_sends a = routes.the_send a

inside_field_sends : (a : NamedLft) → IsSend (inside.the_field a).row
inside_field_sends a = struct_send (shape (inside.the_type a)) (search (sendable, along_field_sends), (search sendable, (search (sendable, vecs.the_send, globals.the_send, allocators.the_frees, route_sends), (search sendable, (search sendable, (search sendable, tt))))))

reads_send : (a : NamedLft) → IsSend (reads.the_row a)
reads_send a = search (sendable, inside_field_sends) depth 20

kept_sends : IsSend kept.the_row
kept_sends = search (sendable, keeps.the_field_send) depth 14

kept_syncs : IsSync kept.the_row
kept_syncs = search (sendable, keeps.the_field_sync) depth 14

share_sends : IsSend (share.the_field kept.the_row).row
share_sends = search (sendable, shares.the_send, kept_sends) depth 20

pub rest_syncs : IsSync (rest.the_row kept.the_row)
rest_syncs = search (sendable, rests.the_sync, kept_syncs) depth 20

read_sends : IsSend read.the_row
read_sends = search sendable depth 14

hand_field_sends : (a : NamedLft) → IsSend (hand.the_field a).row
hand_field_sends a = search (sendable, vecs.the_send, globals.the_send, allocators.the_frees, reads_send, read_sends) depth 20

part_field_sends : (a b : NamedLft) → IsSend (part.the_field a b).row
part_field_sends a b = struct_send (shape (part.the_type a b)) (hand_field_sends a, (search sendable, (search sendable, tt)))

job_field_sends : (a b : NamedLft) → IsSend (job.the_field a b).row
job_field_sends a b = struct_send (shape (job.the_type a b)) (part_field_sends a b, (share_sends, tt))

pub job_sends : (a b : NamedLft) → IsSend (job.the_row a b)
job_sends a b = search (sendable, job_field_sends) depth 20

step_syncs : IsSync step.the_field.row
step_syncs = sync-Step (search sendable) (search sendable) (search (sendable, shapes.the_sync) depth 9) (search sendable) items.the_sync ops.the_field_sync (λ h s. search (sendable, boxes.the_sync, globals.the_sync) depth 9)

resolved_field_syncs : IsSync resolved.the_field.row
resolved_field_syncs = struct_sync (shape resolved.the_type) (step_syncs, (search (sendable, programs.the_sync) depth 9, tt))

resolved_syncs : IsSync resolved.the_row
resolved_syncs = search (sendable, resolved_field_syncs) depth 20

pub ready_syncs : IsSync ready.the_row
ready_syncs = search (sendable, vecs.the_sync, globals.the_sync, resolved_syncs) depth 20

-- what is shared by its five captures
pub five_sync : (ν : List ℕ) (A B C D E : RattleType) → IsSync A → IsSync B → IsSync C → IsSync D → IsSync E → IsSync (TupleAt ν (A ∷ B ∷ C ∷ D ∷ E ∷ []))
five_sync ν A B C D E a b c d e = recorded_sync _ _ _ (type_at ν (A ∷ B ∷ C ∷ D ∷ E ∷ [])).to_one (struct_sync (shape (type_at ν (A ∷ B ∷ C ∷ D ∷ E ∷ []))) (a, (b, (c, (d, (e, tt))))))
