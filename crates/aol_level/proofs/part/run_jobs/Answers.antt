use denote.Ref.{NamedLft}
use denote.Param.{param}
use denote.Param.Send.{IsSync, sendable}
use denote.Struct.Field.{shr_ref_field, shr_slice_field, u32-field}
use Rattle.std.specs.contracts.option.Option as option
use Rattle.aol_flat.specs.contracts.flat.Flat as flat
use Rattle.aol_scatter.specs.contracts.lending.Rest as rest
use Rattle.aol_level.specs.contracts.kept.Kept as kept
use Rattle.aol_level.specs.contracts.outputs.Ready as ready
use Rattle.aol_level.proofs.Crossing.{flat_syncs, rest_syncs, ready_syncs, job_sends, five_sync}
use Rattle.aol_level.proofs.part.run_jobs.Goals as goal

pub for_each_mut-requires-send-T : goal.for_each_mut-requires-send-T
for_each_mut-requires-send-T g c κs _ = search (sendable, job_sends) depth 10

pub for_each_mut-requires-sync-F : goal.for_each_mut-requires-sync-F
for_each_mut-requires-sync-F g c κs _ =
    let gate = c.type_bounds.sync-G in
    let one : (ℓ : NamedLft) → IsSync (shr_ref_field ℓ (param 1 g.row.G) tt).row = λ ℓ. search (sendable, gate) depth 9 in
    let two : (ℓ : NamedLft) → IsSync (shr_ref_field ℓ u32-field.row tt).row = λ ℓ. search sendable depth 9 in
    let three : (ℓ : NamedLft) → IsSync (shr_ref_field ℓ flat.the_row tt).row = λ ℓ. search (sendable, flat_syncs) depth 9 in
    let four : (ℓ : NamedLft) → IsSync (shr_slice_field ℓ (option.the_row ready.the_row) tt).row = λ ℓ. search (sendable, ready_syncs) depth 9 in
    let five : (ℓ : NamedLft) → IsSync (shr_ref_field ℓ (rest.the_row kept.the_row) tt).row = λ ℓ. search (sendable, rest_syncs) depth 9 in
    search (sendable, five_sync, one, two, three, four, five) depth 9
