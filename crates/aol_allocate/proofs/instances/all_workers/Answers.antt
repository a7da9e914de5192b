use Rattle.std.proofs.Common.{◌<◌, length, refl, arith}
use Rattle.std.proofs.lemmas.Option.{slice_get_read}
use Rattle.aol_flat.specs.Instance.{leaves}
use Rattle.aol_allocate.proofs.AllInstances.{rows_more}
use Rattle.aol_allocate.specs.Tables.{rows_workers}
use Rattle.aol_allocate.proofs.instances.all_workers.Goals as goal

pub loop-number-preserved : goal.loop-number-preserved
loop-number-preserved c =
    let leaf = c.leaf.ensures in
    let row = c.index-rows-number.result in
    let within : c.loop-number.number < length c.args.rows.now = omega (arith, c.requires.many, c.leaves-number-end.ensures) in
    rows_more c.args.workers (leaves c.args.flat.now.model) c.args.rows.now c.loop-number.number leaf.leaf row c.leaf.result.now.count c.loop-number.of_instance.items
    c.push_leaf.new.of_instance.items (rows_workers c.args.workers (leaves c.args.flat.now.model) c.args.rows.now) leaf.at
    (slice_get_read c.args.rows.now (length c.args.rows.now) c.loop-number.number row refl within c.index-rows-number.is) leaf.count c.loop-number.invariant c.in_ok-push_leaf.ensures
