use Rattle.std.proofs.Common.{◌++◌, length, sym, ◌∙◌, ap, subst, arith}
use Rattle.aol_shape.specs.Shape.{size}
use Rattle.aol_flat.proofs.Alongs.{some_instance}
use Rattle.aol_change.specs.Unblocked.{numbers_in_leaf}
use Rattle.aol_change.specs.UnblockedParts.{IsEntriesBefore}
use Rattle.aol_change.proofs.Below.{numbers_few, numbers_by_row, row_parts, parts_all, numbers_all, ok_also}
use Rattle.aol_change.proofs.unblocked.push_leaf.Goals as goal

pub push_numbers-requires : goal.push_numbers-requires
push_numbers-requires c =
    let row = c.leaf-row.ensures in
    let few = numbers_few c.args.old.now.model c.args.leaf row.leaf row.at in
    omega (arith, few, row.base, row.count, c.instances-count.ensures)

pub points_beside-many-requires-clause-within : goal.points_beside-many-requires-clause-within
points_beside-many-requires-clause-within c =
    let m = c.args.old.now.model in
    let parts =
    row_parts m c.model-model.ensures.flat.sound c.args.task.now c.requires.found c.args.leaf c.leaf-row.result.now c.leaf_spot.result c.in-Some.before c.leaf-row.ensures c.leaf_spot.ensures
    (subst (IsEntriesBefore m c.args.task.now.name c.leaf_spot.result.node) c.in-Some.is c.entries_before.ensures) in
    omega (arith, parts.within, ap length c.as_slice.ensures, ap length c.as_slice-rank.ensures.entries)

pub points_beside-many-requires-clause-some : goal.points_beside-many-requires-clause-some
points_beside-many-requires-clause-some c =
    let m = c.args.old.now.model in
    let row = c.leaf-row.ensures in
    let some = some_instance m c.model-model.ensures.flat.sound c.args.leaf c.leaf-row.result.now row in
    omega (arith, some, row.count, ap size row.space, ap size c.as_slice.ensures)

pub points_beside-many-requires-clause-few : goal.points_beside-many-requires-clause-few
points_beside-many-requires-clause-few c =
    let m = c.args.old.now.model in
    let row = c.leaf-row.ensures in
    let few = numbers_few m c.args.leaf row.leaf row.at in
    omega (arith, few, ap size row.space, ap size c.as_slice.ensures, c.instances-count.ensures)

pub push_tasks-requires-clause-few : goal.push_tasks-requires-clause-few
push_tasks-requires-clause-few c =
    let m = c.args.old.now.model in
    let row = c.leaf-row.ensures in
    let parts =
    row_parts m c.model-model.ensures.flat.sound c.args.task.now c.requires.found c.args.leaf c.leaf-row.result.now c.leaf_spot.result c.in-Some.before c.leaf-row.ensures c.leaf_spot.ensures
    (subst (IsEntriesBefore m c.args.task.now.name c.leaf_spot.result.node) c.in-Some.is c.entries_before.ensures) in
    let few = numbers_few m c.args.leaf row.leaf row.at in
    let all =
    parts_all c.args.task.now.space c.leaf-row.result.now.space c.as_slice.result.now c.as_slice-rank.result.now c.in-Some.before c.points_beside-many.result.0 c.points_beside-many.result.1
    c.as_slice.ensures c.as_slice-rank.ensures.entries c.points_beside-many.ensures.before c.points_beside-many.ensures.after parts in
    omega (arith, few, all, row.base, ap size row.space, c.instances-count.ensures)

pub returns-in-Some : goal.returns-in-Some
returns-in-Some c = λ l at.
    let m = c.args.old.now.model in
    let t = c.args.task.now in
    let row = c.leaf-row.result.now in
    let numbers =
    numbers_all t.space row.space c.as_slice.result.now c.as_slice-rank.result.now c.in-Some.before c.points_beside-many.result.0 c.points_beside-many.result.1
    c.as_slice.ensures c.as_slice-rank.ensures.entries c.points_beside-many.ensures.before c.points_beside-many.ensures.after c.args.outer.now c.args.block.now row.base in
    let whole = numbers_by_row m t c.args.outer.now c.args.block.now c.args.leaf row c.leaf_spot.result c.entries_before.result c.leaf-row.ensures c.leaf_spot.ensures c.entries_before.ensures l at in
    ok_also c.push_tasks.result
    (λ h. h ∙ ap (λ ns. c.args.into.now.items ++ ns) (numbers ∙ (ap (numbers_in_leaf t.space c.args.outer.now c.args.block.now row.base row.space) (sym c.in-Some.is) ∙ whole))) c.push_tasks.ensures
