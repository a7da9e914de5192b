use Rattle.std.proofs.Common.{◌≡◌, ◌+◌, ◌<◌, length, map, get_or, List, ℕ, Some, Ok, Err, slice_get, refl, sym, ◌∙◌, ap, subst, arith}
use Rattle.std.specs.List.{IsAmong}
use Rattle.std.proofs.lemmas.Result.{err_from_is_err_and}
use Rattle.aol_model_types.specs.declared.task.Part.{Part}
use Rattle.aol_model_types.specs.declared.task.Task.TheVariants as tasks
use Rattle.aol_flat.specs.Numbered.{number_named}
use Rattle.aol_flat.proofs.Among.{among_get, get_among, map_among}
use Rattle.aol_flat.proofs.Order.{stand_on_earlier}
use Rattle.aol_flat.proofs.TaskNumbers.{found}
use Rattle.aol_assign.specs.Visits.{GoesBelow, GoesDown, GoesOverParts}
use Rattle.aol_assign.proofs.TwiceWalk.{Answer, first_stops, node_first, under_elementary, under_compound, under_repeated, nowhere, leads, front_more, front_stops, front_all}
use Rattle.aol_assign.proofs.twice.+visit.Goals as goal

pub visit-returns-in_err-test_node : goal.visit-returns-in_err-test_node
visit-returns-in_err-test_node t c =
    let m = c.args.from.model.now in
    let p = err_from_is_err_and c.from_residual.result c.from_residual.ensures.1 in
    let e = c.in_err-test_node.field-0.0 in
    let P : Answer → Type 0 = λ r. GoesBelow m c.args.number c.args.steps.now c.args.tested.now c.test_node.new.tested r in
    subst P (sym (p.1 ∙ ap Err p.2))
    (first_stops m c.args.number c.args.steps.now c.args.tested.now c.test_node.new.tested c.test_node.new.tested (Err e) e c.in_err-test_node.ensures refl)

pub visit-visit_parts-requires : goal.visit-visit_parts-requires
visit-visit_parts-requires t c =
    let m = c.args.from.model.now in
    let u = c.index-as_slice-number.result in
    let is : u ≡ get_or m.tasks c.args.number u = c.index-as_slice-number.is ∙ ap (λ ts. get_or ts c.args.number u) c.as_slice.ensures in
    let listed : slice_get m.tasks c.args.number ≡ Some (tasks.Compound c.in-Compound.task) = among_get m.tasks c.args.number u c.requires.1.1.0 is ∙ ap Some c.in-Compound.is in
    (omega arith, (listed, (c.requires.1.1.1.0, c.test_node.auto.tested ∙ c.requires.1.1.1.1)))

pub visit-visit_below-requires : goal.visit-visit_below-requires
visit-visit_below-requires t c =
    let m = c.args.from.model.now in
    let u = c.index-as_slice-number.result in
    let is : u ≡ get_or m.tasks c.args.number u = c.index-as_slice-number.is ∙ ap (λ ts. get_or ts c.args.number u) c.as_slice.ensures in
    let listed : slice_get m.tasks c.args.number ≡ Some (tasks.Repeated c.in-Repeated.task) = among_get m.tasks c.args.number u c.requires.1.1.0 is ∙ ap Some c.in-Repeated.is in (
      omega arith,
      (
        (λ j h. stand_on_earlier m c.requires.1.1.1.0.shapes c.args.number j (tasks.Repeated c.in-Repeated.task) c.in-Repeated.task.task listed (0, (omega arith, refl)) h),
        (c.requires.1.1.1.0, c.test_node.auto.tested ∙ c.requires.1.1.1.1),
      ),
    )

pub visit-returns-in-Elementary : goal.visit-returns-in-Elementary
visit-returns-in-Elementary t c =
    let m = c.args.from.model.now in
    let u = c.index-as_slice-number.result in
    let is : u ≡ get_or m.tasks c.args.number u = c.index-as_slice-number.is ∙ ap (λ ts. get_or ts c.args.number u) c.as_slice.ensures in
    let listed : slice_get m.tasks c.args.number ≡ Some (tasks.Elementary c.in-Elementary.field-0) = among_get m.tasks c.args.number u c.requires.1.1.0 is ∙ ap Some c.in-Elementary.is in
    node_first m c.args.number c.args.steps.now (tasks.Elementary c.in-Elementary.field-0) c.args.tested.now c.test_node.new.tested c.test_node.new.tested (Ok tt) (Ok tt) tt listed
    c.in_ok-test_node.ensures refl (under_elementary m c.args.number c.args.steps.now c.in-Elementary.field-0 c.test_node.new.tested tt)

pub visit-returns-in-Compound : goal.visit-returns-in-Compound
visit-returns-in-Compound t c =
    let m = c.args.from.model.now in
    let u = c.index-as_slice-number.result in
    let is : u ≡ get_or m.tasks c.args.number u = c.index-as_slice-number.is ∙ ap (λ ts. get_or ts c.args.number u) c.as_slice.ensures in
    let listed : slice_get m.tasks c.args.number ≡ Some (tasks.Compound c.in-Compound.task) = among_get m.tasks c.args.number u c.requires.1.1.0 is ∙ ap Some c.in-Compound.is in
    node_first m c.args.number c.args.steps.now (tasks.Compound c.in-Compound.task) c.args.tested.now c.test_node.new.tested c.visit_parts.new.tested (Ok tt) c.visit_parts.result tt listed
    c.in_ok-test_node.ensures refl
    (under_compound m c.args.number c.args.steps.now c.in-Compound.task c.test_node.new.tested c.visit_parts.new.tested c.visit_parts.result (stand_on_earlier m c.requires.1.1.1.0.shapes) c.visit_parts.ensures)

pub visit-returns-in-Repeated : goal.visit-returns-in-Repeated
visit-returns-in-Repeated t c =
    let m = c.args.from.model.now in
    let u = c.index-as_slice-number.result in
    let is : u ≡ get_or m.tasks c.args.number u = c.index-as_slice-number.is ∙ ap (λ ts. get_or ts c.args.number u) c.as_slice.ensures in
    let listed : slice_get m.tasks c.args.number ≡ Some (tasks.Repeated c.in-Repeated.task) = among_get m.tasks c.args.number u c.requires.1.1.0 is ∙ ap Some c.in-Repeated.is in
    node_first m c.args.number c.args.steps.now (tasks.Repeated c.in-Repeated.task) c.args.tested.now c.test_node.new.tested c.visit_below.new.tested (Ok tt) c.visit_below.result tt listed
    c.in_ok-test_node.ensures refl
    (under_repeated m c.args.number c.args.steps.now c.in-Repeated.task c.test_node.new.tested c.visit_below.new.tested c.visit_below.result (stand_on_earlier m c.requires.1.1.1.0.shapes) c.visit_below.ensures)

pub visit_below-returns-in_default : goal.visit_below-returns-in_default
visit_below-returns-in_default t c =
    let m = c.args.from.model.now in
    nowhere m c.args.name.now c.args.step.now c.args.steps.now c.args.tested.now tt (sym (c.number_named.ensures m.tasks c.args.from.found) ∙ c.in_default.is)

pub visit_below-visit-requires : goal.visit_below-visit-requires
visit_below-visit-requires t c =
    let m = c.args.from.model.now in
    let named : number_named m.tasks c.args.name.now ≡ Some c.in-Some.number = sym (c.number_named.ensures m.tasks c.args.from.found) ∙ c.in-Some.is in
    let low : c.in-Some.number < c.args.above = c.requires.1.1.0 c.in-Some.number named in
    (omega arith, ((found m.tasks c.args.name.now c.in-Some.number named).within, (c.requires.1.1.1.0, c.requires.1.1.1.1)))

pub visit_below-returns : goal.visit_below-returns
visit_below-returns t c =
    let m = c.args.from.model.now in
    leads m c.args.name.now c.args.step.now c.args.steps.now c.as_str.result.now c.args.tested.now c.visit.new.tested c.in-Some.number c.visit.result
    (sym (c.number_named.ensures m.tasks c.args.from.found) ∙ c.in-Some.is) (c.as_str.ensures.value ∙ c.in_ok-steps.ensures) c.visit.ensures

pub visit_parts-visit_below-requires : goal.visit_parts-visit_below-requires
visit_parts-visit_below-requires t c =
    let m = c.args.from.model.now in
    let task = c.args.task.now in
    let part = c.part-item.result in
    let i = c.loop-part.part-index in
    let many : length c.as_slice-part-items.result.now ≡ length task.parts = ap length c.as_slice-part-items.ensures in
    let lt : i < length task.parts = omega (arith, many) in
    let is : part ≡ get_or task.parts i part = c.part-item.is ∙ ap (λ ps. get_or ps i part) c.as_slice-part-items.ensures in
    let among : IsAmong (map (λ (q : Part). q.task) task.parts) part.task = map_among (λ (q : Part). q.task) task.parts part (get_among task.parts i part (among_get task.parts i part lt is)) in (
      omega arith,
      (
        (λ j h. stand_on_earlier m c.requires.1.1.1.0.shapes c.args.number j (tasks.Compound task) part.task c.requires.1.1.0 among h),
        (c.requires.1.1.1.0, c.loop-part.invariant.room),
      ),
    )

pub visit_parts-returns-in_err-visit_below : goal.visit_parts-returns-in_err-visit_below
visit_parts-returns-in_err-visit_below t c =
    let m = c.args.from.model.now in
    let task = c.args.task.now in
    let part = c.part-item.result in
    let i = c.loop-part.part-index in
    let many : length c.as_slice-part-items.result.now ≡ length task.parts = ap length c.as_slice-part-items.ensures in
    let lt : i < length task.parts = omega (arith, many) in
    let is : part ≡ get_or task.parts i part = c.part-item.is ∙ ap (λ ps. get_or ps i part) c.as_slice-part-items.ensures in
    let p = err_from_is_err_and c.from_residual.result c.from_residual.ensures.1 in
    let e = c.in_err-visit_below.field-0.0 in
    let P : Answer → Type 0 = λ r. GoesOverParts m task c.args.steps.now c.args.tested.now c.visit_below.new.tested r in
    let R : List ℕ → Type 0 = λ text. GoesDown m part.task text c.args.steps.now c.loop-part.tested c.visit_below.new.tested (Err e) in
    subst P (sym (p.1 ∙ ap Err p.2))
    (front_stops m task c.args.steps.now (i + 1) c.args.tested.now c.visit_below.new.tested c.visit_below.new.tested (Err e) e
    (front_more m task c.args.steps.now i part c.args.tested.now c.loop-part.tested c.visit_below.new.tested (Ok tt) (Err e) tt lt is
    c.loop-part.invariant.front refl (subst R c.as_str.ensures c.in_err-visit_below.ensures))
    refl)

pub visit_parts-loop-part-preserved : goal.visit_parts-loop-part-preserved
visit_parts-loop-part-preserved t c =
    let m = c.args.from.model.now in
    let task = c.args.task.now in
    let part = c.part-item.result in
    let i = c.loop-part.part-index in
    let many : length c.as_slice-part-items.result.now ≡ length task.parts = ap length c.as_slice-part-items.ensures in
    let lt : i < length task.parts = omega (arith, many) in
    let is : part ≡ get_or task.parts i part = c.part-item.is ∙ ap (λ ps. get_or ps i part) c.as_slice-part-items.ensures in
    let R : List ℕ → Type 0 = λ text. GoesDown m part.task text c.args.steps.now c.loop-part.tested c.visit_below.new.tested (Ok tt) in
    record {
      room = c.visit_below.auto.tested ∙ c.loop-part.invariant.room;
      front =
          front_more m task c.args.steps.now i part c.args.tested.now c.loop-part.tested c.visit_below.new.tested (Ok tt) (Ok tt) tt lt is
          c.loop-part.invariant.front refl (subst R c.as_str.ensures c.in_ok-visit_below.ensures);
    }

pub visit_parts-returns : goal.visit_parts-returns
visit_parts-returns t c =
    let many : length c.as_slice-part-items.result.now ≡ length c.args.task.now.parts = ap length c.as_slice-part-items.ensures in
    front_all c.args.from.model.now c.args.task.now c.args.steps.now c.loop-part.part-index c.args.tested.now c.loop-part.tested (Ok tt) (omega (arith, many)) c.loop-part.invariant.front
