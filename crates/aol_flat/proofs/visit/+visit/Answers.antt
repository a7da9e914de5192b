use Rattle.std.proofs.Common.{rules, ◌≡◌, ◌+◌, ◌<◌, length, get_or, List, [], ◌∷◌, ℕ, Some, Ok, Err, refl, sym, ◌∙◌, ap, subst, arith}
use Rattle.std.proofs.lemmas.Result.{err_from_is_err_and}
use Rattle.aol_shape.specs.Shape.{size}
use Rattle.aol_model_types.specs.declared.task.Copied.{Copied}
use Rattle.aol_model_types.specs.declared.task.Task.{Task}
use Rattle.aol_flat.specs.declared.refused.FlatRefused.TheVariants.{Limit}
use Rattle.aol_flat.specs.declared.walk.Walk.{Walk}
use Rattle.aol_flat.specs.Node.{root_or}
use Rattle.aol_flat.specs.Saturated.{saturated}
use Rattle.aol_flat.specs.Walked.{GoesBelow, GoesDown, GoesOverParts, GoesOverCopies}
use Rattle.aol_flat.proofs.Visiting.{Answer, GoesUnder, refused_there, node_first, under_elementary, under_compound, under_compound_stops, under_repeated, nowhere, leads, front_more, front_stops, front_all}
use Rattle.aol_flat.proofs.Among.{among_get}
use Rattle.aol_flat.proofs.TaskNumbers.{found}
use Rattle.aol_flat.proofs.Walking.{enters, refuses}
use Rattle.aol_flat.proofs.visit.+visit.Goals as goal

pub visit-returns-in-Some : goal.visit-returns-in-Some
visit-returns-in-Some t c =
    let m = c.args.from.model.now in
    let task = c.index-as_slice-number.result in
    let listed : task ≡ get_or m.tasks c.args.number task = c.index-as_slice-number.is ∙ ap (λ ts. get_or ts c.args.number task) c.as_slice.ensures in
    let many : c.points_of-instances.result ≡ saturated (size c.args.spot.now.space) = c.points_of-instances.ensures ∙ ap (λ s. saturated (size s)) c.as_slice-2.ensures in
    let after : Walk = record c.args.walk.now { counts = c.add.new.self } in
    refused_there m c.args.number task c.args.spot.now listed c.args.walk.now after (Err (Limit c.in_ok-node_path.field-0 c.in-Some.limit))
    (λ node more la at. refuses m node task c.args.spot.now c.args.walk.now after c.points_of-instances.result (Some c.in-Some.limit) c.in-Some.limit c.in_ok-node_path.field-0 more la at
    c.in-Some.ensures.counted refl many (c.in_ok-node_path.ensures ∙ ap root_or at.path))

pub visit-returns-in_err-visit_parts-in-Compound : goal.visit-returns-in_err-visit_parts-in-Compound
visit-returns-in_err-visit_parts-in-Compound t c =
    let m = c.args.from.model.now in
    let task = c.index-as_slice-number.result in
    let listed : task ≡ get_or m.tasks c.args.number task = c.index-as_slice-number.is ∙ ap (λ ts. get_or ts c.args.number task) c.as_slice.ensures in
    let many : c.points_of-instances.result ≡ saturated (size c.args.spot.now.space) = c.points_of-instances.ensures ∙ ap (λ s. saturated (size s)) c.as_slice-2.ensures in
    let after : Walk = record c.args.walk.now { counts = c.add.new.self } in
    let p = err_from_is_err_and c.from_residual-in_err-visit_parts-in-Compound.result c.from_residual-in_err-visit_parts-in-Compound.ensures.1 in
    let e = c.in_err-visit_parts-in-Compound.field-0.0 in
    let P : Answer → Type 0 = λ r. GoesBelow m c.args.number c.args.spot.now c.args.walk.now c.visit_parts.new.walk r in
    let Q : Task → Type 0 = λ u. GoesUnder m c.args.number u c.args.spot.now after c.visit_parts.new.walk (Err e) in
    subst P (sym (p.1 ∙ ap Err p.2))
    (node_first m c.args.number task c.args.spot.now listed c.args.walk.now after c.visit_parts.new.walk tt (Err e)
    (λ node at. enters m node task c.args.spot.now c.args.walk.now after c.points_of-instances.result c.add.result tt at c.add.ensures.counted c.in_default.is many refl refl)
    (subst Q (sym c.in-Compound.is)
    (under_compound_stops m c.args.number c.in-Compound.task c.args.spot.now after c.visit_parts.new.walk (Err e) e c.args.from.earlier c.in_err-visit_parts-in-Compound.ensures refl)))

pub visit-returns-in-Elementary : goal.visit-returns-in-Elementary
visit-returns-in-Elementary t c =
    let m = c.args.from.model.now in
    let task = c.index-as_slice-number.result in
    let listed : task ≡ get_or m.tasks c.args.number task = c.index-as_slice-number.is ∙ ap (λ ts. get_or ts c.args.number task) c.as_slice.ensures in
    let many : c.points_of-instances.result ≡ saturated (size c.args.spot.now.space) = c.points_of-instances.ensures ∙ ap (λ s. saturated (size s)) c.as_slice-2.ensures in
    let after : Walk = record c.args.walk.now { counts = c.add.new.self } in
    let Q : Task → Type 0 = λ u. GoesUnder m c.args.number u c.args.spot.now after c.push_run.new.walk c.push_run.result in
    node_first m c.args.number task c.args.spot.now listed c.args.walk.now after c.push_run.new.walk tt c.push_run.result
    (λ node at. enters m node task c.args.spot.now c.args.walk.now after c.points_of-instances.result c.add.result tt at c.add.ensures.counted c.in_default.is many refl refl)
    (subst Q (sym c.in-Elementary.is)
    (under_elementary m c.args.number c.in-Elementary.field-0 c.args.spot.now after c.push_run.new.walk c.push_run.result c.push_run.ensures))

pub visit-returns-in_ok-visit_parts-in-Compound : goal.visit-returns-in_ok-visit_parts-in-Compound
visit-returns-in_ok-visit_parts-in-Compound t c =
    let m = c.args.from.model.now in
    let task = c.index-as_slice-number.result in
    let listed : task ≡ get_or m.tasks c.args.number task = c.index-as_slice-number.is ∙ ap (λ ts. get_or ts c.args.number task) c.as_slice.ensures in
    let many : c.points_of-instances.result ≡ saturated (size c.args.spot.now.space) = c.points_of-instances.ensures ∙ ap (λ s. saturated (size s)) c.as_slice-2.ensures in
    let after : Walk = record c.args.walk.now { counts = c.add.new.self } in
    let Q : Task → Type 0 = λ u. GoesUnder m c.args.number u c.args.spot.now after c.push_copies.new.walk c.push_copies.result in
    let R : List Copied → Type 0 = λ rs. GoesOverCopies rs c.args.spot.now c.visit_parts.new.walk c.push_copies.new.walk c.push_copies.result in
    node_first m c.args.number task c.args.spot.now listed c.args.walk.now after c.push_copies.new.walk tt c.push_copies.result
    (λ node at. enters m node task c.args.spot.now c.args.walk.now after c.points_of-instances.result c.add.result tt at c.add.ensures.counted c.in_default.is many refl refl)
    (subst Q (sym c.in-Compound.is)
    (under_compound m c.args.number c.in-Compound.task c.args.spot.now after c.visit_parts.new.walk c.push_copies.new.walk (Ok tt) c.push_copies.result tt c.args.from.earlier
    c.in_ok-visit_parts-in-Compound.ensures refl (subst R c.as_slice-in-Compound.ensures c.push_copies.ensures)))

pub visit-returns-in-Repeated : goal.visit-returns-in-Repeated
visit-returns-in-Repeated t c =
    let m = c.args.from.model.now in
    let task = c.index-as_slice-number.result in
    let listed : task ≡ get_or m.tasks c.args.number task = c.index-as_slice-number.is ∙ ap (λ ts. get_or ts c.args.number task) c.as_slice.ensures in
    let many : c.points_of-instances.result ≡ saturated (size c.args.spot.now.space) = c.points_of-instances.ensures ∙ ap (λ s. saturated (size s)) c.as_slice-2.ensures in
    let after : Walk = record c.args.walk.now { counts = c.add.new.self } in
    let Q : Task → Type 0 = λ u. GoesUnder m c.args.number u c.args.spot.now after c.visit_below.new.walk c.visit_below.result in
    let R : List ℕ → Type 0 = λ s. GoesDown m c.in-Repeated.task.task (42 ∷ []) s c.args.spot.now after c.visit_below.new.walk c.visit_below.result in
    node_first m c.args.number task c.args.spot.now listed c.args.walk.now after c.visit_below.new.walk tt c.visit_below.result
    (λ node at. enters m node task c.args.spot.now c.args.walk.now after c.points_of-instances.result c.add.result tt at c.add.ensures.counted c.in_default.is many refl refl)
    (subst Q (sym c.in-Repeated.is)
    (under_repeated m c.args.number c.in-Repeated.task c.args.spot.now after c.visit_below.new.walk c.visit_below.result c.args.from.earlier
    (subst R c.as_slice-in-Repeated.ensures.entries c.visit_below.ensures)))

pub visit_below-returns-in_default : goal.visit_below-returns-in_default
visit_below-returns-in_default t c =
    let m = c.args.from.model.now in
    nowhere m c.args.name.now c.args.text.now c.args.space.now c.args.spot.now c.args.walk.now tt (sym (c.number_named.ensures m.tasks c.args.from.found) ∙ c.in_default.is)

pub visit_below-visit-requires : goal.visit_below-visit-requires
visit_below-visit-requires t c =
    let m = c.args.from.model.now in
    let within : c.in-Some.number < length m.tasks = (found m.tasks c.args.name.now c.in-Some.number (sym (c.number_named.ensures m.tasks c.args.from.found) ∙ c.in-Some.is)).within in
    search rules

pub visit_below-returns : goal.visit_below-returns
visit_below-returns t c =
    let m = c.args.from.model.now in
    leads m c.args.name.now c.args.text.now c.args.space.now c.args.spot.now c.in_ok-below.below c.args.walk.now c.visit.new.walk c.in-Some.number c.visit.result
    (sym (c.number_named.ensures m.tasks c.args.from.found) ∙ c.in-Some.is) c.in_ok-below.ensures.depth c.in_ok-below.ensures.space c.in_ok-below.ensures.path c.visit.ensures

pub visit_parts-returns-in_err-visit_below : goal.visit_parts-returns-in_err-visit_below
visit_parts-returns-in_err-visit_below t c =
    let m = c.args.from.model.now in
    let part = c.part-item.result in
    let i = c.loop-part.part-index in
    let many : length c.as_slice-part-items.result.now ≡ length c.args.task.now.parts = ap length c.as_slice-part-items.ensures in
    let lt : i < length c.args.task.now.parts = omega (arith, many) in
    let is : part ≡ get_or c.args.task.now.parts i part = c.part-item.is ∙ ap (λ ps. get_or ps i part) c.as_slice-part-items.ensures in
    let p = err_from_is_err_and c.from_residual.result c.from_residual.ensures.1 in
    let e = c.in_err-visit_below.field-0.0 in
    let P : Answer → Type 0 = λ r. GoesOverParts m c.args.task.now c.args.spot.now c.args.walk.now c.visit_below.new.walk r in
    let R : List ℕ → Type 0 = λ text. GoesDown m part.task text [] c.args.spot.now c.loop-part.walk c.visit_below.new.walk (Err e) in
    subst P (sym (p.1 ∙ ap Err p.2))
    (front_stops m c.args.task.now c.args.spot.now (i + 1) c.args.walk.now c.visit_below.new.walk (Err e) e
    (front_more m c.args.task.now c.args.spot.now i part c.args.walk.now c.loop-part.walk c.visit_below.new.walk (Ok tt) (Err e) tt
    lt is (among_get c.args.task.now.parts i part lt is) c.loop-part.invariant refl (subst R c.as_str.ensures c.in_err-visit_below.ensures))
    refl)

pub visit_parts-loop-part-preserved : goal.visit_parts-loop-part-preserved
visit_parts-loop-part-preserved t c =
    let m = c.args.from.model.now in
    let part = c.part-item.result in
    let i = c.loop-part.part-index in
    let many : length c.as_slice-part-items.result.now ≡ length c.args.task.now.parts = ap length c.as_slice-part-items.ensures in
    let lt : i < length c.args.task.now.parts = omega (arith, many) in
    let is : part ≡ get_or c.args.task.now.parts i part = c.part-item.is ∙ ap (λ ps. get_or ps i part) c.as_slice-part-items.ensures in
    let R : List ℕ → Type 0 = λ text. GoesDown m part.task text [] c.args.spot.now c.loop-part.walk c.visit_below.new.walk (Ok tt) in
    front_more m c.args.task.now c.args.spot.now i part c.args.walk.now c.loop-part.walk c.visit_below.new.walk (Ok tt) (Ok tt) tt
    lt is (among_get c.args.task.now.parts i part lt is) c.loop-part.invariant refl (subst R c.as_str.ensures c.in_ok-visit_below.ensures)

pub visit_parts-returns : goal.visit_parts-returns
visit_parts-returns t c =
    let many : length c.as_slice-part-items.result.now ≡ length c.args.task.now.parts = ap length c.as_slice-part-items.ensures in
    front_all c.args.from.model.now c.args.task.now c.args.spot.now c.loop-part.part-index c.args.walk.now c.loop-part.walk (Ok tt) (omega (arith, many)) c.loop-part.invariant
