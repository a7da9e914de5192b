use Rattle.std.proofs.Common.{rules, ◌≡◌, ℕ, ◌+◌, ◌*◌, ◌<◌, length, get_or, Some, Ok, refl, sym, ◌∙◌, ap, subst, arith}
use Rattle.aol_shape.specs.Shape.{size}
use Rattle.aol_model_types.specs.declared.task.Task.{Task}
use Rattle.aol_flat.specs.declared.place.Way.{Way}
use Rattle.aol_flat.specs.Numbered.{number_named}
use Rattle.aol_flat.specs.Placed.{PlacesCopies, PlacesParts, PlacesDown}
use Rattle.aol_flat.specs.Leaves.{narrowed}
use Rattle.aol_flat.specs.Saturated.{saturated}
use Rattle.aol_flat.proofs.Placing.{PlacesUnder, place_first, place_elementary, place_compound, place_repeated, place_nowhere, place_found, place_more, place_all, parts_lower, body_lower}
use Rattle.aol_flat.proofs.Among.{among_get}
use Rattle.aol_flat.proofs.TaskNumbers.{found}
use Rattle.aol_flat.proofs.place.+place.Goals as goal

pub place-place_parts-requires : goal.place-place_parts-requires
place-place_parts-requires t c =
    let m = c.args.from.model.now in
    let task = c.index-as_slice-number.result in
    let listed : task ≡ get_or m.tasks c.args.number task = c.index-as_slice-number.is ∙ ap (λ ts. get_or ts c.args.number task) c.as_slice.ensures in
    (search rules, parts_lower m c.args.number task c.in-Compound.task c.args.from.earlier c.requires listed c.in-Compound.is)

pub place-place_named-requires : goal.place-place_named-requires
place-place_named-requires t c =
    let m = c.args.from.model.now in
    let task = c.index-as_slice-number.result in
    let listed : task ≡ get_or m.tasks c.args.number task = c.index-as_slice-number.is ∙ ap (λ ts. get_or ts c.args.number task) c.as_slice.ensures in
    (search rules, body_lower m c.args.number task c.in-Repeated.task c.args.from.earlier c.requires listed c.in-Repeated.is)

pub place-returns-in-Elementary : goal.place-returns-in-Elementary
place-returns-in-Elementary t c =
    let m = c.args.from.model.now in
    let task = c.index-as_slice-number.result in
    let listed : task ≡ get_or m.tasks c.args.number task = c.index-as_slice-number.is ∙ ap (λ ts. get_or ts c.args.number task) c.as_slice.ensures in
    let Q : Task → Type 0 = λ u. PlacesUnder m u c.args.number c.in_ok-node.node c.args.way c.push_row.new.self c.push_spot.new.self c.push_spot.result in
    place_first m c.args.number task c.args.way c.args.table.now c.push_row.new.self c.push_spot.new.self c.in_ok-node.node c.push_spot.result listed
    c.in_ok-node.ensures.number c.in_ok-node.ensures.rows c.push_row.ensures.spots
    (subst Q (sym c.in-Elementary.is)
    (place_elementary m c.in-Elementary.field-0 c.args.number c.in_ok-node.node c.args.way c.push_row.new.self c.push_spot.new.self c.push_spot.result c.push_spot.ensures.spots c.push_spot.ensures.rows))

pub place-returns-in_ok-place_parts-in-Compound : goal.place-returns-in_ok-place_parts-in-Compound
place-returns-in_ok-place_parts-in-Compound t c =
    let m = c.args.from.model.now in
    let task = c.index-as_slice-number.result in
    let listed : task ≡ get_or m.tasks c.args.number task = c.index-as_slice-number.is ∙ ap (λ ts. get_or ts c.args.number task) c.as_slice.ensures in
    let Q : Task → Type 0 = λ u. PlacesUnder m u c.args.number c.in_ok-node.node c.args.way c.push_row.new.self c.place_copies.new.table c.place_copies.result in
    let P : Way → Type 0 = λ w. PlacesParts m c.in-Compound.task w c.push_row.new.self c.place_parts.new.table (Ok tt) in
    let R : ℕ → Type 0 = λ n. PlacesCopies c.in_ok-node.node n c.place_parts.new.table c.place_copies.new.table c.place_copies.result in
    place_first m c.args.number task c.args.way c.args.table.now c.push_row.new.self c.place_copies.new.table c.in_ok-node.node c.place_copies.result listed
    c.in_ok-node.ensures.number c.in_ok-node.ensures.rows c.push_row.ensures.spots
    (subst Q (sym c.in-Compound.is)
    (place_compound m c.in-Compound.task c.args.number c.in_ok-node.node c.args.way c.push_row.new.self c.place_parts.new.table c.place_copies.new.table (Ok tt) c.place_copies.result tt
    c.args.from.earlier (subst P c.into_parts.ensures c.in_ok-place_parts-in-Compound.ensures) refl (subst R c.len.ensures c.place_copies.ensures)))

pub place-returns-in-Repeated : goal.place-returns-in-Repeated
place-returns-in-Repeated t c =
    let m = c.args.from.model.now in
    let task = c.index-as_slice-number.result in
    let listed : task ≡ get_or m.tasks c.args.number task = c.index-as_slice-number.is ∙ ap (λ ts. get_or ts c.args.number task) c.as_slice.ensures in
    let Q : Task → Type 0 = λ u. PlacesUnder m u c.args.number c.in_ok-node.node c.args.way c.push_row.new.self c.place_named.new.table c.place_named.result in
    let w = c.into_body-below in
    let e = c.as_slice-in-Repeated.ensures.entries in
    place_first m c.args.number task c.args.way c.args.table.now c.push_row.new.self c.place_named.new.table c.in_ok-node.node c.place_named.result listed
    c.in_ok-node.ensures.number c.in_ok-node.ensures.rows c.push_row.ensures.spots
    (subst Q (sym c.in-Repeated.is)
    (place_repeated m c.in-Repeated.task c.args.number c.in_ok-node.node c.args.way w.result c.push_row.new.self c.place_named.new.table c.place_named.result
    c.args.from.earlier w.ensures.up w.ensures.part (w.ensures.around ∙ ap (λ s. narrowed (c.args.way.around + length s)) e) (w.ensures.instances ∙ ap (λ s. saturated (c.args.way.instances * saturated (size s))) e) c.place_named.ensures))

pub place_named-returns-in_default : goal.place_named-returns-in_default
place_named-returns-in_default t c =
    let m = c.args.from.model.now in
    place_nowhere m c.args.name.now c.args.way c.args.table.now tt (sym (c.number_named.ensures m.tasks c.args.from.found) ∙ c.in_default.is)

pub place_named-place-requires : goal.place_named-place-requires
place_named-place-requires t c =
    let m = c.args.from.model.now in
    let named : number_named m.tasks c.args.name.now ≡ Some c.in-Some.number = sym (c.number_named.ensures m.tasks c.args.from.found) ∙ c.in-Some.is in
    let low : c.in-Some.number < c.args.above = c.requires c.in-Some.number named in
    let within : c.in-Some.number < length m.tasks = (found m.tasks c.args.name.now c.in-Some.number named).within in
    search rules

pub place_named-returns : goal.place_named-returns
place_named-returns t c =
    let m = c.args.from.model.now in
    place_found m c.args.name.now c.args.way c.args.table.now c.place.new.table c.in-Some.number c.place.result
    (sym (c.number_named.ensures m.tasks c.args.from.found) ∙ c.in-Some.is) c.place.ensures

pub place_parts-loop-number-preserved : goal.place_parts-loop-number-preserved
place_parts-loop-number-preserved t c =
    let m = c.args.from.model.now in
    let part = c.part-item.result in
    let i = c.loop-number.number in
    let many : length c.as_slice-part-items.result.now ≡ length c.args.task.now.parts = ap length c.as_slice-part-items.ensures in
    let lt : i < length c.args.task.now.parts = omega (arith, many, c.loop-number-test.true) in
    let is : part ≡ get_or c.args.task.now.parts i part = c.part-item.is ∙ ap (λ ps. get_or ps i part) c.as_slice-part-items.ensures in
    let way : ℕ → Way = λ k. record { up = c.args.way.up; part = k; around = c.args.way.around; instances = c.args.way.instances } in
    let P : ℕ → Type 0 = λ k. PlacesDown m part.task (way k) c.loop-number.table c.place_named.new.table (Ok tt) in
    place_more m c.args.task.now c.args.way i part c.args.table.now c.loop-number.table c.place_named.new.table (Ok tt) (Ok tt) tt lt is (among_get c.args.task.now.parts i part lt is)
    c.loop-number.invariant refl (subst P c.narrowed.ensures c.in_ok-place_named.ensures)

pub place_parts-returns : goal.place_parts-returns
place_parts-returns t c =
    let many : length c.as_slice-part-items.result.now ≡ length c.args.task.now.parts = ap length c.as_slice-part-items.ensures in
    place_all c.args.from.model.now c.args.task.now c.args.way c.loop-number.number c.args.table.now c.loop-number.table (Ok tt) (omega (arith, many, c.loop-number-test.false)) c.loop-number.invariant
