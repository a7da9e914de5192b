use Rattle.std.proofs.Common.{◌≡◌, ◌<◌, List, length, map, get_or, Some, None, sym, ◌∙◌, ap, arith, subst}
use Rattle.aol_expr_tree.specs.declared.port.Port.{Port}
use Rattle.aol_model_types.specs.declared.task.Part.{Part}
use Rattle.aol_model_types.specs.declared.task.Task.TheVariants as tasks
use Rattle.aol_model_types.specs.Rules.{inputs_named}
use Rattle.aol_flat.specs.Targets.{Target, reshape_target, node_targets}
use Rattle.aol_assign.specs.Found.{ReshapesFit}
use Rattle.aol_assign.proofs.FirstFound.{part_past, part_here}
use Rattle.aol_assign.proofs.Members.{at_index}
use Rattle.aol_assign.proofs.targets.twice_in_compound.Goals as goal

pub twice_in_part-requires-clause-fits : goal.twice_in_part-requires-clause-fits
twice_in_part-requires-clause-fits c =
    let t = c.args.task.now in
    let p = c.part-item.result in
    let many : length c.as_slice-part-items.result.now ≡ length t.parts = ap length c.as_slice-part-items.ensures in
    let lt : c.loop-part.part-index < length t.parts = omega (arith, many) in
    let is : p ≡ get_or t.parts c.loop-part.part-index p = c.part-item.is ∙ ap (λ xs. get_or xs c.loop-part.part-index p) c.as_slice-part-items.ensures in
    at_index (λ (q : Part). ReshapesFit t (Some q.name) (inputs_named c.args.from.model.now.tasks q.task)) t.parts c.loop-part.part-index p c.requires.parts lt is

pub returns-in-Some : goal.returns-in-Some
returns-in-Some c node =
    let t = c.args.task.now in
    let p = c.part-item.result in
    let many : length c.as_slice-part-items.result.now ≡ length t.parts = ap length c.as_slice-part-items.ensures in
    let lt : c.loop-part.part-index < length t.parts = omega (arith, many) in
    let is : p ≡ get_or t.parts c.loop-part.part-index p = c.part-item.is ∙ ap (λ xs. get_or xs c.loop-part.part-index p) c.as_slice-part-items.ensures in
    let f : Part → List Target = λ q. map (reshape_target node t (Some q.name)) (inputs_named c.args.from.model.now.tasks q.task) in
    sym (part_here f t.parts (map (reshape_target node t None) t.outs) c.loop-part.part-index p lt is (node_targets c.args.from.model.now (node, tasks.Compound t))
    (c.loop-part.invariant node) c.in-Some.found (sym (c.in_ok-found.ensures node) ∙ c.in-Some.is))

pub loop-part-preserved : goal.loop-part-preserved
loop-part-preserved c node =
    let t = c.args.task.now in
    let p = c.part-item.result in
    let many : length c.as_slice-part-items.result.now ≡ length t.parts = ap length c.as_slice-part-items.ensures in
    let lt : c.loop-part.part-index < length t.parts = omega (arith, many) in
    let is : p ≡ get_or t.parts c.loop-part.part-index p = c.part-item.is ∙ ap (λ xs. get_or xs c.loop-part.part-index p) c.as_slice-part-items.ensures in
    let f : Part → List Target = λ q. map (reshape_target node t (Some q.name)) (inputs_named c.args.from.model.now.tasks q.task) in
    part_past f t.parts (map (reshape_target node t None) t.outs) c.loop-part.part-index p lt is (node_targets c.args.from.model.now (node, tasks.Compound t))
    (c.loop-part.invariant node) (sym (c.in_ok-found.ensures node) ∙ c.in_default.is)

pub twice_in_ports-requires-clause-fits : goal.twice_in_ports-requires-clause-fits
twice_in_ports-requires-clause-fits c =
    let P : List Port → Type 0 = λ ports. ReshapesFit c.args.task.now None ports in
    subst P (sym c.as_slice.ensures) c.requires.own
