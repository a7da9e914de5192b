use Rattle.std.proofs.Common.{◌≡◌, ◌+◌, Some, slice_get, sym, ◌∙◌, ap, arith}
use Rattle.std.proofs.lemmas.Option.{slice_get-get_or}
use Rattle.aol_depend.proofs.MainReads.{elements_more, elements_within}
use Rattle.aol_depend.proofs.main_reads.element_count.Goals as goal

pub overflow_add-count : goal.overflow_add-count
overflow_add-count c =
    let ports = c.args.ports.now in
    let i = c.loop-port.port-index in
    let at : slice_get ports i ≡ Some c.port-item.result = slice_get-get_or ports i c.port-item.result c.loop-port-test.true ∙ ap Some (sym c.port-item.is) in
    omega (arith, elements_more ports i c.port-item.result at, elements_within ports (i + 1), c.requires, c.size-count.ensures.points, c.loop-port.invariant)

pub loop-port-preserved : goal.loop-port-preserved
loop-port-preserved c =
    let ports = c.args.ports.now in
    let i = c.loop-port.port-index in
    let at : slice_get ports i ≡ Some c.port-item.result = slice_get-get_or ports i c.port-item.result c.loop-port-test.true ∙ ap Some (sym c.port-item.is) in
    omega (arith, elements_more ports i c.port-item.result at, c.size-count.ensures.points, c.loop-port.invariant)
