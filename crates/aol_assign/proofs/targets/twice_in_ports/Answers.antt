use Rattle.std.proofs.Common.{List, sym, ◌∙◌, ap, arith, subst}
use Rattle.std.specs.Option.{option_copied}
use Rattle.aol_flat.proofs.Among.{among_get, get_among}
use Rattle.aol_assign.specs.declared.targets.Numbered.{Numbered}
use Rattle.std.proofs.Common.{map}
use Rattle.std.proofs.lemmas.List.{drop_all}
use Rattle.aol_flat.specs.Targets.{reshape_target}
use Rattle.aol_assign.specs.Found.{found_in, IntoFits}
use Rattle.aol_assign.proofs.FirstFound.{into_fits, reshapes_past, reshapes_here}
use Rattle.aol_assign.proofs.targets.twice_in_ports.Goals as goal

pub targets_on-requires : goal.targets_on-requires
targets_on-requires c =
    let y = c.port-item.result in
    let P : List Numbered → Type 0 = λ vs. IntoFits y vs in
    subst P (sym c.as_slice.ensures.value)
    (into_fits c.args.task.now (option_copied c.args.part) c.args.ports.now y
    (get_among c.args.ports.now c.loop-port.port-index y (among_get c.args.ports.now c.loop-port.port-index y (omega arith) c.port-item.is))
    c.requires.fits c.in_ok-into.into.items c.in_ok-into.ensures.into)

pub returns-in-Some : goal.returns-in-Some
returns-in-Some c =
    reshapes_here c.args.task.now (option_copied c.args.part) c.args.ports.now c.loop-port.port-index c.port-item.result (omega arith) c.port-item.is
    c.in_ok-into.into.items c.as_slice.result.now c.as_slice.ensures.value c.in_ok-into.ensures.same c.in_ok-into.ensures.into
    c.in_ok-members.members.items c.as_slice-in-loop-port.result.now c.as_slice-in-loop-port.ensures.value c.in_ok-members.ensures.same
    c.in_ok-repeat.field-0 c.in_ok-repeat.ensures c.loop-port.invariant c.in-Some.repeat c.in-Some.is
    c.in_ok-part.part c.in_ok-port.port c.in_ok-part.ensures c.in_ok-port.ensures

pub loop-port-preserved : goal.loop-port-preserved
loop-port-preserved c =
    reshapes_past c.args.task.now (option_copied c.args.part) c.args.ports.now c.loop-port.port-index c.port-item.result (omega arith) c.port-item.is
    c.in_ok-into.into.items c.as_slice.result.now c.as_slice.ensures.value c.in_ok-into.ensures.same c.in_ok-into.ensures.into
    c.in_ok-members.members.items c.as_slice-in-loop-port.result.now c.as_slice-in-loop-port.ensures.value c.in_ok-members.ensures.same
    c.in_ok-repeat.field-0 c.in_ok-repeat.ensures c.loop-port.invariant c.in_default.is

pub returns : goal.returns
returns c node = sym (c.loop-port.invariant node ∙ ap (λ ps. found_in (map (reshape_target node c.args.task.now (option_copied c.args.part)) ps)) (drop_all c.loop-port.port-index c.args.ports.now (omega arith)))
