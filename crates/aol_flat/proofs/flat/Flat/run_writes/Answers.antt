use Rattle.std.proofs.Common.{sym, subst}
use Rattle.std.specs.List.{AllZip}
use Rattle.aol_model_types.specs.Rules.{outputs_of}
use Rattle.aol_flat.specs.Laid.{IsCellOf}
use Rattle.aol_flat.proofs.RunPoints.{run_ports, writes_of_run}
use Rattle.aol_flat.proofs.flat.Flat.run_writes.Goals as goal

pub cells_from-requires : goal.cells_from-requires
cells_from-requires c =
    record { flat = c.model-model.ensures.flat; ports = run_ports c.args.self.now.model c.model-model.ensures.flat.sound c.args.leaf c.args.spot c.args.at.now c.requires.spot c.requires.point outputs_of _ c.requires.many; routes = c.requires.routes }

pub returns-clause-cells : goal.returns-clause-cells
returns-clause-cells c = λ l listed.
    let s = c.requires.spot in
    let all = writes_of_run c.args.self.now.model c.model-model.ensures.flat.sound c.args.leaf c.args.spot c.args.at.now s c.requires.point l listed in
    subst (λ es. AllZip (IsCellOf c.args.self.now) es c.cells_from.new.into) (sym all) (c.cells_from.ensures.cells s.leaf.node s.task s.node)
