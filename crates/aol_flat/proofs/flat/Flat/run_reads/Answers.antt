use Rattle.std.proofs.Common.{sym, subst}
use Rattle.std.specs.List.{AllZip}
use Rattle.aol_model_types.specs.Rules.{inputs_of}
use Rattle.aol_flat.specs.Laid.{IsReadOf}
use Rattle.aol_flat.proofs.RunPoints.{run_ports, reads_of_run}
use Rattle.aol_flat.proofs.flat.Flat.run_reads.Goals as goal

pub reads_from-requires : goal.reads_from-requires
reads_from-requires c =
    record { flat = c.model-model.ensures.flat; ports = run_ports c.args.self.now.model c.model-model.ensures.flat.sound c.args.leaf c.args.spot c.args.at.now c.requires.spot c.requires.point inputs_of _ c.requires.many; routes = c.requires.routes }

pub returns-clause-reads : goal.returns-clause-reads
returns-clause-reads c = λ l listed.
    let s = c.requires.spot in
    let all = reads_of_run c.args.self.now.model c.model-model.ensures.flat.sound c.args.leaf c.args.spot c.args.at.now s c.requires.point l listed in
    subst (λ es. AllZip (IsReadOf c.args.self.now) es c.reads_from.new.into) (sym all) (c.reads_from.ensures.reads s.leaf.node s.task s.node)
