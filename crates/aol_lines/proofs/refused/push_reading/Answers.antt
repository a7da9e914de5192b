use Rattle.std.proofs.Common.{◌≡◌, subst}
use Rattle.std.proofs.lemmas.Option.{slice_get_within}
use Rattle.aol_flat.specs.Instance.{instances}
use Rattle.aol_flat.specs.declared.view.Reader.{Reader}
use Rattle.aol_lines.specs.Refused.{IsReadBy}
use Rattle.aol_lines.proofs.Readers.{reads_there}
use Rattle.aol_lines.proofs.refused.push_reading.Goals as goal

pub instance_name-requires : goal.instance_name-requires
instance_name-requires c =
    let read = subst (λ (r : Reader). IsReadBy c.args.flat.now.model r c.args.port c.args.point) c.in-Instance.is c.requires in
    let i = reads_there c.args.flat.now.model c.in-Instance.instance c.args.port c.args.point read in
    slice_get_within (instances c.args.flat.now.model) c.in-Instance.instance i.instance i.at
