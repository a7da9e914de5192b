use Rattle.std.proofs.Common.{◌≡◌, subst, refl}
use Rattle.std.proofs.lemmas.Option.{slice_get_within}
use Rattle.aol_flat.specs.Instance.{Run, instances}
use Rattle.aol_step_lines.proofs.Ends.{made_end}
use Rattle.aol_step_lines.proofs.ending.push_end.Goals as goal

pub instance_name-requires : goal.instance_name-requires
instance_name-requires c =
    let made = made_end c.args.flat.now.model c.requires.0 c.args.end c.in-Made.instance c.in-Made.port c.in-Made.point c.requires.1 c.in-Made.is in
    slice_get_within (instances c.args.flat.now.model) c.in-Made.instance (Run made.place) made.at
