use Rattle.std.proofs.Common.{◌*ℤ◌, arith, rules}
use Rattle.std.proofs.lemmas.Int.{ints}
use mir.Val.{SFits}
use mir.Syntax.{w64}
use Rattle.aol_tiler.proofs.Entries.{to_z_back}
use Rattle.aol_tiler.proofs.Residues.{scaled_small}
use Rattle.aol_tiler.proofs.walker.times_factor.Goals as goal

pub returns : goal.returns
returns c =
    let product : SFits w64 (c.args.factor *ℤ c.args.number) = first_of (search rules, omega (arith, ints, scaled_small c.args.factor c.args.number c.requires.factor c.requires.number)) in
    grind (arith, to_z_back)
