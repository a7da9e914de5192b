use Rattle.std.proofs.Common.{◌≡◌, ◌-◌, ℤ, pos, List, [], ◌∷◌, ◌++◌, length, drop, ◌∙◌, ap, arith}
use Rattle.aol_shape.specs.Vectors.{plus_columns}
use Rattle.aol_tiler.specs.Walk.{residues}
use Rattle.aol_trail.specs.Level.{noughts}
use Rattle.aol_trail.proofs.Levels.{last_slice, last_even}
use Rattle.aol_trail.proofs.level.write_step.Goals as goal

pub write_residues-requires-clause-even : goal.write_residues-requires-clause-even
write_residues-requires-clause-even c =
    let k : c.saturating_sub.result ≡ length c.args.paving.now - 1 = omega arith in
    last_even c.args.array.now c.args.paving.now _ (last_slice c.args.paving.now c.saturating_sub.result k) c.requires.array c.requires.even

pub returns : goal.returns
returns c =
    let n = length c.args.array.now in
    let k : c.saturating_sub.result ≡ length c.args.paving.now - 1 = omega arith in
    c.write_residues.ensures.places
    ∙ ap (λ (cs : List (List ℤ)). residues c.args.array.now (plus_columns (noughts n) cs (pos 1 ∷ [])) ++ drop n c.args.step.now) (last_slice c.args.paving.now c.saturating_sub.result k)
