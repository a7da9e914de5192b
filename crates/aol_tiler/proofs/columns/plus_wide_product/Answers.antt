use Rattle.std.proofs.Common.{◌+ℤ◌, ◌*ℤ◌, arith, rules}
use mir.Val.{SFits}
use mir.Syntax.{w128}
use Rattle.aol_tiler.proofs.Entries.{to_z_back, plus_product_bound}
use Rattle.aol_tiler.proofs.columns.plus_wide_product.Goals as goal

pub returns-clause-value : goal.returns-clause-value
returns-clause-value c =
    let product : SFits w128 (c.args.number *ℤ c.args.entry) = search rules in
    let sum : SFits w128 (c.args.sum +ℤ c.args.number *ℤ c.args.entry) = search rules in
    grind (arith, to_z_back)

pub returns-clause-bound : goal.returns-clause-bound
returns-clause-bound c =
    let product : SFits w128 (c.args.number *ℤ c.args.entry) = search rules in
    let sum : SFits w128 (c.args.sum +ℤ c.args.number *ℤ c.args.entry) = search rules in
    grind (arith, to_z_back, plus_product_bound)
