use Rattle.std.proofs.Common.{◌≡◌, refl}
use Rattle.aol_flat.specs.declared.refused.FlatRefused.TheVariants.{Limit}
use Rattle.aol_flat.proofs.Laying.{tables, bounded, limit_told}
use Rattle.aol_flat.proofs.flat.flatten.Goals as goal

pub invariant_of-result : goal.invariant_of-result
invariant_of-result c = tables c.args.model c.in-Ok.field-0.walk c.in-Ok.field-0.walk.leaves c.narrowed.result c.in-Ok.field-0.tables c.requires c.in-Ok.ensures.0 refl c.narrowed.ensures c.in-Ok.ensures.1

pub returns-in-Ok-clause-limits : goal.returns-in-Ok-clause-limits
returns-in-Ok-clause-limits c = bounded c.args.model c.in-Ok.field-0.walk c.in-Ok.ensures.0

pub returns-in-Err-clause-limit : goal.returns-in-Err-clause-limit
returns-in-Err-clause-limit c = λ path limit h.
    let told : c.in-Err.error ≡ Limit path limit = cc in
    limit_told c.args.model c.in-Err.error path limit c.in-Err.ensures told
