use Rattle.std.proofs.Common.{inr, ap, Err}
use Rattle.aol_change.proofs.Lists.{first_told}
use Rattle.aol_change.proofs.laid.laid_out.Goals as goal

pub returns-in-Err-Limit-clause-refused : goal.returns-in-Err-Limit-clause-refused
returns-in-Err-Limit-clause-refused c = inr (first_told c.args.model _ c.in-Err-Limit.limit (c.in-Err-Limit.ensures.limit _ c.in-Err-Limit.limit (ap (λ e. Err e) c.in-Err-Limit.field-0-is)))
