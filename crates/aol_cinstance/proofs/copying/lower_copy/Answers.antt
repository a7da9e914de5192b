use Rattle.std.proofs.Common.{sym, subst}
use Rattle.std.specs.Prelude.{◌+◌}
use Rattle.aol_lower.proofs.Made.{if_ok_map}
use Rattle.aol_cinstance.specs.declared.layout.TheConstants.{VALUE}
use Rattle.aol_cinstance.specs.Effect.{AreBodies, Gives}
use Rattle.aol_cinstance.proofs.BodyFits.{copying_fits}
use Rattle.aol_cinstance.proofs.CopyDoes.{copy_writes}
use Rattle.aol_cinstance.proofs.copying.lower_copy.Goals as goal

pub returns-clause-value : goal.returns-clause-value
returns-clause-value c =
    if_ok_map c.copying.result (λ body made sizes. subst (λ b. Gives sizes c.args.tables 1 1 (VALUE + 2) (λ xs. xs) b) (sym made) (copy_writes sizes c.args.tables)) c.copying.ensures

pub returns-clause-formed : goal.returns-clause-formed
returns-clause-formed c = if_ok_map c.copying.result (λ body made. subst (λ b. AreBodies c.args.tables (VALUE + 2) b) (sym made) (copying_fits c.args.tables)) c.copying.ensures
