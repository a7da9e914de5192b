-- One output port before others.
use Rattle.std.specs.Prelude.{◌≡◌, ℕ, ◌+◌, ◌*◌, ◌≤◌, ◌^◌, ℤ, pos, List, ◌∷◌, length}
use Rattle.std.proofs.Common.{sym, ap, subst, arith, ◌∙◌}
use Rattle.aol_shape.specs.Shape.{size, IsShape}
use Rattle.aol_expr_tree.specs.declared.value.Width.{Width}
use Rattle.aol_expr_tree.specs.Tree.{IsExpr}
use Rattle.aol_model_types.specs.declared.task.Elementary.{Elementary}
use Rattle.aol_model_types.specs.declared.task.OutPort.{OutPort}
use Rattle.aol_flat.specs.InstanceValue.{width_at}
use Rattle.aol_csyn.specs.Tree.{Stmt}
use Rattle.aol_lower.specs.Contract.{LeaveFitted, FittedAreFormed}
use Rattle.aol_cinstance.specs.declared.layout.Tables.{Tables}
use Rattle.aol_cinstance.specs.declared.layout.TheConstants.{VALUE}
use Rattle.aol_cinstance.specs.Statements.{port_loop, ArePorts}

pub ports_more : (t : Tables) (e : Elementary) (before k start place next after : ℕ) (outs others : List OutPort) (o : OutPort) (w : Width) (first : ℤ) (st : Stmt) (fitted rest body : List Stmt) → outs ≡ o ∷ others → IsShape o.port.shape → IsExpr o.expr
    → w ≡ width_at e.wide_out k → LeaveFitted t.reads e.ins (length o.port.shape) VALUE w o.expr fitted → FittedAreFormed t.reads e.ins VALUE o.expr fitted → first ≡ pos (4 * place) → 4 * place ≤ 2 ^ 62 → place ≡ before + start
    → ((n : ℕ) → first ≡ pos n → st ≡ port_loop o.port.shape t.cells start n fitted) → body ≡ st ∷ rest → next ≡ start + size o.port.shape → after ≡ place + size o.port.shape
    → ((b : ℕ) → after ≡ b + next → ArePorts t e b (k + 1) next others rest) → ArePorts t e before k start outs body
ports_more t e before k start place next after outs others o w first st fitted rest body split is_shape limits width leave formed first_is few place_is loop made next_is after_is are =
    let low = limits.shallow in
    let goes : after ≡ before + next = omega (arith, after_is, next_is, place_is) in
    let here : st ≡ port_loop o.port.shape t.cells start (4 * (before + start)) fitted = loop (4 * (before + start)) (first_is ∙ ap (λ n. pos (4 * n)) place_is) in
    let whole : body ≡ port_loop o.port.shape t.cells start (4 * (before + start)) fitted ∷ rest = made ∙ ap (λ s. s ∷ rest) here in
    subst (λ os. ArePorts t e before k start os body) (sym split) (
      fitted,
      rest,
      whole,
      (is_shape, omega (arith, low)),
      subst (λ v. LeaveFitted t.reads e.ins (length o.port.shape) VALUE v o.expr fitted) width leave,
      formed,
      omega (arith, few, place_is),
      subst (λ n. ArePorts t e before (k + 1) n others rest) next_is (are before goes),
    )
