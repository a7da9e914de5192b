-- That a model has at most one refusal, and none where it is accepted.
use Rattle.std.specs.Prelude.{◌≡◌}
use Rattle.aol_model_types.specs.declared.document.Model.{Model}
use Rattle.aol_flat.specs.Accept.{IsSound, IsAccepted}
use Rattle.aol_program.specs.ModelAnswer.{ModelRefused}
use Rattle.aol_lines.specs.Reply.{ReplyOf}

-- a sound model has at most one refusal
abbrev pub OneRefusal : Type 0
OneRefusal = (m : Model) → IsSound m → (r q : ReplyOf) → ModelRefused m r → ModelRefused m q → r ≡ q

-- and none where it is accepted
abbrev pub AcceptedIsNotRefused : Type 0
AcceptedIsNotRefused = (m : Model) → IsSound m → IsAccepted m → (r : ReplyOf) → ModelRefused m r → ⊥
