-- That a list of steps makes one model, or has one reply.
use Rattle.std.specs.Prelude.{◌≡◌, List}
use Rattle.aol_model_types.specs.declared.document.Model.{Model}
use Rattle.aol_model_types.specs.declared.job.Step.{Step}
use Rattle.aol_transform.specs.Steps.{StepsTo}
use Rattle.aol_lines.specs.Reply.{ReplyOf}
use Rattle.aol_step_lines.specs.StepsReply.{StepsReply}

-- steps that are all kept make one model
abbrev pub OneModelMade : Type 0
OneModelMade = (m : Model) (steps : List Step) (first second : Model) → StepsTo m steps first → StepsTo m steps second → first ≡ second

-- and have no reply
abbrev pub KeptHaveNoReply : Type 0
KeptHaveNoReply = (m : Model) (steps : List Step) (last : Model) (r : ReplyOf) → StepsTo m steps last → StepsReply m steps r → ⊥

-- other steps have at most one
abbrev pub OneStepsReply : Type 0
OneStepsReply = (m : Model) (steps : List Step) (r q : ReplyOf) → StepsReply m steps r → StepsReply m steps q → r ≡ q
