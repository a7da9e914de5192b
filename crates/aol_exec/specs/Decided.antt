-- That each tree has one answer.
use Rattle.std.specs.Prelude.{◌≡◌}
use Rattle.serde_json.specs.Data.{Data}
use Rattle.aol_exec.specs.Answer.{Answer, Answers}

-- a tree has this answer, and no other
pub record IsDecided (d : Data) : Type 0 where
  pub answer : Answer
  pub answers : Answers d answer
  pub one : (other : Answer) → Answers d other → other ≡ answer

-- each tree has one answer, so each answer comes exactly where its cause holds
abbrev pub ExecIsDecided : Type 0
ExecIsDecided = (d : Data) → IsDecided d
