-- What `exec` writes for a JSON tree.
use Rattle.std.specs.Prelude.{◌≡◌, ℕ, List, [], ◌∷◌, codes, decimal}
use Rattle.serde_json.specs.Data.{Data}
use Rattle.aol_model_types.specs.Places.{place_text, limit_text}
use Rattle.aol_exec.specs.Answer.{Answer, wrong, past, long_memory, stuck, ended, Answers}
use Rattle.aol_exec.specs.declared.job.JobRefused.{JobRefused}
use Rattle.aol_exec.specs.declared.job.JobRefused.TheVariants as refusals
use Rattle.aol_lines.specs.declared.status.StatusKind.TheVariants.{Done, Grammar, Limit, Input, Stuck}
use Rattle.aol_lines.specs.Reply.{ReplyOf, reply, refusal}

-- the reply that tells an answer
abbrev pub exec_reply : Answer → ReplyOf
exec_reply (wrong place) = refusal Grammar (place_text place ∷ [])
exec_reply (past place passed) = refusal Limit (place_text place ∷ limit_text passed ∷ [])
exec_reply long_memory = refusal Input (codes "memory" ∷ codes "length" ∷ [])
exec_reply (stuck level worker) = refusal Stuck (decimal level ∷ decimal worker ∷ [])
exec_reply (ended text) = reply Done text

-- the reply tells an answer to the tree
pub record IsExecReply (d : Data) (r : ReplyOf) : Type 0 where
  pub answer : Answer
  pub answers : Answers d answer
  pub told : r ≡ exec_reply answer

-- ---- for the functions inside

-- the reply tells the answer that a refusal stands for; want of memory has none
abbrev pub IsLineOf : JobRefused → ReplyOf → Type 0
IsLineOf (refusals.Grammar place) r = r ≡ exec_reply (wrong place)
IsLineOf (refusals.Limit place passed) r = r ≡ exec_reply (past place passed)
IsLineOf refusals.LongMemory r = r ≡ exec_reply long_memory
IsLineOf (refusals.Stuck level worker) r = r ≡ exec_reply (stuck level worker)
IsLineOf refusals.NoMemory r = ⊥
