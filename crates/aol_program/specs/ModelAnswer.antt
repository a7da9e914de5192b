-- What is answered for a model that isn't accepted.
use Rattle.std.specs.Prelude.{◌≡◌, ℕ, [], ◌∷◌, Some}
use Rattle.aol_shape.specs.declared.limit.LimitName.{LimitName}
use Rattle.aol_model_types.specs.declared.document.Model.{Model}
use Rattle.aol_model_types.specs.Places.{limit_text}
use Rattle.aol_flat.specs.InstanceNeed.{IsFirstInCycle}
use Rattle.aol_flat.specs.Limits.{first_limit, IsBounded}
use Rattle.aol_flat.specs.Node.{Node, node_path}
use Rattle.aol_flat.specs.Reads.{Reading, AllGiven, IsFirstUnwritten}
use Rattle.aol_flat.specs.Targets.{Twice, first_twice, IsSingleAssignment}
use Rattle.aol_lines.specs.declared.status.StatusKind.TheVariants as statuses
use Rattle.aol_lines.specs.Instance.{instance_text}
use Rattle.aol_lines.specs.Refused.{reading_words, twice_words}
use Rattle.aol_lines.specs.Reply.{ReplyOf, refusal}

-- a limit of the hierarchy; else a point that is written twice; else an element that is read and not given; else an instance that needs itself
pub data ModelRefused (m : Model) : ReplyOf → Type 0 where
  limited : (at : Node) (name : LimitName) → first_limit m ≡ Some (at, name) → ModelRefused m (refusal statuses.Limit (node_path m at ∷ limit_text name ∷ []))
  written_twice : IsBounded m → (t : Twice) → first_twice m ≡ Some t → ModelRefused m (refusal statuses.Twice (twice_words m t))
  unwritten : IsBounded m → IsSingleAssignment m → (r : Reading) → IsFirstUnwritten m r → ModelRefused m (refusal statuses.Unwritten (reading_words m r.reader r.port r.rank))
  in_cycle : IsBounded m → IsSingleAssignment m → AllGiven m → (j : ℕ) → IsFirstInCycle m j → ModelRefused m (refusal statuses.Cycle (instance_text m j ∷ []))
