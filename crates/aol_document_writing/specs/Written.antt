-- Members of an object that is written.
use Rattle.std.specs.Prelude.{◌≡◌, true, false}
use Rattle.serde_json.specs.Data.{Members}
use Rattle.serde_json.specs.Written.{members_have_float}
use Rattle.aol_model_types.specs.Trees.{are_members}

-- values can be the members, and none has floats
pub record AreWritten (ms : Members) : Type 0 where
  pub held : are_members ms ≡ true
  pub whole : members_have_float ms ≡ false
