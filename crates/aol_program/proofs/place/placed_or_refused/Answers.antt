use Rattle.std.proofs.Common.{◌≡◌, rules}
use Rattle.aol_program.specs.Made.{IsEntryReply}
use Rattle.aol_program.proofs.place.placed_or_refused.Goals as goal

pub returns-in_ok-reply-in-Err-Entry : goal.returns-in_ok-reply-in-Err-Entry
returns-in_ok-reply-in-Err-Entry c = record {
  entry = c.in-Err-Entry.entry;
  cause = c.in-Err-Entry.cause;
  first = c.in-Err-Entry.ensures.refused _ _ (search rules);
  is = c.in_ok-reply-in-Err-Entry.ensures;
}
