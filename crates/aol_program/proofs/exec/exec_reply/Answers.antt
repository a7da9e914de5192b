use Rattle.std.proofs.Common.{[], rules}
use Rattle.serde_json.specs.View.{view}
use Rattle.serde_json.specs.Errors.{IsMemory}
use Rattle.aol_program.specs.Answer.{JsonAnswers, no_json, tree}
use Rattle.aol_program.specs.ExecAnswer.{IsExecReply}
use Rattle.aol_lines.specs.Reply.{refusal}
use Rattle.aol_lines.specs.declared.status.StatusKind.TheVariants.{Json}
use Rattle.aol_program.proofs.Replies.{made_of, carried}
use Rattle.aol_program.proofs.exec.exec_reply.Goals as goal

pub returns-in-Ok : goal.returns-in-Ok
returns-in-Ok c =
    carried (IsExecReply (view c.in-Ok.tree)) (JsonAnswers c.args.bytes.now IsExecReply) c.tree_reply.result
    (λ r told. tree c.in-Ok.ensures.ok.0 (view c.in-Ok.tree) c.in-Ok.ensures.ok.1 r told) c.tree_reply.ensures

pub returns-in-Err-2 : goal.returns-in-Err-2
returns-in-Err-2 c =
    let other : ¬ IsMemory c.in-Err.refused = search rules in
    made_of (JsonAnswers c.args.bytes.now IsExecReply) c.refusal.result (refusal Json []) c.refusal.ensures (no_json (c.in-Err.ensures.err other))
