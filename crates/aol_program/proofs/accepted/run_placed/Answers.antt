use Rattle.std.proofs.Common.{◌≡◌, sym, ◌∙◌, subst, rules}
use Rattle.aol_flat.specs.Net.{AreMainInputs}
use Rattle.aol_flat.specs.Tasks.{main_inputs}
use Rattle.aol_runner.specs.Outputs.{AreOutputs}
use Rattle.aol_runner.specs.Run.{IsRunField}
use Rattle.aol_program.specs.Inputs.{given_arrays}
use Rattle.aol_program.specs.Outputs.{outputs_reply}
use Rattle.aol_lines.specs.Reply.{reply_of}
use Rattle.aol_program.specs.Run.{IsRunReply}
use Rattle.aol_program.proofs.RunReplies.{main_inputs_given, outputs_run}
use Rattle.aol_program.proofs.accepted.run_placed.Goals as goal

pub run-requires-clause-inputs : goal.run-requires-clause-inputs
run-requires-clause-inputs g c =
    let m = c.args.flat.now.model in
    let given = c.args.inputs.now in
    let made : c.in_ok-given.given ≡ given_arrays given (main_inputs m) = search rules in
    λ _ _. subst (AreMainInputs m) (sym made) (main_inputs_given m given c.requires.fit)

pub returns-clause-reply : goal.returns-clause-reply
returns-clause-reply g c =
    let m = c.args.flat.now.model in
    let given = c.args.inputs.now in
    let ports = c.in_ok-outputs.outputs.ports in
    let made : c.in_ok-given.given ≡ given_arrays given (main_inputs m) = search rules in
    let is : reply_of c.in_ok-reply.reply ≡ outputs_reply m ports = search rules in
    let outs : AreOutputs m (given_arrays given (main_inputs m)) ports = subst (λ xs. AreOutputs m xs ports) made c.in_ok-outputs.ensures.outputs in
    subst (IsRunReply m given) (sym is) (outputs_run m given ports outs)

pub returns-clause-memory : goal.returns-clause-memory
returns-clause-memory g c =
    let made : c.in_ok-given.given ≡ given_arrays c.args.inputs.now (main_inputs c.args.flat.now.model) = search rules in
    subst (λ xs. IsRunField c.args.flat.now c.args.placed.now.of_instance xs c.in_ok-outputs.memory) made c.in_ok-outputs.ensures.memory
