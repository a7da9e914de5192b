use Rattle.std.proofs.Common.{◌≡◌, ◌+◌, ◌<◌, length, drop, Some, None, sym, ◌∙◌, ap, rules}
use Rattle.aol_flat.specs.InstanceValue.{first_fault}
use Rattle.aol_program.specs.Outputs.{values_of}
use Rattle.aol_program.proofs.RunReplies.{fault_after, fault_front, values_more}
use Rattle.aol_program.proofs.printed.first_fault.Goals as goal

pub returns-in-Some : goal.returns-in-Some
returns-in-Some c =
    let o = c.output-item.result in
    let outputs = c.args.outputs.now in
    let i = c.loop-output.output-index in
    let within : i < length outputs = search rules in
    let here : Some c.in-Some.site ≡ first_fault o.vals = sym c.in-Some.is ∙ c.fault_among.ensures ∙ ap first_fault c.as_slice.ensures in
    fault_front o.vals (values_of (drop (i + 1) outputs)) c.in-Some.site here ∙ sym (c.loop-output.invariant ∙ ap first_fault (values_more outputs i o within c.output-item.is))

pub loop-output-preserved : goal.loop-output-preserved
loop-output-preserved c =
    let o = c.output-item.result in
    let outputs = c.args.outputs.now in
    let i = c.loop-output.output-index in
    let within : i < length outputs = search rules in
    let none : None ≡ first_fault o.vals = sym c.in_default.is ∙ c.fault_among.ensures ∙ ap first_fault c.as_slice.ensures in
    c.loop-output.invariant ∙ ap first_fault (values_more outputs i o within c.output-item.is) ∙ fault_after o.vals (values_of (drop (i + 1) outputs)) none
