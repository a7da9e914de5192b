use Rattle.std.proofs.Common.{ℕ, List, sym, subst}
use Rattle.aol_program.specs.Accept.{IsCause}
use Rattle.aol_program.specs.Refusing.{IsReplyTo}
use Rattle.aol_program.proofs.Refusals.{told_by, json_told, grammar_told, text_limit_told, shape_told, tree_limit_told, assign_told, cycle_told}
use Rattle.aol_program.proofs.Replies.{carried}
use Rattle.aol_program.proofs.Tested.{cycle_within}
use Rattle.aol_program.proofs.refusing.refused_reply.Goals as goal

pub assign_reply-requires-clause-bounded : goal.assign_reply-requires-clause-bounded
assign_reply-requires-clause-bounded c = (subst (IsCause c.requires.0) c.in-Assign.is c.requires.1).holds.0.bounded

pub assign_reply-requires-clause-told : goal.assign_reply-requires-clause-told
assign_reply-requires-clause-told c = (subst (IsCause c.requires.0) c.in-Assign.is c.requires.1).holds.1

pub cycle_reply-requires : goal.cycle_reply-requires
cycle_reply-requires c = cycle_within c.in-Cycle.flat.model c.in-Cycle.instance (subst (IsCause c.requires.0) c.in-Cycle.is c.requires.1).holds.3

pub returns-in-Json : goal.returns-in-Json
returns-in-Json c = told_by _ c.args.refused.now c.refusal.result _ c.in-Json.is c.refusal.ensures json_told

pub returns-in-Grammar : goal.returns-in-Grammar
returns-in-Grammar c = told_by _ c.args.refused.now c.wrong_form.result _ c.in-Grammar.is c.wrong_form.ensures (grammar_told c.in-Grammar.place)

pub returns-in-TextLimit : goal.returns-in-TextLimit
returns-in-TextLimit c = told_by _ c.args.refused.now c.past_limit.result _ c.in-TextLimit.is c.past_limit.ensures (text_limit_told c.in-TextLimit.place c.in-TextLimit.name)

pub returns-in-Shape : goal.returns-in-Shape
returns-in-Shape c = told_by _ c.args.refused.now c.misfit_reply.result _ c.in-Shape.is c.misfit_reply.ensures (shape_told c.in-Shape.misfit)

pub returns-in-TreeLimit : goal.returns-in-TreeLimit
returns-in-TreeLimit c = told_by _ c.args.refused.now c.limit_reply.result _ c.in-TreeLimit.is c.limit_reply.ensures (tree_limit_told c.in-TreeLimit.path c.in-TreeLimit.name)

pub returns-in-Assign : goal.returns-in-Assign
returns-in-Assign c =
    carried _ (IsReplyTo c.args.refused.now) c.assign_reply.result (λ r a. subst (λ e. IsReplyTo e r) (sym c.in-Assign.is) (assign_told c.in-Assign.flat c.in-Assign.refused r a)) c.assign_reply.ensures

pub returns-in-Cycle : goal.returns-in-Cycle
returns-in-Cycle c = told_by _ c.args.refused.now c.cycle_reply.result _ c.in-Cycle.is c.cycle_reply.ensures (cycle_told c.in-Cycle.flat c.in-Cycle.instance)
