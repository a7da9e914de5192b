-- The same bytes have one reply.
use Rattle.std.proofs.Common.{◌≡◌, ℕ, List, [], ◌∷◌, length, codes, decimal, Bool, true, false, not, cond, ◌&&◌, Some, None, option_map, Result, refl, sym, ◌∙◌, ap, subst}
use Rattle.std.specs.List.{find, list_all}
use Rattle.serde_json.specs.Data.{Data}
use Rattle.aol_model_types.specs.declared.document.Document.{Document}
use Rattle.aol_model_types.specs.declared.document.Misfit.{Misfit}
use Rattle.aol_model_types.specs.declared.document.Model.{Model}
use Rattle.aol_model_types.specs.declared.job.InputArray.{InputArray}
use Rattle.aol_model_types.specs.Places.{place_text, whole}
use Rattle.aol_model_types.specs.Reading.{Fault, document_in}
use Rattle.aol_model_types.specs.Rules.{Check as RuleCheck, checks, first_misfit}
use Rattle.aol_flat.specs.Accept.{IsSound}
use Rattle.aol_flat.specs.Instance.{instances}
use Rattle.aol_flat.specs.InstanceNeed.{level_count}
use Rattle.aol_allocate.specs.declared.cause.PlaceCause.{PlaceCause}
use Rattle.aol_allocate.specs.Placement.{first_cause, workers_of}
use Rattle.aol_program.specs.declared.words.Command.{Command}
use Rattle.aol_program.specs.declared.words.Command.TheVariants.{Check, Print, Transform, Run, Place, Exec}
use Rattle.aol_lines.specs.declared.status.StatusKind.TheVariants.{Done, Shape, Input, Allocate}
use Rattle.aol_program.specs.AcceptedAnswer.{AcceptedAnswers, IsMade, IsNotMade, without_steps, TransformAnswers, not_made, made, IsPlaceable, IsUnplaced, by_step, by_entry, RunAnswers, wrong_input, not_placed, run, PlaceAnswers, unplaced, placed, IsCheckReply}
use Rattle.aol_program.specs.Answer.{DocumentAnswers, misfit, refused, accepted, TreeAnswers, wrong_form, text_limit, document, JsonAnswers, no_json, tree, Answers, by_document, by_job}
use Rattle.aol_program.specs.Checked.{accepted_line, cause_words}
use Rattle.aol_program.specs.Inputs.{Unfit}
use Rattle.aol_lines.specs.Reply.{ReplyOf, reply, refusal}
use Rattle.aol_program.specs.Run.{IsRunReply}
use Rattle.aol_program.specs.ExecAnswer.{exec_reply, IsExecReply}
use Rattle.aol_program.specs.Words.{IsDetermined}
use Rattle.serde_json.specs.Written.{compact_text}
use Rattle.aol_shape.specs.Lines.{line}
use Rattle.aol_model_types.specs.Writing.{document_tree}
use Rattle.aol_step_lines.proofs.OneReply.{one_model, kept_have_no_reply, one_steps_reply}
use Rattle.aol_program.specs.Placed.{place_lines}
use Rattle.aol_exec.proofs.OneJob.{one_answer}
use Rattle.aol_program.proofs.Commands.{not_two}
use Rattle.aol_program.proofs.OneFound.{one_found, not_both}
use Rattle.aol_program.proofs.OneRefusal.{one_refusal, accepted_not_refused, levels_agree}

-- all solutions print one reply
run_one : (m : Model) (inputs : List InputArray) (r q : ReplyOf) → IsRunReply m inputs r → IsRunReply m inputs q → r ≡ q
run_one m inputs r q a b = a.of_every a.exists.0 a.exists.1 ∙ sym (b.of_every a.exists.0 a.exists.1)

-- the steps make one model
same_made : (d : Document) (a b : Model) → IsMade d a → IsMade d b → a ≡ b
same_made d a b p q = one_model d.model d.job.transform a b p q

not_made_too : (d : Document) (last : Model) (r : ReplyOf) → IsMade d last → IsNotMade d r → ⊥
not_made_too d last r p h = kept_have_no_reply d.model d.job.transform last r p h

-- what isn't placed has one reply
unplaced_one : (d : Document) (r q : ReplyOf) → IsUnplaced d r → IsUnplaced d q → r ≡ q
unplaced_one d _ _ (by_step r h) (by_step q g) = one_steps_reply d.model d.job.transform r q h g
unplaced_one d _ _ (by_step r h) (by_entry last is k c w) = absurd (not_made_too d last r is h)
unplaced_one d _ _ (by_entry last is k c w) (by_step q g) = absurd (not_made_too d last q is g)
unplaced_one d _ _ (by_entry last is k c w) (by_entry other so j b u) =
    let same : last ≡ other = same_made d last other is so in
    ap (λ (x : ℕ × PlaceCause). refusal Allocate (decimal x.0 ∷ cause_words x.1)) (one_found (first_cause last d.job.allocate) (k, c) (j, b) w (ap (λ m. first_cause m d.job.allocate) same ∙ u))

not_unplaced : (d : Document) (last : Model) (r : ReplyOf) → IsPlaceable d last → IsUnplaced d r → ⊥
not_unplaced d last _ p (by_step r h) = not_made_too d last r p.made h
not_unplaced d last _ p (by_entry other is k c w) = not_both (first_cause last d.job.allocate) (k, c) p.no_cause (ap (λ m. first_cause m d.job.allocate) (same_made d last other p.made is) ∙ w)

-- a transformation has one reply
transformed_one : (d : Document) (r q : ReplyOf) → TransformAnswers d r → TransformAnswers d q → r ≡ q
transformed_one d _ _ (not_made r h) (not_made q g) = one_steps_reply d.model d.job.transform r q h g
transformed_one d _ _ (not_made r h) (made last p) = absurd (not_made_too d last r p h)
transformed_one d _ _ (made last p) (not_made q g) = absurd (not_made_too d last q p g)
transformed_one d _ _ (made last p) (made other o) = ap (λ m. reply Done (line (compact_text (document_tree m (without_steps d.job))))) (same_made d last other p o)

-- a run has one reply
ran_one : (d : Document) (r q : ReplyOf) → RunAnswers d r → RunAnswers d q → r ≡ q
ran_one d _ _ (wrong_input name cause w) (wrong_input other why u) = ap (λ (x : Unfit). refusal Input (x.0 ∷ x.1 ∷ [])) (one_found _ (name, cause) (other, why) w u)
ran_one d _ _ (wrong_input name cause w) (not_placed u q b) = absurd (not_both _ (name, cause) u w)
ran_one d _ _ (wrong_input name cause w) (run u last p q b) = absurd (not_both _ (name, cause) u w)
ran_one d _ _ (not_placed w r a) (wrong_input name cause u) = absurd (not_both _ (name, cause) w u)
ran_one d _ _ (not_placed w r a) (not_placed u q b) = unplaced_one d r q a b
ran_one d _ _ (not_placed w r a) (run u last p q b) = absurd (not_unplaced d last r p a)
ran_one d _ _ (run w last p r a) (wrong_input name cause u) = absurd (not_both _ (name, cause) w u)
ran_one d _ _ (run w last p r a) (not_placed u q b) = absurd (not_unplaced d last q p b)
ran_one d _ _ (run w last p r a) (run u other o q b) = run_one _ _ r q a b

-- a placement has one reply
placed_one : (d : Document) (n : ℕ) (r q : ReplyOf) → PlaceAnswers d n r → PlaceAnswers d n q → r ≡ q
placed_one d n _ _ (unplaced r a) (unplaced q b) = unplaced_one d r q a b
placed_one d n _ _ (unplaced r a) (placed last p) = absurd (not_unplaced d last r p a)
placed_one d n _ _ (placed last p) (unplaced q b) = absurd (not_unplaced d last q p b)
placed_one d n _ _ (placed last p) (placed other o) = ap (λ m. reply Done (place_lines m (workers_of m d.job.allocate n))) (same_made d last other p.made o.made)

-- a check has one reply
checked_one : (d : Document) (r q : ReplyOf) → IsCheckReply d r → IsCheckReply d q → r ≡ q
checked_one d r q a b = a.is ∙ (ap (λ level. reply Done (accepted_line (length (instances d.model)) (level_count level))) (levels_agree d.model a.level b.level a.levels b.levels) ∙ sym b.is)

-- so has each command for a document whose model is accepted
accepted_one : (c : Command) (d : Document) (r q : ReplyOf) → AcceptedAnswers c d r → AcceptedAnswers c d q → r ≡ q
accepted_one Check d r q a b = checked_one d r q a b
accepted_one Print d r q a b = a ∙ sym b
accepted_one Transform d r q a b = transformed_one d r q a b
accepted_one (Run n) d r q a b = ran_one d r q a b
accepted_one (Place n) d r q a b = placed_one d n r q a b
accepted_one Exec d r q a b = absurd a

-- no check fails where all hold
none_fails : (xs : List RuleCheck) → list_all (λ c. c.holds) xs ≡ true → find (λ c. not c.holds) xs ≡ None
none_fails [] h = refl
none_fails (c ∷ xs) h = step c.holds h (none_fails xs)
  where
    step : (b : Bool) → (b && list_all (λ (k : RuleCheck). k.holds) xs) ≡ true → (list_all (λ (k : RuleCheck). k.holds) xs ≡ true → find (λ (k : RuleCheck). not k.holds) xs ≡ None)
        → cond (not b) (Some c) (find (λ (k : RuleCheck). not k.holds) xs) ≡ None
    step true g rest = rest g
    step false g rest = cc

-- a sound model breaks no rule
pub no_misfit : (m : Model) (x : Misfit) → IsSound m → first_misfit m ≡ Some x → ⊥
no_misfit m x sound h = not_both (first_misfit m) x (ap (option_map (λ (c : RuleCheck). record { place = whole c.steps; rule = c.rule })) (none_fails (checks m) sound.shapes)) h

document_one : (c : Command) (d : Document) (r q : ReplyOf) → DocumentAnswers c d r → DocumentAnswers c d q → r ≡ q
document_one c d _ _ (misfit place rule h) (misfit other number g) = ap (λ (x : Misfit). refusal Shape (place_text x.place ∷ codes "rule" ∷ decimal x.rule ∷ [])) (one_found _ _ _ h g)
document_one c d _ _ (misfit place rule h) (refused sound q a) = absurd (no_misfit _ _ sound h)
document_one c d _ _ (misfit place rule h) (accepted sound is q a) = absurd (no_misfit _ _ sound h)
document_one c d _ _ (refused sound r a) (misfit place rule g) = absurd (no_misfit _ _ sound g)
document_one c d _ _ (refused sound r a) (refused so q b) = one_refusal d.model sound r q a b
document_one c d _ _ (refused sound r a) (accepted so is q b) = absurd (accepted_not_refused d.model sound is r a)
document_one c d _ _ (accepted sound is r a) (misfit place rule g) = absurd (no_misfit _ _ sound g)
document_one c d _ _ (accepted sound is r a) (refused so q b) = absurd (accepted_not_refused d.model sound is q b)
document_one c d _ _ (accepted sound is r a) (accepted so too q b) = accepted_one c d r q a b

tree_one : (c : Command) (x : Result Document Fault) (r q : ReplyOf) → TreeAnswers c x r → TreeAnswers c x q → r ≡ q
tree_one c _ _ _ (wrong_form place) (wrong_form _) = refl
tree_one c _ _ _ (text_limit place passed) (text_limit _ _) = refl
tree_one c _ _ _ (document d r a) (document _ q b) = document_one c d r q a b

json_one : (bytes : List ℕ) (P : Data → ReplyOf → Type 0) → ((d : Data) (r q : ReplyOf) → P d r → P d q → r ≡ q) → (r q : ReplyOf) → JsonAnswers bytes P r → JsonAnswers bytes P q → r ≡ q
json_one bytes P one _ _ (no_json h) (no_json g) = refl
json_one bytes P one _ _ (no_json h) (tree u d is q a) = absurd (not_both _ d (h u) is)
json_one bytes P one _ _ (tree u d is r a) (no_json h) = absurd (not_both _ d (h u) is)
json_one bytes P one _ _ (tree u d is r a) (tree v e so q b) = one d r q a (subst (λ x. P x q) (one_found _ e d so is) b)

-- a tree has one answer to `exec`
exec_one : (d : Data) (r q : ReplyOf) → IsExecReply d r → IsExecReply d q → r ≡ q
exec_one d r q a b = a.told ∙ (ap exec_reply (one_answer d a.answer b.answer a.answers b.answers) ∙ sym b.told)

-- the same bytes have one reply
pub one_reply : (bytes : List ℕ) (c : Command) → IsDetermined c → (r q : ReplyOf) → Answers bytes c r → Answers bytes c q → r ≡ q
one_reply bytes c determined _ _ (by_document is r a) (by_document so q b) = json_one bytes (λ d. TreeAnswers c (document_in d)) (λ d. tree_one c (document_in d)) r q a b
one_reply bytes c determined _ _ (by_document is r a) (by_job so q b) = absurd (not_two _ is so)
one_reply bytes c determined _ _ (by_job is r a) (by_document so q b) = absurd (not_two _ so is)
one_reply bytes c determined _ _ (by_job is r a) (by_job so q b) = json_one bytes IsExecReply exec_one r q a b
