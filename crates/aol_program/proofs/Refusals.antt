-- The reply to each refusal.
use Rattle.std.proofs.Common.{◌≡◌, ◌≤◌, ℕ, List, [], ◌∷◌, Result, Ok, Err, codes, decimal, sym, ap, subst, inl, inr, ◌⊎◌, arith}
use Rattle.std.specs.Prelude.{IfOk}
use Rattle.aol_shape.specs.declared.limit.LimitName.{LimitName}
use Rattle.aol_shape.specs.declared.memory.NoMemory.{NoMemory}
use Rattle.aol_model_types.specs.declared.document.Document.{Document}
use Rattle.aol_model_types.specs.declared.document.Misfit.{Misfit}
use Rattle.aol_model_types.specs.declared.document.Model.{Model}
use Rattle.aol_model_types.specs.Places.{PlaceOf, place_text, limit_text}
use Rattle.aol_model_types.specs.Reading.{document_in}
use Rattle.aol_flat.specs.InstanceNeed.{IsFirstInCycle}
use Rattle.aol_flat.specs.Laid.{Laid}
use Rattle.aol_assign.specs.declared.refused.AssignRefused.{AssignRefused}
use Rattle.aol_program.specs.declared.accepting.Refusal.{Refusal}
use Rattle.aol_program.specs.declared.accepting.Refusal.TheVariants as refusing
use Rattle.aol_lines.specs.declared.reply.Reply.{Reply}
use Rattle.aol_lines.specs.declared.status.StatusKind.TheVariants as statuses
use Rattle.aol_program.specs.declared.words.Command.{Command}
use Rattle.aol_program.specs.Accept.{Meant, Reads, document_with, IsLaidAs, IsCause}
use Rattle.aol_program.specs.Answer.{DocumentAnswers, misfit, refused, TreeAnswers, wrong_form, text_limit, document, TextAnswers, no_json, tree}
use Rattle.aol_lines.specs.Instance.{instance_text}
use Rattle.aol_program.specs.ModelAnswer.{ModelRefused, limited, written_twice, unwritten, in_cycle}
use Rattle.aol_program.specs.Ran.{IsRunCode}
use Rattle.aol_program.specs.Refusing.{IsReplyTo}
use Rattle.aol_lines.specs.Reply.{ReplyOf, refusal, reply_of}
use Rattle.aol_lines.specs.Status.{code_of}
use Rattle.aol_program.proofs.Replies.{made_of}
use Rattle.aol_program.proofs.Tested.{limit_told, cycle_within}

-- a code between those of runs
pub no_end : (n : ℕ) → 1 ≤ n → n ≤ 15 → ¬ IsRunCode n
no_end n some most (inl e) = absurd (omega (arith, some, e))
no_end n some most (inr e) = absurd (omega (arith, most, e))

-- a refused model isn't run
pub refused_no_end : (m : Model) (r : ReplyOf) → ModelRefused m r → ¬ IsRunCode (code_of r.status)
refused_no_end m _ (limited at l f) = no_end 9 (omega arith) (omega arith)
refused_no_end m _ (written_twice b t f) = no_end 10 (omega arith) (omega arith)
refused_no_end m _ (unwritten b s r f) = no_end 11 (omega arith) (omega arith)
refused_no_end m _ (in_cycle b s g j f) = no_end 12 (omega arith) (omega arith)

-- a refusal that is told by this reply
pub told_by : (e f : Refusal) (r : Result Reply NoMemory) (q : ReplyOf) → f ≡ e → IfOk r (λ x. reply_of x ≡ q) → IsReplyTo e q → IfOk r (λ x. IsReplyTo f (reply_of x))
told_by e f r q is says told = made_of (IsReplyTo f) r q says (subst (λ g. IsReplyTo g q) (sym is) told)

-- by what the bytes mean
by_meaning : (bytes : List ℕ) (c : Command) (P : Meant → Type 0) (h : Reads bytes P) (x : Meant) (r : ReplyOf) → document_in h.tree ≡ x → TreeAnswers c x r → TextAnswers bytes c r
by_meaning bytes c P h x r is a = tree h.text h.tree h.is r (subst (λ y. TreeAnswers c y r) (sym is) a)

pub json_told : IsReplyTo refusing.Json (refusal statuses.Json [])
json_told = record { answers = λ bytes c h. no_json h; no_run = no_end 6 (omega arith) (omega arith) }

pub grammar_told : (place : PlaceOf) → IsReplyTo (refusing.Grammar place) (refusal statuses.Grammar (place_text place ∷ []))
grammar_told place = record { answers = λ bytes c h. by_meaning bytes c _ h _ _ h.holds (wrong_form place); no_run = no_end 7 (omega arith) (omega arith) }

pub text_limit_told : (place : PlaceOf) (name : LimitName) → IsReplyTo (refusing.TextLimit place name) (refusal statuses.Limit (place_text place ∷ limit_text name ∷ []))
text_limit_told place name = record { answers = λ bytes c h. by_meaning bytes c _ h _ _ h.holds (text_limit place name); no_run = no_end 9 (omega arith) (omega arith) }

pub shape_told : (x : Misfit) → IsReplyTo (refusing.Shape x) (refusal statuses.Shape (place_text x.place ∷ codes "rule" ∷ decimal x.rule ∷ []))
shape_told x = record {
  answers = λ bytes c h. by_meaning bytes c _ h (Ok h.holds.0) _ h.holds.1 (document h.holds.0 _ (misfit x.place x.rule h.holds.2));
  no_run = no_end 8 (omega arith) (omega arith);
}

pub tree_limit_told : (path : List ℕ) (name : LimitName) → IsReplyTo (refusing.TreeLimit path name) (refusal statuses.Limit (path ∷ limit_text name ∷ []))
tree_limit_told path name = record {
  answers = λ bytes c h. by_meaning bytes c _ h (Ok h.holds.0) _ h.holds.1 (document h.holds.0 _ (refused h.holds.2 _ (limit_told h.holds.0.model path name h.holds.3)));
  no_run = no_end 9 (omega arith) (omega arith);
}

-- a laid out model that is refused
laid_refused : (bytes : List ℕ) (c : Command) (P : Meant → Type 0) (h : Reads bytes P) (f : Laid) (r : ReplyOf) → IsLaidAs (document_in h.tree) f → ModelRefused f.model r → TextAnswers bytes c r
laid_refused bytes c P h f r laid a = by_meaning bytes c P h (Ok (document_with f laid.job)) r laid.document (document (document_with f laid.job) r (refused laid.sound r a))

pub assign_told : (f : Laid) (e : AssignRefused) (r : ReplyOf) → ModelRefused f.model r → IsReplyTo (refusing.Assign f e) r
assign_told f e r a = record { answers = λ bytes c h. laid_refused bytes c _ h f r h.holds.0 a; no_run = refused_no_end f.model r a }

pub cycle_told : (f : Laid) (j : ℕ) → IsReplyTo (refusing.Cycle f j) (refusal statuses.Cycle (instance_text f.model j ∷ []))
cycle_told f j = record {
  answers = λ bytes c h. laid_refused bytes c _ h f _ h.holds.0 (in_cycle h.holds.0.bounded h.holds.1 h.holds.2 j h.holds.3);
  no_run = no_end 12 (omega arith) (omega arith);
}
