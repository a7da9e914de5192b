-- What holds of a reply holds of the program's own that is it.
use Rattle.std.proofs.Common.{◌≡◌, ℕ, Option, None, Result, Ok, Err, sym, ap, refl, subst}
use Rattle.std.specs.Prelude.{IfOk}
use Rattle.aol_shape.specs.declared.memory.NoMemory.{NoMemory}
use Rattle.aol_model_types.specs.declared.document.Document.{Document}
use Rattle.aol_program.specs.declared.reply.Answer.{Answer}
use Rattle.aol_lines.specs.declared.reply.Reply.{Reply}
use Rattle.aol_program.specs.declared.status.Ran.{Ran}
use Rattle.aol_program.specs.declared.words.Command.{Command}
use Rattle.aol_program.specs.declared.words.Command.TheVariants.{Check, Print, Transform, Run, Place, Exec}
use Rattle.aol_program.specs.Finished.{IsAlone}
use Rattle.aol_program.specs.Ran.{IsRunCode, HasRan}
use Rattle.aol_lines.specs.Reply.{ReplyOf, reply_of}
use Rattle.aol_lines.specs.Status.{code_of}

-- by an equation with the reply
pub made_of : (P : ReplyOf → Type 0) (r : Result Reply NoMemory) (q : ReplyOf) → IfOk r (λ x. reply_of x ≡ q) → P q → IfOk r (λ x. P (reply_of x))
made_of P (Ok x) q e p = subst P (sym e) p
made_of P (Err x) q e p = e

-- what follows for every reply
pub carried : (P Q : ReplyOf → Type 0) (r : Result Reply NoMemory) → ((x : ReplyOf) → P x → Q x) → IfOk r (λ x. P (reply_of x)) → IfOk r (λ x. Q (reply_of x))
carried P Q (Ok x) step p = step (reply_of x) p
carried P Q (Err x) step p = p

-- ---- answers

-- what follows for every answer
pub carried_answer : (P Q : Answer → Type 0) (r : Result Answer NoMemory) → ((x : Answer) → P x → Q x) → IfOk r P → IfOk r Q
carried_answer P Q (Ok x) step p = step x p
carried_answer P Q (Err x) step p = p

-- the answer of a command that runs nothing
pub alone_reply : (P : ReplyOf → Type 0) (r : Result Reply NoMemory) (a : Result Answer NoMemory) → IsAlone r a → IfOk r (λ x. P (reply_of x)) → IfOk a (λ x. P (reply_of x.reply))
alone_reply P (Ok r) (Ok a) h p = subst (λ (x : Reply). P (reply_of x)) h.0 p
alone_reply P (Ok r) (Err e) h p = absurd h
alone_reply P (Err e) (Ok a) h p = absurd h
alone_reply P (Err e) (Err f) h p = p

-- nothing ran
pub alone_ran : (P : ReplyOf → Type 0) (Q : ℕ → Option Ran → Type 0) (r : Result Reply NoMemory) (a : Result Answer NoMemory) → IsAlone r a → IfOk r (λ x. P (reply_of x))
    → ((x : ReplyOf) → P x → Q (code_of x.status) None) → IfOk a (λ x. Q (code_of x.reply.status) x.ran)
alone_ran P Q (Ok r) (Ok a) h p step = subst (Q (code_of a.reply.status)) (sym h.1) (subst (λ (x : Reply). Q (code_of x.status) None) h.0 (step (reply_of r) p))
alone_ran P Q (Ok r) (Err e) h p step = absurd h
alone_ran P Q (Err e) (Ok a) h p step = absurd h
alone_ran P Q (Err e) (Err f) h p step = p

-- a code that isn't that of a run's end has nothing that ran
pub none_ran : (c : Command) (P : Document → Type 0) (code : ℕ) → ¬ IsRunCode code → HasRan c P code None
none_ran Check P code h = refl
none_ran Print P code h = refl
none_ran Transform P code h = refl
none_ran (Run n) P code h = h
none_ran (Place n) P code h = refl
none_ran Exec P code h = refl

-- a known command after which nothing ran
pub none_known : (c k : Command) (P : Document → Type 0) → c ≡ k → ((code : ℕ) → HasRan k P code None) → (code : ℕ) → HasRan c P code None
none_known c k P is none code = subst (λ (d : Command). HasRan d P code None) (sym is) (none code)

-- so has a command that runs nothing
pub alone_none : (c : Command) (P : Document → Type 0) (r : Result Reply NoMemory) (a : Result Answer NoMemory) → IsAlone r a → ((code : ℕ) → HasRan c P code None) → IfOk a (λ x. HasRan c P (code_of x.reply.status) x.ran)
alone_none c P (Ok r) (Ok a) h none = subst (HasRan c P (code_of a.reply.status)) (sym h.1) (none (code_of a.reply.status))
alone_none c P (Ok r) (Err e) h none = absurd h
alone_none c P (Err e) (Ok a) h none = absurd h
alone_none c P (Err e) (Err f) h none = h

-- ---- by the command

-- what is answered to a command that is this one
pub by_command : (c k : Command) (P : Command → Answer → Type 0) (a : Result Answer NoMemory) → c ≡ k → IfOk a (P k) → IfOk a (P c)
by_command c k P a is h = subst (λ x. IfOk a (P x)) (sym is) h
