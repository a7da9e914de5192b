-- What a run leaves, and what is handed back.
use Rattle.std.proofs.Common.{◌≡◌, ◌<◌, ◌⊎◌, ℕ, List, length, Option, Some, None, Result, Ok, Err, inl, inr, sym, ◌∙◌, ap, subst, refl, arith}
use Rattle.std.specs.Prelude.{IfOk}
use Rattle.std.proofs.lemmas.Bool.{cases_order}
use Rattle.aol_shape.specs.declared.memory.NoMemory.{NoMemory}
use Rattle.aol_model_types.specs.declared.document.Document.{Document}
use Rattle.aol_model_types.specs.declared.document.Model.{Model}
use Rattle.aol_model_types.specs.declared.job.Step.{Step}
use Rattle.aol_model_types.specs.Reading.{document_in}
use Rattle.aol_flat.specs.Laid.{Laid}
use Rattle.aol_flat.specs.Tasks.{main_inputs}
use Rattle.aol_allocate.specs.Placement.{workers_of}
use Rattle.aol_runner.specs.Run.{IsRunField}
use Rattle.aol_transform.specs.Steps.{StepsTo}
use Rattle.aol_program.specs.declared.accepting.Accepted.{Accepted}
use Rattle.aol_program.specs.declared.reply.Answer.{Answer}
use Rattle.aol_lines.specs.declared.reply.Reply.{Reply}
use Rattle.aol_program.specs.declared.status.Ran.{Ran}
use Rattle.aol_lines.specs.declared.status.StatusKind.TheVariants.{Sink}
use Rattle.aol_program.specs.declared.words.Command.{Command}
use Rattle.aol_program.specs.declared.words.Command.TheVariants.{Check, Print, Transform, Run, Place, Exec}
use Rattle.aol_program.specs.Accept.{Meant, Reads, IsDocumentIn, document_with, AreAccepted, IsAcceptedAs}
use Rattle.aol_program.specs.AcceptedAnswer.{AcceptedAnswers, IsMade, IsNotMade, IsUnplaced, by_step, by_entry, PlaceAnswers, unplaced, placed, RunAnswers, not_placed, run}
use Rattle.aol_program.specs.Answer.{TreeAnswers, document, accepted, tree, Answers, by_document}
use Rattle.aol_program.specs.Ran.{IsRan, IsRunCode, HasRan}
use Rattle.aol_lines.specs.Reply.{ReplyOf, reply_of, SinkEnds, Wrote}
use Rattle.aol_lines.specs.Status.{code_of}
use Rattle.aol_program.specs.Words.{subject_of}
use Rattle.aol_program.specs.Words as subjects
use Rattle.aol_step_lines.specs.StepsReply.{StepReply, unbuilt, no_model, written_twice, lost as lost_read, StepsReply}
use Rattle.aol_program.proofs.Refusals.{no_end}
use Rattle.aol_program.specs.declared.accepted.Finished.{Finished}
use Rattle.aol_program.specs.declared.made.Made.{Made}
use Rattle.aol_program.specs.Finished.{IsFinished}
use Rattle.aol_program.specs.Inputs.{first_wrong_input, given_arrays}
use Rattle.aol_program.specs.Made.{IsLevelled, IsEntryReply, IsPlaceReply, by_entry as by_entry_reply, lines, IsRunFor}
use Rattle.aol_program.proofs.Checked.{inputs-fit}
use Rattle.aol_program.proofs.KeptRun.{same_ins, kept_run}
use Rattle.aol_program.proofs.Replies.{none_ran}
use Rattle.aol_program.proofs.RunReplies.{run_ended}

-- the code of what isn't built is above those of runs
not_17 : ¬ IsRunCode 17
not_17 (inl e) = absurd (omega (arith, e))
not_17 (inr e) = absurd (omega (arith, e))

step_no_end : (m : Model) (number : ℕ) (s : Step) (r : ReplyOf) → StepReply m number s r → ¬ IsRunCode (code_of r.status)
step_no_end m number s _ (unbuilt h) = not_17
step_no_end m number s _ (no_model why h some) = no_end 14 (omega arith) (omega arith)
step_no_end m number s _ (written_twice next p t h) = no_end 14 (omega arith) (omega arith)
step_no_end m number s _ (lost_read next p single old_of map reading required h) = no_end 14 (omega arith) (omega arith)

-- what isn't made isn't run
pub not_made_no_end : (m : Model) (list : List Step) (r : ReplyOf) → StepsReply m list r → ¬ IsRunCode (code_of r.status)
not_made_no_end m list r h = step_no_end h.made (length h.before) h.step r h.told

pub unplaced_no_end : (d : Document) (r : ReplyOf) → IsUnplaced d r → ¬ IsRunCode (code_of r.status)
unplaced_no_end d _ (by_step r h) = not_made_no_end d.model d.job.transform r h
unplaced_no_end d _ (by_entry last is k c w) = no_end 15 (omega arith) (omega arith)

-- ---- by the model that the steps make

entry_unplaced : (d : Document) (last : Model) (r : ReplyOf) → IsMade d last → IsEntryReply last d.job.allocate r → IsUnplaced d r
entry_unplaced d last r made e = subst (IsUnplaced d) (sym e.is) (by_entry last made e.entry e.cause e.first)

-- a placement of it is one of the document
pub placed_by : (d : Document) (last : Model) (n : ℕ) → IsMade d last → (r : ReplyOf) → IsPlaceReply last d.job.allocate n r → PlaceAnswers d n r
placed_by d last n made _ (by_entry_reply r e) = unplaced r (entry_unplaced d last r made e)
placed_by d last n made _ (lines none) = placed last (record { made = made; no_cause = none })

-- a run of it is one of the document
pub finished_by : (a : Accepted) (n : ℕ) (m : Made) (r : Result (Result Finished Reply) NoMemory) → AreAccepted a → first_wrong_input a.flat.model a.job.input ≡ None → IsLevelled a.flat.model a.job.transform m
    → IfOk r (IsRunFor m.flat.model a.job n) → IfOk r (IsFinished a n)
finished_by a n m (Err e) whole right made h = h
finished_by a n m (Ok (Err r)) whole right made h =
    let d = document_with a.flat a.job in
    let told = entry_unplaced d m.flat.model (reply_of r) made.made h in
    (not_placed right (reply_of r) told, unplaced_no_end d (reply_of r) told)
finished_by a n m (Ok (Ok f)) whole right made h =
    let d = document_with a.flat a.job in
    let last = m.flat.model in
    let ins : given_arrays a.job.input (main_inputs last) ≡ given_arrays a.job.input (main_inputs a.flat.model) = ap (given_arrays a.job.input) (same_ins made.made) in (
      run right last (record { made = made.made; no_cause = h.placed.no_cause }) (reply_of f.reply)
          (kept_run a.flat.model last a.job.transform a.job.input (reply_of f.reply) whole.kept.sound whole.accepted made.made made.keeps (inputs-fit a.flat.model a.job.input right) h.prints),
      run_ended last a.job.input (reply_of f.reply) h.prints,
      record {
        laid = h.laid;
        made = subst (StepsTo a.flat.model a.job.transform) (sym h.of_model) made.made;
        on_workers = h.placed.workers;
        placed = h.placed.of_instance ∙ ap (λ x. workers_of x a.job.allocate n) (sym h.of_model);
        memory = subst (λ xs. IsRunField f.ran.flat f.ran.placed.of_instance xs f.ran.memory) ins h.memory;
      },
    )

-- a run that is refused by this reply
pub refused_run : (d : Document) (r : Reply) (q : ReplyOf) → reply_of r ≡ q → RunAnswers d q → ¬ IsRunCode (code_of q.status) → RunAnswers d (reply_of r) × ¬ IsRunCode (code_of r.status)
refused_run d r q is a n = (subst (RunAnswers d) (sym is) a, subst (λ (x : ReplyOf). ¬ IsRunCode (code_of x.status)) (sym is) n)

-- a run that came to its end hands back what ran
pub handed_back : (d : Document) (n : ℕ) (a : Answer) (r : Reply) (ran : Ran) → a.reply ≡ r → a.ran ≡ Some ran → IsRunCode (code_of r.status) → IsRan d n ran → HasRan (Run n) (λ e. e ≡ d) (code_of a.reply.status) a.ran
handed_back d n a r ran is had code h =
    subst (HasRan (Run n) (λ e. e ≡ d) (code_of a.reply.status)) (sym had) (subst (λ (x : Reply). IsRunCode (code_of x.status)) (sym is) code, d, refl, h)

-- ---- by the bytes

-- the answer for an accepted document is one to its bytes
pub accepted_bytes : (bytes : List ℕ) (c : Command) (a : Accepted) → subject_of c ≡ Some subjects.document → Reads bytes (λ x. IsAcceptedAs x a) → (r : ReplyOf) → AcceptedAnswers c (document_with a.flat a.job) r → Answers bytes c r
accepted_bytes bytes c a about h r p =
    by_document about r (tree h.text h.tree h.is r (subst (λ x. TreeAnswers c x r) (sym h.holds.document)
    (document (document_with a.flat a.job) r (accepted h.holds.whole.kept.sound h.holds.whole.accepted r p))))

-- the document is the one in the bytes
pub document_bytes : (bytes : List ℕ) (a : Accepted) → Reads bytes (λ x. IsAcceptedAs x a) → (d : Document) → d ≡ document_with a.flat a.job → IsDocumentIn bytes d
document_bytes bytes a h d is = record { text = h.text; tree = h.tree; is = h.is; holds = h.holds.document ∙ ap Ok (sym is) }

-- what ran for a document of which one thing holds
pub ran_for : (c : Command) (P Q : Document → Type 0) → ((d : Document) → P d → Q d) → (code : ℕ) (ran : Option Ran) → HasRan c P code ran → HasRan c Q code ran
ran_for Check P Q step code ran h = h
ran_for Print P Q step code ran h = h
ran_for Transform P Q step code ran h = h
ran_for (Run n) P Q step code None h = h
ran_for (Run n) P Q step code (Some ran) h = (h.0, h.1, step h.1 h.2, h.3)
ran_for (Place n) P Q step code ran h = h
ran_for Exec P Q step code ran h = h

-- what ran stays where the sink took all
pub ran_kept : (c : Command) (P : Document → Type 0) (k : SinkEnds) (r : ReplyOf) (code : ℕ) (ran after : Option Ran) → Wrote k r code
    → (¬ (code ≡ code_of Sink) → after ≡ ran) → (code ≡ code_of Sink → after ≡ None) → HasRan c P (code_of r.status) ran → HasRan c P code after
ran_kept c P k r code ran after wrote kept lost h = by_order (cases_order code 3)
  where
    none : code ≡ 3 → HasRan c P code after
    none e = subst (HasRan c P code) (sym (lost e)) (none_ran c P code (subst (λ n. ¬ IsRunCode n) (sym e) (no_end 3 (omega arith) (omega arith))))

    all : (¬ (code ≡ 3)) → HasRan c P code after
    all other = elim wrote [
      | inl w ↦ subst (λ n. HasRan c P n after) (sym w.0) (subst (HasRan c P (code_of r.status)) (sym (kept other)) h)
      | inr w ↦ absurd (other w.0)
    ]

    by_order : (code ≡ 3) ⊎ ((code < 3) ⊎ (3 < code)) → HasRan c P code after
    by_order (inl e) = none e
    by_order (inr (inl l)) = all (λ e. omega (arith, e, l))
    by_order (inr (inr l)) = all (λ e. omega (arith, e, l))
