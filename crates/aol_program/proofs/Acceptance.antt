-- Bytes that are accepted have no cause to be refused.
use Rattle.std.proofs.Common.{◌≡◌, ◌≢◌, ℕ, List, Some, None, Result, Ok, Err, sym, ◌∙◌, ap, subst, refl}
use Rattle.std.specs.Prelude.{IfOk, IfErr}
use Rattle.std.specs.Str.{IsUtf8}
use Rattle.serde_json.specs.Data.{Data}
use Rattle.serde_json.specs.Read.{read as read_text}
use Rattle.aol_shape.specs.declared.limit.LimitName.{LimitName}
use Rattle.aol_model_types.specs.declared.document.Document.{Document}
use Rattle.aol_model_types.specs.declared.document.Model.{Model}
use Rattle.aol_model_types.specs.declared.document.Misfit.{Misfit}
use Rattle.aol_model_types.specs.declared.job.Job.{Job}
use Rattle.aol_model_types.specs.Places.{PlaceOf}
use Rattle.aol_model_types.specs.Reading.{Fault, document_in}
use Rattle.aol_model_types.specs.Rules.{first_misfit}
use Rattle.aol_flat.specs.Accept.{IsSound, IsAccepted}
use Rattle.aol_flat.specs.InstanceNeed.{IsFirstInCycle}
use Rattle.aol_flat.specs.Laid.{Laid}
use Rattle.aol_flat.specs.Reads.{AllGiven}
use Rattle.aol_flat.specs.Tables.{IsFirstLimit}
use Rattle.aol_flat.specs.Targets.{IsSingleAssignment}
use Rattle.aol_assign.specs.Answers.{IsRightlyTold}
use Rattle.aol_assign.specs.declared.refused.AssignRefused.{AssignRefused}
use Rattle.aol_assign.specs.declared.refused.AssignRefused.TheVariants as assigning
use Rattle.aol_program.specs.declared.accepting.Accepted.{Accepted}
use Rattle.aol_program.specs.declared.accepting.Refusal.{Refusal}
use Rattle.aol_program.specs.declared.accepting.Refusal.TheVariants as refusing
use Rattle.aol_program.specs.Accept.{Meant, Reads, document_with, AreAccepted, IsAcceptedAs, IsLaidAs, IsCauseIn, IsCause, AcceptedHaveNoCause}
use Rattle.aol_program.specs.ModelAnswer.{in_cycle}
use Rattle.aol_program.proofs.OneFound.{one_found, not_both}
use Rattle.aol_program.proofs.OneRefusal.{accepted_not_refused}
use Rattle.aol_program.proofs.OneReply.{no_misfit}
use Rattle.aol_program.proofs.Tested.{limit_told, twice_told, unwritten_told}

-- ---- from a tree to the bytes

pub accepted_read : (bytes : List ℕ) (t : Data) (r : Result Accepted Refusal) → IsUtf8 bytes → read_text bytes ≡ Some t → IfOk r (IsAcceptedAs (document_in t)) → IfOk r (λ a. Reads bytes (λ x. IsAcceptedAs x a))
accepted_read bytes t (Ok a) text is h = record { text = text; tree = t; is = is; holds = h }
accepted_read bytes t (Err e) text is h = h

pub cause_read : (bytes : List ℕ) (t : Data) (r : Result Accepted Refusal) → IsUtf8 bytes → read_text bytes ≡ Some t → IfErr r (IsCauseIn (document_in t)) → IfErr r (IsCause bytes)
cause_read bytes t (Ok a) text is h = h
cause_read bytes t (Err e) text is h = by_cause e h
  where
    by_cause : (e : Refusal) → IsCauseIn (document_in t) e → IsCause bytes e
    by_cause refusing.Json g = absurd g
    by_cause (refusing.Grammar place) g = record { text = text; tree = t; is = is; holds = g }
    by_cause (refusing.TextLimit place l) g = record { text = text; tree = t; is = is; holds = g }
    by_cause (refusing.Shape misfit) g = record { text = text; tree = t; is = is; holds = g }
    by_cause (refusing.TreeLimit path l) g = record { text = text; tree = t; is = is; holds = g }
    by_cause (refusing.Assign f refused) g = record { text = text; tree = t; is = is; holds = g }
    by_cause (refusing.Cycle f j) g = record { text = text; tree = t; is = is; holds = g }
    by_cause refusing.NoMemory g = tt

-- ---- no cause where they are accepted

-- bytes mean one thing
one_meant : (bytes : List ℕ) (P Q : Meant → Type 0) (p : Reads bytes P) (q : Reads bytes Q) → document_in p.tree ≡ document_in q.tree
one_meant bytes P Q p q = ap document_in (one_found (read_text bytes) p.tree q.tree p.is q.is)

same_document : (x : Meant) (d e : Document) → x ≡ Ok d → x ≡ Ok e → d ≡ e
same_document x d e h g = cc

no_fault : (x : Meant) (d : Document) (e : Fault) → x ≡ Ok d → x ≡ Err e → ⊥
no_fault x d e h g = cc

-- what an assignment tells refuses the model
pub assign_refuses : (m : Model) (e : AssignRefused) → IsAccepted m → IsSound m → IsRightlyTold m e → e ≢ assigning.NoMemory → ⊥
assign_refuses m (assigning.Twice path part port point first second) a sound told some = accepted_not_refused m sound a _ (twice_told m path part port point first second a.limits told)
assign_refuses m (assigning.Unwritten reader port point) a sound told some = accepted_not_refused m sound a _ (unwritten_told m reader port point a.limits told.0 told.1)
assign_refuses m assigning.NoMemory a sound told some = some refl

-- so does a cycle
cycle_refuses : (m : Model) (j : ℕ) → IsAccepted m → IsSound m → IsSingleAssignment m × AllGiven m × IsFirstInCycle m j → ⊥
cycle_refuses m j a sound told = accepted_not_refused m sound a _ (in_cycle a.limits told.0 told.1 j told.2)

-- and a limit that is passed
limit_refuses : (m : Model) (path : List ℕ) (name : LimitName) → IsAccepted m → IsSound m → IsFirstLimit m path name → ⊥
limit_refuses m path name a sound is = accepted_not_refused m sound a _ (limit_told m path name is)

module _ (bytes : List ℕ) (a : Accepted) (h : Reads bytes (λ x. IsAcceptedAs x a)) where
  abbrev model : Model
  model = a.flat.model

  sound : IsSound model
  sound = h.holds.whole.kept.sound

  -- what the bytes mean is the document
  meant : (P : Meant → Type 0) (c : Reads bytes P) → document_in c.tree ≡ Ok (document_with a.flat a.job)
  meant P c = sym (one_meant bytes (λ x. IsAcceptedAs x a) P h c) ∙ h.holds.document

  same_model : (P : Meant → Type 0) (c : Reads bytes P) (f : Laid) → IsLaidAs (document_in c.tree) f → f.model ≡ model
  same_model P c f laid = ap (λ (d : Document). d.model) (same_document (document_in c.tree) (document_with f laid.job) (document_with a.flat a.job) laid.document (meant P c))

  no_cause_here : (e : Refusal) → IsCause bytes e → e ≡ refusing.NoMemory
  no_cause_here refusing.Json c = absurd (not_both (read_text bytes) h.tree (c h.text) h.is)
  no_cause_here (refusing.Grammar place) c = absurd (no_fault (document_in c.tree) (document_with a.flat a.job) _ (meant _ c) c.holds)
  no_cause_here (refusing.TextLimit place l) c = absurd (no_fault (document_in c.tree) (document_with a.flat a.job) _ (meant _ c) c.holds)
  no_cause_here (refusing.Shape misfit) c =
      let same : c.holds.0 ≡ document_with a.flat a.job = same_document (document_in c.tree) c.holds.0 (document_with a.flat a.job) c.holds.1 (meant _ c) in
      absurd (no_misfit model misfit sound (subst (λ (d : Document). first_misfit d.model ≡ Some misfit) same c.holds.2))
  no_cause_here (refusing.TreeLimit path l) c =
      let same : c.holds.0 ≡ document_with a.flat a.job = same_document (document_in c.tree) c.holds.0 (document_with a.flat a.job) c.holds.1 (meant _ c) in
      absurd (limit_refuses model path l h.holds.whole.accepted sound (subst (λ (d : Document). IsFirstLimit d.model path l) same c.holds.3))
  no_cause_here (refusing.Assign f e) c =
      let same : f.model ≡ model = same_model _ c f c.holds.0 in
      absurd (assign_refuses model e h.holds.whole.accepted sound (subst (λ m. IsRightlyTold m e) same c.holds.1) c.holds.2)
  no_cause_here (refusing.Cycle f j) c =
      let same : f.model ≡ model = same_model _ c f c.holds.0 in
      absurd (cycle_refuses model j h.holds.whole.accepted sound (subst (λ m. IsSingleAssignment m × AllGiven m × IsFirstInCycle m j) same (c.holds.1, c.holds.2, c.holds.3)))
  no_cause_here refusing.NoMemory c = refl

pub no_cause : AcceptedHaveNoCause
no_cause bytes a e h c = no_cause_here bytes a h e c
