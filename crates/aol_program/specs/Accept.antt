-- Bytes that are a document whose model is accepted, and why bytes are none.
use Rattle.std.specs.Prelude.{◌≡◌, ◌≢◌, ℕ, List, Some, None, Result, Ok, Err}
use Rattle.std.specs.Str.{IsUtf8}
use Rattle.serde_json.specs.Data.{Data}
use Rattle.serde_json.specs.Read.{read as read_text}
use Rattle.aol_model_types.specs.declared.document.Document.{Document}
use Rattle.aol_model_types.specs.declared.job.Job.{Job}
use Rattle.aol_model_types.specs.Reading.{Fault, grammar, limit, document_in}
use Rattle.aol_model_types.specs.Rules.{first_misfit}
use Rattle.aol_flat.specs.Accept.{IsSound, IsAccepted}
use Rattle.aol_flat.specs.InstanceNeed.{AreLevelsOf, IsFirstInCycle}
use Rattle.aol_flat.specs.Laid.{Laid}
use Rattle.aol_flat.specs.Level.{AreWriters}
use Rattle.aol_flat.specs.Limits.{IsBounded}
use Rattle.aol_flat.specs.Reads.{AllGiven}
use Rattle.aol_flat.specs.Tables.{IsFirstLimit}
use Rattle.aol_flat.specs.Targets.{IsSingleAssignment}
use Rattle.aol_assign.specs.Answers.{IsRightlyTold}
use Rattle.aol_assign.specs.declared.refused.AssignRefused.TheVariants as assigning
use Rattle.aol_program.specs.declared.accepting.Accepted.{Accepted}
use Rattle.aol_program.specs.declared.accepting.Refusal.{Refusal}
use Rattle.aol_program.specs.declared.accepting.Refusal.TheVariants.{Json, Grammar, TextLimit, Shape, TreeLimit, Assign, Cycle, NoMemory}
use Rattle.aol_program.specs.SoundDocument.{IsSoundDocument}

-- what a tree stands for: a document, or the first place at which it is none
abbrev pub Meant : Type 0
Meant = Result Document Fault

-- the bytes are JSON, and this holds of what it stands for
pub record Reads (bytes : List ℕ) (P : Meant → Type 0) : Type 0 where
  pub text : IsUtf8 bytes
  pub tree : Data
  pub is : read_text bytes ≡ Some tree
  pub holds : P (document_in tree)

-- the bytes are this document
abbrev pub IsDocumentIn : List ℕ → Document → Type 0
IsDocumentIn bytes d = Reads bytes (λ x. x ≡ Ok d)

-- ---- accepted

-- the document of a model that is laid out
abbrev pub document_with : Laid → Job → Document
document_with f job = record { model = f.model; job = job }

-- what is handed back has a document that keeps the rules, whose model is accepted, with the writer of each cell and the level of each instance
pub record AreAccepted (a : Accepted) : Type 0 where
  pub kept : IsSoundDocument a.flat.model a.job
  pub accepted : IsAccepted a.flat.model
  pub writers : AreWriters a.flat a.writers
  pub levels : AreLevelsOf a.flat.model a.levels

-- what a tree stands for is this document
pub record IsAcceptedAs (x : Meant) (a : Accepted) : Type 0 where
  pub document : x ≡ Ok (document_with a.flat a.job)
  pub whole : AreAccepted a

-- ---- refused

-- what a tree stands for is a document that keeps the rules, whose model is laid out so
pub record IsLaidAs (x : Meant) (f : Laid) : Type 0 where
  pub job : Job
  pub document : x ≡ Ok (document_with f job)
  pub sound : IsSound f.model
  pub bounded : IsBounded f.model

-- why what a tree stands for is no document whose model is accepted; the laid out model is the one whose instances are told
abbrev pub IsCauseIn : Meant → Refusal → Type 0
IsCauseIn x Json = ⊥
IsCauseIn x (Grammar place) = x ≡ Err (grammar place)
IsCauseIn x (TextLimit place name) = x ≡ Err (limit place name)
IsCauseIn x (Shape misfit) = (d : Document) × (x ≡ Ok d) × (first_misfit d.model ≡ Some misfit)
IsCauseIn x (TreeLimit path name) = (d : Document) × (x ≡ Ok d) × IsSound d.model × IsFirstLimit d.model path name
IsCauseIn x (Assign f e) = IsLaidAs x f × IsRightlyTold f.model e × (e ≢ assigning.NoMemory)
IsCauseIn x (Cycle f j) = IsLaidAs x f × IsSingleAssignment f.model × AllGiven f.model × IsFirstInCycle f.model j
IsCauseIn x NoMemory = Unit {0}

-- why bytes are none; want of memory has no cause in them
abbrev pub IsCause : List ℕ → Refusal → Type 0
IsCause bytes Json = IsUtf8 bytes → read_text bytes ≡ None
IsCause bytes NoMemory = Unit {0}
IsCause bytes e = Reads bytes (λ x. IsCauseIn x e)

-- ---- each bytes are the one or the other

-- bytes that are accepted have no cause to be refused
abbrev pub AcceptedHaveNoCause : Type 0
AcceptedHaveNoCause = (bytes : List ℕ) (a : Accepted) (e : Refusal) → Reads bytes (λ x. IsAcceptedAs x a) → IsCause bytes e → e ≡ NoMemory
