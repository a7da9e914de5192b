-- The words of commands, and what commands are about.
use Rattle.std.proofs.Common.{◌≡◌, ℕ, ◌≤◌, List, length, Option, Some, None, refl, sym, ◌∙◌, subst, ◌⊎◌, inl, inr}
use Rattle.std.specs.Option.{IsSome}
use Rattle.aol_io.specs.Streams.{WasAll, TookAtMost}
use Rattle.aol_program.specs.declared.program.TheConstants.{MAX_BYTES}
use Rattle.aol_program.specs.declared.words.Command.{Command}
use Rattle.aol_program.specs.declared.words.Command.TheVariants.{Check, Print, Transform, Run, Place, Exec}
use Rattle.aol_program.specs.Words.{Subject, document, job, subject_of, ReadsSource, IsAsked, IsWorkers, Means}
use Rattle.aol_program.specs.Answered.{SourceEnds, IsGiven, IsWithin}

-- what a command is about is one thing
pub not_two : (x : Option Subject) → x ≡ Some document → x ≡ Some job → ⊥
not_two x is so = subst is_document (sym is ∙ so) cc
  where
    is_document : Option Subject → Type 0
    is_document None = ⊥
    is_document (Some document) = Unit {0}
    is_document (Some job) = ⊥

-- every command is about something
pub about : (c : Command) → (x : Subject) × (subject_of c ≡ Some x)
about Check = (document, refl)
about Print = (document, refl)
about Transform = (document, refl)
about (Run n) = (document, refl)
about (Place n) = (document, refl)
about Exec = (job, refl)

-- by a command that is known
pub about_known : (c k : Command) (x : Subject) → c ≡ k → subject_of k ≡ Some x → subject_of c ≡ Some x
about_known c k x is about = subst (λ (d : Command). subject_of d ≡ Some x) (sym is) about

-- the commands that are about a document
pub about_document : (c : Command) → (c ≡ Check) ⊎ ((c ≡ Print) ⊎ ((c ≡ Transform) ⊎ (((n : ℕ) × (c ≡ Run n)) ⊎ ((n : ℕ) × (c ≡ Place n))))) → subject_of c ≡ Some document
about_document c (inl is) = about_known c Check document is refl
about_document c (inr (inl is)) = about_known c Print document is refl
about_document c (inr (inr (inl is))) = about_known c Transform document is refl
about_document c (inr (inr (inr (inl is)))) = about_known c (Run is.0) document is.1 refl
about_document c (inr (inr (inr (inr is)))) = about_known c (Place is.0) document is.1 refl

-- a run and a placement are asked for so many workers
pub run_workers : (c : Command) (n : ℕ) → IsAsked c → c ≡ Run n → IsWorkers n
run_workers c n asked is = (subst (Means asked.0) is asked.1).1

pub place_workers : (c : Command) (n : ℕ) → IsAsked c → c ≡ Place n → IsWorkers n
place_workers c n asked is = (subst (Means asked.0) is asked.1).1

module _ (c : Command) where
  -- it reads the source
  pub reads : ReadsSource c
  reads = subst IsSome (sym (about c).1) refl

  -- it takes no more than the limit
  pub within : (P : Type 0) (s : SourceEnds) → TookAtMost s.before s.after MAX_BYTES → IsWithin (subject_of c) P s
  within P s few = subst (λ o. IsWithin o P s) (sym (about c).1) few

  -- it is given all of it
  pub given-all : (P : Type 0) (s : SourceEnds) (bytes : List ℕ) → length bytes ≤ MAX_BYTES → WasAll s.before s.after bytes → IsGiven (subject_of c) P s bytes
  given-all P s bytes few all = subst (λ o. IsGiven o P s bytes) (sym (about c).1) (few, all)
