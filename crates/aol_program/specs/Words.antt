-- The command that the words of a call name, and what it is about.
use Rattle.std.specs.Prelude.{◌≡◌, ◌≤◌, ℕ, List, [], ◌∷◌, Option, Some, IsSome, codes, decimal}
use Rattle.aol_program.specs.declared.words.Command.{Command}
use Rattle.aol_program.specs.declared.words.Command.TheVariants.{Check, Print, Transform, Run, Place, Exec}
use Rattle.aol_allocate.specs.declared.limits.TheConstants.{MAX_WORKERS}

-- a number of workers
pub record IsWorkers (n : ℕ) : Type 0 where
  pub some : 1 ≤ n
  pub bound : n ≤ MAX_WORKERS

-- the words are those of the command
abbrev pub Means : List (List ℕ) → Command → Type 0
Means words Check = words ≡ codes "check" ∷ []
Means words Print = words ≡ codes "print" ∷ []
Means words Transform = words ≡ codes "transform" ∷ []
Means words (Run n) = (words ≡ codes "run" ∷ decimal n ∷ []) × IsWorkers n
Means words (Place n) = (words ≡ codes "place" ∷ decimal n ∷ []) × IsWorkers n
Means words Exec = words ≡ codes "exec" ∷ []

-- the words are those of no command
abbrev pub IsNoCommand : List (List ℕ) → Type 0
IsNoCommand words = (c : Command) → Means words c → ⊥

-- what the bytes of the source are to be: a document, or a program with the numbers that it opens with
pub data Subject : Type 0 where
  document : Subject
  job : Subject

-- what they are to be for a command; nothing for one that doesn't read the source
abbrev pub subject_of : Command → Option Subject
subject_of Check = Some document
subject_of Print = Some document
subject_of Transform = Some document
subject_of (Run n) = Some document
subject_of (Place n) = Some document
subject_of Exec = Some job

-- it reads the source
abbrev pub ReadsSource : Command → Type 0
ReadsSource c = IsSome (subject_of c)

-- it has at most one reply for the same bytes
abbrev pub IsDetermined : Command → Type 0
IsDetermined Check = Unit {0}
IsDetermined Print = Unit {0}
IsDetermined Transform = Unit {0}
IsDetermined (Run n) = Unit {0}
IsDetermined (Place n) = Unit {0}
IsDetermined Exec = Unit {0}

-- some words are those of the command
abbrev pub IsAsked : Command → Type 0
IsAsked c = (words : List (List ℕ)) × Means words c
