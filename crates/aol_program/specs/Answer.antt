-- What is answered for the bytes that a command is given.
use Rattle.std.specs.Prelude.{◌≡◌, ℕ, List, [], ◌∷◌, codes, decimal, Some, None, Result, Ok, Err}
use Rattle.std.specs.Str.{IsUtf8}
use Rattle.serde_json.specs.Data.{Data}
use Rattle.serde_json.specs.Read.{read as read_text}
use Rattle.aol_shape.specs.declared.limit.LimitName.{LimitName}
use Rattle.aol_model_types.specs.declared.document.Document.{Document}
use Rattle.aol_model_types.specs.Places.{PlaceOf, place_text, limit_text}
use Rattle.aol_model_types.specs.Reading.{Fault, grammar, limit, document_in}
use Rattle.aol_model_types.specs.Rules.{first_misfit}
use Rattle.aol_flat.specs.Accept.{IsSound, IsAccepted}
use Rattle.aol_lines.specs.declared.status.StatusKind.TheVariants.{Json, Grammar, Shape, Limit}
use Rattle.aol_program.specs.declared.words.Command.{Command}
use Rattle.aol_program.specs.AcceptedAnswer.{AcceptedAnswers}
use Rattle.aol_program.specs.ExecAnswer.{IsExecReply}
use Rattle.aol_program.specs.ModelAnswer.{ModelRefused}
use Rattle.aol_program.specs.Words.{subject_of}
use Rattle.aol_program.specs.Words as subjects
use Rattle.aol_lines.specs.Reply.{ReplyOf, refusal}

-- to a document: its model breaks a rule, or is refused, or is accepted and the command is answered
pub data DocumentAnswers (c : Command) (d : Document) : ReplyOf → Type 0 where
  misfit : (place : PlaceOf) (rule : ℕ) → first_misfit d.model ≡ Some (record { place = place; rule = rule }) → DocumentAnswers c d (refusal Shape (place_text place ∷ codes "rule" ∷ decimal rule ∷ []))
  refused : IsSound d.model → (r : ReplyOf) → ModelRefused d.model r → DocumentAnswers c d r
  accepted : IsSound d.model → IsAccepted d.model → (r : ReplyOf) → AcceptedAnswers c d r → DocumentAnswers c d r

-- to what a JSON tree stands for
pub data TreeAnswers (c : Command) : Result Document Fault → ReplyOf → Type 0 where
  wrong_form : (place : PlaceOf) → TreeAnswers c (Err (grammar place)) (refusal Grammar (place_text place ∷ []))
  text_limit : (place : PlaceOf) (name : LimitName) → TreeAnswers c (Err (limit place name)) (refusal Limit (place_text place ∷ limit_text name ∷ []))
  document : (d : Document) (r : ReplyOf) → DocumentAnswers c d r → TreeAnswers c (Ok d) r

-- to bytes: they are no JSON, or what holds of the reply to the tree
pub data JsonAnswers (bytes : List ℕ) (P : Data → ReplyOf → Type 0) : ReplyOf → Type 0 where
  no_json : (IsUtf8 bytes → read_text bytes ≡ None) → JsonAnswers bytes P (refusal Json [])
  tree : IsUtf8 bytes → (d : Data) → read_text bytes ≡ Some d → (r : ReplyOf) → P d r → JsonAnswers bytes P r

-- to bytes that are to be a document
abbrev pub TextAnswers : List ℕ → Command → ReplyOf → Type 0
TextAnswers bytes c = JsonAnswers bytes (λ d. TreeAnswers c (document_in d))

-- to the bytes that a command is given, by what they are to be
pub data Answers (bytes : List ℕ) (c : Command) : ReplyOf → Type 0 where
  by_document : subject_of c ≡ Some subjects.document → (r : ReplyOf) → TextAnswers bytes c r → Answers bytes c r
  by_job : subject_of c ≡ Some subjects.job → (r : ReplyOf) → JsonAnswers bytes IsExecReply r → Answers bytes c r
