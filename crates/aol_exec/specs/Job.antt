-- What `exec` is asked by a JSON tree, or the first place in the walk at which the tree asks for nothing.
use Rattle.std.specs.Prelude.{◌≡◌, ℕ, ℤ, List, [], ◌∷◌, codes, Option, Some, None, Result, Ok, Err, if◌then◌else◌}
use Rattle.serde_json.specs.Data.{Data}
use Rattle.aol_shape.specs.Lists.{same}
use Rattle.aol_model_types.specs.declared.place.Key.{Key}
use Rattle.aol_model_types.specs.declared.place.Key.TheVariants.{KProgram, KMemory, KOrder}
use Rattle.aol_model_types.specs.Places.{PlaceOf, to_key, whole}
use Rattle.aol_model_types.specs.Reading.{At, Fault, grammar, ◌>>=◌, ◌>>◌, found, object_at, member_at, text_at, integer_at, list_of}
use Rattle.aol_csyn.specs.Tree.{Program}
use Rattle.aol_cread.specs.Wrong.{IsTextOf, IsFirstWrongLine}
use Rattle.aol_cexec.specs.declared.order.Order.{Order}
use Rattle.aol_cexec.specs.declared.order.Order.TheVariants.{Up, Down}

-- a program, the numbers that V opens with, and the order of the workers
pub record Job : Type 0 where
  pub program : Program
  pub memory : List ℤ
  pub order : Order

-- ---- the walk

-- the keys of the object, in the order of the walk
abbrev pub job_keys : List Key
job_keys = KProgram ∷ KMemory ∷ KOrder ∷ []

-- the text that is to be a program's
abbrev pub text_in : Data → Result (List ℕ) Fault
text_in d = do
  object_at job_keys [] [] d
  member_at [] d KProgram text_at

-- the numbers
abbrev pub memory_in : Data → Result (List ℤ) Fault
memory_in d = member_at [] d KMemory (list_of integer_at)

-- the order with this name
abbrev pub order_named : List ℕ → Option Order
order_named name = if same name (codes "up") then Some Up else (if same name (codes "down") then Some Down else None)

-- the name of an order
abbrev pub order_at : At → Data → Result Order Fault
order_at at d = do
  name ← text_at at d
  found at (order_named name)

-- what is walked after the program
abbrev pub rest_in : Data → Result (List ℤ × Order) Fault
rest_in d = do
  memory ← memory_in d
  order ← member_at [] d KOrder order_at
  Ok (memory, order)

-- ---- what it is asked

-- the tree has the text of this program
pub record HasProgram (d : Data) (p : Program) : Type 0 where
  pub text : List ℕ
  pub is_text : text_in d ≡ Ok text
  pub of_program : IsTextOf p text

-- the tree asks for this job
pub record Asks (d : Data) (j : Job) : Type 0 where
  pub program : HasProgram d j.program
  pub rest : rest_in d ≡ Ok (j.memory, j.order)

-- the place of the program, and of a line of its text
abbrev pub program_place : PlaceOf
program_place = whole (to_key [] KProgram)

abbrev pub line_place : ℕ → PlaceOf
line_place line = record { steps = to_key [] KProgram; byte = Some line }

-- the first place of the wrong form: in front of the program's text; a line of it; or after it
pub data IsWrongAt (d : Data) : PlaceOf → Type 0 where
  no_text : (place : PlaceOf) → text_in d ≡ Err (grammar place) → IsWrongAt d place
  no_program : (text : List ℕ) (line : ℕ) → text_in d ≡ Ok text → IsFirstWrongLine text line → IsWrongAt d (line_place line)
  no_rest : (p : Program) → HasProgram d p → (place : PlaceOf) → rest_in d ≡ Err (grammar place) → IsWrongAt d place
