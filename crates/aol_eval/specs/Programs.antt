-- What a program computes: operations one after another, whose operands are what earlier operations gave, numbers of the patterns, and numbers.
use Rattle.std.specs.Prelude.{◌≡◌, ℕ, ◌+◌, ◌<◌, ◌≤◌, ℤ, pos, negsuc, ◌+ℤ◌, ◌*ℤ◌, nat_abs, nat_lt, List, [], ◌∷◌, ◌++◌, take, length, Some, Result, Ok, Err, slice_index, slice_get, if◌then◌else◌}
use Rattle.aol_expr_tree.specs.declared.value.Kind.{Kind}
use Rattle.aol_expr_tree.specs.declared.value.Kind.TheVariants.{Index}
use Rattle.aol_expr_tree.specs.Meaning.{◌>>=◌, applied, is_zero, nth_number}
use Rattle.aol_expr_tree.specs.declared.op.ExprOp.TheVariants.{Add as Plus, Sub as Less, Mul as Times}
use Rattle.aol_eval.specs.declared.program.Operand.{Operand}
use Rattle.aol_eval.specs.declared.program.Operand.TheVariants.{Given, Place, Number}
use Rattle.aol_eval.specs.declared.program.Operation.{Operation}
use Rattle.aol_eval.specs.declared.program.Operation.TheVariants.{Entry, Add, Subtract, Multiply, Apply, Choose, Rank, Element}
use Rattle.aol_eval.specs.declared.program.Program.{Program}
use Rattle.aol_eval.specs.Resolved.{Plan, run}

-- the number of an operand, where earlier operations gave these numbers
abbrev pub operand_value : List ℤ → List ℤ → Operand → ℤ
operand_value nums given (Given k) = nth_number given k
operand_value nums given (Place k) = nth_number nums k
operand_value nums given (Number z) = z

-- a rank with one more index, below the entry
abbrev pub next_rank : ℕ → ℤ → ℤ → Result ℤ Kind
next_rank entry rank (pos i) = if nat_lt i entry then Ok (rank *ℤ pos entry +ℤ pos i) else Err Index
next_rank entry rank (negsuc i) = Err Index

-- the number with that rank behind the first so many
abbrev pub element_after : ℕ → List ℤ → ℕ → ℤ → ℤ → Result ℤ Kind
element_after start nums entry rank index = next_rank entry rank index >>= (λ z. Ok (nth_number nums (start + nat_abs z)))

-- what an operation gives
abbrev pub operation_value : List ℤ → List ℕ → List ℤ → Operation → Result ℤ Kind
operation_value nums at given (Entry k) = Ok (pos (slice_index at k))
operation_value nums at given (Add l r) = applied Plus (operand_value nums given l) (operand_value nums given r)
operation_value nums at given (Subtract l r) = applied Less (operand_value nums given l) (operand_value nums given r)
operation_value nums at given (Multiply l r) = applied Times (operand_value nums given l) (operand_value nums given r)
operation_value nums at given (Apply op l r) = applied op (operand_value nums given l) (operand_value nums given r)
operation_value nums at given (Choose c a b) = Ok (if is_zero (operand_value nums given c) then operand_value nums given b else operand_value nums given a)
operation_value nums at given (Rank rank entry index) = next_rank entry (operand_value nums given rank) (operand_value nums given index)
operation_value nums at given (Element start rank entry index) = element_after start nums entry (operand_value nums given rank) (operand_value nums given index)

-- each of the first operations gives the number with its rank, from the numbers before it
abbrev pub FollowsUpTo : ℕ → List Operation → List ℤ → List ℕ → List ℤ → Type 0
FollowsUpTo count operations nums at given =
    (k : ℕ) (o : Operation) → k < count → slice_get operations k ≡ Some o → operation_value nums at (take k given) o ≡ Ok (nth_number given k)

-- each of them does
abbrev pub Follows : List Operation → List ℤ → List ℕ → List ℤ → Type 0
Follows operations nums at given =
    (k : ℕ) (o : Operation) → slice_get operations k ≡ Some o → operation_value nums at (take k given) o ≡ Ok (nth_number given k)

-- the operations give some numbers without a fault, and with these the value is the number
abbrev pub Yields : Program → List ℤ → List ℕ → ℤ → Type 0
Yields program nums at z = (given : List ℤ) × (Follows program.operations nums at given × (operand_value nums given program.value ≡ z))

-- the operand is not what a later operation gives
abbrev pub IsKnown : ℕ → Operand → Type 0
IsKnown count (Given k) = k < count
IsKnown count (Place k) = Unit {0}
IsKnown count (Number z) = Unit {0}

-- some operations with more after them, and the operand that has what is computed wherever none of them is a fault
pub record Makes (old new : List Operation) (computed : List ℤ → List ℕ → List ℤ → Result ℤ Kind) (operand : Operand) : Type 0 where
  pub longer : length old ≤ length new
  pub kept : (k : ℕ) (o : Operation) → slice_get old k ≡ Some o → slice_get new k ≡ Some o
  pub known : IsKnown (length new) operand
  pub value : (nums : List ℤ) (at : List ℕ) (given : List ℤ) → Follows new nums at given → computed nums at given ≡ Ok (operand_value nums given operand)

-- one operation more, and what it gives
abbrev pub Pushes : List Operation → List Operation → Operation → Operand → Type 0
Pushes old new operation operand = (new ≡ old ++ operation ∷ []) × (operand ≡ Given (length old))

-- what the program yields is what the plan computes
abbrev pub Computes : Plan → Program → Type 0
Computes plan program = (nums : List ℤ) (at : List ℕ) (z : ℤ) → Yields program nums at z → run nums at [] plan ≡ Ok z
