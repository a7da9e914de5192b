-- The value of an expression, or its first fault.
use Rattle.std.specs.Prelude.{ℕ, zero, suc, ◌^◌, ℤ, pos, negsuc, ◌+ℤ◌, ◌-ℤ◌, ◌*ℤ◌, nat_abs, int_lt, int_le, int_div, int_rem, List, [], ◌∷◌, map, drop, Bool, true, false, ◌==◌, nat_lt, Result, Ok, Err, slice_index, if◌then◌else◌}
use Rattle.aol_shape.specs.Lists.{same}
use Rattle.aol_shape.specs.Shape.{size, rank}
use Rattle.aol_shape.specs.Vectors.{is_inside}
use Rattle.aol_expr_tree.specs.declared.op.ExprOp.{ExprOp}
use Rattle.aol_expr_tree.specs.declared.op.ExprOp.TheVariants.{Add, Sub, Mul, Div, Rem, Lt, Le, Eq, Min, Max}
use Rattle.aol_expr_tree.specs.declared.value.Kind.{Kind}
use Rattle.aol_expr_tree.specs.declared.value.Kind.TheVariants.{Overflow, Divide, Index}
use Rattle.aol_expr_tree.specs.declared.value.Width.{Width}
use Rattle.aol_expr_tree.specs.declared.value.Width.TheVariants.{Int16, Int32, Int64}
use Rattle.aol_expr_tree.specs.declared.port.Port.{Port}
use Rattle.aol_expr_tree.specs.Tree.{Tree, num, index, var, read, bin, if_else, sum, Trees, no_trees, tree_and}
use Rattle.aol_shape.specs.Numbers.{fits_64}

-- the magnitude is below this, or is this and the number is negative
abbrev pub is_within : ℕ → ℤ → Bool
is_within bound (pos n) = nat_lt n bound
is_within bound (negsuc n) = nat_lt n bound

-- the width holds the number
abbrev pub holds : Width → ℤ → Bool
holds Int16 z = is_within (2 ^ 15) z
holds Int32 z = is_within (2 ^ 31) z
holds Int64 z = true

-- a number, or a fault, and then what follows it
infixl 10 ◌>>=◌
abbrev pub ◌>>=◌ : {A B : Type 0} → Result A Kind → (A → Result B Kind) → Result B Kind
(Ok x) >>= f = f x
(Err e) >>= f = Err e

-- a result in 64 bits
abbrev pub checked : ℤ → Result ℤ Kind
checked z = if fits_64 z then Ok z else Err Overflow

-- 1 where it holds
abbrev pub truth : Bool → Result ℤ Kind
truth true = Ok (pos 1)
truth false = Ok (pos 0)

-- the number is 0
abbrev pub is_zero : ℤ → Bool
is_zero (pos n) = n == 0
is_zero (negsuc n) = false

-- an operator at two numbers: truncating division, a remainder with the dividend's sign, comparisons as 1 or 0
abbrev pub applied : ExprOp → ℤ → ℤ → Result ℤ Kind
applied Add a b = checked (a +ℤ b)
applied Sub a b = checked (a -ℤ b)
applied Mul a b = checked (a *ℤ b)
applied Div a b = if is_zero b then Err Divide else checked (int_div a b)
applied Rem a b = if is_zero b then Err Divide else (if fits_64 (int_div a b) then Ok (int_rem a b) else Err Overflow)
applied Lt a b = truth (int_lt a b)
applied Le a b = truth (int_le a b)
applied Eq a b = truth (is_zero (a -ℤ b))
applied Min a b = Ok (if int_le a b then a else b)
applied Max a b = Ok (if int_le a b then b else a)

-- what an expression is evaluated with: the input ports, their patterns one after another, and the output point
pub record Given : Type 0 where
  pub ins : List Port
  pub nums : List ℤ
  pub at : List ℕ

-- the number with this rank in a list
abbrev pub nth_number : List ℤ → ℕ → ℤ
nth_number [] k = pos 0
nth_number (z ∷ zs) zero = z
nth_number (z ∷ zs) (suc k) = nth_number zs k

-- the number of the named port at the indices
abbrev pub element : List Port → List ℤ → List ℕ → List ℤ → Result ℤ Kind
element [] nums name at = Err Index
element (p ∷ ps) nums name at = if same p.name name
    then (if is_inside p.shape at then Ok (nth_number nums (rank p.shape (map nat_abs at))) else Err Index)
    else element ps (drop (size p.shape) nums) name at

-- the innermost variable of this name
abbrev pub variable : List (List ℕ × ℤ) → List ℕ → ℤ
variable [] x = pos 0
variable (v ∷ vs) x = if same v.0 x then v.1 else variable vs x

-- a sum that starts from 0 and adds a term for each number below n, in order
abbrev pub summed : (ℤ → Result ℤ Kind) → ℕ → Result ℤ Kind
summed term zero = Ok (pos 0)
summed term (suc n) = summed term n >>= (λ s. term (pos n) >>= (λ z. checked (s +ℤ z)))

abbrev mutual
  -- the value with these variables, the innermost first
  pub value : Given → List (List ℕ × ℤ) → Tree → Result ℤ Kind
  value g vars (num z) = Ok z
  value g vars (index k) = Ok (pos (slice_index g.at k))
  value g vars (var x) = Ok (variable vars x)
  value g vars (read p at) = values g vars at >>= (λ indices. element g.ins g.nums p indices)
  value g vars (bin op l r) = value g vars l >>= (λ a. value g vars r >>= (λ b. applied op a b))
  value g vars (if_else c a b) = value g vars c >>= (λ z. if is_zero z then value g vars b else value g vars a)
  value g vars (sum x n e) = summed (λ k. value g ((x, k) ∷ vars) e) n

  -- the values from left to right
  pub values : Given → List (List ℕ × ℤ) → Trees → Result (List ℤ) Kind
  values g vars no_trees = Ok []
  values g vars (tree_and t ts) = value g vars t >>= (λ z. values g vars ts >>= (λ zs. Ok (z ∷ zs)))
