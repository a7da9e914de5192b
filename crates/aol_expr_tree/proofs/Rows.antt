-- Worked examples of the definitions, by computation.
use Rattle.std.proofs.Common.{◌≡◌, refl, ℕ, ℤ, List, [], ◌∷◌, pos, negsuc, Result, Ok, Err, codes, true, false}
use Rattle.std.specs.Fmt.{digits}
use Rattle.aol_expr_tree.specs.declared.op.ExprOp.TheVariants.{Add, Mul, Div, Rem}
use Rattle.aol_expr_tree.specs.declared.value.Kind.{Kind}
use Rattle.aol_expr_tree.specs.declared.value.Kind.TheVariants.{Overflow, Divide, Index}
use Rattle.aol_expr_tree.specs.Tree.{Tree, num, index, var, read, bin, if_else, sum, trees, work}
use Rattle.aol_expr_tree.specs.Meaning.{value}
use Rattle.aol_expr_tree.specs.Names.{names_ok}
use Rattle.aol_expr_tree.specs.Writing.{expr_text}

-- the value with no ports
abbrev valued : Tree → Result ℤ Kind
valued e = value (record { ins = []; nums = []; at = [] }) [] e

-- a read of a port at these indices
abbrev read_at : List ℕ → List Tree → Tree
read_at port at = read port (trees at)

text-add-two : expr_text (bin Add (read_at (codes "a") (index 0 ∷ index 1 ∷ [])) (read_at (codes "b") (index 0 ∷ index 1 ∷ []))) ≡ codes "a{$0,$1}+b{$0,$1}"
unfolding digits
text-add-two = refl

value-div : valued (bin Div (num (pos 7)) (num (negsuc 1))) ≡ Ok (negsuc 2)
value-div = refl

value-rem : valued (bin Rem (num (negsuc 6)) (num (pos 2))) ≡ Ok (negsuc 0)
value-rem = refl

value-divide : valued (bin Div (num (pos 1)) (num (pos 0))) ≡ Err Divide
value-divide = refl

value-if : valued (if_else (num (pos 0)) (bin Div (num (pos 1)) (num (pos 0))) (num (pos 5))) ≡ Ok (pos 5)
value-if = refl

value-least : valued (bin Rem (num (negsuc 9223372036854775807)) (num (negsuc 0))) ≡ Err Overflow
value-least = refl

value-sum : valued (sum (codes "k") 4 (bin Mul (var (codes "k")) (var (codes "k")))) ≡ Ok (pos 14)
value-sum = refl

value-index : value (record { ins = record { name = codes "a"; shape = 3 ∷ [] } ∷ []; nums = pos 1 ∷ pos 2 ∷ pos 3 ∷ []; at = [] }) [] (read_at (codes "a") (num (pos 3) ∷ [])) ≡ Err Index
value-index = refl

work-most : work (sum (codes "k") 1048576 (num (pos 1))) ≡ 1048577
work-most = refl

names-bound : names_ok [] 0 (sum (codes "k") 4 (bin Mul (var (codes "k")) (var (codes "k")))) ≡ true
names-bound = refl

names-free : names_ok [] 0 (var (codes "k")) ≡ false
names-free = refl
