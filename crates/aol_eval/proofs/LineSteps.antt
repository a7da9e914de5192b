-- Lines and ranks from lane to lane, step by step.
use Rattle.std.proofs.Common.{◌≡◌, ℕ, ◌+◌, ◌*◌, ◌<◌, ℤ, pos, negsuc, ◌+ℤ◌, ◌-ℤ◌, ◌≤ℤ◌, ◌<ℤ◌, List, ◌∷◌, Bool, true, false, nat_lt, Option, Some, None, Result, Ok, refl, ap, ◌∙◌, arith}
use Rattle.std.specs.Option.{IfSome}
use Rattle.std.proofs.lemmas.Int.{ints}
use Rattle.aol_expr_tree.specs.declared.op.ExprOp.{ExprOp}
use Rattle.aol_expr_tree.specs.declared.op.ExprOp.TheVariants.{Add, Sub}
use Rattle.aol_expr_tree.specs.Meaning.{◌>>=◌, applied, checked}
use Rattle.aol_expr_tree.specs.declared.value.Kind.{Kind}
use Rattle.aol_eval.specs.declared.lines.Line.{Line}
use Rattle.aol_eval.specs.declared.lines.Ranks.{Ranks}
use Rattle.aol_eval.specs.Lines.{moved, number_on, IsLine, IsLineOf, LeadsTo}
use Rattle.aol_eval.specs.Places.{rank_on}

-- 0 more
pub plus_none : (z : ℤ) → z +ℤ pos 0 ≡ z
plus_none z = omega (arith, ints)

-- a number in 64 bits
checked-inside : (z : ℤ) → negsuc 9223372036854775807 ≤ℤ z → z <ℤ pos 9223372036854775808 → checked z ≡ Ok z
checked-inside (pos n) low high =
    let few : n < 9223372036854775808 = omega (arith, ints) in
    let fits : nat_lt n 9223372036854775808 ≡ true = grind arith in
    rw fits refl
checked-inside (negsuc n) low high =
    let few : n < 9223372036854775808 = omega (arith, ints) in
    let fits : nat_lt n 9223372036854775808 ≡ true = grind arith in
    rw fits refl

-- from a number that isn't far from 0 on, each lane's is in 64 bits
pub checked_near : (s : ℤ) (i : ℕ) → negsuc 4611686018427387903 ≤ℤ s → s <ℤ pos 4611686018427387904 → i < 128 → checked (s +ℤ pos i) ≡ Ok (s +ℤ pos i)
checked_near s i low high few = checked-inside (s +ℤ pos i) (omega (arith, ints)) (omega (arith, ints))

-- an operator at numbers that stay
pub op_still : (op : ExprOp) (left right line : Line) → left.moves ≡ false → right.moves ≡ false → line.moves ≡ false → applied op left.first right.first ≡ Ok line.first → IsLineOf op left right line
op_still op left right line l r o is i few = rw (l, r, o, plus_none left.first, plus_none right.first, plus_none line.first) is

-- a sum of a number that stays and one that goes up
pub add_up_right : (left right line : Line) (s : ℤ) → left.moves ≡ false → right.moves ≡ true → s ≡ left.first +ℤ right.first
    → ((i : ℕ) → i < 128 → checked (s +ℤ pos i) ≡ Ok (number_on line i)) → IsLineOf Add left right line
add_up_right left right line s l r is fits i few =
    let same : (left.first +ℤ pos 0) +ℤ (right.first +ℤ pos i) ≡ s +ℤ pos i = omega (arith, ints, is) in
    rw (l, r) (ap checked same ∙ fits i few)

-- of one that goes up and one that stays
pub add_up_left : (left right line : Line) (s : ℤ) → left.moves ≡ true → right.moves ≡ false → s ≡ left.first +ℤ right.first
    → ((i : ℕ) → i < 128 → checked (s +ℤ pos i) ≡ Ok (number_on line i)) → IsLineOf Add left right line
add_up_left left right line s l r is fits i few =
    let same : (left.first +ℤ pos i) +ℤ (right.first +ℤ pos 0) ≡ s +ℤ pos i = omega (arith, ints, is) in
    rw (l, r) (ap checked same ∙ fits i few)

-- and a difference
pub less_left : (left right line : Line) (s : ℤ) → left.moves ≡ true → right.moves ≡ false → s ≡ left.first -ℤ right.first
    → ((i : ℕ) → i < 128 → checked (s +ℤ pos i) ≡ Ok (number_on line i)) → IsLineOf Sub left right line
less_left left right line s l r is fits i few =
    let same : (left.first +ℤ pos i) -ℤ (right.first +ℤ pos 0) ≡ s +ℤ pos i = omega (arith, ints, is) in
    rw (l, r) (ap checked same ∙ fits i few)

-- what holds of each value holds of an optional one
pub if_some-map : {A : Type 0} {P Q : A → Type 0} (o : Option A) → ((x : A) → P x → Q x) → IfSome o P → IfSome o Q
if_some-map (Some x) f p = f x p
if_some-map None f p = p

moved-times : (b : Bool) (i : ℕ) → moved b i ≡ moved b 1 * i
moved-times true i = omega arith
moved-times false i = omega arith

rank_on-index : (entry r n : ℕ) (rest : List ℕ) (more : List ℤ) → n < entry → rank_on (entry ∷ rest) r (pos n ∷ more) ≡ rank_on rest (r * entry + n) more
rank_on-index entry r n rest more below =
    let fits : nat_lt n entry ≡ true = grind arith in
    rw fits refl

-- one more index
pub leads_to : (ranks next : Ranks) (line : Line) (entry count f : ℕ) → ((i : ℕ) → i < count → (number_on line i ≡ pos (f + moved line.moves i)) × (f + moved line.moves i < entry))
    → next.first ≡ ranks.first * entry + f → next.step ≡ ranks.step * entry + moved line.moves 1 → LeadsTo ranks line entry count next
leads_to ranks next line entry count f below first_is step_is i few rest more =
    let at = below i few in
    let n = f + moved line.moves i in
    let same : (ranks.first + ranks.step * i) * entry + n ≡ (ranks.first * entry + f) + (ranks.step * entry + moved line.moves 1) * i = omega (arith, moved-times line.moves i) in
    rw (at.0, first_is, step_is) (rank_on-index entry (ranks.first + ranks.step * i) n rest more at.1 ∙ ap (λ r. rank_on rest r more) same)

-- an operator at two steps
pub line_of_parts : (f g : ℤ → Result ℤ Kind) (from : ℕ) (op : ExprOp) (left right line : Line) → IsLine f from left → IsLine g from right → IsLineOf op left right line
    → IsLine (λ z. f z >>= (λ a. g z >>= (λ b. applied op a b))) from line
line_of_parts f g from op left right line l r is i few = rw (l i few, r i few) (is i few)
