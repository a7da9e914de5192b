-- From each mode of the reader some bytes lead to an end, where a word has room for its bracket.
use Rattle.std.proofs.Common.{◌≡◌, ℕ, zero, suc, ◌+◌, ◌≤◌, List, [], ◌∷◌, length, Bool, true, false, cond, eqb, Option, Some, None, refl, sym, ap, subst, arith}
use Rattle.std.specs.Prelude.{nat_lt, codes}
use Rattle.std.specs.Option.{option_map, is_some, unwrap_or}
use Rattle.std.proofs.lemmas.Bool.{ne_eqb}
use Rattle.aol_shape.specs.declared.limit.LimitName.{LimitName}
use Rattle.aol_shape.specs.Machine.{behind, ends}
use Rattle.aol_shape.proofs.Stuck.{Leads}
use Rattle.aol_expr_tree.specs.declared.op.ExprOp.TheVariants.{Add}
use Rattle.aol_expr_tree.specs.declared.byte.Byte.TheVariants.{Operator, Comma}
use Rattle.aol_expr_tree.specs.declared.letters.Keyword.{Keyword}
use Rattle.aol_expr_tree.specs.declared.letters.Keyword.TheVariants.{Function, If, Sum}
use Rattle.aol_expr_tree.specs.declared.part.Part.{Part}
use Rattle.aol_expr_tree.specs.declared.reader.Bracket.{Bracket}
use Rattle.aol_expr_tree.specs.declared.reader.Bracket.TheVariants.{First, Condition, Term}
use Rattle.aol_expr_tree.specs.declared.reader.Level.{Level}
use Rattle.aol_expr_tree.specs.declared.reader.Held.{Held}
use Rattle.aol_expr_tree.specs.declared.reader.Mode.{Mode}
use Rattle.aol_expr_tree.specs.declared.reader.Mode.TheVariants.{Operand, FirstIndex, Digits, Index, InIndex, InWord, AfterWord, Named, Whole, Smaller, Equal, SumName, InSumName, SumNamed, Bound, InBound, Bounded}
use Rattle.aol_expr_tree.specs.declared.reader.Reader.{Reader}
use Rattle.aol_expr_tree.specs.Decimals.{in_bounds}
use Rattle.aol_expr_tree.specs.Words.{word_of}
use Rattle.aol_expr_tree.specs.Reading.{recognizer, step, stepped, after_operand, begun, new_index, in_index, noted, opened, inside, placed, has_room, in_digits, in_word, after_word, after_name, first_index, smaller, equal, sum_name, sum_named, in_sum_name, bound, bounded, in_bound}
use Rattle.aol_expr_grammar.proofs.WordCases.{by_word}
use Rattle.aol_expr_grammar.proofs.Live.{From, operand, closing_all, whole_leads, operand_leads, level, held_by}

-- an operand, and then what closes all brackets
abbrev way : List Level → List ℕ
way ls = operand (closing_all ls)

-- after a next state these bytes lead to an end
abbrev Next : ℕ → Option Reader → List ℕ → Type 0
Next place o more = ends recognizer (behind recognizer (option_map (placed (place + 1)) o) more) ≡ true

-- an operator after an operand, whether or not a limit is noted
noted_operator : (fits : Bool) (start : ℕ) (limit : LimitName) (h : Held) (p : Part) (k : ℕ) → Next k (after_operand (noted fits start limit h) p (Operator Add)) (way h.levels)
unfolding noted after_operand
noted_operator true start limit h p k = operand_leads h.levels _ _ _ _
noted_operator false start limit h p k = operand_leads h.levels _ _ _ _

-- a comma after a bound, whether or not a limit is noted
noted_comma : (fits : Bool) (start : ℕ) (limit : LimitName) (h : Held) (x : List ℕ) (n k : ℕ) → Next k (bounded (noted fits start limit h) x n Comma) (way (level (Term x n) h.waiting h.around ∷ h.levels))
unfolding noted bounded inside
noted_comma true start limit h x n k = operand_leads (level (Term x n) h.waiting h.around ∷ h.levels) _ _ _ _
noted_comma false start limit h x n k = operand_leads (level (Term x n) h.waiting h.around ∷ h.levels) _ _ _ _

-- the same after a count
counted_operator : (count : ℕ) → 1 ≤ count → (fits : Bool) (start : ℕ) (limit : LimitName) (h : Held) (p : Part) (k : ℕ)
    → Next k (cond (eqb count 0) None (after_operand (noted fits start limit h) p (Operator Add))) (way h.levels)
counted_operator count some fits start limit h p k =
    subst (λ t. Next k (cond t None (after_operand (noted fits start limit h) p (Operator Add))) (way h.levels)) (sym (ne_eqb count 0 (λ e. absurd (omega (arith, e, some))))) (noted_operator fits start limit h p k)

digits_lead : (start : ℕ) (negative : Bool) (count value : ℕ) (ls : List Level) → (more : List ℕ) × From ls (Digits (record { start = start; negative = negative; digits = record { count = count; value = value } })) more
unfolding step stepped in_digits
digits_lead start negative zero value ls = (48 ∷ 43 ∷ way ls, λ place passed waiting around. noted_operator _ _ _ (held_by _ passed ls waiting around) _ _)
digits_lead start negative (suc count) value ls = (43 ∷ way ls, λ place passed waiting around. counted_operator (suc count) (omega arith) _ _ _ (held_by _ passed ls waiting around) _ _)

-- ---- names

-- a name goes on with an operator
name_goes : (h : Held) (x : List ℕ) (b : ℕ) → word_of x ≡ None → in_word h x (Operator Add) b ≡ after_name h x (Operator Add)
unfolding in_word
name_goes h x b e = rw e refl

word_lead : (ls : List Level) (x : List ℕ) → (more : List ℕ) × From ls (InWord x) more
unfolding step stepped in_word after_name after_operand
word_lead ls = λ x. by_word (λ y. (more : List ℕ) × From ls (InWord y) more)
    (97 ∷ 43 ∷ way ls, λ place passed waiting around. operand_leads ls _ _ _ _)
    (97 ∷ 43 ∷ way ls, λ place passed waiting around. operand_leads ls _ _ _ _)
    (97 ∷ 43 ∷ way ls, λ place passed waiting around. operand_leads ls _ _ _ _)
    (97 ∷ 43 ∷ way ls, λ place passed waiting around. operand_leads ls _ _ _ _)
    x
    (λ e. (43 ∷ way ls, λ place passed waiting around. subst (λ o. Next place o (way ls)) (sym (name_goes (held_by place passed ls waiting around) x 43 e)) (operand_leads ls _ _ _ _)))

-- the variable of a sum goes on with a comma
bound_leads : (ls : List Level) (x : List ℕ) → (more : List ℕ) × From ls (Bound x) more
unfolding step stepped bound in_bound
bound_leads ls x = (48 ∷ 44 ∷ operand (41 ∷ closing_all ls), λ place passed waiting around. noted_comma _ _ _ (held_by _ passed ls waiting around) x _ _)

sum_name_goes : (h : Held) (x : List ℕ) (b : ℕ) → word_of x ≡ None → in_sum_name h x Comma b ≡ sum_named h x Comma
unfolding in_sum_name
sum_name_goes h x b e = ap (λ t. cond (is_some t) None (sum_named h x Comma)) e

sum_name_lead : (ls : List Level) (x : List ℕ) → (more : List ℕ) × From ls (InSumName x) more
unfolding step stepped in_sum_name sum_named
sum_name_lead ls x = by_word (λ y. (more : List ℕ) × From ls (InSumName y) more)
    (97 ∷ 44 ∷ (bound_leads ls (codes "mina")).0, λ place passed waiting around. (bound_leads ls (codes "mina")).1 _ _ _ _)
    (97 ∷ 44 ∷ (bound_leads ls (codes "maxa")).0, λ place passed waiting around. (bound_leads ls (codes "maxa")).1 _ _ _ _)
    (97 ∷ 44 ∷ (bound_leads ls (codes "ifa")).0, λ place passed waiting around. (bound_leads ls (codes "ifa")).1 _ _ _ _)
    (97 ∷ 44 ∷ (bound_leads ls (codes "suma")).0, λ place passed waiting around. (bound_leads ls (codes "suma")).1 _ _ _ _)
    x
    (λ e. (
      44 ∷ (bound_leads ls x).0,
      λ place passed waiting around.
          subst (λ o. Next place o (bound_leads ls x).0) (sym (sum_name_goes (held_by place passed ls waiting around) x 44 e)) ((bound_leads ls x).1 _ _ _ _),
    ))

-- ---- each mode

-- a word has room for its bracket
abbrev pub HasRoom : List Level → Mode → Type 0
HasRoom ls (AfterWord w) = nat_lt (length ls) 100 ≡ true
HasRoom ls m = Unit {0}

opened_is : (h : Held) (k : Bracket) → has_room h ≡ true → opened h k Operand ≡ Some (record { held = inside h k h.around; mode = Operand })
unfolding opened
opened_is h k e = ap (λ t. cond t (Some (record { held = inside h k h.around; mode = Operand })) None) e

opened_leads : (h : Held) (k : Bracket) → has_room h ≡ true → Next h.place (opened h k Operand) (way (level k h.waiting h.around ∷ h.levels))
unfolding inside
opened_leads h k e = subst (λ o. Next h.place o (way (level k h.waiting h.around ∷ h.levels))) (sym (opened_is h k e)) (operand_leads (level k h.waiting h.around ∷ h.levels) _ _ _ _)

sum_lead : (ls : List Level) → (more : List ℕ) × From ls SumName more
unfolding step stepped sum_name in_sum_name sum_named
sum_lead ls = (97 ∷ 44 ∷ (bound_leads ls (97 ∷ [])).0, λ place passed waiting around. (bound_leads ls (97 ∷ [])).1 _ _ _ _)

bracket_lead : (h : Held) (w : Keyword) → has_room h ≡ true → (more : List ℕ) × Leads recognizer (Some (record { held = h; mode = AfterWord w })) more
unfolding step stepped after_word
bracket_lead h (Function op) e = (40 ∷ way (level (First op) h.waiting h.around ∷ h.levels), opened_leads h (First op) e)
bracket_lead h If e = (40 ∷ way (level Condition h.waiting h.around ∷ h.levels), opened_leads h Condition e)
bracket_lead h Sum e = (40 ∷ (sum_lead h.levels).0, subst (λ t. Next h.place (cond t (Some (record { held = h; mode = SumName })) None) (sum_lead h.levels).0) (sym e) ((sum_lead h.levels).1 _ _ _ _))

-- from each mode some bytes lead to an end
pub mode_leads : (h : Held) (m : Mode) → HasRoom h.levels m → (more : List ℕ) × Leads recognizer (Some (record { held = h; mode = m })) more
unfolding step stepped begun new_index in_index first_index after_name after_operand smaller equal sum_named in_bound bounded inside
mode_leads h Operand r = (way h.levels, operand_leads h.levels _ _ _ _)
mode_leads h FirstIndex r = (way h.levels, whole_leads h.levels _ _ _ _ _)
mode_leads h (Digits n) r = let l = digits_lead n.start n.negative n.digits.count n.digits.value h.levels in (l.0, l.1 _ _ _ _)
mode_leads h Index r = (48 ∷ 48 ∷ closing_all h.levels, whole_leads h.levels _ _ _ _ _)
mode_leads h (InIndex k) r = (48 ∷ closing_all h.levels, whole_leads h.levels _ _ _ _ _)
mode_leads h (InWord x) r = let l = word_lead h.levels x in (l.0, l.1 _ _ _ _)
mode_leads h (AfterWord w) r = bracket_lead h w r
mode_leads h (Named x) r = (43 ∷ way h.levels, operand_leads h.levels _ _ _ _)
mode_leads h (Whole p) r = (closing_all h.levels, whole_leads h.levels _ _ _ _ _)
mode_leads h (Smaller p) r = (way h.levels, whole_leads h.levels _ _ _ _ _)
mode_leads h (Equal p) r = (61 ∷ way h.levels, operand_leads h.levels _ _ _ _)
mode_leads h SumName r = let l = sum_lead h.levels in (l.0, l.1 _ _ _ _)
mode_leads h (InSumName x) r = let l = sum_name_lead h.levels x in (l.0, l.1 _ _ _ _)
mode_leads h (SumNamed x) r = (44 ∷ (bound_leads h.levels x).0, (bound_leads h.levels x).1 _ _ _ _)
mode_leads h (Bound x) r = let l = bound_leads h.levels x in (l.0, l.1 _ _ _ _)
mode_leads h (InBound x n) r = (44 ∷ way (level (Term x (unwrap_or (in_bounds h.around n.digits.value) 0)) h.waiting h.around ∷ h.levels), noted_comma _ _ _ h x _ _)
mode_leads h (Bounded x n) r = (44 ∷ way (level (Term x n) h.waiting h.around ∷ h.levels), operand_leads (level (Term x n) h.waiting h.around ∷ h.levels) _ _ _ _)
