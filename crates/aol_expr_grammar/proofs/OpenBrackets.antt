-- The texts of open brackets, and what they need to be closed.
use Rattle.std.proofs.Common.{◌≡◌, ℕ, suc, ◌+◌, ◌-◌, ◌<◌, ◌≤◌, max, List, [], ◌∷◌, ◌++◌, true, ◌&&◌, eqb, refl, ◌∙◌, ap, subst, arith, append_assoc}
use Rattle.std.specs.Prelude.{codes, ◌*◌}
use Rattle.std.proofs.lemmas.Bool.{and_from, eq-eqb}
use Rattle.std.proofs.Math.Nat.{max-le}
use Rattle.aol_shape.specs.Texts.{is_name, are_digits, digits_value}
use Rattle.aol_shape.specs.Tokens.{Token, plain, sign, separated}
use Rattle.aol_expr_tree.specs.declared.op.ExprOp.{ExprOp}
use Rattle.aol_expr_tree.specs.declared.part.Part.{Part}
use Rattle.aol_expr_tree.specs.declared.reader.Bracket.{Bracket}
use Rattle.aol_expr_tree.specs.declared.reader.Bracket.TheVariants.{Parens, Indices, First, Second, Condition, Chosen, Other, Term}
use Rattle.aol_expr_tree.specs.Text.{Written, WrittenList, no_written, written_and, indexed, function_of, choice, summed, parens, strength, alone, brackets, brackets_of, is_well, are_well, op_text, tokens_in, token_lists, bound_token, in_parens}
use Rattle.aol_expr_grammar.proofs.Gaps.{texts}
use Rattle.aol_expr_grammar.proofs.Combined.{Spells, texts_append}

-- the texts are one argument or more, with commas between them
pub record Lists (depth : ℕ) (ts : List (List ℕ)) : Type 0 where
  pub first : Written
  pub more : WrittenList
  pub well : are_well (written_and first more) ≡ true
  pub few : depth + brackets_of (written_and first more) ≤ 100
  pub texts_are : (around : ℕ) → texts (separated (token_lists around (written_and first more))) ≡ ts

pub one_argument : {d : ℕ} {ts : List (List ℕ)} → Spells d 0 ts → Lists d ts
one_argument {d} s = record {
  first = s.written;
  more = no_written;
  well = and_from (is_well s.written) true s.well refl;
  few = omega (arith, max-le {a = brackets s.written} {b = 0} {k = 100 - d} (omega (arith, s.few)) (omega arith), s.few);
  texts_are = s.texts_are;
}

-- one more before the others
pub and_more : {d : ℕ} {ts more : List (List ℕ)} → Spells d 0 ts → Lists d more → Lists d (ts ++ ((44 ∷ []) ∷ more))
and_more {d} {ts} {more} s l = record {
  first = s.written;
  more = written_and l.first l.more;
  well = and_from (is_well s.written) (are_well (written_and l.first l.more)) s.well l.well;
  few = omega (arith, max-le {a = brackets s.written} {b = brackets_of (written_and l.first l.more)} {k = 100 - d} (omega (arith, s.few)) (omega (arith, l.few)), s.few);
  texts_are = λ around. texts_append (tokens_in around s.written) (sign 44 ∷ separated (token_lists around (written_and l.first l.more))) ts ((44 ∷ []) ∷ more) (s.texts_are around) (ap (λ z. (44 ∷ []) ∷ z) (l.texts_are around));
}

-- the texts and an argument with its closing bracket are an operand
abbrev pub Closes : ℕ → List (List ℕ) → Type 0
Closes d ts = (arg : List (List ℕ)) → Spells (suc d) 0 arg → Spells d 3 (ts ++ (arg ++ (41 ∷ []) ∷ []))

-- what the texts of an open bracket need
abbrev pub IsOpen : ℕ → Bracket → List (List ℕ) → Type 0
IsOpen d Parens ts = Closes d ts
IsOpen d (Indices r) ts = (more : List (List ℕ)) → Lists (suc d) more → Spells d 3 (ts ++ (more ++ (125 ∷ []) ∷ []))
IsOpen d (First op) ts = (arg : List (List ℕ)) → Spells (suc d) 0 arg → Closes d (ts ++ (arg ++ (44 ∷ []) ∷ []))
IsOpen d (Second op l) ts = Closes d ts
IsOpen d Condition ts = (c : List (List ℕ)) → Spells (suc d) 0 c → (a : List (List ℕ)) → Spells (suc d) 0 a → Closes d ((ts ++ (c ++ (44 ∷ []) ∷ [])) ++ (a ++ (44 ∷ []) ∷ []))
IsOpen d (Chosen c) ts = (a : List (List ℕ)) → Spells (suc d) 0 a → Closes d (ts ++ (a ++ (44 ∷ []) ∷ []))
IsOpen d (Other c a) ts = Closes d ts
IsOpen d (Term x n) ts = Closes d ts

-- ---- each bracket opens so

pub parens_open : (d : ℕ) → Closes d ((40 ∷ []) ∷ [])
parens_open d arg s = record {
  written = parens s.written;
  well = s.well;
  few = omega (arith, s.few);
  binds = omega arith;
  texts_are = λ around. ap (λ z. (40 ∷ []) ∷ z) (texts_append (tokens_in around s.written) (sign 41 ∷ []) arg ((41 ∷ []) ∷ []) (s.texts_are around) refl);
}

-- two or three arguments in parentheses
two_texts : (a b : List Token) (x y : List (List ℕ)) → texts a ≡ x → texts b ≡ y → texts (in_parens (a ∷ b ∷ [])) ≡ (40 ∷ []) ∷ ((x ++ (44 ∷ []) ∷ y) ++ (41 ∷ []) ∷ [])
two_texts a b x y e f = ap (λ z. (40 ∷ []) ∷ z) (texts_append (a ++ sign 44 ∷ b) (sign 41 ∷ []) (x ++ (44 ∷ []) ∷ y) ((41 ∷ []) ∷ []) (texts_append a (sign 44 ∷ b) x ((44 ∷ []) ∷ y) e (ap (λ z. (44 ∷ []) ∷ z) f)) refl)

three_texts : (a b c : List Token) (x y z : List (List ℕ)) → texts a ≡ x → texts b ≡ y → texts c ≡ z → texts (in_parens (a ∷ b ∷ c ∷ [])) ≡ (40 ∷ []) ∷ ((x ++ (44 ∷ []) ∷ (y ++ (44 ∷ []) ∷ z)) ++ (41 ∷ []) ∷ [])
three_texts a b c x y z e f g = two_texts a (b ++ sign 44 ∷ c) x (y ++ (44 ∷ []) ∷ z) e (texts_append b (sign 44 ∷ c) y ((44 ∷ []) ∷ z) f (ap (λ u. (44 ∷ []) ∷ u) g))

pub function_opens : (d : ℕ) (op : ExprOp) → strength op ≡ alone → (arg : List (List ℕ)) → Spells (suc d) 0 arg → Closes d ((op_text op ∷ (40 ∷ []) ∷ []) ++ (arg ++ (44 ∷ []) ∷ []))
function_opens d op e l s r t = record {
  written = function_of op s.written t.written;
  well = and_from (eqb (strength op) alone && is_well s.written) (is_well t.written) (and_from (eqb (strength op) alone) (is_well s.written) (eq-eqb (strength op) alone e) s.well) t.well;
  few = omega (arith, max-le {a = brackets s.written} {b = brackets t.written} {k = 100 - suc d} (omega (arith, s.few)) (omega (arith, t.few)), s.few);
  binds = omega arith;
  texts_are = λ around. ap (λ z. op_text op ∷ z) (two_texts (tokens_in around s.written) (tokens_in around t.written) l r (s.texts_are around) (t.texts_are around)) ∙ simp append_assoc;
}

pub condition_opens : (d : ℕ) → IsOpen d Condition (codes "if" ∷ (40 ∷ []) ∷ [])
condition_opens d c s a t b u = record {
  written = choice s.written t.written u.written;
  well = and_from (is_well s.written && is_well t.written) (is_well u.written) (and_from (is_well s.written) (is_well t.written) s.well t.well) u.well;
  few = omega (arith, max-le {a = brackets s.written} {b = max (brackets t.written) (brackets u.written)} {k = 100 - suc d} (omega (arith, s.few)) (max-le {a = brackets t.written} {b = brackets u.written} {k = 100 - suc d} (omega (arith, t.few)) (omega (arith, u.few))), s.few);
  binds = omega arith;
  texts_are = λ around. ap (λ z. codes "if" ∷ z) (three_texts (tokens_in around s.written) (tokens_in around t.written) (tokens_in around u.written) c a b (s.texts_are around) (t.texts_are around) (u.texts_are around)) ∙ simp append_assoc;
}

pub term_opens : (d : ℕ) (x ds : List ℕ) → is_name x ≡ true → are_digits ds ≡ true → Closes d (codes "sum" ∷ (40 ∷ []) ∷ x ∷ (44 ∷ []) ∷ ds ∷ (44 ∷ []) ∷ [])
term_opens d x ds hx hd arg s = record {
  written = summed x ds s.written;
  well = and_from (is_name x && are_digits ds) (is_well s.written) (and_from (is_name x) (are_digits ds) hx hd) s.well;
  few = omega (arith, s.few);
  binds = omega arith;
  texts_are = λ around. ap (λ z. codes "sum" ∷ z) (three_texts (plain x ∷ []) (bound_token around ds ∷ []) (tokens_in (around * digits_value ds) s.written) (x ∷ []) (ds ∷ []) arg refl refl (s.texts_are (around * digits_value ds)));
}

pub indices_open : (d : ℕ) (r : Part) (x : List ℕ) → is_name x ≡ true → IsOpen d (Indices r) (x ∷ (123 ∷ []) ∷ [])
indices_open d r x h more l = record {
  written = indexed x (written_and l.first l.more);
  well = and_from (is_name x) (are_well (written_and l.first l.more)) h l.well;
  few = omega (arith, l.few);
  binds = omega arith;
  texts_are = λ around. ap (λ z. x ∷ (123 ∷ []) ∷ z) (texts_append (separated (token_lists around (written_and l.first l.more))) (sign 125 ∷ []) more ((125 ∷ []) ∷ []) (l.texts_are around) refl);
}

-- a port without indices
pub no_indices : (d : ℕ) (x : List ℕ) → d < 100 → is_name x ≡ true → Spells d 3 (x ∷ (123 ∷ []) ∷ (125 ∷ []) ∷ [])
no_indices d x k h = record { written = indexed x no_written; well = and_from (is_name x) true h refl; few = omega (arith, k); binds = omega arith; texts_are = λ around. refl }

-- one more index
pub index_more : {d : ℕ} (r q : Part) (ts arg : List (List ℕ)) → IsOpen d (Indices r) ts → Spells (suc d) 0 arg → IsOpen d (Indices q) (ts ++ (arg ++ (44 ∷ []) ∷ []))
index_more {d} r q ts arg h s more l = subst (Spells d 3) (simp append_assoc) (h (arg ++ ((44 ∷ []) ∷ more)) (and_more s l))
