-- What is written, by its texts, and operators that wait for their right operands.
use Rattle.std.proofs.Common.{◌≡◌, ℕ, suc, ◌+◌, ◌-◌, ◌≤◌, max, List, [], ◌∷◌, ◌++◌, true, ◌&&◌, leb, Option, Some, None, refl, sym, ◌∙◌, ap, subst, arith, append_assoc}
use Rattle.std.specs.Prelude.{ltb}
use Rattle.std.proofs.lemmas.Bool.{and_from, le-leb, lt-ltb}
use Rattle.std.proofs.lemmas.List.{map-append}
use Rattle.std.proofs.Math.Nat.{max-le}
use Rattle.aol_shape.specs.Tokens.{Token, plain}
use Rattle.aol_expr_tree.specs.declared.op.ExprOp.{ExprOp}
use Rattle.aol_expr_tree.specs.declared.op.ExprOp.TheVariants.{Add, Sub, Mul, Div, Rem, Lt, Le, Eq, Min, Max}
use Rattle.aol_expr_tree.specs.declared.part.Part.{Part}
use Rattle.aol_expr_tree.specs.declared.reader.Left.{Left}
use Rattle.aol_expr_tree.specs.declared.reader.Waiting.{Waiting}
use Rattle.aol_expr_tree.specs.Text.{Written, infix_of, strength, is_infix, groups_left, written_strength, brackets, is_well, op_text, tokens_in}
use Rattle.aol_expr_tree.specs.Reading.{nothing_waits, waits}
use Rattle.aol_expr_grammar.proofs.Gaps.{texts}
use Rattle.aol_expr_grammar.proofs.ByteKinds.{IsPlain}

-- the texts spell something well written inside so many brackets, which binds at least so tightly
pub record Spells (depth binding : ℕ) (ts : List (List ℕ)) : Type 0 where
  pub written : Written
  pub well : is_well written ≡ true
  pub few : depth + brackets written ≤ 100
  pub binds : binding ≤ written_strength written
  pub texts_are : (around : ℕ) → texts (tokens_in around written) ≡ ts

pub weaker : {d n : ℕ} {ts : List (List ℕ)} (m : ℕ) → m ≤ n → Spells d n ts → Spells d m ts
weaker m h s = record { written = s.written; well = s.well; few = s.few; binds = omega (arith, h, s.binds); texts_are = s.texts_are }

pub texts_append : (a b : List Token) (x y : List (List ℕ)) → texts a ≡ x → texts b ≡ y → texts (a ++ b) ≡ x ++ y
texts_append a b x y e f = map-append (λ t. t.text) a b ∙ ap (λ z. z ++ texts b) e ∙ ap (λ z. x ++ z) f

-- two operands and their operator
pub joined : {d n : ℕ} {l r : List (List ℕ)} (op : ExprOp) → strength op ≡ n → n ≤ 2 → Spells d (max 1 n) l → Spells d (suc n) r → Spells d n (l ++ (op_text op ∷ r))
joined {d} {n} {l} {r} op e h s t = record {
  written = infix_of op s.written t.written;
  well = and_from (groups_left op s.written t.written && is_well s.written) (is_well t.written) (and_from (groups_left op s.written t.written) (is_well s.written) groups s.well) t.well;
  few = omega (arith, max-le {a = brackets s.written} {b = brackets t.written} {k = 100 - d} (omega (arith, s.few)) (omega (arith, t.few)), s.few);
  binds = omega (arith, e);
  texts_are = λ around. texts_append (tokens_in around s.written) (plain (op_text op) ∷ tokens_in around t.written) l (op_text op ∷ r) (s.texts_are around) (ap (λ z. op_text op ∷ z) (t.texts_are around));
}
  where
    groups : groups_left op s.written t.written ≡ true
    groups = and_from (is_infix op && leb (max 1 (strength op)) (written_strength s.written)) (ltb (strength op) (written_strength t.written))
        (and_from (is_infix op) (leb (max 1 (strength op)) (written_strength s.written)) (lt-ltb (strength op) 3 (omega (arith, e, h))) (le-leb (max 1 (strength op)) (written_strength s.written) (subst (λ k. max 1 k ≤ written_strength s.written) (sym e) s.binds)))
        (lt-ltb (strength op) (written_strength t.written) (omega (arith, e, t.binds)))

-- the texts before the right operand of an operator that waits, where one does
abbrev pub IsLeft : ℕ → ℕ → Option Left → List (List ℕ) → Type 0
IsLeft d n None ts = ts ≡ []
IsLeft d n (Some l) ts = (arg : List (List ℕ)) → Spells d (suc n) arg → Spells d n (ts ++ arg)

-- an operator takes its right operand
pub takes : {d n : ℕ} {arg : List (List ℕ)} (ts : List (List ℕ)) (o : Option Left) → IsLeft d n o ts → Spells d (suc n) arg → Spells d n (ts ++ arg)
takes {d} {n} {arg} ts None l s = subst (λ t. Spells d n (t ++ arg)) (sym l) (weaker n (omega arith) s)
takes {arg = arg} ts (Some o) l s = l arg s

-- an operator waits after its left operand
pub is_left : {d n : ℕ} {ts : List (List ℕ)} (op : ExprOp) (p : Part) → strength op ≡ n → n ≤ 2 → Spells d (max 1 n) ts → IsLeft d n (Some (record { op = op; part = p })) (ts ++ op_text op ∷ [])
is_left {d} {n} {ts} op p e h s = λ arg t. subst (Spells d n) (sym (append_assoc ts (op_text op ∷ []) arg)) (joined op e h s t)

-- the texts of all operators that wait, with their left operands
pub record Waits (d : ℕ) (w : Waiting) (ts : List (List ℕ)) : Type 0 where
  pub first : List (List ℕ)
  pub second : List (List ℕ)
  pub third : List (List ℕ)
  pub comparison : IsLeft d 0 w.comparison first
  pub sum : IsLeft d 1 w.sum second
  pub product : IsLeft d 2 w.product third
  pub texts_are : ts ≡ first ++ (second ++ third)

pub none_waits : (d : ℕ) → Waits d nothing_waits []
none_waits d = record { first = []; second = []; third = []; comparison = refl; sum = refl; product = refl; texts_are = refl }

-- all take their right operands
pub all_take : {d : ℕ} {w : Waiting} {ts arg : List (List ℕ)} → Waits d w ts → Spells d 3 arg → Spells d 0 (ts ++ arg)
all_take {d} {w} {ts} {arg} h s =
    let whole : Spells d 0 (h.first ++ (h.second ++ (h.third ++ arg))) = takes h.first w.comparison h.comparison (takes h.second w.sum h.sum (takes h.third w.product h.product s)) in
    let same : h.first ++ (h.second ++ (h.third ++ arg)) ≡ ts ++ arg = sym (ap (λ t. t ++ arg) h.texts_are ∙ append_assoc h.first (h.second ++ h.third) arg ∙ ap (λ t. h.first ++ t) (append_assoc h.second h.third arg)) in
    subst (Spells d 0) same whole

module _ {d : ℕ} {w : Waiting} {ts arg : List (List ℕ)} (h : Waits d w ts) (s : Spells d 3 arg) where
  -- a product waits
  product_waits : (op : ExprOp) (p : Part) → strength op ≡ 2 → Waits d (record w { product = Some (record { op = op; part = p }) }) (ts ++ (arg ++ op_text op ∷ []))
  product_waits op p e = record {
    first = h.first;
    second = h.second;
    third = (h.third ++ arg) ++ op_text op ∷ [];
    comparison = h.comparison;
    sum = h.sum;
    product = is_left op p e (omega arith) (takes h.third w.product h.product s);
    texts_are = ap (λ t. t ++ (arg ++ op_text op ∷ [])) h.texts_are ∙ simp append_assoc;
  }

  -- a sum waits
  sum_waits : (op : ExprOp) (p : Part) → strength op ≡ 1 → Waits d (record { comparison = w.comparison; sum = Some (record { op = op; part = p }); product = None }) (ts ++ (arg ++ op_text op ∷ []))
  sum_waits op p e = record {
    first = h.first;
    second = (h.second ++ (h.third ++ arg)) ++ op_text op ∷ [];
    third = [];
    comparison = h.comparison;
    sum = is_left op p e (omega arith) (takes h.second w.sum h.sum (takes h.third w.product h.product s));
    product = refl;
    texts_are = ap (λ t. t ++ (arg ++ op_text op ∷ [])) h.texts_are ∙ simp append_assoc;
  }

  -- a comparison waits, where none did
  comparison_waits : (op : ExprOp) (p : Part) → strength op ≡ 0 → IsLeft d 0 None h.first → Waits d (record { comparison = Some (record { op = op; part = p }); sum = None; product = None }) (ts ++ (arg ++ op_text op ∷ []))
  comparison_waits op p e none = record {
    first = (h.second ++ (h.third ++ arg)) ++ op_text op ∷ [];
    second = [];
    third = [];
    comparison = is_left op p e (omega arith) (takes h.second w.sum h.sum (takes h.third w.product h.product s));
    sum = refl;
    product = refl;
    texts_are = ap (λ t. t ++ (arg ++ op_text op ∷ [])) (h.texts_are ∙ ap (λ t. t ++ (h.second ++ h.third)) none) ∙ simp append_assoc;
  }

-- an operator of one byte that is no comparison waits
pub plain_waits : {d : ℕ} {w : Waiting} {ts arg : List (List ℕ)} (op : ExprOp) (p : Part) → IsPlain op → Waits d w ts → Spells d 3 arg → Waits d (waits op w p) (ts ++ (arg ++ op_text op ∷ []))
unfolding waits
plain_waits Add p i h s = sum_waits h s Add _ refl
plain_waits Sub p i h s = sum_waits h s Sub _ refl
plain_waits Mul p i h s = product_waits h s Mul _ refl
plain_waits Div p i h s = product_waits h s Div _ refl
plain_waits Rem p i h s = product_waits h s Rem _ refl
plain_waits Lt p i h s = absurd i
plain_waits Le p i h s = absurd i
plain_waits Eq p i h s = absurd i
plain_waits Min p i h s = absurd i
plain_waits Max p i h s = absurd i

abbrev pub IsComparison : ExprOp → Type 0
IsComparison Lt = Unit {0}
IsComparison Le = Unit {0}
IsComparison Eq = Unit {0}
IsComparison op = ⊥

-- a comparison waits, where none did
pub compared_waits : {d : ℕ} {w : Waiting} {ts arg : List (List ℕ)} (op : ExprOp) (p : Part) → IsComparison op → w.comparison ≡ None → Waits d w ts → Spells d 3 arg → Waits d (waits op w p) (ts ++ (arg ++ op_text op ∷ []))
unfolding waits
compared_waits {d} {w} Lt p i n h s = comparison_waits h s Lt _ refl (subst (λ o. IsLeft d 0 o h.first) n h.comparison)
compared_waits {d} {w} Le p i n h s = comparison_waits h s Le _ refl (subst (λ o. IsLeft d 0 o h.first) n h.comparison)
compared_waits {d} {w} Eq p i n h s = comparison_waits h s Eq _ refl (subst (λ o. IsLeft d 0 o h.first) n h.comparison)
compared_waits Add p i n h s = absurd i
compared_waits Sub p i n h s = absurd i
compared_waits Mul p i n h s = absurd i
compared_waits Div p i n h s = absurd i
compared_waits Rem p i n h s = absurd i
compared_waits Min p i n h s = absurd i
compared_waits Max p i n h s = absurd i
