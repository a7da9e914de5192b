-- What may stand before an operand, seen from its end.
use Rattle.std.proofs.Common.{◌≡◌, ℕ, ◌<◌, ◌≤◌, List, [], ◌∷◌, ◌++◌, Bool, true, false, cond, ◌||◌, eqb, refl, sym, ◌∙◌, ap, subst, arith}
use Rattle.std.specs.List.{list_all}
use Rattle.std.proofs.lemmas.Bool.{and_parts, and_from, false≢true}
use Rattle.std.proofs.lemmas.List.{append-nil}
use Rattle.aol_shape.specs.Texts.{is_name_byte}
use Rattle.aol_expr_tree.specs.declared.op.ExprOp.{ExprOp}
use Rattle.aol_expr_tree.specs.declared.op.ExprOp.TheVariants.{Add, Sub, Mul, Div, Rem, Lt, Le, Eq, Min, Max}
use Rattle.aol_expr_tree.specs.Text.{strength, is_infix, op_text}
use Rattle.aol_expr_grammar.proofs.WordCases.{either}
use Rattle.aol_expr_grammar.proofs.Backwards.{onto}

abbrev pub head : List ℕ → ℕ
head [] = 0
head (c ∷ k) = c

abbrev pub tail : List ℕ → List ℕ
tail [] = []
tail (c ∷ k) = k

-- ---- operators, seen from their ends

abbrev op_before : List ℕ → ExprOp
op_before k = cond (eqb (head k) 43) Add (cond (eqb (head k) 45) Sub (cond (eqb (head k) 42) Mul (cond (eqb (head k) 47) Div (cond (eqb (head k) 37) Rem (cond (eqb (head k) 60) Lt (cond (eqb (head (tail k)) 60) Le Eq))))))

abbrev rest_before : List ℕ → List ℕ
rest_before k = cond (eqb (head k) 61) (tail (tail k)) (tail k)

op_is : (op : ExprOp) (k : List ℕ) → is_infix op ≡ true → (op_before (onto (op_text op) k) ≡ op) × (rest_before (onto (op_text op) k) ≡ k)
op_is Add k i = (refl, refl)
op_is Sub k i = (refl, refl)
op_is Mul k i = (refl, refl)
op_is Div k i = (refl, refl)
op_is Rem k i = (refl, refl)
op_is Lt k i = (refl, refl)
op_is Le k i = (refl, refl)
op_is Eq k i = (refl, refl)
op_is Min k i = absurd (false≢true i)
op_is Max k i = absurd (false≢true i)

-- the same operator, with the same before it
pub op_cancel : (o p : ExprOp) (k m : List ℕ) → is_infix o ≡ true → is_infix p ≡ true → onto (op_text o) k ≡ onto (op_text p) m → (o ≡ p) × (k ≡ m)
op_cancel o p k m i j e = (sym (op_is o k i).0 ∙ ap op_before e ∙ (op_is p m j).0, sym (op_is o k i).1 ∙ ap rest_before e ∙ (op_is p m j).1)

-- ---- the last byte of an operand

abbrev final_byte : ℕ → Bool
final_byte c = is_name_byte c || (eqb c 41 || eqb c 125)

abbrev pub IsFinal : List ℕ → Type 0
IsFinal [] = ⊥
IsFinal (c ∷ k) = final_byte c ≡ true

op_not_final : (op : ExprOp) (k : List ℕ) → is_infix op ≡ true → IsFinal (onto (op_text op) k) → ⊥
op_not_final Add k i h = false≢true h
op_not_final Sub k i h = false≢true h
op_not_final Mul k i h = false≢true h
op_not_final Div k i h = false≢true h
op_not_final Rem k i h = false≢true h
op_not_final Lt k i h = false≢true h
op_not_final Le k i h = false≢true h
op_not_final Eq k i h = false≢true h
op_not_final Min k i h = false≢true i
op_not_final Max k i h = false≢true i

-- ---- before an operand

pub data Sep : ℕ → Type 0 where
  round : Sep 40
  comma : Sep 44
  curly : Sep 123

-- nothing, an opening bracket or a comma, or an operator that binds less tightly, after an operand
pub data Prefix (n : ℕ) (a : List ℕ) : Type 0 where
  nothing : a ≡ [] → Prefix n a
  opening : (c : ℕ) (k : List ℕ) → a ≡ c ∷ k → Sep c → Prefix n a
  operator : (op : ExprOp) (k : List ℕ) → a ≡ onto (op_text op) k → is_infix op ≡ true → strength op < n → IsFinal k → Prefix n a

sep_not_final : (c : ℕ) → Sep c → final_byte c ≡ true → ⊥
sep_not_final c round h = false≢true h
sep_not_final c comma h = false≢true h
sep_not_final c curly h = false≢true h

pub not_final : {n : ℕ} (a : List ℕ) → Prefix n a → IsFinal a → ⊥
not_final a (nothing e) h = subst IsFinal e h
not_final a (opening c k e s) h = sep_not_final c s (subst IsFinal e h)
not_final a (operator op k e i l f) h = op_not_final op k i (subst IsFinal e h)

pub looser : {n : ℕ} (m : ℕ) (a : List ℕ) → n ≤ m → Prefix n a → Prefix m a
looser m a h (nothing e) = nothing e
looser m a h (opening c k e s) = opening c k e s
looser m a h (operator op k e i l f) = operator op k e i (omega (arith, h, l)) f

-- the last byte of an operator
abbrev op_byte : ExprOp → ℕ
op_byte Add = 43
op_byte Sub = 45
op_byte Mul = 42
op_byte Div = 47
op_byte Rem = 37
op_byte Lt = 60
op_byte op = 61

pub op_head : (op : ExprOp) (k : List ℕ) → is_infix op ≡ true → head (onto (op_text op) k) ≡ op_byte op
op_head Add k i = refl
op_head Sub k i = refl
op_head Mul k i = refl
op_head Div k i = refl
op_head Rem k i = refl
op_head Lt k i = refl
op_head Le k i = refl
op_head Eq k i = refl
op_head Min k i = absurd (false≢true i)
op_head Max k i = absurd (false≢true i)

abbrev sep_byte : ℕ → Bool
sep_byte c = eqb c 40 || (eqb c 44 || eqb c 123)

sep_is : (c : ℕ) → Sep c → sep_byte c ≡ true
sep_is c round = refl
sep_is c comma = refl
sep_is c curly = refl

op_no_sep : (op : ExprOp) → sep_byte (op_byte op) ≡ false
op_no_sep Add = refl
op_no_sep Sub = refl
op_no_sep Mul = refl
op_no_sep Div = refl
op_no_sep Rem = refl
op_no_sep Lt = refl
op_no_sep op = refl

sep_no_op : (c : ℕ) (k : List ℕ) (op : ExprOp) (m : List ℕ) → Sep c → is_infix op ≡ true → c ∷ k ≡ onto (op_text op) m → ⊥
sep_no_op c k op m s i e = false≢true (sym (op_no_sep op) ∙ ap sep_byte (sym (op_head op m i) ∙ sym (ap head e)) ∙ sep_is c s)

-- no operator ends in a dollar
pub op_no_money : (op : ExprOp) → op_byte op ≡ 36 → ⊥
op_no_money Add h = omega (arith, h)
op_no_money Sub h = omega (arith, h)
op_no_money Mul h = omega (arith, h)
op_no_money Div h = omega (arith, h)
op_no_money Rem h = omega (arith, h)
op_no_money Lt h = omega (arith, h)
op_no_money op h = omega (arith, h)

op_some : (op : ExprOp) → eqb (op_byte op) 0 ≡ false
op_some Add = refl
op_some Sub = refl
op_some Mul = refl
op_some Div = refl
op_some Rem = refl
op_some Lt = refl
op_some op = refl

no_op : (op : ExprOp) (k : List ℕ) → is_infix op ≡ true → [] ≡ onto (op_text op) k → ⊥
no_op op k i e = false≢true (sym (op_some op) ∙ ap (λ c. eqb c 0) (sym (op_head op k i) ∙ sym (ap head e)))

-- an operator at the end of what stands before an operand binds less tightly
pub binds_less : {n : ℕ} (a : List ℕ) (op : ExprOp) (k : List ℕ) → Prefix n a → is_infix op ≡ true → a ≡ onto (op_text op) k → strength op < n
binds_less a op k (nothing e) i h = absurd (no_op op k i (sym e ∙ h))
binds_less a op k (opening c m e s) i h = absurd (sep_no_op c m op k s i (sym e ∙ h))
binds_less {n} a op k (operator o m e j l f) i h = let same : o ≡ op = (op_cancel o op m k j i (sym e ∙ h)).0 in subst (λ p. strength p < n) same l

-- ---- bytes of a name, up to one that is none

abbrev pub IsBlocked : List ℕ → Type 0
IsBlocked [] = Unit {0}
IsBlocked (c ∷ k) = is_name_byte c ≡ false

pub prefix_blocked : {n : ℕ} (a : List ℕ) → Prefix n a → IsBlocked a
prefix_blocked [] p = tt
prefix_blocked (c ∷ k) p = either (is_name_byte c ≡ false) (is_name_byte c) (λ e. absurd (not_final (c ∷ k) p (ap (λ t. t || (eqb c 41 || eqb c 125)) e))) (λ e. e)

onto_append : (x p q : List ℕ) → onto x (p ++ q) ≡ onto x p ++ q
onto_append [] p q = refl
onto_append (b ∷ x) p q = onto_append x (b ∷ p) q

onto_onto : (x p q : List ℕ) → onto (onto x p) q ≡ onto p (x ++ q)
onto_onto [] p q = refl
onto_onto (b ∷ x) p q = onto_onto x (b ∷ p) q

onto_all_names : (x p : List ℕ) → list_all is_name_byte x ≡ true → list_all is_name_byte p ≡ true → list_all is_name_byte (onto x p) ≡ true
onto_all_names [] p h k = k
onto_all_names (b ∷ x) p h k = let q = and_parts (is_name_byte b) (list_all is_name_byte x) h in onto_all_names x (b ∷ p) q.1 (and_from (is_name_byte b) (list_all is_name_byte p) q.0 k)

span : (x y p q : List ℕ) → list_all is_name_byte x ≡ true → list_all is_name_byte y ≡ true → IsBlocked p → IsBlocked q → x ++ p ≡ y ++ q → (x ≡ y) × (p ≡ q)
span [] [] p q h k i j e = (refl, e)
span [] (d ∷ y) p q h k i j e = absurd (false≢true (sym (subst IsBlocked e i) ∙ (and_parts (is_name_byte d) (list_all is_name_byte y) k).0))
span (c ∷ x) [] p q h k i j e = absurd (false≢true (sym (subst IsBlocked (sym e) j) ∙ (and_parts (is_name_byte c) (list_all is_name_byte x) h).0))
span (c ∷ x) (d ∷ y) p q h k i j e =
    let r = span x y p q (and_parts (is_name_byte c) (list_all is_name_byte x) h).1 (and_parts (is_name_byte d) (list_all is_name_byte y) k).1 i j (ap tail e) in
    let same : c ≡ d = ap head e in
    (ap (λ b. b ∷ x) same ∙ ap (λ z. d ∷ z) r.0, r.1)

-- names that end where both are blocked are the same
pub names_cancel : (x y p q : List ℕ) → list_all is_name_byte x ≡ true → list_all is_name_byte y ≡ true → IsBlocked p → IsBlocked q → onto x p ≡ onto y q → (x ≡ y) × (p ≡ q)
names_cancel x y p q h k i j e =
    let r = span (onto x []) (onto y []) p q (onto_all_names x [] h refl) (onto_all_names y [] k refl) i j (sym (onto_append x [] p) ∙ e ∙ onto_append y [] q) in
    let back : onto (onto x []) [] ≡ onto (onto y []) [] = ap (λ z. onto z []) r.0 in
    (sym (onto_onto x [] [] ∙ append-nil x) ∙ back ∙ onto_onto y [] [] ∙ append-nil y, r.1)

-- the last of some bytes of a name is one
pub names_head : (b : ℕ) (x k : List ℕ) (c : ℕ) (m : List ℕ) → list_all is_name_byte (b ∷ x) ≡ true → onto (b ∷ x) k ≡ c ∷ m → is_name_byte c ≡ true
names_head b [] k c m h e = ap is_name_byte (sym (ap head e)) ∙ (and_parts (is_name_byte b) true h).0
names_head b (d ∷ x) k c m h e = names_head d x (b ∷ k) c m (and_parts (is_name_byte b) (list_all is_name_byte (d ∷ x)) h).1 e

-- after bytes of a name is the end of an operand
pub names_final : (b : ℕ) (x k : List ℕ) → list_all is_name_byte (b ∷ x) ≡ true → IsFinal (onto (b ∷ x) k)
names_final b [] k h = ap (λ t. t || (eqb b 41 || eqb b 125)) (and_parts (is_name_byte b) true h).0
names_final b (c ∷ x) k h = names_final c x (b ∷ k) (and_parts (is_name_byte b) (list_all is_name_byte (c ∷ x)) h).1
