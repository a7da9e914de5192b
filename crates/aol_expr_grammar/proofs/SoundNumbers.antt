-- What is read stays so in numbers, indices and comparisons.
use Rattle.std.proofs.Common.{◌≡◌, ℕ, zero, suc, ◌+◌, ◌<◌, ◌≤◌, List, [], ◌∷◌, ◌++◌, length, Bool, true, false, cond, ◌&&◌, eqb, leb, Some, None, refl, sym, ◌∙◌, ap, subst, arith, append_assoc}
use Rattle.std.specs.Prelude.{ltb}
use Rattle.std.specs.List.{list_all}
use Rattle.std.proofs.lemmas.Bool.{and_from, and_parts, ltb-true, le-leb, leb-true, ne_eqb, false≢true}
use Rattle.std.proofs.lemmas.List.{append-nil, length-append}
use Rattle.aol_shape.specs.declared.limit.LimitName.{LimitName}
use Rattle.aol_shape.specs.Texts.{is_digit, are_digits, is_numeral}
use Rattle.aol_expr_tree.specs.declared.op.ExprOp.{ExprOp}
use Rattle.aol_expr_tree.specs.declared.op.ExprOp.TheVariants.{Lt, Le, Eq}
use Rattle.aol_expr_tree.specs.declared.byte.Byte.{Byte}
use Rattle.aol_expr_tree.specs.declared.byte.Byte.TheVariants.{Digit, Equals}
use Rattle.aol_expr_tree.specs.declared.part.Part.{Part}
use Rattle.aol_expr_tree.specs.declared.reader.Numeral.{Numeral}
use Rattle.aol_expr_tree.specs.declared.reader.Waiting.{Waiting}
use Rattle.aol_expr_tree.specs.declared.reader.Level.{Level}
use Rattle.aol_expr_tree.specs.declared.reader.Held.{Held}
use Rattle.aol_expr_tree.specs.declared.reader.Mode.{Mode}
use Rattle.aol_expr_tree.specs.declared.reader.Mode.TheVariants.{Digits, Index, InIndex, Smaller, Equal}
use Rattle.aol_expr_tree.specs.Text.{numeral, dollar, op_text}
use Rattle.aol_expr_tree.specs.Reading.{after_operand, noted, onward, in_digits, new_index, in_index, smaller, equal, compared, waits}
use Rattle.aol_expr_grammar.proofs.Gaps.{Spaced, spaced_text, all_more}
use Rattle.aol_expr_grammar.proofs.ByteKinds.{Says, added}
use Rattle.aol_expr_grammar.proofs.Combined.{Spells, IsComparison, compared_waits}
use Rattle.aol_expr_grammar.proofs.States.{IsAt, Wholed, Ending, AreCounted, numeral_text, IsRead, Fits}
use Rattle.aol_expr_grammar.proofs.SoundBrackets.{fits_when, right_comes}
use Rattle.aol_expr_grammar.proofs.SoundOperands.{after_fits, begun_fits}

-- a token that goes on
pub grown : {P : List ℕ → Type 0} {t f : List ℕ} (b : ℕ) → Ending P t f → Ending P (t ++ b ∷ []) (f ++ b ∷ [])
grown {t = t} b e = record { front = e.front; split = ap (λ g. g ++ b ∷ []) e.split ∙ append_assoc e.front t (b ∷ []); before = e.before }

-- a token that is an operand ends
pub ended : {ls : List Level} {w : Waiting} {t f : List ℕ} → Ending (IsAt ls w) t f → Spells (length ls) 3 (t ∷ []) → Wholed ls w f
ended {t = t} e s = record {
  texts = e.before.texts;
  operand = t ∷ [];
  before = e.before.before;
  spells = s;
  spaced = subst (λ g. Spaced g (e.before.texts ++ t ∷ [])) (sym e.split) (spaced_text e.before.texts e.front t e.before.spaced);
}

pub onward_when : {T : Type 0} (h : Held) (mode : T → Mode) (t : Bool) (x : T) (f : List ℕ) → (t ≡ true → Fits (Some (record { held = h; mode = mode x })) f) → Fits (onward h mode (cond t (Some x) None)) f
onward_when h mode true x f g = g refl
onward_when h mode false x f g = tt

-- ---- digits

pub one_counted : (b : ℕ) → is_digit b ≡ true → AreCounted 1 (b ∷ [])
one_counted b e = record { each = and_from (is_digit b) true e refl; counted = refl; most = omega arith }

pub more_counted : {c : ℕ} {ds : List ℕ} (b : ℕ) → is_digit b ≡ true → c < 19 → AreCounted c ds → AreCounted (c + 1) (ds ++ b ∷ [])
more_counted {c} {ds} b e k a = record { each = all_more is_digit ds b a.each e; counted = omega (arith, length-append ds (b ∷ []), a.counted); most = omega (arith, k) }

pub digits_right : {c : ℕ} {ds : List ℕ} → AreCounted c ds → 1 ≤ c → are_digits ds ≡ true
digits_right {c} {ds} a k = and_from (leb 1 (length ds) && leb (length ds) 19) (list_all is_digit ds) (and_from (leb 1 (length ds)) (leb (length ds) 19) (le-leb 1 (length ds) (omega (arith, a.counted, k))) (le-leb (length ds) 19 (omega (arith, a.counted, a.most)))) a.each

numeral_right : {c : ℕ} (negative : Bool) (ds : List ℕ) → AreCounted c ds → 1 ≤ c → is_numeral (numeral_text negative ds) ≡ true
numeral_right true ds a k = digits_right a k
numeral_right false [] a k = absurd (omega (arith, a.counted, k))
numeral_right false (d ∷ ds) a k =
    let digit : is_digit d ≡ true = (and_parts (is_digit d) (list_all is_digit ds) a.each).0 in
    let least : 48 ≤ d = leb-true 48 d (and_parts (leb 48 d) (leb d 57) digit).0 in
    ap (λ t. are_digits (cond t ds (d ∷ ds))) (ne_eqb d 45 (λ e. absurd (omega (arith, e, least)))) ∙ digits_right a k

numeral_grows : {P : List ℕ → Type 0} {f : List ℕ} (negative : Bool) (ds : List ℕ) (b : ℕ) → Ending P (numeral_text negative ds) f → Ending P (numeral_text negative (ds ++ b ∷ [])) (f ++ b ∷ [])
numeral_grows true ds b e = grown b e
numeral_grows false ds b e = grown b e

noted_fits : (last : Bool) (fits : Bool) (start : ℕ) (limit : LimitName) (h : Held) (p : Part) (k : Byte) (b : ℕ) (f : List ℕ) → Says k b → Wholed h.levels h.waiting f → Fits (after_operand (noted fits start limit h) p k) (f ++ added last k b)
unfolding noted
noted_fits last true start limit h p k b f s a = after_fits last h p k b f s a
noted_fits last false start limit h p k b f s a = after_fits last _ p k b f s a

some_count : (c : ℕ) → eqb c 0 ≡ false → 1 ≤ c
some_count zero e = absurd (false≢true (sym e))
some_count (suc c) e = omega arith

digits_end : (last : Bool) (h : Held) (n : Numeral) (fits : Bool) (limit : LimitName) (p : Part) (k : Byte) (b : ℕ) (f : List ℕ) → Says k b → IsRead h.levels h.waiting (Digits n) f
    → Fits (cond (eqb n.digits.count 0) None (after_operand (noted fits n.start limit h) p k)) (f ++ added last k b)
digits_end last h n fits limit p k b f s r = fits_when (eqb n.digits.count 0) None _ (f ++ added last k b) (λ e. tt) (λ e. noted_fits last fits n.start limit h p k b f s (ended r.1 (record {
  written = numeral (numeral_text n.negative r.0);
  well = numeral_right n.negative r.0 r.2 (some_count n.digits.count e);
  few = omega (arith, r.1.before.before.few);
  binds = omega arith;
  texts_are = λ around. refl;
})))

pub digits_fits : (last : Bool) (h : Held) (n : Numeral) (k : Byte) (b : ℕ) (f : List ℕ) → Says k b → IsRead h.levels h.waiting (Digits n) f → Fits (in_digits h n k b) (f ++ added last k b)
unfolding in_digits
digits_fits last h n Digit b f s r = onward_when h _ (ltb n.digits.count 19) _ (f ++ b ∷ []) (λ e. (r.0 ++ b ∷ [], numeral_grows n.negative r.0 b r.1, more_counted b s (ltb-true n.digits.count 19 e) r.2))
digits_fits last h n k b f s r = digits_end last h n _ _ _ k b f s r

-- ---- indices of the output point

pub new_index_fits : (last : Bool) (h : Held) (k : Byte) (b : ℕ) (f : List ℕ) → Says k b → IsRead h.levels h.waiting Index f → Fits (new_index h k b) (f ++ added last k b)
unfolding new_index
new_index_fits last h Digit b f s r = (b, grown b r, s)
new_index_fits last h k b f s r = tt

pub in_index_fits : (last : Bool) (h : Held) (n : ℕ) (k : Byte) (b : ℕ) (f : List ℕ) → Says k b → IsRead h.levels h.waiting (InIndex n) f → Fits (in_index h n k b) (f ++ added last k b)
unfolding in_index
in_index_fits last h n Digit b f s r = ended (grown b r.1) (record {
  written = dollar (r.0 ∷ b ∷ []);
  well = and_from (is_digit r.0) (is_digit b && true) r.2 (and_from (is_digit b) true s refl);
  few = omega (arith, r.1.before.before.few);
  binds = omega arith;
  texts_are = λ around. refl;
})
in_index_fits last h n k b f s r = after_fits last h _ k b f s (ended r.1 (record { written = dollar (r.0 ∷ []); well = and_from (is_digit r.0) true r.2 refl; few = omega (arith, r.1.before.before.few); binds = omega arith; texts_are = λ around. refl }))

-- ---- comparisons

-- a comparison waits after its left operand
comparison_comes : {ls : List Level} {w : Waiting} {f : List ℕ} (op : ExprOp) (p : Part) (t more : List ℕ) → t ++ more ≡ op_text op → IsComparison op → Ending (Wholed ls w) t f → w.comparison ≡ None → IsAt ls (waits op w p) (f ++ more)
comparison_comes {ls} {w} op p t more s c e n =
    subst (λ g. IsAt ls (waits op w p) g) (sym (ap (λ g. g ++ more) e.split ∙ append_assoc e.front t more))
    (right_comes (waits op w p) (t ++ more) (op_text op) s e.before (λ left h. compared_waits op p c n h e.before.spells))

pub smaller_fits : (last : Bool) (h : Held) (p : Part) (k : Byte) (b : ℕ) (f : List ℕ) → Says k b → IsRead h.levels h.waiting (Smaller p) f → Fits (smaller h p k b) (f ++ added last k b)
unfolding smaller
smaller_fits last h p Equals b f s r = comparison_comes Le p (60 ∷ []) (b ∷ []) (ap (λ c. 60 ∷ c ∷ []) s) tt r.0 r.1
smaller_fits last h p k b f s r = begun_fits last (compared Lt h p) false k b f s (subst (λ g. IsAt h.levels (waits Lt h.waiting p) g) (append-nil f) (comparison_comes Lt p (60 ∷ []) [] refl tt r.0 r.1)) (λ e. absurd (false≢true e))

pub equal_fits : (last : Bool) (h : Held) (p : Part) (k : Byte) (b : ℕ) (f : List ℕ) → Says k b → IsRead h.levels h.waiting (Equal p) f → Fits (equal h p k) (f ++ added last k b)
unfolding equal
equal_fits last h p Equals b f s r = comparison_comes Eq p (61 ∷ []) (b ∷ []) (ap (λ c. 61 ∷ c ∷ []) s) tt r.0 r.1
equal_fits last h p k b f s r = tt
