-- What is read stays so between a sum's bracket and its term.
use Rattle.std.proofs.Common.{◌≡◌, ℕ, List, [], ◌∷◌, ◌++◌, length, Bool, true, false, cond, Option, Some, None, refl, sym, subst, arith, append_assoc}
use Rattle.std.specs.Prelude.{ltb}
use Rattle.std.specs.Option.{is_some}
use Rattle.std.proofs.lemmas.Bool.{ltb-true, false≢true}
use Rattle.aol_shape.specs.declared.limit.LimitName.{LimitName}
use Rattle.aol_shape.specs.Texts.{is_blank}
use Rattle.aol_expr_tree.specs.declared.byte.Byte.{Byte}
use Rattle.aol_expr_tree.specs.declared.byte.Byte.TheVariants.{Blank, Digit, Letter, Comma}
use Rattle.aol_expr_tree.specs.declared.letters.Keyword.{Keyword}
use Rattle.aol_expr_tree.specs.declared.reader.Numeral.{Numeral}
use Rattle.aol_expr_tree.specs.declared.reader.Waiting.{Waiting}
use Rattle.aol_expr_tree.specs.declared.reader.Bracket.TheVariants.{Term}
use Rattle.aol_expr_tree.specs.declared.reader.Level.{Level}
use Rattle.aol_expr_tree.specs.declared.reader.Held.{Held}
use Rattle.aol_expr_tree.specs.declared.reader.Mode.TheVariants.{SumName, InSumName, SumNamed, Bound, InBound, Bounded}
use Rattle.aol_expr_tree.specs.Words.{word_of}
use Rattle.aol_expr_tree.specs.Reading.{noted, inside, sum_name, sum_named, in_sum_name, bound, bounded, in_bound}
use Rattle.aol_expr_grammar.proofs.Gaps.{Spaced, spaced_text}
use Rattle.aol_expr_grammar.proofs.ByteKinds.{Says, added, spaced_added}
use Rattle.aol_expr_grammar.proofs.OpenBrackets.{term_opens}
use Rattle.aol_expr_grammar.proofs.Contexts.{before_inside}
use Rattle.aol_expr_grammar.proofs.States.{Worded, Ending, sum_texts, IsRead, Fits}
use Rattle.aol_expr_grammar.proofs.SoundBrackets.{fits_when, byte_behind}
use Rattle.aol_expr_grammar.proofs.SoundOperands.{letter_begins}
use Rattle.aol_expr_grammar.proofs.SoundNumbers.{grown, onward_when, one_counted, more_counted, digits_right}
use Rattle.aol_expr_grammar.proofs.SoundNames.{letters_more, letter_is, digit_is, name_right}

module _ {ls : List Level} {w : Waiting} {f : List ℕ} where
  -- a blank after what a sum begins with
  sum_blank : (last : Bool) (more : List (List ℕ)) (b : ℕ) → is_blank b ≡ true → Worded (sum_texts more) ls w f → Worded (sum_texts more) ls w (f ++ added last Blank b)
  sum_blank last more b e r = record { texts = r.texts; before = r.before; room = r.room; spaced = spaced_added last (r.texts ++ sum_texts more) f b r.spaced e }

  -- a byte after it
  sum_byte : (more : List (List ℕ)) (b c : ℕ) → b ≡ c → Worded (sum_texts more) ls w f → Worded (sum_texts (more ++ (c ∷ []) ∷ [])) ls w (f ++ b ∷ [])
  sum_byte more b c e r = record { texts = r.texts; before = r.before; room = r.room; spaced = subst (Spaced (f ++ b ∷ [])) (append_assoc r.texts (sum_texts more) ((c ∷ []) ∷ [])) (byte_behind (r.texts ++ sum_texts more) f b c e r.spaced) }

  -- a token after it
  sum_token : (more : List (List ℕ)) (t : List ℕ) → Ending (Worded (sum_texts more) ls w) t f → Worded (sum_texts (more ++ t ∷ [])) ls w f
  sum_token more t e = record {
    texts = e.before.texts;
    before = e.before.before;
    room = e.before.room;
    spaced = subst (λ g. Spaced g (e.before.texts ++ sum_texts (more ++ t ∷ []))) (sym e.split) (subst (Spaced (e.front ++ t)) (append_assoc e.before.texts (sum_texts more) (t ∷ [])) (spaced_text (e.before.texts ++ sum_texts more) e.front t e.before.spaced));
  }

pub sum_name_fits : (last : Bool) (h : Held) (k : Byte) (b : ℕ) (f : List ℕ) → Says k b → IsRead h.levels h.waiting SumName f → Fits (sum_name h k b) (f ++ added last k b)
unfolding sum_name
sum_name_fits last h Letter b f s r = (record { front = f; split = refl; before = r }, letter_begins b s)
sum_name_fits last h Blank b f s r = sum_blank last [] b s r
sum_name_fits last h k b f s r = tt

pub sum_named_fits : (last : Bool) (h : Held) (x : List ℕ) (k : Byte) (b : ℕ) (f : List ℕ) → Says k b → IsRead h.levels h.waiting (SumNamed x) f → Fits (sum_named h x k) (f ++ added last k b)
unfolding sum_named
sum_named_fits last h x Comma b f s r = (sum_byte (x ∷ []) b 44 s r.0, r.1)
sum_named_fits last h x Blank b f s r = (sum_blank last (x ∷ []) b s r.0, r.1)
sum_named_fits last h x k b f s r = tt

none_is : (o : Option Keyword) → is_some o ≡ false → o ≡ None
none_is None e = refl
none_is (Some w) e = absurd (false≢true (sym e))

sum_name_ends : (last : Bool) (h : Held) (x : List ℕ) (k : Byte) (b : ℕ) (f : List ℕ) → Says k b → IsRead h.levels h.waiting (InSumName x) f → Fits (cond (is_some (word_of x)) None (sum_named h x k)) (f ++ added last k b)
sum_name_ends last h x k b f s r = fits_when (is_some (word_of x)) None (sum_named h x k) (f ++ added last k b) (λ e. tt) (λ e. sum_named_fits last h x k b f s (sum_token [] x r.0, name_right x r.1 (none_is (word_of x) e)))

pub in_sum_name_fits : (last : Bool) (h : Held) (x : List ℕ) (k : Byte) (b : ℕ) (f : List ℕ) → Says k b → IsRead h.levels h.waiting (InSumName x) f → Fits (in_sum_name h x k b) (f ++ added last k b)
unfolding in_sum_name
in_sum_name_fits last h x Letter b f s r = onward_when h InSumName (ltb (length x) 64) (x ++ b ∷ []) (f ++ b ∷ []) (λ e. (grown b r.0, letters_more x b (letter_is b s) (ltb-true (length x) 64 e) r.1))
in_sum_name_fits last h x Digit b f s r = onward_when h InSumName (ltb (length x) 64) (x ++ b ∷ []) (f ++ b ∷ []) (λ e. (grown b r.0, letters_more x b (digit_is b s) (ltb-true (length x) 64 e) r.1))
in_sum_name_fits last h x k b f s r = sum_name_ends last h x k b f s r

pub bound_fits : (last : Bool) (h : Held) (x : List ℕ) (k : Byte) (b : ℕ) (f : List ℕ) → Says k b → IsRead h.levels h.waiting (Bound x) f → Fits (bound h x k b) (f ++ added last k b)
unfolding bound
bound_fits last h x Digit b f s r = (b ∷ [], record { front = f; split = refl; before = r.0 }, one_counted b s, omega arith, r.1)
bound_fits last h x Blank b f s r = (sum_blank last (x ∷ (44 ∷ []) ∷ []) b s r.0, r.1)
bound_fits last h x k b f s r = tt

pub bounded_fits : (last : Bool) (h : Held) (x : List ℕ) (n : ℕ) (k : Byte) (b : ℕ) (f : List ℕ) → Says k b → IsRead h.levels h.waiting (Bounded x n) f → Fits (bounded h x n k) (f ++ added last k b)
unfolding bounded inside
bounded_fits last h x n Comma b f s r =
    let own : List (List ℕ) = sum_texts (x ∷ (44 ∷ []) ∷ r.0 ∷ (44 ∷ []) ∷ []) in
    let c : Worded own h.levels h.waiting (f ++ b ∷ []) = sum_byte (x ∷ (44 ∷ []) ∷ r.0 ∷ []) b 44 s r.1 in
    record { texts = c.texts ++ own; before = before_inside (Term x n) h.around own c.room c.before (term_opens (length h.levels) x r.0 r.3 r.2); spaced = c.spaced }
bounded_fits last h x n Blank b f s r = (r.0, sum_blank last (x ∷ (44 ∷ []) ∷ r.0 ∷ []) b s r.1, r.2, r.3)
bounded_fits last h x n k b f s r = tt

noted_bounded : (last : Bool) (fits : Bool) (start : ℕ) (limit : LimitName) (h : Held) (x : List ℕ) (n : ℕ) (k : Byte) (b : ℕ) (f : List ℕ) → Says k b → IsRead h.levels h.waiting (Bounded x n) f → Fits (bounded (noted fits start limit h) x n k) (f ++ added last k b)
unfolding noted
noted_bounded last true start limit h x n k b f s r = bounded_fits last h x n k b f s r
noted_bounded last false start limit h x n k b f s r = bounded_fits last _ x n k b f s r

pub in_bound_fits : (last : Bool) (h : Held) (x : List ℕ) (n : Numeral) (k : Byte) (b : ℕ) (f : List ℕ) → Says k b → IsRead h.levels h.waiting (InBound x n) f → Fits (in_bound h x n k b) (f ++ added last k b)
unfolding in_bound
in_bound_fits last h x n Digit b f s r = onward_when h _ (ltb n.digits.count 19) _ (f ++ b ∷ []) (λ e. (r.0 ++ b ∷ [], grown b r.1, more_counted b s (ltb-true n.digits.count 19 e) r.2, omega arith, r.4))
in_bound_fits last h x n k b f s r = noted_bounded last _ _ _ h x _ k b f s (r.0, sum_token (x ∷ (44 ∷ []) ∷ []) r.0 r.1, digits_right r.2 r.3, r.4)
