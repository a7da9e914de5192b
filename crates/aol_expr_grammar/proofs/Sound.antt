-- What the reader of expressions accepts is a spelling.
use Rattle.std.proofs.Common.{◌≡◌, ℕ, ◌+◌, List, [], ◌∷◌, ◌++◌, Bool, true, false, leb, Option, Some, None, refl, sym, ◌∙◌, ap, subst, arith, append_assoc}
use Rattle.std.specs.Option.{option_map, is_some}
use Rattle.std.proofs.lemmas.Bool.{and_from, le-leb, false≢true}
use Rattle.std.proofs.lemmas.List.{append-nil}
use Rattle.aol_shape.specs.declared.limit.LimitName.{LimitName}
use Rattle.aol_shape.specs.Grammar.{IsText}
use Rattle.aol_shape.specs.Machine.{behind, ends, accepts}
use Rattle.aol_expr_tree.specs.declared.byte.Byte.{Byte}
use Rattle.aol_expr_tree.specs.declared.byte.Byte.TheVariants.{Blank}
use Rattle.aol_expr_tree.specs.declared.part.Part.{Part}
use Rattle.aol_expr_tree.specs.declared.reader.Waiting.{Waiting}
use Rattle.aol_expr_tree.specs.declared.reader.Level.{Level}
use Rattle.aol_expr_tree.specs.declared.reader.Held.{Held}
use Rattle.aol_expr_tree.specs.declared.reader.Mode.{Mode}
use Rattle.aol_expr_tree.specs.declared.reader.Mode.TheVariants.{Operand, FirstIndex, Digits, Index, InIndex, InWord, AfterWord, Named, Whole, Smaller, Equal, SumName, InSumName, SumNamed, Bound, InBound, Bounded}
use Rattle.aol_expr_tree.specs.declared.reader.Reader.{Reader}
use Rattle.aol_expr_tree.specs.Bytes.{byte_of}
use Rattle.aol_expr_tree.specs.Text.{brackets, is_well, tokens_in, expr_grammar}
use Rattle.aol_expr_tree.specs.Reading.{recognizer, step, stepped, placed, finished, whole, operand_of}
use Rattle.aol_expr_grammar.proofs.Gaps.{Spaced, from_spaced}
use Rattle.aol_expr_grammar.proofs.ByteKinds.{Says, added, added_one, byte_says}
use Rattle.aol_expr_grammar.proofs.Combined.{Spells, all_take}
use Rattle.aol_expr_grammar.proofs.Contexts.{before_all}
use Rattle.aol_expr_grammar.proofs.States.{Wholed, IsRead, Fits}
use Rattle.aol_expr_grammar.proofs.SoundOperands.{after_fits, begun_fits}
use Rattle.aol_expr_grammar.proofs.SoundNumbers.{digits_fits, new_index_fits, in_index_fits, smaller_fits, equal_fits}
use Rattle.aol_expr_grammar.proofs.SoundNames.{in_word_fits, word_fits, name_whole, name_fits, first_fits}
use Rattle.aol_expr_grammar.proofs.SoundSums.{sum_name_fits, sum_named_fits, in_sum_name_fits, bound_fits, bounded_fits, in_bound_fits}

-- a byte keeps what is read
pub stepped_fits : (last : Bool) (h : Held) (m : Mode) (k : Byte) (b : ℕ) (f : List ℕ) → Says k b → IsRead h.levels h.waiting m f → Fits (stepped h m k b) (f ++ added last k b)
unfolding stepped
stepped_fits last h Operand k b f s r = begun_fits last h false k b f s r (λ e. absurd (false≢true e))
stepped_fits last h FirstIndex k b f s r = first_fits last h k b f s r
stepped_fits last h (Digits n) k b f s r = digits_fits last h n k b f s r
stepped_fits last h Index k b f s r = new_index_fits last h k b f s r
stepped_fits last h (InIndex n) k b f s r = in_index_fits last h n k b f s r
stepped_fits last h (InWord x) k b f s r = in_word_fits last h x k b f s r
stepped_fits last h (AfterWord w) k b f s r = word_fits last h w k b f s r
stepped_fits last h (Named x) k b f s r = name_fits last h x k b f s r
stepped_fits last h (Whole p) k b f s r = after_fits last h p k b f s r
stepped_fits last h (Smaller p) k b f s r = smaller_fits last h p k b f s r
stepped_fits last h (Equal p) k b f s r = equal_fits last h p k b f s r
stepped_fits last h SumName k b f s r = sum_name_fits last h k b f s r
stepped_fits last h (InSumName x) k b f s r = in_sum_name_fits last h x k b f s r
stepped_fits last h (SumNamed x) k b f s r = sum_named_fits last h x k b f s r
stepped_fits last h (Bound x) k b f s r = bound_fits last h x k b f s r
stepped_fits last h (InBound x n) k b f s r = in_bound_fits last h x n k b f s r
stepped_fits last h (Bounded x n) k b f s r = bounded_fits last h x n k b f s r

placed_fits : (place : ℕ) (o : Option Reader) (f : List ℕ) → Fits o f → Fits (option_map (placed place) o) f
placed_fits place None f r = tt
placed_fits place (Some s) f r = r

step_fits : (r : Reader) (b : ℕ) (f : List ℕ) → Fits (Some r) f → Fits (step r b) (f ++ b ∷ [])
unfolding step
step_fits r b f h = placed_fits (r.held.place + 1) (stepped r.held r.mode (byte_of b) b) (f ++ b ∷ []) (subst (λ t. Fits (stepped r.held r.mode (byte_of b) b) (f ++ t)) (added_one (byte_of b) b) (stepped_fits false r.held r.mode (byte_of b) b f (byte_says b) h))

behind_fits : (o : Option Reader) (f bytes : List ℕ) → Fits o f → Fits (behind recognizer o bytes) (f ++ bytes)
behind_fits None f bytes h = tt
behind_fits (Some r) f [] h = subst (Fits (Some r)) (sym (append-nil f)) h
behind_fits (Some r) f (b ∷ bytes) h = subst (Fits (behind recognizer (step r b) bytes)) (append_assoc f (b ∷ []) bytes) (behind_fits (step r b) (f ++ b ∷ []) bytes (step_fits r b f h))

-- what is read of a text
pub read_fits : (text : List ℕ) → Fits (behind recognizer (Some recognizer.start) text) text
read_fits text = behind_fits (Some recognizer.start) [] text (record { texts = []; before = before_all; spaced = refl })

-- a whole operand where no bracket is open is a text
whole_text : (w : Waiting) (f : List ℕ) → Wholed [] w f → IsText expr_grammar f
whole_text w f a =
    let s : Spells 0 0 (a.before.left ++ a.operand) = all_take a.before.waits a.spells in
    let same : a.texts ++ a.operand ≡ a.before.left ++ a.operand = ap (λ t. t ++ a.operand) (a.before.texts_are ∙ ap (λ t. t ++ a.before.left) a.before.levels) in (
      s.written,
      record {
        well = and_from (is_well s.written) (leb (brackets s.written) 100) s.well (le-leb (brackets s.written) 100 (omega (arith, s.few)));
        spaced = from_spaced f (tokens_in 1 s.written) (subst (Spaced f) (same ∙ sym (s.texts_are 1)) a.spaced);
      },
    )

-- what a text says that ends so, as if a blank stood there
abbrev said : Option Reader → Option (Option (ℕ × LimitName) × Part)
said None = None
said (Some s) = whole s.held s.held.levels (operand_of s.mode)

finished_is : (r : Reader) → finished r ≡ said (stepped r.held r.mode Blank 32)
unfolding finished
finished_is r = refl

-- a mode that ends a text holds a whole operand
mode_whole : (m : Mode) (w : Waiting) (f : List ℕ) → IsRead [] w m f → is_some (operand_of m) ≡ true → Wholed [] w f
mode_whole (Whole p) w f r e = r
mode_whole (Named x) w f r e = name_whole [] w x f r
mode_whole m w f r e = absurd (false≢true e)

whole_here : (h : Held) (m : Mode) (f : List ℕ) → IsRead [] h.waiting m f → (o : Option Part) → operand_of m ≡ o → is_some (whole h [] o) ≡ true → IsText expr_grammar f
unfolding whole
whole_here h m f r None i e = absurd (false≢true e)
whole_here h m f r (Some p) i e = whole_text h.waiting f (mode_whole m h.waiting f r (ap is_some i))

not_inside : (h : Held) (l : Level) (ls : List Level) (o : Option Part) → is_some (whole h (l ∷ ls) o) ≡ true → ⊥
unfolding whole
not_inside h l ls None e = false≢true e
not_inside h l ls (Some p) e = false≢true e

whole_said : (h : Held) (ls : List Level) (m : Mode) (f : List ℕ) → IsRead ls h.waiting m f → is_some (whole h ls (operand_of m)) ≡ true → IsText expr_grammar f
whole_said h [] m f r e = whole_here h m f r (operand_of m) refl e
whole_said h (l ∷ ls) m f r e = absurd (not_inside h l ls (operand_of m) e)

state_said : (o : Option Reader) (f : List ℕ) → Fits o f → is_some (said o) ≡ true → IsText expr_grammar f
state_said None f g e = absurd (false≢true e)
state_said (Some s) f g e = whole_said s.held s.held.levels s.mode f g e

-- where a text may end, it is one: the end, read as a blank, adds nothing
ends_text : (o : Option Reader) (f : List ℕ) → Fits o f → ends recognizer o ≡ true → IsText expr_grammar f
ends_text None f g e = absurd (false≢true e)
ends_text (Some r) f g e = state_said (stepped r.held r.mode Blank 32) f
    (subst (Fits (stepped r.held r.mode Blank 32)) (append-nil f) (stepped_fits true r.held r.mode Blank 32 f refl g))
    (sym (ap is_some (finished_is r)) ∙ e)

-- the reader accepts only texts
pub sound : (text : List ℕ) → accepts recognizer text ≡ true → IsText expr_grammar text
sound text e = ends_text (behind recognizer (Some recognizer.start) text) text (read_fits text) e
