-- A line is its first word and then each further word after a blank.
use Rattle.std.proofs.Common.{◌≡◌, List, ℕ, [], ◌∷◌, ◌++◌, map, take, length, codes, refl, sym, ◌∙◌, ap, append_assoc, append-nil}
use Rattle.std.specs.List.{flat_map}
use Rattle.std.specs.Prelude.{Result, Ok, Err, IfOk, OnOk}
use Rattle.aol_shape.specs.Lines.{line, spaced}
use Rattle.aol_shape.specs.declared.memory.NoMemory.{NoMemory}
use Rattle.aol_lines.specs.declared.line.Word.{Word}
use Rattle.aol_lines.specs.declared.reply.Reply.{Reply}
use Rattle.aol_lines.specs.declared.status.StatusKind.{StatusKind}
use Rattle.aol_lines.specs.Status.{word_of}
use Rattle.aol_lines.specs.Line.{word_text, blank_before, after_blanks}
use Rattle.aol_lines.specs.Reply.{reply, refusal, reply_of}

-- a line by its words
pub spaced_after : (first : List ℕ) (words : List (List ℕ)) → spaced (first ∷ words) ≡ first ++ after_blanks words
spaced_after first [] = sym (append-nil first)
spaced_after first (w ∷ words) =
    ap (λ t. (first ++ codes " ") ++ t) (spaced_after w words)
    ∙ append_assoc first (codes " ") (w ++ after_blanks words)
    ∙ ap (λ t. first ++ t) (sym (append_assoc (codes " ") w (after_blanks words)))

-- some words, and then others
pub after_both : (first others : List (List ℕ)) → after_blanks (first ++ others) ≡ after_blanks first ++ after_blanks others
after_both [] others = refl
after_both (w ∷ first) others = ap (λ t. blank_before w ++ t) (after_both first others) ∙ sym (append_assoc (blank_before w) (after_blanks first) (after_blanks others))

-- a text to which some words were added and then others
pub added_both : (before between text : List ℕ) (first others : List (List ℕ)) → between ≡ before ++ after_blanks first → text ≡ between ++ after_blanks others → text ≡ before ++ after_blanks (first ++ others)
added_both before between text first others a b =
    b ∙ ap (λ t. t ++ after_blanks others) a ∙ append_assoc before (after_blanks first) (after_blanks others) ∙ ap (λ t. before ++ t) (sym (after_both first others))

-- the reply that was built so is the refusal
pub built : (status : StatusKind) (words : List (List ℕ)) (first all : List ℕ) (r : Result Reply NoMemory) → first ≡ word_of status → all ≡ first ++ after_blanks words
    → IfOk r (λ x. reply_of x ≡ reply status (line all)) → IfOk r (λ x. reply_of x ≡ refusal status words)
built status words first all (Ok x) a b c = c ∙ ap (λ t. reply status (line t)) (b ∙ ap (λ w. w ++ after_blanks words) a ∙ sym (spaced_after (word_of status) words))
built status words first all (Err e) a b c = c
