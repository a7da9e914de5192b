-- Each tree has an answer.
use Rattle.std.proofs.Common.{◌≡◌, ℕ, zero, suc, ◌+◌, ◌<◌, Bool, true, false, nat_lt, List, [], ◌∷◌, ◌++◌, length, Option, Some, None, Result, Ok, Err, refl, sym, ap, subst, ◌∙◌, arith, append_assoc}
use Rattle.std.proofs.lemmas.List.{append-nil}
use Rattle.std.proofs.lemmas.Bool.Decides.{nat_tests}
use Rattle.serde_json.specs.Data.{Data}
use Rattle.serde_json.specs.Find.{as_array, as_str, get}
use Rattle.aol_shape.specs.declared.limit.LimitName.{LimitName}
use Rattle.aol_model_types.specs.declared.place.Key.{Key}
use Rattle.aol_model_types.specs.declared.place.Key.TheVariants.{KProgram, KMemory, KOrder}
use Rattle.aol_model_types.specs.Places.{PlaceOf, key_text, to_index, to_key, whole}
use Rattle.aol_model_types.specs.Reading.{At, Fault, grammar, ◌>>=◌, ◌>>◌, elements, found, has_keys, integer_at, items_list, list_at, list_of, member_at, needs, object_at, text_at}
use Rattle.aol_csyn.specs.Tree.{Program}
use Rattle.aol_csyn.specs.Form.{IsWellFormed}
use Rattle.aol_cread.specs.Lines.{Line}
use Rattle.aol_cread.specs.Next.{next, nothing_read}
use Rattle.aol_cread.specs.States.{State}
use Rattle.aol_cread.specs.Step.{taken}
use Rattle.aol_cread.specs.Wrong.{IsTextOf, IsFirstWrongLine}
use Rattle.aol_cread.proofs.Complete.{Goes}
use Rattle.aol_cread.proofs.Sound.{Reached}
use Rattle.aol_cread.proofs.Inside.{reached_next, reached_none}
use Rattle.aol_cread.proofs.Live.{lives}
use Rattle.aol_cread.proofs.Programs.{program_ends}
use Rattle.aol_cread.proofs.Shown.{program_lines}
use Rattle.aol_cread.proofs.Texts.{texts, program_texts}
use Rattle.aol_cread.proofs.Whole.{IsRead, nothing_is_read, nothing_taken, read_more, refused}
use Rattle.aol_cexec.specs.Exec as runs
use Rattle.aol_cexec.proofs.Decided.{run_is_decided}
use Rattle.aol_exec.specs.Job.{Job, HasProgram, no_text, no_program, no_rest, job_keys, memory_in, order_at, order_named, program_place, rest_in, text_in}
use Rattle.aol_exec.specs.Lines.{arrays_lines}
use Rattle.aol_exec.specs.Answer.{Answer, wrong, past, long_memory, stuck, ended, first_limit, Runs, opening, JobAnswers, Answers, no_job, of_job}
use Rattle.aol_exec.specs.Decided.{ExecIsDecided}
use Rattle.aol_exec.proofs.OneJob.{one_answer}

-- ---- forms are refused by a place

data Walked {A : Type 0} (r : Result A Fault) : Type 0 where
  gives : (a : A) → r ≡ Ok a → Walked r
  fails : (place : PlaceOf) → r ≡ Err (grammar place) → Walked r

then_walked : {A B : Type 0} (f : A → Result B Fault) → ((a : A) → Walked (f a)) → (r : Result A Fault) → Walked r → Walked (r >>= f)
then_walked f k r (gives a e) = subst (λ q. Walked (q >>= f)) (sym e) (k a)
then_walked f k r (fails p e) = fails p (ap (λ q. q >>= f) e)

after_walked : {A B : Type 0} (s : Result B Fault) → Walked s → (r : Result A Fault) → Walked r → Walked (r >> s)
after_walked s k r (gives a e) = subst (λ q. Walked (q >> s)) (sym e) k
after_walked s k r (fails p e) = fails p (ap (λ q. q >> s) e)

found_walked : {A : Type 0} (at : At) (o : Option A) → Walked (found at o)
found_walked at None = fails (whole at) refl
found_walked at (Some x) = gives x refl

needs_walked : (at : At) (b : Bool) → Walked (needs at b)
needs_walked at true = gives tt refl
needs_walked at false = fails (whole at) refl

member_walked : {A : Type 0} (f : At → Data → Result A Fault) → ((at : At) (d : Data) → Walked (f at d)) → (d : Data) (k : Key) → Walked (member_at [] d k f)
member_walked f each d k = then_walked (f (to_key [] k)) (each (to_key [] k)) (found [] (get (key_text k) d)) (found_walked [] (get (key_text k) d))

text_walked : (at : At) (d : Data) → Walked (text_at at d)
text_walked at d = found_walked at (as_str d)

order_walked : (at : At) (d : Data) → Walked (order_at at d)
order_walked at d = then_walked (λ name. found at (order_named name)) (λ name. found_walked at (order_named name)) (text_at at d) (text_walked at d)

numbers_walked : (at : At) (i : ℕ) (ds : List Data) → Walked (elements integer_at at i ds)
numbers_walked at i [] = gives [] refl
numbers_walked at i (d ∷ ds) =
    then_walked (λ x. elements integer_at at (i + 1) ds >>= (λ xs. Ok (x ∷ xs))) (λ x. then_walked (λ xs. Ok (x ∷ xs)) (λ xs. gives (x ∷ xs) refl) (elements integer_at at (i + 1) ds) (numbers_walked at (i + 1) ds))
    (integer_at (to_index at i) d) (found_walked (to_index at i) _)

list_walked : (at : At) (d : Data) → Walked (list_of integer_at at d)
list_walked at d =
    then_walked (elements integer_at at 0) (numbers_walked at 0) (list_at at d)
    (then_walked (λ ds. Ok (items_list ds)) (λ ds. gives (items_list ds) refl) (found at (as_array d)) (found_walked at (as_array d)))

text_in_walked : (d : Data) → Walked (text_in d)
text_in_walked d = after_walked (member_at [] d KProgram text_at) (member_walked text_at text_walked d KProgram) (object_at job_keys [] [] d) (needs_walked [] (has_keys job_keys [] d))

rest_walked : (d : Data) → Walked (rest_in d)
rest_walked d =
    then_walked (λ memory. member_at [] d KOrder order_at >>= (λ order. Ok (memory, order)))
    (λ memory. then_walked (λ order. Ok (memory, order)) (λ order. gives (memory, order) refl) (member_at [] d KOrder order_at) (member_walked order_at order_walked d KOrder))
    (memory_in d) (member_walked (list_of integer_at) list_walked d KMemory)

-- ---- a text is a program's, or wrong at a line

data Spelled (text : List ℕ) : Type 0 where
  program : (p : Program) → IsTextOf p text → Spelled text
  spoiled : (line : ℕ) → IsFirstWrongLine text line → Spelled text

-- lines that lead on from a state, after lines that lead to it
goes_after : (ls ms : List Line) (s t e : State) → Goes s ls t → Goes s (ls ++ ms) e → Goes t ms e
goes_after [] ms s t e g h = subst (λ x. Goes x ms e) g h
goes_after (l ∷ ls) ms s t e g h =
    let here : Some h.0 ≡ Some g.0 = sym h.1 ∙ g.1 in
    let state : h.0 ≡ g.0 = cc in
    goes_after ls ms g.0 t e g.3 (subst (λ x. Goes x (ls ++ ms) e) state h.3)

reached_by : (ls ks : List Line) (s t : State) → Goes s ls t → Reached s ks → Reached t (ks ++ ls)
reached_by [] ks s t g r = subst (λ x. Reached x (ks ++ [])) g (subst (Reached s) (sym (append-nil ks)) r)
reached_by (l ∷ ls) ks s t g r = subst (Reached t) (append_assoc ks (l ∷ []) ls) (reached_by ls (ks ++ l ∷ []) g.0 t g.3 (reached_next s g.0 l ks g.1 g.2 r))

-- the text is read to its end: it is a program's where no more lines lead to one
module _ (text : List ℕ) (s : State) (line : ℕ) (b : IsRead text s [] line) where
  at_end : (p : Program) → IsWellFormed p → (more : List Line) → program_lines p ≡ b.lines ++ more → Spelled text
  unfolding Rattle.aol_cread.specs.Next.next
  at_end p formed [] e = program p (record { formed = formed; whole = program_texts p ∙ (ap (λ ls. texts ls []) (e ∙ append-nil b.lines) ∙ sym b.cut) })
  at_end p formed (m ∷ ms) e =
      let end = program_ends p formed in
      let on = goes_after b.lines (m ∷ ms) nothing_read s end.last b.goes (subst (λ ls. Goes nothing_read ls end.last) e end.goes) in
      spoiled line (refused text s line [] b (nothing_taken s) (λ _ h. let none : next s m ≡ None = rw h refl in let some = on.1 in absurd (cc)))

  read_to_end : Spelled text
  read_to_end = let v = lives s b.lines (reached_by b.lines [] nothing_read s b.goes reached_none) in at_end v.program v.formed v.more v.lines

not_empty : (x : ℕ) (xs : List ℕ) → x ∷ xs ≡ [] → ⊥
not_empty x xs h = absurd (cc)

one_more : (text : List ℕ) (s : State) (x : ℕ) (xs : List ℕ) (line : ℕ) → IsRead text s (x ∷ xs) line → ((u : State) (r : List ℕ) → IsRead text u r (line + 1) → length r < length (x ∷ xs) → Spelled text)
    → (o : Option (State × List ℕ)) → taken s (x ∷ xs) ≡ o → Spelled text
one_more text s x xs line b rest None e = spoiled line (refused text s line (x ∷ xs) b e (λ none _. not_empty x xs none))
one_more text s x xs line b rest (Some p) e = let m = read_more text s p.0 (x ∷ xs) p.1 line b e in rest p.0 p.1 m.0 m.1

read_on : (n : ℕ) (text : List ℕ) (s : State) (left : List ℕ) (line : ℕ) → IsRead text s left line → length left < n → Spelled text
read_on zero text s left line b h = absurd (omega (arith, h))
read_on (suc n) text s [] line b h = read_to_end text s line b
read_on (suc n) text s (x ∷ xs) line b h = one_more text s x xs line b (λ u r m less. read_on n text u r (line + 1) m (omega (arith, less, h))) (taken s (x ∷ xs)) refl

spelled : (text : List ℕ) → Spelled text
spelled text = read_on (length text + 1) text nothing_read text 1 (nothing_is_read text) (omega arith)

-- ---- a job has an answer

record HasAnswer (j : Job) : Type 0 where
  answer : Answer
  answers : JobAnswers j answer

run_answer : (j : Job) → Runs j → (e : runs.Executed) → runs.Executes j.program j.order (opening j) e → HasAnswer j
run_answer j r (runs.Ended end) h = record { answer = ended (arrays_lines end); answers = (r, record { end = end; ends = h; lines = refl }) }
run_answer j r (runs.Stopped level worker) h = record { answer = stuck level worker; answers = (r, h) }

room_answer : (j : Job) → first_limit j.program ≡ None → (b : Bool) → nat_lt j.program.cells (length j.memory) ≡ b → HasAnswer j
room_answer j h true e = record { answer = long_memory; answers = (h, grind (arith, nat_tests, e)) }
room_answer j h false e = let d = run_is_decided j.program j.order (opening j) in run_answer j (record { within = h; room = grind (arith, nat_tests, e) }) d.answer d.executes

limit_answer : (j : Job) (o : Option LimitName) → first_limit j.program ≡ o → HasAnswer j
limit_answer j (Some passed) e = record { answer = past program_place passed; answers = (refl, e) }
limit_answer j None e = room_answer j e (nat_lt j.program.cells (length j.memory)) refl

-- ---- a tree has an answer

record IsAnswered (d : Data) : Type 0 where
  answer : Answer
  answers : Answers d answer

rest_answer : (d : Data) (p : Program) → HasProgram d p → Walked (rest_in d) → IsAnswered d
rest_answer d p has (gives m e) =
    let j : Job = record { program = p; memory = m.0; order = m.1 } in
    let a = limit_answer j (first_limit p) refl in
    record { answer = a.answer; answers = of_job j (record { program = has; rest = e }) a.answer a.answers }
rest_answer d p has (fails place e) = record { answer = wrong place; answers = no_job place (no_rest p has place e) }

program_answer : (d : Data) (text : List ℕ) → text_in d ≡ Ok text → Spelled text → IsAnswered d
program_answer d text e (program p h) = rest_answer d p (record { text = text; is_text = e; of_program = h }) (rest_walked d)
program_answer d text e (spoiled line h) = record { answer = wrong _; answers = no_job _ (no_program text line e h) }

tree_answer : (d : Data) → Walked (text_in d) → IsAnswered d
tree_answer d (gives text e) = program_answer d text e (spelled text)
tree_answer d (fails place e) = record { answer = wrong place; answers = no_job place (no_text place e) }

pub exec_is_decided : ExecIsDecided
exec_is_decided d = let a = tree_answer d (text_in_walked d) in record { answer = a.answer; answers = a.answers; one = λ other h. one_answer d other a.answer h a.answers }
