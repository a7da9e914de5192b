-- A tree has no second answer.
use Rattle.std.proofs.Common.{◌≡◌, ℕ, ℤ, Some, None, List, Result, Ok, Err, refl, sym, ap, subst, ◌∙◌, arith}
use Rattle.serde_json.specs.Data.{Data}
use Rattle.aol_shape.specs.declared.limit.LimitName.{LimitName}
use Rattle.aol_model_types.specs.Places.{PlaceOf}
use Rattle.aol_model_types.specs.Reading.{Fault, grammar}
use Rattle.aol_csyn.specs.Tree.{Program}
use Rattle.aol_csyn.specs.Meaning.{Arrays}
use Rattle.aol_csyn.proofs.Programs.{one_program}
use Rattle.aol_cread.specs.Wrong.{IsTextOf, IsFirstWrongLine}
use Rattle.aol_cexec.specs.declared.order.Order.{Order}
use Rattle.aol_cexec.specs.Exec.{Executed, Ended, Stopped, Executes}
use Rattle.aol_cexec.proofs.Decided.{run_is_decided}
use Rattle.aol_exec.specs.Job.{Job, HasProgram, Asks, IsWrongAt, no_text, no_program, no_rest, line_place, text_in, rest_in}
use Rattle.aol_exec.specs.Lines.{arrays_lines}
use Rattle.aol_exec.specs.Answer.{Answer, wrong, past, long_memory, stuck, ended, first_limit, opening, JobAnswers, Answers, no_job, of_job}
use Rattle.aol_exec.proofs.FirstLines.{one_wrong_line}

-- ---- what a tree asks for

-- a reading gives one thing
one_read : {A : Type 0} (r : Result A Fault) (a b : A) → r ≡ Ok a → r ≡ Ok b → a ≡ b
one_read r a b h g = cc

one_fault : {A : Type 0} (r : Result A Fault) (p q : PlaceOf) → r ≡ Err (grammar p) → r ≡ Err (grammar q) → p ≡ q
one_fault r p q h g = cc

not_both : {A : Type 0} (r : Result A Fault) (a : A) (p : PlaceOf) → r ≡ Ok a → r ≡ Err (grammar p) → ⊥
not_both r a p h g = cc

one_text : (p q : Program) (t u : List ℕ) → t ≡ u → IsTextOf p t → IsTextOf q u → p ≡ q
one_text p q t u e h g = one_program p q h.formed g.formed (h.whole ∙ (e ∙ sym g.whole))

one_has : (d : Data) (p q : Program) → HasProgram d p → HasProgram d q → p ≡ q
one_has d p q h g = one_text p q h.text g.text (one_read (text_in d) h.text g.text h.is_text g.is_text) h.of_program g.of_program

abbrev job_with : Program → List ℤ × Order → Job
job_with p r = record { program = p; memory = r.0; order = r.1 }

one_job : (d : Data) (j k : Job) → Asks d j → Asks d k → j ≡ k
one_job d j k h g =
    let programs = one_has d j.program k.program h.program g.program in
    let rests = one_read (rest_in d) (j.memory, j.order) (k.memory, k.order) h.rest g.rest in
    ap (λ p. job_with p (j.memory, j.order)) programs ∙ ap (λ r. job_with k.program r) rests

-- no program has the text that is wrong at a line
not_program : (d : Data) (p : Program) (text : List ℕ) (line : ℕ) → HasProgram d p → text_in d ≡ Ok text → IsFirstWrongLine text line → ⊥
not_program d p text line h is w = w.no_program p (subst (IsTextOf p) (one_read (text_in d) h.text text h.is_text is) h.of_program)

not_wrong : (d : Data) (j : Job) (place : PlaceOf) → Asks d j → IsWrongAt d place → ⊥
not_wrong d j _ h (no_text place h') = not_both (text_in d) h.program.text place h.program.is_text h'
not_wrong d j _ h (no_program text line is w) = not_program d j.program text line h.program is w
not_wrong d j _ h (no_rest p has place r) = not_both (rest_in d) (j.memory, j.order) place h.rest r

line_of_text : (text other : List ℕ) (k n : ℕ) → text ≡ other → IsFirstWrongLine text k → IsFirstWrongLine other n → k ≡ n
line_of_text text other k n e w v = one_wrong_line other k n (subst (λ t. IsFirstWrongLine t k) e w) v

one_place : (d : Data) (p q : PlaceOf) → IsWrongAt d p → IsWrongAt d q → p ≡ q
one_place d _ _ (no_text p h) (no_text q g) = one_fault (text_in d) p q h g
one_place d _ _ (no_text p h) (no_program text line is w) = absurd (not_both (text_in d) text p is h)
one_place d _ _ (no_text p h) (no_rest o has q r) = absurd (not_both (text_in d) has.text p has.is_text h)
one_place d _ _ (no_program text line is w) (no_text q g) = absurd (not_both (text_in d) text q is g)
one_place d _ _ (no_program text line is w) (no_program other more is' v) = ap line_place (line_of_text text other line more (one_read (text_in d) text other is is') w v)
one_place d _ _ (no_program text line is w) (no_rest o has q r) = absurd (not_program d o text line has is w)
one_place d _ _ (no_rest o has p r) (no_text q g) = absurd (not_both (text_in d) has.text q has.is_text g)
one_place d _ _ (no_rest o has p r) (no_program text line is w) = absurd (not_program d o text line has is w)
one_place d _ _ (no_rest o has p r) (no_rest o' has' q s) = one_fault (rest_in d) p q r s

-- ---- what a job is answered

one_limit : (p : Program) (a b : LimitName) → first_limit p ≡ Some a → first_limit p ≡ Some b → a ≡ b
one_limit p a b h g = cc

not_past : (p : Program) (a : LimitName) → first_limit p ≡ None → first_limit p ≡ Some a → ⊥
not_past p a h g = cc

-- a run has one end
one_end : (j : Job) (a b : Executed) → Executes j.program j.order (opening j) a → Executes j.program j.order (opening j) b → a ≡ b
one_end j a b h g = let d = run_is_decided j.program j.order (opening j) in d.one a h ∙ sym (d.one b g)

one_arrays : (a b : Arrays) → Ended a ≡ Ended b → a ≡ b
one_arrays a b e = cc

not_stopped : (a : Arrays) (l w : ℕ) → Ended a ≡ Stopped l w → ⊥
not_stopped a l w e = cc

one_stop : (l w k v : ℕ) → Stopped l w ≡ Stopped k v → stuck l w ≡ stuck k v
one_stop l w k v e = let ls : l ≡ k = cc in let ws : w ≡ v = cc in cc

pub one_job_answer : (j : Job) (a b : Answer) → JobAnswers j a → JobAnswers j b → a ≡ b
one_job_answer j (wrong p) b h g = elim h [ ]
one_job_answer j (past p n) (wrong q) h g = elim g [ ]
one_job_answer j (past p n) (past q m) h g = let places = h.0 ∙ sym g.0 in let names = one_limit j.program n m h.1 g.1 in cc
one_job_answer j (past p n) long_memory h g = absurd (not_past j.program n g.0 h.1)
one_job_answer j (past p n) (stuck l w) h g = let r = g.0 in absurd (not_past j.program n r.within h.1)
one_job_answer j (past p n) (ended t) h g = let r = g.0 in absurd (not_past j.program n r.within h.1)
one_job_answer j long_memory (wrong q) h g = elim g [ ]
one_job_answer j long_memory (past q m) h g = absurd (not_past j.program m h.0 g.1)
one_job_answer j long_memory long_memory h g = refl
one_job_answer j long_memory (stuck l w) h g = let r = g.0 in let room = r.room in let more = h.1 in absurd (omega (arith, room, more))
one_job_answer j long_memory (ended t) h g = let r = g.0 in let room = r.room in let more = h.1 in absurd (omega (arith, room, more))
one_job_answer j (stuck l w) (wrong q) h g = elim g [ ]
one_job_answer j (stuck l w) (past q m) h g = let r = h.0 in absurd (not_past j.program m r.within g.1)
one_job_answer j (stuck l w) long_memory h g = let r = h.0 in let room = r.room in let more = g.1 in absurd (omega (arith, room, more))
one_job_answer j (stuck l w) (stuck k v) h g = one_stop l w k v (one_end j (Stopped l w) (Stopped k v) h.1 g.1)
one_job_answer j (stuck l w) (ended t) h g = let e = g.1 in absurd (not_stopped e.end l w (one_end j (Ended e.end) (Stopped l w) e.ends h.1))
one_job_answer j (ended t) (wrong q) h g = elim g [ ]
one_job_answer j (ended t) (past q m) h g = let r = h.0 in absurd (not_past j.program m r.within g.1)
one_job_answer j (ended t) long_memory h g = let r = h.0 in let room = r.room in let more = g.1 in absurd (omega (arith, room, more))
one_job_answer j (ended t) (stuck l w) h g = let e = h.1 in absurd (not_stopped e.end l w (one_end j (Ended e.end) (Stopped l w) e.ends g.1))
one_job_answer j (ended t) (ended u) h g =
    let e = h.1 in let f = g.1 in
    ap ended (e.lines ∙ (ap arrays_lines (one_arrays e.end f.end (one_end j (Ended e.end) (Ended f.end) e.ends f.ends)) ∙ sym f.lines))

pub one_answer : (d : Data) (a b : Answer) → Answers d a → Answers d b → a ≡ b
one_answer d _ _ (no_job p h) (no_job q g) = ap wrong (one_place d p q h g)
one_answer d _ _ (no_job p h) (of_job j g b k) = absurd (not_wrong d j p g h)
one_answer d _ _ (of_job j h a k) (no_job q g) = absurd (not_wrong d j q h g)
one_answer d _ _ (of_job j h a f) (of_job k g b e) = one_job_answer k a b (subst (λ i. JobAnswers i a) (one_job d j k h g) f) e
