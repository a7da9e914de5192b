-- The walk of a tree.
use Rattle.std.proofs.Common.{◌≡◌, ℕ, ℤ, suc, ◌∷◌, [], ◌++◌, List, length, map, drop, Some, Result, Ok, Err, String, Global, sym, ap, subst, ◌∙◌, string_bytes, refl}
use Rattle.serde_json.specs.Data.{Data}
use Rattle.serde_json.specs.Find.{as_array, as_object, get}
use Rattle.serde_json.specs.View.{view, items_of, items_view, members_view}
use Rattle.serde_json.specs.declared.value.Value.{Value}
use Rattle.aol_model_types.specs.declared.place.Key.TheVariants.{KMemory}
use Rattle.aol_model_types.specs.Places.{key_text, to_key}
use Rattle.aol_model_types.specs.Reading.{At, Fault, ◌>>=◌, elements, found, integer_at, list_of, items_list, list_at, members_list, member_count}
use Rattle.aol_csyn.specs.declared.program.CProgram.{CProgram}
use Rattle.aol_csyn.specs.Tree.{Program}
use Rattle.aol_cread.specs.declared.read.ReadCRefused.{ReadCRefused}
use Rattle.aol_cread.specs.declared.read.ReadCRefused.TheVariants as texts
use Rattle.aol_cread.specs.Wrong.{IfAt, IsFirstWrongLine}
use Rattle.aol_exec.specs.declared.job.JobRefused.{JobRefused}
use Rattle.aol_exec.specs.declared.job.JobRefused.TheVariants.{Grammar, Limit, LongMemory, Stuck, NoMemory}
use Rattle.aol_exec.specs.Job.{Job, Asks, HasProgram, text_in, memory_in, rest_in, no_text, no_program, no_rest}
use Rattle.aol_exec.specs.Answer.{Answers, JobAnswers, ended, past, long_memory, stuck, no_job, of_job}
use Rattle.aol_exec.specs.Results.{Faults, Gives, IsNoJob, IfAnswered, IfCause, text_refusal}

members_list-members_view : (es : List (String Global × Value)) → length (members_list (members_view es)) ≡ length es
members_list-members_view [] = refl
members_list-members_view (e ∷ es) = ap suc (members_list-members_view es)

-- how many members an object has that was found
pub counted : (d : Data) (es : List (String Global × Value)) → Some (members_view es) ≡ as_object d → length es ≡ member_count d
counted d es e = rw (← e) (sym (members_list-members_view es))

items_list-items_of : (ds : List Data) → items_list (items_of ds) ≡ ds
items_list-items_of [] = refl
items_list-items_of (d ∷ ds) = ap (λ (es : List Data). d ∷ es) (items_list-items_of ds)

-- the elements of an array that was found
pub listed : (at : At) (d : Data) (vs : List Value) → Some (items_view vs) ≡ as_array d → list_at at d ≡ Ok (map view vs)
listed at d vs e = rw (← e) (ap (λ (es : List Data). Ok es) (items_list-items_of (map view vs)))

-- ---- numbers

-- what was read before, and what is still read
abbrev pub with_front : List ℤ → Result (List ℤ) Fault → Result (List ℤ) Fault
with_front front read = read >>= (λ zs. Ok (front ++ zs))

-- what is read from element i on, after what was read before
abbrev pub numbers_from : List Value → List ℤ → ℕ → Result (List ℤ) Fault
numbers_from trees front i = with_front front (elements integer_at (to_key [] KMemory) i (map view (drop i trees)))

-- the numbers of an array that was found
pub memory_read : (d x : Data) (vs : List Value) (r : Result (List ℤ) JobRefused) → found [] (get (key_text KMemory) d) ≡ Ok x → Some (items_view vs) ≡ as_array x
    → Gives r (elements integer_at (to_key [] KMemory) 0 (map view vs)) → Gives r (memory_in d)
memory_read d x vs r f e g =
    let at = to_key [] KMemory in
    let whole : memory_in d ≡ list_of integer_at at x = ap (λ (q : Result Data Fault). q >>= list_of integer_at at) f in
    let list : list_of integer_at at x ≡ elements integer_at at 0 (map view vs) = ap (λ (q : Result (List Data) Fault). q >>= elements integer_at at 0) (listed at x vs e) in
    subst (Gives r) (sym (whole ∙ list)) g

-- ---- refusals

-- a fault on the way to the program's text
pub no_text_refused : (d : Data) (e : JobRefused) → Faults e (text_in d) → IfCause e (IsNoJob d)
no_text_refused d (Grammar place) h = no_text place h
no_text_refused d (Limit place passed) h = h
no_text_refused d LongMemory h = h
no_text_refused d (Stuck level worker) h = h
no_text_refused d NoMemory h = tt

-- a fault after a program
pub no_rest_refused : (d : Data) (p : Program) → HasProgram d p → (e : JobRefused) → Faults e (rest_in d) → IfCause e (IsNoJob d)
no_rest_refused d p has (Grammar place) h = no_rest p has place h
no_rest_refused d p has (Limit place passed) h = h
no_rest_refused d p has LongMemory h = h
no_rest_refused d p has (Stuck level worker) h = h
no_rest_refused d p has NoMemory h = tt

-- a text that is no program's
pub no_program_refused : (d : Data) (text : List ℕ) (e : ReadCRefused) → text_in d ≡ Ok text → IfAt {A = CProgram} (Err e) (IsFirstWrongLine text) → IfCause (text_refusal e) (IsNoJob d)
no_program_refused d text (texts.At line) is h = no_program text line is h
no_program_refused d text texts.NoMemory is h = tt

-- ---- answers

-- a refusal of the walk is the answer
pub walk_refuses : (d : Data) (e : JobRefused) → IfCause e (IsNoJob d) → IfCause e (Answers d)
walk_refuses d (Grammar place) h = no_job place h
walk_refuses d (Limit place passed) h = elim h [ ]
walk_refuses d LongMemory h = elim h [ ]
walk_refuses d (Stuck level worker) h = elim h [ ]
walk_refuses d NoMemory h = tt

-- the answer to a job is the answer to a tree that asks for it
pub job_answers : (d : Data) (j : Job) → Asks d j → (r : Result (String Global) JobRefused) → IfAnswered r (JobAnswers j) → IfAnswered r (Answers d)
job_answers d j asks (Ok text) h = of_job j asks (ended (string_bytes text)) h
job_answers d j asks (Err (Grammar place)) h = elim h [ ]
job_answers d j asks (Err (Limit place passed)) h = of_job j asks (past place passed) h
job_answers d j asks (Err LongMemory) h = of_job j asks long_memory h
job_answers d j asks (Err (Stuck level worker)) h = of_job j asks (stuck level worker) h
job_answers d j asks (Err NoMemory) h = tt
