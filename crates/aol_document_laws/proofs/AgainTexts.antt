-- Texts, numbers and ends that were read are read again.
use Rattle.std.proofs.Common.{◌≡◌, ℕ, suc, ◌+◌, ℤ, pos, negsuc, List, [], ◌∷◌, ◌++◌, Bool, true, false, ◌&&◌, ◌||◌, nat_lt, ◌^◌, cond, not, take, drop, Some, None, Result, Ok, Err, refl, sym, ap, ◌∙◌, if◌then◌else◌, arith}
use Rattle.std.specs.List.{list_any, position_or_len, before_first, after_first}
use Rattle.std.proofs.lemmas.Bool.{eqb-true}
use Rattle.serde_json.specs.Data.{Data, null, boolean, number, unsigned, negative, float, string, array, object}
use Rattle.aol_shape.specs.Numbers.{fits_64}
use Rattle.aol_shape.specs.Texts.{is_name}
use Rattle.aol_tiler.specs.Matrices.{TilerOf}
use Rattle.aol_shape.specs.Grammar.{TextFault}
use Rattle.aol_shape.specs.Grammar as texts
use Rattle.aol_vsl.specs.Text.{vector_text}
use Rattle.aol_vsl.specs.Reading.{shape_reading, vector_reading, tiler_reading}
use Rattle.aol_vsl.proofs.Again.{shape_again, vector_again}
use Rattle.aol_vsl.proofs.TilersAgain.{tiler_again}
use Rattle.aol_expr_grammar.proofs.Again.{read_again}
use Rattle.aol_expr_tree.specs.Tree.{Tree}
use Rattle.aol_expr_tree.specs.Reading.{expr_reading}
use Rattle.aol_expr_tree.specs.Writing.{expr_text}
use Rattle.aol_model_types.specs.declared.task.Hook.{Hook}
use Rattle.aol_model_types.specs.Reading.{At, Fault, ◌>>=◌, ◌>>◌, needs, placed, found, text_at, name_at, shape_at, vector_at, tiler_at, expr_at, integer_at, is_dot, hook_at}
use Rattle.aol_model_types.specs.Writing.{shape_tree, tiler_tree, integer_tree, hook_tree}
use Rattle.aol_model_types.specs.Trees.{is_tree}
use Rattle.aol_document_laws.proofs.Limited.{shape_limited, vector_limited, tiler_limited, expr_limited}
use Rattle.aol_document_laws.proofs.AgainSteps.{Was, Reads, same_answer, went, was_right}

-- ---- canonical texts

-- what a text was read as, apart from the place
read_as : {V : Type 0} (at : At) (r : Result V TextFault) (v : V) → placed at r ≡ Ok v → r ≡ Ok v
read_as at (Ok x) v e = cc
read_as at (Err (texts.at byte)) v e = cc
read_as at (Err (texts.limit byte passed)) v e = cc

pub shape_read : (s : List ℕ) → Was shape_at s → Reads shape_at (shape_tree s) s
shape_read s w at = ap (placed at) (shape_again s (went (text_at w.0 w.1) w.3 (λ t _ e. shape_limited t s (read_as w.0 (shape_reading t) s e))))

pub vector_read : (v : List ℤ) → Was vector_at v → Reads vector_at (string (vector_text v)) v
vector_read v w at = ap (placed at) (vector_again v (went (text_at w.0 w.1) w.3 (λ t _ e. vector_limited t v (read_as w.0 (vector_reading t) v e))))

pub tiler_read : (t : TilerOf) → Was tiler_at t → Reads tiler_at (tiler_tree t) t
tiler_read t w at = ap (placed at) (tiler_again t (went (text_at w.0 w.1) w.3 (λ s _ e. tiler_limited s t (read_as w.0 (tiler_reading s) t e))))

pub expr_read : (e : Tree) → Was expr_at e → Reads expr_at (string (expr_text e)) e
expr_read x w at = ap (placed at) (read_again x (went (text_at w.0 w.1) w.3 (λ t _ e. expr_limited t x (read_as w.0 (expr_reading t) x e))))

-- ---- texts that pass a test

-- a text that passes a test
abbrev pub tested : (List ℕ → Bool) → At → Data → Result (List ℕ) Fault
tested test at d = text_at at d >>= (λ t. needs at (test t) >> Ok t)

pub text_read : (test : List ℕ → Bool) (t : List ℕ) → Was (tested test) t → Reads (tested test) (string t) t
text_read test t w at = went (text_at w.0 w.1) w.3 (λ s _ e.
    let r = was_right w.0 (test s) (Ok s) t e in
    same_answer r.1 (λ u. (needs at (test u) >> Ok u) ≡ Ok u) (rw r.0))

pub name_read : (n : List ℕ) → Was name_at n → Reads name_at (string n) n
name_read = text_read is_name

-- ---- whole numbers

in_range : (at : At) (n : ℕ) → nat_lt n (2 ^ 63) ≡ true → found at (if nat_lt n (2 ^ 63) then Some (pos n) else None) ≡ Ok (pos n)
in_range at n h = rw h

-- a number in 64 bits is read as itself
pub number_read : (z : ℤ) → fits_64 z ≡ true → Reads integer_at (integer_tree z) z
number_read (pos n) h at = in_range at n h
number_read (negsuc n) h at = refl

unsigned_fits : (at : At) (n : ℕ) (z : ℤ) (b : Bool) → nat_lt n (2 ^ 63) ≡ b → found at (if b then Some (pos n) else None) ≡ Ok z → fits_64 z ≡ true
unsigned_fits at n z true is e = same_answer e (λ y. fits_64 y ≡ true) is
unsigned_fits at n z false is e = cc

-- a number that was read is in 64 bits
integer_fits : (at : At) (d : Data) (z : ℤ) → is_tree d ≡ true → integer_at at d ≡ Ok z → fits_64 z ≡ true
integer_fits at (number (unsigned n)) z h e = unsigned_fits at n z (nat_lt n (2 ^ 63)) refl e
integer_fits at (number (negative (pos n))) z h e = cc
integer_fits at (number (negative (negsuc n))) z h e = same_answer e (λ y. fits_64 y ≡ true) h
integer_fits at (number (float x)) z h e = cc
integer_fits at null z h e = cc
integer_fits at (boolean b) z h e = cc
integer_fits at (string s) z h e = cc
integer_fits at (array ds) z h e = cc
integer_fits at (object ms) z h e = cc

pub integer_read : (z : ℤ) → Was integer_at z → Reads integer_at (integer_tree z) z
integer_read z w = number_read z (integer_fits w.0 w.1 z w.2 w.3)

-- ---- ends

joined-at : (b : ℕ) (bs : List ℕ) (k : ℕ) (d : Bool) → is_dot b ≡ d → (list_any is_dot bs ≡ true → take k bs ++ 46 ∷ drop (k + 1) bs ≡ bs) → (d || list_any is_dot bs) ≡ true
    → take (cond (not d) (1 + k) 0) (b ∷ bs) ++ 46 ∷ drop (cond (not d) (1 + k) 0 + 1) (b ∷ bs) ≡ b ∷ bs
joined-at b bs k true is next h = ap (λ (c : ℕ). c ∷ bs) (sym (eqb-true b 46 is))
joined-at b bs k false is next h =
    let one : 1 + k ≡ suc k = omega arith in
    let two : 1 + k + 1 ≡ suc (k + 1) = omega arith in
    rw (two, one) (ap (λ (cs : List ℕ). b ∷ cs) (next h))

-- a text is what stands before its first dot, the dot, and what stands after it
joined : (t : List ℕ) → list_any is_dot t ≡ true → before_first is_dot t ++ 46 ∷ after_first is_dot t ≡ t
joined [] h = cc
joined (b ∷ bs) h = joined-at b bs (position_or_len is_dot bs) (is_dot b) refl (joined bs) h

-- what a text says at this place, with a dot between `front` and `back` or without
abbrev ends : At → Bool → List ℕ → List ℕ → List ℕ → Result Hook Fault
ends at dot t front back = if dot then (needs at (is_name front && is_name back) >> Ok (record { part = Some front; port = back })) else (needs at (is_name t) >> Ok (record { part = None; port = t }))

-- an end that was read is written as its text, which says the same everywhere
hook_by : (at there : At) (dot : Bool) (t front back : List ℕ) (h : Hook) → (dot ≡ true → front ++ 46 ∷ back ≡ t) → ends at dot t front back ≡ Ok h → (hook_tree h ≡ string t) × (ends there dot t front back ≡ Ok h)
hook_by at there true t front back h whole e =
    let r = was_right at (is_name front && is_name back) (Ok (record { part = Some front; port = back })) h e in
    same_answer r.1 (λ g. (hook_tree g ≡ string t) × (ends there true t front back ≡ Ok g)) (ap string (whole refl), rw r.0)
hook_by at there false t front back h whole e =
    let r = was_right at (is_name t) (Ok (record { part = None; port = t })) h e in
    same_answer r.1 (λ g. (hook_tree g ≡ string t) × (ends there false t front back ≡ Ok g)) (refl, rw r.0)

pub hook_read : (h : Hook) → Was hook_at h → Reads hook_at (hook_tree h) h
hook_read h w at = went (text_at w.0 w.1) w.3 (λ t _ e.
    let r = hook_by w.0 at (list_any is_dot t) t (before_first is_dot t) (after_first is_dot t) h (joined t) e in
    ap (hook_at at) r.0 ∙ r.1)
