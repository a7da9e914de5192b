-- Reading the elements of a list one after another, as a loop does.
use Rattle.std.proofs.Common.{◌≡◌, string_bytes, length-append, ℤ, true, is_some, String, Global, ℕ, suc, ◌+◌, List, [], ◌∷◌, ◌++◌, length, map, drop, Some, Result, Ok, Err, refl, sym, ap, ◌∙◌, append_assoc}
use Rattle.std.specs.List.{AllByRecursion, list_all}
use Rattle.aol_shape.specs.Numbers.{fits_64}
use Rattle.serde_json.specs.Data.{Data, null, boolean, number, string, array, object}
use Rattle.serde_json.specs.Find.{as_array, as_object, as_null}
use Rattle.serde_json.specs.View.{view, items_of, items_view, members_view}
use Rattle.serde_json.specs.declared.value.Value.{Value}
use Rattle.aol_model_types.specs.declared.job.InputArray.{InputArray}
use Rattle.aol_model_types.specs.Places.{to_index}
use Rattle.aol_model_types.specs.Reading.{At, Fault, ◌>>=◌, elements, array_at, inputs_from, items_list, members_list, member_count, is_null, list_at}

items_list-items_of : (ds : List Data) → items_list (items_of ds) ≡ ds
items_list-items_of [] = refl
items_list-items_of (d ∷ ds) = ap (λ (es : List Data). d ∷ es) (items_list-items_of ds)

-- the elements of an array that was found
pub listed : (at : At) (d : Data) (vs : List Value) → Some (items_view vs) ≡ as_array d → list_at at d ≡ Ok (map view vs)
listed at d vs e = rw (← e) (ap (λ (es : List Data). Ok es) (items_list-items_of (map view vs)))

-- what was read before, and what is still read
abbrev pub with_front : {A : Type 0} → List A → Result (List A) Fault → Result (List A) Fault
with_front front read = read >>= (λ xs. Ok (front ++ xs))

pub none_before : {A : Type 0} (read : Result (List A) Fault) → with_front [] read ≡ read
none_before (Ok xs) = refl
none_before (Err e) = refl

regroup : {A : Type 0} (front : List A) (x : A) (read : Result (List A) Fault) → with_front front (read >>= (λ xs. Ok (x ∷ xs))) ≡ with_front (front ++ x ∷ []) read
regroup front x (Ok xs) = ap (λ (ys : List _). Ok ys) (simp append_assoc)
regroup front x (Err e) = refl

module _ {A : Type 0} (f : At → Data → Result A Fault) (at : At) (vs : List Value) where
  -- what is read from element i on, after what was read before
  abbrev pub reads_from : List A → ℕ → Result (List A) Fault
  reads_from front i = with_front front (elements f at i (map view (drop i vs)))

members_list-members_view : (es : List (String Global × Value)) → length (members_list (members_view es)) ≡ length es
members_list-members_view [] = refl
members_list-members_view (e ∷ es) = ap suc (members_list-members_view es)

-- how many members an object has that was found
pub counted : (d : Data) (es : List (String Global × Value)) → Some (members_view es) ≡ as_object d → length es ≡ member_count d
counted d es e = rw (← e) (sym (members_list-members_view es))

pub null_tested : (d : Data) → is_some (as_null d) ≡ is_null d
null_tested null = refl
null_tested (boolean b) = refl
null_tested (number n) = refl
null_tested (string s) = refl
null_tested (array ds) = refl
null_tested (object ms) = refl

-- what is read of the members that are left, after the arrays that were read before
abbrev pub arrays_from : At → List InputArray → List (String Global × Value) → Result (List InputArray) Fault
arrays_from at front es = with_front front (inputs_from at (length front) (members_list (members_view es)))

more_arrays : (at : At) (front : List InputArray) (k : String Global) (v : Value) (es : List (String Global × Value)) (a : InputArray) → array_at (to_index at (length front)) (string_bytes k, view v) ≡ Ok a
    → arrays_from at front ((k, v) ∷ es) ≡ arrays_from at (front ++ a ∷ []) es
more_arrays at front k v es a h =
    let n : length (front ++ a ∷ []) ≡ length front + 1 = simp length-append in
    rw (h, n) (regroup front a (inputs_from at (length front + 1) (members_list (members_view es))))

-- one more array
pub arrays_more : (at place : At) (front next : List InputArray) (before after : List (String Global × Value)) (k : String Global) (v : Value) (a : InputArray) (total : Result (List InputArray) Fault)
    → before ≡ (k, v) ∷ after → next ≡ front ++ a ∷ [] → place ≡ to_index at (length front) → array_at place (string_bytes k, view v) ≡ Ok a → arrays_from at front before ≡ total → arrays_from at next after ≡ total
arrays_more at place front next before after k v a total e n p h so_far =
    rw n (sym (more_arrays at front k v after a (rw p at h)) ∙ (rw e at so_far))

pub kept_more : {A : Type 0} (P : A → Type 0) (xs : List A) (x : A) → AllByRecursion P xs → P x → AllByRecursion P (xs ++ x ∷ [])
kept_more P [] x h p = (p, tt)
kept_more P (y ∷ xs) x h p = (h.0, kept_more P xs x h.1 p)

-- numbers that each fit
pub all_fit : (zs : List ℤ) → AllByRecursion (λ (z : ℤ). fits_64 z ≡ true) zs → list_all fits_64 zs ≡ true
all_fit [] h = refl
all_fit (z ∷ zs) h = rw (h.0, all_fit zs h.1) refl
