-- Lists of what is read again are read again.
use Rattle.std.proofs.Common.{◌≡◌, ℕ, suc, ◌+◌, List, [], ◌∷◌, map, length, Bool, true, nat_le, Result, Ok, refl, ap, ◌∙◌}
use Rattle.std.specs.List.{AllByRecursion}
use Rattle.std.proofs.lemmas.List.{length-map}
use Rattle.std.proofs.lemmas.Bool.{and_parts}
use Rattle.serde_json.specs.Data.{Data, null, boolean, number, string, array, object, Items, no_items, item}
use Rattle.aol_model_types.specs.Trees.{is_tree, are_items}
use Rattle.aol_shape.specs.declared.limit.LimitName.{LimitName}
use Rattle.aol_model_types.specs.Places.{to_index}
use Rattle.aol_model_types.specs.Reading.{At, Fault, ◌>>=◌, ◌>>◌, within, items_list, list_at, filled_list_at, elements, list_of}
use Rattle.aol_model_types.specs.Writing.{items_from, list_tree}
use Rattle.aol_document_laws.proofs.AgainSteps.{Was, Reads, same_answer, went, was_right, was_within, goes}

-- the elements of an array that was written
pub items_written : {A : Type 0} (w : A → Data) (xs : List A) → items_list (items_from (map w xs)) ≡ map w xs
items_written w [] = refl
items_written w (x ∷ xs) = ap (λ (ds : List Data). w x ∷ ds) (items_written w xs)

-- a list that isn't empty, within a limit on its length
abbrev pub bounded : {A : Type 0} → LimitName → (ℕ → Bool) → (At → Data → Result A Fault) → At → Data → Result (List A) Fault
bounded passed test f at d = filled_list_at at d >>= (λ ds. within at passed (test (length ds)) >> elements f at 0 ds)

-- what is known of a list that was read so
pub record WasBounded {A : Type 0} (test : ℕ → Bool) (f : At → Data → Result A Fault) (xs : List A) : Type 0 where
  pub filled : nat_le 1 (length xs) ≡ true
  pub few : test (length xs) ≡ true
  pub each : AllByRecursion (Was f) xs

-- a value can be the tree
abbrev Held : Data → Type 0
Held d = is_tree d ≡ true

items_held : (ds : Items) → are_items ds ≡ true → AllByRecursion Held (items_list ds)
items_held no_items h = tt
items_held (item d ds) h = let p = and_parts (is_tree d) (are_items ds) h in (p.0, items_held ds p.1)

list_held : (at : At) (d : Data) (ds : List Data) → Held d → list_at at d ≡ Ok ds → AllByRecursion Held ds
list_held at (array items) ds h e = same_answer e (AllByRecursion Held) (items_held items h)
list_held at null ds h e = cc
list_held at (boolean b) ds h e = cc
list_held at (number n) ds h e = cc
list_held at (string s) ds h e = cc
list_held at (object ms) ds h e = cc

-- elements that were read, and how many
abbrev Listed : {A : Type 0} → (At → Data → Result A Fault) → ℕ → List A → Type 0
Listed f n xs = AllByRecursion (Was f) xs × (n ≡ length xs)

module _ {A : Type 0} (f : At → Data → Result A Fault) where
  elements_were : (at : At) (i : ℕ) (ds : List Data) (xs : List A) → AllByRecursion Held ds → elements f at i ds ≡ Ok xs → Listed f (length ds) xs
  elements_were at i [] xs h e = same_answer e (Listed f 0) (tt, refl)
  elements_were at i (d ∷ ds) xs h e = went (f (to_index at i) d) e (λ x is e. went (elements f at (i + 1) ds) e (λ ys are last.
      let rest : Listed f (length ds) ys = elements_were at (i + 1) ds ys h.1 are in
      same_answer last (Listed f (suc (length ds))) (((to_index at i, d, h.0, is), rest.0), ap suc rest.1)))

  pub list_was : (xs : List A) → Was (list_of f) xs → AllByRecursion (Was f) xs
  list_was xs w = went (list_at w.0 w.1) w.3 (λ ds is e. (elements_were w.0 0 ds xs (list_held w.0 w.1 ds w.2 is) e).0)

  pub bounded_was : (passed : LimitName) (test : ℕ → Bool) (xs : List A) → Was (bounded passed test f) xs → WasBounded test f xs
  bounded_was passed test xs w = went (filled_list_at w.0 w.1) w.3 (λ ds full e. went (list_at w.0 w.1) full (λ es are filled.
      let some = was_right w.0 (nat_le 1 (length es)) (Ok es) ds filled in
      let few = was_within w.0 passed (test (length ds)) (elements f w.0 0 ds) xs e in
      let held = same_answer some.1 (AllByRecursion Held) (list_held w.0 w.1 es w.2 are) in
      let each : Listed f (length ds) xs = elements_were w.0 0 ds xs held few.1 in
      record { filled = rw (← each.1) (same_answer some.1 (λ z. nat_le 1 (length z) ≡ true) some.0); few = rw (← each.1) few.0; each = each.0 }))

module _ {A : Type 0} (f g : At → Data → Result A Fault) (w : A → Data) (again : (x : A) → Was f x → Reads g (w x) x) where
  elements_again : (xs : List A) → AllByRecursion (Was f) xs → (at : At) (i : ℕ) → elements g at i (map w xs) ≡ Ok xs
  elements_again [] was at i = refl
  elements_again (x ∷ xs) was at i = goes _ (again x was.0 (to_index at i)) (goes _ (elements_again xs was.1 at (i + 1)) refl)

  pub list_again : (xs : List A) → Was (list_of f) xs → Reads (list_of g) (list_tree w xs) xs
  list_again xs was at = ap (elements g at 0) (items_written w xs) ∙ elements_again xs (list_was f xs was) at 0

  pub bounded_again : (passed : LimitName) (test : ℕ → Bool) (xs : List A) → WasBounded test f xs → Reads (bounded passed test g) (list_tree w xs) xs
  bounded_again passed test xs was at = rw (items_written w xs, length-map xs w, was.filled, length-map xs w, was.few) (elements_again xs was.each at 0)
