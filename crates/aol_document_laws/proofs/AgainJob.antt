-- Inputs, steps and entries that were read are read again.
use Rattle.std.proofs.Common.{◌≡◌, ℕ, ◌+◌, List, [], ◌∷◌, map, length, Bool, true, false, ◌&&◌, nat_le, nat_lt, Ok, refl, sym, ap, ◌∙◌, if◌then◌else◌, codes}
use Rattle.std.specs.List.{AllByRecursion, list_all}
use Rattle.std.specs.Ordering.{nat_cmp, match_ordering}
use Rattle.std.specs.declared.cmp.Ordering.{Ordering}
use Rattle.std.specs.Cmp.Lexicographic.{slice_cmp}
use Rattle.std.proofs.lemmas.Bool.{and_parts}
use Rattle.serde_json.specs.Data.{Data, null, boolean, number, string, array, object, Members, no_members, member, put}
use Rattle.aol_shape.specs.Lists.{same}
use Rattle.aol_shape.specs.Texts.{is_name}
use Rattle.aol_model_types.specs.declared.place.Key.TheVariants.{KKind, KTask, KOuter, KBlock, KFirst, KSecond, KTiler, KPicks, KTo, KFrom, KLeaf, KProcessors, KSpace, KPattern}
use Rattle.aol_model_types.specs.declared.job.InputArray.{InputArray}
use Rattle.aol_model_types.specs.declared.job.Pick.{Pick}
use Rattle.aol_model_types.specs.declared.job.Step.{Step}
use Rattle.aol_model_types.specs.declared.job.Entry.{Entry}
use Rattle.aol_model_types.specs.declared.limits.TheConstants.{MAX_LEAF}
use Rattle.aol_model_types.specs.Places.{to_key, to_index}
use Rattle.aol_model_types.specs.Trees.{is_tree, is_before, is_first, are_members}
use Rattle.aol_model_types.specs.Reading.{At, name_at, shape_at, tiler_at, ◌>>=◌, kind_at, members_list, list_of, integer_at, array_at, inputs_from, input_at, tile_at, pave_at, skew_at, pick_at, fuse_at, step_at, leaf_at, entry_at}
use Rattle.aol_model_types.specs.Writing.{list_tree, integer_tree, members_from, input_member, object_of, pick_tree, step_tree, entry_tree}
use Rattle.aol_document_laws.proofs.AgainSteps.{Was, Reads, same_answer, went, was_right, formed, took, goes}
use Rattle.aol_document_laws.proofs.AgainLists.{list_again}
use Rattle.aol_document_laws.proofs.AgainTexts.{text_read, name_read, shape_read, tiler_read, integer_read}

-- ---- inputs

-- its name is one, and its numbers were read
abbrev WasInput : InputArray → Type 0
WasInput a = (is_name a.name ≡ true) × Was (list_of integer_at) a.nums

array_was : (at : At) (m : List ℕ × Data) (a : InputArray) → is_tree m.1 ≡ true → array_at at m ≡ Ok a → (a.name ≡ m.0) × WasInput a
array_was at m a held e =
    let r = was_right at (is_name m.0) (list_of integer_at at m.1 >>= (λ nums. Ok (record { name = m.0; nums = nums }))) a e in
    went (list_of integer_at at m.1) r.1 (λ nums is last. same_answer last (λ b. (b.name ≡ m.0) × WasInput b) (refl, (r.0, (at, m.1, held, is))))

-- the members that stand for inputs, in the order of the list
abbrev members_of : List InputArray → Members
members_of [] = no_members
members_of (a ∷ more) = member a.name (list_tree integer_tree a.nums) (members_of more)

-- the names are in byte order
abbrev IsOrdered : List InputArray → Type 0
IsOrdered [] = Unit {0}
IsOrdered (a ∷ more) = (is_first a.name (members_of more) ≡ true) × IsOrdered more

-- inputs that were read of these members
record WereInputs (ms : Members) (xs : List InputArray) : Type 0 where
  each : AllByRecursion WasInput xs
  ordered : IsOrdered xs
  first : (k : List ℕ) → is_first k ms ≡ is_first k (members_of xs)

inputs_were : (at : At) (i : ℕ) (ms : Members) (xs : List InputArray) → are_members ms ≡ true → inputs_from at i (members_list ms) ≡ Ok xs → WereInputs ms xs
inputs_were at i no_members xs h e = same_answer e (WereInputs no_members) (record { each = tt; ordered = tt; first = λ k. refl })
inputs_were at i (member k d ms) xs h e = went (array_at (to_index at i) (k, d)) e (λ a is e. went (inputs_from at (i + 1) (members_list ms)) e (λ more are last.
    let in_order = and_parts (is_first k ms && is_tree d) (are_members ms) h in
    let this = array_was (to_index at i) (k, d) a (and_parts (is_first k ms) (is_tree d) in_order.0).1 is in
    let rest = inputs_were at (i + 1) ms more in_order.1 are in
    same_answer last (WereInputs (member k d ms)) (record {
      each = (this.1, rest.each);
      ordered = (rw this.0 (sym (rest.first k) ∙ (and_parts (is_first k ms) (is_tree d) in_order.0).0), rest.ordered);
      first = λ l. ap (is_before l) (sym this.0);
    })))

input_was : (at : At) (d : Data) (xs : List InputArray) → is_tree d ≡ true → input_at at d ≡ Ok xs → AllByRecursion WasInput xs × IsOrdered xs
input_was at (object ms) xs h e = let w = inputs_were at 0 ms xs h e in (w.each, w.ordered)
input_was at null xs h e = cc
input_was at (boolean b) xs h e = cc
input_was at (number n) xs h e = cc
input_was at (string s) xs h e = cc
input_was at (array ds) xs h e = cc

put_first : (k : List ℕ) (d : Data) (ms : Members) → is_first k ms ≡ true → put k d ms ≡ member k d ms
put_first k d no_members h = refl
put_first k d (member l e ms) h = by_order (slice_cmp nat_cmp k l) (member k d (member l e ms)) (member l d ms) (member l e (put k d ms)) h
  where
    by_order : (o : Ordering) (before same after : Members) → match_ordering o true false false ≡ true → match_ordering o before same after ≡ before
    by_order Ordering.Less before same after is = refl
    by_order Ordering.Equal before same after is = cc
    by_order Ordering.Greater before same after is = cc

members_written : (xs : List InputArray) → IsOrdered xs → members_from (map input_member xs) ≡ members_of xs
members_written [] h = refl
members_written (a ∷ xs) h = ap (put a.name (list_tree integer_tree a.nums)) (members_written xs h.1) ∙ put_first a.name (list_tree integer_tree a.nums) (members_of xs) h.0

members_listed : (xs : List InputArray) → members_list (members_of xs) ≡ map input_member xs
members_listed [] = refl
members_listed (a ∷ xs) = ap (λ ms. input_member a ∷ ms) (members_listed xs)

array_read : (a : InputArray) → WasInput a → (at : At) → array_at at (input_member a) ≡ Ok a
array_read a was at = rw was.0 (goes _ (list_again integer_at integer_at integer_tree integer_read a.nums was.1 at) refl)

inputs_read : (xs : List InputArray) → AllByRecursion WasInput xs → (at : At) (i : ℕ) → inputs_from at i (map input_member xs) ≡ Ok xs
inputs_read [] was at i = refl
inputs_read (a ∷ xs) was at i = goes _ (array_read a was.0 (to_index at i)) (goes _ (inputs_read xs was.1 at (i + 1)) refl)

pub input_read : (xs : List InputArray) → Was input_at xs → Reads input_at (object_of (map input_member xs)) xs
input_read xs w at =
    let was = input_was w.0 w.1 xs w.2 w.3 in
    ap (λ ms. inputs_from at 0 (members_list ms)) (members_written xs was.1) ∙ ap (inputs_from at 0) (members_listed xs) ∙ inputs_read xs was.0 at 0

-- ---- steps

tile_read : (s : Step) → Was tile_at s → Reads step_at (step_tree s) s
tile_read s w at = took w.0 w.1 w.2 KTask name_at (formed (KKind ∷ KTask ∷ KOuter ∷ KBlock ∷ []) [] w.0 w.1 w.3) (λ t task e. took w.0 w.1 w.2 KOuter shape_at e (λ o outer e. took w.0 w.1 w.2 KBlock shape_at e (λ b block last.
    same_answer last (λ q. step_at at (step_tree q) ≡ Ok q) (goes _ (name_read t task (to_key at KTask)) (goes _ (shape_read o outer (to_key at KOuter)) (goes _ (shape_read b block (to_key at KBlock)) refl))))))

pave_read : (s : Step) → Was pave_at s → Reads step_at (step_tree s) s
pave_read s w at = took w.0 w.1 w.2 KTask name_at (formed (KKind ∷ KTask ∷ KOuter ∷ KBlock ∷ []) [] w.0 w.1 w.3) (λ t task e. took w.0 w.1 w.2 KOuter shape_at e (λ o outer e. took w.0 w.1 w.2 KBlock shape_at e (λ b block last.
    same_answer last (λ q. step_at at (step_tree q) ≡ Ok q) (goes _ (name_read t task (to_key at KTask)) (goes _ (shape_read o outer (to_key at KOuter)) (goes _ (shape_read b block (to_key at KBlock)) refl))))))

skew_read : (s : Step) → Was skew_at s → Reads step_at (step_tree s) s
skew_read s w at = took w.0 w.1 w.2 KTask name_at (formed (KKind ∷ KTask ∷ KOuter ∷ KBlock ∷ []) [] w.0 w.1 w.3) (λ t task e. took w.0 w.1 w.2 KOuter shape_at e (λ o outer e. took w.0 w.1 w.2 KBlock shape_at e (λ b block last.
    same_answer last (λ q. step_at at (step_tree q) ≡ Ok q) (goes _ (name_read t task (to_key at KTask)) (goes _ (shape_read o outer (to_key at KOuter)) (goes _ (shape_read b block (to_key at KBlock)) refl))))))

pick_read : (p : Pick) → Was pick_at p → Reads pick_at (pick_tree p) p
pick_read p w at = took w.0 w.1 w.2 KTo name_at (formed (KTo ∷ KFrom ∷ KTiler ∷ []) [] w.0 w.1 w.3) (λ t to e. took w.0 w.1 w.2 KFrom name_at e (λ f from e. took w.0 w.1 w.2 KTiler tiler_at e (λ b tiler last.
    same_answer last (λ q. pick_at at (pick_tree q) ≡ Ok q) (goes _ (name_read t to (to_key at KTo)) (goes _ (name_read f from (to_key at KFrom)) (goes _ (tiler_read b tiler (to_key at KTiler)) refl))))))

fuse_read : (s : Step) → Was fuse_at s → Reads step_at (step_tree s) s
fuse_read s w at = took w.0 w.1 w.2 KTask name_at (formed (KKind ∷ KTask ∷ KFirst ∷ KSecond ∷ KBlock ∷ KTiler ∷ KPicks ∷ []) [] w.0 w.1 w.3) (λ t task e. took w.0 w.1 w.2 KFirst name_at e (λ f first e. took w.0 w.1 w.2 KSecond name_at e (λ g second e. took w.0 w.1 w.2 KBlock shape_at e (λ b block e. took w.0 w.1 w.2 KTiler tiler_at e (λ l tiler e. took w.0 w.1 w.2 KPicks (list_of pick_at) e (λ picks are_picks last.
    same_answer last (λ q. step_at at (step_tree q) ≡ Ok q)
    (goes _ (name_read t task (to_key at KTask)) (goes _ (name_read f first (to_key at KFirst)) (goes _ (name_read g second (to_key at KSecond)) (goes _ (shape_read b block (to_key at KBlock)) (goes _ (tiler_read l tiler (to_key at KTiler)) (goes _ (list_again pick_at pick_at pick_tree pick_read picks are_picks (to_key at KPicks)) refl))))))))))))

pub step_read : (s : Step) → Was step_at s → Reads step_at (step_tree s) s
step_read s w = went (kind_at (codes "tile" ∷ codes "pave" ∷ codes "skew" ∷ codes "fuse" ∷ []) w.0 w.1) w.3 (λ k _ e. by_kind (same k (codes "tile")) (same k (codes "pave")) (same k (codes "skew")) e)
  where
    by_kind : (tile pave skew : Bool) → (if tile then tile_at w.0 w.1 else (if pave then pave_at w.0 w.1 else (if skew then skew_at w.0 w.1 else fuse_at w.0 w.1))) ≡ Ok s → Reads step_at (step_tree s) s
    by_kind true pave skew e = tile_read s (w.0, w.1, w.2, e)
    by_kind false true skew e = pave_read s (w.0, w.1, w.2, e)
    by_kind false false true e = skew_read s (w.0, w.1, w.2, e)
    by_kind false false false e = fuse_read s (w.0, w.1, w.2, e)

-- ---- entries

leaf_read : (l : List ℕ) → Was leaf_at l → Reads leaf_at (string l) l
leaf_read = text_read (λ t. nat_le 1 (length t) && nat_le (length t) MAX_LEAF && list_all (λ b. nat_lt b 128) t)

pub entry_read : (n : Entry) → Was entry_at n → Reads entry_at (entry_tree n) n
entry_read n w at = took w.0 w.1 w.2 KLeaf leaf_at (formed (KLeaf ∷ KProcessors ∷ KSpace ∷ KPattern ∷ KFrom ∷ KTo ∷ []) [] w.0 w.1 w.3) (λ l leaf e. took w.0 w.1 w.2 KProcessors shape_at e (λ r processors e. took w.0 w.1 w.2 KSpace shape_at e (λ s space e. took w.0 w.1 w.2 KPattern shape_at e (λ p pattern e. took w.0 w.1 w.2 KFrom tiler_at e (λ f from e. took w.0 w.1 w.2 KTo tiler_at e (λ t to last.
    same_answer last (λ q. entry_at at (entry_tree q) ≡ Ok q)
    (goes _ (leaf_read l leaf (to_key at KLeaf)) (goes _ (shape_read r processors (to_key at KProcessors)) (goes _ (shape_read s space (to_key at KSpace)) (goes _ (shape_read p pattern (to_key at KPattern)) (goes _ (tiler_read f from (to_key at KFrom)) (goes _ (tiler_read t to (to_key at KTo)) refl))))))))))))
