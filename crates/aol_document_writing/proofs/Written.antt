-- What is written is a tree that a value can be, and has no floats.
use Rattle.std.proofs.Common.{◌≡◌, ℕ, List, [], ◌∷◌, ◌++◌, length, map, Bool, true, false, ◌||◌, Vec, Global, Less, Equal, Greater, refl, sym, ap, subst, ◌∙◌, arith}
use Rattle.std.specs.Ordering.{nat_cmp, match_ordering}
use Rattle.std.specs.declared.cmp.Ordering.{Ordering}
use Rattle.std.specs.Cmp.Lexicographic.{slice_cmp}
use Rattle.std.specs.List.{AllByRecursion}
use Rattle.serde_json.specs.Data.{Data, array, Members, no_members, member, put}
use Rattle.serde_json.specs.Written.{has_float, members_have_float}
use Rattle.serde_json.specs.View.{view, items_of}
use Rattle.serde_json.specs.declared.value.Value.{Value, Array}
use Rattle.serde_json.proofs.Views.{view-Array}
use Rattle.std.specs.Cmp.Derive.{both_true}
use Rattle.aol_model_types.specs.Trees.{IsWritten}
use Rattle.aol_model_types.specs.Writing.{members_from}
use Rattle.aol_document_writing.specs.Written.{AreWritten}
use Rattle.aol_document_laws.proofs.ReadTrees.{put_members}

neither : (a b : Bool) → a ≡ false → b ≡ false → (a || b) ≡ false
neither false b h k = k
neither true b h k = h

left_false : (a b : Bool) → (a || b) ≡ false → a ≡ false
left_false false b h = refl
left_false true b h = h

right_false : (a b : Bool) → (a || b) ≡ false → b ≡ false
right_false false b h = h
right_false true true h = h
right_false true false h = refl

whole_by : (o : Ordering) (a b c : Members) → members_have_float a ≡ false → members_have_float b ≡ false → members_have_float c ≡ false → members_have_float (match_ordering o a b c) ≡ false
whole_by Less a b c x y z = x
whole_by Equal a b c x y z = y
whole_by Greater a b c x y z = z

put_whole : (k : List ℕ) (d : Data) (ms : Members) → has_float d ≡ false → members_have_float ms ≡ false → members_have_float (put k d ms) ≡ false
put_whole k d no_members h all = neither _ false h refl
put_whole k d (member l e ms) h all =
    let later = right_false (has_float e) (members_have_float ms) all in
    whole_by (slice_cmp nat_cmp k l) _ _ _ (neither _ _ h all) (neither _ _ h later) (neither _ _ (left_false (has_float e) (members_have_float ms) all) (put_whole k d ms h later))

pub put_written : (k : List ℕ) (d : Data) (ms : Members) → IsWritten d → AreWritten ms → AreWritten (put k d ms)
put_written k d ms h all = record { held = put_members k d ms h.held all.held; whole = put_whole k d ms h.whole all.whole }

items_written : (ds : List Data) → AllByRecursion IsWritten ds → IsWritten (array (items_of ds))
items_written [] h = record { held = refl; whole = refl }
items_written (d ∷ ds) h =
    let rest = items_written ds h.1 in
    record { held = both_true h.0.held rest.held; whole = neither _ _ h.0.whole rest.whole }

-- an array of such trees
pub array_written : (v : Vec Value Global) → AllByRecursion IsWritten (map view v.items) → IsWritten (view (Array v))
array_written v h = subst IsWritten (sym (view-Array v)) (items_written (map view v.items) h)

-- ---- members one after another

-- these members, put before those
abbrev pub members_before : List (List ℕ × Data) → Members → Members
members_before [] rest = rest
members_before (m ∷ ms) rest = put m.0 m.1 (members_before ms rest)

-- the last of them goes in first
pub one_before : (ms : List (List ℕ × Data)) (m : List ℕ × Data) (rest : Members) → members_before (ms ++ m ∷ []) rest ≡ members_before ms (put m.0 m.1 rest)
one_before [] m rest = refl
one_before (l ∷ ms) m rest = ap (put l.0 l.1) (one_before ms m rest)

pub all_before : (ms : List (List ℕ × Data)) → members_before ms no_members ≡ members_from ms
all_before [] = refl
all_before (m ∷ ms) = ap (put m.0 m.1) (all_before ms)

-- what is put one after another, from the last to the first: at first all is left
pub all_left : {A : Type 0} (f : A → List ℕ × Data) (left xs : List A) (ms : Members) → left ≡ xs → ms ≡ no_members → members_before (map f left) ms ≡ members_from (map f xs)
all_left f left xs ms e none = rw (e, none) (all_before (map f xs))

map_last : {A : Type 0} (f : A → List ℕ × Data) (xs : List A) (x : A) → map f (xs ++ x ∷ []) ≡ map f xs ++ f x ∷ []
map_last f [] x = refl
map_last f (y ∷ xs) x = ap (λ (rest : List (List ℕ × Data)). f y ∷ rest) (map_last f xs x)

-- the last goes in
pub next_left : {A : Type 0} (f : A → List ℕ × Data) (left more : List A) (x : A) (k : List ℕ) (d : Data) (before after all : Members) → left ≡ more ++ x ∷ [] → k ≡ (f x).0 → d ≡ (f x).1 → after ≡ put k d before
    → members_before (map f left) before ≡ all → members_before (map f more) after ≡ all
next_left f left more x k d before after all e is value put_in so_far =
    rw (put_in, is, value) (sym (one_before (map f more) (f x) before) ∙ rw (← map_last f more x, ← e) so_far)

-- nothing is left
pub none_left : {A : Type 0} (f : A → List ℕ × Data) (left : List A) (ms all : Members) → length left ≡ 0 → members_before (map f left) ms ≡ all → ms ≡ all
none_left f [] ms all e h = h
none_left f (x ∷ left) ms all e h = absurd (omega arith)

pub none_written : (ms : Members) → ms ≡ no_members → AreWritten ms
none_written ms e = subst AreWritten (sym e) (record { held = refl; whole = refl })

pub more_written : (k : List ℕ) (d : Data) (before after : Members) → after ≡ put k d before → IsWritten d → AreWritten before → AreWritten after
more_written k d before after e h all = subst AreWritten (sym e) (put_written k d before h all)
