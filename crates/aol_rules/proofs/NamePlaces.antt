-- Places of names, and what stands there.
use Rattle.std.proofs.Common.{◌≡◌, ℕ, zero, suc, ◌+◌, ◌<◌, nat_eq, nat_lt, List, [], ◌∷◌, ◌++◌, map, length, take, get_or, Bool, true, false, cond, ◌||◌, Option, Some, None, is_some, option_map, option_and_then, IfSome, String, Vec, refl, sym, ◌∙◌, ap, subst, arith, add-one}
use Rattle.std.specs.List.{find, list_any, slice_get}
use Rattle.std.specs.Option.{ForSome}
use Rattle.std.specs.Str.{bytes_eq}
use Rattle.std.specs.BTreeMap.{BTreeMap}
use Rattle.std.specs.declared.alloc.Global.{Global}
use Rattle.std.proofs.Math.Seq.{take-suc}
use Rattle.std.proofs.lemmas.List.{map-append, length-map, length-take-le, take_all}
use Rattle.std.proofs.lemmas.Option.{MatchOption-at_some}
use Rattle.std.proofs.lemmas.Bool.Decides.{nat_tests}
use Rattle.aol_shape.specs.Lists.{same}
use Rattle.aol_shape.proofs.SameTexts.{pointwise_same}
use Rattle.aol_rules.specs.declared.agree.names.Index.{Index}
use Rattle.aol_rules.specs.Names.{places, group, Finds, below, Leads, IsFront}

-- ---- one more name

nat_eq_sym : (x y : ℕ) → nat_eq x y ≡ nat_eq y x
nat_eq_sym x y = grind (arith, nat_tests)

same_sym : (a b : List ℕ) → same a b ≡ same b a
same_sym [] [] = refl
same_sym [] (y ∷ ys) = refl
same_sym (x ∷ xs) [] = refl
same_sym (x ∷ xs) (y ∷ ys) = rw (nat_eq_sym x y, same_sym xs ys) refl

-- std's test of two texts
test_same : (q n : List ℕ) → bytes_eq q n ≡ same n q
test_same q n = pointwise_same q n ∙ same_sym q n

-- a place that is there or not
abbrev here : Bool → ℕ → List ℕ
here b k = cond b (k ∷ []) []

map_here : (c : Bool) (k : ℕ) (ys : List ℕ) → map suc (ys ++ here c k) ≡ map suc ys ++ here c (suc k)
map_here true k ys = map-append suc ys (k ∷ [])
map_here false k ys = map-append suc ys []

step_push : (b : Bool) (us vs ws : List ℕ) → us ≡ vs ++ ws → cond b (0 ∷ us) us ≡ cond b (0 ∷ vs) vs ++ ws
step_push true us vs ws h = ap (λ l. 0 ∷ l) h
step_push false us vs ws h = h

-- one more name after
places_push : (q : List ℕ) (ns : List (List ℕ)) (n : List ℕ) → places q (ns ++ n ∷ []) ≡ places q ns ++ here (same n q) (length ns)
places_push q [] n = refl
places_push q (m ∷ ms) n = step_push (same m q) _ _ _ (ap (map suc) (places_push q ms n) ∙ map_here (same n q) (length ms) (places q ms))

-- a map that finds one name more
pub finds_more : {X : Type 0} (f : X → List ℕ) (xs : List X) (k : ℕ) (x : X) (name : List ℕ) (old new : BTreeMap (String Global) (Vec ℕ Global))
    → Finds (map f (take k xs)) old → ((q : List ℕ) → group q new ≡ group q old ++ here (bytes_eq q name) k)
    → k < length xs → name ≡ f x → x ≡ get_or xs k x → Finds (map f (take (k + 1) xs)) new
finds_more f xs k x name old new so_far adds lt named is q =
    let grows : map f (take (k + 1) xs) ≡ map f (take k xs) ++ f x ∷ [] = rw (add-one, take-suc xs k x lt, ← is) (map-append f (take k xs) (x ∷ [])) in
    let long : length (map f (take k xs)) ≡ k = length-map (take k xs) f ∙ length-take-le k xs (omega arith) in
    adds q ∙ rw (so_far q, test_same q name, named, grows, places_push q (map f (take k xs)) (f x), long) refl

-- ---- a front of the list

lt_suc : (k n : ℕ) → nat_lt (suc k) (suc n) ≡ nat_lt k n
lt_suc k n = grind (arith, nat_tests)

zero_lt : (n : ℕ) → nat_lt 0 (suc n) ≡ true
zero_lt n = grind (arith, nat_tests)

no_lt : (k : ℕ) → nat_lt k 0 ≡ false
no_lt k = grind (arith, nat_tests)

below_suc : (n : ℕ) (o : Option ℕ) → below (suc n) (option_map suc o) ≡ option_map suc (below n o)
below_suc n None = refl
below_suc n (Some k) = rw (lt_suc k n) (elim (nat_lt k n) as (λ b. cond b (Some (suc k)) None ≡ option_map suc (cond b (Some k) None)) [ true ↦ refl | false ↦ refl ])

get_map : (ys : List ℕ) → slice_get (map suc ys) 0 ≡ option_map suc (slice_get ys 0)
get_map [] = refl
get_map (y ∷ ys) = refl

-- the first place where a name is in front of others
abbrev first_of : Bool → Option ℕ → Option ℕ
first_of b o = cond b (Some 0) (option_map suc o)

first_step : (b : Bool) (ys : List ℕ) → slice_get (cond b (0 ∷ map suc ys) (map suc ys)) 0 ≡ first_of b (slice_get ys 0)
first_step true ys = refl
first_step false ys = get_map ys

below_none : (o : Option ℕ) → below 0 o ≡ None
below_none None = refl
below_none (Some k) = rw (no_lt k) refl

below_step : (b : Bool) (n : ℕ) (o p : Option ℕ) → below n o ≡ p → below (suc n) (first_of b o) ≡ first_of b p
below_step true n o p h = rw (zero_lt n) refl
below_step false n o p h = below_suc n o ∙ ap (option_map suc) h

-- the first place in a front
first_in : {X : Type 0} (f : X → List ℕ) (q : List ℕ) (xs : List X) (k : ℕ) → below (length (map f (take k xs))) (slice_get (places q (map f xs)) 0) ≡ slice_get (places q (map f (take k xs))) 0
first_in f q [] zero = refl
first_in f q [] (suc k) = refl
first_in f q (x ∷ xs) zero = below_none (slice_get (places q (map f (x ∷ xs))) 0)
first_in f q (x ∷ xs) (suc k) =
    let b : Bool = same (f x) q in
    ap (below (suc (length (map f (take k xs))))) (first_step b (places q (map f xs)))
    ∙ below_step b (length (map f (take k xs))) _ _ (first_in f q xs k) ∙ sym (first_step b (places q (map f (take k xs))))

-- ---- what stands at the first place

no_choice : {X : Type 0} (b : Bool) (o : Option X) → cond b o o ≡ o
no_choice true o = refl
no_choice false o = refl

past : {X : Type 0} (xs : List X) (k : ℕ) → cond (nat_lt k (length xs)) (slice_get xs k) None ≡ slice_get xs k
past [] k = no_choice (nat_lt k 0) None
past (x ∷ xs) zero = rw (zero_lt (length xs)) refl
past (x ∷ xs) (suc k) = rw (lt_suc k (length xs)) (past xs k)

chosen : {X : Type 0} (g : ℕ → Option X) (b : Bool) (k : ℕ) → option_and_then g (cond b (Some k) None) ≡ cond b (g k) None
chosen g true k = refl
chosen g false k = refl

member_past : {X : Type 0} (xs : List X) (o : Option ℕ) → option_and_then (slice_get xs) (below (length xs) o) ≡ option_and_then (slice_get xs) o
member_past xs None = refl
member_past xs (Some k) = chosen (slice_get xs) (nat_lt k (length xs)) k ∙ past xs k

member_step : {X : Type 0} (b : Bool) (x : X) (xs : List X) (o : Option ℕ) (found : Option X) → found ≡ option_and_then (slice_get xs) o
    → cond b (Some x) found ≡ option_and_then (slice_get (x ∷ xs)) (first_of b o)
member_step true x xs o found h = refl
member_step false x xs None found h = h
member_step false x xs (Some k) found h = h

-- the first member of a name
found_at : {X : Type 0} (f : X → List ℕ) (q : List ℕ) (xs : List X) → find (λ x. same (f x) q) xs ≡ option_and_then (slice_get xs) (slice_get (places q (map f xs)) 0)
found_at f q [] = refl
found_at f q (x ∷ xs) = rw (first_step (same (f x) q) (places q (map f xs))) (member_step (same (f x) q) x xs _ _ (found_at f q xs))

-- the member to which a map leads
pub member_led : {X : Type 0} (f : X → List ℕ) (xs : List X) (m : BTreeMap (String Global) (Vec ℕ Global)) → Leads (map f xs) m → (q : List ℕ)
    → option_and_then (slice_get xs) (slice_get (group q m) 0) ≡ find (λ x. same (f x) q) xs
member_led f xs m leads q =
    let at : below (length xs) (slice_get (group q m) 0) ≡ slice_get (places q (map f xs)) 0 = rw (← length-map xs f) (leads q) in
    sym (member_past xs (slice_get (group q m) 0)) ∙ ap (option_and_then (slice_get xs)) at ∙ sym (found_at f q xs)

-- a map that finds all names leads to those in front
pub front_led : {X : Type 0} (f : X → List ℕ) (xs : List X) (k : ℕ) (m : BTreeMap (String Global) (Vec ℕ Global)) → Finds (map f xs) m → Leads (map f (take k xs)) m
front_led f xs k m finds q = rw (finds q) (first_in f q xs k)

-- an index that may be there
pub front_known : {X : Type 0} (f : X → List ℕ) (xs : List X) (k : ℕ) (o : Option Index) → ForSome o (λ i. Finds (map f xs) i.places) → ForSome o (λ i. Leads (map f (take k xs)) i.places)
front_known f xs k o finds i is = front_led f xs k i.places (finds i is)

-- the index over a whole list
pub all_known : {X : Type 0} (f : X → List ℕ) (xs : List X) (o : Option Index) → ForSome o (λ i. Finds (map f xs) i.places) → ForSome o (λ i. Leads (map f xs) i.places)
all_known {X} f xs o finds i is =
    let all : take (length xs) xs ≡ xs = take_all (length xs) xs (omega arith) in
    let P : List X → Type 0 = λ ys. Leads (map f ys) i.places in
    subst P all (front_led f xs (length xs) i.places (finds i is))

-- an index that was made
pub made : {X : Type 0} (f : X → List ℕ) (xs : List X) (o : Option Index) → IfSome o (λ i. Finds (map f xs) i.places) → ForSome o (λ i. Finds (map f xs) i.places)
made f xs o h i is = MatchOption-at_some _ (λ (x : Index). Finds (map f xs) x.places) i is h

some_step : (b : Bool) (o : Option ℕ) (any : Bool) → any ≡ is_some o → (b || any) ≡ is_some (first_of b o)
some_step true o any h = refl
some_step false None any h = h
some_step false (Some k) any h = h

-- whether a name stands in the list
stands_at : {X : Type 0} (f : X → List ℕ) (q : List ℕ) (xs : List X) → list_any (λ x. same (f x) q) xs ≡ is_some (slice_get (places q (map f xs)) 0)
stands_at f q [] = refl
stands_at f q (x ∷ xs) = rw (first_step (same (f x) q) (places q (map f xs))) (some_step (same (f x) q) (slice_get (places q (map f xs)) 0) (list_any (λ y. same (f y) q) xs) (stands_at f q xs))

-- whether a name stands in a front of the list
pub front_stands : {X : Type 0} (f : X → List ℕ) (xs front : List X) (m : BTreeMap (String Global) (Vec ℕ Global)) → Finds (map f xs) m → IsFront front xs → (q : List ℕ)
    → is_some (below (length front) (slice_get (group q m) 0)) ≡ list_any (λ x. same (f x) q) front
front_stands f xs front m finds (k, is) q =
    let leads : Leads (map f front) m = rw is (front_led f xs k m finds) in
    let at : below (length front) (slice_get (group q m) 0) ≡ slice_get (places q (map f front)) 0 = rw (← length-map front f) (leads q) in
    ap is_some at ∙ sym (stands_at f q front)

-- the member that a map finds
pub member_found : {X : Type 0} (f : X → List ℕ) (xs : List X) (m : BTreeMap (String Global) (Vec ℕ Global)) → Finds (map f xs) m → (q : List ℕ)
    → option_and_then (slice_get xs) (slice_get (group q m) 0) ≡ find (λ x. same (f x) q) xs
member_found f xs m finds q = rw (finds q) (sym (found_at f q xs))
