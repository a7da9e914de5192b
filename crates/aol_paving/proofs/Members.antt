-- Members of lists.
use Rattle.std.proofs.Common.{◌≡◌, zero, suc, ◌+◌, ◌≤◌, Bool, true, false, cond, ◌||◌, List, [], ◌∷◌, ◌++◌, map, filter_map, Option, Some, None, sym, ◌∙◌, ap, refl, arith, subst}
use Rattle.std.specs.List.{IsAmong, AllByRecursion, list_all, list_any, count_by, cons_option}
use Rattle.std.proofs.lemmas.List.Sums.{sum_by-cons, sum_by-append}
use Rattle.aol_flat.proofs.Inside.{among_right}
use Rattle.aol_flat.proofs.Once.{counted}
use Rattle.aol_flat.proofs.Truth.{both}

-- what holds of each member of a list
pub all_among : {X : Type 0} (P : X → Type 0) (xs : List X) → ((x : X) → IsAmong xs x → P x) → AllByRecursion P xs
all_among P [] f = tt
all_among P (x ∷ xs) f = (f x (0, (omega arith, refl)), all_among P xs (λ y a. f y (suc a.0, (omega (arith, a.1.0), a.1.1))))

pub one_of_all : {X : Type 0} (P : X → Type 0) (xs : List X) (x : X) → AllByRecursion P xs → IsAmong xs x → P x
one_of_all P [] x h a = absurd (omega (arith, a.1.0))
one_of_all P (y ∷ xs) x h (zero, a) = subst P (sym a.1) h.0
one_of_all P (y ∷ xs) x h (suc i, a) = one_of_all P xs x h.1 (i, (omega (arith, a.0), a.1))

-- what holds of what is made of each member
pub all_made : {X Y : Type 0} (P : Y → Type 0) (f : X → Y) (xs : List X) → ((x : X) → IsAmong xs x → P (f x)) → AllByRecursion P (map f xs)
all_made P f [] h = tt
all_made P f (x ∷ xs) h = (h x (0, (omega arith, refl)), all_made P f xs (λ y a. h y (suc a.0, (omega (arith, a.1.0), a.1.1))))

pub all_pass : {X : Type 0} (test : X → Bool) (xs : List X) → ((x : X) → IsAmong xs x → test x ≡ true) → list_all test xs ≡ true
all_pass test [] h = refl
all_pass test (x ∷ xs) h = both (test x) (list_all test xs) (h x (0, (omega arith, refl))) (all_pass test xs (λ y a. h y (suc a.0, (omega (arith, a.1.0), a.1.1))))

-- some member passes
pub any_there : {X : Type 0} (test : X → Bool) (xs : List X) → list_any test xs ≡ true → (x : X) × IsAmong xs x × (test x ≡ true)
any_there test [] h = cc
any_there {X = X} test (x ∷ xs) h = go (test x) refl h (any_there test xs)
  where
    go : (b : Bool) → test x ≡ b → (b || list_any test xs) ≡ true → (list_any test xs ≡ true → (y : X) × IsAmong xs y × (test y ≡ true)) → (y : X) × IsAmong (x ∷ xs) y × (test y ≡ true)
    go true e k rest = (x, (0, (omega arith, refl)), e)
    go false e k rest = let r = rest k in (r.0, (suc r.1.0, (omega (arith, r.1.1.0), r.1.1.1)), r.2)

pub there_any : {X : Type 0} (test : X → Bool) (xs : List X) (x : X) → IsAmong xs x → test x ≡ true → list_any test xs ≡ true
there_any test [] x a e = absurd (omega (arith, a.1.0))
there_any test (y ∷ xs) x (zero, a) e = ap (λ b. b || list_any test xs) (ap test (sym a.1) ∙ e)
there_any test (y ∷ xs) x (suc i, a) e = or_right (test y) (list_any test xs) (there_any test xs x (i, (omega (arith, a.0), a.1)) e)
  where
    or_right : (b c : Bool) → c ≡ true → (b || c) ≡ true
    or_right true c h = refl
    or_right false c h = h

pub any_map : {X Y : Type 0} (f : X → Y) (test : Y → Bool) (xs : List X) → list_any test (map f xs) ≡ list_any (λ x. test (f x)) xs
any_map f test [] = refl
any_map f test (x ∷ xs) = ap (λ b. test (f x) || b) (any_map f test xs)

pub count_map : {X Y : Type 0} (f : X → Y) (test : Y → Bool) (xs : List X) → count_by test (map f xs) ≡ count_by (λ x. test (f x)) xs
count_map f test [] = refl
count_map f test (x ∷ xs) =
    sum_by-cons (λ y. cond (test y) 1 0) (f x) (map f xs)
    ∙ (ap (λ n. cond (test (f x)) 1 0 + n) (count_map f test xs) ∙ sym (sum_by-cons (λ y. cond (test (f y)) 1 0) x xs))

pub same_count : {X : Type 0} (p q : X → Bool) → ((x : X) → p x ≡ q x) → (xs : List X) → count_by p xs ≡ count_by q xs
same_count p q e [] = refl
same_count p q e (x ∷ xs) =
    sum_by-cons (λ y. cond (p y) 1 0) x xs
    ∙ (ap (λ (b : Bool). cond b 1 0 + count_by p xs) (e x) ∙ (ap (λ n. cond (q x) 1 0 + n) (same_count p q e xs) ∙ sym (sum_by-cons (λ y. cond (q y) 1 0) x xs)))

pub count_both : {X : Type 0} (test : X → Bool) (xs ys : List X) → count_by test (xs ++ ys) ≡ count_by test xs + count_by test ys
count_both test xs ys = sum_by-append (λ x. cond (test x) 1 0) xs ys

-- a member that passes stands after others
pub at_split : {X : Type 0} (xs b r : List X) (x : X) → xs ≡ b ++ x ∷ r → IsAmong xs x
at_split {X = X} xs b r x split = let P : List X → Type 0 = λ ys. IsAmong ys x in subst P (sym split) (among_right b (x ∷ r) x (0, (omega arith, refl)))

-- where one passes alone, none before it does
pub none_before : {X : Type 0} (test : X → Bool) (xs b r : List X) (x : X) → xs ≡ b ++ x ∷ r → test x ≡ true → count_by test xs ≤ 1 → list_any test b ≡ false
none_before test xs b r x split e few = go (list_any test b) refl
  where
    go : (c : Bool) → list_any test b ≡ c → list_any test b ≡ false
    go false k = k
    go true k =
        let y = any_there test b k in
        let front = counted test b y.0 y.1 y.2 in
        let back = counted test (x ∷ r) x (0, (omega arith, refl)) e in
        absurd (omega (arith, front, back, count_both test b (x ∷ r), ap (count_by test) split, few))

-- a member of a list that is changed, by the list
pub record MappedAt {X Y : Type 0} (f : X → Y) (xs : List X) (front : List Y) (y : Y) : Type 0 where
  pub before : List X
  pub member : X
  pub rest : List X
  pub split : xs ≡ before ++ member ∷ rest
  pub front_is : front ≡ map f before
  pub is : y ≡ f member

pub mapped_at : {X Y : Type 0} (f : X → Y) (xs : List X) (front rest : List Y) (y : Y) → map f xs ≡ front ++ y ∷ rest → MappedAt f xs front y
mapped_at f [] [] rest y h = cc
mapped_at f [] (z ∷ front) rest y h = cc
mapped_at f (x ∷ xs) [] rest y h = let is : f x ≡ y = cc in record { before = []; member = x; rest = xs; split = refl; front_is = refl; is = sym is }
mapped_at f (x ∷ xs) (z ∷ front) rest y h =
    let first : f x ≡ z = cc in
    let tail : map f xs ≡ front ++ y ∷ rest = cc in
    let r = mapped_at f xs front rest y tail in
    record { before = x ∷ r.before; member = r.member; rest = r.rest; split = ap (λ ys. x ∷ ys) r.split; front_is = ap (λ w. w ∷ front) (sym first) ∙ ap (λ ys. f x ∷ ys) r.front_is; is = r.is }

-- a member of a list of what some give
pub given_by : {X Y : Type 0} (f : X → Option Y) (xs : List X) (y : Y) → IsAmong (filter_map f xs) y → (x : X) × IsAmong xs x × (f x ≡ Some y)
given_by f [] y a = absurd (omega (arith, a.1.0))
given_by {X = X} {Y = Y} f (x ∷ xs) y a = go (f x) refl a (given_by f xs y)
  where
    later : (z : X) × IsAmong xs z × (f z ≡ Some y) → (z : X) × IsAmong (x ∷ xs) z × (f z ≡ Some y)
    later r = (r.0, (suc r.1.0, (omega (arith, r.1.1.0), r.1.1.1)), r.2)

    go : (o : Option Y) → f x ≡ o → IsAmong (cons_option o (filter_map f xs)) y → (IsAmong (filter_map f xs) y → (z : X) × IsAmong xs z × (f z ≡ Some y)) → (z : X) × IsAmong (x ∷ xs) z × (f z ≡ Some y)
    go None e b rest = later (rest b)
    go (Some w) e (zero, b) rest = (x, (0, (omega arith, refl)), e ∙ ap (λ v. Some v) (sym b.1))
    go (Some w) e (suc i, b) rest = later (rest (i, (omega (arith, b.0), b.1)))

pub gives_there : {X Y : Type 0} (f : X → Option Y) (xs : List X) (x : X) (y : Y) → IsAmong xs x → f x ≡ Some y → IsAmong (filter_map f xs) y
gives_there f [] x y a e = absurd (omega (arith, a.1.0))
gives_there f (z ∷ xs) x y (zero, a) e = let here : f z ≡ Some y = ap f (sym a.1) ∙ e in rw here (0, (omega arith, refl))
gives_there {Y = Y} f (z ∷ xs) x y (suc i, a) e = go (f z) (gives_there f xs x y (i, (omega (arith, a.0), a.1)) e)
  where
    go : (o : Option Y) → IsAmong (filter_map f xs) y → IsAmong (cons_option o (filter_map f xs)) y
    go None b = b
    go (Some w) b = (suc b.0, (omega (arith, b.1.0), b.1.1))
