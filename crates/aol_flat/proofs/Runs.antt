-- Cells along the last index, route by route.
use Rattle.std.proofs.Common.{◌≡◌, ℕ, zero, suc, ◌+◌, ◌*◌, ◌^◌, ◌<◌, ◌≤◌, List, [], ◌∷◌, ◌++◌, length, map, get_or, set, Some, slice_get, sym, ◌∙◌, ap, refl, arith, subst, inl, inr}
use Rattle.std.specs.List.{AllByRecursion, AllZip}
use Rattle.std.proofs.lemmas.Bool.{cases_lt}
use Rattle.std.proofs.lemmas.List.{length-map, length-append, get_or-set_same, get_or-set_other}
use Rattle.std.proofs.lemmas.Option.{slice_get_within}
use Rattle.aol_trail.specs.Further.{further}
use Rattle.aol_trail.specs.Trail.{StepOf, TrailOf, IsStepAt, IsTrailAt, Reaches, base_at, cell_on, step_at, trail_at}
use Rattle.aol_trail.proofs.Stretches.{further_none}
use Rattle.aol_flat.specs.declared.route.Route.{Route}
use Rattle.aol_flat.specs.Route.{CanGive, AreTrailCells}
use Rattle.aol_flat.specs.Run.{CanFill, HoldsAt, IsMovedTo, run_of, runs}
use Rattle.aol_flat.proofs.Routes.{steps_moved, steps_there}

-- ---- a trail that goes to one instance after another

pub trail_twice : (a b : List ℕ) (t : TrailOf) → trail_at a (trail_at b t) ≡ trail_at a t
trail_twice a b t = ap (λ ss. record t { steps = ss; base = base_at a t }) (steps_moved a b t.steps)

pub there_moved : (a b : List ℕ) (t new : TrailOf) → new ≡ trail_at b t → IsTrailAt a t → IsTrailAt a new
there_moved a b t new is h =
    subst (IsTrailAt a) (sym is) (record { steps = steps_there a b t.steps h.steps; enough = h.enough; inside = h.inside; low = h.low; small = h.small })

pub stands_moved : (a : List ℕ) (t new : TrailOf) → new ≡ trail_at a t → trail_at a new ≡ new
stands_moved a t new is = ap (trail_at a) is ∙ (trail_twice a a t ∙ sym is)

pub gives_moved : (a b : List ℕ) (t new : TrailOf) (n : ℕ) → new ≡ trail_at b t → CanGive (trail_at a t) n → CanGive (trail_at a new) n
gives_moved a b t new n is h = let same : trail_at a t ≡ trail_at a new = sym (ap (trail_at a) is ∙ trail_twice a b t) in subst (λ (z : TrailOf). CanGive z n) same h

pub gives_here : (at : List ℕ) (t new : TrailOf) (n : ℕ) → new ≡ trail_at at t → CanGive (trail_at (further 0 at) t) n → CanGive new n
gives_here at t new n is h = let same : trail_at (further 0 at) t ≡ new = ap (λ a. trail_at a t) (further_none at) ∙ sym is in subst (λ (z : TrailOf). CanGive z n) same h

-- ---- the cells of a route

-- an entry of a list that is mapped
record IsMapped (f : ℕ → ℕ) (xs : List ℕ) (x y : ℕ) : Type 0 where
  old : ℕ
  got : slice_get xs x ≡ Some old
  is : y ≡ f old

map_get : (f : ℕ → ℕ) (xs : List ℕ) (x y : ℕ) → slice_get (map f xs) x ≡ Some y → IsMapped f xs x y
map_get f [] x y h = absurd (omega (arith, slice_get_within (map f []) x y h))
map_get f (z ∷ xs) zero y h = let e : Some (f z) ≡ Some y = h in let g : f z ≡ y = cc in record { old = z; got = refl; is = sym g }
map_get f (z ∷ xs) (suc x) y h = let m = map_get f xs x y h in record { old = m.old; got = m.got; is = m.is }

pub run_holds : (t new : TrailOf) (at cells : List ℕ) (i n stride : ℕ) → new ≡ trail_at at t → AreTrailCells new cells → length cells ≡ n
    → ((x : ℕ) → x < n → cell_on (trail_at (further i at) new) x ≡ cell_on new x + i * stride) → AreTrailCells (trail_at (further i at) t) (map (λ c. c + i * stride) cells)
run_holds t new at cells i n stride is are count even x cell got =
    let m = map_get (λ c. c + i * stride) cells x cell got in
    let low : x < n = omega (arith, slice_get_within cells x m.old m.got, count) in
    let same : trail_at (further i at) new ≡ trail_at (further i at) t = ap (trail_at (further i at)) is ∙ trail_twice (further i at) at t in
    m.is ∙ (ap (λ c. c + i * stride) (are x m.old m.got) ∙ (sym (even x low) ∙ ap (λ (z : TrailOf). cell_on z x) same))

-- ---- all routes

pub fill_less : (at : List ℕ) (most less : ℕ) (ws : List Route) → less ≤ most → AllByRecursion (CanFill at most) ws → AllByRecursion (CanFill at less) ws
fill_less at most less [] le h = tt
fill_less at most less (w ∷ ws) le h = (record { there = h.0.there; few = h.0.few; gives = λ i low. h.0.gives i (omega (arith, low, le)) }, fill_less at most less ws le h.1)

fill_at : (at : List ℕ) (most k : ℕ) (ws : List Route) (d : Route) → AllByRecursion (CanFill at most) ws → k < length ws → CanFill at most (get_or ws k d)
fill_at at most k [] d h low = absurd (omega (arith, low))
fill_at at most zero (w ∷ ws) d h low = h.0
fill_at at most (suc k) (w ∷ ws) d h low = fill_at at most k ws d h.1 (omega (arith, low))

-- the next route can be filled
pub next_fills : (at : List ℕ) (most run k : ℕ) (old routes : List Route) (d : Route) → AllByRecursion (CanFill at most) old → run ≤ most → k < length old → get_or routes k d ≡ get_or old k d → CanFill at run (get_or routes k d)
next_fills at most run k old routes d h le low same = subst (CanFill at run) (sym same) (fill_at at run k old d (fill_less at most run old le h) low)

module _ (R : Route → Route → Type 0) (old routes : List Route) (k : ℕ) (v : Route) (low : k < length routes) where
  -- what holds of the routes before and of the next one
  pub one_more : ((j : ℕ) (d : Route) → j < k → R (get_or old j d) (get_or routes j d)) → ((d : Route) → R (get_or old k d) v) → (j : ℕ) (d : Route) → j < k + 1 → R (get_or old j d) (get_or (set routes k v) j d)
  one_more before own j d less =
      elim (cases_lt j k) [
        | inl lower ↦ subst (R (get_or old j d)) (sym (get_or-set_other routes k j v d (omega (arith, lower)))) (before j d lower)
        | inr upper ↦
            let same : k ≡ j = omega (arith, less, upper) in
            subst (λ n. R (get_or old n d) (get_or (set routes k v) n d)) same (subst (R (get_or old k d)) (sym (get_or-set_same routes k v d low)) (own d))
      ]

pub rest_more : (old routes : List Route) (k : ℕ) (v : Route) → ((j : ℕ) (d : Route) → k ≤ j → get_or routes j d ≡ get_or old j d) → (j : ℕ) (d : Route) → k + 1 ≤ j → get_or (set routes k v) j d ≡ get_or old j d
rest_more old routes k v rest j d le = get_or-set_other routes k j v d (omega (arith, le)) ∙ rest j d (omega (arith, le))

pub zip_each : (R : Route → Route → Type 0) (xs ys : List Route) → length xs ≡ length ys → ((j : ℕ) (d : Route) → j < length xs → R (get_or xs j d) (get_or ys j d)) → AllZip R xs ys
zip_each R [] [] e h = tt
zip_each R [] (y ∷ ys) e h = absurd (omega (arith, e))
zip_each R (x ∷ xs) [] e h = absurd (omega (arith, e))
zip_each R (x ∷ xs) (y ∷ ys) e h = (h 0 x (omega arith), zip_each R xs ys (omega (arith, e)) (λ j d low. h (suc j) d (omega (arith, low))))

-- ---- the cells of an instance

-- what holds of two lists one after another
pub record OfBoth (P : ℕ → Type 0) (xs ys : List ℕ) : Type 0 where
  pub front : AllByRecursion P xs
  pub back : AllByRecursion P ys

pub all_both : (P : ℕ → Type 0) (xs ys : List ℕ) → AllByRecursion P (xs ++ ys) → OfBoth P xs ys
all_both P [] ys h = record { front = tt; back = h }
all_both P (x ∷ xs) ys h = let b = all_both P xs ys h.1 in record { front = (h.0, b.front); back = b.back }

all_unmapped : (P : ℕ → Type 0) (f : ℕ → ℕ) (xs : List ℕ) → AllByRecursion P (map f xs) → AllByRecursion (λ x. P (f x)) xs
all_unmapped P f [] h = tt
all_unmapped P f (x ∷ xs) h = (h.0, all_unmapped P f xs h.1)

-- the first of some routes, and the others
pub record IsFirstRun (i : ℕ) (w : Route) (ws : List Route) (cells : List ℕ) (many more n : ℕ) : Type 0 where
  pub small : AllByRecursion (λ c. c + more < 2 ^ 32) cells
  pub later_small : AllByRecursion (λ c. c < 2 ^ 32) (runs i ws)
  pub count : n ≡ length cells + length (runs i ws)

pub first_run : (i : ℕ) (routes : List Route) (w : Route) (ws : List Route) (cells : List ℕ) (many more n : ℕ) → routes ≡ w ∷ ws → cells ≡ w.cells.items → more ≡ i * w.stride → n ≡ length (runs i routes)
    → AllByRecursion (λ c. c < 2 ^ 32) (runs i routes) → IsFirstRun i w ws cells many more n
first_run i routes w ws cells many more n e f g count small =
    let all : AllByRecursion (λ c. c < 2 ^ 32) (run_of i w ++ runs i ws) = subst (λ rs. AllByRecursion (λ c. c < 2 ^ 32) (runs i rs)) e small in
    let both = all_both (λ c. c < 2 ^ 32) (run_of i w) (runs i ws) all in
    let own : AllByRecursion (λ c. c + i * w.stride < 2 ^ 32) w.cells.items = all_unmapped (λ c. c < 2 ^ 32) (λ c. c + i * w.stride) w.cells.items both.front in
    let whole : length (runs i routes) ≡ length (run_of i w) + length (runs i ws) = ap (λ rs. length (runs i rs)) e ∙ length-append (run_of i w) (runs i ws) in
    record {
      small = subst (λ m. AllByRecursion (λ c. c + m < 2 ^ 32) cells) (sym g) (subst (λ zs. AllByRecursion (λ c. c + i * w.stride < 2 ^ 32) zs) (sym f) own);
      later_small = both.back;
      count = omega (arith, count, whole, length-map w.cells.items (λ c. c + i * w.stride), ap (length {A = ℕ}) f);
    }
