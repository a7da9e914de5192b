-- The list of tasks as the code changes it, and limits that are told.
use Rattle.std.proofs.Common.{◌≡◌, ℕ, suc, ◌+◌, ◌≤◌, ◌<◌, Bool, true, false, cond, not, List, [], ◌∷◌, ◌++◌, length, reverse, nat_lt, inl, inr, append-nil, Some, None, option_map, sym, ◌∙◌, ap, refl, arith}
use Rattle.std.specs.List.{position, position_or_len}
use Rattle.std.proofs.lemmas.Bool.{ltb-true, ltb-false}
use Rattle.std.proofs.lemmas.List.{append_assoc, length-append, reverse-append, reverse-reverse}
use Rattle.aol_shape.specs.declared.limit.LimitName.{LimitName}
use Rattle.aol_shape.specs.Lists.{same}
use Rattle.aol_model_types.specs.declared.document.Model.{Model}
use Rattle.aol_model_types.specs.declared.task.Task.{Task}
use Rattle.aol_model_types.specs.Rules.{task_name}
use Rattle.aol_flat.specs.Tables.{IsFirstLimit}
use Rattle.aol_change.specs.declared.refused.StepRefused.TheVariants.{Limit}
use Rattle.aol_change.specs.Made.{MatchesLast}
use Rattle.aol_change.specs.Change.{Refused, within_limits, model_limit, put_before}

-- the first limit of the hierarchy is that of the step
pub first_told : (m : Model) (path : List ℕ) (limit : LimitName) → IsFirstLimit m path limit → within_limits m (model_limit m) ≡ Refused (Limit limit)
first_told m path limit h = ap (λ o. within_limits m (option_map (λ l. l.1) o)) h.first

-- one element goes from the end of one list to the end of a reversed one
pub moved_off : {X : Type 0} (all old new rest rest' : List X) (x : X) → all ≡ old ++ reverse rest → old ≡ new ++ x ∷ [] → rest' ≡ rest ++ x ∷ [] → all ≡ new ++ reverse rest'
moved_off all old new rest rest' x h e f =
    h
    ∙ (ap (λ ys. ys ++ reverse rest) e
    ∙ (append_assoc new (x ∷ []) (reverse rest)
    ∙ (ap (λ ys. new ++ ys) (sym (reverse-append rest (x ∷ []))) ∙ ap (λ ys. new ++ reverse ys) (sym f))))

-- and back
pub moved_back : {X : Type 0} (all old new rest rest' : List X) (x : X) → all ≡ old ++ reverse rest → rest ≡ rest' ++ x ∷ [] → new ≡ old ++ x ∷ [] → all ≡ new ++ reverse rest'
moved_back all old new rest rest' x h e f =
    h
    ∙ (ap (λ ys. old ++ reverse ys) e
    ∙ (ap (λ ys. old ++ ys) (reverse-append rest' (x ∷ [])) ∙ (sym (append_assoc old (x ∷ []) (reverse rest')) ∙ ap (λ ys. ys ++ reverse rest') (sym f))))

is_place : (b : Bool) (n k : ℕ) → cond b (Some n) None ≡ Some k → (b ≡ true) × (n ≡ k)
is_place true n k h = let e : n ≡ k = cc in (refl, e)
is_place false n k h = cc

-- the place that is found is within the list
place_within : (name : List ℕ) (ts : List Task) (k : ℕ) → position (λ (t : Task). same (task_name t) name) ts ≡ Some k → k < length ts
place_within name ts k h =
    let n : ℕ = position_or_len (λ (t : Task). same (task_name t) name) ts in
    let r = is_place (nat_lt n (length ts)) n k h in
    let under : n < length ts = ltb-true n (length ts) r.0 in
    omega (arith, under, r.1)

module _ (name : List ℕ) (made : List Task) (changed : Task) where
  abbrev place : List Task → ℕ
  place ts = position_or_len (λ (t : Task). same (task_name t) name) ts

  nowhere : (ts : List Task) → length ts ≤ place ts → put_before ts name made changed ≡ ts
  nowhere [] h = refl
  nowhere (t ∷ ts) h = go (same (task_name t) name) h (nowhere ts)
    where
      go : (b : Bool) → suc (length ts) ≤ cond (not b) (1 + place ts) 0 → (length ts ≤ place ts → put_before ts name made changed ≡ ts)
          → cond b (made ++ changed ∷ ts) (t ∷ put_before ts name made changed) ≡ t ∷ ts
      go true h rest = absurd (omega (arith, h))
      go false h rest = ap (λ ys. t ∷ ys) (rest (omega (arith, h)))

  there : (front rest : List Task) (t : Task) → place (front ++ t ∷ rest) ≡ length front → put_before (front ++ t ∷ rest) name made changed ≡ front ++ made ++ changed ∷ rest
  there [] rest t h = go (same (task_name t) name) h
    where
      go : (b : Bool) → cond (not b) (1 + place rest) 0 ≡ 0 → cond b (made ++ changed ∷ rest) (t ∷ put_before rest name made changed) ≡ made ++ changed ∷ rest
      go true h = refl
      go false h = absurd (omega (arith, h))
  there (x ∷ front) rest t h = go (same (task_name x) name) h (there front rest t)
    where
      go : (b : Bool) → cond (not b) (1 + place (front ++ t ∷ rest)) 0 ≡ suc (length front)
          → (place (front ++ t ∷ rest) ≡ length front → put_before (front ++ t ∷ rest) name made changed ≡ front ++ made ++ changed ∷ rest)
          → cond b (made ++ changed ∷ (front ++ t ∷ rest)) (x ∷ put_before (front ++ t ∷ rest) name made changed) ≡ x ∷ (front ++ made ++ changed ∷ rest)
      go true h later = absurd (omega (arith, h))
      go false h later = ap (λ ys. x ∷ ys) (later (omega (arith, h)))

  -- where no task has the name, nothing is put
  pub put_nowhere : (ts : List Task) → position (λ (t : Task). same (task_name t) name) ts ≡ None → put_before ts name made changed ≡ ts
  put_nowhere ts h = nowhere ts (ltb-false (place ts) (length ts) (short (nat_lt (place ts) (length ts)) (place ts) h))
    where
      short : (b : Bool) (k : ℕ) → cond b (Some k) None ≡ None → b ≡ false
      short true k h = cc
      short false k h = refl

  -- the task at that place gives way
  pub put_there : (ts front rest : List Task) (t : Task) (k : ℕ) → position (λ (u : Task). same (task_name u) name) ts ≡ Some k → length front ≡ k → ts ≡ front ++ t ∷ rest
      → put_before ts name made changed ≡ front ++ made ++ changed ∷ rest
  put_there ts front rest t k h e f =
      let r = is_place (nat_lt (place ts) (length ts)) (place ts) k h in
      ap (λ us. put_before us name made changed) f ∙ there front rest t (ap place (sym f) ∙ (r.1 ∙ sym e))

-- what the steps of the code leave
pub put_done : (tasks slice t1 t2 t3 t4 put rest made : List Task) (name : List ℕ) (changed : Task) (at : ℕ) → slice ≡ tasks
    → Some at ≡ position (λ (t : Task). same (task_name t) name) slice → tasks ++ reverse [] ≡ t1 ++ reverse rest → length t1 ≡ at + 1 → MatchesLast t1 t2
    → t3 ≡ t2 ++ reverse put → t4 ≡ t3 ++ reverse rest → put ≡ reverse (made ++ changed ∷ []) → t4 ≡ put_before tasks name made changed
put_done tasks slice t1 t2 t3 t4 put rest made name changed at s h e l p a b c = go p
  where
    go : MatchesLast t1 t2 → t4 ≡ put_before tasks name made changed
    go (inl none) = absurd (omega (arith, l, ap length none.0))
    go (inr some) =
        let place : position (λ (t : Task). same (task_name t) name) tasks ≡ Some at = sym (h ∙ ap (position (λ (t : Task). same (task_name t) name)) s) in
        let whole : tasks ≡ t2 ++ some.0 ∷ reverse rest =
        sym (append-nil tasks) ∙ (e ∙ (ap (λ ts. ts ++ reverse rest) some.1 ∙ append_assoc t2 (some.0 ∷ []) (reverse rest))) in
        let long : length t2 ≡ at = omega (arith, l, ap length some.1, length-append t2 (some.0 ∷ [])) in
        let news : reverse put ≡ made ++ changed ∷ [] = ap reverse c ∙ reverse-reverse (made ++ changed ∷ []) in
        b
        ∙ (ap (λ ts. ts ++ reverse rest) (a ∙ ap (λ ts. t2 ++ ts) news)
        ∙ (ap (λ ts. ts ++ reverse rest) (sym (append_assoc t2 made (changed ∷ []))) ∙ (append_assoc (t2 ++ made) (changed ∷ []) (reverse rest)
        ∙ sym (put_there name made changed tasks t2 (reverse rest) some.0 at place long whole))))

pub put_none : (tasks slice made : List Task) (name : List ℕ) (changed : Task) → slice ≡ tasks → None ≡ position (λ (t : Task). same (task_name t) name) slice
    → tasks ≡ put_before tasks name made changed
put_none tasks slice made name changed s h = sym (put_nowhere name made changed tasks (sym (h ∙ ap (position (λ (t : Task). same (task_name t) name)) s)))

pub within_all : (tasks slice : List Task) (name : List ℕ) (at : ℕ) → slice ≡ tasks → Some at ≡ position (λ (t : Task). same (task_name t) name) slice → at + 1 ≤ length tasks
within_all tasks slice name at s h = omega (arith, place_within name slice at (sym h), ap length s)
