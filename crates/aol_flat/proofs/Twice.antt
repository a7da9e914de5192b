-- A point that is written twice is found.
use Rattle.std.proofs.Common.{◌≡◌, ℕ, zero, suc, ◌+◌, ◌<◌, Bool, true, false, cond, List, [], ◌∷◌, ◌++◌, length, map, Option, Some, None, slice_get, option_map, sym, ◌∙◌, ap, refl, arith, subst}
use Rattle.std.specs.List.{IsAmong}
use Rattle.std.proofs.lemmas.List.{append_assoc, length-append}
use Rattle.std.proofs.lemmas.Option.{none-some, slice_get_within}
use Rattle.aol_shape.specs.Lists.{same, first_some}
use Rattle.aol_model_types.specs.declared.document.Model.{Model}
use Rattle.aol_flat.specs.Targets.{Writing, Target, Twice, targets, earlier_writing, first_repeat, target_twice, first_twice, IsSingleAssignment, TwiceIsFound}
use Rattle.aol_flat.proofs.Agree.{IsAmong-tail}
use Rattle.aol_flat.proofs.Names.{same-self, same-equal, slice_get-left, slice_get-right}

-- an earlier writing of the point stands in the list
pub earlier_at : (ws : List Writing) (x : List ℕ) (w : Writing) → earlier_writing ws x ≡ Some w → (j : ℕ) × (slice_get ws j ≡ Some w) × (w.1 ≡ x)
earlier_at [] x w h = absurd (none-some w h)
earlier_at (v ∷ ws) x w h = go (same v.1 x) refl h (earlier_at ws x w)
  where
    go : (b : Bool) → same v.1 x ≡ b → cond b (Some v) (earlier_writing ws x) ≡ Some w → (earlier_writing ws x ≡ Some w → (j : ℕ) × (slice_get ws j ≡ Some w) × (w.1 ≡ x))
        → (j : ℕ) × (slice_get (v ∷ ws) j ≡ Some w) × (w.1 ≡ x)
    go true e k rest = let f : v ≡ w = cc in (0, ap Some f, ap (λ (u : Writing). u.1) (sym f) ∙ same-equal v.1 x e)
    go false e k rest = let r = rest k in (suc r.0, r.1, r.2)

-- where none is found, none has the point
pub none_earlier : (ws : List Writing) (x : List ℕ) → earlier_writing ws x ≡ None → (j : ℕ) (w : Writing) → slice_get ws j ≡ Some w → w.1 ≡ x → ⊥
none_earlier [] x h j w at e = none-some w at
none_earlier (v ∷ ws) x h j w at e = go (same v.1 x) refl h (none_earlier ws x) j at
  where
    go : (b : Bool) → same v.1 x ≡ b → cond b (Some v) (earlier_writing ws x) ≡ None → (earlier_writing ws x ≡ None → (j : ℕ) (w : Writing) → slice_get ws j ≡ Some w → w.1 ≡ x → ⊥)
        → (j : ℕ) → slice_get (v ∷ ws) j ≡ Some w → ⊥
    go true f k rest j a = cc
    go false f k rest zero a =
        let first : v ≡ w = cc in
        let told : same v.1 x ≡ true = ap (λ (y : List ℕ). same y x) (ap (λ (u : Writing). u.1) first ∙ e) ∙ same-self x in
        let no : false ≡ true = sym f ∙ told in
        cc
    go false f k rest (suc j) a = rest k j w a e

-- two different places of a list with one point
record Repeats (ws : List Writing) : Type 0 where
  first : ℕ
  second : ℕ
  apart : first < second
  one : Writing
  other : Writing
  at_first : slice_get ws first ≡ Some one
  at_second : slice_get ws second ≡ Some other
  same_point : one.1 ≡ other.1

-- what is found repeats
found_repeats : (seen ws : List Writing) (p : Writing × Writing) → first_repeat seen ws ≡ Some p → Repeats (seen ++ ws)
found_repeats seen [] p h = absurd (none-some p h)
found_repeats seen (w ∷ ws) p h = go (earlier_writing seen w.1) refl (found_repeats (seen ++ w ∷ []) ws p) h
  where
    go : (o : Option Writing) → earlier_writing seen w.1 ≡ o → (first_repeat (seen ++ w ∷ []) ws ≡ Some p → Repeats (seen ++ w ∷ [] ++ ws))
        → (elim o [ Some before ↦ Some (before, w) | None ↦ first_repeat (seen ++ w ∷ []) ws ]) ≡ Some p → Repeats (seen ++ w ∷ ws)
    go (Some before) e rest k =
        let r = earlier_at seen w.1 before e in
        record {
          first = r.0;
          second = length seen + 0;
          apart = omega (arith, slice_get_within seen r.0 before r.1);
          one = before;
          other = w;
          at_first = slice_get-left seen (w ∷ ws) r.0 before r.1;
          at_second = slice_get-right seen (w ∷ ws) 0;
          same_point = r.2;
        }
    go None e rest k = let P : List Writing → Type 0 = λ xs. Repeats xs in subst P (append_assoc seen (w ∷ []) ws) (rest k)

-- an element under the length of the first of two lists is one of that
under_left : (xs ys : List Writing) (j : ℕ) (x : Writing) → j < length xs → slice_get (xs ++ ys) j ≡ Some x → slice_get xs j ≡ Some x
under_left [] ys j x l at = absurd (omega (arith, l))
under_left (y ∷ xs) ys zero x l at = at
under_left (y ∷ xs) ys (suc j) x l at = under_left xs ys j x (omega (arith, l)) at

-- where none is found, no place of the list has the point of an earlier one
none_repeats : (seen ws : List Writing) → first_repeat seen ws ≡ None → (k : ℕ) (w : Writing) → slice_get ws k ≡ Some w → (j : ℕ) (v : Writing) → j < length seen + k → slice_get (seen ++ ws) j ≡ Some v
    → v.1 ≡ w.1 → ⊥
none_repeats seen [] h k w at j v l bt e = none-some w at
none_repeats seen (x ∷ ws) h k w at j v l bt e = go (earlier_writing seen x.1) refl h (none_repeats (seen ++ x ∷ []) ws) k at l
  where
    go : (o : Option Writing) → earlier_writing seen x.1 ≡ o → ◌≡◌ {A = Option (Writing × Writing)} (elim o [ Some before ↦ Some (before, x) | None ↦ first_repeat (seen ++ x ∷ []) ws ]) None
        → (first_repeat (seen ++ x ∷ []) ws ≡ None → (k : ℕ) (w : Writing) → slice_get ws k ≡ Some w → (j : ℕ) (v : Writing) → j < length (seen ++ x ∷ []) + k → slice_get (seen ++ x ∷ [] ++ ws) j ≡ Some v → v.1 ≡ w.1 → ⊥)
        → (k : ℕ) → slice_get (x ∷ ws) k ≡ Some w → j < length seen + k → ⊥
    go (Some before) f g rest k a l = cc
    go None f g rest zero a l =
        let here : x ≡ w = cc in
        none_earlier seen x.1 f j v (under_left seen (x ∷ ws) j v (omega (arith, l)) bt) (e ∙ ap (λ (u : Writing). u.1) (sym here))
    go None f g rest (suc k) a l =
        let longer : length (seen ++ x ∷ []) ≡ length seen + 1 = length-append seen (x ∷ []) in
        rest g k w a j v (omega (arith, longer, l)) (ap (λ xs. slice_get xs j) (append_assoc seen (x ∷ []) ws) ∙ bt) e

-- ---- the first of the targets

-- where none of the answers is there, each isn't
none_each : {X Y : Type 0} (f : X → Option Y) (xs : List X) (x : X) → first_some (map f xs) ≡ None → IsAmong xs x → f x ≡ None
none_each f [] x h a = absurd (omega (arith, a.1.0))
none_each {Y = Y} f (y ∷ xs) x h a = go (f y) refl h a (none_each f xs x)
  where
    go : (o : Option Y) → f y ≡ o → first_some (o ∷ map f xs) ≡ None → IsAmong (y ∷ xs) x → (first_some (map f xs) ≡ None → IsAmong xs x → f x ≡ None) → f x ≡ None
    go (Some z) e k a rest = cc
    go None e k (zero, b) rest = ap f b.1 ∙ e
    go None e k (suc i, b) rest = rest k (i, (omega (arith, b.0), b.1))

-- where one is there, it is that of some member
some_of : {X Y : Type 0} (f : X → Option Y) (xs : List X) (y : Y) → first_some (map f xs) ≡ Some y → (x : X) × IsAmong xs x × (f x ≡ Some y)
some_of f [] y h = cc
some_of {X = X} {Y = Y} f (x ∷ xs) y h = go (f x) refl h (some_of f xs y)
  where
    go : (o : Option Y) → f x ≡ o → first_some (o ∷ map f xs) ≡ Some y → (first_some (map f xs) ≡ Some y → (z : X) × IsAmong xs z × (f z ≡ Some y)) → (z : X) × IsAmong (x ∷ xs) z × (f z ≡ Some y)
    go (Some z) e k rest = (x, (0, (omega arith, refl)), e ∙ k)
    go None e k rest = let r = rest k in (r.0, IsAmong-tail x xs r.0 r.1, r.2)

pair_none : {X Y : Type 0} (f : X → Y) (o : Option X) → option_map f o ≡ None → o ≡ None
pair_none f None h = refl
pair_none f (Some x) h = cc

pair_some : {X Y : Type 0} (f : X → Y) (o : Option X) (y : Y) → option_map f o ≡ Some y → (x : X) × (o ≡ Some x)
pair_some f None y h = cc
pair_some f (Some x) y h = (x, refl)

abbrev as_twice : Target → Writing × Writing → Twice
as_twice t p = record { target = t; first = p.0.0; second = p.1.0; point = p.1.1 }

none_single : (m : Model) → first_twice m ≡ None → IsSingleAssignment m
none_single m h w =
    let none = pair_none (as_twice w.target) (first_repeat [] w.target.writings) (none_each target_twice (targets m) w.target h w.listed) in
    none_repeats [] w.target.writings none w.second w.other w.at_second w.first w.one (omega (arith, w.apart)) w.at_first w.same_point

single_none : (m : Model) → IsSingleAssignment m → first_twice m ≡ None
single_none m single = go (first_twice m) refl
  where
    go : (o : Option Twice) → first_twice m ≡ o → first_twice m ≡ None
    go None e = e
    go (Some t) e =
        let target = some_of target_twice (targets m) t e in
        let pair = pair_some (as_twice target.0) (first_repeat [] target.0.writings) t target.2 in
        let r = found_repeats [] target.0.writings pair.0 pair.1 in
        absurd (single (record {
          target = target.0;
          listed = target.1;
          first = r.first;
          second = r.second;
          apart = r.apart;
          one = r.one;
          other = r.other;
          at_first = r.at_first;
          at_second = r.at_second;
          same_point = r.same_point;
        }))

pub twice_is_found : TwiceIsFound
twice_is_found m = (none_single m, single_none m)
