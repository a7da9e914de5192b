-- Instances that put their values one after another.
use Rattle.std.proofs.Common.{◌≡◌, ℕ, ◌+◌, ◌<◌, ◌≤◌, List, [], ◌∷◌, ◌++◌, flat_map, length, take, drop, get_or, set, refl, sym, ◌∙◌, ap, arith}
use Rattle.std.proofs.lemmas.List.{append-nil, append_assoc, length-append, take-append-drop, take_more}
use Rattle.std.proofs.Math.Seq.{take-append_seam}
use Rattle.std.proofs.lemmas.Grind.{flat_map-append}
use Rattle.aol_level.specs.Puts.{put_from}
use Rattle.aol_level.specs.declared.kept.Kept.{Kept}
use Rattle.aol_level.proofs.Putting.{put_from-append}
use Rattle.aol_level.proofs.Lists.{Has, has_head, has_tail}

set_at : {X : Type 0} (front back : List X) (b x : X) → set (front ++ b ∷ back) (length front) x ≡ front ++ x ∷ back
set_at [] back b x = refl
set_at {X = X} (a ∷ front) back b x = ap (λ (xs : List X). a ∷ xs) (set_at front back b x)

put_behind : (front back xs : List Kept) (place : ℕ) → place ≡ length front → length xs ≡ length back → put_from (front ++ back) place xs ≡ front ++ xs
put_behind front [] [] place at many = refl
put_behind front [] (x ∷ xs) place at many = absurd (omega (arith, many))
put_behind front (b ∷ back) [] place at many = absurd (omega (arith, many))
put_behind front (b ∷ back) (x ∷ xs) place at many =
    let set : set (front ++ b ∷ back) place x ≡ (front ++ x ∷ []) ++ back = ap (λ p. set (front ++ b ∷ back) p x) at ∙ (set_at front back b x ∙ sym (append_assoc front (x ∷ []) back)) in
    let next : place + 1 ≡ length (front ++ x ∷ []) = omega (arith, at, length-append front (x ∷ [])) in
    ap (λ old. put_from old (place + 1) xs) set ∙ (put_behind (front ++ x ∷ []) back xs (place + 1) next (omega (arith, many)) ∙ append_assoc front (x ∷ []) xs)

-- as many as there are places
pub put_all : (old xs : List Kept) → length xs ≡ length old → put_from old 0 xs ≡ xs
put_all old xs many = put_behind [] old xs 0 refl many

-- the items up to one more, whose number is i
module _ {X : Type 0} (g : ℕ → List X) (js : List ℕ) (i : ℕ) (lt : i < length js) where
  pub flat_more : flat_map g (take (i + 1) js) ≡ flat_map g (take i js) ++ g (get_or js i 0)
  flat_more = ap (flat_map g) (take_more js i 0 lt) ∙ (flat_map-append g (take i js) (get_or js i 0 ∷ []) ∙ ap (λ xs. flat_map g (take i js) ++ xs) (append-nil (g (get_or js i 0))))

  -- there is room for the next one
  pub room_next : length (flat_map g (take i js)) + length (g (get_or js i 0)) ≤ length (flat_map g js)
  room_next =
      let whole : flat_map g js ≡ flat_map g (take (i + 1) js) ++ flat_map g (drop (i + 1) js) = ap (flat_map g) (sym (take-append-drop (i + 1) js)) ∙ flat_map-append g (take (i + 1) js) (drop (i + 1) js) in
      omega (arith, ap length whole, length-append (flat_map g (take (i + 1) js)) (flat_map g (drop (i + 1) js)), ap length flat_more, length-append (flat_map g (take i js)) (g (get_or js i 0)))

  pub place_next : (place count next : ℕ) → place ≡ length (flat_map g (take i js)) → count ≡ length (g (get_or js i 0)) → next ≡ place + count → next ≡ length (flat_map g (take (i + 1) js))
  place_next place count next at many sum = omega (arith, at, many, sum, ap length flat_more, length-append (flat_map g (take i js)) (g (get_or js i 0)))

pub flat_lengths : {X Y : Type 0} (g : ℕ → List X) (h : ℕ → List Y) (js : List ℕ) → ((j : ℕ) → Has js j → length (g j) ≡ length (h j)) → length (flat_map g js) ≡ length (flat_map h js)
flat_lengths g h [] same = refl
flat_lengths g h (j ∷ js) same =
    length-append (g j) (flat_map g js) ∙ (ap (λ n. n + length (flat_map g js)) (same j (has_head j js)) ∙ (ap (λ n. length (h j) + n) (flat_lengths g h js (λ k a. same k (has_tail j k js a))) ∙ sym (length-append (h j) (flat_map h js))))

pub values_next : (g : ℕ → List Kept) (js : List ℕ) (i place : ℕ) (old now next : List Kept) → i < length js → place ≡ length (flat_map g (take i js)) → now ≡ put_from old 0 (flat_map g (take i js)) → next ≡ put_from now place (g (get_or js i 0))
    → next ≡ put_from old 0 (flat_map g (take (i + 1) js))
values_next g js i place old now next lt at was put =
    let z : place ≡ 0 + length (flat_map g (take i js)) = omega (arith, at) in
    put ∙ (ap (λ xs. put_from xs place (g (get_or js i 0))) was ∙ (ap (λ p. put_from (put_from old 0 (flat_map g (take i js))) p (g (get_or js i 0))) z
    ∙ (sym (put_from-append old 0 (flat_map g (take i js)) (g (get_or js i 0))) ∙ ap (put_from old 0) (sym (flat_more g js i lt)))))

pub single : {X : Type 0} (xs : List X) (d : X) → length xs ≡ 1 → xs ≡ get_or xs 0 d ∷ []
single [] d h = absurd (omega (arith, h))
single (x ∷ []) d h = refl
single (x ∷ y ∷ xs) d h = absurd (omega (arith, h))

-- a buffer that was lent and handed back
pub written_back : {X : Type 0} (xs new rest : List X) (len : ℕ) → xs ≡ take len (new ++ rest) → length new ≡ len → xs ≡ new
written_back xs new rest len is many = is ∙ (ap (λ n. take n (new ++ rest)) (sym many) ∙ take-append_seam new rest)
