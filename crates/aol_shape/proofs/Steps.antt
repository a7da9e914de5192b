-- Points and their ranks with one more index, in front or after.
use Rattle.std.proofs.Common.{◌≡◌, ℕ, ◌+◌, ◌*◌, ◌<◌, ◌≤◌, ◌↔◌, length, take, drop, set, get_or, List, [], ◌∷◌, ◌++◌, Bool, true, false, IsTrue, refl, sym, ◌∙◌, ap, subst, arith, append_assoc, add-one, drop-cons, ◌/◌, ◌%◌}
use Rattle.std.specs.Bool.{OnTrue, OnFalse}
use Rattle.std.proofs.Math.Nat.{mul-le-mul_left, mul-le-mul_right, mul_assoc, mul-div_cancel_left, mod-lt}
use Rattle.std.proofs.lemmas.List.{take_more_set}
use Rattle.std.specs.List.{AllByRecursion}
use Rattle.aol_shape.specs.Shape.{size, IsEntry, IsPointOf, rank, point_at}
use Rattle.aol_shape.proofs.Sizes.{size_positive}
use Rattle.aol_shape.proofs.Points.{rank-lt-size, point_at-rank, point_at-is, rank-point_at, size-append, rank-append}

-- a shape and a point of it, each with its first number apart
pub record AreBegun (shape point s p : List ℕ) (n i : ℕ) : Type 0 where
  pub shape_is : shape ≡ n ∷ s
  pub point_is : point ≡ i ∷ p
  pub inside : IsPointOf shape point
  pub entries : AllByRecursion IsEntry shape

-- what the recursion over both needs, after indices whose rank is `before`
pub record GoesOn (shape point s p : List ℕ) (before n i : ℕ) : Type 0 where
  pub inside : IsPointOf s p
  pub entries : AllByRecursion IsEntry s
  pub few : (before * n + i + 1) * size s ≤ 4194304
  pub fits : before * n + i + 1 ≤ 4194304
  pub moves : (before * n + i) * size s + rank s p ≡ before * size shape + rank shape point

goes_on-begun : (s p : List ℕ) (b n i : ℕ) → IsPointOf (n ∷ s) (i ∷ p) → AllByRecursion IsEntry (n ∷ s) → (b + 1) * size (n ∷ s) ≤ 4194304 → GoesOn (n ∷ s) (i ∷ p) s p b n i
goes_on-begun s p b n i inside entries few =
    let less : (b * n + i + 1) * size s ≤ ((b + 1) * n) * size s = mul-le-mul_right (size s) (omega (arith, inside.0)) in
    let all : (b * n + i + 1) * size s ≤ 4194304 = omega (arith, few, less, mul_assoc (b + 1) n (size s)) in
    record {
      inside = inside.1;
      entries = entries.1;
      few = all;
      fits = omega (arith, all, mul-le-mul_left (b * n + i + 1) (size_positive s entries.1));
      moves = omega (arith, mul_assoc b n (size s));
    }

pub goes_on : {shape point s p : List ℕ} {n i : ℕ} → AreBegun shape point s p n i → (before : ℕ) → (before + 1) * size shape ≤ 4194304 → GoesOn shape point s p before n i
goes_on {shape} {point} {s} {p} {n} {i} begun before few =
    subst (λ e. GoesOn e point s p before n i) (sym begun.shape_is) (subst (λ q. GoesOn (n ∷ s) q s p before n i) (sym begun.point_is) (goes_on-begun s p before n i
    (subst (λ q. IsPointOf (n ∷ s) q) begun.point_is (subst (λ e. IsPointOf e point) begun.shape_is begun.inside))
    (subst (AllByRecursion IsEntry) begun.shape_is begun.entries) (omega (arith, few, ap (λ e. (before + 1) * size e) begun.shape_is))))

-- what finding the indices one after another needs: the points after the next entry, and the rank among them
pub record Unranks (d front whole : List ℕ) (b x : ℕ) : Type 0 where
  pub behind : b ≡ size d
  pub within : x < b
  pub entries : AllByRecursion IsEntry d
  pub found : front ++ point_at d x ≡ whole

unranks-begun : (s front whole : List ℕ) (n b x : ℕ) → Unranks (n ∷ s) front whole b x → Unranks s (front ++ (x / (b / n)) ∷ []) whole (b / n) (x % (b / n))
unranks-begun s front whole n b x u =
    let behind : b / n ≡ size s = ap (λ z. z / n) u.behind ∙ mul-div_cancel_left (size s) (omega (arith, u.entries.0)) in
    let some : 0 < b / n = omega (arith, behind, size_positive s u.entries.1) in
    record {
      behind = behind;
      within = mod-lt x some;
      entries = u.entries.1;
      found = append_assoc front ((x / (b / n)) ∷ []) (point_at s (x % (b / n))) ∙ ap (λ z. front ++ (x / z) ∷ point_at s (x % z)) behind ∙ u.found;
    }

-- one more index
pub unranks-more : (entries point whole : List ℕ) (k b x : ℕ) → k < length entries → length point ≡ length entries → Unranks (drop k entries) (take k point) whole b x
    → let rest = b / get_or entries k 0 in Unranks (drop (k + 1) entries) (take (k + 1) (set point k (x / rest))) whole rest (x % rest)
unranks-more entries point whole k b x less same u =
    let rest = b / get_or entries k 0 in
    let begun : Unranks (get_or entries k 0 ∷ drop (k + 1) entries) (take k point) whole b x = subst (λ d. Unranks d (take k point) whole b x) (drop-next entries k less) u in
    subst (λ f. Unranks (drop (k + 1) entries) f whole rest (x % rest)) (sym (take_more_set point k (x / rest) (omega (arith, less, same)))) (unranks-begun (drop (k + 1) entries) (take k point) whole (get_or entries k 0) b x begun)
  where
    drop-next : (l : List ℕ) (j : ℕ) → j < length l → drop j l ≡ get_or l j 0 ∷ drop (j + 1) l
    drop-next l j h = rw (add-one, drop-cons l j 0)

no_point : (ps : List ℕ) (i : ℕ) → IsPointOf [] (ps ++ i ∷ []) → ⊥
no_point [] i h = h
no_point (p ∷ ps) i h = h

no_shape : (es : List ℕ) (e : ℕ) → IsPointOf (es ++ e ∷ []) [] → ⊥
no_shape [] e h = h
no_shape (s ∷ es) e h = h

-- a point without its last index
pub point_front : (es ps : List ℕ) (e i : ℕ) → IsPointOf (es ++ e ∷ []) (ps ++ i ∷ []) → IsPointOf es ps × (i < e)
point_front [] [] e i h = (tt, h.0)
point_front [] (p ∷ ps) e i h = absurd (no_point ps i h.1)
point_front (s ∷ es) [] e i h = absurd (no_shape es e h.1)
point_front (s ∷ es) (p ∷ ps) e i h = let f = point_front es ps e i h.1 in ((h.0, f.0), f.1)

-- a point with one more index
pub point_append : (es ps : List ℕ) (e i : ℕ) → IsPointOf es ps → i < e → IsPointOf (es ++ e ∷ []) (ps ++ i ∷ [])
point_append [] [] e i h k = (k, tt)
point_append [] (p ∷ ps) e i h k = absurd h
point_append (s ∷ es) [] e i h k = absurd h
point_append (s ∷ es) (p ∷ ps) e i h k = (h.0, point_append es ps e i h.1 k)

module _ (es ps : List ℕ) (e i : ℕ) (here : IsPointOf (es ++ e ∷ []) (ps ++ i ∷ [])) where
  front : IsPointOf es ps × (i < e)
  front = point_front es ps e i here

  rank_here : rank (es ++ e ∷ []) (ps ++ i ∷ []) ≡ rank es ps * e + i
  rank_here = rank-append es ps e i front.0

  -- the point with the next rank is the one whose rank it is
  is_next : (q : List ℕ) (j : ℕ) → IsPointOf es q → j < e → rank es q * e + j ≡ rank es ps * e + i + 1
      → (q ++ j ∷ [] ≡ point_at (es ++ e ∷ []) (rank (es ++ e ∷ []) (ps ++ i ∷ []) + 1)) × (rank (es ++ e ∷ []) (ps ++ i ∷ []) + 1 < size (es ++ e ∷ []))
  is_next q j p k same =
      let point : IsPointOf (es ++ e ∷ []) (q ++ j ∷ []) = point_append es q e j p k in
      let number : rank (es ++ e ∷ []) (q ++ j ∷ []) ≡ rank (es ++ e ∷ []) (ps ++ i ∷ []) + 1 = omega (arith, rank-append es q e j p, same, rank_here) in (
        sym (point_at-rank (es ++ e ∷ []) (q ++ j ∷ []) point) ∙ ap (point_at (es ++ e ∷ [])) number,
        omega (arith, number, rank-lt-size (es ++ e ∷ []) (q ++ j ∷ []) point),
      )

  -- the last index moves
  pub stepped : i + 1 < e → (ps ++ (i + 1) ∷ [] ≡ point_at (es ++ e ∷ []) (rank (es ++ e ∷ []) (ps ++ i ∷ []) + 1)) × (rank (es ++ e ∷ []) (ps ++ i ∷ []) + 1 < size (es ++ e ∷ []))
  stepped k = is_next ps (i + 1) front.0 k (omega arith)

  -- the last index starts again, and those before it move
  pub carried : e ≤ i + 1 → rank es ps + 1 < size es → (q : List ℕ) → q ≡ point_at es (rank es ps + 1)
      → (q ++ 0 ∷ [] ≡ point_at (es ++ e ∷ []) (rank (es ++ e ∷ []) (ps ++ i ∷ []) + 1)) × (rank (es ++ e ∷ []) (ps ++ i ∷ []) + 1 < size (es ++ e ∷ []))
  carried k more q is =
      let point : IsPointOf es q = subst (IsPointOf es) (sym is) (point_at-is es (rank es ps + 1) more) in
      let number : rank es q ≡ rank es ps + 1 = ap (rank es) is ∙ rank-point_at es (rank es ps + 1) more in
      is_next q 0 point (omega (arith, front.1)) (omega (arith, ap (λ z. z * e) number, front.1, k))

  -- all indices start again
  pub started : e ≤ i + 1 → size es ≤ rank es ps + 1 → (q : List ℕ) → q ≡ point_at es 0
      → (q ++ 0 ∷ [] ≡ point_at (es ++ e ∷ []) 0) × (size (es ++ e ∷ []) ≤ rank (es ++ e ∷ []) (ps ++ i ∷ []) + 1)
  started k last q is =
      let some : 0 < size es = omega (arith, rank-lt-size es ps front.0) in
      let point : IsPointOf es q = subst (IsPointOf es) (sym is) (point_at-is es 0 some) in
      let joined : IsPointOf (es ++ e ∷ []) (q ++ 0 ∷ []) = point_append es q e 0 point (omega (arith, front.1)) in
      let number : rank (es ++ e ∷ []) (q ++ 0 ∷ []) ≡ 0 = omega (arith, rank-append es q e 0 point, ap (λ z. z * e) (ap (rank es) is ∙ rank-point_at es 0 some)) in
      let all : size es * e ≤ (rank es ps + 1) * e = mul-le-mul_right e last in (
        sym (point_at-rank (es ++ e ∷ []) (q ++ 0 ∷ []) joined) ∙ ap (point_at (es ++ e ∷ [])) number,
        omega (arith, all, rank_here, size-append es e, front.1, k),
      )

-- a shape and a point of it, each with its last number apart
pub record AreApart (shape point es ps : List ℕ) (e i : ℕ) : Type 0 where
  pub shape_is : shape ≡ es ++ e ∷ []
  pub point_is : point ≡ ps ++ i ∷ []
  pub inside : IsPointOf shape point

module _ {shape point es ps : List ℕ} {e i : ℕ} (apart : AreApart shape point es ps e i) where
  here : IsPointOf (es ++ e ∷ []) (ps ++ i ∷ [])
  here = subst (λ p. IsPointOf (es ++ e ∷ []) p) apart.point_is (subst (λ s. IsPointOf s point) apart.shape_is apart.inside)

  back : (P : List ℕ → List ℕ → Type 0) → P (es ++ e ∷ []) (ps ++ i ∷ []) → P shape point
  back P h = subst (λ s. P s point) (sym apart.shape_is) (subst (λ p. P (es ++ e ∷ []) p) (sym apart.point_is) h)

  pub point_before : IsPointOf es ps
  point_before = (point_front es ps e i here).0

  -- the point with the next rank
  abbrev pub IsNext : List ℕ → Type 0
  IsNext q = (q ≡ point_at shape (rank shape point + 1)) × (rank shape point + 1 < size shape)

  pub next-stepped : i + 1 < e → IsNext (ps ++ (i + 1) ∷ [])
  next-stepped k = back (λ s p. (ps ++ (i + 1) ∷ [] ≡ point_at s (rank s p + 1)) × (rank s p + 1 < size s)) (stepped es ps e i here k)

  pub next-carried : e ≤ i + 1 → rank es ps + 1 < size es → (q : List ℕ) → q ≡ point_at es (rank es ps + 1) → IsNext (q ++ 0 ∷ [])
  next-carried k more q is = back (λ s p. (q ++ 0 ∷ [] ≡ point_at s (rank s p + 1)) × (rank s p + 1 < size s)) (carried es ps e i here k more q is)

  pub next-started : e ≤ i + 1 → size es ≤ rank es ps + 1 → (q : List ℕ) → q ≡ point_at es 0 → (q ++ 0 ∷ [] ≡ point_at shape 0) × (size shape ≤ rank shape point + 1)
  next-started k last q is = back (λ s p. (q ++ 0 ∷ [] ≡ point_at s 0) × (size s ≤ rank s p + 1)) (started es ps e i here k last q is)

-- what moving a point answers and leaves
pub record Moved (shape point : List ℕ) (goes : Bool) (new : List ℕ) : Type 0 where
  pub more : IsTrue goes ↔ (rank shape point + 1 < size shape)
  pub next : OnTrue goes (new ≡ point_at shape (rank shape point + 1))
  pub first : OnFalse goes (new ≡ point_at shape 0)

not_less : (a b : ℕ) → (a < b → false ≡ true) → b ≤ a
not_less a b f = grind (arith, f)

-- the last index starts again, and the others have moved
pub moved-outer : {shape point es ps : List ℕ} {e i : ℕ} → AreApart shape point es ps e i → e ≤ i + 1 → (goes : Bool) (q : List ℕ)
    → IsTrue goes ↔ (rank es ps + 1 < size es) → OnTrue goes (q ≡ point_at es (rank es ps + 1)) → OnFalse goes (q ≡ point_at es 0) → Moved shape point goes (q ++ 0 ∷ [])
moved-outer apart k true q h next first = let n = next-carried apart k (h.0 refl) q next in record { more = (λ _. n.1, λ _. refl); next = n.0; first = tt }
moved-outer {es = es} {ps = ps} apart k false q h next first =
    let n = next-started apart k (not_less (rank es ps + 1) (size es) h.1) q first in record { more = (λ f. cc, λ less. absurd (omega (arith, less, n.1))); next = tt; first = n.0 }

-- the last index has moved
pub moved-last : {shape point es ps : List ℕ} {e i : ℕ} → AreApart shape point es ps e i → i + 1 < e → Moved shape point true (ps ++ (i + 1) ∷ [])
moved-last apart less = let n = next-stepped apart less in record { more = (λ _. n.1, λ _. refl); next = n.0; first = tt }

-- a shape with entries has no point without indices
pub no_indices : (shape point es : List ℕ) (e : ℕ) → shape ≡ es ++ e ∷ [] → length point ≡ 0 → IsPointOf shape point → ⊥
no_indices shape [] es e is h p = no_shape es e (subst (λ s. IsPointOf s []) is p)
no_indices shape (i ∷ point) es e is h p = omega (arith, h)
