-- Columns that count in mixed radix lead different pairs to different points.
use Rattle.std.proofs.Common.{◌≡◌, ◌⊎◌, inl, inr, ◌<◌, ◌≤◌, ◌+◌, ◌-◌, ◌*◌, ◌/◌, ◌%◌, ◌==◌, ℕ, zero, suc, ℤ, pos, ◌+ℤ◌, ◌*ℤ◌, negsuc, true, false, List, [], ◌∷◌, length, get_or, Option, Some, None, IfSome, sym, ◌∙◌, ap, refl, arith, subst}
use Rattle.std.specs.Prelude.{nat_abs}
use Rattle.std.specs.Int.Signed.{lt_z}
use Rattle.std.specs.List.{list_all, AllByRecursion}
use Rattle.std.proofs.Math.Nat.{mod-eq_of_lt}
use Rattle.std.proofs.lemmas.Bool.{cases_lt, eqb-true}
use Rattle.std.proofs.Math.IntN.{*ℤ-zero}
use Rattle.std.proofs.lemmas.Int.{ints}
use Rattle.std.proofs.lemmas.Nat.{div-mul-add, mod-mul-add}
use Rattle.std.proofs.Math.Nat.{mul-le-mul_right}
use Rattle.aol_shape.specs.Shape.{IsShape, IsEntry, IsPointOf}
use Rattle.aol_shape.specs.Vectors.{wrapped, wrapped_point}
use Rattle.aol_tiler.specs.Matrices.{TilerOf}
use Rattle.aol_tiler.specs.Sums.{entry, entry_plus}
use Rattle.aol_tiler.specs.Tiler.{Fits, integers, place, address_point}
use Rattle.aol_tiler.specs.Walk.{added}
use Rattle.aol_tiler.proofs.Addresses.{wrapped-below, both, even, entry-place, length-place, fits-parts}
use Rattle.aol_tiler.proofs.Residues.{added_over, added_under, wrapped-plus}
use Rattle.aol_assign.specs.Apart.{Steps, once, still, further, Counts, CountsIn, Moves, EachMoves, WritesApart}

-- ---- one dimension

-- the indices are the same for each column that moves something in dimension k
abbrev pub AgreeIn : List (List ℤ) → ℕ → List ℕ → List ℕ → Type 0
AgreeIn [] k xs ys = Unit {0}
AgreeIn (c ∷ cs) k [] ys = Unit {0}
AgreeIn (c ∷ cs) k (x ∷ xs) [] = Unit {0}
AgreeIn (c ∷ cs) k (x ∷ xs) (y ∷ ys) = ((entry c k ≡ pos 0) ⊎ (x ≡ y)) × AgreeIn cs k xs ys

-- what columns add at two points, before sums a and b of what comes after them
pub record Adds (cs : List (List ℤ)) (k : ℕ) (xs ys : List ℕ) (a b outer : ℕ) : Type 0 where
  pub first : ℕ
  pub second : ℕ
  pub first_is : (z : ℤ) → entry_plus z cs (integers xs) k ≡ z +ℤ pos first
  pub second_is : (z : ℤ) → entry_plus z cs (integers ys) k ≡ z +ℤ pos second
  pub first_low : first + a ≤ outer
  pub second_low : second + b ≤ outer
  pub same : first + a ≡ second + b → (a ≡ b) × AgreeIn cs k xs ys

plus_nothing : (z : ℤ) → z +ℤ pos 0 ≡ z
plus_nothing z = omega (arith, ints)

none_of : (z : ℤ) → pos 0 *ℤ z ≡ pos 0
none_of z = omega (arith, ints)

-- sums with a digit before them
digits_same : (c x y p q : ℕ) → p < c → q < c → x * c + p ≡ y * c + q → (x ≡ y) × (p ≡ q)
digits_same c x y p q lp lq e =
    (sym (div-mul-add x c p lp) ∙ (ap (λ n. n / c) e ∙ div-mul-add y c q lq), sym (mod-mul-add x c p lp) ∙ (ap (λ n. n % c) e ∙ mod-mul-add y c q lq))

digit_low : (c x e p inner : ℕ) → x < e → p ≤ inner → x * c + p ≤ inner + c * (e - 1)
digit_low c x e p inner lt le =
    let most : x * c ≤ (e - 1) * c = mul-le-mul_right c (omega (arith, lt)) in
    omega (arith, most, le)

module _ (k : ℕ) (a b inner : ℕ) (low_a : a ≤ inner) (low_b : b ≤ inner) where
  pub adds : (cs : List (List ℤ)) (es : List ℕ) (outer : ℕ) → Counts cs es k inner outer → (xs ys : List ℕ) → length cs ≡ length es → IsPointOf es xs → IsPointOf es ys → Adds cs k xs ys a b outer
  adds [] es outer counts xs ys many here there = record {
    first = 0;
    second = 0;
    first_is = λ z. omega (arith, ints);
    second_is = λ z. omega (arith, ints);
    first_low = omega (arith, counts, low_a);
    second_low = omega (arith, counts, low_b);
    same = λ e. (omega (arith, e), tt);
  }
  adds (c ∷ cs) [] outer counts xs ys many here there = absurd (omega (arith, many))
  adds (c ∷ cs) (e ∷ es) outer counts [] ys many here there = absurd here
  adds (c ∷ cs) (e ∷ es) outer counts (x ∷ xs) [] many here there = absurd there
  adds (c ∷ cs) (e ∷ es) outer (middle, counts, step) (x ∷ xs) (y ∷ ys) many here there =
      go step (adds cs es middle counts xs ys (omega (arith, many)) here.1 there.1)
    where
      -- the column adds nothing at both
      nothing : (entry c k ≡ pos 0) ⊎ ((x ≡ 0) × (y ≡ 0)) → outer ≡ middle → Adds cs k xs ys a b middle → Adds (c ∷ cs) k (x ∷ xs) (y ∷ ys) a b outer
      nothing why is later = record {
        first = later.first;
        second = later.second;
        first_is = λ z. ap (λ w. entry_plus w cs (integers xs) k) (zero_at x z (elim why [ inl f ↦ inl f | inr f ↦ inr f.0 ])) ∙ later.first_is z;
        second_is = λ z. ap (λ w. entry_plus w cs (integers ys) k) (zero_at y z (elim why [ inl f ↦ inl f | inr f ↦ inr f.1 ])) ∙ later.second_is z;
        first_low = omega (arith, later.first_low, is);
        second_low = omega (arith, later.second_low, is);
        same = λ f. let r = later.same f in (r.0, (elim why [ inl g ↦ inl g | inr g ↦ inr (g.0 ∙ sym g.1) ], r.1));
      }
        where
          zero_at : (n : ℕ) (z : ℤ) → (entry c k ≡ pos 0) ⊎ (n ≡ 0) → z +ℤ (pos n *ℤ entry c k) ≡ z
          zero_at n z (inl f) = ap (λ w. z +ℤ (pos n *ℤ w)) f ∙ (ap (λ w. z +ℤ w) (*ℤ-zero (pos n)) ∙ plus_nothing z)
          zero_at n z (inr f) = ap (λ m. z +ℤ (pos m *ℤ entry c k)) f ∙ (ap (λ w. z +ℤ w) (none_of (entry c k)) ∙ plus_nothing z)

      go : Steps (entry c k) e middle outer → Adds cs k xs ys a b middle → Adds (c ∷ cs) k (x ∷ xs) (y ∷ ys) a b outer
      go (once f is) later = nothing (inr (omega (arith, here.0, f), omega (arith, there.0, f))) is later
      go (still f is) later = nothing (inl f) is later
      go (further n f gap is) later = record {
        first = x * n + later.first;
        second = y * n + later.second;
        first_is = λ z. later.first_is (z +ℤ (pos x *ℤ entry c k)) ∙ moved x later.first z;
        second_is = λ z. later.second_is (z +ℤ (pos y *ℤ entry c k)) ∙ moved y later.second z;
        first_low = let low = digit_low n x e (later.first + a) middle here.0 later.first_low in omega (arith, low, is);
        second_low = let low = digit_low n y e (later.second + b) middle there.0 later.second_low in omega (arith, low, is);
        same = λ g.
            let r = digits_same n x y (later.first + a) (later.second + b) (omega (arith, later.first_low, gap)) (omega (arith, later.second_low, gap)) (omega (arith, g)) in
            let s = later.same r.1 in
            (s.0, (inr r.0, s.1));
      }
        where
          moved : (m d : ℕ) (z : ℤ) → (z +ℤ (pos m *ℤ entry c k)) +ℤ pos d ≡ z +ℤ pos (m * n + d)
          moved m d z = ap (λ w. (z +ℤ (pos m *ℤ w)) +ℤ pos d) f ∙ omega (arith, ints)

-- ---- numbers modulo the extent

added_same : (w n p q : ℕ) → w < n → p < n → q < n → added w p n ≡ added w q n → p ≡ q
added_same w n p q lw lp lq e =
    elim (cases_lt (w + p) n) [
      | inl a ↦ elim (cases_lt (w + q) n) [
        | inl b ↦ omega (arith, e, added_under w p n a, added_under w q n b)
        | inr b ↦ omega (arith, e, added_under w p n a, added_over w q n b, lw, lp, lq)
      ]
      | inr a ↦ elim (cases_lt (w + q) n) [
        | inl b ↦ omega (arith, e, added_over w p n a, added_under w q n b, lw, lp, lq)
        | inr b ↦ omega (arith, e, added_over w p n a, added_over w q n b)
      ]
    ]

-- sums below the extent after one number
sums_same : (z : ℤ) (n p q : ℕ) → p < n → q < n → wrapped (z +ℤ pos p) n ≡ wrapped (z +ℤ pos q) n → p ≡ q
sums_same z n p q lp lq e =
    let some : 0 < n = omega (arith, lp) in
    let small : (m : ℕ) → m < n → wrapped (pos m) n ≡ m = λ m lt. mod-eq_of_lt lt in
    added_same (wrapped z n) n p q (wrapped-below z n some) lp lq
    (ap (λ m. added (wrapped z n) m n) (sym (small p lp)) ∙ (wrapped-plus z (pos p) n some ∙ (e ∙ (sym (wrapped-plus z (pos q) n some) ∙ ap (λ m. added (wrapped z n) m n) (small q lq)))))

entry_wrapped : (zs : List ℤ) (shape : List ℕ) (k : ℕ) → length zs ≡ length shape → k < length shape → get_or (wrapped_point zs shape) k 0 ≡ wrapped (entry zs k) (get_or shape k 0)
entry_wrapped [] shape k many h = absurd (omega (arith, many, h))
entry_wrapped (z ∷ zs) [] k many h = absurd (omega (arith, h))
entry_wrapped (z ∷ zs) (n ∷ shape) zero many h = refl
entry_wrapped (z ∷ zs) (n ∷ shape) (suc k) many h = entry_wrapped zs shape k (omega (arith, many)) (omega (arith, h))

-- ---- all dimensions

-- indices that agree in all dimensions are the same
all_same : (cs : List (List ℤ)) (es : List ℕ) (n : ℕ) → list_all (λ c. length c == n) cs ≡ true → length cs ≡ length es → EachMoves cs es → (xs ys : List ℕ) → IsPointOf es xs → IsPointOf es ys
    → ((k : ℕ) → k < n → AgreeIn cs k xs ys) → xs ≡ ys
all_same [] [] n even many move [] [] here there agree = refl
all_same [] [] n even many move [] (y ∷ ys) here there agree = absurd there
all_same [] [] n even many move (x ∷ xs) ys here there agree = absurd here
all_same [] (e ∷ es) n even many move xs ys here there agree = absurd (omega (arith, many))
all_same (c ∷ cs) [] n even many move xs ys here there agree = absurd (omega (arith, many))
all_same (c ∷ cs) (e ∷ es) n even many move [] ys here there agree = absurd here
all_same (c ∷ cs) (e ∷ es) n even many move (x ∷ xs) [] here there agree = absurd there
all_same (c ∷ cs) (e ∷ es) n even many move (x ∷ xs) (y ∷ ys) here there agree =
    let parts = both (length c == n) (list_all (λ d. length d == n) cs) even in
    let later : xs ≡ ys = all_same cs es n parts.1 (omega (arith, many)) move.1 xs ys here.1 there.1 (λ k lt. (agree k lt).1) in
    let first : x ≡ y = go (eqb-true (length c) n parts.0) move.0 in
    ap (λ i. i ∷ xs) first ∙ ap (λ is. y ∷ is) later
  where
    go : length c ≡ n → (e ≡ 1) ⊎ Moves c → x ≡ y
    go long (inl one) = omega (arith, here.0, there.0, one)
    go long (inr m) = elim (agree m.0 (omega (arith, m.1, long))).0 [ inl none ↦ absurd (m.2 none) | inr same ↦ same ]

module _ (t : TilerOf) (array space pattern : List ℕ) (fits : Fits t array space pattern) (counts : (k : ℕ) → k < length array → CountsIn t array space pattern k)
    (r i s j : List ℕ) (in_r : IsPointOf space r) (in_i : IsPointOf pattern i) (in_s : IsPointOf space s) (in_j : IsPointOf pattern j) (equal : address_point t array r i ≡ address_point t array s j) where
  agree_in : (k : ℕ) → k < length array → AgreeIn t.paving k r s × AgreeIn t.fitting k i j
  agree_in k lt =
      let parts = fits-parts t array space pattern fits in
      let c = counts k lt in
      let inner = adds k 0 0 0 (omega arith) (omega arith) t.fitting pattern c.inner c.fitting i j parts.fitting in_i in_j in
      let outer = adds k inner.first inner.second c.inner (omega (arith, inner.first_low)) (omega (arith, inner.second_low)) t.paving space c.outer c.paving r s parts.paving in_r in_s in
      let o = entry t.origin k in
      let n = get_or array k 0 in
      let at_first : entry (place t r i) k ≡ o +ℤ pos (outer.first + inner.first) =
      entry-place t (length array) k parts.over lt r i ∙ (inner.first_is (entry_plus o t.paving (integers r) k) ∙ (ap (λ z. z +ℤ pos inner.first) (outer.first_is o) ∙ joined o outer.first inner.first)) in
      let at_second : entry (place t s j) k ≡ o +ℤ pos (outer.second + inner.second) =
      entry-place t (length array) k parts.over lt s j ∙ (inner.second_is (entry_plus o t.paving (integers s) k) ∙ (ap (λ z. z +ℤ pos inner.second) (outer.second_is o) ∙ joined o outer.second inner.second)) in
      let same_entry : wrapped (entry (place t r i) k) n ≡ wrapped (entry (place t s j) k) n =
      sym (entry_wrapped (place t r i) array k (length-place t (length array) r i parts.over) lt)
      ∙ (ap (λ p. get_or p k 0) equal ∙ entry_wrapped (place t s j) array k (length-place t (length array) s j parts.over) lt) in
      let sums : outer.first + inner.first ≡ outer.second + inner.second =
      sums_same o n (outer.first + inner.first) (outer.second + inner.second) (omega (arith, outer.first_low, c.below)) (omega (arith, outer.second_low, c.below))
      (ap (λ z. wrapped z n) (sym at_first) ∙ (same_entry ∙ ap (λ z. wrapped z n) at_second)) in
      let paved = outer.same sums in
      let fitted = inner.same (omega (arith, paved.0)) in
      (paved.1, fitted.1)
    where
      joined : (z : ℤ) (p q : ℕ) → (z +ℤ pos p) +ℤ pos q ≡ z +ℤ pos (p + q)
      joined z p q = omega (arith, ints)

  pub pairs_same : EachMoves t.paving space → EachMoves t.fitting pattern → (r ≡ s) × (i ≡ j)
  pairs_same paving fitting =
      let parts = fits-parts t array space pattern fits in
      let over = even t (length array) parts.over in (
        all_same t.paving space (length array) over.paving parts.paving paving r s in_r in_s (λ k lt. (agree_in k lt).0),
        all_same t.fitting pattern (length array) over.fitting parts.fitting fitting i j in_i in_j (λ k lt. (agree_in k lt).1),
      )

pub apart : (t : TilerOf) (array space pattern : List ℕ) → Fits t array space pattern → ((k : ℕ) → k < length array → CountsIn t array space pattern k) → EachMoves t.paving space → EachMoves t.fitting pattern
    → WritesApart t array space pattern
apart t array space pattern fits counts paving fitting r i s j in_r in_i in_s in_j equal = pairs_same t array space pattern fits counts r i s j in_r in_i in_s in_j equal paving fitting

-- each entry of a shape is at least one
pub entries_some : (shape : List ℕ) → AllByRecursion IsEntry shape → AllByRecursion (λ e. 1 ≤ e) shape
entries_some [] h = tt
entries_some (n ∷ shape) h = (h.0.0, entries_some shape h.1)

-- ---- one column more

-- a column that moves further than the sums after it
pub steps_further : (z : ℤ) (extent inner f last : ℕ) → lt_z z (pos 0) ≡ false → f ≡ nat_abs z → inner < f → last ≡ extent - 1 → Steps z extent inner (inner + f * last)
steps_further (pos a) extent inner f last low is gap rest = further a refl (omega (arith, is, gap)) (ap (λ n. inner + n * last) is ∙ ap (λ n. inner + a * n) rest)
steps_further (negsuc a) extent inner f last low is gap rest = cc

pub some_weaker : {A : Type 0} (o : Option A) {P Q : A → Type 0} → ((a : A) → P a → Q a) → IfSome o P → IfSome o Q
some_weaker None f h = tt
some_weaker (Some a) f h = f a h

pub counts_more : (columns : List (List ℤ)) (extents : List ℕ) (column : List ℤ) (columns' : List (List ℤ)) (extent : ℕ) (extents' : List ℕ) (k inner middle : ℕ) (z : ℤ) → columns ≡ column ∷ columns' → extents ≡ extent ∷ extents'
    → Counts columns' extents' k inner middle → z ≡ entry column k → (o : Option ℕ) → IfSome o (λ outer. Steps z extent middle outer) → IfSome o (λ outer. Counts columns extents k inner outer)
counts_more columns extents column columns' extent extents' k inner middle z is there counts same o steps =
    let P : List (List ℤ) → Type 0 = λ cs. IfSome o (λ outer. Counts cs extents k inner outer) in
    let Q : List ℕ → Type 0 = λ es. IfSome o (λ outer. Counts (column ∷ columns') es k inner outer) in
    subst P (sym is) (subst Q (sym there) (some_weaker o (λ outer h. (middle, counts, (let R : ℤ → Type 0 = λ w. Steps w extent middle outer in subst R same h))) steps))

-- what stands in a column, whatever stands past its end
pub entry_in : (column : List ℤ) (k : ℕ) (d : ℤ) → k < length column → get_or column k d ≡ entry column k
entry_in [] k d lt = absurd (omega (arith, lt))
entry_in (z ∷ column) zero d lt = refl
entry_in (z ∷ column) (suc k) d lt = entry_in column k d (omega (arith, lt))

-- ---- by equal lists

pub count_by : (t : TilerOf) (array space pattern : List ℕ) (k : ℕ) (fs ps : List (List ℤ)) (es ds : List ℕ) (inner outer limit : ℕ) → fs ≡ t.fitting → ps ≡ t.paving → es ≡ pattern → ds ≡ space → Counts fs es k 0 inner → Counts ps ds k inner outer
    → outer < limit → limit ≡ get_or array k 0 → CountsIn t array space pattern k
count_by t array space pattern k fs ps es ds inner outer limit f p e d fitting paving low is =
    let F : List (List ℤ) → Type 0 = λ cs. Counts cs es k 0 inner in
    let E : List ℕ → Type 0 = λ ns. Counts t.fitting ns k 0 inner in
    let P : List (List ℤ) → Type 0 = λ cs. Counts cs ds k inner outer in
    let D : List ℕ → Type 0 = λ ns. Counts t.paving ns k inner outer in
    record { inner = inner; outer = outer; fitting = subst E e (subst F f fitting); paving = subst D d (subst P p paving); below = omega (arith, low, is) }

pub moves_by : {cs others : List (List ℤ)} {es extents : List ℕ} → cs ≡ others → es ≡ extents → EachMoves cs es → EachMoves others extents
moves_by {cs} {others} {es} {extents} c e h =
    let P : List (List ℤ) → Type 0 = λ vs. EachMoves vs es in
    let Q : List ℕ → Type 0 = λ ns. EachMoves others ns in
    subst Q e (subst P c h)

pub long_by : {cs others : List (List ℤ)} (k : ℕ) → cs ≡ others → AllByRecursion (λ c. k < length c) others → AllByRecursion (λ c. k < length c) cs
long_by {cs} {others} k e h = let P : List (List ℤ) → Type 0 = λ vs. AllByRecursion (λ c. k < length c) vs in subst P (sym e) h

pub some_by : {es shape : List ℕ} → es ≡ shape → IsShape shape → AllByRecursion (λ e. 1 ≤ e) es
some_by {es} {shape} e h = let P : List ℕ → Type 0 = λ ns. AllByRecursion (λ n. 1 ≤ n) ns in subst P (sym e) (entries_some shape h.entry)
