-- What a walk begins with.
use Rattle.std.proofs.Common.{◌≡◌, ℕ, zero, suc, ◌-◌, ◌*◌, ◌≤◌, ◌==◌, ℤ, pos, ◌-ℤ◌, List, [], ◌∷◌, ◌++◌, length, take, drop, replicate, true, refl, sym, ◌∙◌, ap, subst, arith, append-nil}
use Rattle.std.specs.List.{AllByRecursion, list_all}
use Rattle.std.proofs.lemmas.Bool.{eqb-true}
use Rattle.std.proofs.lemmas.List.{drop_all}
use Rattle.std.proofs.Math.Nat.{mul-le-mul_right}
use Rattle.aol_shape.specs.Shape.{size, IsEntry, IsShape, max_points}
use Rattle.aol_shape.specs.Vectors.{times}
use Rattle.aol_tiler.specs.declared.walker.Column.{Column}
use Rattle.aol_tiler.specs.Matrices.{TilerOf}
use Rattle.aol_tiler.specs.Tiler.{Fits, addresses}
use Rattle.aol_tiler.specs.Walk.{to_come, AreWithin, IsColumn, IsWalk, moduli_of, residues, column_at, columns_on}
use Rattle.aol_tiler.proofs.Addresses.{both, even, fits-parts, wrapped-below}
use Rattle.aol_tiler.proofs.Entries.{length-times}
use Rattle.aol_tiler.proofs.Walked.{walk_addresses}
use Rattle.aol_tiler.proofs.Walks.{front_is}

-- columns of one length, as facts
pub even_columns : (cs : List (List ℤ)) (n : ℕ) → list_all (λ c. length c == n) cs ≡ true → AllByRecursion (λ c. length c ≡ n) cs
even_columns [] n h = tt
even_columns (c ∷ cs) n h = let b = both (length c == n) (list_all (λ c. length c == n) cs) h in (eqb-true (length c) n b.0, even_columns cs n b.1)

length-moduli : (array : List ℕ) → length (moduli_of array) ≡ length array
length-moduli [] = refl
length-moduli (n ∷ array) = ap suc (length-moduli array)

length-residues : (array : List ℕ) (zs : List ℤ) → length zs ≡ length array → length (residues array zs) ≡ length array
length-residues [] zs h = refl
length-residues (n ∷ array) [] h = absurd (omega (arith, h))
length-residues (n ∷ array) (z ∷ zs) h = ap suc (length-residues array zs (omega (arith, h)))

small_moduli : (array : List ℕ) → AllByRecursion IsEntry array → size array ≤ max_points → AllByRecursion (λ m. m ≤ max_points) (moduli_of array)
small_moduli [] p h = tt
small_moduli (n ∷ array) p h =
    let less : 1 * size array ≤ n * size array = mul-le-mul_right (size array) p.0.0 in
    (h, small_moduli array p.1 (omega (arith, h, less)))

any_within : (xs : List ℕ) → AreWithin xs []
any_within [] = tt
any_within (x ∷ xs) = tt

residues_within : (array : List ℕ) (zs : List ℤ) (pad : List ℕ) → AllByRecursion IsEntry array → length zs ≡ length array → AreWithin (residues array zs ++ pad) (moduli_of array)
residues_within [] zs pad p h = any_within pad
residues_within (n ∷ array) [] pad p h = absurd (omega (arith, h))
residues_within (n ∷ array) (z ∷ zs) pad p h = (
  mul-le-mul_right (size array) (omega (arith, wrapped-below z n (omega (arith, p.0.0)))),
  residues_within array zs pad p.1 (omega (arith, h)),
)

noughts_within : (k : ℕ) (ms : List ℕ) → AreWithin (replicate k 0) ms
noughts_within zero ms = tt
noughts_within (suc k) [] = tt
noughts_within (suc k) (m ∷ ms) = (omega arith, noughts_within k ms)

-- a column that stands for no dimension
abbrev pub idle : Column
idle = record { last = 0; left = 0; step = replicate 12 0; back = replicate 12 0 }

idle_columns : (ms : List ℕ) (k : ℕ) → AllByRecursion (IsColumn ms) (replicate k idle)
idle_columns ms zero = tt
idle_columns ms (suc k) = (record { step = noughts_within 12 ms; back = noughts_within 12 ms }, idle_columns ms k)

all_behind : (ms : List ℕ) (k : ℕ) (cs : List Column) → AllByRecursion (IsColumn ms) cs → AllByRecursion (IsColumn ms) (drop k cs)
all_behind ms zero cs h = h
all_behind ms (suc k) [] h = tt
all_behind ms (suc k) (c ∷ cs) h = all_behind ms k cs h.1

module _ (array : List ℕ) (entries : AllByRecursion IsEntry array) where
  columns_within : (vs : List (List ℤ)) (es : List ℕ) (others : List Column) → AllByRecursion (λ v. length v ≡ length array) vs → AllByRecursion (IsColumn (moduli_of array)) others
      → AllByRecursion (IsColumn (moduli_of array)) (columns_on array vs es others)
  columns_within [] es others h k = k
  columns_within (v ∷ vs) [] others h k = k
  columns_within (v ∷ vs) (e ∷ es) others h k = columns_within vs es (column_at array v e (e - 1) ∷ others) h.1 (
    record {
      step = residues_within array (times (pos 1) v) (drop (length array) (replicate 12 0)) entries (length-times (pos 1) v ∙ h.0);
      back = residues_within array (times (pos 1 -ℤ pos e) v) (drop (length array) (replicate 12 0)) entries (length-times (pos 1 -ℤ pos e) v ∙ h.0);
    },
    k,
  )

  columns_before : (vs : List (List ℤ)) (es : List ℕ) (others more : List Column) → columns_on array vs es others ++ more ≡ columns_on array vs es (others ++ more)
  columns_before [] es others more = refl
  columns_before (v ∷ vs) [] others more = refl
  columns_before (v ∷ vs) (e ∷ es) others more = columns_before vs es (column_at array v e (e - 1) ∷ others) more

-- what `start` has written is a walk that gives the addresses of all pairs
pub record Begins (t : TilerOf) (array space pattern ms p : List ℕ) (cs : List Column) : Type 0 where
  pub walk : IsWalk ms p cs
  pub rank : length ms ≡ length array
  pub gives : to_come ms (size space * size pattern) cs p ≡ addresses t array space pattern

pub begins : (t : TilerOf) (array space pattern moduli places : List ℕ) (inner outer inner_old outer_old cs : List Column) → Fits t array space pattern → IsShape array → IsShape space → IsShape pattern
    → moduli ≡ moduli_of array ++ drop (length array) (replicate 12 0) → places ≡ residues array (times (pos 1) t.origin) ++ drop (length array) (replicate 12 0)
    → length inner_old ≡ length pattern → inner ≡ columns_on array t.fitting pattern (drop (length pattern) inner_old)
    → outer_old ≡ drop (length pattern) (replicate 24 idle) → outer ≡ columns_on array t.paving space (drop (length space) outer_old) → cs ≡ inner ++ outer
    → Begins t array space pattern (take (length array) moduli) (take (length array) places) cs
begins t array space pattern moduli places inner outer inner_old outer_old cs fits a s q e f g h k l m =
    let parts = fits-parts t array space pattern fits in
    let level = even t (length array) parts.over in
    let paving = even_columns t.paving (length array) level.paving in
    let fitting = even_columns t.fitting (length array) level.fitting in
    let origin : length (times (pos 1) t.origin) ≡ length array = length-times (pos 1) t.origin ∙ level.origin in
    let ms : take (length array) moduli ≡ moduli_of array = front_is (length array) moduli (moduli_of array) (drop (length array) (replicate 12 0)) e (length-moduli array) in
    let p : take (length array) places ≡ residues array (times (pos 1) t.origin) =
    front_is (length array) places (residues array (times (pos 1) t.origin)) (drop (length array) (replicate 12 0)) f (length-residues array (times (pos 1) t.origin) origin) in
    let pads = drop (length space) (drop (length pattern) (replicate 24 idle)) in
    let outside : outer ≡ columns_on array t.paving space pads = l ∙ ap (λ w. columns_on array t.paving space (drop (length space) w)) k in
    let inside : inner ≡ columns_on array t.fitting pattern [] = h ∙ ap (columns_on array t.fitting pattern) (drop_all (length pattern) inner_old (omega (arith, g))) in
    let all : cs ≡ columns_on array t.fitting pattern (columns_on array t.paving space pads) =
    m ∙ ap (λ w. w ++ outer) inside ∙ columns_before array a.entry t.fitting pattern [] outer ∙ ap (columns_on array t.fitting pattern) outside in
    let idles = all_behind (moduli_of array) (length space) (drop (length pattern) (replicate 24 idle)) (all_behind (moduli_of array) (length pattern) (replicate 24 idle) (idle_columns (moduli_of array) 24)) in
    let within : AreWithin (residues array (times (pos 1) t.origin)) (moduli_of array) =
    subst (λ w. AreWithin w (moduli_of array)) (append-nil (residues array (times (pos 1) t.origin))) (residues_within array (times (pos 1) t.origin) [] a.entry origin) in
    rw (ms, p, all) record {
      walk = record {
        rank = omega (arith, length-moduli array, a.rank);
        same = length-residues array (times (pos 1) t.origin) origin ∙ sym (length-moduli array);
        small = small_moduli array a.entry a.points;
        place = within;
        columns = columns_within array a.entry t.fitting pattern (columns_on array t.paving space pads) fitting (columns_within array a.entry t.paving space pads paving idles);
      };
      rank = length-moduli array;
      gives = walk_addresses array a.entry t space pattern pads s.entry q.entry level.origin paving fitting parts.paving parts.fitting;
    }

-- the columns of a matrix have the length of the array's entries
pub fitting_even : (t : TilerOf) (array space pattern entries : List ℕ) (vs : List (List ℤ)) → Fits t array space pattern → entries ≡ array → vs ≡ t.fitting → AllByRecursion (λ c. length c ≡ length entries) vs
fitting_even t array space pattern entries vs fits e f = rw (e, f) (even_columns t.fitting (length array) (even t (length array) (fits-parts t array space pattern fits).over).fitting)

pub paving_even : (t : TilerOf) (array space pattern entries : List ℕ) (vs : List (List ℤ)) → Fits t array space pattern → entries ≡ array → vs ≡ t.paving → AllByRecursion (λ c. length c ≡ length entries) vs
paving_even t array space pattern entries vs fits e f = rw (e, f) (even_columns t.paving (length array) (even t (length array) (fits-parts t array space pattern fits).over).paving)

-- the same by the lists that the code reads
pub started : (t : TilerOf) (array space pattern entries pat mid sp moduli places : List ℕ) (o : List ℤ) (F P : List (List ℤ)) (inner outer inner_old outer_old : List Column)
    → Fits t array space pattern → IsShape array → IsShape space → IsShape pattern → entries ≡ array → pat ≡ pattern → mid ≡ pattern → sp ≡ space → o ≡ t.origin → F ≡ t.fitting → P ≡ t.paving
    → moduli ≡ moduli_of entries ++ drop (length entries) (replicate 12 0) → places ≡ residues entries (times (pos 1) o) ++ drop (length entries) (replicate 12 0)
    → length inner_old ≡ length mid → inner ≡ columns_on entries F pat (drop (length pat) inner_old)
    → outer_old ≡ drop (length mid) (replicate 24 idle) → outer ≡ columns_on entries P sp (drop (length sp) outer_old)
    → Begins t array space pattern (take (length entries) moduli) (take (length entries) places) (inner ++ outer)
started t array space pattern entries pat mid sp moduli places o F P inner outer inner_old outer_old fits a s q is-entries is-pat is-mid is-sp is-o is-F is-P m p n i k l =
    let b = begins t array space pattern moduli places inner outer inner_old outer_old (inner ++ outer) fits a s q
    (m ∙ ap (λ w. moduli_of w ++ drop (length w) (replicate 12 0)) is-entries)
    (p ∙ ap (λ w. residues w (times (pos 1) o) ++ drop (length w) (replicate 12 0)) is-entries ∙ ap (λ w. residues array (times (pos 1) w) ++ drop (length array) (replicate 12 0)) is-o)
    (n ∙ ap (length {A = ℕ}) is-mid)
    (i ∙ ap (λ w. columns_on w F pat (drop (length pat) inner_old)) is-entries ∙ ap (λ w. columns_on array w pat (drop (length pat) inner_old)) is-F ∙ ap (λ w. columns_on array t.fitting w (drop (length w) inner_old)) is-pat)
    (k ∙ ap (λ w. drop (length {A = ℕ} w) (replicate 24 idle)) is-mid)
    (l ∙ ap (λ w. columns_on w P sp (drop (length sp) outer_old)) is-entries ∙ ap (λ w. columns_on array w sp (drop (length sp) outer_old)) is-P ∙ ap (λ w. columns_on array t.paving w (drop (length w) outer_old)) is-sp)
    refl in
    subst (λ w. Begins t array space pattern (take (length {A = ℕ} w) moduli) (take (length {A = ℕ} w) places) (inner ++ outer)) (sym is-entries) b
