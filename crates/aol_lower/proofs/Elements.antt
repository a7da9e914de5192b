-- What the statements of a read leave.
use Rattle.std.specs.Prelude.{◌≡◌, ℕ, zero, suc, ◌+◌, ◌*◌, ◌<◌, ◌≤◌, ◌^◌, ◌-◌, ℤ, pos, negsuc, ◌+ℤ◌, ◌-ℤ◌, ◌*ℤ◌, nat_abs, nat_lt, Bool, true, false, List, [], ◌∷◌, map, drop, length, slice_get, Option, Some, None, option_and_then, Result, Ok, Err, if◌then◌else◌}
use Rattle.std.specs.List.{AllByRecursion}
use Rattle.std.specs.Option.{IfSome}
use Rattle.std.proofs.Common.{refl, sym, ap, subst, arith, ◌∙◌}
use Rattle.std.proofs.Math.Dec.{leb-zero}
use Rattle.std.proofs.Math.Nat.{mul-le-mul_left, mul-le-mul_right}
use Rattle.std.proofs.lemmas.Int.{ints}
use Rattle.std.proofs.lemmas.List.{drop-drop, length-set}
use Rattle.std.proofs.lemmas.Bool.{lt-ltb, ltb-true}
use Rattle.aol_shape.specs.Lists.{same}
use Rattle.aol_shape.specs.Numbers.{fits_64}
use Rattle.aol_shape.specs.Shape.{size, rank, IsShape, IsEntry}
use Rattle.aol_shape.specs.Vectors.{is_inside}
use Rattle.aol_shape.proofs.Sizes.{size_positive}
use Rattle.aol_expr_tree.specs.declared.port.Port.{Port}
use Rattle.aol_expr_tree.specs.declared.value.Kind.{Kind}
use Rattle.aol_expr_tree.specs.declared.value.Kind.TheVariants.{Index}
use Rattle.aol_expr_tree.specs.Meaning.{element, nth_number}
use Rattle.aol_eval.specs.Places.{rank_on, rank_in, number_at}
use Rattle.aol_eval.specs.Resolved.{shape_of, start_of}
use Rattle.aol_eval.proofs.Places.{pattern-number}
use Rattle.aol_csyn.specs.declared.program.COp.{COp}
use Rattle.aol_csyn.specs.declared.program.COp.TheVariants.{Add as Plus, Sub as Minus, Mul as Times, Lt as Below, Le as AtMost}
use Rattle.aol_csyn.specs.Tree.{Expr, num as number, var as variable, tab, cell_v, bin as between, Stmt, set_var}
use Rattle.aol_csyn.specs.Meaning.{State, value, truth, table_entry, checked as checks}
use Rattle.aol_lower.specs.declared.reads.Reads.{Reads}
use Rattle.aol_lower.specs.Effect.{Keeps, IsSound, Leaves, IsAt, IsRead, AreRead, patterns_size, AreShapes}
use Rattle.aol_lower.specs.Lowered.{nought, fail, at_most, entry_at, fetched, inside, next_rank, ranked, element_in}
use Rattle.aol_lower.proofs.Steps.{put, put_there, put_other, put_keeps, set_leaves, set_first, fail_leaves, between_is, first_leaves, second_leaves}

-- ---- where an element of a port stands

-- an element of the first port with the name
pub element_start : (ins : List Port) (nums : List ℤ) (p : List ℕ) (at : List ℤ) → number_at (drop (start_of ins p) nums) (rank_in (shape_of ins p) at) ≡ element ins nums p at
element_start [] nums p at = refl
element_start (q ∷ qs) nums p at =
    let later : number_at (drop (size q.shape + start_of qs p) nums) (rank_in (shape_of qs p) at) ≡ element qs (drop (size q.shape) nums) p at
    = rw (← drop-drop (start_of qs p) (size q.shape) nums) (element_start qs (drop (size q.shape) nums) p at) in
    elim (same q.name p) as (λ b. number_at (drop (if b then 0 else size q.shape + start_of qs p) nums) (rank_in (if b then Some q.shape else shape_of qs p) at)
    ≡ (if b then (if is_inside q.shape at then Ok (nth_number nums (rank q.shape (map nat_abs at))) else Err Index) else element qs (drop (size q.shape) nums) p at))
    [ true ↦ pattern-number q.shape nums at | false ↦ later ]

-- a shape with room for its pattern behind so many numbers
pub record HasRoom (total start : ℕ) (shape : List ℕ) : Type 0 where
  pub is_shape : IsShape shape
  pub room : start + size shape ≤ total

room_more : (n total start : ℕ) (o : Option (List ℕ)) → IfSome o (HasRoom total start) → IfSome o (HasRoom (n + total) (n + start))
room_more n total start None h = tt
room_more n total start (Some shape) h = record { is_shape = h.is_shape; room = omega (arith, h.room) }

-- so does the shape of a port with the name
pub port_room : (ins : List Port) (p : List ℕ) → AreShapes ins → IfSome (shape_of ins p) (HasRoom (patterns_size ins) (start_of ins p))
port_room [] p h = tt
port_room (q ∷ qs) p h =
    elim (same q.name p) as (λ b. IfSome (if b then Some q.shape else shape_of qs p) (HasRoom (size q.shape + patterns_size qs) (if b then 0 else size q.shape + start_of qs p)))
    [ true ↦ record { is_shape = h.0; room = omega arith } | false ↦ room_more (size q.shape) (patterns_size qs) (start_of qs p) (shape_of qs p) (port_room qs p h.1) ]

-- a number behind the first so many
pub number_behind : (nums : List ℤ) (start k : ℕ) → nth_number (drop start nums) k ≡ nth_number nums (start + k)
number_behind nums zero k = let e : 0 + k ≡ k = omega arith in ap (nth_number nums) (sym e)
number_behind [] (suc start) k = refl
number_behind (z ∷ zs) (suc start) k = let e : suc start + k ≡ suc (start + k) = omega arith in number_behind zs start k ∙ ap (nth_number (z ∷ zs)) (sym e)

-- ---- numbers one after another in variables

abbrev pub HeldFrom : State → ℕ → List ℤ → Type 0
HeldFrom s x [] = Unit {0}
HeldFrom s x (z ∷ zs) = (slice_get s.vars x ≡ Some z) × (fits_64 z ≡ true) × HeldFrom s (x + 1) zs

-- they stay where a variable behind them changes
held_put : (zs : List ℤ) (s : State) (x k : ℕ) (n : ℤ) → x + length zs ≤ k → HeldFrom s x zs → HeldFrom (put k n s) x zs
held_put [] s x k n le h = tt
held_put (z ∷ zs) s x k n le h = (put_other k x n s (λ e. omega (arith, e, le)) ∙ h.0, h.1, held_put zs s (x + 1) k n (omega (arith, le)) h.2)

-- numbers are read as before
pub read_kept : (tables : List (List ℤ)) (reads : Reads) (nums : List ℤ) (d : ℕ) (s t : State) → 1 < d → Keeps d s t → AreRead tables reads s nums → AreRead tables reads t nums
read_kept tables reads nums d s t some k a = record {
  from = a.from;
  from_is = k.below 1 (omega arith) some ∙ a.from_is;
  within = a.within;
  each = λ j h. subst (λ v. IsRead tables reads v (a.from + j) (nth_number nums j)) (sym k.v) (a.each j h);
}

checks_small : (z : ℤ) → fits_64 z ≡ true → checks z ≡ Some z
checks_small z h = rw h refl

small : (n : ℕ) → n < 2 ^ 63 → fits_64 (pos n) ≡ true
small n h = lt-ltb n (2 ^ 63) h

-- the bound of a rank with one more index
next_bound : (r n i m total : ℕ) → (r + 1) * (n * m) ≤ total → i < n → (r * n + i + 1) * m ≤ total
next_bound r n i m total few below =
    let row : r * n + i + 1 ≤ (r + 1) * n = omega arith in
    let rows : (r * n + i + 1) * m ≤ (r + 1) * n * m = mul-le-mul_right m row in
    omega arith

own_bound : (r m total : ℕ) → (r + 1) * m ≤ total → 1 ≤ m → r < total
own_bound r m total few some = let own : (r + 1) * 1 ≤ (r + 1) * m = mul-le-mul_left (r + 1) some in omega arith

-- the entry at a rank behind the first place
pub entry_value : (tables : List (List ℤ)) (reads : Reads) (s : State) (from start k r : ℕ) (e : ℤ) → slice_get s.vars 1 ≡ Some (pos from) → slice_get s.vars k ≡ Some (pos r) → from + (start + r) < 2 ^ 63
    → table_entry tables reads.entries (pos (from + (start + r))) ≡ Some e → value tables s (entry_at reads (pos start) k) ≡ Some e
entry_value tables reads s from start k r e place is few there =
    let behind = between Plus (number (pos start)) (variable k) in
    let inner : value tables s behind ≡ Some (pos (start + r)) = between_is tables Plus (number (pos start)) (variable k) (pos start) (pos r) s refl is ∙ checks_small (pos (start + r)) (small (start + r) (omega (arith, few))) in
    let whole : value tables s (between Plus (variable 1) behind) ≡ Some (pos (from + (start + r)))
    = between_is tables Plus (variable 1) behind (pos from) (pos (start + r)) s place inner ∙ checks_small (pos (from + (start + r))) (small (from + (start + r)) few) in
    ap (option_and_then (table_entry tables reads.entries)) whole ∙ there

module _ (tables : List (List ℤ)) (reads : Reads) (nums : List ℤ) (fits : (k : ℕ) → fits_64 (nth_number nums k) ≡ true) (d start k : ℕ) (some : 1 < d) where
  -- ---- one number

  entry_is : (s : State) (a : AreRead tables reads s nums) (r : ℕ) (h : start + r < length nums) → slice_get s.vars k ≡ Some (pos r) → value tables s (entry_at reads (pos start) k) ≡ Some (a.each (start + r) h).entry
  entry_is s a r h is = entry_value tables reads s a.from start k r (a.each (start + r) h).entry a.from_is is (omega (arith, h, a.within)) (a.each (start + r) h).there

  fetched_by : (s : State) (e z : ℤ) → value tables s (entry_at reads (pos start) k) ≡ Some e → fits_64 e ≡ true → IsAt tables s.v reads.numbers e z → fits_64 z ≡ true → d < length s.vars → IsSound s
      → Leaves tables (fetched reads (pos start) k d) d s (Ok z)
  fetched_by s (pos c) z is small_entry at small_z inside sound =
      let entry = entry_at reads (pos start) k in
      first_leaves tables (at_most nought entry) (set_var d (cell_v entry) ∷ []) (set_var d (tab reads.numbers (between Minus (number (negsuc 0)) entry)) ∷ []) d s (Ok z)
      (between_is tables AtMost nought entry (pos 0) (pos c) s refl is ∙ ap (λ t. Some (truth t)) (leb-zero c))
      (set_leaves tables d (cell_v entry) z s (rw is at_cell) small_z (omega (arith, some)) inside sound)
    where
      at_cell : slice_get s.v c ≡ Some z
      at_cell = at
  fetched_by s (negsuc j) z is small_entry at small_z inside sound =
      let entry = entry_at reads (pos start) k in
      let index : value tables s (between Minus (number (negsuc 0)) entry) ≡ Some (pos j)
      = between_is tables Minus (number (negsuc 0)) entry (negsuc 0) (negsuc j) s refl is ∙ (ap checks (turned j) ∙ checks_small (pos j) small_entry) in
      second_leaves tables (at_most nought entry) (set_var d (cell_v entry) ∷ []) (set_var d (tab reads.numbers (between Minus (number (negsuc 0)) entry)) ∷ []) d s (Ok z)
      (between_is tables AtMost nought entry (pos 0) (negsuc j) s refl is)
      (set_leaves tables d (tab reads.numbers (between Minus (number (negsuc 0)) entry)) z s (ap (option_and_then (table_entry tables reads.numbers)) index ∙ at) small_z (omega (arith, some)) inside sound)
    where
      turned : (j : ℕ) → negsuc 0 -ℤ negsuc j ≡ pos j
      turned j = omega (arith, ints)

  -- the number at a rank
  pub fetched_leaves : (s : State) (a : AreRead tables reads s nums) (r : ℕ) → start + r < length nums → slice_get s.vars k ≡ Some (pos r) → d < length s.vars → IsSound s
      → Leaves tables (fetched reads (pos start) k d) d s (Ok (nth_number nums (start + r)))
  fetched_leaves s a r h is room sound =
      let read = a.each (start + r) h in fetched_by s read.entry (nth_number nums (start + r)) (entry_is s a r h is) read.fits read.leads (fits (start + r)) room sound

  -- ---- ranks index by index

  -- an index that is inside
  inside_is : (s : State) (x n i : ℕ) (t : Bool) → nat_lt i n ≡ t → slice_get s.vars x ≡ Some (pos i) → value tables s (inside x n) ≡ Some (truth t)
  inside_is s x n i t test is =
      between_is tables Times (at_most nought (variable x)) (between Below (variable x) (number (pos n))) (pos 1) (truth t) s
      (between_is tables AtMost nought (variable x) (pos 0) (pos i) s refl is ∙ ap (λ b. Some (truth b)) (leb-zero i))
      (between_is tables Below (variable x) (number (pos n)) (pos i) (pos n) s is refl ∙ ap (λ b. Some (truth b)) test)
      ∙ one_times t
    where
      one_times : (t : Bool) → checks (pos 1 *ℤ truth t) ≡ Some (truth t)
      one_times true = refl
      one_times false = refl

  -- an index below 0
  inside_not : (s : State) (x n i : ℕ) → slice_get s.vars x ≡ Some (negsuc i) → value tables s (inside x n) ≡ Some (pos 0)
  inside_not s x n i is =
      between_is tables Times (at_most nought (variable x)) (between Below (variable x) (number (pos n))) (pos 0) (pos 1) s
      (between_is tables AtMost nought (variable x) (pos 0) (negsuc i) s refl is)
      (between_is tables Below (variable x) (number (pos n)) (negsuc i) (pos n) s is refl)

  -- what is known before each index: the numbers of the indices, the rank so far, and that ranks stay below a bound
  record Ranking (total : ℕ) (shape : List ℕ) (x so_far : ℕ) (zs : List ℤ) (s : State) : Type 0 where
    a : AreRead tables reads s nums
    held : HeldFrom s x zs
    rank_is : slice_get s.vars k ≡ Some (pos so_far)
    entries : AllByRecursion IsEntry shape
    bound : (so_far + 1) * size shape ≤ total
    within : start + total ≤ length nums
    before : x + length zs ≤ k
    above : d ≤ k
    room : k < length s.vars
    sound : IsSound s

  number_is : (z : ℤ) (r : ℕ) → z ≡ nth_number nums (start + r) → z ≡ nth_number (drop start nums) r
  number_is z r e = e ∙ sym (number_behind nums start r)

  at_last : (total x so_far : ℕ) (s : State) → Ranking total [] x so_far [] s → Leaves tables (fetched reads (pos start) k d) d s (number_at (drop start nums) (Some so_far))
  at_last total x so_far s w =
      let below : so_far < total = omega (arith, w.bound) in
      subst (λ z. Leaves tables (fetched reads (pos start) k d) d s (Ok z)) (sym (number_behind nums start so_far)) (fetched_leaves s w.a so_far (omega (arith, below, w.within)) w.rank_is (omega (arith, w.above, w.room)) w.sound)

  missing : (s : State) → k < length s.vars → Leaves tables (fail Index ∷ []) d s (Err Index)
  missing s room = fail_leaves tables d Index s (omega (arith, room))

  ranked_leaves : (total : ℕ) (shape : List ℕ) (x so_far : ℕ) (zs : List ℤ) (s : State) → Ranking total shape x so_far zs s
      → Leaves tables (ranked reads (pos start) k d shape x (length zs)) d s (number_at (drop start nums) (rank_on shape so_far zs))
  ranked_leaves total [] x so_far [] s w = at_last total x so_far s w
  ranked_leaves total [] x so_far (z ∷ zs) s w = missing s w.room
  ranked_leaves total (n ∷ shape) x so_far [] s w = missing s w.room
  ranked_leaves total (n ∷ shape) x so_far (negsuc i ∷ zs) s w =
      second_leaves tables (inside x n) (next_rank k n x ∷ ranked reads (pos start) k d shape (x + 1) (length zs)) (fail Index ∷ []) d s (Err Index) (inside_not s x n i w.held.0) (missing s w.room)
  ranked_leaves total (n ∷ shape) x so_far (pos i ∷ zs) s w = by_test (λ r t v. ranked_leaves total shape (x + 1) r zs t v) (nat_lt i n) refl
    where
      by_test : ((r : ℕ) (t : State) → Ranking total shape (x + 1) r zs t → Leaves tables (ranked reads (pos start) k d shape (x + 1) (length zs)) d t (number_at (drop start nums) (rank_on shape r zs)))
          → (t : Bool) → nat_lt i n ≡ t → Leaves tables (ranked reads (pos start) k d (n ∷ shape) x (suc (length zs))) d s (number_at (drop start nums) (if t then rank_on shape (so_far * n + i) zs else None))
      by_test again false test = second_leaves tables (inside x n) (next_rank k n x ∷ ranked reads (pos start) k d shape (x + 1) (length zs)) (fail Index ∷ []) d s (Err Index) (inside_is s x n i false test w.held.0) (missing s w.room)
      by_test again true test =
          let below : i < n = ltb-true i n test in
          let next : ℕ = so_far * n + i in
          let bound : (next + 1) * size shape ≤ total = next_bound so_far n i (size shape) total w.bound below in
          let own : next < total = own_bound next (size shape) total bound (size_positive shape w.entries.1) in
          let limit : start + total < 2 ^ 63 = omega (arith, w.within, w.a.within) in
          let product : value tables s (between Times (variable k) (number (pos n))) ≡ Some (pos (so_far * n))
          = between_is tables Times (variable k) (number (pos n)) (pos so_far) (pos n) s w.rank_is refl ∙ checks_small (pos (so_far * n)) (small (so_far * n) (omega (arith, own, limit))) in
          let is : value tables s (between Plus (between Times (variable k) (number (pos n))) (variable x)) ≡ Some (pos next)
          = between_is tables Plus (between Times (variable k) (number (pos n))) (variable x) (pos (so_far * n)) (pos i) s product w.held.0 ∙ checks_small (pos next) (small next (omega (arith, own, limit))) in
          first_leaves tables (inside x n) (next_rank k n x ∷ ranked reads (pos start) k d shape (x + 1) (length zs)) (fail Index ∷ []) d s (number_at (drop start nums) (rank_on shape next zs)) (inside_is s x n i true test w.held.0)
          (set_first tables k (between Plus (between Times (variable k) (number (pos n))) (variable x)) (pos next) (ranked reads (pos start) k d shape (x + 1) (length zs)) d s (number_at (drop start nums) (rank_on shape next zs)) is w.room w.above
          (again next (put k (pos next) s) (record {
            a = read_kept tables reads nums d s (put k (pos next) s) some (put_keeps d k (pos next) s w.above) w.a;
            held = held_put zs s (x + 1) k (pos next) (omega (arith, w.before)) w.held.2;
            rank_is = put_there k (pos next) s w.room;
            entries = w.entries.1;
            bound = bound;
            within = w.within;
            before = omega (arith, w.before);
            above = w.above;
            room = rw (length-set s.vars k (pos next)) w.room;
            sound = put_other k 0 (pos next) s (λ e. omega (arith, e, some, w.above)) ∙ w.sound;
          })))

-- ---- an element of a port

module _ (tables : List (List ℤ)) (reads : Reads) (nums : List ℤ) (fits : (k : ℕ) → fits_64 (nth_number nums k) ≡ true) (d : ℕ) (some : 1 < d) (s : State) (a : AreRead tables reads s nums)
    (zs : List ℤ) (held : HeldFrom s d zs) (room : d + length zs < length s.vars) (sound : IsSound s) where
  element_by : (start : ℕ) (o : Option (List ℕ)) → IfSome o (HasRoom (length nums) start) → Leaves tables (element_in reads (pos start) d (length zs) o) d s (number_at (drop start nums) (rank_in o zs))
  element_by start None h = fail_leaves tables d Index s (omega (arith, room))
  element_by start (Some shape) h =
      let k : ℕ = d + length zs in
      let above : d ≤ k = omega arith in
      set_first tables k nought (pos 0) (ranked reads (pos start) k d shape d (length zs)) d s (number_at (drop start nums) (rank_on shape 0 zs)) refl room above
      (ranked_leaves tables reads nums fits d start k some (size shape) shape d 0 zs (put k (pos 0) s) (record {
        a = read_kept tables reads nums d s (put k (pos 0) s) some (put_keeps d k (pos 0) s above) a;
        held = held_put zs s d k (pos 0) (omega arith) held;
        rank_is = put_there k (pos 0) s room;
        entries = h.is_shape.entry;
        bound = omega arith;
        within = h.room;
        before = omega arith;
        above = above;
        room = rw (length-set s.vars k (pos 0)) room;
        sound = put_other k 0 (pos 0) s (λ e. omega (arith, e, some, above)) ∙ sound;
      }))

  pub element_leaves : (ins : List Port) (p : List ℕ) → AreShapes ins → length nums ≡ patterns_size ins → Leaves tables (element_in reads (pos (start_of ins p)) d (length zs) (shape_of ins p)) d s (element ins nums p zs)
  element_leaves ins p shapes whole =
      subst (λ r. Leaves tables (element_in reads (pos (start_of ins p)) d (length zs) (shape_of ins p)) d s r) (element_start ins nums p zs)
      (element_by (start_of ins p) (shape_of ins p) (subst (λ n. IfSome (shape_of ins p) (HasRoom n (start_of ins p))) (sym whole) (port_room ins p shapes)))
