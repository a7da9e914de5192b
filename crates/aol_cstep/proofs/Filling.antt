-- What a group of instances does.
use Rattle.std.specs.Prelude.{◌≡◌, ℕ, zero, suc, ◌+◌, ◌*◌, ◌<◌, ◌≤◌, ◌^◌, ◌⊎◌, ℤ, pos, negsuc, List, [], ◌∷◌, ◌++◌, map, flat_map, take, length, slice_get, slice_set, Some}
use Rattle.std.proofs.Common.{refl, sym, ap, arith, ◌∙◌, append_assoc, inl, inr}
use Rattle.std.proofs.Math.Nat.{mul-le-mul_right}
use Rattle.std.proofs.lemmas.List.{append-nil, length-append, length-set}
use Rattle.aol_expr_tree.specs.declared.value.Val.{Val}
use Rattle.aol_flat.specs.InstanceValue.{number_of}
use Rattle.aol_csyn.specs.declared.program.COp.TheVariants.{Add as Plus, Mul as Times}
use Rattle.aol_csyn.specs.Tree.{num as number, var as variable, bin as between, Stmt, set_var}
use Rattle.aol_csyn.specs.Meaning.{State, value, table_entry}
use Rattle.aol_csyn.specs.Puts.{of_v, of_f}
use Rattle.aol_lower.proofs.Steps.{put, put_there, put_other, between_is}
use Rattle.aol_cinstance.specs.declared.layout.Tables.{Tables}
use Rattle.aol_cinstance.specs.declared.layout.TheConstants.{INSTANCE, READS, CELLS, VALUE}
use Rattle.aol_cinstance.specs.Effect.{IsHeldAt, IsHeld, Stands, Gives}
use Rattle.aol_cinstance.specs.Values.{mark_of, set_all, both}
use Rattle.aol_cinstance.proofs.Does.{Turn, does_then, does_set, does_loop}
use Rattle.aol_cinstance.proofs.Lists.{get_within, get_below, map_length, set_length, set_other, take_get, take_whole}
use Rattle.aol_cinstance.proofs.Progress.{small_checked}
use Rattle.aol_cstep.specs.declared.group.Group.{Group}
use Rattle.aol_cstep.specs.Effect.{Visit, cells_of, given_by, IsReady, AreReady, Fills, GroupFills}
use Rattle.aol_cstep.specs.Statements.{place, turn, group_loop}

-- ---- lists

pub set_both : (xs : List ℤ) (a b : List ℕ) (p q : List ℤ) → length a ≡ length p → set_all xs (a ++ b) (p ++ q) ≡ set_all (set_all xs a p) b q
set_both xs [] b [] q h = refl
set_both xs [] b (z ∷ p) q h = absurd (omega (arith, h))
set_both xs (c ∷ a) b [] q h = absurd (omega (arith, h))
set_both xs (c ∷ a) b (z ∷ p) q h = set_both (slice_set xs c z) a b p q (omega (arith, h))

pub both_append : (a b : List ℕ) → both (a ++ b) ≡ both a ++ both b
both_append [] b = refl
both_append (c ∷ a) b = ap (λ x. of_v c ∷ of_f c ∷ x) (both_append a b)

pub map_append : {A B : Type 0} (f : A → B) (a b : List A) → map f (a ++ b) ≡ map f a ++ map f b
map_append f [] b = refl
map_append f (x ∷ a) b = ap (λ ys. f x ∷ ys) (map_append f a b)

pub either_at : {A : Type 0} (xs ys : List A) (k : ℕ) (x : A) → slice_get (xs ++ ys) k ≡ Some x → (slice_get xs k ≡ Some x) ⊎ ((j : ℕ) × (slice_get ys j ≡ Some x))
either_at [] ys k x h = inr (k, h)
either_at (y ∷ xs) ys zero x h = inl h
either_at (y ∷ xs) ys (suc k) x h = either_at xs ys k x h

module _ {A B : Type 0} (f : A → List B) where
  -- one more
  pub flat_more : (xs : List A) (i : ℕ) (x : A) → slice_get xs i ≡ Some x → flat_map f (take (suc i) xs) ≡ flat_map f (take i xs) ++ f x
  flat_more [] zero x h = absurd (cc)
  flat_more [] (suc i) x h = absurd (cc)
  flat_more (y ∷ xs) zero x h = let e : y ≡ x = cc in append-nil (f y) ∙ ap f e
  flat_more (y ∷ xs) (suc i) x h = ap (λ ys. f y ++ ys) (flat_more xs i x h) ∙ sym (append_assoc (f y) (flat_map f (take i xs)) (f x))

  -- an entry of all is one of some list
  pub record IsIn (xs : List A) (y : B) : Type 0 where
    pub i : ℕ
    pub x : A
    pub at : slice_get xs i ≡ Some x
    pub j : ℕ
    pub there : slice_get (f x) j ≡ Some y

  later_in : (x : A) (xs : List A) (y : B) → IsIn xs y → IsIn (x ∷ xs) y
  later_in x xs y r = record { i = suc r.i; x = r.x; at = r.at; j = r.j; there = r.there }

  here_in : (x : A) (xs : List A) (y : B) (k : ℕ) → slice_get (f x) k ≡ Some y → IsIn (x ∷ xs) y
  here_in x xs y k h = record { i = 0; x = x; at = refl; j = k; there = h }

  pub flat_get : (xs : List A) (k : ℕ) (y : B) → slice_get (flat_map f xs) k ≡ Some y → IsIn xs y
  flat_get [] zero y h = absurd (cc)
  flat_get [] (suc k) y h = absurd (cc)
  flat_get (x ∷ xs) k y h = elim (either_at (f x) (flat_map f xs) k y h) [ inl here ↦ here_in x xs y k here | inr later ↦ later_in x xs y (flat_get xs later.0 y later.1) ]

-- as many cells as values
same_length : (gives : List Val → List Val) (visits : List Visit) → ((i : ℕ) (v : Visit) → slice_get visits i ≡ Some v → length v.cells ≡ length (gives v.taken)) → length (cells_of visits) ≡ length (given_by gives visits)
same_length gives [] h = refl
same_length gives (v ∷ visits) h =
    let one = h 0 v refl in
    let more = same_length gives visits (λ i w at. h (suc i) w at) in
    let a = length-append v.cells (cells_of visits) in
    let b = length-append (gives v.taken) (given_by gives visits) in
    omega (arith, one, more, a, b)

place_is : (tables : List (List ℤ)) (first each i : ℕ) (u : State) → slice_get u.vars INSTANCE ≡ Some (pos i) → first + i * each < 2 ^ 63 → value tables u (place first each) ≡ Some (pos (first + i * each))
place_is tables first each i u is few =
    let scaled = between Times (variable INSTANCE) (number (pos each)) in
    let one : value tables u scaled ≡ Some (pos (i * each)) = between_is tables Times (variable INSTANCE) (number (pos each)) (pos i) (pos each) u is refl ∙ small_checked (i * each) (omega (arith, few)) in
    between_is tables Plus (number (pos first)) scaled (pos first) (pos (i * each)) u refl one ∙ small_checked (first + i * each) few

module _ (tables : List (List ℤ)) (sizes : List (List ℕ)) (t : Tables) (g : Group) (all : List ℕ) (visits : List Visit) (s : State) (r : AreReady tables sizes t g all s.v s.f visits) (gives : List Val → List Val) (vars : ℕ) (instance : List Stmt)
    (does_instance : Gives sizes t g.reads g.cells vars gives instance) (as_many : (xs : List Val) → length xs ≡ g.reads → length (gives xs) ≡ g.cells) (enough : vars ≤ length s.vars) (room : VALUE ≤ length s.vars) where
  abbrev Cs : ℕ → List ℕ
  Cs i = cells_of (take i visits)

  abbrev Given : ℕ → List Val
  Given i = given_by gives (take i visits)

  -- so many instances are done
  record Done (i : ℕ) (u : State) : Type 0 where
    v : u.v ≡ set_all s.v (Cs i) (map number_of (Given i))
    f : u.f ≡ set_all s.f (Cs i) (map (mark_of sizes) (Given i))
    size : length u.vars ≡ length s.vars

  -- a cell that they wrote is one of the step
  wrote : (i j c : ℕ) → slice_get (Cs i) j ≡ Some c → (l : ℕ) × (slice_get all l ≡ Some c)
  wrote i j c at =
      let p = flat_get (λ (v : Visit). v.cells) (take i visits) j c at in
      (r.each p.i p.x (take_get visits i p.i p.x p.at)).among p.j c p.there

  module _ (i : ℕ) (visit : Visit) (is : slice_get visits i ≡ Some visit) (u : State) (d : Done i u) where
    ready : IsReady tables sizes t (g.from + i * g.reads) (g.at + i * g.cells) all s.v s.f visit
    ready = r.each i visit is

    other : (k c : ℕ) → k < length visit.taken → table_entry tables t.reads.entries (pos (g.from + i * g.reads + k)) ≡ Some (pos c) → (j d : ℕ) → slice_get (Cs i) j ≡ Some d → d ≡ c → ⊥
    other k c below there j d at e = let w = wrote i j d at in ready.apart k w.0 c below there (w.1 ∙ ap (λ n. Some n) e)

    leads_still : (k : ℕ) (x : Val) (e : ℤ) → k < length visit.taken → table_entry tables t.reads.entries (pos (g.from + i * g.reads + k)) ≡ Some e → IsHeldAt tables sizes t.reads.numbers s.v s.f e x
        → IsHeldAt tables sizes t.reads.numbers u.v u.f e x
    leads_still k x (pos c) below there h = (
      ap (λ ys. slice_get ys c) d.v ∙ (set_other s.v (Cs i) (map number_of (Given i)) c (other k c below there) ∙ h.0),
      ap (λ ys. slice_get ys c) d.f ∙ (set_other s.f (Cs i) (map (mark_of sizes) (Given i)) c (other k c below there) ∙ h.1),
    )
    leads_still k x (negsuc n) below there h = h

    held_still : (k : ℕ) (x : Val) → slice_get visit.taken k ≡ Some x → IsHeld tables sizes t.reads u.v u.f (g.from + i * g.reads + k) x
    held_still k x at = let h = ready.reads k x at in record {
      entry = h.entry;
      there = h.there;
      fits = h.fits;
      leads = leads_still k x h.entry (get_within visit.taken k x at) h.there h.leads;
    }

    in_v : (k c : ℕ) → slice_get visit.cells k ≡ Some c → c < length u.v
    in_v k c at = let e = ap length d.v ∙ set_length s.v (Cs i) (map number_of (Given i)) in let below = ready.in_v k c at in omega (arith, e, below)

    in_f : (k c : ℕ) → slice_get visit.cells k ≡ Some c → c < length u.f
    in_f k c at = let e = ap length d.f ∙ set_length s.f (Cs i) (map (mark_of sizes) (Given i)) in let below = ready.in_f k c at in omega (arith, e, below)

  prefix_same : (i : ℕ) → length (Cs i) ≡ length (Given i)
  prefix_same i = same_length gives (take i visits) (λ k v at. let here = take_get visits i k v at in r.written k v here ∙ sym (as_many v.taken (r.taken k v here)))

  one_turn : (i : ℕ) (before : State) → i < g.count → Done i before → Turn tables (turn g instance) Done (λ n. both (Cs n)) i (put INSTANCE (pos i) before)
  one_turn i before below d =
      let many = r.many in
      let v = get_below visits i (omega (arith, below, many)) in
      let visit : Visit = v.0 in
      let taken_many = r.taken i visit v.1 in
      let cells_many = r.written i visit v.1 in
      let reads_low : (i + 1) * g.reads ≤ g.count * g.reads = mul-le-mul_right g.reads (omega (arith, below)) in
      let cells_low : (i + 1) * g.cells ≤ g.count * g.cells = mul-le-mul_right g.cells (omega (arith, below)) in
      let few_reads = r.few_reads in
      let few_cells = r.few_cells in
      let from : ℕ = g.from + i * g.reads in
      let at : ℕ = g.at + i * g.cells in
      let size = d.size in
      let u : State = put INSTANCE (pos i) before in
      let su = length-set before.vars INSTANCE (pos i) in
      let inside : INSTANCE < length before.vars = omega (arith, size, room) in
      let index : slice_get u.vars INSTANCE ≡ Some (pos i) = put_there INSTANCE (pos i) before inside in
      let u1 : State = put READS (pos from) u in
      let s1 = length-set u.vars READS (pos from) in
      let d1 = does_set tables READS (place g.from g.reads) (pos from) u (place_is tables g.from g.reads i u index (omega (arith, reads_low, few_reads))) (omega (arith, su, size, room)) in
      let index1 : slice_get u1.vars INSTANCE ≡ Some (pos i) = put_other READS INSTANCE (pos from) u (λ e. omega (arith, e)) ∙ index in
      let u2 : State = put CELLS (pos at) u1 in
      let s2 = length-set u1.vars CELLS (pos at) in
      let d2 = does_set tables CELLS (place g.at g.cells) (pos at) u1 (place_is tables g.at g.cells i u1 index1 (omega (arith, cells_low, few_cells))) (omega (arith, s1, su, size, room)) in
      let stands : Stands tables sizes t visit.taken visit.cells u2 = record {
        from = from;
        from_is = put_other CELLS READS (pos at) u1 (λ e. omega (arith, e)) ∙ put_there READS (pos from) u (omega (arith, su, size, room));
        few_reads = omega (arith, reads_low, few_reads, taken_many);
        reads = held_still i visit v.1 before d;
        fits = (ready i visit v.1 before d).fits;
        at = at;
        at_is = put_there CELLS (pos at) u1 (omega (arith, s1, su, size, room));
        few_cells = omega (arith, cells_low, few_cells, cells_many);
        cells = (ready i visit v.1 before d).cells;
        in_v = in_v i visit v.1 before d;
        in_f = in_f i visit v.1 before d;
        apart = λ k j c low there own. let a = (ready i visit v.1 before d).among j c own in (ready i visit v.1 before d).apart k a.0 c low there a.1;
      } in
      let w = does_instance tables visit.taken visit.cells u2 taken_many cells_many stands (omega (arith, s2, s1, su, size, enough)) in
      let give : List Val = gives visit.taken in
      let next_cells : Cs (suc i) ≡ Cs i ++ visit.cells = flat_more (λ (x : Visit). x.cells) visits i visit v.1 in
      let next_given : Given (suc i) ≡ Given i ++ give = flat_more (λ (x : Visit). gives x.taken) visits i visit v.1 in
      let variables = w.variables in
      record {
        end = w.end;
        cs = both visit.cells;
        does = does_then tables (set_var READS (place g.from g.reads) ∷ []) (set_var CELLS (place g.at g.cells) ∷ instance) u u1 w.end [] (both visit.cells) d1
            (does_then tables (set_var CELLS (place g.at g.cells) ∷ []) instance u1 u2 w.end [] (both visit.cells) d2 (record { runs = w.runs; puts = w.puts }));
        more = sym (both_append (Cs i) visit.cells) ∙ ap both (sym next_cells);
        known = record {
          v = w.v ∙ next_array s.v before.v visit.cells give (Cs i) (Cs (suc i)) (Given i) (Given (suc i)) number_of d.v (prefix_same i) next_cells next_given;
          f = w.f ∙ next_array s.f before.f visit.cells give (Cs i) (Cs (suc i)) (Given i) (Given (suc i)) (mark_of sizes) d.f (prefix_same i) next_cells next_given;
          size = omega (arith, variables, s2, s1, su, size);
        };
      }
    where
      next_array : (old mid : List ℤ) (cs : List ℕ) (give : List Val) (before_cs after_cs : List ℕ) (before_vs after_vs : List Val) (h : Val → ℤ) → mid ≡ set_all old before_cs (map h before_vs) → length before_cs ≡ length before_vs
          → after_cs ≡ before_cs ++ cs → after_vs ≡ before_vs ++ give → set_all mid cs (map h give) ≡ set_all old after_cs (map h after_vs)
      next_array old mid cs give before_cs after_cs before_vs after_vs h is same cells_are vals_are =
          ap (λ ys. set_all ys cs (map h give)) is
          ∙ (sym (set_both old before_cs cs (map h before_vs) (map h give) (same ∙ sym (map_length h before_vs)))
          ∙ (ap (λ zs. set_all old (before_cs ++ cs) zs) (sym (map_append h before_vs give))
          ∙ (ap (λ ds. set_all old ds (map h (before_vs ++ give))) (sym cells_are) ∙ ap (λ vs. set_all old after_cs (map h vs)) (sym vals_are))))

  pub fills : Fills tables sizes (group_loop g instance ∷ []) s (cells_of visits) (given_by gives visits)
  fills =
      let n : ℕ = g.count in
      let start : Done 0 s = record { v = refl; f = refl; size = refl } in
      let loop = does_loop tables INSTANCE n (turn g instance) Done (λ i. both (Cs i)) (λ i u d. let size = d.size in omega (arith, size, room)) one_turn s start in
      let last = loop.known in
      let whole : take n visits ≡ visits = ap (λ k. take k visits) (sym r.many) ∙ take_whole visits in
      record {
        end = put INSTANCE (pos n) loop.last;
        runs = loop.does.runs;
        puts = loop.does.puts ∙ (loop.more ∙ ap (λ vs. both (cells_of vs)) whole);
        v = last.v ∙ ap (λ vs. set_all s.v (cells_of vs) (map number_of (given_by gives vs))) whole;
        f = last.f ∙ ap (λ vs. set_all s.f (cells_of vs) (map (mark_of sizes) (given_by gives vs))) whole;
        variables = length-set loop.last.vars INSTANCE (pos n) ∙ last.size;
      }

pub group_fills : (g : Group) (instance : List Stmt) → GroupFills g instance (group_loop g instance)
group_fills g instance sizes t vars gives does as_many tables all visits s r enough room = fills tables sizes t g all visits s r gives vars instance does as_many enough room
