-- An instance whose first so many cells are put.
use Rattle.std.specs.Prelude.{◌≡◌, ℕ, zero, suc, ◌+◌, ◌<◌, ◌^◌, ℤ, pos, negsuc, true, List, [], ◌∷◌, map, take, length, slice_get, slice_set, Some, option_and_then}
use Rattle.std.proofs.Common.{refl, sym, ap, subst, arith, ◌∙◌}
use Rattle.std.proofs.lemmas.Bool.{lt-ltb}
use Rattle.std.proofs.lemmas.List.{length-set}
use Rattle.aol_shape.specs.Numbers.{fits_64}
use Rattle.aol_expr_tree.specs.declared.value.Val.{Val}
use Rattle.aol_expr_tree.specs.Meaning.{nth_number}
use Rattle.aol_flat.specs.InstanceValue.{number_of}
use Rattle.aol_csyn.specs.declared.program.COp.TheVariants.{Add as Plus}
use Rattle.aol_csyn.specs.Tree.{num as number, var as variable, bin as between}
use Rattle.aol_csyn.specs.Meaning.{State, value, table_entry, checked, with_v, with_f}
use Rattle.aol_lower.specs.Effect.{Keeps, IsAt, IsRead, AreRead}
use Rattle.aol_lower.specs.Ports.{IsMarkAt, IsMarked, AreMarked}
use Rattle.aol_lower.proofs.Steps.{put, put_other, between_is}
use Rattle.aol_cinstance.specs.declared.layout.Tables.{Tables}
use Rattle.aol_cinstance.specs.declared.layout.TheConstants.{INSTANCE, CELLS, RANK, VALUE}
use Rattle.aol_cinstance.specs.Effect.{IsHeldAt, IsHeld, Stands}
use Rattle.aol_cinstance.specs.Statements.{cell_of}
use Rattle.aol_cinstance.specs.Values.{mark_of, set_all}
use Rattle.aol_cinstance.proofs.Lists.{take_get, get_below, get_within, map_get, map_length, nth_get, set_length, set_other, set_more}

pub small_fits : (n : ℕ) → n < 2 ^ 63 → fits_64 (pos n) ≡ true
small_fits n h = lt-ltb n (2 ^ 63) h

pub small_checked : (n : ℕ) → n < 2 ^ 63 → checked (pos n) ≡ Some (pos n)
small_checked n h = rw (small_fits n h) refl

module _ (tables : List (List ℤ)) (sizes : List (List ℕ)) (t : Tables) (xs : List Val) (cs : List ℕ) (values : List Val) (s : State) (st : Stands tables sizes t xs cs s) where
  abbrev pub Vs : List ℤ
  Vs = map number_of values

  abbrev pub Fs : List ℤ
  Fs = map (mark_of sizes) values

  pub record Progress (j : ℕ) (u : State) : Type 0 where
    pub v : u.v ≡ set_all s.v (take j cs) (take j Vs)
    pub f : u.f ≡ set_all s.f (take j cs) (take j Fs)
    pub size : length u.vars ≡ length s.vars
    pub from_is : slice_get u.vars 1 ≡ Some (pos st.from)
    pub at_is : slice_get u.vars CELLS ≡ Some (pos st.at)
    pub instance : slice_get u.vars INSTANCE ≡ slice_get s.vars INSTANCE

  pub progress_start : Progress 0 s
  progress_start = record { v = refl; f = refl; size = refl; from_is = st.from_is; at_is = st.at_is; instance = refl }

  -- statements that keep the arrays and these variables
  pub progress_keeps : (j : ℕ) (u w : State) → Keeps VALUE u w → Progress j u → Progress j w
  progress_keeps j u w k p = record {
    v = k.v ∙ p.v;
    f = k.f ∙ p.f;
    size = k.size ∙ p.size;
    from_is = k.below 1 (omega arith) (omega arith) ∙ p.from_is;
    at_is = k.below CELLS (omega arith) (omega arith) ∙ p.at_is;
    instance = k.below INSTANCE (omega arith) (omega arith) ∙ p.instance;
  }

  -- another variable takes a number
  pub progress_put : (j k : ℕ) (z : ℤ) (u : State) → (k ≡ 1 → ⊥) → (k ≡ CELLS → ⊥) → (k ≡ INSTANCE → ⊥) → Progress j u → Progress j (put k z u)
  progress_put j k z u one cells instance p = record {
    v = p.v;
    f = p.f;
    size = length-set u.vars k z ∙ p.size;
    from_is = put_other k 1 z u one ∙ p.from_is;
    at_is = put_other k CELLS z u cells ∙ p.at_is;
    instance = put_other k INSTANCE z u instance ∙ p.instance;
  }

  -- one more cell is put
  pub progress_more : (j c : ℕ) (x : Val) (u : State) → slice_get cs j ≡ Some c → slice_get values j ≡ Some x → Progress j u
      → Progress (suc j) (with_f (with_v u (slice_set u.v c (number_of x))) (slice_set u.f c (mark_of sizes x)))
  progress_more j c x u at is p = record {
    v = ap (λ ys. slice_set ys c (number_of x)) p.v ∙ sym (set_more s.v cs Vs j c (number_of x) at (map_get number_of values j x is));
    f = ap (λ ys. slice_set ys c (mark_of sizes x)) p.f ∙ sym (set_more s.f cs Fs j c (mark_of sizes x) at (map_get (mark_of sizes) values j x is));
    size = p.size;
    from_is = p.from_is;
    at_is = p.at_is;
    instance = p.instance;
  }

  -- the arrays have as many cells as before
  pub v_inside : (j k c : ℕ) (u : State) → slice_get cs k ≡ Some c → Progress j u → c < length u.v
  v_inside j k c u at p = let e = ap length p.v ∙ set_length s.v (take j cs) (take j Vs) in let below = st.in_v k c at in omega (arith, e, below)

  pub f_inside : (j k c : ℕ) (u : State) → slice_get cs k ≡ Some c → Progress j u → c < length u.f
  f_inside j k c u at p = let e = ap length p.f ∙ set_length s.f (take j cs) (take j Fs) in let below = st.in_f k c at in omega (arith, e, below)

  -- ---- what is read is still held

  module _ (j : ℕ) (u : State) (p : Progress j u) where
    v_kept : (k c : ℕ) → k < length xs → table_entry tables t.reads.entries (pos (st.from + k)) ≡ Some (pos c) → slice_get u.v c ≡ slice_get s.v c
    v_kept k c below there = ap (λ ys. slice_get ys c) p.v
        ∙ set_other s.v (take j cs) (take j Vs) c (λ i d at e. st.apart k i c below there (take_get cs j i d at ∙ ap (λ n. Some n) e))

    f_kept : (k c : ℕ) → k < length xs → table_entry tables t.reads.entries (pos (st.from + k)) ≡ Some (pos c) → slice_get u.f c ≡ slice_get s.f c
    f_kept k c below there = ap (λ ys. slice_get ys c) p.f
        ∙ set_other s.f (take j cs) (take j Fs) c (λ i d at e. st.apart k i c below there (take_get cs j i d at ∙ ap (λ n. Some n) e))

    leads_now : (k : ℕ) (x : Val) (e : ℤ) → k < length xs → table_entry tables t.reads.entries (pos (st.from + k)) ≡ Some e → IsHeldAt tables sizes t.reads.numbers s.v s.f e x → IsHeldAt tables sizes t.reads.numbers u.v u.f e x
    leads_now k x (pos c) below there h = (v_kept k c below there ∙ h.0, f_kept k c below there ∙ h.1)
    leads_now k x (negsuc n) below there h = h

    pub held_now : (k : ℕ) (x : Val) → slice_get xs k ≡ Some x → IsHeld tables sizes t.reads u.v u.f (st.from + k) x
    held_now k x is = let h = st.reads k x is in record {
      entry = h.entry;
      there = h.there;
      fits = h.fits;
      leads = leads_now k x h.entry (get_within xs k x is) h.there h.leads;
    }

    is_at : (x : Val) (e : ℤ) → IsHeldAt tables sizes t.reads.numbers u.v u.f e x → IsAt tables u.v t.reads.numbers e (number_of x)
    is_at x (pos c) h = h.0
    is_at x (negsuc n) h = h.0

    is_mark_at : (x : Val) (e : ℤ) → IsHeldAt tables sizes t.reads.numbers u.v u.f e x → IsMarkAt u.f e (mark_of sizes x)
    is_mark_at x (pos c) h = h.1
    is_mark_at x (negsuc n) h = h.1

    pub numbers_read : AreRead tables t.reads u (map number_of xs)
    numbers_read = record {
      from = st.from;
      from_is = p.from_is;
      within = let e = map_length number_of xs in let few = st.few_reads in omega (arith, e, few);
      each = λ k below.
          let x = get_below xs k (let e = map_length number_of xs in omega (arith, e, below)) in
          let h = held_now k x.0 x.1 in
          let same : nth_number (map number_of xs) k ≡ number_of x.0 = nth_get (map number_of xs) k (number_of x.0) (map_get number_of xs k x.0 x.1) in
          subst (λ z. IsRead tables t.reads u.v (st.from + k) z) (sym same) (record { entry = h.entry; there = h.there; fits = h.fits; leads = is_at x.0 h.entry h.leads });
    }

    pub marks_read : AreMarked tables t.reads u (map (mark_of sizes) xs)
    marks_read = record {
      from = st.from;
      from_is = p.from_is;
      within = let e = map_length (mark_of sizes) xs in let few = st.few_reads in omega (arith, e, few);
      each = λ k below.
          let x = get_below xs k (let e = map_length (mark_of sizes) xs in omega (arith, e, below)) in
          let h = held_now k x.0 x.1 in
          let same : nth_number (map (mark_of sizes) xs) k ≡ mark_of sizes x.0 = nth_get (map (mark_of sizes) xs) k (mark_of sizes x.0) (map_get (mark_of sizes) xs k x.0 x.1) in
          subst (λ z. IsMarked tables t.reads u.f (st.from + k) z) (sym same) (record { entry = h.entry; there = h.there; leads = is_mark_at x.0 h.entry h.leads });
    }

    -- ---- the cell of an output

    pub cell_is : (start r c : ℕ) → slice_get u.vars RANK ≡ Some (pos r) → slice_get cs (start + r) ≡ Some c → value tables u (cell_of t.cells start) ≡ Some (pos c)
    cell_is start r c rank at =
        let few = get_within cs (start + r) c at in
        let all = st.few_cells in
        let behind = between Plus (number (pos start)) (variable RANK) in
        let inner : value tables u behind ≡ Some (pos (start + r)) = between_is tables Plus (number (pos start)) (variable RANK) (pos start) (pos r) u refl rank ∙ small_checked (start + r) (omega (arith, few, all)) in
        let whole : value tables u (between Plus (variable CELLS) behind) ≡ Some (pos (st.at + (start + r)))
        = between_is tables Plus (variable CELLS) behind (pos st.at) (pos (start + r)) u p.at_is inner ∙ small_checked (st.at + (start + r)) (omega (arith, few, all)) in
        ap (option_and_then (table_entry tables t.cells)) whole ∙ st.cells (start + r) c at

-- numbers that are none in no list
pub nth_fits : (zs : List ℤ) → ((k : ℕ) (z : ℤ) → slice_get zs k ≡ Some z → fits_64 z ≡ true) → (k : ℕ) → fits_64 (nth_number zs k) ≡ true
nth_fits [] h k = refl
nth_fits (z ∷ zs) h zero = h 0 z refl
nth_fits (z ∷ zs) h (suc k) = nth_fits zs (λ j y g. h (suc j) y g) k

pub map_fits : (xs : List Val) → ((k : ℕ) (x : Val) → slice_get xs k ≡ Some x → fits_64 (number_of x) ≡ true) → (k : ℕ) (z : ℤ) → slice_get (map number_of xs) k ≡ Some z → fits_64 z ≡ true
map_fits [] h zero z g = absurd (cc)
map_fits [] h (suc k) z g = absurd (cc)
map_fits (x ∷ xs) h zero z g = let e : number_of x ≡ z = cc in subst (λ y. fits_64 y ≡ true) e (h 0 x refl)
map_fits (x ∷ xs) h (suc k) z g = map_fits xs (λ j y i. h (suc j) y i) k z g
