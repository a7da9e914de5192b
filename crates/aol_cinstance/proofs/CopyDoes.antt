-- What the statements of a copy do.
use Rattle.std.specs.Prelude.{◌≡◌, ℕ, ◌+◌, ℤ, pos, negsuc, ◌-ℤ◌, true, List, [], ◌∷◌, Some, option_and_then}
use Rattle.std.proofs.Common.{refl, sym, ap, subst, arith, ◌∙◌}
use Rattle.std.proofs.Math.Dec.{leb-zero}
use Rattle.std.proofs.lemmas.Int.{ints}
use Rattle.aol_shape.specs.Numbers.{fits_64}
use Rattle.aol_expr_tree.specs.declared.value.Val.{Val}
use Rattle.aol_flat.specs.InstanceValue.{number_of}
use Rattle.aol_csyn.specs.declared.program.COp.TheVariants.{Sub as Minus, Le as AtMost}
use Rattle.aol_csyn.specs.Tree.{Expr, num as number, tab, cell_v, cell_f, bin as between}
use Rattle.aol_csyn.specs.Meaning.{State, value, truth, checked, table_entry}
use Rattle.aol_csyn.specs.Puts.{of_v, of_f}
use Rattle.aol_lower.specs.Lowered.{nought}
use Rattle.aol_lower.proofs.Steps.{between_is}
use Rattle.aol_cinstance.specs.declared.layout.Tables.{Tables}
use Rattle.aol_cinstance.specs.declared.layout.TheConstants.{VALUE}
use Rattle.aol_cinstance.specs.Effect.{IsHeld, IsHeldAt, Stands, Writes, Gives}
use Rattle.aol_cinstance.specs.Statements.{entry_read, own_cell, put_both, copying}
use Rattle.aol_cinstance.specs.Values.{mark_of}
use Rattle.aol_cinstance.proofs.Does.{Does, does_first, does_second}
use Rattle.aol_cinstance.proofs.Settle.{put_cell, puts_both}

one_less : (k : ℕ) → negsuc 0 -ℤ negsuc k ≡ pos k
one_less k = omega (arith, ints)

module _ (tables : List (List ℤ)) (sizes : List (List ℕ)) (t : Tables) (x : Val) (c : ℕ) (s : State) (st : Stands tables sizes t (x ∷ []) (c ∷ []) s) where
  abbrev Entry : Expr
  Entry = entry_read t.reads.entries

  abbrev Cell : Expr
  Cell = own_cell t.cells

  cell_value : value tables s Cell ≡ Some (pos c)
  cell_value = let e : st.at ≡ st.at + 0 = omega arith in
      ap (option_and_then (table_entry tables t.cells)) st.at_is ∙ (ap (λ n. table_entry tables t.cells (pos n)) e ∙ st.cells 0 c refl)

  held : IsHeld tables sizes t.reads s.v s.f (st.from + 0) x
  held = st.reads 0 x refl

  entry_value : value tables s Entry ≡ Some held.entry
  entry_value = let e : st.from ≡ st.from + 0 = omega arith in
      ap (option_and_then (table_entry tables t.reads.entries)) st.from_is ∙ (ap (λ n. table_entry tables t.reads.entries (pos n)) e ∙ held.there)

  abbrev End : State
  End = put_cell c (number_of x) (mark_of sizes x) s

  -- by the entry
  copies : (e : ℤ) → value tables s Entry ≡ Some e → fits_64 e ≡ true → IsHeldAt tables sizes t.reads.numbers s.v s.f e x → Does tables (copying t) s End (of_v c ∷ of_f c ∷ [])
  copies (pos d) is fits h =
      let first = put_both Cell (cell_v Entry) (cell_f Entry) in
      let second = put_both Cell (tab t.reads.numbers (between Minus (number (negsuc 0)) Entry)) nought in
      does_first tables (between AtMost nought Entry) first second (pos 1) s End (of_v c ∷ of_f c ∷ [])
      (between_is tables AtMost nought Entry (pos 0) (pos d) s refl is ∙ ap (λ b. Some (truth b)) (leb-zero d)) refl
      (puts_both tables Cell (cell_v Entry) (cell_f Entry) c (number_of x) (mark_of sizes x) s cell_value (rw is (h.0)) cell_value (rw is (h.1)) (st.in_v 0 c refl) (st.in_f 0 c refl))
  copies (negsuc k) is fits h =
      let first = put_both Cell (cell_v Entry) (cell_f Entry) in
      let index = between Minus (number (negsuc 0)) Entry in
      let second = put_both Cell (tab t.reads.numbers index) nought in
      let at : value tables s index ≡ Some (pos k) = between_is tables Minus (number (negsuc 0)) Entry (negsuc 0) (negsuc k) s refl is ∙ (ap checked (one_less k) ∙ small fits) in
      let v_is : value tables s (tab t.reads.numbers index) ≡ Some (number_of x) = ap (option_and_then (table_entry tables t.reads.numbers)) at ∙ h.0 in
      let there : Does tables second s (put_cell c (number_of x) (pos 0) s) (of_v c ∷ of_f c ∷ [])
      = puts_both tables Cell (tab t.reads.numbers index) nought c (number_of x) (pos 0) s cell_value v_is cell_value refl (st.in_v 0 c refl) (st.in_f 0 c refl) in
      does_second tables (between AtMost nought Entry) first second (pos 0) s End (of_v c ∷ of_f c ∷ []) (between_is tables AtMost nought Entry (pos 0) (negsuc k) s refl is) refl
      (subst (λ m. Does tables second s (put_cell c (number_of x) m s) (of_v c ∷ of_f c ∷ [])) (sym h.1) there)
    where
      small : fits_64 (negsuc k) ≡ true → checked (pos k) ≡ Some (pos k)
      small f = rw f refl

  copy_one : Writes tables sizes (copying t) s (c ∷ []) (x ∷ [])
  copy_one =
      let d = copies held.entry entry_value held.fits held.leads in
      record { end = End; runs = d.runs; puts = d.puts; v = refl; f = refl; variables = refl; instance = refl }

pub copy_writes : (sizes : List (List ℕ)) (t : Tables) → Gives sizes t 1 1 (VALUE + 2) (λ xs. xs) (copying t)
copy_writes sizes t tables [] cs s reads cells st room = absurd (omega (arith, reads))
copy_writes sizes t tables (x ∷ y ∷ xs) cs s reads cells st room = absurd (omega (arith, reads))
copy_writes sizes t tables (x ∷ []) [] s reads cells st room = absurd (omega (arith, cells))
copy_writes sizes t tables (x ∷ []) (c ∷ d ∷ cs) s reads cells st room = absurd (omega (arith, cells))
copy_writes sizes t tables (x ∷ []) (c ∷ []) s reads cells st room = copy_one tables sizes t x c s st
