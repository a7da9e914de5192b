-- A cell takes a value.
use Rattle.std.specs.Prelude.{◌≡◌, ℕ, suc, ◌+◌, ◌*◌, ◌<◌, ◌≤◌, ◌^◌, ℤ, pos, ◌-ℤ◌, false, List, [], ◌∷◌, length, slice_get, slice_set, Some, Result, Ok, Err}
use Rattle.std.proofs.Common.{refl, ap, subst, arith, ◌∙◌}
use Rattle.std.proofs.lemmas.Int.{ints}
use Rattle.aol_expr_tree.specs.declared.value.Kind.{Kind}
use Rattle.aol_expr_tree.specs.declared.value.Kind.TheVariants.{Overflow, Divide, Index, Range}
use Rattle.aol_expr_tree.specs.declared.value.Val.{Val}
use Rattle.aol_expr_tree.specs.declared.value.Val.TheVariants.{Num}
use Rattle.aol_flat.specs.InstanceValue.{number_of}
use Rattle.aol_csyn.specs.declared.program.COp.TheVariants.{Add as Plus, Mul as Times, Eq as Equal}
use Rattle.aol_csyn.specs.Tree.{Expr, num as number, var as variable, bin as between, Stmt, put_v, put_f}
use Rattle.aol_csyn.specs.Meaning.{State, value, is_zero, truth, with_v, with_f}
use Rattle.aol_csyn.specs.Puts.{of_v, of_f}
use Rattle.aol_lower.specs.Effect.{kind_number, Holds}
use Rattle.aol_lower.specs.Lowered.{nought}
use Rattle.aol_lower.proofs.Steps.{between_is}
use Rattle.aol_cinstance.specs.declared.layout.Tables.{Tables}
use Rattle.aol_cinstance.specs.declared.layout.TheConstants.{RANK, VALUE}
use Rattle.aol_cinstance.specs.Effect.{Stands}
use Rattle.aol_cinstance.specs.Statements.{cell_of, put_both, mark_here, settle}
use Rattle.aol_cinstance.specs.Values.{mark_of}
use Rattle.aol_cinstance.proofs.Does.{Does, does_then, does_first, does_second, does_put_v, does_put_f}
use Rattle.aol_cinstance.proofs.Progress.{Progress, progress_more, v_inside, f_inside, cell_is, small_checked}

-- the state in which a cell has taken a number in V and one in F
abbrev pub put_cell : ℕ → ℤ → ℤ → State → State
put_cell c v f u = with_f (with_v u (slice_set u.v c v)) (slice_set u.f c f)

pub puts_both : (tables : List (List ℤ)) (cell v f : Expr) (c : ℕ) (z w : ℤ) (u : State) → value tables u cell ≡ Some (pos c) → value tables u v ≡ Some z
    → value tables (with_v u (slice_set u.v c z)) cell ≡ Some (pos c) → value tables (with_v u (slice_set u.v c z)) f ≡ Some w → c < length u.v → c < length u.f
    → Does tables (put_both cell v f) u (put_cell c z w u) (of_v c ∷ of_f c ∷ [])
puts_both tables cell v f c z w u at is at' is' in_v in_f =
    let mid : State = with_v u (slice_set u.v c z) in
    does_then tables (put_v cell v ∷ []) (put_f cell f ∷ []) u mid (put_cell c z w u) (of_v c ∷ []) (of_f c ∷ []) (does_put_v tables cell v c z u at is in_v) (does_put_f tables cell f c w mid at' is' in_f)

less_nothing : (z : ℤ) → z -ℤ pos 0 ≡ z
less_nothing z = omega (arith, ints)

kind_some : (kind : Kind) → is_zero (pos (kind_number kind)) ≡ false
kind_some Overflow = refl
kind_some Divide = refl
kind_some Index = refl
kind_some Range = refl

kind_low : (kind : Kind) → kind_number kind ≤ 4
kind_low Overflow = omega arith
kind_low Divide = omega arith
kind_low Index = omega arith
kind_low Range = omega arith

-- the value that a cell takes is that of a result, whose fault has this mark
abbrev pub IsTaken : List (List ℕ) → ℕ → ℕ → Val → Result ℤ Kind → Type 0
IsTaken sizes first r x (Ok z) = x ≡ Num z
IsTaken sizes first r x (Err kind) = (number_of x ≡ pos 0) × (mark_of sizes x ≡ pos (kind_number kind + (first + 4 * r)))

module _ (tables : List (List ℤ)) (sizes : List (List ℕ)) (t : Tables) (xs : List Val) (cs : List ℕ) (values : List Val) (s : State) (st : Stands tables sizes t xs cs s) where
  -- one more cell
  pub record Settled (body : List Stmt) (j c : ℕ) (u : State) : Type 0 where
    pub end : State
    pub does : Does tables body u end (of_v c ∷ of_f c ∷ [])
    pub vars : end.vars ≡ u.vars
    pub known : Progress tables sizes t xs cs values s st (suc j) end

  -- the mark of the fault
  mark_is : (first r : ℕ) (kind : Kind) (u : State) → slice_get u.vars RANK ≡ Some (pos r) → slice_get u.vars 0 ≡ Some (pos (kind_number kind)) → first + 4 * r + 8 < 2 ^ 63
      → value tables u (mark_here first) ≡ Some (pos (kind_number kind + (first + 4 * r)))
  mark_is first r kind u rank fault few =
      let low = kind_low kind in
      let scaled = between Times (number (pos 4)) (variable RANK) in
      let behind = between Plus (number (pos first)) scaled in
      let one : value tables u scaled ≡ Some (pos (4 * r)) = between_is tables Times (number (pos 4)) (variable RANK) (pos 4) (pos r) u refl rank ∙ small_checked (4 * r) (omega (arith, few)) in
      let two : value tables u behind ≡ Some (pos (first + 4 * r)) = between_is tables Plus (number (pos first)) scaled (pos first) (pos (4 * r)) u refl one ∙ small_checked (first + 4 * r) (omega (arith, few)) in
      between_is tables Plus (variable 0) behind (pos (kind_number kind)) (pos (first + 4 * r)) u fault two ∙ small_checked (kind_number kind + (first + 4 * r)) (omega (arith, few, low))

  module _ (start r j c first : ℕ) (x : Val) (at : slice_get cs j ≡ Some c) (is : slice_get values j ≡ Some x) (place : start + r ≡ j) (few : first + 4 * r + 8 < 2 ^ 63) where
    pub settles : (result : Result ℤ Kind) (u : State) → Progress tables sizes t xs cs values s st j u → slice_get u.vars RANK ≡ Some (pos r) → Holds u VALUE result → IsTaken sizes first r x result
        → Settled (settle t.cells start first) j c u
    settles (Ok z) u p rank h taken =
        let here : slice_get cs (start + r) ≡ Some c = ap (slice_get cs) place ∙ at in
        let cell = cell_is tables sizes t xs cs values s st j u p start r c rank here in
        let sound : value tables u (between Equal (variable 0) nought) ≡ Some (pos 1) = between_is tables Equal (variable 0) nought (pos 0) (pos 0) u h.2 refl in
        let v_is : number_of x ≡ z = ap number_of taken in
        let f_is : mark_of sizes x ≡ pos 0 = ap (mark_of sizes) taken in
        let more = progress_more tables sizes t xs cs values s st j c x u at is p in
        record {
          end = put_cell c z (pos 0) u;
          does = does_first tables (between Equal (variable 0) nought) (put_both (cell_of t.cells start) (variable VALUE) nought) (put_both (cell_of t.cells start) nought (mark_here first)) (pos 1) u (put_cell c z (pos 0) u)
              (of_v c ∷ of_f c ∷ []) sound refl
              (puts_both tables (cell_of t.cells start) (variable VALUE) nought c z (pos 0) u cell h.0 cell refl (v_inside tables sizes t xs cs values s st j j c u at p) (f_inside tables sizes t xs cs values s st j j c u at p));
          vars = refl;
          known = subst (λ w. Progress tables sizes t xs cs values s st (suc j) (put_cell c z w u)) f_is (subst (λ w. Progress tables sizes t xs cs values s st (suc j) (put_cell c w (mark_of sizes x) u)) v_is more);
        }
    settles (Err kind) u p rank h taken =
        let here : slice_get cs (start + r) ≡ Some c = ap (slice_get cs) place ∙ at in
        let cell = cell_is tables sizes t xs cs values s st j u p start r c rank here in
        let n : ℕ = kind_number kind + (first + 4 * r) in
        let faulty : value tables u (between Equal (variable 0) nought) ≡ Some (pos 0)
        = between_is tables Equal (variable 0) nought (pos (kind_number kind)) (pos 0) u h refl ∙ fault_test kind in
        let mid : State = with_v u (slice_set u.v c (pos 0)) in
        let mark : value tables mid (mark_here first) ≡ Some (pos n) = mark_is first r kind mid rank h few in
        let more = progress_more tables sizes t xs cs values s st j c x u at is p in
        record {
          end = put_cell c (pos 0) (pos n) u;
          does = does_second tables (between Equal (variable 0) nought) (put_both (cell_of t.cells start) (variable VALUE) nought) (put_both (cell_of t.cells start) nought (mark_here first)) (pos 0) u (put_cell c (pos 0) (pos n) u)
              (of_v c ∷ of_f c ∷ []) faulty refl
              (puts_both tables (cell_of t.cells start) nought (mark_here first) c (pos 0) (pos n) u cell refl cell mark (v_inside tables sizes t xs cs values s st j j c u at p) (f_inside tables sizes t xs cs values s st j j c u at p));
          vars = refl;
          known = subst (λ w. Progress tables sizes t xs cs values s st (suc j) (put_cell c (pos 0) w u)) taken.1 (subst (λ w. Progress tables sizes t xs cs values s st (suc j) (put_cell c w (mark_of sizes x) u)) taken.0 more);
        }
      where
        fault_test : (kind : Kind) → Some (truth (is_zero (pos (kind_number kind) -ℤ pos 0))) ≡ Some (pos 0)
        fault_test kind = ap (λ y. Some (truth (is_zero y))) (less_nothing (pos (kind_number kind))) ∙ ap (λ b. Some (truth b)) (kind_some kind)
