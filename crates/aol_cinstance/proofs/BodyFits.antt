-- The statements of an instance are well formed.
use Rattle.std.specs.Prelude.{◌≡◌, ℕ, ◌+◌, ◌*◌, ◌<◌, ◌≤◌, ◌^◌, ◌⊎◌, pos, negsuc, true, List, [], ◌∷◌, ◌++◌, length}
use Rattle.std.specs.List.{AllByRecursion}
use Rattle.std.proofs.Common.{refl, sym, subst, arith, inl, inr}
use Rattle.std.proofs.lemmas.List.Sums.{sum_by-cons}
use Rattle.aol_shape.specs.Shape.{size, IsShape, IsEntry, max_points}
use Rattle.aol_expr_tree.specs.Tree.{depth}
use Rattle.aol_model_types.specs.declared.task.Elementary.{Elementary}
use Rattle.aol_model_types.specs.declared.task.OutPort.{OutPort}
use Rattle.aol_csyn.specs.declared.program.COp.TheVariants.{Add as Plus, Sub as Minus, Mul as Times, Div as Over, Rem as Rest, Le as AtMost, Eq as Equal}
use Rattle.aol_csyn.specs.Tree.{Expr, num as number, var as variable, tab, cell_v, cell_f, bin as between, Stmt, set_var, put_v, put_f}
use Rattle.aol_csyn.specs.Form.{expr_depth, expr_formed}
use Rattle.aol_lower.specs.Effect.{AreShapes, patterns_size}
use Rattle.aol_lower.specs.Lowered.{nought, guard, either}
use Rattle.aol_cinstance.specs.declared.layout.Tables.{Tables}
use Rattle.aol_cinstance.specs.declared.layout.TheConstants.{INSTANCE, CELLS, RANK, REST, HELD, VALUE}
use Rattle.aol_cinstance.specs.Effect.{AreBodies, IsBody, out_points, rooms, variables}
use Rattle.aol_cinstance.specs.Made.{IsMade}
use Rattle.aol_cinstance.specs.Statements.{cell_of, put_both, mark_here, settle, indices, point_here, element_here, port_loop, ArePorts, pass_on, compute, entry_read, own_cell, copying}
use Rattle.aol_cinstance.proofs.Fits.{var_fits, number_fits, between_fits, tab_fits, Fit, nothing_fits, append_fits, deeper, set_fits, put_v_fits, put_f_fits, either_fits, for_fits, lowered_fits, fewer}
use Rattle.aol_cinstance.proofs.Rests.{rest_few}

rooms_some : (outs : List OutPort) → 2 ≤ rooms outs
rooms_some [] = omega arith
rooms_some (o ∷ outs) = let more = rooms_some outs in omega (arith, more)

-- the variables of both loops
abbrev Own : ℕ → Type 0
Own k = (k ≡ RANK) ⊎ (k ≡ INSTANCE)

-- the variable of the loop over instances
abbrev Outer : ℕ → Type 0
Outer k = k ≡ INSTANCE

not_own : (k : ℕ) → (k ≡ RANK → ⊥) → (k ≡ INSTANCE → ⊥) → Own k → ⊥
not_own k h g (inl e) = h e
not_own k h g (inr e) = g e

module _ (vars tables : ℕ) (t : Tables) (enough : VALUE + 2 ≤ vars) (in_entries : t.reads.entries < tables) (in_numbers : t.reads.numbers < tables) (in_cells : t.cells < tables) where
  abbrev F : ℕ → (ℕ → Type 0) → List Stmt → Type 0
  F = Fit vars tables

  cell_fits : (start : ℕ) → start < 2 ^ 63 → expr_formed vars tables (cell_of t.cells start) ≡ true
  cell_fits start few =
      tab_fits vars tables t.cells (between Plus (variable CELLS) (between Plus (number (pos start)) (variable RANK))) in_cells
      (between_fits vars tables Plus (variable CELLS) (between Plus (number (pos start)) (variable RANK)) (var_fits vars tables CELLS (omega (arith, enough)))
      (between_fits vars tables Plus (number (pos start)) (variable RANK) (number_fits vars tables start few) (var_fits vars tables RANK (omega (arith, enough)))))

  both_fit : (Q : ℕ → Type 0) (n : ℕ) (cell v f : Expr) → expr_formed vars tables cell ≡ true → expr_formed vars tables v ≡ true → expr_formed vars tables f ≡ true → expr_depth cell < n → expr_depth v < n → expr_depth f < n → F n Q (put_both cell v f)
  both_fit Q n cell v f h g k a b c =
      append_fits vars tables Q n (put_v cell v ∷ []) (put_f cell f ∷ []) (put_v_fits vars tables Q n cell v h g a b) (put_f_fits vars tables Q n cell f h k a c)

  mark_fits : (first : ℕ) → first < 2 ^ 63 → expr_formed vars tables (mark_here first) ≡ true
  mark_fits first few =
      let scaled = between Times (number (pos 4)) (variable RANK) in
      let behind = between Plus (number (pos first)) scaled in
      between_fits vars tables Plus (variable 0) behind (var_fits vars tables 0 (omega (arith, enough)))
      (between_fits vars tables Plus (number (pos first)) scaled (number_fits vars tables first few)
      (between_fits vars tables Times (number (pos 4)) (variable RANK) (number_fits vars tables 4 (omega arith)) (var_fits vars tables RANK (omega (arith, enough)))))

  sound_fits : expr_formed vars tables (between Equal (variable 0) nought) ≡ true
  sound_fits = between_fits vars tables Equal (variable 0) nought (var_fits vars tables 0 (omega (arith, enough))) refl

  settle_fits : (start first : ℕ) → start < 2 ^ 63 → first < 2 ^ 63 → F 6 Own (settle t.cells start first)
  settle_fits start first few low =
      either_fits vars tables Own 5 (between Equal (variable 0) nought) (put_both (cell_of t.cells start) (variable VALUE) nought) (put_both (cell_of t.cells start) nought (mark_here first)) sound_fits (omega arith)
      (both_fit Own 5 (cell_of t.cells start) (variable VALUE) nought (cell_fits start few) (var_fits vars tables VALUE (omega (arith, enough))) refl (omega arith) (omega arith) (omega arith))
      (both_fit Own 5 (cell_of t.cells start) nought (mark_here first) (cell_fits start few) refl (mark_fits first low) (omega arith) (omega arith) (omega arith))

  indices_fit : (shape : List ℕ) (k : ℕ) → AllByRecursion IsEntry shape → size shape ≤ max_points → 2 ≤ k → k + length shape ≤ 14 → F 3 Own (indices k shape)
  indices_fit [] k entries few low high = nothing_fits vars tables Own 3
  indices_fit (n ∷ shape) k entries few low high =
      let m : ℕ = size shape in
      let some = entries.0.0 in
      let less : m ≤ max_points = rest_few n max_points shape some few in
      let by = number_fits vars tables m (omega (arith, less)) in
      let in_rest = var_fits vars tables REST (omega (arith, enough)) in
      append_fits vars tables Own 3 (set_var k (between Over (variable REST) (number (pos m))) ∷ []) (set_var REST (between Rest (variable REST) (number (pos m))) ∷ indices (k + 1) shape)
      (set_fits vars tables Own 3 k (between Over (variable REST) (number (pos m))) (omega (arith, high, enough)) (between_fits vars tables Over (variable REST) (number (pos m)) in_rest by) (omega arith)
      (not_own k (λ e. omega (arith, e, high)) (λ e. omega (arith, e, high))))
      (append_fits vars tables Own 3 (set_var REST (between Rest (variable REST) (number (pos m))) ∷ []) (indices (k + 1) shape)
      (set_fits vars tables Own 3 REST (between Rest (variable REST) (number (pos m))) (omega (arith, enough)) (between_fits vars tables Rest (variable REST) (number (pos m)) in_rest by) (omega arith)
      (not_own REST (λ e. omega (arith, e)) (λ e. omega (arith, e))))
      (indices_fit shape (k + 1) entries.1 less (omega arith) (omega (arith, high))))

  point_fits : (shape : List ℕ) → IsShape shape → F 3 Own (point_here shape)
  point_fits shape s =
      let most = s.rank in
      append_fits vars tables Own 3 (set_var REST (variable RANK) ∷ []) (indices 2 shape)
      (set_fits vars tables Own 3 REST (variable RANK) (omega (arith, enough)) (var_fits vars tables RANK (omega (arith, enough))) (omega arith) (not_own REST (λ e. omega (arith, e)) (λ e. omega (arith, e))))
      (indices_fit shape 2 s.entry s.points (omega arith) (omega (arith, most)))

  element_fits : (shape : List ℕ) (start first : ℕ) (fitted : List Stmt) → IsShape shape → start < 2 ^ 63 → first < 2 ^ 63 → F 300 Own fitted → F 301 Own (element_here shape t.cells start first fitted)
  element_fits shape start first fitted s few low h =
      append_fits vars tables Own 301 (point_here shape) (set_var 0 (variable HELD) ∷ guard fitted ∷ settle t.cells start first) (deeper vars tables Own 3 301 (point_here shape) (omega arith) (point_fits shape s))
      (append_fits vars tables Own 301 (set_var 0 (variable HELD) ∷ []) (guard fitted ∷ settle t.cells start first)
      (set_fits vars tables Own 301 0 (variable HELD) (omega (arith, enough)) (var_fits vars tables HELD (omega (arith, enough))) (omega arith) (not_own 0 (λ e. omega (arith, e)) (λ e. omega (arith, e))))
      (append_fits vars tables Own 301 (guard fitted ∷ []) (settle t.cells start first)
      (either_fits vars tables Own 300 (between Equal (variable 0) nought) fitted [] sound_fits (omega arith) h (nothing_fits vars tables Own 300))
      (deeper vars tables Own 6 301 (settle t.cells start first) (omega arith) (settle_fits start first few low))))

  port_fits : (shape : List ℕ) (start first : ℕ) (fitted : List Stmt) → IsShape shape → start < 2 ^ 63 → first < 2 ^ 63 → F 300 Own fitted → F 302 Outer (port_loop shape t.cells start first fitted ∷ [])
  port_fits shape start first fitted s few low h =
      let body = element_here shape t.cells start first fitted in
      let own = element_fits shape start first fitted s few low h in
      let most = s.points in
      for_fits vars tables Outer 301 RANK (size shape) body (omega (arith, enough)) (omega (arith, most)) (λ e. omega (arith, e)) (own.sets RANK (inl refl)) (fewer vars tables 301 Own Outer body (λ k e. inr e) own)

  pass_fits : (count : ℕ) → count < 2 ^ 63 → F 6 Outer (pass_on t.cells count)
  pass_fits count few =
      let body = put_both (cell_of t.cells 0) nought (variable VALUE) in
      let own = both_fit Own 5 (cell_of t.cells 0) nought (variable VALUE) (cell_fits 0 (omega arith)) refl (var_fits vars tables VALUE (omega (arith, enough))) (omega arith) (omega arith) (omega arith) in
      for_fits vars tables Outer 5 RANK count body (omega (arith, enough)) few (λ e. omega (arith, e)) (own.sets RANK (inl refl)) (fewer vars tables 5 Own Outer body (λ k e. inr e) own)

  module _ (e : Elementary) (before : ℕ) (shapes : AreShapes e.ins) (few_reads : patterns_size e.ins < 2 ^ 63) where
    above : (k : ℕ) → Own k → (0 < k) × (k < VALUE)
    above k (inl e0) = (omega (arith, e0), omega (arith, e0))
    above k (inr e0) = (omega (arith, e0), omega (arith, e0))

    ports_fit : (outs : List OutPort) (k start : ℕ) (body : List Stmt) → ArePorts t e before k start outs body → start + out_points outs < 2 ^ 63 → VALUE + rooms outs ≤ vars → F 302 Outer body
    ports_fit [] k start body are few room_all = subst (λ b. F 302 Outer b) (sym are) (nothing_fits vars tables Outer 302)
    ports_fit (o ∷ outs) k start body are few room_all =
        let n : ℕ = size o.port.shape in
        let total = sum_by-cons (λ (p : OutPort). size p.port.shape) o outs in
        let first : ℕ = 4 * (before + start) in
        let formed = are.5 vars tables shapes few_reads (omega (arith, room_all)) in_entries in_numbers in
        let low = are.3.1 in
        let most = are.6 in
        let fitted = deeper vars tables Own (2 * depth o.expr + 39) 300 are.0 (omega (arith, low)) (lowered_fits vars tables Own (2 * depth o.expr + 39) VALUE are.0 above formed) in
        subst (λ b. F 302 Outer b) (sym are.2)
        (append_fits vars tables Outer 302 (port_loop o.port.shape t.cells start first are.0 ∷ []) are.1 (port_fits o.port.shape start first are.0 are.3.0 (omega (arith, few)) (omega (arith, most)) fitted)
        (ports_fit outs (k + 1) (start + n) are.1 are.7 (omega (arith, few, total)) (omega (arith, room_all))))

pub made_fits : (t : Tables) (e : Elementary) (before : ℕ) (body : List Stmt) → IsMade t e before body → AreBodies t (variables e.outs) body
made_fits t e before body m vars tables least in_entries in_numbers in_cells =
    let some = rooms_some e.outs in
    let enough : VALUE + 2 ≤ vars = omega (arith, least, some) in
    let reads = m.few_reads in
    let cells = m.few_cells in
    let few : patterns_size e.ins < 2 ^ 63 = omega (arith, reads) in
    let inside : (k : ℕ) → Outer k → (0 < k) × (k < VALUE) = λ k e0. (omega (arith, e0), omega (arith, e0)) in
    let search = lowered_fits vars tables Outer 9 VALUE m.search inside (m.search_formed vars tables (omega (arith, enough)) in_entries in_numbers) in
    let widths = lowered_fits vars tables Outer 11 VALUE m.widths inside (m.tests_formed vars tables few (omega (arith, enough)) in_entries in_numbers) in
    let ports = ports_fit vars tables t enough in_entries in_numbers in_cells e before m.shapes few e.outs 0 0 m.ports m.are_ports (omega (arith, cells)) least in
    let faulty = pass_fits vars tables t enough in_entries in_numbers in_cells (out_points e.outs) (omega (arith, cells)) in
    let test = between Equal (variable VALUE) nought in
    let sound = append_fits vars tables Outer 302 (set_var 0 nought ∷ []) (m.widths ++ (set_var HELD (variable 0) ∷ m.ports))
    (set_fits vars tables Outer 302 0 nought (omega (arith, enough)) refl (omega arith) (λ e0. omega (arith, e0)))
    (append_fits vars tables Outer 302 m.widths (set_var HELD (variable 0) ∷ m.ports) (deeper vars tables Outer 11 302 m.widths (omega arith) widths)
    (append_fits vars tables Outer 302 (set_var HELD (variable 0) ∷ []) m.ports (set_fits vars tables Outer 302 HELD (variable 0) (omega (arith, enough)) (var_fits vars tables 0 (omega (arith, enough))) (omega arith) (λ e0. omega (arith, e0))) ports)) in
    let chosen = either_fits vars tables Outer 302 test (compute m.widths m.ports) (pass_on t.cells (out_points e.outs))
    (between_fits vars tables Equal (variable VALUE) nought (var_fits vars tables VALUE (omega (arith, enough))) refl) (omega arith) sound
    (deeper vars tables Outer 6 302 (pass_on t.cells (out_points e.outs)) (omega arith) faulty) in
    let all = append_fits vars tables Outer 303 m.search (either test (compute m.widths m.ports) (pass_on t.cells (out_points e.outs))) (deeper vars tables Outer 9 303 m.search (omega arith) search) chosen in
    let deep = all.depth in
    subst (λ b. IsBody vars tables b) (sym m.made) (record { formed = all.formed; depth = omega (arith, deep); keeps = all.sets INSTANCE refl })

-- ---- a copy

pub copying_fits : (t : Tables) → AreBodies t (VALUE + 2) (copying t)
copying_fits t vars tables enough in_entries in_numbers in_cells =
    let entry = entry_read t.reads.entries in
    let entry_fits = tab_fits vars tables t.reads.entries (variable 1) in_entries (var_fits vars tables 1 (omega (arith, enough))) in
    let own_fits = tab_fits vars tables t.cells (variable CELLS) in_cells (var_fits vars tables CELLS (omega (arith, enough))) in
    let index = between Minus (number (negsuc 0)) entry in
    let index_fits = between_fits vars tables Minus (number (negsuc 0)) entry refl entry_fits in
    let number_in = tab_fits vars tables t.reads.numbers index in_numbers index_fits in
    let test = between AtMost nought entry in
    let first = put_both (own_cell t.cells) (cell_v entry) (cell_f entry) in
    let second = put_both (own_cell t.cells) (tab t.reads.numbers index) nought in
    let all = either_fits vars tables Outer 6 test first second (between_fits vars tables AtMost nought entry refl entry_fits) (omega arith)
    (both_fit vars tables t enough in_entries in_numbers in_cells Outer 6 (own_cell t.cells) (cell_v entry) (cell_f entry) own_fits entry_fits entry_fits (omega arith) (omega arith) (omega arith))
    (both_fit vars tables t enough in_entries in_numbers in_cells Outer 6 (own_cell t.cells) (tab t.reads.numbers index) nought own_fits number_in refl (omega arith) (omega arith) (omega arith)) in
    let deep = all.depth in
    record { formed = all.formed; depth = omega (arith, deep); keeps = all.sets INSTANCE refl }
