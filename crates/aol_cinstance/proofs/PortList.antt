-- All output ports of an instance.
use Rattle.std.specs.Prelude.{◌≡◌, ℕ, suc, ◌+◌, ◌*◌, ◌<◌, ◌≤◌, ◌^◌, ℤ, Bool, true, List, [], ◌∷◌, ◌++◌, map, flat_map, take, length, slice_get, sum, Some, None}
use Rattle.std.specs.List.{enumerate_from}
use Rattle.std.proofs.Common.{refl, sym, ap, subst, arith, ◌∙◌, append_assoc}
use Rattle.std.proofs.lemmas.List.{append-nil, length-append}
use Rattle.std.proofs.lemmas.List.Sums.{sum_by-cons}
use Rattle.aol_shape.specs.Shape.{size, point_at}
use Rattle.aol_expr_tree.specs.declared.value.Val.{Val}
use Rattle.aol_model_types.specs.declared.task.Elementary.{Elementary}
use Rattle.aol_model_types.specs.declared.task.OutPort.{OutPort}
use Rattle.aol_flat.specs.InstanceValue.{first_fault, number_of, all_hold, width_at, instance_value}
use Rattle.aol_csyn.specs.Tree.{Stmt, stmts}
use Rattle.aol_csyn.specs.Meaning.{State}
use Rattle.aol_csyn.specs.Puts.{Cell}
use Rattle.aol_lower.specs.Contract.{FittedAreFormed}
use Rattle.aol_lower.specs.Effect.{AreShapes, patterns_size}
use Rattle.aol_lower.specs.Quiet.{all_quiet}
use Rattle.aol_lower.specs.Small.{room}
use Rattle.aol_cinstance.specs.declared.layout.Tables.{Tables}
use Rattle.aol_cinstance.specs.declared.layout.TheConstants.{VALUE}
use Rattle.aol_cinstance.specs.Effect.{Stands, out_sizes, out_points, rooms}
use Rattle.aol_cinstance.specs.Statements.{port_loop, ArePorts}
use Rattle.aol_cinstance.specs.Values.{points_before, both}
use Rattle.aol_cinstance.proofs.Does.{Does, does_then, does_nothing}
use Rattle.aol_cinstance.proofs.Lists.{get_below, get_within}
use Rattle.aol_cinstance.proofs.Port.{Between, port_done, result}
use Rattle.aol_cinstance.proofs.Settle.{IsTaken}
use Rattle.aol_cinstance.proofs.Taken.{port_vals, vals_length, vals_get, element_taken}

-- statements of an expression put nothing, however many variables and tables there are
pub fitted_quiet : (t : Tables) (e : Elementary) (o : OutPort) (body : List Stmt) → AreShapes e.ins → patterns_size e.ins < 2 ^ 63 → FittedAreFormed t.reads e.ins VALUE o.expr body → all_quiet (stmts body) ≡ true
fitted_quiet t e o body shapes few formed =
    (formed (VALUE + room o.expr) (t.reads.entries + t.reads.numbers + 1) shapes few (omega arith) (omega arith) (omega arith)).quiet

module _ (tables : List (List ℤ)) (sizes : List (List ℕ)) (t : Tables) (xs : List Val) (cs : List ℕ) (values : List Val) (s : State) (st : Stands tables sizes t xs cs s) (e : Elementary) (shapes : AreShapes e.ins)
    (whole : length xs ≡ patterns_size e.ins) (ok : Bool) (task before : ℕ) (few : patterns_size e.ins < 2 ^ 63) (none : first_fault xs ≡ None) (ok_is : ok ≡ all_hold e.ins e.wide_in (map number_of xs))
    (as_many : length cs ≡ length values) (above : VALUE < length s.vars) where
  abbrev B : ℕ → State → Type 0
  B = Between tables sizes t xs cs values s st e shapes whole ok

  there : (k : ℕ) (x : Val) → slice_get values k ≡ Some x → (c : ℕ) × (slice_get cs k ≡ Some c)
  there k x at = let below = get_within values k x at in get_below cs k (omega (arith, below, as_many))

  -- the ports from one on
  pub record Ported (start count : ℕ) (body : List Stmt) (u : State) : Type 0 where
    pub end : State
    pub cells : List Cell
    pub does : Does tables body u end cells
    pub along : both (take start cs) ++ cells ≡ both (take (start + count) cs)
    pub known : B (start + count) end

  -- none
  no_ports : (start : ℕ) (body : List Stmt) (u : State) → body ≡ [] → B start u → Ported start 0 body u
  no_ports start body u empty b =
      let e0 : start ≡ start + 0 = omega arith in
      record {
        end = u;
        cells = [];
        does = subst (λ p. Does tables p u u []) (sym empty) (does_nothing tables u);
        along = append-nil (both (take start cs)) ∙ ap (λ n. both (take n cs)) e0;
        known = subst (λ n. B n u) e0 b;
      }

  -- one and then others
  and_ports : (start n count : ℕ) (first : Stmt) (rest body : List Stmt) (u v : State) (xs : List Cell) → body ≡ first ∷ rest → Does tables (first ∷ []) u v xs → both (take start cs) ++ xs ≡ both (take (start + n) cs)
      → Ported (start + n) count rest v → Ported start (n + count) body u
  and_ports start n count first rest body u v xs made does more p =
      let e0 : start + n + count ≡ start + (n + count) = omega arith in
      record {
        end = p.end;
        cells = xs ++ p.cells;
        does = subst (λ q. Does tables q u p.end (xs ++ p.cells)) (sym made) (does_then tables (first ∷ []) rest u v p.end xs p.cells does p.does);
        along = sym (append_assoc (both (take start cs)) xs p.cells) ∙ (ap (λ q. q ++ p.cells) more ∙ (p.along ∙ ap (λ m. both (take m cs)) e0));
        known = subst (λ m. B m p.end) e0 p.known;
      }

  first_place : (k start : ℕ) → points_before sizes task (k + 0) ≡ before + start + 0 → points_before sizes task (k + 0) ≡ before + start
  first_place k start m = omega (arith, m)

  -- what an element of a port takes
  taken_at : (o : OutPort) (k start : ℕ) (done rest : List Val) → points_before sizes task k ≡ before + start → values ≡ done ++ (port_vals task e xs (k, o) ++ rest) → length done ≡ start → (i : ℕ) → i < size o.port.shape
      → (x : Val) × (slice_get values (start + i) ≡ Some x) × IsTaken sizes (4 * (before + start)) i x (result tables sizes t xs cs values s st e shapes whole ok o (width_at e.wide_out k) i)
  taken_at o k start done rest here split front i below = (
    instance_value task e xs k o (point_at o.port.shape i),
    ap (λ vs. slice_get vs (start + i)) split ∙ (ap (λ m. slice_get (done ++ (port_vals task e xs (k, o) ++ rest)) (m + i)) (sym front) ∙ vals_get task e xs done k i o rest below),
    element_taken sizes task k i (before + start) (4 * (before + start)) o below here refl e xs ok none ok_is,
  )

  pub ports_do : (outs : List OutPort) (k start : ℕ) (body : List Stmt) (done : List Val) (u : State) → ArePorts t e before k start outs body
      → values ≡ done ++ flat_map (port_vals task e xs) (enumerate_from k outs) → length done ≡ start
      → ((j : ℕ) → points_before sizes task (k + j) ≡ before + start + sum (take j (out_sizes outs))) → VALUE + rooms outs ≤ length s.vars → B start u → Ported start (out_points outs) body u
  ports_do [] k start body done u are split front marks enough b = no_ports start body u are b
  ports_do (o ∷ outs) k start body done u are split front marks room_all b =
      let n : ℕ = size o.port.shape in
      let fitted = are.0 in
      let first : ℕ = 4 * (before + start) in
      let rest = flat_map (port_vals task e xs) (enumerate_from (k + 1) outs) in
      let here : points_before sizes task k ≡ before + start = (let e0 : k ≡ k + 0 = omega arith in let m = marks 0 in ap (points_before sizes task) e0 ∙ first_place k start m) in
      let port = port_done tables sizes t xs cs values s st e shapes whole ok o (width_at e.wide_out k) start first fitted are.3.0 are.4 (fitted_quiet t e o fitted shapes few are.5) (omega (arith, room_all)) above are.6 (taken_at o k start done rest here split front) there u b in
      let size_is = vals_length task e xs k o in
      let others = ports_do outs (k + 1) (start + n) are.1 (done ++ port_vals task e xs (k, o)) port.end are.7
      (split ∙ sym (append_assoc done (port_vals task e xs (k, o)) rest))
      (length-append done (port_vals task e xs (k, o)) ∙ (let f = front in omega (arith, f, size_is)))
      (λ j.
      let e0 : k + 1 + j ≡ k + suc j = omega arith in
      let m = marks (suc j) in
      let c = sum_by-cons (λ (q : ℕ). q) n (take j (out_sizes outs)) in
      ap (points_before sizes task) e0 ∙ omega (arith, m, c))
      (omega (arith, room_all)) port.known in
      let total : n + out_points outs ≡ out_points (o ∷ outs) = sym (sum_by-cons (λ (p : OutPort). size p.port.shape) o outs) in
      subst (λ m. Ported start m body u) total
      (and_ports start n (out_points outs) (port_loop o.port.shape t.cells start first fitted) are.1 body u port.end port.cells are.2 port.does port.along others)
