-- What the statements of an elementary instance do.
use Rattle.std.specs.Prelude.{◌≡◌, ℕ, suc, ◌+◌, ◌<◌, ◌≤◌, ◌^◌, ℤ, pos, ◌-ℤ◌, Bool, List, [], ◌∷◌, ◌++◌, map, take, length, slice_get, Option, Some, None, if◌then◌else◌}
use Rattle.std.specs.List.{enumerate_from}
use Rattle.std.proofs.Common.{refl, sym, ap, subst, arith, ◌∙◌}
use Rattle.std.proofs.lemmas.Int.{ints}
use Rattle.aol_expr_tree.specs.declared.value.Kind.TheVariants.{Range}
use Rattle.aol_expr_tree.specs.declared.value.Site.{Site}
use Rattle.aol_expr_tree.specs.declared.value.Val.{Val}
use Rattle.aol_expr_tree.specs.declared.value.Val.TheVariants.{Bad}
use Rattle.aol_model_types.specs.declared.task.Elementary.{Elementary}
use Rattle.aol_model_types.specs.declared.task.OutPort.{OutPort}
use Rattle.aol_flat.specs.InstanceValue.{first_fault, number_of, instance_outputs}
use Rattle.aol_csyn.specs.declared.program.COp.TheVariants.{Eq as Equal}
use Rattle.aol_csyn.specs.Tree.{Expr, Stmt, var as variable, bin as between, set_var}
use Rattle.aol_csyn.specs.Meaning.{State, value, truth, is_zero}
use Rattle.aol_csyn.specs.Puts.{Cell, of_v, of_f}
use Rattle.aol_lower.specs.Effect.{patterns_size, kind_number}
use Rattle.aol_lower.specs.Lowered.{nought, either}
use Rattle.aol_lower.specs.Ports.{all_hold as held_in}
use Rattle.aol_lower.proofs.Steps.{put, put_there, put_other, between_is}
use Rattle.aol_cinstance.specs.declared.layout.Tables.{Tables}
use Rattle.aol_cinstance.specs.declared.layout.TheConstants.{RANK, HELD, VALUE}
use Rattle.aol_cinstance.specs.Effect.{Stands, Writes, Computes, out_sizes, out_points, rooms, variables}
use Rattle.aol_cinstance.specs.Made.{IsMade}
use Rattle.aol_cinstance.specs.Statements.{cell_of, put_both, pass_on, compute, computing}
use Rattle.aol_cinstance.specs.Values.{points_before, mark, mark_of, set_all, both}
use Rattle.aol_cinstance.proofs.Does.{Does, Turn, does_then, does_set, does_first, does_second, does_quietly, does_loop}
use Rattle.aol_cinstance.proofs.Lists.{take_whole, map_length, get_below, both_more}
use Rattle.aol_cinstance.proofs.Port.{Between}
use Rattle.aol_cinstance.proofs.PortList.{ports_do}
use Rattle.aol_cinstance.proofs.Progress.{Progress, progress_start, progress_put, progress_keeps, progress_more, v_inside, f_inside, cell_is, marks_read, numbers_read, nth_fits, map_fits}
use Rattle.aol_cinstance.proofs.Settle.{put_cell, puts_both}
use Rattle.aol_cinstance.proofs.Taken.{fault_mark, first_is, mark_some, same_held, all_length, all_bad, before_at}

rooms_some : (outs : List OutPort) → 2 ≤ rooms outs
rooms_some [] = omega arith
rooms_some (o ∷ outs) = let more = rooms_some outs in omega (arith, more)

less_nothing : (z : ℤ) → z -ℤ pos 0 ≡ z
less_nothing z = omega (arith, ints)

module _ (tables : List (List ℤ)) (sizes : List (List ℕ)) (t : Tables) (xs : List Val) (cs : List ℕ) (values : List Val) (s : State) (st : Stands tables sizes t xs cs s) (as_many : length cs ≡ length values) where
  abbrev P : ℕ → State → Type 0
  P = Progress tables sizes t xs cs values s st

  -- all cells are put
  pub all_written : (body : List Stmt) (end : State) (cells : List Cell) → Does tables body s end cells → cells ≡ both (take (length cs) cs) → P (length cs) end → Writes tables sizes body s cs values
  all_written body end cells d all p =
      let vs = map number_of values in
      let fs = map (mark_of sizes) values in
      let vn : length cs ≡ length vs = as_many ∙ sym (map_length number_of values) in
      let fn : length cs ≡ length fs = as_many ∙ sym (map_length (mark_of sizes) values) in
      record {
        end = end;
        runs = d.runs;
        puts = d.puts ∙ (all ∙ ap both (take_whole cs));
        v = p.v ∙ (ap (λ ds. set_all s.v ds (take (length cs) vs)) (take_whole cs) ∙ ap (λ zs. set_all s.v cs zs) (ap (λ n. take n vs) vn ∙ take_whole vs));
        f = p.f ∙ (ap (λ ds. set_all s.f ds (take (length cs) fs)) (take_whole cs) ∙ ap (λ zs. set_all s.f cs zs) (ap (λ n. take n fs) fn ∙ take_whole fs));
        variables = p.size;
        instance = p.instance;
      }

  -- ---- a fault is passed on

  record Passed (u : State) : Type 0 where
    end : State
    cells : List Cell
    does : Does tables (pass_on t.cells (length cs)) u end cells
    all : cells ≡ both (take (length cs) cs)
    known : P (length cs) end

  module _ (site : Site) (bad : (k : ℕ) (x : Val) → slice_get values k ≡ Some x → x ≡ Bad site) (more : VALUE < length s.vars) where
    record Passing (j : ℕ) (u : State) : Type 0 where
      progress : P j u
      fault : slice_get u.vars VALUE ≡ Some (mark sizes site)

    passes_one : (i : ℕ) (before : State) → i < length cs → Passing i before → Turn tables (put_both (cell_of t.cells 0) nought (variable VALUE)) Passing (λ n. both (take n cs)) i (put RANK (pos i) before)
    passes_one i before below h =
        let size_is = h.progress.size in
        let inside : RANK < length before.vars = omega (arith, size_is, more) in
        let u : State = put RANK (pos i) before in
        let p = progress_put tables sizes t xs cs values s st i RANK (pos i) before (λ e0. omega (arith, e0)) (λ e0. omega (arith, e0)) (λ e0. omega (arith, e0)) h.progress in
        let c = get_below cs i below in
        let x = get_below values i (omega (arith, below, as_many)) in
        let is_bad = bad i x.0 x.1 in
        let e0 : i ≡ 0 + i = omega arith in
        let cell = cell_is tables sizes t xs cs values s st i u p 0 i c.0 (put_there RANK (pos i) before inside) (ap (slice_get cs) (sym e0) ∙ c.1) in
        let fault : slice_get u.vars VALUE ≡ Some (mark sizes site) = put_other RANK VALUE (pos i) before (λ e1. omega (arith, e1)) ∙ h.fault in
        let next = progress_more tables sizes t xs cs values s st i c.0 x.0 u c.1 x.1 p in
        record {
          end = put_cell c.0 (pos 0) (mark sizes site) u;
          cs = of_v c.0 ∷ of_f c.0 ∷ [];
          does = puts_both tables (cell_of t.cells 0) nought (variable VALUE) c.0 (pos 0) (mark sizes site) u cell refl cell fault (v_inside tables sizes t xs cs values s st i i c.0 u c.1 p) (f_inside tables sizes t xs cs values s st i i c.0 u c.1 p);
          more = both_more cs i c.0 c.1;
          known = record { progress = subst (λ y. P (suc i) (put_cell c.0 (number_of y) (mark_of sizes y) u)) is_bad next; fault = fault };
        }

    passes : (u : State) → P 0 u → slice_get u.vars VALUE ≡ Some (mark sizes site) → Passed u
    passes u p fault =
        let n : ℕ = length cs in
        let all = does_loop tables RANK n (put_both (cell_of t.cells 0) nought (variable VALUE)) Passing (λ k. both (take k cs)) (λ i v h. let size_is = h.progress.size in omega (arith, size_is, more)) passes_one u (record { progress = p; fault = fault }) in
        record {
          end = put RANK (pos n) all.last;
          cells = all.cs;
          does = all.does;
          all = all.more;
          known = progress_put tables sizes t xs cs values s st n RANK (pos n) all.last (λ e0. omega (arith, e0)) (λ e0. omega (arith, e0)) (λ e0. omega (arith, e0)) all.known.progress;
        }

-- ---- the whole instance

module _ (t : Tables) (e : Elementary) (before : ℕ) (body : List Stmt) (m : IsMade t e before body) (sizes : List (List ℕ)) (task : ℕ) (own : slice_get sizes task ≡ Some (out_sizes e.outs)) (first : points_before sizes task 0 ≡ before)
    (tables : List (List ℤ)) (xs : List Val) (cs : List ℕ) (s : State) (reads : length xs ≡ patterns_size e.ins) (cells : length cs ≡ out_points e.outs) (st : Stands tables sizes t xs cs s) (room : variables e.outs ≤ length s.vars) where
  abbrev Outs : List Val
  Outs = instance_outputs task e xs

  as_many : length cs ≡ length Outs
  as_many = cells ∙ sym (all_length task e xs e.outs 0)

  abbrev P' : ℕ → State → Type 0
  P' = Progress tables sizes t xs cs Outs s st

  enough : VALUE + 1 < length s.vars
  enough = let some = rooms_some e.outs in omega (arith, room, some)

  abbrev Tn : ℕ
  Tn = t.reads.entries + t.reads.numbers + 1

  -- the mark of the first fault among the inputs stands in the variable
  record Searched : Type 0 where
    end : State
    does : Does tables m.search s end []
    known : P' 0 end
    there : slice_get end.vars VALUE ≡ Some (fault_mark sizes (first_fault xs))

  searched : Searched
  searched =
      let l = m.searches tables (map (mark_of sizes) xs) s (map_length (mark_of sizes) xs ∙ reads) (marks_read tables sizes t xs cs Outs s st 0 s (progress_start tables sizes t xs cs Outs s st)) enough in
      let quiet = (m.search_formed (VALUE + 2) Tn (omega arith) (omega arith) (omega arith)).quiet in
      record {
        end = l.end;
        does = does_quietly tables m.search s l.end quiet l.runs;
        known = progress_keeps tables sizes t xs cs Outs s st 0 s l.end l.keeps (progress_start tables sizes t xs cs Outs s st);
        there = l.there ∙ ap (λ z. Some z) (first_is sizes xs);
      }

  abbrev Test : Expr
  Test = between Equal (variable VALUE) nought

  test_is : (u : State) (z : ℤ) → slice_get u.vars VALUE ≡ Some z → value tables u Test ≡ Some (truth (is_zero z))
  test_is u z there = between_is tables Equal (variable VALUE) nought z (pos 0) u there refl ∙ ap (λ y. Some (truth (is_zero y))) (less_nothing z)

  abbrev Whole : List Stmt
  Whole = computing t.cells (out_points e.outs) m.search m.widths m.ports

  -- no fault
  sound : (u : State) → Does tables m.search s u [] → P' 0 u → slice_get u.vars VALUE ≡ Some (pos 0) → first_fault xs ≡ None → Writes tables sizes Whole s cs Outs
  sound u search p there none =
      let size0 = p.size in
      let u1 : State = put 0 (pos 0) u in
      let d1 = does_set tables 0 nought (pos 0) u refl (omega (arith, size0, enough)) in
      let p1 = progress_put tables sizes t xs cs Outs s st 0 0 (pos 0) u (λ e0. omega (arith, e0)) (λ e0. omega (arith, e0)) (λ e0. omega (arith, e0)) p in
      let size1 = p1.size in
      let nums : List ℤ = map number_of xs in
      let few : patterns_size e.ins < 2 ^ 63 = let f = m.few_reads in omega (arith, f) in
      let l = m.tests tables nums u1 (put_there 0 (pos 0) u (omega (arith, size0, enough))) (map_length number_of xs ∙ reads) (nth_fits nums (map_fits xs st.fits)) (numbers_read tables sizes t xs cs Outs s st 0 u1 p1) (omega (arith, size1, enough)) in
      let ok : Bool = held_in e.ins e.wide_in nums in
      let u2 : State = l.end in
      let d2 = does_quietly tables m.widths u1 u2 (m.tests_formed (VALUE + 2) Tn few (omega arith) (omega arith) (omega arith)).quiet l.runs in
      let p2 = progress_keeps tables sizes t xs cs Outs s st 0 u1 u2 l.keeps p1 in
      let size2 = p2.size in
      let mark : ℤ = pos (if ok then 0 else kind_number Range) in
      let u3 : State = put HELD mark u2 in
      let d3 = does_set tables HELD (variable 0) mark u2 l.fault (omega (arith, size2, enough)) in
      let p3 = progress_put tables sizes t xs cs Outs s st 0 HELD mark u2 (λ e0. omega (arith, e0)) (λ e0. omega (arith, e0)) (λ e0. omega (arith, e0)) p2 in
      let b : Between tables sizes t xs cs Outs s st e m.shapes reads ok 0 u3 = record { progress = p3; held = put_there HELD mark u2 (omega (arith, size2, enough)) } in
      let ports = ports_do tables sizes t xs cs Outs s st e m.shapes reads ok task before few none (same_held e.ins e.wide_in nums) as_many (omega (arith, enough)) e.outs 0 0 m.ports [] u3 m.are_ports refl refl
      (λ j. let e0 : 0 + j ≡ j = omega arith in ap (points_before sizes task) e0 ∙ (let q = before_at sizes task j (out_sizes e.outs) own in omega (arith, q, first))) room b in
      let n0 : 0 + out_points e.outs ≡ length cs = omega (arith, cells) in
      let inner : Does tables (compute m.widths m.ports) u ports.end ports.cells
      = does_then tables (set_var 0 nought ∷ []) (m.widths ++ (set_var HELD (variable 0) ∷ m.ports)) u u1 ports.end [] ports.cells d1
      (does_then tables m.widths (set_var HELD (variable 0) ∷ m.ports) u1 u2 ports.end [] ports.cells d2
      (does_then tables (set_var HELD (variable 0) ∷ []) m.ports u2 u3 ports.end [] ports.cells d3 ports.does)) in
      let chosen = does_first tables Test (compute m.widths m.ports) (pass_on t.cells (out_points e.outs)) (pos 1) u ports.end ports.cells (test_is u (pos 0) there) refl inner in
      all_written tables sizes t xs cs Outs s st as_many Whole ports.end ports.cells
      (does_then tables m.search (either Test (compute m.widths m.ports) (pass_on t.cells (out_points e.outs))) s u ports.end [] ports.cells search chosen)
      (ports.along ∙ ap (λ n. both (take n cs)) n0) (subst (λ n. P' n ports.end) n0 ports.known.progress)

  -- a fault
  faulty : (u : State) (site : Site) → Does tables m.search s u [] → P' 0 u → slice_get u.vars VALUE ≡ Some (mark sizes site) → first_fault xs ≡ Some site → Writes tables sizes Whole s cs Outs
  faulty u site search p there some =
      let passed = passes tables sizes t xs cs Outs s st as_many site (λ k x at. all_bad task e xs site some (enumerate_from 0 e.outs) k x at) (omega (arith, enough)) u p there in
      let inner : Does tables (pass_on t.cells (out_points e.outs)) u passed.end passed.cells = subst (λ n. Does tables (pass_on t.cells n) u passed.end passed.cells) cells passed.does in
      let chosen = does_second tables Test (compute m.widths m.ports) (pass_on t.cells (out_points e.outs)) (pos 0) u passed.end passed.cells
      (test_is u (mark sizes site) there ∙ ap (λ b. Some (truth b)) (mark_some sizes site)) refl inner in
      all_written tables sizes t xs cs Outs s st as_many Whole passed.end passed.cells
      (does_then tables m.search (either Test (compute m.widths m.ports) (pass_on t.cells (out_points e.outs))) s u passed.end [] passed.cells search chosen)
      passed.all passed.known

  by_fault : (f : Option Site) → first_fault xs ≡ f → Writes tables sizes Whole s cs Outs
  by_fault None is = let q = searched in sound q.end q.does q.known (q.there ∙ ap (λ f. Some (fault_mark sizes f)) is) is
  by_fault (Some site) is = let q = searched in faulty q.end site q.does q.known (q.there ∙ ap (λ f. Some (fault_mark sizes f)) is) is

  pub instance_writes : Writes tables sizes body s cs Outs
  instance_writes = subst (λ b. Writes tables sizes b s cs Outs) (sym m.made) (by_fault (first_fault xs) refl)

pub made_computes : (t : Tables) (e : Elementary) (before : ℕ) (body : List Stmt) → IsMade t e before body → Computes t e before body
made_computes t e before body m sizes task own first tables xs cs s reads cells st room = instance_writes t e before body m sizes task own first tables xs cs s reads cells st room
