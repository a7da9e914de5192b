-- The elements of an output port.
use Rattle.std.specs.Prelude.{◌≡◌, ℕ, suc, ◌+◌, ◌%◌, ◌<◌, ◌≤◌, ◌^◌, ℤ, pos, Bool, true, false, List, [], ◌∷◌, ◌++◌, map, take, length, slice_get, Some, Result, Err, if◌then◌else◌}
use Rattle.std.proofs.Common.{refl, sym, ap, subst, arith, ◌∙◌}
use Rattle.aol_shape.specs.Shape.{size, point_at, IsShape}
use Rattle.aol_expr_tree.specs.declared.value.Kind.{Kind}
use Rattle.aol_expr_tree.specs.declared.value.Kind.TheVariants.{Range}
use Rattle.aol_expr_tree.specs.declared.value.Val.{Val}
use Rattle.aol_expr_tree.specs.declared.value.Width.{Width}
use Rattle.aol_expr_tree.specs.Meaning.{◌>>=◌, Given, value as value_of}
use Rattle.aol_model_types.specs.declared.task.Elementary.{Elementary}
use Rattle.aol_model_types.specs.declared.task.OutPort.{OutPort}
use Rattle.aol_flat.specs.InstanceValue.{number_of}
use Rattle.aol_csyn.specs.Tree.{Stmt, stmts, var as variable, set_var}
use Rattle.aol_csyn.specs.Meaning.{State, run}
use Rattle.aol_csyn.specs.Puts.{Cell, of_v, of_f}
use Rattle.aol_lower.specs.Contract.{LeaveFitted}
use Rattle.aol_lower.specs.Effect.{Keeps, Holds, IsGiven, AreShapes, kind_number, patterns_size}
use Rattle.aol_lower.specs.Lowered.{guard}
use Rattle.aol_lower.specs.Ports.{fitted as fitted_in}
use Rattle.aol_lower.specs.Quiet.{all_quiet}
use Rattle.aol_lower.specs.Small.{room}
use Rattle.aol_lower.proofs.Steps.{put, put_there, put_other, keeps_all, guard_runs, guard_skips, ended}
use Rattle.aol_cinstance.specs.declared.layout.Tables.{Tables}
use Rattle.aol_cinstance.specs.declared.layout.TheConstants.{INSTANCE, CELLS, RANK, REST, HELD, VALUE}
use Rattle.aol_cinstance.specs.Effect.{Stands}
use Rattle.aol_cinstance.specs.Statements.{indices, point_here, settle, element_here, port_loop}
use Rattle.aol_cinstance.specs.Values.{both}
use Rattle.aol_cinstance.proofs.Does.{Does, Turn, does_then, does_set, does_quietly, does_loop}
use Rattle.aol_cinstance.proofs.Lists.{both_more, map_length}
use Rattle.aol_cinstance.proofs.PointSteps.{Pointed, sets_indices}
use Rattle.aol_cinstance.proofs.Progress.{Progress, progress_put, progress_keeps, numbers_read, nth_fits, map_fits}
use Rattle.aol_cinstance.proofs.Settle.{IsTaken, settles}

point_length : (shape : List ℕ) (r : ℕ) → length (point_at shape r) ≡ length shape
point_length [] r = refl
point_length (n ∷ shape) r = ap (λ k. suc k) (point_length shape (r % size shape))

same_variable : (k : ℕ) (z : ℤ) (u v : State) → v.vars ≡ u.vars → slice_get u.vars k ≡ Some z → slice_get v.vars k ≡ Some z
same_variable k z u v e h = ap (λ vs. slice_get vs k) e ∙ h

module _ (tables : List (List ℤ)) (sizes : List (List ℕ)) (t : Tables) (xs : List Val) (cs : List ℕ) (values : List Val) (s : State) (st : Stands tables sizes t xs cs s) (e : Elementary) (shapes : AreShapes e.ins)
    (whole : length xs ≡ patterns_size e.ins) (ok : Bool) where
  abbrev pub P : ℕ → State → Type 0
  P = Progress tables sizes t xs cs values s st

  -- whether the widths of the inputs hold their numbers stands in a variable
  abbrev pub held_mark : ℤ
  held_mark = pos (if ok then 0 else kind_number Range)

  abbrev pub given_at : OutPort → ℕ → Given
  given_at o i = record { ins = e.ins; nums = map number_of xs; at = point_at o.port.shape i }

  -- what an element gives
  abbrev pub result : OutPort → Width → ℕ → Result ℤ Kind
  result o w i = if ok then value_of (given_at o i) [] o.expr >>= fitted_in w else Err Range

  -- so many cells are put, and the variable holds
  pub record Between (j : ℕ) (u : State) : Type 0 where
    pub progress : P j u
    pub held : slice_get u.vars HELD ≡ Some held_mark

  module _ (o : OutPort) (w : Width) (start first : ℕ) (fitted : List Stmt) (is_shape : IsShape o.port.shape) (leave : LeaveFitted t.reads e.ins (length o.port.shape) VALUE w o.expr fitted) (quiet : all_quiet (stmts fitted) ≡ true)
      (enough : VALUE + room o.expr ≤ length s.vars) (more : VALUE < length s.vars) (few : first ≤ 2 ^ 62)
      (taken : (i : ℕ) → i < size o.port.shape → (x : Val) × (slice_get values (start + i) ≡ Some x) × IsTaken sizes first i x (result o w i))
      (there : (k : ℕ) (x : Val) → slice_get values k ≡ Some x → (c : ℕ) × (slice_get cs k ≡ Some c)) where
    abbrev shape : List ℕ
    shape = o.port.shape

    -- the state after the expression
    record Evaluated (i : ℕ) (u : State) : Type 0 where
      end : State
      does : Does tables (guard fitted ∷ []) u end []
      keeps : Keeps VALUE u end
      holds : Holds end VALUE (result o w i)

    guard_quiet : all_quiet (stmts (guard fitted ∷ [])) ≡ true
    guard_quiet = rw quiet refl

    module _ (i j : ℕ) (u : State) (p : P j u) (point : (k index : ℕ) → slice_get (point_at shape i) k ≡ Some index → (slice_get u.vars (k + 2) ≡ Some (pos index)) × (index < 2 ^ 63)) where
      given : slice_get u.vars 0 ≡ Some (pos 0) → IsGiven tables t.reads (given_at o i) VALUE u
      given sound = record {
        sound = sound;
        whole = map_length number_of xs ∙ whole;
        fits = nth_fits (map number_of xs) (map_fits xs st.fits);
        are_read = numbers_read tables sizes t xs cs values s st j u p;
        point = point;
        above = let n = point_length shape i in let most = is_shape.rank in omega (arith, n, most);
      }

      evaluates : (b : Bool) → b ≡ ok → slice_get u.vars 0 ≡ Some held_mark → Evaluated i u
      evaluates true e0 mark =
          let sound : slice_get u.vars 0 ≡ Some (pos 0) = mark ∙ ap (λ b. Some (pos (if b then 0 else kind_number Range))) (sym e0) in
          let enough_here : VALUE + room o.expr ≤ length u.vars = let size = p.size in omega (arith, size, enough) in
          let l = leave tables (given_at o i) u shapes refl (sym (point_length shape i)) (given sound) enough_here in
          record {
            end = l.end;
            does = does_quietly tables (guard fitted ∷ []) u l.end guard_quiet (ended tables (run tables (guard fitted) u) ∙ (guard_runs tables fitted u sound ∙ l.runs));
            keeps = l.keeps;
            holds = subst (λ b. Holds l.end VALUE (if b then value_of (given_at o i) [] o.expr >>= fitted_in w else Err Range)) e0 l.holds;
          }
      evaluates false e0 mark =
          let fault : slice_get u.vars 0 ≡ Some (pos (kind_number Range)) = mark ∙ ap (λ b. Some (pos (if b then 0 else kind_number Range))) (sym e0) in
          record {
            end = u;
            does = does_quietly tables (guard fitted ∷ []) u u guard_quiet (ended tables (run tables (guard fitted) u) ∙ guard_skips tables fitted u Range fault);
            keeps = keeps_all VALUE u;
            holds = subst (λ b. Holds u VALUE (if b then value_of (given_at o i) [] o.expr >>= fitted_in w else Err Range)) e0 fault;
          }

    abbrev So : ℕ → List Cell
    So i = both (take (start + i) cs)

    abbrev Body : List Stmt
    Body = element_here shape t.cells start first fitted

    -- the point's indices are set
    pointed_progress : (j i : ℕ) (u v : State) → Pointed shape 2 i u v → P j u → P j v
    pointed_progress j i u v q p = record {
      v = q.v ∙ p.v;
      f = q.f ∙ p.f;
      size = q.size ∙ p.size;
      from_is = q.others 1 (λ e0. omega (arith, e0)) (λ le lt. omega (arith, le)) ∙ p.from_is;
      at_is = q.others CELLS (λ e0. omega (arith, e0)) (λ le lt. omega (arith, lt)) ∙ p.at_is;
      instance = q.others INSTANCE (λ e0. omega (arith, e0)) (λ le lt. omega (arith, lt)) ∙ p.instance;
    }

    one_turn : (i : ℕ) (before : State) → i < size shape → Between (start + i) before → Turn tables Body (λ n. Between (start + n)) So i (put RANK (pos i) before)
    one_turn i before below h =
        let j : ℕ = start + i in
        let most = is_shape.points in
        let rank_most = is_shape.rank in
        let size_is = h.progress.size in
        let rank_inside : RANK < length before.vars = omega (arith, size_is, more) in
        let u : State = put RANK (pos i) before in
        let p0 = progress_put tables sizes t xs cs values s st j RANK (pos i) before (λ e0. omega (arith, e0)) (λ e0. omega (arith, e0)) (λ e0. omega (arith, e0)) h.progress in
        let rank0 : slice_get u.vars RANK ≡ Some (pos i) = put_there RANK (pos i) before rank_inside in
        let held0 : slice_get u.vars HELD ≡ Some held_mark = put_other RANK HELD (pos i) before (λ e0. omega (arith, e0)) ∙ h.held in
        let size0 = p0.size in
        let rest_inside : REST < length u.vars = omega (arith, size0, more) in
        let u1 : State = put REST (pos i) u in
        let d1 = does_set tables REST (variable RANK) (pos i) u rank0 rest_inside in
        let p1 = progress_put tables sizes t xs cs values s st j REST (pos i) u (λ e0. omega (arith, e0)) (λ e0. omega (arith, e0)) (λ e0. omega (arith, e0)) p0 in
        let size1 = p1.size in
        let sets = sets_indices tables shape 2 i u1 is_shape.entry below (omega (arith, below, most)) (omega arith) (omega (arith, rank_most)) (put_there REST (pos i) u rest_inside) (omega (arith, size1, more)) in
        let u2 : State = sets.end in
        let p2 = pointed_progress j i u1 u2 sets.pointed p1 in
        let rank2 : slice_get u2.vars RANK ≡ Some (pos i) = sets.pointed.others RANK (λ e0. omega (arith, e0)) (λ le lt. omega (arith, lt)) ∙ (put_other REST RANK (pos i) u (λ e0. omega (arith, e0)) ∙ rank0) in
        let held2 : slice_get u2.vars HELD ≡ Some held_mark = sets.pointed.others HELD (λ e0. omega (arith, e0)) (λ le lt. omega (arith, lt)) ∙ (put_other REST HELD (pos i) u (λ e0. omega (arith, e0)) ∙ held0) in
        let size2 = p2.size in
        let nought_inside : 0 < length u2.vars = omega (arith, size2, more) in
        let u3 : State = put 0 held_mark u2 in
        let d3 = does_set tables 0 (variable HELD) held_mark u2 held2 nought_inside in
        let p3 = progress_put tables sizes t xs cs values s st j 0 held_mark u2 (λ e0. omega (arith, e0)) (λ e0. omega (arith, e0)) (λ e0. omega (arith, e0)) p2 in
        let rank3 : slice_get u3.vars RANK ≡ Some (pos i) = put_other 0 RANK held_mark u2 (λ e0. omega (arith, e0)) ∙ rank2 in
        let held3 : slice_get u3.vars HELD ≡ Some held_mark = put_other 0 HELD held_mark u2 (λ e0. omega (arith, e0)) ∙ held2 in
        let ev = evaluates i j u3 p3 (λ k index at.
        let q = sets.pointed.point k index at in
        let same : k + 2 ≡ 2 + k = omega arith in
        (ap (slice_get u3.vars) same ∙ (put_other 0 (2 + k) held_mark u2 (λ e0. omega (arith, e0)) ∙ q.0), q.1)) ok refl (put_there 0 held_mark u2 nought_inside) in
        let p4 = progress_keeps tables sizes t xs cs values s st j u3 ev.end ev.keeps p3 in
        let rank4 : slice_get ev.end.vars RANK ≡ Some (pos i) = ev.keeps.below RANK (omega arith) (omega arith) ∙ rank3 in
        let held4 : slice_get ev.end.vars HELD ≡ Some held_mark = ev.keeps.below HELD (omega arith) (omega arith) ∙ held3 in
        let x = taken i below in
        let c = there j x.0 x.1 in
        let settled = settles tables sizes t xs cs values s st start i j c.0 first x.0 c.1 x.1 refl (omega (arith, few, below, most)) (result o w i) ev.end p4 rank4 ev.holds x.2 in
        let next : suc (start + i) ≡ start + suc i = omega arith in
        record {
          end = settled.end;
          cs = of_v c.0 ∷ of_f c.0 ∷ [];
          does = does_then tables (point_here shape) (set_var 0 (variable HELD) ∷ guard fitted ∷ settle t.cells start first) u u2 settled.end [] (of_v c.0 ∷ of_f c.0 ∷ [])
              (does_then tables (set_var REST (variable RANK) ∷ []) (indices 2 shape) u u1 u2 [] [] d1 sets.does)
              (does_then tables (set_var 0 (variable HELD) ∷ []) (guard fitted ∷ settle t.cells start first) u2 u3 settled.end [] (of_v c.0 ∷ of_f c.0 ∷ []) d3
              (does_then tables (guard fitted ∷ []) (settle t.cells start first) u3 ev.end settled.end [] (of_v c.0 ∷ of_f c.0 ∷ []) ev.does settled.does));
          more = both_more cs j c.0 c.1 ∙ ap (λ n. both (take n cs)) next;
          known = record { progress = subst (λ n. P n settled.end) next settled.known; held = same_variable HELD held_mark ev.end settled.end settled.vars held4 };
        }

    -- the whole port
    pub record PortDone (u : State) : Type 0 where
      pub end : State
      pub cells : List Cell
      pub does : Does tables (port_loop shape t.cells start first fitted ∷ []) u end cells
      pub along : both (take start cs) ++ cells ≡ both (take (start + size shape) cs)
      pub known : Between (start + size shape) end

    pub port_done : (u : State) → Between start u → PortDone u
    port_done u h =
        let none : start + 0 ≡ start = omega arith in
        let all = does_loop tables RANK (size shape) Body (λ n. Between (start + n)) So (λ i v b. let size_is = b.progress.size in omega (arith, size_is, more)) one_turn u (subst (λ n. Between n u) (sym none) h) in
        let n : ℕ = size shape in
        record {
          end = put RANK (pos n) all.last;
          cells = all.cs;
          does = all.does;
          along = ap (λ k. both (take k cs) ++ all.cs) (sym none) ∙ all.more;
          known = record {
            progress = progress_put tables sizes t xs cs values s st (start + n) RANK (pos n) all.last (λ e0. omega (arith, e0)) (λ e0. omega (arith, e0)) (λ e0. omega (arith, e0)) all.known.progress;
            held = put_other RANK HELD (pos n) all.last (λ e0. omega (arith, e0)) ∙ all.known.held;
          };
        }
