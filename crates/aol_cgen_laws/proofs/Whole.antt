-- Right steps make a right program, whatever the order of the workers in each level.
use Rattle.std.specs.Prelude.{◌≡◌, ℕ, zero, suc, ◌+◌, ◌<◌, List, [], ◌∷◌, length, get_or, slice_get, Some, option_and_then, ◌⊎◌}
use Rattle.std.specs.List.{IsAmong}
use Rattle.std.proofs.Common.{refl, sym, ap, subst, arith, ◌∙◌, inl, inr}
use Rattle.aol_expr_tree.specs.declared.value.Val.{Val}
use Rattle.aol_expr_tree.specs.declared.value.Val.TheVariants.{Num, Bad}
use Rattle.aol_model_types.specs.declared.document.Model.{Model}
use Rattle.aol_flat.specs.Net.{Net, Memory, IsSettled, IsWritten}
use Rattle.aol_csyn.specs.Tree.{Program}
use Rattle.aol_csyn.specs.Meaning.{Arrays, step_run, level_run, levels_run, IsWorkerOrder}
use Rattle.aol_cgen_laws.specs.Emitted.{AreInputs, Holds, SameAt, IsOfStep, IsBelow, IsReadyFor, StepIsRight, IsEmitted, AreShared, EmittedIsRight}

some_injective : {X : Type 0} (a b : X) → Some a ≡ Some b → a ≡ b
some_injective a b h = cc

-- a cell that is as it was holds what it held
holds_same : (m : Model) (a b : Arrays) (c : ℕ) (v : Val) → SameAt a b c → Holds m a c v → Holds m b c v
holds_same m a b c (Num n) s h = (s.0 ∙ h.0, s.1 ∙ h.1)
holds_same m a b c (Bad x) s h = (s.0 ∙ h.0, s.1 ∙ h.1)

same_twice : (a b d : Arrays) (c : ℕ) → SameAt a b c → SameAt b d c → SameAt a d c
same_twice a b d c s t = (t.0 ∙ s.0, t.1 ∙ s.1)

among_first : (w : ℕ) (ws : List ℕ) → IsAmong (w ∷ ws) w
among_first w ws = (0, (omega arith, refl))

among_rest : (w x : ℕ) (ws : List ℕ) → IsAmong ws x → IsAmong (w ∷ ws) x
among_rest w x ws r = (suc r.0, (omega (arith, r.1.0), r.1.1))

among_cases : (w x : ℕ) (ws : List ℕ) (i : ℕ) → i < length (w ∷ ws) → x ≡ get_or (w ∷ ws) i x → (x ≡ w) ⊎ IsAmong ws x
among_cases w x ws zero h e = inl e
among_cases w x ws (suc i) h e = inr (i, (omega (arith, h), e))

module _ (m : Model) (net : Net) (cells inputs : ℕ) (levels : List ℕ) (level_count : ℕ) (workers : List ℕ) (worker_count : ℕ) (p : Program)
    (shared : AreShared net inputs levels level_count workers worker_count) (emitted : IsEmitted m net cells inputs levels level_count workers worker_count p)
    (mem : Memory) (given : AreInputs inputs mem) (settled : IsSettled net mem) (opening : Arrays) where
  -- within a level, after the steps of some workers
  record Within (level : ℕ) (before : List ℕ) (a : Arrays) : Type 0 where
    ready : IsReadyFor m net levels cells inputs level mem a
    own : (w c : ℕ) → IsAmong before w → IsOfStep net levels workers level w c → Holds m a c (mem c)
    others : (c : ℕ) → (IsWritten net c → ⊥) → SameAt opening a c

  written_of_step : (level w c : ℕ) → IsOfStep net levels workers level w c → IsWritten net c
  written_of_step level w c o = record { writer = o.instance; place = o.place; at = o.writes }

  -- a cell of a lower level is no cell of this step
  lower_apart : (level w c : ℕ) → IsBelow net levels level c → IsOfStep net levels workers level w c → ⊥
  lower_apart level w c b o =
      let same : b.instance ≡ o.instance = shared.one c b.instance b.place o.instance o.place b.writes o.writes in
      let P : ℕ → Type 0 = λ i. slice_get levels i ≡ Some level in
      let here : slice_get levels b.instance ≡ Some level = subst P (sym same) o.at_level in
      let equal : b.own_level ≡ level = some_injective b.own_level level (sym b.at_level ∙ here) in
      omega (arith, equal, b.below)

  after_step : (level w : ℕ) (before : List ℕ) (a : Arrays) → Within level before a → (r : StepIsRight m net levels workers p level w mem a) → Within level (w ∷ before) r.end
  after_step level w before a within r = record {
    ready = record {
      v_length = r.v_length ∙ within.ready.v_length;
      f_length = r.f_length ∙ within.ready.f_length;
      main_inputs = λ c h. holds_same m a r.end c (mem c) (r.others c (λ o. shared.input c h (written_of_step level w c o))) (within.ready.main_inputs c h);
      lower = λ c b. holds_same m a r.end c (mem c) (r.others c (lower_apart level w c b)) (within.ready.lower c b);
    };
    own = λ x c among o.
        elim (shared.known level w c) [
          | inl here ↦ r.own c here
          | inr apart ↦
              holds_same m a r.end c (mem c) (r.others c apart)
              (elim (among_cases w x before among.0 among.1.0 among.1.1) [
                | inl e ↦ let P : ℕ → Type 0 = λ y. IsOfStep net levels workers level y c in absurd (apart (subst P e o))
                | inr rest ↦ within.own x c rest o
              ])
        ];
    others = λ c n. same_twice opening a r.end c (within.others c n) (r.others c (λ o. n (written_of_step level w c o)));
  }

  -- the workers of a level, in an order
  record LevelDone (level : ℕ) (before order : List ℕ) (a : Arrays) : Type 0 where
    end : Arrays
    runs : level_run p level order a ≡ Some end
    ready : IsReadyFor m net levels cells inputs level mem end
    own : (w c : ℕ) → IsAmong before w ⊎ IsAmong order w → IsOfStep net levels workers level w c → Holds m end c (mem c)
    others : (c : ℕ) → (IsWritten net c → ⊥) → SameAt opening end c

  no_worker : (w : ℕ) → IsAmong [] w → ⊥
  no_worker w h = omega (arith, h.1.0)

  run_order : (level : ℕ) → level < level_count → (order before : List ℕ) → ((i w : ℕ) → slice_get order i ≡ Some w → w < worker_count) → (a : Arrays) → Within level before a → LevelDone level before order a
  run_order level below [] before only a within = record {
    end = a;
    runs = refl;
    ready = within.ready;
    own = λ w c h o. elim h [ inl b ↦ within.own w c b o | inr n ↦ absurd (no_worker w n) ];
    others = within.others;
  }
  run_order level below (w ∷ order) before only a within =
      let step = emitted.steps mem given settled level w below (only 0 w refl) a within.ready in
      let rest = run_order level below order (w ∷ before) (λ i x h. only (suc i) x h) step.end (after_step level w before a within step) in
      record {
        end = rest.end;
        runs = ap (option_and_then (level_run p level order)) (ap (option_and_then (λ st. step_run p.tables st a)) step.is_step ∙ step.runs) ∙ rest.runs;
        ready = rest.ready;
        own = λ x c h o.
            elim h [
              | inl b ↦ rest.own x c (inl (among_rest w x before b)) o
              | inr n ↦ elim (among_cases w x order n.0 n.1.0 n.1.1) [
                | inl e ↦ let P : ℕ → Type 0 = λ y. IsAmong (w ∷ before) y in rest.own x c (inl (subst P (sym e) (among_first w before))) o
                | inr later ↦ rest.own x c (inr later) o
              ]
            ];
        others = rest.others;
      }

  level_cases : (l level : ℕ) → l < level + 1 → (l < level) ⊎ (l ≡ level)
  level_cases l level h = grind arith

  -- after a level the next one is ready
  next_ready : (level : ℕ) (order : List ℕ) (a : Arrays) → IsWorkerOrder worker_count order → (d : LevelDone level [] order a) → Within (level + 1) [] d.end
  next_ready level order a is_order d = record {
    ready = record {
      v_length = d.ready.v_length;
      f_length = d.ready.f_length;
      main_inputs = d.ready.main_inputs;
      lower = λ c b.
          elim (level_cases b.own_level level b.below) [
            | inl under ↦ d.ready.lower c (record { instance = b.instance; place = b.place; own_level = b.own_level; at_level = b.at_level; below = under; writes = b.writes })
            | inr same ↦
                let w = shared.worker c b.instance b.place b.writes in
                let P : ℕ → Type 0 = λ l. slice_get levels b.instance ≡ Some l in
                d.own w.0 c (inr (is_order.each w.0 w.2)) (record { instance = b.instance; place = b.place; at_level = subst P same b.at_level; at_worker = w.1; writes = b.writes })
          ];
    };
    own = λ w c n o. absurd (no_worker w n);
    others = d.others;
  }

  run_levels : (orders : List (List ℕ)) (level : ℕ) (a : Arrays) → length orders + level ≡ level_count → ((i : ℕ) (order : List ℕ) → slice_get orders i ≡ Some order → IsWorkerOrder worker_count order)
      → Within level [] a → (end : Arrays) × (levels_run p level orders a ≡ Some end) × Within level_count [] end
  run_levels [] level a many each within =
      let P : ℕ → Type 0 = λ l. Within l [] a in
      (a, refl, subst P (omega (arith, many)) within)
  run_levels (order ∷ orders) level a many each within =
      let is_order = each 0 order refl in
      let ran = run_order level (omega (arith, many)) order [] is_order.only a within in
      let rest = run_levels orders (level + 1) ran.end (omega (arith, many)) (λ i o h. each (suc i) o h) (next_ready level order a is_order ran) in
      (rest.0, ap (option_and_then (levels_run p (level + 1) orders)) ran.runs ∙ rest.1, rest.2)

pub emitted_is_right : EmittedIsRight
emitted_is_right m net cells inputs levels level_count workers worker_count p shared emitted mem given settled orders are_orders a v_length f_length main =
    let Q : ℕ → Type 0 = λ n. (i : ℕ) (order : List ℕ) → slice_get orders i ≡ Some order → IsWorkerOrder n order in
    let each : Q worker_count = subst Q emitted.of_workers are_orders.each in
    let ran =
    run_levels m net cells inputs levels level_count workers worker_count p shared emitted mem given settled a orders 0 a (omega (arith, are_orders.count, emitted.of_levels)) each
    (record {
      ready = record { v_length = v_length; f_length = f_length; main_inputs = main; lower = λ c b. absurd (omega (arith, b.below)) };
      own = λ w c n o. absurd (omega (arith, n.1.0));
      others = λ c n. (refl, refl);
    }) in
    record {
      end = ran.0;
      runs = ran.1;
      written = λ c w.
          let l = shared.level c w.writer w.place w.at in
          ran.2.ready.lower c (record { instance = w.writer; place = w.place; own_level = l.0; at_level = l.1; below = l.2; writes = w.at });
      others = ran.2.others;
    }
