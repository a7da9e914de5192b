-- A step that fills the cells of its instances is right.
use Rattle.std.specs.Prelude.{◌≡◌, ℕ, zero, suc, ◌<◌, ◌↔◌, ℤ, List, [], ◌∷◌, ◌++◌, map, flat_map, length, slice_get, slice_set, Some, option_map}
use Rattle.std.proofs.Common.{refl, sym, ap, subst, arith, ◌∙◌, inl, inr}
use Rattle.std.proofs.lemmas.List.{length-set}
use Rattle.aol_expr_tree.specs.declared.value.Val.{Val}
use Rattle.aol_expr_tree.specs.declared.value.Val.TheVariants.{Num, Bad}
use Rattle.aol_model_types.specs.declared.document.Model.{Model}
use Rattle.aol_flat.specs.InstanceValue.{number_of}
use Rattle.aol_flat.specs.Net.{Net, Memory, reads_at, writes_at, read_value, IsSettled}
use Rattle.aol_csyn.specs.Tree.{Stmt, stmts, Step, Program}
use Rattle.aol_csyn.specs.Meaning.{Arrays, arrays_of, run_all, step_start, step_run, step_of_worker}
use Rattle.aol_csyn.specs.Puts.{of_v, of_f, all_puts, step_puts, IsOne}
use Rattle.aol_cinstance.specs.Values.{mark_of, set_all, both}
use Rattle.aol_cinstance.proofs.Lists.{map_length, map_get, set_length, set_other}
use Rattle.aol_cstep.specs.Effect.{Fills}
use Rattle.aol_cstep.proofs.Filling.{flat_get}
use Rattle.aol_cgen_laws.specs.Emitted.{output_sizes, Holds, IsOfStep, StepIsRight}
use Rattle.aol_cgen_laws.specs.Filled.{all_writes, gives_in, all_given, AreOfStep, GiveForEach, AreInside, FilledIsRight}

-- ---- the entry at a place that is put

own_changes : (xs : List ℤ) (k : ℕ) (z : ℤ) → k < length xs → slice_get (slice_set xs k z) k ≡ Some z
own_changes [] k z h = absurd (omega arith)
own_changes (x ∷ xs) zero z h = refl
own_changes (x ∷ xs) (suc k) z h = own_changes xs k z (omega arith)

changed_get : (xs : List ℤ) (d c : ℕ) (y z : ℤ) → slice_get xs c ≡ Some z → (d ≡ c → y ≡ z) → slice_get (slice_set xs d y) c ≡ Some z
changed_get [] d c y z h g = h
changed_get (x ∷ xs) zero zero y z h g = ap (λ n. Some n) (g refl)
changed_get (x ∷ xs) zero (suc c) y z h g = h
changed_get (x ∷ xs) (suc d) zero y z h g = h
changed_get (x ∷ xs) (suc d) (suc c) y z h g = changed_get xs d c y z h (λ e. g (ap (λ n. suc n) e))

-- what is put at it is always this
abbrev Agrees : List ℕ → List ℤ → ℕ → ℤ → Type 0
Agrees cs zs c z = (k : ℕ) → slice_get cs k ≡ Some c → slice_get zs k ≡ Some z

first_is : (d c : ℕ) (cs : List ℕ) (y z : ℤ) (zs : List ℤ) → Agrees (d ∷ cs) (y ∷ zs) c z → d ≡ c → y ≡ z
first_is d c cs y z zs agrees e = let same : Some y ≡ Some z = agrees 0 (ap (λ n. Some n) e) in cc

set_keeps : (xs : List ℤ) (cs : List ℕ) (zs : List ℤ) (c : ℕ) (z : ℤ) → slice_get xs c ≡ Some z → Agrees cs zs c z → slice_get (set_all xs cs zs) c ≡ Some z
set_keeps xs [] zs c z h agrees = h
set_keeps xs (d ∷ cs) [] c z h agrees = h
set_keeps xs (d ∷ cs) (y ∷ zs) c z h agrees = set_keeps (slice_set xs d y) cs zs c z (changed_get xs d c y z h (first_is d c cs y z zs agrees)) (λ k at. agrees (suc k) at)

set_own : (xs : List ℤ) (cs : List ℕ) (zs : List ℤ) (c k : ℕ) (z : ℤ) → c < length xs → Agrees cs zs c z → slice_get cs k ≡ Some c → slice_get (set_all xs cs zs) c ≡ Some z
set_own xs [] zs c zero z inside agrees at = absurd (cc)
set_own xs [] zs c (suc k) z inside agrees at = absurd (cc)
set_own xs (d ∷ cs) [] c k z inside agrees at = let none = agrees k at in absurd (nothing k none)
  where
    nothing : (k : ℕ) → slice_get [] k ≡ Some z → ⊥
    nothing zero h = cc
    nothing (suc k) h = cc
set_own xs (d ∷ cs) (y ∷ zs) c zero z inside agrees at =
    let same : d ≡ c = cc in
    let is : y ≡ z = first_is d c cs y z zs agrees same in
    let there : slice_get (slice_set xs d y) c ≡ Some z = ap (λ n. slice_get (slice_set xs n y) c) same ∙ (own_changes xs c y inside ∙ ap (λ n. Some n) is) in
    set_keeps (slice_set xs d y) cs zs c z there (λ k g. agrees (suc k) g)
set_own xs (d ∷ cs) (y ∷ zs) c (suc k) z inside agrees at = set_own (slice_set xs d y) cs zs c k z (rw (length-set xs d y) inside) (λ j g. agrees (suc j) g) at

-- ---- cells and values side by side

beside : (cs ds : List ℕ) (xs ys : List Val) (c : ℕ) (x : Val) → length cs ≡ length xs → ((k : ℕ) → slice_get cs k ≡ Some c → slice_get xs k ≡ Some x) → ((k : ℕ) → slice_get ds k ≡ Some c → slice_get ys k ≡ Some x)
    → (k : ℕ) → slice_get (cs ++ ds) k ≡ Some c → slice_get (xs ++ ys) k ≡ Some x
beside [] ds [] ys c x same h g k at = g k at
beside [] ds (w ∷ xs) ys c x same h g k at = absurd (omega (arith, same))
beside (d ∷ cs) ds [] ys c x same h g k at = absurd (omega (arith, same))
beside (d ∷ cs) ds (w ∷ xs) ys c x same h g zero at = h 0 at
beside (d ∷ cs) ds (w ∷ xs) ys c x same h g (suc k) at = beside cs ds xs ys c x (omega (arith, same)) (λ j a. h (suc j) a) g k at

module _ (net : Net) (mem : Memory) (give : GiveForEach net) (settled : IsSettled net mem) where
  as_many : (j : ℕ) → length (writes_at net j) ≡ length (gives_in net mem j)
  as_many j = sym (give j (map (read_value mem) (reads_at net j)) (map_length (read_value mem) (reads_at net j)))

  all_beside : (js : List ℕ) (c k : ℕ) → slice_get (all_writes net js) k ≡ Some c → slice_get (all_given net mem js) k ≡ Some (mem c)
  all_beside [] c zero at = absurd (cc)
  all_beside [] c (suc k) at = absurd (cc)
  all_beside (j ∷ js) c k at =
      beside (writes_at net j) (all_writes net js) (gives_in net mem j) (all_given net mem js) c (mem c) (as_many j) (λ n a. settled j n c a) (λ n a. all_beside js c n a) k at

-- an entry of some list is one of all
pub all_at : (f : ℕ → List ℕ) (js : List ℕ) (i j n c : ℕ) → slice_get js i ≡ Some j → slice_get (f j) n ≡ Some c → (k : ℕ) × (slice_get (flat_map f js) k ≡ Some c)
all_at f [] zero j n c h g = absurd (cc)
all_at f [] (suc i) j n c h g = absurd (cc)
all_at f (x ∷ js) zero j n c h g = let e : x ≡ j = cc in front (f x) (flat_map f js) n (ap (λ y. slice_get (f y) n) e ∙ g)
  where
    front : (xs ys : List ℕ) (n : ℕ) → slice_get xs n ≡ Some c → (k : ℕ) × (slice_get (xs ++ ys) k ≡ Some c)
    front [] ys zero a = absurd (cc)
    front [] ys (suc m) a = absurd (cc)
    front (y ∷ xs) ys zero a = (0, a)
    front (y ∷ xs) ys (suc m) a = let r = front xs ys m a in (suc r.0, r.1)
all_at f (x ∷ js) (suc i) j n c h g = let r = all_at f js i j n c h g in behind (f x) (flat_map f js) r.0 r.1
  where
    behind : (xs ys : List ℕ) (k : ℕ) → slice_get ys k ≡ Some c → (m : ℕ) × (slice_get (xs ++ ys) m ≡ Some c)
    behind [] ys k a = (k, a)
    behind (y ∷ xs) ys k a = let r = behind xs ys k a in (suc r.0, r.1)

-- ---- places that are put

one_v : (cs : List ℕ) (c : ℕ) → IsOne (of_v c) (both cs) → (k : ℕ) × (slice_get cs k ≡ Some c)
one_v [] c h = absurd h
one_v (d ∷ cs) c (inl e) = let same : d ≡ c = cc in (0, ap (λ n. Some n) same)
one_v (d ∷ cs) c (inr (inl e)) = absurd (cc)
one_v (d ∷ cs) c (inr (inr h)) = let r = one_v cs c h in (suc r.0, r.1)

one_f : (cs : List ℕ) (c : ℕ) → IsOne (of_f c) (both cs) → (k : ℕ) × (slice_get cs k ≡ Some c)
one_f [] c h = absurd h
one_f (d ∷ cs) c (inl e) = absurd (cc)
one_f (d ∷ cs) c (inr (inl e)) = let same : d ≡ c = cc in (0, ap (λ n. Some n) same)
one_f (d ∷ cs) c (inr (inr h)) = let r = one_f cs c h in (suc r.0, r.1)

v_one : (cs : List ℕ) (c k : ℕ) → slice_get cs k ≡ Some c → IsOne (of_v c) (both cs)
v_one [] c zero h = absurd (cc)
v_one [] c (suc k) h = absurd (cc)
v_one (d ∷ cs) c zero h = let same : d ≡ c = cc in inl (ap of_v same)
v_one (d ∷ cs) c (suc k) h = inr (inr (v_one cs c k h))

f_one : (cs : List ℕ) (c k : ℕ) → slice_get cs k ≡ Some c → IsOne (of_f c) (both cs)
f_one [] c zero h = absurd (cc)
f_one [] c (suc k) h = absurd (cc)
f_one (d ∷ cs) c zero h = let same : d ≡ c = cc in inr (inl (ap of_f same))
f_one (d ∷ cs) c (suc k) h = inr (inr (f_one cs c k h))

-- both numbers of a value
holds_of : (m : Model) (a : Arrays) (c : ℕ) (x : Val) → slice_get a.0 c ≡ Some (number_of x) → slice_get a.1 c ≡ Some (mark_of (output_sizes m.tasks) x) → Holds m a c x
holds_of m a c (Num n) h g = (h, g)
holds_of m a c (Bad s) h g = (h, g)

module _ (m : Model) (net : Net) (levels workers : List ℕ) (p : Program) (level worker : ℕ) (js : List ℕ) (mem : Memory) (a : Arrays) (step : Step) (body : List Stmt) (is_step : step_of_worker p level worker ≡ Some step)
    (is_body : step.body ≡ stmts body) (of_step : AreOfStep levels workers level worker js) (give : GiveForEach net) (settled : IsSettled net mem) (inside : AreInside net a)
    (fills : Fills p.tables (output_sizes m.tasks) body (step_start step a) (all_writes net js) (all_given net mem js)) where
  abbrev Cs : List ℕ
  Cs = all_writes net js

  abbrev Zs : List Val
  Zs = all_given net mem js

  abbrev End : Arrays
  End = arrays_of fills.end

  -- a cell of the list is one of the step, and back
  of_list : (c k : ℕ) → slice_get Cs k ≡ Some c → IsOfStep net levels workers level worker c
  of_list c k at = let q = flat_get (writes_at net) js k c at in record { instance = q.x; place = q.j; at_level = of_step.at_level q.i q.x q.at; at_worker = of_step.at_worker q.i q.x q.at; writes = q.there }

  in_list : (c : ℕ) → IsOfStep net levels workers level worker c → (k : ℕ) × (slice_get Cs k ≡ Some c)
  in_list c o = let i = of_step.all o.instance o.at_level o.at_worker in all_at (writes_at net) js i.0 o.instance o.place c i.1 o.writes

  puts_are : step_puts p.tables step a ≡ both Cs
  puts_are = ap (λ b. all_puts p.tables b (step_start step a)) is_body ∙ fills.puts

  runs_so : step_run p.tables step a ≡ Some End
  runs_so = ap (λ b. option_map arrays_of (run_all p.tables b (step_start step a))) is_body ∙ ap (option_map arrays_of) fills.runs

  v_puts : (c : ℕ) → IsOne (of_v c) (step_puts p.tables step a) ↔ IsOfStep net levels workers level worker c
  v_puts c = (λ h. let q = one_v Cs c (subst (λ ps. IsOne (of_v c) ps) puts_are h) in of_list c q.0 q.1, λ o. let q = in_list c o in subst (λ ps. IsOne (of_v c) ps) (sym puts_are) (v_one Cs c q.0 q.1))

  f_puts : (c : ℕ) → IsOne (of_f c) (step_puts p.tables step a) ↔ IsOfStep net levels workers level worker c
  f_puts c = (λ h. let q = one_f Cs c (subst (λ ps. IsOne (of_f c) ps) puts_are h) in of_list c q.0 q.1, λ o. let q = in_list c o in subst (λ ps. IsOne (of_f c) ps) (sym puts_are) (f_one Cs c q.0 q.1))

  v_there : (c k : ℕ) → slice_get Cs k ≡ Some c → c < length a.0 → slice_get End.0 c ≡ Some (number_of (mem c))
  v_there c k at low = ap (λ ys. slice_get ys c) fills.v
      ∙ set_own a.0 Cs (map number_of Zs) c k (number_of (mem c)) low (λ n h. map_get number_of Zs n (mem c) (all_beside net mem give settled js c n h)) at

  f_there : (c k : ℕ) → slice_get Cs k ≡ Some c → c < length a.1 → slice_get End.1 c ≡ Some (mark_of (output_sizes m.tasks) (mem c))
  f_there c k at low = ap (λ ys. slice_get ys c) fills.f
      ∙ set_own a.1 Cs (map (mark_of (output_sizes m.tasks)) Zs) c k (mark_of (output_sizes m.tasks) (mem c)) low (λ n h. map_get (mark_of (output_sizes m.tasks)) Zs n (mem c) (all_beside net mem give settled js c n h)) at

  own_holds : (c : ℕ) → IsOfStep net levels workers level worker c → Holds m End c (mem c)
  own_holds c o = let q = in_list c o in let low = inside o.instance o.place c o.writes in holds_of m End c (mem c) (v_there c q.0 q.1 low.0) (f_there c q.0 q.1 low.1)

  no_other : (c : ℕ) → (IsOfStep net levels workers level worker c → ⊥) → (j d : ℕ) → slice_get Cs j ≡ Some d → d ≡ c → ⊥
  no_other c h j d at e = h (of_list c j (at ∙ ap (λ n. Some n) e))

  pub step_right : StepIsRight m net levels workers p level worker mem a
  step_right = record {
    step = step;
    is_step = is_step;
    end = End;
    runs = runs_so;
    puts_v = v_puts;
    puts_f = f_puts;
    v_length = ap length fills.v ∙ set_length a.0 Cs (map number_of Zs);
    f_length = ap length fills.f ∙ set_length a.1 Cs (map (mark_of (output_sizes m.tasks)) Zs);
    own = own_holds;
    others = λ c h. (
      ap (λ ys. slice_get ys c) fills.v ∙ set_other a.0 Cs (map number_of Zs) c (no_other c h),
      ap (λ ys. slice_get ys c) fills.f ∙ set_other a.1 Cs (map (mark_of (output_sizes m.tasks)) Zs) c (no_other c h),
    );
  }

pub filled_is_right : FilledIsRight
filled_is_right m net levels workers p level worker js mem a step body is_step is_body of_step give settled inside fills = step_right m net levels workers p level worker js mem a step body is_step is_body of_step give settled inside fills
