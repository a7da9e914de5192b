-- A sound and accepted model has a solution.
use Rattle.std.proofs.Common.{◌≡◌, ℕ, zero, suc, ◌+◌, ◌≤◌, pos, Bool, true, false, List, [], ◌∷◌, map, get_or, Option, Some, None, unwrap_or, find, slice_get, sym, ◌∙◌, ap, refl, arith, subst}
use Rattle.std.specs.List.{IsAmong, enumerate_from}
use Rattle.aol_shape.specs.Lists.{same}
use Rattle.aol_shape.specs.Shape.{rank, IsPointOf}
use Rattle.aol_expr_tree.specs.declared.port.Port.{Port}
use Rattle.aol_expr_tree.specs.declared.value.Val.{Val}
use Rattle.aol_expr_tree.specs.declared.value.Val.TheVariants.{Num}
use Rattle.aol_model_types.specs.declared.document.Model.{Model}
use Rattle.aol_model_types.specs.declared.job.InputArray.{InputArray}
use Rattle.aol_model_types.specs.declared.task.Elementary.{Elementary}
use Rattle.aol_model_types.specs.declared.task.OutPort.{OutPort}
use Rattle.aol_model_types.specs.declared.task.Task.{Task}
use Rattle.aol_model_types.specs.declared.task.Task.TheVariants as tasks
use Rattle.aol_model_types.specs.Rules.{port_shape}
use Rattle.aol_flat.specs.Tasks.{main_inputs, elementary_number}
use Rattle.aol_flat.specs.Place.{Element, IsElement, task_at, elements_of}
use Rattle.aol_flat.specs.Inputs.{numbers_named}
use Rattle.aol_flat.specs.InstanceValue.{instance_value}
use Rattle.aol_flat.specs.Equation.{Valuation, ElementaryOutput}
use Rattle.aol_flat.specs.Need.{Needs, by_following, by_copying, by_computing, IsGrounded, grounded}
use Rattle.aol_flat.specs.Home.{Home, Constant, home_of, is_input_at}
use Rattle.aol_flat.specs.Sources.{source_at, TakesFrom, following, copying}
use Rattle.aol_flat.specs.Accept.{IsSound}
use Rattle.aol_flat.proofs.Agree.{same_values, IsAmong-tail}
use Rattle.aol_flat.proofs.Exists.{needed_exists}
use Rattle.aol_flat.proofs.HasShape.{one_shape, output_shaped, HasShape}
use Rattle.aol_flat.proofs.LinkSides.{task_there}
use Rattle.aol_flat.proofs.Names.{same-equal}
use Rattle.aol_flat.proofs.Once.{found_among}
use Rattle.aol_flat.proofs.Shapes.{output_own}
use Rattle.aol_flat.proofs.Sites.{find-passes}
use Rattle.aol_flat.proofs.SourceAll.{sources_are_right}
use Rattle.aol_flat.proofs.SourceBack.{at_number}
use Rattle.aol_flat.proofs.Among.{get_among, map_among}

-- ---- values after so many steps

abbrev pub input_value : List InputArray → Model → Element → Home → Val
input_value inputs m p (Constant n) = Num n
input_value inputs m p _ = Num (get_or (numbers_named inputs p.port) (rank (unwrap_or (port_shape (main_inputs m) p.port) []) p.index) (pos 0))

abbrev pub out_value : Model → Valuation → Element → Elementary → Option (ℕ × OutPort) → Val
out_value m v p e None = Num (pos 0)
out_value m v p e (Some o) = instance_value (elementary_number m e.name) e (map v (elements_of p.place e.ins)) o.0 o.1 p.index

abbrev pub output_value : Model → Valuation → Element → Option Task → Val
output_value m v p (Some (tasks.Elementary e)) = out_value m v p e (find (λ (o : ℕ × OutPort). same o.1.port.name p.port) (enumerate_from 0 e.outs))
output_value m v p _ = Num (pos 0)

abbrev pub base_value : List InputArray → Model → Valuation → Element → Bool → Val
base_value inputs m v p true = input_value inputs m p (home_of m p)
base_value inputs m v p false = output_value m v p (task_at m p.place)

abbrev pub next_value : List InputArray → Model → Valuation → Element → Option Element → Val
next_value inputs m v p (Some q) = v q
next_value inputs m v p None = base_value inputs m v p (is_input_at (task_at m p.place) p.port)

abbrev pub value : List InputArray → Model → ℕ → Valuation
value inputs m zero p = Num (pos 0)
value inputs m (suc n) p = next_value inputs m (value inputs m n) p (source_at m p)

module _ (m : Model) (sound : IsSound m) (inputs : List InputArray) where
  -- an element's value stays from n on
  abbrev pub IsSteady : ℕ → Element → Type 0
  IsSteady n p = (k : ℕ) → n ≤ k → value inputs m (suc k) p ≡ value inputs m k p

  -- elements that are steady are so from one number on
  pub steady_list : (xs : List Element) → ((q : Element) → IsAmong xs q → (n : ℕ) × IsSteady n q) → (n : ℕ) × ((q : Element) → IsAmong xs q → IsSteady n q)
  steady_list [] h = (0, λ q a. absurd (omega (arith, a.1.0)))
  steady_list (x ∷ xs) h =
      let first = h x (0, (omega arith, refl)) in
      let rest = steady_list xs (λ q a. h q (IsAmong-tail x xs q a)) in
      (first.0 + rest.0, λ q a. go first.0 rest.0 first.1 rest.1 q a)
    where
      go : (n k : ℕ) → IsSteady n x → ((q : Element) → IsAmong xs q → IsSteady k q) → (q : Element) → IsAmong (x ∷ xs) q → IsSteady (n + k) q
      go n k f g q (zero, a) j l =
          let P : Element → Type 0 = λ y. value inputs m (suc j) y ≡ value inputs m j y in
          subst P (sym a.1) (f j (omega (arith, l)))
      go n k f g q (suc i, a) j l = g q (i, (omega (arith, a.0), a.1)) j (omega (arith, l))

  -- a value after a step, by the source
  pub taken_value : (p q : Element) (k : ℕ) → source_at m p ≡ Some q → value inputs m (suc k) p ≡ value inputs m k q
  taken_value p q k h = ap (next_value inputs m (value inputs m k) p) h

  pub base_of : (p : Element) (k : ℕ) → source_at m p ≡ None → value inputs m (suc k) p ≡ base_value inputs m (value inputs m k) p (is_input_at (task_at m p.place) p.port)
  base_of p k h = ap (next_value inputs m (value inputs m k) p) h

  -- one step: what needs steady elements is steady
  steady_step : (p : Element) → IsElement m p → ((q : Element) → Needs m p q → (n : ℕ) × IsSteady n q) → (n : ℕ) × IsSteady n p
  steady_step p e rec = by_source (source_at m p) refl
    where
      constant : (x : Val) → ((k : ℕ) → value inputs m (suc k) p ≡ x) → (n : ℕ) × IsSteady n p
      constant x h = (1, λ k l. go k l)
        where
          go : (k : ℕ) → 1 ≤ k → value inputs m (suc k) p ≡ value inputs m k p
          go zero l = absurd (omega (arith, l))
          go (suc k) l = h (suc k) ∙ sym (h k)

      by_out : (x : Elementary) → task_at m p.place ≡ Some (tasks.Elementary x) → (o : ℕ × OutPort) → find (λ (y : ℕ × OutPort). same y.1.port.name p.port) (enumerate_from 0 x.outs) ≡ Some o
          → ((k : ℕ) → value inputs m (suc k) p ≡ out_value m (value inputs m k) p x (Some o)) → (n : ℕ) × IsSteady n p
      by_out x at o found h =
          let port : OutPort → Port = λ y. y.port in
          let listed : slice_get x.outs o.0 ≡ Some o.1 = at_number x.outs o (found_among (λ (y : ℕ × OutPort). same y.1.port.name p.port) (enumerate_from 0 x.outs) o found) in
          let named : o.1.port.name ≡ p.port = same-equal o.1.port.name p.port (find-passes (λ (y : ℕ × OutPort). same y.1.port.name p.port) (enumerate_from 0 x.outs) o found) in
          let r = task_there m sound.shapes p.place (tasks.Elementary x) at in
          let own : port_shape (map port x.outs) o.1.port.name ≡ Some o.1.port.shape = output_own r.before r.place (tasks.Elementary x) o.1.port r.holds (map_among port x.outs o.1 (get_among x.outs o.0 o.1 listed)) in
          let shaped : HasShape m p.place p.port o.1.port.shape = output_shaped m sound p.place (tasks.Elementary x) p.port o.1.port.shape at (ap (port_shape (map port x.outs)) (sym named) ∙ own) in
          let mine : HasShape m p.place p.port e.shape = record { task = e.task; at_place = e.at_place; at_port = e.at_port } in
          let P : List ℕ → Type 0 = λ s. IsPointOf s p.index in
          let output : ElementaryOutput m p = record {
            task = x;
            at_place = at;
            number = o.0;
            out = o.1;
            listed = listed;
            named = sym named;
            inside = subst P (one_shape m p.place p.port e.shape o.1.port.shape mine shaped) e.inside;
          } in
          let all = steady_list (elements_of p.place x.ins) (λ q a. rec q (by_computing output a)) in
          (all.0 + 1, λ k l. go all.0 all.1 k l)
        where
          go : (n : ℕ) → ((q : Element) → IsAmong (elements_of p.place x.ins) q → IsSteady n q) → (k : ℕ) → n + 1 ≤ k → value inputs m (suc k) p ≡ value inputs m k p
          go n all zero l = absurd (omega (arith, l))
          go n all (suc k) l =
              h (suc k)
              ∙ (ap (λ vs. instance_value (elementary_number m x.name) x vs o.0 o.1 p.index) (same_values (value inputs m (suc k)) (value inputs m k) (elements_of p.place x.ins) (λ q a. all q a k (omega (arith, l))))
              ∙ sym (h k))

      by_task : (t : Task) → task_at m p.place ≡ Some t → ((k : ℕ) → value inputs m (suc k) p ≡ output_value m (value inputs m k) p (Some t)) → (n : ℕ) × IsSteady n p
      by_task (tasks.Compound c) at h = constant (Num (pos 0)) h
      by_task (tasks.Repeated t) at h = constant (Num (pos 0)) h
      by_task (tasks.Elementary x) at h = go (find (λ (y : ℕ × OutPort). same y.1.port.name p.port) (enumerate_from 0 x.outs)) refl
        where
          go : (o : Option (ℕ × OutPort)) → find (λ (y : ℕ × OutPort). same y.1.port.name p.port) (enumerate_from 0 x.outs) ≡ o → (n : ℕ) × IsSteady n p
          go None f = constant (Num (pos 0)) (λ k. h k ∙ ap (out_value m (value inputs m k) p x) f)
          go (Some o) f = by_out x at o f (λ k. h k ∙ ap (out_value m (value inputs m k) p x) f)

      by_side : (b : Bool) → is_input_at (task_at m p.place) p.port ≡ b → source_at m p ≡ None → (n : ℕ) × IsSteady n p
      by_side true s f = constant (input_value inputs m p (home_of m p)) (λ k. base_of p k f ∙ ap (base_value inputs m (value inputs m k) p) s)
      by_side false s f =
          by_task e.task e.at_place
          (λ k. base_of p k f ∙ (ap (base_value inputs m (value inputs m k) p) s ∙ ap (output_value m (value inputs m k) p) e.at_place))

      by_source : (o : Option Element) → source_at m p ≡ o → (n : ℕ) × IsSteady n p
      by_source None f = by_side (is_input_at (task_at m p.place) p.port) refl f
      by_source (Some q) f =
          let r = rec q (need (sources_are_right m sound p q e f)) in
          (r.0 + 1, λ k l. go r.0 r.1 k l)
        where
          need : TakesFrom m p q → Needs m p q
          need (following g) = by_following g
          need (copying c) = by_copying c

          go : (n : ℕ) → IsSteady n q → (k : ℕ) → n + 1 ≤ k → value inputs m (suc k) p ≡ value inputs m k p
          go n s zero l = absurd (omega (arith, l))
          go n s (suc k) l = taken_value p q (suc k) f ∙ (s k (omega (arith, l)) ∙ sym (taken_value p q k f))

  pub steady : (p : Element) → IsElement m p → IsGrounded m p → (n : ℕ) × IsSteady n p
  steady p e (grounded g) = steady_step p e (λ q need. steady q (needed_exists m sound p q need) (g q need))
