-- Ports of a task whose rules hold have different names.
use Rattle.std.proofs.Common.{◌≡◌, ℕ, ◌+◌, ◌≤◌, Bool, true, false, cond, not, ◌&&◌, ◌||◌, List, [], ◌∷◌, ◌++◌, map, find, Option, Some, None, is_some, is_none, option_map, sym, ◌∙◌, ap, refl, arith, subst}
use Rattle.std.specs.List.{IsAmong, list_any, count_by, cons_option}
use Rattle.std.proofs.lemmas.List.{append_assoc, append-nil}
use Rattle.std.proofs.lemmas.List.Sums.{sum_by-cons}
use Rattle.aol_shape.specs.Lists.{same}
use Rattle.aol_expr_tree.specs.declared.port.Port.{Port}
use Rattle.aol_model_types.specs.declared.place.Key.TheVariants.{KIn, KOut}
use Rattle.aol_model_types.specs.declared.place.PlaceStep.{PlaceStep}
use Rattle.aol_model_types.specs.declared.task.OutPort.{OutPort}
use Rattle.aol_model_types.specs.declared.task.Repeated.{Repeated}
use Rattle.aol_model_types.specs.declared.task.Task.{Task}
use Rattle.aol_model_types.specs.declared.task.Task.TheVariants as tasks
use Rattle.aol_model_types.specs.Places.{to_key, to_index}
use Rattle.aol_model_types.specs.Rules.{Check, each, each_from, port_checks, output_checks, kind_checks, is_new_port, inputs_of, outputs_of, port_shape}
use Rattle.aol_model_types.proofs.PortNames.{new_behind}
use Rattle.aol_flat.proofs.Checked.{of_compound, of_repeated, sides_apart}
use Rattle.aol_flat.proofs.Different.{Hold, hold-parts}
use Rattle.aol_flat.proofs.Names.{both-true, same-self, same-equal}
use Rattle.aol_flat.proofs.Once.{neither, counted, found_only}
use Rattle.aol_paving.specs.declared.crossing.Crossing.{Crossing}
use Rattle.aol_paving.specs.Crossings.{crossing_of, crossings}
use Rattle.aol_paving.proofs.Members.{any_map, there_any, count_map, count_both, none_before}
use Rattle.aol_paving.proofs.Ways.{AreApart, way_port}

-- a name is that of at most one of the ports
abbrev pub AreOnce : List Port → Type 0
AreOnce ports = (n : List ℕ) → count_by (λ (p : Port). same p.name n) ports ≤ 1

-- ---- ports and their names

pub any_port : (ps : List Port) (n : List ℕ) → is_some (port_shape ps n) ≡ list_any (λ (p : Port). same p.name n) ps
any_port [] n = refl
any_port (p ∷ ps) n = go (same p.name n) (any_port ps n)
  where
    go : (b : Bool) → is_some (port_shape ps n) ≡ list_any (λ (p : Port). same p.name n) ps
        → is_some (option_map (λ (q : Port). q.shape) (cond b (Some p) (find (λ (q : Port). same q.name n) ps))) ≡ (b || list_any (λ (p : Port). same p.name n) ps)
    go true rest = refl
    go false rest = rest

-- a port is found by its name
pub port_known : (ps : List Port) (p : Port) → IsAmong ps p → is_some (port_shape ps p.name) ≡ true
port_known ps p a = any_port ps p.name ∙ there_any (λ (q : Port). same q.name p.name) ps p a (same-self p.name)

-- and by it alone, where names are different
pub port_alone : (ps : List Port) (p : Port) → AreOnce ps → IsAmong ps p → port_shape ps p.name ≡ Some p.shape
port_alone ps p once a =
    ap (option_map (λ (q : Port). q.shape))
    (found_only (λ (q : Port). same q.name p.name) ps p a (same-self p.name) (omega (arith, once p.name, counted (λ (q : Port). same q.name p.name) ps p a (same-self p.name))))

-- none before it has its name
pub new_at : (ps b r : List Port) (x : Port) → AreOnce ps → ps ≡ b ++ x ∷ r → is_new_port b x ≡ true
new_at ps b r x once split =
    none_there (port_shape b x.name) (any_port b x.name ∙ none_before (λ (p : Port). same p.name x.name) ps b r x split (same-self x.name) (once x.name))
  where
    none_there : (o : Option (List ℕ)) → is_some o ≡ false → is_none o ≡ true
    none_there None h = refl
    none_there (Some s) h = cc

none_counted : {X : Type 0} (test : X → Bool) (xs : List X) → list_any test xs ≡ false → count_by test xs ≡ 0
none_counted test [] h = refl
none_counted test (x ∷ xs) h =
    let parts = neither (test x) (list_any test xs) h in
    sum_by-cons (λ y. cond (test y) 1 0) x xs ∙ (ap (λ (b : Bool). cond b 1 0 + count_by test xs) parts.0 ∙ omega (arith, none_counted test xs parts.1))

-- ---- by the rules

module _ {A : Type 0} (f : List PlaceStep → List A → A → List Check) (port : A → Port)
    (new : (p : List PlaceStep) (before : List A) (x : A) → Hold (f p before x) → list_any (λ (a : A). same (port a).name (port x).name) before ≡ false) (n : List ℕ) where
  abbrev test : A → Bool
  test a = same (port a).name n

  one_more : (earlier : List A) (x : A) → list_any (λ (a : A). same (port a).name (port x).name) earlier ≡ false → count_by test earlier ≤ 1 → count_by test (earlier ++ x ∷ []) ≤ 1
  one_more earlier x none few = go (test x) refl
    where
      go : (b : Bool) → test x ≡ b → count_by test (earlier ++ x ∷ []) ≤ 1
      go true e =
          let no : count_by test earlier ≡ 0 = none_counted test earlier (ap (λ m. list_any (λ (a : A). same (port a).name m) earlier) (sym (same-equal (port x).name n e)) ∙ none) in
          let one : count_by test (x ∷ []) ≡ 1 = sum_by-cons (λ y. cond (test y) 1 0) x [] ∙ ap (λ (b : Bool). cond b 1 0 + 0) e in
          omega (arith, count_both test earlier (x ∷ []), no, one)
      go false e =
          let one : count_by test (x ∷ []) ≡ 0 = sum_by-cons (λ y. cond (test y) 1 0) x [] ∙ ap (λ (b : Bool). cond b 1 0 + 0) e in
          omega (arith, count_both test earlier (x ∷ []), few, one)

  each_once : (at : List PlaceStep) (k : ℕ) (earlier xs : List A) → Hold (each_from f at k earlier xs) → count_by test earlier ≤ 1 → count_by test (earlier ++ xs) ≤ 1
  each_once at k earlier [] h few = subst (λ ys. count_by test ys ≤ 1) (sym (append-nil earlier)) few
  each_once at k earlier (x ∷ xs) h few =
      let parts = hold-parts (f (to_index at k) earlier x) (each_from f at (k + 1) (earlier ++ x ∷ []) xs) h in
      subst (λ ys. count_by test ys ≤ 1) (append_assoc earlier (x ∷ []) xs)
      (each_once at (k + 1) (earlier ++ x ∷ []) xs parts.1 (one_more earlier x (new (to_index at k) earlier x parts.0) few))

neither_new : (a b : Bool) → (not a && not b) ≡ true → b ≡ false
neither_new true b h = cc
neither_new false true h = cc
neither_new false false h = refl

behind_new : (front before : List Port) (p : Port) → is_new_port (front ++ before) p ≡ true → list_any (λ (q : Port). same q.name p.name) before ≡ false
behind_new front before p h = sym (any_port before p.name) ∙ neither_new (is_some (port_shape front p.name)) (is_some (port_shape before p.name)) (sym (new_behind front before p.name) ∙ h)

side_once : (front : List Port) (at : List PlaceStep) (ports : List Port) → Hold (each (port_checks front) at ports) → AreOnce ports
side_once front at ports h n =
    each_once (port_checks front) (λ (p : Port). p) (λ q before x k. behind_new front before x (both-true (is_new_port (front ++ before) x) true k).0) n at 0 [] ports h (omega arith)

outs_once : (ins : List Port) (f : List PlaceStep → List OutPort → OutPort → List Check) (at : List PlaceStep) (outs : List OutPort)
    → ((q : List PlaceStep) (before : List OutPort) (x : OutPort) → Hold (f q before x) → is_new_port (ins ++ map (λ (o : OutPort). o.port) before) x.port ≡ true) → Hold (each f at outs)
    → AreOnce (map (λ (o : OutPort). o.port) outs)
outs_once ins f at outs new h n =
    let some : count_by (λ (o : OutPort). same o.port.name n) outs ≤ 1 =
    each_once f (λ (o : OutPort). o.port)
    (λ q before x k. sym (any_map (λ (o : OutPort). o.port) (λ (p : Port). same p.name x.port.name) before) ∙ behind_new ins (map (λ (o : OutPort). o.port) before) x.port (new q before x k)) n at 0 [] outs h (omega arith) in
    omega (arith, some, count_map (λ (o : OutPort). o.port) (λ (p : Port). same p.name n) outs)

once_both : (ins outs : List Port) → AreOnce ins → AreOnce outs → AreApart outs ins → AreOnce (ins ++ outs)
once_both ins outs a b apart n = go (is_some (port_shape outs n)) refl
  where
    test : Port → Bool
    test p = same p.name n

    go : (c : Bool) → is_some (port_shape outs n) ≡ c → count_by (λ (p : Port). same p.name n) (ins ++ outs) ≤ 1
    go true e =
        let none : count_by (λ (p : Port). same p.name n) ins ≡ 0 = none_counted (λ (p : Port). same p.name n) ins (sym (any_port ins n) ∙ apart n e) in
        omega (arith, count_both (λ (p : Port). same p.name n) ins outs, none, b n)
    go false e =
        let none : count_by (λ (p : Port). same p.name n) outs ≡ 0 = none_counted (λ (p : Port). same p.name n) outs (sym (any_port outs n) ∙ e) in
        omega (arith, count_both (λ (p : Port). same p.name n) ins outs, none, a n)

sides_once : (before : List Task) (place : List PlaceStep) (w : Task) → Hold (kind_checks before place w) → AreOnce (inputs_of w) × AreOnce (outputs_of w)
sides_once before place (tasks.Elementary e) h =
    let parts = hold-parts (each (port_checks []) (to_key place KIn) e.ins) (each (output_checks e) (to_key place KOut) e.outs) h in (
      side_once [] (to_key place KIn) e.ins parts.0,
      outs_once e.ins (output_checks e) (to_key place KOut) e.outs (λ q b x k. (both-true (is_new_port (e.ins ++ map (λ (o : OutPort). o.port) b) x.port) _ k).0) parts.1,
    )
sides_once before place (tasks.Compound c) h = let of = of_compound before place c h in (side_once [] (to_key place KIn) c.ins of.ins, side_once c.ins (to_key place KOut) c.outs of.outs)
sides_once before place (tasks.Repeated r) h = let of = of_repeated before place r h in (side_once [] (to_key place KIn) r.ins of.ins, side_once r.ins (to_key place KOut) r.outs of.outs)

pub checked_once : (before : List Task) (place : List PlaceStep) (w : Task) → Hold (kind_checks before place w) → AreOnce (inputs_of w ++ outputs_of w)
checked_once before place w h =
    let both = sides_once before place w h in
    once_both (inputs_of w) (outputs_of w) both.0 both.1 (λ port known. sides_apart before place w port h known)

-- ---- ways

-- ways lead to different ports
pub ways_once : (t u : Repeated) (ports : List Port) (n : List ℕ) → count_by (λ (c : Crossing). same c.port.name n) (crossings t u ports) ≤ count_by (λ (p : Port). same p.name n) ports
ways_once t u [] n = omega arith
ways_once t u (v ∷ ports) n = go (crossing_of t u v) refl (ways_once t u ports n)
  where
    on : Crossing → Bool
    on c = same c.port.name n

    go : (o : Option Crossing) → crossing_of t u v ≡ o → count_by (λ (c : Crossing). same c.port.name n) (crossings t u ports) ≤ count_by (λ (p : Port). same p.name n) ports
        → count_by (λ (c : Crossing). same c.port.name n) (cons_option o (crossings t u ports)) ≤ count_by (λ (p : Port). same p.name n) (v ∷ ports)
    go None e less = omega (arith, less, sum_by-cons (λ (p : Port). cond (same p.name n) 1 0) v ports)
    go (Some c) e less =
        let one : Port → ℕ = λ p. cond (same p.name n) 1 0 in
        let first : one c.port ≡ one v = ap one (way_port t u v c e) in
        omega (arith, less, first, sum_by-cons (λ (p : Port). cond (same p.name n) 1 0) v ports, sum_by-cons (λ (c : Crossing). cond (same c.port.name n) 1 0) c (crossings t u ports))
