-- Names that differ from all earlier ones.
use Rattle.std.proofs.Common.{◌≡◌, ℕ, zero, suc, ◌+◌, Bool, true, false, cond, not, ◌||◌, List, [], ◌∷◌, ◌++◌, map, filter, find, Some, is_none, option_map, sym, ◌∙◌, ap, refl, arith, subst}
use Rattle.std.specs.List.{IsAmong, count_by}
use Rattle.std.proofs.lemmas.List.{append-nil, append_assoc, map-append}
use Rattle.std.proofs.lemmas.List.Folds.{list_any-append}
use Rattle.std.proofs.lemmas.List.Sums.{sum_by-cons}
use Rattle.aol_shape.specs.Lists.{same}
use Rattle.aol_expr_tree.specs.declared.port.Port.{Port}
use Rattle.aol_model_types.specs.declared.place.PlaceStep.{PlaceStep}
use Rattle.aol_model_types.specs.declared.task.Elementary.{Elementary}
use Rattle.aol_model_types.specs.declared.task.OutPort.{OutPort}
use Rattle.aol_model_types.specs.declared.task.Task.{Task}
use Rattle.aol_model_types.specs.declared.task.Task.TheVariants as tasks
use Rattle.aol_model_types.specs.declared.place.Key.TheVariants.{KIn, KOut, KName}
use Rattle.aol_model_types.specs.Places.{to_key, to_index}
use Rattle.aol_model_types.specs.Rules.{each, each_from, port_checks, output_checks, kind_checks, is_new_port, port_shape, inputs_of, outputs_of}
use Rattle.aol_flat.proofs.Checked.{of_compound, of_repeated}
use Rattle.aol_flat.proofs.Different.{Hold, hold-parts}
use Rattle.aol_flat.proofs.Names.{both-true, same-self, same-equal}
use Rattle.aol_change.specs.Change.{is_taken}
use Rattle.aol_change.proofs.Checks.{hold-both}
use Rattle.aol_change.proofs.KindChecks.{hold-one}

-- each name differs from these and from the ones before it
abbrev pub AreFresh : List (List ℕ) → List (List ℕ) → Type 0
AreFresh seen [] = Unit {0}
AreFresh seen (n ∷ ns) = (is_taken seen n ≡ false) × AreFresh (seen ++ n ∷ []) ns

abbrev pub names_of : List Port → List (List ℕ)
names_of ports = map (λ (p : Port). p.name) ports

-- ---- Bools

pub neither_of : (a b : Bool) → (a || b) ≡ false → (a ≡ false) × (b ≡ false)
neither_of true b h = cc
neither_of false b h = (refl, h)

pub not_either : (a b : Bool) → a ≡ false → b ≡ false → (a || b) ≡ false
not_either true b h k = cc
not_either false b h k = k

-- ---- ports and their rule

pub shape_taken : (ports : List Port) (name : List ℕ) → is_none (port_shape ports name) ≡ not (is_taken (names_of ports) name)
shape_taken [] name = refl
shape_taken (p ∷ ports) name = go (same p.name name) (shape_taken ports name)
  where
    go : (b : Bool) → is_none (port_shape ports name) ≡ not (is_taken (names_of ports) name)
        → is_none (option_map (λ (q : Port). q.shape) (cond b (Some p) (find (λ (q : Port). same q.name name) ports))) ≡ not (b || is_taken (names_of ports) name)
    go true h = refl
    go false h = h

pub not_false : (b : Bool) → not b ≡ true → b ≡ false
not_false true h = cc
not_false false h = refl

-- the rule of ports says that their names are fresh
pub ports_fresh : (front earlier ports : List Port) (at : List PlaceStep) (k : ℕ) → Hold (each_from (port_checks front) at k earlier ports) → AreFresh (names_of (front ++ earlier)) (names_of ports)
ports_fresh front earlier [] at k h = tt
ports_fresh front earlier (p ∷ ports) at k h =
    let parts = hold-parts (port_checks front (to_index at k) earlier p) (each_from (port_checks front) at (k + 1) (earlier ++ p ∷ []) ports) h in
    let here : is_none (port_shape (front ++ earlier) p.name) ≡ true = (both-true (is_new_port (front ++ earlier) p) true parts.0).0 in
    let P : List (List ℕ) → Type 0 = λ seen. AreFresh seen (names_of ports) in (
      not_false (is_taken (names_of (front ++ earlier)) p.name) (sym (shape_taken (front ++ earlier) p.name) ∙ here),
      subst P (ap names_of (sym (append_assoc front earlier (p ∷ []))) ∙ map-append (λ (q : Port). q.name) (front ++ earlier) (p ∷ [])) (ports_fresh front (earlier ++ p ∷ []) ports at (k + 1) parts.1),
    )

-- and the other way round
pub fresh_ports : (front earlier ports : List Port) (at : List PlaceStep) (k : ℕ) → AreFresh (names_of (front ++ earlier)) (names_of ports) → Hold (each_from (port_checks front) at k earlier ports)
fresh_ports front earlier [] at k h = refl
fresh_ports front earlier (p ∷ ports) at k h =
    let P : List (List ℕ) → Type 0 = λ seen. AreFresh seen (names_of ports) in
    hold-both (port_checks front (to_index at k) earlier p) (each_from (port_checks front) at (k + 1) (earlier ++ p ∷ []) ports)
    (hold-one (to_key (to_index at k) KName) 2 (is_new_port (front ++ earlier) p) (shape_taken (front ++ earlier) p.name ∙ ap not h.0))
    (fresh_ports front (earlier ++ p ∷ []) ports at (k + 1)
    (subst P (sym (ap names_of (sym (append_assoc front earlier (p ∷ []))) ∙ map-append (λ (q : Port). q.name) (front ++ earlier) (p ∷ []))) h.1))

outs_fresh : (ins : List Port) (earlier outs : List OutPort) → (e : Elementary) (at : List PlaceStep) (k : ℕ) → e.ins ≡ ins → Hold (each_from (output_checks e) at k earlier outs)
    → AreFresh (names_of (ins ++ map (λ (o : OutPort). o.port) earlier)) (names_of (map (λ (o : OutPort). o.port) outs))
outs_fresh ins earlier [] e at k is h = tt
outs_fresh ins earlier (o ∷ outs) e at k is h =
    let port : OutPort → Port = λ q. q.port in
    let parts = hold-parts (output_checks e (to_index at k) earlier o) (each_from (output_checks e) at (k + 1) (earlier ++ o ∷ []) outs) h in
    let here : is_none (port_shape (ins ++ map port earlier) o.port.name) ≡ true = ap (λ i. is_none (port_shape (i ++ map port earlier) o.port.name)) (sym is) ∙ (both-true (is_new_port (e.ins ++ map port earlier) o.port) _ parts.0).0 in
    let P : List (List ℕ) → Type 0 = λ seen. AreFresh seen (names_of (map port outs)) in
    let more : names_of (ins ++ map port (earlier ++ o ∷ [])) ≡ names_of (ins ++ map port earlier) ++ o.port.name ∷ [] =
    ap (λ ps. names_of (ins ++ ps)) (map-append port earlier (o ∷ [])) ∙ (ap names_of (sym (append_assoc ins (map port earlier) (o.port ∷ []))) ∙ map-append (λ (q : Port). q.name) (ins ++ map port earlier) (o.port ∷ [])) in (
      not_false (is_taken (names_of (ins ++ map port earlier)) o.port.name) (sym (shape_taken (ins ++ map port earlier) o.port.name) ∙ here),
      subst P more (outs_fresh ins (earlier ++ o ∷ []) outs e at (k + 1) is parts.1),
    )

-- fresh names after fresh names
pub both_fresh : (seen xs ys : List (List ℕ)) → AreFresh seen xs → AreFresh (seen ++ xs) ys → AreFresh seen (xs ++ ys)
both_fresh seen [] ys h k = let P : List (List ℕ) → Type 0 = λ s. AreFresh s ys in subst P (append-nil seen) k
both_fresh seen (x ∷ xs) ys h k = let P : List (List ℕ) → Type 0 = λ s. AreFresh s ys in (h.0, both_fresh (seen ++ x ∷ []) xs ys h.1 (subst P (sym (append_assoc seen (x ∷ []) xs)) k))

pub fresh_parts : (seen xs ys : List (List ℕ)) → AreFresh seen (xs ++ ys) → AreFresh seen xs × AreFresh (seen ++ xs) ys
fresh_parts seen [] ys h = let P : List (List ℕ) → Type 0 = λ s. AreFresh s ys in (tt, subst P (sym (append-nil seen)) h)
fresh_parts seen (x ∷ xs) ys h =
    let rest = fresh_parts (seen ++ x ∷ []) xs ys h.1 in
    let P : List (List ℕ) → Type 0 = λ s. AreFresh s ys in
    ((h.0, rest.0), subst P (append_assoc seen (x ∷ []) xs) rest.1)

-- all ports of a task that keeps the rules
pub task_fresh : (before : List Task) (place : List PlaceStep) (t : Task) → Hold (kind_checks before place t) → AreFresh [] (names_of (inputs_of t) ++ names_of (outputs_of t))
task_fresh before place (tasks.Elementary e) h =
    let parts = hold-parts (each (port_checks []) (to_key place KIn) e.ins) (each (output_checks e) (to_key place KOut) e.outs) h in
    let P : List Port → Type 0 = λ ps. AreFresh (names_of ps) (names_of (map (λ (o : OutPort). o.port) e.outs)) in
    both_fresh [] (names_of e.ins) (names_of (map (λ (o : OutPort). o.port) e.outs)) (ports_fresh [] [] e.ins (to_key place KIn) 0 parts.0)
    (subst P (append-nil e.ins) (outs_fresh e.ins [] e.outs e (to_key place KOut) 0 refl parts.1))
task_fresh before place (tasks.Compound c) h =
    let all = of_compound before place c h in
    let P : List Port → Type 0 = λ ps. AreFresh (names_of ps) (names_of c.outs) in
    both_fresh [] (names_of c.ins) (names_of c.outs) (ports_fresh [] [] c.ins (to_key place KIn) 0 all.ins) (subst P (append-nil c.ins) (ports_fresh c.ins [] c.outs (to_key place KOut) 0 all.outs))
task_fresh before place (tasks.Repeated r) h =
    let all = of_repeated before place r h in
    let P : List Port → Type 0 = λ ps. AreFresh (names_of ps) (names_of r.outs) in
    both_fresh [] (names_of r.ins) (names_of r.outs) (ports_fresh [] [] r.ins (to_key place KIn) 0 all.ins) (subst P (append-nil r.ins) (ports_fresh r.ins [] r.outs (to_key place KOut) 0 all.outs))

-- ---- what freshness gives

pub taken_first : (n : List ℕ) (seen rest : List (List ℕ)) → is_taken (seen ++ n ∷ rest) n ≡ true
taken_first n seen rest =
    list_any-append (λ m. same m n) seen (n ∷ rest) ∙ or_true (is_taken seen n) (same n n || is_taken rest n) (ap (λ b. b || is_taken rest n) (same-self n))
  where
    or_true : (a b : Bool) → b ≡ true → (a || b) ≡ true
    or_true true b h = refl
    or_true false b h = h

pub still_taken : (n : List ℕ) (seen rest : List (List ℕ)) → is_taken seen n ≡ true → is_taken (seen ++ rest) n ≡ true
still_taken n seen rest h = list_any-append (λ m. same m n) seen rest ∙ ap (λ b. b || is_taken rest n) h

-- a name that was seen isn't among fresh ones
pub not_again : (n : List ℕ) (seen ns : List (List ℕ)) → AreFresh seen ns → is_taken seen n ≡ true → count_by (λ m. same m n) ns ≡ 0
not_again n seen [] h t = refl
not_again n seen (m ∷ ns) h t =
    sum_by-cons (λ x. cond (same x n) 1 0) m ns ∙ go (same m n) refl (not_again n (seen ++ m ∷ []) ns h.1 (still_taken n seen (m ∷ []) t))
  where
    go : (b : Bool) → same m n ≡ b → count_by (λ x. same x n) ns ≡ 0 → cond b 1 0 + count_by (λ x. same x n) ns ≡ 0
    go true e k = let is : m ≡ n = same-equal m n e in let clash : true ≡ false = sym t ∙ (ap (is_taken seen) (sym is) ∙ h.0) in cc
    go false e k = omega (arith, k)

-- each fresh name is there once
pub once_there : (n : List ℕ) (seen ns : List (List ℕ)) → AreFresh seen ns → is_taken ns n ≡ true → count_by (λ m. same m n) ns ≡ 1
once_there n seen [] h t = cc
once_there n seen (m ∷ ns) h t = sum_by-cons (λ x. cond (same x n) 1 0) m ns ∙ go (same m n) refl t (once_there n (seen ++ m ∷ []) ns h.1)
  where
    go : (b : Bool) → same m n ≡ b → (b || is_taken ns n) ≡ true → (is_taken ns n ≡ true → count_by (λ x. same x n) ns ≡ 1) → cond b 1 0 + count_by (λ x. same x n) ns ≡ 1
    go true e k rest =
        let is : m ≡ n = same-equal m n e in
        let none : count_by (λ x. same x n) ns ≡ 0 = not_again n (seen ++ m ∷ []) ns h.1 (ap (λ x. is_taken (seen ++ x ∷ []) n) is ∙ taken_first n seen []) in
        omega (arith, none)
    go false e k rest = let one : count_by (λ x. same x n) ns ≡ 1 = rest k in omega (arith, one)

pub taken_apart : (seen ys : List (List ℕ)) (n : List ℕ) → AreFresh seen ys → is_taken ys n ≡ true → is_taken seen n ≡ false
taken_apart seen ys n h t = go (is_taken seen n) refl
  where
    go : (b : Bool) → is_taken seen n ≡ b → is_taken seen n ≡ false
    go false e = e
    go true e =
        let none : count_by (λ m. same m n) ys ≡ 0 = not_again n seen ys h e in
        let one : count_by (λ m. same m n) ys ≡ 1 = once_there n seen ys h t in
        absurd (omega (arith, none, one))

-- what stands before a name differs from it
pub fresh_before : (seen before rest : List (List ℕ)) (n : List ℕ) → AreFresh seen (before ++ n ∷ rest) → is_taken before n ≡ false
fresh_before seen before rest n h =
    let here = (fresh_parts seen before (n ∷ rest) h).1.0 in
    (neither_of (is_taken seen n) (is_taken before n) (sym (list_any-append (λ m. same m n) seen before) ∙ here)).1

-- the name of a member is among the names
pub name_listed : (ps : List Port) (p : Port) → IsAmong ps p → is_taken (names_of ps) p.name ≡ true
name_listed [] p b = absurd (omega (arith, b.1.0))
name_listed (x ∷ ps) p (zero, b) = ap (λ c. c || is_taken (names_of ps) p.name) (ap (λ (y : Port). same x.name y.name) b.1 ∙ same-self x.name)
name_listed (x ∷ ps) p (suc k, b) = or_right (same x.name p.name) (is_taken (names_of ps) p.name) (name_listed ps p (k, (omega (arith, b.0), b.1)))
  where
    or_right : (c d : Bool) → d ≡ true → (c || d) ≡ true
    or_right true d h = refl
    or_right false d h = h

-- a fresh port is found by its name
pub fresh_own : (seen : List (List ℕ)) (ports : List Port) (p : Port) → AreFresh seen (names_of ports) → IsAmong ports p → port_shape ports p.name ≡ Some p.shape
fresh_own seen [] p h a = absurd (omega (arith, a.1.0))
fresh_own seen (q ∷ ports) p h (zero, a) =
    ap (λ b. option_map (λ (x : Port). x.shape) (cond b (Some q) (find (λ (x : Port). same x.name p.name) ports))) (ap (λ (x : Port). same q.name x.name) a.1 ∙ same-self q.name)
    ∙ ap (λ (x : Port). Some x.shape) (sym a.1)
fresh_own seen (q ∷ ports) p h (suc i, a) = go (same q.name p.name) refl (fresh_own (seen ++ q.name ∷ []) ports p h.1 (i, (omega (arith, a.0), a.1)))
  where
    go : (b : Bool) → same q.name p.name ≡ b → port_shape ports p.name ≡ Some p.shape
        → option_map (λ (x : Port). x.shape) (cond b (Some q) (find (λ (x : Port). same x.name p.name) ports)) ≡ Some p.shape
    go false e k = k
    go true e k =
        let is : q.name ≡ p.name = same-equal q.name p.name e in
        let zero_there : count_by (λ m. same m p.name) (names_of ports) ≡ 0 = not_again p.name (seen ++ q.name ∷ []) (names_of ports) h.1 (ap (λ x. is_taken (seen ++ x ∷ []) p.name) is ∙ taken_first p.name seen []) in
        let one : count_by (λ m. same m p.name) (names_of ports) ≡ 1 = once_there p.name (seen ++ q.name ∷ []) (names_of ports) h.1 (name_listed ports p (i, (omega (arith, a.0), a.1))) in
        absurd (omega (arith, zero_there, one))

-- ---- fewer names

seen_less : (seen : List (List ℕ)) (x n : List ℕ) → is_taken (seen ++ x ∷ []) n ≡ false → (is_taken seen n ≡ false) × (is_taken (x ∷ []) n ≡ false)
seen_less seen x n k = neither_of (is_taken seen n) (is_taken (x ∷ []) n) (sym (list_any-append (λ m. same m n) seen (x ∷ [])) ∙ k)

seen_more : (seen seen' : List (List ℕ)) (x : List ℕ) → ((n : List ℕ) → is_taken seen n ≡ false → is_taken seen' n ≡ false)
    → (n : List ℕ) → is_taken (seen ++ x ∷ []) n ≡ false → is_taken (seen' ++ x ∷ []) n ≡ false
seen_more seen seen' x less n k =
    let parts = seen_less seen x n k in
    list_any-append (λ m. same m n) seen' (x ∷ []) ∙ not_either (is_taken seen' n) (is_taken (x ∷ []) n) (less n parts.0) parts.1

-- names of a list of which some are left out, after fewer seen ones
pub fewer_fresh : {X : Type 0} (name : X → List ℕ) (keep : X → Bool) (seen seen' : List (List ℕ)) (xs : List X)
    → ((n : List ℕ) → is_taken seen n ≡ false → is_taken seen' n ≡ false) → AreFresh seen (map name xs) → AreFresh seen' (map name (filter keep xs))
fewer_fresh name keep seen seen' [] less h = tt
fewer_fresh {X = X} name keep seen seen' (x ∷ xs) less h =
    go (keep x)
    (fewer_fresh name keep (seen ++ name x ∷ []) (seen' ++ name x ∷ []) xs (seen_more seen seen' (name x) less) h.1)
    (fewer_fresh name keep (seen ++ name x ∷ []) seen' xs (λ n k. less n (seen_less seen (name x) n k).0) h.1)
  where
    go : (b : Bool) → AreFresh (seen' ++ name x ∷ []) (map name (filter keep xs)) → AreFresh seen' (map name (filter keep xs)) → AreFresh seen' (map name (cond b (x ∷ filter keep xs) (filter keep xs)))
    go true k l = (less (name x) h.0, k)
    go false k l = l
