-- How many leaves there are below a task, and where those of a part stand.
use Rattle.std.proofs.Common.{◌≡◌, ℕ, zero, suc, ◌+◌, ◌<◌, List, [], ◌∷◌, ◌++◌, length, take, map, flat_map, Some, option_map, slice_get, sym, ◌∙◌, ap, refl, arith}
use Rattle.std.specs.List.{IsAmong, enumerate_from}
use Rattle.std.proofs.lemmas.List.{length-append}
use Rattle.std.proofs.lemmas.Option.{none-some, slice_get-map}
use Rattle.aol_model_types.specs.declared.document.Model.{Model}
use Rattle.aol_model_types.specs.declared.task.Compound.{Compound}
use Rattle.aol_model_types.specs.declared.task.Copied.{Copied}
use Rattle.aol_model_types.specs.declared.task.Elementary.{Elementary}
use Rattle.aol_model_types.specs.declared.task.Part.{Part}
use Rattle.aol_model_types.specs.declared.task.Repeated.{Repeated}
use Rattle.aol_model_types.specs.declared.task.Task.{Task}
use Rattle.aol_model_types.specs.declared.task.Task.TheVariants as tasks
use Rattle.aol_model_types.specs.Rules.{task_named}
use Rattle.aol_flat.specs.Instance.{Leaf, leaves_below, reshape_leaf}
use Rattle.aol_flat.specs.Node.{ToPart, ToBody, Node}
use Rattle.aol_flat.specs.Numbered.{inner_names, StandOnEarlier}
use Rattle.aol_flat.proofs.Among.{map_among}
use Rattle.aol_flat.proofs.Names.{slice_get-left, slice_get-right}
use Rattle.aol_paving.proofs.NewLeaves.{Enough, enough_below}
use Rattle.aol_fusion.specs.Closed.{AreThere}
use Rattle.aol_fusion.specs.Numbers.{leaves_in, leaves_of}

-- ---- lists

-- what is enumerated
pub enumerated_at : {X : Type 0} (from k : ℕ) (xs : List X) (x : X) → slice_get xs k ≡ Some x → slice_get (enumerate_from from xs) k ≡ Some (from + k, x)
enumerated_at from k [] x h = absurd (none-some x h)
enumerated_at from zero (y ∷ xs) x h = let e : y ≡ x = cc in let n : from ≡ from + 0 = omega arith in ap (λ (z : _). Some (from, z)) e ∙ ap (λ j. Some (j, x)) n
enumerated_at from (suc k) (y ∷ xs) x h = let n : from + 1 + k ≡ from + suc k = omega arith in enumerated_at (from + 1) k xs x h ∙ ap (λ j. Some (j, x)) n

module _ (m : Model) (order : StandOnEarlier m.tasks) (all : AreThere m) where
  abbrev below : ℕ → List ℕ → Node → List Leaf
  below d n node = leaves_below d m (task_named m.tasks n) node

  many_reshapes : (node : Node) (from : ℕ) (rs : List Copied) → length (map (reshape_leaf node) (enumerate_from from rs)) ≡ length rs
  many_reshapes node from [] = refl
  many_reshapes node from (r ∷ rs) = ap (λ k. suc k) (many_reshapes node (from + 1) rs)

  -- ---- as many at each depth and node

  abbrev SameAt : ℕ → Type 0
  SameAt d = (d' : ℕ) (n : List ℕ) (node node' : Node) (u : Task) → task_named m.tasks n ≡ Some u → Enough m.tasks n d → Enough m.tasks n d' → length (below d n node) ≡ length (below d' n node')

  same_parts : (d d' from : ℕ) (node node' : Node) (parts : List Part) → ((p : Part) (k : ℕ) → IsAmong parts p → length (below d p.task (ToPart k ∷ node)) ≡ length (below d' p.task (ToPart k ∷ node')))
      → length (flat_map (λ (p : ℕ × Part). below d p.1.task (ToPart p.0 ∷ node)) (enumerate_from from parts)) ≡ length (flat_map (λ (p : ℕ × Part). below d' p.1.task (ToPart p.0 ∷ node')) (enumerate_from from parts))
  same_parts d d' from node node' [] h = refl
  same_parts d d' from node node' (p ∷ parts) h =
      omega (
        arith,
        h p from (0, (omega arith, refl)),
        same_parts d d' (from + 1) node node' parts (λ q k a. h q k (suc a.0, (omega (arith, a.1.0), a.1.1))),
        length-append (below d p.task (ToPart from ∷ node)) (flat_map (λ (q : ℕ × Part). below d q.1.task (ToPart q.0 ∷ node)) (enumerate_from (from + 1) parts)),
        length-append (below d' p.task (ToPart from ∷ node')) (flat_map (λ (q : ℕ × Part). below d' q.1.task (ToPart q.0 ∷ node')) (enumerate_from (from + 1) parts)),
      )

  same_many : (d : ℕ) → SameAt d
  same_many zero d' n node node' u h e e' = (let k : e.number < 0 = e.under in absurd (omega (arith, k)))
  same_many (suc d) zero n node node' u h e e' = (let k : e'.number < 0 = e'.under in absurd (omega (arith, k)))
  same_many (suc d) (suc d') n node node' (tasks.Elementary x) h e e' =
      ap (λ o. length (leaves_below (suc d) m o node)) h ∙ sym (ap (λ o. length (leaves_below (suc d') m o node')) h)
  same_many (suc d) (suc d') n node node' (tasks.Repeated t) h e e' =
      let among : IsAmong (inner_names (tasks.Repeated t)) t.task = (0, (omega arith, refl)) in
      let v = all n t.task (tasks.Repeated t) h among in
      ap (λ o. length (leaves_below (suc d) m o node)) h
      ∙ (same_many d d' t.task (ToBody t.space ∷ node) (ToBody t.space ∷ node') v.0 v.1 (enough_below m.tasks n t.task (tasks.Repeated t) v.0 d order h among v.1 e) (enough_below m.tasks n t.task (tasks.Repeated t) v.0 d' order h among v.1 e')
      ∙ sym (ap (λ o. length (leaves_below (suc d') m o node')) h))
  same_many (suc d) (suc d') n node node' (tasks.Compound c) h e e' =
      let f : ℕ × Part → List Leaf = λ p. below d p.1.task (ToPart p.0 ∷ node) in
      let g : ℕ × Part → List Leaf = λ p. below d' p.1.task (ToPart p.0 ∷ node') in
      let parts = same_parts d d' 0 node node' c.parts
      (λ p k a.
      let among : IsAmong (inner_names (tasks.Compound c)) p.task = map_among (λ (q : Part). q.task) c.parts p a in
      let v = all n p.task (tasks.Compound c) h among in
      same_many d d' p.task (ToPart k ∷ node) (ToPart k ∷ node') v.0 v.1 (enough_below m.tasks n p.task (tasks.Compound c) v.0 d order h among v.1 e) (enough_below m.tasks n p.task (tasks.Compound c) v.0 d' order h among v.1 e')) in
      let sum : length (flat_map f (enumerate_from 0 c.parts) ++ map (reshape_leaf node) (enumerate_from 0 c.reshapes)) ≡ length (flat_map g (enumerate_from 0 c.parts) ++ map (reshape_leaf node') (enumerate_from 0 c.reshapes)) =
      omega (
        arith,
        parts,
        many_reshapes node 0 c.reshapes,
        many_reshapes node' 0 c.reshapes,
        length-append (flat_map f (enumerate_from 0 c.parts)) (map (reshape_leaf node) (enumerate_from 0 c.reshapes)),
        length-append (flat_map g (enumerate_from 0 c.parts)) (map (reshape_leaf node') (enumerate_from 0 c.reshapes)),
      ) in
      ap (λ o. length (leaves_below (suc d) m o node)) h ∙ (sum ∙ sym (ap (λ o. length (leaves_below (suc d') m o node')) h))

  -- the number of leaves of a task
  pub many_leaves : (d : ℕ) (n : List ℕ) (node : Node) (u : Task) → task_named m.tasks n ≡ Some u → Enough m.tasks n d → Enough m.tasks n (length m.tasks) → length (below d n node) ≡ leaves_in m n
  many_leaves d n node u h e whole = same_many d (length m.tasks) n node [] u h e whole

  -- ---- the leaves of a part

  part_at : (d from k x : ℕ) (node : Node) (parts : List Part) (p : Part) (l : Leaf) → ((q : Part) (j : ℕ) → IsAmong parts q → length (below d q.task (ToPart j ∷ node)) ≡ leaves_in m q.task) → slice_get parts k ≡ Some p
      → slice_get (below d p.task (ToPart (from + k) ∷ node)) x ≡ Some l
      → slice_get (flat_map (λ (q : ℕ × Part). below d q.1.task (ToPart q.0 ∷ node)) (enumerate_from from parts)) (leaves_of m (take k parts) + x) ≡ Some l
  part_at d from k x node [] p l many h at = absurd (none-some p h)
  part_at d from zero x node (q ∷ parts) p l many h at =
      let e : q ≡ p = cc in
      let n : from + 0 ≡ from = omega arith in
      let z : 0 + x ≡ x = omega arith in
      let here : slice_get (below d q.task (ToPart from ∷ node)) x ≡ Some l = ap (λ (r : Part). slice_get (below d r.task (ToPart from ∷ node)) x) e ∙ (ap (λ j. slice_get (below d p.task (ToPart j ∷ node)) x) (sym n) ∙ at) in
      ap (slice_get (below d q.task (ToPart from ∷ node) ++ flat_map (λ (r : ℕ × Part). below d r.1.task (ToPart r.0 ∷ node)) (enumerate_from (from + 1) parts))) z
      ∙ slice_get-left (below d q.task (ToPart from ∷ node)) (flat_map (λ (r : ℕ × Part). below d r.1.task (ToPart r.0 ∷ node)) (enumerate_from (from + 1) parts)) x l here
  part_at d from (suc k) x node (q ∷ parts) p l many h at =
      let n : from + suc k ≡ from + 1 + k = omega arith in
      let first = many q from (0, (omega arith, refl)) in
      let z : (leaves_in m q.task + leaves_of m (take k parts)) + x ≡ length (below d q.task (ToPart from ∷ node)) + (leaves_of m (take k parts) + x) = omega (arith, first) in
      ap (slice_get (below d q.task (ToPart from ∷ node) ++ flat_map (λ (r : ℕ × Part). below d r.1.task (ToPart r.0 ∷ node)) (enumerate_from (from + 1) parts))) z
      ∙ (slice_get-right (below d q.task (ToPart from ∷ node)) (flat_map (λ (r : ℕ × Part). below d r.1.task (ToPart r.0 ∷ node)) (enumerate_from (from + 1) parts)) (leaves_of m (take k parts) + x)
      ∙ part_at d (from + 1) k x node parts p l (λ r j a. many r j (suc a.0, (omega (arith, a.1.0), a.1.1))) h (ap (λ j. slice_get (below d p.task (ToPart j ∷ node)) x) (sym n) ∙ at))

  all_parts : (d from : ℕ) (node : Node) (parts : List Part) → ((q : Part) (j : ℕ) → IsAmong parts q → length (below d q.task (ToPart j ∷ node)) ≡ leaves_in m q.task)
      → length (flat_map (λ (q : ℕ × Part). below d q.1.task (ToPart q.0 ∷ node)) (enumerate_from from parts)) ≡ leaves_of m parts
  all_parts d from node [] many = refl
  all_parts d from node (q ∷ parts) many =
      omega (
        arith,
        many q from (0, (omega arith, refl)),
        all_parts d (from + 1) node parts (λ r j a. many r j (suc a.0, (omega (arith, a.1.0), a.1.1))),
        length-append (below d q.task (ToPart from ∷ node)) (flat_map (λ (r : ℕ × Part). below d r.1.task (ToPart r.0 ∷ node)) (enumerate_from (from + 1) parts)),
      )

  -- the parts of a compound that is found
  module _ (d : ℕ) (n : List ℕ) (node : Node) (c : Compound) (h : task_named m.tasks n ≡ Some (tasks.Compound c)) (e : Enough m.tasks n (suc d)) (whole : (inner : List ℕ) (v : Task) → task_named m.tasks inner ≡ Some v → Enough m.tasks inner (length m.tasks)) where
    many_part : (p : Part) (k : ℕ) → IsAmong c.parts p → length (below d p.task (ToPart k ∷ node)) ≡ leaves_in m p.task
    many_part p k a =
        let among : IsAmong (inner_names (tasks.Compound c)) p.task = map_among (λ (q : Part). q.task) c.parts p a in
        let v = all n p.task (tasks.Compound c) h among in
        many_leaves d p.task (ToPart k ∷ node) v.0 v.1 (enough_below m.tasks n p.task (tasks.Compound c) v.0 d order h among v.1 e) (whole p.task v.0 v.1)

    -- a leaf of a part, among those of the compound
    pub leaf_of_part : (k x : ℕ) (p : Part) (l : Leaf) → slice_get c.parts k ≡ Some p → slice_get (below d p.task (ToPart k ∷ node)) x ≡ Some l
        → slice_get (leaves_below (suc d) m (Some (tasks.Compound c)) node) (leaves_of m (take k c.parts) + x) ≡ Some l
    leaf_of_part k x p l at here =
        let z : 0 + k ≡ k = omega arith in
        slice_get-left (flat_map (λ (q : ℕ × Part). below d q.1.task (ToPart q.0 ∷ node)) (enumerate_from 0 c.parts)) (map (reshape_leaf node) (enumerate_from 0 c.reshapes)) (leaves_of m (take k c.parts) + x) l
        (part_at d 0 k x node c.parts p l many_part at (ap (λ j. slice_get (below d p.task (ToPart j ∷ node)) x) z ∙ here))

    -- the leaf of a reshape
    pub leaf_of_reshape : (k : ℕ) (r : Copied) → slice_get c.reshapes k ≡ Some r → slice_get (leaves_below (suc d) m (Some (tasks.Compound c)) node) (leaves_of m c.parts + k) ≡ Some (reshape_leaf node (k, r))
    leaf_of_reshape k r at =
        let front : List Leaf = flat_map (λ (q : ℕ × Part). below d q.1.task (ToPart q.0 ∷ node)) (enumerate_from 0 c.parts) in
        let many : length front ≡ leaves_of m c.parts = all_parts d 0 node c.parts many_part in
        let z : leaves_of m c.parts + k ≡ length front + k = omega (arith, many) in
        let e' : 0 + k ≡ k = omega arith in
        ap (slice_get (front ++ map (reshape_leaf node) (enumerate_from 0 c.reshapes))) z
        ∙ (slice_get-right front (map (reshape_leaf node) (enumerate_from 0 c.reshapes)) k
        ∙ (slice_get-map (reshape_leaf node) (enumerate_from 0 c.reshapes) k ∙ (ap (option_map (reshape_leaf node)) (enumerated_at 0 k c.reshapes r at) ∙ ap (λ j. Some (reshape_leaf node (j, r))) e')))

  -- ---- the number of leaves of a task, by its kind

  in_whole : (n : List ℕ) (t : Task) → task_named m.tasks n ≡ Some t → ((inner : List ℕ) (v : Task) → task_named m.tasks inner ≡ Some v → Enough m.tasks inner (length m.tasks)) → (d : ℕ) × Enough m.tasks n (suc d)
  in_whole n t h whole = let e = whole n t h in (e.number, record { number = e.number; named = e.named; under = omega arith })

  pub leaves_in_run : (n : List ℕ) (x : Elementary) → task_named m.tasks n ≡ Some (tasks.Elementary x) → ((inner : List ℕ) (v : Task) → task_named m.tasks inner ≡ Some v → Enough m.tasks inner (length m.tasks)) → leaves_in m n ≡ 1
  leaves_in_run n x h whole =
      let d = in_whole n (tasks.Elementary x) h whole in
      sym (many_leaves (suc d.0) n [] (tasks.Elementary x) h d.1 (whole n (tasks.Elementary x) h)) ∙ ap (λ o. length (leaves_below (suc d.0) m o [])) h

  pub leaves_in_body : (n : List ℕ) (t : Repeated) → task_named m.tasks n ≡ Some (tasks.Repeated t) → ((inner : List ℕ) (v : Task) → task_named m.tasks inner ≡ Some v → Enough m.tasks inner (length m.tasks)) → leaves_in m n ≡ leaves_in m t.task
  leaves_in_body n t h whole =
      let d = in_whole n (tasks.Repeated t) h whole in
      let among : IsAmong (inner_names (tasks.Repeated t)) t.task = (0, (omega arith, refl)) in
      let v = all n t.task (tasks.Repeated t) h among in
      sym (many_leaves (suc d.0) n [] (tasks.Repeated t) h d.1 (whole n (tasks.Repeated t) h))
      ∙ (ap (λ o. length (leaves_below (suc d.0) m o [])) h
      ∙ many_leaves d.0 t.task (ToBody t.space ∷ []) v.0 v.1 (enough_below m.tasks n t.task (tasks.Repeated t) v.0 d.0 order h among v.1 d.1) (whole t.task v.0 v.1))

  pub leaves_in_parts : (n : List ℕ) (c : Compound) → task_named m.tasks n ≡ Some (tasks.Compound c) → ((inner : List ℕ) (v : Task) → task_named m.tasks inner ≡ Some v → Enough m.tasks inner (length m.tasks))
      → leaves_in m n ≡ leaves_of m c.parts + length c.reshapes
  leaves_in_parts n c h whole =
      let d = in_whole n (tasks.Compound c) h whole in
      let front : List Leaf = flat_map (λ (q : ℕ × Part). below d.0 q.1.task (ToPart q.0 ∷ [])) (enumerate_from 0 c.parts) in
      let parts : length front ≡ leaves_of m c.parts = all_parts d.0 0 [] c.parts (many_part d.0 n [] c h d.1 whole) in
      let sum : length (front ++ map (reshape_leaf []) (enumerate_from 0 c.reshapes)) ≡ leaves_of m c.parts + length c.reshapes = omega (arith, parts, many_reshapes [] 0 c.reshapes, length-append front (map (reshape_leaf []) (enumerate_from 0 c.reshapes))) in
      sym (many_leaves (suc d.0) n [] (tasks.Compound c) h d.1 (whole n (tasks.Compound c) h)) ∙ (ap (λ o. length (leaves_below (suc d.0) m o [])) h ∙ sum)
