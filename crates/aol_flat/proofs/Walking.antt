-- A walk of the hierarchy goes on from one part to the next.
use Rattle.std.proofs.Common.{◌≡◌, ℕ, ◌+◌, List, [], ◌∷◌, ◌++◌, Option, Some, None, Result, Ok, Err, sym, ◌∙◌, ap, arith, subst, inl, inr, ◌⊎◌}
use Rattle.std.proofs.lemmas.List.{append_assoc, append-nil}
use Rattle.aol_shape.specs.declared.limit.LimitName.{LimitName}
use Rattle.aol_shape.specs.Shape.{size}
use Rattle.aol_model_types.specs.declared.document.Model.{Model}
use Rattle.aol_model_types.specs.declared.task.Task.{Task}
use Rattle.aol_flat.specs.declared.leaf.Leaf.{Leaf as LeafRow}
use Rattle.aol_flat.specs.declared.leaf.LeafKind.{LeafKind}
use Rattle.aol_flat.specs.declared.refused.FlatRefused.{FlatRefused}
use Rattle.aol_flat.specs.declared.refused.FlatRefused.TheVariants.{Limit, NoMemory}
use Rattle.aol_flat.specs.declared.spot.Spot.{Spot}
use Rattle.aol_flat.specs.declared.walk.Walk.{Walk}
use Rattle.aol_flat.specs.Counted.{first_after, IsCounted}
use Rattle.aol_flat.specs.Instance.{Leaf, leaf_path}
use Rattle.aol_flat.specs.Leaves.{narrowed, kind_of, row_of, rows_after, instances_of}
use Rattle.aol_flat.specs.Limits.{first_past, limit_at}
use Rattle.aol_flat.specs.Node.{Node, node_path, space_around}
use Rattle.aol_flat.specs.Saturated.{saturated}
use Rattle.aol_flat.specs.Walked.{IsSpot, HasPassed, PassesLimit, EndsSo, GoesOver}
use Rattle.aol_flat.proofs.Saturation.{saturated-add}

module _ (m : Model) where
  -- ---- one after the other

  -- a walk that went over the first goes on over the second
  pub goes_on : (a b : List (Node × Task)) (la lb : List Leaf) (s0 s1 s2 : Walk) (r1 r2 : Result (Unit {0}) FlatRefused) (done : Unit {0})
      → GoesOver m a la s0 s1 r1 → r1 ≡ Ok done → GoesOver m b lb s1 s2 r2 → GoesOver m (a ++ b) (la ++ lb) s0 s2 r2
  goes_on a b la lb s0 s1 s2 r1 r2 done first was second before leaves passed =
      let P : Result (Unit {0}) FlatRefused → Type 0 = λ r. EndsSo m (before ++ a) (leaves ++ la) s1 r in
      let ns : List (Node × Task) → Type 0 = λ nodes. EndsSo m nodes (leaves ++ (la ++ lb)) s2 r2 in
      let ls : List Leaf → Type 0 = λ all. EndsSo m ((before ++ a) ++ b) all s2 r2 in
      let at_mid : HasPassed m (before ++ a) (leaves ++ la) s1 = subst P was (first before leaves passed) in
      subst ns (append_assoc before a b) (subst ls (append_assoc leaves la lb) (second (before ++ a) (leaves ++ la) at_mid))

  further : (ns b : List (Node × Task)) (e : FlatRefused) → (e ≡ NoMemory) ⊎ PassesLimit m ns e → (e ≡ NoMemory) ⊎ PassesLimit m (ns ++ b) e
  further ns b e (inl h) = inl h
  further ns b e (inr p) = inr (record { node = p.node; limit = p.limit; told = p.told; first = λ rest. ap (first_past 0 0 0) (append_assoc ns b rest) ∙ p.first (b ++ rest) })

  -- a walk that stopped in the first stops in both
  pub stops : (a b : List (Node × Task)) (la lb : List Leaf) (s0 s1 s2 : Walk) (r : Result (Unit {0}) FlatRefused) (e : FlatRefused)
      → GoesOver m a la s0 s1 r → r ≡ Err e → GoesOver m (a ++ b) (la ++ lb) s0 s2 (Err e)
  stops a b la lb s0 s1 s2 r e first was before leaves passed =
      let P : Result (Unit {0}) FlatRefused → Type 0 = λ r. EndsSo m (before ++ a) (leaves ++ la) s1 r in
      let Q : List (Node × Task) → Type 0 = λ ns. (e ≡ NoMemory) ⊎ PassesLimit m ns e in
      subst Q (append_assoc before a b) (further (before ++ a) b e (subst P was (first before leaves passed)))

  -- want of memory stops anywhere
  pub no_memory : (a : List (Node × Task)) (la : List Leaf) (s0 s1 : Walk) (e : FlatRefused) → e ≡ NoMemory → GoesOver m a la s0 s1 (Err e)
  no_memory a la s0 s1 e h before leaves passed = inl h

  -- nothing to go over
  pub stays : (s : Walk) (done : Unit {0}) → GoesOver m [] [] s s (Ok done)
  stays s done before leaves passed =
      let P : List (Node × Task) → Type 0 = λ ns. HasPassed m ns (leaves ++ []) s in
      let Q : List Leaf → Type 0 = λ ls. HasPassed m before ls s in
      subst P (sym (append-nil before)) (subst Q (sym (append-nil leaves)) passed)

  -- ---- a node

  -- a node at which no limit is passed
  pub enters : (node : Node) (t : Task) (spot : Spot) (s0 s1 : Walk) (instances : ℕ) (limit : Option LimitName) (done : Unit {0})
      → IsSpot m node spot → IsCounted s0.counts s1.counts t spot.depth instances limit → limit ≡ None → instances ≡ saturated (size spot.space)
      → s1.instances ≡ s0.instances → s1.leaves ≡ s0.leaves → GoesOver m ((node, t) ∷ []) [] s0 s1 (Ok done)
  enters node t spot s0 s1 instances limit done at counted none many same_instances same_leaves before leaves passed =
      let around : saturated (size (space_around node)) ≡ instances = ap (λ s. saturated (size s)) (sym at.space) ∙ sym many in
      let all_leaves : leaves ++ [] ≡ leaves = append-nil leaves in
      record {
        counts = λ rest.
            ap (first_past 0 0 0) (append_assoc before ((node, t) ∷ []) rest)
            ∙ (passed.counts ((node, t) ∷ rest)
            ∙ (counted node rest (sym at.depth) around ∙ ap (λ o. limit_at node o (first_after s1.counts rest)) none));
        instances = same_instances ∙ (passed.instances ∙ ap (λ ls. saturated (instances_of ls)) (sym all_leaves));
        rows = same_leaves ∙ (passed.rows ∙ ap (rows_after m 0) (sym all_leaves));
      }

  -- a node at which a limit is passed
  pub refuses : (node : Node) (t : Task) (spot : Spot) (s0 s1 : Walk) (instances : ℕ) (answer : Option LimitName) (limit : LimitName) (path : List ℕ) (more : List (Node × Task)) (la : List Leaf)
      → IsSpot m node spot → IsCounted s0.counts s1.counts t spot.depth instances answer → answer ≡ Some limit → instances ≡ saturated (size spot.space)
      → path ≡ node_path m node → GoesOver m ((node, t) ∷ more) la s0 s1 (Err (Limit path limit))
  refuses node t spot s0 s1 instances answer limit path more la at counted some many named before leaves passed =
      let around : saturated (size (space_around node)) ≡ instances = ap (λ s. saturated (size s)) (sym at.space) ∙ sym many in
      inr (record {
        node = node;
        limit = limit;
        told = ap (λ p. Limit p limit) named;
        first = λ rest.
            ap (first_past 0 0 0) (append_assoc before ((node, t) ∷ more) rest)
            ∙ (passed.counts ((node, t) ∷ (more ++ rest))
            ∙ (counted node (more ++ rest) (sym at.depth) around ∙ ap (λ o. limit_at node o (first_after s1.counts (more ++ rest))) some));
      })

  -- ---- a leaf

  instances_push : (ls : List Leaf) (l : Leaf) → instances_of (ls ++ l ∷ []) ≡ instances_of ls + size l.space
  instances_push [] l = omega arith
  instances_push (k ∷ ls) l = omega (arith, instances_push ls l)

  rows_push : (before : ℕ) (ls : List Leaf) (l : Leaf) → rows_after m before (ls ++ l ∷ []) ≡ rows_after m before ls ++ row_of m (before + instances_of ls) l ∷ []
  rows_push before [] l = let none : before ≡ before + 0 = omega arith in ap (λ n. row_of m n l ∷ []) none
  rows_push before (k ∷ ls) l =
      let regroup : (before + size k.space) + instances_of ls ≡ before + (size k.space + instances_of ls) = omega arith in
      ap (λ rows. row_of m before k ∷ rows) (rows_push (before + size k.space) ls l ∙ ap (λ n. rows_after m (before + size k.space) ls ++ row_of m n l ∷ []) regroup)

  pub narrowed-saturated : (n : ℕ) → narrowed (saturated n) ≡ narrowed n
  narrowed-saturated n = omega arith

  -- one more leaf
  pub pushes : (l : Leaf) (s0 s1 : Walk) (path space : List ℕ) (kind : LeafKind) (done : Unit {0})
      → s1.counts ≡ s0.counts → s1.instances ≡ saturated (s0.instances + saturated (size space))
      → s1.leaves ≡ s0.leaves ++ record { path = path; space = space; base = narrowed s0.instances; count = narrowed (saturated (size space)); kind = kind } ∷ []
      → path ≡ leaf_path m l → space ≡ l.space → kind ≡ kind_of m l → GoesOver m [] (l ∷ []) s0 s1 (Ok done)
  pushes l s0 s1 path space kind done counts instances rows path_is space_is kind_is before leaves passed =
      let made : LeafRow = record { path = path; space = space; base = narrowed s0.instances; count = narrowed (saturated (size space)); kind = kind } in
      let base_is : narrowed s0.instances ≡ narrowed (instances_of leaves) = ap narrowed passed.instances ∙ narrowed-saturated (instances_of leaves) in
      let count_is : narrowed (saturated (size space)) ≡ narrowed (size l.space) = narrowed-saturated (size space) ∙ ap (λ s. narrowed (size s)) space_is in
      let row_is : made ≡ row_of m (instances_of leaves) l = cc in
      record {
        counts = λ rest.
            ap (λ ns. first_past 0 0 0 (ns ++ rest)) (append-nil before) ∙ (passed.counts rest ∙ ap (λ c. first_after c rest) (sym counts));
        instances =
            instances ∙ (ap (λ n. saturated (n + saturated (size space))) passed.instances
            ∙ (saturated-add (instances_of leaves) (size space)
            ∙ (ap (λ s. saturated (instances_of leaves + size s)) space_is ∙ ap saturated (sym (instances_push leaves l)))));
        rows = rows ∙ (ap (λ ls. ls ++ made ∷ []) passed.rows ∙ (ap (λ r. rows_after m 0 leaves ++ r ∷ []) row_is ∙ (ap (λ n. rows_after m 0 leaves ++ row_of m n l ∷ []) (zero_more (instances_of leaves)) ∙ sym (rows_push 0 leaves l))));
      }
    where
      zero_more : (n : ℕ) → n ≡ 0 + n
      zero_more n = omega arith
