-- The counts that are limited, as the code saturates them, against their definitions.
use Rattle.std.proofs.Common.{◌≡◌, ℕ, ◌+◌, ◌*◌, ◌<◌, nat_lt, List, [], ◌∷◌, ◌++◌, length, take, get_or, Bool, true, false, cond, Option, Some, None, sym, ◌∙◌, ap, refl, lit<, add-one}
use Rattle.std.proofs.Math.Seq.{take-suc}
use Rattle.aol_shape.specs.declared.limit.LimitName.{LimitName}
use Rattle.aol_shape.specs.declared.limit.LimitName.TheVariants.{Hierarchy, Nodes, Walk, Work}
use Rattle.aol_shape.specs.Shape.{size}
use Rattle.aol_shape.proofs.Points.{size-append}
use Rattle.aol_model_types.specs.declared.task.Task.{Task}
use Rattle.aol_flat.specs.declared.counts.Counts.{Counts}
use Rattle.aol_flat.specs.Counted.{IsCounted}
use Rattle.aol_flat.specs.Limits.{max_hierarchy, max_node_count, max_walk, max_work, own_walk, own_work, passed, limit_at, first_past}
use Rattle.aol_flat.specs.Node.{Node, space_around}
use Rattle.aol_flat.specs.Saturated.{saturated}
use Rattle.aol_flat.proofs.Saturation.{saturated-add_right, saturated-mul_left, saturated-mul, test_saturated, exact}

-- the points of one entry more
pub points_more : (entries : List ℕ) (i points new entry : ℕ) → i < length entries → points ≡ saturated (size (take i entries)) → entry ≡ get_or entries i 0 → new ≡ saturated (points * entry)
    → new ≡ saturated (size (take (i + 1) entries))
points_more entries i points new entry lt so_far is grown =
    let longer : take (i + 1) entries ≡ take i entries ++ get_or entries i 0 ∷ [] = rw add-one (take-suc entries i 0 lt) in
    let sized : size (take (i + 1) entries) ≡ size (take i entries) * get_or entries i 0 = ap size longer ∙ size-append (take i entries) (get_or entries i 0) in
    grown ∙ (ap (λ n. saturated (n * entry)) so_far ∙ (ap (λ n. saturated (saturated (size (take i entries)) * n)) is
    ∙ (saturated-mul_left (size (take i entries)) (get_or entries i 0) ∙ ap saturated (sym sized))))

-- ---- the tests

-- the first limit by the four tests
abbrev choose : Bool → Bool → Bool → Bool → Option LimitName
choose a b c d = cond a (Some Hierarchy) (cond b (Some Nodes) (cond c (Some Walk) (cond d (Some Work) None)))

choose_none : (a b c d : Bool) → choose a b c d ≡ None → (b ≡ false) × (c ≡ false) × (d ≡ false)
choose_none true b c d h = cc
choose_none false true c d h = cc
choose_none false false true d h = cc
choose_none false false false true h = cc
choose_none false false false false h = (refl, refl, refl)

none_deep : (a b c d : Bool) → choose a b c d ≡ None → a ≡ false
none_deep true b c d h = cc
none_deep false b c d h = refl

module _ (node : Node) (depth n w k : ℕ) (rest : List (Node × Task)) where
  same_passed : passed depth (saturated n) (saturated w) (saturated k) ≡ passed depth n w k
  same_passed =
      let deep : Bool = nat_lt max_hierarchy depth in
      ap (λ b. choose deep b (nat_lt max_walk (saturated w)) (nat_lt max_work (saturated k))) (test_saturated max_node_count n (lit< tt))
      ∙ (ap (λ b. choose deep (nat_lt max_node_count n) b (nat_lt max_work (saturated k))) (test_saturated max_walk w (lit< tt))
      ∙ ap (λ b. choose deep (nat_lt max_node_count n) (nat_lt max_walk w) b) (test_saturated max_work k (lit< tt)))

  exact_where : passed depth (saturated n) (saturated w) (saturated k) ≡ None → (saturated n ≡ n) × (saturated w ≡ w) × (saturated k ≡ k)
  exact_where h =
      let tests = choose_none (nat_lt max_hierarchy depth) (nat_lt max_node_count (saturated n)) (nat_lt max_walk (saturated w)) (nat_lt max_work (saturated k)) h in
      (exact max_node_count n (lit< tt) tests.0, exact max_walk w (lit< tt) tests.1, exact max_work k (lit< tt) tests.2)

  -- saturated counts pass the same limit, and go on as the exact ones
  same_step : limit_at node (passed depth n w k) (first_past n w k rest)
      ≡ limit_at node (passed depth (saturated n) (saturated w) (saturated k)) (first_past (saturated n) (saturated w) (saturated k) rest)
  same_step = go (passed depth (saturated n) (saturated w) (saturated k)) refl
    where
      go : (o : Option LimitName) → passed depth (saturated n) (saturated w) (saturated k) ≡ o
          → limit_at node (passed depth n w k) (first_past n w k rest) ≡ limit_at node o (first_past (saturated n) (saturated w) (saturated k) rest)
      go (Some limit) e = ap (λ o. limit_at node o (first_past n w k rest)) (sym same_passed ∙ e)
      go None e =
          let x = exact_where e in
          ap (λ o. limit_at node o (first_past n w k rest)) (sym same_passed ∙ e)
          ∙ (ap (λ z. first_past z w k rest) (sym x.0) ∙ (ap (λ z. first_past (saturated n) z k rest) (sym x.1) ∙ ap (λ z. first_past (saturated n) (saturated w) z rest) (sym x.2)))

-- a sum with a product of saturated counts
grown_by : (sum own instances around grown part : ℕ) → grown ≡ saturated (part * instances) → part ≡ saturated own → saturated around ≡ instances → saturated (sum + grown) ≡ saturated (sum + own * around)
grown_by sum own instances around grown part is own_is many =
    let product : grown ≡ saturated (own * around) =
    is ∙ (ap (λ p. saturated (p * instances)) own_is ∙ (ap (λ p. saturated (saturated own * p)) (sym many) ∙ saturated-mul own around)) in
    ap (λ g. saturated (sum + g)) product ∙ saturated-add_right sum (own * around)

-- what the code counts for a node is what the definition does
pub counted : (old new : Counts) (t : Task) (depth instances : ℕ) (limit : Option LimitName) (walk_part work_part walk_grown work_grown : ℕ)
    → new.nodes ≡ saturated (old.nodes + 1)
    → walk_part ≡ saturated (own_walk t) → walk_grown ≡ saturated (walk_part * instances) → new.walk ≡ saturated (old.walk + walk_grown)
    → work_part ≡ saturated (own_work t) → work_grown ≡ saturated (work_part * instances) → new.work ≡ saturated (old.work + work_grown)
    → limit ≡ passed depth new.nodes new.walk new.work → IsCounted old new t depth instances limit
counted old new t depth instances limit walk_part work_part walk_grown work_grown nodes own_w mul_w walk own_k mul_k work is node rest deep many =
    let around : ℕ = size (space_around node) in
    let n : ℕ = old.nodes + 1 in
    let w : ℕ = old.walk + own_walk t * around in
    let k : ℕ = old.work + own_work t * around in
    let walk_is : new.walk ≡ saturated w = walk ∙ grown_by old.walk (own_walk t) instances around walk_grown walk_part mul_w own_w many in
    let work_is : new.work ≡ saturated k = work ∙ grown_by old.work (own_work t) instances around work_grown work_part mul_k own_k many in
    let tested : passed (length node + 1) (saturated n) (saturated w) (saturated k) ≡ limit =
    ap (λ z. passed z (saturated n) (saturated w) (saturated k)) deep ∙ (ap (λ z. passed depth z (saturated w) (saturated k)) (sym nodes)
    ∙ (ap (λ z. passed depth new.nodes z (saturated k)) (sym walk_is) ∙ (ap (λ z. passed depth new.nodes new.walk z) (sym work_is) ∙ sym is))) in
    same_step node (length node + 1) n w k rest
    ∙ (ap (λ o. limit_at node o (first_past (saturated n) (saturated w) (saturated k) rest)) tested
    ∙ (ap (λ z. limit_at node limit (first_past z (saturated w) (saturated k) rest)) (sym nodes)
    ∙ (ap (λ z. limit_at node limit (first_past new.nodes z (saturated k) rest)) (sym walk_is) ∙ ap (λ z. limit_at node limit (first_past new.nodes new.walk z rest)) (sym work_is))))
