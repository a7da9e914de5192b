-- Limits that code tells, and lists that it makes member by member.
use Rattle.std.proofs.Common.{◌≡◌, ℕ, ◌≤◌, Bool, true, false, cond, List, [], ◌∷◌, ◌++◌, length, map, nat_lt, Option, Some, None, is_some, Ok, Err, ◌∙◌, ap, refl}
use Rattle.std.proofs.lemmas.Bool.{lt-ltb, le-ltb}
use Rattle.aol_shape.specs.declared.limit.LimitName.{LimitName}
use Rattle.aol_shape.specs.declared.limit.LimitName.TheVariants as limits
use Rattle.aol_shape.specs.declared.shape.ShapeRefused.TheVariants as refused
use Rattle.aol_shape.specs.Joined.{Joins}
use Rattle.aol_shape.specs.Lists.{first_some, or_else}
use Rattle.aol_shape.specs.Shape.{size, max_rank, max_points}
use Rattle.aol_expr_tree.specs.declared.port.Port.{Port}
use Rattle.aol_model_types.specs.declared.task.Task.{Task}
use Rattle.aol_model_types.specs.declared.task.TilerOn.{TilerOn}
use Rattle.aol_model_types.specs.Rules.{port_shape}
use Rattle.aol_change.specs.Change.{joined_limit}
use Rattle.aol_change.specs.Blocks.{ports_over, tilers_on, shapes_limit, shape_in}

by_tests : (a b : Bool) (x y : Bool) → x ≡ a → y ≡ b → cond x (Some limits.Rank) (cond y (Some limits.Points) None) ≡ cond a (Some limits.Rank) (cond b (Some limits.Points) None)
by_tests a b x y e f = ap (λ t. cond t (Some limits.Rank) (cond y (Some limits.Points) None)) e ∙ ap (λ t. cond a (Some limits.Rank) (cond t (Some limits.Points) None)) f

pub joined_ok : (s first second : List ℕ) → Joins (Ok s) first second → joined_limit first second ≡ None
joined_ok s first second h =
    let rank : length (first ++ second) ≤ max_rank = h.1.rank in
    let points : size (first ++ second) ≤ max_points = h.1.points in
    by_tests false false (nat_lt max_rank (length (first ++ second))) (nat_lt max_points (size (first ++ second))) (le-ltb _ _ rank) (le-ltb _ _ points)

pub joined_rank : (first second : List ℕ) → Joins (Err refused.Rank) first second → joined_limit first second ≡ Some limits.Rank
joined_rank first second h = by_tests true (nat_lt max_points (size (first ++ second))) (nat_lt max_rank (length (first ++ second))) (nat_lt max_points (size (first ++ second))) (lt-ltb _ _ h) refl

pub joined_points : (first second : List ℕ) → Joins (Err refused.Points) first second → joined_limit first second ≡ Some limits.Points
joined_points first second h =
    by_tests false true (nat_lt max_rank (length (first ++ second))) (nat_lt max_points (size (first ++ second))) (le-ltb _ _ h.0) (lt-ltb _ _ h.1)

-- one more tiler in front
pub ports_more : (inner : Option Task) (block : List ℕ) (ports : List Port) (o : TilerOn) (os : List TilerOn)
    → ports_over inner block (tilers_on ports (o ∷ os)) ≡ ports_over inner block (tilers_on ports (o ∷ [])) ++ ports_over inner block (tilers_on ports os)
ports_more inner block ports o os = go (is_some (port_shape ports o.inner))
  where
    go : (b : Bool) → ports_over inner block (cond b (o ∷ tilers_on ports os) (tilers_on ports os)) ≡ ports_over inner block (cond b (o ∷ []) []) ++ ports_over inner block (tilers_on ports os)
    go true = refl
    go false = refl

pub shapes_more : (inner : Option Task) (block : List ℕ) (ports : List Port) (o : TilerOn) (os : List TilerOn)
    → shapes_limit inner block (tilers_on ports (o ∷ os)) ≡ or_else (shapes_limit inner block (tilers_on ports (o ∷ []))) (shapes_limit inner block (tilers_on ports os))
shapes_more inner block ports o os = go (is_some (port_shape ports o.inner))
  where
    of_one : (x : Option LimitName) (xs : List (Option LimitName)) → first_some (x ∷ xs) ≡ or_else (first_some (x ∷ [])) (first_some xs)
    of_one None xs = refl
    of_one (Some l) xs = refl

    go : (b : Bool) → shapes_limit inner block (cond b (o ∷ tilers_on ports os) (tilers_on ports os)) ≡ or_else (shapes_limit inner block (cond b (o ∷ []) [])) (shapes_limit inner block (tilers_on ports os))
    go true = of_one (joined_limit block (shape_in inner o.inner)) (map (λ (o : TilerOn). joined_limit block (shape_in inner o.inner)) (tilers_on ports os))
    go false = refl
