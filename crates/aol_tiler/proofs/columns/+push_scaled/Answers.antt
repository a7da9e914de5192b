use Rattle.std.proofs.Common.{ℕ, ◌≡◌, pos, [], ◌∷◌, length, take, replicate}
use Rattle.std.proofs.lemmas.Result.{err_from_is_err_and}
use mir.Val.{to_z}
use mir.Syntax.{w32}
use Rattle.aol_tiler.specs.Tiler.{scaled}
use Rattle.aol_shape.specs.Vectors.{plus_columns}
use Rattle.aol_tiler.proofs.Extends.{extends_then, extends_stops, scaled_more}
use Rattle.aol_tiler.proofs.columns.+push_scaled.Goals as goal
use Rattle.aol_tiler.proofs.columns.+push_scaled.Goals.{After-push_combined}

-- the columns times their factors are the one that is pushed and the others
scaled_are : (t : ℕ) (c : After-push_combined t)
    → scaled c.args.columns.now c.args.factors.now ≡ plus_columns (take (length c.as_slice.result.now) (replicate 12 (pos 0))) (take 1 c.args.columns.now) (to_z w32 c.in-Some-Some.factor.now ∷ []) ∷ scaled c.in-Some-Some.rest.now c.in-Some-Some.factors.now
scaled_are t c =
    scaled_more _ _ _ _ c.in-Some-Some.column.now _ _ c.in-Some-Some.ensures.cases.0 c.in-Some-Some.ensures'.cases.0 c.as_slice.ensures.entries c.as_slice.ensures.limits.rank c.requires.factors

pub returns-in_err-place-in-Some-Some : goal.returns-in_err-place-in-Some-Some
returns-in_err-place-in-Some-Some t c =
    let p = err_from_is_err_and c.from_residual.result c.from_residual.ensures.1 in
    rw (p.1, p.2, scaled_are t (goal.at.returns-in_err-place-in-Some-Some t c).After-push_combined)
    (extends_stops _ _ _ (plus_columns (take (length c.as_slice.result.now) (replicate 12 (pos 0))) (take 1 c.args.columns.now) (to_z w32 c.in-Some-Some.factor.now ∷ []) ∷ []) _ _ c.in_err-place-in-Some-Some.ensures)

pub returns-in_ok-place-in-Some-Some : goal.returns-in_ok-place-in-Some-Some
returns-in_ok-place-in-Some-Some t c =
    rw (scaled_are t (goal.at.returns-in_ok-place-in-Some-Some t c).After-push_combined)
    (extends_then _ _ _ _ _ (plus_columns (take (length c.as_slice.result.now) (replicate 12 (pos 0))) (take 1 c.args.columns.now) (to_z w32 c.in-Some-Some.factor.now ∷ []) ∷ []) _ _ c.in_ok-place-in-Some-Some.ensures c.push_scaled.ensures)
