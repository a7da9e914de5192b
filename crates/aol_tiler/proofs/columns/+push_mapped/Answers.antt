use Rattle.std.proofs.Common.{ℕ, ◌≡◌, ℤ, List, [], ◌∷◌, map, sym, ◌∙◌, ap}
use Rattle.std.proofs.lemmas.Result.{err_from_is_err_and}
use Rattle.aol_shape.specs.Vectors.{plus_columns}
use Rattle.aol_tiler.proofs.Extends.{extends_then, extends_stops}
use Rattle.aol_tiler.proofs.columns.+push_mapped.Goals as goal
use Rattle.aol_tiler.proofs.columns.+push_mapped.Goals.{After-push_combined}

-- the vectors are the one whose sum is pushed and the others
vectors_are : (t : ℕ) (c : After-push_combined t) → c.args.vectors.now ≡ c.as_slice.result.now ∷ c.in-Some.vectors.now
vectors_are t c = c.in-Some.ensures.cases.0 ∙ ap (λ (v : List ℤ). v ∷ c.in-Some.vectors.now) (sym c.as_slice.ensures.entries)

pub returns-in_err-place-in-Some : goal.returns-in_err-place-in-Some
returns-in_err-place-in-Some t c =
    let p = err_from_is_err_and c.from_residual.result c.from_residual.ensures.1 in
    rw (p.1, p.2, vectors_are t (goal.at.returns-in_err-place-in-Some t c).After-push_combined) (extends_stops _ _ _ (plus_columns c.args.zeros.now c.args.columns.now c.as_slice.result.now ∷ []) (map (plus_columns c.args.zeros.now c.args.columns.now) c.in-Some.vectors.now) _ c.in_err-place-in-Some.ensures)

pub returns-in_ok-place-in-Some : goal.returns-in_ok-place-in-Some
returns-in_ok-place-in-Some t c =
    rw (vectors_are t (goal.at.returns-in_ok-place-in-Some t c).After-push_combined)
    (extends_then _ _ _ _ _ (plus_columns c.args.zeros.now c.args.columns.now c.as_slice.result.now ∷ []) (map (plus_columns c.args.zeros.now c.args.columns.now) c.in-Some.vectors.now) _ c.in_ok-place-in-Some.ensures c.push_mapped.ensures)
