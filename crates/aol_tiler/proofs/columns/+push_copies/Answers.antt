use Rattle.std.proofs.Common.{ℕ, ◌≡◌, ℤ, List, [], ◌∷◌, sym, ◌∙◌, ap}
use Rattle.std.proofs.lemmas.Result.{err_from_is_err_and}
use Rattle.aol_tiler.proofs.Extends.{extends_then, extends_stops}
use Rattle.aol_tiler.proofs.columns.+push_copies.Goals as goal
use Rattle.aol_tiler.proofs.columns.+push_copies.Goals.{After-push_combined}

-- the columns are the one that is pushed and the others
columns_are : (t : ℕ) (c : After-push_combined t) → c.args.columns.now ≡ c.as_slice.result.now ∷ c.in-Some.columns.now
columns_are t c = c.in-Some.ensures.cases.0 ∙ ap (λ (v : List ℤ). v ∷ c.in-Some.columns.now) (sym c.as_slice.ensures.entries)

pub returns-in_err-place-in-Some : goal.returns-in_err-place-in-Some
returns-in_err-place-in-Some t c =
    let p = err_from_is_err_and c.from_residual.result c.from_residual.ensures.1 in
    rw (p.1, p.2, columns_are t (goal.at.returns-in_err-place-in-Some t c).After-push_combined) (extends_stops _ _ _ (c.as_slice.result.now ∷ []) c.in-Some.columns.now _ c.in_err-place-in-Some.ensures)

pub returns-in_ok-place-in-Some : goal.returns-in_ok-place-in-Some
returns-in_ok-place-in-Some t c =
    rw (columns_are t (goal.at.returns-in_ok-place-in-Some t c).After-push_combined)
    (extends_then _ _ _ _ _ (c.as_slice.result.now ∷ []) c.in-Some.columns.now _ c.in_ok-place-in-Some.ensures c.push_copies.ensures)
