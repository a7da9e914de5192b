-- Rows of writers, one after another.
use Rattle.std.proofs.Common.{◌≡◌, ◌+◌, ◌<◌, ℕ, List, [], ◌∷◌, ◌++◌, ap, sym, ◌∙◌, refl, Option, Some, None, slice_get, take, length, get_or, append_assoc}
use Rattle.std.proofs.lemmas.List.{take_more}
use Rattle.aol_flat.specs.declared.view.Read.{Read}
use Rattle.aol_flat.specs.declared.view.Read.TheVariants.{Cell, Const}
use Rattle.aol_flat.specs.Level.{with_writer, writers_read}

-- the writers of two lists of reads
pub writers-append : (list : List (Option ℕ)) (rs ss : List Read) → writers_read list (rs ++ ss) ≡ writers_read list rs ++ writers_read list ss
writers-append list [] ss = refl
writers-append list (Const n ∷ rs) ss = writers-append list rs ss
writers-append list (Cell c ∷ rs) ss = go (slice_get list c) (writers-append list rs ss)
  where
    go : (o : Option (Option ℕ)) → writers_read list (rs ++ ss) ≡ writers_read list rs ++ writers_read list ss
        → with_writer o (writers_read list (rs ++ ss)) ≡ with_writer o (writers_read list rs) ++ writers_read list ss
    go None later = later
    go (Some None) later = later
    go (Some (Some k)) later = ap (λ ks. k ∷ ks) later

-- the writers of one read more, after some before
pub writers_more : (list : List (Option ℕ)) (rs : List Read) (i : ℕ) (d : Read) (before now after : List ℕ) → i < length rs → now ≡ before ++ writers_read list (take i rs) → after ≡ now ++ writers_read list (get_or rs i d ∷ [])
    → after ≡ before ++ writers_read list (take (i + 1) rs)
writers_more list rs i d before now after within is next =
    next ∙ ap (λ ks. ks ++ writers_read list (get_or rs i d ∷ [])) is ∙ append_assoc before (writers_read list (take i rs)) (writers_read list (get_or rs i d ∷ []))
    ∙ ap (λ ks. before ++ ks) (sym (writers-append list (take i rs) (get_or rs i d ∷ []))) ∙ ap (λ ss. before ++ writers_read list ss) (sym (take_more rs i d within))
