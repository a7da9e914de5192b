-- Points along the last index.
use Rattle.std.proofs.Common.{◌≡◌, ℕ, suc, ◌+◌, ◌<◌, List, [], ◌∷◌, ◌++◌, length, sym, ◌∙◌, ap, refl, arith, subst}
use Rattle.std.proofs.lemmas.List.{length-append}
use Rattle.aol_shape.specs.Shape.{IsPointOf, size, rank, point_at}
use Rattle.aol_shape.proofs.Points.{point_at-is, point_at-rank, rank-lt-size, rank-point_at}
use Rattle.aol_shape.proofs.Steps.{AreApart, point_append, point_before, point_front}
use Rattle.aol_trail.specs.Further.{further}
use Rattle.aol_trail.proofs.Furthers.{rank_further}
use Rattle.aol_model_types.specs.declared.document.Model.{Model}
use Rattle.aol_flat.specs.LeafCursor.{IsAlong}

further_last : (xs : List ℕ) (x i : ℕ) → further i (xs ++ x ∷ []) ≡ xs ++ (x + i) ∷ []
further_last [] x i = refl
further_last (y ∷ []) x i = refl
further_last (y ∷ (z ∷ xs)) x i = ap (λ zs. y ∷ zs) (further_last (z ∷ xs) x i)

-- so many points are left along the last index
pub record IsLeft (shape point : List ℕ) (e i : ℕ) : Type 0 where
  pub low : i < e
  pub inside : (j : ℕ) → i + j < e → IsPointOf shape (further j point)
  pub rank_is : (j : ℕ) → rank shape (further j point) ≡ rank shape point + j

pub is_left : {shape point es ps : List ℕ} {e i : ℕ} → AreApart shape point es ps e i → IsLeft shape point e i
is_left {shape} {point} {es} {ps} {e} {i} apart =
    let here : IsPointOf (es ++ e ∷ []) (ps ++ i ∷ []) = subst (λ p. IsPointOf (es ++ e ∷ []) p) apart.point_is (subst (λ s. IsPointOf s point) apart.shape_is apart.inside) in
    let some : 0 < length point = omega (arith, ap (length {A = ℕ}) apart.point_is, length-append ps (i ∷ [])) in
    record {
      low = (point_front es ps e i here).1;
      inside = λ j less.
          let moved : further j point ≡ ps ++ (i + j) ∷ [] = ap (further j) apart.point_is ∙ further_last ps i j in
          subst (IsPointOf shape) (sym moved) (subst (λ s. IsPointOf s (ps ++ (i + j) ∷ [])) (sym apart.shape_is) (point_append es ps e (i + j) (point_before apart) less));
      rank_is = λ j. rank_further shape point j apart.inside some;
    }

-- an instance further along
pub along_further : (m : Model) (leaf number : ℕ) (at to : List ℕ) (i : ℕ) (a : IsAlong m leaf number at) → IsPointOf a.of_leaf.space to → rank a.of_leaf.space to ≡ rank a.of_leaf.space at + i → IsAlong m leaf (number + i) to
along_further m leaf number at to i a inside ranks =
    let space = a.of_leaf.space in
    let here : rank space at ≡ number = ap (rank space) a.is ∙ rank-point_at space number a.within in
    let there : rank space to ≡ number + i = ranks ∙ ap (λ n. n + i) here in
    record {
      of_leaf = a.of_leaf;
      listed = a.listed;
      within = subst (λ n. n < size space) there (rank-lt-size space to inside);
      is = sym (point_at-rank space to inside) ∙ ap (point_at space) there;
    }
