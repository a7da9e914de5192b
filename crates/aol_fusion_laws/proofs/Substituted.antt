-- A tiler at the repetitions that another gives fits where that one leads.
use Rattle.std.proofs.Common.{◌≡◌, ℕ, true, ◌==◌, ℤ, pos, List, [], ◌∷◌, ◌++◌, length, map, ◌∙◌, refl, arith}
use Rattle.std.specs.List.{list_all}
use Rattle.std.proofs.lemmas.Bool.{eq-eqb}
use Rattle.std.proofs.lemmas.List.{length-append, length-map}
use Rattle.std.proofs.lemmas.List.Folds.{list_all-append}
use Rattle.aol_shape.specs.Vectors.{plus_columns}
use Rattle.aol_tiler.specs.Matrices.{TilerOf}
use Rattle.aol_tiler.specs.Tiler.{fits, substituted, zero_like}
use Rattle.aol_tiler.proofs.Entries.{length-plus_columns}
use Rattle.aol_flat.proofs.Truth.{both}
use Rattle.aol_change.proofs.TilerForms.{fits_by, by_fits}

columns_even : (zeros : List ℤ) (cs vs : List (List ℤ)) (n : ℕ) → length zeros ≡ n → list_all (λ c. length c == n) (map (plus_columns zeros cs) vs) ≡ true
columns_even zeros cs [] n h = refl
columns_even zeros cs (v ∷ vs) n h =
    both (length (plus_columns zeros cs v) == n) (list_all (λ c. length c == n) (map (plus_columns zeros cs) vs))
    (eq-eqb (length (plus_columns zeros cs v)) n (length-plus_columns zeros cs v ∙ h)) (columns_even zeros cs vs n h)

pub substituted_fits : (t by : TilerOf) (array middle space block pattern : List ℕ) → fits t array middle pattern ≡ true → fits by middle space block ≡ true
    → fits (substituted t by) array space (block ++ pattern) ≡ true
substituted_fits t by array middle space block pattern h k =
    let f = fits_by t array middle pattern h in
    let g = fits_by by middle space block k in
    let zeros : length (zero_like t.origin) ≡ length array = length-map t.origin (λ _. pos 0) ∙ f.origin in
    by_fits (substituted t by) array space (block ++ pattern)
    (record {
      origin = length-plus_columns t.origin t.paving by.origin ∙ f.origin;
      in_paving = columns_even (zero_like t.origin) t.paving by.paving (length array) zeros;
      in_fitting = list_all-append (λ c. length c == length array) (map (plus_columns (zero_like t.origin) t.paving) by.fitting) t.fitting
          ∙ both (list_all (λ c. length c == length array) (map (plus_columns (zero_like t.origin) t.paving) by.fitting)) (list_all (λ c. length c == length array) t.fitting)
          (columns_even (zero_like t.origin) t.paving by.fitting (length array) zeros) f.in_fitting;
      paving = length-map by.paving (plus_columns (zero_like t.origin) t.paving) ∙ g.paving;
      fitting = omega (arith, length-append (map (plus_columns (zero_like t.origin) t.paving) by.fitting) t.fitting, length-map by.fitting (plus_columns (zero_like t.origin) t.paving), length-append block pattern, f.fitting, g.fitting);
    })
