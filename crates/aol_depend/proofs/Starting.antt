-- A search that has not begun.
use Rattle.std.proofs.Common.{◌≡◌, ◌<◌, ◌^◌, ℕ, zero, suc, List, [], length, replicate, slice_get, Some, arith, refl, cond}
use Rattle.std.proofs.lemmas.List.{length-replicate}
use Rattle.std.proofs.lemmas.List.Folds.{sum_by-replicate}
use Rattle.aol_depend.specs.declared.search.Mark.{Mark}
use Rattle.aol_depend.specs.declared.search.Mark.TheVariants.{New, Open, Ranked, Doomed}
use Rattle.aol_depend.specs.declared.search.Visit.{Visit}
use Rattle.aol_depend.specs.Needs.{Rows, AreWithin}
use Rattle.aol_depend.specs.Search.{IsAt, is_ranked}
use Rattle.aol_depend.proofs.Moves.{at_equal}

-- each element of a list of one element is that one
all_same : {X : Type 0} (n : ℕ) (x y : X) (j : ℕ) → slice_get (replicate n x) j ≡ Some y → x ≡ y
all_same zero x y j h = cc
all_same (suc n) x y zero h = cc
all_same (suc n) x y (suc j) h = all_same n x y j h

pub started : (needs : Rows) (marks : List Mark) (levels : List ℕ) (path : List Visit) → AreWithin needs → length needs < 2 ^ 32 → marks ≡ replicate (length needs) New → levels ≡ replicate (length needs) 0 → path ≡ []
    → IsAt needs marks levels 0 path
started needs marks levels path within few made depths none =
    let n = length needs in
    let h : IsAt needs (replicate n New) (replicate n 0) 0 [] = record {
      within = within;
      few = few;
      many_marks = length-replicate n New;
      many_levels = length-replicate n 0;
      count = omega (arith, sum_by-replicate (λ m. cond (is_ranked m) 1 0) n New);
      ranks = λ j is. absurd (let e = all_same n New Ranked j is in cc);
      low = λ j is. absurd (let e = all_same n New Ranked j is in cc);
      dooms = λ j is. absurd (let e = all_same n New Doomed j is in cc);
      opens = λ j is. absurd (let e = all_same n New Open j is in cc);
      chain = tt;
    } in
    at_equal h made depths refl none
