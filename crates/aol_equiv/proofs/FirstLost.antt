-- Reads that are kept, number by number.
use Rattle.std.proofs.Common.{◌≡◌, ℕ, zero, suc, ◌<◌, List, [], ◌∷◌, length, get_or, Bool, true, false, Some, slice_get, sym, ◌∙◌, ap, refl, arith, subst}
use Rattle.std.specs.Prelude.{IsTrue, ◌↔◌}
use Rattle.aol_flat.specs.declared.view.End.{End}
use Rattle.aol_flat.specs.declared.view.Read.{Read}
use Rattle.aol_equiv.specs.declared.compare.Sides.{Sides}
use Rattle.aol_equiv.specs.Compared.{IsKeptAt, IsFirstAt}
use Rattle.aol_equiv.specs.Leads.{end_of, IsKeptRead}

got_read : (xs : List Read) (k : ℕ) (d : Read) → k < length xs → slice_get xs k ≡ Some (get_or xs k d)
got_read [] k d lt = absurd (omega (arith, lt))
got_read (x ∷ xs) zero d lt = refl
got_read (x ∷ xs) (suc k) d lt = got_read xs k d (omega (arith, lt))

some_same : {X : Type 0} (a b : X) → Some a ≡ Some b → a ≡ b
some_same a b h = cc

module _ (s : Sides) (taken before : List Read) (n : ℕ) (d d' : Read) (required : End) (lt : n < length taken) (lt' : n < length before) (ends : end_of s.old_ends.now (get_or before n d') ≡ Some required) where
  pub kept_here : IsKeptRead s.new_ends.now s.old_of.now (get_or taken n d) required → IsKeptAt s taken before n
  kept_here kept r q e hr hq he =
      let read : get_or taken n d ≡ r = some_same (get_or taken n d) r (sym (got_read taken n d lt) ∙ hr) in
      let old : get_or before n d' ≡ q = some_same (get_or before n d') q (sym (got_read before n d' lt') ∙ hq) in
      let same_end : required ≡ e = some_same required e (sym ends ∙ (ap (end_of s.old_ends.now) old ∙ he)) in
      let P : Read → Type 0 = λ x. end_of s.new_ends.now x ≡ Some kept.0 in
      (kept.0, subst P read kept.1, kept.2 ∙ same_end)

  pub here_kept : IsKeptAt s taken before n → IsKeptRead s.new_ends.now s.old_of.now (get_or taken n d) required
  here_kept kept = kept (get_or taken n d) (get_or before n d') required (got_read taken n d lt) (got_read before n d' lt') ends

  pub first_here : (b : Bool) → b ≡ false → (IsTrue b ↔ IsKeptRead s.new_ends.now s.old_of.now (get_or taken n d) required) → ((k : ℕ) → k < n → IsKeptAt s taken before k) → IsFirstAt s taken before n required
  first_here b off told earlier = record {
    inside = lt;
    fails = λ kept. let on : b ≡ true = told.1 (here_kept kept) in cc;
    earlier = earlier;
    read = get_or before n d';
    at = got_read before n d' lt';
    ends = ends;
  }
