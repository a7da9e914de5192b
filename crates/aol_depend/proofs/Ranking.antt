-- The last open instance gets its level.
use Rattle.std.proofs.Common.{◌≡◌, ◌≢◌, ℕ, ◌+◌, ◌<◌, ◌≤◌, cond, Bool, List, ◌∷◌, map, take, length, slice_get, set, get_or, Some, sym, ◌∙◌, ap, arith, inl, inr, length-set, get_or-set_other, get_or-set_same, subst}
use Rattle.std.specs.List.{IsAmong, count_by}
use Rattle.std.proofs.lemmas.Bool.{cases_eq}
use Rattle.std.proofs.lemmas.List.{take_all}
use Rattle.std.proofs.lemmas.List.Sums.{sum_by-set}
use Rattle.std.proofs.lemmas.Option.{slice_get_within, get_or_from_slice_get}
use Rattle.aol_flat.specs.Level.{above_all}
use Rattle.aol_depend.specs.declared.search.Mark.{Mark}
use Rattle.aol_depend.specs.declared.search.Mark.TheVariants.{Open, Ranked, Doomed}
use Rattle.aol_depend.specs.declared.search.Visit.{Visit}
use Rattle.aol_depend.specs.Needs.{Rows, row}
use Rattle.aol_depend.specs.Search.{AreRanked, HasLevel, is_ranked, IsAt}
use Rattle.aol_depend.proofs.Moves.{get-set_same, get-set_other, get-set_stays, above_all-low, Grows, level_stays, level_same, open_stay, open_at, among_cases, ranked_stay}

-- how many are marked so, after one mark is changed
pub count-set : (p : Mark → Bool) (marks : List Mark) (i : ℕ) (old new : Mark) → slice_get marks i ≡ Some old → count_by p (set marks i new) + cond (p old) 1 0 ≡ count_by p marks + cond (p new) 1 0
count-set p marks i old new at =
    let same : get_or marks i old ≡ old = get_or_from_slice_get marks i old old at in
    let e = sum_by-set (λ (m : Mark). cond (p m) 1 0) marks i new old (slice_get_within marks i old at) in
    ap (λ (m : Mark). count_by p (set marks i new) + cond (p m) 1 0) (sym same) ∙ e

-- its new marks and levels keep the others'
pub ranking_grows : (marks : List Mark) (levels : List ℕ) (i n : ℕ) → slice_get marks i ≡ Some Open → Grows marks (set marks i Ranked) levels (set levels i n)
ranking_grows marks levels i n at = record {
  keeps = λ j h.
      let ne : j ≢ i = λ e. (let same : Some Open ≡ Some Ranked = sym at ∙ ap (slice_get marks) (sym e) ∙ h in cc) in
      (get-set_other marks i j Ranked ne ∙ h, get_or-set_other levels i j n 0 ne);
}

pub ranked : (needs : Rows) (marks : List Mark) (levels : List ℕ) (count : ℕ) (v : Visit) (vs : List Visit) → IsAt needs marks levels count (v ∷ vs) → length (row needs v.instance) ≤ v.next
    → IsAt needs (set marks v.instance Ranked) (set levels v.instance v.level) (count + 1) vs
ranked needs marks levels count v vs h all =
    let i = v.instance in
    let visit = h.chain.0 in
    let g = ranking_grows marks levels i v.level visit.entered in
    let within : i < length marks = slice_get_within marks i Open visit.entered in
    let whole : take v.next (row needs i) ≡ row needs i = take_all v.next (row needs i) all in
    let seen : AreRanked marks (row needs i) = λ k a. visit.seen k (let P : List ℕ → Type 0 = λ ks. IsAmong ks k in subst P (sym whole) a) in
    let level : get_or (set levels i v.level) i 0 ≡ above_all levels (row needs i) =
    get_or-set_same levels i v.level 0 (omega (arith, h.many_levels, h.many_marks)) ∙ visit.level ∙ ap (above_all levels) whole in
    record {
      within = h.within;
      few = h.few;
      many_marks = length-set marks i Ranked ∙ h.many_marks;
      many_levels = length-set levels i v.level ∙ h.many_levels;
      count = omega (arith, h.count, count-set is_ranked marks i Open Ranked visit.entered);
      ranks = λ j at. elim (cases_eq j i) [
        | inl e ↦ let P : ℕ → Type 0 = λ n. HasLevel needs (set marks i Ranked) (set levels i v.level) n in
            subst P (sym e) (record { needed = ranked_stay g (row needs i) seen; level = level ∙ sym (level_same g (row needs i) seen) })
        | inr ne ↦ level_stays g needs j (h.ranks j (sym (get-set_other marks i j Ranked ne) ∙ at)) (get_or-set_other levels i j v.level 0 ne)
      ];
      low = λ j at. elim (cases_eq j i) [
        | inl e ↦ let low = above_all-low levels (row needs i) count (λ k a. h.low k (seen k a)) in
            let here : get_or (set levels i v.level) j 0 ≡ above_all levels (row needs i) = ap (λ n. get_or (set levels i v.level) n 0) e ∙ level in
            omega (arith, low, here)
        | inr ne ↦ let low = h.low j (sym (get-set_other marks i j Ranked ne) ∙ at) in omega (arith, low, get_or-set_other levels i j v.level 0 ne)
      ];
      dooms = λ j at. elim (cases_eq j i) [
        | inl e ↦ absurd (let same : Some Ranked ≡ Some Doomed = sym (get-set_same marks i Ranked within) ∙ ap (slice_get (set marks i Ranked)) (sym e) ∙ at in cc)
        | inr ne ↦ let r = h.dooms j (sym (get-set_other marks i j Ranked ne) ∙ at) in
            (r.0, r.1, get-set_stays marks i r.0 Ranked Open Doomed visit.entered r.2 (λ e. cc))
      ];
      opens = λ j at. elim (cases_eq j i) [
        | inl e ↦ absurd (let same : Some Ranked ≡ Some Open = sym (get-set_same marks i Ranked within) ∙ ap (slice_get (set marks i Ranked)) (sym e) ∙ at in cc)
        | inr ne ↦ elim (among_cases i (map (λ (u : Visit). u.instance) vs) j (h.opens j (sym (get-set_other marks i j Ranked ne) ∙ at))) [
          | inl e ↦ absurd (ne e)
          | inr later ↦ later
        ]
      ];
      chain = open_stay g needs vs (λ u a. get-set_other marks i u.instance Ranked (h.chain.2 u a) ∙ open_at needs marks levels vs h.chain.3 u a) h.chain.3;
    }
