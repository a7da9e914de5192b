-- A new instance is entered, and one that has a level is passed.
use Rattle.std.proofs.Common.{◌≡◌, ◌≢◌, ℕ, ◌+◌, ◌<◌, max, List, [], ◌∷◌, ◌++◌, map, take, length, slice_get, set, get_or, Some, refl, sym, ◌∙◌, ap, arith, inl, inr, length-set, subst}
use Rattle.std.specs.List.{IsAmong}
use Rattle.std.proofs.lemmas.Bool.{cases_eq}
use Rattle.std.proofs.lemmas.List.{take_more}
use Rattle.std.proofs.lemmas.Option.{slice_get_within, get_or_from_slice_get}
use Rattle.aol_flat.specs.Level.{above_all}
use Rattle.aol_flat.proofs.Agree.{IsAmong-tail}
use Rattle.aol_flat.proofs.Among.{among_append}
use Rattle.aol_depend.specs.declared.search.Mark.{Mark}
use Rattle.aol_depend.specs.declared.search.Mark.TheVariants.{New, Open, Ranked, Doomed}
use Rattle.aol_depend.specs.declared.search.Visit.{Visit}
use Rattle.aol_depend.specs.Needs.{Rows, row}
use Rattle.aol_depend.specs.Search.{IsNeeded, is_ranked, IsAt}
use Rattle.aol_depend.proofs.Moves.{get-set_same, get-set_other, get-set_stays, above_all-push, Grows, level_stays, open_stay, open_at, among_cases}
use Rattle.aol_depend.proofs.Ranking.{count-set}

entering_grows : (marks : List Mark) (levels : List ℕ) (k : ℕ) → slice_get marks k ≡ Some New → Grows marks (set marks k Open) levels levels
entering_grows marks levels k at = record { keeps = λ j h. (get-set_stays marks k j Open New Ranked at h (λ e. cc), refl) }

-- the visit of an instance that is entered
abbrev pub first_visit : ℕ → Visit
first_visit k = record { instance = k; next = 0; level = 0 }

pub entered : (needs : Rows) (marks : List Mark) (levels : List ℕ) (count k : ℕ) (stack : List Visit) → IsAt needs marks levels count stack → slice_get marks k ≡ Some New → IsNeeded needs (first_visit k) stack
    → IsAt needs (set marks k Open) levels count (first_visit k ∷ stack)
entered needs marks levels count k stack h at needed =
    let g = entering_grows marks levels k at in
    let within : k < length marks = slice_get_within marks k New at in
    let before : (j : ℕ) (m : Mark) → j ≢ k → slice_get (set marks k Open) j ≡ Some m → slice_get marks j ≡ Some m = λ j m ne e. sym (get-set_other marks k j Open ne) ∙ e in
    let here : (j : ℕ) (m : Mark) → j ≡ k → slice_get (set marks k Open) j ≡ Some m → Open ≡ m =
    λ j m e there. (let same : Some Open ≡ Some m = sym (get-set_same marks k Open within) ∙ ap (slice_get (set marks k Open)) (sym e) ∙ there in cc) in
    record {
      within = h.within;
      few = h.few;
      many_marks = length-set marks k Open ∙ h.many_marks;
      many_levels = h.many_levels;
      count = omega (arith, h.count, count-set is_ranked marks k New Open at);
      ranks = λ j there. elim (cases_eq j k) [
        | inl e ↦ absurd (let same = here j Ranked e there in cc)
        | inr ne ↦ level_stays g needs j (h.ranks j (before j Ranked ne there)) refl
      ];
      low = λ j there. elim (cases_eq j k) [
        | inl e ↦ absurd (let same = here j Ranked e there in cc)
        | inr ne ↦ h.low j (before j Ranked ne there)
      ];
      dooms = λ j there. elim (cases_eq j k) [
        | inl e ↦ absurd (let same = here j Doomed e there in cc)
        | inr ne ↦ let r = h.dooms j (before j Doomed ne there) in
            (r.0, r.1, get-set_stays marks k r.0 Open New Doomed at r.2 (λ e. cc))
      ];
      opens = λ j there. elim (cases_eq j k) [
        | inl e ↦ (0, (omega arith, e))
        | inr ne ↦ IsAmong-tail k (map (λ (v : Visit). v.instance) stack) j (h.opens j (before j Open ne there))
      ];
      chain = (
        record {
          entered = get-set_same marks k Open within;
          within = omega arith;
          seen = λ i a. absurd (omega (arith, a.1.0));
          level = refl;
        },
        needed,
        λ u a e. (let same : Some Open ≡ Some New = sym (open_at needs marks levels stack h.chain u a) ∙ ap (slice_get marks) e ∙ at in cc),
        open_stay g needs stack (λ u a. get-set_stays marks k u.instance Open New Open at (open_at needs marks levels stack h.chain u a) (λ e. cc)) h.chain,
      );
    }

-- a row with one element more
pub take_next : (ks : List ℕ) (n k : ℕ) → slice_get ks n ≡ Some k → take (n + 1) ks ≡ take n ks ++ k ∷ []
take_next ks n k at = take_more ks n k (slice_get_within ks n k at) ∙ ap (λ j. take n ks ++ j ∷ []) (get_or_from_slice_get ks n k k at)

-- the visit after one more needed instance
abbrev pub next_visit : Visit → ℕ → Visit
next_visit v level = record { instance = v.instance; next = v.next + 1; level = max v.level (level + 1) }

pub passed : (needs : Rows) (marks : List Mark) (levels : List ℕ) (count k : ℕ) (v : Visit) (vs : List Visit) → IsAt needs marks levels count (v ∷ vs) → slice_get (row needs v.instance) v.next ≡ Some k → slice_get marks k ≡ Some Ranked
    → IsAt needs marks levels count (next_visit v (get_or levels k 0) ∷ vs)
passed needs marks levels count k v vs h next at =
    let more = take_next (row needs v.instance) v.next k next in
    let visit = h.chain.0 in
    record {
      within = h.within;
      few = h.few;
      many_marks = h.many_marks;
      many_levels = h.many_levels;
      count = h.count;
      ranks = h.ranks;
      low = h.low;
      dooms = h.dooms;
      opens = h.opens;
      chain = (
        record {
          entered = visit.entered;
          within = omega (arith, slice_get_within (row needs v.instance) v.next k next);
          seen = λ j a.
              let P : List ℕ → Type 0 = λ ks. IsAmong ks j in
              elim (among_append (take v.next (row needs v.instance)) (k ∷ []) j (subst P more a)) [
                | inl seen ↦ visit.seen j seen
                | inr last ↦ elim (among_cases k [] j last) [
                  | inl e ↦ ap (slice_get marks) e ∙ at
                  | inr none ↦ absurd (omega (arith, none.1.0))
                ]
              ];
          level = ap (λ n. max n (get_or levels k 0 + 1)) visit.level ∙ sym (above_all-push levels (take v.next (row needs v.instance)) k) ∙ sym (ap (above_all levels) more);
        },
        h.chain.1,
        h.chain.2,
        h.chain.3,
      );
    }
