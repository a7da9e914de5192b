-- What one step of a search owes to the calls that it makes, and what it leaves.
use Rattle.std.proofs.Common.{◌≡◌, ℕ, zero, suc, ◌+◌, ◌^◌, ◌<◌, ◌≤◌, List, [], ◌∷◌, length, slice_get, set, Some, None, sym, ◌∙◌, ap, arith, inl, inr, length-set, subst}
use Rattle.std.specs.List.{IsAmong}
use Rattle.std.proofs.lemmas.Bool.{cases_eq}
use Rattle.std.proofs.lemmas.List.Sums.{count_by-le-length}
use Rattle.std.proofs.lemmas.Option.{slice_get_within}
use Rattle.aol_flat.proofs.Among.{get_among, map_among}
use Rattle.aol_depend.specs.declared.search.Mark.{Mark}
use Rattle.aol_depend.specs.declared.search.Mark.TheVariants.{New, Open, Ranked}
use Rattle.aol_depend.specs.declared.search.Visit.{Visit}
use Rattle.aol_depend.specs.Needs.{Rows, row}
use Rattle.aol_depend.specs.Search.{is_ranked, IsAt, KeepsOld, doomed, steps_left}
use Rattle.aol_depend.proofs.Moves.{get-set_same, get-set_other, open_named}
use Rattle.aol_depend.proofs.Ranking.{count-set}
use Rattle.aol_depend.proofs.Dooming.{names, doomed_back}

-- the last open instance is one of them
pub visit_within : {needs : Rows} {marks : List Mark} {levels : List ℕ} {count : ℕ} {v : Visit} {vs : List Visit} → IsAt needs marks levels count (v ∷ vs) → v.instance < length needs
visit_within {needs} {marks} {levels} {count} {v} {vs} h = omega (arith, slice_get_within marks v.instance Open h.chain.0.entered, h.many_marks)

-- there is room for one more level
pub level_fits : {needs : Rows} {marks : List Mark} {levels : List ℕ} {count : ℕ} {v : Visit} {vs : List Visit} → IsAt needs marks levels count (v ∷ vs) → count + 1 < 2 ^ 32
level_fits {needs} {marks} {levels} {count} {v} {vs} h =
    let one = count-set is_ranked marks v.instance Open Ranked h.chain.0.entered in
    omega (arith, one, h.count, count_by-le-length is_ranked (set marks v.instance Ranked), length-set marks v.instance Ranked, h.many_marks, h.few)

-- what it needs is one of them too
pub needed_within : {needs : Rows} {marks : List Mark} {levels : List ℕ} {count : ℕ} {v : Visit} {vs : List Visit} {k : ℕ} → IsAt needs marks levels count (v ∷ vs) → slice_get (row needs v.instance) v.next ≡ Some k → k < length needs
needed_within {needs} {marks} {levels} {count} {v} {vs} {k} h next = h.within v.instance k (get_among (row needs v.instance) v.next k next)

-- no more is needed where there is nothing at the next place
pub none_left : (ks : List ℕ) (n : ℕ) → slice_get ks n ≡ None → length ks ≤ n
none_left [] n h = omega arith
none_left (k ∷ ks) zero h = absurd cc
none_left (k ∷ ks) (suc n) h = let later = none_left ks n h in omega (arith, later)

-- a mark that is not new is set, so nothing becomes new
pub set_keeps : (marks : List Mark) (i : ℕ) (old m : Mark) → slice_get marks i ≡ Some old → (m ≡ New → ⊥) → KeepsOld marks (set marks i m)
set_keeps marks i old m at ne j is =
    elim (cases_eq j i) [
      | inl e ↦ absurd (ne (let same : Some m ≡ Some New = sym (get-set_same marks i m (slice_get_within marks i old at)) ∙ ap (slice_get (set marks i m)) (sym e) ∙ is in cc))
      | inr other ↦ sym (get-set_other marks i j m other) ∙ is
    ]

pub doomed_keeps : (marks : List Mark) (vs : List Visit) → KeepsOld marks (doomed marks vs)
doomed_keeps marks vs j is = elim (doomed_back marks vs j New is) [ inl before ↦ before | inr r ↦ absurd (let e = r.0 in cc) ]

pub keeps_equal : (marks : List Mark) {others made : List Mark} → KeepsOld marks made → others ≡ made → KeepsOld marks others
keeps_equal marks {others} {made} h e = let P : List Mark → Type 0 = λ ms. KeepsOld marks ms in subst P (sym e) h

pub less_equal : (needs : Rows) (n : ℕ) {others made : List Mark} {path stack : List Visit} → steps_left needs made stack < n → others ≡ made → path ≡ stack → steps_left needs others path < n
less_equal needs n {others} {made} {path} {stack} h e f =
    let same : steps_left needs others path ≡ steps_left needs made stack = ap (λ ms. steps_left needs ms path) e ∙ ap (steps_left needs made) f in
    omega (arith, h, same)

-- the open instances are marked, so they are among the marks
pub all_within : {needs : Rows} {marks : List Mark} {levels : List ℕ} {count : ℕ} {v : Visit} {vs : List Visit} → IsAt needs marks levels count (v ∷ vs) → (j : ℕ) → IsAmong (names (v ∷ vs)) j → j < length marks
all_within {needs} {marks} {levels} {count} {v} {vs} h j a = slice_get_within marks j Open (open_named needs marks levels (v ∷ vs) h.chain j a)

pub visits_within : {needs : Rows} {marks : List Mark} {levels : List ℕ} {count : ℕ} {v : Visit} {vs path : List Visit} → IsAt needs marks levels count (v ∷ vs) → path ≡ v ∷ vs → (u : Visit) → IsAmong path u → u.instance < length marks
visits_within {needs} {marks} {levels} {count} {v} {vs} {path} h e u a =
    let P : List Visit → Type 0 = λ us. IsAmong us u in
    all_within h u.instance (map_among (λ (w : Visit). w.instance) (v ∷ vs) u (subst P e a))
