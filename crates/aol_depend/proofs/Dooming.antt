-- All open instances are doomed: each needs the next, and the last needs one that is open or doomed.
use Rattle.std.proofs.Common.{◌≡◌, ℕ, ◌<◌, ◌≤◌, List, [], ◌∷◌, map, length, slice_get, set, get_or, Some, refl, sym, ◌∙◌, ap, arith, ◌⊎◌, inl, inr, length-set, subst, cond, false}
use Rattle.std.specs.List.{IsAmong, count_by}
use Rattle.std.proofs.lemmas.Bool.{cases_eq}
use Rattle.std.proofs.lemmas.Option.{slice_get_within, slice_get-get_or}
use Rattle.aol_flat.proofs.Agree.{IsAmong-tail}
use Rattle.aol_depend.specs.declared.search.Mark.{Mark}
use Rattle.aol_depend.specs.declared.search.Mark.TheVariants.{Open, Ranked, Doomed}
use Rattle.aol_depend.specs.declared.search.Visit.{Visit}
use Rattle.aol_depend.specs.Needs.{Rows, row}
use Rattle.aol_depend.specs.Search.{AreOpen, is_ranked, is_new, IsAt, doomed}
use Rattle.aol_depend.proofs.Moves.{get-set_same, get-set_other, Grows, level_stays, open_named, unlike, among_cases}
use Rattle.aol_depend.proofs.Ranking.{count-set}

-- the instances of some visits
abbrev pub names : List Visit → List ℕ
names vs = map (λ (v : Visit). v.instance) vs

-- what is doomed stays so
doomed_stays : (marks : List Mark) (vs : List Visit) (j : ℕ) → slice_get marks j ≡ Some Doomed → slice_get (doomed marks vs) j ≡ Some Doomed
doomed_stays marks [] j h = h
doomed_stays marks (v ∷ vs) j h =
    doomed_stays (set marks v.instance Doomed) vs j (elim (cases_eq j v.instance) [
      | inl e ↦ ap (slice_get (set marks v.instance Doomed)) e ∙ get-set_same marks v.instance Doomed (let P = slice_get_within marks j Doomed h in omega (arith, P, e))
      | inr ne ↦ get-set_other marks v.instance j Doomed ne ∙ h
    ])

-- each of these is doomed
doomed_among : (marks : List Mark) (vs : List Visit) (j : ℕ) → j < length marks → IsAmong (names vs) j → slice_get (doomed marks vs) j ≡ Some Doomed
doomed_among marks [] j within h = absurd (omega (arith, h.1.0))
doomed_among marks (v ∷ vs) j within h =
    elim (among_cases v.instance (names vs) j h) [
      | inl e ↦ doomed_stays (set marks v.instance Doomed) vs j (ap (slice_get (set marks v.instance Doomed)) e ∙ get-set_same marks v.instance Doomed (omega (arith, within, e)))
      | inr later ↦ doomed_among (set marks v.instance Doomed) vs j (omega (arith, within, length-set marks v.instance Doomed)) later
    ]

-- all others are as they were
doomed_other : (marks : List Mark) (vs : List Visit) (j : ℕ) → (IsAmong (names vs) j → ⊥) → slice_get (doomed marks vs) j ≡ slice_get marks j
doomed_other marks [] j apart = refl
doomed_other marks (v ∷ vs) j apart =
    doomed_other (set marks v.instance Doomed) vs j (λ a. apart (IsAmong-tail v.instance (names vs) j a))
    ∙ get-set_other marks v.instance j Doomed (λ e. apart (0, (omega arith, e)))

-- so what is marked otherwise was marked so before, and what is doomed was so before or is one of these
pub doomed_back : (marks : List Mark) (vs : List Visit) (j : ℕ) (m : Mark) → slice_get (doomed marks vs) j ≡ Some m → (slice_get marks j ≡ Some m) ⊎ ((m ≡ Doomed) × IsAmong (names vs) j)
doomed_back marks [] j m h = inl h
doomed_back marks (v ∷ vs) j m h =
    elim (doomed_back (set marks v.instance Doomed) vs j m h) [
      | inl before ↦ elim (cases_eq j v.instance) [
        | inl e ↦ inr (let within = slice_get_within (set marks v.instance Doomed) j m before in
            let same : Some m ≡ Some Doomed = sym before ∙ ap (slice_get (set marks v.instance Doomed)) e ∙ get-set_same marks v.instance Doomed (omega (arith, within, length-set marks v.instance Doomed, e)) in
            let is : m ≡ Doomed = cc in
            (is, (0, (omega arith, e))))
        | inr ne ↦ inl (sym (get-set_other marks v.instance j Doomed ne) ∙ before)
      ]
      | inr r ↦ inr (r.0, IsAmong-tail v.instance (names vs) j r.1)
    ]

length-doomed : (marks : List Mark) (vs : List Visit) → length (doomed marks vs) ≡ length marks
length-doomed marks [] = refl
length-doomed marks (v ∷ vs) = length-doomed (set marks v.instance Doomed) vs ∙ length-set marks v.instance Doomed

-- where each open one needs the next, and the last needs a doomed one, each needs a doomed one
all_doomed : (needs : Rows) (marks others : List Mark) (levels : List ℕ) (v : Visit) (vs : List Visit) → AreOpen needs marks levels (v ∷ vs)
    → ((j : ℕ) → IsAmong (names (v ∷ vs)) j → slice_get others j ≡ Some Doomed) → ((k : ℕ) × IsAmong (row needs v.instance) k × (slice_get others k ≡ Some Doomed))
    → (j : ℕ) → IsAmong (names (v ∷ vs)) j → (k : ℕ) × IsAmong (row needs j) k × (slice_get others k ≡ Some Doomed)
all_doomed needs marks others levels v [] h doom last j a =
    elim (among_cases v.instance [] j a) [
      | inl e ↦ let P : ℕ → Type 0 = λ n. (k : ℕ) × IsAmong (row needs n) k × (slice_get others k ≡ Some Doomed) in subst P (sym e) last
      | inr none ↦ absurd (omega (arith, none.1.0))
    ]
all_doomed needs marks others levels v (u ∷ us) h doom last j a =
    elim (among_cases v.instance (names (u ∷ us)) j a) [
      | inl e ↦ let P : ℕ → Type 0 = λ n. (k : ℕ) × IsAmong (row needs n) k × (slice_get others k ≡ Some Doomed) in subst P (sym e) last
      | inr later ↦
          all_doomed needs marks others levels u us h.3 (λ i b. doom i (IsAmong-tail v.instance (names (u ∷ us)) i b))
          (v.instance, h.1, doom v.instance (0, (omega arith, refl))) j later
    ]

-- none of these has a level
abbrev AreUnranked : List Mark → List Visit → Type 0
AreUnranked marks vs = (j : ℕ) → IsAmong (names vs) j → (m : Mark) × (slice_get marks j ≡ Some m) × (is_ranked m ≡ false)

count-doomed : (marks : List Mark) (vs : List Visit) → AreUnranked marks vs → count_by is_ranked (doomed marks vs) ≡ count_by is_ranked marks
count-doomed marks [] un = refl
count-doomed marks (v ∷ vs) un =
    let here = un v.instance (0, (omega arith, refl)) in
    let one = count-set is_ranked marks v.instance here.0 Doomed here.1 in
    let rest : AreUnranked (set marks v.instance Doomed) vs = λ j a. elim (cases_eq j v.instance) [
      | inl e ↦ (Doomed, ap (slice_get (set marks v.instance Doomed)) e ∙ get-set_same marks v.instance Doomed (slice_get_within marks v.instance here.0 here.1), refl)
      | inr ne ↦ let r = un j (IsAmong-tail v.instance (names vs) j a) in (r.0, get-set_other marks v.instance j Doomed ne ∙ r.1, r.2)
    ] in
    let later = count-doomed (set marks v.instance Doomed) vs rest in
    let unit : ℕ = 1 in
    let none : cond (is_ranked here.0) unit 0 ≡ 0 = ap (λ b. cond b unit 0) here.2 in
    omega (arith, one, later, none)

-- no more of them are new
pub news-doomed : (marks : List Mark) (vs : List Visit) → ((j : ℕ) → IsAmong (names vs) j → j < length marks) → count_by is_new (doomed marks vs) ≤ count_by is_new marks
news-doomed marks [] within = omega arith
news-doomed marks (v ∷ vs) within =
    let at : slice_get marks v.instance ≡ Some (get_or marks v.instance Doomed) = slice_get-get_or marks v.instance Doomed (within v.instance (0, (omega arith, refl))) in
    let one = count-set is_new marks v.instance (get_or marks v.instance Doomed) Doomed at in
    let later = news-doomed (set marks v.instance Doomed) vs (λ j a. (let h = within j (IsAmong-tail v.instance (names vs) j a) in omega (arith, h, length-set marks v.instance Doomed))) in
    omega (arith, one, later)

-- the state when the last open instance needs an open or a doomed one
pub all_are_doomed : (needs : Rows) (marks : List Mark) (levels : List ℕ) (count : ℕ) (v : Visit) (vs : List Visit) (k : ℕ) → IsAt needs marks levels count (v ∷ vs)
    → IsAmong (row needs v.instance) k → (slice_get marks k ≡ Some Open) ⊎ (slice_get marks k ≡ Some Doomed) → IsAt needs (doomed marks (v ∷ vs)) levels count []
all_are_doomed needs marks levels count v vs k h needed at =
    let others = doomed marks (v ∷ vs) in
    let opened : (j : ℕ) → IsAmong (names (v ∷ vs)) j → slice_get marks j ≡ Some Open = open_named needs marks levels (v ∷ vs) h.chain in
    let doom : (j : ℕ) → IsAmong (names (v ∷ vs)) j → slice_get others j ≡ Some Doomed =
    λ j a. doomed_among marks (v ∷ vs) j (slice_get_within marks j Open (opened j a)) a in
    let last : slice_get others k ≡ Some Doomed = elim at [
      | inl is ↦ doom k (h.opens k is)
      | inr is ↦ doomed_stays marks (v ∷ vs) k is
    ] in
    let kept : (j : ℕ) → slice_get marks j ≡ Some Ranked → slice_get others j ≡ Some Ranked =
    λ j is. doomed_other marks (v ∷ vs) j (λ a. (let e = unlike marks j Open Ranked (opened j a) is in cc)) ∙ is in
    let g : Grows marks others levels levels = record { keeps = λ j is. (kept j is, refl) } in
    let before : (j : ℕ) → slice_get others j ≡ Some Ranked → slice_get marks j ≡ Some Ranked =
    λ j is. elim (doomed_back marks (v ∷ vs) j Ranked is) [ inl b ↦ b | inr r ↦ absurd (let e = r.0 in cc) ] in
    record {
      within = h.within;
      few = h.few;
      many_marks = length-doomed marks (v ∷ vs) ∙ h.many_marks;
      many_levels = h.many_levels;
      count = h.count ∙ sym (count-doomed marks (v ∷ vs) (λ j a. (Open, opened j a, refl)));
      ranks = λ j is. level_stays g needs j (h.ranks j (before j is)) refl;
      low = λ j is. h.low j (before j is);
      dooms = λ j is. elim (doomed_back marks (v ∷ vs) j Doomed is) [
        | inl b ↦ let r = h.dooms j b in (r.0, r.1, doomed_stays marks (v ∷ vs) r.0 r.2)
        | inr r ↦ all_doomed needs marks others levels v vs h.chain doom (k, needed, last) j r.1
      ];
      opens = λ j is. elim (doomed_back marks (v ∷ vs) j Open is) [
        | inl b ↦ absurd (let e = unlike others j Open Doomed is (doom j (h.opens j b)) in cc)
        | inr r ↦ absurd (let e = r.0 in cc)
      ];
      chain = tt;
    }
