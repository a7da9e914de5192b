-- Points are marked pair by pair.
use Rattle.std.proofs.Common.{◌≡◌, ◌≢◌, ℕ, ◌<◌, ◌≤◌, ◌%◌, Bool, true, false, cond, ◌||◌, List, [], ◌∷◌, ◌++◌, length, map, flat_map, find, get_or, Option, Some, None, sym, ◌∙◌, ap, refl, arith, subst, append_assoc}
use Rattle.std.specs.List.{IsAmong}
use Rattle.std.specs.Option.{option_or}
use Rattle.std.proofs.Math.ListN.{set}
use Rattle.std.proofs.Math.Nat.{mod-lt}
use Rattle.std.proofs.lemmas.List.{append-nil, map-append, length-map}
use Rattle.std.proofs.lemmas.List.Folds.{find-append}
use Rattle.std.proofs.lemmas.Simd.{map-map}
use Rattle.aol_shape.specs.Lists.{same}
use Rattle.aol_shape.specs.Shape.{size, rank, point_at, points, IsPointOf, IsShape}
use Rattle.aol_shape.proofs.Points.{rank-lt-size, point_at-rank}
use Rattle.aol_tiler.specs.Tiler.{fits, addresses}
use Rattle.aol_model_types.specs.declared.job.Entry.{Entry}
use Rattle.aol_flat.proofs.Among.{among_map, among_flat_map}
use Rattle.aol_flat.proofs.Inside.{among_right}
use Rattle.aol_flat.proofs.Names.{same-equal, same-self}
use Rattle.aol_flat.proofs.Shapes.{address_inside}
use Rattle.aol_allocate.specs.Placement.{Placing, placing_of, placings, is_placed, first_again}
use Rattle.aol_allocate.specs.Marks.{mark_of, mark_at, marks_after, MarksAll}
use Rattle.aol_allocate.proofs.Points.{points_get, points_set, length_points}

-- ---- the mark of a point

abbrev pub placer : List Placing → List ℕ → Option Placing
placer ps x = find (λ (p : Placing). same p.0 x) ps

pub placer_none : (ps : List Placing) (x : List ℕ) → is_placed ps x ≡ false → placer ps x ≡ None
placer_none [] x h = refl
placer_none (p ∷ ps) x h = go (same p.0 x) refl (placer_none ps x)
  where
    go : (b : Bool) → same p.0 x ≡ b → (is_placed ps x ≡ false → placer ps x ≡ None) → placer (p ∷ ps) x ≡ None
    go true e rest = let no : true ≡ false = sym (ap (λ b. b || is_placed ps x) e) ∙ h in cc
    go false e rest = ap (λ b. cond b (Some p) (placer ps x)) e ∙ rest (sym (ap (λ b. b || is_placed ps x) e) ∙ h)

pub placer_some : (ps : List Placing) (x : List ℕ) → is_placed ps x ≡ true → (p : Placing) × (placer ps x ≡ Some p)
placer_some [] x h = cc
placer_some (p ∷ ps) x h = go (same p.0 x) refl (placer_some ps x)
  where
    go : (b : Bool) → same p.0 x ≡ b → (is_placed ps x ≡ true → (q : Placing) × (placer ps x ≡ Some q)) → (q : Placing) × (placer (p ∷ ps) x ≡ Some q)
    go true e rest = (p, ap (λ b. cond b (Some p) (placer ps x)) e)
    go false e rest = let r = rest (sym (ap (λ b. b || is_placed ps x) e) ∙ h) in (r.0, ap (λ b. cond b (Some p) (placer ps x)) e ∙ r.1)

pub mark_free : (e : Entry) (workers : ℕ) (ps : List Placing) (x : List ℕ) → is_placed ps x ≡ false → mark_of e workers ps x ≡ 255
mark_free e workers ps x h = ap (mark_at e workers) (placer_none ps x h)

pub mark_taken : (e : Entry) (workers : ℕ) (ps : List Placing) (x : List ℕ) → 1 ≤ workers → workers ≤ 64 → is_placed ps x ≡ true → mark_of e workers ps x < 64
mark_taken e workers ps x some bound h =
    let p = placer_some ps x h in
    let below : rank e.processors p.0.1 % workers < workers = mod-lt (rank e.processors p.0.1) (omega (arith, some)) in
    let mark : mark_of e workers ps x ≡ rank e.processors p.0.1 % workers = ap (mark_at e workers) p.1 in
    omega (arith, mark, below, bound)

or_none : (o : Option Placing) → option_or o None ≡ o
or_none None = refl
or_none (Some p) = refl

-- one more pair marks its own point alone
mark_here : (e : Entry) (workers : ℕ) (ps : List Placing) (p : Placing) → is_placed ps p.0 ≡ false → rank e.processors p.1 % workers ≡ mark_of e workers (ps ++ p ∷ []) p.0
mark_here e workers ps p h =
    sym (ap (mark_at e workers)
    (find-append (λ (q : Placing). same q.0 p.0) ps (p ∷ [])
    ∙ (ap (λ o. option_or o (placer (p ∷ []) p.0)) (placer_none ps p.0 h)
    ∙ ap (λ b. cond b (Some p) None) (same-self p.0))))

mark_there : (e : Entry) (workers : ℕ) (ps : List Placing) (p : Placing) (x : List ℕ) → x ≢ p.0 → mark_of e workers ps x ≡ mark_of e workers (ps ++ p ∷ []) x
mark_there e workers ps p x other = go (same p.0 x) refl
  where
    go : (b : Bool) → same p.0 x ≡ b → mark_of e workers ps x ≡ mark_of e workers (ps ++ p ∷ []) x
    go true t = absurd (other (sym (same-equal p.0 x t)))
    go false t =
        sym (ap (mark_at e workers)
        (find-append (λ (q : Placing). same q.0 x) ps (p ∷ [])
        ∙ (ap (λ b. option_or (placer ps x) (cond b (Some p) None)) t
        ∙ or_none (placer ps x))))

marks_more : (e : Entry) (workers : ℕ) (space : List ℕ) (ps : List Placing) (p : Placing) → IsPointOf space p.0 → is_placed ps p.0 ≡ false
    → set (marks_after e workers space ps) (rank space p.0) (rank e.processors p.1 % workers) ≡ marks_after e workers space (ps ++ p ∷ [])
marks_more e workers space ps p inside free =
    points_set (mark_of e workers ps) (mark_of e workers (ps ++ p ∷ [])) space p.0 (rank e.processors p.1 % workers) inside (mark_here e workers ps p free)
    (λ y other. mark_there e workers ps p y other)

-- ---- pairs and their addresses

pairs_mapped : (h : Placing → ℕ) (e : Entry) (space : List ℕ) (rs : List (List ℕ))
    → flat_map (λ r. map (λ i. h (placing_of e space r i)) (points e.pattern)) rs ≡ map h (flat_map (λ r. map (λ i. placing_of e space r i) (points e.pattern)) rs)
pairs_mapped h e space [] = refl
pairs_mapped h e space (r ∷ rs) =
    let of : List ℕ → Placing = λ i. placing_of e space r i in
    let later : List Placing = flat_map (λ r. map (λ i. placing_of e space r i) (points e.pattern)) rs in
    ap (λ xs. map (λ i. h (of i)) (points e.pattern) ++ xs) (pairs_mapped h e space rs)
    ∙ (ap (λ xs. xs ++ map h later) (sym (map-map h of (points e.pattern)))
    ∙ sym (map-append h (map of (points e.pattern)) later))

pub from_addresses : (e : Entry) (space : List ℕ) → addresses e.from space e.space e.pattern ≡ map (λ (p : Placing). rank space p.0) (placings e space)
from_addresses e space = pairs_mapped (λ (p : Placing). rank space p.0) e space (points e.space)

pub to_addresses : (e : Entry) (space : List ℕ) → addresses e.to e.processors e.space e.pattern ≡ map (λ (p : Placing). rank e.processors p.1) (placings e space)
to_addresses e space = pairs_mapped (λ (p : Placing). rank e.processors p.1) e space (points e.space)

placing_inside : (e : Entry) (space : List ℕ) → fits e.from space e.space e.pattern ≡ true → IsShape space → (p : Placing) → IsAmong (placings e space) p → IsPointOf space p.0
placing_inside e space over shape p a =
    let r = among_flat_map (λ r. map (λ i. placing_of e space r i) (points e.pattern)) (points e.space) p a in
    let i = among_map (λ i. placing_of e space r.0 i) (points e.pattern) p r.2 in
    subst (λ (q : Placing). IsPointOf space q.0) (sym i.2) (address_inside e.from space e.space e.pattern r.0 i.0 over shape)

-- ---- a loop over all pairs

-- so far the seen pairs have marked their points, each once, and the addresses are those of the rest
pub record IsMarking (e : Entry) (workers : ℕ) (space marks from to : List ℕ) : Type 0 where
  pub seen : List Placing
  pub rest : List Placing
  pub all : placings e space ≡ seen ++ rest
  pub marked : marks ≡ marks_after e workers space seen
  pub points_left : from ≡ map (λ (p : Placing). rank space p.0) rest
  pub processors_left : to ≡ map (λ (p : Placing). rank e.processors p.1) rest
  pub new : first_again [] (placings e space) ≡ first_again seen rest

pub marking_starts : (e : Entry) (workers : ℕ) (space marks from to : List ℕ) → marks ≡ marks_after e workers space [] → from ≡ addresses e.from space e.space e.pattern
    → to ≡ addresses e.to e.processors e.space e.pattern → IsMarking e workers space marks from to
marking_starts e workers space marks from to empty f t = record {
  seen = [];
  rest = placings e space;
  all = refl;
  marked = empty;
  points_left = f ∙ from_addresses e space;
  processors_left = t ∙ to_addresses e space;
  new = refl;
}

-- the next pair
pub record IsNext (e : Entry) (workers : ℕ) (space marks : List ℕ) (point : ℕ) (from to : List ℕ) : Type 0 where
  pub within : point < length marks
  pub few : point < size space
  pub some : to ≡ [] → ⊥
  pub again : get_or marks point 0 ≢ 255 → first_again [] (placings e space) ≡ Some (point_at space point)
  pub goes_on : (processor : ℕ) (left : List ℕ) → to ≡ processor ∷ left → get_or marks point 0 ≡ 255 → IsMarking e workers space (set marks point (processor % workers)) from left

pub marking_next : (e : Entry) (workers : ℕ) (space marks whole : List ℕ) (point : ℕ) (from to : List ℕ) → fits e.from space e.space e.pattern ≡ true → IsShape space → 1 ≤ workers → workers ≤ 64
    → IsMarking e workers space marks whole to → whole ≡ point ∷ from → IsNext e workers space marks point from to
marking_next e workers space marks whole point from to over shape some bound h split = go h.seen h.rest h.all h.marked (sym split ∙ h.points_left) h.processors_left h.new
  where
    go : (seen rest : List Placing) → placings e space ≡ seen ++ rest → marks ≡ marks_after e workers space seen → point ∷ from ≡ map (λ (p : Placing). rank space p.0) rest
        → to ≡ map (λ (p : Placing). rank e.processors p.1) rest → first_again [] (placings e space) ≡ first_again seen rest → IsNext e workers space marks point from to
    go seen [] all marked points_left processors_left new = let no : ⊥ = cc in absurd no
    go seen (p ∷ rest) all marked points_left processors_left new =
        let inside : IsPointOf space p.0 =
        placing_inside e space over shape p (subst (λ (ps : List Placing). IsAmong ps p) (sym all) (among_right seen (p ∷ rest) p (0, (omega arith, refl)))) in
        let number : point ≡ rank space p.0 = cc in
        let left : from ≡ map (λ (q : Placing). rank space q.0) rest = cc in
        let many : length marks ≡ size space = ap length marked ∙ (length-map (points space) (mark_of e workers seen) ∙ length_points space) in
        let few : rank space p.0 < size space = rank-lt-size space p.0 inside in
        let mark : get_or marks point 0 ≡ mark_of e workers seen p.0 =
        ap (λ ms. get_or ms point 0) marked ∙ (ap (λ k. get_or (marks_after e workers space seen) k 0) number ∙ points_get (mark_of e workers seen) space p.0 0 inside) in
        record {
          within = omega (arith, number, many, few);
          few = omega (arith, number, few);
          some = λ none. let no : ⊥ = cc in no;
          again = λ marked_before. again (is_placed seen p.0) refl number inside mark marked_before new;
          goes_on = λ processor rest_left next unmarked.
              let processor_is : processor ≡ rank e.processors p.1 = cc in
              let rest_is : rest_left ≡ map (λ (q : Placing). rank e.processors q.1) rest = cc in
              goes_on (is_placed seen p.0) refl all marked number inside mark unmarked left processor processor_is rest_left rest_is new;
        }
      where
        again : (b : Bool) → is_placed seen p.0 ≡ b → point ≡ rank space p.0 → IsPointOf space p.0 → get_or marks point 0 ≡ mark_of e workers seen p.0 → get_or marks point 0 ≢ 255
            → first_again [] (placings e space) ≡ first_again seen (p ∷ rest) → first_again [] (placings e space) ≡ Some (point_at space point)
        again true t number inside mark marked_before new =
            new ∙ (ap (λ b. cond b (Some p.0) (first_again (seen ++ p ∷ []) rest)) t ∙ ap Some (sym (ap (point_at space) number ∙ point_at-rank space p.0 inside)))
        again false t number inside mark marked_before new = absurd (marked_before (mark ∙ mark_free e workers seen p.0 t))

        goes_on : (b : Bool) → is_placed seen p.0 ≡ b → placings e space ≡ seen ++ p ∷ rest → marks ≡ marks_after e workers space seen → point ≡ rank space p.0 → IsPointOf space p.0
            → get_or marks point 0 ≡ mark_of e workers seen p.0 → get_or marks point 0 ≡ 255 → from ≡ map (λ (q : Placing). rank space q.0) rest
            → (processor : ℕ) → processor ≡ rank e.processors p.1 → (rest_left : List ℕ) → rest_left ≡ map (λ (q : Placing). rank e.processors q.1) rest
            → first_again [] (placings e space) ≡ first_again seen (p ∷ rest) → IsMarking e workers space (set marks point (processor % workers)) from rest_left
        goes_on true t all marked number inside mark unmarked left processor processor_is rest_left rest_is new =
            absurd (omega (arith, mark_taken e workers seen p.0 some bound t, mark, unmarked))
        goes_on false t all marked number inside mark unmarked left processor processor_is rest_left rest_is new = record {
          seen = seen ++ p ∷ [];
          rest = rest;
          all = all ∙ sym (append_assoc seen (p ∷ []) rest);
          marked =
              ap (λ ms. set ms point (processor % workers)) marked
              ∙ (ap (λ k. set (marks_after e workers space seen) k (processor % workers)) number
              ∙ (ap (λ k. set (marks_after e workers space seen) (rank space p.0) (k % workers)) processor_is
              ∙ marks_more e workers space seen p inside t));
          points_left = left;
          processors_left = rest_is;
          new = new ∙ ap (λ b. cond b (Some p.0) (first_again (seen ++ p ∷ []) rest)) t;
        }

pub marking_ends : (e : Entry) (workers : ℕ) (space marks to : List ℕ) → IsMarking e workers space marks [] to → MarksAll e workers space None marks
marking_ends e workers space marks to h = go h.rest h.all h.points_left h.new
  where
    go : (rest : List Placing) → placings e space ≡ h.seen ++ rest → [] ≡ map (λ (p : Placing). rank space p.0) rest → first_again [] (placings e space) ≡ first_again h.seen rest
        → MarksAll e workers space None marks
    go [] all left new = (new, h.marked ∙ ap (marks_after e workers space) (sym (all ∙ append-nil h.seen)))
    go (p ∷ rest) all left new = let no : ⊥ = cc in absurd no
