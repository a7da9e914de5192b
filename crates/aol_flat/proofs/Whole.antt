-- The cells of all ports of a leaf, at the instances of a run.
use Rattle.std.proofs.Common.{◌≡◌, ℕ, zero, suc, ◌+◌, ◌*◌, ◌^◌, ◌<◌, ◌≤◌, List, [], ◌∷◌, ◌++◌, length, map, drop, Some, slice_get, IsTrue, sym, ◌∙◌, ap, refl, arith, subst}
use Rattle.std.specs.List.{AllByRecursion, AllZip}
use Rattle.std.proofs.lemmas.List.{length-map, length-append}
use Rattle.std.proofs.lemmas.List.Sums.{sum_by-cons}
use Rattle.std.proofs.lemmas.Option.{slice_get_within}
use Rattle.aol_shape.specs.Shape.{IsPointOf, size, point_at}
use Rattle.aol_shape.proofs.Sizes.{size_positive}
use Rattle.aol_trail.specs.Further.{further}
use Rattle.aol_trail.specs.Trail.{IsTrailAt, cell_on, trail_at}
use Rattle.aol_trail.proofs.Stretches.{further_none}
use Rattle.aol_expr_tree.specs.declared.port.Port.{Port}
use Rattle.aol_model_types.specs.declared.document.Model.{Model}
use Rattle.aol_model_types.specs.declared.task.Task.{Task}
use Rattle.aol_model_types.specs.Types.{IsPort}
use Rattle.aol_flat.specs.Accept.{IsFlat}
use Rattle.aol_flat.specs.Cursor.{HasPortAt}
use Rattle.aol_flat.specs.declared.route.Route.{Route}
use Rattle.aol_flat.specs.Follow.{element_on}
use Rattle.aol_flat.specs.Laid.{Laid, IsCellOf}
use Rattle.aol_flat.specs.LeafCursor.{elements_at}
use Rattle.aol_flat.specs.Node.{Node, space_around, place_on}
use Rattle.aol_flat.specs.NodeTable.{IsNode}
use Rattle.aol_flat.specs.Place.{Place, Element, elements_of, port_elements}
use Rattle.aol_flat.specs.Route.{AreRoutes, IsRoute, LeadsHome}
use Rattle.aol_flat.specs.Run.{CanFill, FitsPort, HoldsAt, IsMovedTo, run_of, runs}
use Rattle.aol_flat.proofs.Few.{cells_few}
use Rattle.aol_flat.proofs.PortZip.{zip_both, zip_numbered}
use Rattle.aol_flat.proofs.Routes.{can_move, element_there, met, moved_home, trail_gives}

-- ---- routes that were filled

-- each route of a list that begins at the k-th port is one of its port
abbrev AreRoutesFrom : Laid → (Task → List Port) → ℕ → ℕ → List Route → Type 0
AreRoutesFrom f ports number k ws = (j : ℕ) (w : Route) → slice_get ws j ≡ Some w → IsRoute f ports number (k + j) w

all_from : (f : Laid) (ports : Task → List Port) (number : ℕ) (ws : List Route) → AreRoutes f ports number ws → AreRoutesFrom f ports number 0 ws
all_from f ports number ws are j w got = let same : j ≡ 0 + j = omega arith in subst (λ n. IsRoute f ports number n w) same (are j w got)

first_of : (f : Laid) (ports : Task → List Port) (number k : ℕ) (w : Route) (ws : List Route) → AreRoutesFrom f ports number k (w ∷ ws) → IsRoute f ports number k w
first_of f ports number k w ws are = let same : k + 0 ≡ k = omega arith in subst (λ n. IsRoute f ports number n w) same (are 0 w refl)

others_of : (f : Laid) (ports : Task → List Port) (number k : ℕ) (w : Route) (ws : List Route) → AreRoutesFrom f ports number k (w ∷ ws) → AreRoutesFrom f ports number (k + 1) ws
others_of f ports number k w ws are j v got = let same : k + suc j ≡ k + 1 + j = omega arith in subst (λ n. IsRoute f ports number n v) same (are (suc j) v got)

moved_route : (f : Laid) (ports : Task → List Port) (number k : ℕ) (at : List ℕ) (w v : Route) → IsMovedTo at w v → IsRoute f ports number k w → IsRoute f ports number k v
moved_route f ports number k at w v m one known = moved_home f ports number k w.trail v.trail at (one (subst IsTrue m.known known)) m.trail

moved_from : (f : Laid) (ports : Task → List Port) (number k : ℕ) (at : List ℕ) (old new : List Route) → AllZip (IsMovedTo at) old new → AreRoutesFrom f ports number k old → (j : ℕ) (v : Route) → slice_get new j ≡ Some v → IsRoute f ports number (k + j) v
moved_from f ports number k at [] [] moved are j v got = absurd (omega (arith, slice_get_within {A = Route} [] j v got))
moved_from f ports number k at [] (y ∷ new) moved are j v got = absurd moved
moved_from f ports number k at (w ∷ old) [] moved are j v got = absurd moved
moved_from f ports number k at (w ∷ old) (y ∷ new) moved are zero v got =
    let e : Some y ≡ Some v = got in
    let same : y ≡ v = cc in
    let here : k ≡ k + 0 = omega arith in
    subst (λ n. IsRoute f ports number n v) here (subst (IsRoute f ports number k) same (moved_route f ports number k at w y moved.0 (first_of f ports number k w old are)))
moved_from f ports number k at (w ∷ old) (y ∷ new) moved are (suc j) v got =
    let same : k + 1 + j ≡ k + suc j = omega arith in
    subst (λ n. IsRoute f ports number n v) same (moved_from f ports number (k + 1) at old new moved.1 (others_of f ports number k w old are) j v got)

pub routes_filled : (f : Laid) (ports : Task → List Port) (number : ℕ) (at : List ℕ) (old new : List Route) → AllZip (IsMovedTo at) old new → AreRoutes f ports number old → AreRoutes f ports number new
routes_filled f ports number at old new moved are j v got =
    let same : 0 + j ≡ j = omega arith in
    subst (λ n. IsRoute f ports number n v) same (moved_from f ports number 0 at old new moved (all_from f ports number old are) j v got)

pub fits_filled : (at : List ℕ) (ps : List Port) (old new : List Route) → AllZip (IsMovedTo at) old new → AllZip FitsPort ps old → AllZip FitsPort ps new
fits_filled at [] [] [] moved fits = tt
fits_filled at [] [] (v ∷ new) moved fits = absurd moved
fits_filled at [] (w ∷ old) new moved fits = absurd fits
fits_filled at (p ∷ ps) [] new moved fits = absurd fits
fits_filled at (p ∷ ps) (w ∷ old) [] moved fits = absurd moved
fits_filled at (p ∷ ps) (w ∷ old) (v ∷ new) moved fits = ((subst IsTrue (sym moved.0.known) fits.0.0, moved.0.many ∙ fits.0.1), fits_filled at ps old new moved.1 fits.1)

-- ---- the ports of a leaf

-- the next port of a list
record IsNextPort (ps all : List Port) (k : ℕ) (p : Port) : Type 0 where
  listed : slice_get all k ≡ Some p
  rest : drop (k + 1) all ≡ ps

next_port : (all ps : List Port) (k : ℕ) (p : Port) → drop k all ≡ p ∷ ps → IsNextPort ps all k p
next_port [] ps zero p e = cc
next_port [] ps (suc k) p e = cc
next_port (q ∷ all) ps zero p e = let first : q ≡ p = cc in let others : all ≡ ps = cc in record { listed = ap Some first; rest = others }
next_port (q ∷ all) ps (suc k) p e = let n = next_port all ps k p e in let same : suc k + 1 ≡ suc (k + 1) = omega arith in record { listed = n.listed; rest = ap (λ i. drop i (q ∷ all)) same ∙ n.rest }

module _ (f : Laid) (flat : IsFlat f) (ports : Task → List Port) (number : ℕ) (node : Node) (t : Task) (here : IsNode f.model number node t) (at : List ℕ) (most : ℕ) (some : 0 < most)
    (around : (i : ℕ) → i < most → IsPointOf (space_around node) (further i at)) where
  port_there : (k : ℕ) (p : Port) (many i : ℕ) → slice_get (ports t) k ≡ Some p → IsPort p → many ≡ size p.shape → i < most → HasPortAt f.model ports number k many (further i at)
  port_there k p many i listed types is low =
      record { node = node; task = t; at_node = here; around = around i low; port = p; listed = listed; many_is = is; few = omega (arith, is, types.points) }

  fill_from : (ps : List Port) (k : ℕ) (ws : List Route) → drop k (ports t) ≡ ps → AllByRecursion IsPort ps → AllZip FitsPort ps ws → AreRoutesFrom f ports number k ws → AllByRecursion (CanFill at most) ws
  fill_from [] k [] e types fits are = tt
  fill_from [] k (w ∷ ws) e types fits are = absurd fits
  fill_from (p ∷ ps) k [] e types fits are = absurd fits
  fill_from (p ∷ ps) k (w ∷ ws) e types fits are =
      let n = next_port (ports t) ps k p e in
      let many : ℕ = length w.cells.items in
      let home : LeadsHome f ports number k w.trail = first_of f ports number k w ws are fits.0.0 in
      let pos : 0 < many = omega (arith, fits.0.1, size_positive p.shape types.0.entry) in
      let at_first : HasPortAt f.model ports number k many (further 0 at) = port_there k p many 0 n.listed types.0 fits.0.1 some in (
        record {
          there = subst (λ a. IsTrailAt a w.trail) (further_none at) (can_move f ports number k many (further 0 at) w.trail home at_first pos);
          few = omega (arith, fits.0.1, types.0.points);
          gives = λ i low. trail_gives f flat ports number k many (further i at) w.trail (trail_at (further i at) w.trail) home refl (port_there k p many i n.listed types.0 fits.0.1 low);
        },
        fill_from ps (k + 1) ws n.rest types.1 fits.1 (others_of f ports number k w ws are),
      )

  pub can_fill : (ws : List Route) → AllByRecursion IsPort (ports t) → AllZip FitsPort (ports t) ws → AreRoutes f ports number ws → AllByRecursion (CanFill at most) ws
  can_fill ws types fits are = fill_from (ports t) 0 ws refl types fits (all_from f ports number ws are)

  module _ (i : ℕ) (low : i < most) where
    first_cells : (k : ℕ) (p : Port) (w v : Route) → slice_get (ports t) k ≡ Some p → IsPort p → FitsPort p w → IsRoute f ports number k w → IsMovedTo at w v → HoldsAt i at w v → AllZip (IsCellOf f) (port_elements (place_on node (further i at)) p) (run_of i v)
    unfolding port_there
    first_cells k p w v listed types fits one moved holds =
        let to : List ℕ = further i at in
        let many : ℕ = length w.cells.items in
        let own : List ℕ = run_of i v in
        let index : List ℕ → Element = λ x. record { place = place_on node to; port = p.name; index = x } in
        let count : length own ≡ size p.shape = length-map v.cells.items (λ c. c + i * v.stride) ∙ (moved.many ∙ fits.1) in
        let there : HasPortAt f.model ports number k many to = port_there k p many i listed types fits.1 low in
        zip_numbered (IsCellOf f) index (point_at p.shape) 0 (size p.shape) own count (λ x y got.
        let number_is : 0 + x ≡ x = omega arith in
        let within : x < many = omega (arith, slice_get_within own x y got, count, fits.1) in
        let cell = (met f flat ports number k many to w.trail (trail_at to w.trail) x (one fits.0) refl there within).cell (element_on node to p x) (element_there f.model ports number k many to there x within) in
        subst (λ n. IsCellOf f (element_on node to p n) y) (sym number_is) (subst (IsCellOf f (element_on node to p x)) (sym (holds x y got)) cell))

    cells_from : (ps : List Port) (k : ℕ) (old new : List Route) → drop k (ports t) ≡ ps → AllByRecursion IsPort ps → AllZip FitsPort ps old → AreRoutesFrom f ports number k old → AllZip (IsMovedTo at) old new → AllZip (HoldsAt i at) old new
        → AllZip (IsCellOf f) (elements_of (place_on node (further i at)) ps) (runs i new)
    cells_from [] k [] [] e types fits are moved holds = tt
    cells_from [] k [] (v ∷ new) e types fits are moved holds = absurd moved
    cells_from [] k (w ∷ old) new e types fits are moved holds = absurd fits
    cells_from (p ∷ ps) k [] new e types fits are moved holds = absurd fits
    cells_from (p ∷ ps) k (w ∷ old) [] e types fits are moved holds = absurd moved
    cells_from (p ∷ ps) k (w ∷ old) (v ∷ new) e types fits are moved holds =
        let n = next_port (ports t) ps k p e in
        zip_both (IsCellOf f) (port_elements (place_on node (further i at)) p) (elements_of (place_on node (further i at)) ps) (run_of i v) (runs i new)
        (first_cells k p w v n.listed types.0 fits.0 (first_of f ports number k w old are) moved.0 holds.0)
        (cells_from ps (k + 1) old new n.rest types.1 fits.1 (others_of f ports number k w old are) moved.1 holds.1)

    pub run_cells : (old new : List Route) → AllByRecursion IsPort (ports t) → AllZip FitsPort (ports t) old → AreRoutes f ports number old → AllZip (IsMovedTo at) old new → AllZip (HoldsAt i at) old new
        → AllZip (IsCellOf f) (elements_of (place_on node (further i at)) (ports t)) (runs i new)
    run_cells old new types fits are moved holds = cells_from (ports t) 0 old new refl types fits (all_from f ports number old are) moved holds

-- ---- how many cells they are, and how great

pub run_length : (i : ℕ) (at : List ℕ) (ps : List Port) (old new : List Route) → AllZip FitsPort ps old → AllZip (IsMovedTo at) old new → length (runs i new) ≡ elements_at ps
run_length i at [] [] [] fits moved = refl
run_length i at [] [] (v ∷ new) fits moved = absurd moved
run_length i at [] (w ∷ old) new fits moved = absurd fits
run_length i at (p ∷ ps) [] new fits moved = absurd fits
run_length i at (p ∷ ps) (w ∷ old) [] fits moved = absurd moved
run_length i at (p ∷ ps) (w ∷ old) (v ∷ new) fits moved =
    omega (arith, length-append (run_of i v) (runs i new), length-map v.cells.items (λ c. c + i * v.stride), moved.0.many, fits.0.1, run_length i at ps old new fits.1 moved.1, sum_by-cons (λ (q : Port). size q.shape) p ps)

pub cells_small : (f : Laid) → IsFlat f → (es : List Element) (cells : List ℕ) → AllZip (IsCellOf f) es cells → AllByRecursion (λ c. c < 2 ^ 32) cells
cells_small f flat [] [] h = tt
cells_small f flat [] (c ∷ cells) h = absurd h
cells_small f flat (e ∷ es) [] h = absurd h
cells_small f flat (e ∷ es) (c ∷ cells) h =
    (omega (arith, slice_get_within f.cells c h.0.home h.0.at_cell, cells_few f.model flat.sound flat.limits, ap (length {A = Element}) flat.laid), cells_small f flat es cells h.1)
