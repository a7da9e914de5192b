-- A cursor whose routes have the cells of a run.
use Rattle.std.proofs.Common.{◌≡◌, ℕ, zero, suc, ◌+◌, ◌^◌, ◌<◌, ◌≤◌, List, [], ◌∷◌, length, map, Bool, true, false, IsTrue, slice_get, sym, ◌∙◌, ap, refl, arith, subst}
use Rattle.std.specs.Bool.{OnTrue}
use Rattle.std.specs.List.{AllByRecursion, AllZip}
use Rattle.aol_shape.specs.Shape.{IsPointOf}
use Rattle.aol_trail.specs.Further.{further}
use Rattle.aol_trail.proofs.Stretches.{further_none}
use Rattle.aol_expr_tree.specs.declared.port.Port.{Port}
use Rattle.aol_model_types.specs.declared.document.Model.{Model}
use Rattle.aol_model_types.specs.declared.task.Task.{Task}
use Rattle.aol_model_types.specs.Rules.{inputs_of, outputs_of}
use Rattle.aol_model_types.specs.Types.{IsPort, IsTask}
use Rattle.aol_flat.specs.Accept.{IsFlat}
use Rattle.aol_flat.specs.Cursor.{IsRunPoint}
use Rattle.aol_flat.specs.declared.nodes.LeafSpot.{LeafSpot}
use Rattle.aol_flat.specs.declared.route.Route.{Route}
use Rattle.aol_flat.specs.declared.view.Read.{Read}
use Rattle.aol_flat.specs.declared.view.Read.TheVariants.{Cell}
use Rattle.aol_flat.specs.Instance.{leaves}
use Rattle.aol_flat.specs.Laid.{Laid, IsCellOf, IsReadOf}
use Rattle.aol_flat.specs.LeafCursor.{IsAlong, elements_at, leaf_elements, first_on}
use Rattle.aol_flat.specs.Level.{AreReadsOf, AreWritesOf}
use Rattle.aol_flat.specs.Node.{Node, space_around, place_on}
use Rattle.aol_flat.specs.NodeTable.{IsNode, IsLeafSpot}
use Rattle.aol_flat.specs.Place.{Element, elements_of}
use Rattle.aol_flat.specs.Route.{AreRoutes}
use Rattle.aol_flat.specs.Run.{AreWhole, CanFill, FitsPort, HoldsAt, IsMovedTo, ReadsCells, RunsTo, WritesCells, as_reads, runs}
use Rattle.aol_flat.proofs.Alongs.{along_point, reads_by_number, writes_by_number}
use Rattle.aol_flat.proofs.NodeAt.{known, limits_known, one_node}
use Rattle.aol_flat.proofs.PortZip.{inputs_typed, outputs_typed}
use Rattle.aol_flat.proofs.RunPoints.{run_elements, run_ports, reads_of_run, writes_of_run}
use Rattle.aol_flat.proofs.Whole.{can_fill, cells_small, fits_filled, routes_filled, run_cells, run_length}

module _ (f : Laid) (flat : IsFlat f) (leaf number : ℕ) (at : List ℕ) (spot : LeafSpot) (s : IsLeafSpot f.model leaf spot) (most : ℕ) (some : 0 < most)
    (along : (i : ℕ) → i < most → IsAlong f.model leaf (number + i) (further i at)) where
  module _ (ports : Task → List Port) (typed : (t : Task) → IsTask t → AllByRecursion IsPort (ports t)) (routes : List Route) (whole : AreWhole f ports leaf spot.node routes) (are : AreRoutes f ports spot.node routes) where
    point_there : (i : ℕ) → i < most → IsRunPoint f.model leaf (further i at)
    point_there i low = let a = along i low in record { leaf = a.of_leaf; listed = a.listed; computes = whole.computes a.of_leaf a.listed; inside = along_point f.model leaf (number + i) (further i at) a }

    around_there : (i : ℕ) → i < most → IsPointOf (space_around s.leaf.node) (further i at)
    around_there i low =
        let h = run_ports f.model flat.sound leaf spot (further i at) s (point_there i low) ports (leaf_elements ports f.model (slice_get (leaves f.model) leaf)) refl in
        subst (λ n. IsPointOf (space_around n) (further i at)) (one_node f.model spot.node h.node s.leaf.node h.task s.task h.at_node s.node).0 h.around

    types : AllByRecursion IsPort (ports s.task)
    types = typed s.task (limits_known f.model flat.sound spot.node s.leaf.node s.task s.node)

    fits : AllZip FitsPort (ports s.task) routes
    fits = whole.each s.leaf.node s.task s.node

    pub fills : AllByRecursion (CanFill at most) routes
    fills = can_fill f flat ports spot.node s.leaf.node s.task s.node at most some around_there routes types fits are

    module _ (run : ℕ) (le : run ≤ most) (new : List Route) (moved : AllZip (IsMovedTo at) routes new) (holds : (i : ℕ) → i < run → AllZip (HoldsAt i at) routes new) where
      cells_there : (i : ℕ) → i < run → AllZip (IsCellOf f) (elements_of (place_on s.leaf.node (further i at)) (ports s.task)) (runs i new)
      cells_there i low = run_cells f flat ports spot.node s.leaf.node s.task s.node at most some around_there i (omega (arith, low, le)) routes new types fits are moved (holds i low)

      pub new_whole : AreWhole f ports leaf spot.node new
      new_whole = record { computes = whole.computes; each = λ n t here. fits_filled at (ports t) routes new moved (whole.each n t here) }

      pub new_routes : AreRoutes f ports spot.node new
      new_routes = routes_filled f ports spot.node at routes new moved are

      pub count : (i : ℕ) → length (runs i new) ≡ leaf_elements ports f.model (slice_get (leaves f.model) leaf)
      count i = run_length i at (ports s.task) routes new fits moved ∙ sym (run_elements ports f.model leaf s.leaf s.task s.at (whole.computes s.leaf s.at) (known f.model spot.node s.leaf.node s.task s.node).task)

      pub small : (i : ℕ) → i < run → AllByRecursion (λ c. c < 2 ^ 32) (runs i new)
      small i low = cells_small f flat (elements_of (place_on s.leaf.node (further i at)) (ports s.task)) (runs i new) (cells_there i low)

  zip_reads : (es : List Element) (cells : List ℕ) → AllZip (IsCellOf f) es cells → AllZip (IsReadOf f) es (as_reads cells)
  zip_reads [] [] h = tt
  zip_reads [] (c ∷ cells) h = absurd h
  zip_reads (e ∷ es) [] h = absurd h
  zip_reads (e ∷ es) (c ∷ cells) h = (h.0, zip_reads es cells h.1)

  module _ (run : ℕ) (le : run ≤ most) (many : ℕ) where
    module _ (routes : List Route) (whole : AreWhole f inputs_of leaf spot.node routes) (are : AreRoutes f inputs_of spot.node routes) (new : List Route) (moved : AllZip (IsMovedTo at) routes new)
        (holds : (i : ℕ) → i < run → AllZip (HoldsAt i at) routes new) where
      reads_there : (i : ℕ) → i < run → ReadsCells f leaf (number + i) (runs i new)
      reads_there i low =
          let below : i < most = omega (arith, low, le) in
          reads_by_number f leaf (number + i) (further i at) (as_reads (runs i new)) (along i below) (λ l listed.
          subst (λ es. AllZip (IsReadOf f) es (as_reads (runs i new))) (sym (reads_of_run f.model flat.sound leaf spot (further i at) s (point_there inputs_of inputs_typed routes whole are i below) l listed))
          (zip_reads (elements_of (place_on s.leaf.node (further i at)) (inputs_of s.task)) (runs i new) (cells_there inputs_of inputs_typed routes whole are run le new moved holds i low)))

      pub reads_run : many ≡ leaf_elements inputs_of f.model (slice_get (leaves f.model) leaf) → RunsTo (ReadsCells f leaf) number run many new
      reads_run is =
          record { each = reads_there; many_are = λ i low. count inputs_of inputs_typed routes whole are run le new moved holds i ∙ sym is; small = small inputs_of inputs_typed routes whole are run le new moved holds }

    module _ (routes : List Route) (whole : AreWhole f outputs_of leaf spot.node routes) (are : AreRoutes f outputs_of spot.node routes) (new : List Route) (moved : AllZip (IsMovedTo at) routes new)
        (holds : (i : ℕ) → i < run → AllZip (HoldsAt i at) routes new) where
      writes_there : (i : ℕ) → i < run → WritesCells f leaf (number + i) (runs i new)
      writes_there i low =
          let below : i < most = omega (arith, low, le) in
          writes_by_number f leaf (number + i) (further i at) (runs i new) (along i below) (λ l listed.
          subst (λ es. AllZip (IsCellOf f) es (runs i new)) (sym (writes_of_run f.model flat.sound leaf spot (further i at) s (point_there outputs_of outputs_typed routes whole are i below) l listed))
          (cells_there outputs_of outputs_typed routes whole are run le new moved holds i low))

      pub writes_run : many ≡ leaf_elements outputs_of f.model (slice_get (leaves f.model) leaf) → RunsTo (WritesCells f leaf) number run many new
      writes_run is =
          record { each = writes_there; many_are = λ i low. count outputs_of outputs_typed routes whole are run le new moved holds i ∙ sym is; small = small outputs_of outputs_typed routes whole are run le new moved holds }

-- ---- as a cursor is seen

pub whole_seen : (f g : Laid) (ports : Task → List Port) (leaf other node : ℕ) (routes others : List Route) → g ≡ f → other ≡ leaf → others ≡ routes → AreWhole f ports leaf node routes → AreWhole g ports other node others
whole_seen f g ports leaf other node routes others same_flat same_leaf same h =
    subst (λ rs. AreWhole g ports other node rs) (sym same) (subst (λ k. AreWhole g ports k node routes) (sym same_leaf) (subst (λ (z : Laid). AreWhole z ports leaf node routes) (sym same_flat) h))

pub no_run : (gives : ℕ → List ℕ → Type 0) (begin many : ℕ) (routes : List Route) → RunsTo gives begin 0 many routes
no_run gives begin many routes = record { each = λ i low. absurd (omega (arith, low)); many_are = λ i low. absurd (omega (arith, low)); small = λ i low. absurd (omega (arith, low)) }

pub not_whole : (b : Bool) → b ≡ false → IsTrue b → ⊥
not_whole true e t = cc
not_whole false e t = cc

pub on_true : {P : Type 0} (b : Bool) → IsTrue b → OnTrue b P → P
on_true true t h = h
on_true false t h = cc
