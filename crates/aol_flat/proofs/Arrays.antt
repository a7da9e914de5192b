-- Ranks of points of joined shapes, and the addresses of tilers.
use Rattle.std.proofs.Common.{◌≡◌, ℕ, ◌+◌, ◌*◌, ◌<◌, ◌&&◌, ◌==◌, List, [], ◌∷◌, ◌++◌, length, take, drop, Some, slice_get, sym, ◌∙◌, ap, arith}
use Rattle.std.specs.List.{AllByRecursion}
use Rattle.std.proofs.Math.Nat.{mul_assoc}
use Rattle.std.proofs.Math.Seq.{take-append_seam, drop-append_seam}
use Rattle.std.proofs.lemmas.Bool.{eqb-true}
use Rattle.aol_shape.specs.Shape.{size, rank, point_at, IsPointOf, IsEntry, IsShape}
use Rattle.aol_shape.proofs.Points.{point_at-rank, point_at-is, rank-point_at}
use Rattle.aol_shape.proofs.Sizes.{size_both}
use Rattle.aol_tiler.specs.Makers.{IsIndex, IsAddressed}
use Rattle.aol_tiler.specs.Matrices.{TilerOf}
use Rattle.aol_tiler.specs.Tiler.{is_over, Fits, address, address_point}
use Rattle.aol_expr_tree.specs.declared.port.Port.{Port}
use Rattle.aol_model_types.specs.declared.document.Model.{Model}
use Rattle.aol_flat.specs.Follow.{element_on}
use Rattle.aol_flat.specs.Laid.{homes_of}
use Rattle.aol_flat.specs.Node.{Node, space_around, place_on}
use Rattle.aol_flat.specs.NodeTable.{BeginsAt}
use Rattle.aol_flat.proofs.Inside.{point_length, point_both}
use Rattle.aol_flat.proofs.Names.{both-true}
use Rattle.aol_flat.proofs.Shapes.{address_inside}

pub rank_both : (a b x y : List ℕ) → IsPointOf a x → rank (a ++ b) (x ++ y) ≡ rank a x * size b + rank b y
rank_both [] b [] y h = omega arith
rank_both [] b (i ∷ x) y h = absurd h
rank_both (n ∷ a) b [] y h = absurd h
rank_both (n ∷ a) b (i ∷ x) y h =
    ap (λ z. i * z + rank (a ++ b) (x ++ y)) (size_both a b)
    ∙ (ap (λ z. i * (size a * size b) + z) (rank_both a b x y h.1)
    ∙ omega (arith, mul_assoc i (size a) (size b)))

-- the indices of a point of a shape are small
pub small_point : (shape x : List ℕ) → AllByRecursion IsEntry shape → IsPointOf shape x → AllByRecursion IsIndex x
small_point [] [] h k = tt
small_point [] (i ∷ x) h k = absurd k
small_point (n ∷ shape) [] h k = absurd k
small_point (n ∷ shape) (i ∷ x) h k = (omega (arith, h.0, k.0), small_point shape x h.1 k.1)

-- a tiler that fits can be asked for the address of a pair
pub addressed : (t : TilerOf) (array space pattern r i : List ℕ) → Fits t array space pattern → IsShape space → IsShape pattern → IsPointOf space r → IsPointOf pattern i → IsAddressed t array r i
addressed t array space pattern r i h s p k l =
    let over = both-true (is_over t array && length t.paving == length space) (length t.fitting == length pattern) h in
    let entries = both-true (is_over t array) (length t.paving == length space) over.0 in
    record {
      over = entries.0;
      repetition = point_length space r k ∙ sym (eqb-true (length t.paving) (length space) entries.1);
      element = point_length pattern i l ∙ sym (eqb-true (length t.fitting) (length pattern) over.1);
      repetition_small = small_point space r s.entry k;
      element_small = small_point pattern i p.entry l;
    }

-- the point with the rank of an address is that of the address
pub address_back : (t : TilerOf) (array space pattern r i : List ℕ) → Fits t array space pattern → IsShape array → point_at array (address t array r i) ≡ address_point t array r i
address_back t array space pattern r i h s = point_at-rank array (address_point t array r i) (address_inside t array space pattern r i h s)

-- the cell of an element of an array that is stored
pub stored_cell : (m : Model) (node : Node) (p : Port) (first : ℕ) (at : List ℕ) (x : ℕ) → BeginsAt m node p first → IsPointOf (space_around node) at → x < size p.shape
    → slice_get (homes_of m) (first + (rank (space_around node) at * size p.shape + x)) ≡ Some (element_on node at p x)
stored_cell m node p first at x begins around within =
    let point : IsPointOf p.shape (point_at p.shape x) = point_at-is p.shape x within in
    let count : length (space_around node) ≡ length at = sym (point_length (space_around node) at around) in
    let number : rank (space_around node ++ p.shape) (at ++ point_at p.shape x) ≡ rank (space_around node) at * size p.shape + x =
    rank_both (space_around node) p.shape at (point_at p.shape x) around ∙ ap (λ z. rank (space_around node) at * size p.shape + z) (rank-point_at p.shape x within) in
    let front : take (length (space_around node)) (at ++ point_at p.shape x) ≡ at = ap (λ n. take n (at ++ point_at p.shape x)) count ∙ take-append_seam at (point_at p.shape x) in
    let back : drop (length (space_around node)) (at ++ point_at p.shape x) ≡ point_at p.shape x = ap (λ n. drop n (at ++ point_at p.shape x)) count ∙ drop-append_seam at (point_at p.shape x) in
    ap (λ n. slice_get (homes_of m) (first + n)) (sym number)
    ∙ (begins (at ++ point_at p.shape x) (point_both (space_around node) p.shape at (point_at p.shape x) around point)
    ∙ (ap (λ a. Some (record { place = place_on node a; port = p.name; index = drop (length (space_around node)) (at ++ point_at p.shape x) })) front
    ∙ ap (λ a. Some (record { place = place_on node at; port = p.name; index = a })) back))
