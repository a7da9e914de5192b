use Rattle.std.proofs.Common.{◌≡◌, ◌<◌, length, get_or, sym, ap, subst, arith}
use Rattle.aol_flat.specs.declared.nodes.LeafSpot.{LeafSpot}
use Rattle.aol_flat.specs.Laid.{Laid}
use Rattle.aol_flat.specs.Instance.{leaves}
use Rattle.aol_flat.specs.NodeTable.{IsLeafSpot}
use Rattle.aol_flat.proofs.NodeRows.{count_spots, get_or-any, leaf_spot}
use Rattle.aol_flat.proofs.flat.Flat.leaf_spot.Goals as goal

pub bounds-as_slice-number : goal.bounds-as_slice-number
bounds-as_slice-number c =
    let f = c.self.inside in
    let t = c.self.invariant in
    let seen : length (leaves f.model) ≡ length (leaves c.args.self.now.model) = ap (λ (laid : Laid). length (leaves laid.model)) c.self.view_is in
    omega (arith, count_spots f.model t.sound t.limits f.tables t.nodes_are, seen, ap length c.as_slice.ensures, c.requires)

pub returns : goal.returns
returns c =
    let f = c.self.inside in
    let t = c.self.invariant in
    let none : LeafSpot = record { node = 0; reshape = 0 } in
    let seen : length (leaves f.model) ≡ length (leaves c.args.self.now.model) = ap (λ (laid : Laid). length (leaves laid.model)) c.self.view_is in
    let within : c.args.number < length (leaves f.model) = omega (arith, seen, c.requires) in
    let many = count_spots f.model t.sound t.limits f.tables t.nodes_are in
    let row : LeafSpot = get_or f.tables.spots c.args.number none in
    let is : row ≡ get_or f.tables.spots c.args.number row = get_or-any f.tables.spots c.args.number none row (omega (arith, many, within)) in
    let here : row ≡ get_or c.as_slice.result.now c.args.number none = ap (λ rows. get_or rows c.args.number none) (sym c.as_slice.ensures) in
    subst (IsLeafSpot c.args.self.now.model c.args.number) here
    (subst (λ (laid : Laid). IsLeafSpot laid.model c.args.number row) c.self.view_is (leaf_spot f.model t.sound t.limits f.tables t.nodes_are c.args.number row within is))
