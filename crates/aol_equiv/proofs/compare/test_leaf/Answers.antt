use Rattle.std.proofs.Common.{ℕ, ◌+◌, ◌<◌, List, length, get_or, sym, subst, arith}
use Rattle.std.proofs.lemmas.Option.{slice_get_within}
use Rattle.aol_flat.specs.Instance.{instances}
use Rattle.aol_flat.specs.Leaves.{IsLeafRow}
use Rattle.aol_flat.specs.declared.leaf.Leaf.{Leaf as LeafRow}
use Rattle.aol_flat.proofs.Alongs.{some_instance}
use Rattle.aol_assign.proofs.LeafNumbers.{number_listed}
use Rattle.aol_equiv.specs.Compared.{HasReadSpots}
use Rattle.aol_equiv.proofs.Keeping.{at_instance}
use Rattle.aol_equiv.proofs.Olds.{on_leaf}
use Rattle.aol_equiv.proofs.compare.test_leaf.Goals as goal

pub bounds-sides-leaf : goal.bounds-sides-leaf
bounds-sides-leaf c =
    let s = c.args.sides.now in
    let m = s.new.now.model in
    let row = c.leaf.result.now in
    let listed = number_listed m c.args.leaf row c.leaf.ensures 0 (some_instance m c.requires.compared.new_flat.sound c.args.leaf row c.leaf.ensures) in
    omega (arith, listed, c.requires.compared.comparable.alike.each)

pub bounds-sides-first : goal.bounds-sides-first
bounds-sides-first c =
    let s = c.args.sides.now in
    let m = s.new.now.model in
    let row = c.leaf.result.now in
    let listed = number_listed m c.args.leaf row c.leaf.ensures 0 (some_instance m c.requires.compared.new_flat.sound c.args.leaf row c.leaf.ensures) in
    let x = at_instance s c.requires.compared row.base (omega (arith, listed)) in
    let lt = slice_get_within (instances s.old.now.model) (get_or s.old_of.now row.base 0) x.old_instance x.at_old in
    omega (arith, lt, c.requires.compared.leaves.many)

pub reads-requires : goal.reads-requires
reads-requires c =
    let s = c.args.sides.now in
    let m = s.new.now.model in
    let row = c.leaf.result.now in
    let listed = number_listed m c.args.leaf row c.leaf.ensures 0 (some_instance m c.requires.compared.new_flat.sound c.args.leaf row c.leaf.ensures) in
    let x = at_instance s c.requires.compared row.base (omega (arith, listed)) in
    let lt = slice_get_within (instances s.old.now.model) (get_or s.old_of.now row.base 0) x.old_instance x.at_old in
    (on_leaf s.old.now.model (length (instances s.old.now.model)) s.leaves.now c.requires.compared.leaves (get_or s.old_of.now row.base 0) lt).within

pub test_instances-requires-clause-spots : goal.test_instances-requires-clause-spots
test_instances-requires-clause-spots c =
    let m = c.args.sides.now.new.now.model in
    let P : List (ℕ × ℕ) → Type 0 = λ spots. (row : LeafRow) (n : ℕ) → IsLeafRow m c.args.leaf row → n < row.count → HasReadSpots m (row.base + n) spots in
    subst P (sym c.as_slice.ensures.value) c.in_ok-spots.ensures
