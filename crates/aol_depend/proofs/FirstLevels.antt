-- The instances of a leaf that reads main inputs alone need none.
use Rattle.std.proofs.Common.{◌≡◌, ◌<◌, ℕ, ◌+◌, List, [], ◌∷◌, ◌++◌, Option, Some, sym, ◌∙◌, ap, subst, arith}
use Rattle.std.specs.List.{IsAmong, AllZip}
use Rattle.aol_shape.specs.Shape.{point_at}
use Rattle.aol_flat.specs.Instance.{Instance, instance_on, read_elements}
use Rattle.aol_flat.specs.Laid.{Laid, IsReadOf}
use Rattle.aol_flat.specs.LeafCursor.{first_on}
use Rattle.aol_flat.specs.Leaves.{IsLeafRow}
use Rattle.aol_flat.specs.Level.{AreReadsOf, writers_read, above_all}
use Rattle.aol_flat.specs.declared.leaf.Leaf.{Leaf as LeafRow}
use Rattle.aol_flat.specs.declared.view.Read.{Read}
use Rattle.aol_depend.specs.InOrder.{IsAbove, RanksOf, RanksLeaf}
use Rattle.aol_depend.specs.MainReads.{ReadsMainInputs}
use Rattle.aol_depend.proofs.InOrder.{leaf_unranked, leaf_ranked, all_leaf_ranked}
use Rattle.aol_depend.proofs.LeafRows.{numbered}
use Rattle.aol_depend.proofs.MainReads.{main_reads}

-- where nothing that is read has a writer, the level is 0
above_bare : (levels : List ℕ) (list : List (Option ℕ)) (rs : List Read) → writers_read list rs ≡ [] → IsAbove levels list rs 0
above_bare levels list rs none = record {
  known = λ k a. let P : List ℕ → Type 0 = λ ks. IsAmong ks k in absurd (let b = subst P none a in omega (arith, b.1.0));
  is = sym (ap (above_all levels) none);
}

module _ (f : Laid) (leaf : ℕ) (row : LeafRow) (r : IsLeafRow f.model leaf row) (reads : ReadsMainInputs f leaf) where
  pub first_leaf_begun : (old : List ℕ) → RanksOf f leaf 0 old old
  first_leaf_begun old list bare h = leaf_unranked f list leaf old h

  pub first_leaf_more : (number : ℕ) (old levels more : List ℕ) → number < row.count → RanksOf f leaf number old levels → more ≡ levels ++ 0 ∷ [] → RanksOf f leaf (number + 1) old more
  first_leaf_more number old levels more low before added list bare h =
      let i = instance_on r.leaf (point_at r.leaf.space number) in
      let all = main_reads f (read_elements f.model i) (reads r.leaf number r.at (omega (arith, low, r.count))) in
      leaf_ranked f list leaf number levels all.reads 0 more (before list bare h) (read_by i all.reads all.are) (above_bare levels list all.reads (all.none list bare)) added
    where
      read_by : (i : Instance) (rs : List Read) → AllZip (IsReadOf f) (read_elements f.model (instance_on r.leaf (point_at r.leaf.space number))) rs → AreReadsOf f (first_on f.model leaf + number) rs
      read_by i rs zip j got =
          let both : Some (instance_on r.leaf (point_at r.leaf.space number)) ≡ Some j = sym (numbered f.model leaf number row r low) ∙ got in
          let one : instance_on r.leaf (point_at r.leaf.space number) ≡ j = cc in
          let P : Instance → Type 0 = λ z. AllZip (IsReadOf f) (read_elements f.model z) rs in
          subst P one zip

  pub first_leaf_done : (number : ℕ) (old levels : List ℕ) → number ≡ row.count → RanksOf f leaf number old levels → RanksLeaf f leaf old levels
  first_leaf_done number old levels all h list bare before = all_leaf_ranked f list leaf number row levels r all (h list bare before)
