use Rattle.std.proofs.Common.{◌≡◌, ◌+◌, ◌<◌, List, sym, ◌∙◌, ap, subst}
use Rattle.aol_shape.specs.Shape.{IsPointOf, rank}
use Rattle.aol_trail.specs.Further.{further}
use Rattle.aol_flat.specs.Instance.{Leaf}
use Rattle.aol_flat.proofs.Alongs.{along_point}
use Rattle.aol_flat.proofs.Lefts.{along_further}
use Rattle.aol_flat.proofs.RunPoints.{one_leaf}
use Rattle.aol_flat.proofs.leaf_cursor.Along.left.Goals as goal

pub left_in-requires : goal.left_in-requires
left_in-requires c =
    let a = c.args.self.now in
    let m = a.flat.now.model in
    let r = c.leaf-row.ensures in
    let same : c.as_slice.result.now ≡ c.requires.of_leaf.space = c.as_slice.ensures ∙ (r.space ∙ ap (λ (l : Leaf). l.space) (one_leaf m a.leaf r.leaf c.requires.of_leaf r.at c.requires.listed)) in
    subst (λ s. IsPointOf s c.as_slice-2.result.now) (sym same) (subst (IsPointOf c.requires.of_leaf.space) (sym c.as_slice-2.ensures.value) (along_point m a.leaf a.number a.at.items c.requires))

pub returns-clause-along : goal.returns-clause-along
returns-clause-along c = λ i less.
    let a = c.args.self.now in
    let m = a.flat.now.model in
    let r = c.leaf-row.ensures in
    let same : c.as_slice.result.now ≡ c.requires.of_leaf.space = c.as_slice.ensures ∙ (r.space ∙ ap (λ (l : Leaf). l.space) (one_leaf m a.leaf r.leaf c.requires.of_leaf r.at c.requires.listed)) in
    let point = c.as_slice-2.ensures.value in
    let inside : IsPointOf c.requires.of_leaf.space (further i a.at.items) = subst (λ s. IsPointOf s (further i a.at.items)) same (subst (λ p. IsPointOf c.as_slice.result.now (further i p)) point (c.left_in.ensures.inside i less)) in
    let ranks = subst (λ s. rank s (further i a.at.items) ≡ rank s a.at.items + i) same (subst (λ p. rank c.as_slice.result.now (further i p) ≡ rank c.as_slice.result.now p + i) point (c.left_in.ensures.rank i less)) in
    along_further m a.leaf a.number a.at.items (further i a.at.items) i c.requires inside ranks
