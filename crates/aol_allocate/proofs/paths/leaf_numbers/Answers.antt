use Rattle.std.proofs.Common.{◌≡◌, ◌+◌, ◌-◌, drop, ◌∙◌, ap, arith}
use Rattle.std.specs.BTreeMap.{get_by_text}
use Rattle.aol_flat.specs.Instance.{leaves}
use Rattle.aol_allocate.specs.Placement.{leaf_from}
use Rattle.aol_allocate.proofs.LeafPaths.{leaf_more}
use Rattle.aol_allocate.proofs.paths.leaf_numbers.Goals as goal

pub loop-at-preserved : goal.loop-at-preserved
loop-at-preserved c =
    let m = c.args.flat.now.model in
    let step : c.loop-at.at ≡ c.loop-at.at - 1 + 1 = omega arith in
    let row = c.leaf.ensures in
    record {
      within = omega arith;
      found = λ q.
          leaf_more m (leaves m) (c.loop-at.at - 1) row.leaf c.leaf.result.now.kind c.leaf.result.now.path q (get_by_text c.loop-at.numbers q) (get_by_text c.set_leaf.new.numbers q) row.at row.kind
          row.path (c.loop-at.invariant.found q ∙ ap (λ n. leaf_from m n (drop n (leaves m)) q) step) (c.in_ok-set_leaf.ensures q);
    }
