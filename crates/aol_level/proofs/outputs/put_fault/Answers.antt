use Rattle.std.proofs.Common.{◌∙◌}
use Rattle.aol_expr_tree.specs.declared.value.Val.TheVariants.{Bad}
use Rattle.aol_level.specs.Puts.{kept_by}
use Rattle.aol_level.proofs.Putting.{put_same}
use Rattle.aol_level.proofs.outputs.put_fault.Goals as goal

pub loop-x-preserved : goal.loop-x-preserved
loop-x-preserved c = record {
  name = c.put.ensures.same.0 ∙ c.loop-x.invariant.name;
  cells = c.put.ensures.same.1 ∙ c.loop-x.invariant.cells;
  values = put_same c.args.share.now.values c.loop-x.share.values c.put.new.self.values c.args.place c.loop-x.x (kept_by c.args.worker (Bad c.args.site)) c.loop-x.invariant.values c.put.ensures.values;
}
