use Rattle.std.proofs.Common.{◌≡◌, replicate}
use Rattle.aol_expr_tree.specs.declared.value.Val.TheVariants.{Bad}
use Rattle.aol_level.specs.Puts.{kept_by, put_from}
use Rattle.aol_level.proofs.outputs.put_fault.Given as goal

abbrev pub invariant-loop-x : goal.invariant-loop-x
invariant-loop-x l = record {
  name : l.share.name ≡ l.fn.share.name;
  cells : l.share.cells ≡ l.fn.share.cells;
  values : l.share.values ≡ put_from l.fn.share.values l.place (replicate l.x (kept_by l.worker (Bad l.site)));
}
