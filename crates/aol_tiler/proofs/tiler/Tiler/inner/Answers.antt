use Rattle.std.proofs.Common.{sym, subst}
use Rattle.aol_tiler.specs.Tiler.{IsTiler}
use Rattle.aol_tiler.proofs.UnitColumns.{inner_made, pushed_first}
use Rattle.aol_tiler.proofs.tiler.Tiler.inner.Goals as goal

pub invariant_of-result : goal.invariant_of-result
invariant_of-result c =
    let m = inner_made c.args.space.now c.args.pattern.now _ _ c.in-Some.origin c.push_units.new.made c.push_units-2.new.made c.as_slice-first.ensures.entries c.as_slice-last.ensures.entries c.requires c.in-Some.ensures.some.0
    (pushed_first _ _ _ c.new-paving.ensures c.in_ok-push_units.ensures) (pushed_first _ _ _ c.new-fitting.ensures c.in_ok-push_units-2.ensures) in
    subst IsTiler (sym m.0) m.2

pub returns-clause-made : goal.returns-clause-made
returns-clause-made c =
    inner_made c.args.space.now c.args.pattern.now _ _ c.in-Some.origin c.push_units.new.made c.push_units-2.new.made c.as_slice-first.ensures.entries c.as_slice-last.ensures.entries c.requires c.in-Some.ensures.some.0
    (pushed_first _ _ _ c.new-paving.ensures c.in_ok-push_units.ensures) (pushed_first _ _ _ c.new-fitting.ensures c.in_ok-push_units-2.ensures)
