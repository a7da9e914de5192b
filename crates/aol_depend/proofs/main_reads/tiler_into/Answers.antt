use Rattle.std.proofs.Common.{List, sym, subst, ◌∙◌}
use Rattle.std.specs.List.{IsAmong}
use Rattle.aol_model_types.specs.declared.task.TilerOn.{TilerOn}
use Rattle.aol_flat.proofs.Names.{same-equal}
use Rattle.aol_depend.proofs.main_reads.tiler_into.Goals as goal

pub returns-then-are_same : goal.returns-then-are_same
returns-then-are_same c =
    let P : List TilerOn → Type 0 = λ ts. IsAmong ts c.on-item.result in
    record {
      listed = subst P c.as_slice-on-items.ensures (c.loop-on.on-index, (c.loop-on-test.true, c.on-item.is));
      inner_is = same-equal c.on-item.result.inner c.args.inner.now (sym c.are_same.ensures ∙ c.if-are_same.true);
    }
