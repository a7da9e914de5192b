use Rattle.std.proofs.Common.{List, subst}
use Rattle.aol_model_types.specs.declared.task.Task.{Task}
use Rattle.aol_flat.specs.Numbered.{FindsNumbers}
use Rattle.aol_flat.proofs.Laying.{bounded}
use Rattle.aol_flat.proofs.Order.{stand_on_earlier}
use Rattle.aol_flat.proofs.flat.lay.Goals as goal

pub invariant_of-from : goal.invariant_of-from
invariant_of-from c =
    let P : List Task → Type 0 = λ ts. FindsNumbers ts c.in_ok-numbers.numbers in
    record { earlier = stand_on_earlier c.args.model.now c.requires.shapes; found = subst P c.as_slice.ensures c.in_ok-numbers.ensures }

pub tables_of-requires-clause-limits : goal.tables_of-requires-clause-limits
tables_of-requires-clause-limits c = bounded c.args.model.now c.in_ok-walk.walk c.in_ok-walk.ensures
