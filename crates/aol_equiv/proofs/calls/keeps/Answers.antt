use Rattle.aol_equiv.specs.declared.compare.Sides.{Sides}
use Rattle.aol_equiv.proofs.Endings.{kept_ok, kept_agrees}
use Rattle.aol_equiv.proofs.calls.keeps.Goals as goal

pub returns-clause-agrees : goal.returns-clause-agrees
returns-clause-agrees c =
    let s : Sides = record {
      alloc = c.args.alloc;
      old = c.args.old;
      new = c.args.new;
      old_ends = c.as_slice.result;
      new_ends = c.as_slice-2.result;
      old_of = c.args.old_of;
      leaves = c.as_slice-3.result;
    } in
    kept_agrees c.args.old.now.model c.args.new.now.model c.args.old_of.now c.model.ensures.flat.sound c.model-2.ensures.flat.sound c.model-2.ensures.flat.limits c.requires.comparable c.test_all.result
    (kept_ok s c.test_all.result c.test_all.ensures)
