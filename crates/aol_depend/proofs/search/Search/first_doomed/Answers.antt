use Rattle.std.proofs.Common.{◌∙◌, ap, sym, Some, arith, reverse, refl}
use Rattle.aol_depend.proofs.Moves.{at_equal}
use Rattle.aol_depend.proofs.Finding.{first_circling, have_levels, levels_fit}
use Rattle.aol_depend.proofs.search.Search.first_doomed.Goals as goal

pub returns-in-Doomed-clause-found : goal.returns-in-Doomed-clause-found
returns-in-Doomed-clause-found c =
    first_circling c.args.needs.now c.args.self.now.marks.items c.args.self.now.levels.items c.args.self.now.ranked c.loop-instance.instance
    (at_equal c.requires.state refl refl refl (sym (ap reverse c.requires.path))) c.requires.all (omega (arith, c.loop-instance-test.true, c.len-instance-end.ensures.many))
    (c.mark.ensures ∙ ap Some c.in-Doomed.is) c.loop-instance.invariant

pub returns-clause-found : goal.returns-clause-found
returns-clause-found c =
    have_levels c.args.needs.now c.args.self.now.marks.items c.args.self.now.levels.items c.args.self.now.ranked
    (at_equal c.requires.state refl refl refl (sym (ap reverse c.requires.path))) c.requires.all
    (λ i within. c.loop-instance.invariant i (omega (arith, within, c.loop-instance-test.false, c.len-instance-end.ensures.many)))

pub returns-clause-few : goal.returns-clause-few
returns-clause-few c =
    levels_fit c.args.needs.now c.args.self.now.marks.items c.args.self.now.levels.items c.args.self.now.ranked
    (at_equal c.requires.state refl refl refl (sym (ap reverse c.requires.path))) c.requires.all
    (λ i within. c.loop-instance.invariant i (omega (arith, within, c.loop-instance-test.false, c.len-instance-end.ensures.many)))
