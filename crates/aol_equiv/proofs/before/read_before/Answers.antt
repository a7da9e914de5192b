use Rattle.std.proofs.Common.{◌≡◌, length, get_or, sym, ◌∙◌, arith}
use Rattle.aol_equiv.proofs.Olds.{on_leaf, many_there, base_under, number_on, reads_are}
use Rattle.aol_flat.specs.Instance.{instances}
use Rattle.aol_equiv.proofs.before.read_before.Goals as goal

pub read_elsewhere-requires-clause-on : goal.read_elsewhere-requires-clause-on
read_elsewhere-requires-clause-on c = on_leaf c.args.flat.now.model (length (instances c.args.flat.now.model)) c.args.leaves.now c.requires.listed c.args.instance c.requires.within

pub leaf-requires : goal.leaf-requires
leaf-requires c = (on_leaf c.args.flat.now.model (length (instances c.args.flat.now.model)) c.args.leaves.now c.requires.listed c.args.instance c.requires.within).within

pub overflow_sub-instance : goal.overflow_sub-instance
overflow_sub-instance c =
    let f = c.args.flat.now in
    let leaf = get_or c.args.leaves.now c.args.instance 0 in
    let here : leaf ≡ c.args.at = omega arith in
    let on = on_leaf f.model (length (instances f.model)) c.args.leaves.now c.requires.listed c.args.instance c.requires.within in
    let under = base_under f c.args.reads.now leaf c.args.instance c.requires.cursor (c.requires.at ∙ sym here) on c.leaf.result.now c.leaf.ensures in
    omega (arith, under)

pub of-requires-clause-number : goal.of-requires-clause-number
of-requires-clause-number c =
    let f = c.args.flat.now in
    let leaf = get_or c.args.leaves.now c.args.instance 0 in
    let here : leaf ≡ c.args.at = omega arith in
    let on = on_leaf f.model (length (instances f.model)) c.args.leaves.now c.requires.listed c.args.instance c.requires.within in
    number_on f c.args.reads.now leaf c.args.instance c.requires.cursor (c.requires.at ∙ sym here) on c.leaf.result.now c.leaf.ensures

pub of-requires-clause-many : goal.of-requires-clause-many
of-requires-clause-many c =
    let f = c.args.flat.now in
    let leaf = get_or c.args.leaves.now c.args.instance 0 in
    let here : leaf ≡ c.args.at = omega arith in
    let on = on_leaf f.model (length (instances f.model)) c.args.leaves.now c.requires.listed c.args.instance c.requires.within in
    many_there f c.args.reads.now leaf c.args.instance c.requires.cursor (c.requires.at ∙ sym here) on (length c.args.into.now) c.requires.within c.requires.many

pub returns-clause-reads : goal.returns-clause-reads
returns-clause-reads c =
    let f = c.args.flat.now in
    let leaf = get_or c.args.leaves.now c.args.instance 0 in
    let here : leaf ≡ c.args.at = omega arith in
    let on = on_leaf f.model (length (instances f.model)) c.args.leaves.now c.requires.listed c.args.instance c.requires.within in
    reads_are f c.args.reads.now leaf c.args.instance c.requires.cursor (c.requires.at ∙ sym here) on c.leaf.result.now c.leaf.ensures c.of.new.into c.of.ensures.reads
