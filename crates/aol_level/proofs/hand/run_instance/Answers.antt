use Rattle.std.proofs.Common.{◌≡◌, take, length, All, ◌∙◌, ap, sym, subst, arith}
use Rattle.aol_level.specs.Puts.{CanTake}
use Rattle.aol_level.proofs.Nets.{reads_are, writes_many}
use Rattle.aol_level.proofs.Running.{written_back}
use Rattle.aol_level.proofs.hand.run_instance.Goals as goal

pub run_on-requires-clause-held : goal.run_on-requires-clause-held
run_on-requires-clause-held c =
    let n = c.requires.net in
    let many : length c.read_on-many.new.taken ≡ c.args.hand.now.taken.len = omega (arith, c.read_on-many.auto.taken, c.as_mut_slice-2.ensures.len, c.args.hand.now.taken.ok.0) in
    let back = written_back c.as_slice.result.now c.read_on-many.new.taken _ c.args.hand.now.taken.len c.as_slice.ensures.value many in
    let reads = reads_are c.args.flat.now c.model-model.ensures.flat n.0 n.1 c.args.instance c.requires.instance (take c.read_on-many.result c.read_on-many.new.taken) c.read_on-many.ensures.reads in
    subst (All (CanTake c.args.rest.now.cells)) (sym (ap (take c.read_on-many.result) back ∙ reads)) (c.requires.held n.0 n.1)

pub run_on-requires-clause-room : goal.run_on-requires-clause-room
run_on-requires-clause-room c =
    let n = c.requires.net in
    omega (arith, c.requires.room n.0 n.1, writes_many c.args.flat.now c.model-model.ensures.flat n.0 n.1 c.args.instance c.requires.instance c.leaf_of-leaf.result c.leaf_of-leaf.ensures)

pub returns-clause-many : goal.returns-clause-many
returns-clause-many c = λ net is_net.
    c.run_on.ensures.many ∙ sym (writes_many c.args.flat.now c.model-model.ensures.flat net is_net c.args.instance c.requires.instance c.leaf_of-leaf.result c.leaf_of-leaf.ensures)
