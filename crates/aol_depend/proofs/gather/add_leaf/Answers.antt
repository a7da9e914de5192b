use Rattle.std.proofs.Common.{length, ap, sym, ◌∙◌, arith}
use Rattle.aol_flat.specs.Cursor.{CursorOf}
use Rattle.aol_flat.specs.LeafCursor.{reads_each}
use Rattle.aol_depend.proofs.LeafRows.{leaf_in_list, leaf_gathered, leaf_done, leaf_begun, told_at, within_leaf}
use Rattle.aol_depend.proofs.gather.add_leaf.Goals as goal

pub loop-number-init : goal.loop-number-init
loop-number-init c = record {
  cursor = c.in_ok-cursor.ensures;
  many = omega (arith, ap length c.as_mut_slice-reads.ensures.value, c.in_ok-buffer.ensures.len, c.many.ensures.same, ap (λ (v : CursorOf). reads_each v.flat.model v.leaf) c.in_ok-cursor.ensures);
  gathered = leaf_begun c.args.flat.now c.args.writer_of.now c.args.leaf _ _ c.requires.before;
}

pub of-requires-clause-number : goal.of-requires-clause-number
of-requires-clause-number c = within_leaf c.loop-number.number c.leaf.result.now c.loop-number.invariant.cursor c.leaf.ensures c.loop-number-test.true

pub of-requires-clause-many : goal.of-requires-clause-many
of-requires-clause-many c = c.loop-number.invariant.many ∙ sym (ap (λ (v : CursorOf). reads_each v.flat.model v.leaf) c.loop-number.invariant.cursor)

pub add_row-requires : goal.add_row-requires
add_row-requires c = leaf_in_list c.args.flat.now c.args.writer_of.now c.args.leaf c.loop-number.number c.leaf.result.now c.of.new.into c.requires.entries c.leaf.ensures c.loop-number-test.true (told_at c.loop-number.number c.of.new.into c.loop-number.invariant.cursor c.of.ensures.reads)

pub loop-number-preserved : goal.loop-number-preserved
loop-number-preserved c = record {
  cursor = c.of.ensures.same ∙ c.loop-number.invariant.cursor;
  many = omega (arith, c.of.auto.into, c.loop-number.invariant.many);
  gathered = leaf_gathered c.args.flat.now c.args.writer_of.now c.args.leaf c.loop-number.number c.leaf.result.now _ _ c.of.new.into _ _ c.requires.few c.leaf.ensures c.loop-number-test.true c.loop-number.invariant.gathered
      (told_at c.loop-number.number c.of.new.into c.loop-number.invariant.cursor c.of.ensures.reads) (c.in_ok-add_row.ensures.list) (c.in_ok-add_row.ensures.starts);
}

pub returns : goal.returns
returns c = leaf_done c.args.flat.now c.args.writer_of.now c.args.leaf c.loop-number.number c.leaf.result.now _ _ c.leaf.ensures (omega (arith, c.loop-number-test.false, c.loop-number.auto.number-end)) c.loop-number.invariant.gathered
