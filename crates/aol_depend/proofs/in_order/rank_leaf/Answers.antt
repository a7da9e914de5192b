use Rattle.std.proofs.Common.{ℕ, List, length, ap, sym, ◌∙◌, arith, subst}
use Rattle.aol_flat.specs.Cursor.{CursorOf}
use Rattle.aol_flat.specs.LeafCursor.{reads_each}
use Rattle.aol_depend.specs.InOrder.{AreLow, IsAbove}
use Rattle.aol_depend.proofs.InOrder.{leaf_unranked, leaf_ranked, all_leaf_ranked, before_few, levels_low}
use Rattle.aol_depend.proofs.LeafRows.{leaf_in_list, told_at, within_leaf}
use Rattle.aol_depend.proofs.in_order.rank_leaf.Goals as goal

pub loop-number-init : goal.loop-number-init
loop-number-init c = record {
  cursor = c.in_ok-cursor.ensures;
  many = omega (arith, ap length c.as_mut_slice-reads.ensures.value, c.in_ok-buffer.ensures.len, c.many.ensures.same, ap (λ (v : CursorOf). reads_each v.flat.model v.leaf) c.in_ok-cursor.ensures);
  ranked = leaf_unranked c.args.flat.now c.args.writer_of.now c.args.leaf _ c.requires.before;
}

pub of-requires-clause-number : goal.of-requires-clause-number
of-requires-clause-number c = within_leaf c.loop-number.number c.leaf.result.now c.loop-number.invariant.cursor c.leaf.ensures c.loop-number-test.true

pub of-requires-clause-many : goal.of-requires-clause-many
of-requires-clause-many c = c.loop-number.invariant.many ∙ sym (ap (λ (v : CursorOf). reads_each v.flat.model v.leaf) c.loop-number.invariant.cursor)

pub level_above-requires-clause-list : goal.level_above-requires-clause-list
level_above-requires-clause-list c =
    leaf_in_list c.args.flat.now c.args.writer_of.now c.args.leaf c.loop-number.number c.leaf.result.now c.of.new.into c.requires.entries c.leaf.ensures c.loop-number-test.true
    (told_at c.loop-number.number c.of.new.into c.loop-number.invariant.cursor c.of.ensures.reads)

pub level_above-requires-clause-low : goal.level_above-requires-clause-low
level_above-requires-clause-low c =
    let few = before_few c.args.flat.now.model c.args.leaf c.loop-number.number c.leaf.result.now c.requires.few c.leaf.ensures c.loop-number-test.true in
    subst AreLow (sym c.as_slice.ensures.value) (levels_low c.args.flat.now c.args.writer_of.now _ c.loop-number.levels.items c.loop-number.invariant.ranked few)

pub loop-number-preserved : goal.loop-number-preserved
loop-number-preserved c =
    let P : List ℕ → Type 0 = λ ls. IsAbove ls c.args.writer_of.now c.of.new.into c.in-Some.level in
    record {
      cursor = c.of.ensures.same ∙ c.loop-number.invariant.cursor;
      many = omega (arith, c.of.auto.into, c.loop-number.invariant.many);
      ranked = leaf_ranked c.args.flat.now c.args.writer_of.now c.args.leaf c.loop-number.number c.loop-number.levels.items c.of.new.into c.in-Some.level c.push.new.levels.items c.loop-number.invariant.ranked
          (told_at c.loop-number.number c.of.new.into c.loop-number.invariant.cursor c.of.ensures.reads) (subst P c.as_slice.ensures.value c.in-Some.ensures) c.in_ok-push.ensures;
    }

pub returns : goal.returns
returns c all =
    all_leaf_ranked c.args.flat.now c.args.writer_of.now c.args.leaf c.loop-number.number c.leaf.result.now _ c.leaf.ensures (omega (arith, c.loop-number-test.false, c.loop-number.auto.number-end)) c.loop-number.invariant.ranked
