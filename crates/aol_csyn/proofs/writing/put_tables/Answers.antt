use Rattle.std.proofs.Common.{arith, refl, subst, ap}
use Rattle.aol_csyn.specs.Stored.{tables_of}
use Rattle.aol_csyn.specs.Text.{table_text, tables_text}
use Rattle.aol_csyn.proofs.Written.{adds_then, begun_none, begun_item, begun_end}
use Rattle.aol_csyn.proofs.writing.put_tables.Goals as goal

pub loop-table-init : goal.loop-table-init
loop-table-init g c = record { count = refl; wrote = begun_none _ (tables_text 0 (tables_of c.args.tables.now)) }

pub loop-table-preserved : goal.loop-table-preserved
loop-table-preserved g c =
    let count = c.loop-table.invariant.count in
    record {
      count = omega (arith, count);
      wrote = begun_item (λ i xs. tables_text i (tables_of xs)) (λ i x. table_text i x.nums) (λ i x xs. refl) c.args.tables.now c.loop-table.table-index c.table-item.result
          c.loop-table-test.true c.table-item.is c.loop-table.invariant.wrote (adds_then c.put_table.ensures (ap (λ n. table_text n c.table-item.result.nums) count));
    }

pub returns : goal.returns
returns g c = begun_end (λ xs. tables_text c.loop-table.table-index (tables_of xs)) c.args.tables.now c.loop-table.table-index (omega arith) refl c.loop-table.invariant.wrote
