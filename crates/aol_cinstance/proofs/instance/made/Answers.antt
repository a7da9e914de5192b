use Rattle.std.proofs.Common.{◌≡◌, ◌+◌, ◌<◌, ◌^◌, arith}
use Rattle.aol_lower.specs.Stored.{trees_of}
use Rattle.aol_lower.proofs.Made.{if_ok_map}
use Rattle.aol_cinstance.proofs.MadeOf.{made_of}
use Rattle.aol_cinstance.proofs.instance.made.Goals as goal

pub returns : goal.returns
returns c =
    let few_reads : c.in_ok-reads.reads < 2 ^ 32 = omega arith in
    let few_cells : c.in_ok-cells.cells < 2 ^ 32 = omega arith in
    let start : c.args.before ≡ c.args.before + 0 = omega arith in
    if_ok_map c.choose.result (λ body made.
    made_of c.args.tables c.args.task.now c.args.before c.in_ok-reads.reads c.in_ok-cells.cells (trees_of c.in_ok-search.search) (trees_of c.in_ok-widths.widths) (trees_of c.in_ok-computed.computed) (trees_of body)
    c.as_slice.result.now c.as_slice-ins.result.now c.as_slice-wide_in.result.now c.as_slice-2.result.now c.as_slice-3.result.now c.as_slice.ensures c.as_slice-ins.ensures c.as_slice-wide_in.ensures c.as_slice-2.ensures c.as_slice-3.ensures
    c.in_ok-reads.ensures.count few_reads c.in_ok-cells.ensures few_cells c.in_ok-reads.ensures.shapes c.in_ok-search.ensures.value c.in_ok-search.ensures.formed c.in_ok-widths.ensures.value c.in_ok-widths.ensures.formed
    (c.in_ok-computed.ensures c.args.before start)
    (made c.args.tables.cells c.in_ok-cells.cells (trees_of c.in_ok-widths.widths) (trees_of c.in_ok-computed.computed) c.in_ok-sound.ensures c.in_ok-faulty.ensures)) c.choose.ensures
