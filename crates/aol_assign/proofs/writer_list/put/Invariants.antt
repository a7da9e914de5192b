use Rattle.std.proofs.Common.{◌≡◌, drop}
use Rattle.aol_assign.specs.WriterList.{put_all}
use Rattle.aol_assign.proofs.writer_list.put.Given as goal

abbrev pub invariant-loop-cell : goal.invariant-loop-cell
invariant-loop-cell l = put_all l.initial.list l.cells l.number ≡ put_all l.list (drop l.cell-index l.cells) l.number
