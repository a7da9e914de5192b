use Rattle.std.proofs.Common.{◌<◌, arith}
use Rattle.aol_cread.proofs.Loops.{expr_room}
use Rattle.aol_cread.proofs.bytes.Reader.+expression.Goals as goal

pub expr-returns : goal.expr-returns
expr-returns t c =
    let some : 0 < c.args.room = omega arith in
    rw (expr_room c.args.room c.args.self.now.left.now some) c.deeper.ensures
