use Rattle.std.proofs.Common.{◌+◌, sym, ap}
use Rattle.aol_shape.specs.Vectors.{plus_columns}
use Rattle.aol_tiler.proofs.Entries.{length-plus_columns}
use Rattle.aol_tiler.proofs.Extends.{extends_one}
use Rattle.aol_tiler.proofs.columns.push_combined.Goals as goal

pub returns : goal.returns
returns c =
    let made = plus_columns c.args.start.now c.args.columns.now c.args.numbers.now in
    extends_one _ _ _ _ _ made c.in_ok-vector.ensures c.in_ok-push.ensures.ok
    (ap (λ n. c.args.place + n) (sym (length-plus_columns c.args.start.now c.args.columns.now c.args.numbers.now)))
