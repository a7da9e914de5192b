use Rattle.std.proofs.Common.{◌≤◌, ◌+◌, arith, rules}
use Rattle.aol_io.proofs.Taken.{taken_past, taken_within}
use Rattle.aol_io.proofs.reading.read_all.Goals as goal

pub returns-then-len-count-clause-long : goal.returns-then-len-count-clause-long
returns-then-len-count-clause-long g c = λ _.
    taken_past _ _ _ c.pieces.bytes.items c.read.new.into c.in-Ok.count c.args.limit c.in-Ok.ensures.bytes.0 c.pieces.invariant.read c.in-Ok.ensures.bytes.1 (omega arith)

pub returns-then-len-count-clause-most : goal.returns-then-len-count-clause-most
returns-then-len-count-clause-most g c =
    taken_within _ _ _ c.pieces.bytes.items c.read.new.into c.in-Ok.count (c.args.limit + 1) c.in-Ok.ensures.bytes.0 c.pieces.invariant.read c.in-Ok.ensures.bytes.1 (omega arith)

pub returns-then-is_err-clause-not_long : goal.returns-then-is_err-clause-not_long
returns-then-is_err-clause-not_long g c = λ _.
    let room : c.in-Ok.count ≤ c.min-room.result = search rules in
    taken_within _ _ _ c.pieces.bytes.items c.read.new.into c.in-Ok.count c.args.limit c.in-Ok.ensures.bytes.0 c.pieces.invariant.read c.in-Ok.ensures.bytes.1 (omega arith)

pub returns-then-is_err-clause-most : goal.returns-then-is_err-clause-most
returns-then-is_err-clause-most g c =
    let room : c.in-Ok.count ≤ c.min-room.result = search rules in
    taken_within _ _ _ c.pieces.bytes.items c.read.new.into c.in-Ok.count (c.args.limit + 1) c.in-Ok.ensures.bytes.0 c.pieces.invariant.read c.in-Ok.ensures.bytes.1 (omega arith)
