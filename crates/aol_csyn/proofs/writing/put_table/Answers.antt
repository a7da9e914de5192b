use Rattle.std.specs.Prelude.{length, codes, decimal, ◌++◌}
use Rattle.std.proofs.Common.{ap}
use Rattle.aol_csyn.specs.Text.{numbers_text}
use Rattle.aol_csyn.proofs.Written.{adds_both, adds_as}
use Rattle.aol_csyn.proofs.writing.put_table.Goals as goal

pub returns : goal.returns
returns g c =
    let count = adds_as (codes "[" ++ decimal (length c.args.table.now.nums)) (ap (λ n. codes "[" ++ decimal n) c.len.ensures) c.put_count-2.ensures in
    let all = adds_as (numbers_text c.args.table.now.nums) (ap numbers_text c.as_slice.ensures) c.put_numbers.ensures in
    adds_both (adds_both (adds_both (adds_both c.put_count.ensures count) c.put.ensures) all) c.put-2.ensures
