use Rattle.std.proofs.Common.{◌≡◌, ◌∙◌, length, map, Some, sym, ap, arith}
use Rattle.aol_shape.specs.Lists.{numbers_below}
use Rattle.aol_flat.proofs.Totals.{length-numbers}
use Rattle.aol_scatter.specs.Cells.{without}
use Rattle.aol_runner.proofs.FirstCells.{first_differ, first_held, fresh_held, opened, length_without, open_held}
use Rattle.aol_runner.proofs.opening.put_inputs.Goals as goal

pub returns-in_err-cells-clause-whole : goal.returns-in_err-cells-clause-whole
returns-in_err-cells-clause-whole c = fresh_held c.args.rest.now.cells c.requires.fresh

pub claim-share-requires-clause-distinct : goal.claim-share-requires-clause-distinct
claim-share-requires-clause-distinct c = first_differ c.from_vec.result c.numbers_in-count.result (c.from_vec.ensures ∙ c.in_ok-cells.ensures)

pub claim-share-requires-clause-unclaimed : goal.claim-share-requires-clause-unclaimed
claim-share-requires-clause-unclaimed c =
    first_held c.args.rest.now.cells c.from_vec.result c.numbers_in-count.result c.requires.fresh (c.from_vec.ensures ∙ c.in_ok-cells.ensures) (omega (arith, c.requires.room, c.numbers_in-count.ensures))

pub put_arrays-requires-clause-room : goal.put_arrays-requires-clause-room
put_arrays-requires-clause-room c =
    let is = c.claim-share.ensures.cells ∙ (c.from_vec.ensures ∙ c.in_ok-cells.ensures) in
    let many : length c.claim-share.result.cells ≡ c.numbers_in-count.result = ap length is ∙ length-numbers 0 c.numbers_in-count.result in
    omega (arith, many, c.numbers_in-count.ensures)

pub put_arrays-requires-clause-few : goal.put_arrays-requires-clause-few
put_arrays-requires-clause-few c =
    let is = c.claim-share.ensures.cells ∙ (c.from_vec.ensures ∙ c.in_ok-cells.ensures) in
    let many : length c.claim-share.result.cells ≡ c.numbers_in-count.result = ap length is ∙ length-numbers 0 c.numbers_in-count.result in
    omega (arith, many, c.numbers_in-count.type_inv)

pub returns-clause-cells : goal.returns-clause-cells
returns-clause-cells c = c.settle-cells.ensures.len ∙ (ap length c.claim-share.ensures.rest ∙ length_without 0 c.from_vec.result c.args.rest.now.cells)

pub returns-clause-open : goal.returns-clause-open
returns-clause-open c =
    let made : c.from_vec.result ≡ numbers_below c.numbers_in-count.result = c.from_vec.ensures ∙ c.in_ok-cells.ensures in
    let same : c.put_arrays.new.share.cells ≡ c.from_vec.result = c.put_arrays.ensures.same.1 ∙ c.claim-share.ensures.cells in
    opened c.args.inputs.now c.numbers_in-count.result c.args.rest.now.cells c.claim-share.new.self.cells c.settle-cells.new.self.cells c.put_arrays.new.share.cells c.claim-share.result.values
    c.requires.fresh (same ∙ made) c.numbers_in-count.ensures (c.claim-share.ensures.as_many ∙ ap length (sym c.put_arrays.ensures.same.1))
    (c.claim-share.ensures.rest ∙ ap (λ ks. without ks c.args.rest.now.cells) (sym same))
    (c.settle-cells.ensures.values ∙ ap (map Some) c.put_arrays.ensures.values) c.settle-cells.ensures.others (returns-clause-cells c)

pub returns-clause-whole : goal.returns-clause-whole
returns-clause-whole c = open_held c.args.inputs.now c.settle-cells.new.self.cells (returns-clause-open c)
