use Rattle.std.proofs.Common.{◌≡◌, ◌++◌, take, ◌∙◌, ap, arith, length}
use Rattle.aol_level.proofs.Nets.{writes_are}
use Rattle.aol_level.proofs.Running.{written_back}
use Rattle.aol_level.proofs.listing.add_cells.Goals as goal

pub returns-clause-cells : goal.returns-clause-cells
returns-clause-cells c = λ net is_net.
    let many : length c.write_on-many.new.written ≡ c.args.listing.now.written.len = omega (arith, c.write_on-many.auto.written, c.as_mut_slice-2.ensures.len, c.args.listing.now.written.ok.0) in
    let back = written_back c.as_slice.result.now c.write_on-many.new.written _ c.args.listing.now.written.len c.as_slice.ensures.value many in
    c.in_ok-extend_from_slice.ensures.items ∙ ap (λ xs. c.args.cells.now.items ++ xs)
    (ap (take c.write_on-many.result) back ∙ writes_are c.args.flat.now c.model-model.ensures.flat net is_net c.args.instance c.requires.instance (take c.write_on-many.result c.write_on-many.new.written) c.write_on-many.ensures.writes)
