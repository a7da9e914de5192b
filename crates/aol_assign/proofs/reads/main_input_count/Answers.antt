use Rattle.std.proofs.Common.{[], sym, ◌∙◌, ap}
use Rattle.std.specs.Prelude.{sum}
use Rattle.aol_flat.specs.Instance.{port_sizes}
use Rattle.aol_flat.specs.Tasks.{main_inputs}
use Rattle.aol_assign.proofs.MainCells.{element_count}
use Rattle.aol_assign.proofs.reads.main_input_count.Goals as goal

pub returns : goal.returns
returns c =
    c.total.ensures ∙ (ap sum (c.as_slice.ensures.value ∙ c.in_ok-sizes.ensures)
    ∙ (ap (λ m. sum (port_sizes (main_inputs m))) c.model.ensures.same
    ∙ sym (element_count [] (main_inputs c.args.flat.now.model))))
