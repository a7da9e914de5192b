use Rattle.std.proofs.Common.{◌∙◌}
use Rattle.aol_allocate.proofs.AllInstances.{all_are, all_below, all_placed}
use Rattle.aol_allocate.proofs.instances.allocate.Goals as goal

pub place_entries-requires-clause-none : goal.place_entries-requires-clause-none
place_entries-requires-clause-none c = c.in_ok-rows.ensures.none c.args.workers

pub new-requires : goal.new-requires
new-requires c =
    all_below c.args.flat.now.model c.args.entries.now c.args.workers c.in_ok-of_instance.of_instance c.requires.some c.requires.bound
    (all_are c.args.flat.now.model c.args.entries.now c.as_slice.result.now c.args.workers c.place_entries.new.rows c.as_slice-2.result.now c.in_ok-of_instance.of_instance
    c.in_ok-of_instance.ensures c.as_slice-2.ensures c.in_ok-place_entries.ensures.1 c.as_slice.ensures)

pub returns-clause-of_instance : goal.returns-clause-of_instance
returns-clause-of_instance c =
    c.new.ensures.of_instance
    ∙ all_are c.args.flat.now.model c.args.entries.now c.as_slice.result.now c.args.workers c.place_entries.new.rows c.as_slice-2.result.now c.in_ok-of_instance.of_instance
    c.in_ok-of_instance.ensures c.as_slice-2.ensures c.in_ok-place_entries.ensures.1 c.as_slice.ensures

pub returns-clause-placement : goal.returns-clause-placement
returns-clause-placement c =
    all_placed c.args.flat.now.model c.args.entries.now c.args.workers c.new.result.of_instance c.new.result.workers c.requires.some c.requires.bound
    (c.new.ensures.of_instance
    ∙ all_are c.args.flat.now.model c.args.entries.now c.as_slice.result.now c.args.workers c.place_entries.new.rows c.as_slice-2.result.now c.in_ok-of_instance.of_instance
    c.in_ok-of_instance.ensures c.as_slice-2.ensures c.in_ok-place_entries.ensures.1 c.as_slice.ensures)
    c.new.ensures.workers
