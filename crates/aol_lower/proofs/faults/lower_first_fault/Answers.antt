use Rattle.std.proofs.Common.{◌<◌, ◌^◌, arith}
use Rattle.aol_lower.specs.Stored.{trees_of}
use Rattle.aol_lower.proofs.Made.{if_ok_map, made_first, made_search}
use Rattle.aol_lower.proofs.faults.lower_first_fault.Goals as goal

pub returns-clause-value : goal.returns-clause-value
returns-clause-value c =
    let few : c.args.count < 2 ^ 32 = omega arith in
    if_ok_map c.first_fault.result (λ body made. made_first c.args.reads c.args.count c.args.d c.requires.above few (trees_of body) made) c.first_fault.ensures

pub returns-clause-formed : goal.returns-clause-formed
returns-clause-formed c =
    let few : c.args.count < 2 ^ 32 = omega arith in
    if_ok_map c.first_fault.result (λ body made. made_search c.args.reads c.args.count c.args.d c.requires.above few (trees_of body) made) c.first_fault.ensures
