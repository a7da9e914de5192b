use Rattle.aol_lower.specs.Stored.{trees_of}
use Rattle.aol_lower.proofs.Made.{if_ok_map, made_widths, made_tests}
use Rattle.aol_lower.proofs.widths.lower_widths.Goals as goal

pub returns-clause-value : goal.returns-clause-value
returns-clause-value c = if_ok_map c.ports_test.result (λ body made. made_widths c.args.reads c.args.ins.now c.args.widths.now c.args.d c.requires.above (trees_of body) made) c.ports_test.ensures

pub returns-clause-formed : goal.returns-clause-formed
returns-clause-formed c = if_ok_map c.ports_test.result (λ body made. made_tests c.args.reads c.args.ins.now c.args.widths.now c.args.d c.requires.above (trees_of body) made) c.ports_test.ensures
