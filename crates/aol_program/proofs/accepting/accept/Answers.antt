use Rattle.std.proofs.Common.{rules}
use Rattle.serde_json.specs.View.{view}
use Rattle.serde_json.specs.Errors.{IsMemory}
use Rattle.aol_document.proofs.ReadTrees.{read_tree}
use Rattle.aol_program.proofs.Acceptance.{accepted_read, cause_read}
use Rattle.aol_program.proofs.accepting.accept.Goals as goal

pub accept_tree-requires : goal.accept_tree-requires
accept_tree-requires c = record { tree = read_tree c.args.bytes.now (view c.in-Ok.tree) c.in-Ok.ensures.ok.1 }

pub returns-in-Ok-clause-accepted : goal.returns-in-Ok-clause-accepted
returns-in-Ok-clause-accepted c = accepted_read c.args.bytes.now (view c.in-Ok.tree) c.accept_tree.result c.in-Ok.ensures.ok.0 c.in-Ok.ensures.ok.1 c.accept_tree.ensures.accepted

pub returns-in-Ok-clause-refused : goal.returns-in-Ok-clause-refused
returns-in-Ok-clause-refused c = cause_read c.args.bytes.now (view c.in-Ok.tree) c.accept_tree.result c.in-Ok.ensures.ok.0 c.in-Ok.ensures.ok.1 c.accept_tree.ensures.refused

pub returns-in-Err-2-clause-refused : goal.returns-in-Err-2-clause-refused
returns-in-Err-2-clause-refused c = let other : ¬ IsMemory c.in-Err.refused = search rules in c.in-Err.ensures.err other
