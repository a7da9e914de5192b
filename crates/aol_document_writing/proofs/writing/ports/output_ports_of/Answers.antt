use Rattle.std.proofs.Common.{map, ap, ◌∙◌}
use Rattle.std.proofs.lemmas.Iterator.{YieldsList-from_slice, YieldsList-from_zip}
use Rattle.std.proofs.lemmas.Iterator.Consumers.{YieldsList-end}
use Rattle.serde_json.specs.Data.{array}
use Rattle.serde_json.proofs.Views.{view-Array}
use Rattle.aol_model_types.specs.Writing.{items_from, output_port_tree}
use Rattle.aol_document_writing.proofs.writing.ports.output_ports_of.Goals as goal

pub returns-clause-tree : goal.returns-clause-tree
returns-clause-tree c =
    let pairs = YieldsList-end (YieldsList-from_zip (YieldsList-from_slice c.args.ports.now cc) (YieldsList-from_slice c.args.widths.now cc)) c.loop-port.yielded c.loop-port.port-iterator c.loop-port.yielded_by c.next.result c.next.new.self c.in-None.is c.next.ensures.steps in
    view-Array c.loop-port.trees ∙ ap (λ ds. array (items_from ds)) (c.loop-port.invariant.trees ∙ ap (map output_port_tree) pairs.0)
