use Rattle.std.proofs.Common.{◌≡◌, map}
use Rattle.std.specs.List.{AllByRecursion}
use Rattle.serde_json.specs.View.{view}
use Rattle.aol_model_types.specs.Trees.{IsWritten}
use Rattle.aol_model_types.specs.Writing.{input_port_tree}
use Rattle.aol_document_writing.proofs.writing.ports.input_ports_of.Given as goal

abbrev pub invariant-loop-port : goal.invariant-loop-port
invariant-loop-port l = record {
  trees : map view l.trees.items ≡ map input_port_tree (map (λ p. (p.0.now, p.1.now)) l.yielded);
  written : AllByRecursion IsWritten (map view l.trees.items);
}
