use Rattle.std.proofs.Common.{◌≡◌, map, length}
use Rattle.std.specs.List.{AllByRecursion}
use Rattle.serde_json.specs.View.{view}
use Rattle.aol_model_types.specs.Reading.{elements}
use Rattle.aol_document_reading.specs.Trails.{steps_of}
use Rattle.aol_document_reading.proofs.Elements.{reads_from}
use Rattle.aol_document_reading.proofs.reading.from_tree.Reader.fill.Given as goal

abbrev pub invariant-loop-i : goal.invariant-loop-i
invariant-loop-i g l = record {
  index : length l.values.items ≡ l.i;
  read : reads_from (g.T.FromTree.reading l.self.later) (steps_of l.at) l.trees l.values.items l.i ≡ elements (g.T.FromTree.reading l.self.later) (steps_of l.at) 0 (map view l.trees);
  types : AllByRecursion g.T.FromTree.guarantees l.values.items;
}
