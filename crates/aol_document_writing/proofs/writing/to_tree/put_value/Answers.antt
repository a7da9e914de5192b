use Rattle.serde_json.specs.View.{view, members_view}
use Rattle.aol_document_writing.proofs.Written.{more_written}
use Rattle.aol_document_writing.proofs.writing.to_tree.put_value.Goals as goal

pub returns-clause-written : goal.returns-clause-written
returns-clause-written c = more_written c.text.result.now (view c.args.tree) (members_view c.args.object.now.entries) (members_view c.put.new.map.entries) c.in_ok-put.ensures.ok c.requires
