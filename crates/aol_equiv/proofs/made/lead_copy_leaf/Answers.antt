use Rattle.aol_equiv.proofs.RowKinds.{copies_there}
use Rattle.aol_equiv.proofs.made.lead_copy_leaf.Goals as goal

pub lead_copies-requires-clause-copying : goal.lead_copies-requires-clause-copying
lead_copies-requires-clause-copying c row n is lt i at = copies_there c.args.flat.now.model c.requires.flat.sound c.args.leaf row is n lt i at (c.requires.kind row is)
