use Rattle.std.proofs.Common.{◌≡◌, length, sym, ◌∙◌, subst}
use Rattle.aol_model_types.specs.Rules.{outputs_of}
use Rattle.aol_flat.specs.Cursor.{AreWritesAt}
use Rattle.aol_flat.proofs.RunPoints.{run_point, copy_point, copy_elements, one_written}
use Rattle.aol_flat.proofs.flat.Flat.writes_on.Goals as goal

pub run_writes-requires-clause-point : goal.run_writes-requires-clause-point
run_writes-requires-clause-point c = run_point c.args.self.now.model c.args.leaf c.args.at.now c.leaf.result.now _ c.requires.point c.leaf.ensures c.in-Elementary.is

pub copy_write-requires : goal.copy_write-requires
copy_write-requires c = copy_point c.args.self.now.model c.args.leaf c.args.at.now c.leaf.result.now c.requires.point c.leaf.ensures c.in-Copy.is

pub returns-in-Copy-clause-cells : goal.returns-in-Copy-clause-cells
returns-in-Copy-clause-cells c =
    let p = copy_point c.args.self.now.model c.args.leaf c.args.at.now c.leaf.result.now c.requires.point c.leaf.ensures c.in-Copy.is in
    let count : length c.args.into.now ≡ 1 = c.requires.many ∙ copy_elements outputs_of c.args.self.now.model c.args.leaf p.leaf p.reshape p.entries p.listed p.copies in
    subst (AreWritesAt c.args.self.now c.args.leaf c.args.at.now) (sym (one_written c.args.into.now c.copy_write.result count)) c.copy_write.ensures
