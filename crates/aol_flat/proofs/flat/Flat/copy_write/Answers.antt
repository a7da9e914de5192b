use Rattle.std.proofs.Common.{List, [], ◌∷◌, sym, subst}
use Rattle.std.specs.List.{AllZip}
use Rattle.aol_flat.specs.Laid.{IsCellOf}
use Rattle.aol_flat.specs.Place.{Element}
use Rattle.aol_flat.proofs.CopyLeaves.{copy_writes}
use Rattle.aol_flat.proofs.flat.Flat.copy_write.Goals as goal

pub returns : goal.returns
returns c = λ l listed.
    let f = c.args.self.now in
    let k = c.copy_at.result in
    let h = c.copy_at.ensures.copy in
    let P : List Element → Type 0 = λ es. AllZip (IsCellOf f) es (c.cell_of.result ∷ []) in
    subst P (sym (copy_writes f.model c.copy_at.ensures.flat.sound c.args.leaf c.args.at.now k.number k.task.now k.reshape.now k.around.now k.r.now k.i.now h l listed)) (c.cell_of.ensures h.place.node h.place.at_node, tt)
