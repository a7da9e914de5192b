use Rattle.std.proofs.Common.{◌≡◌, ◌++◌, ◌∷◌, [], Option, Some, Ok, Err, List, ℕ, sym, ◌∙◌, subst, arith}
use Rattle.std.specs.List.{AllByRecursion}
use Rattle.aol_shape.specs.Shape.{IsEntry}
use Rattle.aol_allocate.specs.Placement.{leaf_number}
use Rattle.aol_allocate.specs.Marks.{PlacesSpace}
use Rattle.aol_allocate.specs.Tables.{IsTable}
use Rattle.aol_allocate.proofs.LeafPaths.{found_leaf, elementary_at}
use Rattle.aol_allocate.proofs.LeafSpaces.{leaf_entries}
use Rattle.aol_allocate.proofs.TableRows.{number_within, taken, placed_next, refused_next}
use Rattle.aol_allocate.proofs.table.place_entry.Goals as goal

pub has_row-requires : goal.has_row-requires
has_row-requires c =
    let m = c.args.from.flat.now.model in
    let number : leaf_number m c.args.entry.now.leaf ≡ Some c.in-Some.number = sym (c.number_of.ensures m c.requires.numbers) ∙ c.in-Some.is in
    omega (arith, number_within m c.args.entry.now.leaf c.in-Some.number number, c.requires.many)

pub leaf-requires : goal.leaf-requires
leaf-requires c =
    let m = c.args.from.flat.now.model in
    number_within m c.args.entry.now.leaf c.in-Some.number (sym (c.number_of.ensures m c.requires.numbers) ∙ c.in-Some.is)

pub set-requires : goal.set-requires
set-requires c =
    let m = c.args.from.flat.now.model in
    let number : leaf_number m c.args.entry.now.leaf ≡ Some c.in-Some.number = sym (c.number_of.ensures m c.requires.numbers) ∙ c.in-Some.is in
    omega (arith, number_within m c.args.entry.now.leaf c.in-Some.number number, c.requires.many)

pub place_leaf-requires-clause-entries : goal.place_leaf-requires-clause-entries
place_leaf-requires-clause-entries c =
    let m = c.args.from.flat.now.model in
    let number : leaf_number m c.args.entry.now.leaf ≡ Some c.in-Some.number = sym (c.number_of.ensures m c.requires.numbers) ∙ c.in-Some.is in
    let leaf = c.leaf.ensures in
    let computes = elementary_at m c.args.entry.now.leaf c.in-Some.number leaf.leaf number leaf.at in
    subst (AllByRecursion IsEntry) (sym leaf.space) (leaf_entries m c.requires.sound c.in-Some.number leaf.leaf leaf.at computes)

pub returns-then-has_row-clause-next : goal.returns-then-has_row-clause-next
returns-then-has_row-clause-next c = λ earlier table.
    let m = c.args.from.flat.now.model in
    let number : leaf_number m c.args.entry.now.leaf ≡ Some c.in-Some.number = sym (c.number_of.ensures m c.requires.numbers) ∙ c.in-Some.is in
    let leaf = found_leaf m c.args.entry.now.leaf c.in-Some.number number in
    taken m c.args.from.workers earlier c.args.rows.now table c.args.entry.now c.in-Some.number leaf.leaf number leaf.at
    (λ row there. sym c.if-has_row.true ∙ c.has_row.ensures row there)

pub returns-in-Ok-clause-next : goal.returns-in-Ok-clause-next
returns-in-Ok-clause-next c = λ earlier table.
    let m = c.args.from.flat.now.model in
    let number : leaf_number m c.args.entry.now.leaf ≡ Some c.in-Some.number = sym (c.number_of.ensures m c.requires.numbers) ∙ c.in-Some.is in
    let leaf = c.leaf.ensures in
    let told : PlacesSpace c.args.entry.now c.args.from.workers leaf.leaf.space (Ok c.in-Ok.placed) =
    subst (λ (space : List ℕ). PlacesSpace c.args.entry.now c.args.from.workers space (Ok c.in-Ok.placed)) leaf.space c.in-Ok.ensures in
    let next = placed_next m c.args.from.workers earlier c.args.rows.now table c.args.entry.now c.in-Some.number leaf.leaf number leaf.at c.in-Ok.placed
    (λ row there. sym c.if-has_row.false ∙ c.has_row.ensures row there) told in
    (next.0, subst (λ (rows : List (Option (List ℕ))). IsTable m c.args.from.workers (earlier ++ c.args.entry.now ∷ []) rows) (sym c.set.ensures) next.1)

pub returns-in-Err-clause-next : goal.returns-in-Err-clause-next
returns-in-Err-clause-next c = λ earlier table.
    let m = c.args.from.flat.now.model in
    let number : leaf_number m c.args.entry.now.leaf ≡ Some c.in-Some.number = sym (c.number_of.ensures m c.requires.numbers) ∙ c.in-Some.is in
    let leaf = c.leaf.ensures in
    let told : PlacesSpace c.args.entry.now c.args.from.workers leaf.leaf.space (Err c.in-Err.fault) =
    subst (λ (space : List ℕ). PlacesSpace c.args.entry.now c.args.from.workers space (Err c.in-Err.fault)) leaf.space c.in-Err.ensures in
    refused_next m c.args.from.workers earlier c.args.rows.now table c.args.entry.now c.in-Some.number leaf.leaf number leaf.at c.in-Err.fault c.args.rows.now
    (λ row there. sym c.if-has_row.false ∙ c.has_row.ensures row there) told
