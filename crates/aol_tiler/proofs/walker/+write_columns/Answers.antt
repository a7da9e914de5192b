use Rattle.std.proofs.Common.{◌≡◌, ◌+◌, ◌-◌, ℕ, ℤ, List, [], ◌∷◌, length, refl, ◌∙◌, ap, subst, arith, length-append}
use Rattle.std.specs.List.{AllByRecursion}
use Rattle.aol_shape.specs.Shape.{IsEntry}
use Rattle.aol_shape.specs.Vectors.{IsVector}
use Rattle.aol_tiler.specs.Walk.{column_at}
use Rattle.aol_tiler.proofs.Walks.{all_front, columns_last}
use Rattle.aol_tiler.proofs.walker.+write_columns.Goals as goal

pub write_columns-requires : goal.write_columns-requires
write_columns-requires t c =
    let vectors = c.in-Some.ensures.cases.0 in
    let shape = c.in-Some-split_last.ensures.cases.0 in
    let fewer : length c.args.vectors.now ≡ length c.in-Some.vectors.now + 1 = omega (arith, ap (length {A = List ℤ}) vectors, length-append c.in-Some.vectors.now (c.in-Some.vector.now ∷ [])) in
    let less : length c.args.shape.now ≡ length c.in-Some-split_last.shape.now + 1 = omega (arith, ap (length {A = ℕ}) shape, length-append c.in-Some-split_last.shape.now (c.in-Some-split_last.entry.now ∷ [])) in
    let same : length c.in-Some.vectors.now ≡ length c.in-Some-split_last.shape.now = omega (arith, fewer, less, c.requires.same) in (
      omega (arith, fewer),
      (
        c.requires.array,
        (
          (all_front IsVector _ _ (subst (AllByRecursion IsVector) vectors c.requires.vectors)).0,
          (
            (all_front (λ v. length v ≡ length c.args.array.now) _ _ (subst (AllByRecursion (λ v. length v ≡ length c.args.array.now)) vectors c.requires.even)).0,
            ((all_front IsEntry _ _ (subst (AllByRecursion IsEntry) shape c.requires.shape)).0, (same, omega (arith, less, c.requires.room, c.in-Some-split_first_mut.ensures.cases))),
          ),
        ),
      ),
    )

pub returns : goal.returns
returns t c =
    let made = ap (λ v. column_at c.args.array.now v c.in-Some-split_last.entry.now (c.in-Some-split_last.entry.now - 1)) c.as_slice.ensures.entries in
    columns_last _ _ _ _ _ c.in-Some.vector.now c.in-Some-split_last.entry.now _ _ _ _ _ c.column_of.result c.in-Some.ensures.cases.0 c.in-Some-split_last.ensures.cases.0 c.requires.same
    c.in-Some-split_first_mut.ensures.cases.0 refl (c.column_of.ensures ∙ made) c.write_columns.ensures
