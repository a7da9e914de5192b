use Rattle.std.proofs.Common.{rules, ◌≡◌, ◌<◌, ◌^◌, ℕ, slice_get, ◌∙◌, ap, arith}
use Rattle.std.proofs.lemmas.List.{take_all}
use Rattle.aol_trail.specs.Trail.{cell_on}
use Rattle.aol_flat.specs.declared.view.Read.{Read}
use Rattle.aol_flat.specs.declared.view.Read.TheVariants.{Cell}
use Rattle.aol_flat.proofs.FirstOnes.{first_more}
use Rattle.aol_flat.proofs.cursor.read_all.Goals as goal

pub overflow_cast-x : goal.overflow_cast-x
overflow_cast-x c =
    let small : c.loop-x.x < 2 ^ 32 = omega (arith, c.requires.few) in
    search rules

pub cell-requires-clause-reaches : goal.cell-requires-clause-reaches
cell-requires-clause-reaches c = (c.requires.met c.loop-x.x (omega arith)).0

pub cell-requires-clause-small : goal.cell-requires-clause-small
cell-requires-clause-small c = (c.requires.met c.loop-x.x (omega arith)).1

pub loop-x-preserved : goal.loop-x-preserved
loop-x-preserved c =
    let P : ℕ → Read → Type 0 = λ x y. y ≡ Cell (cell_on c.args.trail.now x) in
    first_more P c.loop-x.into c.loop-x.x (Cell c.cell.result) (omega arith) c.loop-x.invariant (ap (λ n. Cell n) c.cell.ensures)

pub returns : goal.returns
returns c = λ x read got. c.loop-x.invariant x read (ap (λ ys. slice_get ys x) (take_all c.loop-x.x c.loop-x.into (omega arith)) ∙ got)
