use Rattle.std.proofs.Common.{sym, arith}
use Rattle.aol_flat.specs.Run.{HoldsAt, IsMovedTo}
use Rattle.aol_flat.proofs.Runs.{next_fills, zip_each}
use Rattle.aol_flat.proofs.run.fill_all.Goals as goal

pub fill-run-requires-clause-can : goal.fill-run-requires-clause-can
fill-run-requires-clause-can c =
    let l = c.loop-k in
    next_fills c.args.at.now c.args.most l.run l.k c.args.routes.now l.routes c.index-routes-k.result c.requires.can l.invariant.most (omega (arith, c.loop-k-test.true)) (l.invariant.rest l.k c.index-routes-k.result (omega arith))

pub returns-clause-form : goal.returns-clause-form
returns-clause-form c = zip_each (IsMovedTo c.args.at.now) c.args.routes.now c.loop-k.routes (sym c.loop-k.auto.routes) (λ j d low. c.loop-k.invariant.form j d (omega (arith, low, c.loop-k-test.false)))

pub returns-clause-run : goal.returns-clause-run
returns-clause-run c = λ i less.
    zip_each (HoldsAt i c.args.at.now) c.args.routes.now c.loop-k.routes (sym c.loop-k.auto.routes) (λ j d low. c.loop-k.invariant.run i j d less (omega (arith, low, c.loop-k-test.false)))
