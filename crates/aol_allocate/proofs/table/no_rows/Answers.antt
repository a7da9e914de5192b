use Rattle.std.proofs.Common.{◌≡◌, replicate, length, None, ◌∙◌, ap, arith}
use Rattle.aol_flat.specs.Instance.{leaves}
use Rattle.aol_allocate.proofs.TableRows.{none_placed}
use Rattle.aol_allocate.proofs.table.no_rows.Goals as goal

pub returns-clause-none : goal.returns-clause-none
returns-clause-none c = λ workers.
    let all : c.loop.counter ≡ length (leaves c.args.flat.now.model) = omega (arith, c.leaves-end.ensures) in
    none_placed c.args.flat.now.model workers c.loop.rows (c.loop.invariant ∙ ap (λ n. replicate n None) all)
