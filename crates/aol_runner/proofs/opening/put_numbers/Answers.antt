use Rattle.std.proofs.Common.{rules, ◌+◌, ◌∙◌, set, get_or, pos, refl, ap, w64, FitsSigned}
use Rattle.std.proofs.lemmas.Int.{to_z-of_z}
use Rattle.aol_runner.specs.Through.{number_kept}
use Rattle.aol_runner.proofs.FirstCells.{number_put}
use Rattle.aol_runner.proofs.opening.put_numbers.Goals as goal

pub loop-x-preserved : goal.loop-x-preserved
loop-x-preserved c =
    let fits : FitsSigned w64 (get_or c.args.nums.now c.loop-x.x (pos 0)) = search rules in
    record {
      name = c.put.ensures.same.0 ∙ c.loop-x.invariant.name;
      cells = c.put.ensures.same.1 ∙ c.loop-x.invariant.cells;
      values = number_put c.args.share.now.values c.loop-x.share.values c.put.new.self.values c.args.place c.loop-x.x c.args.nums.now (get_or c.args.nums.now c.loop-x.x (pos 0)) (pos 0)
          c.loop-x-test.true refl c.loop-x.invariant.values
          (c.put.ensures.values ∙ ap (λ z. set c.loop-x.share.values (c.args.place + c.loop-x.x) (number_kept z)) (to_z-of_z w64 (get_or c.args.nums.now c.loop-x.x (pos 0)) fits));
    }
