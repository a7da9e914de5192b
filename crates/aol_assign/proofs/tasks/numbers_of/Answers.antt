use Rattle.std.proofs.Common.{◌≡◌, ◌+◌, ◌-◌, drop, sym, ◌∙◌, ap, arith}
use Rattle.std.specs.BTreeMap.{get_by_text}
use Rattle.aol_flat.specs.Numbered.{number_from}
use Rattle.aol_flat.proofs.TaskNumbers.{number_more}
use Rattle.aol_assign.proofs.tasks.numbers_of.Goals as goal

pub loop-at-preserved : goal.loop-at-preserved
loop-at-preserved c =
    let step : c.loop-at.at - 1 + 1 ≡ c.loop-at.at = omega arith in
    record {
      within = omega arith;
      found = λ q.
          number_more c.args.tasks.now (c.loop-at.at - 1) c.index-tasks-at.result q c.as_str.result.now (get_by_text c.loop-at.numbers q) (get_by_text c.set.new.numbers q)
          (omega arith) c.index-tasks-at.is (c.as_str.ensures ∙ c.name_of.ensures)
          (c.loop-at.invariant.found q ∙ ap (λ n. number_from n (drop n c.args.tasks.now) q) (sym step)) (c.in_ok-set.ensures q);
    }
