use Rattle.aol_level.proofs.Putting.{outputs_more}
use Rattle.aol_level.proofs.outputs.+put_outputs.Goals as goal
use Rattle.std.proofs.Common.{◌+◌, ◌∙◌, ap, map}
use Rattle.aol_level.specs.Puts.{kept_by, put_from, values_from}

pub returns-clause-values : goal.returns-clause-values
returns-clause-values t c =
    outputs_more c.args.share.now.values c.put_port.new.share.values c.put_outputs.new.share.values c.args.worker c.args.place c.args.number c.args.k c.args.task.now c.args.nums.now
    c.args.outs.now c.in-Some-Some.out.now c.in-Some-Some.outs.now (c.in-Some-Some.ensures.cases.0) c.put_port.ensures.values
    (c.put_outputs.ensures.values ∙ ap (λ n. put_from c.put_port.new.share.values (c.args.place + n) (map (kept_by c.args.worker) (values_from c.args.number c.args.task.now c.args.nums.now (c.args.k + 1) c.in-Some-Some.outs.now))) c.size.ensures.points)
