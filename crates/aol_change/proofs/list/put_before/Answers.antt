use Rattle.std.proofs.Common.{◌++◌, reverse, ap, sym, ◌∙◌}
use Rattle.aol_change.proofs.Lists.{put_done, put_none}
use Rattle.aol_change.proofs.list.put_before.Goals as goal

pub returns-in-None : goal.returns-in-None
returns-in-None c made changed h = put_none c.args.tasks.now c.as_slice.result.now made c.args.name.now changed c.as_slice.ensures c.in-None.ensures

pub returns : goal.returns
returns c made changed h =
    put_done c.args.tasks.now c.as_slice.result.now c.take_off.new.tasks c.drop_last.new.tasks c.put_back.new.tasks c.put_back-2.new.tasks c.args.put.now c.take_off.new.rest made c.args.name.now changed c.in-Some.at
    c.as_slice.ensures c.in-Some.ensures (ap (λ r. c.args.tasks.now ++ reverse r) (sym c.requires) ∙ c.in_ok-take_off.ensures.taken) c.in_ok-take_off.ensures.left c.drop_last.ensures c.in_ok-put_back.ensures c.in_ok-put_back-2.ensures h
