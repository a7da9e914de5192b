use Rattle.aol_equiv.proofs.Paths.{walk_done, members_within}
use Rattle.aol_equiv.proofs.resolve.walk.Goals as goal

pub settle-requires : goal.settle-requires
settle-requires c = members_within c.args.leads.now c.follow.new.leads c.follow.new.path.items c.args.start c.in_ok-stop.stop c.in_ok-stop.ensures c.as_slice.result.now c.as_slice.ensures.value

pub returns : goal.returns
returns c =
    walk_done c.args.leads.now c.follow.new.leads c.follow.new.path.items c.args.start c.in_ok-stop.stop c.in_ok-stop.ensures _ c.as_slice.result.now c.settle.new.leads c.as_slice.ensures.value
    c.settle.ensures
