use Rattle.std.proofs.Common.{◌++◌, ◌∷◌}
use Rattle.aol_flat.specs.Node.{ToBody}
use Rattle.aol_flat.proofs.NodeAt.{one_node}
use Rattle.aol_flat.proofs.Outward.{body_stored}
use Rattle.aol_flat.proofs.PortsOf.{cell_moves}
use Rattle.aol_flat.proofs.flat.Flat.follow_output_of.Goals as goal

pub follow_output-requires : goal.follow_output-requires
follow_output-requires c = let l = c.handed_rank-y.ensures c.requires.there.0 c.requires.there.1 in (l.next, l.is)

pub cell_of_output-requires : goal.cell_of_output-requires
cell_of_output-requires c =
    let m = c.args.self.now.model in
    let b = c.args.body in
    let p = c.requires.place in
    record {
      at = b.around.now ++ b.r.now;
      there = c.requires.there;
      rank_is = c.rank_below.ensures;
      stored = λ node t port at listed. body_stored m node p.node b.task.now.space port c.hand.result (one_node m b.number node (ToBody b.task.now.space ∷ p.node) t p.inner at p.at_body).0 c.in_default.not-Tiled
          (c.hand.ensures.hand node t port at listed);
    }

pub returns-in-Tiled : goal.returns-in-Tiled
returns-in-Tiled c = λ e h.
    let l = c.handed_rank-y.ensures e h in
    cell_moves c.args.self.now e l.next c.follow_output.result l.home (c.follow_output.ensures l.next l.is)

pub returns-in_default : goal.returns-in_default
returns-in_default c = λ e h. c.cell_of_output.ensures (c.args.body.around.now ++ c.args.body.r.now) c.rank_below.ensures e h
