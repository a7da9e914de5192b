use Rattle.std.proofs.Common.{◌≡◌, [], ◌∷◌, ◌++◌, string_bytes, arith, ap, sym, ◌∙◌}
use Rattle.aol_expr.proofs.Joined.{node_text, one_more, all_appended}
use Rattle.aol_expr.proofs.writing.+writing.Goals as goal

pub append_indices-loop-node-preserved : goal.append_indices-loop-node-preserved
append_indices-loop-node-preserved t c =
    let e = c.node-item.result in
    c.in_ok-append_after.ensures
    ∙ ap (λ bs. (bs ++ 44 ∷ []) ++ node_text e) c.loop-node.invariant
    ∙ sym (one_more c.in-Some.others.now c.loop-node.node-index e (string_bytes c.append_node.new.text) c.loop-node-test.true c.node-item.is)

pub append_indices-returns : goal.append_indices-returns
append_indices-returns t c =
    let whole : c.args.indices.now ≡ c.in-Some.first.now ∷ c.in-Some.others.now = cc (c.as_slice.ensures, c.in-Some.ensures.cases.0) in
    all_appended c.args.indices.now c.in-Some.others.now c.in-Some.first.now c.loop-node.node-index (string_bytes c.args.text.now) (string_bytes c.append_node.new.text) (string_bytes c.loop-node.text) whole (omega arith) c.in_ok-append_node.ensures c.loop-node.invariant
