use Rattle.std.proofs.Common.{◌≡◌, ◌++◌, ◌∙◌, ap}
use Rattle.aol_flat.proofs.Visiting.{copy_there}
use Rattle.aol_flat.proofs.visit.push_copy.Goals as goal

pub returns : goal.returns
returns c =
    let wide : c.in_ok-space.space ≡ c.args.spot.now.space ++ c.args.reshape.now.by.space ++ c.args.reshape.now.by.pattern =
    c.in_ok-space.ensures
    ∙ (ap (λ s. s ++ c.as_slice-space.result.now ++ c.as_slice-pattern.result.now) c.as_slice.ensures
    ∙ (ap (λ s. c.args.spot.now.space ++ s ++ c.as_slice-pattern.result.now) c.as_slice-space.ensures.entries
    ∙ ap (λ s. c.args.spot.now.space ++ c.args.reshape.now.by.space ++ s) c.as_slice-pattern.ensures.entries)) in
    copy_there
    c.args.number c.args.reshape.now c.args.spot.now c.args.walk.now c.push.new.self c.in_ok-path.path c.in_ok-space.space tt
    c.in_ok-path.ensures wide c.push.ensures.counts c.push.ensures.instances c.in_ok-push.ensures.leaves
