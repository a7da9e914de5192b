use Rattle.std.proofs.Common.{◌≡◌, [], ◌++◌, ◌∙◌, ap}
use Rattle.aol_flat.proofs.Visiting.{run_there}
use Rattle.aol_flat.proofs.visit.push_run.Goals as goal

pub returns : goal.returns
returns c =
    let wide : c.in_ok-space.space ≡ c.args.spot.now.space ++ [] ++ [] = c.in_ok-space.ensures ∙ ap (λ s. s ++ [] ++ []) c.as_slice.ensures in
    run_there
    c.args.number c.args.spot.now c.args.walk.now c.push.new.self c.in_ok-path.path c.in_ok-space.space tt
    c.in_ok-path.ensures wide c.push.ensures.counts c.push.ensures.instances c.in_ok-push.ensures.leaves
