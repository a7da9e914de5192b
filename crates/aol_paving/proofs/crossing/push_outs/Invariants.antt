use Rattle.std.proofs.Common.{◌≡◌, ◌++◌, drop, map}
use Rattle.aol_paving.specs.Crossings.{crossings}
use Rattle.aol_paving.proofs.crossing.push_outs.Given as goal

abbrev pub invariant-loop-out : goal.invariant-loop-out
invariant-loop-out l = l.initial.into ++ crossings l.task l.inner (map (λ o. o.port) l.outs) ≡ l.into ++ crossings l.task l.inner (map (λ o. o.port) (drop l.out-index l.outs))
