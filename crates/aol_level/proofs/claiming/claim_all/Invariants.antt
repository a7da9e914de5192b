use Rattle.std.proofs.Common.{◌≡◌, ◌+◌, ◌≤◌, ◌++◌, All, map, length, vec_capacity}
use Rattle.aol_level.specs.Claims.{CanClaim, without_all}
use Rattle.aol_level.proofs.claiming.claim_all.Given as goal

abbrev pub invariant-loop-plan : goal.invariant-loop-plan
invariant-loop-plan l = record {
  name : l.rest.name ≡ l.fn.rest.name;
  parts : map (λ j. j.part) l.jobs.items ++ map (λ p. p.part) l.plan-iterator.rest.items ≡ map (λ p. p.part) l.fn.plans.items;
  shares : map (λ j. j.share.cells) l.jobs.items ++ map (λ p. p.cells) l.plan-iterator.rest.items ≡ map (λ p. p.cells) l.fn.plans.items;
  names : All (λ j. j.share.name ≡ l.fn.rest.name) l.jobs.items;
  as_many : All (λ j. length j.share.values ≡ length j.share.cells) l.jobs.items;
  can : CanClaim l.rest.cells (map (λ p. p.cells) l.plan-iterator.rest.items);
  cells : without_all (map (λ p. p.cells) l.plan-iterator.rest.items) l.rest.cells ≡ without_all (map (λ p. p.cells) l.fn.plans.items) l.fn.rest.cells;
  room : length l.jobs.items + length l.plan-iterator.rest.items ≤ vec_capacity l.jobs;
}
