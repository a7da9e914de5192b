use Rattle.std.proofs.Common.{◌≡◌, ℕ, ◌<◌, ◌++◌, List, All, map, take, drop, length, get_or, refl, sym, ◌∙◌, ap, subst, arith}
use Rattle.aol_scatter.specs.Views.{RestView}
use Rattle.aol_level.specs.Parts.{CanWork, IsDone}
use Rattle.aol_level.specs.Round.{AllHeld, CanRunAtOnce, CrewOf, IsAfter}
use Rattle.aol_level.specs.declared.kept.Kept.{Kept}
use Rattle.aol_level.specs.declared.part.Job.{Job}
use Rattle.aol_level.specs.declared.part.Plan.{Plan}
use Rattle.aol_level.proofs.Claimed.{length-without_all}
use Rattle.aol_level.proofs.Joined.{IsRan, is_ran, can_work, claims_all}
use Rattle.aol_level.proofs.Running.{written_back}
use Rattle.aol_level.proofs.crew.Crew.run_level.Goals as goal
use Rattle.aol_level.proofs.crew.Crew.run_level.Goals.{After-run_jobs}

pub claim_all-requires : goal.claim_all-requires
claim_all-requires g c =
    let can = subst (λ (v : CrewOf). CanRunAtOnce v.flat c.args.placed.now.of_instance c.args.at_once.now) (sym c.self.view_is) c.requires.at_once in
    let many = c.requires.cells ∙ ap (λ (v : CrewOf). length v.flat.cells) (sym c.self.view_is) in
    claims_all c.self.inside.flat.now c.model-model.ensures.flat c.args.placed.now.of_instance c.args.at_once.now can c.in_ok-plans.plans.items c.in_ok-plans.ensures.all c.in_ok-plans.ensures.each c.args.rest.now.cells c.requires.whole many

pub returns-in_err-jobs-clause-whole : goal.returns-in_err-jobs-clause-whole
returns-in_err-jobs-clause-whole g c = subst (λ (r : RestView Kept). AllHeld r.cells) (sym c.in_err-jobs.ensures.refused) c.requires.whole

pub run_jobs-requires-clause-can : goal.run_jobs-requires-clause-can
run_jobs-requires-clause-can g c κs _ =
    let f = c.self.inside.flat.now in
    let can = subst (λ (v : CrewOf). CanRunAtOnce v.flat c.args.placed.now.of_instance c.args.at_once.now) (sym c.self.view_is) c.requires.at_once in
    let many = c.requires.cells ∙ ap (λ (v : CrewOf). length v.flat.cells) (sym c.self.view_is) in
    let jobs = c.in_ok-jobs.ensures in
    subst (All (CanWork f c.claim_all.new.rest.cells)) (sym c.as_mut_slice.ensures.value)
    (can_work f c.model-model.ensures.flat c.args.placed.now.of_instance c.args.at_once.now can c.in_ok-plans.plans.items c.in_ok-plans.ensures.all c.in_ok-plans.ensures.each c.args.rest.now.cells c.requires.whole many
    c.in_ok-jobs.jobs.items c.claim_all.new.rest.cells jobs.parts jobs.shares jobs.as_many jobs.cells)

-- the jobs as they are settled
after_jobs : (g : _) (c : After-run_jobs g)
    → IsRan c.self.inside.flat.now c.args.placed.now.of_instance c.args.at_once.now c.args.rest.now.cells c.claim_all.new.rest.cells c.claim_all.new.rest.name (take c.in_ok-jobs.jobs.len (c.run_jobs.new.jobs ++ drop (length c.run_jobs.new.jobs) c.in_ok-jobs.jobs.items))
after_jobs g c =
    let f = c.self.inside.flat.now in
    let workers = c.args.placed.now.of_instance in
    let at_once = c.args.at_once.now in
    let old = c.args.rest.now.cells in
    let mid = c.claim_all.new.rest.cells in
    let name = c.claim_all.new.rest.name in
    let items = c.in_ok-jobs.jobs.items in
    let ran = c.run_jobs.new.jobs in
    let can = subst (λ (v : CrewOf). CanRunAtOnce v.flat workers at_once) (sym c.self.view_is) c.requires.at_once in
    let many = c.requires.cells ∙ ap (λ (v : CrewOf). length v.flat.cells) (sym c.self.view_is) in
    let jobs = c.in_ok-jobs.ensures in
    let lent : length ran ≡ c.in_ok-jobs.jobs.len = omega (arith, c.run_jobs.auto.jobs, c.as_mut_slice.ensures.len, c.in_ok-jobs.jobs.ok.0) in
    let same : length ran ≡ length items = omega (arith, lent, c.in_ok-jobs.jobs.ok.0) in
    let done = subst (λ (js : List Job). (k : ℕ) (d : Job) → k < length js → IsDone f mid (get_or js k d) (get_or ran k d)) c.as_mut_slice.ensures.value c.run_jobs.ensures in
    let names = subst (λ n. All (λ (j : Job). j.share.name ≡ n) items) (sym c.claim_all.ensures.name) jobs.names in
    subst (IsRan f workers at_once old mid name) (sym (written_back _ ran (drop (length ran) items) c.in_ok-jobs.jobs.len refl lent))
    (is_ran f c.model-model.ensures.flat workers at_once can c.in_ok-plans.plans.items c.in_ok-plans.ensures.all c.in_ok-plans.ensures.each old c.requires.whole many items mid jobs.parts jobs.shares jobs.as_many jobs.cells ran same done name names)

pub settle_all-requires-clause-names : goal.settle_all-requires-clause-names
settle_all-requires-clause-names g c = (after_jobs g (goal.at.settle_all-requires-clause-names g c).After-run_jobs).names

pub settle_all-requires-clause-apart : goal.settle_all-requires-clause-apart
settle_all-requires-clause-apart g c = (after_jobs g (goal.at.settle_all-requires-clause-apart g c).After-run_jobs).apart

pub invariant_of-self-2 : goal.invariant_of-self-2
invariant_of-self-2 g c =
    let ran = after_jobs g (goal.at.invariant_of-self-2 g c).After-run_jobs in
    (c.self.invariant.0, c.plan_all.ensures.listing, c.settle_all.ensures.hands c.self.inside.flat.now c.plan_all.ensures.hands ran.hands)

pub returns-clause-cells : goal.returns-clause-cells
returns-clause-cells g c = c.settle_all.ensures.len ∙ (ap length c.in_ok-jobs.ensures.cells ∙ length-without_all (map (λ (p : Plan). p.cells) c.in_ok-plans.plans.items) c.args.rest.now.cells)

pub returns-clause-whole : goal.returns-clause-whole
returns-clause-whole g c =
    let ran = after_jobs g (goal.at.returns-clause-whole g c).After-run_jobs in
    ran.held c.settle_all.new.rest.cells c.settle_all.ensures.values c.settle_all.ensures.others
    (c.settle_all.ensures.len ∙ (ap length c.in_ok-jobs.ensures.cells ∙ length-without_all (map (λ (p : Plan). p.cells) c.in_ok-plans.plans.items) c.args.rest.now.cells))

pub returns-clause-after : goal.returns-clause-after
returns-clause-after g c =
    let ran = after_jobs g (goal.at.returns-clause-after g c).After-run_jobs in
    subst (λ (v : CrewOf). IsAfter v.flat c.args.placed.now.of_instance c.args.at_once.now c.args.rest.now.cells c.settle_all.new.rest.cells) c.self.view_is
    (ran.after c.settle_all.new.rest.cells c.settle_all.ensures.values c.settle_all.ensures.others)
