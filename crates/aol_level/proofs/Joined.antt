-- From the plans of a level to its jobs, and to what they leave.
use Rattle.std.proofs.Common.{◌≡◌, ℕ, ◌<◌, ◌^◌, List, map, flat_map, length, get_or, slice_get, slice_index, Option, Some, sym, ◌∙◌, ap, subst, arith, All, Contains}
use Rattle.std.specs.List.{AllPairs}
use Rattle.std.proofs.lemmas.Simd.{map-map}
use Rattle.std.proofs.lemmas.List.Folds.{flat_map-map}
use Rattle.aol_flat.specs.Accept.{IsFlat}
use Rattle.aol_flat.specs.Laid.{Laid}
use Rattle.aol_scatter.specs.Cells.{AreApart, cell}
use Rattle.aol_scatter.specs.Views.{Name}
use Rattle.aol_level.specs.Claims.{CanClaim, without_all}
use Rattle.aol_level.specs.Made.{IsHand}
use Rattle.aol_level.specs.Parts.{AreCellsOf, AreInstances, ArePut, CanTakeAll, CanWork, IsDone, IsPlan}
use Rattle.aol_level.specs.Round.{AllHeld, CanRunAtOnce, IsAfter}
use Rattle.aol_level.specs.declared.kept.Kept.{Kept}
use Rattle.aol_level.specs.declared.part.Job.{Job}
use Rattle.aol_level.specs.declared.part.Part.{Part}
use Rattle.aol_level.specs.declared.part.Plan.{Plan}
use Rattle.aol_level.proofs.Claimed.{same_mapped}
use Rattle.aol_level.proofs.Lists.{Has, some_injective, get_within, get_there, get_is, get_map, map_get, all_has, has_all, pairs_apart}
use Rattle.aol_level.proofs.Rounds.{claims, takes, cells_once, held_after, after_level}

-- an item whose two maps another list has too
two_moved : {A B C D : Type 0} (xs : List A) (ys : List B) (g : A → C) (h : B → C) (i : A → D) (j : B → D) → map g xs ≡ map h ys → map i xs ≡ map j ys → (x : A) → Has xs x → (y : B) × Has ys y × (g x ≡ h y) × (i x ≡ j y)
two_moved {B = B} {D = D} xs ys g h i j one two x a =
    let p = map_get h ys a.0 (g x) (ap (λ l. slice_get l a.0) (sym one) ∙ get_map g xs a.0 x a.1) in
    let q = map_get j ys a.0 (i x) (ap (λ l. slice_get l a.0) (sym two) ∙ get_map i xs a.0 x a.1) in
    let same : q.0 ≡ p.0 = some_injective q.0 p.0 (sym q.1 ∙ p.1) in
    (p.0, (a.0, p.1), sym p.2, sym q.2 ∙ ap j same)

flat_by_map : {A B : Type 0} (g : A → List ℕ) (h : B → List ℕ) (xs : List A) (ys : List B) → map g xs ≡ map h ys → flat_map g xs ≡ flat_map h ys
flat_by_map g h xs ys same = sym (flat_map-map (λ (l : List ℕ). l) g xs) ∙ (ap (flat_map (λ (l : List ℕ). l)) same ∙ flat_map-map (λ (l : List ℕ). l) h ys)

module _ (f : Laid) (flat : IsFlat f) (workers at_once : List ℕ) (can : CanRunAtOnce f workers at_once) (plans : List Plan) (all : flat_map (λ (p : Plan). p.part.instances.now) plans ≡ at_once) (each : All (IsPlan f workers) plans)
    (old : List (Option Kept)) (whole : AllHeld old) (many : length old ≡ length f.cells) where
  plan_cells : (p : Plan) → Has plans p → AreCellsOf f p.part.instances.now p.cells
  plan_cells p a = (has_all (IsPlan f workers) plans p each a).cells

  pub claims_all : CanClaim old (map (λ (p : Plan). p.cells) plans)
  claims_all = claims f flat workers at_once can (λ (p : Plan). p.part.instances.now) (λ (p : Plan). p.cells) plans all plan_cells old whole many

  module _ (jobs : List Job) (mid : List (Option Kept)) (parts : map (λ (j : Job). j.part) jobs ≡ map (λ (p : Plan). p.part) plans) (shares : map (λ (j : Job). j.share.cells) jobs ≡ map (λ (p : Plan). p.cells) plans)
      (as_many : All (λ (j : Job). length j.share.values ≡ length j.share.cells) jobs) (claimed : mid ≡ without_all (map (λ (p : Plan). p.cells) plans) old) where
    plan_of : (x : Job) → Has jobs x → (p : Plan) × Has plans p × (x.part ≡ p.part) × (x.share.cells ≡ p.cells)
    plan_of x a = two_moved jobs plans (λ (j : Job). j.part) (λ (p : Plan). p.part) (λ (j : Job). j.share.cells) (λ (p : Plan). p.cells) parts shares x a

    work_at : (x : Job) → Has jobs x → CanWork f mid x
    work_at x a =
        let p = plan_of x a in
        let is = has_all (IsPlan f workers) plans p.0 each p.1 in
        let reads = takes f flat workers at_once can (λ (q : Plan). q.part.instances.now) (λ (q : Plan). q.cells) plans all plan_cells old whole many mid claimed p.0 p.1 in
        record {
          hand = subst (λ (q : Part). IsHand f q.hand) (sym p.2) is.hand;
          within = subst (λ (q : Part). AreInstances f q.instances.now) (sym p.2) is.within;
          reads = subst (λ (q : Part). CanTakeAll f mid q.instances.now) (sym p.2) reads;
          share = subst (λ (q : Part). AreCellsOf f q.instances.now x.share.cells) (sym p.2) (subst (AreCellsOf f p.0.part.instances.now) (sym p.3) is.cells);
          as_many = has_all (λ (j : Job). length j.share.values ≡ length j.share.cells) jobs x as_many a;
          few = subst (λ (cs : List ℕ). length cs < 2 ^ 32) (sym p.3) is.few;
        }

    pub can_work : All (CanWork f mid) jobs
    can_work = all_has (CanWork f mid) jobs work_at

    -- after the jobs have run
    module _ (ran : List Job) (same : length ran ≡ length jobs) (done : (k : ℕ) (d : Job) → k < length jobs → IsDone f mid (get_or jobs k d) (get_or ran k d)) where
      job_of : (x : Job) → Has ran x → (y : Job) × Has jobs y × IsDone f mid y x
      job_of x a =
          let lt : a.0 < length jobs = omega (arith, get_within ran a.0 x a.1, same) in
          (get_or jobs a.0 x, (a.0, get_there jobs a.0 x lt), subst (IsDone f mid (get_or jobs a.0 x)) (get_is ran a.0 x x a.1) (done a.0 x lt))

      ran_cells : map (λ (j : Job). j.share.cells) ran ≡ map (λ (p : Plan). p.cells) plans
      ran_cells = same_mapped (λ (j : Job). j.share.cells) jobs ran same (λ k d lt. (done k d lt).share) ∙ shares

      ran_all : flat_map (λ (j : Job). j.part.instances.now) ran ≡ at_once
      ran_all =
          let numbers : Part → List ℕ = λ q. q.instances.now in
          let mapped : map (λ (j : Job). j.part.instances.now) ran ≡ map (λ (p : Plan). p.part.instances.now) plans =
          same_mapped (λ (j : Job). j.part.instances.now) jobs ran same (λ k d lt. (done k d lt).instances)
          ∙ (sym (map-map numbers (λ (j : Job). j.part) jobs) ∙ (ap (map numbers) parts ∙ map-map numbers (λ (p : Plan). p.part) plans)) in
          flat_by_map (λ (j : Job). j.part.instances.now) (λ (p : Plan). p.part.instances.now) ran plans mapped ∙ all

      ran_claimed : mid ≡ without_all (map (λ (j : Job). j.share.cells) ran) old
      ran_claimed = claimed ∙ ap (λ ls. without_all ls old) (sym ran_cells)

      ran_each : (x : Job) → Has ran x → AreCellsOf f x.part.instances.now x.share.cells
      ran_each x a =
          let y = job_of x a in
          subst (λ js. AreCellsOf f js x.share.cells) (sym y.2.instances) (subst (AreCellsOf f y.0.part.instances.now) (sym y.2.share) (work_at y.0 y.1).share)

      ran_placed : (x : Job) → Has ran x → All (λ j. slice_index workers j ≡ x.part.worker) x.part.instances.now
      ran_placed x a =
          let y = job_of x a in
          let p = plan_of y.0 y.1 in
          let before : All (λ j. slice_index workers j ≡ y.0.part.worker) y.0.part.instances.now =
          subst (λ (q : Part). All (λ j. slice_index workers j ≡ q.worker) q.instances.now) (sym p.2) (has_all (IsPlan f workers) plans p.0 each p.1).worker in
          subst (λ js. All (λ j. slice_index workers j ≡ x.part.worker) js) (sym y.2.instances) (subst (λ w. All (λ j. slice_index workers j ≡ w) y.0.part.instances.now) (sym y.2.worker) before)

      ran_put : (x : Job) → Has ran x → ArePut f mid x.part.worker x.part.instances.now x.share.values
      ran_put x a =
          let y = job_of x a in
          subst (λ js. ArePut f mid x.part.worker js x.share.values) (sym y.2.instances) (subst (λ w. ArePut f mid w y.0.part.instances.now x.share.values) (sym y.2.worker) y.2.values)

      pub hands_ran : All (λ (j : Job). IsHand f j.part.hand) ran
      hands_ran = all_has (λ (j : Job). IsHand f j.part.hand) ran (λ x a. (job_of x a).2.hand)

      pub names_ran : (name : Name) → All (λ (j : Job). j.share.name ≡ name) jobs → All (λ (j : Job). j.share.name ≡ name) ran
      names_ran name names = all_has (λ (j : Job). j.share.name ≡ name) ran (λ x a. let y = job_of x a in y.2.name ∙ has_all (λ (j : Job). j.share.name ≡ name) jobs y.0 names y.1)

      pub ran_apart : AllPairs (λ (i j : Job). AreApart i.share.cells j.share.cells) ran
      ran_apart = pairs_apart (λ (j : Job). j.share.cells) ran (cells_once f flat workers at_once can (λ (j : Job). j.part.instances.now) (λ (j : Job). j.share.cells) ran ran_all ran_each)

      module _ (new : List (Option Kept)) (settled : All (λ (j : Job). map (λ k. cell new k) j.share.cells ≡ map Some j.share.values) ran)
          (others : (k : ℕ) → All (λ (j : Job). ¬ Contains j.share.cells k) ran → cell new k ≡ cell mid k) where
        pub level_held : length new ≡ length old → AllHeld new
        level_held = held_after f flat workers at_once can (λ (j : Job). j.part.instances.now) (λ (j : Job). j.share.cells) ran ran_all ran_each old whole many mid ran_claimed (λ (j : Job). j.part.worker) (λ (j : Job). j.share.values) ran_placed ran_put new settled others

        pub level_after : IsAfter f workers at_once old new
        level_after = after_level f flat workers at_once can (λ (j : Job). j.part.instances.now) (λ (j : Job). j.share.cells) ran ran_all ran_each old whole many mid ran_claimed (λ (j : Job). j.part.worker) (λ (j : Job). j.share.values) ran_placed ran_put new settled others

-- what is known once the jobs of a level have run, and before their shares are settled
pub record IsRan (f : Laid) (workers at_once : List ℕ) (old mid : List (Option Kept)) (name : Name) (ran : List Job) : Type 0 where
  pub hands : All (λ (j : Job). IsHand f j.part.hand) ran
  pub names : All (λ (j : Job). j.share.name ≡ name) ran
  pub apart : AllPairs (λ (i j : Job). AreApart i.share.cells j.share.cells) ran
  pub held : (new : List (Option Kept)) → All (λ (j : Job). map (λ k. cell new k) j.share.cells ≡ map Some j.share.values) ran → ((k : ℕ) → All (λ (j : Job). ¬ Contains j.share.cells k) ran → cell new k ≡ cell mid k) → length new ≡ length old → AllHeld new
  pub after : (new : List (Option Kept)) → All (λ (j : Job). map (λ k. cell new k) j.share.cells ≡ map Some j.share.values) ran → ((k : ℕ) → All (λ (j : Job). ¬ Contains j.share.cells k) ran → cell new k ≡ cell mid k) → IsAfter f workers at_once old new

pub is_ran : (f : Laid) (flat : IsFlat f) (workers at_once : List ℕ) (can : CanRunAtOnce f workers at_once) (plans : List Plan) (all : flat_map (λ (p : Plan). p.part.instances.now) plans ≡ at_once) (each : All (IsPlan f workers) plans)
    (old : List (Option Kept)) (whole : AllHeld old) (many : length old ≡ length f.cells)
    (jobs : List Job) (mid : List (Option Kept)) (parts : map (λ (j : Job). j.part) jobs ≡ map (λ (p : Plan). p.part) plans) (shares : map (λ (j : Job). j.share.cells) jobs ≡ map (λ (p : Plan). p.cells) plans)
    (as_many : All (λ (j : Job). length j.share.values ≡ length j.share.cells) jobs) (claimed : mid ≡ without_all (map (λ (p : Plan). p.cells) plans) old)
    (ran : List Job) (same : length ran ≡ length jobs) (done : (k : ℕ) (d : Job) → k < length jobs → IsDone f mid (get_or jobs k d) (get_or ran k d))
    (name : Name) (names : All (λ (j : Job). j.share.name ≡ name) jobs) → IsRan f workers at_once old mid name ran
is_ran f flat workers at_once can plans all each old whole many jobs mid parts shares as_many claimed ran same done name names = record {
  hands = hands_ran f flat workers at_once can plans all each old whole many jobs mid parts shares as_many claimed ran same done;
  names = names_ran f flat workers at_once can plans all each old whole many jobs mid parts shares as_many claimed ran same done name names;
  apart = ran_apart f flat workers at_once can plans all each old whole many jobs mid parts shares as_many claimed ran same done;
  held = λ new settled others. level_held f flat workers at_once can plans all each old whole many jobs mid parts shares as_many claimed ran same done new settled others;
  after = λ new settled others. level_after f flat workers at_once can plans all each old whole many jobs mid parts shares as_many claimed ran same done new settled others;
}
