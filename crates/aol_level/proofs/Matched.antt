-- The task and the one made ready that the number of a leaf's task finds.
use Rattle.std.proofs.Common.{◌≡◌, ℕ, ◌<◌, ◌^◌, List, length, get_or, Option, Some, None, sym, ◌∙◌, ap, subst, arith}
use Rattle.aol_model_types.specs.declared.document.Model.{Model}
use Rattle.aol_model_types.specs.declared.task.Elementary.{Elementary}
use Rattle.aol_model_types.specs.declared.task.Task.{Task}
use Rattle.aol_model_types.specs.declared.task.Task.TheVariants as tasks
use Rattle.aol_flat.specs.InstanceValue.{instance_outputs}
use Rattle.aol_flat.specs.LeafCursor.{writes_each}
use Rattle.aol_flat.specs.Tasks.{elementary_number}
use Rattle.aol_expr_tree.specs.declared.value.Val.{Val}
use Rattle.aol_level.specs.Made.{AreMade}
use Rattle.aol_level.specs.Puts.{IsReady, elements}
use Rattle.aol_level.specs.declared.outputs.Ready.{Ready}
use Rattle.aol_level.proofs.Lists.{get_is}
use Rattle.aol_level.proofs.Working.{IsRunOf}

module _ (m : Model) (ts : List Task) (ready : List (Option Ready)) (leaf j k : ℕ) (r : IsRunOf m leaf j k) (same : ts ≡ m.tasks) (made : AreMade m.tasks ready)
    (t : Task) (o : Option Ready) (t_is : t ≡ get_or ts k t) (o_is : o ≡ get_or ready k o) where
  task_is : t ≡ tasks.Elementary r.task
  task_is = t_is ∙ (ap (λ us. get_or us k t) same ∙ get_is m.tasks k t (tasks.Elementary r.task) r.listed)

  ready_is : o ≡ Some (made.each k r.task r.listed).0
  ready_is = let found = made.each k r.task r.listed in o_is ∙ get_is ready k o (Some found.0) found.1

  pub not_none : o ≡ None → ⊥
  not_none e = let f : ◌≡◌ {A = Option Ready} None (Some (made.each k r.task r.listed).0) = sym e ∙ ready_is in cc

  pub not_other : ((e : Elementary) → t ≡ tasks.Elementary e → ⊥) → ⊥
  not_other n = n r.task task_is

  module _ (e : Elementary) (one : Ready) (e_is : t ≡ tasks.Elementary e) (one_is : o ≡ Some one) where
    same_task : r.task ≡ e
    same_task = let f : tasks.Elementary r.task ≡ tasks.Elementary e = sym task_is ∙ e_is in cc

    same_ready : (made.each k r.task r.listed).0 ≡ one
    same_ready = let f : Some (made.each k r.task r.listed).0 ≡ Some one = sym ready_is ∙ one_is in cc

    pub is_ready : IsReady e one
    is_ready =
        let found = made.each k r.task r.listed in
        subst (λ x. IsReady x one) same_task (subst (λ x. IsReady r.task x) same_ready found.2)

    pub few_outs : length e.outs < 2 ^ 32
    few_outs = omega (arith, r.few, ap (λ (x : Elementary). length x.outs) same_task)

    pub all_writes : writes_each m leaf ≡ elements e.outs
    all_writes = r.writes ∙ ap (λ (x : Elementary). elements x.outs) same_task

    pub same_outputs : (taken : List Val) → instance_outputs (elementary_number m r.task.name) r.task taken ≡ instance_outputs one.number e taken
    same_outputs taken =
        let found = made.each k r.task r.listed in
        let number : elementary_number m r.task.name ≡ one.number = sym r.number ∙ (sym found.3 ∙ ap (λ (x : Ready). x.number) same_ready) in
        ap (λ n. instance_outputs n r.task taken) number ∙ ap (λ x. instance_outputs one.number x taken) same_task
