-- The repetition over one block as the code makes it.
use Rattle.std.proofs.Common.{◌≡◌, ℕ, List, [], Option, Err, sym, ◌∙◌, ap}
use Rattle.aol_shape.specs.declared.limit.LimitName.{LimitName}
use Rattle.aol_model_types.specs.declared.document.Model.{Model}
use Rattle.aol_model_types.specs.declared.task.Repeated.{Repeated}
use Rattle.aol_model_types.specs.declared.task.Task.{Task}
use Rattle.aol_model_types.specs.declared.task.TilerOn.{TilerOn}
use Rattle.aol_model_types.specs.Rules.{task_named}
use Rattle.aol_change.specs.declared.refused.StepRefused.{StepRefused}
use Rattle.aol_change.specs.declared.refused.StepRefused.TheVariants.{Limit, NoMemory, NotRepeated, NotTwoLevels, NotJoined, HasLinks, Rank}
use Rattle.aol_change.specs.Blocks.{filled_block, block_task, block_limit, tilers_limit}
use Rattle.aol_change.specs.Made.{IsWithin}

-- an error tells the same limit, whatever else was to be made
pub within_moved : (X Y : Type 0) (e : StepRefused) (a b : Option LimitName) → a ≡ b → IsWithin {X = X} (Err e) a → IsWithin {X = Y} (Err e) b
within_moved X Y (Limit l) a b h w = sym h ∙ w
within_moved X Y NoMemory a b h w = tt
within_moved X Y NotRepeated a b h w = w
within_moved X Y NotTwoLevels a b h w = w
within_moved X Y NotJoined a b h w = w
within_moved X Y HasLinks a b h w = w
within_moved X Y Rank a b h w = w

module _ (m : Model) (t : Repeated) (block : List ℕ) (ts : List Task) (inner : Option Task) (tilers : List TilerOn) (same_tasks : ts ≡ m.tasks) (found : inner ≡ task_named ts t.task) (same_tilers : tilers ≡ t.tilers) where
  inner_is : inner ≡ task_named m.tasks t.task
  inner_is = found ∙ ap (λ us. task_named us t.task) same_tasks

  pub limit_is : tilers_limit inner tilers block ≡ block_limit m t block
  limit_is = ap (λ i. tilers_limit i tilers block) inner_is ∙ ap (λ os. tilers_limit (task_named m.tasks t.task) os block) same_tilers

  pub block_is : (name : List ℕ) (made new : Repeated) → made.name ≡ name → made.space ≡ block → made.task ≡ t.task → made.links ≡ [] → new ≡ filled_block inner tilers block made → new ≡ block_task m t block name
  block_is name made new n s k l h =
      let empty : Repeated = record { name = name; ins = []; outs = []; space = block; task = t.task; tilers = []; links = [] } in
      h
      ∙ (ap (λ i. filled_block i tilers block made) inner_is
      ∙ (ap (λ os. filled_block (task_named m.tasks t.task) os block made) same_tilers
      ∙ (ap (λ x. filled_block (task_named m.tasks t.task) t.tilers block (record made { name = x })) n
      ∙ (ap (λ x. filled_block (task_named m.tasks t.task) t.tilers block (record made { name = name; space = x })) s
      ∙ (ap (λ x. filled_block (task_named m.tasks t.task) t.tilers block (record made { name = name; space = block; task = x })) k
      ∙ ap (λ x. filled_block (task_named m.tasks t.task) t.tilers block (record made { name = name; space = block; task = t.task; links = x })) l)))))
