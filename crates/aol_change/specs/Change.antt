-- What all transformations share: new names, new tasks in the list, limits, the result, and the map from new instances to old ones.
use Rattle.std.specs.Prelude.{◌≡◌, ℕ, zero, suc, ◌+◌, nat_lt, Bool, false, not, ◌&&◌, ◌==◌, List, [], ◌∷◌, ◌++◌, map, length, slice_get, slice_index, Option, Some, None, is_some, option_map, if◌then◌else◌, codes, decimal}
use Rattle.std.specs.List.{list_any}
use Rattle.aol_shape.specs.declared.limit.LimitName.{LimitName}
use Rattle.aol_shape.specs.declared.limit.LimitName.TheVariants as limits
use Rattle.aol_shape.specs.Lists.{same}
use Rattle.aol_shape.specs.Shape.{size, max_rank, max_points}
use Rattle.aol_shape.specs.Texts.{max_name}
use Rattle.aol_shape.specs.Vectors.{wrapped_point}
use Rattle.aol_tiler.specs.Laws.{inside_block}
use Rattle.aol_tiler.specs.Matrices.{TilerOf}
use Rattle.aol_tiler.specs.Tiler.{integers, first_entry_out}
use Rattle.aol_expr_tree.specs.declared.port.Port.{Port}
use Rattle.aol_model_types.specs.declared.document.Model.{Model}
use Rattle.aol_model_types.specs.declared.task.Repeated.{Repeated}
use Rattle.aol_model_types.specs.declared.task.Task.{Task}
use Rattle.aol_model_types.specs.Reading.{max_ports}
use Rattle.aol_model_types.specs.Rules.{task_name}
use Rattle.aol_flat.specs.Tasks.{elementary_tasks, main_inputs, main_outputs}
use Rattle.aol_flat.specs.Place.{Place, Down, task_at}
use Rattle.aol_flat.specs.Instance.{Instance, Run, Copy, instances}
use Rattle.aol_flat.specs.Limits.{first_limit}
use Rattle.aol_change.specs.declared.refused.StepRefused.{StepRefused}
use Rattle.aol_change.specs.declared.refused.StepRefused.TheVariants.{Limit}

-- ---- names

-- the name, `_` and a number
abbrev pub numbered : List ℕ → ℕ → List ℕ
numbered name k = name ++ codes "_" ++ decimal k

-- a name is among these
abbrev pub is_taken : List (List ℕ) → List ℕ → Bool
is_taken names name = list_any (λ n. same n name) names

-- the first of so many numbers, from k on, with which the name is none of these, or else the number after them
abbrev pub free_number : List (List ℕ) → List ℕ → ℕ → ℕ → ℕ
free_number names name zero k = k
free_number names name (suc many) k = if is_taken names (numbered name k) then free_number names name many (k + 1) else k

-- the names of all tasks, and others
abbrev pub taken_names : Model → List (List ℕ) → List (List ℕ)
taken_names m others = map task_name m.tasks ++ others

-- the name of a new task that is made from a task of this name; `others` are the new names just before it
abbrev pub new_name : Model → List (List ℕ) → List ℕ → List ℕ
new_name m others name = numbered name (free_number (taken_names m others) name (length (taken_names m others)) 1)

-- ---- the list of tasks

-- the first task of this name gives way to the changed one, and the new tasks stand just before it
abbrev pub put_before : List Task → List ℕ → List Task → Task → List Task
put_before [] name made changed = []
put_before (t ∷ tasks) name made changed = if same (task_name t) name then made ++ changed ∷ tasks else t ∷ put_before tasks name made changed

-- the model with the new tasks and the changed one
abbrev pub changed_model : Model → List ℕ → List Task → Task → Model
changed_model m name made changed = record { tasks = put_before m.tasks name made changed; main = m.main }

-- the elementary tasks are the old ones in their order, and the main task has its old ports
pub record KeepsTasks (old new : Model) : Type 0 where
  pub elementary : elementary_tasks new ≡ elementary_tasks old
  pub ins : main_inputs new ≡ main_inputs old
  pub outs : main_outputs new ≡ main_outputs old

-- ---- limits

-- a name is too long
abbrev pub name_limit : List ℕ → Option LimitName
name_limit name = if nat_lt max_name (length name) then Some limits.Name else None

-- the joined shape has too many entries, or else too many points
abbrev pub joined_limit : List ℕ → List ℕ → Option LimitName
joined_limit first second =
    if nat_lt max_rank (length (first ++ second)) then Some limits.Rank
    else (if nat_lt max_points (size (first ++ second)) then Some limits.Points else None)

-- a task has too many ports
abbrev pub ports_limit : List Port → List Port → Option LimitName
ports_limit ins outs = if nat_lt max_ports (length ins + length outs) then Some limits.Ports else None

-- an entry of a tiler is out of range
abbrev pub tiler_limit : TilerOf → Option LimitName
tiler_limit t = if is_some (first_entry_out t) then Some limits.Entry else None

-- the hierarchy passes one of its limits
abbrev pub model_limit : Model → Option LimitName
model_limit m = option_map (λ l. l.1) (first_limit m)

-- ---- the result

-- a new model, or the first cause that it has none
pub data Stepped : Type 0 where
  Changed : Model → Stepped
  Refused : StepRefused → Stepped

-- the new model where no limit is passed, or else the first that is
abbrev pub within_limits : Model → Option LimitName → Stepped
within_limits m None = Changed m
within_limits m (Some limit) = Refused (Limit limit)

-- the same where the new model's hierarchy is within its limits too
abbrev pub bounded : Stepped → Stepped
bounded (Changed m) = within_limits m (model_limit m)
bounded (Refused cause) = Refused cause

-- a repetition has links
abbrev pub has_links : Repeated → Bool
has_links t = not (length t.links == 0)

-- two shapes have as many entries as the space of a repetition
abbrev pub have_rank : Repeated → List ℕ → List ℕ → Bool
have_rank t outer block = (length outer == length t.space) && (length block == length t.space)

-- ---- the map

-- where a step down stands in the old model: by the name of the task from which it goes, itself, and the old place of that task
abbrev pub StepBack : Type 0
StepBack = Option (List ℕ) → Down → Place → Place

-- the name of the task at a place
abbrev pub name_at : Model → Place → Option (List ℕ)
name_at m up = option_map task_name (task_at m up)

-- a task is there and has this name
abbrev pub is_named : Option (List ℕ) → List ℕ → Bool
is_named None name = false
is_named (Some n) name = same n name

-- the old place of a new one
abbrev pub old_place : StepBack → Model → Place → Place
old_place back m [] = []
old_place back m (d ∷ up) = back (name_at m up) d (old_place back m up)

-- the old instance of a new one; `reshape` says which old reshape a task's reshape was taken from
abbrev pub old_instance : StepBack → (Option (List ℕ) → ℕ → ℕ) → Model → Instance → Instance
old_instance back reshape m (Run place) = Run (old_place back m place)
old_instance back reshape m (Copy place k repetition part) = Copy (old_place back m place) (reshape (name_at m place) k) repetition part

-- reshapes keep their numbers
abbrev pub same_reshape : Option (List ℕ) → ℕ → ℕ
same_reshape above k = k

-- the list has for each new instance the number of this old one
pub record IsMapOf (old new : Model) (instance : Instance → Instance) (old_of : List ℕ) : Type 0 where
  pub each : length old_of ≡ length (instances new)
  pub number : (j : ℕ) (i : Instance) → slice_get (instances new) j ≡ Some i → slice_get (instances old) (slice_index old_of j) ≡ Some (instance i)

-- the repetition that stands at a position inside a block, modulo the space
abbrev pub unblocked : List ℕ → List ℕ → List ℕ → List ℕ → List ℕ
unblocked space block r position = wrapped_point (integers (inside_block block r position)) space
