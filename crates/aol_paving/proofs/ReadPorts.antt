-- Tasks of a model that was read, and their ports.
use Rattle.std.proofs.Common.{◌≡◌, ℕ, true, List, [], ◌∷◌, ◌++◌, map, Some, sym, ◌∙◌}
use Rattle.std.specs.List.{IsAmong, AllByRecursion, list_all}
use Rattle.std.proofs.lemmas.List.Folds.{list_all-append, list_all-map}
use Rattle.aol_shape.specs.Lists.{same}
use Rattle.aol_shape.specs.Texts.{is_name}
use Rattle.aol_expr_tree.specs.declared.port.Port.{Port}
use Rattle.aol_model_types.specs.declared.document.Model.{Model}
use Rattle.aol_model_types.specs.declared.task.OutPort.{OutPort}
use Rattle.aol_model_types.specs.declared.task.Part.{Part}
use Rattle.aol_model_types.specs.declared.task.Task.{Task}
use Rattle.aol_model_types.specs.declared.task.Task.TheVariants as tasks
use Rattle.aol_model_types.specs.Rules.{task_name, task_named, inputs_of, outputs_of}
use Rattle.aol_model_types.specs.Types.{IsTask, IsPort, IsOutPort, IsReadTask, IsReadModel, HasOutput, names_in}
use Rattle.aol_flat.proofs.Names.{both-true}
use Rattle.aol_flat.proofs.Once.{found_among, all_at}
use Rattle.aol_change.proofs.ChangedRead.{all-both, names_by_task, each_name}
use Rattle.aol_paving.proofs.Members.{one_of_all}

-- a task that is found is one that was read
pub task_read : (m : Model) (name : List ℕ) (u : Task) → IsReadModel m → task_named m.tasks name ≡ Some u → IsReadTask u
task_read m name u read found =
    let a = found_among (λ (v : Task). same (task_name v) name) m.tasks u found in
    record {
      types = one_of_all IsTask m.tasks u read.model.tasks a;
      names = one_of_all (λ (v : Task). list_all is_name (names_in v) ≡ true) m.tasks u (each_name m.tasks (sym (names_by_task m.tasks) ∙ read.names)) a;
      output = one_of_all HasOutput m.tasks u read.outputs a;
    }

out_ports : (os : List OutPort) → AllByRecursion IsOutPort os → AllByRecursion IsPort (map (λ (o : OutPort). o.port) os)
out_ports [] h = tt
out_ports (o ∷ os) h = (h.0.port, out_ports os h.1)

-- its ports are within the limits
pub ports_within : (u : Task) → IsTask u → AllByRecursion IsPort (inputs_of u ++ outputs_of u)
ports_within (tasks.Elementary e) h = all-both IsPort e.ins (map (λ (o : OutPort). o.port) e.outs) h.ins (out_ports e.outs h.outs)
ports_within (tasks.Compound c) h = all-both IsPort c.ins c.outs h.ins h.outs
ports_within (tasks.Repeated r) h = all-both IsPort r.ins r.outs h.ins h.outs

-- the names of a task and of its ports
record NamesOf (u : Task) : Type 0 where
  own : is_name (task_name u) ≡ true
  ports : list_all is_name (map (λ (p : Port). p.name) (inputs_of u ++ outputs_of u)) ≡ true

names_parts : (u : Task) (rest : List (List ℕ)) → list_all is_name (task_name u ∷ map (λ (p : Port). p.name) (inputs_of u ++ outputs_of u) ++ rest) ≡ true → NamesOf u
names_parts u rest h =
    let own = both-true (is_name (task_name u)) _ h in
    let ports : List (List ℕ) = map (λ (p : Port). p.name) (inputs_of u ++ outputs_of u) in
    record { own = own.0; ports = (both-true (list_all is_name ports) (list_all is_name rest) (sym (list_all-append is_name ports rest) ∙ own.1)).0 }

names_of : (u : Task) → list_all is_name (names_in u) ≡ true → NamesOf u
names_of (tasks.Elementary e) h = names_parts (tasks.Elementary e) [] h
names_of (tasks.Compound c) h = names_parts (tasks.Compound c) (map (λ (p : Part). p.name) c.parts) h
names_of (tasks.Repeated r) h = names_parts (tasks.Repeated r) [] h

pub own_name : (u : Task) → IsReadTask u → is_name (task_name u) ≡ true
own_name u read = (names_of u read.names).own

-- the name of one of its ports
pub port_named : (u : Task) (p : Port) → IsReadTask u → IsAmong (inputs_of u ++ outputs_of u) p → is_name p.name ≡ true
port_named u p read a =
    all_at (λ (q : Port). is_name q.name) (inputs_of u ++ outputs_of u) p (sym (list_all-map is_name (λ (q : Port). q.name) (inputs_of u ++ outputs_of u)) ∙ (names_of u read.names).ports) a
