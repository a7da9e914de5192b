-- What the step answers, by what its parts do.
use Rattle.std.proofs.Common.{◌≡◌, ℕ, Bool, true, List, Option, Some, None, Result, if◌then◌else◌, sym, ◌∙◌, ap, subst}
use Rattle.aol_shape.specs.declared.limit.LimitName.{LimitName}
use Rattle.aol_shape.specs.Lists.{or_else}
use Rattle.aol_expr_tree.specs.declared.port.Port.{Port}
use Rattle.aol_model_types.specs.declared.document.Model.{Model}
use Rattle.aol_model_types.specs.declared.task.Compound.{Compound}
use Rattle.aol_model_types.specs.declared.task.Part.{Part}
use Rattle.aol_model_types.specs.declared.task.Task.{Task}
use Rattle.aol_model_types.specs.Rules.{task_name, task_named, part_named}
use Rattle.aol_flat.proofs.Find.{found_name, and_then_some}
use Rattle.aol_change.specs.declared.refused.StepRefused.{StepRefused}
use Rattle.aol_change.specs.declared.refused.StepRefused.TheVariants.{NotJoined}
use Rattle.aol_change.specs.Change.{Refused, within_limits}
use Rattle.aol_change.specs.Made.{IsStep}
use Rattle.aol_fusion_parts.specs.declared.ports.FusedNames.{FusedNames}
use Rattle.aol_fusion_parts.specs.declared.ports.FusedPorts.{FusedPorts}
use Rattle.aol_fusion_parts.specs.Fuse.{Fusing, fused_ports, fused_with, fused_model, fuse_limit, tasks_limit, is_formed}
use Rattle.aol_fusion_parts.specs.Joined.{task_of_part, is_well_formed}
use Rattle.aol_fusion_parts.specs.Made.{fused_names, names_limit}

-- the test of a proposal is made on the ports of the fusion
pub formed_told : (f : Fusing) (p : FusedPorts) (outs ins : List Port) → p ≡ fused_ports f → outs ≡ p.first_outs → ins ≡ p.second_ins → true ≡ is_well_formed f.args f.compound f.one f.two outs ins → is_formed f ≡ true
formed_told f p outs ins ports e g h =
    ap (λ (x : FusedPorts). is_well_formed f.args f.compound f.one f.two x.first_outs x.second_ins) (sym ports)
    ∙ (ap (λ ps. is_well_formed f.args f.compound f.one f.two ps p.second_ins) (sym e) ∙ (ap (is_well_formed f.args f.compound f.one f.two outs) (sym g) ∙ sym h))

-- where the names pass no limit, the step is that of the new tasks
pub step_told : (f : Fusing) (n : FusedNames) (p : FusedPorts) (result : Result Model StepRefused) → is_formed f ≡ true → p ≡ fused_ports f → n ≡ fused_names f.model f.compound.name
    → names_limit (fused_names f.model f.compound.name) ≡ None → IsStep result (within_limits (fused_with f n p) (tasks_limit f.args f.one f.two p))
    → IsStep result (if is_formed f then within_limits (fused_model f) (fuse_limit f) else Refused NotJoined)
step_told f n p result formed ports names short h =
    let P : FusedPorts → Type 0 = λ x. IsStep result (within_limits (fused_with f n x) (tasks_limit f.args f.one f.two x)) in
    let Q : FusedNames → Type 0 = λ x. IsStep result (within_limits (fused_with f x (fused_ports f)) (tasks_limit f.args f.one f.two (fused_ports f))) in
    let limit : tasks_limit f.args f.one f.two (fused_ports f) ≡ fuse_limit f = ap (λ o. or_else o (tasks_limit f.args f.one f.two (fused_ports f))) (sym short) in
    let R : Option LimitName → Type 0 = λ l. IsStep result (within_limits (fused_model f) l) in
    let S : Bool → Type 0 = λ b. IsStep result (if b then within_limits (fused_model f) (fuse_limit f) else Refused NotJoined) in
    subst S (sym formed) (subst R limit (subst Q names (subst P ports h)))

-- the task of a part is found by its own name
pub part_found : (m : Model) (tasks : List Task) (c : Compound) (name : List ℕ) (x t : Task) → tasks ≡ m.tasks → Some x ≡ task_of_part tasks c name → x ≡ t → task_named m.tasks (task_name t) ≡ Some t
part_found m tasks c name x t same found is =
    let p = and_then_some (λ (p : Part). task_named m.tasks p.task) (part_named c name) t (ap (λ ts. task_of_part ts c name) (sym same) ∙ (sym found ∙ ap (λ y. Some y) is)) in
    found_name m p.0.task t p.2
