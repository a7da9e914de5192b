-- A model that is laid out has a cell.
use Rattle.std.proofs.Common.{◌≡◌, ℕ, ◌+◌, ◌<◌, ◌≤◌, Bool, true, List, [], ◌∷◌, ◌++◌, length, Option, Some, None, is_some, option_map, unwrap_or, refl, ◌∙◌, ap, arith}
use Rattle.std.specs.List.{AllByRecursion, list_all}
use Rattle.aol_shape.proofs.Sizes.{size_positive}
use Rattle.aol_expr_tree.specs.declared.port.Port.{Port}
use Rattle.aol_model_types.specs.declared.document.Model.{Model}
use Rattle.aol_model_types.specs.declared.task.Task.{Task}
use Rattle.aol_model_types.specs.declared.place.Key.TheVariants.{KModel, KTasks, KMain}
use Rattle.aol_model_types.specs.declared.rules.TheConstants.{MAIN_IS_A_TASK}
use Rattle.aol_model_types.specs.Places.{to_key}
use Rattle.aol_model_types.specs.Rules.{ShapesAgree, Check, check, each, task_checks, main_is_task, outputs_of}
use Rattle.aol_model_types.specs.Types.{IsPort}
use Rattle.aol_flat.specs.Accept.{IsFlat}
use Rattle.aol_flat.specs.Laid.{Laid, main_input_elements, main_output_elements}
use Rattle.aol_flat.specs.Place.{elements_of}
use Rattle.aol_flat.specs.Tasks.{main_task, main_outputs}
use Rattle.aol_flat.proofs.Names.{both-true}
use Rattle.aol_flat.proofs.PortZip.{outputs_typed}
use Rattle.aol_flat.proofs.Totals.{read_named}
use Rattle.aol_assign.proofs.MainCells.{main_within}
use Rattle.aol_lower.specs.Effect.{patterns_size}
use Rattle.aol_cgen_flow.proofs.Many.{elements_many}

last_holds : {X : Type 0} (test : X → Bool) (xs : List X) (x : X) → list_all test (xs ++ x ∷ []) ≡ true → test x ≡ true
last_holds test [] x h = (both-true (test x) true h).0
last_holds test (y ∷ xs) x h = last_holds test xs x (both-true (test y) (list_all test (xs ++ x ∷ [])) h).1

main_there : (m : Model) → ShapesAgree m → (t : Task) × (main_task m ≡ Some t)
main_there m agree =
    let rules : List Check = each task_checks (to_key (to_key [] KModel) KTasks) m.tasks in
    go (main_task m) (last_holds (λ (c : Check). c.holds) rules (check (to_key (to_key [] KModel) KMain) MAIN_IS_A_TASK (main_is_task m)) agree)
  where
    go : (o : Option Task) → is_some o ≡ true → (t : Task) × (o ≡ Some t)
    go None h = absurd (cc)
    go (Some t) h = (t, refl)

some_point : (ports : List Port) → AllByRecursion IsPort ports → 1 ≤ length ports → 1 ≤ patterns_size ports
some_point [] types h = absurd (omega (arith, h))
some_point (p ∷ ports) types h = let one = size_positive p.shape types.0.entry in omega (arith, one)

pub some_cell : (f : Laid) → IsFlat f → 0 < length f.cells
some_cell f flat =
    let t = main_there f.model flat.sound.shapes in
    let r = read_named f.model f.model.main t.0 flat.sound.read t.1 in
    let outs : main_outputs f.model ≡ outputs_of t.0 = ap (λ o. unwrap_or (option_map outputs_of o) []) t.1 in
    let many : length (main_output_elements f.model) ≡ patterns_size (outputs_of t.0) = ap (λ ports. length (elements_of [] ports)) outs ∙ elements_many [] (outputs_of t.0) in
    let one = some_point (outputs_of t.0) (outputs_typed t.0 r.types) r.output in
    let within = main_within f flat.sound flat.laid in
    omega (arith, many, one, within)
