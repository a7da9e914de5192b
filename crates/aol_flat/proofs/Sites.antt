-- The line of a fault of the main task names that task and its port.
use Rattle.std.proofs.Common.{◌≡◌, ℕ, suc, ◌+◌, Bool, true, false, cond, not, List, [], ◌∷◌, map, Option, Some, find, filter, slice_get, option_map, unwrap_or, codes, sym, ◌∙◌, ap, refl, arith}
use Rattle.std.specs.List.{position_or_len, prefix_len}
use Rattle.std.proofs.lemmas.Option.{none-some, slice_get-map}
use Rattle.aol_shape.specs.Lists.{same}
use Rattle.aol_shape.specs.Shape.{rank, point_at, IsPointOf}
use Rattle.aol_shape.proofs.Points.{point_at-rank}
use Rattle.aol_vsl.specs.Text.{shape_text}
use Rattle.aol_expr_tree.specs.declared.port.Port.{Port}
use Rattle.aol_expr_tree.specs.declared.value.Kind.{Kind}
use Rattle.aol_model_types.specs.declared.document.Model.{Model}
use Rattle.aol_model_types.specs.declared.task.Elementary.{Elementary}
use Rattle.aol_model_types.specs.declared.task.OutPort.{OutPort}
use Rattle.aol_model_types.specs.declared.task.Task.TheVariants as tasks
use Rattle.aol_model_types.specs.Rules.{task_name, outputs_of}
use Rattle.aol_flat.specs.Tasks.{main_task, is_elementary, elementary_tasks, elementary_number}
use Rattle.aol_shape.specs.Lines.{line, spaced}
use Rattle.aol_flat.specs.Printed.{kind_text, fault_line}
use Rattle.aol_flat.proofs.Names.{same-equal}

-- what is found first passes the test
pub find-passes : {X : Type 0} (q : X → Bool) (xs : List X) (x : X) → find q xs ≡ Some x → q x ≡ true
find-passes q [] x f = absurd (none-some x f)
find-passes q (y ∷ ys) x f = by_test (q y) refl f (find-passes q ys x)
  where
    by_test : (b : Bool) → q y ≡ b → cond b (Some y) (find q ys) ≡ Some x → (find q ys ≡ Some x → q x ≡ true) → q x ≡ true
    by_test true e g rest = let same : y ≡ x = cc in ap q (sym same) ∙ e
    by_test false e g rest = rest g

-- what is found first among all is found first among those that pass another test, if it passes that one
found_kept : {X : Type 0} (p q : X → Bool) (xs : List X) (x : X) → p x ≡ true → find q xs ≡ Some x → slice_get (filter p xs) (position_or_len q (filter p xs)) ≡ Some x
found_kept p q [] x h f = absurd (none-some x f)
found_kept {X = X} p q (y ∷ ys) x h f = by_test (q y) refl f (p y) refl (found_kept p q ys x h)
  where
    skip : (zs : List X) → q y ≡ false → slice_get (y ∷ zs) (prefix_len (λ z. not (q z)) (y ∷ zs)) ≡ slice_get zs (prefix_len (λ z. not (q z)) zs)
    skip zs e =
        let behind : 1 + prefix_len (λ z. not (q z)) zs ≡ suc (prefix_len (λ z. not (q z)) zs) = omega arith in
        ap (λ b. slice_get (y ∷ zs) (cond (not b) (1 + prefix_len (λ z. not (q z)) zs) 0)) e ∙ ap (slice_get (y ∷ zs)) behind

    by_test : (b : Bool) → q y ≡ b → cond b (Some y) (find q ys) ≡ Some x → (c : Bool) → p y ≡ c
        → (find q ys ≡ Some x → slice_get (filter p ys) (prefix_len (λ z. not (q z)) (filter p ys)) ≡ Some x)
        → slice_get (cond c (y ∷ filter p ys) (filter p ys)) (prefix_len (λ z. not (q z)) (cond c (y ∷ filter p ys) (filter p ys))) ≡ Some x
    by_test true e g true k rest =
        ap (λ b. slice_get (y ∷ filter p ys) (cond (not b) (1 + prefix_len (λ z. not (q z)) (filter p ys)) 0)) e ∙ g
    by_test true e g false k rest = let same : y ≡ x = cc in let no : false ≡ true = sym k ∙ (ap p same ∙ h) in cc
    by_test false e g true k rest = skip (filter p ys) e ∙ rest g
    by_test false e g false k rest = rest g

-- the line of a fault, by the task's name and the port, where there is one
abbrev words : Kind → ℕ → List ℕ → Option Port → List ℕ
words kind point name port =
    line (spaced (codes "fault" ∷ kind_text kind ∷ name ∷ unwrap_or (option_map (λ (p : Port). p.name) port) []
    ∷ unwrap_or (option_map (λ (p : Port). shape_text (point_at p.shape point)) port) [] ∷ []))

module _ (m : Model) (e : Elementary) (main : main_task m ≡ Some (tasks.Elementary e)) where
  -- the main task has its own number among the elementary tasks
  pub main_number : slice_get (elementary_tasks m) (elementary_number m e.name) ≡ Some (tasks.Elementary e)
  main_number =
      let named : e.name ≡ m.main = same-equal e.name m.main (find-passes (λ t. same (task_name t) m.main) m.tasks (tasks.Elementary e) main) in
      ap (λ name. slice_get (elementary_tasks m) (elementary_number m name)) named
      ∙ found_kept is_elementary (λ t. same (task_name t) m.main) m.tasks (tasks.Elementary e) refl main

  -- the line of a fault at one of its outputs
  pub fault_line-main : (k : ℕ) (out : OutPort) (x : List ℕ) (kind : Kind) → slice_get e.outs k ≡ Some out → IsPointOf out.port.shape x
      → fault_line m (record { kind = kind; task = elementary_number m e.name; port = k; point = rank out.port.shape x })
      ≡ line (spaced (codes "fault" ∷ kind_text kind ∷ e.name ∷ out.port.name ∷ shape_text x ∷ []))
  fault_line-main k out x kind at inside =
      let ports : slice_get (map (λ (o : OutPort). o.port) e.outs) k ≡ Some out.port =
      slice_get-map (λ (o : OutPort). o.port) e.outs k ∙ ap (option_map (λ (o : OutPort). o.port)) at in
      ap (λ t. words kind (rank out.port.shape x) (unwrap_or (option_map task_name t) []) (slice_get (unwrap_or (option_map outputs_of t) []) k)) main_number
      ∙ ap (words kind (rank out.port.shape x) e.name) ports
      ∙ ap (λ y. line (spaced (codes "fault" ∷ kind_text kind ∷ e.name ∷ out.port.name ∷ shape_text y ∷ []))) (point_at-rank out.port.shape x inside)
