-- A tiler of a repeated task fits the ports that it joins.
use Rattle.std.proofs.Common.{◌≡◌, ℕ, true, [], ◌∷◌, ◌++◌, Some, option_map, unwrap_or, sym, ◌∙◌, ap}
use Rattle.std.specs.Prelude.{option_and_then}
use Rattle.std.specs.List.{IsAmong}
use Rattle.aol_tiler.specs.Tiler.{fits}
use Rattle.aol_expr_tree.specs.declared.port.Port.{Port}
use Rattle.aol_model_types.specs.declared.document.Model.{Model}
use Rattle.aol_model_types.specs.declared.task.Repeated.{Repeated}
use Rattle.aol_model_types.specs.declared.task.Task.{Task}
use Rattle.aol_model_types.specs.declared.task.Task.TheVariants as tasks
use Rattle.aol_model_types.specs.declared.task.TilerOn.{TilerOn}
use Rattle.aol_model_types.specs.Rules.{task_named, inputs_of, outputs_of, inputs_named, outputs_named, port_shape, fits_in}
use Rattle.aol_flat.specs.Accept.{IsSound}
use Rattle.aol_flat.specs.Node.{Node, ToBody, task_under}
use Rattle.aol_flat.specs.NodeTable.{IsNode}
use Rattle.aol_flat.proofs.Checked.{IsTaskOf, of_repeated, named_earlier}
use Rattle.aol_flat.proofs.NodeAt.{known, task_known}
use Rattle.aol_flat.proofs.Once.{there}
use Rattle.aol_flat.proofs.TilerRules.{tiled}

module _ (m : Model) (sound : IsSound m) (number above : ℕ) (up : Node) (r : Repeated) (t : Task) (here : IsNode m number (ToBody r.space ∷ up) t) (over : IsNode m above up (tasks.Repeated r)) where
  -- the task of the body is that of the name
  pub inner_named : task_named m.tasks r.task ≡ Some t
  inner_named =
      sym (ap (option_and_then (λ u. task_under m u (ToBody r.space))) (known m above up (tasks.Repeated r) over).task) ∙ (known m number (ToBody r.space ∷ up) t here).task

  pub repeated_known : IsTaskOf m (tasks.Repeated r)
  repeated_known = task_known m sound above up (tasks.Repeated r) over

  -- and the one that the rules know
  pub inner_before : (s : IsTaskOf m (tasks.Repeated r)) → task_named s.before r.task ≡ Some t
  inner_before s =
      let v = there (task_named s.before r.task) (of_repeated s.before s.place r s.holds).inner in
      let one : Some v.0 ≡ Some t = sym (named_earlier m s.before (tasks.Repeated r ∷ s.rest) r.task v.0 s.split v.1) ∙ inner_named in
      v.1 ∙ one

  pub tiler_fits_ports : (o : TilerOn) (p q : Port) → IsAmong r.tilers o → port_shape (r.ins ++ r.outs) o.outer ≡ Some q.shape → port_shape (inputs_of t ++ outputs_of t) o.inner ≡ Some p.shape
      → fits o.tiler q.shape r.space p.shape ≡ true
  tiler_fits_ports o p q listed outer inner =
      let s = repeated_known in
      let rules = tiled s.before s.place r o (of_repeated s.before s.place r s.holds) listed in
      let port : port_shape (inputs_named s.before r.task ++ outputs_named s.before r.task) o.inner ≡ Some p.shape =
      ap (λ u. port_shape (unwrap_or (option_map inputs_of u) [] ++ unwrap_or (option_map outputs_of u) []) o.inner) (inner_before s) ∙ inner in
      sym (ap (λ a. fits_in o.tiler a r.space (Some p.shape)) outer) ∙ (sym (ap (fits_in o.tiler (port_shape (r.ins ++ r.outs) o.outer) r.space) port) ∙ rules.fits)
