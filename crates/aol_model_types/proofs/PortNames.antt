-- Ports by their names.
use Rattle.std.proofs.Common.{◌≡◌, ℕ, List, [], ◌∷◌, ◌++◌, map, Bool, true, false, not, cond, ◌&&◌, Option, Some, None, option_map, is_some, is_none, refl, ap, ◌∙◌}
use Rattle.std.specs.List.{find}
use Rattle.std.specs.Option.{option_or}
use Rattle.std.proofs.lemmas.List.Folds.{find-append}
use Rattle.aol_shape.specs.Lists.{same}
use Rattle.aol_expr_tree.specs.declared.port.Port.{Port}
use Rattle.aol_model_types.specs.declared.task.OutPort.{OutPort}
use Rattle.aol_model_types.specs.Rules.{port_shape}

shapes_apart : (o p : Option Port) → option_map (λ p. p.shape) (option_or o p) ≡ option_or (option_map (λ p. p.shape) o) (option_map (λ p. p.shape) p)
shapes_apart None p = refl
shapes_apart (Some x) p = refl

-- ports after others
pub port_behind : (xs ys : List Port) (name : List ℕ) → port_shape (xs ++ ys) name ≡ option_or (port_shape xs name) (port_shape ys name)
port_behind xs ys name = rw (find-append (λ p. same p.name name) xs ys) (shapes_apart _ _)

neither : (o p : Option (List ℕ)) → is_none (option_or o p) ≡ (not (is_some o) && not (is_some p))
neither None None = refl
neither None (Some y) = refl
neither (Some x) p = refl

-- a name that no port has
pub new_behind : (xs ys : List Port) (name : List ℕ) → is_none (port_shape (xs ++ ys) name) ≡ (not (is_some (port_shape xs name)) && not (is_some (port_shape ys name)))
new_behind xs ys name = rw (port_behind xs ys name) (neither (port_shape xs name) (port_shape ys name))

step_out : (b : Bool) (o : OutPort) (r : Option Port) (s : Option OutPort) → option_map (λ p. p.shape) r ≡ option_map (λ q. q.port.shape) s
    → option_map (λ p. p.shape) (cond b (Some o.port) r) ≡ option_map (λ q. q.port.shape) (cond b (Some o) s)
step_out true o r s h = refl
step_out false o r s h = h

-- the ports of outputs with their expressions
out_shape : (os : List OutPort) (name : List ℕ) → port_shape (map (λ o. o.port) os) name ≡ option_map (λ o. o.port.shape) (find (λ o. same o.port.name name) os)
out_shape [] name = refl
out_shape (o ∷ os) name = step_out (same o.port.name name) o (find (λ p. same p.name name) (map (λ q. q.port) os)) (find (λ q. same q.port.name name) os) (out_shape os name)

-- an output that is there
pub out_found : (os : List OutPort) (name : List ℕ) (o : OutPort) → find (λ q. same q.port.name name) os ≡ Some o → port_shape (map (λ q. q.port) os) name ≡ Some o.port.shape
out_found os name o h = out_shape os name ∙ ap (option_map (λ q. q.port.shape)) h

-- an output that is not there
pub out_missing : (os : List OutPort) (name : List ℕ) → find (λ q. same q.port.name name) os ≡ None → port_shape (map (λ q. q.port) os) name ≡ None
out_missing os name h = out_shape os name ∙ ap (option_map (λ q. q.port.shape)) h
