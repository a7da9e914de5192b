-- Tasks without repetitions that were read are read again.
use Rattle.std.proofs.Common.{◌≡◌, ℕ, ◌+◌, List, [], ◌∷◌, map, length, true, nat_le, Result, Ok, refl, ap, ◌∙◌}
use Rattle.std.specs.List.{zip}
use Rattle.serde_json.specs.Data.{Data, string}
use Rattle.aol_shape.specs.declared.limit.LimitName.TheVariants.{Ports}
use Rattle.aol_expr_tree.specs.declared.port.Port.{Port}
use Rattle.aol_expr_tree.specs.declared.value.Width.{Width}
use Rattle.aol_expr_tree.specs.declared.value.Width.TheVariants.{Int16, Int32, Int64}
use Rattle.aol_expr_tree.specs.Tree.{Tree}
use Rattle.aol_expr_tree.specs.Writing.{expr_text}
use Rattle.aol_model_types.specs.declared.place.Key.TheVariants.{KKind, KName, KType, KIn, KOut, KShape, KExpr, KParts, KLinks, KReshapes, KTask, KFrom, KTo, KSpace, KPattern, KSource, KTarget, KOuter, KInner, KTiler}
use Rattle.aol_model_types.specs.declared.task.OutPort.{OutPort}
use Rattle.aol_model_types.specs.declared.task.Part.{Part}
use Rattle.aol_model_types.specs.declared.task.Plain.{Plain}
use Rattle.aol_model_types.specs.declared.task.Copied.{Copied}
use Rattle.aol_model_types.specs.declared.task.TilerOn.{TilerOn}
use Rattle.aol_model_types.specs.declared.task.Task.{Task}
use Rattle.aol_model_types.specs.Places.{to_key}
use Rattle.aol_model_types.specs.Reading.{At, type_at, Fault, list_of, max_ports, name_at, shape_at, expr_at, tiler_at, hook_at, port_at, input_port_at, output_port_at, outputs_of, part_at, plain_at, copied_at, tiler_on_at, elementary_at, compound_at, task_at}
use Rattle.aol_model_types.specs.Writing.{list_tree, shape_tree, port_tree, input_port_tree, output_port_tree, part_tree, plain_tree, copied_tree, tiler_on_tree, task_tree}
use Rattle.aol_document_laws.proofs.AgainSteps.{Was, Reads, same_answer, went, formed, took, goes}
use Rattle.aol_document_laws.proofs.AgainLists.{list_again, bounded_was, bounded_again}
use Rattle.aol_document_laws.proofs.AgainTexts.{name_read, shape_read, expr_read, tiler_read, hook_read}

-- ---- ports

pub port_read : (p : Port) → Was port_at p → Reads port_at (port_tree p) p
port_read p w at = took w.0 w.1 w.2 KName name_at (formed (KName ∷ KShape ∷ []) [] w.0 w.1 w.3) (λ n name e. took w.0 w.1 w.2 KShape shape_at e (λ s shape last.
    same_answer last (λ q. port_at at (port_tree q) ≡ Ok q) (goes _ (name_read n name (to_key at KName)) (goes _ (shape_read s shape (to_key at KShape)) refl))))

input_port_with : (n s : List ℕ) (w : Width) → Reads name_at (string n) n → Reads shape_at (shape_tree s) s → Reads input_port_at (input_port_tree (record { name = n; shape = s }, w)) (record { name = n; shape = s }, w)
input_port_with n s Int16 name shape at = goes _ (name (to_key at KName)) (goes _ (shape (to_key at KShape)) refl)
input_port_with n s Int32 name shape at = goes _ (name (to_key at KName)) (goes _ (shape (to_key at KShape)) refl)
input_port_with n s Int64 name shape at = goes _ (name (to_key at KName)) (goes _ (shape (to_key at KShape)) refl)

pub input_port_read : (p : Port × Width) → Was input_port_at p → Reads input_port_at (input_port_tree p) p
input_port_read p was at = took was.0 was.1 was.2 KName name_at (formed (KName ∷ KShape ∷ []) (KType ∷ []) was.0 was.1 was.3) (λ n name e. took was.0 was.1 was.2 KShape shape_at e (λ s shape e. went (type_at was.0 was.1) e (λ w _ last.
    same_answer last (λ q. input_port_at at (input_port_tree q) ≡ Ok q) (input_port_with n s w (name_read n name) (shape_read s shape) at))))

output_port_with : (n s : List ℕ) (w : Width) (t : Tree) → Reads name_at (string n) n → Reads shape_at (shape_tree s) s → Reads expr_at (string (expr_text t)) t
    → Reads output_port_at (output_port_tree (record { port = record { name = n; shape = s }; expr = t }, w)) (record { port = record { name = n; shape = s }; expr = t }, w)
output_port_with n s Int16 t name shape expr at = goes _ (name (to_key at KName)) (goes _ (shape (to_key at KShape)) (goes _ (expr (to_key at KExpr)) refl))
output_port_with n s Int32 t name shape expr at = goes _ (name (to_key at KName)) (goes _ (shape (to_key at KShape)) (goes _ (expr (to_key at KExpr)) refl))
output_port_with n s Int64 t name shape expr at = goes _ (name (to_key at KName)) (goes _ (shape (to_key at KShape)) (goes _ (expr (to_key at KExpr)) refl))

pub output_port_read : (p : OutPort × Width) → Was output_port_at p → Reads output_port_at (output_port_tree p) p
output_port_read p was at = took was.0 was.1 was.2 KName name_at (formed (KName ∷ KShape ∷ KExpr ∷ []) (KType ∷ []) was.0 was.1 was.3) (λ n name e. took was.0 was.1 was.2 KShape shape_at e (λ s shape e. went (type_at was.0 was.1) e (λ w _ e. took was.0 was.1 was.2 KExpr expr_at e (λ t expr last.
    same_answer last (λ q. output_port_at at (output_port_tree q) ≡ Ok q) (output_port_with n s w t (name_read n name) (shape_read s shape) (expr_read t expr) at)))))

-- ---- parts, links, reshapes, and tilers of a repetition

part_read : (p : Part) → Was part_at p → Reads part_at (part_tree p) p
part_read p w at = took w.0 w.1 w.2 KName name_at (formed (KName ∷ KTask ∷ []) [] w.0 w.1 w.3) (λ n name e. took w.0 w.1 w.2 KTask name_at e (λ t task last.
    same_answer last (λ q. part_at at (part_tree q) ≡ Ok q) (goes _ (name_read n name (to_key at KName)) (goes _ (name_read t task (to_key at KTask)) refl))))

plain_read : (l : Plain) → Was plain_at l → Reads plain_at (plain_tree l) l
plain_read l w at = took w.0 w.1 w.2 KFrom hook_at (formed (KFrom ∷ KTo ∷ []) [] w.0 w.1 w.3) (λ f from e. took w.0 w.1 w.2 KTo hook_at e (λ t to last.
    same_answer last (λ q. plain_at at (plain_tree q) ≡ Ok q) (goes _ (hook_read f from (to_key at KFrom)) (goes _ (hook_read t to (to_key at KTo)) refl))))

copied_read : (c : Copied) → Was copied_at c → Reads copied_at (copied_tree c) c
copied_read c w at = took w.0 w.1 w.2 KFrom hook_at (formed (KFrom ∷ KTo ∷ KSpace ∷ KPattern ∷ KSource ∷ KTarget ∷ []) [] w.0 w.1 w.3) (λ f from e. took w.0 w.1 w.2 KTo hook_at e (λ t to e. took w.0 w.1 w.2 KSpace shape_at e (λ s space e. took w.0 w.1 w.2 KPattern shape_at e (λ p pattern e. took w.0 w.1 w.2 KSource tiler_at e (λ o source e. took w.0 w.1 w.2 KTarget tiler_at e (λ g target last.
    same_answer last (λ q. copied_at at (copied_tree q) ≡ Ok q)
    (goes _ (hook_read f from (to_key at KFrom)) (goes _ (hook_read t to (to_key at KTo)) (goes _ (shape_read s space (to_key at KSpace)) (goes _ (shape_read p pattern (to_key at KPattern)) (goes _ (tiler_read o source (to_key at KSource)) (goes _ (tiler_read g target (to_key at KTarget)) refl))))))))))))

pub tiler_on_read : (t : TilerOn) → Was tiler_on_at t → Reads tiler_on_at (tiler_on_tree t) t
tiler_on_read t w at = took w.0 w.1 w.2 KOuter name_at (formed (KOuter ∷ KInner ∷ KTiler ∷ []) [] w.0 w.1 w.3) (λ o outer e. took w.0 w.1 w.2 KInner name_at e (λ i inner e. took w.0 w.1 w.2 KTiler tiler_at e (λ b tiler last.
    same_answer last (λ q. tiler_on_at at (tiler_on_tree q) ≡ Ok q) (goes _ (name_read o outer (to_key at KOuter)) (goes _ (name_read i inner (to_key at KInner)) (goes _ (tiler_read b tiler (to_key at KTiler)) refl))))))

-- ---- elementary tasks

zip_unzipped : {A B : Type 0} (ps : List (A × B)) → zip (map (λ p. p.0) ps) (map (λ p. p.1) ps) ≡ ps
zip_unzipped [] = refl
zip_unzipped (p ∷ ps) = ap (λ qs. p ∷ qs) (zip_unzipped ps)

-- pairs that are written from two lists
unzipped_read : {A B : Type 0} (f : At → Data → Result (List (A × B)) Fault) (w : A × B → Data) (ps : List (A × B)) → Reads f (list_tree w ps) ps → Reads f (list_tree w (zip (map (λ p. p.0) ps) (map (λ p. p.1) ps))) ps
unzipped_read f w ps read at = ap (λ qs. f at (list_tree w qs)) (zip_unzipped ps) ∙ read at

-- the outputs of a task that has so many inputs
pub outputs_read : {A : Type 0} (inputs : ℕ) (f : At → Data → Result A Fault) (w : A → Data) → ((x : A) → Was f x → Reads f (w x) x) → (xs : List A) → Was (outputs_of inputs f) xs → Reads (outputs_of inputs f) (list_tree w xs) xs
outputs_read inputs f w again xs was = bounded_again f f w again Ports (λ n. nat_le (inputs + n) max_ports) xs (bounded_was f Ports (λ n. nat_le (inputs + n) max_ports) xs was)

pub elementary_read : (t : Task) → Was elementary_at t → Reads (task_at true) (task_tree t) t
elementary_read t w at = took w.0 w.1 w.2 KName name_at (formed (KKind ∷ KName ∷ KIn ∷ KOut ∷ []) [] w.0 w.1 w.3) (λ n name e. took w.0 w.1 w.2 KIn (list_of input_port_at) e (λ ins are_in e. took w.0 w.1 w.2 KOut (outputs_of (length ins) output_port_at) e (λ outs are_out last.
    same_answer last (λ q. task_at true at (task_tree q) ≡ Ok q)
    (goes _ (name_read n name (to_key at KName))
    (goes _ (unzipped_read (list_of input_port_at) input_port_tree ins (list_again input_port_at input_port_at input_port_tree input_port_read ins are_in) (to_key at KIn))
    (goes _ (unzipped_read (outputs_of (length ins) output_port_at) output_port_tree outs (outputs_read (length ins) output_port_at output_port_tree output_port_read outs are_out) (to_key at KOut))
    refl))))))

-- ---- compounds

pub compound_read : (t : Task) → Was compound_at t → Reads (task_at true) (task_tree t) t
compound_read t w at = took w.0 w.1 w.2 KName name_at (formed (KKind ∷ KName ∷ KIn ∷ KOut ∷ KParts ∷ KLinks ∷ KReshapes ∷ []) [] w.0 w.1 w.3) (λ n name e. took w.0 w.1 w.2 KIn (list_of port_at) e (λ ins are_in e. took w.0 w.1 w.2 KOut (outputs_of (length ins) port_at) e (λ outs are_out e. took w.0 w.1 w.2 KParts (list_of part_at) e (λ parts are_parts e. took w.0 w.1 w.2 KLinks (list_of plain_at) e (λ links are_links e. took w.0 w.1 w.2 KReshapes (list_of copied_at) e (λ reshapes are_reshapes last.
    same_answer last (λ q. task_at true at (task_tree q) ≡ Ok q)
    (goes _ (name_read n name (to_key at KName))
    (goes _ (list_again port_at port_at port_tree port_read ins are_in (to_key at KIn))
    (goes _ (outputs_read (length ins) port_at port_tree port_read outs are_out (to_key at KOut))
    (goes _ (list_again part_at part_at part_tree part_read parts are_parts (to_key at KParts))
    (goes _ (list_again plain_at plain_at plain_tree plain_read links are_links (to_key at KLinks))
    (goes _ (list_again copied_at copied_at copied_tree copied_read reshapes are_reshapes (to_key at KReshapes))
    refl))))))))))))
