-- What the rules say of each task of a model, and of the members of its lists.
use Rattle.std.proofs.Common.{◌≡◌, ℕ, zero, suc, ◌+◌, Bool, true, false, not, ◌&&◌, List, [], ◌∷◌, ◌++◌, length, map, Option, Some, None, is_some, option_map, unwrap_or, find, slice_get, sym, ◌∙◌, ap, refl, arith, subst}
use Rattle.std.specs.List.{IsAmong, position_or_len}
use Rattle.std.specs.Option.{option_or}
use Rattle.std.proofs.lemmas.List.{append_assoc, length-append}
use Rattle.std.proofs.lemmas.List.Folds.{find-append, find_at}
use Rattle.std.proofs.lemmas.Option.{none-some}
use Rattle.aol_shape.specs.Lists.{same}
use Rattle.aol_expr_tree.specs.declared.port.Port.{Port}
use Rattle.aol_model_types.specs.declared.document.Model.{Model}
use Rattle.aol_model_types.specs.declared.place.Key.TheVariants.{KModel, KTasks, KMain, KIn, KOut, KParts, KLinks, KReshapes, KTask, KTilers}
use Rattle.aol_model_types.specs.declared.place.PlaceStep.{PlaceStep}
use Rattle.aol_model_types.specs.declared.task.Compound.{Compound}
use Rattle.aol_model_types.specs.declared.task.OutPort.{OutPort}
use Rattle.aol_model_types.specs.declared.task.Part.{Part}
use Rattle.aol_model_types.specs.declared.task.Repeated.{Repeated}
use Rattle.aol_model_types.specs.declared.task.Task.{Task}
use Rattle.aol_model_types.specs.declared.task.Task.TheVariants as tasks
use Rattle.aol_model_types.specs.Places.{to_key, to_index}
use Rattle.aol_model_types.specs.Rules.{ShapesAgree, Check, check, each, each_from, task_checks, kind_checks, compound_checks, repeated_checks, port_checks, output_checks, part_checks, plain_checks, copied_checks, tiler_checks, interlink_checks, part_is_fed, output_is_fed, all_inner_fed, is_tiled, is_earlier_task, is_new_port, is_new_task, main_is_task, task_name, task_named, inputs_of, outputs_of, port_shape}
use Rattle.aol_model_types.proofs.PortNames.{new_behind}
use Rattle.aol_flat.proofs.Among.{among_map, among_get}
use Rattle.aol_flat.proofs.Different.{Hold, hold-parts}
use Rattle.aol_flat.proofs.Names.{both-true, same-equal}
use Rattle.aol_flat.proofs.Once.{found_among}
use Rattle.aol_flat.proofs.Sites.{find-passes}

-- a member of a list, with its number, stands between those before it and the rest, and its checks hold
pub record IsMember {A : Type 0} (f : List PlaceStep → List A → A → List Check) (xs : List A) (x : A) (number : ℕ) : Type 0 where
  pub place : List PlaceStep
  pub before : List A
  pub count : length before ≡ number
  pub rest : List A
  pub split : xs ≡ before ++ x ∷ rest
  pub holds : Hold (f place before x)

member_from : {A : Type 0} (f : List PlaceStep → List A → A → List Check) (at : List PlaceStep) (k : ℕ) (earlier xs : List A) (x : A) (i : ℕ) → Hold (each_from f at k earlier xs) → slice_get xs i ≡ Some x
    → IsMember f (earlier ++ xs) x (length earlier + i)
member_from f at k earlier [] x i h a = absurd (none-some x a)
member_from {A = A} f at k earlier (y ∷ xs) x zero h a =
    let parts = hold-parts (f (to_index at k) earlier y) (each_from f at (k + 1) (earlier ++ y ∷ []) xs) h in
    let here : y ≡ x = cc in
    let P : A → Type 0 = λ z. Hold (f (to_index at k) earlier z) in
    record { place = to_index at k; before = earlier; count = omega arith; rest = xs; split = ap (λ z. earlier ++ z ∷ xs) here; holds = subst P here parts.0 }
member_from f at k earlier (y ∷ xs) x (suc i) h a =
    let parts = hold-parts (f (to_index at k) earlier y) (each_from f at (k + 1) (earlier ++ y ∷ []) xs) h in
    let r = member_from f at (k + 1) (earlier ++ y ∷ []) xs x i parts.1 a in
    record { place = r.place; before = r.before; count = omega (arith, r.count, length-append earlier (y ∷ [])); rest = r.rest; split = sym (append_assoc earlier (y ∷ []) xs) ∙ r.split; holds = r.holds }

-- the checks of a list hold at each member
pub member_at : {A : Type 0} (f : List PlaceStep → List A → A → List Check) (at : List PlaceStep) (xs : List A) (x : A) (i : ℕ) → Hold (each f at xs) → slice_get xs i ≡ Some x → IsMember f xs x i
member_at f at xs x i h a =
    let r = member_from f at 0 [] xs x i h a in
    record { place = r.place; before = r.before; count = omega (arith, r.count); rest = r.rest; split = r.split; holds = r.holds }

pub member : {A : Type 0} (f : List PlaceStep → List A → A → List Check) (at : List PlaceStep) (xs : List A) (x : A) → Hold (each f at xs) → (a : IsAmong xs x) → IsMember f xs x a.0
member f at xs x h a = member_at f at xs x a.0 h (among_get xs a.0 x a.1.0 a.1.1)

-- a task of a model whose shapes agree
pub record IsTaskOf (m : Model) (t : Task) : Type 0 where
  pub place : List PlaceStep
  pub before : List Task
  pub rest : List Task
  pub split : m.tasks ≡ before ++ t ∷ rest
  pub holds : Hold (kind_checks before place t)

pub task_numbered : (m : Model) (t : Task) (i : ℕ) → ShapesAgree m → slice_get m.tasks i ≡ Some t → (r : IsTaskOf m t) × (length r.before ≡ i)
task_numbered m t i agree at =
    let all = hold-parts (each task_checks (to_key (to_key [] KModel) KTasks) m.tasks) (check (to_key (to_key [] KModel) KMain) 23 (main_is_task m) ∷ []) agree in
    let r = member_at task_checks (to_key (to_key [] KModel) KTasks) m.tasks t i all.0 at in
    (record { place = r.place; before = r.before; rest = r.rest; split = r.split; holds = (both-true (is_new_task r.before t) _ r.holds).1 }, r.count)

pub task_of : (m : Model) (t : Task) (name : List ℕ) → ShapesAgree m → task_named m.tasks name ≡ Some t → IsTaskOf m t
task_of m t name agree found =
    (task_numbered m t (position_or_len (λ u. same (task_name u) name) m.tasks) agree (sym (find_at (λ u. same (task_name u) name) m.tasks) ∙ found)).0

-- a name that an earlier task has is that of the same task among all
pub named_earlier : (m : Model) (before rest : List Task) (name : List ℕ) (u : Task) → m.tasks ≡ before ++ rest → task_named before name ≡ Some u → task_named m.tasks name ≡ Some u
named_earlier m before rest name u split found =
    ap (λ ts. task_named ts name) split
    ∙ (find-append (λ t. same (task_name t) name) before rest
    ∙ ap (λ o. option_or o (find (λ t. same (task_name t) name) rest)) found)

-- a port that some list of ports of a task has, where the task is found by name
pub port_there : (ports : Task → List Port) (o : Option Task) (port : List ℕ) → is_some (port_shape (unwrap_or (option_map ports o) []) port) ≡ true
    → (u : Task) × (o ≡ Some u) × (is_some (port_shape (ports u) port) ≡ true)
port_there ports None port h = cc
port_there ports (Some u) port h = (u, refl, h)

-- ---- the members of a compound and of a repeated task

-- the check that the inputs of a part are fed
abbrev pub fed_checks : List Task → Compound → List PlaceStep → List Part → Part → List Check
fed_checks ts c at earlier p = check at 12 (part_is_fed ts c p) ∷ []

-- the check that an output of a compound is fed
abbrev pub output_fed_checks : Compound → List PlaceStep → List Port → Port → List Check
output_fed_checks c at earlier p = check at 13 (output_is_fed c p) ∷ []

-- the checks of the members of a compound hold
pub record HoldsOfCompound (ts : List Task) (place : List PlaceStep) (c : Compound) : Type 0 where
  pub ins : Hold (each (port_checks []) (to_key place KIn) c.ins)
  pub outs : Hold (each (port_checks c.ins) (to_key place KOut) c.outs)
  pub parts : Hold (each (part_checks ts) (to_key place KParts) c.parts)
  pub links : Hold (each (plain_checks ts c) (to_key place KLinks) c.links)
  pub reshapes : Hold (each (copied_checks ts c) (to_key place KReshapes) c.reshapes)
  pub fed : Hold (each (fed_checks ts c) (to_key place KParts) c.parts)
  pub outs_fed : Hold (each (output_fed_checks c) (to_key place KOut) c.outs)

pub of_compound : (ts : List Task) (place : List PlaceStep) (c : Compound) → Hold (compound_checks ts place c) → HoldsOfCompound ts place c
of_compound ts place c h =
    let outs : List Check = each (port_checks c.ins) (to_key place KOut) c.outs in
    let parts : List Check = each (part_checks ts) (to_key place KParts) c.parts in
    let links : List Check = each (plain_checks ts c) (to_key place KLinks) c.links in
    let reshapes : List Check = each (copied_checks ts c) (to_key place KReshapes) c.reshapes in
    let fed : List Check = each (fed_checks ts c) (to_key place KParts) c.parts in
    let outs_fed : List Check = each (output_fed_checks c) (to_key place KOut) c.outs in
    let ins : List Check = each (port_checks []) (to_key place KIn) c.ins in
    let h6 = hold-parts (ins ++ outs ++ parts ++ links ++ reshapes ++ fed) outs_fed h in
    let h5 = hold-parts (ins ++ outs ++ parts ++ links ++ reshapes) fed h6.0 in
    let h4 = hold-parts (ins ++ outs ++ parts ++ links) reshapes h5.0 in
    let h3 = hold-parts (ins ++ outs ++ parts) links h4.0 in
    let h2 = hold-parts (ins ++ outs) parts h3.0 in
    let h1 = hold-parts ins outs h2.0 in
    record { ins = h1.0; outs = h1.1; parts = h2.1; links = h3.1; reshapes = h4.1; fed = h5.1; outs_fed = h6.1 }

-- the check that a tiler is on an output of a repeated task
abbrev pub tiled_checks : Repeated → List PlaceStep → List Port → Port → List Check
tiled_checks r at earlier y = check at 22 (is_tiled r y) ∷ []

-- the checks of the members of a repeated task hold
pub record HoldsOfRepeated (ts : List Task) (place : List PlaceStep) (r : Repeated) : Type 0 where
  pub ins : Hold (each (port_checks []) (to_key place KIn) r.ins)
  pub outs : Hold (each (port_checks r.ins) (to_key place KOut) r.outs)
  pub inner : is_earlier_task ts r.task ≡ true
  pub tilers : Hold (each (tiler_checks ts r) (to_key place KTilers) r.tilers)
  pub links : Hold (each (interlink_checks ts r) (to_key place KLinks) r.links)
  pub fed : all_inner_fed ts r ≡ true
  pub tiled : Hold (each (tiled_checks r) (to_key place KOut) r.outs)

pub of_repeated : (ts : List Task) (place : List PlaceStep) (r : Repeated) → Hold (repeated_checks ts place r) → HoldsOfRepeated ts place r
of_repeated ts place r h =
    let outs : List Check = each (port_checks r.ins) (to_key place KOut) r.outs in
    let tilers : List Check = each (tiler_checks ts r) (to_key place KTilers) r.tilers in
    let links : List Check = each (interlink_checks ts r) (to_key place KLinks) r.links in
    let tiled : List Check = each (tiled_checks r) (to_key place KOut) r.outs in
    let inner : Check = check (to_key place KTask) 14 (is_earlier_task ts r.task) in
    let fed : Check = check (to_key place KTask) 21 (all_inner_fed ts r) in
    let ins : List Check = each (port_checks []) (to_key place KIn) r.ins in
    let h4 = hold-parts (ins ++ outs ++ inner ∷ tilers ++ links) (fed ∷ tiled) h in
    let h3 = hold-parts (ins ++ outs ++ inner ∷ tilers) links h4.0 in
    let h2 = hold-parts (ins ++ outs) (inner ∷ tilers) h3.0 in
    let h1 = hold-parts ins outs h2.0 in
    let first = hold-parts (inner ∷ []) tilers h2.1 in
    let last = hold-parts (fed ∷ []) tiled h4.1 in
    record {
      ins = h1.0;
      outs = h1.1;
      inner = (both-true (is_earlier_task ts r.task) true first.0).0;
      tilers = first.1;
      links = h3.1;
      fed = (both-true (all_inner_fed ts r) true last.0).0;
      tiled = last.1;
    }

-- ---- an output has no input's name

not_there : (a b : Bool) → (not a && not b) ≡ true → a ≡ false
not_there true b h = cc
not_there false b h = refl

-- a new port has none of the names before it
new_apart : (ins earlier : List Port) (p : Port) → is_new_port (ins ++ earlier) p ≡ true → is_some (port_shape ins p.name) ≡ false
new_apart ins earlier p h = not_there (is_some (port_shape ins p.name)) (is_some (port_shape earlier p.name)) (sym (new_behind ins earlier p.name) ∙ h)

-- what is found has the name
pub named_port : (ports : List Port) (port : List ℕ) → is_some (port_shape ports port) ≡ true → (p : Port) × IsAmong ports p × (p.name ≡ port)
named_port ports port h = go (find (λ (p : Port). same p.name port) ports) refl h
  where
    go : (o : Option Port) → find (λ (p : Port). same p.name port) ports ≡ o → is_some (option_map (λ (p : Port). p.shape) o) ≡ true → (p : Port) × IsAmong ports p × (p.name ≡ port)
    go None e k = cc
    go (Some p) e k = (p, found_among (λ (q : Port). same q.name port) ports p e, same-equal p.name port (find-passes (λ (q : Port). same q.name port) ports p e))

outputs_apart : (ins outs : List Port) (at : List PlaceStep) (port : List ℕ) → Hold (each (port_checks ins) at outs) → is_some (port_shape outs port) ≡ true → is_some (port_shape ins port) ≡ false
outputs_apart ins outs at port h known =
    let p = named_port outs port known in
    let r = member (port_checks ins) at outs p.0 h p.1 in
    ap (λ name. is_some (port_shape ins name)) (sym p.2) ∙ new_apart ins r.before p.0 (both-true (is_new_port (ins ++ r.before) p.0) true r.holds).0

-- the inputs and outputs of a task whose checks hold have different names
pub sides_apart : (before : List Task) (place : List PlaceStep) (t : Task) (port : List ℕ) → Hold (kind_checks before place t) → is_some (port_shape (outputs_of t) port) ≡ true
    → is_some (port_shape (inputs_of t) port) ≡ false
sides_apart before place (tasks.Elementary e) port h known =
    let parts = hold-parts (each (port_checks []) (to_key place KIn) e.ins) (each (output_checks e) (to_key place KOut) e.outs) h in
    let p = named_port (map (λ (o : OutPort). o.port) e.outs) port known in
    let o = among_map (λ (o : OutPort). o.port) e.outs p.0 p.1 in
    let r = member (output_checks e) (to_key place KOut) e.outs o.0 parts.1 o.1 in
    let named : port ≡ o.0.port.name = sym p.2 ∙ ap (λ (q : Port). q.name) o.2 in
    ap (λ name. is_some (port_shape e.ins name)) named
    ∙ new_apart e.ins (map (λ (q : OutPort). q.port) r.before) o.0.port (both-true (is_new_port (e.ins ++ map (λ (q : OutPort). q.port) r.before) o.0.port) _ r.holds).0
sides_apart before place (tasks.Compound c) port h known = outputs_apart c.ins c.outs (to_key place KOut) port (of_compound before place c h).outs known
sides_apart before place (tasks.Repeated t) port h known = outputs_apart t.ins t.outs (to_key place KOut) port (of_repeated before place t h).outs known
