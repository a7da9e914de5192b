-- What a task keeps whose parts were read.
use Rattle.std.proofs.Common.{◌≡◌, Result, Ok, if◌then◌else◌, ℕ, ◌≤◌, List, [], ◌∷◌, ◌++◌, length, map, Bool, true, false, refl, ap, rules}
use Rattle.std.specs.List.{AllByRecursion, list_all, list_any, flat_map}
use Rattle.std.proofs.lemmas.List.Folds.{list_all-append}
use Rattle.aol_shape.specs.Shape.{IsShape}
use Rattle.aol_shape.specs.Texts.{is_name}
use Rattle.aol_link.specs.Types.{IsInterlink}
use Rattle.aol_expr_tree.specs.declared.port.Port.{Port}
use Rattle.aol_expr_tree.specs.declared.value.Width.{Width}
use Rattle.aol_model_types.specs.declared.task.OutPort.{OutPort}
use Rattle.aol_model_types.specs.declared.task.Part.{Part}
use Rattle.aol_model_types.specs.declared.task.Compound.{Compound}
use Rattle.aol_model_types.specs.declared.task.Repeated.{Repeated}
use Rattle.aol_model_types.specs.declared.task.Task.{Task}
use Rattle.aol_model_types.specs.declared.task.Task.TheVariants as tasks
use Rattle.aol_model_types.specs.declared.document.Model.{Model}
use Rattle.aol_shape.specs.Lists.{same}
use Rattle.aol_model_types.specs.Reading.{Fault, ◌>>=◌}
use Rattle.aol_model_types.specs.Types.{IsCounted, IsPort, IsOutPort, IsCopied, IsTilerOn, IsReadPort, IsReadOutPort, IsReadTask, IsReadModel, IsTask, HasOutput, names_in}

-- a name that passes in front of names that pass
with_name : (n : List ℕ) (ns : List (List ℕ)) → is_name n ≡ true → list_all is_name ns ≡ true → list_all is_name (n ∷ ns) ≡ true
with_name n ns h hs = rw (h, hs) refl

both_named : (ms ns : List (List ℕ)) → list_all is_name ms ≡ true → list_all is_name ns ≡ true → list_all is_name (ms ++ ns) ≡ true
both_named ms ns h hs = rw (list_all-append is_name ms ns, h, hs) refl

ports_named : (ps : List Port) → AllByRecursion IsReadPort ps → list_all is_name (map (λ p. p.name) ps) ≡ true
ports_named [] h = refl
ports_named (p ∷ ps) h = with_name p.name (map (λ p. p.name) ps) h.0.named (ports_named ps h.1)

read_ports : (ps : List Port) → AllByRecursion IsReadPort ps → AllByRecursion IsPort ps
read_ports [] h = tt
read_ports (p ∷ ps) h = (h.0.port, read_ports ps h.1)

parts_named : (ps : List Part) → AllByRecursion (λ (p : Part). is_name p.name ≡ true) ps → list_all is_name (map (λ p. p.name) ps) ≡ true
parts_named [] h = refl
parts_named (p ∷ ps) h = with_name p.name (map (λ p. p.name) ps) h.0 (parts_named ps h.1)

map-append : {A B : Type 0} (f : A → B) (xs ys : List A) → map f (xs ++ ys) ≡ map f xs ++ map f ys
map-append f [] ys = refl
map-append f (x ∷ xs) ys = ap (λ (zs : List _). f x ∷ zs) (map-append f xs ys)

-- the name of a task, those of its ports, and further ones
with_ports : (name : List ℕ) (more : List (List ℕ)) (ins outs : List Port) → is_name name ≡ true → list_all is_name (map (λ p. p.name) ins) ≡ true → list_all is_name (map (λ p. p.name) outs) ≡ true → list_all is_name more ≡ true
    → list_all is_name (name ∷ map (λ p. p.name) (ins ++ outs) ++ more) ≡ true
with_ports name more ins outs n is os ms =
    let ports : List (List ℕ) = map (λ p. p.name) ins in
    let all : list_all is_name (map (λ p. p.name) (ins ++ outs)) ≡ true = rw (map-append (λ (p : Port). p.name) ins outs) (both_named ports (map (λ p. p.name) outs) is os) in
    with_name name (map (λ p. p.name) (ins ++ outs) ++ more) n (both_named (map (λ p. p.name) (ins ++ outs)) more all ms)

-- ---- elementary tasks

firsts : (ps : List (Port × Width)) → AllByRecursion (λ (p : Port × Width). IsReadPort p.0) ps → AllByRecursion IsReadPort (map (λ p. p.0) ps)
firsts [] h = tt
firsts (p ∷ ps) h = (h.0, firsts ps h.1)

outs_within : (ps : List (OutPort × Width)) → AllByRecursion (λ (p : OutPort × Width). IsReadOutPort p.0) ps → AllByRecursion IsOutPort (map (λ p. p.0) ps)
outs_within [] h = tt
outs_within (p ∷ ps) h = (h.0.port, outs_within ps h.1)

outs_named : (ps : List (OutPort × Width)) → AllByRecursion (λ (p : OutPort × Width). IsReadOutPort p.0) ps → list_all is_name (map (λ p. p.name) (map (λ (o : OutPort). o.port) (map (λ p. p.0) ps))) ≡ true
outs_named [] h = refl
outs_named (p ∷ ps) h = with_name p.0.port.name (map (λ p. p.name) (map (λ (o : OutPort). o.port) (map (λ p. p.0) ps))) h.0.named (outs_named ps h.1)

pair_lengths : {A B : Type 0} (ps : List (A × B)) → length (map (λ p. p.1) ps) ≡ length (map (λ p. p.0) ps)
pair_lengths [] = refl
pair_lengths (p ∷ ps) = search (rules, pair_lengths ps)

first_lengths : {A B : Type 0} (ps : List (A × B)) → length (map (λ p. p.0) ps) ≡ length ps
first_lengths [] = refl
first_lengths (p ∷ ps) = search (rules, first_lengths ps)

port_lengths : (os : List OutPort) → length (map (λ o. o.port) os) ≡ length os
port_lengths [] = refl
port_lengths (o ∷ os) = search (rules, port_lengths os)

append_nothing : {A : Type 0} (xs : List A) → xs ++ [] ≡ xs
append_nothing [] = refl
append_nothing (x ∷ xs) = ap (λ (ys : List _). x ∷ ys) (append_nothing xs)

pub elementary_kept : (name : List ℕ) (ins : List (Port × Width)) (outs : List (OutPort × Width)) → is_name name ≡ true → AllByRecursion (λ (p : Port × Width). IsReadPort p.0) ins → IsCounted ins → AllByRecursion (λ (p : OutPort × Width). IsReadOutPort p.0) outs → IsCounted outs → 1 ≤ length outs
    → IsReadTask (tasks.Elementary (record { name = name; ins = map (λ p. p.0) ins; outs = map (λ p. p.0) outs; wide_in = map (λ p. p.1) ins; wide_out = map (λ p. p.1) outs }))
elementary_kept name ins outs n is few os many some = record {
  types = record {
    ins = read_ports (map (λ p. p.0) ins) (firsts ins is);
    outs = outs_within outs os;
    wide_in = pair_lengths ins;
    wide_out = pair_lengths outs;
    in_count = rw (first_lengths ins) few;
    out_count = rw (first_lengths outs) many;
  };
  names = with_ports name [] (map (λ p. p.0) ins) (map (λ o. o.port) (map (λ p. p.0) outs)) n (ports_named (map (λ p. p.0) ins) (firsts ins is)) (outs_named outs os) refl;
  output = rw (port_lengths (map (λ p. p.0) outs), first_lengths outs) some;
}

-- ---- compounds and repetitions

pub compound_kept : (c : Compound) → is_name c.name ≡ true → AllByRecursion IsReadPort c.ins → IsCounted c.ins → AllByRecursion IsReadPort c.outs → IsCounted c.outs → 1 ≤ length c.outs
    → AllByRecursion (λ (p : Part). is_name p.name ≡ true) c.parts × IsCounted c.parts → IsCounted c.links → AllByRecursion IsCopied c.reshapes × IsCounted c.reshapes → IsReadTask (tasks.Compound c)
compound_kept c n is few os many some ps ls rs = record {
  types = record {
    ins = read_ports c.ins is;
    outs = read_ports c.outs os;
    reshapes = rs.0;
    in_count = few;
    out_count = many;
    part_count = ps.1;
    link_count = ls;
    reshape_count = rs.1;
  };
  names = with_ports c.name (map (λ p. p.name) c.parts) c.ins c.outs n (ports_named c.ins is) (ports_named c.outs os) (parts_named c.parts ps.0);
  output = some;
}

pub repeated_kept : (r : Repeated) → is_name r.name ≡ true → AllByRecursion IsReadPort r.ins → IsCounted r.ins → AllByRecursion IsReadPort r.outs → IsCounted r.outs → 1 ≤ length r.outs
    → IsShape r.space → AllByRecursion IsTilerOn r.tilers × IsCounted r.tilers → AllByRecursion IsInterlink r.links × IsCounted r.links → IsReadTask (tasks.Repeated r)
repeated_kept r n is few os many some space ts ls = record {
  types = record {
    ins = read_ports r.ins is;
    outs = read_ports r.outs os;
    space = space;
    tilers = ts.0;
    links = ls.0;
    in_count = few;
    out_count = many;
    tiler_count = ts.1;
    link_count = ls.1;
  };
  names = with_ports r.name [] r.ins r.outs n (ports_named r.ins is) (ports_named r.outs os) refl;
  output = some;
}

-- ---- models

all_within : (ts : List Task) → AllByRecursion IsReadTask ts → AllByRecursion IsTask ts
all_within [] h = tt
all_within (t ∷ ts) h = (h.0.types, all_within ts h.1)

tasks_named : (ts : List Task) → AllByRecursion IsReadTask ts → list_all is_name (flat_map names_in ts) ≡ true
tasks_named [] h = refl
tasks_named (t ∷ ts) h = both_named (names_in t) (flat_map names_in ts) h.0.names (tasks_named ts h.1)

with_outputs : (ts : List Task) → AllByRecursion IsReadTask ts → AllByRecursion HasOutput ts
with_outputs [] h = tt
with_outputs (t ∷ ts) h = (h.0.output, with_outputs ts h.1)

pub model_kept : (m : Model) → AllByRecursion IsReadTask m.tasks → IsCounted m.tasks → IsReadModel m
model_kept m ts few = record {
  model = record { tasks = all_within m.tasks ts; task_count = few };
  names = tasks_named m.tasks ts;
  outputs = with_outputs m.tasks ts;
}

-- ---- kinds

-- whether a test holds of some mapped element
pub any_mapped : {A B : Type 0} (p : B → Bool) (f : A → B) (xs : List A) → list_any p (map f xs) ≡ list_any (λ x. p (f x)) xs
any_mapped p f [] = refl
any_mapped p f (x ∷ xs) = rw (any_mapped p f xs) refl

module _ {A : Type 0} (read : Result (List ℕ) Fault) (kind one : List ℕ) (r : Result A Fault) (others : List ℕ → Result A Fault) (is : read ≡ Ok kind) where
  -- the first of the kinds
  pub first_kind : same kind one ≡ true → (read >>= (λ k. if same k one then r else others k)) ≡ r
  first_kind h = rw (is, h) refl

  -- one of the others
  pub other_kind : same kind one ≡ false → (read >>= (λ k. if same k one then r else others k)) ≡ others kind
  other_kind h = rw (is, h) refl

-- what a test that holds chooses
pub chosen : {A : Type 0} (test : Bool) (r s : Result A Fault) → test ≡ true → (if test then r else s) ≡ r
chosen test r s h = rw h refl

-- what one that fails chooses
pub passed : {A : Type 0} (test : Bool) (r s : Result A Fault) → test ≡ false → (if test then r else s) ≡ s
passed test r s h = rw h refl
