-- Vectors modulo a shape are points of it, and ports have their own shapes.
use Rattle.std.proofs.Common.{◌≡◌, ℕ, suc, ◌-◌, ◌%◌, ◌<◌, ◌≤◌, Bool, true, false, not, cond, ◌&&◌, ◌==◌, ℤ, pos, negsuc, List, [], ◌∷◌, ◌++◌, length, map, Option, Some, None, is_some, option_map, find, sym, ◌∙◌, ap, refl, arith, subst}
use Rattle.std.specs.Prelude.{nat_lt}
use Rattle.std.specs.List.{IsAmong, AllByRecursion, list_all}
use Rattle.std.specs.Option.{option_or}
use Rattle.std.proofs.lemmas.Bool.{eqb-true, ltb-true}
use Rattle.std.proofs.lemmas.List.{map-append}
use Rattle.aol_shape.specs.Vectors.{plus, times, plus_columns, wrapped, wrapped_point, is_inside}
use Rattle.aol_shape.specs.Lists.{same}
use Rattle.aol_shape.specs.Shape.{IsPointOf, IsEntry, IsShape}
use Rattle.aol_tiler.specs.Matrices.{TilerOf}
use Rattle.aol_tiler.specs.Tiler.{fits, is_over, integers, place, address_point}
use Rattle.aol_expr_tree.specs.declared.port.Port.{Port}
use Rattle.aol_link.specs.Links.{naturals, stepped_back}
use Rattle.aol_model_types.specs.declared.place.Key.TheVariants.{KIn, KOut}
use Rattle.aol_model_types.specs.declared.place.PlaceStep.{PlaceStep}
use Rattle.aol_model_types.specs.declared.task.OutPort.{OutPort}
use Rattle.aol_model_types.specs.declared.task.Task.{Task}
use Rattle.aol_model_types.specs.declared.task.Task.TheVariants as tasks
use Rattle.aol_model_types.specs.Places.{to_key}
use Rattle.aol_model_types.specs.Rules.{each, kind_checks, port_checks, output_checks, is_new_port, inputs_of, outputs_of, port_shape, fits_in}
use Rattle.aol_model_types.proofs.PortNames.{port_behind, new_behind}
use Rattle.aol_flat.proofs.Among.{among_map}
use Rattle.aol_flat.proofs.Checked.{member, of_compound, of_repeated}
use Rattle.aol_flat.proofs.Different.{Hold, hold-parts}
use Rattle.aol_flat.proofs.Names.{both-true, same-self, same-equal}
use Rattle.aol_flat.proofs.Once.{found_among}
use Rattle.aol_flat.proofs.Sites.{find-passes}

-- ---- addresses

plus-length : (v w : List ℤ) → length (plus v w) ≡ length v
plus-length [] w = refl
plus-length (a ∷ v) [] = refl
plus-length (a ∷ v) (b ∷ w) = ap (λ k. suc k) (plus-length v w)

columns-length : (v : List ℤ) (cs : List (List ℤ)) (ks : List ℤ) → length (plus_columns v cs ks) ≡ length v
columns-length v [] ks = refl
columns-length v (c ∷ cs) [] = refl
columns-length v (c ∷ cs) (k ∷ ks) = columns-length (plus v (times k c)) cs ks ∙ plus-length v (times k c)

wrapped-below : (z : ℤ) (n : ℕ) → 1 ≤ n → wrapped z n < n
wrapped-below (pos a) n h = let f : a % n < n = omega (arith, h) in f
wrapped-below (negsuc a) n h = let f : n - 1 - a % n < n = omega (arith, h) in f

-- a vector modulo a shape of its length is a point of it
pub wrapped_inside : (shape : List ℕ) (v : List ℤ) → AllByRecursion IsEntry shape → length v ≡ length shape → IsPointOf shape (wrapped_point v shape)
wrapped_inside [] [] h l = tt
wrapped_inside [] (z ∷ v) h l = absurd (omega (arith, l))
wrapped_inside (n ∷ shape) [] h l = absurd (omega (arith, l))
wrapped_inside (n ∷ shape) (z ∷ v) h l = (wrapped-below z n h.0.0, wrapped_inside shape v h.1 (omega (arith, l)))

-- an address lies in the array that the tiler fits
pub address_inside : (t : TilerOf) (array space pattern r i : List ℕ) → fits t array space pattern ≡ true → IsShape array → IsPointOf array (address_point t array r i)
address_inside t array space pattern r i h shape =
    let over = both-true (is_over t array && length t.paving == length space) (length t.fitting == length pattern) h in
    let entries = both-true (is_over t array) (length t.paving == length space) over.0 in
    let first = both-true (length t.origin == length array && list_all (λ c. length c == length array) t.paving) (list_all (λ c. length c == length array) t.fitting) entries.0 in
    let origin : length t.origin ≡ length array = eqb-true (length t.origin) (length array) (both-true (length t.origin == length array) _ first.0).0 in
    wrapped_inside array (place t r i) shape.entry
    (columns-length (plus_columns t.origin t.paving (integers r)) t.fitting (integers i) ∙ (columns-length t.origin t.paving (integers r) ∙ origin))

-- numbers that are indices of a space are a point of it
pub naturals_inside : (s : List ℕ) (q : List ℤ) → is_inside s q ≡ true → IsPointOf s (naturals q)
naturals_inside [] [] h = tt
naturals_inside [] (z ∷ q) h = cc
naturals_inside (n ∷ s) [] h = cc
naturals_inside (n ∷ s) (pos i ∷ q) h = let parts = both-true (nat_lt i n) (is_inside s q) h in (ltb-true i n parts.0, naturals_inside s q parts.1)
naturals_inside (n ∷ s) (negsuc i ∷ q) h = cc

pub back-length : (r : List ℕ) (d : List ℤ) → length d ≡ length r → length (stepped_back r d) ≡ length r
back-length [] d h = refl
back-length (i ∷ r) [] h = absurd (omega (arith, h))
back-length (i ∷ r) (z ∷ d) h = ap (λ k. suc k) (back-length r d (omega (arith, h)))

-- ---- ports

-- a tiler that fits an array that is there
pub fits_there : (t : TilerOf) (a : Option (List ℕ)) (space : List ℕ) (p : Option (List ℕ)) (array : List ℕ) → a ≡ Some array → fits_in t a space p ≡ true → (pattern : List ℕ) × (fits t array space pattern ≡ true)
fits_there t None space p array e h = cc
fits_there t (Some s) space None array e h = cc
fits_there t (Some s) space (Some q) array e h = let f : s ≡ array = cc in (q, ap (λ x. fits t x space q) (sym f) ∙ h)

-- the port whose shape is found
pub found_port : (ports : List Port) (name shape : List ℕ) → port_shape ports name ≡ Some shape → (p : Port) × IsAmong ports p × (p.name ≡ name) × (p.shape ≡ shape)
found_port ports name shape h = go (find (λ (p : Port). same p.name name) ports) refl h
  where
    go : (o : Option Port) → find (λ (p : Port). same p.name name) ports ≡ o → option_map (λ (p : Port). p.shape) o ≡ Some shape → (p : Port) × IsAmong ports p × (p.name ≡ name) × (p.shape ≡ shape)
    go None e k = cc
    go (Some p) e k =
        let f : p.shape ≡ shape = cc in
        (p, found_among (λ (q : Port). same q.name name) ports p e, same-equal p.name name (find-passes (λ (q : Port). same q.name name) ports p e), f)

-- the shape of a port of the first list, and of one of the second whose name the first has not
pub shape_left : (ins outs : List Port) (name shape : List ℕ) → port_shape ins name ≡ Some shape → port_shape (ins ++ outs) name ≡ Some shape
shape_left ins outs name shape h = port_behind ins outs name ∙ ap (λ o. option_or o (port_shape outs name)) h

none_of : (o : Option (List ℕ)) → is_some o ≡ false → o ≡ None
none_of None h = refl
none_of (Some x) h = cc

pub shape_right : (ins outs : List Port) (name shape : List ℕ) → is_some (port_shape ins name) ≡ false → port_shape outs name ≡ Some shape → port_shape (ins ++ outs) name ≡ Some shape
shape_right ins outs name shape none h =
    port_behind ins outs name ∙ (ap (λ o. option_or o (port_shape outs name)) (none_of (port_shape ins name) none) ∙ h)

neither_there : (a b : Bool) → (not a && not b) ≡ true → (a ≡ false) × (b ≡ false)
neither_there true b h = cc
neither_there false true h = cc
neither_there false false h = (refl, refl)

-- a new port has its own shape
own_shape : (front before rest : List Port) (p : Port) → is_new_port (front ++ before) p ≡ true → port_shape (before ++ p ∷ rest) p.name ≡ Some p.shape
own_shape front before rest p new =
    let parts = neither_there (is_some (port_shape front p.name)) (is_some (port_shape before p.name)) (sym (new_behind front before p.name) ∙ new) in
    shape_right before (p ∷ rest) p.name p.shape parts.1
    (ap (λ b. option_map (λ (q : Port). q.shape) (cond b (Some p) (find (λ (q : Port). same q.name p.name) rest))) (same-self p.name))

pub port_own : (front : List Port) (at : List PlaceStep) (ports : List Port) (p : Port) → Hold (each (port_checks front) at ports) → IsAmong ports p → port_shape ports p.name ≡ Some p.shape
port_own front at ports p h listed =
    let r = member (port_checks front) at ports p h listed in
    ap (λ ps. port_shape ps p.name) r.split ∙ own_shape front r.before r.rest p (both-true (is_new_port (front ++ r.before) p) true r.holds).0

-- a port of a task whose checks hold has its own shape
pub input_own : (before : List Task) (place : List PlaceStep) (t : Task) (p : Port) → Hold (kind_checks before place t) → IsAmong (inputs_of t) p → port_shape (inputs_of t) p.name ≡ Some p.shape
input_own before place (tasks.Elementary e) p h listed =
    let parts = hold-parts (each (port_checks []) (to_key place KIn) e.ins) (each (output_checks e) (to_key place KOut) e.outs) h in
    port_own [] (to_key place KIn) e.ins p parts.0 listed
input_own before place (tasks.Compound c) p h listed = port_own [] (to_key place KIn) c.ins p (of_compound before place c h).ins listed
input_own before place (tasks.Repeated t) p h listed = port_own [] (to_key place KIn) t.ins p (of_repeated before place t h).ins listed

pub output_own : (before : List Task) (place : List PlaceStep) (t : Task) (p : Port) → Hold (kind_checks before place t) → IsAmong (outputs_of t) p → port_shape (outputs_of t) p.name ≡ Some p.shape
output_own before place (tasks.Elementary e) p h listed =
    let parts = hold-parts (each (port_checks []) (to_key place KIn) e.ins) (each (output_checks e) (to_key place KOut) e.outs) h in
    let o = among_map (λ (x : OutPort). x.port) e.outs p listed in
    let r = member (output_checks e) (to_key place KOut) e.outs o.0 parts.1 o.1 in
    let port : OutPort → Port = λ x. x.port in
    let split : map port e.outs ≡ map port r.before ++ o.0.port ∷ map port r.rest = ap (map port) r.split ∙ map-append port r.before (o.0 ∷ r.rest) in
    let own : port_shape (map port e.outs) o.0.port.name ≡ Some o.0.port.shape =
    ap (λ ps. port_shape ps o.0.port.name) split
    ∙ own_shape e.ins (map port r.before) (map port r.rest) o.0.port (both-true (is_new_port (e.ins ++ map port r.before) o.0.port) _ r.holds).0 in
    let P : Port → Type 0 = λ q. port_shape (map port e.outs) q.name ≡ Some q.shape in
    subst P (sym o.2) own
output_own before place (tasks.Compound c) p h listed = port_own c.ins (to_key place KOut) c.outs p (of_compound before place c h).outs listed
output_own before place (tasks.Repeated t) p h listed = port_own t.ins (to_key place KOut) t.outs p (of_repeated before place t h).outs listed
