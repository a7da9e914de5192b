-- The rules of the repetition over one block hold.
use Rattle.std.proofs.Common.{◌≡◌, ℕ, zero, suc, ◌+◌, ◌≤◌, Bool, true, false, cond, not, ◌&&◌, ◌||◌, ◌==◌, List, [], ◌∷◌, ◌++◌, map, filter, find, Option, Some, None, is_some, is_none, option_map, sym, ◌∙◌, ap, refl, arith, subst, ◌⊎◌, inl, inr}
use Rattle.std.specs.List.{IsAmong, list_all, list_any, count_by}
use Rattle.std.proofs.lemmas.Bool.{eqb-true}
use Rattle.std.proofs.lemmas.List.Sums.{sum_by-cons, sum_by-append}
use Rattle.aol_shape.specs.Lists.{same}
use Rattle.aol_tiler.specs.Tiler.{inner_of}
use Rattle.aol_expr_tree.specs.declared.port.Port.{Port}
use Rattle.aol_link.specs.declared.link.Interlink.{Interlink}
use Rattle.aol_model_types.specs.declared.place.Key.TheVariants.{KIn, KOut, KTilers, KName}
use Rattle.aol_model_types.specs.declared.place.PlaceStep.{PlaceStep}
use Rattle.aol_model_types.specs.declared.task.Repeated.{Repeated}
use Rattle.aol_model_types.specs.declared.task.Task.{Task}
use Rattle.aol_model_types.specs.declared.task.TilerOn.{TilerOn}
use Rattle.aol_model_types.specs.Places.{to_key, to_index}
use Rattle.aol_model_types.specs.Rules.{Check, each, each_from, task_named, port_shape, port_checks, tiler_checks, is_on_ports, tiles_output_once, tiler_fits, fits_in, inner_is_fed, all_inner_fed, is_tiled, is_new_port}
use Rattle.aol_model_types.proofs.PortNames.{new_behind}
use Rattle.aol_flat.proofs.Checked.{HoldsOfRepeated, named_port, tiled_checks}
use Rattle.aol_flat.proofs.Different.{Hold, hold-parts}
use Rattle.aol_flat.proofs.Inside.{among_right}
use Rattle.aol_flat.proofs.Names.{both-true, same-self, same-equal}
use Rattle.aol_flat.proofs.Once.{all_at, counted}
use Rattle.aol_flat.proofs.Shapes.{shape_left, shape_right}
use Rattle.aol_flat.proofs.TilerRules.{JoinsPorts, sides_of, tiled}
use Rattle.aol_flat.proofs.Truth.{both, not_none}
use Rattle.aol_change.specs.Blocks.{inputs_in, outputs_in, shape_in, port_over, tiler_over, ports_over, tilers_on, filled_block}
use Rattle.aol_change.proofs.ChangedChecks.{each-split}
use Rattle.aol_change.proofs.Checks.{each-all, each-mapped}
use Rattle.aol_change.proofs.KindChecks.{hold-one}
use Rattle.aol_change.proofs.TilerForms.{inner_fits}
use Rattle.aol_tiling.proofs.Old.{fits_ports}

-- ---- lists

-- some member passes
pub any_there : {X : Type 0} (test : X → Bool) (xs : List X) → list_any test xs ≡ true → (x : X) × IsAmong xs x × (test x ≡ true)
any_there test [] h = cc
any_there {X = X} test (x ∷ xs) h = go (test x) refl h (any_there test xs)
  where
    go : (b : Bool) → test x ≡ b → (b || list_any test xs) ≡ true → (list_any test xs ≡ true → (y : X) × IsAmong xs y × (test y ≡ true)) → (y : X) × IsAmong (x ∷ xs) y × (test y ≡ true)
    go true e k rest = (x, (0, (omega arith, refl)), e)
    go false e k rest = let r = rest k in (r.0, (suc r.1.0, (omega (arith, r.1.1.0), r.1.1.1)), r.2)

pub there_any : {X : Type 0} (test : X → Bool) (xs : List X) (x : X) → IsAmong xs x → test x ≡ true → list_any test xs ≡ true
there_any test [] x a e = absurd (omega (arith, a.1.0))
there_any test (y ∷ xs) x (zero, a) e = ap (λ b. b || list_any test xs) (ap test (sym a.1) ∙ e)
there_any test (y ∷ xs) x (suc i, a) e = or_right (test y) (list_any test xs) (there_any test xs x (i, (omega (arith, a.0), a.1)) e)
  where
    or_right : (b c : Bool) → c ≡ true → (b || c) ≡ true
    or_right true c h = refl
    or_right false c h = h

pub any_map : {X Y : Type 0} (f : X → Y) (test : Y → Bool) (xs : List X) → list_any test (map f xs) ≡ list_any (λ x. test (f x)) xs
any_map f test [] = refl
any_map f test (x ∷ xs) = ap (λ b. test (f x) || b) (any_map f test xs)

pub count_map : {X Y : Type 0} (f : X → Y) (test : Y → Bool) (xs : List X) → count_by test (map f xs) ≡ count_by (λ x. test (f x)) xs
count_map f test [] = refl
count_map f test (x ∷ xs) =
    sum_by-cons (λ y. cond (test y) 1 0) (f x) (map f xs)
    ∙ (ap (λ n. cond (test (f x)) 1 0 + n) (count_map f test xs) ∙ sym (sum_by-cons (λ y. cond (test (f y)) 1 0) x xs))

-- a member of a list that is kept and changed, by the list
pub record KeptAt {X Y : Type 0} (keep : X → Bool) (f : X → Y) (xs : List X) (front : List Y) (y : Y) : Type 0 where
  pub before : List X
  pub member : X
  pub rest : List X
  pub split : xs ≡ before ++ member ∷ rest
  pub front_is : front ≡ map f (filter keep before)
  pub is : y ≡ f member
  pub kept : keep member ≡ true

pub kept_at : {X Y : Type 0} (keep : X → Bool) (f : X → Y) (xs : List X) (front rest : List Y) (y : Y) → map f (filter keep xs) ≡ front ++ y ∷ rest → KeptAt keep f xs front y
kept_at keep f [] [] rest y h = cc
kept_at keep f [] (z ∷ front) rest y h = cc
kept_at {X = X} {Y = Y} keep f (x ∷ xs) front rest y h = go (keep x) refl front h (λ front' k. kept_at keep f xs front' rest y k)
  where
    later : (b : Bool) → keep x ≡ b → (front' : List Y) → (r : KeptAt keep f xs front' y) → (front'' : List Y) → front'' ≡ map f (filter keep (x ∷ r.before)) → KeptAt keep f (x ∷ xs) front'' y
    later b e front' r front'' k =
        record { before = x ∷ r.before; member = r.member; rest = r.rest; split = ap (λ ys. x ∷ ys) r.split; front_is = k; is = r.is; kept = r.kept }

    go : (b : Bool) → keep x ≡ b → (front : List Y) → map f (cond b (x ∷ filter keep xs) (filter keep xs)) ≡ front ++ y ∷ rest
        → ((front' : List Y) → map f (filter keep xs) ≡ front' ++ y ∷ rest → KeptAt keep f xs front' y) → KeptAt keep f (x ∷ xs) front y
    go false e front k rec =
        let r = rec front k in
        later false e front r front (r.front_is ∙ ap (λ b. map f (cond b (x ∷ filter keep r.before) (filter keep r.before))) (sym e))
    go true e [] k rec = let is : f x ≡ y = cc in record { before = []; member = x; rest = xs; split = refl; front_is = refl; is = sym is; kept = e }
    go true e (z ∷ front) k rec =
        let first : f x ≡ z = cc in
        let tail : map f (filter keep xs) ≡ front ++ y ∷ rest = cc in
        let r = rec front tail in
        later true e front r (z ∷ front)
        (ap (λ w. w ∷ front) (sym first) ∙ (ap (λ ys. f x ∷ ys) r.front_is ∙ ap (λ b. map f (cond b (x ∷ filter keep r.before) (filter keep r.before))) (sym e)))

-- ---- ports over a block

-- the shape of a port over a block
pub over_shape : (inner : Option Task) (block : List ℕ) (ports : List Port) (tilers : List TilerOn) (name : List ℕ)
    → port_shape (ports_over inner block (tilers_on ports tilers)) name
    ≡ cond (is_some (port_shape ports name) && list_any (λ (o : TilerOn). same o.inner name) tilers) (Some (block ++ shape_in inner name)) None
over_shape inner block ports [] name = empty (is_some (port_shape ports name))
  where
    empty : (a : Bool) → None ≡ cond (a && false) (Some (block ++ shape_in inner name)) None
    empty true = refl
    empty false = refl
over_shape inner block ports (o ∷ os) name = go (same o.inner name) refl (over_shape inner block ports os name)
  where
    keep : List ℕ → Bool
    keep n = is_some (port_shape ports n)

    skip : (a b : Bool) → port_shape (ports_over inner block (tilers_on ports os)) name ≡ cond (keep name && list_any (λ (e : TilerOn). same e.inner name) os) (Some (block ++ shape_in inner name)) None
        → same o.inner name ≡ b
        → port_shape (ports_over inner block (cond a (o ∷ tilers_on ports os) (tilers_on ports os))) name ≡ cond (a && b) (Some (block ++ shape_in inner o.inner)) (port_shape (ports_over inner block (tilers_on ports os)) name)
    skip true true ih e = ap (λ c. option_map (λ (p : Port). p.shape) (cond c (Some (port_over inner block o.inner)) (find (λ (p : Port). same p.name name) (ports_over inner block (tilers_on ports os))))) e
    skip true false ih e = ap (λ c. option_map (λ (p : Port). p.shape) (cond c (Some (port_over inner block o.inner)) (find (λ (p : Port). same p.name name) (ports_over inner block (tilers_on ports os))))) e
    skip false true ih e = refl
    skip false false ih e = refl

    join : (a r : Bool) (s : Option (List ℕ)) → cond a s (cond (a && r) s None) ≡ cond (a && (true || r)) s None
    join true r s = refl
    join false r s = refl

    none_of : (a r : Bool) (s : Option (List ℕ)) → cond (a && false) s (cond (a && r) s None) ≡ cond (a && (false || r)) s None
    none_of true r s = refl
    none_of false r s = refl

    go : (b : Bool) → same o.inner name ≡ b → port_shape (ports_over inner block (tilers_on ports os)) name ≡ cond (keep name && list_any (λ (e : TilerOn). same e.inner name) os) (Some (block ++ shape_in inner name)) None
        → port_shape (ports_over inner block (tilers_on ports (o ∷ os))) name ≡ cond (keep name && (same o.inner name || list_any (λ (e : TilerOn). same e.inner name) os)) (Some (block ++ shape_in inner name)) None
    go true e ih =
        let equal : o.inner ≡ name = same-equal o.inner name e in
        skip (keep o.inner) true ih e
        ∙ (ap (λ n. cond (keep n && true) (Some (block ++ shape_in inner n)) (port_shape (ports_over inner block (tilers_on ports os)) name)) equal
        ∙ (and_true (keep name) (Some (block ++ shape_in inner name)) (port_shape (ports_over inner block (tilers_on ports os)) name)
        ∙ (ap (λ r. cond (keep name) (Some (block ++ shape_in inner name)) r) ih
        ∙ (join (keep name) (list_any (λ (e : TilerOn). same e.inner name) os) (Some (block ++ shape_in inner name))
        ∙ ap (λ c. cond (keep name && (c || list_any (λ (e : TilerOn). same e.inner name) os)) (Some (block ++ shape_in inner name)) None) (sym e)))))
      where
        and_true : (a : Bool) (s r : Option (List ℕ)) → cond (a && true) s r ≡ cond a s r
        and_true true s r = refl
        and_true false s r = refl
    go false e ih =
        skip (keep o.inner) false ih e
        ∙ (and_false (keep o.inner) (Some (block ++ shape_in inner o.inner)) (port_shape (ports_over inner block (tilers_on ports os)) name)
        ∙ (ih ∙ ap (λ c. cond (keep name && (c || list_any (λ (e : TilerOn). same e.inner name) os)) (Some (block ++ shape_in inner name)) None) (sym e)))
      where
        and_false : (a : Bool) (s r : Option (List ℕ)) → cond (a && false) s r ≡ r
        and_false true s r = refl
        and_false false s r = refl

-- the checks of a member that stands after some others
pub check_at : {A : Type 0} (f : List PlaceStep → List A → A → List Check) (at : List PlaceStep) (xs before rest : List A) (x : A) → Hold (each f at xs) → xs ≡ before ++ x ∷ rest
    → (p : List PlaceStep) × Hold (f p before x)
check_at {A = A} f at xs before rest x h split =
    let P : List A → Type 0 = λ ys. Hold (each f at ys) in
    let later = (each-split f at 0 [] before (x ∷ rest) (subst P split h)).1 in
    let here = hold-parts (f (to_index at later.number) before x) (each_from f at (later.number + 1) (before ++ x ∷ []) rest) later.holds in
    (to_index at later.number, here.0)

not_none_of : {X : Type 0} (o : Option X) → o ≡ None → is_none o ≡ true
not_none_of o h = ap is_none h

-- ---- the repetition over one block

module _ (before : List Task) (place : List PlaceStep) (t : Repeated) (holds : HoldsOfRepeated before place t) (plain : t.links ≡ []) (block name : List ℕ)
    (apart : (port : List ℕ) → is_some (port_shape (outputs_in (task_named before t.task)) port) ≡ true → is_some (port_shape (inputs_in (task_named before t.task)) port) ≡ false) where
  abbrev pub inner : Option Task
  inner = task_named before t.task

  abbrev pub over : List Port → List Port
  over ports = ports_over inner block (tilers_on ports t.tilers)

  abbrev pub made : Repeated
  made = filled_block inner t.tilers block (record { name = name; ins = []; outs = []; space = block; task = t.task; tilers = []; links = [] })

  abbrev change : TilerOn → TilerOn
  change o = tiler_over inner block o.inner

  abbrev on : List ℕ → TilerOn → Bool
  on port o = same o.inner port

  -- the number of tilers on an inner input is one
  pub fed_by_one : (port : List ℕ) → is_some (port_shape (inputs_in inner) port) ≡ true → count_by (on port) t.tilers ≡ 1
  fed_by_one port known =
      let u = named_port (inputs_in inner) port known in
      let fed : inner_is_fed t u.0 ≡ true = all_at (inner_is_fed t) (inputs_in inner) u.0 holds.fed u.1 in
      let none : count_by (λ (l : Interlink). same l.to port) t.links ≡ 0 = ap (count_by (λ (l : Interlink). same l.to port)) plain in
      let sum : count_by (on port) t.tilers + count_by (λ (l : Interlink). same l.to port) t.links ≡ 1 =
      eqb-true _ 1 (sym (ap (λ n. count_by (on n) t.tilers + count_by (λ (l : Interlink). same l.to n) t.links == 1) u.2) ∙ fed) in
      omega (arith, sum, none)

  sides : (o : TilerOn) → IsAmong t.tilers o → JoinsPorts t.ins (inputs_in inner) o ⊎ JoinsPorts t.outs (outputs_in inner) o
  sides o a = sides_of before t o (tiled before place t o holds a)

  among_split : (b r : List TilerOn) (o : TilerOn) → t.tilers ≡ b ++ o ∷ r → IsAmong t.tilers o
  among_split b r o split =
      let P : List TilerOn → Type 0 = λ os. IsAmong os o in
      subst P (sym split) (among_right b (o ∷ r) o (0, (omega arith, refl)))

  -- no earlier tiler is on the same inner port
  pub free : (b r : List TilerOn) (o : TilerOn) → t.tilers ≡ b ++ o ∷ r → list_any (on o.inner) b ≡ false
  free b r o split = go (sides o (among_split b r o split))
    where
      go : JoinsPorts t.ins (inputs_in inner) o ⊎ JoinsPorts t.outs (outputs_in inner) o → list_any (on o.inner) b ≡ false
      go (inr side) =
          let c = check_at (tiler_checks before t) (to_key place KTilers) t.tilers b r o holds.tilers split in
          let rest = both-true (is_on_ports before t o) _ c.1 in
          let once : tiles_output_once before t b o ≡ true = (both-true (tiles_output_once before t b o) _ rest.1).0 in
          not_none (port_shape (outputs_in inner) o.inner) (list_any (on o.inner) b) side.inside once
      go (inl side) = by_count (list_any (on o.inner) b) refl
        where
          by_count : (x : Bool) → list_any (on o.inner) b ≡ x → list_any (on o.inner) b ≡ false
          by_count false e = e
          by_count true e =
              let y = any_there (on o.inner) b e in
              let front : 1 ≤ count_by (on o.inner) b = counted (on o.inner) b y.0 y.1 y.2 in
              let back : 1 ≤ count_by (on o.inner) (o ∷ r) = counted (on o.inner) (o ∷ r) o (0, (omega arith, refl)) (same-self o.inner) in
              let total : count_by (on o.inner) (b ++ o ∷ r) ≡ count_by (on o.inner) b + count_by (on o.inner) (o ∷ r) = sum_by-append (λ (x : TilerOn). cond (on o.inner x) 1 0) b (o ∷ r) in
              let one : count_by (on o.inner) (b ++ o ∷ r) ≡ 1 = sym (ap (count_by (on o.inner)) split) ∙ fed_by_one o.inner side.inside in
              absurd (omega (arith, front, back, total, one))

  -- ---- its ports

  new_over : (ports : List Port) (b : List TilerOn) (port : List ℕ) → list_any (on port) b ≡ false → port_shape (ports_over inner block (tilers_on ports b)) port ≡ None
  new_over ports b port none = over_shape inner block ports b port ∙ by_test (is_some (port_shape ports port)) none
    where
      by_test : (x : Bool) → list_any (on port) b ≡ false → cond (x && list_any (on port) b) (Some (block ++ shape_in inner port)) None ≡ None
      by_test true e = ap (λ y. cond y (Some (block ++ shape_in inner port)) None) e
      by_test false e = refl

  -- an inner port over the block
  pub over_there : (ports : List Port) (o : TilerOn) → IsAmong t.tilers o → is_some (port_shape ports o.inner) ≡ true → port_shape (over ports) o.inner ≡ Some (block ++ shape_in inner o.inner)
  over_there ports o a known =
      over_shape inner block ports t.tilers o.inner
      ∙ ap (λ b. cond b (Some (block ++ shape_in inner o.inner)) None)
      (both (is_some (port_shape ports o.inner)) (list_any (on o.inner) t.tilers) known (there_any (on o.inner) t.tilers o a (same-self o.inner)))

  -- a port that isn't there inside isn't over the block
  pub over_none : (ports : List Port) (port : List ℕ) → is_some (port_shape ports port) ≡ false → port_shape (over ports) port ≡ None
  over_none ports port none =
      over_shape inner block ports t.tilers port ∙ ap (λ b. cond (b && list_any (on port) t.tilers) (Some (block ++ shape_in inner port)) None) none

  -- the ports of one side are new after those before them
  ports_new : (front ports : List Port) (q : List PlaceStep) → ((o : TilerOn) → IsAmong t.tilers o → is_some (port_shape ports o.inner) ≡ true → port_shape front o.inner ≡ None)
      → Hold (each (port_checks front) q (over ports))
  ports_new front ports q clear = each-all (port_checks front) q 0 [] (over ports) step
    where
      step : (p : List PlaceStep) (b r : List Port) (x : Port) → over ports ≡ b ++ x ∷ r → Hold (port_checks front p b x)
      step p b r x split =
          let k = kept_at (λ (o : TilerOn). is_some (port_shape ports o.inner)) (λ (o : TilerOn). port_over inner block o.inner) t.tilers b r x split in
          let none : list_any (on k.member.inner) k.before ≡ false = free k.before k.rest k.member k.split in
          let earlier : port_shape b k.member.inner ≡ None = ap (λ ps. port_shape ps k.member.inner) k.front_is ∙ new_over ports k.before k.member.inner none in
          let ahead : port_shape front k.member.inner ≡ None = clear k.member (among_split k.before k.rest k.member k.split) k.kept in
          let new : is_new_port (front ++ b) (port_over inner block k.member.inner) ≡ true =
          new_behind front b k.member.inner ∙ (ap (λ s. not (is_some s) && not (is_some (port_shape b k.member.inner))) ahead ∙ ap (λ s. not (is_some s)) earlier) in
          let P : Port → Type 0 = λ y. Hold (port_checks front p b y) in
          subst P (sym k.is) (hold-one (to_key p KName) 2 (is_new_port (front ++ b) (port_over inner block k.member.inner)) new)

  pub shape_of_both : (o : TilerOn) → IsAmong t.tilers o → port_shape (over (inputs_in inner) ++ over (outputs_in inner)) o.inner ≡ Some (block ++ shape_in inner o.inner)
  shape_of_both o a = go (sides o a)
    where
      go : JoinsPorts t.ins (inputs_in inner) o ⊎ JoinsPorts t.outs (outputs_in inner) o → port_shape (over (inputs_in inner) ++ over (outputs_in inner)) o.inner ≡ Some (block ++ shape_in inner o.inner)
      go (inl side) = shape_left (over (inputs_in inner)) (over (outputs_in inner)) o.inner (block ++ shape_in inner o.inner) (over_there (inputs_in inner) o a side.inside)
      go (inr side) =
          shape_right (over (inputs_in inner)) (over (outputs_in inner)) o.inner (block ++ shape_in inner o.inner)
          (ap is_some (over_none (inputs_in inner) o.inner (apart o.inner side.inside))) (over_there (outputs_in inner) o a side.inside)

  -- the tilers of the repetition over the block
  pub block_tilers : (q : List PlaceStep) → Hold (each (tiler_checks before made) q (map change t.tilers))
  block_tilers q = each-mapped change (tiler_checks before t) (tiler_checks before made) (to_key place KTilers) q 0 0 [] t.tilers step holds.tilers
    where
      step : (p p' : List PlaceStep) (b : List TilerOn) (o : TilerOn) → IsAmong t.tilers o → Hold (tiler_checks before t p b o) → Hold (tiler_checks before made p' (map change b) (change o))
      step p p' b o a h =
          let old = both-true (is_on_ports before t o) _ h in
          let once : tiles_output_once before t b o ≡ true = (both-true (tiles_output_once before t b o) _ old.1).0 in
          let f = fits_ports before place t o holds a in
          let now_once : tiles_output_once before made (map change b) (change o) ≡ true = ap (λ x. is_none (port_shape (outputs_in inner) o.inner) || not x) (any_map change (on o.inner) b) ∙ once in
          let now_fits : tiler_fits before made (change o) ≡ true =
          ap (λ s. fits_in (inner_of block (shape_in inner o.inner)) s block (port_shape (inputs_in inner ++ outputs_in inner) o.inner)) (shape_of_both o a)
          ∙ (ap (λ s. fits_in (inner_of block (shape_in inner o.inner)) (Some (block ++ shape_in inner o.inner)) block s) f.inside ∙ inner_fits block (shape_in inner o.inner)) in
          both (is_on_ports before made (change o)) _ (on_ports (sides o a)) (both (tiles_output_once before made (map change b) (change o)) _ now_once (both (tiler_fits before made (change o)) true now_fits refl))
        where
          on_ports : JoinsPorts t.ins (inputs_in inner) o ⊎ JoinsPorts t.outs (outputs_in inner) o → is_on_ports before made (change o) ≡ true
          on_ports (inl side) =
              ap (λ x. x || (is_some (port_shape (over (outputs_in inner)) o.inner) && is_some (port_shape (outputs_in inner) o.inner)))
              (both (is_some (port_shape (over (inputs_in inner)) o.inner)) (is_some (port_shape (inputs_in inner) o.inner)) (ap is_some (over_there (inputs_in inner) o a side.inside)) side.inside)
          on_ports (inr side) =
              or_right (is_some (port_shape (over (inputs_in inner)) o.inner) && is_some (port_shape (inputs_in inner) o.inner)) _
              (both (is_some (port_shape (over (outputs_in inner)) o.inner)) (is_some (port_shape (outputs_in inner) o.inner)) (ap is_some (over_there (outputs_in inner) o a side.inside)) side.inside)
            where
              or_right : (x y : Bool) → y ≡ true → (x || y) ≡ true
              or_right true y e = refl
              or_right false y e = e

  -- each inner input is fed
  block_fed : all_inner_fed before made ≡ true
  block_fed = all (inputs_in inner) holds.fed
    where
      all : (ports : List Port) → list_all (inner_is_fed t) ports ≡ true → list_all (inner_is_fed made) ports ≡ true
      all [] h = refl
      all (u ∷ us) h =
          let parts = both-true (inner_is_fed t u) (list_all (inner_is_fed t) us) h in
          let no_links : count_by (λ (l : Interlink). same l.to u.name) [] ≡ count_by (λ (l : Interlink). same l.to u.name) t.links = ap (count_by (λ (l : Interlink). same l.to u.name)) (sym plain) in
          both (inner_is_fed made u) (list_all (inner_is_fed made) us)
          (ap (λ n. n + count_by (λ (l : Interlink). same l.to u.name) [] == 1) (count_map change (on u.name) t.tilers)
          ∙ (ap (λ n. count_by (on u.name) t.tilers + n == 1) no_links ∙ parts.0)) (all us parts.1)

  -- a tiler is on each output
  block_tiled : (q : List PlaceStep) → Hold (each (tiled_checks made) q (over (outputs_in inner)))
  block_tiled q = each-all (tiled_checks made) q 0 [] (over (outputs_in inner)) step
    where
      step : (p : List PlaceStep) (b r : List Port) (x : Port) → over (outputs_in inner) ≡ b ++ x ∷ r → Hold (tiled_checks made p b x)
      step p b r x split =
          let k = kept_at (λ (o : TilerOn). is_some (port_shape (outputs_in inner) o.inner)) (λ (o : TilerOn). port_over inner block o.inner) t.tilers b r x split in
          let there : is_tiled made (port_over inner block k.member.inner) ≡ true =
          any_map change (λ (e : TilerOn). same e.outer k.member.inner) t.tilers
          ∙ there_any (on k.member.inner) t.tilers k.member (among_split k.before k.rest k.member k.split) (same-self k.member.inner) in
          let P : Port → Type 0 = λ y. Hold (tiled_checks made p b y) in
          subst P (sym k.is) (hold-one p 22 (is_tiled made (port_over inner block k.member.inner)) there)

  -- all its rules
  pub block_holds : (q : List PlaceStep) → HoldsOfRepeated before q made
  block_holds q = record {
    ins = ports_new [] (inputs_in inner) (to_key q KIn) (λ o a known. refl);
    outs = ports_new (over (inputs_in inner)) (outputs_in inner) (to_key q KOut) (λ o a known. over_none (inputs_in inner) o.inner (apart o.inner known));
    inner = holds.inner;
    tilers = block_tilers (to_key q KTilers);
    links = refl;
    fed = block_fed;
    tiled = block_tiled (to_key q KOut);
  }
