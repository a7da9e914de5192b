-- The rules of a repetition hold whose tilers are known by its inner ports.
use Rattle.std.proofs.Common.{◌≡◌, ℕ, zero, suc, ◌+◌, Bool, true, false, cond, not, ◌&&◌, ◌||◌, List, [], ◌∷◌, ◌++◌, map, Option, Some, None, is_some, is_none, unwrap_or, option_map, sym, ◌∙◌, ap, refl, arith, subst, ◌⊎◌, inl, inr}
use Rattle.std.specs.List.{IsAmong, list_any, list_all, count_by}
use Rattle.std.proofs.lemmas.Bool.{eq-eqb}
use Rattle.std.proofs.lemmas.List.{append-nil, map-append}
use Rattle.std.proofs.lemmas.List.Sums.{sum_by-cons}
use Rattle.aol_shape.specs.Lists.{same}
use Rattle.aol_tiler.specs.Matrices.{TilerOf}
use Rattle.aol_tiler.specs.Tiler.{fits}
use Rattle.aol_expr_tree.specs.declared.port.Port.{Port}
use Rattle.aol_link.specs.declared.link.Interlink.{Interlink}
use Rattle.aol_model_types.specs.declared.place.Key.TheVariants.{KIn, KOut, KTilers, KLinks}
use Rattle.aol_model_types.specs.declared.place.PlaceStep.{PlaceStep}
use Rattle.aol_model_types.specs.declared.task.Repeated.{Repeated}
use Rattle.aol_model_types.specs.declared.task.Task.{Task}
use Rattle.aol_model_types.specs.declared.task.TilerOn.{TilerOn}
use Rattle.aol_model_types.specs.Places.{to_key}
use Rattle.aol_model_types.specs.Rules.{each, task_named, inputs_of, outputs_of, inputs_named, outputs_named, port_shape, tiler_checks, interlink_checks, is_on_ports, tiles_output_once, tiler_fits, fits_in, inner_is_fed, all_inner_fed, is_tiled}
use Rattle.aol_flat.proofs.Among.{among_append, map_among}
use Rattle.aol_flat.proofs.Checked.{HoldsOfRepeated, tiled_checks}
use Rattle.aol_flat.proofs.Different.{Hold}
use Rattle.aol_flat.proofs.Inside.{among_right}
use Rattle.aol_flat.proofs.Names.{same-self}
use Rattle.aol_flat.proofs.Shapes.{shape_left, shape_right}
use Rattle.aol_flat.proofs.Truth.{both}
use Rattle.aol_change.specs.Change.{is_taken}
use Rattle.aol_change.proofs.Checks.{each-all}
use Rattle.aol_change.proofs.KindChecks.{hold-one}
use Rattle.aol_fusion_laws.proofs.Fresh.{AreFresh, names_of, fresh_before, fresh_parts, fresh_ports, once_there, still_taken, shape_taken, taken_apart}

-- a tiler by its inner port
pub record Wire : Type 0 where
  pub outer : List ℕ
  pub inner : Port
  pub tiler : TilerOf

abbrev pub tiler_of : Wire → TilerOn
tiler_of w = record { outer = w.outer; inner = w.inner.name; tiler = w.tiler }

abbrev pub inner_of_wire : Wire → Port
inner_of_wire w = w.inner

-- it fits the port outside, one of these, and the inner port
pub record FitsOutside (ports : List Port) (space : List ℕ) (w : Wire) : Type 0 where
  pub shape : List ℕ
  pub outside : port_shape ports w.outer ≡ Some shape
  pub fit : fits w.tiler shape space w.inner.shape ≡ true

-- a repetition with these tilers, on all inputs and on some outputs of an inner task
pub record IsWiredBy (t : Repeated) (u : Task) (ins outs : List Wire) : Type 0 where
  pub tilers : t.tilers ≡ map tiler_of ins ++ map tiler_of outs
  pub plain : t.links ≡ []
  pub own : AreFresh [] (names_of t.ins ++ names_of t.outs)
  pub inner : AreFresh [] (names_of (inputs_of u) ++ names_of (outputs_of u))
  pub fresh : AreFresh [] (map (λ (w : Wire). w.inner.name) (ins ++ outs))
  pub all_ins : (p : Port) → IsAmong (inputs_of u) p → is_taken (map (λ (w : Wire). w.inner.name) ins) p.name ≡ true
  pub in_inside : (w : Wire) → IsAmong ins w → port_shape (inputs_of u) w.inner.name ≡ Some w.inner.shape
  pub out_inside : (w : Wire) → IsAmong outs w → port_shape (outputs_of u) w.inner.name ≡ Some w.inner.shape
  pub in_outside : (w : Wire) → IsAmong ins w → FitsOutside t.ins t.space w
  pub out_outside : (w : Wire) → IsAmong outs w → FitsOutside t.outs t.space w
  pub tiled : (y : Port) → IsAmong t.outs y → (w : Wire) × IsAmong outs w × (w.outer ≡ y.name)

-- ---- lists

pub any_map : {X Y : Type 0} (f : X → Y) (test : Y → Bool) (xs : List X) → list_any test (map f xs) ≡ list_any (λ x. test (f x)) xs
any_map f test [] = refl
any_map f test (x ∷ xs) = ap (λ b. test (f x) || b) (any_map f test xs)

pub there_any : {X : Type 0} (test : X → Bool) (xs : List X) (x : X) → IsAmong xs x → test x ≡ true → list_any test xs ≡ true
there_any test [] x a e = absurd (omega (arith, a.1.0))
there_any test (y ∷ xs) x (zero, a) e = ap (λ b. b || list_any test xs) (ap test (sym a.1) ∙ e)
there_any test (y ∷ xs) x (suc i, a) e = or_right (test y) (list_any test xs) (there_any test xs x (i, (omega (arith, a.0), a.1)) e)
  where
    or_right : (b c : Bool) → c ≡ true → (b || c) ≡ true
    or_right true c h = refl
    or_right false c h = h

pub count_map : {X Y : Type 0} (f : X → Y) (test : Y → Bool) (xs : List X) → count_by test (map f xs) ≡ count_by (λ x. test (f x)) xs
count_map f test [] = refl
count_map f test (x ∷ xs) =
    sum_by-cons (λ y. cond (test y) 1 0) (f x) (map f xs)
    ∙ (ap (λ n. cond (test (f x)) 1 0 + n) (count_map f test xs) ∙ sym (sum_by-cons (λ y. cond (test (f y)) 1 0) x xs))

-- a changed list, by one member
pub record SplitAt {X Y : Type 0} (f : X → Y) (xs : List X) (front : List Y) (y : Y) : Type 0 where
  pub before : List X
  pub member : X
  pub rest : List X
  pub split : xs ≡ before ++ member ∷ rest
  pub front_is : front ≡ map f before
  pub is : y ≡ f member

pub split_at : {X Y : Type 0} (f : X → Y) (xs : List X) (front rest : List Y) (y : Y) → map f xs ≡ front ++ y ∷ rest → SplitAt f xs front y
split_at f [] [] rest y h = cc
split_at f [] (z ∷ front) rest y h = cc
split_at f (x ∷ xs) [] rest y h = let is : f x ≡ y = cc in record { before = []; member = x; rest = xs; split = refl; front_is = refl; is = sym is }
split_at f (x ∷ xs) (z ∷ front) rest y h =
    let first : f x ≡ z = cc in
    let tail : map f xs ≡ front ++ y ∷ rest = cc in
    let r = split_at f xs front rest y tail in
    record {
      before = x ∷ r.before;
      member = r.member;
      rest = r.rest;
      split = ap (λ ys. x ∷ ys) r.split;
      front_is = ap (λ w. w ∷ front) (sym first) ∙ ap (λ ys. f x ∷ ys) r.front_is;
      is = r.is;
    }

pub among_split : {X : Type 0} (xs before rest : List X) (x : X) → xs ≡ before ++ x ∷ rest → IsAmong xs x
among_split {X = X} xs before rest x split = let P : List X → Type 0 = λ ys. IsAmong ys x in subst P (sym split) (among_right before (x ∷ rest) x (0, (omega arith, refl)))

-- ---- names of two sides

some_taken : (ports : List Port) (n shape : List ℕ) → port_shape ports n ≡ Some shape → is_taken (names_of ports) n ≡ true
some_taken ports n shape h = not_true (is_taken (names_of ports) n) (sym (shape_taken ports n) ∙ ap is_none h)
  where
    not_true : (b : Bool) → not b ≡ false → b ≡ true
    not_true true k = refl
    not_true false k = cc

none_taken : (ports : List Port) (n : List ℕ) → is_taken (names_of ports) n ≡ false → is_some (port_shape ports n) ≡ false
none_taken ports n h = is_gone (port_shape ports n) (shape_taken ports n ∙ ap not h)
  where
    is_gone : (o : Option (List ℕ)) → is_none o ≡ true → is_some o ≡ false
    is_gone None k = refl
    is_gone (Some s) k = cc

-- an output has no input's name
pub sides_differ : (ins outs : List Port) (n shape : List ℕ) → AreFresh [] (names_of ins ++ names_of outs) → port_shape outs n ≡ Some shape → is_some (port_shape ins n) ≡ false
sides_differ ins outs n shape h k = none_taken ins n (taken_apart (names_of ins) (names_of outs) n (fresh_parts [] (names_of ins) (names_of outs) h).1 (some_taken outs n shape k))

-- ---- the rules

module _ (ts : List Task) (t : Repeated) (u : Task) (ins outs : List Wire) (found : task_named ts t.task ≡ Some u) (by : IsWiredBy t u ins outs) where
  abbrev inner_name : Wire → List ℕ
  inner_name w = w.inner.name

  abbrev ports_in : Option Task → List Port
  ports_in o = unwrap_or (option_map inputs_of o) []

  abbrev ports_out : Option Task → List Port
  ports_out o = unwrap_or (option_map outputs_of o) []

  ins_are : inputs_named ts t.task ≡ inputs_of u
  ins_are = ap ports_in found

  outs_are : outputs_named ts t.task ≡ outputs_of u
  outs_are = ap ports_out found

  tilers_are : t.tilers ≡ map tiler_of (ins ++ outs)
  tilers_are = by.tilers ∙ sym (map-append tiler_of ins outs)

  abbrev on_name : List ℕ → TilerOn → Bool
  on_name n e = same e.inner n

  -- a tiler on an input
  in_ports : (w : Wire) → IsAmong ins w → is_on_ports ts t (tiler_of w) ≡ true
  in_ports w a =
      let f = by.in_outside w a in
      ap (λ x. x || (is_some (port_shape t.outs w.outer) && is_some (port_shape (outputs_named ts t.task) w.inner.name)))
      (both (is_some (port_shape t.ins w.outer)) (is_some (port_shape (inputs_named ts t.task) w.inner.name)) (ap is_some f.outside)
      (ap (λ ps. is_some (port_shape ps w.inner.name)) ins_are ∙ ap is_some (by.in_inside w a)))

  in_fits : (w : Wire) → IsAmong ins w → tiler_fits ts t (tiler_of w) ≡ true
  in_fits w a =
      let f = by.in_outside w a in
      let outside : port_shape (t.ins ++ t.outs) w.outer ≡ Some f.shape = shape_left t.ins t.outs w.outer f.shape f.outside in
      let inside : port_shape (inputs_named ts t.task ++ outputs_named ts t.task) w.inner.name ≡ Some w.inner.shape =
      shape_left (inputs_named ts t.task) (outputs_named ts t.task) w.inner.name w.inner.shape (ap (λ ps. port_shape ps w.inner.name) ins_are ∙ by.in_inside w a) in
      ap (λ s. fits_in w.tiler s t.space (port_shape (inputs_named ts t.task ++ outputs_named ts t.task) w.inner.name)) outside ∙ (ap (fits_in w.tiler (Some f.shape) t.space) inside ∙ f.fit)

  -- a tiler on an output
  out_ports : (w : Wire) → IsAmong outs w → is_on_ports ts t (tiler_of w) ≡ true
  out_ports w a =
      let f = by.out_outside w a in
      or_right (is_some (port_shape t.ins w.outer) && is_some (port_shape (inputs_named ts t.task) w.inner.name)) _
      (both (is_some (port_shape t.outs w.outer)) (is_some (port_shape (outputs_named ts t.task) w.inner.name)) (ap is_some f.outside)
      (ap (λ ps. is_some (port_shape ps w.inner.name)) outs_are ∙ ap is_some (by.out_inside w a)))
    where
      or_right : (x y : Bool) → y ≡ true → (x || y) ≡ true
      or_right true y e = refl
      or_right false y e = e

  out_fits : (w : Wire) → IsAmong outs w → tiler_fits ts t (tiler_of w) ≡ true
  out_fits w a =
      let f = by.out_outside w a in
      let outside : port_shape (t.ins ++ t.outs) w.outer ≡ Some f.shape = shape_right t.ins t.outs w.outer f.shape (sides_differ t.ins t.outs w.outer f.shape by.own f.outside) f.outside in
      let there : port_shape (outputs_named ts t.task) w.inner.name ≡ Some w.inner.shape = ap (λ ps. port_shape ps w.inner.name) outs_are ∙ by.out_inside w a in
      let none : is_some (port_shape (inputs_named ts t.task) w.inner.name) ≡ false =
      ap (λ ps. is_some (port_shape ps w.inner.name)) ins_are ∙ sides_differ (inputs_of u) (outputs_of u) w.inner.name w.inner.shape by.inner (by.out_inside w a) in
      let inside : port_shape (inputs_named ts t.task ++ outputs_named ts t.task) w.inner.name ≡ Some w.inner.shape =
      shape_right (inputs_named ts t.task) (outputs_named ts t.task) w.inner.name w.inner.shape none there in
      ap (λ s. fits_in w.tiler s t.space (port_shape (inputs_named ts t.task ++ outputs_named ts t.task) w.inner.name)) outside ∙ (ap (fits_in w.tiler (Some f.shape) t.space) inside ∙ f.fit)

  ports_and_fit : (w : Wire) → IsAmong (ins ++ outs) w → (is_on_ports ts t (tiler_of w) ≡ true) × (tiler_fits ts t (tiler_of w) ≡ true)
  ports_and_fit w a = go (among_append ins outs w a)
    where
      go : IsAmong ins w ⊎ IsAmong outs w → (is_on_ports ts t (tiler_of w) ≡ true) × (tiler_fits ts t (tiler_of w) ≡ true)
      go (inl b) = (in_ports w b, in_fits w b)
      go (inr b) = (out_ports w b, out_fits w b)

  -- no earlier tiler is on the same inner port
  once : (before rest : List Wire) (w : Wire) → ins ++ outs ≡ before ++ w ∷ rest → list_any (on_name w.inner.name) (map tiler_of before) ≡ false
  once before rest w split =
      let P : List Wire → Type 0 = λ ws. AreFresh [] (map inner_name ws) in
      let Q : List (List ℕ) → Type 0 = λ ns. AreFresh [] ns in
      let names : AreFresh [] (map inner_name before ++ w.inner.name ∷ map inner_name rest) = subst Q (map-append inner_name before (w ∷ rest)) (subst P split by.fresh) in
      any_map tiler_of (on_name w.inner.name) before
      ∙ (sym (any_map inner_name (λ n. same n w.inner.name) before) ∙ fresh_before [] (map inner_name before) (map inner_name rest) w.inner.name names)

  tilers_hold : (q : List PlaceStep) → Hold (each (tiler_checks ts t) q t.tilers)
  tilers_hold q = each-all (tiler_checks ts t) q 0 [] t.tilers step
    where
      step : (p : List PlaceStep) (b r : List TilerOn) (x : TilerOn) → t.tilers ≡ b ++ x ∷ r → Hold (tiler_checks ts t p b x)
      step p b r x split =
          let s = split_at tiler_of (ins ++ outs) b r x (sym tilers_are ∙ split) in
          let a : IsAmong (ins ++ outs) s.member = among_split (ins ++ outs) s.before s.rest s.member s.split in
          let rules = ports_and_fit s.member a in
          let none = once s.before s.rest s.member s.split in
          let unique : tiles_output_once ts t (map tiler_of s.before) (tiler_of s.member) ≡ true =
          ap (λ z. is_none (port_shape (outputs_named ts t.task) s.member.inner.name) || not z) none ∙ or_true (is_none (port_shape (outputs_named ts t.task) s.member.inner.name)) in
          let P : List TilerOn → Type 0 = λ os. Hold (tiler_checks ts t p os x) in
          let Q : TilerOn → Type 0 = λ y. Hold (tiler_checks ts t p (map tiler_of s.before) y) in
          subst P (sym s.front_is)
          (subst Q (sym s.is)
          (both (is_on_ports ts t (tiler_of s.member)) _ rules.0
          (both (tiles_output_once ts t (map tiler_of s.before) (tiler_of s.member)) _ unique (both (tiler_fits ts t (tiler_of s.member)) true rules.1 refl))))
        where
          or_true : (z : Bool) → (z || true) ≡ true
          or_true true = refl
          or_true false = refl

  -- each inner input is fed once
  fed_one : (p : Port) → IsAmong (inputs_of u) p → inner_is_fed t p ≡ true
  fed_one p a =
      let there : is_taken (map inner_name (ins ++ outs)) p.name ≡ true =
      ap (λ ns. is_taken ns p.name) (map-append inner_name ins outs) ∙ still_taken p.name (map inner_name ins) (map inner_name outs) (by.all_ins p a) in
      let one : count_by (λ n. same n p.name) (map inner_name (ins ++ outs)) ≡ 1 = once_there p.name [] (map inner_name (ins ++ outs)) by.fresh there in
      let tilers : count_by (on_name p.name) t.tilers ≡ 1 =
      ap (count_by (on_name p.name)) tilers_are ∙ (count_map tiler_of (on_name p.name) (ins ++ outs) ∙ (sym (count_map inner_name (λ n. same n p.name) (ins ++ outs)) ∙ one)) in
      let links : count_by (λ (l : Interlink). same l.to p.name) t.links ≡ 0 = ap (count_by (λ (l : Interlink). same l.to p.name)) by.plain in
      eq-eqb (count_by (on_name p.name) t.tilers + count_by (λ (l : Interlink). same l.to p.name) t.links) 1 (omega (arith, tilers, links))

  all_fed : all_inner_fed ts t ≡ true
  all_fed = ap (list_all (inner_is_fed t)) ins_are ∙ each_fed (inputs_of u) (λ p a. a)
    where
      each_fed : (ps : List Port) → ((p : Port) → IsAmong ps p → IsAmong (inputs_of u) p) → list_all (inner_is_fed t) ps ≡ true
      each_fed [] all = refl
      each_fed (p ∷ ps) all =
          both (inner_is_fed t p) (list_all (inner_is_fed t) ps) (fed_one p (all p (0, (omega arith, refl)))) (each_fed ps (λ x a. all x (suc a.0, (omega (arith, a.1.0), a.1.1))))

  -- a tiler is on each output
  outs_tiled : (q : List PlaceStep) → Hold (each (tiled_checks t) q t.outs)
  outs_tiled q = each-all (tiled_checks t) q 0 [] t.outs step
    where
      step : (p : List PlaceStep) (b r : List Port) (y : Port) → t.outs ≡ b ++ y ∷ r → Hold (tiled_checks t p b y)
      step p b r y split =
          let w = by.tiled y (among_split t.outs b r y split) in
          let listed : IsAmong (map tiler_of (ins ++ outs)) (tiler_of w.0) = map_among tiler_of (ins ++ outs) w.0 (among_right ins outs w.0 w.1) in
          let on : same w.0.outer y.name ≡ true = ap (λ n. same n y.name) w.2 ∙ same-self y.name in
          hold-one p 22 (is_tiled t y) (ap (list_any (λ (e : TilerOn). same e.outer y.name)) tilers_are ∙ there_any (λ (e : TilerOn). same e.outer y.name) (map tiler_of (ins ++ outs)) (tiler_of w.0) listed on)

  -- all its rules
  pub wired_holds : (q : List PlaceStep) → HoldsOfRepeated ts q t
  wired_holds q =
      let parts = fresh_parts [] (names_of t.ins) (names_of t.outs) by.own in
      let P : List Port → Type 0 = λ ps. AreFresh (names_of ps) (names_of t.outs) in
      let Q : List Interlink → Type 0 = λ ls. Hold (each (interlink_checks ts t) (to_key q KLinks) ls) in
      record {
        ins = fresh_ports [] [] t.ins (to_key q KIn) 0 parts.0;
        outs = fresh_ports t.ins [] t.outs (to_key q KOut) 0 (subst P (sym (append-nil t.ins)) parts.1);
        inner = ap is_some found;
        tilers = tilers_hold (to_key q KTilers);
        links = subst Q (sym by.plain) refl;
        fed = all_fed;
        tiled = outs_tiled (to_key q KOut);
      }
