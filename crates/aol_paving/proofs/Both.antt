-- What is known of both levels that are paved anew, and the rules of the new inner repetition.
use Rattle.std.proofs.Common.{◌≡◌, ℕ, ◌+◌, ◌≤◌, Bool, true, false, not, ◌&&◌, ◌||◌, ◌==◌, List, [], ◌∷◌, ◌++◌, map, Some, is_some, is_none, sym, ◌∙◌, ap, refl, arith, subst, ◌⊎◌, inl, inr}
use Rattle.std.specs.List.{IsAmong, list_any, count_by}
use Rattle.std.proofs.lemmas.Bool.{eq-eqb}
use Rattle.std.proofs.lemmas.List.{append_assoc, map-append}
use Rattle.std.proofs.lemmas.List.Elements.{filter_map-append}
use Rattle.aol_shape.specs.Lists.{same}
use Rattle.aol_tiler.specs.Tiler.{inner_of}
use Rattle.aol_expr_tree.specs.declared.port.Port.{Port}
use Rattle.aol_model_types.specs.declared.place.Key.TheVariants.{KIn, KOut, KTilers, KName}
use Rattle.aol_model_types.specs.declared.place.PlaceStep.{PlaceStep}
use Rattle.aol_model_types.specs.declared.task.Repeated.{Repeated}
use Rattle.aol_model_types.specs.declared.task.Task.{Task}
use Rattle.aol_model_types.specs.declared.task.TilerOn.{TilerOn}
use Rattle.aol_model_types.specs.Places.{to_key}
use Rattle.aol_model_types.specs.Rules.{each, inputs_named, outputs_named, port_shape, port_checks, tiler_checks, is_on_ports, tiles_output_once, tiler_fits, fits_in, inner_is_fed, all_inner_fed, is_tiled, is_new_port, is_earlier_task}
use Rattle.aol_flat.proofs.Among.{among_append, map_among}
use Rattle.aol_flat.proofs.Checked.{HoldsOfRepeated, tiled_checks}
use Rattle.aol_flat.proofs.Different.{Hold}
use Rattle.aol_flat.proofs.Inside.{among_left, among_right}
use Rattle.aol_flat.proofs.Names.{same-self}
use Rattle.aol_flat.proofs.Once.{counted}
use Rattle.aol_flat.proofs.Truth.{both}
use Rattle.aol_change.proofs.Checks.{each-all}
use Rattle.aol_change.proofs.KindChecks.{hold-one}
use Rattle.aol_change.proofs.TilerForms.{inner_fits}
use Rattle.aol_paving.specs.declared.crossing.Crossing.{Crossing}
use Rattle.aol_paving.specs.Crossings.{crossings}
use Rattle.aol_paving.specs.Pave.{whole_port, whole_tiler, inner_task}
use Rattle.aol_paving.proofs.Levels.{IsLevel}
use Rattle.aol_paving.proofs.Members.{any_map, there_any, count_map, same_count, none_before, at_split, mapped_at, all_pass}
use Rattle.aol_paving.proofs.OnceNamed.{AreOnce, port_known, port_alone, new_at, ways_once}
use Rattle.aol_paving.proofs.Ways.{AreApart, apart_back, IsWay, way_of, fed_way, tiled_way, FitsWay, fits_way}

module _ (ts : List Task) (t u : Repeated) (top : IsLevel t u.ins u.outs) (low : IsLevel u (inputs_named ts u.task) (outputs_named ts u.task)) (once : AreOnce (inputs_named ts u.task ++ outputs_named ts u.task))
    (apart : AreApart (outputs_named ts u.task) (inputs_named ts u.task)) where
  abbrev pub inputs : List Port
  inputs = inputs_named ts u.task

  abbrev pub outputs : List Port
  outputs = outputs_named ts u.task

  abbrev pub ins : List Crossing
  ins = crossings t u inputs

  abbrev pub outs : List Crossing
  outs = crossings t u outputs

  abbrev pub all : List Crossing
  all = ins ++ outs

  abbrev on : List ℕ → Crossing → Bool
  on n c = same c.port.name n

  -- ---- ways

  swap : {A B : Type 0} → A ⊎ B → B ⊎ A
  swap (inl a) = inr a
  swap (inr b) = inl b

  pub way_in : (c : Crossing) → IsAmong ins c → IsWay t u t.ins u.ins inputs c
  way_in c a =
      way_of t u t.ins u.ins inputs t.outs u.outs outputs low.sides top.sides (apart_back outputs inputs apart) (apart_back u.outs u.ins low.apart) (λ v b. port_known inputs v b) c a

  pub way_out : (c : Crossing) → IsAmong outs c → IsWay t u t.outs u.outs outputs c
  way_out c a =
      way_of t u t.outs u.outs outputs t.ins u.ins inputs (λ o b. swap (low.sides o b)) (λ o b. swap (top.sides o b)) apart low.apart (λ v b. port_known outputs v b) c a

  pub way : (c : Crossing) → IsAmong all c → IsWay t u t.ins u.ins inputs c ⊎ IsWay t u t.outs u.outs outputs c
  way c a = go (among_append ins outs c a)
    where
      go : IsAmong ins c ⊎ IsAmong outs c → IsWay t u t.ins u.ins inputs c ⊎ IsWay t u t.outs u.outs outputs c
      go (inl b) = inl (way_in c b)
      go (inr b) = inr (way_out c b)

  pub in_all : (c : Crossing) → IsAmong ins c → IsAmong all c
  in_all c a = among_left ins outs c a

  pub out_all : (c : Crossing) → IsAmong outs c → IsAmong all c
  out_all c a = among_right ins outs c a

  -- each innermost input has a way
  pub input_way : (v : Port) → IsAmong inputs v → (c : Crossing) × IsAmong ins c × (c.port.name ≡ v.name)
  input_way v a =
      let known = port_known inputs v a in
      let two = low.fed v.name known in
      fed_way t u t.ins u.ins inputs t.outs u.outs outputs low.sides top.sides (apart_back outputs inputs apart) (apart_back u.outs u.ins low.apart) v two.0 a known two.1 top.fed

  -- each outer output has one
  pub output_way : (y : Port) → IsAmong t.outs y → (c : Crossing) × IsAmong outs c × (c.outer.outer ≡ y.name)
  output_way y a =
      let one = top.tiled y a in
      tiled_way t u t.outs u.outs outputs t.ins u.ins inputs (λ o b. swap (low.sides o b)) (λ o b. swap (top.sides o b)) apart low.apart y.name one.0 (top.apart y.name (port_known t.outs y a)) one.1 one.2 top.only low.only low.tiled

  pub port_among : (c : Crossing) → IsAmong all c → IsAmong (inputs ++ outputs) c.port
  port_among c a = go (way c a)
    where
      go : IsWay t u t.ins u.ins inputs c ⊎ IsWay t u t.outs u.outs outputs c → IsAmong (inputs ++ outputs) c.port
      go (inl w) = among_left inputs outputs c.port w.port
      go (inr w) = among_right inputs outputs c.port w.port

  pub own_shape : (c : Crossing) → IsAmong all c → port_shape (inputs ++ outputs) c.port.name ≡ Some c.port.shape
  own_shape c a = port_alone (inputs ++ outputs) c.port once (port_among c a)

  pub fit : (c : Crossing) → IsAmong all c → FitsWay t u c
  fit c a = go (way c a)
    where
      go : IsWay t u t.ins u.ins inputs c ⊎ IsWay t u t.outs u.outs outputs c → FitsWay t u c
      go (inl w) = fits_way t u inputs outputs t.ins u.ins inputs c top low w (own_shape c a)
      go (inr w) = fits_way t u inputs outputs t.outs u.outs outputs c top low w (own_shape c a)

  -- ---- names

  pub all_once : (n : List ℕ) → count_by (λ (c : Crossing). same c.port.name n) all ≤ 1
  all_once n =
      let listed : crossings t u (inputs ++ outputs) ≡ all = filter_map-append _ inputs outputs in
      omega (arith, ways_once t u (inputs ++ outputs) n, once n, ap (count_by (λ (c : Crossing). same c.port.name n)) listed)

  -- tilers on their ports are as many as the ways to them
  tiled_as_ways : (f : Crossing → TilerOn) → ((c : Crossing) → (f c).inner ≡ c.port.name) → (n : List ℕ) → count_by (λ (e : TilerOn). same e.inner n) (map f all) ≡ count_by (λ (c : Crossing). same c.port.name n) all
  tiled_as_ways f named n =
      count_map f (λ (e : TilerOn). same e.inner n) all ∙ same_count (λ (c : Crossing). same (f c).inner n) (λ (c : Crossing). same c.port.name n) (λ c. ap (λ m. same m n) (named c)) all

  -- none is twice on one
  pub no_other : (f : Crossing → TilerOn) → ((c : Crossing) → (f c).inner ≡ c.port.name) → (b r : List TilerOn) (x : TilerOn) → map f all ≡ b ++ x ∷ r → list_any (λ (e : TilerOn). same e.inner x.inner) b ≡ false
  no_other f named b r x split = none_before (λ (e : TilerOn). same e.inner x.inner) (map f all) b r x split (same-self x.inner) (omega (arith, all_once x.inner, tiled_as_ways f named x.inner))

  -- one is on each port that has a way
  pub tiled_one : (f : Crossing → TilerOn) → ((c : Crossing) → (f c).inner ≡ c.port.name) → (c : Crossing) → IsAmong all c → count_by (λ (e : TilerOn). same e.inner c.port.name) (map f all) ≡ 1
  tiled_one f named c a = omega (arith, tiled_as_ways f named c.port.name, all_once c.port.name, counted (λ (d : Crossing). same d.port.name c.port.name) all c a (same-self c.port.name))

  module _ (space name : List ℕ) where
    abbrev pub made : Repeated
    made = inner_task u ins outs space name

    abbrev whole : Crossing → Port
    whole = whole_port space

    whole_all : map whole ins ++ map whole outs ≡ map whole all
    whole_all = sym (map-append whole ins outs)

    whole_once : AreOnce (map whole ins ++ map whole outs)
    whole_once n = omega (arith, all_once n, count_map whole (λ (p : Port). same p.name n) all, ap (count_by (λ (p : Port). same p.name n)) whole_all)

    -- a port over the whole space
    pub whole_shape : (c : Crossing) → IsAmong all c → port_shape (map whole ins ++ map whole outs) c.port.name ≡ Some (space ++ c.port.shape)
    whole_shape c a = port_alone (map whole ins ++ map whole outs) (whole c) whole_once (subst (λ ps. IsAmong ps (whole c)) (sym whole_all) (map_among whole all c a))

    pub in_known : (c : Crossing) → IsAmong ins c → is_some (port_shape (map whole ins) c.port.name) ≡ true
    in_known c a = port_known (map whole ins) (whole c) (map_among whole ins c a)

    pub out_known : (c : Crossing) → IsAmong outs c → is_some (port_shape (map whole outs) c.port.name) ≡ true
    out_known c a = port_known (map whole outs) (whole c) (map_among whole outs c a)

    ins_new : (q : List PlaceStep) → Hold (each (port_checks []) q (map whole ins))
    ins_new q = each-all (port_checks []) q 0 [] (map whole ins)
        (λ p b r x split.
        hold-one (to_key p KName) 2 (is_new_port b x)
        (new_at (map whole ins ++ map whole outs) b (r ++ map whole outs) x whole_once (ap (λ ps. ps ++ map whole outs) split ∙ append_assoc b (x ∷ r) (map whole outs))))

    outs_new : (q : List PlaceStep) → Hold (each (port_checks (map whole ins)) q (map whole outs))
    outs_new q = each-all (port_checks (map whole ins)) q 0 [] (map whole outs)
        (λ p b r x split.
        hold-one (to_key p KName) 2 (is_new_port (map whole ins ++ b) x)
        (new_at (map whole ins ++ map whole outs) (map whole ins ++ b) r x whole_once (ap (λ ps. map whole ins ++ ps) split ∙ sym (append_assoc (map whole ins) b (x ∷ r)))))

    or_true : (x : Bool) → (x || true) ≡ true
    or_true true = refl
    or_true false = refl

    pub or_right : (x y : Bool) → y ≡ true → (x || y) ≡ true
    or_right true y e = refl
    or_right false y e = e

    pub or_left : (x y : Bool) → x ≡ true → (x || y) ≡ true
    or_left true y e = refl
    or_left false y e = cc

    made_tilers : (q : List PlaceStep) → Hold (each (tiler_checks ts made) q made.tilers)
    made_tilers q = each-all (tiler_checks ts made) q 0 [] made.tilers step
      where
        on_ports : (c : Crossing) → IsAmong ins c ⊎ IsAmong outs c → is_on_ports ts made (whole_tiler space c) ≡ true
        on_ports c (inl a) =
            or_left (is_some (port_shape (map whole ins) c.port.name) && is_some (port_shape inputs c.port.name)) _
            (both (is_some (port_shape (map whole ins) c.port.name)) (is_some (port_shape inputs c.port.name)) (in_known c a) (port_known inputs c.port (way_in c a).port))
        on_ports c (inr a) =
            or_right (is_some (port_shape (map whole ins) c.port.name) && is_some (port_shape inputs c.port.name)) _
            (both (is_some (port_shape (map whole outs) c.port.name)) (is_some (port_shape outputs c.port.name)) (out_known c a) (port_known outputs c.port (way_out c a).port))

        holds : (p : List PlaceStep) (b : List TilerOn) (c : Crossing) → IsAmong all c → list_any (λ (e : TilerOn). same e.inner c.port.name) b ≡ false → Hold (tiler_checks ts made p b (whole_tiler space c))
        holds p b c a none =
            let x : TilerOn = whole_tiler space c in
            let once_on : tiles_output_once ts made b x ≡ true = ap (λ y. is_none (port_shape outputs c.port.name) || not y) none ∙ or_true (is_none (port_shape outputs c.port.name)) in
            let fits : tiler_fits ts made x ≡ true =
            ap (λ s. fits_in (inner_of space c.port.shape) s space (port_shape (inputs ++ outputs) c.port.name)) (whole_shape c a)
            ∙ (ap (λ s. fits_in (inner_of space c.port.shape) (Some (space ++ c.port.shape)) space s) (own_shape c a) ∙ inner_fits space c.port.shape) in
            both (is_on_ports ts made x) _ (on_ports c (among_append ins outs c a)) (both (tiles_output_once ts made b x) _ once_on (both (tiler_fits ts made x) true fits refl))

        step : (p : List PlaceStep) (b r : List TilerOn) (x : TilerOn) → made.tilers ≡ b ++ x ∷ r → Hold (tiler_checks ts made p b x)
        step p b r x split =
            let k = mapped_at (whole_tiler space) all b r x split in
            let none = no_other (whole_tiler space) (λ c. refl) b r x split in
            let Q : TilerOn → Type 0 = λ y. list_any (λ (e : TilerOn). same e.inner y.inner) b ≡ false in
            let P : TilerOn → Type 0 = λ y. Hold (tiler_checks ts made p b y) in
            subst P (sym k.is) (holds p b k.member (at_split all k.before k.rest k.member k.split) (subst Q k.is none))

    made_fed : all_inner_fed ts made ≡ true
    made_fed = all_pass (inner_is_fed made) inputs
        (λ v a.
        let c = input_way v a in
        let one = tiled_one (whole_tiler space) (λ d. refl) c.0 (in_all c.0 c.1) in
        ap (λ n. count_by (λ (e : TilerOn). same e.inner n) made.tilers + 0 == 1) (sym c.2) ∙ eq-eqb (count_by (λ (e : TilerOn). same e.inner c.0.port.name) made.tilers + 0) 1 (omega (arith, one)))

    made_tiled : (q : List PlaceStep) → Hold (each (tiled_checks made) q (map whole outs))
    made_tiled q = each-all (tiled_checks made) q 0 [] (map whole outs)
        (λ p b r x split.
        let k = mapped_at whole outs b r x split in
        let a : IsAmong outs k.member = at_split outs k.before k.rest k.member k.split in
        let there : is_tiled made (whole k.member) ≡ true =
        any_map (whole_tiler space) (λ (e : TilerOn). same e.outer k.member.port.name) all ∙ there_any (λ (c : Crossing). same c.port.name k.member.port.name) all k.member (out_all k.member a) (same-self k.member.port.name) in
        let P : Port → Type 0 = λ y. Hold (tiled_checks made p b y) in
        subst P (sym k.is) (hold-one p 22 (is_tiled made (whole k.member)) there))

    -- all rules of the inner repetition
    pub inner_holds : (q : List PlaceStep) → is_earlier_task ts u.task ≡ true → HoldsOfRepeated ts q made
    inner_holds q earlier = record {
      ins = ins_new (to_key q KIn);
      outs = outs_new (to_key q KOut);
      inner = earlier;
      tilers = made_tilers (to_key q KTilers);
      links = refl;
      fed = made_fed;
      tiled = made_tiled (to_key q KOut);
    }
