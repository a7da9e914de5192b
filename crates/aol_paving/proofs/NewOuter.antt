-- The rules of the new outer repetition.
use Rattle.std.proofs.Common.{◌≡◌, ℕ, ◌+◌, Bool, true, false, cond, not, ◌&&◌, ◌||◌, List, [], ◌∷◌, ◌++◌, length, Option, Some, None, is_some, is_none, sym, ◌∙◌, ap, refl, arith, subst, ◌⊎◌, inl, inr}
use Rattle.std.specs.Option.{option_or}
use Rattle.std.specs.List.{IsAmong, list_all, list_any, count_by}
use Rattle.std.proofs.lemmas.Bool.{eq-eqb}
use Rattle.std.proofs.lemmas.List.Folds.{find-append}
use Rattle.aol_shape.specs.Lists.{same}
use Rattle.aol_expr_tree.specs.declared.port.Port.{Port}
use Rattle.aol_model_types.specs.declared.place.Key.TheVariants.{KIn, KOut, KTilers}
use Rattle.aol_model_types.specs.declared.place.PlaceStep.{PlaceStep}
use Rattle.aol_model_types.specs.declared.task.Repeated.{Repeated}
use Rattle.aol_model_types.specs.declared.task.Task.{Task}
use Rattle.aol_model_types.specs.declared.task.Task.TheVariants as tasks
use Rattle.aol_model_types.specs.declared.task.TilerOn.{TilerOn}
use Rattle.aol_model_types.specs.Places.{to_key}
use Rattle.aol_model_types.specs.Rules.{each, task_name, task_named, inputs_named, outputs_named, port_shape, port_checks, tiler_checks, is_on_ports, tiles_output_once, tiler_fits, fits_in, inner_is_fed, all_inner_fed, is_earlier_task, is_tiled}
use Rattle.aol_flat.proofs.Among.{among_append, among_map}
use Rattle.aol_flat.proofs.Checked.{HoldsOfRepeated, tiled_checks}
use Rattle.aol_flat.proofs.Different.{Hold}
use Rattle.aol_flat.proofs.Names.{same-self}
use Rattle.aol_flat.proofs.Truth.{both}
use Rattle.aol_change.specs.Blocks.{inputs_in, outputs_in}
use Rattle.aol_change.proofs.Checks.{each-all, each-moved}
use Rattle.aol_change.proofs.KindChecks.{hold-one}
use Rattle.aol_paving.specs.declared.crossing.Crossing.{Crossing}
use Rattle.aol_paving.specs.Crossings.{crossed_tiler}
use Rattle.aol_paving.specs.Pave.{whole_port, outer_tiler, outer_task}
use Rattle.aol_paving.proofs.Both.{ins, outs, all, made, way_in, way_out, in_all, out_all, output_way, fit, no_other, tiled_one, whole_shape, in_known, out_known}
use Rattle.aol_paving.proofs.CrossedTilers.{crossed_fits}
use Rattle.aol_paving.proofs.Levels.{IsLevel}
use Rattle.aol_paving.proofs.Members.{any_map, there_any, at_split, mapped_at, all_pass}
use Rattle.aol_paving.proofs.OnceNamed.{AreOnce}
use Rattle.aol_paving.proofs.Ways.{AreApart}

module _ (ts : List Task) (t u : Repeated) (top : IsLevel t u.ins u.outs) (low : IsLevel u (inputs_named ts u.task) (outputs_named ts u.task)) (once : AreOnce (inputs_named ts u.task ++ outputs_named ts u.task))
    (apart : AreApart (outputs_named ts u.task) (inputs_named ts u.task)) (place : List PlaceStep) (holds : HoldsOfRepeated ts place t) (outer block name : List ℕ) (fresh : is_earlier_task ts name ≡ false)
    (outer_rank : length outer ≡ length t.space) (block_rank : length block ≡ length t.space) where
  abbrev space : List ℕ
  space = block ++ u.space

  abbrev one : Repeated
  one = made ts t u top low once apart space name

  abbrev before : List Task
  before = ts ++ tasks.Repeated one ∷ []

  abbrev ways : List Crossing
  ways = all ts t u top low once apart

  abbrev new : Repeated
  new = outer_task t ways outer block name

  abbrev in_ports : List Port
  in_ports = one.ins

  abbrev out_ports : List Port
  out_ports = one.outs

  -- the inner task is the new inner repetition
  one_found : task_named before name ≡ Some (tasks.Repeated one)
  one_found =
      find-append (λ v. same (task_name v) name) ts (tasks.Repeated one ∷ [])
      ∙ (ap (λ o. option_or o (cond (same name name) (Some (tasks.Repeated one)) None)) (none_of (task_named ts name) fresh) ∙ ap (λ b. cond b (Some (tasks.Repeated one)) None) (same-self name))
    where
      none_of : (o : Option Task) → is_some o ≡ false → o ≡ None
      none_of None h = refl
      none_of (Some v) h = cc

  ins_are : inputs_named before name ≡ in_ports
  ins_are = ap inputs_in one_found

  outs_are : outputs_named before name ≡ out_ports
  outs_are = ap outputs_in one_found

  or_true : (x : Bool) → (x || true) ≡ true
  or_true true = refl
  or_true false = refl

  or_right : (x y : Bool) → y ≡ true → (x || y) ≡ true
  or_right true y e = refl
  or_right false y e = e

  or_left : (x y : Bool) → x ≡ true → (x || y) ≡ true
  or_left true y e = refl
  or_left false y e = cc

  on_ports : (c : Crossing) → IsAmong (ins ts t u top low once apart) c ⊎ IsAmong (outs ts t u top low once apart) c → is_on_ports before new (outer_tiler block c) ≡ true
  on_ports c (inl a) =
      let known : is_some (port_shape (inputs_named before name) c.port.name) ≡ true = ap (λ ps. is_some (port_shape ps c.port.name)) ins_are ∙ in_known ts t u top low once apart space name c a in
      or_left (is_some (port_shape t.ins c.outer.outer) && is_some (port_shape (inputs_named before name) c.port.name)) _
      (both (is_some (port_shape t.ins c.outer.outer)) (is_some (port_shape (inputs_named before name) c.port.name)) (way_in ts t u top low once apart c a).outer_joins.outside known)
  on_ports c (inr a) =
      let known : is_some (port_shape (outputs_named before name) c.port.name) ≡ true = ap (λ ps. is_some (port_shape ps c.port.name)) outs_are ∙ out_known ts t u top low once apart space name c a in
      or_right (is_some (port_shape t.ins c.outer.outer) && is_some (port_shape (inputs_named before name) c.port.name)) _
      (both (is_some (port_shape t.outs c.outer.outer)) (is_some (port_shape (outputs_named before name) c.port.name)) (way_out ts t u top low once apart c a).outer_joins.outside known)

  tiler_holds : (p : List PlaceStep) (b : List TilerOn) (c : Crossing) → IsAmong ways c → list_any (λ (e : TilerOn). same e.inner c.port.name) b ≡ false → Hold (tiler_checks before new p b (outer_tiler block c))
  tiler_holds p b c a none =
      let x : TilerOn = outer_tiler block c in
      let f = fit ts t u top low once apart c a in
      let once_on : tiles_output_once before new b x ≡ true = ap (λ y. is_none (port_shape (outputs_named before name) c.port.name) || not y) none ∙ or_true (is_none (port_shape (outputs_named before name) c.port.name)) in
      let shape : port_shape (inputs_named before name ++ outputs_named before name) c.port.name ≡ Some (space ++ c.port.shape) =
      ap (λ ps. port_shape (ps ++ outputs_named before name) c.port.name) ins_are
      ∙ (ap (λ ps. port_shape (in_ports ++ ps) c.port.name) outs_are ∙ whole_shape ts t u top low once apart space name c a) in
      let fits : tiler_fits before new x ≡ true =
      ap (λ s. fits_in (crossed_tiler block c) s outer (port_shape (inputs_named before name ++ outputs_named before name) c.port.name)) f.outside
      ∙ (ap (λ s. fits_in (crossed_tiler block c) (Some f.array) outer s) shape ∙ crossed_fits c f.array t.space f.between u.space outer block f.outer_fit f.inner_fit outer_rank block_rank) in
      both (is_on_ports before new x) _ (on_ports c (among_append (ins ts t u top low once apart) (outs ts t u top low once apart) c a)) (both (tiles_output_once before new b x) _ once_on (both (tiler_fits before new x) true fits refl))

  new_tilers : (q : List PlaceStep) → Hold (each (tiler_checks before new) q new.tilers)
  new_tilers q = each-all (tiler_checks before new) q 0 [] new.tilers
      (λ p b r x split.
      let k = mapped_at (outer_tiler block) ways b r x split in
      let none = no_other ts t u top low once apart (outer_tiler block) (λ c. refl) b r x split in
      let Q : TilerOn → Type 0 = λ y. list_any (λ (e : TilerOn). same e.inner y.inner) b ≡ false in
      let P : TilerOn → Type 0 = λ y. Hold (tiler_checks before new p b y) in
      subst P (sym k.is) (tiler_holds p b k.member (at_split ways k.before k.rest k.member k.split) (subst Q k.is none)))

  new_fed : all_inner_fed before new ≡ true
  new_fed = ap (list_all (inner_is_fed new)) ins_are
      ∙ all_pass (inner_is_fed new) in_ports
      (λ v a.
      let c = among_map (whole_port space) (ins ts t u top low once apart) v a in
      let single = tiled_one ts t u top low once apart (outer_tiler block) (λ d. refl) c.0 (in_all ts t u top low once apart c.0 c.1) in
      ap (inner_is_fed new) c.2 ∙ eq-eqb (count_by (λ (e : TilerOn). same e.inner c.0.port.name) new.tilers + 0) 1 (omega (arith, single)))

  new_tiled : (q : List PlaceStep) → Hold (each (tiled_checks new) q t.outs)
  new_tiled q = each-all (tiled_checks new) q 0 [] t.outs
      (λ p b r y split.
      let c = output_way ts t u top low once apart y (at_split t.outs b r y split) in
      let there : is_tiled new y ≡ true =
      any_map (outer_tiler block) (λ (e : TilerOn). same e.outer y.name) ways
      ∙ there_any (λ (d : Crossing). same d.outer.outer y.name) ways c.0 (out_all ts t u top low once apart c.0 c.1) (ap (λ n. same n y.name) c.2 ∙ same-self y.name) in
      hold-one p 22 (is_tiled new y) there)

  -- all its rules
  pub outer_holds : (q : List PlaceStep) → HoldsOfRepeated before q new
  outer_holds q = record {
    ins = each-moved (port_checks []) (port_checks []) (to_key place KIn) (to_key q KIn) 0 0 [] t.ins (λ p p' b x a k. k) holds.ins;
    outs = each-moved (port_checks t.ins) (port_checks t.ins) (to_key place KOut) (to_key q KOut) 0 0 [] t.outs (λ p p' b x a k. k) holds.outs;
    inner = ap is_some one_found;
    tilers = new_tilers (to_key q KTilers);
    links = refl;
    fed = new_fed;
    tiled = new_tiled (to_key q KOut);
  }
