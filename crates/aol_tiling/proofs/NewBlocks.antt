-- The rules of the repetition over the blocks hold.
use Rattle.std.proofs.Common.{◌≡◌, ℕ, ◌+◌, Bool, true, false, cond, not, ◌&&◌, ◌||◌, List, [], ◌∷◌, ◌++◌, suc, length, map, filter, Option, Some, None, is_some, is_none, sym, ◌∙◌, ap, refl, arith, subst, ◌⊎◌, inl, inr}
use Rattle.std.specs.Option.{option_or}
use Rattle.std.specs.List.{IsAmong, list_all, list_any, count_by}
use Rattle.std.proofs.lemmas.Bool.{eq-eqb}
use Rattle.std.proofs.lemmas.List.Folds.{find-append}
use Rattle.aol_shape.specs.Lists.{same}
use Rattle.aol_tiler.specs.Tiler.{blocked}
use Rattle.aol_expr_tree.specs.declared.port.Port.{Port}
use Rattle.aol_model_types.specs.declared.place.Key.TheVariants.{KIn, KOut, KTilers}
use Rattle.aol_model_types.specs.declared.place.PlaceStep.{PlaceStep}
use Rattle.aol_model_types.specs.declared.task.Repeated.{Repeated}
use Rattle.aol_model_types.specs.declared.task.Task.{Task}
use Rattle.aol_model_types.specs.declared.task.Task.TheVariants as tasks
use Rattle.aol_model_types.specs.declared.task.TilerOn.{TilerOn}
use Rattle.aol_model_types.specs.Places.{to_key}
use Rattle.aol_model_types.specs.Rules.{each, task_name, task_named, inputs_named, outputs_named, port_shape, port_checks, tiler_checks, is_on_ports, tiles_output_once, tiler_fits, fits_in, inner_is_fed, all_inner_fed, is_earlier_task}
use Rattle.aol_flat.proofs.Checked.{HoldsOfRepeated, tiled_checks}
use Rattle.aol_flat.proofs.Different.{Hold}
use Rattle.aol_flat.proofs.Inside.{among_right}
use Rattle.aol_flat.proofs.Names.{same-self}
use Rattle.aol_flat.proofs.TilerRules.{JoinsPorts, sides_of, tiled}
use Rattle.aol_flat.proofs.Truth.{both}
use Rattle.aol_change.specs.Blocks.{inputs_in, outputs_in, shape_in, port_over, ports_over, tilers_on}
use Rattle.aol_change.proofs.Checks.{each-all, each-moved}
use Rattle.aol_change.proofs.TilerForms.{blocked_fits}
use Rattle.aol_tiling.specs.Tile.{outer_tiler, blocks_task}
use Rattle.aol_tiling.proofs.Old.{fits_ports}
use Rattle.aol_tiling.proofs.NewBlock.{inner, over, made, over_there, shape_of_both, free, fed_by_one, any_map, count_map, kept_at}

module _ (before : List Task) (place : List PlaceStep) (t : Repeated) (holds : HoldsOfRepeated before place t) (plain : t.links ≡ []) (block name outer : List ℕ)
    (apart : (port : List ℕ) → is_some (port_shape (outputs_in (task_named before t.task)) port) ≡ true → is_some (port_shape (inputs_in (task_named before t.task)) port) ≡ false)
    (fresh : is_earlier_task before name ≡ false) (outer_rank : length outer ≡ length t.space) (block_rank : length block ≡ length t.space) where
  abbrev one : Repeated
  one = made before place t holds plain block name apart

  abbrev tasks_before : List Task
  tasks_before = before ++ tasks.Repeated one ∷ []

  abbrev all : Repeated
  all = blocks_task t outer block name

  abbrev in_over : List Port
  in_over = over before place t holds plain block name apart (inputs_in (inner before place t holds plain block name apart))

  abbrev out_over : List Port
  out_over = over before place t holds plain block name apart (outputs_in (inner before place t holds plain block name apart))

  -- the inner task of the repetition over the blocks is the one over one block
  one_found : task_named tasks_before name ≡ Some (tasks.Repeated one)
  one_found =
      find-append (λ u. same (task_name u) name) before (tasks.Repeated one ∷ [])
      ∙ (ap (λ o. option_or o (cond (same name name) (Some (tasks.Repeated one)) None)) (none_of (task_named before name) fresh)
      ∙ ap (λ b. cond b (Some (tasks.Repeated one)) None) (same-self name))
    where
      none_of : (o : Option Task) → is_some o ≡ false → o ≡ None
      none_of None h = refl
      none_of (Some u) h = cc

  ins_are : inputs_named tasks_before name ≡ in_over
  ins_are = ap inputs_in one_found

  outs_are : outputs_named tasks_before name ≡ out_over
  outs_are = ap outputs_in one_found

  sides : (o : TilerOn) → IsAmong t.tilers o → JoinsPorts t.ins (inputs_in (task_named before t.task)) o ⊎ JoinsPorts t.outs (outputs_in (task_named before t.task)) o
  sides o a = sides_of before t o (tiled before place t o holds a)

  abbrev change : TilerOn → TilerOn
  change = outer_tiler block

  -- the rules of one tiler in blocks, where no earlier one is on its inner port
  tiler_holds : (p : List PlaceStep) (b : List TilerOn) (o : TilerOn) → IsAmong t.tilers o → list_any (λ (e : TilerOn). same e.inner o.inner) b ≡ false → Hold (tiler_checks tasks_before all p (map change b) (change o))
  tiler_holds p b o a none =
      let f = fits_ports before place t o holds a in
      let once : tiles_output_once tasks_before all (map change b) (change o) ≡ true =
      ap (λ x. is_none (port_shape (outputs_named tasks_before name) o.inner) || not x) (any_map change (λ (e : TilerOn). same e.inner o.inner) b ∙ none) ∙ or_true (is_none (port_shape (outputs_named tasks_before name) o.inner)) in
      let shape : port_shape (inputs_named tasks_before name ++ outputs_named tasks_before name) o.inner ≡ Some (block ++ shape_in (task_named before t.task) o.inner) =
      ap (λ ps. port_shape (ps ++ outputs_named tasks_before name) o.inner) ins_are
      ∙ (ap (λ ps. port_shape (in_over ++ ps) o.inner) outs_are ∙ shape_of_both before place t holds plain block name apart o a) in
      let fit : tiler_fits tasks_before all (change o) ≡ true =
      ap (λ s. fits_in (blocked o.tiler block) s outer (port_shape (inputs_named tasks_before name ++ outputs_named tasks_before name) o.inner)) f.outside
      ∙ (ap (λ s. fits_in (blocked o.tiler block) (Some f.array) outer s) shape
      ∙ blocked_fits o.tiler f.array t.space outer block (shape_in (task_named before t.task) o.inner) f.fit outer_rank block_rank) in
      both (is_on_ports tasks_before all (change o)) _ (on_ports (sides o a)) (both (tiles_output_once tasks_before all (map change b) (change o)) _ once (both (tiler_fits tasks_before all (change o)) true fit refl))
    where
      or_true : (x : Bool) → (x || true) ≡ true
      or_true true = refl
      or_true false = refl

      or_right : (x y : Bool) → y ≡ true → (x || y) ≡ true
      or_right true y e = refl
      or_right false y e = e

      on_ports : JoinsPorts t.ins (inputs_in (task_named before t.task)) o ⊎ JoinsPorts t.outs (outputs_in (task_named before t.task)) o → is_on_ports tasks_before all (change o) ≡ true
      on_ports (inl side) =
          let known : is_some (port_shape (inputs_named tasks_before name) o.inner) ≡ true =
          ap (λ ps. is_some (port_shape ps o.inner)) ins_are ∙ ap is_some (over_there before place t holds plain block name apart (inputs_in (task_named before t.task)) o a side.inside) in
          ap (λ x. x || (is_some (port_shape t.outs o.outer) && is_some (port_shape (outputs_named tasks_before name) o.inner)))
          (both (is_some (port_shape t.ins o.outer)) (is_some (port_shape (inputs_named tasks_before name) o.inner)) side.outside known)
      on_ports (inr side) =
          let known : is_some (port_shape (outputs_named tasks_before name) o.inner) ≡ true =
          ap (λ ps. is_some (port_shape ps o.inner)) outs_are ∙ ap is_some (over_there before place t holds plain block name apart (outputs_in (task_named before t.task)) o a side.inside) in
          or_right (is_some (port_shape t.ins o.outer) && is_some (port_shape (inputs_named tasks_before name) o.inner)) _
          (both (is_some (port_shape t.outs o.outer)) (is_some (port_shape (outputs_named tasks_before name) o.inner)) side.outside known)

  blocks_tilers : (q : List PlaceStep) → Hold (each (tiler_checks tasks_before all) q (map change t.tilers))
  blocks_tilers q = each-all (tiler_checks tasks_before all) q 0 [] (map change t.tilers) step
    where
      step : (p : List PlaceStep) (b r : List TilerOn) (x : TilerOn) → map change t.tilers ≡ b ++ x ∷ r → Hold (tiler_checks tasks_before all p b x)
      step p b r x split =
          let k = kept_at (λ (o : TilerOn). true) change t.tilers b r x (ap (map change) (all_kept t.tilers) ∙ split) in
          let a : IsAmong t.tilers k.member = (let P : List TilerOn → Type 0 = λ os. IsAmong os k.member in subst P (sym k.split) (among_right k.before (k.member ∷ k.rest) k.member (0, (omega arith, refl)))) in
          let none = free before place t holds plain block name apart k.before k.rest k.member k.split in
          let front : b ≡ map change k.before = k.front_is ∙ ap (map change) (all_kept k.before) in
          let P : List TilerOn → Type 0 = λ os. Hold (tiler_checks tasks_before all p os x) in
          let Q : TilerOn → Type 0 = λ y. Hold (tiler_checks tasks_before all p (map change k.before) y) in
          subst P (sym front) (subst Q (sym k.is) (tiler_holds p k.before k.member a none))
        where
          all_kept : (os : List TilerOn) → filter (λ (o : TilerOn). true) os ≡ os
          all_kept [] = refl
          all_kept (o ∷ os) = ap (λ ys. o ∷ ys) (all_kept os)

  -- each port over a block is fed
  blocks_fed : all_inner_fed tasks_before all ≡ true
  blocks_fed = ap (list_all (inner_is_fed all)) ins_are ∙ fed_over t.tilers (λ o a. a)
    where
      fed_one : (o : TilerOn) → is_some (port_shape (inputs_in (task_named before t.task)) o.inner) ≡ true → inner_is_fed all (port_over (task_named before t.task) block o.inner) ≡ true
      fed_one o known =
          let one_tiler : count_by (λ (e : TilerOn). same e.inner o.inner) (map change t.tilers) ≡ 1 =
          count_map change (λ (e : TilerOn). same e.inner o.inner) t.tilers ∙ fed_by_one before place t holds plain block name apart o.inner known in
          eq-eqb (count_by (λ (e : TilerOn). same e.inner o.inner) (map change t.tilers) + 0) 1 (omega (arith, one_tiler))

      fed_over : (os : List TilerOn) → ((o : TilerOn) → IsAmong os o → IsAmong t.tilers o)
          → list_all (inner_is_fed all) (ports_over (task_named before t.task) block (tilers_on (inputs_in (task_named before t.task)) os)) ≡ true
      fed_over [] in_all = refl
      fed_over (o ∷ os) in_all =
          go (is_some (port_shape (inputs_in (task_named before t.task)) o.inner)) refl (fed_over os (λ x a. in_all x (suc a.0, (omega (arith, a.1.0), a.1.1))))
        where
          go : (b : Bool) → is_some (port_shape (inputs_in (task_named before t.task)) o.inner) ≡ b
              → list_all (inner_is_fed all) (ports_over (task_named before t.task) block (tilers_on (inputs_in (task_named before t.task)) os)) ≡ true
              → list_all (inner_is_fed all) (ports_over (task_named before t.task) block (cond b (o ∷ tilers_on (inputs_in (task_named before t.task)) os) (tilers_on (inputs_in (task_named before t.task)) os))) ≡ true
          go true e rest =
              both (inner_is_fed all (port_over (task_named before t.task) block o.inner))
              (list_all (inner_is_fed all) (ports_over (task_named before t.task) block (tilers_on (inputs_in (task_named before t.task)) os))) (fed_one o e) rest
          go false e rest = rest

  -- all its rules
  pub blocks_hold : (q : List PlaceStep) → HoldsOfRepeated tasks_before q all
  blocks_hold q = record {
    ins = each-moved (port_checks []) (port_checks []) (to_key place KIn) (to_key q KIn) 0 0 [] t.ins (λ p p' b x a k. k) holds.ins;
    outs = each-moved (port_checks t.ins) (port_checks t.ins) (to_key place KOut) (to_key q KOut) 0 0 [] t.outs (λ p p' b x a k. k) holds.outs;
    inner = ap is_some one_found;
    tilers = blocks_tilers (to_key q KTilers);
    links = refl;
    fed = blocks_fed;
    tiled = each-moved (tiled_checks t) (tiled_checks all) (to_key place KOut) (to_key q KOut) 0 0 [] t.outs
        (λ p p' b x a k. ap (λ y. y && true) (any_map change (λ (e : TilerOn). same e.outer x.name) t.tilers) ∙ k) holds.tiled;
  }
