-- The rules of a task hold wherever the tasks that it is made of are still there.
use Rattle.std.proofs.Common.{◌≡◌, ℕ, Bool, true, not, ◌&&◌, ◌||◌, List, [], ◌∷◌, ◌++◌, Option, Some, None, is_some, is_none, option_and_then, find, sym, ◌∙◌, ap, refl, subst}
use Rattle.std.specs.List.{IsAmong, list_all, list_any}
use Rattle.aol_shape.specs.Lists.{same}
use Rattle.aol_expr_tree.specs.declared.port.Port.{Port}
use Rattle.aol_link.specs.declared.link.Interlink.{Interlink}
use Rattle.aol_link.specs.declared.link.Choice.{Choice}
use Rattle.aol_link.specs.declared.link.Fallback.{Fallback}
use Rattle.aol_link.specs.declared.link.Fallback.TheVariants.{Number, Tiled}
use Rattle.aol_model_types.specs.declared.place.Key.TheVariants.{KIn, KOut, KParts, KLinks, KReshapes, KTask, KTilers}
use Rattle.aol_model_types.specs.declared.place.PlaceStep.{PlaceStep}
use Rattle.aol_model_types.specs.declared.task.Compound.{Compound}
use Rattle.aol_model_types.specs.declared.task.Copied.{Copied}
use Rattle.aol_model_types.specs.declared.task.Part.{Part}
use Rattle.aol_model_types.specs.declared.task.Plain.{Plain}
use Rattle.aol_model_types.specs.declared.task.Repeated.{Repeated}
use Rattle.aol_model_types.specs.declared.task.Task.{Task}
use Rattle.aol_model_types.specs.declared.task.Task.TheVariants as tasks
use Rattle.aol_model_types.specs.declared.task.TilerOn.{TilerOn}
use Rattle.aol_model_types.specs.Places.{to_key}
use Rattle.aol_model_types.specs.Rules.{Check, check, each, kind_checks, compound_checks, repeated_checks, port_checks, output_checks, part_checks, plain_checks, copied_checks, tiler_checks, interlink_checks, is_fed, is_earlier_task, is_new_part, meets_part, hands_up_once, same_shapes, fits_in, from_shape, to_shape, port_shape, inputs_named, outputs_named, all_inner_fed, inner_is_fed, fallback_fits, spans_space, has_last_resort, has_dimensions}
use Rattle.aol_flat.proofs.Checked.{member, HoldsOfCompound, of_compound, HoldsOfRepeated, of_repeated, fed_checks, output_fed_checks, tiled_checks}
use Rattle.aol_flat.proofs.Different.{Hold, hold-parts}
use Rattle.aol_flat.proofs.Names.{both-true}
use Rattle.aol_flat.proofs.Once.{found_among}
use Rattle.aol_change.proofs.Checks.{hold-both, each-moved}
use Rattle.aol_change.proofs.StillThere.{StayThere}

-- one more check that holds
pub hold-one : (at : List PlaceStep) (rule : ℕ) (b : Bool) → b ≡ true → Hold (check at rule b ∷ [])
hold-one at rule b h = ap (λ x. x && true) h

-- all checks of a compound from those of its members
pub to_compound : (ts : List Task) (place : List PlaceStep) (c : Compound) → HoldsOfCompound ts place c → Hold (compound_checks ts place c)
to_compound ts place c h =
    let ins : List Check = each (port_checks []) (to_key place KIn) c.ins in
    let outs : List Check = each (port_checks c.ins) (to_key place KOut) c.outs in
    let parts : List Check = each (part_checks ts) (to_key place KParts) c.parts in
    let links : List Check = each (plain_checks ts c) (to_key place KLinks) c.links in
    let reshapes : List Check = each (copied_checks ts c) (to_key place KReshapes) c.reshapes in
    let fed : List Check = each (fed_checks ts c) (to_key place KParts) c.parts in
    let outs_fed : List Check = each (output_fed_checks c) (to_key place KOut) c.outs in
    hold-both (ins ++ outs ++ parts ++ links ++ reshapes ++ fed) outs_fed
    (hold-both (ins ++ outs ++ parts ++ links ++ reshapes) fed
    (hold-both (ins ++ outs ++ parts ++ links) reshapes
    (hold-both (ins ++ outs ++ parts) links (hold-both (ins ++ outs) parts (hold-both ins outs h.ins h.outs) h.parts) h.links)
    h.reshapes)
    h.fed)
    h.outs_fed

-- all checks of a repetition
pub to_repeated : (ts : List Task) (place : List PlaceStep) (r : Repeated) → HoldsOfRepeated ts place r → Hold (repeated_checks ts place r)
to_repeated ts place r h =
    let ins : List Check = each (port_checks []) (to_key place KIn) r.ins in
    let outs : List Check = each (port_checks r.ins) (to_key place KOut) r.outs in
    let inner : Check = check (to_key place KTask) 14 (is_earlier_task ts r.task) in
    let tilers : List Check = each (tiler_checks ts r) (to_key place KTilers) r.tilers in
    let links : List Check = each (interlink_checks ts r) (to_key place KLinks) r.links in
    let fed : Check = check (to_key place KTask) 21 (all_inner_fed ts r) in
    let tiled : List Check = each (tiled_checks r) (to_key place KOut) r.outs in
    hold-both (ins ++ outs ++ inner ∷ tilers ++ links) (fed ∷ tiled)
    (hold-both (ins ++ outs ++ inner ∷ tilers) links
    (hold-both (ins ++ outs) (inner ∷ tilers) (hold-both ins outs h.ins h.outs)
    (hold-both (inner ∷ []) tilers (hold-one (to_key place KTask) 14 (is_earlier_task ts r.task) h.inner) h.tilers))
    h.links)
    (hold-both (fed ∷ []) tiled (hold-one (to_key place KTask) 21 (all_inner_fed ts r) h.fed) h.tiled)

-- what is found among some gives the same by two functions that agree there
found_same : {X Y : Type 0} (test : X → Bool) (xs : List X) (f g : X → Option Y) → ((x : X) → IsAmong xs x → f x ≡ g x) → option_and_then f (find test xs) ≡ option_and_then g (find test xs)
found_same {X = X} test xs f g agree = go (find test xs) refl
  where
    go : (o : Option X) → find test xs ≡ o → option_and_then f o ≡ option_and_then g o
    go None e = refl
    go (Some x) e = agree x (found_among test xs x e)

module _ (new : List (List ℕ)) (ts us : List Task) (stay : StayThere new ts us) where
  -- ---- compounds

  module _ (c : Compound) (earlier : (p : Part) → IsAmong c.parts p → is_earlier_task ts p.task ≡ true) where
    from_same : (o : Option (List ℕ)) (port : List ℕ) → from_shape us c (record { part = o; port = port }) ≡ from_shape ts c (record { part = o; port = port })
    from_same None port = refl
    from_same (Some name) port =
        found_same (λ (p : Part). same p.name name) c.parts (λ (p : Part). port_shape (outputs_named us p.task) port) (λ (p : Part). port_shape (outputs_named ts p.task) port)
        (λ p a. ap (λ (ports : List Port). port_shape ports port) ((stay p.task).outs (earlier p a)))

    to_same : (o : Option (List ℕ)) (port : List ℕ) → to_shape us c (record { part = o; port = port }) ≡ to_shape ts c (record { part = o; port = port })
    to_same None port = refl
    to_same (Some name) port =
        found_same (λ (p : Part). same p.name name) c.parts (λ (p : Part). port_shape (inputs_named us p.task) port) (λ (p : Part). port_shape (inputs_named ts p.task) port)
        (λ p a. ap (λ (ports : List Port). port_shape ports port) ((stay p.task).ins (earlier p a)))

    plain_moved : (p q : List PlaceStep) (before : List Plain) (l : Plain) → IsAmong c.links l → Hold (plain_checks ts c p before l) → Hold (plain_checks us c q before l)
    plain_moved p q before l a h =
        let Q : Option (List ℕ) → Option (List ℕ) → Type 0 = λ f t.
        Hold (check q 6 (is_some f) ∷ check q 7 (is_some t) ∷ check q 8 (meets_part l) ∷ check q 9 (same_shapes f t) ∷ check q 10 (hands_up_once before l) ∷ []) in
        subst (λ f. Q f (to_shape us c l.to)) (sym (from_same l.from.part l.from.port)) (subst (Q (from_shape ts c l.from)) (sym (to_same l.to.part l.to.port)) h)

    copied_moved : (p q : List PlaceStep) (before : List Copied) (l : Copied) → IsAmong c.reshapes l → Hold (copied_checks ts c p before l) → Hold (copied_checks us c q before l)
    copied_moved p q before l a h =
        let Q : Option (List ℕ) → Option (List ℕ) → Type 0 = λ f t.
        Hold (check q 6 (is_some f) ∷ check q 7 (is_some t) ∷ check q 11 (fits_in l.by.source f l.by.space (Some l.by.pattern)) ∷ check q 11 (fits_in l.by.target t l.by.space (Some l.by.pattern)) ∷ []) in
        subst (λ f. Q f (to_shape us c l.to)) (sym (from_same l.from.part l.from.port)) (subst (Q (from_shape ts c l.from)) (sym (to_same l.to.part l.to.port)) h)

    fed_moved : (p q : List PlaceStep) (before : List Part) (x : Part) → IsAmong c.parts x → Hold (fed_checks ts c p before x) → Hold (fed_checks us c q before x)
    fed_moved p q before x a h =
        let Q : List Port → Type 0 = λ ports. Hold (check q 12 (list_all (λ (u : Port). is_fed c (record { part = Some x.name; port = u.name })) ports) ∷ []) in
        subst Q (sym ((stay x.task).ins (earlier x a))) h

    part_moved : (p q : List PlaceStep) (before : List Part) (x : Part) → IsAmong c.parts x → Hold (part_checks ts p before x) → Hold (part_checks us q before x)
    part_moved p q before x a h =
        let first = both-true (is_new_part before x) _ h in
        let now : is_earlier_task us x.task ≡ true = (stay x.task).there (earlier x a) in
        ap (λ b. b && (is_earlier_task us x.task && true)) first.0 ∙ ap (λ b. b && true) now

  compound_moved : (at at' : List PlaceStep) (c : Compound) → Hold (compound_checks ts at c) → Hold (compound_checks us at' c)
  compound_moved at at' c h =
      let all = of_compound ts at c h in
      let earlier : (p : Part) → IsAmong c.parts p → is_earlier_task ts p.task ≡ true = λ p a.
      let r = member (part_checks ts) (to_key at KParts) c.parts p all.parts a in
      (both-true (is_earlier_task ts p.task) true (both-true (is_new_part r.before p) _ r.holds).1).0 in
      to_compound us at' c
      (record {
        ins = each-moved (port_checks []) (port_checks []) (to_key at KIn) (to_key at' KIn) 0 0 [] c.ins (λ p q before x a k. k) all.ins;
        outs = each-moved (port_checks c.ins) (port_checks c.ins) (to_key at KOut) (to_key at' KOut) 0 0 [] c.outs (λ p q before x a k. k) all.outs;
        parts = each-moved (part_checks ts) (part_checks us) (to_key at KParts) (to_key at' KParts) 0 0 [] c.parts (part_moved c earlier) all.parts;
        links = each-moved (plain_checks ts c) (plain_checks us c) (to_key at KLinks) (to_key at' KLinks) 0 0 [] c.links (plain_moved c earlier) all.links;
        reshapes = each-moved (copied_checks ts c) (copied_checks us c) (to_key at KReshapes) (to_key at' KReshapes) 0 0 [] c.reshapes (copied_moved c earlier) all.reshapes;
        fed = each-moved (fed_checks ts c) (fed_checks us c) (to_key at KParts) (to_key at' KParts) 0 0 [] c.parts (fed_moved c earlier) all.fed;
        outs_fed = each-moved (output_fed_checks c) (output_fed_checks c) (to_key at KOut) (to_key at' KOut) 0 0 [] c.outs (λ p q before x a k. k) all.outs_fed;
      })

  -- ---- repetitions

  repeated_moved : (at at' : List PlaceStep) (r : Repeated) → Hold (repeated_checks ts at r) → Hold (repeated_checks us at' r)
  repeated_moved at at' r h =
      let all = of_repeated ts at r h in
      let ins : inputs_named us r.task ≡ inputs_named ts r.task = (stay r.task).ins all.inner in
      let outs : outputs_named us r.task ≡ outputs_named ts r.task = (stay r.task).outs all.inner in
      to_repeated us at' r
      (record {
        ins = each-moved (port_checks []) (port_checks []) (to_key at KIn) (to_key at' KIn) 0 0 [] r.ins (λ p q before x a k. k) all.ins;
        outs = each-moved (port_checks r.ins) (port_checks r.ins) (to_key at KOut) (to_key at' KOut) 0 0 [] r.outs (λ p q before x a k. k) all.outs;
        inner = (stay r.task).there all.inner;
        tilers = each-moved (tiler_checks ts r) (tiler_checks us r) (to_key at KTilers) (to_key at' KTilers) 0 0 [] r.tilers (tiler_moved ins outs) all.tilers;
        links = each-moved (interlink_checks ts r) (interlink_checks us r) (to_key at KLinks) (to_key at' KLinks) 0 0 [] r.links (link_moved ins outs) all.links;
        fed = ap (list_all (inner_is_fed r)) ins ∙ all.fed;
        tiled = each-moved (tiled_checks r) (tiled_checks r) (to_key at KOut) (to_key at' KOut) 0 0 [] r.outs (λ p q before x a k. k) all.tiled;
      })
    where
      tiler_moved : inputs_named us r.task ≡ inputs_named ts r.task → outputs_named us r.task ≡ outputs_named ts r.task
          → (p q : List PlaceStep) (before : List TilerOn) (o : TilerOn) → IsAmong r.tilers o → Hold (tiler_checks ts r p before o) → Hold (tiler_checks us r q before o)
      tiler_moved ins outs p q before o a h =
          let Q : List Port → List Port → Type 0 = λ i u.
          Hold (check q 15 ((is_some (port_shape r.ins o.outer) && is_some (port_shape i o.inner)) || (is_some (port_shape r.outs o.outer) && is_some (port_shape u o.inner)))
          ∷ check q 17 (is_none (port_shape u o.inner) || not (list_any (λ (e : TilerOn). same e.inner o.inner) before))
          ∷ check q 16 (fits_in o.tiler (port_shape (r.ins ++ r.outs) o.outer) r.space (port_shape (i ++ u) o.inner)) ∷ []) in
          subst (λ i. Q i (outputs_named us r.task)) (sym ins) (subst (Q (inputs_named ts r.task)) (sym outs) h)

      fallback_same : inputs_named us r.task ≡ inputs_named ts r.task → (l : Interlink) (f : Fallback) → fallback_fits us r l f ≡ fallback_fits ts r l f
      fallback_same ins l (Number z) = refl
      fallback_same ins l (Tiled outer tiler) = ap (λ (i : List Port). fits_in tiler (port_shape r.ins outer) r.space (port_shape i l.to)) ins

      defaults_same : inputs_named us r.task ≡ inputs_named ts r.task → (l : Interlink) (cs : List Choice)
          → list_all (λ (c : Choice). fallback_fits us r l c.take) cs ≡ list_all (λ (c : Choice). fallback_fits ts r l c.take) cs
      defaults_same ins l [] = refl
      defaults_same ins l (c ∷ cs) =
          ap (λ b. b && list_all (λ (c : Choice). fallback_fits us r l c.take) cs) (fallback_same ins l c.take) ∙ ap (λ b. fallback_fits ts r l c.take && b) (defaults_same ins l cs)

      link_moved : inputs_named us r.task ≡ inputs_named ts r.task → outputs_named us r.task ≡ outputs_named ts r.task
          → (p q : List PlaceStep) (before : List Interlink) (l : Interlink) → IsAmong r.links l → Hold (interlink_checks ts r p before l) → Hold (interlink_checks us r q before l)
      link_moved ins outs p q before l a h =
          let Q : List Port → List Port → Bool → Type 0 = λ i u d.
          Hold (check q 18 (same_shapes (port_shape u l.from) (port_shape i l.to)) ∷ check q 19 (spans_space r l) ∷ check q 20 d ∷ check q 24 (has_last_resort l) ∷ check q 25 (has_dimensions r l) ∷ []) in
          subst (λ i. Q i (outputs_named us r.task) (list_all (λ (c : Choice). fallback_fits us r l c.take) l.rest)) (sym ins)
          (subst (λ u. Q (inputs_named ts r.task) u (list_all (λ (c : Choice). fallback_fits us r l c.take) l.rest)) (sym outs)
          (subst (Q (inputs_named ts r.task) (outputs_named ts r.task)) (sym (defaults_same ins l l.rest)) h))

  -- ---- all kinds

  pub kind_moved : (at at' : List PlaceStep) (t : Task) → Hold (kind_checks ts at t) → Hold (kind_checks us at' t)
  kind_moved at at' (tasks.Elementary e) h =
      let ins : List Check = each (port_checks []) (to_key at KIn) e.ins in
      let outs : List Check = each (output_checks e) (to_key at KOut) e.outs in
      let parts = hold-parts ins outs h in
      hold-both (each (port_checks []) (to_key at' KIn) e.ins) (each (output_checks e) (to_key at' KOut) e.outs)
      (each-moved (port_checks []) (port_checks []) (to_key at KIn) (to_key at' KIn) 0 0 [] e.ins (λ p q before x a k. k) parts.0)
      (each-moved (output_checks e) (output_checks e) (to_key at KOut) (to_key at' KOut) 0 0 [] e.outs (λ p q before x a k. k) parts.1)
  kind_moved at at' (tasks.Compound c) h = compound_moved at at' c h
  kind_moved at at' (tasks.Repeated r) h = repeated_moved at at' r h
