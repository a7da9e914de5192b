-- Where the rules hold, each port of a compound has the one link that is looked up there.
use Rattle.std.proofs.Common.{◌≡◌, ℕ, Bool, true, false, ◌&&◌, ◌==◌, List, ◌∷◌, ◌++◌, Option, Some, None, is_some, is_none, find, slice_get, sym, ◌∙◌, ap, refl}
use Rattle.std.specs.Prelude.{option_and_then}
use Rattle.std.specs.List.{IsAmong, list_any, list_all, count_by}
use Rattle.std.proofs.lemmas.Bool.{eqb-true, eq-eqb}
use Rattle.std.proofs.lemmas.List.Folds.{find_at}
use Rattle.aol_shape.specs.Lists.{same}
use Rattle.aol_expr_tree.specs.declared.port.Port.{Port}
use Rattle.aol_model_types.specs.declared.place.Key.TheVariants.{KParts, KLinks}
use Rattle.aol_model_types.specs.declared.place.PlaceStep.{PlaceStep}
use Rattle.aol_model_types.specs.declared.task.Compound.{Compound}
use Rattle.aol_model_types.specs.declared.task.Copied.{Copied}
use Rattle.aol_model_types.specs.declared.task.Hook.{Hook}
use Rattle.aol_model_types.specs.declared.task.Part.{Part}
use Rattle.aol_model_types.specs.declared.task.Plain.{Plain}
use Rattle.aol_model_types.specs.declared.task.Task.{Task}
use Rattle.aol_model_types.specs.Places.{to_key}
use Rattle.aol_model_types.specs.Rules.{plain_checks, from_shape, to_shape, part_named, inputs_named, outputs_named, port_shape, meets_part, hands_up, hands_up_once, same_hook, same_part, is_fed, joins_equal, gives, takes}
use Rattle.aol_flat.specs.Tasks.{part_number}
use Rattle.aol_flat.specs.Home.{is_part_end, link_into_part, link_up}
use Rattle.aol_flat.proofs.Checked.{member, fed_checks, HoldsOfCompound, named_port}
use Rattle.aol_flat.proofs.Find.{and_then_some}
use Rattle.aol_flat.proofs.Names.{both-true, same-self, same-equal}
use Rattle.aol_flat.proofs.Once.{there, all_at, found_among, found_first, same_found, counted, found_only, one_feeds}
use Rattle.aol_flat.proofs.Sites.{find-passes}
use Rattle.aol_flat.proofs.Truth.{both, not_both, moved_in, same_any}

-- ---- ends in a compound

-- what an end at a part takes is an input of that part's task
pub taken_by_part : (ts : List Task) (c : Compound) (h : Hook) (part : List ℕ) → h.part ≡ Some part → is_some (to_shape ts c h) ≡ true
    → (p : Part) × (part_named c part ≡ Some p) × (is_some (port_shape (inputs_named ts p.task) h.port) ≡ true)
taken_by_part ts c h part e some =
    let shape : to_shape ts c h ≡ option_and_then (λ (p : Part). port_shape (inputs_named ts p.task) h.port) (part_named c part) = ap (λ o. to_shape ts c (record { part = o; port = h.port })) e in
    let s = there (to_shape ts c h) some in
    let found = and_then_some (λ (p : Part). port_shape (inputs_named ts p.task) h.port) (part_named c part) s.0 (sym shape ∙ s.1) in
    (found.0, found.1, ap is_some found.2)

-- what an end at a part gives is an output of that part's task
pub given_by_part : (ts : List Task) (c : Compound) (h : Hook) (part : List ℕ) → h.part ≡ Some part → is_some (from_shape ts c h) ≡ true
    → (p : Part) × (part_named c part ≡ Some p) × (is_some (port_shape (outputs_named ts p.task) h.port) ≡ true)
given_by_part ts c h part e some =
    let shape : from_shape ts c h ≡ option_and_then (λ (p : Part). port_shape (outputs_named ts p.task) h.port) (part_named c part) = ap (λ o. from_shape ts c (record { part = o; port = h.port })) e in
    let s = there (from_shape ts c h) some in
    let found = and_then_some (λ (p : Part). port_shape (outputs_named ts p.task) h.port) (part_named c part) s.0 (sym shape ∙ s.1) in
    (found.0, found.1, ap is_some found.2)

-- the part of a name stands at its number
pub part_at : (c : Compound) (name : List ℕ) (p : Part) → part_named c name ≡ Some p → slice_get c.parts (part_number c name) ≡ Some p
part_at c name p h = sym (find_at (λ (q : Part). same q.name name) c.parts) ∙ h

pub part_name : (c : Compound) (name : List ℕ) (p : Part) → part_named c name ≡ Some p → p.name ≡ name
part_name c name p h = same-equal p.name name (find-passes (λ (q : Part). same q.name name) c.parts p h)

-- names of one number are one name, where there is such a part
numbers_agree : (c : Compound) (part : List ℕ) (p : Part) → part_named c part ≡ Some p → (name : List ℕ) → (part_number c name == part_number c part) ≡ same name part
numbers_agree c part p h name = go (part_number c name == part_number c part) refl (same name part) refl
  where
    go : (a : Bool) → (part_number c name == part_number c part) ≡ a → (b : Bool) → same name part ≡ b → (part_number c name == part_number c part) ≡ same name part
    go true e true f = e ∙ sym f
    go false e false f = e ∙ sym f
    go true e false f =
        let found : part_named c name ≡ Some p = find_at (λ (q : Part). same q.name name) c.parts ∙ (ap (slice_get c.parts) (eqb-true (part_number c name) (part_number c part) e) ∙ part_at c part p h) in
        let names : name ≡ part = sym (part_name c name p found) ∙ part_name c part p h in
        let yes_same : same name part ≡ true = ap (λ n. same n part) names ∙ same-self part in
        e ∙ sym yes_same
    go false e true f =
        let names : name ≡ part = same-equal name part f in
        let equal : (part_number c name == part_number c part) ≡ true = eq-eqb (part_number c name) (part_number c part) (ap (part_number c) names) in
        equal ∙ sym f

-- an end at the part with a number is an end at the part of the name
pub end_agrees : (c : Compound) (part : List ℕ) (p : Part) → part_named c part ≡ Some p → (port : List ℕ) (h : Hook)
    → is_part_end c (part_number c part) port h ≡ same_hook h (record { part = Some part; port = port })
end_agrees c part p found port h = go h.part refl
  where
    go : (o : Option (List ℕ)) → h.part ≡ o → is_part_end c (part_number c part) port h ≡ same_hook h (record { part = Some part; port = port })
    go None e =
        ap (λ o. is_part_end c (part_number c part) port (record { part = o; port = h.port })) e
        ∙ sym (ap (λ o. same_hook (record { part = o; port = h.port }) (record { part = Some part; port = port })) e)
    go (Some name) e =
        ap (λ o. is_part_end c (part_number c part) port (record { part = o; port = h.port })) e
        ∙ (ap (λ b. b && same h.port port) (numbers_agree c part p found name)
        ∙ sym (ap (λ o. same_hook (record { part = o; port = h.port }) (record { part = Some part; port = port })) e))

-- ---- plain links

-- what the rules say of a plain link
pub record IsLinked (ts : List Task) (c : Compound) (l : Plain) : Type 0 where
  pub gives : is_some (from_shape ts c l.from) ≡ true
  pub takes : is_some (to_shape ts c l.to) ≡ true
  pub meets : meets_part l ≡ true
  pub equal : joins_equal ts c l ≡ true
  pub before : List Plain
  pub rest : List Plain
  pub split : c.links ≡ before ++ l ∷ rest
  pub once : hands_up_once before l ≡ true

pub linked : (ts : List Task) (place : List PlaceStep) (c : Compound) (l : Plain) → HoldsOfCompound ts place c → IsAmong c.links l → IsLinked ts c l
linked ts place c l holds listed =
    let r = member (plain_checks ts c) (to_key place KLinks) c.links l holds.links listed in
    let h6 = both-true (gives ts c l.from) _ r.holds in
    let h7 = both-true (takes ts c l.to) _ h6.1 in
    let h8 = both-true (meets_part l) _ h7.1 in
    let h9 = both-true (joins_equal ts c l) _ h8.1 in
    let h10 = both-true (hands_up_once r.before l) true h9.1 in
    record { gives = h6.0; takes = h7.0; meets = h8.0; equal = h9.0; before = r.before; rest = r.rest; split = r.split; once = h10.0 }

-- the link into a part's input is the only one
pub only_link_in : (ts : List Task) (place : List PlaceStep) (c : Compound) (l : Plain) (part : List ℕ) → HoldsOfCompound ts place c → IsAmong c.links l → l.to.part ≡ Some part
    → link_into_part c (part_number c part) l.to.port ≡ Some l
only_link_in ts place c l part holds listed e =
    let rules = linked ts place c l holds listed in
    let p = taken_by_part ts c l.to part e rules.takes in
    let u = named_port (inputs_named ts p.0.task) l.to.port p.2 in
    let of_part = member (fed_checks ts c) (to_key place KParts) c.parts p.0 holds.fed (found_among (λ (q : Part). same q.name part) c.parts p.0 p.1) in
    let fed_all = (both-true (list_all (λ (v : Port). is_fed c (record { part = Some p.0.name; port = v.name })) (inputs_named ts p.0.task)) true of_part.holds).0 in
    let fed_there : is_fed c (record { part = Some p.0.name; port = u.0.name }) ≡ true =
    all_at (λ (v : Port). is_fed c (record { part = Some p.0.name; port = v.name })) (inputs_named ts p.0.task) u.0 fed_all u.1 in
    let end : Hook = record { part = Some part; port = l.to.port } in
    let same_end : ◌≡◌ {A = Hook} (record { part = Some p.0.name; port = u.0.name }) end =
    ap (λ (n : List ℕ). record { part = Some n; port = u.0.name }) (part_name c part p.0 p.1) ∙ ap (λ (n : List ℕ). record { part = Some part; port = n }) u.2 in
    let fed : is_fed c end ≡ true = sym (ap (is_fed c) same_end) ∙ fed_there in
    let passes : same_hook l.to end ≡ true =
    ap (λ o. same_part o (Some part) && same l.to.port l.to.port) e ∙ both (same part part) (same l.to.port l.to.port) (same-self part) (same-self l.to.port) in
    let once : count_by (λ (k : Plain). same_hook k.to end) c.links ≡ 1 =
    one_feeds (count_by (λ (k : Plain). same_hook k.to end) c.links) (count_by (λ (k : Copied). same_hook k.to end) c.reshapes) fed
    (counted (λ (k : Plain). same_hook k.to end) c.links l listed passes) in
    same_found (λ (k : Plain). is_part_end c (part_number c part) l.to.port k.to) (λ (k : Plain). same_hook k.to end) c.links (λ k a. end_agrees c part p.0 p.1 l.to.port k.to)
    ∙ found_only (λ (k : Plain). same_hook k.to end) c.links l listed passes once

-- an end that is the same as one at a part is at a part
at_part : (h : Hook) (part port : List ℕ) → same_hook h (record { part = Some part; port = port }) ≡ true → is_some h.part ≡ true
at_part h part port s = go h.part refl
  where
    go : (o : Option (List ℕ)) → h.part ≡ o → is_some h.part ≡ true
    go None e = let k : false ≡ true = sym (ap (λ o. same_hook (record { part = o; port = h.port }) (record { part = Some part; port = port })) e) ∙ s in cc
    go (Some name) e = ap is_some e

-- the link that hands an output up is the first
pub only_link_up : (ts : List Task) (place : List PlaceStep) (c : Compound) (l : Plain) (part : List ℕ) → HoldsOfCompound ts place c → IsAmong c.links l → l.to.part ≡ None → l.from.part ≡ Some part
    → link_up c (part_number c part) l.from.port ≡ Some l
only_link_up ts place c l part holds listed own from =
    let rules = linked ts place c l holds listed in
    let p = given_by_part ts c l.from part from rules.gives in
    let end : Hook = record { part = Some part; port = l.from.port } in
    let same_end : l.from ≡ end = ap (λ (o : Option (List ℕ)). record { part = o; port = l.from.port }) from in
    let test : Plain → Bool = λ k. is_part_end c (part_number c part) l.from.port k.from && is_none k.to.part in
    let up : hands_up l ≡ true = both (is_some l.from.part) (is_none l.to.part) (ap is_some from) (ap is_none own) in
    let none : list_any (λ (k : Plain). hands_up k && same_hook k.from l.from) rules.before ≡ false =
    not_both (hands_up l) (list_any (λ (k : Plain). hands_up k && same_hook k.from l.from) rules.before) up rules.once in
    let tests : (k : Plain) → test k ≡ (hands_up k && same_hook k.from l.from) = λ k.
    ap (λ b. b && is_none k.to.part) (end_agrees c part p.0 p.1 l.from.port k.from)
    ∙ (moved_in (same_hook k.from end) (is_some k.from.part) (is_none k.to.part) (at_part k.from part l.from.port)
    ∙ ap (λ h. hands_up k && same_hook k.from h) (sym same_end)) in
    let passes : test l ≡ true =
    tests l ∙ both (hands_up l) (same_hook l.from l.from) up
    (ap (λ o. same_part o o && same l.from.port l.from.port) from ∙ both (same part part) (same l.from.port l.from.port) (same-self part) (same-self l.from.port)) in
    ap (find test) rules.split
    ∙ found_first test rules.before l rules.rest (same_any test (λ (k : Plain). hands_up k && same_hook k.from l.from) tests rules.before ∙ none) passes
