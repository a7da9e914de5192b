-- What feeds the ends in a compound whose parts are fused.
use Rattle.std.proofs.Common.{◌≡◌, ℕ, ◌+◌, ◌≤◌, Bool, true, false, cond, ◌&&◌, ◌||◌, ◌==◌, nat_le, List, [], ◌∷◌, ◌++◌, length, map, Option, Some, None, is_some, option_map, unwrap_or, sym, ◌∙◌, ap, refl, arith}
use Rattle.std.specs.List.{IsAmong, list_all, count_by}
use Rattle.std.proofs.lemmas.Bool.{eqb-true}
use Rattle.aol_shape.specs.Lists.{same}
use Rattle.aol_expr_tree.specs.declared.port.Port.{Port}
use Rattle.aol_model_types.specs.declared.job.FuseArgs.{FuseArgs}
use Rattle.aol_model_types.specs.declared.place.Key.TheVariants.{KParts, KLinks, KReshapes}
use Rattle.aol_model_types.specs.declared.place.PlaceStep.{PlaceStep}
use Rattle.aol_model_types.specs.declared.task.Compound.{Compound}
use Rattle.aol_model_types.specs.declared.task.Copied.{Copied}
use Rattle.aol_model_types.specs.declared.task.Hook.{Hook}
use Rattle.aol_model_types.specs.declared.task.Part.{Part}
use Rattle.aol_model_types.specs.declared.task.Plain.{Plain}
use Rattle.aol_model_types.specs.declared.task.Repeated.{Repeated}
use Rattle.aol_model_types.specs.declared.task.Task.{Task}
use Rattle.aol_model_types.specs.declared.task.Task.TheVariants as tasks
use Rattle.aol_model_types.specs.Places.{to_key}
use Rattle.aol_model_types.specs.Rules.{task_named, inputs_of, inputs_named, port_shape, part_named, same_part, same_hook, same_shapes, from_shape, to_shape, is_fed, part_is_fed, plain_checks, copied_checks, gives, takes, meets_part, joins_equal}
use Rattle.aol_flat.proofs.Checked.{HoldsOfCompound, member, fed_checks, named_port}
use Rattle.aol_flat.proofs.Find.{and_then_some}
use Rattle.aol_flat.proofs.Names.{both-true, same-self, same-equal}
use Rattle.aol_flat.proofs.Once.{all_at, counted, found_among, one_feeds}
use Rattle.aol_flat.proofs.Sites.{find-passes}
use Rattle.aol_flat.proofs.Truth.{both}
use Rattle.aol_change.specs.declared.tasks.Side.TheVariants.{Inputs}
use Rattle.aol_fusion_parts.specs.Changed.{changed_from, moved_to, second_to, changed_to, changed_link, changed_reshape, plain_to, copied_to}
use Rattle.aol_fusion_parts.specs.Joined.{is_end_of, is_joint, is_joined, task_of_part}
use Rattle.aol_fusion_parts.specs.Ports.{name_among}
use Rattle.aol_fusion_laws.proofs.Wired.{count_map, there_any}
use Rattle.aol_paving.proofs.Members.{any_there}
use Rattle.aol_fusion_rules.proofs.Ends.{IsFusion, new, unjoined, goes, end_is, first_shape, second_shape}
use Rattle.aol_fusion_rules.proofs.Flat.{count_one, count_pair, count_flat, two_counted}
use Rattle.aol_fusion_rules.proofs.NewNumbers.{same_among, apart_among, unjoined_shape, other_name}

-- ---- shapes

pub both_shapes : (a b : Option (List ℕ)) → same_shapes a b ≡ true → (s : List ℕ) × (a ≡ Some s) × (b ≡ Some s)
both_shapes None b h = cc
both_shapes (Some s) None h = cc
both_shapes (Some s) (Some t) h = (s, refl, ap (λ x. Some x) (sym (same-equal s t h)))

pub some_shape : (a : Option (List ℕ)) → is_some a ≡ true → (s : List ℕ) × (a ≡ Some s)
some_shape None h = cc
some_shape (Some s) h = (s, refl)

-- where a plain link leads, no reshape does
none_beside : (n r : ℕ) → ((n == 1 && r == 0) || (n == 0 && nat_le 1 r)) ≡ true → 1 ≤ n → r ≡ 0
none_beside n r h k = go (n == 1) refl (n == 0) refl (r == 0) refl h
  where
    go : (a : Bool) → (n == 1) ≡ a → (b : Bool) → (n == 0) ≡ b → (d : Bool) → (r == 0) ≡ d → ((a && d) || (b && nat_le 1 r)) ≡ true → r ≡ 0
    go true e b f true g l = eqb-true r 0 g
    go a e true f d g l = let none : n ≡ 0 = eqb-true n 0 f in absurd (omega (arith, none, k))
    go true e false f false g l = cc
    go false e false f d g l = cc

module _ (ts us : List Task) (args : FuseArgs) (c : Compound) (one two : Repeated) (whole : List ℕ) (j : IsFusion ts us args c one two whole) (place : List PlaceStep) (holds : HoldsOfCompound ts place c) where
  abbrev free : List Port
  free = unjoined ts us args c one two whole j

  abbrev gone : Bool
  gone = goes ts us args c one two whole j

  abbrev made : Compound
  made = new ts us args c one two whole j

  abbrev hook : List ℕ → List ℕ → Hook
  hook part port = record { part = Some part; port = port }

  -- ---- the old ends

  -- an input of a part is fed
  pub part_fed : (part : List ℕ) (t : Task) (p : Port) → task_of_part ts c part ≡ Some t → IsAmong (inputs_of t) p → is_fed c (hook part p.name) ≡ true
  part_fed part t p h a =
      let q = and_then_some (λ (q : Part). task_named ts q.task) (part_named c part) t h in
      let r = member (fed_checks ts c) (to_key place KParts) c.parts q.0 holds.fed (found_among (λ (x : Part). same x.name part) c.parts q.0 q.1) in
      let fed : part_is_fed ts c q.0 ≡ true = (both-true (part_is_fed ts c q.0) true r.holds).0 in
      let named : q.0.name ≡ part = same-equal q.0.name part (find-passes (λ (x : Part). same x.name part) c.parts q.0 q.1) in
      let ins : inputs_named ts q.0.task ≡ inputs_of t = ap (λ (o : Option Task). unwrap_or (option_map inputs_of o) []) q.2 in
      ap (λ n. is_fed c (hook n p.name)) (sym named)
      ∙ all_at (λ (u : Port). is_fed c (hook q.0.name u.name)) (inputs_of t) p (ap (list_all (λ (u : Port). is_fed c (hook q.0.name u.name))) (sym ins) ∙ fed) a

  -- the ends of a link have one shape
  pub link_shapes : (l : Plain) → IsAmong c.links l → (s : List ℕ) × (from_shape ts c l.from ≡ Some s) × (to_shape ts c l.to ≡ Some s)
  link_shapes l a =
      let r = member (plain_checks ts c) (to_key place KLinks) c.links l holds.links a in
      let h1 = both-true (gives ts c l.from) _ r.holds in
      let h2 = both-true (takes ts c l.to) _ h1.1 in
      let h3 = both-true (meets_part l) _ h2.1 in
      let h4 = both-true (joins_equal ts c l) _ h3.1 in
      both_shapes (from_shape ts c l.from) (to_shape ts c l.to) h4.0

  pub reshape_shapes : (r : Copied) → IsAmong c.reshapes r → ((s : List ℕ) × (from_shape ts c r.from ≡ Some s)) × ((t : List ℕ) × (to_shape ts c r.to ≡ Some t))
  reshape_shapes r a =
      let k = member (copied_checks ts c) (to_key place KReshapes) c.reshapes r holds.reshapes a in
      let h1 = both-true (gives ts c r.from) _ k.holds in
      let h2 = both-true (takes ts c r.to) _ h1.1 in
      (some_shape (from_shape ts c r.from) h1.0, some_shape (to_shape ts c r.to) h2.0)

  -- a plain link to a joined port
  joint_there : (n : List ℕ) → is_joined args c n ≡ true → (l : Plain) × IsAmong c.links l × (is_joint args l ≡ true) × (same_hook l.to (hook args.second n) ≡ true)
  joint_there n h =
      let k = any_there (λ (l : Plain). is_joint args l && same l.to.port n) c.links h in
      let parts = both-true (is_joint args k.0) (same k.0.to.port n) k.2 in
      let ends = both-true (is_end_of args.first k.0.from) (is_end_of args.second k.0.to) parts.0 in
      (k.0, k.1, parts.0, both (is_end_of args.second k.0.to) (same k.0.to.port n) ends.1 parts.1)

  to_hook : (h : Hook) → is_end_of args.second h ≡ true → same_hook h (hook args.second h.port) ≡ true
  to_hook h e = both (is_end_of args.second h) (same h.port h.port) e (same-self h.port)

  second_fed : (h : Hook) (s : List ℕ) → to_shape ts c h ≡ Some s → is_end_of args.second h ≡ true → is_fed c (hook args.second h.port) ≡ true
  second_fed h s k e =
      let p = named_port two.ins h.port (ap is_some (second_shape ts us args c one two whole j h s k e)) in
      ap (λ n. is_fed c (hook args.second n)) (sym p.2) ∙ part_fed args.second (tasks.Repeated two) p.0 j.second p.1

  -- another link to the second part isn't at a joined port
  pub link_apart : (l : Plain) → IsAmong c.links l → is_joint args l ≡ false → is_end_of args.second l.to ≡ true → is_joined args c l.to.port ≡ false
  link_apart l a plain e = go (is_joined args c l.to.port) refl
    where
      go : (b : Bool) → is_joined args c l.to.port ≡ b → is_joined args c l.to.port ≡ false
      go false f = f
      go true f =
          let k = joint_there l.to.port f in
          let s = link_shapes l a in
          let fed = second_fed l.to s.0 s.2 e in
          let h : Hook = hook args.second l.to.port in
          let many : 2 ≤ count_by (λ (x : Plain). same_hook x.to h) c.links = two_counted (λ (x : Plain). same_hook x.to h) (is_joint args) c.links k.0 l k.1 a k.3 (to_hook l.to e) k.2 plain in
          let single : count_by (λ (x : Plain). same_hook x.to h) c.links ≡ 1 = one_feeds (count_by (λ (x : Plain). same_hook x.to h) c.links) (count_by (λ (x : Copied). same_hook x.to h) c.reshapes) fed (omega (arith, many)) in
          absurd (omega (arith, many, single))

  -- no reshape to it is
  pub reshape_apart : (r : Copied) → IsAmong c.reshapes r → is_end_of args.second r.to ≡ true → is_joined args c r.to.port ≡ false
  reshape_apart r a e = go (is_joined args c r.to.port) refl
    where
      go : (b : Bool) → is_joined args c r.to.port ≡ b → is_joined args c r.to.port ≡ false
      go false f = f
      go true f =
          let k = joint_there r.to.port f in
          let s = reshape_shapes r a in
          let fed = second_fed r.to s.1.0 s.1.1 e in
          let h : Hook = hook args.second r.to.port in
          let some : 1 ≤ count_by (λ (x : Plain). same_hook x.to h) c.links = counted (λ (x : Plain). same_hook x.to h) c.links k.0 k.1 k.3 in
          let here : 1 ≤ count_by (λ (x : Copied). same_hook x.to h) c.reshapes = counted (λ (x : Copied). same_hook x.to h) c.reshapes r a (to_hook r.to e) in
          let none : count_by (λ (x : Copied). same_hook x.to h) c.reshapes ≡ 0 = none_beside (count_by (λ (x : Plain). same_hook x.to h) c.links) (count_by (λ (x : Copied). same_hook x.to h) c.reshapes) fed some in
          absurd (omega (arith, here, none))

  -- ---- the new ends

  -- an end that some link may lead to
  pub record IsValid (h : Hook) : Type 0 where
    pub shape : List ℕ
    pub known : to_shape ts c h ≡ Some shape
    pub free_of : is_end_of args.second h ≡ true → is_joined args c h.port ≡ false

  pub link_valid : (l : Plain) → IsAmong c.links l → is_joint args l ≡ false → IsValid l.to
  link_valid l a plain = let s = link_shapes l a in record { shape = s.0; known = s.2; free_of = link_apart l a plain }

  pub reshape_valid : (r : Copied) → IsAmong c.reshapes r → IsValid r.to
  reshape_valid r a = let s = (reshape_shapes r a).1 in record { shape = s.0; known = s.1; free_of = reshape_apart r a }

  -- the links to a new end are those to an old one
  pub record IsTarget (now before : Hook) : Type 0 where
    pub ends : (h : Hook) → IsValid h → count_by (λ (e : Hook). same_hook e now) (changed_to args one free gone h) ≡ cond (same_hook h before) 1 0
    pub apart : (l : Plain) → is_joint args l ≡ true → IsAmong c.links l → same_hook l.to before ≡ false

  -- so it is fed where the old one is
  pub fed_so : (now before : Hook) → IsTarget now before → is_fed made now ≡ is_fed c before
  fed_so now before t =
      let links : count_by (λ (l : Plain). same_hook l.to now) made.links ≡ count_by (λ (l : Plain). same_hook l.to before) c.links =
      count_flat (changed_link args one two free gone) (λ (l : Plain). same_hook l.to before) (λ (l : Plain). same_hook l.to now) c.links (λ l a. by_joint l a (is_joint args l) refl) in
      let reshapes : count_by (λ (r : Copied). same_hook r.to now) made.reshapes ≡ count_by (λ (r : Copied). same_hook r.to before) c.reshapes =
      count_flat (changed_reshape args one two free gone) (λ (r : Copied). same_hook r.to before) (λ (r : Copied). same_hook r.to now) c.reshapes
      (λ r a.
      count_map (copied_to (changed_from args two r.from) r.by) (λ (x : Copied). same_hook x.to now) (changed_to args one free gone r.to)
      ∙ t.ends r.to (reshape_valid r a)) in
      ap (λ n. (n == 1 && count_by (λ (r : Copied). same_hook r.to now) made.reshapes == 0) || (n == 0 && nat_le 1 (count_by (λ (r : Copied). same_hook r.to now) made.reshapes))) links
      ∙ ap (λ n. (count_by (λ (l : Plain). same_hook l.to before) c.links == 1 && n == 0) || (count_by (λ (l : Plain). same_hook l.to before) c.links == 0 && nat_le 1 n)) reshapes
    where
      by_joint : (l : Plain) → IsAmong c.links l → (b : Bool) → is_joint args l ≡ b
          → count_by (λ (k : Plain). same_hook k.to now) (cond b [] (map (plain_to (changed_from args two l.from)) (changed_to args one free gone l.to))) ≡ cond (same_hook l.to before) 1 0
      by_joint l a true e = ap (λ b. cond b 1 0) (sym (t.apart l e a))
      by_joint l a false e =
          count_map (plain_to (changed_from args two l.from)) (λ (x : Plain). same_hook x.to now) (changed_to args one free gone l.to) ∙ t.ends l.to (link_valid l a e)

  -- how many of the new ends in place of one pass
  ends_counted : (test : Hook → Bool) (h : Hook) → count_by test (changed_to args one free gone h)
      ≡ cond (is_end_of args.first h) (cond gone 0 (cond (test h) 1 0) + cond (test (second_to args one h)) 1 0) (cond (test (moved_to args one free h)) 1 0)
  ends_counted test h = go (is_end_of args.first h) gone
    where
      go : (b g : Bool) → count_by test (cond b (cond g [] (h ∷ []) ++ second_to args one h ∷ []) (moved_to args one free h ∷ []))
          ≡ cond b (cond g 0 (cond (test h) 1 0) + cond (test (second_to args one h)) 1 0) (cond (test (moved_to args one free h)) 1 0)
      go true true = let n = count_one test (second_to args one h) in omega (arith, n)
      go true false = count_pair test h (second_to args one h)
      go false g = count_one test (moved_to args one free h)

  -- at the first part
  first_counted : (test : Hook → Bool) (h : Hook) → is_end_of args.first h ≡ true → count_by test (changed_to args one free gone h) ≡ cond gone 0 (cond (test h) 1 0) + cond (test (second_to args one h)) 1 0
  first_counted test h e = ends_counted test h ∙ ap (λ b. cond b (cond gone 0 (cond (test h) 1 0) + cond (test (second_to args one h)) 1 0) (cond (test (moved_to args one free h)) 1 0)) e

  -- elsewhere
  other_counted : (test : Hook → Bool) (h : Hook) → is_end_of args.first h ≡ false → count_by test (changed_to args one free gone h) ≡ cond (test (moved_to args one free h)) 1 0
  other_counted test h e = ends_counted test h ∙ ap (λ b. cond b (cond gone 0 (cond (test h) 1 0) + cond (test (second_to args one h)) 1 0) (cond (test (moved_to args one free h)) 1 0)) e

  moved_second : (h : Hook) → is_end_of args.second h ≡ true → moved_to args one free h ≡ record { part = h.part; port = name_among Inputs (length one.ins) free h.port }
  moved_second h e = ap (λ b. cond b (record { part = h.part; port = name_among Inputs (length one.ins) free h.port }) h) e

  moved_other : (h : Hook) → is_end_of args.second h ≡ false → moved_to args one free h ≡ h
  moved_other h e = ap (λ b. cond b (record { part = h.part; port = name_among Inputs (length one.ins) free h.port }) h) e

  -- an end at another part
  part_differs : (h : Hook) (part : List ℕ) (to : Hook) → is_end_of part h ≡ true → same_part (Some part) to.part ≡ false → same_hook h to ≡ false
  part_differs h part to e f = ap (λ o. same_part o to.part && same h.port to.port) (end_is h.part part e) ∙ ap (λ b. b && same h.port to.port) f

  not_at : (h : Hook) (part port : List ℕ) → is_end_of part h ≡ false → same_hook h (hook part port) ≡ false
  not_at h part port e = ap (λ b. b && same h.port port) e

  zero_either : (g b : Bool) → b ≡ false → ◌≡◌ {A = ℕ} (cond g 0 (cond b 1 0)) 0
  zero_either true b e = refl
  zero_either false b e = ap (λ x. cond x 1 0) e

  none : (b : Bool) → b ≡ false → ◌≡◌ {A = ℕ} (cond b 1 0) 0
  none b e = ap (λ x. cond x 1 0) e

  bit : (a b : Bool) → a ≡ b → ◌≡◌ {A = ℕ} (cond a 1 0) (cond b 1 0)
  bit a b e = ap (λ x. cond x 1 0) e

  -- ---- an end that is as it was: an own one, one at another part, or one at the first part where that stays

  pub kept_target : (to : Hook) → same_part (Some args.second) to.part ≡ false → (gone ≡ true → same_part (Some args.first) to.part ≡ false) → IsTarget to to
  kept_target to apart stays = record { ends = λ h v. by_first h (is_end_of args.first h) refl; apart = λ l e a. part_differs l.to args.second to (both-true (is_end_of args.first l.from) (is_end_of args.second l.to) e).1 apart }
    where
      test : Hook → Bool
      test e = same_hook e to

      stayed : (h : Hook) (g : Bool) → gone ≡ g → is_end_of args.first h ≡ true → ◌≡◌ {A = ℕ} (cond g 0 (cond (test h) 1 0)) (cond (test h) 1 0)
      stayed h true e f = sym (none (test h) (part_differs h args.first to f (stays e)))
      stayed h false e f = refl

      by_second : (h : Hook) (b : Bool) → is_end_of args.second h ≡ b → ◌≡◌ {A = ℕ} (cond (test (moved_to args one free h)) 1 0) (cond (test h) 1 0)
      by_second h false e = bit (test (moved_to args one free h)) (test h) (ap test (moved_other h e))
      by_second h true e =
          let moved : test (moved_to args one free h) ≡ false =
          ap test (moved_second h e) ∙ part_differs (record { part = h.part; port = name_among Inputs (length one.ins) free h.port }) args.second to e apart in
          bit (test (moved_to args one free h)) (test h) (moved ∙ sym (part_differs h args.second to e apart))

      by_first : (h : Hook) (b : Bool) → is_end_of args.first h ≡ b → count_by test (changed_to args one free gone h) ≡ cond (test h) 1 0
      by_first h false e = other_counted test h e ∙ by_second h (is_end_of args.second h) refl
      by_first h true e =
          let other : test (second_to args one h) ≡ false = ap (λ b. b && same (name_among Inputs 0 one.ins h.port) to.port) apart in
          omega (arith, first_counted test h e, stayed h gone refl e, none (test (second_to args one h)) other)

  -- ---- the fused repetition's ports

  second_apart : same args.second args.first ≡ false
  second_apart = other_name args.first args.second j.apart

  -- for an input of the first part
  pub first_target : (x s : List ℕ) → port_shape one.ins x ≡ Some s → IsTarget (hook args.second (name_among Inputs 0 one.ins x)) (hook args.first x)
  first_target x s known = record { ends = λ h v. by_first h v (is_end_of args.first h) refl; apart = λ l e a. part_differs l.to args.second before (both-true (is_end_of args.first l.from) (is_end_of args.second l.to) e).1 second_apart }
    where
      now : Hook
      now = hook args.second (name_among Inputs 0 one.ins x)

      before : Hook
      before = hook args.first x

      test : Hook → Bool
      test e = same_hook e now

      by_second : (h : Hook) → IsValid h → (b : Bool) → is_end_of args.second h ≡ b → test (moved_to args one free h) ≡ false
      by_second h v false e = ap test (moved_other h e) ∙ not_at h args.second (name_among Inputs 0 one.ins x) e
      by_second h v true e =
          let y : port_shape two.ins h.port ≡ Some v.shape = second_shape ts us args c one two whole j h v.shape v.known e in
          let z : port_shape free h.port ≡ Some v.shape = unjoined_shape args c two.ins h.port v.shape y (v.free_of e) in
          let names : same (name_among Inputs (length one.ins) free h.port) (name_among Inputs 0 one.ins x) ≡ false =
          other_name (name_among Inputs 0 one.ins x) (name_among Inputs (length one.ins) free h.port) (apart_among one.ins free x h.port s v.shape j.few_ins known z) in
          ap test (moved_second h e) ∙ (ap (λ b. same_part h.part (Some args.second) && b) names ∙ and_false (same_part h.part (Some args.second)))
        where
          and_false : (b : Bool) → (b && false) ≡ false
          and_false true = refl
          and_false false = refl

      by_first : (h : Hook) → IsValid h → (b : Bool) → is_end_of args.first h ≡ b → count_by test (changed_to args one free gone h) ≡ cond (same_hook h before) 1 0
      by_first h v false e = other_counted test h e ∙ bit (test (moved_to args one free h)) (same_hook h before) (by_second h v (is_end_of args.second h) refl ∙ sym (not_at h args.first x e))
      by_first h v true e =
          let here : test h ≡ false = part_differs h args.first now e j.apart in
          let there : test (second_to args one h) ≡ same_hook h before =
          ap (λ b. b && same (name_among Inputs 0 one.ins h.port) (name_among Inputs 0 one.ins x)) (same-self args.second)
          ∙ (same_among Inputs 0 one.ins h.port x v.shape s (let few = j.few_ins in omega (arith, few)) (first_shape ts us args c one two whole j h v.shape v.known e) known ∙ ap (λ b. b && same h.port x) (sym e)) in
          omega (arith, first_counted test h e, zero_either gone (test h) here, bit (test (second_to args one h)) (same_hook h before) there)

  -- for an input of the second part that isn't joined
  pub second_target : (x s : List ℕ) → port_shape free x ≡ Some s → is_joined args c x ≡ false → IsTarget (hook args.second (name_among Inputs (length one.ins) free x)) (hook args.second x)
  second_target x s known unjoined_of = record { ends = λ h v. by_first h v (is_end_of args.first h) refl; apart = λ l e a. by_joint l e a (same_hook l.to before) refl }
    where
      now : Hook
      now = hook args.second (name_among Inputs (length one.ins) free x)

      before : Hook
      before = hook args.second x

      test : Hook → Bool
      test e = same_hook e now

      -- a link that joins the parts leads to a joined port
      by_joint : (l : Plain) → is_joint args l ≡ true → IsAmong c.links l → (b : Bool) → same_hook l.to before ≡ b → same_hook l.to before ≡ false
      by_joint l e a false f = f
      by_joint l e a true f =
          let port : same l.to.port x ≡ true = (both-true (same_part l.to.part (Some args.second)) (same l.to.port x) f).1 in
          let joined : is_joined args c x ≡ true = there_any (λ (k : Plain). is_joint args k && same k.to.port x) c.links l a (both (is_joint args l) (same l.to.port x) e port) in
          let clash : true ≡ false = sym joined ∙ unjoined_of in
          absurd (cc)

      by_second : (h : Hook) → IsValid h → (b : Bool) → is_end_of args.second h ≡ b → test (moved_to args one free h) ≡ same_hook h before
      by_second h v false e = ap test (moved_other h e) ∙ (not_at h args.second (name_among Inputs (length one.ins) free x) e ∙ sym (not_at h args.second x e))
      by_second h v true e =
          let y : port_shape two.ins h.port ≡ Some v.shape = second_shape ts us args c one two whole j h v.shape v.known e in
          let z : port_shape free h.port ≡ Some v.shape = unjoined_shape args c two.ins h.port v.shape y (v.free_of e) in
          ap test (moved_second h e) ∙ ap (λ b. same_part h.part (Some args.second) && b) (same_among Inputs (length one.ins) free h.port x v.shape s j.few_ins z known)

      by_first : (h : Hook) → IsValid h → (b : Bool) → is_end_of args.first h ≡ b → count_by test (changed_to args one free gone h) ≡ cond (same_hook h before) 1 0
      by_first h v false e = other_counted test h e ∙ bit (test (moved_to args one free h)) (same_hook h before) (by_second h v (is_end_of args.second h) refl)
      by_first h v true e =
          let here : test h ≡ false = part_differs h args.first now e j.apart in
          let was : same_hook h before ≡ false = part_differs h args.first before e j.apart in
          let names : same (name_among Inputs 0 one.ins h.port) (name_among Inputs (length one.ins) free x) ≡ false =
          apart_among one.ins free h.port x v.shape s j.few_ins (first_shape ts us args c one two whole j h v.shape v.known e) known in
          let there : test (second_to args one h) ≡ false =
          ap (λ b. b && same (name_among Inputs 0 one.ins h.port) (name_among Inputs (length one.ins) free x)) (same-self args.second) ∙ names in
          omega (arith, first_counted test h e, zero_either gone (test h) here, none (test (second_to args one h)) there, none (same_hook h before) was)
