-- The compound of two fused parts keeps the rules.
use Rattle.std.proofs.Common.{◌≡◌, ℕ, Bool, true, false, cond, not, ◌&&◌, ◌||◌, List, [], ◌∷◌, ◌++◌, length, map, flat_map, Option, Some, None, is_some, is_none, option_map, unwrap_or, zero, suc, sym, ◌∙◌, ap, refl, arith, subst, ◌⊎◌, inl, inr}
use Rattle.std.specs.List.{IsAmong, list_all, list_any}
use Rattle.std.proofs.lemmas.List.{append-nil}
use Rattle.aol_shape.specs.Lists.{same}
use Rattle.aol_expr_tree.specs.declared.port.Port.{Port}
use Rattle.aol_model_types.specs.declared.job.FuseArgs.{FuseArgs}
use Rattle.aol_model_types.specs.declared.place.Key.TheVariants.{KIn, KOut, KParts, KLinks, KReshapes}
use Rattle.aol_model_types.specs.declared.place.PlaceStep.{PlaceStep}
use Rattle.aol_model_types.specs.declared.task.Compound.{Compound}
use Rattle.aol_model_types.specs.declared.task.Copied.{Copied}
use Rattle.aol_model_types.specs.declared.task.Hook.{Hook}
use Rattle.aol_model_types.specs.declared.task.Part.{Part}
use Rattle.aol_model_types.specs.declared.task.Plain.{Plain}
use Rattle.aol_model_types.specs.declared.task.Repeated.{Repeated}
use Rattle.aol_model_types.specs.declared.task.Task.{Task}
use Rattle.aol_model_types.specs.declared.task.Task.TheVariants as tasks
use Rattle.aol_model_types.specs.Places.{to_key}
use Rattle.aol_model_types.specs.Rules.{each, task_named, inputs_of, inputs_named, port_shape, same_part, same_hook, fits_in, from_shape, to_shape, is_fed, part_is_fed, output_is_fed, is_new_part, is_earlier_task, part_checks, plain_checks, copied_checks, port_checks, gives, takes, meets_part, joins_equal, hands_up, hands_up_once, source_fits, target_fits}
use Rattle.aol_flat.proofs.Among.{among_append}
use Rattle.aol_flat.proofs.Checked.{HoldsOfCompound, member, fed_checks, output_fed_checks}
use Rattle.aol_flat.proofs.Different.{Hold}
use Rattle.aol_flat.proofs.Inside.{among_left}
use Rattle.aol_flat.proofs.Names.{both-true, same-equal}
use Rattle.aol_flat.proofs.Once.{all_at, there}
use Rattle.aol_flat.proofs.Truth.{both}
use Rattle.aol_change.proofs.Checks.{each-moved}
use Rattle.aol_change.proofs.KindChecks.{hold-one}
use Rattle.aol_change.specs.declared.tasks.Side.TheVariants.{Inputs, Outputs}
use Rattle.aol_fusion_parts.specs.Changed.{changed_from, moved_to, second_to, changed_to, changed_link, changed_reshape, changed_part, plain_to, copied_to}
use Rattle.aol_fusion_parts.specs.Joined.{is_end_of, is_joint, is_joined}
use Rattle.aol_fusion_parts.specs.Ports.{renamed, name_among}
use Rattle.aol_fusion_laws.proofs.Fresh.{AreFresh, names_of, fresh_own, fewer_fresh}
use Rattle.aol_fusion_laws.proofs.Renamed.{renamed_both, renamed_member}
use Rattle.aol_fusion_laws.proofs.SameNames.{filter_among}
use Rattle.aol_fusion_laws.proofs.Wired.{among_split, split_at, any_map}
use Rattle.aol_fusion_laws.proofs.NewPair.{link_holds}
use Rattle.aol_fusion_rules.proofs.Ends.{IsFusion, put_part, new, unjoined, goes, end_is, output_shape, from_kept, to_first, to_second, to_moved}
use Rattle.aol_fusion_rules.proofs.Feeds.{part_fed, link_shapes, reshape_shapes, IsValid, link_valid, reshape_valid, IsTarget, fed_so, kept_target, first_target, second_target}
use Rattle.aol_fusion_rules.proofs.Flat.{only_one, not_one, any_flat, each_flat}
use Rattle.aol_fusion_rules.proofs.NewNumbers.{same_among, other_name}

module _ (ts us : List Task) (args : FuseArgs) (c : Compound) (one two : Repeated) (whole : List ℕ) (j : IsFusion ts us args c one two whole) (place : List PlaceStep) (holds : HoldsOfCompound ts place c) where
  abbrev free : List Port
  free = unjoined ts us args c one two whole j

  abbrev gone : Bool
  gone = goes ts us args c one two whole j

  abbrev made : Compound
  made = new ts us args c one two whole j

  abbrev put : Part → List Part
  put = changed_part args whole gone

  abbrev relink : Plain → List Plain
  relink = changed_link args one two free gone

  abbrev recopy : Copied → List Copied
  recopy = changed_reshape args one two free gone

  abbrev ends : Hook → List Hook
  ends h = changed_to args one free gone h

  abbrev from : Hook → Hook
  from h = changed_from args two h

  -- ---- parts

  -- what stands in the place of a part of another name has another name
  put_named : (n : List ℕ) (x : Part) → same x.name n ≡ false → list_any (λ (q : Part). same q.name n) (put x) ≡ false
  put_named n x e = go (same x.name args.second) (same x.name args.first && gone)
    where
      go : (b d : Bool) → list_any (λ (q : Part). same q.name n) (cond b (record { name = x.name; task = whole } ∷ []) (cond d [] (x ∷ []))) ≡ false
      go true d = ap (λ b. b || false) e
      go false true = refl
      go false false = ap (λ b. b || false) e

  none_before : (n : List ℕ) (before : List Part) → list_any (λ (q : Part). same q.name n) before ≡ false → list_any (λ (q : Part). same q.name n) (flat_map put before) ≡ false
  none_before n before h = any_flat put (λ (q : Part). same q.name n) (λ (q : Part). same q.name n) before (λ x a e. put_named n x e) h

  not_true : (b : Bool) → not b ≡ true → b ≡ false
  not_true true h = cc
  not_true false h = refl

  earlier_stays : (n : List ℕ) → is_earlier_task ts n ≡ true → is_earlier_task us n ≡ true
  earlier_stays n h = let t = there (task_named ts n) h in ap is_some (j.stay n t.0 t.1)

  parts_hold : (at : List PlaceStep) → Hold (each (part_checks us) at made.parts)
  parts_hold at = each_flat put (part_checks ts) (part_checks us) (to_key place KParts) at 0 0 c.parts [] c.parts refl step holds.parts
    where
      step : (p q : List PlaceStep) (before rest : List Part) (x : Part) (front back : List Part) (y : Part) → c.parts ≡ before ++ x ∷ rest → Hold (part_checks ts p before x) → put x ≡ front ++ y ∷ back
          → Hold (part_checks us q (flat_map put before ++ front) y)
      step p q before rest x front back y split h is =
          let r = put_part args whole gone x y front back is in
          let parts = both-true (is_new_part before x) _ h in
          let earlier : is_earlier_task ts x.task ≡ true = (both-true (is_earlier_task ts x.task) true parts.1).0 in
          let none : list_any (λ (z : Part). same z.name x.name) (flat_map put before) ≡ false = none_before x.name before (not_true (list_any (λ (z : Part). same z.name x.name) before) parts.0) in
          let P : List Part → Type 0 = λ f. Hold (part_checks us q f y) in
          subst P (sym (ap (λ f. flat_map put before ++ f) r.alone ∙ append-nil (flat_map put before))) (by_part (flat_map put before) none earlier r.is)
        where
          Rule : List Part → Part → Type 0
          Rule f z = Hold (part_checks us q f z)

          by_part : (f : List Part) → list_any (λ (z : Part). same z.name x.name) f ≡ false → is_earlier_task ts x.task ≡ true
              → ((same x.name args.second ≡ true) × (y ≡ record { name = x.name; task = whole })) ⊎ ((same x.name args.second ≡ false) × ((same x.name args.first && gone) ≡ false) × (y ≡ x)) → Rule f y
          by_part f none earlier (inl k) = subst (Rule f) (sym k.1) (both (not (list_any (λ (z : Part). same z.name x.name) f)) _ (ap not none) (both (is_earlier_task us whole) true (ap is_some j.found) refl))
          by_part f none earlier (inr k) = subst (Rule f) (sym k.2) (both (not (list_any (λ (z : Part). same z.name x.name) f)) _ (ap not none) (both (is_earlier_task us x.task) true (earlier_stays x.task earlier) refl))

  -- ---- the ends in place of one

  data EndOf (h e : Hook) : Type 0 where
    stays : is_end_of args.first h ≡ true → gone ≡ false → e ≡ h → EndOf h e
    moves : is_end_of args.first h ≡ true → e ≡ second_to args one h → EndOf h e
    other : is_end_of args.first h ≡ false → e ≡ moved_to args one free h → EndOf h e

  end_of : (h e : Hook) → IsAmong (ends h) e → EndOf h e
  end_of h e a = go (is_end_of args.first h) refl gone refl a
    where
      go : (b : Bool) → is_end_of args.first h ≡ b → (g : Bool) → gone ≡ g → IsAmong (cond b (cond g [] (h ∷ []) ++ second_to args one h ∷ []) (moved_to args one free h ∷ [])) e → EndOf h e
      go true f true k (zero, d) = moves f d.1
      go true f true k (suc i, d) = absurd (omega (arith, d.0))
      go true f false k (zero, d) = stays f k d.1
      go true f false k (suc zero, d) = moves f d.1
      go true f false k (suc (suc i), d) = absurd (omega (arith, d.0))
      go false f g k (zero, d) = other f d.1
      go false f g k (suc i, d) = absurd (omega (arith, d.0))

  -- one alone, where the old one isn't at the first part
  alone : (h e : Hook) (before rest : List Hook) → is_end_of args.first h ≡ false → ends h ≡ before ++ e ∷ rest → before ≡ []
  alone h e before rest f split =
      (only_one (moved_to args one free h) e before rest (sym (ap (λ b. cond b (cond gone [] (h ∷ []) ++ second_to args one h ∷ []) (moved_to args one free h ∷ [])) f) ∙ split)).0

  -- its shape
  end_shape : (h e : Hook) (v : IsValid ts us args c one two whole j place holds h) → EndOf h e → to_shape us made e ≡ Some v.shape
  end_shape h e v (stays f g is) = ap (to_shape us made) is ∙ to_first ts us args c one two whole j h v.shape v.known f g
  end_shape h e v (moves f is) = ap (to_shape us made) is ∙ to_second ts us args c one two whole j h v.shape v.known f
  end_shape h e v (other f is) = ap (to_shape us made) is ∙ to_moved ts us args c one two whole j h v.shape v.known f v.free_of

  moved_part : (h : Hook) → (moved_to args one free h).part ≡ h.part
  moved_part h = go (is_end_of args.second h)
    where
      go : (b : Bool) → (cond b (record { part = h.part; port = name_among Inputs (length one.ins) free h.port }) h).part ≡ h.part
      go true = refl
      go false = refl

  from_part : (h : Hook) → (from h).part ≡ h.part
  from_part h = go (is_end_of args.second h)
    where
      go : (b : Bool) → (cond b (record { part = h.part; port = name_among Outputs 0 two.outs h.port }) h).part ≡ h.part
      go true = refl
      go false = refl

  -- an own end only in place of an own end
  own_end : (h e : Hook) → EndOf h e → is_none e.part ≡ true → (is_none h.part ≡ true) × (is_end_of args.first h ≡ false)
  own_end h e (stays f g is) k =
      let clash : true ≡ false = sym k ∙ (ap (λ (x : Hook). is_none x.part) is ∙ ap (λ (o : Option (List ℕ)). is_none o) (end_is h.part args.first f)) in
      absurd (cc)
  own_end h e (moves f is) k = let clash : true ≡ false = sym k ∙ ap (λ (x : Hook). is_none x.part) is in absurd (cc)
  own_end h e (other f is) k = (ap (λ (o : Option (List ℕ)). is_none o) (sym (moved_part h)) ∙ (ap (λ (x : Hook). is_none x.part) (sym is) ∙ k), f)

  -- two ends at which links begin
  from_same : (a b : Hook) (s t : List ℕ) → from_shape ts c a ≡ Some s → from_shape ts c b ≡ Some t → same_hook (from a) (from b) ≡ same_hook a b
  from_same a b s t h k = go (is_end_of args.second a) refl (is_end_of args.second b) refl
    where
      at_second : Hook → Hook
      at_second x = record { part = x.part; port = name_among Outputs 0 two.outs x.port }

      apart : (x y : Option (List ℕ)) → same_part x (Some args.second) ≡ true → same_part y (Some args.second) ≡ false → (same_part x y ≡ false) × (same_part y x ≡ false)
      apart x None e f = subst (λ z. (same_part z None ≡ false) × (same_part None z ≡ false)) (sym (end_is x args.second e)) (refl, refl)
      apart x (Some y) e f = subst (λ z. (same_part z (Some y) ≡ false) × (same_part (Some y) z ≡ false)) (sym (end_is x args.second e)) (other_name y args.second f, f)

      go : (d : Bool) → is_end_of args.second a ≡ d → (e : Bool) → is_end_of args.second b ≡ e → same_hook (cond d (at_second a) a) (cond e (at_second b) b) ≡ same_hook a b
      go true f true g =
          ap (λ x. same_part a.part b.part && x)
          (same_among Outputs 0 two.outs a.port b.port s t (let few = j.few_outs in omega (arith, few)) (output_shape ts us args c one two whole j a s h f) (output_shape ts us args c one two whole j b t k g))
      go true f false g = let p = (apart a.part b.part f g).0 in ap (λ x. x && same (name_among Outputs 0 two.outs a.port) b.port) p ∙ sym (ap (λ x. x && same a.port b.port) p)
      go false f true g = let p = (apart b.part a.part g f).1 in ap (λ x. x && same a.port (name_among Outputs 0 two.outs b.port)) p ∙ sym (ap (λ x. x && same a.port b.port) p)
      go false f false g = refl

  -- ---- links

  -- a link that stays begins at the first part only where that stays
  link_stays : (l : Plain) → IsAmong c.links l → is_joint args l ≡ false → gone ≡ true → is_end_of args.first l.from ≡ false
  link_stays l a plain g =
      let all = (both-true (list_all (λ (k : Plain). not (is_end_of args.first k.from) || is_end_of args.second k.to) c.links) _ g).0 in
      go (is_end_of args.first l.from) (is_end_of args.second l.to) (all_at (λ (k : Plain). not (is_end_of args.first k.from) || is_end_of args.second k.to) c.links l all a) plain
    where
      go : (x y : Bool) → (not x || y) ≡ true → (x && y) ≡ false → x ≡ false
      go false y h k = refl
      go true true h k = k
      go true false h k = cc

  reshape_stays : (r : Copied) → IsAmong c.reshapes r → gone ≡ true → is_end_of args.first r.from ≡ false
  reshape_stays r a g =
      let all = (both-true (list_all (λ (k : Plain). not (is_end_of args.first k.from) || is_end_of args.second k.to) c.links) _ g).1 in
      not_true (is_end_of args.first r.from) (all_at (λ (k : Copied). not (is_end_of args.first k.from)) c.reshapes r all a)

  -- what stands in the place of a link
  record RelinkedAs (l k : Plain) (front : List Plain) : Type 0 where
    plain : is_joint args l ≡ false
    before : List Hook
    end : Hook
    rest : List Hook
    split : ends l.to ≡ before ++ end ∷ rest
    front_is : front ≡ map (plain_to (from l.from)) before
    is : k ≡ plain_to (from l.from) end

  relinked : (l k : Plain) (front back : List Plain) → relink l ≡ front ++ k ∷ back → RelinkedAs l k front
  relinked l k front back h = go (is_joint args l) refl h
    where
      go : (b : Bool) → is_joint args l ≡ b → cond b [] (map (plain_to (from l.from)) (ends l.to)) ≡ front ++ k ∷ back → RelinkedAs l k front
      go true e m = absurd (not_one k front back m)
      go false e m =
          let s = split_at (plain_to (from l.from)) (ends l.to) front back k m in
          record { plain = e; before = s.before; end = s.member; rest = s.rest; split = s.split; front_is = s.front_is; is = s.is }

  -- an output that no earlier link hands up is handed up by none in their places
  none_handed : (l : Plain) (before rest : List Plain) → c.links ≡ before ++ l ∷ rest → list_any (λ (i : Plain). hands_up i && same_hook i.from l.from) before ≡ false
      → list_any (λ (i : Plain). hands_up i && same_hook i.from (from l.from)) (flat_map relink before) ≡ false
  none_handed l before rest split h = any_flat relink (λ (i : Plain). hands_up i && same_hook i.from l.from) (λ (i : Plain). hands_up i && same_hook i.from (from l.from)) before each_one h
    where
      listed : (i : Plain) → IsAmong before i → IsAmong c.links i
      listed i a = let P : List Plain → Type 0 = λ ls. IsAmong ls i in subst P (sym split) (among_left before (l ∷ rest) i a)

      each_end : (i : Plain) → IsAmong c.links i → (hands_up i && same_hook i.from l.from) ≡ false → (e : Hook) → EndOf i.to e
          → ((is_some (from i.from).part && is_none e.part) && same_hook (from i.from) (from l.from)) ≡ false
      each_end i a none e way = go (is_none e.part) refl
        where
          shape_i : (s : List ℕ) × (from_shape ts c i.from ≡ Some s) × (to_shape ts c i.to ≡ Some s)
          shape_i = link_shapes ts us args c one two whole j place holds i a

          shape_l : (s : List ℕ) × (from_shape ts c l.from ≡ Some s) × (to_shape ts c l.to ≡ Some s)
          shape_l = link_shapes ts us args c one two whole j place holds l (among_split c.links before rest l split)

          and_false : (x y : Bool) → ((x && false) && y) ≡ false
          and_false true y = refl
          and_false false y = refl

          go : (b : Bool) → is_none e.part ≡ b → ((is_some (from i.from).part && b) && same_hook (from i.from) (from l.from)) ≡ false
          go false f = and_false (is_some (from i.from).part) (same_hook (from i.from) (from l.from))
          go true f =
              let own = (own_end i.to e way f).0 in
              ap (λ x. (is_some x && true) && same_hook (from i.from) (from l.from)) (from_part i.from)
              ∙ (ap (λ x. (is_some i.from.part && true) && x) (from_same i.from l.from shape_i.0 shape_l.0 shape_i.1 shape_l.1)
              ∙ (ap (λ x. (is_some i.from.part && x) && same_hook i.from l.from) (sym own) ∙ none))

      over : (test : Hook → Bool) (xs : List Hook) → ((e : Hook) → IsAmong xs e → test e ≡ false) → list_any test xs ≡ false
      over test [] f = refl
      over test (x ∷ xs) f = ap (λ b. b || list_any test xs) (f x (0, (omega arith, refl))) ∙ over test xs (λ e a. f e (suc a.0, (omega (arith, a.1.0), a.1.1)))

      each_one : (i : Plain) → IsAmong before i → (hands_up i && same_hook i.from l.from) ≡ false → list_any (λ (k : Plain). hands_up k && same_hook k.from (from l.from)) (relink i) ≡ false
      each_one i a none = go (is_joint args i)
        where
          go : (b : Bool) → list_any (λ (k : Plain). hands_up k && same_hook k.from (from l.from)) (cond b [] (map (plain_to (from i.from)) (ends i.to))) ≡ false
          go true = refl
          go false =
              any_map (plain_to (from i.from)) (λ (k : Plain). hands_up k && same_hook k.from (from l.from)) (ends i.to)
              ∙ over (λ (e : Hook). (is_some (from i.from).part && is_none e.part) && same_hook (from i.from) (from l.from)) (ends i.to) (λ e b. each_end i (listed i a) none e (end_of i.to e b))

  links_hold : (at : List PlaceStep) → Hold (each (plain_checks us made) at made.links)
  links_hold at = each_flat relink (plain_checks ts c) (plain_checks us made) (to_key place KLinks) at 0 0 c.links [] c.links refl step holds.links
    where
      step : (p q : List PlaceStep) (before rest : List Plain) (l : Plain) (front back : List Plain) (k : Plain) → c.links ≡ before ++ l ∷ rest → Hold (plain_checks ts c p before l) → relink l ≡ front ++ k ∷ back
          → Hold (plain_checks us made q (flat_map relink before ++ front) k)
      step p q before rest l front back k split h is =
          let a : IsAmong c.links l = among_split c.links before rest l split in
          let r = relinked l k front back is in
          let way : EndOf l.to r.end = end_of l.to r.end (among_split (ends l.to) r.before r.rest r.end r.split) in
          let h1 = both-true (gives ts c l.from) _ h in
          let h2 = both-true (takes ts c l.to) _ h1.1 in
          let h3 = both-true (meets_part l) _ h2.1 in
          let h4 = both-true (joins_equal ts c l) _ h3.1 in
          let old_once : hands_up_once before l ≡ true = (both-true (hands_up_once before l) true h4.1).0 in
          let s = link_shapes ts us args c one two whole j place holds l a in
          let v = link_valid ts us args c one two whole j place holds l a r.plain in
          let same_shape : Some s.0 ≡ Some v.shape = sym s.2 ∙ v.known in
          let here : from_shape us made (from l.from) ≡ Some s.0 = from_kept ts us args c one two whole j l.from s.0 s.1 (link_stays l a r.plain) in
          let there_is : to_shape us made r.end ≡ Some s.0 = end_shape l.to r.end v way ∙ sym same_shape in
          let P : Plain → Type 0 = λ x. Hold (plain_checks us made q (flat_map relink before ++ front) x) in
          subst P (sym r.is)
          (link_holds us made q (flat_map relink before ++ front) (plain_to (from l.from) r.end) (record { shape = s.0; from = here; to = there_is; meets = met r.end way h3.0 }) (handed r way old_once))
        where
          met : (e : Hook) → EndOf l.to e → meets_part l ≡ true → (is_some (from l.from).part || is_some e.part) ≡ true
          met e (stays f g is') m = ap (λ o. is_some o || is_some e.part) (from_part l.from) ∙ (ap (λ (x : Hook). is_some l.from.part || is_some x.part) is' ∙ m)
          met e (moves f is') m = ap (λ (x : Hook). is_some (from l.from).part || is_some x.part) is' ∙ or_true (is_some (from l.from).part)
            where
              or_true : (b : Bool) → (b || true) ≡ true
              or_true true = refl
              or_true false = refl
          met e (other f is') m = ap (λ o. is_some o || is_some e.part) (from_part l.from) ∙ (ap (λ (x : Hook). is_some l.from.part || is_some x.part) is' ∙ (ap (λ o. is_some l.from.part || is_some o) (moved_part l.to) ∙ m))

          handed : (r : RelinkedAs l k front) → EndOf l.to r.end → hands_up_once before l ≡ true → hands_up_once (flat_map relink before ++ front) (plain_to (from l.from) r.end) ≡ true
          handed r way once = go (is_none r.end.part) refl (is_some (from l.from).part) refl
            where
              rest_false : (n : Bool) → not n ≡ true → n ≡ false
              rest_false true m = cc
              rest_false false m = refl

              go : (b : Bool) → is_none r.end.part ≡ b → (d : Bool) → is_some (from l.from).part ≡ d
                  → (not (d && b) || not (list_any (λ (i : Plain). hands_up i && same_hook i.from (from l.from)) (flat_map relink before ++ front))) ≡ true
              go false e true f = refl
              go false e false f = refl
              go true e false f = refl
              go true e true f =
                  let own = own_end l.to r.end way e in
                  let up : hands_up l ≡ true = both (is_some l.from.part) (is_none l.to.part) (ap (λ o. is_some o) (sym (from_part l.from)) ∙ f) own.0 in
                  let none : list_any (λ (i : Plain). hands_up i && same_hook i.from l.from) before ≡ false =
                  rest_false (list_any (λ (i : Plain). hands_up i && same_hook i.from l.from) before) (ap (λ b. not b || not (list_any (λ (i : Plain). hands_up i && same_hook i.from l.from) before)) (sym up) ∙ once) in
                  let first : front ≡ [] = r.front_is ∙ ap (map (plain_to (from l.from))) (alone l.to r.end r.before r.rest own.1 r.split) in
                  let test : Plain → Bool = λ i. hands_up i && same_hook i.from (from l.from) in
                  ap (λ f. not (list_any test (flat_map relink before ++ f))) first
                  ∙ (ap (λ xs. not (list_any test xs)) (append-nil (flat_map relink before)) ∙ ap not (none_handed l before rest split none))

  -- ---- reshapes

  reshapes_hold : (at : List PlaceStep) → Hold (each (copied_checks us made) at made.reshapes)
  reshapes_hold at = each_flat recopy (copied_checks ts c) (copied_checks us made) (to_key place KReshapes) at 0 0 c.reshapes [] c.reshapes refl step holds.reshapes
    where
      step : (p q : List PlaceStep) (before rest : List Copied) (r : Copied) (front back : List Copied) (k : Copied) → c.reshapes ≡ before ++ r ∷ rest → Hold (copied_checks ts c p before r) → recopy r ≡ front ++ k ∷ back
          → Hold (copied_checks us made q (flat_map recopy before ++ front) k)
      step p q before rest r front back k split h is =
          let a : IsAmong c.reshapes r = among_split c.reshapes before rest r split in
          let s = split_at (copied_to (from r.from) r.by) (ends r.to) front back k is in
          let way : EndOf r.to s.member = end_of r.to s.member (among_split (ends r.to) s.before s.rest s.member s.split) in
          let h1 = both-true (gives ts c r.from) _ h in
          let h2 = both-true (takes ts c r.to) _ h1.1 in
          let h3 = both-true (source_fits ts c r) _ h2.1 in
          let target : target_fits ts c r ≡ true = (both-true (target_fits ts c r) true h3.1).0 in
          let known = (reshape_shapes ts us args c one two whole j place holds r a).0 in
          let v = reshape_valid ts us args c one two whole j place holds r a in
          let here : from_shape us made (from r.from) ≡ Some known.0 = from_kept ts us args c one two whole j r.from known.0 known.1 (reshape_stays r a) in
          let there_is : to_shape us made s.member ≡ Some v.shape = end_shape r.to s.member v way in
          let source_now : fits_in r.by.source (from_shape us made (from r.from)) r.by.space (Some r.by.pattern) ≡ true =
          ap (λ o. fits_in r.by.source o r.by.space (Some r.by.pattern)) (here ∙ sym known.1) ∙ h3.0 in
          let target_now : fits_in r.by.target (to_shape us made s.member) r.by.space (Some r.by.pattern) ≡ true =
          ap (λ o. fits_in r.by.target o r.by.space (Some r.by.pattern)) (there_is ∙ sym v.known) ∙ target in
          let P : Copied → Type 0 = λ x. Hold (copied_checks us made q (flat_map recopy before ++ front) x) in
          subst P (sym s.is)
          (both (is_some (from_shape us made (from r.from))) _ (ap is_some here)
          (both (is_some (to_shape us made s.member)) _ (ap is_some there_is)
          (both (fits_in r.by.source (from_shape us made (from r.from)) r.by.space (Some r.by.pattern)) _ source_now
          (both (fits_in r.by.target (to_shape us made s.member) r.by.space (Some r.by.pattern)) true target_now refl))))

  -- ---- what is fed

  abbrev hook : List ℕ → List ℕ → Hook
  hook part port = record { part = Some part; port = port }

  fed : (now before : Hook) → IsTarget ts us args c one two whole j place holds now before → is_fed c before ≡ true → is_fed made now ≡ true
  fed now before t h = fed_so ts us args c one two whole j place holds now before t ∙ h

  each_fed : (part : List ℕ) (ps : List Port) → ((p : Port) → IsAmong ps p → is_fed made (hook part p.name) ≡ true) → list_all (λ (u : Port). is_fed made (hook part u.name)) ps ≡ true
  each_fed part [] f = refl
  each_fed part (p ∷ ps) f =
      both (is_fed made (hook part p.name)) (list_all (λ (u : Port). is_fed made (hook part u.name)) ps) (f p (0, (omega arith, refl))) (each_fed part ps (λ q a. f q (suc a.0, (omega (arith, a.1.0), a.1.1))))

  -- each input of the fused repetition
  whole_fed : (p : Port) → IsAmong (renamed Inputs 0 (one.ins ++ free)) p → is_fed made (hook args.second p.name) ≡ true
  whole_fed p a = let P : List Port → Type 0 = λ ps. IsAmong ps p in go (among_append (renamed Inputs 0 one.ins) (renamed Inputs (length one.ins) free) p (subst P (renamed_both Inputs one.ins free) a))
    where
      free_fresh : AreFresh [] (names_of free)
      free_fresh = fewer_fresh (λ (x : Port). x.name) (λ (x : Port). not (is_joined args c x.name)) [] [] two.ins (λ n h. h) j.second_fresh

      go : IsAmong (renamed Inputs 0 one.ins) p ⊎ IsAmong (renamed Inputs (length one.ins) free) p → is_fed made (hook args.second p.name) ≡ true
      go (inl b) =
          let r = renamed_member Inputs 0 one.ins p [] j.first_fresh b in
          let known : port_shape one.ins r.0.name ≡ Some r.0.shape = fresh_own [] one.ins r.0 j.first_fresh r.1 in
          ap (λ n. is_fed made (hook args.second n)) r.2
          ∙ fed (hook args.second (name_among Inputs 0 one.ins r.0.name)) (hook args.first r.0.name) (first_target ts us args c one two whole j place holds r.0.name r.0.shape known)
          (part_fed ts us args c one two whole j place holds args.first (tasks.Repeated one) r.0 j.first r.1)
      go (inr b) =
          let r = renamed_member Inputs (length one.ins) free p [] free_fresh b in
          let q = filter_among (λ (x : Port). not (is_joined args c x.name)) two.ins r.0 r.1 in
          let known : port_shape free r.0.name ≡ Some r.0.shape = fresh_own [] free r.0 free_fresh r.1 in
          ap (λ n. is_fed made (hook args.second n)) r.2
          ∙ fed (hook args.second (name_among Inputs (length one.ins) free r.0.name)) (hook args.second r.0.name)
          (second_target ts us args c one two whole j place holds r.0.name r.0.shape known (not_true (is_joined args c r.0.name) q.1))
          (part_fed ts us args c one two whole j place holds args.second (tasks.Repeated two) r.0 j.second q.0)

  parts_fed : (at : List PlaceStep) → Hold (each (fed_checks us made) at made.parts)
  parts_fed at = each_flat put (fed_checks ts c) (fed_checks us made) (to_key place KParts) at 0 0 c.parts [] c.parts refl step holds.fed
    where
      step : (p q : List PlaceStep) (before rest : List Part) (x : Part) (front back : List Part) (y : Part) → c.parts ≡ before ++ x ∷ rest → Hold (fed_checks ts c p before x) → put x ≡ front ++ y ∷ back
          → Hold (fed_checks us made q (flat_map put before ++ front) y)
      step p q before rest x front back y split h is =
          let r = put_part args whole gone x y front back is in
          let old : part_is_fed ts c x ≡ true = (both-true (part_is_fed ts c x) true h).0 in
          let m = member (part_checks ts) (to_key place KParts) c.parts x holds.parts (among_split c.parts before rest x split) in
          let earlier : is_earlier_task ts x.task ≡ true = (both-true (is_earlier_task ts x.task) true (both-true (is_new_part m.before x) _ m.holds).1).0 in
          hold-one q 12 (part_is_fed us made y) (by_part old earlier r.is)
        where
          by_part : part_is_fed ts c x ≡ true → is_earlier_task ts x.task ≡ true
              → ((same x.name args.second ≡ true) × (y ≡ record { name = x.name; task = whole })) ⊎ ((same x.name args.second ≡ false) × ((same x.name args.first && gone) ≡ false) × (y ≡ x)) → part_is_fed us made y ≡ true
          by_part old earlier (inl k) =
              let ins : inputs_named us whole ≡ renamed Inputs 0 (one.ins ++ free) = ap (λ (o : Option Task). unwrap_or (option_map inputs_of o) []) j.found ∙ j.ins in
              ap (part_is_fed us made) k.1
              ∙ (ap (λ n. list_all (λ (u : Port). is_fed made (hook n u.name)) (inputs_named us whole)) (same-equal x.name args.second k.0)
              ∙ (ap (list_all (λ (u : Port). is_fed made (hook args.second u.name))) ins ∙ each_fed args.second (renamed Inputs 0 (one.ins ++ free)) whole_fed))
          by_part old earlier (inr k) =
              let t = there (task_named ts x.task) earlier in
              let now : inputs_named us x.task ≡ inputs_named ts x.task =
              ap (λ (o : Option Task). unwrap_or (option_map inputs_of o) []) (j.stay x.task t.0 t.1) ∙ ap (λ (o : Option Task). unwrap_or (option_map inputs_of o) []) (sym t.1) in
              let target : (n : List ℕ) → IsTarget ts us args c one two whole j place holds (hook x.name n) (hook x.name n) = λ n.
              kept_target ts us args c one two whole j place holds (hook x.name n) (other_name x.name args.second k.0) (λ g. other_name x.name args.first (left_false (same x.name args.first) gone k.1 g)) in
              ap (part_is_fed us made) k.2
              ∙ (ap (list_all (λ (u : Port). is_fed made (hook x.name u.name))) now
              ∙ each_fed x.name (inputs_named ts x.task)
              (λ p a. fed (hook x.name p.name) (hook x.name p.name) (target p.name) (all_at (λ (u : Port). is_fed c (hook x.name u.name)) (inputs_named ts x.task) p old a)))
            where
              left_false : (a b : Bool) → (a && b) ≡ false → b ≡ true → a ≡ false
              left_false a true h g = sym (and_true a) ∙ h
                where
                  and_true : (z : Bool) → (z && true) ≡ z
                  and_true true = refl
                  and_true false = refl
              left_false a false h g = cc

  outs_fed : (at : List PlaceStep) → Hold (each (output_fed_checks made) at c.outs)
  outs_fed at =
      each-moved (output_fed_checks c) (output_fed_checks made) (to_key place KOut) at 0 0 [] c.outs
      (λ p q before x a h.
      let own : Hook = record { part = None; port = x.name } in
      hold-one q 13 (output_is_fed made x)
      (fed own own (kept_target ts us args c one two whole j place holds own refl (λ g. refl)) (both-true (output_is_fed c x) true h).0)) holds.outs_fed

  -- all rules
  pub changed_holds : (q : List PlaceStep) → HoldsOfCompound us q made
  changed_holds q = record {
    ins = each-moved (port_checks []) (port_checks []) (to_key place KIn) (to_key q KIn) 0 0 [] c.ins (λ p r before x a h. h) holds.ins;
    outs = each-moved (port_checks c.ins) (port_checks c.ins) (to_key place KOut) (to_key q KOut) 0 0 [] c.outs (λ p r before x a h. h) holds.outs;
    parts = parts_hold (to_key q KParts);
    links = links_hold (to_key q KLinks);
    reshapes = reshapes_hold (to_key q KReshapes);
    fed = parts_fed (to_key q KParts);
    outs_fed = outs_fed (to_key q KOut);
  }
