-- The ends of links in a compound whose parts are fused.
use Rattle.std.proofs.Common.{◌≡◌, ℕ, ◌+◌, ◌<◌, ◌^◌, Bool, true, false, cond, ◌&&◌, List, [], ◌∷◌, ◌++◌, length, find, flat_map, Option, Some, None, option_map, option_and_then, unwrap_or, sym, ◌∙◌, ap, refl, arith, subst, ◌⊎◌, inl, inr}
use Rattle.std.specs.List.{IsAmong}
use Rattle.aol_shape.specs.Lists.{same}
use Rattle.aol_expr_tree.specs.declared.port.Port.{Port}
use Rattle.aol_model_types.specs.declared.job.FuseArgs.{FuseArgs}
use Rattle.aol_model_types.specs.declared.task.Compound.{Compound}
use Rattle.aol_model_types.specs.declared.task.Hook.{Hook}
use Rattle.aol_model_types.specs.declared.task.Part.{Part}
use Rattle.aol_model_types.specs.declared.task.Repeated.{Repeated}
use Rattle.aol_model_types.specs.declared.task.Task.{Task}
use Rattle.aol_model_types.specs.declared.task.Task.TheVariants as tasks
use Rattle.aol_model_types.specs.Rules.{task_named, inputs_of, outputs_of, port_shape, part_named, same_part, from_shape, to_shape}
use Rattle.aol_flat.proofs.Find.{and_then_some}
use Rattle.aol_flat.proofs.Names.{same-self, same-equal}
use Rattle.aol_change.specs.declared.tasks.Side.TheVariants.{Inputs, Outputs}
use Rattle.aol_fusion_parts.specs.Changed.{first_goes, changed_from, moved_to, second_to, changed_part, fused_compound}
use Rattle.aol_fusion_parts.specs.Joined.{task_of_part, is_end_of, is_joined}
use Rattle.aol_fusion_parts.specs.Ports.{renamed, name_among, unjoined_ports}
use Rattle.aol_fusion_laws.proofs.Fresh.{AreFresh, names_of}
use Rattle.aol_fusion_laws.proofs.Renamed.{renamed_shape}
use Rattle.aol_fusion_rules.proofs.Flat.{only_one, not_one, find_flat}
use Rattle.aol_fusion_rules.proofs.NewNumbers.{first_renamed, second_renamed, unjoined_shape}

-- what is known of a compound and of the new list of tasks, in which the fused repetition is found
pub record IsFusion (ts us : List Task) (args : FuseArgs) (c : Compound) (one two : Repeated) (whole : List ℕ) : Type 0 where
  pub stay : (n : List ℕ) (t : Task) → task_named ts n ≡ Some t → task_named us n ≡ Some t
  pub first : task_of_part ts c args.first ≡ Some (tasks.Repeated one)
  pub second : task_of_part ts c args.second ≡ Some (tasks.Repeated two)
  pub apart : same args.first args.second ≡ false
  pub there : Task
  pub found : task_named us whole ≡ Some there
  pub ins : inputs_of there ≡ renamed Inputs 0 (one.ins ++ unjoined_ports args c two.ins)
  pub outs : outputs_of there ≡ renamed Outputs 0 two.outs
  pub first_fresh : AreFresh [] (names_of one.ins)
  pub second_fresh : AreFresh [] (names_of two.ins)
  pub few_ins : length one.ins + length (unjoined_ports args c two.ins) < 2 ^ 64
  pub few_outs : length two.outs < 2 ^ 64

-- ---- parts

-- an end at a part, by the name
pub end_is : (o : Option (List ℕ)) (part : List ℕ) → same_part o (Some part) ≡ true → o ≡ Some part
end_is None part h = cc
end_is (Some x) part h = ap (λ n. Some n) (same-equal x part h)

-- what stands in the place of a part
pub record PutPart (args : FuseArgs) (whole : List ℕ) (goes : Bool) (x y : Part) (front : List Part) : Type 0 where
  pub alone : front ≡ []
  pub is : ((same x.name args.second ≡ true) × (y ≡ record { name = x.name; task = whole })) ⊎ ((same x.name args.second ≡ false) × ((same x.name args.first && goes) ≡ false) × (y ≡ x))

pub put_part : (args : FuseArgs) (whole : List ℕ) (goes : Bool) (x y : Part) (front back : List Part) → changed_part args whole goes x ≡ front ++ y ∷ back → PutPart args whole goes x y front
put_part args whole goes x y front back h = by_second (same x.name args.second) refl h
  where
    stays : (b : Bool) → same x.name args.second ≡ false → (same x.name args.first && goes) ≡ b → cond b [] (x ∷ []) ≡ front ++ y ∷ back → PutPart args whole goes x y front
    stays true e f k = absurd (not_one y front back k)
    stays false e f k = let r = only_one x y front back k in record { alone = r.0; is = inr (e, f, r.1) }

    by_second : (b : Bool) → same x.name args.second ≡ b → cond b (record { name = x.name; task = whole } ∷ []) (cond (same x.name args.first && goes) [] (x ∷ [])) ≡ front ++ y ∷ back → PutPart args whole goes x y front
    by_second true e k = let r = only_one (record { name = x.name; task = whole }) y front back k in record { alone = r.0; is = inl (e, r.1) }
    by_second false e k = stays (same x.name args.first && goes) e refl k

module _ (args : FuseArgs) (whole : List ℕ) (goes : Bool) where
  put_second : (x : Part) → same x.name args.second ≡ true → changed_part args whole goes x ≡ record { name = x.name; task = whole } ∷ []
  put_second x e = ap (λ b. cond b (record { name = x.name; task = whole } ∷ []) (cond (same x.name args.first && goes) [] (x ∷ []))) e

  put_other : (x : Part) → same x.name args.second ≡ false → (same x.name args.first && goes) ≡ false → changed_part args whole goes x ≡ x ∷ []
  put_other x e f =
      ap (λ b. cond b (record { name = x.name; task = whole } ∷ []) (cond (same x.name args.first && goes) [] (x ∷ []))) e
      ∙ ap (λ b. cond b [] (x ∷ [])) f

  -- the second part is found with the fused repetition
  second_found : (parts : List Part) → find (λ (p : Part). same p.name args.second) (flat_map (changed_part args whole goes) parts)
      ≡ option_map (λ (p : Part). record { name = p.name; task = whole }) (find (λ (p : Part). same p.name args.second) parts)
  second_found parts =
      find_flat (changed_part args whole goes) (λ (p : Part). same p.name args.second) (λ (p : Part). same p.name args.second) (λ (p : Part). record { name = p.name; task = whole }) parts
      (λ x a e. ap (find (λ (p : Part). same p.name args.second)) (put_second x e) ∙ ap (λ b. cond b (Some (record { name = x.name; task = whole })) None) e)
      (λ x a e. by_other x e (same x.name args.first && goes) refl)
    where
      by_other : (x : Part) → same x.name args.second ≡ false → (b : Bool) → (same x.name args.first && goes) ≡ b → find (λ (p : Part). same p.name args.second) (changed_part args whole goes x) ≡ None
      by_other x e true f =
          ap (find (λ (p : Part). same p.name args.second))
          (ap (λ b. cond b (record { name = x.name; task = whole } ∷ []) (cond (same x.name args.first && goes) [] (x ∷ []))) e ∙ ap (λ b. cond b [] (x ∷ [])) f)
      by_other x e false f = ap (find (λ (p : Part). same p.name args.second)) (put_other x e f) ∙ ap (λ b. cond b (Some x) None) e

  -- and each other one that stays as it was
  other_found : (parts : List Part) (n : List ℕ) → same n args.second ≡ false → (same n args.first && goes) ≡ false
      → find (λ (p : Part). same p.name n) (flat_map (changed_part args whole goes) parts) ≡ find (λ (p : Part). same p.name n) parts
  other_found parts n apart stays =
      find_flat (changed_part args whole goes) (λ (p : Part). same p.name n) (λ (p : Part). same p.name n) (λ (p : Part). p) parts hit miss
      ∙ same_option (find (λ (p : Part). same p.name n) parts)
    where
      same_option : (o : Option Part) → option_map (λ (p : Part). p) o ≡ o
      same_option None = refl
      same_option (Some p) = refl

      hit : (x : Part) → IsAmong parts x → same x.name n ≡ true → find (λ (p : Part). same p.name n) (changed_part args whole goes x) ≡ Some x
      hit x a e =
          let is : x.name ≡ n = same-equal x.name n e in
          ap (find (λ (p : Part). same p.name n)) (put_other x (ap (λ m. same m args.second) is ∙ apart) (ap (λ m. same m args.first && goes) is ∙ stays)) ∙ ap (λ b. cond b (Some x) None) e

      miss : (x : Part) → IsAmong parts x → same x.name n ≡ false → find (λ (p : Part). same p.name n) (changed_part args whole goes x) ≡ None
      miss x a e = by_second (same x.name args.second) refl (same x.name args.first && goes)
        where
          by_second : (b : Bool) → same x.name args.second ≡ b → (d : Bool) → find (λ (p : Part). same p.name n) (cond b (record { name = x.name; task = whole } ∷ []) (cond d [] (x ∷ []))) ≡ None
          by_second true f d = ap (λ b. cond b (Some (record { name = x.name; task = whole })) None) e
          by_second false f true = refl
          by_second false f false = ap (λ b. cond b (Some x) None) e

-- ---- ends

module _ (ts us : List Task) (args : FuseArgs) (c : Compound) (one two : Repeated) (whole : List ℕ) (j : IsFusion ts us args c one two whole) where
  abbrev pub unjoined : List Port
  unjoined = unjoined_ports args c two.ins

  abbrev pub goes : Bool
  goes = first_goes args c

  abbrev pub new : Compound
  new = fused_compound args c one two unjoined whole

  -- an end at a part
  abbrev pub at : List ℕ → List ℕ → Hook
  at part port = record { part = Some part; port = port }

  abbrev ports_in : (Task → List Port) → Option Task → List Port
  ports_in side o = unwrap_or (option_map side o) []

  -- the shape at a part of this task
  pub shape_at : (side : Task → List Port) (part n : List ℕ) (t : Task) → task_of_part ts c part ≡ Some t
      → option_and_then (λ (p : Part). port_shape (ports_in side (task_named ts p.task)) n) (part_named c part) ≡ port_shape (side t) n
  shape_at side part n t h =
      let p = and_then_some (λ (p : Part). task_named ts p.task) (part_named c part) t h in
      ap (λ o. option_and_then (λ (q : Part). port_shape (ports_in side (task_named ts q.task)) n) o) p.1 ∙ ap (λ o. port_shape (ports_in side o) n) p.2

  -- the shape at a part that stays
  stays_at : (side : Task → List Port) (part n s : List ℕ) → same part args.second ≡ false → (same part args.first && goes) ≡ false
      → option_and_then (λ (p : Part). port_shape (ports_in side (task_named ts p.task)) n) (part_named c part) ≡ Some s
      → option_and_then (λ (p : Part). port_shape (ports_in side (task_named us p.task)) n) (part_named new part) ≡ Some s
  stays_at side part n s apart stays h =
      ap (λ o. option_and_then (λ (p : Part). port_shape (ports_in side (task_named us p.task)) n) o) (other_found args whole goes c.parts part apart stays) ∙ by_part (part_named c part) h
    where
      by_task : (p : Part) (o : Option Task) → task_named ts p.task ≡ o → port_shape (ports_in side o) n ≡ Some s → port_shape (ports_in side (task_named us p.task)) n ≡ Some s
      by_task p None e k = cc
      by_task p (Some t) e k = ap (λ o. port_shape (ports_in side o) n) (j.stay p.task t e) ∙ k

      by_part : (o : Option Part) → option_and_then (λ (p : Part). port_shape (ports_in side (task_named ts p.task)) n) o ≡ Some s
          → option_and_then (λ (p : Part). port_shape (ports_in side (task_named us p.task)) n) o ≡ Some s
      by_part None k = cc
      by_part (Some p) k = by_task p (task_named ts p.task) refl k

  -- the shape at the second part
  second_at : (side : Task → List Port) (part n : List ℕ) → same part args.second ≡ true
      → option_and_then (λ (p : Part). port_shape (ports_in side (task_named us p.task)) n) (part_named new part) ≡ port_shape (side j.there) n
  second_at side part n e =
      let is : part ≡ args.second = same-equal part args.second e in
      let p = and_then_some (λ (q : Part). task_named ts q.task) (part_named c args.second) (tasks.Repeated two) j.second in
      let found : part_named new part ≡ Some (record { name = p.0.name; task = whole }) =
      ap (λ m. part_named new m) is ∙ (second_found args whole goes c.parts ∙ ap (option_map (λ (q : Part). record { name = q.name; task = whole })) p.1) in
      ap (λ o. option_and_then (λ (q : Part). port_shape (ports_in side (task_named us q.task)) n) o) found ∙ ap (λ o. port_shape (ports_in side o) n) j.found

  -- the shape of the second part's output
  pub output_shape : (h : Hook) (s : List ℕ) → from_shape ts c h ≡ Some s → is_end_of args.second h ≡ true → port_shape two.outs h.port ≡ Some s
  output_shape h s k e =
      let is : h.part ≡ Some args.second = end_is h.part args.second e in
      let P : Option (List ℕ) → Type 0 = λ o. from_shape ts c (record { part = o; port = h.port }) ≡ Some s in
      sym (shape_at outputs_of args.second h.port (tasks.Repeated two) j.second) ∙ subst P is k

  -- where a link begins
  pub from_kept : (h : Hook) (s : List ℕ) → from_shape ts c h ≡ Some s → (goes ≡ true → is_end_of args.first h ≡ false) → from_shape us new (changed_from args two h) ≡ Some s
  from_kept h s = from_part h.part h.port
    where
      from_part : (o : Option (List ℕ)) (n : List ℕ) → from_shape ts c (record { part = o; port = n }) ≡ Some s → (goes ≡ true → same_part o (Some args.first) ≡ false)
          → from_shape us new (changed_from args two (record { part = o; port = n })) ≡ Some s
      from_part None n k stays = k
      from_part (Some x) n k stays = by_second (same x args.second) refl
        where
          gone : (a b : Bool) → (b ≡ true → a ≡ false) → (a && b) ≡ false
          gone true true f = f refl
          gone true false f = refl
          gone false b f = refl

          by_second : (b : Bool) → same x args.second ≡ b → from_shape us new (cond b (record { part = Some x; port = name_among Outputs 0 two.outs n }) (record { part = Some x; port = n })) ≡ Some s
          by_second true e =
              let few = j.few_outs in
              let old : port_shape two.outs n ≡ Some s = output_shape (at x n) s k e in
              second_at outputs_of x (name_among Outputs 0 two.outs n) e
              ∙ (ap (λ ps. port_shape ps (name_among Outputs 0 two.outs n)) j.outs ∙ renamed_shape Outputs 0 two.outs n s (omega (arith, few)) old)
          by_second false e = stays_at outputs_of x n s e (gone (same x args.first) goes stays) k

  -- where a link ends at the first part, which stays
  pub to_first : (h : Hook) (s : List ℕ) → to_shape ts c h ≡ Some s → is_end_of args.first h ≡ true → goes ≡ false → to_shape us new h ≡ Some s
  to_first h s k e stays =
      let is : h.part ≡ Some args.first = end_is h.part args.first e in
      let P : Option (List ℕ) → Type 0 = λ o. to_shape ts c (record { part = o; port = h.port }) ≡ Some s in
      let Q : Option (List ℕ) → Type 0 = λ o. to_shape us new (record { part = o; port = h.port }) ≡ Some s in
      subst Q (sym is) (stays_at inputs_of args.first h.port s j.apart (ap (λ b. same args.first args.first && b) stays ∙ and_false (same args.first args.first)) (subst P is k))
    where
      and_false : (b : Bool) → (b && false) ≡ false
      and_false true = refl
      and_false false = refl

  -- the shape of the first part's input
  pub first_shape : (h : Hook) (s : List ℕ) → to_shape ts c h ≡ Some s → is_end_of args.first h ≡ true → port_shape one.ins h.port ≡ Some s
  first_shape h s k e =
      let is : h.part ≡ Some args.first = end_is h.part args.first e in
      let P : Option (List ℕ) → Type 0 = λ o. to_shape ts c (record { part = o; port = h.port }) ≡ Some s in
      sym (shape_at inputs_of args.first h.port (tasks.Repeated one) j.first) ∙ subst P is k

  -- the shape of the second part's input
  pub second_shape : (h : Hook) (s : List ℕ) → to_shape ts c h ≡ Some s → is_end_of args.second h ≡ true → port_shape two.ins h.port ≡ Some s
  second_shape h s k e =
      let is : h.part ≡ Some args.second = end_is h.part args.second e in
      let P : Option (List ℕ) → Type 0 = λ o. to_shape ts c (record { part = o; port = h.port }) ≡ Some s in
      sym (shape_at inputs_of args.second h.port (tasks.Repeated two) j.second) ∙ subst P is k

  -- the fused repetition's port for it
  pub to_second : (h : Hook) (s : List ℕ) → to_shape ts c h ≡ Some s → is_end_of args.first h ≡ true → to_shape us new (second_to args one h) ≡ Some s
  to_second h s k e =
      second_at inputs_of args.second (name_among Inputs 0 one.ins h.port) (same-self args.second)
      ∙ (ap (λ ps. port_shape ps (name_among Inputs 0 one.ins h.port)) j.ins ∙ first_renamed one.ins unjoined h.port s j.few_ins (first_shape h s k e))

  -- where a link ends elsewhere
  pub to_moved : (h : Hook) (s : List ℕ) → to_shape ts c h ≡ Some s → is_end_of args.first h ≡ false → (is_end_of args.second h ≡ true → is_joined args c h.port ≡ false)
      → to_shape us new (moved_to args one unjoined h) ≡ Some s
  to_moved h s = to_part h.part h.port
    where
      to_part : (o : Option (List ℕ)) (n : List ℕ) → to_shape ts c (record { part = o; port = n }) ≡ Some s → same_part o (Some args.first) ≡ false → (same_part o (Some args.second) ≡ true → is_joined args c n ≡ false)
          → to_shape us new (moved_to args one unjoined (record { part = o; port = n })) ≡ Some s
      to_part None n k e free = k
      to_part (Some x) n k e free = by_second (same x args.second) refl
        where
          by_second : (b : Bool) → same x args.second ≡ b → to_shape us new (cond b (record { part = Some x; port = name_among Inputs (length one.ins) unjoined n }) (record { part = Some x; port = n })) ≡ Some s
          by_second true f =
              second_at inputs_of x (name_among Inputs (length one.ins) unjoined n) f
              ∙ (ap (λ ps. port_shape ps (name_among Inputs (length one.ins) unjoined n)) j.ins
              ∙ second_renamed one.ins unjoined n s j.few_ins (unjoined_shape args c two.ins n s (second_shape (at x n) s k f) (free f)))
          by_second false f = stays_at inputs_of x n s f (ap (λ b. b && goes) e) k
