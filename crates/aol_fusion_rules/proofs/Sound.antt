-- The fused model of a sound one is sound.
use Rattle.std.proofs.Common.{◌≡◌, ℕ, ◌+◌, ◌<◌, ◌≤◌, ◌^◌, Bool, true, false, not, ◌&&◌, ◌||◌, ◌==◌, List, [], ◌∷◌, ◌++◌, length, map, Option, Some, None, is_some, is_none, option_and_then, if◌then◌else◌, sym, ◌∙◌, ap, refl, arith, subst, ◌⊎◌, inl, inr}
use Rattle.std.specs.List.{IsAmong, AllByRecursion, list_all}
use Rattle.std.proofs.lemmas.Bool.{ltb-true}
use Rattle.std.proofs.lemmas.List.{length-map}
use Rattle.aol_shape.specs.declared.limit.LimitName.{LimitName}
use Rattle.aol_shape.specs.Lists.{same}
use Rattle.aol_shape.specs.Shape.{IsShape}
use Rattle.aol_tiler.specs.Tiler.{fits}
use Rattle.aol_expr_tree.specs.declared.port.Port.{Port}
use Rattle.aol_model_types.specs.declared.document.Model.{Model}
use Rattle.aol_model_types.specs.declared.job.FuseArgs.{FuseArgs}
use Rattle.aol_model_types.specs.declared.job.Pick.{Pick}
use Rattle.aol_model_types.specs.declared.place.Key.TheVariants.{KParts}
use Rattle.aol_model_types.specs.declared.place.PlaceStep.{PlaceStep}
use Rattle.aol_model_types.specs.declared.task.Compound.{Compound}
use Rattle.aol_model_types.specs.declared.task.OutPort.{OutPort}
use Rattle.aol_model_types.specs.declared.task.Part.{Part}
use Rattle.aol_model_types.specs.declared.task.Repeated.{Repeated}
use Rattle.aol_model_types.specs.declared.task.Task.{Task}
use Rattle.aol_model_types.specs.declared.task.Task.TheVariants as tasks
use Rattle.aol_model_types.specs.Places.{to_key}
use Rattle.aol_model_types.specs.Rules.{each_from, task_checks, part_checks, is_new_task, is_new_part, is_earlier_task, task_name, task_named, part_named, port_shape, inputs_of, outputs_of}
use Rattle.aol_model_types.specs.Types.{IsPort, IsPick, IsTask, IsReadPort, IsReadTask}
use Rattle.aol_flat.specs.Accept.{IsSound}
use Rattle.aol_flat.specs.Home.{tiler_at}
use Rattle.aol_flat.proofs.Among.{among_append}
use Rattle.aol_flat.proofs.Checked.{HoldsOfCompound, of_compound, of_repeated, member, named_earlier, task_of}
use Rattle.aol_flat.proofs.Different.{Hold}
use Rattle.aol_flat.proofs.Find.{and_then_some, found_name}
use Rattle.aol_flat.proofs.Inside.{among_right}
use Rattle.aol_flat.proofs.Names.{both-true, same-self}
use Rattle.aol_flat.proofs.Once.{there, found_among, all_at}
use Rattle.aol_flat.proofs.Shapes.{found_port}
use Rattle.aol_change.specs.Blocks.{inputs_in, outputs_in}
use Rattle.aol_change.specs.Change.{Changed, Refused, within_limits, has_links, ports_limit}
use Rattle.aol_change.specs.declared.refused.StepRefused.TheVariants.{NotJoined, HasLinks}
use Rattle.aol_change.specs.Step.{IsChange}
use Rattle.aol_change.proofs.ChangedChecks.{shapes_changed, HoldInPlace, placed}
use Rattle.aol_change.proofs.ChangedRead.{read_changed}
use Rattle.aol_change.proofs.KindChecks.{to_compound}
use Rattle.aol_change.proofs.Room.{neither_limit}
use Rattle.aol_fusion_parts.specs.declared.ports.FusedNames.{FusedNames}
use Rattle.aol_fusion_parts.specs.declared.ports.FusedPorts.{FusedPorts}
use Rattle.aol_fusion_parts.specs.Changed.{fused_compound}
use Rattle.aol_fusion_parts.specs.Fuse.{Fusing, fusing, fused_parts, fused_task, fused_ports, new_tasks, fused_model, fuse_limit, tasks_limit, is_formed}
use Rattle.aol_fusion_parts.specs.Joined.{task_of_part, are_joined, is_joined, is_picked, is_picked_once, pick_fits, is_source, fits_block, is_well_formed}
use Rattle.aol_fusion_parts.specs.Made.{fused_names, names_limit, over_space, over_limit, block_of_first, block_limit, once_port, once_of_second, once_limit, pair_of_both, pair_limit}
use Rattle.aol_fusion_parts.specs.Ports.{sources, tiled_ports, picked_ports, unpicked_ports, unjoined_ports}
use Rattle.aol_fusion_parts.specs.Whole.{fused_repetition, whole_limit}
use Rattle.aol_fusion_parts.proofs.Placing.{filter_le}
use Rattle.aol_fusion_laws.specs.Rules.{KeepsRules, IsOld}
use Rattle.aol_fusion_laws.proofs.Fresh.{AreFresh, names_of, task_fresh, fresh_parts, neither_of}
use Rattle.aol_fusion_laws.proofs.PairKept.{pair_keeps_rules}
use Rattle.aol_fusion_laws.proofs.RulesKept.{block_keeps_rules, once_keeps_rules, whole_keeps_rules}
use Rattle.aol_fusion_laws.proofs.SameNames.{filter_among, among_filter}
use Rattle.aol_fusion_laws.proofs.TilersOf.{input_fit, output_tiled}
use Rattle.aol_fusion_laws.proofs.Wired.{there_any}
use Rattle.aol_paving.proofs.Members.{one_of_all}
use Rattle.aol_paving.proofs.ReadPorts.{task_read, own_name}
use Rattle.aol_paving.proofs.Sound.{no_links}
use Rattle.aol_fusion_rules.specs.Sound.{is_countable, FusedIsSound}
use Rattle.aol_fusion_rules.proofs.ChangedKept.{changed_holds}
use Rattle.aol_fusion_rules.proofs.Ends.{IsFusion}
use Rattle.aol_fusion_rules.proofs.Fronts.{front_holds, OldInner, old_inner_of, more_kept, more_own, more_none, next_holds}
use Rattle.aol_fusion_rules.proofs.Names.{AreNewNames, are_new_names, new_task_apart, not_named}
use Rattle.aol_fusion_rules.proofs.NewRead.{old_input, old_output, over_read, block_read, once_read, pair_read, whole_read, changed_read, ports_few}

-- what is known of a fusion that has a model
pub record IsFusing (f : Fusing) : Type 0 where
  pub sound : IsSound f.model
  pub compound : task_named f.model.tasks f.compound.name ≡ Some (tasks.Compound f.compound)
  pub joined : are_joined f.compound f.args ≡ true
  pub one : task_of_part f.model.tasks f.compound f.args.first ≡ Some (tasks.Repeated f.one)
  pub two : task_of_part f.model.tasks f.compound f.args.second ≡ Some (tasks.Repeated f.two)
  pub one_plain : f.one.links ≡ []
  pub two_plain : f.two.links ≡ []
  pub formed : is_formed f ≡ true
  pub limit : fuse_limit f ≡ None
  pub block : IsShape f.args.block
  pub picks : AllByRecursion IsPick f.args.picks
  pub few : length f.model.tasks + 4 < 2 ^ 32

-- the ports of a fusion by the inner tasks
abbrev ports_from : Fusing → Option Task → Option Task → FusedPorts
ports_from f one two = record {
  first_ins = inputs_in one;
  first_outs = outputs_in one;
  used_outs = sources f.args.picks (outputs_in one);
  second_ins = inputs_in two;
  picked_ins = picked_ports f.args f.compound f.two (inputs_in two);
  free_ins = unpicked_ports f.args f.compound f.two (inputs_in two);
  second_outs = tiled_ports f.two (outputs_in two);
  unjoined = unjoined_ports f.args f.compound f.two.ins;
}

-- ---- what a proposal says

-- its parts
pub record IsFormed (args : FuseArgs) (c : Compound) (one two : Repeated) (outs ins : List Port) : Type 0 where
  pub some : 1 ≤ length args.picks
  pub once : list_all (is_picked_once args c two) ins ≡ true
  pub spaces : fits args.tiler one.space two.space args.block ≡ true
  pub fit : list_all (pick_fits args outs ins) args.picks ≡ true

formed_parts : (args : FuseArgs) (c : Compound) (one two : Repeated) (outs ins : List Port) → is_well_formed args c one two outs ins ≡ true → IsFormed args c one two outs ins
formed_parts args c one two outs ins h =
    let a = both-true (not (length args.picks == 0) && list_all (is_picked_once args c two) ins && fits args.tiler one.space two.space args.block) (list_all (pick_fits args outs ins) args.picks) h in
    let b = both-true (not (length args.picks == 0) && list_all (is_picked_once args c two) ins) (fits args.tiler one.space two.space args.block) a.0 in
    let d = both-true (not (length args.picks == 0)) (list_all (is_picked_once args c two) ins) b.0 in
    record { some = some_pick args.picks d.0; once = d.1; spaces = b.1; fit = a.1 }
  where
    some_pick : (ks : List Pick) → not (length ks == 0) ≡ true → 1 ≤ length ks
    some_pick [] k = cc
    some_pick (x ∷ ks) k = omega arith

-- some output is one that a pick is from
some_source : (args : FuseArgs) (outs ins : List Port) → 1 ≤ length args.picks → list_all (pick_fits args outs ins) args.picks ≡ true → 1 ≤ length (sources args.picks outs)
some_source args outs ins some fit = go args.picks (λ k a. a) some fit
  where
    there_from : (k : Pick) → (x y : Option (List ℕ)) → port_shape outs k.from ≡ x → fits_block args k x y ≡ true → (s : List ℕ) × (port_shape outs k.from ≡ Some s)
    there_from k None y e h = cc
    there_from k (Some s) y e h = (s, e)

    go : (ks : List Pick) → ((k : Pick) → IsAmong ks k → IsAmong args.picks k) → 1 ≤ length ks → list_all (pick_fits args outs ins) ks ≡ true → 1 ≤ length (sources args.picks outs)
    go [] into few h = absurd (omega (arith, few))
    go (k ∷ ks) into few h =
        let fits_here = (both-true (pick_fits args outs ins k) (list_all (pick_fits args outs ins) ks) h).0 in
        let s = there_from k (port_shape outs k.from) (port_shape ins k.to) refl fits_here in
        let p = found_port outs k.from s.0 s.1 in
        let source : is_source args.picks p.0.name ≡ true = there_any (λ (x : Pick). same x.from p.0.name) args.picks k (into k (0, (omega arith, refl))) (ap (same k.from) p.2 ∙ same-self k.from) in
        let a = among_filter (λ (u : Port). is_source args.picks u.name) outs p.0 p.1 source in
        omega (arith, a.1.0)

-- how many ports a task has
few_ports : (u : Task) → IsTask u → (length (inputs_of u) < 2 ^ 32) × (length (outputs_of u) < 2 ^ 32)
few_ports (tasks.Elementary e) h = (h.in_count, let few : length e.outs < 2 ^ 32 = h.out_count in omega (arith, few, length-map e.outs (λ (o : OutPort). o.port)))
few_ports (tasks.Compound c) h = (h.in_count, h.out_count)
few_ports (tasks.Repeated r) h = (h.in_count, h.out_count)

-- ---- the parts before the compound

-- the task of a part stands before the compound
pub record PartBefore (before : List Task) (c : Compound) (part : List ℕ) (t : Task) : Type 0 where
  pub name : List ℕ
  pub found : task_named before name ≡ Some t
  pub of_part : task_of_part before c part ≡ Some t

part_before : (m : Model) (before rest : List Task) (place : List PlaceStep) (c : Compound) (part : List ℕ) (t : Task) → m.tasks ≡ before ++ tasks.Compound c ∷ rest → HoldsOfCompound before place c
    → task_of_part m.tasks c part ≡ Some t → PartBefore before c part t
part_before m before rest place c part t split holds h =
    let q = and_then_some (λ (q : Part). task_named m.tasks q.task) (part_named c part) t h in
    let r = member (part_checks before) (to_key place KParts) c.parts q.0 holds.parts (found_among (λ (x : Part). same x.name part) c.parts q.0 q.1) in
    let earlier : is_earlier_task before q.0.task ≡ true = (both-true (is_earlier_task before q.0.task) true (both-true (is_new_part r.before q.0) _ r.holds).1).0 in
    let u = there (task_named before q.0.task) earlier in
    let all : Some u.0 ≡ Some t = sym (named_earlier m before (tasks.Compound c ∷ rest) q.0.task u.0 split u.1) ∙ q.2 in
    let here : task_named before q.0.task ≡ Some t = u.1 ∙ all in
    record { name = q.0.task; found = here; of_part = ap (λ o. option_and_then (λ (x : Part). task_named before x.task) o) q.1 ∙ here }

-- what stands before the compound: both repetitions, with their inner tasks
pub record StandBefore (f : Fusing) (before : List Task) : Type 0 where
  pub one : PartBefore before f.compound f.args.first (tasks.Repeated f.one)
  pub two : PartBefore before f.compound f.args.second (tasks.Repeated f.two)
  pub first : OldInner before f.one
  pub second : OldInner before f.two

stand_before : (f : Fusing) (before rest : List Task) (place : List PlaceStep) → IsFusing f → f.model.tasks ≡ before ++ tasks.Compound f.compound ∷ rest → HoldsOfCompound before place f.compound → StandBefore f before
stand_before f before rest place h split holds =
    let front = front_holds f.model before (tasks.Compound f.compound ∷ rest) h.sound.shapes split in
    let a = part_before f.model before rest place f.compound f.args.first (tasks.Repeated f.one) split holds h.one in
    let b = part_before f.model before rest place f.compound f.args.second (tasks.Repeated f.two) split holds h.two in
    record { one = a; two = b; first = old_inner_of before a.name f.one front a.found h.one_plain; second = old_inner_of before b.name f.two front b.found h.two_plain }

-- ---- the new tasks

pub names_of_fusion : (f : Fusing) → IsFusing f → AreNewNames f.model (fused_names f.model f.compound.name)
names_of_fusion f h =
    are_new_names f.model f.compound.name h.sound (own_name (tasks.Compound f.compound) (task_read f.model f.compound.name (tasks.Compound f.compound) h.sound.read h.compound))
    (neither_limit (names_limit (fused_names f.model f.compound.name)) (tasks_limit f.args f.one f.two (fused_ports f)) h.limit).0

module _ (f : Fusing) (h : IsFusing f) (before rest : List Task) (place : List PlaceStep) (split : f.model.tasks ≡ before ++ tasks.Compound f.compound ∷ rest)
    (holds : HoldsOfCompound before place f.compound) where
  abbrev pub args : FuseArgs
  args = f.args

  abbrev pub c : Compound
  c = f.compound

  abbrev pub n : FusedNames
  n = fused_names f.model c.name

  pub s : StandBefore f before
  s = stand_before f before rest place h split holds

  abbrev pub u : Task
  u = s.first.inner

  abbrev pub v : Task
  v = s.second.inner

  abbrev unjoined : List Port
  unjoined = unjoined_ports args c f.two.ins

  abbrev free : List Port
  free = unpicked_ports args c f.two (inputs_of v)

  abbrev picked : List Port
  picked = picked_ports args c f.two (inputs_of v)

  abbrev outs : List Port
  outs = tiled_ports f.two (outputs_of v)

  abbrev used : List Port
  used = sources args.picks (outputs_of u)

  abbrev pub z : Task
  z = tasks.Repeated (block_of_first n.block args.block f.one.task (inputs_of u) used)

  abbrev pub y : Task
  y = tasks.Repeated (once_of_second n.once f.two.task args.block (outputs_of u) args.picks (inputs_of v) outs)

  abbrev pub x : Task
  x = tasks.Compound (pair_of_both n args.picks (map (over_space args.block) (inputs_of u)) picked free outs)

  abbrev pub w : Task
  w = tasks.Repeated (fused_repetition n.whole n.pair f.one f.two args.tiler unjoined (inputs_of u) free outs)

  abbrev pub changed : Task
  changed = tasks.Compound (fused_compound args c f.one f.two unjoined n.whole)

  -- the inner tasks in the whole list
  pub found_first : task_named f.model.tasks f.one.task ≡ Some u
  found_first = named_earlier f.model before (tasks.Compound c ∷ rest) f.one.task u split s.first.found

  pub found_second : task_named f.model.tasks f.two.task ≡ Some v
  found_second = named_earlier f.model before (tasks.Compound c ∷ rest) f.two.task v split s.second.found

  abbrev ports_are : FusedPorts
  ports_are = ports_from f (Some u) (Some v)

  pub ports : fused_ports f ≡ ports_are
  ports = ap (λ o. ports_from f o (task_named f.model.tasks f.two.task)) found_first ∙ ap (ports_from f (Some u)) found_second

  formed : IsFormed args c f.one f.two (outputs_of u) (inputs_of v)
  formed = formed_parts args c f.one f.two (outputs_of u) (inputs_of v) (ap (λ (p : FusedPorts). is_well_formed args c f.one f.two p.first_outs p.second_ins) (sym ports) ∙ h.formed)

  -- ---- limits

  record NoLimits : Type 0 where
    block : block_limit args.block (inputs_of u) used ≡ None
    once : once_limit args.block (outputs_of u) args.picks (inputs_of v) outs ≡ None
    pair : pair_limit (map (over_space args.block) (inputs_of u)) free outs ≡ None
    whole : whole_limit f.one f.two args.tiler unjoined (inputs_of u) ≡ None

  no_limits : NoLimits
  no_limits =
      let a = neither_limit (names_limit n) (tasks_limit args f.one f.two (fused_ports f)) h.limit in
      let all : tasks_limit args f.one f.two ports_are ≡ None = ap (tasks_limit args f.one f.two) (sym ports) ∙ a.1 in
      let b = neither_limit (block_limit args.block (inputs_of u) used) _ all in
      let d = neither_limit (once_limit args.block (outputs_of u) args.picks (inputs_of v) outs) _ b.1 in
      let e = neither_limit (pair_limit (map (over_space args.block) (inputs_of u)) free outs) (whole_limit f.one f.two args.tiler unjoined (inputs_of u)) d.1 in
      record { block = b.0; once = d.0; pair = e.0; whole = e.1 }

  -- ---- tasks that were read

  c_read : IsReadTask (tasks.Compound c)
  c_read = task_read f.model c.name (tasks.Compound c) h.sound.read h.compound

  u_read : IsReadTask u
  u_read = task_read f.model f.one.task u h.sound.read found_first

  v_read : IsReadTask v
  v_read = task_read f.model f.two.task v h.sound.read found_second

  one_read : IsReadTask (tasks.Repeated f.one)
  one_read = task_read f.model s.one.name (tasks.Repeated f.one) h.sound.read (named_earlier f.model before (tasks.Compound c ∷ rest) s.one.name (tasks.Repeated f.one) split s.one.found)

  two_read : IsReadTask (tasks.Repeated f.two)
  two_read = task_read f.model s.two.name (tasks.Repeated f.two) h.sound.read (named_earlier f.model before (tasks.Compound c ∷ rest) s.two.name (tasks.Repeated f.two) split s.two.found)

  names : AreNewNames f.model n
  names = names_of_fusion f h

  -- ---- the list, task by task

  abbrev with_z : List Task
  with_z = before ++ z ∷ []

  abbrev with_y : List Task
  with_y = with_z ++ y ∷ []

  abbrev with_x : List Task
  with_x = with_y ++ x ∷ []

  abbrev pub with_w : List Task
  with_w = with_x ++ w ∷ []

  -- no task before has a name that no task has
  not_before : (name : List ℕ) → is_some (task_named f.model.tasks name) ≡ false → is_some (task_named before name) ≡ false
  not_before name none = go (task_named before name) refl
    where
      go : (o : Option Task) → task_named before name ≡ o → is_some (task_named before name) ≡ false
      go None e = ap is_some e
      go (Some t) e =
          let clash : true ≡ false = sym (ap is_some (named_earlier f.model before (tasks.Compound c ∷ rest) name t split e)) ∙ none in
          absurd (cc)

  pub own_none : is_new_task before (tasks.Compound c) ≡ true → is_some (task_named before c.name) ≡ false
  own_none new = go (task_named before c.name) new
    where
      go : (o : Option Task) → is_none o ≡ true → is_some o ≡ false
      go None e = refl
      go (Some t) e = cc

  -- the compound is one of the tasks
  c_listed : IsAmong f.model.tasks (tasks.Compound c)
  c_listed = found_among (λ (t : Task). same (task_name t) c.name) f.model.tasks (tasks.Compound c) h.compound

  once_apart : same n.block n.once ≡ false
  once_apart = (neither_of (same n.block n.once) false names.once.apart).0

  pair_apart : (same n.block n.pair ≡ false) × (same n.once n.pair ≡ false)
  pair_apart = let a = neither_of (same n.block n.pair) (same n.once n.pair || false) names.pair.apart in (a.0, (neither_of (same n.once n.pair) false a.1).0)

  whole_apart : (same n.block n.whole ≡ false) × ((same n.once n.whole ≡ false) × (same n.pair n.whole ≡ false))
  whole_apart =
      let a = neither_of (same n.block n.whole) _ names.whole.apart in
      let b = neither_of (same n.once n.whole) (same n.pair n.whole || false) a.1 in
      (a.0, (b.0, (neither_of (same n.pair n.whole) false b.1).0))

  block_new : is_some (task_named before n.block) ≡ false
  block_new = not_before n.block (not_named f.model [] n.block names.block)

  once_new : is_some (task_named with_z n.once) ≡ false
  once_new = more_none before z n.once (not_before n.once (not_named f.model (n.block ∷ []) n.once names.once)) once_apart

  pair_new : is_some (task_named with_y n.pair) ≡ false
  pair_new =
      more_none with_z y n.pair (more_none before z n.pair (not_before n.pair (not_named f.model (n.block ∷ n.once ∷ []) n.pair names.pair)) pair_apart.0) pair_apart.1

  whole_new : is_some (task_named with_x n.whole) ≡ false
  whole_new =
      more_none with_y x n.whole
      (more_none with_z y n.whole (more_none before z n.whole (not_before n.whole (not_named f.model (n.block ∷ n.once ∷ n.pair ∷ []) n.whole names.whole)) whole_apart.0) whole_apart.1.0)
      whole_apart.1.1

  changed_new : is_new_task before (tasks.Compound c) ≡ true → is_some (task_named with_w c.name) ≡ false
  changed_new new =
      more_none with_x w c.name
      (more_none with_y x c.name
      (more_none with_z y c.name
      (more_none before z c.name (own_none new) (new_task_apart f.model [] n.block names.block (tasks.Compound c) c_listed)) (new_task_apart f.model (n.block ∷ []) n.once names.once (tasks.Compound c) c_listed))
      (new_task_apart f.model (n.block ∷ n.once ∷ []) n.pair names.pair (tasks.Compound c) c_listed))
      (new_task_apart f.model (n.block ∷ n.once ∷ n.pair ∷ []) n.whole names.whole (tasks.Compound c) c_listed)

  -- what is found before is found in each list
  kept_y : (name : List ℕ) (t : Task) → task_named before name ≡ Some t → task_named with_y name ≡ Some t
  kept_y name t e = more_kept with_z y name t (more_kept before z name t e)

  pub kept_w : (name : List ℕ) (t : Task) → task_named before name ≡ Some t → task_named with_w name ≡ Some t
  kept_w name t e = more_kept with_x w name t (more_kept with_y x name t (kept_y name t e))

  -- the new tasks are found
  pub z_found : task_named with_w n.block ≡ Some z
  z_found = more_kept with_x w n.block z (more_kept with_y x n.block z (more_kept with_z y n.block z (more_own before z block_new)))

  pub y_found : task_named with_w n.once ≡ Some y
  y_found = more_kept with_x w n.once y (more_kept with_y x n.once y (more_own with_z y once_new))

  pub x_found : task_named with_w n.pair ≡ Some x
  x_found = more_kept with_x w n.pair x (more_own with_y x pair_new)

  pub w_found : task_named with_w n.whole ≡ Some w
  w_found = more_own with_x w whole_new

  -- nothing else is
  pub none_new : (name : List ℕ) → is_some (task_named before name) ≡ false → same n.block name ≡ false → same n.once name ≡ false → same n.pair name ≡ false → same n.whole name ≡ false → is_some (task_named with_w name) ≡ false
  none_new name none a b d e = more_none with_x w name (more_none with_y x name (more_none with_z y name (more_none before z name none a) b) d) e

  -- ---- their rules

  few_u : (length (inputs_of u) < 2 ^ 32) × (length (outputs_of u) < 2 ^ 32)
  few_u = few_ports u u_read.types

  few_v : (length (inputs_of v) < 2 ^ 32) × (length (outputs_of v) < 2 ^ 32)
  few_v = few_ports v v_read.types

  few_one : (length f.one.ins < 2 ^ 32) × (length f.one.outs < 2 ^ 32)
  few_one = few_ports (tasks.Repeated f.one) one_read.types

  few_two : (length f.two.ins < 2 ^ 32) × (length f.two.outs < 2 ^ 32)
  few_two = few_ports (tasks.Repeated f.two) two_read.types

  z_rules : KeepsRules before z
  z_rules = block_keeps_rules before f.one u n.block args.block args.picks s.first.old s.first.found

  y_rules : KeepsRules with_z y
  y_rules = once_keeps_rules with_z f.two v n.once args (outputs_of u) s.second.old (more_kept before z f.two.task v s.second.found) formed.fit

  x_rules : KeepsRules with_y x
  x_rules =
      let a = few_u in
      let b = few_v in
      pair_keeps_rules with_y args c f.one f.two u v n s.first.old s.second.old formed.once formed.fit (omega (arith, a.0, b.0)) (omega (arith, b.1)) (more_kept with_z y n.block z (more_own before z block_new)) (more_own with_z y once_new)

  w_rules : KeepsRules with_x w
  w_rules =
      let a = few_u in
      let b = few_v in
      let d = few_one in
      let e = few_two in
      whole_keeps_rules with_x args c f.one f.two u v n s.first.old s.second.old formed.spaces (omega (arith, d.0, e.0)) (omega (arith, e.1)) (omega (arith, a.0, b.0)) (omega (arith, b.1)) (more_own with_y x pair_new)

  own_fresh : (t : Repeated) (r : Task) → IsOld t r → AreFresh [] (names_of t.ins)
  own_fresh t r old = (fresh_parts [] (names_of t.ins) (names_of t.outs) (task_fresh old.before [] (tasks.Repeated t) (old.rules []))).0

  not_same : (same args.first args.second ≡ false)
  not_same =
      let a = both-true (is_some (part_named c args.first) && is_some (part_named c args.second) && not (same args.first args.second)) _ h.joined in
      let b = both-true (is_some (part_named c args.first) && is_some (part_named c args.second)) (not (same args.first args.second)) a.0 in
      go (same args.first args.second) b.1
    where
      go : (b : Bool) → not b ≡ true → b ≡ false
      go true e = cc
      go false e = refl

  fusion : IsFusion before with_w args c f.one f.two n.whole
  fusion =
      let d = few_one in
      let e = few_two in
      let less : length unjoined ≤ length f.two.ins = filter_le _ f.two.ins in
      record {
        stay = kept_w;
        first = s.one.of_part;
        second = s.two.of_part;
        apart = not_same;
        there = w;
        found = more_own with_x w whole_new;
        ins = refl;
        outs = refl;
        first_fresh = own_fresh f.one u s.first.old;
        second_fresh = own_fresh f.two v s.second.old;
        few_ins = omega (arith, d.0, e.0, less);
        few_outs = omega (arith, e.1);
      }

  changed_rules : KeepsRules with_w changed
  changed_rules at = to_compound with_w at _ (changed_holds before with_w args c f.one f.two n.whole fusion place holds at)

  -- all in their places
  pub all_hold : is_new_task before (tasks.Compound c) ≡ true → (at : List PlaceStep) (k : ℕ) → Hold (each_from task_checks at k before (new_tasks args f.one f.two n (fused_ports f) ++ tasks.Compound (fused_compound args c f.one f.two (fused_ports f).unjoined n.whole) ∷ []))
  all_hold new at k =
      let P : FusedPorts → Type 0 = λ p. Hold (each_from task_checks at k before (new_tasks args f.one f.two n p ++ tasks.Compound (fused_compound args c f.one f.two p.unjoined n.whole) ∷ [])) in
      subst P (sym ports)
      (next_holds at k before z (y ∷ x ∷ w ∷ changed ∷ []) block_new z_rules
      (next_holds at (k + 1) with_z y (x ∷ w ∷ changed ∷ []) once_new y_rules
      (next_holds at (k + 1 + 1) with_y x (w ∷ changed ∷ []) pair_new x_rules (next_holds at (k + 1 + 1 + 1) with_x w (changed ∷ []) whole_new w_rules (next_holds at (k + 1 + 1 + 1 + 1) with_w changed [] (changed_new new) changed_rules refl)))))

  -- ---- they are as ones that were read

  source_read : (p : Port) → IsAmong used p → IsReadPort p
  source_read p a = old_output u p u_read (filter_among (λ (q : Port). is_source args.picks q.name) (outputs_of u) p a).0

  tiled_read : (p : Port) → IsAmong outs p → IsReadPort p
  tiled_read p a = old_output v p v_read (filter_among (λ (q : Port). is_some (tiler_at f.two q.name)) (outputs_of v) p a).0

  free_read : (p : Port) → IsAmong free p → IsPort p
  free_read p a = (old_input v p v_read (filter_among (λ (q : Port). not (is_picked args c f.two q.name)) (inputs_of v) p a).0).port

  unjoined_read : (p : Port) → IsAmong unjoined p → IsPort p
  unjoined_read p a = (old_input (tasks.Repeated f.two) p two_read (filter_among (λ (q : Port). not (is_joined args c q.name)) f.two.ins p a).0).port

  over : AllByRecursion IsReadPort (map (over_space args.block) (inputs_of u))
  over = over_read args.block h.block (inputs_of u) (λ p a. old_input u p u_read a) (neither_limit (over_limit args.block (inputs_of u)) _ no_limits.block).0

  pair_ports : (p : Port) → IsAmong (map (over_space args.block) (inputs_of u) ++ free) p → IsPort p
  pair_ports p a = go (among_append (map (over_space args.block) (inputs_of u)) free p a)
    where
      go : IsAmong (map (over_space args.block) (inputs_of u)) p ⊎ IsAmong free p → IsPort p
      go (inl b) = (one_of_all IsReadPort (map (over_space args.block) (inputs_of u)) p over b).port
      go (inr b) = free_read p b

  -- few inner ports
  few_once : length (inputs_of v) + length outs ≤ 64
  few_once =
      let a = neither_limit _ (ports_limit (map (once_port args.block (outputs_of u) args.picks) (inputs_of v)) outs) no_limits.once in
      let few = ports_few (map (once_port args.block (outputs_of u) args.picks) (inputs_of v)) outs a.1 in
      omega (arith, few, length-map (inputs_of v) (once_port args.block (outputs_of u) args.picks))

  few_block : length (inputs_of u) ≤ 64
  few_block =
      let a = neither_limit (over_limit args.block (inputs_of u)) _ no_limits.block in
      let b = neither_limit (over_limit args.block used) (ports_limit (map (over_space args.block) (inputs_of u)) (map (over_space args.block) used)) a.1 in
      let few = ports_few (map (over_space args.block) (inputs_of u)) (map (over_space args.block) used) b.1 in
      omega (arith, few, length-map (inputs_of u) (over_space args.block))

  some_tiled : 1 ≤ length outs
  some_tiled = go f.two.outs refl two_read.output
    where
      go : (os : List Port) → f.two.outs ≡ os → 1 ≤ length f.two.outs → 1 ≤ length outs
      go [] e some = absurd (omega (arith, some, ap length e))
      go (o ∷ os) e some =
          let P : List Port → Type 0 = λ ps. IsAmong ps o in
          let old = s.second.old in
          let r = output_tiled old.before [] f.two v (of_repeated old.before [] f.two (old.rules [])) old.found (task_fresh old.earlier [] v (old.inner [])) (task_fresh old.before [] (tasks.Repeated f.two) (old.rules [])) o
          (subst P (sym e) (0, (omega arith, refl))) in
          let a = among_filter (λ (q : Port). is_some (tiler_at f.two q.name)) (outputs_of v) r.0 r.2 (ap is_some r.3) in
          omega (arith, a.1.0)

  z_read : IsReadTask z
  z_read = block_read args.block h.block n.block f.one.task (inputs_of u) used names.block.is (λ p a. old_input u p u_read a) source_read (some_source args (outputs_of u) (inputs_of v) formed.some formed.fit) no_limits.block

  y_read : IsReadTask y
  y_read = once_read args.block h.block n.once f.two.task (outputs_of u) args.picks (inputs_of v) outs names.once.is h.picks (λ p a. old_output u p u_read a) (λ p a. old_input v p v_read a) tiled_read some_tiled no_limits.once

  x_read : IsReadTask x
  x_read =
      let few = few_once in
      let less : length picked ≤ length (inputs_of v) = filter_le _ (inputs_of v) in
      pair_read n args.picks (map (over_space args.block) (inputs_of u)) picked free outs names.pair.is pair_ports (λ p a. (tiled_read p a).port) (omega (arith, few, less)) some_tiled no_limits.pair

  w_read : IsReadTask w
  w_read =
      let few = few_once in
      let old = s.first.old in
      let less : length free ≤ length (inputs_of v) = filter_le _ (inputs_of v) in
      whole_read n.whole n.pair args f.one f.two unjoined (inputs_of u) free outs
      (record {
        one_read = one_read;
        two_read = two_read;
        unjoined_read = unjoined_read;
        fit = input_fit old.before [] f.one u (of_repeated old.before [] f.one (old.rules [])) old.found (task_fresh old.earlier [] u (old.inner [])) (task_fresh old.before [] (tasks.Repeated f.one) (old.rules []));
        spaces = formed.spaces;
        room = (neither_limit (over_limit args.block (inputs_of u)) _ no_limits.block).0;
        few_block = few_block;
        few_free = omega (arith, few, less);
        few_outs = omega (arith, few);
      }) names.whole.is no_limits.whole

  pub all_read : length (fused_compound args c f.one f.two unjoined n.whole).links < 2 ^ 32 → length (fused_compound args c f.one f.two unjoined n.whole).reshapes < 2 ^ 32
      → AllByRecursion IsReadTask (new_tasks args f.one f.two n (fused_ports f) ++ tasks.Compound (fused_compound args c f.one f.two (fused_ports f).unjoined n.whole) ∷ [])
  all_read links reshapes =
      let P : FusedPorts → Type 0 = λ p. AllByRecursion IsReadTask (new_tasks args f.one f.two n p ++ tasks.Compound (fused_compound args c f.one f.two p.unjoined n.whole) ∷ []) in
      subst P (sym ports) (z_read, (y_read, (x_read, (w_read, (changed_read args c f.one f.two unjoined n.whole c_read links reshapes, tt)))))

-- ---- the model

module _ (f : Fusing) (h : IsFusing f) (links : length (fused_compound f.args f.compound f.one f.two (fused_ports f).unjoined (fused_names f.model f.compound.name).whole).links < 2 ^ 32)
    (reshapes : length (fused_compound f.args f.compound f.one f.two (fused_ports f).unjoined (fused_names f.model f.compound.name).whole).reshapes < 2 ^ 32) where
  abbrev made : List Task
  made = new_tasks f.args f.one f.two (fused_names f.model f.compound.name) (fused_ports f)

  abbrev after : Task
  after = tasks.Compound (fused_compound f.args f.compound f.one f.two (fused_ports f).unjoined (fused_names f.model f.compound.name).whole)

  change : IsChange f.model (tasks.Compound f.compound) made after
  change = record {
    named = refl;
    ins = refl;
    outs = refl;
    apart = λ t a.
        (let n = fused_names f.model f.compound.name in
        let names = names_of_fusion f h in
        none_of_four (same n.block (task_name t)) (same n.once (task_name t)) (same n.pair (task_name t)) (same n.whole (task_name t))
        (new_task_apart f.model [] n.block names.block t a)
        (new_task_apart f.model (n.block ∷ []) n.once names.once t a)
        (new_task_apart f.model (n.block ∷ n.once ∷ []) n.pair names.pair t a)
        (new_task_apart f.model (n.block ∷ n.once ∷ n.pair ∷ []) n.whole names.whole t a));
  }
    where
      none_of_four : (a b c d : Bool) → a ≡ false → b ≡ false → c ≡ false → d ≡ false → (a || (b || (c || (d || false)))) ≡ false
      none_of_four a b c d e f g h = rw (e, f, g, h) refl

  in_place : HoldInPlace f.model (tasks.Compound f.compound) made after
  in_place before rest at at' k split new checks = all_hold f h before rest at split (of_compound before at f.compound checks) new at' k

  pub model_sound : IsSound (fused_model f)
  model_sound =
      let r = task_of f.model (tasks.Compound f.compound) f.compound.name h.sound.shapes h.compound in
      record {
        shapes = shapes_changed f.model (tasks.Compound f.compound) made after h.compound change in_place h.sound.shapes;
        read = read_changed f.model (tasks.Compound f.compound) made after h.compound (all_read f h r.before r.rest r.place r.split (of_compound r.before r.place f.compound r.holds) links reshapes) h.few h.sound.read;
      }

-- ---- the step

-- the lists of the changed compound are counted with all others
module _ (f : Fusing) (h : IsFusing f) (count : list_all is_countable (fused_model f).tasks ≡ true) where
  counted_after : (length (fused_compound f.args f.compound f.one f.two (fused_ports f).unjoined (fused_names f.model f.compound.name).whole).links < 2 ^ 32)
      × (length (fused_compound f.args f.compound f.one f.two (fused_ports f).unjoined (fused_names f.model f.compound.name).whole).reshapes < 2 ^ 32)
  counted_after =
      let p = placed f.model.tasks f.compound.name (tasks.Compound f.compound) (new_tasks f.args f.one f.two (fused_names f.model f.compound.name) (fused_ports f))
      (tasks.Compound (fused_compound f.args f.compound f.one f.two (fused_ports f).unjoined (fused_names f.model f.compound.name).whole)) h.compound in
      let all = among_counted (fused_model f).tasks _ p.rest _ p.put count in
      let both = both-true _ _ all in
      (ltb-true _ (2 ^ 32) both.0, ltb-true _ (2 ^ 32) both.1)
    where
      among_counted : (ts before rest : List Task) (t : Task) → ts ≡ before ++ t ∷ rest → list_all is_countable ts ≡ true → is_countable t ≡ true
      among_counted ts before rest t split all = all_at is_countable ts t all (let P : List Task → Type 0 = λ us. IsAmong us t in subst P (sym split) (among_right before (t ∷ rest) t (0, (omega arith, refl))))

  pub fusion_sound : IsSound (fused_model f)
  fusion_sound = model_sound f h counted_after.0 counted_after.1

-- the fusion that a model was made by
pub record MadeBy (m : Model) (name : List ℕ) (args : FuseArgs) (next : Model) : Type 0 where
  pub compound : Compound
  pub one : Repeated
  pub two : Repeated
  pub found : task_named m.tasks name ≡ Some (tasks.Compound compound)
  pub known : IsFusing (fusing m compound one two args)
  pub made : fused_model (fusing m compound one two args) ≡ next

pub made_by : (m next : Model) (name : List ℕ) (args : FuseArgs) → IsSound m → IsShape args.block → AllByRecursion IsPick args.picks → length m.tasks + 4 < 2 ^ 32 → fused_task m (task_named m.tasks name) args ≡ Changed next → MadeBy m name args next
made_by m next name args sound block picks few h = go (task_named m.tasks name) refl h
  where
    -- a fusion within the limits
    by_limit : (c : Compound) (one two : Repeated) → task_named m.tasks name ≡ Some (tasks.Compound c) → are_joined c args ≡ true → task_of_part m.tasks c args.first ≡ Some (tasks.Repeated one) → task_of_part m.tasks c args.second ≡ Some (tasks.Repeated two)
        → has_links one ≡ false → has_links two ≡ false → is_formed (fusing m c one two args) ≡ true → (o : Option LimitName) → fuse_limit (fusing m c one two args) ≡ o
        → within_limits (fused_model (fusing m c one two args)) o ≡ Changed next → MadeBy m name args next
    by_limit c one two e j f g a b formed (Some l) limit k = cc
    by_limit c one two e j f g a b formed None limit k =
        let is : fused_model (fusing m c one two args) ≡ next = cc in
        record {
          compound = c;
          one = one;
          two = two;
          found = e;
          made = is;
          known =
              record {
                sound = sound;
                compound = found_name m name (tasks.Compound c) e;
                joined = j;
                one = f;
                two = g;
                one_plain = no_links one a;
                two_plain = no_links two b;
                formed = formed;
                limit = limit;
                block = block;
                picks = picks;
                few = few;
              };
        }

    by_form : (c : Compound) (one two : Repeated) → task_named m.tasks name ≡ Some (tasks.Compound c) → are_joined c args ≡ true → task_of_part m.tasks c args.first ≡ Some (tasks.Repeated one) → task_of_part m.tasks c args.second ≡ Some (tasks.Repeated two)
        → has_links one ≡ false → has_links two ≡ false → (b : Bool) → is_formed (fusing m c one two args) ≡ b
        → (if b then within_limits (fused_model (fusing m c one two args)) (fuse_limit (fusing m c one two args)) else Refused NotJoined) ≡ Changed next → MadeBy m name args next
    by_form c one two e j f g a d true formed k = by_limit c one two e j f g a d formed (fuse_limit (fusing m c one two args)) refl k
    by_form c one two e j f g a d false formed k = cc

    by_links : (c : Compound) (one two : Repeated) → task_named m.tasks name ≡ Some (tasks.Compound c) → are_joined c args ≡ true → task_of_part m.tasks c args.first ≡ Some (tasks.Repeated one) → task_of_part m.tasks c args.second ≡ Some (tasks.Repeated two)
        → (b : Bool) → (has_links one || has_links two) ≡ b
        → (if b then Refused HasLinks else (if is_formed (fusing m c one two args) then within_limits (fused_model (fusing m c one two args)) (fuse_limit (fusing m c one two args)) else Refused NotJoined)) ≡ Changed next → MadeBy m name args next
    by_links c one two e j f g true l k = cc
    by_links c one two e j f g false l k = let none = neither_of (has_links one) (has_links two) l in by_form c one two e j f g none.0 none.1 (is_formed (fusing m c one two args)) refl k

    by_parts : (c : Compound) → task_named m.tasks name ≡ Some (tasks.Compound c) → are_joined c args ≡ true → (one two : Option Task) → task_of_part m.tasks c args.first ≡ one → task_of_part m.tasks c args.second ≡ two
        → fused_parts m c args one two ≡ Changed next → MadeBy m name args next
    by_parts c e j (Some (tasks.Repeated one)) (Some (tasks.Repeated two)) f g k = by_links c one two e j f g (has_links one || has_links two) refl k
    by_parts c e j (Some (tasks.Repeated one)) (Some (tasks.Elementary x)) f g k = cc
    by_parts c e j (Some (tasks.Repeated one)) (Some (tasks.Compound x)) f g k = cc
    by_parts c e j (Some (tasks.Repeated one)) None f g k = cc
    by_parts c e j (Some (tasks.Elementary x)) two f g k = cc
    by_parts c e j (Some (tasks.Compound x)) two f g k = cc
    by_parts c e j None two f g k = cc

    by_joint : (c : Compound) → task_named m.tasks name ≡ Some (tasks.Compound c) → (b : Bool) → are_joined c args ≡ b
        → (if b then fused_parts m c args (task_of_part m.tasks c args.first) (task_of_part m.tasks c args.second) else Refused NotJoined) ≡ Changed next → MadeBy m name args next
    by_joint c e true j k = by_parts c e j (task_of_part m.tasks c args.first) (task_of_part m.tasks c args.second) refl refl k
    by_joint c e false j k = cc

    go : (o : Option Task) → task_named m.tasks name ≡ o → fused_task m o args ≡ Changed next → MadeBy m name args next
    go None e k = cc
    go (Some (tasks.Elementary x)) e k = cc
    go (Some (tasks.Repeated t)) e k = cc
    go (Some (tasks.Compound c)) e k = by_joint c e (are_joined c args) refl k

pub fused_is_sound : FusedIsSound
fused_is_sound m next name args sound block picks few count h =
    let by = made_by m next name args sound block picks few h in
    subst IsSound by.made (fusion_sound (fusing m by.compound by.one by.two args) by.known (ap (λ (x : Model). list_all is_countable x.tasks) by.made ∙ count))
