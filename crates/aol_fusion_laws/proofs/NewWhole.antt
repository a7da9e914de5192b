-- The rules of the fused repetition hold.
use Rattle.std.proofs.Common.{◌≡◌, ℕ, ◌+◌, ◌<◌, ◌^◌, true, false, not, List, [], ◌∷◌, ◌++◌, length, map, find, Option, Some, None, is_some, unwrap_or, option_map, sym, ◌∙◌, ap, refl, arith, subst, ◌⊎◌, inl, inr}
use Rattle.std.specs.List.{IsAmong}
use Rattle.std.proofs.lemmas.List.{map-append, length-map, length-append}
use Rattle.aol_shape.specs.Lists.{same}
use Rattle.aol_tiler.specs.Tiler.{fits, substituted}
use Rattle.aol_expr_tree.specs.declared.port.Port.{Port}
use Rattle.aol_model_types.specs.declared.job.FuseArgs.{FuseArgs}
use Rattle.aol_model_types.specs.declared.place.PlaceStep.{PlaceStep}
use Rattle.aol_model_types.specs.declared.task.Compound.{Compound}
use Rattle.aol_model_types.specs.declared.task.Repeated.{Repeated}
use Rattle.aol_model_types.specs.declared.task.Task.{Task}
use Rattle.aol_model_types.specs.declared.task.TilerOn.{TilerOn}
use Rattle.aol_model_types.specs.Rules.{task_named, inputs_of, outputs_of, port_shape}
use Rattle.aol_flat.specs.Home.{tiler_at}
use Rattle.aol_flat.proofs.Among.{among_append, map_among}
use Rattle.aol_flat.proofs.Checked.{HoldsOfRepeated}
use Rattle.aol_flat.proofs.Find.{find_filtered}
use Rattle.aol_flat.proofs.Names.{same-equal}
use Rattle.aol_flat.proofs.Sites.{find-passes}
use Rattle.aol_flat.proofs.Shapes.{shape_left, shape_right}
use Rattle.aol_change.specs.Change.{is_taken}
use Rattle.aol_change.specs.declared.tasks.Side.TheVariants.{Inputs, Outputs}
use Rattle.aol_fusion_parts.specs.Joined.{is_joined, is_picked}
use Rattle.aol_fusion_parts.specs.Made.{over_space}
use Rattle.aol_fusion_parts.specs.Ports.{renamed, name_among, tiled_ports, unpicked_ports, unjoined_ports}
use Rattle.aol_fusion_parts.specs.Whole.{fused_repetition, placed_tilers, moved_tilers}
use Rattle.aol_fusion_laws.proofs.Fresh.{AreFresh, names_of, fresh_own, fresh_parts, name_listed}
use Rattle.aol_fusion_laws.proofs.NewWires.{new_wires, placed_are, moved_are, new_inners, each_wire, wire_of}
use Rattle.aol_fusion_laws.proofs.Renamed.{both_renamed_fresh, renamed_both, renamed_shape, renamed_member}
use Rattle.aol_fusion_laws.proofs.SameNames.{map_both, filter_among, among_filter}
use Rattle.aol_fusion_laws.proofs.Substituted.{substituted_fits}
use Rattle.aol_fusion_laws.proofs.TilersOf.{FitsSide}
use Rattle.aol_fusion_laws.proofs.Wired.{Wire, tiler_of, inner_of_wire, FitsOutside, IsWiredBy, wired_holds, sides_differ}

-- what is known of the old repetitions: their tilers by the inner ports, and that there are few of all ports
pub record OldTilers (args : FuseArgs) (c : Compound) (one two : Repeated) (u v : Task) : Type 0 where
  pub spaces : fits args.tiler one.space two.space args.block ≡ true
  pub first_fit : (p : Port) (o : TilerOn) → IsAmong (inputs_of u) p → tiler_at one p.name ≡ Some o → FitsSide one one.ins o p
  pub first_tiled : (p : Port) → IsAmong (inputs_of u) p → is_some (tiler_at one p.name) ≡ true
  pub second_fit : (p : Port) (o : TilerOn) → IsAmong (inputs_of v) p → tiler_at two p.name ≡ Some o → FitsSide two two.ins o p
  pub second_tiled : (p : Port) → IsAmong (inputs_of v) p → is_some (tiler_at two p.name) ≡ true
  pub out_fit : (p : Port) (o : TilerOn) → IsAmong (outputs_of v) p → tiler_at two p.name ≡ Some o → FitsSide two two.outs o p
  pub out_tiled : (y : Port) → IsAmong two.outs y → (p : Port) × (o : TilerOn) × IsAmong (outputs_of v) p × (tiler_at two p.name ≡ Some o) × (o.outer ≡ y.name)
  pub few_in : length one.ins + length (unjoined_ports args c two.ins) < 2 ^ 64
  pub few_out : length two.outs < 2 ^ 64
  pub few_inner : length (inputs_of u) + length (unpicked_ports args c two (inputs_of v)) < 2 ^ 64
  pub few_tiled : length (tiled_ports two (outputs_of v)) < 2 ^ 64

module _ (ts : List Task) (args : FuseArgs) (c : Compound) (one two : Repeated) (u v x : Task) (name pair : List ℕ) (old : OldTilers args c one two u v) (two_fresh : AreFresh [] (names_of two.ins ++ names_of two.outs)) (found : task_named ts pair ≡ Some x)
    (x_ins : inputs_of x ≡ renamed Inputs 0 (map (over_space args.block) (inputs_of u) ++ unpicked_ports args c two (inputs_of v))) (x_outs : outputs_of x ≡ renamed Outputs 0 (tiled_ports two (outputs_of v))) where
  abbrev block : List Port
  block = inputs_of u

  abbrev free : List Port
  free = unpicked_ports args c two (inputs_of v)

  abbrev outs : List Port
  outs = tiled_ports two (outputs_of v)

  abbrev unjoined : List Port
  unjoined = unjoined_ports args c two.ins

  abbrev whole : Repeated
  whole = fused_repetition name pair one two args.tiler unjoined block free outs

  over : Port → Port
  over p = over_space args.block p

  abbrev placed : List Wire
  placed = new_wires one Inputs 0 one.ins (λ a. substituted a args.tiler) (over_space args.block) 0 block

  abbrev moved : List Wire
  moved = new_wires two Inputs (length one.ins) unjoined (λ a. a) (λ p. p) (length block) free

  abbrev ends : List Wire
  ends = new_wires two Outputs 0 two.outs (λ a. a) (λ p. p) 0 outs

  map_same : (ps : List Port) → map (λ (p : Port). p) ps ≡ ps
  map_same [] = refl
  map_same (p ∷ ps) = ap (λ qs. p ∷ qs) (map_same ps)

  -- the inner ports of the wires
  in_inners : map inner_of_wire (placed ++ moved) ≡ inputs_of x
  in_inners =
      map-append inner_of_wire placed moved
      ∙ (ap (λ ps. ps ++ map inner_of_wire moved) (new_inners one Inputs 0 one.ins (λ a. substituted a args.tiler) (over_space args.block) 0 block old.first_tiled)
      ∙ (ap (λ ps. renamed Inputs 0 (map (over_space args.block) block) ++ ps)
      (new_inners two Inputs (length one.ins) unjoined (λ a. a) (λ p. p) (length block) free (λ p a. old.second_tiled p (filter_among (λ (q : Port). not (is_picked args c two q.name)) (inputs_of v) p a).0)
      ∙ ap (renamed Inputs (length block)) (map_same free))
      ∙ (sym (renamed_both Inputs (map (over_space args.block) block) free ∙ ap (λ n. renamed Inputs 0 (map (over_space args.block) block) ++ renamed Inputs n free) (length-map block (over_space args.block))) ∙ sym x_ins)))

  out_inners : map inner_of_wire ends ≡ outputs_of x
  out_inners =
      new_inners two Outputs 0 two.outs (λ a. a) (λ p. p) 0 outs (λ p a. (filter_among (λ (q : Port). is_some (tiler_at two q.name)) (outputs_of v) p a).1)
      ∙ (ap (renamed Outputs 0) (map_same outs) ∙ sym x_outs)

  inner_fresh : AreFresh [] (names_of (inputs_of x) ++ names_of (outputs_of x))
  inner_fresh =
      let P : List Port → List Port → Type 0 = λ a b. AreFresh [] (names_of a ++ names_of b) in
      let few = old.few_inner in
      let small = old.few_tiled in
      subst (λ a. P a (outputs_of x)) (sym x_ins)
      (subst (P (renamed Inputs 0 (map (over_space args.block) block ++ free))) (sym x_outs)
      (both_renamed_fresh (map (over_space args.block) block ++ free) outs (omega (arith, few, length-append (map (over_space args.block) block) free, length-map block (over_space args.block))) (omega (arith, small))))

  own_fresh : AreFresh [] (names_of whole.ins ++ names_of whole.outs)
  own_fresh =
      let few = old.few_in in
      let small = old.few_out in
      both_renamed_fresh (one.ins ++ unjoined) two.outs (omega (arith, few, length-append one.ins unjoined)) (omega (arith, small))

  -- an inner port stands among those of the pair
  wire_inside : (ws : List Wire) (ports : List Port) (seen : List (List ℕ)) (w : Wire) → map inner_of_wire ws ≡ ports → AreFresh seen (names_of ports) → IsAmong ws w → port_shape ports w.inner.name ≡ Some w.inner.shape
  wire_inside ws ports seen w is fresh a =
      let P : List Port → Type 0 = λ ps. IsAmong ps w.inner in
      fresh_own seen ports w.inner fresh (subst P is (map_among inner_of_wire ws w a))

  -- the ports outside
  first_outside : (n shape : List ℕ) → port_shape one.ins n ≡ Some shape → port_shape whole.ins (name_among Inputs 0 one.ins n) ≡ Some shape
  first_outside n shape h =
      let few = old.few_in in
      ap (λ ps. port_shape ps (name_among Inputs 0 one.ins n)) (renamed_both Inputs one.ins unjoined)
      ∙ shape_left (renamed Inputs 0 one.ins) (renamed Inputs (length one.ins) unjoined) (name_among Inputs 0 one.ins n) shape (renamed_shape Inputs 0 one.ins n shape (omega (arith, few)) h)

  placed_outside : (w : Wire) → IsAmong placed w → FitsOutside whole.ins two.space w
  placed_outside w a =
      each_wire (λ z. FitsOutside whole.ins two.space z) one Inputs 0 one.ins (λ t. substituted t args.tiler) (over_space args.block) 0 block w
      (λ j p o b e.
      let f = old.first_fit p o b e in
      record { shape = f.array; outside = first_outside o.outer f.array f.outside; fit = substituted_fits o.tiler args.tiler f.array one.space two.space args.block p.shape f.fit old.spaces }) a

  -- an input that isn't picked takes from a port that isn't joined
  free_kept : (p : Port) (o : TilerOn) → not (is_picked args c two p.name) ≡ true → tiler_at two p.name ≡ Some o → not (is_joined args c o.outer) ≡ true
  free_kept p o h e = ap not (sym (ap (λ (x : Option TilerOn). unwrap_or (option_map (λ (y : TilerOn). is_joined args c y.outer) x) false) e)) ∙ h

  unjoined_shape : (n shape : List ℕ) → port_shape two.ins n ≡ Some shape → not (is_joined args c n) ≡ true → port_shape unjoined n ≡ Some shape
  unjoined_shape n shape h free_of = go (find (λ (q : Port). same q.name n) two.ins) refl h
    where
      go : (o : Option Port) → find (λ (q : Port). same q.name n) two.ins ≡ o → option_map (λ (q : Port). q.shape) o ≡ Some shape → port_shape unjoined n ≡ Some shape
      go None e k = cc
      go (Some q) e k =
          let named : q.name ≡ n = same-equal q.name n (find-passes (λ (r : Port). same r.name n) two.ins q e) in
          ap (option_map (λ (r : Port). r.shape)) (find_filtered (λ (r : Port). same r.name n) (λ (r : Port). not (is_joined args c r.name)) two.ins q (ap (λ m. not (is_joined args c m)) named ∙ free_of) e) ∙ k

  second_outside : (n shape : List ℕ) → port_shape unjoined n ≡ Some shape → port_shape whole.ins (name_among Inputs (length one.ins) unjoined n) ≡ Some shape
  second_outside n shape h =
      let few = old.few_in in
      let here : port_shape (renamed Inputs (length one.ins) unjoined) (name_among Inputs (length one.ins) unjoined n) ≡ Some shape = renamed_shape Inputs (length one.ins) unjoined n shape few h in
      let P : List (List ℕ) → Type 0 = λ ns. AreFresh [] ns in
      let ins_fresh : AreFresh [] (names_of (renamed Inputs 0 (one.ins ++ unjoined))) = (fresh_parts [] (names_of whole.ins) (names_of whole.outs) own_fresh).0 in
      let both : AreFresh [] (names_of (renamed Inputs 0 one.ins) ++ names_of (renamed Inputs (length one.ins) unjoined)) =
      subst P (ap names_of (renamed_both Inputs one.ins unjoined) ∙ map-append (λ (q : Port). q.name) (renamed Inputs 0 one.ins) (renamed Inputs (length one.ins) unjoined)) ins_fresh in
      ap (λ ps. port_shape ps (name_among Inputs (length one.ins) unjoined n)) (renamed_both Inputs one.ins unjoined)
      ∙ shape_right (renamed Inputs 0 one.ins) (renamed Inputs (length one.ins) unjoined) (name_among Inputs (length one.ins) unjoined n) shape
      (sides_differ (renamed Inputs 0 one.ins) (renamed Inputs (length one.ins) unjoined) (name_among Inputs (length one.ins) unjoined n) shape both here) here

  moved_outside : (w : Wire) → IsAmong moved w → FitsOutside whole.ins two.space w
  moved_outside w a =
      each_wire (λ z. FitsOutside whole.ins two.space z) two Inputs (length one.ins) unjoined (λ t. t) (λ p. p) (length block) free w
      (λ j p o b e.
      let q = filter_among (λ (q : Port). not (is_picked args c two q.name)) (inputs_of v) p b in
      let f = old.second_fit p o q.0 e in
      record { shape = f.array; outside = second_outside o.outer f.array (unjoined_shape o.outer f.array f.outside (free_kept p o q.1 e)); fit = f.fit }) a

  ends_outside : (w : Wire) → IsAmong ends w → FitsOutside whole.outs two.space w
  ends_outside w a =
      each_wire (λ z. FitsOutside whole.outs two.space z) two Outputs 0 two.outs (λ t. t) (λ p. p) 0 outs w
      (λ j p o b e.
      let few = old.few_out in
      let f = old.out_fit p o (filter_among (λ (q : Port). is_some (tiler_at two q.name)) (outputs_of v) p b).0 e in
      record { shape = f.array; outside = renamed_shape Outputs 0 two.outs o.outer f.array (omega (arith, few)) f.outside; fit = f.fit }) a

  in_outside : (w : Wire) → IsAmong (placed ++ moved) w → FitsOutside whole.ins two.space w
  in_outside w a = go (among_append placed moved w a)
    where
      go : IsAmong placed w ⊎ IsAmong moved w → FitsOutside whole.ins two.space w
      go (inl b) = placed_outside w b
      go (inr b) = moved_outside w b

  -- a tiler is on each output
  ends_tiled : (y : Port) → IsAmong whole.outs y → (w : Wire) × IsAmong ends w × (w.outer ≡ y.name)
  ends_tiled y a =
      let z = renamed_member Outputs 0 two.outs y (names_of two.ins) (fresh_parts [] (names_of two.ins) (names_of two.outs) two_fresh).1 a in
      let r = old.out_tiled z.0 z.1 in
      let kept : IsAmong outs r.0 = among_filter (λ (q : Port). is_some (tiler_at two q.name)) (outputs_of v) r.0 r.2 (ap is_some r.3) in
      let w = wire_of two Outputs 0 two.outs (λ t. t) (λ p. p) 0 outs r.0 r.1 kept r.3 in
      (w.0, w.1, w.2 ∙ (ap (name_among Outputs 0 two.outs) r.4 ∙ sym z.2))

  -- all its tilers
  whole_wired : IsWiredBy whole x (placed ++ moved) ends
  whole_wired =
      let name_at : Wire → List ℕ = λ w. w.inner.name in
      let P : List (List ℕ) → Type 0 = λ ns. AreFresh [] ns in
      let parts = fresh_parts [] (names_of (inputs_of x)) (names_of (outputs_of x)) inner_fresh in
      let in_names : map name_at (placed ++ moved) ≡ names_of (inputs_of x) = sym (map_both inner_of_wire (λ (p : Port). p.name) name_at (placed ++ moved) (λ w. refl)) ∙ ap names_of in_inners in
      let out_names : map name_at ends ≡ names_of (outputs_of x) = sym (map_both inner_of_wire (λ (p : Port). p.name) name_at ends (λ w. refl)) ∙ ap names_of out_inners in
      record {
        tilers = tilers_are;
        plain = refl;
        own = own_fresh;
        inner = inner_fresh;
        fresh = subst P (ap (λ ns. ns ++ names_of (outputs_of x)) (sym in_names) ∙ (ap (λ ns. map name_at (placed ++ moved) ++ ns) (sym out_names) ∙ sym (map-append name_at (placed ++ moved) ends))) inner_fresh;
        all_ins = λ p a. ap (λ ns. is_taken ns p.name) in_names ∙ name_listed (inputs_of x) p a;
        in_inside = λ w a. wire_inside (placed ++ moved) (inputs_of x) [] w in_inners parts.0 a;
        out_inside = λ w a. wire_inside ends (outputs_of x) (names_of (inputs_of x)) w out_inners parts.1 a;
        in_outside = in_outside;
        out_outside = ends_outside;
        tiled = ends_tiled;
      }
    where
      tilers_are : whole.tilers ≡ map tiler_of (placed ++ moved) ++ map tiler_of ends
      tilers_are =
          sym (ap (λ os. os ++ map tiler_of ends) (map-append tiler_of placed moved ∙ (ap (λ os. os ++ map tiler_of moved) (placed_are one args.tiler (over_space args.block) 0 block)
          ∙ ap (λ os. placed_tilers one args.tiler 0 block ++ os) (moved_are two Inputs (length one.ins) unjoined (λ p. p) (length block) free)))
          ∙ (ap (λ os. (placed_tilers one args.tiler 0 block ++ moved_tilers two Inputs (length one.ins) unjoined (length block) free) ++ os) (moved_are two Outputs 0 two.outs (λ p. p) 0 outs)))

  pub whole_holds : (q : List PlaceStep) → HoldsOfRepeated ts q whole
  whole_holds q = wired_holds ts whole x (placed ++ moved) ends found whole_wired q
