-- The pair of a fusion keeps the rules.
use Rattle.std.proofs.Common.{◌≡◌, ℕ, ◌+◌, ◌≤◌, Bool, true, false, cond, not, ◌==◌, List, [], ◌∷◌, ◌++◌, map, filter, length, Some, None, is_some, unwrap_or, sym, ◌∙◌, ap, refl, arith, subst}
use Rattle.std.specs.List.{IsAmong, list_all, list_any, count_by}
use Rattle.std.proofs.lemmas.Bool.{eqb-true}
use Rattle.std.proofs.lemmas.List.{length-map}
use Rattle.std.proofs.lemmas.List.Sums.{sum_by-cons}
use Rattle.aol_shape.specs.Lists.{same}
use Rattle.aol_expr_tree.specs.declared.port.Port.{Port}
use Rattle.aol_model_types.specs.declared.job.FuseArgs.{FuseArgs}
use Rattle.aol_model_types.specs.declared.job.Pick.{Pick}
use Rattle.aol_model_types.specs.declared.task.Compound.{Compound}
use Rattle.aol_model_types.specs.declared.task.Repeated.{Repeated}
use Rattle.aol_model_types.specs.declared.task.Task.{Task}
use Rattle.aol_model_types.specs.declared.task.Task.TheVariants as tasks
use Rattle.aol_model_types.specs.Rules.{inputs_of, outputs_of, port_shape}
use Rattle.aol_flat.specs.Home.{tiler_at}
use Rattle.aol_flat.proofs.Among.{among_map, map_among}
use Rattle.aol_flat.proofs.Names.{same-self}
use Rattle.aol_flat.proofs.Once.{all_at, found_among, found_none, counted_found}
use Rattle.aol_flat.proofs.Shapes.{found_port}
use Rattle.aol_change.proofs.KindChecks.{to_compound}
use Rattle.aol_fusion_parts.specs.Joined.{is_picked, is_picked_once, is_source, pick_to, pick_fits}
use Rattle.aol_fusion_parts.specs.Made.{over_space, once_port, once_shape, block_of_first, once_of_second}
use Rattle.aol_fusion_parts.specs.Ports.{sources, tiled_ports, picked_ports, unpicked_ports}
use Rattle.aol_fusion_parts.proofs.Placing.{filter_le}
use Rattle.aol_fusion_laws.specs.Rules.{PairKeepsRules}
use Rattle.aol_fusion_laws.proofs.BlockAndOnce.{pick_fits_port}
use Rattle.aol_fusion_laws.proofs.Fresh.{AreFresh, names_of, fresh_parts, fresh_own, fewer_fresh, once_there, name_listed}
use Rattle.aol_fusion_laws.proofs.NewPair.{TakesPick, pair_holds}
use Rattle.aol_fusion_laws.proofs.PairLinks.{named}
use Rattle.aol_fusion_laws.proofs.RulesKept.{old_inner}
use Rattle.aol_fusion_laws.proofs.SameNames.{map_both, filter_among, among_filter}
use Rattle.aol_fusion_laws.proofs.Wired.{there_any}

-- what is kept and what is left out are all
count_split : (n : List ℕ) (keep : Port → Bool) (ports : List Port)
    → count_by (named n) (names_of (filter (λ (p : Port). not (keep p)) ports)) + count_by (named n) (names_of (filter keep ports)) ≡ count_by (named n) (names_of ports)
count_split n keep [] = refl
count_split n keep (p ∷ ports) =
    go (keep p) (count_split n keep ports) (sum_by-cons (λ m. cond (named n m) 1 0) p.name (names_of ports)) (sum_by-cons (λ m. cond (named n m) 1 0) p.name (names_of (filter (λ (q : Port). not (keep q)) ports)))
    (sum_by-cons (λ m. cond (named n m) 1 0) p.name (names_of (filter keep ports)))
  where
    free : List Port
    free = filter (λ (q : Port). not (keep q)) ports

    kept : List Port
    kept = filter keep ports

    one : ℕ
    one = cond (same p.name n) 1 0

    go : (b : Bool) → count_by (named n) (names_of free) + count_by (named n) (names_of kept) ≡ count_by (named n) (names_of ports)
        → count_by (named n) (p.name ∷ names_of ports) ≡ one + count_by (named n) (names_of ports) → count_by (named n) (p.name ∷ names_of free) ≡ one + count_by (named n) (names_of free)
        → count_by (named n) (p.name ∷ names_of kept) ≡ one + count_by (named n) (names_of kept)
        → count_by (named n) (names_of (cond (not b) (p ∷ free) free)) + count_by (named n) (names_of (cond b (p ∷ kept) kept)) ≡ count_by (named n) (p.name ∷ names_of ports)
    go true h all f k = omega (arith, h, all, k)
    go false h all f k = omega (arith, h, all, f)

-- ports with their names kept
kept_names : (port : Port → Port) (ports : List Port) → ((p : Port) → (port p).name ≡ p.name) → names_of (map port ports) ≡ names_of ports
kept_names port ports named_so = map_both port (λ (p : Port). p.name) (λ (p : Port). p.name) ports named_so

made_shape : (port : Port → Port) (seen : List (List ℕ)) (ports : List Port) (p : Port) → ((q : Port) → (port q).name ≡ q.name) → AreFresh seen (names_of ports) → IsAmong ports p
    → port_shape (map port ports) p.name ≡ Some (port p).shape
made_shape port seen ports p named_so fresh a =
    let P : List (List ℕ) → Type 0 = λ ns. AreFresh seen ns in
    ap (port_shape (map port ports)) (sym (named_so p)) ∙ fresh_own seen (map port ports) (port p) (subst P (sym (kept_names port ports named_so)) fresh) (map_among port ports p a)

module _ (args : FuseArgs) (c : Compound) (two : Repeated) (u v : Task) (u_fresh : AreFresh [] (names_of (inputs_of u) ++ names_of (outputs_of u))) (v_fresh : AreFresh [] (names_of (inputs_of v) ++ names_of (outputs_of v)))
    (once : list_all (is_picked_once args c two) (inputs_of v) ≡ true) (fit : list_all (pick_fits args (outputs_of u) (inputs_of v)) args.picks ≡ true) where
  abbrev to_name : Port → Pick → Bool
  to_name p k = same k.to p.name

  v_sides : AreFresh [] (names_of (inputs_of v)) × AreFresh (names_of (inputs_of v)) (names_of (outputs_of v))
  v_sides = fresh_parts [] (names_of (inputs_of v)) (names_of (outputs_of v)) v_fresh

  u_sides : AreFresh [] (names_of (inputs_of u)) × AreFresh (names_of (inputs_of u)) (names_of (outputs_of u))
  u_sides = fresh_parts [] (names_of (inputs_of u)) (names_of (outputs_of u)) u_fresh

  pick_count : (p : Port) (b : Bool) → is_picked args c two p.name ≡ b → IsAmong (inputs_of v) p → count_by (to_name p) args.picks ≡ cond b 1 0
  pick_count p b e a = eqb-true (count_by (to_name p) args.picks) (cond b 1 0) (ap (λ x. count_by (to_name p) args.picks == cond x 1 0) (sym e) ∙ all_at (is_picked_once args c two) (inputs_of v) p once a)

  input_shape : (p : Port) → IsAmong (inputs_of v) p → port_shape (map (once_port args.block (outputs_of u) args.picks) (inputs_of v)) p.name ≡ Some (once_shape args.block (outputs_of u) (pick_to args.picks p.name) p.shape)
  input_shape p a = made_shape (once_port args.block (outputs_of u) args.picks) [] (inputs_of v) p (λ q. refl) v_sides.0 a

  not_true : (b : Bool) → not b ≡ true → b ≡ false
  not_true true h = cc
  not_true false h = refl

  free_shape : (p : Port) → IsAmong (unpicked_ports args c two (inputs_of v)) p → port_shape (map (once_port args.block (outputs_of u) args.picks) (inputs_of v)) p.name ≡ Some p.shape
  free_shape p a =
      let q = filter_among (λ (x : Port). not (is_picked args c two x.name)) (inputs_of v) p a in
      let none : pick_to args.picks p.name ≡ None = found_none (to_name p) args.picks (pick_count p false (not_true (is_picked args c two p.name) q.1) q.0) in
      input_shape p q.0 ∙ ap (λ o. Some (once_shape args.block (outputs_of u) o p.shape)) none

  takes_pick : (z y : Task) → outputs_of z ≡ map (over_space args.block) (sources args.picks (outputs_of u)) → inputs_of y ≡ map (once_port args.block (outputs_of u) args.picks) (inputs_of v)
      → (p : Port) → IsAmong (picked_ports args c two (inputs_of v)) p → TakesPick args.picks z y p
  takes_pick z y z_outs y_ins p a =
      let q = filter_among (λ (x : Port). is_picked args c two x.name) (inputs_of v) p a in
      let one : count_by (to_name p) args.picks ≡ 1 = pick_count p true q.1 q.0 in
      let some : 1 ≤ count_by (to_name p) args.picks = omega (arith, one) in
      let k = counted_found (to_name p) args.picks some in
      let r = pick_fits_port args (outputs_of u) (inputs_of v) p k.0 v_sides.0 q.0 fit k.1 in
      let o = found_port (outputs_of u) k.0.from r.0 r.1 in
      let source_is : is_source args.picks o.0.name ≡ true =
      there_any (λ (x : Pick). same x.from o.0.name) args.picks k.0 (found_among (to_name p) args.picks k.0 k.1) (ap (same k.0.from) o.2 ∙ same-self k.0.from) in
      let kept : IsAmong (sources args.picks (outputs_of u)) o.0 = among_filter (λ (x : Port). is_source args.picks x.name) (outputs_of u) o.0 o.1 source_is in
      let fresh : AreFresh (names_of (inputs_of u)) (names_of (sources args.picks (outputs_of u))) =
      fewer_fresh (λ (x : Port). x.name) (λ (x : Port). is_source args.picks x.name) (names_of (inputs_of u)) (names_of (inputs_of u)) (outputs_of u) (λ n h. h) u_sides.1 in
      record {
        pick = k.0;
        found = k.1;
        shape = args.block ++ r.0;
        source = ap (λ ps. port_shape ps k.0.from) z_outs
            ∙ (ap (port_shape (map (over_space args.block) (sources args.picks (outputs_of u)))) (sym o.2)
            ∙ (made_shape (over_space args.block) (names_of (inputs_of u)) (sources args.picks (outputs_of u)) o.0 (λ x. refl) fresh kept ∙ ap (λ s. Some (args.block ++ s)) o.3));
        sink = ap (λ ps. port_shape ps p.name) y_ins
            ∙ (input_shape p q.0 ∙ (ap (λ x. Some (once_shape args.block (outputs_of u) x p.shape)) k.1 ∙ ap (λ x. Some (args.block ++ unwrap_or x [])) r.1));
      }

  each_once : (q : Port) → IsAmong (map (once_port args.block (outputs_of u) args.picks) (inputs_of v)) q
      → count_by (named q.name) (names_of (unpicked_ports args c two (inputs_of v))) + count_by (named q.name) (names_of (picked_ports args c two (inputs_of v))) ≡ 1
  each_once q a =
      let p = among_map (once_port args.block (outputs_of u) args.picks) (inputs_of v) q a in
      count_split q.name (λ (x : Port). is_picked args c two x.name) (inputs_of v)
      ∙ once_there q.name [] (names_of (inputs_of v)) v_sides.0 (ap (λ (x : Port). list_any (named x.name) (names_of (inputs_of v))) p.2 ∙ name_listed (inputs_of v) p.0 p.1)

pub pair_keeps_rules : PairKeepsRules
pair_keeps_rules ts args c one two u v n first second once fit few_inner few_tiled block_found once_found at =
    let u_fresh = old_inner one u first in
    let v_fresh = old_inner two v second in
    let sides = fresh_parts [] (names_of (inputs_of u)) (names_of (outputs_of u)) u_fresh in
    let v_sides = fresh_parts [] (names_of (inputs_of v)) (names_of (outputs_of v)) v_fresh in
    let P : List (List ℕ) → Type 0 = λ ns. AreFresh [] ns in
    let free : length (unpicked_ports args c two (inputs_of v)) ≤ length (inputs_of v) = filter_le _ (inputs_of v) in
    let tiled : length (tiled_ports two (outputs_of v)) ≤ length (outputs_of v) = filter_le _ (outputs_of v) in
    let z : Task = tasks.Repeated (block_of_first n.block args.block one.task (inputs_of u) (sources args.picks (outputs_of u))) in
    let y : Task = tasks.Repeated (once_of_second n.once two.task args.block (outputs_of u) args.picks (inputs_of v) (tiled_ports two (outputs_of v))) in
    to_compound ts at _
    (pair_holds ts n args.picks (map (over_space args.block) (inputs_of u)) (picked_ports args c two (inputs_of v)) (unpicked_ports args c two (inputs_of v)) (tiled_ports two (outputs_of v)) z y block_found once_found
    (record {
      block_are = refl;
      outs_are = refl;
      block_fresh = subst P (sym (kept_names (over_space args.block) (inputs_of u) (λ p. refl))) sides.0;
      outs_fresh = fewer_fresh (λ (p : Port). p.name) (λ (p : Port). is_some (tiler_at two p.name)) (names_of (inputs_of v)) [] (outputs_of v) (λ m h. refl) v_sides.1;
      free_in = free_shape args c two u v u_fresh v_fresh once fit;
      pick_in = takes_pick args c two u v u_fresh v_fresh once fit z y refl refl;
      each = each_once args c two u v u_fresh v_fresh once fit;
      few = omega (arith, few_inner, free, length-map (inputs_of u) (over_space args.block));
      few_out = omega (arith, few_tiled, tiled);
    }) at)
