-- The rules of the repetition over one block hold, and those of one run.
use Rattle.std.proofs.Common.{◌≡◌, ℕ, Bool, true, List, [], ◌∷◌, ◌++◌, map, Option, Some, None, unwrap_or, is_some, sym, ◌∙◌, ap, refl}
use Rattle.std.specs.List.{IsAmong, list_all}
use Rattle.aol_shape.specs.Lists.{same}
use Rattle.aol_tiler.specs.Tiler.{fits, inner_of}
use Rattle.aol_expr_tree.specs.declared.port.Port.{Port}
use Rattle.aol_model_types.specs.declared.job.FuseArgs.{FuseArgs}
use Rattle.aol_model_types.specs.declared.job.Pick.{Pick}
use Rattle.aol_model_types.specs.declared.place.PlaceStep.{PlaceStep}
use Rattle.aol_model_types.specs.declared.task.Repeated.{Repeated}
use Rattle.aol_model_types.specs.declared.task.Task.{Task}
use Rattle.aol_model_types.specs.Rules.{task_named, inputs_of, outputs_of, port_shape}
use Rattle.aol_flat.specs.Home.{tiler_at}
use Rattle.aol_flat.proofs.Checked.{HoldsOfRepeated}
use Rattle.aol_flat.proofs.Names.{same-equal}
use Rattle.aol_flat.proofs.Once.{all_at, found_among}
use Rattle.aol_flat.proofs.Sites.{find-passes}
use Rattle.aol_change.proofs.TilerForms.{inner_fits}
use Rattle.aol_fusion_parts.specs.Joined.{pick_to, is_source, fits_block, pick_fits}
use Rattle.aol_fusion_parts.specs.Made.{over_space, once_port, once_shape, once_tiling, block_of_first, once_of_second}
use Rattle.aol_fusion_parts.specs.Ports.{sources, tiled_ports}
use Rattle.aol_fusion_laws.proofs.Fresh.{AreFresh, names_of, fresh_parts, fresh_own, fewer_fresh}
use Rattle.aol_fusion_laws.proofs.SameNames.{IsMaker, own_wired, filter_among}
use Rattle.aol_fusion_laws.proofs.Wired.{wired_holds}

map_same : {X : Type 0} (xs : List X) → xs ≡ map (λ x. x) xs
map_same [] = refl
map_same (x ∷ xs) = ap (λ ys. x ∷ ys) (map_same xs)

-- ---- a block of the first repetition

over_maker : (block : List ℕ) (ports : List Port) → IsMaker block ports (over_space block) (λ p. inner_of block p.shape)
over_maker block ports = record { named = λ p. refl; fit = λ p a. inner_fits block p.shape }

pub block_holds : (ts : List Task) (u : Task) (name block task : List ℕ) (picks : List Pick) → task_named ts task ≡ Some u → AreFresh [] (names_of (inputs_of u) ++ names_of (outputs_of u))
    → (q : List PlaceStep) → HoldsOfRepeated ts q (block_of_first name block task (inputs_of u) (sources picks (outputs_of u)))
block_holds ts u name block task picks found fresh q =
    let t : Repeated = block_of_first name block task (inputs_of u) (sources picks (outputs_of u)) in
    let keep : Port → Bool = λ p. is_source picks p.name in
    let outs = (fresh_parts [] (names_of (inputs_of u)) (names_of (outputs_of u)) fresh).1 in
    wired_holds ts t u _ _ found
    (own_wired t u (sources picks (outputs_of u)) (over_space block) (over_space block) (λ p. inner_of block p.shape) (λ p. inner_of block p.shape) fresh
    (fewer_fresh (λ (p : Port). p.name) keep (names_of (inputs_of u)) (names_of (inputs_of u)) (outputs_of u) (λ n k. k) outs)
    (λ p a. (filter_among keep (outputs_of u) p a).0)
    (over_maker block (inputs_of u)) (over_maker block (sources picks (outputs_of u)))
    (record { ins_are = refl; outs_are = refl; tilers = refl; plain = refl })) q

-- ---- one run of the second

-- the tiler of a pick fits a block of its output and its input
pub pick_fits_port : (args : FuseArgs) (outs ins : List Port) (p : Port) (k : Pick) → AreFresh [] (names_of ins) → IsAmong ins p → list_all (pick_fits args outs ins) args.picks ≡ true → pick_to args.picks p.name ≡ Some k
    → (from : List ℕ) × (port_shape outs k.from ≡ Some from) × (fits k.tiler (args.block ++ from) [] p.shape ≡ true)
pick_fits_port args outs ins p k fresh listed all found =
    let test : Pick → Bool = λ x. same x.to p.name in
    let a : IsAmong args.picks k = found_among test args.picks k found in
    let to : k.to ≡ p.name = same-equal k.to p.name (find-passes test args.picks k found) in
    let shape : port_shape ins k.to ≡ Some p.shape = ap (port_shape ins) to ∙ fresh_own [] ins p fresh listed in
    go (port_shape outs k.from) refl (ap (fits_block args k (port_shape outs k.from)) (sym shape) ∙ all_at (pick_fits args outs ins) args.picks k all a)
  where
    go : (o : Option (List ℕ)) → port_shape outs k.from ≡ o → fits_block args k o (Some p.shape) ≡ true → (from : List ℕ) × (port_shape outs k.from ≡ Some from) × (fits k.tiler (args.block ++ from) [] p.shape ≡ true)
    go None e h = cc
    go (Some s) e h = (s, e, h)

once_maker : (args : FuseArgs) (sources ins : List Port) → AreFresh [] (names_of ins) → list_all (pick_fits args sources ins) args.picks ≡ true
    → IsMaker [] ins (once_port args.block sources args.picks) (λ p. once_tiling (pick_to args.picks p.name) p.shape)
once_maker args sources ins fresh all = record { named = λ p. refl; fit = λ p a. by_pick p a (pick_to args.picks p.name) refl }
  where
    by_pick : (p : Port) → IsAmong ins p → (o : Option Pick) → pick_to args.picks p.name ≡ o → fits (once_tiling o p.shape) (once_shape args.block sources o p.shape) [] p.shape ≡ true
    by_pick p a None e = inner_fits [] p.shape
    by_pick p a (Some k) e =
        let r = pick_fits_port args sources ins p k fresh a all e in
        ap (λ o. fits k.tiler (args.block ++ unwrap_or o []) [] p.shape) r.1 ∙ r.2

own_maker : (ports : List Port) → IsMaker [] ports (λ p. p) (λ p. inner_of [] p.shape)
own_maker ports = record { named = λ p. refl; fit = λ p a. inner_fits [] p.shape }

pub once_holds : (ts : List Task) (v : Task) (name task : List ℕ) (args : FuseArgs) (sources : List Port) (two : Repeated) → task_named ts task ≡ Some v → AreFresh [] (names_of (inputs_of v) ++ names_of (outputs_of v))
    → list_all (pick_fits args sources (inputs_of v)) args.picks ≡ true
    → (q : List PlaceStep) → HoldsOfRepeated ts q (once_of_second name task args.block sources args.picks (inputs_of v) (tiled_ports two (outputs_of v)))
once_holds ts v name task args sources two found fresh all q =
    let outs : List Port = tiled_ports two (outputs_of v) in
    let t : Repeated = once_of_second name task args.block sources args.picks (inputs_of v) outs in
    let keep : Port → Bool = λ p. is_some (tiler_at two p.name) in
    let parts = fresh_parts [] (names_of (inputs_of v)) (names_of (outputs_of v)) fresh in
    wired_holds ts t v _ _ found
    (own_wired t v outs (once_port args.block sources args.picks) (λ p. p) (λ p. once_tiling (pick_to args.picks p.name) p.shape) (λ p. inner_of [] p.shape) fresh
    (fewer_fresh (λ (p : Port). p.name) keep (names_of (inputs_of v)) (names_of (inputs_of v)) (outputs_of v) (λ n k. k) parts.1)
    (λ p a. (filter_among keep (outputs_of v) p a).0)
    (once_maker args sources (inputs_of v) parts.0 all) (own_maker outs)
    (record { ins_are = refl; outs_are = map_same outs; tilers = refl; plain = refl })) q
