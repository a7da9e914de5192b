-- The two new repetitions are as ones that were read.
use Rattle.std.proofs.Common.{◌≡◌, ℕ, zero, suc, ◌+◌, ◌^◌, ◌≤◌, ◌<◌, Bool, true, false, cond, nat_lt, List, [], ◌∷◌, ◌++◌, length, map, filter, find, option_map, Option, Some, None, is_some, sym, ◌∙◌, ap, refl, arith, subst, ◌⊎◌, inl, inr}
use Rattle.std.specs.List.{IsAmong, AllByRecursion, list_all}
use Rattle.std.proofs.lemmas.Bool.{ltb-false}
use Rattle.std.proofs.lemmas.List.{length-append, length-map}
use Rattle.std.proofs.lemmas.List.Folds.{list_all-append}
use Rattle.aol_shape.specs.declared.limit.LimitName.TheVariants as limits
use Rattle.aol_shape.specs.Lists.{same, first_some}
use Rattle.aol_shape.specs.Shape.{IsShape, IsEntry}
use Rattle.aol_shape.specs.Texts.{is_name}
use Rattle.aol_tiler.specs.Tiler.{blocked, first_entry_out}
use Rattle.aol_expr_tree.specs.declared.port.Port.{Port}
use Rattle.aol_model_types.specs.declared.place.Key.TheVariants.{KOut}
use Rattle.aol_model_types.specs.declared.place.PlaceStep.{PlaceStep}
use Rattle.aol_model_types.specs.declared.task.Repeated.{Repeated}
use Rattle.aol_model_types.specs.declared.task.Task.{Task}
use Rattle.aol_model_types.specs.declared.task.Task.TheVariants as tasks
use Rattle.aol_model_types.specs.declared.task.TilerOn.{TilerOn}
use Rattle.aol_model_types.specs.Places.{to_key}
use Rattle.aol_model_types.specs.Reading.{max_ports}
use Rattle.aol_model_types.specs.Rules.{task_named, inputs_of, outputs_of, port_shape, is_tiled, kind_checks}
use Rattle.aol_model_types.specs.Types.{IsPort, IsReadPort, IsReadTask, IsTilerOn}
use Rattle.aol_flat.proofs.Checked.{HoldsOfRepeated, sides_apart, tiled_checks, named_port}
use Rattle.aol_flat.proofs.Different.{Hold}
use Rattle.aol_flat.proofs.Inside.{among_left, among_right}
use Rattle.aol_flat.proofs.Names.{both-true, same-self, same-equal}
use Rattle.aol_flat.proofs.Shapes.{found_port}
use Rattle.aol_flat.proofs.TilerRules.{JoinsPorts, sides_of, tiled}
use Rattle.aol_flat.proofs.Truth.{both}
use Rattle.aol_change.specs.Blocks.{inputs_in, outputs_in, shape_in, port_over, tiler_over, ports_over, tilers_on, filled_block, shapes_limit, tilers_limit, HasRoom}
use Rattle.aol_change.specs.Change.{joined_limit, tiler_limit}
use Rattle.aol_change.proofs.ChangedRead.{all-both, all-weaker}
use Rattle.aol_change.proofs.Limits.{shapes_more}
use Rattle.aol_change.proofs.Room.{has_room, one_joined, joined_fits, neither_limit}
use Rattle.aol_change.proofs.TilerForms.{inner_is_tiler, blocked_is_tiler}
use Rattle.aol_tiling.specs.Tile.{outer_tiler, outer_limit, blocks_task}
use Rattle.aol_tiling.proofs.Old.{one_of_all, fits_ports, shapes_within}
use Rattle.aol_tiling.proofs.NewBlock.{any_there, check_at}
use Rattle.aol_tiling.proofs.ReadPorts.{ports_within, port_named}

-- ---- lists

-- what holds of what is made of each member that is kept
all_kept : {X Y : Type 0} (P : Y → Type 0) (keep : X → Bool) (f : X → Y) (xs : List X) → ((x : X) → IsAmong xs x → keep x ≡ true → P (f x)) → AllByRecursion P (map f (filter keep xs))
all_kept P keep f [] h = tt
all_kept P keep f (x ∷ xs) h = go (keep x) refl (all_kept P keep f xs (λ y a. h y (suc a.0, (omega (arith, a.1.0), a.1.1))))
  where
    go : (b : Bool) → keep x ≡ b → AllByRecursion P (map f (filter keep xs)) → AllByRecursion P (map f (cond b (x ∷ filter keep xs) (filter keep xs)))
    go true e rest = (h x (0, (omega arith, refl)) e, rest)
    go false e rest = rest

all_made : {X Y : Type 0} (P : Y → Type 0) (f : X → Y) (xs : List X) → ((x : X) → IsAmong xs x → P (f x)) → AllByRecursion P (map f xs)
all_made P f [] h = tt
all_made P f (x ∷ xs) h = (h x (0, (omega arith, refl)), all_made P f xs (λ y a. h y (suc a.0, (omega (arith, a.1.0), a.1.1))))

-- none of the options is there
none_at : {X Y : Type 0} (f : X → Option Y) (xs : List X) (x : X) → first_some (map f xs) ≡ None → IsAmong xs x → f x ≡ None
none_at f [] x h a = absurd (omega (arith, a.1.0))
none_at {X = X} {Y = Y} f (y ∷ xs) x h a = go (f y) refl h a (none_at f xs x)
  where
    go : (o : Option Y) → f y ≡ o → first_some (o ∷ map f xs) ≡ None → IsAmong (y ∷ xs) x → (first_some (map f xs) ≡ None → IsAmong xs x → f x ≡ None) → f x ≡ None
    go (Some v) e k b rest = cc
    go None e k (zero, b) rest = ap f b.1 ∙ e
    go None e k (suc i, b) rest = rest k (i, (omega (arith, b.0), b.1))

port_names : (ps : List Port) → AllByRecursion IsReadPort ps → list_all is_name (map (λ (p : Port). p.name) ps) ≡ true
port_names [] h = refl
port_names (p ∷ ps) h = both (is_name p.name) (list_all is_name (map (λ (q : Port). q.name) ps)) h.0.named (port_names ps h.1)

-- ---- the repetition over one block

module _ (before : List Task) (place : List PlaceStep) (t : Repeated) (holds : HoldsOfRepeated before place t) (block : List ℕ) (is : IsShape block) (u : Task) (found : task_named before t.task ≡ Some u) (read : IsReadTask u)
    (old : IsReadTask (tasks.Repeated t)) (within : tilers_limit (task_named before t.task) t.tilers block ≡ None) where
  abbrev inner : Option Task
  inner = task_named before t.task

  ins_are : inputs_in inner ≡ inputs_of u
  ins_are = ap inputs_in found

  outs_are : outputs_in inner ≡ outputs_of u
  outs_are = ap outputs_in found

  sides : (o : TilerOn) → IsAmong t.tilers o → JoinsPorts t.ins (inputs_in inner) o ⊎ JoinsPorts t.outs (outputs_in inner) o
  sides o a = sides_of before t o (tiled before place t o holds a)

  -- a port of the inner task
  named_inner : (o : TilerOn) → IsAmong t.tilers o → is_name o.inner ≡ true
  named_inner o a = go (sides o a)
    where
      by : (ports : List Port) → ((p : Port) → IsAmong ports p → IsAmong (inputs_of u ++ outputs_of u) p) → is_some (port_shape ports o.inner) ≡ true → is_name o.inner ≡ true
      by ports in_both known = let p = named_port ports o.inner known in ap is_name (sym p.2) ∙ port_named u p.0 read (in_both p.0 p.1)

      go : JoinsPorts t.ins (inputs_in inner) o ⊎ JoinsPorts t.outs (outputs_in inner) o → is_name o.inner ≡ true
      go (inl side) = by (inputs_of u) (λ p b. among_left (inputs_of u) (outputs_of u) p b) (ap (λ ps. is_some (port_shape ps o.inner)) (sym ins_are) ∙ side.inside)
      go (inr side) = by (outputs_of u) (λ p b. among_right (inputs_of u) (outputs_of u) p b) (ap (λ ps. is_some (port_shape ps o.inner)) (sym outs_are) ∙ side.inside)

  inner_shaped : (o : TilerOn) → IsAmong t.tilers o → IsShape (shape_in inner o.inner)
  inner_shaped o a =
      let f = fits_ports before place t o holds a in
      let at : port_shape (inputs_of u ++ outputs_of u) o.inner ≡ Some (shape_in inner o.inner) =
      ap (λ ps. port_shape (ps ++ outputs_of u) o.inner) (sym ins_are) ∙ (ap (λ ps. port_shape (inputs_in inner ++ ps) o.inner) (sym outs_are) ∙ f.inside) in
      let p = found_port (inputs_of u ++ outputs_of u) o.inner (shape_in inner o.inner) at in
      subst IsShape p.3 (one_of_all IsPort (inputs_of u ++ outputs_of u) p.0 (ports_within u read.types) p.1)

  limit_at : (ports : List Port) (os : List TilerOn) (o : TilerOn) → IsAmong os o → is_some (port_shape ports o.inner) ≡ true → shapes_limit inner block (tilers_on ports os) ≡ None
      → joined_limit block (shape_in inner o.inner) ≡ None
  limit_at ports [] o a known h = absurd (omega (arith, a.1.0))
  limit_at ports (x ∷ os) o (zero, a) known h =
      let parts = neither_limit (shapes_limit inner block (tilers_on ports (x ∷ []))) (shapes_limit inner block (tilers_on ports os)) (sym (shapes_more inner block ports x os) ∙ h) in
      ap (λ (y : TilerOn). joined_limit block (shape_in inner y.inner)) a.1 ∙ one_joined inner block is ports x (ap (λ (y : TilerOn). is_some (port_shape ports y.inner)) (sym a.1) ∙ known) parts.0
  limit_at ports (x ∷ os) o (suc i, a) known h =
      let parts = neither_limit (shapes_limit inner block (tilers_on ports (x ∷ []))) (shapes_limit inner block (tilers_on ports os)) (sym (shapes_more inner block ports x os) ∙ h) in
      limit_at ports os o (i, (omega (arith, a.0), a.1)) known parts.1

  port_read : (ports : List Port) → shapes_limit inner block (tilers_on ports t.tilers) ≡ None → AllByRecursion IsReadPort (ports_over inner block (tilers_on ports t.tilers))
  port_read ports none =
      all_kept IsReadPort (λ (o : TilerOn). is_some (port_shape ports o.inner)) (λ (o : TilerOn). port_over inner block o.inner) t.tilers
      (λ o a known.
      let s = inner_shaped o a in
      let fit = joined_fits block (shape_in inner o.inner) (limit_at ports t.tilers o a known none) in
      let rank : length (block ++ shape_in inner o.inner) ≤ 12 = omega (arith, fit.0, length-append block (shape_in inner o.inner)) in
      record { port = record { rank = rank; entry = all-both IsEntry block (shape_in inner o.inner) is.entry s.entry; points = fit.1 }; named = named_inner o a })

  abbrev new_ins : List Port
  new_ins = ports_over inner block (tilers_on (inputs_in inner) t.tilers)

  abbrev new_outs : List Port
  new_outs = ports_over inner block (tilers_on (outputs_in inner) t.tilers)

  limits_of : (shapes_limit inner block (tilers_on (inputs_in inner) t.tilers) ≡ None) × (shapes_limit inner block (tilers_on (outputs_in inner) t.tilers) ≡ None)
  limits_of = shapes_within inner t.tilers block within

  few_ports : length new_ins + length new_outs ≤ max_ports
  few_ports =
      let first = neither_limit (shapes_limit inner block (tilers_on (inputs_in inner) t.tilers)) _ within in
      go (nat_lt max_ports (length new_ins + length new_outs)) refl (neither_limit (shapes_limit inner block (tilers_on (outputs_in inner) t.tilers)) _ first.1).1
    where
      go : (b : Bool) → nat_lt max_ports (length new_ins + length new_outs) ≡ b → cond b (Some limits.Ports) None ≡ None → length new_ins + length new_outs ≤ max_ports
      go true e h = cc
      go false e h = ltb-false max_ports (length new_ins + length new_outs) e

  room : AllByRecursion (HasRoom inner block) t.tilers
  room = has_room inner block is t.tilers limits_of.0 limits_of.1

  -- an output of the old one is tiled from an inner output
  output_there : Hold (kind_checks before place (tasks.Repeated t)) → 1 ≤ length new_outs
  output_there checks = by_outs t.outs refl old.output
    where
      by_outs : (ys : List Port) → t.outs ≡ ys → 1 ≤ length ys → 1 ≤ length new_outs
      by_outs [] e h = absurd (omega (arith, h))
      by_outs (y ∷ ys) e h =
          let c = check_at (tiled_checks t) (to_key place KOut) t.outs [] ys y holds.tiled e in
          let o = any_there (λ (x : TilerOn). same x.outer y.name) t.tilers (both-true (is_tiled t y) true c.1).0 in
          let outer_name : o.0.outer ≡ y.name = same-equal o.0.outer y.name o.2 in
          let known : is_some (port_shape t.outs y.name) ≡ true =
          ap (λ ps. is_some (port_shape ps y.name)) e ∙ ap (λ b. is_some (option_map (λ (q : Port). q.shape) (cond b (Some y) (find (λ (q : Port). same q.name y.name) ys)))) (same-self y.name) in
          let no_input : is_some (port_shape t.ins y.name) ≡ false = sides_apart before place (tasks.Repeated t) y.name checks known in
          go o.0 o.1 outer_name no_input (sides o.0 o.1)
        where
          go : (o : TilerOn) → IsAmong t.tilers o → o.outer ≡ y.name → is_some (port_shape t.ins y.name) ≡ false → JoinsPorts t.ins (inputs_in inner) o ⊎ JoinsPorts t.outs (outputs_in inner) o → 1 ≤ length new_outs
          go o a n none (inl side) = let clash : true ≡ false = sym side.outside ∙ (ap (λ x. is_some (port_shape t.ins x)) n ∙ none) in absurd (cc)
          go o a n none (inr side) = kept_some t.tilers o a side.inside
            where
              kept_some : (os : List TilerOn) (o : TilerOn) → IsAmong os o → is_some (port_shape (outputs_in inner) o.inner) ≡ true → 1 ≤ length (ports_over inner block (tilers_on (outputs_in inner) os))
              kept_some [] o a k = absurd (omega (arith, a.1.0))
              kept_some (x ∷ os) o (zero, a) k =
                  let kept : is_some (port_shape (outputs_in inner) x.inner) ≡ true = ap (λ (y : TilerOn). is_some (port_shape (outputs_in inner) y.inner)) (sym a.1) ∙ k in
                  let e : length (ports_over inner block (tilers_on (outputs_in inner) (x ∷ os))) ≡ suc (length (ports_over inner block (tilers_on (outputs_in inner) os))) =
                  ap (λ b. length (ports_over inner block (cond b (x ∷ tilers_on (outputs_in inner) os) (tilers_on (outputs_in inner) os)))) kept in
                  omega (arith, e)
              kept_some (x ∷ os) o (suc i, a) k = more (is_some (port_shape (outputs_in inner) x.inner)) (kept_some os o (i, (omega (arith, a.0), a.1)) k)
                where
                  more : (b : Bool) → 1 ≤ length (ports_over inner block (tilers_on (outputs_in inner) os))
                      → 1 ≤ length (ports_over inner block (cond b (x ∷ tilers_on (outputs_in inner) os) (tilers_on (outputs_in inner) os)))
                  more true h = omega arith
                  more false h = h

  -- the repetition over one block is as one that was read
  pub block_read : (name : List ℕ) → is_name name ≡ true → Hold (kind_checks before place (tasks.Repeated t))
      → IsReadTask (tasks.Repeated (filled_block inner t.tilers block (record { name = name; ins = []; outs = []; space = block; task = t.task; tilers = []; links = [] })))
  block_read name named checks =
      let ins = port_read (inputs_in inner) limits_of.0 in
      let outs = port_read (outputs_in inner) limits_of.1 in
      let few = few_ports in
      let ports : List Port = new_ins ++ new_outs in
      let names : list_all is_name (map (λ (p : Port). p.name) ports ++ []) ≡ true =
      list_all-append is_name (map (λ (p : Port). p.name) ports) [] ∙ both (list_all is_name (map (λ (p : Port). p.name) ports)) true (port_names ports (all-both IsReadPort new_ins new_outs ins outs)) refl in
      let tiler_count : length t.tilers < 2 ^ 32 = old.types.tiler_count in
      record {
        types = record {
          ins = all-weaker IsReadPort IsPort new_ins (λ p r. r.port) ins;
          outs = all-weaker IsReadPort IsPort new_outs (λ p r. r.port) outs;
          space = is;
          tilers = all_made IsTilerOn (λ (o : TilerOn). tiler_over inner block o.inner) t.tilers (λ o a. inner_is_tiler block (shape_in inner o.inner) (one_of_all (HasRoom inner block) t.tilers o room a));
          links = tt;
          in_count = omega (arith, few);
          out_count = omega (arith, few);
          tiler_count = omega (arith, length-map t.tilers (λ (o : TilerOn). tiler_over inner block o.inner), tiler_count);
          link_count = omega arith;
        };
        names = both (is_name name) (list_all is_name (map (λ (p : Port). p.name) ports ++ [])) named names;
        output = output_there checks;
      }

  -- so is the one over the blocks
  pub blocks_read : (outer name : List ℕ) → IsShape outer → length block ≡ length t.space → outer_limit block t.tilers ≡ None → IsReadTask (tasks.Repeated (blocks_task t outer block name))
  blocks_read outer name outer_is block_rank none =
      let tiler_count : length t.tilers < 2 ^ 32 = old.types.tiler_count in
      record {
        types = record {
          ins = old.types.ins;
          outs = old.types.outs;
          space = outer_is;
          tilers = all_made IsTilerOn (outer_tiler block) t.tilers
              (λ o a.
              let f = fits_ports before place t o holds a in
              blocked_is_tiler o.tiler f.array t.space block (shape_in inner o.inner) (one_of_all IsTilerOn t.tilers o old.types.tilers a) f.fit block_rank (one_of_all (HasRoom inner block) t.tilers o room a)
              (entries (first_entry_out (blocked o.tiler block)) (none_at (λ (x : TilerOn). tiler_limit (blocked x.tiler block)) t.tilers o none a)));
          links = tt;
          in_count = old.types.in_count;
          out_count = old.types.out_count;
          tiler_count = omega (arith, length-map t.tilers (outer_tiler block), tiler_count);
          link_count = omega arith;
        };
        names = old.names;
        output = old.output;
      }
    where
      entries : (o : Option ℕ) → cond (is_some o) (Some limits.Entry) None ≡ None → o ≡ None
      entries None h = refl
      entries (Some k) h = cc
