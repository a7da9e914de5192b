-- The new repetitions are as ones that were read.
use Rattle.std.proofs.Common.{◌≡◌, ℕ, zero, suc, ◌+◌, ◌≤◌, Bool, true, false, cond, List, [], ◌∷◌, ◌++◌, map, length, nat_lt, Option, Some, None, sym, ◌∙◌, ap, refl, arith, subst, inl, inr}
use Rattle.std.specs.List.{IsAmong, AllByRecursion, list_all}
use Rattle.std.proofs.lemmas.Bool.{ltb-false}
use Rattle.std.proofs.lemmas.List.{length-append, length-map}
use Rattle.std.proofs.lemmas.List.Folds.{list_all-append}
use Rattle.aol_shape.specs.declared.limit.LimitName.TheVariants as limits
use Rattle.aol_shape.specs.Lists.{first_some}
use Rattle.aol_shape.specs.Shape.{IsShape, IsEntry}
use Rattle.aol_shape.specs.Texts.{is_name}
use Rattle.aol_tiler.specs.Tiler.{IsTiler, composed}
use Rattle.aol_expr_tree.specs.declared.port.Port.{Port}
use Rattle.aol_model_types.specs.declared.document.Model.{Model}
use Rattle.aol_model_types.specs.declared.task.Repeated.{Repeated}
use Rattle.aol_model_types.specs.declared.task.Task.{Task}
use Rattle.aol_model_types.specs.declared.task.Task.TheVariants as tasks
use Rattle.aol_model_types.specs.Reading.{max_ports}
use Rattle.aol_model_types.specs.Rules.{inputs_of, outputs_of, inputs_named}
use Rattle.aol_model_types.specs.Types.{IsPort, IsReadPort, IsReadTask, IsTilerOn}
use Rattle.aol_flat.proofs.Among.{among_append}
use Rattle.aol_flat.proofs.Truth.{both}
use Rattle.aol_change.specs.Blocks.{inputs_in, outputs_in}
use Rattle.aol_change.specs.Change.{joined_limit, tiler_limit, ports_limit}
use Rattle.aol_change.proofs.ChangedRead.{all-both, all-weaker}
use Rattle.aol_change.proofs.Room.{joined_fits, neither_limit}
use Rattle.aol_change.proofs.TilerForms.{fits_by, inner_is_tiler}
use Rattle.aol_paving.specs.declared.crossing.Crossing.{Crossing}
use Rattle.aol_paving.specs.Crossings.{crossed_tiler}
use Rattle.aol_paving.specs.Pave.{whole_port, whole_tiler, outer_tiler, outer_task, whole_limit, inner_limit, crossing_limit, outer_limit}
use Rattle.aol_paving.proofs.Both.{ins, outs, all, made, in_all, out_all, output_way, port_among, fit, way}
use Rattle.aol_paving.proofs.CrossedTilers.{crossed_fits, fits_is_tiler}
use Rattle.aol_paving.proofs.Members.{one_of_all, all_made}
use Rattle.aol_paving.proofs.ReadPorts.{ports_within, port_named}
use Rattle.aol_paving.proofs.Stack.{IsStack}

-- none of the options is there
none_at : {X Y : Type 0} (f : X → Option Y) (xs : List X) (x : X) → first_some (map f xs) ≡ None → IsAmong xs x → f x ≡ None
none_at f [] x h a = absurd (omega (arith, a.1.0))
none_at {X = X} {Y = Y} f (y ∷ xs) x h a = go (f y) refl h a (none_at f xs x)
  where
    go : (o : Option Y) → f y ≡ o → first_some (o ∷ map f xs) ≡ None → IsAmong (y ∷ xs) x → (first_some (map f xs) ≡ None → IsAmong xs x → f x ≡ None) → f x ≡ None
    go (Some v) e k b rest = cc
    go None e k (zero, b) rest = ap f b.1 ∙ e
    go None e k (suc i, b) rest = rest k (i, (omega (arith, b.0), b.1))

port_names : (ps : List Port) → AllByRecursion IsReadPort ps → list_all is_name (map (λ (p : Port). p.name) ps) ≡ true
port_names [] h = refl
port_names (p ∷ ps) h = both (is_name p.name) (list_all is_name (map (λ (q : Port). q.name) ps)) h.0.named (port_names ps h.1)

module _ (m : Model) (ts : List Task) (t u : Repeated) (s : IsStack m ts t u) (read : IsReadTask s.task) (old : IsReadTask (tasks.Repeated t)) (space : List ℕ) (space_is : IsShape space)
    (within : inner_limit space (ins ts t u s.top s.low s.once s.apart) (outs ts t u s.top s.low s.once s.apart) ≡ None) where
  abbrev in_ways : List Crossing
  in_ways = ins ts t u s.top s.low s.once s.apart

  abbrev out_ways : List Crossing
  out_ways = outs ts t u s.top s.low s.once s.apart

  abbrev ways : List Crossing
  ways = all ts t u s.top s.low s.once s.apart

  port_of : (c : Crossing) → IsAmong ways c → IsAmong (inputs_of s.task ++ outputs_of s.task) c.port
  port_of c a =
      subst (λ ps. IsAmong (ps ++ outputs_of s.task) c.port) (ap inputs_in s.innermost)
      (subst (λ ps. IsAmong (inputs_named ts u.task ++ ps) c.port) (ap outputs_in s.innermost) (port_among ts t u s.top s.low s.once s.apart c a))

  shape_is : (c : Crossing) → IsAmong ways c → IsShape c.port.shape
  shape_is c a = one_of_all IsPort (inputs_of s.task ++ outputs_of s.task) c.port (ports_within s.task read.types) (port_of c a)

  limits_of : (whole_limit space in_ways ≡ None) × ((whole_limit space out_ways ≡ None) × (ports_limit (map (whole_port space) in_ways) (map (whole_port space) out_ways) ≡ None))
  limits_of =
      let first = neither_limit (whole_limit space in_ways) _ within in
      (first.0, neither_limit (whole_limit space out_ways) _ first.1)

  limit_at : (c : Crossing) → IsAmong ways c → joined_limit space c.port.shape ≡ None
  limit_at c a =
      elim (among_append in_ways out_ways c a) [
        | inl b ↦ none_at (λ (d : Crossing). joined_limit space d.port.shape) in_ways c limits_of.0 b
        | inr b ↦ none_at (λ (d : Crossing). joined_limit space d.port.shape) out_ways c limits_of.1.0 b
      ]

  port_read : (cs : List Crossing) → ((c : Crossing) → IsAmong cs c → IsAmong ways c) → AllByRecursion IsReadPort (map (whole_port space) cs)
  port_read cs listed =
      all_made IsReadPort (whole_port space) cs
      (λ c a.
      let shape = shape_is c (listed c a) in
      let fits = joined_fits space c.port.shape (limit_at c (listed c a)) in
      let rank : length (space ++ c.port.shape) ≤ 12 = omega (arith, fits.0, length-append space c.port.shape) in
      record {
        port = record { rank = rank; entry = all-both IsEntry space c.port.shape space_is.entry shape.entry; points = fits.1 };
        named = port_named s.task c.port read (port_of c (listed c a));
      })

  abbrev new_ins : List Port
  new_ins = map (whole_port space) in_ways

  abbrev new_outs : List Port
  new_outs = map (whole_port space) out_ways

  few_ports : length new_ins + length new_outs ≤ max_ports
  few_ports = go (nat_lt max_ports (length new_ins + length new_outs)) refl limits_of.1.1
    where
      go : (b : Bool) → nat_lt max_ports (length new_ins + length new_outs) ≡ b → cond b (Some limits.Ports) None ≡ None → length new_ins + length new_outs ≤ max_ports
      go true e h = cc
      go false e h = ltb-false max_ports (length new_ins + length new_outs) e

  few_ways : length ways ≤ max_ports
  few_ways = omega (arith, few_ports, length-append in_ways out_ways, length-map in_ways (whole_port space), length-map out_ways (whole_port space))

  output_there : 1 ≤ length new_outs
  output_there = by_outs t.outs refl old.output
    where
      by_outs : (ys : List Port) → t.outs ≡ ys → 1 ≤ length ys → 1 ≤ length new_outs
      by_outs [] e h = absurd (omega (arith, h))
      by_outs (y ∷ ys) e h =
          let c = output_way ts t u s.top s.low s.once s.apart y (subst (λ ps. IsAmong ps y) (sym e) (0, (omega arith, refl))) in
          omega (arith, c.1.1.0, length-map out_ways (whole_port space))

  -- the inner repetition is as one that was read
  pub inner_read : (name : List ℕ) → is_name name ≡ true → IsReadTask (tasks.Repeated (made ts t u s.top s.low s.once s.apart space name))
  inner_read name named =
      let ins_read = port_read in_ways (λ c a. in_all ts t u s.top s.low s.once s.apart c a) in
      let outs_read = port_read out_ways (λ c a. out_all ts t u s.top s.low s.once s.apart c a) in
      let few = few_ports in
      let few_tilers = few_ways in
      let ports : List Port = new_ins ++ new_outs in
      let names : list_all is_name (map (λ (p : Port). p.name) ports ++ []) ≡ true =
      list_all-append is_name (map (λ (p : Port). p.name) ports) [] ∙ both (list_all is_name (map (λ (p : Port). p.name) ports)) true (port_names ports (all-both IsReadPort new_ins new_outs ins_read outs_read)) refl in
      record {
        types = record {
          ins = all-weaker IsReadPort IsPort new_ins (λ p r. r.port) ins_read;
          outs = all-weaker IsReadPort IsPort new_outs (λ p r. r.port) outs_read;
          space = space_is;
          tilers = all_made IsTilerOn (whole_tiler space) ways (λ c a. inner_is_tiler space c.port.shape (joined_fits space c.port.shape (limit_at c a)).0);
          links = tt;
          in_count = omega (arith, few);
          out_count = omega (arith, few);
          tiler_count = omega (arith, few_tilers, length-map ways (whole_tiler space));
          link_count = omega arith;
        };
        names = both (is_name name) (list_all is_name (map (λ (p : Port). p.name) ports ++ [])) named names;
        output = output_there;
      }

  -- so is the outer one
  pub outer_read : (outer block name : List ℕ) → IsShape outer → space ≡ block ++ u.space → length outer ≡ length t.space → length block ≡ length t.space → outer_limit block in_ways ≡ None → outer_limit block out_ways ≡ None
      → IsReadTask (tasks.Repeated (outer_task t ways outer block name))
  outer_read outer block name outer_is is outer_rank block_rank in_limit out_limit =
      let few_tilers = few_ways in
      record {
        types = record {
          ins = old.types.ins;
          outs = old.types.outs;
          space = outer_is;
          tilers = all_made IsTilerOn (outer_tiler block) ways tiler_is;
          links = tt;
          in_count = old.types.in_count;
          out_count = old.types.out_count;
          tiler_count = omega (arith, few_tilers, length-map ways (outer_tiler block));
          link_count = omega arith;
        };
        names = old.names;
        output = old.output;
      }
    where
      no_limit : (c : Crossing) → IsAmong ways c → crossing_limit block c ≡ None
      no_limit c a =
          elim (among_append in_ways out_ways c a) [
            | inl b ↦ none_at (crossing_limit block) in_ways c in_limit b
            | inr b ↦ none_at (crossing_limit block) out_ways c out_limit b
          ]

      outer_among : (c : Crossing) → IsAmong ways c → IsAmong t.tilers c.outer
      outer_among c a = elim (way ts t u s.top s.low s.once s.apart c a) [ inl w ↦ w.outer_among | inr w ↦ w.outer_among ]

      tiler_is : (c : Crossing) → IsAmong ways c → IsTiler (crossed_tiler block c)
      tiler_is c a =
          let f = fit ts t u s.top s.low s.once s.apart c a in
          let by = fits_by c.outer.tiler f.array t.space f.between f.outer_fit in
          let old_tiler : IsTiler c.outer.tiler = one_of_all IsTilerOn t.tilers c.outer old.types.tilers (outer_among c a) in
          let array_rank : length c.outer.tiler.origin ≤ 12 = old_tiler.origin.rank in
          let outer_few : length outer ≤ 12 = outer_is.rank in
          let room : length space + length c.port.shape ≤ 12 = (joined_fits space c.port.shape (limit_at c a)).0 in
          fits_is_tiler (crossed_tiler block c) f.array outer ((block ++ u.space) ++ c.port.shape) (crossed_fits c f.array t.space f.between u.space outer block f.outer_fit f.inner_fit outer_rank block_rank)
          (omega (arith, array_rank, by.origin)) outer_few (omega (arith, room, ap length is, length-append (block ++ u.space) c.port.shape))
          (neither_limit (tiler_limit (composed c.outer.tiler c.inner.tiler)) (tiler_limit (crossed_tiler block c)) (no_limit c a)).1
