-- The new tasks of a fusion are as ones that were read.
use Rattle.std.proofs.Common.{◌≡◌, ℕ, zero, suc, ◌+◌, ◌^◌, ◌≤◌, ◌<◌, Bool, true, false, cond, ◌&&◌, nat_lt, List, [], ◌∷◌, ◌++◌, length, map, flat_map, codes, Option, Some, None, unwrap_or, sym, ◌∙◌, ap, refl, arith, subst, ◌⊎◌, inl, inr}
use Rattle.std.specs.List.{IsAmong, AllByRecursion, list_all}
use Rattle.std.proofs.lemmas.Bool.{ltb-false}
use Rattle.std.proofs.lemmas.List.{length-append, length-map}
use Rattle.std.proofs.lemmas.List.Folds.{list_all-append, list_all-map}
use Rattle.aol_shape.specs.declared.limit.LimitName.TheVariants as limits
use Rattle.aol_shape.specs.declared.limit.LimitName.{LimitName}
use Rattle.aol_shape.specs.Lists.{same, first_some}
use Rattle.aol_shape.specs.Shape.{IsShape, IsEntry}
use Rattle.aol_shape.specs.Texts.{is_name}
use Rattle.aol_tiler.specs.Matrices.{TilerOf}
use Rattle.aol_tiler.specs.Tiler.{IsTiler, fits, substituted}
use Rattle.aol_expr_tree.specs.declared.port.Port.{Port}
use Rattle.aol_link.specs.declared.link.Interlink.{Interlink}
use Rattle.aol_link.specs.Types.{IsInterlink}
use Rattle.aol_model_types.specs.declared.job.FuseArgs.{FuseArgs}
use Rattle.aol_model_types.specs.declared.job.Pick.{Pick}
use Rattle.aol_model_types.specs.declared.task.Compound.{Compound}
use Rattle.aol_model_types.specs.declared.task.Copied.{Copied}
use Rattle.aol_model_types.specs.declared.task.Part.{Part}
use Rattle.aol_model_types.specs.declared.task.Repeated.{Repeated}
use Rattle.aol_model_types.specs.declared.task.Task.{Task}
use Rattle.aol_model_types.specs.declared.task.Task.TheVariants as tasks
use Rattle.aol_model_types.specs.declared.task.TilerOn.{TilerOn}
use Rattle.aol_model_types.specs.Reading.{max_ports}
use Rattle.aol_model_types.specs.Rules.{inputs_of, outputs_of, port_shape}
use Rattle.aol_model_types.specs.Types.{IsPort, IsPick, IsCopied, IsReadPort, IsReadTask, IsTilerOn}
use Rattle.aol_flat.specs.Home.{tiler_at}
use Rattle.aol_flat.proofs.Among.{among_append, among_map, among_flat_map}
use Rattle.aol_flat.proofs.Inside.{among_left, among_right}
use Rattle.aol_flat.proofs.Names.{both-true}
use Rattle.aol_flat.proofs.Once.{found_among, all_at}
use Rattle.aol_flat.proofs.Shapes.{found_port}
use Rattle.aol_flat.proofs.Truth.{both}
use Rattle.aol_change.specs.Change.{joined_limit, ports_limit, tiler_limit}
use Rattle.aol_change.specs.declared.tasks.Side.{Side}
use Rattle.aol_change.specs.declared.tasks.Side.TheVariants.{Inputs, Outputs}
use Rattle.aol_change.proofs.ChangedRead.{all-both, all-weaker}
use Rattle.aol_change.proofs.Room.{joined_fits, neither_limit}
use Rattle.aol_change.proofs.TilerForms.{inner_is_tiler}
use Rattle.aol_fusion_parts.specs.declared.ports.FusedNames.{FusedNames}
use Rattle.aol_fusion_parts.specs.Changed.{first_goes, changed_to, changed_from, changed_reshape, changed_part, copied_to, fused_compound}
use Rattle.aol_fusion_parts.specs.Made.{over_space, tiler_over_space, over_limit, block_of_first, block_limit, once_port, once_shape, once_tiler, once_tiling, once_port_limit, once_of_second, once_limit, source_shape, links_in, links_out, pick_link, pick_links, pair_of_both, pair_limit}
use Rattle.aol_fusion_parts.specs.Joined.{pick_to}
use Rattle.aol_fusion_parts.specs.Ports.{renamed}
use Rattle.aol_fusion_parts.specs.Whole.{fused_repetition, placed_tilers, moved_tilers, placed_limit, all_placed_limit, whole_limit}
use Rattle.aol_fusion_parts.proofs.Parts.{length_links_in}
use Rattle.aol_fusion_laws.proofs.NewWires.{new_wire, new_wires, placed_are, moved_are, each_wire}
use Rattle.aol_fusion_laws.proofs.Renamed.{length_renamed}
use Rattle.aol_fusion_laws.proofs.Substituted.{substituted_fits}
use Rattle.aol_fusion_laws.proofs.TilersOf.{FitsSide}
use Rattle.aol_fusion_laws.proofs.Wired.{Wire, tiler_of}
use Rattle.aol_paving.proofs.CrossedTilers.{fits_is_tiler}
use Rattle.aol_paving.proofs.Members.{all_among, all_made, all_pass, one_of_all}
use Rattle.aol_paving.proofs.ReadPorts.{ports_within, port_named}
use Rattle.aol_fusion_rules.proofs.PortNames.{port_name_is}

-- ---- limits

none_at : {X : Type 0} (f : X → Option LimitName) (xs : List X) (x : X) → first_some (map f xs) ≡ None → IsAmong xs x → f x ≡ None
none_at f [] x h a = absurd (omega (arith, a.1.0))
none_at {X = X} f (y ∷ xs) x h a = go (f y) refl h a (none_at f xs x)
  where
    go : (o : Option LimitName) → f y ≡ o → first_some (o ∷ map f xs) ≡ None → IsAmong (y ∷ xs) x → (first_some (map f xs) ≡ None → IsAmong xs x → f x ≡ None) → f x ≡ None
    go (Some v) e k b rest = cc
    go None e k (zero, b) rest = ap f b.1 ∙ e
    go None e k (suc i, b) rest = rest k (i, (omega (arith, b.0), b.1))

-- the ports of a task are few
pub ports_few : (ins outs : List Port) → ports_limit ins outs ≡ None → length ins + length outs ≤ 64
ports_few ins outs h = go (nat_lt max_ports (length ins + length outs)) refl h
  where
    go : (b : Bool) → nat_lt max_ports (length ins + length outs) ≡ b → cond b (Some limits.Ports) None ≡ None → length ins + length outs ≤ 64
    go true e k = cc
    go false e k = let few : length ins + length outs ≤ max_ports = ltb-false max_ports (length ins + length outs) e in few

-- a joined shape within the limits
pub joined_shape : (block shape : List ℕ) → IsShape block → IsShape shape → joined_limit block shape ≡ None → IsShape (block ++ shape)
joined_shape block shape b s h =
    let fit = joined_fits block shape h in
    record { rank = (let few : length (block ++ shape) ≤ 12 = omega (arith, fit.0, length-append block shape) in few); entry = all-both IsEntry block shape b.entry s.entry; points = fit.1 }

-- ---- ports

-- a port of a task that was read
pub old_port : (u : Task) (p : Port) → IsReadTask u → IsAmong (inputs_of u ++ outputs_of u) p → IsReadPort p
old_port u p read a = record { port = one_of_all IsPort (inputs_of u ++ outputs_of u) p (ports_within u read.types) a; named = port_named u p read a }

pub old_input : (u : Task) (p : Port) → IsReadTask u → IsAmong (inputs_of u) p → IsReadPort p
old_input u p read a = old_port u p read (among_left (inputs_of u) (outputs_of u) p a)

pub old_output : (u : Task) (p : Port) → IsReadTask u → IsAmong (outputs_of u) p → IsReadPort p
old_output u p read a = old_port u p read (among_right (inputs_of u) (outputs_of u) p a)

-- the shape of a port by its name
pub named_shape : (ports : List Port) (n shape : List ℕ) → ((p : Port) → IsAmong ports p → IsReadPort p) → port_shape ports n ≡ Some shape → IsShape shape
named_shape ports n shape each h = let p = found_port ports n shape h in subst IsShape p.3 (each p.0 p.1).port

port_names : (ps : List Port) → AllByRecursion IsReadPort ps → list_all is_name (map (λ (p : Port). p.name) ps) ≡ true
port_names [] h = refl
port_names (p ∷ ps) h = both (is_name p.name) (list_all is_name (map (λ (q : Port). q.name) ps)) h.0.named (port_names ps h.1)

-- numbered ports
pub renamed_read : (side : Side) (k : ℕ) (ports : List Port) → k + length ports ≤ 9223372036854775808 → ((p : Port) → IsAmong ports p → IsPort p) → AllByRecursion IsReadPort (renamed side k ports)
renamed_read side k [] few each = tt
renamed_read side k (p ∷ ports) few each = (
  record { port = each p (0, (omega arith, refl)); named = port_name_is side k (omega (arith, few)) },
  renamed_read side (k + 1) ports (omega (arith, few)) (λ q a. each q (suc a.0, (omega (arith, a.1.0), a.1.1))),
)

-- ---- a new repetition

pub record IsReadRepetition (t : Repeated) : Type 0 where
  pub named : is_name t.name ≡ true
  pub ins : AllByRecursion IsReadPort t.ins
  pub outs : AllByRecursion IsReadPort t.outs
  pub space : IsShape t.space
  pub tilers : AllByRecursion IsTilerOn t.tilers
  pub plain : t.links ≡ []
  pub few : length t.ins + length t.outs ≤ 64
  pub few_tilers : length t.tilers < 2 ^ 32
  pub output : 1 ≤ length t.outs

names_hold : (name : List ℕ) (ins outs : List Port) (rest : List (List ℕ)) → is_name name ≡ true → AllByRecursion IsReadPort ins → AllByRecursion IsReadPort outs → list_all is_name rest ≡ true
    → list_all is_name (name ∷ map (λ (p : Port). p.name) (ins ++ outs) ++ rest) ≡ true
names_hold name ins outs rest named i o r =
    both (is_name name) (list_all is_name (map (λ (p : Port). p.name) (ins ++ outs) ++ rest)) named
    (list_all-append is_name (map (λ (p : Port). p.name) (ins ++ outs)) rest
    ∙ both (list_all is_name (map (λ (p : Port). p.name) (ins ++ outs))) (list_all is_name rest) (port_names (ins ++ outs) (all-both IsReadPort ins outs i o)) r)

pub repetition_read : (t : Repeated) → IsReadRepetition t → IsReadTask (tasks.Repeated t)
repetition_read t h =
    let few = h.few in
    let P : List Interlink → Type 0 = λ ls. AllByRecursion IsInterlink ls in
    record {
      types = record {
        ins = all-weaker IsReadPort IsPort t.ins (λ p r. r.port) h.ins;
        outs = all-weaker IsReadPort IsPort t.outs (λ p r. r.port) h.outs;
        space = h.space;
        tilers = h.tilers;
        links = subst P (sym h.plain) tt;
        in_count = omega (arith, few);
        out_count = omega (arith, few);
        tiler_count = h.few_tilers;
        link_count = (let none : length t.links ≡ 0 = ap length h.plain in omega (arith, none));
      };
      names = names_hold t.name t.ins t.outs [] h.named h.ins h.outs refl;
      output = h.output;
    }

-- ---- the repetition over one block

module _ (block : List ℕ) (is : IsShape block) where
  pub over_read : (ports : List Port) → ((p : Port) → IsAmong ports p → IsReadPort p) → over_limit block ports ≡ None → AllByRecursion IsReadPort (map (over_space block) ports)
  over_read ports each none =
      all_made IsReadPort (over_space block) ports
      (λ p a. record { port = joined_shape block p.shape is (each p a).port (none_at (λ (q : Port). joined_limit block q.shape) ports p none a); named = (each p a).named })

  pub over_tilers : (ports : List Port) → over_limit block ports ≡ None → AllByRecursion IsTilerOn (map (tiler_over_space block) ports)
  over_tilers ports none =
      all_made IsTilerOn (tiler_over_space block) ports
      (λ p a. inner_is_tiler block p.shape (joined_fits block p.shape (none_at (λ (q : Port). joined_limit block q.shape) ports p none a)).0)

  pub block_read : (name task : List ℕ) (ins outs : List Port) → is_name name ≡ true → ((p : Port) → IsAmong ins p → IsReadPort p) → ((p : Port) → IsAmong outs p → IsReadPort p) → 1 ≤ length outs → block_limit block ins outs ≡ None
      → IsReadTask (tasks.Repeated (block_of_first name block task ins outs))
  block_read name task ins outs named in_read out_read some none =
      let a = neither_limit (over_limit block ins) _ none in
      let b = neither_limit (over_limit block outs) (ports_limit (map (over_space block) ins) (map (over_space block) outs)) a.1 in
      let few : length (map (over_space block) ins) + length (map (over_space block) outs) ≤ 64 = ports_few (map (over_space block) ins) (map (over_space block) outs) b.1 in
      let i = length-map ins (over_space block) in
      let o = length-map outs (over_space block) in
      let ti = length-map ins (tiler_over_space block) in
      let to = length-map outs (tiler_over_space block) in
      repetition_read (block_of_first name block task ins outs)
      (record {
        named = named;
        ins = over_read ins in_read a.0;
        outs = over_read outs out_read b.0;
        space = is;
        tilers = all-both IsTilerOn (map (tiler_over_space block) ins) (map (tiler_over_space block) outs) (over_tilers ins a.0) (over_tilers outs b.0);
        plain = refl;
        few = few;
        few_tilers = omega (arith, length-append (map (tiler_over_space block) ins) (map (tiler_over_space block) outs), few, i, o, ti, to);
        output = omega (arith, some, o);
      })

  -- ---- one run

  no_space : IsShape []
  no_space = record { rank = omega arith; entry = tt; points = omega arith }

  pub once_read : (name task : List ℕ) (sources : List Port) (picks : List Pick) (ins outs : List Port) → is_name name ≡ true → AllByRecursion IsPick picks → ((p : Port) → IsAmong sources p → IsReadPort p)
      → ((p : Port) → IsAmong ins p → IsReadPort p) → ((p : Port) → IsAmong outs p → IsReadPort p) → 1 ≤ length outs → once_limit block sources picks ins outs ≡ None
      → IsReadTask (tasks.Repeated (once_of_second name task block sources picks ins outs))
  once_read name task sources picks ins outs named picked source_read in_read out_read some none =
      let limit_of : Port → Option LimitName = λ v. once_port_limit block sources (pick_to picks v.name) in
      let a = neither_limit (first_some (map limit_of ins)) (ports_limit (map (once_port block sources picks) ins) outs) none in
      let few : length (map (once_port block sources picks) ins) + length outs ≤ 64 = ports_few (map (once_port block sources picks) ins) outs a.1 in
      let i = length-map ins (once_port block sources picks) in
      let ti = length-map ins (once_tiler picks) in
      let to = length-map outs (tiler_over_space []) in
      repetition_read (once_of_second name task block sources picks ins outs)
      (record {
        named = named;
        ins = all_made IsReadPort (once_port block sources picks) ins (λ p b. record { port = shape_of p b (pick_to picks p.name) (none_at limit_of ins p a.0 b); named = (in_read p b).named });
        outs = all_among IsReadPort outs out_read;
        space = no_space;
        tilers = all-both IsTilerOn (map (once_tiler picks) ins) (map (tiler_over_space []) outs) (all_made IsTilerOn (once_tiler picks) ins (λ p b. tiler_is p b (pick_to picks p.name) refl))
            (all_made IsTilerOn (tiler_over_space []) outs (λ p b. inner_is_tiler [] p.shape (let rank : length p.shape ≤ 12 = (out_read p b).port.rank in omega (arith, rank))));
        plain = refl;
        few = few;
        few_tilers = omega (arith, length-append (map (once_tiler picks) ins) (map (tiler_over_space []) outs), few, i, ti, to);
        output = some;
      })
    where
      source_is : (k : Pick) (o : Option (List ℕ)) → port_shape sources k.from ≡ o → IsShape (unwrap_or o [])
      source_is k None e = no_space
      source_is k (Some s) e = named_shape sources k.from s source_read e

      shape_of : (p : Port) → IsAmong ins p → (o : Option Pick) → once_port_limit block sources o ≡ None → IsShape (once_shape block sources o p.shape)
      shape_of p b None h = (in_read p b).port
      shape_of p b (Some k) h = joined_shape block (source_shape sources k) is (source_is k (port_shape sources k.from) refl) h

      tiler_is : (p : Port) → IsAmong ins p → (o : Option Pick) → pick_to picks p.name ≡ o → IsTiler (once_tiling o p.shape)
      tiler_is p b None e = inner_is_tiler [] p.shape (let rank : length p.shape ≤ 12 = (in_read p b).port.rank in omega (arith, rank))
      tiler_is p b (Some k) e = one_of_all IsPick picks k picked (found_among (λ (x : Pick). same x.to p.name) picks k e)

-- ---- both side by side

few_picks : (picks : List Pick) (ports : List Port) → length (pick_links picks ports) ≤ length ports
few_picks picks [] = omega arith
few_picks picks (p ∷ ports) = go (pick_to picks p.name) (few_picks picks ports)
  where
    go : (o : Option Pick) → length (pick_links picks ports) ≤ length ports → length (pick_link p.name o ++ pick_links picks ports) ≤ suc (length ports)
    go None h = omega (arith, h)
    go (Some k) h = omega (arith, h)

few_out : (k : ℕ) (ports : List Port) → length (links_out k ports) ≡ length ports
few_out k [] = refl
few_out k (p ∷ ports) = ap (λ n. suc n) (few_out (k + 1) ports)

pub pair_read : (n : FusedNames) (picks : List Pick) (block picked free outs : List Port) → is_name n.pair ≡ true → ((p : Port) → IsAmong (block ++ free) p → IsPort p) → ((p : Port) → IsAmong outs p → IsPort p) → length picked ≤ 64
    → 1 ≤ length outs → pair_limit block free outs ≡ None → IsReadTask (tasks.Compound (pair_of_both n picks block picked free outs))
pair_read n picks block picked free outs named in_read out_read few_picked some none =
    let pair : Compound = pair_of_both n picks block picked free outs in
    let few : length (renamed Inputs 0 (block ++ free)) + length (renamed Outputs 0 outs) ≤ 64 = ports_few (renamed Inputs 0 (block ++ free)) (renamed Outputs 0 outs) none in
    let i = length_renamed Inputs 0 (block ++ free) in
    let o = length_renamed Outputs 0 outs in
    let ins : AllByRecursion IsReadPort (renamed Inputs 0 (block ++ free)) = renamed_read Inputs 0 (block ++ free) (omega (arith, few, i)) in_read in
    let out : AllByRecursion IsReadPort (renamed Outputs 0 outs) = renamed_read Outputs 0 outs (omega (arith, few, o)) out_read in
    record {
      types = record {
        ins = all-weaker IsReadPort IsPort (renamed Inputs 0 (block ++ free)) (λ p r. r.port) ins;
        outs = all-weaker IsReadPort IsPort (renamed Outputs 0 outs) (λ p r. r.port) out;
        reshapes = tt;
        in_count = omega (arith, few);
        out_count = omega (arith, few);
        part_count = omega arith;
        link_count = (
            let a = length_links_in (codes "first") 0 block in
            let b = length_links_in (codes "second") (length block) free in
            let c = few_picks picks picked in
            let d = few_out 0 outs in
            omega (
              arith,
              a,
              b,
              c,
              d,
              few,
              i,
              o,
              few_picked,
              length-append block free,
              length-append (links_in (codes "first") 0 block ++ links_in (codes "second") (length block) free ++ pick_links picks picked) (links_out 0 outs),
              length-append (links_in (codes "first") 0 block ++ links_in (codes "second") (length block) free) (pick_links picks picked),
              length-append (links_in (codes "first") 0 block) (links_in (codes "second") (length block) free),
            ));
        reshape_count = omega arith;
      };
      names = names_hold n.pair (renamed Inputs 0 (block ++ free)) (renamed Outputs 0 outs) (codes "first" ∷ codes "second" ∷ []) named ins out refl;
      output = omega (arith, some, o);
    }

-- ---- the fused repetition

few_wires : (t : Repeated) (side : Side) (before : ℕ) (outer : List Port) (change : TilerOf → TilerOf) (port : Port → Port) (k : ℕ) (ports : List Port) → length (new_wires t side before outer change port k ports) ≤ length ports
few_wires t side before outer change port k [] = omega arith
few_wires t side before outer change port k (p ∷ ports) = go (tiler_at t p.name) (few_wires t side before outer change port (k + 1) ports)
  where
    rest : List Wire
    rest = new_wires t side before outer change port (k + 1) ports

    go : (o : Option TilerOn) → length rest ≤ length ports → length (new_wire side before outer change port k p o ++ rest) ≤ suc (length ports)
    go None h = omega (arith, h)
    go (Some o) h = omega (arith, h)

-- what is known of the tilers of the first repetition, and of the ports of both
pub record IsReadWhole (args : FuseArgs) (one two : Repeated) (unjoined block free outs : List Port) : Type 0 where
  pub one_read : IsReadTask (tasks.Repeated one)
  pub two_read : IsReadTask (tasks.Repeated two)
  pub unjoined_read : (p : Port) → IsAmong unjoined p → IsPort p
  pub fit : (p : Port) (o : TilerOn) → IsAmong block p → tiler_at one p.name ≡ Some o → FitsSide one one.ins o p
  pub spaces : fits args.tiler one.space two.space args.block ≡ true
  pub room : over_limit args.block block ≡ None
  pub few_block : length block ≤ 64
  pub few_free : length free ≤ 64
  pub few_outs : length outs ≤ 64

module _ (name pair : List ℕ) (args : FuseArgs) (one two : Repeated) (unjoined block free outs : List Port) (h : IsReadWhole args one two unjoined block free outs) where
  placed_read : all_placed_limit one args.tiler block ≡ None → AllByRecursion IsTilerOn (placed_tilers one args.tiler 0 block)
  placed_read none =
      let P : List TilerOn → Type 0 = λ os. AllByRecursion IsTilerOn os in
      let wires : List Wire = new_wires one Inputs 0 one.ins (λ a. substituted a args.tiler) (λ p. p) 0 block in
      subst P (placed_are one args.tiler (λ p. p) 0 block)
      (all_made IsTilerOn tiler_of wires
      (λ w a.
      each_wire (λ z. IsTiler z.tiler) one Inputs 0 one.ins (λ t. substituted t args.tiler) (λ p. p) 0 block w
      (λ j p o b e.
      let f = h.fit p o b e in
      let array : IsShape f.array = named_shape one.ins o.outer f.array (λ q c. old_input (tasks.Repeated one) q h.one_read c) f.outside in
      let room = (joined_fits args.block p.shape (none_at (λ (q : Port). joined_limit args.block q.shape) block p h.room b)).0 in
      let rank : length f.array ≤ 12 = array.rank in
      let space : length two.space ≤ 12 = h.two_read.types.space.rank in
      let limit : tiler_limit (substituted o.tiler args.tiler) ≡ None = ap (placed_limit args.tiler) (sym e) ∙ none_at (λ (q : Port). placed_limit args.tiler (tiler_at one q.name)) block p none b in
      fits_is_tiler (substituted o.tiler args.tiler) f.array two.space (args.block ++ p.shape) (substituted_fits o.tiler args.tiler f.array one.space two.space args.block p.shape f.fit h.spaces) rank space
      (let few : length (args.block ++ p.shape) ≤ 12 = omega (arith, room, length-append args.block p.shape) in few) limit) a))

  moved_read : (side : Side) (before : ℕ) (outer : List Port) (k : ℕ) (ports : List Port) → AllByRecursion IsTilerOn (moved_tilers two side before outer k ports)
  moved_read side before outer k ports =
      let P : List TilerOn → Type 0 = λ os. AllByRecursion IsTilerOn os in
      subst P (moved_are two side before outer (λ p. p) k ports)
      (all_made IsTilerOn tiler_of (new_wires two side before outer (λ a. a) (λ p. p) k ports)
      (λ w a.
      each_wire (λ z. IsTiler z.tiler) two side before outer (λ t. t) (λ p. p) k ports w
      (λ j p o b e. one_of_all IsTilerOn two.tilers o h.two_read.types.tilers (found_among (λ (x : TilerOn). same x.inner p.name) two.tilers o e)) a))

  few_moved : (side : Side) (before : ℕ) (outer : List Port) (k : ℕ) (ports : List Port) → length (moved_tilers two side before outer k ports) ≤ length ports
  few_moved side before outer k ports =
      let wires : List Wire = new_wires two side before outer (λ a. a) (λ p. p) k ports in
      let same_length : length (moved_tilers two side before outer k ports) ≡ length wires = ap length (sym (moved_are two side before outer (λ p. p) k ports)) ∙ length-map wires tiler_of in
      omega (arith, same_length, few_wires two side before outer (λ a. a) (λ p. p) k ports)

  few_placed : length (placed_tilers one args.tiler 0 block) ≤ length block
  few_placed =
      let wires : List Wire = new_wires one Inputs 0 one.ins (λ a. substituted a args.tiler) (λ p. p) 0 block in
      let same_length : length (placed_tilers one args.tiler 0 block) ≡ length wires = ap length (sym (placed_are one args.tiler (λ p. p) 0 block)) ∙ length-map wires tiler_of in
      omega (arith, same_length, few_wires one Inputs 0 one.ins (λ a. substituted a args.tiler) (λ p. p) 0 block)

  pub whole_read : is_name name ≡ true → whole_limit one two args.tiler unjoined block ≡ None → IsReadTask (tasks.Repeated (fused_repetition name pair one two args.tiler unjoined block free outs))
  whole_read named none =
      let a = neither_limit (ports_limit (renamed Inputs 0 (one.ins ++ unjoined)) (renamed Outputs 0 two.outs)) (all_placed_limit one args.tiler block) none in
      let few : length (renamed Inputs 0 (one.ins ++ unjoined)) + length (renamed Outputs 0 two.outs) ≤ 64 = ports_few (renamed Inputs 0 (one.ins ++ unjoined)) (renamed Outputs 0 two.outs) a.0 in
      let i = length_renamed Inputs 0 (one.ins ++ unjoined) in
      let o = length_renamed Outputs 0 two.outs in
      let first = placed_tilers one args.tiler 0 block in
      let second = moved_tilers two Inputs (length one.ins) unjoined (length block) free in
      let third = moved_tilers two Outputs 0 two.outs 0 outs in
      let b = few_placed in
      let c = few_moved Inputs (length one.ins) unjoined (length block) free in
      let d = few_moved Outputs 0 two.outs 0 outs in
      let e = h.few_block in
      let g = h.few_free in
      let k = h.few_outs in
      let old_out : 1 ≤ length two.outs = h.two_read.output in
      repetition_read (fused_repetition name pair one two args.tiler unjoined block free outs)
      (record {
        named = named;
        ins = renamed_read Inputs 0 (one.ins ++ unjoined) (omega (arith, few, i)) (λ p e. by_side p (among_append one.ins unjoined p e));
        outs = renamed_read Outputs 0 two.outs (omega (arith, few, o)) (λ p e. (old_output (tasks.Repeated two) p h.two_read e).port);
        space = h.two_read.types.space;
        tilers = all-both IsTilerOn (first ++ second) third (all-both IsTilerOn first second (placed_read a.1) (moved_read Inputs (length one.ins) unjoined (length block) free)) (moved_read Outputs 0 two.outs 0 outs);
        plain = refl;
        few = few;
        few_tilers = omega (arith, b, c, d, e, g, k, length-append (first ++ second) third, length-append first second);
        output = omega (arith, old_out, o);
      })
    where
      by_side : (p : Port) → IsAmong one.ins p ⊎ IsAmong unjoined p → IsPort p
      by_side p (inl e) = (old_input (tasks.Repeated one) p h.one_read e).port
      by_side p (inr e) = h.unjoined_read p e

-- ---- the changed compound

fewer_parts : (args : FuseArgs) (whole : List ℕ) (goes : Bool) (parts : List Part) → length (flat_map (changed_part args whole goes) parts) ≤ length parts
fewer_parts args whole goes [] = omega arith
fewer_parts args whole goes (p ∷ parts) = omega (arith, length-append (changed_part args whole goes p) (flat_map (changed_part args whole goes) parts), one (same p.name args.second) (same p.name args.first) goes, fewer_parts args whole goes parts)
  where
    one : (b d g : Bool) → length (cond b (record { name = p.name; task = whole } ∷ []) (cond (d && g) [] (p ∷ []))) ≤ 1
    one true d g = omega arith
    one false true true = omega arith
    one false true false = omega arith
    one false false g = omega arith

part_name : (args : FuseArgs) (whole : List ℕ) (goes : Bool) (x y : Part) → IsAmong (changed_part args whole goes x) y → y.name ≡ x.name
part_name args whole goes x y a = go (same x.name args.second) (same x.name args.first && goes) a
  where
    go : (b d : Bool) → IsAmong (cond b (record { name = x.name; task = whole } ∷ []) (cond d [] (x ∷ []))) y → y.name ≡ x.name
    go true d (zero, e) = ap (λ (p : Part). p.name) e.1
    go true d (suc i, e) = absurd (omega (arith, e.0))
    go false true e = absurd (omega (arith, e.1.0))
    go false false (zero, e) = ap (λ (p : Part). p.name) e.1
    go false false (suc i, e) = absurd (omega (arith, e.0))

pub changed_read : (args : FuseArgs) (c : Compound) (one two : Repeated) (unjoined : List Port) (whole : List ℕ) → IsReadTask (tasks.Compound c) → length (fused_compound args c one two unjoined whole).links < 2 ^ 32
    → length (fused_compound args c one two unjoined whole).reshapes < 2 ^ 32 → IsReadTask (tasks.Compound (fused_compound args c one two unjoined whole))
changed_read args c one two unjoined whole old few_links few_reshapes =
    let goes : Bool = first_goes args c in
    let few : length c.parts < 2 ^ 32 = old.types.part_count in
    let front : List (List ℕ) = map (λ (p : Port). p.name) (c.ins ++ c.outs) in
    let named = both-true (is_name c.name) (list_all is_name (front ++ map (λ (p : Part). p.name) c.parts)) old.names in
    let parts = both-true (list_all is_name front) (list_all is_name (map (λ (p : Part). p.name) c.parts)) (sym (list_all-append is_name front (map (λ (p : Part). p.name) c.parts)) ∙ named.1) in
    let each : list_all (λ (p : Part). is_name p.name) c.parts ≡ true = sym (list_all-map is_name (λ (p : Part). p.name) c.parts) ∙ parts.1 in
    record {
      types = record {
        ins = old.types.ins;
        outs = old.types.outs;
        reshapes = all_among IsCopied (flat_map (changed_reshape args one two unjoined goes) c.reshapes) (λ k a. copied k (among_flat_map (changed_reshape args one two unjoined goes) c.reshapes k a));
        in_count = old.types.in_count;
        out_count = old.types.out_count;
        part_count = omega (arith, few, fewer_parts args whole goes c.parts);
        link_count = few_links;
        reshape_count = few_reshapes;
      };
      names = both (is_name c.name) _ named.0
          (list_all-append is_name front (map (λ (p : Part). p.name) (flat_map (changed_part args whole goes) c.parts))
          ∙ both (list_all is_name front) (list_all is_name (map (λ (p : Part). p.name) (flat_map (changed_part args whole goes) c.parts))) parts.0
          (list_all-map is_name (λ (p : Part). p.name) (flat_map (changed_part args whole goes) c.parts)
          ∙ all_pass (λ (p : Part). is_name p.name) (flat_map (changed_part args whole goes) c.parts)
          (λ y a.
          let x = among_flat_map (changed_part args whole goes) c.parts y a in
          ap is_name (part_name args whole goes x.0 y x.2) ∙ all_at (λ (p : Part). is_name p.name) c.parts x.0 each x.1)));
      output = old.output;
    }
  where
    copied : (k : Copied) → (r : Copied) × IsAmong c.reshapes r × IsAmong (changed_reshape args one two unjoined (first_goes args c) r) k → IsCopied k
    copied k r =
        let e = among_map (copied_to (changed_from args two r.0.from) r.0.by) (changed_to args one unjoined (first_goes args c) r.0.to) k r.2 in
        subst IsCopied (sym e.2) (one_of_all IsCopied c.reshapes r.0 old.types.reshapes r.1)
