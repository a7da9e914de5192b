-- A repetition whose ports have the names of the inner ports: the repetition over a block, and one run.
use Rattle.std.proofs.Common.{◌≡◌, ℕ, zero, suc, Bool, true, false, cond, List, [], ◌∷◌, ◌++◌, map, filter, Some, sym, ◌∙◌, ap, refl, arith, subst}
use Rattle.std.specs.List.{IsAmong}
use Rattle.std.proofs.lemmas.List.{map-append}
use Rattle.aol_tiler.specs.Matrices.{TilerOf}
use Rattle.aol_tiler.specs.Tiler.{fits}
use Rattle.aol_expr_tree.specs.declared.port.Port.{Port}
use Rattle.aol_model_types.specs.declared.task.Repeated.{Repeated}
use Rattle.aol_model_types.specs.declared.task.Task.{Task}
use Rattle.aol_model_types.specs.declared.task.TilerOn.{TilerOn}
use Rattle.aol_model_types.specs.Rules.{inputs_of, outputs_of, port_shape}
use Rattle.aol_flat.proofs.Among.{among_map, map_among}
use Rattle.aol_change.specs.Change.{is_taken}
use Rattle.aol_fusion_laws.proofs.Fresh.{AreFresh, names_of, both_fresh, fresh_parts, fresh_own, name_listed}
use Rattle.aol_fusion_laws.proofs.Wired.{Wire, tiler_of, IsWiredBy, FitsOutside}

-- ---- lists

pub map_both : {X Y Z : Type 0} (f : X → Y) (g : Y → Z) (h : X → Z) (xs : List X) → ((x : X) → g (f x) ≡ h x) → map g (map f xs) ≡ map h xs
map_both f g h [] each = refl
map_both f g h (x ∷ xs) each = ap (λ y. y ∷ map g (map f xs)) (each x) ∙ ap (λ ys. h x ∷ ys) (map_both f g h xs each)

pub filter_among : {X : Type 0} (keep : X → Bool) (xs : List X) (x : X) → IsAmong (filter keep xs) x → IsAmong xs x × (keep x ≡ true)
filter_among keep [] x a = absurd (omega (arith, a.1.0))
filter_among {X = X} keep (y ∷ xs) x a = go (keep y) refl a (filter_among keep xs x)
  where
    later : IsAmong xs x × (keep x ≡ true) → IsAmong (y ∷ xs) x × (keep x ≡ true)
    later r = ((suc r.0.0, (omega (arith, r.0.1.0), r.0.1.1)), r.1)

    go : (b : Bool) → keep y ≡ b → IsAmong (cond b (y ∷ filter keep xs) (filter keep xs)) x → (IsAmong (filter keep xs) x → IsAmong xs x × (keep x ≡ true)) → IsAmong (y ∷ xs) x × (keep x ≡ true)
    go false e c rest = later (rest c)
    go true e (zero, c) rest = ((0, (omega arith, c.1)), ap keep c.1 ∙ e)
    go true e (suc i, c) rest = later (rest (i, (omega (arith, c.0), c.1)))

pub among_filter : {X : Type 0} (keep : X → Bool) (xs : List X) (x : X) → IsAmong xs x → keep x ≡ true → IsAmong (filter keep xs) x
among_filter keep [] x a e = absurd (omega (arith, a.1.0))
among_filter {X = X} keep (y ∷ xs) x (zero, a) e = here (keep y) (ap keep (sym a.1) ∙ e)
  where
    here : (b : Bool) → b ≡ true → IsAmong (cond b (y ∷ filter keep xs) (filter keep xs)) x
    here true f = (0, (omega arith, a.1))
    here false f = cc
among_filter {X = X} keep (y ∷ xs) x (suc i, a) e = later (keep y) (among_filter keep xs x (i, (omega (arith, a.0), a.1)) e)
  where
    later : (b : Bool) → IsAmong (filter keep xs) x → IsAmong (cond b (y ∷ filter keep xs) (filter keep xs)) x
    later true r = (suc r.0, (omega (arith, r.1.0), r.1.1))
    later false r = r

-- ---- the repetition

-- how a port outside, and the tiler on it, are made from an inner port
pub record IsMaker (space : List ℕ) (ports : List Port) (port : Port → Port) (tiler : Port → TilerOf) : Type 0 where
  pub named : (p : Port) → (port p).name ≡ p.name
  pub fit : (p : Port) → IsAmong ports p → fits (tiler p) (port p).shape space p.shape ≡ true

-- the tiler on an inner port's own name
abbrev pub own_tiler : (Port → TilerOf) → Port → TilerOn
own_tiler tiler p = record { outer = p.name; inner = p.name; tiler = tiler p }

abbrev pub own_wire : (Port → TilerOf) → Port → Wire
own_wire tiler p = record { outer = p.name; inner = p; tiler = tiler p }

-- its parts
pub record HasOwnNames (t : Repeated) (u : Task) (outs : List Port) (in_port out_port : Port → Port) (in_tiler out_tiler : Port → TilerOf) : Type 0 where
  pub ins_are : t.ins ≡ map in_port (inputs_of u)
  pub outs_are : t.outs ≡ map out_port outs
  pub tilers : t.tilers ≡ map (own_tiler in_tiler) (inputs_of u) ++ map (own_tiler out_tiler) outs
  pub plain : t.links ≡ []

names_kept : (port : Port → Port) (ports : List Port) → ((p : Port) → (port p).name ≡ p.name) → names_of (map port ports) ≡ names_of ports
names_kept port ports named = map_both port (λ (p : Port). p.name) (λ (p : Port). p.name) ports named

made_outside : (space : List ℕ) (ports : List Port) (port : Port → Port) (tiler : Port → TilerOf) (seen : List (List ℕ)) (ys : List Port) (w : Wire)
    → IsMaker space ports port tiler → ys ≡ map port ports → AreFresh seen (names_of ports) → IsAmong (map (own_wire tiler) ports) w → FitsOutside ys space w
made_outside space ports port tiler seen ys w maker is fresh a =
    let p = among_map (own_wire tiler) ports w a in
    let P : List (List ℕ) → Type 0 = λ ns. AreFresh seen ns in
    let own : port_shape (map port ports) (port p.0).name ≡ Some (port p.0).shape =
    fresh_own seen (map port ports) (port p.0) (subst P (sym (names_kept port ports maker.named)) fresh) (map_among port ports p.0 p.1) in
    let Q : Wire → Type 0 = λ x. FitsOutside ys space x in
    subst Q (sym p.2) (record {
      shape = (port p.0).shape;
      outside = ap (λ ps. port_shape ps p.0.name) is ∙ (ap (port_shape (map port ports)) (sym (maker.named p.0)) ∙ own);
      fit = maker.fit p.0 p.1;
    })

pub own_wired : (t : Repeated) (u : Task) (outs : List Port) (in_port out_port : Port → Port) (in_tiler out_tiler : Port → TilerOf)
    → AreFresh [] (names_of (inputs_of u) ++ names_of (outputs_of u)) → AreFresh (names_of (inputs_of u)) (names_of outs) → ((p : Port) → IsAmong outs p → IsAmong (outputs_of u) p)
    → IsMaker t.space (inputs_of u) in_port in_tiler → IsMaker t.space outs out_port out_tiler → HasOwnNames t u outs in_port out_port in_tiler out_tiler
    → IsWiredBy t u (map (own_wire in_tiler) (inputs_of u)) (map (own_wire out_tiler) outs)
own_wired t u outs in_port out_port in_tiler out_tiler fresh outs_fresh inside in_maker out_maker has =
    let name : Wire → List ℕ = λ w. w.inner.name in
    let parts = fresh_parts [] (names_of (inputs_of u)) (names_of (outputs_of u)) fresh in
    let both : AreFresh [] (names_of (inputs_of u) ++ names_of outs) = both_fresh [] (names_of (inputs_of u)) (names_of outs) parts.0 outs_fresh in
    let in_names : names_of t.ins ≡ names_of (inputs_of u) = ap names_of has.ins_are ∙ names_kept in_port (inputs_of u) in_maker.named in
    let out_names : names_of t.outs ≡ names_of outs = ap names_of has.outs_are ∙ names_kept out_port outs out_maker.named in
    let P : List (List ℕ) → Type 0 = λ ns. AreFresh [] ns in
    let wire_ins : map name (map (own_wire in_tiler) (inputs_of u)) ≡ names_of (inputs_of u) = map_both (own_wire in_tiler) name (λ (p : Port). p.name) (inputs_of u) (λ p. refl) in
    let wire_outs : map name (map (own_wire out_tiler) outs) ≡ names_of outs = map_both (own_wire out_tiler) name (λ (p : Port). p.name) outs (λ p. refl) in
    record {
      tilers = has.tilers
          ∙ (ap (λ xs. xs ++ map (own_tiler out_tiler) outs) (sym (map_both (own_wire in_tiler) tiler_of (own_tiler in_tiler) (inputs_of u) (λ p. refl)))
          ∙ ap (λ ys. map tiler_of (map (own_wire in_tiler) (inputs_of u)) ++ ys) (sym (map_both (own_wire out_tiler) tiler_of (own_tiler out_tiler) outs (λ p. refl))));
      plain = has.plain;
      own = subst P (ap (λ ns. ns ++ names_of outs) (sym in_names) ∙ ap (λ ns. names_of t.ins ++ ns) (sym out_names)) both;
      inner = fresh;
      fresh = subst P
          (ap (λ ns. ns ++ names_of outs) (sym wire_ins)
          ∙ (ap (λ ns. map name (map (own_wire in_tiler) (inputs_of u)) ++ ns) (sym wire_outs) ∙ sym (map-append name (map (own_wire in_tiler) (inputs_of u)) (map (own_wire out_tiler) outs)))) both;
      all_ins = λ p a. ap (λ ns. is_taken ns p.name) wire_ins ∙ name_listed (inputs_of u) p a;
      in_inside = λ w a.
          (let p = among_map (own_wire in_tiler) (inputs_of u) w a in
          ap (λ (x : Wire). port_shape (inputs_of u) x.inner.name) p.2 ∙ (fresh_own [] (inputs_of u) p.0 parts.0 p.1 ∙ ap (λ (x : Wire). Some x.inner.shape) (sym p.2)));
      out_inside = λ w a.
          (let p = among_map (own_wire out_tiler) outs w a in
          ap (λ (x : Wire). port_shape (outputs_of u) x.inner.name) p.2
          ∙ (fresh_own (names_of (inputs_of u)) (outputs_of u) p.0 parts.1 (inside p.0 p.1) ∙ ap (λ (x : Wire). Some x.inner.shape) (sym p.2)));
      in_outside = λ w a. made_outside t.space (inputs_of u) in_port in_tiler [] t.ins w in_maker has.ins_are parts.0 a;
      out_outside = λ w a. made_outside t.space outs out_port out_tiler (names_of (inputs_of u)) t.outs w out_maker has.outs_are outs_fresh a;
      tiled = λ y a.
          (let Q : List Port → Type 0 = λ ps. IsAmong ps y in
          let p = among_map out_port outs y (subst Q has.outs_are a) in
          (own_wire out_tiler p.0, map_among (own_wire out_tiler) outs p.0 p.1, sym (out_maker.named p.0) ∙ ap (λ (x : Port). x.name) (sym p.2)));
    }
