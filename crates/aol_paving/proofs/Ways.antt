-- The tilers on the way of a port through two levels of repetition.
use Rattle.std.proofs.Common.{◌≡◌, ℕ, Bool, true, false, List, ◌++◌, Option, Some, None, is_some, option_map, option_and_then, sym, ◌∙◌, ap, refl, subst, ◌⊎◌, inl, inr}
use Rattle.std.specs.List.{IsAmong}
use Rattle.aol_tiler.specs.Tiler.{fits}
use Rattle.aol_expr_tree.specs.declared.port.Port.{Port}
use Rattle.aol_model_types.specs.declared.task.Repeated.{Repeated}
use Rattle.aol_model_types.specs.declared.task.TilerOn.{TilerOn}
use Rattle.aol_model_types.specs.Rules.{port_shape, fits_in}
use Rattle.aol_flat.specs.Home.{tiler_at}
use Rattle.aol_flat.proofs.Checked.{named_port}
use Rattle.aol_flat.proofs.Find.{and_then_some}
use Rattle.aol_flat.proofs.TilerRules.{JoinsPorts}
use Rattle.aol_paving.specs.declared.crossing.Crossing.{Crossing}
use Rattle.aol_paving.specs.Crossings.{crossing_of, crossings}
use Rattle.aol_paving.proofs.Levels.{IsLevel, found_inner, found_tiler}
use Rattle.aol_paving.proofs.Members.{given_by, gives_there}

-- both tilers are those that are looked up, and lead to ports of these
pub record IsWay (t u : Repeated) (outer middle inner : List Port) (c : Crossing) : Type 0 where
  pub port : IsAmong inner c.port
  pub inner_among : IsAmong u.tilers c.inner
  pub outer_among : IsAmong t.tilers c.outer
  pub inner_named : c.inner.inner ≡ c.port.name
  pub outer_named : c.outer.inner ≡ c.inner.outer
  pub inner_joins : JoinsPorts middle inner c.inner
  pub outer_joins : JoinsPorts outer middle c.outer

-- the ports on the other side have other names
abbrev pub AreApart : List Port → List Port → Type 0
AreApart these those = (port : List ℕ) → is_some (port_shape these port) ≡ true → is_some (port_shape those port) ≡ false

pub apart_back : (these those : List Port) → AreApart these those → AreApart those these
apart_back these those apart port known = go (is_some (port_shape these port)) refl
  where
    go : (b : Bool) → is_some (port_shape these port) ≡ b → is_some (port_shape these port) ≡ false
    go false e = e
    go true e = let clash : true ≡ false = sym known ∙ apart port e in absurd (cc)

abbrev made : Port → TilerOn → TilerOn → Crossing
made port one two = record { port = port; outer = one; inner = two }

-- the tilers of a way that is found
record HasTilers (t u : Repeated) (v : Port) (c : Crossing) : Type 0 where
  two : TilerOn
  one : TilerOn
  at_inner : tiler_at u v.name ≡ Some two
  at_outer : tiler_at t two.outer ≡ Some one
  is : c ≡ made v one two

has_tilers : (t u : Repeated) (v : Port) (c : Crossing) → crossing_of t u v ≡ Some c → HasTilers t u v c
has_tilers t u v c h =
    let f = and_then_some (λ (inner : TilerOn). option_map (λ (outer : TilerOn). made v outer inner) (tiler_at t inner.outer)) (tiler_at u v.name) c h in
    go f.0 f.1 (tiler_at t f.0.outer) refl f.2
  where
    go : (two : TilerOn) → tiler_at u v.name ≡ Some two → (o : Option TilerOn) → tiler_at t two.outer ≡ o → option_map (λ (outer : TilerOn). made v outer two) o ≡ Some c → HasTilers t u v c
    go two e None f k = cc
    go two e (Some one) f k = let is : made v one two ≡ c = cc in record { two = two; one = one; at_inner = e; at_outer = f; is = sym is }

-- a way leads to the port for which it was looked
pub way_port : (t u : Repeated) (v : Port) (c : Crossing) → crossing_of t u v ≡ Some c → c.port ≡ v
way_port t u v c h = ap (λ (x : Crossing). x.port) (has_tilers t u v c h).is

module _ (t u : Repeated) (outer middle inner outer' middle' inner' : List Port) (low : (o : TilerOn) → IsAmong u.tilers o → JoinsPorts middle inner o ⊎ JoinsPorts middle' inner' o)
    (top : (o : TilerOn) → IsAmong t.tilers o → JoinsPorts outer middle o ⊎ JoinsPorts outer' middle' o) (apart : AreApart inner inner') (middle_apart : AreApart middle middle') where
  -- a tiler at an inner port of this side is on this side
  low_side : (v : List ℕ) (o : TilerOn) → is_some (port_shape inner v) ≡ true → tiler_at u v ≡ Some o → JoinsPorts middle inner o
  low_side v o known h = go (low o (found_tiler u v o h))
    where
      go : JoinsPorts middle inner o ⊎ JoinsPorts middle' inner' o → JoinsPorts middle inner o
      go (inl j) = j
      go (inr j) =
          let clash : true ≡ false = sym j.inside ∙ (ap (λ n. is_some (port_shape inner' n)) (found_inner u v o h) ∙ apart v known) in
          absurd (cc)

  top_side : (x : List ℕ) (o : TilerOn) → is_some (port_shape middle x) ≡ true → tiler_at t x ≡ Some o → JoinsPorts outer middle o
  top_side x o known h = go (top o (found_tiler t x o h))
    where
      go : JoinsPorts outer middle o ⊎ JoinsPorts outer' middle' o → JoinsPorts outer middle o
      go (inl j) = j
      go (inr j) =
          let clash : true ≡ false = sym j.inside ∙ (ap (λ n. is_some (port_shape middle' n)) (found_inner t x o h) ∙ middle_apart x known) in
          absurd (cc)

  pub way_of : (known : (v : Port) → IsAmong inner v → is_some (port_shape inner v.name) ≡ true) (c : Crossing) → IsAmong (crossings t u inner) c → IsWay t u outer middle inner c
  way_of known c a =
      let v = given_by (crossing_of t u) inner c a in
      let h = has_tilers t u v.0 c v.2 in
      let j = low_side v.0.name h.two (known v.0 v.1) h.at_inner in
      subst (IsWay t u outer middle inner) (sym h.is)
      (record {
        port = v.1;
        inner_among = found_tiler u v.0.name h.two h.at_inner;
        outer_among = found_tiler t h.two.outer h.one h.at_outer;
        inner_named = found_inner u v.0.name h.two h.at_inner;
        outer_named = found_inner t h.two.outer h.one h.at_outer;
        inner_joins = j;
        outer_joins = top_side h.two.outer h.one j.outside h.at_outer;
      })

  -- a port of this side that both levels feed leads through both
  pub fed_way : (v : Port) (two : TilerOn) → IsAmong inner v → is_some (port_shape inner v.name) ≡ true → tiler_at u v.name ≡ Some two
      → ((x : List ℕ) → is_some (port_shape middle x) ≡ true → (o : TilerOn) × (tiler_at t x ≡ Some o)) → (c : Crossing) × IsAmong (crossings t u inner) c × (c.port.name ≡ v.name)
  fed_way v two a known h feeds =
      let one = feeds two.outer (low_side v.name two known h).outside in
      let is : crossing_of t u v ≡ Some (made v one.0 two) =
      ap (option_and_then (λ (inner : TilerOn). option_map (λ (outer : TilerOn). made v outer inner) (tiler_at t inner.outer))) h ∙ ap (option_map (λ (outer : TilerOn). made v outer two)) one.1 in
      (made v one.0 two, gives_there (crossing_of t u) inner v (made v one.0 two) a is, refl)

  -- an outer port of this side that both levels tile is reached
  pub tiled_way : (y : List ℕ) (one : TilerOn) → is_some (port_shape outer' y) ≡ false → IsAmong t.tilers one → one.outer ≡ y → ((o : TilerOn) → IsAmong t.tilers o → tiler_at t o.inner ≡ Some o)
      → ((o : TilerOn) → IsAmong u.tilers o → tiler_at u o.inner ≡ Some o) → ((x : Port) → IsAmong middle x → (o : TilerOn) × IsAmong u.tilers o × (o.outer ≡ x.name))
      → (c : Crossing) × IsAmong (crossings t u inner) c × (c.outer.outer ≡ y)
  tiled_way y one other a named only_top only_low tiles = by_top (top one a)
    where
      by_low : (two : TilerOn) → IsAmong u.tilers two → two.outer ≡ one.inner → JoinsPorts outer middle one → JoinsPorts middle inner two ⊎ JoinsPorts middle' inner' two
          → (c : Crossing) × IsAmong (crossings t u inner) c × (c.outer.outer ≡ y)
      by_low two b e j (inr k) =
          let clash : true ≡ false = sym k.outside ∙ (ap (λ n. is_some (port_shape middle' n)) e ∙ middle_apart one.inner j.inside) in
          absurd (cc)
      by_low two b e j (inl k) =
          let v = named_port inner two.inner k.inside in
          let at_inner : tiler_at u v.0.name ≡ Some two = ap (tiler_at u) v.2 ∙ only_low two b in
          let at_outer : tiler_at t two.outer ≡ Some one = ap (tiler_at t) e ∙ only_top one a in
          let is : crossing_of t u v.0 ≡ Some (made v.0 one two) =
          ap (option_and_then (λ (inner : TilerOn). option_map (λ (outer : TilerOn). made v.0 outer inner) (tiler_at t inner.outer))) at_inner ∙ ap (option_map (λ (outer : TilerOn). made v.0 outer two)) at_outer in
          (made v.0 one two, gives_there (crossing_of t u) inner v.0 (made v.0 one two) v.1 is, named)

      by_top : JoinsPorts outer middle one ⊎ JoinsPorts outer' middle' one → (c : Crossing) × IsAmong (crossings t u inner) c × (c.outer.outer ≡ y)
      by_top (inr j) =
          let clash : true ≡ false = sym j.outside ∙ (ap (λ n. is_some (port_shape outer' n)) named ∙ other) in
          absurd (cc)
      by_top (inl j) =
          let x = named_port middle one.inner j.inside in
          let two = tiles x.0 x.1 in
          by_low two.0 two.1 (two.2 ∙ x.2) j (low two.0 two.1)

-- ---- fitting

-- the tilers of a way fit the outer array, a shape between both levels and the port
pub record FitsWay (t u : Repeated) (c : Crossing) : Type 0 where
  pub array : List ℕ
  pub between : List ℕ
  pub outside : port_shape (t.ins ++ t.outs) c.outer.outer ≡ Some array
  pub outer_fit : fits c.outer.tiler array t.space between ≡ true
  pub inner_fit : fits c.inner.tiler between u.space c.port.shape ≡ true

pub fits_way : (t u : Repeated) (ins outs outer middle inner : List Port) (c : Crossing) → IsLevel t u.ins u.outs → IsLevel u ins outs → IsWay t u outer middle inner c → port_shape (ins ++ outs) c.port.name ≡ Some c.port.shape → FitsWay t u c
fits_way t u ins outs outer middle inner c top low way own =
    go (port_shape (t.ins ++ t.outs) c.outer.outer) refl (port_shape (u.ins ++ u.outs) c.inner.outer)
    (ap (λ n. fits_in c.outer.tiler (port_shape (t.ins ++ t.outs) c.outer.outer) t.space (port_shape (u.ins ++ u.outs) n)) (sym way.outer_named) ∙ top.fits c.outer way.outer_among)
    (ap (λ s. fits_in c.inner.tiler (port_shape (u.ins ++ u.outs) c.inner.outer) u.space s) (sym (ap (port_shape (ins ++ outs)) way.inner_named ∙ own)) ∙ low.fits c.inner way.inner_among)
  where
    go : (a : Option (List ℕ)) → port_shape (t.ins ++ t.outs) c.outer.outer ≡ a → (b : Option (List ℕ)) → fits_in c.outer.tiler a t.space b ≡ true → fits_in c.inner.tiler b u.space (Some c.port.shape) ≡ true → FitsWay t u c
    go None e b f g = cc
    go (Some array) e None f g = cc
    go (Some array) e (Some between) f g = record { array = array; between = between; outside = e; outer_fit = f; inner_fit = g }
