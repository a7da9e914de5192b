-- Where the rules hold, each inner port has the one tiler or link that is looked up there.
use Rattle.std.proofs.Common.{◌≡◌, ℕ, ◌+◌, ◌≤◌, true, false, ◌&&◌, ◌==◌, List, ◌∷◌, ◌++◌, Some, None, is_some, find, sym, ◌∙◌, ap, arith, ◌⊎◌, inl, inr}
use Rattle.std.specs.List.{IsAmong, list_any, count_by}
use Rattle.aol_shape.specs.Lists.{same}
use Rattle.aol_expr_tree.specs.declared.port.Port.{Port}
use Rattle.aol_link.specs.declared.link.Interlink.{Interlink}
use Rattle.aol_model_types.specs.declared.place.Key.TheVariants.{KLinks, KTilers}
use Rattle.aol_model_types.specs.declared.place.PlaceStep.{PlaceStep}
use Rattle.aol_model_types.specs.declared.task.Repeated.{Repeated}
use Rattle.aol_model_types.specs.declared.task.Task.{Task}
use Rattle.aol_model_types.specs.declared.task.TilerOn.{TilerOn}
use Rattle.aol_model_types.specs.Places.{to_key}
use Rattle.aol_model_types.specs.Rules.{tiler_checks, interlink_checks, inputs_named, outputs_named, port_shape, inner_is_fed, is_on_ports, tiles_output_once, tiler_fits, links_inner, spans_space, defaults_fit}
use Rattle.aol_flat.specs.Home.{tiler_at, link_into_repetition}
use Rattle.aol_flat.proofs.Checked.{member, HoldsOfRepeated, named_port}
use Rattle.aol_flat.proofs.Names.{both-true, same-self}
use Rattle.aol_flat.proofs.Once.{all_at, found_first, counted, found_only, found_none, one_of_two}
use Rattle.aol_flat.proofs.Truth.{either, not_none, same_there}

-- ---- tilers and links of a repeated task

-- what the rules say of a tiler
pub record IsTiling (ts : List Task) (t : Repeated) (o : TilerOn) : Type 0 where
  pub ports : is_on_ports ts t o ≡ true
  pub before : List TilerOn
  pub rest : List TilerOn
  pub split : t.tilers ≡ before ++ o ∷ rest
  pub once : tiles_output_once ts t before o ≡ true
  pub fits : tiler_fits ts t o ≡ true

pub tiled : (ts : List Task) (place : List PlaceStep) (t : Repeated) (o : TilerOn) → HoldsOfRepeated ts place t → IsAmong t.tilers o → IsTiling ts t o
tiled ts place t o holds listed =
    let r = member (tiler_checks ts t) (to_key place KTilers) t.tilers o holds.tilers listed in
    let h15 = both-true (is_on_ports ts t o) _ r.holds in
    let h17 = both-true (tiles_output_once ts t r.before o) _ h15.1 in
    let h16 = both-true (tiler_fits ts t o) true h17.1 in
    record { ports = h15.0; before = r.before; rest = r.rest; split = r.split; once = h17.0; fits = h16.0 }

-- a tiler is from an outer input to an inner input, or from an inner output to an outer output
pub record JoinsPorts (outer inner : List Port) (o : TilerOn) : Type 0 where
  pub outside : is_some (port_shape outer o.outer) ≡ true
  pub inside : is_some (port_shape inner o.inner) ≡ true

pub sides_of : (ts : List Task) (t : Repeated) (o : TilerOn) → IsTiling ts t o → JoinsPorts t.ins (inputs_named ts t.task) o ⊎ JoinsPorts t.outs (outputs_named ts t.task) o
sides_of ts t o rules = go (either _ _ rules.ports)
  where
    go : ((is_some (port_shape t.ins o.outer) && is_some (port_shape (inputs_named ts t.task) o.inner)) ≡ true) ⊎ ((is_some (port_shape t.outs o.outer) && is_some (port_shape (outputs_named ts t.task) o.inner)) ≡ true)
        → JoinsPorts t.ins (inputs_named ts t.task) o ⊎ JoinsPorts t.outs (outputs_named ts t.task) o
    go (inl h) = let parts = both-true (is_some (port_shape t.ins o.outer)) _ h in inl (record { outside = parts.0; inside = parts.1 })
    go (inr h) = let parts = both-true (is_some (port_shape t.outs o.outer)) _ h in inr (record { outside = parts.0; inside = parts.1 })

-- an inner input is fed by one tiler or link
pub fed_once : (ts : List Task) (place : List PlaceStep) (t : Repeated) (port : List ℕ) → HoldsOfRepeated ts place t → is_some (port_shape (inputs_named ts t.task) port) ≡ true
    → count_by (λ (e : TilerOn). same e.inner port) t.tilers + count_by (λ (l : Interlink). same l.to port) t.links ≡ 1
fed_once ts place t port holds known =
    let u = named_port (inputs_named ts t.task) port known in
    let fed : inner_is_fed t u.0 ≡ true = all_at (inner_is_fed t) (inputs_named ts t.task) u.0 holds.fed u.1 in
    one_of_two (count_by (λ (e : TilerOn). same e.inner port) t.tilers) (count_by (λ (l : Interlink). same l.to port) t.links)
    (sym (ap (λ name. count_by (λ (e : TilerOn). same e.inner name) t.tilers + count_by (λ (l : Interlink). same l.to name) t.links == 1) u.2) ∙ fed)

pub only_tiler : (ts : List Task) (place : List PlaceStep) (t : Repeated) (o : TilerOn) → HoldsOfRepeated ts place t → IsAmong t.tilers o → tiler_at t o.inner ≡ Some o
only_tiler ts place t o holds listed = go (sides_of ts t o rules)
  where
    rules : IsTiling ts t o
    rules = tiled ts place t o holds listed

    go : JoinsPorts t.ins (inputs_named ts t.task) o ⊎ JoinsPorts t.outs (outputs_named ts t.task) o → tiler_at t o.inner ≡ Some o
    go (inl sides) =
        let one = fed_once ts place t o.inner holds sides.inside in
        let some : 1 ≤ count_by (λ (e : TilerOn). same e.inner o.inner) t.tilers = counted (λ (e : TilerOn). same e.inner o.inner) t.tilers o listed (same-self o.inner) in
        found_only (λ (e : TilerOn). same e.inner o.inner) t.tilers o listed (same-self o.inner) (omega (arith, one, some))
    go (inr sides) =
        let none : list_any (λ (e : TilerOn). same e.inner o.inner) rules.before ≡ false =
        not_none (port_shape (outputs_named ts t.task) o.inner) (list_any (λ (e : TilerOn). same e.inner o.inner) rules.before) sides.inside rules.once in
        ap (find (λ (e : TilerOn). same e.inner o.inner)) rules.split
        ∙ found_first (λ (e : TilerOn). same e.inner o.inner) rules.before o rules.rest none (same-self o.inner)

-- a link between repetitions leads from an inner output to an inner input
pub record JoinsRepetitions (ts : List Task) (t : Repeated) (l : Interlink) : Type 0 where
  pub from : is_some (port_shape (outputs_named ts t.task) l.from) ≡ true
  pub to : is_some (port_shape (inputs_named ts t.task) l.to) ≡ true
  pub equal : links_inner ts t l ≡ true
  pub spans : spans_space t l ≡ true
  pub defaults : defaults_fit ts t l ≡ true

pub joined : (ts : List Task) (place : List PlaceStep) (t : Repeated) (l : Interlink) → HoldsOfRepeated ts place t → IsAmong t.links l → JoinsRepetitions ts t l
joined ts place t l holds listed =
    let r = member (interlink_checks ts t) (to_key place KLinks) t.links l holds.links listed in
    let h18 = both-true (links_inner ts t l) _ r.holds in
    let ends = same_there (port_shape (outputs_named ts t.task) l.from) (port_shape (inputs_named ts t.task) l.to) h18.0 in
    let h19 = both-true (spans_space t l) _ h18.1 in
    let h20 = both-true (defaults_fit ts t l) _ h19.1 in
    record { from = ends.0; to = ends.1; equal = h18.0; spans = h19.0; defaults = h20.0 }

pub only_link_inside : (ts : List Task) (place : List PlaceStep) (t : Repeated) (l : Interlink) → HoldsOfRepeated ts place t → IsAmong t.links l
    → (link_into_repetition t l.to ≡ Some l) × (tiler_at t l.to ≡ None)
only_link_inside ts place t l holds listed =
    let one = fed_once ts place t l.to holds (joined ts place t l holds listed).to in
    let some : 1 ≤ count_by (λ (k : Interlink). same k.to l.to) t.links = counted (λ (k : Interlink). same k.to l.to) t.links l listed (same-self l.to) in (
      found_only (λ (k : Interlink). same k.to l.to) t.links l listed (same-self l.to) (omega (arith, one, some)),
      found_none (λ (e : TilerOn). same e.inner l.to) t.tilers (omega (arith, one, some)),
    )
