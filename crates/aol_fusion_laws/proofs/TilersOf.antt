-- The tilers of a repetition without links that keeps the rules, by their inner ports.
use Rattle.std.proofs.Common.{◌≡◌, ℕ, suc, ◌≤◌, Bool, true, false, ◌||◌, List, [], ◌∷◌, ◌++◌, Option, Some, None, is_some, unwrap_or, option_map, sym, ◌∙◌, ap, refl, arith, ◌⊎◌, inl, inr}
use Rattle.std.specs.List.{IsAmong, list_any, count_by}
use Rattle.aol_shape.specs.Lists.{same}
use Rattle.aol_tiler.specs.Tiler.{fits}
use Rattle.aol_expr_tree.specs.declared.port.Port.{Port}
use Rattle.aol_link.specs.declared.link.Interlink.{Interlink}
use Rattle.aol_model_types.specs.declared.place.Key.TheVariants.{KOut}
use Rattle.aol_model_types.specs.declared.place.PlaceStep.{PlaceStep}
use Rattle.aol_model_types.specs.declared.task.Repeated.{Repeated}
use Rattle.aol_model_types.specs.declared.task.Task.{Task}
use Rattle.aol_model_types.specs.declared.task.TilerOn.{TilerOn}
use Rattle.aol_model_types.specs.Places.{to_key}
use Rattle.aol_model_types.specs.Rules.{task_named, inputs_of, outputs_of, inputs_named, outputs_named, port_shape, fits_in, is_tiled}
use Rattle.aol_flat.specs.Home.{tiler_at}
use Rattle.aol_flat.proofs.Checked.{HoldsOfRepeated, member, tiled_checks, named_port}
use Rattle.aol_flat.proofs.Names.{both-true, same-equal}
use Rattle.aol_flat.proofs.Once.{found_among, counted_found}
use Rattle.aol_flat.proofs.Shapes.{shape_left, shape_right}
use Rattle.aol_flat.proofs.Sites.{find-passes}
use Rattle.aol_flat.proofs.TilerRules.{JoinsPorts, sides_of, tiled, fed_once, only_tiler}
use Rattle.aol_fusion_laws.proofs.Fresh.{AreFresh, names_of, fresh_parts, fresh_own}
use Rattle.aol_fusion_laws.proofs.Wired.{sides_differ}

-- what a tiler on an inner port says: it is on a port outside that it fits with the space and the inner port
pub record FitsSide (t : Repeated) (outer : List Port) (o : TilerOn) (p : Port) : Type 0 where
  pub listed : IsAmong t.tilers o
  pub named : o.inner ≡ p.name
  pub array : List ℕ
  pub outside : port_shape outer o.outer ≡ Some array
  pub fit : fits o.tiler array t.space p.shape ≡ true

module _ (before : List Task) (place : List PlaceStep) (t : Repeated) (u : Task) (holds : HoldsOfRepeated before place t) (found : task_named before t.task ≡ Some u)
    (fresh : AreFresh [] (names_of (inputs_of u) ++ names_of (outputs_of u))) (own : AreFresh [] (names_of t.ins ++ names_of t.outs)) where
  ins_are : inputs_named before t.task ≡ inputs_of u
  ins_are = ap (λ (o : Option Task). unwrap_or (option_map inputs_of o) []) found

  outs_are : outputs_named before t.task ≡ outputs_of u
  outs_are = ap (λ (o : Option Task). unwrap_or (option_map outputs_of o) []) found

  inner_fresh : AreFresh [] (names_of (inputs_of u)) × AreFresh (names_of (inputs_of u)) (names_of (outputs_of u))
  inner_fresh = fresh_parts [] (names_of (inputs_of u)) (names_of (outputs_of u)) fresh

  abbrev at_name : List ℕ → TilerOn → Bool
  at_name n e = same e.inner n

  -- the shape of an inner port, and of the port outside
  open_fit : (o : TilerOn) (outer : List Port) (s : List ℕ) → IsAmong t.tilers o → port_shape (t.ins ++ t.outs) o.outer ≡ port_shape outer o.outer → is_some (port_shape outer o.outer) ≡ true
      → port_shape (inputs_named before t.task ++ outputs_named before t.task) o.inner ≡ Some s
      → (array : List ℕ) × (port_shape outer o.outer ≡ Some array) × (fits o.tiler array t.space s ≡ true)
  open_fit o outer s a all known inside =
      go (port_shape outer o.outer) refl known
      (ap (λ x. fits_in o.tiler x t.space (Some s)) (sym all) ∙ (ap (fits_in o.tiler (port_shape (t.ins ++ t.outs) o.outer) t.space) (sym inside) ∙ (tiled before place t o holds a).fits))
    where
      go : (x : Option (List ℕ)) → port_shape outer o.outer ≡ x → is_some x ≡ true → fits_in o.tiler x t.space (Some s) ≡ true → (array : List ℕ) × (port_shape outer o.outer ≡ Some array) × (fits o.tiler array t.space s ≡ true)
      go None e k f = cc
      go (Some array) e k f = (array, e, f)

  -- on an inner input
  pub input_fit : (p : Port) (o : TilerOn) → IsAmong (inputs_of u) p → tiler_at t p.name ≡ Some o → FitsSide t t.ins o p
  input_fit p o listed at =
      let a : IsAmong t.tilers o = found_among (at_name p.name) t.tilers o at in
      let named : o.inner ≡ p.name = same-equal o.inner p.name (find-passes (at_name p.name) t.tilers o at) in
      let inside : port_shape (inputs_of u) p.name ≡ Some p.shape = fresh_own [] (inputs_of u) p inner_fresh.0 listed in
      by_side p o a named inside (sides_of before t o (tiled before place t o holds a))
    where
      by_side : (p : Port) (o : TilerOn) → IsAmong t.tilers o → o.inner ≡ p.name → port_shape (inputs_of u) p.name ≡ Some p.shape
          → JoinsPorts t.ins (inputs_named before t.task) o ⊎ JoinsPorts t.outs (outputs_named before t.task) o → FitsSide t t.ins o p
      by_side p o a named inside (inl side) =
          let known = side.outside in
          let s = shown (port_shape t.ins o.outer) refl known in
          let both : port_shape (t.ins ++ t.outs) o.outer ≡ port_shape t.ins o.outer = shape_left t.ins t.outs o.outer s.0 s.1 ∙ sym s.1 in
          let within : port_shape (inputs_named before t.task ++ outputs_named before t.task) o.inner ≡ Some p.shape =
          shape_left (inputs_named before t.task) (outputs_named before t.task) o.inner p.shape (ap (λ ps. port_shape ps o.inner) ins_are ∙ (ap (port_shape (inputs_of u)) named ∙ inside)) in
          let f = open_fit o t.ins p.shape a both known within in
          record { listed = a; named = named; array = f.0; outside = f.1; fit = f.2 }
        where
          shown : (x : Option (List ℕ)) → port_shape t.ins o.outer ≡ x → is_some x ≡ true → (s : List ℕ) × (port_shape t.ins o.outer ≡ Some s)
          shown None e k = cc
          shown (Some s) e k = (s, e)
      by_side p o a named inside (inr side) =
          let q = shown_out (port_shape (outputs_of u) p.name) refl (ap (λ n. is_some (port_shape (outputs_of u) n)) (sym named) ∙ (ap (λ ps. is_some (port_shape ps o.inner)) (sym outs_are) ∙ side.inside)) in
          let none : is_some (port_shape (inputs_of u) p.name) ≡ false = sides_differ (inputs_of u) (outputs_of u) p.name q.0 fresh q.1 in
          let clash : true ≡ false = sym (ap is_some inside) ∙ none in
          absurd (cc)
        where
          shown_out : (x : Option (List ℕ)) → port_shape (outputs_of u) p.name ≡ x → is_some x ≡ true → (s : List ℕ) × (port_shape (outputs_of u) p.name ≡ Some s)
          shown_out None e k = cc
          shown_out (Some s) e k = (s, e)

  -- on an inner output
  pub output_fit : (p : Port) (o : TilerOn) → IsAmong (outputs_of u) p → tiler_at t p.name ≡ Some o → FitsSide t t.outs o p
  output_fit p o listed at =
      let a : IsAmong t.tilers o = found_among (at_name p.name) t.tilers o at in
      let named : o.inner ≡ p.name = same-equal o.inner p.name (find-passes (at_name p.name) t.tilers o at) in
      let inside : port_shape (outputs_of u) p.name ≡ Some p.shape = fresh_own (names_of (inputs_of u)) (outputs_of u) p inner_fresh.1 listed in
      by_side p o a named inside (sides_differ (inputs_of u) (outputs_of u) p.name p.shape fresh inside) (sides_of before t o (tiled before place t o holds a))
    where
      by_side : (p : Port) (o : TilerOn) → IsAmong t.tilers o → o.inner ≡ p.name → port_shape (outputs_of u) p.name ≡ Some p.shape → is_some (port_shape (inputs_of u) p.name) ≡ false
          → JoinsPorts t.ins (inputs_named before t.task) o ⊎ JoinsPorts t.outs (outputs_named before t.task) o → FitsSide t t.outs o p
      by_side p o a named inside none (inl side) =
          let clash : true ≡ false = sym side.inside ∙ (ap (λ ps. is_some (port_shape ps o.inner)) ins_are ∙ (ap (λ n. is_some (port_shape (inputs_of u) n)) named ∙ none)) in
          absurd (cc)
      by_side p o a named inside none (inr side) =
          let known = side.outside in
          let s = shown (port_shape t.outs o.outer) refl known in
          let both : port_shape (t.ins ++ t.outs) o.outer ≡ port_shape t.outs o.outer = shape_right t.ins t.outs o.outer s.0 (sides_differ t.ins t.outs o.outer s.0 own s.1) s.1 ∙ sym s.1 in
          let within : port_shape (inputs_named before t.task ++ outputs_named before t.task) o.inner ≡ Some p.shape =
          shape_right (inputs_named before t.task) (outputs_named before t.task) o.inner p.shape
          (ap (λ ps. is_some (port_shape ps o.inner)) ins_are ∙ (ap (λ n. is_some (port_shape (inputs_of u) n)) named ∙ none))
          (ap (λ ps. port_shape ps o.inner) outs_are ∙ (ap (port_shape (outputs_of u)) named ∙ inside)) in
          let f = open_fit o t.outs p.shape a both known within in
          record { listed = a; named = named; array = f.0; outside = f.1; fit = f.2 }
        where
          shown : (x : Option (List ℕ)) → port_shape t.outs o.outer ≡ x → is_some x ≡ true → (s : List ℕ) × (port_shape t.outs o.outer ≡ Some s)
          shown None e k = cc
          shown (Some s) e k = (s, e)

  -- each inner input has a tiler
  pub input_tiled : (p : Port) → t.links ≡ [] → IsAmong (inputs_of u) p → is_some (tiler_at t p.name) ≡ true
  input_tiled p plain listed =
      let inside : port_shape (inputs_named before t.task) p.name ≡ Some p.shape = ap (λ ps. port_shape ps p.name) ins_are ∙ fresh_own [] (inputs_of u) p inner_fresh.0 listed in
      let one = fed_once before place t p.name holds (ap is_some inside) in
      let none : count_by (λ (l : Interlink). same l.to p.name) t.links ≡ 0 = ap (count_by (λ (l : Interlink). same l.to p.name)) plain in
      let some : 1 ≤ count_by (at_name p.name) t.tilers = omega (arith, one, none) in
      let o = counted_found (at_name p.name) t.tilers some in
      ap is_some o.1

  -- on each output there is the tiler of an inner output
  pub output_tiled : (y : Port) → IsAmong t.outs y → (p : Port) × (o : TilerOn) × IsAmong (outputs_of u) p × (tiler_at t p.name ≡ Some o) × (o.outer ≡ y.name)
  output_tiled y listed =
      let r = member (tiled_checks t) (to_key place KOut) t.outs y holds.tiled listed in
      let o = any_member (λ (e : TilerOn). same e.outer y.name) t.tilers (both-true (is_tiled t y) true r.holds).0 in
      let outer : o.0.outer ≡ y.name = same-equal o.0.outer y.name o.2 in
      let known : port_shape t.outs o.0.outer ≡ Some y.shape = ap (port_shape t.outs) outer ∙ fresh_own (names_of t.ins) t.outs y (fresh_parts [] (names_of t.ins) (names_of t.outs) own).1 listed in
      by_side o.0 o.1 outer (sides_differ t.ins t.outs o.0.outer y.shape own known) (sides_of before t o.0 (tiled before place t o.0 holds o.1))
    where
      any_member : (test : TilerOn → Bool) (xs : List TilerOn) → list_any test xs ≡ true → (x : TilerOn) × IsAmong xs x × (test x ≡ true)
      any_member test [] h = cc
      any_member test (x ∷ xs) h = go (test x) refl h (any_member test xs)
        where
          go : (b : Bool) → test x ≡ b → (b || list_any test xs) ≡ true → (list_any test xs ≡ true → (y : TilerOn) × IsAmong xs y × (test y ≡ true)) → (y : TilerOn) × IsAmong (x ∷ xs) y × (test y ≡ true)
          go true e k rest = (x, (0, (omega arith, refl)), e)
          go false e k rest = let r = rest k in (r.0, (suc r.1.0, (omega (arith, r.1.1.0), r.1.1.1)), r.2)

      by_side : (o : TilerOn) → IsAmong t.tilers o → o.outer ≡ y.name → is_some (port_shape t.ins o.outer) ≡ false
          → JoinsPorts t.ins (inputs_named before t.task) o ⊎ JoinsPorts t.outs (outputs_named before t.task) o
          → (p : Port) × (o : TilerOn) × IsAmong (outputs_of u) p × (tiler_at t p.name ≡ Some o) × (o.outer ≡ y.name)
      by_side o a outer none (inl side) = let clash : true ≡ false = sym side.outside ∙ none in absurd (cc)
      by_side o a outer none (inr side) =
          let p = named_port (outputs_of u) o.inner (ap (λ ps. is_some (port_shape ps o.inner)) (sym outs_are) ∙ side.inside) in
          (p.0, o, p.1, ap (tiler_at t) p.2 ∙ only_tiler before place t o holds a, outer)
