-- What an instance gives has 64 bits, where what it takes has.
use Rattle.std.specs.Prelude.{◌≡◌, ℕ, zero, suc, ◌+◌, ◌*◌, ◌<◌, ◌≤◌, ◌^◌, ℤ, pos, Bool, true, false, List, [], ◌∷◌, ◌++◌, map, flat_map, length, slice_get, Option, Some, None, Result, Ok, if◌then◌else◌}
use Rattle.std.specs.List.{AllByRecursion, enumerate_from}
use Rattle.std.proofs.Common.{refl, sym, ap, subst, arith, ◌∙◌, inl, inr}
use Rattle.aol_shape.specs.Numbers.{fits_64}
use Rattle.aol_shape.specs.Shape.{IsPointOf, points}
use Rattle.aol_expr_tree.specs.declared.port.Port.{Port}
use Rattle.aol_expr_tree.specs.declared.value.Kind.{Kind}
use Rattle.aol_expr_tree.specs.declared.value.Kind.TheVariants.{Range}
use Rattle.aol_expr_tree.specs.declared.value.Site.{Site}
use Rattle.aol_expr_tree.specs.declared.value.Val.{Val}
use Rattle.aol_expr_tree.specs.declared.value.Val.TheVariants.{Num, Bad}
use Rattle.aol_expr_tree.specs.Meaning.{Given, nth_number, value}
use Rattle.aol_model_types.specs.declared.task.Elementary.{Elementary}
use Rattle.aol_model_types.specs.declared.task.OutPort.{OutPort}
use Rattle.aol_model_types.specs.Types.{IsPort, IsOutPort, IsElementary}
use Rattle.aol_flat.specs.InstanceValue.{all_hold, computed, fault_at, fault_or, first_fault, in_width, instance_value, instance_outputs, number_of, width_at}
use Rattle.aol_flat.proofs.Among.{get_among, points_inside}
use Rattle.aol_flat.proofs.Arrays.{small_point}
use Rattle.aol_flat.proofs.Given.{AllByRecursion-at}
use Rattle.aol_lower.specs.Effect.{patterns_size}
use Rattle.aol_lower.proofs.Spelled.{expr_small}
use Rattle.aol_cinstance.proofs.Lists.{map_length}
use Rattle.aol_cinstance.proofs.Progress.{small_fits}
use Rattle.aol_cgen_flow.specs.Flow.{AllFit}
use Rattle.aol_cgen_flow.proofs.Lists.{map_at, either_at}
use Rattle.aol_cgen_flow.proofs.ValueFits.{value_fits, width_fits}

abbrev Fit : Val → Type 0
Fit x = fits_64 (number_of x) ≡ true

nought_fits : fits_64 (pos 0) ≡ true
nought_fits = small_fits 0 (omega arith)

either_fits : (b : Bool) (x y : Val) → Fit x → Fit y → Fit (if b then x else y)
either_fits true x y h g = h
either_fits false x y h g = g

fault_fits : (s : Option Site) (x : Val) → Fit x → Fit (fault_or s x)
fault_fits None x h = h
fault_fits (Some s) x h = nought_fits

pub all_append : (xs ys : List Val) → AllFit xs → AllFit ys → AllFit (xs ++ ys)
all_append xs ys h g k x at = elim (either_at xs ys k x at) [ inl a ↦ h k x a | inr b ↦ g b.0 x b.2 ]

nth_fits : (xs : List Val) → AllFit xs → (k : ℕ) → fits_64 (nth_number (map number_of xs) k) ≡ true
nth_fits [] h k = nought_fits
nth_fits (x ∷ xs) h zero = h 0 x refl
nth_fits (x ∷ xs) h (suc k) = nth_fits xs (λ i y at. h (suc i) y at) k

-- few elements
patterns_few : (ports : List Port) → AllByRecursion IsPort ports → patterns_size ports ≤ length ports * 2 ^ 22
patterns_few [] types = omega arith
patterns_few (p ∷ ports) types =
    let rest = patterns_few ports types.1 in
    let here = types.0.points in
    omega (arith, rest, here)

module _ (task : ℕ) (e : Elementary) (types : IsElementary e) (xs : List Val) (whole : length xs ≡ patterns_size e.ins) (fit : AllFit xs) where
  abbrev Nums : List ℤ
  Nums = map number_of xs

  as_many : length Nums ≡ patterns_size e.ins
  as_many = map_length number_of xs ∙ whole

  few : length Nums < 2 ^ 63
  few =
      let small = patterns_few e.ins types.ins in
      let count = types.in_count in
      let many = as_many in
      omega (arith, small, count, many)

  value_fit : (k : ℕ) (o : OutPort) → IsOutPort o → (x : List ℕ) → IsPointOf o.port.shape x → Fit (instance_value task e xs k o x)
  value_fit k o t x inside =
      let g : Given = record { ins = e.ins; nums = Nums; at = x } in
      let index : (i n : ℕ) → slice_get x i ≡ Some n → n < 2 ^ 63 = (λ i n at. let small = AllByRecursion-at _ x i n (small_point o.port.shape x t.port.entry inside) at in omega (arith, small)) in
      let bad : (kind : Kind) → Fit (fault_at task k o x kind) = λ kind. nought_fits in
      let own = width_fits (width_at e.wide_out k) (fault_at task k o x) (value g [] o.expr) bad (λ z is. value_fits g o.expr as_many (nth_fits xs fit) few index (expr_small o.expr t.expr) types.ins z is) in
      fault_fits (first_fault xs) (computed task e Nums k o x) (either_fits (all_hold e.ins e.wide_in Nums) _ _ own (bad Range))

  port_fit : (k : ℕ) (o : OutPort) → IsOutPort o → AllFit (map (instance_value task e xs k o) (points o.port.shape))
  port_fit k o t i v at =
      let x = map_at (instance_value task e xs k o) (points o.port.shape) i v at in
      subst Fit x.2 (value_fit k o t x.0 (points_inside o.port.shape x.0 (get_among (points o.port.shape) i x.0 x.1)))

  ports_fit : (outs : List OutPort) (n : ℕ) → AllByRecursion IsOutPort outs → AllFit (flat_map (λ (o : ℕ × OutPort). map (instance_value task e xs o.0 o.1) (points o.1.port.shape)) (enumerate_from n outs))
  ports_fit [] n t zero v at = absurd (cc)
  ports_fit [] n t (suc i) v at = absurd (cc)
  ports_fit (o ∷ outs) n t i v at =
      all_append (map (instance_value task e xs n o) (points o.port.shape)) (flat_map (λ (q : ℕ × OutPort). map (instance_value task e xs q.0 q.1) (points q.1.port.shape)) (enumerate_from (n + 1) outs)) (port_fit n o t.0) (ports_fit outs (n + 1) t.1) i v at

  pub outputs_fit : AllFit (instance_outputs task e xs)
  outputs_fit = ports_fit e.outs 0 types.outs
