-- The first place of a list that passes a test.
use Rattle.std.proofs.Common.{◌≡◌, ℕ, ◌<◌, ◌≤◌, nat_lt, not, Bool, true, false, cond, List, length, map, Some, None, is_some, option_map, find, slice_get, sym, ◌∙◌, ap, refl, arith, inl, inr}
use Rattle.std.specs.List.{position, position_or_len}
use Rattle.std.proofs.lemmas.Bool.{ltb-true}
use Rattle.std.proofs.lemmas.Bool.Decides.{nat_tests}
use Rattle.std.proofs.lemmas.List.Folds.{find_at}
use Rattle.std.proofs.lemmas.List.Sums.{prefix_len-le-length}
use Rattle.std.proofs.lemmas.Option.{slice_get_past, slice_get_cases, slice_get-map}
use Rattle.aol_shape.specs.Lists.{same}
use Rattle.aol_expr_tree.specs.declared.port.Port.{Port}
use Rattle.aol_model_types.specs.declared.task.OutPort.{OutPort}
use Rattle.aol_model_types.specs.Rules.{port_shape}
use Rattle.aol_model_types.proofs.PortNames.{out_missing}
use Rattle.aol_flat.specs.Feed.{IsNumberOf}
use Rattle.aol_flat.proofs.Names.{same-equal}
use Rattle.aol_flat.proofs.Sites.{find-passes}

-- the element at the place that is found
pub record IsFoundAt {X : Type 0} (test : X → Bool) (xs : List X) (k : ℕ) : Type 0 where
  pub item : X
  pub listed : slice_get xs k ≡ Some item
  pub first : find test xs ≡ Some item
  pub passes : test item ≡ true
  pub within : k < length xs

pub found_at : {X : Type 0} (test : X → Bool) (xs : List X) (k : ℕ) → position test xs ≡ Some k → IsFoundAt test xs k
found_at {X} test xs k h = go (nat_lt (position_or_len test xs) (length xs)) refl h
  where
    by_item : position_or_len test xs ≡ k → k < length xs → IsFoundAt test xs k
    by_item e l = elim ((slice_get_cases xs k).1) [
      | inl a ↦
          let first : find test xs ≡ Some a.0 = find_at test xs ∙ (ap (slice_get xs) e ∙ a.2) in
          record { item = a.0; listed = a.2; first = first; passes = find-passes test xs a.0 first; within = l }
      | inr a ↦ absurd (omega (arith, a.0, l))
    ]

    go : (b : Bool) → nat_lt (position_or_len test xs) (length xs) ≡ b → cond b (Some (position_or_len test xs)) None ≡ Some k → IsFoundAt test xs k
    go true e f =
        let same_place : position_or_len test xs ≡ k = cc in
        let l : position_or_len test xs < length xs = ltb-true (position_or_len test xs) (length xs) e in
        by_item same_place (omega (arith, l, same_place))
    go false e f = cc

pub not_found : {X : Type 0} (test : X → Bool) (xs : List X) → position test xs ≡ None → find test xs ≡ None
not_found test xs h = go (nat_lt (position_or_len test xs) (length xs)) refl h
  where
    go : (b : Bool) → nat_lt (position_or_len test xs) (length xs) ≡ b → cond b (Some (position_or_len test xs)) None ≡ None → find test xs ≡ None
    go true e f = cc
    go false e f = find_at test xs ∙ slice_get_past xs (position_or_len test xs) (past (position_or_len test xs) (length xs) e)
      where
        past : (a b : ℕ) → nat_lt a b ≡ false → b ≤ a
        past a b g = grind (arith, nat_tests)

-- the place that is not found is the end
pub place_not_found : {X : Type 0} (test : X → Bool) (xs : List X) → position test xs ≡ None → position_or_len test xs ≡ length xs
place_not_found test xs h = go (nat_lt (position_or_len test xs) (length xs)) refl h
  where
    at_end : (a b : ℕ) → nat_lt a b ≡ false → a ≤ b → a ≡ b
    at_end a b g l = grind (arith, nat_tests)

    go : (b : Bool) → nat_lt (position_or_len test xs) (length xs) ≡ b → cond b (Some (position_or_len test xs)) None ≡ None → position_or_len test xs ≡ length xs
    go true e f = cc
    go false e f = at_end (position_or_len test xs) (length xs) e (prefix_len-le-length (λ x. not (test x)) xs)

-- ---- ports by name

pub number_found : (ports : List Port) (name : List ℕ) (k : ℕ) → position (λ (p : Port). same p.name name) ports ≡ Some k → IsNumberOf ports name k
number_found ports name k h =
    let f = found_at (λ (p : Port). same p.name name) ports k h in
    record { port = f.item; listed = f.listed; named = same-equal f.item.name name f.passes }

pub number_there : (ports : List Port) (name : List ℕ) → position (λ (p : Port). same p.name name) ports ≡ None → is_some (port_shape ports name) ≡ true → ⊥
number_there ports name h there =
    let none : port_shape ports name ≡ None = ap (option_map (λ (p : Port). p.shape)) (not_found (λ (p : Port). same p.name name) ports h) in
    let f : false ≡ true = ap is_some (sym none) ∙ there in
    cc

pub out_number_found : (outs : List OutPort) (name : List ℕ) (k : ℕ) → position (λ (o : OutPort). same o.port.name name) outs ≡ Some k → IsNumberOf (map (λ (o : OutPort). o.port) outs) name k
out_number_found outs name k h =
    let f = found_at (λ (o : OutPort). same o.port.name name) outs k h in
    record {
      port = f.item.port;
      listed = slice_get-map (λ (o : OutPort). o.port) outs k ∙ ap (option_map (λ (o : OutPort). o.port)) f.listed;
      named = same-equal f.item.port.name name f.passes;
    }

pub out_number_there : (outs : List OutPort) (name : List ℕ) → position (λ (o : OutPort). same o.port.name name) outs ≡ None → is_some (port_shape (map (λ (o : OutPort). o.port) outs) name) ≡ true → ⊥
out_number_there outs name h there =
    let none : port_shape (map (λ (o : OutPort). o.port) outs) name ≡ None = out_missing outs name (not_found (λ (o : OutPort). same o.port.name name) outs h) in
    let f : false ≡ true = ap is_some (sym none) ∙ there in
    cc
