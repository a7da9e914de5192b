-- Ports with numbers for names.
use Rattle.std.proofs.Common.{◌≡◌, ℕ, zero, suc, ◌+◌, ◌<◌, ◌≤◌, ◌^◌, Bool, true, false, cond, not, ◌||◌, List, [], ◌∷◌, ◌++◌, length, find, decimal, Some, option_map, sym, ◌∙◌, ap, refl, arith}
use Rattle.std.specs.List.{IsAmong}
use Rattle.std.proofs.lemmas.Fmt.{decimal_injective}
use Rattle.std.proofs.lemmas.List.Folds.{list_any-append}
use Rattle.aol_shape.specs.Lists.{same}
use Rattle.aol_expr_tree.specs.declared.port.Port.{Port}
use Rattle.aol_model_types.specs.Rules.{port_shape}
use Rattle.aol_flat.proofs.Names.{same-equal, same-self}
use Rattle.aol_change.specs.Change.{is_taken}
use Rattle.aol_change.specs.declared.tasks.Side.{Side}
use Rattle.aol_change.specs.declared.tasks.Side.TheVariants.{Inputs, Outputs}
use Rattle.aol_fusion_parts.specs.Ports.{port_name, renamed, port_number}
use Rattle.aol_fusion_laws.proofs.Fresh.{AreFresh, names_of, both_fresh, not_either, name_listed, taken_apart, taken_first}

-- two numbers give two names
pub number_of_name : (side : Side) (j k : ℕ) → j < 2 ^ 64 → k < 2 ^ 64 → port_name side j ≡ port_name side k → j ≡ k
number_of_name Inputs j k few small e = (let d : decimal j ≡ decimal k = cc in decimal_injective j k few small d)
number_of_name Outputs j k few small e = (let d : decimal j ≡ decimal k = cc in decimal_injective j k few small d)

pub names_differ : (side : Side) (j k : ℕ) → j < k → k < 2 ^ 64 → same (port_name side j) (port_name side k) ≡ false
names_differ side j k less few = go (same (port_name side j) (port_name side k)) refl
  where
    go : (b : Bool) → same (port_name side j) (port_name side k) ≡ b → same (port_name side j) (port_name side k) ≡ false
    go false e = e
    go true e = let equal : j ≡ k = number_of_name side j k (omega (arith, less, few)) few (same-equal (port_name side j) (port_name side k) e) in absurd (omega (arith, equal, less))

-- none of the names from a number on was seen
abbrev pub AreUnseen : List (List ℕ) → Side → ℕ → Type 0
AreUnseen seen side k = (j : ℕ) → k ≤ j → j < 2 ^ 64 → is_taken seen (port_name side j) ≡ false

one_more_unseen : (seen : List (List ℕ)) (side : Side) (k : ℕ) → AreUnseen seen side k → AreUnseen (seen ++ port_name side k ∷ []) side (k + 1)
one_more_unseen seen side k h j from few =
    list_any-append (λ m. same m (port_name side j)) seen (port_name side k ∷ [])
    ∙ not_either (is_taken seen (port_name side j)) (is_taken (port_name side k ∷ []) (port_name side j)) (h j (omega (arith, from)) few)
    (ap (λ b. b || false) (names_differ side k j (omega (arith, from)) few))

pub renamed_fresh : (seen : List (List ℕ)) (side : Side) (k : ℕ) (ports : List Port) → AreUnseen seen side k → k + length ports ≤ 2 ^ 64 → AreFresh seen (names_of (renamed side k ports))
renamed_fresh seen side k [] h few = tt
renamed_fresh seen side k (p ∷ ports) h few =
    (h k (omega arith) (omega (arith, few)), renamed_fresh (seen ++ port_name side k ∷ []) side (k + 1) ports (one_more_unseen seen side k h) (omega (arith, few)))

-- inputs and outputs have different letters
outputs_unseen : (k from : ℕ) (ports : List Port) → AreUnseen (names_of (renamed Inputs k ports)) Outputs from
outputs_unseen k from [] j h few = refl
outputs_unseen k from (p ∷ ports) j h few = outputs_unseen (k + 1) from ports j h few

pub both_renamed_fresh : (ins outs : List Port) → length ins ≤ 2 ^ 64 → length outs ≤ 2 ^ 64 → AreFresh [] (names_of (renamed Inputs 0 ins) ++ names_of (renamed Outputs 0 outs))
both_renamed_fresh ins outs few small =
    both_fresh [] (names_of (renamed Inputs 0 ins)) (names_of (renamed Outputs 0 outs)) (renamed_fresh [] Inputs 0 ins (λ j h k. refl) (omega (arith, few)))
    (renamed_fresh (names_of (renamed Inputs 0 ins)) Outputs 0 outs (outputs_unseen 0 0 ins) (omega (arith, small)))

-- two lists one after the other
pub renamed_append : (side : Side) (k : ℕ) (xs ys : List Port) → renamed side k (xs ++ ys) ≡ renamed side k xs ++ renamed side (k + length xs) ys
renamed_append side k [] ys = ap (λ n. renamed side n ys) (let e : k ≡ k + 0 = omega arith in e)
renamed_append side k (x ∷ xs) ys =
    ap (λ ps. record { name = port_name side k; shape = x.shape } ∷ ps)
    (renamed_append side (k + 1) xs ys ∙ ap (λ n. renamed side (k + 1) xs ++ renamed side n ys) (let e : k + 1 + length xs ≡ k + suc (length xs) = omega arith in e))

pub renamed_both : (side : Side) (xs ys : List Port) → renamed side 0 (xs ++ ys) ≡ renamed side 0 xs ++ renamed side (length xs) ys
renamed_both side xs ys = renamed_append side 0 xs ys ∙ ap (λ n. renamed side 0 xs ++ renamed side n ys) (let e : 0 + length xs ≡ length xs = omega arith in e)

pub length_renamed : (side : Side) (k : ℕ) (ports : List Port) → length (renamed side k ports) ≡ length ports
length_renamed side k [] = refl
length_renamed side k (p ∷ ports) = ap (λ n. suc n) (length_renamed side (k + 1) ports)

-- the number of a name, by the first port
number_here : (p : Port) (ports : List Port) (n : List ℕ) → same p.name n ≡ true → port_number (p ∷ ports) n ≡ 0
number_here p ports n e = ap (λ b. cond (not b) (1 + port_number ports n) 0) e

number_later : (p : Port) (ports : List Port) (n : List ℕ) → same p.name n ≡ false → port_number (p ∷ ports) n ≡ 1 + port_number ports n
number_later p ports n e = ap (λ b. cond (not b) (1 + port_number ports n) 0) e

number_le : (ports : List Port) (n : List ℕ) → port_number ports n ≤ length ports
number_le [] n = omega arith
number_le (p ∷ ports) n = go (same p.name n) refl (number_le ports n)
  where
    go : (b : Bool) → same p.name n ≡ b → port_number ports n ≤ length ports → port_number (p ∷ ports) n ≤ suc (length ports)
    go true e h = (let z : port_number (p ∷ ports) n ≡ 0 = number_here p ports n e in omega (arith, z))
    go false e h = (let z : port_number (p ∷ ports) n ≡ 1 + port_number ports n = number_later p ports n e in omega (arith, z, h))

-- a port is found by its new name
pub renamed_shape : (side : Side) (k : ℕ) (ports : List Port) (n shape : List ℕ) → k + length ports < 2 ^ 64 → port_shape ports n ≡ Some shape
    → port_shape (renamed side k ports) (port_name side (k + port_number ports n)) ≡ Some shape
renamed_shape side k [] n shape few h = cc
renamed_shape side k (p ∷ ports) n shape few h = go (same p.name n) refl h (renamed_shape side (k + 1) ports n shape (omega (arith, few)))
  where
    number : ℕ → List ℕ
    number m = port_name side (k + m)

    go : (b : Bool) → same p.name n ≡ b → option_map (λ (q : Port). q.shape) (cond b (Some p) (find (λ (q : Port). same q.name n) ports)) ≡ Some shape
        → (port_shape ports n ≡ Some shape → port_shape (renamed side (k + 1) ports) (port_name side (k + 1 + port_number ports n)) ≡ Some shape)
        → port_shape (renamed side k (p ∷ ports)) (port_name side (k + port_number (p ∷ ports) n)) ≡ Some shape
    go true e f rest = first (port_number (p ∷ ports) n) (number_here p ports n e)
      where
        first : (m : ℕ) → m ≡ 0 → port_shape (renamed side k (p ∷ ports)) (port_name side (k + m)) ≡ Some shape
        first m z =
            let at : k + m ≡ k = omega (arith, z) in
            ap (λ x. port_shape (renamed side k (p ∷ ports)) (port_name side x)) at
            ∙ (ap (λ b. option_map (λ (q : Port). q.shape) (cond b (Some (record { name = port_name side k; shape = p.shape })) (find (λ (q : Port). same q.name (port_name side k)) (renamed side (k + 1) ports)))) (same-self (port_name side k)) ∙ f)
    go false e f rest = later (port_number (p ∷ ports) n) (number_later p ports n e) (number_le ports n)
      where
        later : (m : ℕ) → m ≡ 1 + port_number ports n → port_number ports n ≤ length ports → port_shape (renamed side k (p ∷ ports)) (port_name side (k + m)) ≡ Some shape
        later m z small =
            let at : k + m ≡ k + 1 + port_number ports n = omega (arith, z) in
            ap (λ x. port_shape (renamed side k (p ∷ ports)) (port_name side x)) at
            ∙ (ap (λ b. option_map (λ (q : Port). q.shape) (cond b (Some (record { name = port_name side k; shape = p.shape })) (find (λ (q : Port). same q.name (port_name side (k + 1 + port_number ports n))) (renamed side (k + 1) ports))))
            (names_differ side k (k + 1 + port_number ports n) (omega arith) (omega (arith, few, small))) ∙ rest f)

taken_differs : (ns : List (List ℕ)) (m n : List ℕ) (s : List (List ℕ)) → AreFresh s ns → is_taken s m ≡ true → is_taken ns n ≡ true → same m n ≡ false
taken_differs ns m n s f t u = by_test (same m n) refl
  where
    by_test : (b : Bool) → same m n ≡ b → same m n ≡ false
    by_test false e = e
    by_test true e = let clash : true ≡ false = sym t ∙ (ap (is_taken s) (same-equal m n e) ∙ taken_apart s ns n f u) in cc

-- a port with a new name, by the old one
pub renamed_member : (side : Side) (k : ℕ) (ports : List Port) (y : Port) (seen : List (List ℕ)) → AreFresh seen (names_of ports) → IsAmong (renamed side k ports) y
    → (p : Port) × IsAmong ports p × (y.name ≡ port_name side (k + port_number ports p.name))
renamed_member side k [] y seen h a = absurd (omega (arith, a.1.0))
renamed_member side k (p ∷ ports) y seen h (zero, a) = (
  p,
  (0, (omega arith, refl)),
  ap (λ (q : Port). q.name) a.1 ∙ ap (port_name side) (let e : k ≡ k + port_number (p ∷ ports) p.name = (let z : port_number (p ∷ ports) p.name ≡ 0 = number_here p ports p.name (same-self p.name) in omega (arith, z)) in e),
)
renamed_member side k (p ∷ ports) y seen h (suc i, a) =
    let r = renamed_member side (k + 1) ports y (seen ++ p.name ∷ []) h.1 (i, (omega (arith, a.0), a.1)) in
    (r.0, (suc r.1.0, (omega (arith, r.1.1.0), r.1.1.1)), r.2 ∙ ap (port_name side) (later r.0 r.1))
  where
    later : (q : Port) → IsAmong ports q → k + 1 + port_number ports q.name ≡ k + port_number (p ∷ ports) q.name
    later q b =
        let differs : same p.name q.name ≡ false = taken_differs (names_of ports) p.name q.name (seen ++ p.name ∷ []) h.1 (taken_first p.name seen []) (name_listed ports q b) in
        let n : port_number (p ∷ ports) q.name ≡ 1 + port_number ports q.name = number_later p ports q.name differs in
        omega (arith, n)
