-- Ports by their new names.
use Rattle.std.proofs.Common.{◌≡◌, ℕ, ◌+◌, ◌<◌, ◌^◌, Bool, true, false, cond, not, List, [], ◌∷◌, ◌++◌, length, find, slice_get, Option, Some, None, option_map, sym, ◌∙◌, ap, refl, arith, subst}
use Rattle.std.proofs.lemmas.List.{map-append, length-append}
use Rattle.std.proofs.lemmas.List.Folds.{find_at}
use Rattle.aol_shape.specs.Lists.{same}
use Rattle.aol_expr_tree.specs.declared.port.Port.{Port}
use Rattle.aol_model_types.specs.declared.job.FuseArgs.{FuseArgs}
use Rattle.aol_model_types.specs.declared.task.Compound.{Compound}
use Rattle.aol_model_types.specs.Rules.{port_shape}
use Rattle.aol_flat.proofs.Find.{find_filtered}
use Rattle.aol_flat.proofs.Names.{same-self, same-equal}
use Rattle.aol_flat.proofs.Sites.{find-passes}
use Rattle.aol_flat.proofs.Shapes.{shape_left, shape_right}
use Rattle.aol_change.specs.declared.tasks.Side.{Side}
use Rattle.aol_change.specs.declared.tasks.Side.TheVariants.{Inputs}
use Rattle.aol_fusion_parts.specs.Joined.{is_joined}
use Rattle.aol_fusion_parts.specs.Ports.{renamed, port_number, name_among, unjoined_ports}
use Rattle.aol_fusion_laws.proofs.Fresh.{AreFresh, names_of}
use Rattle.aol_fusion_laws.proofs.Renamed.{number_of_name, renamed_fresh, renamed_both, renamed_shape}
use Rattle.aol_fusion_laws.proofs.Wired.{sides_differ}

-- ---- numbers of names

-- a port that is there stands at the number of its name
pub number_at : (ports : List Port) (n shape : List ℕ) → port_shape ports n ≡ Some shape → (p : Port) × (slice_get ports (port_number ports n) ≡ Some p) × (p.name ≡ n)
number_at ports n shape h = go (find (λ (p : Port). same p.name n) ports) refl h
  where
    go : (o : Option Port) → find (λ (p : Port). same p.name n) ports ≡ o → option_map (λ (p : Port). p.shape) o ≡ Some shape → (p : Port) × (slice_get ports (port_number ports n) ≡ Some p) × (p.name ≡ n)
    go None e k = cc
    go (Some p) e k = (p, sym (find_at (λ (q : Port). same q.name n) ports) ∙ e, same-equal p.name n (find-passes (λ (q : Port). same q.name n) ports p e))

-- so it is among them
pub number_lt : (ports : List Port) (n shape : List ℕ) → port_shape ports n ≡ Some shape → port_number ports n < length ports
number_lt [] n shape h = cc
number_lt (p ∷ ports) n shape h = go (same p.name n) refl h (number_lt ports n shape)
  where
    go : (b : Bool) → same p.name n ≡ b → option_map (λ (q : Port). q.shape) (cond b (Some p) (find (λ (q : Port). same q.name n) ports)) ≡ Some shape
        → (port_shape ports n ≡ Some shape → port_number ports n < length ports) → port_number (p ∷ ports) n < length (p ∷ ports)
    go true e k rest =
        let z : port_number (p ∷ ports) n ≡ 0 = ap (λ b. cond (not b) (1 + port_number ports n) 0) e in
        omega (arith, z)
    go false e k rest =
        let z : port_number (p ∷ ports) n ≡ 1 + port_number ports n = ap (λ b. cond (not b) (1 + port_number ports n) 0) e in
        omega (arith, z, rest k)

-- two ports that are there have one number only where they have one name
pub same_number : (ports : List Port) (a b s t : List ℕ) → port_shape ports a ≡ Some s → port_shape ports b ≡ Some t → port_number ports a ≡ port_number ports b → a ≡ b
same_number ports a b s t h k e =
    let p = number_at ports a s h in
    let q = number_at ports b t k in
    let both : Some p.0 ≡ Some q.0 = sym p.1 ∙ (ap (slice_get ports) e ∙ q.1) in
    let is : p.0 ≡ q.0 = cc in
    sym p.2 ∙ (ap (λ (x : Port). x.name) is ∙ q.2)

-- a port's new name is another's only where the old ones are the same
pub same_among : (side : Side) (before : ℕ) (ports : List Port) (a b s t : List ℕ) → before + length ports < 2 ^ 64 → port_shape ports a ≡ Some s → port_shape ports b ≡ Some t
    → same (name_among side before ports a) (name_among side before ports b) ≡ same a b
same_among side before ports a b s t few h k = go (same a b) refl
  where
    go : (c : Bool) → same a b ≡ c → same (name_among side before ports a) (name_among side before ports b) ≡ c
    go true e = ap (λ n. same (name_among side before ports n) (name_among side before ports b)) (same-equal a b e) ∙ same-self (name_among side before ports b)
    go false e = other (same (name_among side before ports a) (name_among side before ports b)) refl
      where
        other : (c : Bool) → same (name_among side before ports a) (name_among side before ports b) ≡ c → same (name_among side before ports a) (name_among side before ports b) ≡ false
        other false f = f
        other true f =
            let na : port_number ports a < length ports = number_lt ports a s h in
            let nb : port_number ports b < length ports = number_lt ports b t k in
            let numbers : before + port_number ports a ≡ before + port_number ports b =
            number_of_name side (before + port_number ports a) (before + port_number ports b) (omega (arith, few, na)) (omega (arith, few, nb)) (same-equal (name_among side before ports a) (name_among side before ports b) f) in
            let equal : a ≡ b = same_number ports a b s t h k (let n : port_number ports a ≡ port_number ports b = omega (arith, numbers) in n) in
            let clash : true ≡ false = sym (same-self b) ∙ (ap (λ n. same n b) (sym equal) ∙ e) in
            absurd (cc)

-- the names of two lists, one after the other, differ
pub apart_among : (xs ys : List Port) (a b s t : List ℕ) → length xs + length ys < 2 ^ 64 → port_shape xs a ≡ Some s → port_shape ys b ≡ Some t
    → same (name_among Inputs 0 xs a) (name_among Inputs (length xs) ys b) ≡ false
apart_among xs ys a b s t few h k = go (same (name_among Inputs 0 xs a) (name_among Inputs (length xs) ys b)) refl
  where
    go : (c : Bool) → same (name_among Inputs 0 xs a) (name_among Inputs (length xs) ys b) ≡ c → same (name_among Inputs 0 xs a) (name_among Inputs (length xs) ys b) ≡ false
    go false e = e
    go true e =
        let na : port_number xs a < length xs = number_lt xs a s h in
        let nb : port_number ys b < length ys = number_lt ys b t k in
        let numbers : 0 + port_number xs a ≡ length xs + port_number ys b =
        number_of_name Inputs (0 + port_number xs a) (length xs + port_number ys b) (omega (arith, few, na)) (omega (arith, few, nb)) (same-equal (name_among Inputs 0 xs a) (name_among Inputs (length xs) ys b) e) in
        absurd (omega (arith, numbers, na))

pub other_name : (a b : List ℕ) → same a b ≡ false → same b a ≡ false
other_name a b h = go (same b a) refl
  where
    go : (c : Bool) → same b a ≡ c → same b a ≡ false
    go false e = e
    go true e =
        let equal : b ≡ a = same-equal b a e in
        let clash : true ≡ false = sym (same-self a) ∙ (ap (same a) (sym equal) ∙ h) in
        absurd (cc)

-- ---- shapes by new names

-- of the first of two lists
pub first_renamed : (xs ys : List Port) (n shape : List ℕ) → length xs + length ys < 2 ^ 64 → port_shape xs n ≡ Some shape → port_shape (renamed Inputs 0 (xs ++ ys)) (name_among Inputs 0 xs n) ≡ Some shape
first_renamed xs ys n shape few h =
    ap (λ ps. port_shape ps (name_among Inputs 0 xs n)) (renamed_both Inputs xs ys)
    ∙ shape_left (renamed Inputs 0 xs) (renamed Inputs (length xs) ys) (name_among Inputs 0 xs n) shape (renamed_shape Inputs 0 xs n shape (omega (arith, few)) h)

-- and of the second
pub second_renamed : (xs ys : List Port) (n shape : List ℕ) → length xs + length ys < 2 ^ 64 → port_shape ys n ≡ Some shape
    → port_shape (renamed Inputs 0 (xs ++ ys)) (name_among Inputs (length xs) ys n) ≡ Some shape
second_renamed xs ys n shape few h =
    let here : port_shape (renamed Inputs (length xs) ys) (name_among Inputs (length xs) ys n) ≡ Some shape = renamed_shape Inputs (length xs) ys n shape few h in
    let P : List (List ℕ) → Type 0 = λ ns. AreFresh [] ns in
    let fresh : AreFresh [] (names_of (renamed Inputs 0 (xs ++ ys))) = renamed_fresh [] Inputs 0 (xs ++ ys) (λ j from k. refl) (omega (arith, few, length-append xs ys)) in
    let both : AreFresh [] (names_of (renamed Inputs 0 xs) ++ names_of (renamed Inputs (length xs) ys)) =
    subst P (ap names_of (renamed_both Inputs xs ys) ∙ map-append (λ (q : Port). q.name) (renamed Inputs 0 xs) (renamed Inputs (length xs) ys)) fresh in
    ap (λ ps. port_shape ps (name_among Inputs (length xs) ys n)) (renamed_both Inputs xs ys)
    ∙ shape_right (renamed Inputs 0 xs) (renamed Inputs (length xs) ys) (name_among Inputs (length xs) ys n) shape
    (sides_differ (renamed Inputs 0 xs) (renamed Inputs (length xs) ys) (name_among Inputs (length xs) ys n) shape both here) here

-- a port that isn't joined stays among those that aren't
pub unjoined_shape : (args : FuseArgs) (c : Compound) (ins : List Port) (n shape : List ℕ) → port_shape ins n ≡ Some shape → is_joined args c n ≡ false → port_shape (unjoined_ports args c ins) n ≡ Some shape
unjoined_shape args c ins n shape h free = go (find (λ (q : Port). same q.name n) ins) refl h
  where
    go : (o : Option Port) → find (λ (q : Port). same q.name n) ins ≡ o → option_map (λ (q : Port). q.shape) o ≡ Some shape → port_shape (unjoined_ports args c ins) n ≡ Some shape
    go None e k = cc
    go (Some q) e k =
        let named : q.name ≡ n = same-equal q.name n (find-passes (λ (r : Port). same r.name n) ins q e) in
        ap (option_map (λ (r : Port). r.shape))
        (find_filtered (λ (r : Port). same r.name n) (λ (r : Port). not (is_joined args c r.name)) ins q (ap (λ m. not (is_joined args c m)) named ∙ ap not free) e)
        ∙ k
