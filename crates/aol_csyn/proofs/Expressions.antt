-- The text of an expression says which one it is, and where it ends.
use Rattle.std.specs.Prelude.{◌≡◌, ℕ, ◌^◌, ◌<◌, Bool, true, false, ◌&&◌, nat_lt, ◌==◌, List, [], ◌∷◌, ◌++◌, length, codes, decimal, ℤ, pos, negsuc, if◌then◌else◌}
use Rattle.std.proofs.Common.{subst, sym, refl, ap, arith, ◌∙◌, append_assoc}
use Rattle.aol_shape.specs.Numbers.{fits_64}
use Rattle.aol_csyn.specs.declared.program.COp.{COp}
use Rattle.aol_csyn.specs.declared.program.COp.TheVariants.{Add, Sub, Mul, Div, Rem, Lt, Le, Eq}
use Rattle.aol_csyn.specs.Tree.{Expr, num, var, tab, cell_v, cell_f, bin}
use Rattle.aol_csyn.specs.Form.{expr_formed}
use Rattle.aol_csyn.specs.Text.{number_text, op_text, indexed, expr_text}
use Rattle.aol_csyn.proofs.Joined.{joined}
use Rattle.aol_csyn.proofs.Numbers.{is_digit, AreDigits, decimal_digits, nonempty, decimal_one, number_one, negative_begins_both, pos_text, bounds, same_front}

-- ---- the texts, before something

tab_assoc : (t i r : List ℕ) → ((codes "T" ++ t) ++ indexed i) ++ r ≡ 84 ∷ (t ++ (91 ∷ (i ++ (93 ∷ r))))
tab_assoc t i r = joined (codes "T" ++ t) (indexed i ∷ []) r ∙ (append_assoc (codes "T") t (indexed i ++ r) ∙ ap (λ z. 84 ∷ (t ++ z)) (joined (codes "[") (i ∷ codes "]" ∷ []) r))

pub text_tab : (t : ℕ) (i : Expr) (r : List ℕ) → expr_text (tab t i) ++ r ≡ 84 ∷ (decimal t ++ (91 ∷ (expr_text i ++ (93 ∷ r))))
text_tab t i r = tab_assoc (decimal t) (expr_text i) r

pub text_cell_v : (i : Expr) (r : List ℕ) → expr_text (cell_v i) ++ r ≡ 86 ∷ 91 ∷ (expr_text i ++ (93 ∷ r))
text_cell_v i r = joined (codes "V[") (expr_text i ∷ codes "]" ∷ []) r

pub text_cell_f : (i : Expr) (r : List ℕ) → expr_text (cell_f i) ++ r ≡ 70 ∷ 91 ∷ (expr_text i ++ (93 ∷ r))
text_cell_f i r = joined (codes "F[") (expr_text i ∷ codes "]" ∷ []) r

pub text_bin : (op : COp) (a b : Expr) (r : List ℕ) → expr_text (bin op a b) ++ r ≡ 40 ∷ (expr_text a ++ (op_text op ++ (expr_text b ++ (41 ∷ r))))
text_bin op a b r = joined (codes "(") (expr_text a ∷ op_text op ∷ expr_text b ∷ codes ")" ∷ []) r

-- ---- operators

-- the sign of an operator: its first byte after the blank, and whether `=` comes next
sign : List ℕ → ℕ × Bool
sign [] = (0, false)
sign (a ∷ []) = (0, false)
sign (a ∷ b ∷ []) = (0, false)
sign (a ∷ b ∷ c ∷ t) = (b, c == 61)

read_op : ℕ × Bool → COp
read_op (b, equal) = if b == 43 then Add else (if b == 45 then Sub else (if b == 42 then Mul else (if b == 47 then Div else (if b == 37 then Rem else (if b == 60 then (if equal then Le else Lt) else Eq)))))

read_is : (op : COp) (r : List ℕ) → read_op (sign (op_text op ++ r)) ≡ op
unfolding read_op sign
read_is Add r = refl
read_is Sub r = refl
read_is Mul r = refl
read_is Div r = refl
read_is Rem r = refl
read_is Lt r = refl
read_is Le r = refl
read_is Eq r = refl

op_one : (o p : COp) (r s : List ℕ) → op_text o ++ r ≡ op_text p ++ s → (o ≡ p) × (r ≡ s)
op_one o p r s e =
    let one : o ≡ p = sym (read_is o r) ∙ (ap (λ t. read_op (sign t)) e ∙ read_is p s) in
    (one, same_front (op_text p) r s (subst (λ q. op_text q ++ r ≡ op_text p ++ s) one e))

-- an operator's text begins with a blank
op_begins : (op : COp) (r : List ℕ) → (u : List ℕ) × (op_text op ++ r ≡ 32 ∷ u)
op_begins Add r = (_, refl)
op_begins Sub r = (_, refl)
op_begins Mul r = (_, refl)
op_begins Div r = (_, refl)
op_begins Rem r = (_, refl)
op_begins Lt r = (_, refl)
op_begins Le r = (_, refl)
op_begins Eq r = (_, refl)

-- what comes after a first byte
pub rest_of : {a b : ℕ} {r s : List ℕ} → a ∷ r ≡ b ∷ s → r ≡ s
rest_of e = cc

-- first bytes
pub heads : {a b : ℕ} {r s : List ℕ} → a ∷ r ≡ b ∷ s → a ≡ b
heads e = cc

-- ---- kinds

starts : ℕ → List ℕ → Bool
starts c [] = false
starts c (b ∷ t) = b == c

-- which kind of expression a text begins, by its first two bytes
kind : List ℕ → ℕ
kind [] = 9
kind (b ∷ t) = if is_digit b then 0 else (if b == 97 then 1 else (if b == 84 then 2 else (if b == 86 then 3 else (if b == 70 then 4 else (if starts 45 t then 0 else 5)))))

kind_digits : (ds r : List ℕ) → AreDigits ds → 0 < length ds → kind (ds ++ r) ≡ 0
unfolding kind
kind_digits [] r h n = absurd (omega (arith, n))
kind_digits (d ∷ ds) r h n = ap (λ (t : Bool). if t then 0 else (if d == 97 then 1 else (if d == 84 then 2 else (if d == 86 then 3 else (if d == 70 then 4 else (if starts 45 (ds ++ r) then 0 else 5)))))) h.0

kind_number : (n : ℤ) (r : List ℕ) → fits_64 n ≡ true → kind (number_text n ++ r) ≡ 0
unfolding kind starts
kind_number (pos n) r h = let small = bounds n h in ap kind (pos_text n r) ∙ kind_digits (decimal n) (76 ∷ 76 ∷ r) (decimal_digits n (omega (arith, small))) (nonempty n (omega (arith, small)))
kind_number (negsuc n) r h = let begun = negative_begins_both n r in ap kind begun.1

minus_digits : (ds r : List ℕ) → AreDigits ds → 0 < length ds → starts 45 (ds ++ r) ≡ false
unfolding starts
minus_digits [] r h n = absurd (omega (arith, n))
minus_digits (d ∷ ds) r h n = let one : is_digit d ≡ true = h.0 in grind (arith, one)

minus_number : (n : ℤ) (r : List ℕ) → fits_64 n ≡ true → starts 45 (number_text n ++ r) ≡ false
unfolding starts
minus_number (pos n) r h = let small = bounds n h in ap (starts 45) (pos_text n r) ∙ minus_digits (decimal n) (76 ∷ 76 ∷ r) (decimal_digits n (omega (arith, small))) (nonempty n (omega (arith, small)))
minus_number (negsuc n) r h = let begun = negative_begins_both n r in ap (starts 45) begun.1

-- ---- what is asked of a well formed expression

pub and_left : (a b : Bool) → a && b ≡ true → a ≡ true
and_left true b h = refl
and_left false b h = absurd (cc)

pub and_right : (a b : Bool) → a && b ≡ true → b ≡ true
and_right true b h = h
and_right false b h = absurd (cc)

pub lt_true : (k n : ℕ) → nat_lt k n ≡ true → k < n
lt_true k n h = grind (arith, h)

module _ (vars tables : ℕ) where
  -- no expression's text begins with a minus
  no_minus : (x : Expr) → expr_formed vars tables x ≡ true → (r : List ℕ) → starts 45 (expr_text x ++ r) ≡ false
  unfolding starts
  no_minus (num n) h r = minus_number n r h
  no_minus (var k) h r = refl
  no_minus (tab t i) h r = ap (starts 45) (text_tab t i r)
  no_minus (cell_v i) h r = ap (starts 45) (text_cell_v i r)
  no_minus (cell_f i) h r = ap (starts 45) (text_cell_f i r)
  no_minus (bin op a b) h r = ap (starts 45) (text_bin op a b r)

  abbrev kind_of : Expr → ℕ
  kind_of (num n) = 0
  kind_of (var k) = 1
  kind_of (tab t i) = 2
  kind_of (cell_v i) = 3
  kind_of (cell_f i) = 4
  kind_of (bin op a b) = 5

  -- the text begins as its kind does
  kind_is : (x : Expr) → expr_formed vars tables x ≡ true → (r : List ℕ) → kind (expr_text x ++ r) ≡ kind_of x
  unfolding kind
  kind_is (num n) h r = kind_number n r h
  kind_is (var k) h r = refl
  kind_is (tab t i) h r = ap kind (text_tab t i r)
  kind_is (cell_v i) h r = ap kind (text_cell_v i r)
  kind_is (cell_f i) h r = ap kind (text_cell_f i r)
  kind_is (bin op a b) h r =
      ap kind (text_bin op a b r) ∙ ap (λ (t : Bool). if t then 0 else 5) (no_minus a (and_left (expr_formed vars tables a) (expr_formed vars tables b) h) (op_text op ++ (expr_text b ++ (41 ∷ r))))

-- ---- one text, one expression

module _ (v1 m1 v2 m2 : ℕ) (hv1 : v1 < 2 ^ 32) (hm1 : m1 < 2 ^ 32) (hv2 : v2 < 2 ^ 32) (hm2 : m2 < 2 ^ 32) where
  -- x and y are one, and so is what comes after them
  abbrev Agree : Expr → Expr → Type 0
  Agree x y =
      expr_formed v1 m1 x ≡ true → expr_formed v2 m2 y ≡ true → (c d : ℕ) (r s : List ℕ) → is_digit c ≡ false → is_digit d ≡ false → expr_text x ++ (c ∷ r) ≡ expr_text y ++ (d ∷ s) → (x ≡ y) × ((c ∷ r) ≡ (d ∷ s))

  -- expressions of two kinds have no text in common
  apart : (x y : Expr) → (kind_of v1 m1 x ≡ kind_of v2 m2 y → ⊥) → Agree x y
  apart x y differ h k c d r s hc hd e = absurd (differ (sym (kind_is v1 m1 x h (c ∷ r)) ∙ (ap kind e ∙ kind_is v2 m2 y k (d ∷ s))))

  agree_tab : (n m : ℕ) (i j : Expr) → Agree i j → Agree (tab n i) (tab m j)
  agree_tab n m i j again h k c d r s hc hd e =
      let a = lt_true n m1 (and_left (nat_lt n m1) (expr_formed v1 m1 i) h) in let b = lt_true m m2 (and_left (nat_lt m m2) (expr_formed v2 m2 j) k) in
      let name = decimal_one n m 91 91 (expr_text i ++ (93 ∷ (c ∷ r))) (expr_text j ++ (93 ∷ (d ∷ s))) (omega (arith, a, hm1)) (omega (arith, b, hm2)) refl refl (rest_of (sym (text_tab n i (c ∷ r)) ∙ (e ∙ text_tab m j (d ∷ s)))) in
      let inner = again (and_right (nat_lt n m1) (expr_formed v1 m1 i) h) (and_right (nat_lt m m2) (expr_formed v2 m2 j) k) 93 93 (c ∷ r) (d ∷ s) refl refl (rest_of name.1) in
      (ap (λ z. tab z i) name.0 ∙ ap (λ z. tab m z) inner.0, rest_of inner.1)

  agree_cell_v : (i j : Expr) → Agree i j → Agree (cell_v i) (cell_v j)
  agree_cell_v i j again h k c d r s hc hd e =
      let inner = again h k 93 93 (c ∷ r) (d ∷ s) refl refl (rest_of (rest_of (sym (text_cell_v i (c ∷ r)) ∙ (e ∙ text_cell_v j (d ∷ s))))) in
      (ap (λ z. cell_v z) inner.0, rest_of inner.1)

  agree_cell_f : (i j : Expr) → Agree i j → Agree (cell_f i) (cell_f j)
  agree_cell_f i j again h k c d r s hc hd e =
      let inner = again h k 93 93 (c ∷ r) (d ∷ s) refl refl (rest_of (rest_of (sym (text_cell_f i (c ∷ r)) ∙ (e ∙ text_cell_f j (d ∷ s))))) in
      (ap (λ z. cell_f z) inner.0, rest_of inner.1)

  agree_bin : (o p : COp) (a b x y : Expr) → Agree a x → Agree b y → Agree (bin o a b) (bin p x y)
  agree_bin o p a b x y again_a again_b h k c d r s hc hd e =
      let fa = and_left (expr_formed v1 m1 a) (expr_formed v1 m1 b) h in let fb = and_right (expr_formed v1 m1 a) (expr_formed v1 m1 b) h in
      let gx = and_left (expr_formed v2 m2 x) (expr_formed v2 m2 y) k in let gy = and_right (expr_formed v2 m2 x) (expr_formed v2 m2 y) k in
      let whole : expr_text a ++ (op_text o ++ (expr_text b ++ (41 ∷ (c ∷ r)))) ≡ expr_text x ++ (op_text p ++ (expr_text y ++ (41 ∷ (d ∷ s)))) = rest_of (sym (text_bin o a b (c ∷ r)) ∙ (e ∙ text_bin p x y (d ∷ s))) in
      let u = op_begins o (expr_text b ++ (41 ∷ (c ∷ r))) in let w = op_begins p (expr_text y ++ (41 ∷ (d ∷ s))) in
      let one = again_a fa gx 32 32 u.0 w.0 refl refl (ap (λ z. expr_text a ++ z) (sym u.1) ∙ (whole ∙ ap (λ z. expr_text x ++ z) w.1)) in
      let ops = op_one o p (expr_text b ++ (41 ∷ (c ∷ r))) (expr_text y ++ (41 ∷ (d ∷ s))) (u.1 ∙ (one.1 ∙ sym w.1)) in
      let two = again_b fb gy 41 41 (c ∷ r) (d ∷ s) refl refl ops.1 in
      (ap (λ z. bin o z b) one.0 ∙ (ap (λ z. bin z x b) ops.0 ∙ ap (λ z. bin p x z) two.0), rest_of two.1)

  pub expr_one : (x y : Expr) → Agree x y
  expr_one (num n) (num m) h k c d r s hc hd e =
      let both = number_one n m (c ∷ r) (d ∷ s) h k e in (ap (λ z. num z) both.0, both.1)
  expr_one (var n) (var m) h k c d r s hc hd e =
      let a = lt_true n v1 h in let b = lt_true m v2 k in
      let both = decimal_one n m c d r s (omega (arith, a, hv1)) (omega (arith, b, hv2)) hc hd (rest_of e) in (ap (λ z. var z) both.0, both.1)
  expr_one (tab n i) (tab m j) h k c d r s hc hd e = agree_tab n m i j (expr_one i j) h k c d r s hc hd e
  expr_one (cell_v i) (cell_v j) h k c d r s hc hd e = agree_cell_v i j (expr_one i j) h k c d r s hc hd e
  expr_one (cell_f i) (cell_f j) h k c d r s hc hd e = agree_cell_f i j (expr_one i j) h k c d r s hc hd e
  expr_one (bin o a b) (bin p x y) h k c d r s hc hd e = agree_bin o p a b x y (expr_one a x) (expr_one b y) h k c d r s hc hd e
  expr_one (num n) y h k c d r s hc hd e = apart (num n) y (λ q. omega (arith, q)) h k c d r s hc hd e
  expr_one (var n) y h k c d r s hc hd e = apart (var n) y (λ q. omega (arith, q)) h k c d r s hc hd e
  expr_one (tab n i) y h k c d r s hc hd e = apart (tab n i) y (λ q. omega (arith, q)) h k c d r s hc hd e
  expr_one (cell_v i) y h k c d r s hc hd e = apart (cell_v i) y (λ q. omega (arith, q)) h k c d r s hc hd e
  expr_one (cell_f i) y h k c d r s hc hd e = apart (cell_f i) y (λ q. omega (arith, q)) h k c d r s hc hd e
  expr_one (bin o a b) y h k c d r s hc hd e = apart (bin o a b) y (λ q. omega (arith, q)) h k c d r s hc hd e
