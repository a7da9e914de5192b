-- Lines: what is written is read, and what is read was written.
use Rattle.std.specs.Prelude.{◌≡◌, ℕ, zero, suc, ◌^◌, ◌<◌, ◌==◌, Bool, true, false, ◌&&◌, List, [], ◌∷◌, ◌++◌, length, codes, decimal, ℤ, Some, None, option_map, option_and_then, if◌then◌else◌}
use Rattle.std.specs.List.{list_all}
use Rattle.std.proofs.Common.{subst, sym, refl, ap, arith, ◌∙◌, append_assoc}
use Rattle.aol_shape.specs.Numbers.{fits_64}
use Rattle.aol_csyn.specs.Tree.{Expr}
use Rattle.aol_csyn.specs.Text.{number_text, expr_text, numbers_text, further_text}
use Rattle.aol_csyn.proofs.Joined.{joined}
use Rattle.aol_cread.specs.Bytes.{Read, found, expect, after, before, between, mapped, is_clear, read_number, read_expr}
use Rattle.aol_cread.specs.Lines.{Line, head_line, type_line, table_line, v_line, f_line, step_line, var_line, set_line, put_v_line, put_f_line, if_line, else_line, for_line, close_line, run_line, call_line, onto, read_further, read_numbers, read_small, table_from, read_table, ForParts, read_for_parts, for_of, read_for, read_line}
use Rattle.aol_cread.proofs.Formats.{split, split_map, some_pair, expect_is, expect_sound, Sound, Complete, sound_after, sound_before, complete_after, sound_choose, sound_between, sound_form}
use Rattle.aol_cread.proofs.Counts.{sound_count, complete_count}
use Rattle.aol_cread.proofs.Values.{counts_onto, number_onto, Fits, sound_number, complete_number}
use Rattle.aol_cread.proofs.Exprs.{expr_onto, Sized, Small, sound_expr, complete_expr, both_true, left_true, right_true}

sound_small : Sound read_small counts_onto Small
sound_small = sound_count (2 ^ 32) (omega arith) (omega arith)

complete_small : Complete read_small counts_onto Small
complete_small = complete_count (2 ^ 32) (omega arith)

-- what is read before a literal, whatever comes after it
module _ {A : Type 0} (f : List ℕ → Read A) (onto : A → List ℕ → List ℕ) (fits : A → Type 0) (xs : List ℕ) (clear : (r : List ℕ) → is_clear (xs ++ r) ≡ true) (own : Complete f onto fits) where
  before_any : (a : A) (r : List ℕ) → fits a → before f xs (onto a (xs ++ r)) ≡ Some (a, r)
  before_any a r fit =
      ap (option_and_then (λ (p : A × List ℕ). option_map (λ (q : List ℕ). (p.0, q)) (expect xs p.1))) (own a (xs ++ r) fit (clear r))
      ∙ ap (option_map (λ (q : List ℕ). (a, q))) (expect_is xs r)

-- two things, where the second is known to be read
between_any : {A B : Type 0} (f : List ℕ → Read A) (g : List ℕ → Read B) (onto : A → List ℕ → List ℕ) (xs : List ℕ) → ((r : List ℕ) → is_clear (xs ++ r) ≡ true) → (fits : A → Type 0) → Complete f onto fits
    → (a : A) (b : B) (t r : List ℕ) → fits a → g t ≡ Some (b, r) → between f xs g (onto a (xs ++ t)) ≡ Some ((a, b), r)
between_any {A = A} {B = B} f g onto xs clear fits own a b t r fit second =
    ap (option_and_then (λ (p : A × List ℕ). option_map (λ (q : B × List ℕ). ((p.0, q.0), q.1)) (after xs g p.1))) (own a (xs ++ t) fit (clear t))
    ∙ ap (option_map (λ (q : B × List ℕ). ((a, q.0), q.1))) (ap (option_and_then g) (expect_is xs t) ∙ second)

-- ---- numbers of a table

abbrev further_onto : List ℤ → List ℕ → List ℕ
further_onto zs r = further_text zs ++ r

abbrev numbers_onto : List ℤ → List ℕ → List ℕ
numbers_onto zs r = numbers_text zs ++ r

-- so many numbers of 64 bits
record AreNumbers (n : ℕ) (zs : List ℤ) : Type 0 where
  many : length zs ≡ n
  fit : list_all fits_64 zs ≡ true

numbers_more : (n : ℕ) (z : ℤ) (zs : List ℤ) → Fits z → AreNumbers n zs → AreNumbers (suc n) (z ∷ zs)
numbers_more n z zs h s = record { many = ap (λ k. suc k) s.many; fit = both_true (fits_64 z) (list_all fits_64 zs) h s.fit }

further_joined : (z : ℤ) (zs : List ℤ) (r : List ℕ) → further_text (z ∷ zs) ++ r ≡ 44 ∷ (number_text z ++ (further_text zs ++ r))
further_joined z zs r = joined (codes ",") (number_text z ∷ further_text zs ∷ []) r

sound_further : (n : ℕ) → Sound (read_further n) further_onto (AreNumbers n)
unfolding read_further
sound_further zero t zs r h =
    let both = some_pair h in
    (both.1 ∙ ap (λ ys. further_text ys ++ r) both.0, subst (AreNumbers 0) both.0 (record { many = refl; fit = refl }))
sound_further (suc n) t zs r h =
    let s = split (λ (p : ℤ × List ℕ). mapped (λ ys. p.0 ∷ ys) (read_further n) p.1) (after (codes ",") read_number t) (zs, r) h in
    let z = s.value.0 in
    let m = split_map (λ (p : List ℤ × List ℕ). (z ∷ p.0, p.1)) (read_further n s.value.1) (zs, r) s.gives in
    let is : z ∷ m.value.0 ≡ zs = ap (λ (p : List ℤ × List ℕ). p.0) m.gives in
    let left : m.value.1 ≡ r = ap (λ (p : List ℤ × List ℕ). p.1) m.gives in
    let one = sound_after read_number number_onto Fits (codes ",") sound_number t z s.value.1 s.is in
    let rest = sound_further n s.value.1 m.value.0 m.value.1 m.is in (
      one.0 ∙ (ap (λ q. 44 ∷ (number_text z ++ q)) rest.0 ∙ (sym (further_joined z m.value.0 m.value.1) ∙ (ap (λ ys. further_text ys ++ m.value.1) is ∙ ap (λ q. further_text zs ++ q) left))),
      subst (AreNumbers (suc n)) is (numbers_more n z m.value.0 one.1 rest.1),
    )

sound_numbers : (n : ℕ) → Sound (read_numbers n) numbers_onto (λ zs. AreNumbers n zs × (0 < n))
unfolding read_numbers
sound_numbers zero t zs r h = absurd (cc)
sound_numbers (suc n) t zs r h =
    let s = split (λ (p : ℤ × List ℕ). mapped (λ ys. p.0 ∷ ys) (read_further n) p.1) (read_number t) (zs, r) h in
    let z = s.value.0 in
    let m = split_map (λ (p : List ℤ × List ℕ). (z ∷ p.0, p.1)) (read_further n s.value.1) (zs, r) s.gives in
    let is : z ∷ m.value.0 ≡ zs = ap (λ (p : List ℤ × List ℕ). p.0) m.gives in
    let left : m.value.1 ≡ r = ap (λ (p : List ℤ × List ℕ). p.1) m.gives in
    let one = sound_number t z s.value.1 s.is in
    let rest = sound_further n s.value.1 m.value.0 m.value.1 m.is in (
      one.0 ∙ (ap (λ q. number_text z ++ q) rest.0 ∙ (sym (append_assoc (number_text z) (further_text m.value.0) m.value.1) ∙ (ap (λ ys. numbers_text ys ++ m.value.1) is ∙ ap (λ q. numbers_text zs ++ q) left))),
      (subst (AreNumbers (suc n)) is (numbers_more n z m.value.0 one.1 rest.1), omega arith),
    )

further_clear : (zs : List ℤ) (r : List ℕ) → is_clear r ≡ true → is_clear (further_text zs ++ r) ≡ true
further_clear [] r h = h
further_clear (z ∷ zs) r h = ap is_clear (further_joined z zs r)

complete_further : (zs : List ℤ) (n : ℕ) (r : List ℕ) → length zs ≡ n → list_all fits_64 zs ≡ true → is_clear r ≡ true → read_further n (further_text zs ++ r) ≡ Some (zs, r)
unfolding read_further
complete_further [] zero r many h clear = refl
complete_further [] (suc n) r many h clear = absurd (omega (arith, many))
complete_further (z ∷ zs) zero r many h clear = absurd (omega (arith, many))
complete_further (z ∷ zs) (suc n) r many h clear =
    ap (λ t. option_and_then (λ (p : ℤ × List ℕ). mapped (λ ys. p.0 ∷ ys) (read_further n) p.1) (after (codes ",") read_number t)) (further_joined z zs r)
    ∙ (ap (option_and_then (λ (p : ℤ × List ℕ). mapped (λ ys. p.0 ∷ ys) (read_further n) p.1))
    (complete_after read_number number_onto Fits (codes ",") complete_number z (further_text zs ++ r) (left_true (fits_64 z) (list_all fits_64 zs) h) (further_clear zs r clear))
    ∙ ap (option_map (λ (p : List ℤ × List ℕ). (z ∷ p.0, p.1))) (complete_further zs n r (omega (arith, many)) (right_true (fits_64 z) (list_all fits_64 zs) h) clear))

complete_numbers : (n : ℕ) → Complete (read_numbers n) numbers_onto (λ zs. AreNumbers n zs × (0 < n))
unfolding read_numbers
complete_numbers zero zs r fit clear = absurd (omega (arith, fit.1))
complete_numbers (suc n) [] r fit clear = let s = fit.0 in let many = s.many in absurd (omega (arith, many))
complete_numbers (suc n) (z ∷ zs) r fit clear =
    let s = fit.0 in let many = s.many in
    ap (λ t. option_and_then (λ (p : ℤ × List ℕ). mapped (λ ys. p.0 ∷ ys) (read_further n) p.1) (read_number t)) (append_assoc (number_text z) (further_text zs) r)
    ∙ (ap (option_and_then (λ (p : ℤ × List ℕ). mapped (λ ys. p.0 ∷ ys) (read_further n) p.1))
    (complete_number z (further_text zs ++ r) (left_true (fits_64 z) (list_all fits_64 zs) s.fit) (further_clear zs r clear))
    ∙ ap (option_map (λ (p : List ℤ × List ℕ). (z ∷ p.0, p.1))) (complete_further zs n r (omega (arith, many)) (right_true (fits_64 z) (list_all fits_64 zs) s.fit) clear))

-- ---- which lines there are

-- a table of a line
pub record FitsTable (t : ℕ) (numbers : List ℤ) : Type 0 where
  pub name : t < 2 ^ 32
  pub many : length numbers < 2 ^ 32
  pub some : 0 < length numbers
  pub fit : list_all fits_64 numbers ≡ true

-- its numbers have 64 bits, names 32, and its expressions at most so many levels
abbrev pub FitsLine : ℕ → Line → Type 0
FitsLine room head_line = Unit {0}
FitsLine room type_line = Unit {0}
FitsLine room (table_line t numbers) = FitsTable t numbers
FitsLine room (v_line cells) = Small cells
FitsLine room (f_line cells) = Small cells
FitsLine room (step_line level worker) = Small level × Small worker
FitsLine room (var_line k) = Small k
FitsLine room (set_line k e) = Small k × Sized room e
FitsLine room (put_v_line at e) = Sized room at × Sized room e
FitsLine room (put_f_line at e) = Sized room at × Sized room e
FitsLine room (if_line e) = Sized room e
FitsLine room else_line = Unit {0}
FitsLine room (for_line k a b) = Small k × Fits a × Fits b
FitsLine room close_line = Unit {0}
FitsLine room run_line = Unit {0}
FitsLine room (call_line level worker) = Small level × Small worker

-- ---- the first line of a `for`

abbrev parts_onto : ForParts → List ℕ → List ℕ
parts_onto p r =
    decimal p.0 ++ (codes " = " ++ (number_text p.1.0 ++ (codes "; a" ++ (decimal p.1.1.0 ++ (codes " < " ++ (number_text p.1.1.1.0 ++ (codes "; a"
    ++ (decimal p.1.1.1.1.0 ++ (codes " = a" ++ (decimal p.1.1.1.1.1 ++ (codes " + 1LL) {\n" ++ r)))))))))))

abbrev FitsParts : ForParts → Type 0
FitsParts p = Small p.0 × (Fits p.1.0 × (Small p.1.1.0 × (Fits p.1.1.1.0 × (Small p.1.1.1.1.0 × Small p.1.1.1.1.1))))

sound_parts : Sound read_for_parts parts_onto FitsParts
sound_parts =
    sound_between _ _ counts_onto _ Small _ (codes " = ") sound_small (sound_between _ _ number_onto _ Fits _ (codes "; a") sound_number (sound_between _ _ counts_onto _ Small _ (codes " < ") sound_small
    (sound_between _ _ number_onto _ Fits _ (codes "; a") sound_number (sound_between _ _ counts_onto _ Small _ (codes " = a") sound_small (sound_before read_small counts_onto Small (codes " + 1LL) {\n") sound_small)))))

-- its last part, its last two parts and so on, read and written
abbrev read_last : List ℕ → Read ℕ
read_last = before read_small (codes " + 1LL) {\n")

abbrev read_two : List ℕ → Read (ℕ × ℕ)
read_two = between read_small (codes " = a") read_last

abbrev read_three : List ℕ → Read (ℤ × (ℕ × ℕ))
read_three = between read_number (codes "; a") read_two

abbrev read_four : List ℕ → Read (ℕ × (ℤ × (ℕ × ℕ)))
read_four = between read_small (codes " < ") read_three

abbrev read_five : List ℕ → Read (ℤ × (ℕ × (ℤ × (ℕ × ℕ))))
read_five = between read_number (codes "; a") read_four

abbrev last_onto : ℕ → List ℕ → List ℕ
last_onto n r = decimal n ++ (codes " + 1LL) {\n" ++ r)

abbrev two_onto : ℕ × ℕ → List ℕ → List ℕ
two_onto p r = decimal p.0 ++ (codes " = a" ++ last_onto p.1 r)

abbrev three_onto : ℤ × (ℕ × ℕ) → List ℕ → List ℕ
three_onto p r = number_text p.0 ++ (codes "; a" ++ two_onto p.1 r)

abbrev four_onto : ℕ × (ℤ × (ℕ × ℕ)) → List ℕ → List ℕ
four_onto p r = decimal p.0 ++ (codes " < " ++ three_onto p.1 r)

abbrev five_onto : ℤ × (ℕ × (ℤ × (ℕ × ℕ))) → List ℕ → List ℕ
five_onto p r = number_text p.0 ++ (codes "; a" ++ four_onto p.1 r)

for_by : (d : Bool) (k l m n : ℕ) (a b : ℤ) (x : Line) (r s : List ℕ) → (k == l && k == m && k == n) ≡ d → (if d then found (for_line k a b) s else None) ≡ found x r
    → (k ≡ l) × (k ≡ m) × (k ≡ n) × (for_line k a b ≡ x) × (s ≡ r)
for_by false k l m n a b x r s is h = absurd (cc)
for_by true k l m n a b x r s is h =
    let both = some_pair h in
    let first = left_true (k == l && k == m) (k == n) is in
    let one = left_true (k == l) (k == m) first in let two = right_true (k == l) (k == m) first in let three = right_true (k == l && k == m) (k == n) is in
    (grind (arith, one), grind (arith, two), grind (arith, three), both.0, both.1)

module _ (room : ℕ) where
  sound_for : Sound (after (codes "for (a") read_for) onto (FitsLine room)
  sound_for t x r h =
      let s = split read_for (expect (codes "for (a") t) (x, r) h in
      let q = split (λ (p : ForParts × List ℕ). for_of p.0 p.1) (read_for_parts s.value) (x, r) s.gives in
      let p = q.value.0 in
      let parts = sound_parts s.value p q.value.1 q.is in
      let fit = parts.1 in
      let same = for_by (p.0 == p.1.1.0 && p.0 == p.1.1.1.1.0 && p.0 == p.1.1.1.1.1) p.0 p.1.1.0 p.1.1.1.1.0 p.1.1.1.1.1 p.1.0 p.1.1.1.0 x r q.value.1 refl q.gives in
      let text : List ℕ → ℕ → ℕ → ℕ → List ℕ = λ rest l m n.
      codes "for (a" ++ (decimal p.0 ++ (codes " = " ++ (number_text p.1.0 ++ (codes "; a" ++ (decimal l ++ (codes " < " ++ (number_text p.1.1.1.0 ++ (codes "; a"
      ++ (decimal m ++ (codes " = a" ++ (decimal n ++ (codes " + 1LL) {\n" ++ rest)))))))))))) in (
        expect_sound (codes "for (a") t s.value s.is ∙ (ap (λ z. codes "for (a" ++ z) parts.0
            ∙ (ap (λ l. text q.value.1 l p.1.1.1.1.0 p.1.1.1.1.1) (sym same.0) ∙ (ap (λ m. text q.value.1 p.0 m p.1.1.1.1.1) (sym same.1) ∙ (ap (λ n. text q.value.1 p.0 p.0 n) (sym same.2)
            ∙ (ap (λ y. onto y q.value.1) same.3 ∙ ap (onto x) same.4))))),
        subst (FitsLine room) same.3 (fit.0, fit.1.0, fit.1.1.1.0),
      )

  -- ---- a table

  sound_table : Sound (after (codes "static const i64 T") read_table) onto (FitsLine room)
  sound_table t x r h =
      let s = split read_table (expect (codes "static const i64 T") t) (x, r) h in
      let q = split (λ (p : (ℕ × ℕ) × List ℕ). table_from p.0 p.1) (between read_small (codes "[") (before read_small (codes "] = {")) s.value) (x, r) s.gives in
      let k = q.value.0.0 in let c = q.value.0.1 in
      let m = split_map (λ (p : List ℤ × List ℕ). (table_line k p.0, p.1)) (before (read_numbers c) (codes "};\n") q.value.1) (x, r) q.gives in
      let zs = m.value.0 in
      let is : table_line k zs ≡ x = ap (λ (p : Line × List ℕ). p.0) m.gives in
      let left : m.value.1 ≡ r = ap (λ (p : Line × List ℕ). p.1) m.gives in
      let front = sound_between read_small (before read_small (codes "] = {")) counts_onto (λ n r. decimal n ++ (codes "] = {" ++ r)) Small Small (codes "[") sound_small (sound_before read_small counts_onto Small (codes "] = {") sound_small)
      s.value q.value.0 q.value.1 q.is in
      let rest = sound_before (read_numbers c) numbers_onto (λ zs. AreNumbers c zs × (0 < c)) (codes "};\n") (sound_numbers c) q.value.1 zs m.value.1 m.is in
      let fit = front.1 in let low = fit.0 in let short = fit.1 in let numbers = rest.1.0 in let many = numbers.many in let some = rest.1.1 in
      let text : List ℕ → ℕ → List ℕ = λ q n. codes "static const i64 T" ++ (decimal k ++ (codes "[" ++ (decimal n ++ (codes "] = {" ++ q)))) in (
        expect_sound (codes "static const i64 T") t s.value s.is ∙ (ap (λ z. codes "static const i64 T" ++ z) front.0 ∙ (ap (λ q. text q c) rest.0
            ∙ (ap (λ n. text (numbers_text zs ++ (codes "};\n" ++ m.value.1)) n) (sym many) ∙ (ap (λ y. onto y m.value.1) is ∙ ap (onto x) left)))),
        subst (FitsLine room) is (record { name = low; many = omega (arith, many, short); some = omega (arith, many, some); fit = numbers.fit }),
      )

  -- ---- all lines

  sound_plain : (xs : List ℕ) (l : Line) → ((r : List ℕ) → xs ++ r ≡ onto l r) → FitsLine room l → Sound (after xs (found l)) onto (FitsLine room)
  sound_plain xs l same fit t x r h =
      let s = split (found l) (expect xs t) (x, r) h in
      let both = some_pair s.gives in
      (expect_sound xs t s.value s.is ∙ (same s.value ∙ (ap (λ y. onto y s.value) both.0 ∙ ap (onto x) both.1)), subst (FitsLine room) both.0 fit)

  none_read : Sound {A = Line} (λ t. None) onto (FitsLine room)
  none_read t x r h = absurd (cc)

  ends_small : (xs : List ℕ) → Sound (before read_small xs) (λ n r. decimal n ++ (xs ++ r)) Small
  ends_small xs = sound_before read_small counts_onto Small xs sound_small

  ends_expr : (xs : List ℕ) → Sound (before (read_expr room) xs) (λ e r. expr_text e ++ (xs ++ r)) (Sized room)
  ends_expr xs = sound_before (read_expr room) expr_onto (Sized room) xs (sound_expr room)

  two_exprs : (xs ys : List ℕ) → Sound (between (read_expr room) xs (before (read_expr room) ys)) (λ (p : Expr × Expr) r. expr_text p.0 ++ (xs ++ (expr_text p.1 ++ (ys ++ r)))) (λ (p : Expr × Expr). Sized room p.0 × Sized room p.1)
  two_exprs xs ys = sound_between (read_expr room) (before (read_expr room) ys) expr_onto (λ e r. expr_text e ++ (ys ++ r)) (Sized room) (Sized room) xs (sound_expr room) (ends_expr ys)

  two_small : (xs ys : List ℕ) → Sound (between read_small xs (before read_small ys)) (λ (p : ℕ × ℕ) r. decimal p.0 ++ (xs ++ (decimal p.1 ++ (ys ++ r)))) (λ (p : ℕ × ℕ). Small p.0 × Small p.1)
  two_small xs ys = sound_between read_small (before read_small ys) counts_onto (λ n r. decimal n ++ (ys ++ r)) Small Small xs sound_small (ends_small ys)

  small_expr : (xs ys : List ℕ) → Sound (between read_small xs (before (read_expr room) ys)) (λ (p : ℕ × Expr) r. decimal p.0 ++ (xs ++ (expr_text p.1 ++ (ys ++ r)))) (λ (p : ℕ × Expr). Small p.0 × Sized room p.1)
  small_expr xs ys = sound_between read_small (before (read_expr room) ys) counts_onto (λ e r. expr_text e ++ (ys ++ r)) Small (Sized room) xs sound_small (ends_expr ys)

  pub sound_line : Sound (read_line room) onto (FitsLine room)
  unfolding read_line
  sound_line =
      let F = FitsLine room in
      sound_choose _ onto F (codes "a") _ (sound_form _ _ _ (λ (p : ℕ × Expr). set_line p.0 p.1) onto F (codes "a") (λ p r. refl) (λ p h. h) (small_expr (codes " = ") (codes ";\n")))
      (sound_choose _ onto F (codes "V[") _ (sound_form _ _ _ (λ (p : Expr × Expr). put_v_line p.0 p.1) onto F (codes "V[") (λ p r. refl) (λ p h. h) (two_exprs (codes "] = ") (codes ";\n")))
      (sound_choose _ onto F (codes "F[") _ (sound_form _ _ _ (λ (p : Expr × Expr). put_f_line p.0 p.1) onto F (codes "F[") (λ p r. refl) (λ p h. h) (two_exprs (codes "] = ") (codes ";\n")))
      (sound_choose _ onto F (codes "if (") _ (sound_form _ _ _ (λ e. if_line e) onto F (codes "if (") (λ e r. refl) (λ e h. h) (ends_expr (codes ") {\n")))
      (sound_choose read_for onto F (codes "for (a") _ sound_for
      (sound_choose _ onto F (codes "}\n") _ (sound_plain (codes "}\n") close_line (λ r. refl) tt)
      (sound_choose _ onto F (codes "} else {\n") _ (sound_plain (codes "} else {\n") else_line (λ r. refl) tt)
      (sound_choose _ onto F (codes "i64 a") _ (sound_form _ _ _ (λ k. var_line k) onto F (codes "i64 a") (λ k r. refl) (λ k h. h) (ends_small (codes " = 0LL;\n")))
      (sound_choose _ onto F (codes "void step_") _ (sound_form _ _ _ (λ (p : ℕ × ℕ). step_line p.0 p.1) onto F (codes "void step_") (λ p r. refl) (λ p h. h) (two_small (codes "_") (codes "(void) {\n")))
      (sound_choose _ onto F (codes "step_") _ (sound_form _ _ _ (λ (p : ℕ × ℕ). call_line p.0 p.1) onto F (codes "step_") (λ p r. refl) (λ p h. h) (two_small (codes "_") (codes "();\n")))
      (sound_choose read_table onto F (codes "static const i64 T") _ sound_table
      (sound_choose _ onto F (codes "i64 V[") _ (sound_form _ _ _ (λ c. v_line c) onto F (codes "i64 V[") (λ c r. refl) (λ c h. h) (ends_small (codes "];\n")))
      (sound_choose _ onto F (codes "i64 F[") _ (sound_form _ _ _ (λ c. f_line c) onto F (codes "i64 F[") (λ c r. refl) (λ c h. h) (ends_small (codes "];\n")))
      (sound_choose _ onto F (codes "/* AOL-C/1 */\n") _ (sound_plain (codes "/* AOL-C/1 */\n") head_line (λ r. refl) tt)
      (sound_choose _ onto F (codes "typedef long long i64;\n") _ (sound_plain (codes "typedef long long i64;\n") type_line (λ r. refl) tt)
      (sound_choose _ onto F (codes "void run(void) {\n") _ (sound_plain (codes "void run(void) {\n") run_line (λ r. refl) tt) none_read)))))))))))))))

  -- ---- what is written is read

  -- whatever comes after a literal
  module _ where
    small_read : (xs : List ℕ) → ((r : List ℕ) → is_clear (xs ++ r) ≡ true) → (n : ℕ) (r : List ℕ) → Small n → before read_small xs (decimal n ++ (xs ++ r)) ≡ Some (n, r)
    small_read xs clear n r h = before_any read_small counts_onto Small xs clear complete_small n r h

    expr_read : (xs : List ℕ) → ((r : List ℕ) → is_clear (xs ++ r) ≡ true) → (e : Expr) (r : List ℕ) → Sized room e → before (read_expr room) xs (expr_text e ++ (xs ++ r)) ≡ Some (e, r)
    expr_read xs clear e r h = before_any (read_expr room) expr_onto (Sized room) xs clear (complete_expr room) e r h

    numbers_read : (c : ℕ) (zs : List ℤ) (r : List ℕ) → AreNumbers c zs × (0 < c) → before (read_numbers c) (codes "};\n") (numbers_text zs ++ (codes "};\n" ++ r)) ≡ Some (zs, r)
    numbers_read c zs r h = before_any (read_numbers c) numbers_onto (λ zs. AreNumbers c zs × (0 < c)) (codes "};\n") (λ r. refl) (complete_numbers c) zs r h

    front_read : (t c : ℕ) (r : List ℕ) → Small t → Small c → between read_small (codes "[") (before read_small (codes "] = {")) (decimal t ++ (codes "[" ++ (decimal c ++ (codes "] = {" ++ r)))) ≡ Some ((t, c), r)
    front_read t c r h i = between_any read_small (before read_small (codes "] = {")) counts_onto (codes "[") (λ r. refl) Small complete_small t c (decimal c ++ (codes "] = {" ++ r)) r h (small_read (codes "] = {") (λ r. refl) c r i)

    pair_read : (ys : List ℕ) (k l : ℕ) (r : List ℕ) → ((r : List ℕ) → is_clear (ys ++ r) ≡ true) → Small k → Small l → between read_small (codes "_") (before read_small ys) (decimal k ++ (codes "_" ++ (decimal l ++ (ys ++ r)))) ≡ Some ((k, l), r)
    pair_read ys k l r clear h i = between_any read_small (before read_small ys) counts_onto (codes "_") (λ r. refl) Small complete_small k l (decimal l ++ (ys ++ r)) r h (small_read ys clear l r i)

    set_read : (k : ℕ) (e : Expr) (r : List ℕ) → Small k → Sized room e → between read_small (codes " = ") (before (read_expr room) (codes ";\n")) (decimal k ++ (codes " = " ++ (expr_text e ++ (codes ";\n" ++ r)))) ≡ Some ((k, e), r)
    set_read k e r h i = between_any read_small (before (read_expr room) (codes ";\n")) counts_onto (codes " = ") (λ r. refl) Small complete_small k e (expr_text e ++ (codes ";\n" ++ r)) r h (expr_read (codes ";\n") (λ r. refl) e r i)

    first_read : (at e : Expr) (r : List ℕ) → Sized room at → Sized room e → between (read_expr room) (codes "] = ") (before (read_expr room) (codes ";\n")) (expr_text at ++ (codes "] = " ++ (expr_text e ++ (codes ";\n" ++ r)))) ≡ Some ((at, e), r)
    first_read at e r h i = between_any (read_expr room) (before (read_expr room) (codes ";\n")) expr_onto (codes "] = ") (λ r. refl) (Sized room) (complete_expr room) at e (expr_text e ++ (codes ";\n" ++ r)) r h (expr_read (codes ";\n") (λ r. refl) e r i)

    parts_read : (p : ForParts) (r : List ℕ) → FitsParts p → read_for_parts (parts_onto p r) ≡ Some (p, r)
    parts_read p r h =
        between_any read_small read_five counts_onto (codes " = ") (λ r. refl) Small complete_small p.0 p.1 (five_onto p.1 r) r h.0
        (between_any read_number read_four number_onto (codes "; a") (λ r. refl) Fits complete_number p.1.0 p.1.1 (four_onto p.1.1 r) r h.1.0
        (between_any read_small read_three counts_onto (codes " < ") (λ r. refl) Small complete_small p.1.1.0 p.1.1.1 (three_onto p.1.1.1 r) r h.1.1.0
        (between_any read_number read_two number_onto (codes "; a") (λ r. refl) Fits complete_number p.1.1.1.0 p.1.1.1.1 (two_onto p.1.1.1.1 r) r h.1.1.1.0
        (between_any read_small read_last counts_onto (codes " = a") (λ r. refl) Small complete_small p.1.1.1.1.0 p.1.1.1.1.1 (last_onto p.1.1.1.1.1 r) r h.1.1.1.1.0
        (small_read (codes " + 1LL) {\n") (λ r. refl) p.1.1.1.1.1 r h.1.1.1.1.1)))))

  put_read : (m : Expr → Expr → Line) (at e : Expr) (r : List ℕ) → Sized room at → Sized room e
      → mapped (λ (p : Expr × Expr). m p.0 p.1) (between (read_expr room) (codes "] = ") (before (read_expr room) (codes ";\n"))) (expr_text at ++ (codes "] = " ++ (expr_text e ++ (codes ";\n" ++ r)))) ≡ Some (m at e, r)
  put_read m at e r s t =
      ap (option_map (λ (p : (Expr × Expr) × List ℕ). (m p.0.0 p.0.1, p.1)))
      (first_read at e r s t)

  small_pair : (ys : List ℕ) (m : ℕ → ℕ → Line) (k l : ℕ) (r : List ℕ) → ((r : List ℕ) → is_clear (ys ++ r) ≡ true) → Small k → Small l
      → mapped (λ (p : ℕ × ℕ). m p.0 p.1) (between read_small (codes "_") (before read_small ys)) (decimal k ++ (codes "_" ++ (decimal l ++ (ys ++ r)))) ≡ Some (m k l, r)
  small_pair ys m k l r clear h i = ap (option_map (λ (p : (ℕ × ℕ) × List ℕ). (m p.0.0 p.0.1, p.1))) (pair_read ys k l r clear h i)

  for_same : (d : Bool) (k : ℕ) (a b : ℤ) (r : List ℕ) → d ≡ true → (if d then found (for_line k a b) r else None) ≡ Some (for_line k a b, r)
  for_same true k a b r h = refl
  for_same false k a b r h = absurd (cc)

  same_self : (k : ℕ) → (k == k && k == k && k == k) ≡ true
  same_self k = let one : (k == k) ≡ true = grind arith in both_true (k == k && k == k) (k == k) (both_true (k == k) (k == k) one one) one

  for_read : (k : ℕ) (a b : ℤ) (r : List ℕ) → Small k → Fits a → Fits b
      → read_for (decimal k ++ (codes " = " ++ (number_text a ++ (codes "; a" ++ (decimal k ++ (codes " < " ++ (number_text b ++ (codes "; a" ++ (decimal k ++ (codes " = a" ++ (decimal k ++ (codes " + 1LL) {\n" ++ r)))))))))))) ≡ Some (for_line k a b, r)
  for_read k a b r h i j =
      let p : ForParts = (k, (a, (k, (b, (k, k))))) in
      ap (option_and_then (λ (q : ForParts × List ℕ). for_of q.0 q.1)) (parts_read p r (h, (i, (h, (j, (h, h))))))
      ∙ for_same (k == k && k == k && k == k) k a b r (same_self k)

  table_read : (t : ℕ) (zs : List ℤ) (r : List ℕ) → FitsTable t zs
      → read_table (decimal t ++ (codes "[" ++ (decimal (length zs) ++ (codes "] = {" ++ (numbers_text zs ++ (codes "};\n" ++ r)))))) ≡ Some (table_line t zs, r)
  table_read t zs r h =
      let c = length zs in
      let rest = numbers_text zs ++ (codes "};\n" ++ r) in
      let front : between read_small (codes "[") (before read_small (codes "] = {")) (decimal t ++ (codes "[" ++ (decimal c ++ (codes "] = {" ++ rest)))) ≡ Some ((t, c), rest) = front_read t c rest h.name h.many in
      let numbers : AreNumbers c zs = record { many = refl; fit = h.fit } in
      ap (option_and_then (λ (q : (ℕ × ℕ) × List ℕ). table_from q.0 q.1)) front
      ∙ ap (option_map (λ (p : List ℤ × List ℕ). (table_line t p.0, p.1))) (numbers_read c zs r (numbers, h.some))

  pub complete_line : (l : Line) (r : List ℕ) → FitsLine room l → read_line room (onto l r) ≡ Some (l, r)
  unfolding read_line expect
  complete_line head_line r h = refl
  complete_line type_line r h = refl
  complete_line (table_line t zs) r h = table_read t zs r h
  complete_line (v_line c) r h = ap (option_map (λ (p : ℕ × List ℕ). (v_line p.0, p.1))) (small_read (codes "];\n") (λ r. refl) c r h)
  complete_line (f_line c) r h = ap (option_map (λ (p : ℕ × List ℕ). (f_line p.0, p.1))) (small_read (codes "];\n") (λ r. refl) c r h)
  complete_line (step_line l w) r h = small_pair (codes "(void) {\n") (λ l w. step_line l w) l w r (λ r. refl) h.0 h.1
  complete_line (var_line k) r h = ap (option_map (λ (p : ℕ × List ℕ). (var_line p.0, p.1))) (small_read (codes " = 0LL;\n") (λ r. refl) k r h)
  complete_line (set_line k e) r h = ap (option_map (λ (p : (ℕ × Expr) × List ℕ). (set_line p.0.0 p.0.1, p.1))) (set_read k e r h.0 h.1)
  complete_line (put_v_line at e) r h = put_read (λ at e. put_v_line at e) at e r h.0 h.1
  complete_line (put_f_line at e) r h = put_read (λ at e. put_f_line at e) at e r h.0 h.1
  complete_line (if_line e) r h = ap (option_map (λ (p : Expr × List ℕ). (if_line p.0, p.1))) (expr_read (codes ") {\n") (λ r. refl) e r h)
  complete_line else_line r h = refl
  complete_line (for_line k a b) r h = for_read k a b r h.0 h.1 h.2
  complete_line close_line r h = refl
  complete_line run_line r h = refl
  complete_line (call_line l w) r h = small_pair (codes "();\n") (λ l w. call_line l w) l w r (λ r. refl) h.0 h.1
