-- What is written is read again.
use Rattle.std.proofs.Common.{◌≡◌, ℕ, zero, suc, ◌+◌, ◌-◌, ◌*◌, ◌/◌, ◌%◌, ◌^◌, ◌<◌, ◌≤◌, ℤ, pos, negsuc, neg_ℤ, nat_abs, eqb, option_map, List, [], ◌∷◌, ◌++◌, length, map, Bool, true, false, cond, ◌&&◌, leb, decimal, Option, Some, None, Result, Ok, Err, refl, sym, ◌∙◌, ap, subst, arith, append_assoc}
use Rattle.std.specs.Fmt.{signed_decimal}
use Rattle.std.specs.List.{list_all, join_with_byte, AllByRecursion}
use Rattle.std.proofs.lemmas.Bool.{and_from, and_parts, le-leb, lt-leb, lt-ltb}
use Rattle.std.proofs.Math.Nat.{mul-le-mul_left, mul_assoc}
use Rattle.std.proofs.lemmas.List.{length-append}
use Rattle.std.proofs.lemmas.Fmt.{decimal_by_steps, length-decimal-le}
use Rattle.aol_shape.specs.declared.limit.LimitName.{LimitName}
use Rattle.aol_shape.specs.declared.limit.LimitName.TheVariants.{Rank, Entry, Points}
use Rattle.aol_shape.specs.Lists.{or_else}
use Rattle.aol_shape.specs.Shape.{IsShape, IsEntry, size}
use Rattle.aol_shape.specs.Vectors.{IsVector, IsVectorEntry}
use Rattle.aol_shape.specs.Texts.{is_digit, are_digits, digits_value, digits_value_from, is_numeral, numeral_value}
use Rattle.aol_shape.specs.Tokens.{first_passing, first_passing_from, separated, sign}
use Rattle.aol_shape.specs.Machine.{stuck_at}
use Rattle.aol_shape.specs.Grammar.{Grammar, TextFault, start_of, limited, reading}
use Rattle.aol_shape.proofs.Numerals.{IsNumeralOf, decimal_says, decimal_digits, plain_numeral}
use Rattle.aol_shape.proofs.Numerals.{signed_numeral as numeral_of}
use Rattle.aol_shape.proofs.Stuck.{not_stuck}
use Rattle.aol_vsl.specs.Text.{Numeral, braced_text, shape_text, vector_text, vector_limit, shape_limit, vector_members, shape_members, shape_grammar, vector_grammar}
use Rattle.aol_vsl.specs.Reading.{recognizer, vector_goals, numerals, shape_reading, vector_reading}
use Rattle.aol_vsl.proofs.Spaced.{Spaced, more_texts, vector_texts}
use Rattle.aol_vsl.proofs.Lexemes.{lexed}
use Rattle.aol_vsl.proofs.Limits.{answer, limited_is}
use Rattle.aol_vsl.proofs.Grammars.{Spells, spells_accepted, spelled_numerals}

-- ---- numerals

-- a numeral of a vector's entry
pub signed_numeral : (z : ℤ) → nat_abs z ≤ 2147483647 → IsNumeralOf z (signed_decimal z)
signed_numeral (pos n) h = numeral_of (pos n) (lt-ltb n 9223372036854775808 (omega (arith, h)))
signed_numeral (negsuc n) h = numeral_of (negsuc n) (lt-ltb n 9223372036854775808 (omega (arith, h)))

-- ---- spelled texts

more_spaced : (n : Numeral) (ns : List Numeral) → Spaced (join_with_byte 44 (n ∷ ns) ++ 125 ∷ []) (n ∷ more_texts ns)
more_spaced n [] = ([], 125 ∷ [], refl, refl, ([], [], refl, refl, refl))
more_spaced n (m ∷ ns) = let rest : List ℕ = join_with_byte 44 (m ∷ ns) ++ 125 ∷ [] in ([], 44 ∷ rest, append_assoc n (44 ∷ join_with_byte 44 (m ∷ ns)) (125 ∷ []), refl, ([], rest, refl, refl, more_spaced m ns))

-- a canonical text spells its members
pub braced_spaced : (ns : List Numeral) → Spaced (braced_text ns) (vector_texts ns)
braced_spaced [] = ([], 125 ∷ [], refl, refl, ([], [], refl, refl, refl))
braced_spaced (n ∷ ns) = ([], join_with_byte 44 (n ∷ ns) ++ 125 ∷ [], refl, refl, more_spaced n ns)

-- ---- reading what spells numerals that pass no limit

module _ {V : Type 0} (g : Grammar (List Numeral) (List V)) (no_whole : (ns : List Numeral) → g.whole_limit ns ≡ None) where
  pub read_spelled : (text : List ℕ) (ns : List Numeral) → Spells text ns → first_passing (g.tokens ns) ≡ None → reading g (stuck_at (recognizer vector_goals) text) (lexed 0 text) numerals ≡ Ok (g.value ns)
  read_spelled text ns s h =
      ap (λ o. reading g o (lexed 0 text) numerals) (not_stuck (recognizer vector_goals) 0 vector_goals text (spells_accepted text ns s))
      ∙ ap (limited g (lexed 0 text)) (spelled_numerals text ns s)
      ∙ limited_is g (lexed 0 text) ns (no_whole ns)
      ∙ ap (λ o. answer (option_map (λ f. (start_of (lexed 0 text) f.0, f.1)) o) (g.value ns)) h

-- ---- vectors

pub signed_all : (zs : List ℤ) → AllByRecursion IsVectorEntry zs → list_all is_numeral (map signed_decimal zs) ≡ true
signed_all [] h = refl
signed_all (z ∷ zs) h = and_from (is_numeral (signed_decimal z)) (list_all is_numeral (map signed_decimal zs)) (signed_numeral z h.0).0 (signed_all zs h.1)

pub signed_values : (zs : List ℤ) → AllByRecursion IsVectorEntry zs → map numeral_value (map signed_decimal zs) ≡ zs
signed_values [] h = refl
signed_values (z ∷ zs) h = ap (λ x. x ∷ map numeral_value (map signed_decimal zs)) (signed_numeral z h.0).1 ∙ ap (λ xs. z ∷ xs) (signed_values zs h.1)

pub vector_passes : (k : ℕ) (z : ℤ) → k < 12 → nat_abs z ≤ 2147483647 → vector_limit k (numeral_value (signed_decimal z)) ≡ None
vector_passes k z h e =
    let entry : Option LimitName = cond (leb (nat_abs z) 2147483647) None (Some Entry) in
    ap (vector_limit k) (signed_numeral z e).1 ∙ ap (λ t. cond t (Some Rank) entry) (lt-leb 12 k h) ∙ ap (λ t. cond t None (Some Entry)) (le-leb (nat_abs z) 2147483647 e)

vector_none : (zs : List ℤ) (k j : ℕ) → k + length zs ≤ 12 → AllByRecursion IsVectorEntry zs → first_passing_from j (separated (vector_members k (map signed_decimal zs)) ++ sign 125 ∷ []) ≡ None
vector_none [] k j h e = refl
vector_none (z ∷ []) k j h e = ap (λ o. or_else (option_map (λ name. (j, name)) o) None) (vector_passes k z (omega (arith, h)) e.0)
vector_none (z ∷ y ∷ zs) k j h e =
    let later : Option (ℕ × LimitName) = first_passing_from (j + 1 + 1) (separated (vector_members (k + 1) (map signed_decimal (y ∷ zs))) ++ sign 125 ∷ []) in
    ap (λ o. or_else (option_map (λ name. (j, name)) o) later) (vector_passes k z (omega (arith, h)) e.0) ∙ vector_none (y ∷ zs) (k + 1) (j + 1 + 1) (omega (arith, h)) e.1

pub vector_again : (zs : List ℤ) → IsVector zs → vector_reading (vector_text zs) ≡ Ok zs
vector_again zs v =
    read_spelled vector_grammar (λ ns. refl) (vector_text zs) (map signed_decimal zs) (signed_all zs v.entry, braced_spaced (map signed_decimal zs)) (vector_none zs 0 1 (omega (arith, v.rank)) v.entry)
    ∙ ap Ok (signed_values zs v.entry)

-- ---- shapes

entry_numeral : (n : ℕ) → IsEntry n → IsNumeralOf (pos n) (decimal n)
entry_numeral n h = signed_numeral (pos n) (omega (arith, h.1))

entry_all : (ns : List ℕ) → AllByRecursion IsEntry ns → list_all is_numeral (map decimal ns) ≡ true
entry_all [] h = refl
entry_all (n ∷ ns) h = and_from (is_numeral (decimal n)) (list_all is_numeral (map decimal ns)) (entry_numeral n h.0).0 (entry_all ns h.1)

entry_values : (ns : List ℕ) → AllByRecursion IsEntry ns → map (λ n. nat_abs (numeral_value n)) (map decimal ns) ≡ ns
entry_values [] h = refl
entry_values (n ∷ ns) h = ap (λ x. nat_abs x ∷ map (λ n. nat_abs (numeral_value n)) (map decimal ns)) (entry_numeral n h.0).1 ∙ ap (λ xs. n ∷ xs) (entry_values ns h.1)

size_positive : (s : List ℕ) → AllByRecursion IsEntry s → 1 ≤ size s
size_positive [] h = omega arith
size_positive (n ∷ s) h = omega (arith, h.0, mul-le-mul_left n (size_positive s h.1))

shape_passes : (k p n : ℕ) → k < 12 → IsEntry n → p * n ≤ 4194304 → shape_limit k p (numeral_value (decimal n)) ≡ None
shape_passes k p n h e few =
    let points : Option LimitName = cond (leb (p * n) 4194304) None (Some Points) in
    let entry : Option LimitName = cond (leb 1 n && leb n 4194304) points (Some Entry) in
    ap (shape_limit k p) (entry_numeral n e).1
    ∙ ap (λ t. cond t (Some Rank) entry) (lt-leb 12 k h)
    ∙ ap (λ t. cond t points (Some Entry)) (and_from (leb 1 n) (leb n 4194304) (le-leb 1 n e.0) (le-leb n 4194304 e.1))
    ∙ ap (λ t. cond t None (Some Points)) (le-leb (p * n) 4194304 few)

first_few : (p n : ℕ) (s : List ℕ) → AllByRecursion IsEntry s → p * (n * size s) ≤ 4194304 → p * n ≤ 4194304
first_few p n s h few = omega (arith, few, mul-le-mul_left (p * n) (size_positive s h), mul_assoc p n (size s))

shape_none : (ns : List ℕ) (k p j : ℕ) → k + length ns ≤ 12 → AllByRecursion IsEntry ns → p * size ns ≤ 4194304 → first_passing_from j (separated (shape_members k p (map decimal ns)) ++ sign 125 ∷ []) ≡ None
shape_none [] k p j h e few = refl
shape_none (n ∷ []) k p j h e few = ap (λ o. or_else (option_map (λ name. (j, name)) o) None) (shape_passes k p n (omega (arith, h)) e.0 (first_few p n [] e.1 few))
shape_none (n ∷ m ∷ ns) k p j h e few =
    let q : ℕ = p * nat_abs (numeral_value (decimal n)) in
    let same : p * n ≡ q = ap (λ z. p * nat_abs z) (sym (entry_numeral n e.0).1) in
    let later : Option (ℕ × LimitName) = first_passing_from (j + 1 + 1) (separated (shape_members (k + 1) q (map decimal (m ∷ ns))) ++ sign 125 ∷ []) in
    let moved : p * n * size (m ∷ ns) ≤ 4194304 = omega (arith, few, mul_assoc p n (size (m ∷ ns))) in
    ap (λ o. or_else (option_map (λ name. (j, name)) o) later) (shape_passes k p n (omega (arith, h)) e.0 (first_few p n (m ∷ ns) e.1 few))
    ∙ shape_none (m ∷ ns) (k + 1) q (j + 1 + 1) (omega (arith, h)) e.1 (subst (λ r. r * size (m ∷ ns) ≤ 4194304) same moved)

pub shape_again : (ns : List ℕ) → IsShape ns → shape_reading (shape_text ns) ≡ Ok ns
shape_again ns s =
    read_spelled shape_grammar (λ ns. refl) (shape_text ns) (map decimal ns) (entry_all ns s.entry, braced_spaced (map decimal ns)) (shape_none ns 0 1 1 (omega (arith, s.rank)) s.entry (omega (arith, s.points)))
    ∙ ap Ok (entry_values ns s.entry)
