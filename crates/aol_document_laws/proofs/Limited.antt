-- What a text was read as is within the limits.
use Rattle.std.proofs.Common.{◌≡◌, ℕ, ◌+◌, ◌*◌, ◌-◌, ◌<◌, ◌≤◌, ℤ, pos, negsuc, nat_abs, List, [], ◌∷◌, ◌++◌, length, map, Bool, true, false, ◌&&◌, nat_le, nat_lt, Option, Some, None, option_map, Ok, refl, subst, arith, ◌==◌, codes, if◌then◌else◌}
use Rattle.std.specs.List.{AllByRecursion, list_all}
use Rattle.std.specs.Cmp.Derive.{both_true}
use Rattle.std.proofs.Math.Nat.{mul_assoc}
use Rattle.std.proofs.lemmas.Bool.{and_parts, leb-true, leb-false, lt-ltb}
use Rattle.std.proofs.lemmas.List.{length-map}
use Rattle.aol_shape.specs.declared.limit.LimitName.{LimitName}
use Rattle.aol_shape.specs.declared.limit.LimitName.TheVariants.{Rank, Entry, Points, Number, Sums, Expression, Depth}
use Rattle.aol_shape.specs.Lists.{or_else}
use Rattle.aol_shape.specs.Shape.{IsShape, IsEntry, size, max_rank, max_points}
use Rattle.aol_shape.specs.Vectors.{IsVector, IsVectorEntry, max_entry}
use Rattle.aol_shape.specs.Numbers.{fits_64}
use Rattle.aol_shape.specs.Texts.{is_name, is_digit, are_digits, digits_value, numeral_value}
use Rattle.aol_shape.specs.Tokens.{Token, plain, sign, separated, braced, first_passing_from}
use Rattle.aol_shape.specs.Grammar.{Reads}
use Rattle.aol_tiler.specs.Matrices.{TilerOf}
use Rattle.aol_tiler.specs.Tiler.{IsTiler}
use Rattle.aol_vsl.specs.Text.{Numeral, WrittenTiler, vector_limit, is_shape_entry, shape_limit, column_limit, vector_members, shape_members, column_members, column_tokens, columns_from, vector_tokens, shape_tokens, matrix_tokens, tiler_tokens, shape_grammar, vector_grammar, tiler_grammar}
use Rattle.aol_vsl.specs.Reading.{shape_reading, vector_reading, tiler_reading}
use Rattle.aol_vsl.proofs.Grammars.{shape_right, vector_right}
use Rattle.aol_vsl.proofs.TilerGrammar.{tiler_right}
use Rattle.aol_expr_tree.specs.Tree.{Tree, nodes, depth, is_spelled, are_spelled, is_bound, max_nodes, max_depth, max_brackets, IsExpr}
use Rattle.aol_expr_tree.specs.Text.{Written, numeral, dollar, name, indexed, infix_of, function_of, choice, summed, parens, WrittenList, no_written, written_and, strength, alone, groups_left, brackets, is_well, are_well, op_text, in_parens, bound_token, tokens_in, token_lists, tree_written, trees_written, tree_limit, expr_grammar}
use Rattle.aol_expr_tree.specs.Reading.{expr_reading}
use Rattle.aol_expr_grammar.proofs.Completed.{right}

-- ---- tokens that pass no limit

abbrev PassNone : List Token → Type 0
PassNone = AllByRecursion (λ (t : Token). t.passes ≡ None)

one_none : (p : Option LimitName) (k : ℕ) (rest : Option (ℕ × LimitName)) → or_else (option_map (λ n. (k, n)) p) rest ≡ None → (p ≡ None) × (rest ≡ None)
one_none None k rest h = (refl, h)
one_none (Some n) k rest h = cc

none_pass : (k : ℕ) (ts : List Token) → first_passing_from k ts ≡ None → PassNone ts
none_pass k [] h = tt
none_pass k (t ∷ ts) h = let p = one_none t.passes k (first_passing_from (k + 1) ts) h in (p.0, none_pass (k + 1) ts p.1)

front : (xs ys : List Token) → PassNone (xs ++ ys) → PassNone xs
front [] ys h = tt
front (x ∷ xs) ys h = (h.0, front xs ys h.1)

back : (xs ys : List Token) → PassNone (xs ++ ys) → PassNone ys
back [] ys h = h
back (x ∷ xs) ys h = back xs ys h.1

each : (ms : List (List Token)) → PassNone (separated ms) → AllByRecursion PassNone ms
each [] h = tt
each (m ∷ []) h = (h, tt)
each (m ∷ n ∷ ms) h = (front m (sign 44 ∷ separated (n ∷ ms)) h, each (n ∷ ms) (back m (sign 44 ∷ separated (n ∷ ms)) h).1)

in_braces : (ms : List (List Token)) → PassNone (braced ms) → AllByRecursion PassNone ms
in_braces ms h = each ms (front (separated ms) (sign 125 ∷ []) h.1)

in_brackets : (ms : List (List Token)) → PassNone (in_parens ms) → AllByRecursion PassNone ms
in_brackets ms h = each ms (front (separated ms) (sign 41 ∷ []) h.1)

-- a test that chooses no limit, or a limit where it fails
kept : (test : Bool) (o : Option LimitName) (n : LimitName) → (if test then o else Some n) ≡ None → (test ≡ true) × (o ≡ None)
kept true o n h = (refl, h)
kept false o n h = cc

-- a test that chooses a limit
unlimited : (test : Bool) (n : LimitName) (o : Option LimitName) → (if test then Some n else o) ≡ None → (test ≡ false) × (o ≡ None)
unlimited true n o h = cc
unlimited false n o h = (refl, h)

-- ---- vectors

vector_fits : (k : ℕ) (z : ℤ) → vector_limit k z ≡ None → (k < max_rank) × (nat_abs z ≤ max_entry)
vector_fits k z h =
    let few = unlimited (nat_le max_rank k) Rank (if nat_le (nat_abs z) max_entry then None else Some Entry) h in
    (leb-false max_rank k few.0, leb-true (nat_abs z) max_entry (kept (nat_le (nat_abs z) max_entry) None Entry few.1).0)

vector_within : (k : ℕ) (ns : List Numeral) → k ≤ max_rank → AllByRecursion PassNone (vector_members k ns) → (k + length ns ≤ max_rank) × AllByRecursion IsVectorEntry (map numeral_value ns)
vector_within k [] few h = (omega arith, tt)
vector_within k (n ∷ ns) few h =
    let this = vector_fits k (numeral_value n) h.0.0 in
    let rest = vector_within (k + 1) ns (omega (arith, this.0)) h.1 in
    (omega (arith, rest.0), (this.1, rest.1))

vector_is : (ns : List Numeral) → PassNone (vector_tokens ns) → IsVector (map numeral_value ns)
vector_is ns h =
    let w = vector_within 0 ns (omega arith) (in_braces (vector_members 0 ns) h) in
    record { rank = omega (arith, w.0, length-map ns numeral_value); entry = w.1 }

-- what a vector's text was read as is a vector
pub vector_limited : (text : List ℕ) (v : List ℤ) → vector_reading text ≡ Ok v → IsVector v
vector_limited text v e =
    let r : Reads vector_grammar text (Ok v) = subst (Reads vector_grammar text) e (vector_right text) in
    subst IsVector r.3 (vector_is r.0 (none_pass 0 (vector_tokens r.0) r.2.tokens))

-- ---- shapes

shape_entry : (z : ℤ) → is_shape_entry z ≡ true → IsEntry (nat_abs z)
shape_entry (pos n) h = let p = and_parts (nat_le 1 n) (nat_le n max_points) h in (leb-true 1 n p.0, leb-true n max_points p.1)
shape_entry (negsuc n) h = cc

record Fits (k points : ℕ) (z : ℤ) : Type 0 where
  few : k < max_rank
  entry : IsEntry (nat_abs z)
  room : points * nat_abs z ≤ max_points

shape_fits : (k points : ℕ) (z : ℤ) → shape_limit k points z ≡ None → Fits k points z
shape_fits k points z h =
    let points_limit : Option LimitName = if nat_le (points * nat_abs z) max_points then None else Some Points in
    let few = unlimited (nat_le max_rank k) Rank (if is_shape_entry z then points_limit else Some Entry) h in
    let entry = kept (is_shape_entry z) points_limit Entry few.1 in
    record {
      few = leb-false max_rank k few.0;
      entry = shape_entry z entry.0;
      room = leb-true (points * nat_abs z) max_points (kept (nat_le (points * nat_abs z) max_points) None Points entry.1).0;
    }

abbrev extents : List Numeral → List ℕ
extents ns = map (λ n. nat_abs (numeral_value n)) ns

record Within (k points : ℕ) (ns : List Numeral) : Type 0 where
  few : k + length ns ≤ max_rank
  entries : AllByRecursion IsEntry (extents ns)
  points_fit : points * size (extents ns) ≤ max_points

shape_within : (k points : ℕ) (ns : List Numeral) → k ≤ max_rank → points ≤ max_points → AllByRecursion PassNone (shape_members k points ns) → Within k points ns
shape_within k points [] few fit h = record { few = omega arith; entries = tt; points_fit = omega arith }
shape_within k points (n ∷ ns) few fit h =
    let this = shape_fits k points (numeral_value n) h.0.0 in
    let rest = shape_within (k + 1) (points * nat_abs (numeral_value n)) ns (omega (arith, this.few)) this.room h.1 in
    record {
      few = omega (arith, rest.few);
      entries = (this.entry, rest.entries);
      points_fit = subst (λ (m : ℕ). m ≤ max_points) (mul_assoc points (nat_abs (numeral_value n)) (size (extents ns))) rest.points_fit;
    }

shape_is : (ns : List Numeral) → PassNone (shape_tokens ns) → IsShape (extents ns)
shape_is ns h =
    let w = shape_within 0 1 ns (omega arith) (omega arith) (in_braces (shape_members 0 1 ns) h) in
    record { rank = omega (arith, w.few, length-map ns (λ n. nat_abs (numeral_value n))); entry = w.entries; points = omega (arith, w.points_fit) }

-- what a shape's text was read as is a shape
pub shape_limited : (text s : List ℕ) → shape_reading text ≡ Ok s → IsShape s
shape_limited text s e =
    let r : Reads shape_grammar text (Ok s) = subst (Reads shape_grammar text) e (shape_right text) in
    subst IsShape r.3 (shape_is r.0 (none_pass 0 (shape_tokens r.0) r.2.tokens))

-- ---- tilers

column_fits : (j k : ℕ) (z : ℤ) → column_limit j k z ≡ None → (j < max_rank) × (vector_limit k z ≡ None)
column_fits j k z h = let few = unlimited (nat_le max_rank j) Rank (vector_limit k z) h in (leb-false max_rank j few.0, few.1)

column_within : (j k : ℕ) (ns : List Numeral) → k ≤ max_rank → AllByRecursion PassNone (column_members j k ns) → (k + length ns ≤ max_rank) × AllByRecursion IsVectorEntry (map numeral_value ns)
column_within j k [] few h = (omega arith, tt)
column_within j k (n ∷ ns) few h =
    let this = vector_fits k (numeral_value n) (column_fits j k (numeral_value n) h.0.0).1 in
    let rest = column_within j (k + 1) ns (omega (arith, this.0)) h.1 in
    (omega (arith, rest.0), (this.1, rest.1))

column_is : (j : ℕ) (ns : List Numeral) → PassNone (column_tokens j ns) → (j < max_rank) × IsVector (map numeral_value ns)
column_is j [] h = (leb-false max_rank j (unlimited (nat_le max_rank j) Rank None h.0).0, record { rank = omega arith; entry = tt })
column_is j (n ∷ ns) h =
    let members = in_braces (column_members j 0 (n ∷ ns)) h in
    let w = column_within j 0 (n ∷ ns) (omega arith) members in
    ((column_fits j 0 (numeral_value n) members.0.0).0, record { rank = omega (arith, w.0, length-map (n ∷ ns) numeral_value); entry = w.1 })

columns_within : (j : ℕ) (cs : List (List Numeral)) → j ≤ max_rank → AllByRecursion PassNone (columns_from j cs) → (j + length cs ≤ max_rank) × AllByRecursion IsVector (map (map numeral_value) cs)
columns_within j [] few h = (omega arith, tt)
columns_within j (c ∷ cs) few h =
    let this = column_is j c h.0 in
    let rest = columns_within (j + 1) cs (omega (arith, this.0)) h.1 in
    (omega (arith, rest.0), (this.1, rest.1))

matrix_is : (cs : List (List Numeral)) → PassNone (matrix_tokens cs) → (length cs ≤ max_rank) × AllByRecursion IsVector (map (map numeral_value) cs)
matrix_is cs h = let w = columns_within 0 cs (omega arith) (in_braces (columns_from 0 cs) h) in (omega (arith, w.0), w.1)

-- all but three tokens in front
later : (a b c : Token) (ts : List Token) → PassNone (a ∷ b ∷ c ∷ ts) → PassNone ts
later a b c ts h = h.1.1.1

tiler_is : (w : WrittenTiler) → PassNone (tiler_tokens w) → IsTiler (tiler_grammar.value w)
tiler_is w h =
    let first : List Token = sign 40 ∷ plain (codes "origin") ∷ sign 61 ∷ vector_tokens w.origin in
    let second : List Token = sign 44 ∷ plain (codes "paving") ∷ sign 61 ∷ matrix_tokens w.paving in
    let third : List Token = sign 44 ∷ plain (codes "fitting") ∷ sign 61 ∷ matrix_tokens w.fitting in
    let last : List Token = sign 41 ∷ [] in
    let two : List Token = first ++ second in
    let of_three = front (two ++ third) last h in
    let of_two = front two third of_three in
    let origin = later (sign 40) (plain (codes "origin")) (sign 61) (vector_tokens w.origin) (front first second of_two) in
    let paving = later (sign 44) (plain (codes "paving")) (sign 61) (matrix_tokens w.paving) (back first second of_two) in
    let fitting = later (sign 44) (plain (codes "fitting")) (sign 61) (matrix_tokens w.fitting) (back two third of_three) in
    let pavings = matrix_is w.paving paving in
    let fittings = matrix_is w.fitting fitting in
    record {
      origin = vector_is w.origin origin;
      paving = omega (arith, pavings.0, length-map w.paving (map numeral_value));
      fitting = omega (arith, fittings.0, length-map w.fitting (map numeral_value));
      in_paving = pavings.1;
      in_fitting = fittings.1;
    }

-- what a tiler's text was read as is a tiler
pub tiler_limited : (text : List ℕ) (t : TilerOf) → tiler_reading text ≡ Ok t → IsTiler t
tiler_limited text t e =
    let r : Reads tiler_grammar text (Ok t) = subst (Reads tiler_grammar text) e (tiler_right text) in
    subst IsTiler r.3 (tiler_is r.0 (none_pass 0 (tiler_tokens r.0) r.2.tokens))

-- ---- expressions

digit_below : (b : ℕ) → is_digit b ≡ true → b - 48 ≤ 9
digit_below b h = let p = and_parts (nat_le 48 b) (nat_le b 57) h in omega (arith, leb-true b 57 p.1)

index_below : (t : List ℕ) → (nat_le 1 (length t) && nat_le (length t) 2 && list_all is_digit t) ≡ true → nat_lt (digits_value t) 100 ≡ true
index_below [] h = cc
index_below (a ∷ []) h =
    let digits = and_parts (nat_le 1 1 && nat_le 1 2) (is_digit a && true) h in
    let first = digit_below a (and_parts (is_digit a) true digits.1).0 in
    lt-ltb (digits_value (a ∷ [])) 100 (omega (arith, first))
index_below (a ∷ b ∷ []) h =
    let digits = and_parts (nat_le 1 2 && nat_le 2 2) (is_digit a && (is_digit b && true)) h in
    let both = and_parts (is_digit a) (is_digit b && true) digits.1 in
    let first = digit_below a both.0 in
    let second = digit_below b (and_parts (is_digit b) true both.1).0 in
    lt-ltb (digits_value (a ∷ b ∷ [])) 100 (omega (arith, first, second))
index_below (a ∷ b ∷ c ∷ t) h =
    let few = and_parts (nat_le 1 (length (a ∷ b ∷ c ∷ t)) && nat_le (length (a ∷ b ∷ c ∷ t)) 2) (list_all is_digit (a ∷ b ∷ c ∷ t)) h in
    let short = leb-true (length (a ∷ b ∷ c ∷ t)) 2 (and_parts (nat_le 1 (length (a ∷ b ∷ c ∷ t))) (nat_le (length (a ∷ b ∷ c ∷ t)) 2) few.0).1 in
    absurd (omega (arith, short))

mutual
  spelled : (around : ℕ) (w : Written) → is_well w ≡ true → PassNone (tokens_in around w) → is_spelled around (tree_written w) ≡ true
  spelled around (numeral t) well h = (kept (fits_64 (numeral_value t)) None Number h.0).0
  spelled around (dollar t) well h = index_below t well
  spelled around (name x) well h = well
  spelled around (indexed p at) well h =
      let parts = and_parts (is_name p) (are_well at) well in
      both_true parts.0 (all_spelled around at parts.1 (in_braces (token_lists around at) h.1))
  spelled around (infix_of op l r) well h =
      let parts = and_parts (groups_left op l r && is_well l) (is_well r) well in
      let first = and_parts (groups_left op l r) (is_well l) parts.0 in
      let rest : List Token = plain (op_text op) ∷ tokens_in around r in
      both_true (spelled around l first.1 (front (tokens_in around l) rest h)) (spelled around r parts.1 (back (tokens_in around l) rest h).1)
  spelled around (function_of op l r) well h =
      let parts = and_parts (strength op == alone && is_well l) (is_well r) well in
      let first = and_parts (strength op == alone) (is_well l) parts.0 in
      let members = in_brackets (tokens_in around l ∷ tokens_in around r ∷ []) h.1 in
      both_true (spelled around l first.1 members.0) (spelled around r parts.1 members.1.0)
  spelled around (choice c a b) well h =
      let parts = and_parts (is_well c && is_well a) (is_well b) well in
      let first = and_parts (is_well c) (is_well a) parts.0 in
      let members = in_brackets (tokens_in around c ∷ tokens_in around a ∷ tokens_in around b ∷ []) h.1 in
      both_true (both_true (spelled around c first.0 members.0) (spelled around a first.1 members.1.0)) (spelled around b parts.1 members.1.1.0)
  spelled around (summed x n e) well h =
      let parts = and_parts (is_name x && are_digits n) (is_well e) well in
      let first = and_parts (is_name x) (are_digits n) parts.0 in
      let members = in_brackets ((plain x ∷ []) ∷ (bound_token around n ∷ []) ∷ tokens_in (around * digits_value n) e ∷ []) h.1 in
      let bound = (kept (is_bound around (digits_value n)) None Sums members.1.0.0).0 in
      both_true (both_true first.0 bound) (spelled (around * digits_value n) e parts.1 members.1.1.0)
  spelled around (parens w) well h = spelled around w well (in_brackets (tokens_in around w ∷ []) h).0

  all_spelled : (around : ℕ) (ws : WrittenList) → are_well ws ≡ true → AllByRecursion PassNone (token_lists around ws) → are_spelled around (trees_written ws) ≡ true
  all_spelled around no_written well h = refl
  all_spelled around (written_and w ws) well h =
      let parts = and_parts (is_well w) (are_well ws) well in
      both_true (spelled around w parts.0 h.0) (all_spelled around ws parts.1 h.1)

tree_is : (w : Written) → is_well w ≡ true → PassNone (tokens_in 1 w) → tree_limit (tree_written w) ≡ None → IsExpr (tree_written w)
tree_is w well h whole =
    let small = kept (nat_le (nodes (tree_written w)) max_nodes) (if nat_le (depth (tree_written w)) max_depth then None else Some Depth) Expression whole in
    record {
      spelled = spelled 1 w well h;
      small = leb-true (nodes (tree_written w)) max_nodes small.0;
      shallow = leb-true (depth (tree_written w)) max_depth (kept (nat_le (depth (tree_written w)) max_depth) None Depth small.1).0;
    }

-- what an expression's text was read as is an expression
pub expr_limited : (text : List ℕ) (t : Tree) → expr_reading text ≡ Ok t → IsExpr t
expr_limited text t e =
    let r : Reads expr_grammar text (Ok t) = subst (Reads expr_grammar text) e (right text) in
    subst IsExpr r.3 (tree_is r.0 (and_parts (is_well r.0) (nat_le (brackets r.0) max_brackets) r.1.well).0 (none_pass 0 (tokens_in 1 r.0) r.2.tokens) r.2.whole)
