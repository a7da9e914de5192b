-- Reading the indices of a port, and sums.
use Rattle.std.proofs.Common.{◌≡◌, ℕ, ◌+◌, ◌-◌, ◌*◌, ◌≤◌, ◌<◌, min, List, [], ◌∷◌, ◌++◌, length, Bool, true, false, cond, ◌&&◌, leb, Option, Some, None, refl, sym, ◌∙◌, ap, arith, codes}
use Rattle.std.specs.List.{list_all}
use Rattle.std.specs.Option.{is_some, unwrap_or}
use Rattle.std.proofs.lemmas.Bool.{and_parts, and_from, and_right, false≢true, leb-true, le-leb, lt-ltb}
use Rattle.std.proofs.Math.Nat.{mul-le-mul_left, mul-le-mul_right}
use Rattle.aol_shape.specs.declared.limit.LimitName.{LimitName}
use Rattle.aol_shape.specs.declared.limit.LimitName.TheVariants.{Sums}
use Rattle.aol_shape.specs.Texts.{is_blank, is_name, is_digit, are_digits, digits_value, digits_value_from}
use Rattle.aol_shape.specs.Tokens.{Token, plain, sign, IsSpaced}
use Rattle.aol_expr_tree.specs.declared.byte.Byte.{Byte}
use Rattle.aol_expr_tree.specs.declared.byte.Byte.TheVariants.{Blank, Digit, Letter, Comma, CloseBrace, OpenBrace}
use Rattle.aol_expr_tree.specs.declared.letters.Keyword.TheVariants.{Sum}
use Rattle.aol_expr_tree.specs.declared.part.Part.{Part}
use Rattle.aol_expr_tree.specs.declared.reader.Waiting.{Waiting}
use Rattle.aol_expr_tree.specs.declared.reader.Bracket.TheVariants.{Indices, Term}
use Rattle.aol_expr_tree.specs.declared.reader.Held.{Held}
use Rattle.aol_expr_tree.specs.declared.reader.Mode.TheVariants.{Operand, Whole, Named, FirstIndex, SumName, InSumName, SumNamed, Bound, InBound, Bounded}
use Rattle.aol_expr_tree.specs.Tree.{Tree, read, sum, Trees, no_trees, tree_and, is_bound, max_terms}
use Rattle.aol_expr_tree.specs.Text.{Written, indexed, summed, WrittenList, no_written, written_and, written_strength, brackets, brackets_of, is_well, tokens_in, token_lists, bound_token, tree_written, trees_written}
use Rattle.aol_expr_tree.specs.Bytes.{byte_of}
use Rattle.aol_expr_tree.specs.Words.{word_of}
use Rattle.aol_expr_tree.specs.Decimals.{in_bounds}
use Rattle.aol_expr_tree.specs.Parts.{seen, over_one, followed_by, with_index}
use Rattle.aol_expr_tree.specs.Reading.{to, noted, stepped, has_room, grouped, onward, opened, word_opened, after_operand, after_name, left, closed, braced, unindexed, continued, next_argument, first_index, inside, sum_name, in_sum_name, sum_named, bound, in_bound, bounded}
use Rattle.aol_expr_grammar.proofs.Goes.{held_at, reads, goes, elsewhere, skips, skips_to, same_front, same_end, letter_kind, digit_kind}
use Rattle.aol_expr_grammar.proofs.Grouping.{nothing_free, same_alike, groups, over_one_seen, with_index_seen}
use Rattle.aol_expr_grammar.proofs.Tokens.{noted_token, noted_is, marked, numeral_at, read_digits}
use Rattle.aol_expr_grammar.proofs.Spellings.{is_plain, plain_front, gap_plain, name_is, name_read, read_letters}
use Rattle.aol_expr_grammar.proofs.Evidence.{first_passed, consume, consume_plain, noted_none, can_follow, first_operand, begins_more, tail_tokens, separated_tail, one_argument}
use Rattle.aol_expr_grammar.proofs.Operands.{holding, Further, word_further, argument_on, sign_further}
use Rattle.aol_expr_grammar.proofs.Nested.{ReadsAs, Agrees, begins, within, room_for, opens, close_on, closing}

-- ---- the variable of a sum

in_sum_plain : (h : Held) (x : List ℕ) (c : Byte) (b : ℕ) → word_of x ≡ None → is_plain c ≡ true → stepped h (InSumName x) c b ≡ stepped h (SumNamed x) c b
unfolding stepped in_sum_name
in_sum_plain h x Letter b e f = absurd (false≢true f)
in_sum_plain h x Digit b e f = absurd (false≢true f)
in_sum_plain h x c b e f = ap (λ o. cond (is_some o) None (sum_named h x c)) e

sum_name_ends : (k : ℕ) (h : Held) (x bs : List ℕ) → word_of x ≡ None → plain_front bs ≡ true → reads k h (InSumName x) bs ≡ reads k h (SumNamed x) bs
sum_name_ends k h x [] e f = same_end k h (InSumName x) h (SumNamed x) (in_sum_plain (held_at k h) x Blank 32 e refl)
sum_name_ends k h x (b ∷ bs) e f = same_front k h (InSumName x) h (SumNamed x) b bs (in_sum_plain (held_at k h) x (byte_of b) b e f)

sum_name_read : (x : List ℕ) → is_name x ≡ true → (k : ℕ) (h : Held) (gap space bs : List ℕ) → list_all is_blank gap ≡ true → list_all is_blank space ≡ true
    → reads k h SumName (gap ++ (x ++ (space ++ 44 ∷ bs))) ≡ reads (k + length gap + length x + length space + 1) h (Bound x) bs
unfolding stepped sum_name in_sum_name sum_named
sum_name_read [] e k h gap space bs blank empty = absurd (false≢true e)
sum_name_read (b ∷ cs) e k h gap space bs blank empty =
    let is = name_is b cs e in
    let x : List ℕ = b ∷ cs in
    let rest : List ℕ = space ++ 44 ∷ bs in
    skips h SumName (λ j c. refl) k gap (x ++ rest) blank
    ∙ goes (k + length gap) h SumName b (cs ++ rest) Letter (held_at (k + length gap) h) (InSumName (b ∷ [])) (letter_kind b is.letter) refl
    ∙ read_letters h InSumName (λ j y c. refl) (λ j y c. refl) cs (b ∷ []) rest (k + length gap + 1) is.bytes (omega (arith, is.short))
    ∙ elsewhere (k + length gap + 1 + length cs) (k + length gap + length x) h (InSumName x) rest (omega arith)
    ∙ sum_name_ends (k + length gap + length x) h x rest is.no_word (gap_plain space 44 bs empty refl)
    ∙ skips_to h (SumNamed x) (λ j c. refl) 44 Comma h (Bound x) refl (λ j. refl) (k + length gap + length x) space bs empty

-- ---- the bound of a sum

-- the bound that stands where one is read, and the limit that it passes
abbrev bound_read : ℕ → ℕ → ℕ
bound_read around v = unwrap_or (in_bounds around v) 0

abbrev bound_passes : ℕ → ℕ → Option LimitName
bound_passes around v = cond (is_some (in_bounds around v)) None (Some Sums)

bound_on : (k : ℕ) (h : Held) (x : List ℕ) (start : ℕ) (count value b : ℕ) → count < 19
    → stepped (held_at k h) (InBound x (numeral_at start false count value)) Digit b ≡ to (held_at k h) (InBound x (numeral_at start false (count + 1) (10 * value + (b - 48))))
unfolding stepped in_bound
bound_on k h x start count value b few =
    ap (λ t. onward (held_at k h) (λ d. InBound x (record { start = start; negative = false; digits = d })) (cond t (Some (record { count = count + 1; value = 10 * value + (b - 48) })) None)) (lt-ltb count 19 few)

bound_plain : (k : ℕ) (h : Held) (x : List ℕ) (start count v : ℕ) (c : Byte) (b : ℕ) → is_plain c ≡ true
    → stepped (held_at k h) (InBound x (numeral_at start false count v)) c b ≡ stepped (held_at k (marked h start (bound_passes h.around v))) (Bounded x (bound_read h.around v)) c b
unfolding stepped in_bound
bound_plain k h x start count v Digit b f = absurd (false≢true f)
bound_plain k h x start count v c b f = ap (λ s. bounded s x (bound_read h.around v) c) (noted_is (is_some (in_bounds h.around v)) start Sums (held_at k h))

bound_ends : (k : ℕ) (h : Held) (x : List ℕ) (start count v : ℕ) (bs : List ℕ) → plain_front bs ≡ true
    → reads k h (InBound x (numeral_at start false count v)) bs ≡ reads k (marked h start (bound_passes h.around v)) (Bounded x (bound_read h.around v)) bs
bound_ends k h x start count v [] f = same_end k h (InBound x (numeral_at start false count v)) (marked h start (bound_passes h.around v)) (Bounded x (bound_read h.around v)) (bound_plain k h x start count v Blank 32 refl)
bound_ends k h x start count v (b ∷ bs) f = same_front k h (InBound x (numeral_at start false count v)) (marked h start (bound_passes h.around v)) (Bounded x (bound_read h.around v)) b bs (bound_plain k h x start count v (byte_of b) b f)

-- what is held after the bound
abbrev behind_bound : Held → List ℕ → ℕ → ℕ → Held
behind_bound h x start v = within h (noted_token h.passed start (bound_passes h.around v)) (Term x (bound_read h.around v)) (min (h.around * bound_read h.around v) max_terms)

bound_comma : (h : Held) (x : List ℕ) (start v : ℕ) (j : ℕ) → stepped (held_at j (marked h start (bound_passes h.around v))) (Bounded x (bound_read h.around v)) Comma 44 ≡ to (held_at j (behind_bound h x start v)) Operand
unfolding stepped bounded inside
bound_comma h x start v j = refl

bounded_stays : (h : Held) (x : List ℕ) (n : ℕ) (k b : ℕ) → stepped (held_at k h) (Bounded x n) Blank b ≡ to (held_at k h) (Bounded x n)
unfolding stepped bounded
bounded_stays h x n k b = refl

bound_begins : (d : ℕ) (ds x : List ℕ) (k : ℕ) (h : Held) (gap bs : List ℕ) → is_digit d ≡ true → list_all is_digit ds ≡ true → length (d ∷ ds) ≤ 19 → list_all is_blank gap ≡ true
    → reads k h (Bound x) (gap ++ (d ∷ ds ++ bs)) ≡ reads (k + length gap + length (d ∷ ds)) h (InBound x (numeral_at (k + length gap) false (1 + length ds) (digits_value_from (d - 48) ds))) bs
unfolding stepped bound
bound_begins d ds x k h gap bs digit digits few blank =
    let start : ℕ = k + length gap in
    skips h (Bound x) (λ j c. refl) k gap (d ∷ ds ++ bs) blank
    ∙ goes start h (Bound x) d (ds ++ bs) Digit (held_at start h) (InBound x (numeral_at start false 1 (d - 48))) (digit_kind d digit) refl
    ∙ read_digits h (InBound x) start false (λ j n v b. bound_on j h x start n v b) ds bs (start + 1) 1 (d - 48) digits (omega arith)
    ∙ elsewhere (start + 1 + length ds) (k + length gap + length (d ∷ ds)) h (InBound x (numeral_at start false (1 + length ds) (digits_value_from (d - 48) ds))) bs (omega arith)

bound_token_read : (n x : List ℕ) → are_digits n ≡ true → (k : ℕ) (h : Held) (gap space bs : List ℕ) → list_all is_blank gap ≡ true → list_all is_blank space ≡ true
    → reads k h (Bound x) (gap ++ (n ++ (space ++ 44 ∷ bs))) ≡ reads (k + length gap + length n + length space + 1) (behind_bound h x (k + length gap) (digits_value n)) Operand bs
bound_token_read [] x e k h gap space bs blank empty = absurd (false≢true e)
bound_token_read (d ∷ ds) x e k h gap space bs blank empty =
    let parts = and_parts (leb 1 (length (d ∷ ds)) && leb (length (d ∷ ds)) 19) (list_all is_digit (d ∷ ds)) e in
    let range = and_parts (leb 1 (length (d ∷ ds))) (leb (length (d ∷ ds)) 19) parts.0 in
    let all = and_parts (is_digit d) (list_all is_digit ds) parts.1 in
    let few : length (d ∷ ds) ≤ 19 = leb-true (length (d ∷ ds)) 19 range.1 in
    let start : ℕ = k + length gap in
    let place : ℕ = k + length gap + length (d ∷ ds) in
    let from : d - 48 ≡ 10 * 0 + (d - 48) = omega arith in
    let v : ℕ = digits_value_from (d - 48) ds in
    let rest : List ℕ = space ++ 44 ∷ bs in
    bound_begins d ds x k h gap rest all.0 all.1 few blank
    ∙ bound_ends place h x start (1 + length ds) v rest (gap_plain space 44 bs empty refl)
    ∙ skips_to (marked h start (bound_passes h.around v)) (Bounded x (bound_read h.around v)) (λ j c. bounded_stays (marked h start (bound_passes h.around v)) x (bound_read h.around v) j c) 44 Comma (behind_bound h x start v) Operand refl (bound_comma h x start v) place space bs empty
    ∙ ap (λ m. reads (place + length space + 1) (behind_bound h x start (digits_value_from m ds)) Operand bs) from

-- ---- the limit of bounds

-- a bound that is in its limit
record InLimit (around v : ℕ) : Type 0 where
  some : in_bounds around v ≡ Some v
  least : 1 ≤ v
  most : around * v ≤ max_terms

in_limit : (a v : ℕ) → 1 ≤ a → is_bound a v ≡ true → InLimit a v
in_limit a v h e =
    let parts = and_parts (leb 1 v) (leb (a * v) max_terms) e in
    let most : a * v ≤ max_terms = leb-true (a * v) max_terms parts.1 in
    let own : 1 * v ≤ a * v = mul-le-mul_right v h in
    record { some = ap (λ t. cond t (Some v) None) (and_from (leb v max_terms) (is_bound a v) (le-leb v max_terms (omega arith)) e); least = leb-true 1 v parts.0; most = most }

passes_same : (a v : ℕ) (t : Bool) → 1 ≤ a → is_bound a v ≡ t → cond (is_bound a v) None (Some Sums) ≡ bound_passes a v
passes_same a v true h e = ap (λ t. cond t None (Some Sums)) e ∙ sym (ap (λ o. cond (is_some o) None (Some Sums)) (in_limit a v h e).some)
passes_same a v false h e = ap (λ t. cond t None (Some Sums)) e ∙ sym (ap (λ t. cond (is_some (cond t (Some v) None)) None (Some Sums)) (and_right (leb v max_terms) (is_bound a v) e))

notes_same : (passed : Option (ℕ × LimitName)) (j : ℕ) (o q : Option LimitName) → (passed ≡ None → o ≡ q) → noted_token passed j o ≡ noted_token passed j q
notes_same None j o q e = ap (noted_token None j) (e refl)
notes_same (Some x) j o q e = refl

none_in_limit : (a v : ℕ) (t : Bool) → is_bound a v ≡ t → cond (is_bound a v) None (Some Sums) ≡ None → is_bound a v ≡ true
none_in_limit a v true e f = e
none_in_limit a v false e f = absurd (cc)

-- where no limit is passed after the bound
bound_known : (h : Held) (around j v : ℕ) → Agrees h around → noted_token h.passed j (bound_passes h.around v) ≡ None → (h.passed ≡ None) × (h.around ≡ around) × (1 ≤ around) × InLimit around v
bound_known h around j v agrees e =
    let n = noted_none h.passed j (bound_passes h.around v) e in
    let a = agrees n.0 in
    let passes : cond (is_bound around v) None (Some Sums) ≡ None = passes_same around v (is_bound around v) a.1 refl ∙ ap (λ i. bound_passes i v) (sym a.0) ∙ n.1 in
    (n.0, a.0, a.1, in_limit around v a.1 (none_in_limit around v (is_bound around v) refl passes))

bound_agrees : (h : Held) (x : List ℕ) (around j v : ℕ) → Agrees h around → Agrees (behind_bound h x j v) (around * v)
bound_agrees h x around j v agrees e =
    let b = bound_known h around j v agrees e in
    let is : bound_read h.around v ≡ v = ap (λ a. bound_read a v) b.1 ∙ ap (λ o. unwrap_or o 0) b.3.some in
    let least : 1 * 1 ≤ around * v = omega (arith, mul-le-mul_left around b.3.least, b.2) in
    (ap (λ n. min (h.around * n) max_terms) is ∙ ap (λ a. min (a * v) max_terms) b.1 ∙ (let m : min (around * v) max_terms ≡ around * v = omega (arith, b.3.most) in m), omega (arith, least))

-- ---- sums

sum_opens : (h : Held) (j : ℕ) → has_room h ≡ true → word_opened (held_at j h) Sum ≡ to (held_at j h) SumName
sum_opens h j room = ap (λ t. cond t (to (held_at j h) SumName) None) room

pub summed_read : (x n : List ℕ) (w : Written) → is_name x ≡ true → are_digits n ≡ true → ReadsAs w → ReadsAs (summed x n w)
unfolding closed
summed_read x n w name_x digits reads_w around k h bytes us s ts e f room agrees free =
    let v : ℕ = digits_value n in
    let inner_tokens : List Token = tokens_in (around * v) w ++ (sign 41 ∷ ts) in
    let behind_x : List Token = sign 44 ∷ bound_token around n ∷ sign 44 ∷ inner_tokens in
    let tokens : us ≡ plain (codes "sum") ∷ sign 40 ∷ plain x ∷ behind_x = e ∙ ap (λ vs. plain (codes "sum") ∷ sign 40 ∷ plain x ∷ sign 44 ∷ bound_token around n ∷ sign 44 ∷ vs) (one_argument (tokens_in (around * v) w) ts) in
    let has : has_room h ≡ true = room_for h (brackets w) room in
    let o = word_further k h bytes us s (plain x ∷ behind_x) h SumName 115 (117 ∷ 109 ∷ []) Sum tokens refl refl (omega arith) refl has (λ j. sum_opens h j has) in
    let t1 = consume_plain h.passed o.place o.rest (plain x ∷ behind_x) o.left x behind_x refl in
    let p1 : ℕ = o.place + length t1.gap + length x in
    let t2 = consume_plain h.passed p1 t1.mid behind_x t1.left (44 ∷ []) (bound_token around n ∷ sign 44 ∷ inner_tokens) refl in
    let p2 : ℕ = p1 + length t2.gap + 1 in
    let t3 = consume h.passed p2 t2.mid (bound_token around n ∷ sign 44 ∷ inner_tokens) t2.left (bound_token around n) (sign 44 ∷ inner_tokens) refl in
    let start : ℕ = p2 + length t3.gap in
    let p3 : ℕ = start + length n in
    let passed : Option (ℕ × LimitName) = noted_token h.passed start (bound_passes h.around v) in
    let notes : noted_token h.passed start (cond (is_bound around v) None (Some Sums)) ≡ passed =
    notes_same h.passed start (cond (is_bound around v) None (Some Sums)) (bound_passes h.around v) (λ q. let a = agrees q in passes_same around v (is_bound around v) a.1 refl ∙ ap (λ i. bound_passes i v) (sym a.0)) in
    let t4 = consume_plain passed p3 t3.mid (sign 44 ∷ inner_tokens) t3.left (44 ∷ []) inner_tokens refl in
    let p4 : ℕ = p3 + length t4.gap + 1 in
    let inner : Held = behind_bound h x start v in
    let a = reads_w (around * v) p4 inner t4.mid inner_tokens t4.left (sign 41 ∷ ts) refl refl (omega arith) (bound_agrees h x around start v agrees) (nothing_free (written_strength w)) in
    let term : grouped a.waiting a.part ≡ seen a.stands = groups (written_strength w) a.waiting a.part a.stands a.alike in
    let m : ℕ = bound_read h.around v in
    let part : Part = over_one (sum x m) (seen a.stands) in
    let d = argument_on p4 inner t4.mid inner_tokens t4.left ts (written_strength w) (tree_written w) 41 Rattle.aol_expr_tree.specs.declared.byte.Byte.TheVariants.Close a (holding h a.passed h.waiting) (Whole part) refl
    (close_on h passed a.passed (Term x m) (min (h.around * m) max_terms) a.waiting a.part part (ap (λ p. Some (over_one (sum x m) p)) term)) in
    closing k h bytes us s ts (sum x v (tree_written w)) (sum x m a.stands) p4 inner t4.mid inner_tokens t4.left 41 (written_strength w) (tree_written w) a part
    (o.on ∙ ap (reads o.place h SumName) (t1.is ∙ ap (λ y. t1.gap ++ (x ++ y)) t2.is) ∙ sum_name_read x name_x o.place h t1.gap t2.gap t2.mid t1.blank t2.blank
    ∙ ap (reads p2 h (Bound x)) (t3.is ∙ ap (λ y. t3.gap ++ (n ++ y)) t4.is) ∙ bound_token_read n x digits p2 h t3.gap t4.gap t4.mid t3.blank t4.blank)
    (o.same ∙ t1.same ∙ t2.same ∙ t3.same ∙ ap (λ q. first_passed q p3 t3.mid (sign 44 ∷ inner_tokens) t3.left) notes ∙ t4.same)
    (λ q. let y = a.exact q in let b = bound_known h around start v agrees y.0 in
    (b.0, ap (λ i. sum x i a.stands) (ap (λ i. bound_read i v) b.1 ∙ ap (λ i. unwrap_or i 0) b.3.some) ∙ ap (sum x v) y.1)) (over_one_seen x m a.stands) d

-- ---- indices

-- trees, and others after them
abbrev pub join : Trees → Trees → Trees
join no_trees us = us
join (tree_and t ts) us = tree_and t (join ts us)

join_none : (ts : Trees) → join ts no_trees ≡ ts
join_none no_trees = refl
join_none (tree_and t ts) = ap (tree_and t) (join_none ts)

join_followed : (ts : Trees) (t : Tree) (us : Trees) → join (followed_by ts t) us ≡ join ts (tree_and t us)
join_followed no_trees t us = refl
join_followed (tree_and s ts) t us = ap (tree_and s) (join_followed ts t us)

-- what is held after a port and these indices
abbrev pub in_indices : Held → Option (ℕ × LimitName) → List ℕ → Trees → Held
in_indices h passed x ts = within h passed (Indices (seen (read x ts))) h.around

-- the other indices are read, and the closing brace
pub record AllIndices (k : ℕ) (h : Held) (x : List ℕ) (old now : Option (ℕ × LimitName)) (before : Trees) (waiting : Waiting) (part : Part) (bytes : List ℕ) (us : List Token) (s : IsSpaced bytes us) (ts : List Token) (all : Trees) : Type 0 where
  pub place : ℕ
  pub passed : Option (ℕ × LimitName)
  pub rest : List ℕ
  pub left : IsSpaced rest ts
  pub stands : Trees
  pub exact : passed ≡ None → (now ≡ None) × (stands ≡ all)
  pub same : first_passed now k bytes us s ≡ first_passed passed place rest ts left
  pub on : reads k (holding (in_indices h old x before) now waiting) (Whole part) bytes ≡ reads place (holding h passed h.waiting) (Whole (seen (read x stands))) rest

abbrev pub ReadsIndices : WrittenList → Type 0
ReadsIndices ws = (around k : ℕ) (h : Held) (x : List ℕ) (old now : Option (ℕ × LimitName)) (before : Trees) (waiting : Waiting) (part : Part) (t : Tree) (bytes : List ℕ) (us : List Token) (s : IsSpaced bytes us) (ts : List Token)
    → us ≡ tail_tokens (token_lists around ws) ts → length h.levels + (1 + brackets_of ws) ≤ 100 → (now ≡ None → (h.around ≡ around) × (1 ≤ around)) → grouped waiting part ≡ seen t
    → AllIndices k h x old now before waiting part bytes us s ts (join (followed_by before t) (trees_written ws))

brace_on : (h : Held) (x : List ℕ) (old now : Option (ℕ × LimitName)) (before : Trees) (waiting : Waiting) (p : Part) (t : Tree) → grouped waiting p ≡ seen t → (j : ℕ)
    → stepped (held_at j (holding (in_indices h old x before) now waiting)) (Whole p) CloseBrace 125 ≡ to (held_at j (holding h now h.waiting)) (Whole (seen (read x (followed_by before t))))
unfolding stepped after_operand left braced
brace_on h x old now before waiting p t e j = ap (λ q. to (held_at j (holding h now h.waiting)) (Whole (with_index (seen (read x before)) q))) e ∙ ap (λ q. to (held_at j (holding h now h.waiting)) (Whole q)) (with_index_seen x before t)

index_comma : (h : Held) (x : List ℕ) (old now : Option (ℕ × LimitName)) (before : Trees) (waiting : Waiting) (p : Part) (t : Tree) → grouped waiting p ≡ seen t → (j : ℕ)
    → stepped (held_at j (holding (in_indices h old x before) now waiting)) (Whole p) Comma 44 ≡ to (held_at j (in_indices h now x (followed_by before t))) Operand
unfolding stepped after_operand continued next_argument
index_comma h x old now before waiting p t e j = ap (λ q. to (held_at j (within h now (Indices (with_index (seen (read x before)) q)) h.around)) Operand) e ∙ ap (λ q. to (held_at j (within h now (Indices q) h.around)) Operand) (with_index_seen x before t)

pub no_more_read : ReadsIndices no_written
no_more_read around k h x old now before waiting part t bytes us s ts e room agrees is =
    let f = sign_further k (holding (in_indices h old x before) now waiting) part bytes us s ts (holding h now h.waiting) (Whole (seen (read x (followed_by before t)))) 125 CloseBrace e refl (brace_on h x old now before waiting part t is) in
    record { place = f.place; passed = now; rest = f.rest; left = f.left; stands = followed_by before t; exact = λ q. (q, sym (join_none (followed_by before t))); same = f.same; on = f.on }

tail_follows : (ms : List (List Token)) (ts : List Token) → can_follow (tail_tokens ms ts) ≡ true
tail_follows [] ts = refl
tail_follows (m ∷ ms) ts = refl

pub one_more_read : (w : Written) (ws : WrittenList) → ReadsAs w → ReadsIndices ws → ReadsIndices (written_and w ws)
one_more_read w ws reads_w reads_ws around k h x old now before waiting part t bytes us s ts e room agrees is =
    let tail : List Token = tail_tokens (token_lists around ws) ts in
    let next : Held = in_indices h now x (followed_by before t) in
    let c = sign_further k (holding (in_indices h old x before) now waiting) part bytes us s (tokens_in around w ++ tail) next Operand 44 Comma e refl (index_comma h x old now before waiting part t is) in
    let a = reads_w around c.place next c.rest (tokens_in around w ++ tail) c.left tail refl (tail_follows (token_lists around ws) ts) (omega arith) agrees (nothing_free (written_strength w)) in
    let r = reads_ws around a.place h x now a.passed (followed_by before t) a.waiting a.part a.stands a.rest tail a.left ts refl (omega arith) (λ q. agrees (a.exact q).0) (groups (written_strength w) a.waiting a.part a.stands a.alike) in
    record {
      place = r.place;
      passed = r.passed;
      rest = r.rest;
      left = r.left;
      stands = r.stands;
      exact = λ q. let y = r.exact q in let z = a.exact y.0 in
          (z.0, y.1 ∙ join_followed (followed_by before t) a.stands (trees_written ws) ∙ ap (λ i. join (followed_by before t) (tree_and i (trees_written ws))) z.1);
      same = c.same ∙ a.same ∙ r.same;
      on = c.on ∙ a.on ∙ r.on;
    }

-- a port with its opening brace
port_further : (k : ℕ) (h : Held) (x bytes : List ℕ) (us : List Token) (s : IsSpaced bytes us) (ts : List Token) → us ≡ plain x ∷ sign 123 ∷ ts → is_name x ≡ true → has_room h ≡ true → Further k h Operand bytes us s ts (in_indices h h.passed x no_trees) FirstIndex
unfolding stepped after_name
port_further k h x bytes us s ts e well room =
    let t = consume_plain h.passed k bytes us s x (sign 123 ∷ ts) e in
    let j : ℕ = k + length t.gap + length x in
    let o = consume_plain h.passed j t.mid (sign 123 ∷ ts) t.left (123 ∷ []) ts refl in
    record {
      place = j + length o.gap + 1;
      rest = o.mid;
      left = o.left;
      same = t.same ∙ o.same;
      on = ap (reads k h Operand) (t.is ∙ ap (λ mid. t.gap ++ (x ++ mid)) o.is) ∙ name_read x well k h t.gap (o.gap ++ 123 ∷ o.mid) t.blank (gap_plain o.gap 123 o.mid o.blank refl)
          ∙ skips_to h (Named x) (λ i c. refl) 123 OpenBrace (in_indices h h.passed x no_trees) FirstIndex refl (λ i. opens (held_at i h) (Indices (seen (read x no_trees))) FirstIndex room) j o.gap o.mid o.blank;
    }

no_indices_on : (h : Held) (x : List ℕ) (j : ℕ) → stepped (held_at j (in_indices h h.passed x no_trees)) FirstIndex CloseBrace 125 ≡ to (held_at j h) (Whole (seen (read x no_trees)))
unfolding stepped first_index left
no_indices_on h x j = refl

first_stays : (h : Held) (k b : ℕ) → stepped (held_at k h) FirstIndex Blank b ≡ to (held_at k h) FirstIndex
unfolding stepped first_index Rattle.aol_expr_tree.specs.Reading.begun
first_stays h k b = refl

pub no_indices_read : (x : List ℕ) → is_name x ≡ true → ReadsAs (indexed x no_written)
no_indices_read x well around k h bytes us s ts e f room agrees free =
    let o = port_further k h x bytes us s (sign 125 ∷ ts) e well (room_for h 0 room) in
    let inner : Held = in_indices h h.passed x no_trees in
    let t = consume_plain h.passed o.place o.rest (sign 125 ∷ ts) o.left (125 ∷ []) ts refl in
    record {
      place = o.place + length t.gap + 1;
      passed = h.passed;
      waiting = h.waiting;
      part = seen (read x no_trees);
      rest = t.mid;
      left = t.left;
      stands = read x no_trees;
      alike = same_alike 3 h.waiting (seen (read x no_trees));
      exact = λ q. (q, refl);
      same = o.same ∙ t.same;
      on = o.on ∙ ap (reads o.place inner FirstIndex) t.is ∙ skips_to inner FirstIndex (first_stays inner) 125 CloseBrace h (Whole (seen (read x no_trees))) refl (no_indices_on h x) o.place t.gap t.mid t.blank;
    }

pub indices_read : (x : List ℕ) (w : Written) (ws : WrittenList) → is_name x ≡ true → is_well w ≡ true → ReadsAs w → ReadsIndices ws → ReadsAs (indexed x (written_and w ws))
indices_read x w ws well well_w reads_w reads_ws around k h bytes us s ts e f room agrees free =
    let tail : List Token = tail_tokens (token_lists around ws) ts in
    let tokens : List Token = tokens_in around w ++ tail in
    let o = port_further k h x bytes us s tokens (e ∙ ap (λ vs. plain x ∷ sign 123 ∷ vs) (separated_tail (tokens_in around w) (token_lists around ws) ts)) well (room_for h (brackets_of (written_and w ws)) room) in
    let inner : Held = in_indices h h.passed x no_trees in
    let a = reads_w around o.place inner o.rest tokens o.left tail refl (tail_follows (token_lists around ws) ts) (omega arith) agrees (nothing_free (written_strength w)) in
    let r = reads_ws around a.place h x h.passed a.passed no_trees a.waiting a.part a.stands a.rest tail a.left ts refl (omega arith) (λ q. agrees (a.exact q).0) (groups (written_strength w) a.waiting a.part a.stands a.alike) in
    record {
      place = r.place;
      passed = r.passed;
      waiting = h.waiting;
      part = seen (read x r.stands);
      rest = r.rest;
      left = r.left;
      stands = read x r.stands;
      alike = same_alike 3 h.waiting (seen (read x r.stands));
      exact = λ q. let y = r.exact q in let z = a.exact y.0 in (z.0, ap (read x) (y.1 ∙ ap (λ i. tree_and i (trees_written ws)) z.1));
      same = o.same ∙ a.same ∙ r.same;
      on = o.on ∙ first_operand o.place inner o.rest tokens o.left (begins_more (tokens_in around w) tail (begins around w well_w)) ∙ a.on ∙ r.on;
    }
