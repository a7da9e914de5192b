-- What the JSON reader gives is a tree: its numbers are in range and its keys in order.
use Rattle.std.proofs.Common.{◌≡◌, ℕ, zero, suc, ◌^◌, pos, neg_ℤ, List, Bool, true, false, ◌&&◌, nat_lt, nat_le, ◌==◌, drop, slice_index, if◌then◌else◌, Option, Some, None, option_map, option_and_then, Ordering, Less, Equal, Greater, refl, subst, ap, ◌∙◌, arith}
use Rattle.std.proofs.lemmas.Cmp.{nat_list_cmp_total}
use Rattle.std.proofs.lemmas.Option.{option_and_then_some, none-some, same_Some}
use Rattle.std.proofs.lemmas.Bool.Decides.{nat_tests}
use Rattle.std.specs.Ordering.{nat_cmp, match_ordering, ordering_reverse}
use Rattle.std.specs.Cmp.Lexicographic.{slice_cmp}
use Rattle.std.specs.Float.{binary64, float_is_finite}
use Rattle.std.specs.declared.cmp.Ordering.{Ordering}
use Rattle.std.specs.Float.Numeral.{Parts, numeral_digits, nearest_float, minus, scan_numeral}
use Rattle.json.specs.Json as json
use Rattle.json.specs.Lex.{tokens}
use Rattle.serde_json.specs.Data.{Num, unsigned, negative, float, Data, null, boolean, number, string, array, object, Items, no_items, item, Members, no_members, member, put}
use Rattle.serde_json.specs.Read.{is_integer, float_of, number_from, number_of, of_json, of_items, of_members, max_depth, read}
use Rattle.std.specs.Cmp.Derive.{both_true}
use Rattle.aol_document_laws.proofs.Readable.{and-left, and-right}
use Rattle.aol_model_types.specs.Trees.{is_held, is_before, is_first, is_tree, are_items, are_members}

-- ---- members in order

first_by : (o : Ordering) (h : List ℕ) (a b c : Members) → is_first h a ≡ true → is_first h b ≡ true → is_first h c ≡ true → is_first h (match_ordering o a b c) ≡ true
first_by Less h a b c x y z = x
first_by Equal h a b c x y z = y
first_by Greater h a b c x y z = z

-- a key before the members and before k stays the first
put_after : (h k : List ℕ) (d : Data) (ms : Members) → is_before h k ≡ true → is_first h ms ≡ true → is_first h (put k d ms) ≡ true
put_after h k d no_members before first = before
put_after h k d (member l e ms) before first = first_by (slice_cmp nat_cmp k l) h _ _ _ before first first

put_by : (o : Ordering) (k l : List ℕ) (d e : Data) (ms : Members) → slice_cmp nat_cmp k l ≡ o → is_tree d ≡ true → are_members (member l e ms) ≡ true → are_members (put k d ms) ≡ true
    → are_members (match_ordering o (member k d (member l e ms)) (member l d ms) (member l e (put k d ms))) ≡ true
put_by Less k l d e ms is tree all later = both_true (both_true (ap (λ o. match_ordering o true false false) is) tree) all
put_by Equal k l d e ms is tree all later = both_true (both_true (and-left (is_first l ms) (is_tree e) (and-left _ (are_members ms) all)) tree) (and-right (is_first l ms && is_tree e) (are_members ms) all)
put_by Greater k l d e ms is tree all later =
    let front : (is_first l ms && is_tree e) ≡ true = and-left (is_first l ms && is_tree e) (are_members ms) all in
    let less : slice_cmp nat_cmp l k ≡ Less = nat_list_cmp_total.antisymm l k ∙ ap ordering_reverse is in
    both_true (both_true (put_after l k d ms (ap (λ o. match_ordering o true false false) less) (and-left (is_first l ms) (is_tree e) front)) (and-right (is_first l ms) (is_tree e) front)) later

-- members that hold a tree more are still in order
pub put_members : (k : List ℕ) (d : Data) (ms : Members) → is_tree d ≡ true → are_members ms ≡ true → are_members (put k d ms) ≡ true
put_members k d no_members tree all = both_true tree refl
put_members k d (member l e ms) tree all = put_by (slice_cmp nat_cmp k l) k l d e ms refl tree all (put_members k d ms tree (and-right (is_first l ms && is_tree e) (are_members ms) all))

-- ---- numbers in range

float_held : (b : Bool) (f : Num) (n : Num) → is_held f ≡ true → (if b then Some f else None) ≡ Some n → is_held n ≡ true
float_held true f n h e = subst (λ m. is_held m ≡ true) (same_Some f n e) h
float_held false f n h e = absurd (none-some n e)

unsigned_held : (whole : Bool) (x : ℕ) (other : Option Num) (n : Num) → (other ≡ Some n → is_held n ≡ true) → (if whole && nat_lt x (2 ^ 64) then Some (unsigned x) else other) ≡ Some n → is_held n ≡ true
unsigned_held false x other n next e = next e
unsigned_held true x other n next e = by_bound (nat_lt x (2 ^ 64)) refl e
  where
    by_bound : (b : Bool) → nat_lt x (2 ^ 64) ≡ b → (if b then Some (unsigned x) else other) ≡ Some n → is_held n ≡ true
    by_bound true is e = subst (λ m. is_held m ≡ true) (same_Some (unsigned x) n e) is
    by_bound false is e = next e

negative_in : (x : ℕ) → (nat_lt 0 x && nat_le x (2 ^ 63)) ≡ true → is_held (negative (neg_ℤ (pos x))) ≡ true
negative_in zero h = h
negative_in (suc x) h = grind (arith, nat_tests)

negative_held : (whole : Bool) (x : ℕ) (other : Option Num) (n : Num) → (other ≡ Some n → is_held n ≡ true)
    → (if whole && nat_lt 0 x && nat_le x (2 ^ 63) then Some (negative (neg_ℤ (pos x))) else other) ≡ Some n → is_held n ≡ true
negative_held false x other n next e = next e
negative_held true x other n next e = by_bound (nat_lt 0 x && nat_le x (2 ^ 63)) refl e
  where
    by_bound : (b : Bool) → (nat_lt 0 x && nat_le x (2 ^ 63)) ≡ b → (if b then Some (negative (neg_ℤ (pos x))) else other) ≡ Some n → is_held n ≡ true
    by_bound true is e = subst (λ m. is_held m ≡ true) (same_Some (negative (neg_ℤ (pos x))) n e) (negative_in x is)
    by_bound false is e = next e

number_held : (sign : Bool) (p : Parts) (n : Num) → number_from sign p ≡ Some n → is_held n ≡ true
number_held false p n e = unsigned_held (is_integer p) (numeral_digits p) (float_of false p) n (float_held (float_is_finite (nearest_float binary64 false p)) (float (nearest_float binary64 false p)) n refl) e
number_held true p n e = negative_held (is_integer p) (numeral_digits p) (float_of true p) n (float_held (float_is_finite (nearest_float binary64 true p)) (float (nearest_float binary64 true p)) n refl) e

text_held : (s : List ℕ) (n : Num) → number_of s ≡ Some n → is_held n ≡ true
unfolding number_of
text_held s n e = by_sign (slice_index s 0 == minus) e
  where
    by_sign : (b : Bool) → (if b then number_from true (scan_numeral (drop 1 s)) else number_from false (scan_numeral s)) ≡ Some n → is_held n ≡ true
    by_sign true e = number_held true (scan_numeral (drop 1 s)) n e
    by_sign false e = number_held false (scan_numeral s) n e

-- ---- values

some_by : {A B : Type 0} (f : A → B) (o : Option A) (b : B) (P : B → Type 0) → ((a : A) → o ≡ Some a → P (f a)) → option_map f o ≡ Some b → P b
some_by f (Some a) b P h e = subst P (same_Some (f a) b e) (h a refl)
some_by f None b P h e = absurd (none-some b e)

mutual
  json_tree : (j : json.Json) (d : Data) → of_json j ≡ Some d → is_tree d ≡ true
  json_tree json.null d e = subst (λ t. is_tree t ≡ true) (same_Some null d e) refl
  json_tree (json.boolean b) d e = subst (λ t. is_tree t ≡ true) (same_Some (boolean b) d e) refl
  json_tree (json.number s) d e = some_by number (number_of s) d (λ t. is_tree t ≡ true) (text_held s) e
  json_tree (json.string s) d e = subst (λ t. is_tree t ≡ true) (same_Some (string s) d e) refl
  json_tree (json.array js) d e = some_by array (of_items js) d (λ t. is_tree t ≡ true) (json_items js) e
  json_tree (json.object ms) d e = some_by object (of_members ms no_members) d (λ t. is_tree t ≡ true) (json_members ms no_members refl) e

  json_items : (js : json.Items) (ds : Items) → of_items js ≡ Some ds → are_items ds ≡ true
  json_items json.no_items ds e = subst (λ t. are_items t ≡ true) (same_Some no_items ds e) refl
  json_items (json.item j js) ds e =
      option_and_then_some (λ d. option_map (item d) (of_items js)) (of_json j) ds e (λ d is next.
      some_by (item d) (of_items js) ds (λ t. are_items t ≡ true) (λ more rest. both_true (json_tree j d is) (json_items js more rest)) next)

  json_members : (ms : json.Members) (found : Members) → are_members found ≡ true → (all : Members) → of_members ms found ≡ Some all → are_members all ≡ true
  json_members json.no_members found h all e = subst (λ t. are_members t ≡ true) (same_Some found all e) h
  json_members (json.member k j ms) found h all e =
      option_and_then_some (λ d. of_members ms (put k d found)) (of_json j) all e (λ d is next. json_members ms (put k d found) (put_members k d found (json_tree j d is) h) all next)

-- what a text reads as is a tree
pub read_tree : (text : List ℕ) (d : Data) → read text ≡ Some d → is_tree d ≡ true
read_tree text d e = option_and_then_some of_json (option_and_then (λ p. json.if_last p.0 p.1) (json.value max_depth (tokens text))) d e (λ j is next. json_tree j d next)
