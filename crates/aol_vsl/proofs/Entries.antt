-- Shapes and vectors, entry by entry.
use Rattle.std.proofs.Common.{◌≡◌, ℕ, suc, ◌+◌, ◌*◌, ◌<◌, ◌≤◌, ℤ, pos, negsuc, nat_abs, List, [], ◌∷◌, ◌++◌, length, Bool, true, false, cond, ◌&&◌, leb, Option, Some, None, Result, Ok, Err, refl, sym, ◌∙◌, ap, subst, arith}
use Rattle.std.specs.List.{AllByRecursion}
use Rattle.std.specs.Prelude.{IfSome}
use Rattle.std.proofs.lemmas.Bool.{and_parts, leb-true, leb-false}
use Rattle.std.proofs.lemmas.List.{length-append}
use Rattle.aol_shape.specs.declared.limit.LimitName.{LimitName}
use Rattle.aol_shape.specs.declared.limit.LimitName.TheVariants.{Rank, Entry, Points}
use Rattle.aol_shape.specs.Shape.{IsShape, IsEntry, size}
use Rattle.aol_shape.specs.Vectors.{IsVector, IsVectorEntry}
use Rattle.aol_shape.specs.Texts.{is_numeral, numeral_value}
use Rattle.aol_shape.specs.Tokens.{separated, sign, braced}
use Rattle.aol_shape.specs.Machine.{stuck_at}
use Rattle.aol_shape.specs.Grammar.{TextFault, at, limit, Lexeme, reading}
use Rattle.aol_shape.proofs.Stuck.{Stuck, stuck-is}
use Rattle.aol_shape.proofs.Points.{size-append}
use Rattle.aol_vsl.specs.Text.{Numeral, member, vector_limit, shape_limit, is_shape_entry, vector_members, shape_members, vector_grammar, shape_grammar}
use Rattle.aol_vsl.specs.Reading.{Goal, numerals, vector_reading, shape_reading, recognizer, vector_goals}
use Rattle.aol_vsl.specs.Walk.{walked}
use Rattle.aol_vsl.proofs.Lexemes.{lexed}
use Rattle.aol_vsl.proofs.Sound.{by_test}
use Rattle.aol_vsl.proofs.Limits.{walk, walked_ok, members, entries_reading}

abbrev pub same_number : ℤ → ℤ
same_number z = z

-- a vector read lexeme by lexeme, after its first entries
abbrev pub vector_walk : ℕ → List ℤ → List Lexeme → Result (List ℤ) TextFault
vector_walk = walk vector_limit (λ k z. k + 1) same_number

-- a shape read lexeme by lexeme, after its first entries with their points
abbrev pub shape_walk : ℕ × ℕ → List ℕ → List Lexeme → Result (List ℕ) TextFault
shape_walk = walk (λ s. shape_limit s.0 s.1) (λ s z. (s.0 + 1, s.1 * nat_abs z)) nat_abs

pub vector_members_are : (k : ℕ) (ns : List Numeral) → vector_members k ns ≡ members vector_limit (λ k z. k + 1) same_number k ns
vector_members_are k [] = refl
vector_members_are k (n ∷ ns) = ap (λ ms. member n (vector_limit k (numeral_value n)) ∷ ms) (vector_members_are (k + 1) ns)

pub shape_members_are : (s : ℕ × ℕ) (ns : List Numeral) → shape_members s.0 s.1 ns ≡ members (λ s. shape_limit s.0 s.1) (λ s z. (s.0 + 1, s.1 * nat_abs z)) nat_abs s ns
shape_members_are s [] = refl
shape_members_are s (n ∷ ns) = ap (λ ms. member n (shape_limit s.0 s.1 (numeral_value n)) ∷ ms) (shape_members_are (s.0 + 1, s.1 * nat_abs (numeral_value n)) ns)

pub vector_reading_is : (text : List ℕ) → stuck_at (recognizer vector_goals) text ≡ None → vector_reading text ≡ vector_walk 0 [] (lexed 0 text)
vector_reading_is text e = entries_reading vector_limit (λ k z. k + 1) same_number vector_grammar 0 (λ ns. ap braced (vector_members_are 0 ns)) (λ ns. refl) (λ ns. refl) text e

pub shape_reading_is : (text : List ℕ) → stuck_at (recognizer vector_goals) text ≡ None → shape_reading text ≡ shape_walk (0, 1) [] (lexed 0 text)
shape_reading_is text e = entries_reading (λ s. shape_limit s.0 s.1) (λ s z. (s.0 + 1, s.1 * nat_abs z)) nat_abs shape_grammar (0, 1) (λ ns. ap braced (shape_members_are (0, 1) ns)) (λ ns. refl) (λ ns. refl) text e

-- ---- what is read is within the limits

pub all_push : {X : Type 0} (P : X → Type 0) (xs : List X) (x : X) → AllByRecursion P xs → P x → AllByRecursion P (xs ++ x ∷ [])
all_push P [] x h k = (k, tt)
all_push P (y ∷ xs) x h k = (h.0, all_push P xs x h.1 k)

ok_same : {V : Type 0} (v w : V) → ◌≡◌ {A = Result V TextFault} (Ok v) (Ok w) → v ≡ w
ok_same v w h = cc

pub vector_limit_none : (k : ℕ) (z : ℤ) → vector_limit k z ≡ None → (k < 12) × (nat_abs z ≤ 2147483647)
vector_limit_none k z h = by_test _ (leb 12 k) (λ e. cc) (λ e. by_test _ (leb (nat_abs z) 2147483647) (λ f. (leb-false 12 k e, leb-true (nat_abs z) 2147483647 f)) (λ f. cc))

pub shape_limit_none : (k p : ℕ) (z : ℤ) → shape_limit k p z ≡ None → (k < 12) × (is_shape_entry z ≡ true) × (p * nat_abs z ≤ 4194304)
shape_limit_none k p z h = by_test _ (leb 12 k) (λ e. cc) (λ e. by_test _ (is_shape_entry z) (λ f. by_test _ (leb (p * nat_abs z) 4194304) (λ i. (leb-false 12 k e, f, leb-true (p * nat_abs z) 4194304 i)) (λ i. cc)) (λ f. cc))

pub vector_push : (vs : List ℤ) (z : ℤ) → vector_limit (length vs) z ≡ None → IsVector vs → IsVector (vs ++ z ∷ [])
vector_push vs z h v =
    let n : (length vs < 12) × (nat_abs z ≤ 2147483647) = vector_limit_none (length vs) z h in
    record { rank = omega (arith, n.0, length-append vs (z ∷ [])); entry = all_push IsVectorEntry vs z v.entry n.1 }

vector_within : (ls : List Lexeme) (vs ws : List ℤ) → vector_walk (length vs) vs ls ≡ Ok ws → IsVector vs → IsVector ws
vector_within [] vs ws h v = subst IsVector (ok_same vs ws h) v
vector_within (l ∷ ls) vs ws h v =
    let z : ℤ = numeral_value l.text in
    let later : Result (List ℤ) TextFault = vector_walk (length vs + 1) (vs ++ z ∷ []) ls in
    let first : Result (List ℤ) TextFault = walked (vector_limit (length vs) z) l.start later in
    let skipped : Result (List ℤ) TextFault = vector_walk (length vs) vs ls in
    by_test _ (is_numeral l.text)
    (λ e. let o : (vector_limit (length vs) z ≡ None) × (later ≡ Ok ws) = walked_ok (vector_limit (length vs) z) l.start later ws (ap (λ t. cond t first skipped) (sym e) ∙ h) in
    let n : length vs + 1 ≡ length (vs ++ z ∷ []) = omega (arith, length-append vs (z ∷ [])) in
    vector_within ls (vs ++ z ∷ []) ws (subst (λ k. vector_walk k (vs ++ z ∷ []) ls ≡ Ok ws) n o.1) (vector_push vs z o.0 v))
    (λ e. vector_within ls vs ws (ap (λ t. cond t first skipped) (sym e) ∙ h) v)

-- a vector that is read is within the limits
pub vector_read_within : (text : List ℕ) (vs : List ℤ) → stuck_at (recognizer vector_goals) text ≡ None → vector_reading text ≡ Ok vs → IsVector vs
vector_read_within text vs e h = vector_within (lexed 0 text) [] vs (sym (vector_reading_is text e) ∙ h) (record { rank = omega arith; entry = tt })

shape_entry_is : (z : ℤ) → is_shape_entry z ≡ true → IsEntry (nat_abs z)
shape_entry_is (pos n) h = let p : (leb 1 n ≡ true) × (leb n 4194304 ≡ true) = and_parts (leb 1 n) (leb n 4194304) h in (leb-true 1 n p.0, leb-true n 4194304 p.1)
shape_entry_is (negsuc n) h = cc

shape_push : (vs : List ℕ) (z : ℤ) → shape_limit (length vs) (size vs) z ≡ None → IsShape vs → IsShape (vs ++ nat_abs z ∷ [])
shape_push vs z h v =
    let n : (length vs < 12) × (is_shape_entry z ≡ true) × (size vs * nat_abs z ≤ 4194304) = shape_limit_none (length vs) (size vs) z h in
    record { rank = omega (arith, n.0, length-append vs (nat_abs z ∷ [])); entry = all_push IsEntry vs (nat_abs z) v.entry (shape_entry_is z n.1); points = omega (arith, n.2, size-append vs (nat_abs z)) }

shape_within : (ls : List Lexeme) (vs ws : List ℕ) → shape_walk (length vs, size vs) vs ls ≡ Ok ws → IsShape vs → IsShape ws
shape_within [] vs ws h v = subst IsShape (ok_same vs ws h) v
shape_within (l ∷ ls) vs ws h v =
    let z : ℤ = numeral_value l.text in
    let more : List ℕ = vs ++ nat_abs z ∷ [] in
    let later : Result (List ℕ) TextFault = shape_walk (length vs + 1, size vs * nat_abs z) more ls in
    let first : Result (List ℕ) TextFault = walked (shape_limit (length vs) (size vs) z) l.start later in
    let skipped : Result (List ℕ) TextFault = shape_walk (length vs, size vs) vs ls in
    by_test _ (is_numeral l.text)
    (λ e. let o : (shape_limit (length vs) (size vs) z ≡ None) × (later ≡ Ok ws) = walked_ok (shape_limit (length vs) (size vs) z) l.start later ws (ap (λ t. cond t first skipped) (sym e) ∙ h) in
    let n : length vs + 1 ≡ length more = omega (arith, length-append vs (nat_abs z ∷ [])) in
    let counted : shape_walk (length more, size vs * nat_abs z) more ls ≡ Ok ws = subst (λ k. shape_walk (k, size vs * nat_abs z) more ls ≡ Ok ws) n o.1 in
    shape_within ls more ws (subst (λ k. shape_walk (length more, k) more ls ≡ Ok ws) (sym (size-append vs (nat_abs z))) counted) (shape_push vs z o.0 v))
    (λ e. shape_within ls vs ws (ap (λ t. cond t first skipped) (sym e) ∙ h) v)

-- a shape that is read is within the limits
pub shape_read_within : (text : List ℕ) (vs : List ℕ) → stuck_at (recognizer vector_goals) text ≡ None → shape_reading text ≡ Ok vs → IsShape vs
shape_read_within text vs e h = shape_within (lexed 0 text) [] vs (sym (shape_reading_is text e) ∙ h) (record { rank = omega arith; entry = tt; points = omega arith })

-- ---- where a text is stuck

-- a text is stuck within its bytes
pub stuck_within : (start : List Goal) (text : List ℕ) (byte : ℕ) → stuck_at (recognizer start) text ≡ Some byte → byte ≤ length text
stuck_within start text byte e = let f : (d : ℕ) × (byte ≡ 0 + d) × Stuck (recognizer start) start text d = stuck-is (recognizer start) 0 byte start text e in omega (arith, f.1, f.2.within)

pub stuck_if : (start : List Goal) (text : List ℕ) (r : Option ℕ) → stuck_at (recognizer start) text ≡ r → IfSome r (λ byte. byte ≤ length text)
stuck_if start text None e = tt
stuck_if start text (Some byte) e = stuck_within start text byte e

pub vector_at : (text : List ℕ) (byte : ℕ) → stuck_at (recognizer vector_goals) text ≡ Some byte → vector_reading text ≡ Err (at byte)
vector_at text byte e = ap (λ o. reading vector_grammar o (lexed 0 text) numerals) e

pub shape_at : (text : List ℕ) (byte : ℕ) → stuck_at (recognizer vector_goals) text ≡ Some byte → shape_reading text ≡ Err (at byte)
shape_at text byte e = ap (λ o. reading shape_grammar o (lexed 0 text) numerals) e
