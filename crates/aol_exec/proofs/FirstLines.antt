-- A text has one first wrong line.
use Rattle.std.proofs.Common.{◌≡◌, ℕ, ◌+◌, ◌<◌, ◌==◌, Bool, true, false, not, ◌&&◌, List, [], ◌∷◌, ◌++◌, length, refl, sym, ap, subst, ◌∙◌, arith, append_assoc}
use Rattle.std.specs.List.{list_all}
use Rattle.aol_cread.specs.Wrong.{BeginsProgram, IsLine, AreLines, in_front, IsFirstWrongLine}

abbrev Plain : List ℕ → Type 0
Plain xs = list_all (λ b. not (b == 10)) xs ≡ true

plain_head : (x : ℕ) (xs : List ℕ) → Plain (x ∷ xs) → x ≡ 10 → ⊥
plain_head x xs h e = absurd (grind (arith, h, e))

both_parts : (a b : Bool) → (a && b) ≡ true → b ≡ true
both_parts true b h = h
both_parts false b h = absurd (cc)

plain_tail : (x : ℕ) (xs : List ℕ) → Plain (x ∷ xs) → Plain xs
plain_tail x xs h = both_parts (not (x == 10)) (list_all (λ b. not (b == 10)) xs) h

-- a text has one first line, and one rest
one_cut : (xs ys r s : List ℕ) → Plain xs → Plain ys → xs ++ (10 ∷ r) ≡ ys ++ (10 ∷ s) → (xs ≡ ys) × (r ≡ s)
one_cut [] [] r s h k e = (refl, cc)
one_cut [] (y ∷ ys) r s h k e = let same : y ≡ 10 = cc in absurd (plain_head y ys k same)
one_cut (x ∷ xs) [] r s h k e = let same : x ≡ 10 = cc in absurd (plain_head x xs h same)
one_cut (x ∷ xs) (y ∷ ys) r s h k e =
    let same : x ≡ y = cc in let rest : xs ++ (10 ∷ r) ≡ ys ++ (10 ∷ s) = cc in
    let more = one_cut xs ys r s (plain_tail x xs h) (plain_tail y ys k) rest in
    let front : xs ≡ ys = more.0 in (cc, more.1)

-- a line and what comes after it
line_then : (l : List ℕ) (w : IsLine l) (r : List ℕ) → l ++ r ≡ w.body ++ (10 ∷ r)
line_then l w r = ap (λ z. z ++ r) w.whole ∙ append_assoc w.body (10 ∷ []) r

one_line : (l m r s : List ℕ) → IsLine l → IsLine m → l ++ r ≡ m ++ s → (l ≡ m) × (r ≡ s)
one_line l m r s w v e =
    let cut = one_cut w.body v.body r s w.plain v.plain (sym (line_then l w r) ∙ (e ∙ line_then m v s)) in
    (w.whole ∙ (ap (λ z. z ++ 10 ∷ []) cut.0 ∙ sym v.whole), cut.1)

in_front-append : (ls : List (List ℕ)) (r s : List ℕ) → in_front ls (r ++ s) ≡ in_front ls r ++ s
in_front-append [] r s = refl
in_front-append (l ∷ ls) r s = ap (λ z. l ++ z) (in_front-append ls r s) ∙ sym (append_assoc l (in_front ls r) s)

-- the next line of a text of which some lines were taken, where there are more lines
record NextLine (ls ms : List (List ℕ)) (r : List ℕ) : Type 0 where
  this : List ℕ
  is_line : IsLine this
  more : List ℕ
  left : r ≡ this ++ more
  tail : List ℕ
  same : in_front ms [] ≡ in_front ls (this ++ tail)

next_line : (ls ms : List (List ℕ)) (r s : List ℕ) → AreLines ls → AreLines ms → in_front ls r ≡ in_front ms s → length ls < length ms → NextLine ls ms r
next_line [] [] r s w v e h = absurd (omega (arith, h))
next_line [] (m ∷ ms) r s w v e h = record { this = m; is_line = v.0; more = in_front ms s; left = e; tail = in_front ms []; same = refl }
next_line (l ∷ ls) [] r s w v e h = absurd (omega (arith, h))
next_line (l ∷ ls) (m ∷ ms) r s w v e h =
    let cut = one_line l m (in_front ls r) (in_front ms s) w.0 v.0 e in
    let n = next_line ls ms r s w.1 v.1 cut.1 (omega (arith, h)) in
    record { this = n.this; is_line = n.is_line; more = n.more; left = n.left; tail = n.tail; same = ap (λ z. z ++ in_front ms []) (sym cut.0) ∙ ap (λ z. l ++ z) n.same }

begins_less : (front more : List ℕ) → BeginsProgram (front ++ more) → BeginsProgram front
begins_less front more b = record { program = b.program; formed = b.formed; rest = more ++ b.rest; whole = b.whole ∙ append_assoc front more b.rest }

not_before : (text : List ℕ) (k n : ℕ) → IsFirstWrongLine text k → IsFirstWrongLine text n → k < n → ⊥
not_before text k n w v h =
    let ck : length w.lines + 1 ≡ k = w.counted in let cn : length v.lines + 1 ≡ n = v.counted in
    let next = next_line w.lines v.lines w.rest v.rest w.whole v.whole (sym w.cut ∙ v.cut) (omega (arith, ck, cn, h)) in
    w.stops next.this next.more next.is_line next.left
    (begins_less (in_front w.lines next.this) next.tail (subst BeginsProgram (next.same ∙ in_front-append w.lines next.this next.tail) v.begins))

-- a text has no second first wrong line
pub one_wrong_line : (text : List ℕ) (k n : ℕ) → IsFirstWrongLine text k → IsFirstWrongLine text n → k ≡ n
one_wrong_line text k n w v =
    let p = not_before text k n w v in let q = not_before text n k v w in grind (arith, p, q)
