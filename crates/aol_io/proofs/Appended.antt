-- What two writes in a row append.
use Rattle.std.proofs.Common.{◌≡◌, ℕ, ◌+◌, ◌-◌, ◌≤◌, List, ◌++◌, length, take, drop, Option, Some, None, sym, ◌∙◌, ap, subst, arith, append_assoc, take-add}
use Rattle.std.proofs.lemmas.List.{length-drop, take_all}
use Rattle.std.specs.Io.KnownBytes.{Appends}

-- the text from `at` on, as `&text[at..]` is seen
abbrev pub rest_of : List ℕ → ℕ → List ℕ
rest_of text at = take (length text - at) (drop at text)

rest_of_is : (text : List ℕ) (at : ℕ) → rest_of text at ≡ drop at text
rest_of_is text at = take_all (length text - at) (drop at text) (omega (arith, length-drop at text))

pub Appends-both : (old mid new : Option (List ℕ)) (xs ys : List ℕ) → Appends old mid xs → Appends mid new ys → Appends old new (xs ++ ys)
Appends-both None mid new xs ys p q = tt
Appends-both (Some a) None new xs ys p q = absurd p
Appends-both (Some a) (Some b) None xs ys p q = absurd q
Appends-both (Some a) (Some b) (Some c) xs ys p q = q ∙ ap (λ z. z ++ ys) p ∙ append_assoc a xs ys

pub appends_next : (old mid new : Option (List ℕ)) (text : List ℕ) (at n : ℕ) → Appends old mid (take at text) → Appends mid new (take n (rest_of text at)) → Appends old new (take (at + n) text)
appends_next old mid new text at n p q = subst (λ z. Appends old new z) (sym (take-add at n text))
    (Appends-both old mid new (take at text) (take n (drop at text)) p (subst (λ z. Appends mid new (take n z)) (rest_of_is text at) q))

pub next_within : (text : List ℕ) (at n : ℕ) → at ≤ length text → n ≤ length (rest_of text at) → at + n ≤ length text
next_within text at n p q = omega (arith, p, q, ap length (rest_of_is text at), length-drop at text)
