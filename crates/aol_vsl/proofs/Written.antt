-- Members in braces, one after another.
use Rattle.std.proofs.Common.{◌≡◌, ℕ, suc, ◌+◌, ◌<◌, ◌≤◌, List, [], ◌∷◌, ◌++◌, length, take, get_or, map, cond, refl, sym, ◌∙◌, ap, arith, append_assoc}
use Rattle.std.proofs.lemmas.Bool.{ne_eqb}
use Rattle.std.proofs.lemmas.List.{take_more, map-append, take_all, length-map, length-take}
use Rattle.std.specs.List.{join_with_byte}
use Rattle.aol_vsl.specs.Text.{braced_text}
use Rattle.aol_vsl.specs.Writing.{separator}

-- members after an opening brace
abbrev pub opened : List (List ℕ) → List ℕ
opened ms = 123 ∷ join_with_byte 44 ms

separator_suc : (k : ℕ) → separator (suc k) ≡ 44 ∷ []
separator_suc k = let comma : List ℕ = 44 ∷ [] in ap (λ t. cond t [] comma) (ne_eqb (suc k) 0 (λ e. absurd (omega (arith, e))))

regrouped : (x j m : List ℕ) → x ++ 44 ∷ ((j ++ 44 ∷ []) ++ m) ≡ ((x ++ 44 ∷ j) ++ 44 ∷ []) ++ m
regrouped x j m = simp append_assoc

joined_more : (ms : List (List ℕ)) (m : List ℕ) → join_with_byte 44 (ms ++ m ∷ []) ≡ join_with_byte 44 ms ++ separator (length ms) ++ m
joined_more [] m = refl
joined_more (x ∷ []) m = sym (append_assoc x (44 ∷ []) m)
joined_more (x ∷ y ∷ ms) m =
    let j : List ℕ = join_with_byte 44 (y ∷ ms) in
    ap (λ bs. x ++ 44 ∷ bs) (joined_more (y ∷ ms) m)
    ∙ ap (λ s. x ++ 44 ∷ ((j ++ s) ++ m)) (separator_suc (length ms))
    ∙ regrouped x j m
    ∙ ap (λ s. ((x ++ 44 ∷ j) ++ s) ++ m) (sym (separator_suc (suc (length ms))))

behind_old : (old j s m : List ℕ) → old ++ 123 ∷ ((j ++ s) ++ m) ≡ ((old ++ 123 ∷ j) ++ s) ++ m
behind_old old j s m = simp append_assoc

-- one more member
pub opened_more : {X : Type 0} (f : X → List ℕ) (xs : List X) (i : ℕ) (d : X) (old : List ℕ) → i < length xs
    → old ++ opened (map f (take (i + 1) xs)) ≡ ((old ++ opened (map f (take i xs))) ++ separator i) ++ f (get_or xs i d)
opened_more {X} f xs i d old h =
    let ms : List (List ℕ) = map f (take i xs) in
    let n : length ms ≡ i = length-map (take i xs) f ∙ omega (arith, h, length-take i xs) in
    ap (λ ys. old ++ opened (map f ys)) (take_more xs i d h)
    ∙ ap (λ ys. old ++ opened ys) (map-append f (take i xs) (get_or xs i d ∷ []))
    ∙ ap (λ bs. old ++ 123 ∷ bs) (joined_more ms (f (get_or xs i d)))
    ∙ ap (λ k. old ++ 123 ∷ ((join_with_byte 44 ms ++ separator k) ++ f (get_or xs i d))) n
    ∙ behind_old old (join_with_byte 44 ms) (separator i) (f (get_or xs i d))

-- all members, and the closing brace
pub opened_all : {X : Type 0} (f : X → List ℕ) (xs : List X) (i : ℕ) (old : List ℕ) → length xs ≤ i → (old ++ opened (map f (take i xs))) ++ 125 ∷ [] ≡ old ++ braced_text (map f xs)
opened_all f xs i old h = ap (λ ys. (old ++ opened (map f ys)) ++ 125 ∷ []) (take_all i xs h) ∙ append_assoc old (opened (map f xs)) (125 ∷ [])
