-- Shares that are settled one after another, from the last on.
use Rattle.std.proofs.Common.{◌≡◌, ℕ, ◌+◌, ◌<◌, ◌≤◌, ◌⊎◌, List, [], ◌∷◌, ◌++◌, zero, suc, map, length, take, get_or, Option, Some, None, Bool, true, false, cond, refl, sym, ap, ◌∙◌, subst, arith, All, Contains}
use Rattle.std.proofs.lemmas.List.{get_or-take, take_more, take-append-le, length-append, length-take-le, get_or-append-add, get_or-map, length-map}
use Rattle.std.proofs.lemmas.List.Elements.{All-contains}
use Rattle.std.proofs.Math.Seq.{take-length}
use mathlib.Core.Logic.{◌≢◌, inl, inr}
use Rattle.std.proofs.lemmas.Bool.{cases_eq, false≢true}
use Rattle.aol_scatter.specs.Cells.{is_listed, AreApart, cell, IsHeld, without}
use Rattle.aol_scatter.proofs.Places.{without_at, contained, listed_at}

pub not_both : (ks ls : List ℕ) (k : ℕ) → AreApart ks ls → Contains ls k → ¬ Contains ks k
not_both ks ls k apart there here = All-contains (λ l. k ≢ l) ls k (All-contains (λ j. All (λ l. j ≢ l) ls) ks k apart here) there refl

-- a map is as it was, where it is at each number of the list
kept : {Y : Type 0} (f g : ℕ → Y) (ks : List ℕ) → ((k : ℕ) → Contains ks k → f k ≡ g k) → map f ks ≡ map g ks
kept f g [] same = refl
kept f g (n ∷ ns) same = ap (λ y. y ∷ map f ns) (same n (0, omega arith, refl)) ∙ ap (λ l. g n ∷ l) (kept f g ns (λ k at. same k (suc at.0, omega (arith, at.1), at.2)))

-- a cell that no share of the list has stays held
pub claimed_held : {X : Type 0} (cs : List (Option X)) (ks : List ℕ) (k : ℕ) → is_listed k ks ≡ false → IsHeld cs k → IsHeld (without ks cs) k
claimed_held cs ks k out held = (held.0, without_at ks cs k ∙ ap (λ t. cond t None (cell cs k)) out ∙ held.1)

some_at : {X : Type 0} (vs : List X) (j : ℕ) → j < length vs → (x : X) × (get_or (map Some vs) j None ≡ Some x)
some_at [] j lt = absurd (omega arith)
some_at (v ∷ vs) zero lt = (v, refl)
some_at (v ∷ vs) (suc j) lt = some_at vs j (omega arith)

-- at the beginning every cell is held
pub begun_held : {X : Type 0} (xs : List X) (cs : List (Option X)) → cs ≡ map Some xs → (k : ℕ) → k < length xs → IsHeld cs k
begun_held xs cs e k lt = let it = some_at xs k lt in (it.0, ap (λ l. get_or l k None) e ∙ it.1)

-- after a settlement a cell is held that was, or that the share had
pub settled_held : {X : Type 0} (old new : List (Option X)) (ks : List ℕ) (vs : List X) → map (λ k. cell new k) ks ≡ map Some vs → ((k : ℕ) → ¬ Contains ks k → cell new k ≡ cell old k)
    → (k : ℕ) → (is_listed k ks ≡ false → IsHeld old k) → IsHeld new k
settled_held old new ks vs here others k else = goes (is_listed k ks) refl
  where
    goes : (t : Bool) → is_listed k ks ≡ t → IsHeld new k
    goes true e = let at = contained k ks e in let j = at.0 in
        let it = some_at vs j (omega (arith, at.1, sym (length-map ks (λ i. cell new i)) ∙ ap length here ∙ length-map vs Some)) in
        (it.0, ap (λ i. cell new i) (sym at.2) ∙ sym (get_or-map (λ i. cell new i) ks j k None at.1) ∙ ap (λ l. get_or l j None) here ∙ it.1)
    goes false e = let held = else e in (held.0, others k (λ at. false≢true (sym e ∙ listed_at k ks at)) ∙ held.1)

-- the list `cur` is the front of `all`, and its last element is x
module _ {X : Type 0} (all cur rest : List X) (x : X) (ends : cur ≡ rest ++ x ∷ []) (starts : cur ≡ take (length cur) all) (long : length cur ≤ length all) where
  pub one_more : length cur ≡ length rest + 1
  one_more = ap length ends ∙ length-append rest (x ∷ [])

  pub last_at : (d : X) → get_or all (length rest) d ≡ x
  last_at d =
      let m = length rest in let lt : m < length cur = omega (arith, one_more) in let flat : m + 0 ≡ m = omega arith in
      sym (get_or-take (length cur) all m d lt) ∙ ap (λ l. get_or l m d) (sym starts ∙ ends) ∙ ap (λ i. get_or (rest ++ x ∷ []) i d) (sym flat) ∙ get_or-append-add rest (x ∷ []) 0 d

  pub before_it : rest ≡ take (length rest) all
  before_it =
      let m = length rest in let small : m ≤ length all = omega (arith, one_more, long) in let tall : length (take m all) ≡ m = length-take-le m all small in
      let front : take m cur ≡ rest = ap (λ l. take m l) ends ∙ take-append-le m rest (x ∷ []) (omega arith) ∙ take-length rest in
      let again : take m cur ≡ take m all = ap (λ l. take m l) (starts ∙ ap (λ i. take i all) one_more ∙ take_more all m x (omega (arith, one_more, long)))
      ∙ take-append-le m (take m all) (get_or all m x ∷ []) (omega (arith, tall)) ∙ ap (λ i. take i (take m all)) (sym tall) ∙ take-length (take m all) in
      sym front ∙ again

-- x is the m-th of all, and g is f but at the cells of x, where it has x's values: if f has those of the later ones, g has them all
module _ {X Y : Type 0} (cells : X → List ℕ) (values : X → List Y) (f g : ℕ → Option Y) (all : List X) (m : ℕ) (x : X) (at : (d : X) → get_or all m d ≡ x)
    (here : map g (cells x) ≡ map Some (values x)) (others : (k : ℕ) → ¬ Contains (cells x) k → g k ≡ f k)
    (apart : (w : ℕ) (d : X) → m < w → w < length all → AreApart (cells x) (cells (get_or all w d)))
    (before : (w : ℕ) (d : X) → m + 1 ≤ w → w < length all → map f (cells (get_or all w d)) ≡ map Some (values (get_or all w d))) where
  pub after : (w : ℕ) (d : X) → m ≤ w → w < length all → map g (cells (get_or all w d)) ≡ map Some (values (get_or all w d))
  after w d le lt = goes (cases_eq w m)
    where
      goes : (w ≡ m) ⊎ (w ≡ m → ⊥) → map g (cells (get_or all w d)) ≡ map Some (values (get_or all w d))
      goes (inl e) = subst (λ y. map g (cells y) ≡ map Some (values y)) (sym (ap (λ i. get_or all i d) e ∙ at d)) here
      goes (inr ne) = let y = get_or all w d in kept g f (cells y) (λ k there. others k (not_both (cells x) (cells y) k (apart w d (omega (arith, le, ne)) lt) there)) ∙ before w d (omega (arith, le, ne)) lt
