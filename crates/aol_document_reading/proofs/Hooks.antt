-- A text with a dot, and one without.
use Rattle.std.proofs.Common.{◌≡◌, ℕ, suc, cond, not, ◌||◌, ◌+◌, ◌<◌, List, [], ◌∷◌, length, Bool, true, false, Some, None, Bor, refl, arith, lit<}
use Rattle.std.specs.List.{list_any, position_or_len, before_first, after_first}
use Rattle.std.proofs.lemmas.Str.Pattern.{IsSplitOnceResult, split_once_first}
use Rattle.aol_model_types.specs.Reading.{is_dot}

some_dot-at : (d : Bool) (bs : List ℕ) → (position_or_len is_dot bs < length bs → list_any is_dot bs ≡ true) → cond (not d) (1 + position_or_len is_dot bs) 0 < suc (length bs) → (d || list_any is_dot bs) ≡ true
some_dot-at true bs next h = refl
some_dot-at false bs next h = next (omega arith)

some_dot : (bs : List ℕ) → position_or_len is_dot bs < length bs → list_any is_dot bs ≡ true
some_dot [] h = absurd (omega arith)
some_dot (b ∷ bs) h = some_dot-at (is_dot b) bs (some_dot bs) h

no_dot-at : (d : Bool) (bs : List ℕ) → (position_or_len is_dot bs ≡ length bs → list_any is_dot bs ≡ false) → cond (not d) (1 + position_or_len is_dot bs) 0 ≡ suc (length bs) → (d || list_any is_dot bs) ≡ false
no_dot-at true bs next h = absurd (omega arith)
no_dot-at false bs next h = next (omega arith)

no_dot : (bs : List ℕ) → position_or_len is_dot bs ≡ length bs → list_any is_dot bs ≡ false
no_dot [] h = refl
no_dot (b ∷ bs) h = no_dot-at (is_dot b) bs (no_dot bs) h

-- what splitting at the first dot gives
pub record IsSplit (bs front back : List ℕ) : Type 0 where
  pub dot : list_any is_dot bs ≡ true
  pub before : front ≡ before_first is_dot bs
  pub after : back ≡ after_first is_dot bs

pub split : (bs : List ℕ) (front back : Bor (List ℕ)) → IsSplitOnceResult 46 bs (Some (front, back)) → IsSplit bs front.now back.now
split bs front back h =
    let f = split_once_first 46 bs (Some (front, back)) h (lit< tt) in
    record { dot = some_dot bs f.0; before = f.1; after = f.2 }

pub unsplit : (bs : List ℕ) → IsSplitOnceResult 46 bs None → list_any is_dot bs ≡ false
unsplit bs h = no_dot bs (split_once_first 46 bs None h (lit< tt))
