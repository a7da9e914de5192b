-- What a read from memory gives.
use Rattle.std.proofs.Common.{◌≡◌, ℕ, ◌+◌, ◌-◌, ◌≤◌, List, ◌++◌, length, take, drop, sym, ◌∙◌, ap, arith}
use Rattle.std.proofs.lemmas.List.{length-drop, length-take, length-append, take_at, take-append-drop, drop-drop, drop_all, take_all}
use Rattle.aol_io.specs.Streams.{GivesNext}
use Rattle.aol_io.specs.Memory.{given, unread}

-- bytes that were copied from a slice to the front of a buffer
pub gives_next : (bytes into copied : List ℕ) (at piece n : ℕ) → at ≤ length bytes → 1 ≤ piece → n ≡ given bytes at piece (length into) → copied ≡ take n (take (length bytes - at) (drop at bytes))
    → GivesNext (unread bytes at) (unread bytes (at + n)) n (copied ++ drop n into)
gives_next bytes into copied at piece n within moves count e =
    let next : copied ≡ take n (drop at bytes) = e ∙ ap (take n) (take_all (length bytes - at) (drop at bytes) (omega (arith, length-drop at bytes))) in
    let front : length copied ≡ n = omega (arith, count, ap length next, length-take n (drop at bytes), length-drop at bytes) in
    let same : take n (copied ++ drop n into) ≡ take n (drop at bytes) = take_at copied (drop n into) n front ∙ next in (
      omega (arith, front, length-append copied (drop n into)),
      sym (take-append-drop n (drop at bytes)) ∙ ap (λ z. take n (drop at bytes) ++ z) (drop-drop n at bytes) ∙ ap (λ z. z ++ drop (at + n) bytes) (sym same),
      λ none some. drop_all (at + n) bytes (omega (arith, none, some, front, within, moves, count, length-append copied (drop n into), length-drop n into)),
    )
