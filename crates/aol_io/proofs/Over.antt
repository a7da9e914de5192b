-- One more byte written over a room.
use Rattle.std.proofs.Common.{◌≡◌, ℕ, suc, ◌+◌, ◌≤◌, ◌<◌, List, [], ◌∷◌, ◌++◌, length, take, drop, get_or, sym, ◌∙◌, ap, arith, append_assoc, drop-cons, add-one}
use Rattle.std.proofs.Math.ListN.{set}
use Rattle.std.proofs.Math.Seq.{set-append_seam, take-suc}
use Rattle.std.proofs.lemmas.List.{length-append, length-take-le}
use Rattle.aol_io.specs.Memory.{written_at}

pub over_next : (room piece : List ℕ) (place k : ℕ) → place + length piece ≤ length room → k < length piece → set (written_at room place (take k piece)) (place + k) (get_or piece k 0) ≡ written_at room place (take (k + 1) piece)
over_next room piece place k h i =
    let a : List ℕ = take place room in
    let t : List ℕ = take k piece in
    let b : ℕ = get_or piece k 0 in
    let rest : List ℕ = drop (suc (place + k)) room in
    let k-long : length t ≡ k = length-take-le k piece (omega arith) in
    let front : length (a ++ t) ≡ place + k = omega (arith, length-append a t, length-take-le place room (omega arith), k-long) in
    let next : take (k + 1) piece ≡ t ++ b ∷ [] = rw add-one (take-suc piece k 0 i) in
    let from : place + length (take (k + 1) piece) ≡ suc (place + k) = omega (arith, length-take-le (k + 1) piece (omega arith)) in
    ap (λ n. set (a ++ t ++ drop (place + n) room) (place + k) b) k-long
    ∙ ap (λ z. set (a ++ t ++ z) (place + k) b) (drop-cons room (place + k) 0 (omega arith))
    ∙ ap (λ n. set (a ++ t ++ (get_or room (place + k) 0 ∷ rest)) n b) (sym front)
    ∙ set-append_seam (a ++ t) (get_or room (place + k) 0) rest b
    ∙ sym (append_assoc (a ++ t) (b ∷ []) rest)
    ∙ ap (λ z. z ++ rest) (append_assoc a t (b ∷ []))
    ∙ ap (λ z. a ++ z ++ rest) (sym next)
    ∙ ap (λ n. a ++ take (k + 1) piece ++ drop n room) (sym from)
