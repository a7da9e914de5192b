-- The tilers that are made, by the lists that the code reads.
use Rattle.std.proofs.Common.{◌≡◌, ℕ, ◌≤◌, ℤ, pos, List, ◌++◌, length, map, take, replicate, ap, arith, ◌+◌, length-append}
use Rattle.std.proofs.lemmas.List.{length-map}
use Rattle.aol_shape.specs.Vectors.{plus_columns}
use Rattle.aol_tiler.specs.Matrices.{TilerOf}
use Rattle.aol_tiler.specs.Tiler.{composed, blocked, substituted, scaled}
use Rattle.aol_tiler.proofs.Extends.{zeros_taken, length_scaled}

-- what a matrix makes of vectors, from a front of the zeros
abbrev pub mapped : List ℤ → List (List ℤ) → List (List ℤ) → List (List ℤ)
mapped start columns vectors = map (plus_columns (take (length start) (replicate 12 (pos 0))) columns) vectors

pub composed_is : (outer inner : TilerOf) (start o : List ℤ) (columns P Q F : List (List ℤ)) → length start ≤ 12 → start ≡ outer.origin → columns ≡ outer.fitting → o ≡ inner.origin → P ≡ outer.paving → Q ≡ inner.paving → F ≡ inner.fitting
    → composed outer inner ≡ record { origin = plus_columns start columns o; paving = P ++ mapped start columns Q; fitting = mapped start columns F }
composed_is outer inner start o columns P Q F short e f g h k l =
    let few : length outer.origin ≤ 12 = omega (arith, short, ap (length {A = ℤ}) e) in
    rw (e, f, g, h, k, l, zeros_taken outer.origin few)

pub blocked_is : (t : TilerOf) (block ns : List ℕ) (start : List ℤ) (P Q F : List (List ℤ)) → start ≡ t.origin → P ≡ t.paving → ns ≡ block → Q ≡ t.paving → F ≡ t.fitting
    → blocked t block ≡ record { origin = start; paving = scaled P ns; fitting = Q ++ F }
blocked_is t block ns start P Q F e f g h k = rw (e, f, g, h, k)

pub substituted_is : (t by : TilerOf) (start o : List ℤ) (columns P H F : List (List ℤ)) → length start ≤ 12 → start ≡ t.origin → columns ≡ t.paving → o ≡ by.origin → P ≡ by.paving → H ≡ by.fitting → F ≡ t.fitting
    → substituted t by ≡ record { origin = plus_columns start columns o; paving = mapped start columns P; fitting = mapped start columns H ++ F }
substituted_is t by start o columns P H F short e f g h k l =
    let few : length t.origin ≤ 12 = omega (arith, short, ap (length {A = ℤ}) e) in
    rw (e, f, g, h, k, l, zeros_taken t.origin few)

-- room for the columns that are made
length_mapped : (start : List ℤ) (columns Q : List (List ℤ)) → length (mapped start columns Q) ≡ length Q
length_mapped start columns Q = length-map Q (plus_columns (take (length start) (replicate 12 (pos 0))) columns)

pub room_both : (P P' F F' : List (List ℤ)) → P ≡ P' → F ≡ F' → length P' + length F' ≤ 12 → length (P ++ F) ≤ 12
room_both P P' F F' e f h = omega (arith, h, length-append P F, ap (length {A = List ℤ}) e, ap (length {A = List ℤ}) f)

pub room_front : (start : List ℤ) (columns P P' Q Q' : List (List ℤ)) → P ≡ P' → Q ≡ Q' → length P' + length Q' ≤ 12 → length (P ++ mapped start columns Q) ≤ 12
room_front start columns P P' Q Q' e f h =
    omega (arith, h, length-append P (mapped start columns Q), length_mapped start columns Q, ap (length {A = List ℤ}) e, ap (length {A = List ℤ}) f)

pub room_back : (start : List ℤ) (columns Q Q' F F' : List (List ℤ)) → Q ≡ Q' → F ≡ F' → length Q' + length F' ≤ 12 → length (mapped start columns Q ++ F) ≤ 12
room_back start columns Q Q' F F' e f h =
    omega (arith, h, length-append (mapped start columns Q) F, length_mapped start columns Q, ap (length {A = List ℤ}) e, ap (length {A = List ℤ}) f)

pub room_mapped : (start : List ℤ) (columns Q Q' : List (List ℤ)) → Q ≡ Q' → length Q' ≤ 12 → length (mapped start columns Q) ≤ 12
room_mapped start columns Q Q' e h = omega (arith, h, length_mapped start columns Q, ap (length {A = List ℤ}) e)

pub room_scaled : (P P' : List (List ℤ)) (ns : List ℕ) → P ≡ P' → length P' ≤ 12 → length (scaled P ns) ≤ 12
room_scaled P P' ns e h = omega (arith, h, length_scaled P ns, ap (length {A = List ℤ}) e)
