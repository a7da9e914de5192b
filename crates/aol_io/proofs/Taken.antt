-- What a source gave in two reads in a row.
use Rattle.std.proofs.Common.{◌≡◌, ℕ, ◌+◌, ◌≤◌, List, ◌++◌, length, take, Option, arith}
use Rattle.std.proofs.KnownBytes.{Consumes-trans}
use Rattle.std.proofs.lemmas.List.{length-append, length-take-le}
use Rattle.std.specs.Io.KnownBytes.{Consumes}
use Rattle.aol_io.specs.Streams.{WasLong, TookAtMost}

module _ (old mid new : Option (List ℕ)) (bytes piece : List ℕ) (n limit : ℕ) (fits : n ≤ length piece) (first : Consumes old mid bytes) (second : Consumes mid new (take n piece)) where
  both_long : length (bytes ++ take n piece) ≡ length bytes + n
  both_long = omega (arith, length-append bytes (take n piece), length-take-le n piece fits)

  pub taken_past : length bytes + n ≡ limit + 1 → WasLong old new limit
  taken_past h = (bytes ++ take n piece, omega (arith, h, both_long), Consumes-trans old mid new bytes (take n piece) first second)

  pub taken_within : length bytes + n ≤ limit → TookAtMost old new limit
  taken_within h = (bytes ++ take n piece, omega (arith, h, both_long), Consumes-trans old mid new bytes (take n piece) first second)
