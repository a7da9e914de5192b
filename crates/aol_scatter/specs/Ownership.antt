-- What the parts of a block own and lend, where its cells are of the row R.
use Rattle.std.specs.Prelude.{ℕ, ◌+◌, ◌*◌, ◌^◌, Bool, true, false, List, [], ◌∷◌, length, Option, Some, None}
use Rattle.std.specs.Mem.{type_size}
use base.Fraction.{full_share}
use base.Fml.{Lft, Fml, ftrue, ffalse, fsep, flt, froom}
use mir.Syntax.{Ty, ty_array}
use mir.Raw.{raw}
use denote.RattleType.{RattleType}
use denote.Memory.{lone, part_at, shared_of}
use denote.Sharing.{nothing, said, beside}
use denote.RawPtr.{Ptr, block_ptr, null_ptr}

module _ (R : RattleType) where
  -- of a cell o bytes into the block b: its value, or where the part is fresh its room, or nothing
  abbrev pub cell_owned : ℕ → ℕ → Bool → Option R.Denot → Fml
  cell_owned b o w (Some x) = part_at R full_share x b o
  cell_owned b o true None = froom (raw (lone R.mir)) b o
  cell_owned b o false None = ftrue

  -- of cells side by side
  abbrev pub row : ℕ → ℕ → Bool → List (Option R.Denot) → Fml
  row b o w [] = ftrue
  row b o w (c ∷ cs) = fsep (cell_owned b o w c) (row b (o + type_size R) w cs)

  -- a `&` to the part lends a `&` to each value
  abbrev pub cell_lent : ℕ → ℕ → Option R.Denot → Lft → Fml
  cell_lent b o (Some x) = shared_of R x b o
  cell_lent b o None = nothing

  abbrev pub row_lent : ℕ → ℕ → List (Option R.Denot) → Lft → Fml
  row_lent b o [] = nothing
  row_lent b o (c ∷ cs) = beside (cell_lent b o c) (row_lent b (o + type_size R) cs)

  -- the cells take fewer than 2 ^ 63 bytes
  abbrev pub fit : List (Option R.Denot) → Fml
  fit cs = flt (length cs * type_size R) (2 ^ 63)

  abbrev pub part_owns : Ptr → Bool → List (Option R.Denot) → Fml
  part_owns (block_ptr b o) w cs = fsep (fit cs) (row b o w cs)
  part_owns null_ptr w cs = ffalse

  abbrev pub part_lent : Ptr → List (Option R.Denot) → Lft → Fml
  part_lent (block_ptr b o) cs = beside (said (fit cs)) (row_lent b o cs)
  part_lent null_ptr cs = said ffalse

  -- the allocator's token for a block of n cells
  abbrev pub deed_owns : (Ty → Ptr → Fml) → Ptr → ℕ → Fml
  deed_owns token p n = token (raw (ty_array (lone R.mir) n)) p
