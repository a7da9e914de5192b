-- A `&` to a part is a `&` to each value that it holds.
use Prim.Native.Nat.{ℕ, ◌+◌}
use Rattle.std.specs.Prelude.{Bool, true, false, List, [], ◌∷◌, Option, Some, None}
use Rattle.std.specs.Mem.{type_size}
use seplogic.Ra.Ura.{Ura}
use base.Fml.{Lft, Incl, ftrue, ffalse}
use types.Logic.{Logic}
use denote.RattleType.{RattleType, RowLaws}
use denote.Param.Laws.{Laws}
use denote.RawPtr.{Ptr, block_ptr, null_ptr}
use denote.Sharing.{ShrLaws, said}
use denote.SharingLaws.{beside_shr_laws, nothing_shr_laws, said_shr_laws}
use denote.Shares.{Shares-less}
use denote.Struct.Lending.{Lends, Lends-both, Lends-nothing, Lends-said, Lends-false}
use Rattle.aol_scatter.specs.Ownership.{cell_owned, row, cell_lent, row_lent, fit, part_owns, part_lent}

module _ (R : RattleType) (L : RowLaws R) where
  cell_lent_laws : (b o : ℕ) (c : Option R.Denot) → ShrLaws (cell_lent R b o c)
  cell_lent_laws b o (Some x) = L x b o
  cell_lent_laws b o None = nothing_shr_laws

  row_lent_laws : (b o : ℕ) (cs : List (Option R.Denot)) → ShrLaws (row_lent R b o cs)
  row_lent_laws b o [] = nothing_shr_laws
  row_lent_laws b o (c ∷ cs) = beside_shr_laws _ _ (cell_lent_laws b o c) (row_lent_laws b (o + type_size R) cs)

  pub part_lent_laws : (p : Ptr) (cs : List (Option R.Denot)) → ShrLaws (part_lent R p cs)
  part_lent_laws (block_ptr b o) cs = beside_shr_laws _ _ (said_shr_laws (fit R cs) tt) (row_lent_laws b o cs)
  part_lent_laws null_ptr cs = said_shr_laws ffalse tt

module _ {M : Type 1} {𝓤 : Ura M} (𝓛 : Logic 𝓤) (l : Lft) (R : RattleType) (L : Laws R) (inc : Incl l R.lives) where
  Lends-cell : (b o : ℕ) (w : Bool) (c : Option R.Denot) → Lends 𝓛 (cell_owned R b o w c) (cell_lent R b o c) l
  Lends-cell b o w (Some x) = λ κ ts. Shares-less 𝓛 R R.lives l inc (L.shares 𝓛) x κ ts b o
  Lends-cell b o true None = Lends-nothing 𝓛 (cell_owned R b o true None) l
  Lends-cell b o false None = Lends-nothing 𝓛 ftrue l

  Lends-row : (b o : ℕ) (w : Bool) (cs : List (Option R.Denot)) → Lends 𝓛 (row R b o w cs) (row_lent R b o cs) l
  Lends-row b o w [] = Lends-nothing 𝓛 ftrue l
  Lends-row b o w (c ∷ cs) =
      Lends-both 𝓛 (cell_owned R b o w c) (row R b (o + type_size R) w cs) (cell_lent R b o c) (row_lent R b (o + type_size R) cs) l (Lends-cell b o w c) (Lends-row b (o + type_size R) w cs)

  pub Lends-part : (p : Ptr) (w : Bool) (cs : List (Option R.Denot)) → Lends 𝓛 (part_owns R p w cs) (part_lent R p cs) l
  Lends-part (block_ptr b o) w cs = Lends-both 𝓛 (fit R cs) (row R b o w cs) (said (fit R cs)) (row_lent R b o cs) l (Lends-said 𝓛 (fit R cs) tt l) (Lends-row b o w cs)
  Lends-part null_ptr w cs = Lends-false 𝓛 (said ffalse) l
