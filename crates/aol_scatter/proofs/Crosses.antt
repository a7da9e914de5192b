-- A part may cross threads as its values may, and a deed as its allocator may.
use Rattle.std.specs.Prelude.{ℕ, ◌+◌, Bool, true, false, List, [], ◌∷◌, Option, Some, None}
use Rattle.std.specs.Mem.{type_size}
use base.Fraction.{full_share}
use base.Shift.{Keyless}
use denote.RattleType.{RattleType}
use denote.RawPtr.{Ptr, block_ptr, null_ptr}
use denote.Struct.Struct.{exits_of}
use denote.Struct.Owning.{shape, fields, to}
use denote.Param.Send.{IsSend, IsSync, Common, AllSend, part_keyless, owning_send, struct_send, struct_sync, sendable}
use Rattle.std.specs.declared.alloc.Allocator.{Ghosts}
use Rattle.std_alloc.proofs.SendSync.{FreesAnywhere, quiet}
use Rattle.aol_scatter.specs.Ownership.{row, row_lent, part_owns, part_lent}
use Rattle.aol_scatter.specs.contracts.part.Part as Part
use Rattle.aol_scatter.specs.contracts.part.Deed as Deed

module _ (R : RattleType) where
  row-Keyless : IsSend R → (b o : ℕ) (w : Bool) (cs : List (Option R.Denot)) → Keyless (row R b o w cs)
  row-Keyless s b o w [] = tt
  row-Keyless s b o w (Some x ∷ cs) = (part_keyless R s full_share x b o, row-Keyless s b (o + type_size R) w cs)
  row-Keyless s b o true (None ∷ cs) = (tt, row-Keyless s b (o + type_size R) true cs)
  row-Keyless s b o false (None ∷ cs) = (tt, row-Keyless s b (o + type_size R) false cs)

  row_lent-Common : IsSync R → (b o : ℕ) (cs : List (Option R.Denot)) → Common (row_lent R b o cs)
  row_lent-Common y b o [] κ = tt
  row_lent-Common y b o (Some x ∷ cs) κ = (y.shared x b o κ, row_lent-Common y b (o + type_size R) cs κ)
  row_lent-Common y b o (None ∷ cs) κ = (tt, row_lent-Common y b (o + type_size R) cs κ)

  part-Keyless : IsSend R → (p : Ptr) (w : Bool) (cs : List (Option R.Denot)) → Keyless (part_owns R p w cs)
  part-Keyless s (block_ptr b o) w cs = (tt, row-Keyless s b o w cs)
  part-Keyless s null_ptr w cs = tt

  part_lent-Common : IsSync R → (p : Ptr) (cs : List (Option R.Denot)) → Common (part_lent R p cs)
  part_lent-Common y (block_ptr b o) cs κ = (tt, row_lent-Common y b o cs κ)
  part_lent-Common y null_ptr cs κ = tt

  pub Part-send : IsSend R → IsSend (Part.the_row R)
  Part-send s =
      let O = Part.the_type R in let all : AllSend (fields O) = (search sendable, tt) in
      owning_send O all (λ d. part-Keyless s d.at d.fresh d.cells) (λ k. quiet (to O) (exits_of k (fields O)) ((struct_send (shape O) all).leaving k))

  pub Part-sync : IsSync R → IsSync (Part.the_row R)
  Part-sync y = let O = Part.the_type R in record { shared = λ d b o κ. ((struct_sync (shape O) (search sendable, tt)).shared (to O d) b o κ, part_lent-Common y d.at d.cells κ) }

  module _ (A : RattleType) (g : Ghosts A.Denot) where
    pub Deed-send : FreesAnywhere A.Denot g → IsSend (Deed.the_row R A g)
    Deed-send f =
        let O = Deed.the_type R A g in let all : AllSend (fields O) = (search sendable, tt) in
        owning_send O all (λ d. f.frees d.alloc _ d.at) (λ k. quiet (to O) (exits_of k (fields O)) ((struct_send (shape O) all).leaving k))

    pub Deed-sync : IsSync (Deed.the_row R A g)
    Deed-sync = let O = Deed.the_type R A g in record { shared = λ d b o κ. ((struct_sync (shape O) (search sendable, tt)).shared (to O d) b o κ, tt) }
