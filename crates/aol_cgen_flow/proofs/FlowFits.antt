-- The numbers that are read from a settled memory have 64 bits.
use Rattle.std.specs.Prelude.{◌≡◌, ℕ, zero, suc, ◌+◌, ◌<◌, ◌≤◌, ◌⊎◌, ℤ, true, List, [], ◌∷◌, map, slice_get, Option, Some}
use Rattle.std.proofs.Common.{refl, sym, ap, subst, arith, ◌∙◌, inl, inr}
use Rattle.aol_shape.specs.Numbers.{fits_64}
use Rattle.aol_expr_tree.specs.declared.value.Val.{Val}
use Rattle.aol_flat.specs.InstanceValue.{number_of}
use Rattle.aol_flat.specs.Net.{Net, Memory, reads_at, writes_at, read_value, IsSettled}
use Rattle.aol_flat.specs.declared.view.Read.{Read}
use Rattle.aol_flat.specs.declared.view.Read.TheVariants.{Cell, Const}
use Rattle.aol_cinstance.proofs.Lists.{map_length}
use Rattle.aol_cgen_laws.specs.Emitted.{AreInputs, IsBelow}
use Rattle.aol_cgen_flow.proofs.Lists.{map_at}
use Rattle.aol_cgen_flow.specs.Flow.{HasFlow, ReadsFit, GivesFit, AllFit}

module _ (net : Net) (cells inputs : ℕ) (levels : List ℕ) (flow : HasFlow net cells inputs levels) (mem : Memory) (given : AreInputs inputs mem) (settled : IsSettled net mem) (gives : GivesFit net) where
  abbrev Fits : ℕ → Type 0
  Fits c = fits_64 (number_of (mem c)) ≡ true

  input_fits : (c : ℕ) → c < inputs → Fits c
  input_fits c low = let g = given c low in subst (λ x. fits_64 (number_of x) ≡ true) (sym g.1) g.2

  -- so do those that an instance takes, where what it reads does
  taken_fit : (j : ℕ) → ((k c : ℕ) → slice_get (reads_at net j) k ≡ Some (Cell c) → Fits c) → AllFit (map (read_value mem) (reads_at net j))
  taken_fit j h k x at = let r = map_at (read_value mem) (reads_at net j) k x at in subst (λ y. fits_64 (number_of y) ≡ true) r.2 (one k r.0 r.1)
    where
      one : (k : ℕ) (r : Read) → slice_get (reads_at net j) k ≡ Some r → fits_64 (number_of (read_value mem r)) ≡ true
      one k (Cell c) is = h k c is
      one k (Const n) is = flow.defaults j k n is

  -- one that a lower instance writes is one below more levels
  raised : (l n d : ℕ) → l ≤ n → IsBelow net levels l d → IsBelow net levels n d
  raised l n d le b = let low = b.below in record { instance = b.instance; place = b.place; own_level = b.own_level; at_level = b.at_level; below = omega (arith, low, le); writes = b.writes }

  below_fits : (n c : ℕ) → IsBelow net levels n c → Fits c
  below_fits zero c b = let low = b.below in absurd (omega (arith, low))
  below_fits (suc n) c b =
      let low = b.below in
      let le : b.own_level ≤ n = omega (arith, low) in
      gives b.instance (map (read_value mem) (reads_at net b.instance)) (map_length (read_value mem) (reads_at net b.instance))
      (taken_fit b.instance (λ k d is. elim (flow.below b.instance k d b.own_level is b.at_level) [ inl input ↦ input_fits d input | inr under ↦ below_fits n d (raised b.own_level n d le under) ])) b.place (mem c)
      (settled b.instance b.place c b.writes)

  pub reads_fit : ((j k : ℕ) (r : Read) → slice_get (reads_at net j) k ≡ Some r → (l : ℕ) × (slice_get levels j ≡ Some l)) → ReadsFit net mem
  reads_fit known j k c is = let l = known j k (Cell c) is in elim (flow.below j k c l.0 is l.1) [ inl low ↦ input_fits c low | inr b ↦ below_fits l.0 c b ]
