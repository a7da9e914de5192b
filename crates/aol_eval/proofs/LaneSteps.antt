-- Reads and sums in lanes, step by step.
use Rattle.std.proofs.Common.{◌≡◌, ℕ, suc, ◌+◌, ◌<◌, ℤ, pos, ◌+ℤ◌, add-zero, add-one, List, [], ◌∷◌, length, drop, get_or, Result, Ok, Err, refl, ap, sym, ◌∙◌, arith, Bool, true, false, if◌then◌else◌}
use Rattle.std.specs.Bool.{OnTrue}
use Rattle.aol_expr_tree.specs.declared.value.Kind.{Kind}
use Rattle.aol_expr_tree.specs.Meaning.{◌>>=◌, checked, is_zero, summed}
use Rattle.aol_eval.specs.Lanes.{Gives, added_up}
use Rattle.aol_eval.specs.Places.{number_at, rank_on}
use Rattle.aol_eval.specs.Resolved.{Plan, Plans, plan_and, run, run_all}
use Rattle.aol_eval.proofs.Evaluation.{then_same, with_front, fault-stays}

-- the number at a rank so far, with the entries and the indices that are left
abbrev pub read_on : List ℤ → List ℕ → List ℤ → ℕ → List ℕ → ℕ → Plans → Result ℤ Kind
read_on nums at vars start entries rank ps = run_all nums at vars ps >>= (λ is. number_at (drop start nums) (rank_on entries rank is))

-- one more index
pub read_on-more : (nums : List ℤ) (at : List ℕ) (vars : List ℤ) (start entry : ℕ) (rest : List ℕ) (rank next : ℕ) (p : Plan) (ps : Plans) (z : ℤ)
    → run nums at vars p ≡ Ok z → ((others : List ℕ) (more : List ℤ) → rank_on (entry ∷ others) rank (z ∷ more) ≡ rank_on others next more)
    → read_on nums at vars start (entry ∷ rest) rank (plan_and p ps) ≡ read_on nums at vars start rest next ps
read_on-more nums at vars start entry rest rank next p ps z is same =
    rw is (with_front (run_all nums at vars ps) z (λ at. number_at (drop start nums) (rank_on (entry ∷ rest) rank at))
    ∙ then_same (run_all nums at vars ps) _ _ (λ at. ap (number_at (drop start nums)) (same rest at)))

-- what follows from a fact follows where it holds
pub on_true-map : {P Q : Type 0} (b : Bool) → (P → Q) → OnTrue b P → OnTrue b Q
on_true-map true f p = f p
on_true-map false f p = tt

module _ (f g h : ℤ → Result ℤ Kind) (from : ℕ) (conditions zs : List ℤ) (long : length conditions ≡ length zs) (given : Gives f from conditions) where
  -- a choice whose condition is 0 in no lane
  pub gives-then : ((i : ℕ) → i < length conditions → is_zero (get_or conditions i (pos 0)) ≡ false) → Gives g from zs → Gives (λ k. f k >>= (λ z. if is_zero z then h k else g k)) from zs
  gives-then none taken i below =
      let inside : i < length conditions = omega arith in
      rw (given i inside, none i inside) (taken i below)

  -- and one whose condition is 0 in each
  pub gives-otherwise : ((i : ℕ) → i < length conditions → is_zero (get_or conditions i (pos 0)) ≡ true) → Gives h from zs → Gives (λ k. f k >>= (λ z. if is_zero z then h k else g k)) from zs
  gives-otherwise all taken i below =
      let inside : i < length conditions = omega arith in
      rw (given i inside, all i inside) (taken i below)

-- the numbers of consecutive lanes added in order
pub added-summed : (f : ℤ → Result ℤ Kind) (zs : List ℤ) (from : ℕ) (s : ℤ) → summed f from ≡ Ok s → Gives f from zs → added_up s zs ≡ summed f (from + length zs)
added-summed f [] from s so_far gives = rw add-zero (sym so_far)
added-summed f (z ∷ zs) from s so_far gives = more (checked (s +ℤ z)) one (λ t is. added-summed f zs (from + 1) t is later) ∙ ap (summed f) long
  where
    here : f (pos from) ≡ Ok z
    here = let e : from ≡ from + 0 = omega arith in ap (λ n. f (pos n)) e ∙ gives 0 (omega arith)

    one : summed f (from + 1) ≡ checked (s +ℤ z)
    one = rw (add-one, so_far, here) refl

    long : from + 1 + length zs ≡ from + length (z ∷ zs)
    long = omega arith

    later : Gives f (from + 1) zs
    later i below = let e : from + 1 + i ≡ from + suc i = omega arith in ap (λ n. f (pos n)) e ∙ gives (suc i) (omega arith)

    more : (r : Result ℤ Kind) → summed f (from + 1) ≡ r → ((t : ℤ) → summed f (from + 1) ≡ Ok t → added_up t zs ≡ summed f (from + 1 + length zs)) → (r >>= (λ m. added_up m zs)) ≡ summed f (from + 1 + length zs)
    more (Ok t) is again = again t is
    more (Err k) is again = sym (fault-stays f (from + 1) k (length zs) is)
