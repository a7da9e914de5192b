-- What operations give, one after another.
use Rattle.std.proofs.Common.{◌≡◌, ◌≢◌, ℕ, zero, suc, ◌+◌, ◌<◌, ◌≤◌, ℤ, pos, List, [], ◌∷◌, ◌++◌, length, take, get_or, set, Option, Some, Ok, refl, arith, ap, subst, ◌∙◌, sym, below_more, get_or-set_other, get_or-set_same, Result, Err, None, nat_abs, nat_lt, length-append, drop, drop-cons, get_or-drop, eqb, add-one, negsuc, ◌*◌, ◌+ℤ◌, ◌*ℤ◌, Bool, true, false, if◌then◌else◌}
use Rattle.std.specs.List.{slice_get}
use Rattle.std.specs.Option.{IfSome, IsSomeAnd}
use Rattle.aol_eval.specs.declared.program.Program.{Program}
use Rattle.std.proofs.lemmas.List.{take-set-le, drop_all}
use Rattle.std.proofs.lemmas.Option.{get_or_from_slice_get, slice_get_within}
use Rattle.aol_eval.specs.declared.program.Operand.{Operand}
use Rattle.aol_eval.specs.declared.program.Operand.TheVariants.{Given, Place, Number}
use Rattle.aol_eval.specs.declared.program.Operation.TheVariants.{Choose, Rank, Element}
use Rattle.aol_eval.specs.declared.program.Operation.TheVariants.{Add as Plus}
use Rattle.aol_eval.specs.declared.step.Step.{Step}
use Rattle.aol_expr_tree.specs.declared.op.ExprOp.{ExprOp}
use Rattle.aol_expr_tree.specs.declared.op.ExprOp.TheVariants.{Add}
use Rattle.aol_expr_tree.specs.declared.value.Kind.TheVariants.{Index}
use Rattle.aol_eval.specs.declared.program.Operation.{Operation}
use Rattle.aol_expr_tree.specs.declared.value.Kind.{Kind}
use Rattle.aol_expr_tree.specs.Meaning.{◌>>=◌, applied, is_zero, nth_number, summed}
use Rattle.aol_eval.specs.Programs.{element_after, next_rank, operand_value, operation_value, Follows, FollowsUpTo, IsKnown, Makes, Pushes, Computes, Yields}
use Rattle.aol_eval.specs.Resolved.{Plan, Plans, no_plans, plan_and, plan_of, plans_of, run, element_at, operation, choice, series}
use Rattle.aol_eval.specs.Places.{rank_on}
use Rattle.aol_eval.proofs.Evaluation.{sum-more}
use Rattle.aol_eval.proofs.LaneSteps.{read_on, read_on-more}
use Rattle.aol_eval.proofs.Places.{nth_number_get}

-- what was given before is still given
nth-set-other : (given : List ℤ) (k j : ℕ) (z : ℤ) → j ≢ k → nth_number (set given k z) j ≡ nth_number given j
nth-set-other given k j z other = rw (nth_number_get (set given k z) j, nth_number_get given j) (rw get_or-set_other refl)

nth-set-same : (given : List ℤ) (k : ℕ) (z : ℤ) → k < length given → nth_number (set given k z) k ≡ z
nth-set-same given k z inside = rw (nth_number_get (set given k z) k) (rw get_or-set_same refl)

-- one more operation
pub follows-more : (operations : List Operation) (nums : List ℤ) (at : List ℕ) (given : List ℤ) (k : ℕ) (o : Operation) (z : ℤ)
    → FollowsUpTo k operations nums at given → k < length given → operation_value nums at (take k given) (get_or operations k o) ≡ Ok z
    → FollowsUpTo (k + 1) operations nums at (set given k z)
follows-more operations nums at given k o z before inside gives j p below found =
    below_more (λ i. (q : Operation) → slice_get operations i ≡ Some q → operation_value nums at (take i (set given k z)) q ≡ Ok (nth_number (set given k z) i)) k
    (λ i h q got. let other : i ≢ k = omega arith in
    let lower : i ≤ k = omega arith in
    rw (take-set-le i given k z lower, nth-set-other given k i z other) (before i q h got))
    (λ q got. let own : k ≤ k = omega arith in
    rw (take-set-le k given k z own, nth-set-same given k z inside) (rw (get_or_from_slice_get operations k q o got) at gives))
    j below p found

-- all of them
pub follows-all : (operations : List Operation) (nums : List ℤ) (at : List ℕ) (given : List ℤ) (k : ℕ)
    → FollowsUpTo k operations nums at given → length operations ≤ k → Follows operations nums at given
follows-all operations nums at given k before all j o found =
    before j o (let inside = slice_get_within operations j o found in omega arith) found

-- what is known stays known
pub known-more : (n m : ℕ) (o : Operand) → n ≤ m → IsKnown n o → IsKnown m o
known-more n m (Number z) more known = tt
known-more n m (Place k) more known = tt
known-more n m (Given k) more known = omega arith

-- numbers given earlier
nth-take : (given : List ℤ) (n k : ℕ) → k < n → nth_number (take n given) k ≡ nth_number given k
nth-take [] zero k below = absurd (omega arith)
nth-take [] (suc n) k below = refl
nth-take (z ∷ zs) zero k below = absurd (omega arith)
nth-take (z ∷ zs) (suc n) zero below = refl
nth-take (z ∷ zs) (suc n) (suc k) below = nth-take zs n k (omega arith)

-- an operand that is known has its number among the first that are given
pub value-take : (nums : List ℤ) (given : List ℤ) (n : ℕ) (o : Operand) → IsKnown n o → operand_value nums (take n given) o ≡ operand_value nums given o
value-take nums given n (Number z) known = refl
value-take nums given n (Place k) known = refl
value-take nums given n (Given k) known = nth-take given n k known

-- an element in front of others
get-front : (xs ys : List Operation) (k : ℕ) (o : Operation) → slice_get xs k ≡ Some o → slice_get (xs ++ ys) k ≡ Some o
get-front [] ys k o found = absurd (cc)
get-front (x ∷ xs) ys zero o found = found
get-front (x ∷ xs) ys (suc k) o found = get-front xs ys k o found

get-last : (xs : List Operation) (o : Operation) → slice_get (xs ++ o ∷ []) (length xs) ≡ Some o
get-last [] o = refl
get-last (x ∷ xs) o = get-last xs o

-- one operation more gives its value
pub pushes-makes : (old new : List Operation) (o : Operation) (operand : Operand) (computed : List ℤ → List ℕ → List ℤ → Result ℤ Kind)
    → ((nums : List ℤ) (at : List ℕ) (given : List ℤ) → operation_value nums at (take (length old) given) o ≡ computed nums at given)
    → Pushes old new o operand → Makes old new computed operand
pushes-makes old new o operand computed same pushed = rw (pushed.0, pushed.1) (record {
  longer = rw length-append (omega arith);
  kept = λ k q found. get-front old (o ∷ []) k q found;
  known = rw length-append (omega arith);
  value = λ nums at given follows. sym (same nums at given) ∙ follows (length old) o (get-last old o);
})

-- an operation that is there gives its value
pub makes-given : (old : List Operation) (n : ℕ) (o : Operation) (computed : List ℤ → List ℕ → List ℤ → Result ℤ Kind)
    → ((nums : List ℤ) (at : List ℕ) (given : List ℤ) → operation_value nums at (take n given) o ≡ computed nums at given) → slice_get old n ≡ Some o → Makes old old computed (Given n)
makes-given old n o computed same found = record {
  longer = omega arith;
  kept = λ k q there. there;
  known = slice_get_within old n o found;
  value = λ nums at given follows. sym (same nums at given) ∙ follows n o found;
}

-- nothing more is needed
pub makes-now : (old : List Operation) (computed : List ℤ → List ℕ → List ℤ → Result ℤ Kind) (operand : Operand) → IsKnown (length old) operand
    → ((nums : List ℤ) (at : List ℕ) (given : List ℤ) → computed nums at given ≡ Ok (operand_value nums given operand)) → Makes old old computed operand
makes-now old computed operand known is = record { longer = omega arith; kept = λ k o found. found; known = known; value = λ nums at given follows. is nums at given }

-- the operations of one part, then of a next one that goes on with its operand
pub makes-then : (a b c : List Operation) (f g h : List ℤ → List ℕ → List ℤ → Result ℤ Kind) (p q : Operand) → Makes a b f p → Makes b c g q
    → ((nums : List ℤ) (at : List ℕ) (given : List ℤ) → f nums at given ≡ Ok (operand_value nums given p) → g nums at given ≡ Ok (operand_value nums given q) → h nums at given ≡ Ok (operand_value nums given q))
    → Makes a c h q
makes-then a b c f g h p q first second both = record {
  longer = let one = first.longer in let two = second.longer in omega arith;
  kept = λ k o found. second.kept k o (first.kept k o found);
  known = second.known;
  value = λ nums at given follows. both nums at given (first.value nums at given (λ k o found. follows k o (second.kept k o found))) (second.value nums at given follows);
}

-- a number behind the first so many
nth-drop : (nums : List ℤ) (start k : ℕ) → nth_number (drop start nums) k ≡ nth_number nums (start + k)
nth-drop nums start k = rw (nth_number_get (drop start nums) k, nth_number_get nums (start + k)) (get_or-drop start nums k (pos 0))

-- the rank of the indices so far, and what is left to read
pub record MakesRank (old new : List Operation) (vars : List ℤ) (shape : Option (List ℕ)) (start : ℕ) (indices : Plans) (rank : Operand) (entries : List ℕ) (left : Plans) : Type 0 where
  pub longer : length old ≤ length new
  pub kept : (k : ℕ) (o : Operation) → slice_get old k ≡ Some o → slice_get new k ≡ Some o
  pub known : IsKnown (length new) rank
  pub above : (nums : List ℤ) (at : List ℕ) (given : List ℤ) → Follows new nums at given → operand_value nums given rank ≡ pos (nat_abs (operand_value nums given rank))
  pub reads : (nums : List ℤ) (at : List ℕ) (given : List ℤ) → Follows new nums at given
      → run nums at vars (element_at shape start indices) ≡ read_on nums at vars start entries (nat_abs (operand_value nums given rank)) left

-- what follows longer operations follows the shorter ones
abbrev follows-kept : {old new : List Operation} {f : List ℤ → List ℕ → List ℤ → Result ℤ Kind} {s : Operand} → Makes old new f s → (nums : List ℤ) (at : List ℕ) (given : List ℤ) → Follows new nums at given → Follows old nums at given
follows-kept makes nums at given follows k o found = follows k o (makes.kept k o found)

-- an operator at two operands that are known
pub pushes-apply : (old new : List Operation) (o : Operation) (op : ExprOp) (l r s : Operand)
    → ((nums : List ℤ) (at : List ℕ) (given : List ℤ) → operation_value nums at given o ≡ applied op (operand_value nums given l) (operand_value nums given r))
    → IsKnown (length old) l → IsKnown (length old) r → Pushes old new o s → Makes old new (λ nums at given. applied op (operand_value nums given l) (operand_value nums given r)) s
pushes-apply old new o op l r s same left right pushed =
    pushes-makes old new o s _ (λ nums at given. same nums at (take (length old) given) ∙ rw (value-take nums given (length old) l left, value-take nums given (length old) r right) refl) pushed

-- a rank with one more index
pub pushes-rank : (old new : List Operation) (entry : ℕ) (l r s : Operand) → IsKnown (length old) l → IsKnown (length old) r → Pushes old new (Rank l entry r) s
    → Makes old new (λ nums at given. next_rank entry (operand_value nums given l) (operand_value nums given r)) s
pushes-rank old new entry l r s left right pushed =
    pushes-makes old new (Rank l entry r) s _ (λ nums at given. rw (value-take nums given (length old) l left, value-take nums given (length old) r right) refl) pushed

-- an element
pub pushes-element : (old new : List Operation) (start entry : ℕ) (l r s : Operand) → IsKnown (length old) l → IsKnown (length old) r → Pushes old new (Element start l entry r) s
    → Makes old new (λ nums at given. element_after start nums entry (operand_value nums given l) (operand_value nums given r)) s
pushes-element old new start entry l r s left right pushed =
    pushes-makes old new (Element start l entry r) s _ (λ nums at given. rw (value-take nums given (length old) l left, value-take nums given (length old) r right) refl) pushed

-- what came first was no fault either
then_ok : (r : Result ℤ Kind) (f : ℤ → Result ℤ Kind) (z : ℤ) → (r >>= f) ≡ Ok z → (w : ℤ) × (r ≡ Ok w) × (f w ≡ Ok z)
then_ok (Ok w) f z is = (w, refl, is)
then_ok (Err k) f z is = absurd (cc)

-- a number and no fault
abbrev fine : ℤ → Result ℤ Kind
fine z = Ok z

module _ (vars : List ℤ) where
  -- what a plan computes
  abbrev pub of_plan : Plan → List ℤ → List ℕ → List ℤ → Result ℤ Kind
  of_plan plan nums at given = run nums at vars plan

  -- an operator at two plans
  pub makes-operation : (a b c d : List Operation) (op : ExprOp) (l r : Plan) (p q s : Operand) → Makes a b (of_plan l) p → Makes b c (of_plan r) q
      → Makes c d (λ nums at given. applied op (operand_value nums given p) (operand_value nums given q)) s → Makes a d (of_plan (operation op l r)) s
  makes-operation a b c d op l r p q s one two three = record {
    longer = omega (arith, one.longer, two.longer, three.longer);
    kept = λ k o found. three.kept k o (two.kept k o (one.kept k o found));
    known = three.known;
    value = λ nums at given follows.
        let in_c = follows-kept three nums at given follows in
        let in_b = follows-kept two nums at given in_c in
        rw (one.value nums at given in_b, two.value nums at given in_c) (three.value nums at given follows);
  }

  -- a choice
  pub makes-choice : (a b c d e : List Operation) (condition l r : Plan) (p q s t : Operand) → Makes a b (of_plan condition) p → Makes b c (of_plan l) q → Makes c d (of_plan r) s
      → Pushes d e (Choose p q s) t → Makes a e (of_plan (choice condition l r)) t
  makes-choice a b c d e condition l r p q s t one two three pushed =
      let known_p = known-more (length b) (length d) p (omega (arith, two.longer, three.longer)) one.known in
      let known_q = known-more (length c) (length d) q three.longer two.known in
      let four : Makes d e (λ nums at given. Ok (if is_zero (operand_value nums given p) then operand_value nums given s else operand_value nums given q)) t
      = pushes-makes d e (Choose p q s) t _ (λ nums at given. rw (value-take nums given (length d) p known_p, value-take nums given (length d) q known_q, value-take nums given (length d) s three.known) refl) pushed in
      record {
        longer = omega (arith, one.longer, two.longer, three.longer, four.longer);
        kept = λ k o found. four.kept k o (three.kept k o (two.kept k o (one.kept k o found)));
        known = four.known;
        value = λ nums at given follows.
            let in_d = follows-kept four nums at given follows in
            let in_c = follows-kept three nums at given in_d in
            let in_b = follows-kept two nums at given in_c in
            rw (one.value nums at given in_b, two.value nums at given in_c, three.value nums at given in_d)
            (either (is_zero (operand_value nums given p)) (operand_value nums given q) (operand_value nums given s) ∙ four.value nums at given follows);
      }
    where
      either : (zero : Bool) (x y : ℤ) → (if zero then fine y else fine x) ≡ fine (if zero then y else x)
      either true x y = refl
      either false x y = refl

  -- a choice whose condition is known
  pub makes-otherwise : (a b c : List Operation) (condition l r : Plan) (z : ℤ) (s : Operand) → Makes a b (of_plan condition) (Number z) → is_zero z ≡ true → Makes b c (of_plan r) s → Makes a c (of_plan (choice condition l r)) s
  makes-otherwise a b c condition l r z s one none two = record {
    longer = omega (arith, one.longer, two.longer);
    kept = λ k o found. two.kept k o (one.kept k o found);
    known = two.known;
    value = λ nums at given follows. rw (one.value nums at given (follows-kept two nums at given follows), none) (two.value nums at given follows);
  }

  pub makes-taken : (a b c : List Operation) (condition l r : Plan) (z : ℤ) (s : Operand) → Makes a b (of_plan condition) (Number z) → is_zero z ≡ false → Makes b c (of_plan l) s → Makes a c (of_plan (choice condition l r)) s
  makes-taken a b c condition l r z s one some two = record {
    longer = omega (arith, one.longer, two.longer);
    kept = λ k o found. two.kept k o (one.kept k o found);
    known = two.known;
    value = λ nums at given follows. rw (one.value nums at given (follows-kept two nums at given follows), some) (two.value nums at given follows);
  }

  -- one more term of a sum
  pub makes-term : (a b c d : List Operation) (term : Plan) (k : ℕ) (p q s : Operand) → Makes a b (λ nums at given. summed (λ z. run nums at (z ∷ vars) term) k) p
      → Makes b c (λ nums at given. run nums at (pos k ∷ vars) term) q → Pushes c d (Plus p q) s → Makes a d (λ nums at given. summed (λ z. run nums at (z ∷ vars) term) (k + 1)) s
  makes-term a b c d term k p q s one two pushed =
      let three = pushes-apply c d (Plus p q) Add p q s (λ nums at given. refl) (known-more (length b) (length c) p two.longer one.known) two.known pushed in
      record {
        longer = omega (arith, one.longer, two.longer, three.longer);
        kept = λ i o found. three.kept i o (two.kept i o (one.kept i o found));
        known = three.known;
        value = λ nums at given follows.
            let in_c = follows-kept three nums at given follows in
            let in_b = follows-kept two nums at given in_c in
            sum-more (λ z. run nums at (z ∷ vars) term) k _ _ _ (one.value nums at given in_b) (two.value nums at given in_c) (sym (three.value nums at given follows));
      }

  -- all terms
  pub makes-sum : (a b : List Operation) (term : Plan) (k terms : ℕ) (s : Operand) → k ≡ terms → Makes a b (λ nums at given. summed (λ z. run nums at (z ∷ vars) term) k) s → Makes a b (of_plan (series terms term)) s
  makes-sum a b term k terms s all so_far = subst (λ n. Makes a b (of_plan (series n term)) s) all so_far

  -- a rank with one more index is that of the element
  ranks-on : (entry r : ℕ) (z w : ℤ) → next_rank entry (pos r) z ≡ Ok w
      → (w ≡ pos (nat_abs w)) × ((others : List ℕ) (more : List ℤ) → rank_on (entry ∷ others) r (z ∷ more) ≡ rank_on others (nat_abs w) more)
  ranks-on entry r (negsuc i) w is = absurd (cc)
  ranks-on entry r (pos i) w is =
      elim (nat_lt i entry) as (λ b. (if b then Ok (pos r *ℤ pos entry +ℤ pos i) else Err Index) ≡ Ok w
      → (w ≡ pos (nat_abs w)) × ((others : List ℕ) (more : List ℤ) → (if b then rank_on others (r * entry + i) more else None) ≡ rank_on others (nat_abs w) more))
      [ true ↦ λ e. (let same : pos (r * entry + i) ≡ w = cc in rw (← same) (refl, λ others more. refl)) | false ↦ λ e. absurd (cc) ] is

  -- one more index
  pub makes-index : (a b c d : List Operation) (shape : Option (List ℕ)) (start : ℕ) (indices : Plans) (entry : ℕ) (entries rest : List ℕ) (plan : Plan) (all left : Plans) (p q s : Operand)
      → MakesRank a b vars shape start indices p entries all → entries ≡ entry ∷ rest → all ≡ plan_and plan left → Makes b c (of_plan plan) q
      → Makes c d (λ nums at given. next_rank entry (operand_value nums given p) (operand_value nums given q)) s
      → MakesRank a d vars shape start indices s rest left
  makes-index a b c d shape start indices entry entries rest plan all left p q s one split more two three = record {
    longer = omega (arith, one.longer, two.longer, three.longer);
    kept = λ k o found. three.kept k o (two.kept k o (one.kept k o found));
    known = three.known;
    above = λ nums at given follows. (on nums at given follows).0;
    reads = λ nums at given follows.
        let in_c = follows-kept three nums at given follows in
        let in_b = follows-kept two nums at given in_c in
        one.reads nums at given in_b
        ∙ rw (split, more) (read_on-more nums at vars start entry rest _ _ plan left _ (two.value nums at given in_c) (on nums at given follows).1);
  }
    where
      on : (nums : List ℤ) (at : List ℕ) (given : List ℤ) → Follows d nums at given
          → (operand_value nums given s ≡ pos (nat_abs (operand_value nums given s)))
          × ((others : List ℕ) (more : List ℤ) → rank_on (entry ∷ others) (nat_abs (operand_value nums given p)) (operand_value nums given q ∷ more) ≡ rank_on others (nat_abs (operand_value nums given s)) more)
      on nums at given follows =
          let in_b = follows-kept two nums at given (follows-kept three nums at given follows) in
          ranks-on entry (nat_abs (operand_value nums given p)) (operand_value nums given q) (operand_value nums given s)
          (ap (λ z. next_rank entry z (operand_value nums given q)) (sym (one.above nums at given in_b)) ∙ three.value nums at given follows)

  -- the last index
  pub makes-element : (a b c d : List Operation) (shape : Option (List ℕ)) (start : ℕ) (indices : Plans) (entry : ℕ) (entries rest : List ℕ) (plan : Plan) (all left : Plans) (p q s : Operand)
      → MakesRank a b vars shape start indices p entries all → entries ≡ entry ∷ rest → rest ≡ [] → all ≡ plan_and plan left → left ≡ no_plans → Makes b c (of_plan plan) q
      → Makes c d (λ nums at given. element_after start nums entry (operand_value nums given p) (operand_value nums given q)) s
      → Makes a d (of_plan (element_at shape start indices)) s
  makes-element a b c d shape start indices entry entries rest plan all left p q s one split none more no_more two three = record {
    longer = omega (arith, one.longer, two.longer, three.longer);
    kept = λ k o found. three.kept k o (two.kept k o (one.kept k o found));
    known = three.known;
    value = λ nums at given follows.
        let in_c = follows-kept three nums at given follows in
        let in_b = follows-kept two nums at given in_c in
        let r = nat_abs (operand_value nums given p) in
        let z = operand_value nums given q in
        let given_three : element_after start nums entry (pos r) z ≡ Ok (operand_value nums given s)
        = ap (λ v. element_after start nums entry v z) (sym (one.above nums at given in_b)) ∙ three.value nums at given follows in
        let w = then_ok (next_rank entry (pos r) z) (λ v. Ok (nth_number nums (start + nat_abs v))) (operand_value nums given s) given_three in
        one.reads nums at given in_b
        ∙ rw (split, more) (read_on-more nums at vars start entry rest r _ plan left z (two.value nums at given in_c) (ranks-on entry r z w.0 w.1).1
        ∙ rw (none, no_more) (ap Ok (nth-drop nums start (nat_abs w.0)) ∙ w.2));
  }

  -- an element without indices
  pub makes-scalar : (a : List Operation) (shape : Option (List ℕ)) (entries : List ℕ) (start : ℕ) (indices : Plans) → shape ≡ Some entries → entries ≡ [] → indices ≡ no_plans → Makes a a (of_plan (element_at shape start indices)) (Place start)
  makes-scalar a shape entries start indices is none no_more = rw (is, none, no_more) (makes-now a (of_plan (element_at (Some []) start no_plans)) (Place start) tt
      (λ nums at given. let e : start + 0 ≡ start = omega arith in ap Ok (nth-drop nums start 0 ∙ ap (nth_number nums) e)))

-- the plans of the steps that are left
pub plans-left : (steps : List Step) (k : ℕ) (step : Step) → k < length steps → step ≡ get_or steps k step → plans_of (drop k steps) ≡ plan_and (plan_of step) (plans_of (drop (k + 1) steps))
plans-left steps k step below is = rw (drop-cons steps k step, ← is, add-one) refl

-- none is left
pub none-left : (steps : List Step) (k : ℕ) → length steps ≤ k → plans_of (drop k steps) ≡ no_plans
none-left steps k all = rw (drop_all k steps all) refl

-- no entry
pub no-entry : (entries : List ℕ) → true ≡ eqb (length entries) 0 → entries ≡ []
no-entry [] none = refl
no-entry (n ∷ entries) none = absurd (first_of (cc, grind arith))

-- what a program yields that computes the plan
pub by_program : (program : Option Program) (plan : Plan) (nums : List ℤ) (at : List ℕ) (z : ℤ) → IfSome program (Computes plan) → IsSomeAnd program (λ p. Yields p nums at z) → run nums at [] plan ≡ Ok z
by_program (Some program) plan nums at z computes yields = computes nums at z yields
by_program None plan nums at z computes yields = absurd yields
