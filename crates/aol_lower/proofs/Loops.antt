-- What a `for` leaves, by what each turn leaves.
use Rattle.std.specs.Prelude.{◌≡◌, ℕ, zero, suc, ◌+◌, ◌<◌, ◌-◌, ℤ, pos, ◌+ℤ◌, List, length, Option, Some, option_and_then}
use Rattle.std.proofs.Common.{refl, sym, ap, subst, arith, ◌∙◌, add-one}
use Rattle.aol_csyn.specs.Tree.{Stmts, for_each}
use Rattle.aol_csyn.specs.Meaning.{State, with_var, turns, turn_count, run, run_all}
use Rattle.aol_lower.proofs.Steps.{put, put_runs}

-- a state that is reached, and what is known of it
pub record Reached (P : State → Type 0) (r : Option State) : Type 0 where
  pub end : State
  pub runs : r ≡ Some end
  pub known : P end

-- what is known before turn i, of the state in which the variable is not yet set
module _ (tables : List (List ℤ)) (k n : ℕ) (body : Stmts) (P : ℕ → State → Type 0) (room : (i : ℕ) (s : State) → P i s → k < length s.vars)
    (turn : (i : ℕ) (s : State) → i < n → P i s → Reached (P (suc i)) (run_all tables body (put k (pos i) s))) where
  more : (m i : ℕ) (s : State) → i + m ≡ n → P i s → Reached (P n) (turns m k (pos i) (run_all tables body) s)
  more zero i s e p = record { end = s; runs = refl; known = let same : i ≡ n = omega (arith, e) in subst (λ j. P j s) same p }
  more (suc m) i s e p =
      let one = turn i s (omega (arith, e)) p in
      let rest = more m (i + 1) one.end (omega (arith, e)) (subst (λ j. P j one.end) (sym (add-one i)) one.known) in
      record {
        end = rest.end;
        runs = ap (λ r. option_and_then (turns m k (pos i +ℤ pos 1) (run_all tables body)) (option_and_then (run_all tables body) r)) (put_runs k (pos i) s (room i s p))
            ∙ (ap (option_and_then (turns m k (pos i +ℤ pos 1) (run_all tables body))) one.runs ∙ rest.runs);
        known = rest.known;
      }

  -- the whole loop, which leaves its variable at the second bound
  pub loop : (s : State) → P 0 s → Reached (λ t. (u : State) × (t ≡ put k (pos n) u) × P n u) (run tables (for_each k (pos 0) (pos n) body) s)
  loop s p =
      let all = more n 0 s (omega arith) p in
      let gap : turn_count (pos 0) (pos n) ≡ n = no_less n in
      record {
        end = put k (pos n) all.end;
        runs = ap (λ m. option_and_then (with_var k (pos n)) (turns m k (pos 0) (run_all tables body) s)) gap
            ∙ (ap (option_and_then (with_var k (pos n))) all.runs ∙ put_runs k (pos n) all.end (room n all.end all.known));
        known = (all.end, refl, all.known);
      }
    where
      no_less : (n : ℕ) → n - 0 ≡ n
      no_less n = omega arith
