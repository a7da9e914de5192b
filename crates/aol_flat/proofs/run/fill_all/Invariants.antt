use Rattle.std.proofs.Common.{◌≡◌, ℕ, ◌<◌, ◌≤◌, length, get_or}
use Rattle.aol_flat.specs.declared.route.Route.{Route}
use Rattle.aol_flat.specs.Run.{HoldsAt, IsMovedTo}
use Rattle.aol_flat.proofs.run.fill_all.Given as goal

-- the routes before are filled, and the others are as they were
abbrev pub invariant-loop-k : goal.invariant-loop-k
invariant-loop-k l = record {
  some : 0 < l.run;
  most : l.run ≤ l.most;
  form : (j : ℕ) (d : Route) → j < l.k → IsMovedTo l.at (get_or l.fn.routes j d) (get_or l.routes j d);
  rest : (j : ℕ) (d : Route) → l.k ≤ j → get_or l.routes j d ≡ get_or l.fn.routes j d;
  run : (i j : ℕ) (d : Route) → i < l.run → j < l.k → HoldsAt i l.at (get_or l.fn.routes j d) (get_or l.routes j d);
}
