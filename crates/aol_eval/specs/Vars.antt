-- The variables that a chain holds.
use Rattle.std.specs.Prelude.{ℕ, ℤ, List, [], ◌∷◌}
use Rattle.aol_eval.specs.declared.vars.Vars.{Vars}
use Rattle.aol_eval.specs.declared.vars.Vars.TheOpen.{Vars-F}
use Rattle.aol_eval.specs.declared.vars.Vars.TheFolds.{fold-Vars}

-- one binding, with those around it already seen as pairs
abbrev pub level_vars : Vars-F (List (List ℕ × ℤ)) → List (List ℕ × ℤ)
level_vars Vars-F.Unbound = []
level_vars (Vars-F.Bound x z outer) = (x.now, z) ∷ outer.now

-- each variable with its value, the innermost first
abbrev pub vars_of : Vars → List (List ℕ × ℤ)
vars_of = fold-Vars (List (List ℕ × ℤ)) level_vars
