-- The bound names that a chain holds.
use Rattle.std.specs.Prelude.{ℕ, List, [], ◌∷◌}
use Rattle.aol_expr_tree.specs.declared.names.Bound.{Bound}
use Rattle.aol_expr_tree.specs.declared.names.Bound.TheOpen.{Bound-F}
use Rattle.aol_expr_tree.specs.declared.names.Bound.TheFolds.{fold-Bound}

-- one bound name, with those around it already seen as names
abbrev pub level_names : Bound-F (List (List ℕ)) → List (List ℕ)
level_names Bound-F.Nothing = []
level_names (Bound-F.Name x outer) = x.now ∷ outer.now

-- the bound names, the innermost first
abbrev pub names_of : Bound → List (List ℕ)
names_of = fold-Bound (List (List ℕ)) level_names
