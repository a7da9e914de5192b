-- How a cell holds a value: a number stands in V beside 0 in F, and a fault has 0 in V and its mark in F.
use Rattle.std.specs.Prelude.{ℕ, zero, suc, ◌+◌, ◌*◌, ℤ, pos, List, [], ◌∷◌, take, sum, slice_set}
use Rattle.aol_expr_tree.specs.declared.value.Site.{Site}
use Rattle.aol_expr_tree.specs.declared.value.Val.{Val}
use Rattle.aol_expr_tree.specs.declared.value.Val.TheVariants.{Num, Bad}
use Rattle.aol_lower.specs.Effect.{kind_number}
use Rattle.aol_csyn.specs.Puts.{Cell, of_v, of_f}

-- how many output points come before a port of a task, by the sizes of the output ports of each elementary task
abbrev pub points_before : List (List ℕ) → ℕ → ℕ → ℕ
points_before [] task port = 0
points_before (ports ∷ tasks) zero port = sum (take port ports)
points_before (ports ∷ tasks) (suc task) port = sum ports + points_before tasks task port

-- a fault's number: that of its kind, from 1 on, and 4 for each output point of an elementary task before its own
abbrev pub mark : List (List ℕ) → Site → ℤ
mark sizes s = pos (kind_number s.kind + 4 * (points_before sizes s.task s.port + s.point))

-- what stands in F for a value
abbrev pub mark_of : List (List ℕ) → Val → ℤ
mark_of sizes (Num z) = pos 0
mark_of sizes (Bad s) = mark sizes s

-- a list with these numbers put at these places, one after another
abbrev pub set_all : List ℤ → List ℕ → List ℤ → List ℤ
set_all xs [] zs = xs
set_all xs (c ∷ cs) [] = xs
set_all xs (c ∷ cs) (z ∷ zs) = set_all (slice_set xs c z) cs zs

-- the places of V and F that some cells are
abbrev pub both : List ℕ → List Cell
both [] = []
both (c ∷ cs) = of_v c ∷ of_f c ∷ both cs
