-- What schedules of a small net leave, by computation.
use Rattle.std.specs.Prelude.{◌≡◌, refl, zero, suc, List, [], ◌∷◌, pos}
use Rattle.aol_expr_tree.specs.declared.value.Val.TheVariants.{Num}
use Rattle.aol_flat.specs.Net.{Net, Memory}
use Rattle.aol_flat.specs.declared.view.Read.TheVariants.{Cell, Const}
use Rattle.aol_runner.specs.Schedule.{Event, Takes, Puts, after, after_levels, start}

-- two instances that pass on what they read: the first from cell 0 to cell 1, the second from there and from a default number to cells 2 and 3
abbrev two : Net
two = record { reads = (Cell 0 ∷ []) ∷ (Cell 1 ∷ Const (pos 9) ∷ []) ∷ []; writes = (1 ∷ []) ∷ (2 ∷ 3 ∷ []) ∷ []; gives = λ j taken. taken }

-- cell 0 holds 7
abbrev seven : Memory
seven zero = Num (pos 7)
seven (suc c) = Num (pos 0)

abbrev first : List Event
first = Takes 0 0 ∷ Puts 0 0 ∷ []

abbrev second : List Event
second = Takes 1 0 ∷ Puts 1 1 ∷ Puts 1 0 ∷ []

-- level by level the number comes to cell 2
two_passed : (after_levels two (start seven) (first ∷ second ∷ [])).memory 2 ≡ Num (pos 7)
two_passed = refl

-- a default number needs no event
two_default : (after_levels two (start seven) (first ∷ second ∷ [])).memory 3 ≡ Num (pos 9)
two_default = refl

-- nothing writes cell 0
two_kept : (after_levels two (start seven) (first ∷ second ∷ [])).memory 0 ≡ Num (pos 7)
two_kept = refl

-- a reader before its writer takes what the cell held at first
two_early : (after_levels two (start seven) (second ∷ first ∷ [])).memory 2 ≡ Num (pos 0)
two_early = refl

-- a write before the instance's reads puts what the machine had at first
two_hasty : (after two (start seven) (Puts 0 0 ∷ Takes 0 0 ∷ [])).memory 1 ≡ Num (pos 0)
two_hasty = refl
