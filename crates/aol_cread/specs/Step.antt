-- One line read and taken.
use Rattle.std.specs.Prelude.{◌≡◌, ℕ, Bool, true, false, List, Option, Some, None, option_and_then, option_map}
use Rattle.aol_cread.specs.Lines.{read_line}
use Rattle.aol_cread.specs.States.{State, room_in}
use Rattle.aol_cread.specs.Next.{next}

-- the state after the next line, and the rest of the text
abbrev pub taken : State → List ℕ → Option (State × List ℕ)
taken s t = option_and_then (λ (l, r). option_map (λ u. (u, r)) (next s l)) (read_line (room_in s) t)

-- whether a program goes on with the next line, and what is known then
abbrev pub Takes : State → List ℕ → Bool → State → List ℕ → Type 0
Takes s t true u r = taken s t ≡ Some (u, r)
Takes s t false u r = taken s t ≡ None
