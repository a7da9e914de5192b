-- From each state that the reader of expressions reaches, some bytes lead to an end.
use Rattle.std.proofs.Common.{ℕ, List, [], ◌∷◌, Option, Some, refl}
use Rattle.aol_shape.specs.declared.limit.LimitName.{LimitName}
use Rattle.aol_shape.proofs.Stuck.{Leads}
use Rattle.aol_expr_tree.specs.declared.op.ExprOp.{ExprOp}
use Rattle.aol_expr_tree.specs.declared.part.Part.{Part}
use Rattle.aol_expr_tree.specs.declared.reader.Waiting.{Waiting}
use Rattle.aol_expr_tree.specs.declared.reader.Bracket.{Bracket}
use Rattle.aol_expr_tree.specs.declared.reader.Bracket.TheVariants.{Parens, Indices, First, Second, Condition, Chosen, Other, Term}
use Rattle.aol_expr_tree.specs.declared.reader.Level.{Level}
use Rattle.aol_expr_tree.specs.declared.reader.Held.{Held}
use Rattle.aol_expr_tree.specs.declared.reader.Mode.{Mode}
use Rattle.aol_expr_tree.specs.declared.reader.Mode.TheVariants.{Operand, Whole}
use Rattle.aol_expr_tree.specs.Reading.{recognizer, step, stepped, after_operand, left, closed, braced, continued, next_argument, begun, new_index, in_index, finished, whole}

-- what is held
abbrev pub held_by : ℕ → Option (ℕ × LimitName) → List Level → Waiting → ℕ → Held
held_by place passed levels waiting around = record { place = place; passed = passed; levels = levels; waiting = waiting; around = around }

-- with these brackets open and in this mode, whatever else is held, the bytes lead to an end
abbrev pub From : List Level → Mode → List ℕ → Type 0
From ls m more = (place : ℕ) (passed : Option (ℕ × LimitName)) (waiting : Waiting) (around : ℕ)
    → Leads recognizer (Some (record { held = held_by place passed ls waiting around; mode = m })) more

-- after a whole operand
abbrev pub FromWhole : List Level → List ℕ → Type 0
FromWhole ls more = (p : Part) → From ls (Whole p) more

-- an operand, and then these bytes
abbrev pub operand : List ℕ → List ℕ
operand more = 36 ∷ 48 ∷ 48 ∷ more

pub from_operand : (ls : List Level) (more : List ℕ) → FromWhole ls more → From ls Operand (operand more)
unfolding step stepped begun new_index in_index
from_operand ls more f place passed waiting around = f _ _ _ _ _

-- what closes a bracket after an argument, and then these bytes
abbrev closing : Bracket → List ℕ → List ℕ
closing Parens more = 41 ∷ more
closing (Indices r) more = 125 ∷ more
closing (First op) more = 44 ∷ operand (41 ∷ more)
closing (Second op l) more = 41 ∷ more
closing Condition more = 44 ∷ operand (44 ∷ operand (41 ∷ more))
closing (Chosen c) more = 44 ∷ operand (41 ∷ more)
closing (Other c a) more = 41 ∷ more
closing (Term x n) more = 41 ∷ more

-- what closes all brackets
abbrev pub closing_all : List Level → List ℕ
closing_all [] = []
closing_all (l ∷ ls) = closing l.bracket (closing_all ls)

-- the bracket is open
abbrev pub level : Bracket → Waiting → ℕ → Level
level k w a = record { bracket = k; waiting = w; around = a }

module _ (ls : List Level) (more : List ℕ) (f : FromWhole ls more) where
  second_closes : (op : ExprOp) (l : Part) (w : Waiting) (a : ℕ) → FromWhole (level (Second op l) w a ∷ ls) (41 ∷ more)
  unfolding step stepped after_operand left closed
  second_closes op l w a p place passed waiting around = f _ _ _ _ _

  other_closes : (c b : Part) (w : Waiting) (a : ℕ) → FromWhole (level (Other c b) w a ∷ ls) (41 ∷ more)
  unfolding step stepped after_operand left closed
  other_closes c b w a p place passed waiting around = f _ _ _ _ _

  chosen_closes : (c : Part) (w : Waiting) (a : ℕ) → FromWhole (level (Chosen c) w a ∷ ls) (44 ∷ operand (41 ∷ more))
  unfolding step stepped after_operand continued next_argument
  chosen_closes c w a p place passed waiting around = from_operand (level (Other c _) w a ∷ ls) (41 ∷ more) (other_closes c _ w a) _ _ _ _

  bracket_closes : (k : Bracket) (w : Waiting) (a : ℕ) → FromWhole (level k w a ∷ ls) (closing k more)
  unfolding step stepped after_operand left closed braced continued next_argument
  bracket_closes Parens w a p place passed waiting around = f _ _ _ _ _
  bracket_closes (Indices r) w a p place passed waiting around = f _ _ _ _ _
  bracket_closes (First op) w a p place passed waiting around = from_operand (level (Second op _) w a ∷ ls) (41 ∷ more) (second_closes op _ w a) _ _ _ _
  bracket_closes (Second op l) w a p place passed waiting around = f _ _ _ _ _
  bracket_closes Condition w a p place passed waiting around = from_operand (level (Chosen _) w a ∷ ls) (44 ∷ operand (41 ∷ more)) (chosen_closes _ w a) _ _ _ _
  bracket_closes (Chosen c) w a p place passed waiting around = chosen_closes c w a p place passed waiting around
  bracket_closes (Other c b) w a p place passed waiting around = f _ _ _ _ _
  bracket_closes (Term x n) w a p place passed waiting around = f _ _ _ _ _

-- after a whole operand some bytes close all brackets
pub whole_leads : (ls : List Level) → FromWhole ls (closing_all ls)
unfolding finished stepped after_operand whole
whole_leads [] p place passed waiting around = refl
whole_leads (l ∷ ls) p place passed waiting around = bracket_closes ls (closing_all ls) (whole_leads ls) l.bracket l.waiting l.around p place passed waiting around

pub operand_leads : (ls : List Level) → From ls Operand (operand (closing_all ls))
operand_leads ls = from_operand ls (closing_all ls) (whole_leads ls)
