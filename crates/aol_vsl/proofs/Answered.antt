-- An answer that reading gives is right where reading is.
use Rattle.std.proofs.Common.{◌≡◌, ℕ, List, Result, Ok, Err, subst}
use Rattle.aol_shape.specs.Grammar.{Grammar, TextFault, at, limit, Reads}
use Rattle.aol_vsl.specs.Answers.{Gives, IsRightBy}
use Rattle.aol_vsl.specs.declared.refused.VslRefused.{VslRefused}
use Rattle.aol_vsl.specs.declared.refused.VslRefused.TheVariants.{At, Limit, NoMemory}

pub right_of : {W V : Type 0} (g : Grammar W V) (text : List ℕ) (r : Result V VslRefused) (read : Result V TextFault) → Gives r read → Reads g text read → IsRightBy g text r
right_of g text (Ok v) read e h = subst (Reads g text) e h
right_of g text (Err (At byte)) read e h = subst (Reads g text) e h
right_of g text (Err (Limit byte passed)) read e h = subst (Reads g text) e h
right_of g text (Err NoMemory) read e h = tt
