-- From each state that the reader of expressions reaches, some bytes lead to an end.
use Rattle.std.proofs.Common.{◌≡◌, ℕ, List, Some, subst, length}
use Rattle.std.proofs.lemmas.Bool.{lt-ltb}
use Rattle.aol_shape.specs.Machine.{behind}
use Rattle.aol_shape.proofs.Stuck.{Leads}
use Rattle.aol_expr_tree.specs.declared.reader.Waiting.{Waiting}
use Rattle.aol_expr_tree.specs.declared.reader.Level.{Level}
use Rattle.aol_expr_tree.specs.declared.reader.Mode.{Mode}
use Rattle.aol_expr_tree.specs.declared.reader.Mode.TheVariants.{AfterWord}
use Rattle.aol_expr_tree.specs.declared.reader.Reader.{Reader}
use Rattle.aol_expr_tree.specs.Reading.{recognizer}
use Rattle.aol_expr_grammar.proofs.States.{IsRead, Fits}
use Rattle.aol_expr_grammar.proofs.LiveModes.{HasRoom, mode_leads}
use Rattle.aol_expr_grammar.proofs.Sound.{read_fits}

-- a word that is read has room for its bracket
has_room : (ls : List Level) (w : Waiting) (m : Mode) (f : List ℕ) → IsRead ls w m f → HasRoom ls m
has_room ls w (AfterWord k) f r = lt-ltb (length ls) 100 r.0.room
has_room ls w m f r = tt

pub live : (front : List ℕ) (r : Reader) → behind recognizer (Some recognizer.start) front ≡ Some r → (more : List ℕ) × Leads recognizer (Some r) more
live front r e = mode_leads r.held r.mode (has_room r.held.levels r.held.waiting r.mode front (subst (λ o. Fits o front) e (read_fits front)))
