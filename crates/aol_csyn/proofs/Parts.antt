-- Statements one after another.
use Rattle.std.specs.Prelude.{◌≡◌, ℤ, List, [], ◌∷◌, ◌++◌, Option, Some, None, option_and_then}
use Rattle.std.proofs.Common.{refl}
use Rattle.aol_csyn.specs.Tree.{Stmt, stmts}
use Rattle.aol_csyn.specs.Meaning.{State, run, run_all}
use Rattle.aol_csyn.specs.Laws.{PartsFollow}

after_one : (f g h : State → Option State) → ((s : State) → f s ≡ option_and_then g (h s)) → (r : Option State) → option_and_then f r ≡ option_and_then g (option_and_then h r)
after_one f g h same None = refl
after_one f g h same (Some s) = same s

pub parts_follow : PartsFollow
parts_follow tables [] rest s = refl
parts_follow tables (st ∷ first) rest s =
    after_one (run_all tables (stmts (first ++ rest))) (run_all tables (stmts rest)) (run_all tables (stmts first)) (λ t. parts_follow tables first rest t) (run tables st s)
