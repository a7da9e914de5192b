-- What is known of the statements of an expression that are as they are defined.
use Rattle.std.specs.Prelude.{◌≡◌, ℕ, ◌+◌, ◌*◌, ◌<◌, ◌≤◌, ◌^◌, pos, true, List, [], ◌∷◌, ◌++◌, Result, Ok, Err, IfOk}
use Rattle.std.proofs.Common.{sym, subst, ap, arith, ◌∙◌}
use Rattle.std.proofs.lemmas.Option.{slice_get_within}
use Rattle.aol_expr_tree.specs.declared.port.Port.{Port}
use Rattle.aol_expr_tree.specs.declared.value.Width.{Width}
use Rattle.aol_expr_tree.specs.Meaning.{◌>>=◌, value}
use Rattle.aol_expr_tree.specs.Tree.{Tree, IsExpr, depth}
use Rattle.aol_csyn.specs.Tree.{Stmt}
use Rattle.aol_lower.specs.declared.reads.Reads.{Reads}
use Rattle.aol_lower.specs.Contract.{AreFormed, AreWellFormed, FirstIsFormed, FittedAreFormed, LeaveFirst, LeaveFitted, LeaveValue, TestWidths, TestsAreFormed}
use Rattle.aol_lower.specs.Effect.{Leaves}
use Rattle.aol_lower.specs.Lowered.{guard, lowered, then_do}
use Rattle.aol_lower.specs.Ports.{fitted, all_hold, Tests, width_test, ports_test, first_mark, first_fault, LeavesMark}
use Rattle.aol_lower.proofs.Expressions.{lowered_leaves_the_value}
use Rattle.aol_lower.proofs.Formed.{Shaped, Low, none_low, deeper, then_formed, lowered_formed}
use Rattle.aol_lower.proofs.Marks.{mark_leaves}
use Rattle.aol_lower.proofs.PortsFormed.{width_formed, widths_formed, first_formed}
use Rattle.aol_lower.proofs.Rooms.{some_room}
use Rattle.aol_lower.proofs.Spelled.{expr_small}
use Rattle.aol_lower.proofs.Steps.{follow_leaves}
use Rattle.aol_lower.proofs.PortTests.{width_leaves, ports_leave}

pub if_ok_map : {A E : Type 0} {P Q : A → Type 0} (r : Result A E) → ((x : A) → P x → Q x) → IfOk r P → IfOk r Q
if_ok_map (Ok x) f h = f x h
if_ok_map (Err e) f h = h

module _ (reads : Reads) (ins : List Port) (rank d : ℕ) (e : Tree) (body : List Stmt) (limits : IsExpr e) where
  pub made_value : body ≡ lowered (record { reads = reads; ins = ins; rank = rank }) [] d e → LeaveValue reads ins rank d e body
  made_value made tables g s shapes same_ins same_rank given room =
      subst (λ b. Leaves tables b d s (value g [] e)) (sym made)
      (lowered_leaves_the_value (record { reads = reads; ins = ins; rank = rank }) d e (expr_small e limits) shapes tables g s same_ins same_rank given room)

  pub made_formed : rank + 2 ≤ d → body ≡ lowered (record { reads = reads; ins = ins; rank = rank }) [] d e → AreWellFormed reads ins rank d e body
  made_formed above made vars tables shapes few room entries numbers =
      subst (λ b. AreFormed vars tables (2 * depth e + 38) d b) (sym made)
      (lowered_formed vars tables (record { reads = reads; ins = ins; rank = rank }) shapes few entries numbers e (expr_small e limits) d above room)

-- the same behind the test of a width
module _ (reads : Reads) (ins : List Port) (rank d : ℕ) (e : Tree) (body : List Stmt) (w : Width) (first : List Stmt) (made : body ≡ first ++ guard (width_test w d) ∷ []) where
  pub fitted_value : LeaveValue reads ins rank d e first → LeaveFitted reads ins rank d w e body
  fitted_value leave tables g s shapes same_ins same_rank given room =
      subst (λ b. Leaves tables b d s (value g [] e >>= fitted w)) (sym made)
      (follow_leaves tables first (width_test w d) d d s (value g [] e) (fitted w) (omega arith) (leave tables g s shapes same_ins same_rank given room)
      (λ z t is k h. width_leaves tables d t (slice_get_within t.vars 0 (pos 0) h.2) w z h))

  pub fitted_formed : AreWellFormed reads ins rank d e first → FittedAreFormed reads ins d e body
  fitted_formed are vars tables shapes few room entries numbers =
      let a = are vars tables shapes few room entries numbers in
      let n : ℕ = 2 * depth e + 38 in
      let some = some_room e in
      let deep : Shaped vars tables (n + 1) (Low d) first = record { formed = a.formed; depth = omega (arith, a.depth); sets = λ k q. a.sets k q.0 q.1; quiet = a.quiet } in
      let s : Shaped vars tables (n + 1) (Low d) (then_do first (width_test w d))
      = then_formed vars tables (Low d) (none_low d) n first (width_test w d) (omega (arith, room, some)) (omega arith) deep
      (deeper vars tables (Low d) (none_low d) 4 n (width_test w d) (omega arith) (width_formed vars tables (Low d) (none_low d) w d (omega (arith, room, some)))) in
      subst (λ b. AreFormed vars tables (2 * depth e + 39) d b) (sym made) (record { formed = s.formed; depth = omega (arith, s.depth); sets = λ k low below. s.sets k (low, below); quiet = s.quiet })

-- the tests of widths
module _ (reads : Reads) (ins : List Port) (ws : List Width) (d : ℕ) (some : 1 < d) (body : List Stmt) (made : body ≡ ports_test reads ins ws (pos 0) d) where
  pub made_widths : TestWidths reads ins ws d body
  made_widths tables nums s sound whole fits are_read room =
      subst (λ b. Tests tables b d s (all_hold ins ws nums)) (sym made)
      (ports_leave tables reads nums fits d some ins ws 0 s are_read (omega (arith, whole)) room true sound)

  pub made_tests : TestsAreFormed reads ins d body
  made_tests vars tables few room entries numbers = subst (λ b. AreFormed vars tables 11 d b) (sym made) (widths_formed vars tables reads entries numbers d some room ins ws few)

-- the search for the first fault
module _ (reads : Reads) (count d : ℕ) (some : 1 < d) (few : count < 2 ^ 32) (body : List Stmt) (made : body ≡ first_fault reads count d) where
  pub made_first : LeaveFirst reads count d body
  made_first tables marks s whole are_marked room =
      subst (λ b. LeavesMark tables b d s (first_mark marks)) (ap (λ n. first_fault reads n d) whole ∙ sym made) (mark_leaves tables reads d some s room marks are_marked)

  pub made_search : FirstIsFormed reads d body
  made_search vars tables room entries numbers = subst (λ b. AreFormed vars tables 9 d b) (sym made) (first_formed vars tables reads entries numbers d some room count (omega (arith, few)))
