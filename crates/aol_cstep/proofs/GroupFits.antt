-- The loop over a group of instances is well formed.
use Rattle.std.specs.Prelude.{◌≡◌, ℕ, ◌<◌, ◌≤◌, ◌^◌, pos, true, false, List, [], ◌∷◌}
use Rattle.std.proofs.Common.{refl, sym, subst, arith}
use Rattle.aol_csyn.specs.declared.program.COp.TheVariants.{Add as Plus, Mul as Times}
use Rattle.aol_csyn.specs.Tree.{num as number, var as variable, bin as between, Stmt, set_var, stmts}
use Rattle.aol_csyn.specs.Form.{any_sets, expr_formed}
use Rattle.aol_cinstance.specs.declared.layout.TheConstants.{INSTANCE, READS, CELLS, VALUE}
use Rattle.aol_cinstance.proofs.Fits.{var_fits, number_fits, between_fits, Fit, append_fits, set_fits, for_fits, fewer}
use Rattle.aol_cstep.specs.declared.group.Group.{Group}
use Rattle.aol_cstep.specs.Effect.{GroupIsFormed}
use Rattle.aol_cstep.specs.Statements.{place, turn, group_loop}

module _ (vars tables : ℕ) (room : VALUE ≤ vars) where
  place_fits : (first each : ℕ) → first < 2 ^ 63 → each < 2 ^ 63 → expr_formed vars tables (place first each) ≡ true
  place_fits first each few low =
      let scaled = between Times (variable INSTANCE) (number (pos each)) in
      between_fits vars tables Plus (number (pos first)) scaled (number_fits vars tables first few)
      (between_fits vars tables Times (variable INSTANCE) (number (pos each)) (var_fits vars tables INSTANCE (omega (arith, room))) (number_fits vars tables each low))

-- numbers of 32 bits
pub record IsSmall (g : Group) : Type 0 where
  pub from : g.from < 2 ^ 32
  pub at : g.at < 2 ^ 32
  pub reads : g.reads < 2 ^ 32
  pub cells : g.cells < 2 ^ 32
  pub count : g.count < 2 ^ 32

-- the variable of the loop
abbrev Own : ℕ → Type 0
Own k = k ≡ INSTANCE

pub group_fits : (g : Group) (instance : List Stmt) → IsSmall g → GroupIsFormed instance (group_loop g instance)
group_fits g instance small vars tables room body =
    let a = small.from in
    let b = small.at in
    let c = small.reads in
    let d = small.cells in
    let e = small.count in
    let inner : Fit vars tables 1000 Own instance = record { formed = body.formed; depth = body.depth; sets = λ k q. keeps k q body.keeps } in
    let all = append_fits vars tables Own 1000 (set_var READS (place g.from g.reads) ∷ []) (set_var CELLS (place g.at g.cells) ∷ instance)
    (set_fits vars tables Own 1000 READS (place g.from g.reads) (omega (arith, room)) (place_fits vars tables room g.from g.reads (omega (arith, a)) (omega (arith, c))) (omega arith) (λ q. omega (arith, q)))
    (append_fits vars tables Own 1000 (set_var CELLS (place g.at g.cells) ∷ []) instance
    (set_fits vars tables Own 1000 CELLS (place g.at g.cells) (omega (arith, room)) (place_fits vars tables room g.at g.cells (omega (arith, b)) (omega (arith, d))) (omega arith) (λ q. omega (arith, q))) inner) in
    let loop = for_fits vars tables (λ k. ⊥) 1000 INSTANCE g.count (turn g instance) (omega (arith, room)) (omega (arith, e)) (λ q. q) (all.sets INSTANCE refl) (fewer vars tables 1000 Own (λ k. ⊥) (turn g instance) (λ k q. absurd q) all) in
    record { formed = loop.formed; depth = loop.depth }
  where
    keeps : (k : ℕ) → k ≡ INSTANCE → any_sets INSTANCE (stmts instance) ≡ false → any_sets k (stmts instance) ≡ false
    keeps k q h = subst (λ j. any_sets j (stmts instance) ≡ false) (sym q) h
