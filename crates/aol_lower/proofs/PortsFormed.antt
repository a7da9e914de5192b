-- The tests of widths and the search for the first fault are well formed and not deep.
use Rattle.std.specs.Prelude.{◌≡◌, ℕ, ◌+◌, ◌<◌, ◌≤◌, ◌^◌, ℤ, pos, negsuc, true, false, List, [], ◌∷◌, ◌++◌}
use Rattle.std.proofs.Common.{refl, arith}
use Rattle.aol_shape.specs.Numbers.{fits_64}
use Rattle.aol_shape.specs.Shape.{size}
use Rattle.aol_expr_tree.specs.declared.port.Port.{Port}
use Rattle.aol_expr_tree.specs.declared.value.Kind.TheVariants.{Range}
use Rattle.aol_expr_tree.specs.declared.value.Width.{Width}
use Rattle.aol_expr_tree.specs.declared.value.Width.TheVariants.{Int16, Int32, Int64}
use Rattle.aol_csyn.specs.declared.program.COp.TheVariants.{Le as AtMost, Eq as Equal}
use Rattle.aol_csyn.specs.Tree.{num as number, var as variable, cell_f, bin as between, Stmt, set_var, for_each, stmts}
use Rattle.aol_csyn.specs.Form.{any_sets}
use Rattle.aol_lower.specs.declared.reads.Reads.{Reads}
use Rattle.aol_lower.specs.Contract.{AreFormed}
use Rattle.aol_lower.specs.Effect.{patterns_size}
use Rattle.aol_lower.specs.Lowered.{nought, fail, either, guard, at_most, then_do, entry_at, fetched}
use Rattle.aol_lower.specs.Ports.{within, width_test, each_test, numbers_test, ports_test, marked, first_fault}
use Rattle.aol_lower.proofs.Formed.{Shaped, Low, none_low, var_formed, between_formed, nothing_formed, append, deeper, set_formed, either_formed, guard_formed, fail_formed, then_formed, entry_formed, fetched_formed, for_formed}

module _ (vars tables : ℕ) (Q : ℕ → Type 0) (none : Q 0 → ⊥) where
  within_formed : (low high : ℤ) (d : ℕ) → fits_64 low ≡ true → fits_64 high ≡ true → d < vars → Shaped vars tables 4 Q (within low high d)
  within_formed low high d fits_low fits_high in_d =
      let some : 0 < vars = omega (arith, in_d) in
      either_formed vars tables Q none 3 (at_most (number low) (variable d)) (either (at_most (variable d) (number high)) [] (fail Range ∷ [])) (fail Range ∷ [])
      (between_formed vars tables AtMost (number low) (variable d) fits_low (var_formed vars tables d in_d)) (omega arith)
      (either_formed vars tables Q none 2 (at_most (variable d) (number high)) [] (fail Range ∷ []) (between_formed vars tables AtMost (variable d) (number high) (var_formed vars tables d in_d) fits_high) (omega arith)
      (nothing_formed vars tables Q none 2) (fail_formed vars tables Q none 2 Range some (omega arith)))
      (fail_formed vars tables Q none 3 Range some (omega arith))

  pub width_formed : (w : Width) (d : ℕ) → d < vars → Shaped vars tables 4 Q (width_test w d)
  width_formed Int16 d in_d = within_formed (negsuc 32767) (pos 32767) d refl refl in_d
  width_formed Int32 d in_d = within_formed (negsuc 2147483647) (pos 2147483647) d refl refl in_d
  width_formed Int64 d in_d = nothing_formed vars tables Q none 4

  module _ (reads : Reads) (in_entries : reads.entries < tables) (in_numbers : reads.numbers < tables) (d : ℕ) (inside : d + 1 < vars) (more : 1 < vars) (own : Q d → ⊥) where
    test_formed : (w : Width) (start : ℕ) → start < 2 ^ 63 → Shaped vars tables 10 Q (guard (then_do (fetched reads (pos start) (d + 1) d) (width_test w d)) ∷ [])
    test_formed w start small =
        let fetch = fetched reads (pos start) (d + 1) d in
        guard_formed vars tables Q none 9 (then_do fetch (width_test w d)) (omega (arith, more)) (omega arith)
        (then_formed vars tables Q none 8 fetch (width_test w d) (omega (arith, more)) (omega arith)
        (deeper vars tables Q none 8 9 fetch (omega arith) (fetched_formed vars tables Q none reads in_entries in_numbers start (d + 1) d small inside (omega (arith, inside)) more own))
        (deeper vars tables Q none 4 8 (width_test w d) (omega arith) (width_formed w d (omega (arith, inside)))))

    mark_formed : Shaped vars tables 8 Q (either (between Equal (variable d) nought) (marked reads (d + 1) d) [])
    mark_formed =
        let entry = entry_at reads (pos 0) (d + 1) in
        let in_d : d < vars = omega (arith, inside) in
        let formed = entry_formed vars tables Q none reads in_entries in_numbers 0 (d + 1) d (omega arith) inside in_d more own in
        either_formed vars tables Q none 7 (between Equal (variable d) nought) (marked reads (d + 1) d) [] (between_formed vars tables Equal (variable d) nought (var_formed vars tables d in_d) refl) (omega arith)
        (either_formed vars tables Q none 6 (at_most nought entry) (set_var d (cell_f entry) ∷ []) [] (between_formed vars tables AtMost nought entry refl formed) (omega arith)
        (set_formed vars tables Q none 6 d (cell_f entry) in_d formed (omega arith) own) (nothing_formed vars tables Q none 6))
        (nothing_formed vars tables Q none 7)

module _ (vars tables : ℕ) (reads : Reads) (in_entries : reads.entries < tables) (in_numbers : reads.numbers < tables) (d : ℕ) (some : 1 < d) (inside : d + 1 < vars) where
  -- the variable of a loop
  abbrev Own : ℕ → Type 0
  Own k = k ≡ d + 1

  not_own : Own 0 → ⊥
  not_own e = omega (arith, e)

  other_own : Own d → ⊥
  other_own e = omega (arith, e)

  low_d : Low d d → ⊥
  low_d q = omega (arith, q.1)

  low_next : Low d (d + 1) → ⊥
  low_next q = omega (arith, q.1)

  more : 1 < vars
  more = omega (arith, some, inside)

  each_formed : (w : Width) (start n : ℕ) → start < 2 ^ 63 → n < 2 ^ 63 → Shaped vars tables 11 (Low d) (each_test reads w (pos start) n d)
  each_formed w start n small few =
      let free = test_formed vars tables Own not_own reads in_entries in_numbers d inside more other_own w start small in
      for_formed vars tables (Low d) 10 (d + 1) n (guard (then_do (fetched reads (pos start) (d + 1) d) (width_test w d)) ∷ []) inside few low_next (free.sets (d + 1) refl)
      (test_formed vars tables (Low d) (none_low d) reads in_entries in_numbers d inside more low_d w start small)

  numbers_formed : (w : Width) (start n : ℕ) → start < 2 ^ 63 → n < 2 ^ 63 → Shaped vars tables 11 (Low d) (numbers_test reads w (pos start) n d)
  numbers_formed Int16 start n small few = each_formed Int16 start n small few
  numbers_formed Int32 start n small few = each_formed Int32 start n small few
  numbers_formed Int64 start n small few = nothing_formed vars tables (Low d) (none_low d) 11

  ports_formed : (ps : List Port) (ws : List Width) (start : ℕ) → start + patterns_size ps < 2 ^ 63 → Shaped vars tables 11 (Low d) (ports_test reads ps ws (pos start) d)
  ports_formed [] ws start few = nothing_formed vars tables (Low d) (none_low d) 11
  ports_formed (p ∷ ps) [] start few = nothing_formed vars tables (Low d) (none_low d) 11
  ports_formed (p ∷ ps) (w ∷ ws) start few =
      append vars tables (Low d) (none_low d) 11 (numbers_test reads w (pos start) (size p.shape) d) (ports_test reads ps ws (pos (start + size p.shape)) d)
      (numbers_formed w start (size p.shape) (omega (arith, few)) (omega (arith, few))) (ports_formed ps ws (start + size p.shape) (omega (arith, few)))

  pub widths_formed : (ps : List Port) (ws : List Width) → patterns_size ps < 2 ^ 63 → AreFormed vars tables 11 d (ports_test reads ps ws (pos 0) d)
  widths_formed ps ws few = let s = ports_formed ps ws 0 (omega (arith, few)) in record { formed = s.formed; depth = s.depth; sets = λ k low below. s.sets k (low, below); quiet = s.quiet }

  pub first_formed : (count : ℕ) → count < 2 ^ 63 → AreFormed vars tables 9 d (first_fault reads count d)
  first_formed count few =
      let body = either (between Equal (variable d) nought) (marked reads (d + 1) d) [] in
      let free = mark_formed vars tables Own not_own reads in_entries in_numbers d inside more other_own in
      let s = append vars tables (Low d) (none_low d) 9 (set_var d nought ∷ []) (for_each (d + 1) (pos 0) (pos count) (stmts body) ∷ [])
      (set_formed vars tables (Low d) (none_low d) 9 d nought (omega (arith, inside)) refl (omega arith) low_d)
      (for_formed vars tables (Low d) 8 (d + 1) count body inside few low_next (free.sets (d + 1) refl) (mark_formed vars tables (Low d) (none_low d) reads in_entries in_numbers d inside more low_d)) in
      record { formed = s.formed; depth = s.depth; sets = λ k low below. s.sets k (low, below); quiet = s.quiet }
