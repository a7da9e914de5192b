-- An instance's statements from their parts.
use Rattle.std.specs.Prelude.{◌≡◌, ℕ, ◌<◌, ◌^◌, List}
use Rattle.std.proofs.Common.{ap, subst, arith, ◌∙◌}
use Rattle.aol_expr_tree.specs.declared.port.Port.{Port}
use Rattle.aol_expr_tree.specs.declared.value.Width.{Width}
use Rattle.aol_model_types.specs.declared.task.OutPort.{OutPort}
use Rattle.aol_csyn.specs.Tree.{Stmt}
use Rattle.aol_model_types.specs.declared.task.Elementary.{Elementary}
use Rattle.aol_lower.specs.Contract.{FirstIsFormed, LeaveFirst, TestWidths, TestsAreFormed}
use Rattle.aol_lower.specs.Effect.{AreShapes, patterns_size}
use Rattle.aol_cinstance.specs.declared.layout.Tables.{Tables}
use Rattle.aol_cinstance.specs.declared.layout.TheConstants.{VALUE}
use Rattle.aol_cinstance.specs.Effect.{out_points}
use Rattle.aol_cinstance.specs.Made.{IsMade}
use Rattle.aol_cinstance.specs.Statements.{computing, ArePorts}

pub made_of : (t : Tables) (e : Elementary) (before reads cells : ℕ) (search widths ports body : List Stmt) (ins also : List Port) (wide : List Width) (outs same : List OutPort) → ins ≡ e.ins → also ≡ e.ins → wide ≡ e.wide_in → outs ≡ e.outs → same ≡ e.outs → reads ≡ patterns_size ins → reads < 2 ^ 32 → cells ≡ out_points outs → cells < 2 ^ 32 → AreShapes ins
    → LeaveFirst t.reads reads VALUE search → FirstIsFormed t.reads VALUE search → TestWidths t.reads also wide VALUE widths → TestsAreFormed t.reads also VALUE widths → ArePorts t e before 0 0 same ports
    → body ≡ computing t.cells cells search widths ports → IsMade t e before body
made_of t e before reads cells search widths ports body ins also wide outs others ins_is also_is wide_is outs_is others_is reads_own few_reads cells_own few_cells shapes searches search_formed tests tests_formed are made =
    let reads_is : reads ≡ patterns_size e.ins = reads_own ∙ ap patterns_size ins_is in
    let cells_is : cells ≡ out_points e.outs = cells_own ∙ ap out_points outs_is in
    record {
      search = search;
      widths = widths;
      ports = ports;
      made = made ∙ ap (λ n. computing t.cells n search widths ports) cells_is;
      shapes = subst AreShapes ins_is shapes;
      few_reads = omega (arith, few_reads, reads_is);
      few_cells = omega (arith, few_cells, cells_is);
      searches = subst (λ n. LeaveFirst t.reads n VALUE search) reads_is searches;
      search_formed = search_formed;
      tests = subst (λ ws. TestWidths t.reads e.ins ws VALUE widths) wide_is (subst (λ ps. TestWidths t.reads ps wide VALUE widths) also_is tests);
      tests_formed = subst (λ ps. TestsAreFormed t.reads ps VALUE widths) also_is tests_formed;
      are_ports = subst (λ os. ArePorts t e before 0 0 os ports) others_is are;
    }
