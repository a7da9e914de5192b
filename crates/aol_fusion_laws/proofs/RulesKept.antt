-- The new repetitions of a fusion keep the rules.
use Rattle.std.proofs.Common.{◌≤◌, [], ◌++◌, length, refl, arith}
use Rattle.aol_model_types.specs.declared.task.Repeated.{Repeated}
use Rattle.aol_model_types.specs.declared.task.Task.{Task}
use Rattle.aol_model_types.specs.declared.task.Task.TheVariants as tasks
use Rattle.aol_model_types.specs.Rules.{inputs_of, outputs_of}
use Rattle.aol_flat.proofs.Checked.{HoldsOfRepeated, of_repeated}
use Rattle.aol_change.proofs.KindChecks.{to_repeated}
use Rattle.aol_fusion_parts.specs.Ports.{unpicked_ports, unjoined_ports, tiled_ports}
use Rattle.aol_fusion_parts.proofs.Placing.{filter_le}
use Rattle.aol_fusion_laws.specs.Rules.{IsOld, BlockKeepsRules, OnceKeepsRules, WholeKeepsRules}
use Rattle.aol_fusion_laws.proofs.BlockAndOnce.{block_holds, once_holds}
use Rattle.aol_fusion_laws.proofs.Fresh.{AreFresh, names_of, task_fresh}
use Rattle.aol_fusion_laws.proofs.NewWhole.{OldTilers, whole_holds}
use Rattle.aol_fusion_laws.proofs.TilersOf.{input_fit, input_tiled, output_fit, output_tiled}

pub block_keeps_rules : BlockKeepsRules
block_keeps_rules ts one u name block picks old found at =
    to_repeated ts at _ (block_holds ts u name block one.task picks found (task_fresh old.earlier [] u (old.inner [])) at)

pub once_keeps_rules : OnceKeepsRules
once_keeps_rules ts two v name args outs old found fit at =
    to_repeated ts at _ (once_holds ts v name two.task args outs two found (task_fresh old.earlier [] v (old.inner [])) fit at)

-- what is known of the old tilers
module _ (t : Repeated) (u : Task) (old : IsOld t u) where
  old_holds : HoldsOfRepeated old.before [] t
  old_holds = of_repeated old.before [] t (old.rules [])

  pub old_inner : AreFresh [] (names_of (inputs_of u) ++ names_of (outputs_of u))
  old_inner = task_fresh old.earlier [] u (old.inner [])

  old_own : AreFresh [] (names_of t.ins ++ names_of t.outs)
  old_own = task_fresh old.before [] (tasks.Repeated t) (old.rules [])

pub whole_keeps_rules : WholeKeepsRules
whole_keeps_rules ts args c one two u v n first second spaces few_ins few_outs few_inner few_tiled found at =
    let unjoined : length (unjoined_ports args c two.ins) ≤ length two.ins = filter_le _ two.ins in
    let free : length (unpicked_ports args c two (inputs_of v)) ≤ length (inputs_of v) = filter_le _ (inputs_of v) in
    let tiled : length (tiled_ports two (outputs_of v)) ≤ length (outputs_of v) = filter_le _ (outputs_of v) in
    let tilers : OldTilers args c one two u v = record {
      spaces = spaces;
      first_fit = input_fit first.before [] one u (old_holds one u first) first.found (old_inner one u first) (old_own one u first);
      first_tiled = λ p a. input_tiled first.before [] one u (old_holds one u first) first.found (old_inner one u first) (old_own one u first) p first.plain a;
      second_fit = input_fit second.before [] two v (old_holds two v second) second.found (old_inner two v second) (old_own two v second);
      second_tiled = λ p a. input_tiled second.before [] two v (old_holds two v second) second.found (old_inner two v second) (old_own two v second) p second.plain a;
      out_fit = output_fit second.before [] two v (old_holds two v second) second.found (old_inner two v second) (old_own two v second);
      out_tiled = output_tiled second.before [] two v (old_holds two v second) second.found (old_inner two v second) (old_own two v second);
      few_in = omega (arith, few_ins, unjoined);
      few_out = few_outs;
      few_inner = omega (arith, few_inner, free);
      few_tiled = omega (arith, few_tiled, tiled);
    } in
    to_repeated ts at _ (whole_holds ts args c one two u v _ n.whole n.pair tilers (old_own two v second) found refl refl at)
