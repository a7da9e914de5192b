use Rattle.std.proofs.Common.{◌++◌, string_bytes, ap, ◌∙◌, arith}
use Rattle.aol_flat.proofs.Totals.{length-instances}
use Rattle.aol_program.proofs.Placements.{line_more, row_within}
use Rattle.aol_program.proofs.place.lines_of.Goals as goal

pub push_workers-requires-clause-within : goal.push_workers-requires-clause-within
push_workers-requires-clause-within c = omega (arith, row_within c.args.flat.now.model c.loop-number.number c.leaf-leaf.result.now c.leaf-leaf.ensures, c.requires.placed, length-instances c.args.flat.now.model)

pub push_workers-requires-clause-few : goal.push_workers-requires-clause-few
push_workers-requires-clause-few c = omega (arith, row_within c.args.flat.now.model c.loop-number.number c.leaf-leaf.result.now c.leaf-leaf.ensures, c.requires.placed, c.requires.few, length-instances c.args.flat.now.model)

pub loop-number-preserved : goal.loop-number-preserved
loop-number-preserved c =
    line_more c.args.flat.now.model c.args.placed.now.of_instance c.loop-number.number c.leaf-leaf.result.now (string_bytes c.loop-number.text) (string_bytes c.push_text.new.text) (string_bytes c.push_workers.new.text)
    (string_bytes c.push_text-in-loop-number.new.text) c.leaf-leaf.ensures c.loop-number.invariant (c.in_ok-push_text.ensures ∙ ap (λ p. string_bytes c.loop-number.text ++ p) c.as_str.ensures) c.in_ok-push_workers.ensures c.in_ok-push_text-2.ensures
