use Rattle.std.proofs.Common.{◌++◌, ◌-◌, ap, sym, ◌∙◌, arith}
use Rattle.aol_shape.specs.Shape.{point_at, size}
use Rattle.aol_vsl.specs.Text.{shape_text}
use Rattle.aol_lines.proofs.Instances.{row_told}
use Rattle.aol_lines.proofs.instance.instance_name.Goals as goal

pub push_point-requires-clause-points : goal.push_point-requires-clause-points
push_point-requires-clause-points c = c.leaf-leaf.ensures.count ∙ ap size (sym (c.as_slice.ensures ∙ c.leaf-leaf.ensures.space))

pub push_point-requires-clause-some : goal.push_point-requires-clause-some
push_point-requires-clause-some c = omega (arith, (row_told c.args.flat.now.model c.args.number _ c.leaf-leaf.result.now c.leaf_with.ensures c.leaf-leaf.ensures).within)

pub returns : goal.returns
returns c =
    c.in_ok-push_point.ensures ∙ ap (λ path. path ++ shape_text (point_at c.as_slice.result.now (c.args.number - c.leaf-leaf.result.now.base))) (c.in_ok-text.ensures.ok ∙ c.as_str.ensures)
    ∙ ap (λ space. c.leaf-leaf.result.now.path ++ shape_text (point_at space (c.args.number - c.leaf-leaf.result.now.base))) c.as_slice.ensures
    ∙ (row_told c.args.flat.now.model c.args.number _ c.leaf-leaf.result.now c.leaf_with.ensures c.leaf-leaf.ensures).is
