use Rattle.std.proofs.Common.{◌++◌, ◌∙◌, ap, string_bytes, refl}
use Rattle.std.proofs.lemmas.Result.{on_ok_weaker}
use Rattle.aol_lines.proofs.Instances.{last_index, more_indices, after_index}
use Rattle.aol_lines.proofs.instance.+push_indices.Goals as goal

pub returns-then-is_empty : goal.returns-then-is_empty
returns-then-is_empty t c =
    c.in_ok-push_number.ensures
    ∙ ap (λ s. string_bytes c.args.text.now ++ s) (last_index c.args.space.now c.in-Some.inner.now c.in-Some.entry.now c.args.points c.args.rank _ c.in-Some.ensures.cases.0 c.requires.points c.requires.some refl c.if-is_empty.ensures)

pub returns : goal.returns
returns t c =
    on_ok_weaker c.push_indices.result
    (λ more. after_index (string_bytes c.args.text.now) (string_bytes c.push_number.new.text) (string_bytes c.push_text.new.text) (string_bytes c.push_indices.new.text) _ _ c.in_ok-push_number.ensures c.in_ok-push_text.ensures more
    ∙ ap (λ s. string_bytes c.args.text.now ++ s) (more_indices c.args.space.now c.in-Some.inner.now c.in-Some.entry.now c.args.points c.args.rank _ c.in-Some.ensures.cases.0 c.requires.points c.requires.some refl c.if-is_empty.ensures))
    c.push_indices.ensures
