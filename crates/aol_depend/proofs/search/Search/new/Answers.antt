use Rattle.std.proofs.Common.{ℕ, reverse, ap, ◌∙◌, arith, replicate}
use Rattle.aol_depend.specs.declared.search.Mark.TheVariants.{New}
use Rattle.aol_depend.proofs.Starting.{started}
use Rattle.aol_depend.proofs.search.Search.new.Goals as goal

pub returns-clause-state : goal.returns-clause-state
returns-clause-state c =
    let zero : ℕ = 0 in
    started c.args.needs.now c.in_ok-vec.field-0.items c.in_ok-vec-2.field-0.items (reverse c.new.result.items) c.requires (omega (arith, c.len-count.ensures.many, c.len-count.ensures.few))
    (c.in_ok-vec.ensures.items_if_clones_equal (λ y e. e) ∙ ap (λ n. replicate n New) c.len-count.ensures.many)
    (c.in_ok-vec-2.ensures.items_if_clones_equal (λ y e. e) ∙ ap (λ n. replicate n zero) c.len-count.ensures.many)
    (ap reverse c.new.ensures.items)
