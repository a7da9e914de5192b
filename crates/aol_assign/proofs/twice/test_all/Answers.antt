use Rattle.std.proofs.Common.{◌∙◌, ap, ◌≡◌, ℕ, false, get_or}
use Rattle.aol_flat.proofs.TaskNumbers.{found}
use Rattle.aol_assign.proofs.TwiceWalk.{single_at_end, told_at_end}
use Rattle.aol_assign.proofs.twice.test_all.Goals as goal

pub visit-requires-clause-within : goal.visit-requires-clause-within
visit-requires-clause-within c = (found c.args.from.model.now.tasks c.args.from.model.now.main c.args.number c.requires.main).within

pub returns-clause-ok : goal.returns-clause-ok
returns-clause-ok c =
    let none : (k : ℕ) → get_or c.deref_mut.result.now k false ≡ false = λ k. ap (λ s. get_or s k false) c.deref_mut.ensures.value ∙ c.in_ok-tested.ensures.none k in
    single_at_end c.args.from.model.now c.args.number c.deref_mut.result.now c.visit.new.tested c.visit.result none c.requires.main c.visit.ensures

pub returns-clause-refused : goal.returns-clause-refused
returns-clause-refused c =
    let none : (k : ℕ) → get_or c.deref_mut.result.now k false ≡ false = λ k. ap (λ s. get_or s k false) c.deref_mut.ensures.value ∙ c.in_ok-tested.ensures.none k in
    told_at_end c.args.from.model.now c.args.number c.deref_mut.result.now c.visit.new.tested c.visit.result none c.requires.main c.visit.ensures
