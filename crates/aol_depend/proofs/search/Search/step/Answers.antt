use Rattle.std.proofs.Common.{◌≡◌, ◌+◌, ◌∷◌, max, get_or, reverse, ap, sym, ◌∙◌, arith, refl, inl, inr, ◌⊎◌, Some, slice_get}
use Rattle.std.proofs.lemmas.Result.{on_ok_weaker}
use Rattle.std.proofs.lemmas.Option.{slice_get_within}
use Rattle.aol_flat.proofs.Among.{get_among}
use Rattle.aol_depend.specs.declared.search.Mark.TheVariants.{New, Open, Ranked, Doomed}
use Rattle.aol_depend.specs.Needs.{row}
use Rattle.aol_depend.specs.Search.{doomed}
use Rattle.aol_depend.proofs.Stack.{reversed_push, pushed_twice}
use Rattle.aol_depend.proofs.Moves.{at_equal}
use Rattle.aol_depend.proofs.Ranking.{ranked}
use Rattle.aol_depend.proofs.Dooming.{all_are_doomed}
use Rattle.aol_depend.proofs.Entering.{entered, passed}
use Rattle.aol_depend.proofs.Measure.{ranking_less, entering_less, passing_less, dooming_less}
use Rattle.aol_depend.proofs.Steps.{level_fits, needed_within, none_left, set_keeps, doomed_keeps, keeps_equal, less_equal, all_within, visits_within}
use Rattle.aol_depend.proofs.search.Search.step.Goals as goal

pub rank-requires-clause-few : goal.rank-requires-clause-few
rank-requires-clause-few c = level_fits c.requires

pub returns-in_default-clause-state : goal.returns-in_default-clause-state
returns-in_default-clause-state c =
    let all = none_left (row c.args.needs.now c.args.visit.instance) c.args.visit.next (sym c.next.ensures.next ∙ c.in_default.is) in
    at_equal (ranked c.args.needs.now c.args.self.now.marks.items c.args.self.now.levels.items c.args.self.now.ranked c.args.visit (reverse c.args.self.now.path.items) c.requires all)
    c.rank.ensures.marks c.rank.ensures.levels c.rank.ensures.ranked (ap reverse c.rank.ensures.path)

pub returns-in_default-clause-old : goal.returns-in_default-clause-old
returns-in_default-clause-old c =
    keeps_equal c.args.self.now.marks.items (set_keeps c.args.self.now.marks.items c.args.visit.instance Open Ranked c.requires.chain.0.entered (λ e. cc)) c.rank.ensures.marks

pub returns-in_default-clause-smaller : goal.returns-in_default-clause-smaller
returns-in_default-clause-smaller c =
    less_equal c.args.needs.now _ (ranking_less c.args.needs.now c.args.self.now.marks.items c.args.visit (reverse c.args.self.now.path.items) c.requires.chain.0.entered) c.rank.ensures.marks (ap reverse c.rank.ensures.path)

pub mark-requires : goal.mark-requires
mark-requires c = omega (arith, needed_within c.requires (sym c.next.ensures.next ∙ c.in-Some.is), c.requires.many_marks)

pub level-requires : goal.level-requires
level-requires c = omega (arith, needed_within c.requires (sym c.next.ensures.next ∙ c.in-Some.is), c.requires.many_levels)

pub overflow_add-visit : goal.overflow_add-visit
overflow_add-visit c = omega (arith, slice_get_within (row c.args.needs.now c.args.visit.instance) c.args.visit.next c.in-Some.needed (sym c.next.ensures.next ∙ c.in-Some.is), c.next.ensures.few)

pub doom-requires : goal.doom-requires
doom-requires c = visits_within c.requires (reversed_push c.args.self.now.path.items c.push-in-Open.new.self.items c.args.visit c.in_ok-push-in-Open.ensures.items)

pub returns-in_ok-push-in-New-clause-state : goal.returns-in_ok-push-in-New-clause-state
returns-in_ok-push-in-New-clause-state c =
    let st = pushed_twice c.args.self.now.path.items c.push.new.self.items c.args.visit c.in-Some.needed c.in_ok-push-in-New.ensures.items in
    let needed = get_among (row c.args.needs.now c.args.visit.instance) c.args.visit.next c.in-Some.needed (sym c.next.ensures.next ∙ c.in-Some.is) in
    let e = entered c.args.needs.now c.args.self.now.marks.items c.args.self.now.levels.items c.args.self.now.ranked c.in-Some.needed (c.args.visit ∷ reverse c.args.self.now.path.items) c.requires
    (c.mark.ensures ∙ ap Some c.in-New.is) needed in
    on_ok_weaker c.enter.result (λ path. at_equal e c.enter.ensures.marks c.enter.ensures.levels c.enter.ensures.ranked (st c.enter.new.self.path.items path)) c.enter.ensures.path

pub returns-in_ok-push-in-New-clause-old : goal.returns-in_ok-push-in-New-clause-old
returns-in_ok-push-in-New-clause-old c =
    keeps_equal c.args.self.now.marks.items (set_keeps c.args.self.now.marks.items c.in-Some.needed New Open (c.mark.ensures ∙ ap Some c.in-New.is) (λ e. cc)) c.enter.ensures.marks

pub returns-in_ok-push-in-New-clause-smaller : goal.returns-in_ok-push-in-New-clause-smaller
returns-in_ok-push-in-New-clause-smaller c =
    let st = pushed_twice c.args.self.now.path.items c.push.new.self.items c.args.visit c.in-Some.needed c.in_ok-push-in-New.ensures.items in
    let less = entering_less c.args.needs.now c.args.self.now.marks.items c.in-Some.needed (c.args.visit ∷ reverse c.args.self.now.path.items) (c.mark.ensures ∙ ap Some c.in-New.is) in
    on_ok_weaker c.enter.result (λ path. less_equal c.args.needs.now _ less c.enter.ensures.marks (st c.enter.new.self.path.items path)) c.enter.ensures.path

pub returns-in_ok-push-in-Ranked-clause-state : goal.returns-in_ok-push-in-Ranked-clause-state
returns-in_ok-push-in-Ranked-clause-state c =
    let pushed = reversed_push c.args.self.now.path.items c.push-in-Ranked.new.self.items _ c.in_ok-push-in-Ranked.ensures.items in
    let p = passed c.args.needs.now c.args.self.now.marks.items c.args.self.now.levels.items c.args.self.now.ranked c.in-Some.needed c.args.visit (reverse c.args.self.now.path.items) c.requires
    (sym c.next.ensures.next ∙ c.in-Some.is) (c.mark.ensures ∙ ap Some c.in-Ranked.is) in
    let n = get_or c.args.self.now.levels.items c.in-Some.needed 0 in
    let level : c.max-level.result ≡ max c.args.visit.level (n + 1) = omega (arith, c.max-level.ensures, c.level.ensures) in
    at_equal p refl refl refl (pushed ∙ ap (λ l. record { instance = c.args.visit.instance; next = c.args.visit.next + 1; level = l } ∷ reverse c.args.self.now.path.items) level)

pub returns-in_ok-push-in-Ranked-clause-smaller : goal.returns-in_ok-push-in-Ranked-clause-smaller
returns-in_ok-push-in-Ranked-clause-smaller c =
    let pushed = reversed_push c.args.self.now.path.items c.push-in-Ranked.new.self.items _ c.in_ok-push-in-Ranked.ensures.items in
    let within = slice_get_within (row c.args.needs.now c.args.visit.instance) c.args.visit.next c.in-Some.needed (sym c.next.ensures.next ∙ c.in-Some.is) in
    let level : c.max-level.result ≡ max c.args.visit.level (c.level.result + 1) = omega (arith, c.max-level.ensures) in
    less_equal c.args.needs.now _ {others = c.args.self.now.marks.items} (passing_less c.args.needs.now c.args.self.now.marks.items c.args.visit c.level.result (reverse c.args.self.now.path.items) within) refl
    (pushed ∙ ap (λ l. record { instance = c.args.visit.instance; next = c.args.visit.next + 1; level = l } ∷ reverse c.args.self.now.path.items) level)

pub returns-in_ok-push-in-Open-clause-state : goal.returns-in_ok-push-in-Open-clause-state
returns-in_ok-push-in-Open-clause-state c =
    let pushed = reversed_push c.args.self.now.path.items c.push-in-Open.new.self.items c.args.visit c.in_ok-push-in-Open.ensures.items in
    let needed = get_among (row c.args.needs.now c.args.visit.instance) c.args.visit.next c.in-Some.needed (sym c.next.ensures.next ∙ c.in-Some.is) in
    let marked : (slice_get c.args.self.now.marks.items c.in-Some.needed ≡ Some Open) ⊎ (slice_get c.args.self.now.marks.items c.in-Some.needed ≡ Some Doomed) = elim c.in-Open.is [
      | inl e ↦ inl (c.mark.ensures ∙ ap Some e)
      | inr e ↦ inr (c.mark.ensures ∙ ap Some e)
    ] in
    at_equal (all_are_doomed c.args.needs.now c.args.self.now.marks.items c.args.self.now.levels.items c.args.self.now.ranked c.args.visit (reverse c.args.self.now.path.items) c.in-Some.needed c.requires needed marked)
    (c.doom.ensures.marks ∙ ap (doomed c.args.self.now.marks.items) pushed) c.doom.ensures.levels c.doom.ensures.ranked (ap reverse c.doom.ensures.path)

pub returns-in_ok-push-in-Open-clause-old : goal.returns-in_ok-push-in-Open-clause-old
returns-in_ok-push-in-Open-clause-old c = keeps_equal c.args.self.now.marks.items (doomed_keeps c.args.self.now.marks.items (reverse c.push-in-Open.new.self.items)) c.doom.ensures.marks

pub returns-in_ok-push-in-Open-clause-smaller : goal.returns-in_ok-push-in-Open-clause-smaller
returns-in_ok-push-in-Open-clause-smaller c =
    let pushed = reversed_push c.args.self.now.path.items c.push-in-Open.new.self.items c.args.visit c.in_ok-push-in-Open.ensures.items in
    less_equal c.args.needs.now _ (dooming_less c.args.needs.now c.args.self.now.marks.items c.args.visit (reverse c.args.self.now.path.items) (all_within c.requires))
    (c.doom.ensures.marks ∙ ap (doomed c.args.self.now.marks.items) pushed) (ap reverse c.doom.ensures.path)
