use Rattle.std.proofs.Common.{◌≡◌, ℕ, [], ◌∷◌, List, reverse, slice_get, set, Some, ap, sym, ◌∙◌, refl}
use Rattle.std.proofs.lemmas.Option.{slice_get_within}
use Rattle.std.proofs.lemmas.Result.{on_ok_weaker}
use Rattle.aol_depend.specs.declared.search.Mark.{Mark}
use Rattle.aol_depend.specs.declared.search.Mark.TheVariants.{New, Open}
use Rattle.aol_depend.specs.Search.{KeepsOld}
use Rattle.aol_depend.proofs.Entering.{entered, first_visit}
use Rattle.aol_depend.proofs.Moves.{at_equal, get-set_same, unlike}
use Rattle.aol_depend.proofs.Stack.{reversed_push}
use Rattle.aol_depend.proofs.Steps.{set_keeps, keeps_equal}
use Rattle.aol_depend.proofs.search.Search.reach.Goals as goal

-- entering makes nothing new, and the instance is no longer new
record HasEntered (marks others : List Mark) (instance : ℕ) : Type 0 where
  old : KeepsOld marks others
  here : slice_get others instance ≡ Some Open

has_entered : (marks others : List Mark) (instance : ℕ) → slice_get marks instance ≡ Some New → others ≡ set marks instance Open → HasEntered marks others instance
has_entered marks others instance at is = record {
  old = keeps_equal marks (set_keeps marks instance New Open at (λ e. cc)) is;
  here = ap (λ ms. slice_get ms instance) is ∙ get-set_same marks instance Open (slice_get_within marks instance New at);
}

pub returns-in_err-enter-clause-old : goal.returns-in_err-enter-clause-old
returns-in_err-enter-clause-old c = (has_entered c.args.self.now.marks.items c.enter.new.self.marks.items c.args.instance (c.mark.ensures ∙ ap Some c.in-New.is) c.enter.ensures.marks).old

pub settle-requires : goal.settle-requires
settle-requires c =
    let empty : reverse c.args.self.now.path.items ≡ [] = ap reverse c.requires.path in
    let e = entered c.args.needs.now c.args.self.now.marks.items c.args.self.now.levels.items c.args.self.now.ranked c.args.instance [] (at_equal c.requires.state refl refl refl (sym empty)) (c.mark.ensures ∙ ap Some c.in-New.is) tt in
    let st = reversed_push c.args.self.now.path.items c.enter.new.self.path.items (first_visit c.args.instance) c.in_ok-enter.ensures.path in
    at_equal e c.enter.ensures.marks c.enter.ensures.levels c.enter.ensures.ranked (st ∙ ap (λ vs. first_visit c.args.instance ∷ vs) empty)

pub returns-in-New-clause-old : goal.returns-in-New-clause-old
returns-in-New-clause-old c = λ j new.
    (has_entered c.args.self.now.marks.items c.enter.new.self.marks.items c.args.instance (c.mark.ensures ∙ ap Some c.in-New.is) c.enter.ensures.marks).old j (c.settle.ensures.old j new)

pub returns-in-New-clause-reached : goal.returns-in-New-clause-reached
returns-in-New-clause-reached c =
    let h = has_entered c.args.self.now.marks.items c.enter.new.self.marks.items c.args.instance (c.mark.ensures ∙ ap Some c.in-New.is) c.enter.ensures.marks in
    on_ok_weaker c.settle.result (λ done new. (let e = unlike c.enter.new.self.marks.items c.args.instance Open New h.here (c.settle.ensures.old c.args.instance new) in cc)) c.settle.ensures.path
