use Rattle.std.proofs.Common.{◌≡◌, reverse, ◌∷◌, ap, sym, ◌∙◌, arith, length-set}
use Rattle.aol_depend.specs.declared.search.Mark.TheVariants.{Doomed}
use Rattle.aol_depend.specs.Search.{doomed}
use Rattle.aol_depend.proofs.Stack.{reversed_push, among_here, among_later, in_reversed}
use Rattle.aol_depend.proofs.search.Search.doom.Goals as goal

pub index_mut-requires : goal.index_mut-requires
index_mut-requires c =
    let e : reverse c.loop-visit.self.path.items ≡ c.in-Some.visit ∷ reverse c.pop.new.self.items = reversed_push c.pop.new.self.items c.loop-visit.self.path.items c.in-Some.visit c.in-Some.ensures.items in
    omega (arith, c.loop-visit.invariant.within c.in-Some.visit (in_reversed (reverse c.loop-visit.self.path.items) c.in-Some.visit (reverse c.pop.new.self.items) c.in-Some.visit e (among_here c.in-Some.visit (reverse c.pop.new.self.items))))

pub loop-visit-preserved : goal.loop-visit-preserved
loop-visit-preserved c =
    let e : reverse c.loop-visit.self.path.items ≡ c.in-Some.visit ∷ reverse c.pop.new.self.items = reversed_push c.pop.new.self.items c.loop-visit.self.path.items c.in-Some.visit c.in-Some.ensures.items in
    record {
      marks = ap (doomed c.loop-visit.self.marks.items) (sym e) ∙ c.loop-visit.invariant.marks;
      within = λ v among.
          let before = c.loop-visit.invariant.within v (in_reversed (reverse c.loop-visit.self.path.items) c.in-Some.visit (reverse c.pop.new.self.items) v e (among_later c.in-Some.visit (reverse c.pop.new.self.items) v among)) in
          omega (arith, before, length-set c.loop-visit.self.marks.items c.in-Some.visit.instance Doomed);
      levels = c.loop-visit.invariant.levels;
      ranked = c.loop-visit.invariant.ranked;
    }
