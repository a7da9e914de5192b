use Rattle.std.proofs.Common.{◌≡◌, ℕ, List, [], ◌∷◌, ◌++◌, sym, subst}
use Rattle.std.specs.Prelude.{slice_set}
use Rattle.aol_equiv.specs.declared.leads.Lead.TheVariants.{Copies, Nowhere}
use Rattle.aol_equiv.specs.Resolved.{IsPath}
use Rattle.aol_equiv.proofs.Paths.{fewer_copies, lead_there, there_lead, step_path}
use Rattle.aol_equiv.proofs.resolve.follow.Goals as goal

pub loop-leads-smaller : goal.loop-leads-smaller
loop-leads-smaller c = fewer_copies c.loop-leads.leads c.loop-leads.cell c.in-Copies.next (lead_there c.loop-leads.leads c.loop-leads.cell _ (Copies c.in-Copies.next) c.loop-leads.invariant.inside c.in-Copies.is)

pub loop-leads-preserved : goal.loop-leads-preserved
loop-leads-preserved c =
    let at = lead_there c.loop-leads.leads c.loop-leads.cell _ (Copies c.in-Copies.next) c.loop-leads.invariant.inside c.in-Copies.is in
    let e : c.push.new.self.items ≡ c.loop-leads.path.items ++ c.loop-leads.cell ∷ [] = c.in_ok-push.ensures.items in
    let P : List ℕ → Type 0 = λ path. IsPath c.args.leads.now (slice_set c.loop-leads.leads c.loop-leads.cell Nowhere) path c.args.start c.in-Copies.next in
    subst P (sym e) (step_path c.args.leads.now c.loop-leads.leads c.loop-leads.path.items c.args.start c.loop-leads.cell c.loop-leads.invariant c.in-Copies.next at c.requires.within)

pub returns : goal.returns
returns c = record {
  path_to = c.loop-leads.invariant;
  stopped = λ d h. c.in_default.not-Copies d (there_lead c.loop-leads.leads c.loop-leads.cell _ (Copies d) h);
}
