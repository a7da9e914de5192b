use Rattle.std.proofs.Common.{◌≡◌, ℕ, length, sym, ◌∙◌, ap, arith}
use Rattle.std.proofs.lemmas.List.{take_at}
use Rattle.aol_trail.proofs.Levels.{point_length, small_point, step_there, can_step, step_length, level_next, next_from, written_back}
use Rattle.aol_trail.proofs.level.Level.go_to.Goals as goal

pub copy_from_slice-requires : goal.copy_from_slice-requires
copy_from_slice-requires c =
    let old = point_length c.self.inside.space.now c.self.inside.r.items c.self.invariant.inside in
    let new = point_length _ _ (step_there _ c.args.self.now c.args.at.now c.as_slice.result.now c.self.view_is c.as_slice.ensures.entries c.requires) in
    ap (length {A = ℕ}) c.as_mut_slice.ensures.value ∙ (old ∙ sym new)

pub write_residues-requires-clause-indices : goal.write_residues-requires-clause-indices
write_residues-requires-clause-indices c =
    small_point _ _ c.self.invariant.space_is.entry (step_there _ c.args.self.now c.args.at.now c.as_slice.result.now c.self.view_is c.as_slice.ensures.entries c.requires)

pub add_within-requires-clause-place : goal.add_within-requires-clause-place
add_within-requires-clause-place c = (can_step _ _ _ _ _ _ _ _ _ _ c.self.invariant).place_within

pub add_within-requires-clause-step : goal.add_within-requires-clause-step
add_within-requires-clause-step c = (can_step _ _ _ _ _ _ _ _ _ _ c.self.invariant).step_within

pub add_within-requires-clause-small : goal.add_within-requires-clause-small
add_within-requires-clause-small c = (can_step _ _ _ _ _ _ _ _ _ _ c.self.invariant).small

pub copy_from_slice-requires-2 : goal.copy_from_slice-requires-2
copy_from_slice-requires-2 c =
    let old = point_length c.self.inside.space.now c.self.inside.r.items c.self.invariant.inside in
    let new = point_length _ _ (step_there _ c.args.self.now c.args.at.now c.as_slice.result.now c.self.view_is c.as_slice.ensures.entries c.requires) in
    ap (length {A = ℕ}) c.as_mut_slice-2.ensures.value ∙ (old ∙ sym new)

pub invariant_of-self : goal.invariant_of-self
invariant_of-self c =
    let l = c.self.inside in
    let s = step_there _ c.args.self.now c.args.at.now c.as_slice.result.now c.self.view_is c.as_slice.ensures.entries c.requires in
    let old = point_length l.space.now l.r.items c.self.invariant.inside in
    let new = point_length _ _ s in
    let many : length c.copy_from_slice.new.self ≡ l.r.len = omega (arith, old, new, ap (length {A = ℕ}) c.copy_from_slice.ensures.after, l.r.ok.0) in
    let items = written_back c.copy_from_slice.new.self l.r.items l.r.len many ∙ c.copy_from_slice.ensures.after in
    let next = next_from c.as_slice-2.result.now l.r.items _ c.as_slice-2.ensures.value c.if-is_next.ensures in
    let added = c.add_within.ensures in
    let long : length c.add_within.new.place ≡ l.rank = ap (length {A = ℕ}) added ∙ step_length _ _ _ _ _ _ _ _ _ _ c.self.invariant in
    level_next _ _ _ _ _ _ _ _ _ _ _ _ _ c.self.invariant s next (take_at c.add_within.new.place _ l.rank long ∙ added) items
