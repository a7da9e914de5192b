use Rattle.std.proofs.Common.{◌≤◌, ℤ, List, ◌++◌, length, Ok, Err, refl, sym, ◌∙◌, ap, subst}
use Rattle.std.proofs.lemmas.Result.{err_from_is_err_and}
use Rattle.aol_tiler.specs.Matrices.{TilerOf}
use Rattle.aol_tiler.specs.Tiler.{IsTiler, first_entry_out}
use Rattle.aol_tiler.proofs.Entries.{length-plus_columns}
use Rattle.aol_tiler.proofs.Extends.{extends_then, extends_stops, origin_stops, paving_stops, fitting_stops, made_whole}
use Rattle.aol_tiler.proofs.Made.{mapped, room_back, room_mapped, substituted_is}
use Rattle.aol_tiler.proofs.tiler.Tiler.substituted.Goals as goal

pub returns-in_err-origin : goal.returns-in_err-origin
returns-in_err-origin c =
    let p = err_from_is_err_and c.from_residual.result c.from_residual.ensures.1 in
    rw (p.1, p.2, substituted_is c.args.self.now c.args.by.now c.as_slice-start.result.now c.as_slice.result.now c.as_slice-columns.result.now c.args.by.now.paving c.args.by.now.fitting c.args.self.now.fitting (subst (λ (v : List ℤ). length v ≤ 12) (sym c.as_slice-start.ensures.entries) c.as_slice-start.ensures.limits.rank) (c.as_slice-start.ensures.entries ∙ ap (λ (t : TilerOf). t.origin) c.self.view_is) (c.as_slice-columns.ensures ∙ ap (λ (t : TilerOf). t.paving) c.self.view_is) (c.as_slice.ensures.entries ∙ ap (λ (t : TilerOf). t.origin) c.by.view_is) refl refl refl)
    (origin_stops _ _ _ _ c.in_err-origin.ensures)

pub returns-in_err-place : goal.returns-in_err-place
returns-in_err-place c =
    let p = err_from_is_err_and c.from_residual-in_err-place.result c.from_residual-in_err-place.ensures.1 in
    rw (p.1, p.2, substituted_is c.args.self.now c.args.by.now c.as_slice-start.result.now c.as_slice.result.now c.as_slice-columns.result.now c.as_slice-2.result.now c.args.by.now.fitting c.args.self.now.fitting (subst (λ (v : List ℤ). length v ≤ 12) (sym c.as_slice-start.ensures.entries) c.as_slice-start.ensures.limits.rank) (c.as_slice-start.ensures.entries ∙ ap (λ (t : TilerOf). t.origin) c.self.view_is) (c.as_slice-columns.ensures ∙ ap (λ (t : TilerOf). t.paving) c.self.view_is) (c.as_slice.ensures.entries ∙ ap (λ (t : TilerOf). t.origin) c.by.view_is) (c.as_slice-2.ensures ∙ ap (λ (t : TilerOf). t.paving) c.by.view_is) refl refl)
    (paving_stops c.in_ok-origin.origin _ _ (sym (length-plus_columns c.as_slice-start.result.now c.as_slice-columns.result.now c.as_slice.result.now)) c.in_ok-origin.ensures _ _ _ _ _ c.in_err-place.ensures)

pub returns-in_err-place-2 : goal.returns-in_err-place-2
returns-in_err-place-2 c =
    let p = err_from_is_err_and c.from_residual-in_err-place-2.result c.from_residual-in_err-place-2.ensures.1 in
    rw (p.1, p.2, substituted_is c.args.self.now c.args.by.now c.as_slice-start.result.now c.as_slice.result.now c.as_slice-columns.result.now c.as_slice-2.result.now c.as_slice-3.result.now c.args.self.now.fitting (subst (λ (v : List ℤ). length v ≤ 12) (sym c.as_slice-start.ensures.entries) c.as_slice-start.ensures.limits.rank) (c.as_slice-start.ensures.entries ∙ ap (λ (t : TilerOf). t.origin) c.self.view_is) (c.as_slice-columns.ensures ∙ ap (λ (t : TilerOf). t.paving) c.self.view_is) (c.as_slice.ensures.entries ∙ ap (λ (t : TilerOf). t.origin) c.by.view_is) (c.as_slice-2.ensures ∙ ap (λ (t : TilerOf). t.paving) c.by.view_is) (c.as_slice-3.ensures ∙ ap (λ (t : TilerOf). t.fitting) c.by.view_is) refl)
    (fitting_stops c.in_ok-origin.origin _ _ (sym (length-plus_columns c.as_slice-start.result.now c.as_slice-columns.result.now c.as_slice.result.now)) c.in_ok-origin.ensures c.new-paving.result c.push_mapped.new.made (mapped c.as_slice-start.result.now c.as_slice-columns.result.now c.as_slice-2.result.now) _ c.in_ok-place.place c.new-paving.ensures c.in_ok-place.ensures _ _ _ (extends_stops _ _ _ (mapped c.as_slice-start.result.now c.as_slice-columns.result.now c.as_slice-3.result.now) _ _ c.in_err-place-2.ensures))

pub returns-in_err-push_copies : goal.returns-in_err-push_copies
returns-in_err-push_copies c =
    let p = err_from_is_err_and c.from_residual-in_err-push_copies.result c.from_residual-in_err-push_copies.ensures.1 in
    rw (p.1, p.2, substituted_is c.args.self.now c.args.by.now c.as_slice-start.result.now c.as_slice.result.now c.as_slice-columns.result.now c.as_slice-2.result.now c.as_slice-3.result.now c.as_slice-4.result.now (subst (λ (v : List ℤ). length v ≤ 12) (sym c.as_slice-start.ensures.entries) c.as_slice-start.ensures.limits.rank) (c.as_slice-start.ensures.entries ∙ ap (λ (t : TilerOf). t.origin) c.self.view_is) (c.as_slice-columns.ensures ∙ ap (λ (t : TilerOf). t.paving) c.self.view_is) (c.as_slice.ensures.entries ∙ ap (λ (t : TilerOf). t.origin) c.by.view_is) (c.as_slice-2.ensures ∙ ap (λ (t : TilerOf). t.paving) c.by.view_is) (c.as_slice-3.ensures ∙ ap (λ (t : TilerOf). t.fitting) c.by.view_is) (c.as_slice-4.ensures ∙ ap (λ (t : TilerOf). t.fitting) c.self.view_is))
    (fitting_stops c.in_ok-origin.origin _ _ (sym (length-plus_columns c.as_slice-start.result.now c.as_slice-columns.result.now c.as_slice.result.now)) c.in_ok-origin.ensures c.new-paving.result c.push_mapped.new.made (mapped c.as_slice-start.result.now c.as_slice-columns.result.now c.as_slice-2.result.now) ((mapped c.as_slice-start.result.now c.as_slice-columns.result.now c.as_slice-3.result.now) ++ c.as_slice-4.result.now) c.in_ok-place.place c.new-paving.ensures c.in_ok-place.ensures c.new-fitting.result c.push_copies.new.made _ (extends_then c.new-fitting.result c.push_mapped-2.new.made c.push_copies.new.made c.in_ok-place.place c.in_ok-place-2.place (mapped c.as_slice-start.result.now c.as_slice-columns.result.now c.as_slice-3.result.now) c.as_slice-4.result.now (Err c.in_err-push_copies.field-0.0) c.in_ok-place-2.ensures c.in_err-push_copies.ensures))

pub returns : goal.returns
returns c =
    let m = made_whole c.in_ok-origin.origin _ _ (sym (length-plus_columns c.as_slice-start.result.now c.as_slice-columns.result.now c.as_slice.result.now)) c.in_ok-origin.ensures c.new-paving.result c.push_mapped.new.made (mapped c.as_slice-start.result.now c.as_slice-columns.result.now c.as_slice-2.result.now) ((mapped c.as_slice-start.result.now c.as_slice-columns.result.now c.as_slice-3.result.now) ++ c.as_slice-4.result.now) c.in_ok-place.place c.new-paving.ensures c.in_ok-place.ensures c.new-fitting.result c.push_copies.new.made c.in_ok-push_copies.field-0 c.new-fitting.ensures (extends_then c.new-fitting.result c.push_mapped-2.new.made c.push_copies.new.made c.in_ok-place.place c.in_ok-place-2.place (mapped c.as_slice-start.result.now c.as_slice-columns.result.now c.as_slice-3.result.now) c.as_slice-4.result.now (Ok c.in_ok-push_copies.field-0) c.in_ok-place-2.ensures c.in_ok-push_copies.ensures) (room_mapped c.as_slice-start.result.now c.as_slice-columns.result.now _ _ (c.as_slice-2.ensures ∙ ap (λ (t : TilerOf). t.paving) c.by.view_is) (subst (λ (t : TilerOf). length t.paving ≤ 12) c.by.view_is c.by.invariant.paving)) (room_back c.as_slice-start.result.now c.as_slice-columns.result.now _ _ _ _ (c.as_slice-3.ensures ∙ ap (λ (t : TilerOf). t.fitting) c.by.view_is) (c.as_slice-4.ensures ∙ ap (λ (t : TilerOf). t.fitting) c.self.view_is) c.requires.fitting_room) in
    let e = substituted_is c.args.self.now c.args.by.now c.as_slice-start.result.now c.as_slice.result.now c.as_slice-columns.result.now c.as_slice-2.result.now c.as_slice-3.result.now c.as_slice-4.result.now (subst (λ (v : List ℤ). length v ≤ 12) (sym c.as_slice-start.ensures.entries) c.as_slice-start.ensures.limits.rank) (c.as_slice-start.ensures.entries ∙ ap (λ (t : TilerOf). t.origin) c.self.view_is) (c.as_slice-columns.ensures ∙ ap (λ (t : TilerOf). t.paving) c.self.view_is) (c.as_slice.ensures.entries ∙ ap (λ (t : TilerOf). t.origin) c.by.view_is) (c.as_slice-2.ensures ∙ ap (λ (t : TilerOf). t.paving) c.by.view_is) (c.as_slice-3.ensures ∙ ap (λ (t : TilerOf). t.fitting) c.by.view_is) (c.as_slice-4.ensures ∙ ap (λ (t : TilerOf). t.fitting) c.self.view_is) in
    (m.0 ∙ sym e, ap first_entry_out e ∙ m.1, subst IsTiler (sym e) m.2)
