use Rattle.std.proofs.Common.{◌≤◌, ℤ, List, ◌++◌, length, Ok, Err, refl, sym, ◌∙◌, ap, subst}
use Rattle.std.proofs.lemmas.Result.{err_from_is_err_and}
use Rattle.aol_tiler.specs.Matrices.{TilerOf}
use Rattle.aol_tiler.specs.Tiler.{IsTiler, first_entry_out}
use Rattle.aol_tiler.proofs.Entries.{length-plus_columns}
use Rattle.aol_tiler.proofs.Extends.{extends_then, extends_stops, origin_stops, paving_stops, fitting_stops, made_whole}
use Rattle.aol_tiler.proofs.Made.{mapped, room_front, room_mapped, composed_is}
use Rattle.aol_tiler.proofs.tiler.Tiler.compose.Goals as goal

pub returns-in_err-origin : goal.returns-in_err-origin
returns-in_err-origin c =
    let p = err_from_is_err_and c.from_residual.result c.from_residual.ensures.1 in
    rw (p.1, p.2, composed_is c.args.outer.now c.args.inner.now c.as_slice-start.result.now c.as_slice.result.now c.as_slice-columns.result.now c.args.outer.now.paving c.args.inner.now.paving c.args.inner.now.fitting (subst (λ (v : List ℤ). length v ≤ 12) (sym c.as_slice-start.ensures.entries) c.as_slice-start.ensures.limits.rank) (c.as_slice-start.ensures.entries ∙ ap (λ (t : TilerOf). t.origin) c.outer.view_is) (c.as_slice-columns.ensures ∙ ap (λ (t : TilerOf). t.fitting) c.outer.view_is) (c.as_slice.ensures.entries ∙ ap (λ (t : TilerOf). t.origin) c.inner.view_is) refl refl refl)
    (origin_stops _ _ _ _ c.in_err-origin.ensures)

pub returns-in_err-place : goal.returns-in_err-place
returns-in_err-place c =
    let p = err_from_is_err_and c.from_residual-in_err-place.result c.from_residual-in_err-place.ensures.1 in
    rw (p.1, p.2, composed_is c.args.outer.now c.args.inner.now c.as_slice-start.result.now c.as_slice.result.now c.as_slice-columns.result.now c.as_slice-2.result.now c.args.inner.now.paving c.args.inner.now.fitting (subst (λ (v : List ℤ). length v ≤ 12) (sym c.as_slice-start.ensures.entries) c.as_slice-start.ensures.limits.rank) (c.as_slice-start.ensures.entries ∙ ap (λ (t : TilerOf). t.origin) c.outer.view_is) (c.as_slice-columns.ensures ∙ ap (λ (t : TilerOf). t.fitting) c.outer.view_is) (c.as_slice.ensures.entries ∙ ap (λ (t : TilerOf). t.origin) c.inner.view_is) (c.as_slice-2.ensures ∙ ap (λ (t : TilerOf). t.paving) c.outer.view_is) refl refl)
    (paving_stops c.in_ok-origin.origin _ _ (sym (length-plus_columns c.as_slice-start.result.now c.as_slice-columns.result.now c.as_slice.result.now)) c.in_ok-origin.ensures _ _ _ _ _ (extends_stops _ _ _ c.as_slice-2.result.now _ _ c.in_err-place.ensures))

pub returns-in_err-place-2 : goal.returns-in_err-place-2
returns-in_err-place-2 c =
    let p = err_from_is_err_and c.from_residual-in_err-place-2.result c.from_residual-in_err-place-2.ensures.1 in
    rw (p.1, p.2, composed_is c.args.outer.now c.args.inner.now c.as_slice-start.result.now c.as_slice.result.now c.as_slice-columns.result.now c.as_slice-2.result.now c.as_slice-3.result.now c.args.inner.now.fitting (subst (λ (v : List ℤ). length v ≤ 12) (sym c.as_slice-start.ensures.entries) c.as_slice-start.ensures.limits.rank) (c.as_slice-start.ensures.entries ∙ ap (λ (t : TilerOf). t.origin) c.outer.view_is) (c.as_slice-columns.ensures ∙ ap (λ (t : TilerOf). t.fitting) c.outer.view_is) (c.as_slice.ensures.entries ∙ ap (λ (t : TilerOf). t.origin) c.inner.view_is) (c.as_slice-2.ensures ∙ ap (λ (t : TilerOf). t.paving) c.outer.view_is) (c.as_slice-3.ensures ∙ ap (λ (t : TilerOf). t.paving) c.inner.view_is) refl)
    (paving_stops c.in_ok-origin.origin _ _ (sym (length-plus_columns c.as_slice-start.result.now c.as_slice-columns.result.now c.as_slice.result.now)) c.in_ok-origin.ensures _ _ _ _ _ (extends_then c.new-paving.result c.push_copies.new.made c.push_mapped.new.made (length c.as_slice-start.result.now) c.in_ok-place.place c.as_slice-2.result.now (mapped c.as_slice-start.result.now c.as_slice-columns.result.now c.as_slice-3.result.now) (Err c.in_err-place-2.field-0.0) c.in_ok-place.ensures c.in_err-place-2.ensures))

pub returns-in_err-push_mapped : goal.returns-in_err-push_mapped
returns-in_err-push_mapped c =
    let p = err_from_is_err_and c.from_residual-in_err-push_mapped.result c.from_residual-in_err-push_mapped.ensures.1 in
    rw (p.1, p.2, composed_is c.args.outer.now c.args.inner.now c.as_slice-start.result.now c.as_slice.result.now c.as_slice-columns.result.now c.as_slice-2.result.now c.as_slice-3.result.now c.as_slice-4.result.now (subst (λ (v : List ℤ). length v ≤ 12) (sym c.as_slice-start.ensures.entries) c.as_slice-start.ensures.limits.rank) (c.as_slice-start.ensures.entries ∙ ap (λ (t : TilerOf). t.origin) c.outer.view_is) (c.as_slice-columns.ensures ∙ ap (λ (t : TilerOf). t.fitting) c.outer.view_is) (c.as_slice.ensures.entries ∙ ap (λ (t : TilerOf). t.origin) c.inner.view_is) (c.as_slice-2.ensures ∙ ap (λ (t : TilerOf). t.paving) c.outer.view_is) (c.as_slice-3.ensures ∙ ap (λ (t : TilerOf). t.paving) c.inner.view_is) (c.as_slice-4.ensures ∙ ap (λ (t : TilerOf). t.fitting) c.inner.view_is))
    (fitting_stops c.in_ok-origin.origin _ _ (sym (length-plus_columns c.as_slice-start.result.now c.as_slice-columns.result.now c.as_slice.result.now)) c.in_ok-origin.ensures c.new-paving.result c.push_mapped.new.made (c.as_slice-2.result.now ++ (mapped c.as_slice-start.result.now c.as_slice-columns.result.now c.as_slice-3.result.now)) (mapped c.as_slice-start.result.now c.as_slice-columns.result.now c.as_slice-4.result.now) c.in_ok-place-2.place c.new-paving.ensures (extends_then c.new-paving.result c.push_copies.new.made c.push_mapped.new.made (length c.as_slice-start.result.now) c.in_ok-place.place c.as_slice-2.result.now (mapped c.as_slice-start.result.now c.as_slice-columns.result.now c.as_slice-3.result.now) (Ok c.in_ok-place-2.place) c.in_ok-place.ensures c.in_ok-place-2.ensures) c.new-fitting.result c.push_mapped-2.new.made _ c.in_err-push_mapped.ensures)

pub returns : goal.returns
returns c =
    let m = made_whole c.in_ok-origin.origin _ _ (sym (length-plus_columns c.as_slice-start.result.now c.as_slice-columns.result.now c.as_slice.result.now)) c.in_ok-origin.ensures c.new-paving.result c.push_mapped.new.made (c.as_slice-2.result.now ++ (mapped c.as_slice-start.result.now c.as_slice-columns.result.now c.as_slice-3.result.now)) (mapped c.as_slice-start.result.now c.as_slice-columns.result.now c.as_slice-4.result.now) c.in_ok-place-2.place c.new-paving.ensures (extends_then c.new-paving.result c.push_copies.new.made c.push_mapped.new.made (length c.as_slice-start.result.now) c.in_ok-place.place c.as_slice-2.result.now (mapped c.as_slice-start.result.now c.as_slice-columns.result.now c.as_slice-3.result.now) (Ok c.in_ok-place-2.place) c.in_ok-place.ensures c.in_ok-place-2.ensures) c.new-fitting.result c.push_mapped-2.new.made c.in_ok-push_mapped.field-0 c.new-fitting.ensures c.in_ok-push_mapped.ensures (room_front c.as_slice-start.result.now c.as_slice-columns.result.now _ _ _ _ (c.as_slice-2.ensures ∙ ap (λ (t : TilerOf). t.paving) c.outer.view_is) (c.as_slice-3.ensures ∙ ap (λ (t : TilerOf). t.paving) c.inner.view_is) c.requires.paving_room) (room_mapped c.as_slice-start.result.now c.as_slice-columns.result.now _ _ (c.as_slice-4.ensures ∙ ap (λ (t : TilerOf). t.fitting) c.inner.view_is) (subst (λ (t : TilerOf). length t.fitting ≤ 12) c.inner.view_is c.inner.invariant.fitting)) in
    let e = composed_is c.args.outer.now c.args.inner.now c.as_slice-start.result.now c.as_slice.result.now c.as_slice-columns.result.now c.as_slice-2.result.now c.as_slice-3.result.now c.as_slice-4.result.now (subst (λ (v : List ℤ). length v ≤ 12) (sym c.as_slice-start.ensures.entries) c.as_slice-start.ensures.limits.rank) (c.as_slice-start.ensures.entries ∙ ap (λ (t : TilerOf). t.origin) c.outer.view_is) (c.as_slice-columns.ensures ∙ ap (λ (t : TilerOf). t.fitting) c.outer.view_is) (c.as_slice.ensures.entries ∙ ap (λ (t : TilerOf). t.origin) c.inner.view_is) (c.as_slice-2.ensures ∙ ap (λ (t : TilerOf). t.paving) c.outer.view_is) (c.as_slice-3.ensures ∙ ap (λ (t : TilerOf). t.paving) c.inner.view_is) (c.as_slice-4.ensures ∙ ap (λ (t : TilerOf). t.fitting) c.inner.view_is) in
    (m.0 ∙ sym e, ap first_entry_out e ∙ m.1, subst IsTiler (sym e) m.2)
