-- `put`: the cell is taken out of the row as room, and goes back with the item.
use Rattle.aol_scatter.proofs.Steps.{◌≡◌, refl, sym, subst, ◌∙◌, true, List, [], ◌∷◌, ◌++◌, ◌+◌, ◌*◌, ◌<◌, ◌^◌, arith, length, set, get_or, length-set, full_share, emp, never, id⊢, Fml, ftrue, fsep, fat, froom, flft, w64, inst_fn, Val, vptr, vint, vunit, Env, WpFn, fact, fact_i, tables, ‵, raw, ◌⊛◌, prop, at_ret, ◌$◌, ◌∵◌, !, qed, by, move, keep, use0, use1, use2, split, join, rewrite, regoal, fsplit, fsplit3, fjoin, fjoin3, feq_i, feq_l, flt_i, flt_l, whole, sub, stop, fld, unit_lit, of_opd, bin, size_lit, first, blocks, exec, init, assigns_last, returns, enter, alloc_all, pass_all, free_all, look_at, get, get_in, through, sets, take_at, give_at, env, yes, no, owns, usize, layout, Ptr, in_a_block, plain, types_at, nothing, heard, opens, closes, Stays, stay_dropped, stay_ref, walk_of, Goes-ref, Goes-dropped, after, El, R, elτ, args, one_below, times_below, word, word-Good, proved_at, leaves}
use Rattle.std.specs.Prelude.{Some, None, ◌⊎◌}
use Rattle.aol_scatter.specs.Cells.{IsHeld}
use borrow.Table.OneValue.{part_in}
use Rattle.aol_scatter.specs.Ownership.{cell_owned, row, part_owns}
use Rattle.aol_scatter.proofs.Memory.{Pt, Bs, sz, base_told, item_told, Others, cell_out, cell_in, cell_room}
use Rattle.aol_scatter.specs.contracts.part.Part.put as f
use Rattle.aol_scatter.proofs.part.Part.put.Statement.{statement}
use Rattle.aol_scatter.proofs.part.Part.put.Code as code

pub put_spec : {M : Type 1} → statement M
put_spec 𝓤 𝓛 𝓜 𝓡 wired X LX =
    let H = 𝓛.H in let 𝓣 = tables 𝓤 H 𝓜 𝓡 𝓡.env in let E : El = record { row = X; laws = LX } in let P = Pt E in let s = sz E in
    let En = f.ended X in let c = f.clauses X 𝓛 𝓜.mem 𝓡.returns in let fn = inst_fn (args E) code.function in
    let hs : Stays En.signature.params En.kept = (stay_ref (0 ∷ []) tt (plain (λ _. P)), (stay_dropped (plain (λ _. Bs E)) no, (stay_dropped (plain (λ _. usize)) yes, (stay_dropped (plain (λ _. R E)) no, tt)))) in
    proved_at 𝓛 En hs c 𝓜 𝓡 (Goes-ref 𝓛 2 0 tt (plain (λ _. P)), (Goes-dropped 𝓛 2 (plain (λ _. Bs E)) no (λ κs x g. refl), (Goes-dropped 𝓛 2 (plain (λ _. usize)) yes (λ κs x g. refl), (Goes-dropped 𝓛 2 (plain (λ _. R E)) no (λ κs x g. refl), tt))))
    (f.Key.name (args E)) fn (code.unfolded 𝓤 H 𝓜 𝓡 wired (X, tt)) (λ y are.
    let κs = y.0.0 in let qs = y.0.1 in let a = y.0.3 in let vss = y.0.4 in let Post = (walk_of 𝓛 En hs c).post y in
    let b = a.0.ref_ptr.0 in let o = a.0.ref_ptr.1 in let d = a.0.now in let base = a.1.0 in let index = a.1.1.0 in let item = a.1.1.1.0 in
    let others : Fml = fsep (flft κs.1.0 qs.1.0) ftrue in
    let Asked : Type 0 = (base.ptr ≡ d.at) × (index < length d.cells) × ((d.fresh ≡ true) ⊎ IsHeld d.cells index) in
    let new : P.Denot = record { mark = d.mark; at = d.at; fresh = d.fresh; cells = set d.cells index (Some item) } in
    let Told : Type 0 = (d.at ≡ d.at) × (d.fresh ≡ d.fresh) × (new.cells ≡ new.cells) in
    qed 𝓛 (((‵ (flft κs.0 qs.0) ⊛ ‵ others) ⊛ ‵ (owns (types_at En.signature.params κs) a vss)) ∷ raw (fact 𝓤 _) ∷ raw (fact 𝓤 Asked) ∷ []) ∵
    keep ! (2 ∷ 0 ∷ []) $ heard ! Asked (λ asked. split ! $ split ! $ move ! (2 ∷ []) $ fsplit ! $ fsplit3 ! $ feq_l ! (λ e0.
    move ! (2 ∷ []) $ fsplit ! $ move ! (1 ∷ []) $ fsplit ! $ move ! (1 ∷ []) $ fsplit ! $ keep ! (4 ∷ 5 ∷ 6 ∷ 7 ∷ 0 ∷ []) $
    let told = item_told E 𝓛 item vss.1.1.1.0 are.1.1.1.0 in let v = told.0 in let good = told.1.1 in let fits = are.1.1.0.1 in rewrite ! 4 (λ (us : List Val). ‵ ((R E).own_val item us)) told.1.0 refl $
    regoal ! (λ (us : List Val). prop (WpFn 𝓤 H 𝓣.C 𝓣.Λ fn us Post)) (λ i. e0 i ++ (base_told E base vss.1.0 are.1.0 i ++ (are.1.1.0.0 i ++ (told.1.0 i ++ [])))) refl $
    enter ! 𝓣.C 𝓣.Λ fn (vptr b o ∷ word base.ptr ∷ vint w64 index ∷ v ∷ []) Post $ alloc_all ! (λ l. pass_all ! refl ((tt, tt), (word-Good [] base.ptr, ((tt, record { fits = fits }), (good, tt)))) $
    let Ev : Env 𝓤 H = env fn.locals l in
    opens ! tt P b o (λ vs. move ! (1 ∷ []) $ fsplit ! $ move ! (1 ∷ []) $
    in_a_block ! d.at (λ p. part_owns (R E) p d.fresh d.cells) (id⊢ 𝓤 (never 𝓤)) (λ b' o' e. fsplit ! $ flt_l ! (λ small.
    let tiny : s < 2 ^ 64 = omega (arith, one_below (length d.cells) s (2 ^ 63) (omega (arith, asked.1)) small) in
    let far : index * s < 2 ^ 64 = omega (arith, times_below index (length d.cells) s (2 ^ 63) (omega (arith, asked.1)) small) in
    take_at ! 2 $ rewrite ! 0 (λ (p : Ptr). ‵ (fat full_share (layout (Bs E)) (l 2) 0 (word p))) (asked.0 ∙ e) refl $ give_at ! 2 $ first ! $ blocks ! $
    sets ! (bin ! (get ! refl) (size_lit ! (record { fits = tiny })) (record { fits = far })) refl (tt, record { fits = far }) $
    sets ! (bin ! (get_in ! (fld ! refl (stop !)) (sub ! 0 refl (whole !))) (get ! refl) tt) refl (tt, tt) $
    let at = index * s + o' in use1 𝓛 (‵ (cell_owned (R E) b' at d.fresh (get_or d.cells index None)) ⊛ ‵ (Others E 𝓛 b' o' d.fresh d.cells index)) (cell_out E 𝓛 b' o' d.fresh d.cells index at refl asked.1) $ split ! $
    use1 𝓛 (‵ (froom (elτ E) b' at)) (cell_room E 𝓛 b' at d.fresh (get_or d.cells index None) asked.2) $
    -- [the room; the other cells; the mark; its cell; the open borrow in three; the other tokens; the item]
    sets ! (of_opd ! (get ! refl)) refl good $ assigns_last ! (of_opd ! (get ! refl)) (through ! refl (stop !)) (init ! 0 refl good) $
    exec ! 𝓣.C 𝓣.Λ Ev (after 1 fn.body) (at_ret Ev Post) $ sets ! (of_opd ! (unit_lit !)) refl (tt, tt) $
    move ! (0 ∷ 8 ∷ []) $ use2 𝓛 (‵ (cell_owned (R E) b' at d.fresh (Some item))) (part_in 𝓛 (R E) refl full_share item b' at v) $
    use2 𝓛 (‵ (row (R E) b' o' d.fresh new.cells)) (cell_in E 𝓛 b' o' d.fresh d.cells index at refl asked.1 (Some item)) $
    flt_i ! (length new.cells * s) (2 ^ 63) (subst (λ k. k * s < 2 ^ 63) (sym (length-set d.cells index (Some item))) small) $ fjoin ! $
    rewrite ! 0 (λ (p : Ptr). ‵ (part_owns (R E) p d.fresh new.cells)) (sym e) refl $ move ! (1 ∷ 0 ∷ []) $ fjoin ! $ move ! (1 ∷ 0 ∷ []) $ closes ! tt P new vs b o $
    returns ! (look_at ! 0 refl) $ free_all ! refl $
    feq_i ! (List Val) vss.0 (vptr b o ∷ []) e0 $ fjoin3 ! $ nothing ! $ nothing ! $ fjoin ! $ nothing ! $ fjoin ! $ nothing ! $ fjoin ! $ move ! (1 ∷ 0 ∷ []) $ fjoin ! $ move ! (1 ∷ 2 ∷ []) $ join ! $
    use0 𝓛 (raw (fact 𝓤 Told)) (fact_i 𝓤 Told (emp 𝓤) (refl, refl, refl)) $ feq_i ! (List Val) (vunit ∷ []) (vunit ∷ []) refl $
    keep ! (2 ∷ 3 ∷ 0 ∷ 1 ∷ []) $ by ! (leaves 𝓛 En hs c y vunit tt (new, (tt, (tt, (tt, tt)))) (tt, (tt, (tt, (tt, tt))))))))))))
