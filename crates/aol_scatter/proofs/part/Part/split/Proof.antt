-- `split`: a row is parted by the numbers of its cells.
use Rattle.aol_scatter.proofs.Steps.{◌≡◌, refl, sym, subst, false, List, [], ◌∷◌, ◌++◌, ◌*◌, ◌<◌, ◌^◌, length, emp, never, id⊢, Fml, ftrue, fsep, flft, inst_fn, Val, vptr, WpFn, fact, fact_i, tables, ‵, raw, ◌⊛◌, prop, ◌$◌, ◌∵◌, !, qed, by, move, keep, use0, use1, split, join, rewrite, regoal, fsplit, fsplit3, fjoin, fjoin3, feq_i, feq_l, flt_i, flt_l, agg, no_more, and_then, returns, enter, alloc_all, pass_all, free_all, look_at, get, sets, yes, owns, SliceRefOf, u32, Ptr, in_a_block, plain, types_at, nothing, opens, closes, Stays, stay_dropped, stay_ref, walk_of, Goes-ref, Goes-dropped, El, R, args, proved_at, leaves}
use Rattle.aol_scatter.specs.Cells.{without, picked}
use Rattle.aol_scatter.specs.Ownership.{row, part_owns}
use Rattle.aol_scatter.proofs.Memory.{Pt, sz, Mark, mark, mark_made, parted, length-without, length-picked}
use Rattle.aol_scatter.specs.contracts.part.Part.split as f
use Rattle.aol_scatter.proofs.part.Part.split.Statement.{statement}
use Rattle.aol_scatter.proofs.part.Part.split.Code as code

pub split_spec : {M : Type 1} → statement M
split_spec 𝓤 𝓛 𝓜 𝓡 wired X LX =
    let H = 𝓛.H in let 𝓣 = tables 𝓤 H 𝓜 𝓡 𝓡.env in let E : El = record { row = X; laws = LX } in let P = Pt E in let s = sz E in
    let En = f.ended X in let c = f.clauses X 𝓛 𝓜.mem 𝓡.returns in let fn = inst_fn (args E) code.function in let Numbers = SliceRefOf (1 ∷ []) tt (plain (λ _. u32)) (λ _. tt) in
    let hs : Stays En.signature.params En.kept = (stay_ref (0 ∷ []) tt (plain (λ _. P)), (stay_dropped Numbers yes, tt)) in
    proved_at 𝓛 En hs c 𝓜 𝓡 (Goes-ref 𝓛 3 0 tt (plain (λ _. P)), (Goes-dropped 𝓛 3 Numbers yes (λ κs x g. refl), tt)) (f.Key.name (args E)) fn (code.unfolded 𝓤 H 𝓜 𝓡 wired (X, tt)) (λ y are.
    let κs = y.0.0 in let qs = y.0.1 in let a = y.0.3 in let vss = y.0.4 in let Post = (walk_of 𝓛 En hs c).post y in
    let b = a.0.ref_ptr.0 in let o = a.0.ref_ptr.1 in let d = a.0.now in let n = a.1.0.now in
    let others : Fml = fsep (flft κs.1.0 qs.1.0) (fsep (flft κs.1.1.0 qs.1.1.0) ftrue) in
    let new : P.Denot = record { mark = d.mark; at = d.at; fresh = false; cells = without n d.cells } in
    let r : P.Denot = record { mark = d.mark; at = d.at; fresh = false; cells = picked n d.cells } in
    let Told : Type 0 = (d.at ≡ d.at) × (false ≡ false) × (new.cells ≡ new.cells) × (d.at ≡ d.at) × (false ≡ false) × (r.cells ≡ r.cells) in
    qed 𝓛 (((‵ (flft κs.0 qs.0) ⊛ ‵ others) ⊛ ‵ (owns (types_at En.signature.params κs) a vss)) ∷ raw (fact 𝓤 _) ∷ raw (emp 𝓤) ∷ []) ∵
    split ! $ split ! $ move ! (2 ∷ []) $ fsplit ! $ fsplit3 ! $ feq_l ! (λ e0. keep ! (0 ∷ 1 ∷ 3 ∷ 4 ∷ []) $
    regoal ! (λ (us : List Val). prop (WpFn 𝓤 H 𝓣.C 𝓣.Λ fn us Post)) (λ i. e0 i ++ (are.1.0.0.0 i ++ [])) refl $
    enter ! 𝓣.C 𝓣.Λ fn _ Post $ alloc_all ! (λ l. pass_all ! refl ((tt, tt), ((tt, (tt, (record { fits = are.1.0.0.1.0 }, tt))), tt)) $
    opens ! tt P b o (λ vs. move ! (1 ∷ []) $ fsplit ! $ move ! (1 ∷ []) $
    in_a_block ! d.at (λ p. part_owns (R E) p d.fresh d.cells) (id⊢ 𝓤 (never 𝓤)) (λ b' o' e. fsplit ! $ flt_l ! (λ small.
    -- [the row; the mark; its cell; the open borrow in three; the other tokens]
    use1 𝓛 (‵ (row (R E) b' o' false new.cells) ⊛ ‵ (row (R E) b' o' false r.cells)) (parted E 𝓛 b' o' d.fresh n d.cells) $ split ! $
    flt_i ! (length new.cells * s) (2 ^ 63) (subst (λ k. k * s < 2 ^ 63) (sym (length-without 0 n d.cells)) small) $ fjoin ! $
    rewrite ! 0 (λ (p : Ptr). ‵ (part_owns (R E) p false new.cells)) (sym e) refl $ move ! (2 ∷ 0 ∷ []) $ fjoin ! $ move ! (2 ∷ 0 ∷ 3 ∷ 4 ∷ 5 ∷ []) $ closes ! tt P new vs b o $
    -- [self in two; the token; the row of the result; the other tokens]
    move ! (3 ∷ []) $ flt_i ! (length r.cells * s) (2 ^ 63) (subst (λ k. k * s < 2 ^ 63) (sym (length-picked 0 n d.cells)) small) $ fjoin ! $
    rewrite ! 0 (λ (p : Ptr). ‵ (part_owns (R E) p false r.cells)) (sym e) refl $ use0 𝓛 (‵ ((Mark E).own_val (tt, tt) (mark ∷ []))) (mark_made E 𝓛) $ fjoin ! $
    sets ! (agg ! (no_more !)) refl (tt, tt) $ sets ! (agg ! (and_then ! (get ! refl) (no_more !))) refl (tt, (tt, tt)) $ returns ! (look_at ! 0 refl) $ free_all ! refl $
    move ! (1 ∷ 2 ∷ 3 ∷ 4 ∷ []) $ feq_i ! (List Val) vss.0 (vptr b o ∷ []) e0 $ fjoin3 ! $ nothing ! $ nothing ! $ fjoin ! $ move ! (1 ∷ 0 ∷ []) $ fjoin ! $ move ! (1 ∷ 2 ∷ []) $ join ! $
    use0 𝓛 (raw (fact 𝓤 Told)) (fact_i 𝓤 Told (emp 𝓤) (refl, refl, refl, refl, refl, refl)) $ keep ! (1 ∷ 2 ∷ 3 ∷ 0 ∷ []) $ by ! (leaves 𝓛 En hs c y mark r (new, (tt, tt)) (tt, (tt, tt)))))))))
