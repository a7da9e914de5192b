-- `join`: the rows of two parts of one block make one row.
use Rattle.aol_scatter.proofs.Steps.{◌≡◌, refl, sym, subst, ◌∙◌, false, List, [], ◌∷◌, ◌++◌, ◌*◌, ◌<◌, ◌^◌, length, emp, never, id⊢, Fml, ftrue, fsep, flft, inst_fn, Val, vptr, vunit, WpFn, fact, fact_i, tables, ‵, raw, ◌⊛◌, prop, ◌$◌, ◌∵◌, !, qed, by, move, keep, use0, use2, split, join, rewrite, regoal, fsplit, fsplit3, fjoin, fjoin3, feq_i, feq_l, flt_i, flt_l, unit_lit, of_opd, returns, enter, alloc_all, pass_all, free_all, look_at, sets, no, owns, Ptr, in_a_block, plain, types_at, nothing, heard, opens, closes, Stays, stay_dropped, stay_ref, walk_of, Goes-ref, Goes-blank, El, R, args, proved_at, leaves}
use Rattle.aol_scatter.specs.Cells.{merged}
use Rattle.aol_scatter.specs.Ownership.{row, part_owns}
use Rattle.aol_scatter.proofs.Memory.{Pt, sz, mark, mark_told, united, length-merged}
use Rattle.aol_scatter.specs.contracts.part.Part.join as f
use Rattle.aol_scatter.proofs.part.Part.join.Statement.{statement}
use Rattle.aol_scatter.proofs.part.Part.join.Code as code

pub join_spec : {M : Type 1} → statement M
join_spec 𝓤 𝓛 𝓜 𝓡 wired X LX =
    let H = 𝓛.H in let 𝓣 = tables 𝓤 H 𝓜 𝓡 𝓡.env in let E : El = record { row = X; laws = LX } in let P = Pt E in
    let En = f.ended X in let c = f.clauses X 𝓛 𝓜.mem 𝓡.returns in let fn = inst_fn (args E) code.function in
    let hs : Stays En.signature.params En.kept = (stay_ref (0 ∷ []) tt (plain (λ _. P)), (stay_dropped (plain (λ _. P)) no, tt)) in
    proved_at 𝓛 En hs c 𝓜 𝓡 (Goes-ref 𝓛 2 0 tt (plain (λ _. P)), (Goes-blank 𝓛 2 (plain (λ _. P)) no (λ κs x g. tt), tt)) (f.Key.name (args E)) fn (code.unfolded 𝓤 H 𝓜 𝓡 wired (X, tt)) (λ y are.
    let κs = y.0.0 in let qs = y.0.1 in let a = y.0.3 in let vss = y.0.4 in let Post = (walk_of 𝓛 En hs c).post y in
    let b = a.0.ref_ptr.0 in let o = a.0.ref_ptr.1 in let d = a.0.now in let other = a.1.0 in let s = sz E in
    let others : Fml = fsep (flft κs.1.0 qs.1.0) ftrue in
    let Asked : Type 0 = (other.at ≡ d.at) × (length other.cells ≡ length d.cells) in
    let new : P.Denot = record { mark = d.mark; at = d.at; fresh = false; cells = merged d.cells other.cells } in
    let Told : Type 0 = (d.at ≡ d.at) × (false ≡ false) × (new.cells ≡ new.cells) in
    qed 𝓛 (((‵ (flft κs.0 qs.0) ⊛ ‵ others) ⊛ ‵ (owns (types_at En.signature.params κs) a vss)) ∷ raw (fact 𝓤 _) ∷ raw (fact 𝓤 Asked) ∷ []) ∵
    keep ! (2 ∷ 0 ∷ []) $ heard ! Asked (λ asked. split ! $ split ! $ move ! (2 ∷ []) $ fsplit ! $ fsplit3 ! $ feq_l ! (λ e0.
    move ! (2 ∷ []) $ fsplit ! $ fsplit ! $ keep ! (3 ∷ 4 ∷ 5 ∷ 6 ∷ 1 ∷ []) $
    regoal ! (λ (us : List Val). prop (WpFn 𝓤 H 𝓣.C 𝓣.Λ fn us Post)) (λ i. e0 i ++ (mark_told E vss.1.0 are.1.0.0 i ++ [])) refl $
    enter ! 𝓣.C 𝓣.Λ fn (vptr b o ∷ mark ∷ []) Post $ alloc_all ! (λ l. pass_all ! refl ((tt, tt), ((tt, (tt, tt)), tt)) $
    opens ! tt P b o (λ vs. move ! (1 ∷ []) $ fsplit ! $ move ! (1 ∷ []) $
    in_a_block ! d.at (λ p. part_owns (R E) p d.fresh d.cells) (id⊢ 𝓤 (never 𝓤)) (λ b' o' e. fsplit ! $ flt_l ! (λ small.
    -- [the row; the mark; its cell; the open borrow in three; the other tokens; the other part]
    move ! (7 ∷ []) $ rewrite ! 0 (λ (p : Ptr). ‵ (part_owns (R E) p other.fresh other.cells)) (asked.0 ∙ e) refl $ fsplit ! $ flt_l ! (λ fit. move ! (1 ∷ 0 ∷ []) $
    use2 𝓛 (‵ (row (R E) b' o' false new.cells)) (united E 𝓛 b' o' d.fresh other.fresh d.cells other.cells) $
    flt_i ! (length new.cells * s) (2 ^ 63) (subst (λ k. k * s < 2 ^ 63) (sym (length-merged d.cells other.cells)) small) $ fjoin ! $
    rewrite ! 0 (λ (p : Ptr). ‵ (part_owns (R E) p false new.cells)) (sym e) refl $ move ! (1 ∷ 0 ∷ []) $ fjoin ! $ move ! (1 ∷ 0 ∷ []) $ closes ! tt P new vs b o $
    sets ! (of_opd ! (unit_lit !)) refl (tt, tt) $ returns ! (look_at ! 0 refl) $ free_all ! refl $
    feq_i ! (List Val) vss.0 (vptr b o ∷ []) e0 $ fjoin3 ! $ nothing ! $ nothing ! $ fjoin ! $ move ! (1 ∷ 0 ∷ []) $ fjoin ! $ move ! (1 ∷ 2 ∷ []) $ join ! $
    use0 𝓛 (raw (fact 𝓤 Told)) (fact_i 𝓤 Told (emp 𝓤) (refl, refl, refl)) $ feq_i ! (List Val) (vunit ∷ []) (vunit ∷ []) refl $
    keep ! (2 ∷ 3 ∷ 0 ∷ 1 ∷ []) $ by ! (leaves 𝓛 En hs c y vunit tt (new, (tt, tt)) (tt, (tt, tt)))))))))))
