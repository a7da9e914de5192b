-- `allocate`: a new block is a row of fresh cells, and the right to give it back is the deed.
use Rattle.aol_scatter.proofs.Steps.{◌≡◌, refl, sym, ap, subst, true, false, List, [], ◌∷◌, ◌++◌, ℕ, ◌*◌, ◌<◌, ◌^◌, arith, lit<, length, replicate, length-replicate, emp, Fml, ftrue, fsep, flft, w64, ty_array, inst_fn, Val, vptr, vint, vcons, vnil, Env, WpFn, fact, fact_i, tables, ‵, raw, ◌⊛◌, prop, at_ret, ◌$◌, ◌∵◌, !, qed, by, move, keep, use0, use1, use2, use3, split, join, regoal, fsplit, fjoin, feq_l, flt_i, later, await, agg, whole, stop, fld, lit, of_opd, bin, and_then, no_more, first, exec, returns, enter, alloc_all, pass_all, free_all, look_at, get, get_in, sets, sets_last, env, yes, RattleType, owns, RefOf, usize, layout, Ptr, plain, types_at, nothing, heard, Stays, stay_dropped, walk_of, Goes-dropped, after, El, R, elτ, word, word-Good, proved_at, leaves}
use mir.Syntax.{Body}
use prog.Memory.{align, capped}
use prog.Capped.{capped_fits}
use prog.Wp.{Wp, after_seq, at_return}
use contract.BorrowLft.{◌⊑◌, ⊑_trans}
use types.Kit.{Post as After, any_q}
use types.Match.{live, vrt, in_variant}
use types.Run.{size_word, align_word, switches_on}
use types.ByLocal.{get_tag, lands_as, is}
use denote.RawPtr.{block_ptr}
use denote.Struct.Tuple.{Tuple}
use denote.Triple.Call.{calls_at}
use Rattle.std.specs.Prelude.{Some, None}
use Rattle.std.specs.Vec.Ownership.{FitsInBlock}
use Rattle.std.specs.contracts.option.Option as O
use Rattle.core.proofs.alloc.Calls.{Al, Answer-typed, Takes, at_takes, Answered, Takes-goes, Takes-gives, answers}
use Rattle.core.proofs.alloc.Shapes.{head, arm_body}
use Rattle.core.proofs.atomic.Steps.{fm}
use Rattle.core.proofs.option.Made.{Some-of, none_of}
use Rattle.core.proofs.slots.Leases.{uncapped, block_ty, block_size, block_align, args, P}
use Rattle.std_alloc.proofs.RawLayout.{as_written}
use Rattle.std_alloc.proofs.RcSteps.{Good}
use Rattle.aol_scatter.specs.Ownership.{row}
use Rattle.aol_scatter.proofs.Memory.{Pt, Bs, Mark, sz, mark, mark_made, base_made, triple_val, triple_of, of_room}
use Rattle.aol_scatter.specs.contracts.part.Deed as deed
use Rattle.aol_scatter.specs.contracts.part.allocate as f
use Rattle.aol_scatter.proofs.part.allocate.Statement.{statement}
use Rattle.aol_scatter.proofs.part.allocate.Code as code

pub allocate_spec : {M : Type 1} → statement M
allocate_spec 𝓤 𝓛 𝓜 𝓡 wired X W LX LW g d dd met md =
    let H = 𝓛.H in let 𝓣 = tables 𝓤 H 𝓜 𝓡 𝓡.env in let E : El = record { row = X; laws = LX } in let Z : Al = record { row = W; laws = LW; g = g; d = d; drops = dd } in
    let En = f.ended X W g d dd in let c = f.clauses X W g d dd 𝓛 𝓜.mem 𝓡.returns in let fn = inst_fn (args E Z) code.function in let s = sz E in
    let Alloc = RefOf (0 ∷ []) tt (plain (λ _. P E Z)) (λ _. tt) in let D = deed.the_row (R E) (P E Z) g in let Three : RattleType = Tuple (Bs E ∷ Pt E ∷ D ∷ []) in let Out = O.the_row Three in
    let hs : Stays En.signature.params En.kept = (stay_dropped Alloc yes, (stay_dropped (plain (λ _. usize)) yes, tt)) in
    proved_at 𝓛 En hs c 𝓜 𝓡 (Goes-dropped 𝓛 3 Alloc yes (λ κs x w. refl), (Goes-dropped 𝓛 3 (plain (λ _. usize)) yes (λ κs x w. refl), tt)) (f.Key.name (args E Z)) fn (code.unfolded 𝓤 H 𝓜 𝓡 wired (X, (W, tt)) d dd) (λ y are.
    let κs = y.0.0 in let qs = y.0.1 in let vss = y.0.4 in let Post = (walk_of 𝓛 En hs c).post y in
    let at = y.0.3.0.ref_ptr in let a = y.0.3.0.now in let len = y.0.3.1.0 in let al : ℕ = capped (align (elτ E)) in let τ = block_ty E len in
    let others : Fml = fsep (flft κs.1.0 qs.1.0) (fsep (flft κs.1.1.0 qs.1.1.0) ftrue) in
    qed 𝓛 (((‵ (flft κs.0 qs.0) ⊛ ‵ others) ⊛ ‵ (owns (types_at En.signature.params κs) y.0.3 vss)) ∷ raw (fact 𝓤 _) ∷ raw (fact 𝓤 (κs.1.1.0 ⊑ W.lives)) ∷ raw (fact 𝓤 (FitsInBlock (R E) len)) ∷ []) ∵
    keep ! (2 ∷ 3 ∷ 0 ∷ []) $ heard ! (κs.1.1.0 ⊑ W.lives) (λ within. heard ! (FitsInBlock (R E) len) (λ asked. split ! $ split ! $ move ! (2 ∷ []) $ fsplit ! $ fsplit ! $ feq_l ! (λ e0.
    keep ! (0 ∷ 2 ∷ 3 ∷ []) $ let fits = are.1.0.1 in let small : len * s < 2 ^ 63 = asked.0 in let bytes : len * s < 2 ^ 64 = omega (arith, small) in
    regoal ! (λ (us : List Val). prop (WpFn 𝓤 H 𝓣.C 𝓣.Λ fn us Post)) (λ i. e0 i ++ (are.1.0.0 i ++ [])) refl $
    enter ! 𝓣.C 𝓣.Λ fn (vptr at.0 at.1 ∷ vint w64 len ∷ []) Post $ alloc_all ! (λ l. pass_all ! refl ((tt, tt), ((tt, record { fits = fits }), tt)) $
    let Ev : Env 𝓤 H = env fn.locals l in let both : Body = head (after 2 fn.body) in
    let Then : After 𝓤 H = any_q (after_seq 𝓤 H (Wp 𝓤 H 𝓣.C 𝓣.Λ Ev (after 3 fn.body) (at_return 𝓤 H Ev Post)) (at_return 𝓤 H Ev Post)) in
    let asks = at_takes Z 𝓛 𝓜.mem 𝓡.returns κs.0 qs.0 at a (len * s) al τ in
    sets ! (is ! (bin ! (get ! refl) (size_word !) (record { fits = subst (λ (k : ℕ). k < 2 ^ 64) (sym (uncapped len s bytes)) bytes })) (ap (vint w64) (uncapped len s bytes))) refl (tt, record { fits = bytes }) $
    use2 𝓛 (raw ((Takes Z 𝓛 𝓜.mem 𝓡.returns).pre asks)) (Takes-goes Z 𝓛 𝓜.mem 𝓡.returns κs.0 qs.0 at a (⊑_trans κs.0 κs.1.1.0 W.lives y.0.2.0 within) (len * s) al τ (block_size E len bytes) (block_align E len) bytes (capped_fits (align (elτ E)))) $
    calls_at ! (fm 𝓛 𝓜 𝓡) (Takes Z 𝓛 𝓜.mem 𝓡.returns) (met.allocate dd) asks (and_then ! (get ! refl) (and_then ! (get ! refl) (and_then ! (align_word !) (no_more !)))) (λ v.
    use1 𝓛 (later (raw (Answered Z 𝓛 𝓜.mem 𝓡.returns a τ v) ⊛ ‵ (flft κs.0 qs.0))) (Takes-gives Z 𝓛 𝓜.mem 𝓡.returns κs.0 qs.0 at a (len * s) al τ v) $ await ! tt $ split ! $
    answers Z ! 𝓜.mem 𝓡.returns a τ v
    (λ b o e.
    let p : Ptr = block_ptr b o in let base : (Bs E).Denot = record { ptr = p } in
    let part : (Pt E).Denot = record { mark = record {}; at = p; fresh = true; cells = replicate len None } in let right : D.Denot = record { mark = record {}; at = p; len = len; alloc = a } in
    let made : Val = triple_val (word p) mark mark in let some : Val = live 1 (vcons made vnil) in
    let typed : Good (layout Three) made = (tt, ((tt, tt), ((tt, tt), ((tt, tt), tt)))) in
    let Told : Type 0 = (p ≡ p) × (true ≡ true) × (part.cells ≡ part.cells) × (p ≡ p) × (len ≡ len) × (a ≡ a) in
    lands_as ! e refl (Answer-typed true b o) $ first ! $ switches_on ! (get_tag ! (vrt ! refl (fld ! refl (stop !))) (whole !)) $ exec ! 𝓣.C 𝓣.Λ Ev (arm_body 0 both) Then $
    sets ! (of_opd ! (get_in ! (vrt ! refl (fld ! refl (stop !))) (in_variant ! 0 0 refl refl (whole !)))) refl (tt, tt) $ sets ! (of_opd ! (get ! refl)) refl (tt, tt) $
    sets ! (agg ! (and_then ! (get ! refl) (no_more !))) refl (word-Good [] p) $
    sets ! (agg ! (no_more !)) refl (tt, tt) $ sets ! (agg ! (and_then ! (get ! refl) (no_more !))) refl (tt, (tt, tt)) $
    sets ! (agg ! (no_more !)) refl (tt, tt) $ sets ! (agg ! (and_then ! (get ! refl) (no_more !))) refl (tt, (tt, tt)) $
    sets ! (agg ! (and_then ! (get ! refl) (and_then ! (get ! refl) (and_then ! (get ! refl) (no_more !))))) refl typed $
    sets_last ! (agg ! (and_then ! (lit ! tt) (and_then ! (get ! refl) (no_more !)))) refl (tt, (record { fits = lit< tt }, (typed.1, tt))) $
    exec ! 𝓣.C 𝓣.Λ Ev (after 3 fn.body) (at_ret Ev Post) $ sets ! (of_opd ! (get ! refl)) refl (tt, (record { fits = lit< tt }, (typed.1, tt))) $
    -- [the room; the token; the token of the lifetime; the others]
    move ! (1 ∷ []) $ use0 𝓛 (‵ ((Mark E).own_val (tt, tt) (mark ∷ []))) (mark_made E 𝓛) $ fjoin ! $ move ! (1 ∷ []) $
    as_written ! (ty_array (elτ E) len) b o $ use1 𝓛 (‵ (row (R E) b o true part.cells)) (of_room E 𝓛 b len o) $
    flt_i ! (length part.cells * s) (2 ^ 63) (subst (λ k. k * s < 2 ^ 63) (sym (length-replicate len None)) small) $ fjoin ! $
    use0 𝓛 (‵ ((Mark E).own_val (tt, tt) (mark ∷ []))) (mark_made E 𝓛) $ fjoin ! $ use0 𝓛 (‵ ((Bs E).own_val base (word p ∷ []))) (base_made E 𝓛 p) $
    use3 𝓛 (‵ (Three.own_val (base, part, right) (made ∷ []))) (triple_of 𝓛 (Bs E) (Pt E) D base part right (word p) mark mark) $
    use1 𝓛 (‵ (Out.own_val (Some (base, part, right)) (some ∷ []))) (Some-of 𝓛 Three (base, part, right) made) $ returns ! (look_at ! 0 refl) $ free_all ! refl $
    move ! (1 ∷ 2 ∷ []) $ join ! $ use0 𝓛 (raw (fact 𝓤 Told)) (fact_i 𝓤 Told (emp 𝓤) (refl, refl, refl, refl, refl, refl)) $ nothing ! $ nothing ! $ fjoin ! $ nothing ! $ fjoin ! $
    keep ! (2 ∷ 0 ∷ 3 ∷ 1 ∷ []) $ by ! (leaves 𝓛 En hs c y some (Some (base, part, right)) (tt, (tt, tt)) (tt, (tt, tt))))
    (λ e.
    lands_as ! e refl (Answer-typed false 0 0) $ first ! $ switches_on ! (get_tag ! (vrt ! refl (fld ! refl (stop !))) (whole !)) $ exec ! 𝓣.C 𝓣.Λ Ev (arm_body 1 both) Then $
    sets_last ! (agg ! (and_then ! (lit ! tt) (no_more !))) refl (tt, (record { fits = lit< tt }, tt)) $
    exec ! 𝓣.C 𝓣.Λ Ev (after 3 fn.body) (at_ret Ev Post) $ sets ! (of_opd ! (get ! refl)) refl (tt, (record { fits = lit< tt }, tt)) $ returns ! (look_at ! 0 refl) $ free_all ! refl $
    move ! (0 ∷ 1 ∷ []) $ join ! $ use0 𝓛 (‵ (Out.own_val None (live 0 vnil ∷ []))) (none_of 𝓛 Three) $ use0 𝓛 (raw (fact 𝓤 (Unit {0}))) (fact_i 𝓤 (Unit {0}) (emp 𝓤) tt) $ nothing ! $ nothing ! $ fjoin ! $ nothing ! $ fjoin ! $
    keep ! (3 ∷ 0 ∷ 2 ∷ 1 ∷ []) $ by ! (leaves 𝓛 En hs c y (live 0 vnil) None (tt, (tt, tt)) (tt, (tt, tt))))))))))
