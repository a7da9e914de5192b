-- `deallocate`: the cells become room again, which goes back with the allocator's token.
use Rattle.aol_scatter.proofs.Steps.{◌≡◌, refl, sym, ap, subst, ◌∙◌, List, [], ◌∷◌, ◌++◌, ℕ, ◌*◌, ◌<◌, ◌^◌, arith, length, never, id⊢, Fml, ftrue, fsep, froom, flft, w64, ty_array, inst_fn, Val, vptr, vint, vunit, Env, WpFn, fact, tables, ‵, raw, ◌⊛◌, prop, at_ret, ◌$◌, ◌∵◌, !, qed, by, move, keep, use1, split, join, rewrite, regoal, fsplit, fjoin, feq_i, feq_l, flt_l, given, later, learn, await, group, whole, sub, stop, fld, unit_lit, of_opd, bin, and_then, no_more, first, blocks, exec, returns, enter, alloc_all, pass_all, free_all, look_at, get, get_in, sets, env, yes, no, owns, RefOf, usize, Ptr, in_a_block, plain, types_at, nothing, heard, Stays, stay_dropped, walk_of, Goes-dropped, Goes-blank, after, El, R, elτ, word, word-Good, proved_at, leaves}
use lib.Dec.{T}
use mir.Syntax.{ty_unit}
use mir.Val.{has_ty, WT}
use prog.Memory.{align, capped}
use prog.Capped.{capped_fits}
use contract.BorrowLft.{◌⊑◌, ⊑_trans}
use types.Run.{size_word, align_word}
use types.ByLocal.{is, lands_last}
use denote.RawPtr.{ptr_val}
use denote.Triple.Call.{calls_at_last}
use Rattle.core.proofs.alloc.Calls.{Al, token, Gives, at_gives, Gives-goes, Gives-Gives}
use Rattle.core.proofs.atomic.Steps.{fm}
use Rattle.core.proofs.slots.Leases.{uncapped, block_ty, block_size, block_align, args, P}
use Rattle.std_alloc.proofs.RawLayout.{as_raw}
use Rattle.aol_scatter.specs.Cells.{IsWhole}
use Rattle.aol_scatter.specs.Ownership.{part_owns, deed_owns}
use Rattle.aol_scatter.proofs.Memory.{Pt, Bs, sz, mark, mark_told, base_told, to_room}
use Rattle.aol_scatter.specs.contracts.part.Deed as deed
use Rattle.aol_scatter.specs.contracts.part.deallocate as f
use Rattle.aol_scatter.proofs.part.deallocate.Statement.{statement}
use Rattle.aol_scatter.proofs.part.deallocate.Code as code

pub deallocate_spec : {M : Type 1} → statement M
deallocate_spec 𝓤 𝓛 𝓜 𝓡 wired X W LX LW g d dd met md =
    let H = 𝓛.H in let 𝓣 = tables 𝓤 H 𝓜 𝓡 𝓡.env in let E : El = record { row = X; laws = LX } in let Z : Al = record { row = W; laws = LW; g = g; d = d; drops = dd } in
    let En = f.ended X W g d dd in let c = f.clauses X W g d dd 𝓛 𝓜.mem 𝓡.returns in let fn = inst_fn (args E Z) code.function in let s = sz E in
    let Alloc = RefOf (0 ∷ []) tt (plain (λ _. P E Z)) (λ _. tt) in let D = deed.the_row (R E) (P E Z) g in
    let hs : Stays En.signature.params En.kept = (stay_dropped Alloc yes, (stay_dropped (plain (λ _. Bs E)) no, (stay_dropped (plain (λ _. usize)) yes, (stay_dropped (plain (λ _. Pt E)) no, (stay_dropped (plain (λ _. D)) no, tt))))) in
    proved_at 𝓛 En hs c 𝓜 𝓡 (Goes-dropped 𝓛 3 Alloc yes (λ κs x w. refl), (Goes-dropped 𝓛 3 (plain (λ _. Bs E)) no (λ κs x w. refl), (Goes-dropped 𝓛 3 (plain (λ _. usize)) yes (λ κs x w. refl), (Goes-blank 𝓛 3 (plain (λ _. Pt E)) no (λ κs x w. tt), (Goes-blank 𝓛 3 (plain (λ _. D)) no (λ κs x w. tt), tt)))))
    (f.Key.name (args E Z)) fn (code.unfolded 𝓤 H 𝓜 𝓡 wired (X, (W, tt)) d dd) (λ y are.
    let κs = y.0.0 in let qs = y.0.1 in let v = y.0.3 in let vss = y.0.4 in let Post = (walk_of 𝓛 En hs c).post y in
    let at = v.0.ref_ptr in let a = v.0.now in let base = v.1.0 in let len = v.1.1.0 in let part = v.1.1.1.0 in let right = v.1.1.1.1.0 in let al : ℕ = capped (align (elτ E)) in let τ = block_ty E len in
    let others : Fml = fsep (flft κs.1.0 qs.1.0) (fsep (flft κs.1.1.0 qs.1.1.0) ftrue) in
    let Asked : Type 0 = (part.at ≡ base.ptr) × (length part.cells ≡ len) × IsWhole part.cells × (right.at ≡ base.ptr) × (right.len ≡ len) × (right.alloc ≡ a) in
    qed 𝓛 (((‵ (flft κs.0 qs.0) ⊛ ‵ others) ⊛ ‵ (owns (types_at En.signature.params κs) v vss)) ∷ raw (fact 𝓤 _) ∷ raw (fact 𝓤 (κs.1.1.0 ⊑ W.lives)) ∷ raw (fact 𝓤 Asked) ∷ []) ∵
    keep ! (2 ∷ 3 ∷ 0 ∷ []) $ heard ! (κs.1.1.0 ⊑ W.lives) (λ within. heard ! Asked (λ asked. split ! $ split ! $ move ! (2 ∷ []) $ fsplit ! $ fsplit ! $ feq_l ! (λ e0.
    move ! (1 ∷ []) $ fsplit ! $ move ! (1 ∷ []) $ fsplit ! $ move ! (1 ∷ []) $ fsplit ! $ fsplit ! $ move ! (2 ∷ []) $ fsplit ! $ fsplit ! $ keep ! (4 ∷ 1 ∷ 7 ∷ 8 ∷ 9 ∷ []) $
    regoal ! (λ (us : List Val). prop (WpFn 𝓤 H 𝓣.C 𝓣.Λ fn us Post)) (λ i. e0 i ++ (base_told E base vss.1.0 are.1.0 i ++ (are.1.1.0.0 i ++ (mark_told E vss.1.1.1.0 are.1.1.1.0.0 i ++ (mark_told E vss.1.1.1.1.0 are.1.1.1.1.0.0 i ++ []))))) refl $
    enter ! 𝓣.C 𝓣.Λ fn (vptr at.0 at.1 ∷ word base.ptr ∷ vint w64 len ∷ mark ∷ mark ∷ []) Post $
    alloc_all ! (λ l. pass_all ! refl ((tt, tt), (word-Good [] base.ptr, ((tt, record { fits = are.1.1.0.1 }), ((tt, (tt, tt)), ((tt, (tt, tt)), tt))))) $ let Ev : Env 𝓤 H = env fn.locals l in
    rewrite ! 0 (λ (p : Ptr). ‵ (part_owns (R E) p part.fresh part.cells)) asked.0 refl $
    in_a_block ! base.ptr (λ p. part_owns (R E) p part.fresh part.cells) (id⊢ 𝓤 (never 𝓤)) (λ b o e. fsplit ! $ flt_l ! (λ fit.
    let small : len * s < 2 ^ 63 = subst (λ k. k * s < 2 ^ 63) asked.1 fit in let bytes : len * s < 2 ^ 64 = omega (arith, small) in
    let asks = at_gives Z 𝓛 𝓜.mem 𝓡.returns κs.0 qs.0 at a b o (len * s) al τ in
    rewrite ! 1 (λ (x : W.Denot × Ptr × ℕ). ‵ (deed_owns (R E) (token Z x.0) x.1 x.2)) (λ i. (asked.5 i, (asked.3 ∙ e) i, asked.4 i)) refl $
    use1 𝓛 (‵ (froom (ty_array (elτ E) (length part.cells)) b o)) (to_room E 𝓛 b o part.fresh part.cells asked.2) $ rewrite ! 0 (λ (k : ℕ). ‵ (froom (ty_array (elτ E) k) b o)) asked.1 refl $ as_raw ! (ty_array (elτ E) len) b o $
    first ! $ blocks ! $ sets ! (is ! (of_opd ! (get_in ! (fld ! refl (stop !)) (sub ! 0 refl (whole !)))) (ap ptr_val e)) refl (tt, tt) $
    sets ! (is ! (bin ! (get ! refl) (size_word !) (record { fits = subst (λ (k : ℕ). k < 2 ^ 64) (sym (uncapped len s bytes)) bytes })) (ap (vint w64) (uncapped len s bytes))) refl (tt, record { fits = bytes }) $
    group ! 4 $ use1 𝓛 (raw ((Gives Z 𝓛 𝓜.mem 𝓡.returns).pre asks)) (Gives-goes Z 𝓛 𝓜.mem 𝓡.returns κs.0 qs.0 at a (⊑_trans κs.0 κs.1.1.0 W.lives y.0.2.0 within) b o (len * s) al τ (block_size E len bytes) (block_align E len) bytes (capped_fits (align (elτ E)))) $
    calls_at_last ! (fm 𝓛 𝓜 𝓡) (Gives Z 𝓛 𝓜.mem 𝓡.returns) (met.deallocate dd) asks (and_then ! (get ! refl) (and_then ! (get ! refl) (and_then ! (get ! refl) (and_then ! (align_word !) (no_more !))))) (λ u.
    use1 𝓛 (later (given (u ≡ vunit) (‵ (flft κs.0 qs.0)))) (Gives-Gives Z 𝓛 𝓜.mem 𝓡.returns κs.0 qs.0 at a b o (len * s) al τ u) $ await ! tt $ learn ! (λ is_unit.
    lands_last ! refl (subst (λ (z : Val). T (has_ty ty_unit z) × WT z) (sym is_unit) (tt, tt)) $ exec ! 𝓣.C 𝓣.Λ Ev (after 1 fn.body) (at_ret Ev Post) $
    sets ! (of_opd ! (unit_lit !)) refl (tt, tt) $ returns ! (look_at ! 0 refl) $ free_all ! refl $
    join ! $ feq_i ! (List Val) (vunit ∷ []) (vunit ∷ []) refl $ nothing ! $ nothing ! $ nothing ! $ fjoin ! $ nothing ! $ fjoin ! $ nothing ! $ fjoin ! $ nothing ! $ fjoin ! $ nothing ! $ fjoin ! $
    move ! (3 ∷ 0 ∷ 2 ∷ 1 ∷ []) $ by ! (leaves 𝓛 En hs c y vunit tt (tt, (tt, (tt, (tt, (tt, tt))))) (tt, (tt, (tt, (tt, (tt, tt)))))))))))))))
