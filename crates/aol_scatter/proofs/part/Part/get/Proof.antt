-- `get`: of the cells that a `&` lends, one is shown.
use Rattle.aol_scatter.proofs.Steps.{◌≡◌, refl, ◌∙◌, List, [], ◌∷◌, ◌++◌, ◌+◌, ◌*◌, ◌<◌, ◌^◌, arith, length, get_or, full_share, emp, never, id⊢, Fml, ftrue, fsep, fat, flft, w64, inst_fn, Val, vptr, vint, Env, WpFn, fact, fact_i, tables, ‵, raw, ◌⊛◌, prop, at_ret, ◌$◌, ◌∵◌, !, qed, by, move, keep, drop, use0, use1, split, rewrite, regoal, fsplit, fjoin, feq_i, feq_l, flt_l, whole, sub, stop, fld, of_opd, bin, addr, size_lit, first, blocks, exec, returns, enter, alloc_all, pass_all, free_all, look_at, get, get_in, through, sets, sets_last, take_at, give_at, env, yes, no, owns, RefOf, usize, hide, unhide, layout, Ptr, in_a_block, plain, types_at, nothing, heard, Stays, stay_dropped, walk_of, Goes-dropped, after, El, R, args, one_below, times_below, word, word-Good, proved_at, leaves}
use Rattle.std.specs.Prelude.{None, Some}
use Rattle.aol_scatter.specs.Cells.{IsHeld}
use Rattle.aol_scatter.specs.Ownership.{cell_lent, part_lent}
use Rattle.aol_scatter.proofs.Memory.{Pt, Bs, sz, Place, base_told, held_within, cell_seen}
use Rattle.aol_scatter.specs.contracts.part.Part.get as f
use Rattle.aol_scatter.proofs.part.Part.get.Statement.{statement}
use Rattle.aol_scatter.proofs.part.Part.get.Code as code

pub get_spec : {M : Type 1} → statement M
get_spec 𝓤 𝓛 𝓜 𝓡 wired X LX =
    let H = 𝓛.H in let 𝓣 = tables 𝓤 H 𝓜 𝓡 𝓡.env in let E : El = record { row = X; laws = LX } in let P = Pt E in let s = sz E in
    let En = f.ended X in let c = f.clauses X 𝓛 𝓜.mem 𝓡.returns in let fn = inst_fn (args E) code.function in let Self = RefOf (0 ∷ []) tt (plain (λ _. P)) (λ _. tt) in
    let hs : Stays En.signature.params En.kept = (stay_dropped Self yes, (stay_dropped (plain (λ _. Bs E)) no, (stay_dropped (plain (λ _. usize)) yes, tt))) in
    proved_at 𝓛 En hs c 𝓜 𝓡 (Goes-dropped 𝓛 2 Self yes (λ κs x g. refl), (Goes-dropped 𝓛 2 (plain (λ _. Bs E)) no (λ κs x g. refl), (Goes-dropped 𝓛 2 (plain (λ _. usize)) yes (λ κs x g. refl), tt)))
    (f.Key.name (args E)) fn (code.unfolded 𝓤 H 𝓜 𝓡 wired (X, tt)) (λ y are.
    let κs = y.0.0 in let qs = y.0.1 in let a = y.0.3 in let vss = y.0.4 in let Post = (walk_of 𝓛 En hs c).post y in
    let b = a.0.ref_ptr.0 in let o = a.0.ref_ptr.1 in let d = a.0.now in let base = a.1.0 in let index = a.1.1.0 in
    let others : Fml = fsep (flft κs.1.0 qs.1.0) ftrue in
    let Asked : Type 0 = (base.ptr ≡ d.at) × IsHeld d.cells index in
    qed 𝓛 (((‵ (flft κs.0 qs.0) ⊛ ‵ others) ⊛ ‵ (owns (types_at En.signature.params κs) a vss)) ∷ raw (fact 𝓤 _) ∷ raw (fact 𝓤 Asked) ∷ []) ∵
    keep ! (2 ∷ 0 ∷ []) $ heard ! Asked (λ asked. split ! $ move ! (1 ∷ []) $ fsplit ! $ fsplit ! $ feq_l ! (λ e0.
    keep ! (0 ∷ 2 ∷ []) $
    regoal ! (λ (us : List Val). prop (WpFn 𝓤 H 𝓣.C 𝓣.Λ fn us Post)) (λ i. e0 i ++ (base_told E base vss.1.0 are.1.0 i ++ (are.1.1.0.0 i ++ []))) refl $
    enter ! 𝓣.C 𝓣.Λ fn (vptr b o ∷ word base.ptr ∷ vint w64 index ∷ []) Post $ alloc_all ! (λ l. pass_all ! refl ((tt, tt), (word-Good [] base.ptr, ((tt, record { fits = are.1.1.0.1 }), tt))) $
    let Ev : Env 𝓤 H = env fn.locals l in let x = asked.1.0 in let within = held_within d.cells index x asked.1.1 in
    unhide ! $ fsplit ! $ drop ! $ in_a_block ! d.at (λ p. part_lent (R E) p d.cells κs.0) (id⊢ 𝓤 (never 𝓤)) (λ b' o' e. fsplit ! $ flt_l ! (λ small.
    let at = index * s + o' in
    let tiny : s < 2 ^ 64 = omega (arith, one_below (length d.cells) s (2 ^ 63) (omega (arith, within)) small) in
    let far : index * s < 2 ^ 64 = omega (arith, times_below index (length d.cells) s (2 ^ 63) (omega (arith, within)) small) in
    take_at ! 2 $ rewrite ! 0 (λ (p : Ptr). ‵ (fat full_share (layout (Bs E)) (l 2) 0 (word p))) (asked.0 ∙ e) refl $ give_at ! 2 $ first ! $ blocks ! $
    sets ! (bin ! (get ! refl) (size_lit ! (record { fits = tiny })) (record { fits = far })) refl (tt, record { fits = far }) $
    sets ! (bin ! (get_in ! (fld ! refl (stop !)) (sub ! 0 refl (whole !))) (get ! refl) tt) refl (tt, tt) $
    use1 𝓛 (‵ (cell_lent (R E) b' at (get_or d.cells index None) κs.0)) (cell_seen E 𝓛 b' κs.0 o' d.cells index at refl within) $
    rewrite ! 0 (λ (k : Place E). ‵ (cell_lent (R E) b' at k κs.0)) asked.1.1 refl $ hide ! $
    sets_last ! (addr ! (through ! refl (stop !))) refl (tt, tt) $ exec ! 𝓣.C 𝓣.Λ Ev (after 1 fn.body) (at_ret Ev Post) $ sets ! (of_opd ! (get ! refl)) refl (tt, tt) $
    feq_i ! (List Val) (vptr b' at ∷ []) (vptr b' at ∷ []) refl $ fjoin ! $ returns ! (look_at ! 0 refl) $ free_all ! refl $
    nothing ! $ nothing ! $ fjoin ! $ nothing ! $ fjoin ! $ nothing ! $ fjoin ! $
    let Told : Type 0 = get_or d.cells index None ≡ Some x in use0 𝓛 (raw (fact 𝓤 Told)) (fact_i 𝓤 Told (emp 𝓤) asked.1.1) $
    keep ! (3 ∷ 1 ∷ 2 ∷ 0 ∷ []) $ by ! (leaves 𝓛 En hs c y (vptr b' at) (record { ref_ptr = (b', at); now = x }) (tt, (tt, (tt, tt))) (tt, (tt, (tt, tt))))))))))
