-- What the walks of src/part.rt share: the machine's values of a base, a mark and an item, and a row of cells, of which
-- one is taken out, put back or seen, and which is parted, united, or room for an array.
use mathlib.Core.Path.{◌≡◌, refl, ap, subst, ◌∙◌}
use Prim.Native.Nat.{ℕ, zero, suc, ◌+◌, ◌*◌, ◌<◌}
use native.Mathlib.Omega.{arith}
use native.Mathlib.Nat.{zero-mul, suc-mul}
use mathlib.Core.Bool.{Bool, true, false, false≢true}
use mathlib.Core.Logic.{◌⊎◌, inl, inr}
use mathlib.Core.List.{List, [], ◌∷◌, ◌++◌}
use lib.ListN.{length, set, get_or, replicate}
use seplogic.Ra.Ura.{Ura}
use base.Fraction.{full_share}
use mir.Syntax.{Ty, ty_array}
use mir.Val.{Val, vstruct, vcons, vnil, of_list}
use base.Logic.{ent, sep, emp, via, fst∗, snd∗, id⊢, mono_r}
use base.Fml.{Fml, Lft, ftrue, fsep, fat, froom}
use types.Logic.{Logic, sem}
use types.Kit.{‵, some, ◌⊛◌, ◌$◌, ◌∵◌, !, qed, by, move, keep, use1, use2, pick, split, frame, fsplit, fjoin, fpack, feq_i, done}
use denote.RattleType.{RattleType, Valss}
use denote.Laws.{Typed, Is}
use denote.Param.Laws.{param_laws}
use denote.RawPtr.{Ptr, ptr_val}
use denote.Shadow.{makes_shadow}
use denote.Steps.{nothing}
use denote.Struct.Struct.{Struct, within}
use denote.Struct.Owning.{shape}
use denote.Struct.Declared as Declared
use denote.Struct.Tuple.{Tuple, tuple_type}
use borrow.Table.OneValue.{part_out}
use Rattle.std.specs.Prelude.{Option, Some, None, cond}
use Rattle.std.specs.Mem.{type_size}
use Rattle.core.proofs.mem.Param.{El, R, el_x, elτ}
use Rattle.std_alloc.proofs.RcSteps.{Good, word}
use Rattle.aol_scatter.specs.Cells.{is_listed, cell, IsWhole, without, without_from, picked, picked_from, later, merged}
use Rattle.aol_scatter.specs.Ownership.{cell_owned, row, cell_lent, row_lent}
use Rattle.aol_scatter.specs.contracts.part.Part as P-type
use Rattle.aol_scatter.specs.contracts.part.Base as B-type

module _ (E : El) where
  abbrev pub Pt : RattleType
  Pt = P-type.the_row (R E)

  abbrev pub Bs : RattleType
  Bs = B-type.the_row (R E)

  -- the one field of a part and of a deed, which takes no bytes
  abbrev pub Mark : RattleType
  Mark = Struct (shape (P-type.the_type (R E)))

  abbrev pub sz : ℕ
  sz = type_size (R E)

  abbrev pub Place : Type 0
  Place = Option (el_x E)

abbrev pub mark : Val
mark = vstruct (vcons (vstruct vnil) vnil)

-- the machine's values of a type of one machine value
one_of : (τ : Ty) (vs : List Val) → Typed (τ ∷ []) vs → (v : Val) × ((vs ≡ v ∷ []) × Good τ v)
one_of τ [] typed = absurd typed
one_of τ (v ∷ []) typed = (v, (refl, typed.0))
one_of τ (v ∷ w ∷ vs) typed = absurd typed.1

module _ (E : El) where
  pub mark_told : (vs : List Val) → Is (Mark E) (tt, tt) vs → vs ≡ mark ∷ []
  mark_told vs is = is.1.0 ∙ ap (λ (ws : List Val). vstruct (of_list (ws ++ [])) ∷ []) is.1.1.0.1.0

  pub base_told : (x : (Bs E).Denot) (vs : List Val) → Is (Bs E) x vs → vs ≡ word x.ptr ∷ []
  base_told x vs is = is.1.0 ∙ ap (λ (ws : List Val). vstruct (of_list (ws ++ [])) ∷ []) is.1.1.0

  module _ {M : Type 1} {𝓤 : Ura M} (𝓛 : Logic 𝓤) where
    pub item_told : (x : (R E).Denot) (vs : List Val) → Is (R E) x vs → (v : Val) × ((vs ≡ v ∷ []) × Good (elτ E) v)
    item_told x vs is = one_of (elτ E) vs (((param_laws 0 E.row E.laws).lawful 𝓛).typed x vs is)

    pub mark_made : ent 𝓤 (emp 𝓤) (sem 𝓛 ((Mark E).own_val (tt, tt) (mark ∷ [])))
    mark_made = makes_shadow 𝓛 ((Mark E).own_val (tt, tt) (mark ∷ [])) (λ _. (tt, ((λ _. (tt, tt)), tt))) ((vstruct vnil ∷ [], tt), (refl, ((tt, (refl, tt)), tt)))

    pub base_made : (p : Ptr) → ent 𝓤 (emp 𝓤) (sem 𝓛 ((Bs E).own_val (record { ptr = p }) (word p ∷ [])))
    base_made p = makes_shadow 𝓛 ((Bs E).own_val (record { ptr = p }) (word p ∷ [])) (λ _. (tt, (tt, tt))) ((ptr_val p ∷ [], tt), (refl, (refl, tt)))

abbrev pub triple_val : Val → Val → Val → Val
triple_val u v w = vstruct (vcons u (vcons v (vcons w vnil)))

pub triple_of : {M : Type 1} {𝓤 : Ura M} (𝓛 : Logic 𝓤) (A B C : RattleType) (x : A.Denot) (y : B.Denot) (z : C.Denot) (u v w : Val)
    → ent 𝓤 (sep 𝓤 (sem 𝓛 (A.own_val x (u ∷ []))) (sep 𝓤 (sem 𝓛 (B.own_val y (v ∷ []))) (sem 𝓛 (C.own_val z (w ∷ []))))) (sem 𝓛 ((Tuple (A ∷ B ∷ C ∷ [])).own_val (x, y, z) (triple_val u v w ∷ [])))
triple_of 𝓛 A B C x y z u v w =
    let made = triple_val u v w ∷ [] in let types = A ∷ B ∷ C ∷ [] in
    qed 𝓛 (‵ (A.own_val x (u ∷ [])) ∷ ‵ (B.own_val y (v ∷ [])) ∷ ‵ (C.own_val z (w ∷ [])) ∷ []) ∵ nothing ! $ move ! (3 ∷ 0 ∷ []) $ fjoin ! $ move ! (2 ∷ 0 ∷ []) $ fjoin ! $ move ! (1 ∷ 0 ∷ []) $ fjoin ! $
    feq_i ! (List Val) made made refl $ fjoin ! $ fpack ! (Valss types) (within (Declared.shape (tuple_type types)) (x, (y, (z, tt))) made) (u ∷ [], (v ∷ [], (w ∷ [], tt))) $ done !

module _ {X : Type 0} where
  pub held_within : (cs : List (Option X)) (i : ℕ) (x : X) → cell cs i ≡ Some x → i < length cs
  held_within [] i x e = cc
  held_within (c ∷ cs) zero x e = omega arith
  held_within (c ∷ cs) (suc i) x e = omega (arith, held_within cs i x e)

  pub length-merged : (cs ds : List (Option X)) → length (merged cs ds) ≡ length cs
  length-merged [] ds = refl
  length-merged (c ∷ cs) [] = refl
  length-merged (c ∷ cs) (d ∷ ds) = ap suc (length-merged cs ds)

  pub length-without : (i : ℕ) (ns : List ℕ) (cs : List (Option X)) → length (without_from i ns cs) ≡ length cs
  length-without i ns [] = refl
  length-without i ns (c ∷ cs) = ap suc (length-without (i + 1) ns cs)

  pub length-picked : (i : ℕ) (ns : List ℕ) (cs : List (Option X)) → length (picked_from i ns cs) ≡ length cs
  length-picked i ns [] = refl
  length-picked i ns (c ∷ cs) = ap suc (length-picked (i + 1) ns cs)

abbrev when_none : {X : Type 0} → Option X → Type 0
when_none None = Unit {0}
when_none (Some x) = ⊥

module _ (E : El) {M : Type 1} {𝓤 : Ura M} (𝓛 : Logic 𝓤) (b : ℕ) where
  open 𝓛 use {H}

  abbrev s : ℕ
  s = sz E

  abbrev Row : ℕ → Bool → List (Place E) → Fml
  Row o w cs = row (R E) b o w cs

  abbrev Owned : ℕ → Bool → Place E → Fml
  Owned o w c = cell_owned (R E) b o w c

  -- the row but for the i-th cell
  abbrev pub Others : ℕ → Bool → List (Place E) → ℕ → Fml
  Others o w [] i = ftrue
  Others o w (c ∷ cs) zero = Row (o + s) w cs
  Others o w (c ∷ cs) (suc i) = fsep (Owned o w c) (Others (o + s) w cs i)

  pub cell_out : (o : ℕ) (w : Bool) (cs : List (Place E)) (i at : ℕ) → at ≡ i * s + o → i < length cs → ent 𝓤 (sem 𝓛 (Row o w cs)) (sep 𝓤 (sem 𝓛 (Owned at w (get_or cs i None))) (sem 𝓛 (Others o w cs i)))
  cell_out o w [] i at e lt = absurd (omega (arith, lt))
  cell_out o w (c ∷ cs) zero at e lt =
      let same : o ≡ at = omega (arith, e, zero-mul s) in subst (λ k. ent 𝓤 (sem 𝓛 (Row o w (c ∷ cs))) (sep 𝓤 (sem 𝓛 (Owned k w c)) (sem 𝓛 (Row (o + s) w cs)))) same (id⊢ 𝓤 (sem 𝓛 (Row o w (c ∷ cs))))
  cell_out o w (c ∷ cs) (suc i) at e lt = qed 𝓛 (‵ (Owned o w c) ∷ ‵ (Row (o + s) w cs) ∷ []) ∵ move ! (1 ∷ []) $
      use1 𝓛 (‵ (Owned at w (get_or cs i None)) ⊛ ‵ (Others (o + s) w cs i)) (cell_out (o + s) w cs i at (omega (arith, e, suc-mul i s)) (omega (arith, lt))) $
      split ! $ move ! (2 ∷ 1 ∷ []) $ fjoin ! $ move ! (1 ∷ 0 ∷ []) $ done !

  pub cell_in : (o : ℕ) (w : Bool) (cs : List (Place E)) (i at : ℕ) → at ≡ i * s + o → i < length cs → (c : Place E) → ent 𝓤 (sep 𝓤 (sem 𝓛 (Owned at w c)) (sem 𝓛 (Others o w cs i))) (sem 𝓛 (Row o w (set cs i c)))
  cell_in o w [] i at e lt k = absurd (omega (arith, lt))
  cell_in o w (c ∷ cs) zero at e lt k =
      let same : o ≡ at = omega (arith, e, zero-mul s) in subst (λ j. ent 𝓤 (sep 𝓤 (sem 𝓛 (Owned j w k)) (sem 𝓛 (Row (o + s) w cs))) (sem 𝓛 (Row o w (k ∷ cs)))) same (id⊢ 𝓤 (sem 𝓛 (Row o w (k ∷ cs))))
  cell_in o w (c ∷ cs) (suc i) at e lt k = qed 𝓛 (‵ (Owned at w k) ∷ ‵ (Others o w (c ∷ cs) (suc i)) ∷ []) ∵ move ! (1 ∷ []) $ fsplit ! $ move ! (2 ∷ 1 ∷ []) $
      use2 𝓛 (‵ (Row (o + s) w (set cs i k))) (cell_in (o + s) w cs i at (omega (arith, e, suc-mul i s)) (omega (arith, lt)) k) $ move ! (1 ∷ 0 ∷ []) $ fjoin ! $ done !

  pub cell_seen : (κ : Lft) (o : ℕ) (cs : List (Place E)) (i at : ℕ) → at ≡ i * s + o → i < length cs → ent 𝓤 (sem 𝓛 (row_lent (R E) b o cs κ)) (sem 𝓛 (cell_lent (R E) b at (get_or cs i None) κ))
  cell_seen κ o [] i at e lt = absurd (omega (arith, lt))
  cell_seen κ o (c ∷ cs) zero at e lt =
      let same : o ≡ at = omega (arith, e, zero-mul s) in subst (λ k. ent 𝓤 (sem 𝓛 (row_lent (R E) b o (c ∷ cs) κ)) (sem 𝓛 (cell_lent (R E) b k c κ))) same (fst∗ 𝓤 (sem 𝓛 (cell_lent (R E) b o c κ)) (sem 𝓛 (row_lent (R E) b (o + s) cs κ)))
  cell_seen κ o (c ∷ cs) (suc i) at e lt = via 𝓤 (sem 𝓛 (row_lent (R E) b (o + s) cs κ)) (snd∗ 𝓤 (sem 𝓛 (cell_lent (R E) b o c κ)) (sem 𝓛 (row_lent (R E) b (o + s) cs κ)))
      (cell_seen κ (o + s) cs i at (omega (arith, e, suc-mul i s)) (omega (arith, lt)))

  -- a cell that is held, or is fresh, can be written
  pub cell_room : (o : ℕ) (w : Bool) (c : Place E) → (w ≡ true) ⊎ ((x : el_x E) × (c ≡ Some x)) → ent 𝓤 (sem 𝓛 (Owned o w c)) (H.room (elτ E) b o)
  cell_room o w (Some x) _ = qed 𝓛 (‵ (Owned o w (Some x)) ∷ []) ∵
      use1 𝓛 (some (λ (v : Val). ‵ (fat full_share (elτ E) b o v) ⊛ ‵ ((R E).own_val x (v ∷ [])))) (part_out 𝓛 (R E) refl full_share x b o) $
      pick ! (λ v. split ! $ keep ! (0 ∷ []) $ by ! (𝓛.laws.at_room (elτ E) b o v))
  cell_room o true None _ = 𝓛.laws.raw-room (elτ E) b o
  cell_room o false None (inl e) = absurd (false≢true e)
  cell_room o false None (inr e) = absurd (subst when_none e.1 tt)

  -- the room of fresh cells may be let go
  let_go : (o : ℕ) (w : Bool) (cs : List (Place E)) → ent 𝓤 (sem 𝓛 (Row o w cs)) (sem 𝓛 (Row o false cs))
  let_go o w [] = id⊢ 𝓤 (emp 𝓤)
  let_go o w (Some x ∷ cs) = mono_r 𝓤 (sem 𝓛 (Owned o w (Some x))) (let_go (o + s) w cs)
  let_go o w (None ∷ cs) = qed 𝓛 (‵ (Row o w (None ∷ cs)) ∷ []) ∵ fsplit ! $ move ! (1 ∷ []) $ use1 𝓛 (‵ (Row (o + s) false cs)) (let_go (o + s) w cs) $ keep ! (0 ∷ []) $ nothing ! $ fjoin ! $ done !

  -- one cell goes to the side that its number chooses
  chosen : (o i : ℕ) (ns : List ℕ) (c : Place E) (cs : List (Place E)) (t : Bool) → ent 𝓤 (sem 𝓛 (Row (o + s) false cs)) (sep 𝓤 (sem 𝓛 (Row (o + s) false (without_from (i + 1) ns cs))) (sem 𝓛 (Row (o + s) false (picked_from (i + 1) ns cs))))
      → ent 𝓤 (sem 𝓛 (Row o false (c ∷ cs))) (sep 𝓤 (sem 𝓛 (Row o false (cond t None c ∷ without_from (i + 1) ns cs))) (sem 𝓛 (Row o false (cond t c None ∷ picked_from (i + 1) ns cs))))
  chosen o i ns c cs true more = qed 𝓛 (‵ (Row o false (c ∷ cs)) ∷ []) ∵ fsplit ! $ move ! (1 ∷ []) $ use1 𝓛 (‵ (Row (o + s) false (without_from (i + 1) ns cs)) ⊛ ‵ (Row (o + s) false (picked_from (i + 1) ns cs))) more $
      split ! $ move ! (2 ∷ 1 ∷ []) $ fjoin ! $ move ! (1 ∷ []) $ nothing ! $ fjoin ! $ done !
  chosen o i ns c cs false more = qed 𝓛 (‵ (Row o false (c ∷ cs)) ∷ []) ∵ fsplit ! $ move ! (1 ∷ []) $ use1 𝓛 (‵ (Row (o + s) false (without_from (i + 1) ns cs)) ⊛ ‵ (Row (o + s) false (picked_from (i + 1) ns cs))) more $
      split ! $ move ! (1 ∷ []) $ nothing ! $ fjoin ! $ move ! (2 ∷ 1 ∷ []) $ fjoin ! $ done !

  parts : (o i : ℕ) (ns : List ℕ) (cs : List (Place E)) → ent 𝓤 (sem 𝓛 (Row o false cs)) (sep 𝓤 (sem 𝓛 (Row o false (without_from i ns cs))) (sem 𝓛 (Row o false (picked_from i ns cs))))
  parts o i ns [] = qed 𝓛 (‵ (Row o false []) ∷ []) ∵ nothing ! $ done !
  parts o i ns (c ∷ cs) = chosen o i ns c cs (is_listed i ns) (parts (o + s) (i + 1) ns cs)

  pub parted : (o : ℕ) (w : Bool) (ns : List ℕ) (cs : List (Place E)) → ent 𝓤 (sem 𝓛 (Row o w cs)) (sep 𝓤 (sem 𝓛 (Row o false (without ns cs))) (sem 𝓛 (Row o false (picked ns cs))))
  parted o w ns cs = via 𝓤 (sem 𝓛 (Row o false cs)) (let_go o w cs) (parts o 0 ns cs)

  one_cell : (o : ℕ) (c d : Place E) → ent 𝓤 (sep 𝓤 (sem 𝓛 (Owned o false c)) (sem 𝓛 (Owned o false d))) (sem 𝓛 (Owned o false (later c d)))
  one_cell o c None = fst∗ 𝓤 (sem 𝓛 (Owned o false c)) (sem 𝓛 (Owned o false None))
  one_cell o c (Some x) = snd∗ 𝓤 (sem 𝓛 (Owned o false c)) (sem 𝓛 (Owned o false (Some x)))

  one_row : (o : ℕ) (cs ds : List (Place E)) → ent 𝓤 (sep 𝓤 (sem 𝓛 (Row o false cs)) (sem 𝓛 (Row o false ds))) (sem 𝓛 (Row o false (merged cs ds)))
  one_row o [] ds = fst∗ 𝓤 (sem 𝓛 (Row o false [])) (sem 𝓛 (Row o false ds))
  one_row o (c ∷ cs) [] = fst∗ 𝓤 (sem 𝓛 (Row o false (c ∷ cs))) (sem 𝓛 (Row o false []))
  one_row o (c ∷ cs) (d ∷ ds) = qed 𝓛 (‵ (Row o false (c ∷ cs)) ∷ ‵ (Row o false (d ∷ ds)) ∷ []) ∵ fsplit ! $ move ! (2 ∷ []) $ fsplit ! $
      -- [d; ds; c; cs]
      move ! (3 ∷ 1 ∷ []) $ use2 𝓛 (‵ (Row (o + s) false (merged cs ds))) (one_row (o + s) cs ds) $ move ! (2 ∷ 1 ∷ []) $ use2 𝓛 (‵ (Owned o false (later c d))) (one_cell o c d) $ fjoin ! $ done !

  pub united : (o : ℕ) (v w : Bool) (cs ds : List (Place E)) → ent 𝓤 (sep 𝓤 (sem 𝓛 (Row o v cs)) (sem 𝓛 (Row o w ds))) (sem 𝓛 (Row o false (merged cs ds)))
  united o v w cs ds = qed 𝓛 (‵ (Row o v cs) ∷ ‵ (Row o w ds) ∷ []) ∵ use1 𝓛 (‵ (Row o false cs)) (let_go o v cs) $ move ! (1 ∷ []) $ use1 𝓛 (‵ (Row o false ds)) (let_go o w ds) $ move ! (1 ∷ 0 ∷ []) $ by ! (one_row o cs ds)

  pub of_room : (n o : ℕ) → ent 𝓤 (H.room (ty_array (elτ E) n) b o) (sem 𝓛 (Row o true (replicate n None)))
  of_room zero o = qed 𝓛 (‵ (froom (ty_array (elτ E) 0) b o) ∷ []) ∵ keep ! [] $ done !
  of_room (suc n) o = qed 𝓛 (‵ (froom (ty_array (elτ E) (suc n)) b o) ∷ []) ∵
      use1 𝓛 (‵ (froom (elτ E) b o) ⊛ ‵ (froom (ty_array (elτ E) n) b (o + s))) (𝓛.laws.room_uncons (elτ E) n b o) $ split ! $
      use1 𝓛 (‵ (Owned o true None)) (𝓛.laws.room-raw (elτ E) b o) $ frame ! $ by ! (of_room n (o + s))

  pub to_room : (o : ℕ) (w : Bool) (cs : List (Place E)) → IsWhole cs → ent 𝓤 (sem 𝓛 (Row o w cs)) (H.room (ty_array (elτ E) (length cs)) b o)
  to_room o w [] all = 𝓛.laws.room_nil (elτ E) b o
  to_room o w (c ∷ cs) all = qed 𝓛 (‵ (Owned o w c) ∷ ‵ (Row (o + s) w cs) ∷ []) ∵
      use1 𝓛 (‵ (froom (elτ E) b o)) (cell_room o w c (inr (all 0 (omega arith)))) $ move ! (1 ∷ []) $
      use1 𝓛 (‵ (froom (ty_array (elτ E) (length cs)) b (o + s))) (to_room (o + s) w cs (λ k lt. all (suc k) (omega (arith, lt)))) $ move ! (1 ∷ []) $ by ! (𝓛.laws.room_cons (elτ E) (length cs) b o)
