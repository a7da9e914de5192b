-- The list of the writers of cells grows instance by instance.
use Rattle.std.proofs.Common.{◌≡◌, ◌≢◌, ℕ, zero, suc, ◌+◌, ◌<◌, List, [], ◌∷◌, length, Option, Some, slice_get, sym, ◌∙◌, ap, refl, arith, ◌⊎◌, inl, inr, subst}
use Rattle.std.specs.Prelude.{slice_set}
use Rattle.std.specs.List.{IsAmong, AllZip}
use Rattle.std.proofs.lemmas.Option.{slice_get_within}
use Rattle.std.proofs.lemmas.List.{length-set}
use Rattle.aol_flat.specs.Instance.{Instance, instances, written_elements}
use Rattle.aol_flat.specs.Laid.{Laid, IsLaid, IsCellOf}
use Rattle.aol_flat.specs.Level.{WritesCell, AreWriters}
use Rattle.aol_flat.specs.Targets.{IsSingleAssignment}
use Rattle.aol_flat.specs.Accept.{IsSound}
use Rattle.aol_flat.proofs.Agree.{IsAmong-tail}
use Rattle.aol_flat.proofs.Real.{sound_is_real}
use Rattle.aol_flat_laws.proofs.LaidHomes.{laid_cells_are_homes}
use Rattle.aol_flat_laws.proofs.OneWriter.{written_among, among_written}
use Rattle.aol_assign.specs.WriterList.{put_all, HasWriters}
use Rattle.aol_assign.proofs.CellWriters.{one_writer}

-- ---- putting

set_here : (list : List (Option ℕ)) (c : ℕ) (v : Option ℕ) → c < length list → slice_get (slice_set list c v) c ≡ Some v
set_here [] c v h = absurd (omega (arith, h))
set_here (x ∷ list) zero v h = refl
set_here (x ∷ list) (suc c) v h = set_here list c v (omega (arith, h))

set_there : (list : List (Option ℕ)) (c d : ℕ) (v : Option ℕ) → d ≢ c → slice_get (slice_set list c v) d ≡ slice_get list d
set_there [] c d v ne = refl
set_there (x ∷ list) zero zero v ne = absurd (ne refl)
set_there (x ∷ list) zero (suc d) v ne = refl
set_there (x ∷ list) (suc c) zero v ne = refl
set_there (x ∷ list) (suc c) (suc d) v ne = set_there list c d v (λ e. ne (ap suc e))

pub put_length : (list : List (Option ℕ)) (cs : List ℕ) (n : ℕ) → length (put_all list cs n) ≡ length list
put_length list [] n = refl
put_length list (c ∷ cs) n = put_length (slice_set list c (Some n)) cs n ∙ length-set list c (Some n)

either_way : (c d : ℕ) → (d ≡ c) ⊎ (d ≢ c)
either_way zero zero = inl refl
either_way zero (suc d) = inr (λ e. let f : 0 ≡ suc d = sym e in absurd (omega (arith, f)))
either_way (suc c) zero = inr (λ e. absurd (omega (arith, e)))
either_way (suc c) (suc d) = elim (either_way c d) [ inl e ↦ inl (ap suc e) | inr ne ↦ inr (λ e. ne (omega (arith, e))) ]

-- a cell keeps what it has, or gets the instance where it is one of those
put_keeps : (list : List (Option ℕ)) (cs : List ℕ) (n d : ℕ) → slice_get list d ≡ Some (Some n) → d < length list → slice_get (put_all list cs n) d ≡ Some (Some n)
put_keeps list [] n d h lt = h
put_keeps list (c ∷ cs) n d h lt =
    put_keeps (slice_set list c (Some n)) cs n d (go (either_way c d)) (omega (arith, lt, length-set list c (Some n)))
  where
    go : (d ≡ c) ⊎ (d ≢ c) → slice_get (slice_set list c (Some n)) d ≡ Some (Some n)
    go (inl e) = ap (slice_get (slice_set list c (Some n))) e ∙ set_here list c (Some n) (omega (arith, lt, e))
    go (inr ne) = set_there list c d (Some n) ne ∙ h

pub put_here : (list : List (Option ℕ)) (cs : List ℕ) (n d : ℕ) → IsAmong cs d → d < length list → slice_get (put_all list cs n) d ≡ Some (Some n)
put_here list [] n d a lt = absurd (omega (arith, a.1.0))
put_here list (c ∷ cs) n d (zero, a) lt =
    put_keeps (slice_set list c (Some n)) cs n d (ap (slice_get (slice_set list c (Some n))) a.1 ∙ set_here list c (Some n) (omega (arith, lt, a.1))) (omega (arith, lt, length-set list c (Some n)))
put_here list (c ∷ cs) n d (suc i, a) lt = put_here (slice_set list c (Some n)) cs n d (i, (omega (arith, a.0), a.1)) (omega (arith, lt, length-set list c (Some n)))

-- each cell is one of those, or has what it had
pub put_either : (list : List (Option ℕ)) (cs : List ℕ) (n d : ℕ) → IsAmong cs d ⊎ (slice_get (put_all list cs n) d ≡ slice_get list d)
put_either list [] n d = inr refl
put_either list (c ∷ cs) n d = go (either_way c d) (put_either (slice_set list c (Some n)) cs n d)
  where
    go : (d ≡ c) ⊎ (d ≢ c) → IsAmong cs d ⊎ (slice_get (put_all (slice_set list c (Some n)) cs n) d ≡ slice_get (slice_set list c (Some n)) d) → IsAmong (c ∷ cs) d ⊎ (slice_get (put_all (slice_set list c (Some n)) cs n) d ≡ slice_get list d)
    go (inl e) later = inl (0, (omega arith, e))
    go (inr ne) (inl a) = inl (IsAmong-tail c cs d a)
    go (inr ne) (inr k) = inr (k ∙ set_there list c d (Some n) ne)

-- ---- pairs

zip_left : {X Y : Type 0} (R : X → Y → Type 0) (xs : List X) (ys : List Y) (x : X) → AllZip R xs ys → IsAmong xs x → (y : Y) × IsAmong ys y × R x y
zip_left R [] ys x z a = absurd (omega (arith, a.1.0))
zip_left R (w ∷ xs) [] x z a = absurd z
zip_left {X = X} R (w ∷ xs) (y ∷ ys) x z (zero, a) = let P : X → Type 0 = λ v. R v y in (y, (0, (omega arith, refl)), subst P (sym a.1) z.0)
zip_left R (w ∷ xs) (y ∷ ys) x z (suc i, a) = let r = zip_left R xs ys x z.1 (i, (omega (arith, a.0), a.1)) in (r.0, IsAmong-tail y ys r.0 r.1, r.2)

zip_right : {X Y : Type 0} (R : X → Y → Type 0) (xs : List X) (ys : List Y) (y : Y) → AllZip R xs ys → IsAmong ys y → (x : X) × IsAmong xs x × R x y
zip_right R xs [] y z a = absurd (omega (arith, a.1.0))
zip_right R [] (w ∷ ys) y z a = absurd z
zip_right {Y = Y} R (x ∷ xs) (w ∷ ys) y z (zero, a) = let P : Y → Type 0 = λ v. R x v in (x, (0, (omega arith, refl)), subst P (sym a.1) z.0)
zip_right R (x ∷ xs) (w ∷ ys) y z (suc i, a) = let r = zip_right R xs ys y z.1 (i, (omega (arith, a.0), a.1)) in (r.0, IsAmong-tail x xs r.0 r.1, r.2)

-- ---- one instance more

module _ (f : Laid) where
  pub none_put : (list : List (Option ℕ)) → length list ≡ length f.cells → ((c j : ℕ) → slice_get list c ≡ Some (Some j) → ⊥) → HasWriters f 0 list
  none_put list many empty = record { many = many; some = λ c j. ((λ h. absurd (empty c j h)), (λ h. absurd (omega (arith, h.0)))) }

  module _ (sound : IsSound f.model) (single : IsSingleAssignment f.model) (laid : IsLaid f) (n : ℕ) (i : Instance) (at : slice_get (instances f.model) n ≡ Some i)
      (cs : List ℕ) (zip : AllZip (IsCellOf f) (written_elements f.model i) cs) where
    -- the cells that the instance writes are those
    writes_there : (c : ℕ) → IsAmong cs c → WritesCell f n c
    writes_there c a =
        let e = zip_right (IsCellOf f) (written_elements f.model i) cs c zip a in
        let w = among_written f.model i e.0 (sound_is_real f.model sound n i at) e.1 in
        record { instance = i; at = at; port = w.0; rank = w.1; element = e.0; written = w.2; in_cell = e.2 }

    there_written : (c : ℕ) → WritesCell f n c → IsAmong cs c
    there_written c w =
        let both : Some w.instance ≡ Some i = sym w.at ∙ at in
        let one : w.instance ≡ i = cc in
        let P : Instance → Type 0 = λ x. IsAmong (written_elements f.model x) w.element in
        let a = subst P one (written_among f.model w.instance w.port w.rank w.element (sound_is_real f.model sound n w.instance w.at) w.written) in
        let d = zip_left (IsCellOf f) (written_elements f.model i) cs w.element zip a in
        let homes = sym w.in_cell.is_home ∙ d.2.is_home in
        let home : d.2.home ≡ w.in_cell.home = cc in
        let same_cell : d.0 ≡ c = (laid_cells_are_homes f sound.shapes laid).once d.0 c w.in_cell.home (d.2.at_cell ∙ ap Some home) w.in_cell.at_cell in
        let Q : ℕ → Type 0 = λ x. IsAmong cs x in
        subst Q same_cell d.1

    -- they are cells
    pub cells_within : (list : List (Option ℕ)) → length list ≡ length f.cells → (c : ℕ) → IsAmong cs c → c < length list
    cells_within list many c a = let w = writes_there c a in let k = slice_get_within f.cells c w.in_cell.home w.in_cell.at_cell in omega (arith, many, k)

    pub one_put : (list : List (Option ℕ)) → HasWriters f n list → HasWriters f (n + 1) (put_all list cs n)
    one_put list has = record {
      many = put_length list cs n ∙ has.many;
      some = λ c j. (there c j (put_either list cs n c), back c j);
    }
      where
        there : (c j : ℕ) → IsAmong cs c ⊎ (slice_get (put_all list cs n) c ≡ slice_get list c) → slice_get (put_all list cs n) c ≡ Some (Some j) → (j < n + 1) × WritesCell f j c
        there c j (inl a) h =
            let both : Some (Some n) ≡ Some (Some j) = sym (put_here list cs n c a (cells_within list has.many c a)) ∙ h in
            let one : n ≡ j = cc in
            let P : ℕ → Type 0 = λ k. WritesCell f k c in
            (omega (arith, one), subst P one (writes_there c a))
        there c j (inr k) h = let r = (has.some c j).0 (sym k ∙ h) in (omega (arith, r.0), r.1)

        last_or_earlier : (j : ℕ) → j < n + 1 → (n ≡ j) ⊎ (j < n)
        last_or_earlier j h = grind arith

        back : (c j : ℕ) → (j < n + 1) × WritesCell f j c → slice_get (put_all list cs n) c ≡ Some (Some j)
        back c j h = go (last_or_earlier j h.0)
          where
            go : (n ≡ j) ⊎ (j < n) → slice_get (put_all list cs n) c ≡ Some (Some j)
            go (inl e) =
                let P : ℕ → Type 0 = λ k. WritesCell f k c in
                let a = there_written c (subst P (sym e) h.1) in
                put_here list cs n c a (cells_within list has.many c a) ∙ ap (λ k. Some (Some k)) e
            go (inr lt) = by_put (put_either list cs n c)
              where
                by_put : IsAmong cs c ⊎ (slice_get (put_all list cs n) c ≡ slice_get list c) → slice_get (put_all list cs n) c ≡ Some (Some j)
                by_put (inl a) = let one = one_writer f sound single n j c (writes_there c a) h.1 in absurd (omega (arith, lt, one))
                by_put (inr k) = k ∙ (has.some c j).1 (lt, h.1)

  -- after all instances it is the list of writers
  pub all_put : (list : List (Option ℕ)) → HasWriters f (length (instances f.model)) list → AreWriters f list
  all_put list has = record {
    many = has.many;
    some = λ c j. ((λ h. ((has.some c j).0 h).1), (λ w. (has.some c j).1 (slice_get_within (instances f.model) j w.instance w.at, w)));
  }
