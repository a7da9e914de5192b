-- The instances that an instance needs by the cells are those that it needs in the model.
use Rattle.std.proofs.Common.{◌≡◌, ℕ, zero, suc, ◌<◌, List, [], ◌∷◌, length, Option, Some, None, unwrap_or, slice_get, sym, ◌∙◌, ap, refl, arith, subst}
use Rattle.std.specs.List.{IsAmong, AllZip}
use Rattle.std.proofs.lemmas.Option.{slice_get_within}
use Rattle.aol_flat.specs.Place.{Element}
use Rattle.aol_flat.specs.Home.{Kept, Constant, home_of}
use Rattle.aol_flat.specs.Instance.{instances, read_elements, written_elements}
use Rattle.aol_flat.specs.InstanceNeed.{InstanceNeeds}
use Rattle.aol_flat.specs.Laid.{Laid, IsCellOf, IsReadOf}
use Rattle.aol_flat.specs.Level.{Reads, AreReads, with_writer, writers_read, needed_by, WritesCell, AreWriters}
use Rattle.aol_flat.specs.Targets.{IsSingleAssignment}
use Rattle.aol_flat.specs.Accept.{IsSound}
use Rattle.aol_flat.specs.declared.view.Read.{Read}
use Rattle.aol_flat.specs.declared.view.Read.TheVariants.{Cell, Const}
use Rattle.aol_flat.proofs.Agree.{IsAmong-tail}
use Rattle.aol_flat.proofs.Real.{sound_is_real}
use Rattle.aol_flat_laws.proofs.Apart.{first_among}
use Rattle.aol_flat_laws.proofs.OneWriter.{reached_home, read_there, written_there, one_home, written_among, among_written}
use Rattle.aol_flat_laws.proofs.WrittenHome.{written_home}

-- ---- lists

pub there_at : {X : Type 0} (xs : List X) (j : ℕ) → j < length xs → (x : X) × (slice_get xs j ≡ Some x)
there_at [] j h = absurd (omega (arith, h))
there_at (x ∷ xs) zero h = (x, refl)
there_at (x ∷ xs) (suc j) h = there_at xs j (omega (arith, h))

zip_left : {X Y : Type 0} (R : X → Y → Type 0) (xs : List X) (ys : List Y) (x : X) → AllZip R xs ys → IsAmong xs x → (y : Y) × IsAmong ys y × R x y
zip_left R [] ys x z a = absurd (omega (arith, a.1.0))
zip_left R (w ∷ xs) [] x z a = absurd z
zip_left {X = X} R (w ∷ xs) (y ∷ ys) x z (zero, a) = let P : X → Type 0 = λ v. R v y in (y, first_among y ys, subst P (sym a.1) z.0)
zip_left R (w ∷ xs) (y ∷ ys) x z (suc i, a) = let r = zip_left R xs ys x z.1 (i, (omega (arith, a.0), a.1)) in (r.0, IsAmong-tail y ys r.0 r.1, r.2)

zip_right : {X Y : Type 0} (R : X → Y → Type 0) (xs : List X) (ys : List Y) (y : Y) → AllZip R xs ys → IsAmong ys y → (x : X) × IsAmong xs x × R x y
zip_right R xs [] y z a = absurd (omega (arith, a.1.0))
zip_right R [] (w ∷ ys) y z a = absurd z
zip_right {Y = Y} R (x ∷ xs) (w ∷ ys) y z (zero, a) = let P : Y → Type 0 = λ v. R x v in (x, first_among x xs, subst P (sym a.1) z.0)
zip_right R (x ∷ xs) (w ∷ ys) y z (suc i, a) = let r = zip_right R xs ys y z.1 (i, (omega (arith, a.0), a.1)) in (r.0, IsAmong-tail x xs r.0 r.1, r.2)

-- ---- writers of what is read

-- a writer comes from a read cell
abbrev pub FromCell : List (Option ℕ) → List Read → ℕ → Type 0
FromCell list rs k = (c : ℕ) × IsAmong rs (Cell c) × (slice_get list c ≡ Some (Some k))

later_cell : (list : List (Option ℕ)) (r : Read) (rs : List Read) (k : ℕ) → FromCell list rs k → FromCell list (r ∷ rs) k
later_cell list r rs k f = (f.0, IsAmong-tail r rs (Cell f.0) f.1, f.2)

pub from_cell : (list : List (Option ℕ)) (rs : List Read) (k : ℕ) → IsAmong (writers_read list rs) k → FromCell list rs k
from_cell list [] k a = absurd (omega (arith, a.1.0))
from_cell list (Const n ∷ rs) k a = later_cell list (Const n) rs k (from_cell list rs k a)
from_cell list (Cell c ∷ rs) k a = go (from_cell list rs k) (slice_get list c) refl a
  where
    go : (IsAmong (writers_read list rs) k → FromCell list rs k) → (o : Option (Option ℕ)) → slice_get list c ≡ o → IsAmong (with_writer o (writers_read list rs)) k → FromCell list (Cell c ∷ rs) k
    go rest None e b = later_cell list (Cell c) rs k (rest b)
    go rest (Some None) e b = later_cell list (Cell c) rs k (rest b)
    go rest (Some (Some j)) e (zero, b) = (c, first_among (Cell c) rs, e ∙ ap (λ i. Some (Some i)) (sym b.1))
    go rest (Some (Some j)) e (suc i, b) = later_cell list (Cell c) rs k (rest (i, (omega (arith, b.0), b.1)))

pub writer_read : (list : List (Option ℕ)) (rs : List Read) (c k : ℕ) → IsAmong rs (Cell c) → slice_get list c ≡ Some (Some k) → IsAmong (writers_read list rs) k
writer_read list [] c k a e = absurd (omega (arith, a.1.0))
writer_read list (Const n ∷ rs) c k (zero, a) e = let f : ◌≡◌ {A = Read} (Cell c) (Const n) = a.1 in cc
writer_read list (Const n ∷ rs) c k (suc i, a) e = writer_read list rs c k (i, (omega (arith, a.0), a.1)) e
writer_read list (Cell d ∷ rs) c k (zero, a) e =
    let f : ◌≡◌ {A = Read} (Cell c) (Cell d) = a.1 in
    let g : c ≡ d = cc in
    let h : slice_get list d ≡ Some (Some k) = ap (slice_get list) (sym g) ∙ e in
    let P : Option (Option ℕ) → Type 0 = λ o. IsAmong (with_writer o (writers_read list rs)) k in
    subst P (sym h) (first_among k (writers_read list rs))
writer_read list (Cell d ∷ rs) c k (suc i, a) e = go (slice_get list d) (writer_read list rs c k (i, (omega (arith, a.0), a.1)) e)
  where
    go : (o : Option (Option ℕ)) → IsAmong (writers_read list rs) k → IsAmong (with_writer o (writers_read list rs)) k
    go None b = b
    go (Some None) b = b
    go (Some (Some j)) b = IsAmong-tail j (writers_read list rs) k b

-- ---- needs

module _ (f : Laid) (reads : Reads) (list : List (Option ℕ)) (sound : IsSound f.model) (are : AreReads f reads) (writers : AreWriters f list) (single : IsSingleAssignment f.model) where
  pub cell_need : (j k : ℕ) → IsAmong (needed_by reads list j) k → InstanceNeeds f.model j k
  cell_need j k a = go (slice_get reads j) refl a
    where
      go : (o : Option (List Read)) → slice_get reads j ≡ o → IsAmong (writers_read list (unwrap_or o [])) k → InstanceNeeds f.model j k
      go None e b = absurd (omega (arith, b.1.0))
      go (Some rs) e b =
          let r = from_cell list rs k b in
          let within : j < length reads = slice_get_within reads j rs e in
          let i = there_at (instances f.model) j (omega (arith, within, are.many)) in
          let p = zip_right (IsReadOf f) (read_elements f.model i.0) rs (Cell r.0) (are.each j rs e i.0 i.1) r.1 in
          let w = (writers.some r.0 k).0 r.2 in
          let both : Some p.2.home ≡ Some w.in_cell.home = sym p.2.at_cell ∙ w.in_cell.at_cell in
          let one : w.in_cell.home ≡ p.2.home = cc in
          let written = written_among f.model w.instance w.port w.rank w.element (sound_is_real f.model sound k w.instance w.at) w.written in
          let there = written_there f.model sound single w.instance (sound_is_real f.model sound k w.instance w.at) w.element written in
          record {
            reader = i.0;
            writer = w.instance;
            at_reader = i.1;
            at_writer = w.at;
            read = p.0;
            written = w.element;
            among_reads = p.1;
            among_writes = written;
            joined = one_home f.model sound single p.0 w.element p.2.home (read_there f.model sound i.0 (sound_is_real f.model sound j i.0 i.1) p.0 p.1) there.0 there.1 p.2.is_home
                (w.in_cell.is_home ∙ ap (λ h. Kept h) one);
          }

  pub need_cell : (j k : ℕ) → InstanceNeeds f.model j k → IsAmong (needed_by reads list j) k
  need_cell j k n =
      let under : j < length (instances f.model) = slice_get_within (instances f.model) j n.reader n.at_reader in
      let rs = there_at reads j (omega (arith, under, are.many)) in
      let r = zip_left (IsReadOf f) (read_elements f.model n.reader) rs.0 n.read (are.each j rs.0 rs.1 n.reader n.at_reader) n.among_reads in
      let w = written_home f.model sound single n.writer (sound_is_real f.model sound k n.writer n.at_writer) n.written n.among_writes in
      let homes : home_of f.model n.read ≡ Kept w.0 = reached_home f.model sound n.read n.written n.joined ∙ w.1 in
      let P : Option (List Read) → Type 0 = λ o. IsAmong (writers_read list (unwrap_or o [])) k in
      subst P (sym rs.1) (go rs.0 w.0 homes r.0 r.1 r.2)
    where
      go : (rs : List Read) (h : Element) → home_of f.model n.read ≡ Kept h → (y : Read) → IsAmong rs y → IsReadOf f n.read y → IsAmong (writers_read list rs) k
      go rs h homes (Const c) a is = let no : Constant c ≡ Kept h = sym is ∙ homes in cc
      go rs h homes (Cell c) a is =
          let written = among_written f.model n.writer n.written (sound_is_real f.model sound k n.writer n.at_writer) n.among_writes in
          let writes : WritesCell f k c = record {
            instance = n.writer;
            at = n.at_writer;
            port = written.0;
            rank = written.1;
            element = n.written;
            written = written.2;
            in_cell = record { home = is.home; is_home = sym (reached_home f.model sound n.read n.written n.joined) ∙ is.is_home; at_cell = is.at_cell };
          } in
          writer_read list rs c k a ((writers.some c k).1 writes)
