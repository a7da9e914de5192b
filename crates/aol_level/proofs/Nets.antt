-- The reads and writes of an instance are those of every net of the model.
use Rattle.std.proofs.Common.{◌≡◌, ℕ, ℤ, zero, suc, ◌+◌, ◌<◌, List, [], ◌∷◌, map, flat_map, length, slice_get, Option, Some, unwrap_or, refl, sym, ◌∙◌, ap, subst, arith}
use Rattle.std.specs.List.{AllZip, enumerate_from}
use Rattle.std.proofs.lemmas.List.{length-map, length-append}
use Rattle.std.proofs.lemmas.List.Sums.{sum_by-cons}
use Rattle.aol_shape.specs.Shape.{size, points}
use Rattle.aol_expr_tree.specs.declared.port.Port.{Port}
use Rattle.aol_expr_tree.specs.declared.value.Val.{Val}
use Rattle.aol_model_types.specs.declared.task.Elementary.{Elementary}
use Rattle.aol_model_types.specs.declared.task.OutPort.{OutPort}
use Rattle.aol_model_types.specs.Rules.{outputs_of}
use Rattle.aol_flat.specs.Accept.{IsFlat}
use Rattle.aol_flat.specs.Home.{Home, Kept as KeptHome, Constant, home_of}
use Rattle.aol_flat.specs.Instance.{Leaf, leaves, Instance, Run, Copy, instances, of_task, read_elements, written_elements}
use Rattle.aol_flat.specs.InstanceNeed.{IsReal}
use Rattle.aol_flat.specs.InstanceValue.{instance_outputs, instance_value}
use Rattle.aol_flat.specs.Laid.{Laid, IsCellOf, IsReadOf}
use Rattle.aol_flat.specs.LeafCursor.{elements_at, writes_each}
use Rattle.aol_flat.specs.Leaves.{kind_of}
use Rattle.aol_flat.specs.Level.{AreReadsOf, AreWritesOf}
use Rattle.aol_flat.specs.declared.leaf.LeafKind.{LeafKind}
use Rattle.aol_flat.specs.declared.leaf.LeafKind.TheVariants as kinds
use Rattle.aol_flat.specs.Net.{Net, IsNetOf, task_gives, reads_at, writes_at}
use Rattle.aol_flat.specs.Place.{Place, Element, elements_of, port_elements}
use Rattle.aol_flat.specs.Tasks.{elementary_number}
use Rattle.aol_flat.specs.declared.view.Read.{Read}
use Rattle.aol_flat.specs.declared.view.Read.TheVariants.{Cell, Const}
use Rattle.aol_flat.proofs.Real.{sound_is_real}
use Rattle.aol_flat_laws.proofs.LaidHomes.{laid_cells_are_homes}
use Rattle.aol_allocate.proofs.Points.{length_points}
use Rattle.aol_level.specs.Made.{IsLeafOf}
use Rattle.aol_level.specs.Parts.{puts_at}
use Rattle.aol_level.specs.Puts.{elements, kept_by, value_held}
use Rattle.aol_level.specs.declared.kept.Kept.{Kept}
use Rattle.aol_level.proofs.Lists.{some_injective, get_within, get_there, none_some}
use Rattle.aol_level.proofs.Working.{IsRunOf, IsCopyOf, elements_of_ports, row_for, row_is, run_of, copy_of}

-- ---- lists side by side

zip_unique : {X Y : Type 0} (R : X → Y → Type 0) (xs : List X) (ys zs : List Y) → ((x : X) (y z : Y) → R x y → R x z → y ≡ z) → AllZip R xs ys → AllZip R xs zs → ys ≡ zs
zip_unique R [] [] [] one a b = refl
zip_unique R [] (y ∷ ys) zs one a b = absurd a
zip_unique R [] [] (z ∷ zs) one a b = absurd b
zip_unique R (x ∷ xs) [] zs one a b = absurd a
zip_unique R (x ∷ xs) (y ∷ ys) [] one a b = absurd b
zip_unique {Y = Y} R (x ∷ xs) (y ∷ ys) (z ∷ zs) one a b = ap (λ (w : Y). w ∷ ys) (one x y z a.0 b.0) ∙ ap (λ (ws : List Y). z ∷ ws) (zip_unique R xs ys zs one a.1 b.1)

zip_length : {X Y : Type 0} (R : X → Y → Type 0) (xs : List X) (ys : List Y) → AllZip R xs ys → length ys ≡ length xs
zip_length R [] [] a = refl
zip_length R [] (y ∷ ys) a = absurd a
zip_length R (x ∷ xs) [] a = absurd a
zip_length R (x ∷ xs) (y ∷ ys) a = ap suc (zip_length R xs ys a.1)

zip_right : {X Y : Type 0} (R : X → Y → Type 0) (xs : List X) (ys : List Y) (k : ℕ) (y : Y) → AllZip R xs ys → slice_get ys k ≡ Some y → (x : X) × R x y
zip_right R xs [] k y a at = absurd (none_some y at)
zip_right R [] (z ∷ ys) k y a at = absurd a
zip_right {Y = Y} R (x ∷ xs) (z ∷ ys) zero y a at = let P : Y → Type 0 = λ w. R x w in (x, subst P (some_injective z y at) a.0)
zip_right R (x ∷ xs) (z ∷ ys) (suc k) y a at = zip_right R xs ys k y a.1 at

-- ---- reads and writes

two_homes : (h : Home) (e : Element) (n : ℤ) → h ≡ KeptHome e → h ≡ Constant n → ⊥
two_homes h e n a b = let c : KeptHome e ≡ Constant n = sym a ∙ b in cc

module _ (f : Laid) (flat : IsFlat f) where
  one_cell : (e : Element) (c d : ℕ) → IsCellOf f e c → IsCellOf f e d → c ≡ d
  one_cell e c d a b =
      let both : KeptHome a.home ≡ KeptHome b.home = sym a.is_home ∙ b.is_home in
      let same : a.home ≡ b.home = cc in
      (laid_cells_are_homes f flat.sound.shapes flat.laid).once c d a.home a.at_cell (b.at_cell ∙ ap Some (sym same))

  one_read : (e : Element) (r s : Read) → IsReadOf f e r → IsReadOf f e s → r ≡ s
  one_read e (Cell c) (Cell d) a b = ap Cell (one_cell e c d a b)
  one_read e (Cell c) (Const n) a b = absurd (two_homes (home_of f.model e) a.home n a.is_home b)
  one_read e (Const n) (Cell d) a b = absurd (two_homes (home_of f.model e) b.home n b.is_home a)
  one_read e (Const n) (Const k) a b = let both : Constant n ≡ Constant k = sym a ∙ b in let same : n ≡ k = cc in ap Const same

  module _ (net : Net) (is_net : IsNetOf f net) (j : ℕ) (low : j < length (instances f.model)) where
    pub instance_is : (i : Instance) × (slice_get (instances f.model) j ≡ Some i)
    instance_is = there (instances f.model) j low
      where
        there : (is : List Instance) (k : ℕ) → k < length is → (i : Instance) × (slice_get is k ≡ Some i)
        there [] k h = absurd (omega (arith, h))
        there (i ∷ is) zero h = (i, refl)
        there (i ∷ is) (suc k) h = there is k (omega (arith, h))

    read_there : slice_get net.reads j ≡ Some (reads_at net j)
    read_there = let e = get_there net.reads j [] (omega (arith, low, is_net.many_reads)) in e ∙ ap Some (sym (ap (λ o. unwrap_or o []) e))

    write_there : slice_get net.writes j ≡ Some (writes_at net j)
    write_there = let e = get_there net.writes j [] (omega (arith, low, is_net.many_writes)) in e ∙ ap Some (sym (ap (λ o. unwrap_or o []) e))

    pub reads_zip : (i : Instance) → slice_get (instances f.model) j ≡ Some i → AllZip (IsReadOf f) (read_elements f.model i) (reads_at net j)
    reads_zip i at = is_net.reads j i (reads_at net j) at read_there

    pub writes_zip : (i : Instance) → slice_get (instances f.model) j ≡ Some i → AllZip (IsCellOf f) (written_elements f.model i) (writes_at net j)
    writes_zip i at = is_net.writes j i (writes_at net j) at write_there

    -- what a cursor tells is what the net has
    pub reads_are : (rs : List Read) → AreReadsOf f j rs → rs ≡ reads_at net j
    reads_are rs told =
        let i = instance_is in
        zip_unique (IsReadOf f) (read_elements f.model i.0) rs (reads_at net j) (λ e r s. one_read e r s) (told i.0 i.1) (reads_zip i.0 i.1)

    pub writes_are : (cs : List ℕ) → AreWritesOf f j cs → cs ≡ writes_at net j
    writes_are cs told =
        let i = instance_is in
        zip_unique (IsCellOf f) (written_elements f.model i.0) cs (writes_at net j) (λ e c d. one_cell e c d) (told i.0 i.1) (writes_zip i.0 i.1)

    -- they are cells of the model
    pub written_within : (k c : ℕ) → slice_get (writes_at net j) k ≡ Some c → c < length f.cells
    written_within k c at =
        let i = instance_is in
        let e = zip_right (IsCellOf f) (written_elements f.model i.0) (writes_at net j) k c (writes_zip i.0 i.1) at in
        get_within f.cells c e.1.home e.1.at_cell

    pub read_within : (k c : ℕ) → slice_get (reads_at net j) k ≡ Some (Cell c) → c < length f.cells
    read_within k c at =
        let i = instance_is in
        let e = zip_right (IsReadOf f) (read_elements f.model i.0) (reads_at net j) k (Cell c) (reads_zip i.0 i.1) at in
        get_within f.cells c e.1.home e.1.at_cell

    -- ---- how many

    element_count : (place : Place) (ports : List Port) → length (elements_of place ports) ≡ elements_at ports
    element_count place [] = refl
    element_count place (p ∷ ports) =
        length-append (port_elements place p) (elements_of place ports)
        ∙ (ap (λ n. n + length (elements_of place ports)) (length-map (points p.shape) (λ (x : List ℕ). record { place = place; port = p.name; index = x }) ∙ length_points p.shape)
        ∙ (ap (λ n. size p.shape + n) (element_count place ports) ∙ sym (sum_by-cons (λ (q : Port). size q.shape) p ports)))

    output_count : (task : ℕ) (e : Elementary) (taken : List Val) (n : ℕ) (outs : List OutPort)
        → length (flat_map (λ (o : ℕ × OutPort). map (instance_value task e taken o.0 o.1) (points o.1.port.shape)) (enumerate_from n outs)) ≡ elements outs
    output_count task e taken n [] = refl
    output_count task e taken n (o ∷ outs) =
        length-append (map (instance_value task e taken n o) (points o.port.shape)) (flat_map (λ (p : ℕ × OutPort). map (instance_value task e taken p.0 p.1) (points p.1.port.shape)) (enumerate_from (n + 1) outs))
        ∙ (ap (λ k. k + length (flat_map (λ (p : ℕ × OutPort). map (instance_value task e taken p.0 p.1) (points p.1.port.shape)) (enumerate_from (n + 1) outs))) (length-map (points o.port.shape) (instance_value task e taken n o) ∙ length_points o.port.shape)
        ∙ (ap (λ k. size o.port.shape + k) (output_count task e taken (n + 1) outs) ∙ sym (sum_by-cons (λ (q : OutPort). size q.port.shape) o outs)))

    copy_writes : (i : Instance) (place : Place) (k : ℕ) (repetition part : List ℕ) → slice_get (instances f.model) j ≡ Some i → i ≡ Copy place k repetition part → length (writes_at net j) ≡ 1
    copy_writes i place k repetition part at is =
        let copy = at ∙ ap Some is in
        let real = sound_is_real f.model flat.sound j (Copy place k repetition part) copy in
        zip_length (IsCellOf f) (written_elements f.model (Copy place k repetition part)) (writes_at net j) (writes_zip (Copy place k repetition part) copy) ∙ ap length real.3

    -- an instance gives as many values as it writes cells
    given_many : (taken : List Val) → length taken ≡ length (reads_at net j) → length (net.gives j taken) ≡ length (writes_at net j)
    given_many taken many = go (instance_is).0 (instance_is).1 (sound_is_real f.model flat.sound j (instance_is).0 (instance_is).1)
      where
        go : (i : Instance) → slice_get (instances f.model) j ≡ Some i → IsReal f.model i → length (net.gives j taken) ≡ length (writes_at net j)
        go (Run place) at real =
            let wrote : length (writes_at net j) ≡ elements real.0.outs =
            zip_length (IsCellOf f) (written_elements f.model (Run place)) (writes_at net j) (writes_zip (Run place) at)
            ∙ (ap (λ t. length (of_task (λ u. elements_of place (outputs_of u)) t)) real.1 ∙ (element_count place (map (λ (o : OutPort). o.port) real.0.outs) ∙ elements_of_ports real.0.outs)) in
            ap length (is_net.gives j (Run place) taken at ∙ ap (task_gives f.model taken) real.1) ∙ (output_count (elementary_number f.model real.0.name) real.0 taken 0 real.0.outs ∙ sym wrote)
        go (Copy place k repetition part) at real =
            let wrote : length (writes_at net j) ≡ 1 = zip_length (IsCellOf f) (written_elements f.model (Copy place k repetition part)) (writes_at net j) (writes_zip (Copy place k repetition part) at) ∙ ap length real.3 in
            let read : length (reads_at net j) ≡ 1 = zip_length (IsReadOf f) (read_elements f.model (Copy place k repetition part)) (reads_at net j) (reads_zip (Copy place k repetition part) at) ∙ ap length real.4 in
            ap length (is_net.gives j (Copy place k repetition part) taken at) ∙ (many ∙ (read ∙ sym wrote))

    pub puts_many : (cells : List (Option Kept)) (worker : ℕ) → length (puts_at net cells worker j) ≡ length (writes_at net j)
    puts_many cells worker = length-map (net.gives j (map (value_held cells) (reads_at net j))) (kept_by worker) ∙ given_many (map (value_held cells) (reads_at net j)) (length-map (reads_at net j) (value_held cells))

    -- ---- by the kind of the leaf

    pub run_puts : (cells : List (Option Kept)) (worker leaf k : ℕ) (r : IsRunOf f.model leaf j k)
        → puts_at net cells worker j ≡ map (kept_by worker) (instance_outputs (elementary_number f.model r.task.name) r.task (map (value_held cells) (reads_at net j)))
    run_puts cells worker leaf k r =
        let taken = map (value_held cells) (reads_at net j) in
        ap (map (kept_by worker)) (is_net.gives j r.instance taken r.at ∙ r.gives taken)

    pub copy_puts : (cells : List (Option Kept)) (worker leaf : ℕ) (r : IsCopyOf f.model leaf j) → puts_at net cells worker j ≡ map (kept_by worker) (map (value_held cells) (reads_at net j))
    copy_puts cells worker leaf r =
        let taken = map (value_held cells) (reads_at net j) in
        ap (map (kept_by worker)) (is_net.gives j r.instance taken r.at ∙ r.gives taken)

    -- an instance of a leaf writes as many cells as each of the leaf's
    pub writes_many : (leaf : ℕ) → IsLeafOf f.model j leaf → length (writes_at net j) ≡ writes_each f.model leaf
    writes_many leaf b = go (listed (leaves f.model) leaf b.listed).0 (listed (leaves f.model) leaf b.listed).1 (kind_of f.model (listed (leaves f.model) leaf b.listed).0) refl
      where
        listed : (ls : List Leaf) (k : ℕ) → k < length ls → (l : Leaf) × (slice_get ls k ≡ Some l)
        listed [] k h = absurd (omega (arith, h))
        listed (l ∷ ls) zero h = (l, refl)
        listed (l ∷ ls) (suc k) h = listed ls k (omega (arith, h))

        go : (l : Leaf) → slice_get (leaves f.model) leaf ≡ Some l → (kind : LeafKind) → kind_of f.model l ≡ kind → length (writes_at net j) ≡ writes_each f.model leaf
        go l at (kinds.Elementary k) e =
            let r = run_of f.model leaf j (row_for f.model leaf l) (row_is f.model leaf l at) b flat.sound k e in
            let taken : List Val = map (value_held []) (reads_at net j) in
            sym (given_many taken (length-map (reads_at net j) (value_held [])))
            ∙ (ap length (is_net.gives j r.instance taken r.at ∙ r.gives taken)
            ∙ (output_count (elementary_number f.model r.task.name) r.task taken 0 r.task.outs ∙ sym r.writes))
        go l at kinds.Copy e =
            let r = copy_of f.model leaf j (row_for f.model leaf l) (row_is f.model leaf l at) b e in
            copy_writes r.instance r.form.0 r.form.1 r.form.2 r.form.3 r.at r.form.4 ∙ sym r.writes
