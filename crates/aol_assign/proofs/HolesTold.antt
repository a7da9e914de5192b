-- The first read that isn't given, instance by instance and then among the main outputs.
use Rattle.std.proofs.Common.{◌≡◌, ℕ, zero, suc, ◌+◌, ◌<◌, Bool, true, false, not, cond, ◌||◌, is_some, List, [], ◌∷◌, ◌++◌, length, flat_map, filter_map, take, get_or, Option, Some, None, slice_get, option_map, option_and_then, unwrap_or, sym, ◌∙◌, ap, refl, arith, ◌⊎◌, inl, inr, subst, lt-ltb}
use Rattle.std.specs.Prelude.{nat_lt}
use Rattle.std.specs.List.{IsAmong, AllZip, enumerate_from, position_from}
use Rattle.std.specs.Option.{option_to_list}
use Rattle.std.proofs.lemmas.Bool.{ltb-true}
use Rattle.std.proofs.lemmas.List.{take_all, length-map}
use Rattle.std.proofs.lemmas.Option.{slice_get_within}
use Rattle.aol_shape.specs.Lists.{numbers_from}
use Rattle.aol_model_types.specs.declared.document.Model.{Model}
use Rattle.aol_model_types.specs.declared.task.Task.{Task}
use Rattle.aol_model_types.specs.declared.task.Task.TheVariants as tasks
use Rattle.aol_model_types.specs.Rules.{inputs_of}
use Rattle.aol_flat.specs.Tasks.{main_outputs}
use Rattle.aol_flat.specs.Place.{Element, IsElement, elements_of}
use Rattle.aol_flat.specs.Instance.{Instance, Run, Copy, instances, copy_source, of_task, places_of_sizes, port_sizes, port_element, read_sizes, read_elements}
use Rattle.aol_flat.specs.Laid.{Laid, IsLaid, IsReadOf, main_input_elements, main_output_elements}
use Rattle.aol_flat.specs.Level.{AreWriters}
use Rattle.aol_flat.specs.Reads.{Reading, reading_at, instance_readings, main_readings, readings, IsGiven, AllGiven, IsFirstFailing}
use Rattle.aol_flat.specs.Targets.{IsSingleAssignment}
use Rattle.aol_flat.specs.Accept.{IsSound}
use Rattle.aol_flat.specs.declared.view.Read.{Read}
use Rattle.aol_flat.specs.declared.view.Read.TheVariants.{Cell, Const}
use Rattle.aol_flat.specs.declared.view.Reader.{Reader}
use Rattle.aol_flat.specs.declared.view.Reader.TheVariants.{Instance as ByInstance, Main}
use Rattle.aol_flat.proofs.Among.{among_get, get_among}
use Rattle.aol_flat.proofs.Numbered.{copied_end}
use Rattle.aol_flat.proofs.Names.{slice_get-left, slice_get-right}
use Rattle.aol_flat.proofs.Readings.{readings_are_reads}
use Rattle.aol_flat.proofs.Real.{sound_is_real}
use Rattle.aol_flat.proofs.Visiting.{numbered_more, numbered_rest}
use Rattle.aol_flat_laws.proofs.OneWriter.{read_there}
use Rattle.aol_assign.specs.Answers.{UnwrittenIs}
use Rattle.aol_assign.specs.Cells.{IsGivenRead}
use Rattle.aol_assign.specs.Holes.{is_given_by, cells_from}
use Rattle.aol_assign.proofs.GivenCells.{given_by_cells}
use Rattle.aol_assign.proofs.ListedCopies.{IsOfTask, listed_of}
use Rattle.aol_assign.proofs.ReadingPlaces.{Aligned, aligned_get, aligned_element, ports_aligned, number_count}

-- ---- the first that fails

-- the fact holds at each member
abbrev pub AllAre : {X : Type 0} → (X → Type 0) → List X → Type 0
AllAre {X = X} P xs = (k : ℕ) (x : X) → slice_get xs k ≡ Some x → P x

split_get : {X : Type 0} (xs ys : List X) (k : ℕ) (x : X) → slice_get (xs ++ ys) k ≡ Some x → (slice_get xs k ≡ Some x) ⊎ ((j : ℕ) × (k ≡ length xs + j) × (slice_get ys j ≡ Some x))
split_get [] ys k x h = inr (k, (omega arith), h)
split_get (y ∷ xs) ys zero x h = inl h
split_get (y ∷ xs) ys (suc k) x h = elim (split_get xs ys k x h) [ inl a ↦ inl a | inr b ↦ inr (b.0, (omega (arith, b.1)), b.2) ]

pub all_both : {X : Type 0} (P : X → Type 0) (xs ys : List X) → AllAre P xs → AllAre P ys → AllAre P (xs ++ ys)
all_both P xs ys a b k x h = elim (split_get xs ys k x h) [ inl c ↦ a k x c | inr c ↦ b c.0 x c.2 ]

first_after : {X : Type 0} (P : X → Type 0) (xs ys : List X) (y : X) → AllAre P xs → IsFirstFailing P ys y → IsFirstFailing P (xs ++ ys) y
first_after P xs ys y all f = record {
  number = length xs + f.number;
  at = slice_get-right xs ys f.number ∙ f.at;
  fails = f.fails;
  before = λ k x lt h. elim (split_get xs ys k x h) [ inl a ↦ all k x a | inr b ↦ f.before b.0 x (omega (arith, lt, b.1)) b.2 ];
}

first_front : {X : Type 0} (P : X → Type 0) (xs ys : List X) (y : X) → IsFirstFailing P xs y → IsFirstFailing P (xs ++ ys) y
first_front P xs ys y f = record {
  number = f.number;
  at = slice_get-left xs ys f.number y f.at;
  fails = f.fails;
  before = λ k x lt h. elim (split_get xs ys k x h) [
    | inl a ↦ f.before k x lt a
    | inr b ↦ absurd (omega (arith, lt, b.1, slice_get_within xs f.number y f.at))
  ];
}

-- what a position says
record IsPosition {X : Type 0} (t : X → Bool) (i : ℕ) (xs : List X) (x : ℕ) : Type 0 where
  number : ℕ
  shifted : x ≡ i + number
  member : X
  at : slice_get xs number ≡ Some member
  passes : t member ≡ true
  before : (k : ℕ) (y : X) → k < number → slice_get xs k ≡ Some y → t y ≡ false

found_position : {X : Type 0} (t : X → Bool) (i : ℕ) (xs : List X) (x : ℕ) → position_from t i xs ≡ Some x → IsPosition t i xs x
found_position t i [] x h = cc
found_position {X = X} t i (y ∷ xs) x h = go (t y) refl h (found_position t (i + 1) xs x)
  where
    go : (b : Bool) → t y ≡ b → cond b (Some i) (position_from t (i + 1) xs) ≡ Some x → (position_from t (i + 1) xs ≡ Some x → IsPosition t (i + 1) xs x) → IsPosition t i (y ∷ xs) x
    go true e k later =
        let here : i ≡ x = cc in
        record { number = 0; shifted = omega (arith, here); member = y; at = refl; passes = e; before = λ j z lt g. absurd (omega (arith, lt)) }
    go false e k later =
        let r = later k in
        record { number = suc r.number; shifted = omega (arith, r.shifted); member = r.member; at = r.at; passes = r.passes; before = below r }
      where
        below : (r : IsPosition t (i + 1) xs x) → (j : ℕ) (z : X) → j < suc r.number → slice_get (y ∷ xs) j ≡ Some z → t z ≡ false
        below r zero z lt g = let f : y ≡ z = cc in ap t (sym f) ∙ e
        below r (suc j) z lt g = r.before j z (omega (arith, lt)) g

no_position : {X : Type 0} (t : X → Bool) (i : ℕ) (xs : List X) → position_from t i xs ≡ None → (k : ℕ) (y : X) → slice_get xs k ≡ Some y → t y ≡ false
no_position t i [] h k y g = cc
no_position {X = X} t i (x ∷ xs) h k y g = go (t x) refl h (no_position t (i + 1) xs) k g
  where
    go : (b : Bool) → t x ≡ b → cond b (Some i) (position_from t (i + 1) xs) ≡ None → (position_from t (i + 1) xs ≡ None → (k : ℕ) (y : X) → slice_get xs k ≡ Some y → t y ≡ false)
        → (k : ℕ) → slice_get (x ∷ xs) k ≡ Some y → t y ≡ false
    go true e h later k g = cc
    go false e h later zero g = let f : x ≡ y = cc in ap t (sym f) ∙ e
    go false e h later (suc k) g = later h k y g

-- pairs of two lists
zip_get : {X Y : Type 0} (R : X → Y → Type 0) (xs : List X) (ys : List Y) → AllZip R xs ys → (k : ℕ) (y : Y) → slice_get ys k ≡ Some y → (x : X) × (slice_get xs k ≡ Some x) × R x y
zip_get R [] [] z k y h = cc
zip_get R [] (v ∷ ys) z k y h = absurd z
zip_get R (x ∷ xs) [] z k y h = cc
zip_get {Y = Y} R (x ∷ xs) (v ∷ ys) z zero y h = let f : v ≡ y = cc in let P : Y → Type 0 = λ w. R x w in (x, refl, subst P f z.0)
zip_get R (x ∷ xs) (v ∷ ys) z (suc k) y h = zip_get R xs ys z.1 k y h

get_zip : {X Y : Type 0} (R : X → Y → Type 0) (xs : List X) (ys : List Y) → AllZip R xs ys → (k : ℕ) (x : X) → slice_get xs k ≡ Some x → (y : Y) × (slice_get ys k ≡ Some y) × R x y
get_zip R [] ys z k x h = cc
get_zip R (v ∷ xs) [] z k x h = absurd z
get_zip {X = X} R (v ∷ xs) (y ∷ ys) z zero x h = let f : v ≡ x = cc in let P : X → Type 0 = λ w. R w y in (y, refl, subst P f z.0)
get_zip R (v ∷ xs) (y ∷ ys) z (suc k) x h = get_zip R xs ys z.1 k x h

-- ---- the readings of an instance

module _ (m : Model) where
  pub instance_aligned : (j : ℕ) (i : Instance) → IsOfTask m i → Aligned (ByInstance j) (instance_readings m (j, i)) (places_of_sizes 0 (read_sizes m i)) (read_elements m i)
  instance_aligned j (Run place) of =
      let t = tasks.Elementary of.0 in
      let sizes : Option Task → List ℕ = λ o. unwrap_or (option_map (λ t. port_sizes (inputs_of t)) o) [] in
      let element : Option Task → ℕ → ℕ → Option Element = λ o k x. option_and_then (λ t. port_element place (inputs_of t) k x) o in
      let P : Option Task → Type 0 = λ o. Aligned (ByInstance j) (filter_map (reading_at (ByInstance j) (element o)) (places_of_sizes 0 (sizes o))) (places_of_sizes 0 (sizes o)) (of_task (λ t. elements_of place (inputs_of t)) o) in
      subst P (sym of.1) (ports_aligned (ByInstance j) place (inputs_of t))
  instance_aligned j (Copy place k r p) of =
      let q : Element = copy_source m of.task place of.reshape r p in
      let P : Option Element → Type 0 = λ o. Aligned (ByInstance j) (filter_map (λ (n : ℕ × ℕ). option_map (λ e. record { reader = ByInstance j; port = 0; rank = 0; element = e }) o) ((0, 0) ∷ [])) ((0, 0) ∷ []) (option_to_list o) in
      subst P (sym (copied_end copy_source m place of.task k of.reshape r p of.at of.listed)) (refl, tt)

  pub main_aligned : Aligned Main (main_readings m) (places_of_sizes 0 (port_sizes (main_outputs m))) (main_output_elements m)
  main_aligned = ports_aligned Main [] (main_outputs m)

  -- the readings of the first instances
  abbrev pub readings_before : ℕ → List Reading
  readings_before n = flat_map (instance_readings m) (enumerate_from 0 (take n (instances m)))

-- ---- by the list of writers

module _ (f : Laid) (sound : IsSound f.model) (laid : IsLaid f) (single : IsSingleAssignment f.model) (list : List (Option ℕ)) (writers : AreWriters f list) (inputs : ℕ) (inputs_are : inputs ≡ length (main_input_elements f.model)) where
  abbrev pub IsReadGiven : Reading → Type 0
  IsReadGiven x = IsGiven f.model x.element

  test_given : (r : Read) → is_given_by list inputs r ≡ true → IsGivenRead f r
  test_given (Const n) h = tt
  test_given (Cell c) h = go (nat_lt c inputs) refl (slice_get list c) refl h
    where
      go : (b : Bool) → nat_lt c inputs ≡ b → (o : Option (Option ℕ)) → slice_get list c ≡ o → (b || is_some (unwrap_or o None)) ≡ true → IsGivenRead f (Cell c)
      go true e o g k = inl (omega (arith, ltb-true c inputs e, inputs_are))
      go false e None g k = cc
      go false e (Some None) g k = cc
      go false e (Some (Some j)) g k = inr (j, (writers.some c j).0 g)

  given_test : (r : Read) → IsGivenRead f r → is_given_by list inputs r ≡ true
  given_test (Const n) h = refl
  given_test (Cell c) (inl lt) = ap (λ b. b || is_some (unwrap_or (slice_get list c) None)) (lt-ltb c inputs (omega (arith, lt, inputs_are)))
  given_test (Cell c) (inr w) = ap (λ o. nat_lt c inputs || is_some (unwrap_or o None)) ((writers.some c w.0).1 w.1) ∙ either_true (nat_lt c inputs)
    where
      either_true : (b : Bool) → (b || true) ≡ true
      either_true true = refl
      either_true false = refl

  not_false : (b : Bool) → not b ≡ false → b ≡ true
  not_false true h = refl
  not_false false h = cc

  not_true : (b : Bool) → not b ≡ true → b ≡ false
  not_true false h = refl
  not_true true h = cc

  abbrev is_hole : Read → Bool
  is_hole r = not (is_given_by list inputs r)

  module _ (who : Reader) (rs : List Reading) (ps : List (ℕ × ℕ)) (es : List Element) (line : Aligned who rs ps es) (reads : List Read) (zip : AllZip (IsReadOf f) es reads)
      (exist : (p : Element) → IsAmong es p → IsElement f.model p) where
    -- a reading is given where its read is no hole
    given_there : (k : ℕ) (r : Reading) → slice_get rs k ≡ Some r → (d : Read) → slice_get reads k ≡ Some d → is_hole d ≡ false → IsReadGiven r
    given_there k r at d there clear =
        let e = aligned_element who rs ps es line k r at in
        let z = get_zip (IsReadOf f) es reads zip k r.element e in
        let both : Some z.0 ≡ Some d = sym z.1 ∙ there in
        let one : z.0 ≡ d = cc in
        let P : Read → Type 0 = λ x. IsReadOf f r.element x in
        (given_by_cells f sound laid single r.element d (exist r.element (get_among es k r.element e)) (subst P one z.2)).1 (test_given d (not_false (is_given_by list inputs d) clear))

    pub none_told : position_from is_hole 0 reads ≡ None → AllAre IsReadGiven rs
    none_told none k r at =
        let e = aligned_element who rs ps es line k r at in
        let z = get_zip (IsReadOf f) es reads zip k r.element e in
        given_there k r at z.0 z.1 (no_position is_hole 0 reads none k z.0 z.1)

    pub hole_told : (x : ℕ) → position_from is_hole 0 reads ≡ Some x → (p : ℕ × ℕ) → slice_get ps x ≡ Some p → (r : Reading) × IsFirstFailing IsReadGiven rs r × (r.reader ≡ who) × (r.port ≡ p.0) × (r.rank ≡ p.1)
    hole_told x found p place =
        let at = found_position is_hole 0 reads x found in
        let number : x ≡ at.number = omega (arith, at.shifted) in
        let z = zip_get (IsReadOf f) es reads zip at.number at.member at.at in
        let r : Reading = record { reader = who; port = p.0; rank = p.1; element = z.0 } in
        let there : slice_get rs at.number ≡ Some r = aligned_get who rs ps es line at.number z.0 p z.1 (ap (slice_get ps) (sym number) ∙ place) in (
          r,
          record {
            number = at.number;
            at = there;
            fails = λ g.
                let given = (given_by_cells f sound laid single z.0 at.member (exist z.0 (get_among es at.number z.0 z.1)) z.2).0 g in
                let no : true ≡ false = sym (given_test at.member given) ∙ not_true (is_given_by list inputs at.member) at.passes in
                cc;
            before = λ k s lt h.
                let e = aligned_element who rs ps es line k s h in
                let y = get_zip (IsReadOf f) es reads zip k s.element e in
                given_there k s h y.0 y.1 (at.before k y.0 lt y.1);
          },
          refl,
          refl,
          refl,
        )

  -- ---- an instance

  module _ (j : ℕ) (i : Instance) (at : slice_get (instances f.model) j ≡ Some i) (reads : List Read) (zip : AllZip (IsReadOf f) (read_elements f.model i) reads)
      (before : AllAre IsReadGiven (readings_before f.model j)) where
    exist_there : (p : Element) → IsAmong (read_elements f.model i) p → IsElement f.model p
    exist_there p a = read_there f.model sound i (sound_is_real f.model sound j i at) p a

    lined : Aligned (ByInstance j) (instance_readings f.model (j, i)) (places_of_sizes 0 (read_sizes f.model i)) (read_elements f.model i)
    lined = instance_aligned f.model j i (listed_of f.model sound j i at)

    under : j < length (instances f.model)
    under = slice_get_within (instances f.model) j i at

    is_there : i ≡ get_or (instances f.model) j i
    is_there = got (instances f.model) j at
      where
        got : (xs : List Instance) (j : ℕ) → slice_get xs j ≡ Some i → i ≡ get_or xs j i
        got [] j h = cc
        got (x ∷ xs) zero h = let e : x ≡ i = cc in sym e
        got (x ∷ xs) (suc j) h = got xs j h

    one_more : readings_before f.model (j + 1) ≡ readings_before f.model j ++ instance_readings f.model (j, i)
    one_more = numbered_more (instance_readings f.model) (instances f.model) j i under is_there

    -- all its reads are given
    pub instance_given : position_from is_hole 0 reads ≡ None → AllAre IsReadGiven (readings_before f.model (j + 1))
    instance_given none =
        let P : List Reading → Type 0 = λ rs. AllAre IsReadGiven rs in
        subst P (sym one_more) (all_both IsReadGiven (readings_before f.model j) (instance_readings f.model (j, i)) before
        (none_told (ByInstance j) (instance_readings f.model (j, i)) (places_of_sizes 0 (read_sizes f.model i)) (read_elements f.model i) lined reads zip exist_there none))

    -- one isn't
    pub instance_hole : (x port rank : ℕ) → position_from is_hole 0 reads ≡ Some x → slice_get (places_of_sizes 0 (read_sizes f.model i)) x ≡ Some (port, rank) → UnwrittenIs f.model (ByInstance j) port rank
    instance_hole x port rank found place =
        let h = hole_told (ByInstance j) (instance_readings f.model (j, i)) (places_of_sizes 0 (read_sizes f.model i)) (read_elements f.model i) lined reads zip exist_there x found (port, rank) place in
        let all = flat_map (instance_readings f.model) (enumerate_from 0 (instances f.model)) in
        let front = first_after IsReadGiven (readings_before f.model j) (instance_readings f.model (j, i)) h.0 before h.1 in
        let P : List Reading → Type 0 = λ rs. IsFirstFailing IsReadGiven rs h.0 in
        let longer = first_front IsReadGiven (readings_before f.model (j + 1)) _ h.0 (subst P (sym one_more) front) in
        let whole = subst P (sym (numbered_rest (instance_readings f.model) (instances f.model) (j + 1))) longer in
        record { reading = h.0; is_first = first_front IsReadGiven all (main_readings f.model) h.0 whole; same_reader = sym h.2; same_port = sym h.3; same_point = sym h.4 }

  -- ---- the main outputs

  module _ (before : AllAre IsReadGiven (readings_before f.model (length (instances f.model)))) (reads : List Read) (zip : AllZip (IsReadOf f) (main_output_elements f.model) reads)
      (exist : (p : Element) → IsAmong (main_output_elements f.model) p → IsElement f.model p) where
    abbrev all_before : List Reading
    all_before = flat_map (instance_readings f.model) (enumerate_from 0 (instances f.model))

    given_before : AllAre IsReadGiven all_before
    given_before =
        let P : List Instance → Type 0 = λ is. AllAre IsReadGiven (flat_map (instance_readings f.model) (enumerate_from 0 is)) in
        subst P (take_all (length (instances f.model)) (instances f.model) (omega arith)) before

    pub main_given : position_from is_hole 0 reads ≡ None → AllGiven f.model
    main_given none p read =
        let r = (readings_are_reads f.model sound p).0 read in
        let main = none_told Main (main_readings f.model) (places_of_sizes 0 (port_sizes (main_outputs f.model))) (main_output_elements f.model) (main_aligned f.model) reads zip exist none in
        let P : Element → Type 0 = λ x. IsGiven f.model x in
        subst P r.2 (all_both IsReadGiven all_before (main_readings f.model) given_before main r.1.0 r.0 (among_get (readings f.model) r.1.0 r.0 r.1.1.0 r.1.1.1))

    pub main_hole : (x port rank : ℕ) → position_from is_hole 0 reads ≡ Some x → slice_get (places_of_sizes 0 (port_sizes (main_outputs f.model))) x ≡ Some (port, rank) → UnwrittenIs f.model Main port rank
    main_hole x port rank found place =
        let h = hole_told Main (main_readings f.model) (places_of_sizes 0 (port_sizes (main_outputs f.model))) (main_output_elements f.model) (main_aligned f.model) reads zip exist x found (port, rank) place in
        record { reading = h.0; is_first = first_after IsReadGiven all_before (main_readings f.model) h.0 given_before h.1; same_reader = sym h.2; same_port = sym h.3; same_point = sym h.4 }

-- a hole among so many cells has a number under that
pub hole_under : (t : Read → Bool) (first count x : ℕ) → position_from t 0 (cells_from first count) ≡ Some x → x < count
hole_under t first count x found =
    let at = found_position t 0 (cells_from first count) x found in
    let under = slice_get_within (cells_from first count) at.number at.member at.at in
    omega (arith, at.shifted, under, length-map (numbers_from first count) (λ c. Cell c), number_count first count)

-- a position is under the length
pub position_under : (t : Read → Bool) (rs : List Read) (x : ℕ) → position_from t 0 rs ≡ Some x → x < length rs
position_under t rs x found =
    let at = found_position t 0 rs x found in
    omega (arith, at.shifted, slice_get_within rs at.number at.member at.at)
