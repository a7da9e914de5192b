-- The first read that isn't kept, instance by instance and then among the main outputs.
use Rattle.std.proofs.Common.{◌≡◌, ℕ, zero, suc, ◌+◌, ◌<◌, List, [], ◌∷◌, ◌++◌, length, flat_map, get_or, Option, Some, None, slice_get, option_and_then, sym, ◌∙◌, ap, refl, arith, ◌⊎◌, inl, inr, subst}
use Rattle.std.specs.Prelude.{slice_index, IsSome}
use Rattle.std.specs.List.{IsAmong, AllZip, AllByRecursion, enumerate_from, sum}
use Rattle.std.proofs.lemmas.List.{take_all}
use Rattle.std.proofs.lemmas.Option.{slice_get_within}
use Rattle.aol_model_types.specs.declared.document.Model.{Model}
use Rattle.aol_flat.specs.Tasks.{main_outputs}
use Rattle.aol_flat.specs.Place.{Element, IsElement, elements_of}
use Rattle.aol_flat.specs.Instance.{Instance, instances, places_of_sizes, port_sizes, read_sizes, read_elements}
use Rattle.aol_flat.specs.InstanceNeed.{IsReal}
use Rattle.aol_flat.specs.Keep.{EndsAt, old_end, old_read, SameEnd, Keeps, reading_before, ReadingIsKept}
use Rattle.aol_flat.specs.Laid.{IsReadOf, main_input_elements, main_output_elements}
use Rattle.aol_flat.specs.Reads.{Reading, instance_readings, main_readings, IsFirstFailing, by_caller}
use Rattle.aol_flat.specs.declared.view.End.{End}
use Rattle.aol_flat.specs.declared.view.Read.{Read}
use Rattle.aol_flat.specs.declared.view.Reader.{Reader}
use Rattle.aol_flat.specs.declared.view.Reader.TheVariants.{Instance as ByInstance, Main}
use Rattle.aol_flat.proofs.Among.{among_get, get_among}
use Rattle.aol_flat.proofs.Enumerate.{with_number}
use Rattle.aol_flat.proofs.Inside.{flat_map_among}
use Rattle.aol_flat.proofs.Names.{slice_get-left, slice_get-right}
use Rattle.aol_flat.proofs.Real.{sound_is_real}
use Rattle.aol_flat.proofs.Visiting.{numbered_more, numbered_rest}
use Rattle.aol_flat_laws.proofs.OneWriter.{read_there}
use Rattle.aol_assign.specs.Holes.{cells_from}
use Rattle.aol_assign.specs.ReadsSoFar.{readings_before}
use Rattle.aol_assign.proofs.Fitting.{each_among}
use Rattle.aol_assign.proofs.HolesTold.{AllAre, all_both, instance_aligned, main_aligned}
use Rattle.aol_assign.proofs.ListedCopies.{listed_of}
use Rattle.aol_assign.proofs.MainCells.{main_exist, main_zip}
use Rattle.aol_assign.proofs.ReadingPlaces.{Aligned, aligned_get, aligned_element}
use Rattle.aol_equiv.specs.declared.compare.Sides.{Sides}
use Rattle.aol_equiv.specs.Answers.{LostIs}
use Rattle.aol_equiv.specs.Compared.{AreCompared, AreKeptBefore, IsKeptAt, IsFirstAt, TellsFirst}
use Rattle.aol_equiv.specs.Leads.{end_of}
use Rattle.aol_equiv.proofs.Befores.{old_at, same_sizes}
use Rattle.aol_equiv.proofs.Filling.{aligned_length, zip_get, get_zip}
use Rattle.aol_equiv.proofs.ReadEnds.{read_ends, instance_reads}

-- ---- the first that fails

split_get : {X : Type 0} (xs ys : List X) (k : ℕ) (x : X) → slice_get (xs ++ ys) k ≡ Some x → (slice_get xs k ≡ Some x) ⊎ ((j : ℕ) × (k ≡ length xs + j) × (slice_get ys j ≡ Some x))
split_get [] ys k x h = inr (k, (omega arith), h)
split_get (y ∷ xs) ys zero x h = inl h
split_get (y ∷ xs) ys (suc k) x h = elim (split_get xs ys k x h) [ inl a ↦ inl a | inr b ↦ inr (b.0, (omega (arith, b.1)), b.2) ]

first_after : {X : Type 0} (P : X → Type 0) (xs ys : List X) (y : X) → AllAre P xs → IsFirstFailing P ys y → IsFirstFailing P (xs ++ ys) y
first_after P xs ys y all f = record {
  number = length xs + f.number;
  at = slice_get-right xs ys f.number ∙ f.at;
  fails = f.fails;
  before = λ k x lt h. elim (split_get xs ys k x h) [ inl a ↦ all k x a | inr b ↦ f.before b.0 x (omega (arith, lt, b.1)) b.2 ];
}

first_front : {X : Type 0} (P : X → Type 0) (xs ys : List X) (y : X) → IsFirstFailing P xs y → IsFirstFailing P (xs ++ ys) y
first_front P xs ys y f = record {
  number = f.number;
  at = slice_get-left xs ys f.number y f.at;
  fails = f.fails;
  before = λ k x lt h. elim (split_get xs ys k x h) [
    | inl a ↦ f.before k x lt a
    | inr b ↦ absurd (omega (arith, lt, b.1, slice_get_within xs f.number y f.at))
  ];
}

-- what stands at a place of a list
pub there_at : {X : Type 0} (xs : List X) (k : ℕ) → k < length xs → (x : X) × (slice_get xs k ≡ Some x)
there_at [] k lt = absurd (omega (arith, lt))
there_at (x ∷ xs) zero lt = (x, refl)
there_at (x ∷ xs) (suc k) lt = there_at xs k (omega (arith, lt))

-- a reading is that of its element at its place
reading_is : (who : Reader) (rs : List Reading) (ps : List (ℕ × ℕ)) (es : List Element) → Aligned who rs ps es → (n : ℕ) (r : Reading) → slice_get rs n ≡ Some r → r.reader ≡ who
reading_is who [] ps es a n r h = cc
reading_is who (s ∷ rs) [] es a n r h = absurd a
reading_is who (s ∷ rs) (q ∷ ps) [] a n r h = absurd a
reading_is who (s ∷ rs) (q ∷ ps) (x ∷ es) a zero r h = let f : r ≡ s = cc in ap (λ (y : Reading). y.reader) f ∙ ap (λ (y : Reading). y.reader) a.0
reading_is who (s ∷ rs) (q ∷ ps) (x ∷ es) a (suc n) r h = reading_is who rs ps es a.1 n r h

element_reading : (who : Reader) (rs : List Reading) (ps : List (ℕ × ℕ)) (es : List Element) → Aligned who rs ps es → (n : ℕ) (e : Element) → slice_get es n ≡ Some e → (r : Reading) × (slice_get rs n ≡ Some r) × (r.element ≡ e)
element_reading who [] [] [] a n e h = cc
element_reading who [] (q ∷ ps) es a n e h = absurd a
element_reading who [] [] (x ∷ es) a n e h = absurd a
element_reading who (r ∷ rs) [] es a n e h = absurd a
element_reading who (r ∷ rs) (q ∷ ps) [] a n e h = absurd a
element_reading who (r ∷ rs) (q ∷ ps) (x ∷ es) a zero e h = let f : x ≡ e = cc in (r, refl, ap (λ (y : Reading). y.element) a.0 ∙ f)
element_reading who (r ∷ rs) (q ∷ ps) (x ∷ es) a (suc n) e h = element_reading who rs ps es a.1 n e h

module _ (s : Sides) (known : AreCompared s) where
  abbrev old : Model
  old = s.old.now.model

  abbrev new : Model
  new = s.new.now.model

  abbrev old_of : List ℕ
  old_of = s.old_of.now

  abbrev pub IsKept : Reading → Type 0
  IsKept r = ReadingIsKept old new old_of r

  -- what the old model reads in place of a reading of the new one
  pub record IsBefore (before : List Read) (k : ℕ) (r : Reading) : Type 0 where
    pub element : Element
    pub is : reading_before old old_of r ≡ Some element
    pub exists : IsElement old element
    pub read : Read
    pub at : slice_get before k ≡ Some read
    pub reads : IsReadOf s.old.now element read
    pub ending : End
    pub ends : EndsAt old element ending

  module _ (who : Reader) (rs : List Reading) (ps : List (ℕ × ℕ)) (es : List Element) (line : Aligned who rs ps es) (taken : List Read) (zip : AllZip (IsReadOf s.new.now) es taken)
      (exist : (p : Element) → IsAmong es p → IsElement new p) (before : List Read) (olds : (k : ℕ) (r : Reading) → slice_get rs k ≡ Some r → IsBefore before k r) where
    -- the read of a reading
    read_of : (k : ℕ) (r : Reading) → slice_get rs k ≡ Some r → (d : Read) × (slice_get taken k ≡ Some d) × IsReadOf s.new.now r.element d × IsElement new r.element
    read_of k r at =
        let e = aligned_element who rs ps es line k r at in
        let z = get_zip (IsReadOf s.new.now) es taken zip k r.element e in
        (z.0, z.1, z.2, exist r.element (get_among es k r.element e))

    kept_there : (k : ℕ) (r : Reading) → slice_get rs k ≡ Some r → IsKeptAt s taken before k → IsKept r
    kept_there k r at kept q h =
        let d = read_of k r at in
        let o = olds k r at in
        let both : Some o.element ≡ Some q = sym o.is ∙ h in
        let one : o.element ≡ q = cc in
        let known_end = (known.old_is.each o.element o.read o.exists o.reads o.ending).1 o.ends in
        let f = kept d.0 o.read o.ending d.1 o.at known_end in
        let P : Element → Type 0 = λ x. EndsAt old x (old_end old_of f.0) in
        let Q : End → Type 0 = λ x. EndsAt old o.element x in
        record {
          ending = f.0;
          new_ends = (known.new_is.each r.element d.0 d.3 d.2 f.0).0 f.1;
          old_ends = subst P one (subst Q (sym f.2) o.ends);
        }

    there_kept : (k : ℕ) (r : Reading) → slice_get rs k ≡ Some r → IsKept r → IsKeptAt s taken before k
    there_kept k r at kept t q e ht hq he =
        let d = read_of k r at in
        let o = olds k r at in
        let f = kept o.element o.is in
        let reads : Some d.0 ≡ Some t = sym d.1 ∙ ht in
        let one : d.0 ≡ t = cc in
        let befores : Some o.read ≡ Some q = sym o.at ∙ hq in
        let other : o.read ≡ q = cc in
        let P : Read → Type 0 = λ x. end_of s.new_ends.now x ≡ Some f.ending in
        let ends = (known.old_is.each o.element o.read o.exists o.reads (old_end old_of f.ending)).1 f.old_ends in
        let ends_same : Some (old_end old_of f.ending) ≡ Some e = sym ends ∙ (ap (end_of s.old_ends.now) other ∙ he) in
        let same_end : old_end old_of f.ending ≡ e = cc in
        (f.ending, subst P one ((known.new_is.each r.element d.0 d.3 d.2 f.ending).1 f.new_ends), same_end)

    pub none_told : TellsFirst s taken before None → AllAre IsKept rs
    none_told all k r at = let d = read_of k r at in kept_there k r at (all k (slice_get_within taken k d.0 d.1))

    pub lost_told : (number : ℕ) (required : End) → IsFirstAt s taken before number required → (p : ℕ × ℕ) → slice_get ps number ≡ Some p
        → (r : Reading) × IsFirstFailing IsKept rs r × (r.reader ≡ who) × (r.port ≡ p.0) × (r.rank ≡ p.1) × (q : Element) × (reading_before old old_of r ≡ Some q) × EndsAt old q required × ((e : End) → EndsAt old q e → e ≡ required)
    lost_told number required first p place =
        let t = there_at taken number first.inside in
        let z = zip_get (IsReadOf s.new.now) es taken zip number t.0 t.1 in
        let r : Reading = record { reader = who; port = p.0; rank = p.1; element = z.0 } in
        let there : slice_get rs number ≡ Some r = aligned_get who rs ps es line number z.0 p z.1 place in
        let o = olds number r there in
        let both : Some o.read ≡ Some first.read = sym o.at ∙ first.at in
        let one : o.read ≡ first.read = cc in (
          r,
          record {
            number = number;
            at = there;
            fails = λ kept. first.fails (there_kept number r there kept);
            before = λ k x lt h. kept_there k x h (first.earlier k lt);
          },
          refl,
          refl,
          refl,
          o.element,
          o.is,
          (known.old_is.each o.element o.read o.exists o.reads required).0 (ap (end_of s.old_ends.now) one ∙ first.ends),
          λ e g.
              let ends : Some e ≡ Some required = sym ((known.old_is.each o.element o.read o.exists o.reads e).1 g) ∙ (ap (end_of s.old_ends.now) one ∙ first.ends) in
              cc,
        )

  -- ---- an instance

  -- an instance with its old one
  pub record AtInstance (j : ℕ) : Type 0 where
    pub instance : Instance
    pub at : slice_get (instances new) j ≡ Some instance
    pub old_instance : Instance
    pub at_old : slice_get (instances old) (slice_index old_of j) ≡ Some old_instance

  pub at_instance : (j : ℕ) → j < length (instances new) → AtInstance j
  at_instance j lt = let kind = known.comparable.alike.kinds j lt in record { instance = kind.new_instance; at = kind.at_new; old_instance = kind.old_instance; at_old = kind.at_old }

  module _ (j : ℕ) (i : Instance) (at : slice_get (instances new) j ≡ Some i) (o : Instance) (at_old : slice_get (instances old) (slice_index old_of j) ≡ Some o) where
    lined : Aligned (ByInstance j) (instance_readings new (j, i)) (places_of_sizes 0 (read_sizes new i)) (read_elements new i)
    lined = instance_aligned new j i (listed_of new known.new_flat.sound j i at)

    real : IsReal new i
    real = sound_is_real new known.new_flat.sound j i at

    real_old : IsReal old o
    real_old = sound_is_real old known.old_flat.sound (slice_index old_of j) o at_old

    -- its reads have as many places
    pub spot_reads : length (places_of_sizes 0 (read_sizes new i)) ≡ length (read_elements new i)
    spot_reads = aligned_length (ByInstance j) (instance_readings new (j, i)) (places_of_sizes 0 (read_sizes new i)) (read_elements new i) lined

    -- the old instance reads as many
    pub read_count : (n : ℕ) → n ≡ sum (read_sizes new i) → n ≡ sum (read_sizes old o)
    read_count n h = h ∙ ap sum (sym (same_sizes old new old_of known.comparable.alike j i o at at_old real real_old))

    pub exist_there : (p : Element) → IsAmong (read_elements new i) p → IsElement new p
    exist_there p a = read_there new known.new_flat.sound i real p a

    before_is : (r : Reading) → r.reader ≡ ByInstance j → reading_before old old_of r ≡ old_read old o r.element
    before_is r who =
        ap (λ w. reading_before old old_of (record { reader = w; port = r.port; rank = r.rank; element = r.element })) who ∙ ap (option_and_then (λ x. old_read old x r.element)) at_old

    module _ (before : List Read) (zip_old : AllZip (IsReadOf s.old.now) (read_elements old o) before) where
      old_line : (k : ℕ) (r : Reading) → slice_get (instance_readings new (j, i)) k ≡ Some r → IsBefore before k r
      old_line k r h =
          let e = aligned_element (ByInstance j) (instance_readings new (j, i)) (places_of_sizes 0 (read_sizes new i)) (read_elements new i) lined k r h in
          let who = reading_is (ByInstance j) (instance_readings new (j, i)) (places_of_sizes 0 (read_sizes new i)) (read_elements new i) lined k r h in
          let q = old_at old new old_of known.comparable.alike j i o at at_old real real_old k r.element e in
          let a = get_among (read_elements old o) k q.0 q.2 in
          let z = get_zip (IsReadOf s.old.now) (read_elements old o) before zip_old k q.0 q.2 in
          let ending = read_ends old known.old_flat.sound known.comparable.accepted q.0 (instance_reads old o real_old q.0 a) in
          record {
            element = q.0;
            is = before_is r who ∙ q.1;
            exists = read_there old known.old_flat.sound o real_old q.0 a;
            read = z.0;
            at = z.1;
            reads = z.2;
            ending = ending.0;
            ends = ending.1;
          }

      -- every old read has an end that is known
      pub all_known : AllByRecursion (λ q. IsSome (end_of s.old_ends.now q)) before
      all_known = each_among (λ q. IsSome (end_of s.old_ends.now q)) before ended
        where
          ended : (q : Read) → IsAmong before q → IsSome (end_of s.old_ends.now q)
          ended q a =
              let z = zip_get (IsReadOf s.old.now) (read_elements old o) before zip_old a.0 q (among_get before a.0 q a.1.0 a.1.1) in
              let b = get_among (read_elements old o) a.0 z.0 z.1 in
              let e = read_ends old known.old_flat.sound known.comparable.accepted z.0 (instance_reads old o real_old z.0 b) in
              let h = (known.old_is.each z.0 q (read_there old known.old_flat.sound o real_old z.0 b) z.2 e.0).1 e.1 in
              let P : Option End → Type 0 = λ x. IsSome x in
              subst P (sym h) refl

      module _ (taken : List Read) (zip : AllZip (IsReadOf s.new.now) (read_elements new i) taken) (so_far : AreKeptBefore s j) where
        under : j < length (instances new)
        under = slice_get_within (instances new) j i at

        is_there : i ≡ get_or (instances new) j i
        is_there = got (instances new) j at
          where
            got : (xs : List Instance) (j : ℕ) → slice_get xs j ≡ Some i → i ≡ get_or xs j i
            got [] j h = cc
            got (x ∷ xs) zero h = let e : x ≡ i = cc in sym e
            got (x ∷ xs) (suc j) h = got xs j h

        one_more : readings_before new (j + 1) ≡ readings_before new j ++ instance_readings new (j, i)
        one_more = numbered_more (instance_readings new) (instances new) j i under is_there

        pub instance_kept : TellsFirst s taken before None → AreKeptBefore s (j + 1)
        instance_kept none =
            let P : List Reading → Type 0 = λ rs. AllAre IsKept rs in
            subst P (sym one_more) (all_both IsKept (readings_before new j) (instance_readings new (j, i)) so_far
            (none_told (ByInstance j) (instance_readings new (j, i)) (places_of_sizes 0 (read_sizes new i)) (read_elements new i) lined taken zip exist_there before old_line none))

        pub instance_lost : (number port rank : ℕ) (required : End) → IsFirstAt s taken before number required → slice_get (places_of_sizes 0 (read_sizes new i)) number ≡ Some (port, rank) → LostIs old new old_of (ByInstance j) port rank required
        instance_lost number port rank required first place =
            let h = lost_told (ByInstance j) (instance_readings new (j, i)) (places_of_sizes 0 (read_sizes new i)) (read_elements new i) lined taken zip exist_there before old_line number required first (port, rank) place in
            let all = flat_map (instance_readings new) (enumerate_from 0 (instances new)) in
            let front = first_after IsKept (readings_before new j) (instance_readings new (j, i)) h.0 so_far h.1 in
            let P : List Reading → Type 0 = λ rs. IsFirstFailing IsKept rs h.0 in
            let longer = first_front IsKept (readings_before new (j + 1)) _ h.0 (subst P (sym one_more) front) in
            let whole = subst P (sym (numbered_rest (instance_readings new) (instances new) (j + 1))) longer in
            record {
              reading = h.0;
              is_first = record { first = first_front IsKept all (main_readings new) h.0 whole; old_element = h.5; same_read = h.6; ends = h.7 };
              only = h.8;
              same_reader = sym h.2;
              same_port = sym h.3;
              same_point = sym h.4;
            }

  -- ---- the main outputs

  same_outputs : main_output_elements new ≡ main_output_elements old
  same_outputs = ap (elements_of []) known.comparable.alike.same_outs

  same_inputs : main_input_elements new ≡ main_input_elements old
  same_inputs = ap (elements_of []) known.comparable.alike.same_ins

  module _ (cells : List Read) (are : cells ≡ cells_from (length (main_input_elements new)) (length (main_output_elements new))) where
    zip_new : AllZip (IsReadOf s.new.now) (main_output_elements new) cells
    zip_new = let P : List Read → Type 0 = λ rs. AllZip (IsReadOf s.new.now) (main_output_elements new) rs in subst P (sym are) (main_zip s.new.now known.new_flat.sound known.new_flat.laid)

    zip_before : AllZip (IsReadOf s.old.now) (main_output_elements new) cells
    zip_before =
        let P : List Read → Type 0 = λ rs. AllZip (IsReadOf s.old.now) (main_output_elements old) rs in
        let Q : List Element → Type 0 = λ es. AllZip (IsReadOf s.old.now) es cells in
        let same_cells : cells ≡ cells_from (length (main_input_elements old)) (length (main_output_elements old)) =
        are ∙ (ap (λ es. cells_from (length es) (length (main_output_elements new))) same_inputs ∙ ap (λ es. cells_from (length (main_input_elements old)) (length es)) same_outputs) in
        subst Q (sym same_outputs) (subst P (sym same_cells) (main_zip s.old.now known.old_flat.sound known.old_flat.laid))

    old_exist : (p : Element) → IsAmong (main_output_elements new) p → IsElement old p
    old_exist p a = let P : List Element → Type 0 = λ es. IsAmong es p in main_exist s.old.now known.old_flat.sound known.old_flat.laid p (subst P same_outputs a)

    old_ends : (p : Element) → IsAmong (main_output_elements new) p → (e : End) × EndsAt old p e
    old_ends p a = let P : List Element → Type 0 = λ es. IsAmong es p in read_ends old known.old_flat.sound known.comparable.accepted p (by_caller (subst P same_outputs a))

    main_line : (k : ℕ) (r : Reading) → slice_get (main_readings new) k ≡ Some r → IsBefore cells k r
    main_line k r h =
        let e = aligned_element Main (main_readings new) (places_of_sizes 0 (port_sizes (main_outputs new))) (main_output_elements new) (main_aligned new) k r h in
        let who = reading_is Main (main_readings new) (places_of_sizes 0 (port_sizes (main_outputs new))) (main_output_elements new) (main_aligned new) k r h in
        let a = get_among (main_output_elements new) k r.element e in
        let z = get_zip (IsReadOf s.old.now) (main_output_elements new) cells zip_before k r.element e in
        let ending = old_ends r.element a in
        record {
          element = r.element;
          is = ap (λ w. reading_before old old_of (record { reader = w; port = r.port; rank = r.rank; element = r.element })) who;
          exists = old_exist r.element a;
          read = z.0;
          at = z.1;
          reads = z.2;
          ending = ending.0;
          ends = ending.1;
        }

    pub main_known : AllByRecursion (λ q. IsSome (end_of s.old_ends.now q)) cells
    main_known = each_among (λ q. IsSome (end_of s.old_ends.now q)) cells ended
      where
        ended : (q : Read) → IsAmong cells q → IsSome (end_of s.old_ends.now q)
        ended q a =
            let z = zip_get (IsReadOf s.old.now) (main_output_elements new) cells zip_before a.0 q (among_get cells a.0 q a.1.0 a.1.1) in
            let b = get_among (main_output_elements new) a.0 z.0 z.1 in
            let e = old_ends z.0 b in
            let h = (known.old_is.each z.0 q (old_exist z.0 b) z.2 e.0).1 e.1 in
            let P : Option End → Type 0 = λ x. IsSome x in
            subst P (sym h) refl

    module _ (so_far : AreKeptBefore s (length (instances new))) where
      abbrev all_before : List Reading
      all_before = flat_map (instance_readings new) (enumerate_from 0 (instances new))

      kept_before : AllAre IsKept all_before
      kept_before =
          let P : List Instance → Type 0 = λ is. AllAre IsKept (flat_map (instance_readings new) (enumerate_from 0 is)) in
          subst P (take_all (length (instances new)) (instances new) (omega arith)) so_far

      pub main_kept : TellsFirst s cells cells None → Keeps old new old_of
      main_kept none = record { single = known.single; reads = reads; main_outputs = outputs }
        where
          main : AllAre IsKept (main_readings new)
          main = none_told Main (main_readings new) (places_of_sizes 0 (port_sizes (main_outputs new))) (main_output_elements new) (main_aligned new) cells zip_new (main_exist s.new.now known.new_flat.sound known.new_flat.laid) cells main_line none

          reads : (j : ℕ) (i old_i : Instance) → slice_get (instances new) j ≡ Some i → slice_get (instances old) (slice_index old_of j) ≡ Some old_i → (p q : Element) → IsAmong (read_elements new i) p → old_read old old_i p ≡ Some q → SameEnd old new old_of p q
          reads j i o at at_old p q a h =
              let line = lined j i at o at_old in
              let r = element_reading (ByInstance j) (instance_readings new (j, i)) (places_of_sizes 0 (read_sizes new i)) (read_elements new i) line a.0 p (among_get (read_elements new i) a.0 p a.1.0 a.1.1) in
              let who = reading_is (ByInstance j) (instance_readings new (j, i)) (places_of_sizes 0 (read_sizes new i)) (read_elements new i) line a.0 r.0 r.1 in
              let listed = flat_map_among (instance_readings new) (enumerate_from 0 (instances new)) (j, i) r.0 (with_number (instances new) j i at) (get_among (instance_readings new (j, i)) a.0 r.0 r.1) in
              let kept = kept_before listed.0 r.0 (among_get all_before listed.0 r.0 listed.1.0 listed.1.1) in
              let P : Element → Type 0 = λ x. SameEnd old new old_of x q in
              subst P r.2 (kept q (before_is j i at o at_old r.0 who ∙ (ap (old_read old o) r.2 ∙ h)))

          outputs : (p : Element) → IsAmong (main_output_elements new) p → SameEnd old new old_of p p
          outputs p a =
              let r = element_reading Main (main_readings new) (places_of_sizes 0 (port_sizes (main_outputs new))) (main_output_elements new) (main_aligned new) a.0 p (among_get (main_output_elements new) a.0 p a.1.0 a.1.1) in
              let who = reading_is Main (main_readings new) (places_of_sizes 0 (port_sizes (main_outputs new))) (main_output_elements new) (main_aligned new) a.0 r.0 r.1 in
              let P : Element → Type 0 = λ x. SameEnd old new old_of x p in
              subst P r.2 (main a.0 r.0 r.1 p (ap (λ w. reading_before old old_of (record { reader = w; port = r.0.port; rank = r.0.rank; element = r.0.element })) who ∙ ap Some r.2))

      pub main_lost : (number port rank : ℕ) (required : End) → IsFirstAt s cells cells number required → slice_get (places_of_sizes 0 (port_sizes (main_outputs new))) number ≡ Some (port, rank) → LostIs old new old_of Main port rank required
      main_lost number port rank required first place =
          let h = lost_told Main (main_readings new) (places_of_sizes 0 (port_sizes (main_outputs new))) (main_output_elements new) (main_aligned new) cells zip_new (main_exist s.new.now known.new_flat.sound known.new_flat.laid) cells main_line number required first (port, rank) place in
          record {
            reading = h.0;
            is_first = record { first = first_after IsKept all_before (main_readings new) h.0 kept_before h.1; old_element = h.5; same_read = h.6; ends = h.7 };
            only = h.8;
            same_reader = sym h.2;
            same_port = sym h.3;
            same_point = sym h.4;
          }

-- a port and a rank of a list
pub spot_got : (spots : List (ℕ × ℕ)) (k : ℕ) → k < length spots → slice_get spots k ≡ Some ((get_or spots k (0, 0)).0, (get_or spots k (0, 0)).1)
spot_got [] k lt = absurd (omega (arith, lt))
spot_got (p ∷ spots) zero lt = refl
spot_got (p ∷ spots) (suc k) lt = spot_got spots k (omega (arith, lt))
