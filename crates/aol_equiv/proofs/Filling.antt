-- The leads of cells grow instance by instance.
use Rattle.std.proofs.Common.{◌≡◌, ℕ, zero, suc, ◌+◌, ◌<◌, List, [], ◌∷◌, length, map, Option, Some, None, slice_get, option_map, option_and_then, unwrap_or, sym, ◌∙◌, ap, refl, arith, ◌⊎◌, inl, inr, subst}
use Rattle.std.specs.Prelude.{filter_map}
use Rattle.std.specs.List.{IsAmong, AllZip, AllByRecursion}
use Rattle.std.proofs.lemmas.Option.{slice_get_within}
use Rattle.aol_shape.specs.Shape.{size, point_at, rank}
use Rattle.aol_shape.proofs.Points.{rank-point_at}
use Rattle.aol_expr_tree.specs.declared.port.Port.{Port}
use Rattle.aol_model_types.specs.declared.task.OutPort.{OutPort}
use Rattle.aol_model_types.specs.declared.task.Task.TheVariants as tasks
use Rattle.aol_model_types.specs.Rules.{outputs_of, task_name}
use Rattle.aol_flat.specs.Place.{Place, Element, elements_of}
use Rattle.aol_flat.specs.Home.{Kept}
use Rattle.aol_flat.specs.Instance.{Instance, Run, Copy, instances, of_task, element_of_port, port_element, port_sizes, places_of_sizes, written_element, written_elements, written_sizes, read_elements}
use Rattle.aol_flat.specs.InstanceNeed.{IsReal}
use Rattle.aol_flat.specs.Laid.{Laid, IsLaid, IsCellOf, IsReadOf}
use Rattle.aol_flat.specs.Level.{WritesCell}
use Rattle.aol_flat.specs.Reads.{Reading, reading_at}
use Rattle.aol_flat.specs.Targets.{IsSingleAssignment}
use Rattle.aol_flat.specs.Accept.{IsSound}
use Rattle.aol_flat.specs.declared.view.End.TheVariants.{Made}
use Rattle.aol_flat.specs.declared.view.Read.{Read}
use Rattle.aol_flat.specs.declared.view.Read.TheVariants.{Cell, Const}
use Rattle.aol_flat.specs.declared.view.Reader.TheVariants.{Main}
use Rattle.aol_flat.proofs.Among.{among_get, get_among}
use Rattle.aol_flat.proofs.Checked.{task_of}
use Rattle.aol_flat.proofs.Find.{and_then_some, task_at_named}
use Rattle.aol_flat.proofs.Real.{sound_is_real}
use Rattle.aol_flat_laws.proofs.Apart.{Apart}
use Rattle.aol_flat_laws.proofs.LaidHomes.{laid_cells_are_homes}
use Rattle.aol_flat_laws.proofs.OneWriter.{only_member, written_there, one_home, among_written}
use Rattle.aol_flat_laws.proofs.Ports.{DifferentNames, outputs_differ}
use Rattle.aol_assign.proofs.CellWriters.{one_writer}
use Rattle.aol_assign.proofs.Fitting.{each_among}
use Rattle.aol_assign.proofs.ReadingPlaces.{Aligned, aligned_get, ports_aligned}
use Rattle.aol_equiv.specs.declared.leads.Lead.{Lead}
use Rattle.aol_equiv.specs.declared.leads.Lead.TheVariants.{Ends, Nowhere}
use Rattle.aol_equiv.specs.Leads.{lead_of, put_leads}
use Rattle.aol_equiv.specs.Table.{IsLeadOf, IsFilled, HasLeads, HasSpots, IsCopying, made_by}
use Rattle.aol_equiv.proofs.Ended.{at_rank, ends_here}
use Rattle.aol_equiv.proofs.Setting.{IsPut, put_length, put_either, put_some}

-- ---- pairs of two lists

pub zip_get : {X Y : Type 0} (R : X → Y → Type 0) (xs : List X) (ys : List Y) → AllZip R xs ys → (k : ℕ) (y : Y) → slice_get ys k ≡ Some y → (x : X) × (slice_get xs k ≡ Some x) × R x y
zip_get R [] [] z k y h = cc
zip_get R [] (v ∷ ys) z k y h = absurd z
zip_get R (x ∷ xs) [] z k y h = cc
zip_get {Y = Y} R (x ∷ xs) (v ∷ ys) z zero y h = let f : v ≡ y = cc in let P : Y → Type 0 = λ w. R x w in (x, refl, subst P f z.0)
zip_get R (x ∷ xs) (v ∷ ys) z (suc k) y h = zip_get R xs ys z.1 k y h

pub get_zip : {X Y : Type 0} (R : X → Y → Type 0) (xs : List X) (ys : List Y) → AllZip R xs ys → (k : ℕ) (x : X) → slice_get xs k ≡ Some x → (y : Y) × (slice_get ys k ≡ Some y) × R x y
get_zip R [] ys z k x h = cc
get_zip R (v ∷ xs) [] z k x h = absurd z
get_zip {X = X} R (v ∷ xs) (y ∷ ys) z zero x h = let f : v ≡ x = cc in let P : X → Type 0 = λ w. R w y in (y, refl, subst P f z.0)
get_zip R (v ∷ xs) (y ∷ ys) z (suc k) x h = get_zip R xs ys z.1 k x h

pub zip_length : {X Y : Type 0} (R : X → Y → Type 0) (xs : List X) (ys : List Y) → AllZip R xs ys → length xs ≡ length ys
zip_length R [] [] z = refl
zip_length R [] (v ∷ ys) z = absurd z
zip_length R (x ∷ xs) [] z = absurd z
zip_length R (x ∷ xs) (v ∷ ys) z = ap suc (zip_length R xs ys z.1)

pub map_get : {X Y : Type 0} (f : X → Y) (xs : List X) (k : ℕ) (x : X) → slice_get xs k ≡ Some x → slice_get (map f xs) k ≡ Some (f x)
map_get f [] k x h = cc
map_get f (y ∷ xs) zero x h = let e : y ≡ x = cc in ap (λ z. Some (f z)) e
map_get f (y ∷ xs) (suc k) x h = map_get f xs k x h

pub get_map : {X Y : Type 0} (f : X → Y) (xs : List X) (k : ℕ) (y : Y) → slice_get (map f xs) k ≡ Some y → (x : X) × (slice_get xs k ≡ Some x) × (y ≡ f x)
get_map f [] k y h = cc
get_map f (x ∷ xs) zero y h = let e : y ≡ f x = cc in (x, refl, e)
get_map f (x ∷ xs) (suc k) y h = get_map f xs k y h

-- ---- one instance more

module _ (f : Laid) (sound : IsSound f.model) (laid : IsLaid f) where
  -- an element is read one way
  pub read_once : (e : Element) (r s : Read) → IsReadOf f e r → IsReadOf f e s → r ≡ s
  read_once e (Cell c) (Cell d) a b =
      let homes : Kept b.home ≡ Kept a.home = sym b.is_home ∙ a.is_home in
      let home : b.home ≡ a.home = cc in
      ap Cell ((laid_cells_are_homes f sound.shapes laid).once c d a.home a.at_cell (b.at_cell ∙ ap Some home))
  read_once e (Cell c) (Const n) a b = let no = sym a.is_home ∙ b in cc
  read_once e (Const n) (Cell c) a b = let no = sym b.is_home ∙ a in cc
  read_once e (Const n) (Const k) a b = let no = sym a ∙ b in cc

  module _ (single : IsSingleAssignment f.model) (n : ℕ) (i : Instance) (at : slice_get (instances f.model) n ≡ Some i) (cs : List ℕ) (zip : AllZip (IsCellOf f) (written_elements f.model i) cs) (vs : List Lead)
      (fits : (k : ℕ) (e : Element) (v : Lead) → slice_get (written_elements f.model i) k ≡ Some e → slice_get vs k ≡ Some v → IsLeadOf f n i e v)
      (whole : (k : ℕ) (e : Element) (v : Lead) → slice_get (written_elements f.model i) k ≡ Some e → IsLeadOf f n i e v → slice_get vs k ≡ Some v)
      (reads : (place : Place) (k : ℕ) (r s : List ℕ) → i ≡ Copy place k r s → (q : Element) → IsAmong (read_elements f.model i) q → (read : Read) × IsReadOf f q read) where
    real : IsReal f.model i
    real = sound_is_real f.model sound n i at

    writes : (c j : ℕ) (lead : Lead) → IsFilled f j c lead → WritesCell f j c
    writes c j lead w =
        let k = among_written f.model w.instance w.element (sound_is_real f.model sound j w.instance w.at) w.written in
        record { instance = w.instance; at = w.at; port = k.0; rank = k.1; element = w.element; written = k.2; in_cell = w.in_cell }

    -- the element in one of the cells, of those that the instance writes
    one_element : (e w : Element) → IsAmong (written_elements f.model i) e → IsAmong (written_elements f.model i) w → (c : ℕ) → IsCellOf f e c → IsCellOf f w c → e ≡ w
    one_element e w a b c x y =
        let both : Some y.home ≡ Some x.home = sym y.at_cell ∙ x.at_cell in
        let home : y.home ≡ x.home = cc in
        let there = written_there f.model sound single i real e a in
        let there' = written_there f.model sound single i real w b in
        sym (ends_here f.model e w there.1 (one_home f.model sound single e w x.home there.0 there'.0 there'.1 x.is_home (y.is_home ∙ ap Kept home)))

    put_filled : (c : ℕ) (list : List Lead) → IsPut list cs vs c → (lead : Lead) → slice_get (put_leads list cs vs) c ≡ Some lead → IsFilled f n c lead
    put_filled c list p lead h =
        let z = zip_get (IsCellOf f) (written_elements f.model i) cs zip p.number c p.at in
        let both : Some p.lead ≡ Some lead = sym p.there ∙ h in
        let one : p.lead ≡ lead = cc in
        let P : Lead → Type 0 = λ v. IsLeadOf f n i z.0 v in
        record { instance = i; at = at; element = z.0; written = get_among (written_elements f.model i) p.number z.0 z.1; in_cell = z.2; is = subst P one (fits p.number z.0 p.lead z.1 p.has) }

    pub one_led : (list : List Lead) → HasLeads f n list → HasLeads f (n + 1) (put_leads list cs vs)
    one_led list has = record {
      many = put_length list cs vs ∙ has.many;
      some = λ c j lead lt w. some c j lead w (last_or_earlier j lt);
      back = λ c lead h. back c lead h (put_either list cs vs c (under c lead h));
      reads = λ j place k r s lt at_j q a. have j place k r s at_j q a (last_or_earlier j lt);
    }
      where
        last_or_earlier : (j : ℕ) → j < n + 1 → (n ≡ j) ⊎ (j < n)
        last_or_earlier j h = grind arith

        under : (c : ℕ) (lead : Lead) → slice_get (put_leads list cs vs) c ≡ Some lead → c < length list
        under c lead h = let lt = slice_get_within (put_leads list cs vs) c lead h in omega (arith, lt, put_length list cs vs)

        here_put : (c : ℕ) (lead : Lead) → IsFilled f n c lead → slice_get (put_leads list cs vs) c ≡ Some lead
        here_put c lead w = go
          where
            one : w.instance ≡ i
            one = let both : Some w.instance ≡ Some i = sym w.at ∙ at in cc

            written : IsAmong (written_elements f.model i) w.element
            written = let P : Instance → Type 0 = λ x. IsAmong (written_elements f.model x) w.element in subst P one w.written

            is : IsLeadOf f n i w.element lead
            is = let P : Instance → Type 0 = λ x. IsLeadOf f n x w.element lead in subst P one w.is

            listed : slice_get (written_elements f.model i) written.0 ≡ Some w.element
            listed = among_get (written_elements f.model i) written.0 w.element written.1.0 written.1.1

            lt : c < length list
            lt = let k = slice_get_within f.cells c w.in_cell.home w.in_cell.at_cell in omega (arith, k, has.many)

            put : IsPut list cs vs c
            put =
                let z = get_zip (IsCellOf f) (written_elements f.model i) cs zip written.0 w.element listed in
                let homes : Kept z.2.home ≡ Kept w.in_cell.home = sym z.2.is_home ∙ w.in_cell.is_home in
                let home : z.2.home ≡ w.in_cell.home = cc in
                let cell : z.0 ≡ c = (laid_cells_are_homes f sound.shapes laid).once z.0 c w.in_cell.home (z.2.at_cell ∙ ap Some home) w.in_cell.at_cell in
                put_some list cs vs c written.0 lead (z.1 ∙ ap Some cell) (whole written.0 w.element lead listed is) lt

            go : slice_get (put_leads list cs vs) c ≡ Some lead
            go =
                let z = zip_get (IsCellOf f) (written_elements f.model i) cs zip put.number c put.at in
                let same_element : w.element ≡ z.0 = one_element w.element z.0 written (get_among (written_elements f.model i) put.number z.0 z.1) c w.in_cell z.2 in
                let P : Element → Type 0 = λ x. IsLeadOf f n i x lead in
                let there : slice_get vs put.number ≡ Some lead = whole put.number z.0 lead z.1 (subst P same_element is) in
                put.there ∙ (sym put.has ∙ there)

        some : (c j : ℕ) (lead : Lead) → IsFilled f j c lead → (n ≡ j) ⊎ (j < n) → slice_get (put_leads list cs vs) c ≡ Some lead
        some c j lead w (inl e) = let P : ℕ → Type 0 = λ x. IsFilled f x c lead in here_put c lead (subst P (sym e) w)
        some c j lead w (inr lt) = go (put_either list cs vs c (let k = slice_get_within f.cells c w.in_cell.home w.in_cell.at_cell in omega (arith, k, has.many)))
          where
            go : IsPut list cs vs c ⊎ (slice_get (put_leads list cs vs) c ≡ slice_get list c) → slice_get (put_leads list cs vs) c ≡ Some lead
            go (inl p) =
                let one = one_writer f sound single n j c (writes c n p.lead (put_filled c list p p.lead p.there)) (writes c j lead w) in
                absurd (omega (arith, lt, one))
            go (inr k) = k ∙ has.some c j lead lt w

        back : (c : ℕ) (lead : Lead) → slice_get (put_leads list cs vs) c ≡ Some lead → IsPut list cs vs c ⊎ (slice_get (put_leads list cs vs) c ≡ slice_get list c) → (lead ≡ Nowhere) ⊎ ((j : ℕ) × (j < n + 1) × IsFilled f j c lead)
        back c lead h (inl p) = inr (n, (omega arith), put_filled c list p lead h)
        back c lead h (inr k) = elim (has.back c lead (sym k ∙ h)) [ inl e ↦ inl e | inr w ↦ inr (w.0, (omega (arith, w.1)), w.2) ]

        have : (j : ℕ) (place : Place) (k : ℕ) (r s : List ℕ) → slice_get (instances f.model) j ≡ Some (Copy place k r s) → (q : Element) → IsAmong (read_elements f.model (Copy place k r s)) q → (n ≡ j) ⊎ (j < n) → (read : Read) × IsReadOf f q read
        have j place k r s at_j q a (inr lt) = has.reads j place k r s lt at_j q a
        have j place k r s at_j q a (inl e) =
            let both : Some i ≡ Some (Copy place k r s) = sym at ∙ (ap (slice_get (instances f.model)) e ∙ at_j) in
            let one : i ≡ Copy place k r s = cc in
            let P : Instance → Type 0 = λ x. IsAmong (read_elements f.model x) q in
            reads place k r s one q (subst P (sym one) a)

-- ---- a run

-- the place of an element, and what stands there
aligned_place : (who : _) (rs : List Reading) (ps : List (ℕ × ℕ)) (es : List Element) → Aligned who rs ps es → (n : ℕ) (e : Element) → slice_get es n ≡ Some e → (p : ℕ × ℕ) × (slice_get ps n ≡ Some p)
aligned_place who [] [] [] a n e h = cc
aligned_place who [] (q ∷ ps) es a n e h = absurd a
aligned_place who [] [] (x ∷ es) a n e h = absurd a
aligned_place who (r ∷ rs) [] es a n e h = absurd a
aligned_place who (r ∷ rs) (q ∷ ps) [] a n e h = absurd a
aligned_place who (r ∷ rs) (q ∷ ps) (x ∷ es) a zero e h = (q, refl)
aligned_place who (r ∷ rs) (q ∷ ps) (x ∷ es) a (suc n) e h = aligned_place who rs ps es a.1 n e h

filtered : {X Y : Type 0} (g : X → Option Y) (xs : List X) (k : ℕ) (y : Y) → slice_get (filter_map g xs) k ≡ Some y → (x : X) × (g x ≡ Some y)
filtered g [] k y h = cc
filtered {X = X} {Y = Y} g (x ∷ xs) k y h = go (g x) refl k h (filtered g xs)
  where
    go : (o : Option Y) → g x ≡ o → (k : ℕ) → slice_get (filter_map g (x ∷ xs)) k ≡ Some y → ((k : ℕ) (y : Y) → slice_get (filter_map g xs) k ≡ Some y → (x : X) × (g x ≡ Some y)) → (x : X) × (g x ≡ Some y)
    go None e k h later = later k y (rw e at h)
    go (Some w) e k h later = first k (rw e at h)
      where
        first : (k : ℕ) → slice_get (w ∷ filter_map g xs) k ≡ Some y → (x : X) × (g x ≡ Some y)
        first zero h = let f : w ≡ y = cc in (x, e ∙ ap Some f)
        first (suc k) h = later k y h

module _ (place : Place) (ports : List Port) where
  sized : List (ℕ × ℕ)
  sized = places_of_sizes 0 (port_sizes ports)

  -- the element at a place
  pub placed : (k : ℕ) (p : ℕ × ℕ) (e : Element) → slice_get (places_of_sizes 0 (port_sizes ports)) k ≡ Some p → slice_get (elements_of place ports) k ≡ Some e → port_element place ports p.0 p.1 ≡ Some e
  placed k p e at there =
      let r : Reading = record { reader = Main; port = p.0; rank = p.1; element = e } in
      let g : ℕ × ℕ → Option Reading = reading_at Main (port_element place ports) in
      let listed = aligned_get Main (filter_map g (places_of_sizes 0 (port_sizes ports))) (places_of_sizes 0 (port_sizes ports)) (elements_of place ports) (ports_aligned Main place ports) k e p there at in
      let x = filtered g (places_of_sizes 0 (port_sizes ports)) k r listed in
      go x.0 (port_element place ports x.0.0 x.0.1) refl x.1
    where
      go : (x : ℕ × ℕ) (o : Option Element) → port_element place ports x.0 x.1 ≡ o → option_map {U = Reading} (λ y. record { reader = Main; port = x.0; rank = x.1; element = y }) o ≡ Some (record { reader = Main; port = p.0; rank = p.1; element = e })
          → port_element place ports p.0 p.1 ≡ Some e
      go x None h f = cc
      go x (Some y) h f =
          let same_reading : ◌≡◌ {A = Reading} (record { reader = Main; port = x.0; rank = x.1; element = y }) (record { reader = Main; port = p.0; rank = p.1; element = e }) = cc in
          let port : x.0 ≡ p.0 = ap (λ (z : Reading). z.port) same_reading in
          let ranks : x.1 ≡ p.1 = ap (λ (z : Reading). z.rank) same_reading in
          let element : y ≡ e = ap (λ (z : Reading). z.element) same_reading in
          ap (λ a. port_element place ports a p.1) (sym port) ∙ (ap (port_element place ports x.0) (sym ranks) ∙ (h ∙ ap Some element))

  -- each element has a place
  pub place_there : (k : ℕ) (e : Element) → slice_get (elements_of place ports) k ≡ Some e → (p : ℕ × ℕ) × (slice_get (places_of_sizes 0 (port_sizes ports)) k ≡ Some p)
  place_there k e h =
      aligned_place Main (filter_map (reading_at Main (port_element place ports)) (places_of_sizes 0 (port_sizes ports))) (places_of_sizes 0 (port_sizes ports)) (elements_of place ports) (ports_aligned Main place ports) k e h

  named_once : (ports : List Port) → Apart DifferentNames ports → (j k : ℕ) (p q : Port) → slice_get ports j ≡ Some p → slice_get ports k ≡ Some q → p.name ≡ q.name → j ≡ k
  named_once [] apart j k p q a b e = cc
  named_once (x ∷ ports) apart zero zero p q a b e = refl
  named_once (x ∷ ports) apart zero (suc k) p q a b e = let f : x ≡ p = cc in absurd (apart.0 q (get_among ports k q b) (ap (λ (y : Port). y.name) f ∙ e))
  named_once (x ∷ ports) apart (suc j) zero p q a b e = let f : x ≡ q = cc in absurd (apart.0 p (get_among ports j p a) (ap (λ (y : Port). y.name) f ∙ sym e))
  named_once (x ∷ ports) apart (suc j) (suc k) p q a b e = ap suc (named_once ports apart.1 j k p q a b e)

  -- an element of ports with different names has one place
  pub one_place : Apart DifferentNames ports → (k x j y : ℕ) (e : Element) → port_element place ports k x ≡ Some e → port_element place ports j y ≡ Some e → (k ≡ j) × (x ≡ y)
  one_place apart k x j y e h g =
      let p = and_then_some (element_of_port place x) (slice_get ports k) e h in
      let q = and_then_some (element_of_port place y) (slice_get ports j) e g in
      let a = at_rank place x p.0 e p.2 in
      let b = at_rank place y q.0 e q.2 in
      let names : p.0.name ≡ q.0.name = sym (ap (λ (z : Element). z.port) a.1) ∙ ap (λ (z : Element). z.port) b.1 in
      let number = named_once ports apart k j p.0 q.0 p.1 q.1 names in
      let both : Some p.0 ≡ Some q.0 = sym p.1 ∙ (ap (slice_get ports) number ∙ q.1) in
      let port : p.0 ≡ q.0 = cc in
      let index : point_at p.0.shape x ≡ point_at q.0.shape y = sym (ap (λ (z : Element). z.index) a.1) ∙ ap (λ (z : Element). z.index) b.1 in
      let P : Port → Type 0 = λ z. (y < size z.shape) × (point_at p.0.shape x ≡ point_at z.shape y) in
      let there = subst P (sym port) (b.0, index) in (
        number,
        sym (rank-point_at p.0.shape x a.0) ∙ (ap (rank p.0.shape) there.1 ∙ rank-point_at p.0.shape y there.0),
      )

module _ (f : Laid) (sound : IsSound f.model) (n : ℕ) (place : Place) (at : slice_get (instances f.model) n ≡ Some (Run place)) where
  abbrev made : IsReal f.model (Run place)
  made = sound_is_real f.model sound n (Run place) at

  abbrev outs : List Port
  outs = map (λ (o : OutPort). o.port) made.0.outs

  outs_differ : Apart DifferentNames outs
  outs_differ =
      let r = task_of f.model (tasks.Elementary made.0) (task_name (tasks.Elementary made.0)) sound.shapes (task_at_named f.model place (tasks.Elementary made.0) made.1) in
      outputs_differ r.before r.place (tasks.Elementary made.0) r.holds

  written_are : written_elements f.model (Run place) ≡ elements_of place outs
  written_are = ap (of_task (λ t. elements_of place (outputs_of t))) made.1

  sizes_are : written_sizes f.model (Run place) ≡ port_sizes outs
  sizes_are = ap (λ o. unwrap_or (option_map (λ t. port_sizes (outputs_of t)) o) []) made.1

  written_is : (k x : ℕ) → written_element f.model (Run place) k x ≡ port_element place outs k x
  written_is k x = ap (option_and_then (λ t. port_element place (outputs_of t) k x)) made.1

  module _ (spots : List (ℕ × ℕ)) (are : spots ≡ places_of_sizes 0 (written_sizes f.model (Run place))) where
    spots_are : spots ≡ places_of_sizes 0 (port_sizes outs)
    spots_are = are ∙ ap (places_of_sizes 0) sizes_are

    pub run_fits : (k : ℕ) (e : Element) (v : Lead) → slice_get (written_elements f.model (Run place)) k ≡ Some e → slice_get (map (made_by n) spots) k ≡ Some v → IsLeadOf f n (Run place) e v
    run_fits k e v h g =
        let p = get_map (made_by n) spots k v g in
        let element = placed place outs k p.0 e (ap (λ ps. slice_get ps k) (sym spots_are) ∙ p.1) (ap (λ es. slice_get es k) (sym written_are) ∙ h) in
        (p.0.0, p.0.1, written_is p.0.0 p.0.1 ∙ element, p.2)

    pub run_whole : (k : ℕ) (e : Element) (v : Lead) → slice_get (written_elements f.model (Run place)) k ≡ Some e → IsLeadOf f n (Run place) e v → slice_get (map (made_by n) spots) k ≡ Some v
    run_whole k e v h lead =
        let there = ap (λ es. slice_get es k) (sym written_are) ∙ h in
        let p = place_there place outs k e there in
        let element = placed place outs k p.0 e p.1 there in
        let one = one_place place outs outs_differ p.0.0 p.0.1 lead.0 lead.1 e element (sym (written_is lead.0 lead.1) ∙ lead.2) in
        map_get (made_by n) spots k p.0 (ap (λ ps. slice_get ps k) spots_are ∙ p.1)
        ∙ (ap (λ a. Some (Ends (Made n a p.0.1))) one.0 ∙ (ap (λ b. Some (Ends (Made n lead.0 b))) one.1 ∙ ap Some (sym lead.3)))

-- ---- a copy

module _ (f : Laid) (sound : IsSound f.model) (laid : IsLaid f) (n : ℕ) (place : Place) (j : ℕ) (r s : List ℕ) (at : slice_get (instances f.model) n ≡ Some (Copy place j r s)) (taken : List Read)
    (zip : AllZip (IsReadOf f) (read_elements f.model (Copy place j r s)) taken) where
  abbrev copy : Instance
  copy = Copy place j r s

  abbrev copied : IsReal f.model (Copy place j r s)
  copied = sound_is_real f.model sound n copy at

  first_only : (w e : Element) (k : ℕ) → slice_get (w ∷ []) k ≡ Some e → k ≡ 0
  first_only w e zero h = refl
  first_only w e (suc k) h = cc

  number_is : (k : ℕ) (e : Element) → slice_get (written_elements f.model copy) k ≡ Some e → k ≡ 0
  number_is k e h = first_only copied.0 e k (ap (λ es. slice_get es k) (sym copied.3) ∙ h)

  source_there : slice_get (read_elements f.model copy) 0 ≡ Some copied.1
  source_there = ap (λ es. slice_get es 0) copied.4

  only_source : (q : Element) → IsAmong (read_elements f.model copy) q → q ≡ copied.1
  only_source q a = let P : List Element → Type 0 = λ es. IsAmong es q in only_member copied.1 q (subst P copied.4 a)

  pub copy_fits : (k : ℕ) (e : Element) (v : Lead) → slice_get (written_elements f.model copy) k ≡ Some e → slice_get (map lead_of taken) k ≡ Some v → IsLeadOf f n copy e v
  copy_fits k e v h g =
      let t = get_map lead_of taken k v g in
      let z = zip_get (IsReadOf f) (read_elements f.model copy) taken zip k t.0 t.1 in
      (z.0, t.0, get_among (read_elements f.model copy) k z.0 z.1, z.2, t.2)

  pub copy_whole : (k : ℕ) (e : Element) (v : Lead) → slice_get (written_elements f.model copy) k ≡ Some e → IsLeadOf f n copy e v → slice_get (map lead_of taken) k ≡ Some v
  copy_whole k e v h lead =
      let z = get_zip (IsReadOf f) (read_elements f.model copy) taken zip 0 copied.1 source_there in
      let P : Element → Type 0 = λ x. IsReadOf f x lead.1 in
      let one : z.0 ≡ lead.1 = read_once f sound laid copied.1 z.0 lead.1 z.2 (subst P (only_source lead.0 lead.2) lead.3) in
      ap (slice_get (map lead_of taken)) (number_is k e h) ∙ (map_get lead_of taken 0 z.0 z.1 ∙ (ap (λ x. Some (lead_of x)) one ∙ ap Some (sym lead.4)))

  pub copy_reads : (q : Element) → IsAmong (read_elements f.model copy) q → (read : Read) × IsReadOf f q read
  copy_reads q a =
      let z = get_zip (IsReadOf f) (read_elements f.model copy) taken zip 0 copied.1 source_there in
      let P : Element → Type 0 = λ x. IsReadOf f x z.0 in
      (z.0, subst P (sym (only_source q a)) z.2)

-- ---- one instance more, by what it is

pub aligned_length : (who : _) (rs : List Reading) (ps : List (ℕ × ℕ)) (es : List Element) → Aligned who rs ps es → length ps ≡ length es
aligned_length who [] [] [] a = refl
aligned_length who [] (q ∷ ps) es a = absurd a
aligned_length who [] [] (x ∷ es) a = absurd a
aligned_length who (r ∷ rs) [] es a = absurd a
aligned_length who (r ∷ rs) (q ∷ ps) [] a = absurd a
aligned_length who (r ∷ rs) (q ∷ ps) (x ∷ es) a = ap suc (aligned_length who rs ps es a.1)

pub spot_count : (place : Place) (ports : List Port) → length (places_of_sizes 0 (port_sizes ports)) ≡ length (elements_of place ports)
spot_count place ports =
    aligned_length Main (filter_map (reading_at Main (port_element place ports)) (places_of_sizes 0 (port_sizes ports))) (places_of_sizes 0 (port_sizes ports)) (elements_of place ports) (ports_aligned Main place ports)

module _ (f : Laid) (sound : IsSound f.model) (laid : IsLaid f) (single : IsSingleAssignment f.model) (n : ℕ) (i : Instance) (at : slice_get (instances f.model) n ≡ Some i)
    (cs : List ℕ) (zip : AllZip (IsCellOf f) (written_elements f.model i) cs) where
  -- the cells that are written are cells
  pub filled_within : (list : List Lead) → length list ≡ length f.cells → AllByRecursion (λ (c : ℕ). c < length list) cs
  filled_within list many = each_among (λ (c : ℕ). c < length list) cs within
    where
      within : (c : ℕ) → IsAmong cs c → c < length list
      within c a =
          let z = zip_get (IsCellOf f) (written_elements f.model i) cs zip a.0 c (among_get cs a.0 c a.1.0 a.1.1) in
          let k = slice_get_within f.cells c z.2.home z.2.at_cell in
          omega (arith, k, many)

  module _ (spots : List (ℕ × ℕ)) (has : HasSpots f.model n spots) where
    pub spots_as_cells : length cs ≡ length spots
    spots_as_cells =
        let h = has i at in
        let run : slice_get (instances f.model) n ≡ Some (Run h.0) = at ∙ ap Some h.1 in
        let P : Instance → Type 0 = λ x. spots ≡ places_of_sizes 0 (written_sizes f.model x) in
        let are = spots_are f sound n h.0 run spots (subst P h.1 h.2) in
        sym (zip_length (IsCellOf f) (written_elements f.model i) cs zip)
        ∙ (ap (λ x. length (written_elements f.model x)) h.1
        ∙ (ap length (written_are f sound n h.0 run)
        ∙ (sym (spot_count h.0 (outs f sound n h.0 run)) ∙ ap length (sym are))))

    pub run_led : (list : List Lead) → HasLeads f n list → HasLeads f (n + 1) (put_leads list cs (map (made_by n) spots))
    run_led list leads =
        let h = has i at in
        let run : slice_get (instances f.model) n ≡ Some (Run h.0) = at ∙ ap Some h.1 in
        let P : Instance → Type 0 = λ x. spots ≡ places_of_sizes 0 (written_sizes f.model x) in
        let Q : Instance → Type 0 = λ x. AllZip (IsCellOf f) (written_elements f.model x) cs in
        one_led f sound laid single n (Run h.0) run cs (subst Q h.1 zip) (map (made_by n) spots) (run_fits f sound n h.0 run spots (subst P h.1 h.2)) (run_whole f sound n h.0 run spots (subst P h.1 h.2))
        (λ place k r s e q a. absurd (no_copy h.0 place k r s e)) list leads
      where
        no_copy : (place up : Place) (k : ℕ) (r s : List ℕ) → Run place ≡ Copy up k r s → ⊥
        no_copy place up k r s e = cc

  module _ (copying : IsCopying f.model n) (taken : List Read) (taken_zip : AllZip (IsReadOf f) (read_elements f.model i) taken) where
    pub reads_as_cells : length cs ≡ length taken
    reads_as_cells =
        let h = copying i at in
        let copy : slice_get (instances f.model) n ≡ Some (Copy h.0 h.1 h.2 h.3) = at ∙ ap Some h.4 in
        let real = sound_is_real f.model sound n (Copy h.0 h.1 h.2 h.3) copy in
        let one : length (written_elements f.model i) ≡ 1 = ap (λ x. length (written_elements f.model x)) h.4 ∙ ap length real.3 in
        let other : length (read_elements f.model i) ≡ 1 = ap (λ x. length (read_elements f.model x)) h.4 ∙ ap length real.4 in
        sym (zip_length (IsCellOf f) (written_elements f.model i) cs zip) ∙ (one ∙ (sym other ∙ zip_length (IsReadOf f) (read_elements f.model i) taken taken_zip))

    pub copy_led : (list : List Lead) → HasLeads f n list → HasLeads f (n + 1) (put_leads list cs (map lead_of taken))
    copy_led list leads =
        let h = copying i at in
        let copy : slice_get (instances f.model) n ≡ Some (Copy h.0 h.1 h.2 h.3) = at ∙ ap Some h.4 in
        let Q : Instance → Type 0 = λ x. AllZip (IsCellOf f) (written_elements f.model x) cs in
        let R : Instance → Type 0 = λ x. AllZip (IsReadOf f) (read_elements f.model x) taken in
        let z = subst R h.4 taken_zip in
        one_led f sound laid single n (Copy h.0 h.1 h.2 h.3) copy cs (subst Q h.4 zip) (map lead_of taken) (copy_fits f sound laid n h.0 h.1 h.2 h.3 copy taken z) (copy_whole f sound laid n h.0 h.1 h.2 h.3 copy taken z)
        (λ place k r s e q a. copy_reads f sound laid n h.0 h.1 h.2 h.3 copy taken z q a) list leads
