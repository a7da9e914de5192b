-- In the net of an accepted model cells have one writer each, and its levels are levels of the net.
use Rattle.std.proofs.Common.{◌≡◌, ◌≢◌, ℕ, zero, suc, ◌+◌, ◌<◌, ◌≤◌, eqb, true, false, List, [], ◌∷◌, length, map, flat_map, Option, Some, None, slice_get, unwrap_or, sym, ◌∙◌, ap, refl, arith, ◌⊎◌, inl, inr}
use Rattle.std.specs.Prelude.{fold, max}
use Rattle.std.specs.List.{IsAmong, enumerate_from}
use Rattle.std.proofs.lemmas.Bool.Decides.{eqb_tells}
use Rattle.std.proofs.lemmas.List.{length-map, length-append}
use Rattle.std.proofs.lemmas.Option.{slice_get_within, get_or_from_slice_get}
use Rattle.std.proofs.Math.Nat.{le-max_left, le-max_right}
use Rattle.aol_shape.specs.Shape.{points}
use Rattle.aol_expr_tree.specs.declared.port.Port.{Port}
use Rattle.aol_expr_tree.specs.declared.value.Val.{Val}
use Rattle.aol_model_types.specs.declared.document.Model.{Model}
use Rattle.aol_model_types.specs.declared.task.OutPort.{OutPort}
use Rattle.aol_model_types.specs.declared.task.Task.{Task}
use Rattle.aol_model_types.specs.declared.task.Task.TheVariants as tasks
use Rattle.aol_model_types.specs.Rules.{outputs_of}
use Rattle.aol_flat.specs.Tasks.{elementary_number}
use Rattle.aol_flat.specs.Place.{Place, Element, port_elements, elements_of, task_at}
use Rattle.aol_flat.specs.InstanceValue.{instance_value, instance_outputs}
use Rattle.aol_flat.specs.Home.{Kept}
use Rattle.aol_flat.specs.Instance.{Instance, Run, Copy, instances, of_task, read_elements, written_elements}
use Rattle.aol_flat.specs.InstanceNeed.{InstanceNeeds, AreLevelsOf, IsReal, level_count}
use Rattle.aol_flat.specs.Laid.{Laid, IsLaid, IsCellOf, IsReadOf}
use Rattle.aol_flat.specs.Level.{WritesCell}
use Rattle.aol_flat.specs.Net.{Net, IsNetOf, reads_at, writes_at, IsWritten, instance_gives, task_gives}
use Rattle.aol_flat.specs.Accept.{IsSound, IsAccepted}
use Rattle.aol_flat.specs.declared.view.Read.{Read}
use Rattle.aol_flat.specs.declared.view.Read.TheVariants.{Cell}
use Rattle.aol_flat.proofs.Among.{get_among, among_map}
use Rattle.aol_flat.proofs.LinkSides.{task_there}
use Rattle.aol_flat.proofs.Real.{sound_is_real}
use Rattle.aol_flat_laws.proofs.Apart.{AllDiffer, apart_map, apart_flat_map, points_differ, once_of_apart}
use Rattle.aol_flat_laws.proofs.OneWriter.{among_written, one_home, read_there, written_there}
use Rattle.aol_flat_laws.proofs.Ports.{DifferentNames, outputs_differ}
use Rattle.aol_assign.proofs.CellWriters.{one_writer}
use Rattle.aol_runner.specs.Schedule.{AreLevelled, HasWriters}
use Rattle.aol_runner.specs.Nets.{NetsHaveWriters, NetsAreLevelled}
use Rattle.aol_runner.proofs.Aligned.{some_injective, get_there}
use Rattle.aol_runner.proofs.HomeCells.{ends_here}
use Rattle.aol_runner.proofs.Nets.{zip_many}
use Rattle.aol_runner.proofs.Unwritten.{zip_back}

-- ---- who writes a cell

-- a place of the list has the number, or none has
abbrev Found : List ℕ → ℕ → Type 0
Found cs c = ((k : ℕ) × (slice_get cs k ≡ Some c)) ⊎ ((k : ℕ) → slice_get cs k ≡ Some c → ⊥)

in_list : (cs : List ℕ) (c : ℕ) → Found cs c
in_list [] c = inr (λ k h. cc)
in_list (d ∷ cs) c = go (eqb_tells d c) (in_list cs c)
  where
    go : ((eqb d c ≡ true) × (d ≡ c)) ⊎ ((eqb d c ≡ false) × (d ≢ c)) → Found cs c → Found (d ∷ cs) c
    go (inl e) rest = inl (0, ap (λ x. Some x) e.1)
    go (inr ne) (inl k) = inl (suc k.0, k.1)
    go (inr ne) (inr none) = inr no
      where
        no : (k : ℕ) → slice_get (d ∷ cs) k ≡ Some c → ⊥
        no zero h = ne.1 (some_injective d c h)
        no (suc k) h = none k h

-- the same of some lists
abbrev FoundIn : List (List ℕ) → ℕ → Type 0
FoundIn css c =
    ((j : ℕ) × (k : ℕ) × (slice_get (unwrap_or (slice_get css j) []) k ≡ Some c)) ⊎ ((j k : ℕ) → slice_get (unwrap_or (slice_get css j) []) k ≡ Some c → ⊥)

in_lists : (css : List (List ℕ)) (c : ℕ) → FoundIn css c
in_lists [] c = inr (λ j k h. cc)
in_lists (cs ∷ css) c = go (in_list cs c) (in_lists css c)
  where
    go : Found cs c → FoundIn css c → FoundIn (cs ∷ css) c
    go (inl k) rest = inl (0, k.0, k.1)
    go (inr none) (inl w) = inl (suc w.0, w.1, w.2)
    go (inr none) (inr others) = inr no
      where
        no : (j k : ℕ) → slice_get (unwrap_or (slice_get (cs ∷ css) j) []) k ≡ Some c → ⊥
        no zero k h = none k h
        no (suc j) k h = others j k h

told : (css : List (List ℕ)) (c : ℕ) → FoundIn css c → Option (ℕ × ℕ)
told css c (inl w) = Some (w.0, w.1)
told css c (inr none) = None

told_there : (css : List (List ℕ)) (c : ℕ) (d : FoundIn css c) (j k : ℕ) → told css c d ≡ Some (j, k) → slice_get (unwrap_or (slice_get css j) []) k ≡ Some c
unfolding told
told_there css c (inl w) j k h =
    let e : (w.0, w.1) ≡ (j, k) = some_injective (w.0, w.1) (j, k) h in
    let one : w.0 ≡ j = ap (λ (p : ℕ × ℕ). p.0) e in
    let other : w.1 ≡ k = ap (λ (p : ℕ × ℕ). p.1) e in
    sym (ap (λ i. slice_get (unwrap_or (slice_get css i) []) k) one) ∙ (sym (ap (λ n. slice_get (unwrap_or (slice_get css w.0) []) n) other) ∙ w.2)
told_there css c (inr none) j k h = cc

there_told : (css : List (List ℕ)) (c : ℕ) (d : FoundIn css c)
    → ((i j k n : ℕ) → slice_get (unwrap_or (slice_get css i) []) k ≡ Some c → slice_get (unwrap_or (slice_get css j) []) n ≡ Some c → (i ≡ j) × (k ≡ n))
    → (j k : ℕ) → slice_get (unwrap_or (slice_get css j) []) k ≡ Some c → told css c d ≡ Some (j, k)
unfolding told
there_told css c (inl w) once j k h =
    let e = once w.0 j w.1 k w.2 h in
    ap (λ i. Some (i, w.1)) e.0 ∙ ap (λ n. Some (j, n)) e.1
there_told css c (inr none) once j k h = absurd (none j k h)

-- ---- the elements that an instance writes are different

port_differs : (place : Place) (p : Port) → AllDiffer (port_elements place p)
port_differs place p =
    apart_map (λ (x y : List ℕ). x ≢ y) (λ (x y : Element). x ≢ y) (λ (x : List ℕ). record { place = place; port = p.name; index = x }) (points p.shape) (points_differ p.shape)
    (λ x y a b apart same. apart (ap (λ (e : Element). e.index) same))

named_so : (place : Place) (p : Port) (e : Element) → IsAmong (port_elements place p) e → e.port ≡ p.name
named_so place p e a = ap (λ (x : Element). x.port) (among_map (λ (x : List ℕ). record { place = place; port = p.name; index = x }) (points p.shape) e a).2

outputs_apart : (m : Model) (sound : IsSound m) (place : Place) (t : Task) → task_at m place ≡ Some t → AllDiffer (elements_of place (outputs_of t))
outputs_apart m sound place t at =
    let r = task_there m sound.shapes place t at in
    apart_flat_map DifferentNames (λ (x y : Element). x ≢ y) (port_elements place) (outputs_of t) (outputs_differ r.before r.place t r.holds) (λ p a. port_differs place p)
    (λ p q a b apart x y i j same. apart (sym (named_so place p x i) ∙ (ap (λ (e : Element). e.port) same ∙ named_so place q y j)))

only_place : (x e : Element) (k : ℕ) → slice_get (x ∷ []) k ≡ Some e → k ≡ 0
only_place x e zero h = refl
only_place x e (suc k) h = cc

written_once : (m : Model) (sound : IsSound m) (i : Instance) → IsReal m i → (k n : ℕ) (e : Element) → slice_get (written_elements m i) k ≡ Some e → slice_get (written_elements m i) n ≡ Some e → k ≡ n
written_once m sound (Run place) real k n e a b =
    let t = tasks.Elementary real.0 in
    let outs : written_elements m (Run place) ≡ elements_of place (outputs_of t) = ap (of_task (λ u. elements_of place (outputs_of u))) real.1 in
    once_of_apart (elements_of place (outputs_of t)) (outputs_apart m sound place t real.1) k n e (sym (ap (λ es. slice_get es k) outs) ∙ a) (sym (ap (λ es. slice_get es n) outs) ∙ b)
written_once m sound (Copy up r repetition part) real k n e a b =
    let first : k ≡ 0 = only_place real.0 e k (sym (ap (λ es. slice_get es k) real.3) ∙ a) in
    let second : n ≡ 0 = only_place real.0 e n (sym (ap (λ es. slice_get es n) real.3) ∙ b) in
    first ∙ sym second

-- ---- an instance gives as many values as it writes

outputs_many : (place : Place) (value : ℕ → OutPort → List ℕ → Val) (os : List OutPort) (n : ℕ)
    → length (flat_map (λ (o : ℕ × OutPort). map (value o.0 o.1) (points o.1.port.shape)) (enumerate_from n os)) ≡ length (elements_of place (map (λ (o : OutPort). o.port) os))
outputs_many place value [] n = refl
outputs_many place value (o ∷ os) n =
    let rest = outputs_many place value os (n + 1) in
    let later : List Val = flat_map (λ (q : ℕ × OutPort). map (value q.0 q.1) (points q.1.port.shape)) (enumerate_from (n + 1) os) in
    let all = length-append (map (value n o) (points o.port.shape)) later in
    let here = length-map (points o.port.shape) (value n o) in
    let all' = length-append (port_elements place o.port) (elements_of place (map (λ (q : OutPort). q.port) os)) in
    let element : List ℕ → Element = λ x. record { place = place; port = o.port.name; index = x } in
    let here' = length-map (points o.port.shape) element in
    omega (arith, rest, all, here, all', here')

gives_many : (m : Model) (i : Instance) → IsReal m i → (taken : List Val) → length taken ≡ length (read_elements m i) → length (instance_gives m i taken) ≡ length (written_elements m i)
gives_many m (Run place) real taken h =
    let t = tasks.Elementary real.0 in
    let outs : written_elements m (Run place) ≡ elements_of place (outputs_of t) = ap (of_task (λ u. elements_of place (outputs_of u))) real.1 in
    let gave : instance_gives m (Run place) taken ≡ instance_outputs (elementary_number m real.0.name) real.0 taken = ap (task_gives m taken) real.1 in
    let many = outputs_many place (instance_value (elementary_number m real.0.name) real.0 taken) real.0.outs 0 in
    ap length gave ∙ (many ∙ sym (ap length outs))
gives_many m (Copy up r repetition part) real taken h = h ∙ (ap length real.4 ∙ sym (ap length real.3))

pub get_within : {X : Type 0} (xs : List X) (k : ℕ) → k < length xs → (x : X) × (slice_get xs k ≡ Some x)
get_within [] k h = absurd (omega (arith, h))
get_within (x ∷ xs) zero h = (x, refl)
get_within (x ∷ xs) (suc k) h = get_within xs k (omega (arith, h))

-- ---- levels

below_fold : (xs : List ℕ) (a : ℕ) → a ≤ fold max a xs
below_fold [] a = omega arith
below_fold (x ∷ xs) a = let rest = below_fold xs (max a x) in let here = le-max_left a x in omega (arith, rest, here)

pub each_below : (xs : List ℕ) (a j l : ℕ) → slice_get xs j ≡ Some l → l ≤ fold max a xs
each_below [] a j l h = cc
each_below (x ∷ xs) a zero l h =
    let e : x ≡ l = some_injective x l h in
    let rest = below_fold xs (max a x) in
    let here = le-max_right a x in
    omega (arith, rest, here, e)
each_below (x ∷ xs) a (suc j) l h = each_below xs (max a x) j l h

-- ---- the net

module _ (f : Laid) (net : Net) (sound : IsSound f.model) (accepted : IsAccepted f.model) (laid : IsLaid f) (is_net : IsNetOf f net) where
  -- an instance of the net writes an element at this place, which the cell stands for
  pub record IsPut (j k c : ℕ) : Type 0 where
    pub instance : Instance
    pub at : slice_get (instances f.model) j ≡ Some instance
    pub element : Element
    pub there : slice_get (written_elements f.model instance) k ≡ Some element
    pub cell : IsCellOf f element c
    pub many : length (writes_at net j) ≡ length (written_elements f.model instance)

  pub is_put : (j k c : ℕ) → slice_get (writes_at net j) k ≡ Some c → IsPut j k c
  is_put j k c h = go (slice_get net.writes j) refl
    where
      go : (o : Option (List ℕ)) → slice_get net.writes j ≡ o → IsPut j k c
      go None e = let no : slice_get [] k ≡ Some c = sym (ap (λ o. slice_get (unwrap_or o []) k) e) ∙ h in cc
      go (Some cs) e =
          let at : slice_get cs k ≡ Some c = sym (ap (λ o. slice_get (unwrap_or o []) k) e) ∙ h in
          let i = get_there net.writes (instances f.model) j cs (sym is_net.many_writes) e in
          let zip = is_net.writes j i.0 cs i.1 e in
          let x = zip_back (IsCellOf f) (written_elements f.model i.0) cs k c zip at in
          record {
            instance = i.0;
            at = i.1;
            element = x.0;
            there = x.1;
            cell = x.2;
            many = ap (λ o. length (unwrap_or o [])) e ∙ zip_many (IsCellOf f) (written_elements f.model i.0) cs zip;
          }

  -- an instance of the net reads an element at this place, for which the read stands
  pub record IsTaken (j k : ℕ) (r : Read) : Type 0 where
    pub instance : Instance
    pub at : slice_get (instances f.model) j ≡ Some instance
    pub element : Element
    pub among : IsAmong (read_elements f.model instance) element
    pub stands : IsReadOf f element r

  pub is_taken : (j k : ℕ) (r : Read) → slice_get (reads_at net j) k ≡ Some r → IsTaken j k r
  is_taken j k r h = go (slice_get net.reads j) refl
    where
      go : (o : Option (List Read)) → slice_get net.reads j ≡ o → IsTaken j k r
      go None e = let no : slice_get [] k ≡ Some r = sym (ap (λ o. slice_get (unwrap_or o []) k) e) ∙ h in cc
      go (Some rs) e =
          let at : slice_get rs k ≡ Some r = sym (ap (λ o. slice_get (unwrap_or o []) k) e) ∙ h in
          let i = get_there net.reads (instances f.model) j rs (sym is_net.many_reads) e in
          let x = zip_back (IsReadOf f) (read_elements f.model i.0) rs k r (is_net.reads j i.0 rs i.1 e) at in
          record { instance = i.0; at = i.1; element = x.0; among = get_among (read_elements f.model i.0) k x.0 x.1; stands = x.2 }

  real_at : (j : ℕ) (i : Instance) → slice_get (instances f.model) j ≡ Some i → IsReal f.model i
  real_at j i at = sound_is_real f.model sound j i at

  put_writes : (j k c : ℕ) → IsPut j k c → WritesCell f j c
  put_writes j k c w =
      let r = among_written f.model w.instance w.element (real_at j w.instance w.at) (get_among (written_elements f.model w.instance) k w.element w.there) in
      record { instance = w.instance; at = w.at; port = r.0; rank = r.1; element = w.element; written = r.2; in_cell = w.cell }

  -- a written element that another reads or writes
  same_put : (i j k n c : ℕ) → IsPut i k c → IsPut j n c → (i ≡ j) × (k ≡ n)
  same_put i j k n c v w = (one, places)
    where
      one : i ≡ j
      one = one_writer f sound accepted.single i j c (put_writes i k c v) (put_writes j n c w)

      places : k ≡ n
      places =
          let a = get_among (written_elements f.model v.instance) k v.element v.there in
          let b = get_among (written_elements f.model w.instance) n w.element w.there in
          let there = written_there f.model sound accepted.single v.instance (real_at i v.instance v.at) v.element a in
          let there' = written_there f.model sound accepted.single w.instance (real_at j w.instance w.at) w.element b in
          let homes : Some v.cell.home ≡ Some w.cell.home = sym v.cell.at_cell ∙ w.cell.at_cell in
          let home : w.cell.home ≡ v.cell.home = some_injective w.cell.home v.cell.home (sym homes) in
          let reach = one_home f.model sound accepted.single v.element w.element v.cell.home there.0 there'.0 there'.1 v.cell.is_home (w.cell.is_home ∙ ap (λ h. Kept h) home) in
          let same_element : w.element ≡ v.element = ends_here f.model v.element w.element there.1 reach in
          let same_instance : v.instance ≡ w.instance = some_injective v.instance w.instance (sym v.at ∙ (ap (slice_get (instances f.model)) one ∙ w.at)) in
          let at : slice_get (written_elements f.model v.instance) n ≡ Some v.element =
          ap (λ x. slice_get (written_elements f.model x) n) same_instance ∙ (w.there ∙ ap (λ x. Some x) same_element) in
          written_once f.model sound v.instance (real_at i v.instance v.at) k n v.element v.there at

  writer : ℕ → Option (ℕ × ℕ)
  writer c = told net.writes c (in_lists net.writes c)

  writes_one : (i j k n c : ℕ) → slice_get (writes_at net i) k ≡ Some c → slice_get (writes_at net j) n ≡ Some c → (i ≡ j) × (k ≡ n)
  writes_one i j k n c a b = same_put i j k n c (is_put i k c a) (is_put j n c b)

  gives_there : (c j k : ℕ) (xs : List Val) → length xs ≡ length (reads_at net j) → slice_get (writes_at net j) k ≡ Some c → (x : Val) × (slice_get (net.gives j xs) k ≡ Some x)
  gives_there c j k xs many h =
      let w = is_put j k c h in
      let rs = get_there (instances f.model) net.reads j w.instance is_net.many_reads w.at in
      let reads : length (reads_at net j) ≡ length (read_elements f.model w.instance) =
      ap (λ o. length (unwrap_or o [])) rs.1 ∙ zip_many (IsReadOf f) (read_elements f.model w.instance) rs.0 (is_net.reads j w.instance rs.0 w.at rs.1) in
      let all = gives_many f.model w.instance (real_at j w.instance w.at) xs (many ∙ reads) in
      let gave : length (net.gives j xs) ≡ length (instance_gives f.model w.instance xs) = ap length (is_net.gives j w.instance xs w.at) in
      let under = slice_get_within (written_elements f.model w.instance) k w.element w.there in
      get_within (net.gives j xs) k (omega (arith, all, gave, under))

  has_writers : HasWriters net writer
  unfolding writer
  has_writers = record {
    writes = λ c j k h. told_there net.writes c (in_lists net.writes c) j k h;
    one = λ c j k h. there_told net.writes c (in_lists net.writes c) (λ i j k n a b. writes_one i j k n c a b) j k h;
    gives = gives_there;
  }

  -- a read of a cell that an instance writes is a need
  need_of : (j k c i n : ℕ) → slice_get (reads_at net j) k ≡ Some (Cell c) → slice_get (writes_at net i) n ≡ Some c → InstanceNeeds f.model j i
  need_of j k c i n r h =
      let p = is_taken j k (Cell c) r in
      let w = is_put i n c h in
      let b = get_among (written_elements f.model w.instance) n w.element w.there in
      let there = written_there f.model sound accepted.single w.instance (real_at i w.instance w.at) w.element b in
      let homes : Some p.stands.home ≡ Some w.cell.home = sym p.stands.at_cell ∙ w.cell.at_cell in
      let home : w.cell.home ≡ p.stands.home = some_injective w.cell.home p.stands.home (sym homes) in
      record {
        reader = p.instance;
        writer = w.instance;
        at_reader = p.at;
        at_writer = w.at;
        read = p.element;
        written = w.element;
        among_reads = p.among;
        among_writes = b;
        joined = one_home f.model sound accepted.single p.element w.element p.stands.home (read_there f.model sound p.instance (real_at j p.instance p.at) p.element p.among) there.0 there.1
            p.stands.is_home (w.cell.is_home ∙ ap (λ h. Kept h) home);
      }

  levelled : (levels : List ℕ) → AreLevelsOf f.model levels → AreLevelled net levels (level_count levels)
  levelled levels are = record {
    above = λ j k c i n l m r h a b.
        let less = are.above j i (need_of j k c i n r h) in
        let at = get_or_from_slice_get levels j l 0 a in
        let at' = get_or_from_slice_get levels i m 0 b in
        omega (arith, less, at, at');
    level = λ j k c h.
        let w = is_put j k c h in
        let under = slice_get_within (instances f.model) j w.instance w.at in
        let l = get_within levels j (omega (arith, under, are.many)) in
        let below = each_below levels 0 j l.0 l.1 in
        (l.0, l.1, omega (arith, below));
    known = λ c. known_in c (in_lists net.writes c);
  }
    where
      known_in : (c : ℕ) → FoundIn net.writes c → IsWritten net c ⊎ (IsWritten net c → ⊥)
      known_in c (inl w) = inl (record { writer = w.0; place = w.1; at = w.2 })
      known_in c (inr none) = inr (λ w. none w.writer w.place w.at)

pub nets_have_writers : NetsHaveWriters
nets_have_writers f net sound accepted laid is_net = (writer f net sound accepted laid is_net, has_writers f net sound accepted laid is_net)

pub nets_are_levelled : NetsAreLevelled
nets_are_levelled f net levels sound accepted laid is_net are = levelled f net sound accepted laid is_net levels are
