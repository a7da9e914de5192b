-- A settled memory holds the value of each given element.
use Rattle.std.proofs.Common.{◌≡◌, ℕ, ◌+◌, ℤ, List, [], ◌∷◌, map, Some, slice_get, unwrap_or, sym, ◌∙◌, ap, refl, arith, subst}
use Rattle.std.specs.List.{IsAmong, AllZip}
use Rattle.aol_expr_tree.specs.declared.value.Val.{Val}
use Rattle.aol_expr_tree.specs.declared.value.Val.TheVariants.{Num}
use Rattle.aol_model_types.specs.declared.job.InputArray.{InputArray}
use Rattle.aol_model_types.specs.declared.task.OutPort.{OutPort}
use Rattle.aol_model_types.specs.Rules.{outputs_of}
use Rattle.aol_flat.specs.Tasks.{elementary_number}
use Rattle.aol_flat.specs.Place.{Element, IsElement, elements_of, task_at}
use Rattle.aol_flat.specs.InstanceValue.{instance_value, instance_outputs}
use Rattle.aol_flat.specs.Equation.{Valuation, MainInput, ElementaryOutput, CopiedElement, DefaultNumber, IsSolution}
use Rattle.aol_flat.specs.Need.{Follows, by_following, by_copying, by_computing, IsGrounded, grounded}
use Rattle.aol_flat.specs.Home.{Home, Kept, Constant, home_of, origin, origin_home}
use Rattle.aol_flat.specs.Instance.{Instance, Run, Copy, instances, of_task, read_elements, written_elements}
use Rattle.aol_flat.specs.Laid.{Laid, AreHomes, IsCellOf, IsReadOf}
use Rattle.aol_flat.specs.Reads.{IsGiven, by_main_input, by_default, by_computing as given_by_computing, by_copying as given_by_copying, by_following as given_by_following, by_run, by_copy}
use Rattle.aol_flat.specs.Wired.{IsInput}
use Rattle.aol_flat.specs.Accept.{IsSound, IsAccepted}
use Rattle.aol_flat.specs.Net.{Net, IsNetOf, Memory, read_value, reads_at, writes_at, opening, instance_gives, task_gives}
use Rattle.aol_flat.specs.declared.view.Read.{Read}
use Rattle.aol_flat.specs.declared.view.Read.TheVariants.{Cell, Const}
use Rattle.aol_flat.proofs.Acyclic.{acyclic_is_grounded}
use Rattle.aol_flat.proofs.Agree.{followed_value, IsAmong-tail}
use Rattle.aol_flat.proofs.Elements.{all_elements, all_closed, element_listed}
use Rattle.aol_flat.proofs.Given.{given_number}
use Rattle.aol_flat.proofs.Homes.{followed_homes, default_number_home}
use Rattle.aol_flat.proofs.Kept.{reads_of_run}
use Rattle.aol_flat.proofs.Numbered.{number_of_instance, run_listed, copy_numbered}
use Rattle.aol_flat.proofs.Real.{sound_is_real}
use Rattle.aol_flat.proofs.SourceSteps.{wired, main_input_side}
use Rattle.aol_runner.specs.Schedule.{SettledOver}
use Rattle.aol_runner.specs.Held.{AreOpened}
use Rattle.aol_runner.proofs.Aligned.{some_injective, get_there, zip_at, among_one, output_at}

pub kept_injective : (a b : Element) → ◌≡◌ {A = Home} (Kept a) (Kept b) → a ≡ b
kept_injective a b h = cc

pub constant_injective : (a b : ℤ) → ◌≡◌ {A = Home} (Constant a) (Constant b) → a ≡ b
constant_injective a b h = cc

-- a home isn't both stored and a number
pub two_homes : (h : Home) (e : Element) (n : ℤ) → h ≡ Kept e → h ≡ Constant n → ⊥
two_homes h e n a b = let c : Kept e ≡ Constant n = sym a ∙ b in cc

pub input_home : (f : Laid) (e : Element) → IsInput f.model e → home_of f.model e ≡ origin_home f.model (origin f.model e.place e.port e.index)
input_home f e h = rw h

module _ (f : Laid) (net : Net) (inputs : List InputArray) (mem : Memory) (v : Valuation) (sound : IsSound f.model) (accepted : IsAccepted f.model) (homes : AreHomes f) (is_net : IsNetOf f net)
    (opened : AreOpened f net inputs) (over : SettledOver net (opening inputs) mem) (s : IsSolution f.model inputs v) where
  -- what stands for the element holds its value
  record IsHeld (e : Element) : Type 0 where
    cell : (c : ℕ) → IsCellOf f e c → v e ≡ mem c
    constant : (n : ℤ) → home_of f.model e ≡ Constant n → v e ≡ Num n

  held_read : (e : Element) (r : Read) → IsHeld e → IsReadOf f e r → v e ≡ read_value mem r
  held_read e (Cell c) h r = h.cell c r
  held_read e (Const n) h r = h.constant n r

  -- so what an instance reads from the memory is what its elements have
  held_reads : (es : List Element) (rs : List Read) → ((q : Element) → IsAmong es q → IsHeld q) → AllZip (IsReadOf f) es rs → map (read_value mem) rs ≡ map v es
  held_reads [] [] h z = refl
  held_reads [] (r ∷ rs) h z = absurd z
  held_reads (e ∷ es) [] h z = absurd z
  held_reads (e ∷ es) (r ∷ rs) h z =
      let first : v e ≡ read_value mem r = held_read e r (h e (0, (omega arith, refl))) z.0 in
      let rest : map (read_value mem) rs ≡ map v es = held_reads es rs (λ q a. h q (IsAmong-tail e es q a)) z.1 in
      cc

  -- an element has one cell
  one_cell : (e : Element) (c d : ℕ) → IsCellOf f e c → IsCellOf f e d → c ≡ d
  one_cell e c d a b =
      let same_home : a.home ≡ b.home = kept_injective a.home b.home (sym a.is_home ∙ b.is_home) in
      homes.once c d a.home a.at_cell (b.at_cell ∙ ap Some (sym same_home))

  -- the cell of an element that a listed instance writes at this place
  written_cell : (p : Element) (j k : ℕ) (i : Instance) → slice_get (instances f.model) j ≡ Some i → slice_get (written_elements f.model i) k ≡ Some p
      → (c : ℕ) × (slice_get (writes_at net j) k ≡ Some c) × IsCellOf f p c
  written_cell p j k i at written =
      let cs = get_there (instances f.model) net.writes j i is_net.many_writes at in
      let d = zip_at (IsCellOf f) (written_elements f.model i) cs.0 k p (is_net.writes j i cs.0 at cs.1) written in
      let writes : writes_at net j ≡ cs.0 = ap (λ o. unwrap_or o []) cs.1 in
      (d.0, ap (λ xs. slice_get xs k) writes ∙ d.1, d.2)

  -- it holds what the instance gives there for the values of its inputs
  given_there : (p : Element) (j k : ℕ) (i : Instance) → slice_get (instances f.model) j ≡ Some i → slice_get (written_elements f.model i) k ≡ Some p
      → ((q : Element) → IsAmong (read_elements f.model i) q → IsHeld q) → (c : ℕ) → IsCellOf f p c
      → slice_get (instance_gives f.model i (map v (read_elements f.model i))) k ≡ Some (mem c)
  given_there p j k i at written held c cell =
      let rs = get_there (instances f.model) net.reads j i is_net.many_reads at in
      let d = written_cell p j k i at written in
      let here : slice_get (writes_at net j) k ≡ Some c = d.1 ∙ ap Some (one_cell p d.0 c d.2 cell) in
      let reads : reads_at net j ≡ rs.0 = ap (λ o. unwrap_or o []) rs.1 in
      let taken : map (read_value mem) (reads_at net j) ≡ map v (read_elements f.model i) =
      ap (map (read_value mem)) reads ∙ held_reads (read_elements f.model i) rs.0 held (is_net.reads j i rs.0 at rs.1) in
      ap (λ xs. slice_get xs k) (sym (is_net.gives j i (map v (read_elements f.model i)) at))
      ∙ (ap (λ xs. slice_get (net.gives j xs) k) (sym taken) ∙ over.settled j k c here)

  -- ---- each kind of end

  main_held : (p : Element) → MainInput f.model p → IsHeld p
  main_held p a =
      let n = given_number f.model inputs p a opened.fit in
      let home : home_of f.model p ≡ Kept (record { place = []; port = p.port; index = p.index }) =
      input_home f p (main_input_side f.model sound p a) ∙ ap (λ place. origin_home f.model (origin f.model place p.port p.index)) a.is_main in
      record {
        cell = λ c k. s.main_input p a n.0 n.1 ∙ sym (over.others c (opened.unwritten p a c k) ∙ opened.holds p a c k n.0 n.1);
        constant = λ z e. absurd (two_homes (home_of f.model p) (record { place = []; port = p.port; index = p.index }) z home e);
      }

  number_held : (p : Element) (n : ℤ) → DefaultNumber f.model p n → IsHeld p
  number_held p n d =
      let home : home_of f.model p ≡ Constant n = default_number_home f.model (wired f.model sound) p n d in
      record {
        cell = λ c k. absurd (two_homes (home_of f.model p) k.home n k.is_home home);
        constant = λ z e. s.default_number p n d ∙ ap (λ y. Num y) (constant_injective n z (sym home ∙ e));
      }

  computed_held : (p : Element) (o : ElementaryOutput f.model p) → ((q : Element) → IsAmong (elements_of p.place o.task.ins) q → IsHeld q) → IsHeld p
  computed_held p o held =
      let number = number_of_instance f.model (Run p.place) (run_listed f.model sound.shapes p.place o.task o.at_place) in
      let outs : List Element = elements_of p.place (map (λ (x : OutPort). x.port) o.task.outs) in
      let taken : List Val = map v (elements_of p.place o.task.ins) in
      let task : ℕ = elementary_number f.model o.task.name in
      let k = output_at p.place (instance_value task o.task taken) o.task.outs 0 o.number o.out p.index o.listed o.inside in
      let is : record { place = p.place; port = o.out.port.name; index = p.index } ≡ p = ap (λ (n : List ℕ). record { place = p.place; port = n; index = p.index }) (sym o.named) in
      let written : slice_get (written_elements f.model (Run p.place)) k.0 ≡ Some p =
      ap (λ t. slice_get (of_task (λ u. elements_of p.place (outputs_of u)) t) k.0) o.at_place ∙ (k.1 ∙ ap Some is) in
      let reads : read_elements f.model (Run p.place) ≡ elements_of p.place o.task.ins = reads_of_run f.model p.place o.task o.at_place in
      let P : Element → List Element → Type 0 = λ q es. IsAmong es q in
      let gave : instance_gives f.model (Run p.place) (map v (read_elements f.model (Run p.place))) ≡ instance_outputs task o.task taken =
      ap (λ es. task_gives f.model (map v es) (task_at f.model p.place)) reads ∙ ap (task_gives f.model taken) o.at_place in
      let d = written_cell p number.0 k.0 (Run p.place) number.1 written in
      let same_number : 0 + o.number ≡ o.number = omega arith in
      record {
        cell = λ c cell.
            let there : slice_get (instance_gives f.model (Run p.place) (map v (read_elements f.model (Run p.place)))) k.0 ≡ Some (mem c) =
            given_there p number.0 k.0 (Run p.place) number.1 written (λ q a. held q (subst (P q) reads a)) c cell in
            let value : instance_value task o.task taken (0 + o.number) o.out p.index ≡ mem c =
            some_injective (instance_value task o.task taken (0 + o.number) o.out p.index) (mem c) (sym k.2 ∙ (ap (λ xs. slice_get xs k.0) (sym gave) ∙ there)) in
            s.elementary_output p o ∙ (ap (λ n. instance_value task o.task taken n o.out p.index) (sym same_number) ∙ value);
        constant = λ z e. absurd (two_homes (home_of f.model p) d.2.home z d.2.is_home e);
      }

  copied_held : (p q : Element) → CopiedElement f.model p q → IsHeld q → IsHeld p
  copied_held p q c held =
      let copy : Instance = Copy c.up c.listed.0 c.repetition c.part in
      let number = copy_numbered f.model sound.shapes p q c in
      let real = sound_is_real f.model sound number.0 copy number.1 in
      let P : Element → List Element → Type 0 = λ x es. IsAmong es x in
      let target : p ≡ real.0 = among_one real.0 p (subst (P p) real.3 number.2) in
      let source : q ≡ real.1 = among_one real.1 q (subst (P q) real.4 number.3) in
      let written : slice_get (written_elements f.model copy) 0 ≡ Some p = ap (λ es. slice_get es 0) real.3 ∙ ap Some (sym target) in
      let d = written_cell p number.0 0 copy number.1 written in
      let Q : Element → Type 0 = IsHeld in
      record {
        cell = λ a cell.
            let there : slice_get (map v (read_elements f.model copy)) 0 ≡ Some (mem a) =
            given_there p number.0 0 copy number.1 written (λ x b. subst Q (source ∙ sym (among_one real.1 x (subst (P x) real.4 b))) held) a cell in
            let read : slice_get (map v (read_elements f.model copy)) 0 ≡ Some (v q) = ap (λ es. slice_get (map v es) 0) real.4 ∙ ap (λ x. Some (v x)) (sym source) in
            s.copied p q c ∙ some_injective (v q) (mem a) (sym read ∙ there);
        constant = λ z e. absurd (two_homes (home_of f.model p) d.2.home z d.2.is_home e);
      }

  followed_held : (p q : Element) → Follows f.model p q → IsHeld q → IsHeld p
  followed_held p q h held =
      let home : home_of f.model p ≡ home_of f.model q = followed_homes f.model (wired f.model sound) p q h in
      let value : v p ≡ v q = followed_value f.model inputs v s p q h in
      record {
        cell = λ c k. value ∙ held.cell c (record { home = k.home; is_home = sym home ∙ k.is_home; at_cell = k.at_cell });
        constant = λ z e. value ∙ held.constant z (sym home ∙ e);
      }

  -- each given element is held
  all_held : (p : Element) → IsGrounded f.model p → IsGiven f.model p → IsHeld p
  all_held p (grounded g) (by_main_input a) = main_held p a
  all_held p (grounded g) (by_default n d) = number_held p n d
  all_held p (grounded g) (given_by_computing o) = computed_held p o (λ q a. all_held q (g q (by_computing o a)) (accepted.given q (by_run p.place o.task o.at_place a)))
  all_held p (grounded g) (given_by_copying {q = q} c) = copied_held p q c (all_held q (g q (by_copying c)) (accepted.given q (by_copy p c)))
  all_held p (grounded g) (given_by_following {q = q} h rest) = followed_held p q h (all_held q (g q (by_following h)) rest)

pub given_value : (f : Laid) (net : Net) (inputs : List InputArray) (mem : Memory) (v : Valuation) → IsSound f.model → IsAccepted f.model → AreHomes f → IsNetOf f net
    → AreOpened f net inputs → SettledOver net (opening inputs) mem → IsSolution f.model inputs v
    → (e : Element) (c : ℕ) → IsElement f.model e → IsGiven f.model e → IsCellOf f e c → v e ≡ mem c
given_value f net inputs mem v sound accepted homes is_net opened over s e c exists given cell =
    let ground : IsGrounded f.model e =
    acyclic_is_grounded f.model (all_elements f.model) (all_closed f.model sound) (λ r b. accepted.acyclic r) e (element_listed f.model sound e exists) in
    (all_held f net inputs mem v sound accepted homes is_net opened over s e ground given).cell c cell
