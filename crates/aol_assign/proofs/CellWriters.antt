-- Where nothing is written twice, a cell has at most one writer.
use Rattle.std.proofs.Common.{◌≡◌, ℕ, List, ◌∷◌, map, Option, Some, None, slice_get, find, sym, ◌∙◌, ap, refl, subst}
use Rattle.std.specs.List.{IsAmong}
use Rattle.std.specs.Option.{option_to_list}
use Rattle.aol_shape.specs.Lists.{same}
use Rattle.aol_expr_tree.specs.declared.port.Port.{Port}
use Rattle.aol_model_types.specs.declared.document.Model.{Model}
use Rattle.aol_model_types.specs.declared.task.Compound.{Compound}
use Rattle.aol_model_types.specs.declared.task.Elementary.{Elementary}
use Rattle.aol_model_types.specs.declared.task.OutPort.{OutPort}
use Rattle.aol_model_types.specs.declared.task.Part.{Part}
use Rattle.aol_model_types.specs.declared.task.Task.TheVariants as tasks
use Rattle.aol_model_types.specs.Rules.{inputs_named, outputs_of}
use Rattle.aol_flat.specs.Place.{Place, IntoPart, Down, Element, task_at, elements_of}
use Rattle.aol_flat.specs.Home.{Kept}
use Rattle.aol_flat.specs.Instance.{Instance, Run, Copy, of_task, copy_target, written_elements}
use Rattle.aol_flat.specs.InstanceNeed.{Reaches, here, onward, IsReal}
use Rattle.aol_flat.specs.Need.{Follows}
use Rattle.aol_flat.specs.Laid.{Laid}
use Rattle.aol_flat.specs.Level.{WritesCell}
use Rattle.aol_flat.specs.Sources.{source_at}
use Rattle.aol_flat.specs.Targets.{IsSingleAssignment}
use Rattle.aol_flat.specs.Accept.{IsSound}
use Rattle.aol_flat.specs.declared.view.Writer.{Writer}
use Rattle.aol_flat.proofs.Among.{at_port, get_among}
use Rattle.aol_flat.proofs.Once.{found_among}
use Rattle.aol_flat.proofs.Levelled.{two_sides}
use Rattle.aol_flat.proofs.Numbered.{copied_end}
use Rattle.aol_flat.proofs.PathGrounded.{none_is_some}
use Rattle.aol_flat.proofs.Real.{sound_is_real}
use Rattle.aol_flat.proofs.RealCycles.{output_of_port}
use Rattle.aol_flat.proofs.SourceCopies.{copied_found}
use Rattle.aol_flat.proofs.SourceSteps.{computed_none}
use Rattle.aol_flat_laws.proofs.OneWriter.{only_member, written_there, one_home, written_among}
use Rattle.aol_assign.proofs.InstancesDiffer.{one_number}
use Rattle.aol_assign.proofs.ListedCopies.{IsCopyOf, IsOfTask, listed_of, IsPairOf, WritesOwn, WritesPart, writes_own, writes_part, only_pair, own_target, part_target}

-- what follows nothing reaches itself alone
ends_here : (m : Model) (e z : Element) → ((r : Element) → Follows m e r → ⊥) → Reaches m e z → z ≡ e
ends_here m e z end here = refl
ends_here m e z end (onward {q = x} f r) = absurd (end x f)

module _ (m : Model) (sound : IsSound m) (single : IsSingleAssignment m) where
  -- what a copy writes is its target
  copied_is : (place : Place) (k : ℕ) (r i : List ℕ) (f : IsCopyOf m place k r i) (e : Element) → IsAmong (written_elements m (Copy place k r i)) e → e ≡ copy_target m f.task place f.reshape r i
  copied_is place k r i f e a =
      let P : Option Element → Type 0 = λ o. IsAmong (option_to_list o) e in
      only_member (copy_target m f.task place f.reshape r i) e (subst P (copied_end copy_target m place f.task k f.reshape r i f.at f.listed) a)

  run_output : (place : Place) (t : Elementary) → task_at m place ≡ Some (tasks.Elementary t) → (e : Element) → IsAmong (written_elements m (Run place)) e → IsAmong (elements_of place (map (λ (o : OutPort). o.port) t.outs)) e
  run_output place t h e a =
      let P : List Element → Type 0 = λ es. IsAmong es e in
      subst P (ap (of_task (λ u. elements_of place (outputs_of u))) h) a

  -- no run writes what a copy does
  run_or_copy : (place : Place) (t : Elementary) → task_at m place ≡ Some (tasks.Elementary t) → (up : Place) (k : ℕ) (r i : List ℕ) → IsReal m (Copy up k r i) → (e : Element)
      → IsAmong (written_elements m (Run place)) e → IsAmong (written_elements m (Copy up k r i)) e → ⊥
  run_or_copy place t h up k r i real e a b =
      let P : List Element → Type 0 = λ es. IsAmong es e in
      let o = output_of_port m place t h e (run_output place t h e a) in
      let target : e ≡ real.0 = only_member real.0 e (subst P real.3 b) in
      none_is_some (source_at m e) real.1 (computed_none m sound e o.0) (ap (source_at m) target ∙ copied_found m sound single real.0 real.1 real.2)

  one_task : (up up' : Place) (c c' : Compound) → up ≡ up' → task_at m up ≡ Some (tasks.Compound c) → task_at m up' ≡ Some (tasks.Compound c') → c ≡ c'
  one_task up up' c c' same_place at at' = let both : Some (tasks.Compound c) ≡ Some (tasks.Compound c') = sym at ∙ (ap (task_at m) same_place ∙ at') in cc

  one_copy : (up up' : Place) (k k' : ℕ) (r r' i i' : List ℕ) → up ≡ up' → ◌≡◌ {A = Writer} (record { item = k; rep = r; pattern = i }) (record { item = k'; rep = r'; pattern = i' }) → Copy up k r i ≡ Copy up' k' r' i'
  one_copy up up' k k' r r' i i' place pair =
      let item : k ≡ k' = ap (λ (w : Writer). w.item) pair in
      let rep : r ≡ r' = ap (λ (w : Writer). w.rep) pair in
      let pattern : i ≡ i' = ap (λ (w : Writer). w.pattern) pair in
      cc

  both_own : (up up' : Place) (k k' : ℕ) (r r' i i' : List ℕ) (f : IsCopyOf m up k r i) (g : IsCopyOf m up' k' r' i') (e : Element)
      → WritesOwn m sound up f.task k r i e → WritesOwn m sound up' g.task k' r' i' e → Copy up k r i ≡ Copy up' k' r' i'
  both_own up up' k k' r r' i i' f g e w v =
      let place : up ≡ up' = sym w.here ∙ v.here in
      let task : f.task ≡ g.task = one_task up up' f.task g.task place f.at g.at in
      let ports : Some w.port ≡ Some v.port = sym w.found ∙ (ap (λ (c : Compound). find (λ (p : Port). same p.name e.port) c.outs) task ∙ v.found) in
      let port : w.port ≡ v.port = cc in
      let P : Compound → Type 0 = λ c. IsPairOf m sound c None v.port e.index k' r' i' in
      let Q : Port → Type 0 = λ y. IsPairOf m sound f.task None y e.index k' r' i' in
      let t = own_target m sound up f.task w.port f.at (found_among (λ (p : Port). same p.name e.port) f.task.outs w.port w.found) in
      one_copy up up' k k' r r' i i' place (only_pair m sound single f.task None w.port t.0 t.1 e.index k k' r r' i i' w.pair (subst Q (sym port) (subst P (sym task) v.pair)))

  both_part : (up up' : Place) (k k' : ℕ) (r r' i i' : List ℕ) (f : IsCopyOf m up k r i) (g : IsCopyOf m up' k' r' i') (e : Element)
      → WritesPart m sound up f.task k r i e → WritesPart m sound up' g.task k' r' i' e → Copy up k r i ≡ Copy up' k' r' i'
  both_part up up' k k' r r' i i' f g e w v =
      let steps : IntoPart w.number ∷ up ≡ IntoPart v.number ∷ up' = sym w.here ∙ v.here in
      let place : up ≡ up' = cc in
      let step : ◌≡◌ {A = Down} (IntoPart w.number) (IntoPart v.number) = cc in
      let number : w.number ≡ v.number = cc in
      let task : f.task ≡ g.task = one_task up up' f.task g.task place f.at g.at in
      let parts : Some w.part ≡ Some v.part = sym w.at_number ∙ (ap (λ (c : Compound). slice_get c.parts w.number) task ∙ (ap (slice_get g.task.parts) number ∙ v.at_number)) in
      let part : w.part ≡ v.part = cc in
      let ports : Some w.port ≡ Some v.port = sym w.found ∙ (ap (λ (q : Part). find (λ (p : Port). same p.name e.port) (inputs_named m.tasks q.task)) part ∙ v.found) in
      let port : w.port ≡ v.port = cc in
      let P : Compound → Type 0 = λ c. IsPairOf m sound c (Some v.part.name) v.port e.index k' r' i' in
      let Q : Port → Type 0 = λ y. IsPairOf m sound f.task (Some v.part.name) y e.index k' r' i' in
      let R : Part → Type 0 = λ q. IsPairOf m sound f.task (Some q.name) w.port e.index k' r' i' in
      let t = part_target m sound up f.task w.part w.port f.at (get_among f.task.parts w.number w.part w.at_number) (found_among (λ (p : Port). same p.name e.port) (inputs_named m.tasks w.part.task) w.port w.found) in
      one_copy up up' k k' r r' i i' place
      (only_pair m sound single f.task (Some w.part.name) w.port t.0 t.1 e.index k k' r r' i i' w.pair (subst R (sym part) (subst Q (sym port) (subst P (sym task) v.pair))))

  copies_same : (up up' : Place) (k k' : ℕ) (r r' i i' : List ℕ) (f : IsCopyOf m up k r i) (g : IsCopyOf m up' k' r' i') (e : Element)
      → IsAmong (written_elements m (Copy up k r i)) e → IsAmong (written_elements m (Copy up' k' r' i')) e → Copy up k r i ≡ Copy up' k' r' i'
  copies_same up up' k k' r r' i i' f g e a b = go f.reshape.to.part refl g.reshape.to.part refl
    where
      is : e ≡ copy_target m f.task up f.reshape r i
      is = copied_is up k r i f e a

      is' : e ≡ copy_target m g.task up' g.reshape r' i'
      is' = copied_is up' k' r' i' g e b

      go : (o : Option (List ℕ)) → f.reshape.to.part ≡ o → (p : Option (List ℕ)) → g.reshape.to.part ≡ p → Copy up k r i ≡ Copy up' k' r' i'
      go None x None y = both_own up up' k k' r r' i i' f g e (writes_own m sound up k r i f e is x) (writes_own m sound up' k' r' i' g e is' y)
      go None x (Some n) y = absurd (two_sides m e (writes_part m sound up' k' r' i' g e is' n y).input (writes_own m sound up k r i f e is x).output)
      go (Some n) x None y = absurd (two_sides m e (writes_part m sound up k r i f e is n x).input (writes_own m sound up' k' r' i' g e is' y).output)
      go (Some n) x (Some l) y = both_part up up' k k' r r' i i' f g e (writes_part m sound up k r i f e is n x) (writes_part m sound up' k' r' i' g e is' l y)

  -- one instance writes an element
  pub same_instance : (i j : Instance) → IsReal m i → IsReal m j → IsOfTask m i → IsOfTask m j → (e : Element) → IsAmong (written_elements m i) e → IsAmong (written_elements m j) e → i ≡ j
  same_instance (Run place) (Run place') real real' of of' e a b =
      let at = at_port place (map (λ (o : OutPort). o.port) of.0.outs) e (run_output place of.0 of.1 e a) in
      let at' = at_port place' (map (λ (o : OutPort). o.port) of'.0.outs) e (run_output place' of'.0 of'.1 e b) in
      ap Run (sym (ap (λ (x : Element). x.place) at.is) ∙ ap (λ (x : Element). x.place) at'.is)
  same_instance (Run place) (Copy up k r i) real real' of of' e a b = absurd (run_or_copy place of.0 of.1 up k r i real' e a b)
  same_instance (Copy up k r i) (Run place) real real' of of' e a b = absurd (run_or_copy place of'.0 of'.1 up k r i real e b a)
  same_instance (Copy up k r i) (Copy up' k' r' i') real real' of of' e a b = copies_same up up' k k' r r' i i' of of' e a b

-- a cell has one writer
pub one_writer : (f : Laid) → IsSound f.model → IsSingleAssignment f.model → (j k c : ℕ) → WritesCell f j c → WritesCell f k c → j ≡ k
one_writer f sound single j k c w v =
    let m = f.model in
    let homes : Some w.in_cell.home ≡ Some v.in_cell.home = sym w.in_cell.at_cell ∙ v.in_cell.at_cell in
    let home : v.in_cell.home ≡ w.in_cell.home = cc in
    let real = sound_is_real m sound j w.instance w.at in
    let real' = sound_is_real m sound k v.instance v.at in
    let a = written_among m w.instance w.port w.rank w.element real w.written in
    let b = written_among m v.instance v.port v.rank v.element real' v.written in
    let there = written_there m sound single w.instance real w.element a in
    let there' = written_there m sound single v.instance real' v.element b in
    let reach = one_home m sound single w.element v.element w.in_cell.home there.0 there'.0 there'.1 w.in_cell.is_home (v.in_cell.is_home ∙ ap Kept home) in
    let one : v.element ≡ w.element = ends_here m w.element v.element there.1 reach in
    let P : Element → Type 0 = λ x. IsAmong (written_elements m v.instance) x in
    let instance = same_instance m sound single w.instance v.instance real real' (listed_of m sound j w.instance w.at) (listed_of m sound k v.instance v.at) w.element a (subst P one b) in
    one_number m j k w.instance w.at (v.at ∙ ap Some (sym instance))
