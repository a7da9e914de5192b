-- Where each read ends as it did, the main outputs are the old ones.
use Rattle.std.proofs.Common.{◌≡◌, ℕ, ℤ, List, [], map, Some, slice_get, option_map, unwrap_or, sym, ◌∙◌, ap, refl, subst}
use Rattle.std.specs.Prelude.{slice_index}
use Rattle.std.specs.List.{IsAmong, position_or_len}
use Rattle.std.proofs.lemmas.Option.{slice_get_within}
use Rattle.std.proofs.lemmas.Simd.{map-map}
use Rattle.aol_shape.specs.Lists.{same}
use Rattle.aol_shape.specs.Shape.{rank, point_at, IsPointOf}
use Rattle.aol_shape.proofs.Points.{point_at-rank}
use Rattle.aol_expr_tree.specs.declared.port.Port.{Port}
use Rattle.aol_expr_tree.specs.declared.value.Val.{Val}
use Rattle.aol_expr_tree.specs.declared.value.Val.TheVariants.{Num}
use Rattle.aol_model_types.specs.declared.document.Model.{Model}
use Rattle.aol_model_types.specs.declared.job.InputArray.{InputArray}
use Rattle.aol_model_types.specs.declared.task.Elementary.{Elementary}
use Rattle.aol_model_types.specs.declared.task.OutPort.{OutPort}
use Rattle.aol_model_types.specs.declared.task.Task.{Task}
use Rattle.aol_model_types.specs.declared.task.Task.TheVariants as tasks
use Rattle.aol_model_types.specs.Rules.{task_name, inputs_of}
use Rattle.aol_flat.specs.Tasks.{elementary_number, main_inputs}
use Rattle.aol_flat.specs.Place.{Place, Element, task_at, elements_of}
use Rattle.aol_flat.specs.Inputs.{numbers_named, InputsFit}
use Rattle.aol_flat.specs.InstanceValue.{instance_value}
use Rattle.aol_flat.specs.Equation.{Valuation, MainInput, ElementaryOutput, IsSolution}
use Rattle.aol_flat.specs.Need.{by_following, by_copying, by_computing, IsGrounded, grounded}
use Rattle.aol_flat.specs.Instance.{Run, instances, read_elements}
use Rattle.aol_flat.specs.Laid.{main_output_elements}
use Rattle.aol_flat.specs.Keep.{EndsAt, at_input, at_number, at_output, by_following as ends_by_following, by_copying as ends_by_copying, old_end, runs_task, SameEnd, AreAlike, Keeps, KeptOutputsAgree}
use Rattle.aol_flat.specs.declared.view.End.{End}
use Rattle.aol_flat.specs.declared.view.End.TheVariants.{Input, Const, Made}
use Rattle.aol_flat.proofs.Agree.{followed_value, same_values}
use Rattle.aol_flat.proofs.Among.{moved, moved_here, moved_elements, moved_among}
use Rattle.aol_flat.proofs.Find.{same_elementary}
use Rattle.aol_flat.proofs.Given.{given_number}

-- ---- what an end says of a value

-- an elementary output of instance j, at port k and rank x, that has the value
record MadeBy (m : Model) (v : Valuation) (j k x : ℕ) (a : Val) : Type 0 where
  element : Element
  output : ElementaryOutput m element
  instance : slice_get (instances m) j ≡ Some (Run element.place)
  port : output.number ≡ k
  ranked : rank output.out.port.shape element.index ≡ x
  value : a ≡ v element

-- the value is the number that is given for this rank of the main input with this number
IsGivenAt : (m : Model) (inputs : List InputArray) → ℕ → ℕ → Val → Type 0
IsGivenAt m inputs k x a = (port : Port) (n : ℤ) → slice_get (main_inputs m) k ≡ Some port → slice_get (numbers_named inputs port.name) x ≡ Some n → a ≡ Num n

-- what an end says of the value there
Told : (m : Model) (inputs : List InputArray) (v : Valuation) → End → Val → Type 0
Told m inputs v (Input k x) a = IsGivenAt m inputs k x a
Told m inputs v (Const n) a = a ≡ Num n
Told m inputs v (Made j k x) a = MadeBy m v j k x a

told_same : (m : Model) (inputs : List InputArray) (v : Valuation) (e : End) (a b : Val) → a ≡ b → Told m inputs v e b → Told m inputs v e a
unfolding Told IsGivenAt
told_same m inputs v (Input k x) a b h t = λ port n at g. h ∙ t port n at g
told_same m inputs v (Const n) a b h t = h ∙ t
told_same m inputs v (Made j k x) a b h t = record { element = t.element; output = t.output; instance = t.instance; port = t.port; ranked = t.ranked; value = h ∙ t.value }

some_injective : {X : Type 0} (a b : X) → Some a ≡ Some b → a ≡ b
some_injective a b h = cc

-- a main input is listed with its number
main_port : (m : Model) (p : Element) (a : MainInput m p) → slice_get (main_inputs m) a.number ≡ Some a.port
main_port m p a = ap (λ t. slice_get (unwrap_or (option_map inputs_of t) []) a.number) a.at_place ∙ a.listed

ends_told : (m : Model) (inputs : List InputArray) (v : Valuation) → IsSolution m inputs v → (p : Element) (e : End) → EndsAt m p e → Told m inputs v e (v p)
unfolding Told IsGivenAt
ends_told m inputs v s p e (at_input a) = λ port n at g.
    let ports : a.port ≡ port = some_injective a.port port (sym (main_port m p a) ∙ at) in
    let named : p.port ≡ port.name = a.named ∙ ap (λ (q : Port). q.name) ports in
    s.main_input p a n (ap (λ name. slice_get (numbers_named inputs name) (rank a.port.shape p.index)) named ∙ g)
ends_told m inputs v s p e (at_number {n = n} d) = s.default_number p n d
ends_told m inputs v s p e (at_output o j h) = record { element = p; output = o; instance = h; port = refl; ranked = refl; value = refl }
ends_told m inputs v s p e (ends_by_following {q = q} f d) = told_same m inputs v e (v p) (v q) (followed_value m inputs v s p q f) (ends_told m inputs v s q e d)
ends_told m inputs v s p e (ends_by_copying {q = q} c d) = told_same m inputs v e (v p) (v q) (s.copied p q c) (ends_told m inputs v s q e d)

-- ---- an instance and its old one

-- two instances whose inputs have the same values
same_inputs : (v w : Valuation) (a b : Place) (ports : List Port) → ((p : Element) → IsAmong (elements_of b ports) p → w (moved a p) ≡ v p) → map w (elements_of a ports) ≡ map v (elements_of b ports)
same_inputs v w a b ports h =
    ap (map w) (moved_elements a b ports)
    ∙ (map-map w (moved a) (elements_of b ports)
    ∙ same_values (λ p. w (moved a p)) v (elements_of b ports) h)

-- what an elementary instance reads
pub reads_of_run : (m : Model) (place : Place) (e : Elementary) → task_at m place ≡ Some (tasks.Elementary e) → read_elements m (Run place) ≡ elements_of place e.ins
reads_of_run m place e h = rw h

elementary_injective : (a b : Elementary) → ◌≡◌ {A = Task} (tasks.Elementary a) (tasks.Elementary b) → a ≡ b
elementary_injective a b h = cc

-- the old instance of a new elementary instance runs the same task
pub same_task : (old new : Model) (old_of : List ℕ) → AreAlike old new old_of → (j : ℕ) (place place' : Place) (e e' : Elementary) → slice_get (instances old) (slice_index old_of j) ≡ Some (Run place)
    → slice_get (instances new) j ≡ Some (Run place') → task_at old place ≡ Some (tasks.Elementary e) → task_at new place' ≡ Some (tasks.Elementary e') → e ≡ e'
same_task old new old_of alike j place place' e e' ho hn to tn =
    let kind = alike.kinds j (slice_get_within (instances new) j (Run place') hn) in
    let f : kind.old_instance ≡ Run place = some_injective kind.old_instance (Run place) (sym kind.at_old ∙ ho) in
    let g : kind.new_instance ≡ Run place' = some_injective kind.new_instance (Run place') (sym kind.at_new ∙ hn) in
    let both : runs_task old (Run place) ≡ runs_task new (Run place') = ap (runs_task old) (sym f) ∙ (kind.alike ∙ ap (runs_task new) g) in
    let named_old : runs_task old (Run place) ≡ Some e.name = ap (option_map task_name) to in
    let named_new : runs_task new (Run place') ≡ Some e'.name = ap (option_map task_name) tn in
    let names : e.name ≡ e'.name = some_injective e.name e'.name (sym named_old ∙ (both ∙ named_new)) in
    elementary_injective e e' (same_elementary old new alike.elementary place place' (tasks.Elementary e) (tasks.Elementary e') refl refl to tn names)

values_same : (n n' : ℕ) (e e' : Elementary) (xs xs' : List Val) (k k' : ℕ) (o o' : OutPort) (i i' : List ℕ) → n ≡ n' → e ≡ e' → xs ≡ xs' → k ≡ k' → o ≡ o' → i ≡ i'
    → instance_value n e xs k o i ≡ instance_value n' e' xs' k' o' i'
values_same n n' e e' xs xs' k k' o o' i i' a b c d f g = cc

-- one output port of one task
same_out : (e e' : Elementary) → e ≡ e' → (k k' : ℕ) → k ≡ k' → (o o' : OutPort) → slice_get e.outs k ≡ Some o → slice_get e'.outs k' ≡ Some o' → o ≡ o'
same_out e e' equal k k' numbers o o' h h' =
    let P : Elementary → Type 0 = λ t. slice_get t.outs k' ≡ Some o' in
    let at_e : slice_get e.outs k' ≡ Some o' = subst P (sym equal) h' in
    let Q : ℕ → Type 0 = λ n. slice_get e.outs n ≡ Some o' in
    let at_k : slice_get e.outs k ≡ Some o' = subst Q (sym numbers) at_e in
    some_injective o o' (sym h ∙ at_k)

-- one rank at one output port is one index
same_index : (o o' : OutPort) → o ≡ o' → (i i' : List ℕ) → IsPointOf o.port.shape i → IsPointOf o'.port.shape i' → rank o.port.shape i ≡ rank o'.port.shape i' → i ≡ i'
same_index o o' outs i i' inside inside' ranks =
    sym (point_at-rank o.port.shape i inside)
    ∙ (ap (point_at o.port.shape) ranks
    ∙ (ap (λ (x : OutPort). point_at x.port.shape (rank o'.port.shape i')) outs
    ∙ point_at-rank o'.port.shape i' inside'))

-- ---- the values

module _ (old new : Model) (old_of : List ℕ) (alike : AreAlike old new old_of) (keeps : Keeps old new old_of) (inputs : List InputArray) (v w : Valuation) (fit : InputsFit old inputs)
    (s : IsSolution old inputs v) (t : IsSolution new inputs w) where
  input_told : (k x : ℕ) (e : End) (a : Val) → ◌≡◌ {A = End} (Input k x) (old_end old_of e) → Told new inputs w e a → IsGivenAt old inputs k x a
  unfolding Told IsGivenAt
  input_told k x (Input j y) a h told = λ port n at g.
      let f : k ≡ j = cc in
      let f' : x ≡ y = cc in
      told port n (ap (λ ports. slice_get ports j) alike.same_ins ∙ (ap (slice_get (main_inputs old)) (sym f) ∙ at)) (ap (slice_get (numbers_named inputs port.name)) (sym f') ∙ g)
  input_told k x (Const m) a h told = cc
  input_told k x (Made j l y) a h told = cc

  number_told : (n : ℤ) (e : End) (a : Val) → ◌≡◌ {A = End} (Const n) (old_end old_of e) → Told new inputs w e a → a ≡ Num n
  unfolding Told
  number_told n (Input j y) a h told = cc
  number_told n (Const m) a h told = let f : n ≡ m = cc in told ∙ ap (λ z. Num z) (sym f)
  number_told n (Made j l y) a h told = cc

  made_told : (i n r : ℕ) (e : End) (a : Val) → ◌≡◌ {A = End} (Made i n r) (old_end old_of e) → Told new inputs w e a → (j : ℕ) × (i ≡ slice_index old_of j) × MadeBy new w j n r a
  unfolding Told
  made_told i n r (Input j y) a h told = cc
  made_told i n r (Const m) a h told = cc
  made_told i n r (Made j l y) a h told =
      let f : i ≡ slice_index old_of j = cc in
      let f' : n ≡ l = cc in
      let f'' : r ≡ y = cc in
      (j, f, record { element = told.element; output = told.output; instance = told.instance; port = told.port ∙ sym f'; ranked = told.ranked ∙ sym f''; value = told.value })

  -- a main input has the number that is given
  given_told : (q : Element) (i : MainInput old q) (a : Val) → IsGivenAt old inputs i.number (rank i.port.shape q.index) a → a ≡ v q
  unfolding IsGivenAt
  given_told q i a told =
      let n = given_number old inputs q i fit in
      told i.port n.0 (main_port old q i) (ap (λ name. slice_get (numbers_named inputs name) (rank i.port.shape q.index)) (sym i.named) ∙ n.1) ∙ sym (s.main_input q i n.0 n.1)

  -- an output of a new instance has the value of the old instance's, where their inputs have the same values
  made_same : (q : Element) (o : ElementaryOutput old q) (j : ℕ) → slice_get (instances old) (slice_index old_of j) ≡ Some (Run q.place) → (a : Val)
      → (b : MadeBy new w j o.number (rank o.out.port.shape q.index) a)
      → ((p : Element) → IsAmong (elements_of q.place o.task.ins) p → w (moved b.element.place p) ≡ v p) → a ≡ v q
  made_same q o j h a b inputs_same =
      let equal : o.task ≡ b.output.task = same_task old new old_of alike j q.place b.element.place o.task b.output.task h b.instance o.at_place b.output.at_place in
      let taken : map w (elements_of b.element.place b.output.task.ins) ≡ map v (elements_of q.place o.task.ins) =
      ap (λ (e : Elementary). map w (elements_of b.element.place e.ins)) (sym equal) ∙ same_inputs v w b.element.place q.place o.task.ins inputs_same in
      let numbers : elementary_number new b.output.task.name ≡ elementary_number old o.task.name =
      ap (λ (e : Elementary). elementary_number new e.name) (sym equal) ∙ ap (λ ts. position_or_len (λ x. same (task_name x) o.task.name) ts) alike.elementary in
      let outs : b.output.out ≡ o.out = same_out b.output.task o.task (sym equal) b.output.number o.number b.port b.output.out o.out b.output.listed o.listed in
      let index : b.element.index ≡ q.index = same_index b.output.out o.out outs b.element.index q.index b.output.inside o.inside b.ranked in
      b.value ∙ (t.elementary_output b.element b.output
      ∙ (values_same (elementary_number new b.output.task.name) (elementary_number old o.task.name) b.output.task o.task
      (map w (elements_of b.element.place b.output.task.ins)) (map v (elements_of q.place o.task.ins)) b.output.number o.number b.output.out o.out b.element.index q.index
      numbers (sym equal) taken b.port outs index
      ∙ sym (s.elementary_output q o)))

  -- what an input of the new instance ends at, as an input of the old one
  input_kept : (q : Element) (o : ElementaryOutput old q) (j : ℕ) → slice_get (instances old) (slice_index old_of j) ≡ Some (Run q.place) → (a : Val)
      (b : MadeBy new w j o.number (rank o.out.port.shape q.index) a) (p : Element) → IsAmong (elements_of q.place o.task.ins) p → SameEnd old new old_of (moved b.element.place p) p
  input_kept q o j h a b p r =
      let equal : o.task ≡ b.output.task = same_task old new old_of alike j q.place b.element.place o.task b.output.task h b.instance o.at_place b.output.at_place in
      let P : Elementary → Type 0 = λ e. IsAmong (elements_of b.element.place e.ins) (moved b.element.place p) in
      let listed : IsAmong (elements_of b.element.place b.output.task.ins) (moved b.element.place p) = subst P equal (moved_among b.element.place q.place o.task.ins p r) in
      let Q : List Element → Type 0 = λ es. IsAmong es (moved b.element.place p) in
      let read : IsAmong (read_elements new (Run b.element.place)) (moved b.element.place p) = subst Q (sym (reads_of_run new b.element.place b.output.task b.output.at_place)) listed in
      keeps.reads j (Run b.element.place) (Run q.place) b.instance h (moved b.element.place p) p read (ap Some (moved_here q.place o.task.ins p r))

  kept_value : (q : Element) → IsGrounded old q → (f : End) → EndsAt old q f → (p : Element) (e : End) → EndsAt new p e → f ≡ old_end old_of e → w p ≡ v q
  kept_value q (grounded g) f (at_input a) p e ends h =
      given_told q a (w p) (input_told a.number (rank a.port.shape q.index) e (w p) h (ends_told new inputs w t p e ends))
  kept_value q (grounded g) f (at_number {n = n} d) p e ends h =
      number_told n e (w p) h (ends_told new inputs w t p e ends) ∙ sym (s.default_number q n d)
  kept_value q (grounded g) f (at_output o i hi) p e ends h =
      let m = made_told i o.number (rank o.out.port.shape q.index) e (w p) h (ends_told new inputs w t p e ends) in
      let P : ℕ → Type 0 = λ k. slice_get (instances old) k ≡ Some (Run q.place) in
      let at_old : slice_get (instances old) (slice_index old_of m.0) ≡ Some (Run q.place) = subst P m.1 hi in
      made_same q o m.0 at_old (w p) m.2
      (λ x r.
      let k = input_kept q o m.0 at_old (w p) m.2 x r in
      kept_value x (g x (by_computing o r)) (old_end old_of k.ending) k.old_ends (moved m.2.element.place x) k.ending k.new_ends refl)
  kept_value q (grounded g) f (ends_by_following {q = r} d rest) p e ends h =
      kept_value r (g r (by_following d)) f rest p e ends h ∙ sym (followed_value old inputs v s q r d)
  kept_value q (grounded g) f (ends_by_copying {q = r} c rest) p e ends h =
      kept_value r (g r (by_copying c)) f rest p e ends h ∙ sym (s.copied q r c)

pub kept_outputs_agree : KeptOutputsAgree
kept_outputs_agree old new old_of comparable keeps ground inputs v w fit s t p listed =
    let k = keeps.main_outputs p listed in
    let P : List Element → Type 0 = λ es. IsAmong es p in
    let equal : main_output_elements new ≡ main_output_elements old = ap (elements_of []) comparable.alike.same_outs in
    kept_value old new old_of comparable.alike keeps inputs v w fit s t p (ground p (subst P equal listed)) (old_end old_of k.ending) k.old_ends p k.ending k.new_ends refl
