-- Where reading an element ends by the leads of cells, that element ends, and the other way round.
use Rattle.std.proofs.Common.{◌≡◌, ℕ, zero, suc, ◌<◌, Bool, true, false, cond, List, [], ◌∷◌, map, Option, Some, None, slice_get, option_and_then, ℤ, sym, ◌∙◌, ap, refl, ◌⊎◌, inl, inr, subst, lt-ltb}
use Rattle.std.specs.Prelude.{nat_lt}
use Rattle.std.specs.List.{IsAmong}
use Rattle.std.proofs.lemmas.Bool.{ltb-true}
use Rattle.std.proofs.lemmas.Option.{slice_get_within}
use Rattle.aol_shape.specs.Shape.{size, rank, point_at, IsPointOf}
use Rattle.aol_shape.proofs.Points.{rank-lt-size, point_at-rank, point_at-is, rank-point_at}
use Rattle.aol_expr_tree.specs.declared.port.Port.{Port}
use Rattle.aol_model_types.specs.declared.document.Model.{Model}
use Rattle.aol_model_types.specs.declared.task.OutPort.{OutPort}
use Rattle.aol_model_types.specs.Rules.{outputs_of}
use Rattle.aol_flat.specs.Place.{Place, Element, IsElement, task_at}
use Rattle.aol_flat.specs.Equation.{MainInput, ElementaryOutput, CopiedElement}
use Rattle.aol_flat.specs.Home.{Home, Kept, Constant, origin_home, origin, home_of}
use Rattle.aol_flat.specs.Instance.{Instance, Run, Copy, instances, element_of_port, port_element, written_element, written_elements, read_elements}
use Rattle.aol_flat.specs.InstanceNeed.{Reaches, here, onward, IsReal}
use Rattle.aol_flat.specs.Keep.{EndsAt, at_input, at_number, at_output, by_following as ends_by_following, by_copying as ends_by_copying}
use Rattle.aol_flat.specs.Laid.{Laid, IsCellOf, IsReadOf}
use Rattle.aol_flat.specs.Need.{Follows}
use Rattle.aol_flat.specs.Reads.{IsGiven, by_main_input, by_default, by_computing, by_copying, by_following}
use Rattle.aol_flat.specs.Sources.{source_at}
use Rattle.aol_flat.specs.Targets.{IsSingleAssignment}
use Rattle.aol_flat.specs.Wired.{IsWired}
use Rattle.aol_flat.specs.Accept.{IsSound}
use Rattle.aol_flat.specs.declared.view.End.{End}
use Rattle.aol_flat.specs.declared.view.End.TheVariants.{Input, Const as AtConst, Made}
use Rattle.aol_flat.specs.declared.view.Read.{Read}
use Rattle.aol_flat.specs.declared.view.Read.TheVariants.{Cell, Const}
use Rattle.aol_flat.proofs.Find.{and_then_some}
use Rattle.aol_flat.proofs.Homes.{input_home, followed_homes, default_number_home}
use Rattle.aol_flat.proofs.Numbered.{agreeing_is_numbered, copy_numbered}
use Rattle.aol_flat.proofs.PathGrounded.{none_is_some}
use Rattle.aol_flat.proofs.PortsOf.{read_moves}
use Rattle.aol_flat.proofs.Real.{sound_is_real}
use Rattle.aol_flat.proofs.Sources.{followed_found}
use Rattle.aol_flat.proofs.SourceSteps.{main_none, main_input_side}
use Rattle.aol_flat.proofs.Wired.{agreeing_is_wired}
use Rattle.aol_flat_laws.proofs.InputPaths.{home_meets}
use Rattle.aol_flat_laws.proofs.OneWriter.{only_member, written_there, one_home, written_among}
use Rattle.aol_flat_laws.proofs.WrittenHome.{written_home}
use Rattle.aol_assign.proofs.GivenHomes.{GivenHome, home_given}
use Rattle.aol_equiv.specs.declared.leads.Lead.{Lead}
use Rattle.aol_equiv.specs.declared.leads.Lead.TheVariants.{Ends, Copies, Nowhere}
use Rattle.aol_equiv.specs.Leads.{lead_of, known_end, end_of}
use Rattle.aol_equiv.specs.Resolved.{EndsFrom, at_end, by_copy, IsResolved}
use Rattle.aol_equiv.specs.Table.{IsLeadOf, IsFilled, IsGivenCell, AreLeads, AreEnds}

-- what is known of a cell as an end is its lead
known_lead : (o : Option Lead) (e : End) → option_and_then known_end o ≡ Some e → o ≡ Some (Ends e)
known_lead None e h = cc
known_lead (Some (Ends f)) e h = let one : f ≡ e = cc in ap (λ x. Some (Ends x)) one
known_lead (Some (Copies d)) e h = cc
known_lead (Some Nowhere) e h = cc

mapped_get : (outs : List OutPort) (k : ℕ) (p : Port) → slice_get (map (λ (o : OutPort). o.port) outs) k ≡ Some p → (o : OutPort) × (slice_get outs k ≡ Some o) × (p ≡ o.port)
mapped_get [] k p h = cc
mapped_get (o ∷ outs) zero p h = let e : p ≡ o.port = cc in (o, refl, e)
mapped_get (o ∷ outs) (suc k) p h = mapped_get outs k p h

get_mapped : (outs : List OutPort) (k : ℕ) (o : OutPort) → slice_get outs k ≡ Some o → slice_get (map (λ (o : OutPort). o.port) outs) k ≡ Some o.port
get_mapped [] k o h = cc
get_mapped (x ∷ outs) zero o h = let e : x ≡ o = cc in ap (λ (y : OutPort). Some y.port) e
get_mapped (x ∷ outs) (suc k) o h = get_mapped outs k o h

-- an element of a port by its rank
pub at_rank : (place : Place) (x : ℕ) (p : Port) (e : Element) → element_of_port place x p ≡ Some e → (x < size p.shape) × (e ≡ record { place = place; port = p.name; index = point_at p.shape x })
at_rank place x p e h = go (nat_lt x (size p.shape)) refl h
  where
    go : (b : Bool) → nat_lt x (size p.shape) ≡ b → cond b (Some (record { place = place; port = p.name; index = point_at p.shape x })) None ≡ Some e → (x < size p.shape) × (e ≡ record { place = place; port = p.name; index = point_at p.shape x })
    go true f g = let is : e ≡ record { place = place; port = p.name; index = point_at p.shape x } = cc in (ltb-true x (size p.shape) f, is)
    go false f g = cc

pub ranked_there : (place : Place) (p : Port) (x : ℕ) → x < size p.shape → element_of_port place x p ≡ Some (record { place = place; port = p.name; index = point_at p.shape x })
ranked_there place p x lt = ap (λ b. cond b (Some (record { place = place; port = p.name; index = point_at p.shape x })) None) (lt-ltb x (size p.shape) lt)

-- an output of a run by port and rank
pub record IsOutputAt (m : Model) (k x : ℕ) (e : Element) (place : Place) : Type 0 where
  pub output : ElementaryOutput m e
  pub port : output.number ≡ k
  pub ranked : rank output.out.port.shape e.index ≡ x
  pub here : e.place ≡ place

pub output_at : (m : Model) (place : Place) → IsReal m (Run place) → (k x : ℕ) (e : Element) → written_element m (Run place) k x ≡ Some e → IsOutputAt m k x e place
output_at m place real k x e h =
    let ports = map (λ (o : OutPort). o.port) real.0.outs in
    let at : port_element place ports k x ≡ Some e = sym (ap (option_and_then (λ t. port_element place (outputs_of t) k x)) real.1) ∙ h in
    let port = and_then_some (element_of_port place x) (slice_get ports k) e at in
    let out = mapped_get real.0.outs k port.0 port.1 in
    let is = at_rank place x port.0 e port.2 in
    let same_place : e.place ≡ place = ap (λ (y : Element). y.place) is.1 in
    let index : e.index ≡ point_at port.0.shape x = ap (λ (y : Element). y.index) is.1 in
    let P : List ℕ → Type 0 = λ i. IsPointOf port.0.shape i in
    let inside : IsPointOf port.0.shape e.index = subst P (sym index) (point_at-is port.0.shape x is.0) in
    let Q : Port → Type 0 = λ p. IsPointOf p.shape e.index in
    record {
      output = record {
        task = real.0;
        at_place = ap (task_at m) same_place ∙ real.1;
        number = k;
        out = out.0;
        listed = out.1;
        named = ap (λ (y : Element). y.port) is.1 ∙ ap (λ (p : Port). p.name) out.2;
        inside = subst Q out.2 inside;
      };
      port = refl;
      ranked = ap (λ (p : Port). rank p.shape e.index) (sym out.2) ∙ (ap (rank port.0.shape) index ∙ rank-point_at port.0.shape x is.0);
      here = same_place;
    }

-- and the other way round
pub output_found : (m : Model) (p : Element) (o : ElementaryOutput m p) → written_element m (Run p.place) o.number (rank o.out.port.shape p.index) ≡ Some p
output_found m p o =
    let ports = map (λ (u : OutPort). u.port) o.task.outs in
    let x = rank o.out.port.shape p.index in
    let under : nat_lt x (size o.out.port.shape) ≡ true = lt-ltb x (size o.out.port.shape) (rank-lt-size o.out.port.shape p.index o.inside) in
    ap (option_and_then (λ t. port_element p.place (outputs_of t) o.number x)) o.at_place
    ∙ (ap (option_and_then (element_of_port p.place x)) (get_mapped o.task.outs o.number o.out o.listed)
    ∙ (ap (λ b. cond b (Some (record { place = p.place; port = o.out.port.name; index = point_at o.out.port.shape x })) None) under
    ∙ (ap (λ (i : List ℕ). Some (record { place = p.place; port = o.out.port.name; index = i })) (point_at-rank o.out.port.shape p.index o.inside)
    ∙ ap (λ (n : List ℕ). Some (record { place = p.place; port = n; index = p.index })) (sym o.named))))

-- what follows nothing reaches itself alone
pub ends_here : (m : Model) (e z : Element) → ((r : Element) → Follows m e r → ⊥) → Reaches m e z → z ≡ e
ends_here m e z end here = refl
ends_here m e z end (onward {q = x} f r) = absurd (end x f)

module _ (m : Model) (sound : IsSound m) (single : IsSingleAssignment m) where
  wired : IsWired m
  wired = agreeing_is_wired m sound.shapes

  pub main_home : (p : Element) → MainInput m p → home_of m p ≡ Kept p
  main_home p a =
      input_home m p (main_input_side m sound p a)
      ∙ (ap (λ place. origin_home m (origin m place p.port p.index)) a.is_main
      ∙ ap (λ place. Kept (record { place = place; port = p.port; index = p.index })) (sym a.is_main))

  -- what an instance writes has a home that is kept
  kept_home : (j : ℕ) (i : Instance) → slice_get (instances m) j ≡ Some i → (p : Element) → IsAmong (written_elements m i) p → (h : Element) × (home_of m p ≡ Kept h)
  kept_home j i at p a = written_home m sound single i (sound_is_real m sound j i at) p a

  pub computed_home : (p : Element) → ElementaryOutput m p → (h : Element) × (home_of m p ≡ Kept h)
  computed_home p o = let r = (agreeing_is_numbered m sound.shapes).runs p o in kept_home r.0 r.1 r.2 p r.3

  pub copied_home : (p q : Element) → CopiedElement m p q → (h : Element) × (home_of m p ≡ Kept h)
  copied_home p q c = let r = (agreeing_is_numbered m sound.shapes).copies p q c in kept_home r.0 r.1 r.2 p r.3

  -- an element ends where one does that it reaches
  along : (p q : Element) → Reaches m p q → (e : End) → EndsAt m q e → EndsAt m p e
  along p q here e h = h
  along p q (onward {q = x} f r) e h = ends_by_following f (along x q r e h)

  number_at : (p : Element) (n : ℤ) → home_of m p ≡ Constant n → IsGiven m p → EndsAt m p (AtConst n)
  number_at p n home (by_main_input a) = let no : Kept p ≡ Constant n = sym (main_home p a) ∙ home in cc
  number_at p n home (by_default k d) =
      let same_number : Constant k ≡ Constant n = sym (default_number_home m wired p k d) ∙ home in
      let one : k ≡ n = cc in
      let P : ℤ → Type 0 = λ z. EndsAt m p (AtConst z) in
      subst P one (at_number d)
  number_at p n home (by_computing o) = let k = computed_home p o in let no : Kept k.0 ≡ Constant n = sym k.1 ∙ home in cc
  number_at p n home (by_copying {q = q} c) = let k = copied_home p q c in let no : Kept k.0 ≡ Constant n = sym k.1 ∙ home in cc
  number_at p n home (by_following {q = q} f g) = ends_by_following f (number_at q n (sym (followed_homes m wired p q f) ∙ home) g)

  -- what is stored as a number ends at it
  pub number_ends : (p : Element) (n : ℤ) → IsElement m p → home_of m p ≡ Constant n → EndsAt m p (AtConst n)
  number_ends p n exists home = number_at p n home (home_given m sound single p exists (let P : Home → Type 0 = λ h. GivenHome m h in subst P (sym home) tt))

  -- what has a main input's home ends at it
  main_ends : (p h : Element) → IsElement m p → home_of m p ≡ Kept h → (a : MainInput m h) → EndsAt m p (Input a.number (rank a.port.shape h.index))
  main_ends p h exists home a =
      let meet = home_meets m sound single p h exists home in
      let none : (r : Element) → Follows m h r → ⊥ = λ r f. none_is_some (source_at m h) r (main_none m sound h a) (followed_found m sound single h r f) in
      let P : Element → Type 0 = λ x. Reaches m p x in
      along p h (subst P (ends_here m h meet.at none meet.from_home) meet.down) (Input a.number (rank a.port.shape h.index)) (at_input a)

  -- what has the home of a written element ends where that does
  written_ends : (j : ℕ) (i : Instance) → slice_get (instances m) j ≡ Some i → (w : Element) → IsAmong (written_elements m i) w → (p h : Element) → IsElement m p → home_of m p ≡ Kept h → home_of m w ≡ Kept h
      → (e : End) → EndsAt m w e → EndsAt m p e
  written_ends j i at w a p h exists home home' e ends =
      let real = sound_is_real m sound j i at in
      let there = written_there m sound single i real w a in
      along p w (one_home m sound single p w h exists there.0 there.1 home home') e ends

  -- an output ends at the instance that makes it
  pub run_ends : (j : ℕ) (place : Place) → slice_get (instances m) j ≡ Some (Run place) → (k x : ℕ) (w : Element) → written_element m (Run place) k x ≡ Some w → EndsAt m w (Made j k x)
  run_ends j place at k x w written =
      let o = output_at m place (sound_is_real m sound j (Run place) at) k x w written in
      let ends : EndsAt m w (Made j o.output.number (rank o.output.out.port.shape w.index)) = at_output o.output j (at ∙ ap (λ y. Some (Run y)) (sym o.here)) in
      let P : ℕ → Type 0 = λ y. EndsAt m w (Made j y (rank o.output.out.port.shape w.index)) in
      let Q : ℕ → Type 0 = λ y. EndsAt m w (Made j k y) in
      subst Q o.ranked (subst P o.port ends)

  -- what a copy writes is copied from what it reads
  pub copies_from : (place : Place) (k : ℕ) (r s : List ℕ) → IsReal m (Copy place k r s) → (w q : Element) → IsAmong (written_elements m (Copy place k r s)) w → IsAmong (read_elements m (Copy place k r s)) q → CopiedElement m w q
  copies_from place k r s real w q a b =
      let P : List Element → Type 0 = λ es. IsAmong es w in
      let Q : List Element → Type 0 = λ es. IsAmong es q in
      let left = only_member real.0 w (subst P real.3 a) in
      let right = only_member real.1 q (subst Q real.4 b) in
      let R : Element → Type 0 = λ x. CopiedElement m x q in
      let S : Element → Type 0 = λ x. CopiedElement m real.0 x in
      subst R (sym left) (subst S (sym right) real.2)

module _ (f : Laid) (sound : IsSound f.model) (single : IsSingleAssignment f.model) (origin : List Lead) (a : AreLeads f origin) (leads : List Lead) (r : IsResolved origin leads) where
  abbrev m : Model
  m = f.model

  -- ---- what ends is read so

  from_cell : (c : ℕ) (e : End) → EndsFrom origin c e → end_of leads (Cell c) ≡ Some e
  from_cell c e h = ap (option_and_then known_end) (r.all c e h)

  from_read : (c : ℕ) (read : Read) (e : End) → slice_get origin c ≡ Some (lead_of read) → end_of leads read ≡ Some e → EndsFrom origin c e
  from_read c (Const n) e h g =
      let one : AtConst n ≡ e = cc in
      at_end (h ∙ ap (λ x. Some (Ends x)) one)
  from_read c (Cell d) e h g = by_copy h (r.ends d e (known_lead (slice_get leads d) e g))

  pub complete : (p : Element) (e : End) → EndsAt m p e → (read : Read) → IsReadOf f p read → end_of leads read ≡ Some e
  complete p e (at_input i) (Const n) is = let no : Kept p ≡ Constant n = sym (main_home m sound single p i) ∙ is in cc
  complete p e (at_input i) (Cell c) is =
      from_cell c (Input i.number (rank i.port.shape p.index)) (at_end (a.given c (Ends (Input i.number (rank i.port.shape p.index))) (record { element = p; input = i; in_cell = is; is = refl })))
  complete p e (at_number {n = k} d) (Const n) is =
      let same_number : Constant k ≡ Constant n = sym (default_number_home m (wired m sound single) p k d) ∙ is in
      let one : n ≡ k = cc in
      ap (λ z. Some (AtConst z)) one
  complete p e (at_number {n = k} d) (Cell c) is = let no : Constant k ≡ Kept is.home = sym (default_number_home m (wired m sound single) p k d) ∙ is.is_home in cc
  complete p e (at_output o j at) (Const n) is = let k = computed_home m sound single p o in let no : Kept k.0 ≡ Constant n = sym k.1 ∙ is in cc
  complete p e (at_output o j at) (Cell c) is =
      let x = rank o.out.port.shape p.index in
      let found = output_found m p o in
      let written = written_among m (Run p.place) o.number x p (sound_is_real m sound j (Run p.place) at) found in
      from_cell c (Made j o.number x) (at_end (a.some c j (Ends (Made j o.number x)) (record { instance = Run p.place; at = at; element = p; written = written; in_cell = is; is = (o.number, x, found, refl) })))
  complete p e (ends_by_following {q = q} g d) read is = complete q e d read (read_moves f q p read (sym (followed_homes m (wired m sound single) p q g)) is)
  complete p e (ends_by_copying {q = q} g d) (Const n) is = let k = copied_home m sound single p q g in let no : Kept k.0 ≡ Constant n = sym k.1 ∙ is in cc
  complete p e (ends_by_copying {q = q} g d) (Cell c) is =
      let k = copy_numbered m sound.shapes p q g in
      let copy : Instance = Copy g.up g.listed.0 g.repetition g.part in
      let read = a.reads k.0 g.up g.listed.0 g.repetition g.part (slice_get_within (instances m) k.0 copy k.1) k.1 q k.3 in
      let filled = a.some c k.0 (lead_of read.0) (record { instance = Copy g.up g.listed.0 g.repetition g.part; at = k.1; element = p; written = k.2; in_cell = is; is = (q, read.0, k.3, read.1, refl) }) in
      from_cell c e (from_read c read.0 e filled (complete q e d read.0 read.1))

  -- ---- what is read so ends there

  one_cell : (p w : Element) (c : ℕ) (x : IsCellOf f p c) (y : IsCellOf f w c) → home_of m w ≡ Kept x.home
  one_cell p w c x y =
      let both : Some y.home ≡ Some x.home = sym y.at_cell ∙ x.at_cell in
      let one : y.home ≡ x.home = cc in
      y.is_home ∙ ap Kept one

  -- by a cell with an end
  end_right : (c : ℕ) (e : End) → slice_get origin c ≡ Some (Ends e) → (p : Element) → IsElement m p → IsCellOf f p c → EndsAt m p e
  end_right c e h p exists is = go (a.back c (Ends e) h)
    where
      by_input : IsGivenCell f c (Ends e) → EndsAt m p e
      by_input g =
          let P : End → Type 0 = λ x. EndsAt m p x in
          let same_end : Ends e ≡ Ends (Input g.input.number (rank g.input.port.shape g.element.index)) = g.is in
          let one : e ≡ Input g.input.number (rank g.input.port.shape g.element.index) = cc in
          let homes : Kept g.element ≡ Kept is.home = sym (main_home m sound single g.element g.input) ∙ one_cell p g.element c is g.in_cell in
          let home : is.home ≡ g.element = cc in
          subst P (sym one) (main_ends m sound single p g.element exists (is.is_home ∙ ap Kept home) g.input)

      by_instance : (j : ℕ) (i : Instance) → slice_get (instances m) j ≡ Some i → (w : Element) → IsAmong (written_elements m i) w → IsCellOf f w c → IsLeadOf f j i w (Ends e) → EndsAt m p e
      by_instance j (Run place) at w written in_cell lead =
          let P : End → Type 0 = λ x. EndsAt m p x in
          let same_end : Ends e ≡ Ends (Made j lead.0 lead.1) = lead.3 in
          let one : e ≡ Made j lead.0 lead.1 = cc in
          subst P (sym one) (written_ends m sound single j (Run place) at w written p is.home exists is.is_home (one_cell p w c is in_cell) (Made j lead.0 lead.1) (run_ends m sound single j place at lead.0 lead.1 w lead.2))
      by_instance j (Copy place k s t) at w written in_cell lead = by_read lead.1 lead.3 lead.4
        where
          by_read : (read : Read) → IsReadOf f lead.0 read → Ends e ≡ lead_of read → EndsAt m p e
          by_read (Cell d) home eq = cc
          by_read (Const n) home eq =
              let P : End → Type 0 = λ x. EndsAt m p x in
              let one : e ≡ AtConst n = cc in
              let copy = copies_from m sound single place k s t (sound_is_real m sound j (Copy place k s t) at) w lead.0 written lead.2 in
              subst P (sym one)
              (written_ends m sound single j (Copy place k s t) at w written p is.home exists is.is_home (one_cell p w c is in_cell) (AtConst n)
              (ends_by_copying copy (number_ends m sound single lead.0 n copy.source home)))

      go : (Ends e ≡ Nowhere) ⊎ (IsGivenCell f c (Ends e) ⊎ ((j : ℕ) × IsFilled f j c (Ends e))) → EndsAt m p e
      go (inl none) = cc
      go (inr (inl g)) = by_input g
      go (inr (inr w)) = by_instance w.0 w.1.instance w.1.at w.1.element w.1.written w.1.in_cell w.1.is

  -- the cell that a copy reads, whose end is known
  record IsCopied (c d : ℕ) : Type 0 where
    target : Element
    source : Element
    copied : CopiedElement m target source
    in_cell : IsCellOf f target c
    from_cell : IsCellOf f source d
    number : ℕ
    instance : Instance
    at : slice_get (instances m) number ≡ Some instance
    written : IsAmong (written_elements m instance) target

  copy_right : (c d : ℕ) → slice_get origin c ≡ Some (Copies d) → IsCopied c d
  copy_right c d h = go (a.back c (Copies d) h)
    where
      by_instance : (j : ℕ) (i : Instance) → slice_get (instances m) j ≡ Some i → (w : Element) → IsAmong (written_elements m i) w → IsCellOf f w c → IsLeadOf f j i w (Copies d) → IsCopied c d
      by_instance j (Run place) at w written in_cell lead = let no : Copies d ≡ Ends (Made j lead.0 lead.1) = lead.3 in cc
      by_instance j (Copy place k s t) at w written in_cell lead = by_read lead.1 lead.3 lead.4
        where
          by_read : (read : Read) → IsReadOf f lead.0 read → Copies d ≡ lead_of read → IsCopied c d
          by_read (Const n) home eq = cc
          by_read (Cell x) home eq =
              let one : x ≡ d = cc in
              let P : ℕ → Type 0 = λ y. IsCellOf f lead.0 y in
              record {
                target = w;
                source = lead.0;
                copied = copies_from m sound single place k s t (sound_is_real m sound j (Copy place k s t) at) w lead.0 written lead.2;
                in_cell = in_cell;
                from_cell = subst P one home;
                number = j;
                instance = Copy place k s t;
                at = at;
                written = written;
              }

      go : (Copies d ≡ Nowhere) ⊎ (IsGivenCell f c (Copies d) ⊎ ((j : ℕ) × IsFilled f j c (Copies d))) → IsCopied c d
      go (inl none) = cc
      go (inr (inl g)) = let no : Copies d ≡ Ends (Input g.input.number (rank g.input.port.shape g.element.index)) = g.is in cc
      go (inr (inr w)) = by_instance w.0 w.1.instance w.1.at w.1.element w.1.written w.1.in_cell w.1.is

  cell_right : (c : ℕ) (e : End) → EndsFrom origin c e → (p : Element) → IsElement m p → IsCellOf f p c → EndsAt m p e
  cell_right c e (at_end h) p exists is = end_right c e h p exists is
  cell_right c e (by_copy {d = d} h g) p exists is =
      let k = copy_right c d h in
      let source = cell_right d e g k.source k.copied.source k.from_cell in
      written_ends m sound single k.number k.instance k.at k.target k.written p is.home exists is.is_home (one_cell p k.target c is k.in_cell) e (ends_by_copying k.copied source)

  read_right : (p : Element) (read : Read) → IsElement m p → IsReadOf f p read → (e : End) → end_of leads read ≡ Some e → EndsAt m p e
  read_right p (Const n) exists is e h =
      let one : AtConst n ≡ e = cc in
      let P : End → Type 0 = λ x. EndsAt m p x in
      subst P one (number_ends m sound single p n exists is)
  read_right p (Cell c) exists is e h = cell_right c e (r.ends c e (known_lead (slice_get leads c) e h)) p exists is

  pub all_ends : AreEnds f leads
  all_ends = record { many = r.many ∙ a.many; each = λ p read exists is e. (read_right p read exists is e, λ h. complete p e h read is) }
