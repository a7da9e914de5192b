-- Where the shapes of a model agree, the tilers and reshapes of its targets fit.
use Rattle.std.proofs.Common.{◌≡◌, ℕ, ◌+◌, List, [], ◌∷◌, ◌++◌, length, Bool, true, false, not, is_some, Option, Some, None, option_map, option_and_then, unwrap_or, slice_get, find, sym, ◌∙◌, ap, refl, arith, ◌⊎◌, inl, inr, subst}
use Rattle.std.specs.List.{AllByRecursion, IsAmong, list_any}
use Rattle.aol_shape.specs.Lists.{same}
use Rattle.aol_shape.specs.Shape.{IsShape}
use Rattle.aol_tiler.specs.Tiler.{fits}
use Rattle.aol_reshape.specs.Copies.{IsReshape}
use Rattle.aol_expr_tree.specs.declared.port.Port.{Port}
use Rattle.aol_model_types.specs.declared.document.Model.{Model}
use Rattle.aol_model_types.specs.declared.task.Compound.{Compound}
use Rattle.aol_model_types.specs.declared.task.Copied.{Copied}
use Rattle.aol_model_types.specs.declared.task.OutPort.{OutPort}
use Rattle.aol_model_types.specs.declared.task.Part.{Part}
use Rattle.aol_model_types.specs.declared.task.Repeated.{Repeated}
use Rattle.aol_model_types.specs.declared.task.Task.{Task}
use Rattle.aol_model_types.specs.declared.task.Task.TheVariants as tasks
use Rattle.aol_model_types.specs.Rules.{task_named, inputs_of, outputs_of, inputs_named, outputs_named, port_shape, part_named, same_part, to_shape, fits_in, is_earlier_task, is_new_part, part_checks, copied_checks, gives, takes, source_fits, target_fits}
use Rattle.aol_model_types.specs.declared.place.Key.TheVariants.{KParts, KReshapes}
use Rattle.aol_model_types.specs.Places.{to_key}
use Rattle.aol_model_types.specs.Types.{IsPort, IsOutPort, IsTask, IsCopied}
use Rattle.aol_flat.specs.Accept.{IsSound}
use Rattle.aol_flat.proofs.Among.{among_map, among_get, get_among}
use Rattle.aol_flat.proofs.Agree.{IsAmong-tail}
use Rattle.aol_flat.proofs.Given.{AllByRecursion-at}
use Rattle.aol_flat.proofs.Checked.{IsTaskOf, HoldsOfRepeated, HoldsOfCompound, member, task_numbered, task_of, named_earlier, of_repeated, of_compound, sides_apart}
use Rattle.aol_flat.proofs.Names.{both-true, same-self, same-equal, slice_get-right}
use Rattle.aol_flat.proofs.Once.{found_first}
use Rattle.aol_flat.proofs.Real.{fits_both}
use Rattle.aol_flat.proofs.Shapes.{found_port, shape_right, input_own, output_own}
use Rattle.aol_flat.proofs.TilerRules.{IsTiling, JoinsPorts, tiled, sides_of}
use Rattle.aol_assign.specs.Found.{TilerFits, TilersFit, ReshapeFits, ReshapesFit}

-- what holds of all holds of each member
all_among : {X : Type 0} (P : X → Type 0) (xs : List X) (x : X) → AllByRecursion P xs → IsAmong xs x → P x
all_among P xs x all a = AllByRecursion-at P xs a.0 x all (among_get xs a.0 x a.1.0 a.1.1)

-- a fact of each member
pub each_among : {X : Type 0} (P : X → Type 0) (xs : List X) → ((x : X) → IsAmong xs x → P x) → AllByRecursion P xs
each_among P [] each = tt
each_among P (x ∷ xs) each = (each x (0, (omega arith, refl)), each_among P xs (λ y a. each y (IsAmong-tail x xs y a)))

-- the ports of a task are within the limits
input_limits : (t : Task) (p : Port) → IsTask t → IsAmong (inputs_of t) p → IsShape p.shape
input_limits (tasks.Elementary e) p h a = all_among IsPort e.ins p h.ins a
input_limits (tasks.Compound c) p h a = all_among IsPort c.ins p h.ins a
input_limits (tasks.Repeated t) p h a = all_among IsPort t.ins p h.ins a

output_limits : (t : Task) (p : Port) → IsTask t → IsAmong (outputs_of t) p → IsShape p.shape
output_limits (tasks.Elementary e) p h a =
    let o = among_map (λ (o : OutPort). o.port) e.outs p a in
    let P : Port → Type 0 = λ q. IsShape q.shape in
    subst P (sym o.2) (all_among IsOutPort e.outs o.0 h.outs o.1).port
output_limits (tasks.Compound c) p h a = all_among IsPort c.outs p h.outs a
output_limits (tasks.Repeated t) p h a = all_among IsPort t.outs p h.outs a

module _ (m : Model) (sound : IsSound m) where
  pub limits_of : (k : ℕ) (t : Task) → slice_get m.tasks k ≡ Some t → IsTask t
  limits_of k t at = AllByRecursion-at IsTask m.tasks k t sound.read.model.tasks at

  pub task_limits : (t : Task) → IsTaskOf m t → IsTask t
  task_limits t s = limits_of (length s.before + 0) t (ap (λ ts. slice_get ts (length s.before + 0)) s.split ∙ slice_get-right s.before (t ∷ s.rest) 0)

  shape_there : (o : Option (List ℕ)) → is_some o ≡ true → (s : List ℕ) × (o ≡ Some s)
  shape_there None h = cc
  shape_there (Some s) h = (s, refl)

  -- ---- repeated tasks

  module _ (k : ℕ) (t : Repeated) (at : slice_get m.tasks k ≡ Some (tasks.Repeated t)) where
    of_task : IsTaskOf m (tasks.Repeated t)
    of_task = (task_numbered m (tasks.Repeated t) k sound.shapes at).0

    -- there is an inner task
    pub inner_there : is_some (task_named m.tasks t.task) ≡ true
    inner_there = go (task_named of_task.before t.task) refl (of_repeated of_task.before of_task.place t of_task.holds).inner
      where
        go : (o : Option Task) → task_named of_task.before t.task ≡ o → is_some o ≡ true → is_some (task_named m.tasks t.task) ≡ true
        go None e h = cc
        go (Some u) e h = ap is_some (named_earlier m of_task.before (tasks.Repeated t ∷ of_task.rest) t.task u of_task.split e)

    -- the tilers on an output fit
    pub tilers_fit : (inner : Task) → task_named m.tasks t.task ≡ Some inner → (y : Port) → IsAmong t.outs y → TilersFit t inner y
    tilers_fit inner named y a j o listed on = go (sides_of of_task.before t o rules)
      where
        holds : HoldsOfRepeated of_task.before of_task.place t
        holds = of_repeated of_task.before of_task.place t of_task.holds

        rules : IsTiling of_task.before t o
        rules = tiled of_task.before of_task.place t o holds (get_among t.tilers j o listed)

        outer : o.outer ≡ y.name
        outer = same-equal o.outer y.name on

        own : port_shape t.outs y.name ≡ Some y.shape
        own = output_own of_task.before of_task.place (tasks.Repeated t) y of_task.holds a

        no_input : is_some (port_shape t.ins y.name) ≡ false
        no_input = sides_apart of_task.before of_task.place (tasks.Repeated t) y.name of_task.holds (ap is_some own)

        earlier : task_named of_task.before t.task ≡ Some inner
        earlier = at_front (task_named of_task.before t.task) refl holds.inner
          where
            at_front : (p : Option Task) → task_named of_task.before t.task ≡ p → is_some p ≡ true → task_named of_task.before t.task ≡ Some inner
            at_front None e h = cc
            at_front (Some u) e h =
                let all = named_earlier m of_task.before (tasks.Repeated t ∷ of_task.rest) t.task u of_task.split e in
                let f : u ≡ inner = cc in
                e ∙ ap Some f

        inner_task : IsTaskOf m inner
        inner_task = task_of m inner t.task sound.shapes named

        go : JoinsPorts t.ins (inputs_named of_task.before t.task) o ⊎ JoinsPorts t.outs (outputs_named of_task.before t.task) o → TilerFits t inner y o
        go (inl sides) =
            let no : true ≡ false = sym sides.outside ∙ (ap (λ n. is_some (port_shape t.ins n)) outer ∙ no_input) in
            cc
        go (inr sides) =
            let inside : is_some (port_shape (outputs_of inner) o.inner) ≡ true = sym (ap (λ u. is_some (port_shape (unwrap_or (option_map outputs_of u) []) o.inner)) earlier) ∙ sides.inside in
            let shape = shape_there (port_shape (outputs_of inner) o.inner) inside in
            let apart : is_some (port_shape (inputs_of inner) o.inner) ≡ false = sides_apart inner_task.before inner_task.place inner o.inner inner_task.holds inside in
            let array : port_shape (t.ins ++ t.outs) o.outer ≡ Some y.shape = ap (port_shape (t.ins ++ t.outs)) outer ∙ shape_right t.ins t.outs y.name y.shape no_input own in
            let pattern : port_shape (inputs_named of_task.before t.task ++ outputs_named of_task.before t.task) o.inner ≡ Some shape.0 =
            ap (λ u. port_shape (unwrap_or (option_map inputs_of u) [] ++ unwrap_or (option_map outputs_of u) []) o.inner) earlier
            ∙ shape_right (inputs_of inner) (outputs_of inner) o.inner shape.0 apart shape.1 in
            let p = found_port (outputs_of inner) o.inner shape.0 shape.1 in
            record {
              pattern = shape.0;
              there = shape.1;
              fits =
                  sym (ap (λ s. fits_in o.tiler s t.space (port_shape (inputs_named of_task.before t.task ++ outputs_named of_task.before t.task) o.inner)) array
                  ∙ ap (λ s. fits_in o.tiler (Some y.shape) t.space s) pattern)
                  ∙ rules.fits;
              array_shape = output_limits (tasks.Repeated t) y (limits_of k (tasks.Repeated t) at) a;
              space_shape = (limits_of k (tasks.Repeated t) at).space;
              pattern_shape = subst IsShape p.3 (output_limits inner p.0 (task_limits inner inner_task) p.1);
            }

  -- ---- compound tasks

  module _ (k : ℕ) (c : Compound) (at : slice_get m.tasks k ≡ Some (tasks.Compound c)) where
    of_compound_task : IsTaskOf m (tasks.Compound c)
    of_compound_task = (task_numbered m (tasks.Compound c) k sound.shapes at).0

    compound_holds : HoldsOfCompound of_compound_task.before of_compound_task.place c
    compound_holds = of_compound of_compound_task.before of_compound_task.place c of_compound_task.holds

    -- the target tiler of a reshape fits the shape of its end
    target_of : (j : ℕ) (r : Copied) → slice_get c.reshapes j ≡ Some r
        → (array : List ℕ) × (to_shape of_compound_task.before c r.to ≡ Some array) × (fits r.by.target array r.by.space r.by.pattern ≡ true)
    target_of j r listed =
        let rules = member (copied_checks of_compound_task.before c) (to_key of_compound_task.place KReshapes) c.reshapes r compound_holds.reshapes (get_among c.reshapes j r listed) in
        let h6 = both-true (gives of_compound_task.before c r.from) _ rules.holds in
        let h7 = both-true (takes of_compound_task.before c r.to) _ h6.1 in
        let h11 = both-true (source_fits of_compound_task.before c r) _ h7.1 in
        let h12 = both-true (target_fits of_compound_task.before c r) true h11.1 in
        fits_both r.by.target (to_shape of_compound_task.before c r.to) r.by.space r.by.pattern h12.0

    reshape_limits : (j : ℕ) (r : Copied) → slice_get c.reshapes j ≡ Some r → IsReshape r.by
    reshape_limits j r listed = AllByRecursion-at IsCopied c.reshapes j r (limits_of k (tasks.Compound c) at).reshapes listed

    -- a reshape whose end has the port's shape fits it
    fits_port : (u : Port) (j : ℕ) (r : Copied) → slice_get c.reshapes j ≡ Some r → to_shape of_compound_task.before c r.to ≡ Some u.shape → IsShape u.shape → ReshapeFits u r
    fits_port u j r listed end shape =
        let target = target_of j r listed in
        let both : Some target.0 ≡ Some u.shape = sym target.1 ∙ end in
        let one : target.0 ≡ u.shape = cc in
        let limits = reshape_limits j r listed in
        record {
          fits = ap (λ s. fits r.by.target s r.by.space r.by.pattern) (sym one) ∙ target.2;
          array_shape = shape;
          space_shape = limits.space;
          pattern_shape = limits.pattern;
        }

    pub own_reshapes_fit : ReshapesFit c None c.outs
    own_reshapes_fit u j r a listed into on =
        let own : port_shape c.outs u.name ≡ Some u.shape = output_own of_compound_task.before of_compound_task.place (tasks.Compound c) u of_compound_task.holds a in
        let part : r.to.part ≡ None = no_part r.to.part into in
        fits_port u j r listed
        (ap (λ o. to_shape of_compound_task.before c (record { part = o; port = r.to.port })) part ∙ (ap (port_shape c.outs) (same-equal r.to.port u.name on) ∙ own))
        (output_limits (tasks.Compound c) u (limits_of k (tasks.Compound c) at) a)
      where
        no_part : (o : Option (List ℕ)) → same_part o None ≡ true → o ≡ None
        no_part None h = refl
        no_part (Some x) h = cc

    -- the part of a name is the one with that name
    part_found : (p : Part) → IsAmong c.parts p → part_named c p.name ≡ Some p
    part_found p a =
        let r = member (part_checks of_compound_task.before) (to_key of_compound_task.place KParts) c.parts p compound_holds.parts a in
        let new : is_new_part r.before p ≡ true = (both-true (is_new_part r.before p) _ r.holds).0 in
        ap (find (λ (q : Part). same q.name p.name)) r.split
        ∙ found_first (λ (q : Part). same q.name p.name) r.before p r.rest (not_true (list_any (λ (q : Part). same q.name p.name) r.before) new) (same-self p.name)
      where
        not_true : (b : Bool) → not b ≡ true → b ≡ false
        not_true false h = refl
        not_true true h = cc

    part_earlier : (p : Part) → IsAmong c.parts p → is_some (task_named of_compound_task.before p.task) ≡ true
    part_earlier p a =
        let r = member (part_checks of_compound_task.before) (to_key of_compound_task.place KParts) c.parts p compound_holds.parts a in
        (both-true (is_earlier_task of_compound_task.before p.task) true (both-true (is_new_part r.before p) _ r.holds).1).0

    pub part_reshapes_fit : (p : Part) → IsAmong c.parts p → ReshapesFit c (Some p.name) (inputs_named m.tasks p.task)
    part_reshapes_fit p a u j r among listed into on = go (task_named of_compound_task.before p.task) refl (part_earlier p a)
      where
        some_part : (o : Option (List ℕ)) → same_part o (Some p.name) ≡ true → o ≡ Some p.name
        some_part None h = cc
        some_part (Some x) h = ap Some (same-equal x p.name h)

        go : (o : Option Task) → task_named of_compound_task.before p.task ≡ o → is_some o ≡ true → ReshapeFits u r
        go None e h = cc
        go (Some v) e h =
            let all : task_named m.tasks p.task ≡ Some v = named_earlier m of_compound_task.before (tasks.Compound c ∷ of_compound_task.rest) p.task v of_compound_task.split e in
            let P : List Port → Type 0 = λ ports. IsAmong ports u in
            let listed_in : IsAmong (inputs_of v) u = subst P (ap (λ o. unwrap_or (option_map inputs_of o) []) all) among in
            let s = task_of m v p.task sound.shapes all in
            let own : port_shape (inputs_of v) u.name ≡ Some u.shape = input_own s.before s.place v u s.holds listed_in in
            fits_port u j r listed
            (ap (λ o. to_shape of_compound_task.before c (record { part = o; port = r.to.port })) (some_part r.to.part into)
            ∙ (ap (option_and_then (λ (q : Part). port_shape (inputs_named of_compound_task.before q.task) r.to.port)) (part_found p a)
            ∙ (ap (λ o. port_shape (unwrap_or (option_map inputs_of o) []) r.to.port) e
            ∙ (ap (port_shape (inputs_of v)) (same-equal r.to.port u.name on) ∙ own))))
            (input_limits v u (task_limits v s) listed_in)
