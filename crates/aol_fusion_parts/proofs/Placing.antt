-- The tilers of the first repetition can be placed, and the ports counted.
use Rattle.std.proofs.Common.{◌≡◌, ℕ, zero, suc, ◌<◌, ◌≤◌, ◌^◌, Bool, true, false, cond, ◌&&◌, ◌==◌, List, [], ◌∷◌, ◌++◌, length, filter, Option, Some, None, sym, ◌∙◌, ap, refl, arith, subst}
use Rattle.std.specs.List.{IsAmong, AllByRecursion}
use Rattle.aol_shape.specs.Lists.{same}
use Rattle.aol_tiler.specs.Matrices.{TilerOf}
use Rattle.aol_tiler.specs.Tiler.{fits, is_over, has_entries}
use Rattle.aol_expr_tree.specs.declared.port.Port.{Port}
use Rattle.aol_model_types.specs.declared.document.Model.{Model}
use Rattle.aol_model_types.specs.declared.task.Repeated.{Repeated}
use Rattle.aol_model_types.specs.declared.task.Task.{Task}
use Rattle.aol_model_types.specs.declared.task.Task.TheVariants as tasks
use Rattle.aol_model_types.specs.declared.task.TilerOn.{TilerOn}
use Rattle.aol_model_types.specs.Rules.{task_name, task_named, inputs_of, outputs_of, inputs_named, port_shape, fits_in}
use Rattle.aol_model_types.specs.Types.{IsTask}
use Rattle.aol_flat.specs.Accept.{IsSound}
use Rattle.aol_flat.specs.Home.{tiler_at}
use Rattle.aol_flat.proofs.Checked.{of_repeated, task_of, named_earlier}
use Rattle.aol_flat.proofs.Names.{both-true, same-equal}
use Rattle.aol_flat.proofs.Once.{there, found_among}
use Rattle.aol_flat.proofs.Shapes.{input_own, shape_left}
use Rattle.aol_flat.proofs.Sites.{find-passes}
use Rattle.aol_flat.proofs.TilerRules.{tiled}
use Rattle.aol_change.specs.Blocks.{inputs_in, outputs_in}
use Rattle.aol_change.proofs.TilerForms.{fits_by}
use Rattle.aol_fusion_parts.specs.declared.ports.FusedPorts.{FusedPorts}
use Rattle.aol_fusion_parts.specs.Fuse.{Fusing, fused_ports, is_formed}
use Rattle.aol_fusion_parts.specs.Made.{over_limit}
use Rattle.aol_fusion_parts.specs.Ready.{AreFound, IsReady, IsFew, CanPlaceAll}
use Rattle.aol_fusion_parts.specs.Room.{HasPlace, CanPlace}
use Rattle.aol_fusion_parts.proofs.Parts.{have_place}

-- ---- lists

-- what holds of each member
pub one_of_all : {X : Type 0} (P : X → Type 0) (xs : List X) (x : X) → AllByRecursion P xs → IsAmong xs x → P x
one_of_all P [] x h a = absurd (omega (arith, a.1.0))
one_of_all P (y ∷ xs) x h (zero, a) = subst P (sym a.1) h.0
one_of_all P (y ∷ xs) x h (suc i, a) = one_of_all P xs x h.1 (i, (omega (arith, a.0), a.1))

pub all_among : {X : Type 0} (P : X → Type 0) (xs : List X) → ((x : X) → IsAmong xs x → P x) → AllByRecursion P xs
all_among P [] f = tt
all_among P (x ∷ xs) f = (f x (0, (omega arith, refl)), all_among P xs (λ y a. f y (suc a.0, (omega (arith, a.1.0), a.1.1))))

pub filter_le : {X : Type 0} (keep : X → Bool) (xs : List X) → length (filter keep xs) ≤ length xs
filter_le keep [] = omega arith
filter_le keep (x ∷ xs) = go (keep x) (filter_le keep xs)
  where
    go : (b : Bool) → length (filter keep xs) ≤ length xs → length (cond b (x ∷ filter keep xs) (filter keep xs)) ≤ suc (length xs)
    go true h = omega (arith, h)
    go false h = omega (arith, h)

-- ---- tasks of a sound model

-- a task that is found is within the limits
pub task_within : (m : Model) (name : List ℕ) (u : Task) → IsSound m → task_named m.tasks name ≡ Some u → IsTask u
task_within m name u sound found = one_of_all IsTask m.tasks u sound.read.model.tasks (found_among (λ (v : Task). same (task_name v) name) m.tasks u found)

ins_counted : (u : Task) → IsTask u → length (inputs_of u) < 2 ^ 32
ins_counted (tasks.Elementary e) h = h.in_count
ins_counted (tasks.Compound c) h = h.in_count
ins_counted (tasks.Repeated r) h = h.in_count

-- the inner task of a repetition is there
pub inner_there : (m : Model) (t : Repeated) → IsSound m → task_named m.tasks t.name ≡ Some (tasks.Repeated t) → (u : Task) × (task_named m.tasks t.task ≡ Some u)
inner_there m t sound found =
    let r = task_of m (tasks.Repeated t) t.name sound.shapes found in
    let holds = of_repeated r.before r.place t r.holds in
    let u = there (task_named r.before t.task) holds.inner in
    (u.0, named_earlier m r.before (tasks.Repeated t ∷ r.rest) t.task u.0 r.split u.1)

pub inputs_counted : (m : Model) (t : Repeated) → IsSound m → task_named m.tasks t.name ≡ Some (tasks.Repeated t) → length (inputs_named m.tasks t.task) < 2 ^ 32
inputs_counted m t sound found =
    let u = inner_there m t sound found in
    let few : length (inputs_of u.0) < 2 ^ 32 = ins_counted u.0 (task_within m t.task u.0 sound u.1) in
    let same_ports : length (inputs_named m.tasks t.task) ≡ length (inputs_of u.0) = ap (λ o. length (inputs_in o)) u.1 in
    omega (arith, few, same_ports)

-- ---- what a tiler on an inner input says

-- a tiler fits the space of its repetition and the shape of the inner input
pub record FitsInput (t : Repeated) (o : TilerOn) (u : Port) : Type 0 where
  pub listed : IsAmong t.tilers o
  pub named : o.inner ≡ u.name
  pub array : List ℕ
  pub outside : port_shape (t.ins ++ t.outs) o.outer ≡ Some array
  pub fit : fits o.tiler array t.space u.shape ≡ true

pub fits_input : (m : Model) (t : Repeated) (o : TilerOn) (u : Port) → IsSound m → task_named m.tasks t.name ≡ Some (tasks.Repeated t) → IsAmong (inputs_named m.tasks t.task) u → tiler_at t u.name ≡ Some o → FitsInput t o u
fits_input m t o u sound found listed at =
    let test : TilerOn → Bool = λ e. same e.inner u.name in
    let a : IsAmong t.tilers o = found_among test t.tilers o at in
    let named : o.inner ≡ u.name = same-equal o.inner u.name (find-passes test t.tilers o at) in
    let r = task_of m (tasks.Repeated t) t.name sound.shapes found in
    let holds = of_repeated r.before r.place t r.holds in
    let v = there (task_named r.before t.task) holds.inner in
    let all : task_named m.tasks t.task ≡ Some v.0 = named_earlier m r.before (tasks.Repeated t ∷ r.rest) t.task v.0 r.split v.1 in
    let of_inner = task_of m v.0 t.task sound.shapes all in
    let P : List Port → Type 0 = λ ps. IsAmong ps u in
    let own : port_shape (inputs_of v.0) u.name ≡ Some u.shape = input_own of_inner.before of_inner.place v.0 u of_inner.holds (subst P (ap inputs_in all) listed) in
    let both : port_shape (inputs_of v.0 ++ outputs_of v.0) u.name ≡ Some u.shape = shape_left (inputs_of v.0) (outputs_of v.0) u.name u.shape own in
    let inside : port_shape (inputs_in (task_named r.before t.task) ++ outputs_in (task_named r.before t.task)) o.inner ≡ Some u.shape =
    ap (λ i. port_shape (inputs_in i ++ outputs_in i) o.inner) v.1 ∙ (ap (port_shape (inputs_of v.0 ++ outputs_of v.0)) named ∙ both) in
    go (port_shape (t.ins ++ t.outs) o.outer) refl a named (port_shape (inputs_in (task_named r.before t.task) ++ outputs_in (task_named r.before t.task)) o.inner) inside (tiled r.before r.place t o holds a).fits
  where
    open_fit : (s : List ℕ) → Some s ≡ Some u.shape → s ≡ u.shape
    open_fit s e = cc

    go : (x : Option (List ℕ)) → port_shape (t.ins ++ t.outs) o.outer ≡ x → IsAmong t.tilers o → o.inner ≡ u.name → (y : Option (List ℕ)) → y ≡ Some u.shape → fits_in o.tiler x t.space y ≡ true → FitsInput t o u
    go None e a n y k h = cc
    go (Some array) e a n None k h = cc
    go (Some array) e a n (Some s) k h = record { listed = a; named = n; array = array; outside = e; fit = ap (fits o.tiler array t.space) (sym (open_fit s k)) ∙ h }

-- ---- placing

over_of : (t : TilerOf) (array space pattern : List ℕ) → fits t array space pattern ≡ true → has_entries t (length array) ≡ true
over_of t array space pattern h =
    (both-true (is_over t array) (length t.paving == length space) (both-true (is_over t array && length t.paving == length space) (length t.fitting == length pattern) h).0).0

-- the proposed tiler fits both spaces
pub tiler_fits_spaces : (f : Fusing) → is_formed f ≡ true → fits f.args.tiler f.one.space f.two.space f.args.block ≡ true
tiler_fits_spaces f h = (both-true _ (fits f.args.tiler f.one.space f.two.space f.args.block) (both-true _ _ h).0).1

can_place : (f : Fusing) (u : Port) → AreFound f → is_formed f ≡ true → IsAmong (fused_ports f).first_ins u → HasPlace f.args.block u → CanPlace f.one f.args.tiler u
can_place f u found formed listed room o at =
    let i = fits_input f.model f.one o u found.sound found.one listed at in
    let by = fits_by o.tiler i.array f.one.space u.shape i.fit in
    let proposed = tiler_fits_spaces f formed in
    let t = fits_by f.args.tiler f.one.space f.two.space f.args.block proposed in
    record {
      even = ap (has_entries o.tiler) by.origin ∙ over_of o.tiler i.array f.one.space u.shape i.fit;
      by_even = ap (has_entries f.args.tiler) by.paving ∙ over_of f.args.tiler f.one.space f.two.space f.args.block proposed;
      fitting_room = omega (arith, room, by.fitting, t.fitting);
    }

pub can_place_all : (f : Fusing) (p : FusedPorts) → IsReady f p → CanPlaceAll f.args f.one p
can_place_all f p ready none =
    let Q : List Port → Type 0 = λ ps. AllByRecursion (CanPlace f.one f.args.tiler) ps in
    let ins : p.first_ins ≡ (fused_ports f).first_ins = ap (λ (x : FusedPorts). x.first_ins) ready.ports in
    let rooms : AllByRecursion (HasPlace f.args.block) (fused_ports f).first_ins = have_place f.args.block (fused_ports f).first_ins (sym (ap (over_limit f.args.block) ins) ∙ none) in
    subst Q (sym ins)
    (all_among (CanPlace f.one f.args.tiler) (fused_ports f).first_ins
    (λ u a. can_place f u ready.found ready.formed a (one_of_all (HasPlace f.args.block) (fused_ports f).first_ins u rooms a)))

pub is_few : (f : Fusing) (p : FusedPorts) → IsReady f p → IsFew f.one p
is_few f p ready =
    let one = task_within f.model f.one.name (tasks.Repeated f.one) ready.found.sound ready.found.one in
    let two = task_within f.model f.two.name (tasks.Repeated f.two) ready.found.sound ready.found.two in
    let ins : length f.one.ins < 2 ^ 32 = ins_counted (tasks.Repeated f.one) one in
    let two_ins : length f.two.ins < 2 ^ 32 = ins_counted (tasks.Repeated f.two) two in
    let first : length (fused_ports f).first_ins < 2 ^ 32 = inputs_counted f.model f.one ready.found.sound ready.found.one in
    let second : length (fused_ports f).second_ins < 2 ^ 32 = inputs_counted f.model f.two ready.found.sound ready.found.two in
    let Q : FusedPorts → Type 0 = λ x. IsFew f.one x in
    let unjoined : length (fused_ports f).unjoined ≤ length f.two.ins = filter_le _ f.two.ins in
    let free : length (fused_ports f).free_ins ≤ length (fused_ports f).second_ins = filter_le _ (fused_ports f).second_ins in
    subst Q (sym ready.ports) (record { outside = omega (arith, ins, two_ins, unjoined); inside = omega (arith, first, second, free) })
