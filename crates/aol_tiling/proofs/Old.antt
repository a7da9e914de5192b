-- What the rules say of the repetition that is tiled.
use Rattle.std.proofs.Common.{◌≡◌, ℕ, zero, subst, suc, ◌+◌, ◌≤◌, true, ◌==◌, List, [], ◌∷◌, ◌++◌, length, Option, Some, None, unwrap_or, sym, ◌∙◌, ap, refl, arith}
use Rattle.std.specs.List.{IsAmong, AllByRecursion}
use Rattle.std.proofs.lemmas.Bool.{eqb-true}
use Rattle.aol_shape.specs.Shape.{IsShape}
use Rattle.aol_tiler.specs.Tiler.{fits}
use Rattle.aol_model_types.specs.declared.document.Model.{Model}
use Rattle.aol_model_types.specs.declared.place.PlaceStep.{PlaceStep}
use Rattle.aol_model_types.specs.declared.task.Repeated.{Repeated}
use Rattle.aol_model_types.specs.declared.task.Task.{Task}
use Rattle.aol_model_types.specs.declared.task.Task.TheVariants as tasks
use Rattle.aol_model_types.specs.declared.task.TilerOn.{TilerOn}
use Rattle.aol_model_types.specs.Rules.{task_named, port_shape, fits_in, is_earlier_task}
use Rattle.aol_flat.specs.Accept.{IsSound}
use Rattle.aol_flat.proofs.Checked.{HoldsOfRepeated, of_repeated, task_of, named_earlier}
use Rattle.aol_flat.proofs.Names.{both-true}
use Rattle.aol_flat.proofs.Once.{there}
use Rattle.aol_flat.proofs.TilerRules.{tiled}
use Rattle.aol_change.specs.Blocks.{inputs_in, outputs_in, shape_in, inner_task, tilers_limit, shapes_limit, tilers_on, HasRoom}
use Rattle.aol_change.specs.Change.{have_rank}
use Rattle.aol_change.proofs.Room.{has_room, neither_limit}
use Rattle.aol_change.proofs.TilerForms.{fits_by}
use Rattle.aol_tiling.specs.Tiling.{CanBlock}

-- what holds of each member of a list
pub all_among : {X : Type 0} (P : X → Type 0) (xs : List X) → ((x : X) → IsAmong xs x → P x) → AllByRecursion P xs
all_among P [] f = tt
all_among P (x ∷ xs) f = (f x (0, (omega arith, refl)), all_among P xs (λ y a. f y (suc a.0, (omega (arith, a.1.0), a.1.1))))

pub one_of_all : {X : Type 0} (P : X → Type 0) (xs : List X) (x : X) → AllByRecursion P xs → IsAmong xs x → P x
one_of_all P [] x h a = absurd (omega (arith, a.1.0))
one_of_all P (y ∷ xs) x h (zero, a) = subst P (sym a.1) h.0
one_of_all P (y ∷ xs) x h (suc i, a) = one_of_all P xs x h.1 (i, (omega (arith, a.0), a.1))

-- a tiler of a repetition fits the array of its outer port and the shape of its inner port
pub record FitsPorts (inner : Option Task) (t : Repeated) (o : TilerOn) : Type 0 where
  pub array : List ℕ
  pub outside : port_shape (t.ins ++ t.outs) o.outer ≡ Some array
  pub inside : port_shape (inputs_in inner ++ outputs_in inner) o.inner ≡ Some (shape_in inner o.inner)
  pub fit : fits o.tiler array t.space (shape_in inner o.inner) ≡ true

pub fits_ports : (before : List Task) (place : List PlaceStep) (t : Repeated) (o : TilerOn) → HoldsOfRepeated before place t → IsAmong t.tilers o → FitsPorts (task_named before t.task) t o
fits_ports before place t o holds listed =
    let inner : Option Task = task_named before t.task in
    go (port_shape (t.ins ++ t.outs) o.outer) refl (port_shape (inputs_in inner ++ outputs_in inner) o.inner) refl (tiled before place t o holds listed).fits
  where
    go : (a : Option (List ℕ)) → port_shape (t.ins ++ t.outs) o.outer ≡ a → (p : Option (List ℕ)) → port_shape (inputs_in (task_named before t.task) ++ outputs_in (task_named before t.task)) o.inner ≡ p
        → fits_in o.tiler a t.space p ≡ true → FitsPorts (task_named before t.task) t o
    go None e p f h = cc
    go (Some array) e None f h = cc
    go (Some array) e (Some pattern) f h =
        let shape : shape_in (task_named before t.task) o.inner ≡ pattern = ap (λ s. unwrap_or s []) f in
        record { array = array; outside = e; inside = f ∙ ap (λ s. Some s) (sym shape); fit = ap (fits o.tiler array t.space) shape ∙ h }

-- the inner task is found before the repetition
pub inner_before : (m : Model) (before rest : List Task) (t : Repeated) → m.tasks ≡ before ++ tasks.Repeated t ∷ rest → is_earlier_task before t.task ≡ true
    → inner_task m t ≡ task_named before t.task
inner_before m before rest t split earlier =
    let u = there (task_named before t.task) earlier in
    named_earlier m before (tasks.Repeated t ∷ rest) t.task u.0 split u.1 ∙ sym u.1

-- the two spaces have the rank of the repetition's
pub ranks : (t : Repeated) (outer block : List ℕ) → have_rank t outer block ≡ true → (length outer ≡ length t.space) × (length block ≡ length t.space)
ranks t outer block h =
    let parts = both-true (length outer == length t.space) (length block == length t.space) h in
    (eqb-true (length outer) (length t.space) parts.0, eqb-true (length block) (length t.space) parts.1)

-- no shape of a port over the block passes a limit
pub shapes_within : (inner : Option Task) (tilers : List TilerOn) (block : List ℕ) → tilers_limit inner tilers block ≡ None
    → (shapes_limit inner block (tilers_on (inputs_in inner) tilers) ≡ None) × (shapes_limit inner block (tilers_on (outputs_in inner) tilers) ≡ None)
shapes_within inner tilers block h =
    let first = neither_limit (shapes_limit inner block (tilers_on (inputs_in inner) tilers)) _ h in
    (first.0, (neither_limit (shapes_limit inner block (tilers_on (outputs_in inner) tilers)) _ first.1).0)

-- each tiler can be made one of blocks
pub can_block_all : (m : Model) (t : Repeated) (outer block : List ℕ) → IsSound m → task_named m.tasks t.name ≡ Some (tasks.Repeated t) → have_rank t outer block ≡ true → IsShape block
    → tilers_limit (inner_task m t) t.tilers block ≡ None → AllByRecursion (λ (o : TilerOn). CanBlock block o.tiler) t.tilers
can_block_all m t outer block sound found rank is within =
    let r = task_of m (tasks.Repeated t) t.name sound.shapes found in
    let holds = of_repeated r.before r.place t r.holds in
    let inner : inner_task m t ≡ task_named r.before t.task = inner_before m r.before r.rest t r.split holds.inner in
    let limits = shapes_within (inner_task m t) t.tilers block within in
    let room : AllByRecursion (HasRoom (inner_task m t) block) t.tilers = has_room (inner_task m t) block is t.tilers limits.0 limits.1 in
    all_among (λ (o : TilerOn). CanBlock block o.tiler) t.tilers
    (λ o a.
    let f = fits_ports r.before r.place t o holds a in
    let by = fits_by o.tiler f.array t.space (shape_in (task_named r.before t.task) o.inner) f.fit in
    let few : length block + length (shape_in (inner_task m t) o.inner) ≤ 12 = one_of_all (HasRoom (inner_task m t) block) t.tilers o room a in
    let same : length (shape_in (inner_task m t) o.inner) ≡ length (shape_in (task_named r.before t.task) o.inner) = ap (λ i. length (shape_in i o.inner)) inner in
    let block_rank : length block ≡ length t.space = (ranks t outer block rank).1 in
    record { block_rank = block_rank ∙ sym by.paving; fitting_room = omega (arith, few, same, by.paving, by.fitting, block_rank) })
