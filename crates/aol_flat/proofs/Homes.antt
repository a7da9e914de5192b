-- What is followed keeps its home, so settled stored values make a solution.
use Rattle.std.proofs.Common.{◌≡◌, ℕ, ℤ, List, [], ◌∷◌, Some, None, Option, unwrap_or, sym, ◌∙◌, ap, refl}
use Rattle.aol_tiler.specs.Tiler.{address_point}
use Rattle.aol_link.specs.declared.link.Choice.{Choice}
use Rattle.aol_link.specs.declared.link.Interlink.{Interlink}
use Rattle.aol_link.specs.Links.{source_repetition}
use Rattle.aol_model_types.specs.declared.document.Model.{Model}
use Rattle.aol_model_types.specs.declared.task.Compound.{Compound}
use Rattle.aol_model_types.specs.declared.task.Plain.{Plain}
use Rattle.aol_model_types.specs.declared.task.Repeated.{Repeated}
use Rattle.aol_model_types.specs.declared.task.Task.TheVariants as tasks
use Rattle.aol_model_types.specs.declared.task.TilerOn.{TilerOn}
use Rattle.aol_model_types.specs.Rules.{port_shape}
use Rattle.aol_flat.specs.Tasks.{part_number}
use Rattle.aol_flat.specs.Place.{Place, Element, IntoPart, IntoRepetition, task_at, end_element, instance_of_end}
use Rattle.aol_flat.specs.Equation.{PartInput, OwnOutput, TiledInput, EarlierOutput, DefaultNumber, DefaultElement, OuterOutput}
use Rattle.aol_flat.specs.Need.{by_part_input, by_own_output, by_tiled_input, by_link, by_default, by_outer_output}
use Rattle.aol_flat.specs.Home.{Output, Kept, Constant, origin, origin_home, handed, home_of, part_origin, repetition_origin, end_origin, linked_origin, tiled_origin, source_origin, link_origin, choice_origin, fallback_origin, default_choice, link_handed, tiler_handed, part_handed, repetition_handed, link_into_part, link_up, tiler_at, link_into_repetition}
use Rattle.aol_flat.specs.Net.{element_value}
use Rattle.aol_flat.specs.Wired.{IsInput, IsOutput, IsWired}
use Rattle.aol_flat.specs.Followed.{FollowedHomes, SettledIsSolution}

-- ---- the two halves of a home

pub input_home : (m : Model) (e : Element) → IsInput m e → home_of m e ≡ origin_home m (origin m e.place e.port e.index)
input_home m e h = rw h

pub output_home : (m : Model) (e : Element) → IsOutput m e → home_of m e ≡ Kept (handed m e.place e.port e.index)
output_home m e h = rw h

-- ---- one step of following

pub part_step : (m : Model) (c : Compound) (up : Place) (k : ℕ) (u x : List ℕ) (l : Plain) → task_at m up ≡ Some (tasks.Compound c) → link_into_part c k u ≡ Some l
    → origin m (IntoPart k ∷ up) u x ≡ end_origin c up x (origin m up) l.from.port l.from.part
part_step m c up k u x l h f =
    ap (λ t. part_origin t up k u x (origin m up)) h ∙ ap (linked_origin c up k u x (origin m up)) f

pub tiled_step : (m : Model) (t : Repeated) (up : Place) (r x array : List ℕ) (o : TilerOn) → task_at m up ≡ Some (tasks.Repeated t) → tiler_at t o.inner ≡ Some o
    → port_shape t.ins o.outer ≡ Some array → origin m (IntoRepetition r ∷ up) o.inner x ≡ origin m up o.outer (address_point o.tiler array r x)
tiled_step m t up r x array o h f g =
    ap (λ u. repetition_origin u up r o.inner x (origin m up)) h
    ∙ (ap (tiled_origin t up r o.inner x (origin m up)) f
    ∙ ap (λ (a : Option (List ℕ)). origin m up o.outer (address_point o.tiler (unwrap_or a []) r x)) g)

pub inner_step : (m : Model) (t : Repeated) (up : Place) (r x : List ℕ) (l : Interlink) → task_at m up ≡ Some (tasks.Repeated t) → tiler_at t l.to ≡ None
    → link_into_repetition t l.to ≡ Some l → origin m (IntoRepetition r ∷ up) l.to x ≡ source_origin t up r x (origin m up) l (source_repetition l.wrap l.distance t.space r)
inner_step m t up r x l h f g =
    ap (λ u. repetition_origin u up r l.to x (origin m up)) h ∙ (ap (tiled_origin t up r l.to x (origin m up)) f ∙ ap (link_origin t up r x (origin m up)) g)

pub link_step : (m : Model) (t : Repeated) (up : Place) (r source x : List ℕ) (l : Interlink) → task_at m up ≡ Some (tasks.Repeated t) → tiler_at t l.to ≡ None
    → link_into_repetition t l.to ≡ Some l → source_repetition l.wrap l.distance t.space r ≡ Some source
    → origin m (IntoRepetition r ∷ up) l.to x ≡ Output (record { place = IntoRepetition source ∷ up; port = l.from; index = x })
link_step m t up r source x l h f g k = inner_step m t up r x l h f g ∙ ap (source_origin t up r x (origin m up) l) k

pub default_step : (m : Model) (t : Repeated) (up : Place) (r x : List ℕ) (l : Interlink) (choice : Choice) → task_at m up ≡ Some (tasks.Repeated t) → tiler_at t l.to ≡ None
    → link_into_repetition t l.to ≡ Some l → source_repetition l.wrap l.distance t.space r ≡ None → default_choice l t.space r ≡ Some choice
    → origin m (IntoRepetition r ∷ up) l.to x ≡ fallback_origin t r x (origin m up) choice.take
default_step m t up r x l choice h a b c d =
    inner_step m t up r x l h a b ∙ (ap (source_origin t up r x (origin m up) l) c ∙ ap (choice_origin t r x (origin m up)) d)

pub up_step : (m : Model) (c : Compound) (up : Place) (k : ℕ) (y x : List ℕ) (l : Plain) → task_at m up ≡ Some (tasks.Compound c) → link_up c k y ≡ Some l
    → handed m (IntoPart k ∷ up) y x ≡ handed m up l.to.port x
up_step m c up k y x l h f =
    ap (λ t. part_handed t up k y x (handed m up)) h ∙ ap (link_handed (record { place = IntoPart k ∷ up; port = y; index = x }) x (handed m up)) f

pub outer_step : (m : Model) (t : Repeated) (up : Place) (r x array : List ℕ) (o : TilerOn) → task_at m up ≡ Some (tasks.Repeated t) → tiler_at t o.inner ≡ Some o
    → port_shape t.outs o.outer ≡ Some array → handed m (IntoRepetition r ∷ up) o.inner x ≡ handed m up o.outer (address_point o.tiler array r x)
outer_step m t up r x array o h f g =
    ap (λ u. repetition_handed u up r o.inner x (handed m up)) h
    ∙ (ap (tiler_handed t (record { place = IntoRepetition r ∷ up; port = o.inner; index = x }) r x (handed m up)) f
    ∙ ap (λ (a : Option (List ℕ)). handed m up o.outer (address_point o.tiler (unwrap_or a []) r x)) g)

-- ---- each kind of equation

same_input : (m : Model) (p q : Element) → IsInput m p → IsInput m q → origin m p.place p.port p.index ≡ origin m q.place q.port q.index → home_of m p ≡ home_of m q
same_input m p q hp hq e = input_home m p hp ∙ (ap (origin_home m) e ∙ sym (input_home m q hq))

input_of_output : (m : Model) (p q : Element) → IsInput m p → IsOutput m q → origin m p.place p.port p.index ≡ Output q → home_of m p ≡ home_of m q
input_of_output m p q hp hq e = input_home m p hp ∙ (ap (origin_home m) e ∙ sym (output_home m q hq))

same_output : (m : Model) (p q : Element) → IsOutput m p → IsOutput m q → handed m q.place q.port q.index ≡ handed m p.place p.port p.index → home_of m p ≡ home_of m q
same_output m p q hp hq e = output_home m p hp ∙ (ap (λ x. Kept x) (sym e) ∙ sym (output_home m q hq))

-- an equation on the place, port and index of an element that is written out
origin_at : (m : Model) (p r : Element) → p ≡ r → origin m p.place p.port p.index ≡ origin m r.place r.port r.index
origin_at m p r e = ap (λ (x : Element). origin m x.place x.port x.index) e

handed_at : (m : Model) (p r : Element) → p ≡ r → handed m p.place p.port p.index ≡ handed m r.place r.port r.index
handed_at m p r e = ap (λ (x : Element). handed m x.place x.port x.index) e

instance_of_part : (c : Compound) (up : Place) (o : Option (List ℕ)) (name : List ℕ) → o ≡ Some name → instance_of_end c up o ≡ IntoPart (part_number c name) ∷ up
instance_of_part c up o name e = ap (instance_of_end c up) e

part_input_homes : (m : Model) → IsWired m → (p q : Element) → PartInput m p q → home_of m p ≡ home_of m q
part_input_homes m wired p q f = go f.link.from.part refl
  where
    start : origin m p.place p.port p.index ≡ end_origin f.task f.up p.index (origin m f.up) f.link.from.port f.link.from.part
    start =
        origin_at m p (end_element f.task f.up f.link.to p.index) f.left
        ∙ (ap (λ place. origin m place f.link.to.port p.index) (instance_of_part f.task f.up f.link.to.part f.part f.into_part)
        ∙ part_step m f.task f.up (part_number f.task f.part) f.link.to.port p.index f.link f.at_place (wired.link_in f.up f.task f.link f.part f.at_place f.listed f.into_part))

    go : (o : Option (List ℕ)) → f.link.from.part ≡ o → home_of m p ≡ home_of m q
    go None e =
        same_input m p q (wired.part_input p q f) (wired.part_input_own p q f e)
        (start ∙ (ap (end_origin f.task f.up p.index (origin m f.up) f.link.from.port) e
        ∙ (ap (λ place. origin m place f.link.from.port p.index) (ap (instance_of_end f.task f.up) (sym e)) ∙ sym (origin_at m q (end_element f.task f.up f.link.from p.index) f.right))))
    go (Some name) e =
        input_of_output m p q (wired.part_input p q f) (wired.part_input_part p q f name e)
        (start ∙ (ap (end_origin f.task f.up p.index (origin m f.up) f.link.from.port) e
        ∙ (ap (λ place. Output (record { place = place; port = f.link.from.port; index = p.index })) (ap (instance_of_end f.task f.up) (sym e)) ∙ ap (λ x. Output x) (sym f.right))))

own_output_homes : (m : Model) → IsWired m → (p q : Element) → OwnOutput m p q → home_of m p ≡ home_of m q
own_output_homes m wired p q f =
    let sides = wired.own_output p q f in
    let from = wired.from_part p.place f.task f.link f.at_place f.listed f.into_own in
    same_output m p q sides.0 sides.1
    (handed_at m q (end_element f.task p.place f.link.from p.index) f.right
    ∙ (ap (λ place. handed m place f.link.from.port p.index) (instance_of_part f.task p.place f.link.from.part from.0 from.1)
    ∙ (up_step m f.task p.place (part_number f.task from.0) f.link.from.port p.index f.link f.at_place (wired.link_out p.place f.task f.link from.0 f.at_place f.listed f.into_own from.1)
    ∙ (ap (λ place. handed m place f.link.to.port p.index) (ap (instance_of_end f.task p.place) (sym f.into_own)) ∙ sym (handed_at m p (end_element f.task p.place f.link.to p.index) f.left)))))

tiled_input_homes : (m : Model) → IsWired m → (p q : Element) → TiledInput m p q → home_of m p ≡ home_of m q
tiled_input_homes m wired p q f =
    let sides = wired.tiled_input p q f in
    same_input m p q sides.0 sides.1
    (origin_at m p (record { place = IntoRepetition f.repetition ∷ f.up; port = f.tiling.inner; index = p.index }) f.left
    ∙ (tiled_step m f.task f.up f.repetition p.index f.array f.tiling f.at_place (wired.tiler f.up f.task f.tiling f.at_place f.listed) f.outer_shape
    ∙ sym (origin_at m q (record { place = f.up; port = f.tiling.outer; index = address_point f.tiling.tiler f.array f.repetition p.index }) f.right)))

earlier_homes : (m : Model) → IsWired m → (p q : Element) → EarlierOutput m p q → home_of m p ≡ home_of m q
earlier_homes m wired p q f =
    let sides = wired.earlier p q f in
    let l = f.linked in
    input_of_output m p q sides.0 sides.1
    (origin_at m p (record { place = IntoRepetition l.repetition ∷ l.up; port = l.link.to; index = p.index }) l.left
    ∙ (link_step m l.task l.up l.repetition f.source p.index l.link l.at_place (wired.untiled l.up l.task l.link l.at_place l.listed) (wired.link_inside l.up l.task l.link l.at_place l.listed) f.in_space
    ∙ ap (λ x. Output x) (sym f.right)))

default_homes : (m : Model) → IsWired m → (p q : Element) → DefaultElement m p q → home_of m p ≡ home_of m q
default_homes m wired p q f =
    let sides = wired.default_element p q f in
    let l = f.linked in
    same_input m p q sides.0 sides.1
    (origin_at m p (record { place = IntoRepetition l.repetition ∷ l.up; port = l.link.to; index = p.index }) l.left
    ∙ (default_step m l.task l.up l.repetition p.index l.link f.choice l.at_place (wired.untiled l.up l.task l.link l.at_place l.listed)
    (wired.link_inside l.up l.task l.link l.at_place l.listed) f.outside f.chosen
    ∙ (ap (fallback_origin l.task l.repetition p.index (origin m l.up)) f.takes
    ∙ (ap (λ (a : Option (List ℕ)). origin m l.up f.outer (address_point f.tiler (unwrap_or a []) l.repetition p.index)) f.outer_shape
    ∙ sym (origin_at m q (record { place = l.up; port = f.outer; index = address_point f.tiler f.array l.repetition p.index }) f.right)))))

outer_output_homes : (m : Model) → IsWired m → (p q : Element) → OuterOutput m p q → home_of m p ≡ home_of m q
outer_output_homes m wired p q f =
    let sides = wired.outer_output p q f in
    same_output m p q sides.0 sides.1
    (handed_at m q (record { place = IntoRepetition f.repetition ∷ p.place; port = f.tiling.inner; index = q.index }) f.right
    ∙ (outer_step m f.task p.place f.repetition q.index f.array f.tiling f.at_place (wired.tiler p.place f.task f.tiling f.at_place f.listed) f.outer_shape
    ∙ sym (handed_at m p (record { place = p.place; port = f.tiling.outer; index = address_point f.tiling.tiler f.array f.repetition q.index }) f.left)))

pub followed_homes : FollowedHomes
followed_homes m wired p q (by_part_input f) = part_input_homes m wired p q f
followed_homes m wired p q (by_own_output f) = own_output_homes m wired p q f
followed_homes m wired p q (by_tiled_input f) = tiled_input_homes m wired p q f
followed_homes m wired p q (by_link f) = earlier_homes m wired p q f
followed_homes m wired p q (by_default f) = default_homes m wired p q f
followed_homes m wired p q (by_outer_output f) = outer_output_homes m wired p q f

pub default_number_home : (m : Model) → IsWired m → (p : Element) (n : ℤ) → DefaultNumber m p n → home_of m p ≡ Constant n
default_number_home m wired p n f =
    let l = f.linked in
    input_home m p (wired.default_number p n f)
    ∙ ap (origin_home m)
    (origin_at m p (record { place = IntoRepetition l.repetition ∷ l.up; port = l.link.to; index = p.index }) l.left
    ∙ (default_step m l.task l.up l.repetition p.index l.link f.choice l.at_place (wired.untiled l.up l.task l.link l.at_place l.listed)
    (wired.link_inside l.up l.task l.link l.at_place l.listed) f.outside f.chosen
    ∙ ap (fallback_origin l.task l.repetition p.index (origin m l.up)) f.takes))

pub settled_is_solution : SettledIsSolution
settled_is_solution m inputs at_home wired settled = record {
  main_input = settled.main_input;
  elementary_output = settled.elementary_output;
  part_input = λ p q f. ap (element_value at_home) (followed_homes m wired p q (by_part_input f));
  own_output = λ p q f. ap (element_value at_home) (followed_homes m wired p q (by_own_output f));
  tiled_input = λ p q f. ap (element_value at_home) (followed_homes m wired p q (by_tiled_input f));
  linked_input = λ p q f. ap (element_value at_home) (followed_homes m wired p q (by_link f));
  default_number = λ p n f. ap (element_value at_home) (default_number_home m wired p n f);
  default_element = λ p q f. ap (element_value at_home) (followed_homes m wired p q (by_default f));
  outer_output = λ p q f. ap (element_value at_home) (followed_homes m wired p q (by_outer_output f));
  copied = settled.copied;
}
