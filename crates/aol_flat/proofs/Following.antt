-- Following climbs, crosses once, and descends.
use Rattle.std.proofs.Common.{◌≡◌, ℕ, ◌+◌, ◌<◌, List, ◌∷◌, length, Some, None, Option, ◌∙◌, ap, refl, arith}
use Rattle.aol_model_types.specs.declared.document.Model.{Model}
use Rattle.aol_flat.specs.Tasks.{part_number}
use Rattle.aol_flat.specs.Place.{Place, Down, Element, IntoPart, IntoRepetition, instance_of_end}
use Rattle.aol_flat.specs.Equation.{PartInput}
use Rattle.aol_flat.specs.Need.{by_part_input, by_own_output, by_tiled_input, by_link, by_default, by_outer_output}
use Rattle.aol_flat.specs.Wired.{IsWired}
use Rattle.aol_flat.specs.Followed.{Moves, climbs, crosses, descends, FollowingMoves}

-- one place is a step below another
below_by : (up place : Place) (d : Down) (other : Place) → place ≡ d ∷ up → other ≡ up → length other < length place
below_by up place d other e f =
    let a : length place ≡ length up + 1 = ap length e ∙ omega arith in
    let b : length other ≡ length up = ap length f in
    omega (arith, a, b)

part_input_moves : (m : Model) → IsWired m → (p q : Element) (f : PartInput m p q) → Moves m p q
part_input_moves m wired p q f = go f.link.from.part refl
  where
    go : (o : Option (List ℕ)) → f.link.from.part ≡ o → Moves m p q
    go None e =
        climbs (wired.part_input p q f) (wired.part_input_own p q f e)
        (below_by f.up p.place (IntoPart (part_number f.task f.part)) q.place
        (ap (λ (x : Element). x.place) f.left ∙ ap (instance_of_end f.task f.up) f.into_part)
        (ap (λ (x : Element). x.place) f.right ∙ ap (instance_of_end f.task f.up) e))
    go (Some name) e = crosses (wired.part_input p q f) (wired.part_input_part p q f name e)

pub following_moves : FollowingMoves
following_moves m wired p q (by_part_input f) = part_input_moves m wired p q f
following_moves m wired p q (by_own_output f) =
    let sides = wired.own_output p q f in
    let from = wired.from_part p.place f.task f.link f.at_place f.listed f.into_own in
    descends sides.0 sides.1
    (below_by p.place q.place (IntoPart (part_number f.task from.0)) p.place (ap (λ (x : Element). x.place) f.right ∙ ap (instance_of_end f.task p.place) from.1) refl)
following_moves m wired p q (by_tiled_input f) =
    let sides = wired.tiled_input p q f in
    climbs sides.0 sides.1 (below_by f.up p.place (IntoRepetition f.repetition) q.place (ap (λ (x : Element). x.place) f.left) (ap (λ (x : Element). x.place) f.right))
following_moves m wired p q (by_link f) = let sides = wired.earlier p q f in crosses sides.0 sides.1
following_moves m wired p q (by_default f) =
    let sides = wired.default_element p q f in
    climbs sides.0 sides.1 (below_by f.linked.up p.place (IntoRepetition f.linked.repetition) q.place (ap (λ (x : Element). x.place) f.linked.left) (ap (λ (x : Element). x.place) f.right))
following_moves m wired p q (by_outer_output f) =
    let sides = wired.outer_output p q f in
    descends sides.0 sides.1 (below_by p.place q.place (IntoRepetition f.repetition) p.place (ap (λ (x : Element). x.place) f.right) refl)
