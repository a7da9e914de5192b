-- Where no shape of a port over a space passes a limit, the space and each innermost port have room in one tiler.
use Rattle.std.proofs.Common.{◌≡◌, ℕ, List, [], ◌∷◌, ◌++◌, map, Option, Some, None, sym, ◌∙◌, ap, refl}
use Rattle.std.specs.List.{AllByRecursion}
use Rattle.aol_shape.specs.declared.limit.LimitName.{LimitName}
use Rattle.aol_shape.specs.Lists.{first_some}
use Rattle.aol_change.specs.Change.{joined_limit}
use Rattle.aol_change.proofs.Room.{joined_fits, neither_limit}
use Rattle.aol_paving.specs.declared.crossing.Crossing.{Crossing}
use Rattle.aol_paving.specs.Pave.{whole_limit, inner_limit}
use Rattle.aol_paving.specs.Paving.{HasRoom, Meet, CanCross}
use Rattle.aol_paving.proofs.CrossedTilers.{can_cross}

pub has_room : (space : List ℕ) (cs : List Crossing) → whole_limit space cs ≡ None → AllByRecursion (HasRoom space) cs
has_room space [] h = tt
has_room space (c ∷ cs) h = go (joined_limit space c.port.shape) refl h (has_room space cs)
  where
    go : (o : Option LimitName) → joined_limit space c.port.shape ≡ o → first_some (o ∷ map (λ (d : Crossing). joined_limit space d.port.shape) cs) ≡ None → (whole_limit space cs ≡ None → AllByRecursion (HasRoom space) cs)
        → AllByRecursion (HasRoom space) (c ∷ cs)
    go None e k rest = ((joined_fits space c.port.shape e).0, rest k)
    go (Some l) e k rest = cc

-- so both tilers of each way can be made one
can_all : (inner block : List ℕ) (cs : List Crossing) → AllByRecursion (Meet inner block) cs → AllByRecursion (HasRoom (block ++ inner)) cs → AllByRecursion (CanCross block) cs
can_all inner block [] m room = tt
can_all inner block (c ∷ cs) m room = (can_cross c inner block m.0 room.0, can_all inner block cs m.1 room.1)

pub can_ins : (inner block space : List ℕ) (ins outs : List Crossing) → space ≡ block ++ inner → AllByRecursion (Meet inner block) ins → inner_limit space ins outs ≡ None → AllByRecursion (CanCross block) ins
can_ins inner block space ins outs is m h =
    let first = neither_limit (whole_limit space ins) _ h in
    can_all inner block ins m (has_room (block ++ inner) ins (ap (λ s. whole_limit s ins) (sym is) ∙ first.0))

pub can_outs : (inner block space : List ℕ) (ins outs : List Crossing) → space ≡ block ++ inner → AllByRecursion (Meet inner block) outs → inner_limit space ins outs ≡ None → AllByRecursion (CanCross block) outs
can_outs inner block space ins outs is m h =
    let first = neither_limit (whole_limit space ins) _ h in
    let second = neither_limit (whole_limit space outs) _ first.1 in
    can_all inner block outs m (has_room (block ++ inner) outs (ap (λ s. whole_limit s outs) (sym is) ∙ second.0))
