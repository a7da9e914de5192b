-- Lists that are made in two parts.
use Rattle.std.proofs.Common.{◌≡◌, List, [], ◌++◌, map, sym, ◌∙◌, ap}
use Rattle.std.proofs.lemmas.List.{map-append}

-- what two lists give is added one after the other
pub mapped_both : {X Y : Type 0} (f : X → Y) (xs ys : List X) (old middle new : List Y) → old ≡ [] → middle ≡ old ++ map f xs → new ≡ middle ++ map f ys → new ≡ map f (xs ++ ys)
mapped_both f xs ys old middle new empty first second =
    second ∙ (ap (λ z. z ++ map f ys) (first ∙ ap (λ z. z ++ map f xs) empty) ∙ sym (map-append f xs ys))
