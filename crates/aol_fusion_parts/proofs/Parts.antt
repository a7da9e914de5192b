-- Lists that the code makes member by member, and limits on the way.
use Rattle.std.proofs.Common.{◌≡◌, ℕ, suc, ◌+◌, List, ◌++◌, [], ◌∷◌, length, map, Option, Some, None, refl, ap, ◌<◌, ◌∙◌, sym, flat_map, drop, get_or, drop-cons, append_assoc, arith}
use Rattle.std.specs.List.{AllByRecursion}
use Rattle.std.proofs.lemmas.List.{length-append}
use Rattle.aol_shape.specs.Lists.{first_some}
use Rattle.aol_shape.specs.declared.limit.LimitName.{LimitName}
use Rattle.aol_expr_tree.specs.declared.port.Port.{Port}
use Rattle.aol_change.specs.Change.{joined_limit}
use Rattle.aol_change.proofs.Room.{joined_fits}
use Rattle.aol_fusion_parts.specs.Made.{over_limit, links_in}
use Rattle.aol_fusion_parts.specs.Room.{HasPlace}

pub joined_length : (first second : List ℕ) → length (first ++ second) ≡ length first + length second
joined_length first second = length-append first second

-- where no port over a block passes a limit, the block and each port have room in one tiler
pub have_place : (block : List ℕ) (ports : List Port) → over_limit block ports ≡ None → AllByRecursion (HasPlace block) ports
have_place block [] h = tt
have_place block (p ∷ ports) h = go (joined_limit block p.shape) refl h (have_place block ports)
  where
    go : (o : Option LimitName) → joined_limit block p.shape ≡ o → first_some (o ∷ map (λ (q : Port). joined_limit block q.shape) ports) ≡ None
        → (over_limit block ports ≡ None → AllByRecursion (HasPlace block) ports) → AllByRecursion (HasPlace block) (p ∷ ports)
    go None e k rest = ((joined_fits block p.shape e).0, rest k)
    go (Some l) e k rest = cc

-- links from own inputs are as many as the ports
pub length_links_in : (part : List ℕ) (k : ℕ) (ports : List Port) → length (links_in part k ports) ≡ length ports
length_links_in part k [] = refl
length_links_in part k (p ∷ ports) = ap suc_of (length_links_in part (k + 1) ports)
  where
    suc_of : ℕ → ℕ
    suc_of n = suc n

-- one more member of a list of which each is put in by several
pub flat_more : {X Y : Type 0} (f : X → List Y) (first made new : List Y) (xs : List X) (i : ℕ) (x : X) → first ++ flat_map f xs ≡ made ++ flat_map f (drop i xs)
    → i < length xs → x ≡ get_or xs i x → new ≡ made ++ f x → first ++ flat_map f xs ≡ new ++ flat_map f (drop (i + 1) xs)
flat_more f first made new xs i x h less is done =
    let here : drop i xs ≡ get_or xs i x ∷ drop (i + 1) xs = drop-cons xs i x less ∙ ap (λ n. get_or xs i x ∷ drop n xs) (let e : suc i ≡ i + 1 = omega arith in e) in
    let at : drop i xs ≡ x ∷ drop (i + 1) xs = here ∙ ap (λ y. y ∷ drop (i + 1) xs) (sym is) in
    h ∙ (ap (λ ys. made ++ flat_map f ys) at ∙ (sym (append_assoc made (f x) (flat_map f (drop (i + 1) xs))) ∙ ap (λ ys. ys ++ flat_map f (drop (i + 1) xs)) (sym done)))
