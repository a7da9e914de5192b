-- Where names stand in a list, and an index that knows it.
use Rattle.std.specs.Prelude.{◌≡◌, ℕ, suc, List, [], ◌∷◌, map, length, take, Bool, false, nat_lt, Option, Some, None, unwrap_or, if◌then◌else◌, String, Vec}
use Rattle.std.specs.List.{slice_get}
use Rattle.std.specs.Option.{option_map_or}
use Rattle.std.specs.BTreeMap.{BTreeMap, get_by_text}
use Rattle.std.specs.declared.alloc.Global.{Global}
use Rattle.aol_shape.specs.Lists.{same}
use Rattle.aol_model_types.specs.declared.task.Plain.{Plain}
use Rattle.aol_model_types.specs.declared.task.Copied.{Copied}

-- the places of a name, in order
abbrev pub places : List ℕ → List (List ℕ) → List ℕ
places q [] = []
places q (n ∷ ns) = if same n q then 0 ∷ map suc (places q ns) else map suc (places q ns)

-- the places that a map holds for a name
abbrev pub group : List ℕ → BTreeMap (String Global) (Vec ℕ Global) → List ℕ
group q m = option_map_or (λ g. g.items) (get_by_text m q) []

-- the map holds the places of each name in the list
abbrev pub Finds : List (List ℕ) → BTreeMap (String Global) (Vec ℕ Global) → Type 0
Finds names m = (q : List ℕ) → group q m ≡ places q names

-- a place that is one of the first n
abbrev pub below : ℕ → Option ℕ → Option ℕ
below n None = None
below n (Some k) = if nat_lt k n then Some k else None

-- the list is a front of the other
abbrev pub IsFront : {X : Type 0} → List X → List X → Type 0
IsFront front xs = (k : ℕ) × (front ≡ take k xs)

-- the map leads to the first place of each name in a list that is a front of its own
abbrev pub Leads : List (List ℕ) → BTreeMap (String Global) (Vec ℕ Global) → Type 0
Leads front m = (q : List ℕ) → below (length front) (slice_get (group q m) 0) ≡ slice_get (places q front) 0

-- whether the test holds of what stands at the place
abbrev pub holds_at : {X : Type 0} → (X → Bool) → List X → ℕ → Bool
holds_at p xs k = option_map_or p (slice_get xs k) false

-- the part where a link ends; of a link to an own output the part where it begins
abbrev pub part_of_link : Plain → List ℕ
part_of_link l = unwrap_or l.to.part (unwrap_or l.from.part [])

-- the part where a reshape ends
abbrev pub part_of_reshape : Copied → List ℕ
part_of_reshape l = unwrap_or l.to.part []
