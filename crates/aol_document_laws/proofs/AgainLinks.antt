-- Repetitions, and the defaults of their links, that were read in either version are read again.
use Rattle.std.proofs.Common.{◌≡◌, ℕ, ◌≤◌, ◌^◌, ℤ, pos, negsuc, List, [], ◌∷◌, length, Bool, true, false, nat_le, nat_lt, codes, is_some, Option, Some, None, Result, Ok, Err, refl, if◌then◌else◌, arith}
use Rattle.std.proofs.lemmas.Bool.{leb-true, lt-ltb}
use Rattle.serde_json.specs.Data.{null, number, unsigned}
use Rattle.serde_json.specs.Find.{as_object}
use Rattle.aol_shape.specs.Lists.{same}
use Rattle.aol_shape.specs.declared.limit.LimitName.TheVariants.{Choices}
use Rattle.aol_link.specs.declared.link.Interlink.{Interlink}
use Rattle.aol_link.specs.declared.link.Choice.{Choice}
use Rattle.aol_link.specs.declared.link.When.{When}
use Rattle.aol_link.specs.declared.link.When.TheVariants.{Always, Low, High}
use Rattle.aol_link.specs.declared.link.Fallback.{Fallback}
use Rattle.aol_link.specs.declared.link.Fallback.TheVariants.{Number}
use Rattle.aol_model_types.specs.declared.place.Key.TheVariants.{KKind, KName, KIn, KOut, KModulo, KSpace, KTask, KTilers, KLinks, KFrom, KTo, KDistance, KDefault, KOuter, KTiler, KDimension, KSide, KValue}
use Rattle.aol_model_types.specs.declared.task.Task.{Task}
use Rattle.aol_model_types.specs.Places.{whole, to_key, to_index}
use Rattle.aol_model_types.specs.Reading.{At, name_at, shape_at, vector_at, tiler_at, truth_at, outputs_of, Fault, grammar, ◌>>=◌, ◌>>◌, needs, is_null, text_at, tiled_at, fallback_at, integer_at, dimension_at, side_at, choice_at, max_choices, default_at, interlink_at, port_at, tiler_on_at, list_of, repeated_at, task_at}
use Rattle.aol_model_types.specs.Writing.{fallback_tree, choice_tree, list_tree, interlink_tree, port_tree, tiler_on_tree, task_tree}
use Rattle.aol_document_laws.proofs.AgainSteps.{Was, Reads, same_answer, went, was_right, formed, took, goes}
use Rattle.aol_document_laws.proofs.AgainLists.{list_again, bounded_was, bounded_again}
use Rattle.aol_document_laws.proofs.AgainTexts.{name_read, shape_read, vector_read, tiler_read, number_read, integer_read}
use Rattle.aol_document_laws.proofs.AgainTasks.{port_read, outputs_read, tiler_on_read}

-- ---- the value of a choice

tiled_read : (f : Fallback) → Was tiled_at f → Reads fallback_at (fallback_tree f) f
tiled_read f w at = took w.0 w.1 w.2 KOuter name_at (formed (KOuter ∷ KTiler ∷ []) [] w.0 w.1 w.3) (λ o outer e. took w.0 w.1 w.2 KTiler tiler_at e (λ t tiler last.
    same_answer last (λ g. fallback_at at (fallback_tree g) ≡ Ok g) (goes _ (name_read o outer (to_key at KOuter)) (goes _ (tiler_read t tiler (to_key at KTiler)) refl))))

whole_read : (z : ℤ) → Was integer_at z → Reads fallback_at (fallback_tree (Number z)) (Number z)
whole_read (pos n) is at = goes _ (integer_read (pos n) is at) refl
whole_read (negsuc n) is at = refl

fallback_read : (f : Fallback) → Was fallback_at f → Reads fallback_at (fallback_tree f) f
fallback_read f w at = by_form (is_some (as_object w.1)) w.3
  where
    by_form : (tiled : Bool) → (if tiled then tiled_at w.0 w.1 else (integer_at w.0 w.1 >>= (λ z. Ok (Number z)))) ≡ Ok f → fallback_at at (fallback_tree f) ≡ Ok f
    by_form true e = tiled_read f (w.0, w.1, w.2, e) at
    by_form false e = went (integer_at w.0 w.1) e (λ z is last. same_answer last (λ g. fallback_at at (fallback_tree g) ≡ Ok g) (whole_read z (w.0, w.1, w.2, is) at))

-- ---- choices

-- a dimension that is read is below 12
abbrev IsDimension : Option ℕ → Type 0
IsDimension None = Unit {0}
IsDimension (Some k) = nat_le k 11 ≡ true

-- a dimension by its number
abbrev natural : At → ℤ → Result (Option ℕ) Fault
natural at (pos k) = needs at (nat_le k 11) >> Ok (Some k)
natural at (negsuc k) = Err (grammar (whole at))

natural_was : (at : At) (z : ℤ) (o : Option ℕ) → natural at z ≡ Ok o → IsDimension o
natural_was at (pos k) o e = let r = was_right at (nat_le k 11) (Ok (Some k)) o e in same_answer r.1 IsDimension r.0
natural_was at (negsuc k) o e = cc

dimension_was : (o : Option ℕ) → Was dimension_at o → IsDimension o
dimension_was o w = by_null (is_null w.1) w.3
  where
    by_null : (t : Bool) → (if t then Ok None else (integer_at w.0 w.1 >>= natural w.0)) ≡ Ok o → IsDimension o
    by_null true e = same_answer e IsDimension tt
    by_null false e = went (integer_at w.0 w.1) e (λ z _ e. natural_was w.0 z o e)

small : (k : ℕ) → nat_le k 11 ≡ true → nat_lt k (2 ^ 63) ≡ true
small k h = let few : k ≤ 11 = leb-true k 11 h in lt-ltb k (2 ^ 63) (omega (arith, few))

dimension_read : (k : ℕ) → nat_le k 11 ≡ true → Reads dimension_at (number (unsigned k)) (Some k)
dimension_read k h at = goes _ (number_read (pos k) (small k h) at) (rw h)

-- its dimension is below 12
abbrev IsWhen : When → Type 0
IsWhen Always = Unit {0}
IsWhen (Low k) = nat_le k 11 ≡ true
IsWhen (High k) = nat_le k 11 ≡ true

when_was : (o : Option ℕ) (w : When) → IsDimension o → Was (side_at o) w → IsWhen w
when_was None w is was = same_answer (was_right was.0 (is_null was.1) (Ok Always) w was.3).1 IsWhen tt
when_was (Some k) w is was = went (text_at was.0 was.1) was.3 (λ t _ e. by_side (same t (codes "low")) (same t (codes "high")) e)
  where
    by_side : (low high : Bool) → (if low then Ok (Low k) else (needs was.0 high >> Ok (High k))) ≡ Ok w → IsWhen w
    by_side true high e = same_answer e IsWhen is
    by_side false high e = same_answer (was_right was.0 high (Ok (High k)) w e).1 IsWhen is

choice_with : (w : When) (f : Fallback) → IsWhen w → Reads fallback_at (fallback_tree f) f → Reads choice_at (choice_tree (record { when = w; take = f })) (record { when = w; take = f })
choice_with Always f is take at = goes _ (take (to_key at KValue)) refl
choice_with (Low k) f is take at = goes _ (dimension_read k is (to_key at KDimension)) (goes _ (take (to_key at KValue)) refl)
choice_with (High k) f is take at = goes _ (dimension_read k is (to_key at KDimension)) (goes _ (take (to_key at KValue)) refl)

choice_read : (c : Choice) → Was choice_at c → Reads choice_at (choice_tree c) c
choice_read c w at = took w.0 w.1 w.2 KDimension dimension_at (formed (KDimension ∷ KSide ∷ KValue ∷ []) [] w.0 w.1 w.3) (λ d dimension e. took w.0 w.1 w.2 KSide (side_at d) e (λ s side e. took w.0 w.1 w.2 KValue fallback_at e (λ f take last.
    same_answer last (λ q. choice_at at (choice_tree q) ≡ Ok q) (choice_with s f (when_was d s (dimension_was d dimension) side) (fallback_read f take) at))))

-- nothing where the link wraps, one choice in version 1, choices in version 2
default_read : (later wraps : Bool) (rest : List Choice) → Was (default_at later wraps) rest → Reads (default_at true wraps) (if wraps then null else list_tree choice_tree rest) rest
default_read later true rest w at = (was_right w.0 (is_null w.1) (Ok []) rest w.3).1
default_read true false rest w at = bounded_again choice_at choice_at choice_tree choice_read Choices (λ n. nat_le n max_choices) rest (bounded_was choice_at Choices (λ n. nat_le n max_choices) rest w) at
default_read false false rest w at = went (fallback_at w.0 w.1) w.3 (λ f was last.
    same_answer last (λ q. default_at true false at (list_tree choice_tree q) ≡ Ok q) (goes _ (choice_with Always f tt (fallback_read f (w.0, w.1, w.2, was)) (to_index at 0)) refl))

-- ---- repetitions

interlink_read : (later : Bool) (l : Interlink) → Was (interlink_at later) l → Reads (interlink_at true) (interlink_tree l) l
interlink_read later l w at = took w.0 w.1 w.2 KFrom name_at (formed (KFrom ∷ KTo ∷ KDistance ∷ KModulo ∷ KDefault ∷ []) [] w.0 w.1 w.3) (λ f from e. took w.0 w.1 w.2 KTo name_at e (λ t to e. took w.0 w.1 w.2 KDistance vector_at e (λ v distance e. took w.0 w.1 w.2 KModulo truth_at e (λ wraps _ e. took w.0 w.1 w.2 KDefault (default_at later wraps) e (λ rest default last.
    same_answer last (λ q. interlink_at true at (interlink_tree q) ≡ Ok q)
    (goes _ (name_read f from (to_key at KFrom)) (goes _ (name_read t to (to_key at KTo)) (goes _ (vector_read v distance (to_key at KDistance)) (goes _ (default_read later wraps rest default (to_key at KDefault)) refl)))))))))

pub repeated_read : (later : Bool) (t : Task) → Was (repeated_at later) t → Reads (task_at true) (task_tree t) t
repeated_read later t w at = took w.0 w.1 w.2 KName name_at (formed (KKind ∷ KName ∷ KIn ∷ KOut ∷ KSpace ∷ KTask ∷ KTilers ∷ KLinks ∷ []) [] w.0 w.1 w.3) (λ n name e. took w.0 w.1 w.2 KIn (list_of port_at) e (λ ins are_in e. took w.0 w.1 w.2 KOut (outputs_of (length ins) port_at) e (λ outs are_out e. took w.0 w.1 w.2 KSpace shape_at e (λ space space_shape e. took w.0 w.1 w.2 KTask name_at e (λ task task_name e. took w.0 w.1 w.2 KTilers (list_of tiler_on_at) e (λ tilers are_tilers e. took w.0 w.1 w.2 KLinks (list_of (interlink_at later)) e (λ links are_links last.
    same_answer last (λ q. task_at true at (task_tree q) ≡ Ok q)
    (goes _ (name_read n name (to_key at KName))
    (goes _ (list_again port_at port_at port_tree port_read ins are_in (to_key at KIn))
    (goes _ (outputs_read (length ins) port_at port_tree port_read outs are_out (to_key at KOut))
    (goes _ (shape_read space space_shape (to_key at KSpace))
    (goes _ (name_read task task_name (to_key at KTask))
    (goes _ (list_again tiler_on_at tiler_on_at tiler_on_tree tiler_on_read tilers are_tilers (to_key at KTilers))
    (goes _ (list_again (interlink_at later) (interlink_at true) interlink_tree (interlink_read later) links are_links (to_key at KLinks))
    refl))))))))))))))
