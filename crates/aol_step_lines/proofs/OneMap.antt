-- The map of a step is one.
use Rattle.std.proofs.Common.{◌≡◌, ℕ, ◌<◌, List, length, Some, slice_get, sym, ◌∙◌, ap, arith}
use Rattle.std.specs.Prelude.{slice_index}
use Rattle.std.proofs.lemmas.List.{ext_get_or}
use Rattle.aol_model_types.specs.declared.document.Model.{Model}
use Rattle.aol_flat.specs.Instance.{Instance, instances}
use Rattle.aol_flat.specs.Keep.{AreAlike}
use Rattle.aol_change.specs.Change.{IsMapOf}
use Rattle.aol_assign.proofs.InstancesDiffer.{one_number}

pub one_map : (m next : Model) (f : Instance → Instance) (first second : List ℕ) → AreAlike m next first → IsMapOf m next f first → IsMapOf m next f second → first ≡ second
one_map m next f first second alike a b =
    ext_get_or 0 first second (a.each ∙ sym b.each) (λ j l.
    let kind = alike.kinds j (subst-length j l) in
    one_number m (slice_index first j) (slice_index second j) (f kind.new_instance) (a.number j kind.new_instance kind.at_new) (b.number j kind.new_instance kind.at_new))
  where
    subst-length : (j : ℕ) → j < length first → j < length (instances next)
    subst-length j l = omega (arith, l, a.each)
