-- A list of writers has an entry for each cell, and each writer in it is an instance.
use Rattle.std.proofs.Common.{◌≡◌}
use Rattle.std.proofs.lemmas.Option.{slice_get_within}
use Rattle.std.specs.Prelude.{ℕ, List, Option}
use Rattle.aol_depend.specs.Gather.{AreEntries}
use Rattle.aol_flat.specs.Instance.{instances}
use Rattle.aol_flat.specs.Laid.{Laid}
use Rattle.aol_flat.specs.Level.{AreWriters}

pub entries : (f : Laid) (list : List (Option ℕ)) → AreWriters f list → AreEntries f list
entries f list w = record {
  many = w.many;
  each = λ c j at. let writes = (w.some c j).0 at in slice_get_within (instances f.model) j writes.instance writes.at;
}
