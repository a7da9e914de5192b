-- Where each cell after the main inputs is written, all that is read is given.
use Rattle.std.proofs.Common.{◌≡◌, ℕ, List, length, Option, arith, inl, inr}
use Rattle.std.proofs.lemmas.Bool.{cases_lt}
use Rattle.std.proofs.lemmas.Option.{slice_get_within}
use Rattle.aol_model_types.specs.declared.task.Task.TheVariants as tasks
use Rattle.aol_flat.specs.Accept.{IsSound}
use Rattle.aol_flat.specs.Laid.{Laid, IsLaid, IsReadOf, main_input_elements}
use Rattle.aol_flat.specs.Level.{AreWriters}
use Rattle.aol_flat.specs.Place.{Element, IsElement}
use Rattle.aol_flat.specs.Reads.{IsRead, by_run, by_copy, by_caller, AllGiven}
use Rattle.aol_flat.specs.Targets.{IsSingleAssignment}
use Rattle.aol_flat.specs.declared.view.Read.{Read}
use Rattle.aol_flat.specs.declared.view.Read.TheVariants.{Cell, Const}
use Rattle.aol_flat.proofs.Exists.{input_exists}
use Rattle.aol_assign.specs.Cells.{IsGivenRead}
use Rattle.aol_assign.specs.Holes.{AreWrittenFrom}
use Rattle.aol_assign.proofs.ElementReads.{element_read}
use Rattle.aol_assign.proofs.GivenCells.{given_by_cells}
use Rattle.aol_assign.proofs.MainCells.{main_exist}

module _ (f : Laid) (sound : IsSound f.model) (laid : IsLaid f) (single : IsSingleAssignment f.model) (list : List (Option ℕ)) (writers : AreWriters f list) (inputs : ℕ) (first : inputs ≡ length (main_input_elements f.model)) where
  read_exists : (p : Element) → IsRead f.model p → IsElement f.model p
  read_exists p (by_run place e at a) = input_exists f.model sound place (tasks.Elementary e) p at a
  read_exists p (by_copy target c) = c.source
  read_exists p (by_caller a) = main_exist f sound laid p a

  pub all_given : AreWrittenFrom inputs list → AllGiven f.model
  all_given all p read =
      let exists = read_exists p read in
      let r = element_read f sound single laid p exists in
      (given_by_cells f sound laid single p r.0 exists r.1).1 (go r.0 r.1)
    where
      go : (r : Read) → IsReadOf f p r → IsGivenRead f r
      go (Const n) is = tt
      go (Cell c) is =
          elim (cases_lt c inputs) [
            | inl lt ↦ inl (omega (arith, lt, first))
            | inr past ↦
                let w = all c past (omega (arith, slice_get_within f.cells c is.home is.at_cell, writers.many)) in
                inr (w.0, (writers.some c w.0).0 w.1)
          ]
