-- What is known of where cells end, and where reads end by it.
use Rattle.std.specs.Prelude.{◌≡◌, ℕ, List, [], ◌∷◌, slice_get, slice_set, Option, Some, None, option_and_then}
use Rattle.aol_flat.specs.declared.view.Read.{Read}
use Rattle.aol_flat.specs.declared.view.Read.TheVariants as reads
use Rattle.aol_flat.specs.declared.view.End.{End}
use Rattle.aol_flat.specs.declared.view.End.TheVariants as ends
use Rattle.aol_flat.specs.Keep.{old_end}
use Rattle.aol_equiv.specs.declared.leads.Lead.{Lead}
use Rattle.aol_equiv.specs.declared.leads.Lead.TheVariants.{Ends, Copies, Nowhere}

-- where a cell ends that a copy of this read fills
abbrev pub lead_of : Read → Lead
lead_of (reads.Cell c) = Copies c
lead_of (reads.Const n) = Ends (ends.Const n)

-- the end that is known
abbrev pub known_end : Lead → Option End
known_end (Ends e) = Some e
known_end (Copies c) = None
known_end Nowhere = None

-- where a read ends
abbrev pub end_of : List Lead → Read → Option End
end_of leads (reads.Cell c) = option_and_then known_end (slice_get leads c)
end_of leads (reads.Const n) = Some (ends.Const n)

-- a read of the new model ends at this old end
abbrev pub IsKeptRead : List Lead → List ℕ → Read → End → Type 0
IsKeptRead leads old_of read required = (e : End) × (end_of leads read ≡ Some e) × (old_end old_of e ≡ required)

-- one lead at some cells
abbrev pub set_each : List Lead → List ℕ → Lead → List Lead
set_each leads [] lead = leads
set_each leads (c ∷ cs) lead = set_each (slice_set leads c lead) cs lead

-- leads at some cells, one for each
abbrev pub put_leads : List Lead → List ℕ → List Lead → List Lead
put_leads leads [] vs = leads
put_leads leads (c ∷ cs) [] = leads
put_leads leads (c ∷ cs) (v ∷ vs) = put_leads (slice_set leads c v) cs vs
