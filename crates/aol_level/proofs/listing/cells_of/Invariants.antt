use Rattle.std.proofs.Common.{take}
use Rattle.aol_level.specs.Made.{IsListing}
use Rattle.aol_level.specs.Parts.{AreCellsOf}
use Rattle.aol_level.proofs.listing.cells_of.Given as goal

abbrev pub invariant-loop-number : goal.invariant-loop-number
invariant-loop-number l = record {
  listing : IsListing l.flat l.listing;
  cells : AreCellsOf l.flat (take l.number-index l.numbers) l.cells.items;
}
