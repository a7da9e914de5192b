use Rattle.aol_flat.proofs.tables.tables_of.Goals as goal

pub returns : goal.returns
returns c =
    let placed = c.in_ok-place_all.ensures c.new-table.ensures.rows c.new-table.ensures.spots in
    record { rows = placed.rows; spots = placed.spots; steps = c.in_ok-steps.ensures; cells = c.in_ok-cells.ensures }
