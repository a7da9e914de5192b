use Rattle.aol_tiler.proofs.UnitColumns.{unit_good, units_more, if_ok}
use Rattle.aol_tiler.proofs.units.+push_units.Goals as goal

pub unreachable-requires : goal.unreachable-requires
unreachable-requires t c = c.in-None-new.ensures.none (unit_good _ _ _ _ _ c.in-Some.ensures.cases.0 c.requires)

pub returns-in_ok-push-in-Some-new : goal.returns-in_ok-push-in-Some-new
returns-in_ok-push-in-Some-new t c =
    if_ok c.push_units.result _ _
    (λ more. units_more _ _ _ _ _ _ c.push.new.self c.push_units.new.made _ c.in-Some.ensures.cases.0 c.requires c.in-Some-new.ensures.some.0 c.in_ok-push-in-Some-new.ensures.ok more) c.push_units.ensures
