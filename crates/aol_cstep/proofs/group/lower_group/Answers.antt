use Rattle.std.proofs.Common.{sym, subst, arith}
use Rattle.aol_lower.specs.Stored.{trees_of}
use Rattle.aol_lower.proofs.Made.{if_ok_map}
use Rattle.aol_cstep.specs.Effect.{GroupFills, GroupIsFormed}
use Rattle.aol_cstep.proofs.Filling.{group_fills}
use Rattle.aol_cstep.proofs.GroupFits.{IsSmall, group_fits}
use Rattle.aol_cstep.proofs.group.lower_group.Goals as goal

pub returns-clause-value : goal.returns-clause-value
returns-clause-value c =
    if_ok_map c.group_loop.result (λ st made. subst (λ x. GroupFills c.args.group (trees_of c.args.instance) x) (sym made) (group_fills c.args.group (trees_of c.args.instance))) c.group_loop.ensures

pub returns-clause-formed : goal.returns-clause-formed
returns-clause-formed c =
    let small : IsSmall c.args.group = record { from = omega arith; at = omega arith; reads = omega arith; cells = omega arith; count = omega arith } in
    if_ok_map c.group_loop.result (λ st made. subst (λ x. GroupIsFormed (trees_of c.args.instance) x) (sym made) (group_fits c.args.group (trees_of c.args.instance) small)) c.group_loop.ensures
