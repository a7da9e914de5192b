use Rattle.aol_model_types.specs.Rules.{inputs_of}
use Rattle.aol_flat.specs.Route.{AreRoutesBefore}
use Rattle.aol_flat.proofs.flat.Flat.routes_of_inputs.Given as goal

abbrev pub invariant-loop-port : goal.invariant-loop-port
invariant-loop-port l = AreRoutesBefore l.self inputs_of l.node l.port l.routes.items
