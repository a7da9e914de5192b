use Rattle.std.proofs.Common.{◌≡◌, ℕ, ◌+◌, ◌*◌, ◌<◌, ◌≤◌, List, length, map, sym, ◌∙◌, ap, arith, subst}
use Rattle.aol_trail.specs.Further.{further}
use Rattle.aol_trail.specs.Trail.{trail_at}
use Rattle.aol_flat.specs.Route.{CanGive, AreTrailCells}
use Rattle.aol_flat.proofs.Routes.{written_back}
use Rattle.aol_flat.proofs.Runs.{gives_here, gives_moved, run_holds, stands_moved, there_moved}
use Rattle.aol_flat.proofs.route.Route.fill.Goals as goal

pub write_all-requires-clause-met : goal.write_all-requires-clause-met
write_all-requires-clause-met c =
    let t = c.args.self.now.trail in
    gives_here c.args.at.now t c.go_to.new.self _ c.go_to.ensures (subst (CanGive (trail_at (further 0 c.args.at.now) t)) (sym (ap length c.as_mut_slice.ensures.value)) (c.requires.can.gives 0 c.requires.some))

pub stretch_of-stretch-requires-clause-there : goal.stretch_of-stretch-requires-clause-there
stretch_of-stretch-requires-clause-there c = there_moved c.args.at.now c.args.at.now c.args.self.now.trail c.go_to.new.self c.go_to.ensures c.requires.can.there

pub stretch_of-stretch-requires-clause-stands : goal.stretch_of-stretch-requires-clause-stands
stretch_of-stretch-requires-clause-stands c = stands_moved c.args.at.now c.args.self.now.trail c.go_to.new.self c.go_to.ensures

pub stretch_of-stretch-requires-clause-gives : goal.stretch_of-stretch-requires-clause-gives
stretch_of-stretch-requires-clause-gives c = λ i le.
    let t = c.args.self.now.trail in
    let to = further i c.args.at.now in
    let count : length c.args.self.now.cells.items ≡ c.len.result = omega (arith, c.len.ensures, c.args.self.now.cells.ok.0) in
    gives_moved to c.args.at.now t c.go_to.new.self c.len.result c.go_to.ensures (subst (CanGive (trail_at to t)) count (c.requires.can.gives i (omega (arith, le, c.requires.some))))

pub returns-clause-run : goal.returns-clause-run
returns-clause-run c = λ i low.
    let t = c.args.self.now.trail in
    let v = c.args.self.now.cells in
    let new = c.write_all.new.into in
    let stride = c.stretch_of-stretch.result.stride in
    let long : length new ≡ v.len = omega (arith, c.write_all.auto.into, ap length c.as_mut_slice.ensures.value, v.ok.0) in
    let count : length new ≡ c.len.result = omega (arith, long, c.len.ensures) in
    let holds = run_holds t c.go_to.new.self c.args.at.now new i c.len.result stride c.go_to.ensures c.write_all.ensures count (λ x within. c.stretch_of-stretch.ensures.even i x (omega (arith, low)) within) in
    subst (λ (zs : List ℕ). AreTrailCells (trail_at (further i c.args.at.now) t) (map (λ y. y + i * stride) zs)) (sym (written_back new v.items v.len long)) holds
