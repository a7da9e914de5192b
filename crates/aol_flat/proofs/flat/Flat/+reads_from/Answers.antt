use Rattle.std.proofs.Common.{◌≡◌, ◌<◌, List, [], ◌∷◌, drop, length, sym, ◌∙◌, ap, subst, arith}
use Rattle.std.proofs.lemmas.Bool.Decides.{nat_tests}
use Rattle.std.specs.List.{AllZip}
use Rattle.aol_shape.specs.Shape.{size}
use Rattle.aol_expr_tree.specs.declared.port.Port.{Port}
use Rattle.aol_model_types.specs.Rules.{inputs_of}
use Rattle.aol_flat.specs.declared.view.Read.{Read}
use Rattle.aol_flat.specs.Laid.{IsReadOf}
use Rattle.aol_flat.specs.LeafCursor.{elements_at}
use Rattle.aol_flat.specs.Node.{place_on}
use Rattle.aol_flat.specs.Place.{elements_of}
use Rattle.aol_flat.proofs.NodeAt.{one_node, number_within, limits_known}
use Rattle.aol_flat.proofs.PortZip.{next_input, port_read, zip_ports, no_ports, drop_typed, inputs_typed}
use Rattle.aol_flat.proofs.flat.Flat.+reads_from.Goals as goal

pub returns-then-is_empty-clause-reads : goal.returns-then-is_empty-clause-reads
returns-then-is_empty-clause-reads t c = λ node u at.
    let none : length c.args.into.now ≡ 0 = grind (arith, nat_tests) in
    let p = c.requires.ports in
    let one = one_node c.args.self.now.model c.args.node p.node node p.task u p.at_node at in
    let many : elements_at (drop c.args.port (inputs_of u)) ≡ 0 = ap (λ x. elements_at (drop c.args.port (inputs_of x))) (sym one.1) ∙ (sym p.many_is ∙ none) in
    let types = inputs_typed u (limits_known c.args.self.now.model c.requires.flat.sound c.args.node node u at) in
    let left = no_ports (drop c.args.port (inputs_of u)) (drop_typed c.args.port (inputs_of u) types) many in
    subst (λ ps. AllZip (IsReadOf c.args.self.now) (elements_of (place_on node c.args.at.now) ps) c.args.into.now) (sym left) (nothing c.args.into.now none)
  where
    nothing : (ys : List Read) → length ys ≡ 0 → AllZip (IsReadOf c.args.self.now) [] ys
    nothing [] h = tt
    nothing (y ∷ ys) h = absurd (omega (arith, h))

pub task-requires : goal.task-requires
task-requires t c = number_within c.args.self.now.model c.args.node c.requires.ports.node c.requires.ports.task c.requires.ports.at_node

pub port_reads-requires-clause-port : goal.port_reads-requires-clause-port
port_reads-requires-clause-port t c =
    let some : 0 < length c.args.into.now = grind (arith, nat_tests) in
    let h = next_input c.args.self.now.model c.args.node c.args.port (length c.args.into.now) c.args.at.now c.requires.flat.sound c.requires.ports some in
    let is = port_read c.args.self.now.model inputs_of c.args.node c.args.port (length c.args.into.now) c.args.at.now h c.task.ensures.task.0 c.task.result.now c.input.result.now c.task.ensures.task.1 c.input.ensures in
    let same : size c.input.result.now.shape ≡ size h.port.shape = ap (λ (q : Port). size q.shape) is in
    record {
      node = h.node;
      task = h.task;
      at_node = h.at_node;
      around = h.around;
      port = h.port;
      listed = h.listed;
      many_is = omega (arith, same);
      few = omega (arith, same, h.small);
    }

pub overflow_add-port : goal.overflow_add-port
overflow_add-port t c =
    let some : 0 < length c.args.into.now = grind (arith, nat_tests) in
    let h = next_input c.args.self.now.model c.args.node c.args.port (length c.args.into.now) c.args.at.now c.requires.flat.sound c.requires.ports some in
    omega (arith, h.within, h.counted)

pub reads_from-requires : goal.reads_from-requires
reads_from-requires t c =
    let some : 0 < length c.args.into.now = grind (arith, nat_tests) in
    let h = next_input c.args.self.now.model c.args.node c.args.port (length c.args.into.now) c.args.at.now c.requires.flat.sound c.requires.ports some in
    let is = port_read c.args.self.now.model inputs_of c.args.node c.args.port (length c.args.into.now) c.args.at.now h c.task.ensures.task.0 c.task.result.now c.input.result.now c.task.ensures.task.1 c.input.ensures in
    let same : size c.input.result.now.shape ≡ size h.port.shape = ap (λ (q : Port). size q.shape) is in
    (omega (arith, h.some, same), (c.requires.flat, (record { node = h.node; task = h.task; at_node = h.at_node; around = h.around; many_is = omega (arith, h.total, same) }, c.port_reads.ensures.routes)))

pub returns-clause-reads : goal.returns-clause-reads
returns-clause-reads t c =
    let some : 0 < length c.args.into.now = grind (arith, nat_tests) in
    let h = next_input c.args.self.now.model c.args.node c.args.port (length c.args.into.now) c.args.at.now c.requires.flat.sound c.requires.ports some in
    let is = port_read c.args.self.now.model inputs_of c.args.node c.args.port (length c.args.into.now) c.args.at.now h c.task.ensures.task.0 c.task.result.now c.input.result.now c.task.ensures.task.1 c.input.ensures in
    let same : size c.input.result.now.shape ≡ size h.port.shape = ap (λ (q : Port). size q.shape) is in
    let count : length c.port_reads.new.into ≡ size h.port.shape = omega (arith, same) in
    zip_ports (IsReadOf c.args.self.now) c.args.self.now.model inputs_of c.args.node c.args.port (length c.args.into.now) c.args.at.now h c.port_reads.new.into c.reads_from.new.into c.port_reads.ensures.reads count c.reads_from.ensures.reads
