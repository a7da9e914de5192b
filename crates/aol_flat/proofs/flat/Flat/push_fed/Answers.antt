use Rattle.std.proofs.Common.{◌≡◌, ◌∷◌, ◌∙◌, length, get_or, ℕ, List, true, Some, slice_get, refl, sym, ap, subst, arith}
use Rattle.std.proofs.lemmas.Option.{slice_get_within}
use Rattle.aol_tiler.specs.Tiler.{fits}
use Rattle.aol_trail.specs.Trail.{StepOf}
use Rattle.aol_expr_tree.specs.declared.port.Port.{Port}
use Rattle.aol_model_types.specs.declared.task.Repeated.{Repeated}
use Rattle.aol_model_types.specs.declared.task.TilerOn.{TilerOn}
use Rattle.aol_model_types.specs.Rules.{inputs_of}
use Rattle.aol_flat.specs.Node.{ToBody}
use Rattle.aol_flat.proofs.NodeAt.{one_node, read_port, read_item}
use Rattle.aol_flat.proofs.Inward.{in_tiler, in_fits}
use Rattle.aol_flat.proofs.Routes.{fed_between, pushed_step}
use Rattle.aol_flat.proofs.flat.Flat.push_fed.Goals as goal

pub bounds-as_slice-outer : goal.bounds-as_slice-outer
bounds-as_slice-outer c =
    let m = c.args.self.now.model in
    let b = c.args.body in
    let h = c.requires.there.2 in
    let by = c.requires.tiled h.node h.task h.port h.at_node h.listed in
    let o = in_tiler m c.task.ensures.flat.sound b.number b.up c.args.port c.args.tiler c.args.outer b.task.now b.around.now b.r.now c.requires.there.0 c.requires.there.1 c.requires.place h by in
    omega (arith, slice_get_within b.task.now.ins c.args.outer o.3.port o.3.listed, ap length (c.as_slice.ensures ∙ ap (λ (t : Repeated). t.ins) c.repeated_at-task.ensures))

pub bounds-as_slice-tiler : goal.bounds-as_slice-tiler
bounds-as_slice-tiler c =
    let m = c.args.self.now.model in
    let b = c.args.body in
    let h = c.requires.there.2 in
    let by = c.requires.tiled h.node h.task h.port h.at_node h.listed in
    let o = in_tiler m c.task.ensures.flat.sound b.number b.up c.args.port c.args.tiler c.args.outer b.task.now b.around.now b.r.now c.requires.there.0 c.requires.there.1 c.requires.place h by in
    omega (arith, slice_get_within b.task.now.tilers c.args.tiler o.0 o.2, ap length (c.as_slice-2.ensures ∙ ap (λ (t : Repeated). t.tilers) c.repeated_at-task.ensures))

pub new-requires-clause-fits : goal.new-requires-clause-fits
new-requires-clause-fits c =
    let m = c.args.self.now.model in
    let b = c.args.body in
    let h = c.requires.there.2 in
    let by = c.requires.tiled h.node h.task h.port h.at_node h.listed in
    let o = in_tiler m c.task.ensures.flat.sound b.number b.up c.args.port c.args.tiler c.args.outer b.task.now b.around.now b.r.now c.requires.there.0 c.requires.there.1 c.requires.place h by in
    let here = c.task.ensures.task in
    let same_task = (one_node m b.number h.node here.0 h.task c.task.result.now h.at_node here.1).1 in
    let port : c.input.result.now ≡ h.port = read_port inputs_of h.task c.task.result.now c.args.port h.port c.input.result.now same_task h.listed c.input.ensures in
    let tiler = read_item b.task.now.tilers c.as_slice-2.result.now c.args.tiler o.0 c.index-as_slice-tiler.result (c.as_slice-2.ensures ∙ ap (λ (t : Repeated). t.tilers) c.repeated_at-task.ensures) o.2 in
    let array = read_item b.task.now.ins c.as_slice.result.now c.args.outer o.3.port c.index-as_slice-outer.result (c.as_slice.ensures ∙ ap (λ (t : Repeated). t.ins) c.repeated_at-task.ensures) o.3.listed in
    let space : c.repeated_at-task.result.now.space ≡ b.task.now.space = ap (λ (t : Repeated). t.space) c.repeated_at-task.ensures in
    let T : TilerOn = get_or c.as_slice-2.result.now c.args.tiler c.index-as_slice-tiler.result in
    let A : Port = get_or c.as_slice.result.now c.args.outer c.index-as_slice-outer.result in
    let P : TilerOn → Type 0 = λ z. fits z.tiler o.3.port.shape b.task.now.space h.port.shape ≡ true in
    let Q : Port → Type 0 = λ z. fits T.tiler z.shape b.task.now.space h.port.shape ≡ true in
    let S : List ℕ → Type 0 = λ z. fits T.tiler A.shape z h.port.shape ≡ true in
    let R : Port → Type 0 = λ z. fits T.tiler A.shape c.repeated_at-task.result.now.space z.shape ≡ true in
    subst R (sym port) (subst S (sym space) (subst Q (sym array) (subst P (sym tiler)
    (in_fits m c.task.ensures.flat.sound b.number b.up c.args.port c.args.tiler c.args.outer b.task.now b.around.now b.r.now c.requires.there.0 c.requires.there.1 c.requires.place h by))))

pub returns : goal.returns
returns c =
    let m = c.args.self.now.model in
    let b = c.args.body in
    let h = c.requires.there.2 in
    let by = c.requires.tiled h.node h.task h.port h.at_node h.listed in
    let o = in_tiler m c.task.ensures.flat.sound b.number b.up c.args.port c.args.tiler c.args.outer b.task.now b.around.now b.r.now c.requires.there.0 c.requires.there.1 c.requires.place h by in
    let here = c.task.ensures.task in
    let same_task = (one_node m b.number h.node here.0 h.task c.task.result.now h.at_node here.1).1 in
    let port : c.input.result.now ≡ h.port = read_port inputs_of h.task c.task.result.now c.args.port h.port c.input.result.now same_task h.listed c.input.ensures in
    let tiler = read_item b.task.now.tilers c.as_slice-2.result.now c.args.tiler o.0 c.index-as_slice-tiler.result (c.as_slice-2.ensures ∙ ap (λ (t : Repeated). t.tilers) c.repeated_at-task.ensures) o.2 in
    let array = read_item b.task.now.ins c.as_slice.result.now c.args.outer o.3.port c.index-as_slice-outer.result (c.as_slice.ensures ∙ ap (λ (t : Repeated). t.ins) c.repeated_at-task.ensures) o.3.listed in
    let space : c.repeated_at-task.result.now.space ≡ b.task.now.space = ap (λ (t : Repeated). t.space) c.repeated_at-task.ensures in
    let place = c.requires.place in
    let T : TilerOn = get_or c.as_slice-2.result.now c.args.tiler c.index-as_slice-tiler.result in
    let A : Port = get_or c.as_slice.result.now c.args.outer c.index-as_slice-outer.result in
    let s : StepOf = record { tiler = T.tiler; array = A.shape; space = c.repeated_at-task.result.now.space; pattern = c.input.result.now.shape; from = length b.around.now; r = b.r.now } in
    let inner : h.task ≡ place.inner = (one_node m b.number h.node (ToBody b.task.now.space ∷ place.node) h.task place.inner h.at_node place.at_body).1 in
    let listed : slice_get (inputs_of place.inner) c.args.port ≡ Some h.port = subst (λ t. slice_get (inputs_of t) c.args.port ≡ Some h.port) inner h.listed in
    let between = fed_between m c.task.ensures.flat.sound b.number b.up c.args.port c.args.tiler c.args.outer b.task.now b.around.now b.r.now place h.port s listed c.requires.tiled (record {
      tiler = o.0;
      tiler_at = o.2;
      tiler_is = ap (λ (z : TilerOn). z.tiler) tiler;
      port = o.3.port;
      port_at = o.3.listed;
      array_is = ap (λ (z : Port). z.shape) array;
      space_is = space;
      pattern_is = ap (λ (z : Port). z.shape) port;
      from_is = refl;
    }) in
    pushed_step m inputs_of b.number c.args.port b.up c.args.outer c.args.levels.now.items c.push.new.levels.items s c.in_ok-level.level c.push.result c.in_ok-level.ensures between c.push.ensures
