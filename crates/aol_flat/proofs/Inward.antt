-- One step of following an input, by numbers.
use Rattle.std.proofs.Common.{◌≡◌, ℕ, ◌<◌, true, List, ◌∷◌, ◌++◌, Option, Some, None, slice_get, sym, ◌∙◌, ap, refl, subst}
use Rattle.aol_shape.specs.Lists.{same}
use Rattle.aol_shape.specs.Shape.{IsPointOf, size, point_at}
use Rattle.aol_tiler.specs.Tiler.{fits, address, address_point}
use Rattle.aol_expr_tree.specs.declared.port.Port.{Port}
use Rattle.aol_model_types.specs.declared.document.Model.{Model}
use Rattle.aol_model_types.specs.declared.task.Compound.{Compound}
use Rattle.aol_model_types.specs.declared.task.Plain.{Plain}
use Rattle.aol_model_types.specs.declared.task.Repeated.{Repeated}
use Rattle.aol_model_types.specs.declared.task.Task.{Task}
use Rattle.aol_model_types.specs.declared.task.Task.TheVariants as tasks
use Rattle.aol_model_types.specs.declared.task.TilerOn.{TilerOn}
use Rattle.aol_model_types.specs.Rules.{inputs_of, outputs_of, port_shape, from_shape, to_shape}
use Rattle.aol_flat.specs.Accept.{IsSound}
use Rattle.aol_flat.specs.Feed.{IsNumberOf, IsFedByOwn, IsFedByPart, IsFedByTiler, IsPartOf}
use Rattle.aol_flat.specs.Follow.{IsElementOf, IsRepetition, IsBodyIndexed, LeadsTo, element_on}
use Rattle.aol_flat.specs.declared.nodes.NodeRow.{NodeRow}
use Rattle.aol_flat.specs.Home.{Kept, handed, origin, origin_home, end_origin, home_of, is_part_end, link_into_part, tiler_at}
use Rattle.aol_flat.specs.Node.{Node, ToPart, ToBody, space_around, place_on, node_task}
use Rattle.aol_flat.specs.NodeTable.{IsNode, IsNodeRow}
use Rattle.aol_flat.specs.Tasks.{part_number}
use Rattle.aol_flat.specs.Place.{Place, IntoPart, IntoRepetition, Element, task_at, instance_of_end}
use Rattle.aol_flat.proofs.Arrays.{address_back}
use Rattle.aol_flat.proofs.Fitting.{tiler_fits_ports}
use Rattle.aol_flat.proofs.HasShape.{HasShape, one_shape, moved_shape, equal_shapes, given_shape, taken_shape}
use Rattle.aol_flat.proofs.Homes.{input_home, output_home, part_step, tiled_step}
use Rattle.aol_flat.proofs.Inside.{point_both, place_in_body}
use Rattle.aol_flat.proofs.LinkSides.{link_there}
use Rattle.aol_flat.proofs.Names.{same-equal}
use Rattle.aol_flat.proofs.NodeAt.{one_node, known, task_there_on, not_root, is_under, under_up}
use Rattle.aol_flat.proofs.Once.{found_among}
use Rattle.aol_flat.proofs.PortsOf.{own_input, whole_input, input_shape_on, input_side, output_shape_on, output_side}
use Rattle.aol_flat.proofs.Real.{shape_limits}
use Rattle.aol_flat.proofs.Sites.{find-passes}
use Rattle.aol_flat.proofs.SourceRight.{part_end}

module _ (m : Model) (sound : IsSound m) where
  -- an input of a part that a plain link feeds
  module _ (number above : ℕ) (up : Node) (part : ℕ) (c : Compound) (t : Task) (at : List ℕ) (x k : ℕ) (p : Port) (l : Plain)
      (here : IsNode m number (ToPart part ∷ up) t) (there : IsNode m above up (tasks.Compound c)) (around : IsPointOf (space_around up) at)
      (listed : slice_get (inputs_of t) k ≡ Some p) (found : link_into_part c part p.name ≡ Some l) where
    at_place : task_at m (place_on up at) ≡ Some (tasks.Compound c)
    at_place = task_there_on m sound above up (tasks.Compound c) at there around

    end : (name : List ℕ) × (l.to.part ≡ Some name) × (part_number c name ≡ part) × (l.to.port ≡ p.name)
    end = part_end c part p.name l.to (find-passes (λ (z : Plain). is_part_end c part p.name z.to) c.links l found)

    -- the other end has the same shape
    giver_shape : (place : Place) (q : Port) → instance_of_end c (place_on up at) l.from.part ≡ place → q.name ≡ l.from.port → HasShape m place q.name q.shape → q.shape ≡ p.shape
    giver_shape place q from_place named own =
        let r = link_there m sound.shapes (place_on up at) c l at_place (found_among (λ (z : Plain). is_part_end c part p.name z.to) c.links l found) in
        let s = equal_shapes (from_shape r.0.before c l.from) (to_shape r.0.before c l.to) r.1.equal in
        let to_place : instance_of_end c (place_on up at) l.to.part ≡ IntoPart part ∷ place_on up at =
        ap (instance_of_end c (place_on up at)) end.1 ∙ ap (λ (n : ℕ). IntoPart n ∷ place_on up at) end.2 in
        let inner = one_shape m (IntoPart part ∷ place_on up at) p.name s.0 p.shape
        (moved_shape m (instance_of_end c (place_on up at) l.to.part) (IntoPart part ∷ place_on up at) l.to.port p.name s.0 to_place end.3 (taken_shape m sound (place_on up at) c l.to s.0 at_place r.0 s.2))
        (input_shape_on m sound number (ToPart part ∷ up) t at here around k p listed) in
        let outside = one_shape m place q.name s.0 q.shape
        (moved_shape m (instance_of_end c (place_on up at) l.from.part) place l.from.port q.name s.0 from_place (sym named) (given_shape m sound (place_on up at) c l.from s.0 at_place r.0 s.1)) own in
        sym outside ∙ inner

    start : (o : Option (List ℕ)) → l.from.part ≡ o
        → home_of m (element_on (ToPart part ∷ up) at p x) ≡ origin_home m (end_origin c (place_on up at) (point_at p.shape x) (origin m (place_on up at)) l.from.port o)
    start o is =
        input_home m (element_on (ToPart part ∷ up) at p x) (input_side m sound number (ToPart part ∷ up) t at here around k p listed x)
        ∙ ap (origin_home m)
        (part_step m c (place_on up at) part p.name (point_at p.shape x) l at_place found
        ∙ ap (end_origin c (place_on up at) (point_at p.shape x) (origin m (place_on up at)) l.from.port) is)

    -- from an own input
    module _ (j : ℕ) (q : Port) (own : l.from.part ≡ None) (outer : slice_get c.ins j ≡ Some q) (named : q.name ≡ l.from.port) where
      pub own_shape : q.shape ≡ p.shape
      own_shape = giver_shape (place_on up at) q (ap (instance_of_end c (place_on up at)) own) named (input_shape_on m sound above up (tasks.Compound c) at there around j q outer)

      pub own_home : home_of m (element_on (ToPart part ∷ up) at p x) ≡ home_of m (element_on up at q x)
      own_home =
          start None own
          ∙ (ap (origin_home m)
          (ap (λ n. origin m (place_on up at) n (point_at p.shape x)) (sym named)
          ∙ ap (λ s. origin m (place_on up at) q.name (point_at s x)) (sym own_shape))
          ∙ sym (input_home m (element_on up at q x) (input_side m sound above up (tasks.Compound c) at there around j q outer x)))

    -- from an output of another part
    module _ (j giver : ℕ) (name : List ℕ) (u : Task) (q : Port) (of_part : l.from.part ≡ Some name) (given : IsNode m giver (ToPart (part_number c name) ∷ up) u)
        (outer : slice_get (outputs_of u) j ≡ Some q) (named : q.name ≡ l.from.port) where
      pub part_shape : q.shape ≡ p.shape
      part_shape =
          giver_shape (IntoPart (part_number c name) ∷ place_on up at) q (ap (instance_of_end c (place_on up at)) of_part) named
          (output_shape_on m sound giver (ToPart (part_number c name) ∷ up) u at given around j q outer)

      pub part_home : home_of m (element_on (ToPart part ∷ up) at p x) ≡ home_of m (element_on (ToPart (part_number c name) ∷ up) at q x)
      part_home =
          start (Some name) of_part
          ∙ (ap (λ n. Kept (handed m (IntoPart (part_number c name) ∷ place_on up at) n (point_at p.shape x))) (sym named)
          ∙ (ap (λ s. Kept (handed m (IntoPart (part_number c name) ∷ place_on up at) q.name (point_at s x))) (sym part_shape)
          ∙ sym (output_home m (element_on (ToPart (part_number c name) ∷ up) at q x) (output_side m sound giver (ToPart (part_number c name) ∷ up) u at given around j q outer x))))

  -- an own input of the node above feeds an input
  pub fed_from_own : (number k j : ℕ) (row : NodeRow) (at : List ℕ) (x : ℕ) (e : Element) → IsNodeRow m number row → (h : IsElementOf m inputs_of number k at x e) → IsFedByOwn m h.node h.port j
      → (row.up < number) × LeadsTo m e inputs_of row.up j at x
  fed_from_own number k j row at x e table h by =
      let P : Node → Type 0 = λ n. IsNode m number n h.task in
      let Q : Node → Type 0 = λ n. IsPointOf (space_around n) at in
      let here = subst P by.place.is h.at_node in
      let around = subst Q by.place.is h.around in
      let u = under_part number row by.up by.part by.task h.task table here by.place.above in
      let q = by.port.port in
      let shapes = own_shape number row.up by.up by.part by.task h.task at x k h.port by.link here u.1 around h.listed by.found j q by.own by.port.listed by.port.named in (
        u.0,
        record {
          next = element_on by.up at q x;
          is = record {
            node = by.up;
            task = tasks.Compound by.task;
            at_node = u.1;
            port = q;
            listed = by.port.listed;
            around = around;
            within = subst (λ s. x < size s) (sym shapes) h.within;
            is = refl;
          };
          home = ap (home_of m) (h.is ∙ ap (λ n. element_on n at h.port x) by.place.is)
              ∙ own_home number row.up by.up by.part by.task h.task at x k h.port by.link here u.1 around h.listed by.found j q by.own by.port.listed by.port.named;
        },
      )
    where
      under_part : (number : ℕ) (row : NodeRow) (up : Node) (part : ℕ) (c : Compound) (t : Task) → IsNodeRow m number row → IsNode m number (ToPart part ∷ up) t → node_task m up ≡ Some (tasks.Compound c)
          → (row.up < number) × IsNode m row.up up (tasks.Compound c)
      under_part number row up part c t table here is =
          let u = is_under m sound number row (ToPart part ∷ up) t (not_root m sound number row (ToPart part) up t table here) table here in
          let same_up : u.up ≡ up = under_up m number row (ToPart part) up t u in
          let above : Some u.above ≡ Some (tasks.Compound c) = sym u.above_is ∙ (ap (node_task m) same_up ∙ is) in
          let task : u.above ≡ tasks.Compound c = cc in
          let R : Node → Type 0 = λ n. IsNode m row.up n u.above in
          let S : Task → Type 0 = λ z. IsNode m row.up up z in
          (u.lower, subst S task (subst R same_up u.at_up))

  -- an output of another part feeds an input; a node above is numbered, since its part is
  pub fed_from_part : (number k i j above : ℕ) (at : List ℕ) (x : ℕ) (e : Element) → (h : IsElementOf m inputs_of number k at x e) → (by : IsFedByPart m h.node h.port i j) → IsNode m above by.up (tasks.Compound by.task)
      → LeadsTo m e outputs_of i j at x
  fed_from_part number k i j above at x e h by there =
      let P : Node → Type 0 = λ n. IsNode m number n h.task in
      let Q : Node → Type 0 = λ n. IsPointOf (space_around n) at in
      let here = subst P by.place.is h.at_node in
      let around = subst Q by.place.is h.around in
      let g = by.by in
      let q = g.number.port in
      let shapes = part_shape number above by.up by.part by.task h.task at x k h.port g.link here there around h.listed g.found j i g.name g.giver q g.of_part g.at g.number.listed g.number.named in
      record {
        next = element_on (ToPart (part_number by.task g.name) ∷ by.up) at q x;
        is = record {
          node = ToPart (part_number by.task g.name) ∷ by.up;
          task = g.giver;
          at_node = g.at;
          port = q;
          listed = g.number.listed;
          around = around;
          within = subst (λ s. x < size s) (sym shapes) h.within;
          is = refl;
        };
        home = ap (home_of m) (h.is ∙ ap (λ n. element_on n at h.port x) by.place.is)
            ∙ part_home number above by.up by.part by.task h.task at x k h.port g.link here there around h.listed g.found j i g.name g.giver q g.of_part g.at g.number.listed g.number.named;
      }

  -- an input of a repetition that a tiler feeds
  module _ (number above : ℕ) (up : Node) (r : Repeated) (t : Task) (around last : List ℕ) (x k j : ℕ) (p q : Port) (o : TilerOn)
      (here : IsNode m number (ToBody r.space ∷ up) t) (there : IsNode m above up (tasks.Repeated r)) (in_around : IsPointOf (space_around up) around) (in_space : IsPointOf r.space last)
      (listed : slice_get (inputs_of t) k ≡ Some p) (found : tiler_at r p.name ≡ Some o) (outer : slice_get r.ins j ≡ Some q) (named : q.name ≡ o.outer) where
    inner : o.inner ≡ p.name
    inner = same-equal o.inner p.name (find-passes (λ (z : TilerOn). same z.inner p.name) r.tilers o found)

    whole_point : IsPointOf (space_around (ToBody r.space ∷ up)) (around ++ last)
    whole_point = point_both (space_around up) r.space around last in_around in_space

    pub input_fits : fits o.tiler q.shape r.space p.shape ≡ true
    input_fits =
        tiler_fits_ports m sound number above up r t here there o p q (found_among (λ (z : TilerOn). same z.inner p.name) r.tilers o found)
        (ap (port_shape (r.ins ++ r.outs)) (sym named) ∙ whole_input m sound above up (tasks.Repeated r) around there in_around j q outer)
        (ap (port_shape (inputs_of t ++ outputs_of t)) inner ∙ whole_input m sound number (ToBody r.space ∷ up) t (around ++ last) here whole_point k p listed)

    pub fed_home : home_of m (element_on (ToBody r.space ∷ up) (around ++ last) p x) ≡ home_of m (element_on up around q (address o.tiler q.shape last (point_at p.shape x)))
    fed_home =
        let e = element_on (ToBody r.space ∷ up) (around ++ last) p x in
        let a = address o.tiler q.shape last (point_at p.shape x) in
        let own : port_shape r.ins o.outer ≡ Some q.shape = ap (port_shape r.ins) (sym named) ∙ own_input m sound above up (tasks.Repeated r) around there in_around j q outer in
        let limits = shape_limits m sound (place_on up around) q.name q.shape (input_shape_on m sound above up (tasks.Repeated r) around there in_around j q outer) in
        input_home m e (input_side m sound number (ToBody r.space ∷ up) t (around ++ last) here whole_point k p listed x)
        ∙ (ap (origin_home m)
        (ap (λ (z : Place). origin m z p.name (point_at p.shape x)) (place_in_body r.space up around last in_space)
        ∙ (ap (λ n. origin m (IntoRepetition last ∷ place_on up around) n (point_at p.shape x)) (sym inner)
        ∙ (tiled_step m r (place_on up around) last (point_at p.shape x) q.shape o (task_there_on m sound above up (tasks.Repeated r) around there in_around) (ap (tiler_at r) inner ∙ found) own
        ∙ (ap (λ n. origin m (place_on up around) n (address_point o.tiler q.shape last (point_at p.shape x))) (sym named)
        ∙ ap (origin m (place_on up around) q.name) (sym (address_back o.tiler q.shape r.space p.shape last (point_at p.shape x) input_fits limits))))))
        ∙ sym (input_home m (element_on up around q a) (input_side m sound above up (tasks.Repeated r) around there in_around j q outer a)))

  -- the same by numbers
  module _ (number above k i j : ℕ) (r : Repeated) (around last : List ℕ) (x : ℕ) (e : Element) (b : IsRepetition m number above r around last) (h : IsElementOf m inputs_of number k (around ++ last) x e)
      (by : IsFedByTiler m h.node h.port i j) where
    one : (h.node ≡ ToBody r.space ∷ b.node) × (h.task ≡ b.inner)
    one = one_node m number h.node (ToBody r.space ∷ b.node) h.task b.inner h.at_node b.at_body

    same_up : by.up ≡ b.node
    same_up = let f : ToBody by.task.space ∷ by.up ≡ ToBody r.space ∷ b.node = sym by.place.is ∙ one.0 in cc

    same_repeated : by.task ≡ r
    same_repeated =
        let f : Some (tasks.Repeated by.task) ≡ Some (tasks.Repeated r) = sym by.place.above ∙ (ap (node_task m) same_up ∙ (known m above b.node (tasks.Repeated r) b.at_up).task) in
        cc

    abbrev pub InTiler : Repeated → Type 0
    InTiler z = (o : TilerOn) × (tiler_at z h.port.name ≡ Some o) × (slice_get z.tilers i ≡ Some o) × IsNumberOf z.ins o.outer j

    pub in_tiler : InTiler r
    in_tiler = subst InTiler same_repeated (by.tiler, by.found, by.at, by.port)

    listed_there : slice_get (inputs_of b.inner) k ≡ Some h.port
    listed_there = subst (λ t. slice_get (inputs_of t) k ≡ Some h.port) one.1 h.listed

    pub in_fits : fits in_tiler.0.tiler in_tiler.3.port.shape r.space h.port.shape ≡ true
    in_fits =
        input_fits number above b.node r b.inner around last x k j h.port in_tiler.3.port in_tiler.0 b.at_body b.at_up b.around_inside b.inside listed_there in_tiler.1 in_tiler.3.listed in_tiler.3.named

    pub in_leads : (y : ℕ) → y ≡ address in_tiler.0.tiler in_tiler.3.port.shape last (point_at h.port.shape x) → y < size in_tiler.3.port.shape → LeadsTo m e inputs_of above j around y
    in_leads y address_is small = record {
      next = element_on b.node around in_tiler.3.port y;
      is = record {
        node = b.node;
        task = tasks.Repeated r;
        at_node = b.at_up;
        port = in_tiler.3.port;
        listed = in_tiler.3.listed;
        around = b.around_inside;
        within = small;
        is = refl;
      };
      home = ap (home_of m) (h.is ∙ ap (λ n. element_on n (around ++ last) h.port x) one.0)
          ∙ (fed_home number above b.node r b.inner around last x k j h.port in_tiler.3.port in_tiler.0 b.at_body b.at_up b.around_inside b.inside listed_there in_tiler.1 in_tiler.3.listed in_tiler.3.named
          ∙ ap (λ z. home_of m (element_on b.node around in_tiler.3.port z)) (sym address_is));
    }

-- a tiler feeds an input of a body
pub fed_body : (m : Model) (number k i j : ℕ) (at : List ℕ) (x : ℕ) (e : Element) → (h : IsElementOf m inputs_of number k at x e) → IsFedByTiler m h.node h.port i j → IsBodyIndexed m number at
fed_body m number k i j at x e h by =
    let P : Node → Type 0 = λ n. IsNode m number n h.task in
    let Q : Node → Type 0 = λ n. IsPointOf (space_around n) at in
    (by.up, by.task, h.task, subst P by.place.is h.at_node, subst Q by.place.is h.around)

-- the node above a part is numbered
pub part_above : (m : Model) → IsSound m → (number : ℕ) (row : NodeRow) (node : Node) (up : Node) (part : ℕ) (c : Compound) (t : Task) → IsNodeRow m number row → IsNode m number node t → IsPartOf m node up part c
    → IsNode m row.up up (tasks.Compound c)
part_above m sound number row node up part c t table at place =
    let P : Node → Type 0 = λ n. IsNode m number n t in
    let here = subst P place.is at in
    let u = is_under m sound number row (ToPart part ∷ up) t (not_root m sound number row (ToPart part) up t table here) table here in
    let same_up : u.up ≡ up = under_up m number row (ToPart part) up t u in
    let above : Some u.above ≡ Some (tasks.Compound c) = sym u.above_is ∙ (ap (node_task m) same_up ∙ place.above) in
    let task : u.above ≡ tasks.Compound c = cc in
    let R : Node → Type 0 = λ n. IsNode m row.up n u.above in
    let S : Task → Type 0 = λ z. IsNode m row.up up z in
    subst S task (subst R same_up u.at_up)
