-- One step of following an output upwards, by numbers.
use Rattle.std.proofs.Common.{◌≡◌, ℕ, ◌<◌, true, ◌&&◌, List, ◌∷◌, ◌++◌, Option, Some, None, is_none, slice_get, sym, ◌∙◌, ap, refl, subst}
use Rattle.aol_shape.specs.Lists.{same}
use Rattle.aol_shape.specs.Shape.{IsPointOf, size, point_at}
use Rattle.aol_tiler.specs.Tiler.{fits, address, address_point}
use Rattle.aol_expr_tree.specs.declared.port.Port.{Port}
use Rattle.aol_model_types.specs.declared.document.Model.{Model}
use Rattle.aol_model_types.specs.declared.task.Compound.{Compound}
use Rattle.aol_model_types.specs.declared.task.Plain.{Plain}
use Rattle.aol_model_types.specs.declared.task.Repeated.{Repeated}
use Rattle.aol_model_types.specs.declared.task.Task.{Task}
use Rattle.aol_model_types.specs.declared.task.Task.TheVariants as tasks
use Rattle.aol_model_types.specs.declared.task.TilerOn.{TilerOn}
use Rattle.aol_model_types.specs.Rules.{inputs_of, outputs_of, port_shape, from_shape, to_shape}
use Rattle.aol_flat.specs.Accept.{IsSound}
use Rattle.aol_flat.specs.Feed.{IsNumberOf, IsHandedByLink, IsHandedByTiler, Hands}
use Rattle.aol_flat.specs.declared.feed.Hand.{Hand}
use Rattle.aol_flat.specs.declared.feed.Hand.TheVariants as hands
use Rattle.aol_flat.specs.Follow.{IsElementOf, IsRepetition, IsBodyIndexed, LeadsTo, element_on}
use Rattle.aol_flat.specs.declared.nodes.NodeRow.{NodeRow}
use Rattle.aol_flat.specs.Home.{Kept, handed, home_of, is_part_end, link_up, tiler_at}
use Rattle.aol_flat.specs.Node.{Node, ToPart, ToBody, space_around, place_on, node_task}
use Rattle.aol_flat.specs.NodeTable.{IsNode, IsNodeRow}
use Rattle.aol_flat.specs.Place.{Place, IntoPart, IntoRepetition, Element, task_at, instance_of_end}
use Rattle.aol_flat.proofs.Arrays.{address_back}
use Rattle.aol_flat.proofs.Fitting.{tiler_fits_ports}
use Rattle.aol_flat.proofs.HasShape.{one_shape, moved_shape, equal_shapes, given_shape, taken_shape}
use Rattle.aol_flat.proofs.Homes.{output_home, up_step, outer_step}
use Rattle.aol_flat.proofs.Inside.{point_both, place_in_body}
use Rattle.aol_flat.proofs.LinkSides.{link_there}
use Rattle.aol_flat.proofs.Names.{both-true, same-equal}
use Rattle.aol_flat.proofs.NodeAt.{one_node, known, task_there_on, not_root, is_under, under_up}
use Rattle.aol_flat.proofs.Once.{found_among}
use Rattle.aol_flat.proofs.PortsOf.{own_output, whole_output, output_shape_on, output_side}
use Rattle.aol_flat.proofs.Real.{shape_limits}
use Rattle.aol_flat.proofs.Sites.{find-passes}
use Rattle.aol_flat.proofs.SourceRight.{part_end}

nothing_there : (o : Option (List ℕ)) → is_none o ≡ true → o ≡ None
nothing_there None h = refl
nothing_there (Some x) h = cc

module _ (m : Model) (sound : IsSound m) where
  -- an output that a plain link hands up
  module _ (number above : ℕ) (up : Node) (part : ℕ) (c : Compound) (t : Task) (at : List ℕ) (x k j : ℕ) (p q : Port) (l : Plain)
      (here : IsNode m number (ToPart part ∷ up) t) (there : IsNode m above up (tasks.Compound c)) (around : IsPointOf (space_around up) at)
      (listed : slice_get (outputs_of t) k ≡ Some p) (found : link_up c part p.name ≡ Some l) (outer : slice_get c.outs j ≡ Some q) (named : q.name ≡ l.to.port) where
    place : Place
    place = place_on up at

    at_place : task_at m (place_on up at) ≡ Some (tasks.Compound c)
    at_place = task_there_on m sound above up (tasks.Compound c) at there around

    passes : (is_part_end c part p.name l.from ≡ true) × (is_none l.to.part ≡ true)
    passes = both-true (is_part_end c part p.name l.from) (is_none l.to.part) (find-passes (λ (z : Plain). is_part_end c part p.name z.from && is_none z.to.part) c.links l found)

    own : l.to.part ≡ None
    own = nothing_there l.to.part passes.1

    up_shape : q.shape ≡ p.shape
    up_shape =
        let r = link_there m sound.shapes (place_on up at) c l at_place (found_among (λ (z : Plain). is_part_end c part p.name z.from && is_none z.to.part) c.links l found) in
        let s = equal_shapes (from_shape r.0.before c l.from) (to_shape r.0.before c l.to) r.1.equal in
        let end = part_end c part p.name l.from passes.0 in
        let from_place : instance_of_end c (place_on up at) l.from.part ≡ IntoPart part ∷ place_on up at =
        ap (instance_of_end c (place_on up at)) end.1 ∙ ap (λ (n : ℕ). IntoPart n ∷ place_on up at) end.2 in
        let to_place : instance_of_end c (place_on up at) l.to.part ≡ place_on up at = ap (instance_of_end c (place_on up at)) own in
        let inner = one_shape m (IntoPart part ∷ place_on up at) p.name s.0 p.shape
        (moved_shape m (instance_of_end c (place_on up at) l.from.part) (IntoPart part ∷ place_on up at) l.from.port p.name s.0 from_place end.3 (given_shape m sound (place_on up at) c l.from s.0 at_place r.0 s.1))
        (output_shape_on m sound number (ToPart part ∷ up) t at here around k p listed) in
        let outside = one_shape m (place_on up at) q.name s.0 q.shape
        (moved_shape m (instance_of_end c (place_on up at) l.to.part) (place_on up at) l.to.port q.name s.0 to_place (sym named) (taken_shape m sound (place_on up at) c l.to s.0 at_place r.0 s.2))
        (output_shape_on m sound above up (tasks.Compound c) at there around j q outer) in
        sym outside ∙ inner

    up_home : home_of m (element_on (ToPart part ∷ up) at p x) ≡ home_of m (element_on up at q x)
    up_home =
        output_home m (element_on (ToPart part ∷ up) at p x) (output_side m sound number (ToPart part ∷ up) t at here around k p listed x)
        ∙ (ap (λ e. Kept e)
        (up_step m c (place_on up at) part p.name (point_at p.shape x) l at_place found
        ∙ (ap (λ n. handed m (place_on up at) n (point_at p.shape x)) (sym named)
        ∙ ap (λ s. handed m (place_on up at) q.name (point_at s x)) (sym up_shape)))
        ∙ sym (output_home m (element_on up at q x) (output_side m sound above up (tasks.Compound c) at there around j q outer x)))

  -- the number of an element's node, and its task, are those of the table
  pub handed_up : (number k j : ℕ) (row : NodeRow) (at : List ℕ) (x : ℕ) (e : Element) → IsNodeRow m number row → (h : IsElementOf m outputs_of number k at x e) → IsHandedByLink m h.node h.port j
      → (row.up < number) × LeadsTo m e outputs_of row.up j at x
  handed_up number k j row at x e known h by =
      let P : Node → Type 0 = λ n. IsNode m number n h.task in
      let Q : Node → Type 0 = λ n. IsPointOf (space_around n) at in
      let here = subst P by.place.is h.at_node in
      let around = subst Q by.place.is h.around in
      let some = not_root m sound number row (ToPart by.part) by.up h.task known here in
      let u = is_under m sound number row (ToPart by.part ∷ by.up) h.task some known here in
      let up : u.up ≡ by.up = under_up m number row (ToPart by.part) by.up h.task u in
      let above : Some u.above ≡ Some (tasks.Compound by.task) = sym u.above_is ∙ (ap (node_task m) up ∙ by.place.above) in
      let task : u.above ≡ tasks.Compound by.task = cc in
      let R : Node → Type 0 = λ n. IsNode m row.up n u.above in
      let S : Task → Type 0 = λ z. IsNode m row.up by.up z in
      let there = subst S task (subst R up u.at_up) in
      let q = by.port.port in
      let shapes = up_shape number row.up by.up by.part by.task h.task at x k j h.port q by.link here there around h.listed by.found by.port.listed by.port.named in (
        u.lower,
        record {
          next = element_on by.up at q x;
          is = record {
            node = by.up;
            task = tasks.Compound by.task;
            at_node = there;
            port = q;
            listed = by.port.listed;
            around = around;
            within = subst (λ s. x < size s) (sym shapes) h.within;
            is = refl;
          };
          home = ap (home_of m) (h.is ∙ ap (λ n. element_on n at h.port x) by.place.is)
              ∙ up_home number row.up by.up by.part by.task h.task at x k j h.port q by.link here there around h.listed by.found by.port.listed by.port.named;
        },
      )

  -- an output of a repetition that a tiler hands up
  module _ (number above : ℕ) (up : Node) (r : Repeated) (t : Task) (around last : List ℕ) (x k j : ℕ) (p q : Port) (o : TilerOn)
      (here : IsNode m number (ToBody r.space ∷ up) t) (there : IsNode m above up (tasks.Repeated r)) (in_around : IsPointOf (space_around up) around) (in_space : IsPointOf r.space last)
      (listed : slice_get (outputs_of t) k ≡ Some p) (found : tiler_at r p.name ≡ Some o) (outer : slice_get r.outs j ≡ Some q) (named : q.name ≡ o.outer) where
    inner : o.inner ≡ p.name
    inner = same-equal o.inner p.name (find-passes (λ (z : TilerOn). same z.inner p.name) r.tilers o found)

    whole_point : IsPointOf (space_around (ToBody r.space ∷ up)) (around ++ last)
    whole_point = point_both (space_around up) r.space around last in_around in_space

    pub output_fits : fits o.tiler q.shape r.space p.shape ≡ true
    output_fits =
        tiler_fits_ports m sound number above up r t here there o p q (found_among (λ (z : TilerOn). same z.inner p.name) r.tilers o found)
        (ap (port_shape (r.ins ++ r.outs)) (sym named) ∙ whole_output m sound above up (tasks.Repeated r) around there in_around j q outer)
        (ap (port_shape (inputs_of t ++ outputs_of t)) inner ∙ whole_output m sound number (ToBody r.space ∷ up) t (around ++ last) here whole_point k p listed)

    pub tiled_home : home_of m (element_on (ToBody r.space ∷ up) (around ++ last) p x) ≡ home_of m (element_on up around q (address o.tiler q.shape last (point_at p.shape x)))
    tiled_home =
        let e = element_on (ToBody r.space ∷ up) (around ++ last) p x in
        let a = address o.tiler q.shape last (point_at p.shape x) in
        let own : port_shape r.outs o.outer ≡ Some q.shape = ap (port_shape r.outs) (sym named) ∙ own_output m sound above up (tasks.Repeated r) around there in_around j q outer in
        let limits = shape_limits m sound (place_on up around) q.name q.shape (output_shape_on m sound above up (tasks.Repeated r) around there in_around j q outer) in
        output_home m e (output_side m sound number (ToBody r.space ∷ up) t (around ++ last) here whole_point k p listed x)
        ∙ (ap (λ z. Kept z)
        (ap (λ (z : Place). handed m z p.name (point_at p.shape x)) (place_in_body r.space up around last in_space)
        ∙ (ap (λ n. handed m (IntoRepetition last ∷ place_on up around) n (point_at p.shape x)) (sym inner)
        ∙ (outer_step m r (place_on up around) last (point_at p.shape x) q.shape o (task_there_on m sound above up (tasks.Repeated r) around there in_around) (ap (tiler_at r) inner ∙ found) own
        ∙ (ap (λ n. handed m (place_on up around) n (address_point o.tiler q.shape last (point_at p.shape x))) (sym named)
        ∙ ap (handed m (place_on up around) q.name) (sym (address_back o.tiler q.shape r.space p.shape last (point_at p.shape x) output_fits limits))))))
        ∙ sym (output_home m (element_on up around q a) (output_side m sound above up (tasks.Repeated r) around there in_around j q outer a)))

  -- the same by numbers
  module _ (number above k i j : ℕ) (r : Repeated) (around last : List ℕ) (x : ℕ) (e : Element) (b : IsRepetition m number above r around last) (h : IsElementOf m outputs_of number k (around ++ last) x e)
      (by : IsHandedByTiler m h.node h.port i j) where
    one : (h.node ≡ ToBody r.space ∷ b.node) × (h.task ≡ b.inner)
    one = one_node m number h.node (ToBody r.space ∷ b.node) h.task b.inner h.at_node b.at_body

    same_up : by.up ≡ b.node
    same_up = let f : ToBody by.task.space ∷ by.up ≡ ToBody r.space ∷ b.node = sym by.place.is ∙ one.0 in cc

    same_repeated : by.task ≡ r
    same_repeated =
        let f : Some (tasks.Repeated by.task) ≡ Some (tasks.Repeated r) = sym by.place.above ∙ (ap (node_task m) same_up ∙ (known m above b.node (tasks.Repeated r) b.at_up).task) in
        cc

    abbrev pub OutTiler : Repeated → Type 0
    OutTiler z = (o : TilerOn) × (tiler_at z h.port.name ≡ Some o) × (slice_get z.tilers i ≡ Some o) × IsNumberOf z.outs o.outer j

    pub out_tiler : OutTiler r
    out_tiler = subst OutTiler same_repeated (by.tiler, by.found, by.at, by.port)

    listed_there : slice_get (outputs_of b.inner) k ≡ Some h.port
    listed_there = subst (λ t. slice_get (outputs_of t) k ≡ Some h.port) one.1 h.listed

    pub out_fits : fits out_tiler.0.tiler out_tiler.3.port.shape r.space h.port.shape ≡ true
    out_fits =
        output_fits number above b.node r b.inner around last x k j h.port out_tiler.3.port out_tiler.0 b.at_body b.at_up b.around_inside b.inside listed_there out_tiler.1 out_tiler.3.listed out_tiler.3.named

    pub out_leads : (y : ℕ) → y ≡ address out_tiler.0.tiler out_tiler.3.port.shape last (point_at h.port.shape x) → y < size out_tiler.3.port.shape → LeadsTo m e outputs_of above j around y
    out_leads y address_is small = record {
      next = element_on b.node around out_tiler.3.port y;
      is = record {
        node = b.node;
        task = tasks.Repeated r;
        at_node = b.at_up;
        port = out_tiler.3.port;
        listed = out_tiler.3.listed;
        around = b.around_inside;
        within = small;
        is = refl;
      };
      home = ap (home_of m) (h.is ∙ ap (λ n. element_on n (around ++ last) h.port x) one.0)
          ∙ (tiled_home number above b.node r b.inner around last x k j h.port out_tiler.3.port out_tiler.0 b.at_body b.at_up b.around_inside b.inside listed_there out_tiler.1 out_tiler.3.listed out_tiler.3.named
          ∙ ap (λ z. home_of m (element_on b.node around out_tiler.3.port z)) (sym address_is));
    }

-- an output of a body that no tiler hands up is stored
pub body_stored : (m : Model) (node up : Node) (space : List ℕ) (p : Port) (h : Hand) → node ≡ ToBody space ∷ up → ((i j : ℕ) → h ≡ hands.Tiled i j → ⊥) → Hands m node p h → Hands m node p hands.Stored
body_stored m node up space p hands.Stored is untiled f = f
body_stored m node up space p (hands.Own j) is untiled f = let e : ToPart f.part ∷ f.up ≡ ToBody space ∷ up = sym f.place.is ∙ is in cc
body_stored m node up space p (hands.Tiled i j) is untiled f = absurd (untiled i j refl)

-- a tiler hands an output of a body up
pub tiled_body : (m : Model) (number k i j : ℕ) (at : List ℕ) (x : ℕ) (e : Element) → (h : IsElementOf m outputs_of number k at x e) → IsHandedByTiler m h.node h.port i j → IsBodyIndexed m number at
tiled_body m number k i j at x e h by =
    let P : Node → Type 0 = λ n. IsNode m number n h.task in
    let Q : Node → Type 0 = λ n. IsPointOf (space_around n) at in
    (by.up, by.task, h.task, subst P by.place.is h.at_node, subst Q by.place.is h.around)
