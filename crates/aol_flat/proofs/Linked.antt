-- Following an input of a repetition by a link between repetitions, by numbers.
use Rattle.std.proofs.Common.{◌≡◌, ℕ, ℤ, ◌<◌, Bool, true, false, ◌||◌, not, List, [], ◌∷◌, ◌++◌, length, Option, Some, None, is_some, option_map, unwrap_or, slice_get, sym, ◌∙◌, ap, refl, subst}
use Rattle.std.specs.List.{list_all}
use Rattle.std.proofs.lemmas.Bool.{eqb-true}
use Rattle.aol_shape.specs.Lists.{same}
use Rattle.aol_shape.specs.Shape.{IsPointOf, size, point_at}
use Rattle.aol_tiler.specs.Matrices.{TilerOf}
use Rattle.aol_tiler.specs.Tiler.{fits, address, address_point}
use Rattle.aol_expr_tree.specs.declared.port.Port.{Port}
use Rattle.aol_link.specs.declared.link.Choice.{Choice}
use Rattle.aol_link.specs.declared.link.Fallback.TheVariants.{Number, Tiled}
use Rattle.aol_link.specs.declared.link.Interlink.{Interlink}
use Rattle.aol_link.specs.Links.{source_repetition, stepped_back, first_choice, ends_in_always, is_always, is_below}
use Rattle.aol_link.specs.Types.{IsLinked, IsDefaulted}
use Rattle.aol_model_types.specs.declared.document.Model.{Model}
use Rattle.aol_model_types.specs.declared.place.Key.TheVariants.{KLinks}
use Rattle.aol_model_types.specs.declared.task.Repeated.{Repeated}
use Rattle.aol_model_types.specs.declared.task.Task.{Task}
use Rattle.aol_model_types.specs.declared.task.Task.TheVariants as tasks
use Rattle.aol_model_types.specs.Places.{to_key}
use Rattle.aol_model_types.specs.Rules.{task_named, inputs_of, outputs_of, inputs_named, outputs_named, port_shape, fits_in, interlink_checks, links_inner, spans_space, defaults_fit, fallback_fits, has_last_resort, has_dimensions, ends_with_always}
use Rattle.aol_flat.specs.Accept.{IsSound}
use Rattle.aol_flat.specs.Feed.{IsNumberOf, IsFedByLink}
use Rattle.aol_flat.specs.Follow.{IsElementOf, IsRepetition, LeadsTo, element_on}
use Rattle.aol_flat.specs.Home.{Kept, Constant, handed, origin, origin_home, home_of, tiler_at, link_into_repetition, default_choice, fallback_origin}
use Rattle.aol_flat.specs.Node.{ToBody, space_around, place_on, node_task}
use Rattle.aol_flat.specs.Place.{Place, IntoRepetition, Element, task_at}
use Rattle.aol_flat.proofs.Among.{get_among}
use Rattle.aol_flat.proofs.Arrays.{address_back}
use Rattle.aol_flat.proofs.Checked.{IsTaskOf, member, of_repeated}
use Rattle.aol_flat.proofs.Exists.{source_inside}
use Rattle.aol_flat.proofs.Fitting.{inner_before, repeated_known}
use Rattle.aol_flat.proofs.Given.{AllByRecursion-at}
use Rattle.aol_flat.proofs.HasShape.{equal_shapes}
use Rattle.aol_flat.proofs.Homes.{input_home, output_home, link_step, default_step}
use Rattle.aol_flat.proofs.Inside.{point_both, place_in_body}
use Rattle.aol_flat.proofs.Names.{both-true, same-equal}
use Rattle.aol_flat.proofs.NodeAt.{one_node, known, task_there_on, limits_known}
use Rattle.aol_flat.proofs.Once.{all_at}
use Rattle.aol_flat.proofs.PortsOf.{own_input, own_output, input_shape_on, input_side, output_side}
use Rattle.aol_flat.proofs.Real.{shape_limits}
use Rattle.aol_flat.proofs.Sites.{find-passes}

-- what all rules say of a link
pub record IsLinkOf (r : Repeated) (l : Interlink) : Type 0 where
  pub spans : length l.distance ≡ length r.space
  pub last : (l.wrap || ends_with_always l.rest) ≡ true
  pub dimensions : list_all (λ (c : Choice). is_below (length r.space) c.when) l.rest ≡ true

ends_in : (cs : List Choice) → ends_with_always cs ≡ true → ends_in_always cs ≡ true
ends_in [] h = h
ends_in (c ∷ []) h = h
ends_in (c ∷ d ∷ cs) h = ends_in (d ∷ cs) (both-true (not (is_always c.when)) (ends_with_always (d ∷ cs)) h).1

ends_unless : (w b : Bool) → w ≡ false → (w || b) ≡ true → b ≡ true
ends_unless true b h k = cc
ends_unless false b h k = k

module _ (m : Model) (sound : IsSound m) (number above k i j : ℕ) (r : Repeated) (around last : List ℕ) (x : ℕ) (e : Element) (b : IsRepetition m number above r around last)
    (h : IsElementOf m inputs_of number k (around ++ last) x e) (by : IsFedByLink m h.node h.task h.port i j) where
  one : (h.node ≡ ToBody r.space ∷ b.node) × (h.task ≡ b.inner)
  one = one_node m number h.node (ToBody r.space ∷ b.node) h.task b.inner h.at_node b.at_body

  same_up : by.up ≡ b.node
  same_up = let f : ToBody by.task.space ∷ by.up ≡ ToBody r.space ∷ b.node = sym by.place.is ∙ one.0 in cc

  same_repeated : by.task ≡ r
  same_repeated =
      let f : Some (tasks.Repeated by.task) ≡ Some (tasks.Repeated r) = sym by.place.above ∙ (ap (node_task m) same_up ∙ (known m above b.node (tasks.Repeated r) b.at_up).task) in
      cc

  -- the link, as one of the repeated task's
  pub record LinkBy (z : Repeated) (t : Task) : Type 0 where
    pub untiled : tiler_at z h.port.name ≡ None
    pub link : Interlink
    pub found : link_into_repetition z h.port.name ≡ Some link
    pub at : slice_get z.links i ≡ Some link
    pub port : IsNumberOf (outputs_of t) link.from j

  pub the_link : LinkBy r b.inner
  the_link =
      let P : Repeated → Type 0 = λ z. LinkBy z h.task in
      let Q : Task → Type 0 = λ t. LinkBy r t in
      subst Q one.1 (subst P same_repeated (record { untiled = by.untiled; link = by.link; found = by.found; at = by.at; port = by.port }))

  into : the_link.link.to ≡ h.port.name
  into = same-equal the_link.link.to h.port.name (find-passes (λ (z : Interlink). same z.to h.port.name) r.links the_link.link the_link.found)

  s : IsTaskOf m (tasks.Repeated r)
  s = repeated_known m sound number above b.node r b.inner b.at_body b.at_up

  before : task_named s.before r.task ≡ Some b.inner
  before = inner_before m sound number above b.node r b.inner b.at_body b.at_up s

  listed_there : slice_get (inputs_of b.inner) k ≡ Some h.port
  listed_there = subst (λ t. slice_get (inputs_of t) k ≡ Some h.port) one.1 h.listed

  whole_point : (y : List ℕ) → IsPointOf r.space y → IsPointOf (space_around (ToBody r.space ∷ b.node)) (around ++ y)
  whole_point y inside = point_both (space_around b.node) r.space around y b.around_inside inside

  at_place : task_at m (place_on b.node around) ≡ Some (tasks.Repeated r)
  at_place = task_there_on m sound above b.node (tasks.Repeated r) around b.at_up b.around_inside

  -- what the rules say of it
  h18 : (links_inner s.before r the_link.link ≡ true) × (defaults_fit s.before r the_link.link ≡ true) × IsLinkOf r the_link.link
  h18 =
      let l = the_link.link in
      let q = member (interlink_checks s.before r) (to_key s.place KLinks) r.links l (of_repeated s.before s.place r s.holds).links (get_among r.links i l the_link.at) in
      let a = both-true (links_inner s.before r l) _ q.holds in
      let a' = both-true (spans_space r l) _ a.1 in
      let a'' = both-true (defaults_fit s.before r l) _ a'.1 in
      let a3 = both-true (has_last_resort l) _ a''.1 in
      let a4 = both-true (has_dimensions r l) true a3.1 in
      (a.0, a''.0, record { spans = eqb-true (length l.distance) (length r.space) a'.0; last = a3.0; dimensions = a4.0 })

  pub linked : IsLinked the_link.link r.space last
  linked = record { distance = h18.2.spans; repetition = b.inside }

  pub link_shape : the_link.port.port.shape ≡ h.port.shape
  link_shape =
      let l = the_link.link in
      let q = the_link.port.port in
      let both = equal_shapes (port_shape (outputs_named s.before r.task) l.from) (port_shape (inputs_named s.before r.task) l.to) h18.0 in
      let gives : port_shape (outputs_named s.before r.task) l.from ≡ Some q.shape =
      ap (λ o. port_shape (unwrap_or (option_map outputs_of o) []) l.from) before
      ∙ (ap (port_shape (outputs_of b.inner)) (sym the_link.port.named)
      ∙ own_output m sound number (ToBody r.space ∷ b.node) b.inner (around ++ last) b.at_body (whole_point last b.inside) j q the_link.port.listed) in
      let takes : port_shape (inputs_named s.before r.task) l.to ≡ Some h.port.shape =
      ap (λ o. port_shape (unwrap_or (option_map inputs_of o) []) l.to) before
      ∙ (ap (port_shape (inputs_of b.inner)) into
      ∙ own_input m sound number (ToBody r.space ∷ b.node) b.inner (around ++ last) b.at_body (whole_point last b.inside) k h.port listed_there) in
      let f : Some both.0 ≡ Some q.shape = sym both.1 ∙ gives in
      let g : Some both.0 ≡ Some h.port.shape = sym both.2 ∙ takes in
      let f' : both.0 ≡ q.shape = cc in
      let g' : both.0 ≡ h.port.shape = cc in
      sym f' ∙ g'

  here_home : home_of m e ≡ origin_home m (origin m (IntoRepetition last ∷ place_on b.node around) the_link.link.to (point_at h.port.shape x))
  here_home =
      ap (home_of m) (h.is ∙ ap (λ n. element_on n (around ++ last) h.port x) one.0)
      ∙ (input_home m (element_on (ToBody r.space ∷ b.node) (around ++ last) h.port x)
      (input_side m sound number (ToBody r.space ∷ b.node) b.inner (around ++ last) b.at_body (whole_point last b.inside) k h.port listed_there x)
      ∙ (ap (λ (z : Place). origin_home m (origin m z h.port.name (point_at h.port.shape x))) (place_in_body r.space b.node around last b.inside)
      ∙ ap (λ n. origin_home m (origin m (IntoRepetition last ∷ place_on b.node around) n (point_at h.port.shape x))) (sym into)))

  no_tiler : tiler_at r the_link.link.to ≡ None
  no_tiler = ap (tiler_at r) into ∙ the_link.untiled

  this_link : link_into_repetition r the_link.link.to ≡ Some the_link.link
  this_link = ap (link_into_repetition r) into ∙ the_link.found

  -- from another repetition
  module _ (source : List ℕ) (leads : source_repetition the_link.link.wrap the_link.link.distance r.space last ≡ Some source) where
    pub inside_source : IsPointOf r.space source
    inside_source = source_inside m sound r s the_link.link last source b.inside h18.2.spans leads

    pub link_leads : LeadsTo m e outputs_of number j (around ++ source) x
    link_leads =
        let l = the_link.link in
        let q = the_link.port.port in
        record {
          next = element_on (ToBody r.space ∷ b.node) (around ++ source) q x;
          is = record {
            node = ToBody r.space ∷ b.node;
            task = b.inner;
            at_node = b.at_body;
            port = q;
            listed = the_link.port.listed;
            around = whole_point source inside_source;
            within = subst (λ z. x < size z) (sym link_shape) h.within;
            is = refl;
          };
          home = here_home
              ∙ (ap (origin_home m) (link_step m r (place_on b.node around) last source (point_at h.port.shape x) l at_place no_tiler this_link leads)
              ∙ (ap (λ n. Kept (handed m (IntoRepetition source ∷ place_on b.node around) n (point_at h.port.shape x))) (sym the_link.port.named)
              ∙ (ap (λ z. Kept (handed m (IntoRepetition source ∷ place_on b.node around) q.name (point_at z x))) (sym link_shape)
              ∙ (ap (λ (z : Place). Kept (handed m z q.name (point_at q.shape x))) (sym (place_in_body r.space b.node around source inside_source))
              ∙ sym (output_home m (element_on (ToBody r.space ∷ b.node) (around ++ source) q x)
              (output_side m sound number (ToBody r.space ∷ b.node) b.inner (around ++ source) b.at_body (whole_point source inside_source) j q the_link.port.listed x))))));
        }

  -- from outside the space
  module _ (outside : source_repetition the_link.link.wrap the_link.link.distance r.space last ≡ None) where
    not_wrapped : the_link.link.wrap ≡ false
    not_wrapped = go the_link.link.wrap refl
      where
        go : (w : Bool) → the_link.link.wrap ≡ w → the_link.link.wrap ≡ false
        go false f = f
        go true f = let k = rw f at outside in cc

    pub defaulted : IsDefaulted the_link.link r.space last
    defaulted =
        let limits = limits_known m sound above b.node (tasks.Repeated r) b.at_up in
        record {
          linked = linked;
          outside = outside;
          dimensions = h18.2.dimensions;
          last = ends_in the_link.link.rest (ends_unless the_link.link.wrap (ends_with_always the_link.link.rest) not_wrapped h18.2.last);
          few = (AllByRecursion-at _ r.links i the_link.link limits.links the_link.at).few;
        }

    -- the choice that stands in
    module _ (choice : Choice) (chosen : default_choice the_link.link r.space last ≡ Some choice) where
      choice_home : home_of m e ≡ origin_home m (fallback_origin r last (point_at h.port.shape x) (origin m (place_on b.node around)) choice.take)
      choice_home = here_home ∙ ap (origin_home m) (default_step m r (place_on b.node around) last (point_at h.port.shape x) the_link.link choice at_place no_tiler this_link outside chosen)

      pub number_home : (n : ℤ) → choice.take ≡ Number n → home_of m e ≡ Constant n
      number_home n takes = choice_home ∙ ap (λ d. origin_home m (fallback_origin r last (point_at h.port.shape x) (origin m (place_on b.node around)) d)) takes

      module _ (outer : List ℕ) (tiler : TilerOf) (takes : choice.take ≡ Tiled outer tiler) where
        chosen_fits : fits_in tiler (port_shape r.ins outer) r.space (port_shape (inputs_named s.before r.task) the_link.link.to) ≡ true
        chosen_fits =
            sym (ap (fallback_fits s.before r the_link.link) takes)
            ∙ all_at (λ (c : Choice). fallback_fits s.before r the_link.link c.take) the_link.link.rest choice h18.1
            (get_among the_link.link.rest (first_choice the_link.link.rest r.space (stepped_back last the_link.link.distance)) choice chosen)

        pub outer_there : is_some (port_shape r.ins outer) ≡ true
        outer_there = go (port_shape r.ins outer) refl chosen_fits
          where
            go : (o : Option (List ℕ)) → port_shape r.ins outer ≡ o → fits_in tiler o r.space (port_shape (inputs_named s.before r.task) the_link.link.to) ≡ true → is_some o ≡ true
            go None f g = cc
            go (Some a) f g = refl

        module _ (n : ℕ) (q : Port) (listed : slice_get r.ins n ≡ Some q) (named : q.name ≡ outer) where
          own : port_shape r.ins outer ≡ Some q.shape
          own = ap (port_shape r.ins) (sym named) ∙ own_input m sound above b.node (tasks.Repeated r) around b.at_up b.around_inside n q listed

          pub default_fits : fits tiler q.shape r.space h.port.shape ≡ true
          default_fits =
              let takes_shape : port_shape (inputs_named s.before r.task) the_link.link.to ≡ Some h.port.shape =
              ap (λ o. port_shape (unwrap_or (option_map inputs_of o) []) the_link.link.to) before
              ∙ (ap (port_shape (inputs_of b.inner)) into
              ∙ own_input m sound number (ToBody r.space ∷ b.node) b.inner (around ++ last) b.at_body (whole_point last b.inside) k h.port listed_there) in
              sym (ap (λ a. fits_in tiler a r.space (Some h.port.shape)) own) ∙ (sym (ap (fits_in tiler (port_shape r.ins outer) r.space) takes_shape) ∙ chosen_fits)

          pub default_leads : (y : ℕ) → y ≡ address tiler q.shape last (point_at h.port.shape x) → y < size q.shape → LeadsTo m e inputs_of above n around y
          default_leads y address_is small =
              let limits = shape_limits m sound (place_on b.node around) q.name q.shape (input_shape_on m sound above b.node (tasks.Repeated r) around b.at_up b.around_inside n q listed) in
              record {
                next = element_on b.node around q y;
                is = record { node = b.node; task = tasks.Repeated r; at_node = b.at_up; port = q; listed = listed; around = b.around_inside; within = small; is = refl };
                home = choice_home
                    ∙ (ap (λ d. origin_home m (fallback_origin r last (point_at h.port.shape x) (origin m (place_on b.node around)) d)) takes
                    ∙ (ap (λ (a : Option (List ℕ)). origin_home m (origin m (place_on b.node around) outer (address_point tiler (unwrap_or a []) last (point_at h.port.shape x)))) own
                    ∙ (ap (λ z. origin_home m (origin m (place_on b.node around) z (address_point tiler q.shape last (point_at h.port.shape x)))) (sym named)
                    ∙ (ap (λ z. origin_home m (origin m (place_on b.node around) q.name z)) (sym (address_back tiler q.shape r.space h.port.shape last (point_at h.port.shape x) default_fits limits))
                    ∙ (ap (λ z. origin_home m (origin m (place_on b.node around) q.name (point_at q.shape z))) (sym address_is)
                    ∙ sym (input_home m (element_on b.node around q y) (input_side m sound above b.node (tasks.Repeated r) around b.at_up b.around_inside n q listed y)))))));
              }
