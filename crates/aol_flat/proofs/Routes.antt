-- Trails from ports to homes, step by step.
use Rattle.std.proofs.Common.{◌≡◌, ℕ, zero, suc, ◌+◌, ◌*◌, ◌^◌, ◌<◌, ◌≤◌, List, [], ◌∷◌, ◌++◌, length, take, drop, map, set, get_or, append-nil, append_assoc, Option, Some, None, slice_get, Result, Ok, Err, IfOk, IfSome, OnOk, MatchOption, Bool, true, false, IsTrue, sym, ◌∙◌, ap, refl, arith, subst, ◌⊎◌, inl, inr}
use Rattle.std.specs.List.{AllByRecursion}
use Rattle.std.proofs.Math.Seq.{take-append_seam, drop-append_seam}
use Rattle.std.proofs.lemmas.List.{length-append, take_at}
use Rattle.std.proofs.lemmas.Option.{slice_get_within, slice_get-get_or}
use Rattle.aol_shape.specs.declared.memory.NoMemory.{NoMemory}
use Rattle.aol_shape.specs.Shape.{IsPointOf, IsShape, size, rank, point_at}
use Rattle.aol_shape.proofs.Points.{rank-lt-size}
use Rattle.aol_shape.proofs.Sizes.{size_positive}
use Rattle.aol_model_types.specs.Types.{IsTask}
use Rattle.aol_tiler.specs.Matrices.{TilerOf}
use Rattle.aol_tiler.specs.Tiler.{Fits, address, address_point}
use Rattle.aol_trail.specs.Trail.{StepOf, TrailOf, IsStepAt, IsTrailAt, Reaches, step_at, step_rank, repetition_at, base_at, cell_on, rank_on, trail_at}
use Rattle.aol_expr_tree.specs.declared.port.Port.{Port}
use Rattle.aol_model_types.specs.declared.document.Model.{Model}
use Rattle.aol_model_types.specs.declared.task.Repeated.{Repeated}
use Rattle.aol_model_types.specs.declared.task.Task.{Task}
use Rattle.aol_model_types.specs.declared.task.Task.TheVariants as tasks
use Rattle.aol_model_types.specs.declared.task.TilerOn.{TilerOn}
use Rattle.aol_model_types.specs.Rules.{inputs_of, outputs_of}
use Rattle.aol_flat.specs.Accept.{IsFlat, IsSound}
use Rattle.aol_flat.specs.Feed.{IsFeed, IsHand}
use Rattle.aol_flat.specs.declared.feed.Feed.TheVariants as feeds
use Rattle.aol_flat.specs.declared.feed.Hand.TheVariants as hands
use Rattle.aol_flat.specs.Cursor.{HasPortAt, ArePortReads, ArePortCells}
use Rattle.aol_flat.specs.declared.route.Route.{Route}
use Rattle.aol_flat.specs.Follow.{IsElementOf, IsCellOfPort, IsRepetition, LeadsTo, element_on}
use Rattle.aol_flat.specs.Laid.{Laid, IsCellOf, IsReadOf}
use Rattle.aol_flat.specs.declared.view.Read.{Read}
use Rattle.aol_flat.specs.Node.{Node, ToPart, ToBody, space_around, place_on}
use Rattle.aol_flat.specs.LeafCursor.{IsAlong}
use Rattle.aol_flat.specs.NodeTable.{IsNode, IsLeafSpot}
use Rattle.aol_flat.specs.declared.nodes.LeafSpot.{LeafSpot}
use Rattle.aol_flat.specs.Place.{Element}
use Rattle.aol_flat.specs.Route.{IsOnTrail, IsCursorOn, LeadsHome, IsRoute, AreRoutes, AreRoutesBefore, CanGive, AreTrailReads, AreTrailCells, HasSome, IsSpaceOf, IsStepBetween, PushesStep, WayOn, trail_to}
use Rattle.aol_flat.proofs.Few.{cells_few, space_few}
use Rattle.aol_flat.proofs.Inside.{point_length, point_split}
use Rattle.aol_flat.proofs.NodeAt.{one_node}
use Rattle.aol_flat.proofs.Inward.{in_tiler, in_fits, in_leads}
use Rattle.aol_flat.proofs.Outward.{out_tiler, out_fits, out_leads}
use Rattle.aol_flat.proofs.PortsOf.{cell_moves, input_shape_on, output_shape_on}
use Rattle.aol_flat.proofs.Real.{shape_limits}
use Rattle.aol_flat.proofs.Shapes.{address_inside}

-- ---- at the end

pub ends : (f : Laid) → IsFlat f → (number : ℕ) (node : Node) (t : Task) (first many : ℕ) (at rest : List ℕ) (x : ℕ) (e : Element) → IsNode f.model number node t → IsPointOf (space_around node) at
    → IsCellOf f e (first + (rank (space_around node) at * many + x)) → IsOnTrail f e (at ++ rest) (trail_to [] (space_around node) first many) x
ends f flat number node t first many at rest x e here around cell =
    let space = space_around node in
    let count : length space ≡ length at = sym (point_length space at around) in
    let front : take (length space) (at ++ rest) ≡ at = ap (λ n. take n (at ++ rest)) count ∙ take-append_seam at rest in
    let low = rank-lt-size space at around in
    let few = space_few f.model flat.sound flat.limits number node t here in
    let within = slice_get_within f.cells (first + (rank space at * many + x)) cell.home cell.at_cell in
    let cells : length f.cells < 2 ^ 32 = omega (arith, cells_few f.model flat.sound flat.limits, ap (length {A = Element}) flat.laid) in
    let base : first + rank space (take (length space) (at ++ rest)) * many ≡ first + rank space at * many = ap (λ y. first + rank space y * many) front in
    let all : first + (rank space at * many + x) ≡ (first + rank space (take (length space) (at ++ rest)) * many) + x = omega (arith, base) in
    record {
      there = record {
        steps = tt;
        enough = omega (arith, count, length-append at rest);
        inside = subst (IsPointOf space) (sym front) around;
        low = omega (arith, low, few, ap (rank space) front);
        small = omega (arith, within, cells, base);
      };
      reaches = tt;
      cell = subst (IsCellOf f e) all cell;
    }

-- ---- along a plain link

pub plain_on : (f : Laid) (ports others : Task → List Port) (number k up j : ℕ) (t : TrailOf) → ((at : List ℕ) (x : ℕ) (e : Element) → IsElementOf f.model ports number k at x e → LeadsTo f.model e others up j at x)
    → LeadsHome f others up j t → LeadsHome f ports number k t
plain_on f ports others number k up j t step home at rest x e h =
    let l = step at x e h in
    let o = home at rest x l.next l.is in
    record { there = o.there; reaches = o.reaches; cell = cell_moves f e l.next (cell_on (trail_at (at ++ rest) t) x) l.home o.cell }

-- ---- through a tiler

pub step_on : (f : Laid) (ports : Task → List Port) (number k up j first many : ℕ) (s : StepOf) (ss : List StepOf) (around : List ℕ) → IsStepBetween f.model ports number k up j s
    → LeadsHome f ports up j (trail_to ss around first many) → LeadsHome f ports number k (trail_to (s ∷ ss) around first many)
step_on f ports number k up j first many s ss around step home at rest x e h =
    let l = step at rest x e h in
    let y : ℕ = step_rank (step_at (at ++ rest) s) x in
    let t : TrailOf = trail_to ss around first many in
    let joined : l.around ++ (l.last ++ rest) ≡ at ++ rest = sym (append_assoc l.around l.last rest) ∙ ap (λ z. z ++ rest) (sym l.whole) in
    let o : IsOnTrail f l.leads.next (at ++ rest) t y = subst (λ z. IsOnTrail f l.leads.next z t y) joined (home l.around (l.last ++ rest) y l.leads.next l.leads.is) in
    record {
      there = record { steps = (l.there, o.there.steps); enough = o.there.enough; inside = o.there.inside; low = o.there.low; small = o.there.small };
      reaches = (l.within, o.reaches);
      cell = cell_moves f e l.leads.next (cell_on (trail_at (at ++ rest) t) y) l.leads.home o.cell;
    }

-- the indices of an instance of a body, as a repetition
pub record IsApart (m : Model) (number up : ℕ) (r : Repeated) (count : ℕ) (at : List ℕ) : Type 0 where
  pub around : List ℕ
  pub last : List ℕ
  pub whole : at ≡ around ++ last
  pub place : IsRepetition m number up r around last
  pub long : length around ≡ count

pub apart : (m : Model) (number up : ℕ) (r : Repeated) (around last : List ℕ) → IsRepetition m number up r around last → (node : Node) (t : Task) (at : List ℕ) → IsNode m number node t → IsPointOf (space_around node) at
    → IsApart m number up r (length around) at
apart m number up r around last b node t at here inside =
    let one = one_node m number node (ToBody r.space ∷ b.node) t b.inner here b.at_body in
    let P : Node → Type 0 = λ n. IsPointOf (space_around n) at in
    let z = point_split (space_around b.node) r.space at (subst P one.0 inside) in
    record {
      around = z.0;
      last = z.1;
      whole = z.2;
      place = record { lower = b.lower; node = b.node; inner = b.inner; at_up = b.at_up; at_body = b.at_body; around_inside = z.3; inside = z.4 };
      long = point_length (space_around b.node) z.0 z.3 ∙ sym (point_length (space_around b.node) around b.around_inside);
    }

-- a step at such an instance
pub record IsThere (at rest last : List ℕ) (s : StepOf) : Type 0 where
  pub step : IsStepAt (at ++ rest) s
  pub is : repetition_at s (at ++ rest) ≡ last

pub there_at : (s : StepOf) (at rest around last : List ℕ) → at ≡ around ++ last → length around ≡ s.from → IsPointOf s.space last → IsThere at rest last s
there_at s at rest around last whole from inside =
    let count : length last ≡ length s.space = point_length s.space last inside in
    let joined : at ++ rest ≡ around ++ (last ++ rest) = ap (λ z. z ++ rest) whole ∙ append_assoc around last rest in
    let behind : drop s.from (at ++ rest) ≡ last ++ rest = ap (drop s.from) joined ∙ (ap (λ n. drop n (around ++ (last ++ rest))) (sym from) ∙ drop-append_seam around (last ++ rest)) in
    let is : take (length s.space) (drop s.from (at ++ rest)) ≡ last = ap (take (length s.space)) behind ∙ take_at last rest (length s.space) count in
    record {
      step = record {
        enough = omega (arith, ap (length {A = ℕ}) joined, length-append around (last ++ rest), length-append last rest, count, from);
        inside = subst (IsPointOf s.space) (sym is) inside;
      };
      is = is;
    }

-- an address is inside its array
pub address_low : (t : TilerOf) (array space pattern r i : List ℕ) → Fits t array space pattern → IsShape array → address t array r i < size array
address_low t array space pattern r i fits shape = rank-lt-size array (address_point t array r i) (address_inside t array space pattern r i fits shape)

-- ---- the entries around a node

pub space_of_part : (m : Model) (number up k : ℕ) (node above : Node) (t u : Task) (space : List ℕ) → IsSpaceOf m number space → IsNode m number node t → node ≡ ToPart k ∷ above → IsNode m up above u → IsSpaceOf m up space
space_of_part m number up k node above t u space is here under there other o at =
    let one = one_node m up other above o u at there in
    is node t here ∙ (ap space_around under ∙ sym (ap space_around one.0))

pub space_of_body : (m : Model) (number up : ℕ) (r : Repeated) (around last space : List ℕ) → IsSpaceOf m number space → IsRepetition m number up r around last → IsSpaceOf m up (take (length around) space)
space_of_body m number up r around last space is b other o at =
    let one = one_node m up other b.node o (tasks.Repeated r) at b.at_up in
    let whole : space ≡ space_around b.node ++ r.space = is (ToBody r.space ∷ b.node) b.inner b.at_body in
    let count : length (space_around b.node) ≡ length around = sym (point_length (space_around b.node) around b.around_inside) in
    ap (take (length around)) whole ∙ (take_at (space_around b.node) r.space (length around) count ∙ sym (ap space_around one.0))

-- ---- what a way answers

pub way_moves : {X : Type 0} (result : Result (Option X) NoMemory) (P Q : X → Type 0) → ((x : X) → P x → Q x) → IfOk result (λ o. IfSome o P) → IfOk result (λ o. IfSome o Q)
way_moves (Ok None) P Q f h = tt
way_moves (Ok (Some x)) P Q f h = f x h
way_moves (Err e) P Q f h = tt

pub plain_way : (f : Laid) (ports others : Task → List Port) (number k up j first many : ℕ) (old new : List StepOf) (around : List ℕ)
    → ((at : List ℕ) (x : ℕ) (e : Element) → IsElementOf f.model ports number k at x e → LeadsTo f.model e others up j at x) → WayOn f others up j old new around first many → WayOn f ports number k old new around first many
plain_way f ports others number k up j first many old new around step w =
    record { more = w.more; added = w.added; leads = plain_on f ports others number k up j (trail_to w.more around first many) step w.leads }

pub tiled_way : (f : Laid) (ports : Task → List Port) (number k up j first many : ℕ) (old mid new : List StepOf) (s : StepOf) (around : List ℕ) → mid ≡ old ++ s ∷ [] → IsStepBetween f.model ports number k up j s
    → WayOn f ports up j mid new around first many → WayOn f ports number k old new around first many
tiled_way f ports number k up j first many old mid new s around pushed step w =
    record {
      more = s ∷ w.more;
      added = w.added ∙ (ap (λ z. z ++ w.more) pushed ∙ append_assoc old (s ∷ []) w.more);
      leads = step_on f ports number k up j first many s w.more around step w.leads;
    }

some_same : {X : Type 0} (o : Option X) (x y : X) → o ≡ Some x → o ≡ Some y → x ≡ y
some_same o x y e f = let g : Some x ≡ Some y = sym e ∙ f in cc

-- ---- the step of a tiler

-- what the code reads for it
pub record IsReadStep (r : Repeated) (ports : List Port) (i j : ℕ) (count : ℕ) (p : Port) (s : StepOf) : Type 0 where
  pub tiler : TilerOn
  pub tiler_at : slice_get r.tilers i ≡ Some tiler
  pub tiler_is : s.tiler ≡ tiler.tiler
  pub port : Port
  pub port_at : slice_get ports j ≡ Some port
  pub array_is : s.array ≡ port.shape
  pub space_is : s.space ≡ r.space
  pub pattern_is : s.pattern ≡ p.shape
  pub from_is : s.from ≡ count

same_rank : (s : StepOf) (a : List ℕ) (x : ℕ) (t : TilerOf) (array last pattern : List ℕ) → s.tiler ≡ t → s.array ≡ array → repetition_at s a ≡ last → s.pattern ≡ pattern → step_rank (step_at a s) x ≡ address t array last (point_at pattern x)
same_rank s a x t array last pattern e f g h =
    ap (λ z. address z s.array (repetition_at s a) (point_at s.pattern x)) e
    ∙ (ap (λ z. address t z (repetition_at s a) (point_at s.pattern x)) f
    ∙ (ap (λ z. address t array z (point_at s.pattern x)) g ∙ ap (λ z. address t array last (point_at z x)) h))

module _ (m : Model) (sound : IsSound m) (number up k i j : ℕ) (r : Repeated) (around last : List ℕ) (b : IsRepetition m number up r around last) (p : Port) (s : StepOf) where
  pub fed_between : slice_get (inputs_of b.inner) k ≡ Some p → IsFeed m number k (feeds.Tiled i j) → IsReadStep r r.ins i j (length around) p s → IsStepBetween m inputs_of number k up j s
  fed_between listed feed read at rest x e h =
      let a = apart m number up r around last b h.node h.task at h.at_node h.around in
      let E : List ℕ → Type 0 = λ z. IsElementOf m inputs_of number k z x e in
      let g : IsElementOf m inputs_of number k (a.around ++ a.last) x e = subst E a.whole h in
      let by = feed g.node g.task g.port g.at_node g.listed in
      let o = in_tiler m sound number up k i j r a.around a.last x e a.place g by in
      let fit = in_fits m sound number up k i j r a.around a.last x e a.place g by in
      let task : g.task ≡ b.inner = (one_node m number g.node (ToBody r.space ∷ b.node) g.task b.inner g.at_node b.at_body).1 in
      let port : p ≡ g.port = some_same (slice_get (inputs_of b.inner) k) p g.port listed (subst (λ t. slice_get (inputs_of t) k ≡ Some g.port) task g.listed) in
      let tiler : read.tiler ≡ o.0 = some_same (slice_get r.tilers i) read.tiler o.0 read.tiler_at o.2 in
      let outer : read.port ≡ o.3.port = some_same (slice_get r.ins j) read.port o.3.port read.port_at o.3.listed in
      let here = there_at s at rest a.around a.last a.whole (a.long ∙ sym read.from_is) (subst (λ z. IsPointOf z a.last) (sym read.space_is) a.place.inside) in
      let y : ℕ = step_rank (step_at (at ++ rest) s) x in
      let is : y ≡ address o.0.tiler o.3.port.shape a.last (point_at g.port.shape x) =
      same_rank s (at ++ rest) x o.0.tiler o.3.port.shape a.last g.port.shape (read.tiler_is ∙ ap (λ (z : TilerOn). z.tiler) tiler) (read.array_is ∙ ap (λ (z : Port). z.shape) outer) here.is
      (read.pattern_is ∙ ap (λ (z : Port). z.shape) port) in
      let shape = shape_limits m sound (place_on a.place.node a.around) o.3.port.name o.3.port.shape
      (input_shape_on m sound up a.place.node (tasks.Repeated r) a.around a.place.at_up a.place.around_inside j o.3.port o.3.listed) in
      let low : y < size o.3.port.shape = subst (λ z. z < size o.3.port.shape) (sym is) (address_low o.0.tiler o.3.port.shape r.space g.port.shape a.last (point_at g.port.shape x) fit shape) in
      record {
        around = a.around;
        last = a.last;
        whole = a.whole;
        there = here.step;
        within = subst (λ z. x < size z) (sym (read.pattern_is ∙ ap (λ (z : Port). z.shape) port)) g.within;
        leads = in_leads m sound number up k i j r a.around a.last x e a.place g by y is low;
      }

  pub handed_between : slice_get (outputs_of b.inner) k ≡ Some p → IsHand m number k (hands.Tiled i j) → IsReadStep r r.outs i j (length around) p s → IsStepBetween m outputs_of number k up j s
  handed_between listed hand read at rest x e h =
      let a = apart m number up r around last b h.node h.task at h.at_node h.around in
      let E : List ℕ → Type 0 = λ z. IsElementOf m outputs_of number k z x e in
      let g : IsElementOf m outputs_of number k (a.around ++ a.last) x e = subst E a.whole h in
      let by = hand g.node g.task g.port g.at_node g.listed in
      let o = out_tiler m sound number up k i j r a.around a.last x e a.place g by in
      let fit = out_fits m sound number up k i j r a.around a.last x e a.place g by in
      let task : g.task ≡ b.inner = (one_node m number g.node (ToBody r.space ∷ b.node) g.task b.inner g.at_node b.at_body).1 in
      let port : p ≡ g.port = some_same (slice_get (outputs_of b.inner) k) p g.port listed (subst (λ t. slice_get (outputs_of t) k ≡ Some g.port) task g.listed) in
      let tiler : read.tiler ≡ o.0 = some_same (slice_get r.tilers i) read.tiler o.0 read.tiler_at o.2 in
      let outer : read.port ≡ o.3.port = some_same (slice_get r.outs j) read.port o.3.port read.port_at o.3.listed in
      let here = there_at s at rest a.around a.last a.whole (a.long ∙ sym read.from_is) (subst (λ z. IsPointOf z a.last) (sym read.space_is) a.place.inside) in
      let y : ℕ = step_rank (step_at (at ++ rest) s) x in
      let is : y ≡ address o.0.tiler o.3.port.shape a.last (point_at g.port.shape x) =
      same_rank s (at ++ rest) x o.0.tiler o.3.port.shape a.last g.port.shape (read.tiler_is ∙ ap (λ (z : TilerOn). z.tiler) tiler) (read.array_is ∙ ap (λ (z : Port). z.shape) outer) here.is
      (read.pattern_is ∙ ap (λ (z : Port). z.shape) port) in
      let shape = shape_limits m sound (place_on a.place.node a.around) o.3.port.name o.3.port.shape
      (output_shape_on m sound up a.place.node (tasks.Repeated r) a.around a.place.at_up a.place.around_inside j o.3.port o.3.listed) in
      let low : y < size o.3.port.shape = subst (λ z. z < size o.3.port.shape) (sym is) (address_low o.0.tiler o.3.port.shape r.space g.port.shape a.last (point_at g.port.shape x) fit shape) in
      record {
        around = a.around;
        last = a.last;
        whole = a.whole;
        there = here.step;
        within = subst (λ z. x < size z) (sym (read.pattern_is ∙ ap (λ (z : Port). z.shape) port)) g.within;
        leads = out_leads m sound number up k i j r a.around a.last x e a.place g by y is low;
      }

-- what is put after others
pub pushed_step : (m : Model) (ports : Task → List Port) (number k up j : ℕ) (old new : List StepOf) (s z : StepOf) (result : Result (Unit {0}) NoMemory) → z ≡ s → IsStepBetween m ports number k up j s → OnOk result (new ≡ old ++ z ∷ [])
    → OnOk result (PushesStep m ports number k up j old new)
pushed_step m ports number k up j old new s z (Ok u) same between pushed = (s, pushed ∙ ap (λ y. old ++ y ∷ []) same, between)
pushed_step m ports number k up j old new s z (Err e) same between pushed = tt

-- the port above has an element too
pub above_some : (m : Model) (ports : Task → List Port) (number k up j : ℕ) (s : StepOf) (r : Repeated) (around last at : List ℕ) → IsRepetition m number up r around last → around ++ last ≡ at → IsStepBetween m ports number k up j s
    → HasSome m ports number k at → HasSome m ports up j around
above_some m ports number k up j s r around last at b whole step p =
    let l = step at [] p.0 p.1 p.2 in
    let y : ℕ = step_rank (step_at (at ++ []) s) p.0 in
    let one = one_node m up l.leads.is.node b.node l.leads.is.task (tasks.Repeated r) l.leads.is.at_node b.at_up in
    let count : length l.around ≡ length around =
    point_length (space_around l.leads.is.node) l.around l.leads.is.around ∙ (ap (λ (n : Node). length (space_around n)) one.0 ∙ sym (point_length (space_around b.node) around b.around_inside)) in
    let same : l.around ≡ around = sym (take_at l.around l.last (length around) count) ∙ (ap (take (length around)) (sym l.whole ∙ sym whole) ∙ take_at around last (length around) refl) in
    let E : List ℕ → Type 0 = λ a. IsElementOf m ports up j a y l.leads.next in
    (y, l.leads.next, subst E same l.leads.is)

pub space_of_sibling : (m : Model) (number i k n : ℕ) (node above : Node) (t u : Task) (space : List ℕ) → IsSpaceOf m number space → IsNode m number node t → node ≡ ToPart k ∷ above → IsNode m i (ToPart n ∷ above) u → IsSpaceOf m i space
space_of_sibling m number i k n node above t u space is here under there other o at =
    let one = one_node m i other (ToPart n ∷ above) o u at there in
    is node t here ∙ (ap space_around under ∙ sym (ap space_around one.0))

pub around_short : (m : Model) (number up : ℕ) (r : Repeated) (around last space : List ℕ) → IsSpaceOf m number space → IsRepetition m number up r around last → length around ≤ length space
around_short m number up r around last space is b =
    let whole : space ≡ space_around b.node ++ r.space = is (ToBody r.space ∷ b.node) b.inner b.at_body in
    omega (arith, ap (length {A = ℕ}) whole, length-append (space_around b.node) r.space, point_length (space_around b.node) around b.around_inside)

-- ---- a trail that has moved

pub steps_moved : (a : List ℕ) (b : List ℕ) (ss : List StepOf) → map (step_at a) (map (step_at b) ss) ≡ map (step_at a) ss
steps_moved a b [] = refl
steps_moved a b (s ∷ ss) = ap (λ zs. step_at a s ∷ zs) (steps_moved a b ss)

pub steps_there : (a b : List ℕ) (ss : List StepOf) → AllByRecursion (IsStepAt a) ss → AllByRecursion (IsStepAt a) (map (step_at b) ss)
steps_there a b [] h = tt
steps_there a b (s ∷ ss) h = (record { enough = h.0.enough; inside = h.0.inside }, steps_there a b ss h.1)

pub moved_home : (f : Laid) (ports : Task → List Port) (number k : ℕ) (t new : TrailOf) (b : List ℕ) → LeadsHome f ports number k t → new ≡ trail_at b t → LeadsHome f ports number k new
moved_home f ports number k t new b home is =
    let L : TrailOf → Type 0 = LeadsHome f ports number k in
    subst L (sym is) (λ at rest x e h.
    let a = at ++ rest in
    let o = home at rest x e h in
    let same = steps_moved a b t.steps in
    let R : List StepOf → Type 0 = λ ss. Reaches ss x in
    let C : List StepOf → Type 0 = λ ss. IsCellOf f e (base_at a t + rank_on ss x) in
    record {
      there = record { steps = steps_there a b t.steps o.there.steps; enough = o.there.enough; inside = o.there.inside; low = o.there.low; small = o.there.small };
      reaches = subst R (sym same) o.reaches;
      cell = subst C (sym same) o.cell;
    })

-- where it stands it leads to the cells
pub record IsMet (f : Laid) (ports : Task → List Port) (number k : ℕ) (at : List ℕ) (new : TrailOf) (x : ℕ) : Type 0 where
  pub reaches : Reaches new.steps x
  pub small : cell_on new x < 2 ^ 32
  pub cell : IsCellOfPort f ports number k at x (cell_on new x)

pub element_there : (m : Model) (ports : Task → List Port) (number k many : ℕ) (at : List ℕ) (p : HasPortAt m ports number k many at) (x : ℕ) → x < many → IsElementOf m ports number k at x (element_on p.node at p.port x)
element_there m ports number k many at p x low =
    record { node = p.node; task = p.task; at_node = p.at_node; port = p.port; listed = p.listed; around = p.around; within = omega (arith, low, p.many_is); is = refl }

on_trail : (f : Laid) (ports : Task → List Port) (number k : ℕ) (at : List ℕ) (t : TrailOf) (x : ℕ) (e : Element) → LeadsHome f ports number k t → IsElementOf f.model ports number k at x e → IsOnTrail f e at t x
on_trail f ports number k at t x e home h = subst (λ a. IsOnTrail f e a t x) (append-nil at) (home at [] x e h)

pub can_move : (f : Laid) (ports : Task → List Port) (number k many : ℕ) (at : List ℕ) (t : TrailOf) → LeadsHome f ports number k t → HasPortAt f.model ports number k many at → 0 < many → IsTrailAt at t
can_move f ports number k many at t home p some = (on_trail f ports number k at t 0 (element_on p.node at p.port 0) home (element_there f.model ports number k many at p 0 some)).there

pub met : (f : Laid) → IsFlat f → (ports : Task → List Port) (number k many : ℕ) (at : List ℕ) (t new : TrailOf) (x : ℕ) → LeadsHome f ports number k t → new ≡ trail_at at t → HasPortAt f.model ports number k many at → x < many
    → IsMet f ports number k at new x
met f flat ports number k many at t new x home is p low =
    let M : TrailOf → Type 0 = λ z. IsMet f ports number k at z x in
    let o = on_trail f ports number k at t x (element_on p.node at p.port x) home (element_there f.model ports number k many at p x low) in
    let within = slice_get_within f.cells (cell_on (trail_at at t) x) o.cell.home o.cell.at_cell in
    subst M (sym is) (record {
      reaches = o.reaches;
      small = omega (arith, within, cells_few f.model flat.sound flat.limits, ap (length {A = Element}) flat.laid);
      cell = λ e h. (on_trail f ports number k at t x e home h).cell;
    })

-- ---- the routes of all ports

set_cases : {X : Type 0} (xs : List X) (k j : ℕ) (y x : X) → slice_get (set xs k y) j ≡ Some x → (slice_get xs j ≡ Some x) ⊎ ((j ≡ k) × (x ≡ y))
set_cases [] k j y x h = inl h
set_cases (z ∷ xs) zero zero y x h = let e : Some y ≡ Some x = h in inr (refl, cc)
set_cases (z ∷ xs) zero (suc j) y x h = inl h
set_cases (z ∷ xs) (suc k) zero y x h = inl h
set_cases (z ∷ xs) (suc k) (suc j) y x h =
    elim (set_cases xs k j y x h) [
      | inl g ↦ inl g
      | inr g ↦ inr (ap suc g.0, g.1)
    ]

pub route_set : (f : Laid) (ports : Task → List Port) (number k : ℕ) (routes : List Route) (w : Route) → AreRoutes f ports number routes → IsRoute f ports number k w → AreRoutes f ports number (set routes k w)
route_set f ports number k routes w are one j v got =
    elim (set_cases routes k j w v got) [
      | inl g ↦ are j v g
      | inr g ↦ subst (λ n. IsRoute f ports number n v) (sym g.0) (subst (IsRoute f ports number k) (sym g.1) one)
    ]

push_cases : {X : Type 0} (xs : List X) (j : ℕ) (y x : X) → slice_get (xs ++ y ∷ []) j ≡ Some x → (slice_get xs j ≡ Some x) ⊎ ((j ≡ length xs) × (x ≡ y))
push_cases [] zero y x h = let e : Some y ≡ Some x = h in inr (refl, cc)
push_cases [] (suc j) y x h = cc
push_cases (z ∷ xs) zero y x h = inl h
push_cases (z ∷ xs) (suc j) y x h =
    elim (push_cases xs j y x h) [
      | inl g ↦ inl g
      | inr g ↦ inr (ap suc g.0, g.1)
    ]

pub route_pushed : (f : Laid) (ports : Task → List Port) (number k : ℕ) (routes new : List Route) (w : Route) → AreRoutes f ports number routes → length routes ≡ k → IsRoute f ports number k w → new ≡ routes ++ w ∷ []
    → AreRoutes f ports number new
route_pushed f ports number k routes new w are many one is j v got =
    elim (push_cases routes j w v (sym (ap (λ rs. slice_get rs j) is) ∙ got)) [
      | inl g ↦ are j v g
      | inr g ↦ subst (λ n. IsRoute f ports number n v) (sym (g.0 ∙ many)) (subst (IsRoute f ports number k) (sym g.1) one)
    ]

pub route_at : (f : Laid) (ports : Task → List Port) (number k : ℕ) (routes : List Route) (d : Route) → AreRoutes f ports number routes → k < length routes → IsRoute f ports number k (get_or routes k d)
route_at f ports number k routes d are low = are k (get_or routes k d) (slice_get-get_or routes k d low)

-- the route along a way that was found
pub route_found : {H : Type 0} (found : Option H) (around : H → List ℕ) (first many : H → ℕ) (f : Laid) (ports : Task → List Port) (number k : ℕ) (old levels : List StepOf) (w : Route) → old ≡ []
    → IfSome found (λ home. WayOn f ports number k old levels (around home) (first home) (many home)) → MatchOption found (w.known ≡ false) (λ home. w.trail ≡ trail_to levels (around home) (first home) (many home))
    → IsRoute f ports number k w
route_found None around first many f ports number k old levels w none way is = λ t. absurd (not_true w.known is t)
  where
    not_true : (b : Bool) → b ≡ false → IsTrue b → ⊥
    not_true true e t = cc
    not_true false e t = cc
route_found (Some home) around first many f ports number k old levels w none way is = λ _.
    let all : levels ≡ way.more = way.added ∙ ap (λ z. z ++ way.more) none in
    let S : List StepOf → Type 0 = λ ss. LeadsHome f ports number k (trail_to ss (around home) (first home) (many home)) in
    let T : TrailOf → Type 0 = λ z. LeadsHome f ports number k z in
    subst T (sym is) (subst S (sym all) way.leads)

pub route_added : (f : Laid) (ports : Task → List Port) (number k : ℕ) (routes new : List Route) (w : Route) (result : Result (Unit {0}) NoMemory) → AreRoutesBefore f ports number k routes → IsRoute f ports number k w
    → OnOk result (new ≡ routes ++ w ∷ []) → OnOk result (AreRoutesBefore f ports number (k + 1) new)
route_added f ports number k routes new w (Ok u) are one is =
    (route_pushed f ports number k routes new w are.0 are.1 one is, ap (length {A = Route}) is ∙ (length-append routes (w ∷ []) ∙ ap (λ n. n + 1) are.1))
route_added f ports number k routes new w (Err e) are one is = tt

-- ---- each port has an element

listed_at : {X : Type 0} (xs : List X) (k : ℕ) → k < length xs → (x : X) × (slice_get xs k ≡ Some x)
listed_at [] k h = absurd (omega (arith, h))
listed_at (x ∷ xs) zero h = (x, refl)
listed_at (x ∷ xs) (suc k) h = listed_at xs k (omega (arith, h))

module _ (m : Model) (sound : IsSound m) (number : ℕ) (node : Node) (t : Task) (at : List ℕ) (here : IsNode m number node t) (around : IsPointOf (space_around node) at) (k : ℕ) where
  first_element : (ports : Task → List Port) (p : Port) → slice_get (ports t) k ≡ Some p → IsShape p.shape → HasSome m ports number k at
  first_element ports p listed shape =
      (0, element_on node at p 0, record { node = node; task = t; at_node = here; port = p; listed = listed; around = around; within = omega (arith, size_positive p.shape shape.entry); is = refl })

  pub some_input : k < length (inputs_of t) → HasSome m inputs_of number k at
  some_input low =
      let p = listed_at (inputs_of t) k low in
      first_element inputs_of p.0 p.1 (shape_limits m sound (place_on node at) p.0.name p.0.shape (input_shape_on m sound number node t at here around k p.0 p.1))

  pub some_output : k < length (outputs_of t) → HasSome m outputs_of number k at
  some_output low =
      let p = listed_at (outputs_of t) k low in
      first_element outputs_of p.0 p.1 (shape_limits m sound (place_on node at) p.0.name p.0.shape (output_shape_on m sound number node t at here around k p.0 p.1))

pub inputs_few : (t : Task) → IsTask t → length (inputs_of t) < 2 ^ 32
inputs_few (tasks.Elementary e) h = omega (arith, h.in_count)
inputs_few (tasks.Compound c) h = omega (arith, h.in_count)
inputs_few (tasks.Repeated r) h = omega (arith, h.in_count)

-- ---- what is read along a trail

pub trail_gives : (f : Laid) → IsFlat f → (ports : Task → List Port) (number k many : ℕ) (at : List ℕ) (t new : TrailOf) → LeadsHome f ports number k t → new ≡ trail_at at t → HasPortAt f.model ports number k many at → CanGive new many
trail_gives f flat ports number k many at t new home is p x low = let a = met f flat ports number k many at t new x home is p low in (a.reaches, a.small)

pub read_along : (f : Laid) → IsFlat f → (number k many : ℕ) (at : List ℕ) (t new : TrailOf) (reads : List Read) → LeadsHome f inputs_of number k t → new ≡ trail_at at t → HasPortAt f.model inputs_of number k many at
    → length reads ≡ many → AreTrailReads new reads → ArePortReads f number k at reads
read_along f flat number k many at t new reads home is p count are x read got e h =
    let low : x < many = omega (arith, slice_get_within reads x read got, count) in
    let R : Read → Type 0 = λ r. IsReadOf f e r in
    subst R (sym (are x read got)) ((met f flat inputs_of number k many at t new x home is p low).cell e h)

pub write_along : (f : Laid) → IsFlat f → (number k many : ℕ) (at : List ℕ) (t new : TrailOf) (cells : List ℕ) → LeadsHome f outputs_of number k t → new ≡ trail_at at t → HasPortAt f.model outputs_of number k many at
    → length cells ≡ many → AreTrailCells new cells → ArePortCells f number k at cells
write_along f flat number k many at t new cells home is p count are x cell got e h =
    let low : x < many = omega (arith, slice_get_within cells x cell got, count) in
    let R : ℕ → Type 0 = λ r. IsCellOf f e r in
    subst R (sym (are x cell got)) ((met f flat outputs_of number k many at t new x home is p low).cell e h)

-- a route whose trail has moved
pub route_moved : (f : Laid) (ports : Task → List Port) (number k : ℕ) (at : List ℕ) (w : Route) (known : Bool) (new : TrailOf) → IsTrue known → IsTrue w.known → IsRoute f ports number k w → new ≡ trail_at at w.trail
    → IsRoute f ports number k (record { known = known; trail = new; cells = w.cells; stride = w.stride })
route_moved f ports number k at w known new t old one is = λ _. moved_home f ports number k w.trail new at (one old) is

-- ---- a cursor

pub spot_seen : (f g : Laid) (leaf other : ℕ) (spot : LeafSpot) → g ≡ f → other ≡ leaf → IsLeafSpot f.model leaf spot → IsLeafSpot g.model other spot
spot_seen f g leaf other spot same_flat same_leaf h = subst (λ k. IsLeafSpot g.model k spot) (sym same_leaf) (subst (λ (z : Laid). IsLeafSpot z.model leaf spot) (sym same_flat) h)

pub routes_seen : (f g : Laid) (ports : Task → List Port) (node : ℕ) (routes others : List Route) → g ≡ f → others ≡ routes → AreRoutes f ports node routes → AreRoutes g ports node others
routes_seen f g ports node routes others same_flat same h = subst (λ rs. AreRoutes g ports node rs) (sym same) (subst (λ (z : Laid). AreRoutes z ports node routes) (sym same_flat) h)

pub cursor_on : (f g : Laid) (ports : Task → List Port) (leaf other number next : ℕ) (at : List ℕ) (many : ℕ) (each : Model → ℕ → ℕ) (spot : LeafSpot) (routes : List Route) → g ≡ f → other ≡ leaf → next ≡ number
    → IsAlong f.model leaf number at → many ≡ each f.model leaf → IsLeafSpot f.model leaf spot → AreRoutes g ports spot.node routes → IsCursorOn g ports other next at many (each g.model other) spot routes
cursor_on f g ports leaf other number next at many each spot routes same_flat same_leaf same_number along count spot_is routes_are =
    record {
      along = subst (λ n. IsAlong g.model other n at) (sym same_number) (subst (λ k. IsAlong g.model k number at) (sym same_leaf) (subst (λ (z : Laid). IsAlong z.model leaf number at) (sym same_flat) along));
      many_is = count ∙ (sym (ap (λ (z : Laid). each z.model leaf) same_flat) ∙ sym (ap (each g.model) same_leaf));
      spot_is = spot_seen f g leaf other spot same_flat same_leaf spot_is;
      routes_are = routes_are;
    }

pub no_routes : (f : Laid) (ports : Task → List Port) (node : ℕ) (routes : List Route) → routes ≡ [] → AreRoutes f ports node routes
no_routes f ports node routes none k w got = let e : slice_get {X = Route} [] k ≡ Some w = sym (ap (λ rs. slice_get rs k) none) ∙ got in absurd (nothing k w e)
  where
    nothing : (k : ℕ) (w : Route) → slice_get {X = Route} [] k ≡ Some w → ⊥
    nothing k w e = omega (arith, slice_get_within {A = Route} [] k w e)

-- a slice that was lent is written back
pub written_back : {X : Type 0} (new old : List X) (n : ℕ) → length new ≡ n → take n (new ++ drop (length new) old) ≡ new
written_back new old n many = take_at new (drop (length new) old) n many
