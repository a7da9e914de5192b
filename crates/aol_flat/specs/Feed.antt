-- What feeds the input of a node, and what hands an output up, by numbers.
use Rattle.std.specs.Prelude.{◌≡◌, ℕ, List, ◌∷◌, slice_get, Some, None, is_some, true, false}
use Rattle.aol_expr_tree.specs.declared.port.Port.{Port}
use Rattle.aol_link.specs.declared.link.Interlink.{Interlink}
use Rattle.aol_model_types.specs.declared.document.Model.{Model}
use Rattle.aol_model_types.specs.declared.task.Compound.{Compound}
use Rattle.aol_model_types.specs.declared.task.Plain.{Plain}
use Rattle.aol_model_types.specs.declared.task.Repeated.{Repeated}
use Rattle.aol_model_types.specs.declared.task.Task.{Task}
use Rattle.aol_model_types.specs.declared.task.Task.TheVariants as tasks
use Rattle.aol_model_types.specs.declared.task.TilerOn.{TilerOn}
use Rattle.aol_model_types.specs.Rules.{inputs_of, outputs_of, port_shape}
use Rattle.aol_flat.specs.declared.feed.Feed.{Feed}
use Rattle.aol_flat.specs.declared.feed.Feed.TheVariants as feeds
use Rattle.aol_flat.specs.declared.feed.Hand.{Hand}
use Rattle.aol_flat.specs.declared.feed.Hand.TheVariants as hands
use Rattle.aol_flat.specs.Tasks.{part_number}
use Rattle.aol_flat.specs.Node.{Node, ToPart, ToBody, node_task}
use Rattle.aol_flat.specs.NodeTable.{IsNode, stores_at}
use Rattle.aol_flat.specs.Home.{link_into_part, link_up, tiler_at, link_into_repetition}

-- the k-th port of a list has this name
pub record IsNumberOf (ports : List Port) (name : List ℕ) (k : ℕ) : Type 0 where
  pub port : Port
  pub listed : slice_get ports k ≡ Some port
  pub named : port.name ≡ name

-- the node is a part of the node above
pub record IsPartOf (m : Model) (node : Node) (up : Node) (k : ℕ) (c : Compound) : Type 0 where
  pub is : node ≡ ToPart k ∷ up
  pub above : node_task m up ≡ Some (tasks.Compound c)

-- the node is the body of the node above
pub record IsBodyOf (m : Model) (node : Node) (up : Node) (t : Repeated) : Type 0 where
  pub is : node ≡ ToBody t.space ∷ up
  pub above : node_task m up ≡ Some (tasks.Repeated t)

-- a plain link leads into an input of part k from the j-th output of another part, whose node has the number i
pub record IsGiven (m : Model) (up : Node) (c : Compound) (k : ℕ) (port : List ℕ) (i j : ℕ) : Type 0 where
  pub link : Plain
  pub found : link_into_part c k port ≡ Some link
  pub name : List ℕ
  pub of_part : link.from.part ≡ Some name
  pub giver : Task
  pub at : IsNode m i (ToPart (part_number c name) ∷ up) giver
  pub number : IsNumberOf (outputs_of giver) link.from.port j

-- what feeds an input of part k of a compound task at a node by its plain links
abbrev pub PartFeeds : Model → Node → Compound → ℕ → List ℕ → Feed → Type 0
PartFeeds m up c k port feeds.Stored = link_into_part c k port ≡ None
PartFeeds m up c k port (feeds.Own j) = (l : Plain) × (link_into_part c k port ≡ Some l) × (l.from.part ≡ None) × IsNumberOf c.ins l.from.port j
PartFeeds m up c k port (feeds.Part i j) = IsGiven m up c k port i j
PartFeeds m up c k port (feeds.Tiled i j) = ⊥
PartFeeds m up c k port (feeds.Linked i j) = ⊥

-- what feeds an input of the body of a repeated task, whose task is t
abbrev pub BodyFeeds : Repeated → Task → List ℕ → Feed → Type 0
BodyFeeds r t port feeds.Stored = ⊥
BodyFeeds r t port (feeds.Own j) = ⊥
BodyFeeds r t port (feeds.Part i j) = ⊥
BodyFeeds r t port (feeds.Tiled i j) = (o : TilerOn) × (tiler_at r port ≡ Some o) × (slice_get r.tilers i ≡ Some o) × IsNumberOf r.ins o.outer j
BodyFeeds r t port (feeds.Linked i j) = (l : Interlink) × (tiler_at r port ≡ None) × (link_into_repetition r port ≡ Some l) × (slice_get r.links i ≡ Some l) × IsNumberOf (outputs_of t) l.from j

-- a tiler at an inner input leads from an input that is there
abbrev pub TilesInputs : Repeated → List ℕ → Type 0
TilesInputs t name = (o : TilerOn) → tiler_at t name ≡ Some o → is_some (port_shape t.ins o.outer) ≡ true

-- where there is no tiler, a link leads into an inner input, from an output that is there
abbrev pub LinksOutputs : Repeated → Task → List ℕ → Type 0
LinksOutputs r t name = tiler_at r name ≡ None → (l : Interlink) × (link_into_repetition r name ≡ Some l) × (is_some (port_shape (outputs_of t) l.from) ≡ true)

-- what hands an output of part k of a compound task up
abbrev pub PartHands : Compound → ℕ → List ℕ → Hand → Type 0
PartHands c k name hands.Stored = link_up c k name ≡ None
PartHands c k name (hands.Own j) = (l : Plain) × (link_up c k name ≡ Some l) × IsNumberOf c.outs l.to.port j
PartHands c k name (hands.Tiled i j) = ⊥

-- what hands an output of the body of a repeated task up
abbrev pub BodyHands : Repeated → List ℕ → Hand → Type 0
BodyHands t name hands.Stored = tiler_at t name ≡ None
BodyHands t name (hands.Own j) = ⊥
BodyHands t name (hands.Tiled i j) = (o : TilerOn) × (tiler_at t name ≡ Some o) × (slice_get t.tilers i ≡ Some o) × IsNumberOf t.outs o.outer j

-- a plain link that hands something up leads to an output that is there
abbrev pub HandsToOutputs : Compound → Type 0
HandsToOutputs c = (k : ℕ) (name : List ℕ) (l : Plain) → link_up c k name ≡ Some l → is_some (port_shape c.outs l.to.port) ≡ true

-- a tiler that hands something up leads to an output that is there
abbrev pub TilesOutputs : Repeated → List ℕ → Type 0
TilesOutputs t name = (o : TilerOn) → tiler_at t name ≡ Some o → is_some (port_shape t.outs o.outer) ≡ true

-- ---- inputs

-- a plain link leads into it from the j-th own input of the compound task
pub record IsFedByOwn (m : Model) (node : Node) (p : Port) (j : ℕ) : Type 0 where
  pub up : Node
  pub part : ℕ
  pub task : Compound
  pub place : IsPartOf m node up part task
  pub link : Plain
  pub found : link_into_part task part p.name ≡ Some link
  pub own : link.from.part ≡ None
  pub port : IsNumberOf task.ins link.from.port j

-- one leads into it from the j-th output of another part, whose node has the number i
pub record IsFedByPart (m : Model) (node : Node) (p : Port) (i j : ℕ) : Type 0 where
  pub up : Node
  pub part : ℕ
  pub task : Compound
  pub place : IsPartOf m node up part task
  pub by : IsGiven m up task part p.name i j

-- the i-th tiler of the repeated task leads into it from the j-th own input
pub record IsFedByTiler (m : Model) (node : Node) (p : Port) (i j : ℕ) : Type 0 where
  pub up : Node
  pub task : Repeated
  pub place : IsBodyOf m node up task
  pub tiler : TilerOn
  pub found : tiler_at task p.name ≡ Some tiler
  pub at : slice_get task.tilers i ≡ Some tiler
  pub port : IsNumberOf task.ins tiler.outer j

-- the i-th link between repetitions leads into it from the j-th output of the repeated one, whose task is t
pub record IsFedByLink (m : Model) (node : Node) (t : Task) (p : Port) (i j : ℕ) : Type 0 where
  pub up : Node
  pub task : Repeated
  pub place : IsBodyOf m node up task
  pub untiled : tiler_at task p.name ≡ None
  pub link : Interlink
  pub found : link_into_repetition task p.name ≡ Some link
  pub at : slice_get task.links i ≡ Some link
  pub port : IsNumberOf (outputs_of t) link.from j

-- one of these, or it is stored by itself
abbrev pub Feeds : Model → Node → Task → Port → Feed → Type 0
Feeds m node t p feeds.Stored = stores_at m node true p.name ≡ true
Feeds m node t p (feeds.Own j) = IsFedByOwn m node p j
Feeds m node t p (feeds.Part i j) = IsFedByPart m node p i j
Feeds m node t p (feeds.Tiled i j) = IsFedByTiler m node p i j
Feeds m node t p (feeds.Linked i j) = IsFedByLink m node t p i j

-- so it is for the k-th input of the node with this number
abbrev pub IsFeed : Model → ℕ → ℕ → Feed → Type 0
IsFeed m number k feed = (node : Node) (t : Task) (p : Port) → IsNode m number node t → slice_get (inputs_of t) k ≡ Some p → Feeds m node t p feed

-- ---- outputs

-- a plain link hands it up to the j-th own output of the compound task
pub record IsHandedByLink (m : Model) (node : Node) (p : Port) (j : ℕ) : Type 0 where
  pub up : Node
  pub part : ℕ
  pub task : Compound
  pub place : IsPartOf m node up part task
  pub link : Plain
  pub found : link_up task part p.name ≡ Some link
  pub port : IsNumberOf task.outs link.to.port j

-- the i-th tiler of the repeated task hands it up to the j-th own output
pub record IsHandedByTiler (m : Model) (node : Node) (p : Port) (i j : ℕ) : Type 0 where
  pub up : Node
  pub task : Repeated
  pub place : IsBodyOf m node up task
  pub tiler : TilerOn
  pub found : tiler_at task p.name ≡ Some tiler
  pub at : slice_get task.tilers i ≡ Some tiler
  pub port : IsNumberOf task.outs tiler.outer j

-- one of these, or it is stored by itself
abbrev pub Hands : Model → Node → Port → Hand → Type 0
Hands m node p hands.Stored = stores_at m node false p.name ≡ true
Hands m node p (hands.Own j) = IsHandedByLink m node p j
Hands m node p (hands.Tiled i j) = IsHandedByTiler m node p i j

-- so it is for the k-th output of the node with this number
abbrev pub IsHand : Model → ℕ → ℕ → Hand → Type 0
IsHand m number k hand = (node : Node) (t : Task) (p : Port) → IsNode m number node t → slice_get (outputs_of t) k ≡ Some p → Hands m node p hand

-- a task of the node with this number
abbrev pub HasTask : Model → ℕ → Task → Type 0
HasTask m number t = (node : Node) × IsNode m number node t
