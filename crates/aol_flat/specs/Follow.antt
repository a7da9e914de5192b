-- Elements by numbers: those of the node, of the port among the inputs or outputs of its task, and of the point of the port's shape.
use Rattle.std.specs.Prelude.{◌≡◌, ℕ, ◌<◌, List, ◌∷◌, slice_get, Some, None}
use Rattle.aol_shape.specs.Shape.{IsPointOf, size, rank, point_at}
use Rattle.aol_expr_tree.specs.declared.port.Port.{Port}
use Rattle.aol_link.specs.declared.link.Interlink.{Interlink}
use Rattle.aol_link.specs.Links.{source_repetition}
use Rattle.aol_model_types.specs.declared.document.Model.{Model}
use Rattle.aol_model_types.specs.declared.task.Repeated.{Repeated}
use Rattle.aol_model_types.specs.declared.task.Task.{Task}
use Rattle.aol_model_types.specs.declared.task.Task.TheVariants as tasks
use Rattle.aol_model_types.specs.Rules.{inputs_of, outputs_of}
use Rattle.aol_flat.specs.Place.{Element}
use Rattle.aol_flat.specs.Node.{Node, ToBody, space_around, place_on}
use Rattle.aol_flat.specs.NodeTable.{IsNode}
use Rattle.aol_flat.specs.Home.{home_of}
use Rattle.aol_flat.specs.Feed.{IsHand, IsFeed}
use Rattle.aol_flat.specs.declared.feed.Feed.TheVariants as feeds
use Rattle.aol_flat.specs.declared.feed.Hand.TheVariants as hands
use Rattle.aol_flat.specs.declared.follow.Source.{Source}
use Rattle.aol_flat.specs.declared.follow.Source.TheVariants as sources
use Rattle.aol_flat.specs.Laid.{Laid, IsCellOf, IsReadOf}
use Rattle.aol_flat.specs.declared.view.Read.{Read}

-- the element of rank x at a port, for the instance of a node with these indices of the repetitions around it
abbrev pub element_on : Node → List ℕ → Port → ℕ → Element
element_on node at p x = record { place = place_on node at; port = p.name; index = point_at p.shape x }

-- the element is that of rank x at the k-th port of the task of a node, for these indices
pub record IsElementOf (m : Model) (ports : Task → List Port) (number k : ℕ) (at : List ℕ) (x : ℕ) (e : Element) : Type 0 where
  pub node : Node
  pub task : Task
  pub at_node : IsNode m number node task
  pub port : Port
  pub listed : slice_get (ports task) k ≡ Some port
  pub around : IsPointOf (space_around node) at
  pub within : x < size port.shape
  pub is : e ≡ element_on node at port x

-- there is one at the k-th input
abbrev pub HasInputElement : Model → ℕ → ℕ → List ℕ → ℕ → Type 0
HasInputElement m number k at x = (e : Element) × IsElementOf m inputs_of number k at x e

-- or at the k-th output
abbrev pub HasOutputElement : Model → ℕ → ℕ → List ℕ → ℕ → Type 0
HasOutputElement m number k at x = (e : Element) × IsElementOf m outputs_of number k at x e

-- what reading that element means
abbrev pub IsReadOfInput : Laid → ℕ → ℕ → List ℕ → ℕ → Read → Type 0
IsReadOfInput f number k at x read = (e : Element) → IsElementOf f.model inputs_of number k at x e → IsReadOf f e read

-- the cell of the element of a port
abbrev pub IsCellOfPort : Laid → (Task → List Port) → ℕ → ℕ → List ℕ → ℕ → ℕ → Type 0
IsCellOfPort f ports number k at x cell = (e : Element) → IsElementOf f.model ports number k at x e → IsCellOf f e cell

-- the indices are those of an instance of the node
abbrev pub IsIndexed : Model → ℕ → List ℕ → Type 0
IsIndexed m number at = (node : Node) × (t : Task) × IsNode m number node t × IsPointOf (space_around node) at

-- their rank among the points of the space of all repetitions around it
abbrev pub IsRankAround : Model → ℕ → List ℕ → ℕ → Type 0
IsRankAround m number at r = (node : Node) (t : Task) → IsNode m number node t → r ≡ rank (space_around node) at

-- a node is the body of a repeated task, at one repetition of an instance of that task
pub record IsRepetition (m : Model) (number up : ℕ) (t : Repeated) (around r : List ℕ) : Type 0 where
  pub lower : up < number
  pub node : Node
  pub inner : Task
  pub at_up : IsNode m up node (tasks.Repeated t)
  pub at_body : IsNode m number (ToBody t.space ∷ node) inner
  pub around_inside : IsPointOf (space_around node) around
  pub inside : IsPointOf t.space r

-- the node with this number is the body of a repeated task, at an instance with these indices
abbrev pub IsBodyIndexed : Model → ℕ → List ℕ → Type 0
IsBodyIndexed m number at = (above : Node) × (r : Repeated) × (t : Task) × IsNode m number (ToBody r.space ∷ above) t × IsPointOf (space_around (ToBody r.space ∷ above)) at

-- an element has the home of that of rank x at the k-th port of the node with this number
pub record LeadsTo (m : Model) (e : Element) (ports : Task → List Port) (number k : ℕ) (at : List ℕ) (x : ℕ) : Type 0 where
  pub next : Element
  pub is : IsElementOf m ports number k at x next
  pub home : home_of m e ≡ home_of m next

-- so does each element of one port that is given by numbers
abbrev pub PortLeadsTo : Model → (Task → List Port) → ℕ → ℕ → List ℕ → ℕ → (Task → List Port) → ℕ → ℕ → List ℕ → ℕ → Type 0
PortLeadsTo m ports number k at x others above j around y = (e : Element) → IsElementOf m ports number k at x e → LeadsTo m e others above j around y

-- the element at the k-th output is stored, and its instance has this rank
pub record IsStoredOutput (m : Model) (number k index x : ℕ) : Type 0 where
  pub at : List ℕ
  pub there : HasOutputElement m number k at x
  pub rank_is : IsRankAround m number at index
  pub stored : IsHand m number k hands.Stored

-- the same of an input
pub record IsStoredInput (m : Model) (number k index x : ℕ) : Type 0 where
  pub at : List ℕ
  pub there : HasInputElement m number k at x
  pub rank_is : IsRankAround m number at index
  pub stored : IsFeed m number k feeds.Stored

-- the cell is that of the element, whichever indices of that rank its instance has
abbrev pub IsCellAtRank : Laid → (Task → List Port) → ℕ → ℕ → ℕ → ℕ → ℕ → Type 0
IsCellAtRank f ports number k index x cell = (at : List ℕ) → IsRankAround f.model number at index → IsCellOfPort f ports number k at x cell

-- a step of following an input of a repetition by a link ends, or leads to an input of the repeated task
abbrev pub IsSourceOf : Laid → ℕ → ℕ → List ℕ → ℕ → ℕ → List ℕ → Source → Type 0
IsSourceOf f number k at x above around (sources.Ends read) = IsReadOfInput f number k at x read
IsSourceOf f number k at x above around (sources.Input j y) = PortLeadsTo f.model inputs_of number k at x inputs_of above j around y

-- the link with this number comes from outside the space
abbrev pub LeadsOutside : Repeated → ℕ → List ℕ → Type 0
LeadsOutside t number r = (l : Interlink) → slice_get t.links number ≡ Some l → source_repetition l.wrap l.distance t.space r ≡ None
