-- The words of the refusals of a model.
use Rattle.std.specs.Prelude.{◌≡◌, ℕ, ◌-◌, nat_lt, List, [], ◌∷◌, ◌++◌, slice_get, Option, Some, None, option_map, unwrap_or, codes, decimal, if◌then◌else◌}
use Rattle.aol_shape.specs.Shape.{size, point_at}
use Rattle.aol_vsl.specs.Text.{shape_text}
use Rattle.aol_expr_tree.specs.declared.port.Port.{Port}
use Rattle.aol_model_types.specs.declared.document.Model.{Model}
use Rattle.aol_model_types.specs.Rules.{inputs_of}
use Rattle.aol_flat.specs.Tasks.{main_outputs}
use Rattle.aol_flat.specs.Node.{node_task, node_path}
use Rattle.aol_flat.specs.Instance.{Leaf, Computes, Copies, leaves}
use Rattle.aol_flat.specs.Targets.{Twice}
use Rattle.aol_flat.specs.Reads.{Reading, readings}
use Rattle.aol_flat.specs.declared.view.Reader.{Reader}
use Rattle.aol_flat.specs.declared.view.Reader.TheVariants.{Instance, Main}
use Rattle.aol_flat.specs.declared.view.Writer.{Writer}
use Rattle.aol_lines.specs.Instance.{instance_text}

-- the name of a port and the point of a rank; nothing where there is no such port
abbrev pub port_words : List Port → ℕ → ℕ → List (List ℕ)
port_words ports k x = unwrap_or (option_map (λ (p : Port). p.name ∷ shape_text (point_at p.shape x) ∷ []) (slice_get ports k)) []

-- an element that an instance of a leaf reads; a copy's input is `from`
abbrev pub input_words : Model → Leaf → ℕ → ℕ → List (List ℕ)
input_words m l k x = elim l.work [ Computes ↦ port_words (unwrap_or (option_map inputs_of (node_task m l.node)) []) k x | Copies r n ↦ codes "from" ∷ codes "{}" ∷ [] ]

-- the same of the instance with this number among those of some leaves
abbrev pub input_among : Model → List Leaf → ℕ → ℕ → ℕ → List (List ℕ)
input_among m [] j k x = []
input_among m (l ∷ ls) j k x = if nat_lt j (size l.space) then input_words m l k x else input_among m ls (j - size l.space) k x

-- who reads, and which element
abbrev pub reading_words : Model → Reader → ℕ → ℕ → List (List ℕ)
reading_words m (Instance j) k x = instance_text m j ∷ input_among m (leaves m) j k x
reading_words m Main k x = codes "main" ∷ port_words (main_outputs m) k x

-- a target: its port, after its part where it is one of a part
abbrev pub target_text : Option (List ℕ) → List ℕ → List ℕ
target_text None port = port
target_text (Some part) port = part ++ codes "." ++ port

-- one pair of a tiler or a reshape
abbrev pub writer_words : Writer → List (List ℕ) → List (List ℕ)
writer_words w more = decimal w.item ∷ shape_text w.rep ∷ shape_text w.pattern ∷ more

-- a point that is written twice
abbrev pub twice_words : Model → Twice → List (List ℕ)
twice_words m t =
    node_path m t.target.node ∷ target_text t.target.part t.target.port ∷ shape_text t.point ∷ codes "first" ∷ writer_words t.first (codes "second" ∷ writer_words t.second [])

-- at this port and rank the reader reads an element
pub record IsReadBy (m : Model) (who : Reader) (port rank : ℕ) : Type 0 where
  pub reading : Reading
  pub number : ℕ
  pub at : slice_get (readings m) number ≡ Some reading
  pub reader : reading.reader ≡ who
  pub same_port : reading.port ≡ port
  pub same_rank : reading.rank ≡ rank
