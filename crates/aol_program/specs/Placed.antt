-- The lines of a placement.
use Rattle.std.specs.Prelude.{ℕ, List, [], ◌∷◌, ◌++◌, flat_map, take, drop, codes}
use Rattle.std.specs.Fmt.{decimal}
use Rattle.aol_shape.specs.Lines.{line}
use Rattle.aol_shape.specs.Shape.{size}
use Rattle.aol_model_types.specs.declared.document.Model.{Model}
use Rattle.aol_flat.specs.Instance.{Leaf, leaves, leaf_path}

-- a worker after a blank
abbrev pub worker_text : ℕ → List ℕ
worker_text w = codes " " ++ decimal w

-- a leaf: its path, and the worker of each of its instances
abbrev pub leaf_line : Model → Leaf → List ℕ → List ℕ
leaf_line m l workers = line (leaf_path m l ++ flat_map worker_text workers)

-- some leaves, where these are the workers of their instances in order
abbrev pub leaf_lines : Model → List ℕ → List Leaf → List ℕ
leaf_lines m workers [] = []
leaf_lines m workers (l ∷ ls) = leaf_line m l (take (size l.space) workers) ++ leaf_lines m (drop (size l.space) workers) ls

-- all leaves
abbrev pub place_lines : Model → List ℕ → List ℕ
place_lines m workers = leaf_lines m workers (leaves m)
