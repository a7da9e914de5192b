-- Places in the document.
use Rattle.std.specs.Prelude.{ℕ, List, [], ◌∷◌, ◌++◌, Option, Some, None, codes, decimal, refl}
use Rattle.std.specs.List.{flat_map}
use Rattle.aol_shape.specs.declared.limit.LimitName.{LimitName}
use Rattle.aol_shape.specs.declared.limit.LimitName.TheVariants.{Rank, Entry, Points, Number, Sums, Expression, Depth, Ports, Choices, Name, Hierarchy, Nodes, Walk, Work, Emission, Lines, Cells}
use Rattle.std.specs.Coded.{Coded, code_by, coded×, coded_ℕ, coded_list, coded_option}
use Rattle.aol_model_types.specs.declared.place.Key.{Key}
use Rattle.aol_model_types.specs.declared.place.Key.TheVariants.{KModel, KInput, KTransform, KAllocate, KVersion, KTasks, KMain, KKind, KName, KIn, KOut, KShape, KType, KExpr, KParts, KLinks, KReshapes, KTask, KFrom, KTo, KSpace, KPattern, KSource, KTarget, KTilers, KOuter, KInner, KTiler, KDistance, KModulo, KDefault, KDimension, KSide, KValue, KBlock, KFirst, KSecond, KPicks, KLeaf, KProcessors, KProgram, KMemory, KOrder, KDocument, KReason}
use Rattle.aol_model_types.specs.declared.place.PlaceStep.{PlaceStep}
use Rattle.aol_model_types.specs.declared.place.PlaceStep.TheVariants as steps
use Rattle.aol_model_types.specs.contracts.place.PlaceStep as step_rows

-- the steps from the whole document, and a byte of the text there
pub record PlaceOf : Type 0 where
  pub steps : List PlaceStep
  pub byte : Option ℕ

-- a place is stored as the pair of its fields
abbrev pub place_code : Coded PlaceOf
place_code = code_by (List PlaceStep × Option ℕ) (coded× (coded_list step_rows.the_row.coded) (coded_option coded_ℕ)) (λ p. (p.steps, p.byte)) (λ p. record { steps = p.0; byte = p.1 }) (λ _. refl)

-- the bytes of a key
abbrev pub key_text : Key → List ℕ
key_text KModel = codes "model"
key_text KInput = codes "input"
key_text KTransform = codes "transform"
key_text KAllocate = codes "allocate"
key_text KVersion = codes "version"
key_text KTasks = codes "tasks"
key_text KMain = codes "main"
key_text KKind = codes "kind"
key_text KName = codes "name"
key_text KIn = codes "in"
key_text KOut = codes "out"
key_text KShape = codes "shape"
key_text KType = codes "type"
key_text KExpr = codes "expr"
key_text KParts = codes "parts"
key_text KLinks = codes "links"
key_text KReshapes = codes "reshapes"
key_text KTask = codes "task"
key_text KFrom = codes "from"
key_text KTo = codes "to"
key_text KSpace = codes "space"
key_text KPattern = codes "pattern"
key_text KSource = codes "source"
key_text KTarget = codes "target"
key_text KTilers = codes "tilers"
key_text KOuter = codes "outer"
key_text KInner = codes "inner"
key_text KTiler = codes "tiler"
key_text KDistance = codes "distance"
key_text KModulo = codes "modulo"
key_text KDefault = codes "default"
key_text KDimension = codes "dimension"
key_text KSide = codes "side"
key_text KValue = codes "value"
key_text KBlock = codes "block"
key_text KFirst = codes "first"
key_text KSecond = codes "second"
key_text KPicks = codes "picks"
key_text KLeaf = codes "leaf"
key_text KProcessors = codes "processors"
key_text KProgram = codes "program"
key_text KMemory = codes "memory"
key_text KOrder = codes "order"
key_text KDocument = codes "document"
key_text KReason = codes "reason"

-- the steps to a member or an element of what these steps lead to
abbrev pub to_key : List PlaceStep → Key → List PlaceStep
to_key at k = at ++ steps.Key k ∷ []

-- the steps to an element of what these steps lead to
abbrev pub to_index : List PlaceStep → ℕ → List PlaceStep
to_index at i = at ++ steps.Index i ∷ []

-- a place without a byte
abbrev pub whole : List PlaceStep → PlaceOf
whole at = record { steps = at; byte = None }

-- `.` and the key, or the index in brackets
abbrev pub step_text : PlaceStep → List ℕ
step_text (steps.Key k) = codes "." ++ key_text k
step_text (steps.Index i) = codes "[" ++ decimal i ++ codes "]"

-- `@` and the byte, where there is one
abbrev pub byte_text : Option ℕ → List ℕ
byte_text None = []
byte_text (Some byte) = codes "@" ++ decimal byte

-- a place as status lines write it: `$`, its steps, and its byte
abbrev pub place_text : PlaceOf → List ℕ
place_text p = codes "$" ++ flat_map step_text p.steps ++ byte_text p.byte

-- a limit as status lines write it
abbrev pub limit_text : LimitName → List ℕ
limit_text Rank = codes "rank"
limit_text Entry = codes "entry"
limit_text Points = codes "points"
limit_text Number = codes "number"
limit_text Sums = codes "sums"
limit_text Expression = codes "expression"
limit_text Depth = codes "depth"
limit_text Ports = codes "ports"
limit_text Choices = codes "choices"
limit_text Name = codes "name"
limit_text Hierarchy = codes "hierarchy"
limit_text Nodes = codes "nodes"
limit_text Walk = codes "walk"
limit_text Work = codes "work"
limit_text Emission = codes "emission"
limit_text Lines = codes "lines"
limit_text Cells = codes "cells"
