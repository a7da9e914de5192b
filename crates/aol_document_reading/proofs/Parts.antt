-- Objects whose members are read in two groups are what the definitions of reading say.
use Rattle.std.proofs.Common.{◌≡◌, ℕ, List, [], ◌∷◌, length, Bool, Result, Ok, Err, refl, ap}
use Rattle.serde_json.specs.Data.{Data}
use Rattle.aol_tiler.specs.Matrices.{TilerOf}
use Rattle.aol_reshape.specs.declared.reshape.Reshape.{Reshape}
use Rattle.aol_link.specs.declared.link.Interlink.{Interlink}
use Rattle.aol_model_types.specs.declared.place.Key.TheVariants.{KModel, KInput, KTransform, KAllocate, KKind, KName, KIn, KOut, KParts, KLinks, KReshapes, KTask, KFrom, KTo, KSpace, KPattern, KSource, KTarget, KTilers, KTiler, KDistance, KModulo, KDefault, KBlock, KFirst, KSecond, KPicks, KLeaf, KProcessors}
use Rattle.aol_model_types.specs.declared.document.Document.{Document}
use Rattle.aol_model_types.specs.declared.document.Model.{Model}
use Rattle.aol_model_types.specs.declared.job.Entry.{Entry}
use Rattle.aol_model_types.specs.declared.job.InputArray.{InputArray}
use Rattle.aol_model_types.specs.declared.job.Job.{Job}
use Rattle.aol_model_types.specs.declared.job.Pick.{Pick}
use Rattle.aol_model_types.specs.declared.job.Step.{Step}
use Rattle.aol_model_types.specs.declared.job.Step.TheVariants as step
use Rattle.aol_model_types.specs.declared.task.Copied.{Copied}
use Rattle.aol_model_types.specs.declared.task.Hook.{Hook}
use Rattle.aol_model_types.specs.declared.task.Part.{Part}
use Rattle.aol_model_types.specs.declared.task.Plain.{Plain}
use Rattle.aol_model_types.specs.declared.task.Task.{Task}
use Rattle.aol_model_types.specs.declared.task.Task.TheVariants as tasks
use Rattle.aol_model_types.specs.declared.task.TilerOn.{TilerOn}
use Rattle.aol_expr_tree.specs.declared.port.Port.{Port}
use Rattle.aol_model_types.specs.Reading.{At, Fault, ◌>>=◌, ◌>>◌, object_at, member_at, list_of, name_at, shape_at, vector_at, tiler_at, hook_at, port_at, input_port_at, output_port_at, outputs_of, part_at, plain_at, pick_at, tiler_on_at, leaf_at, input_at, step_at, entry_at, model_at, elementary_at, compound_at, repeated_at, copied_at, interlink_at, fuse_at, members_in}
use Rattle.aol_document_reading.specs.Parts.{two_at, three_at, elementary_with, elementary_by_parts, compound_with, compound_by_parts, repeated_with, repeated_by_parts, copied_by_parts, interlink_with, interlink_by_parts, fuse_with, fuse_by_parts, entry_with, entry_by_parts, members_by_parts}

-- two readings
abbrev two_of : {A B : Type 0} → Result A Fault → Result B Fault → Result (A × B) Fault
two_of r s = r >>= (λ a. s >>= (λ b. Ok (a, b)))

-- three readings, the third by what the second gave
abbrev three_of : {A B C : Type 0} → Result A Fault → Result B Fault → (B → Result C Fault) → Result (A × B × C) Fault
three_of r s t = r >>= (λ a. s >>= (λ b. t b >>= (λ c. Ok (a, b, c))))

module _ {A E : Type 0} (k m : A → Result E Fault) (same : (a : A) → k a ≡ m a) where
  -- what goes on with a value
  one : (r : Result A Fault) → (r >>= k) ≡ (r >>= m)
  one (Ok a) = same a
  one (Err e) = refl

module _ {A B E : Type 0} (k m : A → B → Result E Fault) (same : (a : A) (b : B) → k a b ≡ m a b) where
  -- what goes on with two values goes on with each as it is read
  two : (r : Result A Fault) (s : Result B Fault) → (two_of r s >>= (λ p. k p.0 p.1)) ≡ (r >>= (λ a. s >>= (λ b. m a b)))
  two (Ok a) (Ok b) = same a b
  two (Ok a) (Err e) = refl
  two (Err e) s = refl

module _ {A B C E : Type 0} (k m : A → B → C → Result E Fault) (same : (a : A) (b : B) (c : C) → k a b c ≡ m a b c) where
  last : (a : A) (b : B) (t : Result C Fault) → (three_of (Ok a) (Ok b) (λ _. t) >>= (λ p. k p.0 p.1 p.2)) ≡ (t >>= (λ c. m a b c))
  last a b (Ok c) = same a b c
  last a b (Err e) = refl

  -- and the same with three
  three : (r : Result A Fault) (s : Result B Fault) (t : B → Result C Fault) → (three_of r s t >>= (λ p. k p.0 p.1 p.2)) ≡ (r >>= (λ a. s >>= (λ b. t b >>= (λ c. m a b c))))
  three (Ok a) (Ok b) t = last a b (t b)
  three (Ok a) (Err e) t = refl
  three (Err e) s t = refl

abbrev compound : List ℕ → List Port → List Port → List Part → List Plain → List Copied → Task
compound name ins outs parts links reshapes = tasks.Compound (record { name = name; ins = ins; outs = outs; parts = parts; links = links; reshapes = reshapes })

abbrev repeated : List ℕ → List Port → List Port → List ℕ → List ℕ → List TilerOn → List Interlink → Task
repeated name ins outs space task tilers links = tasks.Repeated (record { name = name; ins = ins; outs = outs; space = space; task = task; tilers = tilers; links = links })

abbrev fusion : List ℕ → List ℕ → List ℕ → List ℕ → TilerOf → List Pick → Step
fusion task first second block tiler picks = step.Fuse task (record { first = first; second = second; block = block; tiler = tiler; picks = picks })

abbrev placed : List ℕ → List ℕ → List ℕ → List ℕ → TilerOf → TilerOf → Entry
placed leaf processors space pattern from to = record { leaf = leaf; processors = processors; space = space; pattern = pattern; from = from; to = to }

module _ (at : At) (d : Data) where
  pub elementary_is : elementary_by_parts at d ≡ elementary_at at d
  elementary_is = ap (λ (r : Result Task Fault). object_at (KKind ∷ KName ∷ KIn ∷ KOut ∷ []) [] at d >> r)
      (three (λ name ins outs. Ok (elementary_with name ins outs)) _ (λ name ins outs. refl) (member_at at d KName name_at) (member_at at d KIn (list_of input_port_at)) (λ ins. member_at at d KOut (outputs_of (length ins) output_port_at)))

  -- the rest of a graph of tasks
  compound_on : (name : List ℕ) (ins outs : List Port) → compound_with at d name ins outs
      ≡ (member_at at d KParts (list_of part_at) >>= (λ parts. member_at at d KLinks (list_of plain_at) >>= (λ links. member_at at d KReshapes (list_of copied_at) >>= (λ reshapes. Ok (compound name ins outs parts links reshapes)))))
  compound_on name ins outs = three (λ parts links reshapes. Ok (compound name ins outs parts links reshapes)) _ (λ parts links reshapes. refl)
      (member_at at d KParts (list_of part_at)) (member_at at d KLinks (list_of plain_at)) (λ _. member_at at d KReshapes (list_of copied_at))

  pub compound_is : compound_by_parts at d ≡ compound_at at d
  compound_is = ap (λ (r : Result Task Fault). object_at (KKind ∷ KName ∷ KIn ∷ KOut ∷ KParts ∷ KLinks ∷ KReshapes ∷ []) [] at d >> r)
      (three (compound_with at d) _ compound_on (member_at at d KName name_at) (member_at at d KIn (list_of port_at)) (λ ins. member_at at d KOut (outputs_of (length ins) port_at)))

  module _ (later : Bool) where
    -- the tilers and the links of a repetition
    joins_on : (name : List ℕ) (ins outs : List Port) (space task : List ℕ) → (two_at (list_of tiler_on_at) (list_of (interlink_at later)) KTilers KLinks at d >>= (λ joins. Ok (repeated name ins outs space task joins.0 joins.1)))
        ≡ (member_at at d KTilers (list_of tiler_on_at) >>= (λ tilers. member_at at d KLinks (list_of (interlink_at later)) >>= (λ links. Ok (repeated name ins outs space task tilers links))))
    joins_on name ins outs space task = two (λ tilers links. Ok (repeated name ins outs space task tilers links)) _ (λ tilers links. refl) (member_at at d KTilers (list_of tiler_on_at)) (member_at at d KLinks (list_of (interlink_at later)))

    -- the rest of a repetition
    repeated_on : (name : List ℕ) (ins outs : List Port) → repeated_with later at d name ins outs
        ≡ (member_at at d KSpace shape_at >>= (λ space. member_at at d KTask name_at >>= (λ task. member_at at d KTilers (list_of tiler_on_at) >>= (λ tilers. member_at at d KLinks (list_of (interlink_at later)) >>= (λ links. Ok (repeated name ins outs space task tilers links))))))
    repeated_on name ins outs = two _ _ (joins_on name ins outs) (member_at at d KSpace shape_at) (member_at at d KTask name_at)

    pub repeated_is : repeated_by_parts later at d ≡ repeated_at later at d
    repeated_is = ap (λ (r : Result Task Fault). object_at (KKind ∷ KName ∷ KIn ∷ KOut ∷ KSpace ∷ KTask ∷ KTilers ∷ KLinks ∷ []) [] at d >> r)
        (three (repeated_with later at d) _ repeated_on (member_at at d KName name_at) (member_at at d KIn (list_of port_at)) (λ ins. member_at at d KOut (outputs_of (length ins) port_at)))

    pub interlink_is : interlink_by_parts later at d ≡ interlink_at later at d
    interlink_is = ap (λ (r : Result Interlink Fault). object_at (KFrom ∷ KTo ∷ KDistance ∷ KModulo ∷ KDefault ∷ []) [] at d >> r)
        (three (interlink_with later at d) _ (λ from to distance. refl) (member_at at d KFrom name_at) (member_at at d KTo name_at) (λ _. member_at at d KDistance vector_at))

  -- the rest of a fusion
  fuse_on : (task first second : List ℕ) → fuse_with at d task first second
      ≡ (member_at at d KBlock shape_at >>= (λ block. member_at at d KTiler tiler_at >>= (λ tiler. member_at at d KPicks (list_of pick_at) >>= (λ picks. Ok (fusion task first second block tiler picks)))))
  fuse_on task first second = three (λ block tiler picks. Ok (fusion task first second block tiler picks)) _ (λ block tiler picks. refl) (member_at at d KBlock shape_at) (member_at at d KTiler tiler_at) (λ _. member_at at d KPicks (list_of pick_at))

  pub fuse_is : fuse_by_parts at d ≡ fuse_at at d
  fuse_is = ap (λ (r : Result Step Fault). object_at (KKind ∷ KTask ∷ KFirst ∷ KSecond ∷ KBlock ∷ KTiler ∷ KPicks ∷ []) [] at d >> r)
      (three (fuse_with at d) _ fuse_on (member_at at d KTask name_at) (member_at at d KFirst name_at) (λ _. member_at at d KSecond name_at))

  -- the tilers of an entry
  tilers_on : (leaf processors space pattern : List ℕ) → entry_with at d leaf processors space pattern
      ≡ (member_at at d KFrom tiler_at >>= (λ from. member_at at d KTo tiler_at >>= (λ to. Ok (placed leaf processors space pattern from to))))
  tilers_on leaf processors space pattern = two (λ from to. Ok (placed leaf processors space pattern from to)) _ (λ from to. refl) (member_at at d KFrom tiler_at) (member_at at d KTo tiler_at)

  -- the rest of an entry
  entry_on : (leaf : List ℕ) → (three_at shape_at shape_at shape_at KProcessors KSpace KPattern at d >>= (λ s. entry_with at d leaf s.0 s.1 s.2))
      ≡ (member_at at d KProcessors shape_at >>= (λ processors. member_at at d KSpace shape_at >>= (λ space. member_at at d KPattern shape_at >>= (λ pattern. member_at at d KFrom tiler_at >>= (λ from. member_at at d KTo tiler_at >>= (λ to. Ok (placed leaf processors space pattern from to)))))))
  entry_on leaf = three (entry_with at d leaf) _ (tilers_on leaf) (member_at at d KProcessors shape_at) (member_at at d KSpace shape_at) (λ _. member_at at d KPattern shape_at)

  pub entry_is : entry_by_parts at d ≡ entry_at at d
  entry_is = ap (λ (r : Result Entry Fault). object_at (KLeaf ∷ KProcessors ∷ KSpace ∷ KPattern ∷ KFrom ∷ KTo ∷ []) [] at d >> r) (one _ _ entry_on (member_at at d KLeaf leaf_at))

-- ---- groups within other members

abbrev reshape_from : List ℕ → List ℕ → TilerOf → TilerOf → Reshape
reshape_from space pattern source target = record { space = space; pattern = pattern; source = source; target = target }

abbrev copy_from : Hook → Hook → Reshape → Copied
copy_from from to by = record { from = from; to = to; by = by }

abbrev reshaped : Result (List ℕ) Fault → Result (List ℕ) Fault → Result TilerOf Fault → Result TilerOf Fault → Result Reshape Fault
reshaped r s t u = two_of r s >>= (λ shapes. two_of t u >>= (λ tilers. Ok (reshape_from shapes.0 shapes.1 tilers.0 tilers.1)))

copied_by : (f g : Result Hook Fault) (r s : Result (List ℕ) Fault) (t u : Result TilerOf Fault) → (two_of f g >>= (λ ends. reshaped r s t u >>= (λ by. Ok (copy_from ends.0 ends.1 by))))
    ≡ (f >>= (λ from. g >>= (λ to. r >>= (λ space. s >>= (λ pattern. t >>= (λ source. u >>= (λ target. Ok (copy_from from to (reshape_from space pattern source target)))))))))
copied_by (Ok from) (Ok to) (Ok a) (Ok b) (Ok c) (Ok d) = refl
copied_by (Ok from) (Ok to) (Ok a) (Ok b) (Ok c) (Err e) = refl
copied_by (Ok from) (Ok to) (Ok a) (Ok b) (Err e) u = refl
copied_by (Ok from) (Ok to) (Ok a) (Err e) t u = refl
copied_by (Ok from) (Ok to) (Err e) s t u = refl
copied_by (Ok from) (Err e) r s t u = refl
copied_by (Err e) g r s t u = refl

pub copied_is : (at : At) (d : Data) → copied_by_parts at d ≡ copied_at at d
copied_is at d = ap (λ (r : Result Copied Fault). object_at (KFrom ∷ KTo ∷ KSpace ∷ KPattern ∷ KSource ∷ KTarget ∷ []) [] at d >> r)
    (copied_by (member_at at d KFrom hook_at) (member_at at d KTo hook_at) (member_at at d KSpace shape_at) (member_at at d KPattern shape_at) (member_at at d KSource tiler_at) (member_at at d KTarget tiler_at))

abbrev job_from : List InputArray → List Step → List Entry → Job
job_from input transform allocate = record { input = input; transform = transform; allocate = allocate }

abbrev document_from : Model → Job → Document
document_from model job = record { model = model; job = job }

abbrev job_by : Result (List InputArray) Fault → Result (List Step) Fault → Result (List Entry) Fault → Result Job Fault
job_by i s e = i >>= (λ input. s >>= (λ transform. e >>= (λ allocate. Ok (job_from input transform allocate))))

document_by : (m : Result Model Fault) (i : Result (List InputArray) Fault) (s : Result (List Step) Fault) (e : Result (List Entry) Fault) → (m >>= (λ model. job_by i s e >>= (λ job. Ok (document_from model job))))
    ≡ (m >>= (λ model. i >>= (λ input. s >>= (λ transform. e >>= (λ allocate. Ok (document_from model (job_from input transform allocate)))))))
document_by (Ok model) (Ok input) (Ok transform) (Ok allocate) = refl
document_by (Ok model) (Ok input) (Ok transform) (Err x) = refl
document_by (Ok model) (Ok input) (Err x) e = refl
document_by (Ok model) (Err x) s e = refl
document_by (Err x) i s e = refl

pub members_are : (later : Bool) (d : Data) → members_by_parts later d ≡ members_in later d
members_are later d = document_by (member_at [] d KModel (model_at later)) (member_at [] d KInput input_at) (member_at [] d KTransform (list_of step_at)) (member_at [] d KAllocate (list_of entry_at))
