-- A document that is written is read again as the same document.
use Rattle.std.proofs.Common.{◌≡◌, [], ◌∷◌, Bool, true, false, Ok, refl, if◌then◌else◌, codes}
use Rattle.serde_json.specs.Data.{Data}
use Rattle.aol_shape.specs.Lists.{same}
use Rattle.aol_shape.specs.declared.limit.LimitName.TheVariants.{Ports}
use Rattle.aol_model_types.specs.declared.place.Key.TheVariants.{KModel, KInput, KTransform, KAllocate, KTasks, KMain}
use Rattle.aol_model_types.specs.declared.task.Task.{Task}
use Rattle.aol_model_types.specs.declared.document.Model.{Model}
use Rattle.aol_model_types.specs.declared.document.Document.{Document}
use Rattle.aol_model_types.specs.declared.job.Job.{Job}
use Rattle.aol_model_types.specs.Places.{to_key}
use Rattle.aol_model_types.specs.Trees.{is_tree}
use Rattle.aol_model_types.specs.Readable.{IsReadable}
use Rattle.aol_model_types.specs.Reading.{kind_at, name_at, filled_list_of, elementary_at, compound_at, repeated_at, task_at, model_at, step_at, entry_at, document_in}
use Rattle.aol_model_types.specs.Writing.{task_tree, model_tree, step_tree, entry_tree, document_tree}
use Rattle.aol_document_laws.proofs.Readable.{document_readable}
use Rattle.aol_document_laws.proofs.AgainSteps.{Was, Reads, same_answer, went, formed, took, goes}
use Rattle.aol_document_laws.proofs.AgainLists.{list_again, bounded_was, bounded_again}
use Rattle.aol_document_laws.proofs.AgainTexts.{name_read}
use Rattle.aol_document_laws.proofs.AgainTasks.{elementary_read, compound_read}
use Rattle.aol_document_laws.proofs.AgainLinks.{repeated_read}
use Rattle.aol_document_laws.proofs.AgainJob.{input_read, step_read, entry_read}

task_read : (later : Bool) (t : Task) → Was (task_at later) t → Reads (task_at true) (task_tree t) t
task_read later t w = went (kind_at (codes "elementary" ∷ codes "compound" ∷ codes "repeated" ∷ []) w.0 w.1) w.3 (λ k _ e. by_kind (same k (codes "elementary")) (same k (codes "compound")) e)
  where
    by_kind : (elementary compound : Bool) → (if elementary then elementary_at w.0 w.1 else (if compound then compound_at w.0 w.1 else repeated_at later w.0 w.1)) ≡ Ok t → Reads (task_at true) (task_tree t) t
    by_kind true compound e = elementary_read t (w.0, w.1, w.2, e)
    by_kind false true e = compound_read t (w.0, w.1, w.2, e)
    by_kind false false e = repeated_read later t (w.0, w.1, w.2, e)

model_read : (later : Bool) (m : Model) → Was (model_at later) m → Reads (model_at true) (model_tree m) m
model_read later m w at = took w.0 w.1 w.2 KTasks (filled_list_of (task_at later)) (formed (KTasks ∷ KMain ∷ []) [] w.0 w.1 w.3) (λ tasks are_tasks e. took w.0 w.1 w.2 KMain name_at e (λ main name last.
    same_answer last (λ q. model_at true at (model_tree q) ≡ Ok q)
    (goes _ (bounded_again (task_at later) (task_at true) task_tree (task_read later) Ports (λ _. true) tasks (bounded_was (task_at later) Ports (λ _. true) tasks are_tasks) (to_key at KTasks)) (goes _ (name_read main name (to_key at KMain)) refl))))

-- a document is read as itself from the tree that is written of it
pub document-again : (m : Model) (j : Job) → IsReadable m j → document_in (document_tree m j) ≡ Ok (record { model = m; job = j })
document-again m j was =
    let r = was.model in
    goes _ (model_read r.0 m (to_key [] KModel, r.1, r.2, r.3) (to_key [] KModel))
    (goes _ (input_read j.input (to_key [] KInput, was.job.input.0, was.job.input.1, was.job.input.2) (to_key [] KInput))
    (goes _ (list_again step_at step_at step_tree step_read j.transform (to_key [] KTransform, was.job.transform.0, was.job.transform.1, was.job.transform.2) (to_key [] KTransform))
    (goes _ (list_again entry_at entry_at entry_tree entry_read j.allocate (to_key [] KAllocate, was.job.allocate.0, was.job.allocate.1, was.job.allocate.2) (to_key [] KAllocate))
    refl)))

-- so is a document that was read of some tree, in either version
pub documents_again : (t : Data) (doc : Document) → is_tree t ≡ true → document_in t ≡ Ok doc → document_in (document_tree doc.model doc.job) ≡ Ok doc
documents_again t doc h e = document-again doc.model doc.job (document_readable t doc h e)
