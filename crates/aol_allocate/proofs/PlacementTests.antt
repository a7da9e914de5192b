-- What the definitions say of these models, by computation.
use Rattle.std.specs.Prelude.{◌≡◌, refl, List, [], ◌∷◌, Some, None, codes}
use Rattle.aol_model_types.specs.Rules.{ShapesAgree}
use Rattle.aol_model_types.specs.declared.job.Entry.{Entry}
use Rattle.aol_allocate.specs.Placement.{workers_of, first_cause}
use Rattle.aol_allocate.specs.declared.cause.PlaceCause.TheVariants.{NoLeaf, Shape, Twice, Unplaced}
use Rattle.aol_allocate.proofs.Sample.{each_one, first_column, filter_model, grid_model, flip_model, entry}

filter_agrees : ShapesAgree filter_model
filter_agrees = refl

grid_agrees : ShapesAgree grid_model
grid_agrees = refl

flip_agrees : ShapesAgree flip_model
flip_agrees = refl

-- ---- without an entry

-- the first two workers have three instances each
filter_workers : workers_of filter_model [] 3 ≡ 0 ∷ 0 ∷ 0 ∷ 1 ∷ 1 ∷ 1 ∷ 2 ∷ 2 ∷ []
filter_workers = refl

-- where workers are more than instances, some have none
filter_many_workers : workers_of filter_model [] 16 ≡ 0 ∷ 2 ∷ 4 ∷ 6 ∷ 8 ∷ 10 ∷ 12 ∷ 14 ∷ []
filter_many_workers = refl

-- copies are shared out like other instances
flip_workers : workers_of flip_model [] 2 ≡ 0 ∷ 0 ∷ 0 ∷ 1 ∷ 1 ∷ 1 ∷ []
flip_workers = refl

-- ---- with an entry

-- the entry that exchanges both indices
abbrev grid_entry : List Entry
grid_entry = entry (codes "/*") each_one (2 ∷ 2 ∷ []) ∷ []

grid_placed : first_cause grid_model grid_entry ≡ None
grid_placed = refl

-- four processors share three workers
grid_workers : workers_of grid_model grid_entry 3 ≡ 0 ∷ 2 ∷ 1 ∷ 0 ∷ []
grid_workers = refl

grid_one_worker : workers_of grid_model grid_entry 1 ≡ 0 ∷ 0 ∷ 0 ∷ 0 ∷ []
grid_one_worker = refl

-- of many workers it uses as many as there are processors
grid_many_workers : workers_of grid_model grid_entry 64 ≡ 0 ∷ 2 ∷ 1 ∷ 3 ∷ []
grid_many_workers = refl

-- ---- refusals

grid_twice : first_cause grid_model (entry (codes "/*") first_column (2 ∷ 2 ∷ []) ∷ []) ≡ Some (0, Twice (0 ∷ 0 ∷ []))
grid_twice = refl

grid_unplaced : first_cause grid_model (entry (codes "/*") first_column (2 ∷ 1 ∷ []) ∷ []) ≡ Some (0, Unplaced (0 ∷ 1 ∷ []))
grid_unplaced = refl

grid_no_leaf : first_cause grid_model (entry (codes "/a") each_one (2 ∷ 2 ∷ []) ∷ []) ≡ Some (0, NoLeaf)
grid_no_leaf = refl

-- a tiler with a column too many
grid_shape : first_cause grid_model (entry (codes "/*") each_one (4 ∷ []) ∷ []) ≡ Some (0, Shape)
grid_shape = refl

-- a second entry of one leaf
grid_again : first_cause grid_model (entry (codes "/*") each_one (2 ∷ 2 ∷ []) ∷ grid_entry) ≡ Some (1, NoLeaf)
grid_again = refl

-- copies have no entry
flip_no_leaf : first_cause flip_model (entry (codes "/#0") each_one (2 ∷ 3 ∷ []) ∷ []) ≡ Some (0, NoLeaf)
flip_no_leaf = refl
