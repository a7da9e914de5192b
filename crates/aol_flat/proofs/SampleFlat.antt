-- What the definitions say of these models, by computation.
use Rattle.std.specs.Prelude.{◌≡◌, refl, ℕ, List, [], ◌∷◌, map, length, Some, None, option_map, codes, pos, slice_get}
use Rattle.std.specs.Fmt.{digits}
use Rattle.aol_expr_tree.specs.declared.value.Val.TheVariants.{Num}
use Rattle.aol_model_types.specs.Rules.{ShapesAgree}
use Rattle.aol_model_types.specs.Types.{HasNames}
use Rattle.aol_flat.specs.Place.{Element, IntoPart, IntoRepetition}
use Rattle.aol_flat.specs.InstanceValue.{instance_outputs}
use Rattle.aol_flat.specs.Home.{home_of, Kept, Constant}
use Rattle.aol_flat.specs.Instance.{instances, leaves, leaf_path, Run, Copy, read_element, written_element, read_elements}
use Rattle.aol_flat.specs.Laid.{homes_of}
use Rattle.aol_flat.specs.Limits.{first_limit}
use Rattle.aol_flat.specs.Targets.{Twice, first_twice}
use Rattle.aol_flat.specs.Reads.{Reading, readings}
use Rattle.aol_flat.specs.Sources.{source_at}
use Rattle.aol_flat.specs.declared.view.Reader.{Reader}
use Rattle.aol_flat.specs.declared.view.Reader.TheVariants.{Instance as ByInstance, Main}
use Rattle.aol_flat.specs.declared.view.Writer.{Writer}
use Rattle.aol_flat.proofs.Sample.{tap, one_model, filter_model, chain_model, run_model, loop_model, flip_model, spread_model}

abbrev at_main : List ℕ → List ℕ → Element
at_main port x = record { place = []; port = port; index = x }

abbrev at_repetition : ℕ → List ℕ → List ℕ → Element
at_repetition r port x = record { place = IntoRepetition (r ∷ []) ∷ []; port = port; index = x }

-- ---- Filter

filter_agrees : ShapesAgree filter_model
filter_agrees = refl

filter_names : HasNames filter_model
filter_names = refl

-- the first window begins at the last sample
filter_reads : map (λ x. home_of filter_model (at_repetition 0 (codes "w") (x ∷ []))) (0 ∷ 1 ∷ 2 ∷ [])
    ≡ Kept (at_main (codes "x") (7 ∷ [])) ∷ Kept (at_main (codes "x") (0 ∷ [])) ∷ Kept (at_main (codes "x") (1 ∷ [])) ∷ []
filter_reads = refl

-- the results are the main output's elements
filter_writes : home_of filter_model (at_repetition 5 (codes "s") []) ≡ Kept (at_main (codes "y") (5 ∷ []))
filter_writes = refl

filter_instances : length (instances filter_model) ≡ 8
filter_instances = refl

filter_seventh : slice_get (instances filter_model) 6 ≡ Some (Run (IntoRepetition (6 ∷ []) ∷ []))
filter_seventh = refl

filter_path : map (leaf_path filter_model) (leaves filter_model) ≡ codes "/*" ∷ []
filter_path = refl

-- an instance reads its window, and nothing past it
filter_window : map (λ e. e.index) (read_elements filter_model (Run (IntoRepetition (3 ∷ []) ∷ []))) ≡ (0 ∷ []) ∷ (1 ∷ []) ∷ (2 ∷ []) ∷ []
filter_window = refl

filter_past : read_element filter_model (Run (IntoRepetition (0 ∷ []) ∷ [])) 0 3 ≡ None
filter_past = refl

-- the sum of a window
filter_gives : instance_outputs 0 tap (Num (pos 8) ∷ Num (pos 1) ∷ Num (pos 2) ∷ []) ≡ Num (pos 11) ∷ []
filter_gives = refl

filter_once : first_twice filter_model ≡ None
filter_once = refl

-- ---- Chain: eight inputs, four outputs, and eight between the parts

chain_agrees : ShapesAgree chain_model
chain_agrees = refl

chain_cells : length (homes_of chain_model) ≡ 20
chain_cells = refl

chain_between : slice_get (homes_of chain_model) 14 ≡ Some (record { place = IntoPart 0 ∷ []; port = codes "y"; index = 2 ∷ [] })
chain_between = refl

-- the second window of the second part is taken from what the first gives
chain_reads : map (λ x. home_of chain_model (record { place = IntoRepetition (1 ∷ []) ∷ IntoPart 1 ∷ []; port = codes "w"; index = x ∷ [] })) (0 ∷ 2 ∷ [])
    ≡ Kept (record { place = IntoPart 0 ∷ []; port = codes "y"; index = 2 ∷ [] }) ∷ Kept (record { place = IntoPart 0 ∷ []; port = codes "y"; index = 4 ∷ [] }) ∷ []
chain_reads = refl

chain_paths : map (leaf_path chain_model) (leaves chain_model) ≡ codes "/f/*" ∷ codes "/g/*" ∷ []
chain_paths = refl

chain_instances : length (instances chain_model) ≡ 12
chain_instances = refl

chain_in_limits : first_limit chain_model ≡ None
chain_in_limits = refl

-- ---- Run6: the first repetition takes the default, the others the repetition before

run_agrees : ShapesAgree run_model
run_agrees = refl

run_first : home_of run_model (at_repetition 0 (codes "t") []) ≡ Constant (pos 0)
run_first = refl

run_fourth : home_of run_model (at_repetition 3 (codes "t") []) ≡ Kept (at_main (codes "y") (2 ∷ []))
run_fourth = refl

-- ---- a loop: the first part's result is handed up, the second's is stored

loop_agrees : ShapesAgree loop_model
loop_agrees = refl

loop_reads : map (λ k. home_of loop_model (record { place = IntoPart k ∷ []; port = codes "t"; index = [] })) (0 ∷ 1 ∷ [])
    ≡ Kept (record { place = IntoPart 1 ∷ []; port = codes "s"; index = [] }) ∷ Kept (at_main (codes "y") []) ∷ []
loop_reads = refl

loop_cells : homes_of loop_model ≡ at_main (codes "x") [] ∷ at_main (codes "y") [] ∷ record { place = IntoPart 1 ∷ []; port = codes "s"; index = [] } ∷ []
loop_cells = refl

-- ---- Flip: six copies; the fourth reads {1,0} and writes {0,1}

flip_agrees : ShapesAgree flip_model
flip_agrees = refl

flip_copies : length (instances flip_model) ≡ 6
flip_copies = refl

flip_fourth : slice_get (instances flip_model) 3 ≡ Some (Copy [] 0 (1 ∷ []) (0 ∷ []))
flip_fourth = refl

flip_reads : read_element flip_model (Copy [] 0 (1 ∷ []) (0 ∷ [])) 0 0 ≡ Some (at_main (codes "x") (1 ∷ 0 ∷ []))
flip_reads = refl

flip_writes : written_element flip_model (Copy [] 0 (1 ∷ []) (0 ∷ [])) 0 0 ≡ Some (at_main (codes "y") (0 ∷ 1 ∷ []))
flip_writes = refl

flip_past : written_element flip_model (Copy [] 0 (1 ∷ []) (0 ∷ [])) 0 1 ≡ None
flip_past = refl

flip_path : map (leaf_path flip_model) (leaves flip_model) ≡ codes "/#0" ∷ []
unfolding digits
flip_path = refl

flip_once : first_twice flip_model ≡ None
flip_once = refl

-- ---- Spread: two repetitions write one point

abbrev shown : Twice → (List ℕ × List ℕ) × (Writer × Writer)
shown t = ((t.target.port, t.point), (t.first, t.second))

spread_twice : option_map shown (first_twice spread_model)
    ≡ Some ((codes "y", 2 ∷ []), (record { item = 1; rep = 0 ∷ []; pattern = 2 ∷ [] }, record { item = 1; rep = 1 ∷ []; pattern = 0 ∷ [] }))
spread_twice = refl

-- ---- One: the reads in order

abbrev shown_reading : Reading → (Reader × ℕ × ℕ) × Element
shown_reading r = ((r.reader, r.port, r.rank), r.element)

one_readings : map shown_reading (readings one_model)
    ≡ ((ByInstance 0, 0, 0), record { place = IntoRepetition [] ∷ []; port = codes "a"; index = [] }) ∷ ((Main, 0, 0), at_main (codes "y") []) ∷ []
one_readings = refl

-- ---- the one source of an element

-- an output of Filter is that of its repetition, and one of Flip is copied
filter_source : source_at filter_model (at_main (codes "y") (5 ∷ [])) ≡ Some (at_repetition 5 (codes "s") [])
filter_source = refl

flip_source : source_at flip_model (at_main (codes "y") (0 ∷ 1 ∷ [])) ≡ Some (at_main (codes "x") (1 ∷ 0 ∷ []))
flip_source = refl

-- a default number and a main input have none
run_source : map (source_at run_model) (at_repetition 0 (codes "t") [] ∷ at_repetition 3 (codes "t") [] ∷ at_main (codes "x") (0 ∷ []) ∷ []) ≡ None ∷ Some (at_repetition 2 (codes "s") []) ∷ None ∷ []
run_source = refl
