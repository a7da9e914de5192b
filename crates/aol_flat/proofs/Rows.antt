-- Worked examples of the definitions, by computation.
use Rattle.std.proofs.Common.{◌≡◌, ℕ, refl, arith, List, [], ◌∷◌, ◌++◌, map, pos, negsuc, ℤ, Some, None, codes, false}
use Rattle.std.specs.Fmt.{digits}
use Rattle.aol_shape.specs.Shape.{points}
use Rattle.aol_tiler.specs.Matrices.{TilerOf}
use Rattle.aol_expr_tree.specs.declared.op.ExprOp.TheVariants.{Add, Mul}
use Rattle.aol_expr_tree.specs.declared.port.Port.{Port}
use Rattle.aol_expr_tree.specs.declared.value.Kind.TheVariants.{Overflow, Range}
use Rattle.aol_expr_tree.specs.declared.value.Val.{Val}
use Rattle.aol_expr_tree.specs.declared.value.Val.TheVariants.{Num, Bad}
use Rattle.aol_expr_tree.specs.declared.value.Width.TheVariants.{Int16, Int64}
use Rattle.aol_expr_tree.specs.Tree.{index, read, bin, trees}
use Rattle.aol_link.specs.declared.link.Fallback.TheVariants.{Number}
use Rattle.aol_link.specs.declared.link.When.TheVariants.{Always}
use Rattle.aol_model_types.specs.declared.document.Model.{Model}
use Rattle.aol_model_types.specs.declared.job.InputArray.{InputArray}
use Rattle.aol_model_types.specs.declared.task.Elementary.{Elementary}
use Rattle.aol_model_types.specs.declared.task.Hook.{Hook}
use Rattle.aol_model_types.specs.declared.task.OutPort.{OutPort}
use Rattle.aol_model_types.specs.declared.task.Task.{Task}
use Rattle.aol_model_types.specs.declared.task.Task.TheVariants as tasks
use Rattle.aol_flat.specs.Place.{Element, IntoPart, IntoRepetition}
use Rattle.aol_flat.specs.Inputs.{InputsFit}
use Rattle.aol_flat.specs.InstanceValue.{instance_value, instance_outputs}
use Rattle.aol_flat.specs.Equation.{PartInput, TiledInput, LinkedInput, EarlierOutput, DefaultNumber, OuterOutput, ElementaryOutput}
use Rattle.aol_flat.specs.Need.{by_part_input, by_following, by_computing, one, more, NeedsItself}
use Rattle.aol_flat.specs.ElementaryMain.{main_value}
use Rattle.aol_flat.specs.Printed.{output_line, fault_line}

abbrev scalar : List ℕ → Port
scalar name = record { name = name; shape = [] }

abbrev row : List ℕ → ℕ → Port
row name n = record { name = name; shape = n ∷ [] }

-- ---- the values of an elementary main task, and how they are printed

abbrev add : Elementary
add = record {
  name = codes "Add";
  ins = record { name = codes "a"; shape = 2 ∷ 2 ∷ [] } ∷ record { name = codes "b"; shape = 2 ∷ 2 ∷ [] } ∷ [];
  outs = record { port = record { name = codes "y"; shape = 2 ∷ 2 ∷ [] }; expr = bin Add (read (codes "a") (trees (index 0 ∷ index 1 ∷ []))) (read (codes "b") (trees (index 0 ∷ index 1 ∷ []))) } ∷ [];
  wide_in = Int64 ∷ Int64 ∷ [];
  wide_out = Int64 ∷ [];
}

abbrev add_out : OutPort
add_out = record { port = record { name = codes "y"; shape = 2 ∷ 2 ∷ [] }; expr = bin Add (read (codes "a") (trees (index 0 ∷ index 1 ∷ []))) (read (codes "b") (trees (index 0 ∷ index 1 ∷ []))) }

abbrev add_model : Model
add_model = record { tasks = tasks.Elementary add ∷ []; main = codes "Add" }

-- in byte order of names, which is not the order of the ports
abbrev add_inputs : List InputArray
add_inputs = record { name = codes "b"; nums = pos 10 ∷ pos 20 ∷ pos 30 ∷ pos 40 ∷ [] } ∷ record { name = codes "a"; nums = pos 1 ∷ pos 2 ∷ pos 3 ∷ pos 4 ∷ [] } ∷ []

add-fits : InputsFit add_model add_inputs
add-fits = (refl, (refl, tt))

add-printed : output_line add_out.port (map (main_value add_model add add_inputs 0 add_out) (points (2 ∷ 2 ∷ []))) ≡ codes "y {2,2} 11 22 33 44" ++ 10 ∷ []
unfolding digits
add-printed = refl

-- the number plus the rank of the point
abbrev big : Elementary
big = record {
  name = codes "Big";
  ins = scalar (codes "a") ∷ [];
  outs = record { port = row (codes "y") 2; expr = bin Add (read (codes "a") (trees [])) (index 0) } ∷ [];
  wide_in = Int64 ∷ [];
  wide_out = Int64 ∷ [];
}

big-overflows : instance_outputs 1 big (Num (pos 9223372036854775807) ∷ []) ≡ Num (pos 9223372036854775807) ∷ Bad (record { kind = Overflow; task = 1; port = 0; point = 1 }) ∷ []
big-overflows = refl

big-printed : fault_line (record { tasks = tasks.Elementary add ∷ tasks.Elementary big ∷ []; main = codes "Big" }) (record { kind = Overflow; task = 1; port = 0; point = 1 })
    ≡ codes "fault overflow Big y {1}" ++ 10 ∷ []
unfolding digits
big-printed = refl

-- ---- widths

abbrev square_out : OutPort
square_out = record { port = scalar (codes "s"); expr = bin Mul (read (codes "a") (trees [])) (read (codes "a") (trees [])) }

abbrev square : Elementary
square = record { name = codes "Sq16"; ins = scalar (codes "a") ∷ []; outs = square_out ∷ []; wide_in = Int16 ∷ []; wide_out = Int16 ∷ [] }

abbrev squared : ℤ → Val
squared z = instance_value 0 square (Num z ∷ []) 0 square_out []

square-held : squared (negsuc 180) ≡ Num (pos 32761)
square-held = refl

square-too_wide : squared (pos 182) ≡ Bad (record { kind = Range; task = 0; port = 0; point = 0 })
square-too_wide = refl

input-too_wide : squared (pos 32768) ≡ Bad (record { kind = Range; task = 0; port = 0; point = 0 })
input-too_wide = refl

-- a fault of an input goes on as it is
fault-goes_on : instance_outputs 0 square (Bad (record { kind = Overflow; task = 7; port = 1; point = 5 }) ∷ []) ≡ Bad (record { kind = Overflow; task = 7; port = 1; point = 5 }) ∷ []
fault-goes_on = refl

-- ---- a running sum of six: tilers and a link between repetitions

abbrev acc : Task
acc = tasks.Elementary (record {
  name = codes "Acc";
  ins = scalar (codes "a") ∷ scalar (codes "t") ∷ [];
  outs = record { port = scalar (codes "s"); expr = bin Add (read (codes "a") (trees [])) (read (codes "t") (trees [])) } ∷ [];
  wide_in = Int64 ∷ Int64 ∷ [];
  wide_out = Int64 ∷ [];
})

-- one element, that before the repetition
abbrev shifted : TilerOf
shifted = record { origin = negsuc 0 ∷ []; paving = (pos 1 ∷ []) ∷ []; fitting = [] }

abbrev run_model : Model
run_model = record {
  tasks = acc ∷ tasks.Repeated (record {
    name = codes "Run";
    ins = row (codes "x") 6 ∷ [];
    outs = row (codes "y") 6 ∷ [];
    space = 6 ∷ [];
    task = codes "Acc";
    tilers = record { outer = codes "x"; inner = codes "a"; tiler = shifted } ∷ record { outer = codes "y"; inner = codes "s"; tiler = shifted } ∷ [];
    links = record { from = codes "s"; to = codes "t"; distance = pos 1 ∷ []; wrap = false; rest = record { when = Always; take = Number (pos 0) } ∷ [] } ∷ [];
  }) ∷ [];
  main = codes "Run";
}

abbrev at_main : List ℕ → List ℕ → Element
at_main p x = record { place = []; port = p; index = x }

abbrev at_repetition : ℕ → List ℕ → Element
at_repetition r p = record { place = IntoRepetition (r ∷ []) ∷ []; port = p; index = [] }

-- the first repetition takes the last element
first-tiled : TiledInput run_model (at_repetition 0 (codes "a")) (at_main (codes "x") (5 ∷ []))
first-tiled = record {
  up = [];
  task = _;
  at_place = refl;
  tiling = _;
  listed = (0, (omega arith, refl));
  array = 6 ∷ [];
  outer_shape = refl;
  repetition = 0 ∷ [];
  left = refl;
  right = refl;
  exists = record { task = acc; at_place = refl; shape = []; at_port = refl; inside = tt };
}

fifth-given : OuterOutput run_model (at_main (codes "y") (4 ∷ [])) (at_repetition 5 (codes "s"))
fifth-given = record {
  task = _;
  at_place = refl;
  tiling = _;
  listed = (1, (omega arith, refl));
  array = 6 ∷ [];
  outer_shape = refl;
  repetition = 5 ∷ [];
  right = refl;
  left = refl;
  exists = record { task = acc; at_place = refl; shape = []; at_port = refl; inside = tt };
}

abbrev first-link : LinkedInput run_model (at_repetition 0 (codes "t"))
first-link = record {
  up = [];
  task = _;
  at_place = refl;
  link = _;
  listed = (0, (omega arith, refl));
  repetition = 0 ∷ [];
  left = refl;
  exists = record { task = acc; at_place = refl; shape = []; at_port = refl; inside = tt };
}

-- the first repetition of the link takes the default, and the next one the output before it
first-default : DefaultNumber run_model (at_repetition 0 (codes "t")) (pos 0)
first-default = record { linked = first-link; outside = refl; choice = _; chosen = refl; takes = refl }

second-linked : EarlierOutput run_model (at_repetition 1 (codes "t")) (at_repetition 0 (codes "s"))
second-linked = record {
  linked = record {
    up = [];
    task = _;
    at_place = refl;
    link = _;
    listed = (0, (omega arith, refl));
    repetition = 1 ∷ [];
    left = refl;
    exists = record { task = acc; at_place = refl; shape = []; at_port = refl; inside = tt };
  };
  source = 0 ∷ [];
  in_space = refl;
  right = refl;
}

-- ---- two parts that each need the other

abbrev own : List ℕ → Hook
own p = record { part = None; port = p }

abbrev of_part : List ℕ → List ℕ → Hook
of_part part p = record { part = Some part; port = p }

abbrev loop_model : Model
loop_model = record {
  tasks = acc ∷ tasks.Compound (record {
    name = codes "Loop";
    ins = scalar (codes "x") ∷ [];
    outs = scalar (codes "y") ∷ [];
    parts = record { name = codes "f"; task = codes "Acc" } ∷ record { name = codes "g"; task = codes "Acc" } ∷ [];
    links = record { from = own (codes "x"); to = of_part (codes "f") (codes "a") }
        ∷ record { from = of_part (codes "g") (codes "s"); to = of_part (codes "f") (codes "t") }
        ∷ record { from = own (codes "x"); to = of_part (codes "g") (codes "a") }
        ∷ record { from = of_part (codes "f") (codes "s"); to = of_part (codes "g") (codes "t") }
        ∷ record { from = of_part (codes "f") (codes "s"); to = own (codes "y") }
        ∷ [];
    reshapes = [];
  }) ∷ [];
  main = codes "Loop";
}

abbrev at_part : ℕ → List ℕ → Element
at_part k p = record { place = IntoPart k ∷ []; port = p; index = [] }

-- each takes what the other gives
f-takes : PartInput loop_model (at_part 0 (codes "t")) (at_part 1 (codes "s"))
f-takes = record {
  up = [];
  task = _;
  at_place = refl;
  link = _;
  listed = (1, (omega arith, refl));
  part = codes "f";
  into_part = refl;
  left = refl;
  right = refl;
  exists = record { task = acc; at_place = refl; shape = []; at_port = refl; inside = tt };
}

g-takes : PartInput loop_model (at_part 1 (codes "t")) (at_part 0 (codes "s"))
g-takes = record {
  up = [];
  task = _;
  at_place = refl;
  link = _;
  listed = (3, (omega arith, refl));
  part = codes "g";
  into_part = refl;
  left = refl;
  right = refl;
  exists = record { task = acc; at_place = refl; shape = []; at_port = refl; inside = tt };
}

abbrev f-gives : ElementaryOutput loop_model (at_part 0 (codes "s"))
f-gives = record { task = _; at_place = refl; number = 0; out = _; listed = refl; named = refl; inside = tt }

abbrev g-gives : ElementaryOutput loop_model (at_part 1 (codes "s"))
g-gives = record { task = _; at_place = refl; number = 0; out = _; listed = refl; named = refl; inside = tt }

loop-needs-itself : NeedsItself loop_model (at_part 0 (codes "s"))
loop-needs-itself =
    more (by_computing f-gives (1, (omega arith, refl)))
    (more (by_following (by_part_input f-takes))
    (more (by_computing g-gives (1, (omega arith, refl)))
    (one (by_following (by_part_input g-takes)))))
