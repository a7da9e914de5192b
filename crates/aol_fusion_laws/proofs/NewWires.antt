-- The rules of the fused repetition hold.
use Rattle.std.proofs.Common.{◌≡◌, ℕ, zero, suc, ◌+◌, true, List, [], ◌∷◌, ◌++◌, map, Option, Some, None, is_some, sym, ◌∙◌, ap, refl, arith, subst}
use Rattle.std.specs.List.{IsAmong}
use Rattle.aol_tiler.specs.Matrices.{TilerOf}
use Rattle.aol_tiler.specs.Tiler.{substituted}
use Rattle.aol_expr_tree.specs.declared.port.Port.{Port}
use Rattle.aol_model_types.specs.declared.task.Repeated.{Repeated}
use Rattle.aol_model_types.specs.declared.task.TilerOn.{TilerOn}
use Rattle.aol_flat.specs.Home.{tiler_at}
use Rattle.aol_change.specs.declared.tasks.Side.{Side}
use Rattle.aol_change.specs.declared.tasks.Side.TheVariants.{Inputs}
use Rattle.aol_fusion_parts.specs.Ports.{port_name, renamed, name_among}
use Rattle.aol_fusion_parts.specs.Whole.{moved_tiler, moved_tilers, placed_tiler, placed_tilers}
use Rattle.aol_fusion_laws.proofs.Wired.{Wire, tiler_of, inner_of_wire}

-- ---- the tilers as wires

-- an old tiler on the new ports, changed so, and with this inner shape
abbrev pub new_wire : Side → ℕ → List Port → (TilerOf → TilerOf) → (Port → Port) → ℕ → Port → Option TilerOn → List Wire
new_wire side before outer change port k p (Some o) =
    record { outer = name_among side before outer o.outer; inner = record { name = port_name side k; shape = (port p).shape }; tiler = change o.tiler } ∷ []
new_wire side before outer change port k p None = []

abbrev pub new_wires : Repeated → Side → ℕ → List Port → (TilerOf → TilerOf) → (Port → Port) → ℕ → List Port → List Wire
new_wires t side before outer change port k [] = []
new_wires t side before outer change port k (p ∷ ports) =
    new_wire side before outer change port k p (tiler_at t p.name) ++ new_wires t side before outer change port (k + 1) ports

-- they are the placed tilers, and the moved ones
pub placed_are : (t : Repeated) (by : TilerOf) (port : Port → Port) (k : ℕ) (ports : List Port)
    → map tiler_of (new_wires t Inputs 0 t.ins (λ a. substituted a by) port k ports) ≡ placed_tilers t by k ports
placed_are t by port k [] = refl
placed_are t by port k (p ∷ ports) = go (tiler_at t p.name) (placed_are t by port (k + 1) ports)
  where
    rest : List Wire
    rest = new_wires t Inputs 0 t.ins (λ a. substituted a by) port (k + 1) ports

    go : (o : Option TilerOn) → map tiler_of rest ≡ placed_tilers t by (k + 1) ports
        → map tiler_of (new_wire Inputs 0 t.ins (λ a. substituted a by) port k p o ++ rest) ≡ placed_tiler by t.ins k o ++ placed_tilers t by (k + 1) ports
    go None h = h
    go (Some o) h = ap (λ os. record { outer = name_among Inputs 0 t.ins o.outer; inner = port_name Inputs k; tiler = substituted o.tiler by } ∷ os) h

pub moved_are : (t : Repeated) (side : Side) (before : ℕ) (outer : List Port) (port : Port → Port) (k : ℕ) (ports : List Port)
    → map tiler_of (new_wires t side before outer (λ a. a) port k ports) ≡ moved_tilers t side before outer k ports
moved_are t side before outer port k [] = refl
moved_are t side before outer port k (p ∷ ports) = go (tiler_at t p.name) (moved_are t side before outer port (k + 1) ports)
  where
    rest : List Wire
    rest = new_wires t side before outer (λ a. a) port (k + 1) ports

    go : (o : Option TilerOn) → map tiler_of rest ≡ moved_tilers t side before outer (k + 1) ports
        → map tiler_of (new_wire side before outer (λ a. a) port k p o ++ rest) ≡ moved_tiler side before outer k o ++ moved_tilers t side before outer (k + 1) ports
    go None h = h
    go (Some o) h = ap (λ os. record { outer = name_among side before outer o.outer; inner = port_name side k; tiler = o.tiler } ∷ os) h

-- the inner ports are the numbered ones, where each has a tiler
pub new_inners : (t : Repeated) (side : Side) (before : ℕ) (outer : List Port) (change : TilerOf → TilerOf) (port : Port → Port) (k : ℕ) (ports : List Port)
    → ((p : Port) → IsAmong ports p → is_some (tiler_at t p.name) ≡ true) → map inner_of_wire (new_wires t side before outer change port k ports) ≡ renamed side k (map port ports)
new_inners t side before outer change port k [] all = refl
new_inners t side before outer change port k (p ∷ ports) all =
    go (tiler_at t p.name) (all p (0, (omega arith, refl))) (new_inners t side before outer change port (k + 1) ports (λ q a. all q (suc a.0, (omega (arith, a.1.0), a.1.1))))
  where
    rest : List Wire
    rest = new_wires t side before outer change port (k + 1) ports

    go : (o : Option TilerOn) → is_some o ≡ true → map inner_of_wire rest ≡ renamed side (k + 1) (map port ports)
        → map inner_of_wire (new_wire side before outer change port k p o ++ rest) ≡ record { name = port_name side k; shape = (port p).shape } ∷ renamed side (k + 1) (map port ports)
    go None e h = cc
    go (Some o) e h = ap (λ ps. record { name = port_name side k; shape = (port p).shape } ∷ ps) h

-- what holds of each wire
pub each_wire : (P : Wire → Type 0) (t : Repeated) (side : Side) (before : ℕ) (outer : List Port) (change : TilerOf → TilerOf) (port : Port → Port) (k : ℕ) (ports : List Port) (w : Wire)
    → ((j : ℕ) (p : Port) (o : TilerOn) → IsAmong ports p → tiler_at t p.name ≡ Some o → P (record { outer = name_among side before outer o.outer; inner = record { name = port_name side j; shape = (port p).shape }; tiler = change o.tiler }))
    → IsAmong (new_wires t side before outer change port k ports) w → P w
each_wire P t side before outer change port k [] w each a = absurd (omega (arith, a.1.0))
each_wire P t side before outer change port k (p ∷ ports) w each a =
    go (tiler_at t p.name) refl (each_wire P t side before outer change port (k + 1) ports w (λ j q o b e. each j q o (suc b.0, (omega (arith, b.1.0), b.1.1)) e)) a
  where
    rest : List Wire
    rest = new_wires t side before outer change port (k + 1) ports

    go : (o : Option TilerOn) → tiler_at t p.name ≡ o → (IsAmong rest w → P w) → IsAmong (new_wire side before outer change port k p o ++ rest) w → P w
    go None e later b = later b
    go (Some o) e later (zero, b) = subst P (sym b.1) (each k p o (0, (omega arith, refl)) e)
    go (Some o) e later (suc i, b) = later (i, (omega (arith, b.0), b.1))

-- and where a port's wire is
pub wire_of : (t : Repeated) (side : Side) (before : ℕ) (outer : List Port) (change : TilerOf → TilerOf) (port : Port → Port) (k : ℕ) (ports : List Port) (p : Port) (o : TilerOn)
    → IsAmong ports p → tiler_at t p.name ≡ Some o → (w : Wire) × IsAmong (new_wires t side before outer change port k ports) w × (w.outer ≡ name_among side before outer o.outer)
wire_of t side before outer change port k [] p o a e = absurd (omega (arith, a.1.0))
wire_of t side before outer change port k (q ∷ ports) p o (zero, a) e = first (tiler_at t q.name) (ap (λ (x : Port). tiler_at t x.name) (sym a.1) ∙ e)
  where
    rest : List Wire
    rest = new_wires t side before outer change port (k + 1) ports

    first : (x : Option TilerOn) → x ≡ Some o → (w : Wire) × IsAmong (new_wire side before outer change port k q x ++ rest) w × (w.outer ≡ name_among side before outer o.outer)
    first None f = cc
    first (Some y) f =
        let is : y ≡ o = cc in
        (record { outer = name_among side before outer y.outer; inner = record { name = port_name side k; shape = (port q).shape }; tiler = change y.tiler }, (0, (omega arith, refl)), ap (λ (z : TilerOn). name_among side before outer z.outer) is)
wire_of t side before outer change port k (q ∷ ports) p o (suc i, a) e =
    later (tiler_at t q.name) (wire_of t side before outer change port (k + 1) ports p o (i, (omega (arith, a.0), a.1)) e)
  where
    rest : List Wire
    rest = new_wires t side before outer change port (k + 1) ports

    later : (x : Option TilerOn) → (w : Wire) × IsAmong rest w × (w.outer ≡ name_among side before outer o.outer) → (w : Wire) × IsAmong (new_wire side before outer change port k q x ++ rest) w × (w.outer ≡ name_among side before outer o.outer)
    later None r = r
    later (Some y) r = (r.0, (suc r.1.0, (omega (arith, r.1.1.0), r.1.1.1)), r.2)
