-- An instance that needs itself has an element that does.
use Rattle.std.proofs.Common.{◌≡◌, ℕ, zero, suc, List, [], ◌∷◌, map, Some, slice_get, sym, ◌∙◌, ap, refl, arith, ◌⊎◌, inl, inr, subst}
use Rattle.std.specs.List.{IsAmong}
use Rattle.aol_shape.specs.Shape.{IsPointOf}
use Rattle.aol_expr_tree.specs.declared.port.Port.{Port}
use Rattle.aol_model_types.specs.declared.document.Model.{Model}
use Rattle.aol_model_types.specs.declared.task.Elementary.{Elementary}
use Rattle.aol_model_types.specs.declared.task.OutPort.{OutPort}
use Rattle.aol_model_types.specs.declared.task.Task.TheVariants as tasks
use Rattle.aol_flat.specs.Place.{Place, Element, task_at, elements_of}
use Rattle.aol_flat.specs.Equation.{ElementaryOutput}
use Rattle.aol_flat.specs.Need.{Needs, by_following, by_copying, by_computing, Leads, one, more, NeedsItself}
use Rattle.aol_flat.specs.Instance.{Instance, Run, Copy, instances, read_elements, written_elements}
use Rattle.aol_flat.specs.InstanceNeed.{Reaches, here, onward, NeedChain, one as one_need, more as more_needs, IsReal, AreReal, InstanceCyclesAreReal}
use Rattle.aol_flat.proofs.Among.{among_map, among_get, at_port}

-- ---- what an instance writes needs what it reads

-- an element of the outputs of an elementary instance has an equation
pub output_of_port : (m : Model) (place : Place) (e : Elementary) → task_at m place ≡ Some (tasks.Elementary e) → (w : Element) → IsAmong (elements_of place (map (λ (o : OutPort). o.port) e.outs)) w
    → (o : ElementaryOutput m w) × (o.task ≡ e) × (w.place ≡ place)
output_of_port m place e h w listed =
    let at = at_port place (map (λ (o : OutPort). o.port) e.outs) w listed in
    let out = among_map (λ (o : OutPort). o.port) e.outs at.port at.listed in
    let same_place : w.place ≡ place = ap (λ (x : Element). x.place) at.is in
    let P : Port → Type 0 = λ q. IsPointOf q.shape w.index in
    let output : ElementaryOutput m w = record {
      task = e;
      at_place = ap (task_at m) same_place ∙ h;
      number = out.1.0;
      out = out.0;
      listed = among_get e.outs out.1.0 out.0 out.1.1.0 out.1.1.1;
      named = ap (λ (x : Element). x.port) at.is ∙ ap (λ (q : Port). q.name) out.2;
      inside = subst P out.2 at.inside;
    } in
    (output, refl, same_place)

pub written_needs_read : (m : Model) (i : Instance) → IsReal m i → (w p : Element) → IsAmong (written_elements m i) w → IsAmong (read_elements m i) p → Needs m w p
written_needs_read m (Run place) real w p hw hp =
    let P : List Element → Type 0 = λ es. IsAmong es w in
    let Q : List Element → Type 0 = λ es. IsAmong es p in
    let outs : written_elements m (Run place) ≡ elements_of place (map (λ (o : OutPort). o.port) real.0.outs) = rw real.1 in
    let ins : read_elements m (Run place) ≡ elements_of place real.0.ins = rw real.1 in
    let o = output_of_port m place real.0 real.1 w (subst P outs hw) in
    let R : Place → Type 0 = λ x. IsAmong (elements_of x real.0.ins) p in
    let S : Elementary → Type 0 = λ e. IsAmong (elements_of w.place e.ins) p in
    by_computing o.0 (subst S (sym o.1) (subst R (sym o.2) (subst Q ins hp)))
written_needs_read m (Copy place k repetition part) real w p hw hp =
    let P : List Element → Type 0 = λ es. IsAmong es w in
    let Q : List Element → Type 0 = λ es. IsAmong es p in
    let is_target : w ≡ real.0 = only real.0 w (subst P real.3 hw) in
    let is_source : p ≡ real.1 = only real.1 p (subst Q real.4 hp) in
    let R : Element → Type 0 = λ x. Needs m x p in
    let S : Element → Type 0 = λ x. Needs m real.0 x in
    subst R (sym is_target) (subst S (sym is_source) (by_copying real.2))
  where
    only : (x y : Element) → IsAmong (x ∷ []) y → y ≡ x
    only x y (zero, h) = h.1
    only x y (suc i, h) = absurd (omega (arith, h.0))

-- ---- along a chain of instances

abbrev Path : Model → Element → Element → Type 0
Path m p q = (p ≡ q) ⊎ Leads m p q

need_path : (m : Model) (p q r : Element) → Needs m p q → Path m q r → Leads m p r
need_path m p q r n (inl e) = let P : Element → Type 0 = λ x. Needs m p x in one (subst P e n)
need_path m p q r n (inr l) = more n l

reach_path : (m : Model) (p q r : Element) → Reaches m p q → Path m q r → Path m p r
reach_path m p q r here w = w
reach_path m p q r (onward {q = x} f h) w = inr (need_path m p x r (by_following f) (reach_path m x q r h w))

-- a read of the first instance leads to something that the last one writes
record ChainPath (m : Model) (j k : ℕ) : Type 0 where
  reader : Instance
  writer : Instance
  at_reader : slice_get (instances m) j ≡ Some reader
  at_writer : slice_get (instances m) k ≡ Some writer
  read : Element
  written : Element
  among_reads : IsAmong (read_elements m reader) read
  among_writes : IsAmong (written_elements m writer) written
  path : Path m read written

some_injective : {X : Type 0} (a b : X) → Some a ≡ Some b → a ≡ b
some_injective a b h = cc

module _ (m : Model) (real : AreReal m) where
  chain_path : (j k : ℕ) → NeedChain m j k → ChainPath m j k
  chain_path j k (one_need n) = record {
    reader = n.reader;
    writer = n.writer;
    at_reader = n.at_reader;
    at_writer = n.at_writer;
    read = n.read;
    written = n.written;
    among_reads = n.among_reads;
    among_writes = n.among_writes;
    path = reach_path m n.read n.written n.written n.joined (inl refl);
  }
  chain_path j k (more_needs {j = x} n c) =
      let r = chain_path x k c in
      let same : n.writer ≡ r.reader = some_injective n.writer r.reader (sym n.at_writer ∙ r.at_reader) in
      let P : Instance → Type 0 = λ i. IsAmong (written_elements m i) n.written in
      let need : Needs m n.written r.read = written_needs_read m r.reader (real x r.reader r.at_reader) n.written r.read (subst P same n.among_writes) r.among_reads in
      record {
        reader = n.reader;
        writer = r.writer;
        at_reader = n.at_reader;
        at_writer = r.at_writer;
        read = n.read;
        written = r.written;
        among_reads = n.among_reads;
        among_writes = r.among_writes;
        path = reach_path m n.read n.written r.written n.joined (inr (need_path m n.written r.read r.written need r.path));
      }

  real_cycle : (j : ℕ) → NeedChain m j j → (p : Element) × NeedsItself m p
  real_cycle j c =
      let r = chain_path j j c in
      let same : r.writer ≡ r.reader = some_injective r.writer r.reader (sym r.at_writer ∙ r.at_reader) in
      let P : Instance → Type 0 = λ i. IsAmong (written_elements m i) r.written in
      let need : Needs m r.written r.read = written_needs_read m r.reader (real j r.reader r.at_reader) r.written r.read (subst P same r.among_writes) r.among_reads in
      (r.written, need_path m r.written r.read r.written need r.path)

pub instance_cycles_are_real : InstanceCyclesAreReal
instance_cycles_are_real m real j c = real_cycle m real j c
