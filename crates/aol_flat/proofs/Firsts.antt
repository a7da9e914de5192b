-- The first cells of the ports of all nodes, port by port.
use Rattle.std.proofs.Common.{◌≡◌, ℕ, zero, suc, ◌+◌, ◌*◌, ◌<◌, ◌≤◌, Bool, true, false, cond, List, [], ◌∷◌, ◌++◌, length, map, flat_map, take, get_or, Result, Ok, sym, ◌∙◌, ap, refl, arith, subst, ◌⊎◌, inl, inr, add-one}
use Rattle.std.proofs.lemmas.List.{append-nil, append_assoc, length-append, length-map, map-append}
use Rattle.std.proofs.lemmas.Grind.{flat_map-append}
use Rattle.std.proofs.Math.Seq.{take-suc}
use Rattle.aol_shape.specs.declared.memory.NoMemory.{NoMemory}
use Rattle.aol_shape.specs.Lists.{numbers_below}
use Rattle.aol_shape.specs.Shape.{size, points, point_at}
use Rattle.aol_shape.proofs.Sizes.{size_both}
use Rattle.aol_expr_tree.specs.declared.port.Port.{Port}
use Rattle.aol_model_types.specs.declared.task.Task.{Task}
use Rattle.aol_model_types.specs.Rules.{inputs_of, outputs_of}
use Rattle.aol_flat.specs.declared.cells.Cells.{Cells}
use Rattle.aol_flat.specs.Cells.{NodePort, cells_at, ports_on, AreFirsts, PushesPorts, PushesNode}
use Rattle.aol_flat.specs.Laid.{port_cells, cell_at}
use Rattle.aol_flat.specs.Leaves.{narrowed}
use Rattle.aol_flat.specs.Node.{Node, space_around}
use Rattle.aol_flat.specs.Saturated.{saturated}
use Rattle.aol_flat.specs.Stored.{stored_by}
use Rattle.aol_flat.proofs.Saturation.{saturated-add, saturated-mul_left}
use Rattle.aol_flat.proofs.Stepping.{push_cases}
use Rattle.aol_flat.proofs.Totals.{length-numbers}

-- what adding ports answers
abbrev pub Pushing : Type 0
Pushing = Result (Unit {0}) NoMemory

-- the cells of an array
pub length-port_cells : (node : Node) (p : Port) → length (port_cells node p) ≡ size (space_around node) * size p.shape
length-port_cells node p =
    let whole : List ℕ = space_around node ++ p.shape in
    length-map (points whole) (cell_at node p.name (length (space_around node)))
    ∙ (length-map (numbers_below (size whole)) (point_at whole) ∙ (length-numbers 0 (size whole) ∙ size_both (space_around node) p.shape))

take_front : {X : Type 0} (xs ys : List X) (k : ℕ) → k ≤ length xs → take k (xs ++ ys) ≡ take k xs
take_front xs ys zero h = refl
take_front [] ys (suc k) h = absurd (omega (arith, h))
take_front (x ∷ xs) ys (suc k) h = ap (λ zs. x ∷ zs) (take_front xs ys k (omega (arith, h)))

-- one item more
pub take_next : {X : Type 0} (xs : List X) (i : ℕ) (x : X) → i < length xs → x ≡ get_or xs i x → take (i + 1) xs ≡ take i xs ++ x ∷ []
take_next xs i x lt is = rw add-one (take-suc xs i x lt ∙ ap (λ y. take i xs ++ y ∷ []) (sym is))

take_whole : {X : Type 0} (xs : List X) → take (length xs) xs ≡ xs
take_whole [] = refl
take_whole (x ∷ xs) = ap (λ zs. x ∷ zs) (take_whole xs)

-- ---- one port

grown : (node : Node) (p : Port) (stored : Bool) (count before : ℕ) (instances : ℕ) → instances ≡ saturated (size (space_around node)) → count ≡ saturated before
    → cond stored (saturated (count + saturated (instances * size p.shape))) count ≡ saturated (before + length (cond stored (port_cells node p) []))
grown node p false count before instances many is = is ∙ omega arith
grown node p true count before instances many is =
    ap (λ n. saturated (n + saturated (instances * size p.shape))) is
    ∙ (ap (λ n. saturated (saturated before + n)) (ap (λ n. saturated (n * size p.shape)) many ∙ saturated-mul_left (size (space_around node)) (size p.shape))
    ∙ (saturated-add before (size (space_around node) * size p.shape) ∙ ap (λ n. saturated (before + n)) (sym (length-port_cells node p))))

pub port_there : (ps : List NodePort) (node : Node) (p : Port) (stored : Bool) (firsts firsts' : List ℕ) (count count' instances : ℕ) → instances ≡ saturated (size (space_around node))
    → firsts' ≡ firsts ++ narrowed count ∷ [] → count' ≡ cond stored (saturated (count + saturated (instances * size p.shape))) count
    → AreFirsts ps firsts count → AreFirsts (ps ++ record { node = node; port = p; stored = stored } ∷ []) firsts' count'
port_there ps node p stored firsts firsts' count count' instances many pushed counted are = record {
  many = ap length pushed ∙ (length-append firsts (narrowed count ∷ []) ∙ (ap (λ n. n + 1) are.many ∙ sym (length-append ps (last ∷ []))));
  each = λ k h. ap (λ xs. get_or xs k 0) pushed ∙ each k (push_cases firsts (narrowed count) 0 k (omega (arith, h, length-append ps (last ∷ []), are.many)));
  all =
      counted ∙ (grown node p stored count (length (flat_map cells_at ps)) instances many are.all
      ∙ ap saturated (sym (ap length (flat_map-append cells_at ps (last ∷ []))
      ∙ (length-append (flat_map cells_at ps) (cells_at last ++ []) ∙ ap (λ xs. length (flat_map cells_at ps) + length xs) (append-nil (cells_at last))))));
}
  where
    last : NodePort
    last = record { node = node; port = p; stored = stored }

    narrow : (n m : ℕ) → n ≡ saturated m → narrowed n ≡ narrowed m
    narrow n m h = omega (arith, h)

    each : (k : ℕ) → ((k < length firsts) × (get_or (firsts ++ narrowed count ∷ []) k 0 ≡ get_or firsts k 0)) ⊎ ((k ≡ length firsts) × (get_or (firsts ++ narrowed count ∷ []) k 0 ≡ narrowed count))
        → get_or (firsts ++ narrowed count ∷ []) k 0 ≡ narrowed (length (flat_map cells_at (take k (ps ++ last ∷ []))))
    each k (inl l) =
        let low : k < length ps = omega (arith, l.0, are.many) in
        l.1 ∙ (are.each k low ∙ ap (λ qs. narrowed (length (flat_map cells_at qs))) (sym (take_front ps (last ∷ []) k (omega (arith, low)))))
    each k (inr r) =
        let is : k ≡ length ps = r.0 ∙ are.many in
        let front : take k (ps ++ last ∷ []) ≡ ps = ap (λ n. take n (ps ++ last ∷ [])) is ∙ (take_front ps (last ∷ []) (length ps) (omega arith) ∙ take_whole ps) in
        r.1 ∙ (narrow count (length (flat_map cells_at ps)) are.all ∙ ap (λ qs. narrowed (length (flat_map cells_at qs))) (sym front))

-- ---- some ports

module _ (root : Bool) (above : Task) (part : ℕ) (input : Bool) (instances : ℕ) where
  pub ports_none : (cells : Cells) (done : Unit {0}) → PushesPorts root above part input instances [] cells cells (Ok done)
  ports_none cells done node ps many are = (subst (λ qs. AreFirsts qs cells.firsts cells.count) (sym (append-nil ps)) are, refl)

  pub ports_more : (front : List Port) (p : Port) (s0 s1 s2 : Cells) (stored : Bool) (done : Unit {0}) → PushesPorts root above part input instances front s0 s1 (Ok done)
      → stored ≡ stored_by root above part input p.name → s2.firsts ≡ s1.firsts ++ narrowed s1.count ∷ []
      → s2.count ≡ cond stored (saturated (s1.count + saturated (instances * size p.shape))) s1.count → s2.begins ≡ s1.begins
      → PushesPorts root above part input instances (front ++ p ∷ []) s0 s2 (Ok done)
  ports_more front p s0 s1 s2 stored done before is firsts count begins node ps many are =
      let test : Port → Bool = λ q. stored_by root above part input q.name in
      let so_far = before node ps many are in
      let place : Port → NodePort = λ q. record { node = node; port = q; stored = test q } in
      let counted : s2.count ≡ cond (test p) (saturated (s1.count + saturated (instances * size p.shape))) s1.count =
      count ∙ ap (λ b. cond b (saturated (s1.count + saturated (instances * size p.shape))) s1.count) is in
      let next = port_there (ps ++ ports_on node test front) node p (test p) s1.firsts s2.firsts s1.count s2.count instances many firsts counted so_far.0 in
      let all : (ps ++ map place front) ++ place p ∷ [] ≡ ps ++ map place (front ++ p ∷ []) =
      append_assoc ps (map place front) (place p ∷ []) ∙ ap (λ qs. ps ++ qs) (sym (map-append place front (p ∷ []))) in
      (subst (λ qs. AreFirsts qs s2.firsts s2.count) all next, begins ∙ so_far.1)

-- ---- a node

pub node_there : (root : Bool) (above : Task) (part instances : ℕ) (t : Task) (s0 s1 s2 s3 : Cells) (done done' : Unit {0}) (ins outs : ℕ)
    → ins ≡ length s0.firsts → PushesPorts root above part true instances (inputs_of t) s0 s1 (Ok done) → outs ≡ length s1.firsts
    → PushesPorts root above part false instances (outputs_of t) s1 s2 (Ok done') → s3.firsts ≡ s2.firsts → s3.count ≡ s2.count
    → s3.begins ≡ s2.begins ++ record { ins = ins; outs = outs } ∷ [] → PushesNode root above part instances t s0 s3 (Ok done')
node_there root above part instances t s0 s1 s2 s3 done done' ins outs ins_is inputs outs_is outputs firsts count begins node ps many are =
    let place : Bool → Port → NodePort = λ b q. record { node = node; port = q; stored = stored_by root above part b q.name } in
    let first = inputs node ps many are in
    let second = outputs node (ps ++ map (place true) (inputs_of t)) many first.0 in
    let whole = append_assoc ps (map (place true) (inputs_of t)) (map (place false) (outputs_of t)) in
    let before : ins ≡ length ps = ins_is ∙ are.many in
    let between : outs ≡ length ps + length (inputs_of t) =
    outs_is ∙ (first.0.many ∙ (length-append ps (map (place true) (inputs_of t)) ∙ ap (λ n. length ps + n) (length-map (inputs_of t) (place true)))) in
    let P : List ℕ → Type 0 = λ xs. AreFirsts ((ps ++ map (place true) (inputs_of t)) ++ map (place false) (outputs_of t)) xs s3.count in
    let Q : ℕ → Type 0 = λ n. AreFirsts ((ps ++ map (place true) (inputs_of t)) ++ map (place false) (outputs_of t)) s2.firsts n in (
      subst (λ qs. AreFirsts qs s3.firsts s3.count) whole (subst P (sym firsts) (subst Q (sym count) second.0)),
      begins ∙ (ap (λ bs. bs ++ record { ins = ins; outs = outs } ∷ []) (second.1 ∙ first.1)
          ∙ (ap (λ n. s0.begins ++ record { ins = n; outs = outs } ∷ []) before ∙ ap (λ n. s0.begins ++ record { ins = length ps; outs = n } ∷ []) between)),
    )
