-- The lines of a placement, one after another.
use Rattle.std.proofs.Common.{◌≡◌, ◌<◌, ◌≤◌, ℕ, zero, suc, ◌+◌, List, [], ◌∷◌, ◌++◌, take, drop, length, slice_get, Some, get_or, sym, ◌∙◌, ap, arith, append_assoc, append-nil, length-drop}
use Rattle.std.specs.Prelude.{codes, decimal}
use Rattle.std.specs.List.{flat_map}
use Rattle.std.proofs.lemmas.List.{take_more, drop-drop, get_or-drop}
use Rattle.std.proofs.lemmas.List.Concat.{flat_map-append}
use Rattle.std.proofs.lemmas.Option.{slice_get_within, get_or_from_slice_get}
use Rattle.aol_shape.specs.Shape.{size}
use Rattle.aol_model_types.specs.declared.document.Model.{Model}
use Rattle.aol_flat.specs.declared.leaf.Leaf.{Leaf as LeafRow}
use Rattle.aol_flat.specs.Instance.{Leaf, leaves}
use Rattle.aol_flat.specs.Leaves.{instances_of, IsLeafRow}
use Rattle.aol_program.specs.Placed.{worker_text, leaf_line, leaf_lines}

-- one worker more
pub worker_more : (workers : List ℕ) (base n w : ℕ) (text old spaced after : List ℕ) → slice_get workers (base + n) ≡ Some w → old ≡ text ++ flat_map worker_text (take n (drop base workers)) → spaced ≡ old ++ codes " " → after ≡ spaced ++ decimal w
    → after ≡ text ++ flat_map worker_text (take (n + 1) (drop base workers))
worker_more workers base n w text old spaced after at is blank number =
    let within : base + n < length workers = slice_get_within workers (base + n) w at in
    let inside : n < length (drop base workers) = omega (arith, within, length-drop base workers) in
    let here : get_or (drop base workers) n w ≡ w = get_or-drop base workers n w ∙ get_or_from_slice_get workers (base + n) w w at in
    let more : take (n + 1) (drop base workers) ≡ take n (drop base workers) ++ w ∷ [] = take_more (drop base workers) n w inside ∙ ap (λ x. take n (drop base workers) ++ x ∷ []) here in
    number ∙ ap (λ t. t ++ decimal w) (blank ∙ ap (λ t. t ++ codes " ") is) ∙ joined text (flat_map worker_text (take n (drop base workers))) w
    ∙ ap (λ t. text ++ t) (sym (flat_map-append worker_text (take n (drop base workers)) (w ∷ []))) ∙ ap (λ ws. text ++ flat_map worker_text ws) (sym more)
  where
    joined : (a b : List ℕ) (x : ℕ) → ((a ++ b) ++ codes " ") ++ decimal x ≡ a ++ (b ++ flat_map worker_text (x ∷ []))
    joined a b x =
        append_assoc (a ++ b) (codes " ") (decimal x) ∙ append_assoc a b (codes " " ++ decimal x)
        ∙ ap (λ t. a ++ (b ++ t)) (sym (append-nil (codes " " ++ decimal x)))

-- one leaf more
lines_more : (m : Model) (workers : List ℕ) (ls : List Leaf) (k : ℕ) (l : Leaf) → slice_get ls k ≡ Some l
    → leaf_lines m workers (take (k + 1) ls) ≡ leaf_lines m workers (take k ls) ++ leaf_line m l (take (size l.space) (drop (instances_of (take k ls)) workers))
lines_more m workers [] k l at = cc
lines_more m workers (x ∷ ls) zero l at =
    let e : x ≡ l = cc in
    let one : zero + 1 ≡ suc zero = omega arith in
    ap (λ n. leaf_lines m workers (take n (x ∷ ls))) one ∙ append-nil (leaf_line m x (take (size x.space) workers)) ∙ ap (λ (y : Leaf). leaf_line m y (take (size y.space) workers)) e
lines_more m workers (x ∷ ls) (suc k) l at =
    let e : suc k + 1 ≡ suc (k + 1) = omega arith in
    let later = lines_more m (drop (size x.space) workers) ls k l at in
    let parts : drop (instances_of (take k ls)) (drop (size x.space) workers) ≡ drop (size x.space + instances_of (take k ls)) workers = drop-drop (instances_of (take k ls)) (size x.space) workers in
    ap (λ n. leaf_lines m workers (take n (x ∷ ls))) e ∙ ap (λ t. leaf_line m x (take (size x.space) workers) ++ t) later
    ∙ sym (append_assoc (leaf_line m x (take (size x.space) workers)) (leaf_lines m (drop (size x.space) workers) (take k ls)) (leaf_line m l (take (size l.space) (drop (instances_of (take k ls)) (drop (size x.space) workers)))))
    ∙ ap (λ ws. leaf_lines m workers (take (suc k) (x ∷ ls)) ++ leaf_line m l (take (size l.space) ws)) parts

-- the text after the line of one leaf more, by the row of the leaf
pub line_more : (m : Model) (workers : List ℕ) (k : ℕ) (row : LeafRow) (old named placed after : List ℕ) → IsLeafRow m k row → old ≡ leaf_lines m workers (take k (leaves m))
    → named ≡ old ++ row.path → placed ≡ named ++ flat_map worker_text (take row.count (drop row.base workers)) → after ≡ placed ++ codes "\n" → after ≡ leaf_lines m workers (take (k + 1) (leaves m))
line_more m workers k row old named placed after r is name work feed =
    let ws : take row.count (drop row.base workers) ≡ take (size r.leaf.space) (drop (instances_of (take k (leaves m))) workers) =
    ap (λ n. take n (drop row.base workers)) r.count ∙ ap (λ b. take (size r.leaf.space) (drop b workers)) r.base in
    feed ∙ ap (λ t. t ++ codes "\n") (work ∙ ap (λ t. t ++ flat_map worker_text (take row.count (drop row.base workers))) name)
    ∙ joined old row.path (flat_map worker_text (take row.count (drop row.base workers)))
    ∙ ap (λ p. old ++ ((p ++ flat_map worker_text (take row.count (drop row.base workers))) ++ codes "\n")) r.path
    ∙ ap (λ xs. old ++ leaf_line m r.leaf xs) ws
    ∙ ap (λ t. t ++ leaf_line m r.leaf (take (size r.leaf.space) (drop (instances_of (take k (leaves m))) workers))) is
    ∙ sym (lines_more m workers (leaves m) k r.leaf r.at)
  where
    joined : (a b c : List ℕ) → ((a ++ b) ++ c) ++ codes "\n" ≡ a ++ ((b ++ c) ++ codes "\n")
    joined a b c = ap (λ t. t ++ codes "\n") (append_assoc a b c) ∙ append_assoc a (b ++ c) (codes "\n")

-- the instances of a leaf are among all of them
pub row_within : (m : Model) (k : ℕ) (row : LeafRow) → IsLeafRow m k row → row.base + row.count ≤ instances_of (leaves m)
row_within m k row r = omega (arith, r.base, r.count, some_within (leaves m) k r.leaf r.at)
  where
    some_within : (ls : List Leaf) (k : ℕ) (l : Leaf) → slice_get ls k ≡ Some l → instances_of (take k ls) + size l.space ≤ instances_of ls
    some_within [] k l at = cc
    some_within (x ∷ ls) zero l at = let e : x ≡ l = cc in omega (arith, ap (λ (y : Leaf). size y.space) e)
    some_within (x ∷ ls) (suc k) l at = let later = some_within ls k l at in omega (arith, later)
