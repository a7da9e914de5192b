-- Operators that wait group what is written as its tree says.
use Rattle.std.proofs.Common.{◌≡◌, ℕ, ◌+◌, ◌≤◌, ◌<◌, max, min, eqb, Bool, true, false, cond, ◌&&◌, leb, Option, Some, None, refl, sym, ◌∙◌, ap, subst, arith, ◌⊎◌, inl, inr, List}
use Rattle.std.proofs.lemmas.Bool.{and_parts, and_from, leb-true, le-leb, false≢true}
use Rattle.aol_expr_tree.specs.declared.op.ExprOp.{ExprOp}
use Rattle.aol_expr_tree.specs.declared.op.ExprOp.TheVariants.{Add, Sub, Mul, Div, Rem, Lt, Le, Eq, Min, Max}
use Rattle.aol_expr_tree.specs.declared.part.Part.{Part}
use Rattle.aol_expr_tree.specs.declared.part.Part.TheVariants.{Kept, Forgotten}
use Rattle.aol_expr_tree.specs.declared.reader.Left.{Left}
use Rattle.aol_expr_tree.specs.declared.reader.Waiting.{Waiting}
use Rattle.aol_expr_tree.specs.Tree.{Tree, bin, if_else, sum, read, Trees, nodes, depth, max_nodes, max_depth}
use Rattle.aol_expr_tree.specs.Text.{strength, is_infix}
use Rattle.aol_expr_tree.specs.Parts.{forgotten, seen, node_count, over_one, over_two, over_three, followed_by, with_index}
use Rattle.aol_expr_tree.specs.Reading.{nothing_waits, combined, grouped, waits}
use Rattle.aol_expr_tree.proofs.Followed.{nodes_followed, depth_followed}

-- ---- parts are what is seen of trees

abbrev pub is_small : Tree → Bool
is_small t = leb (nodes t) max_nodes && leb (depth t) max_depth

pub seen_kept : (t : Tree) → is_small t ≡ true → seen t ≡ Kept t
unfolding seen
seen_kept t e = ap (λ b. cond b (Kept t) (forgotten (nodes t))) e

pub seen_gone : (t : Tree) → is_small t ≡ false → seen t ≡ forgotten (nodes t)
unfolding seen
seen_gone t e = ap (λ b. cond b (Kept t) (forgotten (nodes t))) e

-- so many nodes count
abbrev counted : Tree → ℕ
counted t = min (nodes t) (max_nodes + 1)

kept_count : (t : Tree) → is_small t ≡ true → node_count (seen t) ≡ counted t
kept_count t e =
    let few : nodes t ≤ max_nodes = leb-true (nodes t) max_nodes (and_parts _ (leb (depth t) max_depth) e).0 in
    ap node_count (seen_kept t e) ∙ omega arith

gone_count : (t : Tree) → is_small t ≡ false → node_count (seen t) ≡ counted t
gone_count t e = ap node_count (seen_gone t e)

pub small_from : (t : Tree) → nodes t ≤ 10000 → depth t ≤ 100 → is_small t ≡ true
small_from t h k = and_from (leb (nodes t) max_nodes) (leb (depth t) max_depth) (le-leb (nodes t) max_nodes h) (le-leb (depth t) max_depth k)

pub small_is : (t : Tree) → is_small t ≡ true → (nodes t ≤ 10000) × (depth t ≤ 100)
small_is t e =
    let parts = and_parts (leb (nodes t) max_nodes) (leb (depth t) max_depth) e in
    (leb-true (nodes t) max_nodes parts.0, leb-true (depth t) max_depth parts.1)

not_small : (t : Tree) → ((nodes t ≤ 10000) → (depth t ≤ 100) → ⊥) → is_small t ≡ false
not_small t h = by_small (is_small t) refl
  where
    by_small : (b : Bool) → is_small t ≡ b → is_small t ≡ false
    by_small false e = e
    by_small true e = let s = small_is t e in absurd (h s.0 s.1)

-- a tree over one that passes a limit
gone_over : (t u : Tree) → is_small u ≡ false → nodes u ≤ nodes t → depth u ≤ depth t → is_small t ≡ false
gone_over t u e n d = not_small t (λ h k. false≢true (sym e ∙ small_from u (omega arith) (omega arith)))

forgotten_is : (t : Tree) (n : ℕ) → is_small t ≡ false → min n 10001 ≡ min (nodes t) 10001 → forgotten n ≡ seen t
forgotten_is t n e same = ap Forgotten same ∙ sym (seen_gone t e)

count_is : (t : Tree) → node_count (seen t) ≡ counted t
count_is t = by_small (is_small t) refl
  where
    by_small : (b : Bool) → is_small t ≡ b → node_count (seen t) ≡ counted t
    by_small true e = kept_count t e
    by_small false e = gone_count t e

pub over_one_seen : (x : List ℕ) (n : ℕ) (t : Tree) → over_one (sum x n) (seen t) ≡ seen (sum x n t)
unfolding over_one
over_one_seen x n t = by_small (is_small t) refl
  where
    by_small : (b : Bool) → is_small t ≡ b → over_one (sum x n) (seen t) ≡ seen (sum x n t)
    by_small true e = ap (over_one (sum x n)) (seen_kept t e)
    by_small false e =
        ap (over_one (sum x n)) (seen_gone t e)
        ∙ forgotten_is (sum x n t) (1 + min (nodes t) 10001) (gone_over (sum x n t) t e (omega arith) (omega arith)) (omega arith)

pub over_two_seen : (op : ExprOp) (l r : Tree) → over_two (bin op) (seen l) (seen r) ≡ seen (bin op l r)
unfolding over_two
over_two_seen op l r = by_small (is_small l) (is_small r) refl refl
  where
    by_small : (b c : Bool) → is_small l ≡ b → is_small r ≡ c → over_two (bin op) (seen l) (seen r) ≡ seen (bin op l r)
    by_small true true e f = rw (seen_kept l e, seen_kept r f) refl
    by_small true false e f =
        let few = small_is l e in
        rw (seen_kept l e, seen_gone r f) (forgotten_is (bin op l r) (1 + nodes l + min (nodes r) 10001) (gone_over (bin op l r) r f (omega arith) (omega arith)) (omega (arith, few.0)))
    by_small false c e f =
        rw (seen_gone l e) (forgotten_is (bin op l r) (1 + min (nodes l) 10001 + node_count (seen r)) (gone_over (bin op l r) l e (omega arith) (omega arith)) (omega (arith, count_is r)))

pub over_three_seen : (c a b : Tree) → over_three if_else (seen c) (seen a) (seen b) ≡ seen (if_else c a b)
unfolding over_three
over_three_seen c a b = by_small (is_small c) (is_small a) (is_small b) refl refl refl
  where
    by_small : (x y z : Bool) → is_small c ≡ x → is_small a ≡ y → is_small b ≡ z → over_three if_else (seen c) (seen a) (seen b) ≡ seen (if_else c a b)
    by_small true true true e f g = rw (seen_kept c e, seen_kept a f, seen_kept b g) refl
    by_small true true false e f g =
        rw (seen_kept c e, seen_kept a f, seen_gone b g) (forgotten_is (if_else c a b) (1 + nodes c + nodes a + min (nodes b) 10001) (gone_over (if_else c a b) b g (omega arith) (omega arith)) (omega (arith, (small_is c e).0, (small_is a f).0)))
    by_small true false z e f g =
        rw (seen_kept c e, seen_gone a f) (forgotten_is (if_else c a b) (1 + nodes c + min (nodes a) 10001 + node_count (seen b)) (gone_over (if_else c a b) a f (omega arith) (omega arith)) (omega (arith, (small_is c e).0, count_is b)))
    by_small false y z e f g =
        rw (seen_gone c e) (forgotten_is (if_else c a b) (1 + min (nodes c) 10001 + node_count (seen a) + node_count (seen b)) (gone_over (if_else c a b) c e (omega arith) (omega arith)) (omega (arith, count_is a, count_is b)))

pub with_index_seen : (x : List ℕ) (ts : Trees) (t : Tree) → with_index (seen (read x ts)) (seen t) ≡ seen (read x (followed_by ts t))
unfolding with_index
with_index_seen x ts t = by_small (is_small (read x ts)) (is_small t) refl refl
  where
    more : nodes (read x (followed_by ts t)) ≡ nodes (read x ts) + nodes t
    more = omega (arith, nodes_followed ts t)

    deeper : depth (read x (followed_by ts t)) ≡ max (depth (read x ts)) (1 + depth t)
    deeper = omega (arith, depth_followed ts t)

    by_small : (b c : Bool) → is_small (read x ts) ≡ b → is_small t ≡ c → with_index (seen (read x ts)) (seen t) ≡ seen (read x (followed_by ts t))
    by_small true true e f = rw (seen_kept (read x ts) e, seen_kept t f) refl
    by_small true false e f =
        rw (seen_kept (read x ts) e, seen_gone t f) (forgotten_is (read x (followed_by ts t)) (nodes (read x ts) + min (nodes t) 10001) (gone_over (read x (followed_by ts t)) t f (omega (arith, more)) (omega (arith, deeper))) (omega (arith, more, (small_is (read x ts) e).0)))
    by_small false c e f =
        rw (seen_gone (read x ts) e) (forgotten_is (read x (followed_by ts t)) (min (nodes (read x ts)) 10001 + node_count (seen t)) (gone_over (read x (followed_by ts t)) (read x ts) e (omega (arith, more)) (omega (arith, deeper))) (omega (arith, more, count_is t)))

-- ---- operators that wait

-- no operator waits that binds as tightly or more
pub record IsFree (s : ℕ) (w : Waiting) : Type 0 where
  pub product : s ≤ 2 → w.product ≡ None
  pub sum : s ≤ 1 → w.sum ≡ None
  pub comparison : s ≤ 0 → w.comparison ≡ None

pub nothing_free : (s : ℕ) → IsFree s nothing_waits
nothing_free s = record { product = λ h. refl; sum = λ h. refl; comparison = λ h. refl }

pub freer : (s t : ℕ) (w : Waiting) → s ≤ t → IsFree s w → IsFree t w
freer s t w h f = record { product = λ k. f.product (omega arith); sum = λ k. f.sum (omega arith); comparison = λ k. f.comparison (omega arith) }

-- two states after an operand that are the same for every operator that binds at most so tightly
pub record Alike (s : ℕ) (v : Waiting) (p : Part) (w : Waiting) (q : Part) : Type 0 where
  pub product : 2 ≤ s → (v.comparison ≡ w.comparison) × (v.sum ≡ w.sum) × (combined v.product p ≡ combined w.product q)
  pub sum : 1 ≤ s → (v.comparison ≡ w.comparison) × (combined v.sum (combined v.product p) ≡ combined w.sum (combined w.product q))
  pub all : grouped v p ≡ grouped w q

pub same_alike : (s : ℕ) (w : Waiting) (p : Part) → Alike s w p w p
same_alike s w p = record { product = λ h. (refl, refl, refl); sum = λ h. (refl, refl); all = refl }

abbrev by_product : ExprOp → Option Left → Option Left → Part → Waiting
by_product op c s p = record { comparison = c; sum = s; product = Some (record { op = op; part = p }) }

abbrev by_sum : ExprOp → Option Left → Part → Waiting
by_sum op c p = record { comparison = c; sum = Some (record { op = op; part = p }); product = None }

abbrev by_comparison : ExprOp → Part → Waiting
by_comparison op p = record { comparison = Some (record { op = op; part = p }); sum = None; product = None }

waits_at : (op : ExprOp) (w : Waiting) (p : Part) (s : ℕ) → strength op ≡ s
    → waits op w p ≡ cond (eqb s 2) (by_product op w.comparison w.sum (combined w.product p)) (cond (eqb s 1) (by_sum op w.comparison (combined w.sum (combined w.product p))) (by_comparison op (grouped w p)))
unfolding waits
waits_at op w p s e = ap (λ n. cond (eqb n 2) (by_product op w.comparison w.sum (combined w.product p)) (cond (eqb n 1) (by_sum op w.comparison (combined w.sum (combined w.product p))) (by_comparison op (grouped w p)))) e

-- the strengths of operators between operands
pub strengths : (op : ExprOp) → is_infix op ≡ true → (strength op ≡ 2) ⊎ ((strength op ≡ 1) ⊎ (strength op ≡ 0))
strengths Add e = inr (inl refl)
strengths Sub e = inr (inl refl)
strengths Mul e = inl refl
strengths Div e = inl refl
strengths Rem e = inl refl
strengths Lt e = inr (inr refl)
strengths Le e = inr (inr refl)
strengths Eq e = inr (inr refl)
strengths Min e = absurd (false≢true e)
strengths Max e = absurd (false≢true e)

-- the same operator waits after states that are alike
pub alike_waits : (op : ExprOp) (s : ℕ) (v w : Waiting) (p q : Part) → is_infix op ≡ true → strength op ≤ s → Alike s v p w q → waits op v p ≡ waits op w q
alike_waits op s v w p q infix_op h a = by_strength (strengths op infix_op)
  where
    by_strength : (strength op ≡ 2) ⊎ ((strength op ≡ 1) ⊎ (strength op ≡ 0)) → waits op v p ≡ waits op w q
    by_strength (inl e) = let f = a.product (omega (arith, e)) in waits_at op v p 2 e ∙ cc (f.0, f.1, f.2) ∙ sym (waits_at op w q 2 e)
    by_strength (inr (inl e)) = let f = a.sum (omega (arith, e)) in waits_at op v p 1 e ∙ cc (f.0, f.1) ∙ sym (waits_at op w q 1 e)
    by_strength (inr (inr e)) = waits_at op v p 0 e ∙ ap (by_comparison op) a.all ∙ sym (waits_at op w q 0 e)

-- after a left operand its operator leaves free what binds more tightly
pub waits_free : (op : ExprOp) (s : ℕ) (w : Waiting) (p : Part) → is_infix op ≡ true → strength op < s → IsFree (strength op) w → IsFree s (waits op w p)
waits_free op s w p infix_op h f = by_strength (strengths op infix_op)
  where
    by_strength : (strength op ≡ 2) ⊎ ((strength op ≡ 1) ⊎ (strength op ≡ 0)) → IsFree s (waits op w p)
    by_strength (inl e) = record { product = λ k. absurd (omega (arith, e)); sum = λ k. absurd (omega (arith, e)); comparison = λ k. absurd (omega (arith, e)) }
    by_strength (inr (inl e)) = record { product = λ k. ap (λ x. x.product) (waits_at op w p 1 e); sum = λ k. absurd (omega (arith, e)); comparison = λ k. absurd (omega (arith, e)) }
    by_strength (inr (inr e)) = record { product = λ k. ap (λ x. x.product) (waits_at op w p 0 e); sum = λ k. ap (λ x. x.sum) (waits_at op w p 0 e); comparison = λ k. absurd (omega (arith, e)) }

grouped_is : (w : Waiting) (p : Part) → grouped w p ≡ combined w.comparison (combined w.sum (combined w.product p))
unfolding grouped
grouped_is w p = refl

-- after a right operand the whole waits in place of its operator
pub group : (op : ExprOp) (t : ℕ) (v w : Waiting) (p : Part) (l r : Tree) → is_infix op ≡ true → strength op < t → IsFree (strength op) w
    → Alike t v p (waits op w (seen l)) (seen r) → Alike (strength op) v p w (seen (bin op l r))
group op t v w p l r infix_op h f a = by_strength (strengths op infix_op)
  where
    by_strength : (strength op ≡ 2) ⊎ ((strength op ≡ 1) ⊎ (strength op ≡ 0)) → Alike (strength op) v p w (seen (bin op l r))
    by_strength (inl e) =
        let is : waits op w (seen l) ≡ by_product op w.comparison w.sum (seen l) = waits_at op w (seen l) 2 e ∙ ap (λ o. by_product op w.comparison w.sum (combined o (seen l))) (f.product (omega (arith, e))) in
        let b : Alike t v p (by_product op w.comparison w.sum (seen l)) (seen r) = subst (λ x. Alike t v p x (seen r)) is a in
        let none : w.product ≡ None = f.product (omega (arith, e)) in
        let last : combined v.product p ≡ combined w.product (seen (bin op l r)) = (b.product (omega (arith, e))).2 ∙ over_two_seen op l r ∙ ap (λ o. combined o (seen (bin op l r))) (sym none) in
        let c = b.product (omega (arith, e)) in
        record {
          product = λ k. (c.0, c.1, last);
          sum = λ k. (c.0, cc (c.1, last));
          all = grouped_is v p ∙ cc (c.0, c.1, last) ∙ sym (grouped_is w (seen (bin op l r)));
        }
    by_strength (inr (inl e)) =
        let n1 : w.product ≡ None = f.product (omega (arith, e)) in
        let n2 : w.sum ≡ None = f.sum (omega (arith, e)) in
        let is : waits op w (seen l) ≡ by_sum op w.comparison (seen l) = waits_at op w (seen l) 1 e ∙ ap (λ o. by_sum op w.comparison (combined o (combined w.product (seen l)))) n2 ∙ ap (λ o. by_sum op w.comparison (combined o (seen l))) n1 in
        let b : Alike t v p (by_sum op w.comparison (seen l)) (seen r) = subst (λ x. Alike t v p x (seen r)) is a in
        let c = b.sum (omega (arith, e)) in
        let last : combined v.sum (combined v.product p) ≡ combined w.sum (combined w.product (seen (bin op l r))) =
        c.1 ∙ over_two_seen op l r ∙ sym (ap (λ o. combined o (combined w.product (seen (bin op l r)))) n2 ∙ ap (λ o. combined o (seen (bin op l r))) n1) in
        record {
          product = λ k. absurd (omega (arith, e));
          sum = λ k. (c.0, last);
          all = grouped_is v p ∙ cc (c.0, last) ∙ sym (grouped_is w (seen (bin op l r)));
        }
    by_strength (inr (inr e)) =
        let n1 : w.product ≡ None = f.product (omega (arith, e)) in
        let n2 : w.sum ≡ None = f.sum (omega (arith, e)) in
        let n3 : w.comparison ≡ None = f.comparison (omega (arith, e)) in
        let over : (q : Part) → grouped w q ≡ q = λ q. grouped_is w q ∙ ap (λ o. combined o (combined w.sum (combined w.product q))) n3 ∙ ap (λ o. combined o (combined w.product q)) n2 ∙ ap (λ o. combined o q) n1 in
        let is : waits op w (seen l) ≡ by_comparison op (seen l) = waits_at op w (seen l) 0 e ∙ ap (by_comparison op) (over (seen l)) in
        let b : Alike t v p (by_comparison op (seen l)) (seen r) = subst (λ x. Alike t v p x (seen r)) is a in
        record {
          product = λ k. absurd (omega (arith, e));
          sum = λ k. absurd (omega (arith, e));
          all = b.all ∙ grouped_is (by_comparison op (seen l)) (seen r) ∙ over_two_seen op l r ∙ sym (over (seen (bin op l r)));
        }

-- where nothing waited the parts group to what is seen of the tree
pub groups : (s : ℕ) (v : Waiting) (p : Part) (t : Tree) → Alike s v p nothing_waits (seen t) → grouped v p ≡ seen t
groups s v p t a = a.all ∙ grouped_is nothing_waits (seen t)
