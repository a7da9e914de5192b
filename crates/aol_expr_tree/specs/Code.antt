-- How a proof tells trees apart: a tree as the list of its nodes, each behind its parts, which gives the tree back.
use Rattle.std.specs.Prelude.{◌≡◌, ℕ, ◌==◌, ℤ, pos, List, [], ◌∷◌, ◌++◌, cond, refl}
use Rattle.std.proofs.Common.{◌∙◌, ap}
use Rattle.std.specs.Coded.{Coded, code_by, coded×, coded_ℕ, coded_ℤ, coded_list}
use Rattle.aol_expr_tree.specs.declared.op.ExprOp.{ExprOp}
use Rattle.aol_expr_tree.specs.declared.op.ExprOp.TheVariants.{Add, Sub, Mul, Div, Rem, Lt, Le, Eq, Min, Max}
use Rattle.aol_expr_tree.specs.Tree.{Tree, num, index, var, read, bin, if_else, sum, Trees, no_trees, tree_and}

-- the kind of node, a number and a name
abbrev pub Item : Type 0
Item = ℕ × (ℤ × List ℕ)

abbrev op_number : ExprOp → ℕ
op_number Add = 0
op_number Sub = 1
op_number Mul = 2
op_number Div = 3
op_number Rem = 4
op_number Lt = 5
op_number Le = 6
op_number Eq = 7
op_number Min = 8
op_number Max = 9

abbrev op_of : ℕ → ExprOp
op_of n = cond (n == 0) Add (cond (n == 1) Sub (cond (n == 2) Mul (cond (n == 3) Div (cond (n == 4) Rem (cond (n == 5) Lt (cond (n == 6) Le (cond (n == 7) Eq (cond (n == 8) Min Max))))))))

op_of-op_number : (op : ExprOp) → op_of (op_number op) ≡ op
op_of-op_number Add = refl
op_of-op_number Sub = refl
op_of-op_number Mul = refl
op_of-op_number Div = refl
op_of-op_number Rem = refl
op_of-op_number Lt = refl
op_of-op_number Le = refl
op_of-op_number Eq = refl
op_of-op_number Min = refl
op_of-op_number Max = refl

abbrev natural : ℤ → ℕ
natural (pos n) = n
natural _ = 0

abbrev mutual
  pub items : Tree → List Item
  items (num z) = (0, (z, [])) ∷ []
  items (index k) = (1, (pos k, [])) ∷ []
  items (var x) = (2, (pos 0, x)) ∷ []
  items (read p at) = items_of at ++ (3, (pos 0, p)) ∷ []
  items (bin op l r) = items l ++ (items r ++ (4, (pos (op_number op), [])) ∷ [])
  items (if_else c a b) = items c ++ (items a ++ (items b ++ (5, (pos 0, [])) ∷ []))
  items (sum x n e) = items e ++ (6, (pos n, x)) ∷ []

  pub items_of : Trees → List Item
  items_of no_trees = (7, (pos 0, [])) ∷ []
  items_of (tree_and t ts) = items t ++ (items_of ts ++ (8, (pos 0, [])) ∷ [])

-- the trees and lists of trees so far, the newest first
abbrev Stacks : Type 0
Stacks = List Tree × List Trees

abbrev first : List Tree → Tree
first [] = num (pos 0)
first (t ∷ ts) = t

abbrev others : List Tree → List Tree
others [] = []
others (t ∷ ts) = ts

abbrev first_list : List Trees → Trees
first_list [] = no_trees
first_list (t ∷ ts) = t

abbrev other_lists : List Trees → List Trees
other_lists [] = []
other_lists (t ∷ ts) = ts

abbrev step : Item → Stacks → Stacks
step i s =
    cond (i.0 == 0) (num i.1.0 ∷ s.0, s.1) (cond (i.0 == 1) (index (natural i.1.0) ∷ s.0, s.1) (cond (i.0 == 2) (var i.1.1 ∷ s.0, s.1)
    (cond (i.0 == 3) (read i.1.1 (first_list s.1) ∷ s.0, other_lists s.1)
    (cond (i.0 == 4) (bin (op_of (natural i.1.0)) (first (others s.0)) (first s.0) ∷ others (others s.0), s.1)
    (cond (i.0 == 5) (if_else (first (others (others s.0))) (first (others s.0)) (first s.0) ∷ others (others (others s.0)), s.1)
    (cond (i.0 == 6) (sum i.1.1 (natural i.1.0) (first s.0) ∷ others s.0, s.1)
    (cond (i.0 == 7) (s.0, no_trees ∷ s.1) (others s.0, tree_and (first s.0) (first_list s.1) ∷ other_lists s.1))))))))

abbrev run : List Item → Stacks → Stacks
run [] s = s
run (i ∷ is) s = run is (step i s)

run-append : (is js : List Item) (s : Stacks) → run (is ++ js) s ≡ run js (run is s)
run-append [] js s = refl
run-append (i ∷ is) js s = run-append is js (step i s)

mutual
  run-items : (t : Tree) (s : Stacks) → run (items t) s ≡ (t ∷ s.0, s.1)
  run-items (num z) s = refl
  run-items (index k) s = refl
  run-items (var x) s = refl
  run-items (read p at) s = run-append (items_of at) ((3, (pos 0, p)) ∷ []) s ∙ ap (run ((3, (pos 0, p)) ∷ [])) (run-items_of at s)
  run-items (bin op l r) s =
      let last : List Item = (4, (pos (op_number op), [])) ∷ [] in
      run-append (items l) (items r ++ last) s ∙ ap (run (items r ++ last)) (run-items l s)
      ∙ run-append (items r) last (l ∷ s.0, s.1) ∙ ap (run last) (run-items r (l ∷ s.0, s.1))
      ∙ ap (λ o. (bin o l r ∷ s.0, s.1)) (op_of-op_number op)
  run-items (if_else c a b) s =
      let last : List Item = (5, (pos 0, [])) ∷ [] in
      run-append (items c) (items a ++ (items b ++ last)) s ∙ ap (run (items a ++ (items b ++ last))) (run-items c s)
      ∙ run-append (items a) (items b ++ last) (c ∷ s.0, s.1) ∙ ap (run (items b ++ last)) (run-items a (c ∷ s.0, s.1))
      ∙ run-append (items b) last (a ∷ c ∷ s.0, s.1) ∙ ap (run last) (run-items b (a ∷ c ∷ s.0, s.1))
  run-items (sum x n e) s = run-append (items e) ((6, (pos n, x)) ∷ []) s ∙ ap (run ((6, (pos n, x)) ∷ [])) (run-items e s)

  run-items_of : (ts : Trees) (s : Stacks) → run (items_of ts) s ≡ (s.0, ts ∷ s.1)
  run-items_of no_trees s = refl
  run-items_of (tree_and t ts) s =
      let last : List Item = (8, (pos 0, [])) ∷ [] in
      run-append (items t) (items_of ts ++ last) s ∙ ap (run (items_of ts ++ last)) (run-items t s)
      ∙ run-append (items_of ts) last (t ∷ s.0, s.1) ∙ ap (run last) (run-items_of ts (t ∷ s.0, s.1))

abbrev tree_from : List Item → Tree
tree_from is = first (run is ([], [])).0

pub tree_from-items : (t : Tree) → tree_from (items t) ≡ t
tree_from-items t = ap (λ s. first s.0) (run-items t ([], []))

-- the code of trees
abbrev pub tree_code : Coded Tree
tree_code = code_by (List Item) (coded_list (coded× coded_ℕ (coded× coded_ℤ (coded_list coded_ℕ)))) items tree_from tree_from-items
