-- The links of the pair: how many lead to each end, and which lead up.
use Rattle.std.proofs.Common.{◌≡◌, ℕ, suc, ◌+◌, Bool, true, false, cond, not, ◌&&◌, ◌||◌, List, [], ◌∷◌, ◌++◌, length, flat_map, codes, Option, Some, None, is_some, sym, ◌∙◌, ap, refl, arith, subst}
use Rattle.std.specs.List.{IsAmong, list_any, count_by}
use Rattle.std.proofs.lemmas.List.{append_assoc}
use Rattle.std.proofs.lemmas.List.Sums.{sum_by-cons, sum_by-append}
use Rattle.aol_shape.specs.Lists.{same}
use Rattle.aol_expr_tree.specs.declared.port.Port.{Port}
use Rattle.aol_model_types.specs.declared.job.Pick.{Pick}
use Rattle.aol_model_types.specs.declared.task.Hook.{Hook}
use Rattle.aol_model_types.specs.declared.task.Plain.{Plain}
use Rattle.aol_model_types.specs.Rules.{same_part, same_hook, hands_up, hands_up_once}
use Rattle.aol_flat.proofs.Names.{same-self}
use Rattle.aol_change.specs.Change.{is_taken}
use Rattle.aol_change.specs.declared.tasks.Side.TheVariants.{Inputs, Outputs}
use Rattle.aol_fusion_parts.specs.Joined.{pick_to}
use Rattle.aol_fusion_parts.specs.Made.{own_end, part_end, links_in, links_out, pick_link, pick_links, pair_links}
use Rattle.aol_fusion_parts.specs.Ports.{port_name, renamed}
use Rattle.aol_fusion_laws.proofs.Fresh.{AreFresh, names_of, fresh_before}

-- ---- counts

abbrev pub leads_to : Hook → Plain → Bool
leads_to h l = same_hook l.to h

abbrev pub named : List ℕ → List ℕ → Bool
named n m = same m n

count_cons : {X : Type 0} (test : X → Bool) (x : X) (xs : List X) → count_by test (x ∷ xs) ≡ cond (test x) 1 0 + count_by test xs
count_cons test x xs = sum_by-cons (λ y. cond (test y) 1 0) x xs

pub count_both : {X : Type 0} (test : X → Bool) (xs ys : List X) → count_by test (xs ++ ys) ≡ count_by test xs + count_by test ys
count_both test xs ys = sum_by-append (λ y. cond (test y) 1 0) xs ys

-- links to a part, by the names of its ports
pub count_in : (part : List ℕ) (k : ℕ) (ports : List Port) (n : List ℕ) → count_by (leads_to (part_end part n)) (links_in part k ports) ≡ count_by (named n) (names_of ports)
count_in part k [] n = refl
count_in part k (p ∷ ports) n =
    let l : Plain = record { from = own_end (port_name Inputs k); to = part_end part p.name } in
    count_cons (leads_to (part_end part n)) l (links_in part (k + 1) ports)
    ∙ (ap (λ b. cond (b && same p.name n) 1 0 + count_by (leads_to (part_end part n)) (links_in part (k + 1) ports)) (same-self part)
    ∙ (ap (λ m. cond (same p.name n) 1 0 + m) (count_in part (k + 1) ports n) ∙ sym (count_cons (named n) p.name (names_of ports))))

-- none to another part, and none to an own end
pub none_in : (part : List ℕ) (k : ℕ) (ports : List Port) (h : Hook) → same_part (Some part) h.part ≡ false → count_by (leads_to h) (links_in part k ports) ≡ 0
none_in part k [] h other = refl
none_in part k (p ∷ ports) h other =
    let l : Plain = record { from = own_end (port_name Inputs k); to = part_end part p.name } in
    let rest = none_in part (k + 1) ports h other in
    let first : ◌≡◌ {A = ℕ} (cond (leads_to h l) 1 0) 0 = ap (λ b. cond (b && same p.name h.port) 1 0) other in
    let all = count_cons (leads_to h) l (links_in part (k + 1) ports) in
    omega (arith, all, first, rest)

-- links up
pub count_out : (k : ℕ) (ports : List Port) (n : List ℕ) → count_by (leads_to (own_end n)) (links_out k ports) ≡ count_by (named n) (names_of (renamed Outputs k ports))
count_out k [] n = refl
count_out k (p ∷ ports) n =
    let l : Plain = record { from = part_end (codes "second") p.name; to = own_end (port_name Outputs k) } in
    count_cons (leads_to (own_end n)) l (links_out (k + 1) ports)
    ∙ (ap (λ m. cond (same (port_name Outputs k) n) 1 0 + m) (count_out (k + 1) ports n) ∙ sym (count_cons (named n) (port_name Outputs k) (names_of (renamed Outputs (k + 1) ports))))

pub none_out : (k : ℕ) (ports : List Port) (part n : List ℕ) → count_by (leads_to (part_end part n)) (links_out k ports) ≡ 0
none_out k [] part n = refl
none_out k (p ∷ ports) part n =
    let l : Plain = record { from = part_end (codes "second") p.name; to = own_end (port_name Outputs k) } in
    let rest = none_out (k + 1) ports part n in
    let all = count_cons (leads_to (part_end part n)) l (links_out (k + 1) ports) in
    omega (arith, all, rest)

-- links by picks, where each of these has one
pub count_pick : (picks : List Pick) (ports : List Port) (n : List ℕ) → ((p : Port) → IsAmong ports p → is_some (pick_to picks p.name) ≡ true)
    → count_by (leads_to (part_end (codes "second") n)) (pick_links picks ports) ≡ count_by (named n) (names_of ports)
count_pick picks [] n all = refl
count_pick picks (p ∷ ports) n all =
    go (pick_to picks p.name) (all p (0, (omega arith, refl))) (count_pick picks ports n (λ q a. all q (suc a.0, (omega (arith, a.1.0), a.1.1))))
  where
    go : (o : Option Pick) → is_some o ≡ true → count_by (leads_to (part_end (codes "second") n)) (pick_links picks ports) ≡ count_by (named n) (names_of ports)
        → count_by (leads_to (part_end (codes "second") n)) (pick_link p.name o ++ pick_links picks ports) ≡ count_by (named n) (p.name ∷ names_of ports)
    go None e h = cc
    go (Some k) e h =
        count_cons (leads_to (part_end (codes "second") n)) (record { from = part_end (codes "first") k.from; to = part_end (codes "second") p.name }) (pick_links picks ports)
        ∙ (ap (λ m. cond (same p.name n) 1 0 + m) h ∙ sym (count_cons (named n) p.name (names_of ports)))

pub none_pick : (picks : List Pick) (ports : List Port) (h : Hook) → same_part (Some (codes "second")) h.part ≡ false → count_by (leads_to h) (pick_links picks ports) ≡ 0
none_pick picks [] h other = refl
none_pick picks (p ∷ ports) h other = go (pick_to picks p.name) (none_pick picks ports h other)
  where
    go : (o : Option Pick) → count_by (leads_to h) (pick_links picks ports) ≡ 0 → count_by (leads_to h) (pick_link p.name o ++ pick_links picks ports) ≡ 0
    go None rest = rest
    go (Some k) rest =
        let l : Plain = record { from = part_end (codes "first") k.from; to = part_end (codes "second") p.name } in
        let first : ◌≡◌ {A = ℕ} (cond (leads_to h l) 1 0) 0 = ap (λ b. cond (b && same p.name h.port) 1 0) other in
        let all = count_cons (leads_to h) l (pick_links picks ports) in
        omega (arith, all, first, rest)

-- ---- links that lead up

-- the outputs of parts that they hand up
abbrev pub up_name : Plain → List (List ℕ)
up_name l = cond (hands_up l) (l.from.port ∷ []) []

abbrev pub up_names : List Plain → List (List ℕ)
up_names links = flat_map up_name links

pub up_both : (xs ys : List Plain) → up_names (xs ++ ys) ≡ up_names xs ++ up_names ys
up_both [] ys = refl
up_both (x ∷ xs) ys = ap (λ ns. up_name x ++ ns) (up_both xs ys) ∙ sym (append_assoc (up_name x) (up_names xs) (up_names ys))

up_in : (part : List ℕ) (k : ℕ) (ports : List Port) → up_names (links_in part k ports) ≡ []
up_in part k [] = refl
up_in part k (p ∷ ports) = up_in part (k + 1) ports

up_out : (k : ℕ) (ports : List Port) → up_names (links_out k ports) ≡ names_of ports
up_out k [] = refl
up_out k (p ∷ ports) = ap (λ ns. p.name ∷ ns) (up_out (k + 1) ports)

up_pick : (picks : List Pick) (ports : List Port) → up_names (pick_links picks ports) ≡ []
up_pick picks [] = refl
up_pick picks (p ∷ ports) = go (pick_to picks p.name) (up_pick picks ports)
  where
    go : (o : Option Pick) → up_names (pick_links picks ports) ≡ [] → up_names (pick_link p.name o ++ pick_links picks ports) ≡ []
    go None rest = rest
    go (Some k) rest = rest

pub up_all : (picks : List Pick) (block picked free outs : List Port) → up_names (pair_links picks block picked free outs) ≡ names_of outs
up_all picks block picked free outs =
    let a : List Plain = links_in (codes "first") 0 block in
    let b : List Plain = links_in (codes "second") (length block) free in
    let c : List Plain = pick_links picks picked in
    let d : List Plain = links_out 0 outs in
    up_both (a ++ b ++ c) d
    ∙ (ap (λ ns. ns ++ up_names d) (up_both (a ++ b) c ∙ (ap (λ ns. ns ++ up_names c) (up_both a b ∙ (ap (λ ns. ns ++ up_names b) (up_in (codes "first") 0 block) ∙ up_in (codes "second") (length block) free)) ∙ up_pick picks picked))
    ∙ up_out 0 outs)

-- where they are fresh, each leads up once
pub up_once : (links before rest : List Plain) (l : Plain) → AreFresh [] (up_names links) → links ≡ before ++ l ∷ rest → hands_up_once before l ≡ true
up_once links before rest l fresh split = by_up (hands_up l) refl
  where
    less : (xs : List Plain) → is_taken (up_names xs) l.from.port ≡ false → list_any (λ (k : Plain). hands_up k && same_hook k.from l.from) xs ≡ false
    less [] h = refl
    less (x ∷ xs) h = here (hands_up x) (same_part x.from.part l.from.part) h (less xs)
      where
        here : (b c : Bool) → is_taken (cond b (x.from.port ∷ []) [] ++ up_names xs) l.from.port ≡ false → (is_taken (up_names xs) l.from.port ≡ false → list_any (λ (k : Plain). hands_up k && same_hook k.from l.from) xs ≡ false)
            → ((b && (c && same x.from.port l.from.port)) || list_any (λ (k : Plain). hands_up k && same_hook k.from l.from) xs) ≡ false
        here false c k rec = rec k
        here true c k rec = inner (same x.from.port l.from.port) c k
          where
            inner : (d c : Bool) → (d || is_taken (up_names xs) l.from.port) ≡ false → ((c && d) || list_any (λ (k : Plain). hands_up k && same_hook k.from l.from) xs) ≡ false
            inner true c f = cc
            inner false true f = rec f
            inner false false f = rec f

    by_up : (b : Bool) → hands_up l ≡ b → hands_up_once before l ≡ true
    by_up false e = ap (λ b. not b || not (list_any (λ (k : Plain). hands_up k && same_hook k.from l.from) before)) e
    by_up true e =
        let P : List (List ℕ) → Type 0 = λ ns. AreFresh [] ns in
        let names : up_names links ≡ up_names before ++ l.from.port ∷ up_names rest = ap up_names split ∙ (up_both before (l ∷ rest) ∙ ap (λ b. up_names before ++ (cond b (l.from.port ∷ []) [] ++ up_names rest)) e) in
        let none : is_taken (up_names before) l.from.port ≡ false = fresh_before [] (up_names before) (up_names rest) l.from.port (subst P names fresh) in
        ap (λ b. not (hands_up l) || not b) (less before none) ∙ or_true (not (hands_up l))
      where
        or_true : (z : Bool) → (z || true) ≡ true
        or_true true = refl
        or_true false = refl
