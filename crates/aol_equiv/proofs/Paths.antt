-- Paths of copies: each step keeps what is right, and the last cell says where all end.
use Rattle.std.proofs.Common.{◌≡◌, ◌≢◌, ℕ, zero, suc, ◌+◌, ◌<◌, List, [], ◌∷◌, ◌++◌, length, Option, Some, None, slice_get, sym, ◌∙◌, ap, refl, arith, ◌⊎◌, inl, inr, subst}
use Rattle.std.specs.Prelude.{slice_set}
use Rattle.std.specs.List.{IsAmong, AllByRecursion, sum_by}
use Rattle.std.proofs.Common.{get_or}
use Rattle.std.proofs.lemmas.List.Sums.{sum_by-set}
use Rattle.std.proofs.lemmas.List.{length-set}
use Rattle.std.proofs.lemmas.Option.{slice_get_within}
use Rattle.aol_flat.proofs.Among.{among_append}
use Rattle.aol_flat.proofs.Inside.{among_left, among_right}
use Rattle.aol_flat.specs.declared.view.End.{End}
use Rattle.aol_assign.proofs.Fitting.{each_among}
use Rattle.aol_equiv.specs.declared.leads.Lead.{Lead}
use Rattle.aol_equiv.specs.declared.leads.Lead.TheVariants.{Ends, Copies, Nowhere}
use Rattle.aol_equiv.specs.Leads.{set_each}
use Rattle.aol_equiv.specs.Resolved.{AreWithin, EndsFrom, at_end, by_copy, IsRight, IsFollowed, IsPath, IsWholePath, IsWalked, IsResolvedTo, IsResolved}
use Rattle.aol_equiv.proofs.Setting.{set_here, set_there, either_way, each_length, each_here, each_either, only_here}

-- ---- following copies

-- where a copy ends its source does
pub copy_ends : (origin : List Lead) (c d : ℕ) (e : End) → slice_get origin c ≡ Some (Copies d) → EndsFrom origin c e → EndsFrom origin d e
copy_ends origin c d e h (at_end g) = cc
copy_ends origin c d e h (by_copy {d = x} g r) =
    let both : Some (Copies x) ≡ Some (Copies d) = sym g ∙ h in
    let one : x ≡ d = cc in
    let P : ℕ → Type 0 = λ y. EndsFrom origin y e in
    subst P one r

-- one cell ends once
pub ends_once : (origin : List Lead) (c : ℕ) (e f : End) → EndsFrom origin c e → EndsFrom origin c f → e ≡ f
ends_once origin c e f (at_end g) (at_end h) = let both : Some (Ends e) ≡ Some (Ends f) = sym g ∙ h in cc
ends_once origin c e f (at_end g) (by_copy h s) = cc
ends_once origin c e f (by_copy {d = x} g r) s = ends_once origin x e f r (copy_ends origin c x f g s)

-- ---- the path

pub start_path : (old : List Lead) (start : ℕ) → start < length old → IsPath old old [] start start
start_path old start lt = record {
  many = refl;
  inside = lt;
  members = λ c a. absurd (omega (arith, a.1.0));
  cleared = λ c a. absurd (omega (arith, a.1.0));
  kept = λ c d h. h;
  begun = inl refl;
  right = λ origin r. record {
    many = r.many;
    up = λ c a e h. absurd (omega (arith, a.1.0));
    down = λ c a e h. absurd (omega (arith, a.1.0));
    closed = λ c a. absurd (omega (arith, a.1.0));
    each = λ c lead h. inl (r.each c lead h);
  };
}

module _ (old leads : List Lead) (path : List ℕ) (start cell : ℕ) (p : IsPath old leads path start cell) where
  abbrev longer : ℕ → List ℕ
  longer c = path ++ c ∷ []

  in_front : (c : ℕ) → IsAmong path c → IsAmong (longer cell) c
  in_front c a = among_left path (cell ∷ []) c a

  at_last : (c : ℕ) → c ≡ cell → IsAmong (longer cell) c
  at_last c e = among_right path (cell ∷ []) c (0, (omega arith, e))

  split : (c : ℕ) → IsAmong (longer cell) c → IsAmong path c ⊎ (c ≡ cell)
  split c a = elim (among_append path (cell ∷ []) c a) [ inl b ↦ inl b | inr b ↦ inr (only_here cell c b) ]

  module _ (next : ℕ) (at : slice_get leads cell ≡ Some (Copies next)) where
    cleared_list : List Lead
    cleared_list = slice_set leads cell Nowhere

    followed : (origin : List Lead) → IsFollowed origin leads path cell → IsFollowed origin cleared_list (longer cell) next
    unfolding cleared_list
    followed origin f = record {
      many = length-set leads cell Nowhere ∙ f.many;
      up = λ c a e h. up c (split c a) e h;
      down = λ c a e h. down c (split c a) e h;
      closed = λ c a. closed c (split c a);
      each = λ c lead h. each c lead h (either_way cell c);
    }
      where
        by_each : IsRight origin cell (Copies next) ⊎ ((Copies next ≡ Nowhere) × IsAmong path cell) → slice_get origin cell ≡ Some (Copies next)
        by_each (inl g) = g
        by_each (inr g) = let no : Copies next ≡ Nowhere = g.0 in cc

        there : slice_get origin cell ≡ Some (Copies next)
        there = by_each (f.each cell (Copies next) at)

        up : (c : ℕ) → IsAmong path c ⊎ (c ≡ cell) → (e : End) → EndsFrom origin next e → EndsFrom origin c e
        up c (inl a) e h = f.up c a e (by_copy there h)
        up c (inr g) e h = let P : ℕ → Type 0 = λ x. EndsFrom origin x e in subst P (sym g) (by_copy there h)

        down : (c : ℕ) → IsAmong path c ⊎ (c ≡ cell) → (e : End) → EndsFrom origin c e → EndsFrom origin next e
        down c (inl a) e h = copy_ends origin cell next e there (f.down c a e h)
        down c (inr g) e h = let P : ℕ → Type 0 = λ x. EndsFrom origin x e in copy_ends origin cell next e there (subst P g h)

        closed : (c : ℕ) → IsAmong path c ⊎ (c ≡ cell) → (d : ℕ) × (slice_get origin c ≡ Some (Copies d)) × (IsAmong (longer cell) d ⊎ (d ≡ next))
        closed c (inl a) = let k = f.closed c a in (k.0, k.1, inl (elim k.2 [ inl b ↦ in_front k.0 b | inr e ↦ at_last k.0 e ]))
        closed c (inr g) = (next, ap (slice_get origin) g ∙ there, inr refl)

        each : (c : ℕ) (lead : Lead) → slice_get (slice_set leads cell Nowhere) c ≡ Some lead → (c ≡ cell) ⊎ (c ≢ cell) → IsRight origin c lead ⊎ ((lead ≡ Nowhere) × IsAmong (longer cell) c)
        each c lead h (inl e) =
            let here : Some Nowhere ≡ Some lead = sym (ap (slice_get (slice_set leads cell Nowhere)) e ∙ set_here leads cell Nowhere p.inside) ∙ h in
            let is : lead ≡ Nowhere = cc in
            inr (is, at_last c e)
        each c lead h (inr ne) = elim (f.each c lead (sym (set_there leads cell c Nowhere ne) ∙ h)) [ inl g ↦ inl g | inr g ↦ inr (g.0, in_front c g.1) ]

    pub step_path : AreWithin old → IsPath old (slice_set leads cell Nowhere) (path ++ cell ∷ []) start next
    unfolding cleared_list
    step_path within = record {
      many = length-set leads cell Nowhere ∙ p.many;
      inside = omega (arith, within cell next (p.kept cell next at), p.many, length-set leads cell Nowhere);
      members = λ c a. members c (split c a);
      cleared = λ c a. cleared c (split c a) (either_way cell c);
      kept = λ c d h. kept c d h (either_way cell c);
      begun = inr (elim p.begun [ inl e ↦ at_last start e | inr a ↦ in_front start a ]);
      right = λ origin r. followed origin (p.right origin r);
    }
      where
        members : (c : ℕ) → IsAmong path c ⊎ (c ≡ cell) → c < length (slice_set leads cell Nowhere)
        members c (inl a) = let lt = p.members c a in omega (arith, lt, length-set leads cell Nowhere)
        members c (inr e) = omega (arith, e, p.inside, length-set leads cell Nowhere)

        cleared : (c : ℕ) → IsAmong path c ⊎ (c ≡ cell) → (c ≡ cell) ⊎ (c ≢ cell) → slice_get (slice_set leads cell Nowhere) c ≡ Some Nowhere
        cleared c a (inl e) = ap (slice_get (slice_set leads cell Nowhere)) e ∙ set_here leads cell Nowhere p.inside
        cleared c (inl a) (inr ne) = set_there leads cell c Nowhere ne ∙ p.cleared c a
        cleared c (inr e) (inr ne) = absurd (ne e)

        kept : (c d : ℕ) → slice_get (slice_set leads cell Nowhere) c ≡ Some (Copies d) → (c ≡ cell) ⊎ (c ≢ cell) → slice_get old c ≡ Some (Copies d)
        kept c d h (inl e) = let here : Some Nowhere ≡ Some (Copies d) = sym (ap (slice_get (slice_set leads cell Nowhere)) e ∙ set_here leads cell Nowhere p.inside) ∙ h in cc
        kept c d h (inr ne) = p.kept c d (sym (set_there leads cell c Nowhere ne) ∙ h)

-- ---- the whole path

-- no cell of a cycle ends
cycle_ends : (origin : List Lead) (path : List ℕ) → ((c : ℕ) → IsAmong path c → (d : ℕ) × (slice_get origin c ≡ Some (Copies d)) × IsAmong path d) → (c : ℕ) (e : End) → EndsFrom origin c e → IsAmong path c → ⊥
cycle_ends origin path closed c e (at_end h) a = let k = closed c a in let both : Some (Ends e) ≡ Some (Copies k.0) = sym h ∙ k.1 in cc
cycle_ends origin path closed c e (by_copy {d = x} h r) a =
    let k = closed c a in
    let both : Some (Copies k.0) ≡ Some (Copies x) = sym k.1 ∙ h in
    let one : k.0 ≡ x = cc in
    let P : ℕ → Type 0 = λ y. IsAmong path y in
    cycle_ends origin path closed x e r (subst P one k.2)

module _ (old leads : List Lead) (path : List ℕ) (start cell : ℕ) (w : IsWholePath old leads path start cell) (lead : Lead) (at : slice_get leads cell ≡ Some lead) where
  abbrev p : IsPath old leads path start cell
  p = w.path_to

  module _ (origin : List Lead) (f : IsFollowed origin leads path cell) where
    by_lead : (l : Lead) → lead ≡ l → IsRight origin cell l → (c : ℕ) → IsAmong path c → IsRight origin c l
    by_lead (Ends e) is g c a = f.up c a e g
    by_lead (Copies d) is g c a = absurd (w.stopped d (at ∙ ap Some is))
    by_lead Nowhere is g c a = λ e h. g e (f.down c a e h)

    in_cycle : IsAmong path cell → (c : ℕ) → IsAmong path c → IsRight origin c Nowhere
    in_cycle b c a = λ e h. cycle_ends origin path (λ x y. let k = f.closed x y in (k.0, k.1, elim k.2 [ inl z ↦ z | inr z ↦ (let P : ℕ → Type 0 = λ n. IsAmong path n in subst P (sym z) b) ])) c e h a

    on_path : (c : ℕ) → IsAmong path c → IsRight origin c lead
    on_path c a = elim (f.each cell lead at) [
      | inl g ↦ by_lead lead refl g c a
      | inr g ↦ (let P : Lead → Type 0 = λ l. IsRight origin c l in subst P (sym g.0) (in_cycle g.1 c a))
    ]

    each : (c : ℕ) (l : Lead) → slice_get (set_each leads path lead) c ≡ Some l → IsRight origin c l
    each c l h = by_place (each_either leads path lead c)
      where
        there : IsAmong path c → IsRight origin c l
        there a =
            let both : Some lead ≡ Some l = sym (each_here leads path lead c a (p.members c a)) ∙ h in
            let one : lead ≡ l = cc in
            let P : Lead → Type 0 = λ x. IsRight origin c x in
            subst P one (on_path c a)

        by_place : IsAmong path c ⊎ (slice_get (set_each leads path lead) c ≡ slice_get leads c) → IsRight origin c l
        by_place (inl a) = there a
        by_place (inr k) = elim (f.each c l (sym k ∙ h)) [ inl g ↦ g | inr g ↦ there g.1 ]

  pub walked : IsWalked old (set_each leads path lead) start
  walked = record {
    many = each_length leads path lead ∙ p.many;
    fewer = λ c d h. fewer c d h (each_either leads path lead c);
    right = λ origin r. record { many = each_length leads path lead ∙ (p.right origin r).many; each = each origin (p.right origin r) };
  }
    where
      no_start : (c d : ℕ) → slice_get leads c ≡ Some (Copies d) → (start ≡ cell) ⊎ IsAmong path start → c ≢ start
      no_start c d h (inl e) = λ s. w.stopped d (ap (slice_get leads) (sym (s ∙ e)) ∙ h)
      no_start c d h (inr a) = λ s. let no : Some Nowhere ≡ Some (Copies d) = sym (p.cleared start a) ∙ (ap (slice_get leads) (sym s) ∙ h) in cc

      fewer : (c d : ℕ) → slice_get (set_each leads path lead) c ≡ Some (Copies d) → IsAmong path c ⊎ (slice_get (set_each leads path lead) c ≡ slice_get leads c) → (slice_get old c ≡ Some (Copies d)) × (c ≢ start)
      fewer c d h (inl a) =
          let both : Some lead ≡ Some (Copies d) = sym (each_here leads path lead c a (p.members c a)) ∙ h in
          absurd (w.stopped d (at ∙ both))
      fewer c d h (inr k) = let there : slice_get leads c ≡ Some (Copies d) = sym k ∙ h in (p.kept c d there, no_start c d there p.begun)

-- ---- all cells

pub first_resolved : (origin : List Lead) → AreWithin origin → IsResolvedTo 0 origin origin
first_resolved origin within = record { right = record { many = refl; each = itself }; within = within; known = λ c d h lt. absurd (omega (arith, lt)) }
  where
    itself : (c : ℕ) (lead : Lead) → slice_get origin c ≡ Some lead → IsRight origin c lead
    itself c (Ends e) h = at_end h
    itself c (Copies d) h = h
    itself c Nowhere h = none
      where
        none : (e : End) → EndsFrom origin c e → ⊥
        none e (at_end g) = let no : Some Nowhere ≡ Some (Ends e) = sym h ∙ g in cc
        none e (by_copy {d = d} g r) = let no : Some Nowhere ≡ Some (Copies d) = sym h ∙ g in cc

pub next_resolved : (n : ℕ) (origin old new : List Lead) → IsResolvedTo n origin old → IsWalked old new n → IsResolvedTo (n + 1) origin new
next_resolved n origin old new r w = record {
  right = w.right origin r.right;
  within = λ c d h. let lt = r.within c d (w.fewer c d h).0 in omega (arith, lt, w.many);
  known = λ c d h lt.
      let f = w.fewer c d h in
      elim (either_way n c) [ inl e ↦ f.1 e | inr ne ↦ r.known c d f.0 (omega (arith, lt, ne)) ];
}

pub all_resolved : (n : ℕ) (origin leads : List Lead) → IsResolvedTo n origin leads → n ≡ length leads → IsResolved origin leads
all_resolved n origin leads r all = record { many = r.right.many; ends = λ c e h. r.right.each c (Ends e) h; all = λ c e h. by_lead c e h (slice_get leads c) refl }
  where
    under : (c : ℕ) (e : End) → EndsFrom origin c e → c < length origin
    under c e (at_end g) = slice_get_within origin c (Ends e) g
    under c e (by_copy {d = d} g s) = slice_get_within origin c (Copies d) g

    some : (xs : List Lead) (c : ℕ) → c < length xs → slice_get xs c ≡ None → ⊥
    some [] c lt h = absurd (omega (arith, lt))
    some (x ∷ xs) zero lt h = cc
    some (x ∷ xs) (suc c) lt h = some xs c (omega (arith, lt)) h

    by_lead : (c : ℕ) (e : End) → EndsFrom origin c e → (o : Option Lead) → slice_get leads c ≡ o → slice_get leads c ≡ Some (Ends e)
    by_lead c e h None g = absurd (some leads c (omega (arith, under c e h, r.right.many)) g)
    by_lead c e h (Some (Ends f)) g = g ∙ ap (λ x. Some (Ends x)) (ends_once origin c f e (r.right.each c (Ends f) g) h)
    by_lead c e h (Some (Copies d)) g = let lt = slice_get_within leads c (Copies d) g in absurd (r.known c d g (omega (arith, lt, all)))
    by_lead c e h (Some Nowhere) g = absurd (r.right.each c Nowhere g e h)

-- ---- how many cells copy

pub copying : Lead → ℕ
copying (Ends e) = 0
copying (Copies c) = 1
copying Nowhere = 0

pub fewer_copies : (leads : List Lead) (c d : ℕ) → slice_get leads c ≡ Some (Copies d) → sum_by copying (slice_set leads c Nowhere) < sum_by copying leads
unfolding copying
fewer_copies leads c d h =
    let lt = slice_get_within leads c (Copies d) h in
    let change : sum_by copying (slice_set leads c Nowhere) + copying (get_or leads c (Copies d)) ≡ sum_by copying leads + 0 = sum_by-set copying leads c Nowhere (Copies d) lt in
    let one : copying (get_or leads c (Copies d)) ≡ 1 = ap copying (got leads c h) in
    omega (arith, change, one)
  where
    got : (xs : List Lead) (c : ℕ) → slice_get xs c ≡ Some (Copies d) → get_or xs c (Copies d) ≡ Copies d
    got [] c h = refl
    got (x ∷ xs) zero h = let e : x ≡ Copies d = cc in e
    got (x ∷ xs) (suc c) h = got xs c h

-- ---- what a table has at a place

pub lead_there : (xs : List Lead) (c : ℕ) (d v : Lead) → c < length xs → get_or xs c d ≡ v → slice_get xs c ≡ Some v
lead_there [] c d v lt h = absurd (omega (arith, lt))
lead_there (x ∷ xs) zero d v lt h = ap Some h
lead_there (x ∷ xs) (suc c) d v lt h = lead_there xs c d v (omega (arith, lt)) h

pub there_lead : (xs : List Lead) (c : ℕ) (d v : Lead) → slice_get xs c ≡ Some v → get_or xs c d ≡ v
there_lead [] c d v h = cc
there_lead (x ∷ xs) zero d v h = let e : x ≡ v = cc in e
there_lead (x ∷ xs) (suc c) d v h = there_lead xs c d v h

-- a walk with the path as it was lent
pub walk_done : (old leads : List Lead) (path : List ℕ) (start cell : ℕ) → IsWholePath old leads path start cell → (d : Lead) (lent : List ℕ) (new : List Lead) → lent ≡ path → new ≡ set_each leads lent (get_or leads cell d) → IsWalked old new start
walk_done old leads path start cell w d lent new same_path is =
    let P : List Lead → Type 0 = λ x. IsWalked old x start in
    subst P (sym (is ∙ ap (λ ps. set_each leads ps (get_or leads cell d)) same_path)) (walked old leads path start cell w (get_or leads cell d) (lead_there leads cell d (get_or leads cell d) w.path_to.inside refl))

pub members_within : (old leads : List Lead) (path : List ℕ) (start cell : ℕ) → IsWholePath old leads path start cell → (lent : List ℕ) → lent ≡ path → AllByRecursion (λ (c : ℕ). c < length leads) lent
members_within old leads path start cell w lent same_path =
    let P : List ℕ → Type 0 = λ ps. AllByRecursion (λ (c : ℕ). c < length leads) ps in
    subst P (sym same_path) (each_among (λ (c : ℕ). c < length leads) path w.path_to.members)
