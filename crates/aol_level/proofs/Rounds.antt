-- What the parts of a level have done, one beside the other, is what its instances do at once.
use Rattle.std.proofs.Common.{◌≡◌, ℕ, suc, ◌<◌, List, [], ◌∷◌, ◌++◌, map, flat_map, length, slice_get, slice_index, Option, Some, refl, sym, ◌∙◌, ap, subst, arith, All, Contains}
use Rattle.std.proofs.lemmas.Grind.{flat_map-append}
use Rattle.aol_expr_tree.specs.declared.value.Val.{Val}
use Rattle.aol_flat.specs.Accept.{IsFlat}
use Rattle.aol_flat.specs.Instance.{instances}
use Rattle.aol_flat.specs.Laid.{Laid}
use Rattle.aol_flat.specs.Net.{Net, IsNetOf, reads_at, writes_at}
use Rattle.aol_flat.specs.declared.view.Read.{Read}
use Rattle.aol_flat.specs.declared.view.Read.TheVariants.{Cell, Const}
use Rattle.aol_scatter.specs.Cells.{cell}
use Rattle.aol_level.specs.Claims.{CanClaim, without_all}
use Rattle.aol_level.specs.Parts.{AreCellsOf, ArePut, CanTakeAll, puts_at}
use Rattle.aol_level.specs.Puts.{CanTake, kept_by, value_held, value_in}
use Rattle.aol_level.specs.Round.{AllHeld, CanRunAtOnce, IsAfter}
use Rattle.aol_level.specs.declared.kept.Kept.{Kept}
use Rattle.aol_level.proofs.Claimed.{can_claim, without_none, elsewhere, whole_again}
use Rattle.aol_level.proofs.Lists.{Has, StandsOnce, all_has, has_all, has_among, among_has, has_flat, flat_has, get_map, map_get, once_all, same_parts}
use Rattle.aol_level.proofs.Nets.{puts_many, read_within, reads_are, reads_zip, written_within}

flat_flat : {P : Type 0} (part : P → List ℕ) (g : ℕ → List ℕ) (ps : List P) → flat_map (λ p. flat_map g (part p)) ps ≡ flat_map g (flat_map part ps)
flat_flat part g [] = refl
flat_flat part g (p ∷ ps) = ap (λ xs. flat_map g (part p) ++ xs) (flat_flat part g ps) ∙ sym (flat_map-append g (part p) (flat_map part ps))

flat_same : {P X : Type 0} (g h : P → List X) (ps : List P) → ((p : P) → Has ps p → g p ≡ h p) → flat_map g ps ≡ flat_map h ps
flat_same g h [] same = refl
flat_same g h (p ∷ ps) same = ap (λ xs. xs ++ flat_map g ps) (same p (0, refl)) ∙ ap (λ xs. h p ++ xs) (flat_same g h ps (λ q a. same q (suc a.0, a.1)))

map_same : {A B : Type 0} (g h : A → B) (xs : List A) → ((x : A) → Has xs x → g x ≡ h x) → map g xs ≡ map h xs
map_same g h [] same = refl
map_same {B = B} g h (x ∷ xs) same = ap (λ (b : B). b ∷ map g xs) (same x (0, refl)) ∙ ap (λ (bs : List B). h x ∷ bs) (map_same g h xs (λ y a. same y (suc a.0, a.1)))

module _ (f : Laid) (flat : IsFlat f) (workers at_once : List ℕ) (can : CanRunAtOnce f workers at_once) where
  pub low_at : (j : ℕ) → Has at_once j → j < length (instances f.model)
  low_at j a = can.within a.0 j a.1

  written_once : StandsOnce (flat_map (writes_at can.net) at_once)
  written_once =
      once_all (writes_at can.net) at_once (λ i k c a b. can.once i k c a b)
      (λ j a x y c p q. (can.independent.one_writer j j x y c (has_among at_once j a) (has_among at_once j a) p q).1)
      (λ i j c a b p q. (can.independent.one_writer i j p.0 q.0 c (has_among at_once i a) (has_among at_once j b) p.1 q.1).0)

  module _ {P : Type 0} (part cells : P → List ℕ) (ps : List P) (all : flat_map part ps ≡ at_once) (each : (p : P) → Has ps p → AreCellsOf f (part p) (cells p)) where
    pub cells_once : StandsOnce (flat_map cells ps)
    cells_once =
        let e : flat_map cells ps ≡ flat_map (writes_at can.net) at_once =
        flat_same cells (λ p. flat_map (writes_at can.net) (part p)) ps (λ p a. each p a can.net can.is_net) ∙ (flat_flat part (writes_at can.net) ps ∙ ap (flat_map (writes_at can.net)) all) in
        subst StandsOnce (sym e) written_once

    -- an instance of a part writes each of its cells
    written_by : (net : Net) → IsNetOf f net → (p : P) → Has ps p → (c : ℕ) → Has (cells p) c → (j : ℕ) × Has at_once j × Has (part p) j × Has (writes_at net j) c
    written_by net is_net p a c b =
        let r = flat_has (writes_at net) (part p) c (subst (λ cs. Has cs c) (each p a net is_net) b) in
        (r.0, subst (λ js. Has js r.0) all (has_flat part ps p r.0 a r.1), r.1, r.2)

    module _ (old : List (Option Kept)) (whole : AllHeld old) (many : length old ≡ length f.cells) where
      pub claims : CanClaim old (map cells ps)
      claims =
          can_claim cells ps old cells_once
          (λ c a.
          let p = flat_has cells ps c a in
          let w = written_by can.net can.is_net p.0 p.1 c p.2 in
          whole c (omega (arith, many, written_within f flat can.net can.is_net w.0 (low_at w.0 w.1) w.3.0 c w.3.1)))

      module _ (mid : List (Option Kept)) (claimed : mid ≡ without_all (map cells ps) old) where
        same_reads : (net : Net) → IsNetOf f net → (j : ℕ) → Has at_once j → reads_at net j ≡ reads_at can.net j
        same_reads net is_net j a = reads_are f flat can.net can.is_net j (low_at j a) (reads_at net j) (λ i at. reads_zip f flat net is_net j (low_at j a) i at)

        -- what one of the instances reads is claimed by none
        not_claimed : (j : ℕ) → Has at_once j → (k c : ℕ) → slice_get (reads_at can.net j) k ≡ Some (Cell c) → cell mid c ≡ cell old c
        not_claimed j a k c at =
            ap (λ cs. cell cs c) claimed
            ∙ without_none (map cells ps) old c
            (λ l b d.
            let p = map_get cells ps b.0 l b.1 in
            let w = written_by can.net can.is_net p.0 (b.0, p.1) c (subst (λ m. Has m c) (sym p.2) d) in
            can.independent.unread j w.0 k w.3.0 c (has_among at_once j a) (has_among at_once w.0 w.1) at w.3.1)

        take_one : (j : ℕ) → Has at_once j → (k : ℕ) (r : Read) → slice_get (reads_at can.net j) k ≡ Some r → CanTake mid r
        take_one j a k (Cell c) at =
            let held = whole c (omega (arith, many, read_within f flat can.net can.is_net j (low_at j a) k c at)) in
            (held.0, not_claimed j a k c at ∙ held.1)
        take_one j a k (Const n) at = tt

        pub takes : (p : P) → Has ps p → CanTakeAll f mid (part p)
        takes p a = λ net is_net j b.
            let there = subst (λ js. Has js j) all (has_flat part ps p j a (among_has (part p) j b)) in
            subst (All (CanTake mid)) (sym (same_reads net is_net j there)) (all_has (CanTake mid) (reads_at can.net j) (λ r d. take_one j there d.0 r d.1))

        value_same : (j : ℕ) → Has at_once j → (k : ℕ) (r : Read) → slice_get (reads_at can.net j) k ≡ Some r → value_held mid r ≡ value_held old r
        value_same j a k (Cell c) at = ap value_in (not_claimed j a k c at)
        value_same j a k (Const n) at = refl

        -- so it is taken as it was before
        taken_same : (net : Net) → IsNetOf f net → (j : ℕ) → Has at_once j → map (value_held mid) (reads_at net j) ≡ map (value_held old) (reads_at net j)
        taken_same net is_net j a =
            let e = same_reads net is_net j a in
            ap (map (value_held mid)) e ∙ (map_same (value_held mid) (value_held old) (reads_at can.net j) (λ r d. value_same j a d.0 r d.1) ∙ ap (map (value_held old)) (sym e))

        module _ (worker : P → ℕ) (values : P → List Kept) (placed : (p : P) → Has ps p → All (λ j. slice_index workers j ≡ worker p) (part p)) (put : (p : P) → Has ps p → ArePut f mid (worker p) (part p) (values p))
            (new : List (Option Kept)) (settled : All (λ p. map (λ k. cell new k) (cells p) ≡ map Some (values p)) ps) (others : (k : ℕ) → All (λ p. ¬ Contains (cells p) k) ps → cell new k ≡ cell mid k) where
          pub held_after : length new ≡ length old → AllHeld new
          held_after same c lt = whole_again cells values ps old mid new claimed settled others (length old) whole c (omega (arith, same, lt))

          -- what an instance has put
          written_after : (net : Net) → IsNetOf f net → (j : ℕ) → Has at_once j → (k c : ℕ) → slice_get (writes_at net j) k ≡ Some c
              → (x : Val) × (slice_get (net.gives j (map (value_held old) (reads_at net j))) k ≡ Some x) × (cell new c ≡ Some (kept_by (slice_index workers j) x))
          written_after net is_net j a k c at =
              let p = flat_has part ps j (subst (λ js. Has js j) (sym all) a) in
              let w = worker p.0 in
              let same : map (λ n. cell new n) (cells p.0) ≡ map Some (values p.0) = has_all (λ q. map (λ n. cell new n) (cells q) ≡ map Some (values q)) ps p.0 settled p.1 in
              let parts : map (λ n. cell new n) (flat_map (writes_at net) (part p.0)) ≡ map Some (flat_map (puts_at net mid w) (part p.0)) =
              ap (map (λ n. cell new n)) (sym (each p.0 p.1 net is_net)) ∙ (same ∙ ap (map Some) (put p.0 p.1 net is_net)) in
              let mine : map (λ n. cell new n) (writes_at net j) ≡ map Some (puts_at net mid w j) =
              same_parts (λ n. cell new n) (writes_at net) (puts_at net mid w) (part p.0)
              (λ i b. puts_many f flat net is_net i (low_at i (subst (λ js. Has js i) all (has_flat part ps p.0 i p.1 b))) mid w) parts j p.2 in
              let got : slice_get (map Some (puts_at net mid w j)) k ≡ Some (cell new c) = ap (λ l. slice_get l k) (sym mine) ∙ get_map (λ n. cell new n) (writes_at net j) k c at in
              let y = map_get Some (puts_at net mid w j) k (cell new c) got in
              let x = map_get (kept_by w) (net.gives j (map (value_held mid) (reads_at net j))) k y.0 y.1 in
              let by : slice_index workers j ≡ w = has_all (λ i. slice_index workers i ≡ w) (part p.0) j (placed p.0 p.1) p.2 in (
                x.0,
                ap (λ vs. slice_get (net.gives j vs) k) (sym (taken_same net is_net j a)) ∙ x.1,
                sym y.2 ∙ ap Some (sym x.2 ∙ ap (λ n. kept_by n x.0) (sym by)),
              )

          pub after_level : IsAfter f workers at_once old new
          after_level net is_net = record {
            written = λ j k c a at. written_after net is_net j (among_has at_once j a) k c at;
            others = λ c none.
                elsewhere cells values ps old mid new claimed settled others c
                (λ p a b. let w = written_by net is_net p a c b in none w.0 w.3.0 (has_among at_once w.0 w.1) w.3.1);
          }
