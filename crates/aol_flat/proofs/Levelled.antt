-- Where instances have levels, no element needs itself.
use Rattle.std.proofs.Common.{◌≡◌, ℕ, zero, suc, ◌+◌, ◌<◌, ◌≤◌, Bool, true, false, List, length, Some, sym, ◌∙◌, refl, arith, ◌⊎◌, inl, inr}
use Rattle.std.specs.Prelude.{slice_get, slice_index}
use Rattle.std.specs.List.{IsAmong}
use Rattle.aol_model_types.specs.declared.document.Model.{Model}
use Rattle.aol_flat.specs.Place.{Element, task_at, elements_of}
use Rattle.aol_flat.specs.Equation.{ElementaryOutput, CopiedElement}
use Rattle.aol_flat.specs.Need.{Follows, by_following, by_copying, by_computing, one, more, NeedsItself, IsGrounded, grounded}
use Rattle.aol_flat.specs.Home.{is_input_at}
use Rattle.aol_flat.specs.Instance.{Instance, instances, read_elements, written_elements}
use Rattle.aol_flat.specs.InstanceNeed.{Reaches, here, onward, AreLevelsOf}
use Rattle.aol_flat.specs.Wired.{IsInput, IsOutput, IsWired}
use Rattle.aol_flat.specs.Followed.{Moves, climbs, crosses, descends, IsNumbered, LevelsAreAcyclic}
use Rattle.aol_flat.proofs.Acyclic.{leads_on}
use Rattle.aol_flat.proofs.Following.{following_moves}

-- a grounded element doesn't need itself
pub grounded_apart : (m : Model) (p : Element) → IsGrounded m p → NeedsItself m p → ⊥
grounded_apart m p (grounded g) (one n) = grounded_apart m p (g p n) (one n)
grounded_apart m p (grounded g) (more {q = q} n l) = grounded_apart m q (g q n) (leads_on m q p q l n)

pub reach_on : (m : Model) (p q r : Element) → Reaches m p q → Follows m q r → Reaches m p r
reach_on m p q r here f = onward f here
reach_on m p q r (onward {q = x} g h) f = onward g (reach_on m x q r h f)

side : (m : Model) (p : Element) → IsInput m p ⊎ IsOutput m p
side m p = go (is_input_at (task_at m p.place) p.port) refl
  where
    go : (b : Bool) → is_input_at (task_at m p.place) p.port ≡ b → IsInput m p ⊎ IsOutput m p
    go true e = inl e
    go false e = inr e

pub two_sides : (m : Model) (p : Element) → IsInput m p → IsOutput m p → ⊥
two_sides m p a b = let e : true ≡ false = sym a ∙ b in cc

module _ (m : Model) (wired : IsWired m) (depth : ℕ) (shallow : (p q : Element) → Follows m p q → length q.place ≤ depth) where
  -- so many steps of following are left at most
  abbrev pub Left : ℕ → Element → Type 0
  Left n p = (IsInput m p × (depth + length p.place < n)) ⊎ (IsOutput m p × (depth ≤ n + length p.place))

  left_next : (n : ℕ) (p q : Element) → Left (n + 1) p → Follows m p q → Left n q
  left_next n p q left f = go (following_moves m wired p q f) left
    where
      go : Moves m p q → Left (n + 1) p → Left n q
      go (climbs a b c) (inl l) = inl (b, omega (arith, c, l.1))
      go (climbs a b c) (inr l) = absurd (two_sides m p a l.0)
      go (crosses a b) (inl l) = inr (b, omega (arith, l.1))
      go (crosses a b) (inr l) = absurd (two_sides m p a l.0)
      go (descends a b c) (inl l) = absurd (two_sides m p l.0 a)
      go (descends a b c) (inr l) = inr (b, omega (arith, c, l.1))

  none_left : (p q : Element) → Left 0 p → Follows m p q → ⊥
  none_left p q left f = go (following_moves m wired p q f) left
    where
      go : Moves m p q → Left 0 p → ⊥
      go x (inl l) = omega (arith, l.1)
      go (climbs a b c) (inr l) = two_sides m p a l.0
      go (crosses a b) (inr l) = two_sides m p a l.0
      go (descends a b c) (inr l) = omega (arith, c, l.1, shallow p q f)

  pub enough : (p : Element) → (n : ℕ) × Left n p
  enough p =
      elim (side m p) [
        | inl i ↦ (depth + length p.place + 1, inl (i, omega arith))
        | inr o ↦ (depth, inr (o, omega arith))
      ]

  -- what is followed is grounded, where what is computed or copied on the way is
  module _ (P : Element → Type 0) (keep : (p q : Element) → P p → Follows m p q → P q) (copied : (p q : Element) → P p → CopiedElement m p q → IsGrounded m q)
      (computed : (p : Element) → P p → (o : ElementaryOutput m p) → (q : Element) → IsAmong (elements_of p.place o.task.ins) q → IsGrounded m q) where
    pub follow : (n : ℕ) (p : Element) → Left n p → P p → IsGrounded m p
    follow zero p left h =
        grounded (λ q need. elim need [
          | by_following f ↦ absurd (none_left p q left f)
          | by_copying c ↦ copied p q h c
          | by_computing o a ↦ computed p h o q a
        ])
    follow (suc n) p left h =
        grounded (λ q need. elim need [
          | by_following f ↦ follow n q (left_next n p q (elim left [ inl l ↦ inl (l.0, omega (arith, l.1)) | inr l ↦ inr (l.0, omega (arith, l.1)) ]) f) (keep p q h f)
          | by_copying c ↦ copied p q h c
          | by_computing o a ↦ computed p h o q a
        ])

module _ (m : Model) (wired : IsWired m) (numbered : IsNumbered m) (depth : ℕ) (shallow : (p q : Element) → Follows m p q → length q.place ≤ depth) (level : List ℕ) (levels : AreLevelsOf m level) where
  need_of : (j k : ℕ) (i i' : Instance) (p q : Element) → slice_get (instances m) j ≡ Some i → slice_get (instances m) k ≡ Some i' → IsAmong (read_elements m i) p → IsAmong (written_elements m i') q → Reaches m p q
      → slice_index level k < slice_index level j
  need_of j k i i' p q hj hk a b r =
      levels.above j k (record { reader = i; writer = i'; at_reader = hj; at_writer = hk; read = p; written = q; among_reads = a; among_writes = b; joined = r })

  -- the reads of the instances below a level are grounded
  ground_reads : (n j : ℕ) (i : Instance) → slice_get (instances m) j ≡ Some i → slice_index level j < n → (p : Element) → IsAmong (read_elements m i) p → IsGrounded m p
  ground_reads zero j i h below p a = absurd (omega (arith, below))
  ground_reads (suc n) j i h below p a =
      let fuel = enough m wired depth shallow p in
      follow m wired depth shallow (λ q. Reaches m p q) (λ q r reach f. reach_on m p q r reach f)
      (λ q r reach c.
      let k = numbered.copies q r c in
      let lower : slice_index level k.0 < slice_index level j = need_of j k.0 i k.1 p q h k.2 a k.3 reach in
      ground_reads n k.0 k.1 k.2 (omega (arith, lower, below)) r k.4)
      (λ q reach o r b.
      let k = numbered.runs q o in
      let lower : slice_index level k.0 < slice_index level j = need_of j k.0 i k.1 p q h k.2 a k.3 reach in
      ground_reads n k.0 k.1 k.2 (omega (arith, lower, below)) r (k.4 r b))
      fuel.0 p fuel.1 here

  ground_all : (p : Element) → IsGrounded m p
  ground_all p =
      let fuel = enough m wired depth shallow p in
      follow m wired depth shallow (λ q. Unit {0}) (λ q r u f. tt)
      (λ q r u c. let k = numbered.copies q r c in ground_reads (slice_index level k.0 + 1) k.0 k.1 k.2 (omega arith) r k.4)
      (λ q u o r b. let k = numbered.runs q o in ground_reads (slice_index level k.0 + 1) k.0 k.1 k.2 (omega arith) r (k.4 r b))
      fuel.0 p fuel.1 tt

pub levels_are_acyclic : LevelsAreAcyclic
levels_are_acyclic m wired numbered depth shallow level levels p n = grounded_apart m p (ground_all m wired numbered depth shallow level levels p) n
