-- The node above a node, and the indices around it.
use Rattle.std.proofs.Common.{◌≡◌, ◌≢◌, ℕ, ◌+◌, ◌-◌, ◌*◌, ◌<◌, ◌≤◌, List, ◌∷◌, ◌++◌, length, take, drop, Some, sym, ◌∙◌, ap, refl, arith, subst}
use Rattle.std.proofs.lemmas.List.{length-append}
use Rattle.std.proofs.Math.Seq.{take-append_seam, drop-append_seam}
use Rattle.aol_shape.specs.Shape.{size, rank, IsPointOf}
use Rattle.aol_model_types.specs.declared.document.Model.{Model}
use Rattle.aol_model_types.specs.declared.task.Repeated.{Repeated}
use Rattle.aol_model_types.specs.declared.task.Task.{Task}
use Rattle.aol_model_types.specs.declared.task.Task.TheVariants as tasks
use Rattle.aol_flat.specs.Accept.{IsSound}
use Rattle.aol_flat.specs.declared.nodes.NodeRow.{NodeRow}
use Rattle.aol_flat.specs.Follow.{IsRepetition}
use Rattle.aol_flat.specs.Node.{Branch, ToPart, ToBody, Node, space_around, task_under}
use Rattle.aol_flat.specs.NodeTable.{IsNode, IsNodeRow}
use Rattle.aol_flat.proofs.Arrays.{rank_both}
use Rattle.aol_flat.proofs.Hands.{to_part, no_step, body_place}
use Rattle.aol_flat.proofs.Inside.{point_length, point_split}
use Rattle.aol_flat.proofs.NodeAt.{is_under, above_same, one_node}

-- the node is the body of the node above
pub record BodyAt (number up : ℕ) (node above : Node) (r : Repeated) : Type 0 where
  pub is : node ≡ ToBody r.space ∷ above
  pub lower : up < number

-- the node is a part of the node above
pub record PartAt (number up : ℕ) (node above : Node) : Type 0 where
  pub part : ℕ
  pub is : node ≡ ToPart part ∷ above
  pub lower : up < number

not_body : (m : Model) (a : Task) (b : Branch) (t : Task) → ((r : Repeated) → a ≡ tasks.Repeated r → ⊥) → task_under m a b ≡ Some t → (k : ℕ) × (b ≡ ToPart k)
not_body m (tasks.Elementary e) b t h k = absurd (no_step m e b t k)
not_body m (tasks.Compound c) b t h k = to_part m c b t k
not_body m (tasks.Repeated r) b t h k = absurd (h r refl)

module _ (m : Model) (sound : IsSound m) (number : ℕ) (row : NodeRow) (node : Node) (t : Task) (some : number ≢ 0) (known : IsNodeRow m number row) (at : IsNode m number node t) where
  pub reached_body : (r : Repeated) (above : Node) → IsNode m row.up above (tasks.Repeated r) → BodyAt number row.up node above r
  reached_body r above there =
      let u = is_under m sound number row node t some known at in
      let place = body_place m number row node t r u (above_same m number row node above t (tasks.Repeated r) u there) at in
      let up : u.up ≡ above = (one_node m row.up u.up above u.above (tasks.Repeated r) u.at_up there).0 in
      record { is = place.is ∙ ap (λ x. ToBody r.space ∷ x) up; lower = u.lower }

  pub reached_part : (a : Task) (above : Node) → ((r : Repeated) → a ≡ tasks.Repeated r → ⊥) → IsNode m row.up above a → PartAt number row.up node above
  reached_part a above apart there =
      let u = is_under m sound number row node t some known at in
      let is : u.above ≡ a = above_same m number row node above t a u there in
      let up : u.up ≡ above = (one_node m row.up u.up above u.above a u.at_up there).0 in
      let b = not_body m a u.branch t apart (sym (ap (λ x. task_under m x u.branch) is) ∙ u.leads) in
      record { part = b.0; is = u.is ∙ (ap (λ x. x ∷ u.up) b.1 ∙ ap (λ x. ToPart b.0 ∷ x) up); lower = u.lower }

-- the indices of a body are those around the repeated task and then those of the repetition
pub indices_split : (number up : ℕ) (node above : Node) (r : Repeated) (at : List ℕ) → BodyAt number up node above r → IsPointOf (space_around node) at
    → (x : List ℕ) × (y : List ℕ) × (at ≡ x ++ y) × IsPointOf (space_around above) x × IsPointOf r.space y
indices_split number up node above r at b inside =
    let P : Node → Type 0 = λ n. IsPointOf (space_around n) at in
    point_split (space_around above) r.space at (subst P b.is inside)

pub body_longer : (number up : ℕ) (node above : Node) (r : Repeated) (at : List ℕ) → BodyAt number up node above r → IsPointOf (space_around node) at → length r.space ≤ length at
body_longer number up node above r at b inside =
    let z = indices_split number up node above r at b inside in
    omega (arith, ap length z.2, length-append z.0 z.1, point_length r.space z.1 z.4)

pub repetition_split : (m : Model) (number up n : ℕ) (node above : Node) (inner : Task) (r : Repeated) (at around last : List ℕ) → IsNode m number node inner → IsNode m up above (tasks.Repeated r)
    → BodyAt number up node above r → IsPointOf (space_around node) at → n ≡ length r.space → around ≡ take (length at - n) at → last ≡ drop (length at - n) at
    → IsRepetition m number up r around last
repetition_split m number up n node above inner r at around last here there b inside count front back =
    let z = indices_split number up node above r at b inside in
    let seam : length at - n ≡ length z.0 = omega (arith, count, ap length z.2, length-append z.0 z.1, point_length r.space z.1 z.4) in
    let first : around ≡ z.0 = front ∙ (ap (λ k. take k at) seam ∙ (ap (take (length z.0)) z.2 ∙ take-append_seam z.0 z.1)) in
    let second : last ≡ z.1 = back ∙ (ap (λ k. drop k at) seam ∙ (ap (drop (length z.0)) z.2 ∙ drop-append_seam z.0 z.1)) in
    let P : Node → Type 0 = λ x. IsNode m number x inner in
    let Q : List ℕ → Type 0 = λ x. IsPointOf (space_around above) x in
    let R : List ℕ → Type 0 = λ x. IsPointOf r.space x in
    record {
      lower = b.lower;
      node = above;
      inner = inner;
      at_up = there;
      at_body = subst P b.is here;
      around_inside = subst Q (sym first) z.3;
      inside = subst R (sym second) z.4;
    }

-- the rank of the indices of a repetition
pub rank_of_repetition : (m : Model) (number up : ℕ) (r : Repeated) (around last : List ℕ) (p : IsRepetition m number up r around last) (node : Node) (t : Task) → IsNode m number node t
    → rank (space_around node) (around ++ last) ≡ rank (space_around p.node) around * size r.space + rank r.space last
rank_of_repetition m number up r around last p node t at =
    ap (λ n. rank (space_around n) (around ++ last)) (one_node m number node (ToBody r.space ∷ p.node) t p.inner at p.at_body).0
    ∙ rank_both (space_around p.node) r.space around last p.around_inside
