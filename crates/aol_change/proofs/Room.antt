-- Where no shape of a port over a block passes a limit, the block and each inner port have room in one tiler.
use Rattle.std.proofs.Common.{◌≡◌, ℕ, ◌+◌, ◌≤◌, Bool, true, false, cond, List, [], ◌∷◌, ◌++◌, length, nat_lt, Option, Some, None, is_some, unwrap_or, sym, ◌∙◌, ap, refl, arith}
use Rattle.std.specs.Option.{option_or}
use Rattle.std.specs.List.{AllByRecursion}
use Rattle.std.proofs.lemmas.Bool.{ltb-false}
use Rattle.std.proofs.lemmas.List.{length-append}
use Rattle.aol_shape.specs.declared.limit.LimitName.{LimitName}
use Rattle.aol_shape.specs.declared.limit.LimitName.TheVariants as limits
use Rattle.aol_shape.specs.Lists.{first_some, or_else}
use Rattle.aol_shape.specs.Shape.{IsShape, size, max_rank, max_points}
use Rattle.aol_expr_tree.specs.declared.port.Port.{Port}
use Rattle.aol_model_types.specs.declared.task.Task.{Task}
use Rattle.aol_model_types.specs.declared.task.TilerOn.{TilerOn}
use Rattle.aol_model_types.specs.Rules.{port_shape}
use Rattle.aol_model_types.proofs.PortNames.{port_behind}
use Rattle.aol_change.specs.Change.{joined_limit}
use Rattle.aol_change.specs.Blocks.{inputs_in, outputs_in, shape_in, tilers_on, shapes_limit, HasRoom}
use Rattle.aol_change.proofs.Limits.{shapes_more}

-- two shapes that pass no limit joined
pub joined_fits : (block shape : List ℕ) → joined_limit block shape ≡ None → (length block + length shape ≤ max_rank) × (size (block ++ shape) ≤ max_points)
joined_fits block shape h = go (nat_lt max_rank (length (block ++ shape))) refl h
  where
    points : (b : Bool) → nat_lt max_points (size (block ++ shape)) ≡ b → cond b (Some limits.Points) None ≡ None → size (block ++ shape) ≤ max_points
    points true e k = cc
    points false e k = ltb-false max_points (size (block ++ shape)) e

    go : (b : Bool) → nat_lt max_rank (length (block ++ shape)) ≡ b → cond b (Some limits.Rank) (cond (nat_lt max_points (size (block ++ shape))) (Some limits.Points) None) ≡ None
        → (length block + length shape ≤ max_rank) × (size (block ++ shape) ≤ max_points)
    go true e k = cc
    go false e k = (let few : length (block ++ shape) ≤ max_rank = ltb-false max_rank (length (block ++ shape)) e in omega (arith, few, length-append block shape), points (nat_lt max_points (size (block ++ shape))) refl k)

pub neither_limit : (a b : Option LimitName) → or_else a b ≡ None → (a ≡ None) × (b ≡ None)
neither_limit None b h = (refl, h)
neither_limit (Some l) b h = cc

-- what holds of the shape of a port, and of a scalar
module _ (inner : Option Task) (block : List ℕ) (is : IsShape block) where
  scalar_room : (o : TilerOn) → is_some (port_shape (inputs_in inner) o.inner) ≡ false → is_some (port_shape (outputs_in inner) o.inner) ≡ false → HasRoom inner block o
  scalar_room o a b =
      let none : port_shape (inputs_in inner ++ outputs_in inner) o.inner ≡ None = port_behind (inputs_in inner) (outputs_in inner) o.inner ∙ both_none (port_shape (inputs_in inner) o.inner) (port_shape (outputs_in inner) o.inner) a b in
      let rank : length block ≤ max_rank = is.rank in
      let shape : shape_in inner o.inner ≡ [] = ap (λ s. unwrap_or s []) none in
      omega (arith, rank, ap length shape)
    where
      both_none : (x y : Option (List ℕ)) → is_some x ≡ false → is_some y ≡ false → option_or x y ≡ None
      both_none None None a b = refl
      both_none None (Some y) a b = cc
      both_none (Some x) y a b = cc

  -- the shape of a port over the block passes no limit
  pub one_joined : (ports : List Port) (o : TilerOn) → is_some (port_shape ports o.inner) ≡ true → shapes_limit inner block (tilers_on ports (o ∷ [])) ≡ None → joined_limit block (shape_in inner o.inner) ≡ None
  one_joined ports o known h =
      let k : shapes_limit inner block (o ∷ []) ≡ None = sym (ap (λ b. shapes_limit inner block (cond b (o ∷ []) [])) known) ∙ h in
      one (joined_limit block (shape_in inner o.inner)) k
    where
      one : (y : Option LimitName) → first_some (y ∷ []) ≡ None → y ≡ None
      one None k = refl
      one (Some l) k = cc

  one_room : (ports : List Port) (o : TilerOn) → is_some (port_shape ports o.inner) ≡ true → shapes_limit inner block (tilers_on ports (o ∷ [])) ≡ None → HasRoom inner block o
  one_room ports o known h = (joined_fits block (shape_in inner o.inner) (one_joined ports o known h)).0

  pub has_room : (tilers : List TilerOn) → shapes_limit inner block (tilers_on (inputs_in inner) tilers) ≡ None → shapes_limit inner block (tilers_on (outputs_in inner) tilers) ≡ None
      → AllByRecursion (HasRoom inner block) tilers
  has_room [] h k = tt
  has_room (o ∷ tilers) h k =
      let a = neither_limit (shapes_limit inner block (tilers_on (inputs_in inner) (o ∷ []))) (shapes_limit inner block (tilers_on (inputs_in inner) tilers)) (sym (shapes_more inner block (inputs_in inner) o tilers) ∙ h) in
      let b = neither_limit (shapes_limit inner block (tilers_on (outputs_in inner) (o ∷ []))) (shapes_limit inner block (tilers_on (outputs_in inner) tilers)) (sym (shapes_more inner block (outputs_in inner) o tilers) ∙ k) in
      (go (is_some (port_shape (inputs_in inner) o.inner)) refl (is_some (port_shape (outputs_in inner) o.inner)) refl a.0 b.0, has_room tilers a.1 b.1)
    where
      go : (x : Bool) → is_some (port_shape (inputs_in inner) o.inner) ≡ x → (y : Bool) → is_some (port_shape (outputs_in inner) o.inner) ≡ y
          → shapes_limit inner block (tilers_on (inputs_in inner) (o ∷ [])) ≡ None → shapes_limit inner block (tilers_on (outputs_in inner) (o ∷ [])) ≡ None → HasRoom inner block o
      go true e y f u v = one_room (inputs_in inner) o e u
      go false e true f u v = one_room (outputs_in inner) o f v
      go false e false f u v = scalar_room o e f
