-- What the rules say of the tilers of one repetition.
use Rattle.std.proofs.Common.{◌≡◌, ℕ, true, false, List, [], ◌++◌, Some, is_some, sym, ◌∙◌, ap, arith, ◌⊎◌, inl, inr}
use Rattle.std.specs.List.{IsAmong, count_by}
use Rattle.aol_shape.specs.Lists.{same}
use Rattle.aol_expr_tree.specs.declared.port.Port.{Port}
use Rattle.aol_link.specs.declared.link.Interlink.{Interlink}
use Rattle.aol_model_types.specs.declared.place.Key.TheVariants.{KOut}
use Rattle.aol_model_types.specs.declared.place.PlaceStep.{PlaceStep}
use Rattle.aol_model_types.specs.declared.task.Repeated.{Repeated}
use Rattle.aol_model_types.specs.declared.task.Task.{Task}
use Rattle.aol_model_types.specs.declared.task.TilerOn.{TilerOn}
use Rattle.aol_model_types.specs.Places.{to_key}
use Rattle.aol_model_types.specs.Rules.{task_named, inputs_of, outputs_of, port_shape, fits_in, is_tiled}
use Rattle.aol_flat.specs.Home.{tiler_at}
use Rattle.aol_flat.proofs.Checked.{HoldsOfRepeated, member, tiled_checks}
use Rattle.aol_flat.proofs.Names.{both-true, same-equal}
use Rattle.aol_flat.proofs.Once.{counted_found, found_among}
use Rattle.aol_flat.proofs.Sites.{find-passes}
use Rattle.aol_flat.proofs.TilerRules.{JoinsPorts, sides_of, tiled, fed_once, only_tiler}
use Rattle.aol_change.specs.Blocks.{inputs_in, outputs_in}
use Rattle.aol_paving.proofs.Members.{any_there}

-- a repetition over an inner task with these inputs and outputs, as far as its tilers go
pub record IsLevel (t : Repeated) (ins outs : List Port) : Type 0 where
  pub sides : (o : TilerOn) → IsAmong t.tilers o → JoinsPorts t.ins ins o ⊎ JoinsPorts t.outs outs o
  pub only : (o : TilerOn) → IsAmong t.tilers o → tiler_at t o.inner ≡ Some o
  pub fits : (o : TilerOn) → IsAmong t.tilers o → fits_in o.tiler (port_shape (t.ins ++ t.outs) o.outer) t.space (port_shape (ins ++ outs) o.inner) ≡ true
  pub fed : (port : List ℕ) → is_some (port_shape ins port) ≡ true → (o : TilerOn) × (tiler_at t port ≡ Some o)
  pub tiled : (y : Port) → IsAmong t.outs y → (o : TilerOn) × IsAmong t.tilers o × (o.outer ≡ y.name)
  pub apart : (port : List ℕ) → is_some (port_shape t.outs port) ≡ true → is_some (port_shape t.ins port) ≡ false

pub level_of : (before : List Task) (place : List PlaceStep) (t : Repeated) (w : Task) → HoldsOfRepeated before place t → ((port : List ℕ) → is_some (port_shape t.outs port) ≡ true → is_some (port_shape t.ins port) ≡ false)
    → t.links ≡ [] → task_named before t.task ≡ Some w → IsLevel t (inputs_of w) (outputs_of w)
level_of before place t w holds apart plain found =
    let ins : inputs_in (task_named before t.task) ≡ inputs_of w = ap inputs_in found in
    let outs : outputs_in (task_named before t.task) ≡ outputs_of w = ap outputs_in found in
    record {
      sides = λ o a. moved ins outs o (sides_of before t o (tiled before place t o holds a));
      only = λ o a. only_tiler before place t o holds a;
      fits = λ o a.
          ap (λ ps. fits_in o.tiler (port_shape (t.ins ++ t.outs) o.outer) t.space (port_shape (ps ++ outputs_of w) o.inner)) (sym ins)
          ∙ (ap (λ ps. fits_in o.tiler (port_shape (t.ins ++ t.outs) o.outer) t.space (port_shape (inputs_in (task_named before t.task) ++ ps) o.inner)) (sym outs) ∙ (tiled before place t o holds a).fits);
      fed = λ port known.
          let one = fed_once before place t port holds (ap (λ ps. is_some (port_shape ps port)) ins ∙ known) in
          let none : count_by (λ (l : Interlink). same l.to port) t.links ≡ 0 = ap (count_by (λ (l : Interlink). same l.to port)) plain in
          counted_found (λ (o : TilerOn). same o.inner port) t.tilers (omega (arith, one, none));
      tiled = λ y a.
          let r = member (tiled_checks t) (to_key place KOut) t.outs y holds.tiled a in
          let o = any_there (λ (x : TilerOn). same x.outer y.name) t.tilers (both-true (is_tiled t y) true r.holds).0 in
          (o.0, o.1, same-equal o.0.outer y.name o.2);
      apart = apart;
    }
  where
    moved : inputs_in (task_named before t.task) ≡ inputs_of w → outputs_in (task_named before t.task) ≡ outputs_of w → (o : TilerOn)
        → JoinsPorts t.ins (inputs_in (task_named before t.task)) o ⊎ JoinsPorts t.outs (outputs_in (task_named before t.task)) o → JoinsPorts t.ins (inputs_of w) o ⊎ JoinsPorts t.outs (outputs_of w) o
    moved ins outs o (inl j) = inl (record { outside = j.outside; inside = ap (λ ps. is_some (port_shape ps o.inner)) (sym ins) ∙ j.inside })
    moved ins outs o (inr j) = inr (record { outside = j.outside; inside = ap (λ ps. is_some (port_shape ps o.inner)) (sym outs) ∙ j.inside })

-- the inner port of the tiler that is found has the name that was looked for
pub found_inner : (t : Repeated) (port : List ℕ) (o : TilerOn) → tiler_at t port ≡ Some o → o.inner ≡ port
found_inner t port o h = same-equal o.inner port (find-passes (λ (e : TilerOn). same e.inner port) t.tilers o h)

pub found_tiler : (t : Repeated) (port : List ℕ) (o : TilerOn) → tiler_at t port ≡ Some o → IsAmong t.tilers o
found_tiler t port o h = found_among (λ (e : TilerOn). same e.inner port) t.tilers o h
