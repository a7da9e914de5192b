-- Members of a target collected from a list.
use Rattle.std.proofs.Common.{◌≡◌, ℕ, ◌+◌, ◌<◌, List, [], ◌∷◌, ◌++◌, length, take, flat_map, get_or, true, false, cond, ◌&&◌, slice_get, Option, Some, None, option_map, unwrap_or, sym, ◌∙◌, ap, subst}
use Rattle.std.specs.List.{AllByRecursion, enumerate_from}
use Rattle.std.proofs.lemmas.List.{append-nil, map-append}
use Rattle.std.proofs.lemmas.Grind.{flat_map-append}
use Rattle.aol_shape.specs.Lists.{same}
use Rattle.aol_expr_tree.specs.declared.port.Port.{Port}
use Rattle.aol_model_types.specs.declared.document.Model.{Model}
use Rattle.aol_model_types.specs.declared.task.Compound.{Compound}
use Rattle.aol_model_types.specs.declared.task.Copied.{Copied}
use Rattle.aol_model_types.specs.declared.task.Repeated.{Repeated}
use Rattle.aol_model_types.specs.declared.task.Task.{Task}
use Rattle.aol_model_types.specs.declared.task.TilerOn.{TilerOn}
use Rattle.aol_model_types.specs.Rules.{task_named, outputs_of, port_shape, same_part}
use Rattle.aol_flat.specs.Targets.{writings_of, tiler_writings, reshape_writings}
use Rattle.aol_flat.proofs.Among.{among_get}
use Rattle.aol_flat.proofs.Visiting.{numbered_more}
use Rattle.aol_assign.specs.declared.pairs.Member.{Member}
use Rattle.aol_assign.specs.Pairs.{FitsIn, member_writings, all_writings}
use Rattle.aol_assign.specs.declared.targets.Numbered.{Numbered}
use Rattle.aol_assign.specs.Found.{TilersFit, AreInto, numbered}

-- one more of a list of which all are so
pub all_more : {X : Type 0} (P : X → Type 0) (xs : List X) (x : X) → AllByRecursion P xs → P x → AllByRecursion P (xs ++ x ∷ [])
all_more P [] x all p = (p, tt)
all_more P (y ∷ xs) x all p = (all.0, all_more P xs x all.1 p)

-- one more member's writings
pub writings_more : (array : List ℕ) (bs : List Member) (b : Member) → all_writings array (bs ++ b ∷ []) ≡ all_writings array bs ++ member_writings array b
writings_more array bs b = flat_map-append (member_writings array) bs (b ∷ []) ∙ ap (λ ys. all_writings array bs ++ ys) (append-nil (member_writings array b))

-- the members are those of so many tilers on an output
pub record HasTilers (t : Repeated) (inner : Task) (y : Port) (i : ℕ) (bs : List Member) : Type 0 where
  pub same : (m : Model) → task_named m.tasks t.task ≡ Some inner → all_writings y.shape bs ≡ flat_map (tiler_writings m t y) (enumerate_from 0 (take i t.tilers))
  pub fit : AllByRecursion (FitsIn y.shape) bs

module _ (t : Repeated) (inner : Task) (y : Port) (fits : TilersFit t inner y) (i : ℕ) (o : TilerOn) (lt : i < length t.tilers) (is : o ≡ get_or t.tilers i o) (bs : List Member) (so_far : HasTilers t inner y i bs) where
  shape_there : (m : Model) → task_named m.tasks t.task ≡ Some inner → (pattern : List ℕ) → port_shape (outputs_of inner) o.inner ≡ Some pattern
      → unwrap_or (port_shape (unwrap_or (option_map outputs_of (task_named m.tasks t.task)) []) o.inner) [] ≡ pattern
  shape_there m named pattern h =
      ap (λ u. unwrap_or (port_shape (unwrap_or (option_map outputs_of u) []) o.inner) []) named ∙ ap (λ s. unwrap_or s []) h

  -- a tiler on the output
  tiler_taken : same o.outer y.name ≡ true → (b : Member) → b.item ≡ i → b.tiler.now ≡ o.tiler → b.space.now ≡ t.space → port_shape (outputs_of inner) o.inner ≡ Some b.pattern.now → HasTilers t inner y (i + 1) (bs ++ b ∷ [])
  tiler_taken on b item tiler space pattern =
      let f = fits i o (among_get t.tilers i o lt is) on in
      let one : Some b.pattern.now ≡ Some f.pattern = sym pattern ∙ f.there in
      let shape : b.pattern.now ≡ f.pattern = cc in
      record {
        same = λ m named.
            let here : tiler_writings m t y (i, o) ≡ member_writings y.shape b =
            ap (λ c. cond c (writings_of i o.tiler y.shape t.space (unwrap_or (port_shape (unwrap_or (option_map outputs_of (task_named m.tasks t.task)) []) o.inner) [])) []) on
            ∙ (ap (writings_of i o.tiler y.shape t.space) (shape_there m named b.pattern.now pattern)
            ∙ (ap (λ k. writings_of k o.tiler y.shape t.space b.pattern.now) (sym item)
            ∙ (ap (λ x. writings_of b.item x y.shape t.space b.pattern.now) (sym tiler)
            ∙ ap (λ s. writings_of b.item b.tiler.now y.shape s b.pattern.now) (sym space)))) in
            writings_more y.shape bs b
            ∙ (ap (λ ws. ws ++ member_writings y.shape b) (so_far.same m named)
            ∙ (ap (λ ws. flat_map (tiler_writings m t y) (enumerate_from 0 (take i t.tilers)) ++ ws) (sym here)
            ∙ sym (numbered_more (tiler_writings m t y) t.tilers i o lt is)));
        fit = all_more (FitsIn y.shape) bs b so_far.fit (record {
          fits = simp (tiler, space, shape) f.fits;
          array_shape = f.array_shape;
          space_shape = rw space f.space_shape;
          pattern_shape = rw shape f.pattern_shape;
        });
      }

  pub tiler_pushed : (b : Member) (new pushed : List Member) → new ≡ pushed → pushed ≡ bs ++ b ∷ [] → same o.outer y.name ≡ true → b.item ≡ i → b.tiler.now ≡ o.tiler → b.space.now ≡ t.space
      → port_shape (outputs_of inner) o.inner ≡ Some b.pattern.now → HasTilers t inner y (i + 1) new
  tiler_pushed b new pushed e f on item tiler space pattern =
      let P : List Member → Type 0 = λ cs. HasTilers t inner y (i + 1) cs in
      subst P (sym (e ∙ f)) (tiler_taken on b item tiler space pattern)

  -- one on another
  pub tiler_left : same o.outer y.name ≡ false → HasTilers t inner y (i + 1) bs
  tiler_left off = record {
    same = λ m named.
        so_far.same m named
        ∙ (sym (append-nil (flat_map (tiler_writings m t y) (enumerate_from 0 (take i t.tilers))))
        ∙ (ap (λ c. flat_map (tiler_writings m t y) (enumerate_from 0 (take i t.tilers))
        ++ cond c (writings_of i o.tiler y.shape t.space (unwrap_or (port_shape (unwrap_or (option_map outputs_of (task_named m.tasks t.task)) []) o.inner) [])) []) (sym off)
        ∙ sym (numbered_more (tiler_writings m t y) t.tilers i o lt is)));
    fit = so_far.fit;
  }

  -- one without an inner output is none
  pub tiler_gone : same o.outer y.name ≡ true → port_shape (outputs_of inner) o.inner ≡ None → HasTilers t inner y (i + 1) bs
  tiler_gone on none = let f = fits i o (among_get t.tilers i o lt is) on in let no : Some f.pattern ≡ None = sym f.there ∙ none in cc

-- the reshapes are those of so many that are into a part
pub record HasReshapes (c : Compound) (part : Option (List ℕ)) (i : ℕ) (vs : List Numbered) : Type 0 where
  pub same : (u : Port) → flat_map (reshape_writings part u) (numbered vs) ≡ flat_map (reshape_writings part u) (enumerate_from 0 (take i c.reshapes))
  pub into : AreInto c part vs

module _ (c : Compound) (part : Option (List ℕ)) (i : ℕ) (r : Copied) (lt : i < length c.reshapes) (is : r ≡ get_or c.reshapes i r) (vs : List Numbered) (so_far : HasReshapes c part i vs) where
  numbered_one : (v : Numbered) → numbered (vs ++ v ∷ []) ≡ numbered vs ++ (v.item, v.reshape.now) ∷ []
  numbered_one v = map-append (λ (w : Numbered). (w.item, w.reshape.now)) vs (v ∷ [])

  -- one into the part
  pub reshape_pushed : (v : Numbered) (new pushed : List Numbered) → new ≡ pushed → pushed ≡ vs ++ v ∷ [] → same_part r.to.part part ≡ true → v.item ≡ i → v.reshape.now ≡ r → HasReshapes c part (i + 1) new
  reshape_pushed v new pushed e f at item it =
      let P : List Numbered → Type 0 = λ ws. HasReshapes c part (i + 1) ws in
      let Q : Copied → Type 0 = λ x. (slice_get c.reshapes v.item ≡ Some x) × (same_part x.to.part part ≡ true) in
      subst P (sym (e ∙ f)) (record {
        same = λ u.
            let f = reshape_writings part u in
            ap (flat_map f) (numbered_one v)
            ∙ (flat_map-append f (numbered vs) ((v.item, v.reshape.now) ∷ [])
            ∙ (ap (λ ys. flat_map f (numbered vs) ++ ys) (append-nil (f (v.item, v.reshape.now)))
            ∙ (ap (λ ys. ys ++ f (v.item, v.reshape.now)) (so_far.same u)
            ∙ (ap (λ k. flat_map f (enumerate_from 0 (take i c.reshapes)) ++ f (k, v.reshape.now)) item
            ∙ (ap (λ x. flat_map f (enumerate_from 0 (take i c.reshapes)) ++ f (i, x)) it
            ∙ sym (numbered_more f c.reshapes i r lt is))))));
        into = all_more (λ (w : Numbered). (slice_get c.reshapes w.item ≡ Some w.reshape.now) × (same_part w.reshape.now.to.part part ≡ true)) vs v so_far.into
            (subst Q (sym it) (ap (slice_get c.reshapes) item ∙ among_get c.reshapes i r lt is, at));
      })

  -- one into another
  pub reshape_left : (new : List Numbered) → new ≡ vs → same_part r.to.part part ≡ false → HasReshapes c part (i + 1) new
  reshape_left new e off =
      let P : List Numbered → Type 0 = λ ws. HasReshapes c part (i + 1) ws in
      subst P (sym e) (record {
        same = λ u.
            let f = reshape_writings part u in
            let none : f (i, r) ≡ [] = ap (λ b. cond (b && same r.to.port u.name) (writings_of i r.by.target u.shape r.by.space r.by.pattern) []) off in
            so_far.same u
            ∙ (sym (append-nil (flat_map f (enumerate_from 0 (take i c.reshapes))))
            ∙ (ap (λ ys. flat_map f (enumerate_from 0 (take i c.reshapes)) ++ ys) (sym none)
            ∙ sym (numbered_more f c.reshapes i r lt is)));
        into = so_far.into;
      })
