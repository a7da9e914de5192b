-- The steps from the changed compound down to its two parts, and so all nodes of the fused model.
use Rattle.std.proofs.Common.{◌≡◌, ℕ, zero, suc, ◌+◌, Bool, true, false, cond, ◌&&◌, ◌||◌, ◌==◌, List, [], ◌∷◌, ◌++◌, length, take, flat_map, Some, None, option_and_then, slice_get, sym, ◌∙◌, ap, refl, arith, subst, append_assoc, ◌⊎◌, inl, inr}
use Rattle.std.specs.List.{IsAmong}
use Rattle.std.proofs.lemmas.Bool.{eqb-true, eq-eqb}
use Rattle.std.proofs.lemmas.List.{append-nil}
use Rattle.std.proofs.lemmas.Option.{get_or_from_slice_get}
use Rattle.aol_shape.specs.Lists.{same}
use Rattle.aol_shape.specs.Shape.{IsPointOf, IsShape}
use Rattle.aol_tiler.specs.Tiler.{address_point, fits}
use Rattle.aol_model_types.specs.declared.document.Model.{Model}
use Rattle.aol_model_types.specs.declared.task.Compound.{Compound}
use Rattle.aol_model_types.specs.declared.task.Part.{Part}
use Rattle.aol_model_types.specs.declared.task.Repeated.{Repeated}
use Rattle.aol_model_types.specs.declared.task.Task.{Task}
use Rattle.aol_model_types.specs.declared.task.Task.TheVariants as tasks
use Rattle.aol_model_types.specs.Rules.{task_name, task_named, part_named}
use Rattle.aol_flat.specs.Node.{Branch, ToPart, ToBody, Node, space_around, place_on, task_under, node_task}
use Rattle.aol_flat.specs.Place.{Place, IntoPart, IntoRepetition}
use Rattle.aol_flat.specs.Tasks.{main_task, part_number}
use Rattle.aol_flat.proofs.Among.{map_among, get_among}
use Rattle.aol_flat.proofs.Find.{and_then_some, found_name}
use Rattle.aol_flat.proofs.Inside.{point_split, point_both, place_in_body}
use Rattle.aol_flat.proofs.LinkRules.{part_at}
use Rattle.aol_flat.proofs.Names.{same-self, same-equal}
use Rattle.aol_flat.proofs.NodeTasks.{HasSpaces, spaces_up}
use Rattle.aol_flat.proofs.Once.{there}
use Rattle.aol_flat.proofs.Shapes.{address_inside}
use Rattle.aol_flat.proofs.Sites.{find-passes}
use Rattle.aol_change.specs.Change.{is_named, name_at, old_place}
use Rattle.aol_change.specs.Unblocked.{entries_before}
use Rattle.aol_change.proofs.Below.{own_name, node_named, before_named, before_other}
use Rattle.aol_change.proofs.KeptTasks.{main_there}
use Rattle.aol_fusion_parts.specs.Changed.{first_goes, changed_part}
use Rattle.aol_fusion_parts.specs.Fuse.{Fusing}
use Rattle.aol_fusion_parts.specs.Joined.{task_of_part}
use Rattle.aol_fusion_parts.specs.Made.{fused_names}
use Rattle.aol_fusion_rules.proofs.NewNumbers.{other_name}
use Rattle.aol_fusion_laws.proofs.Fresh.{neither_of}
use Rattle.aol_fusion_rules.proofs.Sound.{IsFusing, names_of_fusion, found_first, found_second}
use Rattle.aol_fusion_parts.specs.declared.ports.FusedNames.{FusedNames}
use Rattle.aol_fusion_parts.proofs.Placing.{tiler_fits_spaces, task_within}
use Rattle.aol_paving.proofs.NewLeaves.{Enough}
use Rattle.aol_fusion.specs.Map.{origins_from, old_part, unfuse, unfuse_block, unfuse_once}
use Rattle.aol_fusion.specs.Numbers.{leaves_of, before_part, part_leaves, first_leaf}
use Rattle.aol_fusion.proofs.Comes.{part_leaf, body_leaf, now, compound_number, low_apart, lower, under_compound, is_compound, now_other, now_is, name_there, part_kept, body_kept}
use Rattle.aol_fusion.proofs.Lookups.{IsOldName, old_name_of, inner_there, next, origin, own_number, before, rest, place, split, holds, whole_of, pair_of, block_of, once_of, changed_of, changed_task, block_task, once_task, pair_task, whole_task, block_found, once_found, pair_found, whole_found, first_inner, second_inner}
use Rattle.aol_fusion.proofs.NodeComes.{AsOld, InBlock, AtWhole, Comes, as_old, in_block, at_whole, at_pair, at_first, at_second, root, under_part, as_old_part, in_block_part, as_old_body, in_block_body}

-- what stands in the place of a part, by the part
part_cases : (args : _) (whole : List ℕ) (goes : Bool) (x y : Part) → IsAmong (changed_part args whole goes x) y
    → ((same x.name args.second ≡ true) × (y ≡ record { name = x.name; task = whole })) ⊎ ((same x.name args.second ≡ false) × (y ≡ x))
part_cases args whole goes x y a = go (same x.name args.second) refl (same x.name args.first && goes) a
  where
    go : (b : Bool) → same x.name args.second ≡ b → (d : Bool) → IsAmong (cond b (record { name = x.name; task = whole } ∷ []) (cond d [] (x ∷ []))) y
        → ((same x.name args.second ≡ true) × (y ≡ record { name = x.name; task = whole })) ⊎ ((same x.name args.second ≡ false) × (y ≡ x))
    go true e d (zero, k) = inl (e, k.1)
    go true e d (suc i, k) = absurd (omega (arith, k.0))
    go false e true k = absurd (omega (arith, k.1.0))
    go false e false (zero, k) = inr (e, k.1)
    go false e false (suc i, k) = absurd (omega (arith, k.0))

module _ (f : Fusing) (h : IsFusing f) where
  abbrev m : Model
  m = f.model

  abbrev new : Model
  new = next f h

  abbrev c : Compound
  c = f.compound

  abbrev n : FusedNames
  n = fused_names f.model f.compound.name

  abbrev back_to : Place → Place
  back_to = old_place (unfuse f) new

  -- ---- names

  own_old : IsOldName f h c.name
  own_old = old_name_of f h c.name (tasks.Compound c) h.compound

  -- the new names differ
  record AreApart : Type 0 where
    once_block : same n.once n.block ≡ false
    pair_block : same n.pair n.block ≡ false
    pair_once : same n.pair n.once ≡ false
    whole_block : same n.whole n.block ≡ false
    whole_once : same n.whole n.once ≡ false

  apart : AreApart
  apart =
      let names = names_of_fusion f h in
      let a = neither_of (same n.block n.once) false names.once.apart in
      let b = neither_of (same n.block n.pair) (same n.once n.pair || false) names.pair.apart in
      let d = neither_of (same n.once n.pair) false b.1 in
      let e = neither_of (same n.block n.whole) (same n.once n.whole || (same n.pair n.whole || false)) names.whole.apart in
      let g = neither_of (same n.once n.whole) (same n.pair n.whole || false) e.1 in
      record {
        once_block = other_name n.block n.once a.0;
        pair_block = other_name n.block n.pair b.0;
        pair_once = other_name n.once n.pair d.0;
        whole_block = other_name n.block n.whole e.0;
        whole_once = other_name n.once n.whole g.0;
      }

  -- ---- the two parts

  record PartAt (part : List ℕ) (t : Repeated) : Type 0 where
    part_is : Part
    at : slice_get c.parts (part_number c part) ≡ Some part_is
    named : part_is.name ≡ part
    leads : task_named m.tasks part_is.task ≡ Some (tasks.Repeated t)

  at_part : (part : List ℕ) (t : Repeated) → task_of_part m.tasks c part ≡ Some (tasks.Repeated t) → PartAt part t
  at_part part t e =
      let p = and_then_some (λ (q : Part). task_named m.tasks q.task) (part_named c part) (tasks.Repeated t) e in
      record { part_is = p.0; at = part_at c part p.0 p.1; named = same-equal p.0.name part (find-passes (λ (q : Part). same q.name part) c.parts p.0 p.1); leads = p.2 }

  first_at : PartAt f.args.first f.one
  first_at = at_part f.args.first f.one h.one

  second_at : PartAt f.args.second f.two
  second_at = at_part f.args.second f.two h.two

  -- ---- a part of the changed compound

  changed_at : (up old_up : Node) → AsOld f h up old_up (tasks.Compound c) → node_task new up ≡ Some (changed_task f h)
  changed_at up old_up o = o.old.now_at ∙ ap (λ b. Some (cond b (changed_task f h) (tasks.Compound c))) (same-self c.name)

  leaves_under : (k : ℕ) → part_leaves f (Some (changed_task f h)) k ≡ cond (old_part f k == part_number c f.args.second) 0 (before_part f (old_part f k))
  leaves_under k =
      ap (λ b. cond b (cond (old_part f k == part_number c f.args.second) 0 (before_part f (old_part f k)))
      (cond (same c.name n.pair) (before_part f (part_number c (cond (k == 0) f.args.first f.args.second))) (leaves_of m (take k (changed_of f h).parts)))) (same-self c.name)

  compound_step : (up old_up : Node) (k : ℕ) (t' : Task) → AsOld f h up old_up (tasks.Compound c) → node_task new (ToPart k ∷ up) ≡ Some t' → Comes f h (ToPart k ∷ up)
  compound_step up old_up k t' o e =
      let here = changed_at up old_up o in
      let y = and_then_some (λ (q : Part). task_named new.tasks q.task) (slice_get (flat_map (changed_part f.args n.whole (first_goes f.args c)) c.parts) k) t' (sym (ap (option_and_then (λ t. task_under new t (ToPart k))) here) ∙ e) in
      let r = origin (changed_part f.args n.whole (first_goes f.args c)) c.parts k y.0 y.1 in
      by_part here y.0 y.1 y.2 r.number r.old r.at (get_or_from_slice_get (origins_from (changed_part f.args n.whole (first_goes f.args c)) 0 c.parts) k r.number 0 r.listed) (part_cases f.args n.whole (first_goes f.args c) r.old y.0 r.among)
    where
      by_part : node_task new up ≡ Some (changed_task f h) → (y : Part) → slice_get (flat_map (changed_part f.args n.whole (first_goes f.args c)) c.parts) k ≡ Some y → task_named new.tasks y.task ≡ Some t' → (j : ℕ) (x : Part)
          → slice_get c.parts j ≡ Some x → old_part f k ≡ j → ((same x.name f.args.second ≡ true) × (y ≡ record { name = x.name; task = n.whole })) ⊎ ((same x.name f.args.second ≡ false) × (y ≡ x)) → Comes f h (ToPart k ∷ up)
      by_part here y listed leads j x at is (inl s) =
          let number : part_number c f.args.second ≡ j = ap (part_number c) (sym (same-equal x.name f.args.second s.0)) ∙ own_number (before f h) (place f h) c j x (holds f h) at in
          let down : node_task new (ToPart k ∷ up) ≡ Some (whole_task f h) =
          ap (option_and_then (λ t. task_under new t (ToPart k))) here
          ∙ (ap (option_and_then (λ (q : Part). task_named new.tasks q.task)) listed ∙ (ap (λ (q : Part). task_named new.tasks q.task) s.1 ∙ whole_found f h)) in
          at_whole (record { up = up; old_up = old_up; above = o; number = k; part = is ∙ sym number; is = refl; task = down })
      by_part here y listed leads j x at is (inr s) =
          let v = inner_there m h.sound.shapes c.name x.task (tasks.Compound c) h.compound (map_among (λ (q : Part). q.task) c.parts x (get_among c.parts j x at)) in
          let down : node_task new (ToPart k ∷ up) ≡ Some (now f h v.0) =
          ap (option_and_then (λ t. task_under new t (ToPart k))) here
          ∙ (ap (option_and_then (λ (q : Part). task_named new.tasks q.task)) listed ∙ (ap (λ (q : Part). task_named new.tasks q.task) s.1 ∙ now_is f h x.task v.0 v.1)) in
          let apart_numbers : (old_part f k == part_number c f.args.second) ≡ false = not_second (old_part f k == part_number c f.args.second) refl in
          let first : first_leaf f new (ToPart k ∷ up) ≡ first_leaf f new up + leaves_of m (take j c.parts) =
          ap (λ t. first_leaf f new up + part_leaves f t k) here
          ∙ ap (λ i. first_leaf f new up + i) (leaves_under k ∙ (ap (λ b. cond b 0 (before_part f (old_part f k))) apart_numbers ∙ ap (before_part f) is)) in
          as_old (ToPart j ∷ old_up) v.0
          (record {
            old = record {
              at = under_part f h old_up c j x v.0 o.old.at at v.1;
              now_at = down;
              spaces = o.old.spaces;
              new_spaces = o.old.new_spaces;
              leaves = part_leaf f h up old_up c j k x v.0 h.compound o.old.leaves at v.1 (ToPart k ∷ up) first;
            };
            around = o.around;
            none = before_other new n.block (ToPart k) up (changed_task f h) here (other_name n.block c.name own_old.block) ∙ o.none;
            from = λ at inside.
                (let there_at : IsPointOf (space_around up) at = subst (λ z. IsPointOf z at) (sym o.around) inside in
                let name : is_named (name_at new (place_on up at)) c.name ≡ true = ap (λ z. is_named z c.name) (name_there f h up (changed_task f h) at o.old.new_spaces here there_at) ∙ same-self c.name in
                ap (λ b. IntoPart (cond b (old_part f k) k) ∷ back_to (place_on up at)) name ∙ (ap (λ i. IntoPart i ∷ back_to (place_on up at)) is ∙ ap (λ z. IntoPart j ∷ z) (o.from at inside)));
          })
        where
          not_second : (b : Bool) → (old_part f k == part_number c f.args.second) ≡ b → (old_part f k == part_number c f.args.second) ≡ false
          not_second false g = g
          not_second true g =
              let same_place : j ≡ part_number c f.args.second = sym is ∙ eqb-true (old_part f k) (part_number c f.args.second) g in
              let both : Some x ≡ Some second_at.part_is = sym at ∙ (ap (slice_get c.parts) same_place ∙ second_at.at) in
              let equal : x ≡ second_at.part_is = cc in
              let clash : true ≡ false = sym (same-self f.args.second) ∙ (ap (λ z. same z f.args.second) (sym (ap (λ (q : Part). q.name) equal ∙ second_at.named)) ∙ s.0) in
              absurd (cc)

  -- ---- below the fused repetition

  -- its place in the old model
  whole_place : (up : Node) (q : AtWhole f h up) (a : List ℕ) → IsPointOf (space_around q.old_up) a → back_to (place_on up a) ≡ IntoPart (part_number c f.args.second) ∷ place_on q.old_up a
  whole_place up q a inside =
      let there_at : IsPointOf (space_around q.up) a = subst (λ z. IsPointOf z a) (sym q.above.around) inside in
      let here = changed_at q.up q.old_up q.above in
      let name : is_named (name_at new (place_on q.up a)) c.name ≡ true = ap (λ z. is_named z c.name) (name_there f h q.up (changed_task f h) a q.above.old.new_spaces here there_at) ∙ same-self c.name in
      ap (λ z. back_to (place_on z a)) q.is
      ∙ (ap (λ b. IntoPart (cond b (old_part f q.number) q.number) ∷ back_to (place_on q.up a)) name
      ∙ (ap (λ i. IntoPart i ∷ back_to (place_on q.up a)) q.part ∙ ap (λ z. IntoPart (part_number c f.args.second) ∷ z) (q.above.from a inside)))

  whole_around : (up : Node) (q : AtWhole f h up) → space_around up ≡ space_around q.old_up
  whole_around up q = ap space_around q.is ∙ q.above.around

  -- of the pair
  pair_place : (up : Node) (q : AtWhole f h up) (a o : List ℕ) → HasSpaces new up → IsPointOf (space_around q.old_up) a → IsPointOf f.two.space o
      → back_to (place_on (ToBody f.two.space ∷ up) (a ++ o)) ≡ IntoRepetition o ∷ IntoPart (part_number c f.args.second) ∷ place_on q.old_up a
  pair_place up q a o spaces ha ho =
      let there_at : IsPointOf (space_around up) a = subst (λ z. IsPointOf z a) (sym (whole_around up q)) ha in
      let name = name_there f h up (whole_task f h) a spaces q.task there_at in
      ap back_to (place_in_body f.two.space up a o ho)
      ∙ (body_kept f h (name_at new (place_on up a)) o (back_to (place_on up a)) (ap (λ z. is_named z n.block) name ∙ apart.whole_block) (ap (λ z. is_named z n.once) name ∙ apart.whole_once)
      ∙ ap (λ z. IntoRepetition o ∷ z) (whole_place up q a ha))

  pair_spaces : (up : Node) (q : AtWhole f h up) → HasSpaces new up → HasSpaces new (ToBody f.two.space ∷ up)
  pair_spaces up q spaces = ((whole_of f h, q.task, refl), spaces)

  -- of its parts
  inside_pair : (up : Node) (q : AtWhole f h up) (k : ℕ) (a o : List ℕ) → HasSpaces new up → node_task new (ToBody f.two.space ∷ up) ≡ Some (pair_task f h) → IsPointOf (space_around q.old_up) a → IsPointOf f.two.space o
      → back_to (place_on (ToPart k ∷ ToBody f.two.space ∷ up) (a ++ o)) ≡ IntoPart k ∷ IntoRepetition o ∷ IntoPart (part_number c f.args.second) ∷ place_on q.old_up a
  inside_pair up q k a o spaces e ha ho =
      let there_at : IsPointOf (space_around up ++ f.two.space) (a ++ o) = point_both (space_around up) f.two.space a o (subst (λ z. IsPointOf z a) (sym (whole_around up q)) ha) ho in
      let name : is_named (name_at new (place_on (ToBody f.two.space ∷ up) (a ++ o))) c.name ≡ false =
      ap (λ z. is_named z c.name) (name_there f h (ToBody f.two.space ∷ up) (pair_task f h) (a ++ o) (pair_spaces up q spaces) e there_at) ∙ own_old.pair in
      part_kept f h (name_at new (place_on (ToBody f.two.space ∷ up) (a ++ o))) k (back_to (place_on (ToBody f.two.space ∷ up) (a ++ o))) name ∙ ap (λ z. IntoPart k ∷ z) (pair_place up q a o spaces ha ho)

  whole_step : (up : Node) (b : Branch) (t' : Task) → AtWhole f h up → HasSpaces new (b ∷ up) → node_task new (b ∷ up) ≡ Some t' → Comes f h (b ∷ up)
  whole_step up (ToPart k) t' q spaces e = let clash : None ≡ Some t' = sym (ap (option_and_then (λ t. task_under new t (ToPart k))) q.task) ∙ e in absurd (cc)
  whole_step up (ToBody s) t' q spaces e =
      let both : Some (tasks.Repeated spaces.0.0) ≡ Some (whole_task f h) = sym spaces.0.1 ∙ q.task in
      let space : s ≡ f.two.space = spaces.0.2 ∙ space_of spaces.0.0 both in
      at_pair up q spaces.1 (ap (λ z. ToBody z ∷ up) space) (ap (option_and_then (λ t. task_under new t (ToBody s))) q.task ∙ pair_found f h)
    where
      space_of : (r : Repeated) → Some (tasks.Repeated r) ≡ Some (whole_task f h) → r.space ≡ f.two.space
      space_of r g = let is : r ≡ whole_of f h = cc in ap (λ (z : Repeated). z.space) is

  pair_step : (up : Node) (b : Branch) (t' : Task) → AtWhole f h up → HasSpaces new up → node_task new (ToBody f.two.space ∷ up) ≡ Some (pair_task f h) → node_task new (b ∷ ToBody f.two.space ∷ up) ≡ Some t' → Comes f h (b ∷ ToBody f.two.space ∷ up)
  pair_step up (ToBody s) t' q spaces here e = let clash : None ≡ Some t' = sym (ap (option_and_then (λ t. task_under new t (ToBody s))) here) ∙ e in absurd (cc)
  pair_step up (ToPart zero) t' q spaces here e = at_first up q spaces refl (ap (option_and_then (λ t. task_under new t (ToPart 0))) here ∙ block_found f h)
  pair_step up (ToPart (suc zero)) t' q spaces here e = at_second up q spaces refl (ap (option_and_then (λ t. task_under new t (ToPart 1))) here ∙ once_found f h)
  pair_step up (ToPart (suc (suc k))) t' q spaces here e = let clash : None ≡ Some t' = sym (ap (option_and_then (λ t. task_under new t (ToPart (suc (suc k))))) here) ∙ e in absurd (cc)

  -- ---- leaves of the two parts

  pair_leaves : (k : ℕ) → part_leaves f (Some (pair_task f h)) k ≡ before_part f (part_number c (cond (k == 0) f.args.first f.args.second))
  pair_leaves k =
      ap (λ b. cond b (cond (old_part f k == part_number c f.args.second) 0 (before_part f (old_part f k)))
      (cond (same n.pair n.pair) (before_part f (part_number c (cond (k == 0) f.args.first f.args.second))) (leaves_of m (take k (pair_of f h).parts)))) own_old.pair
      ∙ ap (λ b. cond b (before_part f (part_number c (cond (k == 0) f.args.first f.args.second))) (leaves_of m (take k (pair_of f h).parts))) (same-self n.pair)

  first_whole : (up : Node) (q : AtWhole f h up) → first_leaf f new up ≡ first_leaf f new q.up
  first_whole up q =
      let here = changed_at q.up q.old_up q.above in
      let none : part_leaves f (node_task new q.up) q.number ≡ 0 =
      ap (λ t. part_leaves f t q.number) here ∙ (leaves_under q.number ∙ ap (λ b. cond b 0 (before_part f (old_part f q.number))) (eq-eqb (old_part f q.number) (part_number c f.args.second) q.part)) in
      ap (first_leaf f new) q.is ∙ (ap (λ i. first_leaf f new q.up + i) none ∙ plus_none (first_leaf f new q.up))
    where
      plus_none : (k : ℕ) → k + 0 ≡ k
      plus_none k = omega arith

  first_inside : (up : Node) (q : AtWhole f h up) (k : ℕ) → node_task new (ToBody f.two.space ∷ up) ≡ Some (pair_task f h)
      → first_leaf f new (ToPart k ∷ ToBody f.two.space ∷ up) ≡ first_leaf f new q.up + leaves_of m (take (part_number c (cond (k == 0) f.args.first f.args.second)) c.parts)
  first_inside up q k here = ap (λ t. first_leaf f new up + part_leaves f t k) here ∙ (ap (λ i. first_leaf f new up + i) (pair_leaves k) ∙ ap (λ i. i + before_part f (part_number c (cond (k == 0) f.args.first f.args.second))) (first_whole up q))

  -- ---- below the block

  spaces_fit : fits f.args.tiler f.one.space f.two.space f.args.block ≡ true
  spaces_fit = tiler_fits_spaces f h.formed

  one_shape : IsShape f.one.space
  one_shape = (task_within m first_at.part_is.task (tasks.Repeated f.one) h.sound first_at.leads).space

  -- the repetition that the proposed tiler gives is one of the first part
  pub block_inside : (r q : List ℕ) → IsPointOf f.two.space r → IsPointOf f.args.block q → IsPointOf f.one.space (address_point f.args.tiler f.one.space r q)
  block_inside r q hr hq = address_inside f.args.tiler f.one.space f.two.space f.args.block r q spaces_fit one_shape

  first_step : (up : Node) (b : Branch) (t' : Task) → AtWhole f h up → HasSpaces new up → node_task new (ToPart 0 ∷ ToBody f.two.space ∷ up) ≡ Some (block_task f h) → node_task new (ToBody f.two.space ∷ up) ≡ Some (pair_task f h)
      → HasSpaces new (b ∷ ToPart 0 ∷ ToBody f.two.space ∷ up) → node_task new (b ∷ ToPart 0 ∷ ToBody f.two.space ∷ up) ≡ Some t' → Comes f h (b ∷ ToPart 0 ∷ ToBody f.two.space ∷ up)
  first_step up (ToPart k) t' q spaces here pair all e = let clash : None ≡ Some t' = sym (ap (option_and_then (λ t. task_under new t (ToPart k))) here) ∙ e in absurd (cc)
  first_step up (ToBody s) t' q spaces here pair all e =
      let both : Some (tasks.Repeated all.0.0) ≡ Some (block_task f h) = sym all.0.1 ∙ here in
      let space : s ≡ f.args.block = all.0.2 ∙ space_of all.0.0 both in
      let u : Task = first_inner f h in
      let found_u : task_named m.tasks f.one.task ≡ Some u = found_first f h (before f h) (rest f h) (place f h) (split f h) (holds f h) in
      let number : ℕ = part_number c f.args.first in
      let part = first_at in
      let named : task_named m.tasks f.one.name ≡ Some (tasks.Repeated f.one) = found_name m part.part_is.task (tasks.Repeated f.one) part.leads in
      let at_one : node_task m (ToPart number ∷ q.old_up) ≡ Some (tasks.Repeated f.one) = under_part f h q.old_up c number part.part_is (tasks.Repeated f.one) q.above.old.at part.at part.leads in
      let low_one : Enough m.tasks part.part_is.task (compound_number f h) =
      under_compound f h part.part_is.task (tasks.Repeated f.one) (map_among (λ (p : Part). p.task) c.parts part.part_is (get_among c.parts number part.part_is part.at)) part.leads in
      let low_named : Enough m.tasks f.one.name (compound_number f h) = subst (λ z. Enough m.tasks z (compound_number f h)) (sym (own_name m.tasks part.part_is.task (tasks.Repeated f.one) part.leads)) low_one in
      let low_u : Enough m.tasks f.one.task (compound_number f h) = lower f h f.one.name f.one.task (tasks.Repeated f.one) u (compound_number f h) named (0, (omega arith, refl)) found_u low_named in
      in_block (ToBody f.one.space ∷ ToPart number ∷ q.old_up) u
      (record {
        old = record {
          at = ap (option_and_then (λ t. task_under m t (ToBody f.one.space))) at_one ∙ found_u;
          now_at = ap (option_and_then (λ t. task_under new t (ToBody s))) here ∙ now_is f h f.one.task u found_u;
          spaces = ((f.one, at_one, refl), q.above.old.spaces);
          new_spaces = all;
          leaves = body_leaf f h (ToPart 0 ∷ ToBody f.two.space ∷ up) (ToPart number ∷ q.old_up) f.one u named
              (part_leaf f h q.up q.old_up c number 0 part.part_is (tasks.Repeated f.one) h.compound q.above.old.leaves part.at part.leads (ToPart 0 ∷ ToBody f.two.space ∷ up) (first_inside up q 0 pair)) found_u
              (ToBody s ∷ ToPart 0 ∷ ToBody f.two.space ∷ up) refl;
        };
        low = subst (λ z. Enough m.tasks z (compound_number f h)) (sym (own_name m.tasks f.one.task u found_u)) low_u;
        front = space_around q.old_up;
        rest = [];
        around = ap (λ z. space_around q.old_up ++ z) (sym (append-nil f.one.space));
        new_around = append_assoc (space_around up) f.two.space s
            ∙ (ap (λ z. z ++ (f.two.space ++ s)) (whole_around up q) ∙ ap (λ z. space_around q.old_up ++ (f.two.space ++ z)) (space ∙ sym (append-nil f.args.block)));
        some = before_named new n.block (ToBody s) (ToPart 0 ∷ ToBody f.two.space ∷ up) (block_task f h) here (same-self n.block) ∙ ap (λ z. Some (length (z ++ f.two.space))) (whole_around up q);
        from = from_block space;
      })
    where
      space_of : (r : Repeated) → Some (tasks.Repeated r) ≡ Some (block_task f h) → r.space ≡ f.args.block
      space_of r g = let is : r ≡ block_of f h = cc in ap (λ (z : Repeated). z.space) is

      from_block : s ≡ f.args.block → (a o b r : List ℕ) → IsPointOf (space_around q.old_up) a → IsPointOf f.two.space o → IsPointOf f.args.block b → IsPointOf [] r
          → back_to (place_on (ToBody s ∷ ToPart 0 ∷ ToBody f.two.space ∷ up) (a ++ (o ++ (b ++ r)))) ≡ place_on (ToBody f.one.space ∷ ToPart (part_number c f.args.first) ∷ q.old_up) (a ++ (address_point f.args.tiler f.one.space o b ++ r))
      from_block space a o b [] ha ho hb hr =
          let node' : Node = ToPart 0 ∷ ToBody f.two.space ∷ up in
          let t : List ℕ = address_point f.args.tiler f.one.space o b in
          let inside : IsPointOf f.one.space t = address_inside f.args.tiler f.one.space f.two.space f.args.block o b spaces_fit one_shape in
          let b_is : IsPointOf s b = subst (λ z. IsPointOf z b) (sym space) hb in
          let there_at : IsPointOf (space_around up ++ f.two.space) (a ++ o) = point_both (space_around up) f.two.space a o (subst (λ z. IsPointOf z a) (sym (whole_around up q)) ha) ho in
          let name : is_named (name_at new (place_on node' (a ++ o))) n.block ≡ true = ap (λ z. is_named z n.block) (name_there f h node' (block_task f h) (a ++ o) (pair_spaces up q spaces) here there_at) ∙ same-self n.block in
          ap (λ z. back_to (place_on (ToBody s ∷ node') (a ++ (o ++ z)))) (append-nil b)
          ∙ (ap (λ z. back_to (place_on (ToBody s ∷ node') z)) (sym (append_assoc a o b))
          ∙ (ap back_to (place_in_body s node' (a ++ o) b b_is)
          ∙ (ap (λ d. cond d (unfuse_block f b (back_to (place_on node' (a ++ o)))) (cond (is_named (name_at new (place_on node' (a ++ o))) n.once) (unfuse_once (back_to (place_on node' (a ++ o)))) (IntoRepetition b ∷ back_to (place_on node' (a ++ o))))) name
          ∙ (ap (unfuse_block f b) (inside_pair up q 0 a o spaces pair ha ho)
          ∙ (sym (place_in_body f.one.space (ToPart (part_number c f.args.first) ∷ q.old_up) a t inside) ∙ ap (λ z. place_on (ToBody f.one.space ∷ ToPart (part_number c f.args.first) ∷ q.old_up) (a ++ z)) (sym (append-nil t)))))))
      from_block space a o b (i ∷ r) ha ho hb hr = absurd hr

  -- ---- below the run

  second_step : (up : Node) (b : Branch) (t' : Task) → AtWhole f h up → HasSpaces new up → node_task new (ToPart 1 ∷ ToBody f.two.space ∷ up) ≡ Some (once_task f h) → node_task new (ToBody f.two.space ∷ up) ≡ Some (pair_task f h)
      → HasSpaces new (b ∷ ToPart 1 ∷ ToBody f.two.space ∷ up) → node_task new (b ∷ ToPart 1 ∷ ToBody f.two.space ∷ up) ≡ Some t' → Comes f h (b ∷ ToPart 1 ∷ ToBody f.two.space ∷ up)
  second_step up (ToPart k) t' q spaces here pair all e = let clash : None ≡ Some t' = sym (ap (option_and_then (λ t. task_under new t (ToPart k))) here) ∙ e in absurd (cc)
  second_step up (ToBody s) t' q spaces here pair all e =
      let both : Some (tasks.Repeated all.0.0) ≡ Some (once_task f h) = sym all.0.1 ∙ here in
      let space : s ≡ [] = all.0.2 ∙ space_of all.0.0 both in
      let v : Task = second_inner f h in
      let found_v : task_named m.tasks f.two.task ≡ Some v = found_second f h (before f h) (rest f h) (place f h) (split f h) (holds f h) in
      let number : ℕ = part_number c f.args.second in
      let part = second_at in
      let named : task_named m.tasks f.two.name ≡ Some (tasks.Repeated f.two) = found_name m part.part_is.task (tasks.Repeated f.two) part.leads in
      let at_two : node_task m (ToPart number ∷ q.old_up) ≡ Some (tasks.Repeated f.two) = under_part f h q.old_up c number part.part_is (tasks.Repeated f.two) q.above.old.at part.at part.leads in
      as_old (ToBody f.two.space ∷ ToPart number ∷ q.old_up) v
      (record {
        old = record {
          at = ap (option_and_then (λ t. task_under m t (ToBody f.two.space))) at_two ∙ found_v;
          now_at = ap (option_and_then (λ t. task_under new t (ToBody s))) here ∙ now_is f h f.two.task v found_v;
          spaces = ((f.two, at_two, refl), q.above.old.spaces);
          new_spaces = all;
          leaves = body_leaf f h (ToPart 1 ∷ ToBody f.two.space ∷ up) (ToPart number ∷ q.old_up) f.two v named
              (part_leaf f h q.up q.old_up c number 1 part.part_is (tasks.Repeated f.two) h.compound q.above.old.leaves part.at part.leads (ToPart 1 ∷ ToBody f.two.space ∷ up) (first_inside up q 1 pair)) found_v
              (ToBody s ∷ ToPart 1 ∷ ToBody f.two.space ∷ up) refl;
        };
        around = ap (λ z. (space_around up ++ f.two.space) ++ z) space ∙ (append-nil (space_around up ++ f.two.space) ∙ ap (λ z. z ++ f.two.space) (whole_around up q));
        none = before_other new n.block (ToBody s) (ToPart 1 ∷ ToBody f.two.space ∷ up) (once_task f h) here apart.once_block
            ∙ (before_other new n.block (ToPart 1) (ToBody f.two.space ∷ up) (pair_task f h) pair apart.pair_block
            ∙ (before_other new n.block (ToBody f.two.space) up (whole_task f h) q.task apart.whole_block
            ∙ (ap (entries_before new n.block) q.is ∙ (before_other new n.block (ToPart q.number) q.up (changed_task f h) (changed_at q.up q.old_up q.above) (other_name n.block c.name own_old.block) ∙ q.above.none))));
        from = from_run space;
      })
    where
      space_of : (r : Repeated) → Some (tasks.Repeated r) ≡ Some (once_task f h) → r.space ≡ []
      space_of r g = let is : r ≡ once_of f h = cc in ap (λ (z : Repeated). z.space) is

      from_run : s ≡ [] → (at : List ℕ) → IsPointOf (space_around q.old_up ++ f.two.space) at
          → back_to (place_on (ToBody s ∷ ToPart 1 ∷ ToBody f.two.space ∷ up) at) ≡ place_on (ToBody f.two.space ∷ ToPart (part_number c f.args.second) ∷ q.old_up) at
      from_run space at inside =
          let node' : Node = ToPart 1 ∷ ToBody f.two.space ∷ up in
          let z = point_split (space_around q.old_up) f.two.space at inside in
          let empty : IsPointOf s [] = subst (λ k. IsPointOf k []) (sym space) tt in
          let there_at : IsPointOf (space_around up ++ f.two.space) (z.0 ++ z.1) = point_both (space_around up) f.two.space z.0 z.1 (subst (λ k. IsPointOf k z.0) (sym (whole_around up q)) z.3) z.4 in
          let name = name_there f h node' (once_task f h) (z.0 ++ z.1) (pair_spaces up q spaces) here there_at in
          ap (λ k. back_to (place_on (ToBody s ∷ node') k)) (z.2 ∙ sym (append-nil (z.0 ++ z.1)))
          ∙ (ap back_to (place_in_body s node' (z.0 ++ z.1) [] empty)
          ∙ (ap (λ d. cond d (unfuse_block f [] (back_to (place_on node' (z.0 ++ z.1)))) (cond (is_named (name_at new (place_on node' (z.0 ++ z.1))) n.once) (unfuse_once (back_to (place_on node' (z.0 ++ z.1)))) (IntoRepetition [] ∷ back_to (place_on node' (z.0 ++ z.1)))))
          (ap (λ k. is_named k n.block) name ∙ apart.once_block)
          ∙ (ap (λ d. cond d (unfuse_once (back_to (place_on node' (z.0 ++ z.1)))) (IntoRepetition [] ∷ back_to (place_on node' (z.0 ++ z.1)))) (ap (λ k. is_named k n.once) name ∙ same-self n.once)
          ∙ (ap unfuse_once (inside_pair up q 1 z.0 z.1 spaces pair z.3 z.4)
          ∙ (sym (place_in_body f.two.space (ToPart (part_number c f.args.second) ∷ q.old_up) z.0 z.1 z.4) ∙ ap (place_on (ToBody f.two.space ∷ ToPart (part_number c f.args.second) ∷ q.old_up)) (sym z.2))))))

  -- ---- all nodes

  same_task : (t u : Task) → Some t ≡ Some u → t ≡ u
  same_task t u e = cc

  -- below a node that comes from an old one in the same place
  old_step : (up node : Node) (t : Task) (b : Branch) (t' : Task) → AsOld f h up node t → HasSpaces new (b ∷ up) → node_task new (b ∷ up) ≡ Some t' → Comes f h (b ∷ up)
  old_step up node t b t' o spaces e = by_name (same (task_name t) c.name) refl
    where
      by_name : (d : Bool) → same (task_name t) c.name ≡ d → Comes f h (b ∷ up)
      by_name true g =
          let is = is_compound f h t (node_named m node t o.old.at) g in
          compound b e (subst (AsOld f h up node) is o)
        where
          compound : (b : Branch) → node_task new (b ∷ up) ≡ Some t' → AsOld f h up node (tasks.Compound c) → Comes f h (b ∷ up)
          compound (ToPart k) e o = compound_step up node k t' o e
          compound (ToBody s) e o = let clash : None ≡ Some t' = sym (ap (option_and_then (λ x. task_under new x (ToBody s))) (changed_at up node o)) ∙ e in absurd (cc)
      by_name false g = by_kind t o (o.old.now_at ∙ ap (λ x. Some x) (now_other f h t g)) b spaces e g
        where
          by_kind : (t : Task) → AsOld f h up node t → node_task new up ≡ Some t → (b : Branch) → HasSpaces new (b ∷ up) → node_task new (b ∷ up) ≡ Some t' → same (task_name t) c.name ≡ false → Comes f h (b ∷ up)
          by_kind (tasks.Elementary x) o here b spaces e g = let clash : None ≡ Some t' = sym (ap (option_and_then (λ y. task_under new y b)) here) ∙ e in absurd (cc)
          by_kind (tasks.Compound x) o here (ToBody s) spaces e g = let clash : None ≡ Some t' = sym (ap (option_and_then (λ y. task_under new y (ToBody s))) here) ∙ e in absurd (cc)
          by_kind (tasks.Compound x) o here (ToPart k) spaces e g =
              let p = and_then_some (λ (q : Part). task_named new.tasks q.task) (slice_get x.parts k) t' (sym (ap (option_and_then (λ y. task_under new y (ToPart k))) here) ∙ e) in
              let v = inner_there m h.sound.shapes x.name p.0.task (tasks.Compound x) (node_named m node (tasks.Compound x) o.old.at) (map_among (λ (q : Part). q.task) x.parts p.0 (get_among x.parts k p.0 p.1)) in
              let down : node_task new (ToPart k ∷ up) ≡ Some (now f h v.0) =
              ap (option_and_then (λ y. task_under new y (ToPart k))) here ∙ (ap (option_and_then (λ (q : Part). task_named new.tasks q.task)) p.1 ∙ now_is f h p.0.task v.0 v.1) in
              as_old (ToPart k ∷ node) v.0 (as_old_part f h up node x k p.0 v.0 g o p.1 v.1 down)
          by_kind (tasks.Repeated r) o here (ToPart k) spaces e g = let clash : None ≡ Some t' = sym (ap (option_and_then (λ y. task_under new y (ToPart k))) here) ∙ e in absurd (cc)
          by_kind (tasks.Repeated r) o here (ToBody s) spaces e g =
              let both : Some (tasks.Repeated spaces.0.0) ≡ Some (tasks.Repeated r) = sym spaces.0.1 ∙ here in
              let space : s ≡ r.space = spaces.0.2 ∙ space_of spaces.0.0 r both in
              let v = inner_there m h.sound.shapes r.name r.task (tasks.Repeated r) (node_named m node (tasks.Repeated r) o.old.at) (0, (omega arith, refl)) in
              let down : node_task new (ToBody r.space ∷ up) ≡ Some (now f h v.0) = ap (option_and_then (λ y. task_under new y (ToBody r.space))) here ∙ now_is f h r.task v.0 v.1 in
              subst (λ z. Comes f h (ToBody z ∷ up)) (sym space) (as_old (ToBody r.space ∷ node) v.0 (as_old_body f h up node r v.0 o g v.1 down))
            where
              space_of : (x y : Repeated) → Some (tasks.Repeated x) ≡ Some (tasks.Repeated y) → x.space ≡ y.space
              space_of x y k = let is : x ≡ y = cc in ap (λ (z : Repeated). z.space) is

  -- below one in a block
  block_step : (up node : Node) (t : Task) (b : Branch) (t' : Task) → InBlock f h up node t → HasSpaces new (b ∷ up) → node_task new (b ∷ up) ≡ Some t' → Comes f h (b ∷ up)
  block_step up node t b t' o spaces e = by_kind t o (o.old.now_at ∙ ap (λ x. Some x) (now_other f h t (low_apart f h (task_name t) o.low))) b spaces e
    where
      by_kind : (t : Task) → InBlock f h up node t → node_task new up ≡ Some t → (b : Branch) → HasSpaces new (b ∷ up) → node_task new (b ∷ up) ≡ Some t' → Comes f h (b ∷ up)
      by_kind (tasks.Elementary x) o here b spaces e = let clash : None ≡ Some t' = sym (ap (option_and_then (λ y. task_under new y b)) here) ∙ e in absurd (cc)
      by_kind (tasks.Compound x) o here (ToBody s) spaces e = let clash : None ≡ Some t' = sym (ap (option_and_then (λ y. task_under new y (ToBody s))) here) ∙ e in absurd (cc)
      by_kind (tasks.Compound x) o here (ToPart k) spaces e =
          let p = and_then_some (λ (q : Part). task_named new.tasks q.task) (slice_get x.parts k) t' (sym (ap (option_and_then (λ y. task_under new y (ToPart k))) here) ∙ e) in
          let v = inner_there m h.sound.shapes x.name p.0.task (tasks.Compound x) (node_named m node (tasks.Compound x) o.old.at) (map_among (λ (q : Part). q.task) x.parts p.0 (get_among x.parts k p.0 p.1)) in
          let down : node_task new (ToPart k ∷ up) ≡ Some (now f h v.0) =
          ap (option_and_then (λ y. task_under new y (ToPart k))) here ∙ (ap (option_and_then (λ (q : Part). task_named new.tasks q.task)) p.1 ∙ now_is f h p.0.task v.0 v.1) in
          in_block (ToPart k ∷ node) v.0 (in_block_part f h up node x k p.0 v.0 o p.1 v.1 down)
      by_kind (tasks.Repeated r) o here (ToPart k) spaces e = let clash : None ≡ Some t' = sym (ap (option_and_then (λ y. task_under new y (ToPart k))) here) ∙ e in absurd (cc)
      by_kind (tasks.Repeated r) o here (ToBody s) spaces e =
          let both : Some (tasks.Repeated spaces.0.0) ≡ Some (tasks.Repeated r) = sym spaces.0.1 ∙ here in
          let space : s ≡ r.space = spaces.0.2 ∙ space_of spaces.0.0 r both in
          let v = inner_there m h.sound.shapes r.name r.task (tasks.Repeated r) (node_named m node (tasks.Repeated r) o.old.at) (0, (omega arith, refl)) in
          let down : node_task new (ToBody r.space ∷ up) ≡ Some (now f h v.0) = ap (option_and_then (λ y. task_under new y (ToBody r.space))) here ∙ now_is f h r.task v.0 v.1 in
          subst (λ z. Comes f h (ToBody z ∷ up)) (sym space) (in_block (ToBody r.space ∷ node) v.0 (in_block_body f h up node r v.0 o v.1 down))
        where
          space_of : (x y : Repeated) → Some (tasks.Repeated x) ≡ Some (tasks.Repeated y) → x.space ≡ y.space
          space_of x y k = let is : x ≡ y = cc in ap (λ (z : Repeated). z.space) is

  step : (up : Node) (b : Branch) (t' : Task) → Comes f h up → HasSpaces new (b ∷ up) → node_task new (b ∷ up) ≡ Some t' → Comes f h (b ∷ up)
  step up b t' (as_old node t o) spaces e = old_step up node t b t' o spaces e
  step up b t' (in_block node t o) spaces e = block_step up node t b t' o spaces e
  step up b t' (at_whole q) spaces e = whole_step up b t' q spaces e
  step up b t' (at_pair top q top_spaces is here) spaces e =
      subst (λ z. Comes f h (b ∷ z)) (sym is) (pair_step top b t' q top_spaces (ap (node_task new) (sym is) ∙ here) (ap (λ z. node_task new (b ∷ z)) (sym is) ∙ e))
  step up b t' (at_first top q top_spaces is here) spaces e =
      let pair : node_task new (ToBody f.two.space ∷ top) ≡ Some (pair_task f h) = ap (option_and_then (λ t. task_under new t (ToBody f.two.space))) q.task ∙ pair_found f h in
      subst (λ z. Comes f h (b ∷ z)) (sym is)
      (first_step top b t' q top_spaces (ap (node_task new) (sym is) ∙ here) pair (subst (λ z. HasSpaces new (b ∷ z)) is spaces) (ap (λ z. node_task new (b ∷ z)) (sym is) ∙ e))
  step up b t' (at_second top q top_spaces is here) spaces e =
      let pair : node_task new (ToBody f.two.space ∷ top) ≡ Some (pair_task f h) = ap (option_and_then (λ t. task_under new t (ToBody f.two.space))) q.task ∙ pair_found f h in
      subst (λ z. Comes f h (b ∷ z)) (sym is)
      (second_step top b t' q top_spaces (ap (node_task new) (sym is) ∙ here) pair (subst (λ z. HasSpaces new (b ∷ z)) is spaces) (ap (λ z. node_task new (b ∷ z)) (sym is) ∙ e))

  pub comes : (node' : Node) (t' : Task) → HasSpaces new node' → node_task new node' ≡ Some t' → Comes f h node'
  comes [] t' spaces e = let t = there (main_task m) (main_there m h.sound.shapes) in as_old [] t.0 (root f h t.0 t.1)
  comes (b ∷ up) t' spaces e =
      let v = and_then_some (λ t. task_under new t b) (node_task new up) t' e in
      step up b t' (comes up v.0 (spaces_up new b up spaces) v.1) spaces e
