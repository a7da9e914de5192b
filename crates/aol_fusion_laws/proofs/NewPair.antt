-- The rules of the block and the run, side by side, hold.
use Rattle.std.proofs.Common.{◌≡◌, ℕ, zero, suc, ◌+◌, ◌<◌, ◌^◌, true, false, ◌&&◌, ◌||◌, ◌==◌, List, [], ◌∷◌, ◌++◌, length, codes, Option, Some, None, is_some, unwrap_or, option_map, sym, ◌∙◌, ap, refl, arith, subst, ◌⊎◌, inl, inr}
use Rattle.std.specs.List.{IsAmong, list_all, count_by}
use Rattle.std.proofs.lemmas.List.{append-nil, length-append}
use Rattle.aol_expr_tree.specs.declared.port.Port.{Port}
use Rattle.aol_model_types.specs.declared.job.Pick.{Pick}
use Rattle.aol_model_types.specs.declared.place.Key.TheVariants.{KIn, KOut, KLinks}
use Rattle.aol_model_types.specs.declared.place.PlaceStep.{PlaceStep}
use Rattle.aol_model_types.specs.declared.task.Compound.{Compound}
use Rattle.aol_model_types.specs.declared.task.Hook.{Hook}
use Rattle.aol_model_types.specs.declared.task.Plain.{Plain}
use Rattle.aol_model_types.specs.declared.task.Task.{Task}
use Rattle.aol_model_types.specs.Places.{to_key}
use Rattle.aol_model_types.specs.Rules.{each, task_named, inputs_of, outputs_of, inputs_named, port_shape, plain_checks, from_shape, to_shape, same_shapes, gives, takes, meets_part, joins_equal, hands_up_once, is_fed, output_is_fed, is_earlier_task}
use Rattle.aol_flat.proofs.Among.{among_append}
use Rattle.aol_flat.proofs.Checked.{HoldsOfCompound, output_fed_checks}
use Rattle.aol_flat.proofs.Different.{Hold}
use Rattle.aol_flat.proofs.Inside.{among_left, among_right}
use Rattle.aol_flat.proofs.Names.{same-self}
use Rattle.aol_flat.proofs.Truth.{both}
use Rattle.aol_change.proofs.Checks.{each-all}
use Rattle.aol_change.proofs.KindChecks.{hold-one}
use Rattle.aol_change.specs.declared.tasks.Side.TheVariants.{Inputs, Outputs}
use Rattle.aol_fusion_parts.specs.declared.ports.FusedNames.{FusedNames}
use Rattle.aol_fusion_parts.specs.Joined.{pick_to}
use Rattle.aol_fusion_parts.specs.Made.{own_end, part_end, links_in, links_out, pick_link, pick_links, pair_of_both}
use Rattle.aol_fusion_parts.specs.Ports.{port_name, renamed}
use Rattle.aol_fusion_laws.proofs.Fresh.{AreFresh, names_of, fresh_own, fresh_parts, fresh_ports, once_there, name_listed}
use Rattle.aol_fusion_laws.proofs.PairLinks.{leads_to, named, count_both, count_in, none_in, count_out, none_out, count_pick, none_pick, up_all, up_once}
use Rattle.aol_fusion_laws.proofs.Renamed.{both_renamed_fresh, renamed_both}
use Rattle.aol_fusion_laws.proofs.Wired.{among_split}

-- ---- what stands in the lists of links

pub record InLink (part : List ℕ) (k : ℕ) (ports : List Port) (l : Plain) : Type 0 where
  pub port : Port
  pub listed : IsAmong ports port
  pub own : Port
  pub own_listed : IsAmong (renamed Inputs k ports) own
  pub shape : own.shape ≡ port.shape
  pub is : l ≡ record { from = own_end own.name; to = part_end part port.name }

in_link : (part : List ℕ) (k : ℕ) (ports : List Port) (l : Plain) → IsAmong (links_in part k ports) l → InLink part k ports l
in_link part k [] l a = absurd (omega (arith, a.1.0))
in_link part k (p ∷ ports) l (zero, a) = record { port = p; listed = (0, (omega arith, refl)); own = record { name = port_name Inputs k; shape = p.shape }; own_listed = (0, (omega arith, refl)); shape = refl; is = a.1 }
in_link part k (p ∷ ports) l (suc i, a) =
    let r = in_link part (k + 1) ports l (i, (omega (arith, a.0), a.1)) in
    record { port = r.port; listed = (suc r.listed.0, (omega (arith, r.listed.1.0), r.listed.1.1)); own = r.own; own_listed = (suc r.own_listed.0, (omega (arith, r.own_listed.1.0), r.own_listed.1.1)); shape = r.shape; is = r.is }

pub record OutLink (k : ℕ) (ports : List Port) (l : Plain) : Type 0 where
  pub port : Port
  pub listed : IsAmong ports port
  pub own : Port
  pub own_listed : IsAmong (renamed Outputs k ports) own
  pub shape : own.shape ≡ port.shape
  pub is : l ≡ record { from = part_end (codes "second") port.name; to = own_end own.name }

out_link : (k : ℕ) (ports : List Port) (l : Plain) → IsAmong (links_out k ports) l → OutLink k ports l
out_link k [] l a = absurd (omega (arith, a.1.0))
out_link k (p ∷ ports) l (zero, a) = record { port = p; listed = (0, (omega arith, refl)); own = record { name = port_name Outputs k; shape = p.shape }; own_listed = (0, (omega arith, refl)); shape = refl; is = a.1 }
out_link k (p ∷ ports) l (suc i, a) =
    let r = out_link (k + 1) ports l (i, (omega (arith, a.0), a.1)) in
    record { port = r.port; listed = (suc r.listed.0, (omega (arith, r.listed.1.0), r.listed.1.1)); own = r.own; own_listed = (suc r.own_listed.0, (omega (arith, r.own_listed.1.0), r.own_listed.1.1)); shape = r.shape; is = r.is }

pub record PickedLink (picks : List Pick) (ports : List Port) (l : Plain) : Type 0 where
  pub port : Port
  pub listed : IsAmong ports port
  pub pick : Pick
  pub found : pick_to picks port.name ≡ Some pick
  pub is : l ≡ record { from = part_end (codes "first") pick.from; to = part_end (codes "second") port.name }

picked_link : (picks : List Pick) (ports : List Port) (l : Plain) → IsAmong (pick_links picks ports) l → PickedLink picks ports l
picked_link picks [] l a = absurd (omega (arith, a.1.0))
picked_link picks (p ∷ ports) l a = go (pick_to picks p.name) refl a (λ b. later (picked_link picks ports l b))
  where
    later : PickedLink picks ports l → PickedLink picks (p ∷ ports) l
    later r = record { port = r.port; listed = (suc r.listed.0, (omega (arith, r.listed.1.0), r.listed.1.1)); pick = r.pick; found = r.found; is = r.is }

    go : (o : Option Pick) → pick_to picks p.name ≡ o → IsAmong (pick_link p.name o ++ pick_links picks ports) l → (IsAmong (pick_links picks ports) l → PickedLink picks (p ∷ ports) l) → PickedLink picks (p ∷ ports) l
    go None e b rest = rest b
    go (Some k) e (zero, b) rest = record { port = p; listed = (0, (omega arith, refl)); pick = k; found = e; is = b.1 }
    go (Some k) e (suc i, b) rest = rest (i, (omega (arith, b.0), b.1))

-- ---- the pair

-- an input of the run takes a block of the output that its pick is from
pub record TakesPick (picks : List Pick) (z y : Task) (p : Port) : Type 0 where
  pub pick : Pick
  pub found : pick_to picks p.name ≡ Some pick
  pub shape : List ℕ
  pub source : port_shape (outputs_of z) pick.from ≡ Some shape
  pub sink : port_shape (inputs_of y) p.name ≡ Some shape

-- the ports of the block and of the run
pub record PairPorts (picks : List Pick) (block picked free outs : List Port) (z y : Task) : Type 0 where
  pub block_are : inputs_of z ≡ block
  pub outs_are : outputs_of y ≡ outs
  pub block_fresh : AreFresh [] (names_of block)
  pub outs_fresh : AreFresh [] (names_of outs)
  pub free_in : (p : Port) → IsAmong free p → port_shape (inputs_of y) p.name ≡ Some p.shape
  pub pick_in : (p : Port) → IsAmong picked p → TakesPick picks z y p
  pub each : (q : Port) → IsAmong (inputs_of y) q → count_by (named q.name) (names_of free) + count_by (named q.name) (names_of picked) ≡ 1
  pub few : length block + length free < 2 ^ 64
  pub few_out : length outs < 2 ^ 64

-- both ends of a link have one shape
pub record LinkFits (ts : List Task) (c : Compound) (l : Plain) : Type 0 where
  pub shape : List ℕ
  pub from : from_shape ts c l.from ≡ Some shape
  pub to : to_shape ts c l.to ≡ Some shape
  pub meets : meets_part l ≡ true

pub link_holds : (ts : List Task) (c : Compound) (p : List PlaceStep) (before : List Plain) (l : Plain) → LinkFits ts c l → hands_up_once before l ≡ true → Hold (plain_checks ts c p before l)
link_holds ts c p before l fits once =
    both (gives ts c l.from) _ (ap is_some fits.from)
    (both (takes ts c l.to) _ (ap is_some fits.to)
    (both (meets_part l) _ fits.meets
    (both (joins_equal ts c l) _ (ap (λ s. same_shapes s (to_shape ts c l.to)) fits.from ∙ (ap (same_shapes (Some fits.shape)) fits.to ∙ same-self fits.shape)) (both (hands_up_once before l) true once refl))))

module _ (ts : List Task) (n : FusedNames) (picks : List Pick) (block picked free outs : List Port) (z y : Task) (block_found : task_named ts n.block ≡ Some z) (once_found : task_named ts n.once ≡ Some y)
    (by : PairPorts picks block picked free outs z y) where
  abbrev pair : Compound
  pair = pair_of_both n picks block picked free outs

  abbrev in_ports : Option Task → List Port
  in_ports o = unwrap_or (option_map inputs_of o) []

  abbrev out_ports : Option Task → List Port
  out_ports o = unwrap_or (option_map outputs_of o) []

  own_fresh : AreFresh [] (names_of pair.ins ++ names_of pair.outs)
  own_fresh =
      let few = by.few in
      let small = by.few_out in
      both_renamed_fresh (block ++ free) outs (omega (arith, few, length-append block free)) (omega (arith, small))

  own_sides : AreFresh [] (names_of pair.ins) × AreFresh (names_of pair.ins) (names_of pair.outs)
  own_sides = fresh_parts [] (names_of pair.ins) (names_of pair.outs) own_fresh

  -- shapes at the ends
  to_first : (m s : List ℕ) → port_shape block m ≡ Some s → to_shape ts pair (part_end (codes "first") m) ≡ Some s
  to_first m s h = ap (λ o. port_shape (in_ports o) m) block_found ∙ (ap (λ ps. port_shape ps m) by.block_are ∙ h)

  to_second : (m s : List ℕ) → port_shape (inputs_of y) m ≡ Some s → to_shape ts pair (part_end (codes "second") m) ≡ Some s
  to_second m s h = ap (λ o. port_shape (in_ports o) m) once_found ∙ h

  from_first : (m s : List ℕ) → port_shape (outputs_of z) m ≡ Some s → from_shape ts pair (part_end (codes "first") m) ≡ Some s
  from_first m s h = ap (λ o. port_shape (out_ports o) m) block_found ∙ h

  from_second : (m s : List ℕ) → port_shape outs m ≡ Some s → from_shape ts pair (part_end (codes "second") m) ≡ Some s
  from_second m s h = ap (λ o. port_shape (out_ports o) m) once_found ∙ (ap (λ ps. port_shape ps m) by.outs_are ∙ h)

  moved_fits : (l k : Plain) → l ≡ k → LinkFits ts pair k → LinkFits ts pair l
  moved_fits l k e h = let P : Plain → Type 0 = λ x. LinkFits ts pair x in subst P (sym e) h

  own_input : (q : Port) → IsAmong pair.ins q → port_shape pair.ins q.name ≡ Some q.shape
  own_input q a = fresh_own [] pair.ins q own_sides.0 a

  in_own : (q : Port) → IsAmong (renamed Inputs 0 block ++ renamed Inputs (length block) free) q → IsAmong pair.ins q
  in_own q a = let P : List Port → Type 0 = λ ps. IsAmong ps q in subst P (sym (renamed_both Inputs block free)) a

  -- each link fits
  fits_a : (l : Plain) → IsAmong (links_in (codes "first") 0 block) l → LinkFits ts pair l
  fits_a l a =
      let r = in_link (codes "first") 0 block l a in
      moved_fits l _ r.is
      (record {
        shape = r.port.shape;
        from = own_input r.own (in_own r.own (among_left (renamed Inputs 0 block) (renamed Inputs (length block) free) r.own r.own_listed)) ∙ ap (λ s. Some s) r.shape;
        to = to_first r.port.name r.port.shape (fresh_own [] block r.port by.block_fresh r.listed);
        meets = refl;
      })

  fits_b : (l : Plain) → IsAmong (links_in (codes "second") (length block) free) l → LinkFits ts pair l
  fits_b l a =
      let r = in_link (codes "second") (length block) free l a in
      moved_fits l _ r.is
      (record {
        shape = r.port.shape;
        from = own_input r.own (in_own r.own (among_right (renamed Inputs 0 block) (renamed Inputs (length block) free) r.own r.own_listed)) ∙ ap (λ s. Some s) r.shape;
        to = to_second r.port.name r.port.shape (by.free_in r.port r.listed);
        meets = refl;
      })

  same_pick : (j k : Pick) → Some j ≡ Some k → j ≡ k
  same_pick j k e = cc

  fits_c : (l : Plain) → IsAmong (pick_links picks picked) l → LinkFits ts pair l
  fits_c l a =
      let r = picked_link picks picked l a in
      let t = by.pick_in r.port r.listed in
      let one : r.pick ≡ t.pick = same_pick r.pick t.pick (sym r.found ∙ t.found) in
      moved_fits l _ r.is
      (record {
        shape = t.shape;
        from = from_first r.pick.from t.shape (ap (λ (k : Pick). port_shape (outputs_of z) k.from) one ∙ t.source);
        to = to_second r.port.name t.shape t.sink;
        meets = refl;
      })

  fits_d : (l : Plain) → IsAmong (links_out 0 outs) l → LinkFits ts pair l
  fits_d l a =
      let r = out_link 0 outs l a in
      moved_fits l _ r.is
      (record {
        shape = r.port.shape;
        from = from_second r.port.name r.port.shape (fresh_own [] outs r.port by.outs_fresh r.listed);
        to = fresh_own (names_of pair.ins) pair.outs r.own own_sides.1 r.own_listed ∙ ap (λ s. Some s) r.shape;
        meets = refl;
      })

  link_fits : (l : Plain) → IsAmong pair.links l → LinkFits ts pair l
  link_fits l a = by_d (among_append (links_in (codes "first") 0 block ++ links_in (codes "second") (length block) free ++ pick_links picks picked) (links_out 0 outs) l a)
    where
      by_b : IsAmong (links_in (codes "first") 0 block) l ⊎ IsAmong (links_in (codes "second") (length block) free) l → LinkFits ts pair l
      by_b (inl b) = fits_a l b
      by_b (inr b) = fits_b l b

      by_c : IsAmong (links_in (codes "first") 0 block ++ links_in (codes "second") (length block) free) l ⊎ IsAmong (pick_links picks picked) l → LinkFits ts pair l
      by_c (inl b) = by_b (among_append (links_in (codes "first") 0 block) (links_in (codes "second") (length block) free) l b)
      by_c (inr b) = fits_c l b

      by_d : IsAmong (links_in (codes "first") 0 block ++ links_in (codes "second") (length block) free ++ pick_links picks picked) l ⊎ IsAmong (links_out 0 outs) l → LinkFits ts pair l
      by_d (inl b) = by_c (among_append (links_in (codes "first") 0 block ++ links_in (codes "second") (length block) free) (pick_links picks picked) l b)
      by_d (inr b) = fits_d l b

  links_hold : (q : List PlaceStep) → Hold (each (plain_checks ts pair) q pair.links)
  links_hold q =
      each-all (plain_checks ts pair) q 0 [] pair.links
      (λ p b r l split.
      let P : List (List ℕ) → Type 0 = λ ns. AreFresh [] ns in
      link_holds ts pair p b l (link_fits l (among_split pair.links b r l split)) (up_once pair.links b r l (subst P (sym (up_all picks block picked free outs)) by.outs_fresh) split))

  -- ---- what is fed

  fed_by : (h : Hook) → count_by (leads_to h) pair.links ≡ 1 → is_fed pair h ≡ true
  fed_by h one = ap (λ m. (m == 1 && 0 == 0) || (m == 0 && false)) one

  counts : (h : Hook) → count_by (leads_to h) pair.links
      ≡ count_by (leads_to h) (links_in (codes "first") 0 block) + count_by (leads_to h) (links_in (codes "second") (length block) free) + count_by (leads_to h) (pick_links picks picked) + count_by (leads_to h) (links_out 0 outs)
  counts h =
      let a : List Plain = links_in (codes "first") 0 block in
      let b : List Plain = links_in (codes "second") (length block) free in
      let c : List Plain = pick_links picks picked in
      let d : List Plain = links_out 0 outs in
      omega (arith, count_both (leads_to h) (a ++ b ++ c) d, count_both (leads_to h) (a ++ b) c, count_both (leads_to h) a b)

  first_fed : (p : Port) → IsAmong block p → is_fed pair (part_end (codes "first") p.name) ≡ true
  first_fed p a =
      let h : Hook = part_end (codes "first") p.name in
      let one : count_by (leads_to h) (links_in (codes "first") 0 block) ≡ 1 = count_in (codes "first") 0 block p.name ∙ once_there p.name [] (names_of block) by.block_fresh (name_listed block p a) in
      fed_by h (omega (arith, counts h, one, none_in (codes "second") (length block) free h refl, none_pick picks picked h refl, none_out 0 outs (codes "first") p.name))

  picked_there : (p : Port) → IsAmong picked p → is_some (pick_to picks p.name) ≡ true
  picked_there p a = ap is_some (by.pick_in p a).found

  second_fed : (p : Port) → IsAmong (inputs_of y) p → is_fed pair (part_end (codes "second") p.name) ≡ true
  second_fed p a =
      let h : Hook = part_end (codes "second") p.name in
      let sum = by.each p a in
      fed_by h (omega (arith, counts h, sum, none_in (codes "first") 0 block h refl, count_in (codes "second") (length block) free p.name, count_pick picks picked p.name picked_there, none_out 0 outs (codes "second") p.name))

  out_fed : (q : Port) → IsAmong pair.outs q → is_fed pair (own_end q.name) ≡ true
  out_fed q a =
      let h : Hook = own_end q.name in
      let one : count_by (leads_to h) (links_out 0 outs) ≡ 1 = count_out 0 outs q.name ∙ once_there q.name (names_of pair.ins) (names_of pair.outs) own_sides.1 (name_listed pair.outs q a) in
      fed_by h (omega (arith, counts h, one, none_in (codes "first") 0 block h refl, none_in (codes "second") (length block) free h refl, none_pick picks picked h refl))

  all_fed : (part : List ℕ) (ps : List Port) → ((p : Port) → IsAmong ps p → is_fed pair (part_end part p.name) ≡ true) → list_all (λ (u : Port). is_fed pair (record { part = Some part; port = u.name })) ps ≡ true
  all_fed part [] each = refl
  all_fed part (p ∷ ps) each =
      both (is_fed pair (part_end part p.name)) (list_all (λ (u : Port). is_fed pair (record { part = Some part; port = u.name })) ps) (each p (0, (omega arith, refl)))
      (all_fed part ps (λ q a. each q (suc a.0, (omega (arith, a.1.0), a.1.1))))

  first_is_fed : list_all (λ (u : Port). is_fed pair (record { part = Some (codes "first"); port = u.name })) (inputs_named ts n.block) ≡ true
  first_is_fed =
      ap (λ o. list_all (λ (u : Port). is_fed pair (record { part = Some (codes "first"); port = u.name })) (in_ports o)) block_found
      ∙ (ap (list_all (λ (u : Port). is_fed pair (record { part = Some (codes "first"); port = u.name }))) by.block_are ∙ all_fed (codes "first") block first_fed)

  second_is_fed : list_all (λ (u : Port). is_fed pair (record { part = Some (codes "second"); port = u.name })) (inputs_named ts n.once) ≡ true
  second_is_fed = ap (λ o. list_all (λ (u : Port). is_fed pair (record { part = Some (codes "second"); port = u.name })) (in_ports o)) once_found ∙ all_fed (codes "second") (inputs_of y) second_fed

  -- all rules
  pub pair_holds : (q : List PlaceStep) → HoldsOfCompound ts q pair
  pair_holds q =
      let P : List Port → Type 0 = λ ps. AreFresh (names_of ps) (names_of pair.outs) in
      record {
        ins = fresh_ports [] [] pair.ins (to_key q KIn) 0 own_sides.0;
        outs = fresh_ports pair.ins [] pair.outs (to_key q KOut) 0 (subst P (sym (append-nil pair.ins)) own_sides.1);
        parts = both (is_earlier_task ts n.block) _ (ap is_some block_found) (both (is_earlier_task ts n.once) true (ap is_some once_found) refl);
        links = links_hold (to_key q KLinks);
        reshapes = refl;
        fed = both (list_all (λ (u : Port). is_fed pair (record { part = Some (codes "first"); port = u.name })) (inputs_named ts n.block)) _ first_is_fed
            (both (list_all (λ (u : Port). is_fed pair (record { part = Some (codes "second"); port = u.name })) (inputs_named ts n.once)) true second_is_fed refl);
        outs_fed = each-all (output_fed_checks pair) (to_key q KOut) 0 [] pair.outs (λ p b r x split. hold-one p 13 (output_is_fed pair x) (out_fed x (among_split pair.outs b r x split)));
      }
