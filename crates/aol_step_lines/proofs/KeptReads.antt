-- A model that keeps another keeps each of its reads.
use Rattle.std.proofs.Common.{◌≡◌, ℕ, zero, suc, ◌+◌, List, [], ◌∷◌, flat_map, Option, Some, slice_get, option_and_then, sym, ◌∙◌, ap, arith, inl, inr, subst}
use Rattle.std.specs.Prelude.{slice_index}
use Rattle.std.specs.List.{IsAmong, enumerate_from}
use Rattle.std.proofs.lemmas.Option.{slice_get_within}
use Rattle.aol_model_types.specs.declared.document.Model.{Model}
use Rattle.aol_flat.specs.Accept.{IsSound}
use Rattle.aol_flat.specs.Instance.{Instance, instances, places_of_sizes, port_sizes, read_sizes, read_elements}
use Rattle.aol_flat.specs.Keep.{AreAlike, old_read, Keeps, reading_before, ReadingIsKept, SameEnd}
use Rattle.aol_flat.specs.Laid.{main_output_elements}
use Rattle.aol_flat.specs.Place.{Element}
use Rattle.aol_flat.specs.Reads.{Reading, instance_readings, main_readings, readings}
use Rattle.aol_flat.specs.Tasks.{main_outputs}
use Rattle.aol_flat.specs.declared.view.Reader.{Reader}
use Rattle.aol_flat.specs.declared.view.Reader.TheVariants.{Instance as ByInstance, Main}
use Rattle.aol_flat.proofs.Among.{among_append, among_flat_map, among_get, get_among}
use Rattle.aol_flat.proofs.Inside.{number_of_member}
use Rattle.aol_assign.proofs.HolesTold.{instance_aligned, main_aligned}
use Rattle.aol_assign.proofs.ListedCopies.{listed_of}
use Rattle.aol_assign.proofs.ReadingPlaces.{Aligned, aligned_element}

-- a reading of a list that is lined up: its reader, and its element among those read
record StandsIn (who : Reader) (es : List Element) (r : Reading) : Type 0 where
  by : r.reader ≡ who
  there : IsAmong es r.element

reader_is : (who : Reader) (rs : List Reading) (ps : List (ℕ × ℕ)) (es : List Element) → Aligned who rs ps es → (n : ℕ) (r : Reading) → slice_get rs n ≡ Some r → r.reader ≡ who
reader_is who [] ps es a n r h = cc
reader_is who (s ∷ rs) [] es a n r h = absurd a
reader_is who (s ∷ rs) (q ∷ ps) [] a n r h = absurd a
reader_is who (s ∷ rs) (q ∷ ps) (x ∷ es) a zero r h = let f : r ≡ s = cc in ap (λ (y : Reading). y.reader) f ∙ ap (λ (y : Reading). y.reader) a.0
reader_is who (s ∷ rs) (q ∷ ps) (x ∷ es) a (suc n) r h = reader_is who rs ps es a.1 n r h

stands : (who : Reader) (rs : List Reading) (ps : List (ℕ × ℕ)) (es : List Element) → Aligned who rs ps es → (r : Reading) → IsAmong rs r → StandsIn who es r
stands who rs ps es line r a =
    let at = among_get rs a.0 r a.1.0 a.1.1 in
    record { by = reader_is who rs ps es line a.0 r at; there = get_among es a.0 r.element (aligned_element who rs ps es line a.0 r at) }

module _ (old new : Model) (old_of : List ℕ) (sound : IsSound new) (alike : AreAlike old new old_of) (keeps : Keeps old new old_of) where
  abbrev pub IsKept : Reading → Type 0
  IsKept r = ReadingIsKept old new old_of r

  by_instance : (j : ℕ) (i : Instance) → slice_get (instances new) j ≡ Some i → (r : Reading) → IsAmong (instance_readings new (j, i)) r → IsKept r
  by_instance j i at r a =
      let s = stands (ByInstance j) (instance_readings new (j, i)) (places_of_sizes 0 (read_sizes new i)) (read_elements new i) (instance_aligned new j i (listed_of new sound j i at)) r a in
      let kind = alike.kinds j (slice_get_within (instances new) j i at) in
      λ q before.
      let read : reading_before old old_of r ≡ old_read old kind.old_instance r.element =
      ap (λ w. reading_before old old_of (record { reader = w; port = r.port; rank = r.rank; element = r.element })) s.by ∙ ap (option_and_then (λ x. old_read old x r.element)) kind.at_old in
      keeps.reads j i kind.old_instance at kind.at_old r.element q s.there (sym read ∙ before)

  by_main : (r : Reading) → IsAmong (main_readings new) r → IsKept r
  by_main r a =
      let s = stands Main (main_readings new) (places_of_sizes 0 (port_sizes (main_outputs new))) (main_output_elements new) (main_aligned new) r a in
      λ q before.
      let read : reading_before old old_of r ≡ Some r.element = ap (λ w. reading_before old old_of (record { reader = w; port = r.port; rank = r.rank; element = r.element })) s.by in
      let both : Some r.element ≡ Some q = sym read ∙ before in
      let one : r.element ≡ q = cc in
      let P : Element → Type 0 = λ x. SameEnd old new old_of r.element x in
      subst P one (keeps.main_outputs r.element s.there)

  -- each read is kept
  pub all_kept : (r : Reading) → IsAmong (readings new) r → IsKept r
  all_kept r a =
      elim (among_append (flat_map (instance_readings new) (enumerate_from 0 (instances new))) (main_readings new) r a) [
        | inl b ↦
            let i = among_flat_map (instance_readings new) (enumerate_from 0 (instances new)) r b in
            let n = number_of_member (instances new) 0 i.0 i.1 in
            let same : 0 + n.0 ≡ n.0 = omega arith in
            by_instance i.0.0 i.0.1 (ap (slice_get (instances new)) (n.1 ∙ same) ∙ n.2) r i.2
        | inr b ↦ by_main r b
      ]
